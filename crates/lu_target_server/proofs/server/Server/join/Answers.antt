-- A life without an older one of its client, or one that takes its place.
use Rattle.std.proofs.Common.{◌≡◌, ◌==◌, nat_lt, false, [], ◌∷◌, Some, None, sym, ap, subst, ◌∙◌, arith}
use Rattle.std.specs.List.{list_any}
use Rattle.std.proofs.lemmas.Bool.Decides.{nat_tests}
use Rattle.std.proofs.lemmas.Result.{on_ok_weaker}
use Rattle.lu_base.specs.declared.ids.Who.{Who}
use Rattle.lu_spec_target.specs.Leaving.{is_over, life_of, row_admits, row_join}
use Rattle.lu_spec_target.specs.States.{Target}
use Rattle.lu_target_store.specs.Stores.{Serves}
use Rattle.lu_target_server.specs.Servers.{ServerState, Shows}
use Rattle.lu_target_server.proofs.Composing.{makes_as}
use Rattle.lu_target_server.proofs.Joining.{row_by, row_newer, some_same, admits_keep}
use Rattle.lu_target_server.proofs.Overrunning.{over_as}
use Rattle.lu_target_server.proofs.server.Server.join.Goals as goal

pub returns-in-None-clause-makes : goal.returns-in-None-clause-makes
returns-in-None-clause-makes g c =
    let s = c.args.self.now in
    let store : (v : Target) → Shows s v → Serves c.self.inside.store v =
    (λ v shows. subst (λ (it : ServerState). Serves it.store v) (sym c.self.view_is) shows.store) in
    let over : (v : Target) → Shows s v → list_any (is_over c.args.who) v.removed ≡ false =
    (λ v shows. sym (c.is_over.ensures.serving v (store v shows)) ∙ c.if-is_over.false) in
    let found : (v : Target) → Shows s v → life_of c.args.who.client v.lives ≡ None =
    (λ v shows. sym (c.in_ok-life_of.ensures.serving v (store v shows)) ∙ c.in-None.is) in
    on_ok_weaker c.admit.result
    (λ makes. makes_as (row_admits c.args.turn.now.at [] c.args.who) (λ v. row_join v c.args.turn.now.at c.args.who) s c.admit.new.self
    c.args.turn.now c.admit.new.turn
    (λ v shows. sym (row_by v c.args.turn.now.at c.args.who None (over v shows) (found v shows))) makes) c.admit.ensures.makes

pub returns-in-None-clause-batches : goal.returns-in-None-clause-batches
returns-in-None-clause-batches g c =
    let s = c.args.self.now in
    let store : (v : Target) → Shows s v → Serves c.self.inside.store v =
    (λ v shows. subst (λ (it : ServerState). Serves it.store v) (sym c.self.view_is) shows.store) in
    let over : (v : Target) → Shows s v → list_any (is_over c.args.who) v.removed ≡ false =
    (λ v shows. sym (c.is_over.ensures.serving v (store v shows)) ∙ c.if-is_over.false) in
    let found : (v : Target) → Shows s v → life_of c.args.who.client v.lives ≡ None =
    (λ v shows. sym (c.in_ok-life_of.ensures.serving v (store v shows)) ∙ c.in-None.is) in
    let row : (v : Target) → Shows s v → row_join v c.args.turn.now.at c.args.who ≡ row_admits c.args.turn.now.at [] c.args.who v =
    (λ v shows. row_by v c.args.turn.now.at c.args.who None (over v shows) (found v shows)) in
    admits_keep s c.admit.new.self c.args.turn.now.at [] c.args.who row c.admit.ensures.batches

pub returns-in-Some-3-clause-makes : goal.returns-in-Some-3-clause-makes
returns-in-Some-3-clause-makes g c =
    let s = c.args.self.now in
    let store : (v : Target) → Shows s v → Serves c.self.inside.store v =
    (λ v shows. subst (λ (it : ServerState). Serves it.store v) (sym c.self.view_is) shows.store) in
    let over : (v : Target) → Shows s v → list_any (is_over c.args.who) v.removed ≡ false =
    (λ v shows. sym (c.is_over.ensures.serving v (store v shows)) ∙ c.if-is_over.false) in
    let old : Who = c.in-Some.old in
    let found : (v : Target) → Shows s v → life_of c.args.who.client v.lives ≡ Some old =
    (λ v shows. sym (c.in_ok-life_of.ensures.serving v (store v shows)) ∙ c.in-Some.is) in
    let two : c.in-Some-2.old ≡ old = some_same c.in_ok-life_of.field-0 c.in-Some-2.old old c.in-Some-2.is c.in-Some.is in
    let older : nat_lt c.args.who.life old.life ≡ false = grind (arith, nat_tests, c.if-who-old.false) in
    let same : (c.args.who.life == c.in-Some-2.old.life) ≡ false = grind (arith, nat_tests, c.if-who-old-2.false) in
    let same_too : (c.args.who.life == old.life) ≡ false = subst (λ (w : Who). (c.args.who.life == w.life) ≡ false) two same in
    let row : (v : Target) → Shows s v → row_join v c.args.turn.now.at c.args.who ≡ row_admits c.args.turn.now.at (old ∷ []) c.args.who v =
    (λ v shows. row_by v c.args.turn.now.at c.args.who (Some old) (over v shows) (found v shows)
    ∙ row_newer v c.args.turn.now.at c.args.who old older same_too) in
    on_ok_weaker c.admit-in-Some-3.result
    (λ makes. makes_as (row_admits c.args.turn.now.at (old ∷ []) c.args.who) (λ v. row_join v c.args.turn.now.at c.args.who) s
    c.admit-in-Some-3.new.self c.args.turn.now c.admit-in-Some-3.new.turn
    (λ v shows. sym (row v shows)) makes) c.admit-in-Some-3.ensures.makes

pub returns-in-Some-3-clause-batches : goal.returns-in-Some-3-clause-batches
returns-in-Some-3-clause-batches g c =
    let s = c.args.self.now in
    let store : (v : Target) → Shows s v → Serves c.self.inside.store v =
    (λ v shows. subst (λ (it : ServerState). Serves it.store v) (sym c.self.view_is) shows.store) in
    let over : (v : Target) → Shows s v → list_any (is_over c.args.who) v.removed ≡ false =
    (λ v shows. sym (c.is_over.ensures.serving v (store v shows)) ∙ c.if-is_over.false) in
    let old : Who = c.in-Some.old in
    let found : (v : Target) → Shows s v → life_of c.args.who.client v.lives ≡ Some old =
    (λ v shows. sym (c.in_ok-life_of.ensures.serving v (store v shows)) ∙ c.in-Some.is) in
    let two : c.in-Some-2.old ≡ old = some_same c.in_ok-life_of.field-0 c.in-Some-2.old old c.in-Some-2.is c.in-Some.is in
    let older : nat_lt c.args.who.life old.life ≡ false = grind (arith, nat_tests, c.if-who-old.false) in
    let same : (c.args.who.life == c.in-Some-2.old.life) ≡ false = grind (arith, nat_tests, c.if-who-old-2.false) in
    let same_too : (c.args.who.life == old.life) ≡ false = subst (λ (w : Who). (c.args.who.life == w.life) ≡ false) two same in
    let row : (v : Target) → Shows s v → row_join v c.args.turn.now.at c.args.who ≡ row_admits c.args.turn.now.at (old ∷ []) c.args.who v =
    (λ v shows. row_by v c.args.turn.now.at c.args.who (Some old) (over v shows) (found v shows)
    ∙ row_newer v c.args.turn.now.at c.args.who old older same_too) in
    admits_keep s c.admit-in-Some-3.new.self c.args.turn.now.at (old ∷ []) c.args.who row c.admit-in-Some-3.ensures.batches

pub returns-in-None-clause-numbers : goal.returns-in-None-clause-numbers
returns-in-None-clause-numbers g c =
    λ is.
    let s = c.args.self.now in
    let store : (v : Target) → Shows s v → Serves c.self.inside.store v =
    (λ v shows. subst (λ (it : ServerState). Serves it.store v) (sym c.self.view_is) shows.store) in
    let over : (v : Target) → Shows s v → list_any (is_over c.args.who) v.removed ≡ false =
    (λ v shows. sym (c.is_over.ensures.serving v (store v shows)) ∙ c.if-is_over.false) in
    let found : (v : Target) → Shows s v → life_of c.args.who.client v.lives ≡ None =
    (λ v shows. sym (c.in_ok-life_of.ensures.serving v (store v shows)) ∙ c.in-None.is) in
    over_as (row_admits c.args.turn.now.at [] c.args.who) (λ v. row_join v c.args.turn.now.at c.args.who) s
    (λ v shows. sym (row_by v c.args.turn.now.at c.args.who None (over v shows) (found v shows))) (c.admit.ensures.numbers is)

pub returns-in-Some-3-clause-numbers : goal.returns-in-Some-3-clause-numbers
returns-in-Some-3-clause-numbers g c =
    λ is.
    let s = c.args.self.now in
    let store : (v : Target) → Shows s v → Serves c.self.inside.store v =
    (λ v shows. subst (λ (it : ServerState). Serves it.store v) (sym c.self.view_is) shows.store) in
    let over : (v : Target) → Shows s v → list_any (is_over c.args.who) v.removed ≡ false =
    (λ v shows. sym (c.is_over.ensures.serving v (store v shows)) ∙ c.if-is_over.false) in
    let old : Who = c.in-Some.old in
    let found : (v : Target) → Shows s v → life_of c.args.who.client v.lives ≡ Some old =
    (λ v shows. sym (c.in_ok-life_of.ensures.serving v (store v shows)) ∙ c.in-Some.is) in
    let two : c.in-Some-2.old ≡ old = some_same c.in_ok-life_of.field-0 c.in-Some-2.old old c.in-Some-2.is c.in-Some.is in
    let older : nat_lt c.args.who.life old.life ≡ false = grind (arith, nat_tests, c.if-who-old.false) in
    let same : (c.args.who.life == c.in-Some-2.old.life) ≡ false = grind (arith, nat_tests, c.if-who-old-2.false) in
    let same_too : (c.args.who.life == old.life) ≡ false = subst (λ (w : Who). (c.args.who.life == w.life) ≡ false) two same in
    let row : (v : Target) → Shows s v → row_join v c.args.turn.now.at c.args.who ≡ row_admits c.args.turn.now.at (old ∷ []) c.args.who v =
    (λ v shows. row_by v c.args.turn.now.at c.args.who (Some old) (over v shows) (found v shows)
    ∙ row_newer v c.args.turn.now.at c.args.who old older same_too) in
    over_as (row_admits c.args.turn.now.at (old ∷ []) c.args.who) (λ v. row_join v c.args.turn.now.at c.args.who) s
    (λ v shows. sym (row v shows)) (c.admit-in-Some-3.ensures.numbers is)
