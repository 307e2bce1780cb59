-- A lock of which something is outstanding gets the callback in its place; a new one has it alone.
use Rattle.std.proofs.Common.{◌≡◌, ◌∙◌, ◌∷◌, [], false, Some, None, Result, OnOk, OnErr, ap, sym, subst}
use Rattle.std.specs.declared.result.Result.TheVariants.{Ok, Err}
use Rattle.std.specs.Map.{lookup, set_value}
use Rattle.std.proofs.lemmas.Map.Steps.{set_value_same}
use Rattle.std.proofs.lemmas.Result.{on_ok_weaker, on_err_weaker}
use Rattle.lu_callback.specs.Callbacks.{is_outstanding, with_asked}
use Rattle.lu_callback.specs.Filed.{at, put_in, all_asked, IsHeld}
use Rattle.lu_callback.proofs.Filed.{put_first, inserted, asked_there, asked_new, IsAsked}
use Rattle.lu_callback.proofs.callbacks.Callbacks.put.Goals as goal

module _ {T E P : Type 0} where
  by_result : (r : Result T E) → OnOk r P → OnErr r P → P
  by_result (Ok x) good bad = good
  by_result (Err e) good bad = bad

pub invariant_of-self : goal.invariant_of-self
invariant_of-self c =
    let asked = c.args.asked in
    let there = c.in-Some.holder.now in
    let entries = c.self.inside.holders.entries in
    let absent : is_outstanding asked.cookie asked.kind (all_asked entries) ≡ false =
    ap (is_outstanding asked.cookie asked.kind) c.self.view_is ∙ c.requires.absent in
    let found : lookup (at asked.cookie) entries ≡ Some there = sym c.in-Some.ensures.value in
    let all = (c.get_mut.follows.holds c.put.new.self).0 in
    by_result c.put.result
    (on_ok_weaker c.put.result (λ (put : c.put.new.self ≡ put_in asked there).
    (asked_there asked there entries _ c.self.invariant absent found (all ∙ ap (set_value (at asked.cookie) entries) put)).held)
    c.put.ensures.put)
    (on_err_weaker c.put.result (λ (kept : c.put.new.self ≡ there). subst IsHeld
    (sym (all ∙ ap (set_value (at asked.cookie) entries) kept ∙ set_value_same (at asked.cookie) entries there found)) c.self.invariant)
    c.put.ensures.kept)

pub returns-in-Some-clause-added : goal.returns-in-Some-clause-added
returns-in-Some-clause-added c =
    let asked = c.args.asked in
    let there = c.in-Some.holder.now in
    let entries = c.self.inside.holders.entries in
    let absent : is_outstanding asked.cookie asked.kind (all_asked entries) ≡ false =
    ap (is_outstanding asked.cookie asked.kind) c.self.view_is ∙ c.requires.absent in
    let found : lookup (at asked.cookie) entries ≡ Some there = sym c.in-Some.ensures.value in
    let all = (c.get_mut.follows.holds c.put.new.self).0 in
    on_ok_weaker c.put.result
    (λ (put : c.put.new.self ≡ put_in asked there).
    (asked_there asked there entries _ c.self.invariant absent found (all ∙ ap (set_value (at asked.cookie) entries) put)).all
    ∙ ap (with_asked asked) c.self.view_is)
    c.put.ensures.put

pub returns-in-Some-clause-kept : goal.returns-in-Some-clause-kept
returns-in-Some-clause-kept c =
    let asked = c.args.asked in
    let there = c.in-Some.holder.now in
    let entries = c.self.inside.holders.entries in
    let found : lookup (at asked.cookie) entries ≡ Some there = sym c.in-Some.ensures.value in
    let all = (c.get_mut.follows.holds c.put.new.self).0 in
    on_err_weaker c.put.result
    (λ (kept : c.put.new.self ≡ there). ap all_asked (all ∙ ap (set_value (at asked.cookie) entries) kept
    ∙ set_value_same (at asked.cookie) entries there found) ∙ c.self.view_is)
    c.put.ensures.kept

pub returns-in-Some-clause-sound : goal.returns-in-Some-clause-sound
returns-in-Some-clause-sound c = (invariant_of-self c).sound

pub invariant_of-self-in-None : goal.invariant_of-self-in-None
invariant_of-self-in-None c =
    let asked = c.args.asked in
    let entries = c.self.inside.holders.entries in
    let absent : is_outstanding asked.cookie asked.kind (all_asked entries) ≡ false =
    ap (is_outstanding asked.cookie asked.kind) c.self.view_is ∙ c.requires.absent in
    let none : lookup (at asked.cookie) entries ≡ None = sym c.in-None.ensures.value in
    let one : c.put-in-None.new.self ≡ asked ∷ [] = c.in_ok-put-in-None.ensures.put ∙ ap (put_in asked) c.new-holder.ensures.empty
    ∙ put_first asked in
    let put : IsAsked asked entries c.insert.new.self.entries =
    asked_new asked entries c.insert.new.self.entries c.self.invariant absent none
    (inserted c.insert.new.self.entries asked c.put-in-None.new.self c.in_ok-insert-in-None.ensures.entries
    c.get_mut.follows.holds-at-none one) in
    put.held

pub returns-in_ok-insert-in-None-clause-added : goal.returns-in_ok-insert-in-None-clause-added
returns-in_ok-insert-in-None-clause-added c =
    let asked = c.args.asked in
    let entries = c.self.inside.holders.entries in
    let absent : is_outstanding asked.cookie asked.kind (all_asked entries) ≡ false =
    ap (is_outstanding asked.cookie asked.kind) c.self.view_is ∙ c.requires.absent in
    let none : lookup (at asked.cookie) entries ≡ None = sym c.in-None.ensures.value in
    let one : c.put-in-None.new.self ≡ asked ∷ [] = c.in_ok-put-in-None.ensures.put ∙ ap (put_in asked) c.new-holder.ensures.empty
    ∙ put_first asked in
    let put : IsAsked asked entries c.insert.new.self.entries =
    asked_new asked entries c.insert.new.self.entries c.self.invariant absent none
    (inserted c.insert.new.self.entries asked c.put-in-None.new.self c.in_ok-insert-in-None.ensures.entries
    c.get_mut.follows.holds-at-none one) in
    put.all ∙ ap (with_asked asked) c.self.view_is

pub returns-in_ok-insert-in-None-clause-sound : goal.returns-in_ok-insert-in-None-clause-sound
returns-in_ok-insert-in-None-clause-sound c = (invariant_of-self-in-None c).sound
