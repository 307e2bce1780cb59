-- The lives are told one after another, until there is none more.
use Rattle.std.proofs.Common.{◌≡◌, ◌++◌, [], ◌∷◌, List, Some, None, length, take, slice_get, sym, ap, subst, ◌∙◌, rules}
use Rattle.lu_base.specs.declared.ids.Who.{Who}
use Rattle.lu_txn.specs.Slots.{lives_of}
use Rattle.lu_target_store.specs.Stores.{StoreState}
use Rattle.lu_target_store.proofs.Listed.{one_more, all_listed}
use Rattle.lu_target_store.proofs.store.Store.lives.Goals as goal

pub loop-who-preserved : goal.loop-who-preserved
loop-who-preserved g c =
    let own = lives_of c.self.inside.journal.slots in
    let all = lives_of c.args.self.now.journal.slots in
    let same : own ≡ all = ap (λ (it : StoreState). lives_of it.journal.slots) c.self.view_is in
    let first : slice_get own (length c.loop-who.lives) ≡ Some c.in-Some.who = search rules in
    let found : slice_get all (length c.loop-who.lives) ≡ Some c.in-Some.who =
    subst (λ (them : List Who). slice_get them (length c.loop-who.lives) ≡ Some c.in-Some.who) same first in
    let pushed : c.push.new.self ≡ c.loop-who.lives ++ c.in-Some.who ∷ [] = search rules in
    pushed ∙ one_more c.loop-who.lives all c.in-Some.who c.loop-who.invariant found
    ∙ ap (λ (them : List Who). take (length them) all) (sym pushed)

pub returns-clause-slots : goal.returns-clause-slots
returns-clause-slots g c =
    let own = lives_of c.self.inside.journal.slots in
    let all = lives_of c.args.self.now.journal.slots in
    let same : own ≡ all = ap (λ (it : StoreState). lives_of it.journal.slots) c.self.view_is in
    let none : slice_get own (length c.loop-who.lives) ≡ None = search rules in
    all_listed c.loop-who.lives all c.loop-who.invariant (subst (λ (them : List Who). slice_get them (length c.loop-who.lives) ≡ None) same
    none)

pub returns-clause-serving : goal.returns-clause-serving
returns-clause-serving g c = λ v s. returns-clause-slots g c ∙ sym s.journal.booted.lives

pub returns-clause-recovering : goal.returns-clause-recovering
returns-clause-recovering g c = λ v s. returns-clause-slots g c ∙ sym s.journal.booted.lives
