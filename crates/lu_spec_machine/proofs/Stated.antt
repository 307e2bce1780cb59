-- The footprint laws as they are stated.
use Rattle.std.proofs.Common.{◌≡◌, ℕ, Bool, true, false, not, List, [], ◌∷◌, refl, sym, ap, subst, ◌∙◌}
use Rattle.std.specs.Prelude.{if◌then◌else◌}
use Rattle.std.specs.List.{filter}
use Rattle.lu_base.specs.declared.ids.Fid.{Fid}
use Rattle.lu_base.specs.declared.ids.Txn.{Txn}
use Rattle.lu_base.specs.declared.ids.Who.{Who}
use Rattle.lu_msg.specs.declared.answers.Answer.{Answer}
use Rattle.lu_msg.specs.declared.answers.Answer.TheVariants as told
use Rattle.lu_msg.specs.declared.answers.Errno.{Errno}
use Rattle.lu_part.specs.declared.parts.Part.{Part}
use Rattle.lu_spec_machine.specs.Tree.{Tree, Opened, same_life}
use Rattle.lu_spec_machine.specs.Change.{Change, changed, written, made}
use Rattle.lu_spec_machine.specs.Plan.{Outcome}
use Rattle.lu_spec_machine.specs.Table.{plan}
use Rattle.lu_spec_machine.specs.Footprint.{Operation, touches, is_some_change, after, outcome_of, Same, inode_of}
use Rattle.lu_spec_machine.specs.Laws.{Alike, TouchedDecide, OthersStay, MadeHasNumber, NewFromOld, RefusalsStay, UnchangedStay}
use Rattle.lu_spec_machine.specs.Laws.{TransactionsGrantNothing, ForgetDropsOpens}
use Rattle.lu_spec_machine.proofs.Outcomes.{IsTold, Comes, refused, learns, mkdir, create, plan_comes}
use Rattle.lu_spec_machine.proofs.Footprints.{same_looks, same_changes, left_changes, NotOf}

pub comes : (osts : ℕ) (t : Tree) (a : Operation) → Comes t a.number a.who (outcome_of osts t a)
comes osts t a = plan_comes t a.number a.who osts a.op

pub alike : (osts : ℕ) (t u : Tree) (a : Operation) → outcome_of osts t a ≡ outcome_of osts u a → touches osts t a ≡ touches osts u a
    → Alike osts t u a
alike osts t u a d l =
    record {
      answer = ap (λ (x : Outcome). x.answer) d;
      touches = l;
      writes = ap (λ (x : Outcome). written x.changes) d;
      grants = ap (λ (x : Outcome). x.grants) d;
      changes = ap (λ (x : Outcome). is_some_change x.changes) d;
    }

pub touched_decide : TouchedDecide
touched_decide osts t u a h = let s = same_looks t u (plan osts a.number a.who a.op) h in alike osts t u a s.0 s.1

pub new_from_old : NewFromOld
new_from_old osts t u a p h s =
    let e = (same_looks t u (plan osts a.number a.who a.op) h).0 in
    subst (λ (x : Outcome). Same (changed t x.changes) (after osts u a) p) (sym e) (same_changes t u (outcome_of osts u a).changes p s)

module _ (t : Tree) (number : Txn) (who : Who) where
  not_refused : (answer : Answer) (e : Errno) → IsTold answer → answer ≡ told.Refused e → ⊥
  not_refused answer e h is = subst IsTold is h

  refusal : (o : Outcome) → Comes t number who o → (e : Errno) → o.answer ≡ told.Refused e → (o.changes ≡ []) × (o.grants ≡ [])
  refusal _ (refused _) e h = (refl, refl)
  refusal _ (learns answer grants is) e h = absurd (not_refused answer e is h)
  refusal _ _ e h = absurd (cc)

  not_made : (o : Outcome) → Comes t number who o → (p : Part) → (o.answer ≡ told.Made (inode_of p) → ⊥) → NotOf (made o.changes) p
  not_made _ (mkdir d n free) p ne = (λ e. ne (ap told.Made e), tt)
  not_made _ (create d n l free) p ne = (λ e. ne (ap told.Made e), tt)
  not_made _ _ p ne = tt

  not_new : (answer : Answer) (f : Fid) → IsTold answer → answer ≡ told.Made f → ⊥
  not_new answer f h is = subst IsTold is h

  new_number : (o : Outcome) → Comes t number who o → (f : Fid) → o.answer ≡ told.Made f → f.0 ≡ number.0
  new_number _ (mkdir d n free) f h = cc
  new_number _ (create d n l free) f h = cc
  new_number _ (learns answer grants is) f h = absurd (not_new answer f is h)
  new_number _ _ f h = absurd (cc)

  no_grants : (o : Outcome) → Comes t number who o → is_some_change o.changes ≡ true → o.grants ≡ []
  no_grants _ (learns answer grants is) h = absurd (cc)
  no_grants _ _ h = refl

none_left : (t : Tree) (xs : List Change) → is_some_change xs ≡ false → (changed t xs ≡ t) × (written xs ≡ [])
none_left t [] h = (refl, refl)
none_left t (x ∷ xs) h = absurd (cc)

pub others_stay : OthersStay
others_stay osts t a p w ne = left_changes t (outcome_of osts t a).changes p w
    (not_made t a.number a.who (outcome_of osts t a) (comes osts t a) p ne)

pub made_has_number : MadeHasNumber
made_has_number osts t a f h = new_number t a.number a.who (outcome_of osts t a) (comes osts t a) f h

pub refusals_stay : RefusalsStay
refusals_stay osts t a e h =
    let r = refusal t a.number a.who (outcome_of osts t a) (comes osts t a) e h in
    (ap is_some_change r.0, r.1, ap written r.0, ap (changed t) r.0)

pub unchanged_stay : UnchangedStay
unchanged_stay osts t a h = none_left t (outcome_of osts t a).changes h

pub transactions_grant_nothing : TransactionsGrantNothing
transactions_grant_nothing osts t a h = no_grants t a.number a.who (outcome_of osts t a) (comes osts t a) h

none_own : (who : Who) (os : List Opened) → filter (λ o. same_life o.life who) (filter (λ o. not (same_life o.life who)) os) ≡ []
none_own who [] = refl
none_own who (o ∷ os) = by (same_life o.life who) refl (none_own who os)
  where
    by : (v : Bool) → same_life o.life who ≡ v → filter (λ o. same_life o.life who) (filter (λ o. not (same_life o.life who)) os) ≡ []
        → filter (λ o. same_life o.life who) (if not v then o ∷ filter (λ o. not (same_life o.life who)) os
        else filter (λ o. not (same_life o.life who)) os) ≡ []
    by true e ih = ih
    by false e ih = ap (λ v. if v then o ∷ filter (λ o. same_life o.life who) (filter (λ o. not (same_life o.life who)) os)
        else filter (λ o. same_life o.life who) (filter (λ o. not (same_life o.life who)) os)) e ∙ ih

pub forget_drops_opens : ForgetDropsOpens
forget_drops_opens t who = record { dirs = refl; files = refl; own = none_own who t.opens; others = refl }
