-- A change that a live client takes to be written back is taken as the theory allows: none is under way, and it is a pending cut, or dirty
-- bytes
-- that no cut is pending below.
use Rattle.std.proofs.Common.{◌≡◌, ℕ, suc, ◌-◌, ◌≤◌, max, min, Bool, true, false, List, [], Option, Some, None, ◌⊎◌, inl, inr, ⊎_elim, refl}
use Rattle.std.proofs.Common.{sym, subst, ap, ◌∙◌, arith}
use Rattle.std.specs.Prelude.{nat_eq, nat_lt, ◌&&◌, if◌then◌else◌, is_some}
use Rattle.std.proofs.lemmas.Bool.{and_parts, eqb-true}
use Rattle.std.proofs.lemmas.Bool.Decides.{nat_tests}
use Rattle.lu_base.specs.declared.ids.Node.TheVariants.{Client}
use Rattle.lu_base.specs.declared.ids.Stamp.{Stamp}
use Rattle.lu_base.specs.declared.locks.Extent.{Extent}
use Rattle.lu_base.specs.declared.locks.Mode.{Mode}
use Rattle.lu_base.specs.declared.locks.Mode.TheVariants.{PW}
use Rattle.lu_base.specs.declared.locks.Resource.{Resource}
use Rattle.lu_lock.specs.Growth.{the_end}
use Rattle.lu_lock.specs.Overlap.{extents_meet}
use Rattle.lu_spec_machine.proofs.Places.{in_parts}
use Rattle.lu_spec_entries.specs.declared.changes.Flush.{Flush}
use Rattle.lu_spec_entries.specs.declared.changes.Flush.TheVariants as flush
use Rattle.lu_spec_entries.specs.Words as word
use Rattle.lu_spec_entries.specs.Words.{Line, line}
use Rattle.lu_spec_client.specs.Caches.{patch_at, patches_at}
use Rattle.lu_spec_client.specs.Calls.{life_at}
use Rattle.lu_spec_client.specs.Patches.{Patch, Flying, cut_extent, holds_extent}
use Rattle.lu_spec_client.specs.States.{Store, store_at, store_turn}
use Rattle.lu_proof_lawful.specs.Covered.Heads.{Head}
use Rattle.lu_proof_lawful.proofs.Preconditions.HeedMarks.{owed_of}
use Rattle.lu_proof_lawful.proofs.Preconditions.Heeds.{none_owed}
use Rattle.lu_proof_lawful.proofs.Preconditions.Lists.{turn}
use Rattle.lu_proof_bytes.specs.Object.Words.{Cut, Entry, Takes, covers, changes, within, not_above}
use Rattle.lu_proof_bytes.specs.Object.Folds.{HeldBy, evicted, cut_below, WriteBack}
use Rattle.lu_proof_bytes.specs.Object.Folds as says
use Rattle.lu_proof_bytes.specs.Object.Guards.{FlushOk, Allowed}
use Rattle.lu_proof_bytes.proofs.Object.World.{World}
use Rattle.lu_proof_bytes.proofs.Object.Rows.{cut_lock}
use Rattle.lu_proof_objects.specs.Points.{change_of, dirty_at, lock_at}
use Rattle.lu_proof_objects.specs.Alike.{IsRange, IsNext}
use Rattle.lu_proof_objects.proofs.Patches.{put_goes_first}
use Rattle.lu_proof_lawful.specs.Projection.Lives.{number_of, is_live}
use Rattle.lu_proof_lawful.specs.Projection.Locks.{held, lock_over}
use Rattle.lu_proof_lawful.specs.Projection.Stories.{story}
use Rattle.lu_proof_lawful.proofs.Projection.Lookups.{lies_under}
use Rattle.lu_proof_lawful.proofs.Refinement.ChangesFound.{covers_in}
use Rattle.lu_proof_lawful.proofs.Refinement.StoreTakes.{Taking, takes_found}
use Rattle.lu_proof_lawful.proofs.Refinement.Tied.{Here}
use Rattle.lu_proof_lawful.proofs.Refinement.TiedStore.{store_owed}
use Rattle.lu_proof_lawful.proofs.Refinement.TiedAsked.{TakenAs}
use Rattle.lu_proof_lawful.proofs.Refinement.OverLives.{live_parts}
use Rattle.lu_proof_lawful.proofs.Refinement.MayBase.{tie}

-- ---- a held lock that meets the pending cut holds it whole

pub covers_out : (k w : ℕ) (mode : Mode) (x : Extent) (p : ℕ) → covers (lock_at k w mode x) p ≡ true → (x.first ≤ p)
    × ((x.last ≡ the_end) ⊎ (p ≤ x.last))
covers_out k w mode x p e = by (nat_eq x.last the_end) refl e
  where
    by : (v : Bool) → nat_eq x.last the_end ≡ v → (nat_lt x.first (suc p) && not_above p (if v then None else Some x.last)) ≡ true
        → (x.first ≤ p) × ((x.last ≡ the_end) ⊎ (p ≤ x.last))
    by true s f = let a = (and_parts (nat_lt x.first (suc p)) true f).0 in (grind (arith, nat_tests, a), inl (eqb-true x.last the_end s))
    by false s f = let a = and_parts (nat_lt x.first (suc p)) (nat_lt p (suc x.last)) f
        in (let b = a.0 in grind (arith, nat_tests, b), inr (let b = a.1 in grind (arith, nat_tests, b)))

pub cut_held : (h : List Entry) (k w q p : ℕ) (mode : Mode) (x : Extent) → World h → evicted w h ≡ false → HeldBy h (lock_at k w mode x)
    → says.pending w h ≡ Some q → changes (Cut q) p ≡ true → covers (lock_at k w mode x) p ≡ true
    → ((lock_at k w mode x).write ≡ true) × (holds_extent x (cut_extent q) ≡ true)
cut_held h k w q p mode x world live held pending cut over = (whole.0, holds)
  where
    whole : ((lock_at k w mode x).write ≡ true) × ((p : ℕ) → changes (Cut q) p ≡ true → covers (lock_at k w mode x) p ≡ true)
    whole = cut_lock h (lock_at k w mode x) q p world.numbers world.locks world.patches live held pending cut over

    first : x.first ≤ q - 1
    first = (covers_out k w mode x (q - 1) (whole.1 (q - 1) (grind (arith, nat_tests)))).0

    last : the_end ≤ x.last
    last = ⊎_elim {C = the_end ≤ x.last} (λ (e : x.last ≡ the_end). omega (arith, e))
        (λ (e : max (q - 1) the_end ≤ x.last). omega (arith, e))
        (covers_out k w mode x (max (q - 1) the_end) (whole.1 (max (q - 1) the_end) (grind (arith, nat_tests)))).1

    holds : holds_extent x (cut_extent q) ≡ true
    holds = let a = first in let b = last in grind (arith, nat_tests, a, b)

pub cut_whole : (h : List Entry) (k w q : ℕ) (mode : Mode) (x : Extent) → World h → evicted w h ≡ false → HeldBy h (lock_at k w mode x)
    → IsRange x → says.pending w h ≡ Some q → extents_meet x (cut_extent q) ≡ true
    → ((lock_at k w mode x).write ≡ true) × (holds_extent x (cut_extent q) ≡ true)
cut_whole h k w q mode x world live held range pending meets = cut_held h k w q (max x.first (q - 1)) mode x world live held pending
    (grind (arith, nat_tests)) (covers_in k w mode x (max x.first (q - 1)) (omega arith) (let u = under in omega (arith, u)))
  where
    under : max x.first (q - 1) ≤ min x.last the_end
    under = let m = meets in grind (arith, nat_tests, m)

-- ---- it is taken

no_flight : (x : Option Flying) → is_some x ≡ false → (b : Option WriteBack) → TakenAs b x → b ≡ None
no_flight None e None t = refl
no_flight None e (Some b) t = absurd t
no_flight (Some f) e b t = absurd (cc)

module _ (head : Head) (t : ℕ) (r : Resource) (stamp : Stamp) (c : ℕ) (past : List Line) (change : Flush)
    (here : Here head t r (line (turn stamp (Client c)) (word.WritesBack r change)) past)
    (live : is_live c past (story t r past) ≡ true) where
  abbrev l : Line
  l = line (turn stamp (Client c)) (word.WritesBack r change)

  abbrev h : List Entry
  h = story t r past

  abbrev w : ℕ
  w = number_of (life_at c past)

  pub owed : owed_of c past ≡ []
  owed = none_owed c past l (here.stood.heeds.0 c) (λ x. x)

  pub store_same : store_owed c past ≡ store_at c past
  store_same = ap (λ (es : List word.Entry). store_turn (store_at c past) es) owed

  patch : Patch
  patch = patch_at r (patches_at c past)

  pub taking : Taking h w (patch_at r (patches_at c past)) change
  taking = takes_found head t r stamp c past change here live

  -- none is under way
  pub none_taken : says.taken w h ≡ None
  none_taken =
      let ok = here.stood.ok.ok in
      no_flight (patch_at r (patches_at c past)).flight ok.alone (says.taken w h)
      (subst (λ (s : Store). TakenAs (says.taken w h) (patch_at r s.patches).flight) store_same (tie head t r l past here c live).taken)

  pending_is : (patch_at r (patches_at c past)).pending ≡ says.pending w h
  pending_is = subst (λ (s : Store). (patch_at r s.patches).pending ≡ says.pending w h) store_same
      ((here.tied.store.of c live).patch).pending

  dirty_is : (p : ℕ) → dirty_at (patch_at r (patches_at c past)) p ≡ says.dirty w h p
  dirty_is p = subst (λ (s : Store). dirty_at (patch_at r s.patches) p ≡ says.dirty w h p) store_same
      (((here.tied.store.of c live).patch).dirty p)

  flush_ok : FlushOk h w (change_of change)
  flush_ok = by change taking.next
    where
      by : (ch : Flush) → IsNext taking.extent (patch_at r (patches_at c past)) ch → FlushOk h w (change_of ch)
      by (flush.Cut n) next = sym pending_is ∙ next.0
      by (flush.Put at bs) next = (uncut, λ p b i. sym (dirty_is p) ∙ next.carries p b i)
        where
          apart : (size : ℕ) → (patch_at r (patches_at c past)).pending ≡ Some size → (holds_extent taking.extent (cut_extent size) ≡ true)
              ⊎ (extents_meet taking.extent (cut_extent size) ≡ false)
          apart size e = whole (extents_meet taking.extent (cut_extent size)) refl
            where
              whole : (v : Bool) → extents_meet taking.extent (cut_extent size) ≡ v → (holds_extent taking.extent (cut_extent size) ≡ true)
                  ⊎ (extents_meet taking.extent (cut_extent size) ≡ false)
              whole true m = inl (cut_whole h taking.lock.cookie.0 w size PW taking.extent here.world (live_parts c past h live).0
                  taking.there taking.range (sym pending_is ∙ e) m).1
              whole false m = inr m

          low : (p : ℕ) → within at bs p ≡ true → p ≤ the_end
          low p i = let a = (in_parts taking.extent p (next.under p i)).1 in let b = taking.range.1 in omega (arith, a, b)

          uncut : (p : ℕ) → within at bs p ≡ true → cut_below (says.pending w h) p ≡ false
          uncut p i = ap (λ (q : Option ℕ). cut_below q p) (sym pending_is)
              ∙ put_goes_first taking.extent (patch_at r (patches_at c past)) at bs next apart p (low p i) i

  pub may_take : (k : ℕ) → lock_over w (change_of change) (held h) ≡ Some k → Allowed h (Takes w k (change_of change))
  may_take k e = record { alone = none_taken; under = lies_under h w k (change_of change) e; change = flush_ok }
