-- Dirty bytes of a patch stand in rising place; so what is taken to be written back lies under the lock that is held over it in the story.
use Rattle.std.proofs.Common.{◌≡◌, ℕ, suc, ◌+◌, ◌-◌, ◌<◌, ◌≤◌, Bool, true, false, List, [], ◌∷◌, length, Option, Some, None, ◌⊎◌, ⊎_elim}
use Rattle.std.proofs.Common.{refl, sym, subst, ap, ◌∙◌, arith}
use Rattle.std.specs.Prelude.{nat_eq, nat_le, not, ◌||◌, if◌then◌else◌, filter}
use Rattle.std.proofs.lemmas.Bool.{and_parts}
use Rattle.std.proofs.lemmas.Bool.Decides.{nat_tests}
use Rattle.lu_base.specs.declared.ids.Node.TheVariants.{Client}
use Rattle.lu_base.specs.declared.ids.Stamp.{Stamp}
use Rattle.lu_base.specs.declared.locks.Extent.{Extent}
use Rattle.lu_base.specs.declared.locks.Lock.{Lock as TableLock}
use Rattle.lu_base.specs.declared.locks.Mode.{Mode}
use Rattle.lu_base.specs.declared.locks.Mode.TheVariants.{NL, PR, PW, CR, CW, EX}
use Rattle.lu_base.specs.declared.locks.Policy.{Policy}
use Rattle.lu_base.specs.declared.locks.Policy.TheVariants.{Bits, Range}
use Rattle.lu_base.specs.declared.locks.Resource.{Resource}
use Rattle.lu_lock.specs.Growth.{the_end}
use Rattle.lu_spec_machine.specs.Places.{RisingFrom}
use Rattle.lu_spec_machine.proofs.Places.{in_parts}
use Rattle.lu_spec_entries.specs.declared.changes.Flush.{Flush}
use Rattle.lu_spec_entries.specs.declared.changes.Flush.TheVariants as flush
use Rattle.lu_spec_entries.specs.Words as word
use Rattle.lu_spec_entries.specs.Words.{Line, line, is_client}
use Rattle.lu_spec_entries.specs.Fields.{on}
use Rattle.lu_spec_client.specs.Caches.{patch_at, patches_at, patches_after, reads_patches, with_object, on_object, made}
use Rattle.lu_spec_client.specs.Patches.{Patch, acked, acked_flight, flown, next_flush, Flying, CutFlies, BytesFly}
use Rattle.lu_spec_client.specs.WriteBack.{flush_under}
use Rattle.lu_proof_lawful.specs.Covered.Heads.{Head}
use Rattle.lu_proof_lawful.proofs.Preconditions.Heard.{HasRange}
use Rattle.lu_proof_lawful.proofs.Preconditions.Held.{held_into}
use Rattle.lu_proof_lawful.proofs.Preconditions.Heeds.{none_owed}
use Rattle.lu_proof_lawful.proofs.Preconditions.Lists.{turn}
use Rattle.lu_proof_lawful.proofs.Invariants.TargetGroups.{IsKind}
use Rattle.lu_proof_objects.proofs.Tables.{patch_on}
use Rattle.lu_proof_objects.proofs.Made.{patch_with, made_rises}
use Rattle.lu_proof_objects.proofs.Changes.{flown_rises}
use Rattle.lu_proof_bytes.specs.Object.Words as words
use Rattle.lu_proof_bytes.specs.Object.Words.{Lock, within}
use Rattle.lu_proof_bytes.specs.Object.Folds.{HeldBy, evicted}
use Rattle.lu_proof_objects.specs.Points.{change_of, lock_at}
use Rattle.lu_proof_objects.specs.Alike.{Carries, IsNext, IsRange}
use Rattle.lu_proof_objects.proofs.Patches.{next_is}
use Rattle.lu_proof_lawful.specs.Projection.Lives.{number_of, is_live}
use Rattle.lu_proof_lawful.specs.Projection.Locks.{lock_of, held, lock_over, spans}
use Rattle.lu_proof_lawful.specs.Projection.Stories.{story}
use Rattle.lu_proof_lawful.proofs.Projection.Lookups.{right_lock}
use Rattle.lu_proof_lawful.proofs.Refinement.Tied.{Here}
use Rattle.lu_proof_lawful.proofs.Refinement.TiedStore.{life_number}
use Rattle.lu_proof_lawful.proofs.Refinement.OverLives.{live_parts}
use Rattle.lu_proof_lawful.proofs.Refinement.ChangesFound.{held_there, lock_is, spans_put, spans_cut}

-- ---- dirty bytes rise

rising_less : {A : Type 0} (n k : ℕ) (m : List (ℕ × A)) → k ≤ n → RisingFrom n m → RisingFrom k m
rising_less n k [] less h = h
rising_less n k (e ∷ m) less h = (let a = h.0 in omega (arith, less, a), h.1)

rising_filter : {A : Type 0} (n : ℕ) (test : ℕ × A → Bool) (m : List (ℕ × A)) → RisingFrom n m → RisingFrom n (filter test m)
rising_filter n test [] h = tt
rising_filter {A} n test (e ∷ m) h = by (test e) (rising_filter (e.0 + 1) test m h.1)
  where
    by : (v : Bool) → RisingFrom (e.0 + 1) (filter test m) → RisingFrom n (if v then e ∷ filter test m else filter test m)
    by true more = (h.0, more)
    by false more = rising_less (e.0 + 1) n (filter test m) (let a = h.0 in omega (arith, a)) more

acked_rises : (p : Patch) → RisingFrom 0 p.dirty → RisingFrom 0 (acked p).dirty
acked_rises p h = by p.flight
  where
    by : (f : Option Flying) → RisingFrom 0 (acked_flight p f).dirty
    by None = h
    by (Some (CutFlies n)) = h
    by (Some BytesFly) = rising_filter 0 (λ e. not e.1.flies) p.dirty h

abbrev AllRise : List (Resource × Patch) → Type 0
AllRise patches = (r : Resource) → RisingFrom 0 (patch_at r patches).dirty

rises_by : (s : Resource) (f : Patch → Patch) → ((p : Patch) → RisingFrom 0 p.dirty → RisingFrom 0 (f p).dirty)
    → (m : List (Resource × Patch)) → AllRise m → AllRise (on_object s f m)
rises_by s f keeps m all r = ⊎_elim
    (λ (e : patch_at r (on_object s f m) ≡ patch_at r m). subst (λ (p : Patch). RisingFrom 0 p.dirty) (sym e) (all r))
    (λ (e : (s ≡ r) × (patch_at r (on_object s f m) ≡ f (patch_at r m))). subst (λ (p : Patch). RisingFrom 0 p.dirty) (sym e.1)
    (keeps (patch_at r m) (all r)))
    (patch_on s r f m)

rises_after : (m : List (Resource × Patch)) (e : word.Entry) → AllRise m → AllRise (patches_after m e)
rises_after m (word.Changes s change) all = λ r. ⊎_elim
    (λ (e : patch_at r (with_object s (made change (patch_at s m)) m) ≡ patch_at r m). subst (λ (p : Patch). RisingFrom 0 p.dirty) (sym e)
    (all r))
    (λ (e : (s ≡ r) × (patch_at r (with_object s (made change (patch_at s m)) m) ≡ made change (patch_at s m))). subst
    (λ (p : Patch). RisingFrom 0 p.dirty) (sym e.1) (made_rises change (patch_at s m) (all s)))
    (patch_with s r (made change (patch_at s m)) m)
rises_after m (word.WritesBack s change) all = rises_by s (flown change) (λ p h. flown_rises change p h) m all
rises_after m (word.Acks s) all = rises_by s acked acked_rises m all
rises_after m (word.Life who) all = λ r. tt
rises_after m _ all = all

pub patch_rises : (c : ℕ) (past : List Line) (r : Resource) → RisingFrom 0 (patch_at r (patches_at c past)).dirty
patch_rises c [] r = tt
patch_rises c (l ∷ past) r = by (reads_patches l.entry) (is_client c l.at.node) (λ s. patch_rises c past s)
  where
    by : (u v : Bool) → AllRise (patches_at c past) → RisingFrom 0
        (patch_at r (on u v (patches_after (patches_at c past) l.entry) (patches_at c past))).dirty
    by true true all = rises_after (patches_at c past) l.entry all r
    by true false all = all r
    by false v all = all r

-- ---- what is taken lies under the lock

pub under_pw : (p : Patch) (mode : Mode) (policy : Policy) (change : Flush) → mode ≡ PW → flush_under p mode policy ≡ Some change
    → (x : Extent) × (policy ≡ Range x) × (next_flush x p ≡ Some change)
under_pw p PW (Range x) change m e = (x, refl, e)
under_pw p PW (Bits b) change m e = absurd (cc)
under_pw p PR policy change m e = absurd (cc)
under_pw p CR policy change m e = absurd (cc)
under_pw p CW policy change m e = absurd (cc)
under_pw p EX policy change m e = absurd (cc)
under_pw p NL policy change m e = absurd (cc)

run_ends : (at : ℕ) (bs : List ℕ) (p : ℕ) → at ≤ p → p < at + length bs → within at bs p ≡ true
run_ends at [] p low high = absurd (omega (arith, low, high))
run_ends at (b ∷ bs) p low high = by (nat_eq at p) refl (λ more. run_ends (suc at) bs p more (omega (arith, high)))
  where
    by : (v : Bool) → nat_eq at p ≡ v → (suc at ≤ p → within (suc at) bs p ≡ true) → (v || within (suc at) bs p) ≡ true
    by true e more = refl
    by false e more = more (grind (arith, nat_tests, e, low))

pub next_spans : (k w : ℕ) (x : Extent) (p : Patch) (change : Flush) → x.last ≤ the_end → IsNext x p change
    → spans (lock_at k w PW x) (change_of change) ≡ true
next_spans k w x p (flush.Put at bs) most next =
    let some = next.some in
    let first = in_parts x at (next.under at (run_ends at bs at (omega arith) (omega (arith, some)))) in
    let last = in_parts x (at + length bs - 1) (next.under (at + length bs - 1)
    (run_ends at bs (at + length bs - 1) (omega (arith, some)) (omega (arith, some)))) in
    spans_put k w x at bs some first.0 last.1
next_spans k w x p (flush.Cut n) most next =
    let parts = and_parts (nat_le x.first (n - 1)) (nat_le the_end x.last) next.1 in
    let a = parts.0 in
    let b = parts.1 in
    spans_cut k w x n (grind (arith, nat_tests, a)) (grind (arith, nat_tests, b, most))

pub next_carries : (x : Extent) (p : Patch) (change : Flush) → IsNext x p change → Carries p change
next_carries x p (flush.Put at bs) next = next.carries
next_carries x p (flush.Cut n) next = tt

-- a change that is taken is found: a lock is held over it in the story, and its bytes are those of the patch
pub record Taking (h : List words.Entry) (w : ℕ) (p : Patch) (change : Flush) : Type 0 where
  pub lock : TableLock
  pub over : lock_over w (change_of change) (held h) ≡ Some lock.cookie.0
  pub extent : Extent
  pub next : IsNext extent p change
  pub carries : Carries p change
  pub there : HeldBy h (lock_at lock.cookie.0 w PW extent)
  pub range : IsRange extent

pub takes_found : (head : Head) (t : ℕ) (r : Resource) (stamp : Stamp) (c : ℕ) (past : List Line) (change : Flush)
    (here : Here head t r (line (turn stamp (Client c)) (word.WritesBack r change)) past) → is_live c past (story t r past) ≡ true
    → Taking (story t r past) (life_number c past) (patch_at r (patches_at c past)) change
takes_found head t r stamp c past change here live =
    let ok = here.stood.ok.ok in
    let l = line (turn stamp (Client c)) (word.WritesBack r change) in
    let owed = none_owed c past l (here.stood.heeds.0 c) (λ x. x) in
    let under = under_pw (patch_at r (patches_at c past)) ok.holding.lock.ask.mode ok.holding.lock.ask.policy change ok.mode ok.next in
    let f = held_there head t r past here.place here.stood.grown here.stood.pins.1 c (here.tied.asked.of c live) owed ok.holding ok.held
    ok.of_object (subst HasRange (sym under.1) tt) in
    let holding = ((here.stood.before).at t).locks.held c ok.holding (held_into c t past ok.holding f.2 ok.held) in
    let kind = ((here.stood.before).at t).locks.kinds holding.deed ok.holding.lock holding.gave in
    let ranged : IsKind ok.holding.lock.ask.mode (Range under.0) = subst (IsKind ok.holding.lock.ask.mode) under.1 kind in
    let next = next_is under.0 (patch_at r (patches_at c past)) change (patch_rises c past r) under.2 in
    let is = lock_is ok.holding.lock under.0 ok.mode under.1 in
    record {
      lock = ok.holding.lock;
      over = ap (λ (w : ℕ). lock_over w (change_of change) (held (story t r past))) (sym f.1)
          ∙ right_lock (story t r past) (lock_of ok.holding.lock) (change_of change) here.all f.0 (ap (λ (m : Lock). m.write) is)
          (ap (λ (w : ℕ). evicted w (story t r past)) f.1 ∙ (live_parts c past (story t r past) live).0)
          (ap (λ (m : Lock). spans m (change_of change)) is ∙ next_spans ok.holding.lock.cookie.0 (number_of ok.holding.lock.ask.who)
          under.0 (patch_at r (patches_at c past)) change ranged.1 next);
      extent = under.0;
      next = next;
      carries = next_carries under.0 (patch_at r (patches_at c past)) change next;
      there = subst (λ (w : ℕ). HeldBy (story t r past) (lock_at ok.holding.lock.cookie.0 w PW under.0)) f.1
          (subst (HeldBy (story t r past)) is f.0);
      range = (ranged.0, ranged.1);
    }
