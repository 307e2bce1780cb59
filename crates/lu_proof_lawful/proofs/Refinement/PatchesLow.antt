-- What a client has changed of an object lies in a file, byte for byte and with the cut that is pending; so does what it writes back.
use Rattle.std.proofs.Common.{◌≡◌, ℕ, suc, ◌+◌, ◌-◌, ◌<◌, ◌≤◌, Bool, true, false, List, [], ◌∷◌, length, Option, Some, None, ◌⊎◌, inl}
use Rattle.std.proofs.Common.{inr, ⊎_elim, refl, sym, subst, ap, ◌∙◌, arith}
use Rattle.std.specs.Prelude.{nat_eq, nat_lt, ◌&&◌, ◌==◌, ◌^◌, if◌then◌else◌}
use Rattle.std.proofs.lemmas.Bool.{eqb-true, ltb-true}
use Rattle.std.proofs.lemmas.Bool.Decides.{nat_tests}
use Rattle.lu_base.specs.declared.ids.Node.{Node}
use Rattle.lu_base.specs.declared.ids.Node.TheVariants.{Client, Target}
use Rattle.lu_base.specs.declared.locks.Extent.{Extent}
use Rattle.lu_base.specs.declared.locks.Resource.{Resource}
use Rattle.lu_layout.specs.Raid0.{Raid0, stripe_of}
use Rattle.lu_lock.specs.Growth.{the_end}
use Rattle.lu_spec_machine.specs.Places.{RisingFrom}
use Rattle.lu_trace.specs.WellFormed.{IsCall}
use Rattle.lu_spec_entries.specs.declared.changes.Flush.{Flush}
use Rattle.lu_spec_entries.specs.declared.changes.Flush.TheVariants as flush
use Rattle.lu_spec_entries.specs.Carried.{Kind, Running, Work}
use Rattle.lu_spec_entries.specs.Words as word
use Rattle.lu_spec_entries.specs.Words.{Line, line}
use Rattle.lu_spec_client.specs.Caches.{patch_at, patches_at, with_object, on_object, made}
use Rattle.lu_spec_client.specs.Patches.{Patch, Flying, CutFlies, BytesFly, acked, acked_flight, other_cut, flown}
use Rattle.lu_spec_client.specs.Stripes.{below_on, bytes_on}
use Rattle.lu_proof_lawful.specs.Covered.Heads.{Head}
use Rattle.lu_proof_lawful.proofs.Preconditions.CallGuards.{ChangesOn, WritesBackOk, piece_on}
use Rattle.lu_proof_lawful.proofs.Preconditions.Calls.{limited}
use Rattle.lu_proof_lawful.proofs.Preconditions.ClientLooks.{below_low}
use Rattle.lu_proof_lawful.proofs.Preconditions.Grown.{Grown}
use Rattle.lu_proof_lawful.proofs.Preconditions.Guards.{EntryOk}
use Rattle.lu_proof_lawful.proofs.Preconditions.Lists.{turn}
use Rattle.lu_proof_lawful.proofs.Refinement.StoreTakes.{patch_rises, under_pw, next_carries}
use Rattle.lu_proof_objects.proofs.Tables.{patch_on}
use Rattle.lu_proof_objects.proofs.Made.{patch_with}
use Rattle.lu_proof_bytes.specs.Object.Words.{Cut, overlay, value}
use Rattle.lu_proof_bytes.specs.Object.Folds.{cut_by, dirty_cut}
use Rattle.lu_proof_objects.specs.Points.{dirty_at, flying_at}
use Rattle.lu_proof_objects.specs.Alike.{Carries, IsNext}
use Rattle.lu_proof_objects.proofs.Patches.{patch_made, patch_taken, bytes_acked, next_is}

-- ---- a patch that lies in a file

pub record IsLow (patch : Patch) : Type 0 where
  pub dirty : (p b : ℕ) → dirty_at patch p ≡ Some b → p < 2 ^ 40
  pub pending : (n : ℕ) → patch.pending ≡ Some n → n ≤ 2 ^ 40

abbrev pub AllLow : List (Resource × Patch) → Type 0
AllLow patches = (r : Resource) → IsLow (patch_at r patches)

-- ---- a change

-- all of it lies in a file
abbrev pub InFile : Flush → Type 0
InFile (flush.Put at bytes) = at + length bytes ≤ 2 ^ 40
InFile (flush.Cut size) = size ≤ 2 ^ 40

pub run_low : (at : ℕ) (bs : List ℕ) (p b : ℕ) (d : Option ℕ) → overlay at bs p d ≡ Some b → (p < at + length bs) ⊎ (d ≡ Some b)
run_low at [] p b d e = inr e
run_low at (x ∷ bs) p b d e = by (nat_eq at p) refl e (run_low (suc at) bs p b d)
  where
    by : (v : Bool) → nat_eq at p ≡ v → (if v then Some x else overlay (suc at) bs p d) ≡ Some b
        → (overlay (suc at) bs p d ≡ Some b → (p < suc at + length bs) ⊎ (d ≡ Some b)) → (p < at + suc (length bs)) ⊎ (d ≡ Some b)
    by true f e ih = inl (let same = eqb-true at p f in omega (arith, same))
    by false f e ih = ⊎_elim (λ (l : p < suc at + length bs). inl (omega (arith, l))) (λ (q : d ≡ Some b). inr q) (ih e)

-- each position of a run has a byte
run_has : (at : ℕ) (bs : List ℕ) (p : ℕ) → at ≤ p → p < at + length bs → (b : ℕ) × (overlay at bs p None ≡ Some b)
run_has at [] p low high = absurd (omega (arith, low, high))
run_has at (x ∷ bs) p low high = by (nat_eq at p) refl (λ more. run_has (suc at) bs p more (omega (arith, high)))
  where
    by : (v : Bool) → nat_eq at p ≡ v → (suc at ≤ p → (b : ℕ) × (overlay (suc at) bs p None ≡ Some b))
        → (b : ℕ) × ((if v then Some x else overlay (suc at) bs p None) ≡ Some b)
    by true f ih = (x, refl)
    by false f ih = ih (grind (arith, nat_tests, f, low))

cut_low : (n : ℕ) (o : Option ℕ) (p b : ℕ) (d : Option ℕ) → dirty_cut n o p d ≡ Some b → p < n
cut_low n None p b d e = by (nat_lt p n) refl e
  where
    by : (v : Bool) → nat_lt p n ≡ v → (if v then d else None) ≡ Some b → p < n
    by true f e = ltb-true p n f
    by false f e = absurd (cc)
cut_low n (Some q) p b d e = by (nat_lt p n) refl e
  where
    by : (v : Bool) → nat_lt p n ≡ v → (if v then (if nat_eq (suc p) n && nat_lt q n then Some (value d) else d) else None) ≡ Some b
        → p < n
    by true f e = ltb-true p n f
    by false f e = absurd (cc)

some_is : (a b : ℕ) → Some a ≡ Some b → a ≡ b
some_is a b e = cc

-- the cut that is pending after another one
cuts_low : (n m : ℕ) (o : Option ℕ) → n ≤ 2 ^ 40 → ((q : ℕ) → o ≡ Some q → q ≤ 2 ^ 40) → cut_by (Cut n) o ≡ Some m → m ≤ 2 ^ 40
cuts_low n m None fits low e = subst (λ (k : ℕ). k ≤ 2 ^ 40) (some_is n m e) fits
cuts_low n m (Some q) fits low e = by (nat_lt n q) e
  where
    by : (v : Bool) → (if v then Some n else Some q) ≡ Some m → m ≤ 2 ^ 40
    by true e = subst (λ (k : ℕ). k ≤ 2 ^ 40) (some_is n m e) fits
    by false e = subst (λ (k : ℕ). k ≤ 2 ^ 40) (some_is q m e) (low q refl)

made_low : (change : Flush) (patch : Patch) → InFile change → IsLow patch → IsLow (made change patch)
made_low (flush.Put at bytes) patch fits low =
    record {
      dirty = λ p b e.
          ⊎_elim (λ (l : p < at + length bytes). omega (arith, l, fits)) (λ (q : dirty_at patch p ≡ Some b). low.dirty p b q)
          (run_low at bytes p b (dirty_at patch p) (sym (patch_made (flush.Put at bytes) patch p).dirty ∙ e));
      pending = λ n e. low.pending n (sym (patch_made (flush.Put at bytes) patch 0).pending ∙ e);
    }
made_low (flush.Cut size) patch fits low =
    record {
      dirty = λ p b e.
          let l = cut_low size patch.pending p b (dirty_at patch p) (sym (patch_made (flush.Cut size) patch p).dirty ∙ e) in
          omega (arith, l, fits);
      pending = λ n e. cuts_low size n patch.pending fits low.pending (sym (patch_made (flush.Cut size) patch 0).pending ∙ e);
    }

-- ---- what a call changes

on_length : (l : Raid0) (i p : ℕ) (bs : List ℕ) → length (bytes_on l i p bs) ≤ length bs
on_length l i p [] = omega arith
on_length l i p (b ∷ bs) = by (stripe_of l p == i) (on_length l i (p + 1) bs)
  where
    by : (v : Bool) → length (bytes_on l i (p + 1) bs) ≤ length bs
        → length (if v then b ∷ bytes_on l i (p + 1) bs else bytes_on l i (p + 1) bs) ≤ suc (length bs)
    by true h = omega (arith, h)
    by false h = omega (arith, h)

piece_fits : (running : Running) (work : Work) (stripe : ℕ) (change : Flush) → IsCall running.call → ChangesOn running work
    → piece_on work.layout work.kind stripe ≡ Some change → InFile change
piece_fits running work stripe change limits (inl w) piece =
    let is : flush.Put (below_on work.layout stripe w.offset) (bytes_on work.layout stripe w.offset w.bytes) ≡ change = one
    (flush.Put (below_on work.layout stripe w.offset) (bytes_on work.layout stripe w.offset w.bytes)) change
    (ap (λ (k : Kind). piece_on work.layout k stripe) (sym w.kind) ∙ piece) in
    subst InFile is
    (let low = below_low work.layout stripe w.offset in
    let few = on_length work.layout stripe w.offset w.bytes in
    let short = (subst IsCall w.writes limits).1.2 in
    omega (arith, low, few, short))
  where
    one : (a b : Flush) → Some a ≡ Some b → a ≡ b
    one a b e = cc
piece_fits running work stripe change limits (inr w) piece =
    let is : flush.Cut (below_on work.layout stripe w.size) ≡ change = one (flush.Cut (below_on work.layout stripe w.size)) change
    (ap (λ (k : Kind). piece_on work.layout k stripe) (sym w.kind) ∙ piece) in
    subst InFile is (let low = below_low work.layout stripe w.size in let short = (subst IsCall w.cuts limits).1 in
    omega (arith, low, short))
  where
    one : (a b : Flush) → Some a ≡ Some b → a ≡ b
    one a b e = cc

-- ---- a write-back and its answer

other_low : (n m : ℕ) (o : Option ℕ) → other_cut n o ≡ Some m → o ≡ Some m
other_low n m None e = absurd (cc)
other_low n m (Some q) e = by (q == n) e
  where
    by : (v : Bool) → (if v then None else Some q) ≡ Some m → Some q ≡ Some m
    by true e = absurd (cc)
    by false e = e

acked_low : (patch : Patch) → RisingFrom 0 patch.dirty → IsLow patch → IsLow (acked patch)
acked_low patch rises low = by patch.flight refl
  where
    by : (f : Option Flying) → patch.flight ≡ f → IsLow (acked patch)
    by None e = subst (λ (o : Option Flying). IsLow (acked_flight patch o)) (sym e) low
    by (Some (CutFlies n)) e =
        subst (λ (o : Option Flying). IsLow (acked_flight patch o)) (sym e)
        (record { dirty = low.dirty; pending = λ m q. low.pending m (other_low n m patch.pending q) })
    by (Some BytesFly) e =
        record {
          dirty = λ p b q. low.dirty p b (stays p b (flying_at patch p) (sym (bytes_acked patch p rises e).dirty ∙ q));
          pending = λ m q. low.pending m (sym (bytes_acked patch 0 rises e).pending ∙ q);
        }
      where
        stays : (p b : ℕ) (v : Bool) → (if v then None else dirty_at patch p) ≡ Some b → dirty_at patch p ≡ Some b
        stays p b true e = absurd (cc)
        stays p b false e = e

taken_low : (change : Flush) (patch : Patch) → Carries patch change → IsLow patch → IsLow (flown change patch)
taken_low change patch carries low =
    record {
      dirty = λ p b e. low.dirty p b (sym (patch_taken change patch p carries).dirty ∙ e);
      pending = λ n e. low.pending n (sym (patch_taken change patch 0 carries).pending ∙ e);
    }

-- what is written back next does
pub next_low : (x : Extent) (patch : Patch) (change : Flush) → IsNext x patch change → IsLow patch → InFile change
next_low x patch (flush.Cut size) next low = low.pending size next.0
next_low x patch (flush.Put at bytes) next low =
    let some = next.some in
    let last = run_has at bytes (at + length bytes - 1) (omega (arith, some)) (omega (arith, some)) in
    let there = low.dirty (at + length bytes - 1) last.0 (next.carries (at + length bytes - 1) last.0 last.1) in
    omega (arith, some, there)

-- ---- each line

with_low : (s : Resource) (x : Patch) (m : List (Resource × Patch)) → IsLow x → AllLow m → AllLow (with_object s x m)
with_low s x m low all r = ⊎_elim
    (λ (e : patch_at r (with_object s x m) ≡ patch_at r m). subst IsLow (sym e) (all r))
    (λ (e : (s ≡ r) × (patch_at r (with_object s x m) ≡ x)). subst IsLow (sym e.1) low)
    (patch_with s r x m)

on_low : (s : Resource) (f : Patch → Patch) (m : List (Resource × Patch)) → IsLow (f (patch_at s m)) → AllLow m → AllLow (on_object s f m)
on_low s f m low all r = ⊎_elim
    (λ (e : patch_at r (on_object s f m) ≡ patch_at r m). subst IsLow (sym e) (all r))
    (λ (e : (s ≡ r) × (patch_at r (on_object s f m) ≡ f (patch_at r m))). subst IsLow (sym e.1)
    (subst (λ (q : Resource). IsLow (f (patch_at q m))) e.0 low))
    (patch_on s r f m)

clean_low : (r : Resource) → IsLow (patch_at r [])
clean_low r = record { dirty = λ p b e. absurd (cc); pending = λ n e. absurd (cc) }

module _ (head : Head) (c : ℕ) where
  pub all_low : (past : List Line) → Grown head past → AllLow (patches_at c past)
  all_low [] g = clean_low
  all_low (l ∷ past) g = by l.at.node l.entry (g.0.ok) (all_low past g.1)
    where
      m : List (Resource × Patch)
      m = patches_at c past

      if_own : (b : Bool) (x : List (Resource × Patch)) → (b ≡ true → AllLow x) → AllLow m → AllLow (if b then x else m)
      if_own true x f all = f refl
      if_own false x f all = all

      taken : (d : ℕ) (s : Resource) (change : Flush) → WritesBackOk past d s change → nat_eq c d ≡ true → AllLow m
          → AllLow (on_object s (flown change) m)
      taken d s change ok own all =
          let same = eqb-true c d own in
          let under = under_pw (patch_at s
          (patches_at d past)) ok.holding.lock.ask.mode ok.holding.lock.ask.policy change ok.mode ok.next in
          let next = next_is under.0 (patch_at s (patches_at d past)) change (patch_rises d past s) under.2 in
          let carries : Carries (patch_at s m) change = subst (λ (n : ℕ). Carries (patch_at s (patches_at n past)) change) (sym same)
          (next_carries under.0 (patch_at s (patches_at d past)) change next) in
          on_low s (flown change) m (taken_low change (patch_at s m) carries (all s)) all

      by : (node : Node) (e : word.Entry) → EntryOk past (turn l.at.stamp node) node e → AllLow m
          → AllLow (patches_at c (line (turn l.at.stamp node) e ∷ past))
      by (Client d) (word.Changes s change) ok all =
          if_own (nat_eq c d) (with_object s (made change (patch_at s m)) m)
          (λ own. with_low s (made change (patch_at s m)) m
          (made_low change (patch_at s m)
          (piece_fits ok.running ok.work ok.next.want.resource.stripe change
          (limited head past g.1 d ok.slot ok.running ok.call) ok.does ok.is) (all s)) all)
          all
      by (Client d) (word.WritesBack s change) ok all = if_own (nat_eq c d) (on_object s (flown change) m)
          (λ own. taken d s change ok own all) all
      by (Client d) (word.Acks s) ok all = if_own (nat_eq c d) (on_object s acked m)
          (λ own. on_low s acked m (acked_low (patch_at s m) (patch_rises c past s) (all s)) all) all
      by (Client d) (word.Life who) ok all = if_own (nat_eq c d) [] (λ own. clean_low) all
      by (Target t) (word.Changes s change) ok all = absurd ok
      by (Target t) (word.WritesBack s change) ok all = absurd ok
      by (Target t) (word.Acks s) ok all = absurd ok
      by (Target t) (word.Life who) ok all = absurd ok
      by node e ok all = all

-- its dirty bytes stand at offsets that an object may have
pub dirty_low : (head : Head) (past : List Line) → Grown head past → (c : ℕ) (r : Resource) (p b : ℕ)
    → dirty_at (patch_at r (patches_at c past)) p ≡ Some b → p ≤ the_end
dirty_low head past g c r p b e = let low = (all_low head c past g r).dirty p b e in omega (arith, low)
