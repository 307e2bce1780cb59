-- A change that a call makes of an object lies under a lock to write that the client holds.
use Rattle.std.proofs.Common.{◌≡◌, ℕ, ◌+◌, ◌-◌, ◌^◌, ◌≤◌, ◌<◌, true, List, [], ◌∷◌, ◌++◌, length, ◌⊎◌, inl, inr, Some, refl, sym, subst, ap}
use Rattle.std.proofs.Common.{◌∙◌, arith}
use Rattle.std.specs.Prelude.{map, nat_le}
use Rattle.std.proofs.lemmas.Bool.{and_parts}
use Rattle.std.proofs.lemmas.Bool.Decides.{nat_tests}
use Rattle.lu_base.specs.declared.ids.At.{At}
use Rattle.lu_base.specs.declared.ids.Fid.{Fid}
use Rattle.lu_base.specs.declared.locks.Extent.{Extent}
use Rattle.lu_base.specs.declared.locks.Lock.{Lock}
use Rattle.lu_base.specs.declared.locks.Mode.{Mode}
use Rattle.lu_base.specs.declared.locks.Mode.TheVariants.{PW}
use Rattle.lu_base.specs.declared.locks.Policy.{Policy}
use Rattle.lu_base.specs.declared.locks.Policy.TheVariants.{Range}
use Rattle.lu_base.specs.declared.locks.Resource.{Resource}
use Rattle.lu_layout.specs.Raid0.{Raid0}
use Rattle.lu_layout.specs.Sound.{IsLayout}
use Rattle.lu_lock.specs.Growth.{the_end}
use Rattle.lu_lock.specs.Modes.{serves}
use Rattle.lu_lock.specs.Overlap.{covers}
use Rattle.lu_spec_machine.specs.Places.{is_in}
use Rattle.lu_spec_machine.proofs.Places.{in_whole}
use Rattle.lu_spec_machine.specs.Tree.{no_file}
use Rattle.lu_trace.specs.WellFormed.{IsCall}
use Rattle.lu_held.specs.declared.locks.Use.{Use}
use Rattle.lu_spec_entries.specs.declared.changes.Flush.{Flush}
use Rattle.lu_spec_entries.specs.declared.changes.Flush.TheVariants as flush
use Rattle.lu_spec_entries.specs.declared.uses.Using.{Using}
use Rattle.lu_spec_entries.specs.Carried.{Kind}
use Rattle.lu_spec_entries.specs.Words.{Line}
use Rattle.lu_spec_client.specs.Caches.{held_at}
use Rattle.lu_spec_client.specs.Patches.{cut_extent}
use Rattle.lu_spec_client.specs.Stripes.{below_on, bytes_on, stripes}
use Rattle.lu_spec_client.specs.Wants.{want, wants_run, wants_cut, wants_of}
use Rattle.lu_proof_lawful.specs.Covered.Heads.{Head, IsHead}
use Rattle.lu_proof_bytes.specs.Object.Words.{within}
use Rattle.lu_proof_bytes.proofs.Object.Spot.{run_bounds}
use Rattle.lu_proof_objects.specs.Sound as client
use Rattle.lu_proof_objects.specs.Sound.{Writer}
use Rattle.lu_proof_objects.proofs.Made.{IsOver}
use Rattle.lu_proof_objects.proofs.Pieces.{stripe_there, on_length, run_wanted, cut_wanted}
use Rattle.lu_proof_objects.proofs.Using.{writes_only}
use Rattle.lu_proof_lawful.proofs.Preconditions.Guards.{In, ChangesOn, wanted_by, piece_on, ChangesOk}
use Rattle.lu_proof_lawful.proofs.Preconditions.Calls.{limited}
use Rattle.lu_proof_lawful.proofs.Preconditions.Grown.{Grown}
use Rattle.lu_proof_lawful.proofs.Preconditions.PinsFit.{PinsFit}
use Rattle.lu_proof_lawful.proofs.Refinement.ChangesFound.{good_layout, range_covers}
use Rattle.lu_proof_lawful.proofs.Refinement.Laying.{works_laid}
use Rattle.lu_proof_lawful.proofs.Refinement.Uses.{InUse, uses_held}
use Rattle.lu_proof_lawful.proofs.Laws.SilentReading.{below_low}
use Rattle.lu_proof_lawful.proofs.Laws.SoundLocks.{to_client, of_client}

in_wants : (u : Using) (us : List Using) → In u us → In u.want (map (λ (v : Using). v.want) us)
in_wants u [] i = absurd i
in_wants u (v ∷ us) (inl e) = inl (ap (λ (x : Using). x.want) e)
in_wants u (v ∷ us) (inr i) = inr (in_wants u us i)

in_middle : {A : Type 0} (x : A) (xs ys : List A) → In x (xs ++ x ∷ ys)
in_middle x [] ys = inl refl
in_middle x (z ∷ xs) ys = inr (in_middle x xs ys)

-- a stripe of a layout that may be none
some_layout : (l : Raid0) (i : ℕ) → (l ≡ no_file.layout) ⊎ IsLayout l → In i (stripes l) → IsLayout l
some_layout l i (inl e) j = absurd (subst (λ (k : Raid0). In i (stripes k)) e j)
some_layout l i (inr k) j = k

stripe_in : (l : Raid0) (i : ℕ) → client.In i (stripes l) → In i (stripes l)
stripe_in l i j = of_client i (stripes l) j

-- bytes that are written lie in what is wanted there
put_over : (l : Raid0) (fid : Fid) (o : ℕ) (bs : List ℕ) → (l ≡ no_file.layout) ⊎ IsLayout l → (w : Use)
    → In w (wants_run l fid PW o (o + length bs) (stripes l)) → (x : Extent) → covers (Range x) w.policy ≡ true
    → IsOver (flush.Put (below_on l w.resource.stripe o) (bytes_on l w.resource.stripe o bs)) x × (w.mode ≡ PW)
put_over l fid o bs laid w i x over = by (run_wanted l fid PW o (o + length bs) (stripes l) w
    (to_client w (wants_run l fid PW o (o + length bs) (stripes l)) i))
  where
    Goal : Use → Type 0
    Goal w = covers (Range x) w.policy ≡ true → IsOver (flush.Put (below_on l w.resource.stripe o) (bytes_on l w.resource.stripe o bs)) x
        × (w.mode ≡ PW)

    of : (i : ℕ) → client.In i (stripes l) → below_on l i o < below_on l i (o + length bs)
        → Goal (want l fid PW i (record { first = below_on l i o; last = below_on l i (o + length bs) - 1 }))
    of i j lt c = (λ p w. within_it p w, refl)
      where
        parts : (nat_le x.first (below_on l i o) ≡ true) × (nat_le (below_on l i (o + length bs) - 1) x.last ≡ true)
        parts = and_parts (nat_le x.first (below_on l i o)) (nat_le (below_on l i (o + length bs) - 1) x.last) c

        count : below_on l i o + length (bytes_on l i o bs) ≡ below_on l i (o + length bs)
        count = on_length l i o bs (some_layout l i laid (stripe_in l i j)) (stripe_there l i j)

        le : (a b : ℕ) → nat_le a b ≡ true → a ≤ b
        le a b e = grind (arith, nat_tests, e)

        within_it : (p : ℕ) → within (below_on l i o) (bytes_on l i o bs) p ≡ true → is_in x p ≡ true
        within_it p w =
            let r = run_bounds (below_on l i o) (bytes_on l i o bs) p w in
            let low = r.0 in
            let high = r.1 in
            let a = le x.first (below_on l i o) parts.0 in
            let b = le (below_on l i (o + length bs) - 1) x.last parts.1 in
            let same = count in
            in_whole x p (omega (arith, low, a)) (omega (arith, high, b, same))

    by : (i : ℕ) × client.In i (stripes l) × (below_on l i o < below_on l i (o + length bs))
        × (want l fid PW i (record { first = below_on l i o; last = below_on l i (o + length bs) - 1 }) ≡ w)
        → IsOver (flush.Put (below_on l w.resource.stripe o) (bytes_on l w.resource.stripe o bs)) x × (w.mode ≡ PW)
    by r = subst Goal r.3 (of r.0 r.1 r.2) over

-- so is a cut
cut_over : (l : Raid0) (fid : Fid) (n : ℕ) → n ≤ 2 ^ 40 → (w : Use) → In w (wants_cut l fid n (stripes l)) → (x : Extent)
    → covers (Range x) w.policy ≡ true → IsOver (flush.Cut (below_on l w.resource.stripe n)) x × (w.mode ≡ PW)
cut_over l fid n short w i x over = by (cut_wanted l fid n (stripes l) w (to_client w (wants_cut l fid n (stripes l)) i))
  where
    Goal : Use → Type 0
    Goal w = covers (Range x) w.policy ≡ true → IsOver (flush.Cut (below_on l w.resource.stripe n)) x × (w.mode ≡ PW)

    of : (i : ℕ) → Goal (want l fid PW i (cut_extent (below_on l i n)))
    of i c = ((c, low), refl)
      where
        low : below_on l i n ≤ the_end
        low = let b = below_low l i n in omega (arith, b, short)

    by : (i : ℕ) × client.In i (stripes l) × (want l fid PW i (cut_extent (below_on l i n)) ≡ w)
        → IsOver (flush.Cut (below_on l w.resource.stripe n)) x × (w.mode ≡ PW)
    by r = subst Goal r.2 (of r.0) over

pub change_under : (head : Head) → IsHead head → (past : List Line) → Grown head past → PinsFit past
    → (at : At) (c : ℕ) (r : Resource) (change : Flush) → ChangesOk past at c r change → Writer (held_at c past) r (λ x. IsOver change x)
change_under head ranges past g fit at c r change ok =
    let x = extent.0 in
    record {
      lock = uses.holding;
      held = to_client uses.holding (held_at c past) uses.held;
      object = ap (λ (l : Lock). l.resource) uses.is ∙ uses.of_object ∙ sym ok.of_object;
      mode = ap (λ (l : Lock). l.ask.mode) uses.is ∙ writes_only ok.next.lock.ask.mode
          (ap (λ (m : Mode). serves ok.next.lock.ask.mode m) (sym whole.1) ∙ uses.serves);
      extent = x;
      range = ap (λ (l : Lock). l.ask.policy) uses.is ∙ extent.1;
      over = whole.0;
    }
  where
    among : In ok.next ok.work.used
    among = subst (λ (us : List Using). In ok.next us) (sym ok.parts) (in_middle ok.next ok.done ok.more)

    wanted : In ok.next.want (wanted_by ok.work)
    wanted = subst (λ (ws : List Use). In ok.next.want ws) (sym ok.wants) (in_wants ok.next ok.work.used among)

    uses : InUse c past ok.next
    uses = uses_held head past g fit c ok.slot ok.running ok.work.used ok.call ok.uses ok.next among

    laid : (ok.work.layout ≡ no_file.layout) ⊎ IsLayout ok.work.layout
    laid = good_layout head ranges ok.work.fid ok.work.layout (works_laid head past g c ok.slot ok.running ok.call ok.work (inr ok.does))

    -- what is wanted is a range, so its lock has one
    ranged : (k : Kind) → ok.work.kind ≡ k → ChangesOn ok.running ok.work → (y : Extent) × (ok.next.want.policy ≡ Range y)
    ranged k e (inl d) =
        let r = run_wanted ok.work.layout ok.work.fid PW d.offset (d.offset + length d.bytes) (stripes ok.work.layout) ok.next.want
        (to_client ok.next.want (wants_run ok.work.layout ok.work.fid PW d.offset (d.offset + length d.bytes) (stripes ok.work.layout))
        (subst (λ (z : Kind). In ok.next.want (wants_of ok.work.layout ok.work.fid z)) d.kind wanted)) in (
          record { first = below_on ok.work.layout r.0 d.offset; last = below_on ok.work.layout r.0 (d.offset + length d.bytes) - 1 },
          ap (λ (u : Use). u.policy) (sym r.3),
        )
    ranged k e (inr d) =
        let r = cut_wanted ok.work.layout ok.work.fid d.size (stripes ok.work.layout) ok.next.want
        (to_client ok.next.want (wants_cut ok.work.layout ok.work.fid d.size (stripes ok.work.layout))
        (subst (λ (z : Kind). In ok.next.want (wants_of ok.work.layout ok.work.fid z)) d.kind wanted)) in
        (cut_extent (below_on ok.work.layout r.0 d.size), ap (λ (u : Use). u.policy) (sym r.2))

    extent : (x : Extent) × (ok.next.lock.ask.policy ≡ Range x)
    extent =
        let y = ranged ok.work.kind refl ok.does in
        let e = range_covers ok.next.lock.ask.policy y.0 (ap (λ (p : Policy). covers ok.next.lock.ask.policy p) (sym y.1) ∙ uses.covers) in
        (e.0, e.1)

    over : covers (Range extent.0) ok.next.want.policy ≡ true
    over = ap (λ (p : Policy). covers p ok.next.want.policy) (sym extent.1) ∙ uses.covers

    whole : IsOver change extent.0 × (ok.next.want.mode ≡ PW)
    whole = by ok.does
      where
        some : (a b : Flush) → Some a ≡ Some b → a ≡ b
        some a b e = cc

        by : ChangesOn ok.running ok.work → IsOver change extent.0 × (ok.next.want.mode ≡ PW)
        by (inl d) =
            let is : flush.Put (below_on ok.work.layout ok.next.want.resource.stripe d.offset)
            (bytes_on ok.work.layout ok.next.want.resource.stripe d.offset d.bytes) ≡ change =
            some (flush.Put (below_on ok.work.layout ok.next.want.resource.stripe d.offset)
            (bytes_on ok.work.layout ok.next.want.resource.stripe d.offset d.bytes)) change
            (ap (λ (z : Kind). piece_on ok.work.layout z ok.next.want.resource.stripe) (sym d.kind) ∙ ok.is) in
            subst (λ (z : Flush). IsOver z extent.0 × (ok.next.want.mode ≡ PW)) is
            (put_over ok.work.layout ok.work.fid d.offset d.bytes laid ok.next.want
            (subst (λ (z : Kind). In ok.next.want (wants_of ok.work.layout ok.work.fid z)) d.kind wanted) extent.0 over)
        by (inr d) =
            let is : flush.Cut (below_on ok.work.layout ok.next.want.resource.stripe d.size) ≡ change =
            some (flush.Cut (below_on ok.work.layout ok.next.want.resource.stripe d.size)) change
            (ap (λ (z : Kind). piece_on ok.work.layout z ok.next.want.resource.stripe) (sym d.kind) ∙ ok.is) in
            let limits = subst IsCall d.cuts (limited head past g c ok.slot ok.running ok.call) in
            subst (λ (z : Flush). IsOver z extent.0 × (ok.next.want.mode ≡ PW)) is
            (cut_over ok.work.layout ok.work.fid d.size limits.1 ok.next.want
            (subst (λ (z : Kind). In ok.next.want (wants_of ok.work.layout ok.work.fid z)) d.kind wanted) extent.0 over)
