-- Flushes come to an end, and the object is then what was seen.
use Rattle.std.proofs.Common.{◌≡◌, ℕ, zero, suc, ◌+◌, ◌-◌, ◌%◌, ◌^◌, ◌<◌, ◌≤◌, inl, Bool, true, false, cond, List, [], ◌∷◌, ◌++◌, length}
use Rattle.std.proofs.Common.{length-append, take, Option, Some, None, refl, sym, ap, subst, ◌∙◌, arith}
use Rattle.std.specs.Prelude.{nat_eq, nat_lt, nat_le, ◌==◌, ◌&&◌, ◌||◌, is_some, map, filter, not, if◌then◌else◌}
use Rattle.std.proofs.lemmas.Bool.Decides.{nat_tests}
use Rattle.std.proofs.lemmas.List.Elements.{filter-append}
use Rattle.lu_base.specs.declared.locks.Extent.{Extent}
use Rattle.lu_spec_entries.specs.declared.changes.Dirty.{Dirty}
use Rattle.lu_spec_machine.specs.Places.{Places, RisingFrom, below, from, laid, is_in, inside}
use Rattle.lu_spec_machine.specs.Objects.{Object}
use Rattle.lu_spec_machine.proofs.Places.{in_whole, rising_laid}
use Rattle.lu_spec_machine.proofs.Objects.{object_puts, object_cuts}
use Rattle.lu_spec_client.specs.Bytes.{page_size, run_from, first_run}
use Rattle.lu_spec_client.specs.Patches.{Patch, holds_extent, cut_extent, cut_within, bytes_of, flush_with, next_flush, has_change, sent}
use Rattle.lu_spec_client.specs.Patches.{landed, other_cut, acked_flight, taken, acked}
use Rattle.lu_patch.specs.Sound.{NoneFlies, IsAtRest}
use Rattle.lu_patch.specs.Seen.{seen}
use Rattle.lu_patch.specs.WriteBack.{applied, flushed, object_flushed, flushed_by, object_by, left, Spares, whole}
use Rattle.lu_patch.specs.WriteBackLaws.{FlushLowers, FlushesEnd, FlushesWriteWhatIsSeen}
use Rattle.lu_spec_bytes.specs.Maps.{AllBelow, IsMap}
use Rattle.lu_spec_bytes.proofs.Rising.{rising_filter, all_filter}
use Rattle.lu_patch.proofs.Maps.{around, all_on}
use Rattle.lu_patch.proofs.Landings.{landed_run, none_flies, none_flies_landed}
use Rattle.lu_patch.proofs.WriteBack.{cut_is_pending, flush_is_unseen}

-- ---- how many stand in an extent round a hole

abbrev one : Bool → ℕ
one true = 1
one false = 0

count_first : (w : Extent) (e : ℕ × Dirty) (m : Places Dirty) → length (inside w (e ∷ m)) ≡ one (is_in w e.0) + length (inside w m)
count_first w e m = by (is_in w e.0)
  where
    by : (v : Bool) → length (cond v (e ∷ inside w m) (inside w m)) ≡ one v + length (inside w m)
    by true = omega arith
    by false = omega arith

count_parts : (w : Extent) (at k : ℕ) (m : Places Dirty) → at ≤ k
    → length (inside w (below at m)) + length (inside w (from k m)) ≤ length (inside w m)
count_parts w at k [] less = omega arith
count_parts w at k (e ∷ m) less = by (nat_lt e.0 at) (nat_le k e.0) refl refl (count_parts w at k m less) (count_first w e m)
  where
    by : (u v : Bool) → nat_lt e.0 at ≡ u → nat_le k e.0 ≡ v → length (inside w (below at m)) + length (inside w (from k m)) ≤ length
        (inside w m)
        → length (inside w (e ∷ m)) ≡ one (is_in w e.0) + length (inside w m)
        → length (inside w (cond u (e ∷ below at m) (below at m))) + length (inside w (cond v (e ∷ from k m) (from k m))) ≤ length
        (inside w (e ∷ m))
    by true true low high ih is = absurd (grind (arith, nat_tests, less))
    by true false low high ih is = let first : length (inside w (e ∷ below at m)) ≡ one (is_in w e.0) + length (inside w (below at m)) =
        count_first w e (below at m) in omega (arith, ih, is, first)
    by false true low high ih is = let first : length (inside w (e ∷ from k m)) ≡ one (is_in w e.0) + length (inside w (from k m)) =
        count_first w e (from k m) in omega (arith, ih, is, first)
    by false false low high ih is = omega (arith, ih, is)

same_first : (d e : ℕ × Dirty) (a b : Places Dirty) → d ∷ a ≡ e ∷ b → d.0 ≡ e.0
same_first d e a b h = ap (λ (f : ℕ × Dirty). f.0) (first h)
  where
    first : d ∷ a ≡ e ∷ b → d ≡ e
    first h = cc (h)

-- fewer, where the hole has the first of them
count_less : (w : Extent) (at k : ℕ) (m : Places Dirty) (d : ℕ × Dirty) (ds : Places Dirty) → inside w m ≡ d ∷ ds → d.0 ≡ at → at < k
    → length (inside w (below at m)) + length (inside w (from k m)) < length (inside w m)
count_less w at k [] d ds shape first less = absurd (cc (shape))
count_less w at k (e ∷ m) d ds shape first less = by (is_in w e.0) refl shape (count_less w at k m d ds)
  where
    parts : length (inside w (below at m)) + length (inside w (from k m)) ≤ length (inside w m)
    parts = count_parts w at k m (omega (arith, less))

    here : (e.0 ≡ at) → is_in w e.0 ≡ true → length (inside w (below at (e ∷ m))) + length (inside w (from k (e ∷ m))) < length
        (inside w (e ∷ m))
    here same is =
        let low : nat_lt e.0 at ≡ false = grind (arith, nat_tests, same) in
        let high : nat_le k e.0 ≡ false = grind (arith, nat_tests, same, less) in
        let count : length (inside w (e ∷ m)) ≡ 1 + length (inside w m) = count_first w e m ∙ ap (λ v. one v + length (inside w m)) is in
        rw (low, high) (omega (arith, parts, count))

    past : is_in w e.0 ≡ false → length (inside w (below at m)) + length (inside w (from k m)) < length (inside w m)
        → length (inside w (below at (e ∷ m))) + length (inside w (from k (e ∷ m))) < length (inside w (e ∷ m))
    past out ih = split (nat_lt e.0 at) (nat_le k e.0)
      where
        drops : (n : Places Dirty) → length (inside w (e ∷ n)) ≡ length (inside w n)
        drops n = let is : length (inside w (e ∷ n)) ≡ 0 + length (inside w n) = count_first w e n
            ∙ ap (λ v. one v + length (inside w n)) out in omega (arith, is)

        split : (u v : Bool) → length (inside w (cond u (e ∷ below at m) (below at m))) + length
            (inside w (cond v (e ∷ from k m) (from k m))) < length (inside w (e ∷ m))
        split true true = let a : _ = drops (below at m) in let b : _ = drops (from k m) in let c : _ = drops m
            in omega (arith, ih, a, b, c)
        split true false = let a : _ = drops (below at m) in let c : _ = drops m in omega (arith, ih, a, c)
        split false true = let b : _ = drops (from k m) in let c : _ = drops m in omega (arith, ih, b, c)
        split false false = let c : _ = drops m in omega (arith, ih, c)

    by : (v : Bool) → is_in w e.0 ≡ v → cond v (e ∷ inside w m) (inside w m) ≡ d ∷ ds
        → (inside w m ≡ d ∷ ds → d.0 ≡ at → at < k → length (inside w (below at m)) + length (inside w (from k m)) < length (inside w m))
        → length (inside w (below at (e ∷ m))) + length (inside w (from k (e ∷ m))) < length (inside w (e ∷ m))
    by true is shape ih = here (same_first e d (inside w m) ds shape ∙ first) is
    by false is shape ih = past is (ih shape first less)

count_around : (w : Extent) (at n : ℕ) (m : Places Dirty) → length (inside w (around at n m))
    ≡ length (inside w (below at m)) + length (inside w (from (at + n) m))
count_around w at n m =
    ap length (filter-append (λ (e : ℕ × Dirty). is_in w e.0) (below at m) (from (at + n) m))
    ∙ length-append (inside w (below at m)) (inside w (from (at + n) m))

-- ---- a run has a byte

run_some : (n : ℕ) (e : ℕ × Dirty) (m : Places Dirty) → 0 < n → 0 < length (bytes_of (take n (run_from e.0 (e ∷ m))))
run_some zero e m h = absurd (omega (arith, h))
run_some (suc n) e m h = let test : (e.0 == e.0) ≡ true = grind (arith, nat_tests) in rw test (omega arith)

-- ---- one flush

landed_map : (at : ℕ) (bs : List ℕ) (m : Places Dirty) → IsMap m → NoneFlies m → IsMap (landed (laid at (sent bs) m))
landed_map at bs m h rest =
    record {
      rising = rising_filter 0 (λ (f : ℕ × Dirty). not f.1.flies) (laid at (sent bs) m) (rising_laid at (sent bs) m h.rising);
      below =
          subst (AllBelow (2 ^ 62)) (sym (landed_run at bs m rest))
          (all_on (2 ^ 62) (below at m) (from (at + length bs) m) (all_filter (2 ^ 62) (λ (f : ℕ × Dirty). nat_lt f.0 at) m h.below)
          (all_filter (2 ^ 62) (λ (f : ℕ × Dirty). nat_le (at + length bs) f.0) m h.below));
    }

module _ (within : Extent) (p : Patch) (rest : IsAtRest p) where
  pub flush_rests : IsAtRest (flushed within p)
  flush_rests = by (cut_within within p.pending) (inside within p.dirty)
    where
      by : (c : Option ℕ) (m : Places Dirty) → IsAtRest (acked (taken (flush_with c m) p))
      by (Some n) m = (refl, record { map = rest.1.map; flies = none_flies p rest })
      by None [] = subst (λ f. IsAtRest (acked_flight p f)) (sym rest.0) rest
      by None (e ∷ m) =
          let bs : List ℕ = bytes_of (take (page_size - e.0 % page_size) (run_from e.0 (e ∷ m))) in (
            refl,
            record {
              map = landed_map e.0 bs p.dirty rest.1.map (none_flies p rest);
              flies =
                  none_flies_landed (laid e.0 (sent bs) p.dirty);
            },
          )

  put_lowers : (e : ℕ × Dirty) (m : Places Dirty) (bs : List ℕ) → 0 < length bs → inside within p.dirty ≡ e ∷ m
      → length (inside within (landed (laid e.0 (sent bs) p.dirty))) < length (e ∷ m)
  put_lowers e m bs some shape =
      let is : length (inside within (landed (laid e.0 (sent bs) p.dirty)))
      ≡ length (inside within (below e.0 p.dirty)) + length (inside within (from (e.0 + length bs) p.dirty)) =
      ap (λ r. length (inside within r)) (landed_run e.0 bs p.dirty (none_flies p rest)) ∙ count_around within e.0 (length bs) p.dirty in
      let less : length (inside within (below e.0 p.dirty)) + length (inside within (from (e.0 + length bs) p.dirty)) < length
      (inside within p.dirty) =
      count_less within e.0 (e.0 + length bs) p.dirty e m shape refl (omega (arith, some)) in
      let all : length (inside within p.dirty) ≡ length (e ∷ m) = ap length shape in
      omega (arith, is, less, all)

  flush_lowers : has_change within p ≡ true → left within (flushed within p) < left within p
  flush_lowers some = by (cut_within within p.pending) (inside within p.dirty) refl refl some
    where
      by : (c : Option ℕ) (m : Places Dirty) → cut_within within p.pending ≡ c → inside within p.dirty ≡ m
          → (is_some c || is_some (first_run m)) ≡ true
          → left within (acked (taken (flush_with c m) p)) < (if is_some c then 1 else 0) + length m
      by (Some n) m is shape some =
          let gone : other_cut n p.pending ≡ None = cut_gone n p.pending (cut_is_pending within p.pending n is) in
          let all : length (inside within p.dirty) ≡ length m = ap length shape in
          rw gone (omega (arith, all))
        where
          cut_gone : (n : ℕ) (pending : Option ℕ) → pending ≡ Some n → other_cut n pending ≡ None
          cut_gone n None same = absurd (cc (same))
          cut_gone n (Some c) same =
              let value : c ≡ n = cc (same) in
              let test : (c == n) ≡ true = grind (arith, nat_tests, value) in
              rw test refl
      by None [] is shape some = absurd (cc (some))
      by None (e ∷ m) is shape some =
          let bs : List ℕ = bytes_of (take (page_size - e.0 % page_size) (run_from e.0 (e ∷ m))) in
          let lower : length (inside within (landed (laid e.0 (sent bs) p.dirty))) < length (e ∷ m) =
          put_lowers e m bs (run_some (page_size - e.0 % page_size) e m (omega arith)) shape in
          rw is (omega (arith, lower))

  -- where no change is left
  none_left : left within p ≤ 0 → has_change within p ≡ false
  none_left none = by (cut_within within p.pending) (inside within p.dirty) none
    where
      by : (c : Option ℕ) (m : Places Dirty) → (if is_some c then 1 else 0) + length m ≤ 0 → (is_some c || is_some (first_run m)) ≡ false
      by (Some n) m none = absurd (omega (arith, none))
      by None [] none = refl
      by None (e ∷ m) none = absurd (omega (arith, none))

  unchanged : has_change within p ≡ false → left within (flushed within p) ≤ 0
  unchanged none = by (cut_within within p.pending) (inside within p.dirty) refl refl none
    where
      by : (c : Option ℕ) (m : Places Dirty) → cut_within within p.pending ≡ c → inside within p.dirty ≡ m
          → (is_some c || is_some (first_run m)) ≡ false
          → left within (acked (taken (flush_with c m) p)) ≤ 0
      by (Some n) m is shape none = absurd (cc (none))
      by None (e ∷ m) is shape none = absurd (cc (none))
      by None [] is shape none =
          let zero_left : left within p ≤ 0 = rw (is, shape) (omega arith) in
          subst (λ f. left within (acked_flight p f) ≤ 0) (sym rest.0) zero_left

  flush_left : (k : ℕ) → left within p ≤ suc k → left within (flushed within p) ≤ k
  flush_left k less = by (has_change within p) refl
    where
      by : (v : Bool) → has_change within p ≡ v → left within (flushed within p) ≤ k
      by true some = let lower : left within (flushed within p) < left within p = flush_lowers some in omega (arith, lower, less)
      by false none = let zero_left : left within (flushed within p) ≤ 0 = unchanged none in omega (arith, zero_left)

pub flush_lowers_left : FlushLowers
flush_lowers_left within p rest some = record { lowers = flush_lowers within p rest some; rests = flush_rests within p rest }

pub flushes_end : FlushesEnd
flushes_end within p zero rest less = none_left within p rest less
flushes_end within p (suc k) rest less = flushes_end within (flushed within p) k (flush_rests within p rest)
    (flush_left within p rest k less)

-- ---- a lock on everything

whole_holds : (n : ℕ) → holds_extent whole (cut_extent n) ≡ true
whole_holds n = grind (arith, nat_tests)

spares_whole : (pending : Option ℕ) → Spares whole pending
spares_whole None = tt
spares_whole (Some n) = inl (whole_holds n)

cut_unseen : (pending : Option ℕ) → cut_within whole pending ≡ None → pending ≡ None
cut_unseen None h = refl
cut_unseen (Some n) h = absurd (by (holds_extent whole (cut_extent n)) (whole_holds n) h)
  where
    by : (v : Bool) → v ≡ true → (if v then Some n else None) ≡ None → ⊥
    by true is h = absurd (cc (h))
    by false is h = absurd (cc (is))

bytes_unseen : (m : Places Dirty) → AllBelow (2 ^ 62) m → inside whole m ≡ [] → m ≡ []
bytes_unseen [] h none = refl
bytes_unseen (e ∷ m) h none = absurd (by (is_in whole e.0) (in_whole whole e.0 (omega arith) (omega (arith, h.0))) none)
  where
    by : (v : Bool) → v ≡ true → cond v (e ∷ inside whole m) (inside whole m) ≡ [] → ⊥
    by true is none = absurd (cc (none))
    by false is none = absurd (cc (is))

all_written : (p : Patch) (object : Object) → AllBelow (2 ^ 62) p.dirty → left whole p ≤ 0 → object ≡ seen p object
all_written p object fits none = by (cut_within whole p.pending) (inside whole p.dirty) refl refl none
  where
    by : (c : Option ℕ) (m : Places Dirty) → cut_within whole p.pending ≡ c → inside whole p.dirty ≡ m
        → (if is_some c then 1 else 0) + length m ≤ 0 → object ≡ seen p object
    by (Some n) m is shape none = absurd (omega (arith, none))
    by None (e ∷ m) is shape none = absurd (omega (arith, none))
    by None [] is shape none = rw (cut_unseen p.pending is, bytes_unseen p.dirty fits shape) refl

object_rises : (within : Extent) (p : Patch) (object : Object) → RisingFrom 0 object → RisingFrom 0 (object_flushed within p object)
object_rises within p object h = by (cut_within within p.pending) (inside within p.dirty)
  where
    by : (c : Option ℕ) (m : Places Dirty) → RisingFrom 0 (applied (flush_with c m) object)
    by (Some n) m = (object_cuts n object).rises h
    by None [] = h
    by None (e ∷ m) = (object_puts e.0 (bytes_of (take (page_size - e.0 % page_size) (run_from e.0 (e ∷ m)))) object).rises h

pub flushes_write_what_is_seen : FlushesWriteWhatIsSeen
flushes_write_what_is_seen p object zero rest rising less = all_written p object rest.1.map.below less
flushes_write_what_is_seen p object (suc k) rest rising less =
    flushes_write_what_is_seen (flushed whole p) (object_flushed whole p object) k (flush_rests whole p rest)
    (object_rises whole p object rising) (flush_left whole p rest k less)
    ∙ flush_is_unseen whole p object rest rising (spares_whole p.pending)
