-- What the tables find among the calls that are done is what the laws ask of all of them.
use Rattle.std.proofs.Common.{◌≡◌, ℕ, ◌+◌, ◌-◌, ◌/◌, ◌^◌, ◌≤◌, ◌<◌, Bool, true, false, cond, List, [], ◌∷◌, length, map, refl, sym, ap, ◌∙◌}
use Rattle.std.proofs.Common.{⊎_elim, arith}
use Rattle.std.specs.Prelude.{nat_lt, nat_le, ◌==◌, ◌&&◌, ◌||◌, filter, reverse, slice_get}
use Rattle.std.specs.List.{list_any}
use Rattle.std.proofs.lemmas.Bool.{cases_lt}
use Rattle.std.proofs.lemmas.Bool.Decides.{nat_tests}
use Rattle.std.proofs.lemmas.List.Sorted.{list_any-IsPermutation, IsPermutation-reverse}
use Rattle.std.proofs.lemmas.Nat.{le-div}
use Rattle.std.proofs.lemmas.Option.{slice_get_past}
use Rattle.std.proofs.Math.Nat.{div-mul-le_self}
use Rattle.lu_layout.specs.Raid0.{Raid0, position_of, below_of}
use Rattle.lu_msg.specs.declared.calls.Call.{Call}
use Rattle.lu_msg.specs.declared.calls.Call.TheVariants as call
use Rattle.lu_spec_laws.specs.Words.Pieces.{is_byte, wrote, cuts_to, has_origin, have_origin}
use Rattle.lu_spec_laws.proofs.Tests.{both}
use Rattle.lu_judge_calls.specs.declared.origins.Carrier.{Carrier}
use Rattle.lu_judge_calls.specs.declared.origins.Done.{Done}
use Rattle.lu_judge_calls.specs.Marks.{Mark, IsWithin, touches, is_cut, cuts_within, has_mark}
use Rattle.lu_judge_calls.specs.PieceTables.{page_in, cuts_in, has_cut, has_write, has_source, have_sources}
use Rattle.lu_judge_history.specs.Carried.{call_of, is_before, calls_before, touches_page, is_cut_mark}
use Rattle.lu_judge_history.proofs.Marks.{AreWithin}

any_reverse : (f : Mark → Bool) (marks : List Mark) → list_any f (reverse marks) ≡ list_any f marks
any_reverse f marks = sym (list_any-IsPermutation f marks (reverse marks) (IsPermutation-reverse marks))

-- of a call that a table keeps it asks what the laws ask, and of another one the laws' test doesn't hold
abbrev Agree : (Call → Bool) → (Call → Bool) → (Call → Bool) → Call → Type 0
Agree keep asks test c = (keep c ≡ true → asks c ≡ test c) × (keep c ≡ false → test c ≡ false)

module _ (keep asks test : Call → Bool) (limit : ℕ) where
  abbrev AllAgree : List Mark → Type 0
  AllAgree [] = Unit {0}
  AllAgree (m ∷ marks) = Agree keep asks test m.1 × AllAgree marks

  abbrev kept : List Mark → List Mark
  kept marks = filter (λ (m : Mark). keep m.1) marks

  any_kept : (marks : List Mark) → AllAgree marks → list_any (has_mark limit asks) (kept marks) ≡ list_any test (calls_before limit marks)
  any_kept [] agree = refl
  any_kept (m ∷ marks) agree = by (keep m.1) (nat_lt m.0 limit) refl refl (any_kept marks agree.1) where
    by : (k b : Bool) → keep m.1 ≡ k → nat_lt m.0 limit ≡ b → list_any (has_mark limit asks) (kept marks)
        ≡ list_any test (calls_before limit marks)
        → list_any (has_mark limit asks) (cond k (m ∷ kept marks) (kept marks))
        ≡ list_any test (map call_of (cond b (m ∷ filter (is_before limit) marks) (filter (is_before limit) marks)))
    by true true e g ih =
        ap (λ (x : Bool). (x && asks m.1) || list_any (has_mark limit asks) (kept marks)) g
        ∙ ap (λ (x : Bool). x || list_any (has_mark limit asks) (kept marks)) (agree.0.0 e)
        ∙ ap (λ (x : Bool). test m.1 || x) ih
    by true false e g ih = ap (λ (x : Bool). (x && asks m.1) || list_any (has_mark limit asks) (kept marks)) g ∙ ih
    by false true e g ih = ih ∙ sym (ap (λ (x : Bool). x || list_any test (calls_before limit marks)) (agree.0.1 e))
    by false false e g ih = ih

-- ---- writes

div_mono : (a b k : ℕ) → 0 < k → a ≤ b → a / k ≤ b / k
div_mono a b k some less = le-div (a / k) b k some (let down = div-mul-le_self a k in omega arith)

le_is : (m n : ℕ) → m ≤ n → nat_le m n ≡ true
le_is m n less = grind (arith, nat_tests)

no_byte : (byte : ℕ) (bytes : List ℕ) (i : ℕ) → length bytes ≤ i → is_byte byte (slice_get bytes i) ≡ false
no_byte byte bytes i past = ap (is_byte byte) (slice_get_past bytes i past)

untouched : (p byte offset : ℕ) (bytes : List ℕ) → (nat_le (offset / 4096) (p / 4096) && nat_le (p / 4096) ((offset + length bytes) / 4096))
    ≡ false
    → (nat_le offset p && is_byte byte (slice_get bytes (p - offset))) ≡ false
untouched p byte offset bytes other =
    ⊎_elim (λ under. ap (λ (b : Bool). b && is_byte byte (slice_get bytes (p - offset))) (over p offset under))
    (λ from.
    ⊎_elim (λ within.
    absurd (clash_of _ (both (le_is _ _ (div_mono offset p 4096 (omega arith) from))
    (le_is _ _ (div_mono p (offset + length bytes) 4096 (omega arith) (omega arith)))) other))
    (λ past. ap (λ (b : Bool). nat_le offset p && b) (no_byte byte bytes (p - offset) past) ∙ and_false (nat_le offset p))
    (cases_lt (p - offset) (length bytes)))
    (cases_lt p offset)
  where
    over : (m n : ℕ) → m < n → nat_le n m ≡ false
    over m n less = grind (arith, nat_tests)

    and_false : (a : Bool) → (a && false) ≡ false
    and_false true = refl
    and_false false = refl

    clash_of : (a : Bool) → a ≡ true → a ≡ false → ⊥
    clash_of true e f = absurd (cc)
    clash_of false e f = absurd (cc)

write_agrees : (p byte : ℕ) (c : Call) → Agree (touches (p / 4096)) (wrote p byte) (wrote p byte) c
write_agrees p byte (call.Write handle offset bytes) = (λ e. refl, λ e. untouched p byte offset bytes e)
write_agrees p byte _ = (λ e. refl, λ e. refl)

writes_agree : (p byte limit : ℕ) (marks : List Mark) → AllAgree (touches (p / 4096)) (wrote p byte) (wrote p byte) limit marks
writes_agree p byte limit [] = tt
writes_agree p byte limit (m ∷ marks) = (write_agrees p byte m.1, writes_agree p byte limit marks)

-- ---- cuts

cut_agrees : (layout : Raid0) (stripe below : ℕ) (c : Call) → IsWithin c
    → Agree is_cut (cuts_within layout stripe below) (cuts_to layout stripe below) c
cut_agrees layout stripe below (call.Cut handle size) within = (
  λ e. ap (λ (b : Bool). b && below_of layout stripe size == below) (le_is size (2 ^ 40) within),
  λ e. absurd (cc),
)
cut_agrees layout stripe below _ within = (λ e. refl, λ e. refl)

cuts_agree : (layout : Raid0) (stripe below limit : ℕ) (marks : List Mark) → AreWithin marks
    → AllAgree is_cut (cuts_within layout stripe below) (cuts_to layout stripe below) limit marks
cuts_agree layout stripe below limit [] within = tt
cuts_agree layout stripe below limit (m ∷ marks) within = (
  cut_agrees layout stripe below m.1 within.0,
  cuts_agree layout stripe below limit marks within.1,
)

-- ---- what is carried

module _
    (d : Done) (of : Carrier) (marks : List Mark)
    (writes : (page : ℕ) → page_in d.writes of.who of.fid page ≡ reverse (filter (touches_page page) marks))
    (cuts : cuts_in d.cuts of.who of.fid ≡ reverse (filter is_cut_mark marks))
    (within : AreWithin marks) where
  abbrev calls : List Call
  calls = calls_before of.limit marks

  write_is : (p byte : ℕ) → has_write d of p byte ≡ list_any (wrote p byte) calls
  write_is p byte =
      ap (λ (ms : List Mark). list_any (has_mark of.limit (wrote p byte)) ms) (writes (p / 4096))
      ∙ any_reverse (has_mark of.limit (wrote p byte)) (filter (touches_page (p / 4096)) marks)
      ∙ any_kept (touches (p / 4096)) (wrote p byte) (wrote p byte) of.limit marks (writes_agree p byte of.limit marks)

  pub cut_is : (below : ℕ) → has_cut d of below ≡ list_any (cuts_to of.layout.now of.stripe below) calls
  cut_is below =
      ap (λ (ms : List Mark). list_any (has_mark of.limit (cuts_within of.layout.now of.stripe below)) ms) cuts
      ∙ any_reverse (has_mark of.limit (cuts_within of.layout.now of.stripe below)) (filter is_cut_mark marks)
      ∙ any_kept is_cut (cuts_within of.layout.now of.stripe below) (cuts_to of.layout.now of.stripe below) of.limit marks
      (cuts_agree of.layout.now of.stripe below of.limit marks within)

  source_is : (offset byte : ℕ) → has_source d of offset byte ≡ has_origin of.layout.now of.stripe calls offset byte
  source_is offset byte =
      ap (λ (b : Bool). b || (byte == 0 && has_cut d of (offset + 1))) (write_is (position_of of.layout.now of.stripe offset) byte)
      ∙ ap (λ (b : Bool). list_any (wrote (position_of of.layout.now of.stripe offset) byte) calls || (byte == 0 && b))
      (cut_is (offset + 1))

  pub sources_are : (offset : ℕ) (bytes : List ℕ) → have_sources d of offset bytes ≡ have_origin of.layout.now of.stripe calls offset bytes
  sources_are offset [] = refl
  sources_are offset (b ∷ bs) =
      ap (λ (x : Bool). x && have_sources d of (offset + 1) bs) (source_is offset b)
      ∙ ap (λ (x : Bool). has_origin of.layout.now of.stripe calls offset b && x) (sources_are (offset + 1) bs)
