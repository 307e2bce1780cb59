-- Calls that ask the same, and the handles that they read by.
use Rattle.std.proofs.Common.{◌≡◌, ℕ, Bool, true, false, Option, Some, List, [], ◌∷◌, refl, ap, ◌∙◌, sym, arith}
use Rattle.std.specs.Prelude.{◌==◌, ◌&&◌}
use Rattle.std.specs.List.{list_any}
use Rattle.std.specs.Str.{bytes_eq}
use Rattle.std.specs.Cmp.Lexicographic.{pointwise}
use Rattle.std.proofs.lemmas.Bool.{eqb-true}
use Rattle.std.proofs.lemmas.Bool.Decides.{nat_tests}
use Rattle.lu_msg.specs.declared.calls.Call.{Call}
use Rattle.lu_msg.specs.declared.calls.Call.TheVariants as call
use Rattle.lu_spec_laws.specs.Words.Repeats.{same_path, same_reading, rebinds}
use Rattle.lu_spec_laws.proofs.Tests.{first_of}
use Rattle.lu_judge_silent.specs.declared.readings.Reading.{Reading}
use Rattle.lu_judge_silent.specs.declared.readings.Reading.TheVariants.{Lookup, Stat, List as Names, Layout, Read}
use Rattle.lu_judge_silent.specs.Readings.{asks, same_question, is_reading, reads_of, rebound_by}

-- ---- paths

path_is : (a b : List (List ℕ)) → pointwise bytes_eq a b ≡ same_path a b
path_is [] [] = refl
path_is [] (m ∷ ms) = refl
path_is (n ∷ ns) [] = refl
path_is (n ∷ ns) (m ∷ ms) = ap (λ (b : Bool). bytes_eq n m && b) (path_is ns ms)

pub eq_turned : (a b : ℕ) → (a == b) ≡ (b == a)
eq_turned a b = grind (arith, nat_tests)

bytes_turned : (a b : List ℕ) → bytes_eq a b ≡ bytes_eq b a
bytes_turned [] [] = refl
bytes_turned [] (m ∷ ms) = refl
bytes_turned (n ∷ ns) [] = refl
bytes_turned (n ∷ ns) (m ∷ ms) = rw (eq_turned n m, bytes_turned ns ms) refl

path_turned : (a b : List (List ℕ)) → same_path a b ≡ same_path b a
path_turned [] [] = refl
path_turned [] (m ∷ ms) = refl
path_turned (n ∷ ns) [] = refl
path_turned (n ∷ ns) (m ∷ ms) = rw (bytes_turned n m, path_turned ns ms) refl

-- ---- questions

three : (a b c : Bool) → (a && (b && c)) ≡ (a && b && c)
three true b c = refl
three false b c = refl

-- two questions are one where the calls that ask them are the same
pub question_is : (q r : Reading) → same_question q r ≡ same_reading (asks r) (asks q)
question_is (Lookup a) (Lookup b) = path_is a.now b.now ∙ path_turned a.now b.now
question_is (Lookup a) (Stat b) = refl
question_is (Lookup a) (Names b) = refl
question_is (Lookup a) (Layout b) = refl
question_is (Lookup a) (Read h offset count) = refl
question_is (Stat a) (Lookup b) = refl
question_is (Stat a) (Stat b) = path_is a.now b.now ∙ path_turned a.now b.now
question_is (Stat a) (Names b) = refl
question_is (Stat a) (Layout b) = refl
question_is (Stat a) (Read h offset count) = refl
question_is (Names a) (Lookup b) = refl
question_is (Names a) (Stat b) = refl
question_is (Names a) (Names b) = path_is a.now b.now ∙ path_turned a.now b.now
question_is (Names a) (Layout b) = refl
question_is (Names a) (Read h offset count) = refl
question_is (Layout a) (Lookup b) = refl
question_is (Layout a) (Stat b) = refl
question_is (Layout a) (Names b) = refl
question_is (Layout a) (Layout b) = path_is a.now b.now ∙ path_turned a.now b.now
question_is (Layout a) (Read h offset count) = refl
question_is (Read h offset count) (Lookup b) = refl
question_is (Read h offset count) (Stat b) = refl
question_is (Read h offset count) (Names b) = refl
question_is (Read h offset count) (Layout b) = refl
question_is (Read h offset count) (Read k start number) =
    rw (eq_turned h k, eq_turned offset start, eq_turned count number) (three (k == h) (start == offset) (number == count))

-- ---- handles

-- a handle that is opened or closed is the one that is read by
abbrev pub touches : Option ℕ → Option ℕ → Bool
touches (Some h) (Some k) = h == k
touches _ _ = false

pub rebinds_is : (begun read : Call) → rebinds begun read ≡ touches (rebound_by begun) (reads_of read)
rebinds_is (call.Open h path) (call.Read k offset count) = refl
rebinds_is (call.Open h path) _ = refl
rebinds_is (call.Close h) (call.Read k offset count) = refl
rebinds_is (call.Close h) _ = refl
rebinds_is _ _ = refl

-- calls that ask the same read by the same handle
pub reads_same : (q : Reading) (k : Call) → same_reading (asks q) k ≡ true → reads_of k ≡ reads_of (asks q)
reads_same (Read h offset count) (call.Read k start number) e = ap (λ (n : ℕ). Some n) (sym (eqb-true h k (first_of _ _ (first_of _ _ e))))
reads_same (Read h offset count) _ e = absurd (cc)
reads_same (Lookup a) (call.Read k start number) e = absurd (cc)
reads_same (Lookup a) _ e = refl
reads_same (Stat a) (call.Read k start number) e = absurd (cc)
reads_same (Stat a) _ e = refl
reads_same (Names a) (call.Read k start number) e = absurd (cc)
reads_same (Names a) _ e = refl
reads_same (Layout a) (call.Read k start number) e = absurd (cc)
reads_same (Layout a) _ e = refl

pub rebinds_same : (begun : Call) (q : Reading) (k : Call) → same_reading (asks q) k ≡ true → rebinds begun k
    ≡ touches (rebound_by begun) (reads_of (asks q))
rebinds_same begun q k e = rebinds_is begun k ∙ ap (λ (o : Option ℕ). touches (rebound_by begun) o) (reads_same q k e)

-- a call that isn't a reading is the same as none
pub other_call : (c k : Call) → is_reading c ≡ false → same_reading c k ≡ false
other_call (call.Lookup path) k e = absurd (cc)
other_call (call.Stat path) k e = absurd (cc)
other_call (call.List path) k e = absurd (cc)
other_call (call.Layout path) k e = absurd (cc)
other_call (call.Read h offset count) k e = absurd (cc)
other_call _ _ e = refl

pub other_known : (c : Call) (known : List Call) → is_reading c ≡ false → list_any (same_reading c) known ≡ false
other_known c [] e = refl
other_known c (k ∷ known) e = rw (other_call c k e) (other_known c known e)
