-- What slots show: each position by its slot, and what a change of one slot shows.
use Rattle.std.proofs.Common.{◌≡◌, ℕ, zero, suc, ◌+◌, ◌<◌, ◌≤◌, ◌⊎◌, inl, inr, Bool, true, false, List, [], ◌∷◌, length, set, get_or}
use Rattle.std.proofs.Common.{replicate, take, ◌++◌, ◌-◌, Option, Some, None, refl, sym, ap, ◌∙◌, subst, arith}
use Rattle.std.specs.Prelude.{nat_eq, nat_lt, ◌==◌, if◌then◌else◌}
use Rattle.std.specs.Ordering.{nat_cmp}
use Rattle.std.specs.BTreeMap.{insert_entry}
use Rattle.std.proofs.lemmas.Bool.Decides.{nat_tests}
use Rattle.lu_spec_machine.specs.Places.{Places, RisingFrom, found_at}
use Rattle.lu_spec_bytes.specs.Maps.{AllBelow}
use Rattle.lu_spec_bytes.proofs.Rising.{none_before}
use Rattle.lu_page.specs.Edits.{with_item, edited, edit_slot}
use Rattle.lu_page.specs.Sheets.{shown}
use Rattle.lu_page.proofs.Maps.{rises_from, none_past}

pub shown_rising : {A : Type 0} (p : ℕ) (slots : List (Option A)) → RisingFrom p (shown p slots)
shown_rising p [] = tt
shown_rising p (None ∷ slots) = rises_from (p + 1) p (shown (p + 1) slots) (omega arith) (shown_rising (p + 1) slots)
shown_rising p (Some x ∷ slots) = (omega arith, shown_rising (p + 1) slots)

pub shown_below : {A : Type 0} (p k : ℕ) (slots : List (Option A)) → p + length slots ≤ k → AllBelow k (shown p slots)
shown_below p k [] h = tt
shown_below p k (None ∷ slots) h = shown_below (p + 1) k slots (omega (arith, h))
shown_below p k (Some x ∷ slots) h = (omega (arith, h), shown_below (p + 1) k slots (omega (arith, h)))

pub shown_none : {A : Type 0} (p n : ℕ) → shown p (replicate {A = Option A} n None) ≡ []
shown_none p zero = refl
shown_none p (suc n) = shown_none (p + 1) n

pub found_shown : {A : Type 0} (p q i : ℕ) (slots : List (Option A)) (d : Option A) → q ≡ p + i → i < length slots
    → found_at (shown p slots) q ≡ get_or slots i d
found_shown p q i [] d e less = absurd (omega (arith, less))
found_shown p q zero (None ∷ slots) d e less = none_before (p + 1) q (shown (p + 1) slots) (shown_rising (p + 1) slots) (omega (arith, e))
found_shown p q zero (Some x ∷ slots) d e less = let here : nat_eq q p ≡ true = grind (arith, nat_tests) in rw here refl
found_shown p q (suc i) (None ∷ slots) d e less = found_shown (p + 1) q i slots d (omega (arith, e)) (omega (arith, less))
found_shown p q (suc i) (Some x ∷ slots) d e less = let here : nat_eq q p ≡ false = grind (arith, nat_tests)
    in rw here (found_shown (p + 1) q i slots d (omega (arith, e)) (omega (arith, less)))

pub beside_shown : {A : Type 0} (p q : ℕ) (slots : List (Option A)) → (q < p) ⊎ (p + length slots ≤ q) → found_at (shown p slots) q ≡ None
beside_shown p q slots (inl less) = none_before p q (shown p slots) (shown_rising p slots) less
beside_shown p q slots (inr less) = none_past (p + length slots) q (shown p slots) (shown_below p (p + length slots) slots (omega arith))
    less

insert_front : {A : Type 0} (p : ℕ) (x : A) (m : Places A) → RisingFrom (p + 1) m → insert_entry nat_cmp m p x ≡ (p, x) ∷ m
insert_front p x [] h = refl
insert_front p x (e ∷ m) h = let less : nat_lt p e.0 ≡ true = grind (arith, nat_tests, h.0) in rw less refl

insert_later : {A : Type 0} (q : ℕ) (x : A) (e : ℕ × A) (m : Places A) → e.0 < q → insert_entry nat_cmp (e ∷ m) q x ≡ e
    ∷ insert_entry nat_cmp m q x
insert_later q x e m h =
    let less : nat_lt q e.0 ≡ false = grind (arith, nat_tests) in
    let same : nat_eq q e.0 ≡ false = grind (arith, nat_tests) in
    rw (less, same) refl

insert_there : {A : Type 0} (q : ℕ) (x y : A) (m : Places A) → insert_entry nat_cmp ((q, y) ∷ m) q x ≡ (q, x) ∷ m
insert_there q x y m =
    let less : nat_lt q q ≡ false = grind (arith, nat_tests) in
    let same : nat_eq q q ≡ true = grind (arith, nat_tests) in
    rw (less, same) refl

-- an item in a slot
pub set_shown : {A : Type 0} (p q i : ℕ) (slots : List (Option A)) (x : A) → q ≡ p + i → i < length slots → shown p (set slots i (Some x))
    ≡ insert_entry nat_cmp (shown p slots) q x
set_shown p q i [] x e less = absurd (omega (arith, less))
set_shown p q zero (None ∷ slots) x e less = let same : p ≡ q = omega (arith, e)
    in sym (subst (λ r. insert_entry nat_cmp (shown (p + 1) slots) r x ≡ (p, x) ∷ shown (p + 1) slots) same
    (insert_front p x (shown (p + 1) slots) (shown_rising (p + 1) slots)))
set_shown p q zero (Some y ∷ slots) x e less = let same : p ≡ q = omega (arith, e)
    in sym (subst (λ r. insert_entry nat_cmp ((p, y) ∷ shown (p + 1) slots) r x ≡ (p, x) ∷ shown (p + 1) slots) same
    (insert_there p x y (shown (p + 1) slots)))
set_shown p q (suc i) (None ∷ slots) x e less = set_shown (p + 1) q i slots x (omega (arith, e)) (omega (arith, less))
set_shown p q (suc i) (Some y ∷ slots) x e less = ap (λ m. (p, y) ∷ m)
    (set_shown (p + 1) q i slots x (omega (arith, e)) (omega (arith, less)))
    ∙ sym (insert_later q x (p, y) (shown (p + 1) slots) (omega (arith, e)))

-- ---- edits

-- the first so many slots edited
abbrev pub edit_slots : {A : Type 0} → (ℕ → A → Option A) → ℕ → ℕ → List (Option A) → List (Option A)
edit_slots f p zero slots = slots
edit_slots f p (suc n) [] = []
edit_slots f p (suc n) (o ∷ slots) = edit_slot f p o ∷ edit_slots f (p + 1) n slots

pub edit_next : {A : Type 0} (f : ℕ → A → Option A) (p q i : ℕ) (slots : List (Option A)) (o : Option A) → q ≡ p + i → i < length slots → o
    ≡ get_or slots i o → set (edit_slots f p i slots) i (edit_slot f q o) ≡ edit_slots f p (suc i) slots
edit_next f p q i [] o e less is = absurd (omega (arith, less))
edit_next f p q zero (a ∷ slots) o e less is = let same : q ≡ p = omega (arith, e)
    in ap (λ v. v ∷ slots) (ap (λ r. edit_slot f r o) same ∙ ap (edit_slot f p) is)
edit_next f p q (suc i) (a ∷ slots) o e less is = ap (λ more. edit_slot f p a ∷ more)
    (edit_next f (p + 1) q i slots o (omega (arith, e)) (omega (arith, less)) is)

pub edit_keeps : {A : Type 0} (f : ℕ → A → Option A) (p i : ℕ) (slots : List (Option A)) (d : Option A)
    → get_or (edit_slots f p i slots) i d ≡ get_or slots i d
edit_keeps f p zero slots d = refl
edit_keeps f p (suc i) [] d = refl
edit_keeps f p (suc i) (a ∷ slots) d = edit_keeps f (p + 1) i slots d

pub length_edit : {A : Type 0} (f : ℕ → A → Option A) (p i : ℕ) (slots : List (Option A)) → length (edit_slots f p i slots) ≡ length slots
length_edit f p zero slots = refl
length_edit f p (suc i) [] = refl
length_edit f p (suc i) (a ∷ slots) = ap (λ n. suc n) (length_edit f (p + 1) i slots)

pub edit_all : {A : Type 0} (f : ℕ → A → Option A) (p : ℕ) (slots : List (Option A)) → shown p (edit_slots f p (length slots) slots)
    ≡ edited f (shown p slots)
edit_all f p [] = refl
edit_all f p (None ∷ slots) = edit_all f (p + 1) slots
edit_all f p (Some x ∷ slots) = ap (λ m. with_item p (f p x) m) (edit_all f (p + 1) slots)

-- slots that were filled up with none
pub fresh : {A : Type 0} (p n k : ℕ) (slots : List (Option A)) → slots ≡ []
    → shown p (take n slots ++ replicate {A = Option A} (n - k) None) ≡ []
fresh p zero k [] e = shown_none p (0 - k)
fresh p (suc n) k [] e = shown_none p (suc n - k)
fresh p n k (o ∷ slots) e = absurd (cc)
