-- The size of a file, by the sizes of its objects.
use Rattle.std.specs.Prelude.{◌≡◌, ℕ, zero, suc, ◌+◌, ◌-◌, ◌<◌, ◌≤◌, ◌⊎◌, max, List, [], ◌∷◌, length, slice_index}
use Rattle.std.proofs.Common.{arith, inl, inr, ap, refl, ◌∙◌}
use Rattle.std.proofs.lemmas.Bool.{cases_lt}
use Rattle.lu_layout.specs.Raid0.{Raid0, position_of, end_of, greatest_end, file_size_of, IsFileSize}

-- no other number is
covered : (l : Raid0) (sizes : List ℕ) (m n : ℕ) → IsFileSize l sizes m → IsFileSize l sizes n → m ≤ n
covered l sizes m n a b =
    elim a.reached [
      | inl none ↦ omega arith
      | inr last ↦ (let below : position_of l last.0 (slice_index sizes last.0 - 1) < n = b.covers last.0 last.1 last.2
          in omega (arith, last.3))
    ]

pub IsFileSize-one : (l : Raid0) (sizes : List ℕ) (m n : ℕ) → IsFileSize l sizes m → IsFileSize l sizes n → m ≡ n
IsFileSize-one l sizes m n a b =
    let up : m ≤ n = covered l sizes m n a b in
    let down : n ≤ m = covered l sizes n m b a in
    omega arith

-- n lies above each last byte, where the first of these objects is that of stripe s
abbrev CoversFrom : Raid0 → ℕ → List ℕ → ℕ → Type 0
CoversFrom l s sizes n = (i j : ℕ) → i < length sizes → j ≡ s + i → 0 < slice_index sizes i → position_of l j (slice_index sizes i - 1) < n

-- and is 0 or just past one
abbrev ReachedFrom : Raid0 → ℕ → List ℕ → ℕ → Type 0
ReachedFrom l s sizes n = (n ≡ 0) ⊎ ((i : ℕ) × (j : ℕ) × (i < length sizes) × (j ≡ s + i) × (0 < slice_index sizes i)
    × (n ≡ position_of l j (slice_index sizes i - 1) + 1))

last_is : (l : Raid0) (s last : ℕ) → position_of l s (suc last - 1) ≡ position_of l s last
last_is l s last = ap (λ (q : ℕ). position_of l s q) (omega arith)

covers_more : (l : Raid0) (s size : ℕ) (sizes : List ℕ) (n : ℕ) → CoversFrom l (suc s) sizes n
    → CoversFrom l s (size ∷ sizes) (max (end_of l s size) n)
covers_more l s zero sizes n rest zero j h is pos = absurd (omega arith)
covers_more l s (suc last) sizes n rest zero j h is pos =
    let at : position_of l j (suc last - 1) ≡ position_of l s last = ap (λ (x : ℕ). position_of l x (suc last - 1)) (omega arith)
    ∙ last_is l s last in
    omega arith
covers_more l s size sizes n rest (suc i) j h is pos =
    let low : position_of l j (slice_index sizes i - 1) < n = rest i j (omega arith) (omega arith) pos in omega arith

reached_later : (l : Raid0) (s size : ℕ) (sizes : List ℕ) (m n : ℕ) → m ≡ n → ReachedFrom l (suc s) sizes n
    → ReachedFrom l s (size ∷ sizes) m
reached_later l s size sizes m n e (inl none) = inl (e ∙ none)
reached_later l s size sizes m n e (inr there) =
    inr (suc there.0, there.1, omega arith, omega arith, there.4, e ∙ there.5)

reached_more : (l : Raid0) (s size : ℕ) (sizes : List ℕ) (n : ℕ) → ReachedFrom l (suc s) sizes n
    → ReachedFrom l s (size ∷ sizes) (max (end_of l s size) n)
reached_more l s zero sizes n rest = reached_later l s zero sizes (max 0 n) n (omega arith) rest
reached_more l s (suc last) sizes n rest =
    elim (cases_lt (position_of l s last + 1) n) [
      | inl less ↦ reached_later l s (suc last) sizes (max (position_of l s last + 1) n) n (omega arith) rest
      | inr more ↦
          (let at : position_of l s (suc last - 1) ≡ position_of l s last = last_is l s last in
          inr (0, s, omega arith, omega arith, omega arith, omega arith))
    ]

covers_from : (l : Raid0) (s : ℕ) (sizes : List ℕ) → CoversFrom l s sizes (greatest_end l s sizes)
unfolding greatest_end
covers_from l s [] = λ i j h is pos. absurd (omega arith)
covers_from l s (size ∷ sizes) = covers_more l s size sizes (greatest_end l (suc s) sizes) (covers_from l (suc s) sizes)

reached_from : (l : Raid0) (s : ℕ) (sizes : List ℕ) → ReachedFrom l s sizes (greatest_end l s sizes)
unfolding greatest_end
reached_from l s [] = inl refl
reached_from l s (size ∷ sizes) = reached_more l s size sizes (greatest_end l (suc s) sizes) (reached_from l (suc s) sizes)

reached_whole : (l : Raid0) (sizes : List ℕ) (n : ℕ) → ReachedFrom l 0 sizes n → (n ≡ 0)
    ⊎ ((i : ℕ) × (i < length sizes) × (0 < slice_index sizes i) × (n ≡ position_of l i (slice_index sizes i - 1) + 1))
reached_whole l sizes n (inl none) = inl none
reached_whole l sizes n (inr there) =
    let at : position_of l there.1 (slice_index sizes there.0 - 1) ≡ position_of l there.0 (slice_index sizes there.0 - 1) =
    ap (λ (x : ℕ). position_of l x (slice_index sizes there.0 - 1)) (omega arith) in
    inr (there.0, there.2, there.4, omega (arith, at, there.5))

-- and `file_size_of` is one
pub IsFileSize-file_size_of : (l : Raid0) (sizes : List ℕ) → IsFileSize l sizes (file_size_of l sizes)
IsFileSize-file_size_of l sizes = record {
  covers = λ i h pos. covers_from l 0 sizes i i h (omega arith) pos;
  reached = reached_whole l sizes (file_size_of l sizes) (reached_from l 0 sizes);
}

pub IsFileSize-is : (l : Raid0) (sizes : List ℕ) (n : ℕ) → IsFileSize l sizes n → n ≡ file_size_of l sizes
IsFileSize-is l sizes n a = IsFileSize-one l sizes n (file_size_of l sizes) a (IsFileSize-file_size_of l sizes)
