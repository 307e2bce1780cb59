-- Pages by number: page k has what stands at the 4,096 positions from k * 4096 on.
use Rattle.std.specs.Prelude.{ℕ, ◌+◌, ◌*◌, ◌^◌, ◌<◌, ◌≤◌, ◌≡◌, nat_lt, if◌then◌else◌, List, [], ◌∷◌, ◌++◌, Option, Some, None}
use Rattle.lu_spec_machine.specs.Places.{Places, found_at}
use Rattle.lu_page.specs.Sheets.{Sheet, IsSheet}

-- what stands in all pages
abbrev pub joined : {A : Type 0} → Places (Sheet A) → Places A
joined [] = []
joined (e ∷ es) = e.1.here ++ joined es

pub record IsPage {A : Type 0} (k : ℕ) (s : Sheet A) : Type 0 where
  pub first : s.first ≡ k * 4096
  pub sheet : IsSheet s
  pub most : k < 2 ^ 50

-- the numbers rise, from n on
abbrev pub PagesFrom : {A : Type 0} → ℕ → Places (Sheet A) → Type 0
PagesFrom n [] = Unit {0}
PagesFrom n (e ∷ es) = (n ≤ e.0) × IsPage e.0 e.1 × PagesFrom (e.0 + 1) es

-- nothing stands from low on and below high
abbrev pub IsBare : {A : Type 0} → ℕ → ℕ → Places A → Type 0
IsBare low high m = (p : ℕ) → low ≤ p → p < high → found_at m p ≡ None

-- an edit of what stands below a position alone
abbrev pub up_to : {A : Type 0} → ℕ → (ℕ → A → Option A) → ℕ → A → Option A
up_to n f p x = if nat_lt p n then f p x else Some x
