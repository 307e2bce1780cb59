-- The texts of values: pairs, bytes and paths. A number's text is std's `decimal`.
use Rattle.std.specs.Prelude.{◌≡◌, ◌≢◌, ℕ, ◌/◌, ◌%◌, ◌^◌, ◌<◌, ◌≤◌, ◌==◌, ◌||◌, ◌&&◌, nat_lt, Bool, false, if◌then◌else◌, List, [], ◌∷◌}
use Rattle.std.specs.Prelude.{◌++◌, length, slice_index, codes, decimal, replicate, ◌⊎◌, All}
use Rattle.std.specs.List.{AllPass, list_all, join_with_byte}
use Rattle.std.specs.Char.{is_ascii_alphanumeric}
use Rattle.hex.specs.Hex.{encode_lower}

-- a number of two parts, as of a boot and a count: the high 32 bits, a dot, the low 32 bits, in decimal
abbrev pub pair_text : ℕ → List ℕ
pair_text n = decimal (n / 2 ^ 32) ++ 46 ∷ decimal (n % 2 ^ 32)

-- one byte, `*`, and how often it stands
abbrev pub repeated_text : ℕ → ℕ → List ℕ
repeated_text byte count = encode_lower (byte ∷ []) ++ 42 ∷ decimal count

-- two or more bytes, all equal
abbrev pub is_repeated : List ℕ → Bool
is_repeated [] = false
is_repeated (byte ∷ rest) = nat_lt 0 (length rest) && list_all (λ other. other == byte) rest

-- bytes as text: `-` for none; two or more equal ones as the byte, `*` and their number; else two hexadecimal digits a byte
abbrev pub bytes_text : List ℕ → List ℕ
bytes_text [] = codes "-"
bytes_text (byte ∷ rest) =
    if is_repeated (byte ∷ rest) then repeated_text byte (length (byte ∷ rest)) else encode_lower (byte ∷ rest)

-- the third byte is `*`
abbrev pub HasStar : List ℕ → Type 0
HasStar text = (2 < length text) × (slice_index text 2 ≡ 42)

-- these bytes are one byte, as often as the text says: from 1 to 65536
abbrev pub IsRepeatedText : List ℕ → List ℕ → Type 0
IsRepeatedText text bytes =
    (byte : ℕ) × (count : ℕ) × (byte < 256) × (1 ≤ count) × (count ≤ 65536)
    × (text ≡ repeated_text byte count) × (bytes ≡ replicate count byte)

-- how a scenario writes bytes: the digits of at least one byte, or a repeated byte
abbrev pub IsDataText : List ℕ → List ℕ → Type 0
IsDataText text bytes = ((text ≡ encode_lower bytes) × (bytes ≢ [])) ⊎ IsRepeatedText text bytes

-- a byte of a name: a letter, a digit, `.`, `_` or `-`
abbrev pub is_name_byte : ℕ → Bool
is_name_byte byte = is_ascii_alphanumeric byte || byte == 46 || byte == 95 || byte == 45

-- a name that a scenario can write: one or more such bytes, and neither `.` nor `..`
pub record IsName (name : List ℕ) : Type 0 where
  pub filled : name ≢ []
  pub bytes : AllPass is_name_byte name
  pub not_here : name ≢ codes "."
  pub not_above : name ≢ codes ".."

-- names, and not more than a path has
abbrev pub AreNames : List (List ℕ) → Type 0
AreNames names = (length names ≤ 32) × All IsName names

-- a path: `/`, and the names joined by `/`
abbrev pub path_text : List (List ℕ) → List ℕ
path_text names = 47 ∷ join_with_byte 47 names

-- the names after the first one, each behind a `/`
abbrev pub further_text : List (List ℕ) → List ℕ
further_text [] = []
further_text (name ∷ names) = 47 ∷ name ++ further_text names

-- a path that a scenario can write: at most 32 names and 1,024 bytes
pub record IsPath (names : List (List ℕ)) : Type 0 where
  pub are_names : AreNames names
  pub bytes : length (path_text names) ≤ 1024
