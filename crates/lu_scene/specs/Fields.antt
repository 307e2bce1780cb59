-- What a word says where a number, a node, a path or data stands, or its fault.
use Rattle.std.specs.Prelude.{ℕ, ◌/◌, ◌^◌, ◌==◌, ◌&&◌, not, nat_lt, nat_le, Bool, if◌then◌else◌, List, [], ◌∷◌, length, slice_index, take}
use Rattle.std.specs.Prelude.{drop, codes, decimal, replicate, Option, Some, None, Result, Ok, Err, ℤ, pos, negsuc}
use Rattle.std.specs.List.{list_all, slice_split}
use Rattle.std.specs.Result.{result_unwrap_or}
use Rattle.std.specs.Str.{bytes_eq}
use Rattle.std.specs.Str.Parse.{digits_value}
use Rattle.hex.specs.Hex.{encode_lower, decode_sized}
use Rattle.lu_base.specs.Texts.{is_name_byte, path_text, repeated_text}
use Rattle.lu_base.specs.declared.ids.Node.{Node}
use Rattle.lu_base.specs.declared.ids.Node.TheVariants.{Client, Target}
use Rattle.lu_base.specs.declared.ids.TargetId.{TargetId}
use Rattle.lu_scene.specs.declared.faults.Fault.{Fault}
use Rattle.lu_scene.specs.declared.faults.Fault.TheVariants as faults

infixl 10 ◌>>=◌
-- what comes next, unless there was a fault
abbrev pub ◌>>=◌ : {A B E : Type 0} → Result A E → (A → Result B E) → Result B E
(Ok x) >>= f = f x
(Err fault) >>= f = Err fault

-- a value, or the fault where there is none
abbrev pub or_fault : {A : Type 0} → Fault → Option A → Result A Fault
or_fault fault (Some x) = Ok x
or_fault fault None = Err fault

-- the number below 2^64 that the text is in decimal, without sign and needless zeros
unfoldable pub number_of : List ℕ → Option ℕ
number_of text =
    let n = digits_value 10 text in
    if nat_lt n (2 ^ 64) && bytes_eq (decimal n) text then Some n else None

-- a number from least to most
abbrev pub number_in : ℕ → ℕ → List ℕ → Result ℕ Fault
number_in least most word = do
  n ← or_fault faults.Number (number_of word)
  if nat_le least n && nat_le n most then Ok n else Err faults.Number

-- any number below 2^64
abbrev pub number_at : List ℕ → Result ℕ Fault
number_at word = or_fault faults.Number (number_of word)

-- one to four octal digits
abbrev pub is_octal : List ℕ → Bool
is_octal text = nat_lt 0 (length text) && nat_le (length text) 4 && list_all (λ b. nat_le 48 b && nat_le b 55) text

-- the mode that octal digits write
unfoldable pub mode_of : List ℕ → Option ℕ
mode_of text = if is_octal text then Some (digits_value 8 text) else None

abbrev pub mode_at : List ℕ → Result ℕ Fault
mode_at word = or_fault faults.Number (mode_of word)

-- how many stripes a new file has: a number up to 1000, or -1
abbrev pub count_at : List ℕ → Result ℤ Fault
count_at word =
    if bytes_eq word (codes "-1") then Ok (negsuc 0) else (do
      n ← number_in 0 1000 word
      Ok (pos n))

-- the number behind a letter
abbrev pub number_behind : ℕ → List ℕ → Option ℕ
number_behind letter [] = None
number_behind letter (b ∷ digits) = if b == letter then number_of digits else None

-- a client, of so many
abbrev pub client_at : ℕ → List ℕ → Result ℕ Fault
client_at clients word = do
  client ← or_fault faults.Node (number_behind 99 word)
  if nat_lt client clients then Ok client else Err faults.Node

-- a target: the metadata target or one of so many object storage targets
abbrev pub target_at : ℕ → List ℕ → Result TargetId Fault
target_at osts word = do
  target ← or_fault faults.Node (number_behind 116 word)
  if nat_le target osts then Ok (record { 0 = target }) else Err faults.Node

-- a node
abbrev pub node_at : ℕ → ℕ → List ℕ → Result Node Fault
node_at clients osts word =
    if slice_index word 0 == 99 then (do
      client ← client_at clients word
      Ok (Client client))
    else (do
      target ← target_at osts word
      Ok (Target target.0))

-- a client and one of its slots
abbrev pub slot_of : ℕ → List (List ℕ) → Result (ℕ × ℕ) Fault
slot_of clients (first ∷ second ∷ []) = do
  client ← or_fault faults.Node (number_of first)
  slot ← or_fault faults.Node (number_of second)
  if nat_lt client clients && nat_le slot 3 then Ok (client, slot) else Err faults.Node
slot_of clients _ = Err faults.Node

-- the same, with a dot between them
abbrev pub slot_at : ℕ → List ℕ → Result (ℕ × ℕ) Fault
slot_at clients word = slot_of clients (slice_split (λ b. b == 46) word)

-- a name that a path may have
abbrev pub is_name : List ℕ → Bool
is_name name =
    nat_lt 0 (length name) && list_all is_name_byte name && not (bytes_eq name (codes ".")) && not (bytes_eq name (codes ".."))

-- names that a path may have, and not too many, nor too many bytes
abbrev pub is_path : List (List ℕ) → Bool
is_path names = nat_le (length names) 32 && nat_le (length (path_text names)) 1024 && list_all is_name names

-- what stands between the slashes
abbrev pub between_slashes : List ℕ → List (List ℕ)
between_slashes rest = if length rest == 0 then [] else slice_split (λ b. b == 47) rest

-- the names of a path: `/`, or one or more times `/` and a name
unfoldable pub path_of : List ℕ → Option (List (List ℕ))
path_of [] = None
path_of (b ∷ rest) = if b == 47 && is_path (between_slashes rest) then Some (between_slashes rest) else None

abbrev pub path_at : List ℕ → Result (List (List ℕ)) Fault
path_at word = or_fault faults.Path (path_of word)

-- the bytes of which these could be the hexadecimal digits
abbrev pub undigits : List ℕ → List ℕ
undigits text = result_unwrap_or (decode_sized text (length text / 2)) []

-- the bytes of two digits each, at least one
abbrev pub digits_of : List ℕ → Option (List ℕ)
digits_of text =
    if nat_lt 0 (length (undigits text)) && bytes_eq (encode_lower (undigits text)) text then Some (undigits text) else None

-- one byte, as often as the number behind the star says
abbrev pub repeated_of : List ℕ → Option (List ℕ)
repeated_of text =
    let byte = slice_index (undigits (take 2 text)) 0 in
    let count = digits_value 10 (drop 3 text) in
    if nat_lt byte 256 && nat_le 1 count && nat_le count 65536 && bytes_eq (repeated_text byte count) text
    then Some (replicate count byte) else None

-- the bytes of data
unfoldable pub data_of : List ℕ → Option (List ℕ)
data_of text = if nat_lt 2 (length text) && slice_index text 2 == 42 then repeated_of text else digits_of text

-- data of at most 65,536 bytes
abbrev pub data_at : List ℕ → Result (List ℕ) Fault
data_at word = do
  bytes ← or_fault faults.Data (data_of word)
  if nat_le (length bytes) 65536 then Ok bytes else Err faults.Data
