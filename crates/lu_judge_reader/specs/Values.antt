-- What a word says where a value stands.
use Rattle.std.specs.Prelude.{ℕ, ◌+◌, ◌-◌, ◌*◌, ◌^◌, ◌==◌, ◌&&◌, nat_lt, nat_le, Bool, if◌then◌else◌, List, [], ◌∷◌, length, take, drop}
use Rattle.std.specs.Prelude.{slice_index, replicate, Option, Some, None, ℤ, pos, negsuc, codes, find}
use Rattle.std.specs.List.{slice_split, list_all}
use Rattle.std.specs.Str.{bytes_eq}
use Rattle.std.specs.Str.Parse.{digits_value}
use Rattle.lu_base.specs.Values.{mode_text}
use Rattle.lu_base.specs.declared.ids.At.{At}
use Rattle.lu_base.specs.declared.ids.Node.{Node}
use Rattle.lu_base.specs.declared.ids.Node.TheVariants.{Client, Target}
use Rattle.lu_base.specs.declared.ids.Who.{Who}
use Rattle.lu_base.specs.declared.ids.Xid.{Xid}
use Rattle.lu_base.specs.declared.locks.Cause.{Cause}
use Rattle.lu_base.specs.declared.locks.Cause.TheVariants as causes
use Rattle.lu_base.specs.declared.locks.Extent.{Extent}
use Rattle.lu_base.specs.declared.locks.Mode.{Mode}
use Rattle.lu_base.specs.declared.locks.Mode.TheVariants as modes
use Rattle.lu_base.specs.declared.locks.Resource.{Resource}
use Rattle.lu_scene.specs.Fields.{number_of, data_of, is_name}
use Rattle.lu_trace.specs.Entries.{cause_text}
use Rattle.lu_judge_reader.specs.Reading.{◌>>?◌}

-- a number of so many bits
abbrev pub small_of : ℕ → List ℕ → Option ℕ
small_of bits word = number_of word >>? λ n. if nat_lt n (2 ^ bits) then Some n else None

-- a number up to this one
abbrev pub up_to : ℕ → List ℕ → Option ℕ
up_to most word = number_of word >>? λ n. if nat_le n most then Some n else None

-- a number of a high and a low half
abbrev pub halves_of : List (List ℕ) → Option ℕ
halves_of (high ∷ low ∷ []) = small_of 32 high >>? λ h. small_of 32 low >>? λ l. Some (h * 2 ^ 32 + l)
halves_of parts = None

unfoldable pub pair_of : List ℕ → Option ℕ
pair_of word = halves_of (slice_split (λ b. b == 46) word)

-- a client and its life
abbrev pub life_of : List (List ℕ) → Option Who
life_of (client ∷ life ∷ []) = small_of 16 client >>? λ c. small_of 32 life >>? λ l. Some (record { client = c; life = l })
life_of parts = None

unfoldable pub who_of : List ℕ → Option Who
who_of [] = None
who_of (letter ∷ word) = if letter == 99 then life_of (slice_split (λ b. b == 46) word) else None

-- a client or a target
unfoldable pub node_of : List ℕ → Option Node
node_of [] = None
node_of (letter ∷ word) =
    if letter == 99 then (small_of 16 word >>? λ n. Some (Client n))
    else (if letter == 116 then (small_of 16 word >>? λ n. Some (Target n)) else None)

-- the number of a target
unfoldable pub target_of : List ℕ → Option ℕ
target_of [] = None
target_of (letter ∷ word) = if letter == 116 then small_of 16 word else None

-- a stamp and a node
abbrev pub turn_of : List (List ℕ) → Option At
turn_of (stamp ∷ node ∷ []) = number_of stamp >>? λ s. node_of node >>? λ n. Some (record { stamp = record { 0 = s }; node = n })
turn_of parts = None

unfoldable pub at_of : List ℕ → Option At
at_of word = turn_of (slice_split (λ b. b == 58) word)

-- a request's number and its tag, which isn't there where it is 0
abbrev pub request_of : List (List ℕ) → Option (Xid × ℕ)
request_of (number ∷ []) = number_of number >>? λ n. Some (record { 0 = n }, 0)
request_of (number ∷ tag ∷ []) = number_of number >>? λ n. small_of 8 tag >>? λ t. Some (record { 0 = n }, t)
request_of parts = None

unfoldable pub tagged_of : List ℕ → Option (Xid × ℕ)
tagged_of word = request_of (slice_split (λ b. b == 47) word)

-- a size; `-` for none
unfoldable pub size_of : List ℕ → Option (Option ℕ)
size_of word = if bytes_eq word (codes "-") then Some None else (number_of word >>? λ n. Some (Some n))

-- a file and a stripe
abbrev pub stripe_of : List (List ℕ) → Option Resource
stripe_of (file ∷ stripe ∷ []) = pair_of file >>? λ f. small_of 16 stripe >>? λ s. Some (record { fid = record { 0 = f }; stripe = s })
stripe_of parts = None

unfoldable pub object_of : List ℕ → Option Resource
object_of word = stripe_of (slice_split (λ b. b == 47) word)

-- an inode
unfoldable pub inode_of : List ℕ → Option Resource
inode_of word = pair_of word >>? λ f. Some (record { fid = record { 0 = f }; stripe = 0 })

-- the last offset of a range
unfoldable pub last_of : List ℕ → Option ℕ
last_of word = if bytes_eq word (codes "end") then Some (2 ^ 64 - 1) else number_of word

-- the two ends of a range
abbrev pub range_of : List (List ℕ) → Option Extent
range_of (first ∷ last ∷ []) = number_of first >>? λ f. last_of last >>? λ l. Some (record { first = f; last = l })
range_of parts = None

unfoldable pub extent_of : List ℕ → Option Extent
extent_of word = range_of (slice_split (λ b. b == 45) word)

-- the modes of locks
abbrev pub all_modes : List Mode
all_modes = modes.EX ∷ modes.PW ∷ modes.PR ∷ modes.CW ∷ modes.CR ∷ modes.NL ∷ []

abbrev pub mode_of : List ℕ → Option Mode
mode_of word = find (λ mode. bytes_eq (mode_text mode) word) all_modes

-- why a life was evicted
abbrev pub all_causes : List Cause
all_causes = causes.Absent ∷ causes.Gap ∷ causes.Expired ∷ causes.Replaced ∷ []

abbrev pub cause_of : List ℕ → Option Cause
cause_of word = find (λ cause. bytes_eq (cause_text cause) word) all_causes

-- octal digits
abbrev pub is_octal : List ℕ → Bool
is_octal text = nat_lt 0 (length text) && list_all (λ b. nat_le 48 b && nat_le b 55) text

-- a number of 16 bits, in octal
unfoldable pub octal_of : List ℕ → Option ℕ
octal_of text = if is_octal text && nat_lt (digits_value 8 text) (2 ^ 16) then Some (digits_value 8 text) else None

-- a number of 12 bits, in octal
abbrev pub rights_of : List ℕ → Option ℕ
rights_of text = octal_of text >>? λ n. if nat_lt n (2 ^ 12) then Some n else None

-- a number of stripes: up to 1000, or -1
unfoldable pub count_of : List ℕ → Option ℤ
count_of word = if bytes_eq word (codes "-1") then Some (negsuc 0) else (up_to 1000 word >>? λ n. Some (pos n))

-- the third byte is `*`
abbrev pub has_star : List ℕ → Bool
has_star text = nat_lt 2 (length text) && slice_index text 2 == 42

-- the first byte, so often
abbrev pub repeated : ℕ → List ℕ → Option (List ℕ)
repeated count [] = None
repeated count (byte ∷ more) = Some (replicate count byte)

-- one byte, as often as the number behind the star says
abbrev pub repeated_of : List ℕ → Option (List ℕ)
repeated_of text =
    data_of (take 2 text) >>? λ bytes. number_of (drop 3 text) >>? λ count. if nat_lt count (2 ^ 63) then repeated count bytes else None

-- bytes; `-` for none
unfoldable pub bytes_of : List ℕ → Option (List ℕ)
bytes_of word = if bytes_eq word (codes "-") then Some [] else (if has_star word then repeated_of word else data_of word)

-- a name
abbrev pub name_of : List ℕ → Option (List ℕ)
name_of word = if is_name word then Some word else None
