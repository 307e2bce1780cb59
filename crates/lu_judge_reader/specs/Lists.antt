-- What a word says where a list stands: `-` for none, else the items with `,` between them.
use Rattle.std.specs.Prelude.{ℕ, ◌%◌, ◌==◌, ◌&&◌, not, nat_lt, nat_le, Bool, true, if◌then◌else◌, List, [], ◌∷◌, length, Option, Some, None}
use Rattle.std.specs.Prelude.{codes}
use Rattle.std.specs.List.{slice_split, list_any}
use Rattle.std.specs.Str.{bytes_eq}
use Rattle.lu_base.specs.declared.ids.Who.{Who}
use Rattle.lu_base.specs.declared.locks.Lock.{Lock}
use Rattle.lu_base.specs.declared.locks.Mode.TheVariants.{PR}
use Rattle.lu_base.specs.declared.locks.Policy.TheVariants.{Bits}
use Rattle.lu_layout.specs.Raid0.{Raid0}
use Rattle.lu_scene.specs.Fields.{number_of}
use Rattle.lu_judge_reader.specs.Reading.{◌>>?◌}
use Rattle.lu_judge_reader.specs.Values.{small_of, pair_of, name_of}

-- the value of each word
abbrev pub all_of : {A : Type 0} → (List ℕ → Option A) → List (List ℕ) → Option (List A)
all_of value_of [] = Some []
all_of value_of (word ∷ words) = value_of word >>? λ value. all_of value_of words >>? λ values. Some (value ∷ values)

-- what stands between commas; nothing in `-`
abbrev pub items_of : List ℕ → List (List ℕ)
items_of word = if bytes_eq word (codes "-") then [] else slice_split (λ b. b == 44) word

-- transactions that were seen
unfoldable pub seen_of : List ℕ → Option (List ℕ)
seen_of word = all_of pair_of (items_of word)

-- sizes of objects
unfoldable pub sizes_of : List ℕ → Option (List ℕ)
sizes_of word = all_of number_of (items_of word)

-- a lock that a reply to this life grants
abbrev pub granted_of : Who → List (List ℕ) → Option Lock
granted_of who (cookie ∷ file ∷ bits ∷ []) =
    pair_of cookie >>? λ c. pair_of file >>? λ f. small_of 8 bits >>? λ b.
    Some (record {
      cookie = record { 0 = c };
      resource = record { fid = record { 0 = f }; stripe = 0 };
      ask =
          record { who = who; mode = PR; policy = Bits b };
    })
granted_of who parts = None

abbrev pub lock_of : Who → List ℕ → Option Lock
lock_of who word = granted_of who (slice_split (λ b. b == 58) word)

-- the locks that a reply to this life grants
unfoldable pub locks_of : Who → List ℕ → Option (List Lock)
locks_of who word = all_of (lock_of who) (items_of word)

-- names, as many as are said
unfoldable pub names_of : ℕ → List (List ℕ) → Option (List (List ℕ))
names_of count words = if length words == count then all_of name_of words else None

-- which stripe sizes there are
abbrev pub is_stripe_size : ℕ → Bool
is_stripe_size size = nat_lt 0 size && size % 65536 == 0 && nat_le size 4294901760

-- whether no number stands twice
abbrev pub are_distinct : List ℕ → Bool
are_distinct [] = true
are_distinct (x ∷ xs) = not (list_any (λ y. y == x) xs) && are_distinct xs

-- whether the targets of stripes are these
abbrev pub are_stripes : List ℕ → Bool
are_stripes targets = nat_lt 0 (length targets) && nat_le (length targets) 8 && are_distinct targets

-- the layout of this stripe size and these targets
unfoldable pub striped : ℕ → List ℕ → Option Raid0
striped size targets = if is_stripe_size size && are_stripes targets then Some (record { size = size; targets = targets }) else None

-- a stripe size and targets
abbrev pub raid_of : List (List ℕ) → Option Raid0
raid_of (size ∷ targets ∷ []) = number_of size >>? λ s. all_of (small_of 16) (slice_split (λ b. b == 44) targets) >>? λ ts. striped s ts
raid_of parts = None

unfoldable pub layout_of : List ℕ → Option Raid0
layout_of word = raid_of (slice_split (λ b. b == 58) word)
