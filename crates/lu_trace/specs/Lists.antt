-- The texts of lists: `-` for none, else the items with `,` between them.
use Rattle.std.specs.Prelude.{ℕ, List, [], ◌∷◌, ◌++◌, map, codes, decimal}
use Rattle.std.specs.List.{join_with_byte}
use Rattle.lu_base.specs.Texts.{pair_text}
use Rattle.lu_base.specs.declared.locks.Lock.{Lock}
use Rattle.lu_layout.specs.Raid0.{Raid0}
use Rattle.lu_trace.specs.Values.{policy_text}

abbrev pub list_text : {T : Type 0} → (T → List ℕ) → List T → List ℕ
list_text text [] = codes "-"
list_text text (item ∷ rest) = join_with_byte 44 (map text (item ∷ rest))

-- transactions, as of what an operation has seen
abbrev pub seen_text : List ℕ → List ℕ
seen_text = list_text pair_text

-- numbers, as of the sizes of objects
abbrev pub numbers_text : List ℕ → List ℕ
numbers_text = list_text decimal

-- a lock of a reply: its cookie, the file and the bits, with colons between them
abbrev pub lock_text : Lock → List ℕ
lock_text lock = pair_text lock.cookie.0 ++ codes ":" ++ pair_text lock.resource.fid.0 ++ codes ":" ++ policy_text lock.ask.policy

-- the locks of a reply
abbrev pub locks_text : List Lock → List ℕ
locks_text = list_text lock_text

-- a layout: the stripe size, a colon, the targets of the stripes
abbrev pub layout_text : Raid0 → List ℕ
layout_text layout = decimal layout.size ++ codes ":" ++ join_with_byte 44 (map decimal layout.targets)
