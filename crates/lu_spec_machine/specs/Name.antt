-- Names are lists of bytes, and stand in the order of their bytes.
use Rattle.std.specs.Prelude.{ℕ, Bool, List, length, nat_lt}
use Rattle.std.specs.Str.{bytes_eq}
use Rattle.std.specs.declared.cmp.Ordering.{Ordering}
use Rattle.std.specs.Ordering.{nat_cmp}
use Rattle.std.specs.Cmp.Lexicographic.{slice_cmp}

abbrev pub same_name : List ℕ → List ℕ → Bool
same_name a b = bytes_eq a b

abbrev pub name_cmp : List ℕ → List ℕ → Ordering
name_cmp = slice_cmp nat_cmp

-- a name has at most 255 bytes (the ENAMETOOLONG of POSIX.1, with Linux's NAME_MAX)
abbrev pub is_too_long : List ℕ → Bool
is_too_long name = nat_lt 255 (length name)
