-- The modes of locks: which two are compatible, and which one serves another
-- (Wang et al., Understanding Lustre Filesystem Internals, the lock manager).
use Rattle.std.specs.Prelude.{◌≡◌, Bool, true, false, ◌⊎◌}
use Rattle.lu_base.specs.declared.locks.Mode.{Mode}
use Rattle.lu_base.specs.declared.locks.Mode.TheVariants.{EX, PW, PR, CW, CR, NL}

-- What a row of a table has under this mode.
abbrev pub under : Mode → (ex pw pr cw cr nl : Bool) → Bool
under EX ex pw pr cw cr nl = ex
under PW ex pw pr cw cr nl = pw
under PR ex pw pr cw cr nl = pr
under CW ex pw pr cw cr nl = cw
under CR ex pw pr cw cr nl = cr
under NL ex pw pr cw cr nl = nl

-- Whether two modes are compatible: one line for each row of the table, with its columns in the order
-- EX PW PR CW CR NL.
abbrev pub compatible : Mode → Mode → Bool
compatible EX b = under b false false false false false true
compatible PW b = under b false false false false true true
compatible PR b = under b false false true false true true
compatible CW b = under b false false false true true true
compatible CR b = under b false true true true true true
compatible NL b = under b true true true true true true

-- Whether a held mode serves a wanted one: each mode serves itself, and PW serves PR.
abbrev pub serves : (held wanted : Mode) → Bool
serves EX wanted = under wanted true false false false false false
serves PW wanted = under wanted false true true false false false
serves PR wanted = under wanted false false true false false false
serves CW wanted = under wanted false false false true false false
serves CR wanted = under wanted false false false false true false
serves NL wanted = under wanted false false false false false true

-- The same as a fact: the modes are equal, or PW is held and PR is wanted.
abbrev pub Serves : (held wanted : Mode) → Type 0
Serves held wanted = (held ≡ wanted) ⊎ ((held ≡ PW) × (wanted ≡ PR))
