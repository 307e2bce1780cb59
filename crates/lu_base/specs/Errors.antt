-- Errors in words.
use Rattle.std.specs.Prelude.{ℕ, List, codes}
use Rattle.lu_base.specs.declared.faults.ReadError.{ReadError}
use Rattle.lu_base.specs.declared.faults.ReadError.TheVariants.{ReadFault, TooLong, Memory}

-- why not all of a source was read
abbrev pub read_error_text : ReadError → List ℕ
read_error_text ReadFault = codes "read fault"
read_error_text TooLong = codes "too long"
read_error_text Memory = codes "out of memory"
