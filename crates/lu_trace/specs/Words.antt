-- Words of a line, with one space between them.
use Rattle.std.specs.Prelude.{ℕ, List}
use Rattle.std.specs.List.{join_with_byte}

abbrev pub words : List (List ℕ) → List ℕ
words = join_with_byte 32
