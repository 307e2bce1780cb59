-- What was put so far is the text of the first names.
use Rattle.std.proofs.Common.{◌≡◌, ◌++◌, take}
use Rattle.lu_base.specs.Texts.{further_text}
use Rattle.lu_base.proofs.text.put_further_names.Given as goal

abbrev pub invariant-loop-name : goal.invariant-loop-name
invariant-loop-name l = l.out ≡ l.initial.out ++ further_text (take l.name-index l.names)
