-- The texts of nodes, of a lock's mode and of octal numbers.
use Rattle.std.specs.Prelude.{ℕ, false, List, ◌∷◌, codes, decimal}
use Rattle.std.specs.Fmt.{digits}
use Rattle.lu_base.specs.declared.ids.Node.{Node}
use Rattle.lu_base.specs.declared.ids.Node.TheVariants.{Client, Target}
use Rattle.lu_base.specs.declared.locks.Mode.{Mode}
use Rattle.lu_base.specs.declared.locks.Mode.TheVariants.{EX, PW, PR, CW, CR, NL}

-- `c` and the client's number
abbrev pub client_text : ℕ → List ℕ
client_text client = 99 ∷ decimal client

-- `t` and the target's number
abbrev pub target_text : ℕ → List ℕ
target_text target = 116 ∷ decimal target

-- a client or a target
abbrev pub node_text : Node → List ℕ
node_text (Client client) = client_text client
node_text (Target target) = target_text target

-- a lock's mode
abbrev pub mode_text : Mode → List ℕ
mode_text EX = codes "EX"
mode_text PW = codes "PW"
mode_text PR = codes "PR"
mode_text CW = codes "CW"
mode_text CR = codes "CR"
mode_text NL = codes "NL"

-- a number in octal, as the mode of a directory or a file
abbrev pub octal_text : ℕ → List ℕ
octal_text = digits 8 false
