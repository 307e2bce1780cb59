-- A line in its place: what the law of messages says around it, and that it is a line of the whole trace.
use Rattle.std.specs.Prelude.{◌≡◌, false, if◌then◌else◌, List, [], ◌∷◌, ◌++◌, reverse}
use Rattle.lu_base.specs.declared.ids.At.{At}
use Rattle.lu_trace.specs.declared.entries.Line.{Line}
use Rattle.lu_spec_laws.specs.Words.Pasts.{Past, UpTo, same_turn}
use Rattle.lu_spec_laws.specs.Laws.Messages.{Messages, Follows}
use Rattle.lu_judge_pass.specs.Firsts.{About}

-- the lines of a past stand in the order of their turns
abbrev pub Ordered : Past → Type 0
Ordered [] = Unit {0}
Ordered (l ∷ past) = Follows past l.at × Ordered past

-- later lines stand in the order of their turns, after a line of this turn
abbrev pub InOrder : At → List Line → Type 0
InOrder at [] = Unit {0}
InOrder at (l ∷ later) = UpTo at l.at × InOrder l.at later

pub record PlacedIn (all past : Past) (l : Line) (rest : List Line) : Type 0 where
  pub messages : Messages past l rest
  pub ordered : Ordered past
  pub later : InOrder l.at rest
  pub whole : all ≡ reverse rest ++ l ∷ past

-- what the judges of the laws after that of messages know of each line
abbrev pub Placed : About → Past → Line → List Line → Type 0
Placed about = PlacedIn about.whole

-- of lines that follow a line of this turn those of the turn, up to the first of another one
abbrev pub turn_of : At → List Line → List Line
turn_of at [] = []
turn_of at (l ∷ later) = if same_turn l.at at then l ∷ turn_of at later else []

-- no line of these is of this turn
abbrev pub NoneOf : At → List Line → Type 0
NoneOf at [] = Unit {0}
NoneOf at (l ∷ lines) = (same_turn l.at at ≡ false) × NoneOf at lines

-- the newest line is of another turn than this one
abbrev pub IsNew : At → Past → Type 0
IsNew at [] = Unit {0}
IsNew at (l ∷ past) = same_turn l.at at ≡ false
