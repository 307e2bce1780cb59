-- A configuration that is of a run of the table.
use Rattle.std.specs.Prelude.{◌≡◌, ◌≤◌, ◌<◌, ◌+◌, List, [], ◌∷◌, length}
use Rattle.lu_base.specs.declared.ids.At.{At}
use Rattle.lu_base.specs.declared.ids.Node.{Node}
use Rattle.lu_base.specs.declared.ids.Node.TheVariants.{Client, Target}
use Rattle.lu_spec_run.specs.Heads.{Head}
use Rattle.lu_spec_run.specs.Runs.{Turn, IsRun}
use Rattle.lu_spec_run.specs.Scenarios.{Config, past_of}
use Rattle.lu_proof_run.specs.Posts.{all_sent, messages}

-- a client or a target of a run with this head
abbrev pub IsOfRun : Head → Node → Type 0
IsOfRun head (Client c) = c < head.clients
IsOfRun head (Target t) = t ≤ head.osts

-- when and where the next turn is, if it is of this node
abbrev pub next_at : Config → Node → At
next_at c node = record { stamp = record { 0 = length c.turns + 1 }; node = node }

-- each turn's stamp is the number of turns up to it
abbrev pub IsStamped : List Turn → Type 0
IsStamped [] = Unit {0}
IsStamped (turn ∷ turns) = (turn.at.stamp.0 ≡ length turns + 1) × IsStamped turns

-- the turns of a configuration are a run, and its messages, spent or not, are all that these turns sent, in order
pub record InTable (head : Head) (c : Config) : Type 0 where
  pub run : IsRun head c.turns
  pub stamped : IsStamped c.turns
  pub posts : messages c.posts ≡ all_sent (past_of c)
