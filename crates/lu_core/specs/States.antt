-- The player as contracts see it: the nodes of the run, and its messages and lines.
use Rattle.std.specs.Prelude.{ℕ, Bool, Option, option_map}
use Rattle.lu_net.specs.Posts.{sent_at, spend}
use Rattle.lu_run_nodes.specs.States.{NodesState, is_down_in}
use Rattle.lu_run_wire.specs.Wires.{WireState}

pub record PlayerState : Type 0 where
  pub nodes : NodesState
  pub wire : WireState

-- whether the message of a number goes to a node that is down, where one was sent
abbrev pub is_thrown_in : PlayerState → ℕ → Option Bool
is_thrown_in p number = option_map (λ sent. is_down_in p.nodes sent.to) (sent_at p.wire.links number)

-- the messages once one is spent
abbrev pub wire_spent : WireState → ℕ → WireState
wire_spent wire number = record wire { links = spend wire.links number }

abbrev pub player_spent : PlayerState → ℕ → PlayerState
player_spent p number = record { nodes = p.nodes; wire = wire_spent p.wire number }
