-- The messages of a run and the lines of its turns, and of which run so far they are.
use Rattle.std.specs.Prelude.{◌≡◌, ℕ, Bool, ◌||◌, nat_le, List, [], length, reverse}
use Rattle.lu_net.specs.declared.links.Posted.{Posted}
use Rattle.lu_trace.specs.declared.entries.Line.{Line}
use Rattle.lu_spec_entries.specs.Printed.{printed}
use Rattle.lu_spec_entries.specs.Sent.{count_sent}
use Rattle.lu_spec_run.specs.Scenarios.{Config, past_of}

-- all messages, each spent or not; the lines of all turns; how many turns and how many messages there were
pub record WireState : Type 0 where
  pub links : List Posted
  pub entries : List Line
  pub turns : ℕ
  pub messages : ℕ

abbrev pub empty_wire : WireState
empty_wire = record { links = []; entries = []; turns = 0; messages = 0 }

-- no turn begins any more: there were 65,536 turns or 131,072 messages
abbrev pub is_full_in : WireState → Bool
is_full_in wire = nat_le 65536 wire.turns || nat_le 131072 wire.messages

-- it shows a run so far: its lines, in order, as they are printed, and its messages
pub record ShowsWire (wire : WireState) (c : Config) : Type 0 where
  pub entries : wire.entries ≡ reverse (printed (past_of c))
  pub links : wire.links ≡ c.posts
  pub turns : wire.turns ≡ length c.turns
  pub messages : wire.messages ≡ length c.posts
  pub counted : length c.posts ≡ count_sent (past_of c)
