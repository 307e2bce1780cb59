-- What a wire shows at the start of a run, once a message is spent and once lines of the scenario are passed over; and when it is full.
use Rattle.std.proofs.Common.{◌≡◌, ℕ, ◌<◌, false, List, [], length, refl, sym, ap, ◌∙◌, arith}
use Rattle.std.specs.Prelude.{◌||◌, nat_le}
use Rattle.std.proofs.lemmas.Bool.Decides.{nat_tests}
use Rattle.lu_net.specs.Posts.{spend}
use Rattle.lu_scene.specs.declared.scene.SceneLine.{SceneLine}
use Rattle.lu_proof_run.proofs.Posts.{spend_length}
use Rattle.lu_spec_run.specs.Scenarios.{Config, is_full}
use Rattle.lu_run_wire.specs.Wires.{WireState, empty_wire, is_full_in, ShowsWire}

pub first_shows : (lines : List SceneLine) → ShowsWire empty_wire (record { turns = []; posts = []; lines = lines })
first_shows lines = record { entries = refl; links = refl; turns = refl; messages = refl; counted = refl }

pub left_shows : (w : WireState) (c : Config) (lines : List SceneLine) → ShowsWire w c → ShowsWire w (record c { lines = lines })
left_shows w c lines h = record { entries = h.entries; links = h.links; turns = h.turns; messages = h.messages; counted = h.counted }

pub spent_shows : (w : WireState) (c : Config) (n : ℕ) (lines : List SceneLine) → ShowsWire w c
    → ShowsWire (record w { links = spend w.links n }) (record { turns = c.turns; posts = spend c.posts n; lines = lines })
spent_shows w c n lines h =
    record {
      entries = h.entries;
      links = ap (λ posts. spend posts n) h.links;
      turns = h.turns;
      messages = h.messages ∙ sym (spend_length c.posts n);
      counted = spend_length c.posts n ∙ h.counted;
    }

pub full_is : (w : WireState) (c : Config) → ShowsWire w c → is_full_in w ≡ is_full c
full_is w c h =
    ap (λ turns. nat_le 65536 turns || nat_le 131072 w.messages) h.turns
    ∙ ap (λ messages. nat_le 65536 (length c.turns) || nat_le 131072 messages) h.messages

-- where it isn't full a turn may begin
pub has_room : (w : WireState) → is_full_in w ≡ false → (w.turns < 65536) × (w.messages < 131072)
has_room w e = (grind (arith, nat_tests), grind (arith, nat_tests))
