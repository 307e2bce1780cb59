-- A wire that gets the lines and the messages of a turn shows the run with that turn.
use Rattle.std.proofs.Common.{◌≡◌, ℕ, ◌+◌, List, ◌∷◌, ◌++◌, map, sym, subst, ap, ◌∙◌, arith}
use Rattle.std.specs.Prelude.{reverse}
use Rattle.lu_base.specs.declared.ids.At.{At}
use Rattle.lu_base.specs.declared.ids.Node.{Node}
use Rattle.lu_msg.specs.declared.messages.Message.{Message}
use Rattle.lu_msg.specs.declared.messages.Post.{Post}
use Rattle.lu_trace.specs.declared.entries.Line.{Line as PrintedLine}
use Rattle.lu_trace.specs.declared.traces.Step.{Step}
use Rattle.lu_spec_entries.specs.Words.{Entry, Take}
use Rattle.lu_spec_entries.specs.Given.{step_of, step_lines, step_posts}
use Rattle.lu_spec_entries.specs.Printed.{printed}
use Rattle.lu_proof_run.specs.Numbering.{last_after_all, numbered_sends, with_taken}
use Rattle.lu_proof_run.proofs.Numbers.{turn_prints, turn_sent, lines_last}
use Rattle.lu_proof_run.proofs.Posts.{posts_length}
use Rattle.lu_spec_run.specs.Scenarios.{Config, past_of, posted, with_turn}
use Rattle.lu_run_wire.specs.Wires.{WireState, ShowsWire}

-- these lines are written, with the numbers of what they send, and these messages are sent
pub record Adds (old new : WireState) (at : At) (lines : List PrintedLine) (posts : List Post) : Type 0 where
  pub entries : new.entries ≡ old.entries ++ numbered_sends old.messages lines
  pub links : new.links ≡ old.links ++ map (posted at) posts
  pub turns : new.turns ≡ old.turns + 1
  pub messages : new.messages ≡ last_after_all old.messages lines

adds_turn : (old new : WireState) (c : Config) (at : At) (es : List Entry) → ShowsWire old c
    → Adds old new at (step_lines at es) (step_posts es)
    → ShowsWire new (with_turn c (record { at = at; entries = es }))
adds_turn old new c at es h adds =
    let past = past_of c in
    let shown = h.messages in
    let counted = h.counted in
    let turns = h.turns in
    let turned = adds.turns in
    let added = adds.messages in
    let last = lines_last old.messages at es in
    let longer = posts_length c.posts at es in
    let sent = turn_sent past at es in
    record {
      entries = adds.entries
          ∙ ap (λ lines. lines ++ numbered_sends old.messages (step_lines at es)) h.entries
          ∙ ap (λ k. reverse (printed past) ++ numbered_sends k (step_lines at es)) (h.messages ∙ h.counted)
          ∙ sym (turn_prints past at es);
      links = adds.links ∙ ap (λ posts. posts ++ map (posted at) (step_posts es)) h.links;
      turns = omega arith;
      messages = omega arith;
      counted = omega arith;
    }

-- a turn in which no message came
pub turn_added : (old new : WireState) (at : At) (step : Step) → Adds old new at step.entries step.sends → (c : Config) (es : List Entry)
    → ShowsWire old c → step ≡ step_of at es
    → ShowsWire new (with_turn c (record { at = at; entries = es }))
turn_added old new at step adds c es h gives = adds_turn old new c at es h
    (subst (λ (s : Step). Adds old new at s.entries s.sends) gives adds)

-- a turn in which a message came: its line gets the number
pub taken_added : (old new : WireState) (at : At) (step : Step) (number : ℕ) → Adds old new at (with_taken number step.entries) step.sends
    → (c : Config) (from : Node) (m : Message) (es : List Entry) → ShowsWire old c → step ≡ step_of at (Take 0 from m ∷ es)
    → ShowsWire new (with_turn c (record { at = at; entries = Take number from m ∷ es }))
taken_added old new at step number adds c from m es h gives =
    adds_turn old new c at (Take number from m ∷ es) h (subst (λ (s : Step). Adds old new at (with_taken number s.entries) s.sends) gives
    adds)
