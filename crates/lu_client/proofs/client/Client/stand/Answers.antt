use Rattle.std.proofs.Common.{◌≡◌, sym, ap, subst, ◌∙◌, Some, [], ◌∷◌}
use Rattle.std.specs.Prelude.{option_map}
use Rattle.lu_msg.specs.declared.calls.Call.{Call}
use Rattle.lu_trace.specs.declared.entries.Entry.TheVariants as line
use Rattle.lu_trace.specs.Turns.{with_line}
use Rattle.lu_spec_entries.specs.Carried.{Plain, Running}
use Rattle.lu_spec_entries.specs.Words.{Begin}
use Rattle.lu_spec_client.specs.Slots.{begun}
use Rattle.lu_call.specs.Views.{file_of}
use Rattle.lu_client.specs.Clients.{ClientState, with_call, Makes}
use Rattle.lu_client.proofs.Begun.{stood}
use Rattle.lu_client.proofs.client.Client.stand.Goals as goal

pub returns : goal.returns
returns c =
    let step : c.note.new.self.step ≡ with_line c.args.turn.now.at c.args.turn.now.step (line.Begin c.args.slot c.args.call) =
    c.in_ok-note.ensures.added ∙ ap (λ (x : Call). with_line c.args.turn.now.at c.args.turn.now.step (line.Begin c.args.slot x))
    c.in_ok-copied.ensures.same in
    let new : c.put.new.self ≡ with_call c.args.slot (Some (begun c.at.result c.args.call (option_map file_of c.args.file) Plain))
    c.args.self.now =
    c.put.ensures.put ∙ ap (λ (r : Running). with_call c.args.slot (Some r) c.args.self.now) c.new-standing.ensures.begun in
    record {
      makes = subst (λ (s : ClientState). Makes (λ k. Begin c.args.slot
          (begun c.args.turn.now.at c.args.call (option_map file_of c.args.file) Plain) ∷ []) c.args.self.now s c.args.turn.now
          c.note.new.self) (sym new)
          (stood c.args.self.now c.args.turn.now c.note.new.self c.args.slot c.args.call c.at.result (option_map file_of c.args.file)
          (c.at.ensures.at ∙ c.in_ok-note.ensures.turn) step c.in_ok-note.ensures.turn);
    }
