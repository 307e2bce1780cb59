use Rattle.std.proofs.Common.{◌≡◌, List, ℕ, ap, subst, ◌∙◌}
use Rattle.lu_msg.specs.declared.answers.Answer.TheVariants.{Done}
use Rattle.lu_spec_entries.specs.declared.changes.Flush.TheVariants.{Put}
use Rattle.lu_spec_entries.specs.Words.{Fills, Grown}
use Rattle.lu_client_store.specs.Stored.{StoreState, stored_after, stored_turn}
use Rattle.lu_client.specs.Answers.{put_heard}
use Rattle.lu_client.specs.Clients.{ClientState, Makes, state_of, stored_of, with_store}
use Rattle.lu_client.proofs.Answering.{put_done}
use Rattle.lu_client.proofs.client.Client.heed_put.Goals as goal

pub returns : goal.returns
returns c =
    let old : ClientState = state_of c.self.inside.osts c.self.inside.flight c.self.inside.dirty c.self.inside.who
    c.self.inside.handles.items c.self.inside.calls.items c.self.inside.imports.items c.self.inside.store c.self.inside.spent in
    let stored : c.grow.new.self ≡ stored_turn (stored_of old) (put_heard c.args.resource c.args.offset c.args.bytes.now Done) =
    c.grow.ensures.grown
    ∙ ap (λ (bs : List ℕ). stored_after c.fill.new.self (Grown c.args.resource (Put c.args.offset bs))) c.in_ok-copy.ensures.same
    ∙ ap (λ (s : StoreState). stored_after s (Grown c.args.resource (Put c.args.offset c.args.bytes.now)))
    (c.in_ok-fill.ensures.filled
    ∙ ap (λ (bs : List ℕ). stored_after c.ack.new.self (Fills c.args.resource c.args.offset bs)) c.as_slice.ensures.same
    ∙ ap (λ (s : StoreState). stored_after s (Fills c.args.resource c.args.offset c.args.bytes.now)) c.ack.ensures.acked) in
    record {
      makes = λ turn. subst (λ (s : ClientState). Makes (λ k. put_heard c.args.resource c.args.offset c.args.bytes.now c.args.answer.now) s
          (with_store c.grow.new.self old) turn turn) c.self.view_is
          (put_done c.args.resource c.args.offset c.args.bytes.now c.args.answer.now old c.grow.new.self turn c.in-Done.is stored);
    }
