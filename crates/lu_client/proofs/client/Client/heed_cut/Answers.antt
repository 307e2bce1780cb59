use Rattle.std.proofs.Common.{◌≡◌, ap, subst, ◌∙◌}
use Rattle.lu_msg.specs.declared.answers.Answer.TheVariants.{Done}
use Rattle.lu_spec_entries.specs.declared.changes.Flush.TheVariants.{Cut}
use Rattle.lu_spec_entries.specs.Words.{Zeroes, Grown}
use Rattle.lu_client_store.specs.Stored.{StoreState, stored_after, stored_turn}
use Rattle.lu_client.specs.Answers.{cut_heard}
use Rattle.lu_client.specs.Clients.{ClientState, Makes, state_of, stored_of, with_store}
use Rattle.lu_client.proofs.Answering.{cut_done}
use Rattle.lu_client.proofs.client.Client.heed_cut.Goals as goal

pub returns : goal.returns
returns c =
    let old : ClientState = state_of c.self.inside.osts c.self.inside.flight c.self.inside.dirty c.self.inside.who
    c.self.inside.handles.items c.self.inside.calls.items c.self.inside.imports.items c.self.inside.store c.self.inside.spent in
    let stored : c.grow.new.self ≡ stored_turn (stored_of old) (cut_heard c.args.resource c.args.size Done) =
    c.grow.ensures.grown
    ∙ ap (λ (s : StoreState). stored_after s (Grown c.args.resource (Cut c.args.size)))
    (c.zero.ensures.zeroed ∙ ap (λ (s : StoreState). stored_after s (Zeroes c.args.resource c.args.size)) c.ack.ensures.acked) in
    record {
      makes = λ turn. subst (λ (s : ClientState). Makes (λ k. cut_heard c.args.resource c.args.size c.args.answer.now) s
          (with_store c.grow.new.self old) turn turn) c.self.view_is
          (cut_done c.args.resource c.args.size c.args.answer.now old c.grow.new.self turn c.in-Done.is stored);
    }
