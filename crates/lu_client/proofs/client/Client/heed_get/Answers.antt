use Rattle.std.proofs.Common.{List, ℕ, sym, subst}
use Rattle.lu_msg.specs.declared.answers.Answer.{Answer}
use Rattle.lu_client.specs.Answers.{get_heard, page_came}
use Rattle.lu_client.specs.Clients.{Makes}
use Rattle.lu_client.proofs.Answering.{got}
use Rattle.lu_client.proofs.client.Client.heed_get.Goals as goal

pub returns : goal.returns
returns c =
    record {
      makes = λ turn. subst (λ (a : Answer). Makes (get_heard c.args.slot c.args.resource c.args.name c.args.page a) c.args.self.now
          c.look_for_page.new.self turn turn) (sym c.in-Content.is)
          (got c.args.slot c.args.resource c.args.name c.args.page c.in-Content.content c.args.self.now c.take_page.new.self
          c.look_for_page.new.self turn
          (subst (λ (bs : List ℕ). Makes (page_came c.args.resource c.args.name c.args.page bs) c.args.self.now c.take_page.new.self turn
          turn) c.as_slice.ensures.same (c.in_ok-take_page.ensures.makes turn))
          (c.look_for_page.ensures.makes turn));
    }
