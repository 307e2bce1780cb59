use Rattle.std.proofs.Common.{◌≡◌, Some, None, sym, ap, ◌∙◌}
use Rattle.std.specs.Prelude.{find}
use Rattle.std.proofs.lemmas.Result.{on_ok_weaker}
use Rattle.lu_held.specs.Locks.{is_named}
use Rattle.lu_client.specs.Clients.{ClientState}
use Rattle.lu_client.proofs.Answering.{page_none, page_bits, page_range}
use Rattle.lu_client.proofs.client.Client.take_page.Goals as goal

pub returns-in_default : goal.returns-in_default
returns-in_default c =
    let none : None ≡ find (is_named c.args.name) c.args.self.now.client.store.held =
    sym c.in_default.is ∙ c.held.ensures.held ∙ ap (λ (s : ClientState). find (is_named c.args.name) s.client.store.held) c.self.view_is in
    record { makes = λ turn. page_none c.args.resource c.args.name c.args.page c.args.content.now c.args.self.now turn none }

pub returns-in_default-policy : goal.returns-in_default-policy
returns-in_default-policy c =
    let some : Some c.in-Some.held ≡ find (is_named c.args.name) c.args.self.now.client.store.held =
    sym c.in-Some.is ∙ c.held.ensures.held ∙ ap (λ (s : ClientState). find (is_named c.args.name) s.client.store.held) c.self.view_is in
    record {
      makes = λ turn. page_bits c.args.resource c.args.name c.args.page c.args.content.now c.args.self.now c.in-Some.held turn some
          c.in_default-policy.not-Range;
    }

pub returns : goal.returns
returns c =
    let some : Some c.in-Some.held ≡ find (is_named c.args.name) c.args.self.now.client.store.held =
    sym c.in-Some.is ∙ c.held.ensures.held ∙ ap (λ (s : ClientState). find (is_named c.args.name) s.client.store.held) c.self.view_is in
    record {
      makes = on_ok_weaker c.fill_page.result
          (λ fills turn. page_range c.args.resource c.args.name c.args.page c.args.content.now c.args.self.now c.show_page.new.self
          c.fill_page.new.self c.in-Some.held c.in-Range.extent turn some c.in-Range.is (c.in_ok-show_page.ensures.makes turn)
          (fills turn))
          c.fill_page.ensures.makes;
    }
