use Rattle.std.proofs.Common.{◌≡◌, ◌-◌, ◌*◌, [], ◌∷◌, List, drop, ℕ, ap, subst, ◌∙◌}
use Rattle.std.proofs.lemmas.Result.{on_ok_weaker}
use Rattle.lu_spec_entries.specs.Words.{Entry}
use Rattle.lu_spec_client.specs.Messages.{padded}
use Rattle.lu_client.specs.Clients.{Makes}
use Rattle.lu_client.proofs.Answering.{fills_part}
use Rattle.lu_client.proofs.Pages.{part_fits}
use Rattle.lu_client.proofs.client.Client.fill_page.Goals as goal

pub fill_bytes-requires : goal.fill_bytes-requires
fill_bytes-requires c =
    record {
      fits = part_fits c.args.page c.args.extent c.part_of-first.result.0 c.part_of-first.result.1 c.rest_of-rest.result.now
          c.as_slice.result.now c.requires.page c.part_of-first.ensures.first c.part_of-first.ensures.count
          (c.as_slice.ensures.same ∙ c.in_ok-part.ensures.padded);
    }

pub returns : goal.returns
returns c =
    let part : c.as_slice.result.now ≡ padded (drop (c.part_of-first.result.0 - c.args.page * 4096) c.args.content.now)
    c.part_of-first.result.1 =
    c.as_slice.ensures.same ∙ c.in_ok-part.ensures.padded ∙ ap (λ (xs : List ℕ). padded xs c.part_of-first.result.1)
    c.rest_of-rest.ensures.rest in
    record {
      makes = on_ok_weaker c.fill_bytes.result
          (λ fills turn. subst (λ (e : Entry). Makes (λ k. e ∷ []) c.args.self.now c.fill_bytes.new.self turn turn)
          (fills_part c.args.resource c.args.page c.args.content.now c.args.extent c.part_of-first.result.0 c.part_of-first.result.1
          c.as_slice.result.now c.part_of-first.ensures.first c.part_of-first.ensures.count part)
          (fills turn))
          c.fill_bytes.ensures.makes;
    }
