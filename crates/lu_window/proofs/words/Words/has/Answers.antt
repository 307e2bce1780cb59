-- A life's word stands under the life.
use Rattle.std.proofs.Common.{◌∙◌, ap}
use Rattle.std.specs.List.{list_any}
use Rattle.lu_spec_entries.specs.Words.{same_life}
use Rattle.lu_window.proofs.Maps.{word_among}
use Rattle.lu_window.proofs.words.Words.has.Goals as goal

pub returns : goal.returns
returns c =
    c.contains_key.ensures
    ∙ word_among c.args.who c.self.inside.by_life.entries
    ∙ ap (list_any (λ word. same_life word.who c.args.who)) c.self.view_is
