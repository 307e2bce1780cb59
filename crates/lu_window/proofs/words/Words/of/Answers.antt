-- A life's word stands under the life.
use Rattle.std.proofs.Common.{◌∙◌, ap}
use Rattle.std.specs.Prelude.{option_map}
use Rattle.lu_spec_target.specs.Windows.{word_of}
use Rattle.lu_window.specs.Shown.{said}
use Rattle.lu_window.proofs.Maps.{word_found}
use Rattle.lu_window.proofs.words.Words.of.Goals as goal

pub returns : goal.returns
returns c =
    ap (option_map (said c.args.who)) c.get.ensures.value
    ∙ word_found c.args.who c.self.inside.by_life.entries
    ∙ ap (word_of c.args.who) c.self.view_is
