-- A life's first word gets its place.
use Rattle.std.proofs.Common.{◌∙◌, ap, map}
use Rattle.std.specs.List.{list_any}
use Rattle.lu_spec_entries.specs.Words.{same_life}
use Rattle.lu_spec_target.specs.Windows.{with_word}
use Rattle.lu_window.specs.Shown.{said, said_of}
use Rattle.lu_window.proofs.Maps.{word_put}
use Rattle.lu_window.proofs.words.Words.add.Goals as goal

pub returns-clause-added : goal.returns-clause-added
returns-clause-added c =
    ap (map said_of) c.in_ok-insert.ensures.entries
    ∙ word_put c.args.who c.args.word c.self.inside.by_life.entries
    (ap (list_any (λ word. same_life word.who c.args.who)) c.self.view_is ∙ c.requires.first)
    ∙ ap (with_word (said c.args.who c.args.word)) c.self.view_is
