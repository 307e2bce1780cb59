-- The wishes as lives.
use Rattle.std.proofs.Common.{◌∙◌}
use Rattle.lu_window.proofs.wishes.Wishes.lives.Goals as goal

pub returns : goal.returns
returns c = c.from.ensures ∙ c.in_ok-lives.ensures ∙ c.self.view_is
