use Rattle.std.proofs.Common.{sym, ◌∙◌}
use Rattle.lu_judge_glimpse.specs.Shown.{past_of}
use Rattle.lu_judge_glimpse.proofs.Looks.{looked_on, looked_none, looked_cut}
use Rattle.lu_judge_glimpse.proofs.glimpses.Pass.look.Goals as goal

-- the trace goes on
pub returns-then-not-is_cut-clause-looked : goal.returns-then-not-is_cut-clause-looked
returns-then-not-is_cut-clause-looked c =
    looked_on c.args.self.now c.requires.stepped (sym c.is_cut.ensures.cut ∙ c.if-not-is_cut.true)

-- it is cut, and no call is watched
pub returns-then-len-eq0-clause-looked : goal.returns-then-len-eq0-clause-looked
returns-then-len-eq0-clause-looked c =
    looked_none c.args.self.now c.requires.stepped c.requires.some (sym c.is_cut.ensures.cut ∙ c.if-not-is_cut.false)
    (sym c.len.ensures.len ∙ c.if-len-eq0.true)

pub returns-clause-looked : goal.returns-clause-looked
returns-clause-looked c =
    let p = c.args.self.now in
    let kept = c.requires.stepped.kept in
    let history = c.in_ok-build.ensures.shows (past_of p) kept.tables kept.history in
    looked_cut p c.requires.stepped c.requires.some (sym c.is_cut.ensures.cut ∙ c.if-not-is_cut.false) c.build.new.history
    c.in_ok-build.ensures.osts
    history c.see_files.new.sightings (c.in_ok-see_files.ensures.seen (past_of p) history)
