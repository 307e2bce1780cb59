use Rattle.std.proofs.Common.{◌≡◌, ◌≤◌, ℕ, refl, sym, ◌∙◌, subst, arith}
use Rattle.std.proofs.lemmas.Bool.{leb-true, le-leb}
use Rattle.lu_judge_recovery.proofs.Judging.{refused, commit_line}
use Rattle.lu_judge_recovery.proofs.commits.allows_commit.Goals as goal

pub returns-then-not-may_stand : goal.returns-then-not-may_stand
returns-then-not-may_stand c = record {
  decided = λ past windows. refused (λ commit. absurd (cc (sym (sym (c.may_stand.ensures.stands past windows) ∙ c.if-not-may_stand.true)
      ∙ commit.standing)));
}

pub returns : goal.returns
returns c = record {
  decided = λ past windows.
      let is = c.committed.ensures.committed past windows in
      commit_line c.args.target past c.args.number.0 _ (sym (c.may_stand.ensures.stands past windows) ∙ c.if-not-may_stand.false) (
        λ yes. subst (λ (n : ℕ). n ≤ c.args.number.0) is (leb-true _ _ yes),
        λ below. le-leb _ _ (subst (λ (n : ℕ). n ≤ c.args.number.0) (sym is) below),
      );
}
