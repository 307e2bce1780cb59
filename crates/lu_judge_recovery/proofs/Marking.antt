-- What one more line makes of the marks of turns.
use Rattle.std.proofs.Common.{◌≡◌, ℕ, ◌∷◌, sym, ◌∙◌, subst}
use Rattle.std.specs.Prelude.{◌==◌, ◌&&◌}
use Rattle.lu_base.specs.declared.ids.Node.TheVariants.{Client, Target}
use Rattle.lu_trace.specs.declared.entries.Entry.{Entry}
use Rattle.lu_trace.specs.declared.entries.Line.{Line}
use Rattle.lu_spec_laws.specs.Words.Pasts.{Past, is_target}
use Rattle.lu_spec_laws.specs.Laws.Recovery.{is_tick, is_commit, is_take, is_back_of}
use Rattle.lu_judge_recovery.specs.Turns.{line_at}
use Rattle.lu_judge_recovery.specs.Marks.{Marked, ShowsMarks}
use Rattle.lu_judge_recovery.specs.declared.marks.Marks.{Marks}
use Rattle.lu_judge_recovery.proofs.Lines.{line_is, set_marked, nothing_said, no_turn}

pub client_marks : (m : Marks) (past : Past) (l : Line) (c : ℕ) → l.at.node ≡ Client c → ShowsMarks m past → ShowsMarks m (l ∷ past)
client_marks m past l c is shown = record {
  ticked = λ s t. shown.ticked s t ∙ sym (nothing_said (is_tick l.entry) (l.at.stamp.0 == s && is_target t l.at.node) _
      (no_turn s t c l.at.node l.at.stamp.0 is));
  committed = λ s t. shown.committed s t ∙ sym (nothing_said (is_commit l.entry) (l.at.stamp.0 == s && is_target t l.at.node) _
      (no_turn s t c l.at.node l.at.stamp.0 is));
  taken = λ s t. shown.taken s t ∙ sym (nothing_said (is_take l.entry) (l.at.stamp.0 == s && is_target t l.at.node) _
      (no_turn s t c l.at.node l.at.stamp.0 is));
  back = λ s t who. shown.back s t who ∙ sym (nothing_said (is_back_of who l.entry) (l.at.stamp.0 == s && is_target t l.at.node) _
      (no_turn s t c l.at.node l.at.stamp.0 is));
}

marks_at : (old new : Marks) (past : Past) (stamp target : ℕ) (e : Entry) → Marked old new stamp target e → ShowsMarks old past
    → ShowsMarks new (line_at stamp target e ∷ past)
marks_at old new past stamp target e marked shown = record {
  ticked = λ s t. set_marked (is_tick e) (stamp == s && target == t) _ _ _ (marked.ticked s t) (shown.ticked s t);
  committed = λ s t. set_marked (is_commit e) (stamp == s && target == t) _ _ _ (marked.committed s t) (shown.committed s t);
  taken = λ s t. set_marked (is_take e) (stamp == s && target == t) _ _ _ (marked.taken s t) (shown.taken s t);
  back = λ s t who. set_marked (is_back_of who e) (stamp == s && target == t) _ _ _ (marked.back s t who) (shown.back s t who);
}

pub target_marks : (old new : Marks) (past : Past) (l : Line) (target : ℕ) → l.at.node ≡ Target target
    → Marked old new l.at.stamp.0 target l.entry → ShowsMarks old past
    → ShowsMarks new (l ∷ past)
target_marks old new past l target is marked shown =
    subst (λ (k : Line). ShowsMarks new (k ∷ past)) (line_is l target is) (marks_at old new past l.at.stamp.0 target l.entry marked shown)
