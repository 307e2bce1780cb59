use Rattle.std.proofs.Common.{◌≡◌, ℕ, true, refl, sym, subst}
use Rattle.std.specs.Prelude.{reverse, IsTrue, ◌↔◌}
use Rattle.std.proofs.lemmas.Result.{IfOk-weaker}
use Rattle.lu_spec_laws.specs.Words.Clients.{clients}
use Rattle.lu_spec_laws.specs.Laws.Recovery.{RecoveryAt}
use Rattle.lu_judge_recovery.proofs.Lines.{line_is}
use Rattle.lu_judge_recovery.proofs.AtLines.{client_line}
use Rattle.lu_judge_recovery.proofs.judge.RecoveryJudge.allows.Goals as goal

pub allows_entry-requires : goal.allows_entry-requires
allows_entry-requires c = record { here = sym (line_is c.args.line.now c.in-Target.target c.in-Target.is) }

pub returns-in-Client : goal.returns-in-Client
returns-in-Client c = record {
  decided = λ past shown placed. (
    λ yes. client_line (clients (reverse c.args.self.now.lines.now)) c.args.self.now.known.osts past c.args.line.now c.args.later.now _
        c.args.line.now.entry c.in-Client.is,
    λ law. refl,
  );
}

pub returns-in-Target : goal.returns-in-Target
returns-in-Target c = record {
  decided = IfOk-weaker c.allows_entry.result _ _
      (λ holds decides past shown placed.
      subst (λ (n : ℕ). IsTrue holds ↔ RecoveryAt n c.args.self.now.known.osts past c.args.line.now c.args.later.now c.args.line.now.entry)
      shown.greatest (decides past shown placed))
      c.allows_entry.ensures.decided;
}
