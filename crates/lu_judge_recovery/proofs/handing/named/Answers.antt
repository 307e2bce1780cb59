use Rattle.std.proofs.Common.{◌≡◌, sym, ap, ◌∙◌}
use Rattle.std.specs.Prelude.{Some, None}
use Rattle.lu_judge_recovery.specs.Handing.{handing_of}
use Rattle.lu_judge_recovery.proofs.Coming.{message_known}
use Rattle.lu_judge_recovery.proofs.handing.named.Goals as goal

pub returns-in-Some : goal.returns-in-Some
returns-in-Some c = λ past ledger.
    rw c.in-Take.is (c.handing.ensures ∙ ap handing_of (sym (message_known past c.in-Take.number (Some c.in-Some.sending)
    (c.in-Some.ensures.sending ∙ ledger.sendings c.in-Take.number))))

pub returns-in-None : goal.returns-in-None
returns-in-None c = λ past ledger. rw c.in-Take.is (ap handing_of
    (sym (message_known past c.in-Take.number None (c.in-None.ensures.sending ∙ ledger.sendings c.in-Take.number))))
