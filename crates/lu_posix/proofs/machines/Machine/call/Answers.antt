-- A read, a flush and what is no call on bytes change no byte.
use Rattle.std.proofs.Common.{◌≡◌, ℕ, List, sym, ap, subst, ◌∙◌}
use Rattle.lu_msg.specs.declared.answers.Answer.TheVariants.{Content, Refused}
use Rattle.lu_msg.specs.declared.answers.Errno.TheVariants.{EBADF}
use Rattle.lu_msg.specs.declared.calls.Call.{Call}
use Rattle.lu_spec_machine.specs.Bytes.{write}
use Rattle.lu_spec_machine.specs.Tree.{layout}
use Rattle.lu_spec_machine.specs.Machine.{Machine, data_answer, data_change, changed_bytes}
use Rattle.lu_posix.specs.Shown.{Shows}
use Rattle.lu_posix.proofs.Showing.{idle_shown, quiet}
use Rattle.lu_posix.proofs.machines.Machine.call.Goals as goal

pub returns-in_ok-bytes-in-Read-clause-answer : goal.returns-in_ok-bytes-in-Read-clause-answer
returns-in_ok-bytes-in-Read-clause-answer c = λ osts m shown.
    ap Content (c.in_ok-bytes-in-Read.ensures.read osts m shown) ∙ sym (ap (λ (x : Call). data_answer m c.args.fid x) c.in-Read.is)

pub returns-in_ok-bytes-in-Read-clause-next : goal.returns-in_ok-bytes-in-Read-clause-next
returns-in_ok-bytes-in-Read-clause-next c = λ osts m shown.
    subst (λ (x : Call). Shows osts c.args.self.now (changed_bytes m c.args.fid (data_change m c.args.fid x))) (sym c.in-Read.is)
    (idle_shown osts c.args.self.now m shown c.args.fid)

pub returns-in_ok-write-in-Write-clause-next : goal.returns-in_ok-write-in-Write-clause-next
returns-in_ok-write-in-Write-clause-next c = λ osts m shown.
    subst (λ (x : Call). Shows osts c.write.new.self (changed_bytes m c.args.fid (data_change m c.args.fid x))) (sym c.in-Write.is)
    (subst (λ (bs : List ℕ). Shows osts c.write.new.self (changed_bytes m c.args.fid
    (write (layout m.tree c.args.fid) c.in-Write.offset bs))) c.as_slice.ensures.same
    (c.in_ok-write-in-Write.ensures.next osts m shown))

pub returns-in_ok-cut-in-Cut-clause-next : goal.returns-in_ok-cut-in-Cut-clause-next
returns-in_ok-cut-in-Cut-clause-next c = λ osts m shown.
    subst (λ (x : Call). Shows osts c.cut.new.self (changed_bytes m c.args.fid (data_change m c.args.fid x))) (sym c.in-Cut.is)
    (c.in_ok-cut-in-Cut.ensures.next osts m shown)

pub returns-in-Flush-clause-next : goal.returns-in-Flush-clause-next
returns-in-Flush-clause-next c = λ osts m shown.
    subst (λ (x : Call). Shows osts c.args.self.now (changed_bytes m c.args.fid (data_change m c.args.fid x))) (sym c.in-Flush.is)
    (idle_shown osts c.args.self.now m shown c.args.fid)

pub returns-in_default : goal.returns-in_default
returns-in_default c =
    record {
      answer = λ osts m shown. (all osts m shown).0;
      next = λ osts m shown. (all osts m shown).1;
    }
  where
    all : (osts : ℕ) (m : Machine) (shown : Shows osts c.args.self.now m) → (Refused EBADF ≡ data_answer m c.args.fid c.args.call.now)
        × Shows osts c.args.self.now (changed_bytes m c.args.fid (data_change m c.args.fid c.args.call.now))
    all osts m shown = quiet osts c.args.self.now m shown c.args.fid c.args.call.now c.in_default.not-Read c.in_default.not-Write
        c.in_default.not-Cut c.in_default.not-Flush
