-- What the close of the recovery window makes of what the window has: the kept replays as transactions, what stands on the
-- disk once they are committed, and the locks that stand again (Lustre Operations Manual, recovery; what stands in a close
-- is this project's profile).
use Rattle.std.specs.Prelude.{ℕ, if◌then◌else◌, List, [], ◌∷◌}
use Rattle.lu_base.specs.declared.ids.At.{At}
use Rattle.lu_base.specs.declared.locks.Lock.{Lock}
use Rattle.lu_lock.specs.Conflict.{conflicts_with_any}
use Rattle.lu_spec_machine.specs.Footprint.{Operation, answer, writes}
use Rattle.lu_spec_machine.specs.Objects.{object_writes}
use Rattle.lu_msg.specs.declared.answers.Answer.{Answer}
use Rattle.lu_msg.specs.declared.answers.Answer.TheVariants as told
use Rattle.lu_msg.specs.declared.operations.Op.{Op}
use Rattle.lu_msg.specs.declared.operations.Op.TheVariants as op
use Rattle.lu_part.specs.declared.parts.Part.{Part}
use Rattle.lu_spec_entries.specs.Carried.{Deed, Contents, Outcome}
use Rattle.lu_spec_target.specs.Lives.{lives_of}
use Rattle.lu_spec_target.specs.Stored.{transaction_of, done, batch_of, stored}
use Rattle.lu_spec_target.specs.Windows.{Replayed, Window, Settled, settled}
use Rattle.lu_spec_target.specs.States.{Target}
use Rattle.lu_spec_target.specs.Replies.{locks_on, asks_of}

-- what its window has, while the target recovers
abbrev pub window_of : Target → Window
window_of v =
    record { lives = v.lives; committed = v.committed; replays = v.replays; brought = v.brought; words = v.words; wishes = v.wishes }

-- ---- the kept replays as transactions: each is answered anew, over the contents that those before it leave

abbrev pub redone : Replayed → Operation
redone r = record { number = record { 0 = r.number }; who = r.who; op = r.op }

abbrev pub answer_of : ℕ → Contents → Replayed → Op → Answer
answer_of osts c r (op.Put resource cookie offset bytes) = told.Done
answer_of osts c r (op.Cut resource cookie size) = told.Done
answer_of osts c r o = answer osts c.tree (redone r)

abbrev pub writes_of : ℕ → Contents → Replayed → Op → List Part
writes_of osts c r (op.Put resource cookie offset bytes) = object_writes r.op
writes_of osts c r (op.Cut resource cookie size) = object_writes r.op
writes_of osts c r o = writes osts c.tree (redone r)

-- its reply has the turn of the close, and has seen nothing
abbrev pub deed_again : Target → At → Contents → Replayed → Deed
deed_again v at c r =
    record {
      tag = r.tag;
      op = r.op;
      writes = writes_of v.setting.osts c r r.op;
      reply = record {
        who = r.who;
        boot = v.boot;
        xid = record { 0 = r.xid };
        txn = record { 0 = r.number };
        committed = record { 0 = v.committed };
        seen = [];
        at = at;
        locks = [];
        answer = answer_of v.setting.osts c r r.op;
      };
    }

abbrev pub deeds_again : Target → At → Contents → List Replayed → List Deed
deeds_again v at c [] = []
deeds_again v at c (r ∷ replays) =
    let d = deed_again v at c r in
    d ∷ deeds_again v at (done v.setting.osts c (transaction_of d)) replays

-- ---- the locks that stand again: those of the lives that stay, but for what conflicts with one before it

abbrev pub restored : List Lock → List Lock → List Lock
restored before [] = []
restored before (l ∷ locks) =
    if conflicts_with_any l.ask (asks_of (locks_on l.resource before)) then restored before locks else l ∷ restored (l ∷ before) locks

-- ---- all together

abbrev pub outcome_by : Target → List Deed → Settled → Outcome
outcome_by v deeds s =
    record {
      boot = v.boot;
      kept = deeds;
      disk = stored v.setting.osts (batch_of deeds (lives_of s.gone) s.joins) v.disk;
      locks = restored [] s.locks;
      gone = s.gone;
      joins = s.joins;
      lost = s.lost;
    }

abbrev pub outcome_as : Target → At → Settled → Outcome
outcome_as v at s = outcome_by v (deeds_again v at v.disk.contents s.kept) s

abbrev pub outcome_of : Target → At → Outcome
outcome_of v at = outcome_as v at (settled (window_of v))
