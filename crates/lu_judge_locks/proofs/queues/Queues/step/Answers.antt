-- A line of a target changes what is granted and what waits there; one of a client nothing.
use Rattle.std.proofs.Common.{ℕ, ◌+◌, ◌==◌, sym, subst, length, ◌∷◌, add-one}
use Rattle.lu_judge_locks.specs.declared.lists.LockLists.{LockLists}
use Rattle.lu_judge_locks.specs.declared.waiting.Waiting.{Waiting}
use Rattle.lu_judge_locks.specs.Lists.{ShowsLists}
use Rattle.lu_judge_locks.specs.Queues.{ShowsWaiting}
use Rattle.lu_judge_locks.specs.Arrivals.{granted_with, grants, arrivals}
use Rattle.lu_judge_locks.proofs.Lasting.{quiet_shown}
use Rattle.lu_judge_locks.proofs.Passing.{quiet_waiting}
use Rattle.lu_judge_locks.proofs.Stepped.{granted_away, waiting_away, granted_stepped, waiting_stepped}
use Rattle.lu_judge_locks.proofs.queues.Queues.step.Goals as goal

pub returns-in_ok-step_waiting-in-Target : goal.returns-in_ok-step_waiting-in-Target
returns-in_ok-step_waiting-in-Target c = record {
  shows = λ past is shown.
      let granted = c.in_ok-step_granted-in-Target.ensures.granted (λ t. grants t past)
      (subst (λ (n : ℕ). ShowsLists c.args.self.now.granted n (λ t. grants t past)) (sym is) shown.granted) in
      let before = subst (λ (n : ℕ). ShowsWaiting c.args.self.now.waiting n (λ t. arrivals t past)) (sym is) shown.waiting in
      let waiting = c.in_ok-step_waiting-in-Target.ensures.waiting (λ t. arrivals t past)
      (subst (λ (w : Waiting). ShowsWaiting w c.args.place (λ t. arrivals t past)) (sym c.in_ok-step_granted-in-Target.ensures.waiting)
      before) in
      record {
        granted = granted_stepped _ c.in-Target.target c.args.place c.args.line.now past c.in-Target.is is
            (subst (λ (s : LockLists). ShowsLists s (c.args.place + 1)
            (λ t. granted_with (c.in-Target.target == t) c.args.place c.args.line.now.entry (grants t past)))
            (sym c.in_ok-step_waiting-in-Target.ensures.granted) granted);
        waiting = waiting_stepped _ c.in-Target.target c.args.place c.args.line.now past c.in-Target.is is waiting;
      };
}

pub returns-in-Client : goal.returns-in-Client
returns-in-Client c = record {
  shows = λ past is shown. record {
    granted = subst (λ (n : ℕ). ShowsLists c.args.self.now.granted n (λ t. grants t (c.args.line.now ∷ past))) (add-one (length past))
        (quiet_shown c.args.self.now.granted (length past) (λ t. grants t past) (λ t. grants t (c.args.line.now ∷ past)) shown.granted
        (λ t. rw c.in-Client.is (granted_away (length past) c.args.line.now.entry (grants t past))));
    waiting = subst (λ (n : ℕ). ShowsWaiting c.args.self.now.waiting n (λ t. arrivals t (c.args.line.now ∷ past))) (add-one (length past))
        (quiet_waiting c.args.self.now.waiting (length past) (λ t. arrivals t past) (λ t. arrivals t (c.args.line.now ∷ past)) shown.waiting
        (λ t. rw c.in-Client.is (waiting_away (length past) c.args.line.now.entry (arrivals t past))));
  };
}
