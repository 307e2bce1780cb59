use Rattle.std.proofs.Common.{refl}
use Rattle.lu_judge_calls.proofs.Steps.{call_same}
use Rattle.lu_judge_calls.proofs.open_calls.OpenCalls.call_in.Goals as goal

pub returns-in-Some : goal.returns-in-Some
returns-in-Some c = record {
  call = λ past shown. rw (
    call_same c.args.client c.args.slot past,
    ← c.call.ensures.call past shown,
    c.in-Some.is,
  ) refl;
}

pub returns-in-None : goal.returns-in-None
returns-in-None c = record {
  call = λ past shown. rw (
    call_same c.args.client c.args.slot past,
    ← c.call.ensures.call past shown,
    c.in-None.is,
  ) refl;
}
