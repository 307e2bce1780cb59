-- The locks so far are called back.
use Rattle.std.proofs.Common.{◌≡◌, take}
use Rattle.lu_target_locks.specs.Calling.{calling, call_all}
use Rattle.lu_target_locks.proofs.calling.call_all.Given as goal

abbrev pub invariant-loop-cookie : goal.invariant-loop-cookie
invariant-loop-cookie l =
    calling l.calls l.called.items ≡ call_all l.space l.tick l.initial.calls (take l.cookie-index l.cookies)
