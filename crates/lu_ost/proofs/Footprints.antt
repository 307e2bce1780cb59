-- What an operation on objects leaves, part by part.
use Rattle.std.proofs.Common.{◌≡◌, ℕ, ◌≤◌, true, false, refl, arith}
use Rattle.lu_base.specs.declared.locks.Resource.{Resource}
use Rattle.lu_spec_machine.proofs.Places.{in_parts}
use Rattle.lu_service.specs.Contents.{SameBytes}
use Rattle.lu_service.specs.Objects.{objects}
use Rattle.lu_ost.specs.Footprints.{OthersStay, NewFromOld, ForgetLeavesAll}
use Rattle.lu_ost.specs.Stored.{after_same, after_stays}
use Rattle.lu_ost.proofs.Removal.{all_apart}

pub others_stay : OthersStay
others_stay s a r extent ends apart q on =
    after_stays a.op s.objects r q (let last = (in_parts extent q on).1 in omega (arith, last, ends))
    (all_apart (objects.writes s a) r.fid r.stripe extent q on apart)

pub new_from_old : NewFromOld
new_from_old s t a r extent same q on = after_same a.op s.objects t.objects r q (same q on)

pub forget_leaves_all : ForgetLeavesAll
forget_leaves_all s who = refl
