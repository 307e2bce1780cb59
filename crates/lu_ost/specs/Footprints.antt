-- What an operation on objects leaves, part by part.
use Rattle.std.specs.Prelude.{◌≡◌, ℕ, ◌≤◌}
use Rattle.lu_base.specs.declared.ids.Who.{Who}
use Rattle.lu_base.specs.declared.locks.Extent.{Extent}
use Rattle.lu_base.specs.declared.locks.Resource.{Resource}
use Rattle.lu_lock.specs.Growth.{the_end}
use Rattle.lu_spec_machine.specs.Footprint.{Operation, Apart}
use Rattle.lu_part.specs.declared.parts.Part.TheVariants.{Bytes}
use Rattle.lu_service.specs.Contents.{Contents, SameBytes}
use Rattle.lu_service.specs.Objects.{objects}

-- bytes that meet nothing that is written stay: those of other objects too
abbrev pub OthersStay : Type 0
OthersStay =
    (s : Contents) (a : Operation) (r : Resource) (extent : Extent) → extent.last ≤ the_end
    → Apart (objects.writes s a) (Bytes r.fid r.stripe extent)
    → SameBytes (objects.after s a) s r extent

-- each byte after it depends on the operation and on that byte before it alone, a written one too
abbrev pub NewFromOld : Type 0
NewFromOld =
    (s t : Contents) (a : Operation) (r : Resource) (extent : Extent) → SameBytes s t r extent
    → SameBytes (objects.after s a) (objects.after t a) r extent

-- a life that goes leaves all as it is
abbrev pub ForgetLeavesAll : Type 0
ForgetLeavesAll = (s : Contents) (who : Who) → objects.forgotten s who ≡ s
