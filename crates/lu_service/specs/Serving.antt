-- Which operations a target performs again after its boot, and which locks it has, by the kind of its service.
use Rattle.std.specs.Prelude.{◌≡◌, true, ⊤}
use Rattle.lu_base.specs.declared.locks.Lock.{Lock}
use Rattle.lu_base.specs.declared.locks.Mode.TheVariants.{PR}
use Rattle.lu_msg.specs.declared.operations.Op.{Op}
use Rattle.lu_service.specs.declared.services.Kind.{Kind}
use Rattle.lu_service.specs.declared.services.Kind.TheVariants.{Mdt, Ost}
use Rattle.lu_service.specs.Objects.{alters}
use Rattle.lu_service.specs.Takes.{Performs}

-- what may be performed again: what the service performs, and of objects no look at a size
abbrev pub IsRepeatable : Kind → Op → Type 0
IsRepeatable kind o = Performs kind o × (kind ≡ Ost → alters o ≡ true)

abbrev pub IsForReading : Lock → Type 0
IsForReading l = l.ask.mode ≡ PR

-- locks on names are for reading, those on objects also for writing
abbrev pub IsLockOf : Kind → Lock → Type 0
IsLockOf Mdt l = IsForReading l
IsLockOf Ost l = ⊤
