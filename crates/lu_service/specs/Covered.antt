-- Whether a granted lock covers a request for bytes (Wang et al., Understanding Lustre Filesystem Internals, the
-- lock manager and object storage targets; what covers a request is this project's profile). It is the lock that
-- the request names, the asker's, on that object. A `get` wants a mode that serves PR and a range that meets its
-- page; a `put` and a `cut` want PW and a range that holds all that is written.
use Rattle.std.specs.Prelude.{ℕ, ◌+◌, ◌-◌, max, nat_le, ◌&&◌, ◌==◌, Bool, false, List, length, Option, Some, None}
use Rattle.lu_base.specs.declared.ids.Cookie.{Cookie}
use Rattle.lu_base.specs.declared.ids.Who.{Who}
use Rattle.lu_base.specs.declared.locks.Extent.{Extent}
use Rattle.lu_base.specs.declared.locks.Lock.{Lock}
use Rattle.lu_base.specs.declared.locks.Mode.TheVariants.{PR, PW}
use Rattle.lu_base.specs.declared.locks.Policy.{Policy}
use Rattle.lu_base.specs.declared.locks.Policy.TheVariants.{Bits, Range}
use Rattle.lu_base.specs.declared.locks.Resource.{Resource}
use Rattle.lu_lock.specs.Growth.{the_end}
use Rattle.lu_lock.specs.Modes.{serves}
use Rattle.lu_lock.specs.Overlap.{extents_meet}
use Rattle.lu_msg.specs.declared.operations.Op.{Op}
use Rattle.lu_msg.specs.declared.operations.Op.TheVariants as op
use Rattle.lu_spec_machine.specs.Objects.{page_extent}
use Rattle.lu_spec_machine.specs.Tree.{same_life}
use Rattle.lu_service.specs.Contents.{same_resource}

-- locks on objects have ranges; one on bits stands as a range of the offset 0
abbrev pub extent_in : Policy → Extent
extent_in (Range extent) = extent
extent_in (Bits bits) = record { first = 0; last = 0 }

abbrev pub extent_of : Lock → Extent
extent_of l = extent_in l.ask.policy

abbrev pub lies_in : Extent → Extent → Bool
lies_in extent outer = nat_le outer.first extent.first && nat_le extent.last outer.last

-- what a put and a cut write; a cut writes its last offset too
abbrev pub put_extent : ℕ → List ℕ → Extent
put_extent offset bytes = record { first = offset; last = offset + length bytes - 1 }

abbrev pub cut_extent : ℕ → Extent
cut_extent size = record { first = max size 1 - 1; last = the_end }

-- it is that life's lock of this cookie on that object
abbrev pub is_named : Who → Resource → Cookie → Lock → Bool
is_named who r cookie l = same_resource l.resource r && (l.cookie.0 == cookie.0 && same_life l.ask.who who)

abbrev pub covers_read : ℕ → Lock → Bool
covers_read page l = serves l.ask.mode PR && extents_meet (extent_of l) (page_extent page)

abbrev pub covers_write : Extent → Lock → Bool
covers_write extent l = serves l.ask.mode PW && lies_in extent (extent_of l)

-- whether this granted lock covers what the life asks
abbrev pub covers : Op → Lock → Who → Bool
covers (op.Get r cookie page) l who = is_named who r cookie l && covers_read page l
covers (op.Put r cookie offset bytes) l who = is_named who r cookie l && covers_write (put_extent offset bytes) l
covers (op.Cut r cookie size) l who = is_named who r cookie l && covers_write (cut_extent size) l
covers _ l who = false

-- no granted lock covers nothing
abbrev pub covered : Op → Option Lock → Who → Bool
covered o None who = false
covered o (Some l) who = covers o l who
