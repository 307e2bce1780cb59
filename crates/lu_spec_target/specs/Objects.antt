-- Requests at an object storage target: locks on ranges, and bytes under them (Wang et al., Understanding Lustre Filesystem
-- Internals, the lock manager and object storage targets; what covers a request is this project's profile).
use Rattle.std.specs.Prelude.{ℕ, ◌+◌, ◌-◌, max, nat_le, ◌&&◌, ◌==◌, if◌then◌else◌, Bool, List, [], ◌∷◌, length, Option, Some, None}
use Rattle.lu_base.specs.declared.ids.At.{At}
use Rattle.lu_base.specs.declared.ids.Cookie.{Cookie}
use Rattle.lu_base.specs.declared.ids.Who.{Who}
use Rattle.lu_base.specs.declared.locks.Extent.{Extent}
use Rattle.lu_base.specs.declared.locks.Lock.{Lock}
use Rattle.lu_base.specs.declared.locks.Mode.{Mode}
use Rattle.lu_base.specs.declared.locks.Mode.TheVariants.{PR, PW}
use Rattle.lu_base.specs.declared.locks.Policy.TheVariants.{Range}
use Rattle.lu_base.specs.declared.locks.Resource.{Resource}
use Rattle.lu_lock.specs.Growth.{the_end}
use Rattle.lu_lock.specs.Modes.{serves}
use Rattle.lu_lock.specs.Overlap.{extents_meet}
use Rattle.lu_spec_machine.specs.Objects.{object_writes, object_touches, page_extent, content}
use Rattle.lu_msg.specs.declared.answers.Answer.TheVariants as told
use Rattle.lu_msg.specs.declared.messages.Request.{Request as RequestOf}
use Rattle.lu_msg.specs.declared.operations.Op.{Op}
use Rattle.lu_msg.specs.declared.operations.Op.TheVariants as op
use Rattle.lu_spec_entries.specs.Carried.{Deed}
use Rattle.lu_spec_entries.specs.Words.{Entry, Txn, Grant, Wait, same_life}
use Rattle.lu_spec_target.specs.States.{Target, follow}
use Rattle.lu_spec_target.specs.Replies.{seen_in, next_number, reply_to, deed_of, replies, locks_on}
use Rattle.lu_spec_target.specs.Queues.{object, size_of, extent_of, has_to_wait, grown, blocks_go}
use Rattle.lu_spec_target.specs.Glimpses.{answered, row_answers, highest, row_size}

-- ---- a lock is asked for: it is granted or waits, is answered so, and then calls back what is in its way

abbrev pub lock_for : Target → RequestOf → Resource → Mode → Extent → Lock
lock_for v r resource mode extent =
    record { cookie = record { 0 = v.cookie + 1 }; resource = resource; ask = record { who = r.who; mode = mode; policy = Range extent } }

abbrev pub row_granted : Target → At → RequestOf → Lock → List Entry
row_granted v at r l =
    let d = answered v at r (told.Granted l.cookie (extent_of l) (size_of v l.resource)) in
    Grant l (Some d) ∷ replies d ∷ []

abbrev pub row_waiting : Target → At → RequestOf → Lock → List Entry
row_waiting v at r l =
    let d = answered v at r (told.Waiting l.cookie) in
    follow v (Wait l d ∷ replies d ∷ []) (λ w. blocks_go (locks_on l.resource w.waiting) w)

abbrev pub row_enqueue : Target → At → RequestOf → Lock → List Entry
row_enqueue v at r l =
    let waiting = locks_on l.resource v.waiting in
    if has_to_wait v waiting l then row_waiting v at r l else row_granted v at r (grown v waiting l)

-- ---- bytes, under a granted lock of the asker on that object

abbrev pub lock_of : Who → Cookie → List Lock → Option Lock
lock_of who cookie [] = None
lock_of who cookie (l ∷ locks) = if l.cookie.0 == cookie.0 && same_life l.ask.who who then Some l else lock_of who cookie locks

abbrev pub row_uncovered : Target → At → RequestOf → List Entry
row_uncovered v at r = row_answers (answered v at r told.Uncovered)

-- a page is read as far as the lock goes
abbrev pub row_get : Target → At → RequestOf → Resource → ℕ → Option Lock → List Entry
row_get v at r resource page None = row_uncovered v at r
row_get v at r resource page (Some l) =
    if serves l.ask.mode PR && extents_meet (extent_of l) (page_extent page)
    then row_answers (answered v at r (told.Content (content page (extent_of l) (object v resource))))
    else row_uncovered v at r

abbrev pub lies_in : Extent → Extent → Bool
lies_in extent outer = nat_le outer.first extent.first && nat_le extent.last outer.last

abbrev pub written : Target → At → RequestOf → Deed
written v at r = deed_of r (object_writes r.op) (reply_to v r (next_number v) (seen_in (object_touches r.op told.Done) v.log) at []
    told.Done)

abbrev pub row_written : Deed → List Entry
row_written d = Txn d ∷ replies d ∷ []

-- a put or a cut, which writes this range
abbrev pub row_write : Target → At → RequestOf → Extent → Option Lock → List Entry
row_write v at r extent None = row_uncovered v at r
row_write v at r extent (Some l) =
    if serves l.ask.mode PW && lies_in extent (extent_of l) then row_written (written v at r) else row_uncovered v at r

abbrev pub put_extent : ℕ → List ℕ → Extent
put_extent offset bytes = record { first = offset; last = offset + length bytes - 1 }

-- a cut writes its last offset too
abbrev pub cut_extent : ℕ → Extent
cut_extent size = record { first = max size 1 - 1; last = the_end }

-- ---- one clause for each operation

abbrev pub objects_go : Target → At → RequestOf → Op → List Entry
objects_go v at r (op.Enqueue resource mode extent) = row_enqueue v at r (lock_for v r resource mode extent)
objects_go v at r (op.Get resource cookie page) = row_get v at r resource page (lock_of r.who cookie (locks_on resource v.granted))
objects_go v at r (op.Put resource cookie offset bytes) = row_write v at r (put_extent offset bytes)
    (lock_of r.who cookie (locks_on resource v.granted))
objects_go v at r (op.Cut resource cookie size) = row_write v at r (cut_extent size) (lock_of r.who cookie (locks_on resource v.granted))
objects_go v at r (op.Size resource) = row_size v at r resource (highest (locks_on resource v.granted))
objects_go v at r o = []
