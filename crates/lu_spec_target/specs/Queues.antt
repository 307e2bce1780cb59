-- The queues of locks on objects (Wang et al., Understanding Lustre Filesystem Internals, the lock manager: extent locks;
-- how far an extent grows, and the order of what is granted and called back, is this project's profile). After a change
-- of a queue all that may be granted is granted in order, then each waiting lock calls back what is in its way.
use Rattle.std.specs.Prelude.{ℕ, nat_lt, ◌==◌, ◌&&◌, ◌||◌, if◌then◌else◌, Bool, List, [], ◌∷◌, ◌++◌, filter, None}
use Rattle.lu_base.specs.declared.locks.Extent.{Extent}
use Rattle.lu_base.specs.declared.locks.Lock.{Lock}
use Rattle.lu_base.specs.declared.locks.Policy.{Policy}
use Rattle.lu_base.specs.declared.locks.Policy.TheVariants.{Bits, Range}
use Rattle.lu_base.specs.declared.locks.Resource.{Resource}
use Rattle.lu_held.specs.Locks.{same_resource}
use Rattle.lu_lock.specs.Conflict.{conflict, conflicts_with_any}
use Rattle.lu_lock.specs.Growth.{granted_ask}
use Rattle.lu_spec_machine.specs.Objects.{Object, object_size, range}
use Rattle.lu_msg.specs.declared.messages.Message.TheVariants as message
use Rattle.lu_spec_entries.specs.Words.{Entry, Grant}
use Rattle.lu_spec_target.specs.Stored.{object_in}
use Rattle.lu_spec_target.specs.States.{Target, follow}
use Rattle.lu_spec_target.specs.Replies.{seen_in, to_life, locks_on, asks_of, blocks}

abbrev pub object : Target → Resource → Object
object v r = object_in v.contents.objects r

abbrev pub size_of : Target → Resource → ℕ
size_of v r = object_size (object v r)

abbrev pub extent_in : Policy → Extent
extent_in (Range extent) = extent
extent_in (Bits bits) = record { first = 0; last = 0 }

abbrev pub extent_of : Lock → Extent
extent_of l = extent_in l.ask.policy

-- ---- calling back

abbrev pub conflicting : Target → Lock → List Lock
conflicting v l = filter (λ k. conflict l.ask k.ask) (locks_on l.resource v.granted)

-- these waiting locks call back what is in their way, one after another
abbrev pub blocks_go : List Lock → Target → List Entry
blocks_go [] v = []
blocks_go (l ∷ waiting) v = follow v (blocks v (conflicting v l)) (blocks_go waiting)

-- ---- granting

-- the message tells of the object as it is when it is sent
abbrev pub grant_message : Target → Lock → Entry
grant_message v l =
    to_life l.ask.who (message.Grant (record {
      who = l.ask.who;
      boot = v.boot;
      cookie = l.cookie;
      extent = extent_of l;
      size = size_of v l.resource;
      committed = record { 0 = v.committed };
      seen = seen_in (range l.resource (extent_of l).first (extent_of l).last) v.log;
    }))

-- a lock waits where it conflicts with a granted one, or with one that waits ahead of it
abbrev pub has_to_wait : Target → List Lock → Lock → Bool
has_to_wait v ahead l = conflicts_with_any l.ask (asks_of (locks_on l.resource v.granted)) || conflicts_with_any l.ask (asks_of ahead)

-- the lock as it is granted beside those that were granted and the others that wait, ahead of it and behind it
abbrev pub grown : Target → List Lock → Lock → Lock
grown v others l = record l { ask = granted_ask l.ask (asks_of (locks_on l.resource v.granted)) (asks_of others) }

abbrev pub grant_entries : Target → Lock → List Entry
grant_entries v l = Grant l None ∷ grant_message v l ∷ []

-- in order; ahead: those that wait on
abbrev pub grants_go : List Lock → List Lock → Target → List Entry
grants_go ahead [] v = []
grants_go ahead (l ∷ later) v =
    if has_to_wait v ahead l
    then grants_go (ahead ++ l ∷ []) later v
    else follow v (grant_entries v (grown v (ahead ++ later) l)) (grants_go ahead later)

-- the queue of a resource was changed
abbrev pub queue_goes : Resource → Target → List Entry
queue_goes r v = follow v (grants_go [] (locks_on r v.waiting) v) (λ w. blocks_go (locks_on r w.waiting) w)

-- ---- resource by resource, in rising Fid and stripe; where nothing was changed nothing comes of it

abbrev pub is_before : Resource → Resource → Bool
is_before a b = nat_lt a.fid.0 b.fid.0 || (a.fid.0 == b.fid.0 && nat_lt a.stripe b.stripe)

abbrev pub with_resource : Resource → List Resource → List Resource
with_resource r [] = r ∷ []
with_resource r (x ∷ xs) = if same_resource r x then x ∷ xs else (if is_before r x then r ∷ x ∷ xs else x ∷ with_resource r xs)

abbrev pub resources_of : List Lock → List Resource
resources_of [] = []
resources_of (l ∷ locks) = with_resource l.resource (resources_of locks)

abbrev pub queues_go : List Resource → Target → List Entry
queues_go [] v = []
queues_go (r ∷ rs) v = follow v (queue_goes r v) (queues_go rs)

abbrev pub all_queues_go : Target → List Entry
all_queues_go v = queues_go (resources_of v.waiting) v
