-- What is asked of a message that comes to a client: that it brings no lock that is held already and no size above that of the
-- greatest file, that what it answers lies in a file, and that the client has a life left. In a run these hold of all messages;
-- `accepts` tests them.
use Rattle.std.specs.Prelude.{ℕ, ◌+◌, ◌^◌, nat_lt, nat_le, ◌&&◌, if◌then◌else◌, Bool, true, false, not, List, [], ◌∷◌, length, Option, Some}
use Rattle.std.specs.Prelude.{None}
use Rattle.lu_base.specs.declared.ids.Node.{Node}
use Rattle.lu_base.specs.declared.ids.Node.TheVariants.{Client as FromClient, Target}
use Rattle.lu_base.specs.declared.ids.Who.{Who}
use Rattle.lu_base.specs.declared.locks.Lock.{Lock}
use Rattle.lu_msg.specs.declared.messages.GrantNotice.{GrantNotice}
use Rattle.lu_msg.specs.declared.messages.Message.{Message}
use Rattle.lu_msg.specs.declared.messages.Message.TheVariants as message
use Rattle.lu_msg.specs.declared.messages.Reply.{Reply as ReplyTo}
use Rattle.lu_msg.specs.declared.operations.Op.{Op}
use Rattle.lu_msg.specs.declared.operations.Op.TheVariants as op
use Rattle.lu_held.specs.declared.locks.HeldLock.{HeldLock}
use Rattle.lu_held.specs.Locks.{named}
use Rattle.lu_held.specs.Held.{is_held}
use Rattle.lu_spec_machine.specs.Fits.{answer_fits}
use Rattle.lu_spec_entries.specs.Carried.{Flight}
use Rattle.lu_spec_entries.specs.Words.{same_life}
use Rattle.lu_spec_client.specs.Caches.{brought, held_as, with_held}
use Rattle.lu_spec_client.specs.Imports.{import_of}
use Rattle.lu_spec_client.specs.Messages.{find_flight, is_present, size_with, waiter}
use Rattle.lu_spec_client.specs.States.{Client}

-- ---- what is asked of its parts

-- none of these locks of a target is held, and no two have one name
abbrev pub are_new : ℕ → List Lock → List HeldLock → Bool
are_new t [] held = true
are_new t (l ∷ locks) held = not (is_held (named (record { 0 = t }) l.cookie) held) && are_new t locks (with_held (held_as t l false) held)

-- a size, if any, is at most 2^40, that of the greatest file
abbrev pub is_short : Option ℕ → Bool
is_short None = true
is_short (Some size) = nat_le size (2 ^ 40)

-- what an operation on an object reads or writes lies in the greatest file
abbrev pub is_in_file : Op → Bool
is_in_file (op.Get resource cookie page) = nat_lt page (2 ^ 28)
is_in_file (op.Put resource cookie at bs) = nat_le (at + length bs) (2 ^ 40)
is_in_file (op.Cut resource cookie n) = nat_le n (2 ^ 40)
is_in_file _ = true

-- ---- a reply

abbrev pub may_answer : ℕ → ReplyTo → Flight → Client → Bool
may_answer t r f k = are_new t (brought f.op r) k.store.held && is_short (size_with r.answer) && is_in_file f.op

-- one whose answer doesn't fit is only taken
abbrev pub may_fit : ℕ → ReplyTo → Client → Option Flight → Bool
may_fit t r k None = true
may_fit t r k (Some f) = if answer_fits f.op r.answer then may_answer t r f k else true

abbrev pub may_reply : ℕ → ReplyTo → Client → Bool
may_reply t r k =
    if is_present r.who r.boot t k then may_fit t r k (find_flight r.xid.0 (import_of t k.imports).flights) else true

-- ---- a grant

abbrev pub may_hold : ℕ → GrantNotice → Client → Option ℕ → Bool
may_hold t g k None = true
may_hold t g k (Some slot) = not (is_held (named (record { 0 = t }) g.cookie) k.store.held) && is_short (Some g.size)

abbrev pub may_grant : ℕ → GrantNotice → Client → Bool
may_grant t g k =
    if is_present g.who g.boot t k then may_hold t g k (waiter (named (record { 0 = t }) g.cookie) 0 k.calls) else true

-- ---- an eviction: there is a number for the next life

abbrev pub may_evict : Who → Client → Bool
may_evict who k = if same_life who k.who then nat_lt (k.who.life + 1) (2 ^ 32) else true

-- ---- all of them

abbrev pub may_from : ℕ → Message → Client → Bool
may_from t (message.Reply r) k = may_reply t r k
may_from t (message.Grant g) k = may_grant t g k
may_from t (message.Evicted who boot) k = may_evict who k
may_from t _ k = true

-- it is of a target of the run, and brings nothing that it may not
abbrev pub may_come : Node → Message → Client → Bool
may_come (Target t) m k = nat_lt t (length k.imports) && may_from t m k
may_come (FromClient c) m k = true
