-- What lives handed in at a target since its last boot, and which of them are back: those that asked to join, or
-- handed in as many different replays and locks as their word says (this project's profile; Lustre Operations Manual,
-- recovery, for replay).
use Rattle.std.specs.Prelude.{ℕ, Bool, false, not, ◌==◌, ◌&&◌, nat_le, nat_lt, if◌then◌else◌, Option, Some, None, List, [], ◌∷◌, length}
use Rattle.std.specs.Prelude.{filter}
use Rattle.std.specs.List.{list_any}
use Rattle.lu_base.specs.declared.ids.Who.{Who}
use Rattle.lu_msg.specs.declared.messages.Message.{Message}
use Rattle.lu_msg.specs.declared.messages.Message.TheVariants.{Replay, Lock, Word, Join}
use Rattle.lu_msg.specs.declared.messages.RequestReplay.{RequestReplay}
use Rattle.lu_msg.specs.declared.messages.LockReplay.{LockReplay}
use Rattle.lu_trace.specs.declared.entries.Entry.TheVariants.{Take, Boot}
use Rattle.lu_trace.specs.declared.entries.Line.{Line}
use Rattle.lu_spec_machine.specs.Tree.{same_life}
use Rattle.lu_spec_laws.specs.Words.Pasts.{Past, is_target}
use Rattle.lu_spec_laws.specs.Words.Sends.{message_of}
use Rattle.lu_spec_laws.specs.Words.Boots.{boot, is_recovering}
use Rattle.lu_spec_laws.specs.Words.Slots.{has_slot}

abbrev pub with_message : Option Message → List Message → List Message
with_message None handed = handed
with_message (Some m) handed = m ∷ handed

-- over the messages that were sent
abbrev pub handed_step : ℕ → (ℕ → Option Message) → Line → List Message → List Message
handed_step t sent l old =
    elim l.entry [
      | Take n ↦ if is_target t l.at.node then with_message (sent n) old else old
      | Boot b ↦ if is_target t l.at.node then [] else old
      | _ ↦ old
    ]

-- the messages that the target took since its last boot, the last one first
abbrev pub handed : ℕ → Past → List Message
handed t [] = []
handed t (l ∷ past) = handed_step t (message_of past) l (handed t past)

-- ---- different replays and locks of one boot

abbrev pub is_replay_of : RequestReplay → RequestReplay → Bool
is_replay_of a b = same_life a.who b.who && a.txn.0 == b.txn.0

abbrev pub with_handed_replay : ℕ → Message → List RequestReplay → List RequestReplay
with_handed_replay b (Replay r) older =
    if r.boot == b && not (list_any (is_replay_of r) older) then r ∷ older else older
with_handed_replay b _ older = older

-- one replay for each life and transaction
abbrev pub replays : ℕ → List Message → List RequestReplay
replays b [] = []
replays b (m ∷ handed) = with_handed_replay b m (replays b handed)

abbrev pub is_lock_of : LockReplay → LockReplay → Bool
is_lock_of a b = same_life a.who b.who && a.cookie.0 == b.cookie.0

abbrev pub with_handed_lock : ℕ → Message → List LockReplay → List LockReplay
with_handed_lock b (Lock r) older = if r.boot == b && not (list_any (is_lock_of r) older) then r ∷ older else older
with_handed_lock b _ older = older

-- one lock for each life and cookie
abbrev pub locks : ℕ → List Message → List LockReplay
locks b [] = []
locks b (m ∷ handed) = with_handed_lock b m (locks b handed)

abbrev pub replay_count : ℕ → Who → List Message → ℕ
replay_count b who handed = length (filter (λ (r : RequestReplay). same_life r.who who) (replays b handed))

abbrev pub lock_count : ℕ → Who → List Message → ℕ
lock_count b who handed = length (filter (λ (r : LockReplay). same_life r.who who) (locks b handed))

-- ---- who is back

-- a word that says no more than so many replays and locks; a join stands for a word that says none
abbrev pub is_word : ℕ → Who → ℕ → ℕ → Message → Bool
is_word b who replayed locked (Word other known replays locks seen) =
    same_life other who && known == b && nat_le replays replayed && nat_le locks locked
is_word b who replayed locked (Join other known) = same_life other who && known == b
is_word b who replayed locked _ = false

-- of what was handed in, all that the life's word says is there
abbrev pub has_all : ℕ → Who → List Message → Bool
has_all b who handed = list_any (is_word b who (replay_count b who handed) (lock_count b who handed)) handed

-- the life has a slot and is back
abbrev pub is_back : ℕ → Past → Who → Bool
is_back t past who = has_slot t past who && has_all (boot t past) who (handed t past)

abbrev pub is_newer : ℕ → Who → Message → Bool
is_newer b who (Join other known) = other.client == who.client && nat_lt who.life other.life && known == b
is_newer b who _ = false

-- a newer life of its client asked to join since the boot
abbrev pub has_newer : ℕ → Past → Who → Bool
has_newer t past who = list_any (is_newer (boot t past) who) (handed t past)

-- the life comes back with this line of the target, which follows the past
abbrev pub comes_back : ℕ → Who → Past → Line → Bool
comes_back t who past l = is_recovering t past && is_back t (l ∷ past) who && not (is_back t past who)
