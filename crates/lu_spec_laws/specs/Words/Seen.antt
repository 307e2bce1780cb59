-- Seen numbers (this project's profile): the standing transactions of the target above its committed number, in rising
-- order, whose writes meet what an operation touches. Of names both are the table's, over the contents at that line;
-- of bytes they are ranges of one object, as the plain machine has them.
use Rattle.std.specs.Prelude.{ℕ, zero, suc, Bool, not, ◌==◌, ◌&&◌, nat_lt, if◌then◌else◌, Option, Some, None, List, [], ◌∷◌, map, filter}
use Rattle.std.specs.Prelude.{reverse}
use Rattle.std.specs.Bool.{then_some}
use Rattle.lu_base.specs.declared.ids.Txn.{Txn as TxnOf}
use Rattle.lu_base.specs.declared.ids.Who.{Who}
use Rattle.lu_base.specs.declared.locks.Resource.{Resource}
use Rattle.lu_base.specs.declared.locks.Extent.{Extent}
use Rattle.lu_base.specs.declared.locks.Lock.{Lock as LockOf}
use Rattle.lu_base.specs.declared.locks.Policy.{Policy}
use Rattle.lu_base.specs.declared.locks.Policy.TheVariants.{Bits, Range}
use Rattle.lu_msg.specs.declared.answers.Answer.{Answer}
use Rattle.lu_msg.specs.declared.operations.Op.{Op}
use Rattle.lu_msg.specs.declared.messages.GrantNotice.{GrantNotice}
use Rattle.lu_part.specs.declared.parts.Part.{Part}
use Rattle.lu_trace.specs.declared.entries.Entry.{Entry}
use Rattle.lu_trace.specs.declared.entries.Entry.TheVariants.{Txn, Grant, Restore}
use Rattle.lu_trace.specs.declared.entries.Line.{Line}
use Rattle.lu_spec_machine.specs.Footprint.{touches, writes}
use Rattle.lu_spec_machine.specs.Objects.{range, object_writes, object_touches}
use Rattle.lu_spec_machine.specs.Seen.{meet}
use Rattle.lu_spec_laws.specs.Words.Pasts.{Past, is_target, or_else}
use Rattle.lu_spec_laws.specs.Words.Scopes.{last_at}
use Rattle.lu_spec_laws.specs.Words.Requests.{asked}
use Rattle.lu_spec_laws.specs.Words.Boots.{committed}
use Rattle.lu_spec_laws.specs.Words.Lost.{is_lost}
use Rattle.lu_spec_laws.specs.Words.Standing.{contents}

-- ---- an operation of a target, 0 the metadata target, over the contents after the past

abbrev pub writes_of : ℕ → ℕ → Past → TxnOf → Who → Option Op → List Part
writes_of osts t past number who None = []
writes_of osts zero past number who (Some o) =
    writes osts (contents osts past) (record { number = number; who = who; op = o })
writes_of osts (suc t) past number who (Some o) = object_writes o

abbrev pub touches_of : ℕ → ℕ → Past → TxnOf → Who → Option Op → Answer → List Part
touches_of osts t past number who None answer = []
touches_of osts zero past number who (Some o) answer =
    touches osts (contents osts past) (record { number = number; who = who; op = o })
touches_of osts (suc t) past number who (Some o) answer = object_touches o answer

-- ---- what the transactions of a target wrote

-- a transaction, and what it wrote over the contents before it
pub record Written : Type 0 where
  pub number : ℕ
  pub writes : List Part

-- over what each request wrote here, by the number of its transaction and its life
abbrev pub written_step : ℕ → (TxnOf → Who → ℕ → List Part) → Line → List Written → List Written
written_step t wrote l old =
    elim l.entry [
      | Txn number who xid seen answer ↦
          if is_target t l.at.node then record { number = number.0; writes = wrote number who xid.0 } ∷ old else old
      | _ ↦ old
    ]

abbrev pub request_writes : ℕ → ℕ → Past → TxnOf → Who → ℕ → List Part
request_writes osts t past number who x = writes_of osts t past number who (asked past t who x)

-- the newest first
abbrev pub written : ℕ → ℕ → Past → List Written
written osts t [] = []
written osts t (l ∷ past) = written_step t (request_writes osts t past) l (written osts t past)

-- it is above the committed number, isn't lost, and wrote what meets these parts
abbrev pub is_seen : ℕ → (ℕ → Bool) → List Part → Written → Bool
is_seen above lost touched w = nat_lt above w.number && not (lost w.number) && meet w.writes touched

abbrev pub seen_of : ℕ → (ℕ → Bool) → List Part → List Written → List ℕ
seen_of above lost touched ws = map (λ (w : Written). w.number) (filter (is_seen above lost touched) (reverse ws))

-- what is seen by what touches these parts after the past, in rising order
abbrev pub seen_by : ℕ → ℕ → Past → List Part → List ℕ
seen_by osts t past touched = seen_of (committed t past) (is_lost past t) touched (written osts t past)

-- ---- what a message that grants a lock lets its holder see

abbrev pub granted_as : ℕ → Entry → Option LockOf
granted_as cookie (Grant lock) = then_some (lock.cookie.0 == cookie) lock
granted_as cookie _ = None

abbrev pub restored_as : ℕ → Entry → Option LockOf
restored_as cookie (Restore lock) = then_some (lock.cookie.0 == cookie) lock
restored_as cookie _ = None

-- a lock as it stands in its last `grant` or `restore` line
abbrev pub lock_as : ℕ → Entry → Option LockOf
lock_as cookie e = or_else (granted_as cookie e) (restored_as cookie e)

abbrev pub lock_with : ℕ → ℕ → Past → Option LockOf
lock_with t cookie past = last_at (lock_as cookie) t past

abbrev pub policy_touches : Resource → Policy → List Part
policy_touches resource (Range extent) = range resource extent.first extent.last
policy_touches resource (Bits bits) = []

-- the range of the lock's last `grant` line, in whatever boot; without one, the range that the message names, on what
-- the lock's `restore` line names; without either, nothing
abbrev pub granted_touches : Option LockOf → Option LockOf → Extent → List Part
granted_touches (Some granted) restored extent = policy_touches granted.resource granted.ask.policy
granted_touches None (Some restored) extent = range restored.resource extent.first extent.last
granted_touches None None extent = []

abbrev pub notice_touches : ℕ → Past → GrantNotice → List Part
notice_touches t past g =
    granted_touches (last_at (granted_as g.cookie.0) t past) (last_at (restored_as g.cookie.0) t past) g.extent
