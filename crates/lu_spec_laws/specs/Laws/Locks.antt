-- Law of locks. A life comes to hold only what the target granted or restored to it, and no two locks conflict that
-- are held by lives which the target hasn't evicted. What is granted is what was asked for, as far as it grows; it
-- conflicts with no granted lock and with none that waits ahead of it. A transaction on names writes nothing that a held
-- lock guards.
use Rattle.std.specs.Prelude.{◌≡◌, ℕ, zero, suc, false, Option, Some, None, List}
use Rattle.std.specs.List.{list_any}
use Rattle.lu_base.specs.declared.ids.At.{At}
use Rattle.lu_base.specs.declared.ids.Node.{Node}
use Rattle.lu_base.specs.declared.ids.Node.TheVariants.{Client, Target}
use Rattle.lu_base.specs.declared.ids.Txn.{Txn as TxnOf}
use Rattle.lu_base.specs.declared.ids.Who.{Who}
use Rattle.lu_base.specs.declared.locks.Ask.{Ask}
use Rattle.lu_base.specs.declared.locks.Lock.{Lock as LockOf}
use Rattle.lu_base.specs.declared.locks.Mode.TheVariants.{EX}
use Rattle.lu_base.specs.declared.locks.Policy.{Policy}
use Rattle.lu_lock.specs.Conflict.{conflicts_with_any}
use Rattle.lu_lock.specs.Growth.{granted_ask}
use Rattle.lu_part.specs.declared.parts.Part.{Part}
use Rattle.lu_part.specs.Guards.{guard}
use Rattle.lu_trace.specs.declared.entries.Entry.{Entry}
use Rattle.lu_trace.specs.declared.entries.Entry.TheVariants.{Hold, Txn, Grant}
use Rattle.lu_trace.specs.declared.entries.Line.{Line}
use Rattle.lu_spec_laws.specs.Words.Pasts.{Past}
use Rattle.lu_spec_laws.specs.Words.Lives.{who_is, is_evicted}
use Rattle.lu_spec_laws.specs.Words.Requests.{asked}
use Rattle.lu_spec_laws.specs.Words.Seen.{writes_of}
use Rattle.lu_spec_laws.specs.Words.Queues.{asks, on, ahead_of, without_first, granted, waiting}
use Rattle.lu_spec_laws.specs.Words.Held.{given, held, all_but, is_opposed}
use Rattle.lu_spec_laws.specs.Words.Asked.{asked_for}

-- ---- at a `hold`: that lock was granted or restored to that life before, and conflicts with no other held one

abbrev pub HoldsGiven : Past → Who → ℕ → ℕ → Option LockOf → Type 0
HoldsGiven past who t cookie None = ⊥
HoldsGiven past who t cookie (Some lock) =
    is_evicted t past who ≡ false → is_opposed past t lock.resource lock.ask (all_but who t cookie (held past)) ≡ false

abbrev pub HoldBy : Past → Node → ℕ → ℕ → Type 0
HoldBy past (Client c) t cookie = HoldsGiven past (who_is c past) t cookie (given t (who_is c past) cookie past)
HoldBy past (Target u) t cookie = Unit {0}

-- ---- at a `grant`

-- the lock as it was asked for, grown beside the granted locks and the others that wait
pub record GrantedAs (asked lock : LockOf) (granted others : List Ask) : Type 0 where
  pub resource : lock.resource ≡ asked.resource
  pub grown : lock.ask ≡ granted_ask asked.ask granted others

abbrev pub IsAsked : Option LockOf → LockOf → List Ask → List Ask → Type 0
IsAsked None lock granted others = ⊥
IsAsked (Some asked) lock granted others = GrantedAs asked lock granted others

-- beside what is granted and what waits on its resource
pub record GrantAt (asked : Option LockOf) (lock : LockOf) (granted waiting : List LockOf) : Type 0 where
  pub free : conflicts_with_any lock.ask (asks granted) ≡ false
  pub first : conflicts_with_any lock.ask (asks (ahead_of lock.cookie.0 waiting)) ≡ false
  pub as_asked : IsAsked asked lock (asks granted) (asks (without_first lock.cookie.0 waiting))

abbrev pub GrantBy : ℕ → Past → At → Node → LockOf → Type 0
GrantBy osts past at (Target t) lock =
    GrantAt (asked_for osts t past at lock) lock (on lock.resource (granted t past)) (on lock.resource (waiting t past))
GrantBy osts past at (Client c) lock = Unit {0}

-- ---- at a transaction on names: its writes, guarded in mode EX, conflict with nothing that is held

abbrev pub exclusive : Who → Policy → Ask
exclusive who policy = record { who = who; mode = EX; policy = policy }

abbrev pub AreUnguarded : Past → Who → List Part → Type 0
AreUnguarded past who parts =
    list_any (λ part. is_opposed past 0 (guard part).0 (exclusive who (guard part).1) (held past)) parts ≡ false

abbrev pub TxnBy : ℕ → Past → Node → TxnOf → Who → ℕ → Type 0
TxnBy osts past (Target zero) number who x =
    AreUnguarded past who (writes_of osts 0 past number who (asked past 0 who x))
TxnBy osts past (Target (suc t)) number who x = Unit {0}
TxnBy osts past (Client c) number who x = Unit {0}

-- ---- the law

abbrev pub LocksAt : ℕ → Past → At → Entry → Type 0
LocksAt osts past at (Hold target cookie) = HoldBy past at.node target.0 cookie.0
LocksAt osts past at (Grant lock) = GrantBy osts past at at.node lock
LocksAt osts past at (Txn number who xid seen answer) = TxnBy osts past at.node number who xid.0
LocksAt osts past at _ = Unit {0}

abbrev pub Locks : ℕ → Past → Line → List Line → Type 0
Locks osts past l later = LocksAt osts past l.at l.entry
