-- The law of locks is decided.
use Rattle.std.proofs.Common.{◌≡◌, ℕ, zero, refl, suc, Option, Some, None, List}
use Rattle.lu_base.specs.declared.ids.At.{At}
use Rattle.lu_base.specs.declared.ids.Node.{Node}
use Rattle.lu_base.specs.declared.ids.Node.TheVariants.{Client, Target}
use Rattle.lu_base.specs.declared.ids.Txn.{Txn as TxnOf}
use Rattle.lu_base.specs.declared.ids.Who.{Who}
use Rattle.lu_base.specs.declared.locks.Ask.{Ask}
use Rattle.lu_base.specs.declared.locks.Lock.{Lock as LockOf}
use Rattle.lu_lock.specs.Growth.{granted_ask}
use Rattle.lu_trace.specs.declared.entries.Entry.{Entry}
use Rattle.lu_trace.specs.declared.entries.Entry.TheVariants.{Hold, Txn, Grant}
use Rattle.lu_trace.specs.declared.entries.Line.{Line}
use Rattle.lu_spec_laws.specs.Words.Pasts.{Past}
use Rattle.lu_spec_laws.specs.Words.Lives.{who_is}
use Rattle.lu_spec_laws.specs.Words.Queues.{asks, on, without_first, granted, waiting}
use Rattle.lu_spec_laws.specs.Words.Held.{given}
use Rattle.lu_spec_laws.specs.Words.Asked.{asked_for}
use Rattle.lu_spec_laws.specs.Laws.Locks.{HoldsGiven, HoldBy, IsAsked, GrantedAs, GrantAt, GrantBy, TxnBy, LocksAt, Locks}
use Rattle.lu_spec_laws.proofs.Decides.{Decided, nothing, never, like, both, three, is_false, unless}
use Rattle.lu_spec_laws.proofs.Same.{by_part, pairs, lives, modes, policies, resources}

abbrev pub same_asks : (a b : Ask) → Decided (a ≡ b)
same_asks a b =
    by_part (λ a. (a.who, (a.mode, a.policy))) (λ p. record { who = p.0; mode = p.1.0; policy = p.1.1 }) (λ a. refl) a b
    (pairs lives (pairs modes policies) (a.who, (a.mode, a.policy)) (b.who, (b.mode, b.policy)))

abbrev pub decide_given :
    (past : Past) (who : Who) (t cookie : ℕ) (lock : Option LockOf)
    → Decided (HoldsGiven past who t cookie lock)
decide_given past who t cookie None = never
decide_given past who t cookie (Some lock) = unless _ (is_false _)

abbrev pub decide_hold : (past : Past) (node : Node) (t cookie : ℕ) → Decided (HoldBy past node t cookie)
decide_hold past (Client c) t cookie = decide_given past (who_is c past) t cookie (given t (who_is c past) cookie past)
decide_hold past (Target u) t cookie = nothing

abbrev pub decide_as : (asked lock : LockOf) (locks others : List Ask) → Decided (GrantedAs asked lock locks others)
decide_as asked lock locks others =
    like (λ t. record { resource = t.0; grown = t.1 }) (λ r. (r.resource, r.grown))
    (both (resources lock.resource asked.resource) (same_asks lock.ask (granted_ask asked.ask locks others)))

abbrev pub decide_asked :
    (asked : Option LockOf) (lock : LockOf) (locks others : List Ask)
    → Decided (IsAsked asked lock locks others)
decide_asked None lock locks others = never
decide_asked (Some asked) lock locks others = decide_as asked lock locks others

abbrev pub decide_grant_at :
    (asked : Option LockOf) (lock : LockOf) (locks waits : List LockOf)
    → Decided (GrantAt asked lock locks waits)
decide_grant_at asked lock locks waits =
    like (λ t. record { free = t.0; first = t.1; as_asked = t.2 }) (λ r. (r.free, r.first, r.as_asked))
    (three (is_false _) (is_false _) (decide_asked asked lock (asks locks) (asks (without_first lock.cookie.0 waits))))

abbrev pub decide_grant :
    (osts : ℕ) (past : Past) (at : At) (node : Node) (lock : LockOf)
    → Decided (GrantBy osts past at node lock)
decide_grant osts past at (Target t) lock =
    decide_grant_at
    (asked_for osts t past at lock) lock (on lock.resource (granted t past)) (on lock.resource (waiting t past))
decide_grant osts past at (Client c) lock = nothing

abbrev pub decide_txn :
    (osts : ℕ) (past : Past) (node : Node) (number : TxnOf) (who : Who) (x : ℕ)
    → Decided (TxnBy osts past node number who x)
decide_txn osts past (Target zero) number who x = is_false _
decide_txn osts past (Target (suc t)) number who x = nothing
decide_txn osts past (Client c) number who x = nothing

abbrev pub decide_at : (osts : ℕ) (past : Past) (at : At) (said : Entry) → Decided (LocksAt osts past at said)
decide_at osts past at (Hold target cookie) = decide_hold past at.node target.0 cookie.0
decide_at osts past at (Grant lock) = decide_grant osts past at at.node lock
decide_at osts past at (Txn number who xid seen answer) = decide_txn osts past at.node number who xid.0
decide_at osts past at _ = nothing

abbrev pub decide_locks : (osts : ℕ) (past : Past) (l : Line) (later : List Line) → Decided (Locks osts past l later)
decide_locks osts past l later = decide_at osts past l.at l.entry
