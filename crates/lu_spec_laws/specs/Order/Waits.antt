-- A lock waits as the request asks for it that this turn took, and it conflicts with a granted lock or with one that
-- waits (Wang et al., Understanding Lustre Filesystem Internals, the lock manager).
use Rattle.std.specs.Prelude.{◌≡◌, ℕ, Bool, true, Some, List, ◌++◌, find}
use Rattle.lu_base.specs.declared.ids.At.{At}
use Rattle.lu_base.specs.declared.ids.Node.{Node}
use Rattle.lu_base.specs.declared.ids.Node.TheVariants.{Client, Target}
use Rattle.lu_base.specs.declared.locks.Lock.{Lock as LockOf}
use Rattle.lu_lock.specs.Conflict.{conflicts_with_any}
use Rattle.lu_trace.specs.declared.entries.Entry.{Entry}
use Rattle.lu_trace.specs.declared.entries.Entry.TheVariants.{Wait}
use Rattle.lu_trace.specs.declared.entries.Line.{Line}
use Rattle.lu_spec_laws.specs.Words.Pasts.{Past}
use Rattle.lu_spec_laws.specs.Words.Sends.{taken}
use Rattle.lu_spec_laws.specs.Words.Queues.{asks, on, granted, waiting}
use Rattle.lu_spec_laws.specs.Words.Asked.{enqueued, is_for}

abbrev pub has_to_wait : ℕ → Past → LockOf → Bool
has_to_wait t past lock = conflicts_with_any lock.ask (asks (on lock.resource (granted t past ++ waiting t past)))

pub record WaitAt (past : Past) (at : At) (t : ℕ) (lock : LockOf) : Type 0 where
  pub asked : find (is_for lock) (enqueued t past lock.cookie (taken past at)) ≡ Some lock
  pub clashes : has_to_wait t past lock ≡ true

abbrev pub WaitBy : Past → At → Node → LockOf → Type 0
WaitBy past at (Target t) lock = WaitAt past at t lock
WaitBy past at (Client c) lock = ⊥

abbrev pub WaitsAt : Past → At → Entry → Type 0
WaitsAt past at (Wait lock) = WaitBy past at at.node lock
WaitsAt past at _ = Unit {0}

abbrev pub Waits : Past → Line → List Line → Type 0
Waits past l later = WaitsAt past l.at l.entry
