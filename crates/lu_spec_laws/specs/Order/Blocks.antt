-- A callback is of a granted lock that wasn't called back since the target's last boot, and something waits for it: at
-- the metadata target a request that would write what it guards, at another a lock that conflicts with it (Wang et al.,
-- Understanding Lustre Filesystem Internals, the lock manager: blocking callbacks).
use Rattle.std.specs.Prelude.{◌≡◌, ℕ, zero, suc, Bool, true, false, ◌==◌, ◌&&◌, if◌then◌else◌, Option, Some, None, unwrap_or, List, find}
use Rattle.std.specs.List.{list_any}
use Rattle.lu_base.specs.declared.ids.Node.{Node}
use Rattle.lu_base.specs.declared.ids.Node.TheVariants.{Client, Target}
use Rattle.lu_base.specs.declared.locks.Lock.{Lock as LockOf}
use Rattle.lu_lock.specs.Conflict.{conflicts_with_any}
use Rattle.lu_lock.specs.Overlap.{policies_meet}
use Rattle.lu_spec_machine.specs.Footprint.{writes}
use Rattle.lu_spec_machine.specs.Tree.{Tree}
use Rattle.lu_msg.specs.declared.messages.Request.{Request as RequestOf}
use Rattle.lu_part.specs.declared.parts.Part.{Part}
use Rattle.lu_part.specs.Guards.{guard}
use Rattle.lu_trace.specs.declared.entries.Entry.{Entry}
use Rattle.lu_trace.specs.declared.entries.Entry.TheVariants.{Boot, Block}
use Rattle.lu_trace.specs.declared.entries.Line.{Line}
use Rattle.lu_spec_laws.specs.Words.Pasts.{Past, is_target, newest}
use Rattle.lu_spec_laws.specs.Words.Boots.{greatest}
use Rattle.lu_spec_laws.specs.Words.Standing.{contents}
use Rattle.lu_spec_laws.specs.Words.Queues.{has_cookie, is_on, on, asks, granted, waiting}
use Rattle.lu_spec_laws.specs.Order.Requests.{unanswered}

abbrev pub calls_back : ℕ → ℕ → Past → Line → Option Bool
calls_back t cookie past l =
    elim l.entry [
      | Block other ↦ if is_target t l.at.node && other.0 == cookie then Some true else None
      | Boot b ↦ if is_target t l.at.node then Some false else None
      | _ ↦ None
    ]

-- the lock was called back since the last boot
abbrev pub is_called : ℕ → ℕ → Past → Bool
is_called t cookie past = unwrap_or (newest (calls_back t cookie) past) false

-- ---- what waits for a lock

abbrev pub guards : LockOf → Part → Bool
guards l p = is_on (guard p).0 l && policies_meet l.ask.policy (guard p).1

-- what the request would write under a number
abbrev pub writes_guarded : ℕ → Tree → ℕ → LockOf → RequestOf → Bool
writes_guarded osts tree number l r =
    list_any (guards l) (writes osts tree (record { number = record { 0 = number }; who = r.who; op = r.op }))

abbrev pub is_waited_for : ℕ → Past → ℕ → LockOf → Bool
is_waited_for osts past zero l =
    list_any (writes_guarded osts (contents osts past) (suc (greatest 0 past)) l) (unanswered 0 past)
is_waited_for osts past (suc t) l = conflicts_with_any l.ask (asks (on l.resource (waiting (suc t) past)))

abbrev pub has_cause : ℕ → Past → ℕ → Option LockOf → Bool
has_cause osts past t None = false
has_cause osts past t (Some l) = is_waited_for osts past t l

-- ---- the condition

pub record BlockAt (osts : ℕ) (past : Past) (t : ℕ) (cookie : ℕ) : Type 0 where
  pub new : is_called t cookie past ≡ false
  pub cause : has_cause osts past t (find (has_cookie cookie) (granted t past)) ≡ true

abbrev pub BlockBy : ℕ → Past → Node → ℕ → Type 0
BlockBy osts past (Target t) cookie = BlockAt osts past t cookie
BlockBy osts past (Client c) cookie = ⊥

abbrev pub BlocksAt : ℕ → Past → Node → Entry → Type 0
BlocksAt osts past node (Block cookie) = BlockBy osts past node cookie.0
BlocksAt osts past node _ = Unit {0}

abbrev pub Blocks : ℕ → Past → Line → List Line → Type 0
Blocks osts past l later = BlocksAt osts past l.at.node l.entry
