-- What is written back, and under which held lock.
use Rattle.std.specs.Prelude.{List, [], Option, Some, None}
use Rattle.lu_base.specs.declared.locks.Extent.{Extent}
use Rattle.lu_held.specs.declared.locks.HeldLock.{HeldLock}
use Rattle.lu_spec_entries.specs.declared.changes.Flush.{Flush}
use Rattle.lu_spec_entries.specs.Words.{Entry}
use Rattle.lu_spec_client.specs.Patches.{Patch, next_flush}
use Rattle.lu_spec_client.specs.WriteBack.{writes_back}
use Rattle.lu_client_store.specs.declared.flushes.WriteBack.{WriteBack}

-- this change, under this held lock
abbrev pub back_under : HeldLock → Flush → WriteBack
back_under held flush = record { target = held.target; lock = held.lock; flush = flush }

-- what its client's rows make of it: none where nothing is written back
abbrev pub backs : Option WriteBack → List Entry
backs None = []
backs (Some back) = writes_back back.target back.lock back.flush

-- or else these
abbrev pub backs_or : List Entry → Option WriteBack → List Entry
backs_or es None = es
backs_or es (Some back) = backs (Some back)

-- the next write-back in a range, if any
abbrev pub next_in : Option Extent → Patch → Option Flush
next_in None p = None
next_in (Some extent) p = next_flush extent p
