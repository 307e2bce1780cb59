-- What befalls no lock.
use Rattle.std.proofs.Common.{[], ◌∷◌, refl}
use Rattle.std.specs.Prelude.{codes}
use Rattle.lu_base.specs.declared.ids.Node.TheVariants.{Client, Target}
use Rattle.lu_base.specs.declared.locks.Mode.TheVariants.{PW, PR}
use Rattle.lu_base.specs.declared.locks.Policy.TheVariants.{Bits, Range}
use Rattle.lu_msg.specs.declared.answers.Answer.TheVariants as told
use Rattle.lu_msg.specs.declared.messages.Message.TheVariants as message
use Rattle.lu_msg.specs.declared.operations.Op.TheVariants as op
use Rattle.lu_trace.specs.declared.entries.Entry.TheVariants as entry
use Rattle.lu_spec_laws.specs.Words.Pasts.{Past}
use Rattle.lu_spec_laws.proofs.Words.{turn, client, target, life, txn_of, cookie, extent, onward, object, lock}
use Rattle.lu_spec_laws.proofs.Words.{asks, replies}
use Rattle.lu_spec_laws.proofs.Words.{sends, acts}
use Rattle.lu_spec_laws.proofs.Wrong.Order.{Waits, Releases, Blocks, Breaks}

-- a lock on an object is granted
abbrev pub granted : Past
granted =
    target 2 1 (sends 2 (Client 0) (replies (life 0 1) 1 1 (txn_of 0 0) (txn_of 0 0) [] (turn 2 (Target 1)) []
    (told.Granted (cookie 1 1) (onward 0) 0))) ∷
    target 2 1 (entry.Grant (lock (cookie 1 1) (life 0 1) (object 1 1 0) PW (Range (onward 0)))) ∷
    target 2 1 (entry.Take 1) ∷
    client 1 0 (sends 1 (Target 1) (asks (life 0 1) 1 1 0 (op.Enqueue (object 1 1 0) PW (extent 0 9)))) ∷
    []

-- another lock waits for it
abbrev pub awaited : Past
awaited =
    target 4 1 (sends 4 (Client 1) (replies (life 1 1) 1 1 (txn_of 0 0) (txn_of 0 0) [] (turn 4 (Target 1)) []
    (told.Waiting (cookie 1 2)))) ∷
    target 4 1 (entry.Wait (lock (cookie 1 2) (life 1 1) (object 1 1 0) PR (Range (extent 0 9)))) ∷
    target 4 1 (entry.Take 3) ∷
    client 3 1 (sends 3 (Target 1) (asks (life 1 1) 1 1 0 (op.Enqueue (object 1 1 0) PR (extent 0 9)))) ∷
    granted

-- ---- locks that wait

-- a lock that waits for nothing
abbrev pub waits_free_past : Past
waits_free_past =
    target 2 1 (entry.Wait (lock (cookie 1 1) (life 0 1) (object 1 1 0) PW (Range (extent 0 9)))) ∷
    target 2 1 (entry.Take 1) ∷
    client 1 0 (sends 1 (Target 1) (asks (life 0 1) 1 1 0 (op.Enqueue (object 1 1 0) PW (extent 0 9)))) ∷
    []

pub waits_free : Breaks Waits waits_free_past
waits_free = refl

-- a lock that nobody asked for
abbrev pub waits_unasked_past : Past
waits_unasked_past =
    target 3 1 (entry.Wait (lock (cookie 1 2) (life 1 1) (object 1 1 0) PR (Range (extent 0 9)))) ∷
    target 3 1 entry.Tick ∷
    granted

pub waits_unasked : Breaks Waits waits_unasked_past
waits_unasked = refl

-- a lock that waits wider than it was asked for
abbrev pub waits_wider_past : Past
waits_wider_past =
    target 4 1 (entry.Wait (lock (cookie 1 2) (life 1 1) (object 1 1 0) PR (Range (onward 0)))) ∷
    target 4 1 (entry.Take 3) ∷
    client 3 1 (sends 3 (Target 1) (asks (life 1 1) 1 1 0 (op.Enqueue (object 1 1 0) PR (extent 0 9)))) ∷
    granted

pub waits_wider : Breaks Waits waits_wider_past
waits_wider = refl

-- ---- locks that are released

-- a lock that its holder didn't give back
abbrev pub releases_kept_past : Past
releases_kept_past =
    target 3 1 (entry.Release (cookie 1 1)) ∷
    target 3 1 entry.Tick ∷
    granted

pub releases_kept : Breaks Releases releases_kept_past
releases_kept = refl

-- a lock that another life gives back
abbrev pub releases_foreign_past : Past
releases_foreign_past =
    target 4 1 (entry.Release (cookie 1 1)) ∷
    target 4 1 (entry.Take 3) ∷
    client 3 1 (sends 3 (Target 1) (message.Cancel (life 1 1) 1 (cookie 1 1))) ∷
    granted

pub releases_foreign : Breaks Releases releases_foreign_past
releases_foreign = refl

-- a lock that isn't granted
abbrev pub releases_none_past : Past
releases_none_past =
    target 4 1 (entry.Release (cookie 1 2)) ∷
    target 4 1 (entry.Take 3) ∷
    client 3 0 (sends 3 (Target 1) (message.Cancel (life 0 1) 1 (cookie 1 2))) ∷
    granted

pub releases_none : Breaks Releases releases_none_past
releases_none = refl

-- ---- callbacks

-- a callback though nothing waits
abbrev pub blocks_idle_past : Past
blocks_idle_past =
    target 3 1 (entry.Block (cookie 1 1)) ∷
    target 3 1 entry.Tick ∷
    granted

pub blocks_idle : Breaks Blocks blocks_idle_past
blocks_idle = refl

-- a second callback
abbrev pub blocks_again_past : Past
blocks_again_past =
    target 5 1 (entry.Block (cookie 1 1)) ∷
    target 5 1 entry.Tick ∷
    target 4 1 (sends 5 (Client 0) (message.Block (life 0 1) 1 (cookie 1 1))) ∷
    target 4 1 (entry.Block (cookie 1 1)) ∷
    awaited

pub blocks_again : Breaks Blocks blocks_again_past
blocks_again = refl

-- a callback of a lock that isn't granted
abbrev pub blocks_none_past : Past
blocks_none_past =
    target 4 1 (entry.Block (cookie 1 2)) ∷
    awaited

pub blocks_none : Breaks Blocks blocks_none_past
blocks_none = refl

-- at the metadata target, a callback of a lock that guards nothing of what waits
abbrev pub blocks_unguarded_past : Past
blocks_unguarded_past =
    target 4 0 (entry.Block (cookie 1 1)) ∷
    target 4 0 (entry.Take 3) ∷
    client 3 1 (sends 3 (Target 0) (asks (life 1 1) 1 1 0 (op.Lookup (codes "a" ∷ [])))) ∷
    target 2 0 (sends 2 (Client 0) (replies (life 0 1) 1 1 (txn_of 0 0) (txn_of 0 0) [] (turn 2 (Target 0)) (lock
    (cookie 1 1) (life 0 1) (object 0 1 0) PR (Bits 2) ∷ []) (told.Names []))) ∷
    target 2 0 (entry.Grant (lock (cookie 1 1) (life 0 1) (object 0 1 0) PR (Bits 2))) ∷
    target 2 0 (acts (life 0 1) 1 (told.Names [])) ∷
    target 2 0 (entry.Take 1) ∷
    client 1 0 (sends 1 (Target 0) (asks (life 0 1) 1 1 0 (op.List []))) ∷
    []

pub blocks_unguarded : Breaks Blocks blocks_unguarded_past
blocks_unguarded = refl
