-- What no target does or says.
use Rattle.std.proofs.Common.{[], ◌∷◌, refl}
use Rattle.std.specs.Prelude.{codes}
use Rattle.lu_base.specs.declared.ids.Node.TheVariants.{Client, Target}
use Rattle.lu_base.specs.declared.locks.Cause.TheVariants.{Expired}
use Rattle.lu_base.specs.declared.locks.Mode.TheVariants.{PR}
use Rattle.lu_base.specs.declared.locks.Policy.TheVariants.{Bits}
use Rattle.lu_msg.specs.declared.answers.Answer.TheVariants as told
use Rattle.lu_msg.specs.declared.answers.Errno.TheVariants.{ENOENT, EEXIST}
use Rattle.lu_msg.specs.declared.calls.Call.TheVariants as call
use Rattle.lu_msg.specs.declared.messages.Message.TheVariants as message
use Rattle.lu_msg.specs.declared.operations.Op.TheVariants as op
use Rattle.lu_trace.specs.declared.entries.Entry.TheVariants as entry
use Rattle.lu_spec_laws.specs.Words.Pasts.{Past}
use Rattle.lu_spec_laws.proofs.Words.{turn, client, target, life, fid, txn_of, cookie, extent, object, lock}
use Rattle.lu_spec_laws.proofs.Words.{asks, replies, grants}
use Rattle.lu_spec_laws.proofs.Words.{sends, acts, executes}
use Rattle.lu_spec_laws.proofs.Wrong.Order.{Serving, Requests, Boots, Messages, Answers, Breaks}

-- a directory is asked for
abbrev pub asked : Past
asked =
    client 1 0 (sends 1 (Target 0) (asks (life 0 1) 1 1 0 (op.Mkdir (codes "a" ∷ [])))) ∷
    client 1 0 (entry.Begin 0 (call.Mkdir (codes "a" ∷ []))) ∷
    []

-- a name is looked up
abbrev pub looked : Past
looked =
    client 1 0 (sends 1 (Target 0) (asks (life 0 1) 1 1 0 (op.Lookup (codes "a" ∷ [])))) ∷
    client 1 0 (entry.Begin 0 (call.Lookup (codes "a" ∷ []))) ∷
    []

-- ---- what a target does while it serves

-- a transaction of a target that is down
abbrev pub serving_down_past : Past
serving_down_past =
    target 3 0 (executes (txn_of 1 1) (life 0 1) 1 [] (told.Made (fid 1 1))) ∷
    target 3 0 (entry.Take 1) ∷
    target 2 0 entry.Crash ∷
    asked

pub serving_down : Breaks Serving serving_down_past
serving_down = refl

-- an act of a target that recovers
abbrev pub serving_recovering_past : Past
serving_recovering_past =
    target 4 0 (acts (life 0 1) 1 (told.Refused ENOENT)) ∷
    target 4 0 (entry.Take 1) ∷
    client 3 0 (sends 1 (Target 0) (asks (life 0 1) 2 1 0 (op.Lookup (codes "a" ∷ [])))) ∷
    target 2 0 (entry.Boot 2) ∷
    target 1 0 entry.Crash ∷
    []

pub serving_recovering : Breaks Serving serving_recovering_past
serving_recovering = refl

-- a grant at a client
abbrev pub serving_elsewhere_past : Past
serving_elsewhere_past =
    client 1 0 (entry.Grant (lock (cookie 1 1) (life 0 1) (object 0 1 0) PR (Bits 2))) ∷
    []

pub serving_elsewhere : Breaks Serving serving_elsewhere_past
serving_elsewhere = refl

-- ---- requests of what acts

-- an act whose request was never taken
abbrev pub requests_unasked_past : Past
requests_unasked_past =
    target 2 0 (acts (life 0 1) 1 (told.Refused ENOENT)) ∷
    looked

pub requests_unasked : Breaks Requests requests_unasked_past
requests_unasked = refl

-- an act of a request that was answered and didn't come again
abbrev pub requests_twice_past : Past
requests_twice_past =
    target 2 0 (acts (life 0 1) 1 (told.Refused ENOENT)) ∷
    target 2 0 (sends 2 (Client 0) (replies (life 0 1) 1 1 (txn_of 0 0) (txn_of 0 0) [] (turn 2 (Target 0)) []
    (told.Refused ENOENT))) ∷
    target 2 0 (acts (life 0 1) 1 (told.Refused ENOENT)) ∷
    target 2 0 (entry.Take 1) ∷
    looked

pub requests_twice : Breaks Requests requests_twice_past
requests_twice = refl

-- a transaction whose request was taken before the target went down
abbrev pub requests_before_past : Past
requests_before_past =
    target 6 0 (executes (txn_of 2 1) (life 0 1) 1 [] (told.Made (fid 2 1))) ∷
    target 5 0 (entry.Commit (txn_of 0 0)) ∷
    target 5 0 entry.Close ∷
    target 4 0 (entry.Boot 2) ∷
    target 3 0 entry.Crash ∷
    target 2 0 (entry.Take 1) ∷
    asked

pub requests_before : Breaks Requests requests_before_past
requests_before = refl

-- an act of a request that names an earlier boot
abbrev pub requests_stale_past : Past
requests_stale_past =
    target 5 0 (acts (life 0 1) 1 (told.Refused ENOENT)) ∷
    target 5 0 (entry.Take 1) ∷
    target 4 0 (entry.Commit (txn_of 0 0)) ∷
    target 4 0 entry.Close ∷
    target 3 0 (entry.Boot 2) ∷
    target 2 0 entry.Crash ∷
    looked

pub requests_stale : Breaks Requests requests_stale_past
requests_stale = refl

-- an act of a request that was taken while the target recovered
abbrev pub requests_early_past : Past
requests_early_past =
    target 6 0 (acts (life 0 1) 1 (told.Refused ENOENT)) ∷
    target 5 0 (entry.Commit (txn_of 0 0)) ∷
    target 5 0 entry.Close ∷
    target 4 0 (entry.Take 1) ∷
    client 3 0 (sends 1 (Target 0) (asks (life 0 1) 2 1 0 (op.Lookup (codes "a" ∷ [])))) ∷
    target 2 0 (entry.Boot 2) ∷
    target 1 0 entry.Crash ∷
    []

pub requests_early : Breaks Requests requests_early_past
requests_early = refl

-- an act for a life that was evicted meanwhile
abbrev pub requests_gone_past : Past
requests_gone_past =
    target 3 0 (acts (life 0 1) 1 (told.Refused ENOENT)) ∷
    target 3 0 (entry.Evict (life 0 1) Expired) ∷
    target 3 0 (entry.Commit (txn_of 0 0)) ∷
    target 3 0 entry.Tick ∷
    target 2 0 (entry.Take 1) ∷
    looked

pub requests_gone : Breaks Requests requests_gone_past
requests_gone = refl

-- ---- boots and crashes

-- a boot of a target that is up
abbrev pub boots_up_past : Past
boots_up_past =
    target 1 0 (entry.Boot 2) ∷
    []

pub boots_up : Breaks Boots boots_up_past
boots_up = refl

-- a boot that isn't the next
abbrev pub boots_skips_past : Past
boots_skips_past =
    target 2 0 (entry.Boot 3) ∷
    target 1 0 entry.Crash ∷
    []

pub boots_skips : Breaks Boots boots_skips_past
boots_skips = refl

-- a crash of a target that is down
abbrev pub boots_again_past : Past
boots_again_past =
    target 2 0 entry.Crash ∷
    target 1 0 entry.Crash ∷
    []

pub boots_again : Breaks Boots boots_again_past
boots_again = refl

-- ---- what a target's messages carry

-- a reply of another boot
abbrev pub messages_boot_past : Past
messages_boot_past =
    target 2 0 (sends 2 (Client 0) (replies (life 0 1) 2 1 (txn_of 0 0) (txn_of 0 0) [] (turn 2 (Target 0)) []
    (told.Refused ENOENT))) ∷
    target 2 0 (acts (life 0 1) 1 (told.Refused ENOENT)) ∷
    target 2 0 (entry.Take 1) ∷
    looked

pub messages_boot : Breaks Messages messages_boot_past
messages_boot = refl

-- a reply that says that its own transaction is committed
abbrev pub messages_committed_past : Past
messages_committed_past =
    target 2 0 (sends 2 (Client 0) (replies (life 0 1) 1 1 (txn_of 1 1) (txn_of 1 1) [] (turn 2 (Target 0)) []
    (told.Made (fid 1 1)))) ∷
    target 2 0 (executes (txn_of 1 1) (life 0 1) 1 [] (told.Made (fid 1 1))) ∷
    target 2 0 (entry.Take 1) ∷
    asked

pub messages_committed : Breaks Messages messages_committed_past
messages_committed = refl

-- a target that sends a request
abbrev pub messages_kind_past : Past
messages_kind_past =
    target 1 0 (sends 1 (Target 1) (asks (life 0 1) 1 1 0 (op.Lookup (codes "a" ∷ [])))) ∷
    []

pub messages_kind : Breaks Messages messages_kind_past
messages_kind = refl

-- a `ready` that says that something is committed
abbrev pub messages_ready_past : Past
messages_ready_past =
    target 1 0 (sends 1 (Client 0) (message.Ready (life 0 1) 1 (txn_of 1 1))) ∷
    []

pub messages_ready : Breaks Messages messages_ready_past
messages_ready = refl

-- a grant that says that something is committed
abbrev pub messages_grant_past : Past
messages_grant_past =
    target 1 1 (sends 1 (Client 0) (grants (life 0 1) 1 (cookie 1 1) (extent 0 9) 0 (txn_of 1 1) [])) ∷
    []

pub messages_grant : Breaks Messages messages_grant_past
messages_grant = refl

-- ---- answers at the metadata target

-- a name that isn't there
abbrev pub answers_there_past : Past
answers_there_past =
    target 2 0 (acts (life 0 1) 1 (told.Dir (fid 1 1))) ∷
    target 2 0 (entry.Take 1) ∷
    looked

pub answers_there : Breaks Answers answers_there_past
answers_there = refl

-- a refusal of what can be done
abbrev pub answers_refused_past : Past
answers_refused_past =
    target 2 0 (acts (life 0 1) 1 (told.Refused EEXIST)) ∷
    target 2 0 (entry.Take 1) ∷
    asked

pub answers_refused : Breaks Answers answers_refused_past
answers_refused = refl

-- a transaction that changes nothing
abbrev pub answers_idle_past : Past
answers_idle_past =
    target 2 0 (executes (txn_of 1 1) (life 0 1) 1 [] (told.Refused ENOENT)) ∷
    target 2 0 (entry.Take 1) ∷
    looked

pub answers_idle : Breaks Answers answers_idle_past
answers_idle = refl
