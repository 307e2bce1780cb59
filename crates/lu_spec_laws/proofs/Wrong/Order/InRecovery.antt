-- What no recovery ends with.
use Rattle.std.proofs.Common.{[], ◌∷◌, refl}
use Rattle.std.specs.Prelude.{codes}
use Rattle.lu_base.specs.declared.ids.Node.TheVariants.{Client, Target}
use Rattle.lu_base.specs.declared.locks.Cause.TheVariants.{Expired}
use Rattle.lu_base.specs.declared.locks.Mode.TheVariants.{PW, PR}
use Rattle.lu_base.specs.declared.locks.Policy.TheVariants.{Range}
use Rattle.lu_msg.specs.declared.answers.Answer.TheVariants as told
use Rattle.lu_msg.specs.declared.calls.Call.TheVariants as call
use Rattle.lu_msg.specs.declared.messages.Message.TheVariants as message
use Rattle.lu_msg.specs.declared.operations.Op.TheVariants as op
use Rattle.lu_trace.specs.declared.entries.Entry.TheVariants as entry
use Rattle.lu_spec_laws.specs.Words.Pasts.{Past}
use Rattle.lu_spec_laws.proofs.Words.{turn, client, target, life, fid, txn_of, cookie, extent, onward, object, lock}
use Rattle.lu_spec_laws.proofs.Words.{asks, replays, hands_in, replies}
use Rattle.lu_spec_laws.proofs.Words.{sends, heard, hold, executes}
use Rattle.lu_spec_laws.proofs.Wrong.Order.{Closes, Kept, Restored, Joined, Breaks}

-- a directory is asked for
abbrev pub asked : Past
asked =
    client 1 0 (sends 1 (Target 0) (asks (life 0 1) 1 1 0 (op.Mkdir (codes "a" ∷ [])))) ∷
    client 1 0 (entry.Begin 0 (call.Mkdir (codes "a" ∷ []))) ∷
    []

-- it is made
abbrev pub made : Past
made =
    target 2 0 (sends 2 (Client 0) (replies (life 0 1) 1 1 (txn_of 1 1) (txn_of 0 0) [] (turn 2 (Target 0)) []
    (told.Made (fid 1 1)))) ∷
    target 2 0 (executes (txn_of 1 1) (life 0 1) 1 [] (told.Made (fid 1 1))) ∷
    target 2 0 (entry.Take 1) ∷
    asked

-- and its maker told
abbrev pub known : Past
known =
    client 3 0 (entry.Told 0 (turn 2 (Target 0)) (told.Made (fid 1 1))) ∷
    client 3 0 (heard 0 1) ∷
    client 3 0 (entry.Take 2) ∷
    made

-- the target went down, has all back, and closes its window
abbrev pub back : Past
back =
    target 8 0 entry.Close ∷
    target 8 0 (entry.Back (life 0 1)) ∷
    target 8 0 (entry.Take 5) ∷
    target 7 0 (entry.Take 4) ∷
    client 6 0 (sends 5 (Target 0) (message.Word (life 0 1) 2 1 0 [])) ∷
    client 6 0 (sends 4 (Target 0) (replays (life 0 1) 2 (txn_of 1 1) 1 0 [] (op.Mkdir (codes "a" ∷ [])))) ∷
    client 6 0 (entry.Take 3) ∷
    target 5 0 (sends 3 (Client 0) (message.Up 2)) ∷
    target 5 0 (entry.Boot 2) ∷
    target 4 0 entry.Crash ∷
    known

-- a lock is granted, and handed in again after a boot
abbrev pub handed : Past
handed =
    target 7 1 (entry.Take 3) ∷
    client 6 0 (sends 3 (Target 1) (hands_in (life 0 1) 2 (cookie 1 1) (object 1 1 0) PR (Range (onward 0)))) ∷
    target 5 1 (entry.Boot 2) ∷
    target 4 1 entry.Crash ∷
    client 3 0 (hold 1 (cookie 1 1)) ∷
    client 3 0 (heard 1 1) ∷
    client 3 0 (entry.Take 2) ∷
    target 2 1 (sends 2 (Client 0) (replies (life 0 1) 1 1 (txn_of 0 0) (txn_of 0 0) [] (turn 2 (Target 1)) []
    (told.Granted (cookie 1 1) (onward 0) 0))) ∷
    target 2 1 (entry.Grant (lock (cookie 1 1) (life 0 1) (object 1 1 0) PR (Range (onward 0)))) ∷
    target 2 1 (entry.Take 1) ∷
    client 1 0 (sends 1 (Target 1) (asks (life 0 1) 1 1 0 (op.Enqueue (object 1 1 0) PR (extent 0 9)))) ∷
    []

-- a life is evicted, and the next one asks to join
abbrev pub removed : Past
removed =
    client 2 0 (sends 1 (Target 0) (message.Join (life 0 2) 1)) ∷
    target 1 0 (entry.Evict (life 0 1) Expired) ∷
    target 1 0 (entry.Commit (txn_of 0 0)) ∷
    target 1 0 entry.Tick ∷
    []

-- ---- the commit of a close

-- a commit of less than was kept
abbrev pub closes_less_past : Past
closes_less_past =
    target 8 0 (entry.Kept (txn_of 1 1)) ∷
    target 8 0 (entry.Commit (txn_of 0 0)) ∷
    back

pub closes_less : Breaks Closes closes_less_past
closes_less = refl

-- a commit of more than was kept
abbrev pub closes_more_past : Past
closes_more_past =
    target 3 0 (entry.Commit (txn_of 1 1)) ∷
    target 3 0 entry.Close ∷
    target 2 0 (entry.Boot 2) ∷
    target 1 0 entry.Crash ∷
    []

pub closes_more : Breaks Closes closes_more_past
closes_more = refl

-- a close without a commit, and no failing disk
abbrev pub closes_none_past : Past
closes_none_past =
    target 3 0 entry.Close ∷
    target 2 0 (entry.Boot 2) ∷
    target 1 0 entry.Crash ∷
    []

pub closes_none : Breaks Closes closes_none_past
closes_none = refl

-- ---- what a close keeps

-- a `kept` without a close
abbrev pub kept_serving_past : Past
kept_serving_past =
    target 4 0 (entry.Kept (txn_of 1 1)) ∷
    target 4 0 entry.Tick ∷
    known

pub kept_serving : Breaks Kept kept_serving_past
kept_serving = refl

-- a transaction that nobody replayed
abbrev pub kept_untold_past : Past
kept_untold_past =
    target 6 0 (entry.Kept (txn_of 1 1)) ∷
    target 6 0 (entry.Commit (txn_of 1 1)) ∷
    target 6 0 entry.Close ∷
    target 5 0 (entry.Boot 2) ∷
    target 4 0 entry.Crash ∷
    known

pub kept_untold : Breaks Kept kept_untold_past
kept_untold = refl

-- a `kept` in a later turn than the close
abbrev pub kept_later_past : Past
kept_later_past =
    target 9 0 (entry.Kept (txn_of 1 1)) ∷
    target 9 0 entry.Tick ∷
    target 8 0 (entry.Kept (txn_of 1 1)) ∷
    target 8 0 (entry.Commit (txn_of 1 1)) ∷
    back

pub kept_later : Breaks Kept kept_later_past
kept_later = refl

-- ---- locks that stand again

-- a lock that stands again before the close
abbrev pub restored_early_past : Past
restored_early_past =
    target 7 1 (entry.Restore (lock (cookie 1 1) (life 0 1) (object 1 1 0) PR (Range (onward 0)))) ∷
    handed

pub restored_early : Breaks Restored restored_early_past
restored_early = refl

-- a lock that stands again in another mode
abbrev pub restored_stronger_past : Past
restored_stronger_past =
    target 8 1 (entry.Restore (lock (cookie 1 1) (life 0 1) (object 1 1 0) PW (Range (onward 0)))) ∷
    target 8 1 (entry.Commit (txn_of 0 0)) ∷
    target 8 1 entry.Close ∷
    handed

pub restored_stronger : Breaks Restored restored_stronger_past
restored_stronger = refl

-- a lock that nobody handed in
abbrev pub restored_untold_past : Past
restored_untold_past =
    target 8 1 (entry.Restore (lock (cookie 1 2) (life 0 1) (object 1 1 0) PR (Range (onward 0)))) ∷
    target 8 1 (entry.Commit (txn_of 0 0)) ∷
    target 8 1 entry.Close ∷
    handed

pub restored_untold : Breaks Restored restored_untold_past
restored_untold = refl

-- ---- lives that join

-- a life that didn't ask
abbrev pub joined_unasked_past : Past
joined_unasked_past =
    target 3 0 (entry.Joined (life 0 2)) ∷
    target 3 0 (entry.Commit (txn_of 0 0)) ∷
    target 3 0 entry.Tick ∷
    removed

pub joined_unasked : Breaks Joined joined_unasked_past
joined_unasked = refl

-- a life that asked in an earlier turn, without a close
abbrev pub joined_earlier_past : Past
joined_earlier_past =
    target 4 0 (entry.Joined (life 0 2)) ∷
    target 4 0 (entry.Commit (txn_of 0 0)) ∷
    target 4 0 entry.Tick ∷
    target 3 0 (entry.Take 1) ∷
    removed

pub joined_earlier : Breaks Joined joined_earlier_past
joined_earlier = refl

-- a life that joins beside the one before
abbrev pub joined_beside_past : Past
joined_beside_past =
    target 2 0 (entry.Joined (life 0 2)) ∷
    target 2 0 (entry.Commit (txn_of 0 0)) ∷
    target 2 0 (entry.Take 1) ∷
    client 1 0 (sends 1 (Target 0) (message.Join (life 0 2) 1)) ∷
    []

pub joined_beside : Breaks Joined joined_beside_past
joined_beside = refl

-- a life that joins again
abbrev pub joined_older_past : Past
joined_older_past =
    target 5 0 (entry.Joined (life 0 2)) ∷
    target 5 0 (entry.Commit (txn_of 0 0)) ∷
    target 5 0 (entry.Take 1) ∷
    target 4 0 (entry.Evict (life 0 2) Expired) ∷
    target 4 0 (entry.Commit (txn_of 0 0)) ∷
    target 4 0 entry.Tick ∷
    target 3 0 (entry.Joined (life 0 2)) ∷
    target 3 0 (entry.Commit (txn_of 0 0)) ∷
    target 3 0 (entry.Take 1) ∷
    removed

pub joined_older : Breaks Joined joined_older_past
joined_older = refl
