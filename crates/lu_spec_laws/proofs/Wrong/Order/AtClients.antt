-- What no client does, and no reply that comes again.
use Rattle.std.proofs.Common.{[], ◌∷◌, refl}
use Rattle.std.specs.Prelude.{codes}
use Rattle.lu_base.specs.declared.ids.Node.TheVariants.{Client, Target}
use Rattle.lu_base.specs.declared.locks.Mode.TheVariants.{PR}
use Rattle.lu_base.specs.declared.locks.Policy.TheVariants.{Bits}
use Rattle.lu_msg.specs.declared.answers.Answer.TheVariants as told
use Rattle.lu_msg.specs.declared.answers.Errno.TheVariants.{EEXIST}
use Rattle.lu_msg.specs.declared.calls.Call.TheVariants as call
use Rattle.lu_msg.specs.declared.messages.Message.TheVariants as message
use Rattle.lu_msg.specs.declared.operations.Op.TheVariants as op
use Rattle.lu_trace.specs.declared.entries.Entry.TheVariants as entry
use Rattle.lu_spec_laws.specs.Words.Pasts.{Past}
use Rattle.lu_spec_laws.proofs.Words.{turn, client, target, life, fid, txn_of, cookie, extent, object, lock}
use Rattle.lu_spec_laws.proofs.Words.{asks, replies, grants}
use Rattle.lu_spec_laws.proofs.Words.{sends, heard, hold, executes}
use Rattle.lu_spec_laws.proofs.Wrong.Order.{Lives, Held, Heard, Repeated, Breaks}

-- a directory is asked for
abbrev pub asked : Past
asked =
    client 1 0 (sends 1 (Target 0) (asks (life 0 1) 1 1 0 (op.Mkdir (codes "a" ∷ [])))) ∷
    client 1 0 (entry.Begin 0 (call.Mkdir (codes "a" ∷ []))) ∷
    []

-- a name is looked up
abbrev pub looked : Past
looked =
    client 1 0 (sends 1 (Target 0) (asks (life 0 1) 1 1 0 (op.Lookup (codes "a" ∷ [])))) ∷
    client 1 0 (entry.Begin 0 (call.Lookup (codes "a" ∷ []))) ∷
    []

-- it is made
abbrev pub made : Past
made =
    target 2 0 (sends 2 (Client 0) (replies (life 0 1) 1 1 (txn_of 1 1) (txn_of 0 0) [] (turn 2 (Target 0)) []
    (told.Made (fid 1 1)))) ∷
    target 2 0 (executes (txn_of 1 1) (life 0 1) 1 [] (told.Made (fid 1 1))) ∷
    target 2 0 (entry.Take 1) ∷
    asked

-- and its maker told
abbrev pub known : Past
known =
    client 3 0 (entry.Told 0 (turn 2 (Target 0)) (told.Made (fid 1 1))) ∷
    client 3 0 (heard 0 1) ∷
    client 3 0 (entry.Take 2) ∷
    made

-- a client takes the notice that it was evicted
abbrev pub noticed : Past
noticed =
    client 2 0 (entry.Take 1) ∷
    target 1 0 (sends 1 (Client 0) (message.Evicted (life 0 1) 1)) ∷
    []

-- ---- new lives

-- a life that isn't the next
abbrev pub lives_skips_past : Past
lives_skips_past =
    client 2 0 (entry.Life (life 0 3)) ∷
    noticed

pub lives_skips : Breaks Lives lives_skips_past
lives_skips = refl

-- a new life of a client that wasn't told of an eviction
abbrev pub lives_unnoticed_past : Past
lives_unnoticed_past =
    client 1 0 (entry.Life (life 0 2)) ∷
    client 1 0 entry.Tick ∷
    []

pub lives_unnoticed : Breaks Lives lives_unnoticed_past
lives_unnoticed = refl

-- a new life while a call is open
abbrev pub lives_busy_past : Past
lives_busy_past =
    client 3 0 (entry.Life (life 0 2)) ∷
    client 3 0 (entry.Take 1) ∷
    target 2 0 (sends 1 (Client 0) (message.Evicted (life 0 1) 1)) ∷
    client 1 0 (entry.Begin 0 (call.Lookup (codes "a" ∷ []))) ∷
    []

pub lives_busy : Breaks Lives lives_busy_past
lives_busy = refl

-- a new life of another client
abbrev pub lives_other_past : Past
lives_other_past =
    client 2 0 (entry.Life (life 1 2)) ∷
    noticed

pub lives_other : Breaks Lives lives_other_past
lives_other = refl

-- ---- what comes to be held

-- a lock that came with nothing
abbrev pub held_untaken_past : Past
held_untaken_past =
    client 1 0 (hold 0 (cookie 1 1)) ∷
    client 1 0 entry.Tick ∷
    []

pub held_untaken : Breaks Held held_untaken_past
held_untaken = refl

-- a lock that isn't the one that came
abbrev pub held_other_past : Past
held_other_past =
    client 2 0 (hold 1 (cookie 1 2)) ∷
    client 2 0 (entry.Take 1) ∷
    target 1 1 (sends 1 (Client 0) (grants (life 0 1) 1 (cookie 1 1) (extent 0 9) 0 (txn_of 0 0) [])) ∷
    []

pub held_other : Breaks Held held_other_past
held_other = refl

-- a lock of another target than the one that sent it
abbrev pub held_elsewhere_past : Past
held_elsewhere_past =
    client 2 0 (hold 2 (cookie 1 1)) ∷
    client 2 0 (entry.Take 1) ∷
    target 1 1 (sends 1 (Client 0) (grants (life 0 1) 1 (cookie 1 1) (extent 0 9) 0 (txn_of 0 0) [])) ∷
    []

pub held_elsewhere : Breaks Held held_elsewhere_past
held_elsewhere = refl

-- a lock that isn't among those of the reply
abbrev pub held_reply_past : Past
held_reply_past =
    client 3 0 (hold 0 (cookie 1 2)) ∷
    client 3 0 (heard 0 1) ∷
    client 3 0 (entry.Take 2) ∷
    target 2 0 (sends 2 (Client 0) (replies (life 0 1) 1 1 (txn_of 0 0) (txn_of 0 0) [] (turn 2 (Target 0)) (lock
    (cookie 1 1) (life 0 1) (object 0 1 0) PR (Bits 1) ∷ []) (told.Dir (fid 1 1)))) ∷
    looked

pub held_reply : Breaks Held held_reply_past
held_reply = refl

-- ---- what is heard

-- a reply that was sent and not taken
abbrev pub heard_untaken_past : Past
heard_untaken_past =
    client 3 0 (heard 0 1) ∷
    client 3 0 entry.Tick ∷
    made

pub heard_untaken : Breaks Heard heard_untaken_past
heard_untaken = refl

-- a reply that was heard before
abbrev pub heard_again_past : Past
heard_again_past =
    client 4 0 (heard 0 1) ∷
    client 4 0 (entry.Take 2) ∷
    known

pub heard_again : Breaks Heard heard_again_past
heard_again = refl

-- a reply to another client
abbrev pub heard_foreign_past : Past
heard_foreign_past =
    client 4 1 (heard 0 1) ∷
    client 4 1 (entry.Take 3) ∷
    target 3 0 (sends 3 (Client 1) (replies (life 0 1) 1 1 (txn_of 1 1) (txn_of 0 0) [] (turn 3 (Target 0)) []
    (told.Made (fid 1 1)))) ∷
    target 3 0 (executes (txn_of 1 1) (life 0 1) 1 [] (told.Made (fid 1 1))) ∷
    target 3 0 (entry.Take 1) ∷
    client 2 1 (sends 2 (Target 0) (asks (life 1 1) 1 1 0 (op.Mkdir (codes "b" ∷ [])))) ∷
    asked

pub heard_foreign : Breaks Heard heard_foreign_past
heard_foreign = refl

-- ---- replies that are sent again

-- a reply that is sent again with another answer
abbrev pub repeated_other_past : Past
repeated_other_past =
    target 3 0 (sends 3 (Client 0) (replies (life 0 1) 1 1 (txn_of 1 1) (txn_of 0 0) [] (turn 2 (Target 0)) []
    (told.Refused EEXIST))) ∷
    target 3 0 (entry.Take 1) ∷
    made

pub repeated_other : Breaks Repeated repeated_other_past
repeated_other = refl

-- a reply that is sent again though nobody asked again
abbrev pub repeated_unasked_past : Past
repeated_unasked_past =
    target 3 0 (sends 3 (Client 0) (replies (life 0 1) 1 1 (txn_of 1 1) (txn_of 0 0) [] (turn 2 (Target 0)) []
    (told.Made (fid 1 1)))) ∷
    target 3 0 entry.Tick ∷
    made

pub repeated_unasked : Breaks Repeated repeated_unasked_past
repeated_unasked = refl

-- a reply that names an earlier turn and was never sent
abbrev pub repeated_first_past : Past
repeated_first_past =
    target 3 0 (sends 2 (Client 0) (replies (life 0 1) 1 1 (txn_of 1 1) (txn_of 0 0) [] (turn 2 (Target 0)) []
    (told.Made (fid 1 1)))) ∷
    target 3 0 (entry.Take 1) ∷
    target 2 0 (executes (txn_of 1 1) (life 0 1) 1 [] (told.Made (fid 1 1))) ∷
    target 2 0 (entry.Take 1) ∷
    asked

pub repeated_first : Breaks Repeated repeated_first_past
repeated_first = refl
