-- Turns in which the disk fails: the lines up to `fail`, which stands where the next one would; and what no printed line tells,
-- read off the state.
use Rattle.std.proofs.Common.{◌≡◌, [], ◌∷◌, None, refl, true, pos}
use Rattle.std.specs.Prelude.{codes}
use Rattle.lu_msg.specs.declared.messages.Message.TheVariants as message
use Rattle.lu_msg.specs.declared.operations.Op.TheVariants as op
use Rattle.lu_trace.specs.declared.entries.Entry.TheVariants as entry
use Rattle.lu_base.specs.declared.locks.Mode.TheVariants.{PR, PW}
use Rattle.lu_spec_entries.specs.Words.{Fail}
use Rattle.lu_spec_target.specs.States as state
use Rattle.lu_spec_target.specs.Rows.{Ticks, Commits, Crashes, Boots}
use Rattle.lu_spec_target.specs.Disks.{row_start}
use Rattle.lu_proof_examples.proofs.Targets.Words.{fid, txn, life, object, from, onward, request, send, comes, made, first, after_turns}
use Rattle.lu_proof_examples.proofs.Targets.Words.{fails}

-- the start of a run: the first failing target alone makes a line
pub at_the_start : row_start true ≡ Fail ∷ []
at_the_start = refl

-- ---- a commit by command, and one with a join

abbrev one_directory : state.Target
one_directory = after_turns (first 0 2 1 8) (made 2 (comes 1 0 (request (life 0 1) 1 1 0 (op.Mkdir (codes "a" ∷ [])))) [] ∷ [])

pub at_a_commit : fails one_directory 4 (Commits None) 0 ≡ entry.Fail ∷ []
at_a_commit = refl

-- a turn that doesn't ask the disk is as it would be
pub at_a_tick : fails one_directory 4 Ticks 0 ≡ entry.Tick ∷ []
at_a_tick = refl

-- ---- a tick in which a life expires: its commit comes before its eviction

abbrev called_back : state.Target
called_back =
    after_turns (first 1 2 1 1) (
    made 2 (comes 1 0 (request (life 0 1) 1 1 0 (op.Enqueue (object 1 1 0) PW (from 0 1)))) []
    ∷ made 4 (comes 3 1 (request (life 1 1) 1 1 0 (op.Enqueue (object 1 1 0) PR (onward 0)))) []
    ∷ [])

pub at_an_expiry : fails called_back 5 Ticks 0 ≡ entry.Tick ∷ entry.Fail ∷ []
at_an_expiry = refl

-- ---- a boot: what is loaded, then the commit of the new boot; and a close in the same turn, where no life has a slot

abbrev down : state.Target
down = after_turns one_directory (made 3 Crashes [] ∷ [])

pub at_a_load : fails down 4 Boots 0 ≡ entry.Fail ∷ []
at_a_load = refl

pub after_a_boot : fails down 4 Boots 2 ≡ entry.Boot 2 ∷ send 0 (message.Up 2) ∷ send 1 (message.Up 2) ∷ []
after_a_boot = refl

-- ---- the opens of a life go with it

abbrev opened : state.Target
opened =
    after_turns (first 0 2 1 8) (
    made 2 (comes 1 0 (request (life 0 1) 1 1 0 (op.Create (codes "f" ∷ []) 65536 (pos 1)))) []
    ∷ made 4 (comes 3 0 (request (life 0 1) 1 2 0 (op.Open (codes "f" ∷ [])))) []
    ∷ made 6 (comes 5 1 (request (life 1 1) 1 1 0 (op.Open (codes "f" ∷ [])))) []
    ∷ [])

abbrev replaced : state.Target
replaced = after_turns opened (made 7 (comes 6 0 (message.Join (life 0 2) 1)) [] ∷ [])

pub opens_of_the_other : replaced.contents.tree.opens ≡ record { number = txn 1 3; life = life 1 1; fid = fid 1 1 } ∷ []
opens_of_the_other = refl

pub opens_on_the_disk : replaced.disk.contents.tree.opens ≡ record { number = txn 1 3; life = life 1 1; fid = fid 1 1 } ∷ []
opens_on_the_disk = refl
