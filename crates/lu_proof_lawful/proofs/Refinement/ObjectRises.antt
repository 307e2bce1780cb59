-- The bytes of each object of a target, and those on its disk, stand in rising offset.
use Rattle.std.proofs.Common.{ℕ, Bool, true, false, List, [], ◌∷◌, sym, subst}
use Rattle.std.specs.Prelude.{if◌then◌else◌}
use Rattle.lu_base.specs.declared.ids.Node.{Node}
use Rattle.lu_base.specs.declared.ids.Node.TheVariants.{Client, Target}
use Rattle.lu_base.specs.declared.locks.Resource.{Resource}
use Rattle.lu_held.specs.Locks.{same_resource}
use Rattle.lu_spec_machine.specs.Footprint.{empty}
use Rattle.lu_spec_machine.specs.Objects.{Object, put_bytes, cut_bytes}
use Rattle.lu_spec_machine.specs.Places.{RisingFrom}
use Rattle.lu_spec_machine.proofs.Objects.{object_puts, object_cuts}
use Rattle.lu_msg.specs.declared.commits.Batch.{Batch}
use Rattle.lu_msg.specs.declared.commits.Transaction.{Transaction}
use Rattle.lu_msg.specs.declared.operations.Op.{Op}
use Rattle.lu_msg.specs.declared.operations.Op.TheVariants as op
use Rattle.lu_spec_entries.specs.Carried.{Contents, Disk, Outcome}
use Rattle.lu_spec_entries.specs.Words as word
use Rattle.lu_spec_entries.specs.Words.{Line, line}
use Rattle.lu_spec_target.specs.Lives.{lives_of as lives_in}
use Rattle.lu_spec_target.specs.Stored.{object_in, transaction_of, done, all_done, batch_of, news, stored}
use Rattle.lu_proof_lawful.specs.Covered.Heads.{Head}
use Rattle.lu_proof_lawful.specs.Covered.TargetCloses.{disk_of, outcome_of}
use Rattle.lu_proof_lawful.specs.Covered.TargetStates.{server_of}
use Rattle.lu_proof_lawful.proofs.Preconditions.StoryGuards.{EntryOf}
use Rattle.lu_proof_lawful.proofs.Preconditions.Grown.{GrownOf}
use Rattle.lu_proof_lawful.proofs.Refinement.Written.{after_one, done_one, forgotten_one}

abbrev pub AllRise : List (Resource × Object) → Type 0
AllRise objects = (r : Resource) → RisingFrom 0 (object_in objects r)

one_rises : (r : Resource) (o : Op) (object : Object) → RisingFrom 0 object → RisingFrom 0 (after_one r o object)
one_rises r (op.Put q cookie offset bytes) object rise = by (same_resource q r)
  where
    by : (b : Bool) → RisingFrom 0 (if b then put_bytes offset bytes object else object)
    by true = (object_puts offset bytes object).rises rise
    by false = rise
one_rises r (op.Cut q cookie size) object rise = by (same_resource q r)
  where
    by : (b : Bool) → RisingFrom 0 (if b then cut_bytes size object else object)
    by true = (object_cuts size object).rises rise
    by false = rise
one_rises r _ object rise = rise

all_done_rise : (osts : ℕ) (ts : List Transaction) (c : Contents) → AllRise c.objects → AllRise (all_done osts ts c).objects
all_done_rise osts [] c rise = rise
all_done_rise osts (t ∷ ts) c rise = all_done_rise osts ts (done osts c t)
    (λ r. subst (λ (x : Object). RisingFrom 0 x) (sym (done_one r osts t c t.op)) (one_rises r t.op (object_in c.objects r) (rise r)))

stored_rise : (osts : ℕ) (batch : Batch) (disk : Disk) → AllRise disk.contents.objects → AllRise (stored osts batch disk).contents.objects
stored_rise osts batch disk rise = subst AllRise (sym (forgotten_one batch.removed (all_done osts (news disk batch) disk.contents)))
    (all_done_rise osts (news disk batch) disk.contents rise)

pub record RisesAt (head : Head) (past : List Line) : Type 0 where
  pub now : AllRise (server_of head.osts past).objects
  pub disk : AllRise (disk_of head.osts head.clients past).contents.objects

abbrev batch_at : Outcome → Batch
batch_at o = batch_of o.kept (lives_in o.gone) o.joins

pub rises_at : (head : Head) (past : List Line) → GrownOf head past → RisesAt head past
rises_at head [] g = record { now = λ r. tt; disk = λ r. tt }
rises_at head (l ∷ past) g = by l.at.node l.entry g.0 (rises_at head past g.3)
  where
    by : (node : Node) (e : word.Entry) → EntryOf head past l.at node e → RisesAt head past
        → RisesAt head (line (record { stamp = l.at.stamp; node = node }) e ∷ past)
    by (Client c) e ok s = record { now = s.now; disk = s.disk }
    by (Target t) (word.Txn d) ok s =
        record {
          now = λ r. subst (λ (x : Object). RisingFrom 0 x) (sym
              (done_one r 0 (transaction_of d) (record { tree = empty; objects = (server_of head.osts past).objects }) d.op))
              (one_rises r d.op (object_in (server_of head.osts past).objects r) (s.now r));
          disk = s.disk;
        }
    by (Target t) (word.Commit to batch) ok s = record {
      now = s.now;
      disk =
          stored_rise head.osts batch (disk_of head.osts head.clients past) s.disk;
    }
    by (Target t) (word.Boot boot disk) ok s = record {
      now = s.now;
      disk =
          subst (λ (x : Disk). AllRise x.contents.objects) (sym ok.of_disk) s.disk;
    }
    by (Target t) (word.Close o) ok s = record {
      now = subst (λ (x : Outcome). AllRise x.disk.contents.objects) (sym ok.is)
          (stored_rise head.osts (batch_at (outcome_of head.osts head.clients l.at past)) (disk_of head.osts head.clients past) s.disk);
      disk = s.disk;
    }
    by (Target t) e ok s = record { now = s.now; disk = s.disk }
