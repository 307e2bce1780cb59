-- What a client changed of objects lies under locks to write that it holds, and so does what is under way of a write-back, while the answer
-- to it is
-- out: line by line, until its life ends. The lists are those of the rows' state; that a step keeps it is shown there.
use Rattle.std.proofs.Common.{ℕ, ◌≤◌, List, refl, ap, ◌∙◌}
use Rattle.lu_base.specs.declared.ids.Cookie.{Cookie}
use Rattle.lu_base.specs.declared.locks.Extent.{Extent}
use Rattle.lu_base.specs.declared.locks.Lock.{Lock}
use Rattle.lu_base.specs.declared.locks.Resource.{Resource}
use Rattle.lu_msg.specs.declared.operations.Op.{Op}
use Rattle.lu_msg.specs.declared.operations.Op.TheVariants as op
use Rattle.lu_held.specs.declared.locks.HeldLock.{HeldLock}
use Rattle.lu_spec_entries.specs.Words.{Line}
use Rattle.lu_spec_client.specs.Caches.{patch_at, patches_at, held_at}
use Rattle.lu_spec_client.specs.Imports.{Import}
use Rattle.lu_spec_client.specs.Patches.{Patch, in_flight}
use Rattle.lu_spec_client.specs.States.{Limits, client_at}
use Rattle.lu_proof_lawful.specs.Covered.Heads.{Head}
use Rattle.lu_proof_objects.specs.Sound.{Writer, Asked, IsUnder, IsBacked, IsAsked, IsSoundOf, one_if, backs_to}
use Rattle.lu_proof_lawful.proofs.Preconditions.ClientLines.{held_once}
use Rattle.lu_proof_lawful.proofs.Preconditions.Grown.{Grown}
use Rattle.lu_proof_lawful.proofs.Preconditions.PinsFit.{PinsFit}
use Rattle.lu_proof_lawful.proofs.Laws.HeldLists.{Has}
use Rattle.lu_proof_lawful.proofs.Laws.SoundLocks.{to_client, of_client, once_client, held_ranges, held_apart}

-- what a client knows of its requests at each target
abbrev pub limits_from : Head → Limits
limits_from head = record { osts = head.osts; flight = head.flight; dirty = 0; unused = 0 }

abbrev pub imports_of : Head → ℕ → List Line → List Import
imports_of head c past = (client_at (limits_from head) c past).imports

-- over held locks, changes and what is asked
pub record Backed (locks : List HeldLock) (patches : List (Resource × Patch)) (imports : List Import) : Type 0 where
  pub objects : (r : Resource) → IsUnder locks r (patch_at r patches)
  pub asked : (t : ℕ) (o : Op) → Asked imports t o → IsAsked locks patches t o
  pub single : (r : Resource) → backs_to r imports ≤ one_if (in_flight (patch_at r patches))

-- other locks that have each of them
pub other_locks : (locks others : List HeldLock) (patches : List (Resource × Patch)) (imports : List Import)
    → ((t : ℕ) (k : Lock) → Has t k locks → Has t k others) → Backed locks patches imports → Backed others patches imports
other_locks locks others patches imports stays b =
    record {
      objects = λ r. let u = b.objects r in record {
        rises = u.rises;
        dirty = λ p e. writer (u.dirty p e);
        cut =
            λ n e. writer (u.cut n e);
      };
      asked = λ t o a. asks t o (b.asked t o a);
      single = b.single;
    }
  where
    writer : {r : Resource} {P : Extent → Type 0} → Writer locks r P → Writer others r P
    writer w =
        let h = stays w.lock.target.0 w.lock.lock (w.lock, of_client w.lock locks w.held, refl, refl) in
        record {
          lock = h.0;
          held = to_client h.0 others h.1;
          object = ap (λ (l : Lock). l.resource) h.3 ∙ w.object;
          mode = ap (λ (l : Lock). l.ask.mode) h.3 ∙ w.mode;
          extent = w.extent;
          range = ap (λ (l : Lock). l.ask.policy) h.3 ∙ w.range;
          over = w.over;
        }

    backed : (t : ℕ) (c : Cookie) (r : Resource) → IsBacked locks (patch_at r patches) t c r → IsBacked others (patch_at r patches) t c r
    backed t c r k =
        let w = k.under in
        let h = stays w.lock.target.0 w.lock.lock (w.lock, of_client w.lock locks w.held, refl, refl) in
        record { under = writer w; target = h.2 ∙ k.target; cookie = ap (λ (l : Lock). l.cookie) h.3 ∙ k.cookie }

    asks : (t : ℕ) (o : Op) → IsAsked locks patches t o → IsAsked others patches t o
    asks t (op.Put r c at bytes) k = backed t c r k
    asks t (op.Cut r c size) k = backed t c r k
    asks t o k = k

-- with what always holds of the locks
pub whole_sound : (head : Head) (past : List Line) → Grown head past → PinsFit past → (c : ℕ) (imports : List Import)
    → Backed (held_at c past) (patches_at c past) imports → IsSoundOf (held_at c past) (patches_at c past) imports
whole_sound head past g fit c imports b =
    record {
      once = once_client (held_at c past) (held_once head c past g);
      ranges = λ h x i e. held_ranges head past g c h x (of_client h (held_at c past) i) e;
      apart = held_apart head past g c fit;
      objects = b.objects;
      asked = b.asked;
      single = b.single;
    }

pub backed_of : (locks : List HeldLock) (patches : List (Resource × Patch)) (imports : List Import) → IsSoundOf locks patches imports
    → Backed locks patches imports
backed_of locks patches imports s = record { objects = s.objects; asked = s.asked; single = s.single }
