-- What a client has noted of an object under a lock to read that it holds was told it with that lock: how long the object is, but for what
-- its own
-- write-backs made of that below the lock's first position; and the greatest byte that was shown under it.
use Rattle.std.proofs.Common.{◌≡◌, ℕ, ◌≤◌, false, List, [], inl, inr, Some, subst}
use Rattle.std.specs.Prelude.{nat_lt}
use Rattle.lu_base.specs.declared.locks.Extent.{Extent}
use Rattle.lu_base.specs.declared.locks.Mode.TheVariants.{PR}
use Rattle.lu_base.specs.declared.locks.Policy.TheVariants.{Range}
use Rattle.lu_lock.specs.Growth.{the_end}
use Rattle.lu_held.specs.declared.locks.HeldLock.{HeldLock}
use Rattle.lu_spec_entries.specs.Concerns.{only}
use Rattle.lu_spec_entries.specs.Words.{Entry, Hold, Line}
use Rattle.lu_spec_client.specs.Caches.{noted, sizes_at, shown_at, held_at}
use Rattle.lu_proof_lawful.specs.Covered.Calls.{life_at}
use Rattle.lu_proof_lawful.specs.Covered.Heads.{Head, IsHead}
use Rattle.lu_proof_lawful.proofs.Preconditions.Guards.{In}
use Rattle.lu_proof_lawful.proofs.Preconditions.HeedMarks.{owed_of}
use Rattle.lu_proof_lawful.proofs.Preconditions.Heeds.{AllHeed}
use Rattle.lu_proof_lawful.proofs.Preconditions.Grown.{Grown}
use Rattle.lu_proof_lawful.proofs.Preconditions.PinsFit.{PinsFit}
use Rattle.lu_proof_lawful.specs.Projection.Lives.{is_over}
use Rattle.lu_proof_lawful.proofs.Refinement.TellsAgree.{TellsSize, TellsByte}
use Rattle.lu_proof_lawful.proofs.Laws.BytesNoted.{byte_told}
use Rattle.lu_proof_lawful.proofs.Laws.SizesNoted.{StandsAs}
use Rattle.lu_proof_lawful.proofs.Laws.SizesRuns.{sized}

pub record SizeNoted (c : ℕ) (past : List Line) (h : HeldLock) (x : Extent) : Type 0 where
  pub number : ℕ
  pub noted : noted h.lock.resource h.lock.cookie (sizes_at c past) ≡ Some number
  pub size : ℕ
  pub tells : TellsSize (only h.target.0 past) h.lock size
  pub same : (p : ℕ) → x.first ≤ p → nat_lt p number ≡ nat_lt p size

-- a lock to the end, once nothing of the answer heard last is owed
pub size_noted : (head : Head) → IsHead head → (past : List Line) → Grown head past → PinsFit past → AllHeed past → (c : ℕ)
    → is_over c (life_at c past) past ≡ false → owed_of c past ≡ [] → (h : HeldLock) → In h (held_at c past)
    → h.lock.ask.mode ≡ PR → (x : Extent) → h.lock.ask.policy ≡ Range x → x.last ≡ the_end → SizeNoted c past h x
size_noted head ranges past g fit heeds c alive none h i mode x range ends =
    by ((sized head ranges past g fit heeds c alive).0 h i mode x range ends)
  where
    by : StandsAs c past h.target.0 h.lock x → SizeNoted c past h x
    by (inl n) = record { number = n.number; noted = n.is_noted; size = n.size; tells = n.tells; same = n.same }
    by (inr o) = absurd (subst (λ (es : List Entry). In (Hold h.target.0 h.lock false (Some o.size) o.seen) es) none o.owed)

pub byte_noted : (head : Head) → IsHead head → (past : List Line) → Grown head past → PinsFit past → AllHeed past → (c : ℕ)
    → is_over c (life_at c past) past ≡ false → (h : HeldLock) → In h (held_at c past)
    → h.lock.ask.mode ≡ PR → (x : Extent) → h.lock.ask.policy ≡ Range x → (last : ℕ) → noted h.lock.resource h.lock.cookie (shown_at c past)
    ≡ Some last → TellsByte (only h.target.0 past) h.lock last
byte_noted head ranges past g fit heeds c alive h i mode x range last e = byte_told head past g fit heeds c h i mode x range last e
