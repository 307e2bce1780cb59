-- What stands at the newest line of a past of a run: why the line is allowed, that the past before it has grown so, and all facts before
-- the line
-- and after it; which pinned locks are held, and that what answers bring is shown next.
use Rattle.std.proofs.Common.{ℕ, List, ◌∷◌}
use Rattle.lu_spec_entries.specs.Words.{Line}
use Rattle.lu_spec_entries.specs.Concerns.{only}
use Rattle.lu_proof_lawful.specs.Covered.Heads.{Head}
use Rattle.lu_proof_lawful.proofs.Preconditions.PinsFit.{PinsFit}
use Rattle.lu_proof_lawful.proofs.Preconditions.Heeds.{AllHeed}
use Rattle.lu_proof_lawful.proofs.Preconditions.Speaks.{AllSpeak}
use Rattle.lu_proof_lawful.proofs.Preconditions.Only.{grown_of}
use Rattle.lu_proof_lawful.proofs.Preconditions.Grown.{Allowed, Grown, GrownOf}
use Rattle.lu_proof_lawful.proofs.Invariants.Groups.{HoldsAt, Holds}
use Rattle.lu_proof_lawful.proofs.Invariants.All.{holds}

pub record Stood (head : Head) (l : Line) (past : List Line) : Type 0 where
  pub ok : Allowed head past l.at l.entry
  pub grown : Grown head past
  pub before : Holds head past
  pub after : Holds head (l ∷ past)
  pub pins : PinsFit (l ∷ past)
  pub heeds : AllHeed (l ∷ past)
  pub speaks : AllSpeak (l ∷ past)

pub stood : (head : Head) (l : Line) (past : List Line) → Grown head (l ∷ past) → PinsFit (l ∷ past) → AllHeed (l ∷ past)
    → AllSpeak (l ∷ past) → Stood head l past
stood head l past g fit heeds speaks = record {
  ok = g.0;
  grown = g.1;
  before = holds head past g.1;
  after = holds head (l ∷ past) g;
  pins =
      fit;
  heeds = heeds;
  speaks = speaks;
}

-- ---- read off it

-- the past with the line
pub grown_now : (head : Head) (l : Line) (past : List Line) → Stood head l past → Grown head (l ∷ past)
grown_now head l past s = (s.ok, s.grown)

-- what concerns one target, without the line and with it
pub grown_there : (head : Head) (l : Line) (past : List Line) → Stood head l past → (t : ℕ) → GrownOf head (only t past)
grown_there head l past s t = grown_of head t past s.grown

pub grown_there_now : (head : Head) (l : Line) (past : List Line) → Stood head l past → (t : ℕ) → GrownOf head (only t (l ∷ past))
grown_there_now head l past s t = grown_of head t (l ∷ past) (grown_now head l past s)

-- the facts of one target, before the line and after it
pub at_before : (head : Head) (l : Line) (past : List Line) → Stood head l past → (t : ℕ) → HoldsAt head (only t past)
at_before head l past s t = s.before.at t

pub at_after : (head : Head) (l : Line) (past : List Line) → Stood head l past → (t : ℕ) → HoldsAt head (only t (l ∷ past))
at_after head l past s t = s.after.at t
