-- Each story of an object in a run of the table is allowed, and goes with the past that it is of.
use Rattle.std.proofs.Common.{◌≡◌, ℕ, ◌<◌, List, [], ◌∷◌, inl, inr, sym, subst}
use Rattle.lu_base.specs.declared.ids.Node.{Node}
use Rattle.lu_base.specs.declared.ids.Node.TheVariants.{Client, Target}
use Rattle.lu_base.specs.declared.ids.Stamp.{Stamp}
use Rattle.lu_base.specs.declared.locks.Resource.{Resource}
use Rattle.lu_spec_entries.specs.Words as word
use Rattle.lu_spec_entries.specs.Words.{Line, line}
use Rattle.lu_proof_lawful.specs.Covered.Heads.{Head, IsHead}
use Rattle.lu_proof_lawful.proofs.Preconditions.Grown.{Grown}
use Rattle.lu_proof_lawful.proofs.Preconditions.Heeds.{AllHeed}
use Rattle.lu_proof_lawful.proofs.Preconditions.Lists.{turn}
use Rattle.lu_proof_lawful.proofs.Preconditions.PinsFit.{PinsFit}
use Rattle.lu_proof_lawful.proofs.Preconditions.Speaks.{AllSpeak}
use Rattle.lu_proof_bytes.specs.Object.Words.{Entry}
use Rattle.lu_proof_bytes.specs.Object.Guards.{AllAllowed}
use Rattle.lu_proof_bytes.proofs.Object.World.{world}
use Rattle.lu_proof_lawful.specs.Projection.Stories.{story}
use Rattle.lu_proof_lawful.proofs.Refinement.Place.{place}
use Rattle.lu_proof_lawful.proofs.Refinement.Stood.{stood}
use Rattle.lu_proof_lawful.proofs.Refinement.ClosedHeld.{close_grows}
use Rattle.lu_proof_lawful.proofs.Refinement.TargetLine.{target_start, target_line}
use Rattle.lu_proof_lawful.proofs.Refinement.AllowedTarget.{target_grows}
use Rattle.lu_proof_lawful.proofs.Refinement.AskedLine.{asked_start, asked_line}
use Rattle.lu_proof_lawful.proofs.Refinement.ClientGrows.{client_grows}
use Rattle.lu_proof_lawful.proofs.Refinement.ObjectLine.{object_start, object_line}
use Rattle.lu_proof_lawful.proofs.Refinement.StoreLine.{store_start, store_line}
use Rattle.lu_proof_lawful.proofs.Refinement.WordLine.{word_start, word_line}
use Rattle.lu_proof_lawful.proofs.Refinement.Tied.{Tied, Here, Grows}

-- ---- before the first line

starts : (head : Head) (t : ℕ) (r : Resource) → Tied head t r []
starts head t r = record {
  target = target_start head t r;
  object = object_start head t r;
  asked = asked_start head t r;
  store =
      store_start head t r;
  word = word_start head t r;
}

-- ---- with a line

-- the story has one allowed entry more, or none
pub grows : (head : Head) (t : ℕ) (r : Resource) (stamp : Stamp) (node : Node) (e : word.Entry) (past : List Line)
    → Here head t r (line (turn stamp node) e) past
    → Grows (story t r past) (story t r (line (turn stamp node) e ∷ past))
grows head t r stamp (Client c) e past here = client_grows head t r stamp c e past here
grows head t r stamp (Target u) (word.Close o) past here = close_grows head t r stamp u o past here
grows head t r stamp (Target u) e past here = target_grows head t r stamp u e past here (λ o q. absurd (cc))

-- and all ties last
tied_line : (head : Head) (t : ℕ) (r : Resource) (l : Line) (past : List Line) → Here head t r l past
    → Grows (story t r past) (story t r (l ∷ past)) → Tied head t r (l ∷ past)
tied_line head t r l past here g = record {
  target = target_line head t r l past here g;
  object = object_line head t r l past here g;
  asked = asked_line head t r l past here g;
  store = store_line head t r l past here g;
  word = word_line head t r l past here g;
}

-- ---- after each line

pub all_tied : (head : Head) → IsHead head → (past : List Line) → Grown head past → PinsFit past → AllHeed past → AllSpeak past
    → (t : ℕ) (r : Resource) → 0 < t → t ≡ place head.osts r → AllAllowed (story t r past) × Tied head t r past
all_tied head good [] g fit heeds speaks t r some lies = (tt, starts head t r)
all_tied head good (l ∷ past) g fit heeds speaks t r some lies =
    let before = all_tied head good past g.1 fit.1 heeds.1 speaks.1 t r some lies in
    let here : Here head t r l past = record {
      ranges = good;
      some = some;
      place = lies;
      stood = stood head l past g fit heeds speaks;
      all =
          before.0;
      world = world (story t r past) before.0;
      tied = before.1;
    } in
    let more = grows head t r l.at.stamp l.at.node l.entry past here in
    (still more before.0, tied_line head t r l past here more)
  where
    still : Grows (story t r past) (story t r (l ∷ past)) → AllAllowed (story t r past) → AllAllowed (story t r (l ∷ past))
    still (inl same) all = subst (λ (h : List Entry). AllAllowed h) (sym same) all
    still (inr e) all = subst (λ (h : List Entry). AllAllowed h) (sym e.1) (e.2, all)

pub story_allowed : (head : Head) → IsHead head → (past : List Line) → Grown head past → PinsFit past → AllHeed past → AllSpeak past
    → (t : ℕ) (r : Resource) → 0 < t → t ≡ place head.osts r → AllAllowed (story t r past)
story_allowed head good past g fit heeds speaks t r some lies = (all_tied head good past g fit heeds speaks t r some lies).0

pub story_tied : (head : Head) → IsHead head → (past : List Line) → Grown head past → PinsFit past → AllHeed past → AllSpeak past
    → (t : ℕ) (r : Resource) → 0 < t → t ≡ place head.osts r → Tied head t r past
story_tied head good past g fit heeds speaks t r some lies = (all_tied head good past g fit heeds speaks t r some lies).1
