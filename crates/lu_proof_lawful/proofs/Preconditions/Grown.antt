-- A past that has grown line by line, each as the guards allow it, over the whole past and over each story.
use Rattle.std.proofs.Common.{◌≡◌, ℕ, ◌<◌, true, List, [], ◌∷◌, Some, None, ◌⊎◌}
use Rattle.lu_base.specs.declared.ids.At.{At}
use Rattle.lu_base.specs.declared.ids.Node.{Node}
use Rattle.lu_base.specs.declared.ids.Node.TheVariants.{Client, Target}
use Rattle.lu_base.specs.declared.ids.Who.{Who}
use Rattle.lu_spec_entries.specs.Words.{Entry, Heard, Line, Back}
use Rattle.lu_spec_entries.specs.Concerns.{concerns, only}
use Rattle.lu_proof_lawful.specs.Covered.Heads.{Head, IsAlive}
use Rattle.lu_proof_lawful.specs.Covered.TargetCloses.{closing_of}
use Rattle.lu_proof_lawful.proofs.Preconditions.Guards.{Steps, Closes, BackNow, due, IsTurnOf, Owes, EntryOk}
use Rattle.lu_proof_lawful.proofs.Preconditions.StoryGuards.{EntryOf}

-- while a close has lines to show, the next one comes, in the turn of the close
abbrev pub ShowsNext : Head → List Line → At → Entry → Type 0
ShowsNext head past at e = (next : Entry) (more : List Entry) → closing_of head.clients past ≡ next ∷ more → (e ≡ next) × IsTurnOf past at

-- only a living client of the run has lines
abbrev pub LivesAt : Head → List Line → Node → Type 0
LivesAt head past (Client c) = IsAlive head past c
LivesAt head past (Target t) = Unit {0}

pub record Allowed (head : Head) (past : List Line) (at : At) (e : Entry) : Type 0 where
  pub steps : Steps past at
  pub closes : Closes past at
  pub backs : (t : ℕ) (who : Who) → concerns t at.node e ≡ true → BackNow head.osts head.clients (only t past) who → (e ≡ Back who)
      × IsTurnOf (only t past) at
  pub marks : (t : ℕ) (mark : Entry) → concerns t at.node e ≡ true → due head.osts head.clients (only t past) ≡ Some mark → (e ≡ mark)
      × IsTurnOf (only t past) at
  pub shows : (t : ℕ) → concerns t at.node e ≡ true → ShowsNext head (only t past) at e
  pub lives : LivesAt head past at.node
  pub owes : Owes past at e
  pub ok : EntryOk past at at.node e
  pub of : (t : ℕ) → concerns t at.node e ≡ true → EntryOf head (only t past) at at.node e

abbrev pub Grown : Head → List Line → Type 0
Grown head [] = Unit {0}
Grown head (l ∷ past) = Allowed head past l.at l.entry × Grown head past

-- between turns no target has a message to keep, a life to tell of as back, nor something of a close to show
pub record Noted (head : Head) (past : List Line) : Type 0 where
  pub marked : (t : ℕ) → due head.osts head.clients (only t past) ≡ None
  pub told : (t : ℕ) (who : Who) → BackNow head.osts head.clients (only t past) who → ⊥
  pub shown : (t : ℕ) → closing_of head.clients (only t past) ≡ []

-- locks of what was done come from the metadata target
abbrev pub IsOfFirst : Entry → Type 0
IsOfFirst (Heard t f r) = (t ≡ 0) ⊎ (r.locks ≡ [])
IsOfFirst _ = Unit {0}

-- the node is a target, or one of the run's clients
abbrev pub IsOneOf : Head → Node → Type 0
IsOneOf head (Client c) = c < head.clients
IsOneOf head (Target t) = Unit {0}

-- a line of a past of one target is of one of the run's nodes, and shows what a close has to show
pub record IsPlaced (head : Head) (past : List Line) (l : Line) : Type 0 where
  pub one : IsOneOf head l.at.node
  pub shows : ShowsNext head past l.at l.entry

-- each line of a past of one target is allowed there
abbrev pub GrownOf : Head → List Line → Type 0
GrownOf head [] = Unit {0}
GrownOf head (l ∷ past) = EntryOf head past l.at l.at.node l.entry × IsOfFirst l.entry × IsPlaced head past l × GrownOf head past
