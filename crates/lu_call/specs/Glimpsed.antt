-- How far a glimpse comes by held locks.
use Rattle.std.specs.Prelude.{◌≡◌, ℕ, List, [], ◌∷◌, drop, None}
use Rattle.lu_base.specs.declared.ids.At.{At}
use Rattle.lu_msg.specs.declared.answers.Answer.TheVariants as answer
use Rattle.lu_msg.specs.declared.operations.Op.TheVariants as op
use Rattle.lu_held.specs.declared.locks.Use.{Use}
use Rattle.lu_spec_entries.specs.Carried.{Sizes, Work, Running}
use Rattle.lu_spec_entries.specs.Words.{Entry, Queues, Stands}
use Rattle.lu_spec_client.specs.States.{Store}
use Rattle.lu_spec_client.specs.Advances.{at_stage, queued_for, tells}
use Rattle.lu_spec_client.specs.Glimpses.{glimpses, asks_size}

-- a target is asked for the size of the object of this want, and the call waits
abbrev pub asks_for_size : ℕ → Use → Running → Work → List Entry
asks_for_size slot wanted r w = Stands slot (at_stage r (Sizes w)) ∷ Queues wanted.target.0 (queued_for slot (op.Size wanted.resource)) ∷ []

-- what comes where no held lock does for the next object, or none is left
abbrev pub after_glimpses : At → ℕ → List Use → List ℕ → Running → Work → List Entry
after_glimpses at slot [] sizes r w = tells slot r at (answer.Sizes sizes) None
after_glimpses at slot (wanted ∷ left) sizes r w = asks_size slot wanted left sizes r w

-- the glimpse goes on with these wants and sizes as with those before
abbrev pub GlimpsesOn : List Use → List Use → List ℕ → List ℕ → Store → Type 0
GlimpsesOn left rest sizes more s = (at : At) (slot : ℕ) (r : Running) (w : Work) → glimpses at slot left sizes r w s
    ≡ glimpses at slot rest more r w s

-- no held lock does for the next object, or none is left
abbrev pub GlimpsesNoMore : List Use → List ℕ → Store → Type 0
GlimpsesNoMore left sizes s = (at : At) (slot : ℕ) (r : Running) (w : Work) → glimpses at slot left sizes r w s
    ≡ after_glimpses at slot left sizes r w

-- Sizes were taken under held locks as far as those do.
pub record Glimpsed (left rest : List Use) (sizes more : List ℕ) (s : Store) : Type 0 where
  pub count : ℕ
  pub wants : rest ≡ drop count left
  pub goes : GlimpsesOn left rest sizes more s
  pub stops : GlimpsesNoMore rest more s
