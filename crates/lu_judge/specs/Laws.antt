-- The laws by name: what each is called, what it says, and their order.
use Rattle.std.specs.Prelude.{ℕ, List, [], ◌∷◌, reverse, codes, Option, Some, None}
use Rattle.lu_trace.specs.declared.entries.Line.{Line}
use Rattle.lu_trace.specs.declared.traces.Trace.{Trace}
use Rattle.lu_spec_laws.specs.Words.Pasts.{Past}
use Rattle.lu_spec_laws.specs.Laws.Messages.{Messages}
use Rattle.lu_spec_laws.specs.Laws.Locks.{Locks}
use Rattle.lu_spec_laws.specs.Laws.Silent.{Silent}
use Rattle.lu_spec_laws.specs.Laws.Acts.{Acts}
use Rattle.lu_spec_laws.specs.Laws.Recovery.{Recovery}
use Rattle.lu_spec_laws.specs.Laws.History.{History}
use Rattle.lu_spec_laws.specs.Laws.Glimpse.{Glimpse}
use Rattle.lu_judge.specs.declared.laws.Law.{Law}
use Rattle.lu_judge.specs.declared.laws.Law.TheVariants as law

-- the name that is printed
abbrev pub law_text : Law → List ℕ
law_text law.Messages = codes "Messages"
law_text law.Locks = codes "Locks"
law_text law.Silent = codes "Silent"
law_text law.Acts = codes "Acts"
law_text law.Recovery = codes "Recovery"
law_text law.History = codes "History"
law_text law.Glimpse = codes "Glimpse"

-- what it says at a line of this trace
abbrev pub law_of : Trace → Law → Past → Line → List Line → Type 0
law_of trace law.Messages = Messages
law_of trace law.Locks = Locks trace.osts
law_of trace law.Silent = Silent
law_of trace law.Acts = Acts (reverse trace.entries)
law_of trace law.Recovery = Recovery trace.osts (reverse trace.entries)
law_of trace law.History = History trace.osts (reverse trace.entries)
law_of trace law.Glimpse = Glimpse trace.osts (reverse trace.entries)

-- the law after it, if there is one
abbrev pub next_law : Law → Option Law
next_law law.Messages = Some law.Locks
next_law law.Locks = Some law.Silent
next_law law.Silent = Some law.Acts
next_law law.Acts = Some law.Recovery
next_law law.Recovery = Some law.History
next_law law.History = Some law.Glimpse
next_law law.Glimpse = None

-- the laws before it, the nearest first
abbrev pub laws_before : Law → List Law
laws_before law.Messages = []
laws_before law.Locks = law.Messages ∷ []
laws_before law.Silent = law.Locks ∷ law.Messages ∷ []
laws_before law.Acts = law.Silent ∷ law.Locks ∷ law.Messages ∷ []
laws_before law.Recovery = law.Acts ∷ law.Silent ∷ law.Locks ∷ law.Messages ∷ []
laws_before law.History = law.Recovery ∷ law.Acts ∷ law.Silent ∷ law.Locks ∷ law.Messages ∷ []
laws_before law.Glimpse = law.History ∷ law.Recovery ∷ law.Acts ∷ law.Silent ∷ law.Locks ∷ law.Messages ∷ []
