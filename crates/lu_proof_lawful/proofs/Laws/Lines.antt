-- A law holds of the printed past of a grown one where each allowed line that is printed keeps it.
use Rattle.std.proofs.Common.{◌+◌, List, [], ◌∷◌, Option, Some, None}
use Rattle.lu_base.specs.declared.ids.At.{At}
use Rattle.lu_trace.specs.declared.entries.Entry.{Entry as PrintedEntry}
use Rattle.lu_trace.specs.declared.entries.Line.{Line as PrintedLine}
use Rattle.lu_spec_entries.specs.Words.{Line}
use Rattle.lu_spec_entries.specs.Sent.{count_sent}
use Rattle.lu_spec_entries.specs.Printed.{printed_entry, printed}
use Rattle.lu_proof_lawful.specs.Covered.Heads.{Head}
use Rattle.lu_spec_laws.specs.Words.Pasts.{Past}
use Rattle.lu_spec_laws.specs.Holds.{HoldsBefore}
use Rattle.lu_proof_lawful.proofs.Preconditions.Grown.{Allowed, Grown}

-- of what is printed of a line, if anything
abbrev pub OfPrinted : (PrintedEntry → Type 0) → Option PrintedEntry → Type 0
OfPrinted P None = Unit {0}
OfPrinted P (Some e) = P e

-- what the law asks where this line is printed
abbrev pub Keeps : (Past → PrintedLine → List PrintedLine → Type 0) → List Line → Line → List PrintedLine → Type 0
Keeps law past l later = OfPrinted (λ e. law (printed past) (record { at = l.at; entry = e }) later)
    (printed_entry (count_sent past + 1) l.entry)

-- `Known` is what else is known of a past, and so of those before it
module _ (head : Head) (law : Past → PrintedLine → List PrintedLine → Type 0) (Known : List Line → Type 0)
    (earlier : (l : Line) (past : List Line) → Known (l ∷ past) → Known past)
    (each : (past : List Line) (l : Line) (later : List PrintedLine) → Allowed head past l.at l.entry → Grown head past → Known (l ∷ past)
    → Keeps law past l later) where
  pub holds_before : (past : List Line) (later : List PrintedLine) → Grown head past → Known past → HoldsBefore law later (printed past)
  holds_before [] later g k = tt
  holds_before (l ∷ past) later g k = by (printed_entry (count_sent past + 1) l.entry) (each past l later g.0 g.1 k)
      (λ later. holds_before past later g.1 (earlier l past k))
    where
      by : (o : Option PrintedEntry) → OfPrinted (λ e. law (printed past) (record { at = l.at; entry = e }) later) o
          → ((later : List PrintedLine) → HoldsBefore law later (printed past))
          → HoldsBefore law later (elim o [ None ↦ printed past | Some e ↦ record { at = l.at; entry = e } ∷ printed past ])
      by None p h = h later
      by (Some e) p h = (p, h (record { at = l.at; entry = e } ∷ later))

-- the later lines, with what is printed of that one
abbrev pub after_line : Line → Option PrintedEntry → List PrintedLine → List PrintedLine
after_line l None later = later
after_line l (Some e) later = record { at = l.at; entry = e } ∷ later

-- what is printed of a line stands before the later lines
abbrev pub shown : At → Option PrintedEntry → List PrintedLine → List PrintedLine
shown at None later = later
shown at (Some e) later = record { at = at; entry = e } ∷ later

-- the same, where of the later lines is known what the newest one owes, which turns on what is known of the past
module _ (head : Head) (law : Past → PrintedLine → List PrintedLine → Type 0) (Known : List Line → Type 0)
    (earlier : (l : Line) (past : List Line) → Known (l ∷ past) → Known past) (Due : List Line → List PrintedLine → Type 0)
    (before : (past : List Line) (l : Line) (later : List PrintedLine) → Grown head (l ∷ past) → Known (l ∷ past) → Due (l ∷ past) later
    → Due past (shown l.at (printed_entry (count_sent past + 1) l.entry) later))
    (each : (past : List Line) (l : Line) (later : List PrintedLine) → Allowed head past l.at l.entry → Grown head past → Known (l ∷ past)
    → Due (l ∷ past) later → Keeps law past l later) where
  pub holds_owed : (past : List Line) (later : List PrintedLine) → Grown head past → Known past → Due past later
      → HoldsBefore law later (printed past)
  holds_owed [] later g k d = tt
  holds_owed (l ∷ past) later g k d = by (printed_entry (count_sent past + 1) l.entry) (each past l later g.0 g.1 k d)
      (holds_owed past (shown l.at (printed_entry (count_sent past + 1) l.entry) later) g.1 (earlier l past k) (before past l later g k d))
    where
      by : (o : Option PrintedEntry) → OfPrinted (λ e. law (printed past) (record { at = l.at; entry = e }) later) o
          → HoldsBefore law (shown l.at o later) (printed past)
          → HoldsBefore law later (elim o [ None ↦ printed past | Some e ↦ record { at = l.at; entry = e } ∷ printed past ])
      by None p h = h
      by (Some e) p h = (p, h)

-- or on nothing
pub holds_due : (head : Head) (law : Past → PrintedLine → List PrintedLine → Type 0) (Known : List Line → Type 0)
    (earlier : (l : Line) (past : List Line) → Known (l ∷ past) → Known past) (Due : List Line → List PrintedLine → Type 0)
    → ((past : List Line) (l : Line) (later : List PrintedLine) → Grown head (l ∷ past) → Due (l ∷ past) later
    → Due past (shown l.at (printed_entry (count_sent past + 1) l.entry) later))
    → ((past : List Line) (l : Line) (later : List PrintedLine) → Allowed head past l.at l.entry → Grown head past → Known (l ∷ past)
    → Due (l ∷ past) later → Keeps law past l later)
    → (past : List Line) (later : List PrintedLine) → Grown head past → Known past → Due past later → HoldsBefore law later (printed past)
holds_due head law Known earlier Due before each = holds_owed head law Known earlier Due (λ past l later g k d. before past l later g d)
    each

-- of a law for which nothing else is asked
abbrev pub Nothing : List Line → Type 0
Nothing past = Unit {0}
