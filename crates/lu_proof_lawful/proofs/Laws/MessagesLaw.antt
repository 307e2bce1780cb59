-- The law of messages holds of the printed past of every grown one.
use Rattle.std.proofs.Common.{◌+◌, List, [], ◌∷◌, Option, Some, None, ◌∙◌, arith}
use Rattle.lu_base.specs.declared.ids.At.{At}
use Rattle.lu_base.specs.declared.ids.Node.{Node}
use Rattle.lu_base.specs.declared.ids.Node.TheVariants.{Client, Target}
use Rattle.lu_trace.specs.declared.entries.Entry.{Entry as PrintedEntry}
use Rattle.lu_trace.specs.declared.entries.Line.{Line as PrintedLine}
use Rattle.lu_spec_entries.specs.Words.{Entry, Begin, Send, Take, Tick, Told, Line}
use Rattle.lu_spec_entries.specs.Sent.{count_sent}
use Rattle.lu_spec_entries.specs.Printed.{printed_entry, printed}
use Rattle.lu_proof_lawful.specs.Covered.Heads.{Head}
use Rattle.lu_spec_laws.specs.Laws.Messages.{Follows, Lives, Passes, MessagesAt, Messages}
use Rattle.lu_spec_laws.specs.Holds.{Holds, HoldsBefore}
use Rattle.lu_proof_lawful.proofs.Preconditions.Guards.{Steps}
use Rattle.lu_proof_lawful.proofs.Preconditions.Grown.{LivesAt, Allowed, Grown}
use Rattle.lu_proof_lawful.proofs.Invariants.Groups.{turn}
use Rattle.lu_proof_lawful.proofs.Laws.Turns.{steps_trans, upto_is}
use Rattle.lu_proof_lawful.proofs.Laws.Printed.{sends_is, sent_to, died_is, free_is, open_is_some, told_running}
use Rattle.lu_proof_lawful.proofs.Laws.Lines.{OfPrinted, Keeps, holds_before, Nothing}

-- ---- turns

-- the newest printed line is of this turn or an earlier one
pub follows : (head : Head) (past : List Line) (at : At) → Grown head past → Steps past at → Follows (printed past) at
follows head [] at g s = tt
follows head (l ∷ past) at g s = by (printed_entry (count_sent past + 1) l.entry)
    (follows head past at g.1 (steps_trans past l.at at g.0.steps s))
  where
    by : (o : Option PrintedEntry) → Follows (printed past) at → Follows
        (elim o [ None ↦ printed past | Some e ↦ record { at = l.at; entry = e } ∷ printed past ]) at
    by None h = h
    by (Some e) h = upto_is l.at at s

lives_is : (head : Head) (past : List Line) (node : Node) → LivesAt head past node → Lives (printed past) node
lives_is head past (Client c) a = died_is c past ∙ a.alive
lives_is head past (Target t) a = tt

-- ---- the law

messages_at : (head : Head) (past : List Line) (l : Line) (later : List PrintedLine) → Allowed head past l.at l.entry → Grown head past
    → Keeps Messages past l later
messages_at head past l later a g = at (printed_entry (count_sent past + 1) l.entry) (by l.at.node l.entry a)
  where
    by : (node : Node) (e : Entry) → Allowed head past (turn l.at.stamp node) e
        → OfPrinted (Passes (printed past) (turn l.at.stamp node)) (printed_entry (count_sent past + 1) e)
    by node (Send to m) k = let q = sends_is past in omega arith
    by node (Take n from m) k = sent_to past n from node m k.ok.sent
    by (Client c) (Begin slot running) k = free_is head c slot past g k.ok.free
    by (Client c) (Told slot at answer work) k = let r = told_running past (turn l.at.stamp (Client c)) c slot at answer work k.ok
        in open_is_some head c slot past r.0 g r.1
    by (Target t) (Begin slot running) k = absurd k.ok
    by (Target t) (Told slot at answer work) k = absurd k.ok
    by (Target t) Tick k = tt
    by _ _ k = tt

    at : (o : Option PrintedEntry) → OfPrinted (Passes (printed past) l.at) o → OfPrinted (MessagesAt (printed past) l.at) o
    at None p = tt
    at (Some e) p = record { order = follows head past l.at g a.steps; living = lives_is head past l.at.node a.lives; passes = p }

-- whatever lines come later
pub messages_before : (head : Head) (past : List Line) (later : List PrintedLine) → Grown head past
    → HoldsBefore Messages later (printed past)
messages_before head past later g = holds_before head Messages Nothing (λ l past k. k)
    (λ past l later a g k. messages_at head past l later a g) past later g tt

pub messages_law : (head : Head) (past : List Line) → Grown head past → Holds Messages (printed past)
messages_law head past g = messages_before head past [] g
