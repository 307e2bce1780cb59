-- The law of history is decided, for all lives that are out and all numbers that are lost.
use Rattle.std.proofs.Common.{ℕ, zero, suc, Bool, Option, Some, None, List, length}
use Rattle.lu_base.specs.declared.ids.At.{At}
use Rattle.lu_base.specs.declared.ids.Node.{Node}
use Rattle.lu_base.specs.declared.ids.Node.TheVariants.{Client, Target}
use Rattle.lu_base.specs.declared.ids.Txn.{Txn as TxnOf}
use Rattle.lu_base.specs.declared.ids.Who.{Who}
use Rattle.lu_base.specs.declared.locks.Resource.{Resource}
use Rattle.lu_layout.specs.Raid0.{Raid0}
use Rattle.lu_msg.specs.declared.answers.Answer.{Answer}
use Rattle.lu_msg.specs.declared.calls.Call.{Call}
use Rattle.lu_msg.specs.declared.operations.Op.{Op}
use Rattle.lu_msg.specs.declared.operations.Op.TheVariants as op
use Rattle.lu_trace.specs.declared.entries.Entry.{Entry}
use Rattle.lu_trace.specs.declared.entries.Entry.TheVariants.{Txn, Told}
use Rattle.lu_trace.specs.declared.entries.Line.{Line}
use Rattle.lu_spec_laws.specs.Words.Pasts.{Past}
use Rattle.lu_spec_laws.specs.Words.Lives.{is_gone}
use Rattle.lu_spec_laws.specs.Words.Lost.{is_lost}
use Rattle.lu_spec_laws.specs.Words.Requests.{asked}
use Rattle.lu_spec_laws.specs.Words.Calls.{Begun, open_call}
use Rattle.lu_spec_laws.specs.Words.Pieces.{layout_heard, done_before}
use Rattle.lu_spec_laws.specs.Laws.History.{Carried, CarriesAt, CarriesBy, changed, PieceOn, PieceAt, ToldOn, ToldAt, TxnAt, ExecutedAt}
use Rattle.lu_spec_laws.specs.Laws.History.{HistoryAt, HistoryOf, History}
use Rattle.lu_spec_laws.proofs.Decides.{Decided, nothing, never, like, both, below, is_true, when, unless}
use Rattle.lu_spec_laws.proofs.Same.{options, answers}

-- ---- pieces

abbrev decide_carried : (layout : Raid0) (calls : List Call) (o : Op) → Decided (Carried layout calls o)
decide_carried layout calls (op.Put resource cookie at bytes) = is_true _
decide_carried layout calls (op.Cut resource cookie size) = is_true _
decide_carried layout calls _ = nothing

abbrev decide_carries : (layout : Raid0) (calls : List Call) (resource : Resource) (o : Op) → Decided (CarriesAt layout calls resource o)
decide_carries layout calls resource o =
    like (λ t. record { stripe = t.0; carried = t.1 }) (λ (r : CarriesAt layout calls resource o). (r.stripe, r.carried))
    (both (below resource.stripe (length layout.targets)) (decide_carried layout calls o))

abbrev decide_by : (heard : Option Raid0) (calls : Option (List Call)) (resource : Resource) (o : Op)
    → Decided (CarriesBy heard calls resource o)
decide_by (Some layout) (Some calls) resource o = decide_carries layout calls resource o
decide_by _ _ resource o = never

abbrev decide_on : (past : Past) (t : ℕ) (who : Who) (x : ℕ) (o : Op) (object : Option Resource) → Decided (PieceOn past t who x o object)
decide_on past t who x o None = nothing
decide_on past t who x o (Some resource) = decide_by (layout_heard who resource.fid past) (done_before t who x resource.fid past) resource o

abbrev pub decide_piece : (past : Past) (t : ℕ) (who : Who) (x : ℕ) (o : Option Op) → Decided (PieceAt past t who x o)
decide_piece past t who x None = nothing
decide_piece past t who x (Some o) = decide_on past t who x o (changed o)

-- ---- the law

module _ (out : Who → Bool) (lost : ℕ → ℕ → Bool) (osts : ℕ) where
  abbrev decide_told_on : (past : Past) (at : At) (c slot : ℕ) (begun : Option Begun) (turn : At) (answer : Answer)
      → Decided (ToldOn out lost osts past at c slot begun turn answer)
  decide_told_on past at c slot None turn answer = nothing
  decide_told_on past at c slot (Some begun) turn answer = when _ (options answers _ _)

  abbrev decide_told : (past : Past) (at : At) (node : Node) (slot : ℕ) (turn : At) (answer : Answer)
      → Decided (ToldAt out lost osts past at node slot turn answer)
  decide_told past at (Client c) slot turn answer = unless _ (when _ (decide_told_on past at c slot (open_call c slot past) turn answer))
  decide_told past at (Target t) slot turn answer = nothing

  abbrev decide_txn : (past : Past) (t : ℕ) (number : TxnOf) (who : Who) (x : ℕ) → Decided (TxnAt out lost osts past t number who x)
  decide_txn past zero number who x = unless _ (is_true _)
  decide_txn past (suc t) number who x = decide_piece past (suc t) who x (asked past (suc t) who x)

  abbrev decide_executed : (past : Past) (node : Node) (number : TxnOf) (who : Who) (x : ℕ)
      → Decided (ExecutedAt out lost osts past node number who x)
  decide_executed past (Target t) number who x = decide_txn past t number who x
  decide_executed past (Client c) number who x = nothing

  abbrev decide_history_at : (past : Past) (at : At) (said : Entry) → Decided (HistoryAt out lost osts past at said)
  decide_history_at past at (Told slot turn answer) = decide_told past at at.node slot turn answer
  decide_history_at past at (Txn number who xid seen answer) = decide_executed past at.node number who xid.0
  decide_history_at past at _ = nothing

  abbrev pub decide_history_of : (past : Past) (l : Line) (later : List Line) → Decided (HistoryOf out lost osts past l later)
  decide_history_of past l later = decide_history_at past l.at l.entry

abbrev pub decide_history : (osts : ℕ) (whole past : Past) (l : Line) (later : List Line) → Decided (History osts whole past l later)
decide_history osts whole past l later = decide_history_of (is_gone whole) (is_lost whole) osts past l later
