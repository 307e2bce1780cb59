-- A file that is open is told with the number of the transaction that opened it.
use Rattle.std.proofs.Common.{◌≡◌, ℕ, ◌≤◌, true, List, ◌⊎◌, inl, inr, ⊎_elim, refl, sym, subst, ap, ◌∙◌, arith}
use Rattle.lu_base.specs.declared.ids.At.{At}
use Rattle.lu_base.specs.declared.ids.Fid.{Fid}
use Rattle.lu_base.specs.declared.ids.Txn.{Txn}
use Rattle.lu_base.specs.declared.ids.Who.{Who}
use Rattle.lu_layout.specs.Raid0.{Raid0}
use Rattle.lu_msg.specs.declared.answers.Answer.TheVariants as told
use Rattle.lu_msg.specs.declared.operations.Op.{Op}
use Rattle.lu_msg.specs.declared.operations.Op.TheVariants as op
use Rattle.lu_spec_machine.specs.declared.child.Child.{Child}
use Rattle.lu_spec_machine.specs.declared.child.Child.TheVariants.{Dir, File}
use Rattle.lu_spec_machine.specs.Footprint.{Operation, is_some_change, answer, changes}
use Rattle.lu_spec_machine.specs.Plan.{Outcome, outcome}
use Rattle.lu_spec_machine.specs.Table.{root, walk, last_of, row_open}
use Rattle.lu_spec_machine.specs.Tree.{Tree}
use Rattle.lu_spec_machine.specs.Fits.{answer_fits}
use Rattle.lu_spec_machine.proofs.Fits.{answers_fit}
use Rattle.lu_spec_machine.proofs.Walks.{walk_ends}
use Rattle.lu_spec_entries.specs.Carried.{Deed}
use Rattle.lu_spec_entries.specs.Words.{Line}
use Rattle.lu_spec_entries.specs.Concerns.{only}
use Rattle.lu_proof_lawful.specs.Covered.TargetStates.{none, next_number, server_of}
use Rattle.lu_proof_lawful.specs.Covered.Deeds.{asked}
use Rattle.lu_proof_lawful.specs.Covered.Heads.{Head}
use Rattle.lu_proof_lawful.proofs.Preconditions.StoryGuards.{ActOk, TxnOk}
use Rattle.lu_proof_lawful.proofs.Preconditions.Grown.{Grown}
use Rattle.lu_proof_lawful.proofs.Invariants.TargetGroups.{Acted}
use Rattle.lu_proof_lawful.proofs.Invariants.OnNames.{IsOnNames, open_op}
use Rattle.lu_proof_lawful.proofs.Invariants.ObjectAnswers.{IsObjectAnswer, OfObject}
use Rattle.lu_proof_lawful.proofs.Invariants.FirstDeeds.{first_does, acted_either}
use Rattle.lu_proof_lawful.proofs.Invariants.Asked.{acted_on_names}
use Rattle.lu_proof_lawful.proofs.Invariants.Finds.{number_next}

-- it makes a transaction, and tells its number
abbrev Opened : Txn → Outcome → Type 0
Opened number o = (f : Fid) (n : Txn) (l : Raid0) → o.answer ≡ told.OpenFile f n l → (n ≡ number) × (is_some_change o.changes ≡ true)

open_number : (t : Tree) (number : Txn) (who : Who) (path : List (List ℕ))
    → Opened number (outcome t (walk root path (λ cs. row_open number who (last_of root cs))))
open_number t number who path = walk_ends t (Opened number) (λ e f n l h. absurd (cc)) root path
    (λ cs. row_open number who (last_of root cs)) (λ cs h. by (last_of root cs))
  where
    by : (c : Child) → Opened number (outcome t (row_open number who c))
    by (Dir d) f n l h = absurd (cc)
    by (File g) f n l h = (cc, refl)

table_opened : (osts : ℕ) (t : Tree) (a : Operation) (f : Fid) (n : Txn) (l : Raid0) → IsOnNames a.op → answer osts t a
    ≡ told.OpenFile f n l → (n ≡ a.number) × (changes osts t a ≡ true)
table_opened osts t a f n l is h =
    let k = open_op a.op f n l is (ap (λ v. answer_fits a.op v) (sym h) ∙ answers_fit osts t a) in
    by a.op k.1 h
  where
    by : (o : Op) → o ≡ op.Open (open_op a.op f n l is (ap (λ v. answer_fits a.op v) (sym h) ∙ answers_fit osts t a)).0
        → answer osts t (record a { op = o }) ≡ told.OpenFile f n l → (n ≡ a.number) × (changes osts t (record a { op = o }) ≡ true)
    by (op.Open path) e h = open_number t a.number a.who path f n l h
    by o e h = absurd (cc)

-- each deed that tells of an open file is the transaction of that number
pub opened_number : (head : Head) (past : List Line) (d : Deed) (f : Fid) (n : Txn) (layout : Raid0) → Grown head past → Acted past d
    → d.reply.answer ≡ told.OpenFile f n layout → (n ≡ d.reply.txn) × (1 ≤ d.reply.txn.0)
opened_number head past d f n layout g a h = ⊎_elim
    (λ (b : Acted (only 0 past) d). let k = first_does head past d g b in by k.past k.grown k.at (acted_on_names head past d g b) k.does)
    (λ (o : OfObject d). absurd (subst IsObjectAnswer h o.answer))
    (acted_either head past d g a)
  where
    by : (before : List Line) → Grown head before → (at : At) → IsOnNames d.op → ActOk head.osts (only 0 before) at d
        ⊎ TxnOk head.osts (only 0 before) at d → (n ≡ d.reply.txn) × (1 ≤ d.reply.txn.0)
    by before grown at is (inl ok) =
        let v = server_of head.osts (only 0 before) in
        let told_so : answer head.osts v.tree (asked ok.request none) ≡ told.OpenFile f n layout =
        ap (λ (y : Deed). y.reply.answer) (sym ok.is) ∙ h in
        let k = table_opened head.osts v.tree (asked ok.request none) f n layout (subst IsOnNames (ap (λ (y : Deed). y.op) ok.is) is)
        told_so in
        let still = ok.still in
        let moves = k.1 in
        absurd (cc)
    by before grown at is (inr ok) =
        let v = server_of head.osts (only 0 before) in
        let told_so : answer head.osts v.tree (asked ok.request (next_number v)) ≡ told.OpenFile f n layout =
        ap (λ (y : Deed). y.reply.answer) (sym ok.is) ∙ h in
        let k = table_opened head.osts v.tree (asked ok.request (next_number v)) f n layout
        (subst IsOnNames (ap (λ (y : Deed). y.op) ok.is) is) told_so in
        let number : d.reply.txn ≡ next_number v = ap (λ (y : Deed). y.reply.txn) ok.is in
        let high = number_next head before grown at d ok in
        (k.0 ∙ sym number, omega (arith, high))
