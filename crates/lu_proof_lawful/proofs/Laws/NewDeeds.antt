-- What has the number of a transaction is new with the line of a transaction alone; a client's line does nothing.
use Rattle.std.proofs.Common.{◌≡◌, ℕ, List, ◌∷◌, Some, None, ◌⊎◌, inl, inr, sym, ap, arith}
use Rattle.lu_base.specs.declared.ids.Node.TheVariants.{Client, Target}
use Rattle.lu_base.specs.declared.ids.Stamp.{Stamp}
use Rattle.lu_base.specs.declared.ids.Txn.{Txn as TxnOf}
use Rattle.lu_spec_entries.specs.Carried.{Deed}
use Rattle.lu_spec_entries.specs.Words.{Entry, Act, Txn as Made, Grant, Wait, Answers, Line, line}
use Rattle.lu_proof_lawful.specs.Covered.Heads.{Head}
use Rattle.lu_proof_lawful.proofs.Preconditions.StoryGuards.{EntryOf}
use Rattle.lu_proof_lawful.proofs.Preconditions.Acts.{acted}
use Rattle.lu_proof_lawful.proofs.Preconditions.Lists.{turn}
use Rattle.lu_proof_lawful.proofs.Invariants.TargetGroups.{Acted, IsMade}
use Rattle.lu_proof_lawful.proofs.Invariants.GrantLines.{grant_made}
use Rattle.lu_proof_lawful.proofs.Invariants.ObjectDeeds.{told_number, wait_told, answers_told}

-- in a client's line
pub client_acted : (head : Head) (past : List Line) (stamp : Stamp) (c : ℕ) (e : Entry) (d : Deed)
    → EntryOf head past (turn stamp (Client c)) (Client c) e → Acted (line (turn stamp (Client c)) e ∷ past) d → Acted past d
client_acted head past stamp c (Act x) d ok a = absurd ok
client_acted head past stamp c (Made x) d ok a = absurd ok
client_acted head past stamp c (Grant lock asked) d ok a = absurd ok
client_acted head past stamp c (Wait lock x) d ok a = absurd ok
client_acted head past stamp c (Answers x) d ok a = absurd ok
client_acted head past stamp c e d ok a = a

-- in a target's
pub made_new : (head : Head) (past : List Line) (stamp : Stamp) (t : ℕ) (e : Entry) (d : Deed)
    → EntryOf head past (turn stamp (Target t)) (Target t) e → Acted (line (turn stamp (Target t)) e ∷ past) d → IsMade d → (e ≡ Made d)
    ⊎ Acted past d
made_new head past stamp t (Made x) d ok (inl q) made = inl (ap Made q)
made_new head past stamp t (Made x) d ok (inr a) made = inr a
made_new head past stamp t (Act x) d ok (inl q) made =
    absurd (let same = ap (λ (v : Deed). v.reply.txn.0) (sym q) in let none =
    ap (λ (v : TxnOf). v.0) (acted head.osts past (turn stamp (Target t)) t x ok).number in omega (arith, same, none, made))
made_new head past stamp t (Act x) d ok (inr a) made = inr a
made_new head past stamp t (Grant lock None) d ok (inl q) made = absurd (cc)
made_new head past stamp t (Grant lock None) d ok (inr a) made = inr a
made_new head past stamp t (Grant lock (Some x)) d ok a made = inr (grant_made head.osts past (turn stamp (Target t)) t lock x ok d a made)
made_new head past stamp t (Wait lock x) d ok (inl q) made =
    absurd (let same = ap (λ (v : Deed). v.reply.txn.0) (sym q) in let none =
    told_number head.osts past x (wait_told head.osts past (turn stamp (Target t)) lock x ok.1) in omega (arith, same, none, made))
made_new head past stamp t (Wait lock x) d ok (inr a) made = inr a
made_new head past stamp t (Answers x) d ok (inl q) made =
    absurd (let same = ap (λ (v : Deed). v.reply.txn.0) (sym q) in let none =
    told_number head.osts past x (answers_told head.osts past (turn stamp (Target t)) t x ok.1) in omega (arith, same, none, made))
made_new head past stamp t (Answers x) d ok (inr a) made = inr a
made_new head past stamp t e d ok a made = inr a
