-- What a line on which the metadata target acted says of its deed: its turn, its answer, what it saw and wrote, and
-- whether it changes the tree. Of an act or a transaction of any target: what both kinds have in common.
use Rattle.std.proofs.Common.{◌≡◌, ℕ, ◌+◌, ◌*◌, ◌<◌, true, false, List, inl, inr, refl, sym, subst, ◌∙◌, arith}
use Rattle.lu_base.specs.declared.ids.At.{At}
use Rattle.lu_base.specs.declared.ids.Node.TheVariants.{Target}
use Rattle.lu_base.specs.declared.ids.Stamp.{Stamp}
use Rattle.lu_spec_machine.specs.Footprint.{answer, touches, writes, changes}
use Rattle.lu_spec_machine.proofs.Numbers.{number_is_free}
use Rattle.lu_spec_entries.specs.Carried.{Deed}
use Rattle.lu_spec_entries.specs.Words.{Act, Txn as Made, Line}
use Rattle.lu_spec_entries.specs.Concerns.{only}
use Rattle.lu_proof_lawful.specs.Covered.TargetParts.{operation}
use Rattle.lu_proof_lawful.specs.Covered.TargetStates.{Server, none, server_at, server_of, next_number, seen_in}
use Rattle.lu_proof_lawful.specs.Covered.Deeds.{asked}
use Rattle.lu_proof_lawful.specs.Covered.Heads.{Head}
use Rattle.lu_proof_lawful.proofs.Preconditions.StoryGuards.{ActOk, TxnOk, TxnsOk}
use Rattle.lu_proof_lawful.proofs.Preconditions.Acts.{Acted, acted, acts_names, Made as MadeSo, made as made_so}
use Rattle.lu_proof_lawful.proofs.Preconditions.Grown.{Allowed}
use Rattle.lu_proof_lawful.proofs.Preconditions.Lists.{self}
use Rattle.lu_proof_lawful.proofs.Preconditions.Parts.{server_is}
use Rattle.lu_proof_lawful.proofs.Invariants.Groups.{turn}

-- an act of a target in that state
pub record ActIs (osts : ℕ) (v : Server) (at : At) (d : Deed) : Type 0 where
  pub turn : d.reply.at ≡ at
  pub txn : d.reply.txn ≡ none
  pub answered : d.reply.answer ≡ answer osts v.tree (operation d)
  pub saw : d.reply.seen ≡ seen_in (touches osts v.tree (operation d)) v.log
  pub still : changes osts v.tree (operation d) ≡ false

-- a transaction of it
pub record TxnIs (osts : ℕ) (v : Server) (at : At) (d : Deed) : Type 0 where
  pub few : v.count < 4294967295
  pub turn : d.reply.at ≡ at
  pub number : d.reply.txn.0 ≡ v.boot * 4294967296 + (v.count + 1)
  pub answered : d.reply.answer ≡ answer osts v.tree (operation d)
  pub saw : d.reply.seen ≡ seen_in (touches osts v.tree (operation d)) v.log
  pub wrote : d.writes ≡ writes osts v.tree (operation d)
  pub moves : changes osts v.tree (operation d) ≡ true

-- the metadata target makes transactions on names
pub txns_names : (osts : ℕ) (past : List Line) (at : At) (d : Deed) → TxnsOk osts past at 0 d → TxnOk osts past at d
txns_names osts past at d (inl ok) = ok.1
txns_names osts past at d (inr ok) = absurd (omega (arith, ok.0))

act_of : (osts : ℕ) (past : List Line) (at : At) (d : Deed) → ActOk osts past at d → ActIs osts (server_of osts past) at d
act_of osts past at d ok = subst (λ (e : Deed). ActIs osts (server_of osts past) at e) (sym ok.is)
    (record { turn = refl; txn = refl; answered = refl; saw = refl; still = ok.still })

txn_of : (osts : ℕ) (past : List Line) (at : At) (d : Deed) → TxnOk osts past at d → TxnIs osts (server_of osts past) at d
txn_of osts past at d ok =
    let v = server_of osts past in
    let r = ok.request in
    subst (λ (e : Deed). TxnIs osts v at e) (sym ok.is)
    (record {
      few = ok.numbers;
      turn = refl;
      number = refl;
      answered = refl;
      saw = refl;
      wrote = refl;
      moves = (number_is_free osts v.tree (asked r (next_number v)) (asked r none) refl (inl refl)).changes ∙ ok.moves;
    })

pub act_is : (head : Head) (past : List Line) (stamp : Stamp) (d : Deed) → Allowed head past (turn stamp (Target 0)) (Act d)
    → ActIs head.osts (server_at head.osts 0 past) (turn stamp (Target 0)) d
act_is head past stamp d k =
    subst (λ (v : Server). ActIs head.osts v (turn stamp (Target 0)) d) (sym (server_is head.osts 0 past))
    (act_of head.osts (only 0 past) (turn stamp (Target 0)) d
    (acts_names head.osts (only 0 past) (turn stamp (Target 0)) d (k.of 0 refl)))

pub act_for : (head : Head) (past : List Line) (stamp : Stamp) (t : ℕ) (d : Deed) → Allowed head past (turn stamp (Target t)) (Act d)
    → Acted head.osts (only t past) (turn stamp (Target t)) d
act_for head past stamp t d k = acted head.osts (only t past) (turn stamp (Target t)) t d (k.of t (self t))

pub txn_is : (head : Head) (past : List Line) (stamp : Stamp) (d : Deed) → Allowed head past (turn stamp (Target 0)) (Made d)
    → TxnIs head.osts (server_at head.osts 0 past) (turn stamp (Target 0)) d
txn_is head past stamp d k =
    subst (λ (v : Server). TxnIs head.osts v (turn stamp (Target 0)) d) (sym (server_is head.osts 0 past))
    (txn_of head.osts (only 0 past) (turn stamp (Target 0)) d
    (txns_names head.osts (only 0 past) (turn stamp (Target 0)) d (k.of 0 refl)))

-- of any target
pub txn_for : (head : Head) (past : List Line) (stamp : Stamp) (t : ℕ) (d : Deed) → Allowed head past (turn stamp (Target t)) (Made d)
    → MadeSo head.osts (only t past) (turn stamp (Target t)) d
txn_for head past stamp t d k = made_so head.osts (only t past) (turn stamp (Target t)) t d (k.of t (self t))
