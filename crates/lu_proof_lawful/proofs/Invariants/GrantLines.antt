-- What a line that grants a lock does: at the metadata target nothing that wasn't done before, at another one a deed that makes no
-- transaction.
use Rattle.std.proofs.Common.{◌≡◌, ℕ, ◌<◌, List, Option, Some, None, ◌⊎◌, inl, inr, ⊎_elim, subst, ap, arith}
use Rattle.lu_base.specs.declared.ids.At.{At}
use Rattle.lu_base.specs.declared.ids.Node.{Node}
use Rattle.lu_base.specs.declared.ids.Node.TheVariants.{Client, Target}
use Rattle.lu_base.specs.declared.ids.Stamp.{Stamp}
use Rattle.lu_base.specs.declared.ids.Txn.{Txn}
use Rattle.lu_base.specs.declared.locks.Lock.{Lock}
use Rattle.lu_spec_entries.specs.Carried.{Deed}
use Rattle.lu_spec_entries.specs.Words.{Grant, Line}
use Rattle.lu_spec_entries.specs.Concerns.{only}
use Rattle.lu_proof_lawful.specs.Covered.Heads.{Head}
use Rattle.lu_proof_lawful.proofs.Preconditions.StoryGuards.{GrantOk, RangeOk, GrantsOk}
use Rattle.lu_proof_lawful.proofs.Preconditions.Acts.{range_acted}
use Rattle.lu_proof_lawful.proofs.Preconditions.Grown.{Allowed}
use Rattle.lu_proof_lawful.proofs.Preconditions.Lists.{self}
use Rattle.lu_proof_lawful.proofs.Preconditions.ClientLines.{some_is}
use Rattle.lu_proof_lawful.proofs.Invariants.Groups.{turn}
use Rattle.lu_proof_lawful.proofs.Invariants.TargetGroups.{Acted, IsMade}
use Rattle.lu_proof_lawful.proofs.Invariants.DoneGrows.{did_acted}
use Rattle.lu_proof_lawful.proofs.Invariants.Lines.{acted_whole}

pub grant_acted : (osts : ℕ) (past : List Line) (at : At) (t : ℕ) (lock : Lock) (d : Deed) → GrantsOk osts past at t lock d → (e : Deed)
    → (Some d ≡ Some e) ⊎ Acted past e → Acted past e ⊎ ((d ≡ e) × RangeOk osts past at lock e)
grant_acted osts past at t lock d ok e (inr a) = inl a
grant_acted osts past at t lock d (inl ok) e (inl q) = inl (subst (λ (x : Deed). Acted past x) (some_is d e q) (did_acted past d ok.1.did))
grant_acted osts past at t lock d (inr ok) e (inl q) = let same = some_is d e q
    in inr (same, subst (λ (x : Deed). RangeOk osts past at lock x) same ok.1)

pub range_unmade : (osts : ℕ) (past : List Line) (at : At) (lock : Lock) (d : Deed) → RangeOk osts past at lock d → IsMade d → ⊥
range_unmade osts past at lock d ok made = let zero : d.reply.txn.0 ≡ 0 = ap (λ (n : Txn). n.0) (range_acted osts past at lock d ok).number
    in omega (arith, zero, made)

-- so what made a transaction was done before
pub grant_made : (osts : ℕ) (past : List Line) (at : At) (t : ℕ) (lock : Lock) (d : Deed) → GrantsOk osts past at t lock d → (e : Deed)
    → (Some d ≡ Some e) ⊎ Acted past e → IsMade e → Acted past e
grant_made osts past at t lock d ok e a made = ⊎_elim
    (λ (b : Acted past e). b)
    (λ (r : (d ≡ e) × RangeOk osts past at lock e). absurd (range_unmade osts past at lock e r.1 made))
    (grant_acted osts past at t lock d ok e a)

-- the same over all targets
pub grant_either : (head : Head) (past : List Line) (stamp : Stamp) (t : ℕ) (lock : Lock) (asked : Option Deed) (d : Deed)
    → Allowed head past (turn stamp (Target t)) (Grant lock asked) → asked ≡ Some d
    → Acted past d ⊎ ((0 < t) × RangeOk head.osts (only t past) (turn stamp (Target t)) lock d)
grant_either head past stamp t lock None d k e = absurd (cc)
grant_either head past stamp t lock (Some x) d k e = ⊎_elim
    (λ (p : (t ≡ 0) × GrantOk head.osts (only t past) lock x). inl
    (subst (λ (y : Deed). Acted past y) same (acted_whole t past x (did_acted (only t past) x p.1.did))))
    (λ (p : (0 < t) × RangeOk head.osts (only t past) (turn stamp (Target t)) lock x). inr
    (p.0, subst (λ (y : Deed). RangeOk head.osts (only t past) (turn stamp (Target t)) lock y) same p.1))
    (k.of t (self t))
  where
    same : x ≡ d
    same = some_is x d e

pub made_before : (head : Head) (past : List Line) (stamp : Stamp) (node : Node) (lock : Lock) (asked : Option Deed) (d : Deed)
    → Allowed head past (turn stamp node) (Grant lock asked) → asked ≡ Some d → IsMade d → Acted past d
made_before head past stamp (Client c) lock asked d k e made = absurd k.ok
made_before head past stamp (Target t) lock asked d k e made = ⊎_elim (λ (a : Acted past d). a)
    (λ (p : (0 < t) × RangeOk head.osts (only t past) (turn stamp (Target t)) lock d). absurd
    (range_unmade head.osts (only t past) (turn stamp (Target t)) lock d p.1 made))
    (grant_either head past stamp t lock asked d k e)
