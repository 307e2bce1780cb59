-- A write that was made was made under a granted lock to write of its life, by that cookie, over all that is written.
use Rattle.std.proofs.Common.{◌≡◌, ℕ, ◌<◌, true, List, [], ◌∷◌, ◌⊎◌, inl, inr, sym, subst, ap, arith}
use Rattle.std.specs.Prelude.{nat_eq}
use Rattle.std.proofs.lemmas.Bool.{cond_both, eqb-true}
use Rattle.lu_base.specs.declared.ids.Node.{Node}
use Rattle.lu_base.specs.declared.ids.Node.TheVariants.{Client, Target}
use Rattle.lu_base.specs.declared.ids.Who.{Who}
use Rattle.lu_base.specs.declared.ids.At.{At}
use Rattle.lu_base.specs.declared.ids.Cookie.{Cookie}
use Rattle.lu_base.specs.declared.locks.Lock.{Lock}
use Rattle.lu_base.specs.declared.locks.Resource.{Resource}
use Rattle.lu_held.specs.Locks.{same_resource}
use Rattle.lu_base.specs.declared.locks.Extent.{Extent}
use Rattle.lu_base.specs.declared.locks.Mode.TheVariants.{PW}
use Rattle.lu_msg.specs.declared.operations.Op.{Op}
use Rattle.lu_msg.specs.declared.operations.Op.TheVariants as op
use Rattle.lu_spec_target.specs.Objects.{lies_in, put_extent, cut_extent}
use Rattle.lu_spec_target.specs.Queues.{extent_of}
use Rattle.lu_spec_entries.specs.Carried.{Deed}
use Rattle.lu_spec_entries.specs.Words.{Entry, Txn as Made, Line, line}
use Rattle.lu_spec_entries.specs.Concerns.{concerns, only}
use Rattle.lu_spec_target.specs.Replies.{locks_on}
use Rattle.lu_proof_lawful.specs.Covered.TargetStates.{server_of}
use Rattle.lu_proof_lawful.specs.Covered.Heads.{Head}
use Rattle.lu_proof_objects.proofs.Using.{writes_only}
use Rattle.lu_proof_lawful.proofs.Preconditions.StoryGuards.{TxnsOk, WriteOk}
use Rattle.lu_proof_lawful.proofs.Preconditions.ObjectGuards.{GoesUnder, WritesUnder}
use Rattle.lu_proof_lawful.proofs.Preconditions.Lists.{in_filter}
use Rattle.lu_proof_lawful.proofs.Preconditions.QueueLists.{lock_of_in}
use Rattle.lu_proof_lawful.proofs.Preconditions.Grown.{Allowed, Grown}
use Rattle.lu_proof_lawful.proofs.Invariants.Groups.{turn}
use Rattle.lu_proof_lawful.proofs.Invariants.TargetGroups.{Acted, Gave, IsMade}
use Rattle.lu_proof_lawful.proofs.Invariants.All.{holds}
use Rattle.lu_proof_lawful.proofs.Refinement.WordLine.{only_gave}
use Rattle.lu_proof_lawful.proofs.Laws.NewDeeds.{client_acted, made_new}

-- the lock that the operation names is to write, and over what it writes
abbrev pub LiesUnder : Op → Lock → Type 0
LiesUnder (op.Put r cookie at bytes) l = (l.cookie ≡ cookie) × (l.ask.mode ≡ PW) × (lies_in (put_extent at bytes) (extent_of l) ≡ true)
LiesUnder (op.Cut r cookie n) l = (l.cookie ≡ cookie) × (l.ask.mode ≡ PW) × (lies_in (cut_extent n) (extent_of l) ≡ true)
LiesUnder o l = ⊥

abbrev pub UnderGiven : List Line → Deed → Type 0
UnderGiven past d = (l : Lock) × (e : Deed) × Gave past e l × LiesUnder d.op l

wrote_now : (head : Head) (past : List Line) (t : ℕ) → Grown head past → (at : At) (d : Deed) → WriteOk head.osts (only t past) at d
    → UnderGiven (only t past) d
wrote_now head past t g at d ok = subst (λ (o : Op). (l : Lock) × (e : Deed) × Gave (only t past) e l × LiesUnder o l)
    (sym (ap (λ (e : Deed). e.op) ok.is)) (by ok.request.op ok.under)
  where
    of : (who : Who) (resource : Resource) (cookie : Cookie) (x : Extent)
        → GoesUnder (server_of head.osts (only t past)) who resource cookie x ok.holder
        → (e : Deed) × Gave (only t past) e ok.holder × (ok.holder.cookie ≡ cookie) × (ok.holder.ask.mode ≡ PW)
        × (lies_in x (extent_of ok.holder) ≡ true)
    of who resource cookie x u =
        let f = lock_of_in who cookie (locks_on resource (server_of head.osts (only t past)).granted) ok.holder u.found in
        let i = (in_filter (λ (k : Lock). same_resource k.resource resource) ok.holder (server_of head.osts (only t past)).granted f.0).0 in
        let gave = ((holds head past g).at t).locks.granted ok.holder i in
        (gave.0, gave.1, f.2, writes_only ok.holder.ask.mode u.mode, u.within)

    by : (o : Op) → WritesUnder (server_of head.osts (only t past)) ok.request.who o ok.holder → (l : Lock) × (e : Deed)
        × Gave (only t past) e l × LiesUnder o l
    by (op.Put r cookie at bytes) u = let k = of ok.request.who r cookie (put_extent at bytes) u in (ok.holder, k.0, k.1, (k.2, k.3, k.4))
    by (op.Cut r cookie n) u = let k = of ok.request.who r cookie (cut_extent n) u in (ok.holder, k.0, k.1, (k.2, k.3, k.4))
    by o u = absurd u

pub wrote_under : (head : Head) (past : List Line) (t : ℕ) (d : Deed) → 0 < t → Grown head past → Acted (only t past) d → IsMade d
    → UnderGiven (only t past) d
wrote_under head [] t d high g a m = absurd a
wrote_under head (l ∷ past) t d high g a m = by l.at.node l.entry g.0 a (λ b. wrote_under head past t d high g.1 b m)
  where
    more : UnderGiven (only t past) d → UnderGiven (only t (l ∷ past)) d
    more u = (u.0, u.1, only_gave t l past u.1 u.0 u.2, u.3)

    by : (node : Node) (e : Entry) → Allowed head past (turn l.at.stamp node) e → Acted (only t (line (turn l.at.stamp node) e ∷ past)) d
        → (Acted (only t past) d → UnderGiven (only t past) d) → UnderGiven (only t (l ∷ past)) d
    by (Client c) e k a ih =
        more (ih (cond_both (concerns t (Client c) e) (line (turn l.at.stamp (Client c)) e ∷ only t past) (only t past)
        (λ (x : List Line). Acted x d → Acted (only t past) d) (λ q b. client_acted head (only t past) l.at.stamp c e d (k.of t q) b)
        (λ q b. b) a))
    by (Target u) e k a ih =
        more
        (cond_both (nat_eq t u) (line (turn l.at.stamp (Target u)) e ∷ only t past) (only t past)
        (λ (x : List Line). Acted x d → UnderGiven (only t past) d)
        (λ q b. own u e q k (made_new head (only t past) l.at.stamp u e d (k.of t q) b m) ih)
        (λ q b. ih b)
        a)
      where
        own : (u : ℕ) (e : Entry) → nat_eq t u ≡ true → Allowed head past (turn l.at.stamp (Target u)) e → (e ≡ Made d)
            ⊎ Acted (only t past) d → (Acted (only t past) d → UnderGiven (only t past) d) → UnderGiven (only t past) d
        own u e q k (inr b) ih = ih b
        own u e q k (inl is) ih = write (subst (λ (x : Entry). Allowed head past (turn l.at.stamp (Target u)) x) is k)
          where
            write : Allowed head past (turn l.at.stamp (Target u)) (Made d) → UnderGiven (only t past) d
            write k = of (k.of t q)
              where
                of : TxnsOk head.osts (only t past) (turn l.at.stamp (Target u)) u d → UnderGiven (only t past) d
                of (inl ok) = absurd (let zero = ok.0 in let same = eqb-true t u q in omega (arith, zero, same, high))
                of (inr ok) = wrote_now head past t g.1 (turn l.at.stamp (Target u)) d ok.1
