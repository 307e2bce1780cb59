-- What is done: the metadata target acts or makes a transaction, as was so then; another target does something for an operation on an
-- object. And the
-- lines of the metadata target's story: nothing waits there for a lock.
use Rattle.std.proofs.Common.{◌≡◌, ℕ, ◌<◌, zero, suc, true, false, List, [], ◌∷◌, Some, None, ◌⊎◌, inl, inr, ⊎_elim, sym, subst, ◌∙◌, arith}
use Rattle.std.specs.Prelude.{nat_eq}
use Rattle.std.proofs.lemmas.Bool.{cond_both, eqb-true}
use Rattle.lu_base.specs.declared.ids.At.{At}
use Rattle.lu_base.specs.declared.ids.Node.{Node}
use Rattle.lu_base.specs.declared.ids.Node.TheVariants.{Client, Target}
use Rattle.lu_base.specs.declared.ids.Stamp.{Stamp}
use Rattle.lu_base.specs.declared.locks.Lock.{Lock}
use Rattle.lu_msg.specs.declared.answers.Answer.{Answer}
use Rattle.lu_msg.specs.declared.operations.Op.{Op}
use Rattle.lu_msg.specs.declared.operations.Op.TheVariants as op
use Rattle.lu_spec_entries.specs.Carried.{Deed}
use Rattle.lu_spec_entries.specs.Words.{Entry, Hold, Act, Txn as Made, Grant, Wait, Answers, Line, line}
use Rattle.lu_spec_entries.specs.Concerns.{concerns, only}
use Rattle.lu_spec_client.specs.Caches.{brought}
use Rattle.lu_proof_lawful.specs.Covered.Heads.{Head}
use Rattle.lu_proof_lawful.proofs.Preconditions.Guards.{In}
use Rattle.lu_proof_lawful.proofs.Preconditions.StoryGuards.{ActOk, ActsOk, TxnOk, TxnsOk, GrantsOk, HeldOk, GivenOf}
use Rattle.lu_proof_lawful.proofs.Preconditions.Grown.{Allowed, Grown}
use Rattle.lu_proof_lawful.proofs.Preconditions.ClientLines.{IsNames, asked_names, some_is}
use Rattle.lu_proof_lawful.proofs.Invariants.Groups.{turn}
use Rattle.lu_proof_lawful.proofs.Invariants.TargetGroups.{Acted, Promoted, tells_wait, Gave}
use Rattle.lu_proof_lawful.proofs.Invariants.DoneGrows.{did_acted}
use Rattle.lu_proof_lawful.proofs.Invariants.All.{holds}
use Rattle.lu_proof_lawful.proofs.Invariants.Lines.{acted_more}
use Rattle.lu_proof_lawful.proofs.Invariants.Sides.{acted_some, ActedKind, acted_kind, names_bring}
use Rattle.lu_proof_lawful.proofs.Invariants.ObjectAnswers.{OfObject, acted_object}

-- what the metadata target did, over the past then; what that had done is done now
pub record Does (head : Head) (story : List Line) (d : Deed) : Type 0 where
  pub past : List Line
  pub grown : Grown head past
  pub at : At
  pub does : ActOk head.osts (only 0 past) at d ⊎ TxnOk head.osts (only 0 past) at d
  pub older : (e : Deed) → Acted (only 0 past) e → Acted story e

does_more : (head : Head) (d : Deed) (old new : List Line) → ((e : Deed) → Acted old e → Acted new e) → Does head old d → Does head new d
does_more head d old new more k = record { past = k.past; grown = k.grown; at = k.at; does = k.does; older = λ e a. more e (k.older e a) }

pub first_does : (head : Head) (past : List Line) (d : Deed) → Grown head past → Acted (only 0 past) d → Does head (only 0 past) d
first_does head [] d g a = absurd a
first_does head (l ∷ past) d g a =
    cond_both (concerns 0 l.at.node l.entry) (l ∷ only 0 past) (only 0 past) (λ (p : List Line). Acted p d → Does head p d)
    (λ o b. by l.at.node l.entry g.0 o b (λ c. does_more head d (only 0 past) (l ∷ only 0 past)
    (λ e. acted_more l.at l.entry (only 0 past) e) (first_does head past d g.1 c)))
    (λ o b. first_does head past d g.1 b)
    a
  where
    Now : Type 0
    Now = Does head (l ∷ only 0 past) d

    is_first : (u : ℕ) → nat_eq 0 u ≡ true → 0 ≡ u
    is_first u o = eqb-true 0 u o

    -- in its story
    Here : Node → Type 0
    Here node = ActOk head.osts (only 0 past) (turn l.at.stamp node) d ⊎ TxnOk head.osts (only 0 past) (turn l.at.stamp node) d

    now : (node : Node) → Here node → Now
    now node k = record {
      past = past;
      grown = g.1;
      at = turn l.at.stamp node;
      does = k;
      older =
          λ e a. acted_more l.at l.entry (only 0 past) e a;
    }

    acts : (u : ℕ) (x : Deed) → 0 ≡ u → x ≡ d → ActsOk head.osts (only 0 past) (turn l.at.stamp (Target u)) u x → Now
    acts u x z p (inl k) = now (Target u) (inl (subst (λ (y : Deed). ActOk head.osts (only 0 past) (turn l.at.stamp (Target u)) y) p k.1))
    acts u x z p (inr k) = absurd (let high = k.0 in omega (arith, high, z))

    txns : (u : ℕ) (x : Deed) → 0 ≡ u → x ≡ d → TxnsOk head.osts (only 0 past) (turn l.at.stamp (Target u)) u x → Now
    txns u x z p (inl k) = now (Target u) (inr (subst (λ (y : Deed). TxnOk head.osts (only 0 past) (turn l.at.stamp (Target u)) y) p k.1))
    txns u x z p (inr k) = absurd (let high = k.0 in omega (arith, high, z))

    grants : (u : ℕ) (lock : Lock) (x : Deed) → 0 ≡ u → GrantsOk head.osts (only 0 past) (turn l.at.stamp (Target u)) u lock x
        → Acted (only 0 past) x
    grants u lock x z (inl k) = did_acted (only 0 past) x k.1.did
    grants u lock x z (inr k) = absurd (let high = k.0 in omega (arith, high, z))

    by : (node : Node) (e : Entry) → Allowed head past (turn l.at.stamp node) e → concerns 0 node e ≡ true
        → Acted (line (turn l.at.stamp node) e ∷ only 0 past) d → (Acted (only 0 past) d → Now) → Now
    by (Client c) (Act x) k o b h = absurd k.ok
    by (Client c) (Made x) k o b h = absurd k.ok
    by (Client c) (Grant lock asked) k o b h = absurd k.ok
    by (Client c) (Wait lock x) k o b h = absurd k.ok
    by (Client c) (Answers x) k o b h = absurd k.ok
    by (Target u) (Act x) k o (inl p) h = acts u x (is_first u o) p (k.of 0 o)
    by (Target u) (Act x) k o (inr b) h = h b
    by (Target u) (Made x) k o (inl p) h = txns u x (is_first u o) p (k.of 0 o)
    by (Target u) (Made x) k o (inr b) h = h b
    by (Target u) (Grant lock (Some x)) k o (inl p) h = h (subst (λ (y : Deed). Acted (only 0 past) y) (some_is x d p)
        (grants u lock x (is_first u o) (k.of 0 o)))
    by (Target u) (Grant lock None) k o (inl p) h = absurd (cc)
    by (Target u) (Grant lock asked) k o (inr b) h = h b
    by (Target u) (Wait lock x) k o b h = absurd (let high = (k.of 0 o).0 in let z = is_first u o in omega (arith, high, z))
    by (Target u) (Answers x) k o b h = absurd (let high = (k.of 0 o).0 in let z = is_first u o in omega (arith, high, z))
    by _ _ k o b h = h b

-- the metadata target did it, or it is for an operation on an object
pub acted_either : (head : Head) (past : List Line) (d : Deed) → Grown head past → Acted past d → Acted (only 0 past) d ⊎ OfObject d
acted_either head past d g a = let k = acted_some head past d g a in by k.0 k.1
  where
    by : (t : ℕ) → Acted (only t past) d → Acted (only 0 past) d ⊎ OfObject d
    by zero b = inl b
    by (suc t) b = inr (acted_object head past (suc t) d (omega (arith)) g b)

-- ---- what it gives

names_tell : (o : Op) (a : Answer) (k : ℕ) → IsNames o → tells_wait o a k ≡ true → ⊥
names_tell (op.Enqueue resource mode extent) a k is told = is
names_tell o a k is told = absurd (cc)

-- a lock that the metadata target gave came with a reply
pub first_gave : (head : Head) (past : List Line) (d : Deed) (l : Lock) → Grown head past → Gave (only 0 past) d l → In l d.reply.locks
first_gave head past d l g gave =
    subst (λ (ls : List Lock). In l ls) (names_bring head past d g gave.0)
    (⊎_elim
    (λ (i : In l (brought d.op d.reply)). i)
    (λ (p : Promoted (only 0 past) l × (tells_wait d.op d.reply.answer l.cookie.0 ≡ true)). absurd
    (names_tell d.op d.reply.answer l.cookie.0 (asked_names d.op (acted_kind head past 0 d g gave.0)) p.1))
    gave.1)

-- ---- the lines of its story

-- a lock that had waited is of no metadata target
pub given_high : (head : Head) (past : List Line) (c t : ℕ) (lock : Lock) (seen : List ℕ) → Grown head past
    → GivenOf (only t past) c t lock seen → 0 < t
given_high head past c t lock seen g k =
    let d = ((holds head past g).at t).done.answered k.notice.who k.flight k.reply k.heard in
    by d.0 (sym d.5 ∙ k.asked) (acted_kind head past t d.0 g d.1)
  where
    by : (d : Deed) → d.op ≡ op.Enqueue lock.resource lock.ask.mode k.extent → ActedKind t d → 0 < t
    by d e (inl n) = absurd (subst IsNames e n.1)
    by d e (inr n) = n.0

-- they are its own, and what a client comes to hold there came with a reply
abbrev pub FirstOf : List Line → Node → Entry → Type 0
FirstOf past (Target t) e = t ≡ 0
FirstOf past (Client c) (Hold t lock marked size seen) = HeldOk past c t lock seen
FirstOf past (Client c) e = Unit {0}

pub first_line : (head : Head) (past : List Line) (stamp : Stamp) (node : Node) (e : Entry) → Grown head past
    → Allowed head past (turn stamp node) e → concerns 0 node e ≡ true → FirstOf (only 0 past) node e
first_line head past stamp (Target t) e g k o = sym (eqb-true 0 t o)
first_line head past stamp (Client c) (Hold t lock marked size seen) g k o = by (k.of 0 o)
  where
    by : ((marked ≡ false) × HeldOk (only 0 past) c t lock seen) ⊎ GivenOf (only 0 past) c t lock seen → HeldOk (only 0 past) c t lock seen
    by (inl h) = h.1
    by (inr h) =
        let first = eqb-true 0 t o in
        let high = given_high head past c t lock seen g (subst (λ (v : ℕ). GivenOf (only v past) c t lock seen) first h) in
        absurd (omega (arith, first, high))
first_line head past stamp (Client c) e g k o = tt
