-- Where things are done, and between whom messages go: what a target does is in its story, and names its turn, or, of a size that a holder
-- said, that of the
-- holder. The metadata target does operations on names, others do those on objects; that is also what each is asked for. Messages go from
-- clients to targets
-- and back.
use Rattle.std.proofs.Common.{◌≡◌, ℕ, ◌<◌, Bool, true, List, [], ◌∷◌, Some, None, ◌⊎◌, inl, inr, ⊎_elim, refl, sym, subst, ap, ◌∙◌, arith}
use Rattle.std.specs.Prelude.{nat_eq, if◌then◌else◌}
use Rattle.std.proofs.lemmas.Bool.{cond_both, eqb-true}
use Rattle.lu_base.specs.declared.ids.At.{At}
use Rattle.lu_base.specs.declared.ids.Node.{Node}
use Rattle.lu_base.specs.declared.ids.Node.TheVariants.{Client, Target}
use Rattle.lu_base.specs.declared.ids.Who.{Who}
use Rattle.lu_base.specs.declared.locks.Resource.{Resource}
use Rattle.lu_msg.specs.declared.answers.Answer.{Answer}
use Rattle.lu_msg.specs.declared.answers.Answer.TheVariants as told
use Rattle.lu_msg.specs.declared.messages.Message.{Message}
use Rattle.lu_msg.specs.declared.operations.Op.{Op}
use Rattle.lu_msg.specs.declared.operations.Op.TheVariants as op
use Rattle.lu_spec_entries.specs.Carried.{Deed, Queued, Flight}
use Rattle.lu_spec_entries.specs.Words.{Entry, Send, Flies, Act, Txn as Made, Grant, Wait, Answers as Responds, Line, line}
use Rattle.lu_spec_entries.specs.Concerns.{concerns, only}
use Rattle.lu_spec_client.specs.Caches.{granted_lock, brought}
use Rattle.lu_proof_lawful.specs.Covered.ClientStates.{is_own}
use Rattle.lu_proof_lawful.specs.Covered.TargetStates.{none}
use Rattle.lu_proof_lawful.specs.Covered.Heads.{Head}
use Rattle.lu_proof_lawful.proofs.Preconditions.Guards.{In, Was, EntryOk}
use Rattle.lu_proof_lawful.proofs.Preconditions.StoryGuards.{RangeOk, GrantsOk, ReportedOk}
use Rattle.lu_proof_lawful.proofs.Preconditions.Acts.{acts_sized, sized_bare, range_bare, wait_bare, responded, made}
use Rattle.lu_proof_lawful.proofs.Preconditions.Grown.{Allowed, Grown}
use Rattle.lu_proof_lawful.proofs.Preconditions.Lists.{self}
use Rattle.lu_proof_lawful.proofs.Preconditions.Only.{was_only}
use Rattle.lu_proof_lawful.proofs.Preconditions.Parts.{queue_now}
use Rattle.lu_proof_lawful.proofs.Preconditions.ClientLines.{IsNames, IsOnObject, IsAskedOf, asked_names, some_is, queue_asked}
use Rattle.lu_proof_lawful.proofs.Invariants.Groups.{turn}
use Rattle.lu_proof_lawful.proofs.Invariants.TargetGroups.{Flew, Acted}
use Rattle.lu_proof_lawful.proofs.Invariants.Lines.{DoneBy, acted_line, acted_here, only_more, DoneIn, done_here}
use Rattle.lu_proof_lawful.proofs.Invariants.Brings.{alone}
use Rattle.lu_proof_lawful.proofs.Invariants.All.{holds}

-- ---- what was done

-- it is in a target's story
pub acted_some : (head : Head) (past : List Line) (d : Deed) → Grown head past → Acted past d → (t : ℕ) × Acted (only t past) d
acted_some head [] d g a = absurd a
acted_some head (l ∷ past) d g a =
    ⊎_elim
    (λ (p : DoneBy l.entry d).
    let k = done_here head past l.at.stamp l.at.node l.entry g.0.ok g.0.of g.0.owes d p in (
      k.0,
      subst (λ (b : Bool). Acted (if b then l ∷ only k.0 past else only k.0 past) d)
          (sym (ap (λ (v : Node). concerns k.0 v l.entry) k.1 ∙ self k.0)) (acted_here l.at l.entry (only k.0 past) d p),
    ))
    (λ (p : Acted past d). let k = acted_some head past d g.1 p in (k.0, only_more k.0 l past d k.1))
    (acted_line l.at l.entry past d a)

-- a size that the holder of a lock said: its turn is a client's
pub record IsReported (d : Deed) : Type 0 where
  pub client : ℕ
  pub node : d.reply.at.node ≡ Client client
  pub number : d.reply.txn ≡ none
  pub locks : d.reply.locks ≡ []
  pub resource : Resource
  pub of_op : d.op ≡ op.Size resource
  pub size : ℕ
  pub answer : d.reply.answer ≡ told.Size size

pub reported : (osts : ℕ) (past : List Line) (at : At) (t : ℕ) (d : Deed) → ReportedOk osts past at t d → IsReported d
reported osts past at t d k =
    record {
      client = k.report.who.client;
      node = ap (λ (x : Deed). x.reply.at.node) k.is;
      number = ap (λ (x : Deed). x.reply.txn) k.is;
      locks = ap (λ (x : Deed). x.reply.locks) k.is;
      resource = k.resource;
      of_op = ap (λ (x : Deed). x.op) k.is ∙ k.of_op;
      size = k.size;
      answer = ap (λ (x : Deed). x.reply.answer) k.is;
    }

-- what its story says was done is done in a turn of it, or is such a size
pub story_turn : (head : Head) (past : List Line) (t : ℕ) (d : Deed) → Grown head past → Acted (only t past) d
    → (d.reply.at.node ≡ Target t) ⊎ IsReported d
story_turn head [] t d g a = absurd a
story_turn head (l ∷ past) t d g a =
    cond_both (concerns t l.at.node l.entry) (l ∷ only t past) (only t past)
    (λ (p : List Line). Acted p d → (d.reply.at.node ≡ Target t) ⊎ IsReported d)
    (λ o b. ⊎_elim
    (λ (p : DoneBy l.entry d).
    let k = done_here head past l.at.stamp l.at.node l.entry g.0.ok g.0.of g.0.owes d p in
    of k.0 (here l.entry k.0 p (subst (λ (n : Node). concerns t n l.entry ≡ true) k.1 o)) k.2)
    (λ (p : Acted (only t past) d). story_turn head past t d g.1 p)
    (acted_line l.at l.entry (only t past) d b))
    (λ o b. story_turn head past t d g.1 b)
    a
  where
    here : (e : Entry) (u : ℕ) → DoneBy e d → concerns t (Target u) e ≡ true → t ≡ u
    here (Act x) u p o = eqb-true t u o
    here (Made x) u p o = eqb-true t u o
    here (Grant lock asked) u p o = eqb-true t u o
    here (Wait lock x) u p o = eqb-true t u o
    here (Responds x) u p o = eqb-true t u o
    here e u p o = absurd p

    of : (u : ℕ) → t ≡ u → DoneIn head past l.at.stamp u d → (d.reply.at.node ≡ Target t) ⊎ IsReported d
    of u e (inl q) = inl (ap (λ (v : At). v.node) q ∙ ap Target (sym e))
    of u e (inr q) = inr (reported head.osts (only u past) (turn l.at.stamp (Target u)) u d q)

-- what was done in a turn of a target is in its story
pub acted_only : (head : Head) (past : List Line) (d : Deed) (t : ℕ) → Grown head past → Acted past d → d.reply.at.node ≡ Target t
    → Acted (only t past) d
acted_only head past d t g a n =
    let k = acted_some head past d g a in
    ⊎_elim
    (λ (e : d.reply.at.node ≡ Target k.0). subst (λ (u : ℕ). Acted (only u past) d) (of_target k.0 t (sym e ∙ n)) k.1)
    (λ (r : IsReported d). absurd (let e : Client r.client ≡ Target t = sym r.node ∙ n in cc))
    (story_turn head past k.0 d g k.1)
  where
    of_target : (u v : ℕ) → Target u ≡ Target v → u ≡ v
    of_target u v e = cc

-- ---- what may be asked and done

-- what flew to a target may be asked of it
pub flew_kind : (head : Head) (past : List Line) (t : ℕ) (who : Who) (f : Flight) → Grown head past → Flew (only t past) who f
    → IsAskedOf t f.op
flew_kind head [] t who f g a = absurd a
flew_kind head (l ∷ past) t who f g a =
    cond_both (concerns t l.at.node l.entry) (l ∷ only t past) (only t past) (λ (p : List Line). Flew p who f → IsAskedOf t f.op)
    (λ o b. by l.at.node l.entry g.0 o b (flew_kind head past t who f g.1))
    (λ o b. flew_kind head past t who f g.1 b)
    a
  where
    by : (node : Node) (e : Entry) → Allowed head past (turn l.at.stamp node) e → concerns t node e ≡ true
        → Flew (line (turn l.at.stamp node) e ∷ only t past) who f
        → (Flew (only t past) who f → IsAskedOf t f.op) → IsAskedOf t f.op
    by (Target u) (Flies v q) k o b h = absurd k.ok
    by (Client d) (Flies v q) k o b h =
        ⊎_elim
        (λ (p : (is_own who (only t past) (Client d) ≡ true) × (q ≡ f)).
        let ok = k.of t o in
        let same = ap (λ (w : Flight). w.op) (sym ok.is) ∙ ap (λ (w : Flight). w.op) p.1 in
        let first = subst (λ (qs : List Queued). In ok.front qs) (sym (queue_now head d t past g.1 ∙ ok.queue)) (inl refl) in
        subst (IsAskedOf t) same (queue_asked head d t past g.1 ok.front first))
        (λ (p : Flew (only t past) who f). h p)
        b
    by _ _ k o b h = h b

-- what a target does
abbrev pub ActedKind : ℕ → Deed → Type 0
ActedKind t d = ((t ≡ 0) × IsNames d.op) ⊎ ((0 < t) × IsOnObject d.op)

pub acted_kind : (head : Head) (past : List Line) (t : ℕ) (d : Deed) → Grown head past → Acted (only t past) d → ActedKind t d
acted_kind head past t d g a =
    let flew = ((holds head past g).at t).done.flew d a in
    subst (IsAskedOf t) flew.3 (flew_kind head past t d.reply.who flew.0 g flew.1)

-- what the metadata target does is done in a turn of its own
pub first_at : (head : Head) (past : List Line) (d : Deed) → Grown head past → Acted (only 0 past) d → d.reply.at.node ≡ Target 0
first_at head past d g a = ⊎_elim (λ (e : d.reply.at.node ≡ Target 0). e)
    (λ (k : IsReported d). absurd (subst IsNames k.of_op (asked_names d.op (acted_kind head past 0 d g a)))) (story_turn head past 0 d g a)

-- locks come beside the answer of the metadata target alone
pub acted_bare : (head : Head) (past : List Line) (t : ℕ) (d : Deed) → 0 < t → Grown head past → Acted (only t past) d → d.reply.locks ≡ []
acted_bare head [] t d high g a = absurd a
acted_bare head (l ∷ past) t d high g a =
    cond_both (concerns t l.at.node l.entry) (l ∷ only t past) (only t past) (λ (p : List Line). Acted p d → d.reply.locks ≡ [])
    (λ o b. by l.at.node l.entry g.0 o b (acted_bare head past t d high g.1))
    (λ o b. acted_bare head past t d high g.1 b)
    a
  where
    P : List Line
    P = only t past

    here : (u : ℕ) → nat_eq t u ≡ true → 0 < u
    here u o = subst (λ (v : ℕ). 0 < v) (eqb-true t u o) high

    by : (node : Node) (e : Entry) → Allowed head past (turn l.at.stamp node) e → concerns t node e ≡ true
        → Acted (line (turn l.at.stamp node) e ∷ P) d → (Acted P d → d.reply.locks ≡ []) → d.reply.locks ≡ []
    by (Client c) (Act x) k o b h = absurd k.ok
    by (Client c) (Made x) k o b h = absurd k.ok
    by (Client c) (Grant lock asked) k o b h = absurd k.ok
    by (Client c) (Wait lock x) k o b h = absurd k.ok
    by (Client c) (Responds x) k o b h = absurd k.ok
    by (Target u) (Act x) k o (inl p) h = ap (λ (v : Deed). v.reply.locks) (sym p)
        ∙ sized_bare head.osts P (turn l.at.stamp (Target u)) x
        (acts_sized head.osts P (turn l.at.stamp (Target u)) u x (here u o) (k.of t o))
    by (Target u) (Act x) k o (inr b) h = h b
    by (Target u) (Made x) k o (inl p) h = ap (λ (v : Deed). v.reply.locks) (sym p)
        ∙ (made head.osts P (turn l.at.stamp (Target u)) u x (k.of t o)).bare
    by (Target u) (Made x) k o (inr b) h = h b
    by (Target u) (Grant lock (Some x)) k o (inl p) h =
        ap (λ (v : Deed). v.reply.locks) (sym (some_is x d p)) ∙ range_bare head.osts P (turn l.at.stamp (Target u)) lock x
        (ranged (k.of t o))
      where
        ranged : GrantsOk head.osts P (turn l.at.stamp (Target u)) u lock x → RangeOk head.osts P (turn l.at.stamp (Target u)) lock x
        ranged (inl q) = absurd (let up = here u o in let zero = q.0 in omega (arith, up, zero))
        ranged (inr q) = q.1
    by (Target u) (Grant lock None) k o (inl p) h = absurd (cc)
    by (Target u) (Grant lock asked) k o (inr b) h = h b
    by (Target u) (Wait lock x) k o (inl p) h = ap (λ (v : Deed). v.reply.locks) (sym p)
        ∙ wait_bare head.osts P (turn l.at.stamp (Target u)) lock x (k.of t o).1
    by (Target u) (Wait lock x) k o (inr b) h = h b
    by (Target u) (Responds x) k o (inl p) h = ap (λ (v : Deed). v.reply.locks) (sym p)
        ∙ ap (λ (v : Deed). v.reply.locks) (responded head.osts P (turn l.at.stamp (Target u)) u x (k.of t o).1).is
    by (Target u) (Responds x) k o (inr b) h = h b
    by _ _ k o b h = h b

-- an operation on names brings the locks of its reply alone
pub names_bring : (head : Head) (past : List Line) (d : Deed) → Grown head past → Acted (only 0 past) d → brought d.op d.reply
    ≡ d.reply.locks
names_bring head past d g a = alone d.reply.locks (granted_lock d.op d.reply d.reply.answer) (by (acted_kind head past 0 d g a))
  where
    none_on : (o : Op) (a : Answer) → IsNames o → granted_lock o d.reply a ≡ []
    none_on (op.Enqueue resource mode extent) a n = absurd n
    none_on o a n = refl

    by : ActedKind 0 d → granted_lock d.op d.reply d.reply.answer ≡ []
    by (inl k) = none_on d.op d.reply.answer k.1
    by (inr k) = absurd (let high = k.0 in omega (arith, high))

-- ---- what was sent

-- from a client to a target, or back
abbrev pub Between : (from to : Node) → Type 0
Between (Client c) (Target t) = Unit {0}
Between (Target t) (Client c) = Unit {0}
Between _ _ = ⊥

send_between : (past : List Line) (at : At) (node to : Node) (m : Message) → EntryOk past at node (Send to m) → Between node to
send_between past at (Client c) (Target t) m ok = tt
send_between past at (Target t) (Client c) m ok = tt
send_between past at (Client c) (Client d) m ok = absurd ok
send_between past at (Target t) (Target u) m ok = absurd ok

-- what holds of each line that sends the message holds of what was sent
was_as : (S : (from to : Node) → Type 0) (head : Head) (m : Message)
    → ((past : List Line) (at : At) (node to : Node) → EntryOk past at node (Send to m) → S node to) → (past : List Line) (from to : Node)
    → Grown head past → Was past from to m → S from to
was_as S head m sends [] from to g w = absurd w
was_as S head m sends (l ∷ past) from to g w = by l.entry g.0.ok w (λ v. was_as S head m sends past from to g.1 v)
  where
    by : (e : Entry) → EntryOk past l.at l.at.node e → Was (line l.at e ∷ past) from to m → (Was past from to m → S from to) → S from to
    by (Send node k) ok w h = ⊎_elim
        (λ (p : (l.at.node ≡ from) × (node ≡ to) × (k ≡ m)). subst (λ (v : Node). S v to) p.0
        (subst (λ (v : Node). S l.at.node v) p.1 (sends past l.at l.at.node node
        (subst (λ (x : Message). EntryOk past l.at l.at.node (Send node x)) p.2 ok))))
        h
        w
    by e ok w h = h w

pub was_between : (head : Head) (past : List Line) (from to : Node) (m : Message) → Grown head past → Was past from to m → Between from to
was_between head past from to m g w = was_as Between head m (λ p at node k ok. send_between p at node k m ok) past from to g w

-- each message is in the story of its target
abbrev pub side : (from to : Node) → ℕ
side (Client c) (Target t) = t
side (Target t) to = t
side (Client c) (Client d) = 0

pub was_side : (head : Head) (past : List Line) (from to : Node) (m : Message) → Grown head past → Was past from to m
    → Was (only (side from to) past) from to m
was_side head past from to m g w = was_only (side from to) past from to m (by from to (was_between head past from to m g w)) w
  where
    by : (v k : Node) → Between v k → concerns (side v k) v (Send k m) ≡ true
    by (Client d) (Target u) q = self u
    by (Target u) (Client d) q = self u
    by (Client d) (Client b) q = absurd q
    by (Target u) (Target b) q = absurd q
