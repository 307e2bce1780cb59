-- What a client tells from what it knows is what the table answers then: each fact was taught by a reply that its life heard, under a
-- lock that it holds, which is granted still, unless that life was evicted. And the transactions that wrote what the answer rests on
-- are committed, or were seen in a reply that its life heard. A life that was evicted and doesn't know it yet tells what was true when
-- it was evicted.
use Rattle.std.proofs.Common.{◌≡◌, ℕ, zero, suc, ◌≤◌, Bool, true, List, [], ◌∷◌, ◌++◌, ◌⊎◌, inl, inr, ⊎_elim, Option, Some, sym, subst, ap}
use Rattle.std.proofs.Common.{◌∙◌}
use Rattle.std.specs.Prelude.{nat_eq, ◌==◌, ◌&&◌, not, if◌then◌else◌}
use Rattle.std.proofs.lemmas.Bool.{cond_both, and_parts, eqb-true}
use Rattle.lu_base.specs.declared.ids.At.{At}
use Rattle.lu_base.specs.declared.ids.Cookie.{Cookie}
use Rattle.lu_base.specs.declared.ids.Node.{Node}
use Rattle.lu_base.specs.declared.ids.Node.TheVariants.{Client, Target}
use Rattle.lu_base.specs.declared.ids.Txn.{Txn as TxnOf}
use Rattle.lu_base.specs.declared.ids.Who.{Who}
use Rattle.lu_base.specs.declared.locks.Lock.{Lock}
use Rattle.lu_msg.specs.declared.answers.Answer.{Answer}
use Rattle.lu_msg.specs.declared.calls.Call.{Call}
use Rattle.lu_msg.specs.declared.messages.Reply.{Reply as ReplyTo}
use Rattle.lu_msg.specs.declared.operations.Op.{Op}
use Rattle.lu_part.specs.declared.parts.Part.{Part}
use Rattle.lu_held.specs.declared.locks.HeldLock.{HeldLock}
use Rattle.lu_spec_machine.specs.Tree.{Tree}
use Rattle.lu_spec_machine.specs.Footprint.{answer, touches, Apart}
use Rattle.lu_spec_entries.specs.Carried.{Deed, HandleFile, Flight}
use Rattle.lu_spec_entries.specs.Words.{Entry, Heard, Hold, Drop, Life, Learns, Line, line}
use Rattle.lu_spec_entries.specs.Concerns.{concerns, only}
use Rattle.lu_spec_client.specs.Caches.{held_at}
use Rattle.lu_spec_client.specs.Facts.{Fact, taught, without_facts, facts_at}
use Rattle.lu_spec_client.specs.Known.{is_usable}
use Rattle.lu_proof_lawful.specs.Covered.Calls.{life_at, operation_of}
use Rattle.lu_proof_lawful.specs.Covered.Known.{notes_at, known_answer}
use Rattle.lu_proof_lawful.specs.Covered.TargetStates.{tree_at, committed_at, server_of}
use Rattle.lu_proof_lawful.specs.Covered.ClientStates.{life_of}
use Rattle.lu_proof_lawful.specs.Covered.Heads.{Head}
use Rattle.lu_proof_lawful.proofs.Preconditions.Guards.{In, HeardNow, LearnsOk, EntryOk}
use Rattle.lu_proof_lawful.proofs.Preconditions.StoryGuards.{HeardOk, EntryOf}
use Rattle.lu_proof_lawful.proofs.Preconditions.Grown.{Grown, GrownOf}
use Rattle.lu_proof_lawful.proofs.Preconditions.Held.{held_into}
use Rattle.lu_proof_lawful.proofs.Preconditions.Lists.{self, in_append, in_filter}
use Rattle.lu_proof_lawful.proofs.Preconditions.Only.{grown_of}
use Rattle.lu_proof_lawful.proofs.Preconditions.Parts.{tree_is, committed_is, life_is_of}
use Rattle.lu_proof_lawful.proofs.Preconditions.ClientLocks.{any_true}
use Rattle.lu_proof_lawful.proofs.Invariants.Groups.{turn, HoldsAt}
use Rattle.lu_proof_lawful.proofs.Invariants.TargetGroups.{Acted, IsMade, Stands, Dead, Evicted, Lapsed, IsOver}
use Rattle.lu_proof_lawful.proofs.Invariants.Brings.{of_reply}
use Rattle.lu_proof_lawful.proofs.Invariants.Lines.{acted_more}
use Rattle.lu_proof_lawful.proofs.Invariants.All.{holds_at, holds}
use Rattle.lu_proof_lawful.proofs.Invariants.KnownPaths.{Tells, Usable, Right, known_is_right}
use Rattle.lu_proof_lawful.proofs.Invariants.PartsStay.{sound_now}
use Rattle.lu_proof_lawful.proofs.Invariants.FirstDeeds.{first_line}
use Rattle.lu_proof_lawful.proofs.Invariants.Unheld.{answers, done_op, held_heard}
use Rattle.lu_proof_lawful.proofs.Invariants.Taught.{bound_of, tree_for, Under, Taught, tells_for, first_taught}
use Rattle.lu_proof_lawful.proofs.Invariants.TaughtClose.{keeps_taught}

-- ---- at the metadata target

pub taught_at : (head : Head) (past : List Line) → Grown head past → Taught head.osts (only 0 past)
taught_at head [] g = first_taught head.osts
taught_at head (l ∷ past) g =
    cond_both (concerns 0 l.at.node l.entry) (l ∷ only 0 past) (only 0 past) (λ (p : List Line). HoldsAt head p → Taught head.osts p)
    (λ o next. keeps_taught head (only 0 past) l.at.stamp l.at.node l.entry (first_line head past l.at.stamp l.at.node l.entry g.1 g.0 o)
    (g.0.of 0 o) ((holds head past g.1).at 0) next (held_heard head past g.1) (taught_at head past g.1))
    (λ o next. taught_at head past g.1)
    ((holds head (l ∷ past) g).at 0)

pub client_is : (a b : ℕ) → Client a ≡ Client b → a ≡ b
client_is a b e = cc

-- the client heard that reply to that flight: reads Heard
abbrev pub HeardBy : List Line → ℕ → Flight → ReplyTo → Type 0
HeardBy [] c f r = ⊥
HeardBy (l ∷ past) c f r = elim l.entry [
  | Heard t g k ↦ ((l.at.node ≡ Client c) × (g ≡ f) × (k ≡ r)) ⊎ HeardBy past c f r
  | _
      ↦ HeardBy past c f r
]

-- it is to what was done for a life of that client, which it names, and that operation, with another boot and the number committed then
abbrev pub Answered : List Line → ℕ → Flight → ReplyTo → Deed → Type 0
Answered past c f r d = record {
  acted : Acted past d;
  who : d.reply.who ≡ r.who;
  client : r.who.client ≡ c;
  is : record d.reply { boot = r.boot; committed = r.committed } ≡ r;
  op : d.op ≡ f.op;
}

answered_now : (head : Head) (past : List Line) (c : ℕ) (f : Flight) (r : ReplyTo) → HeardOk past c f r → HoldsAt head past → (d : Deed)
    × Answered past c f r d
answered_now head past c f r ok h =
    let m = answers head past c f r ok h in (
      m.deed,
      record {
        acted = m.acted;
        who = ap (λ (v : ReplyTo). v.who) (sym m.is);
        client = sym m.to;
        is = sym m.is;
        op =
            sym (done_op head past c f r ok h);
      },
    )

pub heard_answered : (head : Head) (past : List Line) (c : ℕ) (f : Flight) (r : ReplyTo) → GrownOf head past → HeardBy past c f r
    → (d : Deed) × Answered past c f r d
heard_answered head [] c f r g i = absurd i
heard_answered head (l ∷ past) c f r g i = more (by l.at.node l.entry g.0 i (λ j. heard_answered head past c f r g.3 j))
  where
    more : (d : Deed) × Answered past c f r d → (d : Deed) × Answered (l ∷ past) c f r d
    more k = (
      k.0,
      record {
        acted = acted_more l.at l.entry past k.0 k.1.acted;
        who = k.1.who;
        client = k.1.client;
        is = k.1.is;
        op =
            k.1.op;
      },
    )

    by : (node : Node) (e : Entry) → EntryOf head past (turn l.at.stamp node) node e → HeardBy (line (turn l.at.stamp node) e ∷ past) c f r
        → (HeardBy past c f r → (d : Deed) × Answered past c f r d)
        → (d : Deed) × Answered past c f r d
    by (Client b) (Heard t x k) ok (inl e) ih =
        let client : b ≡ c = client_is b c e.0 in
        answered_now head past c f r (subst (λ (v : ℕ). HeardOk past v f r) client
        (subst (λ (v : Flight). HeardOk past b v r) e.1 (subst (λ (v : ReplyTo). HeardOk past b x v) e.2 ok))) (holds_at head past g.3)
    by (Client b) (Heard t x k) ok (inr j) ih = ih j
    by (Target u) (Heard t x k) ok j ih = absurd ok
    by node e ok j ih = ih j

-- ---- over all targets: where facts are from

heard_by_more : (l : Line) (past : List Line) (c : ℕ) (f : Flight) (r : ReplyTo) → HeardBy past c f r → HeardBy (l ∷ past) c f r
heard_by_more l past c f r i = by l.entry
  where
    by : (e : Entry) → HeardBy (line l.at e ∷ past) c f r
    by (Heard t g k) = inr i
    by _ = i

-- in the story of a target
pub heard_by_story : (t : ℕ) (l : Line) (past : List Line) (c : ℕ) (f : Flight) (r : ReplyTo) → HeardBy (only t past) c f r
    → HeardBy (only t (l ∷ past)) c f r
heard_by_story t l past c f r i = cond_both (concerns t l.at.node l.entry) (l ∷ only t past) (only t past)
    (λ (p : List Line). HeardBy p c f r) (λ _. heard_by_more l (only t past) c f r i) (λ _. i)

-- a reply that was just heard
pub now_heard : (past : List Line) (at : At) (t c : ℕ) (f : Flight) (r : ReplyTo) → HeardNow past at t f r → at.node ≡ Client c
    → HeardBy (only t past) c f r
now_heard [] at t c f r h q = absurd h
now_heard (l ∷ past) at t c f r h q = by l.entry h (λ k. now_heard past at t c f r k q)
  where
    by : (e : Entry) → HeardNow (line l.at e ∷ past) at t f r → (HeardNow past at t f r → HeardBy (only t past) c f r)
        → HeardBy (only t (line l.at e ∷ past)) c f r
    by (Heard u g k) h ih =
        let node : l.at.node ≡ Client c = ap (λ (v : At). v.node) h.0 ∙ q in
        subst (λ (b : Bool). HeardBy (if b then line l.at (Heard u g k) ∷ only t past else only t past) c f r)
        (sym (ap (λ (v : Node). concerns t v (Heard u g k)) node ∙ ap (nat_eq t) h.1 ∙ self t)) (inl (node, h.2, h.3))
    by (Hold u lock marked size seen) h ih = heard_by_story t (line l.at (Hold u lock marked size seen)) past c f r (ih h)
    by _ h ih = absurd h

-- a fact that a client knows was taught by a reply that it heard of the metadata target
abbrev pub Source : List Line → ℕ → Fact → Type 0
Source past c f = record {
  flight : Flight;
  reply : ReplyTo;
  heard : HeardBy (only 0 past) c flight reply;
  fact : In f (taught flight.op reply.answer reply.locks);
}

pub facts_heard : (head : Head) (past : List Line) (c : ℕ) (f : Fact) → Grown head past → In f (facts_at c past) → Source past c f
facts_heard head [] c f g i = absurd i
facts_heard head (l ∷ past) c f g i = more (by l.at.node l.entry g.0.ok i (λ j. facts_heard head past c f g.1 j))
  where
    more : Source past c f → Source (l ∷ past) c f
    more s = record { flight = s.flight; reply = s.reply; heard = heard_by_story 0 l past c s.flight s.reply s.heard; fact = s.fact }

    kept : (t : ℕ) (lock : Lock) → In f (without_facts t lock (facts_at c past)) → In f (facts_at c past)
    kept zero lock j = (in_filter (λ (x : Fact). not (x.cookie.0 == lock.cookie.0)) f (facts_at c past) j).0
    kept (suc t) lock j = j

    learned : (b t : ℕ) (o : Op) (a : Answer) (locks : List Lock) → LearnsOk past (turn l.at.stamp (Client b)) t o a locks → c ≡ b
        → In f (taught o a locks) → Source past c f
    learned b t o a locks ok same j =
        record {
          flight = ok.flight;
          reply = ok.reply;
          heard = subst (λ (v : ℕ). HeardBy (only v past) c ok.flight ok.reply) ok.names
              (now_heard past (turn l.at.stamp (Client b)) t c ok.flight ok.reply ok.heard (ap Client (sym same)));
          fact = subst (λ (v : Op). In f (taught v ok.reply.answer ok.reply.locks)) ok.of_op
              (subst (λ (v : Answer). In f (taught o v ok.reply.locks)) ok.of_answer
              (subst (λ (v : List Lock). In f (taught o a v)) ok.of_locks j));
        }

    by : (node : Node) (e : Entry) → EntryOk past (turn l.at.stamp node) node e → In f (facts_at c (line (turn l.at.stamp node) e ∷ past))
        → (In f (facts_at c past) → Source past c f) → Source past c f
    by (Client b) (Learns t o a locks) ok j ih =
        cond_both (nat_eq c b) (taught o a locks ++ facts_at c past) (facts_at c past) (λ (fs : List Fact). In f fs → Source past c f)
        (λ own k. ⊎_elim (λ (m : In f (taught o a locks)). learned b t o a locks ok (eqb-true c b own) m)
        (λ (m : In f (facts_at c past)). ih m) (in_append f (taught o a locks) (facts_at c past) k))
        (λ _ k. ih k) j
    by (Client b) (Drop t lock) ok j ih =
        cond_both (nat_eq c b) (without_facts t lock (facts_at c past)) (facts_at c past) (λ (fs : List Fact). In f fs → Source past c f)
        (λ _ k. ih (kept t lock k)) (λ _ k. ih k) j
    -- a new life knows nothing
    by (Client b) (Life who) ok j ih = cond_both (nat_eq c b) [] (facts_at c past) (λ (fs : List Fact). In f fs → Source past c f)
        (λ _ k. absurd k) (λ _ k. ih k) j
    by (Target u) (Learns t o a locks) ok j ih = absurd ok
    by (Target u) (Drop t lock) ok j ih = absurd ok
    by (Target u) (Life who) ok j ih = absurd ok
    by node e ok j ih = ih j

-- ---- a fact that may be used

pub usable_held : (cookie : Cookie) (held : List HeldLock) → is_usable cookie held ≡ true → (h : HeldLock) × In h held × (h.target.0 ≡ 0)
    × (h.lock.cookie ≡ cookie)
usable_held cookie held e =
    let r = any_true (λ (h : HeldLock). h.target.0 == 0 && h.lock.cookie.0 == cookie.0 && not h.marked) held e in
    let p = and_parts (r.0.target.0 == 0 && r.0.lock.cookie.0 == cookie.0) (not r.0.marked) r.2 in
    let q = and_parts (r.0.target.0 == 0) (r.0.lock.cookie.0 == cookie.0) p.0 in
    (r.0, r.1, eqb-true r.0.target.0 0 q.0, ap (λ (n : ℕ). record { 0 = n }) (eqb-true r.0.lock.cookie.0 cookie.0 q.1))

-- the deed that taught it to the present life, and its lock, which is granted still, unless that life was evicted; it is true of the tree
-- as that life knows it
abbrev pub Standing : Head → List Line → ℕ → Fact → Type 0
Standing head past c f =
    record {
      source : Source past c f;
      deed : Deed;
      answered : Answered (only 0 past) c source.flight source.reply deed;
      whose : deed.reply.who ≡ life_at c past;
      under : Under head.osts (only 0 past) deed f;
      granted : In under.lock (server_of head.osts (only 0 past)).granted ⊎ Evicted (only 0 past) (life_at c past);
      fresh : IsOver (only 0 past) deed under.lock → ⊥;
      tells : Tells (tree_for head.osts (life_at c past) (only 0 past)) (bound_of head.osts (only 0 past)) f;
    }

fact_of : (past : List Line) (c : ℕ) (x : Flight) (r : ReplyTo) (d : Deed) (f : Fact) → Answered past c x r d
    → In f (taught x.op r.answer r.locks) → In f (taught d.op d.reply.answer d.reply.locks)
fact_of past c x r d f k i =
    subst (λ (v : Op). In f (taught v d.reply.answer d.reply.locks)) (sym k.op)
    (subst (λ (v : ReplyTo). In f (taught x.op v.answer v.locks)) (sym k.is) i)

-- the lock on names is held, marked or not
pub held_stands : (head : Head) (past : List Line) (c : ℕ) (f : Fact) → Grown head past → In f (facts_at c past) → (h : HeldLock)
    → In h (held_at c past) → h.target.0 ≡ 0 → h.lock.cookie ≡ f.cookie → Standing head past c f
held_stands head past c f g known h held names same_cookie =
    let story = grown_of head 0 past g in
    let s = facts_heard head past c f g known in
    let k = heard_answered head (only 0 past) c s.flight s.reply story s.heard in
    let d = k.0 in
    let under = taught_at head past g d f (k.1.acted, fact_of (only 0 past) c s.flight s.reply d f k.1 s.fact) in
    let at = holds_at head (only 0 past) story in
    let locks = at.locks in
    let in_story : In h (held_at c (only 0 past)) = held_into c 0 past h names held in
    let holding = locks.held c h in_story in
    let same = locks.once d holding.deed under.lock h.lock (k.1.acted, inl (of_reply d.op d.reply under.lock under.among)) holding.gave
    (under.cookie ∙ sym same_cookie) in
    let life : life_of c (only 0 past) ≡ life_at c past = sym (life_is_of c 0 past) in
    let whose : d.reply.who ≡ life_at c past = ap (λ (v : Deed). v.reply.who) same.0 ∙ holding.who ∙ life in
    let client : d.reply.who.client ≡ c = ap (λ (v : Deed). v.reply.who.client) same.0 ∙ ap (λ (v : Who). v.client) holding.who
    ∙ at.phase.client c in
    record {
      source = s;
      deed = d;
      answered = k.1;
      whose = whose;
      under = under;
      granted = ⊎_elim
          (λ (i : In h.lock (server_of head.osts (only 0 past)).granted). inl
          (subst (λ (v : Lock). In v (server_of head.osts (only 0 past)).granted) (sym same.1) i))
          (λ (i : Evicted (only 0 past) (life_of c (only 0 past))). inr (subst (λ (v : Who). Evicted (only 0 past) v) life i))
          holding.granted;
      fresh = held_now d under.lock c h client in_story (ap (λ (v : Lock). v.cookie) (sym same.1));
      tells = subst (λ (v : Who). Tells (tree_for head.osts v (only 0 past)) (bound_of head.osts (only 0 past)) f) whose
          (tells_for head (only 0 past) at d f under k.1.acted (held_now d under.lock c h client in_story
          (ap (λ (v : Lock). v.cookie) (sym same.1))));
    }
  where
    held_now : (d : Deed) (l : Lock) (b : ℕ) (k : HeldLock) → d.reply.who.client ≡ b → In k (held_at b (only 0 past)) → k.lock.cookie
        ≡ l.cookie → IsOver (only 0 past) d l → ⊥
    held_now d l b k client i e x =
        ⊎_elim (λ (y : Dead (only 0 past) d l). y.1) (λ (y : Lapsed (only 0 past) d l). y.1) x k
        (subst (λ (v : ℕ). In k (held_at v (only 0 past))) (sym client) i) (ap (λ (v : Cookie). v.0) e)

pub fact_stands : (head : Head) (past : List Line) (c : ℕ) (f : Fact) → Grown head past → Usable (notes_at c past) f
    → Standing head past c f
fact_stands head past c f g u = let h = usable_held f.cookie (held_at c past) u.1 in held_stands head past c f g u.0 h.0 h.1 h.2 h.3

-- ---- what is told

-- where the present life wasn't evicted, the lock is granted
pub still_granted : (head : Head) (past : List Line) (c : ℕ) (f : Fact) → (Evicted (only 0 past) (life_at c past) → ⊥)
    → (s : Standing head past c f) → In s.under.lock (server_of head.osts (only 0 past)).granted
still_granted head past c f present s =
    ⊎_elim (λ (i : In s.under.lock (server_of head.osts (only 0 past)).granted). i)
    (λ (i : Evicted (only 0 past) (life_at c past)). absurd (present i)) s.granted

-- a number that was seen in a reply of the metadata target that the present life heard
abbrev pub SawBy : List Line → ℕ → ℕ → Type 0
SawBy past c n = record {
  flight : Flight;
  reply : ReplyTo;
  heard : HeardBy (only 0 past) c flight reply;
  of : reply.who ≡ life_at c past;
  seen : In n reply.seen;
}

-- a fact is true of the tree, and each transaction that stands and wrote what it is on is committed, or was seen
pub stands_tells : (head : Head) (past : List Line) (c : ℕ) (f : Fact) → (Evicted (only 0 past) (life_at c past) → ⊥)
    → Standing head past c f → Tells (server_of head.osts (only 0 past)).tree (bound_of head.osts (only 0 past)) f
stands_tells head past c f present s = (s.under.stands s.fresh (still_granted head past c f present s)).tells

pub stands_saw : (head : Head) (past : List Line) (c : ℕ) (f : Fact) → (Evicted (only 0 past) (life_at c past) → ⊥) → Standing head past c f
    → (p : Part) → p ≡ f.part → (e : Deed) → Acted (only 0 past) e → IsMade e
    → Stands head.osts (only 0 past) e → Apart e.writes p ⊎ ((e.reply.txn.0 ≤ (committed_at 0 past).0) ⊎ SawBy past c e.reply.txn.0)
stands_saw head past c f present s p is e b made stands =
    by (subst (λ (q : Part). Apart e.writes q ⊎ ((e.reply.txn.0 ≤ (server_of head.osts (only 0 past)).committed.0)
    ⊎ In e.reply.txn.0 s.deed.reply.seen)) (sym is)
    ((s.under.stands s.fresh (still_granted head past c f present s)).saw e b made stands))
  where
    by : Apart e.writes p ⊎ ((e.reply.txn.0 ≤ (server_of head.osts (only 0 past)).committed.0) ⊎ In e.reply.txn.0 s.deed.reply.seen)
        → Apart e.writes p ⊎ ((e.reply.txn.0 ≤ (committed_at 0 past).0) ⊎ SawBy past c e.reply.txn.0)
    by (inl q) = inl q
    by (inr (inl le)) = inr (inl (subst (λ (m : TxnOf). e.reply.txn.0 ≤ m.0) (sym (committed_is head.osts 0 past)) le))
    by (inr (inr j)) =
        inr (inr (record {
          flight = s.source.flight;
          reply = s.source.reply;
          heard = s.source.heard;
          of = sym s.answered.who ∙ s.whose;
          seen = subst (λ (ns : List ℕ). In e.reply.txn.0 ns) (ap (λ (v : ReplyTo). v.seen) s.answered.is) j;
        }))

module _ (head : Head) (past : List Line) (g : Grown head past) (c : ℕ) (number : TxnOf) (who : Who) (file : Option HandleFile) (k : Call)
    (o : Op) (a : Answer)
    (known : known_answer (notes_at c past) k ≡ Some a) (becomes : operation_of file k ≡ Some o)
    (present : Evicted (only 0 past) (life_at c past) → ⊥) where
  pub right : Right (tree_at head.osts 0 past) (notes_at c past) head.osts number who o a
  right =
      let v = server_of head.osts (only 0 past) in
      subst (λ (t : Tree). Right t (notes_at c past) head.osts number who o a) (sym (tree_is head.osts 0 past))
      (known_is_right v.tree (bound_of head.osts (only 0 past)) (notes_at c past)
      (λ f u. stands_tells head past c f present (fact_stands head past c f g u))
      (sound_now head (only 0 past) (holds_at head (only 0 past) (grown_of head 0 past g))).one head.osts number who file k o a known
      becomes)

  -- it is what the table answers
  pub known_right : a ≡ answer head.osts (tree_at head.osts 0 past) (record { number = number; who = who; op = o })
  known_right = right.same

  -- each transaction that stands and wrote what it looks at is committed, or was seen
  pub known_saw : (p : Part) → In p (touches head.osts (tree_at head.osts 0 past) (record { number = number; who = who; op = o }))
      → (e : Deed) → Acted (only 0 past) e → IsMade e → Stands head.osts (only 0 past) e
      → Apart e.writes p ⊎ ((e.reply.txn.0 ≤ (committed_at 0 past).0) ⊎ SawBy past c e.reply.txn.0)
  known_saw p i e b made stands = let f = right.looks p i in stands_saw head past c f.0 present (fact_stands head past c f.0 g f.1) p f.2 e
      b made stands
