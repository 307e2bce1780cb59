-- A call that is told what a reply says is known from then on: what the reply told was learned under its locks since it was heard,
-- and no lock or life was given up since.
use Rattle.std.proofs.Common.{◌≡◌, ℕ, ◌⊎◌, Bool, true, List, [], ◌∷◌, ◌++◌, Option, Some, None, inl, inr, refl, sym, subst, ap, ◌∙◌}
use Rattle.std.specs.Prelude.{nat_eq, if◌then◌else◌}
use Rattle.std.proofs.lemmas.Bool.{cond_both, eqb-true}
use Rattle.lu_base.specs.declared.ids.At.{At}
use Rattle.lu_base.specs.declared.ids.Node.{Node}
use Rattle.lu_base.specs.declared.ids.Node.TheVariants.{Client, Target}
use Rattle.lu_base.specs.declared.ids.Stamp.{Stamp}
use Rattle.lu_base.specs.declared.ids.Who.{Who}
use Rattle.lu_base.specs.declared.locks.Lock.{Lock}
use Rattle.lu_base.specs.declared.locks.Policy.{Policy}
use Rattle.lu_base.specs.declared.locks.Policy.TheVariants.{Bits, Range}
use Rattle.lu_msg.specs.declared.answers.Answer.{Answer}
use Rattle.lu_msg.specs.declared.answers.Answer.TheVariants as told
use Rattle.lu_msg.specs.declared.answers.Errno.{Errno}
use Rattle.lu_msg.specs.declared.calls.Call.{Call}
use Rattle.lu_msg.specs.declared.calls.Call.TheVariants as call
use Rattle.lu_msg.specs.declared.messages.Reply.{Reply as ReplyTo}
use Rattle.lu_msg.specs.declared.operations.Op.{Op}
use Rattle.lu_msg.specs.declared.operations.Op.TheVariants as op
use Rattle.lu_held.specs.declared.locks.Use.{Use}
use Rattle.lu_spec_machine.specs.Laws.{IsReading}
use Rattle.lu_spec_entries.specs.Carried.{Work, Flight, Asking, Answered, Plain, Enqueued, Sizes, Running}
use Rattle.lu_spec_entries.specs.Words.{Entry, Begin, Heard, Hold, Drop, Life, Marks, Told, Queues, Stands, Learns, Line, line, is_client}
use Rattle.lu_spec_entries.specs.Concerns.{only}
use Rattle.lu_spec_entries.specs.Printed.{printed}
use Rattle.lu_spec_client.specs.Advances.{enqueue_of}
use Rattle.lu_spec_client.specs.Caches.{brought, with_brought, held_at}
use Rattle.lu_spec_client.specs.Facts.{Fact, taught, facts_at}
use Rattle.lu_proof_lawful.specs.Covered.Calls.{call_at, life_at, asks, asks_for, becomes, told_as}
use Rattle.lu_proof_lawful.specs.Covered.ClientStates.{flights_of}
use Rattle.lu_proof_lawful.specs.Covered.Imports.{flights_at}
use Rattle.lu_proof_lawful.specs.Covered.Deeds.{asked}
use Rattle.lu_proof_lawful.specs.Covered.Heads.{Head}
use Rattle.lu_spec_laws.specs.Words.Lives.{who_is}
use Rattle.lu_spec_laws.specs.Words.Repeats.{calm}
use Rattle.lu_proof_lawful.proofs.Preconditions.Guards.{In, IsToldAsIs, HeardNow, Learned, ToldOk, EntryOk}
use Rattle.lu_proof_lawful.proofs.Preconditions.Grown.{Allowed, Grown}
use Rattle.lu_proof_lawful.proofs.Preconditions.Only.{grown_of}
use Rattle.lu_proof_lawful.proofs.Preconditions.Lists.{self, in_left}
use Rattle.lu_proof_lawful.proofs.Preconditions.Parts.{life_is_of, flights_is}
use Rattle.lu_proof_lawful.proofs.Preconditions.Endings.{reply_ends_none}
use Rattle.lu_proof_lawful.proofs.Invariants.Groups.{turn, CallOf}
use Rattle.lu_proof_lawful.proofs.Invariants.All.{holds}
use Rattle.lu_proof_lawful.proofs.Invariants.TaughtKnown.{Agrees, AllUsable, Comes, taught_under}
use Rattle.lu_proof_lawful.proofs.Invariants.Comes.{NoRefusal, acted_comes}
use Rattle.lu_proof_lawful.proofs.Invariants.HeldThere.{brought_new}
use Rattle.lu_proof_lawful.proofs.Invariants.ToldFiles.{plain_first}
use Rattle.lu_proof_lawful.proofs.Invariants.Taught.{none_taught}
use Rattle.lu_proof_lawful.proofs.Laws.SilentKnown.{IsKnown, taught_known}
use Rattle.lu_proof_lawful.proofs.Laws.SilentHeld.{Present, Lasts, bare_at, present_bare, held_stays, notes_grow}
use Rattle.lu_proof_lawful.proofs.Laws.SilentCalm.{calm_before, calm_stays}
use Rattle.lu_proof_lawful.proofs.Preconditions.ClientLines.{IsNames, IsAskedOf, asked_names, flights_asked, some_is}
use Rattle.lu_proof_lawful.proofs.Preconditions.Asks.{AsksFor, plain_errand, sizes_errand, locks_errand, stages_errand}

-- what a call asks of names is what it becomes
names_errand : (r : Running) (o : Op) → IsNames o → AsksFor r 0 o → becomes r ≡ Some o
names_errand r o on_names (inr g) = absurd (subst IsNames g.of_op on_names)
names_errand r o on_names (inl e) = by (stages_errand r (record { target = 0; op = o }) e)
  where
    no_names : (u : Use) → IsNames (enqueue_of u) → ⊥
    no_names u = no u.policy
      where
        no : (p : Policy) → IsNames (elim p [ Range extent ↦ op.Enqueue u.resource u.mode extent | Bits bits ↦ op.Size u.resource ]) → ⊥
        no (Range extent) k = k
        no (Bits bits) k = k

    by : (r.stage ≡ Plain) ⊎ ((w : Work) × (r.stage ≡ Sizes w)) ⊎ ((w : Work) × (r.stage ≡ Enqueued w)) → becomes r ≡ Some o
    by (inl plain) = (plain_errand r 0 o plain e).1
    by (inr (inl s)) = let is = (sizes_errand r s.0 0 o s.1 e).of_op in absurd (subst IsNames is on_names)
    by (inr (inr s)) = let f = locks_errand r s.0 0 o s.1 e in absurd (no_names f.wanted (subst IsNames f.of_op on_names))

-- ---- the call that a request serves stands in its slot until it is told

abbrev ServedBy : Op → Option Running → Type 0
ServedBy o v = (r : Running) × ((v ≡ Some r) × (becomes r ≡ Some o))

abbrev Serves : ℕ → ℕ → List Line → Op → Type 0
Serves c slot past o = ServedBy o (call_at c slot past)

abbrev NotTold : Entry → Type 0
NotTold (Told slot named given work) = ⊥
NotTold _ = Unit {0}

asks_serves : (o : Op) (served : Option ℕ) (slot : ℕ) (asking : Asking) (v : Option Running) → ServedBy o v
    → ServedBy o (asks_for served slot asking v)
asks_serves o None slot asking v h = h
asks_serves o (Some s) slot asking v h =
    cond_both (nat_eq s slot) (asks asking v) v (ServedBy o)
    (λ t. (record h.0 { asking = asking }, (ap (asks asking) h.1.0, h.1.1)))
    (λ t. h)

module _ (head : Head) (c slot : ℕ) where
  serves_still : (past : List Line) (l : Line) (o : Op) → Grown head (l ∷ past) → NotTold l.entry → Serves c slot past o
      → Serves c slot (l ∷ past) o
  serves_still past l o g = by l.at.node l.entry g.0.ok
    where
      by : (node : Node) (e : Entry) → EntryOk past (turn l.at.stamp node) node e → NotTold e → Serves c slot past o
          → Serves c slot (line (turn l.at.stamp node) e ∷ past) o
      by (Client d) (Begin s running) ok nt h =
          cond_both (nat_eq c d) (if nat_eq s slot then Some running else call_at c slot past) (call_at c slot past) (ServedBy o)
          (λ t. cond_both (nat_eq s slot) (Some running) (call_at c slot past) (ServedBy o)
          (λ u. let free : call_at c slot past ≡ None = subst (λ (v : ℕ). call_at v slot past ≡ None) (sym (eqb-true c d t))
          (subst (λ (v : ℕ). call_at d v past ≡ None) (eqb-true s slot u) ok.free) in
          let is = h.1.0 in absurd (cc))
          (λ u. h))
          (λ t. h)
      by (Client d) (Queues t q) ok nt h = cond_both (nat_eq c d) (asks_for q.slot slot _ (call_at c slot past)) (call_at c slot past)
          (ServedBy o) (λ b. asks_serves o q.slot slot _ (call_at c slot past) h) (λ b. h)
      by (Client d) (Heard t f r) ok nt h = cond_both (nat_eq c d) (asks_for f.slot slot _ (call_at c slot past)) (call_at c slot past)
          (ServedBy o) (λ b. asks_serves o f.slot slot _ (call_at c slot past) h) (λ b. h)
      by (Client d) (Told s named given work) ok nt h = absurd nt
      by (Client d) (Stands s running) ok nt h =
          cond_both (nat_eq c d) (if nat_eq s slot then Some running else call_at c slot past) (call_at c slot past) (ServedBy o)
          (λ t. cond_both (nat_eq s slot) (Some running) (call_at c slot past) (ServedBy o)
          (λ u. (running, (refl, ap becomes ok.is ∙ ap becomes (one_running ok.running h.0 (before t u) h.1.0) ∙ h.1.1))) (λ u. h))
          (λ t. h)
        where
          before : nat_eq c d ≡ true → nat_eq s slot ≡ true → call_at c slot past ≡ Some ok.running
          before t u = ap (λ (v : ℕ). call_at v slot past) (eqb-true c d t) ∙ ap (λ (v : ℕ). call_at d v past) (sym (eqb-true s slot u))
              ∙ ok.call

          one_running : (q r : Running) → call_at c slot past ≡ Some q → call_at c slot past ≡ Some r → q ≡ r
          one_running q r e f = some_is q r (sym e ∙ f)
      by (Target t) (Begin s running) ok nt h = absurd ok
      by (Target t) (Told s named given work) ok nt h = absurd ok
      by (Target t) (Queues u q) ok nt h = absurd ok
      by (Target t) (Heard u f r) ok nt h = absurd ok
      by (Target t) (Stands s running) ok nt h = absurd ok
      by _ _ ok nt h = h

  -- ---- a reply that is heard: its request served the call, and its locks are held

  module _ (at : At) (own : at.node ≡ Client c) (f : Flight) (r : ReplyTo) (serves : f.slot ≡ Some slot) where
    abbrev AllHeld : List Line → Type 0
    AllHeld past = (l : Lock) → In l r.locks → Present 0 l.cookie.0 (held_at c past)

    client_is : (d : ℕ) (here : At) → here.node ≡ Client d → here ≡ at → c ≡ d
    client_is d here is e = let same : Client c ≡ Client d = sym own ∙ ap (λ (v : At). v.node) (sym e) ∙ is in cc

    heard_serves : (past : List Line) (stamp : Stamp) (d u : ℕ) (g : Flight) (k : ReplyTo) → u ≡ 0
        → Allowed head past (turn stamp (Client d)) (Heard u g k) → Grown head past → c ≡ d → g ≡ f
        → Serves c slot (line (turn stamp (Client d)) (Heard u g k) ∷ past) f.op
    heard_serves past stamp d u g k first a grown same is =
        let ok = a.of u (self u) in
        let flying : In g (flights_of (life_at d past) (only u past)) =
        subst (λ (v : Who). In g (flights_of v (only u past))) (sym (life_is_of d u past)) ok.flying in
        let flies : In g (flights_at d u past) = subst (λ (v : List Flight). In g v) (sym (flights_is head d u past grown)) flying in
        let call = (holds head past grown).asks.fly_calls d u g
        (reply_ends_none head past (turn stamp (Client d)) (Target u) k d grown a.ok.1) flies in
        let of_slot : CallOf past d 0 (Some slot) f.op =
        subst (λ (v : ℕ). CallOf past d v (Some slot) f.op) first
        (subst (λ (v : Flight). CallOf past d u (Some slot) v.op) is
        (subst (λ (v : Option ℕ). CallOf past d u v g.op) (ap (λ (v : Flight). v.slot) is ∙ serves) call))
        in
        let on_names : IsNames f.op = asked_names f.op (subst (λ (v : ℕ). IsAskedOf v f.op) first
        (subst (λ (v : Flight). IsAskedOf u v.op) is (flights_asked head d u past grown g flies))) in
        cond_both (nat_eq c d) (asks_for g.slot slot (Answered u k) (call_at c slot past)) (call_at c slot past) (ServedBy f.op)
        (λ t. asks_serves f.op g.slot slot (Answered u k) (call_at c slot past) (served on_names of_slot))
        (λ t. served on_names of_slot)
      where
        served : IsNames f.op → CallOf past d 0 (Some slot) f.op → Serves c slot past f.op
        served on_names x = subst (λ (v : ℕ). Serves v slot past f.op) (sym same) (x.0, (x.1, names_errand x.0 f.op on_names x.3))

    -- heard, and then nothing but locks shown
    heard_now : (past : List Line) → Grown head past → HeardNow past at 0 f r → Serves c slot past f.op × AllHeld past
    heard_now [] grown h = absurd h
    heard_now (l ∷ past) grown h = by l.at.node l.entry grown.0 h (heard_now past grown.1)
      where
        by : (node : Node) (e : Entry) → Allowed head past (turn l.at.stamp node) e
            → HeardNow (line (turn l.at.stamp node) e ∷ past) at 0 f r → (HeardNow past at 0 f r → Serves c slot past f.op × AllHeld past)
            → Serves c slot (line (turn l.at.stamp node) e ∷ past) f.op × AllHeld (line (turn l.at.stamp node) e ∷ past)
        by (Client d) (Heard u g k) a h ih =
            let same = client_is d (turn l.at.stamp (Client d)) refl h.0 in (
              heard_serves past l.at.stamp d u g k h.1 a grown.1 same h.2,
              λ x i. subst (λ (b : Bool). Present 0 x.cookie.0 (if b then with_brought u (brought g.op k) (held_at c past)
                  else held_at c past))
                  (sym (ap (λ (v : ℕ). nat_eq c v) (sym same) ∙ self c))
                  (brought_new Lasts (λ v m. inl refl) 0 u x (brought g.op k) (held_at c past) h.1
                  (in_left x k.locks _ (subst (λ (v : ReplyTo). In x v.locks) (sym h.3) i))),
            )
        by (Client d) (Hold u x marked size seen) a h ih =
            let past_h = ih h in
            (past_h.0, λ y i. held_stays c past l.at.stamp y.cookie.0 (Client d) (Hold u x marked size seen) a.ok (refl, tt) (past_h.1 y i))
        by (Target u) (Heard v g k) a h ih = absurd a.ok
        by (Target u) (Hold v x marked size seen) a h ih = absurd a.ok
        by _ _ a h ih = absurd h

    -- ---- what it told is known since, where no lock or life was given up

    all_usable : (past : List Line) (o : Op) (a : Answer) → ((x : Fact) → In x (taught o a r.locks) → In x (facts_at c past)) → AllHeld past
        → AllUsable (bare_at c past) (taught o a r.locks)
    all_usable past o a known held x i =
        let l = taught_under o a r.locks x i in
        (known x i, present_bare x.cookie (held_at c past) (subst (λ (v : ℕ). Present 0 v (held_at c past)) (sym l.1.1) (held l.0 l.1.0)))

    -- a call stands calm in the slot
    abbrev IsCalm : List Line → Type 0
    IsCalm past = (x : ℕ × Call) × (In x (calm (who_is c (printed past)) (printed past)) × (x.0 ≡ slot))

    abbrev Knows : List Line → Type 0
    Knows past = AllUsable (bare_at c past) (taught f.op r.answer r.locks)

    learned_still : (l : Line) (past : List Line) → Grown head (l ∷ past) → NotTold l.entry → Serves c slot past f.op
        × (IsCalm past → Knows past) → Serves c slot (l ∷ past) f.op × (IsCalm (l ∷ past) → Knows (l ∷ past))
    learned_still l past grown nt h = (
      serves_still past l f.op grown nt h.0,
      λ calm_now x i.
          let before = calm_before head c slot h.0.0 l past grown h.0.1.0 calm_now.0 calm_now.1.1 calm_now.1.0 in
          notes_grow c past l.at.stamp l.at.node l.entry grown.0.ok (calm_stays head c l past grown calm_now.0 calm_now.1.0) x
          (h.1 (calm_now.0, (before, calm_now.1.1)) x i),
    )

    learned_now : (past : List Line) → Grown head past → Learned past at 0 f r → Serves c slot past f.op × (IsCalm past → Knows past)
    learned_now [] grown h = absurd h
    learned_now (l ∷ past) grown h = by l.at.node l.entry grown h (learned_now past grown.1)
      where
        by : (node : Node) (e : Entry) → Grown head (line (turn l.at.stamp node) e ∷ past)
            → Learned (line (turn l.at.stamp node) e ∷ past) at 0 f r
            → (Learned past at 0 f r → Serves c slot past f.op × (IsCalm past → Knows past))
            → Serves c slot (line (turn l.at.stamp node) e ∷ past) f.op
            × (IsCalm (line (turn l.at.stamp node) e ∷ past) → Knows (line (turn l.at.stamp node) e ∷ past))
        by (Client d) (Heard u g k) grown h ih =
            let same = client_is d (turn l.at.stamp (Client d)) refl h.0 in (
              heard_serves past l.at.stamp d u g k h.1 grown.0 grown.1 same h.2,
              λ calm_now x i. absurd (none_taught f.op r.answer x (subst (λ (v : List Lock). In x (taught f.op r.answer v)) h.4 i)),
            )
        by (Client d) (Learns u o a locks) grown h ih =
            let same = client_is d (turn l.at.stamp (Client d)) refl h.0 in
            let now = heard_now past grown.1 h.4 in
            let held : AllHeld (line (turn l.at.stamp (Client d)) (Learns u o a locks) ∷ past) = now.1 in
            let own : is_client c (Client d) ≡ true = ap (λ (v : ℕ). nat_eq c v) (sym same) ∙ self c in
            let is : taught f.op r.answer r.locks ≡ taught o a locks = ap (λ (v : Op). taught v r.answer r.locks) (sym h.1)
            ∙ ap (λ (v : Answer). taught o v r.locks) (sym h.2) ∙ ap (λ (v : List Lock). taught o a v) (sym h.3) in (
              now.0,
              λ calm_now. all_usable (line (turn l.at.stamp (Client d)) (Learns u o a locks) ∷ past) f.op r.answer
                  (λ x i. subst (λ (b : Bool). In x (if b then taught o a locks ++ facts_at c past else facts_at c past)) (sym own)
                  (in_left x (taught o a locks) (facts_at c past) (subst (λ (v : List Fact). In x v) is i)))
                  held,
            )
        by (Target u) (Heard v g k) grown h ih = absurd grown.0.ok
        by (Target u) (Learns v o a locks) grown h ih = absurd grown.0.ok
        by (Client d) (Told s named given work) grown h ih = absurd h
        by (Target u) (Told s named given work) grown h ih = absurd h
        by node (Marks name) grown h ih = absurd h
        by node (Drop u lock) grown h ih = absurd h
        by node (Life who) grown h ih = absurd h
        by node e grown h ih = learned_still (line (turn l.at.stamp node) e) past grown tt (ih h)

-- ---- a call that is told by a reply is known

-- a refusal is told as it is
refused_as : (k : Call) (e : Errno) → told_as k (told.Refused e) ≡ told.Refused e
refused_as (call.Open h path) e = refl
refused_as _ e = refl

pub told_is_known : (head : Head) (c slot : ℕ) (past : List Line) (at : At) (named : At) (given : Answer) (work : Option Work)
    → Grown head past → Agrees (bare_at c past) → at.node ≡ Client c
    → (ok : ToldOk past at c slot named given work) → NoRefusal given
    → (x : ℕ × Call) → In x (calm (who_is c (printed past)) (printed past)) → x.0 ≡ slot → IsKnown (bare_at c past) ok.running.call
told_is_known head c slot past at named given work g agrees own ok fine x i is =
    let replied = (holds head past g).replies c slot ok.target ok.running ok.reply ok.call ok.answered in
    let first = plain_first ok.running ok.target replied.deed.op replied.op ok.good in
    let learned = learned_now head c slot at own ok.flight ok.reply ok.serves past g
    (subst (λ (t : ℕ). Learned past at t ok.flight ok.reply) first.0 ok.learned) in
    let same : learned.0.0 ≡ ok.running = some_is learned.0.0 ok.running (sym learned.0.1.0 ∙ ok.call) in
    let asked : becomes ok.running ≡ Some ok.flight.op = ap becomes (sym same) ∙ learned.0.1.1 in
    let asked_for : replied.deed.op ≡ ok.flight.op = one_op replied.deed.op ok.flight.op (becomes ok.running) first.1 asked in
    let comes = acted_comes head (only ok.target past) replied.deed (grown_of head ok.target past g) replied.acted in
    let answered : replied.deed.reply.answer ≡ ok.reply.answer = ap (λ (v : ReplyTo). v.answer) replied.is in
    let locked : replied.deed.reply.locks ≡ ok.reply.locks = ap (λ (v : ReplyTo). v.locks) replied.is in
    let fine_reply : NoRefusal ok.reply.answer = λ e q. fine e (ok.of_answer ∙ ap (λ (v : Answer). told_as ok.running.call v) q
    ∙ refused_as ok.running.call e) in
    let comes_now : IsReading ok.flight.op → NoRefusal ok.reply.answer → Comes ok.flight.op ok.reply.answer ok.reply.locks =
    subst (λ (v : Op). IsReading v → NoRefusal ok.reply.answer → Comes v ok.reply.answer ok.reply.locks) asked_for
    (subst (λ (v : Answer). IsReading replied.deed.op → NoRefusal v → Comes replied.deed.op v ok.reply.locks) answered
    (subst (λ (v : List Lock). IsReading replied.deed.op → NoRefusal replied.deed.reply.answer
    → Comes replied.deed.op replied.deed.reply.answer v) locked comes)) in
    taught_known (bare_at c past) agrees ok.running.file ok.running.call ok.flight.op asked ok.reply.answer ok.reply.locks
    (λ reads. comes_now reads fine_reply)
    (subst (λ (v : Answer). IsToldAsIs ok.running.call v) ok.of_answer ok.as_is)
    (learned.1 (x, (i, is)))
  where
    one_op : (a b : Op) (v : Option Op) → v ≡ Some a → v ≡ Some b → a ≡ b
    one_op a b v e f = cc
