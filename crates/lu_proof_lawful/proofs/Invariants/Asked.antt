-- What is asked of the metadata target and done by it was asked by a call that began.
use Rattle.std.proofs.Common.{◌≡◌, ℕ, List, [], ◌∷◌, Option, Some, None, ◌⊎◌, inl, inr, ⊎_elim, refl, sym, subst, ap, ◌∙◌, arith}
use Rattle.std.specs.Prelude.{nat_eq, true, ◌&&◌, ◌++◌}
use Rattle.std.proofs.lemmas.Bool.{and_parts, cond_both, eqb-true}
use Rattle.lu_base.specs.declared.ids.Node.{Node}
use Rattle.lu_base.specs.declared.ids.Node.TheVariants.{Client, Target}
use Rattle.lu_base.specs.declared.ids.Who.{Who}
use Rattle.lu_msg.specs.declared.calls.Call.{Call}
use Rattle.lu_msg.specs.declared.calls.Call.TheVariants as call
use Rattle.lu_msg.specs.declared.operations.Op.{Op}
use Rattle.lu_msg.specs.declared.operations.Op.TheVariants as op
use Rattle.lu_spec_client.specs.Known.{Notes}
use Rattle.lu_spec_entries.specs.declared.changes.Flush.{Flush}
use Rattle.lu_spec_entries.specs.declared.changes.Flush.TheVariants.{Cut, Put}
use Rattle.lu_spec_entries.specs.Carried.{Deed, HandleFile, Queued, Flight, Running}
use Rattle.lu_spec_entries.specs.Words.{Entry, Tick, Begin, Life, Queues, Flies, Line, line}
use Rattle.lu_spec_entries.specs.Concerns.{concerns, only}
use Rattle.lu_spec_client.specs.WriteBack.{operation}
use Rattle.lu_proof_lawful.specs.Covered.Calls.{call_at, operation_of}
use Rattle.lu_proof_lawful.specs.Covered.Imports.{rest, queue_at}
use Rattle.lu_proof_lawful.specs.Covered.Known.{notes_at, known_answer}
use Rattle.lu_proof_lawful.specs.Covered.ClientStates.{is_own}
use Rattle.lu_proof_lawful.specs.Covered.Heads.{Head}
use Rattle.lu_proof_lawful.proofs.Preconditions.Guards.{In, NamesAskOk, SizeAskOk, LockAskOk, GetAskOk, QueuesOk, EntryOk}
use Rattle.lu_proof_lawful.proofs.Preconditions.Grown.{Allowed, Grown}
use Rattle.lu_proof_lawful.proofs.Preconditions.Lists.{self, in_append}
use Rattle.lu_proof_lawful.proofs.Preconditions.Parts.{queue_now}
use Rattle.lu_proof_lawful.proofs.Preconditions.ClientLines.{in_rest, asked_names}
use Rattle.lu_proof_lawful.proofs.Invariants.Groups.{turn}
use Rattle.lu_proof_lawful.proofs.Invariants.TargetGroups.{Flew, Acted}
use Rattle.lu_proof_lawful.proofs.Invariants.Lines.{flew_whole}
use Rattle.lu_proof_lawful.proofs.Invariants.All.{holds}
use Rattle.lu_proof_lawful.proofs.Preconditions.Calls.{JustBegan, Began as CallBegan, Touched, Stood, call_cases}
use Rattle.lu_proof_lawful.proofs.Invariants.OnNames.{IsOnNames, names_on}
use Rattle.lu_proof_lawful.proofs.Invariants.Sides.{ActedKind, acted_some, flew_kind, acted_kind}

-- a call began: reads Begin
abbrev pub Began : List Line → Call → Type 0
Began [] k = ⊥
Began (l ∷ past) k = elim l.entry [ Begin slot running ↦ (running.call ≡ k) ⊎ Began past k | _ ↦ Began past k ]

pub began_more : (l : Line) (past : List Line) (k : Call) → Began past k → Began (l ∷ past) k
began_more l past k b = by l.entry
  where
    by : (e : Entry) → Began (line l.at e ∷ past) k
    by (Begin slot running) = inr b
    by _ = b

-- a call that began asks that operation, with the file of its handle
abbrev pub AskedBy : List Line → Op → Type 0
AskedBy past o = (k : Call) × Began past k × (file : Option HandleFile) × (operation_of file k ≡ Some o)

asked_more : (l : Line) (past : List Line) (o : Op) → AskedBy past o → AskedBy (l ∷ past) o
asked_more l past o a = (a.0, began_more l past a.0 a.1, a.2, a.3)

-- ---- calls

-- each call that isn't told began
pub began_call : (head : Head) (past : List Line) → Grown head past → (c slot : ℕ) (r : Running) → call_at c slot past ≡ Some r
    → Began past r.call
began_call head [] g c slot r e = absurd (cc)
began_call head (l ∷ past) g c slot r e =
    ⊎_elim
    (λ (p : call_at c slot past ≡ Some r). began_more l past r.call (began_call head past g.1 c slot r p))
    (λ (p : CallBegan past l.at l.entry c slot r ⊎ (Touched past l.at.node l.entry c slot r ⊎ Stood past l.at c slot r)). ⊎_elim
    (λ (q : CallBegan past l.at l.entry c slot r). now l.entry q.newest)
    (⊎_elim
    (λ (q : Touched past l.at.node l.entry c slot r). was q.before.call (began_call head past g.1 c slot q.before q.call) q.same)
    (λ (q : Stood past l.at c slot r). was q.before.call (began_call head past g.1 c slot q.before q.call) q.same))
    p)
    (call_cases past l.at.stamp l.at.node l.entry g.0.ok c slot r e)
  where
    was : (k : Call) → Began past k → k ≡ r.call → Began (l ∷ past) r.call
    was k b same = subst (λ (v : Call). Began (l ∷ past) v) same (began_more l past k b)

    now : (e : Entry) → JustBegan (line l.at e ∷ past) c slot r → Began (line l.at e ∷ past) r.call
    now (Begin s running) j = inl (ap (λ (v : Running). v.call) j.2)
    now e j = absurd j

-- ---- what is asked of the metadata target and done by it

-- what is queued was asked by a call that began
queued_asked : (head : Head) (past : List Line) → Grown head past → (c : ℕ) (q : Queued) → In q (queue_at c 0 past) → AskedBy past q.op
queued_asked head [] g c q i = absurd i
queued_asked head (l ∷ past) g c q i = asked_more l past q.op (by l.at.node l.entry g.0.ok (queued_asked head past g.1 c q) i)
  where
    asks : (d v : ℕ) (o : Op) (r : Running) (s : ℕ) → call_at d s past ≡ Some r → 0 ≡ v → NamesAskOk past d v r o ⊎ SizeAskOk v r o
        ⊎ LockAskOk v r o ⊎ GetAskOk past d v r o → AskedBy past o
    asks d v o r s is first (inl a) = (r.call, began_call head past g.1 d s r is, r.file, a.becomes)
    asks d v o r s is first (inr (inl a)) = absurd (let high = a.object in omega (arith, first, high))
    asks d v o r s is first (inr (inr (inl a))) = absurd (let high = a.object in omega (arith, first, high))
    asks d v o r s is first (inr (inr (inr a))) = absurd (let high = a.object in omega (arith, first, high))

    queues : (d v : ℕ) (new : Queued) → QueuesOk past d v new → 0 ≡ v → AskedBy past new.op
    queues d v new (inl ok) first = asks d v new.op ok.running ok.slot ok.call first ok.asks
    queues d v new (inr ok) first = absurd (let high = ok.object in omega (arith, first, high))

    by : (node : Node) (e : Entry) → EntryOk past (turn l.at.stamp node) node e → (In q (queue_at c 0 past) → AskedBy past q.op)
        → In q (queue_at c 0 (line (turn l.at.stamp node) e ∷ past)) → AskedBy past q.op
    by (Client d) (Queues v new) ok h =
        cond_both (nat_eq c d && nat_eq 0 v) (queue_at c 0 past ++ new ∷ []) (queue_at c 0 past)
        (λ (qs : List Queued). In q qs → AskedBy past q.op)
        (λ o i. ⊎_elim
        (λ (j : In q (queue_at c 0 past)). h j)
        (λ (j : In q (new ∷ [])). ⊎_elim (λ (w : new ≡ q). subst (λ (x : Queued). AskedBy past x.op) w
        (queues d v new ok (eqb-true 0 v (and_parts (nat_eq c d) (nat_eq 0 v) o).1))) (λ (w : ⊥). absurd w) j)
        (in_append q (queue_at c 0 past) (new ∷ []) i))
        (λ o. h)
    by (Client d) (Flies v f) ok h =
        cond_both (nat_eq c d && nat_eq 0 v) (rest (queue_at c 0 past)) (queue_at c 0 past)
        (λ (qs : List Queued). In q qs → AskedBy past q.op)
        (λ o i. h (in_rest q (queue_at c 0 past) i))
        (λ o. h)
    -- a new life begins with nothing queued
    by (Client d) (Life who) ok h = cond_both (nat_eq c d && true) [] (queue_at c 0 past)
        (λ (qs : List Queued). In q qs → AskedBy past q.op) (λ o i. absurd i) (λ o. h)
    by (Target u) Tick ok h = h
    by node e ok h = h

pub flew_asked : (head : Head) (past : List Line) (who : Who) (f : Flight) → Grown head past → Flew (only 0 past) who f → AskedBy past f.op
flew_asked head [] who f g a = absurd a
flew_asked head (l ∷ past) who f g a =
    asked_more l past f.op
    (cond_both (concerns 0 l.at.node l.entry) (l ∷ only 0 past) (only 0 past) (λ (p : List Line). Flew p who f → AskedBy past f.op)
    (λ o b. by l.at.node l.entry g.0 o b (flew_asked head past who f g.1))
    (λ o b. flew_asked head past who f g.1 b)
    a)
  where
    by : (node : Node) (e : Entry) → Allowed head past (turn l.at.stamp node) e → concerns 0 node e ≡ true
        → Flew (line (turn l.at.stamp node) e ∷ only 0 past) who f
        → (Flew (only 0 past) who f → AskedBy past f.op) → AskedBy past f.op
    by (Target u) (Flies t q) k o a h = absurd k.ok
    by (Client d) (Flies t q) k o a h = ⊎_elim
        (λ (p : (is_own who (only 0 past) (Client d) ≡ true) × (q ≡ f)).
        let ok = k.of 0 o in
        let first = subst (λ (v : List Queued). In ok.front v) (sym (queue_now head d 0 past g.1 ∙ ok.queue)) (inl refl) in
        let same = ap (λ (v : Flight). v.op) (sym ok.is) ∙ ap (λ (v : Flight). v.op) p.1 in
        subst (AskedBy past) same (queued_asked head past g.1 d ok.front first))
        (λ (p : Flew (only 0 past) who f). h p)
        a
    by _ _ k o a h = h a

-- what was done was asked
pub acted_asked : (head : Head) (past : List Line) (d : Deed) → Grown head past → Acted (only 0 past) d → AskedBy past d.op
acted_asked head past d g a =
    let flew = ((holds head past g).at 0).done.flew d a in
    subst (AskedBy past) flew.3 (flew_asked head past d.reply.who flew.0 g flew.1)

-- so it is an operation on names
pub flew_on_names : (head : Head) (past : List Line) (who : Who) (f : Flight) → Grown head past → Flew (only 0 past) who f → IsOnNames f.op
flew_on_names head past who f g a = names_on f.op (asked_names f.op (flew_kind head past 0 who f g a))

pub acted_on_names : (head : Head) (past : List Line) (d : Deed) → Grown head past → Acted (only 0 past) d → IsOnNames d.op
acted_on_names head past d g a = by (acted_kind head past 0 d g a)
  where
    by : ActedKind 0 d → IsOnNames d.op
    by (inl k) = names_on d.op k.1
    by (inr k) = absurd (let none = k.0 in omega (arith, none))

-- ---- a lookup of the root is known, and so it is never asked

root_known : (n : Notes) (file : Option HandleFile) (k : Call) → operation_of file k ≡ Some (op.Lookup []) → known_answer n k ≡ None → ⊥
root_known n file (call.Lookup path) e none =
    let nil : path ≡ [] = cc in
    let root : known_answer n (call.Lookup []) ≡ None = subst (λ (p : List (List ℕ)). known_answer n (call.Lookup p) ≡ None) nil none in
    absurd (cc)
root_known n file (call.Create path None) e none = absurd (cc)
root_known n file (call.Create path (Some stripes)) e none = absurd (cc)
root_known n (Some f) (call.Close h) e none = absurd (cc)
root_known n file k e none = absurd (cc)

queues_other : (past : List Line) (c t : ℕ) (q : Queued) → QueuesOk past c t q → q.op ≡ op.Lookup [] → ⊥
queues_other past c t q (inr ok) is = back ok.change (sym is ∙ ok.of_op)
  where
    back : (change : Flush) → op.Lookup [] ≡ operation ok.holding.lock.resource ok.holding.lock.cookie change → ⊥
    back (Put first bytes) both = absurd (cc)
    back (Cut size) both = absurd (cc)
queues_other past c t q (inl ok) is = by ok.asks
  where
    by : NamesAskOk past c t ok.running q.op ⊎ SizeAskOk t ok.running q.op ⊎ LockAskOk t ok.running q.op ⊎ GetAskOk past c t ok.running q.op
        → ⊥
    by (inl a) = root_known (notes_at c past) ok.running.file ok.running.call (a.becomes ∙ ap (λ (o : Op). Some o) is) a.unknown
    by (inr (inl a)) = let both : op.Lookup [] ≡ op.Size a.wanted.resource = sym is ∙ a.of_op in absurd (cc)
    by (inr (inr (inl a))) = let both : op.Lookup [] ≡ op.Enqueue a.wanted.resource a.wanted.mode a.extent = sym is ∙ a.of_op in absurd (cc)
    by (inr (inr (inr a))) = let both : op.Lookup [] ≡ op.Get a.page.under.want.resource a.page.under.lock.cookie a.page.page = sym is
        ∙ a.of_op in absurd (cc)

queued_other : (head : Head) (past : List Line) → Grown head past → (c t : ℕ) (q : Queued) → In q (queue_at c t past) → q.op ≡ op.Lookup []
    → ⊥
queued_other head [] g c t q i = absurd i
queued_other head (l ∷ past) g c t q i = by l.at.node l.entry g.0.ok (queued_other head past g.1 c t q) i
  where
    by : (node : Node) (e : Entry) → EntryOk past (turn l.at.stamp node) node e → (In q (queue_at c t past) → q.op ≡ op.Lookup [] → ⊥)
        → In q (queue_at c t (line (turn l.at.stamp node) e ∷ past)) → q.op ≡ op.Lookup [] → ⊥
    by (Client d) (Queues v new) ok h =
        cond_both (nat_eq c d && nat_eq t v) (queue_at c t past ++ new ∷ []) (queue_at c t past)
        (λ (qs : List Queued). In q qs → q.op ≡ op.Lookup [] → ⊥)
        (λ o i is. ⊎_elim
        (λ (j : In q (queue_at c t past)). h j is)
        (λ (j : In q (new ∷ [])). ⊎_elim (λ (w : new ≡ q). queues_other past d v new ok (ap (λ (x : Queued). x.op) w ∙ is)) (λ (w : ⊥). w)
        j)
        (in_append q (queue_at c t past) (new ∷ []) i))
        (λ o. h)
    by (Client d) (Flies v f) ok h =
        cond_both (nat_eq c d && nat_eq t v) (rest (queue_at c t past)) (queue_at c t past)
        (λ (qs : List Queued). In q qs → q.op ≡ op.Lookup [] → ⊥)
        (λ o i. h (in_rest q (queue_at c t past) i))
        (λ o. h)
    -- a new life begins with nothing queued
    by (Client d) (Life who) ok h = cond_both (nat_eq c d && true) [] (queue_at c t past)
        (λ (qs : List Queued). In q qs → q.op ≡ op.Lookup [] → ⊥) (λ o i. absurd i) (λ o. h)
    by (Target u) Tick ok h = h
    by node e ok h = h

pub flew_other : (head : Head) (past : List Line) (who : Who) (f : Flight) → Grown head past → Flew past who f → f.op ≡ op.Lookup [] → ⊥
flew_other head [] who f g a = absurd a
flew_other head (l ∷ past) who f g a = by l.at.node l.entry g.0 a (flew_other head past who f g.1)
  where
    by : (node : Node) (e : Entry) → Allowed head past (turn l.at.stamp node) e → Flew (line (turn l.at.stamp node) e ∷ past) who f
        → (Flew past who f → f.op ≡ op.Lookup [] → ⊥) → f.op ≡ op.Lookup [] → ⊥
    by (Target u) (Flies t q) k a h = absurd k.ok
    by (Client d) (Flies t q) k a h = ⊎_elim
        (λ (p : (is_own who past (Client d) ≡ true) × (q ≡ f)) is.
        let ok = k.of t (self t) in
        let first = subst (λ (v : List Queued). In ok.front v) (sym (queue_now head d t past g.1 ∙ ok.queue)) (inl refl) in
        let same = ap (λ (v : Flight). v.op) (sym ok.is) ∙ ap (λ (v : Flight). v.op) p.1 in
        queued_other head past g.1 d t ok.front first (same ∙ is))
        (λ (p : Flew past who f). h p)
        a
    by _ _ k a h = h a

pub acted_other : (head : Head) (past : List Line) (d : Deed) → Grown head past → Acted past d → d.op ≡ op.Lookup [] → ⊥
acted_other head past d g a is =
    let at = acted_some head past d g a in
    let flew = ((holds head past g).at at.0).done.flew d at.1 in
    flew_other head past d.reply.who flew.0 g (flew_whole at.0 past d.reply.who flew.0 flew.1) (flew.3 ∙ is)
