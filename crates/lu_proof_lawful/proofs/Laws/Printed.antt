-- What the notions of the laws are over the printed past of a grown one.
use Rattle.std.proofs.Common.{◌≡◌, ◌⊎◌, ℕ, ◌+◌, Bool, true, false, List, [], ◌∷◌, Option, Some, None, inl, inr, ⊎_elim, refl, sym, subst}
use Rattle.std.proofs.Common.{ap, ◌∙◌, arith}
use Rattle.std.specs.Prelude.{nat_eq, ◌&&◌, ◌||◌, ◌≤◌, if◌then◌else◌, is_some}
use Rattle.std.specs.Option.{option_map}
use Rattle.std.proofs.lemmas.Bool.{and_parts, cond_both, eqb-true, or_right}
use Rattle.std.proofs.lemmas.Bool.Decides.{nat_tests}
use Rattle.lu_base.specs.declared.ids.At.{At}
use Rattle.lu_base.specs.declared.ids.Node.{Node}
use Rattle.lu_base.specs.declared.ids.Stamp.{Stamp}
use Rattle.lu_base.specs.declared.ids.Node.TheVariants.{Client, Target}
use Rattle.lu_base.specs.declared.ids.Who.{Who}
use Rattle.lu_msg.specs.declared.answers.Answer.{Answer}
use Rattle.lu_msg.specs.declared.messages.Message.{Message}
use Rattle.lu_msg.specs.declared.messages.Message.TheVariants as message
use Rattle.lu_msg.specs.declared.messages.Request.{Request as RequestOf}
use Rattle.lu_msg.specs.declared.calls.Call.{Call}
use Rattle.lu_held.specs.declared.names.LockName.{LockName}
use Rattle.lu_trace.specs.declared.entries.Entry.{Entry as PrintedEntry}
use Rattle.lu_trace.specs.declared.entries.Entry.TheVariants as trace
use Rattle.lu_spec_entries.specs.Carried.{Asking, Asked, Answered, Stage, Plain, Bad, Looks, Enqueued, Waits, Came, Forgotten, Gets, Sizes}
use Rattle.lu_spec_entries.specs.Carried.{Work, Running}
use Rattle.lu_spec_entries.specs.Words.{Entry, Begin, Send, Take, Heard, Told, Life, Queues, Stands, Die, Evict, Line, line, is_client}
use Rattle.lu_spec_entries.specs.Words.{same_life}
use Rattle.lu_spec_entries.specs.Concerns.{concerns, only}
use Rattle.lu_spec_entries.specs.Sent.{count_sent, Sent}
use Rattle.lu_spec_entries.specs.Printed.{printed}
use Rattle.lu_spec_target.specs.Lives.{is_life, with_life}
use Rattle.lu_proof_lawful.specs.Covered.Calls.{asks, asks_for, call_at, is_dead, life_at}
use Rattle.lu_proof_lawful.specs.Covered.ClientStates.{life_of, is_own}
use Rattle.lu_proof_lawful.specs.Covered.Heads.{Head}
use Rattle.lu_spec_laws.specs.Words.Pasts.{same_turn, has_died}
use Rattle.lu_spec_laws.specs.Words.Pasts as pasts
use Rattle.lu_spec_laws.specs.Words.Sends.{Sending, sends, sending, goes_to, is_sent_to, with_taken, taken}
use Rattle.lu_spec_laws.specs.Words.Lives.{life, who_is, is_by, is_evicted, is_gone}
use Rattle.lu_spec_laws.specs.Words.Calls.{open_call}
use Rattle.lu_spec_laws.specs.Words.Calls as calls
use Rattle.lu_spec_laws.specs.Words.Requests.{is_of, first_request}
use Rattle.lu_spec_laws.proofs.Tests.{target_is}
use Rattle.lu_proof_lawful.proofs.Preconditions.Guards.{In, Was, Took, ReadsOn, ChangesOn, SizesSoFar, SizesStand, LockStand, StatStand}
use Rattle.lu_proof_lawful.proofs.Preconditions.Guards.{GetStand, FlushStand, LockGranted, LockBrought, MovedStand, StandsOk, TellsOk}
use Rattle.lu_proof_lawful.proofs.Preconditions.Guards.{EntryOk}
use Rattle.lu_proof_lawful.proofs.Preconditions.Calls.{stands_good as good_then}
use Rattle.lu_proof_lawful.proofs.Preconditions.Grown.{Allowed, Grown}
use Rattle.lu_proof_lawful.proofs.Preconditions.Lists.{self, life_is, who}
use Rattle.lu_proof_lawful.proofs.Preconditions.Parts.{life_is_of}
use Rattle.lu_proof_lawful.proofs.Laws.Turns.{same_node_self, same_turn_self}
use Rattle.lu_proof_lawful.proofs.Invariants.Groups.{turn}
use Rattle.lu_proof_lawful.proofs.Preconditions.LifeLists.{any_with}

pub flip : (a b : ℕ) → nat_eq a b ≡ nat_eq b a
flip a b = grind (arith, nat_tests)

pub flip_client : (c : ℕ) (node : Node) → pasts.is_client c node ≡ is_client c node
flip_client c (Client d) = flip d c
flip_client c (Target t) = refl

-- a notion that is the same after each line, by cases on the line
pub sends_is : (past : List Line) → sends (printed past) ≡ count_sent past
sends_is [] = refl
sends_is (l ∷ past) = by l.entry (sends_is past)
  where
    by : (e : Entry) → sends (printed past) ≡ count_sent past → sends (printed (line l.at e ∷ past)) ≡ count_sent (line l.at e ∷ past)
    by (Send to m) h = omega arith
    by _ h = h

-- numbers of messages rise
sent_below : (past : List Line) (n : ℕ) (from to : Node) (m : Message) → Sent past n from to m → n ≤ count_sent past
sent_below [] n from to m s = absurd s
sent_below (l ∷ past) n from to m s = by l.entry (sent_below past n from to m) s
  where
    by : (e : Entry) → (Sent past n from to m → n ≤ count_sent past) → Sent (line l.at e ∷ past) n from to m
        → n ≤ count_sent (line l.at e ∷ past)
    by (Send node k) h s = ⊎_elim
        (λ (p : (n ≡ count_sent past + 1) × (l.at.node ≡ from) × (node ≡ to) × (k ≡ m)). let e = p.0 in omega arith)
        (λ (p : Sent past n from to m). let b = h p in omega arith)
        s
    by _ h s = h s

abbrev on_way : (from to : Node) → Message → Option Sending
on_way from to m = Some (record { from = from; to = to; message = m })

other_number : (a n : ℕ) → n ≤ a → nat_eq (a + 1) n ≡ false
other_number a n le = grind (arith, nat_tests)

-- what was sent stands under its number
pub sending_is : (past : List Line) (n : ℕ) (from to : Node) (m : Message) → Sent past n from to m → sending (printed past) n
    ≡ on_way from to m
sending_is [] n from to m s = absurd s
sending_is (l ∷ past) n from to m s = by l.entry (sending_is past n from to m) s
  where
    by : (e : Entry) → (Sent past n from to m → sending (printed past) n ≡ on_way from to m) → Sent (line l.at e ∷ past) n from to m
        → sending (printed (line l.at e ∷ past)) n ≡ on_way from to m
    by (Send node k) h s = ⊎_elim
        (λ (p : (n ≡ count_sent past + 1) × (l.at.node ≡ from) × (node ≡ to) × (k ≡ m)).
        subst (λ (v : Node). sending (printed (line l.at (Send node k) ∷ past)) n ≡ on_way v to m) p.1
        (subst (λ (v : Node). sending (printed (line l.at (Send node k) ∷ past)) n ≡ on_way l.at.node v m) p.2
        (subst (λ (v : Message). sending (printed (line l.at (Send node k) ∷ past)) n ≡ on_way l.at.node node v) p.3
        (ap (λ (b : Bool). pasts.or_else (if b then on_way l.at.node node k else None) (sending (printed past) n))
        (subst (λ v. nat_eq (count_sent past + 1) v ≡ true) (sym p.0) (self (count_sent past + 1)))))))
        (λ (p : Sent past n from to m). ap (λ (b : Bool). pasts.or_else (if b then on_way l.at.node node k else None)
        (sending (printed past) n)) (other_number (count_sent past) n (sent_below past n from to m p)) ∙ h p)
        s
    by _ h s = h s

pub sent_to : (past : List Line) (n : ℕ) (from to : Node) (m : Message) → Sent past n from to m → is_sent_to (printed past) n to ≡ true
sent_to past n from to m s = ap (goes_to to) (sending_is past n from to m s) ∙ same_node_self to

-- ---- what a turn took

-- the story of one target's is the whole past's
pub took_whole : (t : ℕ) (past : List Line) (at : At) (from : Node) (m : Message) → Took (only t past) at from m → Took past at from m
took_whole t [] at from m k = k
took_whole t (l ∷ past) at from m k = cond_both (concerns t l.at.node l.entry) (l ∷ only t past) (only t past)
    (λ (p : List Line). Took p at from m → Took (l ∷ past) at from m)
    (λ e q. by l.entry (took_whole t past at from m) q)
    (λ e q. more l.entry (took_whole t past at from m q))
    k
  where
    by : (e : Entry) → (Took (only t past) at from m → Took past at from m) → Took (line l.at e ∷ only t past) at from m
        → Took (line l.at e ∷ past) at from m
    by (Take n sender k) h (inl p) = inl p
    by (Take n sender k) h (inr q) = inr (h q)
    by _ h q = h q

    more : (e : Entry) → Took past at from m → Took (line l.at e ∷ past) at from m
    more (Take n sender k) q = inr q
    more _ q = q

-- it is among what the turn took, by the laws
pub took_taken : (head : Head) (past : List Line) (at : At) (from : Node) (m : Message) → Grown head past → Took past at from m
    → In (record { from = from; to = at.node; message = m }) (taken (printed past) at)
took_taken head [] at from m g k = absurd k
took_taken head (l ∷ past) at from m g k = by l.entry g.0 k (took_taken head past at from m g.1)
  where
    S : Sending
    S = record { from = from; to = at.node; message = m }

    old : List Sending
    old = taken (printed past) at

    more : (o : Option Sending) → In S old → In S (with_taken o old)
    more None i = i
    more (Some s) i = inr i

    here : (n : ℕ) (sender : Node) (k : Message) → l.at ≡ at → sending (printed past) n ≡ on_way sender l.at.node k → sender ≡ from → k ≡ m
        → In S (if same_turn l.at at then with_taken (sending (printed past) n) old else old)
    here n sender k e q f r =
        let own : same_turn l.at at ≡ true = subst (λ (v : At). same_turn l.at v ≡ true) e (same_turn_self l.at) in
        let is : sending (printed past) n ≡ Some S = q ∙ ap (λ (v : Node). on_way v l.at.node k) f ∙ ap (λ (v : At). on_way from v.node k) e
        ∙ ap (λ (v : Message). on_way from at.node v) r in
        subst (λ (ss : List Sending). In S ss) (sym (ap (λ (b : Bool). if b then with_taken (sending (printed past) n) old else old) own
        ∙ ap (λ (o : Option Sending). with_taken o old) is)) (inl refl)

    by : (e : Entry) → Allowed head past l.at e → Took (line l.at e ∷ past) at from m → (Took past at from m → In S old)
        → In S (taken (printed (line l.at e ∷ past)) at)
    by (Take n sender k) ok (inl p) h = here n sender k p.0 (sending_is past n sender l.at.node k ok.ok.sent) p.1 p.2
    by (Take n sender k) ok (inr q) h = cond_both (same_turn l.at at) (with_taken (sending (printed past) n) old) old
        (λ (ss : List Sending). In S ss) (λ t. more (sending (printed past) n) (h q)) (λ t. h q)
    by _ ok q h = h q

or_cond : (a b : Bool) → (a || b) ≡ (if a then true else b)
or_cond true b = refl
or_cond false b = refl

pub died_is : (c : ℕ) (past : List Line) → has_died c (printed past) ≡ is_dead c past
died_is c [] = refl
died_is c (l ∷ past) = by l.entry (died_is c past)
  where
    by : (e : Entry) → has_died c (printed past) ≡ is_dead c past → has_died c (printed (line l.at e ∷ past))
        ≡ is_dead c (line l.at e ∷ past)
    by Die h = ap (λ (b : Bool). b || has_died c (printed past)) (flip_client c l.at.node)
        ∙ or_cond (is_client c l.at.node) (has_died c (printed past)) ∙ ap (λ (b : Bool). if is_client c l.at.node then true else b) h
    by _ h = h

-- ---- lives

-- a client's life after the past, by the rows
pub life_now : (c : ℕ) (past : List Line) → life_at c past ≡ life_of c past
life_now c [] = refl
life_now c (l ∷ past) = by l.entry (life_now c past)
  where
    by : (e : Entry) → life_at c past ≡ life_of c past → life_at c (line l.at e ∷ past) ≡ life_of c (line l.at e ∷ past)
    by (Life w) h = ap (λ (v : Who). if is_client c l.at.node then w else v) h
    by _ h = h

-- its number, by the laws
pub life_number : (c : ℕ) (past : List Line) → life c (printed past) ≡ (life_at c past).life
life_number c [] = refl
life_number c (l ∷ past) = by l.entry (life_number c past)
  where
    of : (b : Bool) (w v : Who) (n : ℕ) → n ≡ v.life → (if b then w.life else n) ≡ (if b then w else v).life
    of true w v n h = refl
    of false w v n h = h

    by : (e : Entry) → life c (printed past) ≡ (life_at c past).life → life c (printed (line l.at e ∷ past))
        ≡ (life_at c (line l.at e ∷ past)).life
    by (Life w) h = ap (λ (b : Bool). if b then w.life else life c (printed past)) (flip_client c l.at.node)
        ∙ of (is_client c l.at.node) w (life_at c past) (life c (printed past)) h
    by _ h = h

-- it is of that client
pub its_client : (head : Head) (c : ℕ) (past : List Line) → Grown head past → (life_at c past).client ≡ c
its_client head c [] g = refl
its_client head c (l ∷ past) g = by l.at.node l.entry g.0.ok (λ d. its_client head d past g.1)
  where
    by : (node : Node) (e : Entry) → EntryOk past (turn l.at.stamp node) node e → ((d : ℕ) → (life_at d past).client ≡ d)
        → (life_at c (line (turn l.at.stamp node) e ∷ past)).client ≡ c
    by (Client d) (Life w) ok h = cond_both (nat_eq c d) w (life_at c past) (λ (v : Who). v.client ≡ c)
        (λ t. ap (λ (v : Who). v.client) ok.next ∙ h d ∙ sym (eqb-true c d t)) (λ t. h c)
    by (Target t) (Life w) ok h = absurd ok
    by _ _ ok h = h c

-- the client with its present life, by the laws
pub present_is : (head : Head) (c : ℕ) (past : List Line) → Grown head past → who_is c (printed past) ≡ life_at c past
present_is head c past g = ap (λ (n : ℕ). who c n) (life_number c past)
    ∙ ap (λ (n : ℕ). who n (life_at c past).life) (sym (its_client head c past g))

-- a line after the past, at this node, is that life's
pub own_by : (head : Head) (w : Who) (past : List Line) (node : Node) → Grown head past → is_by w (printed past) node ≡ is_own w past node
own_by head w past (Target t) g = refl
own_by head w past (Client c) g = by (nat_eq c w.client) refl
  where
    v : Who
    v = life_of c past

    client : v.client ≡ c
    client = ap (λ (x : Who). x.client) (sym (life_now c past)) ∙ its_client head c past g

    by : (b : Bool) → nat_eq c w.client ≡ b → (b && nat_eq (life w.client (printed past)) w.life)
        ≡ (nat_eq w.client v.client && nat_eq w.life v.life)
    by true e =
        let same : w.client ≡ c = sym (eqb-true c w.client e) in
        let number : life w.client (printed past) ≡ v.life = ap (λ (n : ℕ). life n (printed past)) same ∙ life_number c past
        ∙ ap (λ (x : Who). x.life) (life_now c past) in
        let here : nat_eq w.client v.client ≡ true = ap (λ (n : ℕ). nat_eq w.client n) client ∙ flip w.client c ∙ e in
        ap (λ (n : ℕ). nat_eq n w.life) number ∙ flip v.life w.life ∙ sym (ap (λ (b : Bool). b && nat_eq w.life v.life) here)
    by false e =
        let here : nat_eq w.client v.client ≡ false = ap (λ (n : ℕ). nat_eq w.client n) client ∙ flip w.client c ∙ e in
        sym (ap (λ (b : Bool). b && nat_eq w.life v.life) here)

-- and so it is in the story of each target
pub own_story : (t : ℕ) (w : Who) (past : List Line) (node : Node) → is_own w past node ≡ is_own w (only t past) node
own_story t w past (Target u) = refl
own_story t w past (Client c) = ap (λ (v : Who). same_life w v) (sym (life_now c past) ∙ life_is_of c t past)

-- ---- evictions

pub flip_life : (a b : Who) → same_life a b ≡ same_life b a
flip_life a b = rw (flip a.client b.client, flip a.life b.life) refl

pub is_life_with : (w o : Who) (lives : List Who) → is_life w (with_life o lives) ≡ (same_life w o || is_life w lives)
is_life_with w o lives = any_with (same_life w) o lives

-- who is gone was evicted by some target
pub gone_evicted : (past : List Line) (w : Who) → is_gone (printed past) w ≡ true → (t : ℕ) × (is_evicted t (printed past) w ≡ true)
gone_evicted [] w e = absurd (cc)
gone_evicted (l ∷ past) w e = by l.at.node l.entry e (gone_evicted past w)
  where
    new : (u : ℕ) (a b : Bool) → (a || b) ≡ true → (b ≡ true → (t : ℕ) × (is_evicted t (printed past) w ≡ true)) → (t : ℕ)
        × (((nat_eq u t && a) || is_evicted t (printed past) w) ≡ true)
    new u true b q h = (u, ap (λ (x : Bool). (x && true) || is_evicted u (printed past) w) (self u))
    new u false b q h = let r = h q in (r.0, or_right (nat_eq u r.0 && false) (is_evicted r.0 (printed past) w) r.1)

    by : (node : Node) (e : Entry) → is_gone (printed (line (turn l.at.stamp node) e ∷ past)) w ≡ true
        → (is_gone (printed past) w ≡ true → (t : ℕ) × (is_evicted t (printed past) w ≡ true))
        → (t : ℕ) × (is_evicted t (printed (line (turn l.at.stamp node) e ∷ past)) w ≡ true)
    by (Client c) (Evict o k) q h = h q
    by (Target u) (Evict o k) q h = new u (same_life o w) (is_gone (printed past) w) q h
    by _ _ q h = h q

pub evicted_gone : (t : ℕ) (past : List Line) (w : Who) → is_evicted t (printed past) w ≡ true → is_gone (printed past) w ≡ true
evicted_gone t [] w e = absurd (cc)
evicted_gone t (l ∷ past) w e = by l.at.node l.entry e (evicted_gone t past w)
  where
    new : (a b c d : Bool) → ((a && b) || c) ≡ true → (c ≡ true → d ≡ true) → (b || d) ≡ true
    new a true c d q h = refl
    new true false c d q h = h q
    new false false c d q h = h q

    by : (node : Node) (e : Entry) → is_evicted t (printed (line (turn l.at.stamp node) e ∷ past)) w ≡ true
        → (is_evicted t (printed past) w ≡ true → is_gone (printed past) w ≡ true)
        → is_gone (printed (line (turn l.at.stamp node) e ∷ past)) w ≡ true
    by (Client c) (Evict o k) q h = h q
    by (Target u) (Evict o k) q h = new (nat_eq u t) (same_life o w) (is_evicted t (printed past) w) (is_gone (printed past) w) q h
    by _ _ q h = h q

-- ---- calls

-- a glimpse that has some sizes isn't on a bad handle
pub far_good : (past : List Line) (at : At) (r : Running) (sizes : List ℕ) → SizesSoFar past at r sizes → r.stage ≡ Bad → ⊥
far_good past at r sizes (inl p) bad = let e : Plain ≡ Bad = sym p.plain ∙ bad in absurd (cc)
far_good past at r sizes (inr (inl p)) bad = let e : Sizes p.work ≡ Bad = sym p.stage ∙ bad in absurd (cc)
far_good past at r sizes (inr (inr (inl p))) bad = ⊎_elim
    (λ q. let e : Sizes p.work ≡ Bad = sym q.0 ∙ bad in absurd (cc))
    (λ (q : r.stage ≡ Looks p.work). let e : Looks p.work ≡ Bad = sym q ∙ bad in absurd (cc))
    p.stage
far_good past at r sizes (inr (inr (inr p))) bad = let e : Came p.work p.lock ≡ Bad = sym p.stage ∙ bad in absurd (cc)

-- nor is one that a message moves
from_good : (past : List Line) (at : At) (c : ℕ) (r : Running) (stage : Stage) → MovedStand past at c r stage → r.stage ≡ Bad → ⊥
from_good past at c r stage (inl p) bad = ⊎_elim
    (λ (q : LockBrought past at r p.work p.lock). let e : Enqueued p.work ≡ Bad = sym q.stage ∙ bad in absurd (cc))
    (λ (q : LockGranted past at r p.work p.lock). let e : Waits p.work q.target q.waiting q.marked ≡ Bad = sym q.stage ∙ bad in absurd (cc))
    p.from
from_good past at c r stage (inr (inl p)) bad = let e : Enqueued p.work ≡ Bad = sym p.before ∙ bad in absurd (cc)
from_good past at c r stage (inr (inr (inl p))) bad = let e : Waits p.work p.target p.lock p.marked ≡ Bad = sym p.before ∙ bad
    in absurd (cc)
from_good past at c r stage (inr (inr (inr (inl p)))) bad = let e : Waits p.work p.target p.lock p.marked ≡ Bad = sym p.before ∙ bad
    in absurd (cc)
from_good past at c r stage (inr (inr (inr (inr p)))) bad = ⊎_elim
    (λ q. let e : Forgotten p.work ≡ Bad = sym q.0 ∙ bad in absurd (cc))
    (λ q. let e : Gets p.work ≡ Bad = sym q.0 ∙ bad in absurd (cc))
    p.from

pub changes_good : (r : Running) (work : Work) → ChangesOn r work → r.stage ≡ Bad → ⊥
changes_good r work (inl p) = p.good
changes_good r work (inr p) = p.good

-- a call that goes on isn't on a bad handle, before nor after
pub stands_good : (past : List Line) (at : At) (c slot : ℕ) (r : Running) (k : StandsOk past at c slot r) → (k.running.stage ≡ Bad → ⊥)
    × (k.stage ≡ Bad → ⊥)
stands_good past at c slot r k = (by k.how, good_then past at c k.running k.stage k.pins k.how)
  where
    by : SizesStand past at k.running k.stage k.pins
        ⊎ LockStand past c k.running k.stage
        ⊎ StatStand past at c k.running k.stage k.pins
        ⊎ GetStand past c k.running k.stage k.pins
        ⊎ FlushStand past c k.running k.stage k.pins
        ⊎ ((k.pins ≡ k.running.pins) × MovedStand past at c k.running k.stage)
        → k.running.stage ≡ Bad → ⊥
    by (inl p) = far_good past at k.running p.sizes p.has.so_far
    by (inr (inl p)) = ⊎_elim (λ (q : ReadsOn k.running p.work). q.read.good) (changes_good k.running p.work) p.does
    by (inr (inr (inl p))) = p.stat.good
    by (inr (inr (inr (inl p)))) = p.does.read.good
    by (inr (inr (inr (inr (inl p))))) = p.good
    by (inr (inr (inr (inr (inr p))))) = from_good past at c k.running k.stage p.1

-- what is told is told of a call
pub told_running : (past : List Line) (at : At) (c slot : ℕ) (turn : At) (answer : Answer) (work : Option Work)
    → TellsOk past at c slot turn answer work → (r : Running) × (call_at c slot past ≡ Some r)
told_running past at c slot turn answer work (inl k) = (k.running, k.call)
told_running past at c slot turn answer work (inr (inl k)) = (k.running, k.call)
told_running past at c slot turn answer work (inr (inr (inl k))) = (k.running, k.call)
told_running past at c slot turn answer work (inr (inr (inr (inl k)))) = (k.running, k.call)
told_running past at c slot turn answer work (inr (inr (inr (inr (inl k))))) = (k.running, k.call)
told_running past at c slot turn answer work (inr (inr (inr (inr (inr (inl k)))))) = (k.running, k.call)
told_running past at c slot turn answer work (inr (inr (inr (inr (inr (inr (inl k))))))) = (k.running, k.call)
told_running past at c slot turn answer work (inr (inr (inr (inr (inr (inr (inr (inl k)))))))) = (k.running, k.call)
told_running past at c slot turn answer work (inr (inr (inr (inr (inr (inr (inr (inr k)))))))) = (k.running, k.call)

-- what holds of each call as it begins, and turns neither on what it asked nor on how far a good one has come, holds of the call in a slot
-- and the one that stands there by the laws
module _ (R : Running → calls.Begun → Type 0) (stays : (asking : Asking) (a : Running) (b : calls.Begun) → R a b
    → R (record a { asking = asking }) b)
    (stands : (stage : Stage) (pins : List LockName) (a : Running) (b : calls.Begun) → (a.stage ≡ Bad → ⊥) → (stage ≡ Bad → ⊥) → R a b
    → R (record a { stage = stage; pins = pins }) b) where
  abbrev pub OfBoth : Option Running → Option calls.Begun → Type 0
  OfBoth None None = Unit {0}
  OfBoth (Some a) (Some b) = R a b
  OfBoth _ _ = ⊥

  same_asks : (asking : Asking) (a : Option Running) (b : Option calls.Begun) → OfBoth a b → OfBoth (asks asking a) b
  same_asks asking None b s = s
  same_asks asking (Some a) None s = s
  same_asks asking (Some a) (Some b) s = stays asking a b s

  same_asks_for : (served : Option ℕ) (slot : ℕ) (asking : Asking) (a : Option Running) (b : Option calls.Begun) → OfBoth a b
      → OfBoth (asks_for served slot asking a) b
  same_asks_for None slot asking a b s = s
  same_asks_for (Some k) slot asking a b s = cond_both (nat_eq k slot) (asks asking a) a (λ (o : Option Running). OfBoth o b)
      (λ t. same_asks asking a b s) (λ t. s)

  same_began : (running : Running) (call : calls.Begun) (a : Option Running) (b : Option calls.Begun) (t u : Bool)
      → (t ≡ true → R running call) → OfBoth a b
      → OfBoth (if t then (if u then Some running else a) else a) (if t && u then Some call else b)
  same_began running call a b true true n s = n refl
  same_began running call a b true false n s = s
  same_began running call a b false u n s = s

  same_told : (a : Option Running) (b : Option calls.Begun) (t u : Bool) → OfBoth a b
      → OfBoth (if t then (if u then None else a) else a) (if t && u then None else b)
  same_told a b true true s = tt
  same_told a b true false s = s
  same_told a b false u s = s

  module _ (head : Head) (c slot : ℕ)
      (begins : (past : List Line) (stamp : Stamp) (s : ℕ) (running : Running) → Grown head past
      → Allowed head past (turn stamp (Client c)) (Begin s running)
      → R running (calls.begun c (printed past) (turn stamp (Client c)) running.call)) where
    pub both_calls : (past : List Line) → Grown head past → OfBoth (call_at c slot past) (open_call c slot (printed past))
    both_calls [] g = tt
    both_calls (l ∷ past) g = by l.at.node l.entry g.0 (both_calls past g.1)
      where
        a : Option Running
        a = call_at c slot past

        b : Option calls.Begun
        b = open_call c slot (printed past)

        by : (node : Node) (e : Entry) → Allowed head past (turn l.at.stamp node) e
            → OfBoth (call_at c slot past) (open_call c slot (printed past))
            → OfBoth (call_at c slot (line (turn l.at.stamp node) e ∷ past))
            (open_call c slot (printed (line (turn l.at.stamp node) e ∷ past)))
        by (Client d) (Begin s running) k h =
            rw (flip d c)
            (same_began running (calls.begun c (printed past) (turn l.at.stamp (Client d)) running.call) (call_at c slot past)
            (open_call c slot (printed past)) (nat_eq c d) (nat_eq s slot)
            (λ t. subst (λ (v : ℕ). Allowed head past (turn l.at.stamp (Client v)) (Begin s running)
            → R running (calls.begun c (printed past) (turn l.at.stamp (Client v)) running.call)) (eqb-true c d t)
            (begins past l.at.stamp s running g.1) k)
            h)
        by (Client d) (Told s at answer work) k h = rw (flip d c)
            (same_told (call_at c slot past) (open_call c slot (printed past)) (nat_eq c d) (nat_eq s slot) h)
        by (Client d) (Queues t q) k h = cond_both (nat_eq c d) (asks_for q.slot slot Asked (call_at c slot past)) (call_at c slot past)
            (λ (o : Option Running). OfBoth o (open_call c slot (printed past)))
            (λ t. same_asks_for q.slot slot Asked (call_at c slot past) (open_call c slot (printed past)) h)
            (λ t. h)
        by (Client d) (Heard t f r) k h = cond_both (nat_eq c d) (asks_for f.slot slot (Answered t r) (call_at c slot past))
            (call_at c slot past) (λ (o : Option Running). OfBoth o (open_call c slot (printed past)))
            (λ u. same_asks_for f.slot slot (Answered t r) (call_at c slot past) (open_call c slot (printed past)) h)
            (λ u. h)
        by (Client d) (Stands s running) k h =
            cond_both (nat_eq c d) (if nat_eq s slot then Some running else call_at c slot past) (call_at c slot past)
            (λ (o : Option Running). OfBoth o (open_call c slot (printed past)))
            (λ t. cond_both (nat_eq s slot) (Some running) (call_at c slot past)
            (λ (o : Option Running). OfBoth o (open_call c slot (printed past)))
            (λ u. stood (open_call c slot (printed past)) (before t u) h) (λ u. h))
            (λ t. h)
          where
            before : nat_eq c d ≡ true → nat_eq s slot ≡ true → call_at c slot past ≡ Some k.ok.running
            before t u = ap (λ (v : ℕ). call_at v slot past) (eqb-true c d t) ∙ ap (λ (v : ℕ). call_at d v past) (sym (eqb-true s slot u))
                ∙ k.ok.call

            stood : (o : Option calls.Begun) → call_at c slot past ≡ Some k.ok.running → OfBoth (call_at c slot past) o
                → OfBoth (Some running) o
            stood None is both = absurd (subst (λ (v : Option Running). OfBoth v None) is both)
            stood (Some b) is both =
                let good = stands_good past (turn l.at.stamp (Client d)) d s running k.ok in
                subst (λ (v : Running). R v b) (sym k.ok.is) (stands k.ok.stage k.ok.pins k.ok.running b good.0 good.1
                (subst (λ (v : Option Running). OfBoth v (Some b)) is both))
        by (Target t) (Begin s running) k h = absurd k.ok
        by (Target t) (Told s at answer work) k h = absurd k.ok
        by (Target t) (Queues u q) k h = absurd k.ok
        by (Target t) (Heard u f r) k h = absurd k.ok
        by (Target t) (Stands s running) k h = absurd k.ok
        by _ _ k h = h

-- the call in a slot is the same
abbrev pub IsSame : Running → calls.Begun → Type 0
IsSame a b = (a.at ≡ b.at) × (a.call ≡ b.call)

abbrev pub SameCall : Option Running → Option calls.Begun → Type 0
SameCall = OfBoth IsSame (λ asking a b s. s) (λ stage pins a b good better s. s)

pub same_call : (head : Head) (c slot : ℕ) (past : List Line) → Grown head past
    → SameCall (call_at c slot past) (open_call c slot (printed past))
same_call head c slot past g = both_calls IsSame (λ asking a b s. s) (λ stage pins a b good better s. s) head c slot
    (λ past stamp s running g k. (ap (λ (r : Running). r.at) k.ok.is, refl)) past g

-- the call alone
call_alone : (c slot : ℕ) (past : pasts.Past) → calls.call_in c slot past ≡ option_map (λ (b : calls.Begun). b.call) (open_call c slot past)
call_alone c slot [] = refl
call_alone c slot (l ∷ past) = by l.entry (call_alone c slot past)
  where
    call_of : Option calls.Begun → Option Call
    call_of o = option_map (λ (b : calls.Begun). b.call) o

    begins : (b : Bool) (new : calls.Begun) (old : Option Call) (was : Option calls.Begun) → old ≡ call_of was
        → (if b then Some new.call else old) ≡ call_of (if b then Some new else was)
    begins true new old was h = refl
    begins false new old was h = h

    tells : (b : Bool) (old : Option Call) (was : Option calls.Begun) → old ≡ call_of was → (if b then None else old)
        ≡ call_of (if b then None else was)
    tells true old was h = refl
    tells false old was h = h

    by : (e : PrintedEntry) → calls.call_in c slot past ≡ call_of (open_call c slot past)
        → calls.call_in c slot (record { at = l.at; entry = e } ∷ past)
        ≡ call_of (open_call c slot (record { at = l.at; entry = e } ∷ past))
    by (trace.Begin other call) h = begins (pasts.is_client c l.at.node && nat_eq other slot) (calls.begun c past l.at call)
        (calls.call_in c slot past) (open_call c slot past) h
    by (trace.Told other at answer) h = tells (pasts.is_client c l.at.node && nat_eq other slot) (calls.call_in c slot past)
        (open_call c slot past) h
    by _ h = h

-- and so it is the one that stands in the slot
pub calls_are : (head : Head) (c slot : ℕ) (past : List Line) → Grown head past → calls.call_in c slot (printed past)
    ≡ option_map (λ (r : Running). r.call) (call_at c slot past)
calls_are head c slot past g = call_alone c slot (printed past)
    ∙ by (call_at c slot past) (open_call c slot (printed past)) (same_call head c slot past g)
  where
    by : (a : Option Running) (b : Option calls.Begun) → SameCall a b → option_map (λ (b : calls.Begun). b.call) b
        ≡ option_map (λ (r : Running). r.call) a
    by None None s = refl
    by (Some a) (Some b) s = ap (λ (v : Call). Some v) (sym s.1)
    by None (Some b) s = absurd s
    by (Some a) None s = absurd s

pub free_is : (head : Head) (c slot : ℕ) (past : List Line) → Grown head past → call_at c slot past ≡ None
    → is_some (calls.call_in c slot (printed past)) ≡ false
free_is head c slot past g free = ap (λ (o : Option Call). is_some o) (call_alone c slot (printed past))
    ∙ by (call_at c slot past) (open_call c slot (printed past)) free (same_call head c slot past g)
  where
    by : (a : Option Running) (b : Option calls.Begun) → a ≡ None → SameCall a b → is_some (option_map (λ (b : calls.Begun). b.call) b)
        ≡ false
    by None None e s = refl
    by None (Some b) e s = absurd s
    by (Some a) b e s = absurd (cc)

pub open_is : (head : Head) (c slot : ℕ) (past : List Line) (running : Running) → Grown head past → call_at c slot past ≡ Some running
    → (b : calls.Begun) × (open_call c slot (printed past) ≡ Some b) × (b.at ≡ running.at) × (b.call ≡ running.call)
open_is head c slot past running g is = by (call_at c slot past) (open_call c slot (printed past)) refl is (same_call head c slot past g)
  where
    by : (a : Option Running) (b : Option calls.Begun) → open_call c slot (printed past) ≡ b → a ≡ Some running → SameCall a b
        → (b : calls.Begun) × (open_call c slot (printed past) ≡ Some b) × (b.at ≡ running.at) × (b.call ≡ running.call)
    by None b q e s = absurd (cc)
    by (Some a) None q e s = absurd s
    by (Some a) (Some b) q e s = let same : a ≡ running = cc in
        (b, q, sym s.0 ∙ ap (λ (v : Running). v.at) same, sym s.1 ∙ ap (λ (v : Running). v.call) same)

pub open_is_some : (head : Head) (c slot : ℕ) (past : List Line) (running : Running) → Grown head past → call_at c slot past ≡ Some running
    → is_some (calls.call_in c slot (printed past)) ≡ true
open_is_some head c slot past running g is = let o = open_is head c slot past running g is
    in ap (λ (v : Option Call). is_some v) (call_alone c slot (printed past))
    ∙ ap (λ (v : Option calls.Begun). is_some (option_map (λ (b : calls.Begun). b.call) v)) o.1

-- ---- requests

abbrev pub IsFirst : List Line → ℕ → Who → ℕ → RequestOf → Type 0
IsFirst past t who x r = (from : Node) × Was past from (Target t) (message.Request r) × (r.who ≡ who) × (r.xid.0 ≡ x)

-- the first request of a number was sent
pub first_sent : (past : List Line) (t : ℕ) (who : Who) (x : ℕ) (r : RequestOf) → first_request (printed past) t who x ≡ Some r
    → IsFirst past t who x r
first_sent [] t who x r e = absurd (cc)
first_sent (l ∷ past) t who x r e = by l.entry (first_sent past t who x r) e
  where
    new : (to : Node) (k : RequestOf) (old : Option RequestOf) (b : Bool) → (is_of t who to k && nat_eq k.xid.0 x) ≡ b
        → (old ≡ Some r → IsFirst past t who x r)
        → pasts.or_else old (if b then Some k else None) ≡ Some r → IsFirst (line l.at (Send to (message.Request k)) ∷ past) t who x r
    new to k (Some o) b is h q = let p = h q in (p.0, inr p.1, p.2, p.3)
    new to k None true is h q =
        let same : k ≡ r = cc in
        let p = and_parts (is_of t who to k) (nat_eq k.xid.0 x) is in
        let o = and_parts (pasts.is_target t to) _ p.0 in (
          l.at.node,
          inl (refl, target_is t to o.0, ap message.Request same),
          ap (λ (v : RequestOf). v.who) (sym same)
              ∙ life_is k.who who o.1,
          ap (λ (v : RequestOf). v.xid.0) (sym same) ∙ eqb-true k.xid.0 x p.1,
        )
    new to k None false is h q = absurd (cc)

    by : (e : Entry) → (first_request (printed past) t who x ≡ Some r → IsFirst past t who x r)
        → first_request (printed (line l.at e ∷ past)) t who x ≡ Some r → IsFirst (line l.at e ∷ past) t who x r
    by (Send to (message.Request k)) h q = new to k (first_request (printed past) t who x) (is_of t who to k && nat_eq k.xid.0 x) refl h q
    by (Send to m) h q = let p = h q in (p.0, inr p.1, p.2, p.3)
    by _ h q = h q

-- what was sent has a first request
pub sent_first : (past : List Line) (t : ℕ) (from : Node) (r : RequestOf) → Was past from (Target t) (message.Request r) → (k : RequestOf)
    × (first_request (printed past) t r.who r.xid.0 ≡ Some k)
sent_first [] t from r s = absurd s
sent_first (l ∷ past) t from r s = by l.entry (sent_first past t from r) s
  where
    or_new : (old : Option RequestOf) (new : RequestOf) → (k : RequestOf) × (pasts.or_else old (Some new) ≡ Some k)
    or_new None new = (new, refl)
    or_new (Some o) new = (o, refl)

    or_old : (old new : Option RequestOf) (k : RequestOf) → old ≡ Some k → (j : RequestOf) × (pasts.or_else old new ≡ Some j)
    or_old None new k e = absurd (cc)
    or_old (Some o) new k e = (o, refl)

    own : is_of t r.who (Target t) r && nat_eq r.xid.0 r.xid.0 ≡ true
    own = rw (self t, self r.who.client, self r.who.life, self r.xid.0) refl

    by : (e : Entry) → (Was past from (Target t) (message.Request r) → (k : RequestOf)
        × (first_request (printed past) t r.who r.xid.0 ≡ Some k)) → Was (line l.at e ∷ past) from (Target t) (message.Request r)
        → (k : RequestOf) × (first_request (printed (line l.at e ∷ past)) t r.who r.xid.0 ≡ Some k)
    by (Send to m) h s = ⊎_elim
        (λ (p : (l.at.node ≡ from) × (to ≡ Target t) × (m ≡ message.Request r)).
        subst (λ (v : Message). (k : RequestOf) × (first_request (printed (line l.at (Send to v) ∷ past)) t r.who r.xid.0 ≡ Some k))
        (sym p.2)
        (subst (λ (v : Node). (k : RequestOf) × (first_request (printed (line l.at (Send v (message.Request r)) ∷ past)) t r.who r.xid.0
        ≡ Some k)) (sym p.1)
        (rw own (or_new (first_request (printed past) t r.who r.xid.0) r))))
        (λ (p : Was past from (Target t) (message.Request r)). let k = h p in old to m k.0 k.1)
        s
      where
        old : (to : Node) (m : Message) (k : RequestOf) → first_request (printed past) t r.who r.xid.0 ≡ Some k → (j : RequestOf)
            × (first_request (printed (line l.at (Send to m) ∷ past)) t r.who r.xid.0 ≡ Some j)
        old to (message.Request q) k e = or_old (first_request (printed past) t r.who r.xid.0) _ k e
        old to m k e = (k, e)
    by _ h s = h s
