-- Notices that a life is over: what a turn took is among what the laws say that it took, and a present life that is told so was
-- evicted by the target that tells it.
use Rattle.std.proofs.Common.{◌≡◌, ℕ, ◌+◌, Bool, true, List, [], ◌∷◌, ◌≤◌, Option, Some, None, ⊎_elim, refl, sym, subst, ap, ◌∙◌, arith}
use Rattle.std.specs.Prelude.{nat_eq}
use Rattle.std.specs.List.{list_any}
use Rattle.std.proofs.lemmas.Bool.{cond_both, cond-true, eqb-true}
use Rattle.lu_base.specs.declared.ids.At.{At}
use Rattle.lu_base.specs.declared.ids.Node.{Node}
use Rattle.lu_base.specs.declared.ids.Node.TheVariants.{Client, Target}
use Rattle.lu_base.specs.declared.ids.Who.{Who}
use Rattle.lu_msg.specs.declared.messages.Message.{Message}
use Rattle.lu_msg.specs.declared.messages.Message.TheVariants as message
use Rattle.lu_spec_entries.specs.Words.{Entry, Take, Evict, Life, Line, line, is_target}
use Rattle.lu_spec_entries.specs.Concerns.{concerns, only}
use Rattle.lu_spec_entries.specs.Printed.{printed}
use Rattle.lu_proof_lawful.specs.Covered.Calls.{life_at}
use Rattle.lu_proof_lawful.specs.Covered.ClientStates.{life_of}
use Rattle.lu_proof_lawful.specs.Covered.Heads.{Head}
use Rattle.lu_spec_laws.specs.Words.Lives.{is_evicted}
use Rattle.lu_spec_laws.specs.Words.Pasts.{same_turn}
use Rattle.lu_spec_laws.specs.Words.Sends.{Sending, sending, with_taken, taken}
use Rattle.lu_spec_laws.specs.Laws.Acts.{is_notice, took_notice}
use Rattle.lu_spec_laws.proofs.Tests.{either_left, either_right}
use Rattle.lu_proof_lawful.proofs.Preconditions.Guards.{Was, TookNow, Took, Noticed}
use Rattle.lu_proof_lawful.proofs.Preconditions.StoryGuards.{Newer}
use Rattle.lu_proof_lawful.proofs.Preconditions.Grown.{Allowed, Grown}
use Rattle.lu_proof_lawful.proofs.Preconditions.Lists.{self, life_self}
use Rattle.lu_proof_lawful.proofs.Preconditions.Only.{sent_was, was_only, was_more}
use Rattle.lu_proof_lawful.proofs.Preconditions.Parts.{life_is_of}
use Rattle.lu_proof_lawful.proofs.Invariants.Groups.{turn, HoldsAt}
use Rattle.lu_proof_lawful.proofs.Invariants.TargetGroups.{Evicted}
use Rattle.lu_proof_lawful.proofs.Invariants.All.{holds}
use Rattle.lu_proof_lawful.proofs.Laws.Turns.{same_turn_self}
use Rattle.lu_proof_lawful.proofs.Laws.Printed.{sending_is}
use Rattle.lu_proof_lawful.proofs.Laws.CloseLines.{nothing_left}
use Rattle.lu_proof_lawful.proofs.Laws.CloseSlots.{evicted_now}

abbrev pub on_way : (from to : Node) → Message → Sending
on_way from to m = record { from = from; to = to; message = m }

-- ---- what a turn took

-- the message that the newest line took
pub takes_it : (head : Head) (past : List Line) (at : At) (from : Node) (m : Message) → Grown head past → TookNow past at from m
    → (rest : List Sending) × (taken (printed past) at ≡ on_way from at.node m ∷ rest)
takes_it head [] at from m g t = absurd t
takes_it head (l ∷ past) at from m g t = by l.entry g.0 t
  where
    by : (e : Entry) → Allowed head past l.at e → TookNow (line l.at e ∷ past) at from m → (rest : List Sending)
        × (taken (printed (line l.at e ∷ past)) at ≡ on_way from at.node m ∷ rest)
    by (Take n sender msg) k t =
        let now : same_turn l.at at ≡ true = subst (λ (v : At). same_turn l.at v ≡ true) t.0 (same_turn_self l.at) in
        let is = sending_is past n sender l.at.node msg k.ok.sent in (
          taken (printed past) at,
          cond-true (same_turn l.at at) (with_taken (sending (printed past) n) (taken (printed past) at)) (taken (printed past) at) now
              ∙ ap (λ (o : Option Sending). with_taken o (taken (printed past) at)) is
              ∙ ap (λ (v : Node). taking v l.at.node msg) t.1
              ∙ ap (λ (v : At). taking from v.node msg) t.0
              ∙ ap (λ (v : Message). taking from at.node v) t.2,
        )
      where
        taking : (from to : Node) → Message → List Sending
        taking from to m = record { from = from; to = to; message = m } ∷ taken (printed past) at
    by _ k t = absurd t

-- what it took passes a test that the message passes
pub took_any : (head : Head) (past : List Line) (at : At) (from : Node) (m : Message) (p : Sending → Bool) → Grown head past
    → Took past at from m → p (on_way from at.node m) ≡ true → list_any p (taken (printed past) at) ≡ true
took_any head [] at from m p g t is = absurd t
took_any head (l ∷ past) at from m p g t is = by l.entry g.0 t (λ k. took_any head past at from m p g.1 k is)
  where
    more : (o : Option Sending) → list_any p (taken (printed past) at) ≡ true → list_any p (with_taken o (taken (printed past) at)) ≡ true
    more None h = h
    more (Some s) h = either_right (p s) h

    by : (e : Entry) → Allowed head past l.at e → Took (line l.at e ∷ past) at from m
        → (Took past at from m → list_any p (taken (printed past) at) ≡ true) → list_any p (taken (printed (line l.at e ∷ past)) at) ≡ true
    by (Take n sender msg) k t h = ⊎_elim
        (λ (q : (l.at ≡ at) × (sender ≡ from) × (msg ≡ m)).
        let now : same_turn l.at at ≡ true = subst (λ (v : At). same_turn l.at v ≡ true) q.0 (same_turn_self l.at) in
        let here : p (on_way sender l.at.node msg) ≡ true =
        ap (λ (v : Node). p (on_way v l.at.node msg)) q.1 ∙ ap (λ (v : At). p (on_way from v.node msg)) q.0
        ∙ ap (λ (v : Message). p (on_way from at.node v)) q.2 ∙ is
        in
        subst (λ (v : List Sending). list_any p v ≡ true)
        (sym (cond-true (same_turn l.at at) (with_taken (sending (printed past) n) (taken (printed past) at)) (taken (printed past) at) now
        ∙ ap (λ (o : Option Sending). with_taken o (taken (printed past) at)) (sending_is past n sender l.at.node msg k.ok.sent)))
        (either_left (list_any p (taken (printed past) at)) here))
        (λ (q : Took past at from m).
        cond_both (same_turn l.at at) (with_taken (sending (printed past) n) (taken (printed past) at)) (taken (printed past) at)
        (λ (v : List Sending). list_any p v ≡ true) (λ b. more (sending (printed past) n) (h q)) (λ b. h q))
        t
    by _ k t h = h t

-- what it took was sent to it
pub took_was : (head : Head) (past : List Line) (at : At) (from : Node) (m : Message) → Grown head past → Took past at from m
    → Was past from at.node m
took_was head [] at from m g t = absurd t
took_was head (l ∷ past) at from m g t = was_more l past from at.node m (by l.entry g.0 t (λ k. took_was head past at from m g.1 k))
  where
    by : (e : Entry) → Allowed head past l.at e → Took (line l.at e ∷ past) at from m → (Took past at from m → Was past from at.node m)
        → Was past from at.node m
    by (Take n sender msg) k t h = ⊎_elim
        (λ (q : (l.at ≡ at) × (sender ≡ from) × (msg ≡ m)).
        subst (λ (v : Node). Was past v at.node m) q.1 (subst (λ (v : At). Was past sender v.node m) q.0
        (subst (λ (v : Message). Was past sender l.at.node v) q.2 (sent_was past n sender l.at.node msg k.ok.sent))))
        h
        t
    by _ k t h = h t

-- ---- notices

-- a life that was told that it is over, and isn't older than its client's present one, was evicted
told_over : (head : Head) (t c : ℕ) (past : List Line) (who : Who) (boot : ℕ) → Grown head past → (life_at c past).life ≤ who.life
    → Was past (Target t) (Client c) (message.Evicted who boot) → Evicted (only t past) who
told_over head t c past who boot g up w = ⊎_elim (λ (e : Evicted story who). e)
    (λ (newer : Newer head.clients story who). absurd (too_new newer)) (h.lives.over (Target t) (Client c) who boot was)
  where
    story : List Line
    story = only t past

    h : HoldsAt head story
    h = (holds head past g).at t

    was : Was story (Target t) (Client c) (message.Evicted who boot)
    was = was_only t past (Target t) (Client c) (message.Evicted who boot) (self t) w

    too_new : Newer head.clients story who → ⊥
    too_new newer =
        let client : newer.life.client ≡ c = newer.client ∙ sym (h.done.sent (Target t) (Client c) (message.Evicted who boot) was) in
        let low = subst (λ (v : ℕ). newer.life.life ≤ (life_of v story).life) client (h.lives.low newer.life newer.had) in
        let same : (life_at c past).life ≡ (life_of c story).life = ap (λ (v : Who). v.life) (life_is_of c t past) in
        let less = newer.newer in
        omega (arith, low, same, less, up)

-- the target that tells a client that its life is over evicted it by a line before the client takes that
pub notice_evicted : (head : Head) (past : List Line) (at : At) (t c : ℕ) (who : Who) (boot : ℕ) → Grown head past → at.node ≡ Client c
    → (life_at c past).life ≤ who.life → Took past at (Target t) (message.Evicted who boot) → is_evicted t (printed past) who ≡ true
notice_evicted head [] at t c who boot g node up took = absurd took
notice_evicted head (l ∷ past) at t c who boot g node up took =
    later (by l.at.node l.entry g.0 up took (λ q k. notice_evicted head past at t c who boot g.1 node q k))
  where
    -- the law reads the evictions so far
    later : is_evicted t (printed past) who ≡ true → is_evicted t (printed (l ∷ past)) who ≡ true
    later e = more l.entry
      where
        more : (x : Entry) → is_evicted t (printed (line l.at x ∷ past)) who ≡ true
        more (Evict o k) = either_right _ e
        more _ = e

    by : (n : Node) (e : Entry) → Allowed head past (turn l.at.stamp n) e → (life_at c (line (turn l.at.stamp n) e ∷ past)).life ≤ who.life
        → Took (line (turn l.at.stamp n) e ∷ past) at (Target t) (message.Evicted who boot)
        → ((life_at c past).life ≤ who.life → Took past at (Target t) (message.Evicted who boot) → is_evicted t (printed past) who ≡ true)
        → is_evicted t (printed past) who ≡ true
    by (Client d) (Life w) k q i h =
        h (cond_both (nat_eq c d) w (life_at c past) (λ (v : Who). v.life ≤ who.life → (life_at c past).life ≤ who.life)
        (λ e le. let next : w.life ≡ (life_at c past).life + 1 = ap (λ (v : Who). v.life) k.ok.next
        ∙ ap (λ (n : ℕ). (life_at n past).life + 1) (sym (eqb-true c d e)) in omega (arith, le, next))
        (λ e le. le) q) i
    by (Target u) (Life w) k q i h = absurd k.ok
    by n (Take number sender m) k q i h = ⊎_elim
        (λ (p : (turn l.at.stamp n ≡ at) × (sender ≡ Target t) × (m ≡ message.Evicted who boot)). now n number sender m k q p)
        (λ (p : Took past at (Target t) (message.Evicted who boot)). h q p)
        i
      where
        now : (n : Node) (number : ℕ) (sender : Node) (m : Message) → Allowed head past (turn l.at.stamp n) (Take number sender m)
            → (life_at c past).life ≤ who.life → (turn l.at.stamp n ≡ at) × (sender ≡ Target t) × (m ≡ message.Evicted who boot)
            → is_evicted t (printed past) who ≡ true
        now n number sender m k q p =
            let here : n ≡ Client c = ap (λ (v : At). v.node) p.0 ∙ node in
            taken (subst (λ (v : Node). Allowed head past (turn l.at.stamp v) (Take number sender m)) here k)
          where
            taken : Allowed head past (turn l.at.stamp (Client c)) (Take number sender m) → is_evicted t (printed past) who ≡ true
            taken k =
                let sent : Was past (Target t) (Client c) (message.Evicted who boot) =
                subst (λ (v : Node). Was past v (Client c) (message.Evicted who boot)) p.1
                (subst (λ (v : Message). Was past sender (Client c) v) p.2 (sent_was past number sender (Client c) m k.ok.sent)) in
                let about : concerns t (Client c) (Take number sender m) ≡ true = ap (λ (v : Node). is_target t v) p.1 ∙ self t in
                evicted_now head t past g.1 (nothing_left head (only t past) (turn l.at.stamp (Client c)) (Take number sender m)
                (k.shows t about) (λ s. s)) who (told_over head t c past who boot g.1 q sent)
    by n e k q i h = h q i

-- and so it is a notice for the law
pub notice_taken : (head : Head) (past : List Line) (at : At) (c : ℕ) → Grown head past → at.node ≡ Client c
    → Noticed past at (life_at c past) → took_notice (printed past) at (life_at c past) ≡ true
notice_taken head past at c g node n =
    let who = life_at c past in
    took_any head past at (Target n.target) (message.Evicted who n.boot) (λ (s : Sending). is_notice (printed past) who s.from s.message) g
    n.took
    (rw (life_self who, notice_evicted head past at n.target c who n.boot g node (omega arith) n.took) refl)
