-- One more line of a run that changes no bytes: all that is so of it stays so (`bare_step`), so it is so after every line (`bare_so_far`).
use Rattle.std.proofs.Common.{◌≡◌, ℕ, zero, suc, ◌<◌, Bool, true, false, List, [], ◌∷◌, Option, Some, None, ◌⊎◌, inl, inr, ⊎_elim, refl}
use Rattle.std.proofs.Common.{sym, subst, ap, ◌∙◌, arith}
use Rattle.std.specs.Prelude.{◌&&◌, if◌then◌else◌}
use Rattle.std.proofs.lemmas.Bool.{cond_both, eqb-true, and_parts}
use Rattle.lu_base.specs.declared.ids.At.{At}
use Rattle.lu_base.specs.declared.ids.Cookie.{Cookie}
use Rattle.lu_base.specs.declared.ids.Node.{Node}
use Rattle.lu_base.specs.declared.ids.Node.TheVariants.{Client, Target}
use Rattle.lu_base.specs.declared.ids.Who.{Who}
use Rattle.lu_base.specs.declared.ids.Xid.{Xid}
use Rattle.lu_base.specs.declared.locks.Lock.{Lock}
use Rattle.lu_base.specs.declared.locks.Mode.{Mode}
use Rattle.lu_base.specs.declared.locks.Mode.TheVariants.{PR, PW}
use Rattle.lu_base.specs.declared.locks.Policy.{Policy}
use Rattle.lu_base.specs.declared.locks.Policy.TheVariants.{Bits, Range}
use Rattle.lu_base.specs.declared.locks.Resource.{Resource}
use Rattle.lu_msg.specs.declared.answers.Answer.{Answer}
use Rattle.lu_msg.specs.declared.answers.Answer.TheVariants as told
use Rattle.lu_msg.specs.declared.calls.Call.{Call}
use Rattle.lu_msg.specs.declared.calls.Call.TheVariants as call
use Rattle.lu_msg.specs.declared.messages.GrantNotice.{GrantNotice}
use Rattle.lu_msg.specs.declared.messages.Message.{Message}
use Rattle.lu_msg.specs.declared.messages.Message.TheVariants as message
use Rattle.lu_msg.specs.declared.messages.Reply.{Reply as ReplyTo}
use Rattle.lu_msg.specs.declared.messages.Request.{Request as RequestOf}
use Rattle.lu_msg.specs.declared.operations.Op.{Op}
use Rattle.lu_msg.specs.declared.operations.Op.TheVariants as op
use Rattle.lu_held.specs.declared.locks.HeldLock.{HeldLock}
use Rattle.lu_spec_entries.specs.declared.changes.Flush.{Flush}
use Rattle.lu_spec_entries.specs.Carried.{Queued, Flight, Bad, Enqueued, Running}
use Rattle.lu_spec_entries.specs.Words.{Entry, Send, Take, Grant, Heard, Hold, Drop, Life, Queues, Flies, Changes, WritesBack, Shows, Acks}
use Rattle.lu_spec_entries.specs.Words.{Fills, Zeroes, Grown as Grows, Line, line, is_client}
use Rattle.lu_spec_entries.specs.Concerns.{concerns, is_about, only}
use Rattle.lu_spec_entries.specs.Fields.{on}
use Rattle.lu_spec_client.specs.Caches.{Note, patch_at, reads_patches, patches_after, patches_at, reads_sizes, sizes_after, sizes_at}
use Rattle.lu_spec_client.specs.Caches.{reads_shown, shown_after, shown_at, forgotten_notes, held_at}
use Rattle.lu_spec_client.specs.Imports.{reads_queue, queue_after}
use Rattle.lu_spec_client.specs.Messages.{size_with}
use Rattle.lu_spec_client.specs.Patches.{Patch, clean}
use Rattle.lu_spec_client.specs.WriteBack.{flush_under}
use Rattle.lu_proof_lawful.specs.Covered.Calls.{call_at, becomes}
use Rattle.lu_proof_lawful.specs.Covered.ClientStates.{life_of, is_own}
use Rattle.lu_proof_lawful.specs.Covered.Runs.{ChangesNoBytes, IsBare, AllBare}
use Rattle.lu_proof_lawful.specs.Covered.Heads.{Head}
use Rattle.lu_proof_lawful.specs.Covered.Imports.{queue_at}
use Rattle.lu_proof_lawful.specs.Covered.TargetStates.{server_of}
use Rattle.lu_proof_lawful.proofs.Preconditions.Guards.{In, Was, TookNow, Took, GrantedNow, SoughtNow, AsksWhere, JustHeard, HeardNow}
use Rattle.lu_proof_lawful.proofs.Preconditions.Guards.{HoldsOk, NamesAskOk, SizeAskOk, LockAskOk, GetAskOk, TakesBack, BackAskOk, QueuesOk}
use Rattle.lu_proof_lawful.proofs.Preconditions.Guards.{ChangesOn, ChangesOk, WritesBackOk, WroteNow, ShowsOk, IsChange, EntryOk}
use Rattle.lu_proof_lawful.proofs.Preconditions.ClientGuards.{GivenOk}
use Rattle.lu_proof_lawful.proofs.Preconditions.HeedMarks.{heeds_marks, marks_left, marks_of, MarkNext}
use Rattle.lu_proof_lawful.proofs.Preconditions.StoryGuards.{AskHolderOk, EntryOf}
use Rattle.lu_proof_lawful.proofs.Preconditions.Acts.{kind_names}
use Rattle.lu_proof_lawful.proofs.Preconditions.LockKinds.{granted_kind}
use Rattle.lu_proof_lawful.proofs.Preconditions.Grown.{Grown}
use Rattle.lu_proof_lawful.proofs.Preconditions.Lists.{self, turn, in_append}
use Rattle.lu_proof_lawful.proofs.Preconditions.Only.{sent_was, was_more}
use Rattle.lu_proof_lawful.proofs.Preconditions.Parts.{queue_now}
use Rattle.lu_proof_lawful.proofs.Preconditions.Calls.{call_cases}
use Rattle.lu_proof_lawful.proofs.Preconditions.ClientLines.{IsNames, becomes_names, in_rest}
use Rattle.lu_proof_lawful.proofs.Preconditions.Held.{is_own as is_its}
use Rattle.lu_proof_lawful.proofs.Invariants.TargetGroups.{Flew}
use Rattle.lu_proof_lawful.proofs.Invariants.All.{holds}
use Rattle.lu_proof_lawful.proofs.Invariants.BareObjects.{IsBareOp, BareTarget, gave_read, bare_target, bare_line, no_promotion}
use Rattle.lu_proof_lawful.proofs.Invariants.BareLooks.{AllZero, IsNone, zero_forgotten, zero_kept}
use Rattle.lu_proof_lawful.proofs.Invariants.BareCalls.{BareStage, BareRunning, BareAnswer, IsStill, IsBareOf, BareSoFar, heard_bare}
use Rattle.lu_proof_lawful.proofs.Invariants.BareCalls.{call_bare}

-- ---- what a reply brings

names_bare : (o : Op) → IsNames o → IsBareOp o
names_bare (op.Enqueue resource mode extent) n = absurd n
names_bare (op.Get resource cookie page) n = n
names_bare (op.Put resource cookie offset bytes) n = n
names_bare (op.Cut resource cookie size) n = n
names_bare o n = tt

-- nothing is to be marked of it
heeds_none : (t : ℕ) (o : Op) (a : Answer) (held : List HeldLock) → IsBareOp o → heeds_marks t o a held ≡ []
heeds_none t (op.Get resource cookie page) a held b = absurd b
heeds_none t (op.Put resource cookie offset bytes) a held b = absurd b
heeds_none t (op.Cut resource cookie size) a held b = absurd b
heeds_none t o a held b = refl

size_none : (a : Answer) → BareAnswer a → IsNone (size_with a)
size_none (told.Granted cookie extent size) b = b.1
size_none a b = tt

heard_just : (past : List Line) (at : At) (t : ℕ) (f : Flight) (r : ReplyTo) → HeardNow past at t f r → JustHeard past at t r
heard_just [] at t f r j = absurd j
heard_just (l ∷ past) at t f r j = by l.entry j (λ k. heard_just past at t f r k)
  where
    by : (e : Entry) → HeardNow (line l.at e ∷ past) at t f r → (HeardNow past at t f r → JustHeard past at t r)
        → JustHeard (line l.at e ∷ past) at t r
    by (Heard u k x) j more = (j.0, j.1, j.3)
    by (Hold u lock marked size seen) j more = more j
    by e j more = absurd j

-- a clean object has nothing to write back
flush_none : (mode : Mode) (policy : Policy) (change : Flush) → flush_under clean mode policy ≡ Some change → ⊥
flush_none PW (Range extent) change e = cc
flush_none PW (Bits bits) change e = cc
flush_none PR policy change e = cc
flush_none mode policy change e = cc

forgotten_none : (p : Policy) (l : Lock) → forgotten_notes p l [] ≡ []
forgotten_none (Bits bits) l = refl
forgotten_none (Range extent) l = refl

-- what a turn took was sent to its node
pub took_was : (head : Head) (past : List Line) (at : At) (from : Node) (m : Message) → Grown head past → Took past at from m
    → Was past from at.node m
took_was head [] at from m g t = absurd t
took_was head (l ∷ past) at from m g t = by l.at.node l.entry g.0.ok t (took_was head past at from m g.1)
  where
    more : (node : Node) (e : Entry) → Was past from at.node m → Was (line (turn l.at.stamp node) e ∷ past) from at.node m
    more node e w = was_more (line (turn l.at.stamp node) e) past from at.node m w

    by : (node : Node) (e : Entry) → EntryOk past (turn l.at.stamp node) node e → Took (line (turn l.at.stamp node) e ∷ past) at from m
        → (Took past at from m → Was past from at.node m) → Was (line (turn l.at.stamp node) e ∷ past) from at.node m
    by node (Take n sender x) ok t ih = ⊎_elim
        (λ (p : (turn l.at.stamp node ≡ at) × (sender ≡ from) × (x ≡ m)).
        subst (λ (v : Message). Was past from at.node v) p.2
        (subst (λ (v : Node). Was past v at.node x) p.1 (subst (λ (v : At). Was past sender v.node x) p.0
        (sent_was past n sender node x ok.sent))))
        ih
        t
    by node e ok t ih = more node e (ih t)

pub took_now : (past : List Line) (at : At) (from : Node) (m : Message) → TookNow past at from m → Took past at from m
took_now [] at from m t = t
took_now (l ∷ past) at from m t = by l.entry t
  where
    by : (e : Entry) → TookNow (line l.at e ∷ past) at from m → Took (line l.at e ∷ past) at from m
    by (Take n sender x) t = inl t
    by e t = absurd t

-- ---- one line

module _ (head : Head) (past : List Line) (g : Grown head past) (s : BareSoFar head past) where
  -- nothing is to be marked, so no mark comes
  pub no_mark : (c : ℕ) (e : Entry) → MarkNext past c e → ⊥
  no_mark c e m = let none = s.marks c in let some = m.1 in cc

  pub no_changes : (at : At) (c : ℕ) (resource : Resource) (change : Flush) → ChangesOk past at c resource change → ⊥
  no_changes at c resource change ok = changed (s.calls c ok.slot ok.running ok.call) ok.does
    where
      changed : BareRunning ok.running → ChangesOn ok.running ok.work → ⊥
      changed k (inl h) = subst ChangesNoBytes h.writes (k.call h.good)
      changed k (inr h) = subst ChangesNoBytes h.cuts (k.call h.good)

  pub no_back : (c : ℕ) (resource : Resource) (change : Flush) → WritesBackOk past c resource change → ⊥
  no_back c resource change ok =
      flush_none ok.holding.lock.ask.mode ok.holding.lock.ask.policy change
      (subst (λ (ps : List (Resource × Patch)). flush_under (patch_at resource ps) ok.holding.lock.ask.mode ok.holding.lock.ask.policy
      ≡ Some change) (s.patches c) ok.next)

  pub no_shows : (at : At) (c : ℕ) (resource : Resource) (cookie : Cookie) (last : ℕ) → ShowsOk past at c resource cookie last → ⊥
  no_shows at c resource cookie last (inl ok) = wrote past s.still ok.wrote
    where
      wrote : (p : List Line) → IsStill p → WroteNow p at resource ok.first ok.bytes → ⊥
      wrote [] still w = w
      wrote (x ∷ p) still w = subst (λ (e : Entry). IsStill (record x { entry = e } ∷ p)) w.1 still
  no_shows at c resource cookie last (inr ok) = no_mark c (Shows resource cookie last) ok

  pub no_back_ask : (c t : ℕ) (q : Queued) → BackAskOk past c t q → ⊥
  no_back_ask c t q ok = taken past s.still ok.takes
    where
      taken : (p : List Line) → IsStill p → TakesBack p c ok.holding.lock ok.change → ⊥
      taken [] still w = w
      taken (x ∷ p) still w = subst (λ (e : Entry). IsStill (record x { entry = e } ∷ p)) w.1 still

  -- what is queued

  queued : (c t : ℕ) (q : Queued) → QueuesOk past c t q → IsBareOf t q.op
  queued c t q (inl ok) = by ok.asks
    where
      k : BareRunning ok.running
      k = s.calls c ok.slot ok.running ok.call

      locks : (a : LockAskOk t ok.running q.op) → a.wanted.mode ≡ PR
      locks a = ⊎_elim (λ (e : a.wanted.mode ≡ PR). e)
          (λ (p : (a.wanted.mode ≡ PW) × IsChange ok.running.call). absurd
          (none ok.running.call (k.call (λ bad. let e : Enqueued a.work ≡ Bad = sym a.stage ∙ bad in cc)) p.1))
          a.mode
        where
          none : (x : Call) → ChangesNoBytes x → IsChange x → ⊥
          none (call.Write h offset bytes) n i = n
          none (call.Cut h size) n i = n
          none x n i = i

      by : NamesAskOk past c t ok.running q.op ⊎ SizeAskOk t ok.running q.op ⊎ LockAskOk t ok.running q.op
          ⊎ GetAskOk past c t ok.running q.op → IsBareOf t q.op
      by (inl a) = let n = becomes_names ok.running.file ok.running.call q.op a.becomes in (names_bare q.op n, λ e. n)
      by (inr (inl a)) = (subst IsBareOp (sym a.of_op) tt, λ e. absurd (let high = a.object in omega (arith, high, e)))
      by (inr (inr (inl a))) = (subst IsBareOp (sym a.of_op) (locks a), λ e. absurd (let high = a.object in omega (arith, high, e)))
      by (inr (inr (inr a))) = absurd (subst (BareStage ok.running) a.stage k.stage)
  queued c t q (inr ok) = absurd (no_back_ask c t q ok)

  -- a target's requests
  pub asked : (t : ℕ) (r : RequestOf) → In r (server_of head.osts (only t past)).waiting → IsBareOp r.op
  asked t r i =
      let w = ((holds head past g).at t).done.waits r i in
      subst IsBareOp (ap (λ (v : RequestOf). v.op) (sym w.asks.2)) (s.flew t r.who w.asks.0 w.asks.1).0

  module _ (l : Line) (ok : EntryOk past l.at l.at.node l.entry)
      (of : (t : ℕ) → concerns t l.at.node l.entry ≡ true → EntryOf head (only t past) l.at l.at.node l.entry) (bare : IsBare l.entry) where
    -- the line as one of that client
    own : (c : ℕ) → is_client c l.at.node ≡ true → EntryOk past l.at (Client c) l.entry
    own c e = subst (λ (n : Node). EntryOk past l.at n l.entry) (is_its c l.at.node e) ok

    calls : (c slot : ℕ) (r : Running) → call_at c slot (l ∷ past) ≡ Some r → BareRunning r
    calls c slot r e = call_bare head past l.at.stamp l.at.node l.entry c slot r g s bare
        (call_cases past l.at.stamp l.at.node l.entry ok c slot r e)

    queues : (c t : ℕ) (q : Queued) → In q (queue_at c t (l ∷ past)) → IsBareOf t q.op
    queues c t q i = by (reads_queue l.entry) (is_client c l.at.node && is_about t l.entry) refl i
      where
        X : List Queued
        X = queue_at c t past

        step : (e : Entry) → EntryOk past l.at (Client c) e → is_about t e ≡ true → In q (queue_after X e) → IsBareOf t q.op
        step (Queues u o) ok about i =
            ⊎_elim (λ (j : In q X). s.queues c t q j)
            (λ (j : In q (o ∷ [])). ⊎_elim (λ (e : o ≡ q). subst (λ (y : Queued). IsBareOf t y.op) e
            (subst (λ (v : ℕ). IsBareOf v o.op) (sym (eqb-true t u about)) (queued c u o ok))) (λ (n : ⊥). absurd n) j)
            (in_append q X (o ∷ []) i)
        step (Flies u f) ok about i = s.queues c t q (in_rest q X i)
        step (Life who) ok about i = absurd i
        step e ok about i = s.queues c t q i

        by : (r b : Bool) → (is_client c l.at.node && is_about t l.entry) ≡ b → In q (on r b (queue_after X l.entry) X) → IsBareOf t q.op
        by false b e i = s.queues c t q i
        by true false e i = s.queues c t q i
        by true true e i = let p = and_parts (is_client c l.at.node) (is_about t l.entry) e in step l.entry (own c p.0) p.1 i

    flew : (t : ℕ) (who : Who) (f : Flight) → Flew (only t (l ∷ past)) who f → IsBareOf t f.op
    flew t who f a =
        cond_both (concerns t l.at.node l.entry) (l ∷ only t past) (only t past) (λ (p : List Line). Flew p who f → IsBareOf t f.op)
        (λ o b. by l.at.node l.entry (of t o) o b)
        (λ o b. s.flew t who f b)
        a
      where
        by : (node : Node) (e : Entry) → EntryOf head (only t past) l.at node e → concerns t node e ≡ true
            → Flew (line (turn l.at.stamp node) e ∷ only t past) who f → IsBareOf t f.op
        by (Target u) (Flies v q) k o b = absurd k
        by (Client d) (Flies v q) k o b =
            ⊎_elim
            (λ (p : (is_own who (only t past) (Client d) ≡ true) × (q ≡ f)).
            let same = ap (λ (w : Flight). w.op) (sym k.is) ∙ ap (λ (w : Flight). w.op) p.1 in
            let first = subst (λ (qs : List Queued). In k.front qs) (sym (queue_now head d t past g ∙ k.queue)) (inl refl) in
            subst (IsBareOf t) same (s.queues d t k.front first))
            (λ (p : Flew (only t past) who f). s.flew t who f p)
            b
        by node e k o b = s.flew t who f b

    targets : (t : ℕ) → 0 < t → BareTarget head (only t (l ∷ past))
    targets t high =
        cond_both (concerns t l.at.node l.entry) (l ∷ only t past) (only t past) (BareTarget head)
        (λ o. bare_line head (only t past) ((holds head past g).at t) (s.targets t high) (asked t) l.at.stamp l.at.node l.entry
        (here o l.at.node refl) (of t o))
        (λ o. s.targets t high)
      where
        here : concerns t l.at.node l.entry ≡ true → (node : Node) → l.at.node ≡ node → (u : ℕ) → node ≡ Target u → 0 < u
        here o node e u is =
            subst (λ (v : ℕ). 0 < v) (eqb-true t u (subst (λ (n : Node). concerns t n l.entry ≡ true) (e ∙ is) o)) high

    marks : (c : ℕ) → marks_of c (l ∷ past) ≡ []
    marks c = by l.at.node l.entry (λ t q. of t q)
      where
        left : (b : Bool) → (if b then marks_left (marks_of c past) else marks_of c past) ≡ []
        left true = ap marks_left (s.marks c)
        left false = s.marks c

        by : (node : Node) (e : Entry) → ((t : ℕ) → concerns t node e ≡ true → EntryOf head (only t past) l.at node e)
            → marks_of c (line (turn l.at.stamp node) e ∷ past) ≡ []
        by (Client d) (Heard t f r) of =
            let k = of t (self t) in
            cond_both (is_client c (Client d)) (heeds_marks t f.op r.answer (held_at c past)) (marks_of c past)
            (λ (es : List Entry). es ≡ [])
            (λ e. heeds_none t f.op r.answer (held_at c past) (s.flew t (life_of d (only t past)) f
            (((holds head past g).at t).numbers.flying (life_of d (only t past)) f k.flying)).0)
            (λ e. s.marks c)
        by (Target u) (Heard t f r) of = s.marks c
        by node (Acks resource) of = left (is_client c node)
        by node (Fills resource offset bytes) of = left (is_client c node)
        by node (Zeroes resource size) of = left (is_client c node)
        by node (Grows resource change) of = left (is_client c node)
        by node (Shows resource cookie last) of = left (is_client c node)
        by node e of = s.marks c

    patches : (c : ℕ) → patches_at c (l ∷ past) ≡ []
    patches c = by (reads_patches l.entry) (is_client c l.at.node) refl
      where
        X : List (Resource × Patch)
        X = patches_at c past

        step : (e : Entry) → EntryOk past l.at (Client c) e → patches_after X e ≡ []
        step (Changes r change) ok = absurd (no_changes l.at c r change ok)
        step (WritesBack r change) ok = absurd (no_back c r change ok)
        step (Acks r) ok = absurd (no_mark c (Acks r) ok)
        step (Life who) ok = refl
        step e ok = s.patches c

        by : (r b : Bool) → is_client c l.at.node ≡ b → on r b (patches_after X l.entry) X ≡ []
        by false b e = s.patches c
        by true false e = s.patches c
        by true true e = step l.entry (own c e)

    sizes : (c : ℕ) → AllZero (sizes_at c (l ∷ past))
    sizes c n i = by (reads_sizes l.entry) (is_client c l.at.node) refl i
      where
        X : List Note
        X = sizes_at c past

        held : (t : ℕ) (lock : Lock) (marked : Bool) (size : Option ℕ) (seen : List ℕ) → HoldsOk past l.at t lock marked size seen
            ⊎ GivenOk past l.at c t lock marked size seen → IsNone size
        held t lock marked size seen (inl k) = subst IsNone (sym k.sized)
            (size_none k.reply.answer (heard_bare head past l.at t k.reply g s (heard_just past l.at t k.flight k.reply k.heard)))
        held t lock marked size seen (inr k) = absurd (subst (BareStage k.running) k.waits (s.calls c k.slot k.running k.call).stage)

        step : (e : Entry) → EntryOk past l.at (Client c) e → AllZero (sizes_after X e)
        step (Hold t lock marked size seen) ok = zero_kept lock size X (held t lock marked size seen ok) (s.sizes c)
        step (Drop t lock) ok = zero_forgotten lock.ask.policy lock X (s.sizes c)
        step (Grows r change) ok = absurd (no_mark c (Grows r change) ok)
        step (Life who) ok = λ m j. absurd j
        step e ok = s.sizes c

        by : (r b : Bool) → is_client c l.at.node ≡ b → In n (on r b (sizes_after X l.entry) X) → n.number ≡ 0
        by false b e i = s.sizes c n i
        by true false e i = s.sizes c n i
        by true true e i = step l.entry (own c e) n i

    shown : (c : ℕ) → shown_at c (l ∷ past) ≡ []
    shown c = by (reads_shown l.entry) (is_client c l.at.node) refl
      where
        X : List Note
        X = shown_at c past

        step : (e : Entry) → EntryOk past l.at (Client c) e → shown_after X e ≡ []
        step (Shows r cookie last) ok = absurd (no_shows l.at c r cookie last ok)
        step (Drop t lock) ok = ap (forgotten_notes lock.ask.policy lock) (s.shown c) ∙ forgotten_none lock.ask.policy lock
        step (Life who) ok = refl
        step e ok = s.shown c

        by : (r b : Bool) → is_client c l.at.node ≡ b → on r b (shown_after X l.entry) X ≡ []
        by false b e = s.shown c
        by true false e = s.shown c
        by true true e = step l.entry (own c e)

    still : IsStill (l ∷ past)
    still = by l.at.node l.entry ok of
      where
        by : (node : Node) (e : Entry) → EntryOk past l.at node e
            → ((t : ℕ) → concerns t node e ≡ true → EntryOf head (only t past) l.at node e) → IsStill (line (turn l.at.stamp node) e ∷ past)
        by (Client c) (Changes r change) ok of = no_changes l.at c r change ok
        by (Client c) (WritesBack r change) ok of = no_back c r change ok
        by (Target t) (Changes r change) ok of = ok
        by (Target t) (WritesBack r change) ok of = ok
        by (Client c) (Grant lock asked) ok of = absurd ok
        by (Target t) (Grant lock None) ok of = let k = of t (self t)
            in no_promotion head (only t past) ((holds head past g).at t) (s.targets t k.0) (asked t) lock k.1
        by (Target t) (Grant lock (Some d)) ok of = tt
        by node e ok of = tt

    -- nobody asks where a lock is, and so nobody is told of one that had waited
    sought : (from to : Node) (who : Who) (boot : ℕ) (cookie : Cookie) → Was (l ∷ past) from to (message.Where who boot cookie) → ⊥
    sought from to who boot cookie w = by l.at.node l.entry ok w
      where
        sent : (node : Node) (to : Node) (m : Message) → m ≡ message.Where who boot cookie → EntryOk past l.at node (Send to m) → ⊥
        sent (Client c) (Target t) m e ok =
            let k : AsksWhere past c t cookie = subst (λ (x : Message). EntryOk past l.at (Client c) (Send (Target t) x)) e ok in
            subst (BareStage k.running) k.waits (s.calls c k.slot k.running k.call).stage
        sent (Client c) (Client d) m e ok = ok
        sent (Target t) (Client c) m e ok = subst (λ (x : Message). EntryOk past l.at (Target t) (Send (Client c) x)) e ok
        sent (Target t) (Target u) m e ok = ok

        by : (node : Node) (e : Entry) → EntryOk past l.at node e
            → Was (line (turn l.at.stamp node) e ∷ past) from to (message.Where who boot cookie) → ⊥
        by node (Send x m) ok w = ⊎_elim (λ (p : (node ≡ from) × (x ≡ to) × (m ≡ message.Where who boot cookie)). sent node x m p.2 ok)
            (λ (v : Was past from to (message.Where who boot cookie)). s.sought from to who boot cookie v) w
        by node e ok w = s.sought from to who boot cookie w

    given : (from to : Node) (notice : GrantNotice) → Was (l ∷ past) from to (message.Grant notice) → ⊥
    given from to notice w = by l.at.node l.entry ok w
      where
        just : (p : List Line) → IsStill p → GrantedNow p l.at notice → ⊥
        just [] still k = k
        just (x ∷ p) still k = of_line x.entry still k
          where
            of_line : (e : Entry) → IsStill (line x.at e ∷ p) → GrantedNow (line x.at e ∷ p) l.at notice → ⊥
            of_line (Grant lock None) still k = still
            of_line (Grant lock (Some d)) still k = k
            of_line e still k = k

        sent : (node : Node) (to : Node) (m : Message) → m ≡ message.Grant notice → EntryOk past l.at node (Send to m) → ⊥
        sent (Target t) (Client c) m e ok = ⊎_elim
            (λ (k : GrantedNow past l.at notice). just past s.still k)
            (λ (k : SoughtNow past l.at notice). s.sought k.from l.at.node notice.who k.boot notice.cookie
            (took_was head past l.at k.from (message.Where notice.who k.boot notice.cookie) g
            (took_now past l.at k.from (message.Where notice.who k.boot notice.cookie) k.took)))
            (subst (λ (x : Message). EntryOk past l.at (Target t) (Send (Client c) x)) e ok)
        sent (Client c) (Target t) m e ok = subst (λ (x : Message). EntryOk past l.at (Client c) (Send (Target t) x)) e ok
        sent (Client c) (Client d) m e ok = ok
        sent (Target t) (Target u) m e ok = ok

        by : (node : Node) (e : Entry) → EntryOk past l.at node e
            → Was (line (turn l.at.stamp node) e ∷ past) from to (message.Grant notice) → ⊥
        by node (Send x m) ok w = ⊎_elim (λ (p : (node ≡ from) × (x ≡ to) × (m ≡ message.Grant notice)). sent node x m p.2 ok)
            (λ (v : Was past from to (message.Grant notice)). s.given from to notice v) w
        by node e ok w = s.given from to notice w

    -- and no holder is asked for a size: no lock to write under is granted
    questions : (from to : Node) (who : Who) (boot : ℕ) (cookie : Cookie) (for_who : Who) (xid : Xid)
        → Was (l ∷ past) from to (message.Ask who boot cookie for_who xid) → ⊥
    questions from to who boot cookie for_who xid w = by l.at.node l.entry ok of w
      where
        none : (t : ℕ) (k : Lock) → In k (server_of head.osts (only t past)).granted → k.ask.mode ≡ PW → ⊥
        none zero k i e = let r = (kind_names k (granted_kind head 0 past g k i)).0 in let q : PR ≡ PW = sym r ∙ e in cc
        none (suc t) k i e =
            let d = ((holds head past g).at (suc t)).locks.granted k i in
            let r = (gave_read head (only (suc t) past) d.0 k (s.targets (suc t) (omega arith)) d.1).0 in
            let q : PR ≡ PW = sym r ∙ e in cc

        sent : (node : Node) (to : Node) (m : Message) → m ≡ message.Ask who boot cookie for_who xid → EntryOk past l.at node (Send to m)
            → ((t : ℕ) → concerns t node (Send to m) ≡ true → EntryOf head (only t past) l.at node (Send to m)) → ⊥
        sent (Target t) (Client c) m e ok of =
            let k : AskHolderOk head.osts (only t past) c who boot cookie for_who xid =
            subst (λ (x : Message). EntryOf head (only t past) l.at (Target t) (Send (Client c) x)) e (of t (self t)) in
            none t k.lock k.granted k.mode
        sent (Client c) (Target t) m e ok of = subst (λ (x : Message). EntryOk past l.at (Client c) (Send (Target t) x)) e ok
        sent (Client c) (Client d) m e ok of = ok
        sent (Target t) (Target u) m e ok of = ok

        by : (node : Node) (e : Entry) → EntryOk past l.at node e
            → ((t : ℕ) → concerns t node e ≡ true → EntryOf head (only t past) l.at node e)
            → Was (line (turn l.at.stamp node) e ∷ past) from to (message.Ask who boot cookie for_who xid) → ⊥
        by node (Send x m) ok of w = ⊎_elim (λ (p : (node ≡ from) × (x ≡ to) × (m ≡ message.Ask who boot cookie for_who xid)). sent node x m
            p.2 ok of) (λ (v : Was past from to (message.Ask who boot cookie for_who xid)). s.asked from to who boot cookie for_who xid v) w
        by node e ok of w = s.asked from to who boot cookie for_who xid w

    pub bare_step : BareSoFar head (l ∷ past)
    bare_step = record {
      calls = calls;
      queues = queues;
      flew = flew;
      targets = targets;
      marks = marks;
      patches = patches;
      sizes = sizes;
      shown = shown;
      still = still;
      sought = sought;
      given = given;
      asked = questions;
    }

-- ---- after every line

bare_first : (head : Head) → BareSoFar head []
bare_first head =
    record {
      calls = λ c slot r e. absurd (cc);
      queues = λ c t q i. absurd i;
      flew = λ t who f a. absurd a;
      targets = λ t high. bare_target head;
      marks = λ c. refl;
      patches = λ c. refl;
      sizes = λ c n i. absurd i;
      shown = λ c. refl;
      still = tt;
      sought = λ from to who boot cookie w. w;
      given = λ from to notice w. w;
      asked = λ from to who boot cookie for_who xid w. w;
    }

pub bare_so_far : (head : Head) (past : List Line) → Grown head past → AllBare past → BareSoFar head past
bare_so_far head [] g b = bare_first head
bare_so_far head (l ∷ past) g b = bare_step head past g.1 (bare_so_far head past g.1 b.1) l g.0.ok g.0.of b.0
