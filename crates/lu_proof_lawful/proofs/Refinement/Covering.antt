-- A lock that was given for what a life asked for is on that object, in that mode, and covers that range: it only grows, as it is granted.
use Rattle.std.proofs.Common.{◌≡◌, ℕ, ◌<◌, ◌≤◌, true, List, [], ◌∷◌, ◌++◌, Some, None, ◌⊎◌, inl, inr, ⊎_elim, refl, sym, subst, ap, ◌∙◌}
use Rattle.std.proofs.Common.{arith}
use Rattle.std.specs.Prelude.{nat_eq, not}
use Rattle.std.proofs.lemmas.Bool.{cond_both, eqb-true}
use Rattle.lu_base.specs.declared.ids.At.{At}
use Rattle.lu_base.specs.declared.ids.Node.{Node}
use Rattle.lu_base.specs.declared.ids.Node.TheVariants.{Client, Target}
use Rattle.lu_base.specs.declared.ids.Stamp.{Stamp}
use Rattle.lu_base.specs.declared.locks.Extent.{Extent}
use Rattle.lu_base.specs.declared.locks.Lock.{Lock}
use Rattle.lu_base.specs.declared.locks.Mode.{Mode}
use Rattle.lu_base.specs.declared.locks.Policy.{Policy}
use Rattle.lu_base.specs.declared.locks.Policy.TheVariants.{Range}
use Rattle.lu_base.specs.declared.locks.Resource.{Resource}
use Rattle.lu_lock.specs.Growth.{the_end}
use Rattle.lu_lock.specs.Overlap.{covers}
use Rattle.lu_lock.proofs.GrowthLaws.{granted_covers}
use Rattle.lu_lock.proofs.OverlapLaws.{covers_rule}
use Rattle.lu_msg.specs.declared.operations.Op.TheVariants as op
use Rattle.lu_spec_entries.specs.Carried.{Deed}
use Rattle.lu_spec_entries.specs.Words.{Entry, Act, Txn as Made, Grant, Wait, Answers, Evict, Close, Line, line}
use Rattle.lu_spec_entries.specs.Concerns.{concerns, only}
use Rattle.lu_held.specs.Locks.{same_resource}
use Rattle.lu_spec_target.specs.Lives.{is_life}
use Rattle.lu_spec_target.specs.Replies.{locks_on, asks_of}
use Rattle.lu_spec_client.specs.Caches.{brought}
use Rattle.lu_proof_lawful.specs.Covered.Deeds.{grown_by, lock_asked}
use Rattle.lu_proof_lawful.specs.Covered.Heads.{Head}
use Rattle.lu_proof_lawful.specs.Covered.TargetStates.{Server, server_of}
use Rattle.lu_proof_lawful.proofs.Preconditions.Guards.{In}
use Rattle.lu_proof_lawful.proofs.Preconditions.StoryGuards.{ActsOk, GrantsOk, RangeOk, WaitOk, PromoteOk}
use Rattle.lu_proof_lawful.proofs.Preconditions.ClientStoryGuards.{AsksInOrder}
use Rattle.lu_proof_lawful.proofs.Preconditions.Lists.{self, in_append, in_right, in_filter}
use Rattle.lu_proof_lawful.proofs.Preconditions.ClientLines.{some_is}
use Rattle.lu_proof_lawful.proofs.Preconditions.Grown.{Allowed, Grown}
use Rattle.lu_proof_lawful.proofs.Invariants.Groups.{turn}
use Rattle.lu_proof_lawful.proofs.Invariants.TargetGroups.{Acted, Promoted, tells_wait, Gave, IsKind}
use Rattle.lu_proof_lawful.proofs.Invariants.Lines.{only_more}
use Rattle.lu_proof_lawful.proofs.Invariants.Brings.{txns_brings, answers_brings, range_brings, wait_brings, wait_tells}
use Rattle.lu_proof_lawful.proofs.Invariants.All.{holds}

-- what was asked for by this deed, if a lock on a range, the lock is on, for and over
abbrev pub CoversAsked : Deed → Lock → Type 0
CoversAsked d l = (r : Resource) (mode : Mode) (x : Extent) → d.op ≡ op.Enqueue r mode x → (l.resource ≡ r) × (l.ask.mode ≡ mode)
    × (covers l.ask.policy (Range x) ≡ true)

-- ---- a lock grows

pub grown_over : (v : Server) (others : List Lock) (asked : Lock) (x : Extent) → asked.ask.policy ≡ Range x → x.last ≤ the_end
    → covers (grown_by v others asked).ask.policy (Range x) ≡ true
grown_over v others asked x range low =
    subst (λ (p : Policy). covers (grown_by v others asked).ask.policy p ≡ true) range
    ((covers_rule (grown_by v others asked).ask.policy asked.ask.policy).1
    (granted_covers asked.ask x (asks_of (locks_on asked.resource v.granted)) (asks_of others) range low))

-- ---- what waits is as it was asked for

-- a deed told that life to wait for the lock, which is as that asked
pub record WaitsAs (past : List Line) (l : Lock) : Type 0 where
  pub deed : Deed
  pub acted : Acted past deed
  pub tells : tells_wait deed.op deed.reply.answer l.cookie.0 ≡ true
  pub extent : Extent
  pub of_op : deed.op ≡ op.Enqueue l.resource l.ask.mode extent
  pub range : l.ask.policy ≡ Range extent

acted_more : (x : Line) (past : List Line) (d : Deed) → Acted past d → Acted (x ∷ past) d
acted_more x past d a = by x.entry
  where
    by : (e : Entry) → Acted (line x.at e ∷ past) d
    by (Act e) = inr a
    by (Made e) = inr a
    by (Grant lock asked) = inr a
    by (Wait lock e) = inr a
    by (Answers e) = inr a
    by e = a

waits_line : (x : Line) (past : List Line) (l : Lock) → WaitsAs past l → WaitsAs (x ∷ past) l
waits_line x past l w = record {
  deed = w.deed;
  acted = acted_more x past w.deed w.acted;
  tells = w.tells;
  extent = w.extent;
  of_op =
      w.of_op;
  range = w.range;
}

waits_now : (osts : ℕ) (past : List Line) (stamp : Stamp) (t : ℕ) (lock : Lock) (d : Deed) → WaitOk osts past (turn stamp (Target t)) lock d
    → WaitsAs (line (turn stamp (Target t)) (Wait lock d) ∷ past) lock
waits_now osts past stamp t lock d ok =
    record {
      deed = d;
      acted = inl refl;
      tells = wait_tells osts past (turn stamp (Target t)) lock d lock.cookie.0 ok ∙ self lock.cookie.0;
      extent = ok.extent;
      of_op = ap (λ (e : Deed). e.op) ok.is ∙ ok.of_op ∙ ap (λ (l : Lock). op.Enqueue l.resource l.ask.mode ok.extent) (sym ok.of_lock);
      range = ap (λ (l : Lock). l.ask.policy) ok.of_lock;
    }

queued_as : (head : Head) (past : List Line) (t : ℕ) → Grown head past → (l : Lock) → In l (server_of head.osts (only t past)).queued
    → WaitsAs (only t past) l
queued_as head [] t g l i = absurd i
queued_as head (x ∷ past) t g l i =
    cond_both (concerns t x.at.node x.entry) (x ∷ only t past) (only t past)
    (λ (p : List Line). In l (server_of head.osts p).queued → WaitsAs p l)
    (λ o j. by x.at.node x.entry g.0 o j (queued_as head past t g.1 l))
    (λ o j. queued_as head past t g.1 l j)
    i
  where
    Old : Type 0
    Old = In l (server_of head.osts (only t past)).queued → WaitsAs (only t past) l

    more : (node : Node) (e : Entry) → In l (server_of head.osts (only t past)).queued → Old
        → WaitsAs (line (turn x.at.stamp node) e ∷ only t past) l
    more node e j h = waits_line (line (turn x.at.stamp node) e) (only t past) l (h j)

    by : (node : Node) (e : Entry) → Allowed head past (turn x.at.stamp node) e → concerns t node e ≡ true
        → In l (server_of head.osts (line (turn x.at.stamp node) e ∷ only t past)).queued → Old
        → WaitsAs (line (turn x.at.stamp node) e ∷ only t past) l
    by (Client c) e k o j h = more (Client c) e j h
    by (Target u) (Wait lock d) k o j h =
        ⊎_elim (λ (m : In l (server_of head.osts (only t past)).queued). more (Target u) (Wait lock d) m h)
        (λ (m : In l (lock ∷ [])). ⊎_elim (λ (q : lock ≡ l). subst (WaitsAs (line (turn x.at.stamp (Target u)) (Wait lock d) ∷ only t past))
        q (waits_now head.osts (only t past) x.at.stamp u lock d (k.of t o).1)) (λ (n : ⊥). absurd n) m)
        (in_append l (server_of head.osts (only t past)).queued (lock ∷ []) j)
    by (Target u) (Grant lock asked) k o j h = more (Target u) (Grant lock asked)
        (in_filter (λ (y : Lock). not (nat_eq y.cookie.0 lock.cookie.0)) l (server_of head.osts (only t past)).queued j).0 h
    by (Target u) (Evict who cause) k o j h = more (Target u) (Evict who cause)
        (in_filter (λ (y : Lock). not (is_life y.ask.who (who ∷ []))) l (server_of head.osts (only t past)).queued j).0 h
    by (Target u) (Close out) k o j h = absurd j
    by (Target u) e k o j h = more (Target u) e j h

-- ---- once it is granted it covers that

-- a lock that had waited, and what was asked for
pub record PromotedAs (past : List Line) (l : Lock) : Type 0 where
  pub deed : Deed
  pub acted : Acted past deed
  pub tells : tells_wait deed.op deed.reply.answer l.cookie.0 ≡ true
  pub extent : Extent
  pub of_op : deed.op ≡ op.Enqueue l.resource l.ask.mode extent
  pub covers : covers l.ask.policy (Range extent) ≡ true

promoted_line : (x : Line) (past : List Line) (l : Lock) → PromotedAs past l → PromotedAs (x ∷ past) l
promoted_line x past l w = record {
  deed = w.deed;
  acted = acted_more x past w.deed w.acted;
  tells = w.tells;
  extent = w.extent;
  of_op =
      w.of_op;
  covers = w.covers;
}

promoted_now : (head : Head) (past : List Line) (t : ℕ) → Grown head past → (lock : Lock) → PromoteOk head.osts (only t past) lock
    → PromotedAs (only t past) lock
promoted_now head past t g lock ok =
    record {
      deed = w.deed;
      acted = w.acted;
      tells = ap (λ (l : Lock). tells_wait w.deed.op w.deed.reply.answer l.cookie.0) ok.of_lock ∙ w.tells;
      extent = w.extent;
      of_op = w.of_op ∙ ap (λ (l : Lock). op.Enqueue l.resource l.ask.mode w.extent) (sym ok.of_lock);
      covers = ap (λ (l : Lock). covers l.ask.policy (Range w.extent)) ok.of_lock
          ∙ grown_over v (ok.ahead ++ ok.later) ok.asked w.extent w.range kind.1;
    }
  where
    v : Server
    v = server_of head.osts (only t past)

    queued : In ok.asked v.queued
    queued = (in_filter (λ (k : Lock). same_resource k.resource lock.resource) ok.asked v.queued
        (subst (λ (ls : List Lock). In ok.asked ls) (sym ok.queue) (in_right ok.asked ok.ahead (ok.asked ∷ ok.later) (inl refl)))).0

    w : WaitsAs (only t past) ok.asked
    w = queued_as head past t g ok.asked queued

    kind : IsKind ok.asked.ask.mode (Range w.extent)
    kind = subst (IsKind ok.asked.ask.mode) w.range (((holds head past g).at t).locks.waits ok.asked queued).kind

promoted_as : (head : Head) (past : List Line) (t : ℕ) → Grown head past → (l : Lock) → Promoted (only t past) l
    → PromotedAs (only t past) l
promoted_as head [] t g l i = absurd i
promoted_as head (x ∷ past) t g l i =
    cond_both (concerns t x.at.node x.entry) (x ∷ only t past) (only t past) (λ (p : List Line). Promoted p l → PromotedAs p l)
    (λ o j. by x.at.node x.entry g.0 o j (promoted_as head past t g.1 l))
    (λ o j. promoted_as head past t g.1 l j)
    i
  where
    Old : Type 0
    Old = Promoted (only t past) l → PromotedAs (only t past) l

    more : (node : Node) (e : Entry) → Promoted (only t past) l → Old → PromotedAs (line (turn x.at.stamp node) e ∷ only t past) l
    more node e j h = promoted_line (line (turn x.at.stamp node) e) (only t past) l (h j)

    by : (node : Node) (e : Entry) → Allowed head past (turn x.at.stamp node) e → concerns t node e ≡ true
        → Promoted (line (turn x.at.stamp node) e ∷ only t past) l → Old → PromotedAs (line (turn x.at.stamp node) e ∷ only t past) l
    by (Client c) (Grant lock asked) k o j h = absurd k.ok
    by (Target u) (Grant lock (Some d)) k o (inl j) h = absurd (let q = j.0 in cc)
    by (Target u) (Grant lock None) k o (inl j) h = promoted_line (line (turn x.at.stamp (Target u)) (Grant lock None)) (only t past) l
        (subst (PromotedAs (only t past)) j.1 (promoted_now head past t g.1 lock (k.of t o).1))
    by (Target u) (Grant lock asked) k o (inr j) h = more (Target u) (Grant lock asked) j h
    by node e k o j h = more node e j h

-- ---- what a deed brings at once

-- what is asked for ends within the greatest number
asked_low : (head : Head) (past : List Line) (t : ℕ) → Grown head past → (d : Deed) → Acted (only t past) d
    → (r : Resource) (mode : Mode) (x : Extent) → d.op ≡ op.Enqueue r mode x → x.last ≤ the_end
asked_low head past t g d a r mode x e =
    let h = (holds head past g).at t in
    let f = h.done.flew d a in
    (subst AsksInOrder (f.3 ∙ e) (h.ranges.flew d.reply.who f.0 f.1)).1

range_now : (head : Head) (past : List Line) (t : ℕ) (at : At) (lock : Lock) (d : Deed) (l : Lock) → RangeOk head.osts past at lock d
    → ((r : Resource) (mode : Mode) (x : Extent) → d.op ≡ op.Enqueue r mode x → x.last ≤ the_end) → In l (brought d.op d.reply)
    → CoversAsked d l
range_now head past t at lock d l ok low i r mode x e = (
  resource,
  of_mode,
  subst (λ (k : Lock). covers k.ask.policy (Range x) ≡ true) is
      (ap (λ (k : Lock). covers k.ask.policy (Range x)) ok.of_lock
      ∙ grown_over v (locks_on ok.resource v.queued) (lock_asked v ok.request ok.resource ok.mode ok.extent) x (ap Range extent)
      (low r mode x e)),
)
  where
    v : Server
    v = server_of head.osts past

    only_one : In l (lock ∷ []) → lock ≡ l
    only_one (inl q) = q
    only_one (inr n) = absurd n

    is : lock ≡ l
    is = only_one (subst (λ (ls : List Lock). In l ls) (range_brings head.osts past at lock d ok) i)

    same : op.Enqueue ok.resource ok.mode ok.extent ≡ op.Enqueue r mode x
    same = sym (ap (λ (y : Deed). y.op) ok.is ∙ ok.of_op) ∙ e

    extent : ok.extent ≡ x
    extent = let q = same in cc

    resource : l.resource ≡ r
    resource = ap (λ (k : Lock). k.resource) (sym is ∙ ok.of_lock) ∙ (let q = same in cc)

    of_mode : l.ask.mode ≡ mode
    of_mode = ap (λ (k : Lock). k.ask.mode) (sym is ∙ ok.of_lock) ∙ (let q = same in cc)

no_lock : (d : Deed) (l : Lock) → brought d.op d.reply ≡ [] → In l (brought d.op d.reply) → CoversAsked d l
no_lock d l none i = absurd (subst (λ (ls : List Lock). In l ls) none i)

brought_as : (head : Head) (past : List Line) (t : ℕ) → 0 < t → Grown head past → (d : Deed) (l : Lock)
    → ((r : Resource) (mode : Mode) (x : Extent) → d.op ≡ op.Enqueue r mode x → x.last ≤ the_end) → Acted (only t past) d
    → In l (brought d.op d.reply) → CoversAsked d l
brought_as head [] t high g d l low a i = absurd a
brought_as head (x ∷ past) t high g d l low a i =
    cond_both (concerns t x.at.node x.entry) (x ∷ only t past) (only t past) (λ (p : List Line). Acted p d → CoversAsked d l)
    (λ o b. by x.at.node x.entry g.0 o b (λ c. brought_as head past t high g.1 d l low c i))
    (λ o b. brought_as head past t high g.1 d l low b i)
    a
  where
    Old : Type 0
    Old = Acted (only t past) d → CoversAsked d l

    At_line : Node → At
    At_line node = turn x.at.stamp node

    gives : (k : Deed) → k ≡ d → (In l (brought k.op k.reply) → CoversAsked k l) → CoversAsked d l
    gives k q f = subst (λ (y : Deed). (In l (brought y.op y.reply) → CoversAsked y l)) q f i

    here : (u : ℕ) → nat_eq t u ≡ true → 0 < u
    here u o = subst (λ (v : ℕ). 0 < v) (eqb-true t u o) high

    acts : (u : ℕ) (k : Deed) → 0 < u → ActsOk head.osts (only t past) (At_line (Target u)) u k → In l (brought k.op k.reply)
        → CoversAsked k l
    acts u k above ok j r mode y e = absurd (by ok)
      where
        by : ActsOk head.osts (only t past) (At_line (Target u)) u k → ⊥
        by (inl z) = let zero = z.0 in absurd (omega (arith, above, zero))
        by (inr z) = let q : op.Size z.1.resource ≡ op.Enqueue r mode y = sym (ap (λ (v : Deed). v.op) z.1.is ∙ z.1.of_op) ∙ e
            in absurd (cc)

    ranges : (u : ℕ) (lock : Lock) (k : Deed) → 0 < u → k ≡ d → GrantsOk head.osts (only t past) (At_line (Target u)) u lock k
        → In l (brought k.op k.reply) → CoversAsked k l
    ranges u lock k above q (inl z) j = absurd (let zero = z.0 in omega (arith, above, zero))
    ranges u lock k above q (inr z) j = range_now head (only t past) t (At_line (Target u)) lock k l z.1
        (subst (λ (v : Deed). (r : Resource) (mode : Mode) (y : Extent) → v.op ≡ op.Enqueue r mode y → y.last ≤ the_end) (sym q) low) j

    by : (node : Node) (e : Entry) → Allowed head past (At_line node) e → concerns t node e ≡ true
        → Acted (line (At_line node) e ∷ only t past) d → Old → CoversAsked d l
    by (Client c) (Act k) ok o b h = absurd ok.ok
    by (Client c) (Made k) ok o b h = absurd ok.ok
    by (Client c) (Grant lock asked) ok o b h = absurd ok.ok
    by (Client c) (Wait lock k) ok o b h = absurd ok.ok
    by (Client c) (Answers k) ok o b h = absurd ok.ok
    by (Target u) (Act k) ok o (inl q) h = gives k q (acts u k (here u o) (ok.of t o))
    by (Target u) (Act k) ok o (inr b) h = h b
    by (Target u) (Made k) ok o (inl q) h = gives k q (no_lock k l
        (txns_brings head.osts (only t past) (At_line (Target u)) u k (ok.of t o)))
    by (Target u) (Made k) ok o (inr b) h = h b
    by (Target u) (Grant lock (Some k)) ok o (inl q) h = gives k (some_is k d q) (ranges u lock k (here u o) (some_is k d q) (ok.of t o))
    by (Target u) (Grant lock None) ok o (inl q) h = absurd (cc)
    by (Target u) (Grant lock asked) ok o (inr b) h = h b
    by (Target u) (Wait lock k) ok o (inl q) h = gives k q (no_lock k l
        (wait_brings head.osts (only t past) (At_line (Target u)) lock k (ok.of t o).1))
    by (Target u) (Wait lock k) ok o (inr b) h = h b
    by (Target u) (Answers k) ok o (inl q) h = gives k q (no_lock k l
        (answers_brings head.osts (only t past) (At_line (Target u)) u k (ok.of t o).1))
    by (Target u) (Answers k) ok o (inr b) h = h b
    by node e ok o b h = h b

-- ---- so each lock that was given

pub covers_asked : (head : Head) (past : List Line) (t : ℕ) → 0 < t → Grown head past → (d : Deed) (l : Lock) → Gave (only t past) d l
    → CoversAsked d l
covers_asked head past t high g d l gave = by gave.1
  where
    by : In l (brought d.op d.reply) ⊎ (Promoted (only t past) l × (tells_wait d.op d.reply.answer l.cookie.0 ≡ true)) → CoversAsked d l
    by (inl i) = brought_as head past t high g d l (asked_low head past t g d gave.0) gave.0 i
    by (inr p) = of (promoted_as head past t g l p.0)
      where
        of : PromotedAs (only t past) l → CoversAsked d l
        of k r mode x e =
            let same = (((holds head past g).at t).locks.once k.deed d l l (k.acted, inr (p.0, k.tells)) gave refl).0 in
            let q : op.Enqueue l.resource l.ask.mode k.extent ≡ op.Enqueue r mode x = sym k.of_op ∙ ap (λ (y : Deed). y.op) same ∙ e in
            let extent : k.extent ≡ x = cc in
            (cc, cc, ap (λ (y : Extent). covers l.ask.policy (Range y)) (sym extent) ∙ k.covers)

-- ---- what was given was given after a further line

pub given_line : (t : ℕ) (x : Line) (past : List Line) (d : Deed) (l : Lock) → Gave (only t past) d l → Gave (only t (x ∷ past)) d l
given_line t x past d l k = (
  only_more t x past d k.0,
  ⊎_elim (λ (i : In l (brought d.op d.reply)). inl i) (λ (p : Promoted (only t past) l
      × (tells_wait d.op d.reply.answer l.cookie.0 ≡ true)). inr (more p.0, p.1)) k.1,
)
  where
    entry : (e : Entry) → Promoted (only t past) l → Promoted (line x.at e ∷ only t past) l
    entry (Grant k asked) p = inr p
    entry e p = p

    more : Promoted (only t past) l → Promoted (only t (x ∷ past)) l
    more p = cond_both (concerns t x.at.node x.entry) (x ∷ only t past) (only t past) (λ (q : List Line). Promoted q l)
        (λ o. entry x.entry p) (λ o. p)
