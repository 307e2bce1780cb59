-- The locks that a close restores by the laws, those that the lives that stay handed in, are those of its outcome, and their lines follow
-- it in the turn.
use Rattle.std.proofs.Common.{◌≡◌, ℕ, ◌<◌, ◌≤◌, Bool, true, false, List, [], ◌∷◌, ◌++◌, Option, Some, None, inl, inr, refl, sym, subst, ap}
use Rattle.std.proofs.Common.{◌∙◌, arith}
use Rattle.std.specs.Prelude.{nat_eq, not, ◌&&◌, if◌then◌else◌, is_none}
use Rattle.std.specs.Bool.{then_some}
use Rattle.std.specs.List.{list_any}
use Rattle.std.proofs.lemmas.Bool.{and_parts, and_from, eqb-true, not_from_false, true≢false, not-true}
use Rattle.lu_base.specs.declared.ids.Cookie.{Cookie}
use Rattle.lu_base.specs.declared.ids.Node.{Node}
use Rattle.lu_base.specs.declared.ids.Node.TheVariants.{Client, Target}
use Rattle.lu_base.specs.declared.ids.Stamp.{Stamp}
use Rattle.lu_base.specs.declared.ids.Who.{Who}
use Rattle.lu_base.specs.declared.locks.Cause.{Cause}
use Rattle.lu_base.specs.declared.locks.Lock.{Lock}
use Rattle.lu_msg.specs.declared.messages.LockReplay.{LockReplay}
use Rattle.lu_msg.specs.declared.messages.Message.{Message}
use Rattle.lu_msg.specs.declared.messages.Message.TheVariants as message
use Rattle.lu_trace.specs.declared.entries.Line.{Line as PrintedLine}
use Rattle.lu_spec_machine.specs.Footprint.{Every}
use Rattle.lu_spec_entries.specs.Carried.{Deed, Gone, Outcome}
use Rattle.lu_spec_entries.specs.Words.{Entry, Send, Close, Restore, Line, line, same_life}
use Rattle.lu_spec_entries.specs.Concerns.{concerns, only}
use Rattle.lu_spec_entries.specs.Printed.{printed_entry, printed}
use Rattle.lu_spec_client.specs.Recovery.{lock_replayed}
use Rattle.lu_spec_target.specs.Lives.{is_life, lives_of as lives_in}
use Rattle.lu_spec_target.specs.Recovery.{kept_lines, restore_lines}
use Rattle.lu_spec_target.specs.Rows.{lock_again}
use Rattle.lu_spec_target.specs.Windows as window
use Rattle.lu_proof_lawful.specs.Covered.TargetStates.{server_of, lives_of, brought_of}
use Rattle.lu_proof_lawful.specs.Covered.TargetCloses as story
use Rattle.lu_proof_lawful.specs.Covered.TargetCloses.{shows_evicted, shows_ready, shows_joined, staying, shows}
use Rattle.lu_proof_lawful.specs.Covered.Heads.{Head}
use Rattle.lu_spec_laws.specs.Words.Pasts.{or_else}
use Rattle.lu_spec_laws.specs.Words.Boots.{boot}
use Rattle.lu_spec_laws.specs.Words.Slots.{has_slot}
use Rattle.lu_spec_laws.specs.Words.Handed.{handed, is_lock_of, with_handed_lock, locks}
use Rattle.lu_spec_laws.specs.Words.Closes.{cause_at, stays_at, lock_of, restored_at, is_lock, restores_as}
use Rattle.lu_spec_laws.specs.Laws.Recovery.{Restores}
use Rattle.lu_proof_lawful.proofs.Preconditions.Guards.{In, Was}
use Rattle.lu_proof_lawful.proofs.Preconditions.StoryGuards.{CloseOk}
use Rattle.lu_proof_lawful.proofs.Preconditions.Grown.{Allowed, Grown}
use Rattle.lu_proof_lawful.proofs.Preconditions.ClientLocks.{in_map, in_mapped, any_true, any_passes}
use Rattle.lu_proof_lawful.proofs.Preconditions.Lists.{self, in_filter, in_filtered, life_is, life_self}
use Rattle.lu_proof_lawful.proofs.Preconditions.LifeLists.{life_stands, stands_life}
use Rattle.lu_proof_lawful.proofs.Preconditions.Only.{grown_of}
use Rattle.lu_proof_lawful.proofs.Invariants.Groups.{turn, BroughtRise, HoldsAt}
use Rattle.lu_proof_lawful.proofs.Invariants.TargetGroups.{HasSlot, Gave}
use Rattle.lu_proof_lawful.proofs.Invariants.All.{holds}
use Rattle.lu_proof_lawful.proofs.Invariants.LocksClose.{apart_filter, granted_apart, restores_all}
use Rattle.lu_proof_lawful.proofs.Invariants.PartsStay.{in_every}
use Rattle.lu_proof_lawful.proofs.Laws.Taking.{handed_is, boot_of, taken_of}
use Rattle.lu_proof_lawful.proofs.Laws.CloseLines.{StandFirst, turned, first, next_turned, stands_first}
use Rattle.lu_proof_lawful.proofs.Laws.CloseSlots.{recovering_none, slot_now, now_slot}
use Rattle.lu_proof_lawful.proofs.Laws.Backs.{taken_was, agrees}
use Rattle.lu_proof_lawful.proofs.Laws.LostNumbers as numbers
use Rattle.lu_proof_lawful.proofs.Laws.LostNumbers.{lost_at as lost_before}
use Rattle.lu_proof_lawful.proofs.Laws.CloseDecides.{first_pass, first_stop, says_of, prints_says, gone_law, law_gone}

-- ---- what was handed in

handed_lock : (b : ℕ) (ms : List Message) (r : LockReplay) → In r (locks b ms) → In (message.Lock r) ms × (r.boot ≡ b)
handed_lock b [] r i = absurd i
handed_lock b (m ∷ ms) r i = by m i (handed_lock b ms r)
  where
    older : (m : Message) → (In r (locks b ms) → In (message.Lock r) ms × (r.boot ≡ b)) → In r (locks b ms) → In (message.Lock r) (m ∷ ms)
        × (r.boot ≡ b)
    older m h j = let k = h j in (inr k.0, k.1)

    by : (m : Message) → In r (with_handed_lock b m (locks b ms)) → (In r (locks b ms) → In (message.Lock r) ms × (r.boot ≡ b))
        → In (message.Lock r) (m ∷ ms) × (r.boot ≡ b)
    by (message.Lock x) i h = of (nat_eq x.boot b && not (list_any (is_lock_of x) (locks b ms))) refl i
      where
        of : (c : Bool) → (nat_eq x.boot b && not (list_any (is_lock_of x) (locks b ms))) ≡ c
            → In r (if c then x ∷ locks b ms else locks b ms) → In (message.Lock r) (message.Lock x ∷ ms) × (r.boot ≡ b)
        of true q (inl e) = (
          inl (ap (λ (v : LockReplay). message.Lock v) e),
          ap (λ (v : LockReplay). v.boot) (sym e)
              ∙ eqb-true x.boot b (and_parts (nat_eq x.boot b) _ q).0,
        )
        of true q (inr j) = older (message.Lock x) h j
        of false q j = older (message.Lock x) h j
    by m i h = older m h i

-- a lock that was handed in was sent by a client, which the target's story has
lock_sent : (head : Head) (t : ℕ) (past : List Line) (from : Node) (r : LockReplay) → Grown head past
    → Was past from (Target t) (message.Lock r) → Was (only t past) from (Target t) (message.Lock r)
lock_sent head t [] from r g w = absurd w
lock_sent head t (l ∷ past) from r g w = by l.at.node l.entry g.0 w (lock_sent head t past from r g.1)
  where
    P : List Line
    P = only t past

    W : List Line → Type 0
    W p = Was p from (Target t) (message.Lock r)

    more : (x : Line) (b : Bool) → W P → W (if b then x ∷ P else P)
    more x false w = w
    more x true w = by x.entry
      where
        by : (e : Entry) → W (line x.at e ∷ P)
        by (Send to m) = inr w
        by _ = w

    new : (node to : Node) (m : Message) → Allowed head past (turn l.at.stamp node) (Send to m) → node ≡ from → to ≡ Target t → m
        ≡ message.Lock r → W (only t (line (turn l.at.stamp node) (Send to m) ∷ past))
    new (Client c) to m a p q s =
        subst (λ (b : Bool). W (if b then line (turn l.at.stamp (Client c)) (Send to m) ∷ P else P))
        (sym (ap (λ (v : Node). concerns t (Client c) (Send v m)) q ∙ self t)) (inl (p, q, s))
    new (Target u) to m a p q s = absurd (subst (λ (v : Message). Allowed head past (turn l.at.stamp (Target u)) (Send (Target t) v)) s
        (subst (λ (v : Node). Allowed head past (turn l.at.stamp (Target u)) (Send v m)) q a)).ok

    by : (node : Node) (e : Entry) → Allowed head past (turn l.at.stamp node) e
        → Was (line (turn l.at.stamp node) e ∷ past) from (Target t) (message.Lock r) → (Was past from (Target t) (message.Lock r) → W P)
        → W (only t (line (turn l.at.stamp node) e ∷ past))
    by node (Send to m) a (inl p) h = new node to m a p.0 p.1 p.2
    by node (Send to m) a (inr w) h = more (line (turn l.at.stamp node) (Send to m)) (concerns t node (Send to m)) (h w)
    by node e a w h = more (line (turn l.at.stamp node) e) (concerns t node e) (h w)

-- by one of the run's clients
lock_teller : (head : Head) (past : List Line) (from to : Node) (r : LockReplay) → Grown head past → Was past from to (message.Lock r)
    → r.who.client < head.clients
lock_teller head [] from to r g w = absurd w
lock_teller head (l ∷ past) from to r g w = by l.at.node l.entry g.0 w (lock_teller head past from to r g.1)
  where
    new : (node to : Node) → Allowed head past (turn l.at.stamp node) (Send to (message.Lock r)) → r.who.client < head.clients
    new (Client c) (Target t) a =
        let ok = a.of t (self t) in
        subst (λ (n : ℕ). n < head.clients) (sym (ap (λ (w : Who). w.client) ok.tells.of_life
        ∙ ((holds head past g.1).at t).phase.client c)) a.lives.one
    new (Client c) (Client d) a = absurd a.ok
    new (Target u) (Client d) a = absurd a.ok
    new (Target u) (Target t) a = absurd a.ok

    by : (node : Node) (e : Entry) → Allowed head past (turn l.at.stamp node) e
        → Was (line (turn l.at.stamp node) e ∷ past) from to (message.Lock r)
        → (Was past from to (message.Lock r) → r.who.client < head.clients) → r.who.client < head.clients
    by node (Send k m) a (inl p) h = new node k (subst (λ (v : Message). Allowed head past (turn l.at.stamp node) (Send k v)) p.2 a)
    by node (Send k m) a (inr w) h = h w
    by node e a w h = h w

-- ---- lines that show what is restored

abbrev restores_here : Who → ℕ → Entry → Option Lock
restores_here who cookie (Restore lock) = then_some (is_lock who cookie lock) lock
restores_here who cookie _ = None

restores_prints : (who : Who) (cookie m : ℕ) (e : Entry) → says_of (restores_as who cookie) (printed_entry m e) ≡ restores_here who cookie e
restores_prints who cookie m (Restore lock) = refl
restores_prints who cookie m e = refl

kept_none : (who : Who) (cookie : ℕ) (ds : List Deed) → first (restores_here who cookie) (kept_lines ds) ≡ None
kept_none who cookie [] = refl
kept_none who cookie (d ∷ ds) = kept_none who cookie ds

restore_first : (who : Who) (cookie : ℕ) (lock : Lock) (ls : List Lock) → In lock ls → is_lock who cookie lock ≡ true
    → ((k : Lock) → In k ls → is_lock who cookie k ≡ true → k ≡ lock) → first (restores_here who cookie) (restore_lines ls) ≡ Some lock
restore_first who cookie lock [] i e one = absurd i
restore_first who cookie lock (k ∷ ls) i e one = by (is_lock who cookie k) refl i
    (λ j. restore_first who cookie lock ls j e (λ x m. one x (inr m)))
  where
    by : (b : Bool) → is_lock who cookie k ≡ b → In lock (k ∷ ls)
        → (In lock ls → first (restores_here who cookie) (restore_lines ls) ≡ Some lock)
        → or_else (then_some b k) (first (restores_here who cookie) (restore_lines ls)) ≡ Some lock
    by true q j h = ap (λ (v : Lock). Some v) (one k (inl refl) q)
    by false q (inl s) h = absurd (true≢false (sym e ∙ ap (is_lock who cookie) (sym s) ∙ q))
    by false q (inr j) h = h j

-- ---- at a close

module _ (clients : ℕ) (head : Head) (t : ℕ) (past : List Line) (stamp : Stamp) (o : Outcome) (here : nat_eq t t ≡ true)
    (k : Allowed head past (turn stamp (Target t)) (Close o)) (g : Grown head past) (few : clients ≤ head.clients) where
  ok : CloseOk head (only t past) (turn stamp (Target t)) o
  ok = k.of t here

  h : HoldsAt head (only t past)
  h = (holds head past g).at t

  -- what a lock that was brought is
  brought : (l : Lock) → In l (brought_of (only t past)) → (d : Deed) × Gave (only t past) d l
  brought l i = let r = (h.recovers.brought ok.recovers l i).2.0 in (r.0, r.1)

  one_lock : (k l : Lock) → ((d : Deed) × Gave (only t past) d k) → ((d : Deed) × Gave (only t past) d l) → k.cookie.0 ≡ l.cookie.0 → k ≡ l
  one_lock k l a b e = (h.locks.once a.0 b.0 k l a.1 b.1 (ap (λ (n : ℕ). cookie n) e)).1
    where
      cookie : ℕ → Cookie
      cookie n = record { 0 = n }

  -- the outcome's locks
  locks_are : o.locks ≡ window.staying o.gone (brought_of (only t past))
  locks_are = subst (λ (v : Outcome). v.locks ≡ window.staying v.gone (brought_of (only t past))) (sym ok.is)
      (restores_all [] (window.staying gone (brought_of (only t past))) (λ l k i j. absurd j)
      (apart_filter (λ (l : Lock). not (is_life l.ask.who (lives_in gone))) (brought_of (only t past))
      (granted_apart head.osts head.clients (only t past) h.locks (brought_of (only t past)) h.recovers.brought_rise
      (λ l i. h.locks.brought ok.recovers l i))))
    where
      gone : List Gone
      gone = (story.outcome_of head.osts head.clients (turn stamp (Target t)) (only t past)).gone

  -- a lock that a life that stays handed in
  record IsRestored (r : LockReplay) : Type 0 where
    among : In (lock_of r) (brought_of (only t past))
    has : HasSlot head.clients (only t past) r.who

  restored_lock : (r : LockReplay) → In r (locks (boot t (printed past)) (handed t (printed past))) → has_slot t (printed past) r.who ≡ true
      → IsRestored r
  restored_lock r i slot =
      let bs = boot_of head t past g in
      let ms = handed_is head t past g in
      let j : In r (locks (server_of head.osts (only t past)).boot (taken_of (only t past))) =
      subst (λ (v : List Message). In r (locks (server_of head.osts (only t past)).boot v)) ms
      (subst (λ (b : ℕ). In r (locks b (handed t (printed past)))) bs i) in
      let a = handed_lock (server_of head.osts (only t past)).boot (taken_of (only t past)) r j in
      let was = taken_was head t past (message.Lock r) g a.0 in
      let has : HasSlot head.clients (only t past) r.who = now_slot head t past g
      (recovering_none head (only t past) (grown_of head t past g) ok.recovers) r.who slot
      (lock_teller head past was.0 (Target t) r g was.1) in
      let told = h.recovers.told was.0 (Target t) (message.Lock r) (lock_sent head t past was.0 r g was.1) ok.recovers
      (let e = a.1 in omega (arith, e)) has in
      let l : Lock = told.0 in
      let same : l ≡ lock_of r = whole l r told.2 ∙ ap lock_of (sym told.3) in
      let alike = agrees head t past g ok.recovers None (numbers.none_noted head t past stamp o here k g (lost_before head t past g)) in
      let there : list_any (window.is_lock (lock_again r)) (brought_of (only t past)) ≡ true = sym (alike.locks_are.has r has)
      ∙ any_passes (is_lock_of r) r (locks (server_of head.osts (only t past)).boot (taken_of (only t past))) j (itself r) in
      let b = any_true (window.is_lock (lock_again r)) (brought_of (only t past)) there in
      let cookie = eqb-true b.0.cookie.0 (lock_again r).cookie.0
      (and_parts (nat_eq b.0.cookie.0 (lock_again r).cookie.0) (same_life b.0.ask.who r.who) b.2).0 in
      let given : (d : Deed) × Gave (only t past) d (lock_of r) =
      subst (λ (v : Lock). (d : Deed) × Gave (only t past) d v) same (told.1.0.0, told.1.0.1) in
      record {
        among = subst (λ (v : Lock). In v (brought_of (only t past))) (one_lock b.0 (lock_of r) (brought b.0 b.1) given cookie) b.1;
        has = has;
      }
    where
      -- what was told of a lock is that lock
      whole : (l : Lock) (r : LockReplay) → l.ask.who ≡ r.who → l ≡ lock_of (lock_replayed r.who r.boot l)
      whole l r e = ap (λ (w : Who). with_who w) e
        where
          with_who : Who → Lock
          with_who w = record {
            cookie = l.cookie;
            resource = l.resource;
            ask =
                record { who = w; mode = l.ask.mode; policy = l.ask.policy };
          }

      itself : (r : LockReplay) → is_lock_of r r ≡ true
      itself r = and_from (same_life r.who r.who) (nat_eq r.cookie.0 r.cookie.0) (life_self r.who) (self r.cookie.0)

  stays_on : (who : Who) → HasSlot head.clients (only t past) who → is_none (cause_at t (printed past) who) ≡ true
      → is_life who (lives_in o.gone) ≡ false
  stays_on who has e = by (is_life who (lives_in o.gone)) refl
    where
      no_cause : (c : Cause) → cause_at t (printed past) who ≡ Some c → ⊥
      no_cause c q = let s : is_none (Some c) ≡ true = ap is_none (sym q) ∙ e in absurd (cc)

      by : (b : Bool) → is_life who (lives_in o.gone) ≡ b → b ≡ false
      by false q = refl
      by true q =
          let x = in_map (λ (v : Gone). v.who) who o.gone (stands_life who (lives_in o.gone) q) in
          let c = gone_law clients head t past stamp o here k g few x.0 x.1 in
          absurd (no_cause x.0.cause (ap (cause_at t (printed past)) (sym x.2) ∙ c.1))

  -- a lock of the outcome is one that a life that stays handed in
  pub lock_law : (lock : Lock) → In lock o.locks → In lock (restored_at t (printed past))
  lock_law lock i =
      let f = in_filter (λ (l : Lock). not (is_life l.ask.who (lives_in o.gone))) lock (brought_of (only t past))
      (subst (λ (ls : List Lock). In lock ls) locks_are i) in
      let given = h.recovers.brought ok.recovers lock f.0 in
      let b = (server_of head.osts (only t past)).boot in
      let x : LockReplay = lock_replayed lock.ask.who b lock in
      let alike = agrees head t past g ok.recovers None (numbers.none_noted head t past stamp o here k g (lost_before head t past g)) in
      let there : list_any (is_lock_of x) (locks b (taken_of (only t past))) ≡ true =
      alike.locks_are.has x given.0
      ∙ any_passes (window.is_lock lock) lock (brought_of (only t past)) f.0
      (and_from (nat_eq lock.cookie.0 lock.cookie.0) (same_life lock.ask.who lock.ask.who) (self lock.cookie.0)
      (life_self lock.ask.who))
      in
      let r = any_true (is_lock_of x) (locks b (taken_of (only t past))) there in
      let same = and_parts (same_life lock.ask.who r.0.who) (nat_eq lock.cookie.0 r.0.cookie.0) r.2 in
      let who : lock.ask.who ≡ r.0.who = life_is lock.ask.who r.0.who same.0 in
      let j : In r.0 (locks (boot t (printed past)) (handed t (printed past))) =
      subst (λ (ms : List Message). In r.0 (locks (boot t (printed past)) ms)) (sym (handed_is head t past g))
      (subst (λ (n : ℕ). In r.0 (locks n (taken_of (only t past)))) (sym (boot_of head t past g)) r.1) in
      let slot : has_slot t (printed past) r.0.who ≡ true = subst (λ (w : Who). has_slot t (printed past) w ≡ true) who
      (slot_now head t past g (recovering_none head (only t past) (grown_of head t past g) ok.recovers) lock.ask.who given.0) in
      let stays : is_none (cause_at t (printed past) r.0.who) ≡ true =
      subst (λ (w : Who). is_none (cause_at t (printed past) w) ≡ true) who
      (no_cause lock.ask.who given.0 (not-true (is_life lock.ask.who (lives_in o.gone)) f.1)) in
      let is : lock_of r.0 ≡ lock = one_lock (lock_of r.0) lock (brought (lock_of r.0) (restored_lock r.0 j slot).among) (brought lock f.0)
      (sym (eqb-true lock.cookie.0 r.0.cookie.0 same.1)) in
      subst (λ (v : Lock). In v (restored_at t (printed past))) is
      (in_mapped lock_of r.0 _ (in_filtered (λ (r : LockReplay). stays_at t (printed past) r.who) r.0
      (locks (boot t (printed past)) (handed t (printed past))) j
      (and_from (has_slot t (printed past) r.0.who) (is_none (cause_at t (printed past) r.0.who)) slot stays)))
    where
      no_cause : (who : Who) → HasSlot head.clients (only t past) who → is_life who (lives_in o.gone) ≡ false
          → is_none (cause_at t (printed past) who) ≡ true
      no_cause who has out = by (cause_at t (printed past) who) refl
        where
          by : (c : Option Cause) → cause_at t (printed past) who ≡ c → is_none c ≡ true
          by None q = refl
          by (Some cause) q = absurd (true≢false (sym (life_stands who (lives_in o.gone)
              (in_mapped (λ (x : Gone). x.who) (record { who = who; cause = cause }) o.gone
              (law_gone clients head t past stamp o here k g few who cause has q))) ∙ out))

  -- and of one life and cookie there is one
  pub law_lock : (lock : Lock) → In lock (restored_at t (printed past)) → In lock (brought_of (only t past))
  law_lock lock i =
      let r = in_map lock_of lock _ i in
      let f = in_filter (λ (r : LockReplay). stays_at t (printed past) r.who) r.0 (locks (boot t (printed past)) (handed t (printed past)))
      r.1 in
      let s = and_parts (has_slot t (printed past) r.0.who) (is_none (cause_at t (printed past) r.0.who)) f.1 in
      subst (λ (v : Lock). In v (brought_of (only t past))) r.2 (restored_lock r.0 f.0 s.0).among

  pub same_lock : (k l : Lock) → In k (brought_of (only t past)) → In l (brought_of (only t past)) → k.cookie.0 ≡ l.cookie.0 → k ≡ l
  same_lock k l i j e = one_lock k l (brought k i) (brought l j) e

  pub outcome_lock : (lock : Lock) → In lock o.locks → In lock (brought_of (only t past))
  outcome_lock lock i = (in_filter (λ (l : Lock). not (is_life l.ask.who (lives_in o.gone))) lock (brought_of (only t past))
      (subst (λ (ls : List Lock). In lock ls) locks_are i)).0

  pub locks_rise : BroughtRise o.locks
  locks_rise = subst BroughtRise (sym locks_are) (filtered (brought_of (only t past)) h.recovers.brought_rise)
    where
      filtered : (ls : List Lock) → BroughtRise ls → BroughtRise (window.staying o.gone ls)
      filtered [] r = tt
      filtered (l ∷ ls) r = by (not (is_life l.ask.who (lives_in o.gone))) (filtered ls r.1)
        where
          by : (b : Bool) → BroughtRise (window.staying o.gone ls)
              → BroughtRise (if b then l ∷ window.staying o.gone ls else window.staying o.gone ls)
          by true q = (λ x i. r.0 x (in_filter (λ (v : Lock). not (is_life v.ask.who (lives_in o.gone))) x ls i).0, q)
          by false q = q

  module _ (later : List PrintedLine) (rest : StandFirst (shows o (lives_of head.clients (only t past)))
      (turned (turn stamp (Target t)) later)) where
    restores_one : (lock : Lock) → In lock o.locks → Restores (turn stamp (Target t)) later lock
    restores_one lock i =
        next_turned (restores_as lock.ask.who lock.cookie.0) (turn stamp (Target t)) later
        ∙ stands_first (restores_here lock.ask.who lock.cookie.0) (restores_as lock.ask.who lock.cookie.0)
        (prints_says (restores_as lock.ask.who lock.cookie.0) (restores_here lock.ask.who lock.cookie.0)
        (restores_prints lock.ask.who lock.cookie.0))
        (shows o (lives_of head.clients (only t past))) (turned (turn stamp (Target t)) later) lock rest
        (first_pass (restores_here lock.ask.who lock.cookie.0) (kept_lines o.kept) (restore_lines o.locks ++ others)
        (kept_none lock.ask.who lock.cookie.0 o.kept)
        ∙ first_stop (restores_here lock.ask.who lock.cookie.0) (restore_lines o.locks) others lock
        (restore_first lock.ask.who lock.cookie.0 lock o.locks i
        (and_from (same_life lock.ask.who lock.ask.who) (nat_eq lock.cookie.0 lock.cookie.0) (life_self lock.ask.who)
        (self lock.cookie.0))
        (λ x j e. one_lock x lock (brought x (mine x j)) (brought lock (mine lock i))
        (eqb-true x.cookie.0 lock.cookie.0 (and_parts (same_life x.ask.who lock.ask.who) (nat_eq x.cookie.0 lock.cookie.0) e).1))))
      where
        others : List Entry
        others = shows_evicted o o.gone ++ (shows_ready o (staying o (lives_of head.clients (only t past))) ++ shows_joined o o.joins)

        mine : (x : Lock) → In x o.locks → In x (brought_of (only t past))
        mine x j = (in_filter (λ (l : Lock). not (is_life l.ask.who (lives_in o.gone))) x (brought_of (only t past))
            (subst (λ (ls : List Lock). In x ls) locks_are j)).0

    pub restores : Every (Restores (turn stamp (Target t)) later) (restored_at t (printed past))
    restores = in_every (Restores (turn stamp (Target t)) later) (restored_at t (printed past)) (λ lock i.
        let r = in_map lock_of lock _ i in
        let f = in_filter (λ (r : LockReplay). stays_at t (printed past) r.who) r.0
        (locks (boot t (printed past)) (handed t (printed past))) r.1 in
        let s = and_parts (has_slot t (printed past) r.0.who) (is_none (cause_at t (printed past) r.0.who)) f.1 in
        let l = restored_lock r.0 f.0 s.0 in
        subst (λ (v : Lock). Restores (turn stamp (Target t)) later v) r.2
        (restores_one (lock_of r.0) (subst (λ (ls : List Lock). In (lock_of r.0) ls) (sym locks_are)
        (in_filtered (λ (x : Lock). not (is_life x.ask.who (lives_in o.gone))) (lock_of r.0) (brought_of (only t past)) l.among
        (not_from_false (is_life r.0.who (lives_in o.gone)) (stays_on r.0.who l.has s.1))))))
