-- What every covered run keeps of what a close shows: a transaction that it keeps was replayed, a lock that it restores was handed in, and
-- a life
-- that it gives a slot asked to join, each since the target's last boot and under that boot; and all of it stands in the turn of the close.
use Rattle.std.proofs.Common.{◌≡◌, ℕ, Bool, true, false, List, [], ◌∷◌, Option, Some, None, ◌⊎◌, inl, inr, ⊎_elim, refl, sym, subst, ap}
use Rattle.std.proofs.Common.{◌∙◌, arith}
use Rattle.std.specs.Prelude.{nat_eq, ◌&&◌, if◌then◌else◌}
use Rattle.std.specs.List.{list_any}
use Rattle.std.proofs.lemmas.Bool.{and_parts, eqb-true, eq-eqb}
use Rattle.lu_base.specs.declared.ids.At.{At}
use Rattle.lu_base.specs.declared.ids.Node.{Node}
use Rattle.lu_base.specs.declared.ids.Node.TheVariants.{Client, Target}
use Rattle.lu_base.specs.declared.ids.Stamp.{Stamp}
use Rattle.lu_base.specs.declared.ids.Who.{Who}
use Rattle.lu_base.specs.declared.locks.Cause.{Cause}
use Rattle.lu_base.specs.declared.locks.Lock.{Lock}
use Rattle.lu_msg.specs.declared.messages.LockReplay.{LockReplay}
use Rattle.lu_msg.specs.declared.messages.Message.{Message}
use Rattle.lu_msg.specs.declared.messages.Message.TheVariants as message
use Rattle.lu_msg.specs.declared.messages.RequestReplay.{RequestReplay}
use Rattle.lu_spec_machine.specs.Tree.{same_life}
use Rattle.lu_trace.specs.declared.entries.Entry.{Entry as PrintedEntry}
use Rattle.lu_trace.specs.declared.entries.Entry.TheVariants as trace
use Rattle.lu_trace.specs.declared.entries.Line.{Line as PrintedLine}
use Rattle.lu_spec_entries.specs.Carried.{Deed, Gone, Outcome}
use Rattle.lu_spec_entries.specs.Words.{Entry, Send, Take, Boot, Close, Kept as Keeps_, Restore, Evict, Joined as Joins, Stores, Brings}
use Rattle.lu_spec_entries.specs.Words.{Wishes, Line, line}
use Rattle.lu_spec_entries.specs.Concerns.{concerns, only}
use Rattle.lu_spec_entries.specs.Printed.{printed}
use Rattle.lu_spec_target.specs.Kept.{replayed}
use Rattle.lu_spec_target.specs.Recovery.{kept_lines, restore_lines}
use Rattle.lu_spec_target.specs.Windows.{Replayed, placed, replay_before, brought_before, with_wish}
use Rattle.lu_proof_lawful.specs.Covered.TargetStates.{server_of, replays_of, brought_of, wishes_of}
use Rattle.lu_proof_lawful.specs.Covered.TargetCloses.{outcome_of, shows_evicted, shows_ready, shows_joined, staying, shows, but_first}
use Rattle.lu_proof_lawful.specs.Covered.TargetCloses.{closing_of}
use Rattle.lu_proof_lawful.specs.Covered.Heads.{Head}
use Rattle.lu_spec_laws.specs.Holds.{Holds}
use Rattle.lu_spec_laws.specs.Words.Pasts.{Past, is_target, same_turn}
use Rattle.lu_spec_laws.specs.Words.Sends.{message_of}
use Rattle.lu_spec_laws.specs.Words.Boots.{boot}
use Rattle.lu_spec_laws.specs.Words.Handed as words
use Rattle.lu_spec_laws.specs.Words.Handed.{handed}
use Rattle.lu_spec_laws.specs.Order.Handed as order
use Rattle.lu_spec_laws.specs.Order.Handed.{has_closed, since_boot}
use Rattle.lu_spec_laws.specs.Order.Joined.{is_join}
use Rattle.lu_spec_laws.specs.Order.Kept.{is_replay, Kept}
use Rattle.lu_spec_laws.specs.Order.Restored.{lock_of, as_lock, lock_in, Restored}
use Rattle.lu_spec_laws.proofs.Tests.{either_left, either_right}
use Rattle.lu_proof_lawful.proofs.Preconditions.Guards.{In, Was, TookNow, IsTurnOf}
use Rattle.lu_proof_lawful.proofs.Preconditions.StoryGuards.{IsRecovering, Due, CloseOk, StoresOk, BringsOk, WishesOk, EntryOf}
use Rattle.lu_proof_lawful.proofs.Preconditions.ClientLocks.{any_passes}
use Rattle.lu_proof_lawful.proofs.Preconditions.Grown.{Allowed, Grown, GrownOf}
use Rattle.lu_proof_lawful.proofs.Preconditions.Lists.{self, in_filter, life_is, life_self}
use Rattle.lu_proof_lawful.proofs.Preconditions.Only.{grown_of, was_only}
use Rattle.lu_proof_lawful.proofs.Preconditions.CloseLists.{in_wish, in_restored}
use Rattle.lu_proof_lawful.proofs.Invariants.Groups.{turn, HoldsAt}
use Rattle.lu_proof_lawful.proofs.Invariants.TargetGroups.{HasSlot}
use Rattle.lu_proof_lawful.proofs.Invariants.All.{holds}
use Rattle.lu_proof_lawful.proofs.Invariants.CloseFacts.{closing}
use Rattle.lu_proof_lawful.proofs.Invariants.LocksHeard.{numbered}
use Rattle.lu_proof_lawful.proofs.Laws.Turns.{same_turn_self}
use Rattle.lu_proof_lawful.proofs.Laws.Lines.{Keeps, holds_before, Nothing}
use Rattle.lu_proof_lawful.proofs.Laws.Taking.{taken_of, handed_is, boot_of}
use Rattle.lu_proof_lawful.proofs.Laws.Backs.{taken_was}
use Rattle.lu_proof_lawful.proofs.Laws.CloseLines.{IsShow, nothing_left, shown_parts}
use Rattle.lu_proof_lawful.proofs.Laws.OrderlyQuiet.{Says}

-- ---- what was taken since the boot

-- the laws count it in one way
since_handed : (t : ℕ) (p : Past) → since_boot t p ≡ handed t p
since_handed t [] = refl
since_handed t (l ∷ p) = by l.entry (since_handed t p)
  where
    takes : (b : Bool) (o : Option Message) (xs ys : List Message) → xs ≡ ys → order.with_message (if b then o else None) xs
        ≡ (if b then words.with_message o ys else ys)
    takes true None xs ys e = e
    takes true (Some m) xs ys e = ap (λ (v : List Message). m ∷ v) e
    takes false o xs ys e = e

    boots : (b : Bool) (xs ys : List Message) → xs ≡ ys → (if b then [] else xs) ≡ (if b then [] else ys)
    boots true xs ys e = refl
    boots false xs ys e = e

    by : (e : PrintedEntry) → since_boot t p ≡ handed t p → since_boot t (record { at = l.at; entry = e } ∷ p)
        ≡ handed t (record { at = l.at; entry = e } ∷ p)
    by (trace.Take n) h = takes (is_target t l.at.node) (message_of p n) (since_boot t p) (handed t p) h
    by (trace.Boot b) h = boots (is_target t l.at.node) (since_boot t p) (handed t p) h
    by _ h = h

pub since_is : (head : Head) (t : ℕ) (past : List Line) → Grown head past → since_boot t (printed past) ≡ taken_of (only t past)
since_is head t past g = since_handed t (printed past) ∙ handed_is head t past g

-- no target sends to a target
between_targets : (head : Head) (past : List Line) (u t : ℕ) (m : Message) → Grown head past → Was past (Target u) (Target t) m → ⊥
between_targets head [] u t m g w = w
between_targets head (l ∷ past) u t m g w = by l.at.node l.entry g.0 w (between_targets head past u t m g.1)
  where
    by : (node : Node) (e : Entry) → Allowed head past (turn l.at.stamp node) e
        → Was (line (turn l.at.stamp node) e ∷ past) (Target u) (Target t) m → (Was past (Target u) (Target t) m → ⊥) → ⊥
    by (Target v) (Send (Target x) k) a (inl p) h = a.ok
    by (Target v) (Send (Client c) k) a (inl p) h = let e : Client c ≡ Target t = p.1 in cc
    by (Client c) (Send to k) a (inl p) h = let e : Client c ≡ Target u = p.0 in cc
    by node (Send to k) a (inr w) h = h w
    by node e a w h = h w

-- what was taken was sent, as the target's story has it
taken_story : (head : Head) (t : ℕ) (past : List Line) (m : Message) → Grown head past → In m (taken_of (only t past)) → (from : Node)
    × Was (only t past) from (Target t) m
taken_story head t past m g i = let w = taken_was head t past m g i in (w.0, by w.0 w.1)
  where
    by : (from : Node) → Was past from (Target t) m → Was (only t past) from (Target t) m
    by (Client c) w = was_only t past (Client c) (Target t) m (self t) w
    by (Target u) w = absurd (between_targets head past u t m g w)

-- ---- what a window keeps was taken

-- under that boot
pub record ReplayIn (b : ℕ) (taken : List Message) (r : Replayed) : Type 0 where
  pub given : RequestReplay
  pub among : In (message.Replay given) taken
  pub boot : given.boot ≡ b
  pub number : given.txn.0 ≡ r.number

pub record LockIn (b : ℕ) (taken : List Message) (l : Lock) : Type 0 where
  pub given : LockReplay
  pub among : In (message.Lock given) taken
  pub boot : given.boot ≡ b
  pub is : lock_of given ≡ l

-- all of it
pub record KeptIn (b : ℕ) (taken : List Message) (rs : List Replayed) (ls : List Lock) (ws : List Who) : Type 0 where
  pub replays : (r : Replayed) → In r rs → ReplayIn b taken r
  pub brought : (l : Lock) → In l ls → LockIn b taken l
  pub wishes : (w : Who) → In w ws → In (message.Join w b) taken

in_placed : {A : Type 0} (before : A → A → Bool) (x y : A) (ys : List A) → In x (placed before y ys) → (y ≡ x) ⊎ In x ys
in_placed before x y [] i = i
in_placed {A} before x y (z ∷ zs) i = by (before y z) i (in_placed before x y zs)
  where
    by : (b : Bool) → In x (if b then y ∷ z ∷ zs else z ∷ placed before y zs) → (In x (placed before y zs) → (y ≡ x) ⊎ In x zs) → (y ≡ x)
        ⊎ In x (z ∷ zs)
    by true i h = i
    by false (inl e) h = inr (inl e)
    by false (inr i) h = ⊎_elim (λ (e : y ≡ x). inl e) (λ (j : In x zs). inr (inr j)) (h i)

took_among : (past : List Line) (stamp : Stamp) (t : ℕ) (from : Node) (m : Message) → TookNow past (turn stamp (Target t)) from m
    → In m (taken_of past)
took_among [] stamp t from m k = absurd k
took_among (l ∷ past) stamp t from m k = by l.at.node l.entry k
  where
    by : (node : Node) (e : Entry) → TookNow (line (turn l.at.stamp node) e ∷ past) (turn stamp (Target t)) from m
        → In m (taken_of (line (turn l.at.stamp node) e ∷ past))
    by (Target u) (Take n sender k) p = inl p.2
    by (Client c) (Take n sender k) p = absurd (let e : Client c ≡ Target t = ap (λ (v : At). v.node) p.0 in cc)
    by node e p = absurd p

module _ (head : Head) where
  abbrev KeptHere : List Line → Type 0
  KeptHere past = KeptIn (server_of head.osts past).boot (taken_of past) (replays_of past) (brought_of past) (wishes_of past)

  more_taken : (b : ℕ) (m : Message) (taken : List Message) (replays : List Replayed) (brought : List Lock) (wishes : List Who)
      → KeptIn b taken replays brought wishes → KeptIn b (m ∷ taken) replays brought wishes
  more_taken b m taken replays brought wishes h =
      record {
        replays = λ r i. let k = h.replays r i in record { given = k.given; among = inr k.among; boot = k.boot; number = k.number };
        brought = λ l i. let k = h.brought l i in record { given = k.given; among = inr k.among; boot = k.boot; is = k.is };
        wishes = λ w i. inr (h.wishes w i);
      }

  stores_in : (past : List Line) (stamp : Stamp) (t : ℕ) (r : RequestReplay) → StoresOk head past (turn stamp (Target t)) t r
      → KeptHere past → KeptIn (server_of head.osts past).boot (taken_of past) (placed replay_before (replayed r) (replays_of past))
      (brought_of past) (wishes_of past)
  stores_in past stamp t r ok h =
      record {
        replays = λ s i. ⊎_elim
            (λ (e : replayed r ≡ s).
            let number : ok.given.txn.0 ≡ s.number = ap (λ (v : RequestReplay). v.txn.0) (sym ok.is) ∙ ap (λ (v : Replayed). v.number) e in
            record {
              given = ok.given;
              among = took_among past stamp t ok.from (message.Replay ok.given) ok.keeps.took;
              boot =
                  ok.keeps.of_boot;
              number = number;
            })
            (h.replays s)
            (in_placed replay_before s (replayed r) (replays_of past) i);
        brought = h.brought;
        wishes = h.wishes;
      }

  brings_in : (past : List Line) (stamp : Stamp) (t : ℕ) (l : Lock) → BringsOk head past (turn stamp (Target t)) t l → KeptHere past
      → KeptIn (server_of head.osts past).boot (taken_of past) (replays_of past) (placed brought_before l (brought_of past))
      (wishes_of past)
  brings_in past stamp t l ok h =
      record {
        replays = h.replays;
        brought = λ k i. ⊎_elim
            (λ (e : l ≡ k). record {
              given = ok.given;
              among = took_among past stamp t ok.from (message.Lock ok.given) ok.keeps.took;
              boot =
                  ok.keeps.of_boot;
              is = sym ok.is ∙ e;
            })
            (h.brought k)
            (in_placed brought_before k l (brought_of past) i);
        wishes = h.wishes;
      }

  wishes_in : (past : List Line) (stamp : Stamp) (t : ℕ) (w : Who) → WishesOk head past (turn stamp (Target t)) t w → KeptHere past
      → KeptIn (server_of head.osts past).boot (taken_of past) (replays_of past) (brought_of past) (with_wish w (wishes_of past))
  wishes_in past stamp t w ok h =
      record {
        replays = h.replays;
        brought = h.brought;
        wishes = λ x i. ⊎_elim
            (λ (e : w ≡ x). subst (λ (v : Who). In (message.Join v (server_of head.osts past).boot) (taken_of past)) e
            (subst (λ (n : ℕ). In (message.Join w n) (taken_of past)) ok.keeps.of_boot
            (took_among past stamp t ok.from (message.Join w ok.boot) ok.keeps.took)))
            (h.wishes x)
            (in_wish x w (wishes_of past) i);
      }

  nothing_in : (b : ℕ) (taken : List Message) → KeptIn b taken [] [] []
  nothing_in b taken = record { replays = λ r i. absurd i; brought = λ l i. absurd i; wishes = λ w i. absurd i }

  pub kept_here : (past : List Line) → GrownOf head past → KeptHere past
  kept_here [] g = nothing_in 1 []
  kept_here (l ∷ past) g = by l.at.node l.entry g.0 (kept_here past g.3)
    where
      by : (node : Node) (e : Entry) → EntryOf head past (turn l.at.stamp node) node e → KeptHere past
          → KeptHere (line (turn l.at.stamp node) e ∷ past)
      by (Target t) (Take n from m) ok h = more_taken (server_of head.osts past).boot m (taken_of past) (replays_of past) (brought_of past)
          (wishes_of past) h
      by (Target t) (Boot b disk) ok h = nothing_in b []
      by (Target t) (Close o) ok h = nothing_in (server_of head.osts past).boot (taken_of past)
      by (Target t) (Stores r) ok h = stores_in past l.at.stamp t r ok h
      by (Target t) (Brings k) ok h = brings_in past l.at.stamp t k ok h
      by (Target t) (Wishes w) ok h = wishes_in past l.at.stamp t w ok h
      by (Client c) e ok h = h
      by (Target t) e ok h = h

-- ---- a lock is handed in as it is

-- where all that was handed in of that life and cookie is that lock
found_lock : (b : ℕ) (who : Who) (cookie : ℕ) (l : Lock) (ms : List Message)
    → ((r : LockReplay) → In (message.Lock r) ms → r.boot ≡ b → r.who ≡ who → r.cookie.0 ≡ cookie → lock_of r ≡ l)
    → (r : LockReplay) → In (message.Lock r) ms → r.boot ≡ b → r.who ≡ who → r.cookie.0 ≡ cookie → lock_in b who cookie ms ≡ Some l
found_lock b who cookie l [] all r i x y z = absurd i
found_lock b who cookie l (m ∷ ms) all r i x y z = by m (λ k j. all k (inl j)) i
    (λ j. found_lock b who cookie l ms (λ k j. all k (inr j)) r j x y z)
  where
    by : (m : Message) → ((k : LockReplay) → m ≡ message.Lock k → k.boot ≡ b → k.who ≡ who → k.cookie.0 ≡ cookie → lock_of k ≡ l)
        → (m ≡ message.Lock r) ⊎ In (message.Lock r) ms → (In (message.Lock r) ms → lock_in b who cookie ms ≡ Some l)
        → as_lock b who cookie m (lock_in b who cookie ms) ≡ Some l
    by (message.Lock k) is i h = of (nat_eq k.boot b && same_life k.who who && nat_eq k.cookie.0 cookie) refl
      where
        own : (k ≡ r) → (nat_eq k.boot b && same_life k.who who && nat_eq k.cookie.0 cookie) ≡ true
        own e =
            subst (λ (v : LockReplay). (nat_eq v.boot b && same_life v.who who && nat_eq v.cookie.0 cookie) ≡ true) (sym e)
            (rw (eq-eqb r.boot b x, subst (λ (w : Who). same_life r.who w ≡ true) y (life_self r.who), eq-eqb r.cookie.0 cookie z) refl)

        of : (v : Bool) → (nat_eq k.boot b && same_life k.who who && nat_eq k.cookie.0 cookie) ≡ v
            → (if v then Some (lock_of k) else lock_in b who cookie ms) ≡ Some l
        of true e =
            let p = and_parts (nat_eq k.boot b && same_life k.who who) (nat_eq k.cookie.0 cookie) e in
            let q = and_parts (nat_eq k.boot b) (same_life k.who who) p.0 in
            ap (λ (v : Lock). Some v) (is k refl (eqb-true k.boot b q.0) (life_is k.who who q.1) (eqb-true k.cookie.0 cookie p.1))
        of false e = ⊎_elim
            (λ (j : message.Lock k ≡ message.Lock r). absurd (let same : k ≡ r = cc in let t = own same in cc))
            h
            i
    by m is (inl j) h = absurd (cc)
    by m is (inr j) h = h j

-- what is brought was handed in, and what else was handed in of its life and cookie is the same
brought_found : (head : Head) (t : ℕ) (past : List Line) → Grown head past → IsRecovering head.osts (only t past) → (l : Lock)
    → In l (brought_of (only t past))
    → lock_in (server_of head.osts (only t past)).boot l.ask.who l.cookie.0 (taken_of (only t past)) ≡ Some l
brought_found head t past g rec l i =
    let k = (kept_here head (only t past) (grown_of head t past g)).brought l i in
    found_lock b l.ask.who l.cookie.0 l (taken_of (only t past)) all k.given k.among k.boot (ap (λ (v : Lock). v.ask.who) k.is)
    (ap (λ (v : Lock). v.cookie.0) k.is)
  where
    b : ℕ
    b = (server_of head.osts (only t past)).boot

    h : HoldsAt head (only t past)
    h = (holds head past g).at t

    all : (r : LockReplay) → In (message.Lock r) (taken_of (only t past)) → r.boot ≡ b → r.who ≡ l.ask.who → r.cookie.0 ≡ l.cookie.0
        → lock_of r ≡ l
    all r j present who cookie =
        let was = taken_story head t past (message.Lock r) g j in
        let mine = h.recovers.brought rec l i in
        let told = h.recovers.told was.0 (Target t) (message.Lock r) was.1 rec (omega (arith, present))
        (subst (λ (w : Who). HasSlot head.clients (only t past) w) (sym who) mine.0) in
        let lock = told.0 in
        let same : lock.cookie ≡ l.cookie = ap (λ (v : LockReplay). v.cookie) (sym told.3) ∙ ap numbered cookie in
        let one = h.locks.once told.1.0.0 mine.2.0.0 lock l told.1.0.1 mine.2.0.1 same in
        ap (λ (v : LockReplay). lock_of v) told.3
        ∙ ap (λ (w : Who). record lock { ask = record lock.ask { who = w } }) (sym told.2)
        ∙ one.1

-- ---- what a close has still to show was handed in

abbrev pub HandedIn : (b : ℕ) → List Message → Entry → Type 0
HandedIn b taken (Keeps_ number) = list_any (is_replay b number.0) taken ≡ true
HandedIn b taken (Restore lock) = lock_in b lock.ask.who lock.cookie.0 taken ≡ Some lock
HandedIn b taken (Joins who) = list_any (is_join b who) taken ≡ true
HandedIn b taken _ = Unit {0}

-- each kind of line that a close shows has a property that all such lines have
pub kept_in_lines : (P : Entry → Type 0) (ds : List Deed) → ((d : Deed) → In d ds → P (Keeps_ d.reply.txn)) → (e : Entry)
    → In e (kept_lines ds) → P e
kept_in_lines P [] of e i = absurd i
kept_in_lines P (d ∷ ds) of e (inl q) = subst P q (of d (inl refl))
kept_in_lines P (d ∷ ds) of e (inr i) = kept_in_lines P ds (λ k j. of k (inr j)) e i

pub restore_in_lines : (P : Entry → Type 0) (ls : List Lock) → ((l : Lock) → In l ls → P (Restore l)) → (e : Entry)
    → In e (restore_lines ls) → P e
restore_in_lines P [] of e i = absurd i
restore_in_lines P (l ∷ ls) of e (inl q) = subst P q (of l (inl refl))
restore_in_lines P (l ∷ ls) of e (inr i) = restore_in_lines P ls (λ k j. of k (inr j)) e i

pub evicted_in_lines : (P : Entry → Type 0) (o : Outcome) (gone : List Gone) → ((who : Who) (cause : Cause) → P (Evict who cause))
    → ((to : Node) (m : Message) → P (Send to m)) → (e : Entry) → In e (shows_evicted o gone) → P e
evicted_in_lines P o [] of send e i = absurd i
evicted_in_lines P o (x ∷ gone) of send e (inl q) = subst P q (of x.who x.cause)
evicted_in_lines P o (x ∷ gone) of send e (inr (inl q)) = subst P q (send (Client x.who.client) _)
evicted_in_lines P o (x ∷ gone) of send e (inr (inr i)) = evicted_in_lines P o gone of send e i

pub ready_in_lines : (P : Entry → Type 0) (o : Outcome) (ws : List Who) → ((to : Node) (m : Message) → P (Send to m)) → (e : Entry)
    → In e (shows_ready o ws) → P e
ready_in_lines P o [] send e i = absurd i
ready_in_lines P o (w ∷ ws) send e (inl q) = subst P q (send (Client w.client) _)
ready_in_lines P o (w ∷ ws) send e (inr i) = ready_in_lines P o ws send e i

pub joined_in_lines : (P : Entry → Type 0) (o : Outcome) (ws : List Who) → ((w : Who) → In w ws → P (Joins w))
    → ((to : Node) (m : Message) → P (Send to m)) → (e : Entry) → In e (shows_joined o ws) → P e
joined_in_lines P o [] of send e i = absurd i
joined_in_lines P o (w ∷ ws) of send e (inl q) = subst P q (of w (inl refl))
joined_in_lines P o (w ∷ ws) of send e (inr (inl q)) = subst P q (send (Client w.client) _)
joined_in_lines P o (w ∷ ws) of send e (inr (inr i)) = joined_in_lines P o ws (λ k j. of k (inr j)) send e i

lock_brought : (head : Head) (past : List Line) (at : At) (o : Outcome) → CloseOk head past at o → (l : Lock) → In l o.locks
    → In l (brought_of past)
lock_brought head past at o ok l i =
    let j : In l (outcome_of head.osts head.clients at past).locks = subst (λ (v : Outcome). In l v.locks) ok.is i in
    (in_filter _ l (brought_of past) (in_restored [] _ l j)).0

module _ (head : Head) (t : ℕ) (past : List Line) (g : Grown head past) where
  abbrev P : List Line
  P = only t past

  abbrev At_ : Entry → Type 0
  At_ e = HandedIn (server_of head.osts P).boot (taken_of P) e

  close_handed : (at : At) (o : Outcome) → CloseOk head P at o → (lives : List Who) (e : Entry) → In e (but_first (shows o lives)) → At_ e
  close_handed at o ok lives =
      let c = closing head P at o ok ((holds head past g).at t) in
      let k = kept_here head P (grown_of head t past g) in
      let b = (server_of head.osts P).boot in
      shown_parts o lives At_ (record {
        kept = kept_in_lines At_ o.kept (λ d i.
            let r = c.kept d i in
            let m = k.replays r.0 r.1 in
            any_passes (is_replay b d.reply.txn.0) (message.Replay m.given) (taken_of P) m.among
            (rw (eq-eqb m.given.boot b m.boot, eq-eqb m.given.txn.0 d.reply.txn.0 (m.number ∙ sym r.4)) refl));
        restored = restore_in_lines At_ o.locks (λ l i. brought_found head t past g ok.recovers l (lock_brought head P at o ok l i));
        evicted = evicted_in_lines At_ o o.gone (λ w c. tt) (λ to m. tt);
        ready = ready_in_lines At_ o (staying o lives) (λ to m. tt);
        joined = joined_in_lines At_ o o.joins (λ w i. any_passes (is_join b w) (message.Join w b) (taken_of P)
            (k.wishes w (subst (λ (v : List Who). In w v) c.joins i)) (rw (self b, life_self w) refl)) (λ to m. tt);
      })

pub left_handed : (head : Head) (t : ℕ) (past : List Line) → Grown head past → (e : Entry) → In e (closing_of head.clients (only t past))
    → HandedIn (server_of head.osts (only t past)).boot (taken_of (only t past)) e
left_handed head t [] g e i = absurd i
left_handed head t (l ∷ past) g e i = by (concerns t l.at.node l.entry) refl i (left_handed head t past g.1 e)
  where
    P : List Line
    P = only t past

    Says_ : List Line → Type 0
    Says_ p = HandedIn (server_of head.osts p).boot (taken_of p) e

    C : List Entry
    C = closing_of head.clients P

    later : (es : List Entry) → In e (but_first es) → In e es
    later [] j = j
    later (x ∷ es) j = inr j

    none : (x : Entry) → ((next : Entry) (more : List Entry) → C ≡ next ∷ more → (x ≡ next) × IsTurnOf P l.at) → (IsShow x → ⊥)
        → In e (but_first C) → ⊥
    none x next n j = subst (λ (es : List Entry). In e (but_first es)) (nothing_left head P l.at x next n) j

    on : (node : Node) (x : Entry) → EntryOf head P (turn l.at.stamp node) node x
        → ((next : Entry) (more : List Entry) → C ≡ next ∷ more → (x ≡ next) × IsTurnOf P l.at)
        → In e (closing_of head.clients (line (turn l.at.stamp node) x ∷ P)) → (In e C → Says_ P)
        → Says_ (line (turn l.at.stamp node) x ∷ P)
    on (Target u) (Close o) ok next (inl q) h = subst (HandedIn (server_of head.osts P).boot (taken_of P)) q tt
    on (Target u) (Close o) ok next (inr j) h = close_handed head t past g.1 (turn l.at.stamp (Target u)) o ok _ e j
    on (Target u) (Take n from m) ok next j h = absurd (none (Take n from m) next (λ s. s) j)
    on (Target u) (Boot b disk) ok next j h = absurd (none (Boot b disk) next (λ s. s) j)
    on (Client c) x ok next j h = h j
    on (Target u) x ok next j h = h (later C j)

    by : (b : Bool) → concerns t l.at.node l.entry ≡ b → In e (closing_of head.clients (if b then l ∷ P else P)) → (In e C → Says_ P)
        → Says_ (if b then l ∷ P else P)
    by true q j h = on l.at.node l.entry (g.0.of t q) (g.0.shows t q) j h
    by false q j h = h j

-- ---- the turn has closed the window

closed_more : (l : Line) (past : List Line) (at : At) → has_closed (printed past) at ≡ true → has_closed (printed (l ∷ past)) at ≡ true
closed_more l past at h = by l.entry h
  where
    by : (e : Entry) → has_closed (printed past) at ≡ true → has_closed (printed (line l.at e ∷ past)) at ≡ true
    by (Close o) h = either_right (same_turn l.at at) h
    by _ h = h

pub left_closed : (head : Head) (t : ℕ) (past : List Line) (at : At) → Grown head past → IsTurnOf (only t past) at → (e : Entry)
    → In e (closing_of head.clients (only t past)) → has_closed (printed past) at ≡ true
left_closed head t [] at g turned e i = absurd i
left_closed head t (l ∷ past) at g turned e i = by (concerns t l.at.node l.entry) refl turned i
    (λ s j. left_closed head t past at g.1 s e j)
  where
    P : List Line
    P = only t past

    C : List Entry
    C = closing_of head.clients P

    later : (es : List Entry) → In e (but_first es) → In e es
    later [] j = j
    later (x ∷ es) j = inr j

    Before : Type 0
    Before = IsTurnOf P at → In e C → has_closed (printed past) at ≡ true

    before : (es : List Entry) → C ≡ es → Before → ((next : Entry) (more : List Entry) → C ≡ next ∷ more → (l.entry ≡ next)
        × IsTurnOf P l.at) → In e es → l.at ≡ at → has_closed (printed past) at ≡ true
    before [] q h next i same = absurd i
    before (x ∷ es) q h next i same = h (subst (λ (v : At). IsTurnOf P v) same (next x es q).1)
        (subst (λ (v : List Entry). In e v) (sym q) i)

    on : (node : Node) (x : Entry) → l.at ≡ at → In e (closing_of head.clients (line (turn l.at.stamp node) x ∷ P))
        → (In e C → has_closed (printed past) at ≡ true) → has_closed (printed (line l.at x ∷ past)) at ≡ true
    on (Target u) (Close o) same j h = either_left (has_closed (printed past) at)
        (subst (λ (v : At). same_turn l.at v ≡ true) same (same_turn_self l.at))
    on (Client c) x same j h = closed_more (line l.at x) past at (h j)
    on (Target u) x same j h = closed_more (line l.at x) past at (h (later C j))

    by : (b : Bool) → concerns t l.at.node l.entry ≡ b → IsTurnOf (if b then l ∷ P else P) at
        → In e (closing_of head.clients (if b then l ∷ P else P)) → Before → has_closed (printed (l ∷ past)) at ≡ true
    by true q same j h = on l.at.node l.entry same j (λ i. before C refl h (g.0.shows t q) i same)
    by false q turned j h = closed_more l past at (h turned j)

-- ---- the conditions

-- what comes next of a close was handed in, and the turn has closed the window
pub due_handed : (head : Head) (past : List Line) (stamp : Stamp) (t : ℕ) (e : Entry) → Grown head past
    → Due head (only t past) (turn stamp (Target t)) e → (has_closed (printed past) (turn stamp (Target t)) ≡ true)
    × HandedIn (boot t (printed past)) (since_boot t (printed past)) e
due_handed head past stamp t e g due =
    let i : In e (closing_of head.clients (only t past)) = subst (λ (es : List Entry). In e es) (sym due.1) (inl refl) in (
      left_closed head t past (turn stamp (Target t)) g due.2 e i,
      subst (λ (n : ℕ). HandedIn n (since_boot t (printed past)) e) (sym (boot_of head t past g))
          (subst (λ (ms : List Message). HandedIn (server_of head.osts (only t past)).boot ms e) (sym (since_is head t past g))
          (left_handed head t past g e i)),
    )

kept_at : (head : Head) (past : List Line) (l : Line) (later : List PrintedLine) → Allowed head past l.at l.entry → Grown head past
    → Keeps Kept past l later
kept_at head past l later a g = by l.at.node l.entry a
  where
    by : (node : Node) (e : Entry) → Allowed head past (turn l.at.stamp node) e → Says Kept past (turn l.at.stamp node) later e
    by (Client c) (Keeps_ number) k = absurd k.ok
    by (Target t) (Keeps_ number) k = let h = due_handed head past l.at.stamp t (Keeps_ number) g (k.of t (self t))
        in record { closed = h.0; replayed = h.1 }
    by _ _ k = tt

restored_at : (head : Head) (past : List Line) (l : Line) (later : List PrintedLine) → Allowed head past l.at l.entry → Grown head past
    → Keeps Restored past l later
restored_at head past l later a g = by l.at.node l.entry a
  where
    by : (node : Node) (e : Entry) → Allowed head past (turn l.at.stamp node) e → Says Restored past (turn l.at.stamp node) later e
    by (Client c) (Restore lock) k = absurd k.ok
    by (Target t) (Restore lock) k = let h = due_handed head past l.at.stamp t (Restore lock) g (k.of t (self t)).due
        in record { closed = h.0; handed = h.1 }
    by _ _ k = tt

module _ (head : Head) (past : List Line) (g : Grown head past) where
  pub kept : Holds Kept (printed past)
  kept = holds_before head Kept Nothing (λ l past k. k) (λ past l later a g k. kept_at head past l later a g) past [] g tt

  pub restored_locks : Holds Restored (printed past)
  restored_locks = holds_before head Restored Nothing (λ l past k. k) (λ past l later a g k. restored_at head past l later a g) past [] g tt
