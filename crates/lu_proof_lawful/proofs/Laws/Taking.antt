-- What a target took since its boot, by its story; and that what its window keeps of it, with the mark that is due, is what the laws count.
use Rattle.std.proofs.Common.{◌≡◌, ℕ, ◌<◌, ◌≤◌, Bool, true, false, List, [], ◌∷◌, Option, Some, None, ⊎_elim, refl, sym, subst, ap, ◌∙◌}
use Rattle.std.proofs.Common.{arith}
use Rattle.std.specs.Prelude.{nat_eq, nat_lt, not, ◌&&◌, if◌then◌else◌, unwrap_or}
use Rattle.std.specs.List.{list_any}
use Rattle.std.proofs.lemmas.Bool.{cond_both, cond-false, eqb-true, eq-eqb, lt-ltb, true≢false}
use Rattle.lu_base.specs.declared.ids.At.{At}
use Rattle.lu_base.specs.declared.ids.Stamp.{Stamp}
use Rattle.lu_base.specs.declared.ids.Node.{Node}
use Rattle.lu_base.specs.declared.ids.Node.TheVariants.{Client, Target}
use Rattle.lu_base.specs.declared.ids.Who.{Who}
use Rattle.lu_base.specs.declared.locks.Lock.{Lock}
use Rattle.lu_msg.specs.declared.messages.Message.{Message}
use Rattle.lu_msg.specs.declared.messages.Message.TheVariants as message
use Rattle.lu_msg.specs.declared.messages.RequestReplay.{RequestReplay}
use Rattle.lu_spec_entries.specs.Carried.{Said, Outcome}
use Rattle.lu_spec_entries.specs.Words.{Entry, Take, Crash, Boot, Back, Close, Evict, Joined, Stores, Brings, Says, Wishes, Line, line}
use Rattle.lu_spec_entries.specs.Concerns.{concerns, only}
use Rattle.lu_spec_entries.specs.Printed.{printed}
use Rattle.lu_spec_target.specs.Lives.{is_life}
use Rattle.lu_spec_target.specs.Kept.{replayed}
use Rattle.lu_spec_target.specs.Recovery.{cut, empty_word}
use Rattle.lu_spec_target.specs.Rows.{lock_again}
use Rattle.lu_spec_target.specs.Leaving.{life_of as life_in}
use Rattle.lu_spec_target.specs.Windows.{Window, is_replay, is_lock, word_of, is_newest}
use Rattle.lu_proof_lawful.specs.Covered.TargetStates.{server_of, lives_of, closed_of, up_of, replays_of, brought_of, words_of, window_of}
use Rattle.lu_proof_lawful.specs.Covered.Heads.{Head}
use Rattle.lu_spec_laws.specs.Words.Pasts.{or_else}
use Rattle.lu_spec_laws.specs.Words.Scopes.{only_here, last_at}
use Rattle.lu_spec_laws.specs.Words.Sends.{Sending}
use Rattle.lu_spec_laws.specs.Words.Boots.{booted_as, boot, opens_window, is_recovering}
use Rattle.lu_spec_laws.specs.Words.Handed.{with_message, handed}
use Rattle.lu_proof_lawful.proofs.Preconditions.Guards.{IsTurnOf, BackNow, says_first, wish_by, wish_mark, mark_of, due, EntryOk, IsMark}
use Rattle.lu_proof_lawful.proofs.Preconditions.StoryGuards.{IsRecovering, IsServing, EntryOf, EvictOk, LeavesOk, JoinedOk, ComesOk}
use Rattle.lu_proof_lawful.proofs.Preconditions.StoryGuards.{CloseOk, StoresOk, BringsOk, SaysOk, WishesOk, KeepsOk}
use Rattle.lu_proof_lawful.proofs.Preconditions.Grown.{Grown, GrownOf}
use Rattle.lu_proof_lawful.proofs.Preconditions.LifeLists.{none_is, found_life, life_stands, stands_life}
use Rattle.lu_proof_lawful.proofs.Invariants.Groups.{turn}
use Rattle.lu_proof_lawful.proofs.Invariants.All.{holds_at}
use Rattle.lu_proof_lawful.proofs.Laws.Printed.{flip, sending_is}
use Rattle.lu_proof_lawful.proofs.Laws.Handed.{replays_with, brought_with, words_with, Agrees, agrees_start, agrees_take}

-- ---- what was taken

abbrev pub taken_after : List Message → Entry → List Message
taken_after handed (Take n from m) = m ∷ handed
taken_after handed (Boot boot disk) = []
taken_after handed _ = handed

-- over what concerns the target, the last first
abbrev pub taken_of : List Line → List Message
taken_of [] = []
taken_of (l ∷ past) = elim l.at.node [ Client c ↦ taken_of past | Target t ↦ taken_after (taken_of past) l.entry ]

-- a line that leaves it, whether it concerns the target or not
pub either_way : {A : Type 0} (f : List Line → A) (l : Line) (past : List Line) (b : Bool) → f (l ∷ past) ≡ f past
    → f (if b then l ∷ past else past) ≡ f past
either_way f l past true e = e
either_way f l past false e = refl

pub handed_is : (head : Head) (t : ℕ) (past : List Line) → Grown head past → handed t (printed past) ≡ taken_of (only t past)
handed_is head t [] g = refl
handed_is head t (l ∷ past) g = by l.at.node l.entry g.0.ok (handed_is head t past g.1)
  where
    P : List Line
    P = only t past

    old : List Message
    old = handed t (printed past)

    own : (u : ℕ) (e : Entry) (a b : Bool) (new : List Message) → a ≡ b → taken_of (line (turn l.at.stamp (Target u)) e ∷ P) ≡ new → old
        ≡ taken_of P → (if a then new else old) ≡ taken_of (if b then line (turn l.at.stamp (Target u)) e ∷ P else P)
    own u e true true new q is h = sym is
    own u e false false new q is h = h
    own u e true false new q is h = absurd (cc)
    own u e false true new q is h = absurd (cc)

    by : (node : Node) (e : Entry) → EntryOk past (turn l.at.stamp node) node e → old ≡ taken_of P
        → handed t (printed (line (turn l.at.stamp node) e ∷ past)) ≡ taken_of (only t (line (turn l.at.stamp node) e ∷ past))
    by (Target u) (Take n from m) ok h =
        ap (λ (o : Option Sending). if nat_eq u t then with_message (elim o [ None ↦ None | Some s ↦ Some s.message ]) old else old)
        (sending_is past n from (Target u) m ok.sent)
        ∙ own u (Take n from m) (nat_eq u t) (nat_eq t u) (m ∷ old) (flip u t) (ap (λ (v : List Message). m ∷ v) (sym h)) h
    by (Client c) (Take n from m) ok h = h ∙ sym (either_way taken_of (line (turn l.at.stamp (Client c)) (Take n from m)) P
        (concerns t (Client c) (Take n from m)) refl)
    by (Target u) (Boot boot disk) ok h = own u (Boot boot disk) (nat_eq u t) (nat_eq t u) [] (flip u t) refl h
    by (Client c) (Boot boot disk) ok h = absurd ok
    by (Client c) e ok h = h ∙ sym (either_way taken_of (line (turn l.at.stamp (Client c)) e) P (concerns t (Client c) e) refl)
    by (Target u) e ok h = h ∙ sym (either_way taken_of (line (turn l.at.stamp (Target u)) e) P (concerns t (Target u) e) refl)

-- ---- boots

pub boot_of : (head : Head) (t : ℕ) (past : List Line) → Grown head past → boot t (printed past) ≡ (server_of head.osts (only t past)).boot
boot_of head t [] g = refl
boot_of head t (l ∷ past) g = by l.at.node l.entry g.0.ok (boot_of head t past g.1)
  where
    P : List Line
    P = only t past

    now : List Line → ℕ
    now p = (server_of head.osts p).boot

    own : (u b : ℕ) (x : Entry) (a c : Bool) (o : Option ℕ) → a ≡ c → now (line (turn l.at.stamp (Target u)) x ∷ P) ≡ b → unwrap_or o 1
        ≡ now P → unwrap_or (or_else (only_here (Some b) a) o) 1 ≡ now (if c then line (turn l.at.stamp (Target u)) x ∷ P else P)
    own u b x true true o q is h = sym is
    own u b x false false o q is h = h
    own u b x true false o q is h = absurd (cc)
    own u b x false true o q is h = absurd (cc)

    by : (node : Node) (e : Entry) → EntryOk past (turn l.at.stamp node) node e → boot t (printed past) ≡ now P
        → boot t (printed (line (turn l.at.stamp node) e ∷ past)) ≡ now (only t (line (turn l.at.stamp node) e ∷ past))
    by (Target u) (Boot b disk) ok h = own u b (Boot b disk) (nat_eq u t) (nat_eq t u) (last_at booted_as t (printed past)) (flip u t) refl
        h
    by (Client c) (Boot b disk) ok h = absurd ok
    by (Client c) e ok h = h ∙ sym (either_way now (line (turn l.at.stamp (Client c)) e) P (concerns t (Client c) e) refl)
    by (Target u) e ok h = h ∙ sym (either_way now (line (turn l.at.stamp (Target u)) e) P (concerns t (Target u) e) refl)

-- whether its window is open: it was booted, and hasn't crashed or closed it since
abbrev pub open_after : Bool → Entry → Bool
open_after was (Boot boot disk) = true
open_after was Crash = false
open_after was (Close o) = false
open_after was _ = was

abbrev pub open_of : List Line → Bool
open_of [] = false
open_of (l ∷ past) = elim l.at.node [ Client c ↦ open_of past | Target t ↦ open_after (open_of past) l.entry ]

pub recovering_is : (head : Head) (t : ℕ) (past : List Line) → Grown head past → is_recovering t (printed past) ≡ open_of (only t past)
recovering_is head t [] g = refl
recovering_is head t (l ∷ past) g = by l.at.node l.entry g.0.ok (recovering_is head t past g.1)
  where
    P : List Line
    P = only t past

    own : (u : ℕ) (b : Bool) (x : Entry) (a c : Bool) (o : Option Bool) → a ≡ c → open_of (line (turn l.at.stamp (Target u)) x ∷ P) ≡ b
        → unwrap_or o false ≡ open_of P → unwrap_or (or_else (only_here (Some b) a) o) false
        ≡ open_of (if c then line (turn l.at.stamp (Target u)) x ∷ P else P)
    own u b x true true o q is h = sym is
    own u b x false false o q is h = h
    own u b x true false o q is h = absurd (cc)
    own u b x false true o q is h = absurd (cc)

    by : (node : Node) (e : Entry) → EntryOk past (turn l.at.stamp node) node e → is_recovering t (printed past) ≡ open_of P
        → is_recovering t (printed (line (turn l.at.stamp node) e ∷ past)) ≡ open_of (only t (line (turn l.at.stamp node) e ∷ past))
    by (Target u) (Boot b disk) ok h = own u true (Boot b disk) (nat_eq u t) (nat_eq t u) (last_at opens_window t (printed past)) (flip u t)
        refl h
    by (Target u) Crash ok h = own u false Crash (nat_eq u t) (nat_eq t u) (last_at opens_window t (printed past)) (flip u t) refl h
    by (Target u) (Close o) ok h = own u false (Close o) (nat_eq u t) (nat_eq t u) (last_at opens_window t (printed past)) (flip u t) refl h
    by (Client c) (Boot b disk) ok h = absurd ok
    by (Client c) Crash ok h = absurd ok
    by (Client c) (Close o) ok h = absurd ok
    by (Client c) e ok h = h ∙ sym (either_way open_of (line (turn l.at.stamp (Client c)) e) P (concerns t (Client c) e) refl)
    by (Target u) e ok h = h ∙ sym (either_way open_of (line (turn l.at.stamp (Target u)) e) P (concerns t (Target u) e) refl)

-- a target that closed its window recovers no more
pub closed_now : (head : Head) (past : List Line) (stamp : Stamp) (t : ℕ) (o : Outcome) → CloseOk head past (turn stamp (Target t)) o
    → IsRecovering head.osts (line (turn stamp (Target t)) (Close o) ∷ past) → ⊥
closed_now head past stamp t o ok r = true≢false (sym (eq-eqb o.boot (server_of head.osts past).boot (ap (λ (v : Outcome). v.boot) ok.is))
    ∙ r)

-- the window is open while a target that recovers is up
pub record Opens (osts : ℕ) (past : List Line) : Type 0 where
  pub recovers : open_of past ≡ true → IsRecovering osts past
  pub opened : up_of past ≡ true → IsRecovering osts past → open_of past ≡ true

pub opens : (head : Head) (past : List Line) → GrownOf head past → Opens head.osts past
opens head [] g = record { recovers = λ e. absurd (cc); opened = λ u r. absurd (cc) }
opens head (l ∷ past) g = by l.at.node l.entry g.0 (opens head past g.3)
  where
    under : closed_of past ≤ (server_of head.osts past).boot
    under = (holds_at head past g.3).phase.under

    -- a new boot isn't the one that served last
    apart : (n k : ℕ) → n < k → nat_eq n k ≡ false
    apart n k lt = by (nat_eq n k) refl
      where
        by : (b : Bool) → nat_eq n k ≡ b → b ≡ false
        by false q = refl
        by true q = absurd (let s = eqb-true n k q in omega arith)

    by : (node : Node) (e : Entry) → EntryOf head past (turn l.at.stamp node) node e → Opens head.osts past
        → Opens head.osts (line (turn l.at.stamp node) e ∷ past)
    by (Target t) (Boot b disk) ok h = record {
      recovers = λ e. apart (closed_of past) b (let n = ok.next in omega (arith, n, under));
      opened = λ u r. refl;
    }
    by (Target t) Crash ok h = record { recovers = λ e. absurd (cc); opened = λ u r. absurd (cc) }
    by (Target t) (Close o) ok h = record { recovers = λ e. absurd (cc); opened = λ u r. absurd (closed_now head past l.at.stamp t o ok r) }
    by (Client c) e ok h = record { recovers = h.recovers; opened = h.opened }
    by (Target t) e ok h = record { recovers = h.recovers; opened = h.opened }

pub recovers : (head : Head) (past : List Line) → GrownOf head past → open_of past ≡ true → IsRecovering head.osts past
recovers head past g e = (opens head past g).recovers e

-- ---- marks

abbrev OfNote : Option Entry → Type 0
OfNote None = Unit {0}
OfNote (Some e) = IsMark e

of_note : (o : Option Entry) (e : Entry) → o ≡ Some e → OfNote o → IsMark e
of_note o e q n = subst (λ (v : Option Entry). OfNote v) q n

note_of : (v : Window) (b : ℕ) (m : Message) → OfNote (mark_of v b m)
note_of v b (message.Replay r) = by (nat_eq r.boot b && is_life r.who v.lives && not (list_any (is_replay (replayed r)) v.replays))
  where
    by : (t : Bool) → OfNote (if t then Some (Stores (cut r)) else None)
    by true = tt
    by false = tt
note_of v b (message.Lock r) = by (nat_eq r.boot b && is_life r.who v.lives && not (list_any (is_lock (lock_again r)) v.brought))
  where
    by : (t : Bool) → OfNote (if t then Some (Brings (lock_again r)) else None)
    by true = tt
    by false = tt
note_of v b (message.Word who boot replays locks seen) = by (nat_eq boot b && is_life who v.lives) (word_of who v.words)
  where
    by : (t : Bool) (o : Option Said) → OfNote (if t then says_first o (record { who = who; replays = replays; locks = locks; seen = seen })
        else None)
    by true None = tt
    by true (Some w) = tt
    by false o = tt
note_of v b (message.Join who boot) = by (nat_eq boot b && is_life who v.lives) (word_of who v.words)
  where
    wish : (t : Bool) (o : Option Who) → OfNote (if t then wish_by v who o else None)
    wish false o = tt
    wish true None = tt
    wish true (Some old) = newest (nat_lt old.life who.life && is_newest who v.wishes)
      where
        newest : (n : Bool) → OfNote (if n then Some (Wishes who) else None)
        newest true = tt
        newest false = tt

    by : (t : Bool) (o : Option Said) → OfNote (if t then says_first o (empty_word who) else wish_mark v b who boot)
    by true None = tt
    by true (Some w) = tt
    by false o = wish (nat_eq boot b) (life_in who.client v.lives)
note_of v b m = tt

due_is : (osts clients : ℕ) (past : List Line) → OfNote (due osts clients past)
due_is osts clients [] = tt
due_is osts clients (l ∷ past) = by l.at.node l.entry
  where
    by : (node : Node) (e : Entry) → OfNote (due osts clients (line (turn l.at.stamp node) e ∷ past))
    by (Client c) (Take n from m) = tt
    by (Target t) (Take n from m) = cond_both (nat_eq (closed_of past) (server_of osts past).boot) None
        (mark_of (window_of osts clients past) (server_of osts past).boot m) OfNote (λ e. tt)
        (λ e. note_of (window_of osts clients past) (server_of osts past).boot m)
    by _ _ = tt

pub due_note : (osts clients : ℕ) (past : List Line) (e : Entry) → due osts clients past ≡ Some e → IsMark e
due_note osts clients past e q = of_note (due osts clients past) e q (due_is osts clients past)

-- a line that is no mark of what was taken stands where none is due
pub none_due : (osts clients : ℕ) (past : List Line) (e : Entry) → (IsMark e → ⊥)
    → ((mark : Entry) → due osts clients past ≡ Some mark → e ≡ mark) → due osts clients past ≡ None
none_due osts clients past e n k = by (due osts clients past) refl
  where
    by : (o : Option Entry) → due osts clients past ≡ o → o ≡ None
    by None q = refl
    by (Some mark) q = absurd (n (subst (λ (v : Entry). IsMark v) (sym (k mark q)) (due_note osts clients past mark q)))

-- ---- a mark is the one that is due

module _ (head : Head) where
  pub due_stores : (past : List Line) (stamp : Stamp) (t : ℕ) (replay : RequestReplay) → StoresOk head past (turn stamp (Target t)) t replay
      → due head.osts head.clients past ≡ Some (Stores replay)
  due_stores [] stamp t replay ok = absurd ok.keeps.took
  due_stores (l ∷ past) stamp t replay ok = by l.at.node l.entry ok
    where
      by : (node : Node) (e : Entry) → StoresOk head (line (turn l.at.stamp node) e ∷ past) (turn stamp (Target t)) t replay
          → due head.osts head.clients (line (turn l.at.stamp node) e ∷ past) ≡ Some (Stores replay)
      by (Client c) (Take n from m) ok = absurd (let e : Client c ≡ Target t = ap (λ (v : At). v.node) ok.keeps.took.0 in cc)
      by (Target u) (Take n from m) ok =
          subst (λ (v : Message). due head.osts head.clients (line (turn l.at.stamp (Target u)) (Take n from v) ∷ past)
          ≡ Some (Stores replay)) (sym ok.keeps.took.2)
          (rw (ok.keeps.recovers, eq-eqb ok.given.boot (server_of head.osts past).boot ok.keeps.of_boot, ok.keeps.has, ok.new)
          (ap (λ (v : RequestReplay). Some (Stores v)) (sym ok.is)))
      by _ e ok = absurd ok.keeps.took

  pub due_brings : (past : List Line) (stamp : Stamp) (t : ℕ) (lock : Lock) → BringsOk head past (turn stamp (Target t)) t lock
      → due head.osts head.clients past ≡ Some (Brings lock)
  due_brings [] stamp t lock ok = absurd ok.keeps.took
  due_brings (l ∷ past) stamp t lock ok = by l.at.node l.entry ok
    where
      by : (node : Node) (e : Entry) → BringsOk head (line (turn l.at.stamp node) e ∷ past) (turn stamp (Target t)) t lock
          → due head.osts head.clients (line (turn l.at.stamp node) e ∷ past) ≡ Some (Brings lock)
      by (Client c) (Take n from m) ok = absurd (let e : Client c ≡ Target t = ap (λ (v : At). v.node) ok.keeps.took.0 in cc)
      by (Target u) (Take n from m) ok =
          let new : list_any (is_lock (lock_again ok.given)) (brought_of past) ≡ false =
          subst (λ (v : Lock). list_any (is_lock v) (brought_of past) ≡ false) ok.is ok.new in
          subst (λ (v : Message). due head.osts head.clients (line (turn l.at.stamp (Target u)) (Take n from v) ∷ past)
          ≡ Some (Brings lock)) (sym ok.keeps.took.2)
          (rw (ok.keeps.recovers, eq-eqb ok.given.boot (server_of head.osts past).boot ok.keeps.of_boot, ok.keeps.has, new)
          (ap (λ (v : Lock). Some (Brings v)) (sym ok.is)))
      by _ e ok = absurd ok.keeps.took

  pub due_says : (past : List Line) (stamp : Stamp) (t : ℕ) (said : Said) → SaysOk head past (turn stamp (Target t)) t said
      → due head.osts head.clients past ≡ Some (Says said)
  due_says [] stamp t said ok = ⊎_elim (λ k. absurd k.took) (λ k. absurd k.1.took) ok.keeps
  due_says (l ∷ past) stamp t said ok = by l.at.node l.entry ok
    where
      by : (node : Node) (e : Entry) → SaysOk head (line (turn l.at.stamp node) e ∷ past) (turn stamp (Target t)) t said
          → due head.osts head.clients (line (turn l.at.stamp node) e ∷ past) ≡ Some (Says said)
      by (Client c) (Take n from m) ok = absurd (⊎_elim
          (λ k. let e : Client c ≡ Target t = ap (λ (v : At). v.node) k.took.0 in cc)
          (λ k. let e : Client c ≡ Target t = ap (λ (v : At). v.node) k.1.took.0 in cc)
          ok.keeps)
      by (Target u) (Take n from m) ok = ⊎_elim
          (λ (k : KeepsOk head (line (turn l.at.stamp (Target u)) (Take n from m) ∷ past) (turn stamp (Target t)) t ok.from
          (message.Word said.who ok.boot said.replays said.locks said.seen) said.who ok.boot).
          subst (λ (v : Message). due head.osts head.clients (line (turn l.at.stamp (Target u)) (Take n from v) ∷ past) ≡ Some (Says said))
          (sym k.took.2)
          (rw (k.recovers, eq-eqb ok.boot (server_of head.osts past).boot k.of_boot, k.has, ok.new) refl))
          (λ (k : (said ≡ empty_word said.who) × KeepsOk head (line (turn l.at.stamp (Target u)) (Take n from m) ∷ past)
          (turn stamp (Target t)) t ok.from (message.Join said.who ok.boot) said.who ok.boot).
          subst (λ (v : Message). due head.osts head.clients (line (turn l.at.stamp (Target u)) (Take n from v) ∷ past) ≡ Some (Says said))
          (sym k.1.took.2)
          (rw (k.1.recovers, eq-eqb ok.boot (server_of head.osts past).boot k.1.of_boot, k.1.has, ok.new)
          (ap (λ (v : Said). Some (Says v)) (sym k.0))))
          ok.keeps
      by _ e ok = absurd (⊎_elim (λ k. k.took) (λ k. k.1.took) ok.keeps)

  pub due_wishes : (past : List Line) (stamp : Stamp) (t : ℕ) (who : Who) → GrownOf head past
      → WishesOk head past (turn stamp (Target t)) t who → due head.osts head.clients past ≡ Some (Wishes who)
  due_wishes [] stamp t who g ok = absurd ok.keeps.took
  due_wishes (l ∷ past) stamp t who g ok = by l.at.node l.entry ok
    where
      Taken_by : Node → Entry → Type 0
      Taken_by node e = WishesOk head (line (turn l.at.stamp node) e ∷ past) (turn stamp (Target t)) t who
          → due head.osts head.clients (line (turn l.at.stamp node) e ∷ past) ≡ Some (Wishes who)

      -- another life of its client has the slot
      other : (old : Who) → is_life old (lives_of head.clients past) ≡ true → old.client ≡ who.client → old.life < who.life
          → (is_life who (lives_of head.clients past) ≡ false) × (life_in who.client (lives_of head.clients past) ≡ Some old)
      other old has client newer = (
        out (is_life who (lives_of head.clients past)) refl,
        there (life_in who.client (lives_of head.clients past)) refl,
      )
        where
          one : (x y : Who) → is_life x (lives_of head.clients past) ≡ true → is_life y (lives_of head.clients past) ≡ true → x.client
              ≡ y.client → x ≡ y
          one = (holds_at head past g.3).lives.one

          out : (b : Bool) → is_life who (lives_of head.clients past) ≡ b → b ≡ false
          out false e = refl
          out true e = absurd (let q = ap (λ (w : Who). w.life) (one who old e has (sym client)) in omega (arith, q, newer))

          there : (o : Option Who) → life_in who.client (lives_of head.clients past) ≡ o → o ≡ Some old
          there None e = absurd (none_is who.client (lives_of head.clients past) e old (stands_life old (lives_of head.clients past) has)
              client)
          there (Some x) e = let f = found_life who.client (lives_of head.clients past) x e
              in ap (λ (w : Who). Some w) (one x old (life_stands x (lives_of head.clients past) f.0) has (f.1 ∙ sym client))

      by : (node : Node) (e : Entry) → Taken_by node e
      by (Client c) (Take n from m) ok = absurd (let e : Client c ≡ Target t = ap (λ (v : At). v.node) ok.keeps.took.0 in cc)
      by (Target u) (Take n from m) ok =
          let o = other ok.old ok.keeps.has ok.client ok.newer in
          subst (λ (v : Message). due head.osts head.clients (line (turn l.at.stamp (Target u)) (Take n from v) ∷ past) ≡ Some (Wishes who))
          (sym ok.keeps.took.2)
          (rw (
            ok.keeps.recovers,
            eq-eqb ok.boot (server_of head.osts past).boot ok.keeps.of_boot,
            o.0,
            o.1,
            lt-ltb ok.old.life who.life ok.newer,
            ok.newest,
          ) refl)
      by _ e ok = absurd ok.keeps.took

-- ---- what is due follows

pub record Next (head : Head) (past : List Line) (l : Line) : Type 0 where
  pub marked : (mark : Entry) → due head.osts head.clients past ≡ Some mark → (l.entry ≡ mark) × IsTurnOf past l.at
  pub told : (who : Who) → BackNow head.osts head.clients past who → (l.entry ≡ Back who) × IsTurnOf past l.at

abbrev pub Marked : Head → List Line → Type 0
Marked head [] = Unit {0}
Marked head (l ∷ past) = Next head past l × Marked head past

pub marked_of : (head : Head) (t : ℕ) (past : List Line) → Grown head past → Marked head (only t past)
marked_of head t [] g = tt
marked_of head t (l ∷ past) g = by (concerns t l.at.node l.entry) refl (marked_of head t past g.1)
  where
    by : (b : Bool) → concerns t l.at.node l.entry ≡ b → Marked head (only t past)
        → Marked head (if b then l ∷ only t past else only t past)
    by true e h = (record { marked = λ mark d. g.0.marks t mark e d; told = λ who d. g.0.backs t who e d }, h)
    by false e h = h

-- ---- the window, with what is due, has what the laws count

abbrev pub AgreesAt : Head → List Line → Option Entry → Type 0
AgreesAt head past o =
    Agrees (server_of head.osts past).boot (taken_of past) (lives_of head.clients past) (replays_with o (replays_of past))
    (brought_with o (brought_of past)) (words_with o (words_of past))

pub agrees_at : (head : Head) (past : List Line) → GrownOf head past → Marked head past → IsRecovering head.osts past
    → AgreesAt head past (due head.osts head.clients past)
agrees_at head [] g k r = absurd (cc)
agrees_at head (l ∷ past) g k r = by l.at.node l.entry g.0 (λ mark d. (k.0.marked mark d).0) (λ s. agrees_at head past g.3 k.1 s) r
  where
    D : Option Entry
    D = due head.osts head.clients past

    new : Node → Entry → List Line
    new node e = line (turn l.at.stamp node) e ∷ past

    -- none is due
    plain : (e : Entry) → (IsMark e → ⊥) → ((mark : Entry) → D ≡ Some mark → e ≡ mark) → AgreesAt head past D → AgreesAt head past None
    plain e n k h = subst (λ (o : Option Entry). AgreesAt head past o) (none_due head.osts head.clients past e n k) h

    serving : IsServing head.osts past → IsRecovering head.osts past → ⊥
    serving s r = true≢false (sym (eq-eqb (closed_of past) (server_of head.osts past).boot s.closed) ∙ r)

    by : (node : Node) (e : Entry) → EntryOf head past (turn l.at.stamp node) node e → ((mark : Entry) → D ≡ Some mark → e ≡ mark)
        → (IsRecovering head.osts past → AgreesAt head past D)
        → IsRecovering head.osts (line (turn l.at.stamp node) e ∷ past)
        → AgreesAt head (line (turn l.at.stamp node) e ∷ past) (due head.osts head.clients (line (turn l.at.stamp node) e ∷ past))
    by (Target t) (Take n from m) ok k h r =
        subst (λ (o : Option Entry). AgreesAt head (line (turn l.at.stamp (Target t)) (Take n from m) ∷ past) o)
        (sym (cond-false (nat_eq (closed_of past) (server_of head.osts past).boot) None
        (mark_of (window_of head.osts head.clients past) (server_of head.osts past).boot m) r))
        (agrees_take (window_of head.osts head.clients past) (server_of head.osts past).boot (taken_of past) m
        (plain (Take n from m) (λ v. v) k (h r)))
    by (Target t) (Boot b disk) ok k h r = agrees_start b (lives_of head.clients past)
    by (Target t) (Stores replay) ok k h r = subst (λ (o : Option Entry). AgreesAt head past o)
        (due_stores head past l.at.stamp t replay ok) (h r)
    by (Target t) (Brings lock) ok k h r = subst (λ (o : Option Entry). AgreesAt head past o) (due_brings head past l.at.stamp t lock ok)
        (h r)
    by (Target t) (Says said) ok k h r = subst (λ (o : Option Entry). AgreesAt head past o) (due_says head past l.at.stamp t said ok) (h r)
    by (Target t) (Wishes who) ok k h r = subst (λ (o : Option Entry). AgreesAt head past o) (due_wishes head past l.at.stamp t who g.3 ok)
        (h r)
    by (Target t) (Evict who cause) ok k h r = absurd (⊎_elim (λ (v : EvictOk head past (turn l.at.stamp (Target t)) who cause). serving
        v.serves r) (λ (v : LeavesOk head past (turn l.at.stamp (Target t)) who cause). serving v.serves r) ok)
    by (Target t) (Joined who) ok k h r = absurd (⊎_elim (λ (v : JoinedOk head past (turn l.at.stamp (Target t)) t who). serving v.serves r)
        (λ (v : ComesOk head past (turn l.at.stamp (Target t)) t who). serving v.serves r) ok)
    by (Target t) (Close o) ok k h r = absurd (closed_now head past l.at.stamp t o ok r)
    by (Client c) (Take n from m) ok k h r = plain (Take n from m) (λ v. v) k (h r)
    by (Client c) (Stores replay) ok k h r = absurd ok
    by (Client c) (Brings lock) ok k h r = absurd ok
    by (Client c) (Says said) ok k h r = absurd ok
    by (Client c) (Wishes who) ok k h r = absurd ok
    by (Client c) e ok k h r = plain e (λ v. v) k (h r)
    by (Target t) e ok k h r = plain e (λ v. v) k (h r)
