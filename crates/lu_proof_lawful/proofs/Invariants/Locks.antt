-- Locks at one target: each lock that was given is granted, or dead, which means that its life heard of it, holds it no more and doesn't
-- wait for it, or
-- its life was evicted, or a close came while it wasn't held, and it will be heard of no more. What is held came with a reply that its life
-- heard, or was
-- told it to wait, and is granted, unless that life was evicted; what is given back is dead; granted locks never conflict. A crash takes
-- nothing of this
-- away, but what is granted isn't shown after it until a close shows it again.
use Rattle.std.proofs.Common.{◌≡◌, ℕ, ◌<◌, List, [], ◌∷◌, Some, None, ◌⊎◌, inl, inr, ⊎_elim, sym, subst, arith}
use Rattle.lu_base.specs.declared.ids.Node.{Node}
use Rattle.lu_base.specs.declared.ids.Node.TheVariants.{Client, Target}
use Rattle.lu_base.specs.declared.ids.Stamp.{Stamp}
use Rattle.lu_spec_entries.specs.Carried.{Outcome}
use Rattle.lu_spec_entries.specs.Words.{Entry, Send, Heard, Hold, Drop, Knows, Life, Pins, Unpins, Marks, Unmarks, Act, Txn as Made}
use Rattle.lu_spec_entries.specs.Words.{Answers, Grant, Wait, Release, Evict, Joined, Crash, Boot, Close, Restore, Brings, Line, line}
use Rattle.lu_proof_lawful.specs.Covered.Heads.{Head}
use Rattle.lu_proof_lawful.proofs.Preconditions.StoryGuards.{GrantOk, RangeOk, EvictOk, LeavesOk, JoinedOk, ComesOk, EntryOf}
use Rattle.lu_proof_lawful.proofs.Preconditions.Grown.{IsPlaced}
use Rattle.lu_proof_lawful.proofs.Invariants.Groups.{turn, HoldsAt}
use Rattle.lu_proof_lawful.proofs.Invariants.TargetGroups.{Locks}
use Rattle.lu_proof_lawful.proofs.Invariants.LocksStay.{StaysDead, StaysLapsed, Stays, stays_dead, stays_lapsed}
use Rattle.lu_proof_lawful.proofs.Invariants.LocksHeld.{pins_stays, unpins_stays, marks_stays, unmarks_stays, drops_stay, locks_pins}
use Rattle.lu_proof_lawful.proofs.Invariants.LocksHeld.{locks_unpins, locks_marks, locks_unmarks, locks_hold, locks_drop}
use Rattle.lu_proof_lawful.proofs.Invariants.LocksSaid.{sent_said, locks_send}
use Rattle.lu_proof_lawful.proofs.Invariants.LocksHeard.{heard_stays, holds_stay, knows_stays, locks_heard, locks_knows, locks_life}
use Rattle.lu_proof_lawful.proofs.Invariants.LocksGranted.{locks_act, locks_range, locks_wait, locks_promote}
use Rattle.lu_proof_lawful.proofs.Invariants.LocksTaken.{still_shown, locks_txn, locks_answers, locks_names, locks_release, locks_evict}
use Rattle.lu_proof_lawful.proofs.Invariants.LocksTaken.{locks_join, locks_crash, locks_boot, locks_brings}
use Rattle.lu_proof_lawful.proofs.Invariants.LocksClose.{locks_close, locks_restore}

-- ---- each line

pub keeps_locks : (head : Head) (past : List Line) (stamp : Stamp) (node : Node) (e : Entry) → EntryOf head past (turn stamp node) node e
    → IsPlaced head past (line (turn stamp node) e) → HoldsAt head past
    → Locks head.osts head.clients (line (turn stamp node) e ∷ past)
keeps_locks head past stamp (Client c) (Send to m) ok placed h =
    locks_send head past stamp (Client c) to m placed.shows (sent_said head past (Client c) to m ok h) h.phase.client h.locks
keeps_locks head past stamp (Target t) (Send to m) ok placed h =
    locks_send head past stamp (Target t) to m placed.shows (sent_said head past (Target t) to m ok h) h.phase.client h.locks
keeps_locks head past stamp (Client c) (Heard t f r) ok placed h = locks_heard head past stamp c t f r ok h
keeps_locks head past stamp (Client c) (Hold t lock marked size seen) ok placed h =
    locks_hold head.osts head.clients past stamp c h.phase.client h.locks t lock marked size seen
    (holds_stay head past stamp c t lock marked size seen ok h)
keeps_locks head past stamp (Client c) (Drop t lock) ok placed h =
    locks_drop head.osts head.clients past stamp c h.phase.client h.locks t lock ok
keeps_locks head past stamp (Client c) (Pins name) ok placed h = locks_pins head.osts head.clients past stamp c h.phase.client h.locks name
keeps_locks head past stamp (Client c) (Unpins name) ok placed h =
    locks_unpins head.osts head.clients past stamp c h.phase.client h.locks name
keeps_locks head past stamp (Client c) (Marks name) ok placed h =
    locks_marks head.osts head.clients past stamp c h.phase.client h.locks name
keeps_locks head past stamp (Client c) (Unmarks t) ok placed h = locks_unmarks head.osts head.clients past stamp c h.phase.client h.locks t
keeps_locks head past stamp (Client c) (Knows t boot) ok placed h =
    locks_knows head.osts head.clients past stamp c t boot ok h.phase.client h.locks
keeps_locks head past stamp (Client c) (Life who) ok placed h = locks_life head past stamp c who ok h
keeps_locks head past stamp (Target t) (Act d) ok placed h = locks_act head past stamp t d placed.shows ok h
keeps_locks head past stamp (Target t) (Grant lock (Some d)) ok placed h =
    ⊎_elim (λ (k : (t ≡ 0) × GrantOk head.osts past lock d). locks_names head past stamp t h lock d placed.shows k.1)
    (λ (k : (0 < t) × RangeOk head.osts past (turn stamp (Target t)) lock d). locks_range head past stamp t lock d placed.shows k.1 h)
    ok
keeps_locks head past stamp (Target t) (Grant lock None) ok placed h = locks_promote head past stamp t lock placed.shows ok.1 h
keeps_locks head past stamp (Target t) (Wait lock d) ok placed h = locks_wait head past stamp t lock d placed.shows ok.1 h
keeps_locks head past stamp (Target t) (Made d) ok placed h = locks_txn head past stamp t h d placed.shows ok
keeps_locks head past stamp (Target t) (Answers d) ok placed h = locks_answers head past stamp t h d placed.shows ok.1
keeps_locks head past stamp (Target t) (Release lock) ok placed h = locks_release head past stamp t h lock placed.shows ok
keeps_locks head past stamp (Target t) (Evict who cause) ok placed h =
    locks_evict head past stamp t h who cause placed.shows (⊎_elim (λ (k : EvictOk head past (turn stamp (Target t)) who cause). k.serves)
    (λ (k : LeavesOk head past (turn stamp (Target t)) who cause). k.serves) ok)
keeps_locks head past stamp (Target t) (Joined who) ok placed h =
    locks_join head past stamp t h who placed.shows (⊎_elim (λ (k : JoinedOk head past (turn stamp (Target t)) t who). k.serves)
    (λ (k : ComesOk head past (turn stamp (Target t)) t who). k.serves) ok)
keeps_locks head past stamp (Target t) Crash ok placed h = locks_crash head past stamp t h
keeps_locks head past stamp (Target t) (Boot boot disk) ok placed h = locks_boot head past stamp t h boot disk ok
keeps_locks head past stamp (Target t) (Brings lock) ok placed h = locks_brings head past stamp t h lock placed.shows ok
keeps_locks head past stamp (Target t) (Close close) ok placed h =
    subst (λ (o : Outcome). Locks head.osts head.clients (line (turn stamp (Target t)) (Close o) ∷ past)) (sym ok.is)
    (locks_close head past stamp t ok.recovers ok.of_removed h)
keeps_locks head past stamp (Target t) (Restore lock) ok placed h =
    locks_restore head past stamp t lock placed.shows ok h.phase.client h.locks
keeps_locks head past stamp (Client c) (Act d) ok placed h = absurd ok
keeps_locks head past stamp (Client c) (Made d) ok placed h = absurd ok
keeps_locks head past stamp (Client c) (Grant lock asked) ok placed h = absurd ok
keeps_locks head past stamp (Client c) (Wait lock d) ok placed h = absurd ok
keeps_locks head past stamp (Client c) (Answers d) ok placed h = absurd ok
keeps_locks head past stamp (Target t) (Heard u f r) ok placed h = absurd ok
keeps_locks head past stamp (Target t) (Hold u lock marked size seen) ok placed h = absurd ok
keeps_locks head past stamp (Target t) (Drop u lock) ok placed h = absurd ok
keeps_locks head past stamp (Client c) e ok placed h = h.locks
keeps_locks head past stamp (Target t) e ok placed h =
    let k = h.locks in
    record {
      whose = k.whose;
      kinds = k.kinds;
      promoted = k.promoted;
      bare = k.bare;
      cookies = k.cookies;
      greatest = k.greatest;
      low = k.low;
      named = k.named;
      once = k.once;
      granted = k.granted;
      apart = k.apart;
      waits = k.waits;
      held = k.held;
      alive = k.alive;
      kin = k.kin;
      shown = λ v u l i. still_shown head past stamp t e placed.shows l (λ q. absurd (cc)) (k.shown v u l i);
      single = k.single;
      awaits = k.awaits;
      blocks = k.blocks;
      cancels = k.cancels;
      gone = k.gone;
      notices = k.notices;
      relocks = k.relocks;
      brought = k.brought;
    }

-- ---- what is over stays so

module _ (head : Head) (past : List Line) (stamp : Stamp) (h : HoldsAt head past) where
  -- by a line that gives no locks
  abbrev OverBy : Node → Entry → Type 0
  OverBy node e = Stays head.osts head.clients past (line (turn stamp node) e ∷ past)

  dead_by : (node : Node) (e : Entry) → OverBy node e → StaysDead past (line (turn stamp node) e ∷ past)
  dead_by node e s = stays_dead head.osts head.clients past (line (turn stamp node) e ∷ past) s h.phase.client h.locks

  lapsed_by : (node : Node) (e : Entry) → OverBy node e → StaysLapsed past (line (turn stamp node) e ∷ past)
  lapsed_by node e s = stays_lapsed head.osts head.clients past (line (turn stamp node) e ∷ past) s h.phase.client h.locks

  -- those by which what is held, hoped for or known changes
  over_stays : (c : ℕ) (e : Entry) → EntryOf head past (turn stamp (Client c)) (Client c) e → OverBy (Client c) e
      ⊎ (StaysDead past (line (turn stamp (Client c)) e ∷ past) × StaysLapsed past (line (turn stamp (Client c)) e ∷ past))
  over_stays c (Heard t f r) ok = inl (heard_stays head past stamp c t f r ok h)
  over_stays c (Hold t lock marked size seen) ok = inl (holds_stay head past stamp c t lock marked size seen ok h)
  over_stays c (Drop t lock) ok = inl (drops_stay head.osts head.clients past stamp c h.phase.client h.locks t lock ok)
  over_stays c (Pins name) ok = inl (pins_stays head.osts head.clients past stamp c h.phase.client h.locks name)
  over_stays c (Unpins name) ok = inl (unpins_stays head.osts head.clients past stamp c h.phase.client h.locks name)
  over_stays c (Marks name) ok = inl (marks_stays head.osts head.clients past stamp c h.phase.client h.locks name)
  over_stays c (Unmarks t) ok = inl (unmarks_stays head.osts head.clients past stamp c h.phase.client h.locks t)
  over_stays c (Knows t boot) ok = inl (knows_stays head.osts head.clients past stamp c t boot ok h.phase.client h.locks)
  over_stays c e ok = inr (λ d l g x. x, λ d l g x. x)

  pub keeps_dead : (node : Node) (e : Entry) → EntryOf head past (turn stamp node) node e → StaysDead past (line (turn stamp node) e ∷ past)
  keeps_dead (Client c) e ok = ⊎_elim (λ (s : OverBy (Client c) e). dead_by (Client c) e s)
      (λ (k : StaysDead past (line (turn stamp (Client c)) e ∷ past) × StaysLapsed past (line (turn stamp (Client c)) e ∷ past)). k.0)
      (over_stays c e ok)
  keeps_dead (Target t) (Heard u f r) ok = absurd ok
  keeps_dead (Target t) (Hold u lock marked size seen) ok = absurd ok
  keeps_dead (Target t) (Drop u lock) ok = absurd ok
  keeps_dead (Target t) (Knows u boot) ok = absurd ok
  keeps_dead (Target t) e ok = λ d l g x. x

  pub keeps_lapsed : (node : Node) (e : Entry) → EntryOf head past (turn stamp node) node e
      → StaysLapsed past (line (turn stamp node) e ∷ past)
  keeps_lapsed (Client c) e ok = ⊎_elim (λ (s : OverBy (Client c) e). lapsed_by (Client c) e s)
      (λ (k : StaysDead past (line (turn stamp (Client c)) e ∷ past) × StaysLapsed past (line (turn stamp (Client c)) e ∷ past)). k.1)
      (over_stays c e ok)
  keeps_lapsed (Target t) (Heard u f r) ok = absurd ok
  keeps_lapsed (Target t) (Hold u lock marked size seen) ok = absurd ok
  keeps_lapsed (Target t) (Drop u lock) ok = absurd ok
  keeps_lapsed (Target t) (Knows u boot) ok = absurd ok
  keeps_lapsed (Target t) e ok = λ d l g x. x

-- ---- at the start

pub locks_start : (osts clients : ℕ) → Locks osts clients []
locks_start osts clients =
    record {
      whose = λ d l g. absurd g.0;
      kinds = λ d l g. absurd g.0;
      promoted = λ l p. absurd p;
      bare = λ d k a. absurd a;
      cookies = λ d k a. absurd a;
      greatest = (omega arith, omega arith);
      low = λ v d k a. absurd a;
      named = λ d e k a. absurd a;
      once = λ d e l k g. absurd g.0;
      granted = λ l i. absurd i;
      apart = λ k l i. absurd i;
      waits = λ l i. absurd i;
      held = λ c k i. absurd i;
      alive = λ d l g. absurd g.0;
      kin = λ d e l k g. absurd g.0;
      shown = λ v u l i. absurd i;
      single = λ who k. omega arith;
      awaits = λ who k lt. absurd (omega arith);
      blocks = λ from c who boot cookie w. absurd w;
      cancels = λ from to who boot cookie w. absurd w;
      gone = λ who cookie w. absurd w;
      notices = λ from to g w. absurd w;
      relocks = λ from to r w. absurd w;
      brought = λ v l i. absurd i;
    }
