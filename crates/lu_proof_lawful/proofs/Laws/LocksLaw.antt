-- The law of locks holds of the printed past of every grown one: a life holds what was given to it, and no two locks that are held and
-- whose lives
-- weren't evicted conflict; each was granted as it was asked for; and what changes names waited until no lock guards what it writes.
use Rattle.std.proofs.Common.{◌≡◌, ℕ, zero, suc, ◌+◌, Bool, true, false, List, [], ◌∷◌, ◌⊎◌, inl, inr, ⊎_elim, Option, Some, None, refl}
use Rattle.std.proofs.Common.{sym, subst, ap, ◌∙◌, arith}
use Rattle.std.specs.Prelude.{nat_eq, not, ◌&&◌, if◌then◌else◌}
use Rattle.std.specs.List.{list_any}
use Rattle.std.proofs.lemmas.Bool.{or_parts, eqb-true, eq-eqb}
use Rattle.lu_base.specs.declared.ids.Node.{Node}
use Rattle.lu_base.specs.declared.ids.Node.TheVariants.{Client, Target}
use Rattle.lu_base.specs.declared.ids.Stamp.{Stamp}
use Rattle.lu_base.specs.declared.ids.Who.{Who}
use Rattle.lu_base.specs.declared.locks.Lock.{Lock}
use Rattle.lu_base.specs.declared.locks.Mode.TheVariants.{EX}
use Rattle.lu_lock.specs.Conflict.{conflict}
use Rattle.lu_lock.specs.Modes.{compatible}
use Rattle.lu_lock.specs.Overlap.{policies_meet}
use Rattle.lu_lock.proofs.OverlapLaws.{policies_meet_symmetric}
use Rattle.lu_msg.specs.declared.operations.Op.{Op}
use Rattle.lu_part.specs.declared.parts.Part.{Part}
use Rattle.lu_part.specs.Guards.{guard}
use Rattle.lu_spec_machine.specs.Footprint.{writes}
use Rattle.lu_spec_machine.specs.Tree.{Tree, same_life}
use Rattle.lu_trace.specs.declared.entries.Line.{Line as PrintedLine}
use Rattle.lu_spec_entries.specs.Carried.{Deed}
use Rattle.lu_spec_entries.specs.Words.{Entry, Txn, Hold, Grant, Line, line}
use Rattle.lu_spec_entries.specs.Concerns.{only}
use Rattle.lu_spec_entries.specs.Sent.{count_sent}
use Rattle.lu_spec_entries.specs.Printed.{printed_entry, printed}
use Rattle.lu_spec_target.specs.Names.{guards_part, in_way, is_free}
use Rattle.lu_proof_lawful.specs.Covered.TargetParts.{operation}
use Rattle.lu_proof_lawful.specs.Covered.TargetStates.{Server, server_of, tree_at}
use Rattle.lu_proof_lawful.specs.Covered.TargetCloses.{closing_of}
use Rattle.lu_proof_lawful.specs.Covered.Heads.{Head}
use Rattle.lu_spec_laws.specs.Words.Lives.{who_is, is_evicted}
use Rattle.lu_spec_laws.specs.Words.Queues.{is_on}
use Rattle.lu_spec_laws.specs.Words.Standing.{contents}
use Rattle.lu_spec_laws.specs.Words.Seen.{writes_of}
use Rattle.lu_spec_laws.specs.Words.Held.{Held, given, held, with_lock, is_held_by, all_but, opposes, is_opposed}
use Rattle.lu_spec_laws.specs.Holds.{Holds, HoldsBefore}
use Rattle.lu_spec_laws.specs.Laws.Locks.{HoldsGiven, HoldBy, exclusive, AreUnguarded, TxnBy, LocksAt, Locks}
use Rattle.lu_spec_laws.proofs.Tests.{clash, refuted}
use Rattle.lu_proof_lawful.proofs.Preconditions.Guards.{In}
use Rattle.lu_proof_lawful.proofs.Preconditions.StoryGuards.{TxnsOk}
use Rattle.lu_proof_lawful.proofs.Preconditions.Grown.{Allowed, Grown}
use Rattle.lu_proof_lawful.proofs.Preconditions.Held.{held_into}
use Rattle.lu_proof_lawful.proofs.Preconditions.Lists.{self, life_self, in_filter, in_filtered}
use Rattle.lu_proof_lawful.proofs.Preconditions.Parts.{server_is, life_is_of}
use Rattle.lu_proof_lawful.proofs.Preconditions.QueueLists.{resource_of}
use Rattle.lu_proof_lawful.proofs.Preconditions.ClientLocks.{none_any}
use Rattle.lu_proof_lawful.proofs.Invariants.Groups.{turn}
use Rattle.lu_proof_lawful.proofs.Invariants.TargetGroups.{Gave}
use Rattle.lu_proof_lawful.proofs.Invariants.All.{holds}
use Rattle.lu_proof_lawful.proofs.Laws.Lines.{OfPrinted, Keeps, holds_before, Nothing}
use Rattle.lu_proof_lawful.proofs.Laws.Facts.{AskedAt}
use Rattle.lu_proof_lawful.proofs.Laws.Contents.{contents_alike}
use Rattle.lu_proof_lawful.proofs.Laws.CloseLines.{nothing_left}
use Rattle.lu_proof_lawful.proofs.Laws.CloseSlots.{NoneLeft}
use Rattle.lu_proof_lawful.proofs.Laws.Once.{all_asked}
use Rattle.lu_proof_lawful.proofs.Laws.Holding.{HeldIs, gave_one, has_gave, held_granted, given_now, all_held}
use Rattle.lu_proof_lawful.proofs.Laws.GrantLaw.{promoted_ok, granted_ok}

-- ---- what opposes

-- a lock of another target doesn't
away : (x y z w : Bool) → x ≡ false → (x && y && z && w) ≡ false
away true y z w e = absurd (cc)
away false y z w e = refl

-- nor does one of another resource
off : (x y z w : Bool) → y ≡ false → (x && y && z && w) ≡ false
off true true z w e = absurd (cc)
off true false z w e = refl
off false y z w e = refl

-- nor one that doesn't conflict
clear : (x y z w : Bool) → z ≡ false → (x && y && z && w) ≡ false
clear true true z w e = ap (λ (b : Bool). b && w) e
clear true false z w e = refl
clear false y z w e = refl

-- nor one of a life that was evicted
over : (x y z w : Bool) → w ≡ true → (x && y && z && not w) ≡ false
over true true true w e = ap not e
over true true false w e = refl
over true false z w e = refl
over false y z w e = refl

-- ---- a lock is held

-- by the life that asked for it
held_who : (head : Head) (past : List Line) → Grown head past → (h : Held) → HeldIs past h → h.who ≡ h.lock.ask.who
held_who head past g h is =
    let t = h.target in
    let x = is.mine in
    let at = ((holds head past g).at t).locks in
    let k = at.held is.client x.0 (held_into is.client t past x.0 x.2 x.1) in
    is.who ∙ life_is_of is.client t past ∙ sym k.who ∙ sym (at.whose k.deed x.0.lock k.gave) ∙ ap (λ (l : Lock). l.ask.who) x.3

module _ (head : Head) (past : List Line) (stamp : Stamp) (c t : ℕ) (lock : Lock) (marked : Bool) (size : Option ℕ) (seen : List ℕ)
    (a : Allowed head past (turn stamp (Client c)) (Hold t lock marked size seen)) (g : Grown head past) where
  abbrev W : Who
  W = who_is c (printed past)

  abbrev G : List Lock
  G = (server_of head.osts (only t past)).granted

  abbrev next : Line
  next = line (turn stamp (Client c)) (Hold t lock marked size seen)

  now : (given t W lock.cookie.0 (printed past) ≡ Some lock) × ((e : Deed) × Gave (only t past) e lock)
  now = given_now head past stamp c t lock marked size seen a g

  left : NoneLeft head t past
  left = nothing_left head (only t past) (turn stamp (Client c)) (Hold t lock marked size seen) (a.shows t (self t)) (λ s. s)

  -- its own
  abbrev me : Held
  me = record { who = W; target = t; lock = lock }

  held_now : HeldIs (next ∷ past) me
  held_now = all_held head (next ∷ past) (a, g) me (subst (λ (o : Option Lock). In me (with_lock W t o (held (printed past)))) (sym now.0)
      (inl refl))

  -- is granted, unless its life was evicted
  mine : In lock G ⊎ (is_evicted t (printed past) W ≡ true)
  mine =
      subst (λ (b : Bool). In lock (server_of head.osts (if b then next ∷ only t past else only t past)).granted
      ⊎ (is_evicted t (printed past) W ≡ true)) (self t)
      (held_granted head (next ∷ past) (a, g) me (subst (λ (b : Bool). closing_of head.clients
      (if b then next ∷ only t past else only t past) ≡ []) (sym (self t)) left) held_now)

  -- where both are granted they don't conflict
  both_granted : (h : Held) → HeldIs past h → h.target ≡ t → In lock G → In h.lock G → h.lock.resource ≡ lock.resource
      → not (is_held_by W t lock.cookie.0 h) ≡ true → conflict lock.ask h.lock.ask ≡ false
  both_granted h is there i j place other = ((holds head past g).at t).locks.apart lock h.lock i j (sym place) two
    where
      two : lock.cookie.0 ≡ h.lock.cookie.0 → ⊥
      two e =
          let k = has_gave head past g is.client h.target h.lock is.mine in
          let same : lock ≡ h.lock = gave_one head t past g now.1.0 k.0 lock h.lock now.1.1
          (subst (λ (u : ℕ). Gave (only u past) k.0 h.lock) there k.1) e in
          let who : h.who ≡ W = held_who head past g h is ∙ ap (λ (l : Lock). l.ask.who) (sym same)
          ∙ sym (held_who head (next ∷ past) (a, g) me held_now) in
          clash (is_held_by W t lock.cookie.0 h)
          (let target : nat_eq h.target t ≡ true = eq-eqb h.target t there in
          let cookie : nat_eq h.lock.cookie.0 lock.cookie.0 ≡ true = eq-eqb h.lock.cookie.0 lock.cookie.0 (sym e) in
          let life : same_life h.who W ≡ true = subst (λ (w : Who). same_life h.who w ≡ true) who (life_self h.who) in
          rw (target, cookie, life) refl)
          (refuted (is_held_by W t lock.cookie.0 h) other)

  unopposed : is_evicted t (printed past) W ≡ false → (h : Held) → In h (all_but W t lock.cookie.0 (held (printed past)))
      → opposes (printed past) t lock.resource lock.ask h ≡ false
  unopposed lives h among = by (nat_eq h.target t) (is_on lock.resource h.lock) refl refl
    where
      f : In h (held (printed past)) × (not (is_held_by W t lock.cookie.0 h) ≡ true)
      f = in_filter (λ (x : Held). not (is_held_by W t lock.cookie.0 x)) h (held (printed past)) among

      is : HeldIs past h
      is = all_held head past g h f.0

      standing : h.target ≡ t → In h.lock G ⊎ (is_evicted t (printed past) h.who ≡ true)
      standing e =
          subst (λ (u : ℕ). In h.lock (server_of head.osts (only u past)).granted ⊎ (is_evicted u (printed past) h.who ≡ true)) e
          (held_granted head past g h (subst (λ (u : ℕ). NoneLeft head u past) (sym e) left) is)

      by : (x y : Bool) → nat_eq h.target t ≡ x → is_on lock.resource h.lock ≡ y → opposes (printed past) t lock.resource lock.ask h ≡ false
      by false y e q = away (nat_eq h.target t) (is_on lock.resource h.lock) (conflict lock.ask h.lock.ask)
          (not (is_evicted t (printed past) h.who)) e
      by true false e q = off (nat_eq h.target t) (is_on lock.resource h.lock) (conflict lock.ask h.lock.ask)
          (not (is_evicted t (printed past) h.who)) q
      by true true e q =
          let there : h.target ≡ t = eqb-true h.target t e in
          ⊎_elim
          (λ (j : In h.lock G). ⊎_elim
          (λ (i : In lock G).
          clear (nat_eq h.target t) (is_on lock.resource h.lock) (conflict lock.ask h.lock.ask) (not (is_evicted t (printed past) h.who))
          (both_granted h is there i j (resource_of h.lock.resource lock.resource q) f.1))
          (λ (i : is_evicted t (printed past) W ≡ true). absurd (clash (is_evicted t (printed past) W) i lives))
          mine)
          (λ (j : is_evicted t (printed past) h.who ≡ true). over (nat_eq h.target t) (is_on lock.resource h.lock)
          (conflict lock.ask h.lock.ask) (is_evicted t (printed past) h.who) j)
          (standing there)

  hold_ok : HoldBy (printed past) (Client c) t lock.cookie.0
  hold_ok =
      subst (λ (o : Option Lock). HoldsGiven (printed past) W t lock.cookie.0 o) (sym now.0)
      (λ lives. none_any (opposes (printed past) t lock.resource lock.ask) (all_but W t lock.cookie.0 (held (printed past)))
      (unopposed lives))

-- ---- a transaction writes

module _ (head : Head) (past : List Line) (g : Grown head past) where
  -- no lock that guards the part is held
  unguarded : NoneLeft head 0 past → (who : Who) (parts : List Part) → is_free (in_way (server_of head.osts (only 0 past)).granted parts)
      ≡ true → AreUnguarded (printed past) who parts
  unguarded none_left who parts free =
      none_any (λ (part : Part). is_opposed (printed past) 0 (guard part).0 (exclusive who (guard part).1) (held (printed past))) parts
      (λ part i. none_any (opposes (printed past) 0 (guard part).0 (exclusive who (guard part).1)) (held (printed past))
      (λ h j. apart part i h (all_held head past g h j)))
    where
      granted : List Lock
      granted = (server_of head.osts (only 0 past)).granted

      none : (ls : List Lock) → is_free ls ≡ true → (l : Lock) → In l ls → ⊥
      none [] f l i = i
      none (k ∷ ls) f l i = absurd (cc)

      not_any : (p : Part → Bool) (ps : List Part) (part : Part) → In part ps → list_any p ps ≡ false → p part ≡ false
      not_any p [] part i e = absurd i
      not_any p (x ∷ ps) part (inl q) e = ap p (sym q) ∙ (or_parts (p x) (list_any p ps) e).0
      not_any p (x ∷ ps) part (inr i) e = not_any p ps part i (or_parts (p x) (list_any p ps) e).1

      guards_none : (l : Lock) → In l granted → (part : Part) → In part parts → guards_part l part ≡ false
      guards_none l i part j = not_any (guards_part l) parts part j (by (list_any (guards_part l) parts) refl)
        where
          by : (b : Bool) → list_any (guards_part l) parts ≡ b → b ≡ false
          by false e = refl
          by true e = absurd (none (in_way granted parts) free l (in_filtered (λ (k : Lock). list_any (guards_part k) parts) l granted i e))

      -- what conflicts meets, of whatever modes
      both : (x y m p w : Bool) → (y && p) ≡ false → (x && y && (m && p) && w) ≡ false
      both false y m p w e = refl
      both true false m p w e = refl
      both true true true p w e = ap (λ (b : Bool). b && w) e
      both true true false p w e = refl

      apart : (part : Part) → In part parts → (h : Held) → HeldIs past h
          → opposes (printed past) 0 (guard part).0 (exclusive who (guard part).1) h ≡ false
      apart part i h is = by (nat_eq h.target 0) refl
        where
          of_first : h.target ≡ 0 → In h.lock granted ⊎ (is_evicted 0 (printed past) h.who ≡ true)
          of_first z =
              subst (λ (t : ℕ). In h.lock (server_of head.osts (only t past)).granted ⊎ (is_evicted t (printed past) h.who ≡ true)) z
              (held_granted head past g h (subst (λ (t : ℕ). NoneLeft head t past) (sym z) none_left) is)

          by : (b : Bool) → nat_eq h.target 0 ≡ b → opposes (printed past) 0 (guard part).0 (exclusive who (guard part).1) h ≡ false
          by false e = away (nat_eq h.target 0) (is_on (guard part).0 h.lock) (conflict (exclusive who (guard part).1) h.lock.ask)
              (not (is_evicted 0 (printed past) h.who)) e
          by true e = ⊎_elim
              (λ (q : In h.lock granted).
              both (nat_eq h.target 0) (is_on (guard part).0 h.lock) (not (compatible EX h.lock.ask.mode))
              (policies_meet (guard part).1 h.lock.ask.policy) (not (is_evicted 0 (printed past) h.who))
              (ap (λ (b : Bool). is_on (guard part).0 h.lock && b) (policies_meet_symmetric (guard part).1 h.lock.ask.policy)
              ∙ guards_none h.lock q part i))
              (λ (q : is_evicted 0 (printed past) h.who ≡ true). over (nat_eq h.target 0) (is_on (guard part).0 h.lock)
              (conflict (exclusive who (guard part).1) h.lock.ask) (is_evicted 0 (printed past) h.who) q)
              (of_first (eqb-true h.target 0 e))

  txn_ok : (stamp : Stamp) (d : Deed) → Allowed head past (turn stamp (Target 0)) (Txn d) → AskedAt 0 past d
      → TxnBy head.osts (printed past) (Target 0) d.reply.txn d.reply.who d.reply.xid.0
  txn_ok stamp d a asks = by (a.of 0 refl)
    where
      v : Server
      v = server_of head.osts (only 0 past)

      none_left : NoneLeft head 0 past
      none_left = nothing_left head (only 0 past) (turn stamp (Target 0)) (Txn d) (a.shows 0 refl) (λ s. s)

      tree : tree_at head.osts 0 past ≡ v.tree
      tree = ap (λ (s : Server). s.tree) (server_is head.osts 0 past)

      same : writes head.osts (contents head.osts (printed past)) (operation d) ≡ writes head.osts v.tree (operation d)
      same = (contents_alike head past g (all_asked head past g) (operation d)).writes
          ∙ ap (λ (k : Tree). writes head.osts k (operation d)) tree

      by : TxnsOk head.osts (only 0 past) (turn stamp (Target 0)) 0 d
          → TxnBy head.osts (printed past) (Target 0) d.reply.txn d.reply.who d.reply.xid.0
      by (inr ok) = absurd (let high = ok.0 in omega (arith, high))
      by (inl ok) =
          let free : is_free (in_way v.granted (writes head.osts v.tree (operation d))) ≡ true =
          subst (λ (e : Deed). is_free (in_way v.granted (writes head.osts v.tree (operation e))) ≡ true) (sym ok.1.is) ok.1.free in
          subst (λ (o : Option Op). AreUnguarded (printed past) d.reply.who
          (writes_of head.osts 0 (printed past) d.reply.txn d.reply.who o)) (sym asks)
          (subst (λ (ps : List Part). AreUnguarded (printed past) d.reply.who ps) (sym same)
          (unguarded none_left d.reply.who (writes head.osts v.tree (operation d)) free))

-- ---- the law

locks_at : (head : Head) (past : List Line) (l : Line) (later : List PrintedLine) → Allowed head past l.at l.entry → Grown head past
    → Keeps (Locks head.osts) past l later
locks_at head past l later a g = by l.at.node l.entry a
  where
    by : (node : Node) (e : Entry) → Allowed head past (turn l.at.stamp node) e
        → OfPrinted (LocksAt head.osts (printed past) (turn l.at.stamp node)) (printed_entry (count_sent past + 1) e)
    by (Client c) (Hold t lock marked size seen) k = hold_ok head past l.at.stamp c t lock marked size seen k g
    by (Target t) (Hold u lock marked size seen) k = absurd k.ok
    by (Client c) (Grant lock asked) k = absurd k.ok
    by (Target t) (Grant lock (Some d)) k = granted_ok head past g l.at.stamp t lock d k
    by (Target t) (Grant lock None) k = promoted_ok head past g l.at.stamp t lock k
    by (Client c) (Txn d) k = absurd k.ok
    by (Target zero) (Txn d) k = txn_ok head past g l.at.stamp d k
        ((all_asked head (line (turn l.at.stamp (Target 0)) (Txn d) ∷ past) (k, g)).0 0 refl)
    by (Target (suc t)) (Txn d) k = tt
    by _ _ k = tt

-- whatever lines come later
pub locks_before : (head : Head) (past : List Line) (later : List PrintedLine) → Grown head past
    → HoldsBefore (Locks head.osts) later (printed past)
locks_before head past later g = holds_before head (Locks head.osts) Nothing (λ l past k. k)
    (λ past l later a g k. locks_at head past l later a g) past later g tt

pub locks_law : (head : Head) (past : List Line) → Grown head past → Holds (Locks head.osts) (printed past)
locks_law head past g = locks_before head past [] g
