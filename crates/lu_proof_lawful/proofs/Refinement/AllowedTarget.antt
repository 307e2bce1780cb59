-- A line of a target that isn't a close adds to the story of an object nothing, or an entry that is allowed there.
use Rattle.std.proofs.Common.{◌≡◌, ℕ, ◌≤◌, Bool, true, false, List, [], ◌∷◌, Option, Some, None, ◌⊎◌, inl, inr, refl, sym, subst, ap, ◌∙◌}
use Rattle.std.proofs.Common.{arith}
use Rattle.std.specs.Prelude.{nat_eq, ◌||◌, if◌then◌else◌, option_map}
use Rattle.std.proofs.lemmas.Bool.{eqb-true, ltb-false}
use Rattle.lu_base.specs.declared.ids.At.{At}
use Rattle.lu_base.specs.declared.ids.Node.{Node}
use Rattle.lu_base.specs.declared.ids.Node.TheVariants.{Client, Target}
use Rattle.lu_base.specs.declared.ids.Stamp.{Stamp}
use Rattle.lu_base.specs.declared.ids.Who.{Who}
use Rattle.lu_base.specs.declared.locks.Lock.{Lock as TableLock}
use Rattle.lu_base.specs.declared.locks.Resource.{Resource}
use Rattle.lu_held.specs.Locks.{same_resource}
use Rattle.lu_msg.specs.declared.messages.Message.{Message}
use Rattle.lu_msg.specs.declared.messages.Message.TheVariants as message
use Rattle.lu_spec_entries.specs.Carried.{Deed, Outcome}
use Rattle.lu_spec_entries.specs.Words as word
use Rattle.lu_spec_entries.specs.Words.{Line, line}
use Rattle.lu_spec_entries.specs.Concerns.{concerns, only}
use Rattle.lu_proof_lawful.specs.Covered.Heads.{Head}
use Rattle.lu_proof_lawful.specs.Covered.TargetStates.{boot_at, server_of}
use Rattle.lu_proof_lawful.proofs.Preconditions.Acts.{kind_ranges}
use Rattle.lu_proof_lawful.proofs.Preconditions.Guards.{In, Was, HasRange, TookNow, TookBack, IsEvict, InTurn, EntryOk}
use Rattle.lu_proof_lawful.proofs.Preconditions.StoryGuards.{EntryOf, SendOf, SizedOk, ActsOk, WriteOk, TxnsOk, RangeOk, GrantsOk}
use Rattle.lu_proof_lawful.proofs.Preconditions.Lists.{self, turn}
use Rattle.lu_proof_lawful.proofs.Preconditions.LockKinds.{granted_kind}
use Rattle.lu_proof_lawful.proofs.Preconditions.Only.{grown_of, sent_was}
use Rattle.lu_proof_lawful.proofs.Preconditions.ServerParts.{boot_is}
use Rattle.lu_proof_lawful.proofs.Preconditions.Grown.{Allowed, Grown, ShowsNext}
use Rattle.lu_proof_lawful.proofs.Invariants.Groups.{HoldsAt}
use Rattle.lu_proof_lawful.proofs.Invariants.Sides.{was_between, was_side}
use Rattle.lu_proof_bytes.specs.Object.Words as words
use Rattle.lu_proof_bytes.specs.Object.Words.{Lock, Request, Entry, Acts, Txn, Grant, Wait, Promote, Release, Evict, Commit, Send, Reply}
use Rattle.lu_proof_bytes.specs.Object.Words.{Give, Block}
use Rattle.lu_proof_bytes.specs.Object.Folds as says
use Rattle.lu_proof_bytes.specs.Object.Guards as guards
use Rattle.lu_proof_lawful.specs.Projection.Lives.{number_of}
use Rattle.lu_proof_lawful.specs.Projection.Locks.{lock_of, given}
use Rattle.lu_proof_lawful.specs.Projection.Requests.{op_of, asked_as, among, answer_of}
use Rattle.lu_proof_lawful.specs.Projection.Messages.{by_target}
use Rattle.lu_proof_lawful.specs.Projection.Stories.{with_entry, served, size_in, story}
use Rattle.lu_proof_lawful.proofs.Refinement.TiedObject.{ObjectBy}
use Rattle.lu_proof_lawful.proofs.Refinement.TiedTarget.{TargetBy}
use Rattle.lu_proof_lawful.proofs.Refinement.TargetDeeds.{asked_by}
use Rattle.lu_proof_lawful.proofs.Refinement.TargetActs.{served_either}
use Rattle.lu_proof_lawful.proofs.Refinement.TargetLines.{client_silent, other_silent, given_by, own_only, own_story}
use Rattle.lu_proof_lawful.proofs.Refinement.Tied.{Here, Grows}
use Rattle.lu_proof_lawful.proofs.Refinement.ObjectRises.{rises_at}
use Rattle.lu_proof_lawful.proofs.Refinement.AllowedLocks.{resource_is, committed_now, range_allowed, wait_allowed, promote_allowed}
use Rattle.lu_proof_lawful.proofs.Refinement.AllowedBytes.{write_allowed}
use Rattle.lu_proof_lawful.proofs.Refinement.AllowedActs.{sized_allowed, answers_allowed}
use Rattle.lu_proof_lawful.proofs.Refinement.AllowedSends.{gives_allowed, calls_allowed, reply_allowed, release_allowed}

-- ---- another target's line

same_both : {A : Type 0} (b : Bool) (x : A) → (if b then x else x) ≡ x
same_both true x = refl
same_both false x = refl

pub other_story : (t : ℕ) (r : Resource) (stamp : Stamp) (u : ℕ) (e : word.Entry) (past : List Line) → nat_eq t u ≡ false
    → story t r (line (turn stamp (Target u)) e ∷ past) ≡ story t r past
other_story t r stamp u (word.Send (Target v) m) past off = same_both (nat_eq v t) (story t r past)
other_story t r stamp u (word.Send (Client d) m) past off = rw off refl
other_story t r stamp u (word.Flies v f) past off = same_both (nat_eq v t) (story t r past)
other_story t r stamp u (word.Heard v f p) past off = same_both (nat_eq v t) (story t r past)
other_story t r stamp u (word.Hold v l marked size seen) past off = same_both (nat_eq v t) (story t r past)
other_story t r stamp u (word.Drop v l) past off = same_both (nat_eq v t) (story t r past)
other_story t r stamp u (word.Knows v boot) past off = same_both (nat_eq v t) (story t r past)
other_story t r stamp u (word.Changes q change) past off = same_both (same_resource q r) (story t r past)
other_story t r stamp u (word.WritesBack q change) past off = same_both (same_resource q r) (story t r past)
other_story t r stamp u (word.Grant l asked) past off = rw off refl
other_story t r stamp u (word.Wait l asked) past off = rw off refl
other_story t r stamp u (word.Act d) past off = rw off refl
other_story t r stamp u (word.Answers d) past off = rw off refl
other_story t r stamp u (word.Txn d) past off = rw off refl
other_story t r stamp u (word.Release l) past off = rw off refl
other_story t r stamp u (word.Commit to batch) past off = rw off refl
other_story t r stamp u (word.Close o) past off = rw off refl
other_story t r stamp u (word.Evict who cause) past off = rw off refl
other_story t r stamp u _ past off = refl

-- ---- who was evicted stays so

evicted_more : (c : ℕ) (x : Option Entry) (h : List Entry) → says.evicted c h ≡ true → says.evicted c (with_entry x h) ≡ true
evicted_more c None h e = e
evicted_more c (Some (Evict d)) h e = by (nat_eq c d)
  where
    by : (b : Bool) → (b || says.evicted c h) ≡ true
    by true = refl
    by false = e
evicted_more c (Some (words.Close b lost gone)) h e = by (gone c)
  where
    by : (b : Bool) → (b || says.evicted c h) ≡ true
    by true = refl
    by false = e
evicted_more c (Some x) h e = e

pub evicted_stays : (t : ℕ) (r : Resource) (c : ℕ) (l : Line) (past : List Line) → says.evicted c (story t r past) ≡ true
    → says.evicted c (story t r (l ∷ past)) ≡ true
evicted_stays t r c l past e = by l.at.node l.entry
  where
    by : (node : Node) (x : word.Entry) → says.evicted c (story t r (line (turn l.at.stamp node) x ∷ past)) ≡ true
    by (Client d) x = (client_silent t r l.at.stamp d past x).evicted c ∙ e
    by (Target u) x = own (nat_eq t u) refl
      where
        own : (b : Bool) → nat_eq t u ≡ b → says.evicted c (story t r (line (turn l.at.stamp (Target u)) x ∷ past)) ≡ true
        own false off = (other_silent t r l.at.stamp u x past off).evicted c ∙ e
        own true on =
            subst (λ (v : ℕ). says.evicted c (story t r (line (turn l.at.stamp (Target v)) x ∷ past)) ≡ true) (eqb-true t u on)
            (subst (λ (k : List Entry). says.evicted c k ≡ true) (sym (own_story t r l.at.stamp x past))
            (evicted_more c (given_by r (story t r past) x) (story t r past) e))

-- and whose eviction a turn shows
evicted_turn : (head : Head) (t : ℕ) (r : Resource) (past : List Line) (who : Who) (at : At) → Grown head past
    → InTurn (IsEvict who) (only t past) at → says.evicted (number_of who) (story t r past) ≡ true
evicted_turn head t r [] who at g i = absurd i
evicted_turn head t r (l ∷ past) who at g i = by (concerns t l.at.node l.entry) refl i
    (λ j. evicted_stays t r (number_of who) l past (evicted_turn head t r past who at g.1 j))
  where
    now : (node : Node) (x : word.Entry) → EntryOk past l.at node x → concerns t node x ≡ true → IsEvict who x
        → says.evicted (number_of who) (story t r (line (turn l.at.stamp node) x ∷ past)) ≡ true
    now (Client d) (word.Evict other cause) ok on e = absurd ok
    now (Target u) (word.Evict other cause) ok on e =
        subst (λ (v : ℕ). says.evicted (number_of who) (story t r (line (turn l.at.stamp (Target v)) (word.Evict other cause) ∷ past))
        ≡ true) (eqb-true t u on)
        (subst (λ (k : List Entry). says.evicted (number_of who) k ≡ true) (sym (own_story t r l.at.stamp (word.Evict other cause) past))
        (ap (λ (b : Bool). b || says.evicted (number_of who) (story t r past))
        (subst (λ (w : Who). nat_eq (number_of who) (number_of w) ≡ true) (sym e) (self (number_of who)))))
    now node _ ok on e = absurd e

    by : (b : Bool) → concerns t l.at.node l.entry ≡ b → InTurn (IsEvict who) (if b then l ∷ only t past else only t past) at
        → (InTurn (IsEvict who) (only t past) at → says.evicted (number_of who) (story t r (l ∷ past)) ≡ true)
        → says.evicted (number_of who) (story t r (l ∷ past)) ≡ true
    by false off i more = more i
    by true on (inr i) more = more i
    by true on (inl k) more = now l.at.node l.entry g.0.ok on k.1

-- ---- the message that gives a lock back

took_was : (head : Head) (past : List Line) (at : At) (from : Node) (m : Message) → Grown head past → TookNow past at from m
    → Was past from at.node m
took_was head [] at from m g took = absurd took
took_was head (l ∷ past) at from m g took = by l.entry g.0.ok took
  where
    by : (x : word.Entry) → EntryOk past l.at l.at.node x → TookNow (line l.at x ∷ past) at from m → Was (line l.at x ∷ past) from at.node m
    by (word.Take n sender k) ok took =
        subst (λ (v : Node). Was past from v m) (ap (λ (a : At). a.node) took.0)
        (subst (λ (v : Node). Was past v l.at.node m) took.1 (subst (λ (x : Message). Was past sender l.at.node x) took.2
        (sent_was past n sender l.at.node k ok.sent)))
    by _ ok took = absurd took

from_client : (head : Head) (t : ℕ) (past : List Line) (from : Node) (m : Message) → Grown head past → Was past from (Target t) m
    → Was (only t past) from (Target t) m
from_client head t past (Client c) m g w = was_side head past (Client c) (Target t) m g w
from_client head t past (Target u) m g w = absurd (was_between head past (Target u) (Target t) m g w)

-- ---- the target's own line

module _ (head : Head) (t : ℕ) (r : Resource) (stamp : Stamp) (past : List Line) where
  abbrev at : At
  at = turn stamp (Target t)

  abbrev there : List Line
  there = only t past

  abbrev h : List Entry
  h = story t r past

  own_grows : (e : word.Entry) → Here head t r (line (turn stamp (Target t)) e) past → ((o : Outcome) → e ≡ word.Close o → ⊥)
      → Grows (story t r past) (with_entry (given_by r (story t r past) e) (story t r past))
  own_grows e here other = by e here.stood.ok.ok (here.stood.ok.of t (self t)) (here.stood.ok.shows t (self t)) now other
    where
      all : HoldsAt head (only t past)
      all = here.stood.before.at t

      now : HoldsAt head (line (turn stamp (Target t)) e ∷ only t past)
      now = subst (HoldsAt head) (own_only t stamp e past) (here.stood.after.at t)

      tied : TargetBy head r (only t past) (story t r past)
      tied = here.tied.target

      object : ObjectBy head r (only t past) (story t r past)
      object = here.tied.object

      ranges : (l : TableLock) → In l (server_of head.osts (only t past)).granted → HasRange l.ask.policy
      ranges l i = kind_ranges t l here.some (granted_kind head t past here.stood.grown l i)

      goes : (lock : TableLock) → TookBack past at t lock ⊎ InTurn (IsEvict lock.ask.who) (only t past) at
          → (says.evicted (number_of lock.ask.who) (story t r past) ≡ true)
          ⊎ ((from to : Node) × (boot : ℕ) × Was (only t past) from to (message.Cancel lock.ask.who boot lock.cookie)
          × ((server_of head.osts (only t past)).boot ≤ boot))
      goes lock (inr i) = inl (evicted_turn head t r past lock.ask.who at here.stood.grown i)
      goes lock (inl b) = inr (
        b.from,
        Target t,
        b.boot,
        from_client head t past b.from (message.Cancel lock.ask.who b.boot lock.cookie) here.stood.grown
            (took_was head past at b.from (message.Cancel lock.ask.who b.boot lock.cookie) here.stood.grown b.took),
        (let low = ltb-false b.boot (boot_at t past) b.current in let is = boot_is head.osts t past in omega (arith, low, is)),
      )

      sized : (d : Deed) → ActsOk head.osts (only t past) at t d → SizedOk head.osts (only t past) at d
      sized d (inl k) = absurd (let zero = k.0 in let high = here.some in omega arith)
      sized d (inr k) = k.1

      writes : (d : Deed) → TxnsOk head.osts (only t past) at t d → WriteOk head.osts (only t past) at d
      writes d (inl k) = absurd (let zero = k.0 in let high = here.some in omega arith)
      writes d (inr k) = k.1

      range : (lock : TableLock) (d : Deed) → GrantsOk head.osts (only t past) at t lock d → RangeOk head.osts (only t past) at lock d
      range lock d (inl k) = absurd (let zero = k.0 in let high = here.some in omega arith)
      range lock d (inr k) = k.1

      -- what is sent
      sends : (c : ℕ) (m : Message) → SendOf head (only t past) (Target t) (Client c) m
          → ShowsNext head (only t past) at (word.Send (Client c) m) → HoldsAt head (line at (word.Send (Client c) m) ∷ only t past)
          → Grows (story t r past) (with_entry (option_map Send (by_target (story t r past) m)) (story t r past))
      sends c (message.Reply k) ok shows now = one (asked_as (number_of k.who) k.xid.0 (story t r past)) refl
        where
          one : (q : Option Request) → asked_as (number_of k.who) k.xid.0 (story t r past) ≡ q
              → Grows (story t r past) (with_entry (option_map Send (option_map (λ q. Reply k.boot q.life q.xid (answer_of q k)) q))
              (story t r past))
          one None e = inl refl
          one (Some q) e = inr (
            Send (Reply k.boot q.life q.xid (answer_of q k)),
            refl,
            reply_allowed head r (only t past) (story t r past) stamp t all tied object ranges c k ok now q e,
          )
      sends c (message.Grant g) ok shows now = one (given g.cookie.0 (story t r past)) refl
        where
          one : (m : Option Lock) → given g.cookie.0 (story t r past) ≡ m
              → Grows (story t r past) (with_entry (option_map Send (option_map (λ l. Give g.boot l g.size (among g.seen)) m))
              (story t r past))
          one None e = inl refl
          one (Some m) e = inr (
            Send (Give g.boot m g.size (among g.seen)),
            refl,
            gives_allowed head r (only t past) (story t r past) stamp t all tied object ranges c g ok shows m e,
          )
      sends c (message.Block who boot cookie) ok shows now = one (given cookie.0 (story t r past)) refl
        where
          one : (m : Option Lock) → given cookie.0 (story t r past) ≡ m
              → Grows (story t r past) (with_entry (option_map Send (option_map (λ l. Block boot (number_of who) cookie.0) m))
              (story t r past))
          one None e = inl refl
          one (Some m) e = inr (
            Send (Block boot (number_of who) cookie.0),
            refl,
            calls_allowed head r (only t past) (story t r past) stamp t all tied object ranges c who boot cookie ok m e,
          )
      sends c _ ok shows now = inl refl

      answered : (d : Deed) (make : Request → Entry) → ((o : words.Op) → op_of r (story t r past) d.op ≡ Some o
          → guards.Allowed (story t r past) (make (asked_by d o)))
          → Grows (story t r past) (with_entry (served r d (story t r past) make) (story t r past))
      answered d make allowed = served_either r d (story t r past) make (λ (k : List Entry). Grows (story t r past) k) (inl refl)
          (λ o e. inr (make (asked_by d o), refl, allowed o e))

      by : (x : word.Entry) → EntryOk past at (Target t) x → EntryOf head (only t past) at (Target t) x → ShowsNext head (only t past) at x
          → HoldsAt head (line at x ∷ only t past) → ((o : Outcome) → x ≡ word.Close o → ⊥)
          → Grows (story t r past) (with_entry (given_by r (story t r past) x) (story t r past))
      by (word.Close o) whole ok shows now other = absurd (other o refl)
      by (word.Send (Client c) m) whole ok shows now other = sends c m ok shows now
      by (word.Act d) whole ok shows now other = answered d (λ q. Acts q (answer_of q d.reply))
          (sized_allowed head r (only t past) (story t r past) stamp t all tied object ranges d (sized d ok))
      by (word.Answers d) whole ok shows now other =
          answered d (λ q. Acts q (answer_of q d.reply))
          (answers_allowed head r (only t past) (story t r past) stamp t all tied object ranges d ok.1
          ((rises_at head (only t past) (grown_of head t past here.stood.grown)).now r)
          (committed_now head r (only t past) (story t r past) stamp t all tied object ranges (word.Answers d) shows (λ c. c)))
      by (word.Txn d) whole ok shows now other = answered d (Txn d.reply.txn.0)
          (write_allowed head r (only t past) (story t r past) stamp t all tied object ranges d (writes d ok))
      by (word.Grant l (Some d)) whole ok shows now other =
          answered d (λ q. Grant q (lock_of l) (size_in d.reply.answer) (among d.reply.seen))
          (range_allowed head r (only t past) (story t r past) stamp t all tied object ranges l d (range l d ok) shows)
      by (word.Wait l d) whole ok shows now other = answered d (λ q. Wait q (lock_of l))
          (wait_allowed head r (only t past) (story t r past) stamp t all tied object ranges l d ok.1)
      by (word.Grant l None) whole ok shows now other = one (same_resource l.resource r) refl
        where
          one : (b : Bool) → same_resource l.resource r ≡ b → Grows (story t r past)
              (with_entry (if b then Some (Promote (lock_of l)) else None) (story t r past))
          one false e = inl refl
          one true e = inr (
            Promote (lock_of l),
            refl,
            promote_allowed head r (only t past) (story t r past) stamp t all tied object ranges
                l ok.1 (resource_is l.resource r e),
          )
      by (word.Release l) whole ok shows now other = one (same_resource l.resource r) refl
        where
          one : (b : Bool) → same_resource l.resource r ≡ b → Grows (story t r past)
              (with_entry (if b then Some (Release l.cookie.0) else None) (story t r past))
          one false e = inl refl
          one true e = inr (
            Release l.cookie.0,
            refl,
            release_allowed head r (only t past) (story t r past) stamp t all tied object ranges l
                (resource_is l.resource r e) ok.0 ok.1 (goes l whole),
          )
      by (word.Commit to batch) whole ok shows now other = inr (Commit to, refl, tt)
      by (word.Evict who cause) whole ok shows now other = inr (Evict (number_of who), refl, tt)
      by _ whole ok shows now other = inl refl

pub target_grows : (head : Head) (t : ℕ) (r : Resource) (stamp : Stamp) (u : ℕ) (e : word.Entry) (past : List Line)
    → Here head t r (line (turn stamp (Target u)) e) past → ((o : Outcome) → e ≡ word.Close o → ⊥)
    → Grows (story t r past) (story t r (line (turn stamp (Target u)) e ∷ past))
target_grows head t r stamp u e past here other = by (nat_eq t u) refl
  where
    by : (b : Bool) → nat_eq t u ≡ b → Grows (story t r past) (story t r (line (turn stamp (Target u)) e ∷ past))
    by false off = inl (other_story t r stamp u e past off)
    by true on =
        subst (λ (v : ℕ). Here head t r (line (turn stamp (Target v)) e) past
        → Grows (story t r past) (story t r (line (turn stamp (Target v)) e ∷ past))) (eqb-true t u on)
        (λ here. subst (λ (k : List Entry). Grows (story t r past) k) (sym (own_story t r stamp e past))
        (own_grows head t r stamp past e here other))
        here
