-- Locks that go at a target and in its story: one that is given back, those of a life that is evicted; and what is committed.
use Rattle.std.proofs.Common.{◌≡◌, ◌∙◌, ℕ, ◌≤◌, Bool, true, false, List, [], ◌∷◌, ◌++◌, ◌⊎◌, inl, inr, ⊎_elim, refl, sym, subst, ap, arith}
use Rattle.std.specs.Prelude.{nat_eq, not, ◌||◌}
use Rattle.std.proofs.lemmas.Bool.{eqb-true}
use Rattle.std.proofs.lemmas.Bool.Decides.{nat_tests}
use Rattle.lu_base.specs.declared.ids.At.{At}
use Rattle.lu_base.specs.declared.ids.Node.{Node}
use Rattle.lu_base.specs.declared.ids.Node.TheVariants.{Client, Target}
use Rattle.lu_base.specs.declared.ids.Stamp.{Stamp}
use Rattle.lu_base.specs.declared.ids.Who.{Who}
use Rattle.lu_base.specs.declared.locks.Cause.{Cause}
use Rattle.lu_base.specs.declared.locks.Lock.{Lock as TableLock}
use Rattle.lu_base.specs.declared.locks.Resource.{Resource}
use Rattle.lu_msg.specs.declared.commits.Batch.{Batch}
use Rattle.lu_spec_entries.specs.Carried.{Deed, Gone, Outcome}
use Rattle.lu_spec_entries.specs.Words as word
use Rattle.lu_spec_entries.specs.Words.{Line, line, same_life}
use Rattle.lu_spec_target.specs.Lives.{is_life, with_life}
use Rattle.lu_spec_target.specs.Locks.{with_lock, locks_without}
use Rattle.lu_spec_target.specs.Recovery.{kept_lines, restore_lines}
use Rattle.lu_proof_lawful.specs.Covered.TargetStates.{server_of, evicted_of, shown_of, lives_of}
use Rattle.lu_proof_lawful.specs.Covered.TargetCloses.{shows, but_first, closing_of, shows_evicted, shows_ready, shows_joined, staying}
use Rattle.lu_proof_lawful.specs.Covered.Heads.{Head}
use Rattle.lu_proof_lawful.proofs.Preconditions.Guards.{In}
use Rattle.lu_proof_lawful.proofs.Preconditions.StoryGuards.{IsServing, BackOk, LeftOk, ReleaseOk, EvictOk, LeavesOk, EntryOf}
use Rattle.lu_proof_lawful.proofs.Preconditions.Grown.{ShowsNext, GrownOf}
use Rattle.lu_proof_lawful.proofs.Preconditions.Lists.{self, turn, in_filter, in_filtered, life_is, life_self}
use Rattle.lu_proof_lawful.proofs.Preconditions.QueueLists.{lock_of_in}
use Rattle.lu_proof_lawful.proofs.Preconditions.LifeLists.{any_with, in_without, life_put, life_put_more, not_gone, gone_not}
use Rattle.lu_proof_lawful.proofs.Invariants.Groups.{HoldsAt}
use Rattle.lu_proof_lawful.proofs.Invariants.TargetGroups.{Gave, Evicted}
use Rattle.lu_proof_lawful.proofs.Invariants.LockLists.{with_in, with_new, withs_in, leaves_or, left_in}
use Rattle.lu_proof_lawful.proofs.Invariants.Brings.{of_reply}
use Rattle.lu_proof_lawful.proofs.Invariants.All.{holds_at}
use Rattle.lu_proof_bytes.specs.Object.Words.{Lock, Entry, Release, Evict, Commit}
use Rattle.lu_proof_bytes.specs.Object.Folds.{IsGranted, IsWaiting, Answered}
use Rattle.lu_proof_bytes.specs.Object.Folds as says
use Rattle.lu_proof_lawful.specs.Projection.Lives.{number_of}
use Rattle.lu_proof_lawful.specs.Projection.Locks.{lock_of}
use Rattle.lu_proof_lawful.specs.Projection.Stories.{with_entry, if_on}
use Rattle.lu_proof_lawful.proofs.Projection.Lives as lives
use Rattle.lu_proof_lawful.proofs.Refinement.TiedTarget.{CommittedAs, GrantedOn, StandsThere, TargetBy}
use Rattle.lu_proof_lawful.proofs.Refinement.TargetSame.{gave_from, target_same, GivesSame, DoesSame, GivenStay, given_same, gives_same}
use Rattle.lu_proof_lawful.proofs.Refinement.TargetSame.{waiting_same, queued_same, answered_same, names_same, op_was, counts_back}
use Rattle.lu_proof_lawful.proofs.Refinement.TargetOwn.{same_lock}
use Rattle.lu_proof_lawful.proofs.Refinement.TargetGrants.{resource_or, if_some, if_none, if_either}
use Rattle.lu_proof_lawful.proofs.Refinement.TargetDeeds.{asked_by}
use Rattle.lu_proof_lawful.specs.Projection.Requests.{answer_of}
use Rattle.lu_proof_lawful.specs.Projection.Locks as found

-- ---- what was shown was given

shown_line : (head : Head) (past : List Line) (stamp : Stamp) (t : ℕ) (e : word.Entry)
    → EntryOf head past (turn stamp (Target t)) (Target t) e → HoldsAt head past → HoldsAt head (line (turn stamp (Target t)) e ∷ past)
    → ((l : TableLock) → In l (shown_of past) → (d : Deed) × Gave past d l) → (l : TableLock)
    → In l (shown_of (line (turn stamp (Target t)) e ∷ past)) → (d : Deed) × Gave (line (turn stamp (Target t)) e ∷ past) d l
shown_line head past stamp t (word.Act x) ok all now old l i = ⊎_elim
    (λ (j : In l x.reply.locks). (x, (inl refl, inl (of_reply x.op x.reply l j))))
    (λ (j : In l (shown_of past)). let g = old l j in (g.0, (inr g.1.0, g.1.1)))
    (withs_in x.reply.locks l (shown_of past) i)
shown_line head past stamp t (word.Txn x) ok all now old l i = let g = old l i in (g.0, (inr g.1.0, g.1.1))
shown_line head past stamp t (word.Wait lock x) ok all now old l i = let g = old l i in (g.0, (inr g.1.0, g.1.1))
shown_line head past stamp t (word.Answers x) ok all now old l i = let g = old l i in (g.0, (inr g.1.0, g.1.1))
shown_line head past stamp t (word.Grant lock asked) ok all now old l i = ⊎_elim
    (λ (e : lock ≡ l). now.locks.granted l (subst (λ (x : TableLock). In x (with_lock lock (server_of head.osts past).granted)) e
    (with_new lock (server_of head.osts past).granted)))
    (λ (j : In l (shown_of past)). let g = old l j in (
      g.0,
      gave_from past (line (turn stamp (Target t)) (word.Grant lock asked) ∷ past)
          (λ d a. inr a) (λ k p. inr p) g.0 l g.1,
    ))
    (with_in lock l (shown_of past) i)
shown_line head past stamp t (word.Release lock) ok all now old l i =
    old l (in_filter (λ (k : TableLock). not (nat_eq k.cookie.0 lock.cookie.0)) l (shown_of past) i).0
shown_line head past stamp t (word.Restore lock) ok all now old l i = ⊎_elim
    (λ (e : lock ≡ l). all.locks.granted l (subst (λ (x : TableLock). In x (server_of head.osts past).granted) e ok.granted))
    (λ (j : In l (shown_of past)). old l j)
    (with_in lock l (shown_of past) i)
shown_line head past stamp t word.Crash ok all now old l i = absurd i
shown_line head past stamp t (word.Close o) ok all now old l i = absurd i
shown_line head past stamp t _ ok all now old l i = old l i

client_shown : (head : Head) (past : List Line) (stamp : Stamp) (c : ℕ) (e : word.Entry)
    → EntryOf head past (turn stamp (Client c)) (Client c) e → (l : TableLock) → (d : Deed) × Gave past d l → (d : Deed)
    × Gave (line (turn stamp (Client c)) e ∷ past) d l
client_shown head past stamp c (word.Act d) ok l g = absurd ok
client_shown head past stamp c (word.Txn d) ok l g = absurd ok
client_shown head past stamp c (word.Grant lock asked) ok l g = absurd ok
client_shown head past stamp c (word.Wait lock asked) ok l g = absurd ok
client_shown head past stamp c (word.Answers d) ok l g = absurd ok
client_shown head past stamp c _ ok l g = g

pub shown_given : (head : Head) (past : List Line) → GrownOf head past → (l : TableLock) → In l (shown_of past) → (d : Deed) × Gave past d l
shown_given head [] g l i = absurd i
shown_given head (x ∷ past) g l i = by x.at.node g i (shown_given head past g.3)
  where
    by : (node : Node) → GrownOf head (line (turn x.at.stamp node) x.entry ∷ past)
        → In l (shown_of (line (turn x.at.stamp node) x.entry ∷ past))
        → ((k : TableLock) → In k (shown_of past) → (d : Deed) × Gave past d k)
        → (d : Deed) × Gave (line (turn x.at.stamp node) x.entry ∷ past) d l
    by (Client c) g i old = client_shown head past x.at.stamp c x.entry g.0 l (old l i)
    by (Target t) g i old = shown_line head past x.at.stamp t x.entry g.0 (holds_at head past g.3)
        (holds_at head (line (turn x.at.stamp (Target t)) x.entry ∷ past) g) old l i

-- ---- a close shows the locks that it restores before the lives that leave

abbrev NoRestore : List word.Entry → Type 0
NoRestore es = (l : TableLock) → In (word.Restore l) es → ⊥

abbrev IsLate : word.Entry → Type 0
IsLate (word.Commit to batch) = ⊥
IsLate (word.Kept number) = ⊥
IsLate (word.Restore lock) = ⊥
IsLate _ = Unit {0}

abbrev InShowOrder : List word.Entry → Type 0
InShowOrder [] = Unit {0}
InShowOrder (e ∷ es) = (IsLate e → NoRestore es) × InShowOrder es

order_none : (es : List word.Entry) → NoRestore es → InShowOrder es
order_none [] none = tt
order_none (e ∷ es) none = (λ late l i. none l (inr i), order_none es (λ l i. none l (inr i)))

order_restores : (ls : List TableLock) (es : List word.Entry) → InShowOrder es → InShowOrder (restore_lines ls ++ es)
order_restores [] es o = o
order_restores (l ∷ ls) es o = (λ late. absurd late, order_restores ls es o)

order_kept : (ds : List Deed) (es : List word.Entry) → InShowOrder es → InShowOrder (kept_lines ds ++ es)
order_kept [] es o = o
order_kept (d ∷ ds) es o = (λ late. absurd late, order_kept ds es o)

none_joined : (o : Outcome) (ws : List Who) → NoRestore (shows_joined o ws)
none_joined o [] l i = i
none_joined o (w ∷ ws) l (inl e) = absurd (cc)
none_joined o (w ∷ ws) l (inr (inl e)) = absurd (cc)
none_joined o (w ∷ ws) l (inr (inr i)) = none_joined o ws l i

none_ready : (o : Outcome) (ws : List Who) (es : List word.Entry) → NoRestore es → NoRestore (shows_ready o ws ++ es)
none_ready o [] es none l i = none l i
none_ready o (w ∷ ws) es none l (inl e) = absurd (cc)
none_ready o (w ∷ ws) es none l (inr i) = none_ready o ws es none l i

none_evicted : (o : Outcome) (gs : List Gone) (es : List word.Entry) → NoRestore es → NoRestore (shows_evicted o gs ++ es)
none_evicted o [] es none l i = none l i
none_evicted o (g ∷ gs) es none l (inl e) = absurd (cc)
none_evicted o (g ∷ gs) es none l (inr (inl e)) = absurd (cc)
none_evicted o (g ∷ gs) es none l (inr (inr i)) = none_evicted o gs es none l i

shows_order : (o : Outcome) (ws : List Who) → InShowOrder (shows o ws)
shows_order o ws = (
  λ late. absurd late,
  order_kept o.kept _ (order_restores o.locks _ (order_none _ (none_evicted o o.gone _
      (none_ready o (staying o ws) _ (none_joined o o.joins))))),
)

first_order : (es : List word.Entry) → InShowOrder es → InShowOrder (but_first es)
first_order [] o = o
first_order (e ∷ es) o = o.1

closing_order : (clients : ℕ) (past : List Line) → InShowOrder (closing_of clients past)
closing_order clients [] = tt
closing_order clients (l ∷ past) = by l.at.node l.entry (closing_order clients past)
  where
    by : (node : Node) (e : word.Entry) → InShowOrder (closing_of clients past)
        → InShowOrder (closing_of clients (line (turn l.at.stamp node) e ∷ past))
    by (Client c) e old = old
    by (Target t) (word.Close o) old = shows_order o (lives_of clients past)
    by (Target t) _ old = first_order (closing_of clients past) old

-- so where a life that leaves is shown next, all restored locks were shown
none_left : (head : Head) (past : List Line) (at : At) (who : Who) (cause : Cause) → ShowsNext head past at (word.Evict who cause)
    → NoRestore (closing_of head.clients past)
none_left head past at who cause next l i = by (closing_of head.clients past) refl (closing_order head.clients past) i
  where
    by : (es : List word.Entry) → closing_of head.clients past ≡ es → InShowOrder es → In (word.Restore l) es → ⊥
    by [] q o i = i
    by (e ∷ es) q o i =
        let same : word.Evict who cause ≡ e = (next e es q).0 in
        ⊎_elim
        (λ (x : e ≡ word.Restore l). absurd (let z : word.Evict who cause ≡ word.Restore l = same ∙ x in cc))
        (λ (j : In (word.Restore l) es). (subst (λ (y : word.Entry). IsLate y → NoRestore es) (sym same) o.0) tt l j)
        i

-- ---- numbers of lives

pub number_same : (v w : Who) → nat_eq (number_of v) (number_of w) ≡ same_life v w
number_same v w = by (nat_eq (number_of v) (number_of w)) (same_life v w) refl refl
  where
    by : (a b : Bool) → nat_eq (number_of v) (number_of w) ≡ a → same_life v w ≡ b → a ≡ b
    by true true p q = refl
    by false false p q = refl
    by true false p q = absurd (let same = lives.same_life v w (eqb-true (number_of v) (number_of w) p) in let yes : same_life v w ≡ true =
        subst (λ (x : Who). same_life v x ≡ true) same (life_self v) in cc)
    by false true p q = absurd (let same = life_is v w q in let yes : nat_eq (number_of v) (number_of w) ≡ true =
        subst (λ (x : Who). nat_eq (number_of v) (number_of x) ≡ true) same (self (number_of v)) in cc)

-- ---- the lines

module _ (head : Head) (r : Resource) (past : List Line) (h : List Entry) (tied : TargetBy head r past h) (grown : GrownOf head past)
    (all : HoldsAt head past) (stamp : Stamp) (t : ℕ) where
  abbrev at_go : At
  at_go = turn stamp (Target t)

  -- a lock that goes was given
  release_given : (lock : TableLock) → ReleaseOk head.osts past t lock → (d : Deed) × Gave past d lock
  release_given lock ok = ⊎_elim
      (λ (b : BackOk head.osts past t lock). all.locks.granted lock
      (lock_of_in lock.ask.who lock.cookie (server_of head.osts past).granted lock b.found).0)
      (λ (l : LeftOk head.osts past lock). shown_given head past grown lock l.shown)
      ok.1

  pub tied_release : (lock : TableLock) → ReleaseOk head.osts past t lock
      → CommittedAs head (line at_go (word.Release lock) ∷ past)
      (says.committed (with_entry (if_on r lock.resource (Release lock.cookie.0)) h))
      → TargetBy head r (line at_go (word.Release lock) ∷ past) (with_entry (if_on r lock.resource (Release lock.cookie.0)) h)
  tied_release lock ok committed =
      record {
        closed = either (λ (k : List Entry). says.closed k ≡ says.closed h) refl (λ on. refl) ∙ tied.closed;
        evicted = λ w. either (λ (k : List Entry). says.evicted (number_of w) k ≡ says.evicted (number_of w) h) refl (λ on. refl)
            ∙ tied.evicted w;
        committed = committed;
        top = either (λ (k : List Entry). says.top k ≤ (server_of head.osts past).cookie) tied.top (λ on. tied.top);
        given = given_same head r past new h k tied gives same;
        gives = gives_same head r past new h k tied gives same;
        granted = λ m i. ⊎_elim
            (λ (on : lock.resource ≡ r).
            let parts = subst (λ (x : List Entry). IsGranted x m) (if_some r lock.resource (Release lock.cookie.0) h on) i in
            granted m parts.1 (λ l q mine d g c. parts.0 (sym c ∙ ap (λ (x : Lock). x.cookie) q)))
            (λ (other : lock.resource ≡ r → ⊥).
            let whose = release_given lock ok in
            granted m (subst (λ (x : List Entry). IsGranted x m) (if_none r lock.resource (Release lock.cookie.0) h other) i)
            (λ l q mine d g c. other (ap (λ (x : TableLock). x.resource) (sym (same_lock head past all d whose.0 l lock g whose.1 c))
            ∙ mine)))
            (resource_or lock.resource r);
        grants = λ l i on.
            let was = in_filter (λ (k : TableLock). not (nat_eq k.cookie.0 lock.cookie.0)) l (server_of head.osts past).granted i in
            let old = tied.grants l was.0 on in
            either (λ (x : List Entry). IsGranted x (lock_of l)) old (λ mine. (λ c. apart l was.1 (sym c), old));
        waiting = waiting_same head r past new h k tied refl (λ m. either (λ (x : List Entry). IsWaiting x m → IsWaiting h m) (λ j. j)
            (λ on j. j));
        queued = queued_same head r past new h k tied refl (λ m. either (λ (x : List Entry). IsWaiting h m → IsWaiting x m) (λ j. j)
            (λ on j. j));
        names = names_same head r past new h k tied (λ d a. a) stay;
        answered = answered_same head r past new h k tied does stay
            (λ c x a. either (λ (y : List Entry). Answered y c x a → Answered h c x a) (λ j. j) (λ on j. j));
        answers = λ d o a c on is.
            let old = tied.answers d o a (counts_back head.osts past new refl (λ n. refl) d c) on
            (op_was head r past new h k tied stay d o a on is) in
            either (λ (y : List Entry). Answered y (number_of d.reply.who) d.reply.xid.0 (answer_of (asked_by d o) d.reply)) old
            (λ mine. old);
      }
    where
      new : List Line
      new = line at_go (word.Release lock) ∷ past

      k : List Entry
      k = with_entry (if_on r lock.resource (Release lock.cookie.0)) h

      either : (P : List Entry → Type 0) → P h → (lock.resource ≡ r → P (Release lock.cookie.0 ∷ h)) → P k
      either P none some = if_either r lock.resource (Release lock.cookie.0) h P none some

      gives : GivesSame past new
      gives = record { gave = λ d l g. g; back = λ d l g. g }

      does : DoesSame head.osts past new
      does = record { acted = λ d a. a; back = λ d a. a; closed = refl; lost = λ n. refl }

      same : (c : ℕ) → found.given c k ≡ found.given c h
      same c = either (λ (x : List Entry). found.given c x ≡ found.given c h) refl (λ on. refl)

      stay : GivenStay h k
      stay c m e = same c ∙ e

      apart : (l : TableLock) → not (nat_eq l.cookie.0 lock.cookie.0) ≡ true → l.cookie.0 ≡ lock.cookie.0 → ⊥
      apart l e c = absurd (grind (arith, nat_tests, e, c))

      granted : (m : Lock) → IsGranted h m → ((l : TableLock) → lock_of l ≡ m → l.resource ≡ r → (d : Deed) → Gave past d l → l.cookie.0
          ≡ lock.cookie.0 → ⊥) → GrantedOn head r new m
      granted m i apart =
          let was = tied.granted m i in
          let other = apart was.1 was.4 was.3 was.0 was.2 in (
            was.0,
            was.1,
            was.2,
            was.3,
            was.4,
            ⊎_elim
                (λ (j : In was.1 (server_of head.osts past).granted). inl
                (in_without lock was.1 (server_of head.osts past).granted j other))
                (λ (j : Evicted past was.1.ask.who × (IsServing head.osts past → In was.1 (shown_of past))). inr
                (j.0, λ serves. in_without lock was.1 (shown_of past) (j.1 ok.0) other))
                was.5,
          )

  pub tied_commit : (to : ℕ) (batch : Batch) → CommittedAs head (line at_go (word.Commit to batch) ∷ past) to
      → TargetBy head r (line at_go (word.Commit to batch) ∷ past) (Commit to ∷ h)
  tied_commit to batch committed =
      target_same head r past (line at_go (word.Commit to batch) ∷ past) h (Commit to ∷ h) tied
      (record {
        gives = record { gave = λ d l g. g; back = λ d l g. g };
        does = record { acted = λ d a. a; back = λ d a. a; closed = refl; lost = λ n. refl };
        grants = record { granted = refl; evicted = refl; shown = λ d l g i serves. i serves };
        cookie = omega arith;
        queued = refl;
      })
      (record {
        closed = refl;
        evicted = λ c. refl;
        top = refl;
        given = λ c. refl;
        granted = λ m i. i;
        granted_back = λ m i. i;
        waits = λ m i. i;
        waits_back = λ m i. i;
        answered = λ c x a i. i;
        answered_back = λ c x a i. i;
      })
      committed

  pub tied_evict : (who : Who) (cause : Cause) → EvictOk head past at_go who cause ⊎ LeavesOk head past at_go who cause
      → ShowsNext head past at_go (word.Evict who cause)
      → CommittedAs head (line at_go (word.Evict who cause) ∷ past) (says.committed (Evict (number_of who) ∷ h))
      → TargetBy head r (line at_go (word.Evict who cause) ∷ past) (Evict (number_of who) ∷ h)
  tied_evict who cause ok next committed =
      record {
        closed = tied.closed;
        evicted = λ w. ap (λ (b : Bool). b || says.evicted (number_of w) h) (number_same w who)
            ∙ ap (λ (b : Bool). same_life w who || b) (tied.evicted w) ∙ sym (any_with (same_life w) who (evicted_of past));
        committed = committed;
        top = tied.top;
        given = given_same head r past new h k tied gives (λ c. refl);
        gives = gives_same head r past new h k tied gives (λ c. refl);
        granted = λ m i. granted m i;
        grants = λ l i on. tied.grants l (left_in who (server_of head.osts past).granted l i) on;
        waiting = λ m i.
            let q = tied.waiting m i.1 in (
              q.0,
              in_filtered (λ (k : TableLock). not (is_life k.ask.who (who ∷ []))) q.0 (server_of head.osts past).queued q.1
                  (not_gone q.0.ask.who who (λ e. i.0 (ap number_of (sym e) ∙ ap (λ (x : Lock). x.life) q.3))),
              q.2,
              q.3,
            );
        queued = λ l i on.
            let was = in_filter (λ (k : TableLock). not (is_life k.ask.who (who ∷ []))) l (server_of head.osts past).queued i in
            (λ e. gone_not l.ask.who who was.1 (sym (lives.same_life who l.ask.who e)), tied.queued l was.0 on);
        names = names_same head r past new h k tied (λ d a. a) (λ c m e. e);
        answered = answered_same head r past new h k tied does (λ c m e. e) (λ c x a i. i);
        answers = λ d o a c on is. tied.answers d o a (counts_back head.osts past new refl (λ n. refl) d c) on
            (op_was head r past new h k tied (λ c m e. e) d o a on is);
      }
    where
      new : List Line
      new = line at_go (word.Evict who cause) ∷ past

      k : List Entry
      k = Evict (number_of who) ∷ h

      gives : GivesSame past new
      gives = record { gave = λ d l g. g; back = λ d l g. g }

      does : DoesSame head.osts past new
      does = record { acted = λ d a. a; back = λ d a. a; closed = refl; lost = λ n. refl }

      serves : IsServing head.osts past
      serves = by ok
        where
          by : EvictOk head past at_go who cause ⊎ LeavesOk head past at_go who cause → IsServing head.osts past
          by (inl e) = e.serves
          by (inr e) = e.serves

      -- its locks were shown
      shown_now : (l : TableLock) → In l (server_of head.osts past).granted → In l (shown_of past)
      shown_now l i = ⊎_elim
          (λ (j : In l (shown_of past)). j)
          (λ (j : In (word.Restore l) (closing_of head.clients past)). absurd (none_left head past at_go who cause next l j))
          (all.locks.shown serves serves.up l i)

      stands : (l : TableLock) → StandsThere head past l → StandsThere head new l
      stands l (inl i) = ⊎_elim
          (λ (j : In l (locks_without (who ∷ []) (server_of head.osts past).granted)). inl j)
          (λ (e : l.ask.who ≡ who). inr (
            subst (λ (w : Who). is_life w (with_life who (evicted_of past)) ≡ true) (sym e)
                (life_put who (evicted_of past)),
            λ s. shown_now l i,
          ))
          (leaves_or who (server_of head.osts past).granted l i)
      stands l (inr p) = inr (life_put_more l.ask.who who (evicted_of past) p.0, λ s. p.1 s)

      granted : (m : Lock) → IsGranted h m → GrantedOn head r new m
      granted m i = let was = tied.granted m i in (was.0, was.1, was.2, was.3, was.4, stands was.1 was.5)
