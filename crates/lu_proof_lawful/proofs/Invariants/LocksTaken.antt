-- Locks at one target as its own lines give none: what is done or shown names none anew; a lock is taken back, which is dead; the locks of
-- a life that
-- leaves are granted no more; a crash and a boot leave what is granted as it is, though it isn't shown; and a lock is kept in a recovery.
use Rattle.std.proofs.Common.{◌≡◌, ℕ, Bool, true, false, List, [], ◌∷◌, Option, Some, None, ◌⊎◌, inl, inr, ⊎_elim, refl, sym, subst, ap}
use Rattle.std.proofs.Common.{◌∙◌, arith}
use Rattle.std.specs.Prelude.{nat_eq, not, ◌&&◌}
use Rattle.std.proofs.lemmas.Bool.{cond_both, eqb-true, eq-eqb}
use Rattle.lu_base.specs.declared.ids.Cookie.{Cookie}
use Rattle.lu_base.specs.declared.ids.Node.TheVariants.{Client, Target}
use Rattle.lu_base.specs.declared.ids.Stamp.{Stamp}
use Rattle.lu_base.specs.declared.ids.Who.{Who}
use Rattle.lu_base.specs.declared.locks.Cause.{Cause}
use Rattle.lu_base.specs.declared.locks.Lock.{Lock}
use Rattle.lu_msg.specs.declared.messages.Message.TheVariants as message
use Rattle.lu_spec_entries.specs.Carried.{Deed, Disk}
use Rattle.lu_spec_entries.specs.Words.{Entry, Txn as Made, Answers, Grant, Release, Evict, Joined, Crash, Boot, Brings, Restore, Line}
use Rattle.lu_spec_entries.specs.Words.{line, same_life}
use Rattle.lu_spec_target.specs.Objects.{lock_of}
use Rattle.lu_spec_target.specs.Windows.{brought_before}
use Rattle.lu_spec_client.specs.Caches.{brought, held_at}
use Rattle.lu_proof_lawful.specs.Covered.TargetStates.{server_of, lives_of, evicted_of, shown_of, closed_of, brought_of}
use Rattle.lu_proof_lawful.specs.Covered.TargetCloses.{but_first, closing_of}
use Rattle.lu_proof_lawful.specs.Covered.ClientStates.{brings_cookie}
use Rattle.lu_proof_lawful.specs.Covered.Heads.{Head}
use Rattle.lu_proof_lawful.proofs.Preconditions.Guards.{In}
use Rattle.lu_proof_lawful.proofs.Preconditions.StoryGuards.{TxnsOk, AnswersOk, GrantOk, BackOk, LeftOk, ReleaseOk, BootOk, BringsOk}
use Rattle.lu_proof_lawful.proofs.Preconditions.StoryGuards.{IsServing, IsRecovering}
use Rattle.lu_proof_lawful.proofs.Preconditions.Grown.{ShowsNext}
use Rattle.lu_proof_lawful.proofs.Preconditions.CloseLists.{in_placed, stays_all}
use Rattle.lu_proof_lawful.proofs.Preconditions.Lists.{in_filter, in_filtered}
use Rattle.lu_proof_lawful.proofs.Preconditions.LifeLists.{life_put, life_put_more}
use Rattle.lu_proof_lawful.proofs.Preconditions.ClientLines.{some_is}
use Rattle.lu_proof_lawful.proofs.Invariants.Groups.{turn, HoldsAt}
use Rattle.lu_proof_lawful.proofs.Invariants.TargetGroups.{Acted, Promoted, Gave, Names, Dead, Evicted, IsOver, Locks}
use Rattle.lu_proof_lawful.proofs.Invariants.DoneGrows.{did_acted}
use Rattle.lu_proof_lawful.proofs.Invariants.Brings.{txns_brings, txns_plain, answers_brings, answers_plain, of_reply, none_of_reply}
use Rattle.lu_proof_lawful.proofs.Invariants.LockLists.{with_old, leaves_or, left_in, not_left, kept_same}
use Rattle.lu_proof_lawful.proofs.Invariants.LocksStay.{Stays, says_still, stays_dead, called_more, given_more, notified_more}
use Rattle.lu_proof_lawful.proofs.Invariants.LocksStay.{still_closing, locks_stay}
use Rattle.lu_proof_lawful.proofs.Invariants.LocksHeard.{numbered}

-- ---- what a close has still to show is one line less

pub still_shown : (head : Head) (past : List Line) (stamp : Stamp) (t : ℕ) (e : Entry) → ShowsNext head past (turn stamp (Target t)) e
    → (l : Lock) → (e ≡ Restore l → ⊥) → In l (shown_of past) ⊎ In (Restore l) (closing_of head.clients past)
    → In l (shown_of past) ⊎ In (Restore l) (but_first (closing_of head.clients past))
still_shown head past stamp t e shows l other =
    ⊎_elim (λ (i : In l (shown_of past)). inl i) (λ (i : In (Restore l) (closing_of head.clients past)). inr
    (still_closing head past (turn stamp (Target t)) e shows l other i))

-- a target that serves doesn't recover
pub serves_not : (osts : ℕ) (past : List Line) → IsServing osts past → IsRecovering osts past → ⊥
serves_not osts past serves v = let same : nat_eq (closed_of past) (server_of osts past).boot ≡ true =
    eq-eqb (closed_of past) (server_of osts past).boot serves.closed in absurd (cc)

-- ---- what is done that names no lock: a transaction, or what is answered without a printed line

-- a deed that brings none
abbrev pub NamesNone : Deed → Type 0
NamesNone d = (d.reply.locks ≡ []) × ((k : ℕ) → brings_cookie d.op d.reply.answer k ≡ false)

pub names_none : (d : Deed) (k : ℕ) → NamesNone d → Names d k → ⊥
names_none d k none n =
    ⊎_elim
    (λ (x : (l : Lock) × In l d.reply.locks × (l.cookie.0 ≡ k)). subst (λ (ls : List Lock). In x.0 ls) none.0 x.1)
    (λ (x : brings_cookie d.op d.reply.answer k ≡ true). let no = none.1 k in absurd (cc))
    n

none_acted : (past : List Line) (d e : Deed) (k : ℕ) → NamesNone d → (d ≡ e) ⊎ Acted past e → Names e k → Acted past e
none_acted past d e k none a n = ⊎_elim (λ (q : d ≡ e). absurd (names_none d k none (subst (λ (x : Deed). Names x k) (sym q) n)))
    (λ (b : Acted past e). b) a

module _ (head : Head) (past : List Line) (stamp : Stamp) (t : ℕ) (all : HoldsAt head past) where
  abbrev h : Locks head.osts head.clients past
  h = all.locks

  abbrev now : Entry → List Line
  now e = line (turn stamp (Target t)) e ∷ past

  txn_stays : (d : Deed) → ShowsNext head past (turn stamp (Target t)) (Made d) → NamesNone d
      → Stays head.osts head.clients past (now (Made d))
  txn_stays d shows none =
      record {
        grows = record { acted = λ e a. inr a; promoted = λ l p. p; hears = λ w x a. a; heard = λ w f r a. a };
        acted = λ e k a n. none_acted past d e k none a n;
        promoted = λ l p. p;
        greatest = h.greatest;
        low = h.low;
        less = λ l i. i;
        lost = λ e l g i. inl i;
        shown = λ v u l i. still_shown head past stamp t (Made d) shows l (λ q. absurd (cc)) (h.shown v u l i);
        queued = λ l i. i;
        slots = λ l i has. has;
        closed = λ l i. refl;
        known = λ c. omega arith;
        evicted = λ who i. i;
        kept = λ c k i. inl (kept_same (held_at c past) k i, refl);
        hopes = λ e l g x z. z;
        single = h.single;
        awaits = λ w k lt. let a = h.awaits w k lt in record {
          deed = a.deed;
          acted = inr a.acted;
          of = a.of;
          brings = a.brings;
          heard =
              a.heard;
          boot = a.boot;
          hopes = a.hopes;
        };
        brought = h.brought;
      }

  pub locks_txn : (d : Deed) → ShowsNext head past (turn stamp (Target t)) (Made d) → TxnsOk head.osts past (turn stamp (Target t)) t d
      → Locks head.osts head.clients (now (Made d))
  locks_txn d shows ok =
      let s = txn_stays d shows (
        none_of_reply d.op d.reply (txns_brings head.osts past (turn stamp (Target t)) t d ok),
        λ k. txns_plain head.osts past (turn stamp (Target t)) t d k ok,
      ) in
      locks_stay head.osts head.clients past (now (Made d)) s all.phase.client h
      (says_still head.osts head.clients past (now (Made d)) s all.phase.client h
      (record { was = λ from to m w. w; gone = λ who cookie w. w }) (λ v. refl) (λ v. v) (λ v w i. i) (λ v l i. i))

  answers_stays : (d : Deed) → ShowsNext head past (turn stamp (Target t)) (Answers d) → NamesNone d
      → Stays head.osts head.clients past (now (Answers d))
  answers_stays d shows none =
      record {
        grows = record { acted = λ e a. inr a; promoted = λ l p. p; hears = λ w x a. a; heard = λ w f r a. a };
        acted = λ e k a n. none_acted past d e k none a n;
        promoted = λ l p. p;
        greatest = h.greatest;
        low = h.low;
        less = λ l i. i;
        lost = λ e l g i. inl i;
        shown = λ v u l i. still_shown head past stamp t (Answers d) shows l (λ q. absurd (cc)) (h.shown v u l i);
        queued = λ l i. i;
        slots = λ l i has. has;
        closed = λ l i. refl;
        known = λ c. omega arith;
        evicted = λ who i. i;
        kept = λ c k i. inl (kept_same (held_at c past) k i, refl);
        hopes = λ e l g x z. z;
        single = h.single;
        awaits = λ w k lt. let a = h.awaits w k lt in record {
          deed = a.deed;
          acted = inr a.acted;
          of = a.of;
          brings = a.brings;
          heard =
              a.heard;
          boot = a.boot;
          hopes = a.hopes;
        };
        brought = h.brought;
      }

  pub locks_answers : (d : Deed) → ShowsNext head past (turn stamp (Target t)) (Answers d)
      → AnswersOk head.osts past (turn stamp (Target t)) t d → Locks head.osts head.clients (now (Answers d))
  locks_answers d shows ok =
      let s = answers_stays d shows (
        none_of_reply d.op d.reply (answers_brings head.osts past (turn stamp (Target t)) t d ok),
        λ k. answers_plain head.osts past (turn stamp (Target t)) t d k ok,
      ) in
      locks_stay head.osts head.clients past (now (Answers d)) s all.phase.client h
      (says_still head.osts head.clients past (now (Answers d)) s all.phase.client h
      (record { was = λ from to m w. w; gone = λ who cookie w. w }) (λ v. refl) (λ v. v) (λ v w i. i) (λ v l i. i))

  -- ---- the locks on names were granted with their act

  module _ (lock : Lock) (d : Deed) (shows : ShowsNext head past (turn stamp (Target t)) (Grant lock (Some d)))
      (ok : GrantOk head.osts past lock d) where
    abbrev showing : List Line
    showing = now (Grant lock (Some d))

    gave : Gave past d lock
    gave = (did_acted past d ok.did, inl (of_reply d.op d.reply lock ok.among))

    was_acted : (e : Deed) → (Some d ≡ Some e) ⊎ Acted past e → Acted past e
    was_acted e a = ⊎_elim (λ (q : Some d ≡ Some e). subst (λ (v : Deed). Acted past v) (some_is d e q) gave.0) (λ (b : Acted past e). b) a

    names_stays : Stays head.osts head.clients past showing
    names_stays =
        record {
          grows = record { acted = λ e a. inr a; promoted = λ l p. inr p; hears = λ w x a. a; heard = λ w f r a. a };
          acted = λ e k a n. was_acted e a;
          promoted = λ l. λ p. ⊎_elim (λ (x : (◌≡◌ {A = Option Deed} (Some d) None) × (lock ≡ l)). absurd (let q = x.0 in cc))
              (λ (x : Promoted past l). x) p;
          greatest = let low = h.greatest.0 in let high = h.greatest.1 in let same = ok.cookie
              in (omega (arith, low, same), omega (arith, high, same));
          low = λ v e k a n. let le = h.low (record { closed = v.closed; up = v.up }) e k a n in let same = ok.cookie
              in omega (arith, le, same);
          less = λ l i. subst (λ (ls : List Lock). In l ls) ok.granted i;
          lost = λ e l g i. inl (subst (λ (ls : List Lock). In l ls) (sym ok.granted) i);
          shown = λ v u l i.
              let was = subst (λ (ls : List Lock). In l ls) ok.granted i in
              let r = h.granted l was in
              ⊎_elim
              (λ (j : In l (shown_of past)). inl (with_old lock l (shown_of past) (λ e. (h.once r.0 d l lock r.1 gave (ap numbered e)).1)
              j))
              (λ (j : In (Restore l) (closing_of head.clients past)). inr
              (still_closing head past (turn stamp (Target t)) (Grant lock (Some d)) shows l (λ q. absurd (cc)) j))
              (h.shown (record { closed = v.closed; up = v.up }) u l was);
          queued = λ l i. (in_filter (λ (k : Lock). not (nat_eq k.cookie.0 lock.cookie.0)) l (server_of head.osts past).queued i).0;
          slots = λ l i has. has;
          closed = λ l i. refl;
          known = λ c. omega arith;
          evicted = λ who i. i;
          kept = λ c k i. inl (kept_same (held_at c past) k i, refl);
          hopes = λ e l g x z. z;
          single = h.single;
          awaits = λ w k lt. let a = h.awaits w k lt in record {
            deed = a.deed;
            acted = inr a.acted;
            of = a.of;
            brings = a.brings;
            heard =
                a.heard;
            boot = a.boot;
            hopes = a.hopes;
          };
          brought = λ v l i. subst (λ (ls : List Lock). In l ls) (sym ok.granted) (h.brought v l i);
        }

    pub locks_names : Locks head.osts head.clients showing
    locks_names =
        locks_stay head.osts head.clients past showing names_stays all.phase.client h
        (says_still head.osts head.clients past showing names_stays all.phase.client h
        (record { was = λ from to m w. w; gone = λ who cookie w. w }) (λ v. refl) (λ v. v) (λ v w i. i)
        (λ v l i. subst (λ (ls : List Lock). In l ls) (sym ok.granted) i))

  -- ---- a lock is taken back, which is dead; or one of a life that left is shown to be

  found_in : (who : Who) (cookie : Cookie) (ks : List Lock) (l : Lock) → lock_of who cookie ks ≡ Some l → In l ks
  found_in who cookie [] l e = absurd (cc)
  found_in who cookie (k ∷ ks) l f =
      cond_both (nat_eq k.cookie.0 cookie.0 && same_life k.ask.who who) (Some k) (lock_of who cookie ks) (λ o. o ≡ Some l → In l (k ∷ ks))
      (λ t e. inl (cc))
      (λ t e. inr (found_in who cookie ks l e))
      f

  module _ (lock : Lock) (shows : ShowsNext head past (turn stamp (Target t)) (Release lock)) (ok : ReleaseOk head.osts past t lock) where
    abbrev releasing : List Line
    releasing = now (Release lock)

    -- whatever has its cookie is it, and is dead
    is_dead : BackOk head.osts past t lock → (d : Deed) (l : Lock) → Gave past d l → l.cookie.0 ≡ lock.cookie.0 → Dead past d l
    is_dead back d l g e =
        let b = h.cancels (Client back.from) (Target t) lock.ask.who back.boot lock.cookie back.was in
        let same = h.once b.deed d b.lock l b.gave g (b.is ∙ ap numbered (sym e)) in
        subst (λ (v : Deed). Dead past v l) same.0 (subst (λ (v : Lock). Dead past b.deed v) same.1 b.dead)

    granted_on : (l : Lock) → In l (server_of head.osts past).granted → (nat_eq l.cookie.0 lock.cookie.0 ≡ false)
        → In l (server_of head.osts releasing).granted
    granted_on l i other = in_filtered (λ (k : Lock). not (nat_eq k.cookie.0 lock.cookie.0)) l (server_of head.osts past).granted i
        (ap not other)

    release_lost : (d : Deed) (l : Lock) → Gave past d l → In l (server_of head.osts past).granted
        → In l (server_of head.osts releasing).granted ⊎ IsOver past d l ⊎ Evicted releasing d.reply.who
    release_lost d l g i =
        ⊎_elim
        (λ (back : BackOk head.osts past t lock). by back (nat_eq l.cookie.0 lock.cookie.0) refl)
        (λ (left : LeftOk head.osts past lock). inl (subst (λ (ls : List Lock). In l ls) (sym left.still) i))
        ok.1
      where
        by : BackOk head.osts past t lock → (b : Bool) → nat_eq l.cookie.0 lock.cookie.0 ≡ b → In l (server_of head.osts releasing).granted
            ⊎ IsOver past d l ⊎ Evicted releasing d.reply.who
        by back true e = inr (inl (inl (is_dead back d l g (eqb-true l.cookie.0 lock.cookie.0 e))))
        by back false e = inl (granted_on l i e)

    release_stays : Stays head.osts head.clients past releasing
    release_stays =
        record {
          grows = record { acted = λ e a. a; promoted = λ l p. p; hears = λ w x a. a; heard = λ w f r a. a };
          acted = λ e k a n. a;
          promoted = λ l p. p;
          greatest = h.greatest;
          low = h.low;
          less = λ l i. (in_filter (λ (k : Lock). not (nat_eq k.cookie.0 lock.cookie.0)) l (server_of head.osts past).granted i).0;
          lost = release_lost;
          shown = λ v u l i.
              let r = in_filter (λ (k : Lock). not (nat_eq k.cookie.0 lock.cookie.0)) l (server_of head.osts past).granted i in
              ⊎_elim
              (λ (j : In l (shown_of past)). inl (in_filtered (λ (k : Lock). not (nat_eq k.cookie.0 lock.cookie.0)) l (shown_of past) j
              r.1))
              (λ (j : In (Restore l) (closing_of head.clients past)). inr
              (still_closing head past (turn stamp (Target t)) (Release lock) shows l (λ q. absurd (cc)) j))
              (h.shown v u l r.0);
          queued = λ l i. i;
          slots = λ l i has. has;
          closed = λ l i. refl;
          known = λ c. omega arith;
          evicted = λ who i. i;
          kept = λ c k i. inl (kept_same (held_at c past) k i, refl);
          hopes = λ e l g x z. z;
          single = h.single;
          awaits = h.awaits;
          brought = λ v. absurd (serves_not head.osts past ok.0 v);
        }

    pub locks_release : Locks head.osts head.clients releasing
    locks_release =
        locks_stay head.osts head.clients past releasing release_stays all.phase.client h
        (says_still head.osts head.clients past releasing release_stays all.phase.client h
        (record { was = λ from to m w. w; gone = λ who cookie w. w }) (λ v. refl) (λ v. v) (λ v w i. i)
        (λ v. absurd (serves_not head.osts past ok.0 v)))

  -- ---- a life is evicted: its locks are granted no more, nor wait

  module _ (who : Who) (cause : Cause) (shows : ShowsNext head past (turn stamp (Target t)) (Evict who cause))
      (serves : IsServing head.osts past) where
    abbrev evicting : List Line
    evicting = now (Evict who cause)

    evicts_more : (w : Who) → Evicted past w → Evicted evicting w
    evicts_more w i = life_put_more w who (evicted_of past) i

    -- granted still, or of that life
    evict_lost : (d : Deed) (l : Lock) → Gave past d l → In l (server_of head.osts past).granted
        → In l (server_of head.osts evicting).granted ⊎ IsOver past d l ⊎ Evicted evicting d.reply.who
    evict_lost d l g i =
        ⊎_elim
        (λ (j : In l (server_of head.osts evicting).granted). inl j)
        (λ (e : l.ask.who ≡ who). inr (inr (subst (λ (w : Who). Evicted evicting w) (sym e ∙ h.whose d l g)
        (life_put who (evicted_of past)))))
        (leaves_or who (server_of head.osts past).granted l i)

    evict_stays : Stays head.osts head.clients past evicting
    evict_stays =
        record {
          grows = record { acted = λ e a. a; promoted = λ l p. p; hears = λ w x a. a; heard = λ w f r a. a };
          acted = λ e k a n. a;
          promoted = λ l p. p;
          greatest = h.greatest;
          low = h.low;
          less = λ l i. left_in who (server_of head.osts past).granted l i;
          lost = evict_lost;
          shown = λ v u l i. still_shown head past stamp t (Evict who cause) shows l (λ q. absurd (cc))
              (h.shown v u l (left_in who (server_of head.osts past).granted l i));
          queued = λ l i. left_in who (server_of head.osts past).queued l i;
          slots = λ l i has. stays_all l.ask.who (who ∷ []) (lives_of head.clients past) has
              (not_left who (server_of head.osts past).queued l i);
          closed = λ l i. refl;
          known = λ c. omega arith;
          evicted = evicts_more;
          kept = λ c k i. inl (kept_same (held_at c past) k i, refl);
          hopes = λ e l g x z. z;
          single = h.single;
          awaits = h.awaits;
          brought = λ v. absurd (serves_not head.osts past serves v);
        }

    pub locks_evict : Locks head.osts head.clients evicting
    locks_evict =
        locks_stay head.osts head.clients past evicting evict_stays all.phase.client h
        (says_still head.osts head.clients past evicting evict_stays all.phase.client h
        (record { was = λ from to m w. w; gone = λ w cookie x. x }) (λ v. refl) (λ v. v)
        (λ v. absurd (serves_not head.osts past serves v))
        (λ v. absurd (serves_not head.osts past serves v)))

  -- ---- a life gets a slot

  module _ (who : Who) (shows : ShowsNext head past (turn stamp (Target t)) (Joined who)) (serves : IsServing head.osts past) where
    abbrev joining : List Line
    joining = now (Joined who)

    join_stays : Stays head.osts head.clients past joining
    join_stays =
        record {
          grows = record { acted = λ e a. a; promoted = λ l p. p; hears = λ w x a. a; heard = λ w f r a. a };
          acted = λ e k a n. a;
          promoted = λ l p. p;
          greatest = h.greatest;
          low = h.low;
          less = λ l i. i;
          lost = λ d l g i. inl i;
          shown = λ v u l i. still_shown head past stamp t (Joined who) shows l (λ q. absurd (cc)) (h.shown v u l i);
          queued = λ l i. i;
          slots = λ l i has. life_put_more l.ask.who who (lives_of head.clients past) has;
          closed = λ l i. refl;
          known = λ c. omega arith;
          evicted = λ w i. i;
          kept = λ c k i. inl (kept_same (held_at c past) k i, refl);
          hopes = λ e l g x z. z;
          single = h.single;
          awaits = h.awaits;
          brought = λ v. absurd (serves_not head.osts past serves v);
        }

    pub locks_join : Locks head.osts head.clients joining
    locks_join =
        locks_stay head.osts head.clients past joining join_stays all.phase.client h
        (says_still head.osts head.clients past joining join_stays all.phase.client h
        (record { was = λ from to m w. w; gone = λ w cookie x. x }) (λ v. refl) (λ v. v)
        (λ v. absurd (serves_not head.osts past serves v))
        (λ v. absurd (serves_not head.osts past serves v)))

  -- ---- a crash and a boot: what is granted stands, but isn't shown any more; and from a boot on nothing is served

  crash_stays : Stays head.osts head.clients past (now Crash)
  crash_stays =
      record {
        grows = record { acted = λ e a. a; promoted = λ l p. p; hears = λ w x a. a; heard = λ w f r a. a };
        acted = λ e k a n. a;
        promoted = λ l p. p;
        greatest = h.greatest;
        low = λ v e k a n. let up = v.up in absurd (cc);
        less = λ l i. i;
        lost = λ d l g i. inl i;
        shown = λ v u l i. absurd (cc);
        queued = λ l i. i;
        slots = λ l i has. has;
        closed = λ l i. refl;
        known = λ c. omega arith;
        evicted = λ w i. i;
        kept = λ c k i. inl (kept_same (held_at c past) k i, refl);
        hopes = λ e l g x z. z;
        single = h.single;
        awaits = h.awaits;
        brought = h.brought;
      }

  pub locks_crash : Locks head.osts head.clients (now Crash)
  locks_crash =
      locks_stay head.osts head.clients past (now Crash) crash_stays all.phase.client h
      (says_still head.osts head.clients past (now Crash) crash_stays all.phase.client h
      (record { was = λ from to m w. w; gone = λ w cookie x. x }) (λ v. refl) (λ v. v) (λ v w i. i) (λ v l i. i))

  module _ (boot : ℕ) (disk : Disk) (ok : BootOk head past boot disk) where
    abbrev booting : List Line
    booting = now (Boot boot disk)

    unserved : IsServing head.osts booting → ⊥
    unserved v = let closed = v.closed in let n = ok.next in let low = all.phase.under in omega (arith, closed, n, low)

    boot_stays : Stays head.osts head.clients past booting
    boot_stays =
        record {
          grows = record { acted = λ e a. a; promoted = λ l p. p; hears = λ w x a. a; heard = λ w f r a. a };
          acted = λ e k a n. a;
          promoted = λ l p. p;
          greatest = (omega arith, omega arith);
          low = λ v e k a n. absurd (unserved v);
          less = λ l i. i;
          lost = λ d l g i. inl i;
          shown = λ v u l i. absurd (unserved v);
          queued = λ l i. i;
          slots = λ l i has. has;
          closed = λ l i. refl;
          known = λ c. omega arith;
          evicted = λ w i. i;
          kept = λ c k i. inl (kept_same (held_at c past) k i, refl);
          hopes = λ e l g x z. z;
          single = h.single;
          awaits = h.awaits;
          brought = λ v l i. absurd i;
        }

    -- nothing was told of that boot yet
    pub locks_boot : Locks head.osts head.clients booting
    locks_boot =
        locks_stay head.osts head.clients past booting boot_stays all.phase.client h
        (record {
          blocks = λ from c who b cookie w. called_more past booting boot_stays.grows c who cookie (h.blocks from c who b cookie w);
          cancels = λ from to who b cookie w. given_more past booting boot_stays.grows
              (stays_dead head.osts head.clients past booting boot_stays all.phase.client h) who cookie (h.cancels from to who b cookie w);
          gone = λ who cookie w. given_more past booting boot_stays.grows
              (stays_dead head.osts head.clients past booting boot_stays all.phase.client h) who cookie (h.gone who cookie w);
          notices = λ from to g w. notified_more past booting boot_stays.grows g (h.notices from to g w);
          relocks = λ from to r w v le. let most = (all.boots from to (message.Lock r) w).1 in let next = ok.next
              in absurd (omega (arith, most, next, le));
        })

  -- ---- a lock is kept in a recovery: it was granted

  module _ (lock : Lock) (shows : ShowsNext head past (turn stamp (Target t)) (Brings lock))
      (ok : BringsOk head past (turn stamp (Target t)) t lock) where
    abbrev bringing : List Line
    bringing = now (Brings lock)

    was_granted : In lock (server_of head.osts past).granted
    was_granted =
        subst (λ (l : Lock). In l (server_of head.osts past).granted) (sym ok.is)
        (h.relocks ok.from (Target t) ok.given ok.keeps.was ok.keeps.recovers (let same = ok.keeps.of_boot in omega (arith, same))
        ok.keeps.has)

    bring_stays : Stays head.osts head.clients past bringing
    bring_stays =
        record {
          grows = record { acted = λ e a. a; promoted = λ l p. p; hears = λ w x a. a; heard = λ w f r a. a };
          acted = λ e k a n. a;
          promoted = λ l p. p;
          greatest = h.greatest;
          low = h.low;
          less = λ l i. i;
          lost = λ d l g i. inl i;
          shown = λ v u l i. still_shown head past stamp t (Brings lock) shows l (λ q. absurd (cc)) (h.shown v u l i);
          queued = λ l i. i;
          slots = λ l i has. has;
          closed = λ l i. refl;
          known = λ c. omega arith;
          evicted = λ w i. i;
          kept = λ c k i. inl (kept_same (held_at c past) k i, refl);
          hopes = λ e l g x z. z;
          single = h.single;
          awaits = h.awaits;
          brought = λ v l i. ⊎_elim (λ (e : lock ≡ l). subst (λ (k : Lock). In k (server_of head.osts past).granted) e was_granted)
              (λ (j : In l (brought_of past)). h.brought v l j) (in_placed brought_before lock l (brought_of past) i);
        }

    pub locks_brings : Locks head.osts head.clients bringing
    locks_brings =
        locks_stay head.osts head.clients past bringing bring_stays all.phase.client h
        (says_still head.osts head.clients past bringing bring_stays all.phase.client h
        (record { was = λ from to m w. w; gone = λ w cookie x. x }) (λ v. refl) (λ v. v) (λ v w i. i) (λ v l i. i))
