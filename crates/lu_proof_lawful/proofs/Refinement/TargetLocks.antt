-- Locks on an object at its target and in its story: one that is granted at once, one that has to wait, and one that waited and is granted
-- now.
use Rattle.std.proofs.Common.{◌≡◌, ◌∙◌, ℕ, ◌+◌, ◌≤◌, ◌<◌, Bool, true, false, List, [], ◌∷◌, Option, Some, None, ◌⊎◌, inl, inr, ⊎_elim, refl}
use Rattle.std.proofs.Common.{sym, subst, ap, arith}
use Rattle.std.specs.Prelude.{nat_eq, max, not, if◌then◌else◌}
use Rattle.std.proofs.lemmas.Bool.{eqb-true}
use Rattle.std.proofs.lemmas.Bool.Decides.{nat_tests}
use Rattle.lu_base.specs.declared.ids.At.{At}
use Rattle.lu_base.specs.declared.ids.Node.TheVariants.{Target}
use Rattle.lu_base.specs.declared.ids.Stamp.{Stamp}
use Rattle.lu_base.specs.declared.locks.Lock.{Lock as TableLock}
use Rattle.lu_base.specs.declared.locks.Resource.{Resource}
use Rattle.lu_held.specs.Locks.{same_resource}
use Rattle.lu_spec_entries.specs.Carried.{Deed}
use Rattle.lu_spec_entries.specs.Words as word
use Rattle.lu_spec_entries.specs.Words.{Line, line}
use Rattle.lu_spec_target.specs.Locks.{without_lock}
use Rattle.lu_spec_client.specs.Caches.{brought}
use Rattle.lu_spec_client.specs.Sending.{object_of}
use Rattle.lu_proof_lawful.specs.Covered.ClientStates.{brings_cookie}
use Rattle.lu_proof_lawful.specs.Covered.TargetStates.{server_of}
use Rattle.lu_proof_lawful.specs.Covered.Deeds.{size_at}
use Rattle.lu_proof_lawful.specs.Covered.Heads.{Head}
use Rattle.lu_proof_lawful.proofs.Preconditions.Acts.{Acted as ActedBy, range_acted, range_op, range_answer, wait_acted, wait_op}
use Rattle.lu_proof_lawful.proofs.Preconditions.Acts.{wait_answer}
use Rattle.lu_proof_lawful.proofs.Preconditions.ClientLines.{some_is}
use Rattle.lu_proof_lawful.proofs.Preconditions.Guards.{In}
use Rattle.lu_proof_lawful.proofs.Preconditions.StoryGuards.{RangeOk, WaitOk, PromoteOk}
use Rattle.lu_proof_lawful.proofs.Preconditions.Lists.{turn, in_append, in_left, in_right, in_filter}
use Rattle.lu_proof_lawful.proofs.Preconditions.LifeLists.{in_without}
use Rattle.lu_proof_lawful.proofs.Preconditions.QueueLists.{resource_of, resource_itself}
use Rattle.lu_proof_lawful.proofs.Invariants.Groups.{HoldsAt}
use Rattle.lu_proof_lawful.proofs.Invariants.TargetGroups.{Acted, Promoted, tells_wait, Gave, Names, Queueing}
use Rattle.lu_proof_lawful.proofs.Invariants.Hopes.{waits_bring, gave_names}
use Rattle.lu_proof_lawful.proofs.Invariants.Brings.{range_brings, range_tells, wait_brings, wait_names}
use Rattle.lu_proof_bytes.specs.Object.Words as words
use Rattle.lu_proof_bytes.specs.Object.Words.{Lock, Request, Granted, Waiting, Entry, Grant, Wait, Promote, Enqueue}
use Rattle.lu_proof_bytes.specs.Object.Folds.{IsGranted, IsWaiting, Answered}
use Rattle.lu_proof_bytes.specs.Object.Folds as says
use Rattle.lu_proof_objects.specs.Points.{is_write, last_of}
use Rattle.lu_proof_lawful.specs.Projection.Lives.{number_of}
use Rattle.lu_proof_lawful.specs.Projection.Locks.{lock_of}
use Rattle.lu_proof_lawful.specs.Projection.Locks as found
use Rattle.lu_proof_lawful.specs.Projection.Requests.{op_of, op_on, answer_of, among}
use Rattle.lu_proof_lawful.specs.Projection.Stories.{with_entry, served, size_in, grants}
use Rattle.lu_proof_lawful.proofs.Refinement.TiedTarget.{CommittedAs, QueuedOn, TargetBy}
use Rattle.lu_proof_lawful.proofs.Refinement.TargetSame.{GivesSame, GrantsSame, DoesSame, GivenStay, given_same, gives_same, granted_same}
use Rattle.lu_proof_lawful.proofs.Refinement.TargetSame.{grants_same, answered_same, names_same, op_was, counts_back}
use Rattle.lu_proof_lawful.proofs.Refinement.TargetDeeds.{asked_by, on_of, DoesOne, names_one, answered_one, answers_one}
use Rattle.lu_proof_lawful.proofs.Refinement.TargetGrants.{resource_or, BringsLock, grant_brings, promote_brings, GivesOne, GrantsOne}
use Rattle.lu_proof_lawful.proofs.Refinement.TargetGrants.{stay_one, given_one, gives_one, granted_one, grants_one}
use Rattle.lu_proof_lawful.proofs.Refinement.TargetActs.{wait_adds, grant_adds, granted_right, waiting_right, served_either, served_some}
use Rattle.lu_proof_lawful.proofs.Refinement.TargetActs.{served_none, on_here, on_not, AllName, lock_for}

module _ (head : Head) (r : Resource) (past : List Line) (h : List Entry) (tied : TargetBy head r past h) (all : HoldsAt head past)
    (asked : AllName r past h) (stamp : Stamp) (t : ℕ) (high : 0 < t) where
  abbrev at_now : At
  at_now = turn stamp (Target t)

  -- what waits has no cookie above the greatest
  queued_low : (l : TableLock) → In l (server_of head.osts past).queued → (q : Queueing head.osts head.clients past l)
      → ((d : Deed) (k : ℕ) → Acted past d → Names d k → k ≤ (server_of head.osts past).cookie)
      → l.cookie.0 ≤ (server_of head.osts past).cookie
  queued_low l i q low = low q.deed l.cookie.0 q.acted (inr (waits_bring q.deed.op q.deed.reply.answer l.cookie.0 q.tells))

  -- ---- granted at once

  module _ (lock : TableLock) (d : Deed) (ok : RangeOk head.osts past at_now lock d)
      (now : HoldsAt head (line at_now (word.Grant lock (Some d)) ∷ past)) where
    abbrev range_past : List Line
    range_past = line at_now (word.Grant lock (Some d)) ∷ past

    abbrev range_make : Request → Entry
    range_make q = Grant q (lock_of lock) (size_in d.reply.answer) (among d.reply.seen)

    abbrev range_told : List Entry
    range_told = with_entry (served r d h range_make) h

    range_does : ActedBy head.osts past at_now d
    range_does = range_acted head.osts past at_now lock d ok

    range_on : lock.resource ≡ ok.resource
    range_on = ap (λ (l : TableLock). l.resource) ok.of_lock

    range_is : op_of r h d.op ≡ op_on r ok.resource (Enqueue (is_write ok.mode) ok.extent.first (last_of ok.extent.last))
    range_is = ap (op_of r h) (range_op head.osts past at_now lock d ok)

    range_entry : lock.resource ≡ r → BringsLock (lock_of lock) h range_told
    range_entry on =
        let o = Enqueue (is_write ok.mode) ok.extent.first (last_of ok.extent.last) in
        subst (λ (x : List Entry). BringsLock (lock_of lock) h x)
        (sym (served_some r d h range_make o (range_is ∙ on_here r ok.resource o (sym range_on ∙ on))))
        (grant_brings (asked_by d o) (lock_of lock) (size_in d.reply.answer) (among d.reply.seen) h)

    range_off : (lock.resource ≡ r → ⊥) → range_told ≡ h
    range_off other = served_none r d h range_make (range_is ∙ on_not r ok.resource _ (λ e. other (range_on ∙ e)))

    range_waits : (e : Deed) (k : ℕ) → d ≡ e → tells_wait e.op e.reply.answer k ≡ true → ⊥
    range_waits e k q w =
        let yes = subst (λ (x : Deed). tells_wait x.op x.reply.answer k ≡ true) (sym q) w in
        let no = range_tells head.osts past at_now lock d k ok in
        absurd (cc)

    none_promoted : (l : TableLock) → ((◌≡◌ {A = Option Deed} (Some d) None) × (lock ≡ l)) ⊎ Promoted past l → Promoted past l
    none_promoted l (inl q) = absurd (let e = q.0 in cc)
    none_promoted l (inr p) = p

    only_one : (l : TableLock) → In l (lock ∷ []) → lock ≡ l
    only_one l (inl e) = e
    only_one l (inr i) = absurd i

    pub range_gives : GivesOne past range_past d lock
    range_gives =
        record {
          mine = (
            inl refl,
            inl (subst (λ (ls : List TableLock). In lock ls) (sym (range_brings head.osts past at_now lock d ok))
                (inl refl)),
          );
          more = λ e l g. (
            inr g.0,
            ⊎_elim (λ (i : In l (brought e.op e.reply)). inl i)
                (λ (p : Promoted past l × (tells_wait e.op e.reply.answer l.cookie.0 ≡ true)). inr (inr p.0, p.1)) g.1,
          );
          back = λ e l o. ⊎_elim
              (λ (x : Some d ≡ Some e). let q = some_is d e x in ⊎_elim
              (λ (i : In l (brought e.op e.reply)). inl (
                q,
                only_one l
                    (subst (λ (ls : List TableLock). In l ls) (range_brings head.osts past at_now lock d ok)
                    (subst (λ (y : Deed). In l (brought y.op y.reply)) (sym q) i)),
              ))
              (λ (p : Promoted range_past l × (tells_wait e.op e.reply.answer l.cookie.0 ≡ true)). absurd (range_waits e l.cookie.0 q p.1))
              o.1)
              (λ (b : Acted past e). inr (
                b,
                ⊎_elim (λ (i : In l (brought e.op e.reply)). inl i)
                    (λ (p : Promoted range_past l × (tells_wait e.op e.reply.answer l.cookie.0 ≡ true)). inr (none_promoted l p.0, p.1)) o.1,
              ))
              o.0;
        }

    range_grants : GrantsOne head.osts past range_past lock
    range_grants = record { granted = refl; evicted = refl; shown = refl; serves = ok.serves }

    range_done : DoesOne head.osts past range_past d
    range_done =
        record {
          here = inl refl;
          acted = λ x a. inr a;
          back = λ x a. ⊎_elim (λ (e : Some d ≡ Some x). inl (some_is d x e)) (λ (b : Acted past x). inr b) a;
          counts = inl (range_does.boot ∙ sym range_does.serves.closed);
          closed = refl;
          lost = λ n. refl;
        }

    range_right : (o : words.Op) → op_of r h d.op ≡ Some o → Granted (lock_of lock) (size_in d.reply.answer) (among d.reply.seen)
        ≡ answer_of (asked_by d o) d.reply
    range_right o e =
        granted_right r h (number_of d.reply.who) d.reply lock ok.resource ok.mode ok.extent
        (size_at (server_of head.osts past) ok.resource) o
        (sym (ap (op_of r h) (range_op head.osts past at_now lock d ok)) ∙ e) (range_answer head.osts past at_now lock d ok)
        (ap number_of (ap (λ (l : TableLock). l.ask.who) ok.of_lock ∙ sym (ap (λ (e : Deed). e.reply.who) ok.is)))
        (ap (λ (l : TableLock). l.ask.mode) ok.of_lock)

    range_stay : GivenStay h range_told
    range_stay = stay_one head r past range_past h range_told tied now d lock range_gives range_entry range_off

    pub tied_range : CommittedAs head range_past (says.committed range_told) → TargetBy head r range_past range_told
    tied_range committed =
        record {
          closed = served_either r d h range_make (λ (k : List Entry). says.closed k ≡ says.closed h) refl (λ o e. refl) ∙ tied.closed;
          evicted = λ w. served_either r d h range_make (λ (k : List Entry). says.evicted (number_of w) k ≡ says.evicted (number_of w) h)
              refl (λ o e. refl) ∙ tied.evicted w;
          committed = committed;
          top = served_either r d h range_make (λ (k : List Entry). says.top k ≤ max (server_of head.osts past).cookie lock.cookie.0)
              (let low = tied.top in omega (arith, low)) (λ o e. let low = tied.top in omega (arith, low));
          given = given_one head r past range_past h range_told tied now d lock range_gives range_entry range_off;
          gives = gives_one head r past range_past h range_told tied now d lock range_gives range_entry range_off;
          granted = granted_one head r past range_past h range_told tied now d lock range_gives range_entry range_off range_grants ok.shown;
          grants = grants_one head r past range_past h range_told tied now d lock range_gives range_entry range_off range_grants ok.shown;
          waiting = λ m. served_either r d h range_make (λ (k : List Entry). IsWaiting k m → QueuedOn head r range_past m) (waits_on m)
              (λ o e. waits_on m);
          queued = λ l i on. served_either r d h range_make (λ (k : List Entry). IsWaiting k (lock_of l)) (was_queued l i on)
              (λ o e. was_queued l i on);
          names = names_one head r past range_past h tied d range_done range_make
              (λ q. Granted (lock_of lock) (size_in d.reply.answer) (among d.reply.seen))
              (grant_adds (lock_of lock) (size_in d.reply.answer) (among d.reply.seen) h) range_right
              (lock_for head r past h tied all asked stamp t high d range_does.request range_does.waits range_does.of_op) range_stay;
          answered = answered_one head r past range_past h tied d range_done range_make
              (λ q. Granted (lock_of lock) (size_in d.reply.answer) (among d.reply.seen))
              (grant_adds (lock_of lock) (size_in d.reply.answer) (among d.reply.seen) h) range_right
              (lock_for head r past h tied all asked stamp t high d range_does.request range_does.waits range_does.of_op) range_stay;
          answers = answers_one head r past range_past h tied d range_done range_make
              (λ q. Granted (lock_of lock) (size_in d.reply.answer) (among d.reply.seen))
              (grant_adds (lock_of lock) (size_in d.reply.answer) (among d.reply.seen) h) range_right
              (lock_for head r past h tied all asked stamp t high d range_does.request range_does.waits range_does.of_op) range_stay;
        }
      where
        -- what waits has another cookie than the new one
        waits_on : (m : Lock) → IsWaiting h m → QueuedOn head r range_past m
        waits_on m i =
            let q = tied.waiting m i in
            let low = queued_low q.0 q.1 (all.locks.waits q.0 q.1) (all.locks.low ok.serves) in
            let next : lock.cookie.0 ≡ (server_of head.osts past).cookie + 1 = ap (λ (l : TableLock). l.cookie.0) ok.of_lock in
            (q.0, in_without lock q.0 (server_of head.osts past).queued q.1 (λ c. omega (arith, low, next, c)), q.2, q.3)

        was_queued : (l : TableLock) → In l (without_lock lock (server_of head.osts past).queued) → l.resource ≡ r → IsWaiting h (lock_of l)
        was_queued l i on = tied.queued l (in_filter (λ (k : TableLock). not (nat_eq k.cookie.0 lock.cookie.0)) l
            (server_of head.osts past).queued i).0 on

  -- ---- it has to wait

  module _ (lock : TableLock) (d : Deed) (ok : WaitOk head.osts past at_now lock d) where
    abbrev wait_past : List Line
    wait_past = line at_now (word.Wait lock d) ∷ past

    abbrev wait_make : Request → Entry
    wait_make q = Wait q (lock_of lock)

    abbrev wait_told : List Entry
    wait_told = with_entry (served r d h wait_make) h

    wait_does : ActedBy head.osts past at_now d
    wait_does = wait_acted head.osts past at_now lock d ok

    wait_on : lock.resource ≡ ok.resource
    wait_on = ap (λ (l : TableLock). l.resource) ok.of_lock

    wait_is : op_of r h d.op ≡ op_on r ok.resource (Enqueue (is_write ok.mode) ok.extent.first (last_of ok.extent.last))
    wait_is = ap (op_of r h) (wait_op head.osts past at_now lock d ok)

    wait_named : (e : Deed) (k : ℕ) → d ≡ e → brings_cookie e.op e.reply.answer k ≡ true → lock.cookie.0 ≡ k
    wait_named e k q b = eqb-true lock.cookie.0 k (sym (wait_names head.osts past at_now lock d k ok)
        ∙ subst (λ (x : Deed). brings_cookie x.op x.reply.answer k ≡ true) (sym q) b)

    -- it gives none yet: what waited before has another cookie
    pub wait_gives : GivesSame past wait_past
    wait_gives =
        record {
          gave = λ e l g. (inr g.0, g.1);
          back = λ e l o. ⊎_elim
              (λ (q : d ≡ e). ⊎_elim
              (λ (i : In l (brought e.op e.reply)). absurd (subst (λ (ls : List TableLock). In l ls)
              (wait_brings head.osts past at_now lock d ok) (subst (λ (y : Deed). In l (brought y.op y.reply)) (sym q) i)))
              (λ (p : Promoted past l × (tells_wait e.op e.reply.answer l.cookie.0 ≡ true)).
              let is = wait_named e l.cookie.0 q (waits_bring e.op e.reply.answer l.cookie.0 p.1) in
              let g = all.locks.promoted l p.0 in
              let le = all.locks.low ok.serves g.0 l.cookie.0 g.1.0 (gave_names past g.0 l g.1) in
              let next : lock.cookie.0 ≡ (server_of head.osts past).cookie + 1 = ap (λ (l : TableLock). l.cookie.0) ok.of_lock in
              absurd (omega (arith, is, le, next)))
              o.1)
              (λ (b : Acted past e). (b, o.1))
              o.0;
        }

    wait_grants : GrantsSame head.osts past wait_past
    wait_grants = record { granted = refl; evicted = refl; shown = λ e l g i serves. i ok.serves }

    wait_done : DoesOne head.osts past wait_past d
    wait_done = record {
      here = inl refl;
      acted = λ x a. inr a;
      back = λ x a. a;
      counts =
          inl (wait_does.boot ∙ sym wait_does.serves.closed);
      closed = refl;
      lost = λ n. refl;
    }

    wait_right : (o : words.Op) → op_of r h d.op ≡ Some o → Waiting lock.cookie.0 ≡ answer_of (asked_by d o) d.reply
    wait_right o e =
        waiting_right r h (number_of d.reply.who) d.reply lock ok.resource ok.mode ok.extent o
        (sym (ap (op_of r h) (wait_op head.osts past at_now lock d ok)) ∙ e) (wait_answer head.osts past at_now lock d ok)

    wait_given : (c : ℕ) → found.given c wait_told ≡ found.given c h
    wait_given c = served_either r d h wait_make (λ (k : List Entry). found.given c k ≡ found.given c h) refl (λ o e. refl)

    wait_stay : GivenStay h wait_told
    wait_stay c m e = wait_given c ∙ e

    pub tied_wait : CommittedAs head wait_past (says.committed wait_told) → TargetBy head r wait_past wait_told
    tied_wait committed =
        record {
          closed = served_either r d h wait_make (λ (k : List Entry). says.closed k ≡ says.closed h) refl (λ o e. refl) ∙ tied.closed;
          evicted = λ w. served_either r d h wait_make (λ (k : List Entry). says.evicted (number_of w) k ≡ says.evicted (number_of w) h)
              refl (λ o e. refl) ∙ tied.evicted w;
          committed = committed;
          top = served_either r d h wait_make (λ (k : List Entry). says.top k ≤ max (server_of head.osts past).cookie lock.cookie.0)
              (let low = tied.top in omega (arith, low)) (λ o e. let low = tied.top in omega (arith, low));
          given = given_same head r past wait_past h wait_told tied wait_gives wait_given;
          gives = gives_same head r past wait_past h wait_told tied wait_gives wait_given;
          granted = granted_same head r past wait_past h wait_told tied wait_grants wait_gives.gave
              (λ m. served_either r d h wait_make (λ (k : List Entry). IsGranted k m → IsGranted h m) (λ i. i) (λ o e i. i));
          grants = grants_same head r past wait_past h wait_told tied refl
              (λ m. served_either r d h wait_make (λ (k : List Entry). IsGranted h m → IsGranted k m) (λ i. i) (λ o e i. i));
          waiting = λ m. served_either r d h wait_make (λ (k : List Entry). IsWaiting k m → QueuedOn head r wait_past m) (waits_on m)
              (λ o e i. ⊎_elim (λ q. waits_here m o e q) (λ (j : IsWaiting h m). waits_on m j) i);
          queued = λ l i on. ⊎_elim
              (λ (j : In l (server_of head.osts past).queued). served_either r d h wait_make (λ (k : List Entry). IsWaiting k (lock_of l))
              (tied.queued l j on) (λ o e. inr (tied.queued l j on)))
              (λ (j : In l (lock ∷ [])). queued_here l j on)
              (in_append l (server_of head.osts past).queued (lock ∷ []) i);
          names = names_one head r past wait_past h tied d wait_done wait_make (λ q. Waiting lock.cookie.0) (wait_adds (lock_of lock) h)
              wait_right (lock_for head r past h tied all asked stamp t high d wait_does.request wait_does.waits wait_does.of_op) wait_stay;
          answered = answered_one head r past wait_past h tied d wait_done wait_make (λ q. Waiting lock.cookie.0)
              (wait_adds (lock_of lock) h) wait_right (lock_for head r past h tied all asked stamp t high d wait_does.request
              wait_does.waits wait_does.of_op) wait_stay;
          answers = answers_one head r past wait_past h tied d wait_done wait_make (λ q. Waiting lock.cookie.0) (wait_adds (lock_of lock) h)
              wait_right (lock_for head r past h tied all asked stamp t high d wait_does.request wait_does.waits wait_does.of_op) wait_stay;
        }
      where
        waits_on : (m : Lock) → IsWaiting h m → QueuedOn head r wait_past m
        waits_on m i = let q = tied.waiting m i in (q.0, in_left q.0 (server_of head.osts past).queued (lock ∷ []) q.1, q.2, q.3)

        some_on : (o : words.Op) → op_of r h d.op ≡ Some o → Some ok.resource ≡ Some r
        some_on o e = ap object_of (sym (wait_op head.osts past at_now lock d ok)) ∙ on_of r h d.op o e

        waits_here : (m : Lock) (o : words.Op) → op_of r h d.op ≡ Some o → lock_of lock ≡ m → QueuedOn head r wait_past m
        waits_here m o e q = let on = some_on o e in (
          lock,
          in_right lock (server_of head.osts past).queued (lock ∷ []) (inl refl),
          wait_on
              ∙ (cc),
          q,
        )

        queued_here : (l : TableLock) → In l (lock ∷ []) → l.resource ≡ r → IsWaiting wait_told (lock_of l)
        queued_here l (inr i) on = absurd i
        queued_here l (inl q) on =
            let o = Enqueue (is_write ok.mode) ok.extent.first (last_of ok.extent.last) in
            let mine : lock.resource ≡ r = ap (λ (x : TableLock). x.resource) q ∙ on in
            subst (λ (k : List Entry). IsWaiting k (lock_of l))
            (sym (served_some r d h wait_make o (wait_is ∙ on_here r ok.resource o (sym wait_on ∙ mine)))) (inl (ap lock_of q))

  -- ---- one that waited is granted

  module _ (lock : TableLock) (ok : PromoteOk head.osts past lock) (now : HoldsAt head (line at_now (word.Grant lock None) ∷ past)) where
    abbrev promote_past : List Line
    promote_past = line at_now (word.Grant lock None) ∷ past

    abbrev promote_told : List Entry
    promote_told = with_entry (grants r lock None h) h

    in_queue : In ok.asked (server_of head.osts past).queued
    in_queue =
        (in_filter (λ (l : TableLock). same_resource l.resource lock.resource) ok.asked (server_of head.osts past).queued
        (subst (λ (ls : List TableLock). In ok.asked ls) (sym ok.queue) (in_right ok.asked ok.ahead (ok.asked ∷ ok.later) (inl refl)))).0

    pub queueing : Queueing head.osts head.clients past ok.asked
    queueing = all.locks.waits ok.asked in_queue

    cookie_same : lock.cookie.0 ≡ ok.asked.cookie.0
    cookie_same = ap (λ (l : TableLock). l.cookie.0) ok.of_lock

    promote_on : lock.resource ≡ ok.asked.resource
    promote_on = ap (λ (l : TableLock). l.resource) ok.of_lock

    lock_tells : tells_wait queueing.deed.op queueing.deed.reply.answer lock.cookie.0 ≡ true
    lock_tells = ap (tells_wait queueing.deed.op queueing.deed.reply.answer) cookie_same ∙ queueing.tells

    promote_some : lock.resource ≡ r → promote_told ≡ Promote (lock_of lock) ∷ h
    promote_some on = ap (λ (b : Bool). with_entry (if b then Some (Promote (lock_of lock)) else None) h)
        (subst (λ (x : Resource). same_resource lock.resource x ≡ true) on (resource_itself lock.resource))

    promote_none : (lock.resource ≡ r → ⊥) → promote_told ≡ h
    promote_none other = by (same_resource lock.resource r) refl
      where
        by : (b : Bool) → same_resource lock.resource r ≡ b → with_entry (if b then Some (Promote (lock_of lock)) else None) h ≡ h
        by true e = absurd (other (resource_of lock.resource r e))
        by false e = refl

    promote_entry : lock.resource ≡ r → BringsLock (lock_of lock) h promote_told
    promote_entry on = subst (λ (x : List Entry). BringsLock (lock_of lock) h x) (sym (promote_some on)) (promote_brings (lock_of lock) h)

    promote_either : (P : List Entry → Type 0) → P h → (lock.resource ≡ r → P (Promote (lock_of lock) ∷ h)) → P promote_told
    promote_either P none some = ⊎_elim
        (λ (on : lock.resource ≡ r). subst P (sym (promote_some on)) (some on))
        (λ (other : lock.resource ≡ r → ⊥). subst P (sym (promote_none other)) none)
        (resource_or lock.resource r)

    pub promote_gives : GivesOne past promote_past queueing.deed lock
    promote_gives =
        record {
          mine = (inr queueing.acted, inr (inl (refl, refl), lock_tells));
          more = λ e l g. (
            inr g.0,
            ⊎_elim (λ (i : In l (brought e.op e.reply)). inl i)
                (λ (p : Promoted past l × (tells_wait e.op e.reply.answer l.cookie.0 ≡ true)). inr (inr p.0, p.1)) g.1,
          );
          back = λ e l o. back e l (none_done e o.0) o.1;
        }
      where
        none_done : (e : Deed) → (None ≡ Some e) ⊎ Acted past e → Acted past e
        none_done e (inl x) = absurd (cc)
        none_done e (inr a) = a

        back : (e : Deed) (l : TableLock) → Acted past e → In l (brought e.op e.reply)
            ⊎ (Promoted promote_past l × (tells_wait e.op e.reply.answer l.cookie.0 ≡ true)) → ((queueing.deed ≡ e) × (lock ≡ l))
            ⊎ Gave past e l
        back e l was (inl i) = inr (was, inl i)
        back e l was (inr x) = ⊎_elim
            (λ (y : (◌≡◌ {A = Option Deed} None None) × (lock ≡ l)).
            let tells : tells_wait e.op e.reply.answer lock.cookie.0 ≡ true =
            ap (λ (k : TableLock). tells_wait e.op e.reply.answer k.cookie.0) y.1 ∙ x.1 in
            inl (
              all.locks.named queueing.deed e lock.cookie.0 queueing.acted was
                  (inr (waits_bring queueing.deed.op queueing.deed.reply.answer lock.cookie.0 lock_tells))
                  (inr (waits_bring e.op e.reply.answer lock.cookie.0 tells)),
              y.1,
            ))
            (λ (y : Promoted past l). inr (was, inr (y, x.1)))
            x.0

    promote_grants : GrantsOne head.osts past promote_past lock
    promote_grants = record { granted = refl; evicted = refl; shown = refl; serves = ok.serves }

    promote_does : DoesSame head.osts past promote_past
    promote_does =
        record {
          acted = λ d a. inr a;
          back = λ d a. ⊎_elim (λ (e : None ≡ Some d). absurd (cc)) (λ (b : Acted past d). b) a;
          closed = refl;
          lost = λ n. refl;
        }

    promote_stay : GivenStay h promote_told
    promote_stay = stay_one head r past promote_past h promote_told tied now queueing.deed lock promote_gives promote_entry promote_none

    -- two that wait with one cookie are on one object
    one_object : (l : TableLock) → In l (server_of head.osts past).queued → l.cookie.0 ≡ lock.cookie.0 → l.resource ≡ lock.resource
    one_object l i c =
        let q = all.locks.waits l i in
        let same = all.locks.named q.deed queueing.deed lock.cookie.0 q.acted queueing.acted
        (inr (waits_bring q.deed.op q.deed.reply.answer lock.cookie.0 (ap (tells_wait q.deed.op q.deed.reply.answer) (sym c) ∙ q.tells)))
        (inr (waits_bring queueing.deed.op queueing.deed.reply.answer lock.cookie.0 lock_tells)) in
        let o : Some l.resource ≡ Some ok.asked.resource = ap object_of (sym q.asked.1 ∙ ap (λ (d : Deed). d.op) same ∙ queueing.asked.1) in
        some_resource l.resource ok.asked.resource o ∙ sym promote_on
      where
        some_resource : (a b : Resource) → Some a ≡ Some b → a ≡ b
        some_resource a b e = cc

    pub tied_promote : CommittedAs head promote_past (says.committed promote_told) → TargetBy head r promote_past promote_told
    tied_promote committed =
        record {
          closed = promote_either (λ (k : List Entry). says.closed k ≡ says.closed h) refl (λ on. refl) ∙ tied.closed;
          evicted = λ w. promote_either (λ (k : List Entry). says.evicted (number_of w) k ≡ says.evicted (number_of w) h) refl (λ on. refl)
              ∙ tied.evicted w;
          committed = committed;
          top = promote_either (λ (k : List Entry). says.top k ≤ max (server_of head.osts past).cookie lock.cookie.0)
              (let low = tied.top in omega (arith, low)) (λ on. let low = tied.top in omega (arith, low));
          given = given_one head r past promote_past h promote_told tied now queueing.deed lock promote_gives promote_entry promote_none;
          gives = gives_one head r past promote_past h promote_told tied now queueing.deed lock promote_gives promote_entry promote_none;
          granted = granted_one head r past promote_past h promote_told tied now queueing.deed lock promote_gives promote_entry promote_none
              promote_grants ok.shown;
          grants = grants_one head r past promote_past h promote_told tied now queueing.deed lock promote_gives promote_entry promote_none
              promote_grants ok.shown;
          waiting = λ m i. ⊎_elim
              (λ (on : lock.resource ≡ r). waits_on m (subst (λ (k : List Entry). IsWaiting k m) (promote_some on) i))
              (λ (other : lock.resource ≡ r → ⊥). waits_off m other (subst (λ (k : List Entry). IsWaiting k m) (promote_none other) i))
              (resource_or lock.resource r);
          queued = λ l i on.
              let was = in_filter (λ (k : TableLock). not (nat_eq k.cookie.0 lock.cookie.0)) l (server_of head.osts past).queued i in
              let old = tied.queued l was.0 on in
              promote_either (λ (k : List Entry). IsWaiting k (lock_of l)) old (λ mine. (λ c. apart l lock was.1 (sym c), old));
          names = names_same head r past promote_past h promote_told tied promote_does.back promote_stay;
          answered = answered_same head r past promote_past h promote_told tied promote_does promote_stay
              (λ c x a. promote_either (λ (k : List Entry). Answered k c x a → Answered h c x a) (λ i. i) (λ on i. i));
          answers = λ d o a c on is.
              let was = promote_does.back d a in
              let old = tied.answers d o was (counts_back head.osts past promote_past refl (λ n. refl) d c) on
              (op_was head r past promote_past h promote_told tied promote_stay d o was on is) in
              promote_either (λ (k : List Entry). Answered k (number_of d.reply.who) d.reply.xid.0 (answer_of (asked_by d o) d.reply)) old
              (λ mine. old);
        }
      where
        apart : (l k : TableLock) → not (nat_eq l.cookie.0 k.cookie.0) ≡ true → l.cookie.0 ≡ k.cookie.0 → ⊥
        apart l k e c = absurd (grind (arith, nat_tests, e, c))

        waits_on : (m : Lock) → IsWaiting (Promote (lock_of lock) ∷ h) m → QueuedOn head r promote_past m
        waits_on m i =
            let q = tied.waiting m i.1 in
            (q.0, in_without lock q.0 (server_of head.osts past).queued q.1 (λ c. i.0 (sym c ∙ ap (λ (x : Lock). x.cookie) q.3)), q.2, q.3)

        waits_off : (m : Lock) → (lock.resource ≡ r → ⊥) → IsWaiting h m → QueuedOn head r promote_past m
        waits_off m other i =
            let q = tied.waiting m i in
            (q.0, in_without lock q.0 (server_of head.osts past).queued q.1 (λ c. other (sym (one_object q.0 q.1 c) ∙ q.2)), q.2, q.3)
