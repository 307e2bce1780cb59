-- A reply that a client hears in a covered run: what was in flight ends, its locks come and are shown, and what it tells is known under
-- them.
-- Then the call that it answers is to be told, or goes on.
use Rattle.std.proofs.Common.{◌≡◌, ℕ, ◌<◌, Bool, true, false, List, [], ◌∷◌, ◌++◌, ◌⊎◌, inl, inr, refl, sym, subst, ap, ◌∙◌, arith}
use Rattle.std.specs.Prelude.{nat_eq, if◌then◌else◌}
use Rattle.std.proofs.lemmas.Bool.{eqb-true}
use Rattle.std.proofs.lemmas.List.{append_assoc}
use Rattle.std.proofs.lemmas.Bool.Decides.{nat_tests}
use Rattle.lu_base.specs.declared.ids.At.{At}
use Rattle.lu_base.specs.declared.ids.Node.TheVariants.{Client, Target}
use Rattle.lu_base.specs.declared.ids.Stamp.{Stamp}
use Rattle.lu_base.specs.declared.locks.Lock.{Lock}
use Rattle.lu_msg.specs.declared.answers.Answer.{Answer}
use Rattle.lu_msg.specs.declared.answers.Answer.TheVariants as answer
use Rattle.lu_msg.specs.declared.messages.Message.TheVariants as message
use Rattle.lu_msg.specs.declared.messages.Reply.{Reply as ReplyTo}
use Rattle.lu_msg.specs.declared.operations.Op.{Op}
use Rattle.lu_msg.specs.declared.operations.Op.TheVariants as op
use Rattle.lu_held.specs.declared.locks.HeldLock.{HeldLock}
use Rattle.lu_held.specs.Locks.{named}
use Rattle.lu_spec_machine.specs.Fits.{answer_fits}
use Rattle.lu_spec_entries.specs.Carried.{Flight, Answered}
use Rattle.lu_spec_entries.specs.Words.{Entry, Take, Heard, Hold, Learns, Line, line, with_turn}
use Rattle.lu_spec_entries.specs.Concerns.{is_about, only}
use Rattle.lu_spec_entries.specs.Sent.{Sent}
use Rattle.lu_spec_client.specs.Caches.{held_as, held_at, with_held, with_brought, granted_lock, brought, patches_at}
use Rattle.lu_spec_client.specs.Imports.{import_at}
use Rattle.lu_spec_client.specs.Messages.{holds, learns, size_with}
use Rattle.lu_proof_lawful.specs.Covered.Calls.{asks_for, call_at, life_at}
use Rattle.lu_proof_lawful.specs.Covered.Imports.{flights_at}
use Rattle.lu_spec_run.specs.Heads as table
use Rattle.lu_proof_lawful.proofs.Preconditions.HeedMarks.{heeds_marks, marks_left, owes, owed_of}
use Rattle.lu_proof_lawful.proofs.Preconditions.Guards.{In, Was, HeardNow, JustHeard, Learned, came_marked, marks_of}
use Rattle.lu_proof_lawful.proofs.Preconditions.StoryGuards as story_guards
use Rattle.lu_proof_lawful.proofs.Preconditions.Lists.{self, turn, turn_more}
use Rattle.lu_proof_lawful.proofs.Preconditions.Only.{sent_was, was_only, told_by_target, grown_of}
use Rattle.lu_proof_lawful.proofs.Preconditions.Parts.{flights_now, known_is, life_is_of}
use Rattle.lu_proof_lawful.proofs.Preconditions.Turns.{Settled, owes_nothing}
use Rattle.lu_proof_lawful.proofs.Preconditions.Held.{held_into}
use Rattle.lu_proof_lawful.proofs.Preconditions.LockKinds.{reply_bare}
use Rattle.lu_proof_lawful.proofs.Preconditions.ClientLocks.{Differ, brought_in, with_self, with_other, other_lock}
use Rattle.lu_proof_lawful.proofs.Preconditions.ClientHandles.{Tied}
use Rattle.lu_proof_lawful.proofs.Preconditions.ClientLines.{IsLock, IsBytes, IsSimple, asked_parts, brings_its, flights_asked}
use Rattle.lu_proof_lawful.proofs.Preconditions.ClientLines.{reply_differs}
use Rattle.lu_proof_lawful.proofs.Preconditions.ClientGood.{Good, the_head, adds, at_one, call_line, held_line}
use Rattle.lu_proof_lawful.proofs.Preconditions.TurnStarts.{Starts, took_good}

-- ---- the locks of a reply

pub one_differs : (o : Op) (r : ReplyTo) (a : Answer) → Differ (granted_lock o r a)
one_differs (op.Enqueue resource mode extent) r (answer.Granted cookie given size) = ((λ m i. absurd i), tt)
one_differs o r a = tt

module _ (head : table.Head) (c : ℕ) (stamp : Stamp) where
  abbrev pub at : At
  at = turn stamp (Client c)

  pub only_line : (t : ℕ) (e : Entry) (p : List Line) → is_about t e ≡ true → only t (line at e ∷ p) ≡ line at e ∷ only t p
  only_line t e p q = ap (λ (b : Bool). if b then line at e ∷ only t p else only t p) q

  -- ---- a reply is heard

  -- since before it the client is the same but for the call that it answers, and what is to be marked of it
  pub record Since (t : ℕ) (f : Flight) (r : ReplyTo) (before p : List Line) : Type 0 where
    pub good : Good head c at p
    pub settled : Settled p
    pub just : JustHeard p at t r
    pub calls : (slot : ℕ) → call_at c slot p ≡ asks_for f.slot slot (Answered t r) (call_at c slot before)
    pub life : life_at c p ≡ life_at c before
    pub patches : patches_at c p ≡ patches_at c before
    pub marks : marks_of c p ≡ heeds_marks t f.op r.answer (held_at c before)
    pub handles : Tied c p

  -- it was heard in this turn; the locks that came with it are held, and these are still to be shown
  record Showing (t : ℕ) (f : Flight) (r : ReplyTo) (before : List Line) (left : List Lock) (p : List Line) : Type 0 where
    since : Since t f r before p
    now : HeardNow p at t f r
    now_only : HeardNow (only t p) at t f r
    learned : r.locks ≡ [] → Learned p at t f r
    held : (l : Lock) → In l left → In (held_as t l false) (held_at c p)
    differ : Differ left
    among : (l : Lock) → In l left → In l (brought f.op r)
    owing : (more : List Entry) × (owed_of c p ≡ holds t (size_with r.answer) r.seen left ++ more)

  pub held_so : (t : ℕ) (r : ReplyTo) (l : Lock) (p : List Line) → held_at c (line at (Hold t l false (size_with r.answer) r.seen) ∷ p)
      ≡ with_held (held_as t l false) (held_at c p)
  held_so t r l p = held_line head c stamp p (Hold t l false (size_with r.answer) r.seen)

  hold_good : (t : ℕ) (f : Flight) (r : ReplyTo) (before : List Line) (l : Lock) (left : List Lock) (p : List Line)
      → Showing t f r before (l ∷ left) p
      → Showing t f r before left (line at (Hold t l false (size_with r.answer) r.seen) ∷ p)
  hold_good t f r before l left p s =
      record {
        since = record {
          good =
              adds head c stamp p e s.since.good (owes_nothing p at e s.since.settled)
              (inl (record {
                flight = f;
                reply = r;
                heard = s.now;
                among = s.among l (inl refl);
                unmarked = refl;
                sized = refl;
                saw = refl;
                next = (holds t (size_with r.answer) r.seen left ++ s.owing.0, s.owing.1);
              }))
              (at_one head c stamp t (λ (u : ℕ). ((false ≡ false) × story_guards.HeldOk (only u p) c t l r.seen)
              ⊎ story_guards.GivenOf (only u p) c t l r.seen) (inl (
                refl,
                record {
                  at = at;
                  flight = f;
                  reply = r;
                  here = refl;
                  heard = s.now_only;
                  among = s.among l (inl refl);
                  saw = refl;
                  held = held_into c t p (held_as t l false) refl (s.held l (inl refl));
                },
              ))) tt refl;
          settled = tt;
          just = s.since.just;
          calls = s.since.calls;
          life = s.since.life;
          patches = s.since.patches;
          marks = s.since.marks;
          handles = s.since.handles;
        };
        now = s.now;
        now_only = subst (λ (q : List Line). HeardNow q at t f r) (sym (only_line t e p (self t))) s.now_only;
        learned = s.learned;
        held = λ m i. subst (λ (hs : List HeldLock). In (held_as t m false) hs) (sym so)
            (with_other (held_as t l false) (held_as t m false) (held_at c p) (other_lock t l m (s.differ.0 m i)) (s.held m (inr i)));
        differ = s.differ.1;
        among = λ m i. s.among m (inr i);
        owing = (s.owing.0, ap (λ (b : Bool). if b then marks_left (owed_of c p) else owed_of c p) (self c) ∙ ap marks_left s.owing.1);
      }
    where
      e : Entry
      e = Hold t l false (size_with r.answer) r.seen

      so : held_at c (line at e ∷ p) ≡ with_held (held_as t l false) (held_at c p)
      so = held_so t r l p

  holds_good : (t : ℕ) (f : Flight) (r : ReplyTo) (before : List Line) (left : List Lock) (p : List Line) → Showing t f r before left p
      → Showing t f r before [] (with_turn at (holds t (size_with r.answer) r.seen left) p)
  holds_good t f r before [] p s = s
  holds_good t f r before (l ∷ left) p s = holds_good t f r before left (line at (Hold t l false (size_with r.answer) r.seen) ∷ p)
      (hold_good t f r before l left p s)

  -- it is heard, and what it told is known
  pub record IsHeard (t : ℕ) (f : Flight) (r : ReplyTo) (before p : List Line) : Type 0 where
    pub since : Since t f r before p
    pub now : r.locks ≡ [] → HeardNow p at t f r
    pub learned : Learned p at t f r

  learns_good : (t : ℕ) (f : Flight) (r : ReplyTo) (before : List Line) (ls : List Lock) (p : List Line) → (t ≡ 0) ⊎ (r.locks ≡ [])
      → r.locks ≡ ls → Showing t f r before [] p
      → IsHeard t f r before (with_turn at (learns t f.op r.answer ls) p)
  learns_good t f r before [] p first e h = record { since = h.since; now = λ q. h.now; learned = h.learned e }
  learns_good t f r before (l ∷ ls) p (inr none) e h = absurd (let q : [] ≡ l ∷ ls = sym none ∙ e in cc)
  learns_good t f r before (l ∷ ls) p (inl zero_it) e h =
      let x = Learns t f.op r.answer (l ∷ ls) in
      record {
        since = record {
          good =
              adds head c stamp p x h.since.good (owes_nothing p at x h.since.settled)
              (record { names = zero_it; flight = f; reply = r; heard = h.now; of_op = refl; of_answer = refl; of_locks = sym e })
              (at_one head c stamp t (λ (u : ℕ). story_guards.KnowsOk (only u p) f.op r.answer (l ∷ ls)) (record {
                at = at;
                flight = f;
                reply = r;
                heard = subst (λ (v : ℕ). HeardNow (only t p) at v f r) zero_it h.now_only;
                of_op = refl;
                of_answer = refl;
                of_locks = sym e;
              })) tt refl;
          settled = tt;
          just = h.since.just;
          calls = h.since.calls;
          life = h.since.life;
          patches = h.since.patches;
          marks = h.since.marks;
          handles = h.since.handles;
        };
        now = λ q. absurd (let w : [] ≡ l ∷ ls = sym q ∙ e in cc);
        learned = (refl, refl, refl, sym e, h.now);
      }

  -- the request that the reply answers is in flight, and the reply is of this life and boot
  pub record Finds (p : List Line) (n t : ℕ) (r : ReplyTo) (f : Flight) : Type 0 where
    pub sent : Sent p n (Target t) (Client c) (message.Reply r)
    pub flying : In f (flights_at c t p)
    pub xid : f.xid ≡ r.xid.0
    pub who : r.who ≡ life_at c p
    pub boot : r.boot ≡ (import_at c t p).boot
    pub fits : answer_fits f.op r.answer ≡ true

  module _ (p : List Line) (n t : ℕ) (r : ReplyTo) (f : Flight) (s : Starts head c stamp p) (found : Finds p n t r f) where
    abbrev pub p1 : List Line
    p1 = line at (Take n (Target t) (message.Reply r)) ∷ p

    abbrev pub p2 : List Line
    p2 = line at (Heard t f r) ∷ p1

    abbrev pub locks : List Lock
    locks = brought f.op r

    abbrev pub p3 : List Line
    p3 = with_turn at (holds t (size_with r.answer) r.seen locks) p2

    abbrev pub p4 : List Line
    p4 = with_turn at (learns t f.op r.answer r.locks) p3

    abbrev pub es : List Entry
    es = Heard t f r ∷ holds t (size_with r.answer) r.seen locks ++ learns t f.op r.answer r.locks

    pub es_so : with_turn at es p1 ≡ p4
    es_so = turn_more at (holds t (size_with r.answer) r.seen locks) (learns t f.op r.answer r.locks) p2

    pub asks_what : IsSimple f.op ⊎ ((0 < t) × (IsLock f.op ⊎ IsBytes f.op))
    asks_what = asked_parts t f.op (flights_asked (the_head head c stamp) c t p s.grown f found.flying)

    was : Was (only t p) (Target t) (Client c) (message.Reply r)
    was = told_by_target p n t (Client c) (message.Reply r) found.sent

    pub bare : 0 < t → r.locks ≡ []
    bare high = reply_bare (the_head head c stamp) t p s.grown high (Target t) (Client c) r was

    -- locks on names come from the metadata target alone
    pub first : (t ≡ 0) ⊎ (r.locks ≡ [])
    first = by (nat_eq t 0) refl
      where
        high : (t : ℕ) → nat_eq t 0 ≡ false → 0 < t
        high t e = grind (arith, nat_tests, e)

        by : (b : Bool) → nat_eq t 0 ≡ b → (t ≡ 0) ⊎ (r.locks ≡ [])
        by true e = inl (eqb-true t 0 e)
        by false e = inr (bare (high t e))

    differ : Differ locks
    differ = by asks_what
      where
        -- nothing else comes beside the answer of another target
        other : 0 < t → Differ locks
        other high = subst (λ (ls : List Lock). Differ (ls ++ granted_lock f.op r r.answer)) (sym (bare high)) (one_differs f.op r r.answer)

        by : IsSimple f.op ⊎ ((0 < t) × (IsLock f.op ⊎ IsBytes f.op)) → Differ locks
        by (inl simple) = subst Differ (sym (brings_its f.op r simple))
            (reply_differs (the_head head c stamp) (only t p) (Target t) c r (grown_of (the_head head c stamp) t p s.grown) was)
        by (inr k) = other k.0

    took : Good head c at p1
    took = took_good head c stamp p n t (message.Reply r) s found.sent

    heard_good : Good head c at p2
    heard_good =
        adds head c stamp p1 (Heard t f r) took (owes_nothing p1 at (Heard t f r) tt) (first, (refl, refl, refl))
        (at_one head c stamp t (λ (u : ℕ). story_guards.HeardOk (only u p1) c f r) (record {
          from = t;
          was = was_only t p1 (Target t) (Client c) (message.Reply r) (self t)
              (sent_was p n (Target t) (Client c) (message.Reply r) found.sent);
          flying = subst (λ (fs : List Flight). In f fs) (flights_now (the_head head c stamp) c t p1 took.grown) found.flying;
          xid = found.xid;
          who = found.who ∙ life_is_of c t p1;
          boot = found.boot ∙ known_is c t p1;
          fits = found.fits;
        })) tt refl

    held_now : held_at c p2 ≡ with_brought t locks (held_at c p)
    held_now = held_line head c stamp p1 (Heard t f r)

    shows : Showing t f r p locks p2
    shows =
        record {
          since = record {
            good = heard_good;
            settled = tt;
            just = (refl, refl, refl);
            calls = λ slot. call_line head c stamp slot p1 (Heard t f r);
            life = refl;
            patches = refl;
            marks = ap (λ (b : Bool). if b then heeds_marks t f.op r.answer (held_at c p) else marks_of c p) (self c);
            handles = s.between.handles;
          };
          now = (refl, refl, refl, refl);
          now_only = subst (λ (q : List Line). HeardNow q at t f r) (sym (only_line t (Heard t f r) p1 (self t))) (refl, refl, refl, refl);
          learned = λ e. (refl, refl, refl, refl, e);
          held = λ l i. subst (λ (hs : List HeldLock). In (held_as t l false) hs) (sym held_now)
              (brought_in t l locks (held_at c p) differ i);
          differ = differ;
          among = λ l i. i;
          owing = (
            learns t f.op r.answer r.locks ++ heeds_marks t f.op r.answer (held_at c p),
            ap (λ (b : Bool). if b then owes t f r (held_at c p) else owed_of c p) (self c)
                ∙ append_assoc (holds t (size_with r.answer) r.seen locks) (learns t f.op r.answer r.locks)
                (heeds_marks t f.op r.answer (held_at c p)),
          );
        }

    pub is_heard : IsHeard t f r p p4
    is_heard = learns_good t f r p r.locks p3 first refl (holds_good t f r p locks p2 shows)

    -- where one lock came, beside the locks of the reply, it is held
    pub one_held : 0 < t → (lock : Lock) → locks ≡ lock ∷ [] → In (held_as t lock false) (held_at c p4)
    one_held high lock e = subst (λ (ls : List Lock). In (held_as t lock false) (held_at c (with_turn at (learns t f.op r.answer ls) p3)))
        (sym (bare high)) shown
      where
        shown : In (held_as t lock false) (held_at c p3)
        shown =
            subst (λ (ls : List Lock). In (held_as t lock false) (held_at c (with_turn at (holds t (size_with r.answer) r.seen ls) p2)))
            (sym e)
            (subst (λ (hs : List HeldLock). In (held_as t lock false) hs) (sym (held_so t r lock p2))
            (with_self (held_as t lock false) (held_at c p2)))

    -- and without a mark
    pub one_unmarked : 0 < t → (lock : Lock) → locks ≡ lock ∷ [] → came_marked c (named (record { 0 = t }) lock.cookie) p4 ≡ false
    one_unmarked high lock e =
        subst (λ (ls : List Lock). came_marked c (named (record { 0 = t }) lock.cookie) (with_turn at (learns t f.op r.answer ls) p3)
        ≡ false) (sym (bare high))
        (subst (λ (ls : List Lock). came_marked c (named (record { 0 = t }) lock.cookie)
        (with_turn at (holds t (size_with r.answer) r.seen ls) p2) ≡ false) (sym e) (rw (self c, self t, self lock.cookie.0) refl))

    -- and where none came all is held that was
    pub none_held : 0 < t → locks ≡ [] → held_at c p4 ≡ held_at c p
    none_held high e =
        subst (λ (ls : List Lock). held_at c (with_turn at (learns t f.op r.answer ls) p3) ≡ held_at c p) (sym (bare high))
        (subst (λ (ls : List Lock). held_at c (with_turn at (holds t (size_with r.answer) r.seen ls) p2) ≡ held_at c p) (sym e)
        (held_now ∙ ap (λ (ls : List Lock). with_brought t ls (held_at c p)) e))
