-- What a reply leaves of the locks that a client waits for: the one that it tells to wait comes in addition, and none else; and all that is
-- to
-- be marked of the answer is marked.
use Rattle.std.proofs.Common.{◌≡◌, ℕ, ◌+◌, ◌-◌, ◌<◌, Bool, true, false, List, [], ◌∷◌, ◌++◌, ◌⊎◌, inl, inr, Option, Some, None, refl, sym}
use Rattle.std.proofs.Common.{subst, ap, ◌∙◌, arith}
use Rattle.std.specs.Prelude.{nat_eq, ◌&&◌, if◌then◌else◌}
use Rattle.std.proofs.lemmas.Bool.{eqb-true}
use Rattle.lu_base.specs.declared.ids.At.{At}
use Rattle.lu_base.specs.declared.ids.Node.TheVariants.{Client}
use Rattle.lu_base.specs.declared.ids.Stamp.{Stamp}
use Rattle.lu_base.specs.declared.ids.Who.{Who}
use Rattle.lu_base.specs.declared.ids.Cookie.{Cookie}
use Rattle.lu_base.specs.declared.locks.Extent.{Extent}
use Rattle.lu_base.specs.declared.locks.Lock.{Lock}
use Rattle.lu_base.specs.declared.locks.Mode.{Mode}
use Rattle.lu_base.specs.declared.locks.Policy.{Policy}
use Rattle.lu_base.specs.declared.locks.Policy.TheVariants.{Range}
use Rattle.lu_base.specs.declared.locks.Resource.{Resource}
use Rattle.lu_msg.specs.declared.answers.Answer.{Answer}
use Rattle.lu_msg.specs.declared.answers.Answer.TheVariants as answer
use Rattle.lu_msg.specs.declared.messages.Reply.{Reply as ReplyTo}
use Rattle.lu_msg.specs.declared.operations.Op.{Op}
use Rattle.lu_msg.specs.declared.operations.Op.TheVariants as op
use Rattle.lu_held.specs.declared.locks.HeldLock.{HeldLock}
use Rattle.lu_held.specs.declared.locks.Use.{Use}
use Rattle.lu_held.specs.Locks.{named}
use Rattle.lu_spec_entries.specs.declared.changes.Flush.TheVariants.{Cut, Put}
use Rattle.lu_spec_entries.specs.Carried.{Flight, Work, Answered, Stage, Enqueued, Waits, Gets, Running}
use Rattle.lu_spec_entries.specs.Words.{Entry, Stands, Heard, Hold, Learns, Acks, Fills, Zeroes, Grown as Grows, Shows, Line, line}
use Rattle.lu_spec_entries.specs.Words.{with_turn}
use Rattle.lu_spec_entries.specs.Concerns.{only}
use Rattle.lu_spec_client.specs.Advances.{at_stage}
use Rattle.lu_spec_client.specs.Caches.{brought, granted_lock, with_brought, held_at}
use Rattle.lu_spec_client.specs.Calls.{asks, asks_for, call_after, call_on}
use Rattle.lu_spec_client.specs.Messages.{waits_for, is_waiter, on_running, on_slot, size_with, holds, learns, waiting_lock, lock_heard}
use Rattle.lu_spec_client.specs.Messages.{enqueue_heard, fills, shows, page_under, page_heard, held_as, looks_again, heeds, hears_flight}
use Rattle.lu_spec_client.specs.States.{Client as ClientState}
use Rattle.lu_proof_lawful.specs.Covered.Calls.{call_at, calls_at, life_at}
use Rattle.lu_proof_lawful.specs.Covered.ClientStates.{is_own, brings_cookie, awaits_of}
use Rattle.lu_spec_run.specs.Heads as table
use Rattle.lu_spec_run.specs.Runs.{client_of}
use Rattle.lu_proof_lawful.proofs.Preconditions.HeedMarks.{heeds_marks, marks_left}
use Rattle.lu_proof_lawful.proofs.Preconditions.Guards.{marks_of}
use Rattle.lu_proof_lawful.proofs.Preconditions.Lists.{self, turn, turn_more, own_self}
use Rattle.lu_proof_lawful.proofs.Preconditions.Parts.{life_is_of}
use Rattle.lu_proof_lawful.proofs.Preconditions.ClientLines.{IsBytes}
use Rattle.lu_proof_lawful.proofs.Preconditions.ClientCalls.{on_small}
use Rattle.lu_proof_lawful.proofs.Preconditions.ClientGood.{call_line, held_line, followed}
use Rattle.lu_proof_lawful.proofs.Preconditions.Awaits.{lock_named, one_of, waiting_for, Awaits, count_same, asks_waiter}
use Rattle.lu_proof_lawful.proofs.Preconditions.AwaitsRows.{AllOf, IsPlain, quiet_plain, Counted, same_counts, plain_waiter, slot_awaits}
use Rattle.lu_proof_lawful.proofs.Preconditions.AwaitsTurns.{counts_one, call_there, holds_awaits}
use Rattle.lu_proof_lawful.proofs.Preconditions.AwaitsQuiet.{quiet_turn, nat_symm}

-- ---- what is heard

abbrev pub IsLockOp : Op → Type 0
IsLockOp (op.Enqueue resource mode extent) = Unit {0}
IsLockOp _ = ⊥

-- the answer tells to wait for the lock of that cookie
abbrev pub tells_wait : Op → Answer → ℕ → Bool
tells_wait (op.Enqueue resource mode extent) (answer.Waiting cookie) k = nat_eq cookie.0 k
tells_wait o a k = false

-- the call asked for the lock that it is told to wait for
pub record IsToWait (c : ℕ) (p : List Line) (t : ℕ) (f : Flight) (r : ReplyTo) : Type 0 where
  pub bare : r.locks ≡ []
  pub slot : ℕ
  pub of_slot : f.slot ≡ Some slot
  pub small : slot < 4
  pub running : Running
  pub call : call_at c slot p ≡ Some running
  pub work : Work
  pub stage : running.stage ≡ Enqueued work
  pub wanted : Use
  pub left : List Use
  pub first : work.left ≡ wanted ∷ left
  pub of_target : wanted.target.0 ≡ t

-- the metadata target lets none wait and is asked for none; of others no locks come beside the answer
abbrev pub FitsTarget : ℕ → List Line → (t : ℕ) → Flight → ReplyTo → Type 0
FitsTarget c p t f r = ((t ≡ 0) × (IsLockOp f.op → ⊥) × ((k : ℕ) → awaits_of (life_at c p) k (only t p) ≡ 0)) ⊎ (r.locks ≡ [])

pub record ReplyFits (c : ℕ) (p : List Line) (t : ℕ) (f : Flight) (r : ReplyTo) : Type 0 where
  pub target : FitsTarget c p t f r
  pub bytes : IsBytes f.op → r.locks ≡ []
  pub wait : (resource : Resource) (mode : Mode) (extent : Extent) (cookie : Cookie) → f.op ≡ op.Enqueue resource mode extent → r.answer
      ≡ answer.Waiting cookie → IsToWait c p t f r

-- another operation brings no lock that waits
no_brings : (o : Op) (a : Answer) (k : ℕ) → (IsLockOp o → ⊥) → brings_cookie o a k ≡ false
no_brings (op.Enqueue resource mode extent) a k n = absurd (n tt)
no_brings o a k n = refl

no_tells : (o : Op) (a : Answer) (k : ℕ) → (IsLockOp o → ⊥) → tells_wait o a k ≡ false
no_tells (op.Enqueue resource mode extent) a k n = absurd (n tt)
no_tells o a k n = refl

-- ---- marks

abbrev IsMarking : Entry → Type 0
IsMarking (Acks resource) = Unit {0}
IsMarking (Fills resource offset bytes) = Unit {0}
IsMarking (Zeroes resource size) = Unit {0}
IsMarking (Grows resource change) = Unit {0}
IsMarking (Shows resource cookie last) = Unit {0}
IsMarking _ = ⊥

abbrev AllMarkings : List Entry → Type 0
AllMarkings [] = Unit {0}
AllMarkings (e ∷ es) = IsMarking e × AllMarkings es

marking_plain : (e : Entry) → IsMarking e → IsPlain e
marking_plain (Acks resource) m = tt
marking_plain (Fills resource offset bytes) m = tt
marking_plain (Zeroes resource size) m = tt
marking_plain (Grows resource change) m = tt
marking_plain (Shows resource cookie last) m = tt
marking_plain e m = absurd m

shows_markings : (resource : Resource) (cookie : Cookie) (page : ℕ) (bs : List ℕ) (es : List Entry) → AllMarkings es
    → AllMarkings (shows resource cookie page bs ++ es)
shows_markings resource cookie page [] es m = m
shows_markings resource cookie page (b ∷ bs) es m = (tt, m)

under_markings : (resource : Resource) (cookie : Cookie) (page : ℕ) (bs : List ℕ) (p : Policy)
    → AllMarkings (page_under resource cookie page bs p)
under_markings resource cookie page bs (Range extent) = shows_markings resource cookie page bs (fills resource page bs extent ∷ []) (tt, tt)
under_markings resource cookie page bs p = tt

page_markings : (resource : Resource) (cookie : Cookie) (page : ℕ) (bs : List ℕ) (o : Option Lock)
    → AllMarkings (page_heard resource cookie page bs o)
page_markings resource cookie page bs None = tt
page_markings resource cookie page bs (Some l) = under_markings resource cookie page bs l.ask.policy

-- an answer that tells to wait
abbrev IsWaiting : Answer → Type 0
IsWaiting (answer.Waiting cookie) = Unit {0}
IsWaiting _ = ⊥

other_answer : (a : Answer) (k : ℕ) (resource : Resource) (mode : Mode) (extent : Extent) → (IsWaiting a → ⊥)
    → tells_wait (op.Enqueue resource mode extent) a k ≡ false
other_answer (answer.Waiting cookie) k resource mode extent n = absurd (n tt)
other_answer a k resource mode extent n = refl

module _ (head : table.Head) (c : ℕ) (stamp : Stamp) where
  abbrev at : At
  at = turn stamp (Client c)

  -- what a reply tells to wait for, or grants, is to come
  hears_awaits : (t k u : ℕ) (f : Flight) (r : ReplyTo) (p : List Line)
      → awaits_of (life_at c p) k (only u (line at (Heard t f r) ∷ p))
      ≡ (if nat_eq u t && brings_cookie f.op r.answer k then awaits_of (life_at c p) k (only u p) + 1
      else awaits_of (life_at c p) k (only u p))
  hears_awaits t k u f r p = by (nat_eq u t)
    where
      W : Who
      W = life_at c p

      mine : is_own W (only u p) (Client c) ≡ true
      mine = ap (λ (w : Who). is_own w (only u p) (Client c)) (life_is_of c u p) ∙ own_self (only u p) c

      by : (b : Bool) → awaits_of W k (if b then line at (Heard t f r) ∷ only u p else only u p)
          ≡ (if b && brings_cookie f.op r.answer k then awaits_of W k (only u p) + 1 else awaits_of W k (only u p))
      by true = ap (λ (b : Bool). if b && brings_cookie f.op r.answer k then awaits_of W k (only u p) + 1 else awaits_of W k (only u p))
          mine
      by false = refl

  -- ---- the locks of a reply

  -- after such lines the client lives, waits with each call, and has to mark as before
  record Calmly (p q : List Line) : Type 0 where
    life : life_at c q ≡ life_at c p
    calls : (s : ℕ) → call_at c s q ≡ call_at c s p
    marks : marks_of c q ≡ marks_of c p

  holds_calm : (t : ℕ) (size : Option ℕ) (seen : List ℕ) (ls : List Lock) (p : List Line) → Calmly p (with_turn at (holds t size seen ls) p)
  holds_calm t size seen [] p = record { life = refl; calls = λ s. refl; marks = refl }
  holds_calm t size seen (l ∷ ls) p = let m = holds_calm t size seen ls (line at (Hold t l false size seen) ∷ p)
      in record { life = m.life; calls = m.calls; marks = m.marks }

  learns_calm : (t : ℕ) (o : Op) (a : Answer) (ls : List Lock) (p : List Line) → Calmly p (with_turn at (learns t o a ls) p)
  learns_calm t o a [] p = record { life = refl; calls = λ s. refl; marks = refl }
  learns_calm t o a (l ∷ ls) p = record { life = refl; calls = λ s. refl; marks = refl }

  learns_awaits : (t : ℕ) (o : Op) (a : Answer) (ls : List Lock) (who : Who) (k u : ℕ) (p : List Line)
      → awaits_of who k (only u (with_turn at (learns t o a ls) p)) ≡ awaits_of who k (only u p)
  learns_awaits t o a [] who k u p = refl
  learns_awaits t o a (l ∷ ls) who k u p = by (nat_eq u t)
    where
      by : (b : Bool) → awaits_of who k (if b then line at (Learns t o a (l ∷ ls)) ∷ only u p else only u p) ≡ awaits_of who k (only u p)
      by true = refl
      by false = refl

  -- those that come where none is waited for
  holds_none : (t : ℕ) (size : Option ℕ) (seen : List ℕ) (ls : List Lock) (p : List Line)
      → ((k : ℕ) → awaits_of (life_at c p) k (only t p) ≡ 0)
      → (k u : ℕ) → awaits_of (life_at c p) k (only u (with_turn at (holds t size seen ls) p)) ≡ awaits_of (life_at c p) k (only u p)
  holds_none t size seen [] p none k u = refl
  holds_none t size seen (l ∷ ls) p none k u = holds_none t size seen ls (line at (Hold t l false size seen) ∷ p)
      (λ j. less j t (nat_eq t t && nat_eq l.cookie.0 j) (holds_awaits head c stamp t j t l false size seen p) (none j)) k u
      ∙ by (nat_eq u t) refl
    where
      less : (j v : ℕ) (b : Bool) → awaits_of (life_at c p) j (only v (line at (Hold t l false size seen) ∷ p))
          ≡ (if b then awaits_of (life_at c p) j (only v p) - 1 else awaits_of (life_at c p) j (only v p))
          → awaits_of (life_at c p) j (only v p) ≡ 0
          → awaits_of (life_at c p) j (only v (line at (Hold t l false size seen) ∷ p)) ≡ 0
      less j v true e z = e ∙ ap (λ (n : ℕ). n - 1) z
      less j v false e z = e ∙ z

      by : (b : Bool) → nat_eq u t ≡ b → awaits_of (life_at c p) k (only u (line at (Hold t l false size seen) ∷ p))
          ≡ awaits_of (life_at c p) k (only u p)
      by true q =
          let z : awaits_of (life_at c p) k (only u p) ≡ 0 = ap (λ (v : ℕ). awaits_of (life_at c p) k (only v p)) (eqb-true u t q) ∙ none k
          in
          less k u (nat_eq u t && nat_eq l.cookie.0 k) (holds_awaits head c stamp t k u l false size seen p) z ∙ sym z
      by false q = holds_awaits head c stamp t k u l false size seen p
          ∙ ap (λ (b : Bool). if b && nat_eq l.cookie.0 k then awaits_of (life_at c p) k (only u p) - 1
          else awaits_of (life_at c p) k (only u p)) q

  more_by : (n : ℕ) (b : Bool) → (if b then n + 1 else n) ≡ n + one_of b
  more_by n true = refl
  more_by n false = omega arith

  none_by : (n : ℕ) (b : Bool) → n ≡ n + one_of (b && false)
  none_by n true = omega arith
  none_by n false = omega arith

  stays_by : (n : ℕ) (b : Bool) → (if b && false then n + 1 else n) ≡ n
  stays_by n true = refl
  stays_by n false = refl

  -- one that is granted was to come just now, one that is told to wait is to come
  granted_counts : (t k u : ℕ) (f : Flight) (r : ReplyTo) (p : List Line) (o : Op) (a : Answer) (size : Option ℕ)
      → awaits_of (life_at c p) k (only u (line at (Heard t f r) ∷ p))
      ≡ (if nat_eq u t && brings_cookie o a k then awaits_of (life_at c p) k (only u p) + 1 else awaits_of (life_at c p) k (only u p))
      → awaits_of (life_at c p) k (only u (with_turn at (holds t size r.seen (granted_lock o r a)) (line at (Heard t f r) ∷ p)))
      ≡ awaits_of (life_at c p) k (only u p) + one_of (nat_eq u t && tells_wait o a k)
  granted_counts t k u f r p (op.Enqueue resource mode extent) (answer.Granted cookie given bytes) size heard =
      held (awaits_of (life_at c p) k (only u p)) (nat_eq u t) (nat_eq cookie.0 k) heard
      (holds_awaits head c stamp t k u _ false size r.seen (line at (Heard t f r) ∷ p))
    where
      held : {x y : ℕ} (n : ℕ) (b d : Bool) → x ≡ (if b && d then n + 1 else n) → y ≡ (if b && d then x - 1 else x) → y
          ≡ n + one_of (b && false)
      held n true true e f = omega (arith, e, f)
      held n true false e f = omega (arith, e, f)
      held n false d e f = omega (arith, e, f)
  granted_counts t k u f r p (op.Enqueue resource mode extent) (answer.Waiting cookie) size heard = heard
      ∙ more_by (awaits_of (life_at c p) k (only u p)) (nat_eq u t && nat_eq cookie.0 k)
  granted_counts t k u f r p (op.Enqueue resource mode extent) a size heard = heard
      ∙ stays_by (awaits_of (life_at c p) k (only u p)) (nat_eq u t) ∙ none_by (awaits_of (life_at c p) k (only u p)) (nat_eq u t)
  granted_counts t k u f r p o a size heard = heard ∙ stays_by (awaits_of (life_at c p) k (only u p)) (nat_eq u t)
      ∙ none_by (awaits_of (life_at c p) k (only u p)) (nat_eq u t)

  -- ---- after the locks of a reply

  record Since (t : ℕ) (f : Flight) (r : ReplyTo) (p q : List Line) : Type 0 where
    life : life_at c q ≡ life_at c p
    calls : (s : ℕ) → call_at c s q ≡ asks_for f.slot s (Answered t r) (call_at c s p)
    marks : marks_of c q ≡ heeds_marks t f.op r.answer (held_at c p)
    counts : (k u : ℕ) → awaits_of (life_at c p) k (only u q) ≡ awaits_of (life_at c p) k (only u p) + one_of
        (nat_eq u t && tells_wait f.op r.answer k)

  since : (t : ℕ) (f : Flight) (r : ReplyTo) (p : List Line) → FitsTarget c p t f r
      → Since t f r p (with_turn at (holds t (size_with r.answer) r.seen (brought f.op r) ++ learns t f.op r.answer r.locks)
      (line at (Heard t f r) ∷ p))
  since t f r p fits = subst (Since t f r p) (sym (turn_more at (holds t (size_with r.answer) r.seen (brought f.op r))
      (learns t f.op r.answer r.locks) p1)) (record {
        life = last.life ∙ held.life;
        calls = λ s. last.calls s ∙ held.calls s ∙ call_line head c stamp s p (Heard t f r);
        marks = last.marks ∙ held.marks ∙ ap (λ (b : Bool). if b then heeds_marks t f.op r.answer (held_at c p) else marks_of c p) (self c);
        counts = λ k u. learns_awaits t f.op r.answer r.locks (life_at c p) k u p2 ∙ by fits k u;
      })
    where
      p1 : List Line
      p1 = line at (Heard t f r) ∷ p

      p2 : List Line
      p2 = with_turn at (holds t (size_with r.answer) r.seen (brought f.op r)) p1

      held : Calmly p1 p2
      held = holds_calm t (size_with r.answer) r.seen (brought f.op r) p1

      last : Calmly p2 (with_turn at (learns t f.op r.answer r.locks) p2)
      last = learns_calm t f.op r.answer r.locks p2

      by : FitsTarget c p t f r → (k u : ℕ) → awaits_of (life_at c p) k (only u p2)
          ≡ awaits_of (life_at c p) k (only u p) + one_of (nat_eq u t && tells_wait f.op r.answer k)
      by (inr bare) k u =
          subst (λ (ls : List Lock). awaits_of (life_at c p) k (only u
          (with_turn at (holds t (size_with r.answer) r.seen (ls ++ granted_lock f.op r r.answer)) p1))
          ≡ awaits_of (life_at c p) k (only u p) + one_of (nat_eq u t && tells_wait f.op r.answer k)) (sym bare)
          (granted_counts t k u f r p f.op r.answer (size_with r.answer) (hears_awaits t k u f r p))
      by (inl z) k u =
          holds_none t (size_with r.answer) r.seen (brought f.op r) p1 (λ j. same j t ∙ z.2 j) k u
          ∙ same k u
          ∙ sym (ap (λ (b : Bool). awaits_of (life_at c p) k (only u p) + one_of (nat_eq u t && b)) (no_tells f.op r.answer k z.1)
          ∙ sym (none_by (awaits_of (life_at c p) k (only u p)) (nat_eq u t)))
        where
          same : (j v : ℕ) → awaits_of (life_at c p) j (only v p1) ≡ awaits_of (life_at c p) j (only v p)
          same j v =
              hears_awaits t j v f r p
              ∙ ap (λ (b : Bool). if nat_eq v t && b then awaits_of (life_at c p) j (only v p) + 1
              else awaits_of (life_at c p) j (only v p)) (no_brings f.op r.answer j z.1)
              ∙ stays_by (awaits_of (life_at c p) j (only v p)) (nat_eq v t)

  -- where it doesn't tell to wait, as many wait as before
  since_counted : (t : ℕ) (f : Flight) (r : ReplyTo) (p q : List Line) → Since t f r p q → ((k : ℕ) → tells_wait f.op r.answer k ≡ false)
      → Counted head c stamp p → Counted head c stamp q
  since_counted t f r p q s none counts u k =
      ap (λ (w : Who). awaits_of w k (only u q)) s.life
      ∙ s.counts k u
      ∙ ap (λ (b : Bool). awaits_of (life_at c p) k (only u p) + one_of (nat_eq u t && b)) (none k)
      ∙ sym (none_by (awaits_of (life_at c p) k (only u p)) (nat_eq u t))
      ∙ counts u k
      ∙ sym (count_same (lock_named u k) c p q (λ i. ap (is_waiter (lock_named u k)) (s.calls i)
      ∙ asks_waiter (lock_named u k) f.slot i (Answered t r) (call_at c i p)))

  -- ---- the lock that was asked for comes, or is told to wait

  came_of : (who : Who) (slot : ℕ) (r : Running) (w : Work) (a : Answer) (locks : List Lock) (wants : List Use) → (IsWaiting a → ⊥)
      → AllOf slot (lock_heard who slot r w a locks wants)
  came_of who slot r w a (l ∷ locks) wants n = ((refl, tt), tt)
  came_of who slot r w (answer.Waiting cookie) [] wants n = absurd (n tt)
  came_of who slot r w a [] wants n = tt

  came_awaits : (who : Who) (slot : ℕ) (a : Answer) (locks : List Lock) (q : List Line) (x : Option Running) → call_on slot (calls_at c q)
      ≡ x → (IsWaiting a → ⊥) → Awaits c q → Awaits c (with_turn at (on_running (enqueue_heard who a locks) slot x) q)
  came_awaits who slot a locks q None e n w = w
  came_awaits who slot a locks q (Some r) e n w = by r.stage refl
    where
      by : (x : Stage) → r.stage ≡ x → Awaits c (with_turn at (enqueue_heard who a locks slot r x) q)
      by (Enqueued work) stage = slot_awaits head c stamp slot (lock_heard who slot r work a locks work.left) q
          (came_of who slot r work a locks work.left n) (λ name. ap (is_waiter name) (call_there c slot q r e).1
          ∙ ap (waits_for name) stage) w
      by x stage = w

  on_came : (who : Who) (a : Answer) (locks : List Lock) (o : Option ℕ) (q : List Line) → (IsWaiting a → ⊥) → Awaits c q
      → Awaits c (with_turn at (on_slot (enqueue_heard who a locks) o (client_of head c q)) q)
  on_came who a locks None q n w = w
  on_came who a locks (Some slot) q n w = came_awaits who slot a locks q (call_on slot (calls_at c q)) refl n w

  waits_now : (t : ℕ) (f : Flight) (r : ReplyTo) (resource : Resource) (mode : Mode) (extent : Extent) (cookie : Cookie) (p q : List Line)
      → f.op ≡ op.Enqueue resource mode extent → r.answer ≡ answer.Waiting cookie → Since t f r p q → IsToWait c p t f r → Awaits c p
      → Awaits c (with_turn at (on_slot (enqueue_heard (life_at c q) (answer.Waiting cookie) (brought f.op r)) f.slot (client_of head c q))
      q)
  waits_now t f r resource mode extent cookie p q of_op of_answer s h a =
      subst (λ (es : List Entry). Awaits c (with_turn at es q)) (sym so) (record { counts = counts; marks = marks })
    where
      r1 : Running
      r1 = record h.running { asking = Answered t r }

      new : Running
      new = at_stage r1 (Waits h.work h.wanted.target (waiting_lock (life_at c q) cookie h.wanted) false)

      at_slot : call_at c h.slot q ≡ Some r1
      at_slot = s.calls h.slot ∙ ap (λ (o : Option ℕ). asks_for o h.slot (Answered t r) (call_at c h.slot p)) h.of_slot
          ∙ ap (λ (b : Bool). if b then asks (Answered t r) (call_at c h.slot p) else call_at c h.slot p) (self h.slot)
          ∙ ap (asks (Answered t r)) h.call

      so : on_slot (enqueue_heard (life_at c q) (answer.Waiting cookie) (brought f.op r)) f.slot (client_of head c q) ≡ Stands h.slot new
          ∷ []
      so =
          ap (λ (o : Option ℕ). on_slot (enqueue_heard (life_at c q) (answer.Waiting cookie) (brought f.op r)) o (client_of head c q))
          h.of_slot
          ∙ ap (on_running (enqueue_heard (life_at c q) (answer.Waiting cookie) (brought f.op r)) h.slot)
          (on_small c h.slot q h.small ∙ at_slot)
          ∙ ap (enqueue_heard (life_at c q) (answer.Waiting cookie) (brought f.op r) h.slot r1) h.stage
          ∙ ap (λ (ls : List Lock). lock_heard (life_at c q) h.slot r1 h.work (answer.Waiting cookie) (ls ++ granted_lock f.op r r.answer)
          h.work.left) h.bare
          ∙ ap (λ (o : Op). lock_heard (life_at c q) h.slot r1 h.work (answer.Waiting cookie) (granted_lock o r r.answer) h.work.left) of_op
          ∙ ap (λ (a : Answer). lock_heard (life_at c q) h.slot r1 h.work (answer.Waiting cookie)
          (granted_lock (op.Enqueue resource mode extent) r a) h.work.left) of_answer
          ∙ ap (lock_heard (life_at c q) h.slot r1 h.work (answer.Waiting cookie) []) h.first

      q1 : List Line
      q1 = line at (Stands h.slot new) ∷ q

      marks : marks_of c q ≡ []
      marks = s.marks ∙ ap (λ (o : Op). heeds_marks t o r.answer (held_at c p)) of_op

      now : (i : ℕ) → call_at c i q1 ≡ (if nat_eq h.slot i then Some new else call_at c i q)
      now i = call_line head c stamp i q (Stands h.slot new)

      counts : (u k : ℕ) → awaits_of (life_at c q1) k (only u q1) ≡ waiting_for (lock_named u k) (calls_at c q1)
      counts u k =
          let name = lock_named u k in
          let N = awaits_of (life_at c p) k (only u p) in
          let b = nat_eq u t && nat_eq cookie.0 k in
          let total : awaits_of (life_at c q) k (only u q) ≡ N + one_of b =
          ap (λ (w : Who). awaits_of w k (only u q)) s.life
          ∙ s.counts k u
          ∙ ap (λ (o : Op). N + one_of (nat_eq u t && tells_wait o r.answer k)) of_op
          ∙ ap (λ (a : Answer). N + one_of (nat_eq u t && tells_wait (op.Enqueue resource mode extent) a k)) of_answer in
          let old = a.counts u k in
          let same : waiting_for name (calls_at c q) ≡ waiting_for name (calls_at c p) =
          count_same name c p q (λ i. ap (is_waiter name) (s.calls i) ∙ asks_waiter name f.slot i (Answered t r) (call_at c i p)) in
          let one : waiting_for name (calls_at c q1) + one_of (is_waiter name (call_at c h.slot q))
          ≡ waiting_for name (calls_at c q) + one_of (is_waiter name (call_at c h.slot q1)) =
          counts_one name c h.slot q q1 h.small (λ i other. ap (is_waiter name)
          (now i ∙ ap (λ (b : Bool). if b then Some new else call_at c i q) other)) in
          let none : one_of (is_waiter name (call_at c h.slot q)) ≡ 0 =
          ap one_of (ap (is_waiter name) at_slot ∙ ap (waits_for name) h.stage) in
          let more : one_of (is_waiter name (call_at c h.slot q1)) ≡ one_of b =
          ap one_of (ap (is_waiter name) (now h.slot ∙ ap (λ (b : Bool). if b then Some new else call_at c h.slot q) (self h.slot))
          ∙ ap (λ (v : Bool). v && nat_eq cookie.0 k) (ap (λ (n : ℕ). nat_eq n u) h.of_target ∙ nat_symm t u)) in
          (quiet_turn c at (Stands h.slot new ∷ []) q (tt, tt)).awaits (life_at c q) k u ∙ omega (arith, total, old, same, one, none, more)

  -- ---- what is to be marked of the answer is marked

  marks_await : (es : List Entry) (q : List Line) → AllMarkings es → marks_of c q ≡ es → Counted head c stamp q
      → Awaits c (with_turn at es q)
  marks_await [] q m e counts = record { counts = counts; marks = e }
  marks_await (x ∷ es) q m e counts =
      marks_await es (line at x ∷ q) m.1 (left x m.0 ∙ ap marks_left e)
      (same_counts head c stamp q x (quiet_plain x (marking_plain x m.0)) (plain_waiter head c stamp q x (marking_plain x m.0)) counts)
    where
      left : (x : Entry) → IsMarking x → marks_of c (line at x ∷ q) ≡ marks_left (marks_of c q)
      left (Acks resource) m = ap (λ (b : Bool). if b then marks_left (marks_of c q) else marks_of c q) (self c)
      left (Fills resource offset bytes) m = ap (λ (b : Bool). if b then marks_left (marks_of c q) else marks_of c q) (self c)
      left (Zeroes resource size) m = ap (λ (b : Bool). if b then marks_left (marks_of c q) else marks_of c q) (self c)
      left (Grows resource change) m = ap (λ (b : Bool). if b then marks_left (marks_of c q) else marks_of c q) (self c)
      left (Shows resource cookie last) m = ap (λ (b : Bool). if b then marks_left (marks_of c q) else marks_of c q) (self c)
      left x m = absurd m

  marks_calls : (es : List Entry) (q : List Line) → AllMarkings es → (s : ℕ) → call_at c s (with_turn at es q) ≡ call_at c s q
  marks_calls [] q m s = refl
  marks_calls (x ∷ es) q m s = marks_calls es (line at x ∷ q) m.1 s ∙ call_line head c stamp s q x ∙ by x m.0
    where
      by : (x : Entry) → IsMarking x → call_after s (call_at c s q) x ≡ call_at c s q
      by (Acks resource) m = refl
      by (Fills resource offset bytes) m = refl
      by (Zeroes resource size) m = refl
      by (Grows resource change) m = refl
      by (Shows resource cookie last) m = refl
      by x m = absurd m

  -- a call that has its page looks again
  looks_awaits : (o : Option ℕ) (calls : List (Option Running)) (q : List Line)
      → ((s : ℕ) (r : Running) → call_on s calls ≡ Some r → call_at c s q ≡ Some r) → (k : ClientState) → k.calls ≡ calls → Awaits c q
      → Awaits c (with_turn at (on_slot looks_again o k) q)
  looks_awaits None calls q same k e a = a
  looks_awaits (Some slot) calls q same k e a = subst (λ (cs : List (Option Running)). Awaits c
      (with_turn at (on_running looks_again slot (call_on slot cs)) q)) (sym e) (by (call_on slot calls) refl)
    where
      by : (x : Option Running) → call_on slot calls ≡ x → Awaits c (with_turn at (on_running looks_again slot x) q)
      by None is = a
      by (Some r) is = stage r.stage refl
        where
          stage : (x : Stage) → r.stage ≡ x → Awaits c (with_turn at (looks_again slot r x) q)
          stage (Gets w) s = slot_awaits head c stamp slot (looks_again slot r (Gets w)) q ((refl, tt), tt)
              (λ name. ap (is_waiter name) (same slot r is) ∙ ap (waits_for name) s) a
          stage x s = a

  -- ---- all of it

  module _ (t : ℕ) (f : Flight) (r : ReplyTo) (p q : List Line) (fits : ReplyFits c p t f r)
      (held : IsBytes f.op → held_at c q ≡ held_at c p) (s : Since t f r p q) (w : Awaits c p) where
    marks_by : (o : Op) (a : Answer) → f.op ≡ o → r.answer ≡ a → marks_of c q ≡ heeds_marks t o a (held_at c p)
    marks_by o a of_op of_answer = s.marks ∙ ap (λ (x : Op). heeds_marks t x r.answer (held_at c p)) of_op
        ∙ ap (λ (x : Answer). heeds_marks t o x (held_at c p)) of_answer

    counted_by : (o : Op) (a : Answer) → f.op ≡ o → r.answer ≡ a → ((k : ℕ) → tells_wait o a k ≡ false) → Counted head c stamp q
    counted_by o a of_op of_answer none = since_counted t f r p q s
        (λ k. ap (λ (x : Op). tells_wait x r.answer k) of_op ∙ ap (λ (x : Answer). tells_wait o x k) of_answer ∙ none k) w.counts

    quiet_by : (o : Op) (a : Answer) → f.op ≡ o → r.answer ≡ a → ((k : ℕ) → tells_wait o a k ≡ false) → heeds_marks t o a (held_at c p) ≡ []
        → Awaits c q
    quiet_by o a of_op of_answer none no_marks = record {
      counts = counted_by o a of_op of_answer none;
      marks = marks_by o a of_op of_answer
          ∙ no_marks;
    }

    heeds_await : (o : Op) → f.op ≡ o → (a : Answer) → r.answer ≡ a → Awaits c (with_turn at (heeds t f o r a (client_of head c q)) q)
    heeds_await (op.Enqueue resource mode extent) of_op (answer.Waiting cookie) of_answer =
        waits_now t f r resource mode extent cookie p q of_op of_answer s (fits.wait resource mode extent cookie of_op of_answer) w
    heeds_await (op.Enqueue resource mode extent) of_op a of_answer =
        on_came (life_at c q) a (brought f.op r) f.slot q (λ v. absurd v)
        (quiet_by (op.Enqueue resource mode extent) a of_op of_answer (λ k. refl) refl)
    heeds_await (op.Get resource cookie page) of_op (answer.Content bs) of_answer =
        let es = page_heard resource cookie page bs (held_as (named (record { 0 = t }) cookie) (held_at c q)) in
        let more = on_slot looks_again f.slot (client_of head c q) in
        let q1 = with_turn at es q in
        let markings = page_markings resource cookie page bs (held_as (named (record { 0 = t }) cookie) (held_at c q)) in
        let same = held (subst IsBytes (sym of_op) tt) in
        let marks : marks_of c q ≡ es = marks_by (op.Get resource cookie page) (answer.Content bs) of_op of_answer
        ∙ ap (λ (hs : List HeldLock). page_heard resource cookie page bs (held_as (named (record { 0 = t }) cookie) hs)) (sym same) in
        subst (Awaits c) (sym (turn_more at es more q))
        (looks_awaits f.slot (calls_at c q) q1 (λ i x is. marks_calls es q markings i ∙ (call_there c i q x is).1) (client_of head c q) refl
        (marks_await es q markings marks (counted_by (op.Get resource cookie page) (answer.Content bs) of_op of_answer (λ k. refl))))
    heeds_await (op.Put resource cookie offset bs) of_op answer.Done of_answer =
        marks_await (Acks resource ∷ Fills resource offset bs ∷ Grows resource (Put offset bs) ∷ []) q (tt, (tt, (tt, tt)))
        (marks_by (op.Put resource cookie offset bs) answer.Done of_op of_answer)
        (counted_by (op.Put resource cookie offset bs) answer.Done of_op of_answer (λ k. refl))
    heeds_await (op.Cut resource cookie n) of_op answer.Done of_answer =
        marks_await (Acks resource ∷ Zeroes resource n ∷ Grows resource (Cut n) ∷ []) q (tt, (tt, (tt, tt)))
        (marks_by (op.Cut resource cookie n) answer.Done of_op of_answer)
        (counted_by (op.Cut resource cookie n) answer.Done of_op of_answer (λ k. refl))
    heeds_await o of_op a of_answer = quiet_by o a of_op of_answer (λ k. refl) refl

  none_granted : (o : Op) (r : ReplyTo) (a : Answer) → IsBytes o → granted_lock o r a ≡ []
  none_granted (op.Get resource cookie page) r a b = refl
  none_granted (op.Put resource cookie offset bs) r a b = refl
  none_granted (op.Cut resource cookie n) r a b = refl
  none_granted o r a b = absurd b

  -- no lock comes with an answer to a call on bytes
  bytes_held : (t : ℕ) (f : Flight) (r : ReplyTo) (p : List Line) → IsBytes f.op → r.locks ≡ []
      → held_at c (with_turn at (holds t (size_with r.answer) r.seen (brought f.op r) ++ learns t f.op r.answer r.locks)
      (line at (Heard t f r) ∷ p)) ≡ held_at c p
  bytes_held t f r p b bare =
      let p1 = line at (Heard t f r) ∷ p in
      let none : brought f.op r ≡ [] = ap (λ (ls : List Lock). ls ++ granted_lock f.op r r.answer) bare ∙ none_granted f.op r r.answer b in
      subst (λ (ls : List Lock). held_at c (with_turn at (holds t (size_with r.answer) r.seen ls ++ learns t f.op r.answer r.locks) p1)
      ≡ held_at c p) (sym none)
      (subst (λ (ls : List Lock). held_at c (with_turn at (learns t f.op r.answer ls) p1) ≡ held_at c p) (sym bare)
      (held_line head c stamp p (Heard t f r) ∙ ap (λ (ls : List Lock). with_brought t ls (held_at c p)) none))

  pub heard_awaits : (t : ℕ) (r : ReplyTo) (f : Flight) (p : List Line) → ReplyFits c p t f r → Awaits c p
      → Awaits c (with_turn at (hears_flight t r f (client_of head c p)) p)
  heard_awaits t r f p fits w =
      let es = Heard t f r ∷ holds t (size_with r.answer) r.seen (brought f.op r) ++ learns t f.op r.answer r.locks in
      subst (Awaits c) (sym (followed head c stamp es (heeds t f f.op r r.answer) p))
      (heeds_await t f r p (with_turn at es p) fits (λ b. bytes_held t f r p b (fits.bytes b)) (since t f r p fits.target) w f.op refl
      r.answer refl)
