-- Lines that leave all that a target has decided of an object, and entries that leave what a story says of it: the ties last over both.
use Rattle.std.proofs.Common.{◌≡◌, ◌∙◌, ℕ, ◌≤◌, Bool, true, false, List, ◌∷◌, Option, Some, None, ◌⊎◌, inl, inr, ⊎_elim, refl, sym, subst}
use Rattle.std.proofs.Common.{ap, arith}
use Rattle.std.specs.Prelude.{if◌then◌else◌, option_map}
use Rattle.lu_base.specs.declared.locks.Lock.{Lock as TableLock}
use Rattle.lu_base.specs.declared.locks.Resource.{Resource}
use Rattle.lu_spec_client.specs.Caches.{brought}
use Rattle.lu_msg.specs.declared.operations.Op.{Op as TableOp}
use Rattle.lu_msg.specs.declared.operations.Op.TheVariants as op
use Rattle.lu_base.specs.declared.ids.Who.{Who}
use Rattle.lu_spec_entries.specs.Carried.{Deed}
use Rattle.lu_spec_entries.specs.Words.{Line}
use Rattle.lu_spec_target.specs.Lives.{is_life}
use Rattle.lu_proof_lawful.specs.Covered.TargetStates.{server_of, evicted_of, shown_of, closed_of}
use Rattle.lu_proof_lawful.specs.Covered.TargetCloses.{is_lost}
use Rattle.lu_proof_lawful.specs.Covered.Heads.{Head}
use Rattle.lu_proof_lawful.proofs.Preconditions.Guards.{In}
use Rattle.lu_proof_lawful.proofs.Preconditions.StoryGuards.{IsServing}
use Rattle.lu_proof_lawful.proofs.Invariants.TargetGroups.{Acted, Promoted, tells_wait, Gave, Counts}
use Rattle.lu_proof_bytes.specs.Object.Words as words
use Rattle.lu_proof_bytes.specs.Object.Words.{Lock, Answer, Entry, Grant, Wait, Promote, Acts, Txn, Release, Evict, Commit, Close}
use Rattle.lu_proof_bytes.specs.Object.Folds.{IsGranted, IsWaiting, Answered}
use Rattle.lu_proof_bytes.specs.Object.Folds as says
use Rattle.lu_proof_lawful.specs.Projection.Locks.{lock_of, given}
use Rattle.lu_proof_lawful.specs.Projection.Locks as found
use Rattle.lu_proof_lawful.specs.Projection.Requests.{op_of}
use Rattle.lu_proof_lawful.specs.Projection.Stories.{with_entry}
use Rattle.lu_proof_lawful.proofs.Refinement.TiedAsked.{IsOn, HasLock}
use Rattle.lu_proof_lawful.proofs.Refinement.TiedTarget.{CommittedAs, GivenOn, StandsThere, GrantedOn, QueuedOn, AnsweredBy, TargetBy}

-- ---- the past

-- nothing is given beside what was
pub record GivesSame (past new : List Line) : Type 0 where
  pub gave : (d : Deed) (l : TableLock) → Gave past d l → Gave new d l
  pub back : (d : Deed) (l : TableLock) → Gave new d l → Gave past d l

-- nothing else is done, and nothing more is lost
pub record DoesSame (osts : ℕ) (past new : List Line) : Type 0 where
  pub acted : (d : Deed) → Acted past d → Acted new d
  pub back : (d : Deed) → Acted new d → Acted past d
  pub closed : closed_of new ≡ closed_of past
  pub lost : (n : ℕ) → is_lost osts new n ≡ is_lost osts past n

-- the same locks are granted; those of lives that left are shown, while the target serves
pub record GrantsSame (osts : ℕ) (past new : List Line) : Type 0 where
  pub granted : (server_of osts new).granted ≡ (server_of osts past).granted
  pub evicted : evicted_of new ≡ evicted_of past
  pub shown : (d : Deed) (l : TableLock) → Gave past d l → (IsServing osts past → In l (shown_of past)) → IsServing osts new
      → In l (shown_of new)

pub counts_same : (osts : ℕ) (past new : List Line) → closed_of new ≡ closed_of past → ((n : ℕ) → is_lost osts new n ≡ is_lost osts past n)
    → (d : Deed) → Counts osts past d → Counts osts new d
counts_same osts past new closed lost d (inl e) = inl (e ∙ sym closed)
counts_same osts past new closed lost d (inr s) = inr (s.0, lost d.reply.txn.0 ∙ s.1)

pub counts_back : (osts : ℕ) (past new : List Line) → closed_of new ≡ closed_of past → ((n : ℕ) → is_lost osts new n ≡ is_lost osts past n)
    → (d : Deed) → Counts osts new d → Counts osts past d
counts_back osts past new closed lost d (inl e) = inl (e ∙ closed)
counts_back osts past new closed lost d (inr s) = inr (s.0, sym (lost d.reply.txn.0) ∙ s.1)

pub gave_from : (past new : List Line) → ((d : Deed) → Acted past d → Acted new d) → ((l : TableLock) → Promoted past l → Promoted new l)
    → (d : Deed) (l : TableLock) → Gave past d l → Gave new d l
gave_from past new acted promoted d l g = (
  acted d g.0,
  ⊎_elim (λ (i : In l (brought d.op d.reply)). inl i)
      (λ (p : Promoted past l × (tells_wait d.op d.reply.answer l.cookie.0 ≡ true)). inr (promoted l p.0, p.1))
      g.1,
)

-- ---- the story

-- a story says of the target what another one said
pub record Silent (h k : List Entry) : Type 0 where
  pub closed : says.closed k ≡ says.closed h
  pub evicted : (c : ℕ) → says.evicted c k ≡ says.evicted c h
  pub top : says.top k ≡ says.top h
  pub given : (c : ℕ) → found.given c k ≡ found.given c h
  pub granted : (m : Lock) → IsGranted h m → IsGranted k m
  pub granted_back : (m : Lock) → IsGranted k m → IsGranted h m
  pub waits : (m : Lock) → IsWaiting h m → IsWaiting k m
  pub waits_back : (m : Lock) → IsWaiting k m → IsWaiting h m
  pub answered : (c x : ℕ) (a : Answer) → Answered h c x a → Answered k c x a
  pub answered_back : (c x : ℕ) (a : Answer) → Answered k c x a → Answered h c x a

pub silent_same : (h : List Entry) → Silent h h
silent_same h =
    record {
      closed = refl;
      evicted = λ c. refl;
      top = refl;
      given = λ c. refl;
      granted = λ m i. i;
      granted_back = λ m i. i;
      waits = λ m i. i;
      waits_back = λ m i. i;
      answered = λ c x a i. i;
      answered_back = λ c x a i. i;
    }

-- an entry of a life, or of what was sent
abbrev pub OfLife : Entry → Type 0
OfLife (Grant q l s seen) = ⊥
OfLife (Wait q l) = ⊥
OfLife (Promote l) = ⊥
OfLife (Acts q a) = ⊥
OfLife (Txn n q) = ⊥
OfLife (Release k) = ⊥
OfLife (Evict c) = ⊥
OfLife (Commit n) = ⊥
OfLife (Close b lost gone) = ⊥
OfLife _ = Unit {0}

pub silent_life : (e : Entry) (h : List Entry) → OfLife e → Silent h (e ∷ h)
silent_life (Grant q l s seen) h o = absurd o
silent_life (Wait q l) h o = absurd o
silent_life (Promote l) h o = absurd o
silent_life (Acts q a) h o = absurd o
silent_life (Txn n q) h o = absurd o
silent_life (Release k) h o = absurd o
silent_life (Evict c) h o = absurd o
silent_life (Commit n) h o = absurd o
silent_life (Close b lost gone) h o = absurd o
silent_life _ h o =
    record {
      closed = refl;
      evicted = λ c. refl;
      top = refl;
      given = λ c. refl;
      granted = λ m i. i;
      granted_back = λ m i. i;
      waits = λ m i. i;
      waits_back = λ m i. i;
      answered = λ c x a i. i;
      answered_back = λ c x a i. i;
    }

-- one entry or none
pub silent_maybe : {A : Type 0} (make : A → Entry) (o : Option A) (h : List Entry) → ((a : A) → OfLife (make a))
    → Silent h (with_entry (option_map make o) h)
silent_maybe make None h of = silent_same h
silent_maybe make (Some a) h of = silent_life (make a) h (of a)

pub silent_if : (b : Bool) (h k : List Entry) → Silent h k → Silent h (if b then k else h)
silent_if true h k s = s
silent_if false h k s = silent_same h

-- ---- requests once they are there

-- no lock that was given is another one now
abbrev pub GivenStay : (h k : List Entry) → Type 0
GivenStay h k = (c : ℕ) (m : Lock) → given c h ≡ Some m → given c k ≡ Some m

pub has_stays : (h k : List Entry) (o : TableOp) → GivenStay h k → HasLock h o → HasLock k o
has_stays h k (op.Get q cookie page) stay has = (has.0, stay cookie.0 has.0 has.1)
has_stays h k _ stay has = tt

pub op_stays : (r : Resource) (h k : List Entry) (o : TableOp) → GivenStay h k → HasLock h o → op_of r k o ≡ op_of r h o
op_stays r h k (op.Get q cookie page) stay has = rw (has.1, stay cookie.0 has.0 has.1) refl
op_stays r h k _ stay has = refl

-- ---- the ties last

module _ (head : Head) (r : Resource) (past new : List Line) (h k : List Entry) (tied : TargetBy head r past h) where
  pub given_same : GivesSame past new → ((c : ℕ) → given c k ≡ given c h) → (c : ℕ) (m : Lock) → given c k ≡ Some m → GivenOn r new m
      × (m.cookie ≡ c)
  given_same g same c m e =
      let old = tied.given c m (sym (same c) ∙ e) in
      let on = old.0 in
      ((on.0, on.1, g.gave on.0 on.1 on.2, on.3, on.4), old.1)

  pub gives_same : GivesSame past new → ((c : ℕ) → given c k ≡ given c h) → (d : Deed) (l : TableLock) → Gave new d l → l.resource ≡ r
      → given l.cookie.0 k ≡ Some (lock_of l)
  gives_same g same d l gave on = same l.cookie.0 ∙ tied.gives d l (g.back d l gave) on

  stands_same : GrantsSame head.osts past new → (d : Deed) (l : TableLock) → Gave past d l → StandsThere head past l
      → StandsThere head new l
  stands_same s d l g (inl i) = inl (subst (λ (ls : List TableLock). In l ls) (sym s.granted) i)
  stands_same s d l g (inr p) = inr (subst (λ (ws : List Who). is_life l.ask.who ws ≡ true) (sym s.evicted) p.0, s.shown d l g p.1)

  pub granted_same : GrantsSame head.osts past new → ((d : Deed) (l : TableLock) → Gave past d l → Gave new d l)
      → ((m : Lock) → IsGranted k m → IsGranted h m) → (m : Lock) → IsGranted k m → GrantedOn head r new m
  granted_same s gave back m i =
      let on = tied.granted m (back m i) in
      (on.0, on.1, gave on.0 on.1 on.2, on.3, on.4, stands_same s on.0 on.1 on.2 on.5)

  pub grants_same : (server_of head.osts new).granted ≡ (server_of head.osts past).granted → ((m : Lock) → IsGranted h m → IsGranted k m)
      → (l : TableLock) → In l (server_of head.osts new).granted → l.resource ≡ r → IsGranted k (lock_of l)
  grants_same s more l i on = more (lock_of l) (tied.grants l (subst (λ (ls : List TableLock). In l ls) s i) on)

  pub waiting_same : (server_of head.osts new).queued ≡ (server_of head.osts past).queued → ((m : Lock) → IsWaiting k m → IsWaiting h m)
      → (m : Lock) → IsWaiting k m → QueuedOn head r new m
  waiting_same s back m i =
      let on = tied.waiting m (back m i) in
      (on.0, subst (λ (ls : List TableLock). In on.0 ls) (sym s) on.1, on.2, on.3)

  pub queued_same : (server_of head.osts new).queued ≡ (server_of head.osts past).queued → ((m : Lock) → IsWaiting h m → IsWaiting k m)
      → (l : TableLock) → In l (server_of head.osts new).queued → l.resource ≡ r → IsWaiting k (lock_of l)
  queued_same s more l i on = more (lock_of l) (tied.queued l (subst (λ (ls : List TableLock). In l ls) s i) on)

  pub names_same : ((d : Deed) → Acted new d → Acted past d) → GivenStay h k → (d : Deed) → Acted new d → IsOn r d.op → HasLock k d.op
  names_same back stay d a on = has_stays h k d.op stay (tied.names d (back d a) on)

  -- an answer that stood stands on
  pub answer_stays : GivenStay h k → (w x : ℕ) (a : Answer) (o : AnsweredBy head r past h w x a) → Acted new o.deed
      → Counts head.osts new o.deed → AnsweredBy head r new k w x a
  answer_stays stay w x a o acted counts =
      record {
        deed = o.deed;
        acted = acted;
        counts = counts;
        on = o.on;
        op = o.op;
        is = op_stays r h k o.deed.op stay (tied.names o.deed o.acted o.on) ∙ o.is;
        who = o.who;
        xid = o.xid;
        answer = o.answer;
      }

  pub answered_same : DoesSame head.osts past new → GivenStay h k → ((c x : ℕ) (a : Answer) → Answered k c x a → Answered h c x a)
      → (w x : ℕ) (a : Answer) → Answered k w x a → AnsweredBy head r new k w x a
  answered_same s stay back w x a i =
      let o = tied.answered w x a (back w x a i) in
      answer_stays stay w x a o (s.acted o.deed o.acted) (counts_same head.osts past new s.closed s.lost o.deed o.counts)

  -- the request of what was done is as it was
  pub op_was : GivenStay h k → (d : Deed) (o : words.Op) → Acted past d → IsOn r d.op → op_of r k d.op ≡ Some o → op_of r h d.op ≡ Some o
  op_was stay d o a on is = sym (op_stays r h k d.op stay (tied.names d a on)) ∙ is

-- ---- a line that leaves all of it

pub record Still (head : Head) (past new : List Line) : Type 0 where
  pub gives : GivesSame past new
  pub does : DoesSame head.osts past new
  pub grants : GrantsSame head.osts past new
  pub cookie : (server_of head.osts past).cookie ≤ (server_of head.osts new).cookie
  pub queued : (server_of head.osts new).queued ≡ (server_of head.osts past).queued

-- so a past that grew by nothing
pub still_same : (head : Head) (past : List Line) → Still head past past
still_same head past =
    record {
      gives = record { gave = λ d l g. g; back = λ d l g. g };
      does = record { acted = λ d a. a; back = λ d a. a; closed = refl; lost = λ n. refl };
      grants = record { granted = refl; evicted = refl; shown = λ d l g i. i };
      cookie = omega arith;
      queued = refl;
    }

pub target_same : (head : Head) (r : Resource) (past new : List Line) (h k : List Entry) → TargetBy head r past h → Still head past new
    → Silent h k → CommittedAs head new (says.committed k) → TargetBy head r new k
target_same head r past new h k tied s q committed =
    record {
      closed = q.closed ∙ tied.closed ∙ sym s.does.closed;
      evicted = λ w. q.evicted _ ∙ tied.evicted w ∙ ap (is_life w) (sym s.grants.evicted);
      committed = committed;
      top = (let same = q.top in let low = tied.top in let more = s.cookie in omega (arith, same, low, more));
      given = given_same head r past new h k tied s.gives q.given;
      gives = gives_same head r past new h k tied s.gives q.given;
      granted = granted_same head r past new h k tied s.grants s.gives.gave q.granted_back;
      grants = grants_same head r past new h k tied s.grants.granted q.granted;
      waiting = waiting_same head r past new h k tied s.queued q.waits_back;
      queued = queued_same head r past new h k tied s.queued q.waits;
      names = names_same head r past new h k tied s.does.back stay;
      answered = answered_same head r past new h k tied s.does stay q.answered_back;
      answers = λ d o a c on is. q.answered _ _ _ (tied.answers d o (s.does.back d a)
          (counts_back head.osts past new s.does.closed s.does.lost d c) on
          (op_was head r past new h k tied stay d o (s.does.back d a) on is));
    }
  where
    stay : (c : ℕ) (m : Lock) → given c h ≡ Some m → given c k ≡ Some m
    stay c m e = q.given c ∙ e
