-- Each lock that a target has granted has a cookie of its own, for good, and a boot has numbers and cookies left: with that what it tells
-- and
-- has granted, and what clients have of it, comes from what it did.
use Rattle.std.proofs.Common.{◌≡◌, ℕ, ◌+◌, ◌*◌, ◌<◌, ◌≤◌, Bool, true, false, List, [], ◌∷◌, ◌++◌, Option, Some, None, ◌⊎◌, inl, inr, ⊎_elim}
use Rattle.std.proofs.Common.{refl, sym, subst, ap, ◌∙◌, arith}
use Rattle.std.specs.Prelude.{nat_eq, max, not}
use Rattle.std.proofs.lemmas.Bool.{eq-eqb}
use Rattle.lu_base.specs.declared.ids.At.{At}
use Rattle.lu_base.specs.declared.ids.Cookie.{Cookie}
use Rattle.lu_base.specs.declared.ids.Node.{Node}
use Rattle.lu_base.specs.declared.ids.Node.TheVariants.{Client, Target}
use Rattle.lu_base.specs.declared.ids.Stamp.{Stamp}
use Rattle.lu_base.specs.declared.ids.Txn.{Txn as TxnOf}
use Rattle.lu_base.specs.declared.ids.Who.{Who}
use Rattle.lu_base.specs.declared.locks.Extent.{Extent}
use Rattle.lu_base.specs.declared.locks.Lock.{Lock}
use Rattle.lu_base.specs.declared.locks.Mode.{Mode}
use Rattle.lu_base.specs.declared.locks.Policy.{Policy}
use Rattle.lu_base.specs.declared.locks.Policy.TheVariants.{Bits, Range}
use Rattle.lu_base.specs.declared.locks.Resource.{Resource}
use Rattle.lu_held.specs.Locks.{same_resource}
use Rattle.lu_lock.specs.Growth.{opposing, grown_policy}
use Rattle.lu_msg.specs.declared.answers.Answer.{Answer}
use Rattle.lu_msg.specs.declared.answers.Answer.TheVariants as told
use Rattle.lu_msg.specs.declared.messages.Reply.{Reply as ReplyTo}
use Rattle.lu_msg.specs.declared.operations.Op.{Op}
use Rattle.lu_msg.specs.declared.operations.Op.TheVariants as op
use Rattle.lu_spec_entries.specs.Carried.{Deed, Flight, Disk}
use Rattle.lu_spec_entries.specs.Words.{Entry, Act, Txn, Grant, Wait, Answers, Boot, Close, Evict, Heard, Hold, Line, line}
use Rattle.lu_spec_client.specs.Caches.{held_as, granted_lock}
use Rattle.lu_spec_target.specs.Lives.{is_life}
use Rattle.lu_spec_target.specs.Names.{locks_from}
use Rattle.lu_spec_target.specs.Phase.{greatest_cookie}
use Rattle.lu_spec_target.specs.Queues.{extent_of}
use Rattle.lu_spec_target.specs.Replies.{asks_of, locks_on}
use Rattle.lu_proof_lawful.specs.Covered.ClientStates.{life_of}
use Rattle.lu_proof_lawful.specs.Covered.Deeds.{size_at, told_on}
use Rattle.lu_proof_lawful.specs.Covered.Heads.{Head}
use Rattle.lu_proof_lawful.specs.Covered.TargetStates.{Server, none, next_number, server_of}
use Rattle.lu_proof_lawful.proofs.Preconditions.Guards.{HasRange, In}
use Rattle.lu_proof_lawful.proofs.Preconditions.ClientStoryGuards.{GivenOf}
use Rattle.lu_proof_lawful.proofs.Preconditions.StoryGuards.{ActsOk, TxnsOk, AnswersOk, GrantOk, RangeOk, WaitOk, PromoteOk, BootOk}
use Rattle.lu_proof_lawful.proofs.Preconditions.StoryGuards.{HeardOk, HeldOk, EntryOf}
use Rattle.lu_proof_lawful.proofs.Preconditions.Acts.{Acted, acted, sized_answer, sized_bare, Made, made, write_answer, Responded}
use Rattle.lu_proof_lawful.proofs.Preconditions.Acts.{responded, IsNoGrant, RangeLock, range_kind, wait_kind, range_is, from_names}
use Rattle.lu_proof_lawful.proofs.Preconditions.Lists.{turn, in_append, in_filter, in_right}
use Rattle.lu_proof_lawful.proofs.Preconditions.LifeLists.{same_cookie}
use Rattle.lu_proof_lawful.proofs.Preconditions.LockLists.{Rises, in_above, above_from, rises_from, greatest_least, greatest_has, in_put}
use Rattle.lu_proof_lawful.proofs.Preconditions.TargetStory.{numbered}
use Rattle.lu_proof_lawful.proofs.Preconditions.StoryLists.{from_who}
use Rattle.lu_proof_lawful.proofs.Preconditions.Requests.{Asks, Requests, requests_start, asks_more, requests_line}
use Rattle.lu_proof_lawful.proofs.Preconditions.Has.{Has, Own, has_start, has_line, fine_more, has_more}
use Rattle.lu_proof_lawful.proofs.Preconditions.NamesGrant.{Ungranted, ungranted, Fine, Noticed}

-- some act granted it, or a line of its own: reads Act and Grant
abbrev pub Gave : List Line → Lock → Type 0
Gave [] lock = ⊥
Gave (l ∷ past) lock = elim l.entry [
  | Act d ↦ In lock d.reply.locks ⊎ Gave past lock
  | Grant k asked ↦ (k ≡ lock) ⊎ Gave past lock
  | _
      ↦ Gave past lock
]

-- it was told to wait, as it was asked for: reads Wait
abbrev pub Waited : List Line → Lock → Type 0
Waited [] lock = ⊥
Waited (l ∷ past) lock = elim l.entry [ Wait k asked ↦ (k ≡ lock) ⊎ Waited past lock | _ ↦ Waited past lock ]

-- an answer to a request of a life that grants the lock that was asked for: on the range that it was granted on
pub record GrantsLock (past : List Line) (who : Who) (n : ℕ) (a : Answer) : Type 0 where
  pub lock : Lock
  pub gave : Gave past lock
  pub of_life : lock.ask.who ≡ who
  pub kind : RangeLock lock
  pub extent : Extent
  pub asked : Asks past who n (op.Enqueue lock.resource lock.ask.mode extent)
  pub size : ℕ
  pub is : a ≡ told.Granted lock.cookie (extent_of lock) size

-- or that lets it wait
pub record WaitsLock (past : List Line) (who : Who) (n : ℕ) (a : Answer) : Type 0 where
  pub lock : Lock
  pub waited : Waited past lock
  pub of_life : lock.ask.who ≡ who
  pub extent : Extent
  pub asked : Asks past who n (op.Enqueue lock.resource lock.ask.mode extent)
  pub is : a ≡ told.Waiting lock.cookie

-- some request was answered without a printed line: reads Answers
abbrev pub Answered : List Line → Type 0
Answered [] = ⊥
Answered (l ∷ past) = elim l.entry [ Answers d ↦ Unit {0} | _ ↦ Answered past ]

-- an answer to a request of a life that grants a lock of an object, lets it wait, or says to take one
abbrev pub Grants : List Line → Who → ℕ → Answer → Type 0
Grants past who n a = GrantsLock past who n a ⊎ WaitsLock past who n a ⊎ ((a ≡ told.Lock) × Answered past)

pub gave_more : (past : List Line) (l : Line) (k : Lock) → Gave past k → Gave (l ∷ past) k
gave_more past l k g = by l.entry
  where
    by : (e : Entry) → Gave (line l.at e ∷ past) k
    by (Act d) = inr g
    by (Grant lock asked) = inr g
    by e = g

pub waited_more : (past : List Line) (l : Line) (k : Lock) → Waited past k → Waited (l ∷ past) k
waited_more past l k g = by l.entry
  where
    by : (e : Entry) → Waited (line l.at e ∷ past) k
    by (Wait lock asked) = inr g
    by e = g

answered_more : (past : List Line) (l : Line) → Answered past → Answered (l ∷ past)
answered_more past l g = by l.entry
  where
    by : (e : Entry) → Answered (line l.at e ∷ past)
    by (Answers d) = tt
    by e = g

pub grants_more : (past : List Line) (l : Line) (who : Who) (n : ℕ) (a : Answer) → Grants past who n a → Grants (l ∷ past) who n a
grants_more past l who n a (inl g) =
    inl (record {
      lock = g.lock;
      gave = gave_more past l g.lock g.gave;
      of_life = g.of_life;
      kind = g.kind;
      extent = g.extent;
      asked = asks_more past l who n (op.Enqueue g.lock.resource g.lock.ask.mode g.extent) g.asked;
      size = g.size;
      is = g.is;
    })
grants_more past l who n a (inr (inl g)) =
    inr (inl (record {
      lock = g.lock;
      waited = waited_more past l g.lock g.waited;
      of_life = g.of_life;
      extent = g.extent;
      asked = asks_more past l who n (op.Enqueue g.lock.resource g.lock.ask.mode g.extent) g.asked;
      is = g.is;
    }))
grants_more past l who n a (inr (inr e)) = inr (inr (e.0, answered_more past l e.1))

-- a range with the life that is told is the lock
ranged_same : (l : Lock) (who : Who) → l.ask.who ≡ who → RangeLock l
    → record { cookie = l.cookie; resource = l.resource; ask = record { who = who; mode = l.ask.mode; policy = Range (extent_of l) } } ≡ l
ranged_same l who own range =
    ap (λ (w : Who). record {
      cookie = l.cookie;
      resource = l.resource;
      ask =
          record { who = w; mode = l.ask.mode; policy = Range (extent_of l) };
    }) (sym own)
    ∙ ap (λ (p : Policy). record {
      cookie = l.cookie;
      resource = l.resource;
      ask =
          record { who = l.ask.who; mode = l.ask.mode; policy = p };
    }) (range_is l.ask.policy range)

-- who hears it holds that lock
pub grants_brought : (past : List Line) (r : ReplyTo) (g : GrantsLock past r.who r.xid.0 r.answer) (o : Op) → o
    ≡ op.Enqueue g.lock.resource g.lock.ask.mode g.extent → granted_lock o r r.answer ≡ g.lock ∷ []
grants_brought past r g o e =
    ap (λ (p : Op). granted_lock p r r.answer) e ∙ ap (λ (a : Answer). granted_lock (op.Enqueue g.lock.resource g.lock.ask.mode g.extent) r
    a) g.is
    ∙ ap (λ (l : Lock). l ∷ []) (ranged_same g.lock r.who g.of_life g.kind)

-- or none, where it is to wait, or the size is left to a lock
none_brought : (o : Op) (r : ReplyTo) (cookie : Cookie) → granted_lock o r (told.Waiting cookie) ≡ []
none_brought (op.Enqueue resource mode extent) r cookie = refl
none_brought o r cookie = refl

lock_brought : (o : Op) (r : ReplyTo) → granted_lock o r told.Lock ≡ []
lock_brought (op.Enqueue resource mode extent) r = refl
lock_brought o r = refl

-- ---- of a story

-- one that is granted is that which waited
pub record IsOf (asked lock : Lock) : Type 0 where
  pub resource : lock.resource ≡ asked.resource
  pub who : lock.ask.who ≡ asked.ask.who
  pub mode : lock.ask.mode ≡ asked.ask.mode
  pub range : RangeLock lock

-- a boot has no more numbers and cookies than it has room for; each lock that was granted has a cookie of its own, and so has each that was
-- told to wait, which is that of one lock that is granted later, at most
pub record Given (head : Head) (past : List Line) : Type 0 where
  pub asks : Requests head.osts past
  pub counted : (server_of head.osts past).count ≤ 4294967295
  pub top : (server_of head.osts past).cookie ≤ (server_of head.osts past).boot * 4294967296 + 4294967295
  pub low : (l : Lock) → Gave past l → l.cookie.0 ≤ (server_of head.osts past).cookie
  pub once : (l k : Lock) → Gave past l → Gave past k → l.cookie.0 ≡ k.cookie.0 → l ≡ k
  pub behind : (l : Lock) → Waited past l → (l.cookie.0 ≤ (server_of head.osts past).cookie) × RangeLock l
  pub apart : (l k : Lock) → Waited past l → Waited past k → l.cookie.0 ≡ k.cookie.0 → l ≡ k
  pub named : (l k : Lock) → Gave past l → Waited past k → l.cookie.0 ≡ k.cookie.0 → IsOf k l
  pub queued : (l : Lock) → In l (server_of head.osts past).queued → Waited past l
      × ((k : Lock) → Gave past k → k.cookie.0 ≡ l.cookie.0 → ⊥)
  pub has : Has (numbered (server_of head.osts past)) (Gave past) (Grants past) head past

pub given_start : (head : Head) → Given head []
given_start head =
    record {
      asks = requests_start head.osts;
      counted = omega arith;
      top = omega arith;
      low = λ l g. absurd g;
      once = λ l k g. absurd g;
      behind = λ l w. absurd w;
      apart = λ l k w. absurd w;
      named = λ l k g. absurd g;
      queued = λ l i. absurd i;
      has = has_start (numbered (server_of head.osts [])) (Gave []) (Grants []) head;
    }

-- what a line adds
pub record Adds (head : Head) (past : List Line) (l : Line) : Type 0 where
  pub counted : (server_of head.osts (l ∷ past)).count ≤ 4294967295
  pub top : (server_of head.osts (l ∷ past)).cookie ≤ (server_of head.osts (l ∷ past)).boot * 4294967296 + 4294967295
  pub low : (k : Lock) → Gave (l ∷ past) k → k.cookie.0 ≤ (server_of head.osts (l ∷ past)).cookie
  pub once : (j k : Lock) → Gave (l ∷ past) j → Gave (l ∷ past) k → j.cookie.0 ≡ k.cookie.0 → j ≡ k
  pub behind : (k : Lock) → Waited (l ∷ past) k → (k.cookie.0 ≤ (server_of head.osts (l ∷ past)).cookie) × RangeLock k
  pub apart : (j k : Lock) → Waited (l ∷ past) j → Waited (l ∷ past) k → j.cookie.0 ≡ k.cookie.0 → j ≡ k
  pub named : (j k : Lock) → Gave (l ∷ past) j → Waited (l ∷ past) k → j.cookie.0 ≡ k.cookie.0 → IsOf k j
  pub queued : (k : Lock) → In k (server_of head.osts (l ∷ past)).queued → Waited (l ∷ past) k
      × ((j : Lock) → Gave (l ∷ past) j → j.cookie.0 ≡ k.cookie.0 → ⊥)
  pub numbers : numbered (server_of head.osts past) ≤ numbered (server_of head.osts (l ∷ past))
  pub own : Own (numbered (server_of head.osts (l ∷ past))) (Gave (l ∷ past)) (Grants (l ∷ past)) head l.entry

no_cookie : (a b : Cookie) → told.Waiting a ≡ told.Waiting b → a ≡ b
no_cookie a b e = cc

enqueue_is : (r q : Resource) (m n : Mode) (x y : Extent) → op.Enqueue r m x ≡ op.Enqueue q n y → (r ≡ q) × (m ≡ n)
enqueue_is r q m n x y e = (ap resource_in e, ap mode_in e)
  where
    resource_in : Op → Resource
    resource_in (op.Enqueue resource mode extent) = resource
    resource_in o = r

    mode_in : Op → Mode
    mode_in (op.Enqueue resource mode extent) = mode
    mode_in o = m

-- the lock that a promoted one was waits still, and differs from it in its range alone
pub promoted_waits : (osts : ℕ) (past : List Line) (lock : Lock) (ok : PromoteOk osts past lock) → In ok.asked (server_of osts past).queued
promoted_waits osts past lock ok =
    (in_filter (λ (k : Lock). same_resource k.resource lock.resource) ok.asked (server_of osts past).queued
    (subst (λ (ls : List Lock). In ok.asked ls) (sym ok.queue) (in_right ok.asked ok.ahead (ok.asked ∷ ok.later) (inl refl)))).0

pub promoted_is : (head : Head) (past : List Line) → Given head past → (lock : Lock) (ok : PromoteOk head.osts past lock)
    → IsOf ok.asked lock
promoted_is head past h lock ok =
    record {
      resource = ap (λ (k : Lock). k.resource) ok.of_lock;
      who = ap (λ (k : Lock). k.ask.who) ok.of_lock;
      mode = ap (λ (k : Lock). k.ask.mode) ok.of_lock;
      range = subst (λ (k : Lock). RangeLock k) (sym ok.of_lock)
          (grown_range ok.asked.ask.policy (h.behind ok.asked (h.queued ok.asked (promoted_waits head.osts past lock ok)).0).1);
    }
  where
    grown_range : (p : Policy) → HasRange p → HasRange (grown_policy p
        (opposing ok.asked.ask.mode (asks_of (locks_on ok.asked.resource (server_of head.osts past).granted)))
        (opposing ok.asked.ask.mode (asks_of (ok.ahead ++ ok.later))))
    grown_range (Range extent) r = tt
    grown_range (Bits bits) r = absurd r

-- an entry of a target that answers nothing, grants no lock and begins no boot
abbrev Quiet : Entry → Type 0
Quiet (Act d) = ⊥
Quiet (Txn d) = ⊥
Quiet (Grant lock asked) = ⊥
Quiet (Wait lock d) = ⊥
Quiet (Answers d) = ⊥
Quiet (Boot boot disk) = ⊥
Quiet (Heard target flight reply) = ⊥
Quiet (Hold target lock marked size seen) = ⊥
Quiet _ = Unit {0}

module _ (head : Head) (past : List Line) (stamp : Stamp) (h : Given head past) where
  abbrev s : Server
  s = server_of head.osts past

  abbrev Next : Node → Entry → Type 0
  Next node e = Adds head past (line (turn stamp node) e)

  -- ---- at the metadata target, and of what is told without a lock

  adds_act : (t : ℕ) (d : Deed) → ActsOk head.osts past (turn stamp (Target t)) t d → Next (Target t) (Act d)
  adds_act t d ok =
      record {
        counted = h.counted;
        top = room ok;
        low = λ x g. ⊎_elim (λ (i : In x d.reply.locks). greatest_has s.cookie d.reply.locks x i)
            (λ (g : Gave past x). let low = h.low x g in let least = greatest_least s.cookie d.reply.locks in omega (arith, low, least)) g;
        once = once;
        behind = λ x w. let k = h.behind x w in let low = k.0 in let least = greatest_least s.cookie d.reply.locks
            in (omega (arith, low, least), k.1);
        apart = h.apart;
        named = λ x y g w e. ⊎_elim (λ (i : In x d.reply.locks). absurd
            (let up = above x i in let low = (h.behind y w).0 in omega (arith, up, low, e))) (λ (g : Gave past x). h.named x y g w e) g;
        queued = λ x i. let q = h.queued x i in (
          q.0,
          λ y g e. ⊎_elim
              (λ (j : In y d.reply.locks). let up = above y j in let low = (h.behind x q.0).0 in omega (arith, up, low, e))
              (λ (g : Gave past y). q.1 y g e) g,
        );
        numbers = omega arith;
        own = fine;
      }
    where
      here : At
      here = turn stamp (Target t)

      a : Acted head.osts past here d
      a = acted head.osts past here t d ok

      locks : d.reply.locks ≡ locks_from s.cookie a.request.who a.wants
      locks = a.locks

      -- what is told of a size needs no room
      room : ActsOk head.osts past here t d → greatest_cookie s.cookie d.reply.locks ≤ s.boot * 4294967296 + 4294967295
      room (inl k) = k.1.room
      room (inr k) = subst (λ (ls : List Lock). greatest_cookie s.cookie ls ≤ s.boot * 4294967296 + 4294967295)
          (sym (sized_bare head.osts past here d k.1)) h.top

      answers : ActsOk head.osts past here t d → Ungranted d.reply.answer
      answers (inl k) = subst (λ (y : Deed). Ungranted y.reply.answer) (sym k.1.is)
          (ungranted head.osts s.tree none k.1.request.who k.1.request.op)
      answers (inr k) = subst Ungranted (sym (sized_answer head.osts past here d k.1)) tt

      from : (x : Lock) → In x d.reply.locks → In x (locks_from s.cookie a.request.who a.wants)
      from x i = subst (λ (ls : List Lock). In x ls) locks i

      fine : Fine (numbered s) (Gave (line here (Act d) ∷ past)) (Grants (line here (Act d) ∷ past)) d.reply
      fine =
          record {
            number = let zero : d.reply.txn.0 ≡ 0 = ap (λ (x : TxnOf). x.0) a.number in omega (arith, zero);
            locks = λ x i. (
              inl i,
              from_who x s.cookie a.request.who a.wants (from x i) ∙ sym a.who,
              (from_names s.cookie a.request.who a.wants x (from x i)).1,
            );
            answer = inl (answers ok);
          }

      above : (x : Lock) → In x d.reply.locks → s.cookie < x.cookie.0
      above x i = in_above s.cookie (locks_from s.cookie a.request.who a.wants) x
          (above_from s.cookie s.cookie a.request.who a.wants (omega arith)) (from x i)

      once : (x y : Lock) → In x d.reply.locks ⊎ Gave past x → In y d.reply.locks ⊎ Gave past y → x.cookie.0 ≡ y.cookie.0 → x ≡ y
      once x y (inl i) (inl j) e = same_cookie d.reply.locks x y (subst Rises (sym locks) (rises_from s.cookie a.request.who a.wants)) i j e
      once x y (inl i) (inr g) e = let up = above x i in let low = h.low y g in absurd (omega (arith, up, low, e))
      once x y (inr g) (inl i) e = let up = above y i in let low = h.low x g in absurd (omega (arith, up, low, e))
      once x y (inr g) (inr k) e = h.once x y g k e

  adds_txn : (t : ℕ) (d : Deed) → TxnsOk head.osts past (turn stamp (Target t)) t d → Next (Target t) (Txn d)
  adds_txn t d ok =
      let m : Made head.osts past (turn stamp (Target t)) d = made head.osts past (turn stamp (Target t)) t d ok in
      record {
        counted = let low = m.numbers in omega (arith, low);
        top = h.top;
        low = h.low;
        once = h.once;
        behind = h.behind;
        apart = h.apart;
        named = h.named;
        queued = h.queued;
        numbers = omega arith;
        own =
            record {
              number = let is : d.reply.txn.0 ≡ s.boot * 4294967296 + (s.count + 1) = ap (λ (x : TxnOf). x.0) m.number in omega (arith, is);
              locks = λ x i. absurd (subst (λ (ls : List Lock). In x ls) m.bare i);
              answer = inl (answers ok);
            };
      }
    where
      answers : TxnsOk head.osts past (turn stamp (Target t)) t d → Ungranted d.reply.answer
      answers (inl k) = subst (λ (y : Deed). Ungranted y.reply.answer) (sym k.1.is)
          (ungranted head.osts s.tree (next_number s) k.1.request.who k.1.request.op)
      answers (inr k) = subst Ungranted (sym (write_answer head.osts past (turn stamp (Target t)) d k.1)) tt

  adds_answers : (t : ℕ) (d : Deed) → AnswersOk head.osts past (turn stamp (Target t)) t d → Next (Target t) (Answers d)
  adds_answers t d ok =
      record {
        counted = h.counted;
        top = h.top;
        low = h.low;
        once = h.once;
        behind = h.behind;
        apart = h.apart;
        named = h.named;
        queued = h.queued;
        numbers = omega arith;
        own = subst (λ (y : Deed). Fine (numbered s) (Gave new) (Grants new) y.reply) (sym r.is)
            (record { number = omega arith; locks = λ x i. absurd i; answer = fine r.answer r.no_grant });
      }
    where
      r : Responded head.osts past (turn stamp (Target t)) t d
      r = responded head.osts past (turn stamp (Target t)) t d ok

      new : List Line
      new = line (turn stamp (Target t)) (Answers d) ∷ past

      fine : (a : Answer) → IsNoGrant a → Ungranted a ⊎ Grants new r.request.who r.request.xid.0 a
      fine (told.Granted cookie extent size) n = absurd n
      fine (told.Waiting cookie) n = absurd n
      fine told.Lock n = inr (inr (inr (refl, tt)))
      fine a n = inl tt

  -- a lock that is shown was granted before
  adds_shown : (t : ℕ) (lock : Lock) (d : Deed) → GrantOk head.osts past lock d → Next (Target t) (Grant lock (Some d))
  adds_shown t lock d ok =
      record {
        counted = h.counted;
        top = let top = h.top in let cookie = ok.cookie in omega (arith, top, cookie);
        low = λ x g. let low = h.low x (was x g) in omega (arith, low);
        once = λ x y g k e. h.once x y (was x g) (was y k) e;
        behind = λ x w. let k = h.behind x w in let low = k.0 in (omega (arith, low), k.1);
        apart = h.apart;
        named = λ x y g w e. h.named x y (was x g) w e;
        queued = λ x i. let q = h.queued x (in_filter (λ (k : Lock). not (nat_eq k.cookie.0 lock.cookie.0)) x s.queued i).0
            in (q.0, λ y g e. q.1 y (was y g) e);
        numbers = omega arith;
        own = (
          fine_more (numbered s) (numbered s) (Gave past) (Gave new) (Grants past) (Grants new) (omega arith) (gave_more past shows)
              (grants_more past shows) d.reply (h.has.slots d.reply.who d.tag d.reply ok.slot),
          inl refl,
        );
      }
    where
      shows : Line
      shows = line (turn stamp (Target t)) (Grant lock (Some d))

      new : List Line
      new = shows ∷ past

      gave : Gave past lock
      gave = h.has.granted lock (subst (λ (ls : List Lock). In lock ls) ok.granted (in_put lock s.granted))

      was : (x : Lock) → (lock ≡ x) ⊎ Gave past x → Gave past x
      was x (inl e) = subst (Gave past) e gave
      was x (inr g) = g

  -- ---- a lock on an object

  -- who asks for one gets the next one
  adds_range : (t : ℕ) (lock : Lock) (d : Deed) → RangeOk head.osts past (turn stamp (Target t)) lock d
      → Next (Target t) (Grant lock (Some d))
  adds_range t lock d ok =
      record {
        counted = h.counted;
        top = let top = h.top in let room = ok.room in omega (arith, top, room, cookie);
        low = λ x g. ⊎_elim (λ (e : lock ≡ x). subst (λ (k : Lock). k.cookie.0 ≤ max s.cookie lock.cookie.0) e (omega arith))
            (λ (g : Gave past x). let low = h.low x g in omega (arith, low)) g;
        once = once;
        behind = λ x w. let k = h.behind x w in let low = k.0 in (omega (arith, low), k.1);
        apart = h.apart;
        named = λ x y g w e. ⊎_elim (λ (i : lock ≡ x). absurd (above x i y w e)) (λ (g : Gave past x). h.named x y g w e) g;
        queued = λ x i. let q = h.queued x (in_filter (λ (k : Lock). not (nat_eq k.cookie.0 lock.cookie.0)) x s.queued i).0
            in (q.0, λ y g e. ⊎_elim (λ (j : lock ≡ y). above y j x q.0 e) (λ (g : Gave past y). q.1 y g e) g);
        numbers = omega arith;
        own = (subst (λ (y : Deed). Fine (numbered s) (Gave new) (Grants new) y.reply) (sym ok.is) fine, inl refl);
      }
    where
      new : List Line
      new = line (turn stamp (Target t)) (Grant lock (Some d)) ∷ past

      cookie : lock.cookie.0 ≡ s.cookie + 1
      cookie = ap (λ (k : Lock). k.cookie.0) ok.of_lock

      -- it has another cookie than all that were told to wait
      above : (x : Lock) → lock ≡ x → (y : Lock) → Waited past y → x.cookie.0 ≡ y.cookie.0 → ⊥
      above x i y w e = let is : lock.cookie.0 ≡ x.cookie.0 = ap (λ (k : Lock). k.cookie.0) i in let low = (h.behind y w).0
          in omega (arith, is, low, e, cookie)

      fine : Fine (numbered s) (Gave new) (Grants new) (told_on s (turn stamp (Target t)) ok.request none []
          (told.Granted lock.cookie (extent_of lock) (size_at s ok.resource))).reply
      fine =
          record {
            number = omega arith;
            locks = λ x i. absurd i;
            answer = inr (inl (record {
              lock = lock;
              gave = inl refl;
              of_life = ap (λ (k : Lock). k.ask.who) ok.of_lock;
              kind = range_kind head.osts past (turn stamp (Target t)) lock d ok;
              extent = ok.extent;
              asked =
                  subst (λ (r : Resource). Asks past ok.request.who ok.request.xid.0 (op.Enqueue r lock.ask.mode ok.extent))
                  (ap (λ (k : Lock). k.resource) (sym ok.of_lock))
                  (subst (λ (m : Mode). Asks past ok.request.who ok.request.xid.0 (op.Enqueue ok.resource m ok.extent))
                  (ap (λ (k : Lock). k.ask.mode) (sym ok.of_lock))
                  (subst (Asks past ok.request.who ok.request.xid.0) ok.of_op (h.asks.waits ok.request ok.waits)));
              size = size_at s ok.resource;
              is = refl;
            }));
          }

      once : (x y : Lock) → (lock ≡ x) ⊎ Gave past x → (lock ≡ y) ⊎ Gave past y → x.cookie.0 ≡ y.cookie.0 → x ≡ y
      once x y (inl i) (inl j) e = sym i ∙ j
      once x y (inl i) (inr g) e = let is : lock.cookie.0 ≡ x.cookie.0 = ap (λ (k : Lock). k.cookie.0) i in let low = h.low y g
          in absurd (omega (arith, is, low, e, cookie))
      once x y (inr g) (inl j) e = let is : lock.cookie.0 ≡ y.cookie.0 = ap (λ (k : Lock). k.cookie.0) j in let low = h.low x g
          in absurd (omega (arith, is, low, e, cookie))
      once x y (inr g) (inr k) e = h.once x y g k e

  -- or is told to wait for it
  adds_wait : (t : ℕ) (lock : Lock) (d : Deed) → WaitOk head.osts past (turn stamp (Target t)) lock d → Next (Target t) (Wait lock d)
  adds_wait t lock d ok =
      record {
        counted = h.counted;
        top = let top = h.top in let room = ok.room in omega (arith, top, room, cookie);
        low = λ x g. let low = h.low x g in omega (arith, low);
        once = h.once;
        behind = λ x w. ⊎_elim (λ (e : lock ≡ x). subst (λ (k : Lock). (k.cookie.0 ≤ max s.cookie lock.cookie.0) × RangeLock k) e
            (omega arith, wait_kind head.osts past (turn stamp (Target t)) lock d ok))
            (λ (w : Waited past x). let k = h.behind x w in let low = k.0 in (omega (arith, low), k.1)) w;
        apart = apart;
        named = λ x y g w e. ⊎_elim (λ (i : lock ≡ y). absurd (above y i x g (sym e))) (λ (w : Waited past y). h.named x y g w e) w;
        queued = λ x i. ⊎_elim
            (λ (j : In x s.queued). let q = h.queued x j in (inr q.0, q.1))
            (λ (j : In x (lock ∷ [])). ⊎_elim (λ (e : lock ≡ x). (inl e, λ y g same. above x e y g (sym same))) (λ (k : ⊥). absurd k) j)
            (in_append x s.queued (lock ∷ []) i);
        numbers = omega arith;
        own = subst (λ (y : Deed). Fine (numbered s) (Gave new) (Grants new) y.reply) (sym ok.is) fine;
      }
    where
      new : List Line
      new = line (turn stamp (Target t)) (Wait lock d) ∷ past

      cookie : lock.cookie.0 ≡ s.cookie + 1
      cookie = ap (λ (k : Lock). k.cookie.0) ok.of_lock

      above : (x : Lock) → lock ≡ x → (y : Lock) → Gave past y → x.cookie.0 ≡ y.cookie.0 → ⊥
      above x i y g e = let is : lock.cookie.0 ≡ x.cookie.0 = ap (λ (k : Lock). k.cookie.0) i in let low = h.low y g
          in omega (arith, is, low, e, cookie)

      later : (x : Lock) → lock ≡ x → (y : Lock) → Waited past y → x.cookie.0 ≡ y.cookie.0 → ⊥
      later x i y w e = let is : lock.cookie.0 ≡ x.cookie.0 = ap (λ (k : Lock). k.cookie.0) i in let low = (h.behind y w).0
          in omega (arith, is, low, e, cookie)

      apart : (x y : Lock) → (lock ≡ x) ⊎ Waited past x → (lock ≡ y) ⊎ Waited past y → x.cookie.0 ≡ y.cookie.0 → x ≡ y
      apart x y (inl i) (inl j) e = sym i ∙ j
      apart x y (inl i) (inr w) e = absurd (later x i y w e)
      apart x y (inr w) (inl j) e = absurd (later y j x w (sym e))
      apart x y (inr w) (inr k) e = h.apart x y w k e

      fine : Fine (numbered s) (Gave new) (Grants new) (told_on s (turn stamp (Target t)) ok.request none []
          (told.Waiting lock.cookie)).reply
      fine =
          record {
            number = omega arith;
            locks = λ x i. absurd i;
            answer = inr (inr (inl (record {
              lock = lock;
              waited = inl refl;
              of_life = ap (λ (k : Lock). k.ask.who) ok.of_lock;
              extent = ok.extent;
              asked =
                  subst (λ (r : Resource). Asks past ok.request.who ok.request.xid.0 (op.Enqueue r lock.ask.mode ok.extent))
                  (ap (λ (k : Lock). k.resource) (sym ok.of_lock))
                  (subst (λ (m : Mode). Asks past ok.request.who ok.request.xid.0 (op.Enqueue ok.resource m ok.extent))
                  (ap (λ (k : Lock). k.ask.mode) (sym ok.of_lock))
                  (subst (Asks past ok.request.who ok.request.xid.0) ok.of_op (h.asks.waits ok.request ok.waits)));
              is = refl;
            })));
          }

  -- one that waited is granted: it wasn't before
  adds_promote : (t : ℕ) (lock : Lock) → PromoteOk head.osts past lock → Next (Target t) (Grant lock None)
  adds_promote t lock ok =
      record {
        counted = h.counted;
        top = let top = h.top in let low = behind.0 in omega (arith, top, low, cookie);
        low = λ x g. ⊎_elim (λ (e : lock ≡ x). subst (λ (k : Lock). k.cookie.0 ≤ max s.cookie lock.cookie.0) e (omega arith))
            (λ (g : Gave past x). let low = h.low x g in omega (arith, low)) g;
        once = once;
        behind = λ x w. let k = h.behind x w in let low = k.0 in (omega (arith, low), k.1);
        apart = h.apart;
        named = named;
        queued = λ x i.
            let f = in_filter (λ (k : Lock). not (nat_eq k.cookie.0 lock.cookie.0)) x s.queued i in
            let q = h.queued x f.0 in (
              q.0,
              λ y g e. ⊎_elim (λ (j : lock ≡ y). let same : lock.cookie.0 ≡ y.cookie.0 = ap (λ (k : Lock). k.cookie.0) j in let other =
                  f.1 in let t : nat_eq x.cookie.0 lock.cookie.0 ≡ true = eq-eqb x.cookie.0 lock.cookie.0 (sym (same ∙ e))
                  in absurd (let n : not (nat_eq x.cookie.0 lock.cookie.0) ≡ false = ap not t in cc)) (λ (g : Gave past y). q.1 y g e) g,
            );
        numbers = omega arith;
        own = inl refl;
      }
    where
      was : Waited past ok.asked × ((k : Lock) → Gave past k → k.cookie.0 ≡ ok.asked.cookie.0 → ⊥)
      was = h.queued ok.asked (promoted_waits head.osts past lock ok)

      behind : (ok.asked.cookie.0 ≤ s.cookie) × RangeLock ok.asked
      behind = h.behind ok.asked was.0

      cookie : lock.cookie.0 ≡ ok.asked.cookie.0
      cookie = ap (λ (k : Lock). k.cookie.0) ok.of_lock

      is : IsOf ok.asked lock
      is = promoted_is head past h lock ok

      once : (x y : Lock) → (lock ≡ x) ⊎ Gave past x → (lock ≡ y) ⊎ Gave past y → x.cookie.0 ≡ y.cookie.0 → x ≡ y
      once x y (inl i) (inl j) e = sym i ∙ j
      once x y (inl i) (inr g) e = absurd (was.1 y g (sym e ∙ ap (λ (k : Lock). k.cookie.0) (sym i) ∙ cookie))
      once x y (inr g) (inl j) e = absurd (was.1 x g (e ∙ ap (λ (k : Lock). k.cookie.0) (sym j) ∙ cookie))
      once x y (inr g) (inr k) e = h.once x y g k e

      named : (x y : Lock) → (lock ≡ x) ⊎ Gave past x → Waited past y → x.cookie.0 ≡ y.cookie.0 → IsOf y x
      named x y (inl i) w e =
          let same : ok.asked ≡ y = h.apart ok.asked y was.0 w (sym cookie ∙ ap (λ (k : Lock). k.cookie.0) i ∙ e) in
          subst (λ (k : Lock). IsOf k x) same (subst (λ (k : Lock). IsOf ok.asked k) i is)
      named x y (inr g) w e = h.named x y g w e

  -- ---- boots

  adds_boot : (t boot : ℕ) (disk : Disk) → BootOk head past boot disk → Next (Target t) (Boot boot disk)
  adds_boot t boot disk ok =
      let next : boot ≡ s.boot + 1 = ok.next in
      let most = h.counted in
      let top = h.top in
      record {
        counted = omega arith;
        top = omega arith;
        low = λ x g. let low = h.low x g in omega (arith, low, top, next);
        once = h.once;
        behind = λ x w. let k = h.behind x w in let low = k.0 in (omega (arith, low, top, next), k.1);
        apart = h.apart;
        named = h.named;
        queued = h.queued;
        numbers = omega (arith, most, next);
        own = tt;
      }

  -- ---- what a client comes to hold

  -- a line that neither gives a lock nor lets one wait
  adds_client : (c : ℕ) (e : Entry) → ((k : Lock) → Gave (line (turn stamp (Client c)) e ∷ past) k → Gave past k)
      → ((k : Lock) → Waited (line (turn stamp (Client c)) e ∷ past) k → Waited past k)
      → Own (numbered s) (Gave (line (turn stamp (Client c)) e ∷ past)) (Grants (line (turn stamp (Client c)) e ∷ past)) head e
      → Next (Client c) e
  adds_client c e gave waited own =
      record {
        counted = h.counted;
        top = h.top;
        low = λ x g. h.low x (gave x g);
        once = λ x y g k q. h.once x y (gave x g) (gave y k) q;
        behind = λ x w. h.behind x (waited x w);
        apart = λ x y w k q. h.apart x y (waited x w) (waited y k) q;
        named = λ x y g w q. h.named x y (gave x g) (waited y w) q;
        queued = λ x i. let k = h.queued x i in (waited_more past (line (turn stamp (Client c)) e) x k.0, λ y g q. k.1 y (gave y g) q);
        numbers = omega arith;
        own = own;
      }

  -- a reply that grants a lock brings that lock: the request in flight is the one that it answers
  adds_heard : (c t : ℕ) (f : Flight) (r : ReplyTo) → HeardOk past c f r → Next (Client c) (Heard t f r)
  adds_heard c t f r ok = adds_client c (Heard t f r) (λ k g. g) (λ k w. w) (λ g l i. brings g l i)
    where
      new : List Line
      new = line (turn stamp (Client c)) (Heard t f r) ∷ past

      same : (o : Op) → Asks past r.who r.xid.0 o → f.op ≡ o
      same o asked =
          let flies : Asks past r.who r.xid.0 f.op = subst (λ (n : ℕ). Asks past r.who n f.op) ok.xid
          (subst (λ (w : Who). Asks past w f.xid f.op) (sym ok.who) (h.asks.flying (life_of c past) f ok.flying)) in
          h.asks.one r.who r.xid.0 f.op o flies asked

      first : (k l : Lock) → Gave past k → In l (k ∷ []) → Gave past l
      first k l g (inl e) = subst (Gave past) e g
      first k l g (inr i) = absurd i

      brings : Grants new r.who r.xid.0 r.answer → (l : Lock) → In l (granted_lock f.op r r.answer) → Gave past l
      brings (inl g) l i = first g.lock l g.gave (subst (λ (ls : List Lock). In l ls)
          (grants_brought new r g f.op (same (op.Enqueue g.lock.resource g.lock.ask.mode g.extent) g.asked)) i)
      brings (inr (inl g)) l i = absurd (subst (λ (ls : List Lock). In l ls)
          (ap (granted_lock f.op r) g.is ∙ none_brought f.op r g.lock.cookie) i)
      brings (inr (inr e)) l i = absurd (subst (λ (ls : List Lock). In l ls) (ap (granted_lock f.op r) e.0 ∙ lock_brought f.op r) i)

  -- and a notice the lock that it is of: that which its life was told to wait for
  given_gave : (c t : ℕ) (lock : Lock) (seen : List ℕ) → GivenOf past c t lock seen → Gave past lock
  given_gave c t lock seen ok = by told_so.0.answer
    where
      noticed : Noticed (Gave past) ok.notice
      noticed = h.has.notices (Target t) (Client c) ok.notice ok.was

      l : Lock
      l = noticed.0

      told_so : Fine (numbered s) (Gave past) (Grants past) ok.reply × (ok.reply.who ≡ ok.notice.who) × (ok.flight.xid ≡ ok.reply.xid.0)
      told_so = h.has.heard ok.notice.who ok.flight ok.reply ok.heard

      -- it is the request that was asked for the lock
      asked : Asks past ok.reply.who ok.reply.xid.0 ok.flight.op
      asked =
          subst (λ (n : ℕ). Asks past ok.reply.who n ok.flight.op) told_so.2
          (subst (λ (w : Who). Asks past w ok.flight.xid ok.flight.op) (sym told_so.1)
          (h.asks.heard ok.notice.who ok.flight ok.reply ok.heard))

      waited : WaitsLock past ok.reply.who ok.reply.xid.0 ok.reply.answer → l ≡ lock
      waited w =
          let cookie : lock.cookie ≡ w.lock.cookie = no_cookie lock.cookie w.lock.cookie (sym ok.told ∙ w.is) in
          let op_is = enqueue_is lock.resource w.lock.resource lock.ask.mode w.lock.ask.mode ok.extent w.extent
          (sym ok.asked ∙ h.asks.one ok.reply.who ok.reply.xid.0 ok.flight.op (op.Enqueue w.lock.resource w.lock.ask.mode w.extent) asked
          w.asked) in
          let own : l.cookie ≡ lock.cookie = sym noticed.3 ∙ sym ok.cookie in
          let is : IsOf w.lock l = h.named l w.lock noticed.1 w.waited (ap (λ (k : Cookie). k.0) (own ∙ cookie)) in
          let resource : l.resource ≡ lock.resource = is.resource ∙ sym op_is.0 in
          let mode : l.ask.mode ≡ lock.ask.mode = is.mode ∙ sym op_is.1 in
          let who : l.ask.who ≡ lock.ask.who = sym noticed.2 ∙ sym ok.of_life in
          let policy : l.ask.policy ≡ lock.ask.policy = sym (range_is l.ask.policy is.range) ∙ ap Range (sym noticed.4) ∙ sym ok.range in
          λ i. record { cookie = own i; resource = resource i; ask = record { who = who i; mode = mode i; policy = policy i } }

      by : Ungranted ok.reply.answer ⊎ Grants past ok.reply.who ok.reply.xid.0 ok.reply.answer → Gave past lock
      by (inl none) = absurd (subst Ungranted ok.told none)
      by (inr (inl g)) = absurd (let is : told.Waiting lock.cookie ≡ told.Granted g.lock.cookie (extent_of g.lock) g.size = sym ok.told
          ∙ g.is in cc)
      by (inr (inr (inl w))) = subst (Gave past) (waited w) noticed.1
      by (inr (inr (inr e))) = absurd (let is : told.Waiting lock.cookie ≡ told.Lock = sym ok.told ∙ e.0 in cc)

  adds_hold : (c t : ℕ) (lock : Lock) (marked : Bool) (size : Option ℕ) (seen : List ℕ) → ((marked ≡ false) × HeldOk past c t lock seen)
      ⊎ GivenOf past c t lock seen → Next (Client c) (Hold t lock marked size seen)
  adds_hold c t lock marked size seen ok = adds_client c (Hold t lock marked size seen) (λ k g. g) (λ k w. w) (gave ok)
    where
      gave : ((marked ≡ false) × HeldOk past c t lock seen) ⊎ GivenOf past c t lock seen → Gave past lock
      gave (inl k) = (h.has.held c (held_as t lock false) k.1.held).0
      gave (inr k) = given_gave c t lock seen k

  -- ---- any line

  -- a line of the target that neither gives a lock nor lets one wait, and leaves those that wait, or some of them
  adds_quiet : (t : ℕ) (e : Entry) → Quiet e → Next (Target t) e
  adds_quiet t e q = by e q
    where
      by : (e : Entry) → Quiet e → Next (Target t) e
      by (Close o) q =
          record {
            counted = h.counted;
            top = h.top;
            low = h.low;
            once = h.once;
            behind = h.behind;
            apart = h.apart;
            named = h.named;
            queued = λ x i. absurd i;
            numbers = omega arith;
            own = tt;
          }
      by (Evict who cause) q =
          record {
            counted = h.counted;
            top = h.top;
            low = h.low;
            once = h.once;
            behind = h.behind;
            apart = h.apart;
            named = h.named;
            queued = λ x i. h.queued x (in_filter (λ (k : Lock). not (is_life k.ask.who (who ∷ []))) x s.queued i).0;
            numbers = omega arith;
            own = tt;
          }
      by (Act d) q = absurd q
      by (Txn d) q = absurd q
      by (Grant lock asked) q = absurd q
      by (Wait lock d) q = absurd q
      by (Answers d) q = absurd q
      by (Boot boot disk) q = absurd q
      by (Heard u f r) q = absurd q
      by (Hold u lock marked size seen) q = absurd q
      by e q = record {
        counted = h.counted;
        top = h.top;
        low = h.low;
        once = h.once;
        behind = h.behind;
        apart = h.apart;
        named = h.named;
        queued = h.queued;
        numbers = omega arith;
        own = tt;
      }

  adds : (node : Node) (e : Entry) → EntryOf head past (turn stamp node) node e → Next node e
  adds (Target t) (Act d) ok = adds_act t d ok
  adds (Target t) (Txn d) ok = adds_txn t d ok
  adds (Target t) (Grant lock None) ok = adds_promote t lock ok.1
  adds (Target t) (Grant lock (Some d)) (inl ok) = adds_shown t lock d ok.1
  adds (Target t) (Grant lock (Some d)) (inr ok) = adds_range t lock d ok.1
  adds (Target t) (Wait lock d) ok = adds_wait t lock d ok.1
  adds (Target t) (Answers d) ok = adds_answers t d ok.1
  adds (Target t) (Boot boot disk) ok = adds_boot t boot disk ok
  adds (Target t) (Heard u f r) ok = absurd ok
  adds (Target t) (Hold u lock marked size seen) ok = absurd ok
  adds (Target t) e ok = adds_quiet t e tt
  adds (Client c) (Heard t f r) ok = adds_heard c t f r ok
  adds (Client c) (Hold t lock marked size seen) ok = adds_hold c t lock marked size seen ok
  adds (Client c) (Act d) ok = absurd ok
  adds (Client c) (Txn d) ok = absurd ok
  adds (Client c) (Grant lock asked) ok = absurd ok
  adds (Client c) (Wait lock d) ok = absurd ok
  adds (Client c) (Answers d) ok = absurd ok
  adds (Client c) e ok = adds_client c e (λ k g. g) (λ k w. w) tt

pub given_line : (head : Head) (past : List Line) (l : Line) → EntryOf head past l.at l.at.node l.entry → Given head past
    → Given head (l ∷ past)
given_line head past l ok h =
    let a : Adds head past l = adds head past l.at.stamp h l.at.node l.entry ok in
    let n : ℕ = numbered (server_of head.osts past) in
    let m : ℕ = numbered (server_of head.osts (l ∷ past)) in
    record {
      asks = requests_line head past l ok h.asks;
      counted = a.counted;
      top = a.top;
      low = a.low;
      once = a.once;
      behind = a.behind;
      apart = a.apart;
      named = a.named;
      queued = a.queued;
      has = has_line m (Gave (l ∷ past)) (Grants (l ∷ past)) head past l ok a.own
          (has_more n m (Gave past) (Gave (l ∷ past)) (Grants past) (Grants (l ∷ past)) a.numbers (gave_more past l) (grants_more past l)
          head past h.has);
    }
