-- What holds in the story of one target after every line that the guards allow, but for a close: what is granted, called back and waits
-- is of lives that have a slot, one of each client, each newer than all of its client that were evicted; and the log stands in rising
-- number, all of it above what is committed.
use Rattle.std.proofs.Common.{◌≡◌, ℕ, ◌+◌, ◌*◌, ◌<◌, ◌≤◌, Bool, true, false, List, [], ◌∷◌, ◌++◌, Some, None, ◌⊎◌, inl, inr, ⊎_elim, refl}
use Rattle.std.proofs.Common.{sym, subst, ap, ◌∙◌, arith}
use Rattle.std.specs.Prelude.{nat_eq, max, ◌||◌, not}
use Rattle.std.specs.List.{list_any}
use Rattle.std.proofs.lemmas.Bool.{eqb-true}
use Rattle.std.proofs.lemmas.Bool.Decides.{nat_tests}
use Rattle.lu_base.specs.declared.ids.At.{At}
use Rattle.lu_base.specs.declared.ids.Node.TheVariants as node
use Rattle.lu_base.specs.declared.ids.Stamp.{Stamp}
use Rattle.lu_base.specs.declared.ids.Txn.{Txn as TxnOf}
use Rattle.lu_base.specs.declared.ids.Who.{Who}
use Rattle.lu_base.specs.declared.locks.Cause.{Cause}
use Rattle.lu_base.specs.declared.locks.Extent.{Extent}
use Rattle.lu_base.specs.declared.locks.Lock.{Lock}
use Rattle.lu_base.specs.declared.locks.Mode.{Mode}
use Rattle.lu_base.specs.declared.locks.Mode.TheVariants.{PW}
use Rattle.lu_base.specs.declared.locks.Resource.{Resource}
use Rattle.lu_lock.specs.Growth.{the_end}
use Rattle.lu_spec_machine.specs.Footprint.{changes, grants}
use Rattle.lu_spec_machine.specs.Objects.{object_writes, content}
use Rattle.lu_msg.specs.declared.answers.Answer.{Answer}
use Rattle.lu_msg.specs.declared.answers.Answer.TheVariants as told
use Rattle.lu_msg.specs.declared.commits.Batch.{Batch}
use Rattle.lu_msg.specs.declared.messages.Request.{Request as RequestOf}
use Rattle.lu_msg.specs.declared.operations.Op.{Op}
use Rattle.lu_msg.specs.declared.operations.Op.TheVariants as op
use Rattle.lu_part.specs.declared.parts.Part.{Part}
use Rattle.lu_part.specs.declared.parts.Want.{Want}
use Rattle.lu_spec_entries.specs.Carried.{Deed, Called, Disk, Glimpse}
use Rattle.lu_spec_entries.specs.Words.{Entry, Act, Txn, Grant, Wait, Answers, Asks, Ends, Block, Release, Commit, Boot, Close, Enters}
use Rattle.lu_spec_entries.specs.Words.{Evict, Joined, Line, line, same_life}
use Rattle.lu_spec_target.specs.Glimpses.{by_holder}
use Rattle.lu_spec_target.specs.Leaving.{is_over, life_of as life_in}
use Rattle.lu_spec_target.specs.Lives.{is_life, with_life}
use Rattle.lu_spec_target.specs.Locks.{with_lock, with_locks, without_lock, same_request, same_glimpse}
use Rattle.lu_spec_target.specs.Names.{locks_from}
use Rattle.lu_spec_target.specs.Phase.{greatest_cookie}
use Rattle.lu_spec_target.specs.Queues.{extent_of}
use Rattle.lu_spec_target.specs.Replies.{locks_on}
use Rattle.lu_spec_target.specs.Stored.{object_in}
use Rattle.lu_proof_lawful.specs.Covered.Deeds.{asked, size_at, told_on}
use Rattle.lu_proof_lawful.specs.Covered.Heads.{Head}
use Rattle.lu_proof_lawful.specs.Covered.TargetParts.{is_request_of, without_request, lives_after, evicted_after}
use Rattle.lu_proof_lawful.specs.Covered.TargetStates.{Server, none, next_number, server_of, server_after, lives_of, evicted_of}
use Rattle.lu_proof_lawful.proofs.Preconditions.Guards.{In}
use Rattle.lu_proof_lawful.proofs.Preconditions.StoryGuards.{EntryOf, CommitOk, RangeOk, WaitOk, PromoteOk, ActsOk, TxnsOk, AnswersOk}
use Rattle.lu_proof_lawful.proofs.Preconditions.StoryGuards.{AsksOk, WritesUnder, IsUncovered, Unasked}
use Rattle.lu_proof_lawful.proofs.Preconditions.Acts.{made, sized_bare}
use Rattle.lu_proof_lawful.proofs.Preconditions.Lists.{turn, in_right, life_is, same_who}
use Rattle.lu_proof_lawful.proofs.Preconditions.Turns.{IsNoClose}
use Rattle.lu_proof_lawful.proofs.Preconditions.LifeLists.{InOrder, order_filter, order_put, order_first, stands_life, life_put_or}
use Rattle.lu_proof_lawful.proofs.Preconditions.LifeLists.{life_left, from_first, none_is}
use Rattle.lu_proof_lawful.proofs.Preconditions.LockLists.{AllAbove, above_from, greatest_least, greatest_has, Rises, rises_with, rises_all}
use Rattle.lu_proof_lawful.proofs.Preconditions.LockLists.{rises_filter}
use Rattle.lu_proof_lawful.proofs.Preconditions.ClientLocks.{any_passes}
pub use Rattle.lu_proof_lawful.proofs.Preconditions.QueueLists.{in_with, in_with_all}
use Rattle.lu_proof_lawful.proofs.Preconditions.QueueLists.{on_resource, highest_in}
use Rattle.lu_proof_lawful.proofs.Preconditions.TargetWaits.{Waits, waits_start, waits_boot, waits_enters, not_size, waits_answer}
use Rattle.lu_proof_lawful.proofs.Preconditions.TargetWaits.{waits_locks, waits_release, waits_granted, waits_queued, waits_promoted}
use Rattle.lu_proof_lawful.proofs.Preconditions.TargetWaits.{waits_asks, waits_ends, waits_evict}
use Rattle.lu_proof_lawful.proofs.Preconditions.StoryLists.{Logged, logged_more, logged_append, logged_top, logged_under, logged_cut}
use Rattle.lu_proof_lawful.proofs.Preconditions.StoryLists.{Belongs, belongs_filter, belongs_one, belongs_evict, belongs_join, from_who}
use Rattle.lu_proof_lawful.proofs.Preconditions.StoryLists.{grant_still}

-- ---- the story

-- no number of a transaction is above
abbrev pub numbered : Server → ℕ
numbered s = s.boot * 4294967296 + s.count

pub record Story (head : Head) (past : List Line) : Type 0 where
  pub rises : Rises (server_of head.osts past).granted
  pub counted : (server_of head.osts past).count ≤ 4294967295
  pub logged : Logged (server_of head.osts past).committed.0 (server_of head.osts past).log (numbered (server_of head.osts past))
  pub waits : Belongs (λ (r : RequestOf). r.who) (server_of head.osts past).waiting (lives_of head.clients past)
  pub holds : Belongs (λ (l : Lock). l.ask.who) (server_of head.osts past).granted (lives_of head.clients past)
  pub queues : Belongs (λ (l : Lock). l.ask.who) (server_of head.osts past).queued (lives_of head.clients past)
  pub calls : Belongs (λ (c : Called). c.who) (server_of head.osts past).called (lives_of head.clients past)
  pub single : (a b : Who) → is_life a (lives_of head.clients past) ≡ true → is_life b (lives_of head.clients past) ≡ true → a.client
      ≡ b.client → a ≡ b
  pub older : (w r : Who) → is_life w (lives_of head.clients past) ≡ true → is_life r (evicted_of past) ≡ true → w.client ≡ r.client
      → r.life < w.life
  pub order : InOrder (lives_of head.clients past)
  pub over : InOrder (evicted_of past)
  pub waits_so : Waits (server_of head.osts past).boot (server_of head.osts past).cookie (server_of head.osts past).granted
      (server_of head.osts past).queued (server_of head.osts past).waiting (server_of head.osts past).glimpses

-- none that has a slot was evicted
pub story_apart : (head : Head) (past : List Line) → Story head past → (w : Who) → is_life w (lives_of head.clients past) ≡ true
    → is_life w (evicted_of past) ≡ false
story_apart head past h w has = by (is_life w (evicted_of past)) refl
  where
    by : (b : Bool) → is_life w (evicted_of past) ≡ b → b ≡ false
    by false e = refl
    by true e = let lt = h.older w w has e refl in absurd (omega (arith, lt))

pub story_start : (head : Head) → Story head []
story_start head =
    record {
      rises = tt;
      counted = omega arith;
      logged = omega arith;
      waits = λ x i. absurd i;
      holds = λ x i. absurd i;
      queues = λ x i. absurd i;
      calls = λ x i. absurd i;
      single = λ a b p q e. same_who a b e (first_life a p ∙ sym (first_life b q));
      older = λ w r p q e. absurd (cc);
      order = order_first 0 head.clients;
      over = tt;
      waits_so = waits_start;
    }
  where
    first_life : (a : Who) → is_life a (lives_of head.clients []) ≡ true → a.life ≡ 1
    first_life a p = from_first a 0 head.clients (stands_life a (lives_of head.clients []) p)

-- a client's line changes nothing of it
pub story_client : (head : Head) (past : List Line) (stamp : Stamp) (c : ℕ) (e : Entry) → Story head past
    → Story head (line (turn stamp (node.Client c)) e ∷ past)
story_client head past stamp c e h =
    record {
      rises = h.rises;
      counted = h.counted;
      logged = h.logged;
      waits = h.waits;
      holds = h.holds;
      queues = h.queues;
      calls = h.calls;
      single = h.single;
      older = h.older;
      order = h.order;
      over = h.over;
      waits_so = h.waits_so;
    }

-- ---- a line of the target

module _ (head : Head) (t : ℕ) (past : List Line) (stamp : Stamp) (h : Story head past) where
  abbrev s : Server
  s = server_of head.osts past

  abbrev lives : List Who
  lives = lives_of head.clients past

  abbrev evicted : List Who
  evicted = evicted_of past

  abbrev Next : Entry → Type 0
  Next e = Story head (line (turn stamp (node.Target t)) e ∷ past)

  abbrev Waiting : Type 0
  Waiting = Waits s.boot s.cookie s.granted s.queued s.waiting s.glimpses

  story_enters : (r : RequestOf) → is_life r.who lives ≡ true → ((q : RequestOf) → In q s.waiting → same_request q r ≡ false)
      → Next (Enters r)
  story_enters r has fresh =
      record {
        rises = h.rises;
        counted = h.counted;
        logged = h.logged;
        waits = belongs_one (λ (x : RequestOf). x.who) s.waiting r lives h.waits has;
        holds = h.holds;
        queues = h.queues;
        calls = h.calls;
        single = h.single;
        older = h.older;
        order = h.order;
        over = h.over;
        waits_so = waits_enters s.boot s.cookie s.granted s.queued s.waiting s.glimpses h.waits_so r fresh;
      }

  -- ---- which requests are answered: none for which a glimpse waits

  pub record Answered (d : Deed) : Type 0 where
    pub request : RequestOf
    pub waits : In request s.waiting
    pub who : d.reply.who ≡ request.who
    pub xid : d.reply.xid ≡ request.xid
    pub unasked : Unasked s.glimpses request

  others_asked : (r : RequestOf) → In r s.waiting → ((resource : Resource) → r.op ≡ op.Size resource → ⊥) → Unasked s.glimpses r
  others_asked r i other = not_size s.boot s.cookie s.granted s.queued s.waiting s.glimpses h.waits_so r i other

  -- what is told
  told_answered : (d : Deed) (r : RequestOf) (at : At) (number : TxnOf) (parts : List Part) (a : Answer) → In r s.waiting
      → Unasked s.glimpses r → d ≡ told_on s at r number parts a → Answered d
  told_answered d r at number parts a i unasked is = record {
    request = r;
    waits = i;
    who = ap (λ (x : Deed). x.reply.who) is;
    xid =
        ap (λ (x : Deed). x.reply.xid) is;
    unasked = unasked;
  }

  not_enqueue : (r : RequestOf) (resource : Resource) (mode : Mode) (extent : Extent) → r.op ≡ op.Enqueue resource mode extent
      → (other : Resource) → r.op ≡ op.Size other → ⊥
  not_enqueue r resource mode extent e other f = let q : op.Enqueue resource mode extent ≡ op.Size other = sym e ∙ f in absurd (cc)

  range_answered : (at : At) (lock : Lock) (d : Deed) → RangeOk head.osts past at lock d → Answered d
  range_answered at lock d ok =
      told_answered d ok.request at none [] (told.Granted lock.cookie (extent_of lock) (size_at s ok.resource)) ok.waits
      (others_asked ok.request ok.waits (not_enqueue ok.request ok.resource ok.mode ok.extent ok.of_op)) ok.is

  wait_answered : (at : At) (lock : Lock) (d : Deed) → WaitOk head.osts past at lock d → Answered d
  wait_answered at lock d ok = told_answered d ok.request at none [] (told.Waiting lock.cookie) ok.waits
      (others_asked ok.request ok.waits (not_enqueue ok.request ok.resource ok.mode ok.extent ok.of_op)) ok.is

  abbrev acts_answered : (at : At) (d : Deed) → ActsOk head.osts past at t d → Answered d
  acts_answered at d (inl ok) = record {
    request = ok.1.request;
    waits = ok.1.waits;
    who = ap (λ (x : Deed). x.reply.who) ok.1.is;
    xid =
        ap (λ (x : Deed). x.reply.xid) ok.1.is;
    unasked = ok.1.unasked;
  }
  acts_answered at d (inr ok) = told_answered d ok.1.request at none [] (told.Size (size_at s ok.1.resource)) ok.1.waits ok.1.unasked
      ok.1.is

  txns_answered : (at : At) (d : Deed) → TxnsOk head.osts past at t d → Answered d
  txns_answered at d (inl ok) =
      record {
        request = ok.1.request;
        waits = ok.1.waits;
        who = ap (λ (x : Deed). x.reply.who) ok.1.is;
        xid =
            ap (λ (x : Deed). x.reply.xid) ok.1.is;
        unasked = others_asked ok.1.request ok.1.waits other;
      }
    where
      other : (resource : Resource) → ok.1.request.op ≡ op.Size resource → ⊥
      other resource e = let m : changes head.osts s.tree (record { number = none; who = ok.1.request.who; op = op.Size resource }) ≡ true =
          subst (λ (o : Op). changes head.osts s.tree (record { number = none; who = ok.1.request.who; op = o }) ≡ true) e ok.1.moves
          in absurd (cc)
  txns_answered at d (inr ok) =
      told_answered d ok.1.request at (next_number s) (object_writes ok.1.request.op) told.Done ok.1.waits
      (others_asked ok.1.request ok.1.waits (λ resource e. subst (λ (o : Op). WritesUnder s ok.1.request.who o ok.1.holder) e ok.1.under))
      ok.1.is

  responds_answered : (at : At) (d : Deed) → AnswersOk head.osts past at t d → Answered d
  responds_answered at d (inl ok) =
      told_answered d ok.request at none [] (told.Content (content ok.page (extent_of ok.holder) (object_in s.objects ok.resource)))
      ok.waits (others_asked ok.request ok.waits (λ resource e. let q : op.Get ok.resource ok.cookie ok.page ≡ op.Size resource =
      sym ok.of_op ∙ e in absurd (cc))) ok.is
  responds_answered at d (inr (inl ok)) =
      told_answered d ok.request at none [] told.Uncovered ok.waits
      (others_asked ok.request ok.waits (λ resource e. subst (λ (o : Op). IsUncovered s ok.request.who o) e ok.uncovered)) ok.is
  responds_answered at d (inr (inr (inl ok))) = told_answered d ok.request at none [] told.Lock ok.waits ok.unasked ok.is
  responds_answered at d (inr (inr (inr (inl ok)))) = told_answered d ok.request at none [] told.Lock ok.waits ok.unasked ok.is
  responds_answered at d (inr (inr (inr (inr ok)))) = told_answered d ok.request (by_holder ok.report) none [] (told.Size ok.size) ok.waits
      ok.unasked ok.is

  -- ---- lines that answer

  left_waits : (d : Deed) → Belongs (λ (x : RequestOf). x.who) (without_request d s.waiting) lives
  left_waits d = belongs_filter (λ (x : RequestOf). x.who) (λ (x : RequestOf). not (is_request_of d x)) s.waiting lives h.waits

  story_act : (d : Deed) (wants : List Want) (a : Answered d) → d.reply.locks ≡ locks_from s.cookie a.request.who wants
      → greatest_cookie s.cookie d.reply.locks ≤ s.boot * 4294967296 + 4294967295 → Next (Act d)
  story_act d wants a is room =
      record {
        rises = rises_all d.reply.locks s.granted h.rises;
        counted = h.counted;
        logged = h.logged;
        waits = left_waits d;
        holds = λ l i. ⊎_elim (λ (j : In l d.reply.locks). new l (subst (λ (ls : List Lock). In l ls) is j))
            (λ (j : In l s.granted). h.holds l j) (in_with_all l d.reply.locks s.granted i);
        queues = h.queues;
        calls = h.calls;
        single = h.single;
        older = h.older;
        order = h.order;
        over = h.over;
        waits_so = waits_answer s.boot top (with_locks d.reply.locks s.granted) s.queued s.waiting s.glimpses
            (waits_locks s.boot s.cookie s.granted s.queued s.waiting s.glimpses h.waits_so top d.reply.locks
            (greatest_least s.cookie d.reply.locks) room
            (subst (AllAbove s.cookie) (sym is) (above_from s.cookie s.cookie a.request.who wants (omega arith)))
            (λ l i. greatest_has s.cookie d.reply.locks l i))
            d a.request a.who a.xid a.unasked;
      }
    where
      top : ℕ
      top = greatest_cookie s.cookie d.reply.locks

      new : (l : Lock) → In l (locks_from s.cookie a.request.who wants) → is_life l.ask.who lives ≡ true
      new l j = subst (λ (w : Who). is_life w lives ≡ true) (sym (from_who l s.cookie a.request.who wants j)) (h.waits a.request a.waits)

  next_over : (lock : Lock) → lock.cookie.0 ≡ s.cookie + 1 → s.cookie + 1 ≤ s.boot * 4294967296 + 4294967295 → (s.cookie < lock.cookie.0)
      × (lock.cookie.0 ≤ s.boot * 4294967296 + 4294967295)
  next_over lock is room = (omega (arith, is), omega (arith, is, room))

  -- a lock on an object, for a request that waits
  story_range : (lock : Lock) (d : Deed) → RangeOk head.osts past (turn stamp (node.Target t)) lock d → Next (Grant lock (Some d))
  story_range lock d ok =
      let a = range_answered (turn stamp (node.Target t)) lock d ok in
      record {
        rises = rises_with lock s.granted h.rises;
        counted = h.counted;
        logged = h.logged;
        waits = left_waits d;
        holds = λ l i. ⊎_elim (λ (e : lock ≡ l). subst (λ (k : Lock). is_life k.ask.who lives ≡ true) (sym ok.of_lock ∙ e)
            (h.waits ok.request ok.waits))
            (λ (j : In l s.granted). h.holds l j) (in_with l lock s.granted i);
        queues = belongs_filter (λ (l : Lock). l.ask.who) (λ (k : Lock). not (nat_eq k.cookie.0 lock.cookie.0)) s.queued lives h.queues;
        calls = h.calls;
        single = h.single;
        older = h.older;
        order = h.order;
        over = h.over;
        waits_so = waits_answer s.boot (max s.cookie lock.cookie.0) (with_lock lock s.granted) (without_lock lock s.queued) s.waiting
            s.glimpses
            (waits_granted s.boot s.cookie s.granted s.queued s.waiting s.glimpses h.waits_so lock
            (next_over lock (ap (λ (l : Lock). l.cookie.0) ok.of_lock) ok.room))
            d a.request a.who a.xid a.unasked;
      }

  -- one that waits
  story_wait : (lock : Lock) (d : Deed) → WaitOk head.osts past (turn stamp (node.Target t)) lock d → Next (Wait lock d)
  story_wait lock d ok =
      let a = wait_answered (turn stamp (node.Target t)) lock d ok in
      record {
        rises = h.rises;
        counted = h.counted;
        logged = h.logged;
        waits = left_waits d;
        holds = h.holds;
        queues = belongs_one (λ (l : Lock). l.ask.who) s.queued lock lives h.queues
            (subst (λ (k : Lock). is_life k.ask.who lives ≡ true) (sym ok.of_lock) (h.waits ok.request ok.waits));
        calls = h.calls;
        single = h.single;
        older = h.older;
        order = h.order;
        over = h.over;
        waits_so = waits_answer s.boot (max s.cookie lock.cookie.0) s.granted (s.queued ++ lock ∷ []) s.waiting s.glimpses
            (waits_queued s.boot s.cookie s.granted s.queued s.waiting s.glimpses h.waits_so lock
            (next_over lock (ap (λ (l : Lock). l.cookie.0) ok.of_lock) ok.room))
            d a.request a.who a.xid a.unasked;
      }

  -- and that is granted
  story_promote : (lock : Lock) → PromoteOk head.osts past lock → Next (Grant lock None)
  story_promote lock ok =
      record {
        rises = rises_with lock s.granted h.rises;
        counted = h.counted;
        logged = h.logged;
        waits = h.waits;
        holds = λ l i. ⊎_elim (λ (e : lock ≡ l). subst (λ (k : Lock). is_life k.ask.who lives ≡ true) (sym ok.of_lock ∙ e)
            (h.queues ok.asked waits))
            (λ (j : In l s.granted). h.holds l j) (in_with l lock s.granted i);
        queues = belongs_filter (λ (l : Lock). l.ask.who) (λ (k : Lock). not (nat_eq k.cookie.0 lock.cookie.0)) s.queued lives h.queues;
        calls = h.calls;
        single = h.single;
        older = h.older;
        order = h.order;
        over = h.over;
        waits_so = waits_promoted s.boot s.cookie s.granted s.queued s.waiting s.glimpses h.waits_so lock ok.asked waits
            (ap (λ (l : Lock). l.cookie.0) ok.of_lock);
      }
    where
      waits : In ok.asked s.queued
      waits = (on_resource lock.resource ok.asked s.queued (subst (λ (ls : List Lock). In ok.asked ls) (sym ok.queue)
          (in_right ok.asked ok.ahead (ok.asked ∷ ok.later) (inl refl)))).0

  story_responds : (d : Deed) → Answered d → Next (Answers d)
  story_responds d a =
      record {
        rises = h.rises;
        counted = h.counted;
        logged = h.logged;
        waits = left_waits d;
        holds = h.holds;
        queues = h.queues;
        calls = h.calls;
        single = h.single;
        older = h.older;
        order = h.order;
        over = h.over;
        waits_so = waits_answer s.boot s.cookie s.granted s.queued s.waiting s.glimpses h.waits_so d a.request a.who a.xid a.unasked;
      }

  story_txn : (d : Deed) → Answered d → s.count < 4294967295 → d.reply.txn ≡ next_number s → Next (Txn d)
  story_txn d a low number =
      record {
        rises = h.rises;
        counted = omega (arith, low);
        logged = logged_append s.committed.0 s.log (numbered s) (s.boot * 4294967296 + (s.count + 1)) d h.logged (omega (arith, is))
            (omega (arith, is));
        waits = left_waits d;
        holds = h.holds;
        queues = h.queues;
        calls = h.calls;
        single = h.single;
        older = h.older;
        order = h.order;
        over = h.over;
        waits_so = waits_answer s.boot s.cookie s.granted s.queued s.waiting s.glimpses h.waits_so d a.request a.who a.xid a.unasked;
      }
    where
      is : d.reply.txn.0 ≡ s.boot * 4294967296 + (s.count + 1)
      is = ap (λ (n : TxnOf). n.0) number

  -- ---- glimpses that wait for a holder, and those that don't any more

  story_asks : (g : Glimpse) → AsksOk head.osts past g → Next (Asks g)
  story_asks g ok =
      record {
        rises = h.rises;
        counted = h.counted;
        logged = h.logged;
        waits = h.waits;
        holds = h.holds;
        queues = h.queues;
        calls = h.calls;
        single = h.single;
        older = h.older;
        order = h.order;
        over = h.over;
        waits_so = waits_asks s.boot s.cookie s.granted s.queued s.waiting s.glimpses h.waits_so g ok.holder ok.waits ok.of_op ok.unasked
            (on.1, is.1, eqb-true (extent_of ok.holder).last the_end ok.to_end) ok.of_cookie h.rises on.0;
      }
    where
      is : In ok.holder (locks_on g.resource s.granted) × (ok.holder.ask.mode ≡ PW)
      is = highest_in (locks_on g.resource s.granted) ok.holder ok.of_holder

      on : In ok.holder s.granted × (ok.holder.resource ≡ g.resource)
      on = on_resource g.resource ok.holder s.granted is.0

  story_ends : (g : Glimpse) → Next (Ends g)
  story_ends g =
      record {
        rises = h.rises;
        counted = h.counted;
        logged = h.logged;
        waits = h.waits;
        holds = h.holds;
        queues = h.queues;
        calls = h.calls;
        single = h.single;
        older = h.older;
        order = h.order;
        over = h.over;
        waits_so = waits_ends s.boot s.cookie s.granted s.queued s.waiting s.glimpses h.waits_so (λ (x : Glimpse). not (same_glimpse g x));
      }

  -- ---- the other lines

  story_block : (called : Called) (lock : Lock) → In lock s.granted → called.who ≡ lock.ask.who → Next (Block called)
  story_block called lock granted own =
      record {
        rises = h.rises;
        counted = h.counted;
        logged = h.logged;
        waits = h.waits;
        holds = h.holds;
        queues = h.queues;
        calls = belongs_one (λ (x : Called). x.who) s.called called lives h.calls
            (subst (λ (w : Who). is_life w lives ≡ true) (sym own) (h.holds lock granted));
        single = h.single;
        older = h.older;
        order = h.order;
        over = h.over;
        waits_so = h.waits_so;
      }

  pub story_release : (lock : Lock) → Next (Release lock)
  story_release lock =
      record {
        rises = rises_filter (λ (k : Lock). not (nat_eq k.cookie.0 lock.cookie.0)) s.granted h.rises;
        counted = h.counted;
        logged = h.logged;
        waits = h.waits;
        holds = belongs_filter (λ (x : Lock). x.ask.who) (λ (k : Lock). not (nat_eq k.cookie.0 lock.cookie.0)) s.granted lives h.holds;
        queues = h.queues;
        calls = belongs_filter (λ (x : Called). x.who) (λ (k : Called). not (nat_eq k.cookie.0 lock.cookie.0)) s.called lives h.calls;
        single = h.single;
        older = h.older;
        order = h.order;
        over = h.over;
        waits_so = waits_release s.boot s.cookie s.granted s.queued s.waiting s.glimpses h.waits_so
            (λ (k : Lock). not (nat_eq k.cookie.0 lock.cookie.0));
      }

  pub story_commit : (to : ℕ) (batch : Batch) → CommitOk head past (turn stamp (node.Target t)) to batch → Next (Commit to batch)
  story_commit to batch ok =
      record {
        rises = h.rises;
        counted = h.counted;
        logged = logged_cut to s.committed.0 s.log (numbered s) top h.logged;
        waits = h.waits;
        holds = h.holds;
        queues = h.queues;
        calls = h.calls;
        single = h.single;
        older = h.older;
        order = h.order;
        over = h.over;
        waits_so = h.waits_so;
      }
    where
      top : to ≤ numbered s
      top =
          ⊎_elim (λ (k : (d : Deed) × In d s.log × (to ≡ d.reply.txn.0)). let le =
          logged_under s.committed.0 s.log (numbered s) k.0 h.logged k.1 in let is = k.2 in omega (arith, le, is))
          (λ (e : to ≡ s.committed.0). let le = logged_top s.committed.0 s.log (numbered s) h.logged in omega (arith, le, e)) ok.is

  -- it had a slot, or was evicted already
  pub story_evict : (w : Who) (cause : Cause) → (is_life w lives ≡ true) ⊎ (is_life w evicted ≡ true) → Next (Evict w cause)
  story_evict w cause was =
      record {
        rises = rises_filter (λ (k : Lock). not (is_life k.ask.who (w ∷ []))) s.granted h.rises;
        counted = h.counted;
        logged = h.logged;
        waits = belongs_evict (λ (x : RequestOf). x.who) s.waiting w lives h.waits;
        holds = belongs_evict (λ (x : Lock). x.ask.who) s.granted w lives h.holds;
        queues = belongs_evict (λ (x : Lock). x.ask.who) s.queued w lives h.queues;
        calls = belongs_evict (λ (x : Called). x.who) s.called w lives h.calls;
        single = λ a b p q e. h.single a b (life_left a w lives p).0 (life_left b w lives q).0 e;
        older = λ x r p q e. let k = life_left x w lives p in out x r k.0 k.1 e (same_life r w) refl (life_put_or r w evicted q) was;
        order = order_filter (λ (x : Who). not (is_life x (w ∷ []))) lives h.order;
        over = order_put w evicted h.over;
        waits_so = waits_evict s.boot s.cookie s.granted s.queued s.waiting s.glimpses h.waits_so w;
      }
    where
      out : (x r : Who) → is_life x lives ≡ true → (x ≡ w → ⊥) → x.client ≡ r.client → (b : Bool) → same_life r w ≡ b
          → (b || is_life r evicted) ≡ true → (is_life w lives ≡ true) ⊎ (is_life w evicted ≡ true) → r.life < x.life
      out x r has ne same false e q was = h.older x r has q same
      out x r has ne same true e q (inl had) = absurd (ne (h.single x w has had (same ∙ ap (λ (u : Who). u.client) (life_is r w e))))
      out x r has ne same true e q (inr had) = h.older x r has (subst (λ (u : Who). is_life u evicted ≡ true) (sym (life_is r w e)) had)
          same

  story_joined : (w : Who) → life_in w.client lives ≡ None → list_any (is_over w) evicted ≡ false → Next (Joined w)
  story_joined w none newer =
      record {
        rises = h.rises;
        counted = h.counted;
        logged = h.logged;
        waits = belongs_join (λ (x : RequestOf). x.who) s.waiting w lives h.waits;
        holds = belongs_join (λ (x : Lock). x.ask.who) s.granted w lives h.holds;
        queues = belongs_join (λ (x : Lock). x.ask.who) s.queued w lives h.queues;
        calls = belongs_join (λ (x : Called). x.who) s.called w lives h.calls;
        single = λ a b p q e. one a b (same_life a w) (same_life b w) refl refl (life_put_or a w lives p) (life_put_or b w lives q) e;
        older = λ x r p q e. out x r (same_life x w) refl (life_put_or x w lives p) q e;
        order = order_put w lives h.order;
        over = h.over;
        waits_so = h.waits_so;
      }
    where
      one : (a b : Who) (m n : Bool) → same_life a w ≡ m → same_life b w ≡ n → (m || is_life a lives) ≡ true → (n || is_life b lives) ≡ true
          → a.client ≡ b.client → a ≡ b
      one a b true true e f p q same = life_is a w e ∙ sym (life_is b w f)
      one a b true false e f p q same = absurd (none_is w.client lives none b (stands_life b lives q)
          (sym same ∙ ap (λ (u : Who). u.client) (life_is a w e)))
      one a b false true e f p q same = absurd (none_is w.client lives none a (stands_life a lives p)
          (same ∙ ap (λ (u : Who). u.client) (life_is b w f)))
      one a b false false e f p q same = h.single a b p q same

      under : (r : Who) → is_life r evicted ≡ true → w.client ≡ r.client → (b : Bool) → is_over w r ≡ b → r.life < w.life
      under r q same true e = let over : list_any (is_over w) evicted ≡ true = any_passes (is_over w) r evicted (stands_life r evicted q) e
          in absurd (cc)
      under r q same false e = grind (arith, nat_tests, same, e)

      out : (x r : Who) (m : Bool) → same_life x w ≡ m → (m || is_life x lives) ≡ true → is_life r evicted ≡ true → x.client ≡ r.client
          → r.life < x.life
      out x r true e p q same =
          let is : x ≡ w = life_is x w e in
          subst (λ (u : Who). r.life < u.life) (sym is) (under r q (ap (λ (u : Who). u.client) (sym is) ∙ same) (is_over w r) refl)
      out x r false e p q same = h.older x r p q same

  -- one that has a slot already
  pub story_comes : (w : Who) → is_life w lives ≡ true → Next (Joined w)
  story_comes w has =
      record {
        rises = h.rises;
        counted = h.counted;
        logged = h.logged;
        waits = belongs_join (λ (x : RequestOf). x.who) s.waiting w lives h.waits;
        holds = belongs_join (λ (x : Lock). x.ask.who) s.granted w lives h.holds;
        queues = belongs_join (λ (x : Lock). x.ask.who) s.queued w lives h.queues;
        calls = belongs_join (λ (x : Called). x.who) s.called w lives h.calls;
        single = λ a b p q e. h.single a b (had a p) (had b q) e;
        older = λ x r p q e. h.older x r (had x p) q e;
        order = order_put w lives h.order;
        over = h.over;
        waits_so = h.waits_so;
      }
    where
      by : (x : Who) (m : Bool) → same_life x w ≡ m → (m || is_life x lives) ≡ true → is_life x lives ≡ true
      by x true e p = subst (λ (u : Who). is_life u lives ≡ true) (sym (life_is x w e)) has
      by x false e p = p

      had : (x : Who) → is_life x (with_life w lives) ≡ true → is_life x lives ≡ true
      had x p = by x (same_life x w) refl (life_put_or x w lives p)

  -- the next boot's numbers are above those before it
  pub story_boot : (boot : ℕ) (disk : Disk) → boot ≡ s.boot + 1 → Next (Boot boot disk)
  story_boot boot disk next =
      record {
        rises = h.rises;
        counted = omega arith;
        logged = logged_more s.committed.0 s.log (numbered s) (boot * 4294967296 + 0) (let low = h.counted in omega (arith, low, next))
            h.logged;
        waits = h.waits;
        holds = h.holds;
        queues = h.queues;
        calls = h.calls;
        single = h.single;
        older = h.older;
        order = h.order;
        over = h.over;
        waits_so = waits_boot s.boot s.cookie s.granted s.queued s.waiting s.glimpses h.waits_so boot next;
      }

  -- a line that changes nothing of it
  pub story_still : (e : Entry) → server_after head.osts s e ≡ s → lives_after lives e ≡ lives → evicted_after evicted e ≡ evicted → Next e
  story_still e server has gone =
      record {
        rises = subst (λ (x : Server). Rises x.granted) (sym server) h.rises;
        counted = subst (λ (x : Server). x.count ≤ 4294967295) (sym server) h.counted;
        logged = subst (λ (x : Server). Logged x.committed.0 x.log (numbered x)) (sym server) h.logged;
        waits = subst (λ (x : Server). Belongs (λ (r : RequestOf). r.who) x.waiting (lives_after lives e)) (sym server)
            (subst (λ (ws : List Who). Belongs (λ (r : RequestOf). r.who) s.waiting ws) (sym has) h.waits);
        holds = subst (λ (x : Server). Belongs (λ (l : Lock). l.ask.who) x.granted (lives_after lives e)) (sym server)
            (subst (λ (ws : List Who). Belongs (λ (l : Lock). l.ask.who) s.granted ws) (sym has) h.holds);
        queues = subst (λ (x : Server). Belongs (λ (l : Lock). l.ask.who) x.queued (lives_after lives e)) (sym server)
            (subst (λ (ws : List Who). Belongs (λ (l : Lock). l.ask.who) s.queued ws) (sym has) h.queues);
        calls = subst (λ (x : Server). Belongs (λ (c : Called). c.who) x.called (lives_after lives e)) (sym server)
            (subst (λ (ws : List Who). Belongs (λ (c : Called). c.who) s.called ws) (sym has) h.calls);
        single = subst (λ (ws : List Who). (a b : Who) → is_life a ws ≡ true → is_life b ws ≡ true → a.client ≡ b.client → a ≡ b) (sym has)
            h.single;
        older = subst (λ (ws : List Who). (w r : Who) → is_life w ws ≡ true → is_life r (evicted_after evicted e) ≡ true → w.client
            ≡ r.client → r.life < w.life) (sym has)
            (subst (λ (rs : List Who). (w r : Who) → is_life w lives ≡ true → is_life r rs ≡ true → w.client ≡ r.client → r.life < w.life)
            (sym gone) h.older);
        order = subst InOrder (sym has) h.order;
        over = subst InOrder (sym gone) h.over;
        waits_so = subst (λ (x : Server). Waits x.boot x.cookie x.granted x.queued x.waiting x.glimpses) (sym server) h.waits_so;
      }

-- the cookies of an act's locks are few enough
act_room : (head : Head) (past : List Line) (at : At) (t : ℕ) (d : Deed) → Story head past → ActsOk head.osts past at t d
    → greatest_cookie (server_of head.osts past).cookie d.reply.locks ≤ (server_of head.osts past).boot * 4294967296 + 4294967295
act_room head past at t d h (inl ok) = ok.1.room
act_room head past at t d h (inr ok) =
    let s : Server = server_of head.osts past in
    subst (λ (ls : List Lock). greatest_cookie s.cookie ls ≤ s.boot * 4294967296 + 4294967295) (sym (sized_bare head.osts past at d ok.1))
    h.waits_so.low

-- which locks come with an act
act_locks : (head : Head) (t : ℕ) (past : List Line) (stamp : Stamp) (h : Story head past) (d : Deed)
    (ok : ActsOk head.osts past (turn stamp (node.Target t)) t d)
    → (wants : List Want) × (d.reply.locks ≡ locks_from (server_of head.osts past).cookie
    (acts_answered head t past stamp h (turn stamp (node.Target t)) d ok).request.who wants)
act_locks head t past stamp h d (inl ok) = (
  grants head.osts (server_of head.osts past).tree (asked ok.1.request none),
  ap (λ (x : Deed). x.reply.locks) ok.1.is,
)
act_locks head t past stamp h d (inr ok) = ([], ap (λ (x : Deed). x.reply.locks) ok.1.is)

pub story_line : (head : Head) (t : ℕ) (past : List Line) (stamp : Stamp) (e : Entry) → IsNoClose e
    → EntryOf head past (turn stamp (node.Target t)) (node.Target t) e → Story head past
    → Story head (line (turn stamp (node.Target t)) e ∷ past)
story_line head t past stamp (Close o) still ok h = absurd still
story_line head t past stamp (Boot boot disk) still ok h = story_boot head t past stamp h boot disk ok.next
story_line head t past stamp (Enters r) still ok h = story_enters head t past stamp h r ok.has ok.fresh
story_line head t past stamp (Act d) still ok h =
    let locks = act_locks head t past stamp h d ok in
    story_act head t past stamp h d locks.0 (acts_answered head t past stamp h (turn stamp (node.Target t)) d ok) locks.1
    (act_room head past (turn stamp (node.Target t)) t d h ok)
story_line head t past stamp (Grant lock (Some d)) still (inl ok) h =
    story_still head t past stamp h (Grant lock (Some d)) (grant_still head.osts past lock d ok.1) refl refl
story_line head t past stamp (Grant lock (Some d)) still (inr ok) h = story_range head t past stamp h lock d ok.1
story_line head t past stamp (Grant lock None) still ok h = story_promote head t past stamp h lock ok.1
story_line head t past stamp (Wait lock d) still ok h = story_wait head t past stamp h lock d ok.1
story_line head t past stamp (Answers d) still ok h = story_responds head t past stamp h d
    (responds_answered head t past stamp h (turn stamp (node.Target t)) d ok.1)
story_line head t past stamp (Asks g) still ok h = story_asks head t past stamp h g ok.1
story_line head t past stamp (Ends g) still ok h = story_ends head t past stamp h g
story_line head t past stamp (Txn d) still ok h =
    let m = made head.osts past (turn stamp (node.Target t)) t d ok in
    story_txn head t past stamp h d (txns_answered head t past stamp h (turn stamp (node.Target t)) d ok) m.numbers m.number
story_line head t past stamp (Block called) still (inl ok) h = story_block head t past stamp h called ok.1.lock ok.1.granted ok.1.of_life
story_line head t past stamp (Block called) still (inr ok) h = story_block head t past stamp h called ok.1.lock ok.1.granted ok.1.of_life
story_line head t past stamp (Release lock) still ok h = story_release head t past stamp h lock
story_line head t past stamp (Commit to batch) still ok h = story_commit head t past stamp h to batch ok
story_line head t past stamp (Evict w cause) still (inl ok) h = story_evict head t past stamp h w cause (inl ok.has)
story_line head t past stamp (Evict w cause) still (inr ok) h = story_evict head t past stamp h w cause (inr ok.evicted)
story_line head t past stamp (Joined w) still (inl ok) h = story_joined head t past stamp h w ok.none ok.newer
story_line head t past stamp (Joined w) still (inr ok) h = story_comes head t past stamp h w ok.has
story_line head t past stamp e still ok h = story_still head t past stamp h e refl refl refl
