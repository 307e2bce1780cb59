-- What a target tells and keeps, has granted and put on its disk, and what clients have of it, comes from what it did: line by line, for
-- numbers
-- up to some n, locks that some G has, and answers that some T allows to grant a lock of an object.
use Rattle.std.proofs.Common.{◌≡◌, ℕ, ◌≤◌, Bool, true, false, List, [], ◌∷◌, ◌++◌, Some, None, ◌⊎◌, inl, inr, ⊎_elim, refl, sym, subst, ap}
use Rattle.std.proofs.Common.{◌∙◌, arith}
use Rattle.std.specs.Prelude.{nat_eq, nat_lt, max, ◌&&◌, if◌then◌else◌, not}
use Rattle.std.specs.List.{filter}
use Rattle.std.proofs.lemmas.Bool.{cond_both, eqb-true}
use Rattle.lu_base.specs.declared.ids.At.{At}
use Rattle.lu_base.specs.declared.ids.Node.{Node}
use Rattle.lu_base.specs.declared.ids.Node.TheVariants.{Client, Target}
use Rattle.lu_base.specs.declared.ids.Who.{Who}
use Rattle.lu_base.specs.declared.locks.Lock.{Lock}
use Rattle.lu_msg.specs.declared.answers.Answer.{Answer}
use Rattle.lu_msg.specs.declared.commits.Batch.{Batch}
use Rattle.lu_msg.specs.declared.commits.KeptReply.{KeptReply}
use Rattle.lu_msg.specs.declared.messages.GrantNotice.{GrantNotice}
use Rattle.lu_msg.specs.declared.messages.LockReplay.{LockReplay}
use Rattle.lu_msg.specs.declared.messages.Message.{Message}
use Rattle.lu_msg.specs.declared.messages.Message.TheVariants as message
use Rattle.lu_msg.specs.declared.messages.Reply.{Reply as ReplyTo}
use Rattle.lu_msg.specs.declared.messages.RequestReplay.{RequestReplay}
use Rattle.lu_msg.specs.declared.operations.Op.{Op}
use Rattle.lu_msg.specs.declared.operations.Op.TheVariants as op
use Rattle.lu_held.specs.declared.locks.HeldLock.{HeldLock}
use Rattle.lu_held.specs.declared.names.LockName.{LockName}
use Rattle.lu_held.specs.declared.locks.Change.{Change}
use Rattle.lu_held.specs.declared.locks.Change.TheVariants as change
use Rattle.lu_held.specs.Held.{changed, used, without, unmarked}
use Rattle.lu_held.specs.Locks.{is_named, named, after}
use Rattle.lu_spec_machine.specs.Footprint.{answer}
use Rattle.lu_spec_entries.specs.Carried.{Deed, Slot, LifeSlot, Gone, Flight, Contents, Disk, Outcome}
use Rattle.lu_spec_entries.specs.Words.{Entry, Send, Act, Txn, Grant, Wait, Answers, Release, Evict, Enters, Commit, Boot, Close, Stores}
use Rattle.lu_spec_entries.specs.Words.{Brings, Heard, Hold, Drop, Pins, Unpins, Marks, Unmarks, Life, Settles, Line, line, same_life}
use Rattle.lu_spec_client.specs.Caches.{held_as, with_held, with_brought, granted_lock, brought, held_at}
use Rattle.lu_spec_client.specs.Imports.{Replay, with_reply, with_replay, replay_of}
use Rattle.lu_spec_client.specs.Imports as imports
use Rattle.lu_spec_client.specs.Recovery.{lock_replayed}
use Rattle.lu_spec_target.specs.Kept.{replayed}
use Rattle.lu_spec_target.specs.Lives.{is_life, slots_kept, slots_without, lives_of as lives_in}
use Rattle.lu_spec_target.specs.Outcomes as rows
use Rattle.lu_spec_target.specs.Outcomes.{deed_again, answer_of, redone}
use Rattle.lu_spec_target.specs.Recovery.{commit_of, kept_lines, restore_lines}
use Rattle.lu_spec_target.specs.Rows.{lock_again}
use Rattle.lu_spec_target.specs.States.{Target as TargetOf}
use Rattle.lu_spec_target.specs.Stored.{batch_of, replies_of}
use Rattle.lu_spec_target.specs.Windows.{Replayed, replay_before, brought_before, settled, kept_numbers}
use Rattle.lu_proof_lawful.specs.Covered.ClientStates.{life_of, is_own, kept_of as kept_by}
use Rattle.lu_proof_lawful.specs.Covered.Heads.{Head}
use Rattle.lu_proof_lawful.specs.Covered.TargetCloses.{disk_of, recovering_of, outcome_of, closing_of, but_first, shows, shows_evicted}
use Rattle.lu_proof_lawful.specs.Covered.TargetCloses.{shows_ready, shows_joined, staying}
use Rattle.lu_proof_lawful.specs.Covered.TargetParts.{is_slot_of as is_slot, answered, entered}
use Rattle.lu_proof_lawful.specs.Covered.TargetStates.{none, server_of, slot_of, lives_of, replays_of, brought_of}
use Rattle.lu_proof_lawful.proofs.Preconditions.Guards.{In, Was}
use Rattle.lu_proof_lawful.proofs.Preconditions.Heard.{HeardAs}
use Rattle.lu_proof_lawful.proofs.Preconditions.ClientStoryGuards.{GivenOf}
use Rattle.lu_proof_lawful.proofs.Preconditions.StoryGuards.{SendOf, EntryOf, HeldOk, CommitOk, CloseOk, Due}
use Rattle.lu_proof_lawful.proofs.Preconditions.Lists.{turn, in_append, in_filter, life_is}
use Rattle.lu_proof_lawful.proofs.Preconditions.ClientLocks.{with_only, changed_only, used_only, without_only, unmarked_only}
use Rattle.lu_proof_lawful.proofs.Preconditions.CloseLists.{in_placed, in_restored, in_deeds, in_kept, in_replies, in_batch, in_slot}
use Rattle.lu_proof_lawful.proofs.Preconditions.QueueLists.{in_with, in_with_all}
use Rattle.lu_proof_lawful.proofs.Preconditions.NamesGrant.{Ungranted, none_granted, ungranted, granted_who, Fine, Noticed, in_but}
use Rattle.lu_proof_lawful.proofs.Preconditions.NamesGrant.{in_with_replay}

module _ (n : ℕ) (G : Lock → Type 0) (T : Who → ℕ → Answer → Type 0) (head : Head) where
  -- so are all replies that the target keeps, has on its disk, is to put there by a close, or sent; and what it has granted, and clients
  -- have of
  -- it, tell in a recovery, and it has taken then
  pub record Has (past : List Line) : Type 0 where
    pub slots : (who : Who) (tag : ℕ) (k : ReplyTo) → (slot_of who tag past).reply ≡ Some k → Fine n G T k
    pub disk : (s : LifeSlot) (k : ReplyTo) → In s (disk_of head.osts head.clients past).slots → s.slot.reply ≡ Some k → Fine n G T k
    pub log : (d : Deed) → In d (server_of head.osts past).log → Fine n G T d.reply
    pub closing : (to : ℕ) (batch : Batch) (k : KeptReply) → In (Commit to batch) (closing_of head.clients past) → In k batch.replies
        → Fine n G T k.reply
    pub granted : (l : Lock) → In l (server_of head.osts past).granted → G l
    pub replays : (r : Replayed) → In r (replays_of past) → r.number ≤ n
    pub brought : (l : Lock) → In l (brought_of past) → G l
    pub sent : (from to : Node) (k : ReplyTo) → Was past from to (message.Reply k) → Fine n G T k
    pub notices : (from to : Node) (g : GrantNotice) → Was past from to (message.Grant g) → Noticed G g
    pub locks : (from to : Node) (r : LockReplay) → Was past from to (message.Lock r) → G (lock_again r)
    pub told : (from to : Node) (r : RequestReplay) → Was past from to (message.Replay r) → r.txn.0 ≤ n
    pub held : (c : ℕ) (x : HeldLock) → In x (held_at c past) → G x.lock × (x.lock.ask.who ≡ life_of c past)
    pub kept : (who : Who) (r : Replay) → In r (kept_by who past).replays → r.txn.0 ≤ n
    pub heard : (who : Who) (f : Flight) (r : ReplyTo) → HeardAs past who f r → Fine n G T r × (r.who ≡ who) × (f.xid ≡ r.xid.0)

  -- what of it is the target's own, what was sent, and what clients have
  abbrev TargetsPart : List Line → Type 0
  TargetsPart past =
      record {
        slots : (who : Who) (tag : ℕ) (k : ReplyTo) → (slot_of who tag past).reply ≡ Some k → Fine n G T k;
        disk : (s : LifeSlot) (k : ReplyTo) → In s (disk_of head.osts head.clients past).slots → s.slot.reply ≡ Some k → Fine n G T k;
        log : (d : Deed) → In d (server_of head.osts past).log → Fine n G T d.reply;
        closing : (to : ℕ) (batch : Batch) (k : KeptReply) → In (Commit to batch) (closing_of head.clients past) → In k batch.replies
            → Fine n G T k.reply;
        granted : (l : Lock) → In l (server_of head.osts past).granted → G l;
        replays : (r : Replayed) → In r (replays_of past) → r.number ≤ n;
        brought : (l : Lock) → In l (brought_of past) → G l;
      }

  abbrev SentPart : List Line → Type 0
  SentPart past =
      record {
        sent : (from to : Node) (k : ReplyTo) → Was past from to (message.Reply k) → Fine n G T k;
        notices : (from to : Node) (g : GrantNotice) → Was past from to (message.Grant g) → Noticed G g;
        locks : (from to : Node) (r : LockReplay) → Was past from to (message.Lock r) → G (lock_again r);
        told : (from to : Node) (r : RequestReplay) → Was past from to (message.Replay r) → r.txn.0 ≤ n;
      }

  abbrev ClientsPart : List Line → Type 0
  ClientsPart past =
      record {
        held : (c : ℕ) (x : HeldLock) → In x (held_at c past) → G x.lock × (x.lock.ask.who ≡ life_of c past);
        kept : (who : Who) (r : Replay) → In r (kept_by who past).replays → r.txn.0 ≤ n;
        heard : (who : Who) (f : Flight) (r : ReplyTo) → HeardAs past who f r → Fine n G T r × (r.who ≡ who) × (f.xid ≡ r.xid.0);
      }

  own_of : (past : List Line) → Has past → TargetsPart past
  own_of past h = record {
    slots = h.slots;
    disk = h.disk;
    log = h.log;
    closing = h.closing;
    granted = h.granted;
    replays = h.replays;
    brought = h.brought;
  }

  sent_of : (past : List Line) → Has past → SentPart past
  sent_of past h = record { sent = h.sent; notices = h.notices; locks = h.locks; told = h.told }

  client_of : (past : List Line) → Has past → ClientsPart past
  client_of past h = record { held = h.held; kept = h.kept; heard = h.heard }

  has_of : (past : List Line) → TargetsPart past → SentPart past → ClientsPart past → Has past
  has_of past t s c =
      record {
        slots = t.slots;
        disk = t.disk;
        log = t.log;
        closing = t.closing;
        granted = t.granted;
        replays = t.replays;
        brought = t.brought;
        sent = s.sent;
        notices = s.notices;
        locks = s.locks;
        told = s.told;
        held = c.held;
        kept = c.kept;
        heard = c.heard;
      }

  pub has_start : Has []
  has_start =
      record {
        slots = λ who tag k e. absurd (cc);
        disk = λ s k i. absurd i;
        log = λ d i. absurd i;
        closing = λ to batch k i. absurd i;
        granted = λ l i. absurd i;
        replays = λ r i. absurd i;
        brought = λ l i. absurd i;
        sent = λ from to k was. absurd was;
        notices = λ from to g was. absurd was;
        locks = λ from to r was. absurd was;
        told = λ from to r was. absurd was;
        held = λ c x i. absurd i;
        kept = λ who r i. absurd i;
        heard = λ who f r k. absurd k;
      }

  -- ---- what is sent

  abbrev New : Message → Type 0
  New (message.Reply k) = Fine n G T k
  New (message.Lock r) = G (lock_again r)
  New (message.Replay r) = r.txn.0 ≤ n
  New (message.Grant g) = Noticed G g
  New _ = Unit {0}

  -- a lock that is brought back is the one that was held
  lock_same : (who : Who) (boot : ℕ) (l : Lock) → l.ask.who ≡ who → l ≡ lock_again (lock_replayed who boot l)
  lock_same who boot l own = ap (λ (w : Who). record {
    cookie = l.cookie;
    resource = l.resource;
    ask =
        record { who = w; mode = l.ask.mode; policy = l.ask.policy };
  }) own

  sends : (past : List Line) (from to : Node) (m : Message) → SendOf head past from to m → Has past → New m
  sends past (Target t) (Client c) (message.Reply k) ok h = subst (λ (r : ReplyTo). Fine n G T r) (sym ok.is)
      (let f = h.slots ok.who ok.tag ok.kept ok.slot in record { number = f.number; locks = f.locks; answer = f.answer })
  sends past (Target t) (Target c) (message.Reply k) ok h = absurd ok
  sends past (Client t) (Client c) (message.Reply k) ok h = absurd ok
  sends past (Client t) (Target c) (message.Reply k) ok h = absurd ok
  sends past (Client c) (Target t) (message.Lock r) ok h =
      let x = h.held c ok.holding ok.held in
      let own : ok.holding.lock.ask.who ≡ r.who = x.1 ∙ sym ok.tells.of_life in
      subst G (lock_same r.who r.boot ok.holding.lock own ∙ ap lock_again (sym ok.is)) x.0
  sends past (Target c) (Client t) (message.Lock r) ok h = absurd ok
  sends past (Target c) (Target t) (message.Lock r) ok h = absurd ok
  sends past (Client c) (Client t) (message.Lock r) ok h = absurd ok
  sends past (Client c) (Target t) (message.Replay r) ok h = let low = h.kept r.who ok.replay ok.kept in let same : r.txn.0
      ≡ ok.replay.txn.0 = ap (λ (x : RequestReplay). x.txn.0) ok.is in omega (arith, low, same)
  sends past (Target c) (Client t) (message.Replay r) ok h = absurd ok
  sends past (Target c) (Target t) (message.Replay r) ok h = absurd ok
  sends past (Client c) (Client t) (message.Replay r) ok h = absurd ok
  sends past (Target t) (Client c) (message.Grant g) ok h = (
    ok.lock,
    h.granted ok.lock ok.granted,
    ap (λ (x : GrantNotice). x.who) ok.is,
    ap (λ (x : GrantNotice). x.cookie) ok.is,
    ap (λ (x : GrantNotice). x.extent) ok.is,
  )
  sends past (Target t) (Target c) (message.Grant g) ok h = absurd ok
  sends past (Client t) (Client c) (message.Grant g) ok h = absurd ok
  sends past (Client t) (Target c) (message.Grant g) ok h = absurd ok
  sends past from to m ok h = tt

  -- ---- batches

  -- the replies of the deeds of a log
  of_deeds : (ds : List Deed) → ((d : Deed) → In d ds → Fine n G T d.reply) → (k : KeptReply) → In k (replies_of ds []) → Fine n G T k.reply
  of_deeds ds each k i = ⊎_elim (λ (r : (d : Deed) × In d ds × (k.reply ≡ d.reply)). subst (λ (x : ReplyTo). Fine n G T x) (sym r.2)
      (each r.0 r.1)) (λ (j : In k []). absurd j) (in_replies ds [] k i)

  of_batch : (past : List Line) (at : At) (to : ℕ) (batch : Batch) → CommitOk head past at to batch → Has past → (k : KeptReply)
      → In k batch.replies → Fine n G T k.reply
  of_batch past at to batch ok h k i = by ok.of_batch
    where
      upto : List Deed
      upto = filter (λ (d : Deed). not (nat_lt to d.reply.txn.0)) (server_of head.osts past).log

      by : (batch ≡ batch_of upto batch.removed batch.added) ⊎ Due head past at (Commit to batch) → Fine n G T k.reply
      by (inl is) = of_deeds upto (λ d j. h.log d (in_filter (λ (x : Deed). not (nat_lt to x.reply.txn.0)) d (server_of head.osts past).log
          j).0) k (subst (λ (b : Batch). In k b.replies) is i)
      by (inr due) = h.closing to batch k (subst (λ (es : List Entry). In (Commit to batch) es) (sym due.1) (inl refl)) i

  -- what stands in the slots that it leaves
  of_slots : (gone : List Who) (ks : List KeptReply) (slots : List LifeSlot) → ((k : KeptReply) → In k ks → Fine n G T k.reply)
      → ((s : LifeSlot) (k : ReplyTo) → In s slots → s.slot.reply ≡ Some k → Fine n G T k)
      → (s : LifeSlot) (k : ReplyTo) → In s (slots_without gone (slots_kept ks slots)) → s.slot.reply ≡ Some k → Fine n G T k
  of_slots gone ks slots new old s k i e =
      ⊎_elim (λ (r : (x : KeptReply) × In x ks × (s.slot.reply ≡ Some x.reply)). let same : Some r.0.reply ≡ Some k = sym r.2 ∙ e
      in let is : r.0.reply ≡ k = cc in subst (λ (x : ReplyTo). Fine n G T x) is (new r.0 r.1))
      (λ (j : In s slots). old s k j e) (in_batch gone ks slots s i)

  -- ---- a close

  answers : (osts : ℕ) (c : Contents) (r : Replayed) (o : Op) → Ungranted (answer_of osts c r o)
  answers osts c r (op.Put resource cookie offset bytes) = tt
  answers osts c r (op.Cut resource cookie size) = tt
  answers osts c r o = ungranted osts c.tree (redone r).number (redone r).who (redone r).op

  -- a kept replay's reply is as new, without locks
  deed_fine : (v : TargetOf) (at : At) (c : Contents) (r : Replayed) → r.number ≤ n → Fine n G T (deed_again v at c r).reply
  deed_fine v at c r low = record { number = low; locks = λ l i. absurd i; answer = inl (answers v.setting.osts c r r.op) }

  pub deeds_fine : (past : List Line) (at : At) → Has past → (d : Deed) → In d (outcome_of head.osts head.clients at past).kept
      → Fine n G T d.reply
  deeds_fine past at h d i =
      let v = recovering_of head.osts head.clients past in
      let w = rows.window_of v in
      let r = in_deeds v at v.disk.contents (settled w).kept d i in
      subst (λ (x : Deed). Fine n G T x.reply) r.2.1 (deed_fine v at r.2.0 r.0 (h.replays r.0 (in_kept (kept_numbers w) w.replays r.0 r.1)))

  -- the one commit that it shows has the kept ones
  abbrev NoCommit : Entry → Type 0
  NoCommit (Commit to batch) = ⊥
  NoCommit _ = Unit {0}

  not_kept : (ds : List Deed) (e : Entry) → In e (kept_lines ds) → NoCommit e
  not_kept [] e i = absurd i
  not_kept (d ∷ ds) e (inl q) = subst NoCommit q tt
  not_kept (d ∷ ds) e (inr i) = not_kept ds e i

  not_restored : (ls : List Lock) (e : Entry) → In e (restore_lines ls) → NoCommit e
  not_restored [] e i = absurd i
  not_restored (l ∷ ls) e (inl q) = subst NoCommit q tt
  not_restored (l ∷ ls) e (inr i) = not_restored ls e i

  not_evicted : (o : Outcome) (gone : List Gone) (e : Entry) → In e (shows_evicted o gone) → NoCommit e
  not_evicted o [] e i = absurd i
  not_evicted o (g ∷ gone) e (inl q) = subst NoCommit q tt
  not_evicted o (g ∷ gone) e (inr (inl q)) = subst NoCommit q tt
  not_evicted o (g ∷ gone) e (inr (inr i)) = not_evicted o gone e i

  not_ready : (o : Outcome) (lives : List Who) (e : Entry) → In e (shows_ready o lives) → NoCommit e
  not_ready o [] e i = absurd i
  not_ready o (w ∷ lives) e (inl q) = subst NoCommit q tt
  not_ready o (w ∷ lives) e (inr i) = not_ready o lives e i

  not_joined : (o : Outcome) (lives : List Who) (e : Entry) → In e (shows_joined o lives) → NoCommit e
  not_joined o [] e i = absurd i
  not_joined o (w ∷ lives) e (inl q) = subst NoCommit q tt
  not_joined o (w ∷ lives) e (inr (inl q)) = subst NoCommit q tt
  not_joined o (w ∷ lives) e (inr (inr i)) = not_joined o lives e i

  not_rest : (o : Outcome) (lives : List Who) (e : Entry) → In e
      (kept_lines o.kept ++ (restore_lines o.locks ++ (shows_evicted o o.gone
      ++ (shows_ready o (staying o lives) ++ shows_joined o o.joins)))) → NoCommit e
  not_rest o lives e i =
      ⊎_elim (not_kept o.kept e)
      (λ (j : In e (restore_lines o.locks ++ (shows_evicted o o.gone ++ (shows_ready o (staying o lives) ++ shows_joined o o.joins)))).
      ⊎_elim (not_restored o.locks e)
      (λ (k : In e (shows_evicted o o.gone ++ (shows_ready o (staying o lives) ++ shows_joined o o.joins))).
      ⊎_elim (not_evicted o o.gone e)
      (λ (m : In e (shows_ready o (staying o lives) ++ shows_joined o o.joins)). ⊎_elim (not_ready o (staying o lives) e)
      (not_joined o o.joins e) (in_append e (shows_ready o (staying o lives)) (shows_joined o o.joins) m))
      (in_append e (shows_evicted o o.gone) (shows_ready o (staying o lives) ++ shows_joined o o.joins) k))
      (in_append e (restore_lines o.locks) (shows_evicted o o.gone ++ (shows_ready o (staying o lives) ++ shows_joined o o.joins)) j))
      (in_append e (kept_lines o.kept) (restore_lines o.locks ++ (shows_evicted o o.gone
      ++ (shows_ready o (staying o lives) ++ shows_joined o o.joins))) i)

  pub shown_commit : (o : Outcome) (lives : List Who) (to : ℕ) (batch : Batch) → In (Commit to batch) (shows o lives) → batch
      ≡ batch_of o.kept (lives_in o.gone) o.joins
  shown_commit o lives to batch (inl e) = of_commit (sym e)
    where
      of_commit : Commit to batch ≡ commit_of o → batch ≡ batch_of o.kept (lives_in o.gone) o.joins
      of_commit q = cc
  shown_commit o lives to batch (inr i) = absurd (not_rest o lives (Commit to batch) i)

  -- ---- what a client holds, and keeps for recovery

  -- held locks, with what holds of each
  abbrev Good : List Line → ℕ → HeldLock → Type 0
  Good past c x = G x.lock × (x.lock.ask.who ≡ life_of c past)

  good_lock : (past : List Line) (c : ℕ) (x y : HeldLock) → x.lock ≡ y.lock → Good past c x → Good past c y
  good_lock past c x y e k = subst (λ (l : Lock). G l × (l.ask.who ≡ life_of c past)) e k

  good_changed : (past : List Line) (c : ℕ) (b : Bool) (k : Change) (x y : HeldLock) → (if b then after k x else x) ≡ y → Good past c x
      → Good past c y
  good_changed past c true k x y e g = good_lock past c x y (same k ∙ ap (λ (z : HeldLock). z.lock) e) g
    where
      same : (k : Change) → x.lock ≡ (after k x).lock
      same change.Mark = refl
      same change.Unmark = refl
      same change.Pin = refl
      same change.Unpin = refl
  good_changed past c false k x y e g = good_lock past c x y (ap (λ (z : HeldLock). z.lock) e) g

  brought_from : (t : ℕ) (ls : List Lock) (hs : List HeldLock) (x : HeldLock) → In x (with_brought t ls hs)
      → ((l : Lock) × In l ls × (held_as t l false ≡ x)) ⊎ In x hs
  brought_from t [] hs x i = inr i
  brought_from t (l ∷ ls) hs x i =
      ⊎_elim (λ (r : (k : Lock) × In k ls × (held_as t k false ≡ x)). inl (r.0, inr r.1, r.2))
      (λ (j : In x (with_held (held_as t l false) hs)). ⊎_elim (λ (e : held_as t l false ≡ x). inl (l, inl refl, e))
      (λ (m : In x hs). inr m) (with_only (held_as t l false) x hs j))
      (brought_from t ls (with_held (held_as t l false) hs) x i)

  in_with_reply : (f : Flight) (r : ReplyTo) (q : Replay) (rs : List Replay) → In q (with_reply f r rs) → (replay_of f r ≡ q) ⊎ In q rs
  in_with_reply f r q rs = by (nat_eq r.txn.0 0)
    where
      by : (b : Bool) → In q (if b then rs else with_replay (replay_of f r) rs) → (replay_of f r ≡ q) ⊎ In q rs
      by true i = inr i
      by false i = in_with_replay (replay_of f r) q rs i

  -- ---- line by line

  -- what was just done, and the locks that come with it, with a reply, or with what a client is told of one that it waited for
  abbrev pub Own : Entry → Type 0
  Own (Act d) = Fine n G T d.reply
  Own (Txn d) = Fine n G T d.reply
  Own (Wait lock d) = Fine n G T d.reply
  Own (Answers d) = Fine n G T d.reply
  Own (Grant lock None) = G lock
  Own (Grant lock (Some d)) = Fine n G T d.reply × G lock
  Own (Heard t f r) = T r.who r.xid.0 r.answer → (l : Lock) → In l (granted_lock f.op r r.answer) → G l
  Own (Hold t lock marked size seen) = G lock
  Own _ = Unit {0}

  module _ (past : List Line) (here : At) where
    abbrev Next : Node → Entry → List Line
    Next node e = line (turn here.stamp node) e ∷ past

    abbrev Goes : Node → Entry → Type 0
    Goes node e = EntryOf head past here node e → Own e → Has past → Has (Next node e)

    -- one that is sent, or was
    was_or : (from to : Node) (k : Message) (e : Message) (x y : Node) → (New e) → ((x ≡ from) × (y ≡ to) × (e ≡ k)) ⊎ Was past from to k
        → New k ⊎ Was past from to k
    was_or from to k e x y new (inl q) = inl (subst New q.2 new)
    was_or from to k e x y new (inr w) = inr w

    sends_more : (node to : Node) (m : Message) → SendOf head past node to m → Has past → SentPart (Next node (Send to m))
    sends_more node to m ok h =
        record {
          sent = λ from x k was. ⊎_elim (λ (f : New (message.Reply k)). f) (λ (w : Was past from x (message.Reply k)). h.sent from x k w)
              (was_or from x (message.Reply k) m node to new was);
          notices = λ from x k was. ⊎_elim (λ (f : New (message.Grant k)). f)
              (λ (w : Was past from x (message.Grant k)). h.notices from x k w) (was_or from x (message.Grant k) m node to new was);
          locks = λ from x k was. ⊎_elim (λ (f : New (message.Lock k)). f) (λ (w : Was past from x (message.Lock k)). h.locks from x k w)
              (was_or from x (message.Lock k) m node to new was);
          told = λ from x k was. ⊎_elim (λ (f : New (message.Replay k)). f) (λ (w : Was past from x (message.Replay k)). h.told from x k w)
              (was_or from x (message.Replay k) m node to new was);
        }
      where
        new : New m
        new = sends past node to m ok h

    -- what a target keeps for those whose requests are answered
    slots_more : (d : Deed) → Fine n G T d.reply → Has past → (who : Who) (tag : ℕ) (k : ReplyTo)
        → (if is_slot who tag d.reply.who d.tag then answered d (slot_of who tag past) else slot_of who tag past).reply ≡ Some k
        → Fine n G T k
    slots_more d own h who tag k =
        cond_both (is_slot who tag d.reply.who d.tag) (answered d (slot_of who tag past)) (slot_of who tag past)
        (λ (x : Slot). x.reply ≡ Some k → Fine n G T k)
        (λ q e. let is : d.reply ≡ k = cc in subst (λ (x : ReplyTo). Fine n G T x) is own)
        (λ q e. h.slots who tag k e)

    closing_more : Has past → (to : ℕ) (batch : Batch) (k : KeptReply) → In (Commit to batch) (but_first (closing_of head.clients past))
        → In k batch.replies → Fine n G T k.reply
    closing_more h to batch k i j = h.closing to batch k (in_but (Commit to batch) (closing_of head.clients past) i) j

    closes : (t : ℕ) (o : Outcome) → CloseOk head past here o → Has past → Has (Next (Target t) (Close o))
    closes t o ok h = subst (λ (x : Outcome). Has (Next (Target t) (Close x))) (sym ok.is)
        (has_of (Next (Target t) (Close x)) by_outcome (sent_of past h) (client_of past h))
      where
        x : Outcome
        x = outcome_of head.osts head.clients here past

        replies : (k : KeptReply) → In k (replies_of x.kept []) → Fine n G T k.reply
        replies k i = of_deeds x.kept (deeds_fine past here h) k i

        slots : (s : LifeSlot) (k : ReplyTo) → In s x.disk.slots → s.slot.reply ≡ Some k → Fine n G T k
        slots = of_slots (lives_in x.gone) (replies_of x.kept []) (disk_of head.osts head.clients past).slots replies h.disk

        by_outcome : TargetsPart (Next (Target t) (Close x))
        by_outcome =
            record {
              slots = λ who tag k e. let r = in_slot x.disk.slots who tag k e in slots r.0 k r.1 r.2;
              disk = h.disk;
              log = λ d i. absurd i;
              closing = λ to batch k i j. replies k (subst (λ (b : Batch). In k b.replies)
                  (shown_commit x (lives_of head.clients past) to batch i) j);
              granted = λ l i. h.brought l (in_filter (λ (k : Lock). not (is_life k.ask.who (lives_in x.gone))) l (brought_of past)
                  (in_restored [] (filter (λ (k : Lock). not (is_life k.ask.who (lives_in x.gone))) (brought_of past)) l i)).0;
              replays = λ r i. absurd i;
              brought = λ l i. absurd i;
            }

    heard_held : (c t : ℕ) (f : Flight) (r : ReplyTo) → Fine n G T r → Own (Heard t f r) → r.who ≡ life_of c past → Has past
        → (d : ℕ) (x : HeldLock) → In x (held_at d (Next (Client c) (Heard t f r))) → Good past d x
    heard_held c t f r fine own who h d x =
        cond_both (nat_eq d c) (with_brought t (brought f.op r) (held_at d past)) (held_at d past)
        (λ (gs : List HeldLock). In x gs → Good past d x)
        (λ q i. let same = eqb-true d c q in
        ⊎_elim (λ (m : (l : Lock) × In l (brought f.op r) × (held_as t l false ≡ x)). good_lock past d (held_as t m.0 false) x
        (ap (λ (z : HeldLock). z.lock) m.2) (subst (λ (u : ℕ). Good past u (held_as t m.0 false)) (sym same) (new m.0 m.1)))
        (λ (j : In x (held_at d past)). h.held d x j) (brought_from t (brought f.op r) (held_at d past) x i))
        (λ q i. h.held d x i)
      where
        new : (l : Lock) → In l (brought f.op r) → Good past c (held_as t l false)
        new l i =
            ⊎_elim (λ (j : In l r.locks). let k = fine.locks l j in (k.0, k.1 ∙ who))
            (λ (j : In l (granted_lock f.op r r.answer)). (granted fine.answer l j, granted_who f.op r r.answer l j ∙ who))
            (in_append l r.locks (granted_lock f.op r r.answer) i)
          where
            granted : Ungranted r.answer ⊎ T r.who r.xid.0 r.answer → (k : Lock) → In k (granted_lock f.op r r.answer) → G k
            granted (inl none) k j = absurd (subst (λ (ls : List Lock). In k ls) (none_granted f.op r r.answer none) j)
            granted (inr tells) k j = own tells k j

    heard_kept : (f : Flight) (r : ReplyTo) → Fine n G T r → (who : Who) → Has past → (q : Replay)
        → In q (with_reply f r (kept_by who past).replays) → q.txn.0 ≤ n
    heard_kept f r fine who h q i = ⊎_elim (λ (e : replay_of f r ≡ q). subst (λ (x : Replay). x.txn.0 ≤ n) e fine.number)
        (λ (j : In q (kept_by who past).replays). h.kept who q j) (in_with_reply f r q (kept_by who past).replays i)

    -- a lock that is held already, or is given to the life
    hold_who : (c t : ℕ) (lock : Lock) (marked : Bool) (seen : List ℕ) → ((marked ≡ false) × HeldOk past c t lock seen)
        ⊎ GivenOf past c t lock seen → Has past → lock.ask.who ≡ life_of c past
    hold_who c t lock marked seen (inl ok) h = (h.held c (held_as t lock false) ok.1.held).1
    hold_who c t lock marked seen (inr ok) h = ok.of_life ∙ ok.who

    hold_held : (c t : ℕ) (lock : Lock) (marked : Bool) → G lock → lock.ask.who ≡ life_of c past → Has past → (d : ℕ) (x : HeldLock)
        → In x (if nat_eq d c then with_held (held_as t lock marked) (held_at d past) else held_at d past) → Good past d x
    hold_held c t lock marked own who h d x =
        cond_both (nat_eq d c) (with_held (held_as t lock marked) (held_at d past)) (held_at d past)
        (λ (gs : List HeldLock). In x gs → Good past d x)
        (λ q i. let same = eqb-true d c q in
        ⊎_elim (λ (e : held_as t lock marked ≡ x). good_lock past d (held_as t lock marked) x (ap (λ (z : HeldLock). z.lock) e)
        (subst (λ (u : ℕ). Good past u (held_as t lock marked)) (sym same) (own, who)))
        (λ (j : In x (held_at d past)). h.held d x j) (with_only (held_as t lock marked) x (held_at d past) i))
        (λ q i. h.held d x i)

    changed_held : (name : LockName) (k : Change) → Has past → (c d : ℕ) (x : HeldLock)
        → In x (if nat_eq d c then changed name k (held_at d past) else held_at d past) → Good past d x
    changed_held name k h c d x =
        cond_both (nat_eq d c) (changed name k (held_at d past)) (held_at d past) (λ (gs : List HeldLock). In x gs → Good past d x)
        (λ q i. let r = changed_only name k x (held_at d past) i in good_changed past d (is_named name r.0) k r.0 x r.2 (h.held d r.0 r.1))
        (λ q i. h.held d x i)

    lives : (c : ℕ) (new : Who) → held_at c past ≡ [] → Has past → (d : ℕ) (x : HeldLock) (b : Bool) → nat_eq d c ≡ b
        → In x (held_at d past) → G x.lock × (x.lock.ask.who ≡ (if b then new else life_of d past))
    lives c new empty h d x true q i = absurd (subst (λ (hs : List HeldLock). In x hs)
        (ap (λ (u : ℕ). held_at u past) (eqb-true d c q) ∙ empty) i)
    lives c new empty h d x false q i = h.held d x i

    by : (node : Node) (e : Entry) → Goes node e
    by (Target t) (Send to m) ok own h =
        has_of (Next (Target t) (Send to m))
        (record {
          slots = h.slots;
          disk = h.disk;
          log = h.log;
          closing = closing_more h;
          granted = h.granted;
          replays = h.replays;
          brought =
              h.brought;
        })
        (sends_more (Target t) to m ok h) (client_of past h)
    by (Target t) (Enters r) ok own h =
        has_of (Next (Target t) (Enters r))
        (record {
          slots = λ who tag k. cond_both (is_slot who tag r.who r.tag) (entered r) (slot_of who tag past)
              (λ (x : Slot). x.reply ≡ Some k → Fine n G T k) (λ q e. absurd (cc)) (λ q e. h.slots who tag k e);
          disk = h.disk;
          log = h.log;
          closing = closing_more h;
          granted = h.granted;
          replays = h.replays;
          brought = h.brought;
        })
        (sent_of past h) (client_of past h)
    by (Target t) (Act d) ok own h =
        has_of (Next (Target t) (Act d))
        (record {
          slots = slots_more d own h;
          disk = h.disk;
          log = h.log;
          closing = closing_more h;
          granted = λ l i. ⊎_elim (λ (j : In l d.reply.locks). (own.locks l j).0)
              (λ (j : In l (server_of head.osts past).granted). h.granted l j)
              (in_with_all l d.reply.locks (server_of head.osts past).granted i);
          replays = h.replays;
          brought = h.brought;
        })
        (sent_of past h) (client_of past h)
    by (Target t) (Txn d) ok own h =
        has_of (Next (Target t) (Txn d))
        (record {
          slots = slots_more d own h;
          disk = h.disk;
          log = λ x i. ⊎_elim (λ (j : In x (server_of head.osts past).log). h.log x j)
              (λ (j : In x (d ∷ [])). ⊎_elim (λ (e : d ≡ x). subst (λ (y : Deed). Fine n G T y.reply) e own) (λ (k : ⊥). absurd k) j)
              (in_append x (server_of head.osts past).log (d ∷ []) i);
          closing = closing_more h;
          granted = h.granted;
          replays = h.replays;
          brought = h.brought;
        })
        (sent_of past h) (client_of past h)
    by (Target t) (Grant lock None) ok own h =
        has_of (Next (Target t) (Grant lock None))
        (record {
          slots = h.slots;
          disk = h.disk;
          log = h.log;
          closing = closing_more h;
          granted = λ l i. ⊎_elim (λ (e : lock ≡ l). subst G e own) (λ (j : In l (server_of head.osts past).granted). h.granted l j)
              (in_with l lock (server_of head.osts past).granted i);
          replays = h.replays;
          brought = h.brought;
        })
        (sent_of past h) (client_of past h)
    by (Target t) (Grant lock (Some d)) ok own h =
        has_of (Next (Target t) (Grant lock (Some d)))
        (record {
          slots = slots_more d own.0 h;
          disk = h.disk;
          log = h.log;
          closing = closing_more h;
          granted = λ l i. ⊎_elim (λ (e : lock ≡ l). subst G e own.1) (λ (j : In l (server_of head.osts past).granted). h.granted l j)
              (in_with l lock (server_of head.osts past).granted i);
          replays = h.replays;
          brought = h.brought;
        })
        (sent_of past h) (client_of past h)
    by (Target t) (Wait lock d) ok own h =
        has_of (Next (Target t) (Wait lock d))
        (record {
          slots = slots_more d own h;
          disk = h.disk;
          log = h.log;
          closing = closing_more h;
          granted = h.granted;
          replays =
              h.replays;
          brought = h.brought;
        })
        (sent_of past h) (client_of past h)
    by (Target t) (Answers d) ok own h =
        has_of (Next (Target t) (Answers d))
        (record {
          slots = slots_more d own h;
          disk = h.disk;
          log = h.log;
          closing = closing_more h;
          granted = h.granted;
          replays =
              h.replays;
          brought = h.brought;
        })
        (sent_of past h) (client_of past h)
    by (Target t) (Release lock) ok own h =
        has_of (Next (Target t) (Release lock))
        (record {
          slots = h.slots;
          disk = h.disk;
          log = h.log;
          closing = closing_more h;
          granted = λ l i. h.granted l (in_filter (λ (k : Lock). not (nat_eq k.cookie.0 lock.cookie.0)) l (server_of head.osts past).granted
              i).0;
          replays = h.replays;
          brought = h.brought;
        })
        (sent_of past h) (client_of past h)
    by (Target t) (Evict who cause) ok own h =
        has_of (Next (Target t) (Evict who cause))
        (record {
          slots = h.slots;
          disk = h.disk;
          log = h.log;
          closing = closing_more h;
          granted = λ l i. h.granted l (in_filter (λ (k : Lock). not (is_life k.ask.who (who ∷ []))) l (server_of head.osts past).granted
              i).0;
          replays = h.replays;
          brought = h.brought;
        })
        (sent_of past h) (client_of past h)
    by (Target t) (Commit to batch) ok own h =
        has_of (Next (Target t) (Commit to batch))
        (record {
          slots = h.slots;
          disk = of_slots batch.removed batch.replies (disk_of head.osts head.clients past).slots (of_batch past here to batch ok h) h.disk;
          log = λ d i. h.log d (in_filter (λ (x : Deed). nat_lt to x.reply.txn.0) d (server_of head.osts past).log i).0;
          closing = closing_more h;
          granted = h.granted;
          replays = h.replays;
          brought = h.brought;
        })
        (sent_of past h) (client_of past h)
    by (Target t) (Boot boot disk) ok own h =
        has_of (Next (Target t) (Boot boot disk))
        (record {
          slots = h.slots;
          disk = λ s k i e. h.disk s k (subst (λ (x : Disk). In s x.slots) ok.of_disk i) e;
          log = h.log;
          closing = closing_more h;
          granted = h.granted;
          replays = λ r i. absurd i;
          brought = λ l i. absurd i;
        })
        (sent_of past h) (client_of past h)
    by (Target t) (Stores replay) ok own h =
        has_of (Next (Target t) (Stores replay))
        (record {
          slots = h.slots;
          disk = h.disk;
          log = h.log;
          closing = closing_more h;
          granted = h.granted;
          replays = λ r i. ⊎_elim (λ (e : replayed replay ≡ r). subst (λ (x : Replayed). x.number ≤ n) e
              (let low = h.told ok.from (Target t) ok.given ok.keeps.was in let same : replay.txn.0 ≡ ok.given.txn.0 =
              ap (λ (x : RequestReplay). x.txn.0) ok.is in omega (arith, low, same))) (λ (j : In r (replays_of past)). h.replays r j)
              (in_placed replay_before (replayed replay) r (replays_of past) i);
          brought = h.brought;
        })
        (sent_of past h) (client_of past h)
    by (Target t) (Brings lock) ok own h =
        has_of (Next (Target t) (Brings lock))
        (record {
          slots = h.slots;
          disk = h.disk;
          log = h.log;
          closing = closing_more h;
          granted = h.granted;
          replays = h.replays;
          brought = λ l i. ⊎_elim (λ (e : lock ≡ l). subst G e (subst G (sym ok.is) (h.locks ok.from (Target t) ok.given ok.keeps.was)))
              (λ (j : In l (brought_of past)). h.brought l j) (in_placed brought_before lock l (brought_of past) i);
        })
        (sent_of past h) (client_of past h)
    by (Target t) (Close o) ok own h = closes t o ok h
    by (Target t) (Heard u f r) ok own h = absurd ok
    by (Target t) e ok own h =
        has_of (Next (Target t) e)
        (record {
          slots = h.slots;
          disk = h.disk;
          log = h.log;
          closing = closing_more h;
          granted = h.granted;
          replays = h.replays;
          brought =
              h.brought;
        })
        (sent_of past h) (client_of past h)
    by (Client c) (Send to m) ok own h = has_of (Next (Client c) (Send to m)) (own_of past h) (sends_more (Client c) to m ok h)
        (client_of past h)
    by (Client c) (Heard t f r) ok own h =
        has_of (Next (Client c) (Heard t f r)) (own_of past h) (sent_of past h)
        (record {
          held = heard_held c t f r fine own ok.who h;
          kept = λ who q. cond_both (is_own who past (Client c)) (imports.kept_after (kept_by who past) (Heard t f r)) (kept_by who past)
              (λ (z : imports.Kept). In q z.replays → q.txn.0 ≤ n)
              (λ o i. heard_kept f r fine who h q (in_filter (λ (x : Replay). nat_lt (max r.committed.0 (kept_by who past).committed)
              x.txn.0) q (with_reply f r (kept_by who past).replays) i).0)
              (λ o i. h.kept who q i);
          heard = λ who g k a. ⊎_elim
              (λ (x : (is_own who past (Client c) ≡ true) × (f ≡ g) × (r ≡ k)). now who g k x)
              (λ (old : HeardAs past who g k). h.heard who g k old)
              a;
        })
      where
        fine : Fine n G T r
        fine = h.sent (Target ok.from) (Client c) r ok.was

        now : (who : Who) (g : Flight) (k : ReplyTo) → (is_own who past (Client c) ≡ true) × (f ≡ g) × (r ≡ k) → Fine n G T k
            × (k.who ≡ who) × (g.xid ≡ k.xid.0)
        now who g k x =
            subst (λ (y : ReplyTo). Fine n G T y × (y.who ≡ who) × (g.xid ≡ y.xid.0)) x.2
            (fine, ok.who ∙ sym (life_is who (life_of c past) x.0), ap (λ (y : Flight). y.xid) (sym x.1) ∙ ok.xid)
    by (Client c) (Hold t lock marked size seen) ok own h =
        has_of (Next (Client c) (Hold t lock marked size seen)) (own_of past h) (sent_of past h)
        (record {
          held = hold_held c t lock marked own (hold_who c t lock marked seen ok h) h;
          kept = λ who q. cond_both (is_own who past (Client c)) (imports.kept_after (kept_by who past) (Hold t lock marked size seen))
              (kept_by who past) (λ (z : imports.Kept). In q z.replays → q.txn.0 ≤ n)
              (λ o i. h.kept who q (in_filter (λ (x : Replay). nat_lt (max 0 (kept_by who past).committed) x.txn.0) q
              (kept_by who past).replays i).0)
              (λ o i. h.kept who q i);
          heard = h.heard;
        })
    by (Client c) (Drop t l) ok own h =
        has_of (Next (Client c) (Drop t l)) (own_of past h) (sent_of past h)
        (record {
          held = λ d x. cond_both (nat_eq d c) (without (named (record { 0 = t }) l.cookie) (held_at d past)) (held_at d past)
              (λ (gs : List HeldLock). In x gs → Good past d x)
              (λ q i. h.held d x (without_only (named (record { 0 = t }) l.cookie) x (held_at d past) i).0) (λ q i. h.held d x i);
          kept = h.kept;
          heard = h.heard;
        })
    by (Client c) (Pins name) ok own h = has_of (Next (Client c) (Pins name)) (own_of past h) (sent_of past h)
        (record { held = changed_held name change.Pin h c; kept = h.kept; heard = h.heard })
    by (Client c) (Unpins name) ok own h =
        has_of (Next (Client c) (Unpins name)) (own_of past h) (sent_of past h)
        (record {
          held = λ d x. cond_both (nat_eq d c) (used name (changed name change.Unpin (held_at d past))) (held_at d past)
              (λ (gs : List HeldLock). In x gs → Good past d x)
              (λ q i. let r = changed_only name change.Unpin x (held_at d past)
              (used_only name x (changed name change.Unpin (held_at d past)) i)
              in good_changed past d (is_named name r.0) change.Unpin r.0 x r.2 (h.held d r.0 r.1)) (λ q i. h.held d x i);
          kept = h.kept;
          heard = h.heard;
        })
    by (Client c) (Marks name) ok own h = has_of (Next (Client c) (Marks name)) (own_of past h) (sent_of past h)
        (record { held = changed_held name change.Mark h c; kept = h.kept; heard = h.heard })
    by (Client c) (Unmarks t) ok own h =
        has_of (Next (Client c) (Unmarks t)) (own_of past h) (sent_of past h)
        (record {
          held = λ d x. cond_both (nat_eq d c) (unmarked (record { 0 = t }) (held_at d past)) (held_at d past)
              (λ (gs : List HeldLock). In x gs → Good past d x)
              (λ q i. let r = unmarked_only t x (held_at d past) i
              in good_changed past d (nat_eq r.0.target.0 t) change.Unmark r.0 x r.2 (h.held d r.0 r.1)) (λ q i. h.held d x i);
          kept = h.kept;
          heard = h.heard;
        })
    by (Client c) (Life new) ok own h =
        has_of (Next (Client c) (Life new)) (own_of past h) (sent_of past h)
        (record {
          held = λ d x i. lives c new ok.empty h d x (nat_eq d c) refl i;
          kept = λ who q. cond_both (nat_eq who.client c && same_life who new)
              (record imports.nothing_kept { committed = (kept_by (life_of who.client past) past).committed }) (kept_by who past)
              (λ (z : imports.Kept). In q z.replays → q.txn.0 ≤ n) (λ o i. absurd i) (λ o i. h.kept who q i);
          heard = h.heard;
        })
    by (Client c) (Settles t to) ok own h =
        has_of (Next (Client c) (Settles t to)) (own_of past h) (sent_of past h)
        (record {
          held = h.held;
          kept = λ who q. cond_both (is_own who past (Client c)) (imports.kept_after (kept_by who past) (Settles t to)) (kept_by who past)
              (λ (z : imports.Kept). In q z.replays → q.txn.0 ≤ n)
              (λ o i. h.kept who q (in_filter (λ (x : Replay). nat_lt (max to (kept_by who past).committed) x.txn.0) q
              (kept_by who past).replays i).0) (λ o i. h.kept who q i);
          heard = h.heard;
        })
    by (Client c) e ok own h = has_of (Next (Client c) e) (own_of past h) (sent_of past h) (client_of past h)

pub has_line : (n : ℕ) (G : Lock → Type 0) (T : Who → ℕ → Answer → Type 0) (head : Head) (past : List Line) (l : Line)
    → EntryOf head past l.at l.at.node l.entry → Own n G T head l.entry → Has n G T head past → Has n G T head (l ∷ past)
has_line n G T head past l ok own h = by n G T head past l.at l.at.node l.entry ok own h

-- ---- more numbers, and more locks

module _ (n m : ℕ) (G H : Lock → Type 0) (T U : Who → ℕ → Answer → Type 0) (le : n ≤ m) (more : (l : Lock) → G l → H l)
    (tells : (who : Who) (x : ℕ) (a : Answer) → T who x a → U who x a) where
  pub fine_more : (k : ReplyTo) → Fine n G T k → Fine m H U k
  fine_more k f =
      record {
        number = let low = f.number in omega (arith, low, le);
        locks = λ l i. let g = f.locks l i in (more l g.0, g.1, g.2);
        answer = ⊎_elim (λ (none : Ungranted k.answer). inl none) (λ (t : T k.who k.xid.0 k.answer). inr (tells k.who k.xid.0 k.answer t))
            f.answer;
      }

  pub has_more : (head : Head) (past : List Line) → Has n G T head past → Has m H U head past
  has_more head past h =
      record {
        slots = λ who tag k e. fine_more k (h.slots who tag k e);
        disk = λ s k i e. fine_more k (h.disk s k i e);
        log = λ d i. fine_more d.reply (h.log d i);
        closing = λ to batch k i j. fine_more k.reply (h.closing to batch k i j);
        granted = λ l i. more l (h.granted l i);
        replays = λ r i. let low = h.replays r i in omega (arith, low, le);
        brought = λ l i. more l (h.brought l i);
        sent = λ from to k was. fine_more k (h.sent from to k was);
        notices = λ from to g was. let k = h.notices from to g was in (k.0, more k.0 k.1, k.2, k.3, k.4);
        locks = λ from to r was. more (lock_again r) (h.locks from to r was);
        told = λ from to r was. let low = h.told from to r was in omega (arith, low, le);
        held = λ c x i. let g = h.held c x i in (more x.lock g.0, g.1);
        kept = λ who r i. let low = h.kept who r i in omega (arith, low, le);
        heard = λ who f r k. let g = h.heard who f r k in (fine_more r g.0, g.1, g.2);
      }
