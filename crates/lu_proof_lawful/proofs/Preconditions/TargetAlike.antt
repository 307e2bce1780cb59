-- Between its turns a target of the whole table that serves is what its story says: who has a slot, what is granted, called back, waits,
-- was done and stands on the disk is what the guards speak of. A life that leaves is gone from the target with the commit, and from the
-- story with its line `evict`; a life that comes is there with the commit, and in the story with its line `joined`. `Window` says how
-- both go together in between. What a boot takes from the disk stands there (`OnDisk`).
use Rattle.std.proofs.Common.{◌≡◌, ℕ, ◌<◌, Bool, true, false, List, [], ◌∷◌, Some, None, ◌⊎◌, inl, inr, refl, sym, subst, ap, ◌∙◌}
use Rattle.std.specs.Prelude.{nat_eq, nat_lt, filter, map, not, ◌&&◌, ◌||◌}
use Rattle.std.proofs.lemmas.Bool.{cond-true, lt-ltb}
use Rattle.std.proofs.Math.Nat.{max-zero}
use Rattle.lu_base.specs.declared.ids.Node.{Node}
use Rattle.lu_base.specs.declared.ids.Node.TheVariants as node
use Rattle.lu_base.specs.declared.ids.Stamp.{Stamp}
use Rattle.lu_base.specs.declared.ids.Who.{Who}
use Rattle.lu_base.specs.declared.locks.Cause.{Cause}
use Rattle.lu_base.specs.declared.locks.Lock.{Lock}
use Rattle.lu_msg.specs.declared.messages.Message.{Message}
use Rattle.lu_msg.specs.declared.commits.Batch.{Batch}
use Rattle.lu_msg.specs.declared.commits.Transaction.{Transaction}
use Rattle.lu_msg.specs.declared.messages.Request.{Request as RequestOf}
use Rattle.lu_spec_machine.specs.Footprint.{forget}
use Rattle.lu_spec_machine.specs.Tree.{Tree}
use Rattle.lu_spec_entries.specs.Carried.{Deed, Contents, Called, Glimpse}
use Rattle.lu_spec_entries.specs.Words.{Entry, Send, Take, Tick, Skip, Act, Txn, Grant, Wait, Answers, Asks, Ends, Block, Release, Commit}
use Rattle.lu_spec_entries.specs.Words.{Crash, Boot, Back, Close, Kept, Restore, Enters, Evict, Joined, Stores, Brings, Says, Wishes, Line}
use Rattle.lu_spec_entries.specs.Words.{line, with_turn, same_life}
use Rattle.lu_spec_target.specs.Locks.{with_lock, with_locks, without_lock, locks_without, called_without, is_request_of, without_request}
use Rattle.lu_spec_target.specs.Locks.{same_glimpse}
use Rattle.lu_spec_target.specs.Lives.{is_life, with_life, with_lives, without_lives}
use Rattle.lu_spec_target.specs.States.{Setting, Target, after, target_at}
use Rattle.lu_spec_target.specs.Stored.{transaction_of, forgotten, batch_of, last_number}
use Rattle.lu_spec_target.specs.Leaving.{commits, last_of}
use Rattle.lu_proof_lawful.specs.Covered.Heads.{Head}
use Rattle.lu_proof_lawful.specs.Covered.TargetStates.{Server, server_of, lives_of, evicted_of, shown_of}
use Rattle.lu_proof_lawful.specs.Covered.TargetCloses.{disk_of}
use Rattle.lu_proof_lawful.proofs.Preconditions.Guards.{In}
use Rattle.lu_proof_lawful.proofs.Preconditions.StoryGuards.{EntryOf, IsServing, CommitOk}
use Rattle.lu_proof_lawful.proofs.Preconditions.Acts.{made}
use Rattle.lu_proof_lawful.proofs.Preconditions.Lists.{turn}
use Rattle.lu_proof_lawful.proofs.Preconditions.Turns.{IsNoClose}
use Rattle.lu_proof_lawful.proofs.Preconditions.LifeLists.{filter_parts, filter_swap, first_lives}
use Rattle.lu_proof_lawful.proofs.Preconditions.TargetSlots.{SlotsAlike, slots_enter, slots_answer, slots_leave}
pub use Rattle.lu_proof_lawful.proofs.Preconditions.TargetSame.{IsIdle, Alike}
use Rattle.lu_proof_lawful.proofs.Preconditions.TargetSame.{alike_enters, alike_act, alike_txn, alike_grant, alike_promote, alike_wait}
use Rattle.lu_proof_lawful.proofs.Preconditions.TargetSame.{alike_answers, alike_asks, alike_ends, alike_block, alike_release}
use Rattle.lu_proof_lawful.proofs.Preconditions.TargetStory.{Story, numbered, story_start, story_client, story_commit, story_evict}
use Rattle.lu_proof_lawful.proofs.Preconditions.TargetStory.{story_release, story_still, story_line}
use Rattle.lu_proof_lawful.proofs.Preconditions.StoryLists.{logged_above}

-- what a boot takes from the disk stands there
abbrev pub OnDisk : Target → Type 0
OnDisk v =
    record {
      boot : v.disk.boot ≡ v.boot;
      lives : v.disk.lives ≡ v.lives;
      removed : v.disk.removed ≡ v.removed;
      committed : v.disk.committed
          ≡ v.committed;
    }

pub record Serving (head : Head) (t : ℕ) (v : Target) (past : List Line) : Type 0 where
  pub alike : Alike head.osts t v (server_of head.osts past)
  pub story : Story head past
  pub slots : SlotsAlike v.slots v.removed past
  pub lives : v.lives ≡ lives_of head.clients past
  pub removed : v.removed ≡ evicted_of past
  pub shown : shown_of past ≡ (server_of head.osts past).granted
  pub phase : IsServing head.osts past
  pub disk : OnDisk v
  pub stored : v.disk ≡ disk_of head.osts head.clients past

-- so the guards say that it serves
pub serving_is : (head : Head) (t : ℕ) (v : Target) (past : List Line) → Serving head t v past → IsServing head.osts past
serving_is head t v past h = h.phase

-- but for commits, lives that leave and come, crashes and boots
abbrev pub IsPlain : Entry → Type 0
IsPlain (Commit to batch) = ⊥
IsPlain (Evict who cause) = ⊥
IsPlain (Joined who) = ⊥
IsPlain Crash = ⊥
IsPlain (Boot boot disk) = ⊥
IsPlain (Close o) = ⊥
IsPlain (Kept number) = ⊥
IsPlain (Restore lock) = ⊥
IsPlain _ = Unit {0}

abbrev pub AllPlain : List Entry → Type 0
AllPlain [] = Unit {0}
AllPlain (e ∷ es) = IsPlain e × AllPlain es

-- such a line of its own keeps it so
pub serving_line : (head : Head) (t : ℕ) (past : List Line) (stamp : Stamp) (e : Entry) (v : Target) → IsPlain e
    → EntryOf head past (turn stamp (node.Target t)) (node.Target t) e → Serving head t v past
    → Serving head t (after v e) (line (turn stamp (node.Target t)) e ∷ past)
serving_line head t past stamp e v plain ok h = by e plain ok (story_line head t past stamp e (still e plain) ok h.story)
  where
    still : (e : Entry) → IsPlain e → IsNoClose e
    still (Close o) plain = absurd plain
    still e plain = tt

    s : Server
    s = server_of head.osts past

    a : Alike head.osts t v s
    a = h.alike

    by : (e : Entry) → IsPlain e → EntryOf head past (turn stamp (node.Target t)) (node.Target t) e
        → Story head (line (turn stamp (node.Target t)) e ∷ past) → Serving head t (after v e) (line (turn stamp (node.Target t)) e ∷ past)
    by (Send to m) plain ok story = record {
      alike = a;
      story = story;
      slots = h.slots;
      lives = h.lives;
      removed = h.removed;
      shown =
          h.shown;
      phase = h.phase;
      disk = h.disk;
      stored = h.stored;
    }
    by (Take n from m) plain ok story = record {
      alike = a;
      story = story;
      slots = h.slots;
      lives = h.lives;
      removed = h.removed;
      shown =
          h.shown;
      phase = h.phase;
      disk = h.disk;
      stored = h.stored;
    }
    by Tick plain ok story = record {
      alike = a;
      story = story;
      slots = h.slots;
      lives = h.lives;
      removed = h.removed;
      shown = h.shown;
      phase = h.phase;
      disk = h.disk;
      stored = h.stored;
    }
    by Skip plain ok story = record {
      alike = a;
      story = story;
      slots = h.slots;
      lives = h.lives;
      removed = h.removed;
      shown = h.shown;
      phase = h.phase;
      disk = h.disk;
      stored = h.stored;
    }
    by (Back who) plain ok story = record {
      alike = a;
      story = story;
      slots = h.slots;
      lives = h.lives;
      removed = h.removed;
      shown =
          h.shown;
      phase = h.phase;
      disk = h.disk;
      stored = h.stored;
    }
    by (Stores replay) plain ok story = record {
      alike = a;
      story = story;
      slots = h.slots;
      lives = h.lives;
      removed = h.removed;
      shown =
          h.shown;
      phase = h.phase;
      disk = h.disk;
      stored = h.stored;
    }
    by (Brings lock) plain ok story = record {
      alike = a;
      story = story;
      slots = h.slots;
      lives = h.lives;
      removed = h.removed;
      shown =
          h.shown;
      phase = h.phase;
      disk = h.disk;
      stored = h.stored;
    }
    by (Says said) plain ok story = record {
      alike = a;
      story = story;
      slots = h.slots;
      lives = h.lives;
      removed = h.removed;
      shown =
          h.shown;
      phase = h.phase;
      disk = h.disk;
      stored = h.stored;
    }
    by (Wishes who) plain ok story = record {
      alike = a;
      story = story;
      slots = h.slots;
      lives = h.lives;
      removed = h.removed;
      shown =
          h.shown;
      phase = h.phase;
      disk = h.disk;
      stored = h.stored;
    }
    by (Enters r) plain ok story =
        record {
          alike = alike_enters head.osts t v s a r;
          story = story;
          slots =
              λ who tag live. slots_enter v.slots past r who tag (h.slots who tag live);
          lives = h.lives;
          removed = h.removed;
          shown =
              h.shown;
          phase = h.phase;
          disk = h.disk;
          stored = h.stored;
        }
    by (Act d) plain ok story =
        record {
          alike = alike_act head.osts t v s a d;
          story = story;
          slots = λ who tag live. slots_answer v.slots past d who tag (h.slots who tag live);
          lives = h.lives;
          removed = h.removed;
          shown = ap (with_locks d.reply.locks) h.shown;
          phase = h.phase;
          disk = h.disk;
          stored = h.stored;
        }
    by (Txn d) plain ok story =
        record {
          alike = alike_txn head.osts t v s a d (made head.osts past (turn stamp (node.Target t)) t d ok).number;
          story = story;
          slots = λ who tag live. slots_answer v.slots past d who tag (h.slots who tag live);
          lives = h.lives;
          removed = h.removed;
          shown = h.shown;
          phase = h.phase;
          disk = h.disk;
          stored = h.stored;
        }
    by (Grant lock (Some d)) plain ok story =
        record {
          alike = alike_grant head.osts t v s a lock d;
          story = story;
          slots = λ who tag live. slots_answer v.slots past d who tag (h.slots who tag live);
          lives = h.lives;
          removed = h.removed;
          shown = ap (with_lock lock) h.shown;
          phase = h.phase;
          disk = h.disk;
          stored = h.stored;
        }
    by (Grant lock None) plain ok story =
        record {
          alike = alike_promote head.osts t v s a lock;
          story = story;
          slots = h.slots;
          lives = h.lives;
          removed = h.removed;
          shown = ap (with_lock lock) h.shown;
          phase = h.phase;
          disk = h.disk;
          stored = h.stored;
        }
    by (Wait lock d) plain ok story =
        record {
          alike = alike_wait head.osts t v s a ok.0 lock d;
          story = story;
          slots = λ who tag live. slots_answer v.slots past d who tag (h.slots who tag live);
          lives = h.lives;
          removed = h.removed;
          shown = h.shown;
          phase = h.phase;
          disk = h.disk;
          stored = h.stored;
        }
    by (Answers d) plain ok story =
        record {
          alike = alike_answers head.osts t v s a d;
          story = story;
          slots = λ who tag live. slots_answer v.slots past d who tag (h.slots who tag live);
          lives = h.lives;
          removed = h.removed;
          shown = h.shown;
          phase = h.phase;
          disk = h.disk;
          stored = h.stored;
        }
    by (Asks g) plain ok story =
        record {
          alike = alike_asks head.osts t v s a ok.0 g;
          story = story;
          slots = h.slots;
          lives = h.lives;
          removed = h.removed;
          shown = h.shown;
          phase = h.phase;
          disk = h.disk;
          stored = h.stored;
        }
    by (Ends g) plain ok story =
        record {
          alike = alike_ends head.osts t v s a g;
          story = story;
          slots = h.slots;
          lives = h.lives;
          removed = h.removed;
          shown = h.shown;
          phase = h.phase;
          disk = h.disk;
          stored = h.stored;
        }
    by (Block called) plain ok story = record {
      alike = alike_block head.osts t v s a called;
      story = story;
      slots = h.slots;
      lives =
          h.lives;
      removed = h.removed;
      shown = h.shown;
      phase = h.phase;
      disk = h.disk;
      stored = h.stored;
    }
    by (Release lock) plain ok story = record {
      alike = alike_release head.osts t v s a lock;
      story = story;
      slots = h.slots;
      lives =
          h.lives;
      removed = h.removed;
      shown = ap (without_lock lock) h.shown;
      phase = h.phase;
      disk = h.disk;
      stored = h.stored;
    }
    by (Commit to batch) plain ok story = absurd plain
    by (Evict who cause) plain ok story = absurd plain
    by (Joined who) plain ok story = absurd plain
    by Crash plain ok story = absurd plain
    by (Boot boot disk) plain ok story = absurd plain
    by (Close o) plain ok story = absurd plain
    by (Kept number) plain ok story = absurd plain
    by (Restore lock) plain ok story = absurd plain
    by e plain ok story = absurd ok

-- ---- from the commit on, until all that leave and come with it did

-- the opens of these lives go, one after another
abbrev pub tree_without : List Who → Tree → Tree
tree_without [] t = t
tree_without (who ∷ gone) t = tree_without gone (forget t who)

pub forgotten_tree : (gone : List Who) (c : Contents) → (forgotten gone c).tree ≡ tree_without gone c.tree
forgotten_tree [] c = refl
forgotten_tree (who ∷ gone) c = forgotten_tree gone (record c { tree = forget c.tree who })

pub forgotten_objects : (gone : List Who) (c : Contents) → (forgotten gone c).objects ≡ c.objects
forgotten_objects [] c = refl
forgotten_objects (who ∷ gone) c = forgotten_objects gone (record c { tree = forget c.tree who })

-- the target is without those that leave, and with those that come
pub record Window (head : Head) (t : ℕ) (gone come : List Who) (v : Target) (past : List Line) : Type 0 where
  pub id : v.setting.id ≡ t
  pub osts : v.setting.osts ≡ head.osts
  pub up : v.up ≡ true
  pub boot : v.boot ≡ (server_of head.osts past).boot
  pub closed : v.closed ≡ v.boot
  pub number : v.number ≡ numbered (server_of head.osts past)
  pub cookie : v.cookie ≡ (server_of head.osts past).cookie
  pub tree : v.contents.tree ≡ tree_without gone (server_of head.osts past).tree
  pub log : v.log ≡ (server_of head.osts past).log
  pub committed : v.committed ≡ (server_of head.osts past).committed.0
  pub granted : v.granted ≡ locks_without gone (server_of head.osts past).granted
  pub waiting : v.waiting ≡ locks_without gone (server_of head.osts past).queued
  pub called : v.called ≡ filter (λ (c : Called). not (is_life c.who gone)) (server_of head.osts past).called
  pub queue : v.queue ≡ filter (λ (r : RequestOf). not (is_life r.who gone)) (server_of head.osts past).waiting
  pub glimpses : v.glimpses ≡ filter (λ (g : Glimpse). not (is_life g.request.who gone)) (server_of head.osts past).glimpses
  pub objects : v.contents.objects ≡ (server_of head.osts past).objects
  pub names : IsIdle t (server_of head.osts past)
  pub story : Story head past
  pub slots : SlotsAlike v.slots v.removed past
  pub lives : v.lives ≡ with_lives come (without_lives gone (lives_of head.clients past))
  pub removed : v.removed ≡ with_lives gone (evicted_of past)
  pub phase : IsServing head.osts past
  pub disk : OnDisk v
  pub stored : v.disk ≡ disk_of head.osts head.clients past

-- the transactions of a batch are above what is on the disk, so their last one is the last there
stored_last : (n : ℕ) (deeds : List Deed) (k : ℕ) → ((d : Deed) → In d deeds → n < d.reply.txn.0)
    → last_number (filter (λ (x : Transaction). nat_lt n x.txn.0) (map {A = Deed} {B = Transaction} transaction_of deeds)) k
    ≡ last_of deeds k
stored_last n [] k above = refl
stored_last n (d ∷ deeds) k above =
    let rest : List Transaction = filter (λ (x : Transaction). nat_lt n x.txn.0) (map {A = Deed} {B = Transaction} transaction_of deeds) in
    ap (λ (xs : List Transaction). last_number xs k) (cond-true (nat_lt n d.reply.txn.0) (transaction_of d ∷ rest) rest
    (lt-ltb n d.reply.txn.0 (above d (inl refl))))
    ∙ stored_last n deeds d.reply.txn.0 (λ x i. above x (inr i))

disk_commit : (v : Target) (deeds : List Deed) (gone come : List Who) → ((d : Deed) → In d deeds → v.committed < d.reply.txn.0) → OnDisk v
    → OnDisk (after v (commits v deeds gone come))
disk_commit v deeds gone come above h =
    record {
      boot = max-zero v.disk.boot ∙ h.boot;
      lives = ap (λ (ws : List Who). with_lives come (without_lives gone ws)) h.lives;
      removed = ap (with_lives gone) h.removed;
      committed = ap (λ (n : ℕ). last_number (filter (λ (x : Transaction). nat_lt n x.txn.0)
          (map {A = Deed} {B = Transaction} transaction_of deeds)) n) h.committed ∙ stored_last v.committed deeds v.committed above;
    }

-- what is committed are deeds of the log
pub window_commit : (head : Head) (t : ℕ) (past : List Line) (stamp : Stamp) (deeds : List Deed) (gone come : List Who) (v : Target)
    → ((d : Deed) → In d deeds → In d (server_of head.osts past).log)
    → CommitOk head past (turn stamp (node.Target t)) (last_of deeds v.committed) (batch_of deeds gone come) → Serving head t v past
    → Window head t gone come (after v (commits v deeds gone come)) (line (turn stamp (node.Target t)) (commits v deeds gone come) ∷ past)
window_commit head t past stamp deeds gone come v logged ok h =
    let to : ℕ = last_of deeds v.committed in
    let batch : Batch = batch_of deeds gone come in
    let a : Alike head.osts t v (server_of head.osts past) = h.alike in
    record {
      id = a.id;
      osts = a.osts;
      up = a.up;
      boot = a.boot;
      closed = a.closed;
      number = a.number;
      cookie = a.cookie;
      tree = forgotten_tree batch.removed v.contents ∙ ap (tree_without batch.removed) a.tree;
      log = ap (λ (g : List Deed). filter (λ (d : Deed). nat_lt to d.reply.txn.0) g) a.log;
      committed = refl;
      granted = ap (locks_without batch.removed) a.granted;
      waiting = ap (locks_without batch.removed) a.waiting;
      called = ap (λ (cs : List Called). filter (λ (c : Called). not (is_life c.who batch.removed)) cs) a.called;
      queue = ap (λ (rs : List RequestOf). filter (λ (r : RequestOf). not (is_life r.who batch.removed)) rs) a.queue;
      glimpses = ap (filter (λ (g : Glimpse). not (is_life g.request.who batch.removed))) a.glimpses;
      objects = forgotten_objects batch.removed v.contents ∙ a.objects;
      names = a.names;
      story = story_commit head t past stamp h.story to batch ok;
      slots = slots_leave batch.removed v.slots v.removed past h.slots;
      lives = ap (λ (ws : List Who). with_lives batch.added (without_lives batch.removed ws)) h.lives;
      removed = ap (with_lives batch.removed) h.removed;
      phase = h.phase;
      disk = disk_commit v deeds gone come (λ d i. subst (λ (n : ℕ). n < d.reply.txn.0) (sym a.committed)
          (logged_above (server_of head.osts past).committed.0 (server_of head.osts past).log (numbered (server_of head.osts past)) d
          h.story.logged (logged d i))) h.disk;
      stored = rw (a.osts, h.stored) refl;
    }

pub window_is : (head : Head) (t : ℕ) (gone come : List Who) (v : Target) (past : List Line) → Window head t gone come v past
    → IsServing head.osts past
window_is head t gone come v past h = h.phase

-- the first of those that leave does
not_or : (a b : Bool) → not (a || b) ≡ (not (a || false) && not b)
not_or true b = refl
not_or false b = refl

pub gone_one : {A : Type 0} (f : A → Who) (who : Who) (gone : List Who) (xs : List A)
    → filter (λ (x : A). not (is_life (f x) (who ∷ gone))) xs ≡ filter (λ (x : A). not (is_life (f x) gone))
    (filter (λ (x : A). not (is_life (f x) (who ∷ []))) xs)
gone_one {A} f who gone xs =
    filter_parts (λ (x : A). not (is_life (f x) (who ∷ gone))) (λ (x : A). not (is_life (f x) (who ∷ [])))
    (λ (x : A). not (is_life (f x) gone)) (λ x. not_or (same_life (f x) who) (is_life (f x) gone)) xs

pub window_evict : (head : Head) (t : ℕ) (past : List Line) (stamp : Stamp) (who : Who) (cause : Cause) (gone come : List Who) (v : Target)
    → (is_life who (lives_of head.clients past) ≡ true) ⊎ (is_life who (evicted_of past) ≡ true) → Window head t (who ∷ gone) come v past
    → Window head t gone come v (line (turn stamp (node.Target t)) (Evict who cause) ∷ past)
window_evict head t past stamp who cause gone come v was h =
    let s : Server = server_of head.osts past in
    record {
      id = h.id;
      osts = h.osts;
      up = h.up;
      boot = h.boot;
      closed = h.closed;
      number = h.number;
      cookie = h.cookie;
      tree = h.tree;
      log = h.log;
      committed = h.committed;
      granted = h.granted ∙ gone_one (λ (l : Lock). l.ask.who) who gone s.granted;
      waiting = h.waiting ∙ gone_one (λ (l : Lock). l.ask.who) who gone s.queued;
      called = h.called ∙ gone_one (λ (c : Called). c.who) who gone s.called;
      queue = h.queue ∙ gone_one (λ (r : RequestOf). r.who) who gone s.waiting;
      glimpses = h.glimpses ∙ gone_one (λ (g : Glimpse). g.request.who) who gone s.glimpses;
      objects = h.objects;
      names = λ z. (
        ap (locks_without (who ∷ [])) (h.names z).0,
        ap (filter (λ (g : Glimpse). not (is_life g.request.who (who ∷ [])))) (h.names z).1,
      );
      story = story_evict head t past stamp h.story who cause was;
      slots = h.slots;
      lives = h.lives ∙ ap (with_lives come) (gone_one (λ (w : Who). w) who gone (lives_of head.clients past));
      removed = h.removed;
      phase = h.phase;
      disk = h.disk;
      stored = h.stored;
    }

-- a lock is released
pub window_release : (head : Head) (t : ℕ) (past : List Line) (stamp : Stamp) (lock : Lock) (gone come : List Who) (v : Target)
    → Window head t gone come v past
    → Window head t gone come (after v (Release lock)) (line (turn stamp (node.Target t)) (Release lock) ∷ past)
window_release head t past stamp lock gone come v h =
    let s : Server = server_of head.osts past in
    record {
      id = h.id;
      osts = h.osts;
      up = h.up;
      boot = h.boot;
      closed = h.closed;
      number = h.number;
      cookie = h.cookie;
      tree = h.tree;
      log = h.log;
      committed = h.committed;
      granted = ap (without_lock lock) h.granted ∙ filter_swap (λ (k : Lock). not (nat_eq k.cookie.0 lock.cookie.0))
          (λ (k : Lock). not (is_life k.ask.who gone)) s.granted;
      waiting = h.waiting;
      called = ap (called_without lock) h.called ∙ filter_swap (λ (c : Called). not (nat_eq c.cookie.0 lock.cookie.0))
          (λ (c : Called). not (is_life c.who gone)) s.called;
      queue = h.queue;
      glimpses = h.glimpses;
      objects = h.objects;
      names = h.names;
      story = story_release head t past stamp h.story lock;
      slots = h.slots;
      lives = h.lives;
      removed = h.removed;
      phase = h.phase;
      disk = h.disk;
      stored = h.stored;
    }

-- a glimpse waits no longer
pub window_ends : (head : Head) (t : ℕ) (past : List Line) (stamp : Stamp) (g : Glimpse) (gone come : List Who) (v : Target)
    → EntryOf head past (turn stamp (node.Target t)) (node.Target t) (Ends g) → Window head t gone come v past
    → Window head t gone come (after v (Ends g)) (line (turn stamp (node.Target t)) (Ends g) ∷ past)
window_ends head t past stamp g gone come v ok h =
    let s : Server = server_of head.osts past in
    record {
      id = h.id;
      osts = h.osts;
      up = h.up;
      boot = h.boot;
      closed = h.closed;
      number = h.number;
      cookie = h.cookie;
      tree = h.tree;
      log = h.log;
      committed = h.committed;
      granted = h.granted;
      waiting = h.waiting;
      called = h.called;
      queue = h.queue;
      glimpses = ap (filter (λ (x : Glimpse). not (same_glimpse g x))) h.glimpses
          ∙ filter_swap (λ (x : Glimpse). not (same_glimpse g x)) (λ (x : Glimpse). not (is_life x.request.who gone)) s.glimpses;
      objects = h.objects;
      names = λ z. ((h.names z).0, ap (filter (λ (x : Glimpse). not (same_glimpse g x))) (h.names z).1);
      story = story_line head t past stamp (Ends g) tt ok h.story;
      slots = h.slots;
      lives = h.lives;
      removed = h.removed;
      phase = h.phase;
      disk = h.disk;
      stored = h.stored;
    }

-- a request is answered without a printed line
pub window_answers : (head : Head) (t : ℕ) (past : List Line) (stamp : Stamp) (d : Deed) (gone come : List Who) (v : Target)
    → EntryOf head past (turn stamp (node.Target t)) (node.Target t) (Answers d) → Window head t gone come v past
    → Window head t gone come (after v (Answers d)) (line (turn stamp (node.Target t)) (Answers d) ∷ past)
window_answers head t past stamp d gone come v ok h =
    let s : Server = server_of head.osts past in
    record {
      id = h.id;
      osts = h.osts;
      up = h.up;
      boot = h.boot;
      closed = h.closed;
      number = h.number;
      cookie = h.cookie;
      tree = h.tree;
      log = h.log;
      committed = h.committed;
      granted = h.granted;
      waiting = h.waiting;
      called = h.called;
      queue = ap (without_request d) h.queue ∙ filter_swap (λ (r : RequestOf). not (is_request_of d r))
          (λ (r : RequestOf). not (is_life r.who gone)) s.waiting;
      glimpses = h.glimpses;
      objects = h.objects;
      names = h.names;
      story = story_line head t past stamp (Answers d) tt ok h.story;
      slots = λ who tag live. slots_answer v.slots past d who tag (h.slots who tag live);
      lives = h.lives;
      removed = h.removed;
      phase = h.phase;
      disk = h.disk;
      stored = h.stored;
    }

-- what is sent changes nothing
pub window_send : (head : Head) (t : ℕ) (past : List Line) (stamp : Stamp) (to : Node) (m : Message) (gone come : List Who) (v : Target)
    → Window head t gone come v past
    → Window head t gone come v (line (turn stamp (node.Target t)) (Send to m) ∷ past)
window_send head t past stamp to m gone come v h =
    record {
      id = h.id;
      osts = h.osts;
      up = h.up;
      boot = h.boot;
      closed = h.closed;
      number = h.number;
      cookie = h.cookie;
      tree = h.tree;
      log = h.log;
      committed = h.committed;
      granted = h.granted;
      waiting = h.waiting;
      called = h.called;
      queue = h.queue;
      glimpses = h.glimpses;
      objects = h.objects;
      names = h.names;
      story = story_still head t past stamp h.story (Send to m) refl refl refl;
      slots = h.slots;
      lives = h.lives;
      removed = h.removed;
      phase = h.phase;
      disk = h.disk;
      stored = h.stored;
    }

-- where nobody leaves, all stay
pub all_stay : {A : Type 0} (xs : List A) → filter (λ (x : A). true) xs ≡ xs
all_stay [] = refl
all_stay (x ∷ xs) = ap (λ ys. x ∷ ys) (all_stay xs)

-- the first of those that come is there
pub window_joined : (head : Head) (t : ℕ) (past : List Line) (stamp : Stamp) (who : Who) (come : List Who) (v : Target)
    → EntryOf head past (turn stamp (node.Target t)) (node.Target t) (Joined who) → Window head t [] (who ∷ come) v past
    → Window head t [] come v (line (turn stamp (node.Target t)) (Joined who) ∷ past)
window_joined head t past stamp who come v ok h =
    record {
      id = h.id;
      osts = h.osts;
      up = h.up;
      boot = h.boot;
      closed = h.closed;
      number = h.number;
      cookie = h.cookie;
      tree = h.tree;
      log = h.log;
      committed = h.committed;
      granted = h.granted;
      waiting = h.waiting;
      called = h.called;
      queue = h.queue;
      glimpses = h.glimpses;
      objects = h.objects;
      names = h.names;
      story = story_line head t past stamp (Joined who) tt ok h.story;
      slots = h.slots;
      lives = h.lives ∙ ap (λ (ws : List Who). with_lives come (with_life who ws)) (all_stay (lives_of head.clients past))
          ∙ ap (with_lives come) (sym (all_stay (with_life who (lives_of head.clients past))));
      removed = h.removed;
      phase = h.phase;
      disk = h.disk;
      stored = h.stored;
    }

-- then the window is closed
pub window_closed : (head : Head) (t : ℕ) (past : List Line) (v : Target) → shown_of past ≡ (server_of head.osts past).granted
    → Window head t [] [] v past → Serving head t v past
window_closed head t past v shown h =
    let s : Server = server_of head.osts past in
    record {
      alike =
          record {
            id = h.id;
            osts = h.osts;
            up = h.up;
            boot = h.boot;
            closed = h.closed;
            number = h.number;
            cookie = h.cookie;
            tree = h.tree;
            log = h.log;
            committed = h.committed;
            granted = h.granted ∙ all_stay s.granted;
            waiting = h.waiting ∙ all_stay s.queued;
            called = h.called ∙ all_stay s.called;
            queue = h.queue ∙ all_stay s.waiting;
            glimpses = h.glimpses ∙ all_stay s.glimpses;
            objects = h.objects;
            names = h.names;
            rises = h.story.rises;
          };
      story = h.story;
      slots = h.slots;
      lives = h.lives ∙ all_stay (lives_of head.clients past);
      removed = h.removed;
      shown = shown;
      phase = h.phase;
      disk = h.disk;
      stored = h.stored;
    }

-- ---- at the start, and over the turns of other nodes

pub serving_start : (head : Head) (setting : Setting) → setting.osts ≡ head.osts
    → Serving head setting.id (target_at setting head.clients []) []
serving_start head setting o =
    record {
      alike =
          record {
            id = refl;
            osts = o;
            up = refl;
            boot = refl;
            closed = refl;
            number = refl;
            cookie = refl;
            tree = refl;
            log = refl;
            committed = refl;
            granted = refl;
            waiting = refl;
            called = refl;
            queue = refl;
            glimpses = refl;
            objects = refl;
            names = λ z. (refl, refl);
            rises = tt;
          };
      story = story_start head;
      slots = λ who tag live. refl;
      lives = refl;
      removed = refl;
      shown = refl;
      phase = record { closed = refl; up = refl };
      disk = record { boot = refl; lives = first_lives head.clients; removed = refl; committed = refl };
      stored = refl;
    }

-- lines of a client change nothing
pub serving_client : (head : Head) (t : ℕ) (stamp : Stamp) (c : ℕ) (es : List Entry) (past : List Line) (v : Target) → Serving head t v past
    → Serving head t v (with_turn (turn stamp (node.Client c)) es past)
serving_client head t stamp c [] past v h = h
serving_client head t stamp c (e ∷ es) past v h =
    serving_client head t stamp c es (line (turn stamp (node.Client c)) e ∷ past) v
    (record {
      alike = h.alike;
      story = story_client head past stamp c e h.story;
      slots = h.slots;
      lives = h.lives;
      removed = h.removed;
      shown = h.shown;
      phase = h.phase;
      disk = h.disk;
      stored = h.stored;
    })
