-- A field that the rows read at a target, entry by entry, is that of the story of that target.
use Rattle.std.proofs.Common.{◌≡◌, ℕ, Bool, true, false, List, [], ◌∷◌, refl, ap, ◌∙◌}
use Rattle.std.specs.Prelude.{nat_eq, if◌then◌else◌}
use Rattle.lu_base.specs.declared.ids.Node.{Node}
use Rattle.lu_base.specs.declared.ids.Node.TheVariants.{Client, Target}
use Rattle.lu_base.specs.declared.ids.Stamp.{Stamp}
use Rattle.lu_base.specs.declared.ids.Txn.{Txn as TxnOf}
use Rattle.lu_base.specs.declared.ids.Who.{Who}
use Rattle.lu_base.specs.declared.locks.Lock.{Lock}
use Rattle.lu_base.specs.declared.locks.Resource.{Resource}
use Rattle.lu_msg.specs.declared.messages.Request.{Request as RequestOf}
use Rattle.lu_spec_machine.specs.Objects.{Object}
use Rattle.lu_spec_machine.specs.Tree.{Tree}
use Rattle.lu_spec_entries.specs.Carried.{Deed, Slot, Called, Glimpse, Said}
use Rattle.lu_spec_entries.specs.Words.{Entry, Act, Txn, Grant, Wait, Answers, Asks, Ends, Commit, Crash, Boot, Close, Enters, Block}
use Rattle.lu_spec_entries.specs.Words.{Release, Evict, Joined, Stores, Brings, Says, Wishes, Line, line, is_target}
use Rattle.lu_spec_entries.specs.Concerns.{is_about, concerns, only}
use Rattle.lu_spec_entries.specs.Fields.{on, at_target}
use Rattle.lu_spec_target.specs.Kept.{reads_replays, replays_after, reads_brought, brought_after, reads_words, words_after, reads_wishes}
use Rattle.lu_spec_target.specs.Kept.{wishes_after}
use Rattle.lu_spec_target.specs.Phase.{reads_up, up_after, reads_closed, closed_after}
use Rattle.lu_spec_target.specs.States.{lives_from}
use Rattle.lu_spec_target.specs.Windows.{Replayed}
use Rattle.lu_proof_lawful.specs.Covered.TargetParts.{reads_granted, granted_after, reads_cookie, cookie_after, reads_called, called_after}
use Rattle.lu_proof_lawful.specs.Covered.TargetParts.{reads_boot, boot_after, reads_count, count_after, reads_committed, committed_after}
use Rattle.lu_proof_lawful.specs.Covered.TargetParts.{reads_tree, tree_after, reads_log, log_after, reads_waiting, waiting_after, no_slot}
use Rattle.lu_proof_lawful.specs.Covered.TargetParts.{reads_slot, slot_after, reads_lives, lives_after, reads_evicted, evicted_after}
use Rattle.lu_proof_lawful.specs.Covered.TargetParts.{reads_objects, objects_after, reads_queued, queued_after, reads_glimpses}
use Rattle.lu_proof_lawful.specs.Covered.TargetParts.{glimpses_after}
use Rattle.lu_proof_lawful.specs.Covered.TargetStates.{Server, boot_at, count_at, committed_at, tree_at, log_at, waiting_at, granted_at}
use Rattle.lu_proof_lawful.specs.Covered.TargetStates.{cookie_at, called_at, objects_at, queued_at, glimpses_at, slot_at, server_at}
use Rattle.lu_proof_lawful.specs.Covered.TargetStates.{server_after, server_of, slot_of, lives_at, lives_of, evicted_at, evicted_of}
use Rattle.lu_proof_lawful.specs.Covered.TargetStates.{closed_of, up_of, replays_of, brought_of, words_of, wishes_of}
use Rattle.lu_proof_lawful.proofs.Preconditions.Lists.{turn}

-- ---- a field of a target

-- what the whole says of a line of a past in which no line is of another target
record TargetField {A : Type 0} (reads : Entry → Bool) (after : A → Entry → A) (start : A) (whole : List Line → A) : Type 0 where
  starts : start ≡ whole []
  steps : (stamp : Stamp) (t : ℕ) (e : Entry) (past : List Line) → reads e ≡ true → after (whole past) e
      ≡ whole (line (turn stamp (Target t)) e ∷ past)
  stays : (stamp : Stamp) (t : ℕ) (e : Entry) (past : List Line) → reads e ≡ false → whole past
      ≡ whole (line (turn stamp (Target t)) e ∷ past)
  clients : (stamp : Stamp) (c : ℕ) (e : Entry) (past : List Line) → whole past ≡ whole (line (turn stamp (Client c)) e ∷ past)

target_is : {A : Type 0} (reads : Entry → Bool) (after : A → Entry → A) (start : A) (whole : List Line → A)
    → TargetField reads after start whole → (t : ℕ) (past : List Line) → at_target reads after start t past ≡ whole (only t past)
target_is reads after start whole f t [] = f.starts
target_is {A} reads after start whole f t (l ∷ past) = by l.at.node (target_is reads after start whole f t past)
  where
    P : List Line
    P = only t past

    G : A
    G = at_target reads after start t past

    own : (u : ℕ) (r b : Bool) → reads l.entry ≡ r → G ≡ whole P → on r b (after G l.entry) G
        ≡ whole (if b then line (turn l.at.stamp (Target u)) l.entry ∷ P else P)
    own u true true q ih = ap (λ a. after a l.entry) ih ∙ f.steps l.at.stamp u l.entry P q
    own u true false q ih = ih
    own u false true q ih = ih ∙ f.stays l.at.stamp u l.entry P q
    own u false false q ih = ih

    other : (c : ℕ) (r b : Bool) → G ≡ whole P → on r false (after G l.entry) G
        ≡ whole (if b then line (turn l.at.stamp (Client c)) l.entry ∷ P else P)
    other c true true ih = ih ∙ f.clients l.at.stamp c l.entry P
    other c true false ih = ih
    other c false true ih = ih ∙ f.clients l.at.stamp c l.entry P
    other c false false ih = ih

    by : (node : Node) → G ≡ whole P → on (reads l.entry) (is_target t node) (after G l.entry) G
        ≡ whole (if concerns t node l.entry then line (turn l.at.stamp node) l.entry ∷ P else P)
    by (Target u) ih = own u (reads l.entry) (nat_eq t u) refl ih
    by (Client c) ih = other c (reads l.entry) (is_about t l.entry) ih

pub slot_is : (who : Who) (tag t : ℕ) (past : List Line) → slot_at who tag t past ≡ slot_of who tag (only t past)
slot_is who tag t past = target_is reads_slot (slot_after who tag) no_slot (slot_of who tag)
    (record { starts = refl; steps = λ s u e p r. refl; stays = λ s u e p r. stays e (slot_of who tag p) r; clients = λ s c e p. refl }) t
    past
  where
    stays : (e : Entry) (slot : Slot) → reads_slot e ≡ false → slot ≡ slot_after who tag slot e
    stays (Enters r) slot q = absurd (cc)
    stays (Act d) slot q = absurd (cc)
    stays (Txn d) slot q = absurd (cc)
    stays (Grant lock asked) slot q = absurd (cc)
    stays (Wait lock asked) slot q = absurd (cc)
    stays (Answers d) slot q = absurd (cc)
    stays (Close o) slot q = absurd (cc)
    stays e slot q = refl

-- who has a slot, and who was evicted
pub lives_is : (clients t : ℕ) (past : List Line) → lives_at clients t past ≡ lives_of clients (only t past)
lives_is clients t past = target_is reads_lives lives_after (lives_from 0 clients) (lives_of clients)
    (record { starts = refl; steps = λ s u e p r. refl; stays = λ s u e p r. stays e (lives_of clients p) r; clients = λ s c e p. refl }) t
    past
  where
    stays : (e : Entry) (lives : List Who) → reads_lives e ≡ false → lives ≡ lives_after lives e
    stays (Evict who cause) lives q = absurd (cc)
    stays (Joined who) lives q = absurd (cc)
    stays (Close o) lives q = absurd (cc)
    stays e lives q = refl

pub evicted_is : (t : ℕ) (past : List Line) → evicted_at t past ≡ evicted_of (only t past)
evicted_is t past = target_is reads_evicted evicted_after [] evicted_of
    (record { starts = refl; steps = λ s u e p r. refl; stays = λ s u e p r. stays e (evicted_of p) r; clients = λ s c e p. refl }) t past
  where
    stays : (e : Entry) (evicted : List Who) → reads_evicted e ≡ false → evicted ≡ evicted_after evicted e
    stays (Evict who cause) evicted q = absurd (cc)
    stays (Close o) evicted q = absurd (cc)
    stays e evicted q = refl

-- in which boot a target last closed its window, and whether it is up
pub closed_is : (t : ℕ) (past : List Line) → at_target reads_closed closed_after 1 t past ≡ closed_of (only t past)
closed_is t past = target_is reads_closed closed_after 1 closed_of
    (record { starts = refl; steps = λ s u e p r. refl; stays = λ s u e p r. stays e (closed_of p) r; clients = λ s c e p. refl }) t past
  where
    stays : (e : Entry) (n : ℕ) → reads_closed e ≡ false → n ≡ closed_after n e
    stays (Close o) n q = absurd (cc)
    stays e n q = refl

pub up_is : (t : ℕ) (past : List Line) → at_target reads_up up_after true t past ≡ up_of (only t past)
up_is t past = target_is reads_up up_after true up_of (record {
  starts = refl;
  steps = λ s u e p r. refl;
  stays =
      λ s u e p r. stays e (up_of p) r;
  clients = λ s c e p. refl;
}) t past
  where
    stays : (e : Entry) (up : Bool) → reads_up e ≡ false → up ≡ up_after up e
    stays Crash up q = absurd (cc)
    stays (Boot boot disk) up q = absurd (cc)
    stays e up q = refl

-- what it has taken since its boot of the lives that come back
pub replays_is : (t : ℕ) (past : List Line) → at_target reads_replays replays_after [] t past ≡ replays_of (only t past)
replays_is t past = target_is reads_replays replays_after [] replays_of
    (record { starts = refl; steps = λ s u e p r. refl; stays = λ s u e p r. stays e (replays_of p) r; clients = λ s c e p. refl }) t past
  where
    stays : (e : Entry) (kept : List Replayed) → reads_replays e ≡ false → kept ≡ replays_after kept e
    stays (Stores r) kept q = absurd (cc)
    stays (Boot boot disk) kept q = absurd (cc)
    stays (Close o) kept q = absurd (cc)
    stays e kept q = refl

pub brought_is : (t : ℕ) (past : List Line) → at_target reads_brought brought_after [] t past ≡ brought_of (only t past)
brought_is t past = target_is reads_brought brought_after [] brought_of
    (record { starts = refl; steps = λ s u e p r. refl; stays = λ s u e p r. stays e (brought_of p) r; clients = λ s c e p. refl }) t past
  where
    stays : (e : Entry) (kept : List Lock) → reads_brought e ≡ false → kept ≡ brought_after kept e
    stays (Brings lock) kept q = absurd (cc)
    stays (Boot boot disk) kept q = absurd (cc)
    stays (Close o) kept q = absurd (cc)
    stays e kept q = refl

pub words_is : (t : ℕ) (past : List Line) → at_target reads_words words_after [] t past ≡ words_of (only t past)
words_is t past = target_is reads_words words_after [] words_of
    (record { starts = refl; steps = λ s u e p r. refl; stays = λ s u e p r. stays e (words_of p) r; clients = λ s c e p. refl }) t past
  where
    stays : (e : Entry) (kept : List Said) → reads_words e ≡ false → kept ≡ words_after kept e
    stays (Says word) kept q = absurd (cc)
    stays (Boot boot disk) kept q = absurd (cc)
    stays (Close o) kept q = absurd (cc)
    stays e kept q = refl

pub wishes_is : (t : ℕ) (past : List Line) → at_target reads_wishes wishes_after [] t past ≡ wishes_of (only t past)
wishes_is t past = target_is reads_wishes wishes_after [] wishes_of
    (record { starts = refl; steps = λ s u e p r. refl; stays = λ s u e p r. stays e (wishes_of p) r; clients = λ s c e p. refl }) t past
  where
    stays : (e : Entry) (kept : List Who) → reads_wishes e ≡ false → kept ≡ wishes_after kept e
    stays (Wishes who) kept q = absurd (cc)
    stays (Boot boot disk) kept q = absurd (cc)
    stays (Close o) kept q = absurd (cc)
    stays e kept q = refl

-- ---- a part of a target

record ServerPart {A : Type 0} (osts : ℕ) (reads : Entry → Bool) (after : A → Entry → A) (part : Server → A) : Type 0 where
  steps : (v : Server) (e : Entry) → reads e ≡ true → after (part v) e ≡ part (server_after osts v e)
  stays : (v : Server) (e : Entry) → reads e ≡ false → part v ≡ part (server_after osts v e)

part_is : {A : Type 0} (osts : ℕ) (reads : Entry → Bool) (after : A → Entry → A) (part : Server → A) → ServerPart osts reads after part
    → (t : ℕ) (past : List Line) → at_target reads after (part (server_of osts [])) t past ≡ part (server_of osts (only t past))
part_is osts reads after part f t past =
    target_is reads after (part (server_of osts [])) (λ p. part (server_of osts p))
    (record {
      starts = refl;
      steps = λ s u e p r. f.steps (server_of osts p) e r;
      stays = λ s u e p r. f.stays (server_of osts p) e r;
      clients = λ s c e p. refl;
    }) t past

boot_part : (osts : ℕ) → ServerPart osts reads_boot boot_after (λ v. v.boot)
boot_part osts = record { steps = steps; stays = stays }
  where
    steps : (v : Server) (e : Entry) → reads_boot e ≡ true → boot_after v.boot e ≡ (server_after osts v e).boot
    steps v (Boot b d) r = refl
    steps v e r = absurd (cc)

    stays : (v : Server) (e : Entry) → reads_boot e ≡ false → v.boot ≡ (server_after osts v e).boot
    stays v (Boot b d) r = absurd (cc)
    stays v e r = refl

count_part : (osts : ℕ) → ServerPart osts reads_count count_after (λ v. v.count)
count_part osts = record { steps = steps; stays = stays }
  where
    steps : (v : Server) (e : Entry) → reads_count e ≡ true → count_after v.count e ≡ (server_after osts v e).count
    steps v (Txn d) r = refl
    steps v (Boot b k) r = refl
    steps v e r = absurd (cc)

    stays : (v : Server) (e : Entry) → reads_count e ≡ false → v.count ≡ (server_after osts v e).count
    stays v (Txn d) r = absurd (cc)
    stays v (Boot b k) r = absurd (cc)
    stays v e r = refl

committed_part : (osts : ℕ) → ServerPart osts reads_committed committed_after (λ v. v.committed)
committed_part osts = record { steps = steps; stays = stays }
  where
    steps : (v : Server) (e : Entry) → reads_committed e ≡ true → committed_after v.committed e ≡ (server_after osts v e).committed
    steps v (Commit to batch) r = refl
    steps v (Close o) r = refl
    steps v e r = absurd (cc)

    stays : (v : Server) (e : Entry) → reads_committed e ≡ false → v.committed ≡ (server_after osts v e).committed
    stays v (Commit to batch) r = absurd (cc)
    stays v (Close o) r = absurd (cc)
    stays v e r = refl

tree_part : (osts : ℕ) → ServerPart osts reads_tree (tree_after osts) (λ v. v.tree)
tree_part osts = record { steps = steps; stays = stays }
  where
    steps : (v : Server) (e : Entry) → reads_tree e ≡ true → tree_after osts v.tree e ≡ (server_after osts v e).tree
    steps v (Txn d) r = refl
    steps v (Evict w cause) r = refl
    steps v (Close o) r = refl
    steps v e r = absurd (cc)

    stays : (v : Server) (e : Entry) → reads_tree e ≡ false → v.tree ≡ (server_after osts v e).tree
    stays v (Txn d) r = absurd (cc)
    stays v (Evict w cause) r = absurd (cc)
    stays v (Close o) r = absurd (cc)
    stays v e r = refl

log_part : (osts : ℕ) → ServerPart osts reads_log log_after (λ v. v.log)
log_part osts = record { steps = steps; stays = stays }
  where
    steps : (v : Server) (e : Entry) → reads_log e ≡ true → log_after v.log e ≡ (server_after osts v e).log
    steps v (Txn d) r = refl
    steps v (Commit to batch) r = refl
    steps v (Close o) r = refl
    steps v e r = absurd (cc)

    stays : (v : Server) (e : Entry) → reads_log e ≡ false → v.log ≡ (server_after osts v e).log
    stays v (Txn d) r = absurd (cc)
    stays v (Commit to batch) r = absurd (cc)
    stays v (Close o) r = absurd (cc)
    stays v e r = refl

waiting_part : (osts : ℕ) → ServerPart osts reads_waiting waiting_after (λ v. v.waiting)
waiting_part osts = record { steps = steps; stays = stays }
  where
    steps : (v : Server) (e : Entry) → reads_waiting e ≡ true → waiting_after v.waiting e ≡ (server_after osts v e).waiting
    steps v (Enters q) r = refl
    steps v (Act d) r = refl
    steps v (Txn d) r = refl
    steps v (Grant lock asked) r = refl
    steps v (Wait lock asked) r = refl
    steps v (Answers d) r = refl
    steps v (Evict w cause) r = refl
    steps v (Close o) r = refl
    steps v e r = absurd (cc)

    stays : (v : Server) (e : Entry) → reads_waiting e ≡ false → v.waiting ≡ (server_after osts v e).waiting
    stays v (Enters q) r = absurd (cc)
    stays v (Act d) r = absurd (cc)
    stays v (Txn d) r = absurd (cc)
    stays v (Grant lock asked) r = absurd (cc)
    stays v (Wait lock asked) r = absurd (cc)
    stays v (Answers d) r = absurd (cc)
    stays v (Evict w cause) r = absurd (cc)
    stays v (Close o) r = absurd (cc)
    stays v e r = refl

granted_part : (osts : ℕ) → ServerPart osts reads_granted granted_after (λ v. v.granted)
granted_part osts = record { steps = steps; stays = stays }
  where
    steps : (v : Server) (e : Entry) → reads_granted e ≡ true → granted_after v.granted e ≡ (server_after osts v e).granted
    steps v (Act d) r = refl
    steps v (Grant lock asked) r = refl
    steps v (Release l) r = refl
    steps v (Evict w cause) r = refl
    steps v (Close o) r = refl
    steps v e r = absurd (cc)

    stays : (v : Server) (e : Entry) → reads_granted e ≡ false → v.granted ≡ (server_after osts v e).granted
    stays v (Act d) r = absurd (cc)
    stays v (Grant lock asked) r = absurd (cc)
    stays v (Release l) r = absurd (cc)
    stays v (Evict w cause) r = absurd (cc)
    stays v (Close o) r = absurd (cc)
    stays v e r = refl

cookie_part : (osts : ℕ) → ServerPart osts reads_cookie cookie_after (λ v. v.cookie)
cookie_part osts = record { steps = steps; stays = stays }
  where
    steps : (v : Server) (e : Entry) → reads_cookie e ≡ true → cookie_after v.cookie e ≡ (server_after osts v e).cookie
    steps v (Act d) r = refl
    steps v (Grant lock asked) r = refl
    steps v (Wait lock asked) r = refl
    steps v (Boot b k) r = refl
    steps v e r = absurd (cc)

    stays : (v : Server) (e : Entry) → reads_cookie e ≡ false → v.cookie ≡ (server_after osts v e).cookie
    stays v (Act d) r = absurd (cc)
    stays v (Grant lock asked) r = absurd (cc)
    stays v (Wait lock asked) r = absurd (cc)
    stays v (Boot b k) r = absurd (cc)
    stays v e r = refl

called_part : (osts : ℕ) → ServerPart osts reads_called called_after (λ v. v.called)
called_part osts = record { steps = steps; stays = stays }
  where
    steps : (v : Server) (e : Entry) → reads_called e ≡ true → called_after v.called e ≡ (server_after osts v e).called
    steps v (Block c) r = refl
    steps v (Release l) r = refl
    steps v (Evict w cause) r = refl
    steps v (Close o) r = refl
    steps v e r = absurd (cc)

    stays : (v : Server) (e : Entry) → reads_called e ≡ false → v.called ≡ (server_after osts v e).called
    stays v (Block c) r = absurd (cc)
    stays v (Release l) r = absurd (cc)
    stays v (Evict w cause) r = absurd (cc)
    stays v (Close o) r = absurd (cc)
    stays v e r = refl

objects_part : (osts : ℕ) → ServerPart osts reads_objects objects_after (λ v. v.objects)
objects_part osts = record { steps = steps; stays = stays }
  where
    steps : (v : Server) (e : Entry) → reads_objects e ≡ true → objects_after v.objects e ≡ (server_after osts v e).objects
    steps v (Txn d) r = refl
    steps v (Close o) r = refl
    steps v e r = absurd (cc)

    stays : (v : Server) (e : Entry) → reads_objects e ≡ false → v.objects ≡ (server_after osts v e).objects
    stays v (Txn d) r = absurd (cc)
    stays v (Close o) r = absurd (cc)
    stays v e r = refl

queued_part : (osts : ℕ) → ServerPart osts reads_queued queued_after (λ v. v.queued)
queued_part osts = record { steps = steps; stays = stays }
  where
    steps : (v : Server) (e : Entry) → reads_queued e ≡ true → queued_after v.queued e ≡ (server_after osts v e).queued
    steps v (Wait lock asked) r = refl
    steps v (Grant lock asked) r = refl
    steps v (Evict w cause) r = refl
    steps v (Close o) r = refl
    steps v e r = absurd (cc)

    stays : (v : Server) (e : Entry) → reads_queued e ≡ false → v.queued ≡ (server_after osts v e).queued
    stays v (Wait lock asked) r = absurd (cc)
    stays v (Grant lock asked) r = absurd (cc)
    stays v (Evict w cause) r = absurd (cc)
    stays v (Close o) r = absurd (cc)
    stays v e r = refl

glimpses_part : (osts : ℕ) → ServerPart osts reads_glimpses glimpses_after (λ v. v.glimpses)
glimpses_part osts = record { steps = steps; stays = stays }
  where
    steps : (v : Server) (e : Entry) → reads_glimpses e ≡ true → glimpses_after v.glimpses e ≡ (server_after osts v e).glimpses
    steps v (Asks g) r = refl
    steps v (Ends g) r = refl
    steps v (Evict w cause) r = refl
    steps v (Close o) r = refl
    steps v e r = absurd (cc)

    stays : (v : Server) (e : Entry) → reads_glimpses e ≡ false → v.glimpses ≡ (server_after osts v e).glimpses
    stays v (Asks g) r = absurd (cc)
    stays v (Ends g) r = absurd (cc)
    stays v (Evict w cause) r = absurd (cc)
    stays v (Close o) r = absurd (cc)
    stays v e r = refl

pub boot_is : (osts t : ℕ) (past : List Line) → boot_at t past ≡ (server_of osts (only t past)).boot
boot_is osts t past = part_is osts reads_boot boot_after (λ v. v.boot) (boot_part osts) t past

pub count_is : (osts t : ℕ) (past : List Line) → count_at t past ≡ (server_of osts (only t past)).count
count_is osts t past = part_is osts reads_count count_after (λ v. v.count) (count_part osts) t past

pub committed_is : (osts t : ℕ) (past : List Line) → committed_at t past ≡ (server_of osts (only t past)).committed
committed_is osts t past = part_is osts reads_committed committed_after (λ v. v.committed) (committed_part osts) t past

pub tree_is : (osts t : ℕ) (past : List Line) → tree_at osts t past ≡ (server_of osts (only t past)).tree
tree_is osts t past = part_is osts reads_tree (tree_after osts) (λ v. v.tree) (tree_part osts) t past

pub log_is : (osts t : ℕ) (past : List Line) → log_at t past ≡ (server_of osts (only t past)).log
log_is osts t past = part_is osts reads_log log_after (λ v. v.log) (log_part osts) t past

pub waiting_is : (osts t : ℕ) (past : List Line) → waiting_at t past ≡ (server_of osts (only t past)).waiting
waiting_is osts t past = part_is osts reads_waiting waiting_after (λ v. v.waiting) (waiting_part osts) t past

pub granted_is : (osts t : ℕ) (past : List Line) → granted_at t past ≡ (server_of osts (only t past)).granted
granted_is osts t past = part_is osts reads_granted granted_after (λ v. v.granted) (granted_part osts) t past

pub cookie_is : (osts t : ℕ) (past : List Line) → cookie_at t past ≡ (server_of osts (only t past)).cookie
cookie_is osts t past = part_is osts reads_cookie cookie_after (λ v. v.cookie) (cookie_part osts) t past

pub called_is : (osts t : ℕ) (past : List Line) → called_at t past ≡ (server_of osts (only t past)).called
called_is osts t past = part_is osts reads_called called_after (λ v. v.called) (called_part osts) t past

pub objects_is : (osts t : ℕ) (past : List Line) → objects_at t past ≡ (server_of osts (only t past)).objects
objects_is osts t past = part_is osts reads_objects objects_after (λ v. v.objects) (objects_part osts) t past

pub queued_is : (osts t : ℕ) (past : List Line) → queued_at t past ≡ (server_of osts (only t past)).queued
queued_is osts t past = part_is osts reads_queued queued_after (λ v. v.queued) (queued_part osts) t past

pub glimpses_is : (osts t : ℕ) (past : List Line) → glimpses_at t past ≡ (server_of osts (only t past)).glimpses
glimpses_is osts t past = part_is osts reads_glimpses glimpses_after (λ v. v.glimpses) (glimpses_part osts) t past

-- all parts together
pub server_is : (osts t : ℕ) (past : List Line) → server_at osts t past ≡ server_of osts (only t past)
server_is osts t past =
    whole (boot_is osts t past) (count_is osts t past) (committed_is osts t past) (tree_is osts t past) (log_is osts t past)
    (waiting_is osts t past) (granted_is osts t past) (cookie_is osts t past) (called_is osts t past) (objects_is osts t past)
    (queued_is osts t past) (glimpses_is osts t past)
  where
    V : Server
    V = server_of osts (only t past)

    whole : {b : ℕ} {n : ℕ} {m : TxnOf} {r : Tree} {l : List Deed} {w : List RequestOf} {g : List Lock} {k : ℕ} {c : List Called}
        {o : List (Resource × Object)} {q : List Lock} {h : List Glimpse} → b ≡ V.boot → n ≡ V.count → m ≡ V.committed → r ≡ V.tree → l
        ≡ V.log → w ≡ V.waiting → g ≡ V.granted → k ≡ V.cookie → c ≡ V.called → o ≡ V.objects → q ≡ V.queued → h ≡ V.glimpses
        → ◌≡◌ {A = Server} (record {
          boot = b;
          count = n;
          committed = m;
          tree = r;
          log = l;
          waiting = w;
          granted = g;
          cookie = k;
          called =
              c;
          objects = o;
          queued = q;
          glimpses = h;
        }) V
    whole {b} {n} {m} {r} {l} {w} {g} {k} {c} {o} {q} {h} eb en em er el ew eg ek ec eo eq eh =
        ap (λ (x : ℕ). record {
          boot = x;
          count = n;
          committed = m;
          tree = r;
          log = l;
          waiting = w;
          granted = g;
          cookie = k;
          called = c;
          objects = o;
          queued = q;
          glimpses = h;
        }) eb
        ∙ ap (λ (x : ℕ). record {
          boot = V.boot;
          count = x;
          committed = m;
          tree = r;
          log = l;
          waiting = w;
          granted = g;
          cookie = k;
          called =
              c;
          objects = o;
          queued = q;
          glimpses = h;
        }) en
        ∙ ap (λ (x : TxnOf). record {
          boot = V.boot;
          count = V.count;
          committed = x;
          tree = r;
          log = l;
          waiting = w;
          granted = g;
          cookie =
              k;
          called = c;
          objects = o;
          queued = q;
          glimpses = h;
        }) em
        ∙ ap (λ (x : Tree). record {
          boot = V.boot;
          count = V.count;
          committed = V.committed;
          tree = x;
          log = l;
          waiting = w;
          granted = g;
          cookie = k;
          called = c;
          objects = o;
          queued = q;
          glimpses = h;
        }) er
        ∙ ap (λ (x : List Deed). record {
          boot = V.boot;
          count = V.count;
          committed = V.committed;
          tree = V.tree;
          log = x;
          waiting = w;
          granted = g;
          cookie = k;
          called = c;
          objects = o;
          queued = q;
          glimpses = h;
        }) el
        ∙ ap (λ (x : List RequestOf). record {
          boot = V.boot;
          count = V.count;
          committed = V.committed;
          tree = V.tree;
          log = V.log;
          waiting = x;
          granted = g;
          cookie = k;
          called = c;
          objects = o;
          queued = q;
          glimpses = h;
        }) ew
        ∙ ap (λ (x : List Lock). record {
          boot = V.boot;
          count = V.count;
          committed = V.committed;
          tree = V.tree;
          log = V.log;
          waiting =
              V.waiting;
          granted = x;
          cookie = k;
          called = c;
          objects = o;
          queued = q;
          glimpses = h;
        }) eg
        ∙ ap (λ (x : ℕ). record {
          boot = V.boot;
          count = V.count;
          committed = V.committed;
          tree = V.tree;
          log = V.log;
          waiting = V.waiting;
          granted = V.granted;
          cookie = x;
          called = c;
          objects = o;
          queued = q;
          glimpses = h;
        }) ek
        ∙ ap (λ (x : List Called). record {
          boot = V.boot;
          count = V.count;
          committed = V.committed;
          tree = V.tree;
          log = V.log;
          waiting =
              V.waiting;
          granted = V.granted;
          cookie = V.cookie;
          called = x;
          objects = o;
          queued = q;
          glimpses = h;
        }) ec
        ∙ ap (λ (x : List (Resource × Object)). record {
          boot = V.boot;
          count = V.count;
          committed = V.committed;
          tree = V.tree;
          log =
              V.log;
          waiting = V.waiting;
          granted = V.granted;
          cookie = V.cookie;
          called = V.called;
          objects = x;
          queued = q;
          glimpses = h;
        })
        eo
        ∙ ap (λ (x : List Lock). record {
          boot = V.boot;
          count = V.count;
          committed = V.committed;
          tree = V.tree;
          log = V.log;
          waiting =
              V.waiting;
          granted = V.granted;
          cookie = V.cookie;
          called = V.called;
          objects = V.objects;
          queued = x;
          glimpses = h;
        }) eq
        ∙ ap (λ (x : List Glimpse). record {
          boot = V.boot;
          count = V.count;
          committed = V.committed;
          tree = V.tree;
          log = V.log;
          waiting =
              V.waiting;
          granted = V.granted;
          cookie = V.cookie;
          called = V.called;
          objects = V.objects;
          queued = V.queued;
          glimpses = x;
        }) eh
