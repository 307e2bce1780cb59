-- The slots on the disk: each commit puts there the replies to what it has, of each life and tag the last one; that of a close puts there
-- what the target goes on from.
use Rattle.std.proofs.Common.{◌≡◌, ℕ, ◌+◌, ◌*◌, ◌<◌, ◌≤◌, Bool, true, false, List, [], ◌∷◌, ◌++◌, Option, Some, None, ◌⊎◌, inl, inr, ⊎_elim}
use Rattle.std.proofs.Common.{refl, sym, subst, ap, ◌∙◌, arith}
use Rattle.std.specs.Prelude.{nat_lt, not}
use Rattle.std.specs.List.{filter}
use Rattle.std.proofs.lemmas.Bool.{or_parts, not-true}
use Rattle.std.proofs.lemmas.Bool.Decides.{nat_tests}
use Rattle.lu_base.specs.declared.ids.At.{At}
use Rattle.lu_base.specs.declared.ids.Node.{Node}
use Rattle.lu_base.specs.declared.ids.Node.TheVariants.{Client, Target}
use Rattle.lu_base.specs.declared.ids.Stamp.{Stamp}
use Rattle.lu_base.specs.declared.ids.Txn.{Txn}
use Rattle.lu_base.specs.declared.ids.Who.{Who}
use Rattle.lu_base.specs.declared.locks.Lock.{Lock}
use Rattle.lu_msg.specs.declared.commits.Batch.{Batch}
use Rattle.lu_msg.specs.declared.commits.Transaction.{Transaction}
use Rattle.lu_msg.specs.declared.messages.Message.{Message}
use Rattle.lu_msg.specs.declared.messages.Reply.{Reply as ReplyTo}
use Rattle.lu_spec_entries.specs.Carried.{Deed, Disk, Gone, Outcome, Slot}
use Rattle.lu_spec_entries.specs.Words.{Entry, Send, Heard, Act, Txn as Made, Grant, Wait, Answers, Commit, Boot, Close, Line, line}
use Rattle.lu_spec_entries.specs.Words.{same_life}
use Rattle.lu_spec_target.specs.Lives.{is_life, no_slot, slot_in, slots_kept, lives_of as lives_in}
use Rattle.lu_spec_target.specs.Recovery.{kept_lines, restore_lines}
use Rattle.lu_spec_target.specs.Stored.{batch_of, stored}
use Rattle.lu_proof_lawful.specs.Covered.TargetStates.{server_of, lives_of, closed_of}
use Rattle.lu_proof_lawful.specs.Covered.TargetCloses.{disk_of, shows_evicted, shows_ready, shows_joined, staying, but_first, closing_of}
use Rattle.lu_proof_lawful.specs.Covered.Heads.{Head}
use Rattle.lu_proof_lawful.proofs.Preconditions.Guards.{In, IsCommit}
use Rattle.lu_proof_lawful.proofs.Preconditions.StoryGuards.{Due, SendOf, CommitOk, CloseOk, EntryOf}
use Rattle.lu_proof_lawful.proofs.Preconditions.Acts.{acted}
use Rattle.lu_proof_lawful.proofs.Preconditions.Grown.{ShowsNext, IsPlaced}
use Rattle.lu_proof_lawful.proofs.Preconditions.Lists.{in_append, in_filter, in_filtered}
use Rattle.lu_proof_lawful.proofs.Preconditions.LifeLists.{any_lives}
use Rattle.lu_proof_lawful.proofs.Preconditions.NamesGrant.{in_but}
use Rattle.lu_proof_lawful.proofs.Invariants.Groups.{turn, StoredFor, OnDisk, DiskSlots, Coming, Comes, HoldsAt}
use Rattle.lu_proof_lawful.proofs.Invariants.TargetGroups.{Acted, HasSlot, Evicted, IsMade, Stands, Rebuilt}
use Rattle.lu_proof_lawful.proofs.Invariants.DoneGrows.{rebuilt_more}
use Rattle.lu_proof_lawful.proofs.Invariants.GrantLines.{grant_made}
use Rattle.lu_proof_lawful.proofs.Invariants.ObjectDeeds.{wait_told, answers_told, told_number, makes}
use Rattle.lu_proof_lawful.proofs.Invariants.DoneSends.{rebuilt_sent}
use Rattle.lu_proof_lawful.proofs.Invariants.DoneCloses.{old_boot, stands_before, stored_still}
use Rattle.lu_proof_lawful.proofs.Invariants.SlotLists.{NoneFalls, OfSlot, rises_falls, falls_filter, slot_gone, last_in, above_in}
use Rattle.lu_proof_lawful.proofs.Invariants.SlotLists.{last_upto, last_most}
use Rattle.lu_proof_lawful.proofs.Invariants.CloseFacts.{OfDeed, Among, closing, filled_high, filled_kept, filled_slots}

-- what is stored empties the slots of the lives that it removes (nothing else rests on that: no printed line shows what a slot holds, and
-- no row reads that of a life that was removed)
pub emptied : (osts : ℕ) (batch : Batch) (disk : Disk) (who : Who) (tag : ℕ) → is_life who batch.removed ≡ true
    → slot_in (stored osts batch disk).slots who tag ≡ no_slot
emptied osts batch disk who tag gone = slot_gone batch.removed (slots_kept batch.replies disk.slots) who tag gone

pub disk_start : (osts clients : ℕ) → DiskSlots osts clients []
disk_start osts clients = record { high = λ d a. absurd a; kept = λ who tag k e. absurd (cc); slots = λ who tag k e. absurd (cc) }

stored_more : (osts : ℕ) (past new : List Line) (committed : ℕ) (who : Who) (tag : ℕ) (k : ReplyTo)
    → ((d : Deed) → Acted past d → Acted new d) → ((d : Deed) → Stands osts past d → Stands osts new d)
    → (Rebuilt past who k → Rebuilt new who k)
    → StoredFor osts past committed who tag k → StoredFor osts new committed who tag k
stored_more osts past new committed who tag k acted stands rebuilt (inl g) = inl (g.0, acted g.0 g.1, g.2, g.3, g.4, stands g.0 g.5, g.6)
stored_more osts past new committed who tag k acted stands rebuilt (inr r) = inr (rebuilt r)

stored_upto : (osts : ℕ) (past : List Line) (low high : ℕ) (who : Who) (tag : ℕ) (k : ReplyTo) → low ≤ high
    → StoredFor osts past low who tag k → StoredFor osts past high who tag k
stored_upto osts past low high who tag k le (inl g) = let upto = g.6 in inl (g.0, g.1, g.2, g.3, g.4, g.5, omega arith)
stored_upto osts past low high who tag k le (inr r) = inr r

-- ---- a commit while the target serves

module _ (head : Head) (past : List Line) (to : ℕ) (removed added : List Who)
    (level : (disk_of head.osts head.clients past).committed ≡ (server_of head.osts past).committed.0) (h : HoldsAt head past) where
  abbrev disk : Disk
  disk = disk_of head.osts head.clients past

  abbrev log : List Deed
  log = (server_of head.osts past).log

  abbrev upto : Deed → Bool
  upto d = not (nat_lt to d.reply.txn.0)

  abbrev ds : List Deed
  ds = filter upto log

  abbrev after : Disk
  after = stored head.osts (batch_of ds removed added) disk

  falls : NoneFalls ds
  falls = falls_filter upto log (rises_falls log h.history.log_rises)

  is_upto : (d : Deed) → upto d ≡ true → d.reply.txn.0 ≤ to
  is_upto d t = let f = not-true (nat_lt to d.reply.txn.0) t in grind (arith, nat_tests, f)

  of : (e : Deed) → In e ds → OfDeed head.osts past disk.committed e
  of e i =
      let j = in_filter upto e log i in
      let l = h.history.log e j.0 in
      let lt = l.3 in
      record { deed = e; acted = l.0; made = l.1; stands = l.2; who = refl; tag = refl; number = refl; xid = refl; above = omega arith }

  above : (e : Deed) → In e ds → disk.committed < e.reply.txn.0
  above e i = (of e i).above

  pub among : (d : Deed) → Acted past d → IsMade d → Stands head.osts past d → d.reply.txn.0 ≤ after.committed → Among disk.committed ds d
  among d a m s le =
      ⊎_elim
      (λ (i : In d log). ⊎_elim
      (λ (e : after.committed ≡ disk.committed). inl (omega arith))
      (λ (k : (t : Transaction) × In t (filter (λ (t : Transaction). nat_lt disk.committed t.txn.0)
      (batch_of ds removed added).transactions) × (after.committed ≡ t.txn.0)).
      let g = above_in disk.committed ds k.0 k.1 in
      let high = is_upto g.0 (in_filter upto g.0 log g.1).1 in
      let is = k.2 in
      let number = g.2 in
      let low : d.reply.txn.0 ≤ to = omega arith in
      inr (d, in_filtered upto d log i (grind (arith, nat_tests, low)), refl))
      (last_in (filter (λ (t : Transaction). nat_lt disk.committed t.txn.0) (batch_of ds removed added).transactions) disk.committed))
      (λ (low : d.reply.txn.0 ≤ (server_of head.osts past).committed.0). inl (omega arith))
      (h.history.logged d a m s)

  pub commit_disk : OnDisk head.osts past after
  commit_disk =
      record {
        high = λ d a m s low out.
            let p = or_parts (is_life d.reply.who removed) (is_life d.reply.who disk.removed)
            (sym (any_lives (same_life d.reply.who) removed disk.removed) ∙ out) in
            filled_high head.osts head.clients past h.done disk.committed ds falls of removed disk.slots d a m s
            (λ upto. h.disk.high d a m s upto p.1) (among d a m s low) p.0;
        kept = λ who tag k e.
            ⊎_elim
            (λ (old : (slot_in disk.slots who tag).reply ≡ Some k). stored_upto head.osts past disk.committed after.committed who tag k
            (last_upto disk.committed ds) (h.disk.kept who tag k old))
            (λ (g : (e : Deed) × In e ds × OfSlot who tag e × (e.reply ≡ k)).
            let o = of g.0 g.1 in
            inl (
              g.0,
              (h.history.log g.0 (in_filter upto g.0 log g.1).0).0,
              g.3,
              g.2.1,
              (h.history.log g.0 (in_filter upto g.0 log g.1).0).1,
              (h.history.log g.0 (in_filter upto g.0 log g.1).0).2,
              last_most disk.committed ds disk.committed falls above g.0 g.1,
            ))
            (filled_kept head.osts head.clients past h.done disk.committed ds falls of removed disk.slots who tag k e);
        slots = filled_slots head.osts head.clients past h.done disk.committed ds falls of removed disk.slots h.disk.slots;
      }

  -- all up to its number is on the disk then
  pub commit_level : ((d : Deed) × In d log × (to ≡ d.reply.txn.0)) ⊎ (to ≡ (server_of head.osts past).committed.0) → after.committed ≡ to
  commit_level is = by is (last_in (filter (λ (t : Transaction). nat_lt disk.committed t.txn.0) (batch_of ds removed added).transactions)
      disk.committed)
    where
      by : ((d : Deed) × In d log × (to ≡ d.reply.txn.0)) ⊎ (to ≡ (server_of head.osts past).committed.0)
          → (after.committed ≡ disk.committed) ⊎ ((t : Transaction)
          × In t (filter (λ (t : Transaction). nat_lt disk.committed t.txn.0) (batch_of ds removed added).transactions)
          × (after.committed ≡ t.txn.0)) → after.committed ≡ to
      by (inl g) k =
          let e = g.2 in
          let mine : In g.0 ds = in_filtered upto g.0 log g.1 (grind (arith, nat_tests, e)) in
          let most = last_most disk.committed ds disk.committed falls above g.0 mine in
          let over = above g.0 mine in
          ⊎_elim
          (λ (q : after.committed ≡ disk.committed). absurd (omega arith))
          (λ (q : (t : Transaction) × In t (filter (λ (t : Transaction). nat_lt disk.committed t.txn.0)
          (batch_of ds removed added).transactions) × (after.committed ≡ t.txn.0)).
          let u = above_in disk.committed ds q.0 q.1 in
          let high = is_upto u.0 (in_filter upto u.0 log u.1).1 in
          let number = u.2 in
          let is = q.2 in
          omega arith)
          k
      by (inr e) (inl q) = omega arith
      by (inr e) (inr q) =
          let u = above_in disk.committed ds q.0 q.1 in
          let high = is_upto u.0 (in_filter upto u.0 log u.1).1 in
          let number = u.2 in
          let lt = u.3 in
          absurd (omega arith)

-- ---- the commit of a close

due_disk : (head : Head) (past : List Line) (to : ℕ) (disk : Disk) → Coming head.osts head.clients past to disk → HoldsAt head past
    → OnDisk head.osts past disk
due_disk head past to disk c h =
    record {
      high = λ d a m s low out.
          subst (λ (v : Slot). d.reply.xid.0 ≤ v.taken) (sym (c.slots d.reply.who d.tag))
          (h.done.high d a
          (⊎_elim
          (λ (has : HasSlot head.clients past d.reply.who). has)
          (λ (gone : Evicted past d.reply.who). let there : is_life d.reply.who disk.removed ≡ true =
          subst (λ (ws : List Who). is_life d.reply.who ws ≡ true) (sym c.removed) gone in absurd (clash d.reply.who there out))
          (h.lives.acted d a))
          (inr (m, s)));
      kept = λ who tag k e. by who tag k (h.done.kept who tag k (sym (ap (λ (v : Slot). v.reply) (c.slots who tag)) ∙ e));
      slots = λ who tag k e. let r = h.done.slots who tag k (sym (ap (λ (v : Slot). v.reply) (c.slots who tag)) ∙ e)
          in (r.0, r.1 ∙ sym (ap (λ (v : Slot). v.taken) (c.slots who tag)));
    }
  where
    clash : (w : Who) → is_life w disk.removed ≡ true → is_life w disk.removed ≡ false → ⊥
    clash w x y = let z : true ≡ false = sym x ∙ y in absurd (cc)

    committed : (d : Deed) → Acted past d → IsMade d → Stands head.osts past d → d.reply.txn.0 ≤ disk.committed
    committed d a m s =
        ⊎_elim
        (λ (i : In d (server_of head.osts past).log). absurd (subst (λ (ds : List Deed). In d ds) c.log i))
        (λ (le : d.reply.txn.0 ≤ (server_of head.osts past).committed.0). let e = c.committed in omega arith)
        (h.history.logged d a m s)

    by : (who : Who) (tag : ℕ) (k : ReplyTo) → ((d : Deed) × Acted past d × (d.reply ≡ k) × (d.tag ≡ tag)
        × ((d.reply.boot ≡ closed_of past) ⊎ (IsMade d × Stands head.osts past d))) ⊎ Rebuilt past who k
        → StoredFor head.osts past disk.committed who tag k
    by who tag k (inr r) = inr r
    by who tag k (inl g) =
        ⊎_elim
        (λ (b : g.0.reply.boot ≡ closed_of past). let lt = c.none g.0 g.1 in absurd (omega arith))
        (λ (m : IsMade g.0 × Stands head.osts past g.0). inl (g.0, g.1, g.2, g.3, m.0, m.1, committed g.0 g.1 m.0 m.1))
        g.4

-- ---- which commit it is

-- it is that of a close, or the disk has all that is committed and the batch is of the log
abbrev Which : Head → List Line → (to : ℕ) → Batch → Type 0
Which head past to batch =
    Coming head.osts head.clients past to (stored head.osts batch (disk_of head.osts head.clients past))
    ⊎ (((disk_of head.osts head.clients past).committed ≡ (server_of head.osts past).committed.0)
    × (batch ≡ batch_of (filter (λ (d : Deed). not (nat_lt to d.reply.txn.0)) (server_of head.osts past).log) batch.removed
    batch.added))

which : (head : Head) (past : List Line) (at : At) (to : ℕ) (batch : Batch) → CommitOk head past at to batch
    → ShowsNext head past at (Commit to batch) → HoldsAt head past → Which head past to batch
which head past at to batch ok shows h = by h.comes.level ok.of_batch
  where
    by : ((disk_of head.osts head.clients past).committed ≡ (server_of head.osts past).committed.0)
        ⊎ ((m : ℕ) × (b : Batch) × (more : List Entry) × (closing_of head.clients past ≡ Commit m b ∷ more))
        → (batch ≡ batch_of (filter (λ (d : Deed). not (nat_lt to d.reply.txn.0)) (server_of head.osts past).log) batch.removed batch.added)
        ⊎ Due head past at (Commit to batch) → Which head past to batch
    by (inr k) b = let same = (shows (Commit k.0 k.1) k.2 k.3).0
        in inl (h.comes.next to batch k.2 (k.3 ∙ ap (λ (e : Entry). e ∷ k.2) (sym same)))
    by (inl e) (inr due) = inl (h.comes.next to batch due.0 due.1)
    by (inl e) (inl is) = inr (e, is)

disk_commit : (head : Head) (past : List Line) (stamp : Stamp) (t to : ℕ) (batch : Batch) → Which head past to batch → HoldsAt head past
    → OnDisk head.osts past (stored head.osts batch (disk_of head.osts head.clients past))
disk_commit head past stamp t to batch (inl c) h = due_disk head past to (stored head.osts batch (disk_of head.osts head.clients past)) c h
disk_commit head past stamp t to batch (inr k) h =
    subst (λ (b : Batch). OnDisk head.osts past (stored head.osts b (disk_of head.osts head.clients past))) (sym k.1)
    (commit_disk head past to batch.removed batch.added k.0 h)

-- ---- each line

disk_send : (head : Head) (past : List Line) (at : At) (to : Node) (m : Message) → SendOf head past at.node to m
    → closed_of past ≤ closed_of (line at (Send to m) ∷ past) → HoldsAt head past
    → (who : Who) (tag : ℕ) (k : ReplyTo) → (committed : ℕ) → ((d : Deed) → Stands head.osts past d
    → Stands head.osts (line at (Send to m) ∷ past) d) → StoredFor head.osts past committed who tag k
    → StoredFor head.osts (line at (Send to m) ∷ past) committed who tag k
disk_send head past at to m ok closed h who tag k committed stands s =
    stored_more head.osts past (line at (Send to m) ∷ past) committed who tag k (λ d a. a) stands
    (rebuilt_sent head past at to m ok h.numbers who k closed) s

-- what makes no transaction is none that stands on the disk
idle_high : (head : Head) (past : List Line) (d : Deed) → d.reply.txn.0 ≡ 0 → (g : Deed) → (d ≡ g) ⊎ Acted past g → HoldsAt head past
    → IsMade g → Stands head.osts past g → g.reply.txn.0 ≤ (disk_of head.osts head.clients past).committed
    → is_life g.reply.who (disk_of head.osts head.clients past).removed ≡ false
    → g.reply.xid.0 ≤ (slot_in (disk_of head.osts head.clients past).slots g.reply.who g.tag).taken
idle_high head past d none g (inl q) h m s low out = let same : d.reply.txn.0 ≡ g.reply.txn.0 = ap (λ (v : Deed). v.reply.txn.0) q
    in absurd (omega arith)
idle_high head past d none g (inr b) h m s low out = h.disk.high g b m s low out

pub keeps_disk : (head : Head) (past : List Line) (stamp : Stamp) (node : Node) (e : Entry) → EntryOf head past (turn stamp node) node e
    → IsPlaced head past (line (turn stamp node) e) → HoldsAt head past → DiskSlots head.osts head.clients (line (turn stamp node) e ∷ past)
keeps_disk head past stamp (Client c) (Send to m) ok p h =
    record {
      high = h.disk.high;
      kept = λ who tag k e. disk_send head past (turn stamp (Client c)) to m ok (omega arith) h who tag k
          (disk_of head.osts head.clients past).committed (λ d s. s) (h.disk.kept who tag k e);
      slots = h.disk.slots;
    }
keeps_disk head past stamp (Target t) (Send to m) ok p h =
    record {
      high = h.disk.high;
      kept = λ who tag k e. disk_send head past (turn stamp (Target t)) to m ok (omega arith) h who tag k
          (disk_of head.osts head.clients past).committed (λ d s. s) (h.disk.kept who tag k e);
      slots = h.disk.slots;
    }
keeps_disk head past stamp (Client c) (Heard t f r) ok p h =
    let new : List Line = line (turn stamp (Client c)) (Heard t f r) ∷ past in
    record {
      high = h.disk.high;
      kept = λ who tag k e. stored_more head.osts past new (disk_of head.osts head.clients past).committed who tag k (λ d a. a) (λ d s. s)
          (rebuilt_more past new who k (λ i. inr i) (λ from u q w y x. w) (omega arith)) (h.disk.kept who tag k e);
      slots = h.disk.slots;
    }
keeps_disk head past stamp (Target t) (Act d) ok p h =
    let new : List Line = line (turn stamp (Target t)) (Act d) ∷ past in
    record {
      high = λ g a. idle_high head past d (ap (λ (v : Txn). v.0) (acted head.osts past (turn stamp (Target t)) t d ok).number) g a h;
      kept = λ who tag k e. stored_more head.osts past new (disk_of head.osts head.clients past).committed who tag k (λ g a. inr a)
          (λ g s. s) (λ r. r) (h.disk.kept who tag k e);
      slots = h.disk.slots;
    }
keeps_disk head past stamp (Target t) (Wait lock d) ok p h =
    let new : List Line = line (turn stamp (Target t)) (Wait lock d) ∷ past in
    record {
      high = λ g a. idle_high head past d (told_number head.osts past d (wait_told head.osts past (turn stamp (Target t)) lock d ok.1)) g a
          h;
      kept = λ who tag k e. stored_more head.osts past new (disk_of head.osts head.clients past).committed who tag k (λ g a. inr a)
          (λ g s. s) (λ r. r) (h.disk.kept who tag k e);
      slots = h.disk.slots;
    }
keeps_disk head past stamp (Target t) (Answers d) ok p h =
    let new : List Line = line (turn stamp (Target t)) (Answers d) ∷ past in
    record {
      high = λ g a. idle_high head past d (told_number head.osts past d (answers_told head.osts past (turn stamp (Target t)) t d ok.1)) g a
          h;
      kept = λ who tag k e. stored_more head.osts past new (disk_of head.osts head.clients past).committed who tag k (λ g a. inr a)
          (λ g s. s) (λ r. r) (h.disk.kept who tag k e);
      slots = h.disk.slots;
    }
keeps_disk head past stamp (Target t) (Grant lock None) ok p h =
    let new : List Line = line (turn stamp (Target t)) (Grant lock None) ∷ past in
    record {
      high = λ g a. ⊎_elim (λ (q : ◌≡◌ {A = Option Deed} None (Some g)). absurd (cc)) (λ (b : Acted past g). h.disk.high g b) a;
      kept = λ who tag k e. stored_more head.osts past new (disk_of head.osts head.clients past).committed who tag k (λ g a. inr a)
          (λ g s. s) (λ r. r) (h.disk.kept who tag k e);
      slots = h.disk.slots;
    }
keeps_disk head past stamp (Target t) (Made d) ok p h =
    let new : List Line = line (turn stamp (Target t)) (Made d) ∷ past in
    record {
      high = λ g a m s low out. ⊎_elim
          (λ (q : d ≡ g).
          let number : d.reply.txn.0 ≡ (server_of head.osts past).boot * 4294967296 + ((server_of head.osts past).count + 1) =
          ap (λ (v : Txn). v.0) (makes head.osts past (turn stamp (Target t)) t d ok).number in
          let same : d.reply.txn.0 ≡ g.reply.txn.0 = ap (λ (v : Deed). v.reply.txn.0) q in
          let top = h.history.top in
          let there = h.history.on_disk in
          absurd (omega arith))
          (λ (b : Acted past g). h.disk.high g b m s low out)
          a;
      kept = λ who tag k e. stored_more head.osts past new (disk_of head.osts head.clients past).committed who tag k (λ g a. inr a)
          (λ g s. s) (λ r. r) (h.disk.kept who tag k e);
      slots = h.disk.slots;
    }
keeps_disk head past stamp (Target t) (Grant lock (Some d)) ok p h =
    let new : List Line = line (turn stamp (Target t)) (Grant lock (Some d)) ∷ past in
    record {
      high = λ g a m s low out. h.disk.high g (grant_made head.osts past (turn stamp (Target t)) t lock d ok g a m) m s low out;
      kept = λ who tag k e. stored_more head.osts past new (disk_of head.osts head.clients past).committed who tag k (λ g a. inr a)
          (λ g s. s) (λ r. r) (h.disk.kept who tag k e);
      slots = h.disk.slots;
    }
keeps_disk head past stamp (Target t) (Commit to batch) ok p h =
    disk_commit head past stamp t to batch (which head past (turn stamp (Target t)) to batch ok p.shows h) h
keeps_disk head past stamp (Target t) (Boot boot there) ok p h =
    subst (λ (d : Disk). DiskSlots head.osts head.clients (line (turn stamp (Target t)) (Boot boot d) ∷ past)) (sym ok.of_disk)
    (record { high = h.disk.high; kept = h.disk.kept; slots = h.disk.slots })
keeps_disk head past stamp (Target t) (Close o) ok p h =
    record {
      high = λ d a m s. h.disk.high d a m (stands_before head past stamp t o ok h d s);
      kept = λ who tag k e. stored_still head past stamp t o ok h who tag k (h.disk.kept who tag k e);
      slots = h.disk.slots;
    }
keeps_disk head past stamp (Client c) (Act d) ok p h = absurd ok
keeps_disk head past stamp (Client c) (Grant lock asked) ok p h = absurd ok
keeps_disk head past stamp (Client c) (Wait lock d) ok p h = absurd ok
keeps_disk head past stamp (Client c) (Answers d) ok p h = absurd ok
keeps_disk head past stamp (Client c) (Made d) ok p h = absurd ok
keeps_disk head past stamp (Client c) (Commit to batch) ok p h = absurd ok
keeps_disk head past stamp (Client c) (Boot boot there) ok p h = absurd ok
keeps_disk head past stamp (Client c) (Close o) ok p h = absurd ok
keeps_disk head past stamp (Target t) (Heard u f r) ok p h = absurd ok
keeps_disk head past stamp node e ok p h = h.disk

-- ---- what comes to the disk

pub comes_start : (osts clients : ℕ) → Comes osts clients []
comes_start osts clients = record { next = λ to batch more e. absurd (cc); once = λ to batch i. absurd i; level = inl refl }

-- while no commit of a close is due, all that is committed is on the disk
level_is : (head : Head) (past : List Line) (at : At) (e : Entry) → ShowsNext head past at e → (IsCommit e → ⊥)
    → Comes head.osts head.clients past → (disk_of head.osts head.clients past).committed ≡ (server_of head.osts past).committed.0
level_is head past at e shows out c = by c.level
  where
    by : ((disk_of head.osts head.clients past).committed ≡ (server_of head.osts past).committed.0)
        ⊎ ((to : ℕ) × (batch : Batch) × (more : List Entry) × (closing_of head.clients past ≡ Commit to batch ∷ more))
        → (disk_of head.osts head.clients past).committed ≡ (server_of head.osts past).committed.0
    by (inl e) = e
    by (inr k) = absurd (out (subst IsCommit (sym (shows (Commit k.0 k.1) k.2 k.3).0) tt))

-- a line of the target that isn't of a close
module _ (clients osts : ℕ) (past : List Line) (c : Comes osts clients past) where
  none_next : (to : ℕ) (batch : Batch) (more : List Entry) → but_first (closing_of clients past) ≡ Commit to batch ∷ more → ⊥
  none_next to batch more q = c.once to batch (subst (λ (es : List Entry). In (Commit to batch) es) (sym q) (inl refl))

  none_once : (to : ℕ) (batch : Batch) → In (Commit to batch) (but_first (but_first (closing_of clients past))) → ⊥
  none_once to batch i = c.once to batch (in_but (Commit to batch) (but_first (closing_of clients past)) i)

-- a close shows no commit but the first
abbrev NoCommit : List Entry → Type 0
NoCommit es = (e : Entry) → In e es → IsCommit e → ⊥

no_append : (es fs : List Entry) → NoCommit es → NoCommit fs → NoCommit (es ++ fs)
no_append es fs a b e i k = ⊎_elim (λ (j : In e es). a e j k) (λ (j : In e fs). b e j k) (in_append e es fs i)

no_cons : (x : Entry) (es : List Entry) → (IsCommit x → ⊥) → NoCommit es → NoCommit (x ∷ es)
no_cons x es n a e i k = ⊎_elim (λ (q : x ≡ e). n (subst IsCommit (sym q) k)) (λ (j : In e es). a e j k) i

none_none : NoCommit []
none_none e i k = absurd i

no_kept : (ds : List Deed) → NoCommit (kept_lines ds)
no_kept [] = none_none
no_kept (d ∷ ds) = no_cons _ (kept_lines ds) (λ k. absurd k) (no_kept ds)

no_restores : (ls : List Lock) → NoCommit (restore_lines ls)
no_restores [] = none_none
no_restores (l ∷ ls) = no_cons _ (restore_lines ls) (λ k. absurd k) (no_restores ls)

no_evicted : (o : Outcome) (gs : List Gone) → NoCommit (shows_evicted o gs)
no_evicted o [] = none_none
no_evicted o (g ∷ gs) = no_cons _ (_ ∷ shows_evicted o gs) (λ k. absurd k)
    (no_cons _ (shows_evicted o gs) (λ k. absurd k) (no_evicted o gs))

no_ready : (o : Outcome) (ws : List Who) → NoCommit (shows_ready o ws)
no_ready o [] = none_none
no_ready o (w ∷ ws) = no_cons _ (shows_ready o ws) (λ k. absurd k) (no_ready o ws)

no_joined : (o : Outcome) (ws : List Who) → NoCommit (shows_joined o ws)
no_joined o [] = none_none
no_joined o (w ∷ ws) = no_cons _ (_ ∷ shows_joined o ws) (λ k. absurd k) (no_cons _ (shows_joined o ws) (λ k. absurd k) (no_joined o ws))

comes_close : (head : Head) (past : List Line) (stamp : Stamp) (t : ℕ) (o : Outcome) → CloseOk head past (turn stamp (Target t)) o
    → HoldsAt head past → Comes head.osts head.clients (line (turn stamp (Target t)) (Close o) ∷ past)
comes_close head past stamp t o ok h =
    let c = closing head past (turn stamp (Target t)) o ok h in
    let rest : List Entry = kept_lines o.kept ++ (restore_lines o.locks
    ++ (shows_evicted o o.gone ++ (shows_ready o (staying o (lives_of head.clients past)) ++ shows_joined o o.joins))) in
    let batch : Batch = batch_of o.kept (lives_in o.gone) o.joins in
    record {
      next = λ to b more e.
          let first : Commit o.disk.committed batch ≡ Commit to b = first_is (Commit o.disk.committed batch) (Commit to b) rest more e in
          let same : o.disk.committed ≡ to = cc in
          let of_batch : batch ≡ b = cc in
          subst (λ (n : ℕ). Coming head.osts head.clients (line (turn stamp (Target t)) (Close o) ∷ past) n
          (stored head.osts b (disk_of head.osts head.clients past))) same
          (subst (λ (x : Batch). Coming head.osts head.clients (line (turn stamp (Target t)) (Close o) ∷ past) o.disk.committed
          (stored head.osts x (disk_of head.osts head.clients past))) of_batch
          (subst (Coming head.osts head.clients (line (turn stamp (Target t)) (Close o) ∷ past) o.disk.committed) c.disk
          (record {
            to = refl;
            committed = refl;
            tree = refl;
            log = refl;
            lives = refl;
            removed = refl;
            slots = λ who tag. refl;
            none =
                λ d a. old_boot head past stamp t o ok h d a;
          })));
      once = λ to b i. none (Commit to b) i tt;
      level = inr (o.disk.committed, batch, rest, refl);
    }
  where
    first_is : (x y : Entry) (xs ys : List Entry) → x ∷ xs ≡ y ∷ ys → x ≡ y
    first_is x y xs ys e = cc

    none : NoCommit (kept_lines o.kept ++ (restore_lines o.locks
        ++ (shows_evicted o o.gone ++ (shows_ready o (staying o (lives_of head.clients past)) ++ shows_joined o o.joins))))
    none = no_append (kept_lines o.kept) _ (no_kept o.kept)
        (no_append (restore_lines o.locks) _ (no_restores o.locks)
        (no_append (shows_evicted o o.gone) _ (no_evicted o o.gone)
        (no_append (shows_ready o (staying o (lives_of head.clients past))) _ (no_ready o (staying o (lives_of head.clients past)))
        (no_joined o o.joins))))

pub keeps_comes : (head : Head) (past : List Line) (stamp : Stamp) (node : Node) (e : Entry) → EntryOf head past (turn stamp node) node e
    → IsPlaced head past (line (turn stamp node) e) → HoldsAt head past → Comes head.osts head.clients (line (turn stamp node) e ∷ past)
keeps_comes head past stamp (Client c) (Commit to batch) ok p h = absurd ok
keeps_comes head past stamp (Client c) e ok p h =
    record {
      next = λ to batch more q. absurd (subst IsCommit (sym (p.shows (Commit to batch) more q).0) tt);
      once = h.comes.once;
      level = inl (level_is head past (turn stamp (Client c)) e p.shows (λ k. absurd k) h.comes);
    }
keeps_comes head past stamp (Target t) (Close o) ok p h = comes_close head past stamp t o ok h
keeps_comes head past stamp (Target t) (Commit to batch) ok p h =
    record {
      next = λ m b more q. absurd (none_next head.clients head.osts past h.comes m b more q);
      once = none_once head.clients head.osts past h.comes;
      level = inl (by (which head past (turn stamp (Target t)) to batch ok p.shows h));
    }
  where
    by : Which head past to batch → (stored head.osts batch (disk_of head.osts head.clients past)).committed ≡ to
    by (inl c) = sym c.to
    by (inr k) = subst (λ (b : Batch). (stored head.osts b (disk_of head.osts head.clients past)).committed ≡ to) (sym k.1)
        (commit_level head past to batch.removed batch.added k.0 h ok.is)
keeps_comes head past stamp (Target t) (Boot boot there) ok p h =
    record {
      next = λ m b more q. absurd (none_next head.clients head.osts past h.comes m b more q);
      once = none_once head.clients head.osts past h.comes;
      level = inl (ap (λ (d : Disk). d.committed) ok.of_disk ∙ level_is head past (turn stamp (Target t)) (Boot boot there) p.shows
          (λ k. absurd k) h.comes);
    }
keeps_comes head past stamp (Target t) e ok p h =
    record {
      next = λ m b more q. absurd (none_next head.clients head.osts past h.comes m b more q);
      once = none_once head.clients head.osts past h.comes;
      level = inl (level_is head past (turn stamp (Target t)) e p.shows (λ k. absurd k) h.comes);
    }
