-- The replies that a target keeps on its disk, or is to commit, are to transactions, and bring no lock.
use Rattle.std.proofs.Common.{◌≡◌, ℕ, Bool, true, false, List, [], ◌∷◌, ◌++◌, ◌⊎◌, inl, inr, ⊎_elim, Some, refl, sym, subst, ap, ◌∙◌}
use Rattle.std.specs.Prelude.{nat_lt, not, filter, if◌then◌else◌}
use Rattle.lu_base.specs.declared.ids.At.{At}
use Rattle.lu_base.specs.declared.ids.Node.{Node}
use Rattle.lu_base.specs.declared.ids.Node.TheVariants.{Client, Target}
use Rattle.lu_base.specs.declared.ids.Who.{Who}
use Rattle.lu_base.specs.declared.locks.Lock.{Lock}
use Rattle.lu_msg.specs.declared.commits.Batch.{Batch}
use Rattle.lu_msg.specs.declared.commits.KeptReply.{KeptReply}
use Rattle.lu_msg.specs.declared.messages.Reply.{Reply as ReplyTo}
use Rattle.lu_spec_entries.specs.Carried.{Deed, Gone, Contents, Slot, LifeSlot, Disk, Outcome}
use Rattle.lu_spec_entries.specs.Words.{Entry, Txn, Commit, Boot, Close, Line, line}
use Rattle.lu_spec_target.specs.Lives.{is_life, slot_in, with_slot, slots_kept, slots_without, is_slot_of, lives_of as lives_in}
use Rattle.lu_spec_target.specs.Outcomes.{deed_again, deeds_again}
use Rattle.lu_spec_target.specs.Outcomes as rows
use Rattle.lu_spec_target.specs.Recovery.{kept_lines, restore_lines}
use Rattle.lu_spec_target.specs.States.{Target as TargetOf}
use Rattle.lu_spec_target.specs.Stored.{transaction_of, done, with_kept, replies_of, batch_of}
use Rattle.lu_spec_target.specs.Windows.{Replayed, settled}
use Rattle.lu_proof_lawful.specs.Covered.Heads.{Head}
use Rattle.lu_proof_lawful.specs.Covered.TargetCloses.{disk_of, outcome_of, recovering_of, but_first, closing_of, shows, shows_evicted}
use Rattle.lu_proof_lawful.specs.Covered.TargetCloses.{shows_ready, shows_joined, staying}
use Rattle.lu_proof_lawful.specs.Covered.TargetStates.{server_of, lives_of}
use Rattle.lu_proof_lawful.proofs.Preconditions.Guards.{In}
use Rattle.lu_proof_lawful.proofs.Preconditions.StoryGuards.{Due, TxnsOk, EntryOf}
use Rattle.lu_proof_lawful.proofs.Preconditions.Grown.{GrownOf}
use Rattle.lu_proof_lawful.proofs.Preconditions.Lists.{turn, in_append, in_filter}
use Rattle.lu_proof_lawful.proofs.Preconditions.CloseLists.{in_with_kept}

abbrev pub IsBare : ReplyTo → Type 0
IsBare k = k.locks ≡ []

abbrev pub BareDeeds : List Deed → Type 0
BareDeeds ds = (d : Deed) → In d ds → IsBare d.reply

abbrev pub BareReplies : List KeptReply → Type 0
BareReplies kept = (k : KeptReply) → In k kept → IsBare k.reply

abbrev pub BareSlots : List LifeSlot → Type 0
BareSlots slots = (s : LifeSlot) → In s slots → (k : ReplyTo) → s.slot.reply ≡ Some k → IsBare k

-- ---- batches

pub bare_replies : (ds : List Deed) (kept : List KeptReply) → BareDeeds ds → BareReplies kept → BareReplies (replies_of ds kept)
bare_replies [] kept b r = r
bare_replies (d ∷ ds) kept b r =
    bare_replies ds (with_kept x kept) (λ e i. b e (inr i))
    (λ k i. ⊎_elim (λ (e : x ≡ k). subst (λ (y : KeptReply). IsBare y.reply) e (b d (inl refl))) (λ (j : In k kept). r k j)
    (in_with_kept x k kept i))
  where
    x : KeptReply
    x = record { who = d.reply.who; tag = d.tag; reply = d.reply }

-- ---- slots

with_slot_only : (who : Who) (tag : ℕ) (slot : Slot) (s : LifeSlot) (slots : List LifeSlot) → In s (with_slot who tag slot slots)
    → (slot ≡ s.slot) ⊎ In s slots
with_slot_only who tag slot s [] (inl e) = inl (ap (λ (y : LifeSlot). y.slot) e)
with_slot_only who tag slot s [] (inr i) = absurd i
with_slot_only who tag slot s (x ∷ slots) i = by (is_slot_of who tag x) i (with_slot_only who tag slot s slots)
  where
    new : LifeSlot
    new = record { who = who; tag = tag; slot = slot }

    by : (b : Bool) → In s (if b then new ∷ slots else x ∷ with_slot who tag slot slots)
        → (In s (with_slot who tag slot slots) → (slot ≡ s.slot) ⊎ In s slots) → (slot ≡ s.slot) ⊎ In s (x ∷ slots)
    by true (inl e) more = inl (ap (λ (y : LifeSlot). y.slot) e)
    by true (inr j) more = inr (inr j)
    by false (inl e) more = inr (inl e)
    by false (inr j) more = ⊎_elim (λ (e : slot ≡ s.slot). inl e) (λ (h : In s slots). inr (inr h)) (more j)

some_reply : (a b : ReplyTo) → Some a ≡ Some b → a ≡ b
some_reply a b e = cc

bare_kept : (kept : List KeptReply) (slots : List LifeSlot) → BareReplies kept → BareSlots slots → BareSlots (slots_kept kept slots)
bare_kept [] slots r b = b
bare_kept (k ∷ kept) slots r b = bare_kept kept (with_slot k.who k.tag new slots) (λ x i. r x (inr i)) here
  where
    new : Slot
    new = record { taken = k.reply.xid.0; reply = Some k.reply }

    here : BareSlots (with_slot k.who k.tag new slots)
    here s i x e =
        ⊎_elim (λ (q : new ≡ s.slot). subst IsBare (some_reply k.reply x (ap (λ (v : Slot). v.reply) q ∙ e)) (r k (inl refl)))
        (λ (j : In s slots). b s j x e)
        (with_slot_only k.who k.tag new s slots i)

pub bare_in : (slots : List LifeSlot) (who : Who) (tag : ℕ) (k : ReplyTo) → BareSlots slots → (slot_in slots who tag).reply ≡ Some k
    → IsBare k
bare_in [] who tag k b e = absurd (cc)
bare_in (s ∷ slots) who tag k b e = by (is_slot_of who tag s) e (bare_in slots who tag k (λ x i. b x (inr i)))
  where
    by : (q : Bool) → (if q then s.slot else slot_in slots who tag).reply ≡ Some k → ((slot_in slots who tag).reply ≡ Some k → IsBare k)
        → IsBare k
    by true e more = b s (inl refl) k e
    by false e more = more e

pub bare_stored : (removed : List Who) (kept : List KeptReply) (slots : List LifeSlot) → BareReplies kept → BareSlots slots
    → BareSlots (slots_without removed (slots_kept kept slots))
bare_stored removed kept slots r b s i = bare_kept kept slots r b s
    (in_filter (λ (x : LifeSlot). not (is_life x.who removed)) s (slots_kept kept slots) i).0

-- ---- what a close keeps

pub bare_again : (v : TargetOf) (at : At) (c : Contents) (replays : List Replayed) → BareDeeds (deeds_again v at c replays)
bare_again v at c [] d i = absurd i
bare_again v at c (r ∷ replays) d (inl e) = subst (λ (x : Deed). IsBare x.reply) e refl
bare_again v at c (r ∷ replays) d (inr i) = bare_again v at (done v.setting.osts c (transaction_of (deed_again v at c r))) replays d i

bare_made : (v : TargetOf) (at : At) → BareDeeds (rows.outcome_of v at).kept
bare_made v at = bare_again v at v.disk.contents (settled (rows.window_of v)).kept

-- each batch among these entries
abbrev BareEntry : Entry → Type 0
BareEntry (Commit to batch) = BareReplies batch.replies
BareEntry _ = Unit {0}

abbrev BareEntries : List Entry → Type 0
BareEntries [] = Unit {0}
BareEntries (e ∷ es) = BareEntry e × BareEntries es

bare_more : (es fs : List Entry) → BareEntries es → BareEntries fs → BareEntries (es ++ fs)
bare_more [] fs a b = b
bare_more (e ∷ es) fs a b = (a.0, bare_more es fs a.1 b)

bare_lines : (ds : List Deed) → BareEntries (kept_lines ds)
bare_lines [] = tt
bare_lines (d ∷ ds) = (tt, bare_lines ds)

bare_restored : (locks : List Lock) → BareEntries (restore_lines locks)
bare_restored [] = tt
bare_restored (l ∷ locks) = (tt, bare_restored locks)

bare_evicted : (o : Outcome) (gone : List Gone) → BareEntries (shows_evicted o gone)
bare_evicted o [] = tt
bare_evicted o (g ∷ gone) = (tt, (tt, bare_evicted o gone))

bare_ready : (o : Outcome) (lives : List Who) → BareEntries (shows_ready o lives)
bare_ready o [] = tt
bare_ready o (w ∷ lives) = (tt, bare_ready o lives)

bare_joined : (o : Outcome) (lives : List Who) → BareEntries (shows_joined o lives)
bare_joined o [] = tt
bare_joined o (w ∷ lives) = (tt, (tt, bare_joined o lives))

bare_shows : (o : Outcome) (lives : List Who) → BareDeeds o.kept → BareEntries (shows o lives)
bare_shows o lives b = (
  bare_replies o.kept [] b (λ k i. absurd i),
  bare_more (kept_lines o.kept) _ (bare_lines o.kept) (bare_more (restore_lines o.locks) _ (bare_restored o.locks)
      (bare_more (shows_evicted o o.gone) _ (bare_evicted o o.gone)
      (bare_more (shows_ready o (staying o lives)) _ (bare_ready o (staying o lives)) (bare_joined o o.joins)))),
)

bare_left : (es : List Entry) → BareEntries es → BareEntries (but_first es)
bare_left [] b = tt
bare_left (e ∷ es) b = b.1

module _ (head : Head) where
  pub bare_closing : (past : List Line) → GrownOf head past → BareEntries (closing_of head.clients past)
  bare_closing [] g = tt
  bare_closing (l ∷ past) g = by l.at.node l.entry g.0 (bare_closing past g.3)
    where
      by : (node : Node) (e : Entry) → EntryOf head past l.at node e → BareEntries (closing_of head.clients past)
          → BareEntries (closing_of head.clients (line (turn l.at.stamp node) e ∷ past))
      by (Client c) e ok b = b
      by (Target t) (Close o) ok b = bare_shows o (lives_of head.clients past)
          (subst (λ (x : Outcome). BareDeeds x.kept) (sym ok.is) (bare_made (recovering_of head.osts head.clients past) l.at))
      by (Target t) e ok b = bare_left (closing_of head.clients past) b

  -- what isn't on the disk yet
  pub bare_log : (past : List Line) → GrownOf head past → BareDeeds (server_of head.osts past).log
  bare_log [] g = λ d i. absurd i
  bare_log (l ∷ past) g = by l.at.node l.entry g.0 (bare_log past g.3)
    where
      Log : List Deed
      Log = (server_of head.osts past).log

      by : (node : Node) (e : Entry) → EntryOf head past l.at node e → BareDeeds Log
          → BareDeeds (server_of head.osts (line (turn l.at.stamp node) e ∷ past)).log
      by (Client c) e ok b x i = b x i
      by (Target t) (Txn d) ok b x i = ⊎_elim (λ (j : In x Log). b x j)
          (λ (j : In x (d ∷ [])). ⊎_elim (λ (e : d ≡ x). subst (λ (y : Deed). IsBare y.reply) e (made ok)) (λ (n : ⊥). absurd n) j)
          (in_append x Log (d ∷ []) i)
        where
          made : TxnsOk head.osts past l.at t d → IsBare d.reply
          made (inl k) = subst (λ (y : Deed). IsBare y.reply) (sym k.1.is) refl
          made (inr k) = subst (λ (y : Deed). IsBare y.reply) (sym k.1.is) refl
      by (Target t) (Commit to batch) ok b x i = b x (in_filter (λ (d : Deed). nat_lt to d.reply.txn.0) x Log i).0
      by (Target t) (Close o) ok b x i = absurd i
      by (Target t) e ok b x i = b x i

  -- what is
  pub bare_disk : (past : List Line) → GrownOf head past → BareSlots (disk_of head.osts head.clients past).slots
  bare_disk [] g = λ s i. absurd i
  bare_disk (l ∷ past) g = by l.at.node l.entry g.0 (bare_disk past g.3)
    where
      slots : List LifeSlot
      slots = (disk_of head.osts head.clients past).slots

      of_log : (to : ℕ) → BareReplies (replies_of (filter (λ (d : Deed). not (nat_lt to d.reply.txn.0)) (server_of head.osts past).log) [])
      of_log to = bare_replies _ [] (λ d i. bare_log past g.3 d
          (in_filter (λ (x : Deed). not (nat_lt to x.reply.txn.0)) d (server_of head.osts past).log i).0) (λ k i. absurd i)

      by : (node : Node) (e : Entry) → EntryOf head past l.at node e → BareSlots slots
          → BareSlots (disk_of head.osts head.clients (line (turn l.at.stamp node) e ∷ past)).slots
      by (Client c) e ok b = b
      by (Target t) (Commit to batch) ok b =
          bare_stored batch.removed batch.replies slots
          (⊎_elim {A = batch ≡ batch_of (filter (λ (d : Deed). not (nat_lt to d.reply.txn.0)) (server_of head.osts past).log) batch.removed
          batch.added}
          (λ q. subst (λ (x : Batch). BareReplies x.replies) (sym q) (of_log to))
          (λ (due : Due head past l.at (Commit to batch)). (subst BareEntries {y = Commit to batch ∷ due.0} due.1
          (bare_closing past g.3)).0) ok.of_batch)
          b
      by (Target t) (Boot boot disk) ok b = subst (λ (x : Disk). BareSlots x.slots) (sym ok.of_disk) b
      by (Target t) e ok b = b

  -- what a close puts there
  pub bare_outcome : (at : At) (past : List Line) → GrownOf head past → BareSlots (outcome_of head.osts head.clients at past).disk.slots
  bare_outcome at past g =
      let v = recovering_of head.osts head.clients past in
      let s = settled (rows.window_of v) in
      let batch = batch_of (rows.outcome_of v at).kept (lives_in s.gone) s.joins in
      bare_stored batch.removed batch.replies (disk_of head.osts head.clients past).slots
      (bare_replies (rows.outcome_of v at).kept [] (bare_made v at) (λ k i. absurd i)) (bare_disk past g)
