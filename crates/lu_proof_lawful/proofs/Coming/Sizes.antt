-- In a covered run the objects of each target lie in a file, on its disk too; so does each size that comes with a lock.
use Rattle.std.proofs.Common.{◌≡◌, ℕ, ◌<◌, ◌≤◌, true, List, [], ◌∷◌, Some, None, ◌⊎◌, inl, inr, ⊎_elim, refl, sym}
use Rattle.std.proofs.Common.{subst, ap, ◌∙◌, arith}
use Rattle.std.specs.Prelude.{◌^◌, map, filter, not, nat_lt}
use Rattle.std.proofs.lemmas.Bool.{cond_both, eqb-true}
use Rattle.lu_base.specs.declared.ids.At.{At}
use Rattle.lu_base.specs.declared.ids.Node.{Node}
use Rattle.lu_base.specs.declared.ids.Node.TheVariants.{Client, Target}
use Rattle.lu_base.specs.declared.ids.Stamp.{Stamp}
use Rattle.lu_base.specs.declared.locks.Resource.{Resource}
use Rattle.lu_msg.specs.declared.answers.Answer.{Answer}
use Rattle.lu_msg.specs.declared.answers.Answer.TheVariants as told
use Rattle.lu_msg.specs.declared.commits.Batch.{Batch}
use Rattle.lu_msg.specs.declared.commits.Transaction.{Transaction}
use Rattle.lu_msg.specs.declared.messages.GrantNotice.{GrantNotice}
use Rattle.lu_msg.specs.declared.messages.Message.{Message}
use Rattle.lu_msg.specs.declared.messages.Message.TheVariants as message
use Rattle.lu_spec_machine.specs.Footprint.{empty}
use Rattle.lu_spec_machine.specs.Fits.{answer_fits}
use Rattle.lu_spec_entries.specs.Carried.{Deed, Outcome, Disk}
use Rattle.lu_spec_entries.specs.Concerns.{concerns, only}
use Rattle.lu_spec_entries.specs.Words.{Entry, Send, Act, Txn, Grant, Wait, Answers, Commit, Boot, Close, Line, line}
use Rattle.lu_spec_client.specs.Messages.{size_with}
use Rattle.lu_spec_target.specs.Lives.{lives_of as lives_in}
use Rattle.lu_spec_target.specs.States.{Target as TargetState}
use Rattle.lu_spec_target.specs.Stored.{object_in, transaction_of, batch_of}
use Rattle.lu_spec_target.specs.Windows.{Replayed, Window, kept_numbers, kept_of, has_number}
use Rattle.lu_proof_lawful.specs.Covered.Deeds.{size_at}
use Rattle.lu_proof_lawful.specs.Covered.Heads.{Head}
use Rattle.lu_proof_lawful.specs.Covered.TargetCloses.{disk_of, recovering_of, closing_of, but_first}
use Rattle.lu_proof_lawful.specs.Covered.TargetStates.{server_of, replays_of, window_of}
use Rattle.lu_proof_lawful.proofs.Preconditions.ClientLines.{IsNames, IsOnObject, IsSimple, IsLock, IsBytes, no_size, asked_parts}
use Rattle.lu_proof_lawful.proofs.Preconditions.Grown.{Grown}
use Rattle.lu_proof_lawful.proofs.Preconditions.Heard.{In, Was}
use Rattle.lu_proof_lawful.proofs.Preconditions.Lists.{in_filter}
use Rattle.lu_proof_lawful.proofs.Preconditions.StoryGuards.{EntryOf, CommitOk, CloseOk}
use Rattle.lu_proof_lawful.proofs.Preconditions.ObjectGuards.{AnswersOk}
use Rattle.lu_proof_lawful.proofs.Invariants.All.{holds}
use Rattle.lu_proof_lawful.proofs.Invariants.AtClose.{replayed_is_done}
use Rattle.lu_proof_lawful.proofs.Invariants.CloseFacts.{closing, again_of}
use Rattle.lu_proof_lawful.proofs.Invariants.TargetGroups.{Acted}
use Rattle.lu_proof_lawful.proofs.Invariants.Groups.{HoldsAt}
use Rattle.lu_proof_lawful.proofs.Invariants.Lines.{DoneBy, acted_line, acted_whole}
use Rattle.lu_proof_lawful.proofs.Invariants.Refused.{acted_answered}
use Rattle.lu_proof_lawful.proofs.Invariants.Sides.{acted_kind}
use Rattle.lu_proof_lawful.specs.Coming.{InFile, IsShort}
use Rattle.lu_proof_lawful.proofs.Coming.Asked.{flew_in}
use Rattle.lu_proof_lawful.proofs.Coming.Objects.{AllLow, low_size, in_low, done_low, EveryIn, stored_low, deeds_in}

-- ---- what is known of covered runs

-- at each target
holds_at : (head : Head) (past : List Line) → Grown head past → (t : ℕ) → HoldsAt head (only t past)
holds_at head past g t = (holds head past g).at t

acted_fits : (head : Head) (past : List Line) (d : Deed) → Grown head past → Acted past d → answer_fits d.op d.reply.answer ≡ true
acted_fits head past d g a = (acted_answered head past d g a).0

abbrev KindDone : ℕ → Deed → Type 0
KindDone t d = ((t ≡ 0) × IsNames d.op) ⊎ ((0 < t) × IsOnObject d.op)

done_kind : (head : Head) (past : List Line) (t : ℕ) (d : Deed) → Grown head past → Acted (only t past) d → KindDone t d
done_kind head past t d g a = acted_kind head past t d g a

-- ---- what was done lies in a file

pub acted_in : (head : Head) (past : List Line) → Grown head past → (t : ℕ) (d : Deed) → Acted (only t past) d → InFile d.op
acted_in head past g t d a =
    let flew = (holds_at head past g t).done.flew d a in
    subst InFile flew.3 (flew_in head past g t d.reply.who flew.0 flew.1)

-- ---- one more line in the story of a target

abbrev ObjectsIn : ℕ → List Line → Type 0
ObjectsIn osts past = AllLow (server_of osts past).objects

abbrev DiskIn : Head → List Line → Type 0
DiskIn head past = AllLow (disk_of head.osts head.clients past).contents.objects

-- what a close has still to commit
abbrev ClosingIn : Head → List Line → Type 0
ClosingIn head past = (to : ℕ) (batch : Batch) (more : List Entry) → closing_of head.clients past ≡ Commit to batch ∷ more
    → EveryIn batch.transactions

abbrev ToldIn : ℕ → List Line → Type 0
ToldIn t past = 0 < t → (d : Deed) → Acted past d → IsShort d.reply.answer

abbrev GivenIn : List Line → Type 0
GivenIn past = (from to : Node) (n : GrantNotice) → Was past from to (message.Grant n) → n.size ≤ 2 ^ 40

abbrev turn : Stamp → Node → At
turn stamp node = record { stamp = stamp; node = node }

module _ (head : Head) (past : List Line) (stamp : Stamp) (t : ℕ) (h : HoldsAt head past)
    (old : (d : Deed) → Acted past d → InFile d.op) where
  -- what a close keeps
  kept_in : (at : At) (o : Outcome) → CloseOk head past at o → (e : Deed) → In e o.kept → InFile e.op
  kept_in at o ok e i =
      let v : TargetState = recovering_of head.osts head.clients past in
      let w : Window = window_of head.osts head.clients past in
      let g = again_of v at v.disk.contents (kept_of (kept_numbers w) (replays_of past)) e
      (subst (λ (x : Outcome). In e x.kept) ok.is i) in
      let r : Replayed = g.0 in
      let among = in_filter (λ (s : Replayed). has_number s.number (kept_numbers w)) r (replays_of past) g.2 in
      let d = replayed_is_done head past h ok.recovers r among.0 in
      subst InFile (d.op ∙ sym (ap (λ (x : Deed). x.op) g.3)) (old d.deed d.acted)

  close_in : (at : At) (o : Outcome) → CloseOk head past at o → EveryIn (map {A = Deed} {B = Transaction} transaction_of o.kept)
  close_in at o ok = deeds_in o.kept (kept_in at o ok)

  objects_line : (node : Node) (e : Entry) → EntryOf head past (turn stamp node) node e
      → ((d : Deed) → Acted (line (turn stamp node) e ∷ past) d → InFile d.op) → DiskIn head past → ObjectsIn head.osts past
      → ObjectsIn head.osts (line (turn stamp node) e ∷ past)
  objects_line (Target u) (Txn d) ok new disk all =
      done_low 0 (transaction_of d) (record { tree = empty; objects = (server_of head.osts past).objects }) d.op (new d (inl refl)) all
  objects_line (Target u) (Close o) ok new disk all =
      subst (λ (x : Disk). AllLow x.contents.objects) (sym (closing head past (turn stamp (Target u)) o ok h).disk)
      (stored_low head.osts (batch_of o.kept (lives_in o.gone) o.joins) (disk_of head.osts head.clients past)
      (close_in (turn stamp (Target u)) o ok) disk)
  objects_line node e ok new disk all = all

  batch_in : (at : At) (to : ℕ) (batch : Batch) → CommitOk head past at to batch → ClosingIn head past → EveryIn batch.transactions
  batch_in at to batch ok more = ⊎_elim
      (λ (e : batch ≡ batch_of
      (filter (λ (d : Deed). not (nat_lt to d.reply.txn.0)) (server_of head.osts past).log) batch.removed batch.added).
      subst (λ (b : Batch). EveryIn b.transactions) (sym e)
      (deeds_in (filter (λ (d : Deed). not (nat_lt to d.reply.txn.0)) (server_of head.osts past).log)
      (λ d i. old d (h.history.log d (in_filter (λ (x : Deed). not (nat_lt to x.reply.txn.0)) d (server_of head.osts past).log i).0).0)))
      (λ due. more to batch due.0 due.1)
      ok.of_batch

  disk_line : (node : Node) (e : Entry) → EntryOf head past (turn stamp node) node e → ClosingIn head past → DiskIn head past
      → DiskIn head (line (turn stamp node) e ∷ past)
  disk_line (Target u) (Commit to batch) ok more all = stored_low head.osts batch (disk_of head.osts head.clients past)
      (batch_in (turn stamp (Target u)) to batch ok more) all
  disk_line (Target u) (Boot boot disk) ok more all = subst (λ (x : Disk). AllLow x.contents.objects) (sym ok.of_disk) all
  disk_line node e ok more all = all

  -- of what a close has to show only the first is a commit
  later_none : ClosingIn head past → (to : ℕ) (batch : Batch) (more : List Entry)
      → but_first (closing_of head.clients past) ≡ Commit to batch ∷ more → EveryIn batch.transactions
  later_none old_closing to batch more e = absurd
      (h.comes.once to batch (subst (λ (es : List Entry). In (Commit to batch) es) (sym e) (inl refl)))

  first_batch_is : (a b : Entry) (xs ys : List Entry) → a ∷ xs ≡ b ∷ ys → a ≡ b
  first_batch_is a b xs ys e = cc

  batch_is : (n to : ℕ) (a b : Batch) → Commit n a ≡ Commit to b → a ≡ b
  batch_is n to a b e = cc

  closing_line : (node : Node) (e : Entry) → EntryOf head past (turn stamp node) node e → ClosingIn head past
      → ClosingIn head (line (turn stamp node) e ∷ past)
  closing_line (Client c) e ok all = all
  closing_line (Target u) (Close o) ok all = λ to batch more e.
      subst (λ (b : Batch). EveryIn b.transactions)
      (batch_is o.disk.committed to (batch_of o.kept (lives_in o.gone) o.joins) batch (first_batch_is _ _ _ _ e))
      (close_in (turn stamp (Target u)) o ok)
  closing_line (Target u) e ok all = later_none all

  -- ---- sizes

  size_in : ObjectsIn head.osts past → (r : Resource) → size_at (server_of head.osts past) r ≤ 2 ^ 40
  size_in all r = low_size (object_in (server_of head.osts past).objects r) (in_low (server_of head.osts past).objects all r)

  abbrev ShortDeed : Deed → Type 0
  ShortDeed d = IsShort d.reply.answer

  answers_in : (at : At) (u : ℕ) (d : Deed) → AnswersOk head.osts past at u d → ShortDeed d
  answers_in at u d (inl k) = subst ShortDeed (sym k.is) tt
  answers_in at u d (inr (inl k)) = subst ShortDeed (sym k.is) tt
  answers_in at u d (inr (inr (inl k))) = subst ShortDeed (sym k.is) tt
  answers_in at u d (inr (inr (inr (inl k)))) = subst ShortDeed (sym k.is) tt
  answers_in at u d (inr (inr (inr (inr k)))) = subst ShortDeed (sym k.is) tt

  some_deed : (a b : Deed) → Some a ≡ Some b → a ≡ b
  some_deed a b e = cc

  -- what an object storage target does
  done_here : (u : ℕ) (e : Entry) → EntryOf head past (turn stamp (Target u)) (Target u) e → 0 < u → ObjectsIn head.osts past → (d : Deed)
      → DoneBy e d → ShortDeed d
  done_here u (Act x) (inl a) high all d k = let zero = a.0 in absurd (omega (arith, zero, high))
  done_here u (Act x) (inr a) high all d k = subst ShortDeed k (subst ShortDeed (sym a.1.is) tt)
  done_here u (Txn x) (inl a) high all d k = let zero = a.0 in absurd (omega (arith, zero, high))
  done_here u (Txn x) (inr a) high all d k = subst ShortDeed k (subst ShortDeed (sym a.1.is) tt)
  done_here u (Grant lock None) ok high all d k = absurd (cc)
  done_here u (Grant lock (Some x)) (inl a) high all d k = let zero = a.0 in absurd (omega (arith, zero, high))
  done_here u (Grant lock (Some x)) (inr a) high all d k = subst ShortDeed (some_deed x d k)
      (subst ShortDeed (sym a.1.is) (size_in all a.1.resource))
  done_here u (Wait lock x) ok high all d k = subst ShortDeed k (subst ShortDeed (sym ok.1.is) tt)
  done_here u (Answers x) ok high all d k = subst ShortDeed k (answers_in (turn stamp (Target u)) u x ok.1)
  done_here u e ok high all d k = absurd k

  not_done : (c : ℕ) (e : Entry) → EntryOf head past (turn stamp (Client c)) (Client c) e → (d : Deed) → DoneBy e d → ⊥
  not_done c (Act x) ok d k = absurd ok
  not_done c (Txn x) ok d k = absurd ok
  not_done c (Grant lock None) ok d k = absurd ok
  not_done c (Grant lock (Some x)) ok d k = absurd ok
  not_done c (Wait lock x) ok d k = absurd ok
  not_done c (Answers x) ok d k = absurd ok
  not_done c e ok d k = k

  told_line : (node : Node) (e : Entry) → EntryOf head past (turn stamp node) node e → concerns t node e ≡ true → ObjectsIn head.osts past
      → ToldIn t past → ToldIn t (line (turn stamp node) e ∷ past)
  told_line (Client c) e ok own all before high d a = ⊎_elim
      (λ (k : DoneBy e d). absurd (not_done c e ok d k))
      (λ (p : Acted past d). before high d p)
      (acted_line (turn stamp (Client c)) e past d a)
  told_line (Target u) e ok own all before high d a = ⊎_elim
      (λ (k : DoneBy e d). done_here u e ok (let same = eqb-true t u own in omega (arith, same, high)) all d k)
      (λ (p : Acted past d). before high d p)
      (acted_line (turn stamp (Target u)) e past d a)

  given_line : (node : Node) (e : Entry) → EntryOf head past (turn stamp node) node e → ObjectsIn head.osts past → GivenIn past
      → GivenIn (line (turn stamp node) e ∷ past)
  given_line node e ok all before from to n w = by node e ok w
    where
      sends : (node to : Node) → EntryOf head past (turn stamp node) node (Send to (message.Grant n)) → n.size ≤ 2 ^ 40
      sends (Target u) (Client c) ok = subst (λ (x : GrantNotice). x.size ≤ 2 ^ 40) (sym ok.is) (size_in all ok.lock.resource)
      sends (Target u) (Target v) ok = absurd ok
      sends (Client c) (Client d) ok = absurd ok
      sends (Client c) (Target v) ok = absurd ok

      by : (node : Node) (e : Entry) → EntryOf head past (turn stamp node) node e
          → Was (line (turn stamp node) e ∷ past) from to (message.Grant n) → n.size ≤ 2 ^ 40
      by node (Send other m) ok w = ⊎_elim
          (λ (p : (node ≡ from) × (other ≡ to) × (m ≡ message.Grant n)). sends node other
          (subst (λ (x : Message). EntryOf head past (turn stamp node) node (Send other x)) p.2 ok))
          (λ (o : Was past from to (message.Grant n)). before from to n o)
          w
      by node e ok w = before from to n w

-- ---- all of it

abbrev Story : Head → ℕ → List Line → Type 0
Story head t past =
    record {
      objects : ObjectsIn head.osts past;
      disk : DiskIn head past;
      closing : ClosingIn head past;
      told : ToldIn t past;
      given : GivenIn past;
    }

only_own : (t : ℕ) (l : Line) (past : List Line) → concerns t l.at.node l.entry ≡ true → only t (l ∷ past) ≡ l ∷ only t past
only_own t l past own = rw own refl

-- one more line
story_line : (head : Head) (past : List Line) (l : Line) → Grown head (l ∷ past) → (t : ℕ) → concerns t l.at.node l.entry ≡ true
    → Story head t (only t past) → Story head t (l ∷ only t past)
story_line head past l g t own before =
    record {
      objects = objects_line head (only t past) l.at.stamp t h old l.at.node l.entry ok
          (λ d a. acted_in head (l ∷ past) g t d
          (subst (λ (p : List Line). Acted p d) (sym (only_own t l past own)) a)) before.disk before.objects;
      disk = disk_line head (only t past) l.at.stamp t h old l.at.node l.entry ok before.closing before.disk;
      closing = closing_line head (only t past) l.at.stamp t h old l.at.node l.entry ok before.closing;
      told = told_line head (only t past) l.at.stamp t h old l.at.node l.entry ok own before.objects before.told;
      given = given_line head (only t past) l.at.stamp t h old l.at.node l.entry ok before.objects before.given;
    }
  where
    h : HoldsAt head (only t past)
    h = holds_at head past g.1 t

    old : (d : Deed) → Acted (only t past) d → InFile d.op
    old d a = acted_in head past g.1 t d a

    ok : EntryOf head (only t past) (turn l.at.stamp l.at.node) l.at.node l.entry
    ok = g.0.of t own

in_story : (head : Head) (past : List Line) → Grown head past → (t : ℕ) → Story head t (only t past)
in_story head [] g t = record {
  objects = tt;
  disk = tt;
  closing = λ to batch more e. absurd
      (cc);
  told = λ high d a. absurd a;
  given = λ from to n w. absurd w;
}
in_story head (l ∷ past) g t =
    cond_both (concerns t l.at.node l.entry) (l ∷ only t past) (only t past) (Story head t)
    (λ own. story_line head past l g t own (in_story head past g.1 t)) (λ other. in_story head past g.1 t)

-- each object of a target lies in a file
pub objects_in : (head : Head) (past : List Line) → Grown head past → (t : ℕ) → AllLow (server_of head.osts (only t past)).objects
objects_in head past g t = (in_story head past g t).objects

-- so does the size that comes with a lock that had waited
pub notices_short : (head : Head) (past : List Line) → Grown head past → (t : ℕ) (from to : Node) (n : GrantNotice)
    → Was (only t past) from to (message.Grant n) → n.size ≤ 2 ^ 40
notices_short head past g t from to n w = (in_story head past g t).given from to n w

none_short : (a : Answer) → size_with a ≡ None → IsShort a
none_short (told.Granted cookie extent size) e = absurd (cc)
none_short a e = tt

-- and that of each answer
pub answers_short : (head : Head) (past : List Line) → Grown head past → (t : ℕ) (d : Deed) → Acted (only t past) d
    → IsShort d.reply.answer
answers_short head past g t d a = by (done_kind head past t d g a)
  where
    by : KindDone t d → IsShort d.reply.answer
    by (inr object) = (in_story head past g t).told object.0 d a
    by (inl names) = ⊎_elim
        (λ (simple : IsSimple d.op). none_short d.reply.answer
        (no_size d.op d.reply.answer simple (acted_fits head past d g (acted_whole t past d a))))
        (λ (object : (0 < t) × (IsLock d.op ⊎ IsBytes d.op)). absurd
        (let zero = names.0 in let high = object.0 in omega (arith, zero, high)))
        (asked_parts t d.op (inl names))
