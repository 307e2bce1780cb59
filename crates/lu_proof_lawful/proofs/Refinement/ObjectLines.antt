-- The bytes of an object after each line of its target: what the log and the disk leave of it, what stands there now, and what changed it.
use Rattle.std.proofs.Common.{◌≡◌, ℕ, suc, ◌+◌, ◌*◌, ◌≤◌, ◌<◌, Bool, true, false, List, [], ◌∷◌, ◌++◌, Option, Some, None, ◌⊎◌, inl, inr}
use Rattle.std.proofs.Common.{⊎_elim, refl, sym, subst, ap, ◌∙◌, arith}
use Rattle.std.specs.Prelude.{map, filter, if◌then◌else◌, ◌&&◌, nat_lt, not, option_map}
use Rattle.std.proofs.lemmas.Bool.{lt-ltb}
use Rattle.lu_base.specs.declared.ids.At.{At}
use Rattle.lu_base.specs.declared.ids.Node.TheVariants.{Client, Target}
use Rattle.lu_base.specs.declared.ids.Stamp.{Stamp}
use Rattle.lu_base.specs.declared.ids.Who.{Who}
use Rattle.lu_base.specs.declared.locks.Resource.{Resource}
use Rattle.lu_held.specs.Locks.{same_resource}
use Rattle.lu_lock.specs.Growth.{the_end}
use Rattle.lu_spec_machine.specs.Footprint.{empty}
use Rattle.lu_spec_machine.specs.Objects.{Object, object_writes}
use Rattle.lu_spec_machine.specs.Places.{found_at}
use Rattle.lu_msg.specs.declared.commits.Batch.{Batch}
use Rattle.lu_msg.specs.declared.commits.Transaction.{Transaction}
use Rattle.lu_msg.specs.declared.operations.Op.{Op}
use Rattle.lu_msg.specs.declared.operations.Op.TheVariants as op
use Rattle.lu_spec_entries.specs.Carried.{Deed, Disk}
use Rattle.lu_spec_entries.specs.Words as word
use Rattle.lu_spec_entries.specs.Words.{Line, line}
use Rattle.lu_spec_target.specs.Phase.{first_of}
use Rattle.lu_spec_target.specs.Stored.{object_in, transaction_of, all_done, batch_of, news, stored}
use Rattle.lu_proof_lawful.specs.Covered.TargetStates.{server_of, closed_of}
use Rattle.lu_proof_lawful.specs.Covered.TargetCloses.{disk_of, closing_of, is_lost, but_first}
use Rattle.lu_proof_lawful.specs.Covered.Heads.{Head}
use Rattle.lu_proof_lawful.proofs.Preconditions.Guards.{In}
use Rattle.lu_proof_lawful.proofs.Preconditions.StoryGuards.{Due, WriteOk, CommitOk, EntryOf}
use Rattle.lu_proof_lawful.proofs.Preconditions.Lists.{turn, in_filter}
use Rattle.lu_proof_lawful.proofs.Preconditions.LifeLists.{filter_all}
use Rattle.lu_proof_lawful.proofs.Preconditions.ClientLocks.{in_map}
use Rattle.lu_proof_lawful.proofs.Preconditions.ClientLines.{some_is}
use Rattle.lu_proof_lawful.proofs.Preconditions.Grown.{ShowsNext}
use Rattle.lu_proof_lawful.proofs.Invariants.Groups.{HoldsAt}
use Rattle.lu_proof_lawful.proofs.Invariants.TargetGroups.{Acted, IsMade}
use Rattle.lu_proof_bytes.specs.Object.Words as words
use Rattle.lu_proof_bytes.specs.Object.Words.{Write, Cut, Flush, Entry, Txn, Commit, Close, within}
use Rattle.lu_proof_bytes.specs.Object.Folds as says
use Rattle.lu_proof_bytes.specs.Object.Folds.{op_changes, Changed, nothing_lost}
use Rattle.lu_proof_objects.specs.Points.{is_write, last_of}
use Rattle.lu_proof_lawful.specs.Projection.Lives.{number_of}
use Rattle.lu_proof_lawful.specs.Projection.Locks.{given}
use Rattle.lu_proof_lawful.specs.Projection.Requests.{op_of, get_under}
use Rattle.lu_proof_lawful.specs.Projection.Messages.{request_as, by_target}
use Rattle.lu_proof_lawful.specs.Projection.Stories.{with_entry, served}
use Rattle.lu_proof_lawful.proofs.Refinement.Written.{written, ops_of, changes_on, starts_at, disk_next, disk_then, object_of_disk}
use Rattle.lu_proof_lawful.proofs.Refinement.Written.{done_one, done_written, forgotten_one}
use Rattle.lu_proof_lawful.proofs.Refinement.TiedObject.{Spares, Objects, ChangedBy}
use Rattle.lu_proof_lawful.proofs.Refinement.TargetLines.{given_by}
use Rattle.lu_proof_lawful.proofs.Refinement.ObjectSteps.{op_after, one_after, objects_same, objects_made, under, objects_commit}

pub record BytesBy (head : Head) (r : Resource) (past : List Line) (h : List Entry) : Type 0 where
  pub objects : Objects r h (server_of head.osts past).committed.0 (server_of head.osts past).log (object_of_disk r (disk_then head past))
  pub now : (p : ℕ) → found_at (object_in (server_of head.osts past).objects r) p ≡ says.object nothing_lost h p
  pub changed : (n p : ℕ) → Changed h n p → ChangedBy head r past n p

-- ---- entries that change no bytes

pub record Plain (h k : List Entry) : Type 0 where
  pub object : (lost : ℕ → Bool) (p : ℕ) → says.object lost k p ≡ says.object lost h p
  pub changed : (n p : ℕ) → Changed k n p → Changed h n p

pub plain_same : (h : List Entry) → Plain h h
plain_same h = record { object = λ lost p. refl; changed = λ n p c. c }

abbrev pub IsPlain : Entry → Type 0
IsPlain (Txn n q) = ⊥
IsPlain (Close b lost gone) = ⊥
IsPlain _ = Unit {0}

pub plain_one : (e : Entry) (h : List Entry) → IsPlain e → Plain h (e ∷ h)
plain_one (Txn n q) h i = absurd i
plain_one (Close b lost gone) h i = absurd i
plain_one _ h i = record { object = λ lost p. refl; changed = λ n p c. c }

pub plain_maybe : {A : Type 0} (make : A → Entry) (o : Option A) (h : List Entry) → ((a : A) → IsPlain (make a))
    → Plain h (with_entry (option_map make o) h)
plain_maybe make None h of = plain_same h
plain_maybe make (Some a) h of = plain_one (make a) h (of a)

plain_on : (b : Bool) (e : Entry) (h : List Entry) → IsPlain e → Plain h (with_entry (if b then Some e else None) h)
plain_on true e h of = plain_one e h of
plain_on false e h of = plain_same h

-- a target's entries that leave the bytes
abbrev pub LeavesBytes : word.Entry → Type 0
LeavesBytes (word.Txn d) = ⊥
LeavesBytes (word.Close o) = ⊥
LeavesBytes (word.Commit to batch) = ⊥
LeavesBytes _ = Unit {0}

pub own_plain : (r : Resource) (h : List Entry) (e : word.Entry) → LeavesBytes e → Plain h (with_entry (given_by r h e) h)
own_plain r h (word.Txn d) i = absurd i
own_plain r h (word.Close o) i = absurd i
own_plain r h (word.Commit to batch) i = absurd i
own_plain r h (word.Send (Client c) m) i = plain_maybe words.Send (by_target h m) h (λ a. tt)
own_plain r h (word.Grant l None) i = plain_on (same_resource l.resource r) _ h tt
own_plain r h (word.Grant l (Some d)) i = plain_maybe (λ o. _) (op_of r h d.op) h (λ a. tt)
own_plain r h (word.Wait l d) i = plain_maybe (λ o. _) (op_of r h d.op) h (λ a. tt)
own_plain r h (word.Act d) i = plain_maybe (λ o. _) (op_of r h d.op) h (λ a. tt)
own_plain r h (word.Answers d) i = plain_maybe (λ o. _) (op_of r h d.op) h (λ a. tt)
own_plain r h (word.Release l) i = plain_on (same_resource l.resource r) _ h tt
own_plain r h (word.Evict who cause) i = plain_one (words.Evict (number_of who)) h tt
own_plain r h _ i = plain_same h

-- ---- the disk

-- the next line isn't a commit
abbrev pub NoCommit : List word.Entry → Type 0
NoCommit es = (to : ℕ) (batch : Batch) (more : List word.Entry) → es ≡ word.Commit to batch ∷ more → ⊥

pub next_none : (osts : ℕ) (es : List word.Entry) (disk : Disk) → NoCommit es → disk_next osts es disk ≡ disk
next_none osts [] disk never = refl
next_none osts (e ∷ es) disk never = by e (λ to batch q. never to batch es (ap (λ (x : word.Entry). x ∷ es) q))
  where
    by : (x : word.Entry) → ((to : ℕ) (batch : Batch) → x ≡ word.Commit to batch → ⊥) → disk_next osts (x ∷ es) disk ≡ disk
    by (word.Commit to batch) never = absurd (never to batch refl)
    by _ never = refl

abbrev pub IsCommitting : word.Entry → Type 0
IsCommitting (word.Commit to batch) = Unit {0}
IsCommitting _ = ⊥

module _ (head : Head) (r : Resource) (past : List Line) (stamp : Stamp) (t : ℕ) where
  abbrev at : At
  at = turn stamp (Target t)

  -- a line that isn't a commit comes where no commit does next
  pub commits_none : (e : word.Entry) → ShowsNext head past at e → (IsCommitting e → ⊥) → NoCommit (closing_of head.clients past)
  commits_none e shows other to batch more q = other (subst IsCommitting (sym (shows (word.Commit to batch) more q).0) tt)

  later_none : HoldsAt head past → (es : List word.Entry) → es ≡ but_first (closing_of head.clients past) → NoCommit es
  later_none all es e to batch more q = all.comes.once to batch
      (subst (λ (xs : List word.Entry). In (word.Commit to batch) xs) (sym q ∙ e) (inl refl))

  -- so what is on the disk, or comes there, stays
  disk_same : (e : word.Entry) → LeavesBytes e → EntryOf head past at (Target t) e → ShowsNext head past at e → HoldsAt head past
      → object_of_disk r (disk_then head (line at e ∷ past)) ≡ object_of_disk r (disk_then head past)
  disk_same e leaves ok shows all =
      of_new e leaves ok (later_none all)
      ∙ sym (ap (object_of_disk r) (next_none head.osts (closing_of head.clients past) (disk_of head.osts head.clients past)
      (commits_none e shows (no_commit e leaves))))
    where
      no_commit : (x : word.Entry) → LeavesBytes x → IsCommitting x → ⊥
      no_commit (word.Commit to batch) leaves c = leaves
      no_commit _ leaves c = c

      of_new : (x : word.Entry) → LeavesBytes x → EntryOf head past at (Target t) x
          → ((es : List word.Entry) → es ≡ but_first (closing_of head.clients past) → NoCommit es)
          → object_of_disk r (disk_then head (line at x ∷ past)) ≡ object_of_disk r (disk_of head.osts head.clients past)
      of_new (word.Txn d) i k none = absurd i
      of_new (word.Close o) i k none = absurd i
      of_new (word.Commit to batch) i k none = absurd i
      of_new (word.Boot boot disk) i k none =
          ap (object_of_disk r) (next_none head.osts (but_first (closing_of head.clients past)) (record disk { boot = boot })
          (none (but_first (closing_of head.clients past)) refl))
          ∙ ap (object_of_disk r) k.of_disk
      of_new _ i k none = ap (object_of_disk r) (next_none head.osts (but_first (closing_of head.clients past))
          (disk_of head.osts head.clients past) (none (but_first (closing_of head.clients past)) refl))

  -- ---- what a quiet line leaves

  changed_same : (new : List Line) (n p : ℕ) → ((d : Deed) → Acted past d → Acted new d)
      → ((m : ℕ) → is_lost head.osts new m ≡ is_lost head.osts past m) → ChangedBy head r past n p → ChangedBy head r new n p
  changed_same new n p acted lost c = record {
    deed = c.deed;
    acted = acted c.deed c.acted;
    made = c.made;
    stands = lost c.deed.reply.txn.0
        ∙ c.stands;
    number = c.number;
    writes = c.writes;
    there = c.there;
    starts = c.starts;
  }

  pub bytes_quiet : (new : List Line) (h k : List Entry) → BytesBy head r past h → Plain h k → (server_of head.osts new).committed
      ≡ (server_of head.osts past).committed → (server_of head.osts new).log ≡ (server_of head.osts past).log
      → (server_of head.osts new).objects ≡ (server_of head.osts past).objects → object_of_disk r (disk_then head new)
      ≡ object_of_disk r (disk_then head past) → ((d : Deed) → Acted past d → Acted new d)
      → ((m : ℕ) → is_lost head.osts new m ≡ is_lost head.osts past m)
      → BytesBy head r new k
  bytes_quiet new h k b plain committed log objects disk acted lost =
      record {
        objects = λ l spares p.
            plain.object l p ∙ b.objects l (subst (λ n. Spares n l) (ap (λ m. m.0) committed) spares) p
            ∙ rw (log, disk) refl;
        now = λ p. ap (λ os. found_at (object_in os r) p) objects ∙ b.now p ∙ sym (plain.object nothing_lost p);
        changed = λ n p c. changed_same new n p acted lost (b.changed n p (plain.changed n p c));
      }

  pub bytes_own : (h : List Entry) (e : word.Entry) → LeavesBytes e → EntryOf head past at (Target t) e → ShowsNext head past at e
      → HoldsAt head past → BytesBy head r past h → BytesBy head r (line at e ∷ past) (with_entry (given_by r h e) h)
  bytes_own h e leaves ok shows all b = by e leaves (disk_same e leaves ok shows all) (own_plain r h e leaves)
    where
      by : (x : word.Entry) → LeavesBytes x → object_of_disk r (disk_then head (line at x ∷ past)) ≡ object_of_disk r (disk_then head past)
          → Plain h (with_entry (given_by r h x) h) → BytesBy head r (line at x ∷ past) (with_entry (given_by r h x) h)
      by (word.Txn d) i disk plain = absurd i
      by (word.Close o) i disk plain = absurd i
      by (word.Commit to batch) i disk plain = absurd i
      by (word.Act d) i disk plain = bytes_quiet (line at (word.Act d) ∷ past) h (with_entry (given_by r h (word.Act d)) h) b plain refl
          refl refl disk (λ d a. inr a) (λ m. refl)
      by (word.Grant l asked) i disk plain = bytes_quiet (line at (word.Grant l asked) ∷ past) h
          (with_entry (given_by r h (word.Grant l asked)) h) b plain refl refl refl disk (λ d a. inr a) (λ m. refl)
      by (word.Wait l d) i disk plain = bytes_quiet (line at (word.Wait l d) ∷ past) h (with_entry (given_by r h (word.Wait l d)) h) b plain
          refl refl refl disk (λ d a. inr a) (λ m. refl)
      by (word.Answers d) i disk plain = bytes_quiet (line at (word.Answers d) ∷ past) h (with_entry (given_by r h (word.Answers d)) h) b
          plain refl refl refl disk (λ d a. inr a) (λ m. refl)
      by x i disk plain = bytes_quiet (line at x ∷ past) h (with_entry (given_by r h x) h) b plain refl refl refl disk (λ d a. a)
          (λ m. refl)

  -- ---- a transaction

  -- what it may change, and what the story says that it may
  there_is : (h : List Entry) (o : Op) (x : words.Op) (p : ℕ) → op_of r h o ≡ Some x → op_changes x p ≡ true → changes_on r o p ≡ true
  there_is h (op.Put q cookie offset bytes) x p e c = by (same_resource q r) e
    where
      by : (b : Bool) → (if b then Some (Flush cookie.0 (Write offset bytes)) else None) ≡ Some x → (b && within offset bytes p) ≡ true
      by true f = subst (λ (y : words.Op). op_changes y p ≡ true) (sym (some_is _ x f)) c
      by false f = absurd (cc)
  there_is h (op.Cut q cookie size) x p e c = by (same_resource q r) e
    where
      by : (b : Bool) → (if b then Some (Flush cookie.0 (Cut size)) else None) ≡ Some x → (b && nat_lt size (suc (suc p))) ≡ true
      by true f = subst (λ (y : words.Op). op_changes y p ≡ true) (sym (some_is _ x f)) c
      by false f = absurd (cc)
  there_is h (op.Get q cookie page) x p e c = by (same_resource q r) e
    where
      quiet : (l : Option words.Lock) → op_changes (get_under cookie.0 page l) p ≡ false
      quiet None = refl
      quiet (Some l) = refl

      by : (b : Bool) → (if b then Some (get_under cookie.0 page (given cookie.0 h)) else None) ≡ Some x → false ≡ true
      by true f = sym (quiet (given cookie.0 h)) ∙ ap (λ (y : words.Op). op_changes y p) (some_is _ x f) ∙ c
      by false f = absurd (cc)
  there_is h (op.Enqueue q mode extent) x p e c = by (same_resource q r) e
    where
      by : (b : Bool) → (if b then Some (words.Enqueue (is_write mode) extent.first (last_of extent.last)) else None) ≡ Some x → false
          ≡ true
      by true f = ap (λ (y : words.Op). op_changes y p) (some_is _ x f) ∙ c
      by false f = absurd (cc)
  there_is h (op.Size q) x p e c = by (same_resource q r) e
    where
      by : (b : Bool) → (if b then Some words.Size else None) ≡ Some x → false ≡ true
      by true f = ap (λ (y : words.Op). op_changes y p) (some_is _ x f) ∙ c
      by false f = absurd (cc)
  there_is h _ x p e c = absurd (cc)

  module _ (h : List Entry) (d : Deed) (ok : WriteOk head.osts past at d) (shows : ShowsNext head past at (word.Txn d))
      (all : HoldsAt head past) (starts : (o : words.Op) (p : ℕ) → op_of r h d.op ≡ Some o → op_changes o p ≡ true
      → starts_at d.op ≤ the_end) (b : BytesBy head r past h) where
    abbrev made_now : List Line
    made_now = line at (word.Txn d) ∷ past

    number_is : d.reply.txn.0 ≡ (server_of head.osts past).boot * 4294967296 + ((server_of head.osts past).count + 1)
    number_is = ap (λ (x : Deed). x.reply.txn.0) ok.is

    number_made : IsMade d
    number_made = let n = number_is in omega arith

    number_stays : is_lost head.osts past d.reply.txn.0 ≡ false
    number_stays = let n = number_is in let c = ok.serves.closed in all.history.later d.reply.txn.0 (later_number closed_is)
      where
        closed_is : first_of (closed_of past) ≡ (server_of head.osts past).boot * 4294967296
        closed_is = ap first_of ok.serves.closed

        later_number : first_of (closed_of past) ≡ (server_of head.osts past).boot * 4294967296 → first_of (closed_of past) < d.reply.txn.0
        later_number e = let n = number_is in omega arith

    writes_is : d.writes ≡ object_writes d.op
    writes_is = ap (λ (x : Deed). x.writes) ok.is ∙ sym (ap (λ (x : Deed). object_writes x.op) ok.is)

    disk_stays : object_of_disk r (disk_then head (line at (word.Txn d) ∷ past)) ≡ object_of_disk r (disk_then head past)
    disk_stays =
        ap (object_of_disk r) (next_none head.osts (but_first (closing_of head.clients past)) (disk_of head.osts head.clients past)
        (later_none all (but_first (closing_of head.clients past)) refl))
        ∙ sym (ap (object_of_disk r) (next_none head.osts (closing_of head.clients past) (disk_of head.osts head.clients past)
        (commits_none (word.Txn d) shows (λ c. c))))

    pub bytes_made : BytesBy head r (line at (word.Txn d) ∷ past) (with_entry (served r d h (Txn d.reply.txn.0)) h)
    bytes_made =
        record {
          objects = subst (λ (x : Object). Objects r (with_entry (served r d h (Txn d.reply.txn.0)) h)
              (server_of head.osts past).committed.0 ((server_of head.osts past).log ++ d ∷ []) x) (sym disk_stays)
              (objects_made r h (server_of head.osts past).committed.0 (server_of head.osts past).log
              (object_of_disk r (disk_then head past)) d b.objects);
          now = λ p.
              ap (λ (x : Object). found_at x p) (done_one r 0 (transaction_of d)
              (record { tree = empty; objects = (server_of head.osts past).objects }) d.op)
              ∙ one_after r h d.op (object_in (server_of head.osts past).objects r) p
              ∙ story_now p (op_of r h d.op);
          changed = λ n p c. of_new n p (op_of r h d.op) refl c;
        }
      where
        story_now : (p : ℕ) (o : Option words.Op) → op_after o p (found_at (object_in (server_of head.osts past).objects r) p)
            ≡ says.object nothing_lost (with_entry (option_map (λ x. Txn d.reply.txn.0 (request_as (number_of d.reply.who) d.reply.xid.0 x))
            o) h) p
        story_now p None = b.now p
        story_now p (Some x) = ap (λ v. op_after (Some x) p v) (b.now p)

        old : (n p : ℕ) → Changed h n p → ChangedBy head r (line at (word.Txn d) ∷ past) n p
        old n p c = changed_same (line at (word.Txn d) ∷ past) n p (λ e a. inr a) (λ m. refl) (b.changed n p c)

        of_new : (n p : ℕ) (o : Option words.Op) → op_of r h d.op ≡ o
            → Changed (with_entry (option_map (λ x. Txn d.reply.txn.0 (request_as (number_of d.reply.who) d.reply.xid.0 x)) o) h) n p
            → ChangedBy head r (line at (word.Txn d) ∷ past) n p
        of_new n p None e c = old n p c
        of_new n p (Some x) e (inl c) = record {
          deed = d;
          acted = inl refl;
          made = number_made;
          stands = number_stays;
          number = sym c.0;
          writes = writes_is;
          there = there_is h d.op x p e c.1;
          starts = starts x p e c.1;
        }
        of_new n p (Some x) e (inr c) = old n p c

  -- ---- a commit

  module _ (h : List Entry) (to : ℕ) (batch : Batch) (ok : CommitOk head past at to batch)
      (shows : ShowsNext head past at (word.Commit to batch)) (all : HoldsAt head past) (b : BytesBy head r past h) where
    -- once it is there, nothing comes there
    disk_new : disk_then head (line at (word.Commit to batch) ∷ past) ≡ stored head.osts batch (disk_of head.osts head.clients past)
    disk_new = next_none head.osts (but_first (closing_of head.clients past)) (stored head.osts batch (disk_of head.osts head.clients past))
        (later_none all (but_first (closing_of head.clients past)) refl)

    -- that of a close has come
    of_close : (n : ℕ) (k : Batch) (more : List word.Entry) → closing_of head.clients past ≡ word.Commit n k ∷ more
        → Objects r (Commit to ∷ h) to (filter (λ (d : Deed). nat_lt to d.reply.txn.0) (server_of head.osts past).log)
        (object_of_disk r (disk_then head (line at (word.Commit to batch) ∷ past)))
    of_close n k more e =
        let same = (shows (word.Commit n k) more e).0 in
        let number : to ≡ n = cc in
        let kept : batch ≡ k = cc in
        let c = all.comes.next n k more e in
        let was : disk_then head past ≡ stored head.osts k (disk_of head.osts head.clients past) =
        ap (λ (es : List word.Entry). disk_next head.osts es (disk_of head.osts head.clients past)) e in
        let stays : object_of_disk r (disk_then head (line at (word.Commit to batch) ∷ past)) ≡ object_of_disk r (disk_then head past) =
        ap (object_of_disk r) (disk_new ∙ ap (λ (x : Batch). stored head.osts x (disk_of head.osts head.clients past)) kept ∙ sym was)
        in
        let log : filter (λ (d : Deed). nat_lt to d.reply.txn.0) (server_of head.osts past).log ≡ (server_of head.osts past).log =
        ap (λ (ds : List Deed). filter (λ (d : Deed). nat_lt to d.reply.txn.0) ds) c.log ∙ sym c.log in
        subst (λ (x : Object). Objects r (Commit to ∷ h) to (filter (λ (d : Deed). nat_lt to d.reply.txn.0) (server_of head.osts past).log)
        x) (sym stays)
        (subst (λ (ds : List Deed). Objects r (Commit to ∷ h) to ds (object_of_disk r (disk_then head past))) (sym log)
        (objects_same r h (Commit to ∷ h) (server_of head.osts past).committed.0 to (server_of head.osts past).log
        (object_of_disk r (disk_then head past)) (λ lost p. refl) (number ∙ c.to ∙ c.committed) b.objects))

    -- else what the log has up to that number goes there
    low : (server_of head.osts past).committed.0 ≤ to
    low = ⊎_elim
        (λ (d : (d : Deed) × In d (server_of head.osts past).log × (to ≡ d.reply.txn.0)). let lt = (all.history.log d.0 d.1).3 in let e =
        d.2 in omega arith)
        (λ (e : to ≡ (server_of head.osts past).committed.0). omega arith)
        ok.is

    news_are : (removed added : List Who) → (disk_of head.osts head.clients past).committed ≡ (server_of head.osts past).committed.0
        → news (disk_of head.osts head.clients past) (batch_of (under r h to (server_of head.osts past).log) removed added)
        ≡ map {A = Deed} {B = Transaction} transaction_of (under r h to (server_of head.osts past).log)
    news_are removed added level =
        filter_all (λ (t : Transaction). nat_lt (disk_of head.osts head.clients past).committed t.txn.0)
        (map {A = Deed} {B = Transaction} transaction_of (under r h to (server_of head.osts past).log)) (λ t i.
        let d = in_map transaction_of t (under r h to (server_of head.osts past).log) i in
        let k = in_filter (λ (e : Deed). not (nat_lt to e.reply.txn.0)) d.0 (server_of head.osts past).log d.1 in
        let lt = (all.history.log d.0 k.0).3 in
        subst (λ (x : Transaction). nat_lt (disk_of head.osts head.clients past).committed x.txn.0 ≡ true) d.2
        (lt-ltb (disk_of head.osts head.clients past).committed d.0.reply.txn.0 (omega arith)))

    of_log : NoCommit (closing_of head.clients past) → Objects r (Commit to ∷ h) to
        (filter (λ (d : Deed). nat_lt to d.reply.txn.0) (server_of head.osts past).log)
        (object_of_disk r (disk_then head (line at (word.Commit to batch) ∷ past)))
    of_log none =
        let was : disk_then head past ≡ disk_of head.osts head.clients past =
        next_none head.osts (closing_of head.clients past) (disk_of head.osts head.clients past) none in
        subst (λ (x : Object). Objects r (Commit to ∷ h) to (filter (λ (d : Deed). nat_lt to d.reply.txn.0) (server_of head.osts past).log)
        x)
        (ap (λ (x : Object). written r (ops_of (under r h to (server_of head.osts past).log)) x) (ap (object_of_disk r) was)
        ∙ sym stored_is)
        (objects_same r h (Commit to ∷ h) to to (filter (λ (d : Deed). nat_lt to d.reply.txn.0) (server_of head.osts past).log)
        (written r (ops_of (under r h to (server_of head.osts past).log)) (object_of_disk r (disk_then head past))) (λ lost p. refl)
        refl
        (objects_commit r h (server_of head.osts past).committed.0 to (server_of head.osts past).log
        (object_of_disk r (disk_then head past)) low all.history.log_rises b.objects))
      where
        level : (disk_of head.osts head.clients past).committed ≡ (server_of head.osts past).committed.0
        level = ⊎_elim (λ e. e) (λ (c : (n : ℕ) × (k : Batch) × (more : List word.Entry)
            × (closing_of head.clients past ≡ word.Commit n k ∷ more)). absurd (none c.0 c.1 c.2 c.3)) all.comes.level

        batch_is : batch ≡ batch_of (under r h to (server_of head.osts past).log) batch.removed batch.added
        batch_is = ⊎_elim (λ e. e) (λ (due : Due head past at (word.Commit to batch)). absurd (none to batch due.0 due.1)) ok.of_batch

        stored_one : (removed added : List Who) → object_of_disk r
            (stored head.osts (batch_of (under r h to (server_of head.osts past).log) removed added) (disk_of head.osts head.clients past))
            ≡ written r (ops_of (under r h to (server_of head.osts past).log)) (object_of_disk r (disk_of head.osts head.clients past))
        stored_one removed added =
            ap (λ os. object_in os r) (forgotten_one removed (all_done head.osts
            (news (disk_of head.osts head.clients past) (batch_of (under r h to (server_of head.osts past).log) removed added))
            (disk_of head.osts head.clients past).contents))
            ∙ ap (λ (ts : List Transaction). object_in (all_done head.osts ts (disk_of head.osts head.clients past).contents).objects r)
            (news_are removed added level)
            ∙ done_written r head.osts (under r h to (server_of head.osts past).log) (disk_of head.osts head.clients past).contents

        stored_is : object_of_disk r (disk_then head (line at (word.Commit to batch) ∷ past))
            ≡ written r (ops_of (under r h to (server_of head.osts past).log)) (object_of_disk r (disk_of head.osts head.clients past))
        stored_is = ap (object_of_disk r) (disk_new ∙ ap (λ (x : Batch). stored head.osts x (disk_of head.osts head.clients past)) batch_is)
            ∙ stored_one batch.removed batch.added

    pub bytes_commit : BytesBy head r (line at (word.Commit to batch) ∷ past) (Commit to ∷ h)
    bytes_commit =
        record {
          objects = by (closing_of head.clients past) refl;
          now = b.now;
          changed = λ n p c. changed_same (line at (word.Commit to batch) ∷ past) n p (λ d a. a) (λ m. refl) (b.changed n p c);
        }
      where
        by : (es : List word.Entry) → closing_of head.clients past ≡ es
            → Objects r (Commit to ∷ h) to (filter (λ (d : Deed). nat_lt to d.reply.txn.0) (server_of head.osts past).log)
            (object_of_disk r (disk_then head (line at (word.Commit to batch) ∷ past)))
        by [] e = of_log (λ n k more q. let z : ◌≡◌ {A = List word.Entry} [] (word.Commit n k ∷ more) = sym e ∙ q in absurd (cc))
        by (word.Commit n k ∷ more) e = of_close n k more e
        by (x ∷ more) e = of_log (λ n k rest q. let z : ◌≡◌ {A = List word.Entry} (x ∷ more) (word.Commit n k ∷ rest) = sym e ∙ q
            in absurd (cc))
