-- The bytes of an object at a close of the recovery window: what the log has of transactions that aren't lost is what is done again over
-- the disk.
use Rattle.std.proofs.Common.{◌≡◌, ℕ, ◌≤◌, ◌<◌, Bool, true, false, List, [], ◌∷◌, ◌⊎◌, ⊎_elim, refl, sym, subst, ap, ◌∙◌, arith}
use Rattle.std.specs.Prelude.{map, not, nat_lt, ◌||◌}
use Rattle.std.proofs.lemmas.Bool.{lt-ltb, not-true, not_from_false, or_parts}
use Rattle.lu_base.specs.declared.ids.At.{At}
use Rattle.lu_base.specs.declared.ids.Node.TheVariants.{Target}
use Rattle.lu_base.specs.declared.ids.Stamp.{Stamp}
use Rattle.lu_base.specs.declared.locks.Resource.{Resource}
use Rattle.lu_spec_machine.specs.Footprint.{Operation}
use Rattle.lu_spec_machine.specs.Objects.{Object}
use Rattle.lu_msg.specs.declared.commits.Transaction.{Transaction}
use Rattle.lu_msg.specs.declared.operations.Op.{Op}
use Rattle.lu_spec_entries.specs.Carried.{Deed, Contents, Disk, Outcome}
use Rattle.lu_spec_entries.specs.Words as word
use Rattle.lu_spec_entries.specs.Words.{Line, line}
use Rattle.lu_spec_target.specs.Lives.{lives_of as lives_in}
use Rattle.lu_spec_target.specs.Outcomes.{redone, deeds_again, deed_again}
use Rattle.lu_spec_target.specs.States.{Target as TargetOf}
use Rattle.lu_spec_target.specs.Stored.{object_in, transaction_of, done, all_done, batch_of, news}
use Rattle.lu_spec_target.specs.Windows.{Replayed, has_number}
use Rattle.lu_spec_target.specs.Windows.{kept_of as kept_among}
use Rattle.lu_proof_lawful.specs.Covered.Heads.{Head}
use Rattle.lu_proof_lawful.specs.Covered.TargetStates.{server_of, lives_of, replays_of, window_of}
use Rattle.lu_proof_lawful.specs.Covered.TargetCloses.{disk_of, closing_of, recovering_of, outcome_of, is_lost, loses}
use Rattle.lu_proof_lawful.specs.Covered.TargetParts.{operation}
use Rattle.lu_proof_lawful.proofs.Preconditions.Guards.{In}
use Rattle.lu_proof_lawful.proofs.Preconditions.StoryGuards.{IsRecovering}
use Rattle.lu_proof_lawful.proofs.Preconditions.Lists.{turn, in_filter, in_filtered}
use Rattle.lu_proof_lawful.proofs.Preconditions.LifeLists.{filter_all}
use Rattle.lu_proof_lawful.proofs.Preconditions.ClientLocks.{in_mapped, in_map}
use Rattle.lu_proof_lawful.proofs.Preconditions.Grown.{ShowsNext}
use Rattle.lu_proof_lawful.proofs.Invariants.Groups.{HoldsAt}
use Rattle.lu_proof_lawful.proofs.Invariants.TargetGroups.{Acted, IsMade}
use Rattle.lu_proof_lawful.proofs.Invariants.ExactLists.{has_in, NumbersRise, rise_among, kept_of_one}
use Rattle.lu_proof_lawful.proofs.Invariants.Exact.{kept_then, replay_by, Stood as StoodThen, again_numbers, replay_done, one_deed}
use Rattle.lu_proof_lawful.proofs.Invariants.Exact.{numbers_rise, kept_made, low_stays, kept_stays, lost_is}
use Rattle.lu_proof_lawful.proofs.Invariants.ItemLists.{OpsRise, rise_same}
use Rattle.lu_proof_lawful.proofs.Invariants.ItemLines.{rises_filter, ops_rise}
use Rattle.lu_proof_lawful.proofs.Invariants.HistoryClose.{close_low, kept_low}
use Rattle.lu_proof_bytes.specs.Object.Words.{Entry, Close}
use Rattle.lu_proof_bytes.specs.Object.Folds as says
use Rattle.lu_proof_bytes.specs.Object.Folds.{also, nothing_lost}
use Rattle.lu_proof_lawful.specs.Projection.Closes.{lost_by, kept_of, gone_of}
use Rattle.lu_proof_lawful.specs.Projection.Requests.{among}
use Rattle.lu_proof_lawful.proofs.Refinement.Written.{written, ops_of, disk_then, object_of_disk, done_written, forgotten_one}
use Rattle.lu_proof_lawful.proofs.Refinement.TiedObject.{Spares, left_of, Objects, ChangedBy}
use Rattle.lu_proof_lawful.proofs.Refinement.ObjectSteps.{objects_close}
use Rattle.lu_proof_lawful.proofs.Refinement.ObjectLines.{BytesBy, next_none, commits_none}

again_operations : (v : TargetOf) (at : At) (c : Contents) (rs : List Replayed)
    → map {A = Deed} {B = Operation} operation (deeds_again v at c rs) ≡ map {A = Replayed} {B = Operation} redone rs
again_operations v at c [] = refl
again_operations v at c (r ∷ rs) = ap (λ (ops : List Operation). redone r ∷ ops)
    (again_operations v at (done v.setting.osts c (transaction_of (deed_again v at c r))) rs)

redone_rise : (rs : List Replayed) → NumbersRise rs → OpsRise (map {A = Replayed} {B = Operation} redone rs)
redone_rise [] rise = tt
redone_rise (r ∷ rs) rise = (
  (λ b i. let s = in_map redone b rs i in subst (λ (x : Operation). r.number < x.number.0) s.2 (rise.0 s.0 s.1)),
  redone_rise rs rise.1,
)

ops_are : (ds : List Deed) → ops_of ds ≡ map {A = Operation} {B = Op} (λ a. a.op) (map {A = Deed} {B = Operation} operation ds)
ops_are [] = refl
ops_are (d ∷ ds) = ap (λ (os : List Op). d.op ∷ os) (ops_are ds)

module _ (head : Head) (past : List Line) (stamp : Stamp) (t : ℕ) (recovers : IsRecovering head.osts past)
    (of_committed : (disk_of head.osts head.clients past).committed ≡ (server_of head.osts past).committed.0)
    (of_lives : (disk_of head.osts head.clients past).lives ≡ lives_of head.clients past) (all : HoldsAt head past) where
  abbrev at : At
  at = turn stamp (Target t)

  abbrev made : Outcome
  made = outcome_of head.osts head.clients (turn stamp (Target t)) past

  abbrev loss : ℕ → Bool
  loss n = loses (server_of head.osts past).committed.0 made n

  abbrev kept : List Replayed
  kept = kept_among (kept_then head past) (replays_of past)

  abbrev before : Disk
  before = disk_of head.osts head.clients past

  abbrev redo : List Deed
  redo = deeds_again (recovering_of head.osts head.clients past) at before.contents kept

  kept_in : (r : Replayed) → In r kept → In r (replays_of past) × (has_number r.number (kept_then head past) ≡ true)
  kept_in r i = in_filter (λ (s : Replayed). has_number s.number (kept_then head past)) r (replays_of past) i

  kept_there : (n : ℕ) → has_number n (kept_then head past) ≡ true → (r : Replayed) × In r kept × (r.number ≡ n)
  kept_there n k = ⊎_elim
      (λ (z : In n []). absurd z)
      (λ (r : (r : Replayed) × In r (replays_of past) × (r.number ≡ n)). (
        r.0,
        in_filtered (λ (s : Replayed). has_number s.number (kept_then head past)) r.0 (replays_of past) r.1
            (subst (λ (m : ℕ). has_number m (kept_then head past) ≡ true) (sym r.2) k),
        r.2,
      ))
      (kept_of_one (window_of head.osts head.clients past) n [] (replays_of past) (has_in n (kept_then head past) k))

  -- what is done again is new to the disk
  news_are : news before (batch_of redo (lives_in made.gone) made.joins) ≡ map {A = Deed} {B = Transaction} transaction_of redo
  news_are = filter_all (λ (x : Transaction). nat_lt before.committed x.txn.0) (map {A = Deed} {B = Transaction} transaction_of redo)
      (λ x i.
      let d = in_map transaction_of x redo i in
      let n : In d.0.reply.txn.0 (map {A = Replayed} {B = ℕ} (λ r. r.number) kept) =
      subst (λ (ns : List ℕ). In d.0.reply.txn.0 ns) (again_numbers (recovering_of head.osts head.clients past) at before.contents kept)
      (in_mapped (λ (y : Deed). y.reply.txn.0) d.0 redo d.1) in
      let r = in_map (λ (s : Replayed). s.number) d.0.reply.txn.0 kept n in
      let lt = (kept_made head past recovers all r.0.number (kept_in r.0 r.1).1).3 in
      let e = r.2 in
      let level = of_committed in
      subst (λ (y : Transaction). nat_lt before.committed y.txn.0 ≡ true) d.2 (lt-ltb before.committed d.0.reply.txn.0 (omega arith)))

  -- ---- what isn't lost is done again

  module _ (lost : ℕ → Bool) (spares : Spares made.disk.committed lost) where
    left_in : (d : Deed) → In d (left_of (also lost loss) (server_of head.osts past).log) → In d (server_of head.osts past).log
        × (loss d.reply.txn.0 ≡ false)
    left_in d i =
        let f = in_filter (λ (e : Deed). not (also lost loss e.reply.txn.0)) d (server_of head.osts past).log i in
        let n = not-true (also lost loss d.reply.txn.0) f.1 in
        (f.0, (or_parts (lost d.reply.txn.0) (loss d.reply.txn.0) n).1)

    left_again : (d : Deed) → In d (left_of (also lost loss) (server_of head.osts past).log)
        → In (operation d) (map {A = Replayed} {B = Operation} redone kept)
    left_again d i =
        let p = left_in d i in
        let g = all.history.log d p.0 in
        by p.1 g.0 g.1 g.3 (has_number d.reply.txn.0 (kept_then head past)) refl
      where
        by : loss d.reply.txn.0 ≡ false → Acted past d → IsMade d → (server_of head.osts past).committed.0 < d.reply.txn.0 → (b : Bool)
            → has_number d.reply.txn.0 (kept_then head past) ≡ b → In (operation d) (map {A = Replayed} {B = Operation} redone kept)
        by stays acted made_one lt false e = let yes = lost_is head past recovers all at d acted made_one lt ∙ ap not e in let z : false
            ≡ true = sym stays ∙ yes in absurd (cc)
        by stays acted made_one lt true e =
            let r = kept_there d.reply.txn.0 e in
            let s = replay_done head past recovers all r.0 (kept_in r.0 r.1).0 in
            let same : s.0 ≡ d = one_deed head past recovers all s.0 d s.1.acted acted s.1.made
            (ap (λ (x : Replayed). x.number) (sym s.2) ∙ r.2) in
            subst (λ (x : Operation). In x (map {A = Replayed} {B = Operation} redone kept)) (ap redone s.2 ∙ ap operation same)
            (in_mapped redone r.0 kept r.1)

    again_left : (r : Replayed) → In r kept → In (redone r) (map {A = Deed} {B = Operation} operation
        (left_of (also lost loss) (server_of head.osts past).log))
    again_left r i = let k = kept_in r i in let s = replay_done head past recovers all r k.0 in by s.0 s.1 s.2 k.1
      where
        by : (e : Deed) → StoodThen head past e → r ≡ replay_by e → has_number r.number (kept_then head past) ≡ true
            → In (redone r) (map {A = Deed} {B = Operation} operation (left_of (also lost loss) (server_of head.osts past).log))
        by e stood is k =
            let has : has_number e.reply.txn.0 (kept_then head past) ≡ true =
            subst (λ (x : Replayed). has_number x.number (kept_then head past) ≡ true) is k in
            let above = (kept_made head past recovers all e.reply.txn.0 has).3 in
            let logged : In e (server_of head.osts past).log = ⊎_elim (λ (j : In e (server_of head.osts past).log). j)
            (λ (le : e.reply.txn.0 ≤ (server_of head.osts past).committed.0). absurd (omega arith))
            (all.history.logged e stood.acted stood.made stood.stands) in
            let first = spares e.reply.txn.0 (kept_low head past stamp t recovers of_committed of_lives all e.reply.txn.0 has) in
            let second = kept_stays head past recovers all at e.reply.txn.0 has in
            subst (λ (x : Operation). In x (map {A = Deed} {B = Operation} operation
            (left_of (also lost loss) (server_of head.osts past).log))) (sym (ap redone is))
            (in_mapped operation e (left_of (also lost loss) (server_of head.osts past).log)
            (in_filtered (λ (d : Deed). not (also lost loss d.reply.txn.0)) e (server_of head.osts past).log logged
            (not_from_false (also lost loss e.reply.txn.0) (neither (lost e.reply.txn.0) (loss e.reply.txn.0) first second))))
          where
            neither : (a b : Bool) → a ≡ false → b ≡ false → (a || b) ≡ false
            neither false b x y = y
            neither true b x y = absurd (cc)

    same_left : map {A = Deed} {B = Operation} operation (left_of (also lost loss) (server_of head.osts past).log)
        ≡ map {A = Deed} {B = Operation} operation redo
    same_left =
        rise_same (map {A = Deed} {B = Operation} operation (left_of (also lost loss) (server_of head.osts past).log))
        (map {A = Replayed} {B = Operation} redone kept)
        (ops_rise (left_of (also lost loss) (server_of head.osts past).log)
        (rises_filter (λ (d : Deed). not (also lost loss d.reply.txn.0)) (server_of head.osts past).log all.history.log_rises))
        (redone_rise kept (rise_among (λ (r : Replayed). has_number r.number (kept_then head past)) (replays_of past)
        (numbers_rise head past recovers all)))
        (λ a i. let d = in_map operation a (left_of (also lost loss) (server_of head.osts past).log) i
        in subst (λ (x : Operation). In x (map {A = Replayed} {B = Operation} redone kept)) d.2 (left_again d.0 d.1))
        (λ a i. let r = in_map redone a kept i in subst (λ (x : Operation). In x
        (map {A = Deed} {B = Operation} operation (left_of (also lost loss) (server_of head.osts past).log))) r.2 (again_left r.0 r.1))
        ∙ sym (again_operations (recovering_of head.osts head.clients past) at before.contents kept)

    same_ops : ops_of (left_of (also lost loss) (server_of head.osts past).log) ≡ ops_of redo
    same_ops = ops_are (left_of (also lost loss) (server_of head.osts past).log)
        ∙ ap (λ (xs : List Operation). map {A = Operation} {B = Op} (λ a. a.op) xs) same_left ∙ sym (ops_are redo)

  -- ---- the bytes

  module _ (r : Resource) (h : List Entry) (committed : says.committed h ≡ (server_of head.osts past).committed.0)
      (shows : ShowsNext head past at (word.Close made)) (b : BytesBy head r past h) where
    abbrev entry : Entry
    entry = Close made.boot (lost_by (says.committed h) made.boot (kept_of made.kept)) (among (gone_of made.gone))

    abbrev new : List Line
    new = line (turn stamp (Target t)) (word.Close (outcome_of head.osts head.clients (turn stamp (Target t)) past)) ∷ past

    loss_same : (n : ℕ) → lost_by (says.committed h) made.boot (kept_of made.kept) n ≡ loss n
    loss_same n = ap (λ (m : ℕ). lost_by m made.boot (kept_of made.kept) n) committed

    disk_was : disk_then head past ≡ before
    disk_was = next_none head.osts (closing_of head.clients past) (disk_of head.osts head.clients past)
        (commits_none head r past stamp t (word.Close made) shows (λ c. c))

    disk_is : object_of_disk r made.disk ≡ written r (ops_of redo) (object_of_disk r before)
    disk_is =
        ap (λ os. object_in os r) (forgotten_one (lives_in made.gone)
        (all_done head.osts (news before (batch_of redo (lives_in made.gone) made.joins)) before.contents))
        ∙ ap (λ (ts : List Transaction). object_in (all_done head.osts ts before.contents).objects r) news_are
        ∙ done_written r head.osts redo before.contents

    objects_then : Objects r (Close made.boot (lost_by (says.committed h) made.boot (kept_of made.kept)) (among (gone_of made.gone)) ∷ h)
        made.disk.committed [] (object_of_disk r made.disk)
    objects_then =
        subst (λ (x : Object). Objects r (Close made.boot (lost_by (says.committed h) made.boot (kept_of made.kept))
        (among (gone_of made.gone)) ∷ h) made.disk.committed [] x)
        (ap (λ (x : Object). written r (ops_of redo) x) (ap (object_of_disk r) disk_was) ∙ sym disk_is)
        (objects_close r h (server_of head.osts past).committed.0 made.disk.committed (server_of head.osts past).log
        (object_of_disk r (disk_then head past)) made.boot (lost_by (says.committed h) made.boot (kept_of made.kept))
        (among (gone_of made.gone)) (ops_of redo)
        (close_low head past stamp t recovers of_committed of_lives all)
        (λ n le. loss_same n ∙ low_stays head past recovers all at n le)
        (λ lost spares. left_same lost ∙ same_ops lost spares)
        b.objects)
      where
        left_same : (lost : ℕ → Bool) → ops_of (left_of (also lost (lost_by (says.committed h) made.boot (kept_of made.kept)))
            (server_of head.osts past).log) ≡ ops_of (left_of (also lost loss) (server_of head.osts past).log)
        left_same lost = ap (λ (m : ℕ). ops_of (left_of (also lost (lost_by m made.boot (kept_of made.kept)))
            (server_of head.osts past).log)) committed

    pub bytes_close : BytesBy head r (line (turn stamp (Target t))
        (word.Close (outcome_of head.osts head.clients (turn stamp (Target t)) past)) ∷ past)
        (Close made.boot (lost_by (says.committed h) made.boot (kept_of made.kept)) (among (gone_of made.gone)) ∷ h)
    bytes_close =
        record {
          objects = objects_then;
          now = λ p. sym (objects_then nothing_lost (λ n le. refl) p);
          changed = λ n p c. of_old n p c.0 (b.changed n p c.1);
        }
      where
        of_old : (n p : ℕ) → lost_by (says.committed h) made.boot (kept_of made.kept) n ≡ false → ChangedBy head r past n p
            → ChangedBy head r new n p
        of_old n p stays c =
            record {
              deed = c.deed;
              acted = c.acted;
              made = c.made;
              stands = neither (is_lost head.osts past c.deed.reply.txn.0) (loss c.deed.reply.txn.0) c.stands
                  (subst (λ (m : ℕ). loss m ≡ false) (sym c.number) (sym (loss_same n) ∙ stays));
              number = c.number;
              writes = c.writes;
              there = c.there;
              starts = c.starts;
            }
          where
            neither : (a b : Bool) → a ≡ false → b ≡ false → (a || b) ≡ false
            neither false b x y = y
            neither true b x y = absurd (cc)
