-- The history that stands, as transactions go to the disk: a commit moves what stands there, that of a close what the target goes on from.
use Rattle.std.proofs.Common.{◌≡◌, ℕ, ◌+◌, ◌<◌, ◌≤◌, Bool, true, false, List, ◌∷◌, ◌⊎◌, inl, inr, ⊎_elim, refl, sym, subst, ap, ◌∙◌, arith}
use Rattle.std.specs.Prelude.{not, nat_lt, filter, map}
use Rattle.std.proofs.lemmas.Bool.{ltb-true, ltb-false, lt-ltb, le-ltb, not-true, not_from_false}
use Rattle.lu_base.specs.declared.ids.Node.TheVariants.{Target}
use Rattle.lu_base.specs.declared.ids.Stamp.{Stamp}
use Rattle.lu_base.specs.declared.ids.Who.{Who}
use Rattle.lu_msg.specs.declared.commits.Batch.{Batch}
use Rattle.lu_msg.specs.declared.commits.Transaction.{Transaction}
use Rattle.lu_part.specs.declared.parts.Part.{Part}
use Rattle.lu_spec_machine.specs.Tree.{Tree}
use Rattle.lu_spec_machine.specs.Footprint.{Operation, empty, Same}
use Rattle.lu_spec_machine.specs.Removal.{Item, Acts, pick, contents}
use Rattle.lu_spec_machine.proofs.Footprints.{same_sym, same_trans}
use Rattle.lu_spec_entries.specs.Carried.{Deed, Disk}
use Rattle.lu_spec_entries.specs.Words.{Entry, Commit, Line, line}
use Rattle.lu_spec_target.specs.Phase.{first_of}
use Rattle.lu_spec_target.specs.Stored.{transaction_of, all_done, forgotten, last_number, batch_of, news, stored}
use Rattle.lu_proof_lawful.specs.Covered.TargetParts.{operation}
use Rattle.lu_proof_lawful.specs.Covered.TargetStates.{none, server_of}
use Rattle.lu_proof_lawful.specs.Covered.TargetCloses.{disk_of, closing_of}
use Rattle.lu_proof_lawful.specs.Covered.Heads.{Head}
use Rattle.lu_proof_lawful.proofs.Preconditions.Guards.{In}
use Rattle.lu_proof_lawful.proofs.Preconditions.StoryGuards.{Due, CommitOk}
use Rattle.lu_proof_lawful.proofs.Preconditions.Lists.{in_filter, in_filtered}
use Rattle.lu_proof_lawful.proofs.Preconditions.LifeLists.{filter_all}
use Rattle.lu_proof_lawful.proofs.Preconditions.ClientLocks.{in_map, in_mapped}
use Rattle.lu_proof_lawful.proofs.Preconditions.Grown.{ShowsNext}
use Rattle.lu_proof_lawful.proofs.Invariants.Groups.{turn, DeedsRise, items_of, History, Coming, HoldsAt}
use Rattle.lu_proof_lawful.proofs.Invariants.TargetGroups.{Acted, IsMade}
use Rattle.lu_proof_lawful.proofs.Invariants.ItemLists.{same_forgotten, picked_in, in_picked, pick_all, pick_under, all_ops, all_done_tree}
use Rattle.lu_proof_lawful.proofs.Invariants.ItemLists.{deed_operations, fresh_ops, in_fresh, fresh_in, fresh_rise, rise_same, fall_picked}
use Rattle.lu_proof_lawful.proofs.Invariants.ItemLists.{upto, upto_le, le_upto, done_over, last_of, last_top, last_is, last_number_is}
use Rattle.lu_proof_lawful.proofs.Invariants.ItemLists.{deed_numbers}
use Rattle.lu_proof_lawful.proofs.Invariants.ItemLines.{items_grow, item_deed, rises_filter, rise_from, ops_rise}

module _ (head : Head) (past : List Line) (h : HoldsAt head past) where
  -- ---- a commit

  -- all up to that number is on the disk
  commits : (stamp : Stamp) (t to : ℕ) (batch : Batch) → (server_of head.osts past).committed.0 ≤ to
      → to ≤ first_of (server_of head.osts past).boot + (server_of head.osts past).count
      → (stored head.osts batch (disk_of head.osts head.clients past)).committed ≡ to
      → ((p : Part) → Same (contents head.osts empty (pick (upto to) (items_of head.osts past)))
      (stored head.osts batch (disk_of head.osts head.clients past)).contents.tree p)
      → History head.osts head.clients (line (turn stamp (Target t)) (Commit to batch) ∷ past)
  commits stamp t to batch le top on disk =
      let g = h.history in
      record {
        tree = g.tree;
        disk = subst (λ (n : ℕ). (p : Part) → Same (contents head.osts empty (pick (upto n) (items_of head.osts past)))
            (stored head.osts batch (disk_of head.osts head.clients past)).contents.tree p) (sym on) disk;
        on_disk = omega arith;
        log = λ d i. let r = in_filter (λ (e : Deed). nat_lt to e.reply.txn.0) d (server_of head.osts past).log i in let k = g.log d r.0
            in (k.0, k.1, k.2, ltb-true to d.reply.txn.0 r.1);
        logged = λ d a m s. ⊎_elim (λ (i : In d (server_of head.osts past).log). left d i (nat_lt to d.reply.txn.0) refl)
            (λ (low : d.reply.txn.0 ≤ (server_of head.osts past).committed.0). inr (omega arith)) (g.logged d a m s);
        log_rises = rises_filter (λ (e : Deed). nat_lt to e.reply.txn.0) (server_of head.osts past).log g.log_rises;
        later = g.later;
        top = top;
        last = g.last;
        saw = λ d n a i. let r = g.saw d n a i in (
          ⊎_elim (λ (low : n ≤ (server_of head.osts past).committed.0). inl (omega arith))
              (λ (e : (e : Deed) × Acted past e × IsMade e × (e.reply.txn.0 ≡ n)). inr e) r.0,
          r.1,
        );
        stands = g.stands;
        heard = g.heard;
        held = g.held;
        fresh = g.fresh;
        items = items_grow head.osts past (line (turn stamp (Target t)) (Commit to batch) ∷ past) (λ d a. a) (λ n e. e) le
            (items_of head.osts past) g.items;
        items_have = g.items_have;
        items_fall = g.items_fall;
        log_of = λ d i. g.log_of d (in_filter (λ (e : Deed). nat_lt to e.reply.txn.0) d (server_of head.osts past).log i).0;
      }
    where
      left : (d : Deed) → In d (server_of head.osts past).log → (b : Bool) → nat_lt to d.reply.txn.0 ≡ b
          → In d (filter (λ (e : Deed). nat_lt to e.reply.txn.0) (server_of head.osts past).log) ⊎ (d.reply.txn.0 ≤ to)
      left d i true e = inl (in_filtered (λ (e : Deed). nat_lt to e.reply.txn.0) d (server_of head.osts past).log i e)
      left d i false e = inr (ltb-false to d.reply.txn.0 e)

  -- where all that is committed is on the disk, and the batch has what the log has up to that number
  module _ (to : ℕ) (removed added : List Who) (level : (disk_of head.osts head.clients past).committed
      ≡ (server_of head.osts past).committed.0)
      (is : ((d : Deed) × In d (server_of head.osts past).log × (to ≡ d.reply.txn.0)) ⊎ (to ≡ (server_of head.osts past).committed.0)) where
    abbrev on_disk : Disk
    on_disk = disk_of head.osts head.clients past

    abbrev moved : List Deed
    moved = filter (λ (d : Deed). not (nat_lt to d.reply.txn.0)) (server_of head.osts past).log

    commit_low : ((server_of head.osts past).committed.0 ≤ to) × (to ≤ first_of (server_of head.osts past).boot +
        (server_of head.osts past).count)
    commit_low = ⊎_elim
        (λ (d : (d : Deed) × In d (server_of head.osts past).log × (to ≡ d.reply.txn.0)).
        let k = h.history.log d.0 d.1 in
        let e = d.2 in
        let lt = k.3 in
        let le = h.history.last d.0 k.0 k.1 in
        (omega arith, omega arith))
        (λ (e : to ≡ (server_of head.osts past).committed.0). let le = h.history.top in (omega arith, omega arith))
        is

    moved_in : (d : Deed) → In d moved → In d (server_of head.osts past).log × (d.reply.txn.0 ≤ to) × (on_disk.committed < d.reply.txn.0)
    moved_in d i =
        let r = in_filter (λ (e : Deed). not (nat_lt to e.reply.txn.0)) d (server_of head.osts past).log i in
        let lt = (h.history.log d r.0).3 in
        let e = level in
        (r.0, ltb-false to d.reply.txn.0 (not-true (nat_lt to d.reply.txn.0) r.1), omega arith)

    in_moved : (d : Deed) → In d (server_of head.osts past).log → d.reply.txn.0 ≤ to → In d moved
    in_moved d i le = in_filtered (λ (e : Deed). not (nat_lt to e.reply.txn.0)) d (server_of head.osts past).log i
        (not_from_false (nat_lt to d.reply.txn.0) (le-ltb to d.reply.txn.0 le))

    news_are : news on_disk (batch_of moved removed added) ≡ map {A = Deed} {B = Transaction} transaction_of moved
    news_are = filter_all (λ (t : Transaction). nat_lt on_disk.committed t.txn.0) (map {A = Deed} {B = Transaction} transaction_of moved)
        (λ t i.
        let d = in_map transaction_of t moved i in
        subst (λ (x : Transaction). nat_lt on_disk.committed x.txn.0 ≡ true) d.2
        (lt-ltb on_disk.committed d.0.reply.txn.0 (moved_in d.0 d.1).2))

    moved_rise : DeedsRise moved
    moved_rise = rises_filter (λ (d : Deed). not (nat_lt to d.reply.txn.0)) (server_of head.osts past).log h.history.log_rises

    last_to : last_of (map {A = Deed} {B = ℕ} (λ d. d.reply.txn.0) moved) on_disk.committed ≡ to
    last_to =
        let low = low_side in
        let high = high_side in
        omega arith
      where
        top : (on_disk.committed ≤ last_of (map {A = Deed} {B = ℕ} (λ d. d.reply.txn.0) moved) on_disk.committed)
            × ((m : ℕ) → In m (map {A = Deed} {B = ℕ} (λ d. d.reply.txn.0) moved)
            → m ≤ last_of (map {A = Deed} {B = ℕ} (λ d. d.reply.txn.0) moved) on_disk.committed)
        top = last_top (map {A = Deed} {B = ℕ} (λ d. d.reply.txn.0) moved) on_disk.committed
            (rise_from moved on_disk.committed moved_rise (λ d i. (moved_in d i).2))

        low_side : to ≤ last_of (map {A = Deed} {B = ℕ} (λ d. d.reply.txn.0) moved) on_disk.committed
        low_side = ⊎_elim
            (λ (d : (d : Deed) × In d (server_of head.osts past).log × (to ≡ d.reply.txn.0)).
            let e = d.2 in
            let le = top.1 d.0.reply.txn.0 (in_mapped (λ (x : Deed). x.reply.txn.0) d.0 moved (in_moved d.0 d.1 (omega arith))) in
            omega arith)
            (λ (e : to ≡ (server_of head.osts past).committed.0). let le = top.0 in let l = level in omega arith)
            is

        high_side : last_of (map {A = Deed} {B = ℕ} (λ d. d.reply.txn.0) moved) on_disk.committed ≤ to
        high_side = ⊎_elim
            (λ (e : last_of (map {A = Deed} {B = ℕ} (λ d. d.reply.txn.0) moved) on_disk.committed ≡ on_disk.committed). let l = level
            in let le = commit_low.0 in omega arith)
            (λ (i : In (last_of (map {A = Deed} {B = ℕ} (λ d. d.reply.txn.0) moved) on_disk.committed)
            (map {A = Deed} {B = ℕ} (λ d. d.reply.txn.0) moved)).
            let d = in_map (λ (x : Deed). x.reply.txn.0) (last_of (map {A = Deed} {B = ℕ} (λ d. d.reply.txn.0) moved) on_disk.committed)
            moved i in
            let le = (moved_in d.0 d.1).1 in
            let e = d.2 in
            omega arith)
            (last_is (map {A = Deed} {B = ℕ} (λ d. d.reply.txn.0) moved) on_disk.committed)

    moved_to : (stored head.osts (batch_of moved removed added) on_disk).committed ≡ to
    moved_to =
        ap (λ (ts : List Transaction). last_number ts on_disk.committed) news_are
        ∙ last_number_is (map {A = Deed} {B = Transaction} transaction_of moved) on_disk.committed
        ∙ ap (λ (ns : List ℕ). last_of ns on_disk.committed) (deed_numbers moved)
        ∙ last_to

    same_moved : fresh_ops on_disk.committed (pick (upto to) (items_of head.osts past)) ≡ map {A = Deed} {B = Operation} operation moved
    same_moved = rise_same (fresh_ops on_disk.committed (pick (upto to) (items_of head.osts past)))
        (map {A = Deed} {B = Operation} operation moved)
        (fresh_rise on_disk.committed (pick (upto to) (items_of head.osts past))
        (fall_picked (upto to) (items_of head.osts past) h.history.items_fall)) (ops_rise moved moved_rise) there back
      where
        there : (a : Operation) → In a (fresh_ops on_disk.committed (pick (upto to) (items_of head.osts past)))
            → In a (map {A = Deed} {B = Operation} operation moved)
        there a i =
            let f = fresh_in on_disk.committed (pick (upto to) (items_of head.osts past)) a i in
            let p = picked_in (upto to) a (items_of head.osts past) f.0 in
            let d = item_deed head.osts past (items_of head.osts past) a h.history.items p.0 in
            let number : d.0.reply.txn.0 ≡ a.number.0 = ap (λ (x : Operation). x.number.0) d.4 in
            let lt = f.1 in
            let le = le_upto to a.number.0 p.1 in
            let l = level in
            subst (λ (x : Operation). In x (map {A = Deed} {B = Operation} operation moved)) d.4
            (in_mapped operation d.0 moved (⊎_elim
            (λ (j : In d.0 (server_of head.osts past).log). in_moved d.0 j (omega arith))
            (λ (low : d.0.reply.txn.0 ≤ (server_of head.osts past).committed.0). absurd (omega arith))
            (h.history.logged d.0 d.1 d.2 d.3)))

        back : (a : Operation) → In a (map {A = Deed} {B = Operation} operation moved)
            → In a (fresh_ops on_disk.committed (pick (upto to) (items_of head.osts past)))
        back a i =
            let d = in_map operation a moved i in
            let m = moved_in d.0 d.1 in
            let k = h.history.log d.0 m.0 in
            subst (λ (x : Operation). In x (fresh_ops on_disk.committed (pick (upto to) (items_of head.osts past)))) d.2
            (in_fresh on_disk.committed (pick (upto to) (items_of head.osts past)) (operation d.0)
            (in_picked (upto to) (operation d.0) (items_of head.osts past) (h.history.items_have d.0 k.0 k.1 k.2)
            (upto_le to d.0.reply.txn.0 m.1)) m.2)

    moved_tree : (p : Part) → Same (contents head.osts empty (pick (upto to) (items_of head.osts past)))
        (stored head.osts (batch_of moved removed added) on_disk).contents.tree p
    moved_tree p =
        let left = contents head.osts empty (pick (upto to) (items_of head.osts past)) in
        let c = all_done head.osts (news on_disk (batch_of moved removed added)) on_disk.contents in
        let done_is : c.tree ≡ all_ops head.osts (fresh_ops on_disk.committed (pick (upto to) (items_of head.osts past)))
        on_disk.contents.tree =
        ap (λ (ts : List Transaction). (all_done head.osts ts on_disk.contents).tree) news_are
        ∙ all_done_tree head.osts (map {A = Deed} {B = Transaction} transaction_of moved) on_disk.contents
        ∙ ap (λ (ops : List Operation). all_ops head.osts ops on_disk.contents.tree) (deed_operations moved ∙ sym same_moved) in
        let under : pick (upto on_disk.committed) (pick (upto to) (items_of head.osts past))
        ≡ pick (upto on_disk.committed) (items_of head.osts past) =
        pick_under (upto on_disk.committed) (upto to) (items_of head.osts past)
        (λ n t. let le = le_upto on_disk.committed n t in let l = level in let low = commit_low.0 in upto_le to n (omega arith)) in
        same_trans left c.tree (forgotten removed c).tree p
        (subst (λ (u : Tree). Same left u p) (sym done_is)
        (done_over head.osts on_disk.committed on_disk.contents.tree (pick (upto to) (items_of head.osts past))
        (fall_picked (upto to) (items_of head.osts past) h.history.items_fall)
        (λ q. subst (λ (js : List Item). Same (contents head.osts empty js) on_disk.contents.tree q) (sym under) (h.history.disk q)) p))
        (same_sym (forgotten removed c).tree c.tree p (same_forgotten removed c p))

  commits_log : (stamp : Stamp) (t to : ℕ) (batch : Batch) → (disk_of head.osts head.clients past).committed
      ≡ (server_of head.osts past).committed.0
      → ((d : Deed) × In d (server_of head.osts past).log × (to ≡ d.reply.txn.0)) ⊎ (to ≡ (server_of head.osts past).committed.0)
      → batch ≡ batch_of (filter (λ (d : Deed). not (nat_lt to d.reply.txn.0)) (server_of head.osts past).log) batch.removed batch.added
      → History head.osts head.clients (line (turn stamp (Target t)) (Commit to batch) ∷ past)
  commits_log stamp t to batch level is e =
      let low = commit_low to batch.removed batch.added level is in
      commits stamp t to batch low.0 low.1
      (subst (λ (b : Batch). (stored head.osts b (disk_of head.osts head.clients past)).committed ≡ to) (sym e)
      (moved_to to batch.removed batch.added level is))
      (subst (λ (b : Batch). (p : Part) → Same (contents head.osts empty (pick (upto to) (items_of head.osts past)))
      (stored head.osts b (disk_of head.osts head.clients past)).contents.tree p) (sym e)
      (moved_tree to batch.removed batch.added level is))

  -- that of a close puts there what the target goes on from
  commits_close : (stamp : Stamp) (t to : ℕ) (batch : Batch) → Coming head.osts head.clients past to
      (stored head.osts batch (disk_of head.osts head.clients past))
      → History head.osts head.clients (line (turn stamp (Target t)) (Commit to batch) ∷ past)
  commits_close stamp t to batch c =
      let g = h.history in
      let e : to ≡ (server_of head.osts past).committed.0 = c.to ∙ c.committed in
      let top = g.top in
      commits stamp t to batch (omega arith) (omega arith) (sym c.to) (λ p.
      subst (λ (is : List Item). Same (contents head.osts empty is)
      (stored head.osts batch (disk_of head.osts head.clients past)).contents.tree p)
      (sym (pick_all (upto to) (items_of head.osts past) (all_low e)))
      (subst (λ (u : Tree). Same (contents head.osts empty (items_of head.osts past)) u p) (sym c.tree) (g.tree p)))
    where
      none_logged : (d : Deed) → In d (server_of head.osts past).log → ⊥
      none_logged d i = let lt = c.none d (h.history.log d i).0 in let e = h.history.log_of d i in omega arith

      all_low : to ≡ (server_of head.osts past).committed.0 → (a : Operation) → In (Acts a) (items_of head.osts past) → upto to a.number.0
          ≡ true
      all_low e a i =
          let d = item_deed head.osts past (items_of head.osts past) a h.history.items i in
          let number : d.0.reply.txn.0 ≡ a.number.0 = ap (λ (x : Operation). x.number.0) d.4 in
          ⊎_elim
          (λ (j : In d.0 (server_of head.osts past).log). absurd (none_logged d.0 j))
          (λ (le : d.0.reply.txn.0 ≤ (server_of head.osts past).committed.0). upto_le to a.number.0 (omega arith))
          (h.history.logged d.0 d.1 d.2 d.3)

  pub history_commit : (stamp : Stamp) (t to : ℕ) (batch : Batch) → CommitOk head past (turn stamp (Target t)) to batch
      → ShowsNext head past (turn stamp (Target t)) (Commit to batch)
      → History head.osts head.clients (line (turn stamp (Target t)) (Commit to batch) ∷ past)
  history_commit stamp t to batch ok shows = ⊎_elim
      (λ (level : (disk_of head.osts head.clients past).committed ≡ (server_of head.osts past).committed.0). ⊎_elim
      (λ (e : batch ≡ batch_of (filter (λ (d : Deed). not (nat_lt to d.reply.txn.0)) (server_of head.osts past).log) batch.removed
      batch.added). commits_log stamp t to batch level ok.is e)
      (λ (due : Due head past (turn stamp (Target t)) (Commit to batch)). commits_close stamp t to batch
      (h.comes.next to batch due.0 due.1))
      ok.of_batch)
      (λ (n : (o : ℕ) × (b : Batch) × (more : List Entry) × (closing_of head.clients past ≡ Commit o b ∷ more)).
      let s = shows (Commit n.0 n.1) n.2 n.3 in
      commits_close stamp t to batch (h.comes.next to batch n.2 (n.3 ∙ ap (λ (x : Entry). x ∷ n.2) (sym s.0))))
      h.comes.level
