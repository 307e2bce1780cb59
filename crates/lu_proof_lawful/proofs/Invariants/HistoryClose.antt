-- The history that stands, at a close: the tree is the disk's with the kept replays done again, which is what the items leave without what
-- is lost;
-- what is kept saw only what is kept or committed, so it touches and writes what it did.
use Rattle.std.proofs.Common.{◌≡◌, ℕ, ◌+◌, ◌<◌, ◌≤◌, Bool, true, false, List, [], ◌∷◌, ◌⊎◌, inl, inr, ⊎_elim, refl, sym, subst, ap, ◌∙◌}
use Rattle.std.proofs.Common.{arith}
use Rattle.std.specs.Prelude.{not, nat_lt, nat_eq, ◌&&◌, ◌||◌, map}
use Rattle.std.proofs.lemmas.Bool.{cond_both, eqb-true, eqb-false, lt-ltb, le-ltb, not-true, not_from_false, and_left, and_right, or_parts}
use Rattle.std.proofs.lemmas.Bool.{or_cases, cases_lt, both_ways, or_right, or_from}
use Rattle.lu_base.specs.declared.ids.At.{At}
use Rattle.lu_base.specs.declared.ids.Node.TheVariants.{Target}
use Rattle.lu_base.specs.declared.ids.Stamp.{Stamp}
use Rattle.lu_base.specs.declared.ids.Who.{Who}
use Rattle.lu_msg.specs.declared.commits.Transaction.{Transaction}
use Rattle.lu_part.specs.declared.parts.Part.{Part}
use Rattle.lu_spec_machine.specs.Tree.{Tree}
use Rattle.lu_spec_machine.specs.Footprint.{Operation, empty, touches, Same}
use Rattle.lu_spec_machine.specs.Removal.{Item, Acts, Forgets, pick, contents}
use Rattle.lu_spec_machine.specs.Seen.{seen, AllSawKept}
use Rattle.lu_spec_machine.proofs.Footprints.{same_sym, same_trans}
use Rattle.lu_spec_entries.specs.Carried.{Deed, Flight, Contents, Disk, Outcome}
use Rattle.lu_spec_entries.specs.Words.{Close, Line, line, same_life}
use Rattle.lu_spec_target.specs.Lives.{is_life, without_lives, lives_of as lives_in}
use Rattle.lu_spec_target.specs.Outcomes.{redone, deed_again, deeds_again}
use Rattle.lu_spec_target.specs.Phase.{first_of}
use Rattle.lu_spec_target.specs.States.{Target as TargetOf}
use Rattle.lu_spec_target.specs.Stored.{transaction_of, done, all_done, forgotten, last_number, batch_of, news}
use Rattle.lu_spec_target.specs.Windows.{Replayed, has_number}
use Rattle.lu_spec_target.specs.Windows.{kept_of as kept_among}
use Rattle.lu_proof_lawful.specs.Covered.Heads.{Head}
use Rattle.lu_proof_lawful.specs.Covered.TargetCloses.{disk_of, recovering_of, outcome_of, is_lost, loses}
use Rattle.lu_proof_lawful.specs.Covered.TargetCloses.{kept_numbers as numbers_of}
use Rattle.lu_proof_lawful.specs.Covered.TargetParts.{operation}
use Rattle.lu_proof_lawful.specs.Covered.TargetStates.{server_of, lives_of, evicted_of, closed_of, replays_of, wishes_of, window_of}
use Rattle.lu_proof_lawful.proofs.Preconditions.Guards.{In}
use Rattle.lu_proof_lawful.proofs.Preconditions.StoryGuards.{IsRecovering, CloseOk}
use Rattle.lu_proof_lawful.proofs.Preconditions.Lists.{in_filter, in_filtered}
use Rattle.lu_proof_lawful.proofs.Preconditions.LifeLists.{stands_life, life_stands, any_lives, filter_all}
use Rattle.lu_proof_lawful.proofs.Invariants.Groups.{turn, ItemOk, AllItems, forgetting, items_of, History, HoldsAt}
use Rattle.lu_proof_lawful.proofs.Invariants.TargetGroups.{Flew, Acted, HasSlot, IsMade}
use Rattle.lu_proof_lawful.proofs.Preconditions.ClientLocks.{in_mapped, in_map}
use Rattle.lu_proof_lawful.proofs.Invariants.ExactLists.{has_in, Below, NumbersRise, rise_among, kept_of_one}
use Rattle.lu_proof_lawful.proofs.Invariants.Exact.{kept_then, replay_by, Stood, again_numbers, below_boot, replay_done, one_deed}
use Rattle.lu_proof_lawful.proofs.Invariants.Exact.{numbers_rise, kept_made, low_stays, kept_stays, all_stay, lost_is, stays_is}
use Rattle.lu_proof_lawful.proofs.Invariants.ItemLists.{same_forgotten, same_forgetting, picked_in, in_picked, in_forgetting, fall_picked}
use Rattle.lu_proof_lawful.proofs.Invariants.ItemLists.{fall_forgetting, pick_same, pick_under, pick_forgetting, every_of, alike_picked}
use Rattle.lu_proof_lawful.proofs.Invariants.ItemLists.{seen_picked, all_ops, all_done_tree, deed_operations, fresh_ops, in_fresh, fresh_in}
use Rattle.lu_proof_lawful.proofs.Invariants.ItemLists.{OpsRise, fresh_rise, rise_same, upto, le_upto, done_over, last_of, RiseFrom}
use Rattle.lu_proof_lawful.proofs.Invariants.ItemLists.{last_top, last_is, last_number_is, deed_numbers}
use Rattle.lu_proof_lawful.proofs.Invariants.ItemLines.{item_deed}
use Rattle.lu_proof_lawful.proofs.Invariants.Keeps.{heard_flew, saw_flew, heard_saw}

-- ---- the kept replays, done again

again_operations : (v : TargetOf) (at : At) (c : Contents) (rs : List Replayed)
    → map {A = Deed} {B = Operation} operation (deeds_again v at c rs) ≡ map {A = Replayed} {B = Operation} redone rs
again_operations v at c [] = refl
again_operations v at c (r ∷ rs) = ap (λ (ops : List Operation). redone r ∷ ops)
    (again_operations v at (done v.setting.osts c (transaction_of (deed_again v at c r))) rs)

numbers_from : (n : ℕ) (rs : List Replayed) → NumbersRise rs → Below n rs → RiseFrom n (map {A = Replayed} {B = ℕ} (λ r. r.number) rs)
numbers_from n [] rise low = tt
numbers_from n (r ∷ rs) rise low = (low r (inl refl), numbers_from r.number rs rise.1 rise.0)

redone_rise : (rs : List Replayed) → NumbersRise rs → OpsRise (map {A = Replayed} {B = Operation} redone rs)
redone_rise [] rise = tt
redone_rise (r ∷ rs) rise = (
  (λ b i. let s = in_map redone b rs i in subst (λ (x : Operation). r.number < x.number.0) s.2 (rise.0 s.0 s.1)),
  redone_rise rs rise.1,
)

items_forgetting : (osts : ℕ) (past : List Line) (gone : List Who) (is : List Item) → AllItems osts past is
    → AllItems osts past (forgetting gone is)
items_forgetting osts past [] is h = h
items_forgetting osts past (who ∷ gone) is h = items_forgetting osts past gone (Forgets who ∷ is) h

module _ (head : Head) (past : List Line) (stamp : Stamp) (t : ℕ) (recovers : IsRecovering head.osts past)
    (level : (disk_of head.osts head.clients past).committed ≡ (server_of head.osts past).committed.0)
    (of_lives : (disk_of head.osts head.clients past).lives ≡ lives_of head.clients past) (h : HoldsAt head past) where
  abbrev at : At
  at = turn stamp (Target t)

  abbrev made : Outcome
  made = outcome_of head.osts head.clients (turn stamp (Target t)) past

  abbrev new : List Line
  new = line (turn stamp (Target t)) (Close (outcome_of head.osts head.clients (turn stamp (Target t)) past)) ∷ past

  abbrev gone : List Who
  gone = lives_in made.gone

  -- what this close loses
  abbrev loss : ℕ → Bool
  loss n = loses (server_of head.osts past).committed.0 made n

  abbrev kept : List Replayed
  kept = kept_among (kept_then head past) (replays_of past)

  abbrev before : Disk
  before = disk_of head.osts head.clients past

  abbrev redo : List Deed
  redo = deeds_again (recovering_of head.osts head.clients past) at before.contents kept

  kept_rise : NumbersRise kept
  kept_rise = rise_among (λ (r : Replayed). has_number r.number (kept_then head past)) (replays_of past) (numbers_rise head past recovers h)

  kept_in : (r : Replayed) → In r kept → In r (replays_of past) × (has_number r.number (kept_then head past) ≡ true)
  kept_in r i = in_filter (λ (s : Replayed). has_number s.number (kept_then head past)) r (replays_of past) i

  above : (n : ℕ) → has_number n (kept_then head past) ≡ true → before.committed < n
  above n k = let lt = (kept_made head past recovers h n k).3 in let e = level in omega arith

  -- a kept number's replay is among them
  kept_there : (n : ℕ) → has_number n (kept_then head past) ≡ true → (r : Replayed) × In r kept × (r.number ≡ n)
  kept_there n k = ⊎_elim
      (λ (z : In n []). absurd z)
      (λ (r : (r : Replayed) × In r (replays_of past) × (r.number ≡ n)). (
        r.0,
        in_filtered (λ (s : Replayed). has_number s.number (kept_then head past)) r.0 (replays_of past) r.1
            (subst (λ (m : ℕ). has_number m (kept_then head past) ≡ true) (sym r.2) k),
        r.2,
      ))
      (kept_of_one (window_of head.osts head.clients past) n [] (replays_of past) (has_in n (kept_then head past) k))

  news_are : news before (batch_of redo gone made.joins) ≡ map {A = Deed} {B = Transaction} transaction_of redo
  news_are = filter_all (λ (x : Transaction). nat_lt before.committed x.txn.0) (map {A = Deed} {B = Transaction} transaction_of redo)
      (λ x i.
      let d = in_map transaction_of x redo i in
      let n : In d.0.reply.txn.0 (map {A = Replayed} {B = ℕ} (λ r. r.number) kept) =
      subst (λ (ns : List ℕ). In d.0.reply.txn.0 ns) (again_numbers (recovering_of head.osts head.clients past) at before.contents kept)
      (in_mapped (λ (y : Deed). y.reply.txn.0) d.0 redo d.1) in
      let r = in_map (λ (s : Replayed). s.number) d.0.reply.txn.0 kept n in
      let lt = above r.0.number (kept_in r.0 r.1).1 in
      let e = r.2 in
      subst (λ (y : Transaction). nat_lt before.committed y.txn.0 ≡ true) d.2 (lt-ltb before.committed d.0.reply.txn.0 (omega arith)))

  last_kept : made.disk.committed ≡ last_of (map {A = Replayed} {B = ℕ} (λ r. r.number) kept) before.committed
  last_kept =
      ap (λ (ts : List Transaction). last_number ts before.committed) news_are
      ∙ last_number_is (map {A = Deed} {B = Transaction} transaction_of redo) before.committed
      ∙ ap (λ (ns : List ℕ). last_of ns before.committed) (deed_numbers redo
      ∙ again_numbers (recovering_of head.osts head.clients past) at before.contents kept)

  tops : (before.committed ≤ last_of (map {A = Replayed} {B = ℕ} (λ r. r.number) kept) before.committed)
      × ((m : ℕ) → In m (map {A = Replayed} {B = ℕ} (λ r. r.number) kept)
      → m ≤ last_of (map {A = Replayed} {B = ℕ} (λ r. r.number) kept) before.committed)
  tops = last_top (map {A = Replayed} {B = ℕ} (λ r. r.number) kept) before.committed
      (numbers_from before.committed kept kept_rise (λ r i. above r.number (kept_in r i).1))

  -- the new committed number is at or above the old one, and all that is kept
  pub close_low : (server_of head.osts past).committed.0 ≤ made.disk.committed
  close_low = let e = last_kept in let le = tops.0 in let l = level in omega arith

  pub kept_low : (n : ℕ) → has_number n (kept_then head past) ≡ true → n ≤ made.disk.committed
  kept_low n k =
      let r = kept_there n k in
      let le = tops.1 r.0.number (in_mapped (λ (s : Replayed). s.number) r.0 kept r.1) in
      let e = last_kept in
      let q = r.2 in
      omega arith

  close_top : made.disk.committed ≤ first_of (server_of head.osts past).boot + (server_of head.osts past).count
  close_top =
      let e = last_kept in
      ⊎_elim
      (λ (q : last_of (map {A = Replayed} {B = ℕ} (λ r. r.number) kept) before.committed ≡ before.committed). let l = level in let le =
      h.history.top in omega arith)
      (λ (i : In (last_of (map {A = Replayed} {B = ℕ} (λ r. r.number) kept) before.committed)
      (map {A = Replayed} {B = ℕ} (λ r. r.number) kept)).
      let r = in_map (λ (s : Replayed). s.number) (last_of (map {A = Replayed} {B = ℕ} (λ r. r.number) kept) before.committed) kept i in
      let d = kept_made head past recovers h r.0.number (kept_in r.0 r.1).1 in
      let lt = below_boot head past recovers h d.0 d.1.acted d.1.made in
      let n = d.2 in
      let q = r.2 in
      omega arith)
      (last_is (map {A = Replayed} {B = ℕ} (λ r. r.number) kept) before.committed)

  -- ---- what stays saw what stays

  stays_saw : (d : Deed) → Acted past d → IsMade d → loss d.reply.txn.0 ≡ false → (n : ℕ) → In n d.reply.seen → loss n ≡ false
  stays_saw d a m stays n i = ⊎_elim
      (λ (lt : (server_of head.osts past).committed.0 < d.reply.txn.0). of_kept (has_number d.reply.txn.0 (kept_then head past)) refl lt)
      (λ (le : d.reply.txn.0 ≤ (server_of head.osts past).committed.0). let lt = (h.history.saw d n a i).1 m
      in low_stays head past recovers h (turn stamp (Target t)) n (omega arith))
      (cases_lt (server_of head.osts past).committed.0 d.reply.txn.0)
    where
      of_kept : (b : Bool) → has_number d.reply.txn.0 (kept_then head past) ≡ b → (server_of head.osts past).committed.0 < d.reply.txn.0
          → loss n ≡ false
      of_kept false e lt = absurd (both_ways (loss d.reply.txn.0) stays
          (lost_is head past recovers h (turn stamp (Target t)) d a m lt ∙ ap not e))
      of_kept true e lt =
          let k = kept_made head past recovers h d.reply.txn.0 e in
          let same : k.0 ≡ d = one_deed head past recovers h k.0 d k.1.acted a k.1.made k.2 in
          all_stay head past recovers h (turn stamp (Target t)) k.0.reply.seen k.5 n (subst (λ (x : Deed). In n x.reply.seen) (sym same) i)

  is_kept : (d : Deed) → Acted past d → IsMade d → loss d.reply.txn.0 ≡ false → (server_of head.osts past).committed.0 < d.reply.txn.0
      → has_number d.reply.txn.0 (kept_then head past) ≡ true
  is_kept d a m stays lt = by (has_number d.reply.txn.0 (kept_then head past)) refl
    where
      by : (b : Bool) → has_number d.reply.txn.0 (kept_then head past) ≡ b → b ≡ true
      by true e = refl
      by false e = absurd (both_ways (loss d.reply.txn.0) stays (lost_is head past recovers h (turn stamp (Target t)) d a m lt ∙ ap not e))

  -- ---- the tree

  abbrev keep : ℕ → Bool
  keep n = not (loses (server_of head.osts past).committed.0 made n)

  abbrev left : List Item
  left = pick (λ n. not (loses (server_of head.osts past).committed.0 made n)) (items_of head.osts past)

  low_kept : (n : ℕ) → upto before.committed n ≡ true → keep n ≡ true
  low_kept n u = let le = le_upto before.committed n u in let e = level
      in not_from_false (loss n) (low_stays head past recovers h (turn stamp (Target t)) n (omega arith))

  -- what is kept is done again
  kept_redone : (d : Deed) → Acted past d → IsMade d → has_number d.reply.txn.0 (kept_then head past) ≡ true
      → In (operation d) (map {A = Replayed} {B = Operation} redone kept)
  kept_redone d a m k = let r = kept_there d.reply.txn.0 k in let s = replay_done head past recovers h r.0 (kept_in r.0 r.1).0
      in by r.0 r.1 r.2 s.0 s.1 s.2
    where
      by : (r : Replayed) → In r kept → r.number ≡ d.reply.txn.0 → (e : Deed) → Stood head past e → r ≡ replay_by e
          → In (operation d) (map {A = Replayed} {B = Operation} redone kept)
      by r i n e stood is =
          let same : e ≡ d = one_deed head past recovers h e d stood.acted a stood.made (ap (λ (x : Replayed). x.number) (sym is) ∙ n) in
          subst (λ (x : Operation). In x (map {A = Replayed} {B = Operation} redone kept)) (ap redone is ∙ ap operation same)
          (in_mapped redone r kept i)

  -- and what is done again stays
  redone_left : (r : Replayed) → In r kept → In (redone r) (fresh_ops before.committed left)
  redone_left r i = let k = kept_in r i in let s = replay_done head past recovers h r k.0 in by s.0 s.1 s.2 k.1
    where
      by : (e : Deed) → Stood head past e → r ≡ replay_by e → has_number r.number (kept_then head past) ≡ true
          → In (redone r) (fresh_ops before.committed left)
      by e stood is k =
          let has : has_number e.reply.txn.0 (kept_then head past) ≡ true =
          subst (λ (x : Replayed). has_number x.number (kept_then head past) ≡ true) is k in
          let stays = not_from_false (loss e.reply.txn.0) (kept_stays head past recovers h (turn stamp (Target t)) e.reply.txn.0 has) in
          subst (λ (x : Replayed). In (redone x) (fresh_ops before.committed left)) (sym is)
          (in_fresh before.committed left (operation e) (in_picked keep (operation e) (items_of head.osts past)
          (h.history.items_have e stood.acted stood.made stood.stands) stays) (above e.reply.txn.0 has))

  same_redone : fresh_ops before.committed left ≡ map {A = Deed} {B = Operation} operation redo
  same_redone =
      rise_same (fresh_ops before.committed left) (map {A = Replayed} {B = Operation} redone kept)
      (fresh_rise before.committed left (fall_picked keep (items_of head.osts past) h.history.items_fall)) (redone_rise kept kept_rise)
      there back
      ∙ sym (again_operations (recovering_of head.osts head.clients past) at before.contents kept)
    where
      there : (a : Operation) → In a (fresh_ops before.committed left) → In a (map {A = Replayed} {B = Operation} redone kept)
      there a i =
          let f = fresh_in before.committed left a i in
          let p = picked_in keep a (items_of head.osts past) f.0 in
          let d = item_deed head.osts past (items_of head.osts past) a h.history.items p.0 in
          by d.0 d.1 d.2 d.4 f.1 (not-true (loss a.number.0) p.1)
        where
          by : (d : Deed) → Acted past d → IsMade d → operation d ≡ a → before.committed < a.number.0 → loss a.number.0 ≡ false
              → In a (map {A = Replayed} {B = Operation} redone kept)
          by d acted made_one is lt stays =
              let number : d.reply.txn.0 ≡ a.number.0 = ap (λ (x : Operation). x.number.0) is in
              let e = level in
              subst (λ (x : Operation). In x (map {A = Replayed} {B = Operation} redone kept)) is
              (kept_redone d acted made_one (is_kept d acted made_one (subst (λ (n : ℕ). loss n ≡ false) (sym number) stays)
              (omega arith)))

      back : (a : Operation) → In a (map {A = Replayed} {B = Operation} redone kept) → In a (fresh_ops before.committed left)
      back a i = let r = in_map redone a kept i in subst (λ (x : Operation). In x (fresh_ops before.committed left)) r.2
          (redone_left r.0 r.1)

  close_tree : (p : Part) → Same (contents head.osts empty (forgetting gone left)) made.disk.contents.tree p
  close_tree p =
      let whole = contents head.osts empty left in
      let c = all_done head.osts (news before (batch_of redo gone made.joins)) before.contents in
      let done_is : c.tree ≡ all_ops head.osts (fresh_ops before.committed left) before.contents.tree =
      ap (λ (ts : List Transaction). (all_done head.osts ts before.contents).tree) news_are
      ∙ all_done_tree head.osts (map {A = Deed} {B = Transaction} transaction_of redo) before.contents
      ∙ ap (λ (ops : List Operation). all_ops head.osts ops before.contents.tree) (deed_operations redo ∙ sym same_redone) in
      same_trans (contents head.osts empty (forgetting gone left)) whole (forgotten gone c).tree p (same_forgetting head.osts gone left p)
      (same_trans whole c.tree (forgotten gone c).tree p
      (subst (λ (u : Tree). Same whole u p) (sym done_is)
      (done_over head.osts before.committed before.contents.tree left (fall_picked keep (items_of head.osts past) h.history.items_fall)
      (λ q. subst (λ (js : List Item). Same (contents head.osts empty js) before.contents.tree q)
      (sym (pick_under (upto before.committed) keep (items_of head.osts past) low_kept)) (h.history.disk q)) p))
      (same_sym (forgotten gone c).tree c.tree p (same_forgotten gone c p)))

  close_disk : (p : Part) → Same (contents head.osts empty (pick (upto before.committed) (forgetting gone left))) before.contents.tree p
  close_disk p =
      subst (λ (js : List Item). Same (contents head.osts empty js) before.contents.tree p)
      (sym (pick_forgetting (upto before.committed) gone left))
      (same_trans (contents head.osts empty (forgetting gone (pick (upto before.committed) left)))
      (contents head.osts empty (pick (upto before.committed) left)) before.contents.tree p
      (same_forgetting head.osts gone (pick (upto before.committed) left) p)
      (subst (λ (js : List Item). Same (contents head.osts empty js) before.contents.tree p)
      (sym (pick_under (upto before.committed) keep (items_of head.osts past) low_kept)) (h.history.disk p)))

  -- ---- the items

  -- the root's inode has number 1, which no transaction has
  abbrev keeps : ℕ → Bool
  keeps n = nat_eq n 1 || not (loses (server_of head.osts past).committed.0 made n)

  not_one : (d : Deed) → Acted past d → IsMade d → d.reply.txn.0 ≡ 1 → ⊥
  not_one d a m e = let n = (h.done.numbers d a m).0 in let b = (h.done.boots d a).0 in omega arith

  keeps_stays : (d : Deed) → Acted past d → IsMade d → keeps d.reply.txn.0 ≡ true → loss d.reply.txn.0 ≡ false
  keeps_stays d a m k = ⊎_elim
      (λ (e : nat_eq d.reply.txn.0 1 ≡ true). absurd (not_one d a m (eqb-true d.reply.txn.0 1 e)))
      (λ (e : not (loss d.reply.txn.0) ≡ true). not-true (loss d.reply.txn.0) e)
      (or_cases (nat_eq d.reply.txn.0 1) (not (loss d.reply.txn.0)) k)

  stays_keeps : (n : ℕ) → loss n ≡ false → keeps n ≡ true
  stays_keeps n e = or_right (nat_eq n 1) (not (loss n)) (not_from_false (loss n) e)

  all_saw : (is : List Item) → AllItems head.osts past is → AllSawKept head.osts (contents head.osts empty) keeps is
  all_saw [] g = tt
  all_saw (Forgets who ∷ is) g = all_saw is g
  all_saw (Acts a ∷ is) g = (
    (λ k. every_of (λ n. keeps n ≡ true)
        (seen head.osts (contents head.osts empty) is (touches head.osts (contents head.osts empty is) a)) (λ n i. one k n i)),
    all_saw is g.1,
  )
    where
      one : keeps a.number.0 ≡ true → (n : ℕ) → In n (seen head.osts (contents head.osts empty) is
          (touches head.osts (contents head.osts empty is) a)) → keeps n ≡ true
      one k n i =
          let d = g.0.deed in
          let number : d.reply.txn.0 ≡ a.number.0 = ap (λ (x : Operation). x.number.0) g.0.operates in
          let stays = keeps_stays d g.0.acted g.0.made (subst (λ (m : ℕ). keeps m ≡ true) (sym number) k) in
          stays_keeps n (⊎_elim
          (λ (le : n ≤ (server_of head.osts past).committed.0). low_stays head past recovers h (turn stamp (Target t)) n le)
          (λ (j : In n d.reply.seen). stays_saw d g.0.acted g.0.made stays n j)
          (g.0.saw n i))

  items_stay : (is : List Item) → AllItems head.osts past is → AllItems head.osts new (pick keeps is)
  items_stay [] g = tt
  items_stay (Forgets who ∷ is) g = items_stay is g
  items_stay (Acts a ∷ is) g = cond_both (keeps a.number.0) (Acts a ∷ pick keeps is) (pick keeps is)
      (λ (js : List Item). AllItems head.osts new js) (λ k. (one k, items_stay is g.1)) (λ k. items_stay is g.1)
    where
      one : keeps a.number.0 ≡ true → ItemOk head.osts new (pick keeps is) a
      one k =
          let d = g.0.deed in
          let number : d.reply.txn.0 ≡ a.number.0 = ap (λ (x : Operation). x.number.0) g.0.operates in
          let stays = keeps_stays d g.0.acted g.0.made (subst (λ (m : ℕ). keeps m ≡ true) (sym number) k) in
          let all = all_saw (Acts a ∷ is) g in
          let same = alike_picked head.osts keeps refl is a all.1 (all.0 k) in
          record {
            deed = d;
            acted = g.0.acted;
            made = g.0.made;
            stands = or_from (is_lost head.osts past d.reply.txn.0) (loss d.reply.txn.0) g.0.stands stays;
            operates = g.0.operates;
            wrote = λ names. g.0.wrote names ∙ same.writes;
            saw = λ n i.
                let j = seen_picked head.osts keeps refl is (touches head.osts (contents head.osts empty is) a) n all.1
                (subst (λ (ps : List Part). In n (seen head.osts (contents head.osts empty) (pick keeps is) ps)) (sym same.touches) i)
                in
                let low = close_low in
                ⊎_elim (λ (le : n ≤ (server_of head.osts past).committed.0). inl (omega arith)) (λ (k : In n d.reply.seen). inr k)
                (g.0.saw n j);
          }

  close_items : AllItems head.osts new (forgetting gone left)
  close_items =
      items_forgetting head.osts new gone left
      (subst (λ (js : List Item). AllItems head.osts new js) (pick_same keeps keep (items_of head.osts past) same)
      (items_stay (items_of head.osts past) h.history.items))
    where
      same : (a : Operation) → In (Acts a) (items_of head.osts past) → keeps a.number.0 ≡ keep a.number.0
      same a i =
          let d = item_deed head.osts past (items_of head.osts past) a h.history.items i in
          let number : d.0.reply.txn.0 ≡ a.number.0 = ap (λ (x : Operation). x.number.0) d.4 in
          by (nat_eq a.number.0 1) refl (λ e. not_one d.0 d.1 d.2 (number ∙ e))
        where
          by : (b : Bool) → nat_eq a.number.0 1 ≡ b → (a.number.0 ≡ 1 → ⊥) → (b || keep a.number.0) ≡ keep a.number.0
          by true e n = absurd (n (eqb-true a.number.0 1 e))
          by false e n = refl

  -- ---- who has a slot then

  slot_then : (who : Who) → is_life who made.disk.lives ≡ true → (is_life who made.joins ≡ true)
      ⊎ (HasSlot head.clients past who × (is_life who gone ≡ false))
  slot_then who has = ⊎_elim
      (λ (j : is_life who made.joins ≡ true). inl j)
      (λ (s : is_life who (without_lives gone before.lives) ≡ true).
      let f = in_filter (λ (w : Who). not (is_life w gone)) who before.lives (stands_life who (without_lives gone before.lives) s) in
      inr (subst (λ (ws : List Who). is_life who ws ≡ true) of_lives (life_stands who before.lives f.0), not-true (is_life who gone) f.1))
      (or_cases (is_life who made.joins) (is_life who (without_lives gone before.lives))
      (sym (any_lives (same_life who) made.joins (without_lives gone before.lives)) ∙ has))

  -- a life that joins has asked nothing
  joins_none : (who : Who) → is_life who made.joins ≡ true → (f : Flight) × Flew past who f → ⊥
  joins_none who j f =
      let w = h.recovers.wishes recovers who (stands_life who (wishes_of past) j) in
      ⊎_elim
      (λ (has : is_life who (lives_of head.clients past) ≡ true).
      let e : who ≡ w.0 = h.lives.one who w.0 has w.1 (sym w.2) in
      let l : who.life ≡ w.0.life = ap (λ (x : Who). x.life) e in
      let lt = w.3 in
      omega arith)
      (λ (out : is_life who (evicted_of past) ≡ true).
      let lt = h.lives.apart w.0 who w.1 out w.2 in
      let newer = w.3 in
      omega arith)
      (h.lives.flew who f.0 f.1)

  earlier : closed_of past < (server_of head.osts past).boot
  earlier = let ne = eqb-false (closed_of past) (server_of head.osts past).boot recovers in let le = h.phase.under in omega arith

  close_history : History head.osts head.clients new
  close_history =
      let g = h.history in
      record {
        tree = close_tree;
        disk = close_disk;
        on_disk = let e = level in let low = close_low in omega arith;
        log = λ d i. absurd i;
        logged = λ d a m s.
            let p = or_parts (is_lost head.osts past d.reply.txn.0) (loss d.reply.txn.0) s in
            let low = close_low in
            inr (⊎_elim
            (λ (lt : (server_of head.osts past).committed.0 < d.reply.txn.0). kept_low d.reply.txn.0 (is_kept d a m p.1 lt))
            (λ (le : d.reply.txn.0 ≤ (server_of head.osts past).committed.0). omega arith)
            (cases_lt (server_of head.osts past).committed.0 d.reply.txn.0));
        log_rises = tt;
        later = λ n lt.
            let lower = earlier in
            or_from (is_lost head.osts past n) (loss n) (g.later n (omega arith))
            (and_right (nat_lt (server_of head.osts past).committed.0 n)
            (nat_lt n (first_of made.boot) && not (has_number n (numbers_of made)))
            (and_left (nat_lt n (first_of made.boot)) (not (has_number n (numbers_of made)))
            (le-ltb n (first_of made.boot) (omega arith))));
        top = close_top;
        last = g.last;
        saw = λ d n a i.
            let r = g.saw d n a i in
            let low = close_low in (
              ⊎_elim (λ (le : n ≤ (server_of head.osts past).committed.0). inl (omega arith))
                  (λ (e : (e : Deed) × Acted past e × IsMade e × (e.reply.txn.0 ≡ n)). inr e) r.0,
              r.1,
            );
        stands = λ d a m s n i.
            let p = or_parts (is_lost head.osts past d.reply.txn.0) (loss d.reply.txn.0) s in
            or_from (is_lost head.osts past n) (loss n) (g.stands d a m p.0 n i) (stays_saw d a m p.1 n i);
        heard = λ who f r i has. ⊎_elim
            (λ (j : is_life who made.joins ≡ true). absurd (joins_none who j (heard_flew head.osts head.clients past h.done who f r i)))
            (λ (s : HasSlot head.clients past who × (is_life who gone ≡ false)).
            let old = g.heard who f r i s.0 in
            let now = stays_is head past recovers h (turn stamp (Target t)) who s.0 s.1 in (
              or_from (is_lost head.osts past r.txn.0) (loss r.txn.0) old.0 (now.0 f r i),
              λ n j. or_from (is_lost head.osts past n) (loss n) (old.1 n j) (now.1 n (heard_saw past who f r n i j)),
            ))
            (slot_then who has);
        held = λ who n i has. ⊎_elim
            (λ (j : is_life who made.joins ≡ true). absurd (joins_none who j (saw_flew head.osts head.clients past h.done h.keeps who n i)))
            (λ (s : HasSlot head.clients past who × (is_life who gone ≡ false)).
            or_from (is_lost head.osts past n) (loss n) (g.held who n i s.0)
            ((stays_is head past recovers h (turn stamp (Target t)) who s.0 s.1).1 n i))
            (slot_then who has);
        fresh = λ d a b n i. let le = (h.done.boots d a).1 in let lt = earlier in absurd (omega arith);
        items = close_items;
        items_have = λ d a m s.
            let p = or_parts (is_lost head.osts past d.reply.txn.0) (loss d.reply.txn.0) s in
            in_forgetting gone (operation d) left (in_picked keep (operation d) (items_of head.osts past) (g.items_have d a m p.0)
            (not_from_false (loss d.reply.txn.0) p.1));
        items_fall = fall_forgetting gone left (fall_picked keep (items_of head.osts past) g.items_fall);
        log_of = λ d i. absurd i;
      }

pub history_close : (head : Head) (past : List Line) (stamp : Stamp) (t : ℕ) (o : Outcome) → CloseOk head past (turn stamp (Target t)) o
    → HoldsAt head past → History head.osts head.clients (line (turn stamp (Target t)) (Close o) ∷ past)
history_close head past stamp t o ok h =
    subst (λ (x : Outcome). History head.osts head.clients (line (turn stamp (Target t)) (Close x) ∷ past)) (sym ok.is)
    (close_history head past stamp t ok.recovers ok.of_committed ok.of_lives h)
