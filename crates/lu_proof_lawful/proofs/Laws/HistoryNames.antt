-- Names in the law of history: with the lost transactions taken out, the plain machine answers what clients were told, and refuses no
-- transaction
-- that stands. What is told of bytes, and what reaches objects, changes no names. It has more opens than the contents, which lose those of
-- a life
-- that leaves; no part that is looked at holds opens.
use Rattle.std.proofs.Common.{◌*◌, ◌≡◌, ℕ, zero, suc, ◌+◌, ◌<◌, ◌≤◌, Bool, true, false, List, [], ◌∷◌, ◌⊎◌, Option, Some, None, inl, inr}
use Rattle.std.proofs.Common.{⊎_elim, refl, sym, subst, ap, ◌∙◌, arith}
use Rattle.std.specs.Prelude.{nat_eq, not, ◌&&◌, ◌||◌, if◌then◌else◌}
use Rattle.std.specs.List.{list_any}
use Rattle.std.proofs.lemmas.Bool.{cond_both, and_parts, eqb-true}
use Rattle.std.proofs.lemmas.Bool.Decides.{nat_tests}
use Rattle.lu_base.specs.declared.ids.At.{At}
use Rattle.lu_base.specs.declared.ids.Node.{Node}
use Rattle.lu_base.specs.declared.ids.Node.TheVariants.{Client, Target}
use Rattle.lu_base.specs.declared.ids.Stamp.{Stamp}
use Rattle.lu_base.specs.declared.ids.Txn.{Txn as TxnOf}
use Rattle.lu_base.specs.declared.ids.Who.{Who}
use Rattle.lu_msg.specs.declared.answers.Answer.{Answer}
use Rattle.lu_msg.specs.declared.messages.Reply.{Reply as ReplyTo}
use Rattle.lu_msg.specs.declared.operations.Op.{Op}
use Rattle.lu_part.specs.Meets.{meets}
use Rattle.lu_part.specs.declared.parts.Part.{Part}
use Rattle.lu_spec_machine.specs.declared.acts.Act.{Act as ActOf}
use Rattle.lu_spec_machine.specs.Tree.{Tree, same_life}
use Rattle.lu_spec_machine.specs.Footprint.{Operation, empty, answer, touches, changes, after, forget, Every, Apart, Same}
use Rattle.lu_spec_machine.specs.Removal.{Item, Acts, pick}
use Rattle.lu_spec_machine.specs.Seen.{meet, seen, SawKept, AllSawKept}
use Rattle.lu_spec_machine.specs.Laws.{IsReading, Alike}
use Rattle.lu_spec_machine.specs.Fits.{answer_fits}
use Rattle.lu_spec_machine.specs.Machine.{Machine, as_told, names_answer}
use Rattle.lu_spec_machine.proofs.Fits.{answers_fit}
use Rattle.lu_spec_machine.proofs.Footprints.{every_one}
use Rattle.lu_spec_machine.proofs.Stated.{touched_decide, new_from_old}
use Rattle.lu_spec_machine.proofs.Removal.{earlier_are_older}
use Rattle.lu_spec_machine.proofs.Seen.{removal_by_seen}
use Rattle.lu_spec_machine.proofs.Transactions.{readings_change_nothing, machine_is_table}
use Rattle.lu_spec_entries.specs.Carried.{Deed, Outcome, Work}
use Rattle.lu_spec_entries.specs.Words.{Entry, Heard, Hold, Told, Act, Txn as Made, Grant, Wait, Answers as Responds, Commit, Close, Evict}
use Rattle.lu_spec_entries.specs.Words.{Line, line}
use Rattle.lu_spec_entries.specs.Concerns.{concerns, only}
use Rattle.lu_spec_entries.specs.Printed.{printed}
use Rattle.lu_proof_lawful.specs.Covered.Calls.{life_at}
use Rattle.lu_proof_lawful.specs.Covered.Known.{notes_at}
use Rattle.lu_proof_lawful.specs.Covered.TargetParts.{operation}
use Rattle.lu_proof_lawful.specs.Covered.TargetStates.{boot_at, count_at, committed_at, tree_at, log_at, server_at, server_of, next_number}
use Rattle.lu_proof_lawful.specs.Covered.TargetStates.{seen_in}
use Rattle.lu_proof_lawful.specs.Covered.TargetCloses.{is_lost, loses, closing_of}
use Rattle.lu_spec_target.specs.Lives.{lives_of as lives_in}
use Rattle.lu_proof_lawful.specs.Covered.Heads.{Head}
use Rattle.lu_spec_laws.specs.Words.Pasts.{same_turn, is_target}
use Rattle.lu_spec_laws.specs.Words.Lives.{who_is}
use Rattle.lu_spec_laws.specs.Words.Requests.{asked}
use Rattle.lu_spec_laws.specs.Words.Histories.{none, names_act, acts_as, told_item, after_item, machine_of, answer_to, answer_there}
use Rattle.lu_spec_laws.proofs.Tests.{both, settled}
use Rattle.lu_spec_laws.specs.Laws.History.{heard_answer, right_answer}
use Rattle.lu_proof_lawful.specs.Fits.{AllStand, SeenStand, ReplyStands, HeardStand, HeldStand, CommitsStand, EvictedOut, WasMade, Fits}
use Rattle.lu_proof_lawful.proofs.Preconditions.Guards.{In, Steps, TellsOk, KnownOk}
use Rattle.lu_proof_lawful.proofs.Preconditions.StoryGuards.{EntryOf}
use Rattle.lu_proof_lawful.proofs.Preconditions.ClientLines.{IsNames}
use Rattle.lu_proof_lawful.proofs.Preconditions.Grown.{Allowed, Grown}
use Rattle.lu_proof_lawful.proofs.Preconditions.Lists.{life_is}
use Rattle.lu_proof_lawful.proofs.Preconditions.Parts.{tree_is, log_is, committed_is}
use Rattle.lu_proof_lawful.proofs.Preconditions.ClientLocks.{any_true}
use Rattle.lu_proof_lawful.proofs.Invariants.Finds.{numbers_at, numbers_up}
use Rattle.lu_proof_lawful.proofs.Invariants.Groups.{turn, History, items_of, items_after, forgetting}
use Rattle.lu_proof_lawful.proofs.Invariants.TargetGroups.{Acted, Evicted, IsMade, Stands}
use Rattle.lu_proof_lawful.proofs.Invariants.ItemLists.{same_forgot, in_seen, pick_forgetting}
use Rattle.lu_proof_lawful.proofs.Invariants.All.{holds}
use Rattle.lu_proof_lawful.proofs.Invariants.Lines.{acted_whole}
use Rattle.lu_proof_lawful.proofs.Invariants.OnNames.{IsPlain, told_so, reading_told}
use Rattle.lu_proof_lawful.proofs.Invariants.Known.{right, SawBy, known_saw}
use Rattle.lu_proof_lawful.proofs.Invariants.Sides.{first_at, acted_kind}
use Rattle.lu_proof_lawful.proofs.Laws.NewDeeds.{client_acted, made_new}
use Rattle.lu_proof_lawful.proofs.Laws.Commits.{made_more, listed}
use Rattle.lu_proof_lawful.proofs.Laws.Turns.{same_turn_is}
use Rattle.lu_proof_lawful.proofs.Laws.ActsLaw.{own_line}
use Rattle.lu_proof_lawful.proofs.Laws.Once.{NoneNow, act_now, txn_now, granted_first, wait_high, responds_high}
use Rattle.lu_proof_lawful.proofs.Laws.Lost.{lost_whole, stood_before}
use Rattle.lu_proof_lawful.proofs.Laws.HistoryItems.{whole, keep, same_as, same_trans, same_self, same_forgetting, pick_again, seen_stays}
use Rattle.lu_proof_lawful.proofs.Laws.HistoryItems.{all_saw}
use Rattle.lu_proof_lawful.proofs.Laws.Facts.{AskedAt, AllAsked}
use Rattle.lu_proof_lawful.proofs.Laws.Contents.{number_is, asked_before}
use Rattle.lu_proof_lawful.proofs.Laws.Deeds.{ActIs, TxnIs, act_is, txn_is, txn_for}
use Rattle.lu_proof_lawful.proofs.Laws.Plain.{told_plain}
use Rattle.lu_proof_lawful.proofs.Laws.Fine.{known_operation}
use Rattle.lu_proof_lawful.proofs.Laws.Printed.{present_is}
use Rattle.lu_proof_lawful.proofs.Laws.Story.{target_is}
use Rattle.lu_proof_lawful.proofs.Laws.ToldLaw.{Tells, heard_stands, same_stands}
use Rattle.lu_proof_lawful.proofs.Laws.Lasting.{stays_in}
use Rattle.lu_proof_lawful.proofs.Laws.Telling.{own_turn, told_elsewhere, known_act, told_adds, told_leaves, object_leaves}

pub not_zero : (t : ℕ) → nat_eq 0 (suc t) ≡ false
not_zero t = grind (arith, nat_tests)

commits_before : (osts : ℕ) (lost : ℕ → ℕ → Bool) (l : Line) (past : List Line) → CommitsStand osts lost (l ∷ past)
    → CommitsStand osts lost past
commits_before osts lost l past = by l.entry
  where
    by : (e : Entry) → CommitsStand osts lost (line l.at e ∷ past) → CommitsStand osts lost past
    by (Commit to batch) c = c.1
    by (Close o) c = c.1
    by _ c = c

pub fits_before : (osts : ℕ) (out : Who → Bool) (lost : ℕ → ℕ → Bool) (l : Line) (past : List Line) → Fits osts out lost (l ∷ past)
    → Fits osts out lost past
fits_before osts out lost l past f =
    record {
      root = f.root;
      stays = λ t n m e. f.stays t n (made_more t l past n m) (lost_whole osts t l past n e);
      seen = seen_before l.entry f.seen;
      heard = heard_before l.entry f.heard;
      held = held_before l.entry f.held;
      committed = commits_before osts lost l past f.committed;
      gone = gone_before l.entry f.gone;
    }
  where
    gone_before : (e : Entry) → EvictedOut out (line l.at e ∷ past) → EvictedOut out past
    gone_before (Evict who cause) k = k.1
    gone_before _ k = k

    seen_before : (e : Entry) → SeenStand lost (line l.at e ∷ past) → SeenStand lost past
    seen_before (Made d) s = s.1
    seen_before _ s = s

    heard_before : (e : Entry) → HeardStand out lost (line l.at e ∷ past) → HeardStand out lost past
    heard_before (Heard target flight reply) t = t.1
    heard_before _ t = t

    held_before : (e : Entry) → HeldStand out lost (line l.at e ∷ past) → HeldStand out lost past
    held_before (Hold target lock marked size seen) t = t.1
    held_before _ t = t

alike_trans : (osts : ℕ) (t u v : Tree) (o : Operation) → Alike osts t u o → Alike osts u v o → Alike osts t v o
alike_trans osts t u v o a b = record {
  answer = a.answer ∙ b.answer;
  touches = a.touches ∙ b.touches;
  writes = a.writes ∙ b.writes;
  grants = a.grants ∙ b.grants;
  changes = a.changes ∙ b.changes;
}

alike_back : (osts : ℕ) (t u : Tree) (o : Operation) → Alike osts t u o → Alike osts u t o
alike_back osts t u o a = record {
  answer = sym a.answer;
  touches = sym a.touches;
  writes = sym a.writes;
  grants = sym a.grants;
  changes =
      sym a.changes;
}

-- ---- the items of a past, and what its history says of them

module _ (head : Head) where
  abbrev pub items : List Line → List Item
  items past = items_of head.osts (only 0 past)

  pub history : (past : List Line) → Grown head past → History head.osts head.clients (only 0 past)
  history past g = ((holds head past g).at 0).history

  pub tree_same : (past : List Line) → Grown head past → (p : Part) → Same (whole head.osts (items past)) (tree_at head.osts 0 past) p
  tree_same past g p = subst (λ (t : Tree). Same (whole head.osts (items past)) t p) (sym (tree_is head.osts 0 past))
      ((history past g).tree p)

  -- so an operation comes out of both alike
  pub tree_alike : (past : List Line) (o : Operation) → Grown head past
      → Alike head.osts (whole head.osts (items past)) (tree_at head.osts 0 past) o
  tree_alike past o g = touched_decide head.osts (whole head.osts (items past)) (tree_at head.osts 0 past) o
      (every_one (Same (whole head.osts (items past)) (tree_at head.osts 0 past)) (touches head.osts (whole head.osts (items past)) o)
      (tree_same past g))

  -- only the metadata target's lines change them
  items_line : (l : Line) (past : List Line) → items (l ∷ past)
      ≡ elim l.at.node [
        | Client c ↦ items past
        | Target t ↦ if nat_eq 0 t
            then items_after (server_of head.osts (only 0 past)).committed.0 (items past) l.entry else items past
      ]
  items_line l past = by l.at.node
    where
      by : (node : Node) → items (line (turn l.at.stamp node) l.entry ∷ past)
          ≡ elim node [
            | Client c ↦ items past
            | Target t ↦ if nat_eq 0 t
                then items_after (server_of head.osts (only 0 past)).committed.0 (items past) l.entry else items past
          ]
      by (Client c) = cond_both (concerns 0 (Client c) l.entry) (line (turn l.at.stamp (Client c)) l.entry ∷ only 0 past) (only 0 past)
          (λ (P : List Line). items_of head.osts P ≡ items past) (λ t. refl) (λ t. refl)
      by (Target t) = own (nat_eq 0 t)
        where
          own : (b : Bool) → items_of head.osts (if b then line (turn l.at.stamp (Target t)) l.entry ∷ only 0 past else only 0 past)
              ≡ (if b then items_after (server_of head.osts (only 0 past)).committed.0 (items past) l.entry else items past)
          own true = refl
          own false = refl

-- what the metadata target did
pub act_here : (head : Head) (past : List Line) (stamp : Stamp) (node : Node) (d : Deed) → node ≡ Target 0
    → Allowed head past (turn stamp node) (Act d) → ActIs head.osts (server_at head.osts 0 past) (turn stamp node) d
act_here head past stamp (Client c) d first k = absurd k.ok
act_here head past stamp (Target t) d first k =
    subst (λ (v : ℕ). Allowed head past (turn stamp (Target v)) (Act d)
    → ActIs head.osts (server_at head.osts 0 past) (turn stamp (Target v)) d) (sym (target_is t 0 first)) (act_is head past stamp d) k

pub txn_here : (head : Head) (past : List Line) (stamp : Stamp) (node : Node) (d : Deed) → node ≡ Target 0
    → Allowed head past (turn stamp node) (Made d) → TxnIs head.osts (server_at head.osts 0 past) (turn stamp node) d
txn_here head past stamp (Client c) d first k = absurd k.ok
txn_here head past stamp (Target t) d first k =
    subst (λ (v : ℕ). Allowed head past (turn stamp (Target v)) (Made d)
    → TxnIs head.osts (server_at head.osts 0 past) (turn stamp (Target v)) d) (sym (target_is t 0 first)) (txn_is head past stamp d) k

-- it is on names
pub names : (head : Head) (past : List Line) → Grown head past → (d : Deed) → Acted (only 0 past) d → IsNames d.op
names head past g d a = ⊎_elim (λ k. k.1) (λ k. absurd (let high = k.0 in omega (arith, high))) (acted_kind head past 0 d g a)

-- ---- numbers that stand

pub one_stands : (lost : ℕ → Bool) (ns : List ℕ) (n : ℕ) → AllStand lost ns → In n ns → lost n ≡ false
one_stands lost [] n s i = absurd i
one_stands lost (m ∷ ns) n s (inl e) = ap lost (sym e) ∙ s.0
one_stands lost (m ∷ ns) n s (inr i) = one_stands lost ns n s.1 i

-- a transaction that stands, up to the committed number
committed_stands : (head : Head) (lost : ℕ → ℕ → Bool) (past : List Line) → Grown head past → CommitsStand head.osts lost past → (n : ℕ)
    → WasMade 0 past n → is_lost head.osts (only 0 past) n ≡ false → n ≤ (committed_at 0 past).0 → lost 0 n ≡ false
committed_stands head lost [] g c n made stands le = absurd made
committed_stands head lost (l ∷ past) g c n made stands le = by l.at.node l.entry g.0 c made (stood_before head.osts 0 l past n stands)
    stands le (committed_stands head lost past g.1)
  where
    txn : ℕ → TxnOf
    txn m = record { 0 = m }

    -- a number is made above the committed one
    above : (t : ℕ) (d : Deed) → t ≡ 0 → Allowed head past (turn l.at.stamp (Target t)) (Made d) → d.reply.txn.0 ≡ n
        → n ≤ (committed_at 0 past).0 → ⊥
    above t d z k is le =
        let top = ((holds head past g.1).at 0).history.top in
        let number = subst (λ (v : ℕ). d.reply.txn.0 ≡ (next_number (server_of head.osts (only v past))).0) z
        (ap (λ (m : TxnOf). m.0) (txn_for head past l.at.stamp t d k).number) in
        let same = ap (λ (m : TxnOf). m.0) (committed_is head.osts 0 past) in
        absurd (omega (arith, top, number, is, le, same))

    by : (node : Node) (e : Entry) → Allowed head past (turn l.at.stamp node) e
        → CommitsStand head.osts lost (line (turn l.at.stamp node) e ∷ past) → WasMade 0 (line (turn l.at.stamp node) e ∷ past) n
        → is_lost head.osts (only 0 past) n ≡ false → is_lost head.osts (only 0 (line (turn l.at.stamp node) e ∷ past)) n ≡ false
        → n ≤ (committed_at 0 (line (turn l.at.stamp node) e ∷ past)).0
        → (CommitsStand head.osts lost past → (n : ℕ) → WasMade 0 past n → is_lost head.osts (only 0 past) n ≡ false
        → n ≤ (committed_at 0 past).0 → lost 0 n ≡ false) → lost 0 n ≡ false
    by (Client b) (Commit to batch) k c m s t le ih = absurd k.ok
    by (Target zero) (Commit to batch) k c m s t le ih = c.0 n m t le
    by (Target (suc u)) (Commit to batch) k c m s t le ih = ih c.1 n m s
        (subst (λ (b : Bool). n ≤ (if b then txn to else committed_at 0 past).0) (not_zero u) le)
    by (Client b) (Close o) k c m s t le ih = absurd k.ok
    by (Target zero) (Close o) k c m s t le ih = c.0 n m t le
    by (Target (suc u)) (Close o) k c m s t le ih = ih c.1 n m s
        (subst (λ (b : Bool). n ≤ (if b then txn o.disk.committed else committed_at 0 past).0) (not_zero u) le)
    by (Client b) (Made d) k c m s t le ih = absurd k.ok
    by (Target u) (Made d) k c (inl is) s t le ih = absurd (above u d (target_is u 0 is.0) k is.1 le)
    by (Target u) (Made d) k c (inr m) s t le ih = ih c n m s le
    by _ _ k c m s t le ih = ih c n m s le

module _ (head : Head) (lost : ℕ → ℕ → Bool) where
  -- a transaction of the metadata target that isn't lost saw nothing lost
  seen_of : (past : List Line) (d : Deed) → Grown head past → SeenStand lost past → Acted (only 0 past) d → IsMade d → lost 0 d.reply.txn.0
      ≡ false → AllStand (lost 0) d.reply.seen
  seen_of [] d g s a made stays = absurd a
  seen_of (l ∷ past) d g s a made stays = by l.at.node l.entry g.0 s a (λ t b. seen_of past d g.1 t b made stays)
    where
      P : List Line
      P = only 0 past

      Goal : Type 0
      Goal = AllStand (lost 0) d.reply.seen

      -- a line that made it not
      other : (node : Node) (e : Entry) → Allowed head past (turn l.at.stamp node) e → ((x : Deed) → e ≡ Made x → ⊥)
          → Acted (if concerns 0 node e then line (turn l.at.stamp node) e ∷ P else P) d → Acted P d
      other (Client c) e k differs a = of (concerns 0 (Client c) e) (k.of 0) a
        where
          of : (b : Bool) → (b ≡ true → EntryOf head P (turn l.at.stamp (Client c)) (Client c) e)
              → Acted (if b then line (turn l.at.stamp (Client c)) e ∷ P else P) d → Acted P d
          of true ok i = client_acted head P l.at.stamp c e d (ok refl) i
          of false ok i = i
      other (Target u) e k differs a = of (nat_eq 0 u) (k.of 0) a
        where
          of : (b : Bool) → (b ≡ true → EntryOf head P (turn l.at.stamp (Target u)) (Target u) e)
              → Acted (if b then line (turn l.at.stamp (Target u)) e ∷ P else P) d → Acted P d
          of true ok i = ⊎_elim (λ (q : e ≡ Made d). absurd (differs d q)) (λ (b : Acted P d). b)
              (made_new head P l.at.stamp u e d (ok refl) i made)
          of false ok i = i

      by : (node : Node) (e : Entry) → Allowed head past (turn l.at.stamp node) e → SeenStand lost (line (turn l.at.stamp node) e ∷ past)
          → Acted (only 0 (line (turn l.at.stamp node) e ∷ past)) d → (SeenStand lost past → Acted P d → Goal) → Goal
      by (Client c) (Made e) k s a ih = absurd k.ok
      by (Target zero) (Made e) k s (inl same) ih = subst (λ (x : Deed). AllStand (lost 0) x.reply.seen) same
          (s.0 (ap (λ (x : Deed). lost 0 x.reply.txn.0) same ∙ stays))
      by (Target zero) (Made e) k s (inr b) ih = ih s.1 b
      by (Target (suc u)) (Made e) k s a ih = ih s.1 (subst (λ (b : Bool). Acted
          (if b then line (turn l.at.stamp (Target (suc u))) (Made e) ∷ P else P) d) (not_zero u) a)
      by node e k s a ih = ih s (other node e k (λ x q. cc) a)

  committed_in : (past : List Line) → Grown head past → CommitsStand head.osts lost past → (d : Deed) → Acted (only 0 past) d → IsMade d
      → Stands head.osts (only 0 past) d → d.reply.txn.0 ≤ (server_of head.osts (only 0 past)).committed.0 → lost 0 d.reply.txn.0 ≡ false
  committed_in past g c d a made stands le = committed_stands head lost past g c d.reply.txn.0 (listed head 0 past d g a made).made stands
      (subst (λ (m : TxnOf). d.reply.txn.0 ≤ m.0) (sym (committed_is head.osts 0 past)) le)

  -- each item that stays saw only what stays
  items_saw : (past : List Line) → Grown head past → CommitsStand head.osts lost past → SeenStand lost past
      → AllSawKept head.osts (whole head.osts) (keep lost) (items head past)
  items_saw past g c s =
      all_saw head.osts (only 0 past) lost (items head past) (history head past g).items (committed_in past g c)
      (λ d a made stays n i. one_stands (lost 0) d.reply.seen n (seen_of past d g s a made stays) i)

  -- what saw only what stands
  saw_kept : (past : List Line) (d : Deed) → Grown head past → CommitsStand head.osts lost past → d.reply.seen
      ≡ seen_in (touches head.osts (tree_at head.osts 0 past) (operation d)) (log_at 0 past) → AllStand (lost 0) d.reply.seen
      → SawKept head.osts (whole head.osts) (keep lost) (items head past) (operation d)
  saw_kept past d g c is s =
      subst (λ (ps : List Part). Every (λ n. keep lost n ≡ true) (seen head.osts (whole head.osts) (items head past) ps))
      (sym (tree_alike head past (operation d) g).touches)
      (seen_stays head.osts (only 0 past) lost (names head past g) touched (items head past) (history head past g).items
      (λ e a made stands m. by e a made stands m ((history head past g).logged e a made stands)))
    where
      touched : List Part
      touched = touches head.osts (tree_at head.osts 0 past) (operation d)

      by : (e : Deed) → Acted (only 0 past) e → IsMade e → Stands head.osts (only 0 past) e → meet e.writes touched ≡ true
          → In e (server_of head.osts (only 0 past)).log ⊎ (e.reply.txn.0 ≤ (server_of head.osts (only 0 past)).committed.0)
          → lost 0 e.reply.txn.0 ≡ false
      by e a made stands m (inl i) = one_stands (lost 0) (seen_in touched (log_at 0 past)) e.reply.txn.0 (subst (AllStand (lost 0)) is s)
          (in_seen touched (log_at 0 past) e (subst (λ (ds : List Deed). In e ds) (sym (log_is head.osts 0 past)) i) m)
      by e a made stands m (inr le) = committed_in past g c e a made stands le

  -- where each transaction that wrote what is touched stands
  seen_stands : (touched : List Part) (past : List Line) → Grown head past
      → ((e : Deed) → Acted (only 0 past) e → IsMade e → Stands head.osts (only 0 past) e → meet e.writes touched ≡ true
      → lost 0 e.reply.txn.0 ≡ false) → Every (λ n. keep lost n ≡ true) (seen head.osts (whole head.osts) (items head past) touched)
  seen_stands touched past g h = seen_stays head.osts (only 0 past) lost (names head past g) touched (items head past)
      (history head past g).items h

-- ---- lines that are no items

abbrev NoItem : Entry → Type 0
NoItem (Made d) = ⊥
NoItem (Evict who cause) = ⊥
NoItem (Close o) = ⊥
NoItem _ = Unit {0}

items_same : (head : Head) (past : List Line) (stamp : Stamp) (node : Node) (e : Entry) → NoItem e
    → items head (line (turn stamp node) e ∷ past) ≡ items head past
items_same head past stamp node e still = items_line head (line (turn stamp node) e) past ∙ by node e still
  where
    committed : ℕ
    committed = (server_of head.osts (only 0 past)).committed.0

    by : (node : Node) (e : Entry) → NoItem e → (elim node [
      | Client c ↦ items head past
      | Target t ↦ if nat_eq 0 t
          then items_after committed (items head past) e else items head past
    ]) ≡ items head past
    by (Client c) e still = refl
    by (Target t) (Made d) still = absurd still
    by (Target t) (Evict who cause) still = absurd still
    by (Target t) (Close o) still = absurd still
    by (Target t) e still = cond_both (nat_eq 0 t) (items head past) (items head past) (λ (is : List Item). is ≡ items head past)
        (λ _. refl) (λ _. refl)

items_other : (head : Head) (past : List Line) (stamp : Stamp) (t : ℕ) (e : Entry)
    → items head (line (turn stamp (Target (suc t))) e ∷ past) ≡ items head past
items_other head past stamp t e =
    items_line head (line (turn stamp (Target (suc t))) e) past
    ∙ ap (λ (b : Bool). if b then items_after (server_of head.osts (only 0 past)).committed.0 (items head past) e else items head past)
    (not_zero t)

-- ---- the law's machine

module _ (head : Head) (out : Who → Bool) (lost : ℕ → ℕ → Bool) where
  abbrev pub machine : List Line → Machine
  machine past = machine_of out lost head.osts (printed past)

  -- the transactions that stand
  abbrev standing : List Line → List Item
  standing past = pick (keep lost) (items head past)

  -- its last number is passed by the next, and its tree holds what the transactions that stand leave, whatever opens lives took with them
  abbrev Follows : List Line → Type 0
  Follows past = ((machine past).last ≤ numbers_at past) × ((p : Part) → Same (machine past).tree (whole head.osts (standing past)) p)

  -- the same after a transaction whose request asked for o, and which is lost or not
  abbrev FollowsMade : List Line → Deed → Option Op → Bool → Type 0
  FollowsMade past d o t =
      ((after_item head.osts (machine past) (if t then None else names_act d.reply.who d.reply.txn o)).last ≤ boot_at 0 past * 4294967296 +
      (count_at 0 past + 1))
      × ((p : Part) → Same (after_item head.osts (machine past) (if t then None else names_act d.reply.who d.reply.txn o)).tree
      (whole head.osts (if not t then Acts (operation d) ∷ standing past else standing past)) p)

  follows_made : (past : List Line) (at : At) (d : Deed) → Grown head past → TxnIs head.osts (server_at head.osts 0 past) at d
      → AskedAt 0 past d → Follows past → Follows (line (turn at.stamp (Target 0)) (Made d) ∷ past)
  follows_made past at d g is asks h = by (lost 0 d.reply.txn.0)
    where
      number : d.reply.txn.0 ≡ numbers_at past + 1
      number = number_is head past at d g is

      last : (machine past).last ≤ numbers_at past
      last = h.0

      by : (t : Bool) → FollowsMade past d (asked (printed past) 0 d.reply.who d.reply.xid.0) t
      by true = (omega (arith, last), h.1)
      by false =
          subst (λ o. FollowsMade past d o false) (sym asks) (
            omega (arith, last, number),
            λ p. same_as _ (after head.osts (machine past).tree (operation d))
                (after head.osts (whole head.osts (standing past)) (operation d)) p
                (machine_is_table head.osts (machine past) (operation d) (λ c. omega (arith, last, number))).1
                (new_from_old head.osts (machine past).tree (whole head.osts (standing past)) (operation d) p
                (every_one (Same (machine past).tree (whole head.osts (standing past)))
                (touches head.osts (machine past).tree (operation d)) h.1) (h.1 p)),
          )

  -- a transaction of another target reaches an object, or is no item
  follows_object : (past : List Line) (stamp : Stamp) (u : ℕ) (d : Deed) → Follows past
      → numbers_at past ≤ numbers_at (line (turn stamp (Target (suc u))) (Made d) ∷ past)
      → Follows (line (turn stamp (Target (suc u))) (Made d) ∷ past)
  follows_object past stamp u d h up =
      let same = object_leaves head.osts (machine past) out lost u d.reply.txn d.reply.who
      (asked (printed past) (suc u) d.reply.who d.reply.xid.0) in
      let last = h.0 in
      let still = same.1 in (
        omega (arith, last, up, still),
        subst (λ (js : List Item). (p : Part) → Same (machine (line (turn stamp (Target (suc u))) (Made d) ∷ past)).tree
            (whole head.osts (pick (keep lost) js)) p) (sym (items_other head past stamp u (Made d)))
            (subst (λ (t : Tree). (p : Part) → Same t (whole head.osts (standing past)) p) (sym same.0) h.1),
      )

  -- what is told of a call changes no names
  follows_told : (past : List Line) (stamp : Stamp) (c slot : ℕ) (named : At) (given : Answer) (work : Option Work) → Grown head past
      → Steps past (turn stamp (Client c)) → TellsOk past (turn stamp (Client c)) c slot named given work → Follows past
      → Follows (line (turn stamp (Client c)) (Told slot named given work) ∷ past)
  follows_told past stamp c slot named given work g steps tells h =
      let is = told_leaves head.osts (machine past) (who_is c (printed past))
      (told_item out (printed past) (turn stamp (Client c)) (Client c) slot named given)
      (told_adds head out past stamp c slot named given work g steps tells) in
      let old = subst (λ (is : List Item). ((machine past).last ≤ numbers_at past)
      × ((p : Part) → Same (machine past).tree (whole head.osts (pick (keep lost) is)) p))
      (sym (items_same head past stamp (Client c) (Told slot named given work) tt)) h in (
        subst (λ (n : ℕ). n ≤ numbers_at past) (sym is.1) old.0,
        subst (λ (t : Tree). (p : Part) → Same t (whole head.osts
            (standing (line (turn stamp (Client c)) (Told slot named given work) ∷ past))) p) (sym is.0) old.1,
      )

  -- a close takes out what is lost at the end too
  follows_close : (past : List Line) (stamp : Stamp) (o : Outcome) → Grown head past
      → Fits head.osts out lost (line (turn stamp (Target 0)) (Close o) ∷ past) → Follows past
      → Follows (line (turn stamp (Target 0)) (Close o) ∷ past)
  follows_close past stamp o g f h = (
    h.0,
    λ p. subst (λ (is : List Item). Same (machine past).tree (whole head.osts is) p) (sym picked)
        (same_forgetting head.osts (machine past).tree (lives_in o.gone) (standing past) p (h.1 p)),
  )
    where
      committed : ℕ
      committed = (server_of head.osts (only 0 past)).committed.0

      kept : ℕ → Bool
      kept n = not (loses committed o n)

      or_second : (a b : Bool) → b ≡ true → (a || b) ≡ true
      or_second true b e = refl
      or_second false b e = e

      lost_then : (b : Bool) → not b ≡ false → b ≡ true
      lost_then true e = refl
      lost_then false e = absurd (cc)

      loses_it : (d : Deed) → Acted (only 0 past) d → IsMade d → Stands head.osts (only 0 past) d → kept d.reply.txn.0 ≡ false
          → lost 0 d.reply.txn.0 ≡ true
      loses_it d a made stands e = f.stays 0 d.reply.txn.0 (listed head 0 past d g a made).made
          (or_second (is_lost head.osts (only 0 past) d.reply.txn.0) (loses committed o d.reply.txn.0)
          (lost_then (loses committed o d.reply.txn.0) e))

      picked : pick (keep lost) (forgetting (lives_in o.gone) (pick kept (items head past))) ≡ forgetting (lives_in o.gone) (standing past)
      picked = pick_forgetting (keep lost) (lives_in o.gone) (pick kept (items head past))
          ∙ ap (forgetting (lives_in o.gone)) (pick_again head.osts (only 0 past) lost kept (items head past) (history head past g).items
          loses_it)

  pub follows : (past : List Line) → Grown head past → AllAsked past → Fits head.osts out lost past → Follows past
  follows [] g a f = (omega arith, λ p. same_self empty p)
  follows (l ∷ past) g a f = by l.at.node l.entry g.0 a f (follows past g.1 (asked_before l past a)
      (fits_before head.osts out lost l past f))
    where
      -- the items are as they were
      still : (node : Node) (e : Entry) → Allowed head past (turn l.at.stamp node) e → items head (line (turn l.at.stamp node) e ∷ past)
          ≡ items head past → Follows past → (numbers_at past ≤ numbers_at (line (turn l.at.stamp node) e ∷ past))
          → ((machine past).last ≤ numbers_at (line (turn l.at.stamp node) e ∷ past))
          × ((p : Part) → Same (machine past).tree (whole head.osts (standing (line (turn l.at.stamp node) e ∷ past))) p)
      still node e k is h up =
          let last = h.0 in (
            omega (arith, last, up),
            subst (λ (js : List Item). (p : Part)
                → Same (machine past).tree (whole head.osts (pick (keep lost) js)) p) (sym is) h.1,
          )

      up : (node : Node) (e : Entry) → Allowed head past (turn l.at.stamp node) e
          → numbers_at past ≤ numbers_at (line (turn l.at.stamp node) e ∷ past)
      up node e k = numbers_up head (line (turn l.at.stamp node) e) past g.1 k

      by : (node : Node) (e : Entry) → Allowed head past (turn l.at.stamp node) e → AllAsked (line (turn l.at.stamp node) e ∷ past)
          → Fits head.osts out lost (line (turn l.at.stamp node) e ∷ past) → Follows past → Follows (line (turn l.at.stamp node) e ∷ past)
      by (Client c) (Made d) k a f h = absurd k.ok
      by (Target zero) (Made d) k a f h = follows_made past (turn l.at.stamp (Target 0)) d g.1 (txn_is head past l.at.stamp d k)
          (a.0 0 refl) h
      by (Target (suc u)) (Made d) k a f h = follows_object past l.at.stamp u d h (up (Target (suc u)) (Made d) k)
      by (Client c) (Told slot named given work) k a f h = follows_told past l.at.stamp c slot named given work g.1 k.steps k.ok h
      by (Target u) (Told slot named given work) k a f h = absurd k.ok
      by (Client c) (Evict who cause) k a f h = absurd k.ok
      by (Target zero) (Evict who cause) k a f h = (
        h.0,
        λ p. same_trans (machine past).tree (whole head.osts (standing past))
            (forget (whole head.osts (standing past)) who) p (h.1 p) (same_forgot (whole head.osts (standing past)) who p),
      )
      by (Target (suc u)) (Evict who cause) k a f h = still (Target (suc u)) (Evict who cause) k
          (items_other head past l.at.stamp u (Evict who cause)) h (up (Target (suc u)) (Evict who cause) k)
      by (Client c) (Close o) k a f h = absurd k.ok
      by (Target zero) (Close o) k a f h = follows_close past l.at.stamp o g.1 f h
      by (Target (suc u)) (Close o) k a f h = still (Target (suc u)) (Close o) k (items_other head past l.at.stamp u (Close o)) h
          (up (Target (suc u)) (Close o) k)
      by node e k a f h = still node e k (items_same head past l.at.stamp node e tt) h (up node e k)

  -- what saw only what stands comes out of the machine as it came out of the target
  pub alike_op : (past : List Line) (o : Operation) → Grown head past → AllAsked past → Fits head.osts out lost past
      → SawKept head.osts (whole head.osts) (keep lost) (items head past) o
      → Alike head.osts (tree_at head.osts 0 past) (machine past).tree o
  alike_op past o g a f saw =
      let root = ap not f.root in
      let older = earlier_are_older head.osts (keep lost) root [] tt in
      let stays = removal_by_seen head.osts empty (keep lost) root older (items head past) (items_saw head lost past g f.committed f.seen) o
      saw in
      let holds_all = (follows past g a f).1 in
      let machine_too = touched_decide head.osts (machine past).tree (whole head.osts (standing past)) o
      (every_one (Same (machine past).tree (whole head.osts (standing past))) (touches head.osts (machine past).tree o) holds_all) in
      alike_trans head.osts (tree_at head.osts 0 past) (whole head.osts (items head past)) (machine past).tree o
      (alike_back head.osts (whole head.osts (items head past)) (tree_at head.osts 0 past) o (tree_alike head past o g))
      (alike_trans head.osts (whole head.osts (items head past)) (whole head.osts (standing past)) (machine past).tree o stays
      (alike_back head.osts (machine past).tree (whole head.osts (standing past)) o machine_too))

  pub alike : (past : List Line) (d : Deed) → Grown head past → AllAsked past → Fits head.osts out lost past
      → d.reply.seen ≡ seen_in (touches head.osts (tree_at head.osts 0 past) (operation d)) (log_at 0 past) → AllStand (lost 0) d.reply.seen
      → Alike head.osts (tree_at head.osts 0 past) (machine past).tree (operation d)
  alike past d g a f is s = alike_op past (operation d) g a f (saw_kept head lost past d g f.committed is s)

  pub answered : (past : List Line) (d : Deed) → Alike head.osts (tree_at head.osts 0 past) (machine past).tree (operation d)
      → IsPlain (answer head.osts (tree_at head.osts 0 past) (operation d))
      → (changes head.osts (tree_at head.osts 0 past) (operation d) ≡ true → (machine past).last < d.reply.txn.0)
      → names_answer head.osts (machine past) (operation d) ≡ told_so (answer head.osts (tree_at head.osts 0 past) (operation d))
  answered past d same plain above =
      (machine_is_table head.osts (machine past) (operation d) (λ c. above (same.changes ∙ c))).0
      ∙ told_plain (machine past) (answer head.osts (machine past).tree (operation d)) (subst IsPlain same.answer plain)
      ∙ ap told_so (sym same.answer)

  -- its answer after a past
  abbrev pub answers : List Line → Option ActOf → Option Answer
  answers past act = answer_to head.osts (machine past) act

  -- to an act, and to a transaction
  pub act_answers : (past : List Line) (at : At) (d : Deed) → Grown head past → AllAsked past → Fits head.osts out lost past
      → ActIs head.osts (server_at head.osts 0 past) at d → AskedAt 0 past d → IsPlain d.reply.answer → AllStand (lost 0) d.reply.seen
      → answers past (names_act d.reply.who none (asked (printed past) 0 d.reply.who d.reply.xid.0)) ≡ Some (told_so d.reply.answer)
  act_answers past at d g a f is asks plain s =
      subst (λ o. answers past (names_act d.reply.who none o) ≡ Some (told_so d.reply.answer)) (sym asks)
      (subst (λ (n : TxnOf). answers past (names_act d.reply.who n (Some d.op)) ≡ Some (told_so d.reply.answer)) is.txn
      (ap (λ (v : Answer). Some v) (answered past d (alike past d g a f is.saw s) (subst IsPlain is.answered plain)
      (λ c. absurd (let still = is.still in cc)) ∙ ap told_so (sym is.answered))))

  pub txn_answers : (past : List Line) (at : At) (d : Deed) → Grown head past → AllAsked past → Fits head.osts out lost past
      → TxnIs head.osts (server_at head.osts 0 past) at d → IsPlain d.reply.answer → AllStand (lost 0) d.reply.seen
      → names_answer head.osts (machine past) (operation d) ≡ told_so d.reply.answer
  txn_answers past at d g a f is plain s =
      let n = number_is head past at d g is in
      let last = (follows past g a f).0 in
      answered past d (alike past d g a f is.saw s) (subst IsPlain is.answered plain) (λ c. omega (arith, n, last))
      ∙ ap told_so (sym is.answered)

  -- a line that executes the request answers, one that doesn't leaves what was
  pub here_is : (b : Bool) (now old : Option Answer) (given : Answer) → b ≡ true → now ≡ Some given → (if b then now else old) ≡ Some given
  here_is true now old given e q = q
  here_is false now old given e q = absurd (cc)

  pub before_is : (b : Bool) (now old : Option Answer) (given : Answer) → (b ≡ true → ⊥) → old ≡ Some given → (if b then now else old)
      ≡ Some given
  before_is true now old given n q = absurd (n refl)
  before_is false now old given n q = q

  -- what was done was answered where it stands
  pub answered_there : (past : List Line) (d : Deed) → d.reply.at.node ≡ Target 0 → Grown head past → AllAsked past
      → Fits head.osts out lost past → Acted past d → IsPlain d.reply.answer → ReplyStands (lost 0) d.reply
      → answer_there out lost head.osts (printed past) d.reply.at d.reply.who d.reply.xid.0 ≡ Some (told_so d.reply.answer)
  answered_there [] d first g a f acted plain s = absurd acted
  answered_there (l ∷ past) d first g a f acted plain s =
      by l.entry g.0 a acted (λ b. answered_there past d first g.1 (asked_before l past a) (fits_before head.osts out lost l past f) b plain
      s)
    where
      fits : Fits head.osts out lost past
      fits = fits_before head.osts out lost l past f

      -- this line is the metadata target's, where that did it
      node_here : (e : Deed) → e.reply.at ≡ l.at → e ≡ d → l.at.node ≡ Target 0
      node_here e now same = ap (λ (v : At). v.node) (sym now) ∙ ap (λ (v : Deed). v.reply.at.node) same ∙ first

      -- a line like that is of the same request
      same_request : (e : Deed) → NoneNow head past l.at e.reply.who e.reply.xid.0 → Acted past d
          → acts_as d.reply.at d.reply.who d.reply.xid.0 l.at e.reply.who e.reply.xid.0 ≡ true → ⊥
      same_request e new i p =
          let q = and_parts (is_target 0 l.at.node && same_turn l.at d.reply.at && same_life e.reply.who d.reply.who) _ p in
          let r = and_parts (is_target 0 l.at.node && same_turn l.at d.reply.at) _ q.0 in
          let s = and_parts (is_target 0 l.at.node) (same_turn l.at d.reply.at) r.0 in
          new d i (sym (same_turn_is l.at d.reply.at s.1)) (sym (life_is e.reply.who d.reply.who r.1))
          (sym (eqb-true e.reply.xid.0 d.reply.xid.0 q.1))

      by : (e : Entry) → Allowed head past l.at e → AllAsked (line l.at e ∷ past) → Acted (line l.at e ∷ past) d
          → (Acted past d → answer_there out lost head.osts (printed past) d.reply.at d.reply.who d.reply.xid.0
          ≡ Some (told_so d.reply.answer))
          → answer_there out lost head.osts (printed (line l.at e ∷ past)) d.reply.at d.reply.who d.reply.xid.0
          ≡ Some (told_so d.reply.answer)
      by (Act e) ok a (inl same) h =
          let does = act_now head past l.at.stamp l.at.node e ok g.1 in
          let here = node_here e does.turn same in
          let stands = subst (λ (v : Deed). AllStand (lost 0) v.reply.seen) (sym same) s.1 in
          let at_once = subst (λ (v : Deed). IsPlain v.reply.answer) (sym same) plain in
          subst (λ (v : Deed). answer_there out lost head.osts (printed (line l.at (Act e) ∷ past)) v.reply.at v.reply.who v.reply.xid.0
          ≡ Some (told_so v.reply.answer)) same
          (here_is _ _ _ (told_so e.reply.answer) (own_line l.at e.reply.at e.reply.who e.reply.xid.0 (sym does.turn) here)
          (act_answers past l.at e g.1 a.1 fits (act_here head past l.at.stamp l.at.node e here ok) (a.0 0 here) at_once stands))
      by (Act e) ok a (inr i) h =
          before_is _ _ _ (told_so d.reply.answer) (same_request e (act_now head past l.at.stamp l.at.node e ok g.1).now i) (h i)
      by (Made e) ok a (inl same) h =
          let does = txn_now head past l.at.stamp l.at.node e ok g.1 in
          let stands = subst (λ (v : Deed). ReplyStands (lost 0) v.reply) (sym same) s in
          let at_once = subst (λ (v : Deed). IsPlain v.reply.answer) (sym same) plain in
          let here = node_here e does.turn same in
          let own = own_line l.at e.reply.at e.reply.who e.reply.xid.0 (sym does.turn) here in
          subst (λ (v : Deed). answer_there out lost head.osts (printed (line l.at (Made e) ∷ past)) v.reply.at v.reply.who v.reply.xid.0
          ≡ Some (told_so v.reply.answer)) same
          (here_is _ _ _ (told_so e.reply.answer) (both own (settled (lost 0 e.reply.txn.0) stands.0))
          (subst (λ o. answers past (names_act e.reply.who e.reply.txn o) ≡ Some (told_so e.reply.answer)) (sym (a.0 0 here))
          (ap (λ (v : Answer). Some v) (txn_answers past l.at e g.1 a.1 fits (txn_here head past l.at.stamp l.at.node e here ok) at_once
          stands.1))))
      by (Made e) ok a (inr i) h =
          before_is _ _ _ (told_so d.reply.answer)
          (λ p. same_request e (txn_now head past l.at.stamp l.at.node e ok g.1).now i
          (and_parts (acts_as d.reply.at d.reply.who d.reply.xid.0 l.at e.reply.who e.reply.xid.0) (not (lost 0 e.reply.txn.0)) p).0)
          (h i)
      by (Grant lock asked') ok a (inl q) h = h (granted_first head past l.at.stamp l.at.node lock asked' d ok q g.1 first)
      by (Grant lock asked') ok a (inr i) h = h i
      by (Wait lock e) ok a (inl same) h = absurd (wait_high head past l.at.stamp l.at.node lock e ok g.1
          (ap (λ (v : Deed). v.reply.at.node) same ∙ first))
      by (Wait lock e) ok a (inr i) h = h i
      by (Responds e) ok a (inl same) h = absurd (responds_high head past l.at.stamp l.at.node e ok g.1
          (ap (λ (v : Deed). v.reply.at.node) same ∙ first))
      by (Responds e) ok a (inr i) h = h i
      by _ ok a b h = h b

  -- ---- the law, line by line

  -- what is told is what the machine answers where it acted
  pub asked_law : (past : List Line) (stamp : Stamp) (c slot : ℕ) (named : At) (given : Answer) → Grown head past → AllAsked past
      → Fits head.osts out lost past
      → Tells past (turn stamp (Client c)) c slot named given → out (who_is c (printed past)) ≡ false
      → right_answer out lost head.osts (printed past) (turn stamp (Client c)) c slot named (same_turn named (turn stamp (Client c)))
      ≡ Some given
  asked_law past stamp c slot named given g a f tells out_not =
      let d = tells.deed in
      let life = present_is head c past g in
      let whose : tells.reply.who ≡ who_is c (printed past) = ap (λ (v : ReplyTo). v.who) (sym tells.is) ∙ tells.who ∙ sym life in
      let stands = same_stands (lost 0) d.reply tells.reply tells.is
      (heard_stands out lost 0 past c tells.flight tells.reply f.heard tells.hears (ap out whose ∙ out_not)) in
      let found = answered_there past d (first_at head past d g tells.acted) g a f (acted_whole 0 past d tells.acted) tells.plain stands in
      subst (λ b. right_answer out lost head.osts (printed past) (turn stamp (Client c)) c slot named b ≡ Some given)
      (sym (told_elsewhere head past stamp c slot named given g tells))
      (subst (λ (o : Option ℕ). heard_answer out lost head.osts (printed past) named (who_is c (printed past)) o ≡ Some given)
      (sym tells.heard)
      (subst (λ (v : Answer). answer_there out lost head.osts (printed past) named (who_is c (printed past)) d.reply.xid.0 ≡ Some v)
      tells.answer
      (subst (λ (v : At). answer_there out lost head.osts (printed past) v (who_is c (printed past)) d.reply.xid.0
      ≡ Some (told_so d.reply.answer)) tells.turn_is
      (subst (λ (v : Who). answer_there out lost head.osts (printed past) d.reply.at v d.reply.xid.0 ≡ Some (told_so d.reply.answer))
      (tells.who ∙ sym life) found))))

  -- a life that isn't out wasn't evicted, once a close has shown all
  pub present : (past : List Line) (c : ℕ) → Grown head past → Fits head.osts out lost past → closing_of head.clients (only 0 past) ≡ []
      → out (who_is c (printed past)) ≡ false → Evicted (only 0 past) (life_at c past) → ⊥
  present past c g f quiet stays gone = stays_in out 0 (life_at c past) (ap out (sym (present_is head c past g)) ∙ stays) head past g f.gone
      quiet gone

  -- each transaction that stands and wrote what the operation looks at is committed, or the client's life heard of it
  abbrev pub AllSeen : List Line → ℕ → Operation → Type 0
  AllSeen past c o =
      (p : Part) → In p (touches head.osts (tree_at head.osts 0 past) o) → (e : Deed) → Acted (only 0 past) e → IsMade e
      → Stands head.osts (only 0 past) e
      → Apart e.writes p ⊎ ((e.reply.txn.0 ≤ (committed_at 0 past).0) ⊎ SawBy past c e.reply.txn.0)

  -- so all that its answer rests on stands
  pub known_stands : (past : List Line) (c : ℕ) (o : Operation) → Grown head past → Fits head.osts out lost past
      → out (who_is c (printed past)) ≡ false → AllSeen past c o
      → (e : Deed) → Acted (only 0 past) e → IsMade e → Stands head.osts (only 0 past) e
      → meet e.writes (touches head.osts (tree_at head.osts 0 past) o) ≡ true → lost 0 e.reply.txn.0 ≡ false
  known_stands past c o g f stays saw e acted made standing m =
      let r = any_true (λ (p : Part). list_any (λ w. meets w p) e.writes) (touches head.osts (tree_at head.osts 0 past) o) m
      in by r.0 r.2 (saw r.0 r.1 e acted made standing)
    where
      clash : (ws : List Part) (p : Part) → Apart ws p → list_any (λ w. meets w p) ws ≡ true → ⊥
      clash [] p h q = absurd (cc)
      clash (w ∷ ws) p h q = clash ws p h.1 (subst (λ (b : Bool). (b || list_any (λ w. meets w p) ws) ≡ true) h.0 q)

      by : (p : Part) → list_any (λ w. meets w p) e.writes ≡ true → Apart e.writes p
          ⊎ ((e.reply.txn.0 ≤ (committed_at 0 past).0) ⊎ SawBy past c e.reply.txn.0) → lost 0 e.reply.txn.0 ≡ false
      by p q (inl apart) = absurd (clash e.writes p apart q)
      by p q (inr (inl le)) = committed_stands head lost past g f.committed e.reply.txn.0 (listed head 0 past e g acted made).made standing
          le
      by p q (inr (inr saw)) = one_stands (lost 0) saw.reply.seen e.reply.txn.0
          (heard_stands out lost 0 past c saw.flight saw.reply f.heard saw.heard
          (ap out (saw.of ∙ sym (present_is head c past g)) ∙ stays)).1 saw.seen

  -- and of one that reads, what the table answers is what the machine does
  pub reads_law : (past : List Line) (c : ℕ) (o : Operation) (a : Answer) → Grown head past → AllAsked past → Fits head.osts out lost past
      → out (who_is c (printed past)) ≡ false
      → IsReading o.op → a ≡ answer head.osts (tree_at head.osts 0 past) o → AllSeen past c o → names_answer head.osts (machine past) o
      ≡ as_told (machine past) a
  reads_law past c o a g asks f stays reads is saw =
      let seen_all = seen_stands head lost (touches head.osts (tree_at head.osts 0 past) o) past g (known_stands past c o g f stays saw) in
      let same = alike_op past o g asks f (subst (λ (ps : List Part). Every (λ n. keep lost n ≡ true)
      (seen head.osts (whole head.osts) (items head past) ps)) (sym (tree_alike head past o g).touches) seen_all) in
      let still = readings_change_nothing head.osts (machine past).tree o reads in
      (machine_is_table head.osts (machine past) o (λ c. absurd (let s = still in cc))).0
      ∙ ap (as_told (machine past)) (sym (is ∙ same.answer))

  -- what is told of what is known is what the machine answers then
  pub knew_law : (past : List Line) (stamp : Stamp) (c slot : ℕ) (named : At) (given : Answer) (work : Option Work) → Grown head past
      → AllAsked past → Fits head.osts out lost past → closing_of head.clients (only 0 past) ≡ []
      → KnownOk past (turn stamp (Client c)) c slot named given work → out (who_is c (printed past)) ≡ false
      → right_answer out lost head.osts (printed past) (turn stamp (Client c)) c slot named (same_turn named (turn stamp (Client c)))
      ≡ Some given
  knew_law past stamp c slot named given work g a f quiet knew out_not =
      let k = known_operation (notes_at c past) knew.running.file knew.running.call given knew.known in
      let who = who_is c (printed past) in
      let o : Operation = record { number = none; who = who; op = k.0 } in
      let stays = present past c g f quiet out_not in
      let r = right head past g c none who knew.running.file knew.running.call k.0 given knew.known k.1 stays in
      subst (λ b. right_answer out lost head.osts (printed past) (turn stamp (Client c)) c slot named b ≡ Some given)
      (sym (own_turn named (turn stamp (Client c)) knew.of_turn))
      (ap (λ (i : Option ActOf). answer_to head.osts (machine past) i) (known_act head past c slot knew.running k.0 g knew.call k.1)
      ∙ ap (λ (v : Answer). Some v) (reads_law past c o given g a f out_not r.reads r.same
      (known_saw head past g c none who knew.running.file knew.running.call k.0 given knew.known k.1 stays)
      ∙ told_plain (machine past) given r.plain
      ∙ reading_told k.0 given r.reads (subst (λ (v : Answer). answer_fits k.0 v ≡ true) (sym r.same)
      (answers_fit head.osts (tree_at head.osts 0 past) o))))
