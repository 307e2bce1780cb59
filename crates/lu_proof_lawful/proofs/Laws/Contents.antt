-- The metadata target's contents, as the laws read them in the printed past of a run: they hold what its tree holds. The laws take lost
-- transactions out of all that was done, the story at each close what that one loses; the opens of lives that leave, which no part holds,
-- go at other lines.
use Rattle.std.proofs.Common.{◌≡◌, ℕ, zero, suc, ◌+◌, ◌*◌, ◌/◌, ◌<◌, ◌≤◌, max, Bool, true, false, List, [], ◌∷◌, Option, Some, refl, sym}
use Rattle.std.proofs.Common.{subst, ap, ◌∙◌, arith}
use Rattle.std.specs.Prelude.{nat_eq, not, ◌&&◌, if◌then◌else◌}
use Rattle.std.proofs.lemmas.Bool.{lt-ltb, or_right}
use Rattle.std.proofs.lemmas.Bool.Decides.{nat_tests}
use Rattle.lu_base.specs.declared.ids.At.{At}
use Rattle.lu_base.specs.declared.ids.Node.{Node}
use Rattle.lu_base.specs.declared.ids.Node.TheVariants.{Client, Target}
use Rattle.lu_base.specs.declared.ids.Stamp.{Stamp}
use Rattle.lu_base.specs.declared.ids.Who.{Who}
use Rattle.lu_msg.specs.declared.operations.Op.{Op}
use Rattle.lu_part.specs.declared.parts.Part.{Part}
use Rattle.lu_spec_machine.specs.Footprint.{Operation, empty, touches, forget, Same}
use Rattle.lu_spec_machine.specs.Laws.{Alike}
use Rattle.lu_spec_machine.specs.Removal.{Item, Acts, Forgets, pick}
use Rattle.lu_spec_machine.specs.Tree.{Tree}
use Rattle.lu_spec_machine.proofs.Footprints.{every_one}
use Rattle.lu_spec_machine.proofs.Stated.{touched_decide, new_from_old}
use Rattle.lu_spec_entries.specs.Carried.{Deed, Outcome}
use Rattle.lu_spec_entries.specs.Words.{Entry, Act, Txn as Made, Boot, Close, Evict, Line, line}
use Rattle.lu_spec_entries.specs.Concerns.{concerns, only}
use Rattle.lu_spec_entries.specs.Printed.{printed}
use Rattle.lu_spec_target.specs.Lives.{lives_of as lives_in}
use Rattle.lu_proof_lawful.specs.Covered.TargetParts.{operation}
use Rattle.lu_proof_lawful.specs.Covered.TargetStates.{tree_at, server_at, server_of}
use Rattle.lu_proof_lawful.specs.Covered.TargetCloses as story
use Rattle.lu_proof_lawful.specs.Covered.TargetCloses.{loses}
use Rattle.lu_proof_lawful.specs.Covered.Heads.{Head}
use Rattle.lu_spec_laws.specs.Words.Pasts.{is_target}
use Rattle.lu_spec_laws.specs.Words.Boots.{greatest}
use Rattle.lu_spec_laws.specs.Words.Lost.{is_lost}
use Rattle.lu_spec_laws.specs.Words.Standing as standing
use Rattle.lu_spec_laws.specs.Words.Standing.{executed, contents}
use Rattle.lu_proof_lawful.proofs.Preconditions.Grown.{Allowed, Grown}
use Rattle.lu_proof_lawful.proofs.Preconditions.Parts.{tree_is}
use Rattle.lu_proof_lawful.proofs.Invariants.Groups.{turn, ItemOk, AllItems, items_of, forgetting}
use Rattle.lu_proof_lawful.proofs.Invariants.TargetGroups.{Acted, IsMade, Stands}
use Rattle.lu_proof_lawful.proofs.Invariants.ItemLists.{same_forgot, pick_forgetting}
use Rattle.lu_proof_lawful.proofs.Invariants.All.{holds}
use Rattle.lu_proof_lawful.proofs.Invariants.Finds.{numbers_at, numbers_up}
use Rattle.lu_proof_lawful.specs.Fits.{WasMade}
use Rattle.lu_proof_lawful.proofs.Laws.Facts.{AskedAt, AllAsked}
use Rattle.lu_proof_lawful.proofs.Laws.Deeds.{TxnIs, txn_is}
use Rattle.lu_proof_lawful.proofs.Laws.Printed.{flip}
use Rattle.lu_proof_lawful.proofs.Laws.Taking.{either_way}
use Rattle.lu_proof_lawful.proofs.Laws.Lost.{lost_whole}
use Rattle.lu_proof_lawful.proofs.Laws.Commits.{made_more, listed}
use Rattle.lu_proof_lawful.proofs.Laws.LostNumbers.{lost_is}
use Rattle.lu_proof_lawful.proofs.Laws.HistoryItems.{whole, keep, same_trans, same_back, same_self, same_forgetting, pick_again}

-- ---- numbers: a boot has fewer than 2 ^ 32 of them

-- a transaction's number is the next one
pub number_is : (head : Head) (past : List Line) (at : At) (d : Deed) → Grown head past → TxnIs head.osts (server_at head.osts 0 past) at d
    → d.reply.txn.0 ≡ numbers_at past + 1
number_is head past at d g is = let n = is.number in omega (arith, n)

pub number_in_boot : (boot n : ℕ) → n < 4294967296 → (boot * 4294967296 + n) / 4294967296 ≡ boot
number_in_boot boot n lt = omega arith

-- no other target is that of the metadata
other : (t : ℕ) → nat_eq (suc t) 0 ≡ false
other t = grind (arith, nat_tests)

pub below_next : (head : Head) (past : List Line) → Grown head past → greatest 0 (printed past) ≤ numbers_at past
below_next head [] g = omega arith
below_next head (l ∷ past) g = at l.at.node l.entry g.0 (below_next head past g.1) (numbers_up head l past g.1 g.0)
  where
    at : (node : Node) (e : Entry) → Allowed head past (turn l.at.stamp node) e → greatest 0 (printed past) ≤ numbers_at past
        → numbers_at past ≤ numbers_at (line (turn l.at.stamp node) e ∷ past)
        → greatest 0 (printed (line (turn l.at.stamp node) e ∷ past)) ≤ numbers_at (line (turn l.at.stamp node) e ∷ past)
    at (Client c) (Made d) k h up = absurd k.ok
    at (Target zero) (Made d) k h up = let n = number_is head past (turn l.at.stamp (Target 0)) d g.1 (txn_is head past l.at.stamp d k)
        in omega (arith, n, h)
    at (Target (suc t)) (Made d) k h up =
        let same : greatest 0 (printed (line (turn l.at.stamp (Target (suc t))) (Made d) ∷ past)) ≡ greatest 0 (printed past) =
        rw (other t) refl in
        omega (arith, h, up, same)
    at (Target t) (Boot b disk) k h up = omega (arith, h, up)
    at _ _ k h up = h

-- ---- contents

pub asked_before : (l : Line) (past : List Line) → AllAsked (l ∷ past) → AllAsked past
asked_before l past = at l.entry
  where
    at : (e : Entry) → AllAsked (line l.at e ∷ past) → AllAsked past
    at (Act d) a = a.1
    at (Made d) a = a.1
    at _ a = a

-- the root's number is no transaction's
numbers_first : (head : Head) (past : List Line) → Grown head past → 1 ≤ numbers_at past
numbers_first head [] g = omega arith
numbers_first head (l ∷ past) g = let low = numbers_first head past g.1 in let up = numbers_up head l past g.1 g.0 in omega (arith, low, up)

pub next_is : (head : Head) (past : List Line) (n : ℕ) → Grown head past → n ≡ numbers_at past + 1 → standing.is_next 0 (printed past) n
    ≡ true
next_is head past n g e = let le = below_next head past g in let first = numbers_first head past g
    in lt-ltb (max 1 (greatest 0 (printed past))) n (omega (arith, le, e, first))

-- ---- the laws' contents with some numbers lost, and the items of the story without them

module _ (head : Head) (lost : ℕ → ℕ → Bool) where
  abbrev items : List Line → List Item
  items past = items_of head.osts (only 0 past)

  abbrev law_tree : List Line → Tree
  law_tree past = standing.tree_of head.osts (lost 0) (printed past)

  abbrev OfItems : List Line → List Item → Type 0
  OfItems past is = (p : Part) → Same (law_tree past) (whole head.osts (pick (keep lost) is)) p

  -- what a close so far lost is lost
  abbrev Loses : List Line → Type 0
  Loses past = (n : ℕ) → WasMade 0 past n → story.is_lost head.osts (only 0 past) n ≡ true → lost 0 n ≡ true

  made_step : (past : List Line) (stamp : Stamp) (d : Deed) → Grown head past
      → TxnIs head.osts (server_at head.osts 0 past) (turn stamp (Target 0)) d → AskedAt 0 past d → OfItems past (items past)
      → OfItems (line (turn stamp (Target 0)) (Made d) ∷ past) (items (line (turn stamp (Target 0)) (Made d) ∷ past))
  made_step past stamp d g is asks h = subst (λ (o : Option Op). Goal (lost 0 n) (standing.is_next 0 (printed past) n) o) (sym asks)
      (subst (λ (b : Bool). Goal (lost 0 n) b (Some d.op)) (sym next) (by (lost 0 n)))
    where
      n : ℕ
      n = d.reply.txn.0

      kept : List Item
      kept = pick (keep lost) (items past)

      next : standing.is_next 0 (printed past) n ≡ true
      next = next_is head past n g (number_is head past (turn stamp (Target 0)) d g is)

      Goal : Bool → Bool → Option Op → Type 0
      Goal gone counts o =
          (p : Part) → Same (if is_target 0 (Target 0) && (not gone && counts)
          then executed head.osts (law_tree past) d.reply.txn d.reply.who o else law_tree past)
          (whole head.osts (if not gone then Acts (operation d) ∷ kept else kept)) p

      by : (gone : Bool) → Goal gone true (Some d.op)
      by true = h
      by false = λ p. new_from_old head.osts (law_tree past) (whole head.osts kept) (operation d) p
          (every_one (Same (law_tree past) (whole head.osts kept)) (touches head.osts (law_tree past) (operation d)) h) (h p)

  -- a close takes out what is lost
  close_step : (past : List Line) (o : Outcome) → Grown head past
      → ((d : Deed) → Acted (only 0 past) d → IsMade d → Stands head.osts (only 0 past) d
      → loses (server_of head.osts (only 0 past)).committed.0 o d.reply.txn.0 ≡ true → lost 0 d.reply.txn.0 ≡ true)
      → OfItems past (items past) → OfItems past (forgetting (lives_in o.gone)
      (pick (λ n. not (loses (server_of head.osts (only 0 past)).committed.0 o n)) (items past)))
  close_step past o g gone h p = subst (λ (is : List Item). Same (law_tree past) (whole head.osts is) p) (sym picked)
      (same_forgetting head.osts (law_tree past) (lives_in o.gone) (pick (keep lost) (items past)) p (h p))
    where
      stays : ℕ → Bool
      stays n = not (loses (server_of head.osts (only 0 past)).committed.0 o n)

      lost_then : (b : Bool) → not b ≡ false → b ≡ true
      lost_then true e = refl
      lost_then false e = absurd (cc)

      picked : pick (keep lost) (forgetting (lives_in o.gone) (pick stays (items past)))
          ≡ forgetting (lives_in o.gone) (pick (keep lost) (items past))
      picked =
          pick_forgetting (keep lost) (lives_in o.gone) (pick stays (items past))
          ∙ ap (forgetting (lives_in o.gone)) (pick_again head.osts (only 0 past) lost stays (items past)
          ((holds head past g).at 0).history.items (λ d a made stands e. gone d a made stands
          (lost_then (loses (server_of head.osts (only 0 past)).committed.0 o d.reply.txn.0) e)))

  evict_step : (t u : Tree) (who : Who) (a b : Bool) → a ≡ b → ((p : Part) → Same t u p) → (p : Part)
      → Same (if a then forget t who else t) (if b then forget u who else u) p
  evict_step t u who true true e h p = same_trans (forget t who) t (forget u who) p (same_back t (forget t who) p (same_forgot t who p))
      (same_trans t u (forget u who) p (h p) (same_forgot u who p))
  evict_step t u who false false e h p = h p
  evict_step t u who true false e h p = absurd (cc)
  evict_step t u who false true e h p = absurd (cc)

  of_items : (past : List Line) → Grown head past → AllAsked past → Loses past → OfItems past (items past)
  of_items [] g a f = λ p. same_self empty p
  of_items (l ∷ past) g a f = at l.at.node l.entry g.0 a f (of_items past g.1 (asked_before l past a)
      (λ n m e. f n (made_more 0 l past n m) (lost_whole head.osts 0 l past n e)))
    where
      P : List Line
      P = only 0 past

      quiet : (node : Node) (e : Entry) → items_of head.osts (line (turn l.at.stamp node) e ∷ P) ≡ items_of head.osts P
          → OfItems past (items past) → OfItems past (items (line (turn l.at.stamp node) e ∷ past))
      quiet node e q h = subst (λ (is : List Item). OfItems past is)
          (sym (either_way (items_of head.osts) (line (turn l.at.stamp node) e) P (concerns 0 node e) q)) h

      at : (node : Node) (e : Entry) → Allowed head past (turn l.at.stamp node) e → AllAsked (line (turn l.at.stamp node) e ∷ past)
          → Loses (line (turn l.at.stamp node) e ∷ past) → OfItems past (items past)
          → OfItems (line (turn l.at.stamp node) e ∷ past) (items (line (turn l.at.stamp node) e ∷ past))
      at (Client c) (Made d) k a f h = absurd k.ok
      at (Target zero) (Made d) k a f h = made_step past l.at.stamp d g.1 (txn_is head past l.at.stamp d k) (a.0 0 refl) h
      at (Target (suc t)) (Made d) k a f h = λ p. rw (other t, flip 0 (suc t) ∙ other t) (h p)
      at (Client c) (Close o) k a f h = absurd k.ok
      at (Target t) (Close o) k a f h = of (nat_eq 0 t) f
        where
          x : Line
          x = line (turn l.at.stamp (Target t)) (Close o)

          of : (b : Bool) → ((n : ℕ) → WasMade 0 past n → story.is_lost head.osts (if b then x ∷ P else P) n ≡ true → lost 0 n ≡ true)
              → OfItems past (items_of head.osts (if b then x ∷ P else P))
          of false f = h
          of true f = close_step past o g.1 (λ d b made stands e. f d.reply.txn.0 (listed head 0 past d g.1 b made).made
              (or_right (story.is_lost head.osts P d.reply.txn.0) (loses (server_of head.osts P).committed.0 o d.reply.txn.0) e)) h
      at (Client c) (Evict who cause) k a f h = absurd k.ok
      at (Target t) (Evict who cause) k a f h = of (nat_eq t 0) (nat_eq 0 t) (flip t 0)
        where
          x : Line
          x = line (turn l.at.stamp (Target t)) (Evict who cause)

          of : (a b : Bool) → a ≡ b → (p : Part) → Same (if a then forget (law_tree past) who else law_tree past)
              (whole head.osts (pick (keep lost) (items_of head.osts (if b then x ∷ P else P)))) p
          of true true e p = evict_step (law_tree past) (whole head.osts (pick (keep lost) (items past))) who true true refl h p
          of false false e p = h p
          of true false e p = absurd (cc)
          of false true e p = absurd (cc)
      at (Client c) e k a f h = quiet (Client c) e refl h
      at (Target t) e k a f h = quiet (Target t) e refl h

-- ---- the contents hold what the target's tree holds

-- no item of the story is lost
none_taken : (head : Head) (past : List Line) → Grown head past → (is : List Item) → AllItems head.osts (only 0 past) is
    → pick (keep (is_lost (printed past))) is ≡ is
none_taken head past g [] all = refl
none_taken head past g (Forgets who ∷ is) all = ap (λ (js : List Item). Forgets who ∷ js) (none_taken head past g is all)
none_taken head past g (Acts a ∷ is) all =
    let ok : ItemOk head.osts (only 0 past) is a = all.0 in
    let number : a.number.0 ≡ ok.deed.reply.txn.0 = ap (λ (o : Operation). o.number.0) (sym ok.operates) in
    let stands : is_lost (printed past) 0 a.number.0 ≡ false = ap (is_lost (printed past) 0) number
    ∙ lost_is head 0 past g ok.deed.reply.txn.0 (listed head 0 past ok.deed g ok.acted ok.made).made ∙ ok.stands in
    ap (λ (b : Bool). if not b then Acts a ∷ pick (keep (is_lost (printed past))) is else pick (keep (is_lost (printed past))) is) stands
    ∙ ap (λ (js : List Item). Acts a ∷ js) (none_taken head past g is all.1)

pub contents_same : (head : Head) (past : List Line) → Grown head past → AllAsked past → (p : Part)
    → Same (contents head.osts (printed past)) (tree_at head.osts 0 past) p
contents_same head past g a p =
    let history = ((holds head past g).at 0).history in
    let taken = none_taken head past g (items_of head.osts (only 0 past)) history.items in
    subst (λ (t : Tree). Same (contents head.osts (printed past)) t p) (sym (tree_is head.osts 0 past))
    (same_trans (contents head.osts (printed past)) (whole head.osts (items_of head.osts (only 0 past)))
    (server_of head.osts (only 0 past)).tree p
    (subst (λ (is : List Item). Same (contents head.osts (printed past)) (whole head.osts is) p) taken
    (of_items head (is_lost (printed past)) past g a (λ n made e. lost_is head 0 past g n made ∙ e) p))
    (history.tree p))

-- so an operation comes out of both alike
pub contents_alike : (head : Head) (past : List Line) → Grown head past → AllAsked past → (o : Operation)
    → Alike head.osts (contents head.osts (printed past)) (tree_at head.osts 0 past) o
contents_alike head past g a o =
    touched_decide head.osts (contents head.osts (printed past)) (tree_at head.osts 0 past) o
    (every_one (Same (contents head.osts (printed past)) (tree_at head.osts 0 past))
    (touches head.osts (contents head.osts (printed past)) o) (contents_same head past g a))
