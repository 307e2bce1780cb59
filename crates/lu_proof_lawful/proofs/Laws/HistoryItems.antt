-- The transactions that stand after a past, as items of the removal law: which of them stay at the end of the trace, and that each of those
-- saw only what stays.
use Rattle.std.proofs.Common.{◌≡◌, ℕ, ◌≤◌, Bool, true, false, List, [], ◌∷◌, ⊎_elim, refl, sym, subst, ap, ◌∙◌}
use Rattle.std.specs.Prelude.{not, if◌then◌else◌}
use Rattle.std.proofs.lemmas.Bool.{cond_both}
use Rattle.lu_base.specs.declared.ids.Who.{Who}
use Rattle.lu_part.specs.declared.parts.Part.{Part}
use Rattle.lu_part.specs.declared.parts.Part.TheVariants as part
use Rattle.lu_spec_machine.specs.Tree.{Tree}
use Rattle.lu_spec_machine.specs.Footprint.{Operation, empty, touches, writes, forget, Every, Same}
use Rattle.lu_spec_machine.specs.Removal as removal
use Rattle.lu_spec_machine.specs.Removal.{Item, Acts, Forgets, pick}
use Rattle.lu_spec_machine.specs.Seen.{meet, seen, SawKept, AllSawKept}
use Rattle.lu_spec_entries.specs.Carried.{Deed}
use Rattle.lu_spec_entries.specs.Words.{Line}
use Rattle.lu_proof_lawful.specs.Covered.TargetParts.{operation}
use Rattle.lu_proof_lawful.specs.Covered.TargetStates.{server_of}
use Rattle.lu_proof_lawful.proofs.Preconditions.ClientLines.{IsNames}
use Rattle.lu_proof_lawful.proofs.Preconditions.Guards.{In}
use Rattle.lu_proof_lawful.proofs.Invariants.Groups.{ItemOk, AllItems, forgetting}
use Rattle.lu_proof_lawful.proofs.Invariants.TargetGroups.{Acted, IsMade, Stands}
use Rattle.lu_proof_lawful.proofs.Invariants.ItemLists.{same_forgot}
use Rattle.lu_proof_lawful.proofs.Invariants.PartsStay.{in_every}

abbrev pub whole : ℕ → List Item → Tree
whole osts is = removal.contents osts empty is

abbrev pub keep : (ℕ → ℕ → Bool) → ℕ → Bool
keep lost n = not (lost 0 n)

-- ---- trees that hold the same: opens are in no part

pub same_trans : (t u v : Tree) (p : Part) → Same t u p → Same u v p → Same t v p
same_trans t u v (part.Name d n) a b = a ∙ b
same_trans t u v (part.List d) a b = a ∙ b
same_trans t u v (part.Attr f) a b = (a.0 ∙ b.0, a.1 ∙ b.1)
same_trans t u v (part.Layout f) a b = a ∙ b
same_trans t u v (part.Parent f) a b = tt
same_trans t u v (part.Bytes f stripe extent) a b = tt

pub same_back : (t u : Tree) (p : Part) → Same t u p → Same u t p
same_back t u (part.Name d n) a = sym a
same_back t u (part.List d) a = sym a
same_back t u (part.Attr f) a = (sym a.0, sym a.1)
same_back t u (part.Layout f) a = sym a
same_back t u (part.Parent f) a = tt
same_back t u (part.Bytes f stripe extent) a = tt

pub same_self : (t : Tree) (p : Part) → Same t t p
same_self t (part.Name d n) = refl
same_self t (part.List d) = refl
same_self t (part.Attr f) = (refl, refl)
same_self t (part.Layout f) = refl
same_self t (part.Parent f) = tt
same_self t (part.Bytes f stripe extent) = tt

pub same_as : (t u v : Tree) (p : Part) → t ≡ u → Same u v p → Same t v p
same_as t u v p e = subst (λ (w : Tree). Same w v p) (sym e)

-- the opens of lives that go
pub same_forgetting : (osts : ℕ) (t : Tree) (gone : List Who) (is : List Item) (p : Part) → Same t (whole osts is) p
    → Same t (whole osts (forgetting gone is)) p
same_forgetting osts t [] is p s = s
same_forgetting osts t (who ∷ gone) is p s = same_forgetting osts t gone (Forgets who ∷ is) p
    (same_trans t (whole osts is) (forget (whole osts is) who) p s (same_forgot (whole osts is) who p))

-- ---- items

module _ (osts : ℕ) (past : List Line) (lost : ℕ → ℕ → Bool) where
  -- what a deed did isn't lost at the end
  abbrev pub Stays : Deed → Type 0
  Stays d = lost 0 d.reply.txn.0 ≡ false

  number_is : (d : Deed) (a : Operation) → operation d ≡ a → a.number.0 ≡ d.reply.txn.0
  number_is d a e = ap (λ (o : Operation). o.number.0) (sym e)

  -- taking out what a close loses, and then what is lost at the end, takes out the latter
  pub pick_again : (k : ℕ → Bool) (is : List Item) → AllItems osts past is
      → ((d : Deed) → Acted past d → IsMade d → Stands osts past d → k d.reply.txn.0 ≡ false → lost 0 d.reply.txn.0 ≡ true)
      → pick (keep lost) (pick k is) ≡ pick (keep lost) is
  pick_again k [] all loses = refl
  pick_again k (Forgets who ∷ is) all loses = ap (λ (js : List Item). Forgets who ∷ js) (pick_again k is all loses)
  pick_again k (Acts a ∷ is) all loses = by (k a.number.0) refl (pick_again k is all.1 loses)
    where
      ok : ItemOk osts past is a
      ok = all.0

      out : k a.number.0 ≡ false → keep lost a.number.0 ≡ false
      out e =
          let n = number_is ok.deed a ok.operates in
          ap (λ (m : ℕ). not (lost 0 m)) n ∙ ap not (loses ok.deed ok.acted ok.made ok.stands (ap k (sym n) ∙ e))

      by : (b : Bool) → k a.number.0 ≡ b → pick (keep lost) (pick k is) ≡ pick (keep lost) is
          → pick (keep lost) (if b then Acts a ∷ pick k is else pick k is) ≡ pick (keep lost) (Acts a ∷ is)
      by true e h = ap (λ (js : List Item). if keep lost a.number.0 then Acts a ∷ js else js) h
      by false e h = h ∙ sym (ap (λ (b : Bool). if b then Acts a ∷ pick (keep lost) is else pick (keep lost) is) (out e))

  -- where each transaction on names that stands and wrote what is touched stays, so does all that is seen
  pub seen_stays : ((d : Deed) → Acted past d → IsNames d.op) → (touched : List Part) (is : List Item) → AllItems osts past is
      → ((d : Deed) → Acted past d → IsMade d → Stands osts past d → meet d.writes touched ≡ true → Stays d)
      → Every (λ n. keep lost n ≡ true) (seen osts (whole osts) is touched)
  seen_stays names touched [] all stay = tt
  seen_stays names touched (Forgets who ∷ is) all stay = seen_stays names touched is all stay
  seen_stays names touched (Acts a ∷ is) all stay =
      let ok : ItemOk osts past is a = all.0 in
      let rest = seen osts (whole osts) is touched in
      let more = seen_stays names touched is all.1 stay in
      cond_both (meet (writes osts (whole osts is) a) touched) (a.number.0 ∷ rest) rest
      (λ (ns : List ℕ). Every (λ n. keep lost n ≡ true) ns)
      (λ m. (
        ap (λ (n : ℕ). not (lost 0 n)) (number_is ok.deed a ok.operates)
            ∙ ap not (stay ok.deed ok.acted ok.made ok.stands (ap (λ (ws : List Part). meet ws touched)
            (ok.wrote (subst (λ (o : Operation). IsNames o.op) ok.operates (names ok.deed ok.acted))) ∙ m)),
        more,
      ))
      (λ m. more)

  -- what is seen are numbers of transactions that stand
  seen_made : (touched : List Part) (n : ℕ) (is : List Item) → AllItems osts past is → In n (seen osts (whole osts) is touched) → (d : Deed)
      × Acted past d × IsMade d × Stands osts past d × (d.reply.txn.0 ≡ n)
  seen_made touched n [] all i = absurd i
  seen_made touched n (Forgets who ∷ is) all i = seen_made touched n is all i
  seen_made touched n (Acts a ∷ is) all i =
      let ok : ItemOk osts past is a = all.0 in
      let rest = seen osts (whole osts) is touched in
      cond_both (meet (writes osts (whole osts is) a) touched) (a.number.0 ∷ rest) rest
      (λ (ns : List ℕ). In n ns → (d : Deed) × Acted past d × IsMade d × Stands osts past d × (d.reply.txn.0 ≡ n))
      (λ m j. ⊎_elim (λ (e : a.number.0 ≡ n). (ok.deed, ok.acted, ok.made, ok.stands, sym (number_is ok.deed a ok.operates) ∙ e))
      (λ (k : In n rest). seen_made touched n is all.1 k) j)
      (λ m j. seen_made touched n is all.1 j)
      i

  -- where what is committed stays, and what a transaction saw that stays, each item that stays saw only what stays
  pub all_saw : (is : List Item) → AllItems osts past is → ((d : Deed) → Acted past d → IsMade d → Stands osts past d
      → d.reply.txn.0 ≤ (server_of osts past).committed.0 → Stays d)
      → ((d : Deed) → Acted past d → IsMade d → Stays d → (n : ℕ) → In n d.reply.seen → lost 0 n ≡ false)
      → AllSawKept osts (whole osts) (keep lost) is
  all_saw [] all committed saw = tt
  all_saw (Forgets who ∷ is) all committed saw = all_saw is all committed saw
  all_saw (Acts a ∷ is) all committed saw = (own, all_saw is all.1 committed saw)
    where
      ok : ItemOk osts past is a
      ok = all.0

      stays_again : (b : Bool) → not b ≡ true → b ≡ false
      stays_again true e = absurd (cc)
      stays_again false e = refl

      own : keep lost a.number.0 ≡ true → SawKept osts (whole osts) (keep lost) is a
      own kept =
          let stays : Stays ok.deed = ap (lost 0) (sym (number_is ok.deed a ok.operates)) ∙ stays_again (lost 0 a.number.0) kept in
          in_every (λ n. keep lost n ≡ true) (seen osts (whole osts) is (touches osts (whole osts is) a))
          (λ n i. ap not (⊎_elim (λ (le : n ≤ (server_of osts past).committed.0). let m =
          seen_made (touches osts (whole osts is) a) n is all.1 i in ap (lost 0) (sym m.4)
          ∙ committed m.0 m.1 m.2 m.3 (subst (λ (k : ℕ). k ≤ (server_of osts past).committed.0) (sym m.4) le))
          (λ (j : In n ok.deed.reply.seen). saw ok.deed ok.acted ok.made stays n j) (ok.saw n i)))
