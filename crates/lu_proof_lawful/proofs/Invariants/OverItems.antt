-- What the transactions that stand leave is had by going over them, the oldest first; and it holds the names that the tree holds.
use Rattle.std.proofs.Common.{◌≡◌, ℕ, zero, suc, ◌+◌, ◌<◌, ◌≤◌, List, [], ◌∷◌, inl, inr, refl, ap, ◌∙◌, arith}
use Rattle.lu_base.specs.declared.ids.Who.{Who}
use Rattle.lu_spec_machine.specs.Tree.{Tree}
use Rattle.lu_spec_machine.specs.Footprint.{Operation, empty, after, forget}
use Rattle.lu_spec_machine.specs.Removal.{Item, Acts, Forgets, contents}
use Rattle.lu_spec_entries.specs.Carried.{Deed}
use Rattle.lu_spec_entries.specs.Words.{Line}
use Rattle.lu_spec_target.specs.Phase.{first_of}
use Rattle.lu_proof_lawful.specs.Covered.TargetStates.{server_of}
use Rattle.lu_proof_lawful.specs.Covered.Heads.{Head}
use Rattle.lu_proof_lawful.proofs.Preconditions.Guards.{In}
use Rattle.lu_proof_lawful.proofs.Invariants.Groups.{ItemOk, AllItems, ItemsFall, items_of, HoldsAt}
use Rattle.lu_proof_lawful.proofs.Invariants.TargetGroups.{Acted, IsMade}

-- an act among the items is of a deed of that number
pub item_in : (osts : ℕ) (past : List Line) (is : List Item) → AllItems osts past is → (b : Operation) → In (Acts b) is → (e : Deed)
    × Acted past e × IsMade e × (e.reply.txn.0 ≡ b.number.0)
item_in osts past [] all b i = absurd i
item_in osts past (Forgets who ∷ is) all b (inl e) = absurd (cc)
item_in osts past (Forgets who ∷ is) all b (inr i) = item_in osts past is all b i
item_in osts past (Acts a ∷ is) all b (inl e) = let same : a ≡ b = cc
    in (all.0.deed, all.0.acted, all.0.made, ap (λ (x : Operation). x.number.0) (all.0.operates ∙ same))
item_in osts past (Acts a ∷ is) all b (inr i) = item_in osts past is all.1 b i

-- what holds of the empty tree, and stays after each act under a greater number and after each life that leaves, holds of what they leave
module _ (head : Head) (past : List Line) (P : ℕ → Tree → Type 0) (start : (n : ℕ) → 1 ≤ n → P n empty)
    (acts : (is : List Item) (a : Operation) (n : ℕ) → ItemOk head.osts past is a → n < a.number.0 → P n (contents head.osts empty is)
    → P a.number.0 (after head.osts (contents head.osts empty is) a))
    (leaves : (n : ℕ) (t : Tree) (who : Who) → P n t → P n (forget t who)) (wide : (n m : ℕ) (t : Tree) → n ≤ m → P n t → P m t) where
  pub over_items : (is : List Item) → AllItems head.osts past is → ItemsFall is → (top : ℕ) → 1 ≤ top
      → ((b : Operation) → In (Acts b) is → (1 < b.number.0) × (b.number.0 ≤ top)) → P top (contents head.osts empty is)
  over_items [] all f top le h = start top le
  over_items (Forgets who ∷ is) all f top le h = leaves top (contents head.osts empty is) who
      (over_items is all f top le (λ b i. h b (inr i)))
  over_items (Acts a ∷ is) all f top le h =
      let own = h a (inl refl) in
      wide a.number.0 top (after head.osts (contents head.osts empty is) a) own.1
      (by a.number.0 refl own.0 (λ n positive low. over_items is all.1 f.1 n positive (λ b i. ((h b (inr i)).0, low b i))))
    where
      by : (n : ℕ) → a.number.0 ≡ n → 1 < n → ((m : ℕ) → 1 ≤ m → ((b : Operation) → In (Acts b) is → b.number.0 ≤ m)
          → P m (contents head.osts empty is)) → P a.number.0 (after head.osts (contents head.osts empty is) a)
      by zero e lt ih = absurd (omega (arith, lt))
      by (suc m) e lt ih = acts is a m all.0 (omega (arith, e)) (ih m (omega (arith, lt)) (λ b i. let x = f.0 b i in omega (arith, x, e)))

  -- so of what all of them leave, up to the greatest number so far
  pub over_now : HoldsAt head past → P (first_of (server_of head.osts past).boot + (server_of head.osts past).count)
      (contents head.osts empty (items_of head.osts past))
  over_now h = over_items (items_of head.osts past) h.history.items h.history.items_fall
      (first_of (server_of head.osts past).boot + (server_of head.osts past).count) (let x = h.phase.low in omega (arith, x)) each
    where
      each : (b : Operation) → In (Acts b) (items_of head.osts past) → (1 < b.number.0)
          × (b.number.0 ≤ first_of (server_of head.osts past).boot + (server_of head.osts past).count)
      each b i =
          let r = item_in head.osts past (items_of head.osts past) h.history.items b i in
          let number = r.3 in
          let high = (h.done.numbers r.0 r.1 r.2).0 in
          let boot = (h.done.boots r.0 r.1).0 in
          let low = h.history.last r.0 r.1 r.2 in
          (omega (arith, number, high, boot), omega (arith, number, low))
