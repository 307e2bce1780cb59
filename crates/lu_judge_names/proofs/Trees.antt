-- The names that are kept show what the laws call the contents.
use Rattle.std.proofs.Common.{◌≡◌, ℕ, ◌<◌, max, Bool, true, false, not, List, [], ◌∷◌, map, refl, ap, ◌∙◌, sym, arith}
use Rattle.std.specs.Prelude.{◌&&◌, nat_lt, if◌then◌else◌, Option, Some, None}
use Rattle.std.proofs.lemmas.Bool.{lt-ltb}
use Rattle.lu_base.specs.declared.ids.At.{At}
use Rattle.lu_base.specs.declared.ids.Txn.{Txn as TxnOf}
use Rattle.lu_base.specs.declared.ids.Who.{Who}
use Rattle.lu_msg.specs.declared.answers.Answer.{Answer}
use Rattle.lu_msg.specs.declared.operations.Op.{Op}
use Rattle.lu_trace.specs.declared.entries.Entry.{Entry}
use Rattle.lu_trace.specs.declared.entries.Entry.TheVariants.{Txn, Evict}
use Rattle.lu_spec_machine.specs.Tree.{Tree}
use Rattle.lu_spec_machine.specs.Footprint.{Operation, empty, grants}
use Rattle.lu_spec_machine.specs.Laws.{Alike}
use Rattle.lu_spec_machine.specs.Removal.{Item, Acts, Forgets, pick, contents as contents_of}
use Rattle.lu_spec_machine.specs.Trim.{trimmed, Above, Rising}
use Rattle.lu_spec_machine.proofs.Trim.{unseen}
use Rattle.lu_spec_laws.specs.Words.Pasts.{Past, is_target}
use Rattle.lu_spec_laws.specs.Words.Requests.{asked}
use Rattle.lu_spec_laws.specs.Words.Asked.{wanted}
use Rattle.lu_spec_laws.specs.Words.Lost.{is_lost}
use Rattle.lu_spec_laws.specs.Words.Standing.{executed, is_next, tree_of, contents}
use Rattle.lu_spec_laws.specs.Words.Seen.{writes_of, touches_of}
use Rattle.lu_judge_names.specs.Events.{Marked, items, with_act, marked}
use Rattle.lu_judge_names.specs.Names.{NamesState, acted, changed_by, names_of, state_writes, state_touches, state_wants}
use Rattle.lu_judge_names.specs.Contents.{Held, ShowsHeld}
use Rattle.lu_judge_names.proofs.Risen.{rising_items, rising_pick}

abbrev pub stands : (ℕ → Bool) → ℕ → Bool
stands lost n = not (lost n)

-- ---- the contents are what the standing items leave

tree_act : (osts : ℕ) (lost : ℕ → Bool) (b : Bool) (number : TxnOf) (who : Who) (op : Option Op) (tree : Tree) (is : List Item)
    → lost number.0 ≡ b → tree ≡ contents_of osts empty (pick (stands lost) is)
    → (if not b then executed osts tree number who op else tree) ≡ contents_of osts empty (pick (stands lost) (with_act number who op is))
tree_act osts lost true number who None tree is e same = same
tree_act osts lost false number who None tree is e same = same
tree_act osts lost true number who (Some o) tree is e same = rw e same
tree_act osts lost false number who (Some o) tree is e same = rw (e, same) refl

tree_if : (osts : ℕ) (lost : ℕ → Bool) (here next b : Bool) (one two : Tree) (is others : List Item) → (if not b then one else two)
    ≡ contents_of osts empty (pick (stands lost) is) → two ≡ contents_of osts empty (pick (stands lost) others)
    → (if here && (not b && next) then one else two) ≡ contents_of osts empty (pick (stands lost) (if here && next then is else others))
tree_if osts lost true true true one two is others p q = p
tree_if osts lost true true false one two is others p q = p
tree_if osts lost true false true one two is others p q = q
tree_if osts lost true false false one two is others p q = q
tree_if osts lost false next b one two is others p q = q

evict_if : (osts : ℕ) (lost : ℕ → Bool) (here : Bool) (one two : Tree) (is others : List Item) → one
    ≡ contents_of osts empty (pick (stands lost) is) → two ≡ contents_of osts empty (pick (stands lost) others)
    → (if here then one else two) ≡ contents_of osts empty (pick (stands lost) (if here then is else others))
evict_if osts lost true one two is others p q = p
evict_if osts lost false one two is others p q = q

tree_line : (osts : ℕ) (lost : ℕ → Bool) (past : Past) (here : At) (e : Entry) → tree_of osts lost past
    ≡ contents_of osts empty (pick (stands lost) (items past))
    → tree_of osts lost (record { at = here; entry = e } ∷ past)
    ≡ contents_of osts empty (pick (stands lost) (items (record { at = here; entry = e } ∷ past)))
tree_line osts lost past here (Txn number who xid seen answer) is =
    tree_if osts lost (is_target 0 here.node) (is_next 0 past number.0) (lost number.0) _ _ _ _
    (tree_act osts lost (lost number.0) number who (asked past 0 who xid.0) (tree_of osts lost past) (items past) refl is) is
tree_line osts lost past here (Evict who cause) is = evict_if osts lost (is_target 0 here.node) _ _ (Forgets who ∷ items past) (items past)
    (rw is refl) is
tree_line osts lost past here _ is = is

tree_is : (osts : ℕ) (lost : ℕ → Bool) (past : Past) → tree_of osts lost past ≡ contents_of osts empty (pick (stands lost) (items past))
tree_is osts lost [] = refl
tree_is osts lost (l ∷ past) = tree_line osts lost past l.at l.entry (tree_is osts lost past)

-- ---- the names are what they leave, without the files that have left

record Leaves (osts : ℕ) (lost : ℕ → Bool) (is : List Item) (k : NamesState) : Type 0 where
  count : k.tree.osts ≡ osts
  tree : k.tree.tree ≡ trimmed osts (pick (stands lost) is)
  below : (n : ℕ) → Above is n → max 1 k.greatest < n

leaves_act : (osts : ℕ) (lost : ℕ → Bool) (a : Operation) (is : List Item) (k : NamesState) (b : Bool) → lost a.number.0 ≡ b
    → Above is a.number.0 → Leaves osts lost is k → Leaves osts lost (Acts a ∷ is) (if b then k else acted k a)
leaves_act osts lost a is k true e above l = record {
  count = l.count;
  tree = rw e l.tree;
  below = λ n h. l.below n h.1;
}
leaves_act osts lost a is k false e above l =
    let next : nat_lt (max 1 k.greatest) a.number.0 ≡ true = lt-ltb (max 1 k.greatest) a.number.0 (l.below a.number.0 above) in
    rw next (record {
      count = l.count;
      tree = rw (e, l.count, l.tree) refl;
      below = λ n h. let one : max 1 k.greatest < n = l.below n h.1 in let two : a.number.0 < n = h.0 in omega arith;
    })

leaves : (osts : ℕ) (lost : ℕ → Bool) (is : List Item) → Rising is → Leaves osts lost is (names_of osts (map (marked lost) is))
leaves osts lost [] r = record { count = refl; tree = refl; below = λ n h. omega arith }
leaves osts lost (Acts a ∷ is) r = leaves_act osts lost a is (names_of osts (map (marked lost) is)) (lost a.number.0) refl r.0
    (leaves osts lost is r.1)
leaves osts lost (Forgets who ∷ is) r =
    let l = leaves osts lost is r in
    record { count = l.count; tree = rw l.tree refl; below = λ n h. l.below n h }

-- ---- whatever the items, the number of object storage targets stays

osts_if : (b : Bool) (k other : NamesState) → other.tree.osts ≡ k.tree.osts → (if b then k else other).tree.osts ≡ k.tree.osts
osts_if true k other is = refl
osts_if false k other is = is

osts_next : (b : Bool) (k other : NamesState) → other.tree.osts ≡ k.tree.osts → (if b then other else k).tree.osts ≡ k.tree.osts
osts_next true k other is = is
osts_next false k other is = refl

osts_changed : (k : NamesState) (i : Item) (lost : Bool) → (changed_by k i lost).tree.osts ≡ k.tree.osts
osts_changed k (Acts a) lost = osts_if lost k (acted k a) (osts_next (nat_lt (max 1 k.greatest) a.number.0) k _ refl)
osts_changed k (Forgets who) lost = refl

pub osts_of : (osts : ℕ) (ms : List Marked) → (names_of osts ms).tree.osts ≡ osts
osts_of osts [] = refl
osts_of osts (m ∷ older) = osts_changed (names_of osts older) m.item m.lost ∙ osts_of osts older

-- ---- footprints

module _ (osts : ℕ) (h : Held) (past : Past) (shows : ShowsHeld osts h past) where
  shown : Leaves osts (is_lost past 0) (items past) h.names
  shown =
      let named : h.names ≡ names_of osts (map (marked (is_lost past 0)) (items past)) = shows.left ∙ ap (names_of osts) shows.all in
      rw named (leaves osts (is_lost past 0) (items past) (rising_items past))

  same : (a : Operation) → Alike osts (contents osts past) h.names.tree.tree a
  same a =
      rw (shown.tree, tree_is osts (is_lost past 0) past)
      (unseen osts (pick (stands (is_lost past 0)) (items past)) (rising_pick (stands (is_lost past 0)) (items past) (rising_items past)) a)

  pub writes_shown : (number : TxnOf) (who : Who) (op : Option Op) → state_writes h.names.tree number who op
      ≡ writes_of osts 0 past number who op
  writes_shown number who None = refl
  writes_shown number who (Some o) = rw shown.count (sym (same (record { number = number; who = who; op = o })).writes)

  pub touches_shown : (number : TxnOf) (who : Who) (op : Option Op) (answer : Answer) → state_touches h.names.tree number who op
      ≡ touches_of osts 0 past number who op answer
  touches_shown number who None answer = refl
  touches_shown number who (Some o) answer = rw shown.count (sym (same (record { number = number; who = who; op = o })).touches)

  pub wants_shown : (who : Who) (op : Option Op) → state_wants h.names.tree who op ≡ wanted osts past who op
  wants_shown who None = refl
  wants_shown who (Some o) =
      let a : Operation = record { number = record { 0 = 0 }; who = who; op = o } in
      ap (λ (n : ℕ). grants n h.names.tree.tree a) shown.count ∙ sym (same a).grants
