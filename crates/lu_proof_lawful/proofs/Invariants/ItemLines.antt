-- What a line leaves of the items and logs of a history.
use Rattle.std.proofs.Common.{◌≡◌, ℕ, ◌+◌, ◌<◌, ◌≤◌, Bool, true, false, List, [], ◌∷◌, ◌++◌, ◌⊎◌, inl, inr, ⊎_elim, refl, subst, ap, ◌∙◌}
use Rattle.std.proofs.Common.{arith}
use Rattle.std.specs.Prelude.{not, nat_lt, ◌&&◌, if◌then◌else◌, filter, map}
use Rattle.std.proofs.lemmas.Bool.{cond_both, le-ltb, and_left, or_from}
use Rattle.lu_base.specs.declared.ids.Node.{Node}
use Rattle.lu_base.specs.declared.ids.Node.TheVariants.{Client, Target}
use Rattle.lu_base.specs.declared.ids.Txn.{Txn as TxnOf}
use Rattle.lu_base.specs.declared.ids.Who.{Who}
use Rattle.lu_msg.specs.declared.operations.Op.{Op}
use Rattle.lu_msg.specs.declared.operations.Op.TheVariants as op
use Rattle.lu_part.specs.declared.parts.Part.{Part}
use Rattle.lu_spec_machine.specs.Tree.{Tree}
use Rattle.lu_spec_machine.specs.Footprint.{Operation, empty, touches, writes}
use Rattle.lu_spec_machine.specs.Removal.{Item, Acts, Forgets, contents}
use Rattle.lu_spec_machine.specs.Seen.{meet, seen}
use Rattle.lu_spec_entries.specs.Carried.{Deed}
use Rattle.lu_spec_entries.specs.Words.{Entry, Close, Line, line}
use Rattle.lu_spec_target.specs.Phase.{first_of}
use Rattle.lu_spec_target.specs.Windows.{has_number}
use Rattle.lu_proof_lawful.specs.Covered.TargetParts.{operation}
use Rattle.lu_proof_lawful.specs.Covered.TargetStates.{none, server_of}
use Rattle.lu_proof_lawful.specs.Covered.TargetCloses.{is_lost, loses}
use Rattle.lu_proof_lawful.specs.Covered.TargetCloses.{kept_numbers as numbers_of}
use Rattle.lu_proof_lawful.proofs.Preconditions.Guards.{In}
use Rattle.lu_proof_lawful.proofs.Preconditions.ClientLines.{IsNames}
use Rattle.lu_proof_lawful.proofs.Preconditions.Lists.{in_append, in_filter}
use Rattle.lu_proof_lawful.proofs.Preconditions.ClientLocks.{in_map}
use Rattle.lu_proof_lawful.proofs.Invariants.Groups.{turn, DeedsRise, AllItems}
use Rattle.lu_proof_lawful.proofs.Invariants.TargetGroups.{Acted, IsMade, Stands}
use Rattle.lu_proof_lawful.proofs.Invariants.ObjectDeeds.{IsWrite}
use Rattle.lu_proof_lawful.proofs.Invariants.ItemLists.{same_act, OpsRise, RiseFrom}

-- ---- items

-- a put or a cut touches nothing of a tree, so it saw nothing of that
pub write_touches : (osts : ℕ) (t : Tree) (number : TxnOf) (who : Who) (o : Op) → IsWrite o
    → touches osts t (record { number = number; who = who; op = o }) ≡ []
write_touches osts t number who (op.Put resource cookie offset bytes) w = refl
write_touches osts t number who (op.Cut resource cookie size) w = refl
write_touches osts t number who o w = absurd w

pub write_names : (o : Op) → IsWrite o → IsNames o → ⊥
write_names (op.Put resource cookie offset bytes) w n = n
write_names (op.Cut resource cookie size) w n = n
write_names o w n = absurd w

pub seen_nothing : (osts : ℕ) (is : List Item) (n : ℕ) → In n (seen osts (contents osts empty) is []) → ⊥
seen_nothing osts [] n i = absurd i
seen_nothing osts (Acts a ∷ is) n i = seen_nothing osts is n i
seen_nothing osts (Forgets who ∷ is) n i = seen_nothing osts is n i

-- what acted stays so, what stands too, and more is committed
pub items_grow : (osts : ℕ) (past new : List Line) → ((d : Deed) → Acted past d → Acted new d)
    → ((n : ℕ) → is_lost osts past n ≡ false → is_lost osts new n ≡ false)
    → (server_of osts past).committed.0 ≤ (server_of osts new).committed.0
    → (is : List Item) → AllItems osts past is → AllItems osts new is
items_grow osts past new acted stands le [] h = tt
items_grow osts past new acted stands le (Acts a ∷ is) h = (
  record {
    deed = h.0.deed;
    acted = acted h.0.deed h.0.acted;
    made = h.0.made;
    stands = stands h.0.deed.reply.txn.0 h.0.stands;
    operates = h.0.operates;
    wrote = h.0.wrote;
    saw = λ n i. ⊎_elim (λ (low : n ≤ (server_of osts past).committed.0). inl (omega arith)) (λ (k : In n h.0.deed.reply.seen). inr k)
        (h.0.saw n i);
  },
  items_grow osts past new acted stands le is h.1,
)
items_grow osts past new acted stands le (Forgets who ∷ is) h = items_grow osts past new acted stands le is h

-- an item is of a deed that stands
pub item_deed : (osts : ℕ) (past : List Line) (is : List Item) (a : Operation) → AllItems osts past is → In (Acts a) is → (d : Deed)
    × Acted past d × IsMade d × Stands osts past d × (operation d ≡ a)
item_deed osts past [] a h i = absurd i
item_deed osts past (Acts b ∷ is) a h (inl e) = (h.0.deed, h.0.acted, h.0.made, h.0.stands, h.0.operates ∙ same_act b a e)
item_deed osts past (Acts b ∷ is) a h (inr i) = item_deed osts past is a h.1 i
item_deed osts past (Forgets who ∷ is) a h (inl e) = absurd (cc)
item_deed osts past (Forgets who ∷ is) a h (inr i) = item_deed osts past is a h i

-- an act that isn't on names writes nothing of a tree
pub names_or : (osts : ℕ) (t : Tree) (number : TxnOf) (who : Who) (o : Op) → IsNames o
    ⊎ (writes osts t (record { number = number; who = who; op = o }) ≡ [])
names_or osts t number who (op.Enqueue resource mode extent) = inr refl
names_or osts t number who (op.Get resource cookie page) = inr refl
names_or osts t number who (op.Put resource cookie offset bytes) = inr refl
names_or osts t number who (op.Cut resource cookie size) = inr refl
names_or osts t number who (op.Size resource) = inr refl
names_or osts t number who o = inl tt

pub meet_none : (ps : List Part) → meet [] ps ≡ false
meet_none [] = refl
meet_none (p ∷ ps) = meet_none ps

-- a number that was seen is that of a deed that stands, which wrote what is touched
pub seen_deed : (osts : ℕ) (past : List Line) (is : List Item) (ps : List Part) (n : ℕ) → AllItems osts past is
    → In n (seen osts (contents osts empty) is ps)
    → (d : Deed) × Acted past d × IsMade d × Stands osts past d × (d.reply.txn.0 ≡ n) × (meet d.writes ps ≡ true)
seen_deed osts past [] ps n h i = absurd i
seen_deed osts past (Forgets who ∷ is) ps n h i = seen_deed osts past is ps n h i
seen_deed osts past (Acts a ∷ is) ps n h i = by (meet (writes osts (contents osts empty is) a) ps) refl i (seen_deed osts past is ps n h.1)
  where
    by : (t : Bool) → meet (writes osts (contents osts empty is) a) ps ≡ t
        → In n (if t then a.number.0 ∷ seen osts (contents osts empty) is ps else seen osts (contents osts empty) is ps)
        → (In n (seen osts (contents osts empty) is ps) → (d : Deed) × Acted past d × IsMade d × Stands osts past d × (d.reply.txn.0 ≡ n)
        × (meet d.writes ps ≡ true))
        → (d : Deed) × Acted past d × IsMade d × Stands osts past d × (d.reply.txn.0 ≡ n) × (meet d.writes ps ≡ true)
    by true e (inl q) more = ⊎_elim
        (λ (names : IsNames a.op). (
          h.0.deed,
          h.0.acted,
          h.0.made,
          h.0.stands,
          ap (λ (x : Operation). x.number.0) h.0.operates ∙ q,
          ap (λ (ws : List Part). meet ws ps) (h.0.wrote names) ∙ e,
        ))
        (λ (none : writes osts (contents osts empty is) a ≡ []). absurd
        (let out = ap (λ (ws : List Part). meet ws ps) none ∙ meet_none ps in cc))
        (names_or osts (contents osts empty is) a.number a.who a.op)
    by true e (inr j) more = more j
    by false e j more = more j

-- ---- logs

pub rises_last : (ds : List Deed) (d : Deed) → DeedsRise ds → ((e : Deed) → In e ds → e.reply.txn.0 < d.reply.txn.0)
    → DeedsRise (ds ++ d ∷ [])
rises_last [] d r h = ((λ e i. absurd i), tt)
rises_last (x ∷ ds) d r h = (
  (λ e i. ⊎_elim (λ (j : In e ds). r.0 e j) (λ (j : In e (d ∷ [])). ⊎_elim
      (λ (q : d ≡ e). subst (λ (y : Deed). x.reply.txn.0 < y.reply.txn.0) q (h x (inl refl))) (λ (z : ⊥). absurd z) j)
      (in_append e ds (d ∷ []) i)),
  rises_last ds d r.1 (λ e i. h e (inr i)),
)

pub rises_filter : (f : Deed → Bool) (ds : List Deed) → DeedsRise ds → DeedsRise (filter f ds)
rises_filter f [] r = tt
rises_filter f (d ∷ ds) r = cond_both (f d) (d ∷ filter f ds) (filter f ds) DeedsRise
    (λ t. ((λ e i. r.0 e (in_filter f e ds i).0), rises_filter f ds r.1)) (λ t. rises_filter f ds r.1)

pub rise_from : (ds : List Deed) (n : ℕ) → DeedsRise ds → ((d : Deed) → In d ds → n < d.reply.txn.0)
    → RiseFrom n (map {A = Deed} {B = ℕ} (λ d. d.reply.txn.0) ds)
rise_from [] n r h = tt
rise_from (d ∷ ds) n r h = (h d (inl refl), rise_from ds d.reply.txn.0 r.1 r.0)

pub ops_rise : (ds : List Deed) → DeedsRise ds → OpsRise (map {A = Deed} {B = Operation} operation ds)
ops_rise [] r = tt
ops_rise (d ∷ ds) r = (
  (λ b i. let e = in_map operation b ds i in let lt = r.0 e.0 e.1
      in subst (λ (x : Operation). d.reply.txn.0 < x.number.0) e.2 lt),
  ops_rise ds r.1,
)

-- number 0 is never lost
pub none_lost : (osts : ℕ) (past : List Line) → is_lost osts past 0 ≡ false
none_lost osts [] = refl
none_lost osts (l ∷ past) = by l.at.node l.entry (none_lost osts past)
  where
    by : (node : Node) (e : Entry) → is_lost osts past 0 ≡ false → is_lost osts (line (turn l.at.stamp node) e ∷ past) 0 ≡ false
    by (Client c) e h = h
    by (Target t) (Close o) h =
        or_from (is_lost osts past 0) (loses (server_of osts past).committed.0 o 0) h
        (and_left (nat_lt (server_of osts past).committed.0 0) (nat_lt 0 (first_of o.boot) && not (has_number 0 (numbers_of o)))
        (le-ltb (server_of osts past).committed.0 0 (omega arith)))
    by (Target t) e h = h
