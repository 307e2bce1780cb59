-- What is told and wanted at a line is what the law asks there, with the objects as they are when the turn ends.
use Rattle.std.proofs.Common.{◌≡◌, ℕ, suc, ◌+◌, ◌<◌, ◌≤◌, Bool, true, false, List, [], ◌∷◌, ◌++◌, length, map, refl, ap, ◌∙◌, sym, subst}
use Rattle.std.proofs.Common.{arith}
use Rattle.std.specs.Prelude.{◌==◌, ◌&&◌, ◌||◌, not, nat_eq, if◌then◌else◌, ◌↔◌, Option, Some, None}
use Rattle.std.specs.List.{list_any}
use Rattle.lu_base.specs.declared.ids.At.{At}
use Rattle.lu_base.specs.declared.ids.Fid.{Fid}
use Rattle.lu_base.specs.declared.ids.Node.{Node}
use Rattle.lu_base.specs.declared.ids.Node.TheVariants.{Client, Target}
use Rattle.lu_base.specs.declared.ids.Who.{Who}
use Rattle.lu_msg.specs.declared.answers.Answer.TheVariants as told
use Rattle.lu_trace.specs.declared.entries.Entry.{Entry}
use Rattle.lu_trace.specs.declared.entries.Entry.TheVariants.{Told}
use Rattle.lu_trace.specs.declared.entries.Line.{Line}
use Rattle.lu_spec_machine.specs.Machine.{Machine}
use Rattle.lu_spec_laws.specs.Words.Pasts.{Past}
use Rattle.lu_spec_laws.specs.Words.Lives.{who_is}
use Rattle.lu_spec_laws.specs.Words.Calls.{Begun, open_call, file_of}
use Rattle.lu_spec_laws.specs.Words.Glimpses.{to_turn_end, cuts, machine_cut, has_size, peeked}
use Rattle.lu_spec_laws.specs.Laws.Glimpse.{is_size, AreSizes, SizesOn, SizesAt, GlimpseAt, GlimpseOf}
use Rattle.lu_judge_glimpse.specs.declared.counts.Counts.{Counts}
use Rattle.lu_judge_glimpse.specs.declared.sightings.Sightings.{Sightings}
use Rattle.lu_judge_glimpse.specs.Begins.{begun_place, count_in, CountedBy, CountedAt, Counted}
use Rattle.lu_judge_glimpse.specs.Sightings.{since_in}
use Rattle.lu_judge_glimpse.specs.declared.wanted.Wanted.{Wanted}
use Rattle.lu_judge_glimpse.specs.Wanted.{meets, wanted_of, clears}
use Rattle.lu_judge_glimpse.specs.Watched.{SeenIn, SeenOver}
use Rattle.lu_judge_glimpse.specs.Told.{told_call, told_node, told_entry}
use Rattle.lu_judge_glimpse.specs.Shown.{turn_end}
use Rattle.lu_judge_glimpse.proofs.Numbers.{eq_same, eq_not, and_left, and_right, and_true, or_false}

-- ---- what is wanted

pub clears_both : (met : Wanted → Bool) (j : ℕ) (xs ys : List Wanted) → clears met j (xs ++ ys) ≡ (clears met j xs && clears met j ys)
clears_both met j [] ys = refl
clears_both met j (x ∷ xs) ys = ap (λ (v : Bool). (not (x.place == j) || met x) && v) (clears_both met j xs ys)
    ∙ turned (not (x.place == j) || met x) (clears met j xs) (clears met j ys)
  where
    turned : (a b c : Bool) → (a && (b && c)) ≡ ((a && b) && c)
    turned true b c = refl
    turned false b c = refl

abbrev pub one : ℕ → Option Fid → ℕ → ℕ → Wanted
one place file stripe n = record { place = place; file = file; stripe = stripe; size = n }

abbrev pub last : (ℕ → ℕ → Bool) → ℕ → Option Fid → ℕ → ℕ → List Wanted
last known place file n stripe = if known stripe n then [] else one place file stripe n ∷ []

-- of another line nothing is wanted
pub clears_other : (met : Wanted → Bool) (j : ℕ) (known : ℕ → ℕ → Bool) (place : ℕ) (file : Option Fid) (stripe : ℕ) (ns : List ℕ)
    → (place ≡ j → ⊥) → clears met j (wanted_of known place file stripe ns) ≡ true
clears_other met j known place file stripe [] ne = refl
clears_other met j known place file stripe (n ∷ ns) ne = by (known stripe n) (clears_other met j known place file (suc stripe) ns ne)
  where
    by : (v : Bool) → clears met j (wanted_of known place file (suc stripe) ns) ≡ true
        → clears met j (if v then wanted_of known place file (suc stripe) ns else one place file stripe n
        ∷ wanted_of known place file (suc stripe) ns) ≡ true
    by true rest = rest
    by false rest = ap (λ (v : Bool). (not v || met (one place file stripe n)) && clears met j (wanted_of known place file (suc stripe) ns))
        (eq_not place j ne) ∙ rest

-- one more size
pub wanted_more : (known : ℕ → ℕ → Bool) (place : ℕ) (file : Option Fid) (stripe : ℕ) (ns : List ℕ) (n : ℕ)
    → wanted_of known place file stripe (ns ++ n ∷ []) ≡ wanted_of known place file stripe ns
    ++ last known place file n (stripe + length ns)
wanted_more known place file stripe [] n =
    let here : stripe + 0 ≡ stripe = omega arith in
    ap (last known place file n) (sym here)
wanted_more known place file stripe (m ∷ ns) n =
    let next : suc stripe + length ns ≡ stripe + suc (length ns) = omega arith in
    by (known stripe m) (wanted_more known place file (suc stripe) ns n
    ∙ ap (λ (s : ℕ). wanted_of known place file (suc stripe) ns ++ last known place file n s) next)
  where
    by : (v : Bool) → wanted_of known place file (suc stripe) (ns ++ n ∷ []) ≡ wanted_of known place file (suc stripe) ns
        ++ last known place file n (stripe + suc (length ns))
        → (if v then wanted_of known place file (suc stripe) (ns ++ n ∷ []) else one place file stripe m
        ∷ wanted_of known place file (suc stripe) (ns ++ n ∷ []))
        ≡ (if v then wanted_of known place file (suc stripe) ns else one place file stripe m ∷ wanted_of known place file (suc stripe) ns)
        ++ last known place file n (stripe + suc (length ns))
    by true rest = rest
    by false rest = ap (λ (ws : List Wanted). one place file stripe m ∷ ws) rest

-- ---- against the law

module _ (m : Machine) (ms : List Machine) (past : Past) (c slot : ℕ) (file : Option Fid) (known : ℕ → ℕ → Bool) (total place : ℕ)
    (knows : (stripe size : ℕ) → stripe < total → known stripe size
    ≡ (list_any (has_size file stripe size) ms || list_any (nat_eq size) (peeked c slot file stripe past))) where
  abbrev Clear : ℕ → List ℕ → Type 0
  Clear stripe ns = clears (meets m) place (wanted_of known place file stripe ns) ≡ true

  -- one size: it was seen, or the object has it
  size_is : (stripe n : ℕ) → known stripe n ≡ (list_any (has_size file stripe n) ms || list_any (nat_eq n) (peeked c slot file stripe past))
      → is_size (m ∷ ms) past c slot file stripe n ≡ (has_size file stripe n m || known stripe n)
  size_is stripe n is = assoc (has_size file stripe n m) (list_any (has_size file stripe n) ms)
      (list_any (nat_eq n) (peeked c slot file stripe past)) ∙ ap (λ (v : Bool). has_size file stripe n m || v) (sym is)
    where
      assoc : (a b d : Bool) → ((a || b) || d) ≡ (a || (b || d))
      assoc true b d = refl
      assoc false b d = refl

  abbrev left : ℕ → List ℕ → List Wanted
  left stripe ns = wanted_of known place file (suc stripe) ns

  abbrev Here : ℕ → ℕ → List ℕ → Bool → Type 0
  Here stripe n ns v = clears (meets m) place (if v then left stripe ns else one place file stripe n ∷ left stripe ns) ≡ true

  abbrev Are : ℕ → List ℕ → Type 0
  Are stripe ns = AreSizes (m ∷ ms) past c slot file stripe ns

  or_true : (a : Bool) → (a || true) ≡ true
  or_true true = refl
  or_true false = refl

  next_are : (stripe n : ℕ) (ns : List ℕ) (v : Bool) → known stripe n ≡ v → (Clear (suc stripe) ns → Are (suc stripe) ns)
      × (Are (suc stripe) ns → Clear (suc stripe) ns)
      → is_size (m ∷ ms) past c slot file stripe n ≡ (has_size file stripe n m || known stripe n)
      → (Here stripe n ns v → Are stripe (n ∷ ns)) × (Are stripe (n ∷ ns) → Here stripe n ns v)
  next_are stripe n ns true is rest size = (
    λ clear. (size ∙ ap (λ (v : Bool). has_size file stripe n m || v) is ∙ or_true (has_size file stripe n m), rest.0 clear),
    λ are. rest.1 are.1,
  )
  next_are stripe n ns false is rest size =
      let has = has_size file stripe n m in
      let whole : is_size (m ∷ ms) past c slot file stripe n ≡ has_size file stripe n m = size
      ∙ ap (λ (v : Bool). has_size file stripe n m || v) is ∙ or_false (has_size file stripe n m) in
      let first : (not (place == place) || has_size file stripe n m) ≡ has_size file stripe n m =
      ap (λ (v : Bool). not v || has_size file stripe n m) (eq_same place) in (
        λ clear. (
          whole ∙ sym first ∙ and_left (not (place == place) || has) (clears (meets m) place (left stripe ns)) clear,
          rest.0 (and_right (not (place == place) || has) (clears (meets m) place (left stripe ns)) clear),
        ),
        λ are. and_true (not (place == place) || has) (clears (meets m) place (left stripe ns)) (first ∙ sym whole ∙ are.0) (rest.1 are.1),
      )

  sizes_are : (stripe : ℕ) (ns : List ℕ) → stripe + length ns ≤ total → (Clear stripe ns → Are stripe ns)
      × (Are stripe ns → Clear stripe ns)
  sizes_are stripe [] within = (λ clear. tt, λ are. refl)
  sizes_are stripe (n ∷ ns) within =
      next_are stripe n ns (known stripe n) refl (sizes_are (suc stripe) ns (omega (arith, within)))
      (size_is stripe n (knows stripe n (omega (arith, within))))

-- ---- a line

module _ (osts : ℕ) (out : Who → Bool) (s : Sightings) (counts : Counts) (past : Past) (l : Line) (later : List Line)
    (seen : SeenOver s counts osts (λ c slot. cuts c slot l.at past) past) where
  abbrev met : Wanted → Bool
  met = meets (machine_cut osts (to_turn_end l.at later (l ∷ past)))

  call_told : (c slot : ℕ) (sizes : List ℕ) (o : Option Begun)
      → SeenIn s counts (map (machine_cut osts) (cuts c slot l.at past)) (begun_place c slot past)
      (λ file stripe. peeked c slot file stripe past) o
      → length sizes ≤ count_in counts (begun_place c slot past)
      → (clears met (length past) (told_call s out past (length past) (begun_place c slot past) sizes o) ≡ true)
      ↔ SizesOn out osts past l later c slot sizes o
  call_told c slot sizes None here few = (λ clear. tt, λ holds. refl)
  call_told c slot sizes (Some b) here few =
      sizes_are (machine_cut osts (to_turn_end l.at later (l ∷ past))) (map (machine_cut osts) (cuts c slot l.at past)) past c slot
      (file_of b)
      (λ stripe size. since_in s (file_of b) stripe size (begun_place c slot past)) (count_in counts (begun_place c slot past))
      (length past) here 0 sizes
      (omega (arith, few))

  node_told : (slot : ℕ) (sizes : List ℕ) (node : Node) → CountedBy counts past node slot sizes
      → (clears met (length past) (told_node s out past (length past) slot sizes node) ≡ true)
      ↔ SizesAt out osts past l later node slot sizes
  node_told slot sizes (Client c) few = by (out (who_is c past))
    where
      call : (clears met (length past) (told_call s out past (length past) (begun_place c slot past) sizes (open_call c slot past)) ≡ true)
          ↔ SizesOn out osts past l later c slot sizes (open_call c slot past)
      call = call_told c slot sizes (open_call c slot past) (seen c slot) few

      by : (v : Bool) → (clears met (length past) (if v then []
          else told_call s out past (length past) (begun_place c slot past) sizes (open_call c slot past)) ≡ true)
          ↔ (v ≡ false → SizesOn out osts past l later c slot sizes (open_call c slot past))
      by true = (λ clear. λ is. absurd (cc (is)), λ holds. refl)
      by false = (λ clear. λ is. call.0 clear, λ holds. call.1 (holds refl))
  node_told slot sizes (Target t) few = (λ clear. tt, λ holds. refl)

  entry_told : (e : Entry) → CountedAt counts past l.at.node e
      → (clears met (length past) (told_entry s out past (length past) l.at.node e) ≡ true) ↔ GlimpseAt out osts past l later e
  entry_told (Told slot turn (told.Sizes sizes)) few = node_told slot sizes l.at.node few
  entry_told _ few = (λ clear. tt, λ holds. refl)

  pub line_told : Counted counts past l
      → (clears (meets (machine_cut osts (turn_end (l ∷ past) later))) (length past) (told_entry s out past (length past) l.at.node l.entry)
      ≡ true) ↔ GlimpseOf out osts past l later
  line_told few = entry_told l.entry few

-- of another line nothing is wanted
module _ (s : Sightings) (out : Who → Bool) (past : Past) (place : ℕ) (met : Wanted → Bool) (j : ℕ) (ne : place ≡ j → ⊥) where
  other_call : (at : ℕ) (sizes : List ℕ) (o : Option Begun) → clears met j (told_call s out past place at sizes o) ≡ true
  other_call at sizes None = refl
  other_call at sizes (Some b) = clears_other met j (λ stripe size. since_in s (file_of b) stripe size at) place (file_of b) 0 sizes ne

  other_node : (slot : ℕ) (sizes : List ℕ) (node : Node) → clears met j (told_node s out past place slot sizes node) ≡ true
  other_node slot sizes (Client c) = by (out (who_is c past))
    where
      by : (v : Bool) → clears met j (if v then [] else told_call s out past place (begun_place c slot past) sizes (open_call c slot past))
          ≡ true
      by true = refl
      by false = other_call (begun_place c slot past) sizes (open_call c slot past)
  other_node slot sizes (Target t) = refl

  pub other_entry : (node : Node) (e : Entry) → clears met j (told_entry s out past place node e) ≡ true
  other_entry node (Told slot turn (told.Sizes sizes)) = other_node slot sizes node
  other_entry node _ = refl
