-- Lists of lives in order, as the rows have them and as the journal's slots give them.
use Rattle.std.proofs.Common.{◌≡◌, suc, ◌&&◌, ◌||◌, Bool, true, false, cond, List, [], ◌∷◌, ◌++◌, filter, Some, None, refl, sym, ap, subst}
use Rattle.std.proofs.Common.{◌∙◌, arith}
use Rattle.std.specs.Prelude.{if◌then◌else◌, not, All, AllPairs}
use Rattle.std.specs.List.{list_any}
use Rattle.std.specs.Option.{is_some}
use Rattle.std.proofs.lemmas.Bool.Decides.{nat_tests}
use Rattle.lu_base.specs.declared.ids.Who.{Who}
use Rattle.lu_txn.specs.declared.slots.Slot.{Slot as SlotOf}
use Rattle.lu_txn.specs.Slots.{is_before, is_of, slot_of, lives_of, empty, with_life as slot_with, without_life as slot_gone}
use Rattle.lu_txn.specs.Slots.{with_lives as slots_with, without_lives as slots_gone}
use Rattle.lu_txn.proofs.SlotLaws.{Before, first_before, rest_rises}
use Rattle.lu_spec_entries.specs.Words.{same_life}
use Rattle.lu_spec_target.specs.Lives.{is_life, life_before, with_life, with_lives, without_lives}
use Rattle.lu_target_refines.proofs.Slots.{never, one_life, same_self, same_back}
use Rattle.lu_target_refines.proofs.Rising.{IsOrder, AllAfter, Rises, found, one_list, put, rises_put, rises_filter}

-- ---- the order

later : (a b c : Who) → life_before a b ≡ true → life_before b c ≡ true → life_before a c ≡ true
later a b c = grind (arith, nat_tests)

apart : (a b : Who) → life_before a b ≡ true → same_life a b ≡ false
apart a b = grind (arith, nat_tests)

either : (a b : Who) → same_life a b ≡ false → life_before a b ≡ false → life_before b a ≡ true
either a b = grind (arith, nat_tests)

not_back : (a b : Who) → life_before a b ≡ true → life_before b a ≡ false
not_back a b = grind (arith, nat_tests)

pub lives_order : IsOrder same_life life_before
lives_order = record {
  own = same_self;
  back = same_back;
  through = λ a b c e. ap (λ who. same_life who c) (one_life a b e);
  apart = apart;
  later = later;
  beside = λ a b c e. ap (λ who. life_before who c) (one_life a b e);
  either = either;
}

pub rises_from : (lives : List Who) → AllPairs Before lives → Rises life_before lives
rises_from [] pairs = tt
rises_from (who ∷ lives) pairs = (after_from who lives (first_before who lives pairs), rises_from lives (rest_rises who lives pairs)) where
  after_from : (w : Who) (xs : List Who) → All (Before w) xs → AllAfter life_before w xs
  after_from w [] all = tt
  after_from w (x ∷ xs) all = (all 0 x (omega arith), after_from w xs (λ k d within. all (suc k) d (omega arith)))

-- ---- what is in a list of lives

pub any_append : {A : Type 0} (test : A → Bool) (xs ys : List A) → list_any test (xs ++ ys) ≡ (list_any test xs || list_any test ys)
any_append test [] ys = refl
any_append test (x ∷ xs) ys = by (test x) (any_append test xs ys) where
  by : (v : Bool) → list_any test (xs ++ ys) ≡ (list_any test xs || list_any test ys) → (v || list_any test (xs ++ ys))
      ≡ ((v || list_any test xs) || list_any test ys)
  by true h = refl
  by false h = h

pub or_turned : (a b : Bool) → (a || b) ≡ (b || a)
or_turned true true = refl
or_turned true false = refl
or_turned false true = refl
or_turned false false = refl

or_moved : (a b c : Bool) → (a || (b || c)) ≡ (b || (a || c))
or_moved true true c = refl
or_moved true false c = refl
or_moved false b c = refl

or_all : (a b c : Bool) → (a || (b || c)) ≡ ((a || b) || c)
or_all true b c = refl
or_all false b c = refl

pub or_twice : (a b : Bool) → (a || (a || b)) ≡ (a || b)
or_twice true b = refl
or_twice false b = refl

pub any_with : (test : Who → Bool) (who : Who) (lives : List Who) → list_any test (with_life who lives) ≡ (test who || list_any test lives)
any_with test who [] = refl
any_with test who (w ∷ lives) = by (same_life who w) refl (life_before who w) (any_with test who lives) where
  by : (own : Bool) → same_life who w ≡ own → (first : Bool) → list_any test (with_life who lives) ≡ (test who || list_any test lives)
      → list_any test (if own then w ∷ lives else (if first then who ∷ w ∷ lives else w ∷ with_life who lives))
      ≡ (test who || (test w || list_any test lives))
  by true e first rest = sym (ap (λ life. test life || (test w || list_any test lives)) (one_life who w e)
      ∙ or_twice (test w) (list_any test lives))
  by false e true rest = refl
  by false e false rest = ap (λ more. test w || more) rest ∙ or_moved (test w) (test who) (list_any test lives)

pub any_with_lives : (test : Who → Bool) (more lives : List Who) → list_any test (with_lives more lives)
    ≡ (list_any test more || list_any test lives)
any_with_lives test [] lives = refl
any_with_lives test (who ∷ more) lives =
    any_with_lives test more (with_life who lives)
    ∙ ap (λ rest. list_any test more || rest) (any_with test who lives)
    ∙ or_moved (list_any test more) (test who) (list_any test lives)
    ∙ or_all (test who) (list_any test more) (list_any test lives)

pub life_without : (z : Who) (gone lives : List Who) → is_life z (without_lives gone lives) ≡ (not (is_life z gone) && is_life z lives)
life_without z gone [] = by (is_life z gone) where
  by : (v : Bool) → false ≡ (not v && false)
  by true = refl
  by false = refl
life_without z gone (w ∷ lives) = by (is_life w gone) refl (same_life z w) refl (is_life z gone) refl (life_without z gone lives) where
  moved : same_life z w ≡ true → is_life z gone ≡ is_life w gone
  moved e = ap (λ who. is_life who gone) (one_life z w e)

  by : (left : Bool) → is_life w gone ≡ left → (own : Bool) → same_life z w ≡ own → (out : Bool) → is_life z gone ≡ out
      → is_life z (without_lives gone lives) ≡ (not out && is_life z lives)
      → is_life z (if not left then w ∷ without_lives gone lives else without_lives gone lives) ≡ (not out && (own || is_life z lives))
  by true e true f true g rest = rest
  by true e true f false g rest = absurd (never (sym e ∙ sym (moved f) ∙ g))
  by true e false f out g rest = rest
  by false e true f true g rest = absurd (never (sym g ∙ moved f ∙ e))
  by false e true f false g rest = rw f refl
  by false e false f out g rest = rw f rest

-- ---- rising lists of lives

put_life : (who : Who) (lives : List Who) → with_life who lives ≡ put same_life life_before who lives
put_life who [] = refl
put_life who (w ∷ lives) = by (same_life who w) refl (life_before who w) (put_life who lives) where
  by : (own : Bool) → same_life who w ≡ own → (first : Bool) → with_life who lives ≡ put same_life life_before who lives
      → (if own then w ∷ lives else (if first then who ∷ w ∷ lives else w ∷ with_life who lives))
      ≡ (if own then who ∷ lives else (if first then who ∷ w ∷ lives else w ∷ put same_life life_before who lives))
  by true e first rest = ap (λ life. life ∷ lives) (sym (one_life who w e))
  by false e true rest = refl
  by false e false rest = ap (λ more. w ∷ more) rest

pub rises_with : (who : Who) (lives : List Who) → Rises life_before lives → Rises life_before (with_life who lives)
rises_with who lives rises = subst (Rises life_before) (sym (put_life who lives))
    (rises_put same_life life_before lives_order who lives rises)

pub rises_with_lives : (more lives : List Who) → Rises life_before lives → Rises life_before (with_lives more lives)
rises_with_lives [] lives rises = rises
rises_with_lives (who ∷ more) lives rises = rises_with_lives more (with_life who lives) (rises_with who lives rises)

pub rises_without : (gone lives : List Who) → Rises life_before lives → Rises life_before (without_lives gone lives)
rises_without gone lives rises = rises_filter life_before (λ w. not (is_life w gone)) lives rises

life_found : (z : Who) (lives : List Who) → found same_life z lives ≡ (if is_life z lives then Some z else None)
life_found z [] = refl
life_found z (w ∷ lives) = by (same_life z w) refl (life_found z lives) where
  by : (own : Bool) → same_life z w ≡ own → found same_life z lives ≡ (if is_life z lives then Some z else None)
      → (if own then Some w else found same_life z lives) ≡ (if own || is_life z lives then Some z else None)
  by true e rest = ap Some (sym (one_life z w e))
  by false e rest = rest

-- two of them that have the same lives are one
pub one_lives : (xs ys : List Who) → Rises life_before xs → Rises life_before ys → ((z : Who) → is_life z xs ≡ is_life z ys) → xs ≡ ys
one_lives xs ys one two all =
    one_list same_life life_before lives_order xs ys one two
    (λ z. life_found z xs ∙ ap (λ there. if there then Some z else None) (all z) ∙ sym (life_found z ys))

-- ---- the lives of slots

pub has_slot : (who : Who) (slots : List SlotOf) → is_some (slot_of who slots) ≡ is_life who (lives_of slots)
has_slot who [] = refl
has_slot who (slot ∷ slots) = by (is_of who slot) (same_life who slot.who) (same_back slot.who who) (has_slot who slots) where
  by : (a b : Bool) → a ≡ b → is_some (slot_of who slots) ≡ is_life who (lives_of slots) → is_some (cond a (Some slot) (slot_of who slots))
      ≡ (b || is_life who (lives_of slots))
  by true true e h = refl
  by false false e h = h
  by true false e h = absurd (never e)
  by false true e h = absurd (never (sym e))

pub lives_with : (who : Who) (slots : List SlotOf) → lives_of (slot_with who slots) ≡ with_life who (lives_of slots)
lives_with who [] = refl
lives_with who (slot ∷ slots) = by (is_before slot.who who) refl (is_of who slot) refl (lives_with who slots) where
  by : (past : Bool) → is_before slot.who who ≡ past → (here : Bool) → is_of who slot ≡ here → lives_of (slot_with who slots)
      ≡ with_life who (lives_of slots)
      → lives_of (cond past (slot ∷ slot_with who slots) (cond here (slot ∷ slots) (empty who ∷ slot ∷ slots)))
      ≡ with_life who (slot.who ∷ lives_of slots)
  by true e here f rest =
      let other : same_life who slot.who ≡ false = same_back who slot.who ∙ apart slot.who who e in
      let behind : life_before who slot.who ≡ false = not_back slot.who who e in
      rw (other, behind) (ap (λ more. slot.who ∷ more) rest)
  by false e true f rest = let own : same_life who slot.who ≡ true = same_back who slot.who ∙ f in rw own refl
  by false e false f rest =
      let other : same_life who slot.who ≡ false = same_back who slot.who ∙ f in
      let first : life_before who slot.who ≡ true = either slot.who who f e in
      rw (other, first) refl

pub lives_with_all : (come : List Who) (slots : List SlotOf) → lives_of (slots_with come slots) ≡ with_lives come (lives_of slots)
lives_with_all [] slots = refl
lives_with_all (who ∷ come) slots = lives_with_all come (slot_with who slots) ∙ ap (with_lives come) (lives_with who slots)

-- a list without a life that isn't there
filter_none : (who : Who) (lives : List Who) → AllAfter life_before who lives → filter (λ w. not (same_life w who)) lives ≡ lives
filter_none who [] all = refl
filter_none who (w ∷ lives) all =
    let other : same_life w who ≡ false = same_back w who ∙ apart who w all.0 in
    rw other (ap (λ more. w ∷ more) (filter_none who lives all.1))

pub lives_gone : (who : Who) (slots : List SlotOf) → Rises life_before (lives_of slots) → lives_of (slot_gone who slots)
    ≡ filter (λ w. not (same_life w who)) (lives_of slots)
lives_gone who [] rises = refl
lives_gone who (slot ∷ slots) rises = by (is_of who slot) refl (lives_gone who slots rises.1) where
  by : (here : Bool) → is_of who slot ≡ here → lives_of (slot_gone who slots) ≡ filter (λ w. not (same_life w who)) (lives_of slots)
      → lives_of (cond here slots (slot ∷ slot_gone who slots))
      ≡ (if not here then slot.who ∷ filter (λ w. not (same_life w who)) (lives_of slots)
      else filter (λ w. not (same_life w who)) (lives_of slots))
  by true e rest = sym (filter_none who (lives_of slots) (subst (λ life. AllAfter life_before life (lives_of slots))
      (one_life slot.who who e) rises.0))
  by false e rest = ap (λ more. slot.who ∷ more) rest

filter_twice : (who : Who) (gone lives : List Who) → without_lives gone (filter (λ w. not (same_life w who)) lives)
    ≡ without_lives (who ∷ gone) lives
filter_twice who gone [] = refl
filter_twice who gone (w ∷ lives) = by (same_life w who) (is_life w gone) refl (filter_twice who gone lives) where
  Rest : List Who
  Rest = without_lives gone (filter (λ w. not (same_life w who)) lives)

  by : (own out : Bool) → is_life w gone ≡ out → without_lives gone (filter (λ w. not (same_life w who)) lives)
      ≡ without_lives (who ∷ gone) lives
      → without_lives gone (if not own then w ∷ filter (λ w. not (same_life w who)) lives else filter (λ w. not (same_life w who)) lives)
      ≡ (if not (own || out) then w ∷ without_lives (who ∷ gone) lives else without_lives (who ∷ gone) lives)
  by true out e rest = rest
  by false true e rest = rw e rest
  by false false e rest = rw e (ap (λ more. w ∷ more) rest)

without_nobody : (lives : List Who) → without_lives [] lives ≡ lives
without_nobody [] = refl
without_nobody (w ∷ lives) = ap (λ more. w ∷ more) (without_nobody lives)

pub without_none : (lives : List Who) → without_lives [] lives ≡ lives
without_none lives = without_nobody lives

pub lives_gone_all : (gone : List Who) (slots : List SlotOf) → Rises life_before (lives_of slots) → lives_of (slots_gone gone slots)
    ≡ without_lives gone (lives_of slots)
lives_gone_all [] slots rises = sym (without_none (lives_of slots))
lives_gone_all (who ∷ gone) slots rises =
    let here : lives_of (slot_gone who slots) ≡ filter (λ w. not (same_life w who)) (lives_of slots) = lives_gone who slots rises in
    lives_gone_all gone (slot_gone who slots) (subst (Rises life_before) (sym here)
    (rises_filter life_before (λ w. not (same_life w who)) (lives_of slots) rises))
    ∙ ap (without_lives gone) here
    ∙ filter_twice who gone (lives_of slots)

-- where all lives come after one, it has no slot
pub slot_none_of : (w : Who) (slots : List SlotOf) → AllAfter life_before w (lives_of slots) → slot_of w slots ≡ None
slot_none_of w [] all = refl
slot_none_of w (slot ∷ slots) all =
    let other : is_of w slot ≡ false = same_back slot.who w ∙ apart w slot.who all.0 in
    rw other (slot_none_of w slots all.1)

pub slot_none_after : (w : Who) (slot : SlotOf) (slots : List SlotOf) → life_before w slot.who ≡ true
    → AllAfter life_before slot.who (lives_of slots) → slot_of w (slot ∷ slots) ≡ None
slot_none_after w slot slots first all = slot_none_of w (slot ∷ slots) (first, after_through w slot.who (lives_of slots) first all) where
  after_through : (a b : Who) (lives : List Who) → life_before a b ≡ true → AllAfter life_before b lives → AllAfter life_before a lives
  after_through a b [] e all = tt
  after_through a b (c ∷ lives) e all = (later a b c e all.0, after_through a b lives e all.1)
