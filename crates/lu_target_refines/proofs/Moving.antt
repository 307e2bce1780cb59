-- A journal whose lives leave and come, slot by slot, and what its slots then have.
use Rattle.std.proofs.Common.{◌≡◌, ℕ, zero, suc, ◌||◌, Bool, true, false, cond, List, [], ◌∷◌, ◌++◌, filter, Option, Some, None, refl, sym}
use Rattle.std.proofs.Common.{ap, subst, ◌∙◌, arith}
use Rattle.std.specs.Prelude.{if◌then◌else◌, not, IsSome}
use Rattle.std.specs.List.{fold}
use Rattle.std.specs.Option.{is_some}
use Rattle.std.proofs.lemmas.Bool.Decides.{nat_tests}
use Rattle.lu_base.specs.declared.ids.Who.{Who}
use Rattle.lu_msg.specs.declared.messages.Reply.{Reply}
use Rattle.lu_txn.specs.declared.slots.Slot.{Slot as SlotOf}
use Rattle.lu_txn.specs.Slots.{is_of, slot_of, in_slot, reply_at, lives_of, empty, is_before, with_life as slot_with}
use Rattle.lu_txn.specs.Slots.{without_life as slot_gone, with_lives as slots_with, without_lives as slots_gone}
use Rattle.lu_txn.specs.Journals.{JournalState, with_slot, without_slot}
use Rattle.lu_spec_entries.specs.Words.{same_life}
use Rattle.lu_spec_target.specs.Lives.{is_life, life_before, with_life}
use Rattle.lu_target_refines.specs.Batches.{dropped, added, left_by, joined_by, AreOnce, AreAmong, AreApart}
use Rattle.lu_target_refines.proofs.Slots.{never, one_life, same_back}
use Rattle.lu_target_refines.proofs.Rising.{AllAfter, Rises, rises_filter}
use Rattle.lu_target_refines.proofs.LifeLists.{has_slot, lives_gone, lives_with, any_with, rises_with, slot_none_of, slot_none_after}

-- ---- one call: the premises are the clauses of `drop_slot` and of `add_slot`

pub drops : (j new : JournalState) (who : Who) → (IsSome (slot_of who j.slots) → new ≡ without_slot who j)
    → (slot_of who j.slots ≡ None → new ≡ j) → new ≡ dropped j who
drops j new who there absent = by (slot_of who j.slots) refl where
  by : (slot : Option SlotOf) → slot_of who j.slots ≡ slot → new ≡ (if is_some slot then without_slot who j else j)
  by None e = absent e
  by (Some slot) e = there (rw e refl)

pub adds : (j new : JournalState) (who : Who) → (slot_of who j.slots ≡ None → new ≡ with_slot who j)
    → (IsSome (slot_of who j.slots) → new ≡ j) → new ≡ added j who
adds j new who absent there = by (slot_of who j.slots) refl where
  by : (slot : Option SlotOf) → slot_of who j.slots ≡ slot → new ≡ (if is_some slot then j else with_slot who j)
  by None e = absent e
  by (Some slot) e = there (rw e refl)

-- ---- the lives that leave have slots, and each leaves once

abbrev pub left_as : List Who → JournalState → JournalState
left_as gone j = record j { slots = slots_gone gone j.slots; added = []; dropped = j.dropped ++ gone; removed = j.removed ++ gone }

abbrev with_lists : JournalState → List SlotOf → (added dropped removed : List Who) → JournalState
with_lists j slots added dropped removed = record j { slots = slots; added = added; dropped = dropped; removed = removed }

pub append_none : {A : Type 0} (xs : List A) → xs ++ [] ≡ xs
append_none [] = refl
append_none (x ∷ xs) = ap (λ more. x ∷ more) (append_none xs)

pub append_one : {A : Type 0} (xs : List A) (y : A) (ys : List A) → (xs ++ y ∷ []) ++ ys ≡ xs ++ y ∷ ys
append_one [] y ys = refl
append_one (x ∷ xs) y ys = ap (λ more. x ∷ more) (append_one xs y ys)

stays : (who z : Who) (xs : List Who) → same_life who z ≡ false → is_life z xs ≡ true → is_life z (filter (λ w. not (same_life w who)) xs)
    ≡ true
stays who z [] e h = h
stays who z (x ∷ xs) e h = by (same_life x who) refl (same_life z x) refl h (stays who z xs e) where
  by : (own : Bool) → same_life x who ≡ own → (here : Bool) → same_life z x ≡ here → (here || is_life z xs) ≡ true
      → (is_life z xs ≡ true → is_life z (filter (λ w. not (same_life w who)) xs) ≡ true)
      → is_life z (if not own then x ∷ filter (λ w. not (same_life w who)) xs else filter (λ w. not (same_life w who)) xs) ≡ true
  by true f true g h rest = absurd (never (sym f ∙ same_back x who ∙ sym (ap (same_life who) (one_life z x g)) ∙ e))
  by true f false g h rest = rest h
  by false f true g h rest = rw g refl
  by false f false g h rest = rw g (rest h)

still_among : (who : Who) (lives more : List Who) → is_life who more ≡ false → AreAmong lives more
    → AreAmong (filter (λ w. not (same_life w who)) lives) more
still_among who lives [] apart among = tt
still_among who lives (w ∷ more) apart among = by (same_life who w) refl apart (λ h. still_among who lives more h among.1) where
  by : (own : Bool) → same_life who w ≡ own → (own || is_life who more) ≡ false
      → (is_life who more ≡ false → AreAmong (filter (λ w. not (same_life w who)) lives) more)
      → AreAmong (filter (λ w. not (same_life w who)) lives) (w ∷ more)
  by true e h rest = absurd (never h)
  by false e h rest = (stays who w lives e among.0, rest h)

pub left_is : (gone : List Who) (j : JournalState) → j.added ≡ [] → Rises life_before (lives_of j.slots) → AreOnce gone
    → AreAmong (lives_of j.slots) gone → left_by gone j ≡ left_as gone j
left_is [] j none rises once among = sym (ap (λ new. with_lists j j.slots new (j.dropped ++ []) (j.removed ++ [])) (sym none)
    ∙ ap (λ new. with_lists j j.slots j.added new (j.removed ++ [])) (append_none j.dropped)
    ∙ ap (λ new. with_lists j j.slots j.added j.dropped new) (append_none j.removed))
left_is (who ∷ gone) j none rises once among =
    let lives : lives_of (slot_gone who j.slots) ≡ filter (λ w. not (same_life w who)) (lives_of j.slots) = lives_gone who j.slots rises in
    let first : dropped j who ≡ without_slot who j = ap (λ there. if there then without_slot who j else j) (has_slot who j.slots ∙ among.0)
    in
    let nobody : (without_slot who j).added ≡ [] = ap (filter (λ life. not (same_life life who))) none in
    ap (λ new. fold dropped new gone) first
    ∙ left_is gone (without_slot who j) nobody
    (subst (Rises life_before) (sym lives) (rises_filter life_before (λ w. not (same_life w who)) (lives_of j.slots) rises))
    once.1
    (subst (λ left. AreAmong left gone) (sym lives) (still_among who (lives_of j.slots) gone once.0 among.1))
    ∙ ap (λ new. with_lists j (slots_gone gone (slot_gone who j.slots)) [] new ((j.removed ++ who ∷ []) ++ gone))
    (append_one j.dropped who gone)
    ∙ ap (λ new. with_lists j (slots_gone gone (slot_gone who j.slots)) [] (j.dropped ++ who ∷ gone) new) (append_one j.removed who gone)

-- ---- the lives that come have none, and each comes once

abbrev pub joined_as : List Who → JournalState → JournalState
joined_as come j = record j { slots = slots_with come j.slots; added = j.added ++ come }

still_apart : (who : Who) (lives more : List Who) → is_life who more ≡ false → AreApart lives more → AreApart (with_life who lives) more
still_apart who lives [] once apart = tt
still_apart who lives (w ∷ more) once apart = by (same_life who w) refl once (λ h. still_apart who lives more h apart.1) where
  by : (own : Bool) → same_life who w ≡ own → (own || is_life who more) ≡ false
      → (is_life who more ≡ false → AreApart (with_life who lives) more) → AreApart (with_life who lives) (w ∷ more)
  by true e h rest = absurd (never h)
  by false e h rest = (any_with (same_life w) who lives ∙ rw (same_back w who ∙ e) apart.0, rest h)

pub joined_is : (come : List Who) (j : JournalState) → AreOnce come → AreApart (lives_of j.slots) come → joined_by come j ≡ joined_as come j
joined_is [] j once apart = sym (ap (λ new. with_lists j j.slots new j.dropped j.removed) (append_none j.added))
joined_is (who ∷ come) j once apart =
    let first : added j who ≡ with_slot who j = ap (λ there. if there then j else with_slot who j) (has_slot who j.slots ∙ apart.0) in
    ap (λ new. fold added new come) first
    ∙ joined_is come (with_slot who j) once.1
    (subst (λ now. AreApart now come) (sym (lives_with who j.slots)) (still_apart who (lives_of j.slots) come once.0 apart.1))
    ∙ ap (λ new. with_lists j (slots_with come (slot_with who j.slots)) new j.dropped j.removed) (append_one j.added who come)

-- ---- replies: a new slot gives none, and a life without its slot has none

in_empty : (who : Who) (t : ℕ) → in_slot t (Some (empty who)) ≡ None
in_empty who zero = refl
in_empty who (suc zero) = refl
in_empty who (suc (suc zero)) = refl
in_empty who (suc (suc (suc zero))) = refl
in_empty who (suc (suc (suc (suc zero)))) = refl
in_empty who (suc (suc (suc (suc (suc zero))))) = refl
in_empty who (suc (suc (suc (suc (suc (suc zero)))))) = refl
in_empty who (suc (suc (suc (suc (suc (suc (suc zero))))))) = refl
in_empty who (suc (suc (suc (suc (suc (suc (suc (suc t)))))))) = refl

reply_with : (w : Who) (t : ℕ) (who : Who) (slots : List SlotOf) → Rises life_before (lives_of slots) → reply_at w t (slot_with who slots)
    ≡ reply_at w t slots
reply_with w t who [] rises = by (same_life who w) where
  by : (same : Bool) → in_slot t (cond same (Some (empty who)) None) ≡ None
  by true = in_empty who t
  by false = refl
reply_with w t who (slot ∷ slots) rises =
    by (is_before slot.who who) (is_of who slot) refl refl (is_of w slot) refl (same_life who w) refl
    (reply_with w t who slots rises.1) where
      front : is_before slot.who who ≡ false → is_of who slot ≡ false → same_life who w ≡ true → slot_of w (slot ∷ slots) ≡ None
      front e f h = slot_none_after w slot slots (grind (arith, nat_tests)) rises.0

      by : (past here : Bool) → is_before slot.who who ≡ past → is_of who slot ≡ here → (there : Bool) → is_of w slot ≡ there
          → (same : Bool) → same_life who w ≡ same → reply_at w t (slot_with who slots) ≡ reply_at w t slots
          → reply_at w t (cond past (slot ∷ slot_with who slots) (cond here (slot ∷ slots) (empty who ∷ slot ∷ slots)))
          ≡ reply_at w t (slot ∷ slots)
      by true here e f true g same h rest = rw g refl
      by true here e f false g same h rest = rw g rest
      by false true e f there g same h rest = refl
      by false false e f there g true h rest = rw h (in_empty who t ∙ sym (ap (in_slot t) (front e f h)))
      by false false e f there g false h rest = rw h refl

pub reply_with_all : (w : Who) (t : ℕ) (come : List Who) (slots : List SlotOf) → Rises life_before (lives_of slots)
    → reply_at w t (slots_with come slots) ≡ reply_at w t slots
reply_with_all w t [] slots rises = refl
reply_with_all w t (who ∷ come) slots rises =
    reply_with_all w t come (slot_with who slots) (subst (Rises life_before) (sym (lives_with who slots))
    (rises_with who (lives_of slots) rises))
    ∙ reply_with w t who slots rises

reply_gone : (w : Who) (t : ℕ) (who : Who) (slots : List SlotOf) → Rises life_before (lives_of slots)
    → reply_at w t (slot_gone who slots) ≡ (if same_life w who then None else reply_at w t slots)
reply_gone w t who [] rises = by (same_life w who) where
  by : (own : Bool) → ◌≡◌ {A = Option Reply} None (if own then None else None)
  by true = refl
  by false = refl
reply_gone w t who (slot ∷ slots) rises = by (is_of who slot) refl (is_of w slot) refl (same_life w who) refl
    (reply_gone w t who slots rises.1) where
      none : is_of w slot ≡ true → slot_of w slots ≡ None
      none e = slot_none_of w slots (subst (λ life. AllAfter life_before life (lives_of slots)) (one_life slot.who w e) rises.0)

      by : (here : Bool) → is_of who slot ≡ here → (there : Bool) → is_of w slot ≡ there → (own : Bool) → same_life w who ≡ own
          → reply_at w t (slot_gone who slots) ≡ (if own then None else reply_at w t slots)
          → reply_at w t (cond here slots (slot ∷ slot_gone who slots))
          ≡ (if own then None else in_slot t (cond there (Some slot) (slot_of w slots)))
      by true e true f true g rest = ap (in_slot t) (none f)
      by true e true f false g rest = absurd (grind (arith, nat_tests))
      by true e false f true g rest = absurd (grind (arith, nat_tests))
      by true e false f false g rest = refl
      by false e true f true g rest = absurd (grind (arith, nat_tests))
      by false e true f false g rest = rw f refl
      by false e false f own g rest = rw f rest

pub reply_gone_all : (w : Who) (t : ℕ) (gone : List Who) (slots : List SlotOf) → Rises life_before (lives_of slots)
    → reply_at w t (slots_gone gone slots) ≡ (if is_life w gone then None else reply_at w t slots)
reply_gone_all w t [] slots rises = refl
reply_gone_all w t (who ∷ gone) slots rises =
    reply_gone_all w t gone (slot_gone who slots) (subst (Rises life_before) (sym (lives_gone who slots rises))
    (rises_filter life_before (λ w. not (same_life w who)) (lives_of slots) rises))
    ∙ ap (λ reply. if is_life w gone then None else reply) (reply_gone w t who slots rises)
    ∙ by (same_life w who) (is_life w gone) where
      by : (own out : Bool) → (if out then None else (if own then None else reply_at w t slots))
          ≡ (if own || out then None else reply_at w t slots)
      by true true = refl
      by true false = refl
      by false out = refl
