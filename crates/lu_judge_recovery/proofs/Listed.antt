-- Each life with a slot, of one of so many clients, is among those that are listed; and what a close decides of one that isn't.
use Rattle.std.proofs.Common.{◌≡◌, ℕ, zero, suc, ◌<◌, ◌≤◌, Bool, true, false, List, [], ◌∷◌, ◌++◌, refl, ap, sym, ◌∙◌, subst, ⊎_elim, arith}
use Rattle.std.specs.Prelude.{◌==◌, ◌&&◌, ◌||◌, ◌⊎◌, not, filter, if◌then◌else◌, Option, Some, None}
use Rattle.std.proofs.lemmas.Bool.{eqb-true, eq-eqb, cases_eq, cases_lt, or_cases, false_from_ne_true}
use Rattle.std.proofs.lemmas.List.Folds.{list_any-append}
use Rattle.lu_base.specs.declared.ids.At.{At}
use Rattle.lu_base.specs.declared.ids.Who.{Who}
use Rattle.lu_base.specs.declared.locks.Cause.{Cause}
use Rattle.lu_base.specs.declared.locks.Cause.TheVariants.{Absent, Gap}
use Rattle.lu_trace.specs.declared.entries.Entry.{Entry}
use Rattle.lu_trace.specs.declared.entries.Entry.TheVariants.{Joined}
use Rattle.lu_trace.specs.declared.entries.Line.{Line}
use Rattle.lu_spec_machine.specs.Tree.{same_life}
use Rattle.lu_spec_laws.specs.Words.Pasts.{Past, is_target}
use Rattle.lu_spec_laws.specs.Words.Lives.{is_evicted}
use Rattle.lu_spec_laws.specs.Words.Scopes.{any_at}
use Rattle.lu_spec_laws.specs.Words.Slots.{joins, has_joined, has_slot, first_lives, joined_lives, slots}
use Rattle.lu_spec_laws.specs.Words.Boots.{boot}
use Rattle.lu_spec_laws.specs.Words.Handed.{handed, has_all, is_back, has_newer}
use Rattle.lu_spec_laws.specs.Words.Closes.{lost_at, rests_on, cause_at}
use Rattle.lu_spec_laws.proofs.Tests.{life_is, first_of, rest_of, both, either_left, either_right, itself}
use Rattle.lu_judge_recovery.specs.Closings.{is_listed, cause_among, cause_or_absent, AreCauses}
use Rattle.lu_judge_recovery.specs.declared.closing.Causes.{Causes}

listed_passes : (p : Who → Bool) (xs : List Who) (who : Who) → p who ≡ true → is_listed xs who ≡ true → is_listed (filter p xs) who ≡ true
listed_passes p [] who passes listed = listed
listed_passes p (x ∷ xs) who passes listed = by (p x) (same_life x who) refl refl (or_cases (same_life x who) (is_listed xs who) listed)
    (listed_passes p xs who passes) where
      by : (kept same : Bool) → p x ≡ kept → same_life x who ≡ same → ((same_life x who ≡ true) ⊎ (is_listed xs who ≡ true))
          → (is_listed xs who ≡ true → is_listed (filter p xs) who ≡ true)
          → is_listed (if kept then x ∷ filter p xs else filter p xs) who ≡ true
      by true same k s cases rest = ⊎_elim (λ here. either_left (is_listed (filter p xs) who) here)
          (λ there. either_right (same_life x who) (rest there)) cases
      by false true k s cases rest = absurd (cc (sym k ∙ ap p (life_is x who s) ∙ passes))
      by false false k s cases rest = ⊎_elim (λ here. absurd (cc (sym s ∙ here))) (λ there. rest there) cases

first_listed : (clients : ℕ) (who : Who) → who.client < clients → (who.life == 1) ≡ true → is_listed (first_lives clients) who ≡ true
first_listed zero who below first = absurd (omega arith)
first_listed (suc c) who below first = ⊎_elim
    (λ is. either_left (is_listed (first_lives c) who) (both (eq-eqb c who.client (sym is))
    (eq-eqb 1 who.life (sym (eqb-true who.life 1 first)))))
    (λ other. either_right (c == who.client && 1 == who.life) (first_listed c who
    (⊎_elim (λ less. less) (λ more. absurd (other (omega arith))) (cases_lt who.client c)) first))
    (cases_eq who.client c)

joined_line : (t : ℕ) (who : Who) (at : At) (e : Entry) (past : Past)
    → (has_joined t past who ≡ true → is_listed (joined_lives t past) who ≡ true)
    → has_joined t (record { at = at; entry = e } ∷ past) who ≡ true → is_listed (joined_lives t (record { at = at; entry = e } ∷ past)) who
    ≡ true
joined_line t who at (Joined other) past older joined = by (is_target t at.node) refl joined where
  by : (here : Bool) → is_target t at.node ≡ here → ((same_life other who && here) || has_joined t past who) ≡ true
      → is_listed (if here then other ∷ joined_lives t past else joined_lives t past) who ≡ true
  by true is joined = ⊎_elim (λ now. either_left (is_listed (joined_lives t past) who) (first_of (same_life other who) true now))
      (λ before. either_right (same_life other who) (older before))
      (or_cases (same_life other who && true) (has_joined t past who) joined)
  by false is joined = ⊎_elim (λ now. absurd (cc (sym (rest_of (same_life other who) false now)))) (λ before. older before)
      (or_cases (same_life other who && false) (has_joined t past who) joined)
joined_line t who at _ past older joined = older joined

joined_listed : (t : ℕ) (who : Who) (past : Past) → has_joined t past who ≡ true → is_listed (joined_lives t past) who ≡ true
joined_listed t who [] joined = joined
joined_listed t who (l ∷ past) joined = joined_line t who l.at l.entry past (joined_listed t who past) joined

pub slot_listed : (clients t : ℕ) (past : Past) (who : Who) → who.client < clients → has_slot t past who ≡ true
    → is_listed (slots clients t past) who ≡ true
slot_listed clients t past who below slot =
    listed_passes (has_slot t past) (first_lives clients ++ joined_lives t past) who slot
    (list_any-append (λ (w : Who). same_life w who) (first_lives clients) (joined_lives t past)
    ∙ ⊎_elim
    (λ first. either_left (is_listed (joined_lives t past) who) (first_listed clients who below first))
    (λ joined. either_right (is_listed (first_lives clients) who) (joined_listed t who past joined))
    (or_cases (who.life == 1) (has_joined t past who) (first_of (who.life == 1 || has_joined t past who) (not (is_evicted t past who))
    slot)))

-- a life without a slot is absent
no_slot_absent : (t : ℕ) (past : Past) (who : Who) → has_slot t past who ≡ false → cause_at t past who ≡ Some Absent
no_slot_absent t past who none = by (has_slot t past who) (has_all (boot t past) who (handed t past)) (has_newer t past who) none where
  by : (slot all newer : Bool) → slot ≡ false → (if not (slot && all) || newer then Some Absent
      else (if rests_on t past who (lost_at t past) then Some Gap else None)) ≡ Some Absent
  by false all newer is = refl
  by true all newer is = absurd (cc)

-- what is looked up of a life of one of so many clients
pub cause_is : (c : Causes) (clients t : ℕ) (past : Past) (who : Who) → who.client < clients → AreCauses c (slots clients t past) t past
    → cause_or_absent (cause_among c who) ≡ cause_at t past who
cause_is c clients t past who below causes = ap cause_or_absent (causes who) ∙ by (is_listed (slots clients t past) who) refl where
  by : (listed : Bool) → is_listed (slots clients t past) who ≡ listed
      → cause_or_absent (if listed then Some (cause_at t past who) else None) ≡ cause_at t past who
  by true is = refl
  by false is =
      sym (no_slot_absent t past who (false_from_ne_true (has_slot t past who)
      (λ slot. absurd (cc (sym is ∙ slot_listed clients t past who below slot)))))
