-- What the later lines of a turn say, the rest of the turn says: no line after the first one of another turn is of this one.
use Rattle.std.proofs.Common.{◌≡◌, Bool, true, false, List, [], ◌∷◌, refl, ap, subst}
use Rattle.std.specs.Prelude.{ℕ, ◌&&◌, ◌||◌, if◌then◌else◌, Option, None}
use Rattle.std.proofs.lemmas.Bool.{and_right, or_from}
use Rattle.lu_base.specs.declared.ids.At.{At}
use Rattle.lu_trace.specs.declared.entries.Entry.{Entry}
use Rattle.lu_trace.specs.declared.entries.Entry.TheVariants.{Told, Send}
use Rattle.lu_trace.specs.declared.entries.Line.{Line}
use Rattle.lu_spec_laws.specs.Words.Pasts.{UpTo, same_turn, or_else}
use Rattle.lu_spec_laws.specs.Words.Scopes.{only_here, any_later, next_in}
use Rattle.lu_spec_laws.specs.Words.Later.{told_later}
use Rattle.lu_spec_laws.specs.Laws.Silent.{is_told_silently}
use Rattle.lu_spec_laws.proofs.Tests.{turn_is}
use Rattle.lu_judge_pass.specs.Places.{InOrder, NoneOf, turn_of}
use Rattle.lu_judge_pass.proofs.Order.{up_to_on, other_after}
use Rattle.lu_judge_pass.proofs.Strangers.{nothing_here}

-- the lines after a line of another turn
after_it : (at : At) (l : Line) (later : List Line) → UpTo at l.at → same_turn l.at at ≡ false → InOrder l.at later → NoneOf at later
after_it at l [] up other order = tt
after_it at l (k ∷ later) up other order =
    let there : same_turn k.at at ≡ false = other_after at l.at k.at up order.0 other in
    (there, after_it at k later (up_to_on at l.at k.at up order.0) there order.1)

-- the lines after the rest of a turn
abbrev pub beyond : At → List Line → List Line
beyond at [] = []
beyond at (l ∷ later) = if same_turn l.at at then beyond at later else l ∷ later

-- a turn that is this one has the same later lines
same_order : (a b : At) (later : List Line) → same_turn b a ≡ true → InOrder b later → InOrder a later
same_order a b later same order = subst (λ (at : At). InOrder at later) (turn_is b a same) order

-- no line after the rest of the turn is of the turn
pub none_beyond : (at : At) (later : List Line) → InOrder at later → NoneOf at (beyond at later)
none_beyond at [] order = tt
none_beyond at (l ∷ later) order = by (same_turn l.at at) refl (λ is. none_beyond at later (same_order at l.at later is order.1)) where
  by : (same : Bool) → same_turn l.at at ≡ same → (same_turn l.at at ≡ true → NoneOf at (beyond at later))
      → NoneOf at (if same then beyond at later else l ∷ later)
  by true is next = next is
  by false is next = (is, after_it at l later order.0 is order.1)

-- a word of lines says of later lines what it says of the rest of the turn, where it says nothing of lines of other turns
pub of_rest : {A : Type 0} (word : List Line → A) (at : At)
    → ((l : Line) (more less : List Line) → word more ≡ word less → word (l ∷ more) ≡ word (l ∷ less))
    → ((lines : List Line) → NoneOf at lines → word lines ≡ word [])
    → (later : List Line) → InOrder at later → word later ≡ word (turn_of at later)
of_rest word at on none [] order = refl
of_rest word at on none (l ∷ later) order = by (same_turn l.at at) refl
    (λ is. of_rest word at on none later (same_order at l.at later is order.1)) where
      by : (same : Bool) → same_turn l.at at ≡ same → (same_turn l.at at ≡ true → word later ≡ word (turn_of at later)) → word (l ∷ later)
          ≡ word (if same then l ∷ turn_of at later else [])
      by true is next = on l later (turn_of at later) (next is)
      by false is next = none (l ∷ later) (is, after_it at l later order.0 is order.1)

-- ---- each word

none_any_later : (says : Entry → Bool) (at : At) (lines : List Line) → NoneOf at lines → any_later says at lines ≡ false
none_any_later says at [] none = refl
none_any_later says at (l ∷ lines) none = or_from (says l.entry && same_turn l.at at) (any_later says at lines)
    (and_right (says l.entry) (same_turn l.at at) none.0) (none_any_later says at lines none.1)

pub any_later_in_turn : (says : Entry → Bool) (at : At) (later : List Line) → InOrder at later → any_later says at later
    ≡ any_later says at (turn_of at later)
any_later_in_turn says at =
    of_rest (λ lines. any_later says at lines) at (λ l more less is. ap (λ (b : Bool). (says l.entry && same_turn l.at at) || b) is)
    (none_any_later says at)

none_next_in : {A : Type 0} (says : Entry → Option A) (at : At) (lines : List Line) → NoneOf at lines → next_in says at lines ≡ None
none_next_in says at [] none = refl
none_next_in says at (l ∷ lines) none = rw (nothing_here (says l.entry) (same_turn l.at at) none.0) (none_next_in says at lines none.1)

pub next_in_in_turn : {A : Type 0} (says : Entry → Option A) (at : At) (later : List Line) → InOrder at later → next_in says at later
    ≡ next_in says at (turn_of at later)
next_in_in_turn {A} says at =
    of_rest (λ lines. next_in says at lines) at (λ l more less is. ap
    (λ (o : Option A). or_else (only_here (says l.entry) (same_turn l.at at)) o) is) (none_next_in says at)

told_line : (slot : ℕ) (at here : At) (e : Entry) (more less : List Line) → told_later slot at more ≡ told_later slot at less
    → told_later slot at (record { at = here; entry = e } ∷ more) ≡ told_later slot at (record { at = here; entry = e } ∷ less)
told_line slot at here (Told other turn answer) more less is = rw is refl
told_line slot at here _ more less is = is

told_other : (slot : ℕ) (at here : At) (e : Entry) (lines : List Line) → same_turn here at ≡ false → told_later slot at lines ≡ None
    → told_later slot at (record { at = here; entry = e } ∷ lines) ≡ None
told_other slot at here (Told other turn answer) lines apart none = rw apart none
told_other slot at here _ lines apart none = none

none_told_later : (slot : ℕ) (at : At) (lines : List Line) → NoneOf at lines → told_later slot at lines ≡ None
none_told_later slot at [] none = refl
none_told_later slot at (l ∷ lines) none = told_other slot at l.at l.entry lines none.0 (none_told_later slot at lines none.1)

pub told_later_in_turn : (slot : ℕ) (at : At) (later : List Line) → InOrder at later → told_later slot at later
    ≡ told_later slot at (turn_of at later)
told_later_in_turn slot at =
    of_rest (λ lines. told_later slot at lines) at (λ l more less is. told_line slot at l.at l.entry more less is) (none_told_later slot at)

silent_line : (slot : ℕ) (at here : At) (e : Entry) (more less : List Line) → is_told_silently slot at more ≡ is_told_silently slot at less
    → is_told_silently slot at (record { at = here; entry = e } ∷ more) ≡ is_told_silently slot at (record { at = here; entry = e } ∷ less)
silent_line slot at here (Told other turn answer) more less is = rw is refl
silent_line slot at here (Send number to message) more less is = rw is refl
silent_line slot at here _ more less is = is

silent_other : (slot : ℕ) (at here : At) (e : Entry) (lines : List Line) → same_turn here at ≡ false → is_told_silently slot at lines
    ≡ false
    → is_told_silently slot at (record { at = here; entry = e } ∷ lines) ≡ false
silent_other slot at here (Told other turn answer) lines apart none = rw apart none
silent_other slot at here (Send number to message) lines apart none = rw apart none
silent_other slot at here _ lines apart none = none

none_told_silently : (slot : ℕ) (at : At) (lines : List Line) → NoneOf at lines → is_told_silently slot at lines ≡ false
none_told_silently slot at [] none = refl
none_told_silently slot at (l ∷ lines) none = silent_other slot at l.at l.entry lines none.0 (none_told_silently slot at lines none.1)

pub is_told_silently_in_turn : (slot : ℕ) (at : At) (later : List Line) → InOrder at later → is_told_silently slot at later
    ≡ is_told_silently slot at (turn_of at later)
is_told_silently_in_turn slot at =
    of_rest (λ lines. is_told_silently slot at lines) at (λ l more less is. silent_line slot at l.at l.entry more less is)
    (none_told_silently slot at)
