-- Before the first line of a turn no line is of that turn: nothing is said, taken or heard in it yet.
use Rattle.std.proofs.Common.{◌≡◌, Bool, false, [], ◌∷◌, refl}
use Rattle.std.specs.Prelude.{◌&&◌, Option, Some, None}
use Rattle.std.proofs.lemmas.Bool.{and_right, or_from}
use Rattle.lu_base.specs.declared.ids.At.{At}
use Rattle.lu_trace.specs.declared.entries.Entry.{Entry}
use Rattle.lu_trace.specs.declared.entries.Entry.TheVariants.{Take, Heard}
use Rattle.lu_trace.specs.declared.entries.Line.{Line}
use Rattle.lu_spec_laws.specs.Words.Pasts.{Past, UpTo, same_turn, or_else}
use Rattle.lu_spec_laws.specs.Words.Scopes.{only_here, any_in, last_in}
use Rattle.lu_spec_laws.specs.Words.Sends.{taken}
use Rattle.lu_spec_laws.specs.Words.Calls.{heard_in}
use Rattle.lu_spec_laws.specs.Laws.Messages.{Follows}
use Rattle.lu_judge_pass.specs.Places.{Ordered, NoneOf, IsNew}
use Rattle.lu_judge_pass.proofs.Order.{up_to_on, other_before}

-- the lines before a line of another turn
before_it : (at : At) (l : Line) (past : Past) → Ordered past → Follows past l.at → UpTo l.at at → same_turn l.at at ≡ false
    → NoneOf at past
before_it at l [] ordered follows up other = tt
before_it at l (k ∷ past) ordered follows up other =
    let there : same_turn k.at at ≡ false = other_before k.at l.at at follows up other in
    (there, before_it at k past ordered.1 ordered.0 (up_to_on k.at l.at at follows up) there)

-- no line of the past is of a turn that follows it and is new
pub strangers : (at : At) (past : Past) → Ordered past → Follows past at → IsNew at past → NoneOf at past
strangers at [] ordered follows new = tt
strangers at (l ∷ past) ordered follows new = (new, before_it at l past ordered.1 ordered.0 follows new)

-- ---- so nothing is said in it

pub nothing_here : {A : Type 0} (says : Option A) (here : Bool) → here ≡ false → only_here says here ≡ None
nothing_here None here other = refl
nothing_here (Some a) here other = rw other refl

pub none_any_in : (says : Entry → Bool) (at : At) (past : Past) → NoneOf at past → any_in says at past ≡ false
none_any_in says at [] none = refl
none_any_in says at (l ∷ past) none = or_from (says l.entry && same_turn l.at at) (any_in says at past)
    (and_right (says l.entry) (same_turn l.at at) none.0) (none_any_in says at past none.1)

none_or : {A : Type 0} (a b : Option A) → a ≡ None → b ≡ None → or_else a b ≡ None
none_or a b p q = rw (p, q) refl

pub none_last_in : {A : Type 0} (says : Entry → Option A) (at : At) (past : Past) → NoneOf at past → last_in says at past ≡ None
none_last_in says at [] none = refl
none_last_in says at (l ∷ past) none = none_or (only_here (says l.entry) (same_turn l.at at)) (last_in says at past)
    (nothing_here (says l.entry) (same_turn l.at at) none.0) (none_last_in says at past none.1)

taken_line : (at here : At) (e : Entry) (past : Past) → same_turn here at ≡ false → taken past at ≡ []
    → taken (record { at = here; entry = e } ∷ past) at ≡ []
taken_line at here (Take n) past other none = rw other none
taken_line at here _ past other none = none

pub none_taken : (at : At) (past : Past) → NoneOf at past → taken past at ≡ []
none_taken at [] none = refl
none_taken at (l ∷ past) none = taken_line at l.at l.entry past none.0 (none_taken at past none.1)

heard_line : (at here : At) (e : Entry) (past : Past) → same_turn here at ≡ false → heard_in past at ≡ None
    → heard_in (record { at = here; entry = e } ∷ past) at ≡ None
heard_line at here (Heard target xid) past other none = rw (none, other) refl
heard_line at here _ past other none = none

pub none_heard_in : (at : At) (past : Past) → NoneOf at past → heard_in past at ≡ None
none_heard_in at [] none = refl
none_heard_in at (l ∷ past) none = heard_line at l.at l.entry past none.0 (none_heard_in at past none.1)
