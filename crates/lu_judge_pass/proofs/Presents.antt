-- The turn of the newest line, and what a line adds to it.
use Rattle.std.proofs.Common.{◌≡◌, Bool, true, false, Option, Some, None, [], ◌∷◌, subst}
use Rattle.std.specs.Prelude.{ℕ, ◌==◌, if◌then◌else◌}
use Rattle.lu_base.specs.declared.ids.At.{At}
use Rattle.lu_base.specs.declared.ids.TargetId.{TargetId}
use Rattle.lu_base.specs.declared.ids.Xid.{Xid}
use Rattle.lu_trace.specs.declared.entries.Entry.TheVariants.{Heard}
use Rattle.lu_spec_laws.specs.Words.Pasts.{Past, same_turn, or_else}
use Rattle.lu_spec_laws.specs.Words.Calls.{heard_in}
use Rattle.lu_spec_laws.specs.Laws.Messages.{Follows}
use Rattle.lu_spec_laws.proofs.Tests.{turn_is, same_turn_itself}
use Rattle.lu_judge_pass.specs.declared.present.Present.{Present}
use Rattle.lu_judge_pass.specs.Places.{Ordered, NoneOf}
use Rattle.lu_judge_pass.specs.Ledgers.{is_present, HasTurn, ShowsPresent}
use Rattle.lu_judge_pass.proofs.Strangers.{strangers}

present_is : (newest : Option At) (here at : At) (same : Bool) → newest ≡ Some here → is_present newest at ≡ same → same_turn here at ≡ same
present_is newest here at same e is = rw e at is

pub is_same : (t : Present) (past : Past) (at : At) → ShowsPresent t past → is_present t.newest at ≡ true → HasTurn t past at
is_same t [] at shown is =
    let none : is_present None at ≡ true = subst (λ (newest : Option At). is_present newest at ≡ true) shown is in
    absurd (cc)
is_same t (l ∷ past) at shown is =
    subst (λ (turn : At). HasTurn t (l ∷ past) turn) (turn_is l.at at (present_is t.newest l.at at true shown.0 is)) shown

pub is_other : (t : Present) (past : Past) (at : At) → Ordered past → Follows past at → ShowsPresent t past → is_present t.newest at ≡ false
    → NoneOf at past
is_other t [] at ordered follows shown is = tt
is_other t (l ∷ past) at ordered follows shown is = strangers at (l ∷ past) ordered follows (present_is t.newest l.at at false shown.0 is)

-- ---- a line of the turn

pub hears_line : (past : Past) (at : At) (target : TargetId) (xid : Xid) (old new : Option ℕ) → old ≡ heard_in past at
    → new ≡ or_else old (if target.0 == 0 then Some xid.0 else None) → new
    ≡ heard_in (record { at = at; entry = Heard target xid } ∷ past) at
hears_line past at target xid old new is adds = rw (same_turn_itself at, ← is) adds
