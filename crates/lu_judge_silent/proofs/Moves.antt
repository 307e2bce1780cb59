-- How the tables of known answers move, by key.
use Rattle.std.proofs.Common.{◌≡◌, ℕ, Bool, true, false, Option, Some, None, refl, ap, ◌∙◌, subst}
use Rattle.std.specs.Prelude.{◌==◌, ◌&&◌, not, if◌then◌else◌}
use Rattle.std.specs.List.{list_any}
use Rattle.lu_base.specs.declared.ids.Who.{Who}
use Rattle.lu_msg.specs.declared.calls.Call.{Call}
use Rattle.lu_msg.specs.declared.calls.Call.TheVariants as call
use Rattle.lu_spec_machine.specs.Tree.{same_life}
use Rattle.lu_spec_laws.specs.Words.Pasts.{Past}
use Rattle.lu_spec_laws.specs.Words.Repeats.{same_reading, known, is_ready}
use Rattle.lu_spec_laws.proofs.Tests.{life_is}
use Rattle.lu_judge_silent.specs.declared.readings.Reading.{Reading}
use Rattle.lu_judge_silent.specs.declared.readings.Reading.TheVariants.{Lookup, Stat, List as Names, Layout, Read}
use Rattle.lu_judge_silent.specs.declared.known.Known.{Known}
use Rattle.lu_judge_silent.specs.Readings.{asks, same_question, is_reading}
use Rattle.lu_judge_silent.specs.Tables.{Stood, Marks, marks_of, is_fresh, knows, calm_at}
use Rattle.lu_judge_silent.specs.Steps.{is_handle, answers}
use Rattle.lu_judge_silent.proofs.Questions.{question_is}

kept : (own : Bool) (now old : ℕ) → old ≡ (if own && false then now else old)
kept true now old = refl
kept false now old = refl

-- ---- a call begins

pub rebound_none : (own : Bool) (k : Option ℕ) (h now old : ℕ) → None ≡ k → old ≡ (if own && is_handle k h then now else old)
rebound_none own k h now old is = rw (← is) (kept own now old)

pub rebound_some : (own : Bool) (k : Option ℕ) (g h now old new : ℕ) → Some g ≡ k → new ≡ (if own && g == h then now else old) → new
    ≡ (if own && is_handle k h then now else old)
rebound_some own k g h now old new is set = rw (← is) set

pub stood : (here : Bool) (call : Call) (since time : ℕ) (new old : Option Stood) → since ≡ time → new
    ≡ (if here then Some (record { call = call; since = since }) else old)
    → new ≡ (if here then Some (record { call = call; since = time }) else old)
stood here call since time new old is set = subst (λ (n : ℕ). new ≡ (if here then Some (record { call = call; since = n }) else old)) is set

-- ---- an answer is told

-- no question is asked by a call that isn't a reading
not_asked : (q : Reading) (k : Call) → is_reading k ≡ false → same_reading (asks q) k ≡ false
not_asked (Lookup a) (call.Lookup path) e = absurd (cc)
not_asked (Lookup a) _ e = refl
not_asked (Stat a) (call.Stat path) e = absurd (cc)
not_asked (Stat a) _ e = refl
not_asked (Names a) (call.List path) e = absurd (cc)
not_asked (Names a) _ e = refl
not_asked (Layout a) (call.Layout path) e = absurd (cc)
not_asked (Layout a) _ e = refl
not_asked (Read h offset count) (call.Read k start number) e = absurd (cc)
not_asked (Read h offset count) _ e = refl

pub learns_error : (own error b : Bool) (now old : ℕ) → error ≡ true → old ≡ (if own && (not error && b) then now else old)
learns_error own error b now old is = rw is (kept own now old)

pub learns_none : (own error : Bool) (q : Reading) (calm : Option Call) (now old : ℕ) → error ≡ false → None ≡ calm → old
    ≡ (if own && (not error && answers q calm) then now else old)
learns_none own error q calm now old is none = rw (is, ← none) (kept own now old)

pub learns_other : (own error : Bool) (q : Reading) (calm : Option Call) (call : Call) (now old : ℕ) → error ≡ false → Some call ≡ calm
    → is_reading call ≡ false
    → old ≡ (if own && (not error && answers q calm) then now else old)
learns_other own error q calm call now old is some other = rw (is, ← some, not_asked q call other) (kept own now old)

pub learns : (own error : Bool) (q asked : Reading) (calm : Option Call) (call : Call) (now old new : ℕ) → error ≡ false → Some call ≡ calm
    → asks asked ≡ call
    → new ≡ (if own && same_question asked q then now else old) → new ≡ (if own && (not error && answers q calm) then now else old)
learns own error q asked calm call now old new is some by set = set ∙ rw (is, ← some, ← by, question_is asked q) refl

-- ---- whether the answer is known

pub known_asked : (m : Marks) (w : Who) (past : Past) (q : Reading) (call : Call) (t : ℕ) (r : Bool) → r ≡ is_fresh m call t → t ≡ m.told q
    → asks q ≡ call
    → knows m q ≡ list_any (same_reading (asks q)) (known w past) → r ≡ list_any (same_reading call) (known w past)
known_asked m w past q call t r fresh last is knows =
    fresh ∙ ap (λ (n : ℕ). is_fresh m call n) last
    ∙ subst (λ (c : Call). is_fresh m c (m.told q) ≡ list_any (same_reading c) (known w past)) is knows

-- ---- the life itself

pub own_ready : (who w : Who) (past : Past) (ready : Bool) → ready ≡ is_ready who past → same_life who w ≡ true → ready ≡ is_ready w past
own_ready who w past ready is own = is ∙ ap (λ (one : Who). is_ready one past) (life_is who w own)

pub own_calm : (t : Known) (who w : Who) (slot : ℕ) → same_life who w ≡ true → calm_at (marks_of t who) slot ≡ calm_at (marks_of t w) slot
own_calm t who w slot own = ap (λ (one : Who). calm_at (marks_of t one) slot) (life_is who w own)
