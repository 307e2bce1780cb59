-- What a line makes of the laws' words for what is known, by question.
use Rattle.std.proofs.Common.{◌≡◌, ℕ, Bool, true, false, Option, Some, None, List, [], ◌∷◌, ◌++◌, map, refl, ap, ◌∙◌, sym}
use Rattle.std.specs.Prelude.{◌==◌, ◌&&◌, ◌||◌, not, if◌then◌else◌, filter}
use Rattle.std.specs.List.{list_any}
use Rattle.std.proofs.lemmas.Bool.{eqb-true}
use Rattle.std.proofs.lemmas.List.Folds.{list_any-append}
use Rattle.std.proofs.lemmas.Map.Views.{any-filter_same}
use Rattle.lu_base.specs.declared.ids.At.{At}
use Rattle.lu_base.specs.declared.ids.Who.{Who}
use Rattle.lu_msg.specs.declared.calls.Call.{Call}
use Rattle.lu_msg.specs.declared.messages.Message.{Message}
use Rattle.lu_trace.specs.declared.entries.Entry.{Entry}
use Rattle.lu_trace.specs.declared.entries.Entry.TheVariants.{Begin, Take, Drop, Told}
use Rattle.lu_trace.specs.declared.entries.Line.{Line}
use Rattle.lu_spec_laws.specs.Words.Pasts.{Past}
use Rattle.lu_spec_laws.specs.Words.Lives.{is_by}
use Rattle.lu_spec_laws.specs.Words.Sends.{message_of}
use Rattle.lu_spec_laws.specs.Words.Repeats.{same_reading, rebinds, is_error, disturbs, is_ready, in_other_slot, begun_calm, calm_step}
use Rattle.lu_spec_laws.specs.Words.Repeats.{calm, known_step, known}
use Rattle.lu_spec_laws.proofs.Tests.{first_of, rest_of}
use Rattle.lu_judge_silent.specs.declared.readings.Reading.{Reading}
use Rattle.lu_judge_silent.specs.Readings.{asks, reads_of, rebound_by}
use Rattle.lu_judge_silent.specs.Steps.{answers}
use Rattle.lu_judge_silent.specs.Shown.{without, calm_line, calm_in}
use Rattle.lu_judge_silent.proofs.Questions.{touches, rebinds_same, eq_turned}

abbrev pub Standing : Type 0
Standing = List (ℕ × Call)

-- a call that stands in the slot and asks this
abbrev pub stands_as : Reading → ℕ → ℕ × Call → Bool
stands_as q s st = st.0 == s && same_reading (asks q) st.1

-- the call that begins opens or closes the handle that this is read by
abbrev pub spoils : Call → Reading → Bool
spoils call q = touches (rebound_by call) (reads_of (asks q))

or_false : (b : Bool) → (b || false) ≡ b
or_false true = refl
or_false false = refl

and_false : (b : Bool) → (b && false) ≡ false
and_false true = refl
and_false false = refl

-- ---- the calls that stand

abbrev kept_by : ℕ → Call → ℕ × Call → Bool
kept_by slot call st = in_other_slot slot st && not (rebinds call st.1)

-- of those that stand in a slot and ask this a call that begins keeps all or none
stays : (q : Reading) (s slot : ℕ) (call : Call) (st : ℕ × Call) → stands_as q s st ≡ true → kept_by slot call st
    ≡ (not (slot == s) && not (spoils call q))
stays q s slot call st e =
    let here : st.0 ≡ s = eqb-true st.0 s (first_of (st.0 == s) (same_reading (asks q) st.1) e) in
    let turned : (s == slot) ≡ (slot == s) = eq_turned s slot in
    rw (rebinds_same call q st.1 (rest_of (st.0 == s) (same_reading (asks q) st.1) e), here, turned) refl

stays_told : (q : Reading) (s slot : ℕ) (st : ℕ × Call) → stands_as q s st ≡ true → in_other_slot slot st ≡ not (slot == s)
stays_told q s slot st e =
    let here : st.0 ≡ s = eqb-true st.0 s (first_of (st.0 == s) (same_reading (asks q) st.1) e) in
    let turned : (s == slot) ≡ (slot == s) = eq_turned s slot in
    rw (here, turned) refl

left : (q : Reading) (call c : Call) → (not (spoils call q) && same_reading (asks q) c) ≡ answers q (without call (Some c))
left q call c = by (same_reading (asks q) c) refl where
  same : (t : Bool) → same_reading (asks q) c ≡ true → (not t && true) ≡ answers q (if t then None else Some c)
  same true e = refl
  same false e = sym e

  other : (t r : Bool) → same_reading (asks q) c ≡ false → (not t && false) ≡ answers q (if r then None else Some c)
  other t true e = and_false (not t)
  other t false e = and_false (not t) ∙ sym e

  by : (b : Bool) → same_reading (asks q) c ≡ b → (not (spoils call q) && b) ≡ answers q (if rebinds call c then None else Some c)
  by true e = rw (rebinds_same call q c e) (same (spoils call q) e)
  by false e = other (spoils call q) (rebinds call c) e

begun_any : (q : Reading) (s slot : ℕ) (call : Call) (ready : Bool) (old : Standing) (o : Option Call) → list_any (stands_as q s) old
    ≡ answers q o
    → list_any (stands_as q s) (begun_calm slot call ready old)
    ≡ answers q (if slot == s then (if ready then Some call else None) else without call o)
begun_any q s slot call ready old o is = by ready where
  kept : list_any (stands_as q s) (filter (kept_by slot call) old) ≡ ((not (slot == s) && not (spoils call q)) && answers q o)
  kept = any-filter_same (stands_as q s) (kept_by slot call) (not (slot == s) && not (spoils call q)) (stays q s slot call) old
      ∙ ap (λ (b : Bool). (not (slot == s) && not (spoils call q)) && b) is

  rest : (o : Option Call) → (not (spoils call q) && answers q o) ≡ answers q (without call o)
  rest None = and_false (not (spoils call q))
  rest (Some c) = left q call c

  new : (here : Bool) → ((here && same_reading (asks q) call) || ((not here && not (spoils call q)) && answers q o))
      ≡ answers q (if here then Some call else without call o)
  new true = or_false (same_reading (asks q) call)
  new false = rest o

  old_only : (here : Bool) → ((not here && not (spoils call q)) && answers q o) ≡ answers q (if here then None else without call o)
  old_only true = refl
  old_only false = rest o

  by : (ready : Bool) → list_any (stands_as q s) (begun_calm slot call ready old)
      ≡ answers q (if slot == s then (if ready then Some call else None) else without call o)
  by true = ap (λ (b : Bool). stands_as q s (slot, call) || b) kept ∙ new (slot == s)
  by false = kept ∙ old_only (slot == s)

cleared : (q : Reading) (s : ℕ) (b : Bool) (old : Standing) (o : Option Call) → list_any (stands_as q s) old ≡ answers q o
    → list_any (stands_as q s) (if b then [] else old) ≡ answers q (if b then None else o)
cleared q s true old o is = refl
cleared q s false old o is = is

told_any : (q : Reading) (s slot : ℕ) (old : Standing) (o : Option Call) → list_any (stands_as q s) old ≡ answers q o
    → list_any (stands_as q s) (filter (in_other_slot slot) old) ≡ answers q (if slot == s then None else o)
told_any q s slot old o is = any-filter_same (stands_as q s) (in_other_slot slot) (not (slot == s)) (stays_told q s slot) old
    ∙ by (slot == s) where
      by : (here : Bool) → (not here && list_any (stands_as q s) old) ≡ answers q (if here then None else o)
      by true = refl
      by false = is

calm_any_line : (q : Reading) (s : ℕ) (own ready : Bool) (sent : ℕ → Option Message) (at : At) (e : Entry) (old : Standing)
    (o : Option Call)
    → list_any (stands_as q s) old ≡ answers q o
    → list_any (stands_as q s) (calm_step own ready sent (record { at = at; entry = e }) old)
    ≡ answers q (calm_line s own ready sent (record { at = at; entry = e }) o)
calm_any_line q s true ready sent at (Begin slot call) old o is = begun_any q s slot call ready old o is
calm_any_line q s false ready sent at (Begin slot call) old o is = is
calm_any_line q s true ready sent at (Told slot turn answer) old o is = told_any q s slot old o is
calm_any_line q s false ready sent at (Told slot turn answer) old o is = is
calm_any_line q s own ready sent at (Take n) old o is = cleared q s (own && disturbs (sent n)) old o is
calm_any_line q s own ready sent at (Drop target cookie) old o is = cleared q s own old o is
calm_any_line q s own ready sent at _ old o is = is

pub calm_any : (q : Reading) (w : Who) (s : ℕ) (past : Past) → list_any (stands_as q s) (calm w past) ≡ answers q (calm_in w s past)
calm_any q w s [] = refl
calm_any q w s (l ∷ past) = calm_any_line q s (is_by w past l.at.node) (is_ready w past) (message_of past) l.at l.entry (calm w past)
    (calm_in w s past) (calm_any q w s past)

-- ---- the calls whose answers are known

any_calls : (p : Call → Bool) (s : ℕ) (xs : Standing) → list_any p (map (λ st. st.1) (filter (λ st. st.0 == s) xs))
    ≡ list_any (λ (st : ℕ × Call). st.0 == s && p st.1) xs
any_calls p s [] = refl
any_calls p s (x ∷ xs) = by (x.0 == s) (any_calls p s xs) where
  by : (here : Bool) → list_any p (map (λ st. st.1) (filter (λ st. st.0 == s) xs)) ≡ list_any (λ (st : ℕ × Call). st.0 == s && p st.1) xs
      → list_any p (map (λ (st : ℕ × Call). st.1) (if here then x ∷ filter (λ st. st.0 == s) xs else filter (λ st. st.0 == s) xs))
      ≡ ((here && p x.1) || list_any (λ (st : ℕ × Call). st.0 == s && p st.1) xs)
  by true rest = ap (λ (b : Bool). p x.1 || b) rest
  by false rest = rest

-- a question whose answer is known after a line
abbrev pub known_line : Reading → (own : Bool) → (ℕ → Option Message) → (ℕ → Option Call) → Line → Bool → Bool
known_line q own sent standing l old =
    elim l.entry [
      | Begin slot call ↦ if own then not (spoils call q) && old else old
      | Told slot turn answer ↦ if own then (not (is_error answer) && answers q (standing slot)) || old else old
      | Take n ↦ if own && disturbs (sent n) then false else old
      | Drop target cookie ↦ if own then false else old
      | _ ↦ old
    ]

learned_any : (q : Reading) (slot : ℕ) (error : Bool) (standing : Standing) (o : Option Call) (old : List Call)
    → list_any (stands_as q slot) standing ≡ answers q o
    → list_any (same_reading (asks q)) ((if error then [] else map (λ st. st.1) (filter (λ st. st.0 == slot) standing)) ++ old)
    ≡ ((not error && answers q o) || list_any (same_reading (asks q)) old)
learned_any q slot true standing o old is = refl
learned_any q slot false standing o old is =
    list_any-append (same_reading (asks q)) (map (λ st. st.1) (filter (λ st. st.0 == slot) standing)) old
    ∙ ap (λ (b : Bool). b || list_any (same_reading (asks q)) old) (any_calls (same_reading (asks q)) slot standing ∙ is)

forgotten : (q : Reading) (b : Bool) (old : List Call) → list_any (same_reading (asks q)) (if b then [] else old)
    ≡ (if b then false else list_any (same_reading (asks q)) old)
forgotten q true old = refl
forgotten q false old = refl

known_any_line : (q : Reading) (own : Bool) (sent : ℕ → Option Message) (standing : Standing) (calm : ℕ → Option Call) (at : At) (e : Entry)
    (old : List Call)
    → ((s : ℕ) → list_any (stands_as q s) standing ≡ answers q (calm s))
    → list_any (same_reading (asks q)) (known_step own sent standing (record { at = at; entry = e }) old)
    ≡ known_line q own sent calm (record { at = at; entry = e }) (list_any (same_reading (asks q)) old)
known_any_line q true sent standing calm at (Begin slot call) old is =
    any-filter_same (same_reading (asks q)) (λ k. not (rebinds call k)) (not (spoils call q)) (λ k e. ap not (rebinds_same call q k e)) old
known_any_line q false sent standing calm at (Begin slot call) old is = refl
known_any_line q true sent standing calm at (Told slot turn answer) old is =
    learned_any q slot (is_error answer) standing (calm slot) old (is slot)
known_any_line q false sent standing calm at (Told slot turn answer) old is = refl
known_any_line q own sent standing calm at (Take n) old is = forgotten q (own && disturbs (sent n)) old
known_any_line q own sent standing calm at (Drop target cookie) old is = forgotten q own old
known_any_line q own sent standing calm at _ old is = refl

pub known_any : (q : Reading) (w : Who) (l : Line) (past : Past) → list_any (same_reading (asks q)) (known w (l ∷ past))
    ≡ known_line q (is_by w past l.at.node) (message_of past) (λ s. calm_in w s past) l (list_any (same_reading (asks q)) (known w past))
known_any q w l past = known_any_line q (is_by w past l.at.node) (message_of past) (calm w past) (λ s. calm_in w s past) l.at l.entry
    (known w past) (λ s. calm_any q w s past)
