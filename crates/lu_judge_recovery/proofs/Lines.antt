-- What one more line makes of what a turn or a target says.
use Rattle.std.proofs.Common.{◌≡◌, ℕ, Bool, true, false, List, [], ◌∷◌, ◌++◌, refl, ap, sym, ◌∙◌, subst}
use Rattle.std.specs.Prelude.{◌==◌, ◌&&◌, ◌||◌, if◌then◌else◌, Option, Some, None, unwrap_or}
use Rattle.std.specs.Bool.{then_some}
use Rattle.std.proofs.lemmas.Bool.{and_right}
use Rattle.lu_base.specs.declared.ids.Node.{Node}
use Rattle.lu_base.specs.declared.ids.Node.TheVariants.{Client, Target}
use Rattle.lu_trace.specs.declared.entries.Entry.{Entry}
use Rattle.lu_trace.specs.declared.entries.Line.{Line}
use Rattle.lu_spec_laws.specs.Words.Pasts.{Past, is_target, or_else}
use Rattle.lu_spec_laws.specs.Words.Scopes.{only_here, any_in, last_in}
use Rattle.lu_judge_recovery.specs.Turns.{turn_at, line_at}
use Rattle.lu_judge_recovery.specs.Marks.{marked}

-- a line of a target, as one of its turn
pub line_is : (l : Line) (t : ℕ) → l.at.node ≡ Target t → line_at l.at.stamp.0 t l.entry ≡ l
line_is l t is = ap (λ (n : Node). record { at = record { stamp = l.at.stamp; node = n }; entry = l.entry }) (sym is)

-- a key is added to a set where the entry says so
pub set_marked : (says here : Bool) (new old notion : Bool) → new ≡ (if here && says then true else old) → old ≡ notion → new
    ≡ ((says && here) || notion)
set_marked true true new old notion is shows = is
set_marked true false new old notion is shows = is ∙ shows
set_marked false true new old notion is shows = is ∙ shows
set_marked false false new old notion is shows = is ∙ shows

-- a line of another node says nothing
pub nothing_said : (says here notion : Bool) → here ≡ false → ((says && here) || notion) ≡ notion
nothing_said says here notion is = ap (λ (b : Bool). b || notion) (and_right says here is)

-- a client's line is of no turn of a target
pub no_turn : (s t c : ℕ) (n : Node) (stamp : ℕ) → n ≡ Client c → (stamp == s && is_target t n) ≡ false
no_turn s t c n stamp is = and_right (stamp == s) (is_target t n) (ap (is_target t) is)

pub only_nothing : {A : Type 0} (o : Option A) (here : Bool) → here ≡ false → only_here o here ≡ None
only_nothing None here is = refl
only_nothing (Some a) here is = ap (λ (b : Bool). then_some b a) is

-- a value is put at a key where the line says it
pub last_put : {A : Type 0} (b h : Bool) (a : A) (new old notion : Option A) → new ≡ (if h && b then Some a else old) → old ≡ notion → new
    ≡ or_else (only_here (then_some b a) h) notion
last_put true true a new old notion is shows = is
last_put true false a new old notion is shows = is ∙ shows
last_put false true a new old notion is shows = is ∙ shows
last_put false false a new old notion is shows = is ∙ shows

-- nothing is said by a line of another node
pub last_nothing : {A : Type 0} (o : Option A) (here : Bool) (old notion : Option A) → here ≡ false → old ≡ notion → old
    ≡ or_else (only_here o here) notion
last_nothing {A} o here old notion is shows = shows ∙ sym (ap (λ (p : Option A). or_else p notion) (only_nothing o here is))

-- ---- a line of this turn, before later ones

-- a key is added to a set where the entry says so
pub set_here : (says here : Bool) (new old notion : Bool) → here ≡ true → new ≡ (if says then true else old) → old ≡ notion → new
    ≡ ((says && here) || notion)
set_here says true new old notion is puts shows = by says puts where
  by : (says : Bool) → new ≡ (if says then true else old) → new ≡ ((says && true) || notion)
  by true puts = puts
  by false puts = puts ∙ shows
set_here says false new old notion is puts shows = absurd (cc)

-- a value is put at a key where the entry says it
pub next_here : {A : Type 0} (says here : Bool) (a : A) (new old notion : Option A) → here ≡ true → new ≡ (if says then Some a else old)
    → old ≡ notion
    → new ≡ or_else (only_here (then_some says a) here) notion
next_here {A} says true a new old notion is puts shows = by says puts where
  by : (says : Bool) → new ≡ (if says then Some a else old) → new ≡ or_else (only_here (then_some says a) true) notion
  by true puts = puts
  by false puts = puts ∙ shows
next_here says false a new old notion is puts shows = absurd (cc)

-- a value is taken out at a key, and another put there
pub put_back : {A : Type 0} (here : Bool) (a : A) (new between old : Option A) → new ≡ (if here then Some a else between) → between
    ≡ (if here then None else old)
    → new ≡ (if here then Some a else old)
put_back true a new between old puts takes = puts
put_back false a new between old puts takes = puts ∙ takes

-- a number is put at a target
pub settled_put : (same : Bool) (n m : ℕ) (new old rest : Option ℕ) → new ≡ (if same then Some n else old) → (same ≡ true → n ≡ m)
    → unwrap_or old 0 ≡ unwrap_or rest 0
    → unwrap_or new 0 ≡ unwrap_or (or_else (then_some same m) rest) 0
settled_put true n m new old rest puts is shown = ap (λ (o : Option ℕ). unwrap_or o 0) puts ∙ is refl
settled_put false n m new old rest puts is shown = ap (λ (o : Option ℕ). unwrap_or o 0) puts ∙ shown

-- the entry says so, or it says nothing
pub marked_here : (here new old : Bool) → new ≡ (if here then true else old) → new ≡ (if here && true then true else old)
marked_here true new old is = is
marked_here false new old is = is

pub unmarked : (here old : Bool) → old ≡ (if here && false then true else old)
unmarked true old = refl
unmarked false old = refl
