-- What an entry of a map makes of what the map shows.
use Rattle.std.proofs.Common.{◌≡◌, ℕ, ◌<◌, ◌≤◌, Bool, true, false, List, [], ◌∷◌, length, refl, ap, ◌∙◌, sym, subst, arith}
use Rattle.std.specs.Prelude.{if◌then◌else◌, nat_eq, reverse, take, Option, Some, None, unwrap_or}
use Rattle.std.proofs.lemmas.List.{length-reverse, length-take-le}
use Rattle.lu_trace.specs.declared.entries.Line.{Line}
use Rattle.lu_judge_pass.specs.Firsts.{before}
use Rattle.std.proofs.lemmas.Bool.{eqb-true}
use Rattle.lu_base.specs.declared.ids.Node.{Node}
use Rattle.lu_base.specs.declared.ids.Node.TheVariants.{Client, Target}
use Rattle.lu_msg.specs.declared.answers.Answer.{Answer}
use Rattle.lu_msg.specs.declared.answers.Answer.TheVariants as told
use Rattle.lu_trace.specs.declared.entries.Entry.{Entry}
use Rattle.lu_trace.specs.declared.entries.Entry.TheVariants.{Told}
use Rattle.lu_spec_laws.specs.Words.Pasts.{Past}
use Rattle.lu_judge_glimpse.specs.declared.counts.Counts.{Counts}
use Rattle.lu_judge_glimpse.specs.Begins.{begun_place, count_in, CountedBy, CountedAt}

-- a number is put at a key
pub put_number : (here : Bool) (x y : ℕ) (new old : Option ℕ) (notion : ℕ) → new ≡ (if here then Some x else old) → x ≡ y → unwrap_or old 0
    ≡ notion
    → unwrap_or new 0 ≡ (if here then y else notion)
put_number true x y new old notion is same shows = rw is same
put_number false x y new old notion is same shows = rw is shows

-- a number that is above what stood at its key
pub raised : (place other x : ℕ) (at : ℕ → Option ℕ) (new : Option ℕ) → new ≡ (if nat_eq place other then Some x else at other)
    → unwrap_or (at place) 0 < x
    → unwrap_or (at other) 0 ≤ unwrap_or new 0
raised place other x at new is above = by (nat_eq place other) refl
  where
    by : (here : Bool) → nat_eq place other ≡ here → unwrap_or (at other) 0 ≤ unwrap_or new 0
    by true e =
        let put : new ≡ Some x = is ∙ ap (λ (v : Bool). if v then Some x else at other) e in
        let less : unwrap_or (at other) 0 < x = subst (λ (k : ℕ). unwrap_or (at k) 0 < x) (eqb-true place other e) above in
        rw put (omega (arith, less))
    by false e =
        let kept : new ≡ at other = is ∙ ap (λ (v : Bool). if v then Some x else at other) e in
        rw kept (omega arith)

-- what was counted is counted still
pub counted_more : (old new : Counts) (past : Past) (node : Node) (e : Entry) → ((place : ℕ) → count_in old place ≤ count_in new place)
    → CountedAt old past node e → CountedAt new past node e
counted_more old new past (Client c) (Told slot turn (told.Sizes sizes)) more counted =
    let here = more (begun_place c slot past) in omega (arith, here, counted)
counted_more old new past (Target t) (Told slot turn (told.Sizes sizes)) more counted = tt
counted_more old new past node _ more counted = counted

-- a place is how many lines stand before it
pub before_length : (lines : List Line) (place : ℕ) → place ≤ length lines → length (before lines place) ≡ place
before_length lines place within = length-reverse (take place lines) ∙ length-take-le place lines within
