-- The pass before the first line, and after the last one.
use Rattle.std.proofs.Common.{◌≡◌, ℕ, ◌<◌, ◌≤◌, Bool, true, false, List, [], ◌∷◌, length, drop, refl, ap, ◌∙◌, sym, subst, arith}
use Rattle.std.specs.Prelude.{reverse, Option, Some, None}
use Rattle.std.proofs.lemmas.List.{drop_all}
use Rattle.lu_trace.specs.declared.entries.Line.{Line}
use Rattle.lu_spec_laws.specs.Words.Pasts.{Past}
use Rattle.lu_spec_laws.specs.Words.Glimpses.{machine_cut}
use Rattle.lu_spec_laws.specs.Laws.Glimpse.{Glimpse}
use Rattle.lu_judge_pass.specs.Firsts.{HoldsBelow, IsFirst}
use Rattle.lu_judge_glimpse.specs.declared.counts.Counts.{Counts}
use Rattle.lu_judge_glimpse.specs.declared.sightings.Sightings.{Sightings}
use Rattle.lu_judge_glimpse.specs.declared.glimpses.Pass.{Pass}
use Rattle.lu_judge_glimpse.specs.declared.wanted.Wanted.{Wanted}
use Rattle.lu_judge_glimpse.specs.Shown.{ends, turn_end, law_of, past_of, later_of, Shown}
use Rattle.lu_judge_glimpse.specs.Wanted.{meets, IsLeast}
use Rattle.lu_judge_glimpse.specs.Watched.{SeenNext}
use Rattle.lu_judge_glimpse.proofs.Ended.{none_holds}

pub seen_none : (s : Sightings) (counts : Counts) (osts : ℕ) (later : List Line) → SeenNext s counts osts [] later
seen_none s counts osts [] = tt
seen_none s counts osts (l ∷ later) = λ c slot. tt

ends_none : (past : Past) → ends past [] ≡ true
ends_none [] = refl
ends_none (l ∷ past) = refl

-- where no line is left the law holds at each
pub all_hold : (p : Pass) → Shown p → length p.lines.now ≤ p.place → HoldsBelow (law_of p) p.lines.now (length p.lines.now)
all_hold p shown past_all j below d =
    let none : drop p.place p.lines.now ≡ [] = drop_all p.place p.lines.now past_all in
    let done : p.wanted.items ≡ [] = shown.done (ap (ends (past_of p)) none ∙ ends_none (past_of p)) in
    let least : IsLeast (meets (machine_cut p.history.osts (turn_end (past_of p) (later_of p)))) p.wanted.items None =
    subst (λ (ws : List Wanted). IsLeast (meets (machine_cut p.history.osts (turn_end (past_of p) (later_of p)))) ws None) (sym done)
    (λ i. refl)
    in
    none_holds (law_of p) p.lines.now p.place (meets (machine_cut p.history.osts (turn_end (past_of p) (later_of p)))) p.wanted.items
    shown.kept.pending least j (omega (arith, below, past_all)) d

pub same_first : (lines others : List Line) (m n : ℕ) (o : Option ℕ) → lines ≡ others → m ≡ n → IsFirst (Glimpse m (reverse lines)) lines o
    → IsFirst (Glimpse n (reverse others)) others o
same_first lines others m n o same equal first =
    subst (λ (k : ℕ). IsFirst (Glimpse k (reverse others)) others o) equal
    (subst (λ (ls : List Line). IsFirst (Glimpse m (reverse ls)) ls o) same first)

pub same_holds : (lines others : List Line) (m n : ℕ) → lines ≡ others → m ≡ n → HoldsBelow (Glimpse m (reverse lines)) lines (length lines)
    → HoldsBelow (Glimpse n (reverse others)) others (length others)
same_holds lines others m n same equal holds =
    subst (λ (k : ℕ). HoldsBelow (Glimpse k (reverse others)) others (length others)) equal
    (subst (λ (ls : List Line). HoldsBelow (Glimpse m (reverse ls)) ls (length ls)) same holds)
