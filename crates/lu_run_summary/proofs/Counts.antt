-- Of so many lines at most so many are counted.
use Rattle.std.proofs.Common.{◌≡◌, ◌≤◌, ℕ, zero, suc, ◌+◌, Bool, true, false, List, [], ◌∷◌, take, length, filter, if◌then◌else◌, arith}
use Rattle.lu_trace.specs.declared.entries.Line.{Line}
use Rattle.lu_run_summary.specs.declared.summaries.Counted.{Counted}
use Rattle.lu_run_summary.specs.Summaries.{count_of, is_counted}

few : (k : Counted) (i : ℕ) (lines : List Line) → count_of k (take i lines) ≤ i
few k zero lines = omega arith
few k (suc i) [] = omega arith
few k (suc i) (line ∷ lines) = by (is_counted k line.entry) (few k i lines)
  where
    by : (b : Bool) → count_of k (take i lines) ≤ i → length (if b then line ∷ filter (λ l. is_counted k l.entry) (take i lines)
        else filter (λ l. is_counted k l.entry) (take i lines)) ≤ suc i
    by true less = omega (arith, less)
    by false less = omega (arith, less)

pub counted_few : (k : Counted) (i n : ℕ) (lines : List Line) → n ≡ count_of k (take i lines) → n ≤ i
counted_few k i n lines is = let most = few k i lines in omega (arith, is, most)
