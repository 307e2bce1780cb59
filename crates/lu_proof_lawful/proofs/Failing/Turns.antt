-- A covered run whose last turn, one of a target, is broken off by a failing call to its disk has a lawful trace.
use Rattle.std.proofs.Common.{◌≡◌, ℕ, zero, suc, List, [], ◌∷◌, ◌++◌, ◌⊎◌, inl, inr, refl, sym, subst, ap, ◌∙◌}
use Rattle.lu_base.specs.declared.ids.At.{At}
use Rattle.lu_base.specs.declared.ids.Node.{Node}
use Rattle.lu_base.specs.declared.ids.Node.TheVariants.{Target}
use Rattle.lu_base.specs.declared.ids.Stamp.{Stamp}
use Rattle.lu_spec_entries.specs.Carried.{Outcome}
use Rattle.lu_spec_entries.specs.Concerns.{only}
use Rattle.lu_spec_entries.specs.Printed.{printed}
use Rattle.lu_spec_entries.specs.Words.{Entry, Commit, Boot, Close, Fail, Line, line, with_turn}
use Rattle.lu_spec_target.specs.Disks.{failing}
use Rattle.lu_spec_target.specs.Lives.{lives_of as lives_in}
use Rattle.lu_spec_target.specs.Stored.{batch_of}
use Rattle.lu_spec_run.specs.Heads as table
use Rattle.lu_spec_run.specs.Runs.{Turn, lines_of, IsRun}
use Rattle.lu_proof_lawful.specs.Covered.Heads.{Head}
use Rattle.lu_proof_lawful.specs.Covered.Runs.{AllCovered}
use Rattle.lu_proof_lawful.specs.Covered.TargetCloses.{closing_of}
use Rattle.lu_proof_lawful.specs.Failing.{IsFirstCall, turn_of, OfEveryFailedRun, OfEveryFailedStart}
use Rattle.lu_spec_laws.specs.Lawful.{Lawful}
use Rattle.lu_proof_lawful.proofs.Preconditions.Covers.{covered_turn}
use Rattle.lu_proof_lawful.proofs.Preconditions.Grown.{Allowed, Grown}
use Rattle.lu_proof_lawful.proofs.Preconditions.Heard.{Later}
use Rattle.lu_proof_lawful.proofs.Preconditions.Lists.{self, turn}
use Rattle.lu_proof_lawful.proofs.Preconditions.Obey.{noted, settled}
use Rattle.lu_proof_lawful.proofs.Preconditions.Turns.{covered_head, run_later}
use Rattle.lu_proof_lawful.proofs.Laws.Agrees.{OfRun, earlier}
use Rattle.lu_proof_lawful.proofs.Laws.FitsNow.{ShownSoFar, shown_run}
use Rattle.lu_proof_lawful.proofs.Laws.Whole.{of_run, lawful}
use Rattle.lu_proof_lawful.proofs.Failing.Apart.{apart_before, apart_turn, others_before, others_turn}
use Rattle.lu_proof_lawful.proofs.Failing.BreakingPoint.{IsCall, IsBreak, IsClose, NoClose, turn_more, allowed_there, only_self}
use Rattle.lu_proof_lawful.proofs.Failing.BreakingPoint.{settled_there, noted_there}
use Rattle.lu_proof_lawful.proofs.Failing.Broken.{Breaks, with_fail, with_close}

-- ---- the first call of a turn

abbrev NoCall : List Entry → Type 0
NoCall [] = Unit {0}
NoCall (e ∷ es) = (IsCall e → ⊥) × NoCall es

-- a turn is broken off at its first call
record FirstCut (es fs : List Entry) : Type 0 where
  first : List Entry
  call : Entry
  rest : List Entry
  asks : IsCall call
  whole : es ≡ first ++ call ∷ rest
  breaks : fs ≡ first ++ Fail ∷ []
  none : NoCall first

more_cut : (e : Entry) (es fs : List Entry) → (IsCall e → ⊥) → (fs ≡ es) ⊎ FirstCut es fs → (e ∷ fs ≡ e ∷ es) ⊎ FirstCut (e ∷ es) (e ∷ fs)
more_cut e es fs never (inl s) = inl (ap (λ (xs : List Entry). e ∷ xs) s)
more_cut e es fs never (inr c) =
    inr (record {
      first = e ∷ c.first;
      call = c.call;
      rest = c.rest;
      asks = c.asks;
      whole = ap (λ (xs : List Entry). e ∷ xs) c.whole;
      breaks = ap (λ (xs : List Entry). e ∷ xs) c.breaks;
      none = (never, c.none);
    })

first_cut : (es : List Entry) → (failing es 0 ≡ es) ⊎ FirstCut es (failing es 0)
first_cut [] = inl refl
first_cut (Commit to batch ∷ es) =
    inr (record { first = []; call = Commit to batch; rest = es; asks = tt; whole = refl; breaks = refl; none = tt })
first_cut (Boot boot disk ∷ es) =
    inr (record { first = []; call = Boot boot disk; rest = es; asks = tt; whole = refl; breaks = refl; none = tt })
first_cut (e ∷ es) = more_cut e es (failing es 0) (λ k. absurd k) (first_cut es)

-- lines of which the first close, if any, isn't followed by a call
record Closed (es : List Entry) : Type 0 where
  before : List Entry
  outcome : Outcome
  after : List Entry
  none : NoClose before
  is : es ≡ before ++ Close outcome ∷ after
  calm : NoCall after

more_closed : (e : Entry) (es : List Entry) → (IsClose e → ⊥) → NoClose es ⊎ Closed es → NoClose (e ∷ es) ⊎ Closed (e ∷ es)
more_closed e es never (inl n) = inl (never, n)
more_closed e es never (inr c) =
    inr (record {
      before = e ∷ c.before;
      outcome = c.outcome;
      after = c.after;
      none = (never, c.none);
      is = ap (λ (xs : List Entry). e ∷ xs) c.is;
      calm = c.calm;
    })

closed_or : (es : List Entry) → NoCall es → NoClose es ⊎ Closed es
closed_or [] n = inl tt
closed_or (Close o ∷ es) n = inr (record { before = []; outcome = o; after = es; none = tt; is = refl; calm = n.1 })
closed_or (e ∷ es) n = more_closed e es (λ k. absurd k) (closed_or es n.1)

append_more : (xs ys zs : List Entry) → (xs ++ ys) ++ zs ≡ xs ++ (ys ++ zs)
append_more [] ys zs = refl
append_more (x ∷ xs) ys zs = ap (λ (es : List Entry). x ∷ es) (append_more xs ys zs)

call_breaks : (e : Entry) → IsCall e → IsBreak e
call_breaks (Commit to batch) k = tt
call_breaks (Boot boot disk) k = tt
call_breaks e k = absurd k

commit_calls : (e : Entry) (to : ℕ) (o : Outcome) → e ≡ Commit to (batch_of o.kept (lives_in o.gone) o.joins) → IsCall e
commit_calls e to o is = subst IsCall (sym is) tt

-- ---- the run

module _ (head : table.Head) (turns : List Turn) (is : table.IsHead head) (stamp : Stamp) (t : ℕ) (es : List Entry)
    (run : IsRun head (turn_of stamp t es ∷ turns)) (covered : AllCovered (lines_of (turn_of stamp t es ∷ turns))) where
  abbrev at : At
  at = turn stamp (Target t)

  abbrev past : List Line
  past = lines_of turns

  abbrev few : Head
  few = covered_head head

  before_covered : AllCovered past
  before_covered = (covered_turn at es past covered).1

  known : OfRun few (with_turn at es past)
  known = of_run head (turn_of stamp t es ∷ turns) is run covered

  all_shown : ShownSoFar few (with_turn at es past)
  all_shown = shown_run head (turn_of stamp t es ∷ turns) run covered

  later : Later past at
  later = run_later head turns at run.2 run.0

  before_grown : (xs : List Entry) (q : List Line) → Grown few (with_turn at xs q) → Grown few q
  before_grown [] q g = g
  before_grown (x ∷ xs) q g = (before_grown xs (line at x ∷ q) g).1

  before_known : (xs : List Entry) (q : List Line) → OfRun few (with_turn at xs q) → OfRun few q
  before_known [] q k = k
  before_known (x ∷ xs) q k = earlier few (line at x) q (before_known xs (line at x ∷ q) k)

  before_shown : (xs : List Entry) (q : List Line) → ShownSoFar few (with_turn at xs q) → ShownSoFar few q
  before_shown [] q s = s
  before_shown (x ∷ xs) q s = (before_shown xs (line at x ∷ q) s).1

  past_grown : Grown few past
  past_grown = before_grown es past known.grown

  -- where it breaks off, before a line that the whole turn has there
  module _ (first : List Entry) (e : Entry) (rest : List Entry) (whole : es ≡ first ++ e ∷ rest) where
    there : Allowed few (with_turn at first past) at e × Grown few (with_turn at first past)
    there = allowed_there few at first e rest past (subst (λ (xs : List Entry). Grown few (with_turn at xs past)) whole known.grown)

    split : with_turn at es past ≡ with_turn at (e ∷ rest) (with_turn at first past)
    split = ap (λ (xs : List Entry). with_turn at xs past) whole ∙ turn_more at first (e ∷ rest) past

    breaks : IsBreak e → NoClose first → Breaks few stamp t (with_turn at first past)
    breaks stops none =
        let ends = noted head turns run.2 before_covered in
        record {
          run = before_known (e ∷ rest) (with_turn at first past) (subst (OfRun few) split known);
          shown = before_shown (e ∷ rest) (with_turn at first past) (subst (ShownSoFar few) split all_shown);
          settled = settled_there few stamp t e first past stops (settled head turns run.2 before_covered) there.1 there.0.owes;
          noted = noted_there few stamp t e first past stops none ends there.0;
          steps = there.0.steps;
          others = others_turn few stamp t first past none (others_before few stamp t past past_grown later);
          apart = apart_turn few stamp t first past none (ends.shown t) (apart_before few stamp t past past_grown later);
        }

  abbrev Broken : List Entry → Type 0
  Broken fs = Lawful head.osts (printed (with_turn at fs past))

  fails_at : (first : List Entry) (call : Entry) (rest : List Entry) → es ≡ first ++ call ∷ rest → IsCall call → NoClose first
      → Broken (first ++ Fail ∷ [])
  fails_at first call rest whole asks none =
      subst (λ (p : List Line). Lawful head.osts (printed p)) (sym (turn_more at first (Fail ∷ []) past))
      (with_fail few stamp t (with_turn at first past) (breaks first call rest whole (call_breaks call asks) none))

  closes_at : (first : List Entry) (o : Outcome) (rest : List Entry) → es ≡ first ++ Close o ∷ rest → NoClose first
      → Broken (first ++ Close o ∷ Fail ∷ [])
  closes_at first o rest whole none =
      subst (λ (p : List Line). Lawful head.osts (printed p)) (sym (turn_more at first (Close o ∷ Fail ∷ []) past))
      (with_close few stamp t (with_turn at first past) (breaks first (Close o) rest whole tt none) o
      (there first (Close o) rest whole).0)

  -- next to a close stands its commit
  next_commits : (first : List Entry) (o : Outcome) (x : Entry) (rest : List Entry) → es ≡ first ++ Close o ∷ x ∷ rest → IsCall x
  next_commits first o x rest whole =
      let q = with_turn at first past in
      let split : with_turn at es past ≡ with_turn at (x ∷ rest) (line at (Close o) ∷ q) =
      ap (λ (xs : List Entry). with_turn at xs past) whole ∙ turn_more at first (Close o ∷ x ∷ rest) past in
      let g = before_grown rest (line at x ∷ line at (Close o) ∷ q) (subst (Grown few) split known.grown) in
      let shows = g.0.shows t (self t) in
      let due : closing_of few.clients (only t (line at (Close o) ∷ q)) ≡ closing_of few.clients (line at (Close o) ∷ only t q) =
      ap (closing_of few.clients) (only_self stamp t (Close o) q) in
      commit_calls x o.disk.committed o (shows _ _ due).0

  by_close : (first : List Entry) (call : Entry) (rest : List Entry) → es ≡ first ++ call ∷ rest → IsCall call
      → NoClose first ⊎ Closed first → Broken (first ++ Fail ∷ [])
  by_close first call rest whole asks (inl none) = fails_at first call rest whole asks none
  by_close first call rest whole asks (inr c) = by c.after c.is c.calm
    where
      at_close : (after : List Entry) → first ≡ c.before ++ Close c.outcome ∷ after
          → es ≡ c.before ++ Close c.outcome ∷ (after ++ call ∷ rest)
      at_close after is =
          whole ∙ ap (λ (xs : List Entry). xs ++ call ∷ rest) is ∙ append_more c.before (Close c.outcome ∷ after) (call ∷ rest)

      by : (after : List Entry) → first ≡ c.before ++ Close c.outcome ∷ after → NoCall after → Broken (first ++ Fail ∷ [])
      by [] is calm =
          subst Broken (sym (ap (λ (xs : List Entry). xs ++ Fail ∷ []) is ∙ append_more c.before (Close c.outcome ∷ []) (Fail ∷ [])))
          (closes_at c.before c.outcome (call ∷ rest) (at_close [] is) c.none)
      by (x ∷ after) is calm = absurd (calm.0 (next_commits c.before c.outcome x (after ++ call ∷ rest) (at_close (x ∷ after) is)))

  unbroken : (fs : List Entry) → fs ≡ es → Broken fs
  unbroken fs same = subst Broken (sym same) (lawful head (turn_of stamp t es ∷ turns) is run covered)

  at_first : Broken (failing es 0)
  at_first = by (first_cut es)
    where
      by : (failing es 0 ≡ es) ⊎ FirstCut es (failing es 0) → Broken (failing es 0)
      by (inl same) = unbroken (failing es 0) same
      by (inr c) = subst Broken (sym c.breaks) (by_close c.first c.call c.rest c.whole c.asks (closed_or c.first c.none))

  -- behind a boot
  behind : (boot : Entry) (xs : List Entry) → (IsClose boot → ⊥) → es ≡ boot ∷ xs → Broken (boot ∷ failing xs 0)
  behind boot xs never is = by (first_cut xs)
    where
      by : (failing xs 0 ≡ xs) ⊎ FirstCut xs (failing xs 0) → Broken (boot ∷ failing xs 0)
      by (inl same) = unbroken (boot ∷ failing xs 0) (ap (λ (ys : List Entry). boot ∷ ys) same ∙ sym is)
      by (inr c) =
          subst Broken (ap (λ (ys : List Entry). boot ∷ ys) (sym c.breaks))
          (by_close (boot ∷ c.first) c.call c.rest (is ∙ ap (λ (ys : List Entry). boot ∷ ys) c.whole) c.asks
          (more_closed boot c.first never (closed_or c.first c.none)))

  by_call : (xs : List Entry) → es ≡ xs → (n : ℕ) → IsFirstCall xs n → Broken (failing xs n)
  by_call xs is zero first = subst (λ (ys : List Entry). Broken (failing ys 0)) is at_first
  by_call (Boot boot disk ∷ xs) is (suc zero) first = fails_at [] (Boot boot disk) xs is tt tt
  by_call (Boot boot disk ∷ xs) is (suc (suc zero)) first = behind (Boot boot disk) xs (λ k. absurd k) is
  by_call xs is n first = absurd first

pub lawful_failed : OfEveryFailedRun (λ osts whole. Lawful osts whole)
lawful_failed head turns stamp t es is run covered n first = by_call head turns is stamp t es run covered es refl n first

-- ---- a start that fails is the only line

pub lawful_start : OfEveryFailedStart (λ osts whole. Lawful osts whole)
lawful_start head one is f =
    let at : one.at ≡ turn one.at.stamp (Target f.target) = ap (λ (n : Node). turn one.at.stamp n) f.node in
    subst (λ (es : List Entry). Lawful head.osts (printed (with_turn one.at es []))) (sym f.is)
    (subst (λ (a : At). Lawful head.osts (printed (with_turn a (Fail ∷ []) []))) (sym at)
    (with_fail (covered_head head) one.at.stamp f.target [] (record {
      run = of_run head [] is tt tt;
      shown = tt;
      settled = tt;
      noted = noted head [] tt tt;
      steps = tt;
      others = tt;
      apart = tt;
    })))
