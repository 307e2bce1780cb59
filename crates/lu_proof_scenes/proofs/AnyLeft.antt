-- A run of fewer turns than 2^26 in which no disk has failed goes on with each turn that comes later and may come: numbers are left.
use Rattle.std.proofs.Common.{◌≡◌, ℕ, suc, ◌<◌, Bool, true, false, List, [], ◌∷◌, Option, inl, inr, refl, sym, subst, arith}
use Rattle.std.specs.Prelude.{nat_eq, length}
use Rattle.std.proofs.lemmas.Bool.{eqb-true}
use Rattle.lu_base.specs.declared.ids.At.{At}
use Rattle.lu_base.specs.declared.ids.Node.{Node}
use Rattle.lu_base.specs.declared.ids.Node.TheVariants.{Client, Target}
use Rattle.lu_base.specs.declared.ids.Stamp.{Stamp}
use Rattle.lu_spec_entries.specs.Words.{Entry, Fail, Line, line, with_turn}
use Rattle.lu_spec_target.specs.Rows as target
use Rattle.lu_spec_target.specs.States.{Target as TargetState, turn as turned}
use Rattle.lu_spec_run.specs.Heads.{Head}
use Rattle.lu_spec_run.specs.Runs.{EventAt, has_failed, start_failed, row_at, row, Meets, MeetsTarget, HasNumbers, Turn, lines_of, Follows}
use Rattle.lu_spec_run.specs.Runs.{IsTurn, IsRun, setting_of, target_of}
use Rattle.lu_proof_run.proofs.Targets.{target_own, target_other}
use Rattle.lu_proof_lawful.proofs.Preconditions.Grown.{Grown}
use Rattle.lu_proof_lawful.proofs.Preconditions.Turns.{covered_head}
use Rattle.lu_proof_lawful.proofs.Preconditions.Lists.{self, turn}
use Rattle.lu_proof_lawful.proofs.Preconditions.Obey.{grown}
use Rattle.lu_proof_scenes.proofs.Numbers.{Below, more_below}
use Rattle.lu_proof_scenes.proofs.NumberRows.{comes_below, tick_below, commit_command_below, crash_command_below, close_command_below}
use Rattle.lu_proof_scenes.proofs.NumberRows.{boot_command_below, has_numbers}
use Rattle.lu_proof_scenes.proofs.Served.{OfRun}
use Rattle.lu_proof_scenes.proofs.AnyTurn.{MayAsk, Sound, of_run, arrives}
use Rattle.lu_proof_scenes.proofs.AnyRun.{differ, unfailed_before, row_whole, sound}

-- no start has failed
start_unfailed : (past : List Line) → has_failed past ≡ false → start_failed past ≡ false
start_unfailed [] unfailed = refl
start_unfailed (l ∷ []) unfailed = by l.entry unfailed
  where
    by : (e : Entry) → has_failed (line l.at e ∷ []) ≡ false → start_failed (line l.at e ∷ []) ≡ false
    by Fail unfailed = absurd (differ unfailed)
    by e unfailed = refl
start_unfailed (l ∷ m ∷ past) unfailed = start_unfailed (m ∷ past) (unfailed_before l.at (l.entry ∷ []) (m ∷ past) unfailed)

-- the numbers that each target has given out by so many turns
abbrev pub Counted : Head → ℕ → List Line → Type 0
Counted head n past = (t : ℕ) → Below n (target_of head t past)

module _ (head : Head) (past : List Line) (s : Sound head past) (g : Grown (covered_head head) past) (n : ℕ) (few : n < 67108864)
    (below : Counted head n past) (stamp : Stamp) where
  -- those of a target's own turn
  own_below : (t : ℕ) (event : target.Event) → MeetsTarget head past t event
      → Below (suc n) (turned (target_of head t past) (row_at head past (turn stamp (Target t)) (Target t) event))
  own_below t event meets = by event meets
    where
      v : TargetState
      v = target_of head t past

      at : At
      at = turn stamp (Target t)

      runs : OfRun head.clients v
      runs = of_run head past s t

      by : (event : target.Event) → MeetsTarget head past t event → Below (suc n) (turned v (row_at head past at (Target t) event))
      by (target.Comes k from m) meets = let a = arrives head past s g t k from m meets.3
          in comes_below n head.clients v runs (below t) MayAsk at k from m a.served a.fits
      by target.Ticks meets = tick_below n head.clients v at runs (below t)
      by (target.Commits count) meets = commit_command_below n v at count (below t)
      by target.Crashes meets = crash_command_below n v at (below t)
      by target.Boots meets = boot_command_below n head.clients v at (omega (arith, few)) runs (below t)
      by target.Closes meets = close_command_below n head.clients v at runs (below t)

  turn_below : (node : Node) (event : EventAt node) → Meets head past node event
      → Counted head (suc n) (with_turn (turn stamp node) (row_at head past (turn stamp node) node event) past)
  turn_below (Client c) event meets u =
      subst (Below (suc n)) (sym (target_other (setting_of head u) head.clients past (turn stamp (Client c))
      (row_at head past (turn stamp (Client c)) (Client c) event) refl))
      (more_below n (target_of head u past) (below u))
  turn_below (Target t) event meets u = by (nat_eq u t) refl
    where
      at : At
      at = turn stamp (Target t)

      es : List Entry
      es = row_at head past at (Target t) event

      by : (b : Bool) → nat_eq u t ≡ b → Below (suc n) (target_of head u (with_turn at es past))
      by false e = subst (Below (suc n)) (sym (target_other (setting_of head u) head.clients past at es e))
          (more_below n (target_of head u past) (below u))
      by true e =
          let same : u ≡ t = eqb-true u t e in
          subst (λ (k : ℕ). Below (suc n) (target_of head k (with_turn at es past))) (sym same)
          (subst (Below (suc n)) (sym (target_own (setting_of head t) head.clients past at es (self t))) (own_below t event meets))

  pub numbers_left : (node : Node) (event : EventAt node) → Meets head past node event → HasNumbers head past (turn stamp node) node event
  numbers_left (Client c) event meets = tt
  numbers_left (Target t) event meets = has_numbers (suc n) (target_of head t past)
      (row_at head past (turn stamp (Target t)) (Target t) event) (own_below t event meets) (omega (arith, few))

pub counted : (head : Head) (turns : List Turn) → IsRun head turns → has_failed (lines_of turns) ≡ false → length turns < 67108865
    → Counted head (length turns) (lines_of turns)
counted head [] run unfailed few = λ t. record {
  queue = tt;
  few = omega arith;
  number = omega arith;
  cookie = omega arith;
  boot =
      omega arith;
  disk = refl;
  waiting = tt;
}
counted head (t ∷ turns) run unfailed few =
    let before = unfailed_before t.at t.entries (lines_of turns) unfailed in
    by run.1 before (counted head turns run.2 before (omega (arith, few)))
  where
    by : IsTurn head turns t → has_failed (lines_of turns) ≡ false → Counted head (length turns) (lines_of turns)
        → Counted head (length (t ∷ turns)) (lines_of (t ∷ turns))
    by (inl r) before below =
        let s = sound head turns run.2 before in
        subst (λ (es : List Entry). Counted head (suc (length turns)) (with_turn t.at es (lines_of turns)))
        (sym (row_whole head (lines_of turns) t.at t.entries r unfailed))
        (turn_below head (lines_of turns) s (grown head turns run.2 s.covered) (length turns) (omega (arith, few)) below t.at.stamp
        t.at.node r.event r.meets)
    by (inr f) before below = absurd (differ (subst (λ (es : List Entry). has_failed (with_turn t.at es (lines_of turns)) ≡ false) f.is
        unfailed))

pub goes_on : (head : Head) (turns : List Turn) → IsRun head turns → has_failed (lines_of turns) ≡ false → length turns < 67108864
    → (at : At) (event : EventAt at.node) (fails : Option ℕ) → Follows turns at → Meets head (lines_of turns) at.node event
    → IsRun head (record { at = at; entries = row head (lines_of turns) at event fails } ∷ turns)
goes_on head turns run unfailed few at event fails follows meets =
    let s = sound head turns run unfailed in (
      follows,
      inl
          (record {
            event = event;
            fails = fails;
            goes_on = start_unfailed (lines_of turns) unfailed;
            meets = meets;
            numbers = numbers_left head (lines_of turns) s (grown head turns run s.covered) (length turns) few
                (counted head turns run unfailed (omega (arith, few))) at.stamp at.node event meets;
            is = refl;
          }),
      run,
    )
