-- Every run of the whole table in which no disk had failed before its last turn has a lawful trace, whichever call fails in that.
use Rattle.std.proofs.Common.{◌≡◌, ℕ, ◌<◌, Bool, true, false, List, [], ◌∷◌, Option, Some, None, inl, inr, refl, sym, subst}
use Rattle.std.proofs.Common.{◌+◌, ap, arith}
use Rattle.std.specs.Prelude.{nat_lt}
use Rattle.std.proofs.lemmas.Bool.Decides.{nat_tests}
use Rattle.lu_base.specs.declared.ids.Node.{Node}
use Rattle.lu_base.specs.declared.ids.Node.TheVariants.{Client, Target}
use Rattle.lu_base.specs.declared.ids.Stamp.{Stamp}
use Rattle.lu_spec_entries.specs.Printed.{printed}
use Rattle.lu_spec_entries.specs.Words.{Entry, Commit, Boot, Line, line, with_turn}
use Rattle.lu_spec_target.specs.Disks.{calls, failing, over_disk}
use Rattle.lu_spec_target.specs.Rows as target
use Rattle.lu_spec_run.specs.Heads.{Head, IsHead}
use Rattle.lu_spec_run.specs.Runs.{EventAt, FailsAtStart, IsRow, IsRun, IsTurn, MeetsTarget, Turn, has_failed, lines_of, row_at, target_of}
use Rattle.lu_proof_run.proofs.Disks.{failing_past}
use Rattle.lu_proof_lawful.specs.Covered.Heads.{Head as Few}
use Rattle.lu_proof_lawful.specs.Covered.Runs.{AllCovered}
use Rattle.lu_proof_lawful.specs.Failing.{IsFirstCall}
use Rattle.lu_proof_lawful.specs.Lawful.{Lawful}
use Rattle.lu_proof_lawful.proofs.Failing.Turns.{lawful_failed, lawful_start}
use Rattle.lu_proof_lawful.proofs.Laws.Whole as whole
use Rattle.lu_proof_lawful.proofs.Preconditions.Grown.{Grown}
use Rattle.lu_proof_lawful.proofs.Preconditions.Guards.{EntryOk}
use Rattle.lu_proof_lawful.proofs.Preconditions.Lists.{turn}
use Rattle.lu_proof_lawful.proofs.Preconditions.Obey.{grown}
use Rattle.lu_proof_lawful.proofs.Preconditions.Turns.{covered_head}
use Rattle.lu_proof_scenes.specs.Unfailed.{OfRunsToFailure}
use Rattle.lu_proof_scenes.proofs.AnyRun.{sound}
use Rattle.lu_proof_scenes.proofs.AnyTurn.{MayAsk, Sound, arrives, of_run, turn_sound}
use Rattle.lu_proof_scenes.proofs.Calls.{comes_first, tick_first, commit_first, crash_first, close_first, boot_first}

-- ---- a client calls no disk

before_grown : (few : Few) (stamp : Stamp) (c : ℕ) (es : List Entry) (past : List Line)
    → Grown few (with_turn (turn stamp (Client c)) es past) → Grown few past
before_grown few stamp c [] past g = g
before_grown few stamp c (e ∷ es) past g = (before_grown few stamp c es (line (turn stamp (Client c)) e ∷ past) g).1

client_calls : (few : Few) (stamp : Stamp) (c : ℕ) (es : List Entry) (past : List Line)
    → Grown few (with_turn (turn stamp (Client c)) es past) → calls es ≡ 0
client_calls few stamp c [] past g = refl
client_calls few stamp c (e ∷ es) past g =
    by e (before_grown few stamp c es (line (turn stamp (Client c)) e ∷ past) g).0.ok
    (client_calls few stamp c es (line (turn stamp (Client c)) e ∷ past) g)
  where
    by : (x : Entry) → EntryOk past (turn stamp (Client c)) (Client c) x → calls es ≡ 0 → calls (x ∷ es) ≡ 0
    by (Commit to batch) ok more = absurd ok
    by (Boot boot disk) ok more = absurd ok
    by x ok more = ap (λ (n : ℕ). 0 + n) more

-- ---- the last turn

module _ (head : Head) (turns : List Turn) (is : IsHead head) (run : IsRun head turns)
    (unfailed : has_failed (lines_of turns) ≡ false) where
  abbrev past : List Line
  past = lines_of turns

  known : Sound head past
  known = sound head turns run unfailed

  g : Grown (covered_head head) past
  g = grown head turns run known.covered

  abbrev broken : (stamp : Stamp) (node : Node) → List Entry → Type 0
  broken stamp node es = Lawful head.osts (printed (with_turn (turn stamp node) es past))

  target_first : (stamp : Stamp) (t : ℕ) (event : target.Event) → MeetsTarget head past t event → (n : ℕ)
      → n < calls (row_at head past (turn stamp (Target t)) (Target t) event)
      → IsFirstCall (row_at head past (turn stamp (Target t)) (Target t) event) n
  target_first stamp t event meets = by event meets
    where
      by : (event : target.Event) → MeetsTarget head past t event → (n : ℕ)
          → n < calls (row_at head past (turn stamp (Target t)) (Target t) event)
          → IsFirstCall (row_at head past (turn stamp (Target t)) (Target t) event) n
      by (target.Comes k from m) meets =
          comes_first MayAsk head.clients (target_of head t past) (of_run head past known t) (turn stamp (Target t)) k from m
          (arrives head past known g t k from m meets.3).served
      by target.Ticks meets =
          tick_first MayAsk head.clients (target_of head t past) (of_run head past known t) (turn stamp (Target t))
      by (target.Commits count) meets =
          commit_first MayAsk head.clients (target_of head t past) (of_run head past known t) (turn stamp (Target t)) count
      by target.Crashes meets =
          crash_first MayAsk head.clients (target_of head t past) (of_run head past known t) (turn stamp (Target t))
      by target.Boots meets =
          boot_first MayAsk head.clients (target_of head t past) (of_run head past known t) (turn stamp (Target t))
      by target.Closes meets =
          close_first MayAsk head.clients (target_of head t past) (of_run head past known t) (turn stamp (Target t))

  -- a turn of which the row is known
  module _ (stamp : Stamp) where
    ends : (node : Node) (event : EventAt node) (fails : Option ℕ)
        → IsRun head (record { at = turn stamp node; entries = row_at head past (turn stamp node) node event } ∷ turns)
        → AllCovered (with_turn (turn stamp node) (row_at head past (turn stamp node) node event) past)
        → ((n : ℕ) → n < calls (row_at head past (turn stamp node) node event)
        → broken stamp node (failing (row_at head past (turn stamp node) node event) n))
        → broken stamp node (over_disk fails (row_at head past (turn stamp node) node event))
    ends node event None all covered breaks =
        whole.lawful head (record { at = turn stamp node; entries = row_at head past (turn stamp node) node event } ∷ turns) is all covered
    ends node event (Some n) all covered breaks = by (nat_lt n (calls es)) refl
      where
        es : List Entry
        es = row_at head past (turn stamp node) node event

        by : (b : Bool) → nat_lt n (calls es) ≡ b → broken stamp node (failing es n)
        by true e = breaks n (grind (arith, nat_tests, e))
        by false e =
            subst (broken stamp node) (sym (failing_past es n (grind (arith, nat_tests, e))))
            (whole.lawful head (record { at = turn stamp node; entries = es } ∷ turns) is all covered)

    row_ends : (node : Node) (event : EventAt node) (fails : Option ℕ)
        → IsRun head (record { at = turn stamp node; entries = row_at head past (turn stamp node) node event } ∷ turns)
        → AllCovered (with_turn (turn stamp node) (row_at head past (turn stamp node) node event) past)
        → (m : IsRow head past (turn stamp node) (row_at head past (turn stamp node) node event)) → m.event ≡ event
        → broken stamp node (over_disk fails (row_at head past (turn stamp node) node event))
    row_ends (Client c) event fails all covered m same =
        ends (Client c) event fails all covered (λ n low.
        let none = client_calls (covered_head head) stamp c (row_at head past (turn stamp (Client c)) (Client c) event) past
        (grown head (record { at = turn stamp (Client c); entries = row_at head past (turn stamp (Client c)) (Client c) event } ∷ turns)
        all covered) in
        absurd (omega (arith, none, low)))
    row_ends (Target t) event fails all covered m same =
        ends (Target t) event fails all covered (λ n low.
        lawful_failed head turns stamp t (row_at head past (turn stamp (Target t)) (Target t) event) is all covered n
        (target_first stamp t event (subst (λ (e : target.Event). MeetsTarget head past t e) same m.meets) n low))

pub run_failed : OfRunsToFailure (λ osts past. Lawful osts past)
run_failed head t turns is run unfailed = by run.1
  where
    by : IsTurn head turns t → Lawful head.osts (printed (lines_of (t ∷ turns)))
    by (inl r) =
        let past = lines_of turns in
        let es : List Entry = row_at head past t.at t.at.node r.event in
        let m : IsRow head past t.at es =
        record { event = r.event; fails = None; goes_on = r.goes_on; meets = r.meets; numbers = r.numbers; is = refl } in
        let s = sound head turns run.2 unfailed in
        let covered = (turn_sound head past s (grown head turns run.2 s.covered) t.at.stamp t.at.node r.event r.meets).covered in
        subst (λ (fs : List Entry). Lawful head.osts (printed (with_turn t.at fs past))) (sym r.is)
        (row_ends head turns is run.2 unfailed t.at.stamp t.at.node r.event r.fails (run.0, inl m, run.2) covered m refl)
    by (inr f) =
        subst (λ (ts : List Turn). Lawful head.osts (printed (lines_of (t ∷ ts)))) (sym f.first)
        (lawful_start head t is (subst (λ (ts : List Turn). FailsAtStart head ts t) f.first f))
