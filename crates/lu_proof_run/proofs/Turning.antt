-- What a scenario has come to after its start, after a step and after a turn in which no call to a disk fails, whichever later calls fail;
-- and after one in which a call fails.
use Rattle.std.proofs.Common.{◌≡◌, ◌≤◌, ◌<◌, ℕ, ◌+◌, if◌then◌else◌, Bool, true, false, List, Option, Some, None, refl, sym, subst, ap, ◌∙◌}
use Rattle.std.proofs.Common.{arith}
use Rattle.std.specs.Prelude.{◌||◌, All, [], length, nat_le, nat_lt}
use Rattle.std.proofs.lemmas.Bool.Decides.{nat_tests}
use Rattle.std.proofs.lemmas.List.Elements.{All-weaker}
use Rattle.lu_base.specs.declared.ids.At.{At}
use Rattle.lu_base.specs.declared.ids.Node.{Node}
use Rattle.lu_base.specs.declared.ids.Node.TheVariants.{Target}
use Rattle.lu_scene.specs.Grammar.{LineFits}
use Rattle.lu_scene.specs.declared.scene.Head.{Head as SceneHead}
use Rattle.lu_scene.specs.declared.scene.Scene.{Scene}
use Rattle.lu_scene.specs.declared.scene.SceneLine.{SceneLine}
use Rattle.lu_scene.specs.declared.scene.SceneLine.TheVariants.{RunSome}
use Rattle.lu_spec_entries.specs.Words.{Entry, Line, with_turn as with_lines}
use Rattle.lu_spec_target.specs.Disks.{calls, failing, row_start}
use Rattle.lu_spec_target.specs.Rows as target
use Rattle.lu_spec_run.specs.Heads.{Head}
use Rattle.lu_spec_run.specs.Runs.{EventAt, Turn, lines_of, Meets, HasNumbers, row_at, row, has_failed}
use Rattle.lu_spec_run.specs.Limits.{KeepsLimits}
use Rattle.lu_spec_run.specs.Scenarios.{Config, Disks, Stops, Goes, Fails, head_of, past_of, is_full, with_turn, calls_at, fails_at}
use Rattle.lu_spec_run.specs.Scenarios.{start_turn, turn_of, due, next_by, Leads, here, more, start}
use Rattle.lu_proof_run.specs.InTable.{next_at, InTable}
use Rattle.lu_proof_run.proofs.Disks.{failing_past}
use Rattle.lu_proof_run.proofs.Runs.{first_in, turned_in}
use Rattle.lu_proof_run.proofs.Unfailing.{no_fail}
use Rattle.lu_proof_run.proofs.Unfailed.{failed_same, node_unfailing, turn_unfailed}
use Rattle.lu_proof_run.specs.Steps.{Spares, one_failing, none_failing, made, broken, LeftFits, before, LeadsTo, GoesOn, IsDue, BreaksAt}
use Rattle.lu_proof_run.proofs.Sparing.{spares_before, spares_turn, starts_spared, none_spares, one_spares, one_fails, one_starts}

-- ---- the start

fits_left : (head : SceneHead) (line : SceneLine) → LineFits head line → LeftFits head line
fits_left head (RunSome turns) fits = fits.1
fits_left head line fits = fits

pub first_leads : (scene : Scene) → KeepsLimits scene → LeadsTo scene (before scene)
first_leads scene limits = record {
  limits = limits;
  leads = λ disks spares.
      subst (λ (o : Option ℕ). Leads (head_of scene.head) disks (record { turns = start_turn o; posts = []; lines = scene.lines })
      (before scene))
      (sym (starts_spared disks 0 (scene.head.osts + 1) spares))
      (here (before scene));
  unfailed = refl;
  table = first_in (head_of scene.head) scene.lines;
  lines = All-weaker (LineFits scene.head) (LeftFits scene.head) (fits_left scene.head) scene.lines limits.lines;
}

-- a target's start fails
pub start_breaks : (scene : Scene) (t : ℕ) → KeepsLimits scene → t ≤ scene.head.osts
    → BreaksAt scene t (with_turn (before scene) (record {
      at = record { stamp = record { 0 = 1 }; node = Target t };
      entries =
          row_start true;
    }))
start_breaks scene t limits one =
    let turn : Turn = record { at = record { stamp = record { 0 = 1 }; node = Target t }; entries = row_start true } in
    let disks : Disks = one_failing t 0 in
    record {
      disks = disks;
      leads =
          subst (λ (o : Option ℕ). Leads (head_of scene.head) disks (record { turns = start_turn o; posts = []; lines = scene.lines })
          (with_turn (before scene) turn))
          (sym (one_starts t 0 (scene.head.osts + 1) (omega arith) (omega arith)))
          (here (with_turn (before scene) turn));
      failed = refl;
      last = turn;
      earlier = [];
      turns = refl;
      target = refl;
      one = one;
    }

-- ---- a step that makes no turn

-- disks that spare a past spare that of the same turns
same_spared : (disks : Disks) (a b : List Turn) → a ≡ b → Spares disks (lines_of a) → Spares disks (lines_of b)
same_spared disks a b same spares = subst (λ (turns : List Turn). Spares disks (lines_of turns)) same spares

same_failed : (a b : List Turn) (failed : Bool) → a ≡ b → has_failed (lines_of b) ≡ failed → has_failed (lines_of a) ≡ failed
same_failed a b failed same is = ap (λ (turns : List Turn). has_failed (lines_of turns)) same ∙ is

pub goes_leads : (scene : Scene) (c d : Config) → LeadsTo scene c → GoesOn scene c (Goes d) → d.turns ≡ c.turns
    → InTable (head_of scene.head) d
    → All (LeftFits scene.head) d.lines → LeadsTo scene d
goes_leads scene c d is goes same table fits = record {
  limits = is.limits;
  leads = λ disks spares.
      more (start (head_of scene.head) disks scene) c d (is.leads disks (same_spared disks d.turns c.turns same spares)) (goes disks);
  unfailed = same_failed d.turns c.turns false same is.unfailed;
  table = table;
  lines = fits;
}

-- where no disk ever fails
pub none_leads : (scene : Scene) (c : Config) → LeadsTo scene c
    → Leads (head_of scene.head) none_failing (start (head_of scene.head) none_failing scene) c
none_leads scene c is = is.leads none_failing (none_spares (past_of c))

-- ---- a turn that is due

-- the turn, by which of its calls fails
turn_made : (head : Head) (disks : Disks) (from : Config) (node : Node) (event : EventAt node) (fails : Option ℕ) → is_full from ≡ false
    → fails_at disks (past_of from) node (row_at head (past_of from) (next_at from node) node event) ≡ fails
    → due head disks from node event ≡ Goes (with_turn from (record
    { at = next_at from node; entries = row head (past_of from) (next_at from node) event fails }))
turn_made head disks from node event fails room which =
    ap (λ (full : Bool). if full then Stops else Goes (with_turn from (turn_of head disks from node event))) room
    ∙ ap (λ (o : Option ℕ). Goes (with_turn from (record {
      at = next_at from node;
      entries =
          row head (past_of from) (next_at from node) event o;
    }))) which

-- no call fails
pub made_leads : (scene : Scene) (c from : Config) (node : Node) (event : EventAt node) → LeadsTo scene c → IsDue scene c from node event
    → is_full from ≡ false → Meets (head_of scene.head) (past_of from) node event
    → HasNumbers (head_of scene.head) (past_of from) (next_at from node) node event
    → LeadsTo scene (made (head_of scene.head) from node event)
made_leads scene c from node event is turn room meets numbers =
    let head = head_of scene.head in
    let past = past_of from in
    let at = next_at from node in
    let es = row_at head past at node event in
    let unfailed : has_failed past ≡ false = same_failed from.turns c.turns false turn.turns is.unfailed in
    record {
      limits = is.limits;
      leads = λ disks spares.
          more (start head disks scene) c (made head from node event)
          (is.leads disks (same_spared disks from.turns c.turns turn.turns (spares_before disks past at es spares)))
          (turn.next disks ∙ turn_made head disks from node event None room (spares_turn disks past at es spares));
      unfailed = turn_unfailed head past at event ∙ unfailed;
      table = turned_in head from node event turn.table unfailed meets numbers;
      lines = turn.lines;
    }

-- whether a limit forbids it is known before
pub full_same : (scene : Scene) (c from : Config) (node : Node) (event : EventAt node) → IsDue scene c from node event → is_full from
    ≡ is_full c
full_same scene c from node event turn =
    ap (λ (turns : List Turn). nat_le 65536 (length turns) || nat_le 131072 (length from.posts)) turn.turns
    ∙ ap (λ (count : ℕ). nat_le 65536 (length c.turns) || nat_le 131072 count) turn.posts

-- one does
pub due_stops : (scene : Scene) (c from : Config) (node : Node) (event : EventAt node) → IsDue scene c from node event → is_full from ≡ true
    → GoesOn scene c Stops
due_stops scene c from node event turn full =
    λ disks. turn.next disks
    ∙ ap (λ (is : Bool). if is then Stops else Goes (with_turn from (turn_of (head_of scene.head) disks from node event))) full

-- ---- a turn in which a call fails

-- it's one of those that the turn makes
is_within : (at : At) (es : List Entry) (n : ℕ) (past : List Line) → no_fail es ≡ true → has_failed past ≡ false
    → has_failed (with_lines at (failing es n) past) ≡ true → n < calls es
is_within at es n past none unfailed failed = by (nat_lt n (calls es)) refl
  where
    by : (few : Bool) → nat_lt n (calls es) ≡ few → n < calls es
    by true few = grind (arith, nat_tests, few)
    by false few =
        let enough : calls es ≤ n = grind (arith, nat_tests, few) in
        let whole : has_failed (with_lines at es past) ≡ true =
        subst (λ (entries : List Entry). has_failed (with_lines at entries past) ≡ true) (failing_past es n enough) failed in
        let both : true ≡ false = sym whole ∙ failed_same at es past none ∙ unfailed in
        absurd (cc)

pub broken_breaks : (scene : Scene) (c from : Config) (t : ℕ) (event : target.Event) (n : ℕ) → LeadsTo scene c
    → IsDue scene c from (Target t) event → is_full from ≡ false → t ≤ scene.head.osts
    → has_failed (past_of (broken (head_of scene.head) from t event n)) ≡ true
    → BreaksAt scene t (broken (head_of scene.head) from t event n)
broken_breaks scene c from t event n is turn room one failed =
    let head = head_of scene.head in
    let past = past_of from in
    let at = next_at from (Target t) in
    let es = row_at head past at (Target t) event in
    let disks : Disks = one_failing t (calls_at t past + n) in
    let unfailed : has_failed past ≡ false = same_failed from.turns c.turns false turn.turns is.unfailed in
    let within : n < calls es = is_within at es n past (node_unfailing head past at (Target t) event) unfailed failed in
    let spares : Spares disks past = one_spares t (calls_at t past + n) past (omega arith) in
    record {
      disks = disks;
      leads =
          more (start head disks scene) c (broken head from t event n)
          (is.leads disks (same_spared disks from.turns c.turns turn.turns spares))
          (turn.next disks ∙ turn_made head disks from (Target t) event (Some n) room (one_fails t n past es within));
      failed = failed;
      last = record { at = at; entries = failing es n };
      earlier = from.turns;
      turns = refl;
      target = refl;
      one = one;
    }

-- nothing comes after it
pub breaks_next : (scene : Scene) (t : ℕ) (c : Config) → BreaksAt scene t c → GoesOn scene c Fails
breaks_next scene t c breaks = λ disks. ap (λ (failed : Bool). if failed then Fails else next_by (head_of scene.head) disks c c.lines)
    breaks.failed
