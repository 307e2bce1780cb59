-- What a run leaves that has come to its end, to a limit or to a failing disk: its trace and its disks.
use Rattle.std.proofs.Common.{◌≡◌, ◌≤◌, ◌<◌, ℕ, zero, suc, ◌+◌, false, List, [], ◌∷◌, ◌++◌, length, Option, Some, None, Result, Ok, Err}
use Rattle.std.proofs.Common.{refl, sym, subst, ap, ◌∙◌, arith}
use Rattle.std.specs.Prelude.{All, map, reverse, slice_get}
use Rattle.std.specs.Option.{option_map}
use Rattle.std.specs.Prelude.{IsPermutation}
use Rattle.std.specs.Result.{IfOk, OnOk}
use Rattle.std.proofs.lemmas.List.Sorted.{All-permutation}
use Rattle.std.proofs.lemmas.List.{reverse-reverse, reverse-append, map-append, length-append, length-map, length-reverse, get_or-map}
use Rattle.std.proofs.lemmas.Option.{slice_get-map}
use Rattle.lu_base.specs.Faults.{Rose}
use Rattle.lu_base.specs.declared.ids.TargetId.{TargetId}
use Rattle.lu_scene.specs.declared.scene.Scene.{Scene}
use Rattle.lu_trace.specs.declared.entries.Line.{Line as PrintedLine}
use Rattle.lu_trace.specs.declared.traces.End.{End}
use Rattle.lu_trace.specs.declared.traces.End.TheVariants.{Done, Limit, Fault}
use Rattle.lu_trace.specs.declared.traces.Trace.{Trace}
use Rattle.lu_spec_entries.specs.Words.{Line}
use Rattle.lu_spec_entries.specs.Printed.{printed}
use Rattle.lu_spec_laws.specs.Lawful.{Lawful, IsLawful}
use Rattle.lu_spec_run.specs.Heads.{Head}
use Rattle.lu_spec_run.specs.Runs.{has_failed}
use Rattle.lu_spec_run.specs.Scenarios.{Config, Disks, head_of, past_of, Leads, start}
use Rattle.lu_core.proofs.LawfulScenes.{whichever_lawful}
use Rattle.lu_spec_run.specs.Limits.{KeepsLimits}
use Rattle.lu_proof_run.specs.Steps.{LeadsTo, none_failing}
use Rattle.lu_proof_run.proofs.Turning.{none_leads, breaks_next}
use Rattle.lu_proof_run.proofs.Due.{ends}
use Rattle.lu_run_wire.specs.Wires.{ShowsWire}
use Rattle.lu_run_nodes.specs.States.{DiskState, TargetSeat, NodesState, disk_in, disk_at, faults_of, seat_disk}
use Rattle.lu_run_nodes.specs.Disks.{HaveDisks, HoldsPast, HoldAll, disk_or_none, disks_of}
use Rattle.lu_run_nodes.proofs.Disks.{shown_have, shown_hold}
use Rattle.lu_core.specs.declared.players.Progress.{Progress}
use Rattle.lu_core.specs.declared.players.Progress.TheVariants as progress
use Rattle.lu_core.specs.declared.playing.Played.{Played}
use Rattle.lu_core.specs.States.{PlayerState}
use Rattle.lu_core.specs.Progress.{IsAt, HasBroken, Comes}
use Rattle.lu_core.specs.Played.{IsWhole, HasEnded, EndsWith, faults_at, AreBack, SomeRose, IsPlayed}

-- ---- where the run ended

-- its nodes have their disks
pub comes_have : (scene : Scene) (p : PlayerState) (came : Progress) → Comes scene [] p came → HaveDisks p.nodes
comes_have scene p progress.Made comes = shown_have (head_of scene.head) (length comes.0.turns) (past_of comes.0) p.nodes comes.1.nodes
comes_have scene p progress.Full comes = shown_have (head_of scene.head) (length comes.0.turns) (past_of comes.0) p.nodes comes.1.nodes
comes_have scene p (progress.Failed t) comes = comes.kept
comes_have scene p (progress.Broken t) comes = comes.kept

pub comes_count : (scene : Scene) (p : PlayerState) (came : Progress) → Comes scene [] p came → length p.nodes.objects ≡ scene.head.osts
comes_count scene p progress.Made comes = comes.1.nodes.objects
comes_count scene p progress.Full comes = comes.1.nodes.objects
comes_count scene p (progress.Failed t) comes = comes.count
comes_count scene p (progress.Broken t) comes = comes.count

-- what is known of it
pub record IsEnded (scene : Scene) (p : PlayerState) (how : End) (failed : Option TargetId) : Type 0 where
  pub disks : Disks
  pub config : Config
  pub leads : Leads (head_of scene.head) disks (start (head_of scene.head) disks scene) config
  pub ended : HasEnded scene disks config how failed
  pub wire : ShowsWire p.wire config
  pub unfailed : failed ≡ None → has_failed (past_of config) ≡ false
  pub holds : failed ≡ None → HoldAll (head_of scene.head) (past_of config) (disks_of p.nodes)
  pub rose : (t : TargetId) → failed ≡ Some t → (t.0 ≤ scene.head.osts) × Rose 0 (faults_of (disk_at p.nodes t.0))

none_some : (failed : Option TargetId) (t : TargetId) → failed ≡ None → failed ≡ Some t → ⊥
none_some failed t none some = absurd (cc)

same_some : (failed : Option TargetId) (t u : TargetId) → failed ≡ Some t → failed ≡ Some u → t ≡ u
same_some failed t u is same = cc

ended_as : (scene : Scene) (disks : Disks) (c : Config) (ended as_ended : End) (failed as_failed : Option TargetId) → ended ≡ as_ended
    → failed ≡ as_failed
    → HasEnded scene disks c as_ended as_failed → HasEnded scene disks c ended failed
ended_as scene disks c ended as_ended failed as_failed same is has =
    subst (λ (e : End). HasEnded scene disks c e failed) (sym same)
    (subst (λ (f : Option TargetId). HasEnded scene disks c as_ended f) (sym is) has)

is_whole : (scene : Scene) (c : Config) → LeadsTo scene c → IsWhole scene c
is_whole scene c leads = record { unfailed = leads.unfailed; run = leads.table.run }

pub comes_ended : (scene : Scene) (p : PlayerState) (came : Progress) (ended : End) (failed : Option TargetId) → Comes scene [] p came
    → EndsWith came ended failed
    → IsEnded scene p ended failed
comes_ended scene p progress.Made ended failed comes with =
    let c : Config = comes.0 in
    let at : IsAt scene p c = comes.1 in
    record {
      disks = none_failing;
      config = c;
      leads = none_leads scene c at.leads;
      ended = ended_as scene none_failing c ended Done failed None with.0 with.1
          (ends scene c at.leads comes.2 none_failing, is_whole scene c at.leads);
      wire = at.wire;
      unfailed = λ none. at.leads.unfailed;
      holds = λ none. shown_hold (head_of scene.head) (length c.turns) (past_of c) p.nodes at.nodes;
      rose = λ t some. absurd (none_some failed t with.1 some);
    }
comes_ended scene p progress.Full ended failed comes with =
    let c : Config = comes.0 in
    let at : IsAt scene p c = comes.1 in
    record {
      disks = none_failing;
      config = c;
      leads = none_leads scene c at.leads;
      ended = ended_as scene none_failing c ended Limit failed None with.0 with.1 (comes.2 none_failing, is_whole scene c at.leads);
      wire = at.wire;
      unfailed = λ none. at.leads.unfailed;
      holds = λ none. shown_hold (head_of scene.head) (length c.turns) (past_of c) p.nodes at.nodes;
      rose = λ t some. absurd (none_some failed t with.1 some);
    }
comes_ended scene p (progress.Failed t) ended failed comes with =
    let c : Config = comes.config in
    let breaks = comes.breaks in
    record {
      disks = breaks.disks;
      config = c;
      leads = breaks.leads;
      ended = ended_as scene breaks.disks c ended Fault failed (Some t) with.0 with.1
          (breaks_next scene t.0 c breaks breaks.disks, (breaks.last, breaks.earlier, breaks.turns, breaks.target));
      wire = comes.wire;
      unfailed = λ none. absurd (none_some failed t none with.1);
      holds = λ none. absurd (none_some failed t none with.1);
      rose = λ u some. subst (λ (v : TargetId). (v.0 ≤ scene.head.osts) × Rose 0 (faults_of (disk_at p.nodes v.0)))
          (same_some failed t u with.1 some) (breaks.one, comes.rose);
    }
comes_ended scene p (progress.Broken t) ended failed comes with = absurd with

-- ---- the disks

-- what stands in a list before another, and behind one
get_left : (xs ys : List DiskState) (t : ℕ) → t < length xs → slice_get (xs ++ ys) t ≡ slice_get xs t
get_left [] ys t below = absurd (none below)
  where
    none : t < 0 → ⊥
    none below = omega (arith, below)
get_left (x ∷ xs) ys zero below = refl
get_left (x ∷ xs) ys (suc t) below = get_left xs ys t (omega (arith, below))

get_right : (xs zs ys : List DiskState) (t : ℕ) → length xs ≡ length zs → length xs ≤ t → slice_get (xs ++ ys) t ≡ slice_get (zs ++ ys) t
get_right [] [] ys t same beyond = refl
get_right [] (z ∷ zs) ys t same beyond = let none : ⊥ = omega (arith, same) in absurd none
get_right (x ∷ xs) [] ys t same beyond = let none : ⊥ = omega (arith, same) in absurd none
get_right (x ∷ xs) (z ∷ zs) ys zero same beyond = let none : ⊥ = omega (arith, beyond) in absurd none
get_right (x ∷ xs) (z ∷ zs) ys (suc t) same beyond = get_right xs zs ys t (omega (arith, same)) (omega (arith, beyond))

pub map_reverse : {A B : Type 0} (f : A → B) (xs : List A) → map f (reverse xs) ≡ reverse (map f xs)
map_reverse f [] = refl
map_reverse f (x ∷ xs) =
    ap (map f) (reverse-append (x ∷ []) xs) ∙ map-append f (reverse xs) (x ∷ []) ∙ ap (λ ys. ys ++ f x ∷ []) (map_reverse f xs)
    ∙ sym (reverse-append (f x ∷ []) (map f xs))

-- disks are turned round, some are taken off the end, others are put there, and they are turned round again
module _ {D : Type 0} (view : D → DiskState) (first turned left taken given last : List D) (disks : List DiskState) where
  pub seen_first : turned ≡ reverse first → turned ≡ left ++ taken → map view first ≡ reverse (map view taken) ++ reverse (map view left)
  seen_first round off =
      ap (map view) (sym (reverse-reverse first) ∙ ap reverse (sym round ∙ off)) ∙ map_reverse view (left ++ taken)
      ∙ ap reverse (map-append view left taken) ∙ reverse-append (map view left) (map view taken)

  pub seen_last : map view given ≡ map view left ++ reverse disks → last ≡ reverse given → map view last ≡ disks ++ reverse (map view left)
  seen_last put round =
      ap (map view) round ∙ map_reverse view given ∙ ap reverse put ∙ reverse-append (map view left) (reverse disks)
      ∙ ap (λ ds. ds ++ reverse (map view left)) (reverse-reverse disks)

  taken_count : (n : ℕ) → length taken ≡ n → length (reverse (map view taken)) ≡ n
  taken_count n count = length-reverse (map view taken) ∙ length-map taken view ∙ count

  -- those of other targets are as they were
  pub are_back : (scene : Scene) → turned ≡ reverse first → turned ≡ left ++ taken → length taken ≡ scene.head.osts + 1 → map view given
      ≡ map view left ++ reverse disks
      → last ≡ reverse given → length disks ≡ scene.head.osts + 1 → length (map view first) ≡ 9
      → AreBack scene (map view first) (map view last)
  are_back scene round off took put again count nine =
      let rest : List DiskState = reverse (map view left) in
      let gone : List DiskState = reverse (map view taken) in
      let many : length gone ≡ scene.head.osts + 1 = taken_count (scene.head.osts + 1) took in
      let was = seen_first round off in
      let is = seen_last put again in
      let before = ap (λ (ds : List DiskState). length ds) was ∙ length-append gone rest in
      let after = ap (λ (ds : List DiskState). length ds) is ∙ length-append disks rest in
      record {
        nine = omega (arith, before, after, many, count, nine);
        others = λ t beyond. ap (λ ds. slice_get ds t) is ∙ get_right disks gone rest t (count ∙ sym many) (omega (arith, count, beyond))
            ∙ ap (λ ds. slice_get ds t) (sym was);
      }

-- what the disks of nodes hold, where others stand behind them
seats_count : (nodes : NodesState) (n : ℕ) → length nodes.objects ≡ n → length (disks_of nodes) ≡ n + 1
seats_count nodes n count = let seats = length-map nodes.objects (λ (seat : TargetSeat). disk_or_none (disk_in seat))
    in omega (arith, seats, count)

pub hold_longer : (head : Head) (past : List Line) (nodes : NodesState) (rest : List DiskState) → length nodes.objects ≡ head.osts
    → HoldAll head past (disks_of nodes)
    → HoldAll head past (disks_of nodes ++ rest)
hold_longer head past nodes rest count holds = λ t one.
    let seats = seats_count nodes head.osts count in
    subst (HoldsPast head past t) (sym (get_left (disks_of nodes) rest t (omega (arith, seats, one)))) (holds t one)

faults_or_none : (o : Option DiskState) → (disk_or_none o).faults ≡ faults_of o
faults_or_none (Some d) = refl
faults_or_none None = refl

faults_seat : (seat : Option TargetSeat)
    → elim (option_map (λ (s : TargetSeat). disk_or_none (disk_in s)) seat) [ Some d ↦ DiskState.faults d | None ↦ 0 ]
    ≡ faults_of (seat_disk seat)
faults_seat (Some seat) = faults_or_none (disk_in seat)
faults_seat None = refl

faults_there : (nodes : NodesState) (t : ℕ) → faults_at (disks_of nodes) t ≡ faults_of (disk_at nodes t)
faults_there nodes zero = faults_or_none (disk_in nodes.names)
faults_there nodes (suc i) =
    ap (λ (o : Option DiskState). elim o [ Some d ↦ d.faults | None ↦ 0 ])
    (slice_get-map (λ (s : TargetSeat). disk_or_none (disk_in s)) nodes.objects i)
    ∙ faults_seat (slice_get nodes.objects i)

pub faults_longer : (nodes : NodesState) (rest : List DiskState) (n t : ℕ) → length nodes.objects ≡ n → t ≤ n
    → faults_at (disks_of nodes ++ rest) t ≡ faults_of (disk_at nodes t)
faults_longer nodes rest n t count one =
    let seats = seats_count nodes n count in
    ap (λ (o : Option DiskState). elim o [ Some d ↦ d.faults | None ↦ 0 ]) (get_left (disks_of nodes) rest t (omega (arith, seats, one)))
    ∙ faults_there nodes t

pub rose_longer : (nodes : NodesState) (rest : List DiskState) (n t : ℕ) → length nodes.objects ≡ n → t ≤ n
    → Rose 0 (faults_of (disk_at nodes t))
    → Rose 0 (faults_at (disks_of nodes ++ rest) t)
rose_longer nodes rest n t count one rose = subst (Rose 0) (sym (faults_longer nodes rest n t count one)) rose

-- ---- what is left

pub is_played : (scene : Scene) (p : PlayerState) (played : Played) (rest : List DiskState) → IsEnded scene p played.end played.failed
    → length p.nodes.objects ≡ scene.head.osts → played.trace ≡ record { osts = scene.head.osts; entries = p.wire.entries }
    → IsPlayed scene played (disks_of p.nodes ++ rest)
is_played scene p played rest ended count trace =
    record {
      disks = ended.disks;
      config = ended.config;
      leads = ended.leads;
      ended = ended.ended;
      osts = ap (λ (t : Trace). t.osts) trace;
      entries = ap (λ (t : Trace). t.entries) trace ∙ ended.wire.entries;
      holds = λ none. hold_longer (head_of scene.head) (past_of ended.config) p.nodes rest count (ended.holds none);
      rose = λ t some. let both = ended.rose t some in (both.0, rose_longer p.nodes rest scene.head.osts t.0 count both.0 both.1);
    }

pub is_lawful : (scene : Scene) (p : PlayerState) (ended : End) (failed : Option TargetId) (trace : Trace) → KeepsLimits scene
    → IsEnded scene p ended failed
    → trace ≡ record { osts = scene.head.osts; entries = p.wire.entries } → IsLawful trace
is_lawful scene p ended failed trace limits is same =
    let past = past_of is.config in
    let entries : reverse p.wire.entries ≡ printed past = ap reverse is.wire.entries ∙ reverse-reverse (printed past) in
    subst IsLawful (sym same)
    (subst (λ (lines : List PrintedLine). Lawful scene.head.osts lines) (sym entries)
    (whichever_lawful scene limits is.disks is.config is.leads))

pub some_rose : (scene : Scene) (p : PlayerState) (t : ℕ) (rest : List DiskState) → HasBroken scene t p
    → SomeRose scene (disks_of p.nodes ++ rest)
some_rose scene p t rest broken = (t, broken.one, rose_longer p.nodes rest scene.head.osts t broken.count broken.one broken.rose)

-- ---- all of it

-- where a player came to, and how the list of disks went before and after
pub record Ran {D : Type 0} (view : D → DiskState) (scene : Scene) (p : PlayerState) (came : Progress)
    (first turned left given last : List D) : Type 0 where
  pub comes : Comes scene [] p came
  pub round : turned ≡ reverse first
  pub off : (taken : List D) × (turned ≡ left ++ taken) × (length taken ≡ scene.head.osts + 1)
  pub put : map view given ≡ map view left ++ reverse (disks_of p.nodes)
  pub again : last ≡ reverse given
  pub nine : length (map view first) ≡ 9

module _ {D : Type 0} (view : D → DiskState) (scene : Scene) (p : PlayerState) (came : Progress) (first turned left given last : List D)
    (ran : Ran view scene p came first turned left given last) where
  held : map view last ≡ disks_of p.nodes ++ reverse (map view left)
  held = seen_last view first turned left ran.off.0 given last (disks_of p.nodes) ran.put ran.again

  count : length p.nodes.objects ≡ scene.head.osts
  count = comes_count scene p came ran.comes

  pub ran_back : {E : Type 0} (result : Result Played E) → OnOk result (AreBack scene (map view first) (map view last))
  ran_back (Ok played) =
      are_back view first turned left ran.off.0 given last (disks_of p.nodes) scene ran.round ran.off.1 ran.off.2 ran.put ran.again
      (seats_count p.nodes scene.head.osts count) ran.nine
  ran_back (Err e) = tt

  pub ran_played : {E : Type 0} (result : Result Played E) → IfOk result
      (λ played. played.trace ≡ record { osts = scene.head.osts; entries = p.wire.entries })
      → IfOk result (λ played. EndsWith came played.end played.failed) → IfOk result (λ played. IsPlayed scene played (map view last))
  ran_played (Ok played) trace ended =
      subst (λ (ds : List DiskState). IsPlayed scene played ds) (sym held)
      (is_played scene p played (reverse (map view left)) (comes_ended scene p came played.end played.failed ran.comes ended) count trace)
  ran_played (Err e) trace ended = tt

  pub ran_lawful : {E : Type 0} (result : Result Played E) → KeepsLimits scene
      → IfOk result (λ played. played.trace ≡ record { osts = scene.head.osts; entries = p.wire.entries })
      → IfOk result (λ played. EndsWith came played.end played.failed)
      → IfOk result (λ played. IsLawful played.trace)
  ran_lawful (Ok played) limits trace ended =
      is_lawful scene p played.end played.failed played.trace limits (comes_ended scene p came played.end played.failed ran.comes ended)
      trace
  ran_lawful (Err e) limits trace ended = tt

  pub ran_rose : (t : TargetId) → came ≡ progress.Broken t → SomeRose scene (map view last)
  ran_rose t is =
      subst (SomeRose scene) (sym held)
      (some_rose scene p t.0 (reverse (map view left)) (subst (λ (c : Progress). Comes scene [] p c) is ran.comes))

-- ---- before the run

-- empty disks are empty when they are turned round
pub turned_empty : {D : Type 0} (view : D → DiskState) (first turned : List D) → IsPermutation first turned
    → All (λ d. d.batches ≡ []) (map view first)
    → All (λ d. DiskState.batches (view d) ≡ []) turned
turned_empty view first turned permuted empty =
    All-permutation (λ d. DiskState.batches (view d) ≡ []) first turned permuted
    (λ i d below. subst (λ (e : DiskState). e.batches ≡ []) (get_or-map view first i d (view d) below)
    (empty i (view d) (subst (λ (n : ℕ). i < n) (sym (length-map first view)) below)))
