-- One more turn of a scenario: it may be made, its lines are covered where no call to a disk fails in it, and what was so of each node is
-- so after
-- it. Where no call changes bytes, no line gives a command and no client is evicted, it asks no disk.
use Rattle.std.proofs.Common.{◌≡◌, ℕ, zero, suc, ◌+◌, ◌<◌, ◌≤◌, Bool, true, false, List, [], ◌∷◌, Option, ◌⊎◌, inl, inr, ⊎_elim, refl, sym}
use Rattle.std.proofs.Common.{subst, ap, ◌∙◌, arith}
use Rattle.std.specs.Prelude.{nat_eq, length, All}
use Rattle.std.proofs.lemmas.Bool.{eqb-true}
use Rattle.std.proofs.lemmas.Bool.Decides.{nat_tests}
use Rattle.lu_base.specs.declared.ids.At.{At}
use Rattle.lu_base.specs.declared.ids.Node.{Node}
use Rattle.lu_base.specs.declared.ids.Node.TheVariants as node
use Rattle.lu_msg.specs.declared.calls.Call.{Call as CallOf}
use Rattle.lu_msg.specs.declared.messages.Message.{Message}
use Rattle.lu_scene.specs.declared.scene.Scene.{Scene}
use Rattle.lu_trace.specs.WellFormed.{IsCall}
use Rattle.lu_spec_entries.specs.Sent.{Sent}
use Rattle.lu_spec_entries.specs.Words.{Entry, Begin, Tick, Fail, Line, line, with_turn as with_lines, is_client}
use Rattle.lu_spec_client.specs.Rows as client
use Rattle.lu_spec_target.specs.Disks.{calls, over_disk}
use Rattle.lu_spec_target.specs.Leaving.{condemned}
use Rattle.lu_spec_target.specs.Rows as target
use Rattle.lu_spec_target.specs.States.{Target, is_serving, lives_from, after, turn as target_turn}
use Rattle.lu_spec_run.specs.Heads.{Head}
use Rattle.lu_spec_run.specs.Runs.{EventAt, has_failed, row, row_at, Meets, HasNumbers, client_of, target_of, limits_of, setting_of}
use Rattle.lu_spec_run.specs.Scenarios.{Config, Disks, head_of, past_of, first_failing, fails_at, calls_at, with_turn}
use Rattle.lu_proof_lawful.specs.Covered.Runs.{IsCovered, AllCovered}
use Rattle.lu_proof_lawful.specs.Covered.TargetStates.{called_at}
use Rattle.lu_proof_run.specs.InTable.{next_at, InTable}
use Rattle.lu_proof_run.proofs.Clients.{client_own, client_other}
use Rattle.lu_proof_run.proofs.Runs.{turn_in, turned_in, IsCommand, command_meets, target_unfailed}
use Rattle.lu_proof_run.proofs.Targets.{target_own, target_other}
use Rattle.lu_proof_lawful.proofs.Preconditions.Covers.{EntriesCovered}
use Rattle.lu_proof_lawful.proofs.Preconditions.Grown.{Grown}
use Rattle.lu_proof_lawful.proofs.Preconditions.Lists.{self}
use Rattle.lu_proof_lawful.proofs.Preconditions.Obey.{grown}
use Rattle.lu_proof_lawful.proofs.Invariants.BareGuards.{BareGrown}
use Rattle.lu_proof_lawful.proofs.Invariants.Bare.{bare_grown}
use Rattle.lu_proof_lawful.proofs.Preconditions.Turns.{covered_head}
use Rattle.lu_proof_lawful.proofs.Invariants.Asked.{Began}
use Rattle.lu_proof_lawful.proofs.Invariants.Unlocked.{unlocked, uncalled_other}
use Rattle.lu_proof_scenes.specs.Quiet as scenes
use Rattle.lu_proof_scenes.specs.Quiet.{IsNoCommand}
use Rattle.lu_spec_run.specs.Limits.{KeepsLimits}
use Rattle.lu_proof_scenes.proofs.Arrivals.{Arrives, target_served}
use Rattle.lu_proof_scenes.proofs.Asking.{AllSuit, turn_suits}
use Rattle.lu_proof_scenes.proofs.Clients.{Calm, AllCalm, turn_calm, lines_covered, lines_suit}
use Rattle.lu_proof_scenes.proofs.ClientRows.{EventCalm, row_calm}
use Rattle.lu_proof_scenes.proofs.Lines.{IsQuiet, MayAsk, Calls, AllOfLines, lines_known, called_fits, all_miss, all_bare}
use Rattle.lu_proof_scenes.proofs.Numbers.{Below, more_below}
use Rattle.lu_proof_scenes.proofs.NumberRows.{comes_below, tick_below, commit_command_below, crash_command_below, close_command_below}
use Rattle.lu_proof_scenes.proofs.NumberRows.{boot_command_below, has_numbers}
use Rattle.lu_proof_scenes.proofs.Served.{AllServed, served_covered, served_suit, asks_none, served_began, served_still, over_unfailed}
use Rattle.lu_proof_scenes.proofs.Served.{OfRun, stays_of_run, first_lives, first_boot, first_serves, called_same}
use Rattle.lu_proof_scenes.proofs.Targets.{Expires, comes_served, tick_served, tick_counts, expires_none, uncalled_none, commit_served}
use Rattle.lu_proof_scenes.proofs.Targets.{crash_served, close_served, boots_served}

-- ---- what is so of a configuration

pub record Sound (scene : Scene) (c : Config) : Type 0 where
  pub table : InTable (head_of scene.head) c
  pub covered : AllCovered (past_of c)
  pub suits : AllSuit (MayAsk scene) scene.head.osts scene.head.clients (past_of c)
  pub calm : (who : ℕ) → Calm (MayAsk scene) scene.head.osts (client_of (head_of scene.head) who (past_of c))
  pub below : (t : ℕ) → Below (length c.turns) (target_of (head_of scene.head) t (past_of c))
  pub ticks : (t : ℕ) → (target_of (head_of scene.head) t (past_of c)).ticks ≤ length c.turns
  pub begun : AllOfLines scene (past_of c)

-- where no client is evicted: no lock that is called back expires before these are done
abbrev pub IsTimely : Scene → ℕ → List Line → Type 0
IsTimely scene left past = ((target_of (head_of scene.head) 0 past).ticks + left < scene.head.expire) ⊎ scenes.AllMiss scene.lines

abbrev pub Timely : Scene → ℕ → List Line → Type 0
Timely scene left past = IsQuiet scene → IsTimely scene left past

-- no disk has failed
pub covered_unfailed : (past : List Line) → AllCovered past → has_failed past ≡ false
covered_unfailed [] c = refl
covered_unfailed (l ∷ past) c = by l.entry c.0 (covered_unfailed past c.1)
  where
    by : (e : Entry) → IsCovered e → has_failed past ≡ false → has_failed (line l.at e ∷ past) ≡ false
    by Fail is before = absurd is
    by e is before = before

pub all_covered : (at : At) (es : List Entry) (past : List Line) → EntriesCovered es → AllCovered past → AllCovered (with_lines at es past)
all_covered at [] past c before = before
all_covered at (e ∷ es) past c before = all_covered at es (line at e ∷ past) c.1 (c.0, before)

-- ---- calls that begin

pub turn_began : (P : CallOf → Type 0) (MayAsk : Type 0) (osts : ℕ) (past : List Line) (at : At) (es : List Entry)
    → ((call : CallOf) → Began past call → P call) → AllCalm P MayAsk osts es → (call : CallOf) → Began (with_lines at es past) call
    → P call
turn_began P MayAsk osts past at [] old all call i = old call i
turn_began P MayAsk osts past at (e ∷ es) old all call i = by e all (λ d o b. turn_began P MayAsk osts (line at d ∷ past) at es o b call) i
  where
    started : (b : CallOf) → P b → (called : CallOf) → (b ≡ called) ⊎ Began past called → P called
    started b is called (inl e) = subst P e is
    started b is called (inr j) = old called j

    by : (e : Entry) → AllCalm P MayAsk osts (e ∷ es) → ((d : Entry) → ((c : CallOf) → Began (line at d ∷ past) c → P c)
        → AllCalm P MayAsk osts es → Began (with_lines at es (line at d ∷ past)) call → P call)
        → Began (with_lines at es (line at e ∷ past)) call → P call
    by (Begin slot running) b more j = more (Begin slot running) (started running.call b.0.1) b.1 j
    by e b more j = more e old b.1 j

-- ---- disks

-- a turn that asks none isn't changed by one
not_failing : (disks : Disks) (past : List Line) (n : Node) (es : List Entry) → calls es ≡ 0 → over_disk (fails_at disks past n es) es ≡ es
not_failing disks past (node.Client c) es asks = refl
not_failing disks past (node.Target t) es asks = ap (λ (more : ℕ). over_disk (first_failing (disks t) (calls_at t past) more) es) asks

-- ---- a turn

module _ (scene : Scene) (limits : KeepsLimits scene) where
  abbrev head : Head
  head = head_of scene.head

  -- the lines of a node's turn
  abbrev lines_at : Config → (n : Node) → EventAt n → List Entry
  lines_at c n event = row_at head (past_of c) (next_at c n) n event

  abbrev pub made : Config → (n : Node) → EventAt n → Config
  made c n event = with_turn c (record { at = next_at c n; entries = lines_at c n event })

  pub past_grown : (c : Config) → Sound scene c → Grown (covered_head head) (past_of c)
  past_grown c s = grown head c.turns s.table.run s.covered

  -- of a scenario that changes no bytes
  pub bare : (c : Config) → Sound scene c → IsQuiet scene → BareGrown (covered_head head) (past_of c)
  bare c s quiet = bare_grown (covered_head head) (past_of c) (past_grown c s) (all_bare scene quiet.0 (past_of c) s.begun)

  -- each call that began keeps the limits of calls
  pub begun_fit : (c : Config) → Sound scene c → (k : CallOf) → Began (past_of c) k → IsCall k
  begun_fit c s k i = called_fits scene scene.lines (lines_known scene limits) k (s.begun k i)

  pub unfailed : (c : Config) → Sound scene c → has_failed (past_of c) ≡ false
  unfailed c s = covered_unfailed (past_of c) s.covered

  pub target_of_run : (c : Config) → Sound scene c → (t : ℕ) → OfRun head.clients (target_of head t (past_of c))
  target_of_run c s t = stays_of_run (MayAsk scene) head.osts (setting_of head t) head.clients (past_of c) s.suits

  -- where no turn asks a disk
  lives_stay : (c : Config) → Sound scene c → (t : ℕ) → IsQuiet scene → (target_of head t (past_of c)).lives ≡ lives_from 0 head.clients
  lives_stay c s t quiet = first_lives (MayAsk scene) head.osts (λ may. may quiet) (setting_of head t) head.clients (past_of c) s.suits

  boot_stays : (c : Config) → Sound scene c → (t : ℕ) → IsQuiet scene → (target_of head t (past_of c)).boot ≡ 1
  boot_stays c s t quiet = first_boot (MayAsk scene) head.osts (λ may. may quiet) (setting_of head t) head.clients (past_of c) s.suits

  pub serves_still : (c : Config) → Sound scene c → (t : ℕ) → IsQuiet scene → is_serving (target_of head t (past_of c)) ≡ true
  serves_still c s t quiet = first_serves (MayAsk scene) head.osts (λ may. may quiet) (setting_of head t) head.clients (past_of c) s.suits

  -- the lines of the turn over disks that may fail
  abbrev over : Disks → Config → (n : Node) → EventAt n → List Entry
  over disks c n event = over_disk (fails_at disks (past_of c) n (lines_at c n event)) (lines_at c n event)

  -- none has failed, or none is asked
  abbrev pub Spared : List Line → Type 0
  Spared past = (has_failed past ≡ false) ⊎ IsQuiet scene

  pub record Makes (c : Config) (n : Node) (event : EventAt n) : Type 0 where
    pub sound : Sound scene (made c n event)
    pub numbers : HasNumbers head (past_of c) (next_at c n) n event
    pub same : (disks : Disks) → Spared (with_lines (next_at c n) (over disks c n event) (past_of c)) → over disks c n event
        ≡ lines_at c n event
    pub before : has_failed (past_of c) ≡ false
    -- and whichever of its calls to a disk fails, it is a turn of the run
    pub breaks : (fails : Option ℕ)
        → InTable head (with_turn c (record { at = next_at c n; entries = row head (past_of c) (next_at c n) event fails }))

  -- ---- of a client

  pub client_makes : (c : Config) (who : ℕ) (event : client.Event) → Sound scene c → Meets head (past_of c) (node.Client who) event
      → EventCalm (Calls scene.lines) (MayAsk scene) head.osts event → Makes c (node.Client who) event
  client_makes c who event s meets may =
      record {
        sound =
            record {
              table = turned_in head c (node.Client who) event s.table (unfailed c s) meets tt;
              covered = all_covered at es past (lines_covered (Calls scene.lines) (MayAsk scene) head.osts es all) s.covered;
              suits = turn_suits (MayAsk scene) head.osts head.clients past at es tt
                  (lines_suit (Calls scene.lines) (MayAsk scene) head.osts head.clients es all) s.suits;
              calm = λ d. calm d (is_client d (node.Client who)) refl;
              below = λ t. subst (Below (suc (length c.turns))) (sym (others t))
                  (more_below (length c.turns) (target_of head t past) (s.below t));
              ticks = λ t. let low = s.ticks t in let same = ap (λ (v : Target). v.ticks) (others t) in omega (arith, low, same);
              begun = turn_began (Calls scene.lines) (MayAsk scene) head.osts past at es s.begun all;
            };
        numbers = tt;
        same = λ disks spared. refl;
        before = unfailed c s;
        breaks = λ fails. turn_in head c (node.Client who) event fails s.table (unfailed c s) meets tt;
      }
    where
      past : List Line
      past = past_of c

      at : At
      at = next_at c (node.Client who)

      es : List Entry
      es = lines_at c (node.Client who) event

      all : AllCalm (Calls scene.lines) (MayAsk scene) head.osts es
      all = row_calm (Calls scene.lines) (MayAsk scene) head.osts (limits_of head) at event (client_of head who past) may (s.calm who)

      others : (t : ℕ) → target_of head t (with_lines at es past) ≡ target_of head t past
      others t = target_other (setting_of head t) head.clients past at es refl

      calm : (d : ℕ) (own : Bool) → is_client d (node.Client who) ≡ own
          → Calm (MayAsk scene) head.osts (client_of head d (with_lines at es past))
      calm d false e = subst (Calm (MayAsk scene) head.osts) (sym (client_other (limits_of head) d past at es e)) (s.calm d)
      calm d true e =
          let same : d ≡ who = eqb-true d who e in
          subst (λ (k : ℕ). Calm (MayAsk scene) head.osts (client_of head k (with_lines at es past))) (sym same)
          (subst (Calm (MayAsk scene) head.osts) (sym (client_own (limits_of head) who past at es (self who)))
          (turn_calm (Calls scene.lines) (MayAsk scene) head.osts (client_of head who past) es (s.calm who) all))

  pub client_timely : (c : Config) (who : ℕ) (event : client.Event) (left : ℕ) → Timely scene left (past_of c)
      → Timely scene left (past_of (made c (node.Client who) event))
  client_timely c who event left time quiet = by (time quiet)
    where
      by : IsTimely scene left (past_of c) → IsTimely scene left (past_of (made c (node.Client who) event))
      by (inl low) =
          let same = ap (λ (v : Target). v.ticks) (target_other (setting_of head 0) head.clients (past_of c) (next_at c (node.Client who))
          (lines_at c (node.Client who) event) refl) in
          inl (omega (arith, low, same))
      by (inr miss) = inr miss

  -- ---- of a target: in all its lines no call begins, and it asks a disk only where a turn may

  served_makes : (T : Type 0) (c : Config) (t : ℕ) (event : target.Event) → Sound scene c → length c.turns < 65536 → t ≤ head.osts
      → Meets head (past_of c) (node.Target t) event → AllServed T (MayAsk scene) head.clients (lines_at c (node.Target t) event)
      → Below (suc (length c.turns)) (target_turn (target_of head t (past_of c)) (lines_at c (node.Target t) event))
      → (target_turn (target_of head t (past_of c)) (lines_at c (node.Target t) event)).ticks ≤ suc (length c.turns)
      → Makes c (node.Target t) event
  served_makes T c t event s few one meets all below ticks =
      record {
        sound =
            record {
              table = turned_in head c (node.Target t) event s.table (unfailed c s) meets left;
              covered = all_covered at es past are_covered s.covered;
              suits = turn_suits (MayAsk scene) head.osts head.clients past at es one
                  (served_suit T (MayAsk scene) head.clients head.osts es all) s.suits;
              calm = λ d. subst (Calm (MayAsk scene) head.osts) (sym (client_other (limits_of head) d past at es refl)) (s.calm d);
              below = λ u. each (λ v. Below (suc (length c.turns)) v) below
                  (λ k. more_below (length c.turns) (target_of head k past) (s.below k)) u;
              ticks = λ u. each (λ v. v.ticks ≤ suc (length c.turns)) ticks (λ k. let low = s.ticks k in omega (arith, low)) u;
              begun = λ call i. s.begun call (served_began T (MayAsk scene) head.clients past at es all call i);
            };
        numbers = left;
        same =
            λ disks. ⊎_elim (λ (whole : has_failed (with_lines at (over disks c (node.Target t) event) past) ≡ false). over_unfailed
            (fails_at disks past (node.Target t) es) at past es whole)
            (λ (quiet : IsQuiet scene). not_failing disks past (node.Target t) es
            (asks_none T (MayAsk scene) head.clients (λ may. may quiet) es all));
        before = unfailed c s;
        breaks = λ fails. turn_in head c (node.Target t) event fails s.table (unfailed c s) meets left;
      }
    where
      past : List Line
      past = past_of c

      at : At
      at = next_at c (node.Target t)

      es : List Entry
      es = lines_at c (node.Target t) event

      v : Target
      v = target_of head t past

      are_covered : EntriesCovered es
      are_covered = served_covered T (MayAsk scene) head.clients es all

      left : HasNumbers head past at (node.Target t) event
      left = has_numbers (suc (length c.turns)) v es below (omega (arith, few))

      each : (P : Target → Type 0) → P (target_turn v es) → ((u : ℕ) → P (target_of head u past)) → (u : ℕ)
          → P (target_of head u (with_lines at es past))
      each P own others u = by (nat_eq u t) refl
        where
          by : (b : Bool) → nat_eq u t ≡ b → P (target_of head u (with_lines at es past))
          by false e = subst P (sym (target_other (setting_of head u) head.clients past at es e)) (others u)
          by true e =
              let same : u ≡ t = eqb-true u t e in
              subst (λ (k : ℕ). P (target_of head k (with_lines at es past))) (sym same)
              (subst P (sym (target_own (setting_of head t) head.clients past at es (self t))) own)

  other_low : (c : Config) (t : ℕ) (event : target.Event) (left : ℕ) → nat_eq 0 t ≡ false
      → (target_of head 0 (past_of c)).ticks + left < scene.head.expire
      → (target_of head 0 (past_of (made c (node.Target t) event))).ticks + left < scene.head.expire
  other_low c t event left other low =
      let same = ap (λ (v : Target). v.ticks) (target_other (setting_of head 0) head.clients (past_of c) (next_at c (node.Target t))
      (lines_at c (node.Target t) event) other) in
      omega (arith, low, same)

  -- where its time doesn't go on, or it isn't the metadata target, the metadata target's count stays
  target_timely : (c : Config) (t : ℕ) (event : target.Event) (left : ℕ)
      → AllServed ⊥ (MayAsk scene) head.clients (lines_at c (node.Target t) event) → Timely scene left (past_of c)
      → Timely scene left (past_of (made c (node.Target t) event))
  target_timely c t event left all time quiet = by t all (time quiet)
    where
      by : (t : ℕ) → AllServed ⊥ (MayAsk scene) head.clients (lines_at c (node.Target t) event) → IsTimely scene left (past_of c)
          → IsTimely scene left (past_of (made c (node.Target t) event))
      by zero all (inl low) =
          let own = ap (λ (v : Target). v.ticks) (target_own (setting_of head 0) head.clients (past_of c) (next_at c (node.Target 0))
          (lines_at c (node.Target 0) event) refl) in
          let same = served_still (MayAsk scene) head.clients (target_of head 0 (past_of c)) (lines_at c (node.Target 0) event) all in
          inl (omega (arith, low, own, same))
      by (suc t) all (inl low) = inl (other_low c (suc t) event left (grind (arith, nat_tests)) low)
      by t all (inr miss) = inr miss

  -- ---- a command

  commands_makes : (c : Config) (t : ℕ) (event : target.Event) → Sound scene c → IsCommand event
      → AllServed ⊥ (MayAsk scene) head.clients (lines_at c (node.Target t) event)
      → Below (suc (length c.turns)) (target_turn (target_of head t (past_of c)) (lines_at c (node.Target t) event))
      → length c.turns < 65536 → t ≤ head.osts → Makes c (node.Target t) event
  commands_makes c t event s is all below few one =
      served_makes ⊥ c t event s few one (command_meets head (past_of c) t event is one (unfailed c s)) all below
      (let low = s.ticks t in let same = served_still (MayAsk scene) head.clients (target_of head t (past_of c))
      (lines_at c (node.Target t) event) all in omega (arith, low, same))

  module _ (c : Config) (t : ℕ) (s : Sound scene c) (some : All IsNoCommand scene.lines → ⊥) where
    may : MayAsk scene
    may quiet = some quiet.1.commands

    commits : (count : Option ℕ) → AllServed ⊥ (MayAsk scene) head.clients (lines_at c (node.Target t) (target.Commits count))
    commits count = commit_served (MayAsk scene) head.clients (target_of head t (past_of c)) (next_at c (node.Target t)) count may

    closes : AllServed ⊥ (MayAsk scene) head.clients (lines_at c (node.Target t) target.Closes)
    closes = close_served (MayAsk scene) head.clients (target_of head t (past_of c)) (next_at c (node.Target t)) may (target_of_run c s t)

    pub commit_makes : (count : Option ℕ) → length c.turns < 65536 → t ≤ head.osts → Makes c (node.Target t) (target.Commits count)
    commit_makes count few one =
        commands_makes c t (target.Commits count) s tt (commits count)
        (commit_command_below (length c.turns) (target_of head t (past_of c)) (next_at c (node.Target t)) count (s.below t)) few one

    pub commit_timely : (count : Option ℕ) (left : ℕ) → Timely scene left (past_of c)
        → Timely scene left (past_of (made c (node.Target t) (target.Commits count)))
    commit_timely count left time = target_timely c t (target.Commits count) left (commits count) time

    crashes : AllServed ⊥ (MayAsk scene) head.clients (lines_at c (node.Target t) target.Crashes)
    crashes = crash_served (MayAsk scene) head.clients (target_of head t (past_of c)) (next_at c (node.Target t))

    pub crash_makes : length c.turns < 65536 → t ≤ head.osts → Makes c (node.Target t) target.Crashes
    crash_makes few one =
        commands_makes c t target.Crashes s tt crashes (crash_command_below (length c.turns) (target_of head t (past_of c))
        (next_at c (node.Target t)) (s.below t)) few one

    pub crash_timely : (left : ℕ) → Timely scene left (past_of c) → Timely scene left (past_of (made c (node.Target t) target.Crashes))
    crash_timely left time = target_timely c t target.Crashes left crashes time

    pub close_makes : length c.turns < 65536 → t ≤ head.osts → Makes c (node.Target t) target.Closes
    close_makes few one =
        commands_makes c t target.Closes s tt closes (close_command_below (length c.turns) head.clients (target_of head t (past_of c))
        (next_at c (node.Target t)) (target_of_run c s t) (s.below t)) few one

    pub close_timely : (left : ℕ) → Timely scene left (past_of c) → Timely scene left (past_of (made c (node.Target t) target.Closes))
    close_timely left time = target_timely c t target.Closes left closes time

    boots : AllServed ⊥ (MayAsk scene) head.clients (lines_at c (node.Target t) target.Boots)
    boots = boots_served (MayAsk scene) head.clients (target_of head t (past_of c)) (next_at c (node.Target t)) may (target_of_run c s t)

    pub boot_makes : length c.turns < 65536 → t ≤ head.osts → Makes c (node.Target t) target.Boots
    boot_makes few one =
        commands_makes c t target.Boots s tt boots (boot_command_below (length c.turns) head.clients (target_of head t (past_of c))
        (next_at c (node.Target t)) (omega (arith, few)) (target_of_run c s t) (s.below t)) few one

    pub boot_timely : (left : ℕ) → Timely scene left (past_of c) → Timely scene left (past_of (made c (node.Target t) target.Boots))
    boot_timely left time = target_timely c t target.Boots left boots time

  -- ---- a message comes to a target

  module _ (c : Config) (t n : ℕ) (from : Node) (m : Message) (s : Sound scene c) (sent : Sent (past_of c) n from (node.Target t) m) where
    abbrev its : Target
    its = target_of head t (past_of c)

    abbrev heard : target.Event
    heard = target.Comes n from m

    arrives : Arrives (IsQuiet scene) (covered_head head) head.osts (past_of c) (past_grown c s) s.suits (begun_fit c s) t its m
    arrives = target_served (IsQuiet scene) (covered_head head) head.osts (past_of c) (past_grown c s) s.suits (begun_fit c s) t its
        (lives_stay c s t) (boot_stays c s t) n from m sent

    served : AllServed ⊥ (MayAsk scene) head.clients (lines_at c (node.Target t) heard)
    served = comes_served (MayAsk scene) head.clients its (next_at c (node.Target t)) n from m (target_of_run c s t) arrives.served

    -- where it is up
    pub comes_makes : its.up ≡ true → length c.turns < 65536 → Makes c (node.Target t) heard
    comes_makes up few =
        served_makes ⊥ c t heard s few arrives.one (arrives.one, target_unfailed head t (past_of c) (unfailed c s), up, sent) served
        (comes_below (length c.turns) head.clients its (target_of_run c s t) (s.below t) (MayAsk scene) (next_at c (node.Target t)) n from m
        arrives.served arrives.fits)
        (let low = s.ticks t in let same = served_still (MayAsk scene) head.clients its (lines_at c (node.Target t) heard) served
        in omega (arith, low, same))

    pub comes_timely : (left : ℕ) → Timely scene left (past_of c) → Timely scene left (past_of (made c (node.Target t) heard))
    comes_timely left time = target_timely c t heard left served time

    -- it is a target of the run
    pub comes_one : t ≤ head.osts
    comes_one = arrives.one

  -- ---- time goes on at a target

  -- no lock that was called back expires there
  abbrev pub NoneDue : Config → ℕ → Type 0
  NoneDue c t = condemned (after (target_of head t (past_of c)) Tick) (target_of head t (past_of c)).called ≡ []

  -- where no turn asks a disk none does
  uncalled : (c : Config) → Sound scene c → IsQuiet scene → (t : ℕ) → called_at t (past_of c) ≡ [] → (target_of head t (past_of c)).called
      ≡ []
  uncalled c s quiet t none = called_same (MayAsk scene) head.osts (λ may. may quiet) (setting_of head t) head.clients (past_of c) s.suits
      ∙ none

  pub names_due : (c : Config) (left : ℕ) → Sound scene c → Timely scene (left + 1) (past_of c) → IsQuiet scene → NoneDue c 0
  names_due c left s time quiet = by (time quiet)
    where
      by : IsTimely scene (left + 1) (past_of c) → NoneDue c 0
      by (inl low) = expires_none (target_of head 0 (past_of c)) (omega (arith, low))
      by (inr miss) =
          uncalled_none (target_of head 0 (past_of c)) (uncalled c s quiet 0
          (unlocked (covered_head head) (past_of c) (past_grown c s) (all_miss scene miss (past_of c) s.begun)).1)

  pub others_due : (c : Config) (t : ℕ) → Sound scene c → (t ≡ 0 → ⊥) → IsQuiet scene → NoneDue c t
  others_due c t s other quiet = uncalled_none (target_of head t (past_of c))
      (uncalled c s quiet t (uncalled_other (covered_head head) (past_of c) (bare c s quiet) t other))

  module _ (c : Config) (t : ℕ) (s : Sound scene c) (none : IsQuiet scene → NoneDue c t) where
    abbrev it : Target
    it = target_of head t (past_of c)

    expires : Expires (MayAsk scene) it
    expires who gone e quiet = let due = none quiet in absurd (cc)

    counts : (target_turn it (lines_at c (node.Target t) target.Ticks)).ticks ≤ it.ticks + 1
    counts = tick_counts (MayAsk scene) head.clients it (next_at c (node.Target t)) (target_of_run c s t) expires

    pub tick_makes : length c.turns < 65536 → t ≤ head.osts → Makes c (node.Target t) target.Ticks
    tick_makes few one =
        served_makes (Unit {0}) c t target.Ticks s few one (command_meets head (past_of c) t target.Ticks tt one (unfailed c s))
        (tick_served (MayAsk scene) head.clients it (next_at c (node.Target t)) (target_of_run c s t) expires)
        (tick_below (length c.turns) head.clients it (next_at c (node.Target t)) (target_of_run c s t) (s.below t))
        (let low = s.ticks t in let same = counts in omega (arith, low, same))

  -- at the metadata target one tick less is left
  pub names_timely : (c : Config) (left : ℕ) → Sound scene c → Timely scene (left + 1) (past_of c)
      → Timely scene left (past_of (made c (node.Target 0) target.Ticks))
  names_timely c left s time quiet = by (time quiet)
    where
      by : IsTimely scene (left + 1) (past_of c) → IsTimely scene left (past_of (made c (node.Target 0) target.Ticks))
      by (inl low) =
          let own = ap (λ (v : Target). v.ticks) (target_own (setting_of head 0) head.clients (past_of c) (next_at c (node.Target 0))
          (lines_at c (node.Target 0) target.Ticks) refl) in
          let same = counts c 0 s (names_due c left s time) in
          inl (omega (arith, low, own, same))
      by (inr miss) = inr miss

  -- at another the count stays
  pub other_timely : (c : Config) (t left : ℕ) → nat_eq 0 t ≡ false → Timely scene left (past_of c)
      → Timely scene left (past_of (made c (node.Target t) target.Ticks))
  other_timely c t left other time quiet = by (time quiet)
    where
      by : IsTimely scene left (past_of c) → IsTimely scene left (past_of (made c (node.Target t) target.Ticks))
      by (inl low) = inl (other_low c t target.Ticks left other low)
      by (inr miss) = inr miss
