-- Each turn of a target makes lines that the guards allow, where no call to its disk fails, and after it the target is what its story says:
-- it
-- serves, or it crashed (`Matches`). While it serves, messages come, time goes on, the log is committed, or a command doesn't fit.
use Rattle.std.proofs.Common.{◌≡◌, ℕ, zero, suc, ◌+◌, ◌*◌, ◌<◌, Bool, true, false, List, [], ◌∷◌, Option, Some, None, inl, inr, refl, sym}
use Rattle.std.proofs.Common.{subst, ap, ◌∙◌, arith}
use Rattle.std.specs.Prelude.{nat_eq, nat_lt, ◌||◌, if◌then◌else◌, take}
use Rattle.std.proofs.lemmas.Bool.{cond-true, or_parts, eqb-true, eqb-false, eq-eqb, ltb-false}
use Rattle.lu_base.specs.declared.ids.At.{At}
use Rattle.lu_base.specs.declared.ids.Node.{Node}
use Rattle.lu_base.specs.declared.ids.Node.TheVariants as node
use Rattle.lu_base.specs.declared.ids.Stamp.{Stamp}
use Rattle.lu_msg.specs.declared.messages.Message.{Message}
use Rattle.lu_spec_entries.specs.Carried.{Deed}
use Rattle.lu_spec_entries.specs.Words.{Entry, Take, Skip, Crash, Line, line, with_turn, turn_before}
use Rattle.lu_spec_entries.specs.Concerns.{concerns, only, about}
use Rattle.lu_spec_entries.specs.Sent.{Sent}
use Rattle.lu_spec_target.specs.Disks.{over_disk}
use Rattle.lu_spec_target.specs.Leaving.{commits}
use Rattle.lu_spec_target.specs.Recovery.{row_close}
use Rattle.lu_spec_target.specs.Rows as target
use Rattle.lu_spec_target.specs.Rows.{row_heeds, first_deeds, row_commits, row_commit, row_closes}
use Rattle.lu_spec_target.specs.States.{Target, after, turn as turned}
use Rattle.lu_spec_run.specs.Heads as table
use Rattle.lu_spec_run.specs.Runs.{MeetsTarget, HasNumbers, target_of, setting_of}
use Rattle.lu_proof_lawful.specs.Covered.Runs.{AllCovered}
use Rattle.lu_proof_lawful.specs.Covered.Heads.{Head}
use Rattle.lu_proof_lawful.specs.Covered.TargetStates.{Server, server_of}
use Rattle.lu_proof_lawful.proofs.Preconditions.Guards.{InTurn, IsTake, Later, Was}
use Rattle.lu_proof_lawful.proofs.Preconditions.Grown.{Noted, Grown, GrownOf}
use Rattle.lu_proof_lawful.proofs.Preconditions.Lists.{turn, turn_irreflexive, self}
use Rattle.lu_proof_lawful.proofs.Preconditions.Only.{turn_only, about_other, asked_target, grown_of}
use Rattle.lu_proof_lawful.proofs.Preconditions.Covers.{EntriesCovered, covered_turn, over_none}
use Rattle.lu_proof_lawful.proofs.Preconditions.TargetAlike.{Alike, Serving, serving_is, serving_line, serving_start, serving_client}
use Rattle.lu_proof_lawful.proofs.Preconditions.TargetAlike.{window_commit, window_closed}
use Rattle.lu_proof_lawful.proofs.Preconditions.TargetGood.{Reaches, good_row, story_turn, serves_backs, serves_marks, serves_shows}
use Rattle.lu_proof_lawful.proofs.Preconditions.TargetLeaving.{commit_ok}
use Rattle.lu_proof_lawful.proofs.Preconditions.TargetPass.{High}
use Rattle.lu_proof_lawful.proofs.Preconditions.Comings.{IsAsked, asks_of}
use Rattle.lu_proof_lawful.proofs.Preconditions.TargetComes.{comes_first, comes_other}
use Rattle.lu_proof_lawful.proofs.Preconditions.TargetCrashed.{Crashed, Matches, Leads as LeadsTo, crashed_first, crashed_client}
use Rattle.lu_proof_lawful.proofs.Preconditions.TargetRecovers.{crash_lead, recovers_lead, comes_lead as recovered}
use Rattle.lu_proof_lawful.proofs.Preconditions.StoryLists.{IsFirst, first_in, first_all}
use Rattle.lu_proof_lawful.proofs.Preconditions.TargetTicks.{later_back, tick_lead}
use Rattle.lu_proof_lawful.proofs.Preconditions.Turns.{covered_head, Settled, owes_nothing, AllBacks, AllMarks, AllShows, RowOk}
use Rattle.lu_proof_run.proofs.Targets.{target_own, target_other}

-- ---- numbers

high_of : (v : Target) (es : List Entry) → target.overruns v es ≡ false → High v es
high_of v es over =
    let w = turned v es in
    let parts = or_parts (target.passes w.boot w.number) (target.passes w.boot w.cookie)
    (or_parts (nat_lt target.most_numbers w.boot) (target.passes w.boot w.number || target.passes w.boot w.cookie) over).1 in
    let number = ltb-false (w.boot * 4294967296 + 4294967295) w.number parts.0 in
    let cookie = ltb-false (w.boot * 4294967296 + 4294967295) w.cookie parts.1 in
    (omega (arith, number), omega (arith, cookie))

-- ---- what is committed are the first deeds of the log

is_take : (n : ℕ) (log : List Deed) → IsFirst (take n log) log
is_take zero log = tt
is_take (suc n) [] = tt
is_take (suc n) (d ∷ log) = (refl, is_take n log)

is_first : (count : Option ℕ) (log : List Deed) → IsFirst (first_deeds count log) log
is_first None log = first_all log
is_first (Some n) log = is_take n log

-- ---- turns of any target

module _ (head : Head) (stamp : Stamp) (t : ℕ) where
  abbrev here : At
  here = turn stamp (node.Target t)

  -- a message comes, and what is done once it was taken
  comes_lead : (past story : List Line) (v : Target) (n : ℕ) (from : Node) (m : Message) → Settled past → Later past here
      → Sent past n from (node.Target t) m
      → Reaches head stamp t (line here (Take n from m) ∷ past) (line here (Take n from m) ∷ story) v (row_heeds v here m) (Serving head t)
      → Reaches head stamp t past story v (target.row v here (target.Comes n from m)) (Serving head t)
  comes_lead past story v n from m settled later sent more = (
    (
      (
        owes_nothing past here (Take n from m) settled,
        record { sent = sent; later = later },
        tt,
      ),
      more.0,
    ),
    more.1,
  )

  -- ---- commands

  skip_lead : (past story : List Line) (v : Target) → Settled past → Later past here → Serving head t v story
      → Reaches head stamp t past story v (Skip ∷ []) (Serving head t)
  skip_lead past story v settled later h = (
    ((owes_nothing past here Skip settled, later, tt), tt),
    serving_line head t story stamp Skip v tt tt h,
  )

  commits_lead : (past story : List Line) (v : Target) (deeds : List Deed) → Settled past → Later past here → Serving head t v story
      → IsFirst deeds (server_of head.osts story).log → Reaches head stamp t past story v (row_commits v deeds) (Serving head t)
  commits_lead past story v [] settled later h first = skip_lead past story v settled later h
  commits_lead past story v (d ∷ deeds) settled later h first =
      let e = commits v (d ∷ deeds) [] [] in
      let ok = commit_ok head story here (d ∷ deeds) [] [] v.committed h.story first h.alike.committed (serving_is head t v story h) in (
        ((owes_nothing past here e settled, tt, ok), tt),
        window_closed head t (line here e ∷ story) (after v e) h.shown
            (window_commit head t story stamp (d ∷ deeds) [] [] v (λ x i. first_in (d ∷ deeds) (server_of head.osts story).log x first i) ok
            h),
      )

positive : (t : ℕ) → (t ≡ 0 → ⊥) → 0 < t
positive zero other = absurd (other refl)
positive (suc t) other = omega arith

-- ---- commands that don't fit

-- a target that is up crashes
crashes_are : (osts t : ℕ) (v : Target) (s : Server) (here : At) → Alike osts t v s → target.row v here target.Crashes ≡ Crash ∷ []
crashes_are osts t v s here h = rw h.up refl

-- and isn't booted
boots_skip : (osts t : ℕ) (v : Target) (s : Server) (here : At) → Alike osts t v s → target.row v here target.Boots ≡ Skip ∷ []
boots_skip osts t v s here h = rw h.up refl

-- and one that serves has no window to close
closes_skip : (osts t : ℕ) (v : Target) (s : Server) (here : At) → Alike osts t v s → target.row v here target.Closes ≡ Skip ∷ []
closes_skip osts t v s here h = cond-true v.up (row_closes v here) (Skip ∷ []) h.up
    ∙ (cond-true (nat_eq v.closed v.boot) (Skip ∷ []) (row_close here v) (eq-eqb v.closed v.boot h.closed))

commits_are : (osts t : ℕ) (v : Target) (s : Server) (here : At) (count : Option ℕ) → Alike osts t v s
    → target.row v here (target.Commits count) ≡ row_commits v (first_deeds count v.log)
commits_are osts t v s _ count h = cond-true v.up (row_commit v count) (Skip ∷ []) h.up
    ∙ (cond-true (nat_eq v.closed v.boot) (row_commits v (first_deeds count v.log)) (Skip ∷ []) (eq-eqb v.closed v.boot h.closed))

-- ---- the turns of a target

module _ (head : table.Head) (past : List Line) (stamp : Stamp) (grown : Grown (covered_head head) past) (settled : Settled past)
    (noted : Noted (covered_head head) past) where
  abbrev Rows : (t : ℕ) → target.Event → Type 0
  Rows t event =
      Serving (covered_head head) t (target_of head t past) (only t past) → Later past (turn stamp (node.Target t))
      → MeetsTarget head past t event
      → target.overruns (target_of head t past) (target.row (target_of head t past) (turn stamp (node.Target t)) event) ≡ false
      → Reaches (covered_head head) stamp t past (only t past) (target_of head t past)
      (target.row (target_of head t past) (turn stamp (node.Target t)) event) (Serving (covered_head head) t)

  comes_row : (t n : ℕ) (from : Node) (m : Message) → Rows t (target.Comes n from m)
  comes_row t n from m h later meets over =
      let asks = asks_of (covered_head head) past n from t m grown meets.3 in
      comes_lead (covered_head head) stamp t past (only t past) v n from m settled later meets.3
      (subst (λ (x : Node). Reaches (covered_head head) stamp t (line at (Take n x m) ∷ past) (line at (Take n x m) ∷ only t past) v
      (row_heeds v at m) (Serving (covered_head head) t)) (sym asks.is)
      (by (nat_eq t 0) refl asks.client asks.asked (asked_target past n asks.client t m
      (subst (λ (x : Node). Sent past n x (node.Target t) m) asks.is meets.3))))
    where
      v : Target
      v = target_of head t past

      at : At
      at = turn stamp (node.Target t)

      high : High v (target.row v at (target.Comes n from m))
      high = high_of v (target.row v at (target.Comes n from m)) over

      First : ℕ → Type 0
      First u =
          (w : Target) (c : ℕ) → IsAsked u m → Serving (covered_head head) u w (only u past) → GrownOf (covered_head head) (only u past)
          → Was (only u past) (node.Client c) (node.Target u) m → High w (row_heeds w (turn stamp (node.Target u)) m)
          → Reaches (covered_head head) stamp u (line (turn stamp (node.Target u)) (Take n (node.Client c) m) ∷ past)
          (line (turn stamp (node.Target u)) (Take n (node.Client c) m) ∷ only u past) w (row_heeds w (turn stamp (node.Target u)) m)
          (Serving (covered_head head) u)

      first : First 0
      first w c asked serves story was low = comes_first (covered_head head) stamp w past n c m asked serves story was low

      by : (b : Bool) → nat_eq t 0 ≡ b → (c : ℕ) → IsAsked t m → Was (only t past) (node.Client c) (node.Target t) m
          → Reaches (covered_head head) stamp t (line at (Take n (node.Client c) m) ∷ past)
          (line at (Take n (node.Client c) m) ∷ only t past) v (row_heeds v at m) (Serving (covered_head head) t)
      by true e c asked was = subst First (sym (eqb-true t 0 e)) first v c asked h (grown_of (covered_head head) t past grown) was high
      by false e c asked was = comes_other (covered_head head) stamp t (positive t (eqb-false t 0 e)) past v n c m asked h
          (grown_of (covered_head head) t past grown) was high

  ticks_row : (t : ℕ) → Rows t target.Ticks
  ticks_row t h later meets over =
      let v = target_of head t past in
      tick_lead (covered_head head) stamp t past v grown settled later h
      (high_of v (target.row v (turn stamp (node.Target t)) target.Ticks) over)

  skips_row : (t : ℕ) (es : List Entry) → Serving (covered_head head) t (target_of head t past) (only t past)
      → Later past (turn stamp (node.Target t)) → es ≡ Skip ∷ []
      → Reaches (covered_head head) stamp t past (only t past) (target_of head t past) es (Serving (covered_head head) t)
  skips_row t es h later is =
      subst (λ (fs : List Entry). Reaches (covered_head head) stamp t past (only t past) (target_of head t past) fs
      (Serving (covered_head head) t)) (sym is) (skip_lead (covered_head head) stamp t past (only t past) (target_of head t past)
      settled later h)

  commits_row : (t : ℕ) (count : Option ℕ) → Rows t (target.Commits count)
  commits_row t count h later meets over =
      let v = target_of head t past in
      let s = server_of head.osts (only t past) in
      subst (λ (es : List Entry). Reaches (covered_head head) stamp t past (only t past) v es (Serving (covered_head head) t))
      (sym (commits_are head.osts t v s (turn stamp (node.Target t)) count h.alike)) (
      commits_lead (covered_head head) stamp t past (only t past) v (first_deeds count v.log) settled later h
      (subst (IsFirst (first_deeds count v.log)) h.alike.log (is_first count v.log))
      )

  -- ---- whether it serves or crashed

  abbrev Makes : ℕ → List Entry → Type 0
  Makes t es = LeadsTo (covered_head head) stamp t past (only t past) (target_of head t past) es

  as_serves : (t : ℕ) (es : List Entry) → Serving (covered_head head) t (target_of head t past) (only t past)
      → Reaches (covered_head head) stamp t past (only t past) (target_of head t past) es (Serving (covered_head head) t) → Makes t es
  as_serves t es h r =
      let serves = serving_is (covered_head head) t (target_of head t past) (only t past) h in (
        (r.0, inl r.1),
        serves_backs (covered_head head) stamp t es past (only t past) r.0 serves.closed (noted.told t) (inl h.phase.up),
        serves_marks (covered_head head) stamp t es past (only t past) r.0 serves.closed (noted.marked t) (inl h.phase.up),
        serves_shows (covered_head head) stamp t es past (only t past) r.0 serves.closed (noted.shown t) (inl h.phase.up),
      )

  serves_row : (t : ℕ) (event : target.Event) → Serving (covered_head head) t (target_of head t past) (only t past)
      → Later past (turn stamp (node.Target t)) → MeetsTarget head past t event
      → target.overruns (target_of head t past) (target.row (target_of head t past) (turn stamp (node.Target t)) event) ≡ false
      → Makes t (target.row (target_of head t past) (turn stamp (node.Target t)) event)
  serves_row t (target.Comes n from m) h later meets over = as_serves t
      (target.row (target_of head t past) (turn stamp (node.Target t)) (target.Comes n from m)) h (comes_row t n from m h later meets over)
  serves_row t target.Ticks h later meets over = as_serves t (target.row (target_of head t past) (turn stamp (node.Target t)) target.Ticks)
      h (ticks_row t h later meets over)
  serves_row t (target.Commits count) h later meets over = as_serves t
      (target.row (target_of head t past) (turn stamp (node.Target t)) (target.Commits count)) h (commits_row t count h later meets over)
  serves_row t target.Crashes h later meets over =
      let v = target_of head t past in
      subst (Makes t) (sym (crashes_are head.osts t v (server_of head.osts (only t past)) (turn stamp (node.Target t)) h.alike))
      (crash_lead (covered_head head) stamp t past (only t past) v settled
      (noted.told t, noted.shown t, grown_of (covered_head head) t past grown) (noted.marked t) later h.phase.up
      (crashed_first (covered_head head) t (only t past) stamp v h))
  serves_row t target.Boots h later meets over =
      let es = target.row (target_of head t past) (turn stamp (node.Target t)) target.Boots in
      as_serves t es h (skips_row t es h later (boots_skip head.osts t (target_of head t past) (server_of head.osts (only t past))
      (turn stamp (node.Target t)) h.alike))
  serves_row t target.Closes h later meets over =
      let es = target.row (target_of head t past) (turn stamp (node.Target t)) target.Closes in
      as_serves t es h (skips_row t es h later (closes_skip head.osts t (target_of head t past) (server_of head.osts (only t past))
      (turn stamp (node.Target t)) h.alike))

  -- no line is of a turn that is later than all
  fresh : (u : ℕ) (next : At) (p : List Line) → Grown (covered_head head) p → Later p next → InTurn IsTake (only u p) next → ⊥
  fresh u next [] g later i = i
  fresh u next (l ∷ p) g later i = by (concerns u l.at.node l.entry) i (fresh u next p g.1 (later_back p l.at next g.0.steps later))
    where
      by : (b : Bool) → InTurn IsTake (if b then l ∷ only u p else only u p) next → (InTurn IsTake (only u p) next → ⊥) → ⊥
      by true (inl k) none = turn_irreflexive next (subst (λ (a : At). turn_before a next ≡ true) k.0 later)
      by true (inr k) none = none k
      by false k none = none k

  other_row : (t : ℕ) (event : target.Event) → ((n : ℕ) (from : Node) (m : Message) → event ≡ target.Comes n from m → ⊥)
      → Crashed (covered_head head) t (target_of head t past) (only t past) → Later past (turn stamp (node.Target t))
      → Makes t (target.row (target_of head t past) (turn stamp (node.Target t)) event)
  other_row t event other h later =
      recovers_lead (covered_head head) stamp t past (only t past) (target_of head t past) event other settled
      (noted.told t, noted.shown t, grown_of (covered_head head) t past grown) (noted.marked t) later
      (fresh t (turn stamp (node.Target t)) past grown later) h

  crashed_row : (t : ℕ) (event : target.Event) → Crashed (covered_head head) t (target_of head t past) (only t past)
      → Later past (turn stamp (node.Target t)) → MeetsTarget head past t event
      → Makes t (target.row (target_of head t past) (turn stamp (node.Target t)) event)
  crashed_row t (target.Comes n from m) h later meets =
      let asks = asks_of (covered_head head) past n from t m grown meets.3 in
      comes asks.client asks.is asks.asked
    where
      Row : Node → Type 0
      Row x = Makes t (target.row (target_of head t past) (turn stamp (node.Target t)) (target.Comes n x m))

      comes : (c : ℕ) → from ≡ node.Client c → IsAsked t m → Row from
      comes c is asked =
          let sent : Sent past n (node.Client c) (node.Target t) m = subst (λ (x : Node). Sent past n x (node.Target t) m) is meets.3 in
          subst Row (sym is) (
          recovered (covered_head head) stamp t past (only t past) (target_of head t past) n c m settled
          (noted.told t, noted.shown t, grown_of (covered_head head) t past grown) (noted.marked t) later h meets.2 sent asked
          (asked_target past n c t m sent)
          )
  crashed_row t target.Ticks h later meets = other_row t target.Ticks (λ n from m e. absurd (cc)) h later
  crashed_row t (target.Commits count) h later meets = other_row t (target.Commits count) (λ n from m e. absurd (cc)) h later
  crashed_row t target.Crashes h later meets = other_row t target.Crashes (λ n from m e. absurd (cc)) h later
  crashed_row t target.Boots h later meets = other_row t target.Boots (λ n from m e. absurd (cc)) h later
  crashed_row t target.Closes h later meets = other_row t target.Closes (λ n from m e. absurd (cc)) h later

  target_row : (t : ℕ) (event : target.Event) → Matches (covered_head head) t (target_of head t past) (only t past)
      → Later past (turn stamp (node.Target t)) → MeetsTarget head past t event
      → target.overruns (target_of head t past) (target.row (target_of head t past) (turn stamp (node.Target t)) event) ≡ false
      → Makes t (target.row (target_of head t past) (turn stamp (node.Target t)) event)
  target_row t event (inl h) later meets over = serves_row t event h later meets over
  target_row t event (inr h) later meets over = crashed_row t event h later meets

-- ---- between turns

-- a target between its turns is what its story says
abbrev pub ServesBetween : table.Head → List Line → ℕ → Type 0
ServesBetween head past t = Matches (covered_head head) t (target_of head t past) (only t past)

pub serves_start : (head : table.Head) (t : ℕ) → ServesBetween head [] t
serves_start head t = inl (serving_start (covered_head head) (setting_of head t) refl)

matches_client : (head : Head) (t : ℕ) (stamp : Stamp) (c : ℕ) (es : List Entry) (past : List Line) (v : Target) → Matches head t v past
    → Matches head t v (with_turn (turn stamp (node.Client c)) es past)
matches_client head t stamp c es past v (inl h) = inl (serving_client head t stamp c es past v h)
matches_client head t stamp c es past v (inr h) = inr (crashed_client head t stamp c es past v h)

-- a turn of a client leaves each target as it is
pub serves_client : (head : table.Head) (past : List Line) (stamp : Stamp) (c : ℕ) (es : List Entry) (t : ℕ) → ServesBetween head past t
    → ServesBetween head (with_turn (turn stamp (node.Client c)) es past) t
serves_client head past stamp c es t h =
    let at : At = turn stamp (node.Client c) in
    subst (λ (v : Target). Matches (covered_head head) t v (only t (with_turn at es past)))
    (sym (target_other (setting_of head t) head.clients past at es refl))
    (subst (λ (p : List Line). Matches (covered_head head) t (target_of head t past) p) (sym (turn_only t at es past))
    (matches_client (covered_head head) t stamp c (about t (node.Client c) es) (only t past) (target_of head t past) h))

-- a target's turn, over a disk that may fail
abbrev pub of_target : table.Head → List Line → Stamp → ℕ → target.Event → Option ℕ → List Entry
of_target head past stamp t event fails = over_disk fails (target.row (target_of head t past) (turn stamp (node.Target t)) event)

pub record TargetOk (head : table.Head) (past : List Line) (stamp : Stamp) (t : ℕ) (es : List Entry) : Type 0 where
  pub row : RowOk (covered_head head) past (turn stamp (node.Target t)) es
  pub serves : (u : ℕ) → ServesBetween head (with_turn (turn stamp (node.Target t)) es past) u

target_turn : (head : table.Head) (past : List Line) (stamp : Stamp) (t : ℕ) (es : List Entry) → ((u : ℕ) → ServesBetween head past u)
    → Noted (covered_head head) past → Reaches (covered_head head) stamp t past (only t past) (target_of head t past) es
    (Matches (covered_head head) t)
    → AllBacks (covered_head head) (only t past) (turn stamp (node.Target t)) es
    → AllMarks (covered_head head) (only t past) (turn stamp (node.Target t)) es
    → AllShows (covered_head head) (only t past) (turn stamp (node.Target t)) es → TargetOk head past stamp t es
target_turn head past stamp t es serves noted r backs marks shows =
    record { row = good_row (covered_head head) stamp t es past r.0 noted backs marks shows; serves = λ u. by u (nat_eq u t) refl }
  where
    at : At
    at = turn stamp (node.Target t)

    own : ServesBetween head (with_turn at es past) t
    own =
        subst (λ (v : Target). Matches (covered_head head) t v (only t (with_turn at es past)))
        (sym (target_own (setting_of head t) head.clients past at es (self t)))
        (subst (λ (p : List Line). Matches (covered_head head) t (turned (target_of head t past) es) p)
        (story_turn (covered_head head) stamp t es past (only t past) refl) r.1)

    by : (u : ℕ) (b : Bool) → nat_eq u t ≡ b → ServesBetween head (with_turn at es past) u
    by u true e = subst (λ (n : ℕ). ServesBetween head (with_turn at es past) n) (sym (eqb-true u t e)) own
    by u false e =
        subst (λ (v : Target). Matches (covered_head head) u v (only u (with_turn at es past)))
        (sym (target_other (setting_of head u) head.clients past at es e))
        (subst (λ (p : List Line). Matches (covered_head head) u (target_of head u past) p)
        (sym (turn_only u at es past ∙ ap (λ (fs : List Entry). with_turn at fs (only u past)) (about_other u t es e))) (serves u))

pub target_ok : (head : table.Head) (past : List Line) (stamp : Stamp) (t : ℕ) (event : target.Event) (fails : Option ℕ)
    → Grown (covered_head head) past → Settled past → Noted (covered_head head) past → ((u : ℕ) → ServesBetween head past u)
    → Later past (turn stamp (node.Target t))
    → MeetsTarget head past t event → HasNumbers head past (turn stamp (node.Target t)) (node.Target t) event
    → AllCovered (with_turn (turn stamp (node.Target t)) (of_target head past stamp t event fails) past)
    → TargetOk head past stamp t (of_target head past stamp t event fails)
target_ok head past stamp t event fails grown settled noted serves later meets numbers covered =
    let at = turn stamp (node.Target t) in
    let es = target.row (target_of head t past) at event in
    let c : EntriesCovered (over_disk fails es) = (covered_turn at (over_disk fails es) past covered).0 in
    let all : over_disk fails es ≡ es = over_none fails es c in
    let r = target_row head past stamp grown settled noted t event (serves t) later meets numbers in
    subst (λ (fs : List Entry). TargetOk head past stamp t fs) (sym all) (target_turn head past stamp t es serves noted r.0 r.1 r.2 r.3)
