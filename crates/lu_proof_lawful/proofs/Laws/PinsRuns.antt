-- Pins over whole runs: at a line of another node, and line by line.
use Rattle.std.proofs.Common.{◌≡◌, ℕ, ◌≤◌, Bool, true, false, List, [], ◌∷◌, inl, inr, Option, Some, None, refl, sym, subst, ap, ◌∙◌, arith}
use Rattle.std.specs.Prelude.{nat_eq}
use Rattle.std.proofs.lemmas.Bool.{eqb-true}
use Rattle.lu_base.specs.declared.ids.At.{At}
use Rattle.lu_base.specs.declared.ids.Node.{Node}
use Rattle.lu_base.specs.declared.ids.Node.TheVariants.{Client, Target}
use Rattle.lu_base.specs.declared.ids.Stamp.{Stamp}
use Rattle.lu_held.specs.declared.locks.HeldLock.{HeldLock}
use Rattle.lu_held.specs.Locks.{name_of}
use Rattle.lu_spec_entries.specs.Carried.{Running}
use Rattle.lu_spec_entries.specs.Words.{Entry, Line, line, with_turn, is_client}
use Rattle.lu_spec_entries.specs.Fields.{on}
use Rattle.lu_spec_target.specs.Disks.{row_start}
use Rattle.lu_spec_client.specs.Caches.{reads_held, held_after, held_at, patches_at}
use Rattle.lu_spec_client.specs.Calls.{reads_call, call_after}
use Rattle.lu_spec_client.specs.Recovery.{ready}
use Rattle.lu_spec_client.specs.Rows as client
use Rattle.lu_proof_lawful.specs.Covered.Calls.{call_at, calls_at, life_at}
use Rattle.lu_proof_lawful.specs.Covered.Runs.{AllCovered}
use Rattle.lu_proof_lawful.specs.Covered.Heads.{IsAlive}
use Rattle.lu_spec_run.specs.Heads as table
use Rattle.lu_spec_run.specs.Runs as table_runs
use Rattle.lu_spec_run.specs.Runs.{limits_of, client_of, row, MeetsClient, IsRow, Turn, lines_of, IsRun}
use Rattle.lu_proof_lawful.proofs.Preconditions.Guards.{In, Later}
use Rattle.lu_proof_lawful.proofs.Preconditions.Lists.{turn}
use Rattle.lu_proof_lawful.proofs.Preconditions.Turns.{covered_head, run_later}
use Rattle.lu_proof_lawful.proofs.Preconditions.Covers.{covered_turn, over_none}
use Rattle.lu_proof_lawful.proofs.Preconditions.ClientLocks.{Once}
use Rattle.lu_proof_lawful.proofs.Preconditions.ClientLines.{SmallOn, small_on, on_other}
use Rattle.lu_proof_lawful.proofs.Preconditions.Obey.{Stands as StandsAt, stands}
use Rattle.lu_proof_lawful.proofs.Preconditions.PinsFit.{PinsFit}
use Rattle.lu_proof_lawful.proofs.Preconditions.PinsCount.{count_of, sum_less, names_on, pins_at, CallFit}
use Rattle.lu_proof_lawful.proofs.Preconditions.PinsSteps.{PinsOf, AllBits, Fit, call_named, named_by}
use Rattle.lu_proof_lawful.proofs.Laws.PinsEvents.{idle_came}
use Rattle.lu_proof_lawful.proofs.Laws.Pins.{Waits4, client_fit}

-- ---- a line of another node

other_line : (c : ℕ) (at : At) (e : Entry) (p : List Line) → is_client c at.node ≡ false → Fit c p → Fit c (line at e ∷ p)
other_line c at e p other fit =
    record {
      all = (named_by c p1 (λ s. call_named (held_at c p1) (call_at c s p1) (calls s)), fit.all);
      once = subst Once (sym held) fit.once;
      bits = subst AllBits (sym held) fit.bits;
      calls = calls;
      counted = λ h i.
          let old = fit.counted h (subst (λ (hs : List HeldLock). In h hs) held i) in
          let few = sum_less (name_of h) (pins_at c p1) (pins_at c p)
          (λ s. subst (λ (x : Option Running). count_of (name_of h) (names_on x) ≤ count_of (name_of h) (pins_at c p s)) (sym (call s))
          (omega arith)) in
          omega (arith, old, few);
    }
  where
    p1 : List Line
    p1 = line at e ∷ p

    held : held_at c p1 ≡ held_at c p
    held = ap (λ (own : Bool). on (reads_held e) own (held_after (held_at c p) e) (held_at c p)) other
        ∙ on_other (reads_held e) (held_after (held_at c p) e) (held_at c p)

    call : (s : ℕ) → call_at c s p1 ≡ call_at c s p
    call s = ap (λ (own : Bool). on (reads_call e) own (call_after s (call_at c s p) e) (call_at c s p)) other
        ∙ on_other (reads_call e) (call_after s (call_at c s p) e) (call_at c s p)

    calls : (s : ℕ) → CallFit (held_at c p1) (call_at c s p1)
    calls s = subst (λ (x : Option Running). CallFit (held_at c p1) x) (sym (call s))
        (subst (λ (hs : List HeldLock). CallFit hs (call_at c s p)) (sym held) (fit.calls s))

other_turn : (c : ℕ) (at : At) (es : List Entry) (p : List Line) → is_client c at.node ≡ false → Fit c p → Fit c (with_turn at es p)
other_turn c at [] p other fit = fit
other_turn c at (e ∷ es) p other fit = other_turn c at es (line at e ∷ p) other (other_line c at e p other fit)

-- ---- runs

-- between turns calls wait
waits : (head : table.Head) (c : ℕ) (stamp : Stamp) (past : List Line) → StandsAt head past → Waits4 head c stamp past
waits head c stamp past s =
    record {
      came = λ slot. idle_came (life_at c past) (patches_at c past) (calls_at c past) (call_at c slot past) ((s.between c).idle slot);
      low = λ slot above. by slot above (call_at c slot past) (small_on (covered_head head) c slot past s.grown);
    }
  where
    by : (slot : ℕ) → 4 ≤ slot → (x : Option Running) → SmallOn slot x → x ≡ None
    by slot above None small = refl
    by slot above (Some r) small = absurd (omega (arith, above, small))

lives : (head : table.Head) (past : List Line) (c : ℕ) (event : client.Event) → MeetsClient head past c event
    → IsAlive (covered_head head) past c
lives head past c (client.Begins slot wanted) m = record { one = m.0.one; alive = m.0.alive }
lives head past c (client.Comes n from message) m = record { one = m.0.one; alive = m.0.alive }
lives head past c client.Ticks m = record { one = m.one; alive = m.alive }
lives head past c client.Dies m = record { one = m.one; alive = m.alive }

own_turn : (head : table.Head) (past : List Line) (stamp : Stamp) (c : ℕ) (event : client.Event) → StandsAt head past
    → Later past (turn stamp (Client c)) → MeetsClient head past c event
    → AllCovered (with_turn (turn stamp (Client c)) (client.row (limits_of head) (turn stamp (Client c)) event (client_of head c past))
    past)
    → StandsAt head (with_turn (turn stamp (Client c)) (client.row (limits_of head) (turn stamp (Client c)) event (client_of head c past))
    past) → Fit c past
    → Fit c (with_turn (turn stamp (Client c)) (client.row (limits_of head) (turn stamp (Client c)) event (client_of head c past)) past)
own_turn head past stamp c event s later meets covered next fit =
    let at = turn stamp (Client c) in
    let es = client.row (limits_of head) at event (client_of head c past) in
    let parts = covered_turn at es past covered in
    let w = waits head c stamp past s in
    client_fit head c stamp past event (record {
      fit = fit;
      starts = record {
        grown = s.grown;
        covered = parts.1;
        settled = s.settled;
        later = later;
        closed = s.closed;
        noted = s.noted;
        there = s.there;
        alive = lives head past c event meets;
        between = s.between c;
        awaits = s.awaits c;
        ready = s.ready c;
      };
      came = w.came;
      low = w.low;
    }) meets next.grown (waits head c stamp (with_turn at es past) next) parts.0

row_fit : (head : table.Head) (past : List Line) (stamp : Stamp) (node : Node) (es : List Entry) → StandsAt head past
    → Later past (turn stamp node) → IsRow head past (turn stamp node) es
    → AllCovered (with_turn (turn stamp node) es past) → StandsAt head (with_turn (turn stamp node) es past) → ((c : ℕ) → Fit c past)
    → (c : ℕ) → Fit c (with_turn (turn stamp node) es past)
row_fit head past stamp (Target t) es s later r covered next fit c = other_turn c (turn stamp (Target t)) es past refl (fit c)
row_fit head past stamp (Client d) es s later r covered next fit c = by (nat_eq c d) refl
  where
    at : At
    at = turn stamp (Client d)

    fs : List Entry
    fs = client.row (limits_of head) at r.event (client_of head d past)

    all : es ≡ fs
    all =
        let whole = subst (λ (gs : List Entry). AllCovered (with_turn at gs past)) r.is covered in
        r.is ∙ over_none r.fails fs (covered_turn at (row head past at r.event r.fails) past whole).0

    own : Fit d (with_turn at es past)
    own =
        subst (λ (gs : List Entry). Fit d (with_turn at gs past)) (sym all)
        (own_turn head past stamp d r.event s later r.meets (subst (λ (gs : List Entry). AllCovered (with_turn at gs past)) all covered)
        (subst (λ (gs : List Entry). StandsAt head (with_turn at gs past)) all next) (fit d))

    by : (b : Bool) → nat_eq c d ≡ b → Fit c (with_turn at es past)
    by true e = subst (λ (u : ℕ). Fit u (with_turn at es past)) (sym (eqb-true c d e)) own
    by false e = other_turn c at es past e (fit c)

fits : (head : table.Head) (turns : List Turn) → IsRun head turns → AllCovered (lines_of turns) → (c : ℕ) → Fit c (lines_of turns)
fits head [] run covered = λ c. record { all = tt; once = tt; bits = λ h i. absurd i; calls = λ s. tt; counted = λ h i. absurd i }
fits head (t ∷ turns) run covered = by run.1 (fits head turns run.2 (covered_turn t.at t.entries (lines_of turns) covered).1)
  where
    by : table_runs.IsTurn head turns t → ((c : ℕ) → Fit c (lines_of turns)) → (c : ℕ) → Fit c (lines_of (t ∷ turns))
    by (inl r) fit =
        row_fit head (lines_of turns) t.at.stamp t.at.node t.entries
        (stands head turns run.2 (covered_turn t.at t.entries (lines_of turns) covered).1) (run_later head turns t.at run.2 run.0) r
        covered
        (stands head (t ∷ turns) run covered) fit
    by (inr f) fit = absurd (fails (subst (λ (es : List Entry). AllCovered (with_turn t.at es (lines_of turns))) f.is covered))
      where
        fails : AllCovered (with_turn t.at (row_start true) (lines_of turns)) → ⊥
        fails k = k.0

all_fit : (past : List Line) → ((c : ℕ) → PinsOf c past) → PinsFit past
all_fit [] all = tt
all_fit (l ∷ past) all = (λ c slot r n e i. (all c).0 slot r n e i, all_fit past (λ c. (all c).1))

pub pins_fit : (head : table.Head) (turns : List Turn) → IsRun head turns → AllCovered (lines_of turns) → PinsFit (lines_of turns)
pins_fit head turns run covered = all_fit (lines_of turns) (λ c. (fits head turns run covered c).all)
