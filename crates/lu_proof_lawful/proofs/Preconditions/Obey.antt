-- Each covered run of the table makes lines that are allowed, one after another; after each turn nothing is owed, no life is ending, no
-- target has a message to keep or a life to tell of as back, and between its turns each call of a client waits, for its reply, for a lock
-- or
-- for other calls on its open; none of its held locks on names is pinned, and none is marked where its target serves it, its handles are
-- bound
-- as calls say, the locks that it waits for are those of its calls, and each target is what its story says.
use Rattle.std.proofs.Common.{◌≡◌, ℕ, ◌≤◌, Bool, true, false, List, [], ◌∷◌, inl, inr, None, refl, sym, subst, ap, ◌∙◌}
use Rattle.std.specs.Prelude.{nat_eq, ◌&&◌}
use Rattle.std.proofs.lemmas.Bool.{eqb-true}
use Rattle.lu_base.specs.declared.ids.At.{At}
use Rattle.lu_base.specs.declared.ids.Node.{Node}
use Rattle.lu_base.specs.declared.ids.Node.TheVariants.{Client, Target}
use Rattle.lu_base.specs.declared.ids.Stamp.{Stamp}
use Rattle.lu_base.specs.declared.locks.Resource.{Resource}
use Rattle.lu_held.specs.declared.locks.HeldLock.{HeldLock}
use Rattle.lu_spec_entries.specs.Words.{Entry, Line, line, with_turn, is_client}
use Rattle.lu_spec_entries.specs.Fields.{on, at_client, at_import}
use Rattle.lu_spec_entries.specs.Concerns.{is_about}
use Rattle.lu_spec_target.specs.Disks.{row_start}
use Rattle.lu_spec_client.specs.Caches.{reads_held, held_after, held_at, patch_at, reads_patches, patches_after}
use Rattle.lu_spec_client.specs.Calls.{reads_handles, handles_after, file_of}
use Rattle.lu_spec_client.specs.Patches.{Patch}
use Rattle.lu_spec_client.specs.Rows as client
use Rattle.lu_spec_target.specs.Rows as target
use Rattle.lu_proof_lawful.specs.Covered.Calls.{reads_call, call_after, reads_life, life_after, first_life}
use Rattle.lu_proof_lawful.specs.Covered.Runs.{AllCovered}
use Rattle.lu_proof_lawful.specs.Covered.Heads.{IsAlive}
use Rattle.lu_proof_lawful.specs.Covered.Imports.{Serving, reads_standing, standing_after}
use Rattle.lu_spec_run.specs.Heads as table
use Rattle.lu_spec_run.specs.Runs as table_runs
use Rattle.lu_spec_run.specs.Runs.{limits_of, client_of, row, MeetsClient, MeetsTarget, IsRow, Turn, lines_of, IsRun}
use Rattle.lu_proof_lawful.proofs.Preconditions.Guards.{In, HasChange, Later, Ending, is_welcome}
use Rattle.lu_proof_lawful.proofs.Preconditions.Grown.{Noted, Grown}
use Rattle.lu_proof_lawful.proofs.Preconditions.Lists.{turn}
use Rattle.lu_proof_lawful.proofs.Preconditions.Ends.{closed_row, closed_target}
use Rattle.lu_proof_lawful.proofs.Preconditions.Turns.{covered_head, Settled, settled_after, noted_after, turn_grows, run_later}
use Rattle.lu_proof_lawful.proofs.Preconditions.Covers.{covered_turn, over_none}
use Rattle.lu_proof_lawful.proofs.Preconditions.ClientLines.{AllThere, there_turn, on_other}
use Rattle.lu_proof_lawful.proofs.Preconditions.ClientHandles.{file_other}
use Rattle.lu_proof_lawful.proofs.Preconditions.ClientGood.{Between, idle_same}
use Rattle.lu_proof_lawful.proofs.Preconditions.Awaits.{Awaits, awaits_start}
use Rattle.lu_proof_lawful.proofs.Preconditions.AwaitsTurns.{awaits_other}
use Rattle.lu_proof_lawful.proofs.Preconditions.ClientTurns.{Closed, client_ok}
use Rattle.lu_proof_lawful.proofs.Preconditions.ClientReady.{welcome_other, welcome_client}
use Rattle.lu_proof_lawful.proofs.Preconditions.TargetTurns.{of_target, target_ok, ServesBetween, serves_start, serves_client}

-- ---- a turn of another node leaves a client as it is

field_other : {A : Type 0} (reads : Entry → Bool) (after : A → Entry → A) (start : A) (c : ℕ) (at : At) (es : List Entry) (past : List Line)
    → is_client c at.node ≡ false
    → at_client reads after start c (with_turn at es past) ≡ at_client reads after start c past
field_other reads after start c at [] past other = refl
field_other {A} reads after start c at (e ∷ es) past other =
    let X : A = at_client reads after start c past in
    field_other reads after start c at es (line at e ∷ past) other ∙ ap (λ (own : Bool). on (reads e) own (after X e) X) other
    ∙ on_other (reads e) (after X e) X

import_other : {A : Type 0} (reads : Entry → Bool) (after : A → Entry → A) (start : A) (c t : ℕ) (at : At) (es : List Entry)
    (past : List Line) → is_client c at.node ≡ false
    → at_import reads after start c t (with_turn at es past) ≡ at_import reads after start c t past
import_other reads after start c t at [] past other = refl
import_other {A} reads after start c t at (e ∷ es) past other =
    let X : A = at_import reads after start c t past in
    import_other reads after start c t at es (line at e ∷ past) other
    ∙ ap (λ (own : Bool). on (reads e) (own && is_about t e) (after X e) X) other ∙ on_other (reads e) (after X e) X

between_other : (c : ℕ) (at : At) (es : List Entry) (past : List Line) → is_client c at.node ≡ false → Between c past
    → Between c (with_turn at es past)
between_other c at es past other b =
    record {
      idle = idle_same c past (with_turn at es past) (λ slot. field_other reads_call (call_after slot) None c at es past other)
          (field_other reads_life life_after (first_life c) c at es past other)
          (λ r k. subst (λ (m : List (Resource × Patch)). HasChange (patch_at r m))
          (sym (field_other reads_patches patches_after [] c at es past other)) k) b.idle;
      handles = λ h. ap (file_of h) (field_other reads_handles handles_after [] c at es past other) ∙ b.handles h
          ∙ sym (file_other c h at es past other);
      calm = λ x i q. b.calm x (was x i) (sym (import_other reads_standing standing_after Serving c x.target.0 at es past other) ∙ q);
    }
  where
    was : (x : HeldLock) → In x (held_at c (with_turn at es past)) → In x (held_at c past)
    was x i = subst (λ (hs : List HeldLock). In x hs) (field_other reads_held held_after [] c at es past other) i

-- ---- one turn

-- what holds between turns
pub record Stands (head : table.Head) (past : List Line) : Type 0 where
  pub grown : Grown (covered_head head) past
  pub settled : Settled past
  pub closed : (c : ℕ) → Ending past c → ⊥
  pub noted : Noted (covered_head head) past
  pub there : AllThere head.osts past
  pub between : (c : ℕ) → Between c past
  pub awaits : (c : ℕ) → Awaits c past
  pub serves : (t : ℕ) → ServesBetween head past t
  pub ready : (c t : ℕ) → is_welcome c t past ≡ false

lives : (head : table.Head) (past : List Line) (c : ℕ) (event : client.Event) → MeetsClient head past c event
    → IsAlive (covered_head head) past c
lives head past c (client.Begins slot wanted) m = record { one = m.0.one; alive = m.0.alive }
lives head past c (client.Comes n from message) m = record { one = m.0.one; alive = m.0.alive }
lives head past c client.Ticks m = record { one = m.one; alive = m.alive }
lives head past c client.Dies m = record { one = m.one; alive = m.alive }

-- a target that makes a turn is there
target_there : (head : table.Head) (past : List Line) (t : ℕ) (event : target.Event) → MeetsTarget head past t event → t ≤ head.osts
target_there head past t (target.Comes n from m) meets = meets.0
target_there head past t event meets = meets.0

client_stands : (head : table.Head) (past : List Line) (stamp : Stamp) (c : ℕ) (event : client.Event) → Stands head past
    → Later past (turn stamp (Client c)) → MeetsClient head past c event
    → AllCovered (with_turn (turn stamp (Client c)) (client.row (limits_of head) (turn stamp (Client c)) event (client_of head c past))
    past)
    → Stands head (with_turn (turn stamp (Client c)) (client.row (limits_of head) (turn stamp (Client c)) event (client_of head c past))
    past)
client_stands head past stamp c event s later meets covered =
    record {
      grown = ok.grown;
      settled = ok.settled;
      closed = closed_row (covered_head head) (limits_of head) past stamp c event (client_of head c past) refl later s.closed ok.grown;
      noted = ok.noted;
      there = there_turn head.osts at es past tt s.there;
      between = λ d. by d (nat_eq d c) refl;
      awaits = λ d. waits d (nat_eq d c) refl;
      serves = λ t. serves_client head past stamp c es t (s.serves t);
      ready = welcome_client head past stamp c event s.ready s.there later ok.grown;
    }
  where
    at : At
    at = turn stamp (Client c)

    es : List Entry
    es = client.row (limits_of head) at event (client_of head c past)

    ok : Closed head c stamp (with_turn at es past)
    ok =
        client_ok head c stamp past event
        (record {
          grown = s.grown;
          covered = (covered_turn at es past covered).1;
          settled = s.settled;
          later = later;
          closed = s.closed;
          noted = s.noted;
          there = s.there;
          alive = lives head past c event meets;
          between = s.between c;
          awaits = s.awaits c;
          ready = s.ready c;
        })
        meets covered

    by : (d : ℕ) (b : Bool) → nat_eq d c ≡ b → Between d (with_turn at es past)
    by d true e = subst (λ (u : ℕ). Between u (with_turn at es past)) (sym (eqb-true d c e)) ok.between
    by d false e = between_other d at es past e (s.between d)

    waits : (d : ℕ) (b : Bool) → nat_eq d c ≡ b → Awaits d (with_turn at es past)
    waits d true e = subst (λ (u : ℕ). Awaits u (with_turn at es past)) (sym (eqb-true d c e)) ok.awaits
    waits d false e = awaits_other (covered_head head) d at es past e ok.grown (s.awaits d)

row_stands : (head : table.Head) (past : List Line) (stamp : Stamp) (node : Node) (es : List Entry) → Stands head past
    → Later past (turn stamp node) → IsRow head past (turn stamp node) es → AllCovered (with_turn (turn stamp node) es past)
    → Stands head (with_turn (turn stamp node) es past)
row_stands head past stamp (Client c) es s later r covered =
    let at = turn stamp (Client c) in
    let fs = client.row (limits_of head) at r.event (client_of head c past) in
    let whole = subst (λ (gs : List Entry). AllCovered (with_turn at gs past)) r.is covered in
    let all : es ≡ fs = r.is ∙ over_none r.fails fs (covered_turn at (row head past at r.event r.fails) past whole).0 in
    subst (λ (gs : List Entry). Stands head (with_turn at gs past)) (sym all)
    (client_stands head past stamp c r.event s later r.meets
    (subst (λ (gs : List Entry). AllCovered (with_turn at gs past)) all covered))
row_stands head past stamp (Target t) es s later r covered =
    let at = turn stamp (Target t) in
    let fs = of_target head past stamp t r.event r.fails in
    let ok = target_ok head past stamp t r.event r.fails s.grown s.settled s.noted s.serves later r.meets r.numbers
    (subst (λ (gs : List Entry). AllCovered (with_turn at gs past)) r.is covered) in
    let grows = turn_grows (covered_head head) past at fs s.grown later s.closed ok.row in
    subst (λ (gs : List Entry). Stands head (with_turn at gs past)) (sym r.is) (record {
      grown = grows;
      settled = settled_after past at fs ok.row.paid;
      closed = closed_target stamp t fs past s.closed;
      noted = noted_after (covered_head head) past at fs ok.row;
      there = there_turn head.osts at fs past (target_there head past t r.event r.meets) s.there;
      between = λ c. between_other c at fs past refl (s.between c);
      awaits = λ c. awaits_other (covered_head head) c at fs past refl grows (s.awaits c);
      serves = ok.serves;
      ready = λ c u. welcome_other c u at fs past refl ∙ s.ready c u;
    })

-- ---- runs

pub stands : (head : table.Head) (turns : List Turn) → IsRun head turns → AllCovered (lines_of turns) → Stands head (lines_of turns)
stands head [] run covered =
    record {
      grown = tt;
      settled = tt;
      closed = λ c k. k;
      noted = record { marked = λ t. refl; told = λ t who k. k; shown = λ t. refl };
      there = tt;
      between = λ c. record { idle = λ slot. tt; handles = λ h. refl; calm = λ x i q. absurd i };
      awaits = λ c. awaits_start c;
      serves = λ t. serves_start head t;
      ready = λ c t. refl;
    }
stands head (t ∷ turns) run covered = by run.1 (stands head turns run.2 (covered_turn t.at t.entries (lines_of turns) covered).1)
  where
    by : table_runs.IsTurn head turns t → Stands head (lines_of turns) → Stands head (lines_of (t ∷ turns))
    by (inl r) s = row_stands head (lines_of turns) t.at.stamp t.at.node t.entries s (run_later head turns t.at run.2 run.0) r covered
    by (inr f) s = absurd (fails (subst (λ (es : List Entry). AllCovered (with_turn t.at es (lines_of turns))) f.is covered))
      where
        fails : AllCovered (with_turn t.at (row_start true) (lines_of turns)) → ⊥
        fails k = k.0

pub grown : (head : table.Head) (turns : List Turn) → IsRun head turns → AllCovered (lines_of turns)
    → Grown (covered_head head) (lines_of turns)
grown head turns run covered = (stands head turns run covered).grown

pub settled : (head : table.Head) (turns : List Turn) → IsRun head turns → AllCovered (lines_of turns) → Settled (lines_of turns)
settled head turns run covered = (stands head turns run covered).settled

pub noted : (head : table.Head) (turns : List Turn) → IsRun head turns → AllCovered (lines_of turns)
    → Noted (covered_head head) (lines_of turns)
noted head turns run covered = (stands head turns run covered).noted

pub between : (head : table.Head) (turns : List Turn) → IsRun head turns → AllCovered (lines_of turns) → (c : ℕ)
    → Between c (lines_of turns)
between head turns run covered c = (stands head turns run covered).between c

pub served : (head : table.Head) (turns : List Turn) → IsRun head turns → AllCovered (lines_of turns) → (t : ℕ)
    → ServesBetween head (lines_of turns) t
served head turns run covered t = (stands head turns run covered).serves t
