-- The turns of a client in a covered run in which a user makes a call: it begins, and is told at once where its handle is bad; or it finds
-- its slot busy.
use Rattle.std.proofs.Common.{◌≡◌, ℕ, ◌<◌, Bool, true, false, List, [], ◌∷◌, ◌⊎◌, inl, inr, Option, Some, None, refl, sym, subst, ap, ◌∙◌}
use Rattle.std.proofs.Common.{pos}
use Rattle.std.specs.Prelude.{nat_eq, ◌||◌, not, is_some}
use Rattle.std.proofs.lemmas.Bool.{eqb-true}
use Rattle.lu_base.specs.declared.ids.At.{At}
use Rattle.lu_base.specs.declared.ids.Node.TheVariants.{Client}
use Rattle.lu_base.specs.declared.ids.Stamp.{Stamp}
use Rattle.lu_trace.specs.WellFormed.{IsCall}
use Rattle.lu_msg.specs.declared.answers.Answer.TheVariants as answer
use Rattle.lu_msg.specs.declared.answers.Errno.TheVariants.{EBADF}
use Rattle.lu_msg.specs.declared.calls.Call.{Call}
use Rattle.lu_msg.specs.declared.calls.Call.TheVariants as call
use Rattle.lu_msg.specs.declared.operations.Op.{Op}
use Rattle.lu_msg.specs.declared.operations.Op.TheVariants as op
use Rattle.lu_spec_entries.specs.Carried.{HandleFile, Plain, Bad, Running}
use Rattle.lu_spec_entries.specs.Words.{Entry, Begin, Busy, Told, Unbinds, Line, line, with_turn}
use Rattle.lu_spec_client.specs.Calls.{calls_at, handles_at, file_of}
use Rattle.lu_spec_client.specs.Rows.{rests, row_call}
use Rattle.lu_spec_client.specs.Slots.{begins, begins_on, begins_close, begins_open}
use Rattle.lu_spec_client.specs.Starts.{is_on}
use Rattle.lu_spec_client.specs.States.{Client as ClientState, follow}
use Rattle.lu_proof_lawful.specs.Covered.Calls.{begun, call_at, operation_of, file_at, is_opening, is_bad, file_for, life_at}
use Rattle.lu_spec_run.specs.Heads as table
use Rattle.lu_spec_run.specs.Runs.{limits_of, client_of}
use Rattle.lu_proof_lawful.proofs.Preconditions.Guards as guards
use Rattle.lu_proof_lawful.proofs.Preconditions.Lists.{self, turn}
use Rattle.lu_proof_lawful.proofs.Preconditions.Turns.{owes_nothing}
use Rattle.lu_proof_lawful.proofs.Preconditions.ClientHandles.{Tied, unbinding, closes_nothing, closes_unbound, begun_tied, closed_tied}
use Rattle.lu_proof_lawful.proofs.Preconditions.ClientHandles.{told_tied, count_more}
use Rattle.lu_proof_lawful.specs.Covered.Runs.{IsOnBytes, AllCovered}
use Rattle.lu_spec_client.specs.Caches.{patches_at}
use Rattle.lu_proof_lawful.proofs.Preconditions.CallStands.{Idle, IdleAt}
use Rattle.lu_proof_lawful.proofs.Preconditions.ClientGood.{Good, Rested, Ended, idle_same, adds, call_line, followed}
use Rattle.lu_proof_lawful.proofs.Preconditions.ClientCalls.{idle_more}
use Rattle.lu_proof_lawful.proofs.Preconditions.ClientPasses.{slots_still}
use Rattle.lu_proof_lawful.proofs.Preconditions.ClientSlots.{HasBegun, has_begun}
use Rattle.lu_proof_lawful.proofs.Preconditions.ClientStarts.{Starts, starts_good, rests_from}

-- ---- which calls begin

-- it is on names, or on the bytes of a file
abbrev Does : Option HandleFile → Call → Type 0
Does file x = ((o : Op) × (operation_of file x ≡ Some o)) ⊎ (IsOnBytes x × ((f : HandleFile) × (file ≡ Some f)))

-- one on a bad handle is told so; another is on a good one or on none
abbrev Beginning : ℕ → List Line → At → ℕ → Call → List Entry → Type 0
Beginning c p at slot x es =
    ((is_bad c p x ≡ true) × (es ≡ Begin slot (begun at x None Bad) ∷ Told slot at (answer.Refused EBADF) None ∷ []))
    ⊎ ((is_bad c p x ≡ false) × Does (file_for c p x) x × (es ≡ Begin slot (begun at x (file_for c p x) Plain) ∷ unbinding x))

module _ (head : table.Head) (c : ℕ) (at : At) (slot : ℕ) (p : List Line) (tied : Tied c p) where
  abbrev Of : Call → List Entry → Type 0
  Of x es = Beginning c p at slot x es

  -- one on the bytes of a file
  on_bytes : (x : Call) (h : ℕ) → IsOnBytes x → is_bad c p x ≡ not (is_some (file_at c h p)) → file_for c p x ≡ file_at c h p → unbinding x
      ≡ [] → Of x (begins_on at slot x (file_of h (handles_at c p)))
  on_bytes x h bytes is file still = subst (λ (f : Option HandleFile). Of x (begins_on at slot x f)) (sym (tied h))
      (by (file_at c h p) refl)
    where
      by : (f : Option HandleFile) → file_at c h p ≡ f → Of x (begins_on at slot x f)
      by None e = inl (is ∙ ap (λ (f : Option HandleFile). not (is_some f)) e, refl)
      by (Some f) e =
          inr (
            is ∙ ap (λ (g : Option HandleFile). not (is_some g)) e,
            inr (bytes, (f, file ∙ e)),
            ap (λ (g : Option HandleFile). Begin slot (begun at x g Plain) ∷ []) (sym (file ∙ e))
                ∙ ap (λ (es : List Entry). Begin slot (begun at x (file_for c p x) Plain) ∷ es) (sym still),
          )

  -- one on none
  plain : (x : Call) (o : Op) → operation_of None x ≡ Some o → is_bad c p x ≡ false → file_for c p x ≡ None → unbinding x ≡ []
      → Of x (Begin slot (begun at x None Plain) ∷ [])
  plain x o is good file still =
      inr (
        good,
        inl (subst (λ (f : Option HandleFile). (o : Op) × (operation_of f x ≡ Some o)) (sym file) (o, is)),
        ap (λ (f : Option HandleFile). Begin slot (begun at x f Plain) ∷ []) (sym file)
            ∙ ap (λ (es : List Entry). Begin slot (begun at x (file_for c p x) Plain) ∷ es) (sym still),
      )

  begins_so : (x : Call) → Of x (begins at slot x (client_of head c p))
  begins_so (call.Open h path) =
      subst (λ (b : Bool). Of (call.Open h path) (begins_open at slot (call.Open h path) b))
      (sym (ap (λ (f : Option HandleFile). is_some f || is_opening c h p) (tied h))) (by (is_bad c p (call.Open h path)) refl)
    where
      by : (b : Bool) → is_bad c p (call.Open h path) ≡ b → Of (call.Open h path) (begins_open at slot (call.Open h path) b)
      by true e = inl (e, refl)
      by false e = inr (e, inl (op.Open path, refl), refl)
  begins_so (call.Close h) = subst (λ (f : Option HandleFile). Of (call.Close h) (begins_close at slot h f)) (sym (tied h))
      (by (file_at c h p) refl)
    where
      by : (f : Option HandleFile) → file_at c h p ≡ f → Of (call.Close h) (begins_close at slot h f)
      by None e = inl (ap (λ (f : Option HandleFile). not (is_some f)) e, refl)
      by (Some f) e =
          inr (
            ap (λ (g : Option HandleFile). not (is_some g)) e,
            inl (op.Close f.number f.fid, ap (λ (g : Option HandleFile). operation_of g (call.Close h)) e),
            ap (λ (g : Option HandleFile). Begin slot (begun at (call.Close h) g Plain) ∷ Unbinds h ∷ []) (sym e),
          )
  begins_so (call.Read h x n) = on_bytes (call.Read h x n) h tt refl refl refl
  begins_so (call.Write h x bs) = on_bytes (call.Write h x bs) h tt refl refl refl
  begins_so (call.Cut h n) = on_bytes (call.Cut h n) h tt refl refl refl
  begins_so (call.Flush h) = on_bytes (call.Flush h) h tt refl refl refl
  begins_so (call.Glimpse h) = on_bytes (call.Glimpse h) h tt refl refl refl
  begins_so (call.Lookup path) = plain (call.Lookup path) (op.Lookup path) refl refl refl refl
  begins_so (call.Stat path) = plain (call.Stat path) (op.Stat path) refl refl refl refl
  begins_so (call.List path) = plain (call.List path) (op.List path) refl refl refl refl
  begins_so (call.Layout path) = plain (call.Layout path) (op.Layout path) refl refl refl refl
  begins_so (call.Mkdir path) = plain (call.Mkdir path) (op.Mkdir path) refl refl refl refl
  begins_so (call.Create path None) = plain (call.Create path None) (op.Create path 1048576 (pos 1)) refl refl refl refl
  begins_so (call.Create path (Some stripes)) = plain (call.Create path (Some stripes)) (op.Create path stripes.0 stripes.1) refl refl refl
      refl
  begins_so (call.Link old new) = plain (call.Link old new) (op.Link old new) refl refl refl refl
  begins_so (call.Unlink path) = plain (call.Unlink path) (op.Unlink path) refl refl refl refl
  begins_so (call.Rmdir path) = plain (call.Rmdir path) (op.Rmdir path) refl refl refl refl
  begins_so (call.Rename old new) = plain (call.Rename old new) (op.Rename old new) refl refl refl refl
  begins_so (call.Chmod path mode) = plain (call.Chmod path mode) (op.Chmod path mode) refl refl refl refl

module _ (head : table.Head) (c : ℕ) (stamp : Stamp) where
  abbrev at : At
  at = turn stamp (Client c)

  -- ---- a call begins, or finds its slot busy

  busy_ends : (p : List Line) (slot : ℕ) → Starts head c stamp p → Ended head c at (line at (Busy slot) ∷ p)
  busy_ends p slot s =
      record {
        good = adds head c stamp p (Busy slot) (starts_good head c stamp p s) (owes_nothing p at (Busy slot) s.settled) s.later (λ t e. tt)
            tt refl;
        settled = tt;
        between = record { idle = s.between.idle; handles = s.between.handles; calm = s.between.calm };
      }

  -- a call on another slot is what it was
  begin_other : (p : List Line) (slot : ℕ) (r : Running) (u : ℕ) → (u ≡ slot → ⊥) → call_at c u (line at (Begin slot r) ∷ p) ≡ call_at c u p
  begin_other p slot r u n = by (nat_eq slot u) refl
    where
      by : (b : Bool) → nat_eq slot u ≡ b → call_at c u (line at (Begin slot r) ∷ p) ≡ call_at c u p
      by true q = absurd (n (sym (eqb-true slot u q)))
      by false q = call_line head c stamp u p (Begin slot r) ∙ rw q refl

  begin_good : (p : List Line) (slot : ℕ) (r : Running) → Starts head c stamp p → slot < 4 → IsCall r.call → call_at c slot p ≡ None → r
      ≡ begun at r.call r.file r.stage → guards.Begins c p r
      → Good head c at (line at (Begin slot r) ∷ p)
  begin_good p slot r s small limits empty is begins =
      adds head c stamp p (Begin slot r) (starts_good head c stamp p s) (owes_nothing p at (Begin slot r) s.settled)
      (record {
        later = s.later;
        small = small;
        free = empty;
        is = is;
        limits = limits;
        begins = begins;
        calm = s.between.calm;
        ready =
            s.ready;
      }) (λ t q. tt)
      tt refl

  -- one on a bad handle is told so
  begin_bad : (p : List Line) (slot : ℕ) (wanted : Call) → Starts head c stamp p → slot < 4 → IsCall wanted → call_at c slot p ≡ None
      → is_bad c p wanted ≡ true
      → Rested head c at (line at (Told slot at (answer.Refused EBADF) None) ∷ line at (Begin slot (begun at wanted None Bad)) ∷ p)
  begin_bad p slot wanted s small limits empty bad =
      record {
        good =
            adds head c stamp p1 e (begin_good p slot r s small limits empty refl (inr (bad, refl, refl))) (refl, refl)
            (inr (inr (inr (inl (record {
              running = r;
              call = stands;
              bad = refl;
              begun = refl;
              of_turn = refl;
              of_answer = refl;
              plain =
                  refl;
            }))))) (λ t q. tt) tt refl;
        settled = tt;
        idle = idle_same c p (line at e ∷ p1) same refl (λ x h. h) s.between.idle;
        handles = told_tied c stamp p1 slot at (answer.Refused EBADF) None r stands refl
            (begun_tied c stamp p slot r (closes_unbound c p wanted bad) s.between.handles);
      }
    where
      r : Running
      r = begun at wanted None Bad

      p1 : List Line
      p1 = line at (Begin slot r) ∷ p

      e : Entry
      e = Told slot at (answer.Refused EBADF) None

      stands : call_at c slot p1 ≡ Some r
      stands = call_line head c stamp slot p (Begin slot r) ∙ rw (self slot) refl

      -- no slot has another call than before
      same : (u : ℕ) → call_at c u (line at e ∷ p1) ≡ call_at c u p
      same u = by (nat_eq slot u) refl
        where
          by : (b : Bool) → nat_eq slot u ≡ b → call_at c u (line at e ∷ p1) ≡ call_at c u p
          by true q = call_line head c stamp u p1 e ∙ rw q refl ∙ sym (ap (λ (v : ℕ). call_at c v p) (sym (eqb-true slot u q)) ∙ empty)
          by false q =
              let n : u ≡ slot → ⊥ = λ is. let t : nat_eq slot u ≡ true = ap (nat_eq slot) is ∙ self slot in absurd (cc) in
              call_line head c stamp u p1 e ∙ rw q refl ∙ begin_other p slot r u n

  -- one on a good handle, or on none, is to move; a close unbinds its handle first
  begin_starts : (p : List Line) (slot : ℕ) (wanted : Call) (file : Option HandleFile) → Starts head c stamp p → slot < 4 → IsCall wanted
      → call_at c slot p ≡ None → is_bad c p wanted ≡ false → file ≡ file_for c p wanted
      → Does file wanted → HasBegun head c stamp slot wanted file
      (with_turn at (Begin slot (begun at wanted file Plain) ∷ unbinding wanted) p)
  begin_starts p slot wanted file s small limits empty fine of_file does = by wanted refl
    where
      r : Running
      r = begun at wanted file Plain

      p1 : List Line
      p1 = line at (Begin slot r) ∷ p

      good : Good head c at p1
      good = sort does
        where
          sort : Does file wanted → Good head c at p1
          sort (inl q) = begin_good p slot r s small limits empty refl (inl (fine, refl, of_file, inl q))
          sort (inr q) = begin_good p slot r s small limits empty refl (inl (fine, refl, of_file, inr q.0))

      stands : call_at c slot p1 ≡ Some r
      stands = call_line head c stamp slot p (Begin slot r) ∙ rw (self slot) refl

      -- what was on an open is on it still
      on_more : (n u : ℕ) → is_on n (call_at c u p) ≡ true → is_on n (call_at c u p1) ≡ true
      on_more n u q = by (nat_eq slot u) refl
        where
          by : (b : Bool) → nat_eq slot u ≡ b → is_on n (call_at c u p1) ≡ true
          by true t = absurd (let none : is_on n (call_at c u p) ≡ false =
              ap (is_on n) (ap (λ (v : ℕ). call_at c v p) (sym (eqb-true slot u t)) ∙ empty) in cc)
          by false t = ap (is_on n) (begin_other p slot r u (λ is. let t : nat_eq slot u ≡ true = ap (nat_eq slot) is ∙ self slot
              in absurd (cc))) ∙ q

      others : (u : ℕ) → (u ≡ slot → ⊥) → IdleAt c p1 u
      others u n =
          subst (Idle (life_at c p1) (patches_at c p1) (calls_at c p1)) (sym (begin_other p slot r u n))
          (idle_more (life_at c p) (patches_at c p) (calls_at c p) (calls_at c p1) (λ n. count_more c n p p1 (on_more n)) (call_at c u p)
          (s.between.idle u))

      by : (x : Call) → wanted ≡ x → HasBegun head c stamp slot wanted file (with_turn at (unbinding x) p1)
      by (call.Close h) e =
          record {
            good = adds head c stamp p1 (Unbinds h) good (subst (λ (x : Call). guards.OwesBegun (at ≡ at) slot Plain x (Unbinds h)) (sym e)
                tt) tt (λ t q. tt) tt refl;
            small = small;
            call = stands;
            others = others;
            handles = closed_tied c stamp p slot r h e s.between.handles;
            due = λ x q. tt;
            quiet = λ q. tt;
            does = does;
          }
      by x e =
          record {
            good = good;
            small = small;
            call = stands;
            others = others;
            handles = begun_tied c stamp p slot r (λ h. closes_nothing h wanted (file_at c h p) (ap unbinding e)) s.between.handles;
            due = λ x q. q;
            quiet = λ q. q;
            does = does;
          }

  pub call_ends : (p : List Line) (slot : ℕ) (wanted : Call) → Starts head c stamp p → slot < 4 → IsCall wanted → (x : Option Running)
      → call_at c slot p ≡ x
      → AllCovered (with_turn at (row_call (limits_of head) at slot wanted (client_of head c p) x) p)
      → Ended head c at (with_turn at (row_call (limits_of head) at slot wanted (client_of head c p) x) p)
  call_ends p slot wanted s small limits (Some r) e covered = busy_ends p slot s
  call_ends p slot wanted s small limits None e covered =
      by (begins at slot wanted k) (begins_so head c at slot p s.between.handles wanted) covered
    where
      k : ClientState
      k = client_of head c p

      es : List Entry
      es = begins at slot wanted k

      after : ClientState → List Entry
      after = rests (limits_of head) at

      by : (fs : List Entry) → Beginning c p at slot wanted fs → AllCovered (with_turn at (follow fs after k) p)
          → Ended head c at (with_turn at (follow fs after k) p)
      by fs (inl bad) cov =
          let gs = Begin slot (begun at wanted None Bad) ∷ Told slot at (answer.Refused EBADF) None ∷ [] in
          let p1 = with_turn at gs p in
          let all : with_turn at (follow fs after k) p ≡ with_turn at (after (client_of head c p1)) p1 =
          ap (λ (xs : List Entry). with_turn at (follow xs after k) p) bad.1 ∙ followed head c stamp gs after p in
          subst (Ended head c at) (sym all) (rests_from head c stamp (Rested head c at) (slots_still head c stamp) p1
          (begin_bad p slot wanted s small limits e bad.0) (subst AllCovered all cov))
      by fs (inr good) cov =
          let file = file_for c p wanted in
          let gs = Begin slot (begun at wanted file Plain) ∷ unbinding wanted in
          let p1 = with_turn at gs p in
          let same : with_turn at (follow fs after k) p ≡ with_turn at (follow gs after k) p =
          ap (λ (xs : List Entry). with_turn at (follow xs after k) p) good.2 in
          let all : with_turn at (follow fs after k) p ≡ with_turn at (after (client_of head c p1)) p1 = same
          ∙ followed head c stamp gs after p in
          subst (Ended head c at) (sym all)
          (rests_from head c stamp (HasBegun head c stamp slot wanted file) (has_begun head c stamp slot wanted file) p1
          (begin_starts p slot wanted file s small limits e good.0 refl good.1) (subst AllCovered all cov))
