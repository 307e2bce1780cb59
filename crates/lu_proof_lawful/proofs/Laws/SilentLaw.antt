-- The law of silent repeats holds of the printed past of every grown one that is settled: each call whose answer is known, while its client holds no
-- lock to write under, is known by facts under held locks, or is a read or a stat of a file of which all that it wants is known under such, so that
-- it is told as it begins.
use Rattle.std.proofs.Common.{◌≡◌, ℕ, ◌+◌, ◌-◌, ◌≤◌, Bool, true, false, List, [], ◌∷◌, ◌⊎◌, Option, Some, None, inl, inr, ⊎_elim, refl, sym, subst, ap, ◌∙◌, arith}
use Rattle.std.specs.Prelude.{nat_eq, not, ◌&&◌, if◌then◌else◌, map}
use Rattle.std.specs.List.{list_any}
use Rattle.std.proofs.lemmas.Bool.{cond_both, cond-true, and_parts, eqb-true, not-true}
use Rattle.lu_base.specs.declared.ids.At.{At}
use Rattle.lu_base.specs.declared.ids.Fid.{Fid}
use Rattle.lu_base.specs.declared.ids.Node.{Node}
use Rattle.lu_base.specs.declared.ids.Node.TheVariants.{Client, Target}
use Rattle.lu_base.specs.declared.ids.Stamp.{Stamp}
use Rattle.lu_base.specs.declared.locks.Resource.{Resource}
use Rattle.lu_base.specs.declared.locks.Lock.{Lock}
use Rattle.lu_base.specs.declared.locks.Mode.TheVariants.{PW}
use Rattle.lu_layout.specs.Raid0.{Raid0}
use Rattle.lu_layout.specs.Sound.{IsLayout}
use Rattle.lu_lock.specs.Growth.{the_end}
use Rattle.lu_msg.specs.declared.answers.Answer.{Answer}
use Rattle.lu_msg.specs.declared.calls.Call.{Call}
use Rattle.lu_msg.specs.declared.calls.Call.TheVariants as call
use Rattle.lu_msg.specs.declared.operations.Op.{Op}
use Rattle.lu_held.specs.declared.locks.Change.TheVariants as of_held
use Rattle.lu_held.specs.declared.locks.HeldLock.{HeldLock}
use Rattle.lu_held.specs.declared.locks.Use.{Use}
use Rattle.lu_held.specs.declared.names.LockName.{LockName}
use Rattle.lu_held.specs.Held.{serving, changed, used}
use Rattle.lu_trace.specs.declared.entries.Entry.TheVariants as entry
use Rattle.lu_trace.specs.declared.entries.Line.{Line as PrintedLine}
use Rattle.lu_trace.specs.WellFormed.{IsCall}
use Rattle.lu_spec_machine.specs.Tree.{no_file}
use Rattle.lu_spec_entries.specs.declared.changes.Flush.{Flush}
use Rattle.lu_spec_entries.specs.declared.uses.Using.{Using}
use Rattle.lu_spec_entries.specs.Carried.{Work, Queued, Running, HandleFile, Unasked, Kind, Narrow, Wide, Stage, Plain, Bad, Looks, Enqueued, Came, Forgotten, Gets, Sizes}
use Rattle.lu_spec_entries.specs.Words.{Entry, Begin, Told, Queues, Stands, Pins, Unpins, WritesBack, Line, line, turn_before}
use Rattle.lu_spec_entries.specs.Sent.{count_sent}
use Rattle.lu_spec_entries.specs.Printed.{printed_entry, printed}
use Rattle.lu_spec_client.specs.Caches.{held_at}
use Rattle.lu_spec_client.specs.Facts.{facts_at}
use Rattle.lu_spec_client.specs.Looks.{Page, missing, has_reached}
use Rattle.lu_spec_client.specs.States.{store_at}
use Rattle.lu_spec_client.specs.Stripes.{stripes}
use Rattle.lu_spec_client.specs.Wants.{wants_of}
use Rattle.lu_proof_lawful.specs.Covered.Calls.{call_at, operation_of, begun_file, file_at, file_for, life_at}
use Rattle.lu_proof_lawful.specs.Covered.Heads.{Head}
use Rattle.lu_proof_lawful.specs.Covered.Known.{notes_at}
use Rattle.lu_spec_laws.specs.Holds.{Holds, HoldsBefore}
use Rattle.lu_spec_laws.specs.Laws.Silent.{is_told_silently, SilentAt, Silent}
use Rattle.lu_spec_laws.specs.Words.Held.{held, has_write_lock}
use Rattle.lu_spec_laws.specs.Words.Lives.{who_is}
use Rattle.lu_spec_laws.specs.Words.Pasts.{same_turn}
use Rattle.lu_spec_laws.specs.Words.Repeats.{same_reading, calm, known, is_repeat}
use Rattle.lu_proof_lawful.proofs.Preconditions.Guards.{In, Later, Closes, Ending, EntryOk, BeginOk, Begins, Starts, StartsRead, OfFlush, IsFlushing, OwesBegun, Owes, NamesAskOk, SizeAskOk, LockAskOk, GetAskOk, CallAsksOk, QueuesOk, WritesBackOk, ReadsOn, ChangesOn, UsesHeld, wanted_by, work_in, used_in, LacksOf, Narrowed, Wider, SizesStand, LeftSize, LockStand, StatStand, GetStand, FlushStand}
use Rattle.lu_proof_lawful.proofs.Preconditions.Guards.{MovedStand, StandsOk}
use Rattle.lu_proof_lawful.proofs.Preconditions.Grown.{Allowed, Grown}
use Rattle.lu_proof_lawful.proofs.Preconditions.HeedMarks.{owed_of}
use Rattle.lu_proof_lawful.proofs.Preconditions.Heeds.{none_owed}
use Rattle.lu_proof_lawful.proofs.Preconditions.Lists.{self, turn_irreflexive}
use Rattle.lu_proof_lawful.proofs.Preconditions.Turns.{BeginQuiet, Settled}
use Rattle.lu_proof_lawful.proofs.Preconditions.ClientLooks.{lacks_in}
use Rattle.lu_proof_lawful.proofs.Preconditions.ClientLocks.{used_only, in_map}
use Rattle.lu_proof_lawful.proofs.Invariants.Groups.{turn}
use Rattle.lu_proof_lawful.proofs.Invariants.HeldThere.{There, of_any, changed_there, used_there}
use Rattle.lu_proof_lawful.proofs.Invariants.TaughtKnown.{Agrees}
use Rattle.lu_proof_lawful.specs.Projection.Lives.{is_over}
use Rattle.lu_proof_lawful.proofs.Refinement.OverLives.{over_ending}
use Rattle.lu_proof_lawful.proofs.Laws.Lines.{OfPrinted, Keeps, shown, holds_owed}
use Rattle.lu_proof_lawful.proofs.Laws.WritesHeld.{no_writes}
use Rattle.lu_proof_lawful.proofs.Laws.KnownPlaces.{Locks, ServedOf, LastOf, served_stay, places_with, reached_with}
use Rattle.lu_proof_lawful.proofs.Laws.KnownLooks.{served_again}
use Rattle.lu_proof_lawful.proofs.Laws.KnownAgain.{narrow_has, wide_has, narrow_reached}
use Rattle.lu_proof_lawful.proofs.Laws.SilentWorlds.{NoWrites, Lasting, Free, ReadBy, KnownRead, read_stays}
use Rattle.lu_proof_lawful.proofs.Laws.SilentKnown.{IsKnown, known_told}
use Rattle.lu_proof_lawful.proofs.Laws.SilentHeld.{bare_at, Unmarked, lasts_clear, grows_to_bare, grows_from_bare, pins_grow, unpins_grow}
use Rattle.lu_proof_lawful.proofs.Laws.SilentCalm.{every_in}
use Rattle.lu_proof_lawful.proofs.Laws.SilentReading.{ToRead, run_with, rest_with, last_wanted}
use Rattle.lu_proof_lawful.proofs.Laws.SilentAgrees.{agrees}
use Rattle.lu_proof_lawful.proofs.Laws.SilentServed.{repeats_unmarked}
use Rattle.lu_proof_lawful.proofs.Laws.SilentStats.{StatKnown, KnownBy, by_more, stat_asks_none, stat_waits_none}
use Rattle.lu_proof_lawful.proofs.Laws.SilentPromises.{KnownAt, Promise, Run, before, known_still, still, known_is_known}
use Rattle.lu_proof_lawful.proofs.Laws.SilentBegins.{IsReadCall, MayKnow, same_is, rebinds_self, agrees_too, StandsFor, IsStatCall, Follows, reading_owes, read_owes, no_read_call, no_stat_call, none_wanted, none_in, none_missing, clash_of, plain_no_work, never_moved, IsIdle, Since, since_self, since_less, pins_idle, since_between, Over, over_in, over_out, flushing_or, stood_owes, stood_settled}
use Rattle.lu_proof_lawful.proofs.Laws.SilentBegins.{IsFreeOf, there, none_changed}

module _ (head : Head) where
  -- as it is, a client knows it: no lock is marked under which it does
  abbrev KnownNow : ℕ → List Line → Call → Type 0
  KnownNow c past k = KnownBy (notes_at c past) (KnownRead (Free c past) c past) (ServedOf (Free c past)) k

  agrees_now : (c : ℕ) (past : List Line) → Grown head past → Agrees (notes_at c past)
  agrees_now c past g = agrees_too (notes_at c past) (bare_at c past) (grows_to_bare (facts_at c past) (held_at c past)) (agrees head c past g)

  -- so it does where no lock is marked that isn't pinned
  free_of : (c : ℕ) (past : List Line) → Unmarked (held_at c past) → (t : ℕ) (k : Lock) → Lasting c past t k → Free c past t k
  free_of c past calm t k (h, i, target, lock, is) = (h, i, target, lock, lasts_clear (held_at c past) calm h i is.0)

  read_with : (c : ℕ) (past : List Line) (L M : Locks) (k : Call) → ((t : ℕ) (x : Lock) → L t x → M t x) → KnownRead L c past k → KnownRead M c past k
  read_with c past L M (call.Read h p n) more k =
      record {
        file = k.file;
        bound = k.bound;
        good = k.good;
        some = k.some;
        limit = k.limit;
        places = places_with L M c past more k.file.layout k.file.fid p n k.places;
        served = λ w i. served_stay L M w more (k.served w i);
        last = ⊎_elim (λ (q : LastOf L c past k.file.layout k.file.fid p (p + n - 1)). inl (reached_with L M c past more _ _ _ _ q))
            (λ (q : (w : Use) → In w (wants_of k.file.layout k.file.fid (Wide p n)) → ServedOf L w). inr (λ w i. served_stay L M w more (q w i))) k.last;
      }
  read_with c past L M k more h = tt

  known_clear : (c : ℕ) (past : List Line) (k : Call) → Grown head past → Unmarked (held_at c past) → KnownAt c past k → KnownNow c past k
  known_clear c past k g calm =
      by_more (bare_at c past) (notes_at c past) (KnownRead (Lasting c past) c past) (KnownRead (Free c past) c past) (ServedOf (Lasting c past)) (ServedOf (Free c past)) k (grows_from_bare (facts_at c past) (held_at c past) calm) (agrees_now c past g)
      (read_with c past (Lasting c past) (Free c past) k (free_of c past calm)) (λ u locked. served_stay (Lasting c past) (Free c past) u (free_of c past calm) locked)

  -- where the newest line began a call that is known while no lock is marked that isn't pinned and none to write under is held, or one on a bad
  -- handle, but for what it pins and unpins, it is told in the lines to come before anything is sent
  abbrev IsDue : ℕ → List Line → Running → Type 0
  IsDue c past running = (running.stage ≡ Bad) ⊎ (MayKnow running.call × KnownAt c past running.call × Unmarked (held_at c past) × NoWrites c past × (is_over c (life_at c past) past ≡ false))

  abbrev Due : List Line → List PrintedLine → Type 0
  Due [] later = Unit {0}
  Due (l ∷ past) later =
      elim l.entry [
        | Begin slot running ↦ (c : ℕ) → l.at.node ≡ Client c → IsDue c past running → is_told_silently slot l.at later ≡ true
        | Pins name ↦ Due past later
        | Unpins name ↦ Due past later
        | Stands slot running ↦ Over running.stage (Due past later)
        | _ ↦ Unit {0}
      ]

  nothing_due : (past : List Line) (later : List PrintedLine) → Settled past → Due past later
  nothing_due [] later s = tt
  nothing_due (l ∷ past) later s = by l.entry s (nothing_due past later)
    where
      quiet : (stage : Stage) (k : Call) → BeginQuiet stage k → MayKnow k → ⊥
      quiet Bad k q r = q
      quiet stage (call.Close h) q r = ⊎_elim (λ (n : ⊥). n) (λ (n : ⊥). n) r
      quiet stage (call.Write h offset bytes) q r = ⊎_elim (λ (n : ⊥). n) (λ (n : ⊥). n) r
      quiet stage (call.Cut h size) q r = ⊎_elim (λ (n : ⊥). n) (λ (n : ⊥). n) r
      quiet stage (call.Flush h) q r = ⊎_elim (λ (n : ⊥). n) (λ (n : ⊥). n) r
      quiet stage (call.Glimpse h) q r = ⊎_elim (λ (n : ⊥). n) (λ (n : ⊥). n) r
      quiet stage k q r = q

      by : (e : Entry) → Settled (line l.at e ∷ past) → (Settled past → Due past later) → Due (line l.at e ∷ past) later
      by (Begin slot running) s more = λ c own due. ⊎_elim
          (λ (bad : running.stage ≡ Bad). absurd (subst (λ (v : Stage). BeginQuiet v running.call) bad s))
          (λ (h : MayKnow running.call × KnownAt c past running.call × Unmarked (held_at c past) × NoWrites c past × (is_over c (life_at c past) past ≡ false)). absurd (quiet running.stage running.call s h.0))
          due
      by (Pins name) s more = absurd s
      by (Unpins name) s more = more s
      by (Stands slot running) s more = over_in running.stage (Due past later) (λ i. more (stood_settled running.stage (Settled past) i s))
      by _ s more = tt

  turn_self : (a b : At) → a ≡ b → same_turn b a ≡ true
  turn_self a b e = subst (λ (v : At). same_turn v a ≡ true) e (by a.node)
    where
      by : (node : Node) → same_turn (turn a.stamp node) (turn a.stamp node) ≡ true
      by (Client c) = ap (λ (v : Bool). v && nat_eq c c) (self a.stamp.0) ∙ self c
      by (Target t) = ap (λ (v : Bool). v && nat_eq t t) (self a.stamp.0) ∙ self t

  -- in its turn
  begun_starts : (same : Type 0) (c d : ℕ) (past : List Line) (r : Running) (slot : ℕ) (e : Entry) → Begins d past r → IsDue c past r → OwesBegun same slot r.stage r.call e → same × Follows r slot e
  begun_starts same c d past r slot e (inl p) (inl bad) o = let both : Plain ≡ Bad = sym p.1 ∙ bad in absurd (cc)
  begun_starts same c d past r slot e (inl p) (inr h) o = by h.0 (subst (λ (v : Stage). OwesBegun same slot v r.call e) p.1 o)
    where
      by : MayKnow r.call → OwesBegun same slot Plain r.call e → same × Follows r slot e
      by (inl reads) owes =
          let s = reading_owes same r.call slot e reads owes in (
            s.0,
            ⊎_elim (λ (z : Starts slot Plain e ⊎ (IsStatCall r.call × StandsFor slot e)). ⊎_elim (λ (h : Starts slot Plain e). inr (inl (p.1, h))) (λ (h : IsStatCall r.call × StandsFor slot e). inr (inr (inr (inl (p.1, h.0, h.1))))) z)
                (λ (z : OfFlush e). inr (inr (inr (inr (p.1, z))))) s.1,
          )
      by (inr reads) owes =
          let s = read_owes same r.call slot e reads owes in
          (s.0, ⊎_elim (λ (z : StartsRead slot e). inr (inr (inl (p.1, reads, z)))) (λ (z : OfFlush e). inr (inr (inr (inr (p.1, z))))) s.1)
  begun_starts same c d past r slot e (inr p) due o = let s = subst (λ (v : Stage). OwesBegun same slot v r.call e) p.1 o in (s.0, inl (p.1, s.1))

  told_due : (at : At) (s : ℕ) (named : At) (given : Answer) (work : Option Work) (later : List PrintedLine) (past : List Line) → Grown head past → Owes past at (Told s named given work)
      → Due past (record { at = at; entry = entry.Told s named given } ∷ later)
  told_due at s named given work later [] g o = tt
  told_due at s named given work later (l ∷ past) g o = by l.at.node l.entry g.0 o (told_due at s named given work later past g.1)
    where
      same_slot : (slot : ℕ) (r : Running) → Follows r slot (Told s named given work) → s ≡ slot
      same_slot slot r (inl p) = p.1
      same_slot slot r (inr (inl p)) = p.1
      same_slot slot r (inr (inr (inl p))) = p.2
      same_slot slot r (inr (inr (inr (inl p)))) = absurd p.2
      same_slot slot r (inr (inr (inr (inr p)))) = absurd p.1

      by : (node : Node) (e : Entry) → Allowed head past (turn l.at.stamp node) e → Owes (line (turn l.at.stamp node) e ∷ past) at (Told s named given work)
          → (Owes past at (Told s named given work) → Due past (record { at = at; entry = entry.Told s named given } ∷ later))
          → Due (line (turn l.at.stamp node) e ∷ past) (record { at = at; entry = entry.Told s named given } ∷ later)
      by (Client d) (Begin slot running) k o more = λ c own due.
          let here = turn l.at.stamp (Client d) in
          let starts = begun_starts (here ≡ at) c d past running slot (Told s named given work) k.ok.begins due o in
          let same : s ≡ slot = same_slot slot running starts.1 in
          cond-true (same_turn at here && nat_eq s slot) true (is_told_silently slot here later) (ap (λ (b : Bool). b && nat_eq s slot) (turn_self here at starts.0) ∙ ap (λ (v : ℕ). nat_eq v slot) same ∙ self slot)
      by (Target t) (Begin slot running) k o more = absurd k.ok
      by _ (Pins name) k o more = more o.1
      by _ (Unpins name) k o more = more o
      by node (Stands z r) k o more = over_in r.stage (Due past (record { at = at; entry = entry.Told s named given } ∷ later)) (λ i. more (stood_owes (turn l.at.stamp node ≡ at) (Owes past at (Told s named given work)) z r.stage (Told s named given work) i o))
      by _ _ k o more = tt

  -- nothing else may follow, but what it pins and unpins, a request, that it goes on, and what a flush writes back
  other_due : (at : At) (e : Entry) → ((slot : ℕ) → Starts slot Plain e → ⊥) → ((slot : ℕ) → Starts slot Bad e → ⊥) → ((slot : ℕ) → StartsRead slot e → ⊥)
      → ((slot : ℕ) → StandsFor slot e → ⊥) → (OfFlush e → ⊥) → (later : List PrintedLine) (past : List Line) → Grown head past → Owes past at e → Due past later
  other_due at e never nor none off flush later [] g o = tt
  other_due at e never nor none off flush later (l ∷ past) g o = by l.at.node l.entry g.0 o (other_due at e never nor none off flush later past g.1)
    where
      no_more : (slot : ℕ) (r : Running) → Follows r slot e → ⊥
      no_more slot r (inl p) = nor slot p.1
      no_more slot r (inr (inl p)) = never slot p.1
      no_more slot r (inr (inr (inl p))) = none slot p.2
      no_more slot r (inr (inr (inr (inl p)))) = off slot p.2
      no_more slot r (inr (inr (inr (inr p)))) = flush p.1

      by : (node : Node) (x : Entry) → Allowed head past (turn l.at.stamp node) x → Owes (line (turn l.at.stamp node) x ∷ past) at e → (Owes past at e → Due past later) → Due (line (turn l.at.stamp node) x ∷ past) later
      by (Client d) (Begin slot running) k o more = λ c own due. absurd (no_more slot running (begun_starts (turn l.at.stamp (Client d) ≡ at) c d past running slot e k.ok.begins due o).1)
      by (Target t) (Begin slot running) k o more = absurd k.ok
      by _ (Pins name) k o more = more o.1
      by _ (Unpins name) k o more = more o
      by node (Stands z r) k o more = over_in r.stage (Due past later) (λ i. more (stood_owes (turn l.at.stamp node ≡ at) (Owes past at e) z r.stage e i o))
      by _ _ k o more = tt

  -- ---- a request, or that a call goes on, where that never follows

  abbrev Begun : ℕ → Stamp → ℕ → Running → List Line → List Line
  Begun c stamp slot running past = line (turn stamp (Client c)) (Begin slot running) ∷ past

  module _ (c : ℕ) (at : At) (own : at.node ≡ Client c) (x : Entry) (now : List Line) (later : List PrintedLine)
      (never : (stamp : Stamp) (slot : ℕ) (running : Running) (past : List Line) → Grown head (Begun c stamp slot running past) → Since (Begun c stamp slot running past) now
      → Follows running slot x → IsDue c past running → ⊥) where
    one_client : (d : ℕ) (here : At) → here.node ≡ Client d → here ≡ at → d ≡ c
    one_client d here is e = let same : Client d ≡ Client c = sym is ∙ ap (λ (v : At). v.node) e ∙ own in cc

    never_due : (past : List Line) → Grown head past → Since past now → Owes past at x → Due past later
    never_due [] g s o = tt
    never_due (l ∷ past) g s o = by l.at.node l.entry g s o (never_due past g.1)
      where
        by : (node : Node) (e : Entry) → Grown head (line (turn l.at.stamp node) e ∷ past) → Since (line (turn l.at.stamp node) e ∷ past) now → Owes (line (turn l.at.stamp node) e ∷ past) at x
            → (Since past now → Owes past at x → Due past later) → Due (line (turn l.at.stamp node) e ∷ past) later
        by (Client d) (Begin slot running) g s o more = λ b is due.
            let starts = begun_starts (turn l.at.stamp (Client d) ≡ at) b d past running slot x g.0.ok.begins due o in
            let same : c ≡ d = sym (one_client d (turn l.at.stamp (Client d)) refl starts.0) in
            let due_here : IsDue c past running = subst (λ (v : ℕ). IsDue v past running) (one_client b (turn l.at.stamp (Client d)) is starts.0) due in
            absurd (subst (λ (v : ℕ). Grown head (Begun v l.at.stamp slot running past) → Since (Begun v l.at.stamp slot running past) now → ⊥) same (λ g s. never l.at.stamp slot running past g s starts.1 due_here) g s)
        by (Client d) (Pins name) g s o more = more (since_less (line (turn l.at.stamp (Client d)) (Pins name)) past now tt s) o.1
        by (Client d) (Unpins name) g s o more = more (since_less (line (turn l.at.stamp (Client d)) (Unpins name)) past now tt s) o
        by (Client d) (Stands z r) g s o more = over_in r.stage (Due past later) (λ i. more (since_less (line (turn l.at.stamp (Client d)) (Stands z r)) past now i s) (stood_owes (turn l.at.stamp (Client d) ≡ at) (Owes past at x) z r.stage x i o))
        by (Target u) (Stands z r) g s o more = absurd g.0.ok
        by (Target u) (Begin slot running) g s o more = absurd g.0.ok
        by (Target u) (Pins name) g s o more = absurd g.0.ok
        by (Target u) (Unpins name) g s o more = absurd g.0.ok
        by _ _ g s o more = tt

  -- ---- the call that began stands in its slot, and is known now

  record Here (c slot : ℕ) (running : Running) (now : List Line) : Type 0 where
    stands : call_at c slot now ≡ Some running
    none : NoWrites c now
    alive : is_over c (life_at c now) now ≡ false
    owed : owed_of c now ≡ []
    knows : KnownNow c now running.call

  -- a lock that isn't marked stays so, whatever is pinned and unpinned
  free_pins : (c d : ℕ) (stamp : Stamp) (name : LockName) (past : List Line) (t : ℕ) (k : Lock) → Free c past t k → Free c (line (turn stamp (Client d)) (Pins name) ∷ past) t k
  free_pins c d stamp name past t k (h, i, target, lock, free) =
      let p = cond_both (nat_eq c d) (changed name of_held.Pin (held_at c past)) (held_at c past) (λ (v : List HeldLock). There (IsFreeOf k) t k.cookie.0 v)
      (λ o. changed_there (IsFreeOf k) t k.cookie.0 name of_held.Pin (held_at c past) (λ x j e w. w) (there c past t k (h, i, target, lock, free))) (λ o. there c past t k (h, i, target, lock, free)) in
      (p.0, p.1.0, p.1.1.0.0, p.1.1.1.0, p.1.1.1.1)

  free_unpins : (c d : ℕ) (stamp : Stamp) (name : LockName) (past : List Line) (t : ℕ) (k : Lock) → Free c past t k → Free c (line (turn stamp (Client d)) (Unpins name) ∷ past) t k
  free_unpins c d stamp name past t k (h, i, target, lock, free) =
      let p = cond_both (nat_eq c d) (used name (changed name of_held.Unpin (held_at c past))) (held_at c past) (λ (v : List HeldLock). There (IsFreeOf k) t k.cookie.0 v)
      (λ o. used_there (IsFreeOf k) t k.cookie.0 name (changed name of_held.Unpin (held_at c past)) (changed_there (IsFreeOf k) t k.cookie.0 name of_held.Unpin (held_at c past) (λ x j e w. w) (there c past t k (h, i, target, lock, free))))
      (λ o. there c past t k (h, i, target, lock, free)) in
      (p.0, p.1.0, p.1.1.0.0, p.1.1.1.0, p.1.1.1.1)

  none_pins : (c d : ℕ) (stamp : Stamp) (name : LockName) (past : List Line) → NoWrites c past → NoWrites c (line (turn stamp (Client d)) (Pins name) ∷ past)
  none_pins c d stamp name past none =
      cond_both (nat_eq c d) (changed name of_held.Pin (held_at c past)) (held_at c past) (λ (v : List HeldLock). (h : HeldLock) → In h v → h.lock.ask.mode ≡ PW → ⊥) (λ o. none_changed name of_held.Pin (held_at c past) (λ x. refl) none) (λ o. none)

  none_unpins : (c d : ℕ) (stamp : Stamp) (name : LockName) (past : List Line) → NoWrites c past → NoWrites c (line (turn stamp (Client d)) (Unpins name) ∷ past)
  none_unpins c d stamp name past none =
      cond_both (nat_eq c d) (used name (changed name of_held.Unpin (held_at c past))) (held_at c past) (λ (v : List HeldLock). (h : HeldLock) → In h v → h.lock.ask.mode ≡ PW → ⊥)
      (λ o h i. none_changed name of_held.Unpin (held_at c past) (λ x. refl) none h (used_only name h (changed name of_held.Unpin (held_at c past)) i)) (λ o. none)

  here_pins : (c slot : ℕ) (running : Running) (stamp : Stamp) (d : ℕ) (name : LockName) (past : List Line) → Run head (line (turn stamp (Client d)) (Pins name) ∷ past) → Here c slot running past → Here c slot running (line (turn stamp (Client d)) (Pins name) ∷ past)
  here_pins c slot running stamp d name past y k =
      let l = line (turn stamp (Client d)) (Pins name) in
      record {
        stands = k.stands;
        none = none_pins c d stamp name past k.none;
        alive = k.alive;
        owed = k.owed;
        knows = by_more (notes_at c past) (notes_at c (l ∷ past)) (KnownRead (Free c past) c past) (KnownRead (Free c (l ∷ past)) c (l ∷ past)) (ServedOf (Free c past)) (ServedOf (Free c (l ∷ past))) running.call (pins_grow c past stamp d name) (agrees_now c (l ∷ past) y.grown)
            (read_stays (Free c past) (Free c (l ∷ past)) c l past (free_pins c d stamp name past) refl running.call (λ h p n f is bound. bound)) (λ u locked. served_stay (Free c past) (Free c (l ∷ past)) u (free_pins c d stamp name past) locked) k.knows;
      }

  here_unpins : (c slot : ℕ) (running : Running) (stamp : Stamp) (d : ℕ) (name : LockName) (past : List Line) → Run head (line (turn stamp (Client d)) (Unpins name) ∷ past) → Here c slot running past → Here c slot running (line (turn stamp (Client d)) (Unpins name) ∷ past)
  here_unpins c slot running stamp d name past y k =
      let l = line (turn stamp (Client d)) (Unpins name) in
      record {
        stands = k.stands;
        none = none_unpins c d stamp name past k.none;
        alive = k.alive;
        owed = k.owed;
        knows = by_more (notes_at c past) (notes_at c (l ∷ past)) (KnownRead (Free c past) c past) (KnownRead (Free c (l ∷ past)) c (l ∷ past)) (ServedOf (Free c past)) (ServedOf (Free c (l ∷ past))) running.call (unpins_grow c past stamp d name) (agrees_now c (l ∷ past) y.grown)
            (read_stays (Free c past) (Free c (l ∷ past)) c l past (free_unpins c d stamp name past) refl running.call (λ h p n f is bound. bound)) (λ u locked. served_stay (Free c past) (Free c (l ∷ past)) u (free_unpins c d stamp name past) locked) k.knows;
      }

  no_flush : (k : Call) (h : ℕ) → MayKnow k → k ≡ call.Flush h → ⊥
  no_flush k h may e = ⊎_elim (λ (n : ⊥). n) (λ (n : ⊥). n) (subst MayKnow e may)

  -- what stands there is a flush
  of_flush : (past : List Line) (at : At) (c : ℕ) (running : Running) (stage : Stage) (pins : List LockName) → IsFlushing stage
      → SizesStand past at running stage pins ⊎ LockStand past c running stage ⊎ StatStand past at c running stage pins ⊎ GetStand past c running stage pins ⊎ FlushStand past c running stage pins
      ⊎ ((pins ≡ running.pins) × MovedStand past at c running stage) → (h : ℕ) × (running.call ≡ call.Flush h)
  of_flush past at c running stage pins i how = by how
    where
      no : (s : Stage) → stage ≡ s → (IsFlushing s → ⊥) → ⊥
      no s e n = n (subst IsFlushing e i)

      moved : MovedStand past at c running stage → ⊥
      moved (inl k) = no (Came k.work k.lock) k.is (λ z. z)
      moved (inr (inl k)) = no _ k.is (λ z. z)
      moved (inr (inr (inl k))) = no _ k.is (λ z. z)
      moved (inr (inr (inr (inl k)))) = no (Forgotten k.work) k.is (λ z. z)
      moved (inr (inr (inr (inr k)))) = no (Looks k.work) k.is (λ z. z)

      by : SizesStand past at running stage pins ⊎ LockStand past c running stage ⊎ StatStand past at c running stage pins ⊎ GetStand past c running stage pins ⊎ FlushStand past c running stage pins ⊎ ((pins ≡ running.pins) × MovedStand past at c running stage)
          → (h : ℕ) × (running.call ≡ call.Flush h)
      by (inl k) = absurd (⊎_elim (λ (e : stage ≡ Sizes k.work). no (Sizes k.work) e (λ z. z)) (λ (e : (stage ≡ Enqueued k.work) × LeftSize past at running k.sizes). no (Enqueued k.work) e.0 (λ z. z)) k.is)
      by (inr (inl k)) = absurd (no (Enqueued k.work) k.is (λ z. z))
      by (inr (inr (inl k))) = absurd (no (Enqueued k.work) k.is (λ z. z))
      by (inr (inr (inr (inl k)))) = absurd (no (Gets k.work) k.is (λ z. z))
      by (inr (inr (inr (inr (inl k))))) = (k.handle, k.flushes)
      by (inr (inr (inr (inr (inr k))))) = absurd (moved k.1)

  here_stands : (c slot : ℕ) (running : Running) → MayKnow running.call → (stamp : Stamp) (d s : ℕ) (r : Running) (past : List Line) → Run head (line (turn stamp (Client d)) (Stands s r) ∷ past) → IsFlushing r.stage
      → Here c slot running past → Here c slot running (line (turn stamp (Client d)) (Stands s r) ∷ past)
  here_stands c slot running may stamp d s r past y i k =
      let l = line (turn stamp (Client d)) (Stands s r) in
      record {
        stands = cond_both (nat_eq c d) (if nat_eq s slot then Some r else call_at c slot past) (call_at c slot past) (λ (v : Option Running). v ≡ Some running)
            (λ own. cond_both (nat_eq s slot) (Some r) (call_at c slot past) (λ (v : Option Running). v ≡ Some running) (λ same. absurd (other own same y.grown.0.ok)) (λ e. k.stands)) (λ e. k.stands);
        none = k.none;
        alive = k.alive;
        owed = k.owed;
        knows = by_more (notes_at c past) (notes_at c past) (KnownRead (Free c past) c past) (KnownRead (Free c past) c (l ∷ past)) (ServedOf (Free c past)) (ServedOf (Free c past)) running.call (λ x u. u) (agrees_now c past y.grown.1)
            (read_stays (Free c past) (Free c past) c l past (λ t x f. f) refl running.call (λ h p n f is bound. bound)) (λ u locked. locked) k.knows;
      }
    where
      other : nat_eq c d ≡ true → nat_eq s slot ≡ true → StandsOk past (turn stamp (Client d)) d s r → ⊥
      other own same ok =
          let there : call_at c slot past ≡ Some ok.running = ap (λ (v : ℕ). call_at v slot past) (eqb-true c d own) ∙ ap (λ (v : ℕ). call_at d v past) (sym (eqb-true s slot same)) ∙ ok.call in
          let is : ok.running ≡ running = one ok.running running (sym there ∙ k.stands) in
          let f = of_flush past (turn stamp (Client d)) d ok.running ok.stage ok.pins (subst IsFlushing (ap (λ (v : Running). v.stage) ok.is) i) ok.how in
          no_flush running.call f.0 may (ap (λ (v : Running). v.call) (sym is) ∙ f.1)
        where
          one : (a b : Running) → Some a ≡ Some b → a ≡ b
          one a b e = cc

  -- it is so from the begin on
  here_on : (c slot : ℕ) (running : Running) → MayKnow running.call → (b : Line) (rest now : List Line) → Run head now → Since (b ∷ rest) now → Here c slot running (b ∷ rest) → Here c slot running now
  here_on c slot running may b rest [] y e h = absurd (cc)
  here_on c slot running may b rest (n ∷ now) y (inl e) h = subst (λ (v : List Line). Here c slot running v) e h
  here_on c slot running may b rest (n ∷ now) y (inr k) h = by n.at.node n.entry y k.0 (here_on c slot running may b rest now (before head n now y) k.1 h)
    where
      by : (node : Node) (e : Entry) → Run head (line (turn n.at.stamp node) e ∷ now) → IsIdle e → Here c slot running now → Here c slot running (line (turn n.at.stamp node) e ∷ now)
      by (Client d) (Pins name) y i k = here_pins c slot running n.at.stamp d name now y k
      by (Client d) (Unpins name) y i k = here_unpins c slot running n.at.stamp d name now y k
      by (Client d) (Stands s r) y i k = here_stands c slot running may n.at.stamp d s r now y i k
      by (Target t) (Pins name) y i k = absurd y.grown.0.ok
      by (Target t) (Unpins name) y i k = absurd y.grown.0.ok
      by (Target t) (Stands s r) y i k = absurd y.grown.0.ok
      by node e y i k = absurd i

  run_since : (before now : List Line) → Since before now → Run head now → Run head before
  run_since early [] e y = subst (Run head) (sym e) y
  run_since early (n ∷ now) (inl e) y = subst (Run head) (sym e) y
  run_since early (n ∷ now) (inr k) y = run_since early now k.1 (before head n now y)

  -- and locks that aren't marked stay so
  free_since : (c : ℕ) (past now : List Line) → Since past now → Grown head now → (t : ℕ) (k : Lock) → Free c past t k → Free c now t k
  free_since c past [] e g t k f = subst (λ (v : List Line). Free c v t k) e f
  free_since c past (n ∷ now) (inl e) g t k f = subst (λ (v : List Line). Free c v t k) e f
  free_since c past (n ∷ now) (inr s) g t k f = by n.at.node n.entry g.0.ok s.0 (free_since c past now s.1 g.1 t k f)
    where
      by : (node : Node) (e : Entry) → EntryOk now (turn n.at.stamp node) node e → IsIdle e → Free c now t k → Free c (line (turn n.at.stamp node) e ∷ now) t k
      by (Client d) (Pins name) ok i f = free_pins c d n.at.stamp name now t k f
      by (Client d) (Unpins name) ok i f = free_unpins c d n.at.stamp name now t k f
      by (Client d) (Stands s r) ok i f = f
      by (Target u) (Pins name) ok i f = absurd ok
      by (Target u) (Unpins name) ok i f = absurd ok
      by (Target u) (Stands s r) ok i f = absurd ok
      by node e ok i f = absurd i

  here_begun : (c : ℕ) (stamp : Stamp) (slot : ℕ) (running : Running) (past : List Line) → Run head (Begun c stamp slot running past) → MayKnow running.call × KnownAt c past running.call × Unmarked (held_at c past) × NoWrites c past × (is_over c (life_at c past) past ≡ false)
      → Here c slot running (Begun c stamp slot running past)
  here_begun c stamp slot running past y h =
      record {
        stands =
            ap (λ (v : Bool). if v then (if nat_eq slot slot then Some running else call_at c slot past) else call_at c slot past) (self c)
            ∙ ap (λ (v : Bool). if v then Some running else call_at c slot past) (self slot);
        none = h.3;
        alive = h.4;
        owed = none_owed c past (line (turn stamp (Client c)) (Begin slot running)) (y.heeds.0 c) (λ z. z);
        knows = known_clear c (Begun c stamp slot running past) running.call y.grown h.2 (known_still head c past (line (turn stamp (Client c)) (Begin slot running)) y.grown (refl, tt) running.call (λ t. rebinds_self running.call) h.1);
      }

  -- nothing is asked for it, and it waits for no lock
  module _ (c : ℕ) (stamp : Stamp) (slot : ℕ) (running : Running) (past now : List Line) (y : Run head now) (s : Since (Begun c stamp slot running past) now)
      (due : MayKnow running.call × KnownAt c past running.call × Unmarked (held_at c past) × NoWrites c past × (is_over c (life_at c past) past ≡ false)) (plain : running.stage ≡ Plain) where
    may : MayKnow running.call
    may = due.0

    started : Run head (Begun c stamp slot running past)
    started = run_since (Begun c stamp slot running past) now s y

    new : running.asking ≡ Unasked
    new = ap (λ (v : Running). v.asking) started.grown.0.ok.is

    limits : IsCall running.call
    limits = started.grown.0.ok.limits

    at_now : (p : List Line) → Run head p → Since (Begun c stamp slot running past) p → Here c slot running p
    at_now p z since = here_on c slot running may (line (turn stamp (Client c)) (Begin slot running)) past p z since (here_begun c stamp slot running past started due)

    here : Here c slot running now
    here = at_now now y s

    g : Grown head now
    g = y.grown

    serves : (w : Use) → ToRead w → ServedOf (Free c now) w → serving w (held_at c now) ≡ None → ⊥
    serves w reads k lacks = served_again head y.ranges now g y.pins y.heeds y.speaks c here.alive here.owed here.none w reads.reads k lacks

    one_running : (r : Running) (other : ℕ) → call_at c other now ≡ Some r → other ≡ slot → r ≡ running
    one_running r other is same = one r running (sym (subst (λ (v : ℕ). call_at c v now ≡ Some r) same is) ∙ here.stands)
      where
        one : (a b : Running) → Some a ≡ Some b → a ≡ b
        one a b e = cc

    one_slot : (a b : ℕ) (v : Option ℕ) → v ≡ Some a → v ≡ Some b → a ≡ b
    one_slot a b v e f = cc

    no_read : (file : Option HandleFile) (k : Call) (o : Op) → operation_of file k ≡ Some o → IsReadCall k → ⊥
    no_read file (call.Read h offset count) o e r = absurd (cc)
    no_read file k o e r = r

    asks_none : (t : ℕ) (q : Queued) → CallAsksOk now c t q → q.slot ≡ Some slot → ⊥
    asks_none t q ok serves = by (subst (λ (v : Running). NamesAskOk now c t v q.op ⊎ SizeAskOk t v q.op ⊎ LockAskOk t v q.op ⊎ GetAskOk now c t v q.op) (one_running ok.running ok.slot ok.call (one_slot ok.slot slot q.slot ok.serves serves)) ok.asks) may
      where
        by : NamesAskOk now c t running q.op ⊎ SizeAskOk t running q.op ⊎ LockAskOk t running q.op ⊎ GetAskOk now c t running q.op → MayKnow running.call → ⊥
        by (inl a) (inl reads) = ⊎_elim
            (λ (k : IsKnown (notes_at c now) running.call × KnownRead (Free c now) c now running.call). known_told (notes_at c now) running.call reads k.0 a.unknown)
            (λ (k : StatKnown (notes_at c now) (ServedOf (Free c now)) running.call). stat_asks_none head c now g (ServedOf (Free c now)) running.call k a.unknown_file)
            here.knows
        by (inl a) (inr read) = no_read running.file running.call q.op a.becomes read
        -- it is no call that goes on
        by (inr (inl a)) m = plain_no_work running.stage a.work plain (ap work_in a.stage)
        by (inr (inr (inl a))) m = plain_no_work running.stage a.work plain (ap work_in a.stage)
        by (inr (inr (inr a))) m = plain_no_work running.stage a.work plain (ap work_in a.stage)

    -- a write-back goes under a lock to write
    asks_never : (t : ℕ) (q : Queued) → QueuesOk now c t q → Follows running slot (Queues t q) → ⊥
    asks_never t q ok (inl p) = p.1
    asks_never t q (inl ok) (inr (inl p)) = asks_none t q ok p.1
    asks_never t q (inr ok) (inr (inl p)) = let e : None ≡ Some slot = sym ok.serves ∙ p.1 in absurd (cc)
    asks_never t q ok (inr (inr (inl p))) = p.2
    asks_never t q ok (inr (inr (inr (inl p)))) = p.2
    asks_never t q (inl ok) (inr (inr (inr (inr p)))) = let e : None ≡ Some ok.slot = sym p.1 ∙ ok.serves in absurd (cc)
    asks_never t q (inr ok) (inr (inr (inr (inr p)))) = here.none ok.holding ok.held ok.mode

    writes_never : (r : Resource) (change : Flush) → WritesBackOk now c r change → ⊥
    writes_never r change ok = here.none ok.holding ok.held ok.mode

    -- what a read knows of its file
    file_same : (p : List Line) → Grown head p → Since (Begun c stamp slot running past) p → (h o n : ℕ) → (k : ReadBy (Free c p) c p h o n) → running.call ≡ call.Read h o n → (f : HandleFile) → running.file ≡ Some f → f ≡ k.file
    file_same p g since h o n k is f of_file = by started.grown.0.ok.begins
      where
        one : (a b : HandleFile) → Some a ≡ Some b → a ≡ b
        one a b e = cc

        begun_same : file_at c h (Begun c stamp slot running past) ≡ file_at c h past
        begun_same = ap (λ (b : Bool). if b then begun_file h running.call (file_at c h past) else file_at c h past) (self c) ∙ ap (λ (k : Call). begun_file h k (file_at c h past)) is

        idle : (at : At) (e : Entry) (p : List Line) → IsIdle e → file_at c h (line at e ∷ p) ≡ file_at c h p
        idle at (Pins name) p i = refl
        idle at (Unpins name) p i = refl
        idle at (Stands s r) p i = refl
        idle at e p i = absurd i

        file_past : (p : List Line) → Since (Begun c stamp slot running past) p → file_at c h past ≡ file_at c h p
        file_past [] e = absurd (cc)
        file_past (n ∷ p) (inl e) = sym begun_same ∙ ap (file_at c h) e
        file_past (n ∷ p) (inr z) = file_past p z.1 ∙ sym (idle n.at n.entry p z.0)

        by : Begins c past running → f ≡ k.file
        by (inl b) = one f k.file (sym of_file ∙ b.2 ∙ ap (file_for c past) is ∙ file_past p since ∙ k.bound)
        by (inr b) = absurd (let e : Plain ≡ Bad = sym plain ∙ b.1 in cc)

    -- where it looks for its locks again they serve, it misses nothing, and reached
    module _ (p : List Line) (z : Run head p) (h : Here c slot running p) (us : List Using) (uses : UsesHeld c p running us) where
      narrow_fits : (handle offset count : ℕ) (k : ReadBy (Free c p) c p handle offset count) → IsLayout k.file.layout → wants_of k.file.layout k.file.fid (Narrow offset count) ≡ map (λ (u : Using). u.want) us
          → missing k.file.layout offset (offset + count) (store_at c p) us ≡ None
      narrow_fits handle offset count k good same = narrow_has head z.ranges p z.grown z.pins z.heeds z.speaks c h.alive h.owed h.none running plain k.file.layout good k.file.fid offset count k.limit us uses k.places same

      wide_fits : (handle offset count : ℕ) (k : ReadBy (Free c p) c p handle offset count) → IsLayout k.file.layout → wants_of k.file.layout k.file.fid (Wide offset count) ≡ map (λ (u : Using). u.want) us
          → missing k.file.layout offset (offset + count) (store_at c p) us ≡ None
      wide_fits handle offset count k good same = wide_has head z.ranges p z.grown z.pins z.heeds z.speaks c h.alive h.owed h.none running plain k.file.layout good k.file.fid offset count k.limit us uses k.places same

      reached_fits : (handle offset count : ℕ) (k : ReadBy (Free c p) c p handle offset count) → IsLayout k.file.layout → LastOf (Free c p) c p k.file.layout k.file.fid offset (offset + count - 1)
          → wants_of k.file.layout k.file.fid (Narrow offset count) ≡ map (λ (u : Using). u.want) us → has_reached k.file.layout (offset + count - 1) us (store_at c p) ≡ true
      reached_fits handle offset count k good last same =
          let w = last_wanted k.file.layout good k.file.fid offset count k.some in
          let u = in_map (λ (v : Using). v.want) w.0 us (subst (λ (ws : List Use). In w.0 ws) same w.1) in
          narrow_reached head z.ranges p z.grown z.pins z.heeds z.speaks c h.alive h.owed h.none running plain k.file.layout good k.file.fid offset count k.limit us uses last k.some same
          u.0 u.1 (ap (λ (v : Use). v.resource.stripe) u.2 ∙ w.2)

    read_by : (p : List Line) → Here c slot running p → (h o n : ℕ) → running.call ≡ call.Read h o n → ReadBy (Free c p) c p h o n
    read_by p k h o n is = by (subst (KnownNow c p) is k.knows)
      where
        by : KnownNow c p (call.Read h o n) → ReadBy (Free c p) c p h o n
        by (inl q) = q.1
        by (inr q) = absurd q

    changes_none : (w : Work) → ChangesOn running w → IsReadCall running.call → ⊥
    changes_none w (inl d) read = no_read_call running.call (call.Write d.handle d.offset d.bytes) d.writes read (λ z. z)
    changes_none w (inr d) read = no_read_call running.call (call.Cut d.handle d.size) d.cuts read (λ z. z)

    changes_no_stat : (w : Work) → ChangesOn running w → IsStatCall running.call → ⊥
    changes_no_stat w (inl d) stat = no_stat_call running.call (call.Write d.handle d.offset d.bytes) d.writes stat (λ z. z)
    changes_no_stat w (inr d) stat = no_stat_call running.call (call.Cut d.handle d.size) d.cuts stat (λ z. z)

    -- it looks for no lock, narrow or to the end
    lacks_never : (w : Work) (d : ReadsOn running w) → Wider c now running w → LacksOf now c (wanted_by w) w → ⊥
    lacks_never w d wider lacks = by d.kind
      where
        h : ℕ
        h = d.read.handle

        o : ℕ
        o = d.read.offset

        n : ℕ
        n = d.read.count

        -- of the file of its handle
        of_file : (p : List Line) → Run head p → Since (Begun c stamp slot running past) p → (k : ReadBy (Free c p) c p d.read.handle d.read.offset d.read.count) → (w.layout ≡ k.file.layout) × (w.fid ≡ k.file.fid)
        of_file p z since k =
            let same : d.read.file ≡ k.file = file_same p z.grown since d.read.handle d.read.offset d.read.count k d.read.reads d.read.file d.read.of_file in
            (d.layout ∙ ap (λ (f : HandleFile). f.layout) same, d.fid ∙ ap (λ (f : HandleFile). f.fid) same)

        among : (kind : Kind) → w.kind ≡ kind → (l : Raid0) → w.layout ≡ l → (f : Fid) → w.fid ≡ f → In lacks.wanted (wants_of l f kind)
        among kind e l p f q =
            subst (λ (v : Kind). In lacks.wanted (wants_of l f v)) e
            (subst (λ (v : Fid). In lacks.wanted (wants_of l v w.kind)) q (subst (λ (v : Raid0). In lacks.wanted (wants_of v w.fid w.kind)) p (lacks_in now c (wanted_by w) w lacks)))

        narrow : w.kind ≡ Narrow d.read.offset d.read.count → ⊥
        narrow e =
            let k = read_by now here d.read.handle d.read.offset d.read.count d.read.reads in
            let of = of_file now y s k in
            let low = k.limit in
            let limit : d.read.offset + d.read.count + (d.read.offset + d.read.count) ≤ the_end = omega (arith, low) in
            let i = among (Narrow d.read.offset d.read.count) e k.file.layout of.0 k.file.fid of.1 in
            serves lacks.wanted (run_with k.file.layout k.file.fid d.read.offset (d.read.offset + d.read.count) limit (stripes k.file.layout) lacks.wanted i).0 (k.served lacks.wanted i) lacks.lacks

        -- a narrow one had reached
        narrowed : w.kind ≡ Wide d.read.offset d.read.count → Narrowed c now running w d.read.offset d.read.count → ⊥
        narrowed e q = by j.last
          where
            since : Since q.before now
            since = pins_idle q.before now q.since

            z : Run head q.before
            z = run_since q.before now since y

            from : Since (Begun c stamp slot running past) q.before
            from = since_between (line (turn stamp (Client c)) (Begin slot running)) past q.before now (λ i. i) s since

            by_then : Here c slot running q.before
            by_then = at_now q.before z from

            j : ReadBy (Free c q.before) c q.before d.read.handle d.read.offset d.read.count
            j = read_by q.before by_then d.read.handle d.read.offset d.read.count d.read.reads

            of : (w.layout ≡ j.file.layout) × (w.fid ≡ j.file.fid)
            of = of_file q.before z from j

            wants : wants_of j.file.layout j.file.fid (Narrow d.read.offset d.read.count) ≡ map (λ (u : Using). u.want) q.used
            wants =
                subst (λ (v : Fid). wants_of j.file.layout v (Narrow d.read.offset d.read.count) ≡ map (λ (u : Using). u.want) q.used) of.1
                (subst (λ (v : Raid0). wants_of v w.fid (Narrow d.read.offset d.read.count) ≡ map (λ (u : Using). u.want) q.used) of.0 q.wants)

            by : LastOf (Free c q.before) c q.before j.file.layout j.file.fid d.read.offset (d.read.offset + d.read.count - 1)
                ⊎ ((x : Use) → In x (wants_of j.file.layout j.file.fid (Wide d.read.offset d.read.count)) → ServedOf (Free c q.before) x) → ⊥
            by (inl last) = ⊎_elim
                (λ (none : j.file.layout ≡ no_file.layout). none_in lacks.wanted j.file.layout j.file.fid (Wide d.read.offset d.read.count) none (among (Wide d.read.offset d.read.count) e j.file.layout of.0 j.file.fid of.1))
                (λ (good : IsLayout j.file.layout).
                let yes = reached_fits q.before z by_then q.used q.uses d.read.handle d.read.offset d.read.count j good last wants in
                let short : has_reached j.file.layout (d.read.offset + d.read.count - 1) q.used (store_at c q.before) ≡ false =
                subst (λ (v : Raid0). has_reached v (d.read.offset + d.read.count - 1) q.used (store_at c q.before) ≡ false) of.0 q.short
                in
                clash_of (has_reached j.file.layout (d.read.offset + d.read.count - 1) q.used (store_at c q.before)) yes short)
                j.good
            by (inr wide) =
                let i = among (Wide d.read.offset d.read.count) e j.file.layout of.0 j.file.fid of.1 in
                serves lacks.wanted (rest_with j.file.layout j.file.fid d.read.offset (stripes j.file.layout) lacks.wanted i).0
                (served_stay (Free c q.before) (Free c now) lacks.wanted (free_since c q.before now since y.grown) (wide lacks.wanted i)) lacks.lacks

        by : (w.kind ≡ Narrow d.read.offset d.read.count) ⊎ (w.kind ≡ Wide d.read.offset d.read.count) → ⊥
        by (inl e) = narrow e
        by (inr e) = ⊎_elim (λ (q : (old : Work) × (work_in running.stage ≡ Some old) × (old.kind ≡ Wide d.read.offset d.read.count)). plain_no_work running.stage q.0 plain q.1)
            (λ (q : Narrowed c now running w d.read.offset d.read.count). narrowed e q) (wider d.read.offset d.read.count e)

    -- it misses no page
    misses_never : (w : Work) (d : ReadsOn running w) → UsesHeld c now running w.used → wanted_by w ≡ map (λ (u : Using). u.want) w.used → (page : Page)
        → missing w.layout d.read.offset (d.read.offset + d.read.count) (store_at c now) w.used ≡ Some page → ⊥
    misses_never w d uses wants page lacks =
        by d.kind
      where
        k : ReadBy (Free c now) c now d.read.handle d.read.offset d.read.count
        k = read_by now here d.read.handle d.read.offset d.read.count d.read.reads

        same : d.read.file ≡ k.file
        same = file_same now g s d.read.handle d.read.offset d.read.count k d.read.reads d.read.file d.read.of_file

        layout : w.layout ≡ k.file.layout
        layout = d.layout ∙ ap (λ (f : HandleFile). f.layout) same

        fid : w.fid ≡ k.file.fid
        fid = d.fid ∙ ap (λ (f : HandleFile). f.fid) same

        wanted : (kind : Kind) → w.kind ≡ kind → wants_of k.file.layout k.file.fid kind ≡ map (λ (u : Using). u.want) w.used
        wanted kind e =
            subst (λ (v : Kind). wants_of k.file.layout k.file.fid v ≡ map (λ (u : Using). u.want) w.used) e
            (subst (λ (v : Fid). wants_of k.file.layout v w.kind ≡ map (λ (u : Using). u.want) w.used) fid (subst (λ (v : Raid0). wants_of v w.fid w.kind ≡ map (λ (u : Using). u.want) w.used) layout wants))

        clash : missing k.file.layout d.read.offset (d.read.offset + d.read.count) (store_at c now) w.used ≡ None → ⊥
        clash e =
            let some : missing k.file.layout d.read.offset (d.read.offset + d.read.count) (store_at c now) w.used ≡ Some page =
            subst (λ (v : Raid0). missing v d.read.offset (d.read.offset + d.read.count) (store_at c now) w.used ≡ Some page) layout lacks in
            let both : None ≡ Some page = sym e ∙ some in
            cc

        by : (w.kind ≡ Narrow d.read.offset d.read.count) ⊎ (w.kind ≡ Wide d.read.offset d.read.count) → ⊥
        by (inl e) = ⊎_elim (λ (none : k.file.layout ≡ no_file.layout). clash (none_missing k.file.layout d.read.offset (d.read.offset + d.read.count) (store_at c now) w.used (sym (wanted (Narrow d.read.offset d.read.count) e) ∙ none_wanted k.file.layout k.file.fid (Narrow d.read.offset d.read.count) none)))
            (λ (good : IsLayout k.file.layout). clash (narrow_fits now y here w.used uses d.read.handle d.read.offset d.read.count k good (wanted (Narrow d.read.offset d.read.count) e))) k.good
        by (inr e) = ⊎_elim (λ (none : k.file.layout ≡ no_file.layout). clash (none_missing k.file.layout d.read.offset (d.read.offset + d.read.count) (store_at c now) w.used (sym (wanted (Wide d.read.offset d.read.count) e) ∙ none_wanted k.file.layout k.file.fid (Wide d.read.offset d.read.count) none)))
            (λ (good : IsLayout k.file.layout). clash (wide_fits now y here w.used uses d.read.handle d.read.offset d.read.count k good (wanted (Wide d.read.offset d.read.count) e))) k.good

    -- it goes on nowhere
    stands_never : (at : At) (other : ℕ) (r : Running) → StandsOk now at c other r → Follows running slot (Stands other r) → (IsFlushing r.stage → ⊥) → ⊥
    stands_never at other r ok (inl p) still = p.1
    stands_never at other r ok (inr (inl p)) still = p.1
    stands_never at other r ok (inr (inr (inr (inr p)))) still = still p.1
    stands_never at other r ok (inr (inr (inl p))) still = by (subst (λ (v : Running). How v) is ok.how) p.1
      where
        How : Running → Type 0
        How v = SizesStand now at v ok.stage ok.pins ⊎ LockStand now c v ok.stage ⊎ StatStand now at c v ok.stage ok.pins ⊎ GetStand now c v ok.stage ok.pins ⊎ FlushStand now c v ok.stage ok.pins ⊎ ((ok.pins ≡ v.pins) × MovedStand now at c v ok.stage)

        is : ok.running ≡ running
        is = one_running ok.running other ok.call p.2

        uses : (stage : Stage) → ok.stage ≡ stage → UsesHeld c now running (used_in stage)
        uses stage e = subst (λ (v : Running). UsesHeld c now v (used_in stage)) is (subst (λ (v : Stage). UsesHeld c now ok.running (used_in v)) e ok.uses)

        by : How running → IsReadCall running.call → ⊥
        by (inl k) read = no_read_call running.call (call.Glimpse k.has.handle) k.has.glimpses read (λ z. z)
        by (inr (inl k)) read = ⊎_elim (λ (d : ReadsOn running k.work). lacks_never k.work d k.wider k.lacks) (λ (d : ChangesOn running k.work). changes_none k.work d read) k.does
        by (inr (inr (inl k))) read = no_read_call running.call (call.Stat k.stat.path) k.stat.stats read (λ z. z)
        by (inr (inr (inr (inl k)))) read = misses_never k.work k.does (uses (Gets k.work) k.is) k.wants k.page k.lacks
        by (inr (inr (inr (inr (inl k))))) read = no_read_call running.call (call.Flush k.handle) k.flushes read (λ z. z)
        by (inr (inr (inr (inr (inr k))))) read = never_moved now at c running ok.stage plain k.1
    stands_never at other r ok (inr (inr (inr (inl p)))) still = by (subst (λ (v : Running). How v) is ok.how) p.1
      where
        How : Running → Type 0
        How v = SizesStand now at v ok.stage ok.pins ⊎ LockStand now c v ok.stage ⊎ StatStand now at c v ok.stage ok.pins ⊎ GetStand now c v ok.stage ok.pins ⊎ FlushStand now c v ok.stage ok.pins ⊎ ((ok.pins ≡ v.pins) × MovedStand now at c v ok.stage)

        is : ok.running ≡ running
        is = one_running ok.running other ok.call p.2

        by : How running → IsStatCall running.call → ⊥
        by (inl k) stat = no_stat_call running.call (call.Glimpse k.has.handle) k.has.glimpses stat (λ z. z)
        by (inr (inl k)) stat = ⊎_elim (λ (d : ReadsOn running k.work). no_stat_call running.call (call.Read d.read.handle d.read.offset d.read.count) d.read.reads stat (λ z. z)) (λ (d : ChangesOn running k.work). changes_no_stat k.work d stat) k.does
        by (inr (inr (inl k))) stat = stat_waits_none head c now g at running ok.stage ok.pins (KnownRead (Free c now) c now) (ServedOf (Free c now)) serves plain new here.knows k
        by (inr (inr (inr (inl k)))) stat = no_stat_call running.call (call.Read k.does.read.handle k.does.read.offset k.does.read.count) k.does.read.reads stat (λ z. z)
        by (inr (inr (inr (inr (inl k))))) stat = no_stat_call running.call (call.Flush k.handle) k.flushes stat (λ z. z)
        by (inr (inr (inr (inr (inr k))))) stat = never_moved now at c running ok.stage plain k.1

  -- the same of each call of which something is due
  due_plain : (c : ℕ) (past : List Line) (running : Running) (slot : ℕ) (e : Entry) → Follows running slot e → (Starts slot Bad e → ⊥) → IsDue c past running
      → (running.stage ≡ Plain) × (MayKnow running.call × KnownAt c past running.call × Unmarked (held_at c past) × NoWrites c past × (is_over c (life_at c past) past ≡ false))
  due_plain c past running slot e f none (inl bad) = by f
    where
      apart : running.stage ≡ Plain → ⊥
      apart p = let q : Plain ≡ Bad = sym p ∙ bad in cc

      by : Follows running slot e → (running.stage ≡ Plain) × (MayKnow running.call × KnownAt c past running.call × Unmarked (held_at c past) × NoWrites c past × (is_over c (life_at c past) past ≡ false))
      by (inl p) = absurd (none p.1)
      by (inr (inl p)) = absurd (apart p.0)
      by (inr (inr (inl p))) = absurd (apart p.0)
      by (inr (inr (inr (inl p)))) = absurd (apart p.0)
      by (inr (inr (inr (inr p)))) = absurd (apart p.0)
  due_plain c past running slot e f none (inr h) = (by f, h)
    where
      by : Follows running slot e → running.stage ≡ Plain
      by (inl p) = absurd (none p.1)
      by (inr (inl p)) = p.0
      by (inr (inr (inl p))) = p.0
      by (inr (inr (inr (inl p)))) = p.0
      by (inr (inr (inr (inr p)))) = p.0

  -- ---- line by line

  due_before : (past : List Line) (l : Line) (later : List PrintedLine) → Run head (l ∷ past) → Due (l ∷ past) later → Due past (shown l.at (printed_entry (count_sent past + 1) l.entry) later)
  due_before past l later y d = by l.at.node l.entry y d
    where
      by : (node : Node) (e : Entry) → Run head (line (turn l.at.stamp node) e ∷ past) → Due (line (turn l.at.stamp node) e ∷ past) later → Due past (shown (turn l.at.stamp node) (printed_entry (count_sent past + 1) e) later)
      by node (Pins name) y d = d
      by node (Unpins name) y d = d
      by node (Told s named given work) y d = told_due (turn l.at.stamp node) s named given work later past y.grown.1 y.grown.0.owes
      by (Client c) (Queues t q) y d =
          never_due c (turn l.at.stamp (Client c)) refl (Queues t q) past later
          (λ stamp slot running p g s f due. let h = due_plain c p running slot (Queues t q) f (λ z. z) due in
          asks_never c stamp slot running p past (before head (line (turn l.at.stamp (Client c)) (Queues t q)) past y) s h.1 h.0 t q y.grown.0.ok f)
          past y.grown.1 (since_self past) y.grown.0.owes
      by (Client c) (WritesBack r change) y d =
          never_due c (turn l.at.stamp (Client c)) refl (WritesBack r change) past later
          (λ stamp slot running p g s f due. let h = due_plain c p running slot (WritesBack r change) f (λ z. z) due in
          writes_never c stamp slot running p past (before head (line (turn l.at.stamp (Client c)) (WritesBack r change)) past y) s h.1 h.0 r change y.grown.0.ok)
          past y.grown.1 (since_self past) y.grown.0.owes
      by (Client c) (Stands s r) y d = ⊎_elim (λ (i : IsFlushing r.stage). over_out r.stage (Due past later) i d)
          (λ (still : IsFlushing r.stage → ⊥). never_due c (turn l.at.stamp (Client c)) refl (Stands s r) past later
          (λ stamp slot running p g since f due. let h = due_plain c p running slot (Stands s r) f (λ z. z) due in
          stands_never c stamp slot running p past (before head (line (turn l.at.stamp (Client c)) (Stands s r)) past y) since h.1 h.0 (turn l.at.stamp (Client c)) s r y.grown.0.ok f still)
          past y.grown.1 (since_self past) y.grown.0.owes)
          (flushing_or r.stage)
      by (Target u) (Queues t q) y d = absurd y.grown.0.ok
      by (Target u) (Stands s r) y d = absurd y.grown.0.ok
      by (Target u) (WritesBack r change) y d = absurd y.grown.0.ok
      by node e y d = other_due (turn l.at.stamp node) e (λ slot s. s) (λ slot s. s) (λ slot s. s) (λ slot s. s) (λ s. s) _ past y.grown.1 y.grown.0.owes

  -- a life that begins a call isn't over
  begins_alive : (c : ℕ) (past : List Line) (at : At) → Grown head past → Later past at → Closes past at → is_over c (life_at c past) past ≡ false
  begins_alive c [] at g later closes = refl
  begins_alive c (l ∷ past) at g later closes = by (is_over c (life_at c (l ∷ past)) (l ∷ past)) refl
    where
      by : (b : Bool) → is_over c (life_at c (l ∷ past)) (l ∷ past) ≡ b → b ≡ false
      by false e = refl
      by true e = absurd (⊎_elim (λ (same : l.at ≡ at). turn_irreflexive at (subst (λ (v : At). turn_before v at ≡ true) same later)) (λ (none : (d : ℕ) → Ending (l ∷ past) d → ⊥). none c (over_ending head (l ∷ past) g c e)) closes)

  silent_at : (past : List Line) (l : Line) (later : List PrintedLine) → Run head (l ∷ past) → Due (l ∷ past) later → Keeps Silent past l later
  silent_at past l later y d = by l.at.node l.entry y d
    where
      by : (node : Node) (e : Entry) → Run head (line (turn l.at.stamp node) e ∷ past) → Due (line (turn l.at.stamp node) e ∷ past) later
          → OfPrinted (SilentAt (printed past) (turn l.at.stamp node) later) (printed_entry (count_sent past + 1) e)
      by (Client c) (Begin slot running) y d = begins ok.begins
        where
          g : Grown head past
          g = y.grown.1

          ok : BeginOk past (turn l.at.stamp (Client c)) c slot running
          ok = y.grown.0.ok

          begins : Begins c past running → is_repeat (who_is c (printed past)) (printed past) running.call ≡ true → is_told_silently slot (turn l.at.stamp (Client c)) later ≡ true
          begins (inr bad) is = d c refl (inl bad.1)
          begins (inl good) is =
              let some = and_parts (list_any (same_reading running.call) (known (who_is c (printed past)) (printed past))) (not (has_write_lock (who_is c (printed past)) (held (printed past)))) is in
              let one = of_any (same_reading running.call) (known (who_is c (printed past)) (printed past)) some.0 in
              let owed = none_owed c past (line (turn l.at.stamp (Client c)) (Begin slot running)) (y.heeds.0 c) (λ z. z) in
              let none : NoWrites c past = no_writes head past g y.heeds.1 c owed (not-true (has_write_lock (who_is c (printed past)) (held (printed past))) some.1) in
              let alive = begins_alive c past (turn l.at.stamp (Client c)) g ok.later y.grown.0.closes in
              let knows : KnownAt c past one.0 = every_in (Promise c past) one.0 (known (who_is c (printed past)) (printed past)) (known_is_known head c past (before head (line (turn l.at.stamp (Client c)) (Begin slot running)) past y)) one.1.0 none alive in
              let same = same_is running.call one.0 one.1.1 in
              d c refl (inr (same.1, subst (KnownAt c past) same.0 knows, (λ h i p. repeats_unmarked head c past g none one.0 one.1.0 ok.calm ok.ready h i p), none, alive))
      by (Target t) (Begin slot running) y d = tt
      by _ _ y d = tt

  -- whatever lines come later
  pub silent_before : (past : List Line) (later : List PrintedLine) → Run head past → Settled past
      → HoldsBefore Silent later (printed past)
  silent_before past later y settled =
      holds_owed head Silent (Run head) (λ l past k. before head l past k) Due (λ past l later g y d. due_before past l later y d)
      (λ past l later a g y d. silent_at past l later y d) past later y.grown y (nothing_due past later settled)

  pub silent_law : (past : List Line) → Run head past → Settled past → Holds Silent (printed past)
  silent_law past y settled = silent_before past [] y settled
