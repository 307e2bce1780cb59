-- The turns of a client in a covered run in which a target answers it: once the reply is heard, the call that it answers is to be told, or goes
-- on; a lock that was asked for came, or is waited for; the page that was fetched, or the change that was written back, is marked.
use Rattle.std.proofs.Common.{◌≡◌, ℕ, ◌+◌, ◌*◌, ◌<◌, ◌≤◌, Bool, true, false, List, [], ◌∷◌, ◌++◌, ◌⊎◌, inl, inr, ⊎_elim, Option, Some, None, refl, sym, subst, ap, ◌∙◌, arith}
use Rattle.std.specs.Prelude.{nat_eq, length, if◌then◌else◌}
use Rattle.std.proofs.lemmas.Bool.{and_parts, cond_both, eqb-true}
use Rattle.lu_base.specs.declared.ids.At.{At}
use Rattle.lu_base.specs.declared.ids.Cookie.{Cookie}
use Rattle.lu_base.specs.declared.ids.Node.TheVariants.{Client, Target}
use Rattle.lu_base.specs.declared.ids.Stamp.{Stamp}
use Rattle.lu_base.specs.declared.ids.Who.{Who}
use Rattle.lu_base.specs.declared.locks.Extent.{Extent}
use Rattle.lu_base.specs.declared.locks.Lock.{Lock}
use Rattle.lu_base.specs.declared.locks.Mode.{Mode}
use Rattle.lu_base.specs.declared.locks.Policy.{Policy}
use Rattle.lu_base.specs.declared.locks.Policy.TheVariants.{Bits, Range}
use Rattle.lu_base.specs.declared.locks.Resource.{Resource}
use Rattle.lu_msg.specs.declared.answers.Answer.{Answer}
use Rattle.lu_msg.specs.declared.answers.Answer.TheVariants as answer
use Rattle.lu_msg.specs.declared.messages.Message.TheVariants as message
use Rattle.lu_msg.specs.declared.messages.Reply.{Reply as ReplyTo}
use Rattle.lu_msg.specs.declared.operations.Op.{Op}
use Rattle.lu_msg.specs.declared.operations.Op.TheVariants as op
use Rattle.lu_held.specs.declared.locks.HeldLock.{HeldLock}
use Rattle.lu_held.specs.declared.locks.Use.{Use}
use Rattle.lu_held.specs.Locks.{named}
use Rattle.lu_spec_machine.specs.Fits.{answer_fits}
use Rattle.lu_spec_entries.specs.Carried.{Flight, Work, Asked, Answered, Stage, Bad, Looks, Enqueued, Waits, Came, Gets, Running}
use Rattle.lu_spec_entries.specs.Words.{Entry, Take, Stands, Acks, Fills, Zeroes, Grown as Grows, Shows, Line, line, with_turn, same_life}
use Rattle.lu_spec_entries.specs.declared.changes.Flush.TheVariants.{Cut, Put}
use Rattle.lu_spec_entries.specs.declared.changes.Flush.{Flush}
use Rattle.lu_spec_entries.specs.Concerns.{only}
use Rattle.lu_spec_entries.specs.Sent.{Sent}
use Rattle.lu_spec_entries.specs.declared.uses.Using.{Using}
use Rattle.lu_spec_client.specs.Advances.{at_stage, name_under, enqueue_of}
use Rattle.lu_spec_client.specs.Caches.{held_as, held_at, granted_lock, patches_at}
use Rattle.lu_spec_client.specs.Bytes.{page_size}
use Rattle.lu_spec_client.specs.Calls.{asks, calls_at}
use Rattle.lu_spec_client.specs.Imports.{Import, import_of}
use Rattle.lu_spec_client.specs.Messages.{held_as as held_of_name, is_waiter, on_running, on_slot, waiting_lock, lock_heard, enqueue_heard, fills, shows, page_under, page_heard}
use Rattle.lu_spec_client.specs.Messages.{looks_again, heeds, hears_flight, hears_fitting, find_flight, hears, replied, is_present, comes_by}
use Rattle.lu_spec_client.specs.Patches.{Patch}
use Rattle.lu_spec_client.specs.States.{Client as ClientState}
use Rattle.lu_proof_lawful.specs.Covered.Calls.{asks_for, call_at, life_at}
use Rattle.lu_proof_lawful.specs.Covered.Runs.{OnObjects, IsOnObjects}
use Rattle.lu_proof_lawful.specs.Covered.ClientStates.{awaits_of}
use Rattle.lu_proof_lawful.specs.Covered.Imports.{flights_at}
use Rattle.lu_spec_run.specs.Heads as table
use Rattle.lu_spec_run.specs.Runs.{client_of}
use Rattle.lu_proof_lawful.proofs.Preconditions.HeedMarks.{heeds_marks, marks_left, MarkNext}
use Rattle.lu_proof_lawful.proofs.Preconditions.Guards.{In, JustHeard, HadUsed, used_in, came_marked, StandsOk, Owes, marks_of}
use Rattle.lu_proof_lawful.proofs.Preconditions.Lists.{self, life_is, turn, turn_more}
use Rattle.lu_proof_lawful.proofs.Preconditions.Turns.{Settled, owes_nothing}
use Rattle.lu_proof_lawful.proofs.Preconditions.Calls.{had_all, mine_all}
use Rattle.lu_proof_lawful.proofs.Preconditions.CallStands.{IdleAt, Wanting, Sizing, Locking, Waiting, Getting, HasAsked, Idle, Looking, Movable, idle_moves}
use Rattle.lu_proof_lawful.proofs.Preconditions.ClientHandles.{Tied}
use Rattle.lu_proof_lawful.proofs.Preconditions.ClientLines.{IsLock, IsBytes, IsSimple, heeds_nothing, SmallOn, small_on}
use Rattle.lu_proof_lawful.proofs.Preconditions.Asks.{AsksFor, IsBack, CallOf, LocksFirst, asks_grown}
use Rattle.lu_proof_lawful.proofs.Preconditions.CallMoves.{apart}
use Rattle.lu_proof_lawful.proofs.Preconditions.ClientGood.{Good, the_head, adds, followed}
use Rattle.lu_proof_lawful.proofs.Preconditions.ClientRests.{import_there}
use Rattle.lu_proof_lawful.proofs.Preconditions.ClientCalls.{OnNames, on_small, idle_more, asked_more}
use Rattle.lu_proof_lawful.proofs.Preconditions.ClientTakes.{reads_as}
use Rattle.lu_proof_lawful.proofs.Preconditions.StageMoves.{OnStage, stage_on}
use Rattle.lu_proof_lawful.proofs.Preconditions.ClientPasses.{Moving}
use Rattle.lu_proof_lawful.proofs.Preconditions.TurnStarts.{Starts, took_rested}
use Rattle.lu_proof_lawful.proofs.Preconditions.Awaits.{Awaits, waiting_for, lock_named}
use Rattle.lu_proof_lawful.proofs.Preconditions.AwaitsTurns.{took_awaits}
use Rattle.lu_proof_lawful.proofs.Preconditions.AwaitsReplies.{IsLockOp, IsToWait, ReplyFits, heard_awaits}
use Rattle.lu_proof_lawful.proofs.Preconditions.ClientHears.{IsHeard, Finds, p1, p4, locks, es, es_so, asks_what, bare, first, is_heard, one_held, one_unmarked, none_held}
use Rattle.lu_proof_lawful.proofs.Preconditions.AskedCalls.{bytes_as, sizes_as, wanting_as, AsksNow, who_asks, locks_of, locking_of, getting_of, gets_of, not_back, none_low}
use Rattle.lu_proof_lawful.proofs.Preconditions.AskedCalls.{range_of, lock_is, others_of, Stood, stood, stood_idle}
use Rattle.lu_proof_lawful.proofs.Preconditions.ClientStarts.{After}

-- a request in flight that is found
pub found_in : (xid : ℕ) (flights : List Flight) (f : Flight) → find_flight xid flights ≡ Some f → In f flights × (f.xid ≡ xid)
found_in xid [] f e = absurd (cc)
found_in xid (g ∷ flights) f e =
    cond_both (nat_eq g.xid xid) (Some g) (find_flight xid flights) (λ o. o ≡ Some f → In f (g ∷ flights) × (f.xid ≡ xid))
    (λ t q. let same : g ≡ f = cc in (inl same, ap (λ (h : Flight). h.xid) (sym same) ∙ eqb-true g.xid xid t))
    (λ t q. let r = found_in xid flights f q in (inr r.0, r.1))
    e

module _ (head : table.Head) (c : ℕ) (stamp : Stamp) where
  abbrev at : At
  at = turn stamp (Client c)

  abbrev Outcome : List Line → Type 0
  Outcome = After head c stamp

  moved : {z : List Line} → Moving head c stamp z → Outcome z
  moved m = inr (inr (inl m))

  -- ---- the reply to a request in flight

  module _ (p : List Line) (n t : ℕ) (r : ReplyTo) (f : Flight) (s : Starts head c stamp p) (found : Finds head c stamp p n t r f) where
    abbrev q : List Line
    q = p4 head c stamp p n t r f s found

    abbrev h : IsHeard head c stamp t f r p q
    h = is_heard head c stamp p n t r f s found

    abbrev k4 : ClientState
    k4 = client_of head c q

    abbrev lines : List Entry
    lines = hears_flight t r f (client_of head c p)

    -- what is left of the turn by what is heard
    abbrev heeding : List Entry
    heeding = heeds t f f.op r r.answer k4

    heard_so : with_turn at lines (p1 head c stamp p n t r f s found) ≡ with_turn at heeding q
    heard_so =
        followed head c stamp (es head c stamp p n t r f s found) (heeds t f f.op r r.answer) (p1 head c stamp p n t r f s found)
        ∙ ap (λ (z : List Line). with_turn at (heeds t f f.op r r.answer (client_of head c z)) z) (es_so head c stamp p n t r f s found)

    -- a call that the reply doesn't answer is idle still
    idle_on : (u : ℕ) → asks_for f.slot u (Answered t r) (call_at c u p) ≡ call_at c u p → IdleAt c q u
    idle_on u same =
        subst (λ (who : Who). Idle who (patches_at c q) (calls_at c q) (call_at c u q)) (sym h.since.life)
        (subst (λ (patches : List (Resource × Patch)). Idle (life_at c p) patches (calls_at c q) (call_at c u q)) (sym h.since.patches)
        (subst (Idle (life_at c p) (patches_at c p) (calls_at c q)) (sym (h.since.calls u ∙ same))
        (idle_more (life_at c p) (patches_at c p) (calls_at c p) (calls_at c q) (asked_more c p q f.slot (Answered t r) h.since.calls) (call_at c u p) (s.between.idle u))))

    moves_on : (u : ℕ) → asks_for f.slot u (Answered t r) (call_at c u p) ≡ call_at c u p → Movable (life_at c q) (call_at c u q)
    moves_on u same = idle_moves (life_at c q) (patches_at c q) (calls_at c q) (call_at c u q) (idle_on u same)

    idle_but : (slot : ℕ) → f.slot ≡ Some slot → (u : ℕ) → (u ≡ slot → ⊥) → IdleAt c q u
    idle_but slot serves u other = idle_on u (ap (λ (o : Option ℕ). asks_for o u (Answered t r) (call_at c u p)) serves
        ∙ ap (λ (b : Bool). if b then asks (Answered t r) (call_at c u p) else call_at c u p) (apart head c stamp slot u other))

    moves_but : (slot : ℕ) → f.slot ≡ Some slot → (u : ℕ) → (u ≡ slot → ⊥) → Movable (life_at c q) (call_at c u q)
    moves_but slot serves u other = idle_moves (life_at c q) (patches_at c q) (calls_at c q) (call_at c u q) (idle_but slot serves u other)

    moving : ((u : ℕ) → Movable (life_at c q) (call_at c u q)) → Moving head c stamp q
    moving moves = record { good = h.since.good; settled = h.since.settled; moves = moves; handles = h.since.handles }

    -- one that is written back serves no call
    back_moves : f.slot ≡ None → (u : ℕ) → Movable (life_at c q) (call_at c u q)
    back_moves none u = moves_on u (ap (λ (o : Option ℕ). asks_for o u (Answered t r) (call_at c u p)) none)

    -- ---- what is to be marked of the answer

    -- marks leave the calls, and the life
    record Marked (z : List Line) : Type 0 where
      good : Good head c at z
      just : JustHeard z at t r
      calls : (u : ℕ) → call_at c u z ≡ call_at c u q
      life : life_at c z ≡ life_at c q
      handles : Tied c z

    start : Marked q
    start = record { good = h.since.good; just = h.since.just; calls = λ u. refl; life = refl; handles = h.since.handles }

    marks_so : (o : Op) (a : Answer) → f.op ≡ o → r.answer ≡ a → marks_of c q ≡ heeds_marks t o a (held_at c p)
    marks_so o a of_op of_answer = h.since.marks ∙ ap (λ (x : Op). heeds_marks t x r.answer (held_at c p)) of_op ∙ ap (λ (x : Answer). heeds_marks t o x (held_at c p)) of_answer

    acks_marked : (resource : Resource) (z : List Line) → Marked z → Owes z at (Acks resource) → MarkNext z c (Acks resource) → Marked (line at (Acks resource) ∷ z)
    acks_marked resource z m owes ok = record {
      good = adds head c stamp z (Acks resource) m.good owes ok (λ u e. tt) tt refl;
      just = m.just;
      calls = λ u. m.calls u;
      life = m.life;
      handles = m.handles;
    }

    fills_marked : (resource : Resource) (offset : ℕ) (bs : List ℕ) (z : List Line) → Marked z → Owes z at (Fills resource offset bs) → MarkNext z c (Fills resource offset bs)
        → Marked (line at (Fills resource offset bs) ∷ z)
    fills_marked resource offset bs z m owes ok = record {
      good = adds head c stamp z (Fills resource offset bs) m.good owes ok (λ u e. tt) tt refl;
      just = m.just;
      calls =
          λ u. m.calls u;
      life = m.life;
      handles = m.handles;
    }

    zeroes_marked : (resource : Resource) (size : ℕ) (z : List Line) → Marked z → Owes z at (Zeroes resource size) → MarkNext z c (Zeroes resource size)
        → Marked (line at (Zeroes resource size) ∷ z)
    zeroes_marked resource size z m owes ok = record {
      good = adds head c stamp z (Zeroes resource size) m.good owes ok (λ u e. tt) tt refl;
      just = m.just;
      calls = λ u. m.calls u;
      life = m.life;
      handles = m.handles;
    }

    grows_marked : (resource : Resource) (change : Flush) (z : List Line) → Marked z → Owes z at (Grows resource change) → MarkNext z c (Grows resource change)
        → Marked (line at (Grows resource change) ∷ z)
    grows_marked resource change z m owes ok = record {
      good = adds head c stamp z (Grows resource change) m.good owes ok (λ u e. tt) tt refl;
      just = m.just;
      calls =
          λ u. m.calls u;
      life = m.life;
      handles = m.handles;
    }

    shows_marked : (resource : Resource) (cookie : Cookie) (last : ℕ) (z : List Line) → Marked z → Owes z at (Shows resource cookie last)
        → MarkNext z c (Shows resource cookie last) → Marked (line at (Shows resource cookie last) ∷ z)
    shows_marked resource cookie last z m owes ok = record {
      good = adds head c stamp z (Shows resource cookie last) m.good owes (inr ok) (λ u e. tt) tt refl;
      just = m.just;
      calls = λ u. m.calls u;
      life = m.life;
      handles = m.handles;
    }

    -- the next one is the first of those that are left
    mine_left : (z : List Line) → (if nat_eq c c then marks_left (marks_of c z) else marks_of c z) ≡ marks_left (marks_of c z)
    mine_left z = ap (λ (b : Bool). if b then marks_left (marks_of c z) else marks_of c z) (self c)

    -- the bytes of the page that lie under the lock, and its last one is shown
    page_marked : (resource : Resource) (cookie : Cookie) (page : ℕ) (bs : List ℕ) (o : Option Lock) (z : List Line) → Marked z → Settled z → marks_of c z
        ≡ page_heard resource cookie page bs o
        → Marked (with_turn at (page_heard resource cookie page bs o) z) × Settled (with_turn at (page_heard resource cookie page bs o) z)
    page_marked resource cookie page bs None z m settled e = (m, settled)
    page_marked resource cookie page bs (Some l) z m settled e = by l.ask.policy e
      where
        with_shown : (extent : Extent) (bs : List ℕ) (last : List ℕ) → marks_of c z ≡ shows resource cookie page last ++ fills resource page bs extent ∷ []
            → Marked (with_turn at (shows resource cookie page last ++ fills resource page bs extent ∷ []) z)
            × Settled (with_turn at (shows resource cookie page last ++ fills resource page bs extent ∷ []) z)
        with_shown extent bs [] e = (fills_marked resource _ _ z m (owes_nothing z at (fills resource page bs extent) settled) ([], e), tt)
        with_shown extent bs (b ∷ last) e =
            let x = Shows resource cookie (page * page_size + length last) in
            let z1 = line at x ∷ z in
            let m1 = shows_marked resource cookie (page * page_size + length last) z m (owes_nothing z at x settled) (fills resource page bs extent ∷ [], e) in
            (fills_marked resource _ _ z1 m1 (refl, tt) ([], mine_left z ∙ ap marks_left e), tt)

        by : (p : Policy) → marks_of c z ≡ page_under resource cookie page bs p → Marked (with_turn at (page_under resource cookie page bs p) z)
            × Settled (with_turn at (page_under resource cookie page bs p) z)
        by (Range extent) e = with_shown extent bs bs e
        by (Bits bits) e = (m, settled)

    -- a change that was written back
    put_marked : (resource : Resource) (offset : ℕ) (bs : List ℕ) → marks_of c q ≡ Acks resource ∷ Fills resource offset bs ∷ Grows resource (Put offset bs) ∷ []
        → Marked (line at (Grows resource (Put offset bs)) ∷ line at (Fills resource offset bs) ∷ line at (Acks resource) ∷ q)
    put_marked resource offset bs e =
        let q1 = line at (Acks resource) ∷ q in
        let q2 = line at (Fills resource offset bs) ∷ q1 in
        let m1 = acks_marked resource q start (owes_nothing q at (Acks resource) h.since.settled) (Fills resource offset bs ∷ Grows resource (Put offset bs) ∷ [], e) in
        let e1 : marks_of c q1 ≡ Fills resource offset bs ∷ Grows resource (Put offset bs) ∷ [] = mine_left q ∙ ap marks_left e in
        let m2 = fills_marked resource offset bs q1 m1 tt (Grows resource (Put offset bs) ∷ [], e1) in
        let e2 : marks_of c q2 ≡ Grows resource (Put offset bs) ∷ [] = mine_left q1 ∙ ap marks_left e1 in
        grows_marked resource (Put offset bs) q2 m2 tt ([], e2)

    cut_marked : (resource : Resource) (size : ℕ) → marks_of c q ≡ Acks resource ∷ Zeroes resource size ∷ Grows resource (Cut size) ∷ []
        → Marked (line at (Grows resource (Cut size)) ∷ line at (Zeroes resource size) ∷ line at (Acks resource) ∷ q)
    cut_marked resource size e =
        let q1 = line at (Acks resource) ∷ q in
        let q2 = line at (Zeroes resource size) ∷ q1 in
        let m1 = acks_marked resource q start (owes_nothing q at (Acks resource) h.since.settled) (Zeroes resource size ∷ Grows resource (Cut size) ∷ [], e) in
        let e1 : marks_of c q1 ≡ Zeroes resource size ∷ Grows resource (Cut size) ∷ [] = mine_left q ∙ ap marks_left e in
        let m2 = zeroes_marked resource size q1 m1 tt (Grows resource (Cut size) ∷ [], e1) in
        let e2 : marks_of c q2 ≡ Grows resource (Cut size) ∷ [] = mine_left q1 ∙ ap marks_left e1 in
        grows_marked resource (Cut size) q2 m2 tt ([], e2)

    -- it serves no call
    marked_moves : f.slot ≡ None → (z : List Line) → Marked z → Settled z → Moving head c stamp z
    marked_moves none z m settled =
        record {
          good = m.good;
          settled = settled;
          moves = λ u. subst (λ (who : Who). Movable who (call_at c u z)) (sym m.life) (subst (Movable (life_at c q)) (sym (m.calls u)) (back_moves none u));
          handles = m.handles;
        }

    -- no lock comes with a page
    brought_none : (resource : Resource) (cookie : Cookie) (page : ℕ) → f.op ≡ op.Get resource cookie page → 0 < t → locks head c stamp p n t r f s found ≡ []
    brought_none resource cookie page of_op high = ap (λ (ls : List Lock). ls ++ granted_lock f.op r r.answer) (bare head c stamp p n t r f s found high)
        ∙ ap (λ (o : Op). granted_lock o r r.answer) of_op

    -- ---- the call that it answers

    abbrev Serves : Type 0
    Serves = CallOf p c t f.slot f.op

    serves_what : Serves
    serves_what = (asks_grown (the_head head c stamp) p s.grown).fly_calls c t f (s.closed c) found.flying

    module _ (slot : ℕ) (serves : f.slot ≡ Some slot) (r0 : Running) (call : call_at c slot p ≡ Some r0) (asked : r0.asking ≡ Asked) (asks_it : AsksFor r0 t f.op) where
      abbrev answered : Running
      answered = record r0 { asking = Answered t r }

      now : call_at c slot q ≡ Some answered
      now = h.since.calls slot ∙ rw (serves, self slot, call) refl

      small : slot < 4
      small = subst (SmallOn slot) call (small_on (the_head head c stamp) c slot p s.grown)

      does : AsksNow r0
      does = who_asks (life_at c p) (patches_at c p) (calls_at c p) r0 (subst (Idle (life_at c p) (patches_at c p) (calls_at c p)) call (s.between.idle slot)) asked

      had : HadUsed c slot q r0.stage
      had = had_all (the_head head c stamp) q h.since.good.grown c slot answered now

      mine : (u : Using) → In u (used_in r0.stage) → In (name_under u.want u.lock) r0.pins
      mine = mine_all (the_head head c stamp) q h.since.good.grown c slot answered now

      objects : IsOnObjects r0.stage
      objects = subst OnStage now (stage_on (the_head head c stamp) c slot q h.since.good.grown h.since.good.covered)

      -- it rests, or moves on
      rests_as : HasAsked (life_at c q) answered → Moving head c stamp q
      rests_as rest = moving (others_of head c stamp slot (λ u. Movable (life_at c q) (call_at c u q)) (subst (Movable (life_at c q)) (sym now) (inl rest)) (moves_but slot serves))

      locking_as : Locking r0 → Locking answered
      locking_as l = record {
        work = l.work;
        stage = l.stage;
        wanting = wanting_as r0 answered l.work refl refl (λ e. let x : Enqueued l.work ≡ Bad = sym l.stage ∙ e in cc) refl
            l.wanting;
      }

      getting_as : Getting r0 → Getting answered
      getting_as g =
          let good = λ (e : r0.stage ≡ Bad). absurd (let x : Gets g.work ≡ Bad = sym g.stage ∙ e in cc) in
          record {
            work = g.work;
            stage = g.stage;
            reads = reads_as r0 answered g.work g.work refl refl good refl refl refl g.reads;
            bytes =
                bytes_as r0 answered g.work refl refl good refl g.bytes;
            all = g.all;
          }

      -- nothing comes of it but what the call does next
      heard_call : ((answered.pins ≡ []) × OnNames answered) ⊎ Sizing answered → Outcome q
      heard_call does =
          inr (inr (inr (inl (record {
            slot = slot;
            target = t;
            running = answered;
            flight = f;
            reply = r;
            heard = record {
              good = h.since.good;
              settled = h.since.settled;
              small = small;
              call = now;
              others = idle_but slot serves;
              handles = h.since.handles;
              answered = refl;
              does = does;
              serves = serves;
              heard = h.since.just;
              learned = h.learned;
            };
          }))))

      simple_goes : AsksNow r0 → Outcome q
      simple_goes (inl n) = heard_call (inl (n.nothing, (n.plain, n.names)))
      simple_goes (inr (inl z)) =
          heard_call (inr (record {
            work = z.sizing.work;
            stage = z.sizing.stage;
            sized = sizes_as r0 answered z.sizing.work refl refl refl z.sizing.sized;
            wanted =
                z.sizing.wanted;
            left = z.sizing.left;
            first = z.sizing.first;
          }))
      simple_goes (inr (inr (inl l))) = moved (rests_as (inr (inr (inl (locking_as l)))))
      simple_goes (inr (inr (inr g))) = moved (rests_as (inr (inr (inr (inr (inr (getting_as g)))))))

      -- ---- it asked for a lock

      module _ (high : 0 < t) (l : Locking r0) (of_first : LocksFirst l.work t f.op) (resource : Resource) (mode : Mode) (extent : Extent)
          (of_op : f.op ≡ op.Enqueue resource mode extent) where
        abbrev g : Wanting r0 l.work
        g = l.wanting

        same : of_first.wanted ≡ g.wanted
        same = let e : of_first.wanted ∷ of_first.left ≡ g.wanted ∷ g.left = sym of_first.first ∙ g.first in cc

        of_target : t ≡ g.wanted.target.0
        of_target = of_first.of_target ∙ ap (λ (u : Use). u.target.0) same

        range : (g.wanted.policy ≡ Range extent) × (resource ≡ g.wanted.resource) × (mode ≡ g.wanted.mode)
        range = range_of g.wanted resource mode extent (sym of_op ∙ of_first.of_op ∙ ap enqueue_of same)

        lines_so : heeding ≡ lock_heard k4.who slot answered l.work r.answer (locks head c stamp p n t r f s found) (g.wanted ∷ g.left)
        lines_so =
            let ls = locks head c stamp p n t r f s found in
            ap (λ (o : Op). heeds t f o r r.answer k4) of_op
            ∙ ap (λ (o : Option ℕ). on_slot (enqueue_heard k4.who r.answer ls) o k4) serves
            ∙ ap (λ (x : Option Running). on_running (enqueue_heard k4.who r.answer ls) slot x) (on_small c slot q small ∙ now)
            ∙ ap (λ (x : Stage). enqueue_heard k4.who r.answer ls slot answered x) l.stage
            ∙ ap (λ (us : List Use). lock_heard k4.who slot answered l.work r.answer ls us) g.first

        brought_so : (a : Answer) → r.answer ≡ a → locks head c stamp p n t r f s found ≡ granted_lock (op.Enqueue resource mode extent) r a
        brought_so a e =
            ap (λ (ls : List Lock). ls ++ granted_lock f.op r r.answer) (bare head c stamp p n t r f s found high)
            ∙ ap (λ (o : Op). granted_lock o r r.answer) of_op
            ∙ ap (granted_lock (op.Enqueue resource mode extent) r) e

        heeds_so : (a : Answer) (ls : List Lock) → r.answer ≡ a → granted_lock (op.Enqueue resource mode extent) r a ≡ ls → heeding
            ≡ lock_heard k4.who slot answered l.work a ls (g.wanted ∷ g.left)
        heeds_so a ls e so =
            lines_so
            ∙ ap (λ (ks : List Lock). lock_heard k4.who slot answered l.work r.answer ks (g.wanted ∷ g.left)) (brought_so a e ∙ so)
            ∙ ap (λ (x : Answer). lock_heard k4.who slot answered l.work x ls (g.wanted ∷ g.left)) e

        asked_so : f.op ≡ op.Enqueue g.wanted.resource g.wanted.mode extent
        asked_so = of_op ∙ ap (λ (x : Resource). op.Enqueue x mode extent) range.1 ∙ ap (λ (m : Mode). op.Enqueue g.wanted.resource m extent) range.2

        left_objects : OnObjects l.work.left
        left_objects = subst IsOnObjects l.stage objects

        had_work : HadUsed c slot q (Enqueued l.work)
        had_work = subst (λ (x : Stage). HadUsed c slot q x) l.stage had

        abbrev wants_as : (x : Stage) → (x ≡ Bad → ⊥) → Wanting (at_stage answered x) l.work
        wants_as x good = wanting_as r0 (at_stage answered x) l.work refl refl good refl g

        -- none came
        rests_still : heeding ≡ [] → Outcome (with_turn at heeding q)
        rests_still none = subst (λ (fs : List Entry). Outcome (with_turn at fs q)) (sym none) (moved (rests_as (inr (inr (inl (locking_as l))))))

        stays_used : (u : _) → In u l.work.used → In u (used_in answered.stage)
        stays_used u i = subst (λ (x : Stage). In u (used_in x)) (sym l.stage) i

        -- it came
        module _ (cookie : Cookie) (given : Extent) (size : ℕ) (is : r.answer ≡ answer.Granted cookie given size) where
          abbrev lock : Lock
          lock = record { cookie = cookie; resource = resource; ask = record { who = r.who; mode = mode; policy = Range given } }

          abbrev came : Running
          came = at_stage answered (Came l.work lock)

          abbrev q1 : List Line
          q1 = line at (Stands slot came) ∷ q

          locks_so : locks head c stamp p n t r f s found ≡ lock ∷ []
          locks_so = brought_so (answer.Granted cookie given size) is

          unmarked_so : came_marked c (name_under g.wanted lock) q ≡ false
          unmarked_so = ap (λ (u : ℕ). came_marked c (named (record { 0 = u }) cookie) q) (sym of_target) ∙ one_unmarked head c stamp p n t r f s found high lock locks_so

          came_ok : StandsOk q at c slot came
          came_ok =
              record {
                running = answered;
                call = now;
                small = small;
                still = λ e. absurd (cc);
                stage = Came l.work lock;
                pins = answered.pins;
                is = refl;
                how = inr (inr (inr (inr (inr (
                  refl,
                  inl (record {
                    work = l.work;
                    lock = lock;
                    is = refl;
                    from = inl (record {
                      stage = l.stage;
                      answers = record { target = t; reply = r; answered = refl; heard = h.since.just };
                      wanted = g.wanted;
                      left = g.left;
                      first = g.first;
                      of_target = of_target;
                      flight = f;
                      now = h.now (bare head c stamp p n t r f s found high);
                      extent = extent;
                      policy = range.0;
                      of_op = asked_so;
                      brings = subst (λ (ls : List Lock). In lock ls) (sym locks_so) (inl refl);
                    });
                    wanted = g.wanted;
                    left = g.left;
                    first = g.first;
                    holding = held_as t lock false;
                    held = one_held head c stamp p n t r f s found high lock locks_so;
                    same = refl;
                    of_target = of_target;
                    holds = sym unmarked_so;
                    flag = unmarked_so;
                  }),
                )))));
                had = had_work;
                uses = λ u i. inl (stays_used u i);
                mine = λ u i. mine u (stays_used u i);
              }

          stands : Stood head c stamp slot came q
          stands = stood head c stamp slot came q h.since.good h.since.settled came_ok left_objects

          came_after : Outcome (with_turn at heeding q)
          came_after =
              subst (λ (fs : List Entry). Outcome (with_turn at fs q)) (sym (heeds_so (answer.Granted cookie given size) (lock ∷ []) is refl))
              (inr (inr (inr (inr (record {
                slot = slot;
                running = came;
                come = record {
                  good = stands.good;
                  settled = tt;
                  small = small;
                  call = stands.call;
                  others = λ u other. stood_idle head c stamp slot answered came q now refl stands u other (idle_but slot serves u other);
                  handles = h.since.handles;
                  coming = record {
                    work = l.work;
                    lock = lock;
                    stage = refl;
                    still = λ e. absurd (cc);
                    wanting = wants_as (Came l.work lock) (λ e. absurd (cc));
                    object = subst (λ (u : ℕ). 0 < u) of_target high;
                    holding = held_as t lock false;
                    held = one_held head c stamp p n t r f s found high lock locks_so;
                    of_target = of_target;
                    is = refl;
                    of_object = range.1;
                    ranged = tt;
                    how = inl refl;
                  };
                };
              })))))

        -- it waits for it
        module _ (cookie : Cookie) (is : r.answer ≡ answer.Waiting cookie) where
          abbrev waits : Running
          waits = at_stage answered (Waits l.work g.wanted.target (waiting_lock k4.who cookie g.wanted) false)

          wait_ok : StandsOk q at c slot waits
          wait_ok =
              record {
                running = answered;
                call = now;
                small = small;
                still = λ e. absurd (cc);
                stage = Waits l.work g.wanted.target (waiting_lock k4.who cookie g.wanted) false;
                pins = answered.pins;
                is = refl;
                how = inr (inr (inr (inr (inr (
                  refl,
                  inr (inl (record {
                    work = l.work;
                    wanted = g.wanted;
                    left = g.left;
                    first = g.first;
                    before = l.stage;
                    answers = record { target = t; reply = r; answered = refl; heard = h.since.just };
                    of_target = of_target;
                    flight = f;
                    now = h.now (bare head c stamp p n t r f s found high);
                    extent = extent;
                    policy = range.0;
                    of_op = asked_so;
                    cookie = cookie;
                    tells = is;
                    is = refl;
                  })),
                )))));
                had = had_work;
                uses = λ u i. inl (stays_used u i);
                mine = λ u i. mine u (stays_used u i);
              }

          stood_so : Stood head c stamp slot waits q
          stood_so = stood head c stamp slot waits q h.since.good h.since.settled wait_ok (subst (λ (u : ℕ). 0 < u) of_target high, left_objects)

          waiting : Waiting (life_at c q) waits
          waiting =
              record {
                work = l.work;
                target = g.wanted.target;
                lock = waiting_lock k4.who cookie g.wanted;
                marked = false;
                stage = refl;
                still = λ e. absurd (cc);
                wanting = wants_as (Waits l.work g.wanted.target (waiting_lock k4.who cookie g.wanted) false) (λ e. absurd (cc));
                of_target = refl;
                of_lock = refl;
                object = subst (λ (u : ℕ). 0 < u) of_target high;
              }

          wait_after : Outcome (with_turn at heeding q)
          wait_after =
              subst (λ (fs : List Entry). Outcome (with_turn at fs q)) (sym (heeds_so (answer.Waiting cookie) [] is refl))
              (moved (record {
                good = stood_so.good;
                settled = tt;
                moves =
                    others_of head c stamp slot (λ u. Movable (life_at c q) (call_at c u (line at (Stands slot waits) ∷ q)))
                    (subst (Movable (life_at c q)) (sym stood_so.call) (inl (inr (inr (inr (inl waiting))))))
                    (λ u other. subst (Movable (life_at c q)) (sym (stood_so.others u other)) (moves_but slot serves u other));
                handles = h.since.handles;
              }))

        enqueue_after : (a : Answer) → r.answer ≡ a → Outcome (with_turn at heeding q)
        enqueue_after (answer.Granted cookie given size) e = came_after cookie given size e
        enqueue_after (answer.Waiting cookie) e = wait_after cookie e
        enqueue_after a e = rests_still (heeds_so a [] e refl)

        -- so is the count of those that wait
        waits_so : IsToWait c (p1 head c stamp p n t r f s found) t f r
        waits_so =
            record {
              bare = bare head c stamp p n t r f s found high;
              slot = slot;
              of_slot = serves;
              small = small;
              running = r0;
              call = call;
              work = l.work;
              stage = l.stage;
              wanted = g.wanted;
              left = g.left;
              first = g.first;
              of_target = sym of_target;
            }

      -- ---- it fetched a page

      module _ (g : Getting r0) (z : List Line) (m : Marked z) (settled : Settled z) where
        abbrev anew : Running
        anew = at_stage answered (Looks g.work)

        call_now : call_at c slot z ≡ Some answered
        call_now = m.calls slot ∙ now

        look_ok : StandsOk z at c slot anew
        look_ok =
            record {
              running = answered;
              call = call_now;
              small = small;
              still = λ e. absurd (cc);
              stage = Looks g.work;
              pins = answered.pins;
              is = refl;
              how = inr (inr (inr (inr (inr (
                refl,
                inr (inr (inr (inr (record {
                  work = g.work;
                  is = refl;
                  from =
                      inr (g.stage, record { target = t; reply = r; answered = refl; heard = m.just });
                })))),
              )))));
              had = subst (λ (x : Stage). HadUsed c slot z x) g.stage (had_all (the_head head c stamp) z m.good.grown c slot answered call_now);
              uses = λ u i. inl (subst (λ (x : Stage). In u (used_in x)) (sym g.stage) i);
              mine = λ u i. mine u (subst (λ (x : Stage). In u (used_in x)) (sym g.stage) i);
            }

        anew_stood : Stood head c stamp slot anew z
        anew_stood = stood head c stamp slot anew z m.good settled look_ok (subst IsOnObjects g.stage objects)

        looking : Looking anew
        looking =
            record {
              work = g.work;
              stage = refl;
              still = λ e. absurd (cc);
              works = inl (bytes_as r0 anew g.work refl refl (λ e. absurd (cc)) refl g.bytes);
              some = λ x. absurd (let e = sym g.reads.read.reads ∙ x.glimpses in cc);
            }

        looks_after : Moving head c stamp (line at (Stands slot anew) ∷ z)
        looks_after =
            record {
              good = anew_stood.good;
              settled = tt;
              moves =
                  others_of head c stamp slot (λ u. Movable (life_at c (line at (Stands slot anew) ∷ z)) (call_at c u (line at (Stands slot anew) ∷ z)))
                  (subst (Movable (life_at c z)) (sym anew_stood.call) (inr (inr (inr looking))))
                  (λ u other. subst (Movable (life_at c z)) (sym (anew_stood.others u other))
                  (subst (λ (who : Who). Movable who (call_at c u z)) (sym m.life) (subst (Movable (life_at c q)) (sym (m.calls u)) (moves_but slot serves u other))));
              handles = m.handles;
            }

        look_lines : on_slot looks_again f.slot k4 ≡ Stands slot anew ∷ []
        look_lines = ap (λ (o : Option ℕ). on_slot looks_again o k4) serves ∙ ap (on_running looks_again slot) (on_small c slot q small ∙ now)
            ∙ ap (looks_again slot answered) g.stage

      get_after : (resource : Resource) (cookie : Cookie) (page : ℕ) (bs : List ℕ) → f.op ≡ op.Get resource cookie page → r.answer ≡ answer.Content bs → 0 < t → Getting r0
          → Outcome (with_turn at (heeds t f (op.Get resource cookie page) r (answer.Content bs) k4) q)
      get_after resource cookie page bs of_op of_answer high g =
          let name = named (record { 0 = t }) cookie in
          let ms = page_heard resource cookie page bs (held_of_name name (held_at c q)) in
          let more = on_slot looks_again f.slot k4 in
          let none = none_held head c stamp p n t r f s found high (brought_none resource cookie page of_op high) in
          let marks : marks_of c q ≡ ms = marks_so (op.Get resource cookie page) (answer.Content bs) of_op of_answer
          ∙ ap (λ (hs : List HeldLock). page_heard resource cookie page bs (held_of_name name hs)) (sym none) in
          let z = page_marked resource cookie page bs (held_of_name name (held_at c q)) q start h.since.settled marks in
          subst Outcome (sym (turn_more at ms more q ∙ ap (λ (fs : List Entry). with_turn at fs (with_turn at ms q)) (look_lines g (with_turn at ms q) z.0 z.1)))
          (moved (looks_after g (with_turn at ms q) z.0 z.1))

    -- ---- all of it

    -- the call that a request serves, if any
    by_slot : (A : Type 0) → (IsBack f.op → f.slot ≡ None → A)
        → ((slot : ℕ) (serves : f.slot ≡ Some slot) (r0 : Running) (call : call_at c slot p ≡ Some r0) (asked : r0.asking ≡ Asked) (asks_it : AsksFor r0 t f.op) → A) → A
    by_slot A back served = by f.slot refl serves_what
      where
        by : (o : Option ℕ) → f.slot ≡ o → CallOf p c t o f.op → A
        by None e k = back k e
        by (Some slot) e k = served slot e k.0 k.1 k.2 k.3

    -- nothing is made of it
    nothing_after : Outcome q
    nothing_after = by_slot (Outcome q) (λ back e. moved (moving (back_moves e)))
        (λ slot serves r0 call asked asks_it. simple_goes slot serves r0 call asked asks_it (does slot serves r0 call asked asks_it))

    quiet_after : heeding ≡ [] → Outcome (with_turn at heeding q)
    quiet_after none = subst (λ (fs : List Entry). Outcome (with_turn at fs q)) (sym none) nothing_after

    not_simple_lock : (o : Op) → IsSimple o → IsLockOp o → ⊥
    not_simple_lock (op.Enqueue resource mode extent) m k = m
    not_simple_lock o m k = k

    not_simple_bytes : (o : Op) → IsSimple o → IsBytes o → ⊥
    not_simple_bytes (op.Get resource cookie page) m k = m
    not_simple_bytes (op.Put resource cookie offset bs) m k = m
    not_simple_bytes (op.Cut resource cookie size) m k = m
    not_simple_bytes o m k = k

    not_back_lock : (o : Op) → IsBack o → IsLock o → ⊥
    not_back_lock (op.Enqueue resource mode extent) b k = b
    not_back_lock o b k = k

    enqueued : 0 < t → (resource : Resource) (mode : Mode) (extent : Extent) → f.op ≡ op.Enqueue resource mode extent → (A : Type 0)
        → ((slot : ℕ) (serves : f.slot ≡ Some slot) (r0 : Running) (call : call_at c slot p ≡ Some r0) (asked : r0.asking ≡ Asked) (asks_it : AsksFor r0 t f.op) (l : Locking r0)
        → LocksFirst l.work t f.op → A) → A
    enqueued high resource mode extent of_op A locked = by_slot A (λ back e. absurd (not_back_lock f.op back (subst IsLock (sym of_op) tt))) served
      where
        served : (slot : ℕ) (serves : f.slot ≡ Some slot) (r0 : Running) (call : call_at c slot p ≡ Some r0) (asked : r0.asking ≡ Asked) (asks_it : AsksFor r0 t f.op) → A
        served slot serves r0 call asked asks_it =
            let k = locks_of r0 t f.op (subst IsLock (sym of_op) tt) asks_it in
            let l = locking_of r0 k.0 k.1 (does slot serves r0 call asked asks_it) in
            let same : k.0 ≡ l.work = let e : Enqueued k.0 ≡ Enqueued l.work = sym k.1 ∙ l.stage in cc in
            locked slot serves r0 call asked asks_it l (subst (λ (w : Work). LocksFirst w t f.op) same k.2)

    lock_after : 0 < t → IsLock f.op → Outcome (with_turn at heeding q)
    lock_after high lock =
        let o = lock_is f.op lock in
        enqueued high o.0 o.1 o.2 o.3 (Outcome (with_turn at heeding q))
        (λ slot serves r0 call asked asks_it l of_first. enqueue_after slot serves r0 call asked asks_it high l of_first o.0 o.1 o.2 o.3 r.answer refl)

    -- bytes of an object
    back_none : IsBack f.op → f.slot ≡ None
    back_none back = by_slot (f.slot ≡ None) (λ b e. e) (λ slot serves r0 call asked asks_it. absurd (not_back r0 t f.op back asks_it))

    bytes_after : 0 < t → (o : Op) → f.op ≡ o → IsBytes o → (a : Answer) → r.answer ≡ a → Outcome (with_turn at (heeds t f o r a k4) q)
    bytes_after high (op.Get resource cookie page) of_op b (answer.Content bs) of_answer =
        by_slot (Outcome (with_turn at (heeds t f (op.Get resource cookie page) r (answer.Content bs) k4) q)) (λ back e. absurd (subst IsBack of_op back))
        (λ slot serves r0 call asked asks_it.
        let g = gets_of r0 t resource cookie page (subst (AsksFor r0 t) of_op asks_it) in
        get_after slot serves r0 call asked asks_it resource cookie page bs of_op of_answer high (getting_of r0 g.work g.stage (does slot serves r0 call asked asks_it)))
    bytes_after high (op.Put resource cookie offset bs) of_op b answer.Done of_answer =
        moved (marked_moves (back_none (subst IsBack (sym of_op) tt)) (line at (Grows resource (Put offset bs)) ∷ line at (Fills resource offset bs) ∷ line at (Acks resource) ∷ q)
        (put_marked resource offset bs (marks_so (op.Put resource cookie offset bs) answer.Done of_op of_answer)) tt)
    bytes_after high (op.Cut resource cookie size) of_op b answer.Done of_answer =
        moved (marked_moves (back_none (subst IsBack (sym of_op) tt)) (line at (Grows resource (Cut size)) ∷ line at (Zeroes resource size) ∷ line at (Acks resource) ∷ q)
        (cut_marked resource size (marks_so (op.Cut resource cookie size) answer.Done of_op of_answer)) tt)
    bytes_after high (op.Get resource cookie page) of_op b a of_answer = nothing_after
    bytes_after high (op.Put resource cookie offset bs) of_op b a of_answer = nothing_after
    bytes_after high (op.Cut resource cookie size) of_op b a of_answer = nothing_after
    bytes_after high o of_op b a of_answer = absurd b

    lines_after : Outcome (with_turn at lines (p1 head c stamp p n t r f s found))
    lines_after = subst Outcome (sym heard_so) (by (asks_what head c stamp p n t r f s found))
      where
        by : IsSimple f.op ⊎ ((0 < t) × (IsLock f.op ⊎ IsBytes f.op)) → Outcome (with_turn at heeding q)
        by (inl simple) = quiet_after (heeds_nothing t f f.op r r.answer k4 simple)
        by (inr k) = ⊎_elim (λ (lock : IsLock f.op). lock_after k.0 lock) (λ (b : IsBytes f.op). bytes_after k.0 f.op refl b r.answer refl) k.1

    -- ---- and of the locks that are waited for

    lock_high : IsLockOp f.op → 0 < t
    lock_high lock = by (asks_what head c stamp p n t r f s found)
      where
        by : IsSimple f.op ⊎ ((0 < t) × (IsLock f.op ⊎ IsBytes f.op)) → 0 < t
        by (inl simple) = absurd (not_simple_lock f.op simple lock)
        by (inr k) = k.0

    fits_reply : ReplyFits c (p1 head c stamp p n t r f s found) t f r
    fits_reply =
        record {
          target = ⊎_elim (λ (z : t ≡ 0). inl (z, (λ lock. let high = lock_high lock in omega (arith, high, z)), low z)) (λ (b : r.locks ≡ []). inr b)
              (first head c stamp p n t r f s found);
          bytes = λ b. ⊎_elim (λ (simple : IsSimple f.op). absurd (not_simple_bytes f.op simple b))
              (λ (k : (0 < t) × (IsLock f.op ⊎ IsBytes f.op)). bare head c stamp p n t r f s found k.0) (asks_what head c stamp p n t r f s found);
          wait = λ resource mode extent cookie of_op of_answer.
              let high = lock_high (subst IsLockOp (sym of_op) tt) in
              enqueued high resource mode extent of_op (IsToWait c (p1 head c stamp p n t r f s found) t f r)
              (λ slot serves r0 call asked asks_it l of_first. waits_so slot serves r0 call asked asks_it high l of_first resource mode extent of_op);
        }
      where
        low : t ≡ 0 → (k : ℕ) → awaits_of (life_at c (p1 head c stamp p n t r f s found)) k (only t (p1 head c stamp p n t r f s found)) ≡ 0
        low z k =
            (took_awaits head c stamp p n (Target t) (message.Reply r) s.awaits).counts t k
            ∙ ap (λ (u : ℕ). waiting_for (lock_named u k) (calls_at c p)) z
            ∙ rw (none_on 0, none_on 1, none_on 2, none_on 3) refl
          where
            none_on : (slot : ℕ) → is_waiter (lock_named 0 k) (call_at c slot p) ≡ false
            none_on slot = none_low (life_at c p) (patches_at c p) (calls_at c p) (call_at c slot p) k (s.between.idle slot)

    lines_awaits : Awaits c (with_turn at lines (p1 head c stamp p n t r f s found))
    lines_awaits = heard_awaits head c stamp t r f (p1 head c stamp p n t r f s found) fits_reply (took_awaits head c stamp p n (Target t) (message.Reply r) s.awaits)

  abbrev pub Comes : List Line → Type 0
  Comes z = Outcome z × Awaits c z

  pub reply_after : (p : List Line) (n t : ℕ) (r : ReplyTo) → Starts head c stamp p → t ≤ head.osts → Sent p n (Target t) (Client c) (message.Reply r)
      → Comes (with_turn at (comes_by at (Target t) (message.Reply r) (client_of head c p)) (line at (Take n (Target t) (message.Reply r)) ∷ p))
  reply_after p n t r s there sent = by_life (is_present r.who r.boot t k) refl
    where
      k : ClientState
      k = client_of head c p

      here : List Line
      here = line at (Take n (Target t) (message.Reply r)) ∷ p

      quiet : Comes here
      quiet = (inl (took_rested head c stamp p n t (message.Reply r) s sent), took_awaits head c stamp p n (Target t) (message.Reply r) s.awaits)

      flights_so : (import_of t k.imports).flights ≡ flights_at c t p
      flights_so = ap (λ (i : Import). i.flights) (import_there head c stamp p t there)

      by_fit : (f : Flight) → find_flight r.xid.0 (import_of t k.imports).flights ≡ Some f → is_present r.who r.boot t k ≡ true → (b : Bool) → answer_fits f.op r.answer ≡ b
          → Comes (with_turn at (hears_fitting t r f k b) here)
      by_fit f found present false fits = quiet
      by_fit f found present true fits =
          let own = and_parts (same_life r.who k.who) (nat_eq r.boot (import_of t k.imports).boot) present in
          let i = found_in r.xid.0 (import_of t k.imports).flights f found in
          let finds : Finds head c stamp p n t r f = record {
            sent = sent;
            flying = subst (λ (fs : List Flight). In f fs) flights_so i.0;
            xid = i.1;
            who = life_is r.who k.who own.0;
            boot = eqb-true r.boot (import_of t k.imports).boot own.1 ∙ ap (λ (j : Import). j.boot) (import_there head c stamp p t there);
            fits = fits;
          } in
          (lines_after p n t r f s finds, lines_awaits p n t r f s finds)

      by_flight : (o : Option Flight) → find_flight r.xid.0 (import_of t k.imports).flights ≡ o → is_present r.who r.boot t k ≡ true → Comes (with_turn at (hears t r k o) here)
      by_flight None found present = quiet
      by_flight (Some f) found present = by_fit f found present (answer_fits f.op r.answer) refl

      by_life : (b : Bool) → is_present r.who r.boot t k ≡ b → Comes (with_turn at (replied t r k b) here)
      by_life false present = quiet
      by_life true present = by_flight (find_flight r.xid.0 (import_of t k.imports).flights) refl present
