-- A run that changes no bytes rests on the narrow guards alone (`bare_grown`), over the whole past and over each story.
use Rattle.std.proofs.Common.{◌≡◌, ℕ, zero, suc, ◌<◌, Bool, true, false, List, [], ◌∷◌, Option, Some, None, ◌⊎◌, inl, inr, ⊎_elim, refl}
use Rattle.std.proofs.Common.{sym, subst, ap, ◌∙◌, arith}
use Rattle.std.specs.Prelude.{nat_eq, ◌&&◌, if◌then◌else◌}
use Rattle.std.proofs.lemmas.Bool.{eqb-true, and_parts}
use Rattle.lu_base.specs.declared.ids.At.{At}
use Rattle.lu_base.specs.declared.ids.Node.{Node}
use Rattle.lu_base.specs.declared.ids.Node.TheVariants.{Client, Target}
use Rattle.lu_base.specs.declared.ids.Stamp.{Stamp}
use Rattle.lu_base.specs.declared.ids.Cookie.{Cookie}
use Rattle.lu_base.specs.declared.ids.Who.{Who}
use Rattle.lu_base.specs.declared.locks.Extent.{Extent}
use Rattle.lu_base.specs.declared.locks.Lock.{Lock}
use Rattle.lu_base.specs.declared.locks.Resource.{Resource}
use Rattle.lu_base.specs.declared.locks.Mode.{Mode}
use Rattle.lu_msg.specs.declared.answers.Answer.{Answer}
use Rattle.lu_msg.specs.declared.answers.Answer.TheVariants as answer
use Rattle.lu_msg.specs.declared.calls.Call.{Call}
use Rattle.lu_msg.specs.declared.calls.Call.TheVariants as call
use Rattle.lu_msg.specs.declared.messages.GrantNotice.{GrantNotice}
use Rattle.lu_msg.specs.declared.messages.Message.TheVariants as message
use Rattle.lu_msg.specs.declared.messages.Reply.{Reply as ReplyTo}
use Rattle.lu_held.specs.declared.names.LockName.{LockName}
use Rattle.lu_msg.specs.declared.operations.Op.TheVariants as op
use Rattle.lu_spec_entries.specs.Carried.{Deed, Flight, Called, Stage, Bad, Flushing, Work}
use Rattle.lu_spec_entries.specs.Words.{Entry, Begin, Queues, Stands, Told, Heard, Hold, Unmarks, Pins, Unpins, Act, Txn, Grant, Wait}
use Rattle.lu_spec_entries.specs.Words.{Answers as Responds, Asks, Ends, Block, Changes, WritesBack, Shows, Acks, Fills, Zeroes}
use Rattle.lu_spec_entries.specs.Words.{Grown as Grows, Peek, Line, line}
use Rattle.lu_spec_entries.specs.Concerns.{concerns, only}
use Rattle.lu_proof_lawful.specs.Covered.Runs.{ChangesNoBytes, IsBare, AllBare}
use Rattle.lu_proof_lawful.specs.Covered.Deeds.{told_on}
use Rattle.lu_proof_lawful.specs.Covered.Heads.{Head}
use Rattle.lu_proof_lawful.specs.Covered.TargetStates.{none, server_of}
use Rattle.lu_proof_lawful.proofs.Preconditions.Guards.{In, Was, HoldsOk, came_marked, ChangesOn, WroteOk, TellsOk, IsFlushing, OfFlush}
use Rattle.lu_proof_lawful.proofs.Preconditions.Guards.{Starts, StartsRead, StartsStat, OwesBegun, Owes, EntryOk}
use Rattle.lu_proof_lawful.proofs.Preconditions.ClientGuards.{GivenOk}
use Rattle.lu_proof_lawful.proofs.Preconditions.StoryGuards.{ActsOk, TxnsOk, GrantsOk, BlocksOk, EntryOf}
use Rattle.lu_proof_lawful.proofs.Preconditions.Grown.{Allowed, Grown, GrownOf}
use Rattle.lu_proof_lawful.proofs.Preconditions.Lists.{self, turn}
use Rattle.lu_proof_lawful.proofs.Preconditions.Only.{grown_of, was_more}
use Rattle.lu_proof_lawful.proofs.Preconditions.ClientLines.{IsNames}
use Rattle.lu_proof_lawful.proofs.Invariants.Groups.{HeardAs}
use Rattle.lu_proof_lawful.proofs.Invariants.All.{holds}
use Rattle.lu_proof_lawful.proofs.Invariants.BareObjects.{IsBareOp, range_read, range_told, no_write, no_wait, no_promotion, no_question}
use Rattle.lu_proof_lawful.proofs.Invariants.BareObjects.{no_answer, no_end, empty}
use Rattle.lu_proof_lawful.proofs.Invariants.BareCalls.{BareStage, BareAnswer, BareSoFar, object_answer, stands_bare}
use Rattle.lu_proof_lawful.proofs.Invariants.BareSteps.{took_was, took_now, asked, no_mark, no_changes, no_back, no_shows, no_back_ask}
use Rattle.lu_proof_lawful.proofs.Invariants.BareSteps.{bare_so_far}
use Rattle.lu_proof_lawful.proofs.Invariants.BareTold.{no_writer, begin_so, queues_so, stands_so, sizes_so, flushed_so, read_so}
use Rattle.lu_proof_lawful.proofs.Invariants.BareTold.{stat_told_so}
use Rattle.lu_proof_lawful.proofs.Invariants.BareGuards.{BareActsOk, BareGrantsOk, BareOk, BareOf, BareOwesBegun, BareOwes, BareAllowed}
use Rattle.lu_proof_lawful.proofs.Invariants.BareGuards.{BareGrown, BareGrownOf, wide, all_bare}

-- a lock comes marked only with a grant
marked_given : (head : Head) (past : List Line) → Grown head past → (c : ℕ) (name : LockName) → came_marked c name past ≡ true → (t : ℕ)
    × (notice : GrantNotice) × Was past (Target t) (Client c) (message.Grant notice)
marked_given head [] g c name e = absurd (cc)
marked_given head (l ∷ past) g c name e = by l.at.node l.entry refl g.0.ok e (λ k. later (marked_given head past g.1 c name k))
  where
    Given : List Line → Type 0
    Given p = (t : ℕ) × (notice : GrantNotice) × Was p (Target t) (Client c) (message.Grant notice)

    later : Given past → Given (l ∷ past)
    later k = (k.0, k.1, was_more l past (Target k.0) (Client c) (message.Grant k.1) k.2)

    -- a line of the client, or another one
    split : (b : Bool) (x : Bool) → (if b then x else came_marked c name past) ≡ true → ((b ≡ true) × (x ≡ true))
        ⊎ (came_marked c name past ≡ true)
    split true x e = inl (refl, e)
    split false x e = inr e

    took : (d t : ℕ) (lock : Lock) (marked : Bool) (size : Option ℕ) (seen : List ℕ) → nat_eq c d ≡ true → marked ≡ true → l.at.node
        ≡ Client d → HoldsOk past l.at t lock marked size seen ⊎ GivenOk past l.at d t lock marked size seen → Given past
    took d t lock marked size seen own is here (inl ok) = absurd (let z : true ≡ false = sym is ∙ ok.unmarked in cc)
    took d t lock marked size seen own is here (inr ok) = (
      t,
      ok.notice,
      subst (λ (n : Node). Was past (Target t) n (message.Grant ok.notice)) (here ∙ ap Client (sym (eqb-true c d own)))
          (took_was head past l.at (Target t) (message.Grant ok.notice) g.1
          (took_now past l.at (Target t) (message.Grant ok.notice) ok.took)),
    )

    by : (node : Node) (x : Entry) → l.at.node ≡ node → EntryOk past l.at node x → came_marked c name (line (turn l.at.stamp node) x ∷ past)
        ≡ true → (came_marked c name past ≡ true → Given (l ∷ past)) → Given (l ∷ past)
    by (Client d) (Hold t lock marked size seen) here ok e more = ⊎_elim
        (λ (p : ((nat_eq c d && (nat_eq t name.target.0 && nat_eq lock.cookie.0 name.cookie.0)) ≡ true) × (marked ≡ true)). later
        (took d t lock marked size seen (and_parts (nat_eq c d) (nat_eq t name.target.0 && nat_eq lock.cookie.0 name.cookie.0) p.0).0
        p.1 here ok))
        more (split (nat_eq c d && (nat_eq t name.target.0 && nat_eq lock.cookie.0 name.cookie.0)) marked e)
    by (Client d) (Heard t f r) here ok e more = ⊎_elim (λ (p : ((nat_eq c d && nat_eq t name.target.0) ≡ true) × (false ≡ true)). absurd
        (let z = p.1 in cc)) more (split (nat_eq c d && nat_eq t name.target.0) false e)
    by (Client d) (Unmarks t) here ok e more = ⊎_elim (λ (p : ((nat_eq c d && nat_eq t name.target.0) ≡ true) × (false ≡ true)). absurd
        (let z = p.1 in cc)) more (split (nat_eq c d && nat_eq t name.target.0) false e)
    by (Target u) (Hold t lock marked size seen) here ok e more = absurd ok
    by (Target u) (Heard t f r) here ok e more = absurd ok
    by (Target u) (Unmarks t) here ok e more = absurd ok
    by node x here ok e more = more e

module _ (head : Head) (past : List Line) (g : Grown head past) (s : BareSoFar head past) where
  -- ---- over the whole past

  no_wrote : (at : At) (c slot : ℕ) (named : At) (told : Answer) (work : Option Work) → WroteOk past at c slot named told work → ⊥
  no_wrote at c slot named told work ok = changed ok.does
    where
      changed : ChangesOn ok.running ok.done → ⊥
      changed (inl h) = subst ChangesNoBytes h.writes ((s.calls c slot ok.running ok.call).call h.good)
      changed (inr h) = subst ChangesNoBytes h.cuts ((s.calls c slot ok.running ok.call).call h.good)

  tells_so : (stamp : Stamp) (c slot : ℕ) (named : At) (told : Answer) (work : Option Work)
      → TellsOk past (turn stamp (Client c)) c slot named told work
      → BareOk past (turn stamp (Client c)) (Client c) (Told slot named told work)
  tells_so stamp c slot named told work (inl k) = inl k
  tells_so stamp c slot named told work (inr (inl k)) = inr (inl k)
  tells_so stamp c slot named told work (inr (inr (inl k))) = inr (inr (inl k))
  tells_so stamp c slot named told work (inr (inr (inr (inl k)))) = inr (inr (inr (inl k)))
  tells_so stamp c slot named told work (inr (inr (inr (inr (inl k))))) =
      inr (inr (inr (inr (inl (sizes_so head past (turn stamp (Client c)) c refl g s slot named told work k)))))
  tells_so stamp c slot named told work (inr (inr (inr (inr (inr (inl k)))))) =
      inr (inr (inr (inr (inr (inl (flushed_so head past (turn stamp (Client c)) c refl g s slot named told work k))))))
  tells_so stamp c slot named told work (inr (inr (inr (inr (inr (inr (inl k))))))) =
      inr (inr (inr (inr (inr (inr (inl (read_so head past (turn stamp (Client c)) c refl g s slot named told work k)))))))
  tells_so stamp c slot named told work (inr (inr (inr (inr (inr (inr (inr (inl k)))))))) =
      inr (inr (inr (inr (inr (inr (inr (stat_told_so head past (turn stamp (Client c)) c refl g s slot named told work k)))))))
  tells_so stamp c slot named told work (inr (inr (inr (inr (inr (inr (inr (inr k)))))))) =
      absurd (no_wrote (turn stamp (Client c)) c slot named told work k)

  no_given : (at : At) (c t : ℕ) (lock : Lock) (marked : Bool) (size : Option ℕ) (seen : List ℕ) → GivenOk past at c t lock marked size seen
      → ⊥
  no_given at c t lock marked size seen k = subst (BareStage k.running) k.waits (s.calls c k.slot k.running k.call).stage

  -- no target but that of the metadata makes a transaction, or calls back
  high_txn : (at : At) (t : ℕ) (d : Deed) → TxnsOk head.osts (only t past) at t d → t ≡ 0
  high_txn at t d (inl k) = k.0
  high_txn at t d (inr k) = absurd (no_write head (only t past) ((holds head past g).at t) (s.targets t k.0) (asked head past g s t) at d
      k.1)

  high_block : (t : ℕ) (called : Called) → BlocksOk head.osts (only t past) t called → t ≡ 0
  high_block t called (inl k) = k.0
  high_block t called (inr k) = absurd (subst (λ (ls : List Lock). In k.1.waiting ls) (s.targets t k.0).queued k.1.queued)

  bare_ok : (stamp : Stamp) (node : Node) (e : Entry) → IsBare e → EntryOk past (turn stamp node) node e
      → ((t : ℕ) → concerns t node e ≡ true → EntryOf head (only t past) (turn stamp node) node e) → BareOk past (turn stamp node) node e
  bare_ok stamp (Client c) (Begin slot running) bare ok of = begin_so head past (turn stamp (Client c)) c refl g s slot running bare ok
  bare_ok stamp (Client c) (Queues t q) bare ok of = queues_so head past (turn stamp (Client c)) c refl g s t q ok
  bare_ok stamp (Client c) (Stands slot running) bare ok of = stands_so head past (turn stamp (Client c)) c refl g s slot running ok
  bare_ok stamp (Client c) (Told slot named told work) bare ok of = tells_so stamp c slot named told work ok
  bare_ok stamp (Client c) (Hold t lock marked size seen) bare (inl ok) of = ok
  bare_ok stamp (Client c) (Hold t lock marked size seen) bare (inr ok) of =
      absurd (no_given (turn stamp (Client c)) c t lock marked size seen ok)
  bare_ok stamp (Client c) (Pins name) bare (inl ok) of = ok
  bare_ok stamp (Client c) (Pins name) bare (inr ok) of = absurd
      (let k = marked_given head past g c name ok.marked in s.given (Target k.0) (Client c) k.1 k.2)
  bare_ok stamp (Client c) (Changes resource change) bare ok of = no_changes head past g s (turn stamp (Client c)) c resource change ok
  bare_ok stamp (Client c) (WritesBack resource change) bare ok of = no_back head past g s c resource change ok
  bare_ok stamp (Client c) (Shows resource cookie last) bare ok of =
      no_shows head past g s (turn stamp (Client c)) c resource cookie last ok
  bare_ok stamp (Client c) (Acks resource) bare ok of = no_mark head past g s c (Acks resource) ok
  bare_ok stamp (Client c) (Fills resource offset bytes) bare ok of = no_mark head past g s c (Fills resource offset bytes) ok
  bare_ok stamp (Client c) (Zeroes resource size) bare ok of = no_mark head past g s c (Zeroes resource size) ok
  bare_ok stamp (Client c) (Grows resource change) bare ok of = no_mark head past g s c (Grows resource change) ok
  bare_ok stamp (Client c) (Peek t cookie size) bare ok of = no_writer head past (turn stamp (Client c)) c refl g s ok.holding ok.held
      ok.mode
  bare_ok stamp (Target t) (Txn d) bare ok of = high_txn (turn stamp (Target t)) t d (of t (self t))
  bare_ok stamp (Target t) (Block called) bare ok of = high_block t called (of t (self t))
  bare_ok stamp (Target t) (Grant lock None) bare ok of =
      let k = of t (self t) in no_promotion head (only t past) ((holds head past g).at t) (s.targets t k.0) (asked head past g s t) lock k.1
  bare_ok stamp (Target t) (Wait lock d) bare ok of =
      let k = of t (self t) in no_wait head (only t past) ((holds head past g).at t) (s.targets t k.0) (asked head past g s t)
      (turn stamp (Target t)) lock d k.1
  bare_ok stamp (Target t) (Responds d) bare ok of =
      let k = of t (self t) in no_answer head (only t past) ((holds head past g).at t) (s.targets t k.0) (asked head past g s t)
      (turn stamp (Target t)) t d k.1
  bare_ok stamp (Target t) (Asks q) bare ok of =
      let k = of t (self t) in no_question head (only t past) ((holds head past g).at t) (s.targets t k.0) (asked head past g s t)
      (turn stamp (Target t)) q.resource k.1.holder k.1.of_holder
  bare_ok stamp (Target t) (Ends q) bare ok of =
      let k = of t (self t) in no_end head (only t past) ((holds head past g).at t) (s.targets t k.0) (asked head past g s t)
      (turn stamp (Target t)) t q k.1
  bare_ok stamp (Client c) e bare ok of = ok
  bare_ok stamp (Target t) e bare ok of = ok

  -- ---- over the story of one target

  acts_so : (stamp : Stamp) (t u : ℕ) (d : Deed) → t ≡ u → ActsOk head.osts (only t past) (turn stamp (Target u)) u d
      → BareActsOk head.osts (only t past) (turn stamp (Target u)) u d
  acts_so stamp t u d same (inl k) = inl k
  acts_so stamp t u d same (inr k) =
      let ok = k.1 in
      let b = s.targets t (subst (λ (v : ℕ). 0 < v) (sym same) k.0) in
      inr (
        k.0,
        record {
          serves = ok.serves;
          request = ok.request;
          waits = ok.waits;
          resource = ok.resource;
          of_op = ok.of_op;
          is = ok.is ∙ ap (λ (n : ℕ). told_on (server_of head.osts (only t past)) (turn stamp (Target u)) ok.request none []
              (answer.Size n)) (empty head (only t past) ((holds head past g).at t) b (asked head past g s t) ok.resource);
        },
      )

  grants_so : (stamp : Stamp) (t u : ℕ) (lock : Lock) (d : Deed) → t ≡ u → GrantsOk head.osts (only t past) (turn stamp (Target u)) u lock d
      → BareGrantsOk head.osts (only t past) (turn stamp (Target u)) u lock d
  grants_so stamp t u lock d same (inl k) = inl k
  grants_so stamp t u lock d same (inr k) =
      let ok = k.1 in
      let h = (holds head past g).at t in
      let b = s.targets t (subst (λ (v : ℕ). 0 < v) (sym same) k.0) in
      inr (
        k.0,
        record {
          serves = ok.serves;
          room = ok.room;
          request = ok.request;
          waits = ok.waits;
          resource = ok.resource;
          extent = ok.extent;
          of_op = ok.of_op ∙ ap (λ (m : Mode). op.Enqueue ok.resource m ok.extent)
              (subst IsBareOp ok.of_op (asked head past g s t ok.request ok.waits));
          of_lock = range_read head (only t past) h b (asked head past g s t) (turn stamp (Target u)) lock d ok;
          is = range_told head (only t past) h b (asked head past g s t) (turn stamp (Target u)) lock d ok;
        },
      )

  -- nobody was told to wait for a lock
  no_waiting : (t : ℕ) (who : Who) (f : Flight) (r : ReplyTo) {cookie : Cookie} {resource : Resource} {mode : Mode} (extent : Extent)
      → HeardAs (only t past) who f r → f.op ≡ op.Enqueue resource mode extent → r.answer ≡ answer.Waiting cookie → ⊥
  no_waiting zero who f r extent heard asked told =
      let h = (holds head past g).at 0 in
      let d = h.done.answered who f r heard in
      let k = h.done.flew d.0 d.1 in
      subst IsNames (k.3 ∙ sym d.5 ∙ asked) ((s.flew 0 d.0.reply.who k.0 k.1).1 refl)
  no_waiting (suc t) who f r extent heard asked told =
      let d = ((holds head past g).at (suc t)).done.answered who f r heard in
      subst BareAnswer (sym (ap (λ (v : ReplyTo). v.answer) d.2) ∙ told)
      (object_answer d.0 ((s.targets (suc t) (omega arith)).deeds d.0 d.1))

  bare_of : (stamp : Stamp) (node : Node) (e : Entry) → EntryOk past (turn stamp node) node e → (t : ℕ) → concerns t node e ≡ true
      → EntryOf head (only t past) (turn stamp node) node e → BareOf head (only t past) (turn stamp node) node e
  bare_of stamp (Client c) (Hold t lock marked size seen) ok u o (inl of) = of
  bare_of stamp (Client c) (Hold t lock marked size seen) ok u o (inr of) =
      absurd (no_waiting u of.notice.who of.flight of.reply of.extent of.heard of.asked of.told)
  bare_of stamp (Target t) (Act d) ok u o of = acts_so stamp u t d (eqb-true u t o) of
  bare_of stamp (Target t) (Txn d) ok u o (inl of) = of.1
  bare_of stamp (Target t) (Txn d) ok u o (inr of) = absurd (no_write head (only u past) ((holds head past g).at u)
      (s.targets u (subst (λ (v : ℕ). 0 < v) (sym (eqb-true u t o)) of.0)) (asked head past g s u) (turn stamp (Target t)) d of.1)
  bare_of stamp (Target t) (Grant lock (Some d)) ok u o of = grants_so stamp u t lock d (eqb-true u t o) of
  bare_of stamp (Target t) (Grant lock None) ok u o of = of
  bare_of stamp (Target t) (Block called) ok u o (inl of) = of.1
  bare_of stamp (Target t) (Block called) ok u o (inr of) = absurd
      (subst (λ (ls : List Lock). In of.1.waiting ls) (s.targets u (subst (λ (v : ℕ). 0 < v) (sym (eqb-true u t o)) of.0)).queued
      of.1.queued)
  bare_of stamp (Client c) e ok u o of = of
  bare_of stamp (Target t) e ok u o of = of

  -- ---- what is owed

  no_flush_line : (stamp : Stamp) (node : Node) (e : Entry) → EntryOk past (turn stamp node) node e → OfFlush e → ⊥
  no_flush_line stamp (Client c) (Stands slot running) ok f = by running.stage
      (stands_bare head past (turn stamp (Client c)) c slot running g s ok).stage f
    where
      by : (x : Stage) → BareStage running x → IsFlushing x → ⊥
      by (Flushing stripe) b f = b
      by x b f = f
  no_flush_line stamp (Client c) (WritesBack resource change) ok f = no_back head past g s c resource change ok
  no_flush_line stamp (Client c) (Queues t q) (inl ok) f = let e : Some ok.slot ≡ None = sym ok.serves ∙ f in cc
  no_flush_line stamp (Client c) (Queues t q) (inr ok) f = no_back_ask head past g s c t q ok
  no_flush_line stamp (Target t) (Stands slot running) ok f = ok
  no_flush_line stamp (Target t) (WritesBack resource change) ok f = ok
  no_flush_line stamp (Target t) (Queues u q) ok f = ok
  no_flush_line stamp node e ok f = f

begun_so : (SameTurn : Type 0) (slot : ℕ) (stage : Stage) (x : Call) (e : Entry) → (OfFlush e → ⊥) → OwesBegun SameTurn slot stage x e
    → BareOwesBegun SameTurn slot stage x e
begun_so same slot Bad x e none o = o
begun_so same slot stage (call.Close h) e none o = o
begun_so same slot stage (call.Read h offset count) e none o = (
  o.0,
  ⊎_elim (λ (k : StartsRead slot e). k) (λ (k : OfFlush e). absurd (none k)) o.1,
)
begun_so same slot stage (call.Write h offset bytes) e none o = o
begun_so same slot stage (call.Cut h size) e none o = o
begun_so same slot stage (call.Stat path) e none o = (o.0, ⊎_elim (λ (k : StartsStat slot e). k) (λ (k : OfFlush e). absurd (none k)) o.1)
begun_so same slot stage (call.Flush h) e none o = o
begun_so same slot stage (call.Glimpse h) e none o = o
begun_so same slot stage x e none o = (o.0, ⊎_elim (λ (k : Starts slot stage e). k) (λ (k : OfFlush e). absurd (none k)) o.1)

owes_so : (past : List Line) (at : At) (e : Entry) → (OfFlush e → ⊥) → Owes past at e → BareOwes past at e
owes_so [] at e none o = tt
owes_so (l ∷ past) at e none o = by l.entry o (owes_so past at e none)
  where
    by : (x : Entry) → Owes (line l.at x ∷ past) at e → (Owes past at e → BareOwes past at e) → BareOwes (line l.at x ∷ past) at e
    by (Begin slot running) o more = begun_so (l.at ≡ at) slot running.stage running.call e none o
    by (Pins name) o more = (o.0, more o.1)
    by (Unpins name) o more = more o
    by x o more = tt

-- ---- every line

bare_allowed : (head : Head) (past : List Line) (stamp : Stamp) (node : Node) (e : Entry) → Grown head past → BareSoFar head past → IsBare e
    → Allowed head past (turn stamp node) e → BareAllowed head past (turn stamp node) e
bare_allowed head past stamp node e g s bare k =
    record {
      wide = k;
      bare = bare;
      steps = k.steps;
      closes = k.closes;
      lives = k.lives;
      owes = owes_so past (turn stamp node) e (no_flush_line head past g s stamp node e k.ok) k.owes;
      ok = bare_ok head past g s stamp node e bare k.ok k.of;
      of = λ t o. bare_of head past g s stamp node e k.ok t o (k.of t o);
    }

pub bare_grown : (head : Head) (past : List Line) → Grown head past → AllBare past → BareGrown head past
bare_grown head [] g b = tt
bare_grown head (l ∷ past) g b = (
  bare_allowed head past l.at.stamp l.at.node l.entry g.1 (bare_so_far head past g.1 b.1) b.0 g.0,
  bare_grown head past g.1 b.1,
)

-- what is so after each of its lines
pub so_far : (head : Head) (past : List Line) → BareGrown head past → BareSoFar head past
so_far head past g = bare_so_far head past (wide head past g) (all_bare head past g)

-- and so is each target's story
pub bare_grown_of : (head : Head) (t : ℕ) (past : List Line) → BareGrown head past → BareGrownOf head (only t past)
bare_grown_of head t [] g = tt
bare_grown_of head t (l ∷ past) g = by (concerns t l.at.node l.entry) refl (grown_of head t (l ∷ past) (wide head (l ∷ past) g))
    (bare_grown_of head t past g.1)
  where
    by : (b : Bool) → concerns t l.at.node l.entry ≡ b → GrownOf head (if b then l ∷ only t past else only t past)
        → BareGrownOf head (only t past) → BareGrownOf head (if b then l ∷ only t past else only t past)
    by true o k more = (g.0.of t o, k.1, k.2, more, k.0)
    by false o k more = more
