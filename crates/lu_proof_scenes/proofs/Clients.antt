-- A client at each line of a scenario's run: the layouts that it knows and those of its handles are on object storage targets, so what a
-- call on
-- bytes wants is on these, on ranges in order; and each target serves its life, unless a turn may ask a disk. Which lines keep that.
use Rattle.std.proofs.Common.{◌≡◌, ℕ, zero, suc, ◌+◌, ◌^◌, ◌<◌, ◌≤◌, List, [], ◌∷◌, length, Option, Some, None, refl, sym, subst, ap}
use Rattle.std.specs.Prelude.{nat_eq, not, slice_index}
use Rattle.std.proofs.lemmas.Bool.{cond_both}
use Rattle.lu_base.specs.declared.ids.Fid.{Fid}
use Rattle.lu_base.specs.declared.ids.Node.{Node}
use Rattle.lu_base.specs.declared.ids.Node.TheVariants.{Target}
use Rattle.lu_base.specs.declared.locks.Lock.{Lock}
use Rattle.lu_layout.specs.Raid0.{Raid0}
use Rattle.lu_msg.specs.declared.answers.Answer.{Answer}
use Rattle.lu_msg.specs.declared.answers.Answer.TheVariants as told
use Rattle.lu_msg.specs.declared.calls.Call.{Call}
use Rattle.lu_msg.specs.declared.calls.Call.TheVariants as call
use Rattle.lu_msg.specs.declared.messages.Message.{Message}
use Rattle.lu_msg.specs.declared.messages.Message.TheVariants as message
use Rattle.lu_msg.specs.declared.operations.Op.{Op}
use Rattle.lu_msg.specs.declared.operations.Op.TheVariants as op
use Rattle.lu_held.specs.declared.locks.Use.{Use}
use Rattle.lu_spec_entries.specs.Carried.{HandleFile, Queued, Flight, Kind, Narrow, Wide, Cuts, Work, Asking, Asked, Answered, Stage, Plain}
use Rattle.lu_spec_entries.specs.Carried.{Bad, Looks, Enqueued, Waits, Came, Forgotten, Gets, Flushing, Sizes, Running}
use Rattle.lu_spec_entries.specs.Concerns.{is_about}
use Rattle.lu_spec_entries.specs.Words.{Entry, Fail, Send, Begin, Heard, Told, Life, Drop, Queues, Flies, Knows, Serves, Stands, Binds}
use Rattle.lu_spec_entries.specs.Words.{Unbinds, Learns, Commit, Boot, Close, Evict, Joined, Wishes}
use Rattle.lu_spec_client.specs.Advances.{enqueue_of}
use Rattle.lu_spec_client.specs.Calls.{Bound, asks, asks_for, call_after, calls_from, call_on, handles_after}
use Rattle.lu_spec_client.specs.Facts.{Fact, name_facts, names_taught, inode_taught, is_one_for_each, last_of, taught, without_facts}
use Rattle.lu_spec_client.specs.Facts.{facts_after}
use Rattle.lu_spec_client.specs.Imports.{Standing, Joining, Recovering, Serving, interrupted, Import, rest, import_after, imports_from}
use Rattle.lu_spec_client.specs.States.{Client, after, turn, follow}
use Rattle.lu_proof_lawful.specs.Covered.Runs.{OnObjects, IsOnObjects, IsCovered}
use Rattle.lu_proof_lawful.proofs.Preconditions.Covers.{EntriesCovered}
use Rattle.lu_proof_scenes.proofs.Every.{Every, every_more, every_filter, every_so}
use Rattle.lu_proof_scenes.proofs.Asking.{IsOrdered, Suits}

-- ---- what is so of its parts

-- each stripe is on an object storage target
abbrev pub OnOsts : Raid0 → Type 0
OnOsts layout = (stripe : ℕ) → stripe < length layout.targets → 0 < slice_index layout.targets stripe

abbrev pub FileCalm : Option HandleFile → Type 0
FileCalm None = Unit {0}
FileCalm (Some f) = OnOsts f.layout

abbrev pub BoundCalm : Bound → Type 0
BoundCalm b = OnOsts b.file.layout

-- a layout that is told is on object storage targets
abbrev pub AnswerCalm : Answer → Type 0
AnswerCalm (told.FileStat fid mode links layout) = OnOsts layout
AnswerCalm (told.Layout layout) = OnOsts layout
AnswerCalm (told.OpenFile fid number layout) = OnOsts layout
AnswerCalm _ = Unit {0}

abbrev pub AskingCalm : Asking → Type 0
AskingCalm (Answered target reply) = AnswerCalm reply.answer
AskingCalm _ = Unit {0}

-- a read begins below the limit of files, and a cut is to a size up to it
abbrev pub IsLow : Call → Type 0
IsLow (call.Read handle offset count) = offset ≤ 2 ^ 40
IsLow (call.Cut handle size) = size ≤ 2 ^ 40
IsLow _ = Unit {0}

abbrev pub KindCalm : Kind → Type 0
KindCalm (Narrow offset count) = offset ≤ 2 ^ 40
KindCalm (Wide offset count) = offset ≤ 2 ^ 40
KindCalm (Cuts size) = size ≤ 2 ^ 40
KindCalm _ = Unit {0}

-- on a range in order of an object that an object storage target has
abbrev pub UseCalm : Use → Type 0
UseCalm x = (0 < x.target.0) × IsOrdered (enqueue_of x)

pub on_objects : (us : List Use) → Every UseCalm us → OnObjects us
on_objects [] c = tt
on_objects (x ∷ us) c = (c.0.0, on_objects us c.1)

-- what a call on bytes wants
pub record WorkCalm (w : Work) : Type 0 where
  pub kind : KindCalm w.kind
  pub layout : OnOsts w.layout
  pub left : Every UseCalm w.left

abbrev pub StageCalm : Stage → Type 0
StageCalm Plain = Unit {0}
StageCalm Bad = Unit {0}
StageCalm (Looks w) = WorkCalm w
StageCalm (Enqueued w) = WorkCalm w
StageCalm (Waits w target lock marked) = (0 < target.0) × WorkCalm w
StageCalm (Came w lock) = WorkCalm w
StageCalm (Forgotten w) = WorkCalm w
StageCalm (Gets w) = WorkCalm w
StageCalm (Flushing stripe) = Unit {0}
StageCalm (Sizes w) = WorkCalm w

pub stage_on : (stage : Stage) → StageCalm stage → IsOnObjects stage
stage_on Plain c = tt
stage_on Bad c = tt
stage_on (Looks w) c = on_objects w.left c.left
stage_on (Enqueued w) c = on_objects w.left c.left
stage_on (Waits w target lock marked) c = (c.0, on_objects w.left c.1.left)
stage_on (Came w lock) c = on_objects w.left c.left
stage_on (Forgotten w) c = on_objects w.left c.left
stage_on (Gets w) c = on_objects w.left c.left
stage_on (Flushing stripe) c = tt
stage_on (Sizes w) c = on_objects w.left c.left

pub record RunningCalm (r : Running) : Type 0 where
  pub stage : StageCalm r.stage
  pub asking : AskingCalm r.asking
  pub file : FileCalm r.file
  pub low : IsLow r.call

abbrev pub CallCalm : Option Running → Type 0
CallCalm None = Unit {0}
CallCalm (Some r) = RunningCalm r

-- a life is new, or a target is up again, only where a turn may ask a disk (MayAsk)
abbrev pub StandsCalm : Type 0 → Standing → Type 0
StandsCalm MayAsk Serving = Unit {0}
StandsCalm MayAsk Joining = MayAsk
StandsCalm MayAsk Recovering = MayAsk

-- that of a target
pub record ImportCalm (MayAsk : Type 0) (i : Import) : Type 0 where
  pub stands : StandsCalm MayAsk i.standing
  pub queue : Every (λ (q : Queued). IsOrdered q.op) i.queue
  pub flights : Every (λ (f : Flight). IsOrdered f.op) i.flights

abbrev pub FactCalm : Fact → Type 0
FactCalm f = AnswerCalm f.answer

pub record Calm (MayAsk : Type 0) (osts : ℕ) (k : Client) : Type 0 where
  pub handles : Every BoundCalm k.handles
  pub calls : Every CallCalm k.calls
  pub imports : Every (ImportCalm MayAsk) k.imports
  pub targets : length k.imports ≤ osts + 1
  pub facts : Every FactCalm k.facts

-- ---- lines that keep it; of each call that begins this holds

-- what it sends: requests, and what it says of locks, to targets of the run; what a life that joins or comes back tells one only where a
-- turn may ask a disk
abbrev pub SendCalm : Type 0 → ℕ → Node → Message → Type 0
SendCalm MayAsk osts (Target t) (message.Request r) = (t ≤ osts) × IsOrdered r.op
SendCalm MayAsk osts (Target t) (message.Where who boot cookie) = t ≤ osts
SendCalm MayAsk osts (Target t) (message.Size m) = t ≤ osts
SendCalm MayAsk osts (Target t) (message.Join who boot) = MayAsk × (t ≤ osts)
SendCalm MayAsk osts (Target t) (message.Replay r) = MayAsk × (t ≤ osts)
SendCalm MayAsk osts (Target t) (message.Lock r) = MayAsk × (t ≤ osts)
SendCalm MayAsk osts (Target t) (message.Word who boot replays locks seen) = MayAsk × (t ≤ osts)
SendCalm MayAsk osts (Target t) (message.Cancel who boot cookie) = Unit {0}
SendCalm MayAsk osts to m = ⊥

abbrev pub LineCalm : (Call → Type 0) → Type 0 → ℕ → Entry → Type 0
LineCalm P MayAsk osts (Send to m) = SendCalm MayAsk osts to m
LineCalm P MayAsk osts (Begin slot r) = RunningCalm r × P r.call
LineCalm P MayAsk osts (Heard t f r) = AnswerCalm r.answer
LineCalm P MayAsk osts (Life who) = MayAsk
LineCalm P MayAsk osts (Queues t q) = IsOrdered q.op
LineCalm P MayAsk osts (Flies t f) = IsOrdered f.op
LineCalm P MayAsk osts (Knows t boot) = MayAsk
LineCalm P MayAsk osts (Serves t boot) = MayAsk
LineCalm P MayAsk osts (Stands slot r) = RunningCalm r
LineCalm P MayAsk osts (Binds handle file) = OnOsts file.layout
LineCalm P MayAsk osts (Learns t o a locks) = AnswerCalm a
LineCalm P MayAsk osts (Commit to batch) = ⊥
LineCalm P MayAsk osts (Boot boot disk) = ⊥
LineCalm P MayAsk osts (Close o) = ⊥
LineCalm P MayAsk osts (Evict who cause) = ⊥
LineCalm P MayAsk osts (Joined who) = ⊥
LineCalm P MayAsk osts (Wishes who) = ⊥
LineCalm P MayAsk osts Fail = ⊥
LineCalm P MayAsk osts _ = Unit {0}

abbrev pub AllCalm : (Call → Type 0) → Type 0 → ℕ → List Entry → Type 0
AllCalm P MayAsk osts es = Every (LineCalm P MayAsk osts) es

module _ (P : Call → Type 0) (MayAsk : Type 0) (osts : ℕ) where
  -- they are covered
  pub line_covered : (e : Entry) → LineCalm P MayAsk osts e → IsCovered e
  line_covered Fail c = absurd c
  line_covered (Stands slot r) c = stage_on r.stage c.stage
  line_covered e c = tt

  pub lines_covered : (es : List Entry) → AllCalm P MayAsk osts es → EntriesCovered es
  lines_covered [] c = tt
  lines_covered (e ∷ es) c = (line_covered e c.0, lines_covered es c.1)

  -- and they stand where such lines may
  sends_suit : (clients : ℕ) (to : Node) (m : Message) → SendCalm MayAsk osts to m → Suits MayAsk osts clients (Send to m)
  sends_suit clients (Target t) (message.Request r) c = c
  sends_suit clients (Target t) (message.Where who boot cookie) c = c
  sends_suit clients (Target t) (message.Size m) c = c
  sends_suit clients (Target t) (message.Join who boot) c = c
  sends_suit clients (Target t) (message.Replay r) c = c
  sends_suit clients (Target t) (message.Lock r) c = c
  sends_suit clients (Target t) (message.Word who boot replays locks seen) c = c
  sends_suit clients (Target t) (message.Cancel who boot cookie) c = tt
  sends_suit clients to m c = absurd c

  pub line_suits : (clients : ℕ) (e : Entry) → LineCalm P MayAsk osts e → Suits MayAsk osts clients e
  line_suits clients (Send to m) c = sends_suit clients to m c
  line_suits clients (Life who) c = c
  line_suits clients (Commit to batch) c = absurd c
  line_suits clients (Boot boot disk) c = absurd c
  line_suits clients (Close o) c = absurd c
  line_suits clients (Wishes who) c = absurd c
  line_suits clients (Evict who cause) c = absurd c
  line_suits clients (Joined who) c = absurd c
  line_suits clients e c = tt

  pub lines_suit : (clients : ℕ) (es : List Entry) → AllCalm P MayAsk osts es → Every (Suits MayAsk osts clients) es
  lines_suit clients es c = every_so (LineCalm P MayAsk osts) (Suits MayAsk osts clients) es (line_suits clients) c

  -- ---- calls

  asks_calm : (a : Asking) (o : Option Running) → AskingCalm a → CallCalm o → CallCalm (asks a o)
  asks_calm a None k c = tt
  asks_calm a (Some r) k c = record { stage = c.stage; asking = k; file = c.file; low = c.low }

  for_calm : (served : Option ℕ) (slot : ℕ) (a : Asking) (o : Option Running) → AskingCalm a → CallCalm o
      → CallCalm (asks_for served slot a o)
  for_calm None slot a o k c = c
  for_calm (Some s) slot a o k c = cond_both (nat_eq s slot) (asks a o) o CallCalm (λ t. asks_calm a o k c) (λ t. c)

  call_calm : (slot : ℕ) (o : Option Running) (e : Entry) → LineCalm P MayAsk osts e → CallCalm o → CallCalm (call_after slot o e)
  call_calm slot o (Begin s r) l c = cond_both (nat_eq s slot) (Some r) o CallCalm (λ t. l.0) (λ t. c)
  call_calm slot o (Stands s r) l c = cond_both (nat_eq s slot) (Some r) o CallCalm (λ t. l) (λ t. c)
  call_calm slot o (Queues t q) l c = for_calm q.slot slot Asked o tt c
  call_calm slot o (Heard t f r) l c = for_calm f.slot slot (Answered t r) o l c
  call_calm slot o (Told s at a w) l c = cond_both (nat_eq s slot) None o CallCalm (λ t. tt) (λ t. c)
  call_calm slot o e l c = c

  calls_calm : (slot : ℕ) (calls : List (Option Running)) (e : Entry) → LineCalm P MayAsk osts e → Every CallCalm calls
      → Every CallCalm (calls_from slot calls e)
  calls_calm slot [] e l c = tt
  calls_calm slot (o ∷ calls) e l c = (call_calm slot o e l c.0, calls_calm (suc slot) calls e l c.1)

  -- ---- handles

  handles_calm : (handles : List Bound) (e : Entry) → LineCalm P MayAsk osts e → Every BoundCalm handles
      → Every BoundCalm (handles_after handles e)
  handles_calm handles (Binds h f) l c = (l, c)
  handles_calm handles (Unbinds h) l c = every_filter BoundCalm (λ (b : Bound). not (nat_eq b.handle h)) handles c
  handles_calm handles (Life who) l c = tt
  handles_calm handles e l c = c

  -- ---- imports

  rest_calm : (queue : List Queued) → Every (λ (q : Queued). IsOrdered q.op) queue → Every (λ (q : Queued). IsOrdered q.op) (rest queue)
  rest_calm [] c = tt
  rest_calm (q ∷ queue) c = c.1

  -- one that is up again isn't heard to serve
  stands_calm : (s : Standing) → MayAsk → StandsCalm MayAsk (interrupted s)
  stands_calm Joining may = may
  stands_calm Recovering may = may
  stands_calm Serving may = may

  import_calm : (i : Import) (e : Entry) → LineCalm P MayAsk osts e → ImportCalm MayAsk i → ImportCalm MayAsk (import_after i e)
  import_calm i (Queues u q) l c = record {
    stands = c.stands;
    queue =
        every_more (λ (q : Queued). IsOrdered q.op) i.queue (q ∷ []) c.queue (l, tt);
    flights = c.flights;
  }
  import_calm i (Flies u f) l c = record {
    stands = c.stands;
    queue = rest_calm i.queue c.queue;
    flights =
        every_more (λ (f : Flight). IsOrdered f.op) i.flights (f ∷ []) c.flights (l, tt);
  }
  import_calm i (Heard u f r) l c =
      record {
        stands = c.stands;
        queue = c.queue;
        flights = every_filter (λ (f : Flight). IsOrdered f.op)
            (λ (g : Flight). not (nat_eq g.xid f.xid)) i.flights c.flights;
      }
  import_calm i (Life who) l c = record { stands = l; queue = tt; flights = tt }
  import_calm i (Knows u boot) l c = record { stands = stands_calm i.standing l; queue = c.queue; flights = c.flights }
  import_calm i (Serves u boot) l c = record { stands = tt; queue = c.queue; flights = c.flights }
  import_calm i e l c = record { stands = c.stands; queue = c.queue; flights = c.flights }

  imports_calm : (t : ℕ) (imports : List Import) (e : Entry) → LineCalm P MayAsk osts e → Every (ImportCalm MayAsk) imports
      → Every (ImportCalm MayAsk) (imports_from t imports e)
  imports_calm t [] e l c = tt
  imports_calm t (i ∷ imports) e l c = (
    cond_both (is_about t e) (import_after i e) i (ImportCalm MayAsk) (λ own. import_calm i e l c.0) (λ own. c.0),
    imports_calm (suc t) imports e l c.1,
  )

  imports_length : (t : ℕ) (imports : List Import) (e : Entry) → length (imports_from t imports e) ≡ length imports
  imports_length t [] e = refl
  imports_length t (i ∷ imports) e = ap suc (imports_length (suc t) imports e)

  -- ---- facts

  names_calm : (kind : Fid → Answer) → ((f : Fid) → AnswerCalm (kind f)) → (d : Fid) (path : List (List ℕ)) (locks : List Lock)
      → Every FactCalm (name_facts kind d path locks)
  names_calm kind is d [] locks = tt
  names_calm kind is d (n ∷ []) [] = tt
  names_calm kind is d (n ∷ []) (l ∷ locks) = (is l.resource.fid, tt)
  names_calm kind is d (n ∷ m ∷ names) [] = tt
  names_calm kind is d (n ∷ m ∷ names) (l ∷ locks) = (tt, names_calm kind is l.resource.fid (m ∷ names) locks)

  path_calm : (kind : Fid → Answer) → ((f : Fid) → AnswerCalm (kind f)) → (path : List (List ℕ)) (locks : List Lock)
      → Every FactCalm (names_taught kind path locks)
  path_calm kind is path locks =
      cond_both (is_one_for_each path locks) (name_facts kind (record { 0 = 1 }) path locks) [] (Every FactCalm)
      (λ t. names_calm kind is (record { 0 = 1 }) path locks) (λ t. tt)

  inode_calm : (facts : Lock → List Fact) → ((l : Lock) → Every FactCalm (facts l)) → (o : Option Lock)
      → Every FactCalm (inode_taught facts o)
  inode_calm facts is None = tt
  inode_calm facts is (Some l) = is l

  taught_calm : (o : Op) (a : Answer) (locks : List Lock) → AnswerCalm a → Every FactCalm (taught o a locks)
  taught_calm (op.Lookup path) (told.Dir fid) locks none = path_calm told.Dir (λ f. tt) path locks
  taught_calm (op.Lookup path) (told.File fid) locks none = path_calm told.File (λ f. tt) path locks
  taught_calm (op.Stat path) (told.DirStat fid mode) locks none =
      every_more FactCalm (names_taught told.Dir path locks) _ (path_calm told.Dir (λ f. tt) path locks)
      (inode_calm _ (λ l. (tt, tt)) (last_of locks))
  taught_calm (op.Stat path) (told.FileStat fid mode links layout) locks on =
      every_more FactCalm (names_taught told.File path locks) _ (path_calm told.File (λ f. tt) path locks)
      (inode_calm _ (λ l. (on, (on, tt))) (last_of locks))
  taught_calm (op.List path) (told.Names names) locks none =
      every_more FactCalm (names_taught told.Dir path locks) _ (path_calm told.Dir (λ f. tt) path locks)
      (inode_calm _ (λ l. (tt, tt)) (last_of locks))
  taught_calm (op.Layout path) (told.Layout layout) locks on =
      every_more FactCalm (names_taught told.File path locks) _ (path_calm told.File (λ f. tt) path locks)
      (inode_calm _ (λ l. (on, tt)) (last_of locks))
  taught_calm o a locks none = tt

  without_calm : (t : ℕ) (l : Lock) (facts : List Fact) → Every FactCalm facts → Every FactCalm (without_facts t l facts)
  without_calm zero l facts c = every_filter FactCalm (λ (f : Fact). not (nat_eq f.cookie.0 l.cookie.0)) facts c
  without_calm (suc t) l facts c = c

  facts_calm : (facts : List Fact) (e : Entry) → LineCalm P MayAsk osts e → Every FactCalm facts → Every FactCalm (facts_after facts e)
  facts_calm facts (Learns t o a locks) l c = every_more FactCalm (taught o a locks) facts (taught_calm o a locks l) c
  facts_calm facts (Drop t k) l c = without_calm t k facts c
  facts_calm facts (Life who) l c = tt
  facts_calm facts e l c = c

  -- ---- the client

  pub after_calm : (k : Client) (e : Entry) → Calm MayAsk osts k → LineCalm P MayAsk osts e → Calm MayAsk osts (after k e)
  after_calm k e c l =
      record {
        handles = handles_calm k.handles e l c.handles;
        calls = calls_calm 0 k.calls e l c.calls;
        imports = imports_calm 0 k.imports e l c.imports;
        targets = subst (λ (n : ℕ). n ≤ osts + 1) (sym (imports_length 0 k.imports e)) c.targets;
        facts = facts_calm k.facts e l c.facts;
      }

  pub turn_calm : (k : Client) (es : List Entry) → Calm MayAsk osts k → AllCalm P MayAsk osts es → Calm MayAsk osts (turn k es)
  turn_calm k [] c l = c
  turn_calm k (e ∷ es) c l = turn_calm (after k e) es (after_calm k e c l.0) l.1

  -- these lines, and then those of the client as they left it
  pub follow_calm : (es : List Entry) (next : Client → List Entry) (k : Client) → Calm MayAsk osts k → AllCalm P MayAsk osts es
      → ((j : Client) → Calm MayAsk osts j → AllCalm P MayAsk osts (next j)) → AllCalm P MayAsk osts (follow es next k)
  follow_calm es next k c l more = every_more (LineCalm P MayAsk osts) es (next (turn k es)) l (more (turn k es) (turn_calm k es c l))

-- a call on a slot
pub on_calm : (slot : ℕ) (calls : List (Option Running)) → Every CallCalm calls → CallCalm (call_on slot calls)
on_calm slot [] c = tt
on_calm zero (o ∷ calls) c = c.0
on_calm (suc slot) (o ∷ calls) c = on_calm slot calls c.1
