-- In a run that changes no bytes: where its calls stand, what they ask for, and how they are answered. A call is a read, a stat of a file,
-- a glimpse or a
-- flush, or on names; it waits for no lock, fetches no page and writes nothing back, and the locks that it uses are on whole objects.
use Rattle.std.proofs.Common.{◌≡◌, ℕ, zero, suc, ◌+◌, ◌<◌, true, List, [], ◌∷◌, Some, None, ◌⊎◌, inl, inr, ⊎_elim, refl, sym, subst, ap}
use Rattle.std.proofs.Common.{◌∙◌, arith}
use Rattle.std.specs.Prelude.{nat_eq}
use Rattle.std.proofs.lemmas.Bool.{cond_both}
use Rattle.lu_base.specs.declared.ids.At.{At}
use Rattle.lu_base.specs.declared.ids.Cookie.{Cookie}
use Rattle.lu_base.specs.declared.ids.Node.{Node}
use Rattle.lu_base.specs.declared.ids.Node.TheVariants.{Client, Target}
use Rattle.lu_base.specs.declared.ids.Stamp.{Stamp}
use Rattle.lu_base.specs.declared.ids.Who.{Who}
use Rattle.lu_base.specs.declared.ids.Xid.{Xid}
use Rattle.lu_base.specs.declared.locks.Lock.{Lock}
use Rattle.lu_base.specs.declared.locks.Mode.TheVariants.{PR}
use Rattle.lu_msg.specs.declared.answers.Answer.{Answer}
use Rattle.lu_msg.specs.declared.answers.Answer.TheVariants as told
use Rattle.lu_msg.specs.declared.calls.Call.{Call}
use Rattle.lu_msg.specs.declared.calls.Call.TheVariants as call
use Rattle.lu_msg.specs.declared.messages.GrantNotice.{GrantNotice}
use Rattle.lu_msg.specs.declared.messages.Message.TheVariants as message
use Rattle.lu_msg.specs.declared.messages.Reply.{Reply as ReplyTo}
use Rattle.lu_msg.specs.declared.operations.Op.{Op}
use Rattle.lu_msg.specs.declared.operations.Op.TheVariants as op
use Rattle.lu_held.specs.declared.locks.Use.{Use}
use Rattle.lu_held.specs.Locks.{reaches_end}
use Rattle.lu_spec_machine.specs.Fits.{answer_fits}
use Rattle.lu_spec_entries.specs.Carried.{Deed, Queued, Flight, Stats, Glimpses, Work, Stage, Plain, Bad, Looks, Enqueued, Waits, Came}
use Rattle.lu_spec_entries.specs.Carried.{Forgotten, Gets, Sizes, Running}
use Rattle.lu_spec_entries.specs.Words.{Entry, Begin, Heard, Told, Changes, WritesBack, Grant, Line, line}
use Rattle.lu_spec_entries.specs.Concerns.{concerns, only}
use Rattle.lu_spec_client.specs.Caches.{patch_at, patches_at, sizes_at, shown_at, held_at}
use Rattle.lu_spec_client.specs.States.{store_at}
use Rattle.lu_proof_lawful.specs.Covered.Calls.{call_at}
use Rattle.lu_proof_lawful.specs.Covered.Runs.{IsBare, ChangesNoBytes}
use Rattle.lu_proof_lawful.specs.Covered.Deeds.{whole}
use Rattle.lu_proof_lawful.specs.Covered.Heads.{Head}
use Rattle.lu_proof_lawful.specs.Covered.Imports.{queue_at}
use Rattle.lu_proof_lawful.proofs.Preconditions.Guards.{In, Was, JustHeard, Begins, IsGlimpse, ReadsOn, ChangesOn, used_in, LeftSize}
use Rattle.lu_proof_lawful.proofs.Preconditions.Guards.{SizesStand, LockStand, GetStand, StatStand, LockGranted, LockBrought, WaitStand}
use Rattle.lu_proof_lawful.proofs.Preconditions.Guards.{MarkStand, ForgotStand, LookStand, MovedStand, HasChange, FlushStand, Locked}
use Rattle.lu_proof_lawful.proofs.Preconditions.Guards.{HeldFor, StandsOk, EntryOk}
use Rattle.lu_proof_lawful.proofs.Preconditions.HeedMarks.{marks_of}
use Rattle.lu_proof_lawful.proofs.Preconditions.Grown.{Grown}
use Rattle.lu_proof_lawful.proofs.Preconditions.Lists.{self, turn}
use Rattle.lu_proof_lawful.proofs.Preconditions.Calls.{JustBegan, Came as CameFrom}
use Rattle.lu_proof_lawful.proofs.Preconditions.ClientLines.{IsNames}
use Rattle.lu_proof_lawful.proofs.Invariants.TargetGroups.{Flew}
use Rattle.lu_proof_lawful.proofs.Invariants.Lines.{flew_more}
use Rattle.lu_proof_lawful.proofs.Invariants.All.{holds}
use Rattle.lu_proof_lawful.proofs.Invariants.BareObjects.{IsBareOp, ToldSize, GotLock, OnObject, BareTarget}
use Rattle.lu_proof_lawful.proofs.Preconditions.Acts.{kind_names, bits_range}
use Rattle.lu_proof_lawful.proofs.Preconditions.LockKinds.{held_kind}
use Rattle.lu_proof_lawful.proofs.Preconditions.StoryGuards.{EntryOf}
use Rattle.lu_proof_lawful.proofs.Preconditions.Held.{held_in}
use Rattle.lu_proof_lawful.proofs.Preconditions.Only.{was_more}
use Rattle.lu_proof_lawful.specs.Covered.ClientStates.{life_of}
use Rattle.lu_spec_client.specs.Patches.{Patch, clean}
use Rattle.lu_spec_client.specs.Stripes.{object}
use Rattle.lu_base.specs.declared.locks.Resource.{Resource}
use Rattle.lu_held.specs.declared.locks.HeldLock.{HeldLock}
use Rattle.lu_spec_entries.specs.Carried.{Answered}
use Rattle.lu_proof_lawful.proofs.Invariants.BareObjects.{gave_read}
use Rattle.lu_proof_lawful.proofs.Invariants.BareLooks.{AllZero, IsEmpty, zero_empty, AllEnd, none_missing}

-- ---- where a call stands

-- the work of a stat of a file
pub record StatsWork (r : Running) (work : Work) : Type 0 where
  pub path : List (List ℕ)
  pub stats : r.call ≡ call.Stat path
  pub good : r.stage ≡ Bad → ⊥
  pub mode : ℕ
  pub links : ℕ
  pub kind : work.kind ≡ Stats mode links

abbrev pub BareWork : Running → Work → Type 0
BareWork r work = ReadsOn r work ⊎ StatsWork r work

-- of a glimpse
pub record SizesWork (r : Running) (work : Work) : Type 0 where
  pub handle : ℕ
  pub glimpses : IsGlimpse r handle
  pub sizes : List ℕ
  pub kind : work.kind ≡ Glimpses sizes

abbrev pub BareStage : Running → Stage → Type 0
BareStage r Plain = Unit {0}
BareStage r Bad = Unit {0}
BareStage r (Enqueued w) = BareWork r w
BareStage r (Came w lock) = BareWork r w
BareStage r (Sizes w) = SizesWork r w
BareStage r _ = ⊥

pub record BareRunning (r : Running) : Type 0 where
  pub call : (r.stage ≡ Bad → ⊥) → ChangesNoBytes r.call
  pub stage : BareStage r r.stage
  pub used : AllEnd (used_in r.stage)

-- ---- how it is answered

abbrev pub BareAnswer : Answer → Type 0
BareAnswer (told.Granted cookie extent size) = (extent ≡ whole) × (size ≡ 0)
BareAnswer (told.Waiting cookie) = ⊥
BareAnswer told.Lock = ⊥
BareAnswer (told.Size size) = size ≡ 0
BareAnswer _ = Unit {0}

-- ---- all that is so after each line

-- the newest line changes nothing, takes no change, and grants no lock that had waited
abbrev pub IsStill : List Line → Type 0
IsStill [] = Unit {0}
IsStill (l ∷ past) = elim l.entry [ Changes resource change ↦ ⊥ | WritesBack resource change ↦ ⊥ | Grant lock None ↦ ⊥ | _ ↦ Unit {0} ]

-- what is asked of a target in such a run
abbrev pub IsBareOf : ℕ → Op → Type 0
IsBareOf t o = IsBareOp o × (t ≡ 0 → IsNames o)

pub record BareSoFar (head : Head) (past : List Line) : Type 0 where
  pub calls : (c slot : ℕ) (r : Running) → call_at c slot past ≡ Some r → BareRunning r
  pub queues : (c t : ℕ) (q : Queued) → In q (queue_at c t past) → IsBareOf t q.op
  pub flew : (t : ℕ) (who : Who) (f : Flight) → Flew (only t past) who f → IsBareOf t f.op
  pub targets : (t : ℕ) → 0 < t → BareTarget head (only t past)
  pub marks : (c : ℕ) → marks_of c past ≡ []
  pub patches : (c : ℕ) → patches_at c past ≡ []
  pub sizes : (c : ℕ) → AllZero (sizes_at c past)
  pub shown : (c : ℕ) → shown_at c past ≡ []
  pub still : IsStill past
  pub sought : (from to : Node) (who : Who) (boot : ℕ) (cookie : Cookie) → Was past from to (message.Where who boot cookie) → ⊥
  pub given : (from to : Node) (notice : GrantNotice) → Was past from to (message.Grant notice) → ⊥
  pub asked : (from to : Node) (who : Who) (boot : ℕ) (cookie : Cookie) (for_who : Who) (xid : Xid)
      → Was past from to (message.Ask who boot cookie for_who xid) → ⊥

pub bare_empty : (head : Head) (past : List Line) (c : ℕ) → BareSoFar head past → IsEmpty (store_at c past)
bare_empty head past c s = zero_empty (store_at c past) (s.sizes c) (s.patches c)

-- ---- what is heard

names_answer : (o : Op) (a : Answer) → IsNames o → answer_fits o a ≡ true → BareAnswer a
names_answer o (told.Granted cookie extent size) n f = absurd (by o n f)
  where
    by : (o : Op) → IsNames o → answer_fits o (told.Granted cookie extent size) ≡ true → ⊥
    by (op.Enqueue resource mode asked) n f = n
    by o n f = cc
names_answer o (told.Waiting cookie) n f = by o n f
  where
    by : (o : Op) → IsNames o → answer_fits o (told.Waiting cookie) ≡ true → ⊥
    by (op.Enqueue resource mode asked) n f = n
    by o n f = cc
names_answer o told.Lock n f = by o n f
  where
    by : (o : Op) → IsNames o → answer_fits o told.Lock ≡ true → ⊥
    by (op.Size resource) n f = n
    by o n f = cc
names_answer o (told.Size size) n f = absurd (by o n f)
  where
    by : (o : Op) → IsNames o → answer_fits o (told.Size size) ≡ true → ⊥
    by (op.Size resource) n f = n
    by o n f = cc
names_answer o a n f = tt

-- what a target does that isn't that of the metadata
pub object_answer : (d : Deed) → OnObject d → BareAnswer d.reply.answer
object_answer d on = ⊎_elim (λ (k : ToldSize d). subst BareAnswer (sym k.answer) refl)
    (λ (k : GotLock d). subst BareAnswer (sym k.answer) (refl, refl)) on.how

-- a reply of a target, to a request that flew there
pub record HeardThere (past : List Line) (t : ℕ) (r : ReplyTo) : Type 0 where
  pub from : Node
  pub to : Node
  pub was : Was (only t past) from to (message.Reply r)
  pub who : Who
  pub flight : Flight
  pub flew : Flew (only t past) who flight
  pub fits : answer_fits flight.op r.answer ≡ true

there_more : (l : Line) (past : List Line) (t : ℕ) (r : ReplyTo) → HeardThere past t r → HeardThere (l ∷ past) t r
there_more l past t r h =
    record {
      from = h.from;
      to = h.to;
      was = cond_both (concerns t l.at.node l.entry) (l ∷ only t past) (only t past)
          (λ (p : List Line). Was p h.from h.to (message.Reply r)) (λ o. was_more l (only t past) h.from h.to (message.Reply r) h.was)
          (λ o. h.was);
      who = h.who;
      flight = h.flight;
      flew = cond_both (concerns t l.at.node l.entry) (l ∷ only t past) (only t past) (λ (p : List Line). Flew p h.who h.flight)
          (λ o. flew_more l (only t past) h.who h.flight h.flew) (λ o. h.flew);
      fits = h.fits;
    }

pub heard_there : (head : Head) (past : List Line) (at : At) (t : ℕ) (r : ReplyTo) → Grown head past → JustHeard past at t r
    → HeardThere past t r
heard_there head [] at t r g j = absurd j
heard_there head (l ∷ past) at t r g j = by l.at.node l.entry g.0.ok (g.0.of t) j (heard_there head past at t r g.1)
  where
    Goal : Node → Entry → Type 0
    Goal node e = HeardThere (line (turn l.at.stamp node) e ∷ past) t r

    by : (node : Node) (e : Entry) → EntryOk past (turn l.at.stamp node) node e
        → (concerns t node e ≡ true → EntryOf head (only t past) (turn l.at.stamp node) node e)
        → JustHeard (line (turn l.at.stamp node) e ∷ past) at t r
        → (JustHeard past at t r → HeardThere past t r) → Goal node e
    by (Client c) (Heard u f k) ok of j more =
        let heard = of (subst (λ (v : ℕ). nat_eq t v ≡ true) (sym j.1) (self t)) in
        there_more (line (turn l.at.stamp (Client c)) (Heard u f k)) past t r
        (record {
          from = Target heard.from;
          to = Client c;
          was = subst (λ (v : ReplyTo). Was (only t past) (Target heard.from) (Client c) (message.Reply v)) j.2 heard.was;
          who = life_of c (only t past);
          flight = f;
          flew = ((holds head past g.1).at t).numbers.flying (life_of c (only t past)) f heard.flying;
          fits = subst (λ (v : ReplyTo). answer_fits f.op v.answer ≡ true) j.2 heard.fits;
        })
    by (Target v) (Heard u f k) ok of j more = absurd ok
    by node (Told slot at given work) ok of j more = absurd j
    by node e ok of j more = there_more (line (turn l.at.stamp node) e) past t r (more j)

-- so it is such an answer
pub answer_there : (head : Head) (past : List Line) (t : ℕ) (r : ReplyTo) → Grown head past → BareSoFar head past → HeardThere past t r
    → BareAnswer r.answer
answer_there head past zero r g s h = names_answer h.flight.op r.answer ((s.flew 0 h.who h.flight h.flew).1 refl) h.fits
answer_there head past (suc t) r g s h = by h.to h.was
  where
    by : (to : Node) → Was (only (suc t) past) h.from to (message.Reply r) → BareAnswer r.answer
    by (Client c) was =
        let m = ((holds head past g).at (suc t)).done.sent h.from (Client c) (message.Reply r) was in
        subst (λ (v : ReplyTo). BareAnswer v.answer) (sym m.is)
        (object_answer m.deed ((s.targets (suc t) (omega arith)).deeds m.deed m.acted))
    by (Target u) was = absurd (((holds head past g).at (suc t)).done.sent h.from (Target u) (message.Reply r) was)

pub heard_bare : (head : Head) (past : List Line) (at : At) (t : ℕ) (r : ReplyTo) → Grown head past → BareSoFar head past
    → JustHeard past at t r → BareAnswer r.answer
heard_bare head past at t r g s j = answer_there head past t r g s (heard_there head past at t r g j)

-- ---- the locks that are held

-- all are for reading
pub held_read : (head : Head) (past : List Line) (c : ℕ) (h : HeldLock) → Grown head past → BareSoFar head past → In h (held_at c past)
    → h.lock.ask.mode ≡ PR
held_read head past c h g s i = by h.target.0 (held_in c past h i)
  where
    by : (t : ℕ) → In h (held_at c (only t past)) → h.lock.ask.mode ≡ PR
    by zero j = (kind_names h.lock (held_kind head 0 past g c h j)).0
    by (suc t) j = let k = ((holds head past g).at (suc t)).locks.held c h j
        in (gave_read head (only (suc t) past) k.deed h.lock (s.targets (suc t) (omega arith)) k.gave).0

-- one on a range is on the whole object
pub held_whole : (head : Head) (past : List Line) (c : ℕ) (w : Use) → Grown head past → BareSoFar head past → (k : Locked c past w)
    → (k.holding.lock.ask.mode ≡ PR) × (reaches_end k.holding.lock.ask.policy ≡ true)
held_whole head past c w g s k = by k.holding.target.0 refl
  where
    by : (t : ℕ) → k.holding.target.0 ≡ t → (k.holding.lock.ask.mode ≡ PR) × (reaches_end k.holding.lock.ask.policy ≡ true)
    by zero e = absurd (bits_range k.holding.lock.ask.policy (kind_names k.holding.lock
        (held_kind head 0 past g c k.holding (subst (λ (t : ℕ). In k.holding (held_at c (only t past))) e
        (held_in c past k.holding k.held)))).1 k.ranged)
    by (suc t) e =
        let i = subst (λ (u : ℕ). In k.holding (held_at c (only u past))) e (held_in c past k.holding k.held) in
        let h = ((holds head past g).at (suc t)).locks.held c k.holding i in
        let r = gave_read head (only (suc t) past) h.deed k.holding.lock (s.targets (suc t) (omega arith)) h.gave in
        (r.0, ap reaches_end r.1)

-- ---- a call, after one more line

reads_same : (q r : Running) (w : Work) → q.call ≡ r.call → q.file ≡ r.file → (r.stage ≡ Bad → ⊥) → ReadsOn q w → ReadsOn r w
reads_same q r w call file good k =
    record {
      read = record {
        handle = k.read.handle;
        offset = k.read.offset;
        count = k.read.count;
        reads = sym call ∙ k.read.reads;
        good = good;
        file = k.read.file;
        of_file = sym file ∙ k.read.of_file;
      };
      kind = k.kind;
      fid = k.fid;
      layout = k.layout;
    }

work_same : (q r : Running) (w : Work) → q.call ≡ r.call → q.file ≡ r.file → (r.stage ≡ Bad → ⊥) → BareWork q w → BareWork r w
work_same q r w call file good (inl k) = inl (reads_same q r w call file good k)
work_same q r w call file good (inr k) = inr (record {
  path = k.path;
  stats = sym call ∙ k.stats;
  good = good;
  mode = k.mode;
  links =
      k.links;
  kind = k.kind;
})

stage_same : (q r : Running) (stage : Stage) → q.call ≡ r.call → q.file ≡ r.file → r.stage ≡ stage → BareStage q stage → BareStage r stage
stage_same q r Plain call file is k = tt
stage_same q r Bad call file is k = tt
stage_same q r (Enqueued w) call file is k = work_same q r w call file (λ (e : r.stage ≡ Bad). let f : Enqueued w ≡ Bad = sym is ∙ e in cc)
    k
stage_same q r (Came w lock) call file is k = work_same q r w call file
    (λ (e : r.stage ≡ Bad). let f : Came w lock ≡ Bad = sym is ∙ e in cc) k
stage_same q r (Sizes w) call file is k = record { handle = k.handle; glimpses = sym call ∙ k.glimpses; sizes = k.sizes; kind = k.kind }
stage_same q r stage call file is k = absurd k

-- where it goes on
module _ (head : Head) (past : List Line) (now : At) (c slot : ℕ) (r : Running) (g : Grown head past) (s : BareSoFar head past)
    (ok : StandsOk past now c slot r) where
  abbrev pub q : Running
  q = ok.running

  k : BareRunning q
  k = s.calls c slot q ok.call

  -- it stood there before
  stood_at : (stage : Stage) → q.stage ≡ stage → BareStage q stage
  stood_at stage e = subst (BareStage q) e k.stage

  ends : AllEnd (used_in ok.stage)
  ends u i = ⊎_elim
      (λ (j : In u (used_in q.stage)). k.used u j)
      (λ (j : HeldFor c past q u). subst (λ (l : Lock). reaches_end l.ask.policy ≡ true) j.is
      (held_whole head past c u.want g s j.locked).1)
      (ok.uses u i)

  abbrev Goal : Type 0
  Goal = BareStage q ok.stage × ChangesNoBytes q.call

  to_stage : (stage : Stage) → ok.stage ≡ stage → BareStage q stage → BareStage q ok.stage
  to_stage stage e b = subst (BareStage q) (sym e) b

  to_call : (x : Call) → q.call ≡ x → ChangesNoBytes x → ChangesNoBytes q.call
  to_call x e b = subst ChangesNoBytes (sym e) b

  pub no_left : {sizes : List ℕ} → LeftSize past now q sizes → ⊥
  no_left h = ⊎_elim
      (λ (p : (q.stage ≡ Sizes h.work) × ((target : ℕ) × (reply : ReplyTo) × (q.asking ≡ Answered target reply)
      × JustHeard past now target reply × (reply.answer ≡ told.Lock))).
      subst BareAnswer p.1.4 (heard_bare head past now p.1.0 p.1.1 g s p.1.3))
      (λ (p : q.stage ≡ Looks h.work). stood_at (Looks h.work) p)
      h.stage

  pub no_change : (w : Work) → ChangesOn q w → ⊥
  no_change w (inl h) = subst ChangesNoBytes h.writes (k.call h.good)
  no_change w (inr h) = subst ChangesNoBytes h.cuts (k.call h.good)

  of_size : SizesStand past now q ok.stage ok.pins → Goal
  of_size h = ⊎_elim
      (λ (e : ok.stage ≡ Sizes h.work). (
        to_stage (Sizes h.work) e
            (record { handle = h.has.handle; glimpses = h.has.glimpses; sizes = h.sizes; kind = h.kind }),
        to_call (call.Glimpse h.has.handle) h.has.glimpses tt,
      ))
      (λ e. absurd (no_left e.1))
      h.is

  of_lock : LockStand past c q ok.stage → Goal
  of_lock h = ⊎_elim
      (λ (d : ReadsOn q h.work). (
        to_stage (Enqueued h.work) h.is (inl d),
        to_call (call.Read d.read.handle d.read.offset d.read.count) d.read.reads tt,
      ))
      (λ (d : ChangesOn q h.work). absurd (no_change h.work d))
      h.does

  of_stat : StatStand past now c q ok.stage ok.pins → Goal
  of_stat h = (
    to_stage (Enqueued h.work) h.is (inr (record {
      path = h.stat.path;
      stats = h.stat.stats;
      good = h.stat.good;
      mode = h.stat.mode;
      links =
          h.stat.links;
      kind = h.kind;
    })),
    to_call (call.Stat h.stat.path) h.stat.stats tt,
  )

  pub no_get : GetStand past c q ok.stage ok.pins → ⊥
  no_get h =
      let none = none_missing h.work.layout h.does.read.offset (h.does.read.offset + h.does.read.count) (store_at c past) h.work.used
      (bare_empty head past c s) (subst (λ (x : Stage). AllEnd (used_in x)) h.is ends) in
      let some = h.lacks in
      absurd (cc)

  pub no_flush : FlushStand past c q ok.stage ok.pins → ⊥
  no_flush h = by (subst (λ (ps : List (Resource × Patch)). HasChange (patch_at (object h.file.fid h.stripe) ps)) (s.patches c) h.dirty)
    where
      by : HasChange clean → ⊥
      by (inl e) = cc
      by (inr e) = cc

  -- it waits for no lock, nor for a page
  pub not_moved : WaitStand past now c q ok.stage ⊎ MarkStand past now q ok.stage ⊎ ForgotStand past now q ok.stage
      ⊎ LookStand past now q ok.stage → ⊥
  not_moved (inl h) = subst BareAnswer h.tells (heard_bare head past now h.answers.target h.answers.reply g s h.answers.heard)
  not_moved (inr (inl h)) = stood_at (Waits h.work h.target h.lock h.marked) h.before
  not_moved (inr (inr (inl h))) = stood_at (Waits h.work h.target h.lock h.marked) h.before
  not_moved (inr (inr (inr h))) = ⊎_elim (λ p. stood_at (Forgotten h.work) p.0) (λ p. stood_at (Gets h.work) p.0) h.from

  of_moved : MovedStand past now c q ok.stage → Goal
  of_moved (inl h) = ⊎_elim
      (λ (p : LockBrought past now q h.work h.lock). came (stood_at (Enqueued h.work) p.stage))
      (λ (p : LockGranted past now q h.work h.lock). absurd (stood_at (Waits h.work p.target p.waiting p.marked) p.stage))
      h.from
    where
      came : BareWork q h.work → Goal
      came w = (
        to_stage (Came h.work h.lock) h.is w,
        ⊎_elim (λ (d : ReadsOn q h.work). to_call (call.Read d.read.handle d.read.offset d.read.count) d.read.reads tt)
            (λ (d : StatsWork q h.work). to_call (call.Stat d.path) d.stats tt) w,
      )
  of_moved (inr h) = absurd (not_moved h)

  goal : Goal
  goal = by ok.how
    where
      by : SizesStand past now q ok.stage ok.pins ⊎ LockStand past c q ok.stage ⊎ StatStand past now c q ok.stage ok.pins
          ⊎ GetStand past c q ok.stage ok.pins ⊎ FlushStand past c q ok.stage ok.pins
          ⊎ ((ok.pins ≡ q.pins) × MovedStand past now c q ok.stage) → Goal
      by (inl h) = of_size h
      by (inr (inl h)) = of_lock h
      by (inr (inr (inl h))) = of_stat h
      by (inr (inr (inr (inl h)))) = absurd (no_get h)
      by (inr (inr (inr (inr (inl h))))) = absurd (no_flush h)
      by (inr (inr (inr (inr (inr h))))) = of_moved h.1

  pub stands_bare : BareRunning r
  stands_bare =
      subst BareRunning (sym ok.is)
      (record {
        call = λ n. goal.1;
        stage = stage_same q (record q { stage = ok.stage; pins = ok.pins }) ok.stage refl refl refl goal.0;
        used = ends;
      })

-- the same in each case
pub call_bare : (head : Head) (past : List Line) (stamp : Stamp) (node : Node) (e : Entry) (c slot : ℕ) (r : Running) → Grown head past
    → BareSoFar head past → IsBare e → CameFrom past (turn stamp node) node e c slot r → BareRunning r
call_bare head past stamp node e c slot r g s bare (inl same) = s.calls c slot r same
call_bare head past stamp node e c slot r g s bare (inr (inl b)) = record { call = calls; stage = stage b.begins; used = used b.begins }
  where
    begun : (x : Entry) → JustBegan (line (turn stamp node) x ∷ past) c slot r → IsBare x → (r.stage ≡ Bad → ⊥) → ChangesNoBytes r.call
    begun (Begin u running) j bare good = subst (λ (v : Running). (v.stage ≡ Bad → ⊥) → ChangesNoBytes v.call) j.2
        (λ n. ⊎_elim (λ (e : running.stage ≡ Bad). absurd (n e)) (λ (k : ChangesNoBytes running.call). k) bare) good
    begun x j bare good = absurd j

    calls : (r.stage ≡ Bad → ⊥) → ChangesNoBytes r.call
    calls good = begun e b.newest bare good

    stage : Begins c past r → BareStage r r.stage
    stage (inl p) = subst (BareStage r) (sym p.1) tt
    stage (inr p) = subst (BareStage r) (sym p.1) tt

    used : Begins c past r → AllEnd (used_in r.stage)
    used (inl p) = subst (λ (x : Stage). AllEnd (used_in x)) (sym p.1) (λ u i. absurd i)
    used (inr p) = subst (λ (x : Stage). AllEnd (used_in x)) (sym p.1) (λ u i. absurd i)
call_bare head past stamp node e c slot r g s bare (inr (inr (inl t))) =
    let k = s.calls c slot t.before t.call in
    record {
      call = λ good. subst ChangesNoBytes t.same (k.call (λ b. good (sym t.stage ∙ b)));
      stage = stage_same t.before r r.stage t.same t.file refl (subst (BareStage t.before) t.stage k.stage);
      used = subst (λ (x : Stage). AllEnd (used_in x)) t.stage k.used;
    }
call_bare head past stamp node e c slot r g s bare (inr (inr (inr d))) = stands_bare head past (turn stamp node) c slot r g s d.stands
