-- Each size that a glimpse has, line by line, the object measures over one of the cuts since the call began; or a life said so that was
-- gone.
use Rattle.std.proofs.Common.{◌≡◌, ℕ, suc, ◌+◌, Bool, true, false, List, [], ◌∷◌, ◌++◌, length, Option, Some, None, ◌⊎◌, inl, inr, ⊎_elim}
use Rattle.std.proofs.Common.{refl, sym, subst, ap, ◌∙◌, arith}
use Rattle.std.specs.Prelude.{nat_eq, ◌||◌, if◌then◌else◌}
use Rattle.std.proofs.lemmas.Bool.{cond_both, eqb-true}
use Rattle.lu_base.specs.declared.ids.At.{At}
use Rattle.lu_base.specs.declared.ids.Fid.{Fid}
use Rattle.lu_base.specs.declared.ids.Node.{Node}
use Rattle.lu_base.specs.declared.ids.Node.TheVariants.{Client, Target}
use Rattle.lu_base.specs.declared.ids.Who.{Who}
use Rattle.lu_base.specs.declared.locks.Resource.{Resource}
use Rattle.lu_msg.specs.declared.answers.Answer.TheVariants as told
use Rattle.lu_msg.specs.declared.messages.Reply.{Reply as ReplyTo}
use Rattle.lu_held.specs.declared.locks.Use.{Use}
use Rattle.lu_trace.specs.declared.entries.Entry.{Entry as PrintedEntry}
use Rattle.lu_spec_entries.specs.Carried.{Deed, Flight, HandleFile, Asked, Answered, Narrow, Wide, Writes, Cuts, Stats, Glimpses, Stage}
use Rattle.lu_spec_entries.specs.Carried.{Plain, Bad, Enqueued, Gets, Sizes, Work, Running}
use Rattle.lu_spec_entries.specs.Words.{Entry, Stands, Queues, Heard, Line, line, is_client}
use Rattle.lu_spec_entries.specs.Concerns.{only}
use Rattle.lu_spec_entries.specs.Printed.{printed_entry, printed}
use Rattle.lu_spec_entries.specs.Sent.{count_sent}
use Rattle.lu_spec_client.specs.Wants.{wants_of}
use Rattle.lu_proof_lawful.specs.Covered.Calls.{asks, asks_for, call_at, life_at}
use Rattle.lu_proof_lawful.specs.Covered.ClientStates.{life_of}
use Rattle.lu_proof_lawful.specs.Covered.Heads.{Head}
use Rattle.lu_proof_lawful.specs.Covered.Imports.{flights_at}
use Rattle.lu_spec_laws.specs.Words.Lives.{is_gone, ends_life}
use Rattle.lu_proof_lawful.proofs.Preconditions.Guards.{In, HeardAs, EntryOk, Begins, work_in, ReadsOn, ChangesOn, SizesStand, LockStand}
use Rattle.lu_proof_lawful.proofs.Preconditions.Guards.{StatStand, GetStand, FlushStand, MovedStand, LeftSize, LockBrought, LockGranted}
use Rattle.lu_proof_lawful.proofs.Preconditions.Guards.{StandsOk, IsQueuedFor, OwesStood, Owes}
use Rattle.lu_proof_lawful.proofs.Preconditions.Calls.{IsNoStand, kept_cases}
use Rattle.lu_proof_lawful.proofs.Preconditions.ClientLines.{some_is}
use Rattle.lu_proof_lawful.proofs.Preconditions.Heeds.{IsOwed, none_owed}
use Rattle.lu_proof_lawful.proofs.Preconditions.StoryGuards.{HeardOk}
use Rattle.lu_proof_lawful.proofs.Preconditions.Lists.{self, own_self}
use Rattle.lu_proof_lawful.proofs.Preconditions.Parts.{flights_now}
use Rattle.lu_proof_lawful.proofs.Invariants.All.{holds}
use Rattle.lu_proof_lawful.proofs.Preconditions.Asks.{AsksFor, OfFirst, sizes_errand}
use Rattle.lu_proof_lawful.proofs.Preconditions.Calls.{Began, Touched, Touches, Kept}
use Rattle.lu_proof_lawful.proofs.Preconditions.Endings.{reply_ends_none}
use Rattle.lu_proof_lawful.proofs.Invariants.Groups.{turn, CallOf, Upto, Replied, Holds}
use Rattle.lu_proof_lawful.proofs.Invariants.TargetGroups.{Acted}
use Rattle.lu_proof_lawful.proofs.Invariants.Replies.{call_lives}
use Rattle.lu_proof_lawful.proofs.Refinement.ClosedCommits.{line_is}
use Rattle.lu_proof_lawful.proofs.Laws.GlimpseCuts.{Known, known_more, from_more}
use Rattle.lu_proof_lawful.proofs.Laws.GlimpseRun.{Run, before}
use Rattle.lu_proof_lawful.proofs.Laws.GlimpseTold.{HoldersSaid, TargetsTold, holders_said, targets_told}
use Rattle.lu_proof_lawful.proofs.Laws.GlimpseWants.{IsWhole, ObjectsFrom, wants_whole, left_whole, AllKnown, AllFrom, JustStood, stood_is}
use Rattle.lu_proof_lawful.proofs.Laws.GlimpseWants.{GoodWork, CallsSized, has_known}
use Rattle.lu_proof_lawful.proofs.Laws.Untold.{IsPart, settled}

-- ---- whose life isn't gone now wasn't gone before

pub stays_before : (l : Line) (past : List Line) (who : Who) → is_gone (printed (l ∷ past)) who ≡ false → is_gone (printed past) who ≡ false
stays_before l past who = by (printed_entry (count_sent past + 1) l.entry)
  where
    right : (a b : Bool) → (a || b) ≡ false → b ≡ false
    right true b e = absurd (cc)
    right false b e = e

    by : (o : Option PrintedEntry) → is_gone (elim o [ None ↦ printed past | Some e ↦ record { at = l.at; entry = e } ∷ printed past ]) who
        ≡ false → is_gone (printed past) who ≡ false
    by None e = e
    by (Some x) e = right (ends_life who (printed past) (record { at = l.at; entry = x })) (is_gone (printed past) who) e

-- ---- what was known lasts

all_more : (head : Head) (l : Line) (past : List Line) (c slot : ℕ) (r : Running) (f : Fid) (i : ℕ) (ns : List ℕ) → Run head (l ∷ past)
    → call_at c slot past ≡ Some r → AllKnown head.osts past c slot f i ns → AllKnown head.osts (l ∷ past) c slot f i ns
all_more head l past c slot r f i [] y is k = tt
all_more head l past c slot r f i (n ∷ ns) y is k = (
  known_more head l past c slot r f i n y.grown.0 is k.0,
  all_more head l past c slot r f (suc i) ns y is k.1,
)

all_now : (head : Head) (l : Line) (past : List Line) (c slot : ℕ) (r : Running) (f : Fid) (i : ℕ) (ns : List ℕ) → Run head (l ∷ past)
    → call_at c slot past ≡ Some r → AllFrom head.osts past l.at c slot f i ns → AllKnown head.osts (l ∷ past) c slot f i ns
all_now head l past c slot r f i [] y is k = tt
all_now head l past c slot r f i (n ∷ ns) y is k = (
  from_more head l past c slot r f i n y.grown.0 is k.0,
  all_now head l past c slot r f (suc i) ns y is k.1,
)

-- ---- one line

module _ (head : Head) (l : Line) (past : List Line) (y : Run head (l ∷ past)) (calls : CallsSized head past)
    (tells : TargetsTold head (l ∷ past)) (c slot : ℕ) (r : Running) (is : call_at c slot (l ∷ past) ≡ Some r)
    (stays : is_gone (printed (l ∷ past)) (life_at c (l ∷ past)) ≡ false) (file : HandleFile) (w : Work) (sizes : List ℕ)
    (of_file : r.file ≡ Some file) (working : work_in r.stage ≡ Some w) (kind : w.kind ≡ Glimpses sizes) where
  abbrev Good : Type 0
  Good = GoodWork head.osts (l ∷ past) c slot r file w sizes

  stayed : is_gone (printed past) (life_at c past) ≡ false
  stayed = stays_before l past (life_at c past) (ap (is_gone (printed (l ∷ past)))
      (sym (call_lives past l.at.stamp l.at.node l.entry y.grown.0.ok c slot r is)) ∙ stays)

  -- of a call that stood there before, on the same work
  had : (q : Running) → call_at c slot past ≡ Some q → q.file ≡ r.file → work_in q.stage ≡ Some w
      → GoodWork head.osts past c slot q file w sizes
  had q k f s = calls c slot q k stayed file w sizes (f ∙ of_file) s kind

  -- and that is answered no size by this line
  lasts : (q : Running) → call_at c slot past ≡ Some q → q.file ≡ r.file → work_in q.stage ≡ Some w
      → ((JustStood (l ∷ past) c slot → ⊥) → (t : ℕ) (reply : ReplyTo) (n : ℕ) → r.asking ≡ Answered t reply → r.stage ≡ Sizes w
      → reply.answer ≡ told.Size n → Known head.osts (l ∷ past) c slot file.fid (length sizes) n) → Good
  lasts q k f s answer =
      let old = had q k f s in
      record {
        known = all_more head l past c slot q file.fid 0 sizes y k old.known;
        passed = old.passed;
        all = old.all;
        each = old.each;
        answer = answer;
      }

  -- ---- it stays where it stood

  -- a request that is queued for it would show
  queued : JustStood past c slot → (w : Work) → r.stage ≡ Sizes w → call_at c slot past ≡ Some r → (t : ℕ) (reply : ReplyTo) → r.asking
      ≡ Answered t reply → ⊥
  queued j w stage k t reply asking = by past j k y.grown.0.owes
    where
      asks_now : l.at.node ≡ Client c → (e : Entry) → l.entry ≡ e → IsQueuedFor slot e → ⊥
      asks_now own (Queues u g) entry for_it =
          let old = call_at c slot past in
          let here : call_at c slot (line l.at (Queues u g) ∷ past) ≡ Some (record r { asking = Asked }) =
          ap (λ (v : Node). if is_client c v then asks_for g.slot slot Asked (call_at c slot past) else call_at c slot past) own
          ∙ ap (λ (b : Bool). if b then asks_for g.slot slot Asked (call_at c slot past) else call_at c slot past) (self c)
          ∙ ap (λ (o : Option ℕ). asks_for o slot Asked (call_at c slot past)) for_it
          ∙ ap (λ (b : Bool). if b then asks Asked (call_at c slot past) else call_at c slot past) (self slot)
          ∙ ap (asks Asked) k in
          let there : call_at c slot (line l.at (Queues u g) ∷ past) ≡ Some r =
          ap (λ (x : Entry). call_at c slot (line l.at x ∷ past)) (sym entry) ∙ is in
          let both : Some (record r { asking = Asked }) ≡ Some r = sym here ∙ there in
          let one : record r { asking = Asked } ≡ r = some_is (record r { asking = Asked }) r both in
          let off : Asked ≡ Answered t reply = ap (λ (v : Running). v.asking) one ∙ asking in
          absurd (cc)
      asks_now own e entry for_it = for_it

      by : (p : List Line) → JustStood p c slot → call_at c slot p ≡ Some r → Owes p l.at l.entry → ⊥
      by [] j k o = j
      by (x ∷ p) j k o = of x.entry j k o
        where
          of : (e : Entry) → JustStood (line x.at e ∷ p) c slot → call_at c slot (line x.at e ∷ p) ≡ Some r
              → Owes (line x.at e ∷ p) l.at l.entry → ⊥
          of (Stands s running) (mine, at_slot) k o =
              let one : running ≡ r = some_is running r (sym (stood_is x.at c s slot running p mine at_slot) ∙ k) in
              let owes : (x.at ≡ l.at) × IsQueuedFor s l.entry =
              subst (λ (v : Stage). OwesStood (x.at ≡ l.at) s v (Owes p l.at l.entry) l.entry)
              (ap (λ (v : Running). v.stage) one ∙ stage) o in
              asks_now (ap (λ (v : At). v.node) (sym owes.0) ∙ mine) l.entry refl (subst (λ (v : ℕ). IsQueuedFor v l.entry) at_slot owes.1)
          of e j k o = j

  same : call_at c slot past ≡ Some r → Good
  same k = lasts r k refl working (λ off t reply n asking stage tells_it.
      known_more head l past c slot r file.fid (length sizes) n y.grown.0 k
      ((had r k refl working).answer (λ j. queued j w stage k t reply asking) t reply n asking stage tells_it))

  -- ---- it began, or was touched

  begun : Began past l.at l.entry c slot r → Good
  begun b = absurd (by b.begins)
    where
      none : (s : Stage) → r.stage ≡ s → work_in s ≡ None → ⊥
      none s e n = let q : None ≡ Some w = sym n ∙ ap work_in (sym e) ∙ working in cc

      by : Begins c past r → ⊥
      by (inl k) = none Plain k.1 refl
      by (inr k) = none Bad k.1 refl

  -- the reply that it hears is to how long the first of the objects that are left is
  heard : (q : Running) (u : ℕ) (f : Flight) (k : ReplyTo) → l.at.node ≡ Client c → l.entry ≡ Heard u f k → f.slot ≡ Some slot
      → call_at c slot past ≡ Some q → q.file ≡ r.file → q.stage ≡ r.stage → (n : ℕ) → r.asking ≡ Answered u k → r.stage ≡ Sizes w
      → k.answer ≡ told.Size n
      → Known head.osts (l ∷ past) c slot file.fid (length sizes) n
  heard q u f k own entry for_it call same_file same_stage n asking stage tells_it =
      subst (λ (v : Resource). Known head.osts (l ∷ past) c slot v.fid v.stripe n) whole.on
      (tells u a.0 n first.wanted.resource a.1 (sym a.5 ∙ first.of_op) (ap (λ (v : ReplyTo). v.answer) (sym a.2) ∙ tells_it) c slot r is
      (subst (λ (v : At). Upto r.at v) (ap (λ (v : ReplyTo). v.at) a.2) replied.since))
    where
      here : l ≡ line (turn l.at.stamp (Client c)) (Heard u f k)
      here = line_is l (Client c) (Heard u f k) own entry

      z : Run head (line (turn l.at.stamp (Client c)) (Heard u f k) ∷ past)
      z = subst (λ (x : Line). Run head (x ∷ past)) here y

      ok : HeardOk (only u past) c f k
      ok = z.grown.0.of u (self u)

      flying : In f (flights_at c u past)
      flying = subst (λ (fs : List Flight). In f fs) (sym (flights_now head c u past z.grown.1)) ok.flying

      calls_it : CallOf past c u (Some slot) f.op
      calls_it = subst (λ (o : Option ℕ). CallOf past c u o f.op) for_it
          ((holds head past z.grown.1).asks.fly_calls c u f (reply_ends_none head past (turn l.at.stamp (Client c)) (Target u) k c z.grown.1
          z.grown.0.ok.1) flying)

      one : calls_it.0 ≡ q
      one = some_is calls_it.0 q (sym calls_it.1 ∙ call)

      first : OfFirst w u f.op
      first = by calls_it.3
        where
          there : calls_it.0.stage ≡ Sizes w
          there = ap (λ (v : Running). v.stage) one ∙ same_stage ∙ stage

          by : AsksFor calls_it.0 u f.op → OfFirst w u f.op
          by (inl e) = sizes_errand calls_it.0 w u f.op there e
          by (inr g) = absurd (let e : Gets g.work ≡ Sizes w = sym g.stage ∙ there in cc)

      good : GoodWork head.osts past c slot q file w sizes
      good = had q call same_file (ap work_in same_stage ∙ working)

      whole : IsWhole file.fid (length sizes) first.wanted
      whole = (subst (λ (us : List Use). ObjectsFrom file.fid (length sizes) us) first.first
          (left_whole file.fid 0 (length sizes) good.passed w.left
          (subst (λ (us : List Use). ObjectsFrom file.fid 0 us) good.all (wants_whole file.layout file.fid))
          (let n = good.each in omega (arith, n)))).0

      later : Holds head (l ∷ past)
      later = holds head (l ∷ past) y.grown

      who : Who
      who = life_of c (only u past)

      was : HeardAs (only u (l ∷ past)) who f k
      was =
          subst (λ (x : Line). HeardAs (only u (x ∷ past)) who f k) (sym here)
          (subst (λ (p : List Line). HeardAs p who f k) (sym (ap
          (λ (b : Bool). if b then line (turn l.at.stamp (Client c)) (Heard u f k) ∷ only u past else only u past) (self u)))
          (inl (own_self (only u past) c, refl, refl)))

      a : (d : Deed) × Acted (only u (l ∷ past)) d × (k ≡ record d.reply { boot = k.boot; committed = k.committed }) × (k.who ≡ who)
          × (f.xid ≡ d.reply.xid.0) × (f.op ≡ d.op) × (f.tag ≡ d.tag)
      a = (later.at u).done.answered who f k was

      replied : Replied (l ∷ past) c r u k
      replied = later.replies c slot u r k is asking

  touched : Touched past l.at.node l.entry c slot r → Good
  touched q = lasts q.before q.call q.file (ap work_in q.stage ∙ working)
      (λ off t reply n asking stage tells_it. by l.entry refl q.asking t reply n asking stage tells_it)
    where
      by : (e : Entry) → l.entry ≡ e → Touches l.at.node e c slot r.asking → (t : ℕ) (reply : ReplyTo) (n : ℕ) → r.asking ≡ Answered t reply
          → r.stage ≡ Sizes w → reply.answer ≡ told.Size n → Known head.osts (l ∷ past) c slot file.fid (length sizes) n
      by (Queues u g) entry asks t reply n asking stage tells_it = absurd (let z : Asked ≡ Answered t reply = sym asks ∙ asking in cc)
      by (Heard u f k) entry (own, for_it, asks) t reply n asking stage tells_it =
          let z : Answered u k ≡ Answered t reply = sym asks ∙ asking in
          let reply_is : k ≡ reply = cc in
          heard q.before u f k own entry for_it q.call q.file q.stage n asks stage (ap (λ (v : ReplyTo). v.answer) reply_is ∙ tells_it)
      by e entry asks t reply n asking stage tells_it = absurd asks

  kept : Kept past l.at l.at.node l.entry c slot r → Good
  kept (inl k) = same k
  kept (inr (inl k)) = begun k
  kept (inr (inr k)) = touched k

  -- ---- it goes on

  stands : l.at.node ≡ Client c → l.entry ≡ Stands slot r → StandsOk past l.at c slot r → Good
  stands own entry ok = by ok.how
    where
      just : JustStood (l ∷ past) c slot
      just = subst (λ (e : Entry). JustStood (line l.at e ∷ past) c slot) (sym entry) (own, refl)

      file_same : ok.running.file ≡ r.file
      file_same = ap (λ (v : Running). v.file) (sym ok.is)

      -- on the same work
      moved : work_in ok.running.stage ≡ Some w → Good
      moved s = lasts ok.running ok.call file_same s (λ off t reply n asking stage tells_it. absurd (off just))

      work_is : (v : Work) → work_in ok.stage ≡ Some v → v ≡ w
      work_is v e = some_is v w (sym e ∙ ap (λ (x : Running). work_in x.stage) (sym ok.is) ∙ working)

      -- on work of another kind
      other : (v : Work) → work_in ok.stage ≡ Some v → (v.kind ≡ Glimpses sizes → ⊥) → Good
      other v e off = absurd (off (ap (λ (x : Work). x.kind) (work_is v e) ∙ kind))

      reads : (v : Work) → ReadsOn ok.running v → v.kind ≡ Glimpses sizes → ⊥
      reads v on e = either on.kind
        where
          either : (v.kind ≡ Narrow on.read.offset on.read.count) ⊎ (v.kind ≡ Wide on.read.offset on.read.count) → ⊥
          either (inl q) = absurd (let z : Narrow on.read.offset on.read.count ≡ Glimpses sizes = sym q ∙ e in cc)
          either (inr q) = absurd (let z : Wide on.read.offset on.read.count ≡ Glimpses sizes = sym q ∙ e in cc)

      changes : (v : Work) → ChangesOn ok.running v → v.kind ≡ Glimpses sizes → ⊥
      changes v (inl on) e = absurd (let z : Writes on.offset on.bytes ≡ Glimpses sizes = sym on.kind ∙ e in cc)
      changes v (inr on) e = absurd (let z : Cuts on.size ≡ Glimpses sizes = sym on.kind ∙ e in cc)

      sizes_stand : SizesStand past l.at ok.running ok.stage ok.pins → Good
      sizes_stand s =
          let stage : work_in ok.stage ≡ Some s.work = ⊎_elim (λ (e : ok.stage ≡ Sizes s.work). ap work_in e)
          (λ (e : (ok.stage ≡ Enqueued s.work) × LeftSize past l.at ok.running s.sizes). ap work_in e.0) s.is in
          let same_work = work_is s.work stage in
          let kinds : Glimpses s.sizes ≡ Glimpses sizes = sym s.kind ∙ ap (λ (v : Work). v.kind) same_work ∙ kind in
          let same_sizes : s.sizes ≡ sizes = cc in
          let same_one : s.has.file ≡ file = some_is s.has.file file (sym s.has.of_file ∙ file_same ∙ of_file) in
          let still = settled head past l.at l.entry y.heeds y.grown.0 y.grown.1 (λ p. subst IsPart entry p) in
          let owed = none_owed c past l (y.heeds.0 c) (λ o. subst IsOwed entry o) in
          let from = has_known head l past c slot y own still owed stayed ok.running ok.call calls (λ o. subst (IsQueuedFor slot) entry o)
          s.sizes s.before s.work.left s.has in
          record {
            known = subst (λ (f : HandleFile). AllKnown head.osts (l ∷ past) c slot f.fid 0 sizes) same_one
                (subst (λ (ns : List ℕ). AllKnown head.osts (l ∷ past) c slot s.has.file.fid 0 ns) same_sizes
                (all_now head l past c slot ok.running s.has.file.fid 0 s.sizes y ok.call from));
            passed = s.before;
            all = ap (λ (f : HandleFile). wants_of f.layout f.fid (Glimpses [])) (sym same_one) ∙ s.has.all
                ∙ ap (λ (v : Work). s.before ++ v.left) same_work;
            each = s.has.each ∙ ap length same_sizes;
            answer = λ off t reply n asking stage tells_it. absurd (off just);
          }

      moves : MovedStand past l.at c ok.running ok.stage → Good
      moves (inl s) = moved (came s.from ∙ ap (λ (v : Work). Some v) (work_is s.work (ap work_in s.is)))
        where
          came : LockBrought past l.at ok.running s.work s.lock ⊎ LockGranted past l.at ok.running s.work s.lock → work_in ok.running.stage
              ≡ Some s.work
          came (inl b) = ap work_in b.stage
          came (inr b) = ap work_in b.stage
      moves (inr (inl s)) = moved (ap work_in s.before ∙ ap (λ (v : Work). Some v) (work_is s.work (ap work_in s.is)))
      moves (inr (inr (inl s))) = moved (ap work_in s.before ∙ ap (λ (v : Work). Some v) (work_is s.work (ap work_in s.is)))
      moves (inr (inr (inr (inl s)))) = moved (ap work_in s.before ∙ ap (λ (v : Work). Some v) (work_is s.work (ap work_in s.is)))
      moves (inr (inr (inr (inr s)))) = moved (⊎_elim (λ k. ap work_in k.0) (λ k. ap work_in k.0) s.from
          ∙ ap (λ (v : Work). Some v) (work_is s.work (ap work_in s.is)))

      by : SizesStand past l.at ok.running ok.stage ok.pins
          ⊎ LockStand past c ok.running ok.stage
          ⊎ StatStand past l.at c ok.running ok.stage ok.pins
          ⊎ GetStand past c ok.running ok.stage ok.pins
          ⊎ FlushStand past c ok.running ok.stage ok.pins
          ⊎ ((ok.pins ≡ ok.running.pins) × MovedStand past l.at c ok.running ok.stage)
          → Good
      by (inl s) = sizes_stand s
      by (inr (inl s)) = other s.work (ap work_in s.is) (λ e. ⊎_elim (λ (on : ReadsOn ok.running s.work). reads s.work on e)
          (λ (on : ChangesOn ok.running s.work). changes s.work on e) s.does)
      by (inr (inr (inl s))) = other s.work (ap work_in s.is) (λ e. absurd
          (let z : Stats s.stat.mode s.stat.links ≡ Glimpses sizes = sym s.kind ∙ e in cc))
      by (inr (inr (inr (inl s)))) = other s.work (ap work_in s.is) (λ e. reads s.work s.does e)
      by (inr (inr (inr (inr (inl s))))) = absurd (let q : None ≡ Some w = sym (ap work_in s.is)
          ∙ ap (λ (x : Running). work_in x.stage) (sym ok.is) ∙ working in cc)
      by (inr (inr (inr (inr (inr s))))) = moves s.1

  good_now : Good
  good_now = by l.at.node l.entry refl refl y.grown.0.ok is
    where
      by : (node : Node) (e : Entry) → l.at.node ≡ node → l.entry ≡ e → EntryOk past (turn l.at.stamp node) node e
          → call_at c slot (line (turn l.at.stamp node) e ∷ past) ≡ Some r → Good
      by (Client d) (Stands s running) at_node entry ok =
          cond_both (nat_eq c d) (if nat_eq s slot then Some running else call_at c slot past) (call_at c slot past)
          (λ v. v ≡ Some r → Good)
          (λ t. cond_both (nat_eq s slot) (Some running) (call_at c slot past) (λ v. v ≡ Some r → Good)
          (λ u e.
          let one : running ≡ r = some_is running r e in
          let own : l.at.node ≡ Client c = at_node ∙ ap Client (sym (eqb-true c d t)) in
          let at_is : turn l.at.stamp (Client d) ≡ l.at = ap (turn l.at.stamp) (sym at_node) in
          stands own (entry ∙ ap (λ (v : ℕ). Stands v running) (eqb-true s slot u) ∙ ap (Stands slot) one)
          (subst (λ (v : At). StandsOk past v c slot r) at_is
          (subst (λ (v : ℕ). StandsOk past (turn l.at.stamp (Client d)) v slot r) (sym (eqb-true c d t))
          (subst (λ (v : ℕ). StandsOk past (turn l.at.stamp (Client d)) d v r) (eqb-true s slot u)
          (subst (λ (v : Running). StandsOk past (turn l.at.stamp (Client d)) d s v) one ok)))))
          (λ u e. same e))
          (λ t e. same e)
      by (Target t) (Stands s running) at_node entry ok = absurd ok
      by node e at_node entry ok = λ k. kept (kept_cases past l.at.stamp l.at.node l.entry y.grown.0.ok (subst IsNoStand (sym entry) tt) c
          slot r is)

-- ---- all lines

pub record Sized (head : Head) (past : List Line) : Type 0 where
  pub said : HoldersSaid head past
  pub tells : TargetsTold head past
  pub calls : CallsSized head past

pub all_sized : (head : Head) (past : List Line) → Run head past → Sized head past
all_sized head [] y = record {
  said = λ t from m n f q was sized flew xid of_op c slot r is up. absurd was;
  tells =
      λ t d n q acted of_op answer c slot r is up. absurd acted;
  calls = λ c slot r is. absurd (let z : None ≡ Some r = is in cc);
}
all_sized head (l ∷ past) y =
    let old = all_sized head past (before head l past y) in
    let said = holders_said head l past y old.said in
    let tells = targets_told head l past y said old.tells in
    record {
      said = said;
      tells = tells;
      calls = λ c slot r is stays file w sizes of_file working kind. good_now head l past y old.calls
          tells c slot r is stays file w sizes of_file working kind;
    }
