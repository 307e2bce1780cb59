-- What the guards say of a client's line is in a run that changes no bytes what `BareGuards` says: how calls begin, ask, go on and are
-- told.
use Rattle.std.proofs.Common.{◌≡◌, ℕ, zero, suc, ◌+◌, true, List, [], ◌∷◌, ◌++◌, Option, Some, ◌⊎◌, inl, inr, ⊎_elim, refl, sym, subst, ap}
use Rattle.std.proofs.Common.{◌∙◌}
use Rattle.std.specs.Prelude.{length, drop, replicate, min, ◌-◌}
use Rattle.lu_base.specs.declared.ids.At.{At}
use Rattle.lu_base.specs.declared.ids.Fid.{Fid}
use Rattle.lu_base.specs.declared.ids.Node.{Node}
use Rattle.lu_base.specs.declared.ids.Node.TheVariants.{Client}
use Rattle.lu_base.specs.declared.locks.Extent.{Extent}
use Rattle.lu_base.specs.declared.locks.Lock.{Lock}
use Rattle.lu_base.specs.declared.locks.Mode.{Mode}
use Rattle.lu_base.specs.declared.locks.Mode.TheVariants.{PR, PW}
use Rattle.lu_base.specs.declared.locks.Policy.{Policy}
use Rattle.lu_base.specs.declared.locks.Policy.TheVariants.{Range}
use Rattle.lu_layout.specs.Raid0.{Raid0}
use Rattle.lu_msg.specs.declared.answers.Answer.{Answer}
use Rattle.lu_msg.specs.declared.answers.Answer.TheVariants as answer
use Rattle.lu_msg.specs.declared.calls.Call.{Call}
use Rattle.lu_msg.specs.declared.calls.Call.TheVariants as call
use Rattle.lu_msg.specs.declared.operations.Op.TheVariants as op
use Rattle.lu_held.specs.declared.locks.HeldLock.{HeldLock}
use Rattle.lu_held.specs.declared.locks.Use.{Use}
use Rattle.lu_held.specs.declared.names.LockName.{LockName}
use Rattle.lu_held.specs.Held.{serving}
use Rattle.lu_spec_entries.specs.Carried.{Queued, Unasked, Kind, Narrow, Wide, Stats, Glimpses, Work, Stage, Plain, Bad, Looks, Enqueued}
use Rattle.lu_spec_entries.specs.Carried.{Came, Sizes, Running}
use Rattle.lu_spec_entries.specs.Words.{Line}
use Rattle.lu_spec_client.specs.Advances.{enqueue_of}
use Rattle.lu_spec_client.specs.Caches.{held_at}
use Rattle.lu_spec_client.specs.Looks.{content, file_size, has_reached}
use Rattle.lu_spec_client.specs.States.{Store, store_at}
use Rattle.lu_spec_client.specs.Stripes.{stripes}
use Rattle.lu_spec_client.specs.Wants.{wants_of}
use Rattle.lu_proof_lawful.specs.Covered.Runs.{IsOnBytes, ChangesNoBytes}
use Rattle.lu_proof_lawful.specs.Covered.Heads.{Head}
use Rattle.lu_proof_lawful.proofs.Preconditions.Guards.{In, Begins, BeginOk, NamesAskOk, SizeAskOk, LockAskOk, GetAskOk, QueuesOk, ReadsOn}
use Rattle.lu_proof_lawful.proofs.Preconditions.Guards.{ChangesOn, IsChange, held_by, store_by, AllSized, LeftSize, SizesSoFar, heard_sizes}
use Rattle.lu_proof_lawful.proofs.Preconditions.Guards.{HasSizes, SizesStand, LacksOf, LockStand, GetStand, KnowsFile, ToldFile, GoesOn}
use Rattle.lu_proof_lawful.proofs.Preconditions.Guards.{StatOf, StatStand, Replied, LockGranted, LockBrought, CameStand, MovedStand}
use Rattle.lu_proof_lawful.proofs.Preconditions.Guards.{FlushStand, StandsOk, work_in, wanted_by, SizesToldOk, ReadToldOk, StatToldOk}
use Rattle.lu_proof_lawful.proofs.Preconditions.Guards.{FlushFrom, FlushedOk}
use Rattle.lu_proof_lawful.proofs.Preconditions.Grown.{Grown}
use Rattle.lu_proof_lawful.proofs.Invariants.BareLooks.{IsEmpty, not_reached, no_file_size, cut_short}
use Rattle.lu_proof_lawful.proofs.Invariants.BareCalls.{BareWork, SizesWork, BareStage, BareRunning, BareAnswer, BareSoFar, bare_empty}
use Rattle.lu_proof_lawful.proofs.Invariants.BareCalls.{heard_bare, held_read, no_left, no_change, no_get, no_flush, not_moved}
use Rattle.lu_proof_lawful.proofs.Invariants.BareSteps.{no_back_ask}
use Rattle.lu_proof_lawful.proofs.Invariants.BareGuards.{IsOnSizes, BareBegins, BareBeginOk, BareLockAskOk, BareQueuesOk, BareSizesSoFar}
use Rattle.lu_proof_lawful.proofs.Invariants.BareGuards.{bare_heard, AllServed, BareSizesStand, BareGoesOn, BareLockStand, BareStatOf}
use Rattle.lu_proof_lawful.proofs.Invariants.BareGuards.{BareStatStand, BareStandsOk, BareSizesToldOk, BareReadToldOk, BareStatToldOk}
use Rattle.lu_proof_lawful.proofs.Invariants.BareGuards.{BareFlushedOk}

-- ---- sizes under held locks, where all are none

sized_served : (held : List HeldLock) (s : Store) (us : List Use) (ns : List ℕ) → AllSized held s us ns → (u : Use) → In u us
    → (h : HeldLock) × (serving u held ≡ Some h)
sized_served held s [] ns a u i = absurd i
sized_served held s (v ∷ us) [] a u i = absurd a
sized_served held s (v ∷ us) (n ∷ ns) a u (inl e) = (a.0.0, ap (λ (x : Use). serving x held) (sym e) ∙ a.0.1)
sized_served held s (v ∷ us) (n ∷ ns) a u (inr i) = sized_served held s us ns a.1 u i

sized_zero : (held : List HeldLock) (s : Store) (us : List Use) (ns : List ℕ) → IsEmpty s → AllSized held s us ns → ns
    ≡ replicate (length ns) 0
sized_zero held s [] [] e a = refl
sized_zero held s [] (n ∷ ns) e a = absurd a
sized_zero held s (v ∷ us) [] e a = absurd a
sized_zero held s (v ∷ us) (n ∷ ns) e a = rw (a.0.2 ∙ e a.0.0.lock) (ap (λ (ms : List ℕ). 0 ∷ ms) (sized_zero held s us ns e a.1))

dropped : (xs : List ℕ) (x : ℕ) (ys : List ℕ) → drop (suc (length xs)) (xs ++ x ∷ ys) ≡ ys
dropped [] x ys = refl
dropped (z ∷ xs) x ys = dropped xs x ys

ends : {A : Type 0} (xs : List A) → xs ++ [] ≡ xs
ends [] = refl
ends {A} (x ∷ xs) = ap (λ (ys : List A). x ∷ ys) (ends xs)

module _ (head : Head) (past : List Line) (now : At) (c : ℕ) (here : now.node ≡ Client c) (g : Grown head past)
    (s : BareSoFar head past) where
  empty : IsEmpty (store_at c past)
  empty = bare_empty head past c s

  -- ---- a call begins

  abbrev pub no_writer : (h : HeldLock) → In h (held_at c past) → h.lock.ask.mode ≡ PW → ⊥
  no_writer h i e = let r = held_read head past c h g s i in let q : PR ≡ PW = sym r ∙ e in cc

  begins_so : (running : Running) → (running.stage ≡ Bad) ⊎ ChangesNoBytes running.call → Begins c past running → BareBegins c past running
  begins_so running bare (inl p) = inl (p.0, p.1, p.2, ⊎_elim (λ n. inl n) (λ (b : IsOnBytes running.call). inr (on running.call b no)) p.3)
    where
      no : ChangesNoBytes running.call
      no = ⊎_elim (λ (e : running.stage ≡ Bad). absurd (let q : Plain ≡ Bad = sym p.1 ∙ e in cc)) (λ (k : ChangesNoBytes running.call). k)
          bare

      on : (x : Call) → IsOnBytes x → ChangesNoBytes x → IsOnSizes x
      on (call.Read h offset count) b n = tt
      on (call.Flush h) b n = tt
      on (call.Glimpse h) b n = tt
      on (call.Write h offset bytes) b n = n
      on (call.Cut h size) b n = n
      on x b n = b
  begins_so running bare (inr p) = inr p

  pub begin_so : (slot : ℕ) (running : Running) → (running.stage ≡ Bad) ⊎ ChangesNoBytes running.call → BeginOk past now c slot running
      → BareBeginOk past now c slot running
  begin_so slot running bare ok =
      record {
        later = ok.later;
        small = ok.small;
        free = ok.free;
        is = ok.is;
        limits = ok.limits;
        begins = begins_so running bare ok.begins;
        calm = λ h i e p. ok.calm h i e p (no_writer h i);
        ready = ok.ready;
      }

  -- ---- it asks

  enqueues : (w : Use) (extent : Extent) → w.policy ≡ Range extent → enqueue_of w ≡ op.Enqueue w.resource w.mode extent
  enqueues w extent e = by w.policy e
    where
      by : (p : Policy) → p ≡ Range extent → enqueue_of (record w { policy = p }) ≡ op.Enqueue w.resource w.mode extent
      by p e = subst (λ (v : Policy). enqueue_of (record w { policy = v }) ≡ op.Enqueue w.resource w.mode extent) (sym e) refl

  pub queues_so : (t : ℕ) (q : Queued) → QueuesOk past c t q → BareQueuesOk past c t q
  queues_so t q (inr ok) = absurd (no_back_ask head past g s c t q ok)
  queues_so t q (inl ok) = record { slot = ok.slot; serves = ok.serves; running = ok.running; call = ok.call; asks = by ok.asks }
    where
      k : BareRunning ok.running
      k = s.calls c ok.slot ok.running ok.call

      read : (a : LockAskOk t ok.running q.op) → a.wanted.mode ≡ PR
      read a = ⊎_elim (λ (e : a.wanted.mode ≡ PR). e)
          (λ (p : (a.wanted.mode ≡ PW) × IsChange ok.running.call). absurd
          (none ok.running.call (k.call (λ bad. let e : Enqueued a.work ≡ Bad = sym a.stage ∙ bad in cc)) p.1))
          a.mode
        where
          none : (x : Call) → ChangesNoBytes x → IsChange x → ⊥
          none (call.Write h offset bytes) n i = n
          none (call.Cut h size) n i = n
          none x n i = i

      by : NamesAskOk past c t ok.running q.op ⊎ SizeAskOk t ok.running q.op ⊎ LockAskOk t ok.running q.op
          ⊎ GetAskOk past c t ok.running q.op → NamesAskOk past c t ok.running q.op ⊎ SizeAskOk t ok.running q.op
          ⊎ BareLockAskOk t ok.running q.op
      by (inl a) = inl a
      by (inr (inl a)) = inr (inl a)
      by (inr (inr (inl a))) = inr (inr (record {
        work = a.work;
        stage = a.stage;
        still = a.still;
        wanted = a.wanted;
        left = a.left;
        first = a.first;
        of_target = a.of_target;
        object = a.object;
        extent = a.extent;
        of_op = a.of_op ∙ ap (λ (m : Mode). op.Enqueue a.wanted.resource m a.extent) (read a);
        is = a.of_op ∙ sym (enqueues a.wanted a.extent a.policy);
      }))
      by (inr (inr (inr a))) = absurd (subst (BareStage ok.running) a.stage k.stage)

  -- ---- a glimpse

  abbrev Of : Running → Type 0
  Of q = BareStage q q.stage

  -- the sizes that it has so far
  pub record SizesOf (q : Running) (sizes : List ℕ) (before left : List Use) : Type 0 where
    pub so_far : BareSizesSoFar past now q sizes
    pub served : AllServed past now (drop (bare_heard so_far) before)

  by_now : {A : Type 0} (P : Node → A) → P now.node ≡ P (Client c)
  by_now P = ap P here

  empty_now : IsEmpty (store_by now.node past)
  empty_now = subst (λ (n : Node). IsEmpty (store_by n past)) (sym here) empty

  served_now : (us : List Use) (ns : List ℕ) → AllSized (held_by now.node past) (store_by now.node past) us ns → AllServed past now us
  served_now us ns a u i = sized_served (held_by now.node past) (store_by now.node past) us ns a u i

  sizes_of : (q : Running) (sizes : List ℕ) (before left : List Use) → Of q → HasSizes past now q sizes before left
      → SizesOf q sizes before left
  sizes_of q sizes before left st h = by h.so_far h.served
    where
      by : (far : SizesSoFar past now q sizes) → AllSized (held_by now.node past) (store_by now.node past) (drop (heard_sizes far) before)
          (drop (heard_sizes far) sizes) → SizesOf q sizes before left
      by (inl n) a = record {
        so_far = inl (record {
          plain = n.plain;
          new = n.new;
          begun = n.begun;
          held = length sizes;
          are =
              sized_zero (held_by now.node past) (store_by now.node past) before sizes empty_now a;
        });
        served = served_now before sizes a;
      }
      by (inr (inl k)) a =
          let rest : drop (suc (length k.before)) sizes ≡ k.held = ap (drop (suc (length k.before))) k.more ∙ dropped k.before k.size k.held
          in
          let zero = sized_zero (held_by now.node past) (store_by now.node past) (drop (suc (length k.before)) before) k.held empty_now
          (subst (AllSized (held_by now.node past) (store_by now.node past) (drop (suc (length k.before)) before)) rest a) in
          record {
            so_far = inr (record {
              work = k.work;
              stage = k.stage;
              before = k.before;
              kind = k.kind;
              target = k.target;
              reply = k.reply;
              answered = k.answered;
              heard = k.heard;
              size = k.size;
              tells = k.tells;
              held = length k.held;
              more = k.more ∙ ap (λ (ns : List ℕ). k.before ++ k.size ∷ ns) zero;
            });
            served = served_now (drop (suc (length k.before)) before) (drop (suc (length k.before)) sizes) a;
          }
      by (inr (inr (inl k))) a = absurd (left_out k)
        where
          left_out : LeftSize past now q sizes → ⊥
          left_out k = ⊎_elim
              (λ p. subst BareAnswer p.1.4 (heard_bare head past now p.1.0 p.1.1 g s p.1.3))
              (λ (p : q.stage ≡ Looks k.work). subst (BareStage q) p st)
              k.stage
      by (inr (inr (inr k))) a = absurd (not_size (subst (BareStage q) k.stage st))
        where
          not_size : BareWork q k.work → ⊥
          not_size (inl d) = ⊎_elim (λ (e : k.work.kind ≡ Narrow d.read.offset d.read.count). let f : Glimpses k.before
              ≡ Narrow d.read.offset d.read.count = sym k.kind ∙ e in cc)
              (λ (e : k.work.kind ≡ Wide d.read.offset d.read.count). let f : Glimpses k.before ≡ Wide d.read.offset d.read.count =
              sym k.kind ∙ e in cc) d.kind
          not_size (inr d) = let f : Glimpses k.before ≡ Stats d.mode d.links = sym k.kind ∙ d.kind in cc

  -- ---- a stat

  pub goes_so : (q : Running) (pins : List LockName) (fid : Fid) (mode links : ℕ) (layout : Raid0) → Of q
      → GoesOn q pins fid mode links layout → BareGoesOn q pins fid mode links layout
  goes_so q pins fid mode links layout st k = record {
    work = k.work;
    stage = by q.stage refl k.stage;
    kind = k.kind;
    of_fid = k.of_fid;
    of_layout = k.of_layout;
    pinned = k.pinned;
  }
    where
      one : (v w : Work) → Some v ≡ Some w → v ≡ w
      one v w e = cc

      by : (x : Stage) → q.stage ≡ x → work_in x ≡ Some k.work → (q.stage ≡ Enqueued k.work)
          ⊎ ((lock : Lock) × (q.stage ≡ Came k.work lock))
      by (Enqueued w) e i = inl (e ∙ ap (λ (v : Work). Enqueued v) (one w k.work i))
      by (Came w lock) e i = inr (lock, e ∙ ap (λ (v : Work). Came v lock) (one w k.work i))
      by (Sizes w) e i =
          let size : SizesWork q w = subst (BareStage q) e st in
          absurd (let f : Glimpses size.sizes ≡ Stats mode links = sym size.kind ∙ ap (λ (v : Work). v.kind) (one w k.work i) ∙ k.kind
          in cc)
      by Plain e i = absurd (cc)
      by Bad e i = absurd (cc)
      by x e i = absurd (subst (BareStage q) e st)

  abbrev pub stat_so : (q : Running) (pins : List LockName) → Of q → StatOf past now c q pins → BareStatOf past now c q pins
  stat_so q pins st k =
      record {
        path = k.path;
        stats = k.stats;
        good = k.good;
        fid = k.fid;
        mode = k.mode;
        links = k.links;
        layout = k.layout;
        from = by k.from;
      }
    where
      by : KnowsFile past now c q pins k.fid k.mode k.links k.layout ⊎ ToldFile past now c q pins k.path k.fid k.mode k.links k.layout
          ⊎ GoesOn q pins k.fid k.mode k.links k.layout
          → KnowsFile past now c q pins k.fid k.mode k.links k.layout ⊎ ToldFile past now c q pins k.path k.fid k.mode k.links k.layout
          ⊎ BareGoesOn q pins k.fid k.mode k.links k.layout
      by (inl a) = inl a
      by (inr (inl a)) = inr (inl a)
      by (inr (inr a)) = inr (inr (goes_so q pins k.fid k.mode k.links k.layout st a))

  -- what a work wants
  wants_are : (w : Work) (layout : Raid0) (fid : Fid) (kind : Kind) → w.layout ≡ layout → w.fid ≡ fid → w.kind ≡ kind → wanted_by w
      ≡ wants_of layout fid kind
  wants_are w layout fid kind p q r =
      ap (λ (v : Raid0). wants_of v w.fid w.kind) p ∙ ap (λ (v : Fid). wants_of layout v w.kind) q
      ∙ ap (λ (v : Kind). wants_of layout fid v) r

  -- ---- it goes on

  pub stands_so : (slot : ℕ) (r : Running) → StandsOk past now c slot r → BareStandsOk past now c slot r
  stands_so slot r ok =
      record {
        running = ok.running;
        call = ok.call;
        small = ok.small;
        still = ok.still;
        stage = ok.stage;
        pins = ok.pins;
        is = ok.is;
        how =
            by ok.how;
        had = ok.had;
      }
    where
      q : Running
      q = ok.running

      st : BareStage ok.running ok.running.stage
      st = (s.calls c slot ok.running ok.call).stage

      Narrower : Type 0
      Narrower = BareSizesStand past now ok.running ok.stage ok.pins ⊎ BareLockStand past c ok.running ok.stage
          ⊎ BareStatStand past now c ok.running ok.stage ok.pins

      size : SizesStand past now ok.running ok.stage ok.pins → BareSizesStand past now ok.running ok.stage ok.pins
      size h =
          let k = sizes_of ok.running h.sizes h.before h.work.left st h.has in
          record {
            handle = h.has.handle;
            glimpses = h.has.glimpses;
            work = h.work;
            is = ⊎_elim (λ (e : ok.stage ≡ Sizes h.work). e) (λ e. absurd (no_left head past now c slot r g s ok e.1)) h.is;
            same = h.same;
            sizes = h.sizes;
            kind = h.kind;
            so_far = k.so_far;
            file = h.has.file;
            of_file = h.has.of_file;
            before = h.before;
            wanted = h.wanted;
            left = h.left;
            first = h.first;
            all = h.has.all;
            each = h.has.each;
            served = k.served;
          }

      lock : LockStand past c ok.running ok.stage → BareLockStand past c ok.running ok.stage
      lock h = ⊎_elim
          (λ (d : ReadsOn ok.running h.work). record {
            read = d.read;
            work = h.work;
            is = inl (
              h.is,
              ⊎_elim
                  (λ (e : h.work.kind ≡ Narrow d.read.offset d.read.count). inl
                  (subst (λ (us : List Use). LacksOf past c us h.work)
                  (wants_are h.work d.read.file.layout d.read.file.fid (Narrow d.read.offset d.read.count) d.layout d.fid e) h.lacks))
                  (λ (e : h.work.kind ≡ Wide d.read.offset d.read.count). inr
                  (subst (λ (us : List Use). LacksOf past c us h.work)
                  (wants_are h.work d.read.file.layout d.read.file.fid (Wide d.read.offset d.read.count) d.layout d.fid e) h.lacks))
                  d.kind,
            );
          })
          (λ (d : ChangesOn ok.running h.work). absurd (no_change head past now c slot r g s ok h.work d))
          h.does

      stat : StatStand past now c ok.running ok.stage ok.pins → BareStatStand past now c ok.running ok.stage ok.pins
      stat h =
          record {
            stat = stat_so ok.running ok.pins st h.stat;
            work = h.work;
            kind = h.kind;
            of_fid = h.of_fid;
            of_layout = h.of_layout;
            is = inl (
              h.is,
              subst (λ (us : List Use). LacksOf past c us h.work)
                  (wants_are h.work h.stat.layout h.stat.fid (Stats h.stat.mode h.stat.links) h.of_layout h.of_fid h.kind) h.lacks,
            );
          }

      came : (ok.pins ≡ ok.running.pins) → CameStand past now c ok.running ok.stage → Narrower
      came same h = ⊎_elim
          (λ (p : LockBrought past now ok.running h.work h.lock). of (subst (BareStage ok.running) p.stage st) p.stage p.answers)
          (λ (p : LockGranted past now ok.running h.work h.lock). absurd (subst (BareStage ok.running) p.stage st))
          h.from
        where
          of : BareWork ok.running h.work → ok.running.stage ≡ Enqueued h.work → Replied past now ok.running → Narrower
          of (inl d) e a = inr (inl (record { read = d.read; work = h.work; is = inr (h.lock, h.is, (a.target, a.reply, a.answered)) }))
          of (inr d) e a = inr (inr (record {
            stat = record {
              path = d.path;
              stats = d.stats;
              good = d.good;
              fid = h.work.fid;
              mode = d.mode;
              links = d.links;
              layout = h.work.layout;
              from = inr (inr (record {
                work = h.work;
                stage = inl e;
                kind = d.kind;
                of_fid = refl;
                of_layout = refl;
                pinned =
                    λ name i. subst (λ (ps : List LockName). In name ps) (sym same) i;
              }));
            };
            work = h.work;
            kind = d.kind;
            of_fid = refl;
            of_layout = refl;
            is = inr (h.lock, h.is, (a.target, a.reply, a.answered));
          }))

      by : SizesStand past now ok.running ok.stage ok.pins ⊎ LockStand past c ok.running ok.stage
          ⊎ StatStand past now c ok.running ok.stage ok.pins ⊎ GetStand past c ok.running ok.stage ok.pins
          ⊎ FlushStand past c ok.running ok.stage ok.pins
          ⊎ ((ok.pins ≡ ok.running.pins) × MovedStand past now c ok.running ok.stage) → Narrower
      by (inl h) = inl (size h)
      by (inr (inl h)) = inr (inl (lock h))
      by (inr (inr (inl h))) = inr (inr (stat h))
      by (inr (inr (inr (inl h)))) = absurd (no_get head past now c slot r g s ok h)
      by (inr (inr (inr (inr (inl h))))) = absurd (no_flush head past now c slot r g s ok h)
      by (inr (inr (inr (inr (inr (same, inl h)))))) = came same h
      by (inr (inr (inr (inr (inr (same, inr h)))))) = absurd (not_moved head past now c slot r g s ok h)

  -- ---- it is told

  pub sizes_so : (slot : ℕ) (turn : At) (told : Answer) (work : Option Work) → SizesToldOk past now c slot turn told work
      → BareSizesToldOk past now c slot turn told work
  sizes_so slot turn told work ok =
      let k = sizes_of ok.running ok.sizes ok.before [] (s.calls c slot ok.running ok.call).stage ok.has in
      let all : wants_of ok.has.file.layout ok.has.file.fid (Glimpses []) ≡ ok.before = ok.has.all ∙ ends ok.before in
      record {
        running = ok.running;
        call = ok.call;
        handle = ok.has.handle;
        glimpses = ok.has.glimpses;
        sizes = ok.sizes;
        so_far = k.so_far;
        file = ok.has.file;
        of_file = ok.has.of_file;
        each = sym ok.has.each ∙ ap length (sym all);
        served = subst (λ (us : List Use). AllServed past now (drop (bare_heard k.so_far) us)) (sym all) k.served;
        of_turn = ok.of_turn;
        of_answer = ok.of_answer;
        plain = ok.plain;
      }

  pub flushed_so : (slot : ℕ) (turn : At) (told : Answer) (work : Option Work) → FlushedOk past now c slot turn told work
      → BareFlushedOk past now c slot turn told work
  flushed_so slot turn told work ok =
      let k = plain ok.goes in
      record {
        running = ok.running;
        call = ok.call;
        handle = ok.handle;
        flushes = ok.flushes;
        good = k.0;
        new = k.1;
        begun = k.2;
        of_turn =
            ok.of_turn;
        of_answer = ok.of_answer;
        plain = ok.plain;
      }
    where
      plain : FlushFrom now ok.running ok.from → (ok.running.stage ≡ Plain) × (ok.running.asking ≡ Unasked) × (ok.running.at ≡ now)
      plain (inl p) = (p.0, p.1, p.2)
      plain (inr p) = absurd (subst (BareStage ok.running) p (s.calls c slot ok.running ok.call).stage)

  pub read_so : (slot : ℕ) (turn : At) (told : Answer) (work : Option Work) → ReadToldOk past now c slot turn told work
      → BareReadToldOk past now c slot turn told work
  read_so slot turn told work ok =
      let d = ok.does in
      let w = ok.done in
      let k = tells ok.tells.1 in
      record {
        running = ok.running;
        call = ok.call;
        still = ok.still;
        read = d.read;
        locked = λ wanted i. ok.locked wanted (subst (λ (us : List Use). In wanted us)
            (sym (wants_are w d.read.file.layout d.read.file.fid (Wide d.read.offset d.read.count) d.layout d.fid k.0)) i);
        of_turn = ok.of_turn;
        of_answer = k.1;
      }
    where
      S : Store
      S = store_at c past

      p : ℕ
      p = ok.does.read.offset

      n : ℕ
      n = ok.does.read.count

      w : Work
      w = ok.done

      tells : ((ok.done.kind ≡ Narrow ok.does.read.offset ok.does.read.count)
          × (has_reached ok.done.layout (ok.does.read.offset + ok.does.read.count - 1) ok.done.used (store_at c past) ≡ true)
          × (told ≡ answer.Content (content ok.done.layout ok.done.fid (store_at c past) ok.does.read.offset ok.does.read.count)))
          ⊎ ((ok.done.kind ≡ Wide ok.does.read.offset ok.does.read.count)
          × (told ≡ answer.Content (content ok.done.layout ok.done.fid (store_at c past) ok.does.read.offset
          (min ok.does.read.count (file_size ok.done.layout (stripes ok.done.layout) ok.done.used (store_at c past)
          - ok.does.read.offset)))))
          → (ok.done.kind ≡ Wide ok.does.read.offset ok.does.read.count) × (told ≡ answer.Content [])
      tells (inl q) = absurd (let no = not_reached ok.done.layout (ok.does.read.offset + ok.does.read.count - 1) ok.done.used
          (store_at c past) empty (s.shown c) in let yes = q.1 in cc)
      tells (inr q) = (
        q.0,
        q.1 ∙ ap (λ (m : ℕ). answer.Content (content ok.done.layout ok.done.fid (store_at c past) ok.does.read.offset m))
            (ap (λ (m : ℕ). min ok.does.read.count (m - ok.does.read.offset))
            (no_file_size ok.done.layout (stripes ok.done.layout) ok.done.used (store_at c past) empty)
            ∙ cut_short ok.does.read.count ok.does.read.offset),
      )

  pub stat_told_so : (slot : ℕ) (turn : At) (told : Answer) (work : Option Work) → StatToldOk past now c slot turn told work
      → BareStatToldOk past now c slot turn told work
  stat_told_so slot turn told work ok =
      record {
        running = ok.running;
        call = ok.call;
        still = ok.still;
        pins = ok.pins;
        stat = stat_so ok.running ok.pins (s.calls c slot ok.running ok.call).stage ok.stat;
        locked = λ wanted i. ok.locked wanted (subst (λ (us : List Use). In wanted us)
            (sym (wants_are ok.done ok.stat.layout ok.stat.fid (Stats ok.stat.mode ok.stat.links) ok.of_layout ok.of_fid ok.kind)) i);
        of_turn = ok.of_turn;
        of_answer = ok.of_answer ∙ ap (λ (m : ℕ). answer.FileSize ok.stat.fid ok.stat.mode ok.stat.links m)
            (no_file_size ok.done.layout (stripes ok.done.layout) ok.done.used (store_at c past) empty);
      }
