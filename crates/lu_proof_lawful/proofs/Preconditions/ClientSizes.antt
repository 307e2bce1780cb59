-- What a glimpse does: it passes the objects on which a held lock serves, with the size under that; of the first that none serves it asks
-- its
-- target how long it is, or, where that left it to the lock, for the lock; and in the end it is told all sizes together. It goes on by a
-- size, by a lock that came, or where its target leaves it to the lock; any other answer makes it go no further.
use Rattle.lu_proof_lawful.proofs.Preconditions.ClientLines.{ends}
use Rattle.std.proofs.Common.{◌≡◌, ℕ, suc, ◌+◌, List, [], ◌∷◌, ◌++◌, inl, inr, Some, None, refl, sym, subst, ap, ◌∙◌, Option, ◌⊎◌}
use Rattle.std.specs.Prelude.{length, drop}
use Rattle.std.proofs.Math.Seq.{drop-append_seam}
use Rattle.std.proofs.lemmas.List.{append_assoc, length-append}
use Rattle.lu_base.specs.declared.ids.At.{At}
use Rattle.lu_base.specs.declared.ids.Node.TheVariants.{Client}
use Rattle.lu_base.specs.declared.ids.Stamp.{Stamp}
use Rattle.lu_msg.specs.declared.answers.Answer.TheVariants as answer
use Rattle.lu_msg.specs.declared.operations.Op.TheVariants as op
use Rattle.lu_held.specs.declared.locks.HeldLock.{HeldLock}
use Rattle.lu_held.specs.declared.locks.Use.{Use}
use Rattle.lu_held.specs.Held.{serving}
use Rattle.lu_spec_entries.specs.declared.uses.Using.{Using}
use Rattle.lu_proof_lawful.proofs.Preconditions.Calls.{had_all, mine_all}
use Rattle.lu_proof_lawful.proofs.Preconditions.ClientGood.{the_head}
use Rattle.lu_spec_entries.specs.Carried.{HandleFile, Glimpses, Work, Asked, Sizes, Running, Kind, Asking, Unasked, Answered, Plain, Looks}
use Rattle.lu_spec_entries.specs.Carried.{Enqueued, Came}
use Rattle.lu_spec_entries.specs.Words.{Entry, Told, Stands, Line}
use Rattle.lu_spec_client.specs.Advances.{at_stage, tells, asks_lock, enqueue_of, name_under}
use Rattle.lu_spec_client.specs.Caches.{held_at}
use Rattle.lu_spec_client.specs.Glimpses.{sized, asks_size, glimpses, glimpses_on, glimpse_asks, glimpse_comes, glimpse_hears}
use Rattle.lu_spec_client.specs.Looks.{size_under}
use Rattle.lu_spec_client.specs.States.{Store, store_at}
use Rattle.lu_spec_client.specs.Wants.{wants_of}
use Rattle.lu_spec_run.specs.Heads as table
use Rattle.lu_proof_lawful.proofs.Preconditions.Guards.{IsGlimpse, AllSized, SizesSoFar, heard_sizes, HasSizes, HadLock, UsesHeld, work_in}
use Rattle.lu_proof_lawful.proofs.Preconditions.Guards.{used_of, used_in, In, wanted_by, JustHeard, LeftSize}
use Rattle.lu_proof_lawful.proofs.Preconditions.Lists.{turn, in_right}
use Rattle.lu_proof_lawful.proofs.Preconditions.Turns.{Settled, owes_nothing}
use Rattle.lu_proof_lawful.proofs.Preconditions.ClientHandles.{IsNoOpen, other_tied}
use Rattle.lu_proof_lawful.proofs.Preconditions.CallStands.{OnSizes, IsUnheard, TellsNothing, Sizing, Looking, Coming}
use Rattle.lu_proof_lawful.proofs.Preconditions.CallMoves.{Ready, went_told, went_asks}
use Rattle.lu_proof_lawful.proofs.Preconditions.ClientTakes.{Going, in_order}
use Rattle.lu_spec_client.specs.Starts.{sizes_heard, looks_at, comes_at}
use Rattle.lu_msg.specs.declared.messages.Reply.{Reply as ReplyTo}
use Rattle.lu_msg.specs.declared.answers.Answer.{Answer}
use Rattle.lu_base.specs.declared.locks.Lock.{Lock}
use Rattle.lu_proof_lawful.proofs.Preconditions.ClientLooks.{ByteUse, wants_ok, enqueues}
use Rattle.lu_base.specs.declared.locks.Mode.TheVariants.{PR}
use Rattle.lu_layout.specs.Raid0.{Raid0}
use Rattle.lu_base.specs.declared.ids.Fid.{Fid}

-- ---- sizes under held locks

-- as many as objects
all_length : (held : List HeldLock) (s : Store) (us : List Use) (ns : List ℕ) → AllSized held s us ns → length us ≡ length ns
all_length held s [] [] a = refl
all_length held s [] (n ∷ ns) a = absurd a
all_length held s (u ∷ us) [] a = absurd a
all_length held s (u ∷ us) (n ∷ ns) a = ap suc (all_length held s us ns a.1)

all_more : (held : List HeldLock) (s : Store) (us : List Use) (ns : List ℕ) (u : Use) (h : HeldLock) → AllSized held s us ns
    → serving u held ≡ Some h → AllSized held s (us ++ u ∷ []) (ns ++ size_under h.lock s ∷ [])
all_more held s [] [] u h a e = ((h, e, refl), tt)
all_more held s [] (n ∷ ns) u h a e = absurd a
all_more held s (v ∷ us) [] u h a e = absurd a
all_more held s (v ∷ us) (n ∷ ns) u h a e = (a.0, all_more held s us ns u h a.1 e)

one_more : {A : Type 0} (xs : List A) (x : A) → length (xs ++ x ∷ []) ≡ suc (length xs)
one_more [] x = refl
one_more (y ∷ xs) x = ap suc (one_more xs x)

-- those behind as many as these
after_these : {A B : Type 0} (xs ys : List A) (ns : List B) → length xs ≡ length ns → drop (length ns) (xs ++ ys) ≡ ys
after_these xs ys ns e = ap (λ (k : ℕ). drop k (xs ++ ys)) (sym e) ∙ drop-append_seam xs ys

module _ (head : table.Head) (c : ℕ) (stamp : Stamp) where
  abbrev at : At
  at = turn stamp (Client c)

  -- ---- how a glimpse goes on

  -- it has these sizes before those under held locks
  record From (p : List Line) (r : Running) (base : List ℕ) : Type 0 where
    so_far : (held : List ℕ) → SizesSoFar p at r (base ++ held)
    count : (held : List ℕ) → heard_sizes (so_far held) ≡ length base

  -- of the objects of its file: those before, then those on which held locks serve, then those that are left
  record Glimpsing (slot : ℕ) (r : Running) (w : Work) (base : List ℕ) (passed us : List Use) (ns : List ℕ) (left : List Use)
      (before p : List Line) : Type 0 where
    ready : Ready head c stamp slot r before p
    settled : Settled p
    handle : ℕ
    glimpses : IsGlimpse r handle
    file : HandleFile
    of_file : r.file ≡ Some file
    fid : w.fid ≡ file.fid
    layout : w.layout ≡ file.layout
    from : From p r base
    all : wants_of file.layout file.fid (Glimpses []) ≡ passed ++ (us ++ left)
    each : length passed ≡ length base
    sized : AllSized (held_at c p) (store_at c p) us ns
    nothing : r.pins ≡ []
    had : (u : Using) → In u w.used → HadLock c slot u.want p
    uses : UsesHeld c p r w.used
    mine : (u : Using) → In u w.used → In (name_under u.want u.lock) r.pins

  module _ (slot : ℕ) (r : Running) (w : Work) (base : List ℕ) (passed : List Use) (before p : List Line) where
    abbrev Now : List Use → List ℕ → List Use → Type 0
    Now us ns left = Glimpsing slot r w base passed us ns left before p

    as_many : (us : List Use) (ns : List ℕ) (left : List Use) (g : Now us ns left) → length (passed ++ us) ≡ length (base ++ ns)
    as_many us ns left g =
        length-append passed us ∙ ap (λ (n : ℕ). n + length us) g.each
        ∙ ap (λ (n : ℕ). length base + n) (all_length (held_at c p) (store_at c p) us ns g.sized) ∙ sym (length-append base ns)

    has_sizes : (us : List Use) (ns : List ℕ) (left : List Use) → Now us ns left → HasSizes p at r (base ++ ns) (passed ++ us) left
    has_sizes us ns left g =
        record {
          handle = g.handle;
          glimpses = g.glimpses;
          file = g.file;
          of_file = g.of_file;
          so_far = g.from.so_far ns;
          all = g.all ∙ sym (append_assoc passed us left);
          each = as_many us ns left g;
          served =
              subst (λ (k : ℕ). AllSized (held_at c p) (store_at c p) (drop k (passed ++ us)) (drop k (base ++ ns))) (sym (g.from.count ns))
              (subst (λ (xs : List Use). AllSized (held_at c p) (store_at c p) xs (drop (length base) (base ++ ns)))
              (sym (after_these passed us base g.each))
              (subst (AllSized (held_at c p) (store_at c p) us) (sym (drop-append_seam base ns)) g.sized));
        }

    on_sizes : (us : List Use) (ns : List ℕ) (left : List Use) (g : Now us ns left) (q : Running) (v : Work) → q.call ≡ r.call → q.file
        ≡ r.file → q.pins ≡ r.pins → v.kind ≡ Glimpses (base ++ ns) → v.fid ≡ w.fid → v.layout ≡ w.layout → v.left ≡ left
        → OnSizes q v
    on_sizes us ns left g q v same file pins kind fid layout rest =
        record {
          handle = g.handle;
          glimpses = same ∙ g.glimpses;
          file = g.file;
          of_file = file ∙ g.of_file;
          sizes = base ++ ns;
          kind = kind;
          fid = fid ∙ g.fid;
          layout = layout ∙ g.layout;
          before = passed ++ us;
          all = g.all ∙ sym (append_assoc passed us left) ∙ ap (λ (xs : List Use). (passed ++ us) ++ xs) (sym rest);
          each = as_many us ns left g;
          nothing = pins ∙ g.nothing;
        }

    -- it is told all of them
    sizes_told : (us : List Use) (ns : List ℕ) → Now us ns [] → Going head c stamp slot r before
        (tells slot r at (answer.Sizes (base ++ ns)) None) p
    sizes_told us ns g covered =
        let a = answer.Sizes (base ++ ns) in
        went_told head c stamp slot r at a None r.pins before p g.ready (owes_nothing p at (Told slot at a None) g.settled)
        (inr (inr (inr (inr (inl (record {
          running = r;
          call = g.ready.call;
          still = g.ready.still;
          sizes = base ++ ns;
          before = passed ++ us;
          has = has_sizes us ns [] g;
          of_turn = refl;
          of_answer = refl;
          plain = refl;
        })))))) (other_tied c stamp p slot at a None r g.ready.call (subst IsNoOpen (sym g.glimpses) tt) g.ready.handles)

    -- it asks how long the next one is
    asks_good : (us : List Use) (ns : List ℕ) (wanted : Use) (left : List Use) → Now us ns (wanted ∷ left) → serving wanted (held_at c p)
        ≡ None → Going head c stamp slot r before (asks_size slot wanted left (base ++ ns) r w) p
    asks_good us ns wanted left g lacks covered =
        went_asks head c stamp slot r now wanted.target.0 (op.Size wanted.resource) before p g.ready refl refl
        (owes_nothing p at (Stands slot now) g.settled)
        (record {
          running = r;
          call = g.ready.call;
          small = g.ready.small;
          still = g.ready.still;
          stage = Sizes work;
          pins = r.pins;
          is = refl;
          how = inl (record {
            work = work;
            sizes = base ++ ns;
            is = inl refl;
            same = refl;
            kind = refl;
            before = passed ++ us;
            wanted = wanted;
            left = left;
            first = refl;
            has = has_sizes us ns (wanted ∷ left) g;
            lacks = lacks;
          });
          had = g.had;
          uses = g.uses;
          mine = g.mine;
        }) covered.0 (refl, refl)
        (inr (inl (record {
          work = work;
          stage = refl;
          still = g.ready.still;
          wanted = wanted;
          left = left;
          first = refl;
          of_target = refl;
          object = covered.0.0;
          of_op = refl;
        }))) tt
        (λ who patches. inl (inr (inl (record {
          sizing = record {
            work = work;
            stage = refl;
            sized = on_sizes us ns (wanted ∷ left) g asked work refl refl refl refl refl refl
                refl;
            wanted = wanted;
            left = left;
            first = refl;
          };
          waits = inl refl;
        }))))
      where
        work : Work
        work = sized (wanted ∷ left) (base ++ ns) w

        now : Running
        now = at_stage r (Sizes work)

        asked : Running
        asked = record now { asking = Asked }

    -- those on which held locks serve are passed
    passes : (us : List Use) (ns : List ℕ) (wanted : Use) (left : List Use) (h : HeldLock) → Now us ns (wanted ∷ left)
        → serving wanted (held_at c p) ≡ Some h → Now (us ++ wanted ∷ []) (ns ++ size_under h.lock (store_at c p) ∷ []) left
    passes us ns wanted left h g e =
        record {
          ready = g.ready;
          settled = g.settled;
          handle = g.handle;
          glimpses = g.glimpses;
          file = g.file;
          of_file = g.of_file;
          fid = g.fid;
          layout = g.layout;
          from = g.from;
          all = g.all ∙ ap (λ (xs : List Use). passed ++ xs) (sym (append_assoc us (wanted ∷ []) left));
          each = g.each;
          sized = all_more (held_at c p) (store_at c p) us ns wanted h g.sized e;
          nothing = g.nothing;
          had = g.had;
          uses = g.uses;
          mine = g.mine;
        }

    glimpses_good : (left us : List Use) (ns : List ℕ) → Now us ns left
        → Going head c stamp slot r before (glimpses at slot left (base ++ ns) r w (store_at c p)) p
    glimpses_good [] us ns g = sizes_told us ns g
    glimpses_good (wanted ∷ left) us ns g =
        by (serving wanted (held_at c p)) refl (λ h k. glimpses_good left (us ++ wanted ∷ []) (ns ++ size_under h.lock (store_at c p) ∷ [])
        k)
      where
        by : (o : Option HeldLock) → serving wanted (held_at c p) ≡ o
            → ((h : HeldLock) → Now (us ++ wanted ∷ []) (ns ++ size_under h.lock (store_at c p) ∷ []) left
            → Going head c stamp slot r before (glimpses at slot left (base ++ (ns ++ size_under h.lock (store_at c p) ∷ [])) r w
            (store_at c p)) p)
            → Going head c stamp slot r before (glimpses_on (λ h. glimpses at slot left
            ((base ++ ns) ++ size_under h.lock (store_at c p) ∷ []) r w (store_at c p)) (asks_size slot wanted left (base ++ ns) r w) o)
            p
        by None e more = asks_good us ns wanted left g e
        by (Some h) e more =
            subst (λ (ms : List ℕ). Going head c stamp slot r before (glimpses at slot left ms r w (store_at c p)) p)
            (sym (append_assoc base ns (size_under h.lock (store_at c p) ∷ []))) (more h (passes us ns wanted left h g e))

    -- it asks for the lock on the next one
    lock_good : (wanted : Use) (left : List Use) → Now [] [] (wanted ∷ left) → LeftSize p at r base → serving wanted (held_at c p) ≡ None
        → Going head c stamp slot r before (asks_lock slot wanted r (sized (wanted ∷ left) base w)) p
    lock_good wanted left g left_size lacks covered =
        went_asks head c stamp slot r now wanted.target.0 (enqueue_of wanted) before p g.ready refl refl
        (owes_nothing p at (Stands slot now) g.settled)
        (record {
          running = r;
          call = g.ready.call;
          small = g.ready.small;
          still = g.ready.still;
          stage = Enqueued work;
          pins = r.pins;
          is = refl;
          how = inl (record {
            work = work;
            sizes = base;
            is = inr (refl, left_size);
            same = refl;
            kind = refl;
            before = passed;
            wanted = wanted;
            left = left;
            first = refl;
            has = subst (λ (ms : List ℕ). HasSizes p at r ms passed (wanted ∷ left)) (ends base)
                (subst (λ (xs : List Use). HasSizes p at r (base ++ []) xs (wanted ∷ left)) (ends passed)
                (has_sizes [] [] (wanted ∷ left) g));
            lacks = lacks;
          });
          had = g.had;
          uses = g.uses;
          mine = g.mine;
        }) covered.0 tt
        (inr (inr (inl (record {
          work = work;
          stage = refl;
          still = g.ready.still;
          wanted = wanted;
          left = left;
          first = refl;
          among = among;
          of_target = refl;
          object = covered.0.0;
          mode = inl one.1;
          extent = one.0.extent;
          policy = one.0.policy;
          of_op = enqueues wanted one.0;
        }))))
        (in_order wanted one.0 PR one.1 (inl refl))
        (λ who patches. inl (inr (inr (inl (record {
          work = work;
          stage = refl;
          wanting = record { works = inr whole; wanted = wanted; left = left; first = refl };
        })))))
      where
        work : Work
        work = sized (wanted ∷ left) base w

        now : Running
        now = at_stage r (Enqueued work)

        asked : Running
        asked = record now { asking = Asked }

        whole : OnSizes asked work
        whole =
            let z = on_sizes [] [] (wanted ∷ left) g asked (sized (wanted ∷ left) (base ++ []) w) refl refl refl refl refl refl refl in
            subst (λ (ms : List ℕ). OnSizes asked (sized (wanted ∷ left) ms w)) (ends base) z

        among : In wanted (wanted_by work)
        among =
            subst (λ (l : Raid0). In wanted (wants_of l w.fid (Glimpses base))) (sym g.layout)
            (subst (λ (f : Fid). In wanted (wants_of g.file.layout f (Glimpses base))) (sym g.fid)
            (subst (λ (us : List Use). In wanted us) (sym g.all) (in_right wanted passed (wanted ∷ left) (inl refl))))

        one : ByteUse wanted × (wanted.mode ≡ PR)
        one = wants_ok w.layout w.fid (Glimpses base) tt wanted among

    left_good : (wanted : Use) (left : List Use) → Now [] [] (wanted ∷ left) → LeftSize p at r base
        → Going head c stamp slot r before (glimpse_asks at slot (wanted ∷ left) base r w (store_at c p)) p
    left_good wanted left g left_size = by (serving wanted (held_at c p)) refl
      where
        by : (o : Option HeldLock) → serving wanted (held_at c p) ≡ o
            → Going head c stamp slot r before (glimpses_on (λ h. glimpses at slot left (base ++ size_under h.lock (store_at c p) ∷ []) r w
            (store_at c p)) (asks_lock slot wanted r (sized (wanted ∷ left) base w)) o) p
        by None e = lock_good wanted left g left_size e
        by (Some h) e = glimpses_good left (wanted ∷ []) (size_under h.lock (store_at c p) ∷ []) (passes [] [] wanted left h g e)

  -- ---- as it begins, hears, looks anew, or gets a lock

  pub glimpse_begins : (slot : ℕ) (r : Running) (f : HandleFile) (handle : ℕ) (w : Work) (before p : List Line)
      → Ready head c stamp slot r before p → Settled p → IsGlimpse r handle → r.file ≡ Some f → r.pins ≡ [] → r.stage ≡ Plain → r.asking
      ≡ Unasked
      → r.at ≡ at → w.fid ≡ f.fid → w.layout ≡ f.layout → w.used ≡ []
      → Going head c stamp slot r before (glimpses at slot (wants_of f.layout f.fid (Glimpses [])) [] r w (store_at c p)) p
  glimpse_begins slot r f handle w before p y settled glimpses of_file nothing plain new begun fid layout unused =
      glimpses_good slot r w [] [] before p (wants_of f.layout f.fid (Glimpses [])) [] [] (record {
        ready = y;
        settled = settled;
        handle = handle;
        glimpses = glimpses;
        file = f;
        of_file = of_file;
        fid = fid;
        layout = layout;
        from = record { so_far = λ held. inl (record { plain = plain; new = new; begun = begun }); count = λ held. refl };
        all = refl;
        each = refl;
        sized = tt;
        nothing = nothing;
        had = λ u i. absurd (subst (λ (us : List Using). In u us) unused i);
        uses = λ u i. absurd (subst (λ (us : List Using). In u us) unused i);
        mine = λ u i. absurd (subst (λ (us : List Using). In u us) unused i);
      })

  -- it goes on with these sizes, behind which come those under held locks
  module _ (slot : ℕ) (r : Running) (before p : List Line) (y : Ready head c stamp slot r before p) (settled : Settled p) (w : Work)
      (works : work_in r.stage ≡ Some w) (z : OnSizes r w) (wanted : Use) (left : List Use) (first : w.left ≡ wanted ∷ left) where
    goes_on : (base : List ℕ) (passed rest : List Use) → From p r base → wants_of z.file.layout z.file.fid (Glimpses []) ≡ passed ++ rest
        → length passed ≡ length base → Glimpsing slot r w base passed [] [] rest before p
    goes_on base passed rest from all each =
        record {
          ready = y;
          settled = settled;
          handle = z.handle;
          glimpses = z.glimpses;
          file = z.file;
          of_file = z.of_file;
          fid = z.fid;
          layout = z.layout;
          from = from;
          all = all;
          each = each;
          sized = tt;
          nothing = z.nothing;
          had = λ u i. had_all (the_head head c stamp) p y.good.grown c slot r y.call u (in_use u i);
          uses = λ u i. inl (in_use u i);
          mine = λ u i. mine_all (the_head head c stamp) p y.good.grown c slot r y.call u (in_use u i);
        }
      where
        in_use : (u : Using) → In u w.used → In u (used_in r.stage)
        in_use u i = subst (λ (o : Option Work). In u (used_of o)) (sym works) i

    -- with one more size
    all_one : wants_of z.file.layout z.file.fid (Glimpses []) ≡ (z.before ++ wanted ∷ []) ++ left
    all_one = z.all ∙ ap (λ (us : List Use). z.before ++ us) first ∙ sym (append_assoc z.before (wanted ∷ []) left)

    each_one : (size : ℕ) → length (z.before ++ wanted ∷ []) ≡ length (z.sizes ++ size ∷ [])
    each_one size = one_more z.before wanted ∙ ap suc z.each ∙ sym (one_more z.sizes size)

    with_one : (size : ℕ) → From p r (z.sizes ++ size ∷ []) → Going head c stamp slot r before
        (glimpses at slot left (z.sizes ++ size ∷ []) r w (store_at c p)) p
    with_one size from =
        subst (λ (ms : List ℕ). Going head c stamp slot r before (glimpses at slot left ms r w (store_at c p)) p)
        (ends (z.sizes ++ size ∷ []))
        (glimpses_good slot r w (z.sizes ++ size ∷ []) (z.before ++ wanted ∷ []) before p left [] []
        (goes_on (z.sizes ++ size ∷ []) (z.before ++ wanted ∷ []) left from all_one (each_one size)))

    -- its target left it to the lock, or it looks anew
    abbrev IsLeft : Type 0
    IsLeft = ((r.stage ≡ Sizes w) × ((target : ℕ) × (reply : ReplyTo) × (r.asking ≡ Answered target reply) × JustHeard p at target reply
        × (reply.answer ≡ answer.Lock))) ⊎ (r.stage ≡ Looks w)

    left_on : IsLeft → Going head c stamp slot r before (glimpse_asks at slot (wanted ∷ left) z.sizes r w (store_at c p)) p
    left_on is =
        left_good slot r w z.sizes z.before before p wanted left
        (goes_on z.sizes z.before (wanted ∷ left) (record {
          so_far =
              λ held. inr (inr (inl (record { work = w; stage = is; before = z.sizes; kind = z.kind; held = held; more = refl })));
          count =
              λ held. refl;
        })
        (z.all ∙ ap (λ (us : List Use). z.before ++ us) first) z.each)
        (record { work = w; stage = is; before = z.sizes; kind = z.kind; held = []; more = sym (ends z.sizes) })

    -- the lock came
    came_on : (m : Coming c p r) → m.work ≡ w → m.wanting.wanted ≡ wanted
        → Going head c stamp slot r before (glimpse_comes at slot m.lock (wanted ∷ left) z.sizes r w (store_at c p)) p
    came_on m same wants =
        let size = size_under m.lock (store_at c p) in
        with_one size (record {
          so_far = λ held. inr (inr (inr (record {
            work = w;
            lock = m.lock;
            stage = m.stage ∙ ap (λ (v : Work). Came v m.lock) same;
            wanted = wanted;
            left = left;
            first = first;
            holding = m.holding;
            holds = m.held;
            of_target = m.of_target ∙ ap (λ (u : Use). u.target.0) wants;
            is = m.is;
            of_object = m.of_object ∙ ap (λ (u : Use). u.resource) wants;
            ranged = m.ranged;
            before = z.sizes;
            kind = z.kind;
            held = held;
            more = append_assoc z.sizes (size ∷ []) held;
          })));
          count = λ held. sym (one_more z.sizes size);
        })

    -- the target answered
    heard_on : (target : ℕ) (reply : ReplyTo) → r.stage ≡ Sizes w → r.asking ≡ Answered target reply → JustHeard p at target reply
        → (a : Answer) → reply.answer ≡ a
        → Going head c stamp slot r before (glimpse_hears at slot (wanted ∷ left) z.sizes a r w (store_at c p)) p
    heard_on target reply is answered heard (answer.Size size) e =
        with_one size (record {
          so_far = λ held. inr (inl (record {
            work = w;
            stage = is;
            before = z.sizes;
            kind = z.kind;
            target = target;
            reply = reply;
            answered = answered;
            heard = heard;
            size = size;
            tells = e;
            held = held;
            more = append_assoc z.sizes (size ∷ []) held;
          }));
          count = λ held. sym (one_more z.sizes size);
        })
    heard_on target reply is answered heard answer.Lock e = left_on (inl (is, (target, reply, answered, heard, e)))
    heard_on target reply is answered heard a e =
        λ covered. record {
          good = y.good;
          settled = settled;
          handles = y.handles;
          kept = y.kept;
          own = inr (record {
            now = r;
            call = y.call;
            same = refl;
            file = refl;
            rests = inl (inr (inl (record {
              sizing = record {
                work = w;
                stage = is;
                sized = z;
                wanted = wanted;
                left = left;
                first =
                    first;
              };
              waits = inr (subst IsUnheard (sym answered) (subst TellsNothing (sym e) tt));
            })));
          });
        }

  -- it hears
  pub glimpse_heard : (slot : ℕ) (r : Running) (before p : List Line) → Ready head c stamp slot r before p → Settled p
      → (g : Sizing r) (target : ℕ) (reply : ReplyTo) → r.asking ≡ Answered target reply → JustHeard p at target reply
      → Going head c stamp slot r before (sizes_heard at slot r.asking g.work.kind r g.work (store_at c p)) p
  glimpse_heard slot r before p y settled g target reply answered heard =
      subst (λ (es : List Entry). Going head c stamp slot r before es p)
      (sym (ap (λ (x : Asking). sizes_heard at slot x g.work.kind r g.work (store_at c p)) answered
      ∙ ap (λ (k : Kind). sizes_heard at slot (Answered target reply) k r g.work (store_at c p)) g.sized.kind
      ∙ ap (λ (us : List Use). glimpse_hears at slot us g.sized.sizes reply.answer r g.work (store_at c p)) g.first))
      (heard_on slot r before p y settled g.work (ap work_in g.stage) g.sized g.wanted g.left g.first target reply g.stage answered heard
      reply.answer refl)

  -- it looks anew
  pub glimpse_anew : (slot : ℕ) (r : Running) (before p : List Line) → Ready head c stamp slot r before p → Settled p → (l : Looking r)
      → OnSizes r l.work
      → Going head c stamp slot r before (looks_at at slot l.work.kind r l.work (store_at c p)) p
  glimpse_anew slot r before p y settled l z =
      let k = l.some z in
      subst (λ (es : List Entry). Going head c stamp slot r before es p)
      (sym (ap (λ (x : Kind). looks_at at slot x r l.work (store_at c p)) z.kind
      ∙ ap (λ (us : List Use). glimpse_asks at slot us z.sizes r l.work (store_at c p)) k.2))
      (left_on slot r before p y settled l.work (ap work_in l.stage) z k.0 k.1 k.2 (inr l.stage))

  -- the lock came that it asked for
  pub glimpse_came : (slot : ℕ) (r : Running) (before p : List Line) → Ready head c stamp slot r before p → Settled p → (m : Coming c p r)
      → OnSizes r m.work
      → Going head c stamp slot r before (comes_at at slot m.work.kind r m.work (store_at c p) m.lock) p
  glimpse_came slot r before p y settled m z =
      subst (λ (es : List Entry). Going head c stamp slot r before es p)
      (sym (ap (λ (x : Kind). comes_at at slot x r m.work (store_at c p) m.lock) z.kind
      ∙ ap (λ (us : List Use). glimpse_comes at slot m.lock us z.sizes r m.work (store_at c p)) m.wanting.first))
      (came_on slot r before p y settled m.work (ap work_in m.stage) z m.wanting.wanted m.wanting.left m.wanting.first m refl refl)
