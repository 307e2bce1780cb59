-- How a read goes on, and a stat of a file, with all their locks in use. A read fetches the first page that is missing of its positions;
-- with none
-- missing a narrow one that has reached is told its bytes, one that hasn't unpins its locks and looks for those to the end, and then it is
-- told its bytes up to the file's size. A stat is told the file's size. So each call on bytes makes allowed lines, once it begins, once its
-- lock came, and once it looks anew.
use Rattle.std.proofs.Common.{◌/◌}
use Rattle.lu_base.specs.declared.ids.Fid.{Fid}
use Rattle.lu_msg.specs.declared.operations.Op.TheVariants as op
use Rattle.std.proofs.Common.{◌≡◌, ℕ, ◌+◌, Bool, true, false, List, [], ◌∷◌, ◌++◌, ◌⊎◌, inl, inr, ⊎_elim, Option, Some, None, refl, sym}
use Rattle.std.proofs.Common.{subst, ap, ◌∙◌, ◌-◌}
use Rattle.std.specs.Prelude.{map, if◌then◌else◌, min}
use Rattle.lu_base.specs.declared.ids.At.{At}
use Rattle.lu_base.specs.declared.ids.Node.TheVariants.{Client}
use Rattle.lu_base.specs.declared.ids.Stamp.{Stamp}
use Rattle.lu_base.specs.declared.locks.Mode.TheVariants.{PR, PW}
use Rattle.lu_held.specs.declared.locks.Use.{Use}
use Rattle.lu_held.specs.declared.names.LockName.{LockName}
use Rattle.lu_spec_entries.specs.declared.uses.Using.{Using}
use Rattle.lu_spec_entries.specs.Carried.{Kind, Narrow, Wide, Writes, Cuts, Stats, Asked, Work, Running, Glimpses, Gets}
use Rattle.lu_spec_entries.specs.Words.{Entry, Told, Stands, Unpins, Line, line, with_turn}
use Rattle.lu_spec_client.specs.Advances.{looks, unpins, tells, gets, reads_wide, widened, widens, reads_narrow, acts}
use Rattle.lu_spec_client.specs.States.{Store, store_turn, store_at}
use Rattle.lu_spec_run.specs.Heads as table
use Rattle.lu_proof_lawful.proofs.Preconditions.Guards.{In, ReadsOn, ChangesOn, wanted_by, HadLock, Owes, ReadTells, PinsSince, Wider}
use Rattle.lu_proof_lawful.proofs.Preconditions.Lists.{turn, turn_more}
use Rattle.lu_proof_lawful.proofs.Preconditions.ClientLines.{ends}
use Rattle.lu_proof_lawful.proofs.Preconditions.CallMoves.{Ready, Went, went_asks, ready_unpins, went_told}
use Rattle.lu_proof_lawful.proofs.Preconditions.ClientLooks.{mode_of, used_or_left}
use Rattle.lu_msg.specs.declared.answers.Answer.TheVariants as answer
use Rattle.lu_spec_client.specs.Looks.{Page, missing_under, missing, content, file_size, has_reached}
use Rattle.lu_spec_client.specs.Bytes.{page_size}
use Rattle.lu_spec_client.specs.Stripes.{below_on, stripes}
use Rattle.lu_spec_client.specs.Wants.{wants_of}
use Rattle.lu_proof_lawful.proofs.Preconditions.ClientHandles.{IsNoOpen, other_tied}
use Rattle.lu_proof_lawful.proofs.Preconditions.Covers.{covered_right}
use Rattle.lu_proof_lawful.proofs.Preconditions.ClientTakes.{changes_mode, Seeks, reads_as, store_now, ReadOf, StatFor, ChangeOf, Seeking}
use Rattle.lu_proof_lawful.proofs.Preconditions.ClientTakes.{Going, looks_good}
use Rattle.lu_layout.specs.Raid0.{Raid0}
use Rattle.lu_proof_lawful.proofs.Preconditions.ClientWrites.{writes_good, cuts_good}

-- a glimpse goes its own way
abbrev pub IsOnBytes : Kind → Type 0
IsOnBytes (Glimpses sizes) = ⊥
IsOnBytes _ = Unit {0}

-- a page that is missing is fetched under a lock in use
missing_in : (l : Raid0) (p end : ℕ) (s : Store) (us : List Using) (g : Page) → missing l p end s us ≡ Some g → In g.under us
missing_in l p end s [] g e = absurd (cc)
missing_in l p end s (u ∷ us) g e = by (missing_under u.lock (below_on l u.want.resource.stripe p) (below_on l u.want.resource.stripe end)
    s) e (missing_in l p end s us g)
  where
    by : (o : Option ℕ) → (elim o [ None ↦ missing l p end s us | Some offset ↦ Some (record { under = u; page = offset / page_size }) ])
        ≡ Some g → (missing l p end s us ≡ Some g → In g.under us) → In g.under (u ∷ us)
    by None q more = inr (more q)
    by (Some offset) q more = inl (let same : record { under = u; page = offset / page_size } ≡ g = cc in ap (λ (x : Page). x.under) same)

-- what a read says of its positions
record Spans (r : Running) (w : Work) (on : ReadsOn r w) (o n : ℕ) : Type 0 where
  first : o ≡ on.read.offset
  many : n ≡ on.read.count

narrow_spans : (r : Running) (w : Work) (on : ReadsOn r w) (o n : ℕ) → w.kind ≡ Narrow o n → Spans r w on o n
narrow_spans r w on o n e = by on.kind
  where
    by : (w.kind ≡ Narrow on.read.offset on.read.count) ⊎ (w.kind ≡ Wide on.read.offset on.read.count) → Spans r w on o n
    by (inl q) = let s : Narrow o n ≡ Narrow on.read.offset on.read.count = sym e ∙ q in record { first = cc; many = cc }
    by (inr q) = absurd (let s : Narrow o n ≡ Wide on.read.offset on.read.count = sym e ∙ q in cc)

wide_spans : (r : Running) (w : Work) (on : ReadsOn r w) (o n : ℕ) → w.kind ≡ Wide o n → Spans r w on o n
wide_spans r w on o n e = by on.kind
  where
    by : (w.kind ≡ Narrow on.read.offset on.read.count) ⊎ (w.kind ≡ Wide on.read.offset on.read.count) → Spans r w on o n
    by (inl q) = absurd (let s : Wide o n ≡ Narrow on.read.offset on.read.count = sym e ∙ q in cc)
    by (inr q) = let s : Wide o n ≡ Wide on.read.offset on.read.count = sym e ∙ q in record { first = cc; many = cc }

the_first : (o n a b : ℕ) → Wide o n ≡ Wide a b → o ≡ a
the_first o n a b e = cc

the_count : (o n a b : ℕ) → Wide o n ≡ Wide a b → n ≡ b
the_count o n a b e = cc

no_reads : (r : Running) (w : Work) (on : ReadsOn r w) (k : Kind) → w.kind ≡ k → (k ≡ Narrow on.read.offset on.read.count → ⊥)
    → (k ≡ Wide on.read.offset on.read.count → ⊥) → ⊥
no_reads r w on k e a b = ⊎_elim (λ (q : w.kind ≡ Narrow on.read.offset on.read.count). a (sym e ∙ q))
    (λ (q : w.kind ≡ Wide on.read.offset on.read.count). b (sym e ∙ q)) on.kind

no_changes : (r : Running) (w : Work) → ChangesOn r w → (k : Kind) → w.kind ≡ k → mode_of k ≡ PR → ⊥
no_changes r w on k e m = let q : PW ≡ PR = sym (changes_mode r w on) ∙ ap mode_of e ∙ m in cc

module _ (head : table.Head) (c : ℕ) (stamp : Stamp) where
  abbrev at : At
  at = turn stamp (Client c)

  -- ---- all of its locks are in use

  module _ (slot : ℕ) (r : Running) (kind : Kind) (pins : List LockName) (w : Work) (before p : List Line)
      (g : Seeking head c stamp slot r kind pins w [] before p) where
    wants : wanted_by w ≡ map (λ (u : Using). u.want) w.used
    wants = g.order ∙ ends (map (λ (u : Using). u.want) w.used)

    -- of each object that it wants it had a lock
    locked : (x : Use) → In x (wanted_by w) → HadLock c slot x p
    locked x i =
        ⊎_elim (λ (k : (u : Using) × In u w.used × (u.want ≡ x)). subst (λ (y : Use). HadLock c slot y p) k.2 (g.had k.0 k.1))
        (λ (n : ⊥). absurd n)
        (used_or_left (wanted_by w) (record w { left = [] }) g.order x i)

    -- a missing page is fetched
    gets_good : (on : ReadsOn r w) (wider : Wider c p r w) (page : Page)
        → missing w.layout on.read.offset (on.read.offset + on.read.count) (store_at c p) w.used ≡ Some page
        → Going head c stamp slot r before (gets slot page (record r { pins = pins }) w) p
    gets_good on wider page lacks covered =
        went_asks head c stamp slot r now page.under.want.target.0 (op.Get page.under.want.resource page.under.lock.cookie page.page) before
        p g.ready refl refl (g.due (Stands slot now) refl)
        (record {
          running = r;
          call = g.ready.call;
          small = g.ready.small;
          still = g.ready.still;
          stage = Gets w;
          pins = pins;
          is = refl;
          how = inr (inr (inr (inl (record {
            work = w;
            is = refl;
            does = on;
            wants = wants;
            mine = g.mine;
            page = page;
            lacks = lacks;
            wider = wider;
          }))));
          had = g.had;
          uses = g.uses;
          mine = g.mine;
        }) covered.0 tt
        (inr (inr (inr (record {
          work = w;
          stage = refl;
          still = g.ready.still;
          read = reads_as r now w w refl refl (λ e. absurd (cc)) refl refl refl on;
          page = page;
          lacks = lacks;
          used = under;
          pinned = g.mine page.under under;
          of_target = refl;
          object = g.objects page.under under;
          of_op = refl;
        })))) tt
        (λ who patches. inl (inr (inr (inr (inr (inr (record {
          work = w;
          stage = refl;
          reads = reads_as r asked w w refl refl (λ e. absurd (cc)) refl refl refl on;
          bytes = record {
            does = inl (reads_as r asked w w refl refl (λ e. absurd (cc)) refl refl refl on);
            order = g.order
                ∙ ap (λ (us : List Use). map (λ (u : Using). u.want) w.used ++ us) (sym g.rest);
            mine = g.mine;
            objects = g.objects;
          };
          all = g.rest;
        })))))))
      where
        now : Running
        now = record r { stage = Gets w; pins = pins }

        asked : Running
        asked = record now { asking = Asked }

        under : In page.under w.used
        under = missing_in w.layout on.read.offset (on.read.offset + on.read.count) (store_at c p) w.used page lacks

    -- a read is told its bytes
    read_told : (on : ReadsOn r w) (bytes : List ℕ) → ReadTells (store_at c p) w on.read.offset on.read.count (answer.Content bytes)
        → Going head c stamp slot r before (tells slot (record r { pins = pins }) at (answer.Content bytes) (Some w)) p
    read_told on bytes told covered =
        let e = Told slot at (answer.Content bytes) (Some w) in
        went_told head c stamp slot r at (answer.Content bytes) (Some w) pins before p g.ready (g.due e refl)
        (inr (inr (inr (inr (inr (inr (inl (record {
          running = r;
          call = g.ready.call;
          still = g.ready.still;
          done = w;
          of_work = refl;
          does = on;
          wants = wants;
          locked = locked;
          uses = g.uses;
          of_turn = refl;
          tells = told;
        }))))))))
        (other_tied c stamp p slot at (answer.Content bytes) (Some w) r g.ready.call (subst IsNoOpen (sym on.read.reads) tt)
        g.ready.handles)

    -- a stat is told the file's size
    size_told : (mode links : ℕ) → (d : StatFor head c stamp r pins w p) → w.kind ≡ Stats mode links
        → Going head c stamp slot r before (acts at slot (Stats mode links) (record r { pins = pins }) w (store_at c p)) p
    size_told mode links d is covered =
        let size = file_size w.layout (stripes w.layout) w.used (store_at c p) in
        let a = answer.FileSize w.fid mode links size in
        let e = Told slot at a (Some w) in
        let q : Stats mode links ≡ Stats d.stat.mode d.stat.links = sym is ∙ d.is_kind in
        let of_mode : mode ≡ d.stat.mode = cc in
        let of_links : links ≡ d.stat.links = cc in
        went_told head c stamp slot r at a (Some w) pins before p g.ready (g.due e refl)
        (inr (inr (inr (inr (inr (inr (inr (inl (record {
          running = r;
          call = g.ready.call;
          still = g.ready.still;
          pins = pins;
          stat = d.stat;
          done = w;
          of_work = refl;
          kind = d.is_kind;
          of_fid = d.fid;
          of_layout = d.layout;
          wants = wants;
          locked = locked;
          uses = g.uses;
          of_turn = refl;
          of_answer =
              ap (λ (x : Fid). answer.FileSize x mode links size) d.fid ∙ ap (λ (x : ℕ). answer.FileSize d.stat.fid x links size) of_mode
              ∙ ap (λ (x : ℕ). answer.FileSize d.stat.fid d.stat.mode x size) of_links;
        })))))))))
        (other_tied c stamp p slot at a (Some w) r g.ready.call (subst IsNoOpen (sym d.stat.stats) tt) g.ready.handles)

    -- one to the end is told the bytes up to the file's size
    wide_good : (o n : ℕ) → w.kind ≡ Wide o n → (on : ReadsOn r w) → Wider c p r w
        → Going head c stamp slot r before (reads_wide at slot o n (record r { pins = pins }) w (store_at c p)) p
    wide_good o n is on wider = by (missing w.layout o (o + n) s w.used) refl
      where
        s : Store
        s = store_at c p

        k : Spans r w on o n
        k = wide_spans r w on o n is

        count : ℕ
        count = min n (file_size w.layout (stripes w.layout) w.used s - o)

        so : missing w.layout o (o + n) s w.used ≡ missing w.layout on.read.offset (on.read.offset + on.read.count) s w.used
        so = ap (λ (x : ℕ). missing w.layout x (x + n) s w.used) k.first
            ∙ ap (λ (x : ℕ). missing w.layout on.read.offset (on.read.offset + x) s w.used) k.many

        by : (m : Option Page) → missing w.layout o (o + n) s w.used ≡ m
            → Going head c stamp slot r before (elim m [
              | Some page ↦ gets slot page (record r { pins = pins }) w
              | None
                  ↦ tells slot (record r { pins = pins }) at (answer.Content (content w.layout w.fid s o count)) (Some w)
            ]) p
        by (Some page) e = gets_good on wider page (sym so ∙ e)
        by None e =
            read_told on (content w.layout w.fid s o count) (
              sym so ∙ e,
              inr (
                is ∙ ap (λ (x : ℕ). Wide x n) k.first ∙ ap (Wide on.read.offset) k.many,
                ap (λ (x : ℕ). answer.Content (content w.layout w.fid s x (min n (file_size w.layout (stripes w.layout) w.used s - x))))
                    k.first
                    ∙ ap (λ (x : ℕ). answer.Content (content w.layout w.fid s on.read.offset
                    (min x (file_size w.layout (stripes w.layout) w.used s - on.read.offset)))) k.many,
              ),
            )

  -- it unpins its locks
  unpins_ready : (slot : ℕ) (r : Running) (names : List LockName) (before p : List Line) → Ready head c stamp slot r before p
      → ((n : LockName) → Owes p at (Unpins n)) → Ready head c stamp slot r before (with_turn at (unpins names) p)
  unpins_ready slot r [] before p y frees = y
  unpins_ready slot r (n ∷ names) before p y frees = unpins_ready slot r names before (line at (Unpins n) ∷ p)
      (ready_unpins head c stamp slot r n before p y (frees n)) frees

  unpins_due : (names : List LockName) (p : List Line) (P : Entry → Type 0) → ((e : Entry) → P e → Owes p at e) → (e : Entry) → P e
      → Owes (with_turn at (unpins names) p) at e
  unpins_due [] p P due = due
  unpins_due (m ∷ names) p P due = unpins_due names (line at (Unpins m) ∷ p) P due

  unpins_since : (names : List LockName) (p : List Line) → PinsSince p (with_turn at (unpins names) p)
  unpins_since names p = on names p p (same p)
    where
      same : (p : List Line) → PinsSince p p
      same [] = refl
      same (l ∷ p) = inl refl

      on : (names : List LockName) (p q : List Line) → PinsSince p q → PinsSince p (with_turn at (unpins names) q)
      on [] p q k = k
      on (m ∷ names) p q k = on names p (line at (Unpins m) ∷ q) (inr k)

  -- and looks for those to the end
  widens_good : (slot : ℕ) (r : Running) (o n : ℕ) (pins : List LockName) (w : Work) (before p : List Line)
      → (g : Seeking head c stamp slot r (Narrow o n) pins w [] before p) → (d : ReadOf head c stamp r w p)
      → missing w.layout d.on.read.offset (d.on.read.offset + d.on.read.count) (store_at c p) w.used ≡ None
      → has_reached w.layout (d.on.read.offset + d.on.read.count - 1) w.used (store_at c p) ≡ false
      → Going head c stamp slot r before (widens at slot o n (record r { pins = pins }) w (store_at c p)) p
  widens_good slot r o n pins w before p g d none short covered =
      subst (Went head c stamp slot r before) (sym (turn_more at (unpins pins) (lines (store_turn (store_at c p) (unpins pins))) p))
      (subst (λ (s : Store). Going head c stamp slot r before (lines s) p1) (sym (store_now head c stamp (unpins pins) p)) on
      (covered_right (unpins pins) (lines (store_turn (store_at c p) (unpins pins))) covered))
    where
      p1 : List Line
      p1 = with_turn at (unpins pins) p

      wide : Work
      wide = widened o n w

      lines : Store → List Entry
      lines s = looks slot (reads_wide at slot o n) wide.left (record r { pins = [] }) wide s

      k : Spans r w d.on o n
      k = narrow_spans r w d.on o n g.of_kind

      reads : ReadsOn r wide
      reads = record {
        read = d.on.read;
        kind = inr (ap (λ (x : ℕ). Wide x n) k.first ∙ ap (Wide d.on.read.offset) k.many);
        fid = d.on.fid;
        layout = d.on.layout;
      }

      wider : Wider c p1 r wide
      wider a b e =
          let q : Wide o n ≡ Wide a b = e in
          let at_a : d.on.read.offset ≡ a = sym k.first ∙ the_first o n a b q in
          let many_b : d.on.read.count ≡ b = sym k.many ∙ the_count o n a b q in
          let same : Narrow a b ≡ w.kind = sym (ap (λ (x : ℕ). Narrow x n) (the_first o n a b q) ∙ ap (Narrow a) (the_count o n a b q))
          ∙ sym g.of_kind in
          inr (record {
            before = p;
            since = unpins_since pins p;
            used = w.used;
            wants = ap (wants_of w.layout w.fid) same ∙ g.order ∙ ends (map (λ (u : Using). u.want) w.used);
            uses = g.uses;
            none = subst (λ (x : ℕ). missing w.layout a (a + x) (store_at c p) w.used ≡ None) many_b
                (subst (λ (x : ℕ). missing w.layout x (x + d.on.read.count) (store_at c p) w.used ≡ None) at_a none);
            short = subst (λ (x : ℕ). has_reached w.layout (a + x - 1) w.used (store_at c p) ≡ false) many_b
                (subst (λ (x : ℕ). has_reached w.layout (x + d.on.read.count - 1) w.used (store_at c p) ≡ false) at_a short);
          })

      told : (ps : List LockName) (v : Work) (q : List Line) → Seeking head c stamp slot r (Wide o n) ps v [] before q
          → Going head c stamp slot r before (reads_wide at slot o n (record r { pins = ps }) v (store_at c q)) q
      told ps v q h = by h.does
        where
          by : ReadOf head c stamp r v q ⊎ StatFor head c stamp r ps v q ⊎ ChangeOf head c stamp r v q
              → Going head c stamp slot r before (reads_wide at slot o n (record r { pins = ps }) v (store_at c q)) q
          by (inl x) = wide_good slot r (Wide o n) ps v before q h o n h.of_kind x.on x.wider
          by (inr (inl x)) = absurd (let e : Wide o n ≡ Stats x.stat.mode x.stat.links = sym h.of_kind ∙ x.is_kind in cc)
          by (inr (inr x)) = absurd (no_changes r v x.on (Wide o n) h.of_kind refl)

      on : Going head c stamp slot r before (lines (store_at c p1)) p1
      on =
          looks_good head c stamp slot r (Wide o n) (reads_wide at slot o n) before told wide.left [] wide p1 (record {
            ready = unpins_ready slot r pins before p g.ready d.frees;
            due = unpins_due pins p (Seeks slot) g.due;
            of_kind = refl;
            does = inl (record {
              on = reads;
              wider = wider;
              frees =
                  λ m. unpins_due pins p (λ e. (x : LockName) × (e ≡ Unpins x))
                  (λ e x. subst (λ (y : Entry). Owes p at y) (sym x.1) (d.frees x.0)) (Unpins m) (m, refl);
            });
            rest = refl;
            order = refl;
            mine = λ u i. absurd i;
            objects = λ u i. absurd i;
            had = λ u i. absurd i;
            uses = λ u i. absurd i;
          })

  -- a narrow one that has reached is told all its bytes
  narrow_good : (slot : ℕ) (r : Running) (o n : ℕ) (pins : List LockName) (w : Work) (before p : List Line)
      → Seeking head c stamp slot r (Narrow o n) pins w [] before p → ReadOf head c stamp r w p
      → Going head c stamp slot r before (reads_narrow at slot o n (record r { pins = pins }) w (store_at c p)) p
  narrow_good slot r o n pins w before p g d = by (missing w.layout o (o + n) s w.used) refl
    where
      s : Store
      s = store_at c p

      on : ReadsOn r w
      on = d.on

      k : Spans r w on o n
      k = narrow_spans r w on o n g.of_kind

      so : missing w.layout o (o + n) s w.used ≡ missing w.layout on.read.offset (on.read.offset + on.read.count) s w.used
      so = ap (λ (x : ℕ). missing w.layout x (x + n) s w.used) k.first
          ∙ ap (λ (x : ℕ). missing w.layout on.read.offset (on.read.offset + x) s w.used) k.many

      Told_or : Bool → List Entry
      Told_or b = if b then tells slot (record r { pins = pins }) at (answer.Content (content w.layout w.fid s o n)) (Some w)
          else widens at slot o n (record r { pins = pins }) w s

      reached : missing w.layout o (o + n) s w.used ≡ None → (b : Bool) → has_reached w.layout (o + n - 1) w.used s ≡ b
          → Going head c stamp slot r before (Told_or b) p
      reached none true e =
          read_told slot r (Narrow o n) pins w before p g on (content w.layout w.fid s o n) (
            sym so ∙ none,
            inl (
              g.of_kind ∙ ap (λ (x : ℕ). Narrow x n) k.first ∙ ap (Narrow on.read.offset) k.many,
              sym (ap (λ (x : ℕ). has_reached w.layout (x + n - 1) w.used s) k.first
                  ∙ ap (λ (x : ℕ). has_reached w.layout (on.read.offset + x - 1) w.used s) k.many) ∙ e,
              ap (λ (x : ℕ). answer.Content (content w.layout w.fid s x n)) k.first
                  ∙ ap (λ (x : ℕ). answer.Content (content w.layout w.fid s on.read.offset x)) k.many,
            ),
          )
      reached none false e =
          widens_good slot r o n pins w before p g d (sym so ∙ none)
          (sym (ap (λ (x : ℕ). has_reached w.layout (x + n - 1) w.used s) k.first
          ∙ ap (λ (x : ℕ). has_reached w.layout (on.read.offset + x - 1) w.used s) k.many) ∙ e)

      by : (m : Option Page) → missing w.layout o (o + n) s w.used ≡ m
          → Going head c stamp slot r before (elim m [
            | Some page ↦ gets slot page (record r { pins = pins }) w
            | None
                ↦ Told_or (has_reached w.layout (o + n - 1) w.used s)
          ]) p
      by (Some page) e = gets_good slot r (Narrow o n) pins w before p g on d.wider page (sym so ∙ e)
      by None e = reached e (has_reached w.layout (o + n - 1) w.used s) refl

  -- ---- it acts

  pub acts_good : (slot : ℕ) (r : Running) (kind : Kind) (before : List Line) → IsOnBytes kind
      → (pins : List LockName) (w : Work) (p : List Line) → Seeking head c stamp slot r kind pins w [] before p
      → Going head c stamp slot r before (acts at slot kind (record r { pins = pins }) w (store_at c p)) p
  acts_good slot r (Narrow o n) before bytes pins w p g = by g.does
    where
      by : ReadOf head c stamp r w p ⊎ StatFor head c stamp r pins w p ⊎ ChangeOf head c stamp r w p
          → Going head c stamp slot r before (reads_narrow at slot o n (record r { pins = pins }) w (store_at c p)) p
      by (inl d) = narrow_good slot r o n pins w before p g d
      by (inr (inl d)) = absurd (let e : Narrow o n ≡ Stats d.stat.mode d.stat.links = sym g.of_kind ∙ d.is_kind in cc)
      by (inr (inr d)) = absurd (no_changes r w d.on (Narrow o n) g.of_kind refl)
  acts_good slot r (Wide o n) before bytes pins w p g = by g.does
    where
      by : ReadOf head c stamp r w p ⊎ StatFor head c stamp r pins w p ⊎ ChangeOf head c stamp r w p
          → Going head c stamp slot r before (reads_wide at slot o n (record r { pins = pins }) w (store_at c p)) p
      by (inl d) = wide_good slot r (Wide o n) pins w before p g o n g.of_kind d.on d.wider
      by (inr (inl d)) = absurd (let e : Wide o n ≡ Stats d.stat.mode d.stat.links = sym g.of_kind ∙ d.is_kind in cc)
      by (inr (inr d)) = absurd (no_changes r w d.on (Wide o n) g.of_kind refl)
  acts_good slot r (Writes o bs) before bytes pins w p g = by g.does
    where
      by : ReadOf head c stamp r w p ⊎ StatFor head c stamp r pins w p ⊎ ChangeOf head c stamp r w p
          → Going head c stamp slot r before (acts at slot (Writes o bs) (record r { pins = pins }) w (store_at c p)) p
      by (inl d) = absurd (no_reads r w d.on (Writes o bs) g.of_kind (λ e. absurd (cc)) (λ e. absurd (cc)))
      by (inr (inl d)) = absurd (let e : Writes o bs ≡ Stats d.stat.mode d.stat.links = sym g.of_kind ∙ d.is_kind in cc)
      by (inr (inr d)) = writes_good head c stamp slot r (Writes o bs) pins w before p g d.on d.pays o bs g.of_kind
  acts_good slot r (Cuts n) before bytes pins w p g = by g.does
    where
      by : ReadOf head c stamp r w p ⊎ StatFor head c stamp r pins w p ⊎ ChangeOf head c stamp r w p
          → Going head c stamp slot r before (acts at slot (Cuts n) (record r { pins = pins }) w (store_at c p)) p
      by (inl d) = absurd (no_reads r w d.on (Cuts n) g.of_kind (λ e. absurd (cc)) (λ e. absurd (cc)))
      by (inr (inl d)) = absurd (let e : Cuts n ≡ Stats d.stat.mode d.stat.links = sym g.of_kind ∙ d.is_kind in cc)
      by (inr (inr d)) = cuts_good head c stamp slot r (Cuts n) pins w before p g d.on d.pays n g.of_kind
  acts_good slot r (Stats mode links) before bytes pins w p g = by g.does
    where
      by : ReadOf head c stamp r w p ⊎ StatFor head c stamp r pins w p ⊎ ChangeOf head c stamp r w p
          → Going head c stamp slot r before (acts at slot (Stats mode links) (record r { pins = pins }) w (store_at c p)) p
      by (inl d) = absurd (no_reads r w d.on (Stats mode links) g.of_kind (λ e. absurd (cc)) (λ e. absurd (cc)))
      by (inr (inl d)) = size_told slot r (Stats mode links) pins w before p g mode links d g.of_kind
      by (inr (inr d)) = absurd (no_changes r w d.on (Stats mode links) g.of_kind refl)
  acts_good slot r (Glimpses sizes) before bytes pins w p g = absurd bytes
