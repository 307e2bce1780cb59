-- How a call on bytes looks for its locks, one after another, in the order of stripes: it pins a held one that serves, or the one that
-- came, and
-- where none serves it asks for one and waits. Of each lock in use the client held one on that object since the call began.
use Rattle.std.proofs.Common.{◌≡◌, ℕ, ◌+◌, ◌<◌, ◌≤◌, Bool, true, false, List, [], ◌∷◌, ◌++◌, ◌⊎◌, inl, inr, ⊎_elim, Option, Some, None}
use Rattle.std.proofs.Common.{refl, sym, subst, ap, ◌∙◌, arith}
use Rattle.std.specs.Prelude.{map, if◌then◌else◌}
use Rattle.lu_base.specs.declared.ids.At.{At}
use Rattle.lu_base.specs.declared.ids.Cookie.{Cookie}
use Rattle.lu_base.specs.declared.ids.Node.TheVariants.{Client}
use Rattle.lu_base.specs.declared.ids.Stamp.{Stamp}
use Rattle.lu_base.specs.declared.ids.TargetId.{TargetId}
use Rattle.lu_base.specs.declared.locks.Lock.{Lock}
use Rattle.lu_base.specs.declared.locks.Mode.{Mode}
use Rattle.lu_base.specs.declared.locks.Mode.TheVariants.{PR, PW}
use Rattle.lu_lock.specs.Growth.{the_end}
use Rattle.lu_trace.specs.WellFormed.{IsCall}
use Rattle.lu_held.specs.declared.locks.Change.TheVariants as change
use Rattle.lu_held.specs.declared.locks.HeldLock.{HeldLock}
use Rattle.lu_held.specs.declared.locks.Use.{Use}
use Rattle.lu_held.specs.declared.locks.Wanted.TheVariants.{ServingToTheEnd}
use Rattle.lu_held.specs.declared.names.LockName.{LockName}
use Rattle.lu_held.specs.Locks.{named, name_of, is_named, reaches_end, matches, serves_use, after}
use Rattle.lu_held.specs.Held.{changed, serving}
use Rattle.lu_spec_entries.specs.declared.uses.Using.{Using}
use Rattle.lu_spec_entries.specs.Carried.{Kind, Narrow, Wide, Writes, Cuts, Stats, Asked, Bad, Work, Enqueued, Running}
use Rattle.lu_spec_entries.specs.Words.{Entry, Told, Stands, Pins, Unpins, Line, line, with_turn}
use Rattle.lu_spec_client.specs.Advances.{enqueue_of, asks_lock, name_under, using, Next, takes_up, looks_on, looks}
use Rattle.lu_spec_client.specs.Caches.{held_at}
use Rattle.lu_spec_client.specs.Facts.{facts_at}
use Rattle.lu_spec_client.specs.Known.{names_of, cookies_of_file}
use Rattle.lu_spec_client.specs.States.{Client as ClientState, Store, store_turn, store_at}
use Rattle.lu_proof_lawful.specs.Covered.Known.{notes_at, known_file}
use Rattle.lu_spec_run.specs.Heads as table
use Rattle.lu_spec_run.specs.Runs.{limits_of, client_of}
use Rattle.lu_proof_run.proofs.Clients.{client_own}
use Rattle.lu_proof_lawful.proofs.Preconditions.Guards.{HasRange, In, ReadsOn, ChangesOn, IsChange, wanted_by, KnowsFile, ToldFile, GoesOn}
use Rattle.lu_proof_lawful.proofs.Preconditions.Guards.{StatOf, LacksOf, Locked, HadLock, used_in, LockDoes, CameFor, EndFirst, HeldFor}
use Rattle.lu_proof_lawful.proofs.Preconditions.Guards.{UsesHeld, Narrowed, Wider, work_in, PinsOk, SizesStand, LockStand, StatStand}
use Rattle.lu_proof_lawful.proofs.Preconditions.Guards.{GetStand, FlushStand, MovedStand, Owes}
use Rattle.lu_proof_lawful.proofs.Preconditions.ClientStoryGuards.{AsksInOrder}
use Rattle.lu_proof_lawful.proofs.Preconditions.Lists.{self, in_append, in_left, in_right, turn}
use Rattle.lu_proof_lawful.proofs.Preconditions.Covers.{EntriesCovered}
use Rattle.lu_proof_lawful.proofs.Preconditions.Acts.{KindOf, bits_range}
use Rattle.lu_proof_lawful.proofs.Preconditions.Held.{held_in}
use Rattle.lu_proof_lawful.proofs.Preconditions.LockKinds.{held_kind}
use Rattle.lu_proof_lawful.proofs.Preconditions.ClientLocks.{in_mapped, changed_only}
use Rattle.lu_proof_lawful.proofs.Preconditions.ClientLines.{held_once, once_same}
use Rattle.lu_proof_lawful.proofs.Preconditions.Calls.{limited}
use Rattle.lu_proof_lawful.proofs.Preconditions.CallStands.{StatsOn}
use Rattle.lu_proof_lawful.proofs.Preconditions.ClientGood.{Good, the_head, held_line}
use Rattle.lu_proof_lawful.proofs.Preconditions.CallMoves.{Ready, ready_pins, Went, went_asks}
use Rattle.lu_proof_lawful.proofs.Preconditions.ClientKnown.{known_file_pinned, cookies_pinned}
use Rattle.lu_proof_lawful.proofs.Preconditions.ClientLooks.{IsShort, ByteUse, mode_of, wants_ok, wanted_in, enqueues, serving_is, Serves}
use Rattle.lu_proof_lawful.proofs.Preconditions.ClientLooks.{serves_so, does_so, store_so, serving_end}

-- one more lock in use
used_more : (us : List Using) (u : Using) (left : List Use) → map (λ (v : Using). v.want) (us ++ u ∷ []) ++ left
    ≡ map (λ (v : Using). v.want) us ++ u.want ∷ left
used_more [] u left = refl
used_more (v ∷ us) u left = ap (λ (xs : List Use). v.want ∷ xs) (used_more us u left)

-- what is held now was held since the call began
had_now : (c slot : ℕ) (x : Use) (p : List Line) → Locked c p x → HadLock c slot x p
had_now c slot x [] k = absurd k.held
had_now c slot x (l ∷ p) k = inl k

-- what it does while it looks
abbrev pub Seeks : ℕ → Entry → Type 0
Seeks slot (Pins name) = Unit {0}
Seeks slot (Stands s running) = s ≡ slot
Seeks slot (Told s turn answer work) = s ≡ slot
Seeks slot _ = ⊥

-- ---- the work of a call goes on as that of the same call

abbrev pub reads_as : (r q : Running) (w v : Work) → q.call ≡ r.call → q.file ≡ r.file → (q.stage ≡ Bad → ⊥) → v.kind ≡ w.kind → v.fid
    ≡ w.fid → v.layout ≡ w.layout → ReadsOn r w → ReadsOn q v
reads_as r q w v same file good kind fid layout d =
    record {
      read = record {
        handle = d.read.handle;
        offset = d.read.offset;
        count = d.read.count;
        reads = same ∙ d.read.reads;
        good = good;
        file =
            d.read.file;
        of_file = file ∙ d.read.of_file;
      };
      kind = ⊎_elim (λ (e : w.kind ≡ Narrow d.read.offset d.read.count). inl (kind ∙ e))
          (λ (e : w.kind ≡ Wide d.read.offset d.read.count). inr (kind ∙ e)) d.kind;
      fid = fid ∙ d.fid;
      layout = layout ∙ d.layout;
    }

abbrev pub changes_as : (r q : Running) (w v : Work) → q.call ≡ r.call → q.file ≡ r.file → (q.stage ≡ Bad → ⊥) → v.kind ≡ w.kind → v.fid
    ≡ w.fid → v.layout ≡ w.layout → ChangesOn r w → ChangesOn q v
changes_as r q w v same file good kind fid layout (inl d) =
    inl (record {
      handle = d.handle;
      offset = d.offset;
      bytes = d.bytes;
      writes = same ∙ d.writes;
      good = good;
      file = d.file;
      of_file = file ∙ d.of_file;
      kind = kind ∙ d.kind;
      fid = fid ∙ d.fid;
      layout = layout ∙ d.layout;
    })
changes_as r q w v same file good kind fid layout (inr d) =
    inr (record {
      handle = d.handle;
      size = d.size;
      cuts = same ∙ d.cuts;
      good = good;
      file = d.file;
      of_file = file ∙ d.of_file;
      kind =
          kind ∙ d.kind;
      fid = fid ∙ d.fid;
      layout = layout ∙ d.layout;
    })

-- ---- its positions are those of a file

-- what is asked for is a range in order
pub in_order : (x : Use) (b : ByteUse x) (mode : Mode) → x.mode ≡ mode → (mode ≡ PR) ⊎ (mode ≡ PW) → AsksInOrder (enqueue_of x)
in_order x b mode e either = subst AsksInOrder (sym (enqueues x b))
    (b.first, b.last, ⊎_elim (λ (q : mode ≡ PR). inl (e ∙ q)) (λ (q : mode ≡ PW). inr (e ∙ q)) either)

mode_either : (kind : Kind) → (mode_of kind ≡ PR) ⊎ (mode_of kind ≡ PW)
mode_either (Writes offset bytes) = inr refl
mode_either (Cuts size) = inr refl
mode_either kind = inl refl

reads_short : (r : Running) (w : Work) → IsCall r.call → ReadsOn r w → IsShort w.kind
reads_short r w limits d = by d.kind
  where
    most : d.read.offset + d.read.count ≤ the_end
    most = let k = subst IsCall d.read.reads limits in let low = k.3 in omega (arith, low)

    by : (w.kind ≡ Narrow d.read.offset d.read.count) ⊎ (w.kind ≡ Wide d.read.offset d.read.count) → IsShort w.kind
    by (inl e) = subst IsShort (sym e) most
    by (inr e) = subst IsShort (sym e) most

changes_short : (r : Running) (w : Work) → IsCall r.call → ChangesOn r w → IsShort w.kind
changes_short r w limits (inl d) = subst IsShort (sym d.kind) (let k = subst IsCall d.writes limits in let low = k.1.2
    in omega (arith, low))
changes_short r w limits (inr d) = subst IsShort (sym d.kind) (let k = subst IsCall d.cuts limits in let low = k.1 in omega (arith, low))

-- ---- in which mode

reads_mode : (r : Running) (w : Work) → ReadsOn r w → mode_of w.kind ≡ PR
reads_mode r w d = ⊎_elim (λ (e : w.kind ≡ Narrow d.read.offset d.read.count). ap mode_of e)
    (λ (e : w.kind ≡ Wide d.read.offset d.read.count). ap mode_of e) d.kind

changes_call : (r : Running) (w : Work) → ChangesOn r w → IsChange r.call
changes_call r w (inl d) = subst IsChange (sym d.writes) tt
changes_call r w (inr d) = subst IsChange (sym d.cuts) tt

pub changes_mode : (r : Running) (w : Work) → ChangesOn r w → mode_of w.kind ≡ PW
changes_mode r w (inl d) = ap mode_of d.kind
changes_mode r w (inr d) = ap mode_of d.kind

pub changes_good : (r : Running) (w : Work) → ChangesOn r w → r.stage ≡ Bad → ⊥
changes_good r w (inl d) = d.good
changes_good r w (inr d) = d.good

module _ (head : table.Head) (c : ℕ) (stamp : Stamp) where
  abbrev at : At
  at = turn stamp (Client c)

  -- ---- what the client holds and knows

  -- a held lock on a range of bytes is of an object storage target
  pub held_range : (p : List Line) → Good head c at p → (h : HeldLock) → In h (held_at c p) → HasRange h.lock.ask.policy → 0 < h.target.0
  held_range p g h i range = by (held_kind (the_head head c stamp) h.target.0 p g.grown c h (held_in c p h i))
    where
      by : KindOf h.target.0 h.lock → 0 < h.target.0
      by (inl k) = absurd (bits_range h.lock.ask.policy k.1.1 range)
      by (inr k) = k.0

  pub store_now : (es : List Entry) (p : List Line) → store_turn (store_at c p) es ≡ store_at c (with_turn at es p)
  store_now es p = store_so es (client_of head c p) ∙ ap (λ (k : ClientState). k.store)
      (sym (client_own (limits_of head) c p at es (self c)))

  -- ---- a call that looks for its locks

  -- a read, which may unpin as well
  pub record ReadOf (r : Running) (w : Work) (p : List Line) : Type 0 where
    pub on : ReadsOn r w
    pub wider : Wider c p r w
    pub frees : (name : LockName) → Owes p at (Unpins name)

  -- a stat, of a file of which all but the size is known
  pub record StatFor (r : Running) (pins : List LockName) (w : Work) (p : List Line) : Type 0 where
    pub stat : StatOf p at c r pins
    pub is_kind : w.kind ≡ Stats stat.mode stat.links
    pub fid : w.fid ≡ stat.fid
    pub layout : w.layout ≡ stat.layout

  -- a write or a cut, which owes nothing yet
  pub record ChangeOf (r : Running) (w : Work) (p : List Line) : Type 0 where
    pub on : ChangesOn r w
    pub pays : (e : Entry) → Owes p at e

  abbrev pub Does : Running → List LockName → Work → List Line → Type 0
  Does r pins w p = ReadOf r w p ⊎ StatFor r pins w p ⊎ ChangeOf r w p

  -- with these locks in use it looks for those that are left; before: where it begins to move
  pub record Seeking (slot : ℕ) (r : Running) (kind : Kind) (pins : List LockName) (w : Work) (left : List Use) (before p : List Line) :
      Type 0 where
    pub ready : Ready head c stamp slot r before p
    pub due : (e : Entry) → Seeks slot e → Owes p at e
    pub of_kind : w.kind ≡ kind
    pub does : ReadOf r w p ⊎ StatFor r pins w p ⊎ ChangeOf r w p
    pub rest : w.left ≡ left
    pub order : wanted_by w ≡ map (λ (u : Using). u.want) w.used ++ left
    pub mine : (u : Using) → In u w.used → In (name_under u.want u.lock) pins
    pub objects : (u : Using) → In u w.used → 0 < u.want.target.0
    pub had : (u : Using) → In u w.used → HadLock c slot u.want p
    pub uses : UsesHeld c p r w.used

  -- these are its lines
  abbrev pub Going : ℕ → Running → List Line → List Entry → List Line → Type 0
  Going slot r before es p = EntriesCovered es → Went head c stamp slot r before (with_turn at es p)

  -- ---- a lock is pinned

  -- what is known stays so
  pub stat_pinned : (r : Running) (pins names : List LockName) (w : Work) (n : LockName) (p : List Line)
      → ((m : LockName) → In m pins → In m names) → StatFor r pins w p → StatFor r names w (line at (Pins n) ∷ p)
  stat_pinned r pins names w n p more d =
      record {
        stat = record {
          path = s.path;
          stats = s.stats;
          good = s.good;
          fid = s.fid;
          mode = s.mode;
          links = s.links;
          layout = s.layout;
          from = by s.from;
        };
        is_kind = d.is_kind;
        fid = d.fid;
        layout = d.layout;
      }
    where
      s : StatOf p at c r pins
      s = d.stat

      held : held_at c (line at (Pins n) ∷ p) ≡ changed n change.Pin (held_at c p)
      held = held_line head c stamp p (Pins n)

      cookies : cookies_of_file (notes_at c (line at (Pins n) ∷ p)) s.path s.fid ≡ cookies_of_file (notes_at c p) s.path s.fid
      cookies = ap (λ (hs : List HeldLock). cookies_of_file (record { facts = facts_at c p; held = hs }) s.path s.fid) held
          ∙ cookies_pinned (facts_at c p) n (held_at c p) s.path s.fid

      by : KnowsFile p at c r pins s.fid s.mode s.links s.layout ⊎ ToldFile p at c r pins s.path s.fid s.mode s.links s.layout
          ⊎ GoesOn r pins s.fid s.mode s.links s.layout
          → KnowsFile (line at (Pins n) ∷ p) at c r names s.fid s.mode s.links s.layout
          ⊎ ToldFile (line at (Pins n) ∷ p) at c r names s.path s.fid s.mode s.links s.layout
          ⊎ GoesOn r names s.fid s.mode s.links s.layout
      by (inl k) =
          inl (record {
            plain = k.plain;
            new = k.new;
            begun = k.begun;
            file = k.file;
            known = ap (λ (hs : List HeldLock). known_file (record { facts = facts_at c p; held = hs }) r.call) held
                ∙ known_file_pinned (facts_at c p) n (held_at c p) r.call ∙ k.known;
            of_fid = k.of_fid;
            of_mode = k.of_mode;
            of_links = k.of_links;
            of_layout = k.of_layout;
            pinned = λ m i. more m (k.pinned m i);
          })
      by (inr (inl k)) =
          inr (inl (record {
            plain = k.plain;
            target = k.target;
            reply = k.reply;
            answered = k.answered;
            heard = k.heard;
            flight = k.flight;
            learned = k.learned;
            tells = k.tells;
            pinned = λ m i. more m (k.pinned m (subst (λ (cs : List Cookie). In m (names_of cs)) cookies i));
          }))
      by (inr (inr k)) = inr (inr (record {
        work = k.work;
        stage = k.stage;
        kind = k.kind;
        of_fid = k.of_fid;
        of_layout = k.of_layout;
        pinned = λ m i. more m (k.pinned m i);
      }))

  -- a lock that is held is held still
  locked_pinned : (n : LockName) (p : List Line) (x : Use) (k : Locked c p x) → (j : Locked c (line at (Pins n) ∷ p) x)
      × (j.holding.lock ≡ k.holding.lock) × (j.holding.marked ≡ k.holding.marked)
  locked_pinned n p x k = (
    record {
      holding = h;
      held = held;
      of_target = ap (λ (t : TargetId). t.0) (target b) ∙ k.of_target;
      of_object =
          ap (λ (l : Lock). l.resource) (lock b) ∙ k.of_object;
      ranged = subst (λ (l : Lock). HasRange l.ask.policy) (sym (lock b)) k.ranged;
    },
    lock b,
    marks b,
  )
    where
      b : Bool
      b = is_named n k.holding

      pinned : Bool → HeldLock
      pinned v = if v then after change.Pin k.holding else k.holding

      h : HeldLock
      h = pinned b

      target : (v : Bool) → (pinned v).target ≡ k.holding.target
      target true = refl
      target false = refl

      lock : (v : Bool) → (pinned v).lock ≡ k.holding.lock
      lock true = refl
      lock false = refl

      marks : (v : Bool) → (pinned v).marked ≡ k.holding.marked
      marks true = refl
      marks false = refl

      held : In h (held_at c (line at (Pins n) ∷ p))
      held = subst (λ (hs : List HeldLock). In h hs) (sym (held_line head c stamp p (Pins n)))
          (in_mapped (λ (y : HeldLock). if is_named n y then after change.Pin y else y) k.holding (held_at c p) k.held)

  -- and one that reaches the end goes first
  end_pinned : (n : LockName) (p : List Line) (u : Using) → EndFirst c p u → EndFirst c (line at (Pins n) ∷ p) u
  end_pinned n p u first h i fits = by (changed_only n change.Pin h (held_at c p)
      (subst (λ (hs : List HeldLock). In h hs) (held_line head c stamp p (Pins n)) i))
    where
      matching : (b : Bool) (x : HeldLock) → matches (ServingToTheEnd u.want) (if b then after change.Pin x else x) ≡ true
          → matches (ServingToTheEnd u.want) x ≡ true
      matching true x e = e
      matching false x e = e

      by : (x : HeldLock) × In x (held_at c p) × ((if is_named n x then after change.Pin x else x) ≡ h) → reaches_end u.lock.ask.policy
          ≡ true
      by m = first m.0 m.1 (matching (is_named n m.0) m.0 (subst (λ (y : HeldLock). matches (ServingToTheEnd u.want) y ≡ true) (sym m.2)
          fits))

  -- it is used
  pub record Takes (r : Running) (wanted : Use) (l : Lock) (p : List Line) : Type 0 where
    pub locked : Locked c p wanted
    pub is : locked.holding.lock ≡ l
    pub does : LockDoes (record { want = wanted; lock = l }) ⊎ CameFor r (record { want = wanted; lock = l })
    pub apart : ((locked.holding.marked ≡ false) × EndFirst c p (record { want = wanted; lock = l }))
        ⊎ CameFor r (record { want = wanted; lock = l })
    pub object : 0 < wanted.target.0
    pub ok : PinsOk p c (name_under wanted l)

  take_good : (slot : ℕ) (r : Running) (kind : Kind) (pins : List LockName) (w : Work) (wanted : Use) (left : List Use) (l : Lock)
      (before p : List Line) → Seeking slot r kind pins w (wanted ∷ left) before p → Takes r wanted l p
      → Seeking slot r kind (pins ++ name_under wanted l ∷ []) (using wanted l left w) left before
      (line at (Pins (name_under wanted l)) ∷ p)
  take_good slot r kind pins w wanted left l before p g t =
      record {
        ready = ready_pins head c stamp slot r name before p g.ready (g.due (Pins name) tt) t.ok;
        due = λ e s. (refl, g.due e s);
        of_kind = g.of_kind;
        does = does g.does;
        rest = refl;
        order = g.order ∙ sym (used_more w.used u left);
        mine = each (λ v. In (name_under v.want v.lock) (pins ++ name ∷ []))
            (λ v i. in_left (name_under v.want v.lock) pins (name ∷ []) (g.mine v i)) (in_right name pins (name ∷ []) (inl refl));
        objects = each (λ v. 0 < v.want.target.0) g.objects t.object;
        had = each (λ v. HadLock c slot v.want p1) (λ v i. inr (g.had v i)) (inr (had_now c slot wanted p t.locked));
        uses = each (λ v. In v (used_in r.stage) ⊎ HeldFor c p1 r v)
            (λ v i. ⊎_elim (λ (j : In v (used_in r.stage)). inl j) (λ (k : HeldFor c p r v). inr (still v k)) (g.uses v i))
            (inr (still u (record { locked = t.locked; is = t.is; does = t.does; apart = t.apart })));
      }
    where
      name : LockName
      name = name_under wanted l

      p1 : List Line
      p1 = line at (Pins name) ∷ p

      u : Using
      u = record { want = wanted; lock = l }

      still : (v : Using) → HeldFor c p r v → HeldFor c p1 r v
      still v k =
          let j = locked_pinned name p v.want k.locked in
          record {
            locked = j.0;
            is = j.1 ∙ k.is;
            does = k.does;
            apart =
                ⊎_elim (λ (a : (k.locked.holding.marked ≡ false) × EndFirst c p v). inl (j.2 ∙ a.0, end_pinned name p v a.1))
                (λ (a : CameFor r v). inr a) k.apart;
          }

      each : (P : Using → Type 0) → ((v : Using) → In v w.used → P v) → P u → (v : Using) → In v (w.used ++ u ∷ []) → P v
      each P all own v i = ⊎_elim (λ (j : In v w.used). all v j)
          (λ (j : In v (u ∷ [])). ⊎_elim (λ (q : u ≡ v). subst P q own) (λ (n : ⊥). absurd n) j) (in_append v w.used (u ∷ []) i)

      does : ReadOf r w p ⊎ StatFor r pins w p ⊎ ChangeOf r w p → ReadOf r (using wanted l left w) p1
          ⊎ StatFor r (pins ++ name ∷ []) (using wanted l left w) p1 ⊎ ChangeOf r (using wanted l left w) p1
      does (inl d) =
          inl (record {
            on = reads_as r r w (using wanted l left w) refl refl d.on.read.good refl refl refl d.on;
            wider = λ o n e. ⊎_elim (λ (k : (old : Work) × (work_in r.stage ≡ Some old) × (old.kind ≡ Wide o n)). inl k)
                (λ (k : Narrowed c p r w o n). inr (record {
                  before = k.before;
                  since = inr k.since;
                  used = k.used;
                  wants = k.wants;
                  uses =
                      k.uses;
                  none = k.none;
                  short = k.short;
                })) (d.wider o n e);
            frees = λ n. (refl, d.frees n);
          })
      does (inr (inl d)) =
          let e = stat_pinned r pins (pins ++ name ∷ []) w name p (λ m i. in_left m pins (name ∷ []) i) d in
          inr (inl (record { stat = e.stat; is_kind = e.is_kind; fid = e.fid; layout = e.layout }))
      does (inr (inr d)) = inr (inr (record {
        on = changes_as r r w (using wanted l left w) refl refl (changes_good r w d.on) refl refl refl
            d.on;
        pays = λ e. (refl, d.pays e);
      }))

  -- it is pinned, and the next ones are looked for
  pub takes_on : (slot : ℕ) (r : Running) (kind : Kind) (next : Next) (pins : List LockName) (w : Work) (wanted : Use) (left : List Use)
      (l : Lock) (before p : List Line) → Seeking slot r kind pins w (wanted ∷ left) before p
      → Takes r wanted l p → ((ps : List LockName) (v : Work) (q : List Line) → Seeking slot r kind ps v left before q
      → Going slot r before (looks slot next left (record r { pins = ps }) v (store_at c q)) q)
      → Going slot r before (takes_up slot wanted l left (looks slot next left) (record r { pins = pins }) w (store_at c p)) p
  takes_on slot r kind next pins w wanted left l before p g t more covered =
      let name = name_under wanted l in
      let v = using wanted l left w in
      let p1 = line at (Pins name) ∷ p in
      let es = looks slot next left (record r { pins = pins ++ name ∷ [] }) v in
      let so = store_now (Pins name ∷ []) p in
      subst (λ (s : Store). Going slot r before (es s) p1) (sym so)
      (more (pins ++ name ∷ []) v p1 (take_good slot r kind pins w wanted left l before p g t)) covered.1

  -- ---- a lock is asked for

  limits : (slot : ℕ) (r : Running) (before p : List Line) → Ready head c stamp slot r before p → IsCall r.call
  limits slot r before p y = limited (the_head head c stamp) p y.good.grown c slot r y.call

  short : (slot : ℕ) (r : Running) (kind : Kind) (pins : List LockName) (w : Work) (left : List Use) (before p : List Line)
      → Seeking slot r kind pins w left before p → IsShort w.kind
  short slot r kind pins w left before p g = by g.does
    where
      by : ReadOf r w p ⊎ StatFor r pins w p ⊎ ChangeOf r w p → IsShort w.kind
      by (inl d) = reads_short r w (limits slot r before p g.ready) d.on
      by (inr (inl d)) = subst IsShort (sym d.is_kind) tt
      by (inr (inr d)) = changes_short r w (limits slot r before p g.ready) d.on

  -- what it wants of one object
  wants_one : (slot : ℕ) (r : Running) (kind : Kind) (pins : List LockName) (w : Work) (wanted : Use) (left : List Use)
      (before p : List Line) → Seeking slot r kind pins w (wanted ∷ left) before p
      → In wanted (wanted_by w) × (ByteUse wanted × (wanted.mode ≡ mode_of w.kind))
  wants_one slot r kind pins w wanted left before p g =
      let among = wanted_in (wanted_by w) (record w { left = wanted ∷ left }) g.order wanted (inl refl) in
      (among, wants_ok w.layout w.fid w.kind (short slot r kind pins w (wanted ∷ left) before p g) wanted among)

  locks_good : (slot : ℕ) (r : Running) (kind : Kind) (pins : List LockName) (w : Work) (wanted : Use) (left : List Use)
      (before p : List Line) → Seeking slot r kind pins w (wanted ∷ left) before p
      → serving wanted (held_at c p) ≡ None → Going slot r before
      (asks_lock slot wanted (record r { pins = pins }) (record w { left = wanted ∷ left })) p
  locks_good slot r kind pins w wanted left before p g lacks covered =
      went_asks head c stamp slot r now wanted.target.0 (enqueue_of wanted) before p g.ready refl refl (g.due (Stands slot now) refl)
      (record {
        running = r;
        call = g.ready.call;
        small = g.ready.small;
        still = g.ready.still;
        stage = Enqueued work;
        pins = pins;
        is = refl;
        how = how g.does;
        had = g.had;
        uses = g.uses;
        mine = g.mine;
      }) covered.0 tt
      (inr (inr (inl (record {
        work = work;
        stage = refl;
        still = g.ready.still;
        wanted = wanted;
        left = left;
        first = refl;
        among = one.0;
        of_target = refl;
        object = covered.0.0;
        mode = mode g.does;
        extent = one.1.0.extent;
        policy = one.1.0.policy;
        of_op = enqueues wanted one.1.0;
      }))))
      (in_order wanted one.1.0 (mode_of w.kind) one.1.1 (mode_either w.kind))
      (λ who patches. inl (inr (inr (inl (record {
        work = work;
        stage = refl;
        wanting = record {
          works = inl (record { does = does g.does; order = g.order; mine = g.mine; objects = g.objects });
          wanted = wanted;
          left = left;
          first = refl;
        };
      })))))
    where
      work : Work
      work = record w { left = wanted ∷ left }

      now : Running
      now = record r { stage = Enqueued work; pins = pins }

      asked : Running
      asked = record now { asking = Asked }

      one : In wanted (wanted_by w) × (ByteUse wanted × (wanted.mode ≡ mode_of w.kind))
      one = wants_one slot r kind pins w wanted left before p g

      no_bad : asked.stage ≡ Bad → ⊥
      no_bad e = absurd (cc)

      lacking : LacksOf p c (wanted_by work) work
      lacking = record { wanted = wanted; left = left; first = refl; order = g.order; lacks = lacks }

      how : ReadOf r w p ⊎ StatFor r pins w p ⊎ ChangeOf r w p
          → SizesStand p at r (Enqueued work) pins ⊎ LockStand p c r (Enqueued work) ⊎ StatStand p at c r (Enqueued work) pins
          ⊎ GetStand p c r (Enqueued work) pins ⊎ FlushStand p c r (Enqueued work) pins
          ⊎ ((pins ≡ r.pins) × MovedStand p at c r (Enqueued work))
      how (inl d) = inr (inl (record {
        work = work;
        is = refl;
        does =
            inl (reads_as r r w work refl refl d.on.read.good refl refl refl d.on);
        lacks = lacking;
        wider = wider;
      }))
        where
          wider : Wider c p r work
          wider o n e =
              ⊎_elim (λ (k : (old : Work) × (work_in r.stage ≡ Some old) × (old.kind ≡ Wide o n)). inl k)
              (λ (k : Narrowed c p r w o n). inr (record {
                before = k.before;
                since = k.since;
                used = k.used;
                wants = k.wants;
                uses =
                    k.uses;
                none = k.none;
                short = k.short;
              })) (d.wider o n e)
      how (inr (inl d)) = inr (inr (inl (record {
        stat = d.stat;
        work = work;
        kind = d.is_kind;
        of_fid = d.fid;
        of_layout = d.layout;
        is =
            refl;
        lacks = lacking;
      })))
      how (inr (inr d)) =
          inr (inl (record {
            work = work;
            is = refl;
            does = inr (changes_as r r w work refl refl (changes_good r w d.on) refl refl refl d.on);
            lacks = lacking;
            wider = λ o n e. let both : PW ≡ PR = sym (changes_mode r w d.on) ∙ ap mode_of e in cc;
          }))

      mode : ReadOf r w p ⊎ StatFor r pins w p ⊎ ChangeOf r w p → (wanted.mode ≡ PR) ⊎ ((wanted.mode ≡ PW) × IsChange now.call)
      mode (inl d) = inl (one.1.1 ∙ reads_mode r w d.on)
      mode (inr (inl d)) = inl (one.1.1 ∙ ap mode_of d.is_kind)
      mode (inr (inr d)) = inr (one.1.1 ∙ changes_mode r w d.on, changes_call r w d.on)

      does : ReadOf r w p ⊎ StatFor r pins w p ⊎ ChangeOf r w p → ReadsOn asked work ⊎ StatsOn asked work ⊎ ChangesOn asked work
      does (inl d) = inl (reads_as r asked w work refl refl no_bad refl refl refl d.on)
      does (inr (inl d)) = inr (inl (record {
        path = d.stat.path;
        stats = d.stat.stats;
        good = no_bad;
        mode = d.stat.mode;
        links =
            d.stat.links;
        kind = d.is_kind;
      }))
      does (inr (inr d)) = inr (inr (changes_as r asked w work refl refl no_bad refl refl refl d.on))

  -- ---- it looks for its locks, one after another

  -- a held one that serves is used
  takes_held : (r : Running) (wanted : Use) (p : List Line) → Good head c at p → ByteUse wanted → (h : HeldLock)
      → serving wanted (held_at c p) ≡ Some h → Takes r wanted h.lock p
  takes_held r wanted p good one h is =
      record {
        locked = record { holding = h; held = found.0; of_target = serves.of_target; of_object = serves.of_object; ranged = serves.ranged };
        is = refl;
        does = inl (does_so wanted h found.1);
        apart = inl (serves.unmarked, first);
        object = subst (λ (n : ℕ). 0 < n) serves.of_target (held_range p good h found.0 serves.ranged);
        ok = inl (λ x i n. ap (λ (y : HeldLock). y.marked) (sym
            (once_same (held_at c p) h x (held_once (the_head head c stamp) c p good.grown) found.0 i
            (ap (λ (m : LockName). is_named m x) name ∙ n))) ∙ serves.unmarked);
      }
    where
      found : In h (held_at c p) × (serves_use wanted h ≡ true)
      found = serving_is wanted (held_at c p) h is

      serves : Serves wanted h
      serves = serves_so wanted h (subst HasRange (sym one.policy) tt) found.1

      first : EndFirst c p (record { want = wanted; lock = h.lock })
      first x i fits = serving_end wanted (held_at c p) h is x i fits

      name : name_of h ≡ name_under wanted h.lock
      name = ap (λ (n : ℕ). named (record { 0 = n }) h.lock.cookie) serves.of_target

  pub looks_good : (slot : ℕ) (r : Running) (kind : Kind) (next : Next) (before : List Line)
      → ((pins : List LockName) (w : Work) (p : List Line) → Seeking slot r kind pins w [] before p
      → Going slot r before (next (record r { pins = pins }) w (store_at c p)) p)
      → (left : List Use) (pins : List LockName) (w : Work) (p : List Line) → Seeking slot r kind pins w left before p
      → Going slot r before (looks slot next left (record r { pins = pins }) w (store_at c p)) p
  looks_good slot r kind next before ends [] pins w p g = ends pins w p g
  looks_good slot r kind next before ends (wanted ∷ left) pins w p g =
      by (serving wanted (held_at c p)) refl (λ ps v q. looks_good slot r kind next before ends left ps v q)
    where
      by : (o : Option HeldLock) → serving wanted (held_at c p) ≡ o
          → ((ps : List LockName) (v : Work) (q : List Line) → Seeking slot r kind ps v left before q
          → Going slot r before (looks slot next left (record r { pins = ps }) v (store_at c q)) q)
          → Going slot r before (looks_on slot (λ h. takes_up slot wanted h.lock left (looks slot next left) (record r { pins = pins }) w
          (store_at c p)) wanted left (record r { pins = pins }) w o) p
      by None e more covered = locks_good slot r kind pins w wanted left before p g e covered
      by (Some h) e more covered =
          takes_on slot r kind next pins w wanted left h.lock before p g
          (takes_held r wanted p g.ready.good (wants_one slot r kind pins w wanted left before p g).1.0 h e) more covered
