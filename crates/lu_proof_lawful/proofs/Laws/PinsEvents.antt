-- A client's pins over what begins its turns: what is heard or granted brings locks that it doesn't hold yet, an eviction ends all calls
-- first,
-- and all else leaves the pins.
use Rattle.std.proofs.Common.{◌≡◌, ℕ, zero, suc, ◌+◌, ◌*◌, ◌<◌, ◌≤◌, Bool, true, false, List, [], ◌∷◌, ◌++◌, ◌⊎◌, inl, inr, ⊎_elim, Option}
use Rattle.std.proofs.Common.{Some, None, refl, sym, subst, ap, ◌∙◌, arith}
use Rattle.std.specs.Prelude.{nat_eq, if◌then◌else◌, length}
use Rattle.std.proofs.lemmas.Bool.{eqb-true}
use Rattle.lu_base.specs.declared.ids.At.{At}
use Rattle.lu_base.specs.declared.ids.Cookie.{Cookie}
use Rattle.lu_base.specs.declared.ids.Node.TheVariants.{Client, Target}
use Rattle.lu_base.specs.declared.ids.Stamp.{Stamp}
use Rattle.lu_base.specs.declared.ids.TargetId.{TargetId}
use Rattle.lu_base.specs.declared.ids.Who.{Who}
use Rattle.lu_base.specs.declared.locks.Extent.{Extent}
use Rattle.lu_base.specs.declared.locks.Lock.{Lock}
use Rattle.lu_base.specs.declared.locks.Policy.{Policy}
use Rattle.lu_base.specs.declared.locks.Policy.TheVariants.{Bits, Range}
use Rattle.lu_base.specs.declared.locks.Resource.{Resource}
use Rattle.lu_msg.specs.declared.answers.Answer.{Answer}
use Rattle.lu_msg.specs.declared.answers.Answer.TheVariants as answer
use Rattle.lu_msg.specs.declared.messages.GrantNotice.{GrantNotice}
use Rattle.lu_msg.specs.declared.messages.Message.{Message}
use Rattle.lu_msg.specs.declared.messages.Message.TheVariants as message
use Rattle.lu_msg.specs.declared.messages.Reply.{Reply as ReplyTo}
use Rattle.lu_msg.specs.declared.operations.Op.{Op}
use Rattle.lu_msg.specs.declared.operations.Op.TheVariants as op
use Rattle.lu_held.specs.declared.locks.HeldLock.{HeldLock}
use Rattle.lu_held.specs.declared.locks.Use.{Use}
use Rattle.lu_held.specs.declared.names.LockName.{LockName}
use Rattle.lu_held.specs.Names.{same_name}
use Rattle.lu_held.specs.Locks.{named, name_of, is_named}
use Rattle.lu_spec_entries.specs.declared.changes.Flush.TheVariants.{Cut, Put}
use Rattle.lu_spec_entries.specs.Carried.{Asking, Answered, Flight, Work, Stage, Plain, Bad, Looks, Enqueued, Waits, Came, Forgotten, Gets}
use Rattle.lu_spec_entries.specs.Carried.{Flushing, Sizes, Running}
use Rattle.lu_spec_entries.specs.Words.{Entry, Take, Heard, Hold, Settles, Stands, Acks, Fills, Zeroes, Grown as GrownTo, Shows, Line, line}
use Rattle.lu_spec_entries.specs.Words.{with_turn}
use Rattle.lu_spec_entries.specs.Concerns.{only}
use Rattle.lu_spec_client.specs.Advances.{name_under, at_stage}
use Rattle.lu_spec_client.specs.Bytes.{page_size}
use Rattle.lu_spec_client.specs.Caches.{held_as, with_held, with_brought, brought, held_at, patches_at}
use Rattle.lu_spec_client.specs.Calls.{asks, asks_for, call_on}
use Rattle.lu_spec_client.specs.Messages.{on_running, on_slot, holds, learns, waiting_lock, lock_heard, enqueue_heard, fills, shows}
use Rattle.lu_spec_client.specs.Messages.{held_as as of_name, page_under, page_heard, looks_again, heeds, granted_as, lock_granted}
use Rattle.lu_spec_client.specs.Patches.{Patch}
use Rattle.lu_spec_client.specs.States.{Client as ClientState}
use Rattle.lu_proof_lawful.specs.Covered.Calls.{call_at, calls_at, life_at}
use Rattle.lu_proof_lawful.specs.Covered.ClientStates.{life_of}
use Rattle.lu_proof_lawful.specs.Covered.Heads.{Head}
use Rattle.lu_spec_run.specs.Heads as table
use Rattle.lu_proof_lawful.proofs.Preconditions.Guards.{HasRange, In}
use Rattle.lu_proof_lawful.proofs.Preconditions.StoryGuards.{HeardOk, HeldOk, GivenOf}
use Rattle.lu_proof_lawful.proofs.Preconditions.Acts.{KindOf, bits_range}
use Rattle.lu_proof_lawful.proofs.Preconditions.Grown.{Grown}
use Rattle.lu_proof_lawful.proofs.Preconditions.Lists.{self, turn}
use Rattle.lu_proof_lawful.proofs.Preconditions.Held.{held_in, held_into}
use Rattle.lu_proof_lawful.proofs.Preconditions.LockKinds.{held_kind}
use Rattle.lu_proof_lawful.proofs.Preconditions.Turns.{covered_head}
use Rattle.lu_proof_lawful.proofs.Preconditions.ClientLocks.{names_same, Once, once_with, once_brought, with_only, with_self, with_other}
use Rattle.lu_proof_lawful.proofs.Preconditions.ClientLines.{IsSimple, IsLock, IsBytes, heeds_nothing}
use Rattle.lu_proof_lawful.proofs.Preconditions.CallStands.{Sizing, HasAsked, Idle, Movable, calm_moves, idle_moves, Coming}
use Rattle.lu_proof_lawful.proofs.Preconditions.ClientGood.{call_line, held_line}
use Rattle.lu_proof_lawful.proofs.Preconditions.ClientCalls.{OnNames}
use Rattle.lu_proof_lawful.proofs.Preconditions.ClientStarts.{After}
use Rattle.lu_proof_lawful.proofs.Preconditions.PinsFit.{HasName}
use Rattle.lu_proof_lawful.proofs.Preconditions.PinsCount.{count_of, names_on, sum_of, pins_at, not_counted, Names, LiesOn, CameOk, RoomFor}
use Rattle.lu_proof_lawful.proofs.Preconditions.PinsCount.{RoomOf, CallFit}
use Rattle.lu_proof_lawful.proofs.Preconditions.PinsSteps.{AllBits, Fit, Kept, kept_same, kept_asks, call_named, named_by, fit_light}
use Rattle.lu_proof_lawful.proofs.Preconditions.PinsSteps.{fit_lights, mid_of, mid_stands, AllLight}
use Rattle.lu_proof_lawful.proofs.Preconditions.PinsSlots.{IsNotCame, NotCame}
use Rattle.lu_proof_lawful.proofs.Preconditions.Ends.{grown_under}
use Rattle.lu_proof_lawful.proofs.Invariants.Groups.{HoldsAt}
use Rattle.lu_proof_lawful.proofs.Invariants.TargetGroups.{Gave, hopes_of, Holding, RepliesTo}
use Rattle.lu_proof_lawful.proofs.Invariants.All.{holds as all_holds}
use Rattle.lu_proof_lawful.proofs.Invariants.LockLists.{brought_in, brought_again}
use Rattle.lu_proof_lawful.proofs.Invariants.LocksHeard.{hoped}
use Rattle.lu_proof_lawful.proofs.Invariants.Unheld.{answers, done_xid, done_op}

-- ---- a call that waits, or moves in a pass over the slots, hasn't just got a lock

asked_came : (who : Who) (r : Running) → HasAsked who r → IsNotCame r.stage
asked_came who r (inl n) = subst IsNotCame (sym n.plain) tt
asked_came who r (inr (inl z)) = subst IsNotCame (sym z.sizing.stage) tt
asked_came who r (inr (inr (inl l))) = subst IsNotCame (sym l.stage) tt
asked_came who r (inr (inr (inr (inl w)))) = subst IsNotCame (sym w.stage) tt
asked_came who r (inr (inr (inr (inr (inl f))))) = subst IsNotCame (sym f.stage) tt
asked_came who r (inr (inr (inr (inr (inr g))))) = subst IsNotCame (sym g.stage) tt

pub moves_came : (who : Who) (x : Option Running) → Movable who x → NotCame x
moves_came who None m = tt
moves_came who (Some r) (inl a) = asked_came who r a
moves_came who (Some r) (inr (inl f)) = subst IsNotCame (sym f.stage) tt
moves_came who (Some r) (inr (inr (inl k))) = subst IsNotCame (sym k.plain) tt
moves_came who (Some r) (inr (inr (inr l))) = subst IsNotCame (sym l.stage) tt

pub idle_came : (who : Who) (patches : List (Resource × Patch)) (calls : List (Option Running)) (x : Option Running)
    → Idle who patches calls x → NotCame x
idle_came who patches calls x i = moves_came who x (idle_moves who patches calls x i)

-- a held lock of the metadata target is on names
pub bits_of : (head : Head) (c : ℕ) (p : List Line) → Grown head p → AllBits (held_at c p)
bits_of head c p g h i z range = by (held_kind head h.target.0 p g c h (held_in c p h i))
  where
    by : KindOf h.target.0 h.lock → ⊥
    by (inl k) = bits_range h.lock.ask.policy k.1.1 range
    by (inr k) = let high = k.0 in absurd (omega (arith, high, z))

-- ---- locks that come

held_names : (h : HeldLock) (hs : List HeldLock) → Names hs (with_held h hs)
held_names h hs n k = by (is_named (name_of h) k.0) refl
  where
    by : (b : Bool) → is_named (name_of h) k.0 ≡ b → HasName n (with_held h hs)
    by true e = (h, with_self h hs, ap (same_name n) (names_same (name_of h) (name_of k.0) e) ∙ k.2)
    by false e = (k.0, with_other h k.0 hs e k.1, k.2)

brought_names : (t : ℕ) (locks : List Lock) (hs : List HeldLock) → Names hs (with_brought t locks hs)
brought_names t [] hs n k = k
brought_names t (l ∷ locks) hs n k = brought_names t locks (with_held (held_as t l false) hs) n (held_names (held_as t l false) hs n k)

-- of these locks some are held now
record Brought (t : ℕ) (P : Lock → Type 0) (hs now : List HeldLock) : Type 0 where
  names : Names hs now
  once : Once hs → Once now
  each : (h : HeldLock) → In h now → In h hs ⊎ ((l : Lock) × (marked : Bool) × P l × (held_as t l marked ≡ h))

all_brought : (t : ℕ) (locks : List Lock) (hs : List HeldLock) → Brought t (λ l. In l locks) hs (with_brought t locks hs)
all_brought t locks hs =
    record {
      names = brought_names t locks hs;
      once = once_brought t locks hs;
      each = λ h i. ⊎_elim (λ (j : In h hs). inl j) (λ (k : (l : Lock) × In l locks × (held_as t l false ≡ h)). inr (k.0, false, k.1, k.2))
          (brought_in t locks hs h i);
    }

one_brought : (t : ℕ) (P : Lock → Type 0) (l : Lock) (marked : Bool) (hs : List HeldLock) → P l
    → Brought t P hs (with_held (held_as t l marked) hs)
one_brought t P l marked hs among =
    record {
      names = held_names (held_as t l marked) hs;
      once = once_with (held_as t l marked) hs;
      each = λ h i. ⊎_elim (λ (e : held_as t l marked ≡ h). inr (l, marked, among, e)) (λ (j : In h hs). inl j)
          (with_only (held_as t l marked) h hs i);
    }

sum_none : (n : LockName) (f : ℕ → List LockName) → ((s : ℕ) → In n (f s) → ⊥) → sum_of n f ≤ 0
sum_none n f none = let a = not_counted n (f 0) (none 0) in let b = not_counted n (f 1) (none 1) in let d = not_counted n (f 2) (none 2)
    in let e = not_counted n (f 3) (none 3) in omega (arith, a, b, d, e)

asks_names : (o : Option ℕ) (s : ℕ) (a : Asking) (x : Option Running) → names_on (asks_for o s a x) ≡ names_on x
asks_names None s a x = refl
asks_names (Some n) s a x = by (nat_eq n s) x
  where
    by : (v : Bool) (x : Option Running) → names_on (if v then asks a x else x) ≡ names_on x
    by true None = refl
    by true (Some r) = refl
    by false x = refl

asks_came : (o : Option ℕ) (s : ℕ) (a : Asking) (x : Option Running) → NotCame x → NotCame (asks_for o s a x)
asks_came None s a x n = n
asks_came (Some m) s a x n = by (nat_eq m s) x n
  where
    by : (v : Bool) (x : Option Running) → NotCame x → NotCame (if v then asks a x else x)
    by true None n = tt
    by true (Some r) n = n
    by false x n = n

pub call_on_is : (c slot : ℕ) (p : List Line) (r : Running) → call_on slot (calls_at c p) ≡ Some r → (slot < 4)
    × (call_at c slot p ≡ Some r)
call_on_is c zero p r e = (omega arith, e)
call_on_is c (suc zero) p r e = (omega arith, e)
call_on_is c (suc (suc zero)) p r e = (omega arith, e)
call_on_is c (suc (suc (suc zero))) p r e = (omega arith, e)
call_on_is c (suc (suc (suc (suc slot)))) p r e = absurd (cc)

module _ (head : table.Head) (c : ℕ) (stamp : Stamp) where
  abbrev at : At
  at = turn stamp (Client c)

  abbrev few : Head
  few = covered_head head

  -- no call has pinned any of these
  abbrev pub Free : ℕ → (Lock → Type 0) → List Line → Type 0
  Free t P p = (l : Lock) → P l → (s : ℕ) → In (named (record { 0 = t }) l.cookie) (pins_at c p s) → ⊥

  -- nor one that isn't held
  unheld_free : (p : List Line) (t : ℕ) (l : Lock) → Fit c p → ((h : HeldLock) → In h (held_at c p) → h.target.0 ≡ t → h.lock.cookie
      ≡ l.cookie → ⊥) → (s : ℕ) → In (named (record { 0 = t }) l.cookie) (pins_at c p s) → ⊥
  unheld_free p t l fit none s j =
      let has = call_named (held_at c p) (call_at c s p) (fit.calls s) (named (record { 0 = t }) l.cookie) j in
      let same = names_same (named (record { 0 = t }) l.cookie) (name_of has.0) has.2 in
      none has.0 has.1 (sym (ap (λ (n : LockName). n.target.0) same)) (sym (ap (λ (n : LockName). n.cookie) same))

  -- one that comes with a reply isn't held
  fresh : (p : List Line) (t : ℕ) (f : Flight) (r : ReplyTo) → Grown few (line at (Heard t f r) ∷ p) → (l : Lock) → In l (brought f.op r)
      → (h : HeldLock) → In h (held_at c p) → h.target.0 ≡ t → h.lock.cookie ≡ l.cookie → ⊥
  fresh p t f r g l i h j e same = (all.numbers.over (life_of c past) own.deed.reply.xid.0 own.heard).1 f ok.flying
      (done_xid few past c f r ok all ∙ ap (λ d. d.reply.xid.0) one.0)
    where
      past : List Line
      past = only t p

      ok : HeardOk past c f r
      ok = g.0.of t (self t)

      all : HoldsAt few past
      all = (all_holds few p g.1).at t

      answer_of : RepliesTo few.osts past c r
      answer_of = answers few past c f r ok all

      gave : Gave past answer_of.deed l
      gave = (
        answer_of.acted,
        inl (subst (λ (ls : List Lock). In l ls)
            (ap (λ (o : Op). brought o r) (done_op few past c f r ok all)
            ∙ brought_again answer_of.deed.op answer_of.deed.reply r answer_of.is) i),
      )

      own : Holding few.osts past c h
      own = all.locks.held c h (held_into c t p h e j)

      one : (answer_of.deed ≡ own.deed) × (l ≡ h.lock)
      one = all.locks.once answer_of.deed own.deed l h.lock gave own.gave (sym same)

  -- nor is one that waited, when it is granted
  given_fresh : (p : List Line) (t : ℕ) (l : Lock) (marked : Bool) (size : Option ℕ) (seen : List ℕ) → Grown few p
      → GivenOf (only t p) c t l seen → (h : HeldLock) → In h (held_at c p) → h.target.0 ≡ t → h.lock.cookie ≡ l.cookie → ⊥
  given_fresh p t l marked size seen g ok h j e same =
      let all = (all_holds few p g).at t in
      let own = all.locks.held c h (held_into c t p h e j) in
      let yes = hoped few (only t p) stamp c t l marked size seen ok all in
      let no : hopes_of ok.notice.who l.cookie.0 (only t p) ≡ false = ap (λ (w : Who). hopes_of w l.cookie.0 (only t p)) ok.who
      ∙ ap (λ (k : Cookie). hopes_of (life_of c (only t p)) k.0 (only t p)) (sym same) ∙ own.came in
      absurd (cc)

  -- they come with no pins, and no call has pinned them
  brings_fit : (p : List Line) (e : Entry) (t : ℕ) (P : Lock → Type 0) → Brought t P (held_at c p) (held_at c (line at e ∷ p))
      → ((s : ℕ) → Kept (call_at c s p) (call_at c s (line at e ∷ p)))
      → Free t P p → Grown few (line at e ∷ p) → ((s : ℕ) → NotCame (call_at c s p)) → Fit c p → Fit c (line at e ∷ p)
  brings_fit p e t P so kept free g came fit =
      record {
        all = (named_by c p1 (λ s. call_named (held_at c p1) (call_at c s p1) (calls s)), fit.all);
        once = so.once fit.once;
        bits = bits_of few c p1 g;
        calls = calls;
        counted = λ h i. by h (so.each h i);
      }
    where
      p1 : List Line
      p1 = line at e ∷ p

      hs : List HeldLock
      hs = held_at c p

      Comes : HeldLock → Type 0
      Comes h = (l : Lock) × (marked : Bool) × P l × (held_as t l marked ≡ h)

      less : (n : LockName) → sum_of n (pins_at c p1) ≤ sum_of n (pins_at c p)
      less n = let a = (kept 0).1 n in let b = (kept 1).1 n in let d = (kept 2).1 n in let q = (kept 3).1 n in omega (arith, a, b, d, q)

      by : (h : HeldLock) → In h hs ⊎ Comes h → sum_of (name_of h) (pins_at c p1) ≤ h.pins
      by h (inl i) = let old = fit.counted h i in let low = less (name_of h) in omega (arith, old, low)
      by h (inr k) =
          subst (λ (x : HeldLock). sum_of (name_of x) (pins_at c p1) ≤ x.pins) k.3
          (let none = sum_none (named (record { 0 = t }) k.0.cookie) (pins_at c p) (free k.0 k.2) in let low =
          less (named (record { 0 = t }) k.0.cookie) in omega (arith, none, low))

      room : (s : ℕ) (own : List LockName) → own ≡ pins_at c p s → (w : Work) → RoomFor hs own w → RoomFor (held_at c p1) own w
      room s own same w old = (old.0, λ h i x j l. or h x j l (so.each h i))
        where
          or : (h : HeldLock) (x : Use) → In x w.left → LiesOn h x → In h hs ⊎ Comes h → count_of (name_of h) own ≡ 0
          or h x j l (inl i) = old.1 h i x j l
          or h x j l (inr k) =
              not_counted (name_of h) own (λ m. free k.0 k.2 s (subst (λ (y : HeldLock). In (name_of y) (pins_at c p s)) (sym k.3)
              (subst (λ (ns : List LockName). In (name_of h) ns) same m)))

      stage : (s : ℕ) (own : List LockName) → own ≡ pins_at c p s → (x : Stage) → IsNotCame x → RoomOf hs own x
          → RoomOf (held_at c p1) own x
      stage s own same Plain n k = k
      stage s own same Bad n k = k
      stage s own same (Looks w) n k = room s own same w k
      stage s own same (Enqueued w) n k = room s own same w k
      stage s own same (Waits w target l marked) n k = room s own same w k
      stage s own same (Came w l) n k = absurd n
      stage s own same (Forgotten w) n k = room s own same w k
      stage s own same (Gets w) n k = room s own same w k
      stage s own same (Flushing i) n k = k
      stage s own same (Sizes w) n k = room s own same w k

      call : (s : ℕ) (x : Option Running) → names_on x ≡ pins_at c p s → NotCame x → CallFit hs x → CallFit (held_at c p1) x
      call s None same n k = tt
      call s (Some r) same n k = (k.0, λ m i. so.names m (k.1 m i), stage s r.pins same r.stage n k.2)

      calls : (s : ℕ) → CallFit (held_at c p1) (call_at c s p1)
      calls s = (kept s).0 (held_at c p1) (call s (call_at c s p) refl (came s) (fit.calls s))

  -- what is shown of it leaves it so
  pub record Hears (t : ℕ) (locks : List Lock) (p : List Line) : Type 0 where
    pub fit : Fit c p
    pub came : (s : ℕ) → NotCame (call_at c s p)
    pub free : Free t (λ l. In l locks) p

  pub heard_hears : (p : List Line) (t : ℕ) (f : Flight) (r : ReplyTo) → Grown few (line at (Heard t f r) ∷ p) → Fit c p
      → ((s : ℕ) → NotCame (call_at c s p)) → Hears t (brought f.op r) (line at (Heard t f r) ∷ p)
  heard_hears p t f r g fit came =
      let e = Heard t f r in
      let p1 = line at e ∷ p in
      let free = λ (l : Lock) (i : In l (brought f.op r)). unheld_free p t l fit (fresh p t f r g l i) in
      record {
        fit = brings_fit p e t (λ l. In l (brought f.op r)) (subst (Brought t (λ l. In l (brought f.op r)) (held_at c p))
            (sym (held_line head c stamp p e)) (all_brought t (brought f.op r) (held_at c p)))
            (λ s. subst (Kept (call_at c s p)) (sym (call_line head c stamp s p e)) (kept_asks f.slot s (Answered t r) (call_at c s p)))
            free g came fit;
        came = λ s. subst NotCame (sym (call_line head c stamp s p e)) (asks_came f.slot s (Answered t r) (call_at c s p) (came s));
        free = λ l i s j. free l i s (subst (λ (ns : List LockName). In (named (record { 0 = t }) l.cookie) ns)
            (ap names_on (call_line head c stamp s p e) ∙ asks_names f.slot s (Answered t r) (call_at c s p)) j);
      }

  -- one that comes to be held
  hold_fit : (p : List Line) (t : ℕ) (l : Lock) (marked : Bool) (size : Option ℕ) (seen : List ℕ)
      → ((s : ℕ) → In (named (record { 0 = t }) l.cookie) (pins_at c p s) → ⊥)
      → Grown few (line at (Hold t l marked size seen) ∷ p) → ((s : ℕ) → NotCame (call_at c s p)) → Fit c p
      → Fit c (line at (Hold t l marked size seen) ∷ p)
  hold_fit p t l marked size seen free g came fit =
      let e = Hold t l marked size seen in
      brings_fit p e t (λ k. l ≡ k) (subst (Brought t (λ k. l ≡ k) (held_at c p)) (sym (held_line head c stamp p e))
      (one_brought t (λ k. l ≡ k) l marked (held_at c p) refl)) (λ s. kept_same (call_at c s p) (call_at c s p) refl)
      (λ k same s j. free s (subst (λ (x : Lock). In (named (record { 0 = t }) x.cookie) (pins_at c p s)) (sym same) j)) g came fit

  pub holds_hears : (t : ℕ) (size : Option ℕ) (seen : List ℕ) (locks all : List Lock) (p : List Line) → ((l : Lock) → In l locks → In l all)
      → Grown few (with_turn at (holds t size seen locks) p) → Hears t all p
      → Hears t all (with_turn at (holds t size seen locks) p)
  holds_hears t size seen [] all p among g k = k
  holds_hears t size seen (l ∷ locks) all p among g k =
      let p1 = line at (Hold t l false size seen) ∷ p in
      holds_hears t size seen locks all p1 (λ m i. among m (inr i)) g (record {
        fit = hold_fit p t l false size seen (k.free l (among l (inl refl))) (grown_under few at (holds t size seen locks) p1 g) k.came
            k.fit;
        came = k.came;
        free = k.free;
      })

  pub learns_light : (t : ℕ) (o : Op) (a : Answer) (locks : List Lock) → AllLight head c stamp (learns t o a locks)
  learns_light t o a [] = tt
  learns_light t o a (l ∷ locks) = (tt, tt)

  -- ---- a call stands elsewhere, with all that it has pinned

  pub stand_fit : (slot : ℕ) (r : Running) (x : Stage) (p : List Line) → slot < 4 → call_at c slot p ≡ Some r
      → (RoomOf (held_at c p) r.pins r.stage → RoomOf (held_at c p) r.pins x) → Fit c p → Fit c (line at (Stands slot (at_stage r x)) ∷ p)
  stand_fit slot r x p small is room fit = mid_stands head c stamp slot r.pins (at_stage r x) p (mid_of head c stamp slot r p small is fit)
      refl (room (subst (CallFit (held_at c p)) is (fit.calls slot)).2)

  -- ---- the call that asked for a lock has it

  -- of each call to which one has just come
  abbrev pub CameAt : List Line → Type 0
  CameAt q =
      (slot : ℕ) (r : Running) (w : Work) (l : Lock) → call_at c slot q ≡ Some r → r.stage ≡ Came w l → (wanted : Use) (left : List Use)
      → w.left ≡ wanted ∷ left
      → ((h : HeldLock) × In h (held_at c q) × (h.target.0 ≡ wanted.target.0) × (h.lock ≡ l)) × (l.resource ≡ wanted.resource)
      × HasRange l.ask.policy

  not_both : (x : Stage) (w : Work) (l : Lock) → IsNotCame x → x ≡ Came w l → ⊥
  not_both x w l n e = subst IsNotCame e n

  none_came : (q : List Line) → ((s : ℕ) → NotCame (call_at c s q)) → CameAt q
  none_came q none slot r w l is st wanted left first = absurd (not_both r.stage w l (subst NotCame is (none slot)) st)

  one_came : (q : List Line) (slot : ℕ) (r : Running) → call_at c slot q ≡ Some r → ((s : ℕ) → (s ≡ slot → ⊥) → NotCame (call_at c s q))
      → IsNotCame r.stage ⊎ Coming c q r → CameAt q
  one_came q at_slot of is_of others how slot r w l is st wanted left first = by (nat_eq slot at_slot) refl
    where
      Has : Type 0
      Has = ((h : HeldLock) × In h (held_at c q) × (h.target.0 ≡ wanted.target.0) × (h.lock ≡ l)) × (l.resource ≡ wanted.resource)
          × HasRange l.ask.policy

      by : (b : Bool) → nat_eq slot at_slot ≡ b → Has
      by false e = absurd (not_both r.stage w l (subst NotCame is
          (others slot (λ same. let t : nat_eq slot at_slot ≡ true = ap (λ (x : ℕ). nat_eq x at_slot) same ∙ self at_slot in absurd (cc))))
          st)
      by true e = does how
        where
          same : r ≡ of
          same = let q : Some r ≡ Some of = sym is ∙ ap (λ (s : ℕ). call_at c s q) (eqb-true slot at_slot e) ∙ is_of in cc

          stage_is : of.stage ≡ Came w l
          stage_is = ap (λ (x : Running). x.stage) (sym same) ∙ st

          does : IsNotCame of.stage ⊎ Coming c q of → Has
          does (inl n) = absurd (not_both of.stage w l n stage_is)
          does (inr m) =
              let both : Came m.work m.lock ≡ Came w l = sym m.stage ∙ stage_is in
              let works : m.work ≡ w = cc in
              let locks : m.lock ≡ l = cc in
              let lists : m.wanting.wanted ∷ m.wanting.left ≡ wanted ∷ left = sym m.wanting.first ∙ ap (λ (v : Work). v.left) works ∙ first
              in
              let wants : m.wanting.wanted ≡ wanted = cc in (
                (m.holding, m.held, m.of_target ∙ ap (λ (u : Use). u.target.0) wants, m.is ∙ locks),
                ap (λ (k : Lock). k.resource) (sym locks) ∙ m.of_object ∙ ap (λ (u : Use). u.resource) wants,
                subst (λ (k : Lock). HasRange k.ask.policy) locks m.ranged,
              )

  -- what may come of a message
  pub came_at : (q : List Line) → After head c stamp q → CameAt q
  came_at q (inl rested) = none_came q (λ s. idle_came (life_at c q) (patches_at c q) (calls_at c q) (call_at c s q) (rested.idle s))
  came_at q (inr (inl calmed)) = none_came q (λ s. moves_came (life_at c q) (call_at c s q)
      (calm_moves (life_at c q) (patches_at c q) (call_at c s q) (calmed.calm s)))
  came_at q (inr (inr (inl m))) = none_came q (λ s. moves_came (life_at c q) (call_at c s q) (m.moves s))
  came_at q (inr (inr (inr (inl h)))) = one_came q h.slot h.running h.heard.call
      (λ s n. idle_came (life_at c q) (patches_at c q) (calls_at c q) (call_at c s q) (h.heard.others s n)) (inl (by h.heard.does))
    where
      by : ((h.running.pins ≡ []) × OnNames h.running) ⊎ Sizing h.running → IsNotCame h.running.stage
      by (inl names) = subst IsNotCame (sym names.1.0) tt
      by (inr sizing) = subst IsNotCame (sym sizing.stage) tt
  came_at q (inr (inr (inr (inr k)))) = one_came q k.slot k.running k.come.call
      (λ s n. idle_came (life_at c q) (patches_at c q) (calls_at c q) (call_at c s q) (k.come.others s n)) (inr k.come.coming)

  -- it stands with it
  pub came_fit : (slot : ℕ) (r : Running) (w : Work) (l : Lock) (p : List Line) → slot < 4 → call_at c slot p ≡ Some r
      → (RoomOf (held_at c p) r.pins r.stage → RoomFor (held_at c p) r.pins w)
      → CameAt (line at (Stands slot (at_stage r (Came w l))) ∷ p) → Fit c p → Fit c (line at (Stands slot (at_stage r (Came w l))) ∷ p)
  came_fit slot r w l p small is room came fit = stand_fit slot r (Came w l) p small is
      (λ old. (room old, λ wanted left first. ok (room old) wanted left first)) fit
    where
      now : Running
      now = at_stage r (Came w l)

      stands : call_at c slot (line at (Stands slot now) ∷ p) ≡ Some now
      stands = call_line head c stamp slot p (Stands slot now) ∙ rw (self slot) refl

      ok : RoomFor (held_at c p) r.pins w → CameOk (held_at c p) r.pins w l
      ok old wanted left first =
          let m = came slot now w l stands refl wanted left first in
          let h = m.0.0 in
          let lies : LiesOn h wanted = (
            m.0.2,
            ap (λ (k : Lock). k.resource) m.0.3 ∙ m.1,
            subst (λ (k : Lock). HasRange k.ask.policy) (sym m.0.3) m.2,
          ) in
          let none = old.1 h m.0.1 wanted (subst (λ (us : List Use). In wanted us) (sym first) (inl refl)) lies in
          let same : name_of h ≡ name_under wanted l = ap (λ (t : ℕ). named (record { 0 = t }) h.lock.cookie) m.0.2
          ∙ ap (λ (k : Lock). named wanted.target k.cookie) m.0.3 in
          (m.0, m.1, ap (λ (n : LockName). count_of n r.pins) (sym same) ∙ none)

  enqueue_fit : (who : Who) (a : Answer) (locks : List Lock) (slot : ℕ) (r : Running) (p : List Line) → slot < 4 → call_at c slot p ≡ Some r
      → Fit c p
      → CameAt (with_turn at (enqueue_heard who a locks slot r r.stage) p)
      → Fit c (with_turn at (enqueue_heard who a locks slot r r.stage) p)
  enqueue_fit who a locks slot r p small is fit = by r.stage refl
    where
      heard : (w : Work) → r.stage ≡ Enqueued w → (a : Answer) (locks : List Lock) (wants : List Use)
          → CameAt (with_turn at (lock_heard who slot r w a locks wants) p) → Fit c (with_turn at (lock_heard who slot r w a locks wants) p)
      heard w st a (l ∷ locks) wants came = came_fit slot r w l p small is (λ old. subst (RoomOf (held_at c p) r.pins) st old) came fit
      heard w st (answer.Waiting cookie) [] (wanted ∷ left) came =
          stand_fit slot r (Waits w wanted.target (waiting_lock who cookie wanted) false) p small is
          (λ old. subst (RoomOf (held_at c p) r.pins) st old) fit
      heard w st (answer.Waiting cookie) [] [] came = fit
      heard w st a [] wants came = fit

      by : (x : Stage) → r.stage ≡ x → CameAt (with_turn at (enqueue_heard who a locks slot r x) p)
          → Fit c (with_turn at (enqueue_heard who a locks slot r x) p)
      by (Enqueued w) st came = heard w st a locks w.left came
      by x st came = fit

  -- ---- what a call or a change makes of an answer

  -- a read looks again
  again_fit : (s : Option ℕ) (k : ClientState) (p : List Line) → k.calls ≡ calls_at c p → Fit c p
      → Fit c (with_turn at (on_slot looks_again s k) p)
  again_fit None k p same fit = fit
  again_fit (Some slot) k p same fit = by (call_on slot k.calls) refl
    where
      looks : (r : Running) → (slot < 4) × (call_at c slot p ≡ Some r) → (x : Stage) → r.stage ≡ x
          → Fit c (with_turn at (looks_again slot r x) p)
      looks r on (Gets w) st = stand_fit slot r (Looks w) p on.0 on.1 (λ old. subst (RoomOf (held_at c p) r.pins) st old) fit
      looks r on x st = fit

      by : (x : Option Running) → call_on slot k.calls ≡ x → Fit c (with_turn at (on_running looks_again slot x) p)
      by None e = fit
      by (Some r) e = looks r (call_on_is c slot p r (ap (call_on slot) (sym same) ∙ e)) r.stage refl

  -- once a page is there
  page_fit : (resource : Resource) (cookie : Cookie) (page : ℕ) (bs : List ℕ) (o : Option Lock) (s : Option ℕ) (k : ClientState)
      (p : List Line) → k.calls ≡ calls_at c p → Fit c p
      → Fit c (with_turn at (page_heard resource cookie page bs o ++ on_slot looks_again s k) p)
  page_fit resource cookie page bs None s k p same fit = again_fit s k p same fit
  page_fit resource cookie page bs (Some l) s k p same fit = by l.ask.policy
    where
      filled : (extent : Extent) (q : List Line) → k.calls ≡ calls_at c q → Fit c q
          → Fit c (with_turn at (fills resource page bs extent ∷ on_slot looks_again s k) q)
      filled extent q same fit = again_fit s k (line at (fills resource page bs extent) ∷ q) same
          (fit_light head c stamp q (fills resource page bs extent) tt fit)

      shown : (extent : Extent) (bytes : List ℕ) → Fit c (with_turn at
          ((shows resource cookie page bytes ++ fills resource page bs extent ∷ []) ++ on_slot looks_again s k) p)
      shown extent [] = filled extent p same fit
      shown extent (b ∷ more) =
          let e = Shows resource cookie (page * page_size + length more) in
          filled extent (line at e ∷ p) same (fit_light head c stamp p e tt fit)

      by : (x : Policy) → Fit c (with_turn at (page_under resource cookie page bs x ++ on_slot looks_again s k) p)
      by (Range extent) = shown extent bs
      by (Bits bits) = again_fit s k p same fit

  bytes_fit : (t : ℕ) (f : Flight) (o : Op) (r : ReplyTo) (a : Answer) (k : ClientState) (p : List Line) → k.calls ≡ calls_at c p
      → IsBytes o → Fit c p → Fit c (with_turn at (heeds t f o r a k) p)
  bytes_fit t f (op.Get resource cookie page) r (answer.Content bs) k p same b fit =
      page_fit resource cookie page bs (of_name (named (record { 0 = t }) cookie) k.store.held) f.slot k p same fit
  bytes_fit t f (op.Get resource cookie page) r a k p same b fit = fit
  bytes_fit t f (op.Put resource cookie offset bs) r answer.Done k p same b fit =
      fit_lights head c stamp (Acks resource ∷ Fills resource offset bs ∷ GrownTo resource (Put offset bs) ∷ []) p (tt, (tt, (tt, tt))) fit
  bytes_fit t f (op.Put resource cookie offset bs) r a k p same b fit = fit
  bytes_fit t f (op.Cut resource cookie n) r answer.Done k p same b fit =
      fit_lights head c stamp (Acks resource ∷ Zeroes resource n ∷ GrownTo resource (Cut n) ∷ []) p (tt, (tt, (tt, tt))) fit
  bytes_fit t f (op.Cut resource cookie n) r a k p same b fit = fit
  bytes_fit t f o r a k p same b fit = absurd b

  pub heeds_fit : (t : ℕ) (f : Flight) (o : Op) (r : ReplyTo) (k : ClientState) (p : List Line) → k.calls ≡ calls_at c p → IsSimple o
      ⊎ IsLock o ⊎ IsBytes o → Fit c p → CameAt (with_turn at (heeds t f o r r.answer k) p)
      → Fit c (with_turn at (heeds t f o r r.answer k) p)
  heeds_fit t f o r k p same (inl simple) fit came = subst (λ (es : List Entry). Fit c (with_turn at es p))
      (sym (heeds_nothing t f o r r.answer k simple)) fit
  heeds_fit t f o r k p same (inr (inr b)) fit came = bytes_fit t f o r r.answer k p same b fit
  heeds_fit t f (op.Enqueue resource mode extent) r k p same (inr (inl lock)) fit came = served f.slot came
    where
      heard : ℕ → Running → Stage → List Entry
      heard = enqueue_heard k.who r.answer (brought f.op r)

      on : (slot : ℕ) (x : Option Running) → call_on slot k.calls ≡ x → CameAt (with_turn at (on_running heard slot x) p)
          → Fit c (with_turn at (on_running heard slot x) p)
      on slot None e came = fit
      on slot (Some q) e came = let so = call_on_is c slot p q (ap (call_on slot) (sym same) ∙ e)
          in enqueue_fit k.who r.answer (brought f.op r) slot q p so.0 so.1 fit came

      served : (s : Option ℕ) → CameAt (with_turn at (on_slot heard s k) p) → Fit c (with_turn at (on_slot heard s k) p)
      served None came = fit
      served (Some slot) came = on slot (call_on slot k.calls) refl came
  heeds_fit t f o r k p same (inr (inl lock)) fit came = absurd lock

  -- ---- a lock that waited is granted

  -- it isn't that of a reply
  heard_not : (past : List Line) (n t : ℕ) (m : Message) (l : Lock) (seen : List ℕ)
      → HeldOk (only t (line at (Take n (Target t) m) ∷ past)) c t l seen → ⊥
  heard_not past n t m l seen ok = (subst (λ (q : List Line). HeldOk q c t l seen)
      (ap (λ (b : Bool). if b then line at (Take n (Target t) m) ∷ only t past else only t past) (self t)) ok).heard

  pub granted_fit : (p : List Line) (n t : ℕ) (g : GrantNotice) (slot : ℕ) (r : Running) → (slot < 4) × (call_at c slot p ≡ Some r)
      → ((s : ℕ) → NotCame (call_at c s p)) → Fit c (line at (Take n (Target t) (message.Grant g)) ∷ p)
      → Grown few (with_turn at (lock_granted t g slot r r.stage) (line at (Take n (Target t) (message.Grant g)) ∷ p))
      → CameAt (with_turn at (lock_granted t g slot r r.stage) (line at (Take n (Target t) (message.Grant g)) ∷ p))
      → Fit c (with_turn at (lock_granted t g slot r r.stage) (line at (Take n (Target t) (message.Grant g)) ∷ p))
  granted_fit p n t g slot r on none fit = by r.stage refl
    where
      p1 : List Line
      p1 = line at (Take n (Target t) (message.Grant g)) ∷ p

      lines : Work → Lock → Bool → List Entry
      lines w l marked = Hold t (granted_as l g.extent) marked (Some g.size) g.seen ∷ Settles t g.committed.0
          ∷ Stands slot (at_stage r (Came w (granted_as l g.extent))) ∷ []

      comes : (w : Work) (target : TargetId) (l : Lock) (marked : Bool) → r.stage ≡ Waits w target l marked
          → Grown few (with_turn at (lines w l marked) p1) → CameAt (with_turn at (lines w l marked) p1)
          → Fit c (with_turn at (lines w l marked) p1)
      comes w target l marked st gr came =
          came_fit slot r w lock p3 on.0 on.1 (λ old. subst (RoomOf (held_at c p3) r.pins) st old) came
          (fit_light head c stamp p2 (Settles t g.committed.0) tt
          (hold_fit p1 t lock marked (Some g.size) g.seen (unheld_free p1 t lock fit (new (gr.1.1.0.of t (self t)))) gr.1.1 none fit))
        where
          lock : Lock
          lock = granted_as l g.extent

          p2 : List Line
          p2 = line at (Hold t lock marked (Some g.size) g.seen) ∷ p1

          p3 : List Line
          p3 = line at (Settles t g.committed.0) ∷ p2

          new : ((marked ≡ false) × HeldOk (only t p1) c t lock g.seen) ⊎ GivenOf (only t p1) c t lock g.seen → (h : HeldLock)
              → In h (held_at c p1) → h.target.0 ≡ t → h.lock.cookie ≡ lock.cookie → ⊥
          new (inl shown) = absurd (heard_not p n t (message.Grant g) lock g.seen shown.1)
          new (inr given) = given_fresh p1 t lock marked (Some g.size) g.seen gr.1.1.1 given

      by : (x : Stage) → r.stage ≡ x → Grown few (with_turn at (lock_granted t g slot r x) p1)
          → CameAt (with_turn at (lock_granted t g slot r x) p1) → Fit c (with_turn at (lock_granted t g slot r x) p1)
      by (Waits w target l marked) st gr came = comes w target l marked st gr came
      by x st gr came = fit
