-- A client's pins, line by line: what a line of its turn leaves of the counts, between its calls and while one goes on.
use Rattle.std.proofs.Common.{◌≡◌, ℕ, ◌+◌, ◌<◌, ◌≤◌, Bool, true, false, List, [], ◌∷◌, ◌++◌, ◌⊎◌, inl, inr, Option, Some, None, refl, sym}
use Rattle.std.proofs.Common.{subst, ap, ◌∙◌, arith}
use Rattle.std.specs.Prelude.{nat_eq, min, if◌then◌else◌}
use Rattle.std.proofs.lemmas.Bool.{eqb-true}
use Rattle.lu_base.specs.declared.ids.At.{At}
use Rattle.lu_base.specs.declared.ids.Node.TheVariants.{Client}
use Rattle.lu_base.specs.declared.ids.Stamp.{Stamp}
use Rattle.lu_base.specs.declared.locks.Lock.{Lock}
use Rattle.lu_msg.specs.declared.answers.Answer.{Answer}
use Rattle.lu_msg.specs.declared.calls.Call.{Call}
use Rattle.lu_msg.specs.declared.operations.Op.{Op}
use Rattle.lu_held.specs.declared.locks.Change.TheVariants as change
use Rattle.lu_held.specs.declared.locks.HeldLock.{HeldLock}
use Rattle.lu_held.specs.declared.names.LockName.{LockName}
use Rattle.lu_held.specs.Names.{same_name}
use Rattle.lu_held.specs.Locks.{name_of, is_named, most_pins, after as changed_by}
use Rattle.lu_held.specs.Held.{changed, used}
use Rattle.lu_spec_entries.specs.Carried.{HandleFile, Asking, Asked, Work, Plain, Bad, Running}
use Rattle.lu_spec_entries.specs.Words.{Entry, Begin, Told, Queues, Stands, Pins, Unpins, Marks, Unmarks, Drop, Heard, Hold, Line, line}
use Rattle.lu_spec_entries.specs.Words.{with_turn}
use Rattle.lu_spec_entries.specs.Fields.{on}
use Rattle.lu_spec_client.specs.Advances.{unpins, tells}
use Rattle.lu_spec_client.specs.Caches.{reads_held, held_after, held_at}
use Rattle.lu_spec_client.specs.Calls.{asks, asks_for, reads_call, call_after}
use Rattle.lu_proof_lawful.specs.Covered.Calls.{call_at, begun}
use Rattle.lu_spec_run.specs.Heads as table
use Rattle.lu_proof_lawful.proofs.Preconditions.Guards.{HasRange, In}
use Rattle.lu_proof_lawful.proofs.Preconditions.Lists.{self, in_append, turn}
use Rattle.lu_proof_lawful.proofs.Preconditions.ClientLocks.{names_same, own_name, Once, once_changed, once_used, once_unmarked}
use Rattle.lu_proof_lawful.proofs.Preconditions.ClientLocks.{changed_only, used_only}
use Rattle.lu_proof_lawful.proofs.Preconditions.ClientRests.{call_line, held_line}
use Rattle.lu_proof_lawful.proofs.Preconditions.PinsFit.{HasName}
use Rattle.lu_proof_lawful.proofs.Preconditions.PinsCount.{one_if, count_of, names_on, sum_of, pins_at, hand, Uniq, AllNamed, count_more}
use Rattle.lu_proof_lawful.proofs.Preconditions.PinsCount.{sum_less, sum_few, hand_more, hand_less, From, FromPinned, Into, from_pinned}
use Rattle.lu_proof_lawful.proofs.Preconditions.PinsCount.{from_same, into_same, into_names, same_names, changed_from, marked_from}
use Rattle.lu_proof_lawful.proofs.Preconditions.PinsCount.{unmarked_from, changed_into, unmarked_into, used_into, RoomOf, CallFit}
use Rattle.lu_proof_lawful.proofs.Preconditions.PinsCount.{call_from}

-- of one client
abbrev pub HeldBy : ℕ → List Line → Type 0
HeldBy c past = (slot : ℕ) (r : Running) (n : LockName) → call_at c slot past ≡ Some r → In n r.pins → HasName n (held_at c past)

abbrev pub PinsOf : ℕ → List Line → Type 0
PinsOf c [] = Unit {0}
PinsOf c (l ∷ past) = HeldBy c (l ∷ past) × PinsOf c past

-- locks of the metadata target are on names
abbrev pub AllBits : List HeldLock → Type 0
AllBits held = (h : HeldLock) → In h held → h.target.0 ≡ 0 → HasRange h.lock.ask.policy → ⊥

pub record Fit (c : ℕ) (p : List Line) : Type 0 where
  pub all : PinsOf c p
  pub once : Once (held_at c p)
  pub bits : AllBits (held_at c p)
  pub calls : (s : ℕ) → CallFit (held_at c p) (call_at c s p)
  pub counted : (h : HeldLock) → In h (held_at c p) → sum_of (name_of h) (pins_at c p) ≤ h.pins

-- while the call on that slot goes on, with these pinned so far
pub record Mid (c slot : ℕ) (names : List LockName) (p : List Line) : Type 0 where
  pub all : PinsOf c p
  pub small : slot < 4
  pub once : Once (held_at c p)
  pub bits : AllBits (held_at c p)
  pub others : (s : ℕ) → nat_eq slot s ≡ false → CallFit (held_at c p) (call_at c s p)
  pub standing : AllNamed (pins_at c p slot) (held_at c p)
  pub unique : Uniq names
  pub named : AllNamed names (held_at c p)
  pub counted : (h : HeldLock) → In h (held_at c p) → sum_of (name_of h) (hand slot names (pins_at c p)) ≤ h.pins

pub named_by : (c : ℕ) (p : List Line) → ((s : ℕ) → AllNamed (pins_at c p s) (held_at c p)) → HeldBy c p
named_by c p f slot r n e i = f slot n (subst (λ (x : Option Running). In n (names_on x)) (sym e) i)

pub call_named : (held : List HeldLock) (x : Option Running) → CallFit held x → AllNamed (names_on x) held
call_named held None k = λ n i. absurd i
call_named held (Some r) k = k.1

call_unique : (held : List HeldLock) (x : Option Running) → CallFit held x → Uniq (names_on x)
call_unique held None k = λ n. omega arith
call_unique held (Some r) k = k.0

bits_from : (now before : List HeldLock) → From now before → AllBits before → AllBits now
bits_from now before f b g i z range =
    let r = f g i in b r.0 r.1 (ap (λ (t : _). t.0) r.2 ∙ z) (subst (λ (l : Lock). HasRange l.ask.policy) (sym r.3) range)

named_into : (before now : List HeldLock) → Into before now → (names : List LockName) → AllNamed names before → AllNamed names now
named_into before now f names k n i = into_names before now f n (k n i)

-- ---- what a line makes of a call: it keeps all that it has pinned, or ends

abbrev pub Kept : Option Running → Option Running → Type 0
Kept x y = ((held : List HeldLock) → CallFit held x → CallFit held y) × ((n : LockName) → count_of n (names_on y) ≤ count_of n (names_on x))

pub kept_same : (x y : Option Running) → y ≡ x → Kept x y
kept_same x y e = (
  λ held k. subst (CallFit held) (sym e) k,
  λ n. subst
      (λ (z : Option Running). count_of n (names_on z) ≤ count_of n (names_on x)) (sym e) (omega arith),
)

pub kept_none : (x y : Option Running) → y ≡ None → Kept x y
kept_none x y e = (
  λ held k. subst (CallFit held) (sym e) tt,
  λ n. subst
      (λ (z : Option Running). count_of n (names_on z) ≤ count_of n (names_on x)) (sym e) (omega arith),
)

pub kept_asks : (o : Option ℕ) (s : ℕ) (a : Asking) (x : Option Running) → Kept x (asks_for o s a x)
kept_asks None s a x = kept_same x x refl
kept_asks (Some n) s a x = by (nat_eq n s) x
  where
    by : (b : Bool) (x : Option Running) → Kept x (if b then asks a x else x)
    by true None = kept_same None None refl
    by true (Some r) = (λ held k. k, λ n. omega arith)
    by false x = kept_same x x refl

pub kept_begun : (at : At) (k : Call) (f : Option HandleFile) (b : Bool) (x : Option Running)
    → Kept x (Some (begun at k f (if b then Bad else Plain)))
kept_begun at k f b x = (λ held z. (λ n. omega arith, λ n i. absurd i, by b held), λ n. omega arith)
  where
    by : (b : Bool) (held : List HeldLock) → RoomOf held [] (if b then Bad else Plain)
    by true held = tt
    by false held = refl

module _ (head : table.Head) (c : ℕ) (stamp : Stamp) where
  abbrev at : At
  at = turn stamp (Client c)

  -- ---- a line between calls

  pub fit_step : (p : List Line) (e : Entry) → Fit c p → Once (held_at c (line at e ∷ p))
      → FromPinned (held_at c (line at e ∷ p)) (held_at c p)
      → ((s : ℕ) → CallFit (held_at c (line at e ∷ p)) (call_at c s (line at e ∷ p)))
      → ((s : ℕ) (n : LockName) → count_of n (pins_at c (line at e ∷ p) s) ≤ count_of n (pins_at c p s)) → Fit c (line at e ∷ p)
  fit_step p e k once from calls less =
      record {
        all = (named_by c p1 (λ s. call_named (held_at c p1) (call_at c s p1) (calls s)), k.all);
        once = once;
        bits = bits_from (held_at c p1) (held_at c p) (from_pinned (held_at c p1) (held_at c p) from) k.bits;
        calls = calls;
        counted = λ h i.
            let q = from h i in
            let old : sum_of (name_of h) (pins_at c p) ≤ q.0.pins =
            subst (λ (m : LockName). sum_of m (pins_at c p) ≤ q.0.pins) (same_names q.0 h q.2 q.3) (k.counted q.0 q.1) in
            let few = sum_less (name_of h) (pins_at c p1) (pins_at c p) (λ s. less s (name_of h)) in
            let same = q.4 in
            omega (arith, old, few, same);
      }
    where
      p1 : List Line
      p1 = line at e ∷ p

  -- all that is pinned stays held
  pub fit_kept : (p : List Line) (e : Entry) → Fit c p → Once (held_at c (line at e ∷ p))
      → FromPinned (held_at c (line at e ∷ p)) (held_at c p) → Into (held_at c p) (held_at c (line at e ∷ p))
      → ((s : ℕ) → Kept (call_at c s p) (call_at c s (line at e ∷ p))) → Fit c (line at e ∷ p)
  fit_kept p e k once from into kept =
      let now = held_at c (line at e ∷ p) in
      fit_step p e k once from (λ s. (kept s).0 now (call_from now (held_at c p) (from_pinned now (held_at c p) from) into (call_at c s p)
      (k.calls s))) (λ s n. (kept s).1 n)

  -- one that leaves the held locks
  pub fit_held : (p : List Line) (e : Entry) → Fit c p → held_at c (line at e ∷ p) ≡ held_at c p
      → ((s : ℕ) → Kept (call_at c s p) (call_at c s (line at e ∷ p))) → Fit c (line at e ∷ p)
  fit_held p e k same kept =
      fit_kept p e k (subst Once (sym same) k.once) (subst (λ (hs : List HeldLock). FromPinned hs (held_at c p)) (sym same)
      (from_same (held_at c p)))
      (subst (Into (held_at c p)) (sym same) (into_same (held_at c p))) kept

  pub call_is : (p : List Line) (e : Entry) (s : ℕ) → Kept (call_at c s p) (call_after s (call_at c s p) e)
      → Kept (call_at c s p) (call_at c s (line at e ∷ p))
  call_is p e s k = subst (Kept (call_at c s p)) (sym (call_line head c stamp s p e)) k

  -- one that neither reads
  pub fit_quiet : (p : List Line) (e : Entry) → reads_call e ≡ false → reads_held e ≡ false → Fit c p → Fit c (line at e ∷ p)
  fit_quiet p e calls held k =
      fit_held p e k (ap (λ (b : Bool). on b (nat_eq c c) (held_after (held_at c p) e) (held_at c p)) held)
      (λ s. kept_same (call_at c s p) (call_at c s (line at e ∷ p))
      (ap (λ (b : Bool). on b (nat_eq c c) (call_after s (call_at c s p) e) (call_at c s p)) calls))

  pub fit_told : (p : List Line) (slot : ℕ) (t : At) (a : Answer) (w : Option Work) → Fit c p → Fit c (line at (Told slot t a w) ∷ p)
  fit_told p slot t a w k = fit_held p (Told slot t a w) k refl (λ s. call_is p (Told slot t a w) s (by (nat_eq slot s) (call_at c s p)))
    where
      by : (b : Bool) (x : Option Running) → Kept x (if b then None else x)
      by true x = kept_none x None refl
      by false x = kept_same x x refl

  pub fit_begun : (p : List Line) (slot : ℕ) (x : Call) (f : Option HandleFile) (bad : Bool) → Fit c p
      → Fit c (line at (Begin slot (begun at x f (if bad then Bad else Plain))) ∷ p)
  fit_begun p slot x f bad k = fit_held p e k refl (λ s. call_is p e s (by (nat_eq slot s) (call_at c s p)))
    where
      e : Entry
      e = Begin slot (begun at x f (if bad then Bad else Plain))

      by : (b : Bool) (y : Option Running) → Kept y (if b then Some (begun at x f (if bad then Bad else Plain)) else y)
      by true y = kept_begun at x f bad y
      by false y = kept_same y y refl

  pub fit_queues : (p : List Line) (t : ℕ) (q : _) → Fit c p → Fit c (line at (Queues t q) ∷ p)
  fit_queues p t q k = fit_held p (Queues t q) k refl (λ s. call_is p (Queues t q) s (kept_asks q.slot s Asked (call_at c s p)))

  pub fit_marks : (p : List Line) (n : LockName) → Fit c p → Fit c (line at (Marks n) ∷ p)
  fit_marks p n k =
      fit_kept p (Marks n) k (subst Once (sym so) (once_changed n change.Mark (held_at c p) k.once))
      (subst (λ (hs : List HeldLock). FromPinned hs (held_at c p)) (sym so) (marked_from n (held_at c p)))
      (subst (Into (held_at c p)) (sym so) (changed_into n change.Mark (held_at c p))) (λ s. kept_same (call_at c s p) (call_at c s p) refl)
    where
      so : held_at c (line at (Marks n) ∷ p) ≡ changed n change.Mark (held_at c p)
      so = held_line head c stamp p (Marks n)

  pub fit_unmarks : (p : List Line) (t : ℕ) → Fit c p → Fit c (line at (Unmarks t) ∷ p)
  fit_unmarks p t k =
      fit_kept p (Unmarks t) k (subst Once (sym so) (once_unmarked t (held_at c p) k.once))
      (subst (λ (hs : List HeldLock). FromPinned hs (held_at c p)) (sym so) (unmarked_from t (held_at c p)))
      (subst (Into (held_at c p)) (sym so) (unmarked_into t (held_at c p))) (λ s. kept_same (call_at c s p) (call_at c s p) refl)
    where
      so : held_at c (line at (Unmarks t) ∷ p) ≡ held_after (held_at c p) (Unmarks t)
      so = held_line head c stamp p (Unmarks t)

  -- those that change no pins
  abbrev pub IsLight : Entry → Type 0
  IsLight (Pins n) = ⊥
  IsLight (Unpins n) = ⊥
  IsLight (Stands slot r) = ⊥
  IsLight (Drop t lock) = ⊥
  IsLight (Hold t lock marked size seen) = ⊥
  IsLight (Heard t f r) = ⊥
  IsLight (Begin slot r) = ⊥
  IsLight _ = Unit {0}

  pub fit_light : (p : List Line) (e : Entry) → IsLight e → Fit c p → Fit c (line at e ∷ p)
  fit_light p (Pins n) l k = absurd l
  fit_light p (Unpins n) l k = absurd l
  fit_light p (Stands slot r) l k = absurd l
  fit_light p (Drop t lock) l k = absurd l
  fit_light p (Hold t lock marked size seen) l k = absurd l
  fit_light p (Heard t f r) l k = absurd l
  fit_light p (Begin slot r) l k = absurd l
  fit_light p (Told slot t a w) l k = fit_told p slot t a w k
  fit_light p (Queues t q) l k = fit_queues p t q k
  fit_light p (Marks n) l k = fit_marks p n k
  fit_light p (Unmarks t) l k = fit_unmarks p t k
  fit_light p e l k = fit_quiet p e refl refl k

  abbrev pub AllLight : List Entry → Type 0
  AllLight [] = Unit {0}
  AllLight (e ∷ es) = IsLight e × AllLight es

  pub fit_lights : (es : List Entry) (p : List Line) → AllLight es → Fit c p → Fit c (with_turn at es p)
  fit_lights [] p l k = k
  fit_lights (e ∷ es) p l k = fit_lights es (line at e ∷ p) l.1 (fit_light p e l.0 k)

  pub lights_more : (es fs : List Entry) → AllLight es → AllLight fs → AllLight (es ++ fs)
  lights_more [] fs a b = b
  lights_more (e ∷ es) fs a b = (a.0, lights_more es fs a.1 b)

  -- a write-back is queued, for no call
  pub back_calls : (p : List Line) (t : ℕ) (o : Op) (s : ℕ) → call_at c s (line at (Queues t (record { slot = None; op = o })) ∷ p)
      ≡ call_at c s p
  back_calls p t o s = call_line head c stamp s p (Queues t (record { slot = None; op = o }))

  -- ---- a call goes on

  pub mid_of : (slot : ℕ) (r : Running) (p : List Line) → slot < 4 → call_at c slot p ≡ Some r → Fit c p → Mid c slot r.pins p
  mid_of slot r p small e k =
      record {
        all = k.all;
        small = small;
        once = k.once;
        bits = k.bits;
        others = λ s q. k.calls s;
        standing = call_named (held_at c p) (call_at c slot p) (k.calls slot);
        unique = own.0;
        named = own.1;
        counted = λ h i.
            let old = k.counted h i in
            let few = sum_less (name_of h) (hand slot r.pins (pins_at c p)) (pins_at c p) (λ s. by (name_of h) s (nat_eq slot s) refl) in
            omega (arith, old, few);
      }
    where
      own : CallFit (held_at c p) (Some r)
      own = subst (CallFit (held_at c p)) e (k.calls slot)

      by : (n : LockName) (s : ℕ) (b : Bool) → nat_eq slot s ≡ b
          → count_of n (if b then r.pins else pins_at c p s) ≤ count_of n (pins_at c p s)
      by n s true q = let same : r.pins ≡ pins_at c p s = ap names_on (sym e) ∙ ap (pins_at c p) (eqb-true slot s q)
          in subst (λ (ns : List LockName). count_of n r.pins ≤ count_of n ns) same (omega arith)
      by n s false q = omega arith

  -- a call has each name once at most
  mid_few : (slot : ℕ) (names : List LockName) (p : List Line) → Mid c slot names p → (m : LockName)
      → sum_of m (hand slot names (pins_at c p)) ≤ 4
  mid_few slot names p k m = sum_few m (hand slot names (pins_at c p)) (λ s. by s (nat_eq slot s) refl)
    where
      by : (s : ℕ) (b : Bool) → nat_eq slot s ≡ b → count_of m (if b then names else pins_at c p s) ≤ 1
      by s true q = k.unique m
      by s false q = call_unique (held_at c p) (call_at c s p) (k.others s q) m

  turned : (n m : LockName) (v : Bool) → same_name n m ≡ v → same_name m n ≡ v
  turned n m true e = let is = names_same n m e in ap (λ (x : LockName). same_name m x) is ∙ own_name m
  turned n m false e = by (same_name m n) refl
    where
      by : (w : Bool) → same_name m n ≡ w → w ≡ false
      by false f = refl
      by true f = absurd (let is = names_same m n f in let t : same_name n m ≡ true = ap (λ (x : LockName). same_name n x) is ∙ own_name n
          in let q : true ≡ false = sym t ∙ e in cc)

  pub mid_pin : (slot : ℕ) (names : List LockName) (n : LockName) (p : List Line) → Mid c slot names p → HasName n (held_at c p)
      → count_of n names ≡ 0 → Mid c slot (names ++ n ∷ []) (line at (Pins n) ∷ p)
  mid_pin slot names n p k has zero_it =
      record {
        all = (named_by c p1 standing, k.all);
        small = k.small;
        once = subst Once (sym so) (once_changed n change.Pin hs k.once);
        bits = bits_from (held_at c p1) hs from k.bits;
        others = λ s q. call_from (held_at c p1) hs from into (call_at c s p) (k.others s q);
        standing = standing slot;
        unique = λ m. let more = count_more m n names in by m (same_name m n) refl more;
        named = λ m i. into_names hs (held_at c p1) into m (named m (in_append m names (n ∷ []) i));
        counted = subst (λ (gs : List HeldLock). (h : HeldLock) → In h gs
            → sum_of (name_of h) (hand slot (names ++ n ∷ []) (pins_at c p)) ≤ h.pins) (sym so)
            (λ h i. let r = changed_only n change.Pin h hs i in each r.0 r.1 h r.2);
      }
    where
      hs : List HeldLock
      hs = held_at c p

      p1 : List Line
      p1 = line at (Pins n) ∷ p

      so : held_at c p1 ≡ changed n change.Pin hs
      so = held_line head c stamp p (Pins n)

      from : From (held_at c p1) hs
      from = subst (λ (gs : List HeldLock). From gs hs) (sym so) (changed_from n change.Pin hs)

      into : Into hs (held_at c p1)
      into = subst (Into hs) (sym so) (changed_into n change.Pin hs)

      standing : (s : ℕ) → AllNamed (pins_at c p s) (held_at c p1)
      standing s = named_into hs (held_at c p1) into (pins_at c p s) (one (nat_eq slot s) refl)
        where
          one : (b : Bool) → nat_eq slot s ≡ b → AllNamed (pins_at c p s) hs
          one true q = subst (λ (u : ℕ). AllNamed (pins_at c p u) hs) (eqb-true slot s q) k.standing
          one false q = call_named hs (call_at c s p) (k.others s q)

      by : (m : LockName) (b : Bool) → same_name m n ≡ b → count_of m (names ++ n ∷ []) ≡ count_of m names + one_if (same_name m n)
          → count_of m (names ++ n ∷ []) ≤ 1
      by m true e more =
          let none : count_of m names ≡ 0 = ap (λ (x : LockName). count_of x names) (names_same m n e) ∙ zero_it in
          let one : one_if (same_name m n) ≡ 1 = ap one_if e in
          omega (arith, none, one, more)
      by m false e more = let low = k.unique m in let one : one_if (same_name m n) ≡ 0 = ap one_if e in omega (arith, low, one, more)

      named : (m : LockName) → In m names ⊎ In m (n ∷ []) → HasName m hs
      named m (inl i) = k.named m i
      named m (inr (inl e)) = subst (λ (x : LockName). HasName x hs) e has
      named m (inr (inr i)) = absurd i

      HasPins : HeldLock → Type 0
      HasPins h = sum_of (name_of h) (hand slot (names ++ n ∷ []) (pins_at c p)) ≤ h.pins

      each : (g : HeldLock) → In g hs → (h : HeldLock) → (if is_named n g then changed_by change.Pin g else g) ≡ h → HasPins h
      each g i h is = subst HasPins is (by (is_named n g) refl)
        where
          old : sum_of (name_of g) (hand slot names (pins_at c p)) ≤ g.pins
          old = k.counted g i

          few : sum_of (name_of g) (hand slot names (pins_at c p)) ≤ 4
          few = mid_few slot names p k (name_of g)

          added : sum_of (name_of g) (hand slot (names ++ n ∷ []) (pins_at c p))
              ≡ sum_of (name_of g) (hand slot names (pins_at c p)) + one_if (same_name (name_of g) n)
          added = hand_more slot (name_of g) n names (pins_at c p) k.small

          fits : (a b m : ℕ) → a ≤ b → a ≤ 4 → m ≡ a + 1 → m ≤ min (b + 1) most_pins
          fits a b m low little e = omega (arith, low, little, e)

          by : (v : Bool) → is_named n g ≡ v → HasPins (if v then changed_by change.Pin g else g)
          by true e =
              fits (sum_of (name_of g) (hand slot names (pins_at c p))) g.pins
              (sum_of (name_of g) (hand slot (names ++ n ∷ []) (pins_at c p))) old few
              (added ∙ ap (λ (x : ℕ). sum_of (name_of g) (hand slot names (pins_at c p)) + x) (ap one_if (turned n (name_of g) true e)))
          by false e = let one : one_if (same_name (name_of g) n) ≡ 0 = ap one_if (turned n (name_of g) false e)
              in omega (arith, old, added, one)

  pub mid_unpin : (slot : ℕ) (n : LockName) (rest : List LockName) (p : List Line) → Mid c slot (n ∷ rest) p
      → Mid c slot rest (line at (Unpins n) ∷ p)
  mid_unpin slot n rest p k =
      record {
        all = (named_by c p1 standing, k.all);
        small = k.small;
        once = subst Once (sym so) (once_used n (changed n change.Unpin hs) (once_changed n change.Unpin hs k.once));
        bits = bits_from (held_at c p1) hs from k.bits;
        others = λ s q. call_from (held_at c p1) hs from into (call_at c s p) (k.others s q);
        standing = standing slot;
        unique = λ m. let low = k.unique m in omega (arith, low);
        named = λ m i. into_names hs (held_at c p1) into m (k.named m (inr i));
        counted = subst (λ (gs : List HeldLock). (h : HeldLock) → In h gs → sum_of (name_of h) (hand slot rest (pins_at c p)) ≤ h.pins)
            (sym so)
            (λ h i. let r = changed_only n change.Unpin h hs (used_only n h (changed n change.Unpin hs) i) in each r.0 r.1 h r.2);
      }
    where
      hs : List HeldLock
      hs = held_at c p

      p1 : List Line
      p1 = line at (Unpins n) ∷ p

      so : held_at c p1 ≡ used n (changed n change.Unpin hs)
      so = held_line head c stamp p (Unpins n)

      from : From (held_at c p1) hs
      from = subst (λ (gs : List HeldLock). From gs hs) (sym so)
          (λ g i. changed_from n change.Unpin hs g (used_only n g (changed n change.Unpin hs) i))

      into : Into hs (held_at c p1)
      into = subst (Into hs) (sym so) (λ h i.
          let one = changed_into n change.Unpin hs h i in
          let two = used_into n (changed n change.Unpin hs) one.0 one.1 in
          (two.0, two.1, two.2 ∙ one.2, two.3 ∙ one.3))

      standing : (s : ℕ) → AllNamed (pins_at c p s) (held_at c p1)
      standing s = named_into hs (held_at c p1) into (pins_at c p s) (one (nat_eq slot s) refl)
        where
          one : (b : Bool) → nat_eq slot s ≡ b → AllNamed (pins_at c p s) hs
          one true q = subst (λ (u : ℕ). AllNamed (pins_at c p u) hs) (eqb-true slot s q) k.standing
          one false q = call_named hs (call_at c s p) (k.others s q)

      HasPins : HeldLock → Type 0
      HasPins h = sum_of (name_of h) (hand slot rest (pins_at c p)) ≤ h.pins

      each : (g : HeldLock) → In g hs → (h : HeldLock) → (if is_named n g then changed_by change.Unpin g else g) ≡ h → HasPins h
      each g i h is = subst HasPins is (by (is_named n g) refl)
        where
          old : sum_of (name_of g) (hand slot (n ∷ rest) (pins_at c p)) ≤ g.pins
          old = k.counted g i

          less : sum_of (name_of g) (hand slot (n ∷ rest) (pins_at c p))
              ≡ sum_of (name_of g) (hand slot rest (pins_at c p)) + one_if (same_name (name_of g) n)
          less = hand_less slot (name_of g) n rest (pins_at c p) k.small

          by : (v : Bool) → is_named n g ≡ v → HasPins (if v then changed_by change.Unpin g else g)
          by true e = let one : one_if (same_name (name_of g) n) ≡ 1 = ap one_if (turned n (name_of g) true e)
              in omega (arith, old, less, one)
          by false e = omega (arith, old, less)

  pub mid_unpins : (slot : ℕ) (names : List LockName) (p : List Line) → Mid c slot names p → Mid c slot [] (with_turn at (unpins names) p)
  mid_unpins slot [] p k = k
  mid_unpins slot (n ∷ names) p k = mid_unpins slot names (line at (Unpins n) ∷ p) (mid_unpin slot n names p k)

  -- it stands with all of them
  pub mid_stands : (slot : ℕ) (names : List LockName) (r : Running) (p : List Line) → Mid c slot names p → r.pins ≡ names
      → RoomOf (held_at c p) r.pins r.stage → Fit c (line at (Stands slot r) ∷ p)
  mid_stands slot names r p k pins room =
      record {
        all = (named_by c p1 (λ s. call_named hs (call_at c s p1) (calls s)), k.all);
        once = k.once;
        bits = k.bits;
        calls = calls;
        counted = λ h i.
            let old = k.counted h i in
            let few =
            sum_less (name_of h) (pins_at c p1) (hand slot names (pins_at c p))
            (λ s. subst (λ (x : Option Running). count_of (name_of h) (names_on x) ≤ count_of (name_of h) (hand slot names (pins_at c p) s))
            (sym (now s)) (less (name_of h) s (nat_eq slot s))) in
            omega (arith, old, few);
      }
    where
      hs : List HeldLock
      hs = held_at c p

      p1 : List Line
      p1 = line at (Stands slot r) ∷ p

      now : (s : ℕ) → call_at c s p1 ≡ (if nat_eq slot s then Some r else call_at c s p)
      now s = call_line head c stamp s p (Stands slot r)

      calls : (s : ℕ) → CallFit hs (call_at c s p1)
      calls s = subst (CallFit hs) (sym (now s)) (by (nat_eq slot s) refl)
        where
          by : (b : Bool) → nat_eq slot s ≡ b → CallFit hs (if b then Some r else call_at c s p)
          by true q = (subst Uniq (sym pins) k.unique, subst (λ (ns : List LockName). AllNamed ns hs) (sym pins) k.named, room)
          by false q = k.others s q

      less : (n : LockName) (s : ℕ) (b : Bool) → count_of n (names_on (if b then Some r else call_at c s p)) ≤ count_of n
          (if b then names else pins_at c p s)
      less n s true = subst (λ (ns : List LockName). count_of n r.pins ≤ count_of n ns) pins (omega arith)
      less n s false = omega arith

  -- or is told, and unpins them all
  told_none : (slot : ℕ) (t : At) (a : Answer) (w : Option Work) (p : List Line) → call_at c slot (line at (Told slot t a w) ∷ p) ≡ None
  told_none slot t a w p = call_line head c stamp slot p (Told slot t a w) ∙ rw (self slot) refl

  unpins_calls : (names : List LockName) (p : List Line) (s : ℕ) → call_at c s (with_turn at (unpins names) p) ≡ call_at c s p
  unpins_calls [] p s = refl
  unpins_calls (n ∷ names) p s = unpins_calls names (line at (Unpins n) ∷ p) s

  mid_told : (slot : ℕ) (names : List LockName) (t : At) (a : Answer) (w : Option Work) (p : List Line) → Mid c slot names p
      → Mid c slot names (line at (Told slot t a w) ∷ p)
  mid_told slot names t a w p k =
      record {
        all = (
          named_by c p1 (λ s. subst (λ (x : Option Running). AllNamed (names_on x) hs) (sym (now s)) (named s (nat_eq slot s) refl)),
          k.all,
        );
        small = k.small;
        once = k.once;
        bits = k.bits;
        others = λ s q. subst (CallFit hs) (sym (now s)) (by s (nat_eq slot s) q);
        standing = subst (λ (x : Option Running). AllNamed (names_on x) hs) (sym (told_none slot t a w p)) (λ n i. absurd i);
        unique = k.unique;
        named = k.named;
        counted = λ h i.
            let old = k.counted h i in
            let few = sum_less (name_of h) (hand slot names (pins_at c p1)) (hand slot names (pins_at c p))
            (λ s. less (name_of h) s (nat_eq slot s) refl) in
            omega (arith, old, few);
      }
    where
      hs : List HeldLock
      hs = held_at c p

      p1 : List Line
      p1 = line at (Told slot t a w) ∷ p

      now : (s : ℕ) → call_at c s p1 ≡ (if nat_eq slot s then None else call_at c s p)
      now s = call_line head c stamp s p (Told slot t a w)

      by : (s : ℕ) (b : Bool) → nat_eq slot s ≡ false → CallFit hs (if b then None else call_at c s p)
      by s true q = tt
      by s false q = k.others s q

      named : (s : ℕ) (b : Bool) → nat_eq slot s ≡ b → AllNamed (names_on (if b then None else call_at c s p)) hs
      named s true q = λ n i. absurd i
      named s false q = call_named hs (call_at c s p) (k.others s q)

      less : (n : LockName) (s : ℕ) (b : Bool) → nat_eq slot s ≡ b
          → count_of n (if b then names else pins_at c p1 s) ≤ count_of n (if b then names else pins_at c p s)
      less n s true q = omega arith
      less n s false q = subst (λ (x : Option Running). count_of n (names_on x) ≤ count_of n (pins_at c p s))
          (sym (now s ∙ ap (λ (b : Bool). if b then None else call_at c s p) q)) (omega arith)

  mid_end : (slot : ℕ) (p : List Line) → Mid c slot [] p → call_at c slot p ≡ None → Fit c p
  mid_end slot p k none =
      record {
        all = k.all;
        once = k.once;
        bits = k.bits;
        calls = λ s. by s (nat_eq slot s) refl;
        counted = λ h i.
            let old = k.counted h i in
            let few = sum_less (name_of h) (pins_at c p) (hand slot [] (pins_at c p)) (λ s. less (name_of h) s (nat_eq slot s) refl) in
            omega (arith, old, few);
      }
    where
      at_slot : (s : ℕ) → nat_eq slot s ≡ true → call_at c s p ≡ None
      at_slot s q = ap (λ (u : ℕ). call_at c u p) (sym (eqb-true slot s q)) ∙ none

      by : (s : ℕ) (b : Bool) → nat_eq slot s ≡ b → CallFit (held_at c p) (call_at c s p)
      by s true q = subst (CallFit (held_at c p)) (sym (at_slot s q)) tt
      by s false q = k.others s q

      less : (n : LockName) (s : ℕ) (b : Bool) → nat_eq slot s ≡ b
          → count_of n (pins_at c p s) ≤ count_of n (if b then [] else pins_at c p s)
      less n s true q = subst (λ (x : Option Running). count_of n (names_on x) ≤ 0) (sym (at_slot s q)) (omega arith)
      less n s false q = omega arith

  pub tells_fit : (slot : ℕ) (r : Running) (t : At) (a : Answer) (w : Option Work) (p : List Line) → Mid c slot r.pins p
      → Fit c (with_turn at (tells slot r t a w) p)
  tells_fit slot r t a w p k =
      let p1 = line at (Told slot t a w) ∷ p in
      mid_end slot (with_turn at (unpins r.pins) p1) (mid_unpins slot r.pins p1 (mid_told slot r.pins t a w p k))
      (unpins_calls r.pins p1 slot ∙ told_none slot t a w p)

  -- a line that neither reads leaves it as it is
  pub mid_quiet : (slot : ℕ) (names : List LockName) (p : List Line) (e : Entry) → reads_call e ≡ false → reads_held e ≡ false
      → Mid c slot names p → Mid c slot names (line at e ∷ p)
  mid_quiet slot names p e quiet still k =
      record {
        all = (
          named_by c p1 (λ s. subst (λ (x : Option Running). AllNamed (names_on x) (held_at c p1)) (sym (calls s))
              (subst (AllNamed (pins_at c p s)) (sym held) (named s (nat_eq slot s) refl))),
          k.all,
        );
        small = k.small;
        once = subst Once (sym held) k.once;
        bits = subst AllBits (sym held) k.bits;
        others = λ s q. subst (CallFit (held_at c p1)) (sym (calls s))
            (subst (λ (hs : List HeldLock). CallFit hs (call_at c s p)) (sym held) (k.others s q));
        standing = subst (λ (x : Option Running). AllNamed (names_on x) (held_at c p1)) (sym (calls slot))
            (subst (AllNamed (pins_at c p slot)) (sym held) k.standing);
        unique = k.unique;
        named = subst (AllNamed names) (sym held) k.named;
        counted = λ h i.
            let old = k.counted h (subst (λ (hs : List HeldLock). In h hs) held i) in
            let few = sum_less (name_of h) (hand slot names (pins_at c p1)) (hand slot names (pins_at c p))
            (λ s. less (name_of h) s (nat_eq slot s)) in
            omega (arith, old, few);
      }
    where
      p1 : List Line
      p1 = line at e ∷ p

      calls : (s : ℕ) → call_at c s p1 ≡ call_at c s p
      calls s = ap (λ (b : Bool). on b (nat_eq c c) (call_after s (call_at c s p) e) (call_at c s p)) quiet

      held : held_at c p1 ≡ held_at c p
      held = ap (λ (b : Bool). on b (nat_eq c c) (held_after (held_at c p) e) (held_at c p)) still

      named : (s : ℕ) (b : Bool) → nat_eq slot s ≡ b → AllNamed (pins_at c p s) (held_at c p)
      named s true q = subst (λ (u : ℕ). AllNamed (pins_at c p u) (held_at c p)) (eqb-true slot s q) k.standing
      named s false q = call_named (held_at c p) (call_at c s p) (k.others s q)

      less : (n : LockName) (s : ℕ) (b : Bool) → count_of n (if b then names else pins_at c p1 s) ≤ count_of n
          (if b then names else pins_at c p s)
      less n s true = omega arith
      less n s false = subst (λ (x : Option Running). count_of n (names_on x) ≤ count_of n (pins_at c p s)) (sym (calls s)) (omega arith)
