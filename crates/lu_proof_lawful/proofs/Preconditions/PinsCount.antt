-- Pins are counted: of each held lock there are at least as many as it stands among those of the calls, and no call has one twice. So what
-- a
-- call has pinned stays held. Said of a client's calls and held locks, between parts of its turns, and while a call on one slot goes on,
-- with
-- what that has pinned so far.
use Rattle.std.proofs.Common.{◌≡◌, ℕ, zero, suc, ◌+◌, ◌<◌, ◌≤◌, Bool, true, false, List, [], ◌∷◌, ◌++◌, inl, inr, Option, Some, None, refl}
use Rattle.std.proofs.Common.{sym, subst, ap, ◌∙◌, arith}
use Rattle.std.specs.Prelude.{nat_eq, if◌then◌else◌, filter}
use Rattle.lu_base.specs.declared.locks.Lock.{Lock}
use Rattle.lu_held.specs.declared.locks.Change.{Change}
use Rattle.lu_held.specs.declared.locks.Change.TheVariants as change
use Rattle.lu_held.specs.declared.locks.HeldLock.{HeldLock}
use Rattle.lu_held.specs.declared.locks.Use.{Use}
use Rattle.lu_held.specs.declared.names.LockName.{LockName}
use Rattle.lu_held.specs.Names.{same_name}
use Rattle.lu_held.specs.Locks.{name_of, is_named, after}
use Rattle.lu_held.specs.Held.{changed, used, without, unmarked}
use Rattle.lu_spec_entries.specs.Carried.{Work, Stage, Plain, Bad, Looks, Enqueued, Waits, Came, Forgotten, Gets, Flushing, Sizes, Running}
use Rattle.lu_spec_entries.specs.Words.{Line}
use Rattle.lu_spec_client.specs.Advances.{name_under}
use Rattle.lu_proof_lawful.specs.Covered.Calls.{call_at}
use Rattle.lu_proof_lawful.proofs.Preconditions.Guards.{HasRange, In}
use Rattle.lu_proof_lawful.proofs.Preconditions.Lists.{in_left, in_right, in_filtered}
use Rattle.lu_proof_lawful.proofs.Preconditions.ClientLocks.{names_same, own_name, in_mapped, changed_only, unmarked_only, without_only}
use Rattle.lu_proof_lawful.proofs.Preconditions.ClientLocks.{without_other}
use Rattle.lu_proof_lawful.proofs.Preconditions.PinsFit.{HasName}

-- ---- counts

abbrev pub one_if : Bool → ℕ
one_if v = if v then 1 else 0

-- how often a name stands among these
abbrev pub count_of : LockName → List LockName → ℕ
count_of name [] = 0
count_of name (n ∷ names) = one_if (same_name name n) + count_of name names

abbrev pub names_on : Option Running → List LockName
names_on None = []
names_on (Some r) = r.pins

-- and among those of four calls
abbrev pub sum_of : LockName → (ℕ → List LockName) → ℕ
sum_of name f = count_of name (f 0) + count_of name (f 1) + count_of name (f 2) + count_of name (f 3)

abbrev pub pins_at : ℕ → List Line → ℕ → List LockName
pins_at c past slot = names_on (call_at c slot past)

-- the call on that slot has these instead
abbrev pub hand : ℕ → List LockName → (ℕ → List LockName) → ℕ → List LockName
hand slot names f s = if nat_eq slot s then names else f s

abbrev pub Uniq : List LockName → Type 0
Uniq names = (n : LockName) → count_of n names ≤ 1

abbrev pub AllNamed : List LockName → List HeldLock → Type 0
AllNamed names held = (n : LockName) → In n names → HasName n held

pub count_more : (name n : LockName) (names : List LockName) → count_of name (names ++ n ∷ [])
    ≡ count_of name names + one_if (same_name name n)
count_more name n [] = omega arith
count_more name n (m ∷ names) = let e = count_more name n names in omega (arith, e)

pub count_in : (name : LockName) (names : List LockName) → In name names → 0 < count_of name names
count_in name [] i = absurd i
count_in name (n ∷ names) (inl e) = let t : one_if (same_name name n) ≡ 1 =
    ap one_if (ap (λ (m : LockName). same_name name m) e ∙ own_name name) in omega (arith, t)
count_in name (n ∷ names) (inr i) = let h = count_in name names i in omega (arith, h)

pub in_count : (name : LockName) (names : List LockName) → 0 < count_of name names → In name names
in_count name [] low = absurd (omega (arith, low))
in_count name (n ∷ names) low = by (same_name name n) refl low (in_count name names)
  where
    by : (b : Bool) → same_name name n ≡ b → 0 < one_if b + count_of name names → (0 < count_of name names → In name names)
        → In name (n ∷ names)
    by true e l more = inl (sym (names_same name n e))
    by false e l more = inr (more (omega (arith, l)))

pub not_counted : (name : LockName) (names : List LockName) → (In name names → ⊥) → count_of name names ≡ 0
not_counted name names not = by (count_of name names) refl
  where
    by : (k : ℕ) → count_of name names ≡ k → count_of name names ≡ 0
    by zero e = e
    by (suc k) e = absurd (not (in_count name names (omega (arith, e))))

pub sum_less : (n : LockName) (f g : ℕ → List LockName) → ((s : ℕ) → count_of n (f s) ≤ count_of n (g s)) → sum_of n f ≤ sum_of n g
sum_less n f g le = let a = le 0 in let b = le 1 in let d = le 2 in let e = le 3 in omega (arith, a, b, d, e)

pub sum_few : (n : LockName) (f : ℕ → List LockName) → ((s : ℕ) → count_of n (f s) ≤ 1) → sum_of n f ≤ 4
sum_few n f le = let a = le 0 in let b = le 1 in let d = le 2 in let e = le 3 in omega (arith, a, b, d, e)

-- one call's are among them
pub sum_has : (slot : ℕ) (n : LockName) (f : ℕ → List LockName) → slot < 4 → count_of n (f slot) ≤ sum_of n f
sum_has zero n f low = omega arith
sum_has (suc zero) n f low = omega arith
sum_has (suc (suc zero)) n f low = omega arith
sum_has (suc (suc (suc zero))) n f low = omega arith
sum_has (suc (suc (suc (suc s)))) n f low = absurd (omega (arith, low))

pub hand_more : (slot : ℕ) (m n : LockName) (names : List LockName) (f : ℕ → List LockName) → slot < 4
    → sum_of m (hand slot (names ++ n ∷ []) f) ≡ sum_of m (hand slot names f) + one_if (same_name m n)
hand_more zero m n names f low = let e = count_more m n names in omega (arith, e)
hand_more (suc zero) m n names f low = let e = count_more m n names in omega (arith, e)
hand_more (suc (suc zero)) m n names f low = let e = count_more m n names in omega (arith, e)
hand_more (suc (suc (suc zero))) m n names f low = let e = count_more m n names in omega (arith, e)
hand_more (suc (suc (suc (suc s)))) m n names f low = absurd (omega (arith, low))

pub hand_less : (slot : ℕ) (m n : LockName) (rest : List LockName) (f : ℕ → List LockName) → slot < 4 → sum_of m (hand slot (n ∷ rest) f)
    ≡ sum_of m (hand slot rest f) + one_if (same_name m n)
hand_less zero m n rest f low = omega arith
hand_less (suc zero) m n rest f low = omega arith
hand_less (suc (suc zero)) m n rest f low = omega arith
hand_less (suc (suc (suc zero))) m n rest f low = omega arith
hand_less (suc (suc (suc (suc s)))) m n rest f low = absurd (omega (arith, low))

-- ---- held locks by name

-- each of these is one of those, perhaps changed
abbrev pub From : List HeldLock → List HeldLock → Type 0
From now before = (g : HeldLock) → In g now → (h : HeldLock) × In h before × (h.target ≡ g.target) × (h.lock ≡ g.lock)

-- with as many pins
abbrev pub FromPinned : List HeldLock → List HeldLock → Type 0
FromPinned now before = (g : HeldLock) → In g now → (h : HeldLock) × In h before × (h.target ≡ g.target) × (h.lock ≡ g.lock)
    × (h.pins ≡ g.pins)

-- no name is gone
abbrev pub Names : List HeldLock → List HeldLock → Type 0
Names before now = (n : LockName) → HasName n before → HasName n now

pub from_pinned : (now before : List HeldLock) → FromPinned now before → From now before
from_pinned now before f g i = let r = f g i in (r.0, r.1, r.2, r.3)

pub from_same : (held : List HeldLock) → FromPinned held held
from_same held g i = (g, i, refl, refl, refl)

-- of the same name
pub same_names : (h g : HeldLock) → h.target ≡ g.target → h.lock ≡ g.lock → name_of h ≡ name_of g
same_names h g t l = ap (λ (u : _). record { target = u; cookie = h.lock.cookie }) t
    ∙ ap (λ (k : Lock). record { target = g.target; cookie = k.cookie }) l

done_target : (ch : Change) (h : HeldLock) → (after ch h).target ≡ h.target
done_target change.Mark h = refl
done_target change.Unmark h = refl
done_target change.Pin h = refl
done_target change.Unpin h = refl

done_lock : (ch : Change) (h : HeldLock) → (after ch h).lock ≡ h.lock
done_lock change.Mark h = refl
done_lock change.Unmark h = refl
done_lock change.Pin h = refl
done_lock change.Unpin h = refl

if_target : (b : Bool) (ch : Change) (h : HeldLock) → (if b then after ch h else h).target ≡ h.target
if_target true ch h = done_target ch h
if_target false ch h = refl

if_lock : (b : Bool) (ch : Change) (h : HeldLock) → (if b then after ch h else h).lock ≡ h.lock
if_lock true ch h = done_lock ch h
if_lock false ch h = refl

pub changed_from : (n : LockName) (ch : Change) (hs : List HeldLock) → From (changed n ch hs) hs
changed_from n ch hs g i =
    let r = changed_only n ch g hs i in (
      r.0,
      r.1,
      sym (if_target (is_named n r.0) ch r.0) ∙ ap (λ (x : HeldLock). x.target) r.2,
      sym (if_lock (is_named n r.0) ch r.0)
          ∙ ap (λ (x : HeldLock). x.lock) r.2,
    )

pub marked_from : (n : LockName) (hs : List HeldLock) → FromPinned (changed n change.Mark hs) hs
marked_from n hs g i =
    let r = changed_only n change.Mark g hs i in
    let q = changed_from n change.Mark hs g i in (
      r.0,
      r.1,
      sym (if_target (is_named n r.0) change.Mark r.0) ∙ ap (λ (x : HeldLock). x.target) r.2,
      sym (if_lock (is_named n r.0) change.Mark r.0) ∙ ap (λ (x : HeldLock). x.lock) r.2,
      sym (pins (is_named n r.0) r.0) ∙ ap (λ (x : HeldLock). x.pins) r.2,
    )
  where
    pins : (b : Bool) (h : HeldLock) → (if b then after change.Mark h else h).pins ≡ h.pins
    pins true h = refl
    pins false h = refl

pub unmarked_from : (t : ℕ) (hs : List HeldLock) → FromPinned (unmarked (record { 0 = t }) hs) hs
unmarked_from t hs g i =
    let r = unmarked_only t g hs i in
    let b = nat_eq r.0.target.0 t in (
      r.0,
      r.1,
      sym (if_target b change.Unmark r.0) ∙ ap (λ (x : HeldLock). x.target) r.2,
      sym (if_lock b change.Unmark r.0)
          ∙ ap (λ (x : HeldLock). x.lock) r.2,
      sym (pins b r.0) ∙ ap (λ (x : HeldLock). x.pins) r.2,
    )
  where
    pins : (b : Bool) (h : HeldLock) → (if b then after change.Unmark h else h).pins ≡ h.pins
    pins true h = refl
    pins false h = refl

pub without_from : (n : LockName) (hs : List HeldLock) → FromPinned (without n hs) hs
without_from n hs g i = (g, (without_only n g hs i).0, refl, refl, refl)

-- ---- a call

-- a lock on a range of bytes that lies on that object
abbrev pub LiesOn : HeldLock → Use → Type 0
LiesOn h x = (h.target.0 ≡ x.target.0) × (h.lock.resource ≡ x.resource) × HasRange h.lock.ask.policy

-- no lock on an object that is left is pinned by the call
abbrev pub Room : List HeldLock → List LockName → List Use → Type 0
Room held names left = (h : HeldLock) → In h held → (x : Use) → In x left → LiesOn h x → count_of (name_of h) names ≡ 0

-- what is left are ranges of bytes of different objects
abbrev pub Distinct : List Use → Type 0
Distinct [] = Unit {0}
Distinct (x ∷ xs) = HasRange x.policy × ((y : Use) → In y xs → x.resource ≡ y.resource → ⊥) × Distinct xs

-- the lock that came is held, is on the first of them, and isn't pinned by the call
abbrev pub CameOk : List HeldLock → List LockName → Work → Lock → Type 0
CameOk held names w l =
    (wanted : Use) (left : List Use) → w.left ≡ wanted ∷ left
    → ((h : HeldLock) × In h held × (h.target.0 ≡ wanted.target.0) × (h.lock ≡ l)) × (l.resource ≡ wanted.resource)
    × (count_of (name_under wanted l) names ≡ 0)

-- there is room for the rest of a work
abbrev pub RoomFor : List HeldLock → List LockName → Work → Type 0
RoomFor held names w = Distinct w.left × Room held names w.left

abbrev pub RoomOf : List HeldLock → List LockName → Stage → Type 0
RoomOf held names Plain = names ≡ []
RoomOf held names Bad = Unit {0}
RoomOf held names (Looks w) = RoomFor held names w
RoomOf held names (Enqueued w) = RoomFor held names w
RoomOf held names (Waits w target l marked) = RoomFor held names w
RoomOf held names (Came w l) = RoomFor held names w × CameOk held names w l
RoomOf held names (Forgotten w) = RoomFor held names w
RoomOf held names (Gets w) = RoomFor held names w
RoomOf held names (Flushing stripe) = Unit {0}
RoomOf held names (Sizes w) = RoomFor held names w

abbrev pub CallFit : List HeldLock → Option Running → Type 0
CallFit held None = Unit {0}
CallFit held (Some r) = Uniq r.pins × AllNamed r.pins held × RoomOf held r.pins r.stage

pub room_from : (now before : List HeldLock) → From now before → (names : List LockName) (left : List Use) → Room before names left
    → Room now names left
room_from now before f names left room g i x j l =
    let r = f g i in
    let k = room r.0 r.1 x j (
      ap (λ (t : _). t.0) r.2 ∙ l.0,
      ap (λ (y : Lock). y.resource) r.3 ∙ l.1,
      subst (λ (y : Lock). HasRange y.ask.policy) (sym r.3) l.2,
    ) in
    ap (λ (m : LockName). count_of m names) (sym (same_names r.0 g r.2 r.3)) ∙ k

-- and each of those is one of these
abbrev pub Into : List HeldLock → List HeldLock → Type 0
Into before now = (h : HeldLock) → In h before → (g : HeldLock) × In g now × (g.target ≡ h.target) × (g.lock ≡ h.lock)

pub into_names : (before now : List HeldLock) → Into before now → Names before now
into_names before now f m k = let r = f k.0 k.1 in (r.0, r.1, ap (same_name m) (same_names r.0 k.0 r.2 r.3) ∙ k.2)

pub into_same : (held : List HeldLock) → Into held held
into_same held h i = (h, i, refl, refl)

pub changed_into : (n : LockName) (ch : Change) (hs : List HeldLock) → Into hs (changed n ch hs)
changed_into n ch hs h i = (
  if is_named n h then after ch h else h,
  in_mapped (λ (x : HeldLock). if is_named n x then after ch x else x) h hs i,
  if_target (is_named n h) ch h,
  if_lock (is_named n h) ch h,
)

pub used_into : (n : LockName) (hs : List HeldLock) → Into hs (used n hs)
used_into n hs h i = by (is_named n h) refl
  where
    by : (b : Bool) → is_named n h ≡ b → (g : HeldLock) × In g (used n hs) × (g.target ≡ h.target) × (g.lock ≡ h.lock)
    by true e = (h, in_left h (filter (is_named n) hs) (without n hs) (in_filtered (is_named n) h hs i e), refl, refl)
    by false e = (h, in_right h (filter (is_named n) hs) (without n hs) (without_other n h hs i e), refl, refl)

pub unmarked_into : (t : ℕ) (hs : List HeldLock) → Into hs (unmarked (record { 0 = t }) hs)
unmarked_into t hs h i =
    let b = nat_eq h.target.0 t in (
      if b then after change.Unmark h else h,
      in_mapped (λ (x : HeldLock). if nat_eq x.target.0 t then after change.Unmark x else x) h hs i,
      if_target b change.Unmark h,
      if_lock b change.Unmark h,
    )

work_from : (now before : List HeldLock) → From now before → (names : List LockName) (w : Work) → RoomFor before names w
    → RoomFor now names w
work_from now before f names w room = (room.0, room_from now before f names w.left room.1)

pub stage_from : (now before : List HeldLock) → From now before → Into before now → (names : List LockName) (stage : Stage)
    → RoomOf before names stage → RoomOf now names stage
stage_from now before f t names Plain room = room
stage_from now before f t names Bad room = room
stage_from now before f t names (Looks w) room = work_from now before f names w room
stage_from now before f t names (Enqueued w) room = work_from now before f names w room
stage_from now before f t names (Waits w target l marked) room = work_from now before f names w room
stage_from now before f t names (Came w l) room = (
  work_from now before f names w room.0,
  λ wanted left e. let r = room.1 wanted left e in let k = t r.0.0 r.0.1
      in ((k.0, k.1, ap (λ (u : _). u.0) k.2 ∙ r.0.2, k.3 ∙ r.0.3), r.1, r.2),
)
stage_from now before f t names (Forgotten w) room = work_from now before f names w room
stage_from now before f t names (Gets w) room = work_from now before f names w room
stage_from now before f t names (Flushing stripe) room = room
stage_from now before f t names (Sizes w) room = work_from now before f names w room

pub call_from : (now before : List HeldLock) → From now before → Into before now → (x : Option Running) → CallFit before x → CallFit now x
call_from now before f t None k = tt
call_from now before f t (Some r) k = (k.0, λ n i. into_names before now t n (k.1 n i), stage_from now before f t r.pins r.stage k.2)
