-- The locks that a client holds, as its lines change them: which lock it is stays where it is pinned, marked or used; one comes, and one
-- goes.
use Rattle.std.proofs.Common.{◌≡◌, ℕ, Bool, true, false, List, refl, sym, ap, ◌∙◌}
use Rattle.std.specs.Prelude.{nat_eq, map, filter, if◌then◌else◌}
use Rattle.std.proofs.lemmas.Bool.{and_parts, eqb-true}
use Rattle.lu_base.specs.declared.locks.Lock.{Lock}
use Rattle.lu_held.specs.declared.locks.HeldLock.{HeldLock}
use Rattle.lu_held.specs.declared.locks.Change.{Change}
use Rattle.lu_held.specs.declared.locks.Change.TheVariants as change
use Rattle.lu_held.specs.declared.names.LockName.{LockName}
use Rattle.lu_held.specs.Locks.{after, is_named, named}
use Rattle.lu_held.specs.Held.{changed, used, without}
use Rattle.lu_spec_entries.specs.Words as word
use Rattle.lu_spec_entries.specs.Words.{Entry}
use Rattle.lu_spec_client.specs.Caches.{held_after}
use Rattle.lu_proof_lawful.proofs.Preconditions.Heard.{In}
use Rattle.lu_proof_lawful.proofs.Preconditions.Lists.{in_left, in_right, in_filtered}
use Rattle.lu_proof_lawful.proofs.Preconditions.ClientLocks.{in_map, in_mapped, used_only, without_other}
use Rattle.lu_proof_lawful.proofs.Refinement.AskedKept.{SameLocks}

-- ---- each stays that lock

after_lock : (c : Change) (h : HeldLock) → (after c h).lock ≡ h.lock
after_lock change.Mark h = refl
after_lock change.Unmark h = refl
after_lock change.Pin h = refl
after_lock change.Unpin h = refl

map_same : (f : HeldLock → HeldLock) → ((h : HeldLock) → (f h).lock ≡ h.lock) → (hs : List HeldLock) → SameLocks hs (map f hs)
map_same f same hs x i = (f x, in_mapped f x hs i, same x)

map_back : (f : HeldLock → HeldLock) → ((h : HeldLock) → (f h).lock ≡ h.lock) → (hs : List HeldLock) → SameLocks (map f hs) hs
map_back f same hs x i = let y = in_map f x hs i in (y.0, y.1, sym (same y.0) ∙ ap (λ (h : HeldLock). h.lock) y.2)

if_lock : (b : Bool) (c : Change) (h : HeldLock) → (if b then after c h else h).lock ≡ h.lock
if_lock true c h = after_lock c h
if_lock false c h = refl

used_in : (n : LockName) (x : HeldLock) (hs : List HeldLock) → In x hs → In x (used n hs)
used_in n x hs i = by (is_named n x) refl
  where
    by : (b : Bool) → is_named n x ≡ b → In x (used n hs)
    by true e = in_left x (filter (is_named n) hs) (without n hs) (in_filtered (is_named n) x hs i e)
    by false e = in_right x (filter (is_named n) hs) (without n hs) (without_other n x hs i e)

-- the entry brings no lock and gives none up
abbrev pub KeepsLocks : Entry → Type 0
KeepsLocks (word.Heard t f r) = ⊥
KeepsLocks (word.Hold t l marked size seen) = ⊥
KeepsLocks (word.Drop t l) = ⊥
KeepsLocks _ = Unit {0}

pub locks_there : (hs : List HeldLock) (e : Entry) → KeepsLocks e → SameLocks hs (held_after hs e)
locks_there hs (word.Heard t f r) k = absurd k
locks_there hs (word.Hold t l marked size seen) k = absurd k
locks_there hs (word.Drop t l) k = absurd k
locks_there hs (word.Pins n) k = map_same (λ held. if is_named n held then after change.Pin held else held)
    (λ h. if_lock (is_named n h) change.Pin h) hs
locks_there hs (word.Unpins n) k = λ x i.
    let y = map_same (λ held. if is_named n held then after change.Unpin held else held) (λ h. if_lock (is_named n h) change.Unpin h) hs x i
    in
    (y.0, used_in n y.0 (changed n change.Unpin hs) y.1, y.2)
locks_there hs (word.Marks n) k = map_same (λ held. if is_named n held then after change.Mark held else held)
    (λ h. if_lock (is_named n h) change.Mark h) hs
locks_there hs (word.Unmarks t) k = map_same (λ held. if nat_eq held.target.0 t then after change.Unmark held else held)
    (λ h. if_lock (nat_eq h.target.0 t) change.Unmark h) hs
locks_there hs _ k = λ x i. (x, i, refl)

pub locks_back : (hs : List HeldLock) (e : Entry) → KeepsLocks e → SameLocks (held_after hs e) hs
locks_back hs (word.Heard t f r) k = absurd k
locks_back hs (word.Hold t l marked size seen) k = absurd k
locks_back hs (word.Drop t l) k = absurd k
locks_back hs (word.Pins n) k = map_back (λ held. if is_named n held then after change.Pin held else held)
    (λ h. if_lock (is_named n h) change.Pin h) hs
locks_back hs (word.Unpins n) k = λ x i. map_back (λ held. if is_named n held then after change.Unpin held else held)
    (λ h. if_lock (is_named n h) change.Unpin h) hs x (used_only n x (changed n change.Unpin hs) i)
locks_back hs (word.Marks n) k = map_back (λ held. if is_named n held then after change.Mark held else held)
    (λ h. if_lock (is_named n h) change.Mark h) hs
locks_back hs (word.Unmarks t) k = map_back (λ held. if nat_eq held.target.0 t then after change.Unmark held else held)
    (λ h. if_lock (nat_eq h.target.0 t) change.Unmark h) hs
locks_back hs _ k = λ x i. (x, i, refl)

-- ---- names at one target

pub name_parts : (t : ℕ) (l : Lock) (h : HeldLock) → is_named (named (record { 0 = t }) l.cookie) h ≡ true → (h.target.0 ≡ t)
    × (h.lock.cookie.0 ≡ l.cookie.0)
name_parts t l h e = let p = and_parts (nat_eq t h.target.0) (nat_eq l.cookie.0 h.lock.cookie.0) e
    in (sym (eqb-true t h.target.0 p.0), sym (eqb-true l.cookie.0 h.lock.cookie.0 p.1))

pub name_apart : (t : ℕ) (l : Lock) (h : HeldLock) → (h.lock.cookie.0 ≡ l.cookie.0 → ⊥) → is_named (named (record { 0 = t }) l.cookie) h
    ≡ false
name_apart t l h n = by (is_named (named (record { 0 = t }) l.cookie) h) refl
  where
    by : (b : Bool) → is_named (named (record { 0 = t }) l.cookie) h ≡ b → b ≡ false
    by false e = refl
    by true e = absurd (n (name_parts t l h e).1)
