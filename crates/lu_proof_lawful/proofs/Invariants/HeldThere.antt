-- A lock that a client holds stays held, with what is so of it, while none is given up; and one that isn't marked can be used.
use Rattle.std.proofs.Common.{◌≡◌, ℕ, ◌<◌, Bool, true, false, List, [], ◌∷◌, ◌++◌, ◌⊎◌, inl, inr, ⊎_elim, refl, sym, subst, ap, ◌∙◌, arith}
use Rattle.std.specs.Prelude.{nat_eq, not, ◌==◌, ◌&&◌, ◌||◌, if◌then◌else◌, map, filter}
use Rattle.std.specs.List.{list_any}
use Rattle.std.proofs.lemmas.Bool.{cond_both, and_parts, eqb-true, and_from}
use Rattle.lu_base.specs.declared.ids.Cookie.{Cookie}
use Rattle.lu_base.specs.declared.ids.Node.{Node}
use Rattle.lu_base.specs.declared.ids.Node.TheVariants.{Client, Target}
use Rattle.lu_base.specs.declared.ids.Stamp.{Stamp}
use Rattle.lu_base.specs.declared.locks.Lock.{Lock}
use Rattle.lu_held.specs.declared.locks.Change.{Change}
use Rattle.lu_held.specs.declared.locks.Change.TheVariants as lock
use Rattle.lu_held.specs.declared.locks.HeldLock.{HeldLock}
use Rattle.lu_held.specs.declared.names.LockName.{LockName}
use Rattle.lu_held.specs.Locks.{name_of, is_named, after}
use Rattle.lu_held.specs.Held.{is_held, changed, used, without, unmarked}
use Rattle.lu_spec_entries.specs.Words.{Entry, Heard, Hold, Drop, Life, Pins, Unpins, Marks, Unmarks, Learns, Line, line}
use Rattle.lu_spec_client.specs.Caches.{held_as, with_held, brought, with_brought, held_at}
use Rattle.lu_spec_client.specs.Facts.{Fact, taught, facts_at}
use Rattle.lu_spec_client.specs.Known.{is_usable}
use Rattle.lu_proof_lawful.proofs.Preconditions.Guards.{In, EntryOk}
use Rattle.lu_proof_lawful.proofs.Preconditions.Lists.{self, in_left, in_right, in_filtered}
use Rattle.lu_proof_lawful.proofs.Preconditions.ClientLocks.{in_place}
use Rattle.lu_proof_lawful.proofs.Invariants.Groups.{turn}

-- ---- lists

module _ {A B : Type 0} (f : A → B) where
  pub in_map : (x : A) (xs : List A) → In x xs → In (f x) (map f xs)
  in_map x [] i = absurd i
  in_map x (y ∷ xs) (inl e) = inl (ap f e)
  in_map x (y ∷ xs) (inr i) = inr (in_map x xs i)

  pub map_in : (y : B) (xs : List A) → In y (map f xs) → (x : A) × (In x xs × (f x ≡ y))
  map_in y [] i = absurd i
  map_in y (x ∷ xs) (inl e) = (x, (inl refl, e))
  map_in y (x ∷ xs) (inr i) = let r = map_in y xs i in (r.0, (inr r.1.0, r.1.1))

module _ {A : Type 0} (p : A → Bool) where
  pub any_of : (x : A) (xs : List A) → In x xs → p x ≡ true → list_any p xs ≡ true
  any_of x [] i e = absurd i
  any_of x (y ∷ xs) (inl s) e = ap (λ (b : Bool). b || list_any p xs) (ap p s ∙ e)
  any_of x (y ∷ xs) (inr i) e = by (p y) (any_of x xs i e)
    where
      by : (b : Bool) → list_any p xs ≡ true → (b || list_any p xs) ≡ true
      by true h = refl
      by false h = h

  pub of_any : (xs : List A) → list_any p xs ≡ true → (x : A) × (In x xs × (p x ≡ true))
  of_any [] e = absurd (cc)
  of_any (y ∷ xs) e = by (p y) refl e (of_any xs)
    where
      by : (b : Bool) → p y ≡ b → (b || list_any p xs) ≡ true → (list_any p xs ≡ true → (x : A) × (In x xs × (p x ≡ true))) → (x : A)
          × (In x (y ∷ xs) × (p x ≡ true))
      by true q e more = (y, (inl refl, q))
      by false q e more = let r = more e in (r.0, (inr r.1.0, r.1.1))

-- ---- a lock of a target that is held and does

abbrev pub IsIt : (t k : ℕ) → HeldLock → Type 0
IsIt t k h = (h.target.0 ≡ t) × (h.lock.cookie.0 ≡ k)

abbrev pub There : (HeldLock → Type 0) → (t k : ℕ) → List HeldLock → Type 0
There P t k held = (h : HeldLock) × (In h held × (IsIt t k h × P h))

abbrev pub IsClear : HeldLock → Type 0
IsClear h = h.marked ≡ false

abbrev serves : ℕ → HeldLock → Bool
serves k h = h.target.0 == 0 && h.lock.cookie.0 == k && not h.marked

it_serves : (k : ℕ) (h : HeldLock) → IsIt 0 k h → h.marked ≡ false → serves k h ≡ true
it_serves k h is unmarked =
    and_from (h.target.0 == 0 && h.lock.cookie.0 == k) (not h.marked)
    (and_from (h.target.0 == 0) (h.lock.cookie.0 == k) (ap (λ (v : ℕ). v == 0) is.0) (ap (λ (v : ℕ). v == k) is.1 ∙ self k))
    (ap not unmarked)

serves_it : (k : ℕ) (h : HeldLock) → serves k h ≡ true → IsIt 0 k h × IsClear h
serves_it k h e =
    let p = and_parts (h.target.0 == 0 && h.lock.cookie.0 == k) (not h.marked) e in
    let q = and_parts (h.target.0 == 0) (h.lock.cookie.0 == k) p.0 in
    ((eqb-true h.target.0 0 q.0, eqb-true h.lock.cookie.0 k q.1), clear h.marked p.1)
  where
    clear : (b : Bool) → not b ≡ true → b ≡ false
    clear true e = absurd (cc)
    clear false e = refl

pub usable_clear : (c : Cookie) (held : List HeldLock) → is_usable c held ≡ true → There IsClear 0 c.0 held
usable_clear c held e = let r = of_any (serves c.0) held e in let s = serves_it c.0 r.0 r.1.1 in (r.0, (r.1.0, (s.0, s.1)))

pub clear_usable : (c : Cookie) (held : List HeldLock) → There IsClear 0 c.0 held → is_usable c held ≡ true
clear_usable c held p = any_of (serves c.0) p.0 held p.1.0 (it_serves c.0 p.0 p.1.1.0 p.1.1.1)

-- ---- what an entry makes of the held locks

module _ (P : HeldLock → Type 0) (of k : ℕ) where
  pub after_it : (change : Change) (h : HeldLock) → IsIt of k h → IsIt of k (after change h)
  after_it lock.Mark h is = is
  after_it lock.Unmark h is = is
  after_it lock.Pin h is = is
  after_it lock.Unpin h is = is

  pub changed_there : (name : LockName) (change : Change) (held : List HeldLock)
      → ((h : HeldLock) → In h held → is_named name h ≡ true → P h → P (after change h)) → There P of k held
      → There P of k (changed name change held)
  changed_there name change held keeps p = (
    if is_named name p.0 then after change p.0 else p.0,
    (
      in_map (λ (h : HeldLock). if is_named name h then after change h else h) p.0 held p.1.0,
      cond_both (is_named name p.0) (after change p.0) p.0 (λ (v : HeldLock). IsIt of k v × P v)
          (λ t. (after_it change p.0 p.1.1.0, keeps p.0 p.1.0 t p.1.1.1)) (λ f. p.1.1),
    ),
  )

  pub unmarked_there : (t : ℕ) (held : List HeldLock) → ((h : HeldLock) → P h → P (after lock.Unmark h)) → There P of k held
      → There P of k (unmarked (record { 0 = t }) held)
  unmarked_there t held keeps p = (
    if p.0.target.0 == t then after lock.Unmark p.0 else p.0,
    (
      in_map (λ (h : HeldLock). if h.target.0 == t then after lock.Unmark h else h) p.0 held p.1.0,
      cond_both (p.0.target.0 == t) (after lock.Unmark p.0) p.0 (λ (v : HeldLock). IsIt of k v × P v)
          (λ e. (after_it lock.Unmark p.0 p.1.1.0, keeps p.0 p.1.1.1)) (λ f. p.1.1),
    ),
  )

  pub used_there : (name : LockName) (held : List HeldLock) → There P of k held → There P of k (used name held)
  used_there name held p = (p.0, (by (is_named name p.0) refl, p.1.1))
    where
      by : (b : Bool) → is_named name p.0 ≡ b → In p.0 (used name held)
      by true e = in_left p.0 (filter (is_named name) held) (without name held) (in_filtered (is_named name) p.0 held p.1.0 e)
      by false e = in_right p.0 (filter (is_named name) held) (without name held)
          (in_filtered (λ (h : HeldLock). not (is_named name h)) p.0 held p.1.0 (ap not e))

  pub named_it : (g h : HeldLock) → is_named (name_of g) h ≡ true → IsIt of k h → IsIt of k g
  named_it g h e is =
      let p = and_parts (nat_eq g.target.0 h.target.0) (nat_eq g.lock.cookie.0 h.lock.cookie.0) e in
      (eqb-true g.target.0 h.target.0 p.0 ∙ is.0, eqb-true g.lock.cookie.0 h.lock.cookie.0 p.1 ∙ is.1)

  pub with_there : (g : HeldLock) (held : List HeldLock) → P g → There P of k held → There P of k (with_held g held)
  with_there g held fine p =
      cond_both (is_held (name_of g) held) (map (in_place g) held) (g ∷ held) (λ (v : List HeldLock). There P of k v)
      (λ t. (
        in_place g p.0,
        (
          in_map (in_place g) p.0 held p.1.0,
          cond_both (is_named (name_of g) p.0) g p.0 (λ (v : HeldLock). IsIt of k v × P v) (λ e. (named_it g p.0 e p.1.1.0, fine))
              (λ f. p.1.1),
        ),
      ))
      (λ f. (p.0, (inr p.1.0, p.1.1)))

  -- one that comes is held
  module _ (fresh : (t : ℕ) (l : Lock) → P (held_as t l false)) where
    pub brought_there : (t : ℕ) (locks : List Lock) (held : List HeldLock) → There P of k held → There P of k (with_brought t locks held)
    brought_there t [] held p = p
    brought_there t (l ∷ locks) held p = brought_there t locks (with_held (held_as t l false) held)
        (with_there (held_as t l false) held (fresh t l) p)

-- one of another target takes no place of it
with_other : (P : HeldLock → Type 0) (k : ℕ) (g : HeldLock) (held : List HeldLock) → 0 < g.target.0 → There P 0 k held
    → There P 0 k (with_held g held)
with_other P k g held high p =
    cond_both (is_held (name_of g) held) (map (in_place g) held) (g ∷ held) (λ (v : List HeldLock). There P 0 k v)
    (λ t. (
      in_place g p.0,
      (
        in_map (in_place g) p.0 held p.1.0,
        cond_both (is_named (name_of g) p.0) g p.0 (λ (v : HeldLock). IsIt 0 k v × P v)
            (λ e. let same = eqb-true g.target.0 p.0.target.0 (and_parts (nat_eq g.target.0 p.0.target.0)
            (nat_eq g.lock.cookie.0 p.0.lock.cookie.0) e).0 in let zero = p.1.1.0.0 in absurd (omega (arith, same, zero, high)))
            (λ f. p.1.1),
      ),
    ))
    (λ f. (p.0, (inr p.1.0, p.1.1)))

pub with_new : (P : HeldLock → Type 0) (of : ℕ) (g : HeldLock) (held : List HeldLock) → g.target.0 ≡ of → P g
    → There P of g.lock.cookie.0 (with_held g held)
with_new P of g held e fine =
    cond_both (is_held (name_of g) held) (map (in_place g) held) (g ∷ held) (λ (v : List HeldLock). There P of g.lock.cookie.0 v)
    (λ t. let r = of_any (is_named (name_of g)) held t in (
      in_place g r.0,
      (
        in_map (in_place g) r.0 held r.1.0,
        subst
            (λ (b : Bool). IsIt of g.lock.cookie.0 (if b then g else r.0) × P (if b then g else r.0)) (sym r.1.1) ((e, refl), fine),
      ),
    ))
    (λ f. (g, (inl refl, ((e, refl), fine))))

pub brought_new : (P : HeldLock → Type 0) → ((t : ℕ) (l : Lock) → P (held_as t l false))
    → (of t : ℕ) (l : Lock) (locks : List Lock) (held : List HeldLock) → t ≡ of → In l locks
    → There P of l.cookie.0 (with_brought t locks held)
brought_new P fresh of t l [] held z i = absurd i
brought_new P fresh of t l (k ∷ locks) held z (inl e) =
    subst (λ (v : Lock). There P of v.cookie.0 (with_brought t (k ∷ locks) held)) e
    (brought_there P of k.cookie.0 fresh t locks (with_held (held_as t k false) held)
    (with_new P of (held_as t k false) held z (fresh t k)))
brought_new P fresh of t l (k ∷ locks) held z (inr i) = brought_new P fresh of t l locks (with_held (held_as t k false) held) z i

-- ---- what a line makes of them, where no lock is marked or given up, nor a life; one of another target may be marked as it comes

abbrev pub KeepsAll : Entry → Type 0
KeepsAll (Marks name) = ⊥
KeepsAll (Drop t l) = ⊥
KeepsAll (Life who) = ⊥
KeepsAll (Hold t l marked size seen) = (marked ≡ false) ⊎ (0 < t)
KeepsAll _ = Unit {0}

-- facts go with locks that are given up, and with a life
abbrev pub KeepsFacts : Entry → Type 0
KeepsFacts (Drop t l) = ⊥
KeepsFacts (Life who) = ⊥
KeepsFacts _ = Unit {0}

pub keeps_facts : (e : Entry) → KeepsAll e → KeepsFacts e
keeps_facts (Drop t l) keeps = keeps
keeps_facts (Life who) keeps = keeps
keeps_facts _ keeps = tt

module _ (c : ℕ) (past : List Line) (stamp : Stamp) where
  abbrev H : List HeldLock
  H = held_at c past

  pub clear_stays : (k : ℕ) (node : Node) (e : Entry) → EntryOk past (turn stamp node) node e → KeepsAll e → There IsClear 0 k H
      → There IsClear 0 k (held_at c (line (turn stamp node) e ∷ past))
  clear_stays k (Client d) (Heard t f r) ok stays p =
      cond_both (nat_eq c d) (with_brought t (brought f.op r) H) H (λ (v : List HeldLock). There IsClear 0 k v)
      (λ o. brought_there IsClear 0 k (λ t l. refl) t (brought f.op r) H p) (λ o. p)
  clear_stays k (Client d) (Hold t l marked size seen) ok stays p =
      cond_both (nat_eq c d) (with_held (held_as t l marked) H) H (λ (v : List HeldLock). There IsClear 0 k v)
      (λ o. ⊎_elim (λ (clear : marked ≡ false). with_there IsClear 0 k (held_as t l marked) H clear p)
      (λ (high : 0 < t). with_other IsClear k (held_as t l marked) H high p) stays)
      (λ o. p)
  clear_stays k (Client d) (Pins name) ok stays p = cond_both (nat_eq c d) (changed name lock.Pin H) H
      (λ (v : List HeldLock). There IsClear 0 k v) (λ o. changed_there IsClear 0 k name lock.Pin H (λ h i t w. w) p) (λ o. p)
  clear_stays k (Client d) (Unpins name) ok stays p = cond_both (nat_eq c d) (used name (changed name lock.Unpin H)) H
      (λ (v : List HeldLock). There IsClear 0 k v)
      (λ o. used_there IsClear 0 k name (changed name lock.Unpin H) (changed_there IsClear 0 k name lock.Unpin H (λ h i t w. w) p)) (λ o. p)
  clear_stays k (Client d) (Unmarks t) ok stays p = cond_both (nat_eq c d) (unmarked (record { 0 = t }) H) H
      (λ (v : List HeldLock). There IsClear 0 k v) (λ o. unmarked_there IsClear 0 k t H (λ h w. refl) p) (λ o. p)
  clear_stays k node (Drop u l) ok stays p = absurd stays
  clear_stays k node (Marks name) ok stays p = absurd stays
  clear_stays k (Target t) (Heard u f r) ok stays p = absurd ok
  clear_stays k (Target t) (Hold u l marked size seen) ok stays p = absurd ok
  clear_stays k (Target t) (Pins name) ok stays p = absurd ok
  clear_stays k (Target t) (Unpins name) ok stays p = absurd ok
  clear_stays k (Target t) (Unmarks u) ok stays p = absurd ok
  clear_stays k _ _ ok stays p = p

  pub facts_stay : (x : Fact) (node : Node) (e : Entry) → EntryOk past (turn stamp node) node e → KeepsFacts e → In x (facts_at c past)
      → In x (facts_at c (line (turn stamp node) e ∷ past))
  facts_stay x (Client d) (Learns t o a locks) ok stays i =
      cond_both (nat_eq c d) (taught o a locks ++ facts_at c past) (facts_at c past) (λ (v : List Fact). In x v)
      (λ q. in_right x (taught o a locks) (facts_at c past) i) (λ q. i)
  facts_stay x node (Drop t l) ok stays i = absurd stays
  facts_stay x node (Life who) ok stays i = absurd stays
  facts_stay x (Target t) (Learns u o a locks) ok stays i = absurd ok
  facts_stay x _ _ ok stays i = i
