-- Lists of locks: a lock that was put into one stands there, also once others are put, so to put it again changes nothing;
-- and granted locks stand in rising cookie, each cookie once.
use Rattle.std.proofs.Common.{◌≡◌, ℕ, ◌+◌, ◌<◌, ◌≤◌, Bool, true, false, List, [], ◌∷◌, ◌++◌, ◌⊎◌, inl, inr, refl, sym, subst, ap, ◌∙◌}
use Rattle.std.proofs.Common.{arith}
use Rattle.std.specs.Prelude.{nat_eq, nat_lt, max, ◌||◌, if◌then◌else◌}
use Rattle.std.specs.List.{filter}
use Rattle.std.proofs.lemmas.Bool.{cond_both, cond-true, cond-false, eq-eqb}
use Rattle.std.proofs.lemmas.Bool.Decides.{nat_tests}
use Rattle.std.proofs.lemmas.List.Folds.{list_any-append}
use Rattle.lu_base.specs.declared.ids.Cookie.{Cookie}
use Rattle.lu_base.specs.declared.ids.Who.{Who}
use Rattle.lu_base.specs.declared.locks.Lock.{Lock}
use Rattle.lu_base.specs.declared.locks.Mode.TheVariants.{PR}
use Rattle.lu_base.specs.declared.locks.Policy.TheVariants.{Bits}
use Rattle.lu_part.specs.declared.parts.Want.{Want}
use Rattle.lu_spec_entries.specs.Carried.{Called}
use Rattle.lu_spec_target.specs.Locks.{with_lock, with_locks}
use Rattle.lu_spec_target.specs.Names.{locks_from}
use Rattle.lu_spec_target.specs.Phase.{greatest_cookie}
use Rattle.lu_spec_target.specs.Replies.{is_called}
use Rattle.lu_proof_lawful.proofs.Preconditions.Guards.{In}

-- ---- a lock stands in its place: those before it have lesser cookies

abbrev pub Stands : Lock → List Lock → Type 0
Stands l [] = ⊥
Stands l (k ∷ locks) = (k ≡ l) ⊎ ((k.cookie.0 < l.cookie.0) × Stands l locks)

pub stands_put : (l : Lock) (locks : List Lock) → Stands l (with_lock l locks)
stands_put l [] = inl refl
stands_put l (k ∷ locks) = by (nat_eq l.cookie.0 k.cookie.0) (nat_lt l.cookie.0 k.cookie.0) refl refl (stands_put l locks)
  where
    by : (same below : Bool) → nat_eq l.cookie.0 k.cookie.0 ≡ same → nat_lt l.cookie.0 k.cookie.0 ≡ below → Stands l (with_lock l locks)
        → Stands l (if same then l ∷ locks else (if below then l ∷ k ∷ locks else k ∷ with_lock l locks))
    by true below e f h = inl refl
    by false true e f h = inl refl
    by false false e f h = inr (grind (arith, nat_tests, e, f), h)

pub stands_same : (l : Lock) (locks : List Lock) → Stands l locks → with_lock l locks ≡ locks
stands_same l [] s = absurd s
stands_same l (k ∷ locks) (inl e) =
    cond-true (nat_eq l.cookie.0 k.cookie.0) (l ∷ locks) (if nat_lt l.cookie.0 k.cookie.0 then l ∷ k ∷ locks else k ∷ with_lock l locks)
    (eq-eqb l.cookie.0 k.cookie.0 (ap (λ (x : Lock). x.cookie.0) (sym e)))
    ∙ ap (λ (x : Lock). x ∷ locks) (sym e)
stands_same l (k ∷ locks) (inr p) =
    let other : nat_eq l.cookie.0 k.cookie.0 ≡ false = grind (arith, nat_tests, p.0) in
    let above : nat_lt l.cookie.0 k.cookie.0 ≡ false = grind (arith, nat_tests, p.0) in
    cond-false (nat_eq l.cookie.0 k.cookie.0) (l ∷ locks) (if nat_lt l.cookie.0 k.cookie.0 then l ∷ k ∷ locks else k ∷ with_lock l locks)
    other
    ∙ cond-false (nat_lt l.cookie.0 k.cookie.0) (l ∷ k ∷ locks) (k ∷ with_lock l locks) above
    ∙ ap (λ (xs : List Lock). k ∷ xs) (stands_same l locks p.1)

pub in_put : (l : Lock) (locks : List Lock) → In l (with_lock l locks)
in_put l [] = inl refl
in_put l (k ∷ locks) = by (nat_eq l.cookie.0 k.cookie.0) (nat_lt l.cookie.0 k.cookie.0) (in_put l locks)
  where
    by : (same below : Bool) → In l (with_lock l locks) → In l (if same then l ∷ locks
        else (if below then l ∷ k ∷ locks else k ∷ with_lock l locks))
    by true below h = inl refl
    by false true h = inl refl
    by false false h = inr h

-- a lock of another cookie is put beside it
pub stands_beside : (l m : Lock) (locks : List Lock) → (m.cookie.0 ≡ l.cookie.0 → ⊥) → Stands l locks → Stands l (with_lock m locks)
stands_beside l m [] ne s = absurd s
stands_beside l m (k ∷ locks) ne s = by (nat_eq m.cookie.0 k.cookie.0) (nat_lt m.cookie.0 k.cookie.0) refl refl s
    (λ r. stands_beside l m locks ne r)
  where
    by : (same below : Bool) → nat_eq m.cookie.0 k.cookie.0 ≡ same → nat_lt m.cookie.0 k.cookie.0 ≡ below → Stands l (k ∷ locks)
        → (Stands l locks → Stands l (with_lock m locks))
        → Stands l (if same then m ∷ locks else (if below then m ∷ k ∷ locks else k ∷ with_lock m locks))
    by true below e f (inl q) ih = let c : k.cookie.0 ≡ l.cookie.0 = ap (λ (x : Lock). x.cookie.0) q
        in absurd (ne (grind (arith, nat_tests, e, c)))
    by true below e f (inr p) ih = inr (grind (arith, nat_tests, e, p.0), p.1)
    by false true e f (inl q) ih = let c : k.cookie.0 ≡ l.cookie.0 = ap (λ (x : Lock). x.cookie.0) q
        in inr (grind (arith, nat_tests, f, c), inl q)
    by false true e f (inr p) ih = inr (grind (arith, nat_tests, f, p.0), inr p)
    by false false e f (inl q) ih = inl q
    by false false e f (inr p) ih = inr (p.0, ih p.1)

-- ---- all cookies are above a number

abbrev pub AllAbove : ℕ → List Lock → Type 0
AllAbove n [] = Unit {0}
AllAbove n (l ∷ locks) = (n < l.cookie.0) × AllAbove n locks

pub in_above : (n : ℕ) (locks : List Lock) (l : Lock) → AllAbove n locks → In l locks → n < l.cookie.0
in_above n [] l a i = absurd i
in_above n (k ∷ locks) l a (inl e) = subst (λ (x : Lock). n < x.cookie.0) e a.0
in_above n (k ∷ locks) l a (inr i) = in_above n locks l a.1 i

above_less : (m n : ℕ) (locks : List Lock) → m ≤ n → AllAbove n locks → AllAbove m locks
above_less m n [] le a = tt
above_less m n (l ∷ locks) le a = (let lt = a.0 in omega (arith, lt, le), above_less m n locks le a.1)

above_with : (n : ℕ) (l : Lock) (locks : List Lock) → n < l.cookie.0 → AllAbove n locks → AllAbove n (with_lock l locks)
above_with n l [] lt a = (lt, tt)
above_with n l (k ∷ locks) lt a = by (nat_eq l.cookie.0 k.cookie.0) (nat_lt l.cookie.0 k.cookie.0) (above_with n l locks lt a.1)
  where
    by : (same below : Bool) → AllAbove n (with_lock l locks) → AllAbove n
        (if same then l ∷ locks else (if below then l ∷ k ∷ locks else k ∷ with_lock l locks))
    by true below h = (lt, a.1)
    by false true h = (lt, a)
    by false false h = (a.0, h)

pub above_filter : (n : ℕ) (f : Lock → Bool) (locks : List Lock) → AllAbove n locks → AllAbove n (filter f locks)
above_filter n f [] a = tt
above_filter n f (l ∷ locks) a = cond_both (f l) (l ∷ filter f locks) (filter f locks) (λ (xs : List Lock). AllAbove n xs)
    (λ t. (a.0, above_filter n f locks a.1)) (λ t. above_filter n f locks a.1)

-- those of an act are numbered on from the greatest
pub above_from : (n cookie : ℕ) (who : Who) (wants : List Want) → n ≤ cookie → AllAbove n (locks_from cookie who wants)
above_from n cookie who [] le = tt
above_from n cookie who (want ∷ wants) le = (omega (arith, le), above_from n (cookie + 1) who wants (omega (arith, le)))

-- ---- what an act grants stands since

stands_through : (l : Lock) (more old : List Lock) → AllAbove l.cookie.0 more → Stands l old → Stands l (with_locks more old)
stands_through l [] old a s = s
stands_through l (m ∷ more) old a s = stands_through l more (with_lock m old) a.1
    (stands_beside l m old (λ e. let lt = a.0 in omega (arith, lt, e)) s)

abbrev lock_from : ℕ → Who → Want → Lock
lock_from cookie who want =
    record {
      cookie = record { 0 = cookie + 1 };
      resource = record { fid = want.fid; stripe = 0 };
      ask =
          record { who = who; mode = PR; policy = Bits want.bits };
    }

pub granted_stands : (cookie : ℕ) (who : Who) (wants : List Want) (old : List Lock) (l : Lock) → In l (locks_from cookie who wants)
    → Stands l (with_locks (locks_from cookie who wants) old)
granted_stands cookie who [] old l i = absurd i
granted_stands cookie who (want ∷ wants) old l (inl e) =
    let k : Lock = lock_from cookie who want in
    subst (λ (x : Lock). Stands x (with_locks (locks_from cookie who (want ∷ wants)) old)) e
    (stands_through k (locks_from (cookie + 1) who wants) (with_lock k old) (above_from (cookie + 1) (cookie + 1) who wants (omega arith))
    (stands_put k old))
granted_stands cookie who (want ∷ wants) old l (inr i) = granted_stands (cookie + 1) who wants (with_lock (lock_from cookie who want) old) l
    i

-- ---- the greatest cookie is at or above each

pub greatest_least : (n : ℕ) (locks : List Lock) → n ≤ greatest_cookie n locks
greatest_least n [] = omega arith
greatest_least n (l ∷ locks) = let more = greatest_least (max n l.cookie.0) locks in omega (arith, more)

pub greatest_has : (n : ℕ) (locks : List Lock) (l : Lock) → In l locks → l.cookie.0 ≤ greatest_cookie n locks
greatest_has n [] l i = absurd i
greatest_has n (k ∷ locks) l (inl e) =
    subst (λ (x : Lock). x.cookie.0 ≤ greatest_cookie (max n k.cookie.0) locks) e
    (let more = greatest_least (max n k.cookie.0) locks in omega (arith, more))
greatest_has n (k ∷ locks) l (inr i) = greatest_has (max n k.cookie.0) locks l i

pub greatest_same : (n : ℕ) (locks : List Lock) (l : Lock) → In l locks → max (greatest_cookie n locks) l.cookie.0 ≡ greatest_cookie n locks
greatest_same n locks l i = let low = greatest_has n locks l i in omega (arith, low)

-- ---- rising cookies

abbrev pub Rises : List Lock → Type 0
Rises [] = Unit {0}
Rises (l ∷ locks) = AllAbove l.cookie.0 locks × Rises locks

pub rises_with : (l : Lock) (locks : List Lock) → Rises locks → Rises (with_lock l locks)
rises_with l [] r = (tt, tt)
rises_with l (k ∷ locks) r = by (nat_eq l.cookie.0 k.cookie.0) (nat_lt l.cookie.0 k.cookie.0) refl refl (rises_with l locks r.1)
  where
    by : (same below : Bool) → nat_eq l.cookie.0 k.cookie.0 ≡ same → nat_lt l.cookie.0 k.cookie.0 ≡ below → Rises (with_lock l locks)
        → Rises (if same then l ∷ locks else (if below then l ∷ k ∷ locks else k ∷ with_lock l locks))
    by true below e f h = (above_less l.cookie.0 k.cookie.0 locks (grind (arith, nat_tests, e)) r.0, r.1)
    by false true e f h = ((grind (arith, nat_tests, f), above_less l.cookie.0 k.cookie.0 locks (grind (arith, nat_tests, f)) r.0), r)
    by false false e f h = (above_with k.cookie.0 l locks (grind (arith, nat_tests, e, f)) r.0, h)

pub rises_all : (more locks : List Lock) → Rises locks → Rises (with_locks more locks)
rises_all [] locks r = r
rises_all (l ∷ more) locks r = rises_all more (with_lock l locks) (rises_with l locks r)

pub rises_filter : (f : Lock → Bool) (locks : List Lock) → Rises locks → Rises (filter f locks)
rises_filter f [] r = tt
rises_filter f (l ∷ locks) r =
    cond_both (f l) (l ∷ filter f locks) (filter f locks) (λ (xs : List Lock). Rises xs)
    (λ t. (above_filter l.cookie.0 f locks r.0, rises_filter f locks r.1)) (λ t. rises_filter f locks r.1)

pub rises_from : (cookie : ℕ) (who : Who) (wants : List Want) → Rises (locks_from cookie who wants)
rises_from cookie who [] = tt
rises_from cookie who (want ∷ wants) = (above_from (cookie + 1) (cookie + 1) who wants (omega arith), rises_from (cookie + 1) who wants)

-- ---- what is called back

or_false : (b : Bool) → (b || false) ≡ b
or_false true = refl
or_false false = refl

or_true : (b : Bool) → (b || true) ≡ true
or_true true = refl
or_true false = refl

-- the calling back of another lock
pub called_beside : (cookie : Cookie) (cs : List Called) (c : Called) → c.cookie.0 < cookie.0 → is_called cookie (cs ++ c ∷ [])
    ≡ is_called cookie cs
called_beside cookie cs c lt =
    let other : nat_eq c.cookie.0 cookie.0 ≡ false = grind (arith, nat_tests, lt) in
    list_any-append (λ (x : Called). nat_eq x.cookie.0 cookie.0) cs (c ∷ []) ∙ ap (λ (b : Bool). is_called cookie cs || (b || false)) other
    ∙ or_false (is_called cookie cs)

pub called_now : (cookie : Cookie) (cs : List Called) (c : Called) → c.cookie ≡ cookie → is_called cookie (cs ++ c ∷ []) ≡ true
called_now cookie cs c e =
    list_any-append (λ (x : Called). nat_eq x.cookie.0 cookie.0) cs (c ∷ [])
    ∙ ap (λ (b : Bool). is_called cookie cs || (b || false)) (eq-eqb c.cookie.0 cookie.0 (ap (λ (x : Cookie). x.0) e))
    ∙ or_true (is_called cookie cs)

-- ---- what is left out once is left out

pub filter_twice : {A : Type 0} (f : A → Bool) (xs : List A) → filter f (filter f xs) ≡ filter f xs
filter_twice f [] = refl
filter_twice {A} f (x ∷ xs) = by (f x) refl (filter_twice f xs)
  where
    by : (b : Bool) → f x ≡ b → filter f (filter f xs) ≡ filter f xs → filter f (if b then x ∷ filter f xs else filter f xs)
        ≡ (if b then x ∷ filter f xs else filter f xs)
    by true e h = cond-true (f x) (x ∷ filter f (filter f xs)) (filter f (filter f xs)) e ∙ ap (λ (ys : List A). x ∷ ys) h
    by false e h = h
