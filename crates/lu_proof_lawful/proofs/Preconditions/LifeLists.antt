-- Lists of lives: what stands in one, also once others were put in or taken away; what filters leave; and the locks of lives that
-- leave one after another.
use Rattle.std.proofs.Common.{◌≡◌, ℕ, ◌<◌, Bool, true, false, List, [], ◌∷◌, ◌++◌, Option, Some, None, inl, inr, ⊎_elim, refl, sym, subst}
use Rattle.std.proofs.Common.{ap, ◌∙◌, zero, suc, ◌+◌, arith}
use Rattle.std.specs.Prelude.{nat_eq, ◌||◌, ◌&&◌, not, if◌then◌else◌}
use Rattle.std.specs.List.{filter, list_any}
use Rattle.std.proofs.lemmas.Bool.{cond_both, cond-true, cond-false, eqb-true, eq-eqb, or_left, or_right}
use Rattle.std.proofs.lemmas.Bool.Decides.{nat_tests}
use Rattle.std.proofs.lemmas.List.{append-nil, append_assoc}
use Rattle.lu_base.specs.declared.ids.Who.{Who}
use Rattle.lu_base.specs.declared.locks.Lock.{Lock}
use Rattle.lu_spec_entries.specs.Words.{same_life}
use Rattle.lu_spec_target.specs.Leaving.{locks_of, is_over, life_of as life_in}
use Rattle.lu_spec_target.specs.Lives.{is_life, life_before, with_life, with_lives, without_lives}
use Rattle.lu_spec_target.specs.Locks.{without_lock, locks_without}
use Rattle.lu_spec_target.specs.States.{lives_from}
use Rattle.lu_proof_lawful.proofs.Preconditions.Guards.{In}
use Rattle.lu_proof_lawful.proofs.Preconditions.Lists.{in_append, in_filter, in_filtered, life_is, life_self}
use Rattle.lu_proof_lawful.proofs.Preconditions.LockLists.{AllAbove, in_above, above_filter, Rises}
use Rattle.lu_proof_lawful.proofs.Preconditions.ClientLocks.{any_true}

-- ---- tests

or_twice : (a b : Bool) → (a || b) ≡ (a || (a || b))
or_twice true b = refl
or_twice false b = refl

or_swap : (a b c : Bool) → (b || (a || c)) ≡ (a || (b || c))
or_swap true true c = refl
or_swap true false c = refl
or_swap false true c = refl
or_swap false false c = refl

or_more : (a b c : Bool) → (b || (a || c)) ≡ ((a || b) || c)
or_more true true c = refl
or_more true false c = refl
or_more false true c = refl
or_more false false c = refl

-- ---- what stands in a list of lives

pub life_stands : (w : Who) (ws : List Who) → In w ws → is_life w ws ≡ true
life_stands w [] i = absurd i
life_stands w (x ∷ ws) (inl e) = or_left (same_life w x) (is_life w ws) (subst (λ (u : Who). same_life w u ≡ true) (sym e) (life_self w))
life_stands w (x ∷ ws) (inr i) = or_right (same_life w x) (is_life w ws) (life_stands w ws i)

pub stands_life : (w : Who) (ws : List Who) → is_life w ws ≡ true → In w ws
stands_life w ws t = let found = any_true (same_life w) ws t in subst (λ (u : Who). In u ws) (sym (life_is w found.0 found.2)) found.1

pub over_itself : (w : Who) → is_over w w ≡ true
over_itself w = grind (arith, nat_tests)

-- once a life is put in
pub any_with : (f : Who → Bool) (w : Who) (ws : List Who) → list_any f (with_life w ws) ≡ (f w || list_any f ws)
any_with f w [] = refl
any_with f w (x ∷ ws) = by (same_life w x) (life_before w x) refl (any_with f w ws)
  where
    by : (same before : Bool) → same_life w x ≡ same → list_any f (with_life w ws) ≡ (f w || list_any f ws)
        → list_any f (if same then x ∷ ws else (if before then w ∷ x ∷ ws else x ∷ with_life w ws)) ≡ (f w || (f x || list_any f ws))
    by true before e ih = subst (λ (u : Who). (f x || list_any f ws) ≡ (f u || (f x || list_any f ws))) (sym (life_is w x e))
        (or_twice (f x) (list_any f ws))
    by false true e ih = refl
    by false false e ih = ap (λ (b : Bool). f x || b) ih ∙ or_swap (f w) (f x) (list_any f ws)

pub any_lives : (f : Who → Bool) (more ws : List Who) → list_any f (with_lives more ws) ≡ (list_any f more || list_any f ws)
any_lives f [] ws = refl
any_lives f (w ∷ more) ws = any_lives f more (with_life w ws) ∙ ap (λ (b : Bool). list_any f more || b) (any_with f w ws)
    ∙ or_more (f w) (list_any f more) (list_any f ws)

pub life_put : (w : Who) (ws : List Who) → is_life w (with_life w ws) ≡ true
life_put w ws = any_with (same_life w) w ws ∙ or_left (same_life w w) (is_life w ws) (life_self w)

pub life_put_more : (w x : Who) (ws : List Who) → is_life w ws ≡ true → is_life w (with_life x ws) ≡ true
life_put_more w x ws t = any_with (same_life w) x ws ∙ or_right (same_life w x) (is_life w ws) t

-- what stands there is the life put in, or stood there
pub life_put_or : (w x : Who) (ws : List Who) → is_life w (with_life x ws) ≡ true → (same_life w x || is_life w ws) ≡ true
life_put_or w x ws t = sym (any_with (same_life w) x ws) ∙ t

pub not_same : (w x : Who) → (w ≡ x → ⊥) → same_life w x ≡ false
not_same w x ne = by (same_life w x) refl
  where
    by : (b : Bool) → same_life w x ≡ b → b ≡ false
    by true e = absurd (ne (life_is w x e))
    by false e = refl

-- once one is taken away
pub not_gone : (w x : Who) → (w ≡ x → ⊥) → not (is_life w (x ∷ [])) ≡ true
not_gone w x ne = ap (λ (b : Bool). not (b || false)) (not_same w x ne)

pub life_stays : (w x : Who) (ws : List Who) → (w ≡ x → ⊥) → is_life w ws ≡ true → is_life w (without_lives (x ∷ []) ws) ≡ true
life_stays w x ws ne t =
    life_stands w (without_lives (x ∷ []) ws) (in_filtered (λ (u : Who). not (is_life u (x ∷ []))) w ws (stands_life w ws t)
    (not_gone w x ne))

-- what is left stood there, and isn't the one that went
pub gone_not : (w x : Who) → not (is_life w (x ∷ [])) ≡ true → w ≡ x → ⊥
gone_not w x t e =
    let same : same_life w x ≡ true = subst (λ (u : Who). same_life w u ≡ true) e (life_self w) in
    let gone : not (true || false) ≡ true = subst (λ (b : Bool). not (b || false) ≡ true) same t in
    absurd (cc)

pub life_left : (w x : Who) (ws : List Who) → is_life w (without_lives (x ∷ []) ws) ≡ true → (is_life w ws ≡ true) × (w ≡ x → ⊥)
life_left w x ws t =
    let p = in_filter (λ (u : Who). not (is_life u (x ∷ []))) w ws (stands_life w (without_lives (x ∷ []) ws) t) in
    (life_stands w ws p.0, gone_not w x p.1)

-- ---- in order, each once

abbrev pub AllAfter : Who → List Who → Type 0
AllAfter w [] = Unit {0}
AllAfter w (x ∷ ws) = (life_before w x ≡ true) × AllAfter w ws

abbrev pub InOrder : List Who → Type 0
InOrder [] = Unit {0}
InOrder (w ∷ ws) = AllAfter w ws × InOrder ws

pub before_trans : (a b c : Who) → life_before a b ≡ true → life_before b c ≡ true → life_before a c ≡ true
before_trans a b c p q = grind (arith, nat_tests)

pub before_not_self : (a : Who) → life_before a a ≡ true → ⊥
before_not_self a p = grind (arith, nat_tests)

before_else : (a b : Who) → same_life a b ≡ false → life_before a b ≡ false → life_before b a ≡ true
before_else a b p q = grind (arith, nat_tests)

after_earlier : (w x : Who) (ws : List Who) → life_before w x ≡ true → AllAfter x ws → AllAfter w ws
after_earlier w x [] b a = tt
after_earlier w x (y ∷ ws) b a = (before_trans w x y b a.0, after_earlier w x ws b a.1)

after_put : (x w : Who) (ws : List Who) → life_before x w ≡ true → AllAfter x ws → AllAfter x (with_life w ws)
after_put x w [] b a = (b, tt)
after_put x w (y ∷ ws) b a = by (same_life w y) (life_before w y) (after_put x w ws b a.1)
  where
    by : (same before : Bool) → AllAfter x (with_life w ws) → AllAfter x
        (if same then y ∷ ws else (if before then w ∷ y ∷ ws else y ∷ with_life w ws))
    by true before ih = a
    by false true ih = (b, a)
    by false false ih = (a.0, ih)

pub order_put : (w : Who) (ws : List Who) → InOrder ws → InOrder (with_life w ws)
order_put w [] o = (tt, tt)
order_put w (x ∷ ws) o = by (same_life w x) (life_before w x) refl refl (order_put w ws o.1)
  where
    by : (same before : Bool) → same_life w x ≡ same → life_before w x ≡ before → InOrder (with_life w ws)
        → InOrder (if same then x ∷ ws else (if before then w ∷ x ∷ ws else x ∷ with_life w ws))
    by true before e f ih = o
    by false true e f ih = ((f, after_earlier w x ws f o.0), o)
    by false false e f ih = (after_put x w ws (before_else w x e f) o.0, ih)

abbrev pub Distinct : List Who → Type 0
Distinct [] = Unit {0}
Distinct (w ∷ ws) = ((x : Who) → In x ws → x ≡ w → ⊥) × Distinct ws

after_in : (w x : Who) (ws : List Who) → AllAfter w ws → In x ws → life_before w x ≡ true
after_in w x [] a i = absurd i
after_in w x (y ∷ ws) a (inl e) = subst (λ (u : Who). life_before w u ≡ true) e a.0
after_in w x (y ∷ ws) a (inr i) = after_in w x ws a.1 i

pub order_distinct : (ws : List Who) → InOrder ws → Distinct ws
order_distinct [] o = tt
order_distinct (w ∷ ws) o = (
  λ x i e. before_not_self w (subst (λ (u : Who). life_before w u ≡ true) e (after_in w x ws o.0 i)),
  order_distinct ws o.1,
)

after_filter : (w : Who) (f : Who → Bool) (ws : List Who) → AllAfter w ws → AllAfter w (filter f ws)
after_filter w f [] a = tt
after_filter w f (x ∷ ws) a = cond_both (f x) (x ∷ filter f ws) (filter f ws) (λ (us : List Who). AllAfter w us)
    (λ t. (a.0, after_filter w f ws a.1)) (λ t. after_filter w f ws a.1)

pub order_filter : (f : Who → Bool) (ws : List Who) → InOrder ws → InOrder (filter f ws)
order_filter f [] o = tt
order_filter f (w ∷ ws) o = cond_both (f w) (w ∷ filter f ws) (filter f ws) (λ (us : List Who). InOrder us)
    (λ t. (after_filter w f ws o.0, order_filter f ws o.1)) (λ t. order_filter f ws o.1)

pub order_puts : (more ws : List Who) → InOrder ws → InOrder (with_lives more ws)
order_puts [] ws o = o
order_puts (w ∷ more) ws o = order_puts more (with_life w ws) (order_put w ws o)

-- one that is there isn't put in again
pub put_there : (w : Who) (ws : List Who) → InOrder ws → In w ws → with_life w ws ≡ ws
put_there w [] o i = absurd i
put_there w (x ∷ ws) o (inl e) =
    let same : same_life w x ≡ true = subst (λ (u : Who). same_life w u ≡ true) (sym e) (life_self w) in
    cond-true (same_life w x) (x ∷ ws) (if life_before w x then w ∷ x ∷ ws else x ∷ with_life w ws) same
put_there w (x ∷ ws) o (inr i) =
    let less = after_in x w ws o.0 i in
    let other : same_life w x ≡ false = not_same w x (λ e. before_not_self x (subst (λ (u : Who). life_before x u ≡ true) e less)) in
    let above : life_before w x ≡ false = not_both (life_before w x) refl less in
    cond-false (same_life w x) (x ∷ ws) (if life_before w x then w ∷ x ∷ ws else x ∷ with_life w ws) other
    ∙ cond-false (life_before w x) (w ∷ x ∷ ws) (x ∷ with_life w ws) above
    ∙ ap (λ (us : List Who). x ∷ us) (put_there w ws o.1 i)
  where
    not_both : (b : Bool) → life_before w x ≡ b → life_before x w ≡ true → b ≡ false
    not_both false e less = refl
    not_both true e less = absurd (before_not_self w (before_trans w x w e less))

pub puts_there : (more ws : List Who) → InOrder ws → ((w : Who) → In w more → In w ws) → with_lives more ws ≡ ws
puts_there [] ws o all = refl
puts_there (w ∷ more) ws o all = ap (with_lives more) (put_there w ws o (all w (inl refl))) ∙ puts_there more ws o (λ x i. all x (inr i))

-- the first lives stand so
first_after : (w : Who) (client more : ℕ) → w.client < client → AllAfter w (lives_from client more)
first_after w client zero lt = tt
first_after w client (suc more) lt = (grind (arith, nat_tests, lt), first_after w (client + 1) more (omega (arith, lt)))

pub order_first : (client more : ℕ) → InOrder (lives_from client more)
order_first client zero = tt
order_first client (suc more) = (
  first_after (record { client = client; life = 1 }) (client + 1) more (omega arith),
  order_first (client + 1) more,
)

-- ---- the first life of a client

pub found_life : (c : ℕ) (ws : List Who) (w : Who) → life_in c ws ≡ Some w → In w ws × (w.client ≡ c)
found_life c [] w e = absurd (cc)
found_life c (x ∷ ws) w e =
    cond_both (nat_eq x.client c) (Some x) (life_in c ws) (λ (o : Option Who). o ≡ Some w → In w (x ∷ ws) × (w.client ≡ c))
    (λ t q. let is : x ≡ w = cc in (inl is, subst (λ (u : Who). u.client ≡ c) is (eqb-true x.client c t)))
    (λ t q. let r = found_life c ws w q in (inr r.0, r.1))
    e

pub no_life : (c : ℕ) (ws : List Who) → ((w : Who) → In w ws → w.client ≡ c → ⊥) → life_in c ws ≡ None
no_life c [] none = refl
no_life c (x ∷ ws) none =
    cond_both (nat_eq x.client c) (Some x) (life_in c ws) (λ (o : Option Who). o ≡ None)
    (λ t. absurd (none x (inl refl) (eqb-true x.client c t)))
    (λ t. no_life c ws (λ w i. none w (inr i)))

pub none_is : (c : ℕ) (ws : List Who) → life_in c ws ≡ None → (w : Who) → In w ws → w.client ≡ c → ⊥
none_is c [] e w i q = absurd i
none_is c (x ∷ ws) e w (inl k) q =
    let own : nat_eq x.client c ≡ true = eq-eqb x.client c (ap (λ (u : Who). u.client) k ∙ q) in
    let is : Some x ≡ None = sym (cond-true (nat_eq x.client c) (Some x) (life_in c ws) own) ∙ e in
    absurd (cc)
none_is c (x ∷ ws) e w (inr k) q =
    cond_both (nat_eq x.client c) (Some x) (life_in c ws) (λ (o : Option Who). o ≡ None → ⊥)
    (λ t z. absurd (cc))
    (λ t z. none_is c ws z w k q)
    e

-- the first lives are one of each client
pub from_first : (w : Who) (client more : ℕ) → In w (lives_from client more) → w.life ≡ 1
from_first w client zero i = absurd i
from_first w client (suc more) (inl e) = ap (λ (u : Who). u.life) (sym e)
from_first w client (suc more) (inr i) = from_first w (client + 1) more i

-- ---- filters

-- one that is two, one after the other
pub filter_parts : {A : Type 0} (f g h : A → Bool) → ((x : A) → f x ≡ (g x && h x)) → (xs : List A) → filter f xs ≡ filter h (filter g xs)
filter_parts f g h is [] = refl
filter_parts {A} f g h is (x ∷ xs) = by (g x) (h x) refl refl (is x) (filter_parts f g h is xs)
  where
    by : (a b : Bool) → g x ≡ a → h x ≡ b → f x ≡ (g x && h x) → filter f xs ≡ filter h (filter g xs) → filter f (x ∷ xs)
        ≡ filter h (if a then x ∷ filter g xs else filter g xs)
    by true true p q e ih =
        cond-true (f x) (x ∷ filter f xs) (filter f xs) (rw (p, q) at e) ∙ ap (λ (ys : List A). x ∷ ys) ih
        ∙ sym (cond-true (h x) (x ∷ filter h (filter g xs)) (filter h (filter g xs)) q)
    by true false p q e ih =
        cond-false (f x) (x ∷ filter f xs) (filter f xs) (rw (p, q) at e) ∙ ih
        ∙ sym (cond-false (h x) (x ∷ filter h (filter g xs)) (filter h (filter g xs)) q)
    by false b p q e ih = cond-false (f x) (x ∷ filter f xs) (filter f xs) (rw p at e) ∙ ih

and_swap : (a b : Bool) → (a && b) ≡ (b && a)
and_swap true true = refl
and_swap true false = refl
and_swap false true = refl
and_swap false false = refl

pub filter_swap : {A : Type 0} (f g : A → Bool) (xs : List A) → filter f (filter g xs) ≡ filter g (filter f xs)
filter_swap f g xs = sym (filter_parts (λ x. g x && f x) g f (λ x. refl) xs)
    ∙ filter_parts (λ x. g x && f x) f g (λ x. and_swap (g x) (f x)) xs

pub filter_under : {A : Type 0} (f g : A → Bool) → ((x : A) → f x ≡ true → g x ≡ true) → (xs : List A) → filter f (filter g xs)
    ≡ filter f xs
filter_under f g under xs = sym (filter_parts f g f (λ x. each x (f x) (g x) refl refl) xs)
  where
    each : (x : _) (a b : Bool) → f x ≡ a → g x ≡ b → a ≡ (b && a)
    each x true true p q = refl
    each x true false p q = let t = under x p in absurd (cc)
    each x false true p q = refl
    each x false false p q = refl

pub filter_all : {A : Type 0} (f : A → Bool) (xs : List A) → ((x : A) → In x xs → f x ≡ true) → filter f xs ≡ xs
filter_all f [] all = refl
filter_all f (x ∷ xs) all = cond-true (f x) (x ∷ filter f xs) (filter f xs) (all x (inl refl))
    ∙ ap (λ ys. x ∷ ys) (filter_all f xs (λ y i. all y (inr i)))

-- ---- locks in rising cookie

-- one of each cookie
pub same_cookie : (locks : List Lock) (a b : Lock) → Rises locks → In a locks → In b locks → a.cookie.0 ≡ b.cookie.0 → a ≡ b
same_cookie [] a b r i j e = absurd i
same_cookie (k ∷ locks) a b r (inl p) (inl q) e = sym p ∙ q
same_cookie (k ∷ locks) a b r (inl p) (inr j) e =
    let lt = in_above k.cookie.0 locks b r.0 j in
    let is : k.cookie.0 ≡ a.cookie.0 = ap (λ (l : Lock). l.cookie.0) p in
    absurd (omega (arith, lt, is, e))
same_cookie (k ∷ locks) a b r (inr i) (inl q) e =
    let lt = in_above k.cookie.0 locks a r.0 i in
    let is : k.cookie.0 ≡ b.cookie.0 = ap (λ (l : Lock). l.cookie.0) q in
    absurd (omega (arith, lt, is, e))
same_cookie (k ∷ locks) a b r (inr i) (inr j) e = same_cookie locks a b r.1 i j e

not_cookie : (l k : Lock) → (k.cookie.0 ≡ l.cookie.0 → ⊥) → not (nat_eq k.cookie.0 l.cookie.0) ≡ true
not_cookie l k ne = by (nat_eq k.cookie.0 l.cookie.0) refl
  where
    by : (b : Bool) → nat_eq k.cookie.0 l.cookie.0 ≡ b → not b ≡ true
    by true e = absurd (ne (eqb-true k.cookie.0 l.cookie.0 e))
    by false e = refl

-- where no lock has its cookie
pub without_none : (l : Lock) (locks : List Lock) → ((k : Lock) → In k locks → k.cookie.0 ≡ l.cookie.0 → ⊥) → without_lock l locks ≡ locks
without_none l locks none = filter_all (λ (k : Lock). not (nat_eq k.cookie.0 l.cookie.0)) locks (λ k i. not_cookie l k (none k i))

without_above : (l : Lock) (locks : List Lock) → AllAbove l.cookie.0 locks → without_lock l locks ≡ locks
without_above l locks a = without_none l locks (λ k i e. let lt = in_above l.cookie.0 locks k a i in absurd (omega (arith, lt, e)))

pub in_without : (l k : Lock) (locks : List Lock) → In k locks → (k.cookie.0 ≡ l.cookie.0 → ⊥) → In k (without_lock l locks)
in_without l k locks i ne = in_filtered (λ (x : Lock). not (nat_eq x.cookie.0 l.cookie.0)) k locks i (not_cookie l k ne)

-- ---- the locks of a life that leaves go one by one

abbrev pub all_without : List Lock → List Lock → List Lock
all_without [] locks = locks
all_without (l ∷ gone) locks = all_without gone (without_lock l locks)

all_beside : (k : Lock) (gone locks : List Lock) → AllAbove k.cookie.0 gone → all_without gone (k ∷ locks) ≡ k ∷ all_without gone locks
all_beside k [] locks a = refl
all_beside k (l ∷ gone) locks a =
    let stays : without_lock l (k ∷ locks) ≡ k ∷ without_lock l locks =
    cond-true (not (nat_eq k.cookie.0 l.cookie.0)) (k ∷ without_lock l locks) (without_lock l locks)
    (not_cookie l k (λ e. let lt = a.0 in absurd (omega (arith, lt, e)))) in
    ap (all_without gone) stays ∙ all_beside k gone (without_lock l locks) a.1

without_itself : (l : Lock) (locks : List Lock) → without_lock l (l ∷ locks) ≡ without_lock l locks
without_itself l locks = cond-false (not (nat_eq l.cookie.0 l.cookie.0)) (l ∷ without_lock l locks) (without_lock l locks)
    (ap not (eq-eqb l.cookie.0 l.cookie.0 refl))

pub all_released_is : (w : Who) (locks : List Lock) → Rises locks → all_without (locks_of w locks) locks ≡ locks_without (w ∷ []) locks
all_released_is w [] r = refl
all_released_is w (k ∷ locks) r = by (same_life k.ask.who w) refl (all_released_is w locks r.1)
  where
    gone : List Lock
    gone = locks_of w locks

    by : (b : Bool) → same_life k.ask.who w ≡ b → all_without gone locks ≡ locks_without (w ∷ []) locks
        → all_without (if b then k ∷ gone else gone) (k ∷ locks) ≡ locks_without (w ∷ []) (k ∷ locks)
    by true e ih =
        ap (all_without gone) (without_itself k locks ∙ without_above k locks r.0) ∙ ih
        ∙ sym (cond-false (not (is_life k.ask.who (w ∷ []))) (k ∷ locks_without (w ∷ []) locks) (locks_without (w ∷ []) locks)
        (ap (λ (c : Bool). not (c || false)) e))
    by false e ih =
        all_beside k gone locks (above_filter k.cookie.0 (λ (l : Lock). same_life l.ask.who w) locks r.0)
        ∙ ap (λ (xs : List Lock). k ∷ xs) ih
        ∙ sym (cond-true (not (is_life k.ask.who (w ∷ []))) (k ∷ locks_without (w ∷ []) locks) (locks_without (w ∷ []) locks)
        (ap (λ (c : Bool). not (c || false)) e))

-- a lock of a life that left isn't among those that are left
pub left_without : (w : Who) (l : Lock) (locks : List Lock) → Rises locks → In l locks → l.ask.who ≡ w
    → without_lock l (locks_without (w ∷ []) locks) ≡ locks_without (w ∷ []) locks
left_without w l locks r i own =
    without_none l (locks_without (w ∷ []) locks) (λ k j e.
    let p = in_filter (λ (x : Lock). not (is_life x.ask.who (w ∷ []))) k locks j in
    let is : k ≡ l = same_cookie locks k l r p.0 i e in
    gone_not k.ask.who w p.1 (ap (λ (x : Lock). x.ask.who) is ∙ own))

-- those of another life stay
pub others_stay : (w x : Who) (locks : List Lock) → (x ≡ w → ⊥) → locks_of x (locks_without (w ∷ []) locks) ≡ locks_of x locks
others_stay w x locks ne =
    filter_under (λ (l : Lock). same_life l.ask.who x) (λ (l : Lock). not (is_life l.ask.who (w ∷ [])))
    (λ l t. not_gone l.ask.who w (λ e. ne (sym (life_is l.ask.who x t) ∙ e))) locks

-- ---- the first lives stand as they were put in

-- all of these are of clients below
abbrev Below : List Who → ℕ → Type 0
Below lives c = (w : Who) → In w lives → w.client < c

put_last : (who : Who) (lives : List Who) → Below lives who.client → with_life who lives ≡ lives ++ who ∷ []
put_last who [] below = refl
put_last who (w ∷ lives) below =
    let lt : w.client < who.client = below w (inl refl) in
    let same : same_life who w ≡ false = grind (arith, nat_tests, lt) in
    let before : life_before who w ≡ false = grind (arith, nat_tests, lt) in
    cond-false (same_life who w) (w ∷ lives) (if life_before who w then who ∷ w ∷ lives else w ∷ with_life who lives) same
    ∙ cond-false (life_before who w) (who ∷ w ∷ lives) (w ∷ with_life who lives) before
    ∙ ap (λ (ws : List Who). w ∷ ws) (put_last who lives (λ x i. below x (inr i)))

all_last : (c n : ℕ) (lives : List Who) → Below lives c → with_lives (lives_from c n) lives ≡ lives ++ lives_from c n
all_last c zero lives below = sym (append-nil lives)
all_last c (suc n) lives below =
    let first : Who = record { client = c; life = 1 } in
    ap (with_lives (lives_from (c + 1) n)) (put_last first lives below)
    ∙ all_last (c + 1) n (lives ++ first ∷ []) (λ w i. ⊎_elim (λ (j : In w lives). let lt = below w j in omega (arith, lt))
    (λ (j : In w (first ∷ [])). one w j) (in_append w lives (first ∷ []) i))
    ∙ append_assoc lives (first ∷ []) (lives_from (c + 1) n)
  where
    one : (w : Who) → In w (record { client = c; life = 1 } ∷ []) → w.client < c + 1
    one w (inl e) = let is : c ≡ w.client = ap (λ (x : Who). x.client) e in omega (arith, is)
    one w (inr j) = absurd j

pub first_lives : (clients : ℕ) → with_lives (lives_from 0 clients) [] ≡ lives_from 0 clients
first_lives clients = all_last 0 clients [] (λ w i. absurd i)
