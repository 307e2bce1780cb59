-- Lists of numbers and of replays: what a close keeps of replays in rising number.
use Rattle.std.proofs.Common.{◌≡◌, ℕ, ◌<◌, ◌≤◌, Bool, true, false, List, [], ◌∷◌, ◌++◌, ◌⊎◌, inl, inr, ⊎_elim, refl, sym, subst, ap, ◌∙◌}
use Rattle.std.proofs.Common.{arith}
use Rattle.std.specs.Prelude.{not, nat_lt, nat_eq, ◌&&◌, ◌||◌, filter, map}
use Rattle.std.proofs.lemmas.Bool.{cond_both, cond-true, cond-false, eqb-true, ltb-true, ltb-false, and_parts, not-true}
use Rattle.lu_spec_target.specs.Windows.{Replayed, Window, has_number, misses, is_kept, kept_from, is_back}
use Rattle.lu_proof_lawful.proofs.Preconditions.Guards.{In}
use Rattle.lu_proof_lawful.proofs.Preconditions.Lists.{self, in_append, in_left, in_right, in_filter}
use Rattle.lu_proof_lawful.proofs.Preconditions.ClientLocks.{in_map, any_true, any_passes, any_false}
use Rattle.lu_proof_lawful.proofs.Invariants.Pigeons.{Different}

-- ---- numbers among numbers

pub has_in : (n : ℕ) (ns : List ℕ) → has_number n ns ≡ true → In n ns
has_in n ns e = let a = any_true (λ (m : ℕ). nat_eq m n) ns e in subst (λ (m : ℕ). In m ns) (eqb-true a.0 n a.2) a.1

pub in_has : (n : ℕ) (ns : List ℕ) → In n ns → has_number n ns ≡ true
in_has n ns i = any_passes (λ (m : ℕ). nat_eq m n) n ns i (self n)

pub bool_same : (a b : Bool) → (a ≡ true → b ≡ true) → (b ≡ true → a ≡ true) → a ≡ b
bool_same true b f g = sym (f refl)
bool_same false true f g = g refl
bool_same false false f g = refl

pub has_same : (n : ℕ) (ms ns : List ℕ) → (In n ms → In n ns) → (In n ns → In n ms) → has_number n ms ≡ has_number n ns
has_same n ms ns f g = bool_same (has_number n ms) (has_number n ns) (λ t. in_has n ns (f (has_in n ms t)))
    (λ t. in_has n ms (g (has_in n ns t)))

-- a number that was seen doesn't stand, or each is committed or kept
abbrev pub AllStand : (committed : ℕ) → (kept seen : List ℕ) → Type 0
AllStand committed kept seen = (n : ℕ) → In n seen → (n ≤ committed) ⊎ (has_number n kept ≡ true)

pub none_missed : (committed : ℕ) (kept seen : List ℕ) → misses committed kept seen ≡ false → AllStand committed kept seen
none_missed committed kept seen e n i = by (nat_lt committed n) (has_number n kept) refl refl
    (any_false (λ (m : ℕ). nat_lt committed m && not (has_number m kept)) seen e n i)
  where
    by : (a b : Bool) → nat_lt committed n ≡ a → has_number n kept ≡ b → (a && not b) ≡ false → (n ≤ committed) ⊎ (has_number n kept ≡ true)
    by false b p q z = inl (ltb-false committed n p)
    by true true p q z = inr q
    by true false p q z = absurd (cc)

pub missed_is : (committed : ℕ) (kept seen : List ℕ) → misses committed kept seen ≡ true → (n : ℕ) × In n seen × (committed < n)
    × (has_number n kept ≡ false)
missed_is committed kept seen e =
    let a = any_true (λ (m : ℕ). nat_lt committed m && not (has_number m kept)) seen e in
    let p = and_parts (nat_lt committed a.0) (not (has_number a.0 kept)) a.2 in
    (a.0, a.1, ltb-true committed a.0 p.0, not-true (has_number a.0 kept) p.1)

pub none_misses : (committed : ℕ) (kept seen : List ℕ) → AllStand committed kept seen → misses committed kept seen ≡ false
none_misses committed kept seen h = by (misses committed kept seen) refl
  where
    by : (b : Bool) → misses committed kept seen ≡ b → b ≡ false
    by false e = refl
    by true e =
        let m = missed_is committed kept seen e in
        ⊎_elim (λ (le : m.0 ≤ committed). let lt = m.2 in absurd (omega arith))
        (λ (k : has_number m.0 kept ≡ true). let z = m.3 in absurd (cc)) (h m.0 m.1)

-- ---- what is kept of replays in rising number

abbrev pub Below : ℕ → List Replayed → Type 0
Below n rs = (r : Replayed) → In r rs → n < r.number

abbrev pub NumbersRise : List Replayed → Type 0
NumbersRise [] = Unit {0}
NumbersRise (r ∷ rs) = Below r.number rs × NumbersRise rs

-- what is below all that come stays as it is
kept_low : (v : Window) (n : ℕ) (acc : List ℕ) (rs : List Replayed) → Below n rs → has_number n (kept_from v acc rs) ≡ has_number n acc
kept_low v n acc [] b = refl
kept_low v n acc (r ∷ rs) b =
    cond_both (is_kept v acc r) (kept_from v (acc ++ r.number ∷ []) rs) (kept_from v acc rs)
    (λ (ns : List ℕ). has_number n ns ≡ has_number n acc)
    (λ t. kept_low v n (acc ++ r.number ∷ []) rs (λ s i. b s (inr i)) ∙ more)
    (λ t. kept_low v n acc rs (λ s i. b s (inr i)))
  where
    more : has_number n (acc ++ r.number ∷ []) ≡ has_number n acc
    more = has_same n (acc ++ r.number ∷ []) acc
        (λ i. ⊎_elim (λ (j : In n acc). j) (λ (j : In n (r.number ∷ [])). ⊎_elim
        (λ (e : r.number ≡ n). let lt = b r (inl refl) in absurd (omega arith)) (λ (k : ⊥). absurd k) j)
        (in_append n acc (r.number ∷ []) i))
        (λ i. in_left n acc (r.number ∷ []) i)

-- what is there stays
pub kept_more : (v : Window) (n : ℕ) (acc : List ℕ) (rs : List Replayed) → In n acc → In n (kept_from v acc rs)
kept_more v n acc [] i = i
kept_more v n acc (r ∷ rs) i =
    cond_both (is_kept v acc r) (kept_from v (acc ++ r.number ∷ []) rs) (kept_from v acc rs) (λ (ns : List ℕ). In n ns)
    (λ t. kept_more v n (acc ++ r.number ∷ []) rs (in_left n acc (r.number ∷ []) i))
    (λ t. kept_more v n acc rs i)

-- what is kept is of a replay
pub kept_of_one : (v : Window) (n : ℕ) (acc : List ℕ) (rs : List Replayed) → In n (kept_from v acc rs) → In n acc
    ⊎ ((r : Replayed) × In r rs × (r.number ≡ n))
kept_of_one v n acc [] i = inl i
kept_of_one v n acc (r ∷ rs) i =
    cond_both (is_kept v acc r) (kept_from v (acc ++ r.number ∷ []) rs) (kept_from v acc rs)
    (λ (ns : List ℕ). In n ns → In n acc ⊎ ((s : Replayed) × In s (r ∷ rs) × (s.number ≡ n)))
    (λ t j. more (kept_of_one v n (acc ++ r.number ∷ []) rs j))
    (λ t j. later (kept_of_one v n acc rs j))
    i
  where
    later : In n acc ⊎ ((s : Replayed) × In s rs × (s.number ≡ n)) → In n acc ⊎ ((s : Replayed) × In s (r ∷ rs) × (s.number ≡ n))
    later (inl j) = inl j
    later (inr k) = inr (k.0, inr k.1, k.2)

    more : In n (acc ++ r.number ∷ []) ⊎ ((s : Replayed) × In s rs × (s.number ≡ n)) → In n acc
        ⊎ ((s : Replayed) × In s (r ∷ rs) × (s.number ≡ n))
    more (inl j) = ⊎_elim (λ (k : In n acc). inl k) (λ (k : In n (r.number ∷ [])). ⊎_elim (λ (e : r.number ≡ n). inr (r, inl refl, e))
        (λ (z : ⊥). absurd z) k) (in_append n acc (r.number ∷ []) j)
    more (inr k) = inr (k.0, inr k.1, k.2)

-- each is kept by what is kept in the end, where all that it saw is below it
pub kept_by_all : (v : Window) (acc : List ℕ) (rs : List Replayed) → NumbersRise rs
    → ((r : Replayed) → In r rs → (n : ℕ) → In n r.seen → n < r.number) → ((n : ℕ) → In n acc → Below n rs) → (r : Replayed) → In r rs
    → has_number r.number (kept_from v acc rs) ≡ is_kept v (kept_from v acc rs) r
kept_by_all v acc [] rise saw low r i = absurd i
kept_by_all v acc (x ∷ rs) rise saw low r (inl e) = subst (λ (y : Replayed). has_number y.number (kept_from v acc (x ∷ rs))
    ≡ is_kept v (kept_from v acc (x ∷ rs)) y) e (sym same ∙ now)
  where
    all : List ℕ
    all = kept_from v acc (x ∷ rs)

    below : (n : ℕ) → In n x.seen → Below n (x ∷ rs)
    below n j s (inl q) = subst (λ (y : Replayed). n < y.number) q (saw x (inl refl) n j)
    below n j s (inr k) = let a = saw x (inl refl) n j in let b = rise.0 s k in omega arith

    missed : misses v.committed all x.seen ≡ misses v.committed acc x.seen
    missed = any_same v.committed x.seen (λ n j. kept_low v n acc (x ∷ rs) (below n j))
      where
        any_same : (c : ℕ) (ns : List ℕ) → ((n : ℕ) → In n ns → has_number n all ≡ has_number n acc) → misses c all ns ≡ misses c acc ns
        any_same c [] h = refl
        any_same c (n ∷ ns) h = let a = h n (inl refl) in let b = any_same c ns (λ m j. h m (inr j))
            in ap (λ (z : Bool). (nat_lt c n && not z) || misses c all ns) a
            ∙ ap (λ (z : Bool). (nat_lt c n && not (has_number n acc)) || z) b

    now : is_kept v acc x ≡ is_kept v all x
    now = sym (ap (λ (z : Bool). nat_lt v.committed x.number && (is_back v x.who && not z)) missed)

    same : is_kept v acc x ≡ has_number x.number all
    same = by (is_kept v acc x) refl
      where
        by : (b : Bool) → is_kept v acc x ≡ b → is_kept v acc x ≡ has_number x.number all
        by true t = t ∙ sym (in_has x.number all (subst (λ (ns : List ℕ). In x.number ns)
            (sym (cond-true (is_kept v acc x) (kept_from v (acc ++ x.number ∷ []) rs) (kept_from v acc rs) t))
            (kept_more v x.number (acc ++ x.number ∷ []) rs (in_right x.number acc (x.number ∷ []) (inl refl)))))
        by false t = t ∙ sym (ap (has_number x.number) (cond-false (is_kept v acc x) (kept_from v (acc ++ x.number ∷ []) rs)
            (kept_from v acc rs) t) ∙ kept_low v x.number acc rs rise.0 ∙ none)
          where
            none : has_number x.number acc ≡ false
            none = has_same x.number acc [] (λ j. let lt = low x.number j x (inl refl) in absurd (omega arith)) (λ j. absurd j)
kept_by_all v acc (x ∷ rs) rise saw low r (inr i) =
    cond_both (is_kept v acc x) (kept_from v (acc ++ x.number ∷ []) rs) (kept_from v acc rs)
    (λ (ns : List ℕ). has_number r.number ns ≡ is_kept v ns r)
    (λ t. kept_by_all v (acc ++ x.number ∷ []) rs rise.1 (λ s j. saw s (inr j)) more r i)
    (λ t. kept_by_all v acc rs rise.1 (λ s j. saw s (inr j)) (λ n j s k. low n j s (inr k)) r i)
  where
    more : (n : ℕ) → In n (acc ++ x.number ∷ []) → Below n rs
    more n j s k = ⊎_elim (λ (a : In n acc). low n a s (inr k))
        (λ (a : In n (x.number ∷ [])). ⊎_elim (λ (e : x.number ≡ n). subst (λ (m : ℕ). m < s.number) e (rise.0 s k)) (λ (z : ⊥). absurd z)
        a) (in_append n acc (x.number ∷ []) j)

-- numbers that rise are different
pub rises_distinct : (f : Replayed → Bool) (rs : List Replayed) → NumbersRise rs
    → Different (map {A = Replayed} {B = ℕ} (λ (r : Replayed). r.number) (filter f rs))
rises_distinct f [] rise = tt
rises_distinct f (r ∷ rs) rise =
    cond_both (f r) (r ∷ filter f rs) (filter f rs) (λ (ss : List Replayed). Different
    (map {A = Replayed} {B = ℕ} (λ (s : Replayed). s.number) ss))
    (λ t. (
      (λ i. let s = in_map (λ (s : Replayed). s.number) r.number (filter f rs) i in let lt = rise.0 s.0 (in_filter f s.0 rs s.1).0
          in let e = s.2 in omega arith),
      rises_distinct f rs rise.1,
    ))
    (λ t. rises_distinct f rs rise.1)

pub rise_among : (f : Replayed → Bool) (rs : List Replayed) → NumbersRise rs → NumbersRise (filter f rs)
rise_among f [] rise = tt
rise_among f (r ∷ rs) rise = cond_both (f r) (r ∷ filter f rs) (filter f rs) NumbersRise
    (λ t. ((λ s i. rise.0 s (in_filter f s rs i).0), rise_among f rs rise.1)) (λ t. rise_among f rs rise.1)
