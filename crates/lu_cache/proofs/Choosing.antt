-- The fact of least cookie among those that may be used is the first in the order of cookies.
use Rattle.std.proofs.Common.{◌≡◌, ℕ, suc, ◌+◌, ◌<◌, ◌≤◌, ◌==◌, ◌&&◌, Bool, true, false, not, cond, List, [], ◌∷◌, Option, Some, None, refl}
use Rattle.std.proofs.Common.{sym, ap, subst, ◌∙◌, arith}
use Rattle.std.specs.Prelude.{filter, map, nat_lt, nat_eq, find, option_map, slice_get}
use Rattle.std.specs.Map.{lookup, keys_of}
use Rattle.std.specs.BTreeMap.{BTreeMap, is_at}
use Rattle.std.specs.List.{AllByRecursion}
use Rattle.std.specs.List.Sorted.{IsStrictlySortedBy}
use Rattle.std.specs.declared.cmp.Ordering.TheVariants.{Less}
use Rattle.std.proofs.lemmas.Map.Keys.{sorted_tail, sorted_head}
use Rattle.std.proofs.lemmas.Bool.Decides.{nat_tests}
use Rattle.lu_base.specs.declared.ids.Cookie.{Cookie}
use Rattle.lu_spec_machine.specs.Places.{RisingFrom, found_at}
use Rattle.lu_spec_client.specs.Facts.{Fact as RowFact}
use Rattle.lu_spec_client.specs.Known.{same_part, lesser, of_least_cookie}
use Rattle.lu_cache.specs.declared.topics.Topic.{Topic}
use Rattle.lu_cache.specs.declared.facts.Fact.{Fact}
use Rattle.lu_cache.specs.Topics.{same_topic, part_of, row_fact}
use Rattle.lu_cache.specs.Usable.{fact_under}
use Rattle.lu_cache.specs.Numbered.{Numbered, first_number}
use Rattle.lu_cache.specs.Logs.{Log, newest, is_about, facts_of}
use Rattle.lu_cache.proofs.Falling.{not_both, some_is, found_here, found_past, number_found, number_none}
use Rattle.lu_cache.specs.Filings.{in_row, by_cookie}
use Rattle.lu_cache.proofs.Filed.{at_cookie}
use Rattle.lu_cache.proofs.TopicKeys.{same_parts, same_turned, cookie_is}

-- ---- the least cookie of a list

-- no fact has a lesser cookie
abbrev pub FromCookie : ℕ → List RowFact → Type 0
FromCookie c [] = Unit {0}
FromCookie c (f ∷ facts) = (c ≤ f.cookie.0) × FromCookie c facts

least_from : (c : ℕ) (facts : List RowFact) (f : RowFact) → FromCookie c facts → of_least_cookie facts ≡ Some f → c ≤ f.cookie.0
least_from c [] f from least = not_both f _ least
least_from c (g ∷ facts) f from least = by (of_least_cookie facts) refl (some_is _ f least) (λ h. least_from c facts h from.1) where
  by : (o : Option RowFact) → of_least_cookie facts ≡ o → lesser g o ≡ f → ((h : RowFact) → of_least_cookie facts ≡ Some h → c ≤ h.cookie.0)
      → c ≤ f.cookie.0
  by None e is rest = subst (λ (x : RowFact). c ≤ x.cookie.0) is from.0
  by (Some h) e is rest = or (nat_lt h.cookie.0 g.cookie.0) is where
    or : (v : Bool) → cond v h g ≡ f → c ≤ f.cookie.0
    or true i = subst (λ (x : RowFact). c ≤ x.cookie.0) i (rest h e)
    or false i = subst (λ (x : RowFact). c ≤ x.cookie.0) i from.0

-- the first fact with this cookie
abbrev pub first_with : ℕ → List RowFact → Option RowFact
first_with c facts = find (λ (f : RowFact). f.cookie.0 == c) facts

pub least_is : (facts : List RowFact) (f : RowFact) → FromCookie f.cookie.0 facts → first_with f.cookie.0 facts ≡ Some f
    → of_least_cookie facts ≡ Some f
least_is [] f from first = not_both f _ first
least_is (g ∷ facts) f from first = by (g.cookie.0 == f.cookie.0) refl first (least_is facts f from.1) where
  by : (same : Bool) → (g.cookie.0 == f.cookie.0) ≡ same → cond same (Some g) (first_with f.cookie.0 facts) ≡ Some f
      → (first_with f.cookie.0 facts ≡ Some f → of_least_cookie facts ≡ Some f) → Some (lesser g (of_least_cookie facts)) ≡ Some f
  by true s i rest = or (of_least_cookie facts) refl where
    or : (o : Option RowFact) → of_least_cookie facts ≡ o → Some (lesser g o) ≡ Some f
    or None e = i
    or (Some h) e =
        let above : f.cookie.0 ≤ h.cookie.0 = least_from f.cookie.0 facts h from.1 e in
        let off : nat_lt h.cookie.0 g.cookie.0 ≡ false = grind (arith, nat_tests) in
        rw off i
  by false s i rest =
      let least : of_least_cookie facts ≡ Some f = rest i in
      let less : nat_lt f.cookie.0 g.cookie.0 ≡ true = grind (arith, nat_tests, from.0) in
      rw (least, less) refl

-- ---- among the facts of a topic that may be used

module _ (t : Topic) (may_use : Cookie → Bool) where
  abbrev pub is_taken : RowFact → Bool
  is_taken f = same_part (part_of t) f.part && may_use f.cookie

  -- what is known of the topic is under a lock that has this cookie or a greater one, if that may be used
  abbrev pub Above : ℕ → Log → Type 0
  Above c log = (n : ℕ) (f : Fact) → found_at log n ≡ Some f → same_topic f.topic t ≡ true → may_use f.cookie ≡ true → c ≤ f.cookie.0

  above_rest : (c k : ℕ) (e : ℕ × Fact) (log : Log) → RisingFrom (e.0 + 1) log → Above c (e ∷ log) → Above c log
  above_rest c k e log h above n f found = above n f (found_past e log n f h found)

  taken_about : (f : Fact) → same_part (part_of t) (row_fact f).part ≡ same_topic f.topic t
  taken_about f = same_parts t f.topic ∙ same_turned t f.topic

  from_taken : (c k : ℕ) (log : Log) → RisingFrom k log → Above c log → FromCookie c (filter is_taken (facts_of log))
  from_taken c k [] h above = tt
  from_taken c k (e ∷ log) h above = by (same_topic e.1.topic t) refl (may_use e.1.cookie) refl
      (from_taken c (e.0 + 1) log h.1 (above_rest c k e log h.1 above)) where
        by : (v : Bool) → same_topic e.1.topic t ≡ v → (w : Bool) → may_use e.1.cookie ≡ w → FromCookie c (filter is_taken (facts_of log))
            → FromCookie c (filter is_taken (facts_of (e ∷ log)))
        by true a true u rest = rw (taken_about e.1, a, u) (above e.0 e.1 (found_here e log) a u, rest)
        by true a false u rest = rw (taken_about e.1, a, u) rest
        by false a w u rest = rw (taken_about e.1, a) rest

  -- the newest about the topic under a lock that may be used is the first with its cookie
  first_taken : (c : Cookie) (k n : ℕ) (f : Fact) (log : Log) → may_use c ≡ true → RisingFrom k log → newest t c log ≡ Some n
      → found_at log n ≡ Some f → first_with c.0 (filter is_taken (facts_of log)) ≡ Some (row_fact f)
  first_taken c k n f [] usable h first found = not_both n _ first
  first_taken c k n f (e ∷ log) usable h first found = by (same_topic e.1.topic t) refl (e.1.cookie.0 == c.0) refl first
      (λ i there. first_taken c (e.0 + 1) n f log usable h.1 i there) where
        below : newest t c log ≡ Some n → found_at log n ≡ Some f
        below later = let (x, there, passes) = number_found (is_about t c) (e.0 + 1) n log h.1 later in there
            ∙ sym (found_past e log n x h.1 there) ∙ found

        by : (v : Bool) → same_topic e.1.topic t ≡ v → (w : Bool) → (e.1.cookie.0 == c.0) ≡ w → cond (v && w) (Some e.0) (newest t c log)
            ≡ Some n → (newest t c log ≡ Some n → found_at log n ≡ Some f → first_with c.0 (filter is_taken (facts_of log)) ≡ Some (row_fact f))
            → first_with c.0 (filter is_taken (facts_of (e ∷ log))) ≡ Some (row_fact f)
        by true a true b i rest =
            let u : may_use e.1.cookie ≡ true = ap may_use (cookie_is e.1.cookie c b) ∙ usable in
            let is : e.1 ≡ f = some_is e.1 f (sym (found_here e log) ∙ ap (found_at (e ∷ log)) (some_is e.0 n i) ∙ found) in
            rw (taken_about e.1, a, u, b) (ap (λ (g : Fact). Some (row_fact g)) is)
        by true a false b i rest = or (may_use e.1.cookie) refl where
          or : (u : Bool) → may_use e.1.cookie ≡ u → first_with c.0 (filter is_taken (facts_of (e ∷ log))) ≡ Some (row_fact f)
          or true u = rw (taken_about e.1, a, u, b) (rest i (below i))
          or false u = rw (taken_about e.1, a, u) (rest i (below i))
        by false a w b i rest = rw (taken_about e.1, a) (rest i (below i))

  none_taken : (k : ℕ) (log : Log) → RisingFrom k log → ((n : ℕ) (f : Fact) → found_at log n ≡ Some f → same_topic f.topic t ≡ true
      → may_use f.cookie ≡ false) → filter is_taken (facts_of log) ≡ []
  none_taken k [] h none = refl
  none_taken k (e ∷ log) h none = by (same_topic e.1.topic t) refl
      (none_taken (e.0 + 1) log h.1 (λ n f found. none n f (found_past e log n f h.1 found))) where
        by : (v : Bool) → same_topic e.1.topic t ≡ v → filter is_taken (facts_of log) ≡ [] → filter is_taken (facts_of (e ∷ log)) ≡ []
        by true a rest = rw (taken_about e.1, a, none e.0 e.1 (found_here e log) a) rest
        by false a rest = rw (taken_about e.1, a) rest

-- ---- a row of cookies in order

head_is : {A : Type 0} (x y : A) (xs ys : List A) → x ∷ xs ≡ y ∷ ys → x ≡ y
head_is x y xs ys e = cc

abbrev pub Row : Type 0
Row = List (Cookie × ℕ)

-- above this number, and rising
abbrev pub RisingAbove : ℕ → Row → Type 0
RisingAbove k [] = Unit {0}
RisingAbove k (e ∷ row) = (k ≤ e.0.0) × RisingAbove (e.0.0 + 1) row

cookie_less : (c d : Cookie) → by_cookie c d ≡ Less → c.0 + 1 ≤ d.0
cookie_less c d less = by (nat_lt c.0 d.0) refl less where
  by : (v : Bool) → nat_lt c.0 d.0 ≡ v → by_cookie c d ≡ Less → c.0 + 1 ≤ d.0
  by true e l = grind (arith, nat_tests)
  by false e l = absurd (grind (arith, nat_tests))

above_sorted : (k : Cookie) (row : Row) → AllByRecursion (λ q. by_cookie k q ≡ Less) (keys_of row)
    → IsStrictlySortedBy by_cookie (keys_of row) → RisingAbove (k.0 + 1) row
above_sorted k [] above h = tt
above_sorted k (e ∷ row) above h = (
  cookie_less k e.0 above.0,
  above_sorted e.0 row (sorted_head by_cookie e.0 (keys_of row) h)
      (sorted_tail by_cookie e.0 (keys_of row) h),
)

pub row_rising : (row : Row) → IsStrictlySortedBy by_cookie (keys_of row) → RisingAbove 0 row
row_rising [] h = tt
row_rising (e ∷ row) h = (
  omega arith,
  above_sorted e.0 row (sorted_head by_cookie e.0 (keys_of row) h)
      (sorted_tail by_cookie e.0 (keys_of row) h),
)

-- what stands under a cookie
abbrev pub under : Cookie → Row → Option ℕ
under c row = lookup (is_at (by_cookie c)) row

under_above : (c : Cookie) (k n : ℕ) (row : Row) → RisingAbove k row → under c row ≡ Some n → k ≤ c.0
under_above c k n [] h there = not_both n _ there
under_above c k n (e ∷ row) h there = by (c.0 == e.0.0) (at_cookie c e.0) there (under_above c (e.0.0 + 1) n row h.1) where
  by : (v : Bool) → is_at (by_cookie c) e.0 ≡ v → cond (is_at (by_cookie c) e.0) (Some e.1) (under c row) ≡ Some n
      → (under c row ≡ Some n → e.0.0 + 1 ≤ c.0) → k ≤ c.0
  by true a t later = let same : e.0 ≡ c = sym (cookie_is c e.0 (sym (at_cookie c e.0) ∙ a)) in subst (λ (d : Cookie). k ≤ d.0) same h.0
  by false a t later =
      let rest : under c row ≡ Some n = subst (λ b. cond b (Some e.1) (under c row) ≡ Some n) a t in
      omega (arith, h.0, later rest)

module _ (may_use : Cookie → Bool) where
  abbrev pub passing : Row → Row
  passing row = filter (λ (e : Cookie × ℕ). may_use e.0) row

  -- the first that passes is the least of those that pass
  pub first_under : (k : ℕ) (row : Row) (e : Cookie × ℕ) (more : Row) → RisingAbove k row → passing row ≡ e ∷ more
      → (under e.0 row ≡ Some e.1) × (may_use e.0 ≡ true) × ((c : Cookie) (n : ℕ) → under c row ≡ Some n → may_use c ≡ true → e.0.0 ≤ c.0)
  first_under k [] e more h first = absurd (cc)
  first_under k (d ∷ row) e more h first = by (may_use d.0) refl first (first_under (d.0.0 + 1) row e more h.1) where
    self : is_at (by_cookie d.0) d.0 ≡ true
    self = at_cookie d.0 d.0 ∙ grind (arith, nat_tests)

    least : (c : Cookie) (n : ℕ) → under c (d ∷ row) ≡ Some n → d.0.0 ≤ c.0
    least c n there = under_above c d.0.0 n (d ∷ row) (omega arith, h.1) there

    past : (c : Cookie) → (c.0 == d.0.0) ≡ false → under c (d ∷ row) ≡ under c row
    past c off = rw (at_cookie c d.0, off) refl

    by : (v : Bool) → may_use d.0 ≡ v → cond v (d ∷ passing row) (passing row) ≡ e ∷ more
        → (passing row ≡ e ∷ more → (under e.0 row ≡ Some e.1) × (may_use e.0 ≡ true)
        × ((c : Cookie) (n : ℕ) → under c row ≡ Some n → may_use c ≡ true → e.0.0 ≤ c.0)) → (under e.0 (d ∷ row) ≡ Some e.1)
        × (may_use e.0 ≡ true) × ((c : Cookie) (n : ℕ) → under c (d ∷ row) ≡ Some n → may_use c ≡ true → e.0.0 ≤ c.0)
    by true u f later =
        let is : d ≡ e = head_is d e (passing row) more f in
        subst (λ (x : Cookie × ℕ). (under x.0 (d ∷ row) ≡ Some x.1) × (may_use x.0 ≡ true)
        × ((c : Cookie) (n : ℕ) → under c (d ∷ row) ≡ Some n → may_use c ≡ true → x.0.0 ≤ c.0)) is
        (rw self refl, u, λ c n there usable. least c n there)
    by false u f later =
        let (here, usable, rest) = later f in
        let above : d.0.0 + 1 ≤ e.0.0 = under_above e.0 (d.0.0 + 1) e.1 row h.1 here in
        let off : (e.0.0 == d.0.0) ≡ false = grind (arith, nat_tests) in
        (past e.0 off ∙ here, usable, λ c n there may. other c n (c.0 == d.0.0) refl there may rest)
      where
        other : (c : Cookie) (n : ℕ) (v : Bool) → (c.0 == d.0.0) ≡ v → under c (d ∷ row) ≡ Some n → may_use c ≡ true
            → ((c : Cookie) (n : ℕ) → under c row ≡ Some n → may_use c ≡ true → e.0.0 ≤ c.0) → e.0.0 ≤ c.0
        other c n true a there may rest = let off : may_use c ≡ false = ap may_use (cookie_is c d.0 a) ∙ u in absurd (cc)
        other c n false a there may rest = rest c n (sym (past c a) ∙ there) may

  -- where none passes, none may be used
  pub none_under : (k : ℕ) (row : Row) → RisingAbove k row → passing row ≡ [] → (c : Cookie) (n : ℕ) → under c row ≡ Some n → may_use c
      ≡ false
  none_under k [] h none c n there = not_both n _ there
  none_under k (d ∷ row) h none c n there = by (may_use d.0) refl none (c.0 == d.0.0) refl (λ f. none_under (d.0.0 + 1) row h.1 f c n) where
    by : (v : Bool) → may_use d.0 ≡ v → cond v (d ∷ passing row) (passing row) ≡ [] → (w : Bool) → (c.0 == d.0.0) ≡ w
        → (passing row ≡ [] → under c row ≡ Some n → may_use c ≡ false) → may_use c ≡ false
    by true u f w a rest = absurd (cc)
    by false u f true a rest = ap may_use (cookie_is c d.0 a) ∙ u
    by false u f false a rest = rest f (subst (λ b. cond b (Some d.1) (under c row) ≡ Some n) (at_cookie c d.0 ∙ a) there)

-- ---- together

module _ (t : Topic) (may_use : Cookie → Bool) (log : Log) (rising : RisingFrom 0 log) where
  -- each fact of the topic is filed
  abbrev IsFiled : Option (BTreeMap Cookie ℕ) → Type 0
  IsFiled row = (c : Cookie) → in_row row c ≡ newest t c log

  about : (f : Fact) → same_topic f.topic t ≡ true → is_about t f.cookie f ≡ true
  about f topic = let self : (f.cookie.0 == f.cookie.0) ≡ true = grind (arith, nat_tests) in rw (topic, self) refl

  -- the fact's cookie is in the row
  in_the_row : (row : Option (BTreeMap Cookie ℕ)) → IsFiled row → (n : ℕ) (f : Fact) → found_at log n ≡ Some f → same_topic f.topic t ≡ true
      → (m : ℕ) × (in_row row f.cookie ≡ Some m)
  in_the_row row filed n f found topic = by (newest t f.cookie log) refl where
    by : (o : Option ℕ) → newest t f.cookie log ≡ o → (m : ℕ) × (in_row row f.cookie ≡ Some m)
    by None e = let off : is_about t f.cookie f ≡ false = number_none (is_about t f.cookie) log n f e found
        in let on : is_about t f.cookie f ≡ true = about f topic in absurd (cc)
    by (Some m) e = (m, filed f.cookie ∙ e)

  pub none_filed : IsFiled None → None ≡ fact_under (part_of t) may_use (facts_of log)
  none_filed filed =
      ap of_least_cookie (sym (none_taken t may_use 0 log rising
      (λ n f found topic. absurd (let (m, there) = in_the_row None filed n f found topic in not_both m ⊥ there))))

  pub none_chosen : (row : BTreeMap Cookie ℕ) → IsFiled (Some row) → IsStrictlySortedBy by_cookie (keys_of row.entries)
      → slice_get (passing may_use row.entries) 0 ≡ None → None ≡ fact_under (part_of t) may_use (facts_of log)
  none_chosen row filed sorted none =
      ap of_least_cookie (sym (none_taken t may_use 0 log rising
      (λ n f found topic. let (m, there) = in_the_row (Some row) filed n f found topic
      in none_under may_use 0 row.entries (row_rising row.entries sorted) (empty (passing may_use row.entries) none) f.cookie m there)))
    where
      empty : (xs : Row) → slice_get xs 0 ≡ None → xs ≡ []
      empty [] e = refl
      empty (x ∷ xs) e = absurd (cc)

  pub chosen : (row : BTreeMap Cookie ℕ) → IsFiled (Some row) → IsStrictlySortedBy by_cookie (keys_of row.entries) → (d : Cookie × ℕ)
      → slice_get (passing may_use row.entries) 0 ≡ Some d → option_map row_fact (found_at log d.1)
      ≡ fact_under (part_of t) may_use (facts_of log)
  chosen row filed sorted d first = by (passing may_use row.entries) refl first where
    second : (v w : Bool) → (v && w) ≡ true → w ≡ true
    second true w e = e
    second false w e = absurd (cc)

    by : (xs : Row) → passing may_use row.entries ≡ xs → slice_get xs 0 ≡ Some d → option_map row_fact (found_at log d.1)
        ≡ fact_under (part_of t) may_use (facts_of log)
    by [] e f = absurd (cc)
    by (e ∷ more) is f =
        let (there, usable, least) = first_under may_use 0 row.entries e more (row_rising row.entries sorted) is in
        let number : e.1 ≡ d.1 = ap (λ (x : Cookie × ℕ). x.1) (some_is e d f) in
        let new : newest t e.0 log ≡ Some d.1 = sym (filed e.0) ∙ there ∙ ap (λ m. Some m) number in
        let (g, found, is_g) = number_found (is_about t e.0) 0 d.1 log rising new in
        let cookie : g.cookie ≡ e.0 = cookie_is g.cookie e.0 (second (same_topic g.topic t) (g.cookie.0 == e.0.0) is_g) in
        let first_g : first_with e.0.0 (filter (is_taken t may_use) (facts_of log)) ≡ Some (row_fact g) =
        first_taken t may_use e.0 0 d.1 g log usable rising new found in
        let above : FromCookie e.0.0 (filter (is_taken t may_use) (facts_of log)) =
        from_taken t may_use e.0.0 0 log rising (λ m h at topic may. let (k, filed_at) = in_the_row (Some row) filed m h at topic
        in least h.cookie k filed_at may) in
        ap (option_map row_fact) found
        ∙ sym (least_is (filter (is_taken t may_use) (facts_of log)) (row_fact g)
        (subst (λ (c : Cookie). FromCookie c.0 (filter (is_taken t may_use) (facts_of log))) (sym cookie) above)
        (subst (λ (c : Cookie). first_with c.0 (filter (is_taken t may_use) (facts_of log)) ≡ Some (row_fact g)) (sym cookie) first_g))
