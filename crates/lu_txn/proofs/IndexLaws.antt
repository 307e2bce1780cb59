-- What an index finds: sorted places each once, and a bucket for each two parts that meet.
use Rattle.std.proofs.Common.{◌⊎◌, inl, inr, ◌≡◌, ℕ, suc, ◌+◌, ◌<◌, ◌≤◌, ◌==◌, ◌||◌, Bool, true, false, cond, List, [], ◌∷◌, ◌++◌, length}
use Rattle.std.proofs.Common.{get_or, refl, sym, ap, ◌∙◌, subst, arith, ◌-◌, length-drop}
use Rattle.std.specs.Prelude.{slice_get, Some, None, Option, map, filter, drop, nat_lt}
use Rattle.std.specs.List.{list_any, flat_map, filter_map, cons_option}
use Rattle.std.proofs.lemmas.Grind.{common_steps}
use Rattle.std.proofs.lemmas.Bool.Decides.{nat_tests}
use Rattle.std.proofs.lemmas.Bool.{eqb-true}
use Rattle.std.proofs.lemmas.Option.{slice_get_past, gets}
use Rattle.std.proofs.lemmas.Bool.{cases_lt}
use Rattle.std.proofs.Math.Seq.{drop-cons}
use Rattle.std.proofs.Math.ListN.{get_or-append}
use Rattle.std.proofs.lemmas.List.{get_or_push, length_push}
use Rattle.std.specs.List.Sorted.{IsStrictlyIncreasing}
use Rattle.lu_part.specs.declared.parts.Part.{Part}
use Rattle.lu_part.specs.declared.parts.Part.TheVariants.{Name, List as Names, Attr, Layout, Parent, Bytes}
use Rattle.lu_part.specs.Meets.{meets, Meets}
use Rattle.lu_part.proofs.PartLaws.{meets_rule}
use Rattle.lu_part.proofs.Places.{has_left, has_right, or_true, Rise, rise_lower, rises, not_before}
use Rattle.lu_txn.specs.declared.index.Index.{Index}
use Rattle.lu_txn.specs.declared.index.Bucket.{Bucket}
use Rattle.lu_txn.specs.declared.index.Bucket.TheVariants as bucket
use Rattle.lu_txn.specs.contracts.index.BucketEq.TheImpl.Laws.{laws-law}
use Rattle.lu_txn.specs.declared.logs.Logged.{Logged}
use Rattle.std.specs.Cmp.{IsEquivalence}
use Rattle.std.specs.Map.{lookup}
use Rattle.std.specs.Option.{unwrap_or}
use Rattle.lu_txn.specs.Buckets.{same_bucket, holds, filing, lookups}
use Rattle.lu_txn.specs.Logs.{number, meets_written, is_seen, seen_here, seen_at, seen_by}
use Rattle.lu_part.specs.Places.{has}
use Rattle.lu_txn.specs.Indexes.{places_of, files, Grows, Keeps, gathered, IsIndexed}

-- the buckets as keys
laws : IsEquivalence same_bucket
laws = laws-law

same_self : (b : Bucket) → same_bucket b b ≡ true
same_self b = laws.refl b

abbrev pub Filed : Type 0
Filed = List (Bucket × List ℕ)

abbrev pub there : Bucket → Filed → List ℕ
there b filed = unwrap_or (lookup (same_bucket b) filed) []

found_same : (a b : Bucket) → same_bucket a b ≡ true → (filed : Filed) → lookup (same_bucket a) filed ≡ lookup (same_bucket b) filed
found_same a b e [] = refl
found_same a b e (entry ∷ filed) = rw (laws.congr a b entry.0 e, found_same a b e filed) refl

-- once the places of a bucket are written anew
pub entry_grows : (a b : Bucket) (new : List ℕ) (n : ℕ) (filed : Filed) → ((m : ℕ) → has (there a filed) m ≡ true → has new m ≡ true)
    → has (there b filed) n ≡ true → has (unwrap_or (cond (same_bucket a b) (Some new) (lookup (same_bucket b) filed)) []) n ≡ true
entry_grows a b new n filed keep h = by (same_bucket a b) refl where
  by : (same : Bool) → same_bucket a b ≡ same → has (unwrap_or (cond same (Some new) (lookup (same_bucket b) filed)) []) n ≡ true
  by true same = keep n (rw (found_same a b same filed) h)
  by false same = h

pub entry_files : (a b : Bucket) (new : List ℕ) (n : ℕ) (filed : Filed) → has new n ≡ true → same_bucket a b ≡ true
    → has (unwrap_or (cond (same_bucket a b) (Some new) (lookup (same_bucket b) filed)) []) n ≡ true
entry_files a b new n filed h same = rw same h

-- a part is filed in a bucket under which it stands by itself, or one before it does
pub or_cases : (P : Type 0) (a b : Bool) → (a || b) ≡ true → (a ≡ true → P) → (b ≡ true → P) → P
or_cases P true b e one two = one refl
or_cases P false b e one two = two e

-- it is one of these
abbrev IsIn : Bucket → List Bucket → Type 0
IsIn b [] = ⊥
IsIn b (first ∷ buckets) = (first ≡ b) ⊎ IsIn b buckets

has_of : (f : Bucket → List ℕ) (buckets : List Bucket) (b : Bucket) (n : ℕ) → IsIn b buckets → has (f b) n ≡ true
    → has (flat_map f buckets) n ≡ true
has_of f [] b n within found = absurd within
has_of f (first ∷ buckets) b n (inl same) found = has_left (f first) (flat_map f buckets) n
    (subst (λ k. has (f k) n ≡ true) (sym same) found)
has_of f (first ∷ buckets) b n (inr rest) found = has_right (f first) (flat_map f buckets) n (has_of f buckets b n rest found)

-- two parts that meet have a bucket in common
abbrev Common : Part → Part → Type 0
Common touched written = (b : Bucket) × IsIn b (lookups touched) × (holds (filing written) b ≡ true)

holds_first : (b : Bucket) (buckets : List Bucket) → holds (b ∷ buckets) b ≡ true
holds_first b buckets = rw (same_self b) refl

holds_second : (a b : Bucket) (buckets : List Bucket) → holds (a ∷ b ∷ buckets) b ≡ true
holds_second a b buckets = rw (same_self b) (or_true (same_bucket a b))

common : (touched written : Part) → Meets touched written → Common touched written
common (Name d n) (Name e m) h =
    subst (λ f. Common (Name d n) (Name f m)) h.0 (subst (λ k. Common (Name d n) (Name d k)) h.1
    (bucket.Name d n, inl refl, holds_first (bucket.Name d n) (bucket.Inside d ∷ [])))
common (Name d n) (Names e) h = subst (λ f. Common (Name d n) (Names f)) h
    (bucket.List d, inr (inl refl), holds_first (bucket.List d) (bucket.Inside d ∷ []))
common (Names d) (Name e m) h = subst (λ f. Common (Names d) (Name f m)) h
    (bucket.Inside d, inl refl, holds_second (bucket.Name d m) (bucket.Inside d) [])
common (Names d) (Names e) h = subst (λ f. Common (Names d) (Names f)) h
    (bucket.Inside d, inl refl, holds_second (bucket.List d) (bucket.Inside d) [])
common (Attr f) (Attr g) h = subst (λ k. Common (Attr f) (Attr k)) h (bucket.Attr f, inl refl, holds_first (bucket.Attr f) [])
common (Layout f) (Layout g) h = subst (λ k. Common (Layout f) (Layout k)) h (bucket.Layout f, inl refl, holds_first (bucket.Layout f) [])
common (Parent f) (Parent g) h = subst (λ k. Common (Parent f) (Parent k)) h (bucket.Parent f, inl refl, holds_first (bucket.Parent f) [])
common (Bytes f s range) (Bytes g t other) h =
    subst (λ k. Common (Bytes f s range) (Bytes k t other)) h.0
    (subst (λ u. Common (Bytes f s range) (Bytes f u other)) h.1 (bucket.Bytes f s, inl refl, holds_first (bucket.Bytes f s) []))
common _ _ h = absurd h

-- a part that meets something written is looked up in a bucket in which that is filed
abbrev FiledIn : Part → List Part → Type 0
FiledIn touched writes = (b : Bucket) × IsIn b (lookups touched) × (files writes b ≡ true)

filed_common : (touched : Part) (writes : List Part) → meets_written writes touched ≡ true → FiledIn touched writes
filed_common touched [] h = absurd (cc)
filed_common touched (written ∷ writes) h = by (meets touched written) refl h (filed_common touched writes) where
  by : (here : Bool) → meets touched written ≡ here → (here || meets_written writes touched) ≡ true
      → (meets_written writes touched ≡ true → FiledIn touched writes) → FiledIn touched (written ∷ writes)
  by true e h rest = let both = common touched written ((meets_rule touched written).0 e) in (both.0, both.1, rw both.2 refl)
  by false e h rest = let both = rest h in (both.0, both.1, rw both.2 (or_true (holds (filing written) both.0)))

-- what was seen is found
pub found : (index : Index) (touched : List Part) (writes : List Part) (place : ℕ)
    → ((b : Bucket) → files writes b ≡ true → has (places_of index b) place ≡ true) → list_any (λ part. meets_written writes part) touched
    ≡ true → has (gathered index touched) place ≡ true
found index [] writes place filed h = absurd (cc)
found index (part ∷ touched) writes place filed h = by (meets_written writes part) refl h (found index touched writes place filed) where
  by : (here : Bool) → meets_written writes part ≡ here → (here || list_any (λ part. meets_written writes part) touched) ≡ true
      → (list_any (λ part. meets_written writes part) touched ≡ true → has (gathered index touched) place ≡ true)
      → has (flat_map (places_of index) (lookups part) ++ gathered index touched) place ≡ true
  by true e h rest =
      let both = filed_common part writes e in
      has_left (flat_map (places_of index) (lookups part)) (gathered index touched) place
      (has_of (places_of index) (lookups part) both.0 place both.1 (filed both.0 both.2))
  by false e h rest = has_right (flat_map (places_of index) (lookups part)) (gathered index touched) place (rest h)

-- the number at a place of a list, where it is seen
abbrev at_place : List Part → List Logged → ℕ → Option ℕ
at_place touched all place = seen_here touched (slice_get all place)

-- places past the last transaction give none
none_past : (touched : List Part) (all : List Logged) (from : ℕ) (places : List ℕ) → length all ≤ from → Rise from places
    → filter_map (at_place touched all) places ≡ []
none_past touched all from [] past rise = refl
none_past touched all from (place ∷ places) past rise =
    let none : slice_get all place ≡ None = slice_get_past all place (omega (arith, rise.0)) in
    rw none (none_past touched all (place + 1) places (omega (arith, rise.0)) rise.1)

-- all that is seen from a place on is among these
abbrev Complete : List Part → List Logged → ℕ → List ℕ → Type 0
Complete touched all from places =
    (place : ℕ) (d : Logged) → from ≤ place → place < length all → is_seen touched (get_or all place d) ≡ true → has places place ≡ true

stands : (all : List Logged) (from : ℕ) (first : Logged) → from < length all → get_or all from first ≡ first → slice_get all from
    ≡ Some first
stands all from first within at = grind (arith, common_steps, gets)

-- From rising places that have all that is seen, exactly what is seen is taken.
pick : (touched : List Part) (all rest : List Logged) (from : ℕ) (places : List ℕ) → drop from all ≡ rest → Rise from places
    → Complete touched all from places → filter_map (at_place touched all) places ≡ seen_by touched rest
pick touched all [] from places dropped rise complete =
    let count : length all - from ≡ 0 = sym (length-drop from all) ∙ ap length dropped in
    none_past touched all from places (omega arith) rise
pick touched all (first ∷ rest) from places dropped rise complete =
    by places rise complete (λ cs. pick touched all rest (suc from) cs later) where
      count : length all - from ≡ suc (length rest)
      count = sym (length-drop from all) ∙ ap length dropped

      within : from < length all
      within = let c : length all - from ≡ suc (length rest) = count in omega arith

      opened : first ∷ rest ≡ get_or all from first ∷ drop (suc from) all
      opened = sym dropped ∙ drop-cons all from first within

      later : drop (suc from) all ≡ rest
      later = let o : first ∷ rest ≡ get_or all from first ∷ drop (suc from) all = opened in cc

      at : get_or all from first ≡ first
      at = let o : first ∷ rest ≡ get_or all from first ∷ drop (suc from) all = opened in cc

      here : slice_get all from ≡ Some first
      here = stands all from first within at

      unseen : (seen : Bool) → is_seen touched first ≡ seen → (places : List ℕ) → Complete touched all from places → has places from ≡ false
          → seen ≡ false
      unseen true e places complete none =
          let here : is_seen touched (get_or all from first) ≡ true = rw at e in
          let some : has places from ≡ true = complete from first (omega arith) within here in absurd (cc)
      unseen false e places complete none = refl

      passed_over : is_seen touched first ≡ false → seen_by touched rest ≡ seen_by touched (first ∷ rest)
      passed_over e = rw e refl

      taken : (seen : Bool) (numbers : List ℕ) → numbers ≡ seen_by touched rest → cons_option (cond seen (Some (number first)) None) numbers
          ≡ map number (cond seen (first ∷ filter (is_seen touched) rest) (filter (is_seen touched) rest))
      taken true numbers e = ap (λ ns. number first ∷ ns) e
      taken false numbers e = e

      after : (place p : ℕ) (places : List ℕ) → place < p → has (place ∷ places) p ≡ true → has places p ≡ true
      after place p places less h = let other : (place == p) ≡ false = grind (arith, nat_tests) in rw other at h

      split : (place : ℕ) (places : List ℕ) (same : Bool) → (place == from) ≡ same → Rise from (place ∷ places)
          → Complete touched all from (place ∷ places) → ((cs : List ℕ) → Rise (suc from) cs → Complete touched all (suc from) cs
          → filter_map (at_place touched all) cs ≡ seen_by touched rest) → filter_map (at_place touched all) (place ∷ places)
          ≡ seen_by touched (first ∷ rest)
      split place places true e rise complete next =
          let same : place ≡ from = eqb-true place from e in
          let tail : filter_map (at_place touched all) places ≡ seen_by touched rest =
          next places (rise_lower (suc from) (place + 1) places (omega arith) rise.1)
          (λ p d above below seen. after place p places (omega arith) (complete p d (omega arith) below seen)) in
          let found : slice_get all place ≡ Some first = rw same here in
          rw found (taken (is_seen touched first) (filter_map (at_place touched all) places) tail)
      split place places false e rise complete next =
          let past : suc from ≤ place = grind (arith, nat_tests, rise.0) in
          let none : has (place ∷ places) from ≡ false = not_before (suc from) from (place ∷ places) (omega arith) (past, rise.1) in
          next (place ∷ places) (past, rise.1) (λ p d above below seen. complete p d (omega arith) below seen)
          ∙ passed_over (unseen (is_seen touched first) refl (place ∷ places) complete none)

      by : (places : List ℕ) → Rise from places → Complete touched all from places
          → ((cs : List ℕ) → Rise (suc from) cs → Complete touched all (suc from) cs → filter_map (at_place touched all) cs
          ≡ seen_by touched rest) → filter_map (at_place touched all) places ≡ seen_by touched (first ∷ rest)
      by [] rise complete next = next [] tt (λ p d above below seen. complete p d (omega arith) below seen)
          ∙ passed_over (unseen (is_seen touched first) refl [] complete refl)
      by (place ∷ places) rise complete next = split place places (place == from) refl rise complete next

-- places counted from the first transaction
abbrev from_first : ℕ → ℕ → Option ℕ
from_first first place = cond (nat_lt place first) None (Some (place - first))

abbrev counted : ℕ → List ℕ → List ℕ
counted first places = filter_map (from_first first) places

seen_counted : (touched : List Part) (all : List Logged) (first : ℕ) (places : List ℕ) → filter_map (seen_at touched first all) places
    ≡ filter_map (at_place touched all) (counted first places)
seen_counted touched all first [] = refl
seen_counted touched all first (place ∷ places) = by (nat_lt place first) (seen_counted touched all first places) where
  by : (before : Bool) → filter_map (seen_at touched first all) places ≡ filter_map (at_place touched all) (counted first places)
      → cons_option (cond before None (at_place touched all (place - first))) (filter_map (seen_at touched first all) places)
      ≡ filter_map (at_place touched all) (cons_option (cond before None (Some (place - first))) (counted first places))
  by true rest = rest
  by false rest = ap (cons_option (at_place touched all (place - first))) rest

rise_counted : (first from : ℕ) (places : List ℕ) → Rise from places → Rise (from - first) (counted first places)
rise_counted first from [] rise = tt
rise_counted first from (place ∷ places) rise = by (nat_lt place first) refl (rise_counted first (place + 1) places rise.1) where
  by : (before : Bool) → nat_lt place first ≡ before → Rise (place + 1 - first) (counted first places)
      → Rise (from - first) (cons_option (cond before None (Some (place - first))) (counted first places))
  by true e rest = rise_lower (from - first) (place + 1 - first) (counted first places) (omega (arith, rise.0)) rest
  by false e rest = let past : first ≤ place = grind (arith, nat_tests)
      in (omega (arith, rise.0), rise_lower (place - first + 1) (place + 1 - first) (counted first places) (omega arith) rest)

has_counted : (first k : ℕ) (places : List ℕ) → has places (first + k) ≡ true → has (counted first places) k ≡ true
has_counted first k [] h = absurd (cc)
has_counted first k (place ∷ places) h = by (nat_lt place first) (place == first + k) refl refl h (has_counted first k places) where
  by : (before same : Bool) → nat_lt place first ≡ before → (place == first + k) ≡ same → (same || has places (first + k)) ≡ true
      → (has places (first + k) ≡ true → has (counted first places) k ≡ true)
      → has (cons_option (cond before None (Some (place - first))) (counted first places)) k ≡ true
  by true true e f h rest = absurd (grind (arith, nat_tests))
  by true false e f h rest = rest h
  by false true e f h rest = let same : (place - first == k) ≡ true = grind (arith, nat_tests) in rw same refl
  by false false e f h rest = rw (rest h) (or_true (place - first == k))

-- the same for the candidates of an index
pub seen_found : (index : Index) (touched : List Part) (first : ℕ) (transactions : List Logged) (places : List ℕ)
    → IsIndexed first index transactions → IsStrictlyIncreasing places
    → ((place : ℕ) → has (gathered index touched) place ≡ true → has places place ≡ true)
    → filter_map (seen_at touched first transactions) places ≡ seen_by touched transactions
seen_found index touched first transactions places indexed increasing all =
    seen_counted touched transactions first places
    ∙ pick touched transactions transactions 0 (counted first places) refl
    (rise_lower 0 (0 - first) (counted first places) (omega arith)
    (rise_counted first 0 places (rises 0 places (λ some. omega arith) increasing)))
    (λ k d above below seen. has_counted first k places (all (first + k)
    (found index touched (get_or transactions k d).writes (first + k) (λ b. indexed k b d below) seen)))

-- one more transaction is filed
pub indexed_appended : (first : ℕ) (old new : Index) (transactions : List Logged) (logged : Logged) → IsIndexed first old transactions
    → Grows old new → ((b : Bucket) → files logged.writes b ≡ true → has (places_of new b) (first + length transactions) ≡ true)
    → IsIndexed first new (transactions ++ logged ∷ [])
indexed_appended first old new transactions logged indexed grows filed =
    λ k b d within. by k b d within (cases_lt k (length transactions)) where
      by : (k : ℕ) (b : Bucket) (d : Logged) → k < length (transactions ++ logged ∷ []) → (k < length transactions) ⊎ (length transactions ≤ k)
          → files (get_or (transactions ++ logged ∷ []) k d).writes b ≡ true → has (places_of new b) (first + k) ≡ true
      by k b d within (inl below) h = grows b (first + k) (indexed k b d below (rw (get_or-append transactions (logged ∷ []) d k below) at h))
      by k b d within (inr past) h =
          let count : length (transactions ++ logged ∷ []) ≡ length transactions + 1 = length_push transactions logged in
          let last : length transactions ≡ k = omega arith in
          subst (λ p. has (places_of new b) (first + p) ≡ true) last (filed b (rw (get_or_push transactions logged d k last) at h))

pub indexed_grown : (first : ℕ) (old new : Index) (transactions : List Logged) → IsIndexed first old transactions → Grows old new
    → IsIndexed first new transactions
indexed_grown first old new transactions indexed grows = λ k b d within h. grows b (first + k) (indexed k b d within h)

-- the first transaction is taken out
pub indexed_dropped : (first : ℕ) (old new : Index) (logged : Logged) (transactions : List Logged)
    → IsIndexed first old (logged ∷ transactions) → Keeps first old new → IsIndexed (first + 1) new transactions
indexed_dropped first old new logged transactions indexed keeps = λ k b d within h.
    let next : first + suc k ≡ first + 1 + k = omega arith in
    subst (λ p. has (places_of new b) p ≡ true) next (keeps b (first + suc k) (omega arith) (indexed (suc k) b d (omega arith) h))
