-- What an index finds: sorted places each once, and a bucket for each two parts that meet.
use Rattle.std.proofs.Common.{◌⊎◌, inl, inr, ◌≡◌, ℕ, suc, ◌+◌, ◌<◌, ◌≤◌, ◌==◌, ◌||◌, ◌&&◌, Bool, true, false, cond, List, [], ◌∷◌, ◌++◌}
use Rattle.std.proofs.Common.{length, get_or, refl, sym, ap, ◌∙◌, subst, arith, ◌-◌, length-drop}
use Rattle.std.specs.Prelude.{nat_lt, slice_get, Some, None, map, filter, drop}
use Rattle.std.specs.List.{list_any, flat_map, filter_map, cons_option}
use Rattle.std.proofs.lemmas.Grind.{common_steps}
use Rattle.std.proofs.lemmas.Bool.Decides.{nat_tests}
use Rattle.std.proofs.lemmas.Bool.{eqb-true}
use Rattle.std.proofs.lemmas.Option.{slice_get_past, gets}
use Rattle.std.proofs.lemmas.Bool.{cases_lt}
use Rattle.std.proofs.Math.Seq.{drop-cons}
use Rattle.std.proofs.Math.ListN.{get_or-append}
use Rattle.std.proofs.lemmas.List.{get_or_push, length_push}
use Rattle.std.specs.List.Sorted.{IsStrictlyIncreasing}
use Rattle.lu_part.specs.declared.parts.Part.{Part}
use Rattle.lu_part.specs.declared.parts.Part.TheVariants.{Name, List as Names, Attr, Layout, Parent, Bytes}
use Rattle.lu_part.specs.Meets.{meets, Meets}
use Rattle.lu_part.proofs.PartLaws.{meets_rule, meets_symmetric}
use Rattle.lu_part.proofs.Places.{has_first, has_second, has_left, has_right, or_true, Rise, rise_lower, rises, not_before}
use Rattle.lu_judge_names.specs.declared.index.Index.{Index}
use Rattle.lu_judge_names.specs.declared.index.Kind.TheVariants as kind
use Rattle.lu_judge_names.specs.declared.logs.Written.{Written}
use Rattle.lu_judge_names.specs.Buckets.{bucket, filing, lookups}
use Rattle.lu_judge_names.specs.Logs.{number, meet, is_seen, seen_at, seen_by}
use Rattle.lu_part.specs.Places.{has}
use Rattle.lu_judge_names.specs.Indexes.{places_of, files, Grows, gathered, IsIndexed}

has_of : (f : ℕ → List ℕ) (numbers : List ℕ) (b n : ℕ) → has numbers b ≡ true → has (f b) n ≡ true → has (flat_map f numbers) n ≡ true
has_of f [] b n h found = absurd (cc)
has_of f (m ∷ numbers) b n h found = by (m == b) refl h (λ rest. has_of f numbers b n rest found) where
  by : (here : Bool) → (m == b) ≡ here → (here || has numbers b) ≡ true → (has numbers b ≡ true → has (flat_map f numbers) n ≡ true)
      → has (f m ++ flat_map f numbers) n ≡ true
  by true e h rest = has_left (f m) (flat_map f numbers) n (rw (eqb-true m b e) found)
  by false e h rest = has_right (f m) (flat_map f numbers) n (rest h)

-- two parts that meet have a bucket in common
abbrev Common : Part → Part → Type 0
Common touched written = (b : ℕ) × (has (lookups touched) b ≡ true) × (has (filing written) b ≡ true)

alone : (b : ℕ) → has (b ∷ []) b ≡ true
alone b = has_first b []

common : (touched written : Part) → Meets touched written → Common touched written
common (Name d n) (Name e m) h =
    let b = bucket kind.Name d n in
    subst (λ f. Common (Name d n) (Name f m)) h.0 (subst (λ k. Common (Name d n) (Name d k)) h.1
    (b, has_first b (bucket kind.List d [] ∷ []), has_first b (bucket kind.Inside d [] ∷ [])))
common (Name d n) (Names e) h =
    let b = bucket kind.List d [] in
    subst (λ f. Common (Name d n) (Names f)) h (b, has_second (bucket kind.Name d n) b [], has_first b (bucket kind.Inside d [] ∷ []))
common (Names d) (Name e m) h =
    let b = bucket kind.Inside d [] in
    subst (λ f. Common (Names d) (Name f m)) h (b, alone b, has_second (bucket kind.Name d m) b [])
common (Names d) (Names e) h =
    let b = bucket kind.Inside d [] in
    subst (λ f. Common (Names d) (Names f)) h (b, alone b, has_second (bucket kind.List d []) b [])
common (Attr f) (Attr g) h =
    let b = bucket kind.Attr f [] in subst (λ k. Common (Attr f) (Attr k)) h (b, alone b, alone b)
common (Layout f) (Layout g) h =
    let b = bucket kind.Layout f [] in subst (λ k. Common (Layout f) (Layout k)) h (b, alone b, alone b)
common (Parent f) (Parent g) h =
    let b = bucket kind.Parent f [] in subst (λ k. Common (Parent f) (Parent k)) h (b, alone b, alone b)
common (Bytes f s range) (Bytes g t other) h =
    let b = bucket kind.Bytes f [] in subst (λ k. Common (Bytes f s range) (Bytes k t other)) h.0 (b, alone b, alone b)
common _ _ h = absurd h

-- a part that meets something written is looked up in a bucket in which that is filed
filed_common : (touched : Part) (writes : List Part) → list_any (λ w. meets w touched) writes ≡ true → (b : ℕ)
    × (has (lookups touched) b ≡ true) × (files writes b ≡ true)
filed_common touched [] h = absurd (cc)
filed_common touched (written ∷ writes) h = by (meets written touched) refl h (filed_common touched writes) where
  by : (here : Bool) → meets written touched ≡ here → (here || list_any (λ w. meets w touched) writes) ≡ true
      → (list_any (λ w. meets w touched) writes ≡ true → (b : ℕ) × (has (lookups touched) b ≡ true) × (files writes b ≡ true)) → (b : ℕ)
      × (has (lookups touched) b ≡ true) × (files (written ∷ writes) b ≡ true)
  by true e h rest = let both = common touched written ((meets_rule touched written).0 (meets_symmetric touched written ∙ e))
      in (both.0, both.1, rw both.2 refl)
  by false e h rest = let both = rest h in (both.0, both.1, rw both.2 (or_true (has (filing written) both.0)))

-- what was seen is found
pub found : (index : Index) (touched : List Part) (writes : List Part) (place : ℕ)
    → ((b : ℕ) → files writes b ≡ true → has (places_of index b) place ≡ true)
    → list_any (λ part. list_any (λ w. meets w part) writes) touched ≡ true → has (gathered index touched) place ≡ true
found index [] writes place filed h = absurd (cc)
found index (part ∷ touched) writes place filed h = by (list_any (λ w. meets w part) writes) refl h
    (found index touched writes place filed) where
      by : (here : Bool) → list_any (λ w. meets w part) writes ≡ here → (here || list_any (λ part. list_any (λ w. meets w part) writes) touched)
          ≡ true → (list_any (λ part. list_any (λ w. meets w part) writes) touched ≡ true → has (gathered index touched) place ≡ true)
          → has (flat_map (places_of index) (lookups part) ++ gathered index touched) place ≡ true
      by true e h rest =
          let both = filed_common part writes e in
          has_left (flat_map (places_of index) (lookups part)) (gathered index touched) place
          (has_of (places_of index) (lookups part) both.0 place both.1 (filed both.0 both.2))
      by false e h rest = has_right (flat_map (places_of index) (lookups part)) (gathered index touched) place (rest h)

abbrev taken_of : (Written → Bool) → List Written → List ℕ
taken_of test all = map number (filter test all)

both : (a b : Bool) → (a && b) ≡ true → (a ≡ true) × (b ≡ true)
both true b h = (refl, h)
both false b h = cc

-- places past the last transaction give none
none_past : (test : Written → Bool) (all : List Written) (from : ℕ) (places : List ℕ) → length all ≤ from → Rise from places
    → filter_map (seen_at test all) places ≡ []
none_past test all from [] past rise = refl
none_past test all from (place ∷ places) past rise =
    let none : slice_get all place ≡ None = slice_get_past all place (omega (arith, rise.0)) in
    rw none (none_past test all (place + 1) places (omega (arith, rise.0)) rise.1)

-- all that is seen from a place on is among these
abbrev Complete : (Written → Bool) → List Written → ℕ → List ℕ → Type 0
Complete test all from places =
    (place : ℕ) (d : Written) → from ≤ place → place < length all → test (get_or all place d) ≡ true → has places place ≡ true

there : (all : List Written) (from : ℕ) (first : Written) → from < length all → get_or all from first ≡ first → slice_get all from
    ≡ Some first
there all from first within at = grind (arith, common_steps, gets)

-- From rising places that have all that is seen, exactly what is seen is taken.
pick : (test : Written → Bool) (all rest : List Written) (from : ℕ) (places : List ℕ) → drop from all ≡ rest → Rise from places
    → Complete test all from places → filter_map (seen_at test all) places ≡ taken_of test rest
pick test all [] from places dropped rise complete =
    let count : length all - from ≡ 0 = sym (length-drop from all) ∙ ap length dropped in
    none_past test all from places (omega arith) rise
pick test all (first ∷ rest) from places dropped rise complete =
    by places rise complete (λ cs. pick test all rest (suc from) cs later) where
      count : length all - from ≡ suc (length rest)
      count = sym (length-drop from all) ∙ ap length dropped

      within : from < length all
      within = let c : length all - from ≡ suc (length rest) = count in omega arith

      opened : first ∷ rest ≡ get_or all from first ∷ drop (suc from) all
      opened = sym dropped ∙ drop-cons all from first within

      later : drop (suc from) all ≡ rest
      later = let o : first ∷ rest ≡ get_or all from first ∷ drop (suc from) all = opened in cc

      at : get_or all from first ≡ first
      at = let o : first ∷ rest ≡ get_or all from first ∷ drop (suc from) all = opened in cc

      here : slice_get all from ≡ Some first
      here = there all from first within at

      unseen : (seen : Bool) → test first ≡ seen → (places : List ℕ) → Complete test all from places → has places from ≡ false → seen
          ≡ false
      unseen true e places complete none =
          let here : test (get_or all from first) ≡ true = rw at e in
          let some : has places from ≡ true = complete from first (omega arith) within here in absurd (cc)
      unseen false e places complete none = refl

      passed_over : test first ≡ false → taken_of test rest ≡ taken_of test (first ∷ rest)
      passed_over e = rw e refl

      taken : (seen : Bool) (numbers : List ℕ) → numbers ≡ taken_of test rest → cons_option (cond seen (Some (number first)) None) numbers
          ≡ map number (cond seen (first ∷ filter (test) rest) (filter (test) rest))
      taken true numbers e = ap (λ ns. number first ∷ ns) e
      taken false numbers e = e

      after : (place p : ℕ) (places : List ℕ) → place < p → has (place ∷ places) p ≡ true → has places p ≡ true
      after place p places less h = let other : (place == p) ≡ false = grind (arith, nat_tests) in rw other at h

      split : (place : ℕ) (places : List ℕ) (same : Bool) → (place == from) ≡ same → Rise from (place ∷ places)
          → Complete test all from (place ∷ places) → ((cs : List ℕ) → Rise (suc from) cs → Complete test all (suc from) cs
          → filter_map (seen_at test all) cs ≡ taken_of test rest) → filter_map (seen_at test all) (place ∷ places)
          ≡ taken_of test (first ∷ rest)
      split place places true e rise complete next =
          let same : place ≡ from = eqb-true place from e in
          let tail : filter_map (seen_at test all) places ≡ taken_of test rest =
          next places (rise_lower (suc from) (place + 1) places (omega arith) rise.1)
          (λ p d above below seen. after place p places (omega arith) (complete p d (omega arith) below seen)) in
          let found : slice_get all place ≡ Some first = rw same here in
          rw found (taken (test first) (filter_map (seen_at test all) places) tail)
      split place places false e rise complete next =
          let past : suc from ≤ place = grind (arith, nat_tests, rise.0) in
          let none : has (place ∷ places) from ≡ false = not_before (suc from) from (place ∷ places) (omega arith) (past, rise.1) in
          next (place ∷ places) (past, rise.1) (λ p d above below seen. complete p d (omega arith) below seen)
          ∙ passed_over (unseen (test first) refl (place ∷ places) complete none)

      by : (places : List ℕ) → Rise from places → Complete test all from places
          → ((cs : List ℕ) → Rise (suc from) cs → Complete test all (suc from) cs → filter_map (seen_at test all) cs ≡ taken_of test rest)
          → filter_map (seen_at test all) places ≡ taken_of test (first ∷ rest)
      by [] rise complete next = next [] tt (λ p d above below seen. complete p d (omega arith) below seen)
          ∙ passed_over (unseen (test first) refl [] complete refl)
      by (place ∷ places) rise complete next = split place places (place == from) refl rise complete next

-- the same for the candidates of an index
met : (above : ℕ) (touched : List Part) (w : Written) → is_seen above touched w ≡ true → meet w.writes touched ≡ true
met above touched w seen = (both (nat_lt above w.number) (meet w.writes touched) seen).1

pub seen_found : (index : Index) (above : ℕ) (touched : List Part) (all : List Written) (places : List ℕ) → IsIndexed index all
    → IsStrictlyIncreasing places → ((place : ℕ) → has (gathered index touched) place ≡ true → has places place ≡ true)
    → filter_map (seen_at (is_seen above touched) all) places ≡ seen_by above touched all
seen_found index above touched all places indexed increasing complete =
    pick (is_seen above touched) all all 0 places refl (rises 0 places (λ some. omega arith) increasing)
    (λ place d from below seen. complete place (found index touched (get_or all place d).writes place (λ b. indexed place b d below)
    (met above touched (get_or all place d) seen)))

-- one more transaction is filed
pub indexed_appended : (old new : Index) (transactions : List Written) (wrote : Written) → IsIndexed old transactions → Grows old new
    → ((b : ℕ) → files wrote.writes b ≡ true → has (places_of new b) (length transactions) ≡ true)
    → IsIndexed new (transactions ++ wrote ∷ [])
indexed_appended old new transactions wrote indexed grows filed =
    λ place b d within. by place b d within (cases_lt place (length transactions)) where
      by : (place b : ℕ) (d : Written) → place < length (transactions ++ wrote ∷ []) → (place < length transactions)
          ⊎ (length transactions ≤ place) → files (get_or (transactions ++ wrote ∷ []) place d).writes b ≡ true → has (places_of new b) place
          ≡ true
      by place b d within (inl below) h = grows b place (indexed place b d below
          (rw (get_or-append transactions (wrote ∷ []) d place below) at h))
      by place b d within (inr past) h =
          let count : length (transactions ++ wrote ∷ []) ≡ length transactions + 1 = length_push transactions wrote in
          let last : length transactions ≡ place = omega arith in
          subst (λ p. has (places_of new b) p ≡ true) last (filed b (rw (get_or_push transactions wrote d place last) at h))

pub indexed_grown : (old new : Index) (transactions : List Written) → IsIndexed old transactions → Grows old new
    → IsIndexed new transactions
indexed_grown old new transactions indexed grows = λ place b d within h. grows b place (indexed place b d within h)
