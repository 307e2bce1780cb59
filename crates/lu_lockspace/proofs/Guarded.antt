-- The locks that meet the guards of some parts are those of the guards' resources that do.
use Rattle.std.proofs.Common.{◌≡◌, ℕ, ◌+◌, ◌<◌, length, take, drop, get_or, ◌&&◌, ◌||◌, Bool, true, false, not, cond, List, [], ◌∷◌, ◌++◌}
use Rattle.std.proofs.Common.{map, filter, refl, sym, ◌∙◌, ap, subst, arith, IsPermutation}
use Rattle.std.specs.List.{list_any, AllByRecursion}
use Rattle.std.specs.Map.{keys_of}
use Rattle.std.specs.declared.cmp.Ordering.TheVariants.{Less}
use Rattle.std.proofs.lemmas.Bool.Decides.{nat_tests}
use Rattle.std.proofs.lemmas.List.{map-append, append_assoc, take_more}
use Rattle.std.proofs.lemmas.List.Folds.{list_any-append}
use Rattle.std.proofs.lemmas.List.Sorted.{IsPermutation-refl, IsPermutation-trans, IsPermutation-append_right, IsPermutation-map}
use Rattle.std.proofs.lemmas.List.Sorted.{IsPermutation-filter_both}
use Rattle.std.proofs.lemmas.Map.Keys.{sorted_head, sorted_tail}
use Rattle.lu_base.specs.declared.ids.Cookie.{Cookie}
use Rattle.lu_base.specs.declared.ids.Who.{Who}
use Rattle.lu_base.specs.declared.locks.Lock.{Lock}
use Rattle.lu_base.specs.declared.locks.Resource.{Resource}
use Rattle.lu_part.specs.declared.parts.Part.{Part}
use Rattle.lu_part.specs.Guards.{guard}
use Rattle.lu_lock.specs.Conflict.{conflict}
use Rattle.lu_queue.specs.declared.locks.Grant.{Grant}
use Rattle.lu_queue.proofs.Lists.{or_false}
use Rattle.lu_base.specs.declared.locks.Mode.TheVariants.{EX}
use Rattle.lu_lockspace.specs.Spaces.{same_resource, grant_of, grants_on, lock_on, is_guarded}
use Rattle.lu_lockspace.specs.Entries.{Entries, order, at, locks_of, changed, AreRising}
use Rattle.lu_lockspace.specs.Guarded.{is_listed, AreApart, AreGuards, guarded_on, guarded_on_all, of_life_on, of_life_on_all}
use Rattle.lu_queue.specs.Queues.{QueueState, same_who, is_of, has_of}
use Rattle.lu_lockspace.proofs.Resources.{same_itself, same_is, same_turned, part_on, at_here, at_next}
use Rattle.lu_lockspace.proofs.Kept.{lower_differs}
use Rattle.lu_lockspace.proofs.Notes.{life_turned}
use Rattle.lu_lockspace.proofs.Lists.{rest_at}

abbrev on : Resource → Lock → Bool
on r lock = same_resource lock.resource r

abbrev Listed : List Resource → List Lock → Type 0
Listed rs locks = AllByRecursion (λ lock. is_listed lock.resource rs ≡ true) locks

-- the locks, resource by resource
abbrev by_resource : List Resource → List Lock → List Lock
by_resource [] locks = []
by_resource (r ∷ rs) locks = filter (on r) locks ++ by_resource rs locks

others_listed : (r : Resource) (rs : List Resource) (locks : List Lock) → Listed (r ∷ rs) locks
    → Listed rs (filter (λ lock. not (on r lock)) locks)
others_listed r rs [] h = tt
others_listed r rs (x ∷ locks) h = by (on r x) refl (others_listed r rs locks h.1) where
  by : (b : Bool) → on r x ≡ b → Listed rs (filter (λ lock. not (on r lock)) locks)
      → Listed rs (cond (not b) (x ∷ filter (λ lock. not (on r lock)) locks) (filter (λ lock. not (on r lock)) locks))
  by true e rest = rest
  by false e rest = (sym (ap (λ v. v || is_listed x.resource rs) e) ∙ h.0, rest)

-- those on a second resource are among those that aren't on the first
other_kept : (r s : Resource) → same_resource r s ≡ false → (locks : List Lock) → filter (on s) (filter (λ lock. not (on r lock)) locks)
    ≡ filter (on s) locks
other_kept r s differ [] = refl
other_kept r s differ (x ∷ locks) = by (on r x) refl (on s x) refl (other_kept r s differ locks) where
  others : List Lock
  others = filter (λ lock. not (on r lock)) locks

  by : (b : Bool) → on r x ≡ b → (v : Bool) → on s x ≡ v → filter (on s) others ≡ filter (on s) locks
      → filter (on s) (cond (not b) (x ∷ others) others) ≡ cond v (x ∷ filter (on s) locks) (filter (on s) locks)
  by true e true f rest = absurd (differs (sym (apart e f) ∙ differ)) where
    apart : on r x ≡ true → on s x ≡ true → same_resource r s ≡ true
    apart p q = grind (arith, nat_tests, p, q)

    differs : true ≡ false → ⊥
    differs p = cc
  by true e false f rest = rest
  by false e true f rest = ap (λ b. cond b (x ∷ filter (on s) others) (filter (on s) others)) f ∙ ap (λ ys. x ∷ ys) rest
  by false e false f rest = ap (λ b. cond b (x ∷ filter (on s) others) (filter (on s) others)) f ∙ rest

others_kept : (r : Resource) (rs : List Resource) → AllByRecursion (λ s. same_resource r s ≡ false) rs → (locks : List Lock)
    → by_resource rs (filter (λ lock. not (on r lock)) locks) ≡ by_resource rs locks
others_kept r [] apart locks = refl
others_kept r (s ∷ rs) apart locks = λ i. other_kept r s apart.0 locks i ++ others_kept r rs apart.1 locks i

none_listed : (locks : List Lock) → Listed [] locks → IsPermutation locks []
none_listed [] h = IsPermutation-refl []
none_listed (x ∷ locks) h = absurd (differs h.0) where
  differs : false ≡ true → ⊥
  differs p = cc

sorted_out : (rs : List Resource) → AreApart rs → (locks : List Lock) → Listed rs locks → IsPermutation locks (by_resource rs locks)
sorted_out [] distinct locks listed = none_listed locks listed
sorted_out (r ∷ rs) distinct locks listed =
    let others = filter (λ lock. not (on r lock)) locks in
    let rest : IsPermutation others (by_resource rs others) = sorted_out rs distinct.1 others (others_listed r rs locks listed) in
    let same : by_resource rs others ≡ by_resource rs locks = others_kept r rs distinct.0 locks in
    IsPermutation-trans locks (filter (on r) locks ++ others) (by_resource (r ∷ rs) locks)
    (IsPermutation-filter_both (on r) (λ lock. not (on r lock)) (λ x. refl) locks)
    (IsPermutation-append_right (filter (on r) locks) others (by_resource rs locks) (subst (IsPermutation others) same rest))

-- ---- those of one queue

passing_on : (test : Lock → Bool) (r : Resource) (locks : List Lock) →
    map (λ lock. lock.cookie) (filter (on r) (filter test locks))
    ≡ map (λ lock. lock.cookie) (filter (λ lock. test (lock_on r lock)) (grants_on r locks))
passing_on test r [] = refl
passing_on test r (x ∷ locks) = by (on r x) refl (test x) refl (passing_on test r locks) where
  cookies : List Lock → List Cookie
  cookies xs = map (λ lock. lock.cookie) xs

  grants : List Grant → List Cookie
  grants xs = map (λ lock. lock.cookie) (filter (λ lock. test (lock_on r lock)) xs)

  by : (b : Bool) → on r x ≡ b → (v : Bool) → test x ≡ v → cookies (filter (on r) (filter test locks)) ≡ grants (grants_on r locks) →
      cookies (filter (on r) (cond v (x ∷ filter test locks) (filter test locks)))
      ≡ grants (map grant_of (cond b (x ∷ filter (on r) locks) (filter (on r) locks)))
  by true e true t rest =
      let same : x.resource ≡ r = same_is x.resource r e in
      let here : test (lock_on r (grant_of x)) ≡ true = subst (λ k. test (lock_on k (grant_of x)) ≡ true) same t in
      ap (λ b. cookies (cond b (x ∷ filter (on r) (filter test locks)) (filter (on r) (filter test locks)))) e
      ∙ ap (λ cs. x.cookie ∷ cs) rest
      ∙ sym (ap (λ b. map (λ lock. lock.cookie) (cond b (grant_of x ∷ filter (λ lock. test (lock_on r lock)) (grants_on r locks))
      (filter (λ lock. test (lock_on r lock)) (grants_on r locks)))) here)
  by true e false t rest =
      let same : x.resource ≡ r = same_is x.resource r e in
      let here : test (lock_on r (grant_of x)) ≡ false = subst (λ k. test (lock_on k (grant_of x)) ≡ false) same t in
      rest ∙ sym (ap (λ b. map (λ lock. lock.cookie) (cond b (grant_of x ∷ filter (λ lock. test (lock_on r lock)) (grants_on r locks))
      (filter (λ lock. test (lock_on r lock)) (grants_on r locks)))) here)
  by false e true t rest = ap (λ b. cookies (cond b (x ∷ filter (on r) (filter test locks)) (filter (on r) (filter test locks)))) e ∙ rest
  by false e false t rest = rest

-- a lock that meets the guard of a part is on one of the resources
meets_one : (parts : List Part) (lock : Lock) → list_any (λ part. same_resource lock.resource (guard part).0) parts ≡ false
    → list_any (λ part. is_guarded part lock) parts ≡ false
meets_one [] lock none = refl
meets_one (part ∷ parts) lock none =
    let apart = or_false (same_resource lock.resource (guard part).0) (list_any (λ p. same_resource lock.resource (guard p).0) parts) none
    in
    let here : is_guarded part lock ≡ false = ap (λ b. b && conflict (record { who = lock.ask.who; mode = EX; policy = (guard part).1 })
    lock.ask) apart.0 in
    ap (λ b. b || list_any (λ p. is_guarded p lock) parts) here ∙ meets_one parts lock apart.1

guarded_listed : (parts : List Part) (rs : List Resource) → AreGuards parts rs → (lock : Lock)
    → list_any (λ part. is_guarded part lock) parts ≡ true → is_listed lock.resource rs ≡ true
guarded_listed parts rs guards lock h = by (is_listed lock.resource rs) refl where
  by : (b : Bool) → is_listed lock.resource rs ≡ b → b ≡ true
  by true e = refl
  by false e = sym (meets_one parts lock (guards.all lock.resource e)) ∙ h

all_listed : (test : Lock → Bool) (rs : List Resource) → ((lock : Lock) → test lock ≡ true → is_listed lock.resource rs ≡ true)
    → (locks : List Lock) → Listed rs (filter test locks)
all_listed test rs listed [] = tt
all_listed test rs listed (x ∷ locks) = by (test x) refl (all_listed test rs listed locks) where
  by : (b : Bool) → test x ≡ b → Listed rs (filter test locks) → Listed rs (cond b (x ∷ filter test locks) (filter test locks))
  by true e rest = (listed x e, rest)
  by false e rest = rest

on_all : (parts : List Part) (es : Entries) → AreRising es → (rs : List Resource) →
    map (λ lock. lock.cookie) (by_resource rs (filter (λ lock. list_any (λ part. is_guarded part lock) parts)
    (locks_of (λ all. all.granted) es))) ≡ guarded_on_all rs parts es
on_all parts es up [] = refl
on_all parts es up (r ∷ rs) =
    let locks = locks_of (λ all. all.granted) es in
    let test : Lock → Bool = λ lock. list_any (λ part. is_guarded part lock) parts in
    let one : map (λ lock. lock.cookie) (filter (on r) (filter test locks)) ≡ guarded_on r parts es =
    passing_on test r locks ∙ ap (λ grants. map (λ lock. lock.cookie) (filter (λ lock. test (lock_on r lock)) grants))
    (part_on (λ all. all.granted) refl r es up) in
    map-append (λ lock. lock.cookie) (filter (on r) (filter test locks)) (by_resource rs (filter test locks))
    ∙ (λ i. one i ++ on_all parts es up rs i)

pub guarded_all : (parts : List Part) (es : Entries) → AreRising es → (rs : List Resource) → AreGuards parts rs →
    IsPermutation (map (λ lock. lock.cookie) (filter (λ lock. list_any (λ part. is_guarded part lock) parts)
    (locks_of (λ all. all.granted) es))) (guarded_on_all rs parts es)
guarded_all parts es up rs guards =
    let test : Lock → Bool = λ lock. list_any (λ part. is_guarded part lock) parts in
    let locks = filter test (locks_of (λ all. all.granted) es) in
    let moved : IsPermutation locks (by_resource rs locks) = sorted_out rs guards.once locks
    (all_listed test rs (guarded_listed parts rs guards) (locks_of (λ all. all.granted) es)) in
    subst (IsPermutation (map (λ lock. lock.cookie) locks)) (on_all parts es up rs)
    (IsPermutation-map (λ lock. lock.cookie) locks (by_resource rs locks) moved)

-- one more, that isn't there
pub apart_more : (rs : List Resource) (r : Resource) → AreApart rs → is_listed r rs ≡ false → AreApart (rs ++ r ∷ [])
apart_more [] r apart new = (tt, tt)
apart_more (s ∷ rs) r apart new =
    let parts = or_false (same_resource r s) (is_listed r rs) new in
    (with_last s (same_turned s r ∙ parts.0) rs apart.0, apart_more rs r apart.1 parts.1) where
      with_last : (k : Resource) → same_resource k r ≡ false → (ks : List Resource)
          → AllByRecursion (λ other. same_resource k other ≡ false) ks
          → AllByRecursion (λ other. same_resource k other ≡ false) (ks ++ r ∷ [])
      with_last k differ [] all = (differ, tt)
      with_last k differ (t ∷ ks) all = (all.0, with_last k differ ks all.1)

-- ---- the resources of the guards, and those of a list of resources, one after another

pub guards_more : (parts : List Part) (i : ℕ) (d : Part) (old new : List Resource) → i < length parts →
    ((r : Resource) → is_listed r old ≡ false → list_any (λ part. same_resource r (guard part).0) (take i parts) ≡ false) →
    ((r : Resource) → is_listed r new ≡ false → (is_listed r old ≡ false) × (same_resource r (guard (get_or parts i d)).0 ≡ false)) →
    (r : Resource) → is_listed r new ≡ false → list_any (λ part. same_resource r (guard part).0) (take (i + 1) parts) ≡ false
guards_more parts i d old new within before added r none =
    let grown = added r none in
    ap (list_any (λ part. same_resource r (guard part).0)) (take_more parts i d within)
    ∙ list_any-append (λ part. same_resource r (guard part).0) (take i parts) (get_or parts i d ∷ [])
    ∙ (λ j. before r grown.0 j || (grown.1 j || false))

pub on_more : (rs : List Resource) (parts : List Part) (es : Entries) (i : ℕ) (d : Resource) (cookies some : List Cookie) → i < length rs →
    some ≡ guarded_on (get_or rs i d) parts es → cookies ++ guarded_on_all (drop i rs) parts es ≡ guarded_on_all rs parts es →
    (cookies ++ some) ++ guarded_on_all (drop (i + 1) rs) parts es ≡ guarded_on_all rs parts es
on_more rs parts es i d cookies some within here before =
    append_assoc cookies some (guarded_on_all (drop (i + 1) rs) parts es)
    ∙ ap (λ xs. cookies ++ (xs ++ guarded_on_all (drop (i + 1) rs) parts es)) here
    ∙ ap (λ rest. cookies ++ guarded_on_all rest parts es) (sym (rest_at rs i d within))
    ∙ before

-- ---- the cookies of a life

abbrev pub of_life : Who → Entries → List Cookie
of_life who es = map (λ lock. lock.cookie) (filter (λ lock. same_who lock.ask.who who) (locks_of (λ all. all.granted) es))

abbrev of_grants : Who → List Grant → List Cookie
of_grants who grants = map (λ lock. lock.cookie) (filter (λ lock. same_who lock.ask.who who) grants)

one_queue : (who : Who) (r : Resource) (grants : List Grant) (rest : List Lock) →
    map (λ lock. lock.cookie) (filter (λ lock. same_who lock.ask.who who) (map (lock_on r) grants ++ rest)) ≡ of_grants who grants
    ++ map (λ lock. lock.cookie) (filter (λ lock. same_who lock.ask.who who) rest)
one_queue who r [] rest = refl
one_queue who r (g ∷ grants) rest = by (same_who g.ask.who who) (one_queue who r grants rest) where
  mine : List Lock
  mine = filter (λ lock. same_who lock.ask.who who) (map (lock_on r) grants ++ rest)

  by : (b : Bool) → map (λ lock. lock.cookie) mine ≡ of_grants who grants
      ++ map (λ lock. lock.cookie) (filter (λ lock. same_who lock.ask.who who) rest) →
      map (λ lock. lock.cookie) (cond b (lock_on r g ∷ mine) mine)
      ≡ map (λ lock. lock.cookie) (cond b (g ∷ filter (λ lock. same_who lock.ask.who who) grants)
      (filter (λ lock. same_who lock.ask.who who) grants)) ++ map (λ lock. lock.cookie)
      (filter (λ lock. same_who lock.ask.who who) rest)
  by true h = ap (λ cs. g.cookie ∷ cs) h
  by false h = h

-- a queue without locks of the life gives none
none_of : (who : Who) (grants : List Grant) → list_any (is_of (who ∷ [])) grants ≡ false → of_grants who grants ≡ []
none_of who [] h = refl
none_of who (g ∷ grants) h =
    let parts = or_false (is_of (who ∷ []) g) (list_any (is_of (who ∷ [])) grants) h in
    let other : same_who g.ask.who who ≡ false = life_turned g.ask.who who ∙ (or_false (same_who who g.ask.who) false parts.0).0 in
    ap (λ b. map (λ lock. lock.cookie) (cond b (g ∷ filter (λ lock. same_who lock.ask.who who) grants)
    (filter (λ lock. same_who lock.ask.who who) grants))) other ∙ none_of who grants parts.1

-- the queues found by their resources
abbrev Found : Entries → Entries → Type 0
Found full es = AllByRecursion (λ (e : Resource × QueueState). at e.0 full ≡ e.1) es

found_later : (first : Resource × QueueState) (full es : Entries) → AllByRecursion (λ r. order first.0 r ≡ Less) (keys_of es)
    → Found full es → Found (first ∷ full) es
found_later first full [] above found = tt
found_later first full (e ∷ es) above found = (
  at_next e.0 first full (lower_differs first.0 e.0 above.0) ∙ found.0,
  found_later first full es above.1 found.1,
)

found_all : (es : Entries) → AreRising es → Found es es
found_all [] up = tt
found_all (e ∷ es) up = (
  at_here e.0 e es (same_itself e.0),
  found_later e es es (sorted_head order e.0 (keys_of es) up) (found_all es (sorted_tail order e.0 (keys_of es) up)),
)

life_on : (who : Who) (full es : Entries) → Found full es → of_life_on_all who (changed (who ∷ []) es) full ≡ of_life who es
life_on who full [] found = refl
life_on who full (e ∷ es) found = by (has_of (who ∷ []) e.1) refl (life_on who full es found.1) where
  whole : of_life who (e ∷ es) ≡ of_grants who e.1.granted ++ of_life who es
  whole = one_queue who e.0 e.1.granted (locks_of (λ q. q.granted) es)

  by : (b : Bool) → has_of (who ∷ []) e.1 ≡ b → of_life_on_all who (changed (who ∷ []) es) full ≡ of_life who es →
      of_life_on_all who (map (λ f. f.0) (cond b (e ∷ filter (λ f. has_of (who ∷ []) f.1) es) (filter (λ f. has_of (who ∷ []) f.1) es))) full
      ≡ of_life who (e ∷ es)
  by true has rest =
      let here : of_life_on who e.0 full ≡ of_grants who e.1.granted = ap (λ q. of_grants who q.granted) found.0 in
      (λ i. here i ++ rest i) ∙ sym whole
  by false has rest =
      let none : of_grants who e.1.granted ≡ [] = none_of who e.1.granted
      (or_false (list_any (is_of (who ∷ [])) e.1.granted) (list_any (is_of (who ∷ [])) e.1.waiting) has).0 in
      rest ∙ sym (ap (λ cs. cs ++ of_life who es) none) ∙ sym whole

-- the locks of a life are on the resources where it has some
pub life_all : (who : Who) (es : Entries) → AreRising es → of_life_on_all who (changed (who ∷ []) es) es ≡ of_life who es
life_all who es up = life_on who es es (found_all es up)

pub life_more : (who : Who) (rs : List Resource) (es : Entries) (i : ℕ) (d : Resource) (cookies some : List Cookie) → i < length rs →
    some ≡ of_life_on who (get_or rs i d) es → cookies ++ of_life_on_all who (drop i rs) es ≡ of_life_on_all who rs es →
    (cookies ++ some) ++ of_life_on_all who (drop (i + 1) rs) es ≡ of_life_on_all who rs es
life_more who rs es i d cookies some within here before =
    append_assoc cookies some (of_life_on_all who (drop (i + 1) rs) es)
    ∙ ap (λ xs. cookies ++ (xs ++ of_life_on_all who (drop (i + 1) rs) es)) here
    ∙ ap (λ rest. cookies ++ of_life_on_all who rest es) (sym (rest_at rs i d within))
    ∙ before
