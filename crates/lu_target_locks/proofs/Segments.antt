-- What was granted as the locks of some lives went, resource by resource: of all grants those on one resource are what its
-- queue grants, and the lockspace finds each of them there.
use Rattle.std.proofs.Common.{◌≡◌, ℕ, ◌+◌, ◌≤◌, ◌==◌, Bool, true, false, cond, Option, Some, None, find, List, [], ◌∷◌, ◌++◌, map, filter}
use Rattle.std.proofs.Common.{refl, sym, ◌∙◌, ap, subst, arith}
use Rattle.std.specs.List.{AllByRecursion, cons_option}
use Rattle.std.specs.Option.{option_map, option_or}
use Rattle.std.proofs.lemmas.Bool.Decides.{nat_tests}
use Rattle.std.proofs.lemmas.List.{append-nil, append_assoc, map-append}
use Rattle.std.proofs.lemmas.List.Folds.{find-append}
use Rattle.lu_base.specs.declared.ids.Who.{Who}
use Rattle.lu_base.specs.declared.locks.Lock.{Lock}
use Rattle.lu_base.specs.declared.locks.Resource.{Resource}
use Rattle.lu_queue.specs.declared.locks.Grant.{Grant as Granted}
use Rattle.lu_queue.specs.Queues as queue
use Rattle.lu_queue.specs.Queues.{QueueState, without_lives, AreGranted, AllWait}
use Rattle.lu_queue.proofs.Lists as lists
use Rattle.lu_lockspace.specs.Spaces.{SpaceState, same_resource, lock_on, queue_of, lock_of, IsSpace, AllSettled}
use Rattle.lu_lockspace.proofs.Places.{Elsewhere, find_on}
use Rattle.lu_lockspace.proofs.Resources.{same_is, same_itself}
use Rattle.lu_target_refines.proofs.Locks.{only_there}
use Rattle.lu_target_refines.proofs.LocksLeaving.{Settled, Left, left_here, left_keeps, settled_next}
use Rattle.lu_target_locks.specs.Leaving.{found_all}

-- ---- a granted lock of a queue is found

abbrev pub On : ℕ → List Granted → Granted → Type 0
On c grants g = find (λ k. k.cookie.0 == c) grants ≡ Some g

pub on_times : (c : ℕ) (grants : List Granted) (g : Granted) → On c grants g → 1 ≤ queue.times c grants
on_times c [] g found = absurd (cc)
on_times c (k ∷ grants) g found = by (k.cookie.0 == c) refl found (on_times c grants g) where
  by : (here : Bool) → (k.cookie.0 == c) ≡ here → cond here (Some k) (find (λ x. x.cookie.0 == c) grants) ≡ Some g
      → (On c grants g → 1 ≤ queue.times c grants) → 1 ≤ queue.times c (k ∷ grants)
  by true e h rest =
      let one : queue.times c (k ∷ []) ≡ 1 = rw e refl in
      let all = lists.times-append c (k ∷ []) grants in
      omega (arith, one, all)
  by false e h rest =
      let more = rest h in
      let all = lists.times-append c (k ∷ []) grants in
      omega (arith, more, all)

granted_elsewhere : (space : SpaceState) → IsSpace space → (c : ℕ) (r : Resource) (g : Granted) → On c (queue_of r space).granted g
    → Elsewhere c r space.granted
granted_elsewhere space lawful c r g found = λ s differ.
    let some = on_times c (queue_of r space).granted g found in
    lists.none_of_times c (queue_of s space).granted (only_there space lawful c r s differ (omega (arith, some))).0

-- in all of the lockspace
pub found_granted : (space : SpaceState) → IsSpace space → (c : ℕ) (r : Resource) (g : Granted) → On c (queue_of r space).granted g →
    (find (λ l. l.cookie.0 == c) space.granted ≡ Some (lock_on r g)) × (lock_of c space ≡ Some (lock_on r g))
found_granted space lawful c r g found = (
  here,
  find-append (λ (l : Lock). l.cookie.0 == c) space.granted space.waiting
      ∙ ap (λ o. option_or o (find (λ l. l.cookie.0 == c) space.waiting)) here,
)
  where
    here : find (λ l. l.cookie.0 == c) space.granted ≡ Some (lock_on r g)
    here = find_on c r space.granted (granted_elsewhere space lawful c r g found) ∙ ap (option_map (lock_on r)) found

-- ---- what a queue grants is behind what it had granted

pub granted_behind : (before : QueueState) (grants : List Granted) (after_it : QueueState) → AreGranted before grants after_it
    → after_it.granted ≡ before.granted ++ grants
granted_behind before [] after_it (same, all) = ap (λ (q : QueueState). q.granted) same ∙ sym (append-nil before.granted)
granted_behind before (g ∷ grants) after_it (mid, step, rest) =
    granted_behind mid grants after_it rest ∙ ap (λ (q : QueueState). q.granted ++ grants) step.left
    ∙ append_assoc before.granted (g ∷ []) grants

pub granted_twice : (before : QueueState) (first : List Granted) (mid : QueueState) (rest : List Granted) (after_it : QueueState)
    → AreGranted before first mid → AreGranted mid rest after_it →
    AreGranted before (first ++ rest) after_it
granted_twice before [] mid rest after_it (same, all) more = subst (λ q. AreGranted q rest after_it) same more
granted_twice before (g ∷ first) mid rest after_it (next, step, steps) more =
    (next, step, granted_twice next first mid rest after_it steps more)

-- one that stands among others, all with cookies of their own
finds_one : (front : List Granted) (g : Granted) (behind : List Granted) → ((c : ℕ) → queue.times c (front ++ g ∷ behind) ≤ 1)
    → On g.cookie.0 (front ++ g ∷ behind) g
finds_one [] g behind few = rw itself refl where
  itself : (g.cookie.0 == g.cookie.0) ≡ true
  itself = grind (arith, nat_tests)
finds_one (k ∷ front) g behind few = by (k.cookie.0 == g.cookie.0) refl (finds_one front g behind fewer) where
  all : (c : ℕ) → queue.times c (k ∷ (front ++ g ∷ behind)) ≡ queue.times c (k ∷ []) + queue.times c (front ++ g ∷ behind)
  all c = lists.times-append c (k ∷ []) (front ++ g ∷ behind)

  fewer : (c : ℕ) → queue.times c (front ++ g ∷ behind) ≤ 1
  fewer c = let most = few c in let both = all c in omega (arith, most, both)

  by : (same : Bool) → (k.cookie.0 == g.cookie.0) ≡ same → On g.cookie.0 (front ++ g ∷ behind) g
      → cond same (Some k) (find (λ x. x.cookie.0 == g.cookie.0) (front ++ g ∷ behind)) ≡ Some g
  by false e found = found
  by true e found =
      let one : queue.times g.cookie.0 (k ∷ []) ≡ 1 = rw e refl in
      let two = on_times g.cookie.0 (front ++ g ∷ behind) g found in
      let most = few g.cookie.0 in
      let both = all g.cookie.0 in
      absurd (omega (arith, one, two, both, most))

-- each of some
finds_among : (ahead some behind : List Granted) → ((c : ℕ) → queue.times c (ahead ++ (some ++ behind)) ≤ 1)
    → AllByRecursion (λ g. On g.cookie.0 (ahead ++ (some ++ behind)) g) some
finds_among ahead [] behind once = tt
finds_among ahead (g ∷ some) behind once = (
  finds_one ahead g (some ++ behind) once,
  subst (λ all. AllByRecursion (λ k. On k.cookie.0 all k) some) (append_assoc ahead (g ∷ []) (some ++ behind))
      (finds_among (ahead ++ g ∷ []) some behind (subst (λ all. (c : ℕ) → queue.times c all ≤ 1)
      (sym (append_assoc ahead (g ∷ []) (some ++ behind))) once)),
)

-- ---- the locks of what was granted on one resource

filter_found : (space : SpaceState) (r : Resource) (grants : List Granted)
    → AllByRecursion (λ g. lock_of g.cookie.0 space ≡ Some (lock_on r g)) grants → found_all space grants ≡ map (lock_on r) grants
filter_found space r [] each = refl
filter_found space r (g ∷ grants) each = ap (λ o. cons_option o (found_all space grants)) each.0
    ∙ ap (λ (ls : List Lock). lock_on r g ∷ ls) (filter_found space r grants each.1)

found_more : (space : SpaceState) (xs ys : List Granted) → found_all space (xs ++ ys) ≡ found_all space xs ++ found_all space ys
found_more space [] ys = refl
found_more space (g ∷ xs) ys = by (lock_of g.cookie.0 space) (found_more space xs ys) where
  by : (o : Option Lock) → found_all space (xs ++ ys) ≡ found_all space xs ++ found_all space ys
      → cons_option o (found_all space (xs ++ ys)) ≡ cons_option o (found_all space xs) ++ found_all space ys
  by None rest = rest
  by (Some l) rest = ap (λ (ls : List Lock). l ∷ ls) rest

abbrev pub on : Resource → List Lock → List Lock
on r locks = filter (λ l. same_resource l.resource r) locks

on_more : (r : Resource) (xs ys : List Lock) → on r (xs ++ ys) ≡ on r xs ++ on r ys
on_more r [] ys = refl
on_more r (l ∷ xs) ys = by (same_resource l.resource r) (on_more r xs ys) where
  by : (b : Bool) → on r (xs ++ ys) ≡ on r xs ++ on r ys → cond b (l ∷ on r (xs ++ ys)) (on r (xs ++ ys)) ≡ cond b (l ∷ on r xs) (on r xs)
      ++ on r ys
  by true rest = ap (λ (ls : List Lock). l ∷ ls) rest
  by false rest = rest

on_all : (r : Resource) (grants : List Granted) → on r (map (lock_on r) grants) ≡ map (lock_on r) grants
on_all r [] = refl
on_all r (g ∷ grants) = rw (same_itself r) (ap (λ (ls : List Lock). lock_on r g ∷ ls) (on_all r grants))

on_none : (r s : Resource) → same_resource s r ≡ false → (grants : List Granted) → on r (map (lock_on s) grants) ≡ []
on_none r s differ [] = refl
on_none r s differ (g ∷ grants) = rw differ (on_none r s differ grants)

-- ---- resource by resource

-- what was granted on a resource, and that those of the grants are found
pub record IsSegment (lives : List Who) (before after_it : SpaceState) (granted : List Lock) (r : Resource) : Type 0 where
  pub grants : List Granted
  pub steps : AreGranted (without_lives lives (queue_of r before)) grants (queue_of r after_it)
  pub are : on r granted ≡ map (lock_on r) grants

-- what is granted stays granted
stays : (after_it : SpaceState) → IsSpace after_it → (r : Resource) (start mid : QueueState) (first rest : List Granted)
    → AreGranted start first mid → AreGranted mid rest (queue_of r after_it) →
    AllByRecursion (λ g. lock_of g.cookie.0 after_it ≡ Some (lock_on r g)) first
stays after_it lawful r start mid first rest steps more = each first finds where
  whole : (queue_of r after_it).granted ≡ start.granted ++ (first ++ rest)
  whole = granted_behind mid rest (queue_of r after_it) more ∙ ap (λ (gs : List Granted). gs ++ rest) (granted_behind start first mid steps)
      ∙ append_assoc start.granted first rest

  few : (c : ℕ) → queue.times c (queue_of r after_it).granted ≤ 1
  few c =
      let most = (lawful.queues r).coherent.once c in
      let both = lists.times-append c (queue_of r after_it).granted (queue_of r after_it).waiting in
      omega (arith, most, both)

  finds : AllByRecursion (λ g. On g.cookie.0 (queue_of r after_it).granted g) first
  finds = subst (λ all. AllByRecursion (λ g. On g.cookie.0 all g) first) (sym whole)
      (finds_among start.granted first rest (subst (λ all. (c : ℕ) → queue.times c all ≤ 1) whole few))

  each : (grants : List Granted) → AllByRecursion (λ g. On g.cookie.0 (queue_of r after_it).granted g) grants
      → AllByRecursion (λ g. lock_of g.cookie.0 after_it ≡ Some (lock_on r g)) grants
  each [] all = tt
  each (g ∷ grants) all = ((found_granted after_it lawful g.cookie.0 r g all.0).1, each grants all.1)

pub segments : (lives : List Who) (rs : List Resource) (before after_it : SpaceState) (grants : List Granted) → IsSpace after_it
    → Settled lives before rs →
    AllSettled lives rs before grants after_it → (r : Resource) → IsSegment lives before after_it (found_all after_it grants) r
segments lives [] before after_it grants lawful settled (none, same) r = record {
  grants = [];
  steps =
      let here = settled r refl in
      (ap (queue_of r) same ∙ sym here.0, subst (λ q. AllWait q.granted q.waiting) (sym here.0) here.1);
  are = ap (λ gs. on r (found_all after_it gs)) none;
}
segments lives (s ∷ rs) before after_it grants lawful settled (first, rest, next, all, steps, keeps, more) r =
    by (same_resource s r) refl (segments lives rs next after_it rest lawful (settled_next lives s rs before next first settled steps keeps)
    more r)
    (segments lives rs next after_it rest lawful (settled_next lives s rs before next first settled steps keeps) more s)
  where
    whole : found_all after_it grants ≡ found_all after_it first ++ found_all after_it rest
    whole = ap (found_all after_it) all ∙ found_more after_it first rest

    here_is : Left lives next s ≡ queue_of s next
    here_is = left_here lives s before next first steps

    firsts : IsSegment lives next after_it (found_all after_it rest) s → found_all after_it first ≡ map (lock_on s) first
    firsts it = filter_found after_it s first
        (stays after_it lawful s (Left lives before s) (queue_of s next) first it.grants steps
        (subst (λ q. AreGranted q it.grants (queue_of s after_it)) here_is it.steps))

    by : (b : Bool) → same_resource s r ≡ b → IsSegment lives next after_it (found_all after_it rest) r
        → IsSegment lives next after_it (found_all after_it rest) s →
        IsSegment lives before after_it (found_all after_it grants) r
    by true e it own =
        subst (IsSegment lives before after_it (found_all after_it grants)) (same_is s r e)
        (record {
          grants = first ++ own.grants;
          steps = granted_twice (Left lives before s) first (queue_of s next) own.grants (queue_of s after_it) steps
              (subst (λ q. AreGranted q own.grants (queue_of s after_it)) here_is own.steps);
          are =
              ap (on s) whole ∙ on_more s (found_all after_it first) (found_all after_it rest)
              ∙ ap (λ (ls : List Lock). on s ls ++ on s (found_all after_it rest)) (firsts own)
              ∙ ap (λ (ls : List Lock). ls ++ on s (found_all after_it rest)) (on_all s first)
              ∙ ap (λ (ls : List Lock). map (lock_on s) first ++ ls) own.are
              ∙ sym (map-append (lock_on s) first own.grants);
        })
    by false e it own = record {
      grants = it.grants;
      steps = subst (λ q. AreGranted q it.grants (queue_of r after_it)) (left_keeps lives s before next keeps r e) it.steps;
      are =
          ap (on r) whole ∙ on_more r (found_all after_it first) (found_all after_it rest)
          ∙ ap (λ (ls : List Lock). on r ls ++ on r (found_all after_it rest)) (firsts own)
          ∙ ap (λ (ls : List Lock). ls ++ on r (found_all after_it rest)) (on_none r s e first)
          ∙ it.are;
    }
