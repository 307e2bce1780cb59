-- A lock is released, and what waited is granted: what is outstanding of the other holders stays.
use Rattle.std.proofs.Common.{◌≡◌, ℕ, ◌+◌, ◌≤◌, ◌==◌, Bool, true, false, Some, None, All, cond, List, [], ◌∷◌, ◌++◌, refl, sym, ◌∙◌, ap}
use Rattle.std.proofs.Common.{subst, arith}
use Rattle.std.specs.Prelude.{if◌then◌else◌, max}
use Rattle.std.specs.List.{AllByRecursion}
use Rattle.std.proofs.lemmas.List.Sorted.{sum_by-IsPermutation}
use Rattle.lu_base.specs.declared.ids.At.{At}
use Rattle.lu_base.specs.declared.ids.Cookie.{Cookie}
use Rattle.lu_base.specs.declared.ids.Who.{Who}
use Rattle.lu_base.specs.declared.locks.Lock.{Lock}
use Rattle.lu_base.specs.declared.locks.Resource.{Resource}
use Rattle.lu_callback.specs.declared.callbacks.Asked.{Asked}
use Rattle.lu_callback.specs.Callbacks.{without, IsSound}
use Rattle.lu_held.proofs.Lists.{rest_all}
use Rattle.lu_queue.specs.declared.locks.Grant.{Grant as Granted}
use Rattle.lu_lockspace.specs.Spaces.{same_resource, has, times, IsSpace, IsCancelled}
use Rattle.lu_spec_entries.specs.Carried.{Glimpse}
use Rattle.lu_spec_entries.specs.Words.{Entry, Release, Ends}
use Rattle.lu_spec_target.specs.Locks.{with_lock}
use Rattle.lu_spec_target.specs.Glimpses.{glimpses_of, glimpses_end, row_locked}
use Rattle.lu_spec_target.specs.Objects.{lock_of}
use Rattle.lu_spec_target.specs.Queues.{has_to_wait, grown, grant_entries, grants_go}
use Rattle.lu_spec_target.specs.Replies.{locks_on}
use Rattle.lu_spec_target.specs.Requests.{releases}
use Rattle.lu_spec_target.specs.States.{Target, after, turn}
use Rattle.lu_target_refines.specs.Callbacks.{ShowsCalls}
use Rattle.lu_target_refines.specs.Locks.{ShowsLocks, grants_told}
use Rattle.lu_target_refines.proofs.LockLists.{times_more, times_itself, none_has, times_filter, placed_among}
use Rattle.lu_target_refines.proofs.Locks as locks
use Rattle.lu_target_refines.proofs.Locks.{once_in, leaves_glimpses, granted_there}
use Rattle.lu_target_refines.proofs.Answered as calls
use Rattle.lu_target_refines.proofs.Answered.{release_granted}
use Rattle.lu_target_refines.proofs.Blocking.{grants_shown}
use Rattle.lu_target_locks.specs.Servers.{ServerState, Shows, greatest, most_cookies, IsReleased}

-- ---- grants

times_with : (c : ℕ) (l : Lock) (locks : List Lock) → has l.cookie.0 locks ≡ false → times c (with_lock l locks)
    ≡ times c (l ∷ []) + times c locks
times_with c l locks new = sum_by-IsPermutation (λ (k : Lock). cond (k.cookie.0 == c) 1 0) (l ∷ locks) (with_lock l locks)
    (placed_among l locks new) ∙ times_more c l locks

-- no cookie is that of two locks
abbrev AreOnce : List Lock → List Lock → Type 0
AreOnce granted waiting = (c : ℕ) → times c granted + times c waiting ≤ 1

is_new : (granted later : List Lock) (l : Lock) → AreOnce granted (l ∷ later) → has l.cookie.0 granted ≡ false
is_new granted later l once =
    let all = times_more l.cookie.0 l later in
    let one = times_itself l in
    let few = once l.cookie.0 in
    none_has l.cookie.0 granted (omega (arith, all, one, few))

goes_shown : (ahead later : List Lock) (asked : List Asked) (v : Target) → ShowsCalls asked v → AreOnce v.granted later
    → ShowsCalls asked (turn v (grants_go ahead later v))
goes_shown ahead [] asked v shows once = shows
goes_shown ahead (l ∷ later) asked v shows once =
    by (has_to_wait v ahead l) (goes_shown (ahead ++ l ∷ []) later asked v shows fewer)
    (goes_shown ahead later asked (turn v (grant_entries v g)) (grants_shown v asked g None shows (is_new v.granted later l once)) moved)
  where
    g : Lock
    g = grown v (ahead ++ later) l

    fewer : AreOnce v.granted later
    fewer c = let all = times_more c l later in let few = once c in omega (arith, all, few)

    moved : AreOnce (with_lock g v.granted) later
    moved c =
        let all = times_more c l later in
        let few = once c in
        let there : times c (with_lock g v.granted) ≡ times c (l ∷ []) + times c v.granted =
        times_with c g v.granted (is_new v.granted later l once) in
        omega (arith, all, few, there)

    by : (b : Bool) → ShowsCalls asked (turn v (grants_go (ahead ++ l ∷ []) later v))
        → ShowsCalls asked (turn (turn v (grant_entries v g)) (grants_go ahead later (turn v (grant_entries v g))))
        → ShowsCalls asked (turn v (if b then grants_go (ahead ++ l ∷ []) later v else grant_entries v g
        ++ grants_go ahead later (turn v (grant_entries v g))))
    by true waits goes = waits
    by false waits goes = goes

-- ---- what neither releases nor grants change

pub ticks_told : (r : Resource) (v w : Target) (grants : List Granted) → (turn w (grants_told r v grants)).ticks ≡ w.ticks
ticks_told r v w [] = refl
ticks_told r v w (g ∷ grants) = ticks_told r v (turn w (grants_told r v (g ∷ []))) grants

pub ticks_ended : (at : At) (v w : Target) (gs : List Glimpse) → (turn w (glimpses_end at gs v)).ticks ≡ w.ticks
ticks_ended at v w [] = refl
ticks_ended at v w (g ∷ gs) = ticks_ended at v (turn (after w (Ends g)) (row_locked v at g.request)) gs

boot_told : (r : Resource) (v w : Target) (grants : List Granted) → (turn w (grants_told r v grants)).boot ≡ w.boot
boot_told r v w [] = refl
boot_told r v w (g ∷ grants) = boot_told r v (turn w (grants_told r v (g ∷ []))) grants

pub boot_ended : (at : At) (v w : Target) (gs : List Glimpse) → (turn w (glimpses_end at gs v)).boot ≡ w.boot
boot_ended at v w [] = refl
boot_ended at v w (g ∷ gs) = boot_ended at v (turn (after w (Ends g)) (row_locked v at g.request)) gs

below_max : (n m : ℕ) → m ≤ n → max n m ≡ n
below_max n m le = omega (arith, le)

-- a lock that had waited has no new cookie
pub cookie_stays : (n : ℕ) (ahead later : List Lock) (v : Target) → v.cookie ≡ n → AllByRecursion (λ l. l.cookie.0 ≤ n) later
    → (turn v (grants_go ahead later v)).cookie ≡ n
cookie_stays n ahead [] v is low = is
cookie_stays n ahead (l ∷ later) v is low =
    by (has_to_wait v ahead l) (cookie_stays n (ahead ++ l ∷ []) later v is low.1)
    (cookie_stays n ahead later (turn v (grant_entries v (grown v (ahead ++ later) l)))
    (ap (λ k. max k l.cookie.0) is ∙ below_max n l.cookie.0 low.0) low.1)
  where
    by : (b : Bool) → (turn v (grants_go (ahead ++ l ∷ []) later v)).cookie ≡ n
        → (let x = turn v (grant_entries v (grown v (ahead ++ later) l)) in (turn x (grants_go ahead later x)).cookie ≡ n)
        → (turn v (if b then grants_go (ahead ++ l ∷ []) later v
        else (let g = grown v (ahead ++ later) l in grant_entries v g ++ grants_go ahead later (turn v (grant_entries v g))))).cookie
        ≡ n
    by true waits goes = waits
    by false waits goes = goes

pub low_on : (n : ℕ) (r : Resource) (locks : List Lock) → All (λ l. l.cookie.0 ≤ n) locks
    → AllByRecursion (λ l. l.cookie.0 ≤ n) (locks_on r locks)
low_on n r [] all = tt
low_on n r (l ∷ locks) all = by (same_resource l.resource r) (low_on n r locks (rest_all (λ k. k.cookie.0 ≤ n) l locks all)) where
  by : (on : Bool) → AllByRecursion (λ l. l.cookie.0 ≤ n) (locks_on r locks)
      → AllByRecursion (λ l. l.cookie.0 ≤ n) (cond on (l ∷ locks_on r locks) (locks_on r locks))
  by true rest = (all 0 l (omega arith), rest)
  by false rest = rest

-- ---- the whole

pub is_released : (who : Who) (cookie : Cookie) (l : Lock) (grants : List Granted) (old new : ServerState)
    → ((v : Target) → Shows old v → Some l ≡ lock_of who cookie v.granted)
    → IsCancelled cookie.0 old.space grants new.space → IsSpace new.space → new.asked ≡ without cookie old.asked → IsSound new.asked
    → greatest new ≡ greatest old → new.ticks ≡ old.ticks → new.boot ≡ old.boot → new.count ≡ old.count
    → IsReleased who cookie (record { lock = l; granted = grants }) old new
is_released who cookie l grants old new found cancelled lawful asked sound greater ticks boots counts = record {
  was = λ v s. sym (found v s);
  granted = λ v at s. (space v at s).0;
  shows = λ v at s. let w = turn v (releases at l v) in record {
    locks = (space v at s).1;
    calls = subst (λ (es : List Entry). ShowsCalls new.asked (turn w es)) (space v at s).0
        (goes_shown [] (locks_on l.resource w.waiting) new.asked w (there v at s) (once v at s));
    cookie = ap (λ (es : List Entry). (turn w es).cookie) (sym (space v at s).0)
        ∙ cookie_stays v.cookie [] (locks_on l.resource w.waiting) w
        (leaves_glimpses at v (after v (Release l)) (glimpses_of l v.glimpses)).2 (low v at s) ∙ s.cookie ∙ sym greater;
    ticks = ticks_told l.resource w w grants ∙ ticks_ended at v (after v (Release l)) (glimpses_of l v.glimpses) ∙ s.ticks ∙ sym ticks;
    boot = boot_told l.resource w w grants ∙ boot_ended at v (after v (Release l)) (glimpses_of l v.glimpses) ∙ s.boot ∙ sym boots;
    counted = subst (λ n. n ≤ most_cookies) (sym counts) s.counted;
  };
}
  where
    is : (v : Target) → Shows old v → (l.cookie.0 ≡ cookie.0) × (has l.cookie.0 (locks_on l.resource v.granted) ≡ true)
    is v s = granted_there who cookie l v.granted (sym (found v s))

    space : (v : Target) (at : At) → Shows old v
        → (let w = turn v (releases at l v) in (grants_go [] (locks_on l.resource w.waiting) w ≡ grants_told l.resource w grants)
        × ShowsLocks new.space (turn w (grants_told l.resource w grants)))
    space v at s =
        locks.released old.space new.space v at l grants s.locks (is v s).1
        (subst (λ n. IsCancelled n old.space grants new.space) (sym (is v s).0) cancelled) lawful (turn v (releases at l v)) refl

    there : (v : Target) (at : At) → Shows old v → ShowsCalls new.asked (turn v (releases at l v))
    there v at s =
        let cookie_is : cookie ≡ l.cookie = λ i. record { 0 = sym (is v s).0 i } in
        calls.released v at old.asked new.asked l s.calls (asked ∙ ap (λ (c : Cookie). without c old.asked) cookie_is) sound

    once : (v : Target) (at : At) → Shows old v → (let w = turn v (releases at l v) in AreOnce w.granted (locks_on l.resource w.waiting))
    once v at s = λ c.
        let few = once_in old.space v s.locks c in
        let left = (leaves_glimpses at v (after v (Release l)) (glimpses_of l v.glimpses)).1 in
        let granted : times c (turn v (releases at l v)).granted ≤ times c v.granted =
        subst (λ ls. times c ls ≤ times c v.granted) (sym (release_granted v at l)) (times_filter c _ v.granted) in
        let waiting : times c (locks_on l.resource (turn v (releases at l v)).waiting) ≤ times c v.waiting =
        subst (λ ls. times c (locks_on l.resource ls) ≤ times c v.waiting) (sym left) (times_filter c _ v.waiting) in
        omega (arith, few, granted, waiting)

    low : (v : Target) (at : At) → Shows old v → AllByRecursion (λ l. l.cookie.0 ≤ v.cookie)
        (locks_on l.resource (turn v (releases at l v)).waiting)
    low v at s =
        let left = (leaves_glimpses at v (after v (Release l)) (glimpses_of l v.glimpses)).1 in
        subst (λ ls. AllByRecursion (λ l. l.cookie.0 ≤ v.cookie) (locks_on l.resource ls)) (sym left)
        (low_on v.cookie l.resource v.waiting s.locks.waiting)
