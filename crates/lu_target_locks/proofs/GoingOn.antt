-- All queues go on once some lives have left: the lockspace has granted on all resources at once, the rows go resource by
-- resource, and call back on each before they come to the next.
use Rattle.std.proofs.Common.{◌≡◌, ℕ, ◌≤◌, ◌==◌, ◌||◌, Bool, true, false, cond, Some, None, find, List, [], ◌∷◌, ◌++◌, map, refl, sym, ◌∙◌}
use Rattle.std.proofs.Common.{ap, subst, arith}
use Rattle.std.specs.List.{list_any}
use Rattle.std.specs.Option.{option_map}
use Rattle.std.proofs.lemmas.List.Folds.{list_any-append}
use Rattle.std.proofs.lemmas.List.Sorted.{list_any-IsPermutation}
use Rattle.lu_base.specs.declared.ids.Cookie.{Cookie}
use Rattle.lu_base.specs.declared.ids.Who.{Who}
use Rattle.lu_base.specs.declared.locks.Lock.{Lock}
use Rattle.lu_base.specs.declared.locks.Resource.{Resource}
use Rattle.lu_callback.specs.declared.callbacks.Asked.{Asked}
use Rattle.lu_spec_machine.specs.Objects.{object_size, range}
use Rattle.lu_msg.specs.declared.messages.Message.TheVariants as message
use Rattle.lu_queue.specs.declared.locks.Grant.{Grant as Granted}
use Rattle.lu_queue.specs.Queues as queue
use Rattle.lu_queue.specs.Queues.{QueueState, AreGranted}
use Rattle.lu_queue.proofs.Lists as lists
use Rattle.lu_lockspace.specs.Spaces.{SpaceState, same_resource, lock_on, queue_of, is_told, IsSpace}
use Rattle.lu_lockspace.proofs.Places.{Elsewhere, find_on}
use Rattle.lu_lockspace.proofs.Resources.{same_is, same_itself, same_turned}
use Rattle.lu_spec_entries.specs.Words.{Entry, Block, Grant}
use Rattle.lu_spec_target.specs.Stored.{object_in}
use Rattle.lu_spec_target.specs.Replies.{locks_on, seen_in, to_life, called, block_of, blocks}
use Rattle.lu_spec_target.specs.Queues.{extent_of, grant_message, grants_go, blocks_go, queue_goes, queues_go}
use Rattle.lu_spec_target.specs.States.{Target, turn}
use Rattle.lu_target_refines.specs.Callbacks.{ShowsCalls}
use Rattle.lu_target_refines.specs.Locks.{grants_of, ShowsQueue, grants_told, named}
use Rattle.lu_target_refines.proofs.LockLists.{has_grants, none_has, times_apart}
use Rattle.lu_target_refines.proofs.LockSteps.{Queues, put, put_here, put_keeps, Fits, Shows as ShowsQueues, shows_same}
use Rattle.lu_target_refines.proofs.Locks.{turn-append, granted_times, leaves_blocks_go}
use Rattle.lu_target_refines.proofs.Granting.{granted_on}
use Rattle.lu_target_refines.proofs.Finding.{any_grants, any_some, any_where, found_permuted}
use Rattle.lu_target_refines.proofs.Answered.{moved}
use Rattle.lu_target_refines.proofs.Blocked.{blocked_on}
use Rattle.lu_target_refines.proofs.Blocking.{more_locks}
use Rattle.lu_target_refines.proofs.LocksLeaving.{Left, listed, Ordered, not_listed_later}
use Rattle.lu_target_locks.specs.declared.departing.QueueStep.{QueueStep}
use Rattle.lu_target_locks.specs.declared.departing.QueueStep.TheVariants as step
use Rattle.lu_target_locks.specs.Calling.{Calling, call_all}
use Rattle.lu_target_locks.specs.Servers.{blocks_told}
use Rattle.lu_target_locks.specs.Departing.{steps_told}
use Rattle.lu_target_locks.specs.Leaving as leaving
use Rattle.lu_target_locks.specs.Leaving.{called_steps, HasGoneOn, AllHaveGoneOn}
use Rattle.lu_target_locks.proofs.Cookies.{IsOfLock, AreOfLocks, blocking_once, members}
use Rattle.lu_target_locks.proofs.CallingBack.{Ends, all_called}
use Rattle.lu_target_locks.proofs.Releases.{cookie_stays, low_on}
use Rattle.lu_target_locks.proofs.Segments.{On, on_times, found_granted, granted_behind, IsSegment}

-- ---- what is told of a state stays so while queues go on

pub record IsTold (u x : Target) : Type 0 where
  pub boot : x.boot ≡ u.boot
  pub ticks : x.ticks ≡ u.ticks
  pub committed : x.committed ≡ u.committed
  pub contents : x.contents ≡ u.contents
  pub log : x.log ≡ u.log

pub told_itself : (u : Target) → IsTold u u
told_itself u = record { boot = refl; ticks = refl; committed = refl; contents = refl; log = refl }

told_twice : (u x y : Target) → IsTold u x → IsTold x y → IsTold u y
told_twice u x y a b = record {
  boot = b.boot ∙ a.boot;
  ticks = b.ticks ∙ a.ticks;
  committed = b.committed ∙ a.committed;
  contents = b.contents ∙ a.contents;
  log = b.log ∙ a.log;
}

message_same : (u x : Target) (l : Lock) → IsTold u x → grant_message x l ≡ grant_message u l
message_same u x l t = λ i.
    to_life l.ask.who (message.Grant (record {
      who = l.ask.who;
      boot = t.boot i;
      cookie = l.cookie;
      extent = extent_of l;
      size = object_size (object_in (t.contents i).objects l.resource);
      committed = record { 0 = t.committed i };
      seen = seen_in (range l.resource (extent_of l).first (extent_of l).last) (t.log i);
    }))

abbrev granted_steps : List Lock → List QueueStep
granted_steps locks = map {A = Lock} {B = QueueStep} (λ l. step.Granted l) locks

grants_are : (r : Resource) (u x : Target) (grants : List Granted) → IsTold u x → grants_told r x grants
    ≡ steps_told u (granted_steps (map (lock_on r) grants))
grants_are r u x [] t = refl
grants_are r u x (g ∷ grants) t =
    ap (λ (e : Entry). Grant (lock_on r g) None ∷ e ∷ grants_told r x grants) (message_same u x (lock_on r g) t)
    ∙ ap (λ (es : List Entry). Grant (lock_on r g) None ∷ grant_message u (lock_on r g) ∷ es) (grants_are r u x grants t)

blocks_are : (u y : Target) (locks : List Lock) → IsTold u y → blocks_told y locks ≡ steps_told u (called_steps locks)
blocks_are u y [] t = refl
blocks_are u y (l ∷ locks) t =
    (λ i. Block (record { cookie = l.cookie; who = l.ask.who; since = t.ticks i })
    ∷ to_life l.ask.who (message.Block l.ask.who (t.boot i) l.cookie) ∷ blocks_told y locks)
    ∙ ap (λ (es : List Entry). Block (called u l) ∷ block_of u l ∷ es) (blocks_are u y locks t)

pub steps_more : (u : Target) (xs ys : List QueueStep) → steps_told u (xs ++ ys) ≡ steps_told u xs ++ steps_told u ys
steps_more u [] ys = refl
steps_more u (step.Granted l ∷ xs) ys = ap (λ (es : List Entry). Grant l None ∷ grant_message u l ∷ es) (steps_more u xs ys)
steps_more u (step.Called l ∷ xs) ys = ap (λ (es : List Entry). Block (called u l) ∷ block_of u l ∷ es) (steps_more u xs ys)

-- ---- what grants and blocks leave as it was

record Keeps (w x : Target) : Type 0 where
  told : IsTold w x
  called : x.called ≡ w.called
  glimpses : x.glimpses ≡ w.glimpses

grants_keep : (r : Resource) (v w : Target) (grants : List Granted) → Keeps w (turn w (grants_told r v grants))
grants_keep r v w [] = record { told = told_itself w; called = refl; glimpses = refl }
grants_keep r v w (g ∷ grants) =
    let rest = grants_keep r v (turn w (Grant (lock_on r g) None ∷ grant_message v (lock_on r g) ∷ [])) grants in
    let told = Keeps.told rest in
    record {
      told = record { boot = told.boot; ticks = told.ticks; committed = told.committed; contents = told.contents; log = told.log };
      called = Keeps.called rest;
      glimpses = Keeps.glimpses rest;
    }

blocks_keep : (v w : Target) (locks : List Lock) → IsTold w (turn w (blocks_told v locks))
blocks_keep v w [] = told_itself w
blocks_keep v w (l ∷ locks) =
    let told = blocks_keep v (turn w (Block (called v l) ∷ block_of v l ∷ [])) locks in
    record { boot = told.boot; ticks = told.ticks; committed = told.committed; contents = told.contents; log = told.log }

-- ---- a granted lock of one queue, where that queue alone is shown

some_on : (c : ℕ) (grants : List Granted) → queue.has c grants ≡ true → (g : Granted) × On c grants g
some_on c [] h = absurd (cc)
some_on c (g ∷ grants) h = by (g.cookie.0 == c) h (some_on c grants) where
  by : (here : Bool) → (here || queue.has c grants) ≡ true → (queue.has c grants ≡ true → (k : Granted) × On c grants k)
      → (k : Granted) × (cond here (Some g) (find (λ x. x.cookie.0 == c) grants) ≡ Some k)
  by true h rest = (g, refl)
  by false h rest = rest h

module _ (space : SpaceState) (lawful : IsSpace space) where
  of_lock_on : (y : Target) (r : Resource) (c : Cookie) → ShowsQueue r (queue_of r space) y → Fits y
      → queue.has c.0 (queue_of r space).granted ≡ true → IsOfLock space y.granted c
  of_lock_on y r c shows fits there = record {
    lock = lock_on r one.0;
    granted = find_on c.0 r y.granted elsewhere ∙ ap (option_map (lock_on r)) (sym same ∙ one.1);
    found = (found_granted space lawful c.0 r one.0 one.1).1;
  }
    where
      one : (g : Granted) × On c.0 (queue_of r space).granted g
      one = some_on c.0 (queue_of r space).granted there

      few : queue.times c.0 (queue_of r space).granted ≤ 1
      few =
          let most = (lawful.queues r).coherent.once c.0 in
          let both = lists.times-append c.0 (queue_of r space).granted (queue_of r space).waiting in
          omega (arith, most, both)

      same : find (λ g. g.cookie.0 == c.0) (queue_of r space).granted ≡ find (λ g. g.cookie.0 == c.0) (grants_of (locks_on r y.granted))
      same = found_permuted (λ (g : Granted). g.cookie.0 == c.0) (queue_of r space).granted (grants_of (locks_on r y.granted)) shows.granted
          few

      elsewhere : Elsewhere c.0 r y.granted
      elsewhere = λ s differ.
          let some = on_times c.0 (queue_of r space).granted one.0 one.1 in
          let there_times = granted_times c.0 r (queue_of r space) y shows in
          let both = times_apart c.0 r s differ y.granted in
          let most = fits.once c.0 in
          has_grants c.0 (locks_on s y.granted) ∙ none_has c.0 (locks_on s y.granted) (omega (arith, some, there_times, both, most))

  of_locks_on : (y : Target) (r : Resource) (cookies : List Cookie) → ShowsQueue r (queue_of r space) y → Fits y →
      ((c : Cookie) → is_told c cookies ≡ true → queue.has c.0 (queue_of r space).granted ≡ true) → AreOfLocks space y.granted cookies
  of_locks_on y r [] shows fits there = tt
  of_locks_on y r (c ∷ cookies) shows fits there = (
    of_lock_on y r c shows fits (there c (here c cookies)),
    of_locks_on y r cookies shows fits (λ k among. there k (later c k cookies among)),
  )
    where
      same_number : (n : ℕ) → (n == n) ≡ true
      same_number n = grind (arith)

      here : (c : Cookie) (cookies : List Cookie) → is_told c (c ∷ cookies) ≡ true
      here c cookies = ap (λ b. b || is_told c cookies) (same_number c.0)

      right : (a b : Bool) → b ≡ true → (a || b) ≡ true
      right true b h = refl
      right false b h = h

      later : (c k : Cookie) (cookies : List Cookie) → is_told k cookies ≡ true → is_told k (c ∷ cookies) ≡ true
      later c k cookies h = right (c.0 == k.0) (is_told k cookies) h

-- ---- the locks that were granted before are so still

grown : (queues next : Queues) (r : Resource) (x y : Target) (grants : List Granted) → ShowsQueues queues x → ShowsQueues next y
    → AreGranted (queues r) grants (next r) →
    ((s : Resource) → same_resource r s ≡ false → next s ≡ queues s) → (test : Lock → Bool) → list_any test x.granted ≡ true
    → list_any test y.granted ≡ true
grown queues next r x y grants was is steps others test some =
    any_where (list_any test y.granted ≡ true) test x.granted some
    (λ s here. any_some test s y.granted (to s (more s (same_resource r s) refl (from s here)))) where
      from : (s : Resource) → list_any test (locks_on s x.granted) ≡ true → list_any (λ g. test (lock_on s g)) (queues s).granted ≡ true
      from s h =
          list_any-IsPermutation (λ g. test (lock_on s g)) (queues s).granted (grants_of (locks_on s x.granted)) (was.each s).granted
          ∙ any_grants test s x.granted ∙ h

      to : (s : Resource) → list_any (λ g. test (lock_on s g)) (next s).granted ≡ true → list_any test (locks_on s y.granted) ≡ true
      to s h =
          sym (any_grants test s y.granted)
          ∙ sym (list_any-IsPermutation (λ g. test (lock_on s g)) (next s).granted (grants_of (locks_on s y.granted)) (is.each s).granted)
          ∙ h

      left : (a b : Bool) → a ≡ true → (a || b) ≡ true
      left a b h = ap (λ c. c || b) h

      more : (s : Resource) (b : Bool) → same_resource r s ≡ b → list_any (λ g. test (lock_on s g)) (queues s).granted ≡ true
          → list_any (λ g. test (lock_on s g)) (next s).granted ≡ true
      more s false e h = ap (λ (q : QueueState). list_any (λ g. test (lock_on s g)) q.granted) (others s e) ∙ h
      more s true e h =
          subst (λ k. list_any (λ g. test (lock_on s g)) (queues k).granted ≡ true → list_any (λ g. test (lock_on s g)) (next k).granted
          ≡ true) (same_is r s e)
          (λ was_there. ap (list_any (λ g. test (lock_on s g))) (granted_behind (queues r) grants (next r) steps)
          ∙ list_any-append (λ g. test (lock_on s g)) (queues r).granted grants
          ∙ left (list_any (λ g. test (lock_on s g)) (queues r).granted) (list_any (λ g. test (lock_on s g)) grants) was_there)
          h

-- ---- one resource, and then all

module _ (lives : List Who) (before space : SpaceState) (tick : ℕ) (granted : List Lock) (lawful : IsSpace space) (u : Target)
    (now : u.ticks ≡ tick) where
  -- what both come to
  abbrev pub Comes : List Entry → Queues → Target → List QueueStep → List Asked → Type 0
  Comes es next x steps new =
      (es ≡ steps_told u steps) × ShowsQueues next (turn x es) × ShowsCalls new (turn x es) × IsTold u (turn x es)
      × ((turn x es).cookie ≡ x.cookie)

  abbrev goes : Resource → Target → List Entry → List Entry
  goes r x es = es ++ blocks_go (locks_on r (turn x es).waiting) (turn x es)

  one_goes : (r : Resource) (queues : Queues) (x : Target) (asked new : List Asked) (steps : List QueueStep)
      → IsSegment lives before space granted r → queues r ≡ Left lives before r →
      ShowsQueues queues x → ShowsCalls asked x → IsTold u x → HasGoneOn space tick granted r asked steps new
      → Comes (queue_goes r x) (put r (queue_of r space) queues) x steps new
  one_goes r queues x asked new steps segment start shows calls told gone =
      subst (λ es. Comes es next x steps new) (sym (ap (goes r x) walked.0)) (
        said,
        there,
        subst (λ asks. ShowsCalls asks (turn x whole)) (sym gone.asked) (subst (ShowsCalls done.asked) (sym z_is) ends.3),
        subst (IsTold u) (sym z_is) (told_twice u y (turn y es) told_y still),
        ap (λ (z : Target). z.cookie) z_is ∙ (leaves_blocks_go y (locks_on r y.waiting)).2 ∙ cookie_y,
      )
    where
      next : Queues
      next = put r (queue_of r space) queues

      here : next r ≡ queue_of r space
      here = put_here r (queue_of r space) queues

      grants : List Granted
      grants = segment.grants

      grants_steps : AreGranted (queues r) grants (next r)
      grants_steps = subst (AreGranted (queues r) grants) (sym here)
          (subst (λ q. AreGranted q grants (queue_of r space)) (sym start) segment.steps)

      walked : (grants_go [] (locks_on r x.waiting) x ≡ grants_told r x grants) × ShowsQueues next (turn x (grants_told r x grants))
      walked = granted_on r queues next x grants shows grants_steps (put_keeps r (queue_of r space) queues)

      y : Target
      y = turn x (grants_told r x grants)

      kept : Keeps x y
      kept = grants_keep r x x grants

      told_y : IsTold u y
      told_y = told_twice u x y told (Keeps.told kept)

      cookie_y : y.cookie ≡ x.cookie
      cookie_y = ap (λ (xs : List Entry). (turn x xs).cookie) (sym walked.0)
          ∙ cookie_stays x.cookie [] (locks_on r x.waiting) x refl (low_on x.cookie r x.waiting shows.fits.waiting)

      calls_y : ShowsCalls asked y
      calls_y =
          moved asked y x.called x.glimpses y.granted (Keeps.called kept) (Keeps.glimpses kept) refl
          (more_locks asked x.called x.glimpses x.granted y.granted
          (grown queues next r x y grants shows walked.1 grants_steps (put_keeps r (queue_of r space) queues)) calls)

      queue_y : ShowsQueue r (queue_of r space) y
      queue_y = subst (λ one. ShowsQueue r one y) here (walked.1.each r)

      es : List Entry
      es = blocks_go (locks_on r y.waiting) y

      blocked : es ≡ blocks y (named gone.cookies y.granted)
      blocked = blocked_on r (queue_of r space) y gone.cookies queue_y walked.1.fits.rising gone.blockers

      done : Calling
      done = call_all space tick asked gone.cookies

      named_ends : Ends done [] y (blocks y (named gone.cookies y.granted))
      named_ends =
          all_called space tick y.granted gone.cookies (blocking_once (queue_of r space).granted (queue_of r space).waiting [] gone.cookies
          gone.blockers)
          (of_locks_on space lawful y r gone.cookies queue_y walked.1.fits
          (λ c among. (members (queue_of r space).granted (queue_of r space).waiting [] gone.cookies gone.blockers c among).1))
          asked [] y refl (told_y.ticks ∙ now) calls_y

      ends : Ends done [] y es
      ends = subst (Ends done [] y) (sym blocked) named_ends

      whole : List Entry
      whole = goes r x (grants_told r x grants)

      z_is : turn x whole ≡ turn y es
      z_is = turn-append x (grants_told r x grants) es

      still : IsTold y (turn y es)
      still = subst (λ xs. IsTold y (turn y xs)) (sym ends.2) (blocks_keep y y ends.0)

      said : whole ≡ steps_told u steps
      said =
          (λ i. grants_are r u x grants told i ++ (ends.2 ∙ blocks_are u y ends.0 told_y) i)
          ∙ (λ i. steps_told u (granted_steps (sym segment.are i)) ++ steps_told u (called_steps (sym ends.1 i)))
          ∙ sym (steps_more u (leaving.granted_on r granted) (called_steps done.called)) ∙ ap (steps_told u) (sym gone.steps_are)

      there : ShowsQueues next (turn x whole)
      there =
          let left = leaves_blocks_go y (locks_on r y.waiting) in
          subst (ShowsQueues next) (sym z_is) (shows_same next y (turn y es) left.0 left.1 left.2 walked.1)

  -- the queues of all these resources
  abbrev pub through : List Resource → Queues → Queues
  through [] queues = queues
  through (r ∷ rs) queues = through rs (put r (queue_of r space) queues)

  pub through_other : (rs : List Resource) (queues : Queues) (s : Resource) → listed s rs ≡ false → through rs queues s ≡ queues s
  through_other [] queues s none = refl
  through_other (r ∷ rs) queues s none =
      let parts = lists.or_false (same_resource s r) (listed s rs) none in
      through_other rs (put r (queue_of r space) queues) s parts.1 ∙ put_keeps r (queue_of r space) queues s (same_turned r s ∙ parts.0)

  pub through_listed : (rs : List Resource) (queues : Queues) (s : Resource) → listed s rs ≡ true → through rs queues s ≡ queue_of s space
  through_listed [] queues s some = absurd (cc)
  through_listed (r ∷ rs) queues s some = by (listed s rs) refl (same_resource s r) refl some
      (through_listed rs (put r (queue_of r space) queues) s) where
        by : (later : Bool) → listed s rs ≡ later → (here : Bool) → same_resource s r ≡ here → (here || later) ≡ true →
            (listed s rs ≡ true → through rs (put r (queue_of r space) queues) s ≡ queue_of s space)
            → through rs (put r (queue_of r space) queues) s ≡ queue_of s space
        by true e here f h rest = rest e
        by false e true f h rest =
            through_other rs (put r (queue_of r space) queues) s e
            ∙ subst (λ k. put r (queue_of r space) queues k ≡ queue_of k space) (sym (same_is s r f)) (put_here r (queue_of r space) queues)
        by false e false f h rest = absurd (cc)

  pub all_go : ((r : Resource) → IsSegment lives before space granted r) → (rs : List Resource) → Ordered rs
      → (queues : Queues) (x : Target) (asked new : List Asked) (steps : List QueueStep) →
      ((s : Resource) → listed s rs ≡ true → queues s ≡ Left lives before s) → ShowsQueues queues x → ShowsCalls asked x → IsTold u x
      → AllHaveGoneOn space tick granted rs asked steps new →
      Comes (queues_go rs x) (through rs queues) x steps new
  all_go segment [] up queues x asked new steps start shows calls told (none, same) =
      (ap (steps_told u) (sym none), shows, subst (λ asks. ShowsCalls asks x) (sym same) calls, told, refl)
  all_go segment (r ∷ rs) up queues x asked new steps start shows calls told (first, rest, mid, all, gone, more) =
      finish (all_go segment rs up.1 (put r (queue_of r space) queues) y mid new rest started one.1 one.2 one.3 more)
    where
      one : Comes (queue_goes r x) (put r (queue_of r space) queues) x first mid
      one = one_goes r queues x asked mid first (segment r) (start r (ap (λ b. b || listed r rs) (same_itself r))) shows calls told gone

      y : Target
      y = turn x (queue_goes r x)

      started : (s : Resource) → listed s rs ≡ true → put r (queue_of r space) queues s ≡ Left lives before s
      started s there = by (same_resource r s) refl where
        right : (a b : Bool) → b ≡ true → (a || b) ≡ true
        right true b h = refl
        right false b h = h

        no_way : true ≡ false → ⊥
        no_way p = cc

        by : (b : Bool) → same_resource r s ≡ b → put r (queue_of r space) queues s ≡ Left lives before s
        by true e = absurd (no_way (sym there ∙ subst (λ k. listed k rs ≡ false) (same_is r s e) (not_listed_later r rs up.0)))
        by false e = put_keeps r (queue_of r space) queues s e ∙ start s (right (same_resource s r) (listed s rs) there)

      z_is : turn x (queues_go (r ∷ rs) x) ≡ turn y (queues_go rs y)
      z_is = turn-append x (queue_goes r x) (queues_go rs y)

      finish : Comes (queues_go rs y) (through rs (put r (queue_of r space) queues)) y rest new
          → Comes (queues_go (r ∷ rs) x) (through (r ∷ rs) queues) x steps new
      finish later = (
        (λ i. one.0 i ++ later.0 i) ∙ sym (steps_more u first rest) ∙ ap (steps_told u) (sym all),
        subst (ShowsQueues (through rs (put r (queue_of r space) queues))) (sym z_is) later.1,
        subst (ShowsCalls new) (sym z_is) later.2,
        subst (IsTold u) (sym z_is) later.3,
        ap (λ (z : Target). z.cookie) z_is ∙ later.4 ∙ one.4,
      )
