-- Lives left: what the calls of the lockspace and of the callbacks made of it is what the rows make of it.
use Rattle.std.proofs.Common.{◌≡◌, ℕ, zero, suc, ◌≤◌, ◌==◌, ◌||◌, Bool, true, false, not, cond, List, [], ◌∷◌, ◌++◌, filter, All, AllPairs}
use Rattle.std.proofs.Common.{refl, sym, ◌∙◌, ap, subst, arith, inl, inr}
use Rattle.std.specs.Prelude.{if◌then◌else◌, slice_get}
use Rattle.std.specs.Option.{is_some}
use Rattle.std.proofs.lemmas.Bool.Decides.{nat_tests}
use Rattle.lu_base.specs.declared.ids.At.{At}
use Rattle.lu_base.specs.declared.ids.Cookie.{Cookie}
use Rattle.lu_base.specs.declared.ids.Who.{Who}
use Rattle.lu_base.specs.declared.locks.Cause.{Cause}
use Rattle.lu_base.specs.declared.locks.Lock.{Lock}
use Rattle.lu_base.specs.declared.locks.Resource.{Resource}
use Rattle.lu_callback.specs.declared.callbacks.Asked.{Asked}
use Rattle.lu_callback.specs.Callbacks as callbacks
use Rattle.lu_callback.specs.Callbacks.{without_locks, IsSound}
use Rattle.lu_msg.specs.declared.commits.Batch.{Batch}
use Rattle.lu_queue.specs.declared.locks.Grant.{Grant as Granted}
use Rattle.lu_queue.specs.Queues.{QueueState, AllWait, is_of}
use Rattle.lu_lockspace.specs.Spaces as spaces
use Rattle.lu_lockspace.specs.Spaces.{SpaceState, same_resource, queue_of, some_waits, IsSpace, AreWaitedOn, AreCancelled}
use Rattle.lu_lockspace.proofs.Resources.{same_is, same_itself, same_turned}
use Rattle.lu_spec_entries.specs.Words.{Entry, Commit, Evict, Release}
use Rattle.lu_spec_target.specs.Replies.{locks_on}
use Rattle.lu_spec_target.specs.Glimpses.{glimpses_of}
use Rattle.lu_spec_target.specs.Locks.{without_lock, locks_without}
use Rattle.lu_spec_target.specs.Queues.{has_to_wait, grown, grant_entries, grants_go, blocks_go, queue_goes, is_before, resources_of}
use Rattle.lu_spec_target.specs.Queues.{with_resource, queues_go, all_queues_go}
use Rattle.lu_spec_target.specs.Leaving.{evicted, all_released, locks_of, evictions}
use Rattle.lu_spec_target.specs.Requests.{releases}
use Rattle.lu_spec_target.specs.States.{Target, after, turn}
use Rattle.lu_target_refines.specs.Callbacks.{ShowsCalls}
use Rattle.lu_target_refines.specs.Locks.{grants_of}
use Rattle.lu_target_refines.specs.Batches.{AreOnce}
use Rattle.lu_target_refines.proofs.Evictions as evicting
use Rattle.lu_target_refines.proofs.LockLists.{filters_commute}
use Rattle.lu_target_refines.proofs.LockSteps.{Shows as ShowsQueues, shows_same, shows_queues, shows_gone}
use Rattle.lu_target_refines.proofs.Locks.{queues_of, shows_of, space_shows, once_in, turn-append, leaves_blocks_go}
use Rattle.lu_target_refines.proofs.LocksLeaving as lower
use Rattle.lu_target_refines.proofs.LocksLeaving.{Settled, Left as Leaves, listed, Later, Ordered, before_from, before_differs}
use Rattle.lu_target_refines.proofs.LocksLeaving.{resources_ordered, listed_with, none_waits, not_listed_later, later_all, nothing_granted}
use Rattle.lu_target_refines.proofs.LocksLeaving.{gone_cookies, leaves_evictions, lives_own}
use Rattle.lu_target_locks.specs.declared.departing.Left.{Left}
use Rattle.lu_target_locks.specs.declared.departing.QueueStep.{QueueStep}
use Rattle.lu_target_locks.specs.declared.departing.QueueStep.TheVariants as step
use Rattle.lu_target_locks.specs.Servers.{ServerState, Shows, greatest, most_cookies}
use Rattle.lu_target_locks.specs.Departing.{departed, steps_told, IsLeft}
use Rattle.lu_target_locks.specs.Leaving.{AreDepartures, AreTheirs, AllHaveGoneOn, found_all}
use Rattle.lu_target_locks.proofs.Departures.{departures_are, without_theirs}
use Rattle.lu_target_locks.proofs.EvictionsTold.{evictions_at_once}
use Rattle.lu_target_locks.proofs.GoingOn.{told_itself, Comes, through, through_other, through_listed, all_go}
use Rattle.lu_target_locks.proofs.Releases.{ticks_ended, boot_ended}
use Rattle.lu_target_locks.proofs.Segments.{IsSegment, segments}

-- ---- ticks

ticks_released : (at : At) (locks : List Lock) (v w : Target) → (turn w (all_released at locks v)).ticks ≡ w.ticks
ticks_released at [] v w = refl
ticks_released at (l ∷ locks) v w =
    let es : List Entry = releases at l v in
    ap (λ (x : Target). x.ticks) (turn-append w es (all_released at locks (turn v es)))
    ∙ ticks_released at locks (turn v es) (turn w es) ∙ ticks_ended at v (after w (Release l)) (glimpses_of l v.glimpses)

ticks_evictions : (at : At) (cause : Cause) (granted : List Lock) (gone : List Who) (v w : Target)
    → (turn w (evictions at cause granted gone v)).ticks ≡ w.ticks
ticks_evictions at cause granted [] v w = refl
ticks_evictions at cause granted (who ∷ gone) v w =
    let es : List Entry = Evict who cause ∷ evicted v who ∷ all_released at (locks_of who granted) v in
    ap (λ (x : Target). x.ticks) (turn-append w es (evictions at cause granted gone (turn v es)))
    ∙ ticks_evictions at cause granted gone (turn v es) (turn w es)
    ∙ ticks_released at (locks_of who granted) v (turn w (Evict who cause ∷ evicted v who ∷ []))

boot_released : (at : At) (locks : List Lock) (v w : Target) → (turn w (all_released at locks v)).boot ≡ w.boot
boot_released at [] v w = refl
boot_released at (l ∷ locks) v w =
    let es : List Entry = releases at l v in
    ap (λ (x : Target). x.boot) (turn-append w es (all_released at locks (turn v es)))
    ∙ boot_released at locks (turn v es) (turn w es) ∙ boot_ended at v (after w (Release l)) (glimpses_of l v.glimpses)

boot_evictions : (at : At) (cause : Cause) (granted : List Lock) (gone : List Who) (v w : Target)
    → (turn w (evictions at cause granted gone v)).boot ≡ w.boot
boot_evictions at cause granted [] v w = refl
boot_evictions at cause granted (who ∷ gone) v w =
    let es : List Entry = Evict who cause ∷ evicted v who ∷ all_released at (locks_of who granted) v in
    ap (λ (x : Target). x.boot) (turn-append w es (evictions at cause granted gone (turn v es)))
    ∙ boot_evictions at cause granted gone (turn v es) (turn w es)
    ∙ boot_released at (locks_of who granted) v (turn w (Evict who cause ∷ evicted v who ∷ []))

-- ---- the resources on which something waits

is_lower : (a b : Resource) → spaces.IsLower a b → is_before a b ≡ true
is_lower a b low = before_from a b (by (a.fid.0 == b.fid.0) refl) where
  by : (e : Bool) → (a.fid.0 == b.fid.0) ≡ e → lower.IsLower a b
  by true e = let same : a.fid.0 ≡ b.fid.0 = grind (arith, nat_tests, e) in inr (same, low.1 same)
  by false e = let less = low.0 in inl (grind (arith, nat_tests, e, less))

ordered : (rs : List Resource) → AllPairs spaces.IsLower rs → Ordered rs
ordered [] rising = tt
ordered (r ∷ rs) rising = (
  above rs (λ k d within. rising zero (suc k) d (omega arith) (omega (arith, within))),
  ordered rs (λ i j d less within. rising (suc i) (suc j) d (omega (arith, less)) (omega (arith, within))),
)
  where
    above : (rest : List Resource) → All (λ s. spaces.IsLower r s) rest → Later r rest
    above [] all = tt
    above (s ∷ rest) all = (is_lower r s (all zero s (omega arith)), above rest (λ k d within. all (suc k) d (omega (arith, within))))

no_waiting : (one : QueueState) → some_waits one ≡ false → one.waiting ≡ []
unfolding some_waits
no_waiting one none = by one.waiting none where
  by : (locks : List Granted) → is_some (slice_get locks 0) ≡ false → locks ≡ []
  by [] h = refl
  by (g ∷ locks) h = absurd (cc)

none_granted : (locks : List Lock) → grants_of locks ≡ [] → locks ≡ []
none_granted [] h = refl
none_granted (l ∷ locks) h = absurd (cc)

-- ---- where nothing waits nothing comes of a queue

quiet_goes : (r : Resource) (x : Target) → locks_on r x.waiting ≡ [] → queue_goes r x ≡ []
quiet_goes r x none =
    (λ i. grants_go [] (none i) x ++ blocks_go (locks_on r (turn x (grants_go [] (none i) x)).waiting) (turn x (grants_go [] (none i) x)))
    ∙ ap (λ ls. blocks_go ls x) none

-- and nothing waits there later
still_quiet : (s : Resource) (ahead later : List Lock) (x : Target) → locks_on s x.waiting ≡ []
    → locks_on s (turn x (grants_go ahead later x)).waiting ≡ []
still_quiet s ahead [] x none = none
still_quiet s ahead (l ∷ later) x none =
    by (has_to_wait x ahead l) (still_quiet s (ahead ++ l ∷ []) later x none)
    (still_quiet s ahead later (turn x (grant_entries x g)) less) where
      g : Lock
      g = grown x (ahead ++ later) l

      less : locks_on s (without_lock g x.waiting) ≡ []
      less = filters_commute (λ (k : Lock). same_resource k.resource s) (λ (k : Lock). not (k.cookie.0 == g.cookie.0)) x.waiting
          ∙ ap (without_lock g) none

      by : (b : Bool) → locks_on s (turn x (grants_go (ahead ++ l ∷ []) later x)).waiting ≡ []
          → locks_on s (turn (turn x (grant_entries x g)) (grants_go ahead later (turn x (grant_entries x g)))).waiting ≡ []
          → locks_on s (turn x (if b then grants_go (ahead ++ l ∷ []) later x else grant_entries x g
          ++ grants_go ahead later (turn x (grant_entries x g)))).waiting ≡ []
      by true waits goes = waits
      by false waits goes = goes

goes_quiet : (s r : Resource) (x : Target) → locks_on s x.waiting ≡ [] → locks_on s (turn x (queue_goes r x)).waiting ≡ []
goes_quiet s r x none =
    let es : List Entry = grants_go [] (locks_on r x.waiting) x in
    let y : Target = turn x es in
    ap (λ (z : Target). locks_on s z.waiting) (turn-append x es (blocks_go (locks_on r y.waiting) y))
    ∙ ap (locks_on s) (leaves_blocks_go y (locks_on r y.waiting)).1
    ∙ still_quiet s [] (locks_on r x.waiting) x none

-- ---- more resources than those on which something waits

or_left : (a b : Bool) → a ≡ true → (a || b) ≡ true
or_left a b h = ap (λ c. c || b) h

or_right : (a b : Bool) → b ≡ true → (a || b) ≡ true
or_right true b h = refl
or_right false b h = h

differ : true ≡ false → ⊥
differ p = cc

-- some come to all of those
abbrev Covers : List Resource → List Resource → Target → Type 0
Covers rs ws x =
    ((s : Resource) → listed s ws ≡ true → listed s rs ≡ true) × ((s : Resource) → listed s ws ≡ false → listed s rs ≡ true
    → locks_on s x.waiting ≡ [])

of_rest : (s r : Resource) (rs : List Resource) → listed s (r ∷ rs) ≡ true → same_resource s r ≡ false → listed s rs ≡ true
of_rest s r rs there apart = sym (ap (λ b. b || listed s rs) apart) ∙ there

same_goes : (rs ws : List Resource) (x : Target) → Ordered rs → Ordered ws → Covers rs ws x → queues_go rs x ≡ queues_go ws x
same_goes [] [] x up above covers = refl
same_goes [] (w ∷ ws) x up above covers = absurd (differ (sym (covers.0 w (or_left (same_resource w w) (listed w ws) (same_itself w)))))
same_goes (r ∷ rs) [] x up above covers =
    let nothing : queue_goes r x ≡ [] = quiet_goes r x (covers.1 r refl (or_left (same_resource r r) (listed r rs) (same_itself r))) in
    (λ i. nothing i ++ queues_go rs (turn x (nothing i)))
    ∙ same_goes rs [] x up.1 above (
      (λ s there. absurd (differ (sym there))),
      (λ s none there. covers.1 s none (or_right (same_resource s r) (listed s rs) there)),
    )
same_goes (r ∷ rs) (w ∷ ws) x up above covers =
    by (same_resource r w) refl (same_goes rs ws (turn x (queue_goes r x)) up.1 above.1) (same_goes rs (w ∷ ws) x up.1 above) where
      apart_from : (s : Resource) (ls : List Resource) (k : Resource) → Later k ls → listed s ls ≡ true → same_resource s k ≡ false
      apart_from s ls k later there = one (same_resource s k) refl where
        one : (b : Bool) → same_resource s k ≡ b → b ≡ false
        one false e = refl
        one true e = absurd (differ (sym there ∙ subst (λ m. listed m ls ≡ false) (sym (same_is s k e)) (not_listed_later k ls later)))

      by : (b : Bool) → same_resource r w ≡ b
          → (Covers rs ws (turn x (queue_goes r x)) → queues_go rs (turn x (queue_goes r x)) ≡ queues_go ws (turn x (queue_goes r x)))
          → (Covers rs (w ∷ ws) x → queues_go rs x ≡ queues_go (w ∷ ws) x)
          → queues_go (r ∷ rs) x ≡ queues_go (w ∷ ws) x
      by true e both skip =
          let is : r ≡ w = same_is r w e in
          ap (λ (es : List Entry). queue_goes r x ++ es)
          (both (
            (λ s there.
                let apart : same_resource s r ≡ false = subst (λ k. same_resource s k ≡ false) (sym is) (apart_from s ws w above.0 there) in
                of_rest s r rs (covers.0 s (or_right (same_resource s w) (listed s ws) there)) apart),
            (λ s none there.
                let apart : same_resource s r ≡ false = apart_from s rs r up.0 there in
                let from_w : same_resource s w ≡ false = subst (λ k. same_resource s k ≡ false) is apart in
                goes_quiet s r x (covers.1 s (ap (λ b. b || listed s ws) from_w ∙ none)
                (or_right (same_resource s r) (listed s rs) there))),
          ))
          ∙ ap (λ k. queue_goes k x ++ queues_go ws (turn x (queue_goes k x))) is
      by false e both skip =
          let w_there : listed w rs ≡ true = of_rest w r rs (covers.0 w (or_left (same_resource w w) (listed w ws) (same_itself w)))
          (same_turned w r ∙ e) in
          let below : is_before r w ≡ true = before_one rs up.0 w_there in
          let r_none : listed r (w ∷ ws) ≡ false = not_listed_later r (w ∷ ws) (below, later_all r w ws below above.0) in
          let nothing : queue_goes r x ≡ [] = quiet_goes r x (covers.1 r r_none (or_left (same_resource r r) (listed r rs) (same_itself r)))
          in
          (λ i. nothing i ++ queues_go rs (turn x (nothing i)))
          ∙ skip (
            (λ s there. of_rest s r rs (covers.0 s there) (not_r s there r_none)),
            (λ s none there. covers.1 s none (or_right (same_resource s r) (listed s rs) there)),
          )
        where
          before_one : (ls : List Resource) → Later r ls → listed w ls ≡ true → is_before r w ≡ true
          before_one [] later there = absurd (cc)
          before_one (k ∷ ls) later there = one (same_resource w k) refl there (before_one ls later.1) where
            one : (b : Bool) → same_resource w k ≡ b → (b || listed w ls) ≡ true → (listed w ls ≡ true → is_before r w ≡ true)
                → is_before r w ≡ true
            one true f h rest = subst (λ m. is_before r m ≡ true) (sym (same_is w k f)) later.0
            one false f h rest = rest h

          not_r : (s : Resource) → listed s (w ∷ ws) ≡ true → listed r (w ∷ ws) ≡ false → same_resource s r ≡ false
          not_r s there none = one (same_resource s r) refl where
            one : (b : Bool) → same_resource s r ≡ b → b ≡ false
            one false f = refl
            one true f = absurd (differ (sym there ∙ subst (λ m. listed m (w ∷ ws) ≡ false) (sym (same_is s r f)) none))

-- one that waits has its resource among them
waits_listed : (s : Resource) (locks : List Lock) → listed s (resources_of locks) ≡ true → locks_on s locks ≡ [] → ⊥
waits_listed s locks there none = some locks there none where
  one_more : (k : Resource) (rs : List Resource) → listed s (with_resource k rs) ≡ true → ((same_resource s k || listed s rs) ≡ true)
  one_more k [] h = h
  one_more k (x ∷ rs) h = by (same_resource k x) (is_before k x) h (one_more k rs) where
    by : (same below : Bool) → listed s (if same then x ∷ rs else (if below then k ∷ x ∷ rs else x ∷ with_resource k rs)) ≡ true
        → (listed s (with_resource k rs) ≡ true → (same_resource s k || listed s rs) ≡ true) → (same_resource s k || listed s (x ∷ rs))
        ≡ true
    by true below g rest = or_right (same_resource s k) (listed s (x ∷ rs)) g
    by false true g rest = g
    by false false g rest = swap (same_resource s x) (same_resource s k) (listed s rs) (listed s (with_resource k rs)) g rest where
      swap : (a b c d : Bool) → (a || d) ≡ true → (d ≡ true → (b || c) ≡ true) → (b || (a || c)) ≡ true
      swap true b c d p q = or_right b true refl
      swap false b c d p q = q p

  some : (ls : List Lock) → listed s (resources_of ls) ≡ true → locks_on s ls ≡ [] → ⊥
  some [] h e = cc
  some (l ∷ ls) h e = by (same_resource l.resource s) refl (one_more l.resource (resources_of ls) h) e (some ls) where
    by : (on : Bool) → same_resource l.resource s ≡ on → (same_resource s l.resource || listed s (resources_of ls)) ≡ true
        → cond on (l ∷ locks_on s ls) (locks_on s ls) ≡ []
        → (listed s (resources_of ls) ≡ true → locks_on s ls ≡ [] → ⊥) → ⊥
    by true f g e rest = cc
    by false f g e rest = rest (sym (ap (λ b. b || listed s (resources_of ls)) (same_turned s l.resource ∙ f)) ∙ g) e

-- ---- all together

pub record HasLeft (gone : List Who) (left : Left) (old new : ServerState) : Type 0 where
  pub departures : AreDepartures old.space old.asked gone gone left.departures
  pub resources : List Resource
  pub waited : AreWaitedOn old.space resources
  pub cookies : List Cookie
  pub theirs : AreTheirs old.space gone cookies
  pub grants : List Granted
  pub cancelled : AreCancelled gone old.space grants new.space
  pub lawful : IsSpace new.space
  pub mid : List Asked
  pub ended : mid ≡ callbacks.without_lives gone (without_locks cookies old.asked)
  pub sound : IsSound mid
  pub went : AllHaveGoneOn new.space old.ticks (found_all new.space grants) resources mid left.steps new.asked
  pub greater : greatest new ≡ greatest old
  pub ticks : new.ticks ≡ old.ticks
  pub boots : new.boot ≡ old.boot
  pub counts : new.count ≡ old.count

abbrev Goes : Target → List Entry → Left → ServerState → Type 0
Goes u es left new = (es ≡ steps_told u left.steps) × Shows new (turn u es)

goes_on : (left : Left) (old new : ServerState) (v : Target) (at : At) (cause : Cause) (to : ℕ) (batch : Batch) → Shows old v
    → HasLeft batch.removed left old new →
    Goes (departed v at cause to batch) (all_queues_go (departed v at cause to batch)) left new
goes_on left old new v at cause to batch s has = subst (λ es. Goes u es left new) same_queues (all.0, shown) where
  gone : List Who
  gone = batch.removed

  w : Target
  w = after v (Commit to batch)

  u : Target
  u = departed v at cause to batch

  few : (c : ℕ) → spaces.times c v.granted ≤ 1
  few c = let most = once_in old.space v s.locks c in omega (arith, most)

  here : ShowsQueues (Leaves gone old.space) u
  here =
      let leaves = leaves_evictions at cause gone v.granted gone w (lives_own gone) (gone_cookies gone v few) in
      shows_same (Leaves gone old.space) w u leaves.0 leaves.1 leaves.2
      (shows_gone (queues_of old.space) v to batch (shows_of old.space v s.locks))

  calls : ShowsCalls has.mid u
  calls = evicting.leave v at cause to batch old.asked has.mid s.calls
      (has.ended ∙ ap (callbacks.without_lives gone) (without_theirs old.space old.asked v gone has.cookies s.locks has.theirs)) has.sound

  now : u.ticks ≡ old.ticks
  now = ticks_evictions at cause v.granted gone w w ∙ s.ticks

  cookie : u.cookie ≡ greatest old
  cookie = (leaves_evictions at cause gone v.granted gone w (lives_own gone) (gone_cookies gone v few)).2 ∙ s.cookie

  settled : Settled gone old.space has.cancelled.resources
  settled = λ r apart. (has.cancelled.every r apart, (s.locks.lawful.queues r).stuck)

  segment : (r : Resource) → IsSegment gone old.space new.space (found_all new.space has.grants) r
  segment r = segments gone has.cancelled.resources old.space new.space has.grants has.lawful settled has.cancelled.settled r

  rs : List Resource
  rs = has.resources

  up : Ordered rs
  up = ordered rs has.waited.rising

  all : Comes gone old.space new.space old.ticks (found_all new.space has.grants) has.lawful u now (queues_go rs u)
      (through gone old.space new.space old.ticks (found_all new.space has.grants) has.lawful u now rs (Leaves gone old.space)) u left.steps
      new.asked
  all = all_go gone old.space new.space old.ticks (found_all new.space has.grants) has.lawful u now segment rs up (Leaves gone old.space) u
      has.mid new.asked left.steps
      (λ r there. refl) here calls (told_itself u) has.went

  z : Target
  z = turn u (queues_go rs u)

  -- nothing waits elsewhere
  unlisted : (r : Resource) → listed r rs ≡ false → (Leaves gone old.space r).waiting ≡ []
  unlisted r apart = ap (filter (λ g. not (is_of gone g))) (no_waiting (queue_of r old.space) (sym (has.waited.every r) ∙ apart))

  elsewhere : (r : Resource) → listed r rs ≡ false → locks_on r u.waiting ≡ []
  elsewhere r apart = none_granted (locks_on r u.waiting) (sym (here.each r).waiting ∙ unlisted r apart)

  final : (r : Resource) → queue_of r new.space ≡ through gone old.space new.space old.ticks (found_all new.space has.grants) has.lawful u
      now rs (Leaves gone old.space) r
  final r = by (listed r rs) refl where
    nothing_waits : (granted waiting : List Granted) → waiting ≡ [] → AllWait granted waiting
    nothing_waits granted waiting none = subst (AllWait granted) (sym none) (λ k d within. absurd (omega arith))

    by : (b : Bool) → listed r rs ≡ b → queue_of r new.space ≡ through gone old.space new.space old.ticks (found_all new.space has.grants)
        has.lawful u now rs (Leaves gone old.space) r
    by true e = sym (through_listed gone old.space new.space old.ticks (found_all new.space has.grants) has.lawful u now rs
        (Leaves gone old.space) r e)
    by false e =
        (nothing_granted (Leaves gone old.space r) (queue_of r new.space) (segment r).grants
        (nothing_waits (Leaves gone old.space r).granted (Leaves gone old.space r).waiting (unlisted r e)) (segment r).steps).1
        ∙ sym (through_other gone old.space new.space old.ticks (found_all new.space has.grants) has.lawful u now rs (Leaves gone old.space)
        r e)

  shown : Shows new z
  shown = record {
    locks = space_shows new.space z has.lawful (shows_queues (through gone old.space new.space old.ticks (found_all new.space has.grants)
        has.lawful u now rs (Leaves gone old.space)) (queues_of new.space) z final all.1);
    calls = all.2;
    cookie = all.4 ∙ cookie ∙ sym has.greater;
    ticks = all.3.ticks ∙ now ∙ sym has.ticks;
    boot = all.3.boot ∙ boot_evictions at cause v.granted gone w w ∙ s.boot ∙ sym has.boots;
    counted = subst (λ n. n ≤ most_cookies) (sym has.counts) s.counted;
  }

  same_queues : queues_go rs u ≡ all_queues_go u
  same_queues = same_goes rs (resources_of u.waiting) u up (resources_ordered u.waiting) (
    (λ r there. by r there (listed r rs) refl),
    (λ r none there. none_waits r u.waiting none),
  )
    where
      by : (r : Resource) → listed r (resources_of u.waiting) ≡ true → (b : Bool) → listed r rs ≡ b → b ≡ true
      by r there true e = refl
      by r there false e = absurd (waits_listed r u.waiting there (elsewhere r e))

-- where nothing waits no queue goes on
quiet_queues : (u : Target) → u.waiting ≡ [] → all_queues_go u ≡ []
quiet_queues u none = ap (λ ls. queues_go (resources_of ls) u) none

no_steps : (u : Target) (steps : List QueueStep) → [] ≡ steps_told u steps → steps ≡ []
no_steps u [] none = refl
no_steps u (step.Granted l ∷ steps) none = absurd (cc)
no_steps u (step.Called l ∷ steps) none = absurd (cc)

pub is_left : (gone : List Who) (left : Left) (old new : ServerState) → HasLeft gone left old new → IsLeft gone left old new
is_left gone left old new has = record {
  departures = λ v s. departures_are old.space old.asked v gone gone left.departures s.locks s.calls has.departures;
  steps = λ v at cause to batch s same. (goes v at cause to batch s same).0;
  shows = λ v at cause to batch s same. (goes v at cause to batch s same).1;
  alone = λ v at cause to batch s same none.
      let u : Target = departed v at cause to batch in
      let nothing : all_queues_go u ≡ [] = quiet_queues u (waits_none v at cause to batch s none) in
      let both = goes v at cause to batch s same in
      (no_steps u left.steps (sym nothing ∙ both.0), subst (λ es. Shows new (turn u es)) nothing both.1);
  told = λ v at cause to batch s same once. evictions_at_once old v (after v (Commit to batch)) at cause batch.removed s
      (subst AreOnce (sym same) once);
}
  where
    goes : (v : Target) (at : At) (cause : Cause) (to : ℕ) (batch : Batch) → Shows old v → batch.removed ≡ gone →
        Goes (departed v at cause to batch) (all_queues_go (departed v at cause to batch)) left new
    goes v at cause to batch s same = goes_on left old new v at cause to batch s
        (subst (λ lives. HasLeft lives left old new) (sym same) has)

    waits_none : (v : Target) (at : At) (cause : Cause) (to : ℕ) (batch : Batch) → Shows old v → v.waiting ≡ []
        → (departed v at cause to batch).waiting ≡ []
    waits_none v at cause to batch s none =
        (leaves_evictions at cause batch.removed v.granted batch.removed (after v (Commit to batch)) (lives_own batch.removed)
        (gone_cookies batch.removed v (λ c. let most = once_in old.space v s.locks c in omega (arith, most)))).1
        ∙ ap (locks_without batch.removed) none
