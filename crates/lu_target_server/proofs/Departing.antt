-- Lives leave one after another, each with its locks, and what ends with the locks of one leaves those of the others as they were.
use Rattle.std.proofs.Common.{◌≡◌, ℕ, ◌==◌, ◌&&◌, ◌||◌, Bool, true, false, cond, not, List, [], ◌∷◌, ◌++◌, map, filter, refl, sym, ap}
use Rattle.std.proofs.Common.{subst, ◌∙◌, arith}
use Rattle.std.specs.Prelude.{if◌then◌else◌}
use Rattle.std.proofs.lemmas.Bool.Decides.{nat_tests}
use Rattle.lu_base.specs.declared.ids.At.{At}
use Rattle.lu_base.specs.declared.ids.Who.{Who}
use Rattle.lu_base.specs.declared.locks.Cause.{Cause}
use Rattle.lu_base.specs.declared.locks.Lock.{Lock}
use Rattle.lu_spec_machine.specs.Footprint.{Every}
use Rattle.lu_trace.specs.declared.entries.Entry.TheVariants as line
use Rattle.lu_trace.specs.Turns.{Making, with_line}
use Rattle.lu_spec_entries.specs.Carried.{Deed, Glimpse}
use Rattle.lu_spec_entries.specs.Words.{Entry, Release, Evict, Ends, same_life}
use Rattle.lu_msg.specs.declared.messages.Message.TheVariants as message
use Rattle.lu_spec_target.specs.Lives.{is_life}
use Rattle.lu_spec_target.specs.Replies.{to_life}
use Rattle.lu_spec_target.specs.Locks.{same_request, same_glimpse}
use Rattle.lu_spec_target.specs.Glimpses.{row_locked, glimpses_of, glimpses_end}
use Rattle.lu_spec_target.specs.Requests.{releases}
use Rattle.lu_spec_target.specs.Leaving.{evicted, all_released, locks_of, evictions}
use Rattle.lu_spec_target.specs.States.{Target, after, turn, follow}
use Rattle.lu_target_refines.specs.Batches.{AreOnce}
use Rattle.lu_target_refines.specs.Cookies.{HaveOther, HaveOneEach}
use Rattle.lu_target_refines.proofs.Lists.{every_all, every_map, every_both, every_filter, every_passed, filter_through}
use Rattle.lu_target_refines.proofs.Blocking.{each_filter}
use Rattle.lu_target_refines.proofs.Slots.{never}
use Rattle.lu_target_locks.specs.declared.departing.EndedLock.{EndedLock}
use Rattle.lu_target_locks.specs.declared.departing.Departure.{Departure}
use Rattle.lu_target_locks.specs.Departing.{asker_of, ended_with}
use Rattle.lu_target_server.specs.Servers.{ServerState}
use Rattle.lu_target_server.specs.Middles.{ShowsRest, MakesPart}
use Rattle.lu_target_server.specs.Releases.{MayRelease, MayDepart, departs, MayDepartAll}
use Rattle.lu_spec_entries.specs.Given.{giving}
use Rattle.lu_target_server.proofs.Composing.{giving_none, giving_more, turn_more}
use Rattle.lu_target_server.proofs.Middles.{noted, SoFar, so_far_more, so_far_all}

-- ---- the glimpses on other locks stay

-- the glimpses on l are the same
abbrev pub Stays : Target → Target → Lock → Type 0
Stays v w l = glimpses_of l w.glimpses ≡ glimpses_of l v.glimpses

abbrev Apart : Lock → Lock → Type 0
Apart l k = (k.cookie.0 == l.cookie.0) ≡ false

glimpse_passes : (g x : Glimpse) (l : Lock) → (g.cookie.0 == l.cookie.0) ≡ false → (x.cookie.0 == l.cookie.0) ≡ true
    → not (same_glimpse g x) ≡ true
glimpse_passes g x l apart here = by (same_glimpse g x) refl where
  by : (same : Bool) → same_glimpse g x ≡ same → not same ≡ true
  by false e = refl
  by true e = absurd (grind (arith, nat_tests))

ends_stay : (at : At) (gs : List Glimpse) (v u : Target) (l : Lock) → Every (λ g. (g.cookie.0 == l.cookie.0) ≡ false) gs
    → Stays u (turn u (glimpses_end at gs v)) l
ends_stay at [] v u l apart = refl
ends_stay at (g ∷ gs) v u l apart =
    ends_stay at gs v (turn u (Ends g ∷ row_locked v at g.request)) l apart.1
    ∙ filter_through (λ (x : Glimpse). x.cookie.0 == l.cookie.0) (λ (x : Glimpse). not (same_glimpse g x))
    (λ x here. glimpse_passes g x l apart.0 here) u.glimpses

cookie_apart : (g : Glimpse) (l k : Lock) → (k.cookie.0 == l.cookie.0) ≡ false → (g.cookie.0 == l.cookie.0) ≡ true
    → (g.cookie.0 == k.cookie.0) ≡ false
cookie_apart g l k apart here = grind (arith, nat_tests)

-- a release of l leaves those on k
release_stays : (at : At) (l k : Lock) (u : Target) → Apart l k → Stays u (turn u (releases at l u)) k
release_stays at l k u apart =
    ends_stay at (glimpses_of l u.glimpses) u (after u (Release l)) k
    (every_passed (λ (g : Glimpse). Unit {0}) (λ (g : Glimpse). (g.cookie.0 == k.cookie.0) ≡ false)
    (λ (g : Glimpse). g.cookie.0 == l.cookie.0)
    (λ g one here. cookie_apart g l k apart here) u.glimpses (every_all (λ (g : Glimpse). Unit {0}) (λ g. tt) u.glimpses))

stays_then : (u v w : Target) (l : Lock) → Stays u v l → Stays v w l → Stays u w l
stays_then u v w l one two = two ∙ one

all_stay : (at : At) (locks : List Lock) (k : Lock) (u : Target) → Every (λ l. Apart l k) locks
    → Stays u (turn u (all_released at locks u)) k
all_stay at [] k u apart = refl
all_stay at (l ∷ locks) k u apart =
    let next : Target = turn u (releases at l u) in
    ap (λ (w : Target). glimpses_of k w.glimpses) (turn_more u (releases at l u) (all_released at locks next))
    ∙ all_stay at locks k next apart.1
    ∙ release_stays at l k u apart.0

-- ---- one lock of a life after another

ended_same : (u w : Target) (locks : List Lock) → Every (Stays u w) locks → map {A = Lock} {B = EndedLock} (ended_with u.glimpses) locks
    ≡ map {A = Lock} {B = EndedLock} (ended_with w.glimpses) locks
ended_same u w [] stay = refl
ended_same u w (l ∷ locks) stay =
    ap (λ gs. record { lock = l; askers = map asker_of gs } ∷ map {A = Lock} {B = EndedLock} (ended_with u.glimpses) locks) (sym stay.0)
    ∙ ap (λ (more : List EndedLock). ended_with w.glimpses l ∷ more) (ended_same u w locks stay.1)

others_apart : (l : Lock) (locks : List Lock) → HaveOther l.cookie locks → Every (Apart l) locks
others_apart l [] other = tt
others_apart l (k ∷ locks) other = (other.0, others_apart l locks other.1)

pub may_release : (l : Lock) (locks : List Lock) (ended : EndedLock) (released : List EndedLock) (s : ServerState) (u : Target)
    → MayDepart (l ∷ locks) (ended ∷ released) s u
    → (ended.lock ≡ l) × MayRelease ended s u
may_release l locks ended released s u may = (lock_is, record { rest = may.rest; askers = askers_are }) where
  same : ended ≡ ended_with u.glimpses l
  same = let both = may.are in cc

  lock_is : ended.lock ≡ l
  lock_is = ap (λ (e : EndedLock). e.lock) same

  askers_are : ended.askers ≡ map asker_of (glimpses_of ended.lock u.glimpses)
  askers_are = ap (λ (e : EndedLock). e.askers) same ∙ ap (λ (k : Lock). map asker_of (glimpses_of k u.glimpses)) (sym lock_is)

pub depart_next : (at : At) (l : Lock) (locks : List Lock) (ended : EndedLock) (released : List EndedLock) (s now : ServerState)
    (u : Target) → MayDepart (l ∷ locks) (ended ∷ released) s u
    → ShowsRest now (turn u (releases at l u)) → MayDepart locks released now (turn u (releases at l u))
depart_next at l locks ended released s now u may rest = record {
  rest = rest;
  are = more ∙ ended_same u (turn u (releases at l u)) locks (every_map (Apart l) (Stays u (turn u (releases at l u)))
      (λ k apart. release_stays at l k u apart) locks (others_apart l locks may.once.0));
  once = may.once.1;
} where
  more : released ≡ map {A = Lock} {B = EndedLock} (ended_with u.glimpses) locks
  more = let both = may.are in cc

-- ---- one life after another

-- what one life has granted is other than what another has
not_both : (who other : Who) (l : Lock) → same_life who other ≡ false → same_life l.ask.who who ≡ true → same_life l.ask.who other ≡ false
not_both who other l apart here = by (same_life l.ask.who other) refl where
  by : (there : Bool) → same_life l.ask.who other ≡ there → there ≡ false
  by false e = refl
  by true e = absurd (grind (arith, nat_tests))

turned : (l k : Lock) → Apart l k → Apart k l
turned l k apart = grind (arith, nat_tests)

locks_apart : (who other : Who) (granted : List Lock) → same_life who other ≡ false → HaveOneEach granted
    → Every (λ k. Every (λ l. Apart l k) (locks_of who granted)) (locks_of other granted)
locks_apart who other [] apart once = tt
locks_apart who other (x ∷ granted) apart once = by (same_life x.ask.who who) refl (same_life x.ask.who other) refl
    (locks_apart who other granted apart once.1) where
      mine : List Lock
      mine = locks_of who granted

      theirs : List Lock
      theirs = locks_of other granted

      -- x is apart from all later ones
      after_x : Every (Apart x) granted
      after_x = others_apart x granted once.0

      by : (one : Bool) → same_life x.ask.who who ≡ one → (two : Bool) → same_life x.ask.who other ≡ two
          → Every (λ k. Every (λ l. Apart l k) mine) theirs
          → Every (λ k. Every (λ l. Apart l k) (cond one (x ∷ mine) mine)) (cond two (x ∷ theirs) theirs)
      by true e true f rest = absurd (never (sym f ∙ not_both who other x apart e))
      by true e false f rest =
          every_map (λ k. Apart x k × Every (λ l. Apart l k) mine) (λ k. Every (λ l. Apart l k) (x ∷ mine)) (λ k both. both) theirs
          (every_both (Apart x) (λ k. Every (λ l. Apart l k) mine) theirs
          (every_filter (Apart x) (λ l. same_life l.ask.who other) granted after_x) rest)
      by false e true f rest = (
        every_map (Apart x) (λ l. Apart l x) (λ l one. turned x l one) mine
            (every_filter (Apart x) (λ l. same_life l.ask.who who) granted after_x),
        rest,
      )
      by false e false f rest = rest

-- a life that leaves leaves what the others have
depart_stays : (at : At) (cause : Cause) (who : Who) (granted : List Lock) (u : Target) (other : Who) → same_life who other ≡ false
    → HaveOneEach granted
    → Every (Stays u (turn u (Evict who cause ∷ evicted u who ∷ all_released at (locks_of who granted) u))) (locks_of other granted)
depart_stays at cause who granted u other apart once =
    every_map (λ k. Every (λ l. Apart l k) (locks_of who granted)) (Stays u (turn u (all_released at (locks_of who granted) u)))
    (λ k all. all_stay at (locks_of who granted) k u all) (locks_of other granted) (locks_apart who other granted apart once)

others_once : (who : Who) (gone : List Who) → is_life who gone ≡ false → Every (λ other. same_life who other ≡ false) gone
others_once who [] none = tt
others_once who (other ∷ gone) none = let split = neither (same_life who other) (is_life who gone) none
    in (split.0, others_once who gone split.1) where
      neither : (a b : Bool) → (a || b) ≡ false → (a ≡ false) × (b ≡ false)
      neither true b h = absurd (never h)
      neither false b h = (refl, h)

departs_same : (u w : Target) (granted : List Lock) (gone : List Who) → Every (λ who. Every (Stays u w) (locks_of who granted)) gone
    → map {A = Who} {B = Departure} (departs u.glimpses granted) gone ≡ map {A = Who} {B = Departure} (departs w.glimpses granted) gone
departs_same u w granted [] stay = refl
departs_same u w granted (who ∷ gone) stay =
    ap (λ (released : List EndedLock). record { who = who; released = released }
    ∷ map {A = Who} {B = Departure} (departs u.glimpses granted) gone) (ended_same u w (locks_of who granted) stay.0)
    ∙ ap (λ (more : List Departure). departs w.glimpses granted who ∷ more) (departs_same u w granted gone stay.1)

pub may_depart : (granted : List Lock) (who : Who) (gone : List Who) (departure : Departure) (departures : List Departure) (s : ServerState)
    (u : Target)
    → MayDepartAll granted (who ∷ gone) (departure ∷ departures) s u → (departure.who ≡ who)
    × MayDepart (locks_of who granted) departure.released s u
may_depart granted who gone departure departures s u may = (
  ap (λ (d : Departure). d.who) same,
  record {
    rest = may.rest;
    are = ap (λ (d : Departure). d.released) same;
    once =
        each_filter (λ l. same_life l.ask.who who) granted may.once;
  },
) where
  same : departure ≡ departs u.glimpses granted who
  same = let both = may.are in cc

pub depart_all_next : (at : At) (cause : Cause) (granted : List Lock) (who : Who) (gone : List Who) (departure : Departure)
    (departures : List Departure) (s now : ServerState) (u : Target)
    → MayDepartAll granted (who ∷ gone) (departure ∷ departures) s u
    → (let es = Evict who cause ∷ evicted u who ∷ all_released at (locks_of who granted) u in
    ShowsRest now (turn u es) → MayDepartAll granted gone departures now (turn u es))
depart_all_next at cause granted who gone departure departures s now u may rest =
    let next : Target = turn u (Evict who cause ∷ evicted u who ∷ all_released at (locks_of who granted) u) in
    record {
      rest = rest;
      are = more ∙ departs_same u next granted gone
          (every_map (λ other. same_life who other ≡ false) (λ other. Every (Stays u next) (locks_of other granted))
          (λ other apart. depart_stays at cause who granted u other apart may.once) gone
          (others_once who gone may.lives.0));
      once = may.once;
      lives = may.lives.1;
    }
  where
    more : departures ≡ map {A = Who} {B = Departure} (departs u.glimpses granted) gone
    more = let both = may.are in cc

-- ---- the loop over the locks of a life

abbrev pub departing : At → Cause → Who → List Lock → Target → List Entry
departing at cause who locks v = Evict who cause ∷ evicted v who ∷ all_released at locks v

pub depart_begins : (s : ServerState) (v : Target) (cause : Cause) (who : Who) (locks : List Lock) (released : List EndedLock)
    (before lined between : Making) → MayDepart locks released s v
    → lined.at ≡ before.at → lined.step ≡ with_line before.at before.step (line.Evict who cause) → between
    ≡ giving lined (to_life who (message.Evicted who s.boot) ∷ [])
    → SoFar (MayDepart locks released) (departing before.at cause who locks v) (all_released before.at locks) v s before between
depart_begins s v cause who locks released before lined between may at step said = record {
  es = Evict who cause ∷ evicted v who ∷ [];
  gives = said ∙ ap (λ (boot : ℕ). giving lined (to_life who (message.Evicted who boot) ∷ [])) (sym may.rest.boot)
      ∙ ap (λ (making : Making). giving making (evicted v who ∷ []))
      (noted before lined (Evict who cause) (line.Evict who cause) refl refl at step)
      ∙ giving_more before (Evict who cause ∷ []) (evicted v who ∷ []);
  whole = refl;
  shows = may;
}

pub depart_goes :
    (s now : ServerState) (v : Target) (all : List Entry) (l : Lock) (locks left : List Lock) (ended : EndedLock)
    (released ended_left : List EndedLock) (before between afterwards : Making)
    → left ≡ l ∷ locks → ended_left ≡ ended ∷ released
    → SoFar (MayDepart left ended_left) all (all_released before.at left) v s before between
    → ((u : Target) → MayRelease ended s u → MakesPart (releases between.at ended.lock u) u s now between afterwards)
    → SoFar (MayDepart locks released) all (all_released before.at locks) v now before afterwards
depart_goes s now v all l locks left ended released ended_left before between afterwards is_left is_ended so_far releases_it =
    let at : between.at ≡ before.at = ap (λ (making : Making). making.at) so_far.gives in
    let u : Target = turn v so_far.es in
    let may : MayDepart (l ∷ locks) (ended ∷ released) s u =
    subst (λ (them : List EndedLock). MayDepart (l ∷ locks) them s u) is_ended
    (subst (λ (them : List Lock). MayDepart them ended_left s u) is_left so_far.shows) in
    let one = may_release l locks ended released s u may in
    let part : MakesPart (releases before.at l u) u s now between afterwards =
    subst (λ (k : Lock). MakesPart (releases before.at k u) u s now between afterwards) one.0
    (subst (λ (it : At). MakesPart (releases it ended.lock u) u s now between afterwards) at (releases_it u one.1)) in
    so_far_more (MayDepart left ended_left) (MayDepart locks released) all (all_released before.at left) (all_released before.at locks) v s
    now before between afterwards so_far (releases before.at l u) part.gives
    (ap (λ (them : List Lock). all_released before.at them u) is_left) (depart_next before.at l locks ended released s now u may part.shows)

-- what the release of one of them asks
pub depart_asks : (s : ServerState) (v : Target) (all : List Entry) (more : Target → List Entry) (l : Lock) (locks left : List Lock)
    (ended : EndedLock) (released ended_left : List EndedLock) (before between : Making)
    → left ≡ l ∷ locks → ended_left ≡ ended ∷ released → (so_far : SoFar (MayDepart left ended_left) all more v s before between)
    → MayRelease ended s (turn v so_far.es)
depart_asks s v all more l locks left ended released ended_left before between is_left is_ended so_far =
    let u : Target = turn v so_far.es in
    (may_release l locks ended released s u
    (subst (λ (them : List EndedLock). MayDepart (l ∷ locks) them s u) is_ended
    (subst (λ (them : List Lock). MayDepart them ended_left s u) is_left so_far.shows))).1

pub depart_ends : (s now : ServerState) (v : Target) (all : List Entry) (left : List Lock) (ended_left : List EndedLock)
    (before afterwards : Making) → left ≡ []
    → SoFar (MayDepart left ended_left) all (all_released before.at left) v now before afterwards → now.locks ≡ s.locks
    → MakesPart all v s now before afterwards
depart_ends s now v all left ended_left before afterwards none so_far locks =
    let made = so_far_all (MayDepart left ended_left) all (all_released before.at left) v now before afterwards so_far
    (ap (λ (them : List Lock). all_released before.at them (turn v so_far.es)) none) in
    record { gives = made.0; shows = made.1.rest; locks = locks }

-- ---- the loop over the lives

pub depart_all_begins : (s : ServerState) (w : Target) (cause : Cause) (granted : List Lock) (gone : List Who) (departures : List Departure)
    (making : Making) → MayDepartAll granted gone departures s w
    → SoFar (MayDepartAll granted gone departures) (evictions making.at cause granted gone w) (evictions making.at cause granted gone) w s
    making making
depart_all_begins s w cause granted gone departures making may =
    record { es = []; gives = sym (giving_none making); whole = refl; shows = may }

pub depart_all_asks : (s : ServerState) (w : Target) (all : List Entry) (more : Target → List Entry) (granted : List Lock) (who : Who)
    (gone left : List Who) (departure : Departure)
    (departures departures_left : List Departure) (before between : Making) → left ≡ who ∷ gone → departures_left ≡ departure ∷ departures
    → (so_far : SoFar (MayDepartAll granted left departures_left) all more w s before between)
    → MayDepart (locks_of who granted) departure.released s (turn w so_far.es)
depart_all_asks s w all more granted who gone left departure departures departures_left before between is_left is_departures so_far =
    let u : Target = turn w so_far.es in
    (may_depart granted who gone departure departures s u
    (subst (λ (them : List Departure). MayDepartAll granted (who ∷ gone) them s u) is_departures
    (subst (λ (them : List Who). MayDepartAll granted them departures_left s u) is_left so_far.shows))).1

pub depart_all_goes :
    (s now : ServerState) (w : Target) (all : List Entry) (cause : Cause) (granted : List Lock) (who : Who) (gone left : List Who)
    (departure : Departure) (departures departures_left : List Departure)
    (before between afterwards : Making) → left ≡ who ∷ gone → departures_left ≡ departure ∷ departures
    → SoFar (MayDepartAll granted left departures_left) all (evictions before.at cause granted left) w s before between
    → ((u : Target) (locks : List Lock) → MayDepart locks departure.released s u
    → MakesPart (departing between.at cause departure.who locks u) u s now between afterwards)
    → SoFar (MayDepartAll granted gone departures) all (evictions before.at cause granted gone) w now before afterwards
depart_all_goes s now w all cause granted who gone left departure departures departures_left before between afterwards is_left is_departures
    so_far departs_it =
    let at : between.at ≡ before.at = ap (λ (making : Making). making.at) so_far.gives in
    let u : Target = turn w so_far.es in
    let may : MayDepartAll granted (who ∷ gone) (departure ∷ departures) s u =
    subst (λ (them : List Departure). MayDepartAll granted (who ∷ gone) them s u) is_departures
    (subst (λ (them : List Who). MayDepartAll granted them departures_left s u) is_left so_far.shows) in
    let one = may_depart granted who gone departure departures s u may in
    let part : MakesPart (departing before.at cause who (locks_of who granted) u) u s now between afterwards =
    subst (λ (it : Who). MakesPart (departing before.at cause it (locks_of who granted) u) u s now between afterwards) one.0
    (subst (λ (it : At). MakesPart (departing it cause departure.who (locks_of who granted) u) u s now between afterwards) at
    (departs_it u (locks_of who granted) one.1)) in
    so_far_more (MayDepartAll granted left departures_left) (MayDepartAll granted gone departures) all
    (evictions before.at cause granted left) (evictions before.at cause granted gone) w s now before between afterwards
    so_far (departing before.at cause who (locks_of who granted) u) part.gives
    (ap (λ (them : List Who). evictions before.at cause granted them u) is_left)
    (depart_all_next before.at cause granted who gone departure departures s now u may part.shows)

pub depart_all_ends : (s now : ServerState) (w : Target) (all : List Entry) (cause : Cause) (granted : List Lock) (left : List Who)
    (departures_left : List Departure) (before afterwards : Making) → left ≡ []
    → SoFar (MayDepartAll granted left departures_left) all (evictions before.at cause granted left) w now before afterwards → now.locks
    ≡ s.locks → MakesPart all w s now before afterwards
depart_all_ends s now w all cause granted left departures_left before afterwards none so_far locks =
    let made = so_far_all (MayDepartAll granted left departures_left) all (evictions before.at cause granted left) w now before afterwards
    so_far
    (ap (λ (them : List Who). evictions before.at cause granted them (turn w so_far.es)) none) in
    record { gives = made.0; shows = made.1.rest; locks = locks }
