-- A lock is given back: its release, and what goes on then.
use Rattle.std.proofs.Common.{◌≡◌, ℕ, ◌==◌, ◌&&◌, Bool, true, false, List, [], ◌∷◌, ◌++◌, map, Option, Some, None, refl, sym, ap, subst}
use Rattle.std.proofs.Common.{◌∙◌}
use Rattle.std.specs.Prelude.{if◌then◌else◌}
use Rattle.std.proofs.lemmas.Bool.{eqb-true}
use Rattle.lu_base.specs.declared.ids.At.{At}
use Rattle.lu_base.specs.declared.ids.Cookie.{Cookie}
use Rattle.lu_base.specs.declared.ids.Who.{Who}
use Rattle.lu_base.specs.declared.locks.Lock.{Lock}
use Rattle.lu_queue.specs.declared.locks.Grant.{Grant}
use Rattle.lu_service.specs.declared.services.Kind.{Kind}
use Rattle.lu_service.specs.declared.services.Kind.TheVariants.{Mdt, Ost}
use Rattle.lu_trace.specs.Turns.{Making}
use Rattle.lu_spec_entries.specs.Words.{Entry, same_life}
use Rattle.lu_spec_target.specs.Replies.{locks_on}
use Rattle.lu_spec_target.specs.Names.{names_go}
use Rattle.lu_spec_target.specs.Queues.{grants_go, queue_goes}
use Rattle.lu_spec_target.specs.Objects.{lock_of}
use Rattle.lu_spec_target.specs.Requests.{releases, goes_on, row_cancels, row_cancel}
use Rattle.lu_spec_target.specs.States.{Target, turn, follow, is_names}
use Rattle.lu_target_refines.specs.Locks.{grants_told}
use Rattle.lu_target_locks.specs.declared.departing.EndedLock.{EndedLock}
use Rattle.lu_target_locks.specs.Servers as locking
use Rattle.lu_target_locks.specs.Servers.{ServerState as LockState, IsNoRelease}
use Rattle.lu_target_invariant.specs.Sound.{HasLocksOf}
use Rattle.lu_target_invariant.proofs.Spent.{overruns_later}
use Rattle.lu_spec_target.specs.Rows.{overruns}
use Rattle.lu_target_server.specs.Numbers.{Overruns}
use Rattle.lu_spec_entries.specs.Given.{giving}
use Rattle.lu_target_server.specs.Servers.{ServerState, Shows, Stands, Makes}
use Rattle.lu_target_server.specs.Middles.{ShowsRest, MakesPart, MakesRest}
use Rattle.lu_target_server.specs.Releases.{MayRelease, IsGivenBack, QueueGoesOn}
use Rattle.lu_target_server.proofs.Composing.{giving_none}
use Rattle.lu_target_server.proofs.Middles.{rest_of, whole, with_locks, names_row, rest_then}

-- the locks alone are others
locks_same : (s now : ServerState) → now ≡ record s { locks = now.locks } → now.locks ≡ s.locks → now ≡ s
locks_same s now same locks = same ∙ ap (λ (it : LockState). record s { locks = it }) locks

-- ---- nothing is done

pub cancels_nothing : (s now : ServerState) (making : Making) (who : Who) (cookie : Cookie) → IsNoRelease who cookie s.locks now.locks → now
    ≡ record s { locks = now.locks }
    → Makes (λ v. row_cancel v making.at who cookie) s now making making
cancels_nothing s now making who cookie none same = record {
  gives = λ v shows. sym (giving_none making) ∙ ap (λ (found : Option Lock). giving making (row_cancels v making.at found))
      (sym (none.0 v shows.locks));
  shows = λ v shows.
      subst (λ (it : ServerState). Shows it (turn v (row_cancel v making.at who cookie))) (sym (locks_same s now same none.1))
      (subst (λ (found : Option Lock). Shows s (turn v (row_cancels v making.at found))) (sym (none.0 v shows.locks)) shows);
}

-- ---- it is released

pub may_release_back : (s now : ServerState) (v : Target) (who : Who) (cookie : Cookie) (ended : EndedLock) (granted : List Grant)
    → Shows s v → now ≡ record s { locks = now.locks }
    → IsGivenBack who cookie ended granted s.locks now.locks → MayRelease ended now v
may_release_back s now v who cookie ended granted shows same back = record {
  rest = subst (λ (it : ServerState). ShowsRest it v) (sym same) (with_locks s now.locks v (rest_of s v shows));
  askers = back.askers v shows.locks;
}

-- ---- a target of names: nothing waits

waits_nothing : (kind : Kind) (w : Target) → kind ≡ Mdt → HasLocksOf kind w → w.waiting ≡ []
waits_nothing Mdt w is locks = locks.1
waits_nothing Ost w is locks = absurd (cc)

module _ (s back released : ServerState) (v : Target) (who : Who) (cookie : Cookie) (ended : EndedLock) (granted : List Grant)
    (before between : Making) (shows : Shows s v)
    (is_back : IsGivenBack who cookie ended granted s.locks back.locks)
    (part : MakesPart (releases before.at ended.lock v) v back released before between) where
  abbrev pub w : Target
  w = turn v (releases before.at ended.lock v)

  locks_now : locking.Shows released.locks (turn w (grants_told ended.lock.resource w granted))
  locks_now = subst (λ (it : LockState). locking.Shows it (turn w (grants_told ended.lock.resource w granted))) (sym part.locks)
      (is_back.released.shows v before.at shows.locks)

  pub names_after : released.kind ≡ Mdt → Shows released w
  names_after is =
      let none : grants_told ended.lock.resource w granted ≡ [] =
      sym (is_back.released.granted v before.at shows.locks)
      ∙ ap (λ (waiting : List Lock). grants_go [] (locks_on ended.lock.resource waiting) w)
      (waits_nothing released.kind w is part.shows.sound.locks) in
      whole released w part.shows (subst (λ (es : List Entry). locking.Shows released.locks (turn w es)) none locks_now)

  pub queue_after : QueueGoesOn ended.lock.resource granted released w
  queue_after = record { rest = part.shows; told = is_back.released.granted v before.at shows.locks; shows = locks_now }

  -- what goes on then
  pub goes_names : (now : ServerState) (afterwards : Making) → released.kind ≡ Mdt → (released.id == 0) ≡ true → between.at ≡ before.at
      → Makes (names_go between.at) released now between afterwards
      → MakesRest (follow v (releases before.at ended.lock v) (goes_on ended.lock before.at)) v now before afterwards
  goes_names now afterwards is test same makes =
      let there : Shows released w = names_after is in
      let made : MakesRest (names_go between.at w) w now between afterwards =
      record { gives = makes.gives w there; shows = makes.shows w there } in
      rest_then (releases before.at ended.lock v) (goes_on ended.lock before.at w) v back released now before between afterwards part
      (subst (λ (names : Bool). MakesRest (if names then names_go before.at w else queue_goes ended.lock.resource w) w now between
      afterwards) (sym (names_row released.id w part.shows.id ∙ test))
      (subst (λ (at : At). MakesRest (names_go at w) w now between afterwards) same made))

  pub goes_objects : (now : ServerState) (afterwards : Making) → (released.id == 0) ≡ false
      → MakesRest (queue_goes ended.lock.resource w) w now between afterwards
      → MakesRest (follow v (releases before.at ended.lock v) (goes_on ended.lock before.at)) v now before afterwards
  goes_objects now afterwards test made =
      rest_then (releases before.at ended.lock v) (goes_on ended.lock before.at w) v back released now before between afterwards part
      (subst (λ (names : Bool). MakesRest (if names then names_go before.at w else queue_goes ended.lock.resource w) w now between
      afterwards) (sym (names_row released.id w part.shows.id ∙ test)) made)

  -- it overruns
  pub over_names : released.kind ≡ Mdt → (released.id == 0) ≡ true → between.at ≡ before.at → Overruns (names_go between.at) released
      → overruns v (follow v (releases before.at ended.lock v) (goes_on ended.lock before.at)) ≡ true
  over_names is test same over =
      overruns_later v (releases before.at ended.lock v) (goes_on ended.lock before.at w)
      (subst (λ (names : Bool). overruns w (if names then names_go before.at w else queue_goes ended.lock.resource w) ≡ true)
      (sym (names_row released.id w part.shows.id ∙ test))
      (subst (λ (at : At). overruns w (names_go at w) ≡ true) same (over w (names_after is))))

pub over_cancels : (s : ServerState) (who : Who) (cookie : Cookie) (l : Lock) (at : At)
    → ((v : Target) → Shows s v → lock_of who cookie v.granted ≡ Some l)
    → ((v : Target) → Shows s v → overruns v (follow v (releases at l v) (goes_on l at)) ≡ true)
    → Overruns (λ v. row_cancel v at who cookie) s
over_cancels s who cookie l at was over = λ v shows. subst (λ (found : Option Lock). overruns v (row_cancels v at found) ≡ true)
    (sym (was v shows)) (over v shows)

pub cancels : (s now : ServerState) (who : Who) (cookie : Cookie) (l : Lock) (before afterwards : Making)
    → ((v : Target) → Shows s v → lock_of who cookie v.granted ≡ Some l)
    → ((v : Target) → Shows s v → MakesRest (follow v (releases before.at l v) (goes_on l before.at)) v now before afterwards)
    → Makes (λ v. row_cancel v before.at who cookie) s now before afterwards
cancels s now who cookie l before afterwards was made = record {
  gives = λ v shows. (made v shows).gives ∙ ap (λ (found : Option Lock). giving before (row_cancels v before.at found)) (sym (was v shows));
  shows = λ v shows. subst (λ (found : Option Lock). Shows now (turn v (row_cancels v before.at found))) (sym (was v shows))
      (made v shows).shows;
}

-- ---- the lock has the cookie

pub cookie_of : (who : Who) (cookie : Cookie) (locks : List Lock) (l : Lock) → lock_of who cookie locks ≡ Some l → l.cookie ≡ cookie
cookie_of who cookie [] l found = absurd (cc)
cookie_of who cookie (x ∷ locks) l found = by (x.cookie.0 == cookie.0 && same_life x.ask.who who) refl found
    (cookie_of who cookie locks l) where
      some_is : Some x ≡ Some l → x ≡ l
      some_is f = cc

      left : (a b : Bool) → (a && b) ≡ true → a ≡ true
      left true b h = refl
      left false b h = h

      by : (here : Bool) → (x.cookie.0 == cookie.0 && same_life x.ask.who who) ≡ here → (if here then Some x else lock_of who cookie locks)
          ≡ Some l → (lock_of who cookie locks ≡ Some l → l.cookie ≡ cookie)
          → l.cookie ≡ cookie
      by true e found rest =
          subst (λ (k : Lock). k.cookie ≡ cookie) (some_is found) (ap (λ (n : ℕ). record { 0 = n })
          (eqb-true x.cookie.0 cookie.0 (left (x.cookie.0 == cookie.0) (same_life x.ask.who who) e)))
      by false e found rest = rest found
