-- What lives had, as it is listed when they leave, is what the rows have of them.
use Rattle.std.proofs.Common.{◌≡◌, ℕ, ◌==◌, ◌&&◌, ◌||◌, Bool, true, false, cond, not, Some, None, List, [], ◌∷◌, ◌++◌, map, filter, refl}
use Rattle.std.proofs.Common.{sym, ◌∙◌, ap}
use Rattle.std.specs.Prelude.{if◌then◌else◌, filter_map}
use Rattle.std.specs.List.{list_any, AllByRecursion, cons_option}
use Rattle.std.proofs.lemmas.List.Elements.{All-filter, recursion_from_All}
use Rattle.std.proofs.lemmas.List.Folds.{list_any-append}
use Rattle.lu_base.specs.declared.ids.Cookie.{Cookie}
use Rattle.lu_base.specs.declared.ids.Who.{Who}
use Rattle.lu_base.specs.declared.locks.Lock.{Lock}
use Rattle.lu_callback.specs.declared.callbacks.Asked.{Asked}
use Rattle.lu_callback.specs.declared.callbacks.Kind.{Kind}
use Rattle.lu_callback.specs.declared.callbacks.Kind.TheVariants as kind
use Rattle.lu_callback.specs.Callbacks.{is_of_locks, without_locks}
use Rattle.lu_lockspace.specs.Spaces.{SpaceState, lock_of, has}
use Rattle.lu_spec_entries.specs.Carried.{Glimpse}
use Rattle.lu_spec_entries.specs.Words.{same_life}
use Rattle.lu_spec_target.specs.Lives.{is_life}
use Rattle.lu_spec_target.specs.Glimpses.{glimpses_of}
use Rattle.lu_spec_target.specs.Leaving.{locks_of}
use Rattle.lu_spec_target.specs.Replies.{is_called}
use Rattle.lu_spec_target.specs.States.{Target}
use Rattle.lu_target_refines.specs.Callbacks.{ShowsCalls, glimpse_kind, is_theirs, cookies_of}
use Rattle.lu_target_refines.specs.Locks.{ShowsLocks}
use Rattle.lu_target_refines.proofs.Answered as answered
use Rattle.lu_target_refines.proofs.Finding as finding
use Rattle.lu_target_refines.proofs.LockLists.{filters_commute}
use Rattle.lu_target_refines.proofs.Lists.{any_either, any_filter, any_map, any_same, every_all, filter_same, passes_none}
use Rattle.lu_target_refines.proofs.Ranks.{found_each}
use Rattle.lu_target_locks.specs.declared.departing.Asker.{Asker}
use Rattle.lu_target_locks.specs.declared.departing.Departure.{Departure}
use Rattle.lu_target_locks.specs.declared.departing.EndedLock.{EndedLock}
use Rattle.lu_target_locks.specs.Departing.{staying, asker_of, ended_with, departure_of}
use Rattle.lu_target_locks.specs.Leaving.{asked_by, kinds_of, ended_as, ended_all, IsDeparture, AreDepartures, AreTheirs}

-- ---- who asked in vain

askers_are : (gone : List Who) (gs : List Glimpse) → filter_map (asked_by gone) (map glimpse_kind gs) ≡ map asker_of (staying gone gs)
askers_are gone [] = refl
askers_are gone (g ∷ gs) = by (is_life g.request.who gone) (askers_are gone gs) where
  by : (b : Bool) → filter_map (asked_by gone) (map glimpse_kind gs) ≡ map asker_of (staying gone gs)
      → cons_option (if b then None else Some (asker_of g)) (filter_map (asked_by gone) (map glimpse_kind gs))
      ≡ map asker_of (cond (not b) (g ∷ staying gone gs) (staying gone gs))
  by true rest = rest
  by false rest = ap (λ (more : List Asker). asker_of g ∷ more) rest

-- a block is nobody's question
behind_block : (gone : List Who) (b : Bool) (kinds : List Kind) → filter_map (asked_by gone) ((if b then kind.Block ∷ [] else []) ++ kinds)
    ≡ filter_map (asked_by gone) kinds
behind_block gone true kinds = refl
behind_block gone false kinds = refl

of_lock_are : (asked : List Asked) (v : Target) (gone : List Who) (l : Lock) → ShowsCalls asked v →
    filter_map (asked_by gone) (kinds_of l.cookie asked) ≡ map asker_of (glimpses_of l (staying gone v.glimpses))
of_lock_are asked v gone l shows =
    ap (filter_map (asked_by gone)) (answered.kinds_of v asked l shows)
    ∙ behind_block gone (is_called l.cookie v.called) (map glimpse_kind (glimpses_of l v.glimpses))
    ∙ askers_are gone (glimpses_of l v.glimpses)
    ∙ ap (map asker_of) (filters_commute (λ (g : Glimpse). not (is_life g.request.who gone)) (λ (g : Glimpse). g.cookie.0 == l.cookie.0)
    v.glimpses)

-- ---- the locks of a life

ended_are : (space : SpaceState) (asked : List Asked) (v : Target) (gone : List Who) → ShowsCalls asked v → (locks : List Lock) →
    AllByRecursion (λ l. (lock_of l.cookie.0 space ≡ Some l) × (has l.cookie.0 space.granted ≡ true)) locks →
    ended_all space asked gone (finding.cookies_of locks) ≡ map (ended_with (staying gone v.glimpses)) locks
ended_are space asked v gone shows [] each = refl
ended_are space asked v gone shows (l ∷ locks) each =
    ap (λ o. cons_option (ended_as gone (kinds_of l.cookie asked) o) (ended_all space asked gone (finding.cookies_of locks))) each.0.0
    ∙ ap (λ (askers : List Asker). record { lock = l; askers = askers } ∷ ended_all space asked gone (finding.cookies_of locks))
    (of_lock_are asked v gone l shows)
    ∙ ap (λ (more : List EndedLock). ended_with (staying gone v.glimpses) l ∷ more) (ended_are space asked v gone shows locks each.1)

departure_is : (space : SpaceState) (asked : List Asked) (v : Target) (gone : List Who) (who : Who) (departure : Departure)
    → ShowsLocks space v → ShowsCalls asked v →
    IsDeparture space asked gone who departure → departure ≡ departure_of gone v who
departure_is space asked v gone who departure locks calls (cookies, are, is) =
    is ∙ ap (λ (cs : List Cookie). record { who = who; released = ended_all space asked gone cs })
    (finding.held_by space v who cookies locks are)
    ∙ ap (λ (released : List EndedLock). record { who = who; released = released })
    (ended_are space asked v gone calls (locks_of who v.granted)
    (recursion_from_All (λ l. (lock_of l.cookie.0 space ≡ Some l) × (has l.cookie.0 space.granted ≡ true)) (locks_of who v.granted)
    (All-filter (λ l. same_life l.ask.who who) (λ l. (lock_of l.cookie.0 space ≡ Some l) × (has l.cookie.0 space.granted ≡ true)) v.granted
    (found_each space v locks))))

pub departures_are : (space : SpaceState) (asked : List Asked) (v : Target) (gone lives : List Who) (departures : List Departure)
    → ShowsLocks space v → ShowsCalls asked v →
    AreDepartures space asked gone lives departures → departures ≡ map (departure_of gone v) lives
departures_are space asked v gone [] departures locks calls none = none
departures_are space asked v gone (who ∷ lives) departures locks calls (first, rest, all, is, more) =
    all ∙ ap (λ (d : Departure). d ∷ rest) (departure_is space asked v gone who first locks calls is)
    ∙ ap (λ (ds : List Departure). departure_of gone v who ∷ ds) (departures_are space asked v gone lives rest locks calls more)

-- ---- the cookies of what they had

theirs_any : (space : SpaceState) (v : Target) (n : ℕ) → ShowsLocks space v → (lives : List Who) (cookies : List Cookie)
    → AreTheirs space lives cookies →
    list_any (λ (c : Cookie). n == c.0) cookies ≡ list_any (λ l. is_life l.ask.who lives && n == l.cookie.0) v.granted
theirs_any space v n shows [] cookies none =
    ap (list_any (λ (c : Cookie). n == c.0)) none
    ∙ sym (passes_none (λ l. is_life l.ask.who [] && n == l.cookie.0) v.granted
    (every_all (λ l. (is_life l.ask.who [] && n == l.cookie.0) ≡ false) (λ l. refl) v.granted))
theirs_any space v n shows (who ∷ lives) cookies (first, rest, all, are, more) =
    ap (list_any (λ (c : Cookie). n == c.0)) all
    ∙ list_any-append (λ (c : Cookie). n == c.0) first rest
    ∙ ap (λ b. b || list_any (λ (c : Cookie). n == c.0) rest) here
    ∙ ap (λ b. list_any (λ l. same_life l.ask.who who && n == l.cookie.0) v.granted || b) (theirs_any space v n shows lives rest more)
    ∙ any_either (λ l. same_life l.ask.who who && n == l.cookie.0) (λ l. is_life l.ask.who lives && n == l.cookie.0) v.granted
    ∙ any_same (λ l. (same_life l.ask.who who && n == l.cookie.0) || (is_life l.ask.who lives && n == l.cookie.0))
    (λ l. is_life l.ask.who (who ∷ lives) && n == l.cookie.0) v.granted
    (λ l. by (same_life l.ask.who who) (is_life l.ask.who lives) (n == l.cookie.0))
  where
    here : list_any (λ (c : Cookie). n == c.0) first ≡ list_any (λ l. same_life l.ask.who who && n == l.cookie.0) v.granted
    here =
        ap (list_any (λ (c : Cookie). n == c.0)) (finding.held_by space v who first shows are)
        ∙ any_map (λ (l : Lock). l.cookie) (λ c. n == c.0) (locks_of who v.granted)
        ∙ any_filter (λ l. n == l.cookie.0) (λ l. same_life l.ask.who who) v.granted

    by : (a b c : Bool) → ((a && c) || (b && c)) ≡ ((a || b) && c)
    by true true true = refl
    by true true false = refl
    by true false true = refl
    by true false false = refl
    by false b c = refl

pub without_theirs : (space : SpaceState) (asked : List Asked) (v : Target) (gone : List Who) (cookies : List Cookie) → ShowsLocks space v
    → AreTheirs space gone cookies →
    without_locks cookies asked ≡ without_locks (cookies_of gone v.granted) asked
without_theirs space asked v gone cookies shows theirs =
    filter_same (λ a. not (is_of_locks cookies a)) (λ a. not (is_of_locks (cookies_of gone v.granted) a)) asked
    (λ a. ap not (theirs_any space v a.cookie.0 shows gone cookies theirs ∙ sym (of_cookies a)))
  where
    of_cookies : (a : Asked) → is_of_locks (cookies_of gone v.granted) a
        ≡ list_any (λ l. is_life l.ask.who gone && a.cookie.0 == l.cookie.0) v.granted
    of_cookies a =
        any_map (λ (l : Lock). l.cookie) (λ cookie. a.cookie.0 == cookie.0) (filter (is_theirs gone) v.granted)
        ∙ any_filter (λ l. a.cookie.0 == l.cookie.0) (is_theirs gone) v.granted

-- ---- who asked, where no life leaves

all_stay : (gs : List Glimpse) → staying [] gs ≡ gs
all_stay [] = refl
all_stay (g ∷ gs) = ap (λ (more : List Glimpse). g ∷ more) (all_stay gs)

pub asked_of : (asked : List Asked) (v : Target) (l : Lock) → ShowsCalls asked v → filter_map (asked_by []) (kinds_of l.cookie asked)
    ≡ map asker_of (glimpses_of l v.glimpses)
asked_of asked v l shows = of_lock_are asked v [] l shows ∙ ap (λ gs. map asker_of (glimpses_of l gs)) (all_stay v.glimpses)
