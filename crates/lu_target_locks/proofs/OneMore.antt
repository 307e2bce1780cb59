-- One more, as at a step of a loop.
use Rattle.std.proofs.Common.{◌≡◌, ℕ, ◌+◌, ◌<◌, Option, Some, None, List, [], ◌∷◌, ◌++◌, length, take, get_or, refl, sym, ◌∙◌, ap, subst}
use Rattle.std.specs.Prelude.{filter_map}
use Rattle.std.specs.List.{cons_option}
use Rattle.std.proofs.lemmas.List.{take_more, append-nil, append_assoc}
use Rattle.lu_base.specs.declared.ids.Cookie.{Cookie}
use Rattle.lu_base.specs.declared.ids.Who.{Who}
use Rattle.lu_base.specs.declared.locks.Lock.{Lock}
use Rattle.lu_base.specs.declared.locks.Resource.{Resource}
use Rattle.lu_callback.specs.declared.callbacks.Asked.{Asked}
use Rattle.lu_queue.specs.Queues.{same_who}
use Rattle.lu_lockspace.specs.Spaces.{SpaceState, AreCookiesOf}
use Rattle.lu_target_locks.specs.declared.departing.Departure.{Departure}
use Rattle.lu_target_locks.specs.declared.departing.EndedLock.{EndedLock}
use Rattle.lu_target_locks.specs.declared.departing.QueueStep.{QueueStep}
use Rattle.lu_target_locks.specs.Leaving.{ended_under, ended_all, IsDeparture, AreDepartures, AreTheirs, HasGoneOn, AllHaveGoneOn}

-- ---- locks of cookies

behind : {X Y : Type 0} (f : X → Option Y) (xs : List X) (x : X) → filter_map f (xs ++ x ∷ []) ≡ filter_map f xs ++ cons_option (f x) []
behind f [] x = refl
behind {X} {Y} f (k ∷ xs) x = by (f k) (behind f xs x) where
  by : (o : Option Y) → filter_map f (xs ++ x ∷ []) ≡ filter_map f xs ++ cons_option (f x) [] → cons_option o (filter_map f (xs ++ x ∷ []))
      ≡ cons_option o (filter_map f xs) ++ cons_option (f x) []
  by None rest = rest
  by (Some y) rest = ap (λ (ys : List Y). y ∷ ys) rest

pub ended_more : (space : SpaceState) (asked : List Asked) (gone : List Who) (cookies : List Cookie) (i : ℕ) (d : Cookie)
    (all : List EndedLock) → i < length cookies →
    all ≡ ended_all space asked gone (take i cookies) → all ++ cons_option (ended_under space asked gone (get_or cookies i d)) []
    ≡ ended_all space asked gone (take (i + 1) cookies)
ended_more space asked gone cookies i d all within so_far =
    ap (λ (es : List EndedLock). es ++ cons_option (ended_under space asked gone (get_or cookies i d)) []) so_far
    ∙ sym (behind (ended_under space asked gone) (take i cookies) (get_or cookies i d))
    ∙ ap (ended_all space asked gone) (sym (take_more cookies i d within))

-- ---- lives

departures_behind : (space : SpaceState) (asked : List Asked) (gone lives : List Who) (who : Who) (ds : List Departure) (one : Departure)
    → IsDeparture space asked gone who one →
    AreDepartures space asked gone lives ds → AreDepartures space asked gone (lives ++ who ∷ []) (ds ++ one ∷ [])
departures_behind space asked gone [] who ds one is none = (one, [], ap (λ (xs : List Departure). xs ++ one ∷ []) none, is, refl)
departures_behind space asked gone (w ∷ lives) who ds one is (first, rest, all, here, more) = (
  first,
  rest ++ one ∷ [],
  ap (λ (xs : List Departure). xs ++ one ∷ []) all,
  here,
  departures_behind space asked gone lives who rest one is more,
)

pub departures_more : (space : SpaceState) (asked : List Asked) (gone lives : List Who) (i : ℕ) (d : Who) (ds : List Departure)
    (one : Departure) → i < length lives →
    IsDeparture space asked gone (get_or lives i d) one → AreDepartures space asked gone (take i lives) ds
    → AreDepartures space asked gone (take (i + 1) lives) (ds ++ one ∷ [])
departures_more space asked gone lives i d ds one within is so_far =
    subst (λ ls. AreDepartures space asked gone ls (ds ++ one ∷ [])) (sym (take_more lives i d within))
    (departures_behind space asked gone (take i lives) (get_or lives i d) ds one is so_far)

theirs_behind : (space : SpaceState) (lives : List Who) (who : Who) (cookies some : List Cookie)
    → AreCookiesOf (λ l. same_who l.ask.who who) space.granted some →
    AreTheirs space lives cookies → AreTheirs space (lives ++ who ∷ []) (cookies ++ some)
theirs_behind space [] who cookies some are none = (some, [], ap (λ (cs : List Cookie). cs ++ some) none ∙ sym (append-nil some), are, refl)
theirs_behind space (w ∷ lives) who cookies some are (first, rest, all, here, more) = (
  first,
  rest ++ some,
  ap (λ (cs : List Cookie). cs ++ some) all ∙ append_assoc first rest some,
  here,
  theirs_behind space lives who rest some are more,
)

pub theirs_more : (space : SpaceState) (lives : List Who) (i : ℕ) (d : Who) (cookies some : List Cookie) → i < length lives →
    AreCookiesOf (λ l. same_who l.ask.who (get_or lives i d)) space.granted some → AreTheirs space (take i lives) cookies
    → AreTheirs space (take (i + 1) lives) (cookies ++ some)
theirs_more space lives i d cookies some within are so_far =
    subst (λ ls. AreTheirs space ls (cookies ++ some)) (sym (take_more lives i d within))
    (theirs_behind space (take i lives) (get_or lives i d) cookies some are so_far)

-- ---- resources

went_behind : (space : SpaceState) (tick : ℕ) (granted : List Lock) (rs : List Resource) (r : Resource) (old mid new : List Asked)
    (steps more : List QueueStep) →
    AllHaveGoneOn space tick granted rs old steps mid → HasGoneOn space tick granted r mid more new
    → AllHaveGoneOn space tick granted (rs ++ r ∷ []) old (steps ++ more) new
went_behind space tick granted [] r old mid new steps more (none, same) one = (
  more,
  [],
  new,
  ap (λ (xs : List QueueStep). xs ++ more) none ∙ sym (append-nil more),
  subst (λ asks. HasGoneOn space tick granted r asks more new) same one,
  (refl, refl),
)
went_behind space tick granted (k ∷ rs) r old mid new steps more (first, rest, next, all, here, others) one = (
  first,
  rest ++ more,
  next,
  ap (λ (xs : List QueueStep). xs ++ more) all ∙ append_assoc first rest more,
  here,
  went_behind space tick granted rs r next mid new rest more others one,
)

pub went_more : (space : SpaceState) (tick : ℕ) (granted : List Lock) (rs : List Resource) (i : ℕ) (d : Resource) (old mid new : List Asked)
    (steps more : List QueueStep) → i < length rs →
    AllHaveGoneOn space tick granted (take i rs) old steps mid → HasGoneOn space tick granted (get_or rs i d) mid more new →
    AllHaveGoneOn space tick granted (take (i + 1) rs) old (steps ++ more) new
went_more space tick granted rs i d old mid new steps more within so_far one =
    subst (λ ls. AllHaveGoneOn space tick granted ls old (steps ++ more) new) (sym (take_more rs i d within))
    (went_behind space tick granted (take i rs) (get_or rs i d) old mid new steps more so_far one)
