-- What is known to be given, the window has, once one more is known; and so whether no other life gave a number is exact.
use Rattle.std.proofs.Common.{◌≡◌, ℕ, ◌==◌, ◌&&◌, ◌||◌, Bool, true, false, List, [], ◌∷◌, Option, Some, None, refl, sym, ap, subst, ◌∙◌}
use Rattle.std.specs.Prelude.{if◌then◌else◌, IsTrue, ◌↔◌}
use Rattle.std.specs.List.{list_any}
use Rattle.std.proofs.lemmas.Bool.{eqb-true}
use Rattle.lu_base.specs.declared.ids.Who.{Who}
use Rattle.lu_base.specs.declared.locks.Lock.{Lock}
use Rattle.lu_spec_entries.specs.Words.{same_life}
use Rattle.lu_spec_target.specs.Windows.{Replayed, Window, placed, replay_before, brought_before, with_replay, with_brought, cut_seen}
use Rattle.lu_spec_target.specs.Windows.{is_replay, is_lock}
use Rattle.lu_target_refines.proofs.Slots.{one_life, same_self}
use Rattle.lu_window.specs.States.{State, at_window, took_replay, took_lock}
use Rattle.lu_target_server.specs.Givers.{Entries, giver_of, IsGivenBy, IsForgotten, GaveReplays, GaveLocks, has_replay, has_lock}
use Rattle.lu_target_server.specs.Givers.{KnowsReplays, KnowsLocks}
use Rattle.lu_target_server.specs.Recovering.{IsOnlyReplay, IsOnlyLock}
use Rattle.lu_target_server.proofs.GiverLists.{itself, the_giver, gave_it, replays_still, locks_still, replay_taken, lock_taken}
use Rattle.lu_target_server.proofs.GiverLists.{only_replay, only_lock}

-- ---- one more in its place

left_of : (a b : Bool) → a ≡ true → (a || b) ≡ true
left_of true b e = refl
left_of false b e = absurd (cc)

right_of : (a b : Bool) → b ≡ true → (a || b) ≡ true
right_of true b e = refl
right_of false b e = e

right_still : (a b c : Bool) → (a || b) ≡ true → (b ≡ true → c ≡ true) → (a || c) ≡ true
right_still true b c e f = refl
right_still false b c e f = f e

both_are : (a b : Bool) → a ≡ true → b ≡ true → (a && b) ≡ true
both_are true b e f = f
both_are false b e f = absurd (cc)

still_there : {A : Type 0} (p : A → Bool) (before : A → A → Bool) (x : A) (ys : List A) → list_any p ys ≡ true
    → list_any p (placed before x ys) ≡ true
still_there p before x [] e = absurd (cc)
still_there p before x (y ∷ ys) e = by (before x y) (still_there p before x ys) where
  by : (first : Bool) → (list_any p ys ≡ true → list_any p (placed before x ys) ≡ true)
      → list_any p (if first then x ∷ y ∷ ys else y ∷ placed before x ys) ≡ true
  by true rest = right_of (p x) (p y || list_any p ys) e
  by false rest = right_still (p y) (list_any p ys) (list_any p (placed before x ys)) e rest

is_there : {A : Type 0} (p : A → Bool) (before : A → A → Bool) (x : A) (ys : List A) → p x ≡ true → list_any p (placed before x ys) ≡ true
is_there p before x [] e = left_of (p x) false e
is_there p before x (y ∷ ys) e = by (before x y) (is_there p before x ys e) where
  by : (first : Bool) → list_any p (placed before x ys) ≡ true → list_any p (if first then x ∷ y ∷ ys else y ∷ placed before x ys) ≡ true
  by true rest = left_of (p x) (p y || list_any p ys) e
  by false rest = right_of (p y) (list_any p (placed before x ys)) rest

-- ---- what the window has once it took one more

replay_there : (r : Replayed) (w : Window) → has_replay r.number r.who (took_replay r w).replays ≡ true
replay_there r w = by (list_any (is_replay r) w.replays) refl where
  by : (was : Bool) → list_any (is_replay r) w.replays ≡ was → list_any (is_replay r)
      (if was then w.replays else with_replay (cut_seen r) w.replays) ≡ true
  by true e = e
  by false e = is_there (is_replay r) replay_before (cut_seen r) w.replays
      (both_are (r.number == r.number) (same_life r.who r.who) (itself r.number) (same_self r.who))

replay_stays : (r : Replayed) (w : Window) (n : ℕ) (who : Who) → has_replay n who w.replays ≡ true
    → has_replay n who (took_replay r w).replays ≡ true
replay_stays r w n who e = by (list_any (is_replay r) w.replays) where
  by : (was : Bool) → has_replay n who (if was then w.replays else with_replay (cut_seen r) w.replays) ≡ true
  by true = e
  by false = still_there (λ (s : Replayed). s.number == n && same_life s.who who) replay_before (cut_seen r) w.replays e

lock_there : (l : Lock) (w : Window) → has_lock l.cookie.0 l.ask.who (took_lock l w).brought ≡ true
lock_there l w = by (list_any (is_lock l) w.brought) refl where
  by : (was : Bool) → list_any (is_lock l) w.brought ≡ was → list_any (is_lock l) (if was then w.brought else with_brought l w.brought)
      ≡ true
  by true e = e
  by false e = is_there (is_lock l) brought_before l w.brought (both_are (l.cookie.0 == l.cookie.0) (same_life l.ask.who l.ask.who)
      (itself l.cookie.0) (same_self l.ask.who))

lock_stays : (l : Lock) (w : Window) (n : ℕ) (who : Who) → has_lock n who w.brought ≡ true → has_lock n who (took_lock l w).brought ≡ true
lock_stays l w n who e = by (list_any (is_lock l) w.brought) where
  by : (was : Bool) → has_lock n who (if was then w.brought else with_brought l w.brought) ≡ true
  by true = e
  by false = still_there (λ (k : Lock). k.cookie.0 == n && same_life k.ask.who who) brought_before l w.brought e

-- what is known of one more, and of those that there were
known_of : (has : ℕ → Who → Bool) (number : ℕ) (who : Who) (old new : Entries) → IsGivenBy number who old new → has number who ≡ true
    → ((n : ℕ) (w : Who) → giver_of n old ≡ Some w → has n w ≡ true) → (n : ℕ) (w : Who) → giver_of n new ≡ Some w → has n w ≡ true
known_of has number who old new is one knows n w given = by (n == number) refl (sym (is n) ∙ given) where
  by : (own : Bool) → (n == number) ≡ own → (if own then Some who else giver_of n old) ≡ Some w → has n w ≡ true
  by true e g = subst (λ m. has m w ≡ true) (sym (eqb-true n number e)) (subst (λ it. has number it ≡ true) (the_giver who w g) one)
  by false e g = knows n w g

replays_known : (r : Replayed) (old new : Entries) (w : Window) → IsGivenBy r.number r.who old new → KnowsReplays old w.replays
    → KnowsReplays new (took_replay r w).replays
replays_known r old new w is knows =
    known_of (λ n who. has_replay n who (took_replay r w).replays) r.number r.who old new is (replay_there r w)
    (λ n who e. replay_stays r w n who (knows n who e))

locks_known : (l : Lock) (old new : Entries) (w : Window) → IsGivenBy l.cookie.0 l.ask.who old new → KnowsLocks old w.brought
    → KnowsLocks new (took_lock l w).brought
locks_known l old new w is knows =
    known_of (λ n who. has_lock n who (took_lock l w).brought) l.cookie.0 l.ask.who old new is (lock_there l w)
    (λ n who e. lock_stays l w n who (knows n who e))

-- ---- where no other life gave it, no other is known

replay_giver : (r : Replayed) (other : Who) (replays : List Replayed) → IsOnlyReplay r replays → has_replay r.number other replays ≡ true
    → other ≡ r.who
replay_giver r other [] only has = absurd (cc)
replay_giver r other (s ∷ replays) only has = by (s.number == r.number) refl (same_life s.who other) refl has
    (replay_giver r other replays only.1) where
      by : (same : Bool) → (s.number == r.number) ≡ same → (own : Bool) → same_life s.who other ≡ own
          → ((same && own) || has_replay r.number other replays) ≡ true
          → (has_replay r.number other replays ≡ true → other ≡ r.who) → other ≡ r.who
      by true e true f h rest = sym (one_life s.who other f) ∙ one_life s.who r.who (only.0 e)
      by true e false f h rest = rest h
      by false e own f h rest = rest h

lock_giver : (l : Lock) (other : Who) (locks : List Lock) → IsOnlyLock l locks → has_lock l.cookie.0 other locks ≡ true → other ≡ l.ask.who
lock_giver l other [] only has = absurd (cc)
lock_giver l other (k ∷ locks) only has = by (k.cookie.0 == l.cookie.0) refl (same_life k.ask.who other) refl has
    (lock_giver l other locks only.1) where
      by : (same : Bool) → (k.cookie.0 == l.cookie.0) ≡ same → (own : Bool) → same_life k.ask.who other ≡ own
          → ((same && own) || has_lock l.cookie.0 other locks) ≡ true
          → (has_lock l.cookie.0 other locks ≡ true → other ≡ l.ask.who) → other ≡ l.ask.who
      by true e true f h rest = sym (one_life k.ask.who other f) ∙ one_life k.ask.who l.ask.who (only.0 e)
      by true e false f h rest = rest h
      by false e own f h rest = rest h

-- the test is exact
pub is_only_replay : (b : Bool) (r : Replayed) (entries : Entries) (replays : List Replayed) → GaveReplays entries replays
    → KnowsReplays entries replays
    → (IsTrue b ↔ ((other : Who) → giver_of r.number entries ≡ Some other → other ≡ r.who)) → (IsTrue b ↔ IsOnlyReplay r replays)
is_only_replay b r entries replays gave knows free = (
  λ t. only_replay r entries replays (free.0 t) gave,
  λ only. free.1
      (λ other e. replay_giver r other replays only (knows r.number other e)),
)

pub is_only_lock : (b : Bool) (l : Lock) (entries : Entries) (locks : List Lock) → GaveLocks entries locks → KnowsLocks entries locks
    → (IsTrue b ↔ ((other : Who) → giver_of l.cookie.0 entries ≡ Some other → other ≡ l.ask.who)) → (IsTrue b ↔ IsOnlyLock l locks)
is_only_lock b l entries locks gave knows free =
    (λ t. only_lock l entries locks (free.0 t) gave, λ only. free.1 (λ other e. lock_giver l other locks only (knows l.cookie.0 other e)))

-- ---- all that is known together

abbrev pub AreKnown : (replays locks : Entries) → Window → Type 0
AreKnown replays locks w = (GaveReplays replays w.replays × GaveLocks locks w.brought)
    × (KnowsReplays replays w.replays × KnowsLocks locks w.brought)

-- the givers of the same numbers
abbrev pub AreSameGivers : (old new : Entries) → Type 0
AreSameGivers old new = (n : ℕ) → giver_of n new ≡ giver_of n old

same_replays : (old new : Entries) (replays : List Replayed) → AreSameGivers old new → GaveReplays old replays → GaveReplays new replays
same_replays old new [] same gave = tt
same_replays old new (r ∷ replays) same gave = (same r.number ∙ gave.0, same_replays old new replays same gave.1)

same_locks : (old new : Entries) (locks : List Lock) → AreSameGivers old new → GaveLocks old locks → GaveLocks new locks
same_locks old new [] same gave = tt
same_locks old new (l ∷ locks) same gave = (same l.cookie.0 ∙ gave.0, same_locks old new locks same gave.1)

-- ---- a replay

pub replay_known : (r : Replayed) (old new locks : Entries) (w x : State) → x ≡ at_window (took_replay r w.window) w
    → IsGivenBy r.number r.who old new → IsOnlyReplay r w.window.replays
    → AreKnown old locks w.window → AreKnown new locks x.window
replay_known r old new locks w x taken is only known =
    subst (λ (it : State). AreKnown new locks it.window) (sym taken) (
      (
        replay_taken r new w.window (gave_it r.number r.who old new is) (replays_still r old new w.window.replays is only known.0.0),
        known.0.1,
      ),
      (replays_known r old new w.window is known.1.0, known.1.1),
    )

pub lock_known : (l : Lock) (replays old new : Entries) (w x : State) → x ≡ at_window (took_lock l w.window) w
    → IsGivenBy l.cookie.0 l.ask.who old new → IsOnlyLock l w.window.brought
    → AreKnown replays old w.window → AreKnown replays new x.window
lock_known l replays old new w x taken is only known =
    subst (λ (it : State). AreKnown replays new it.window) (sym taken) (
      (
        known.0.0,
        lock_taken l new w.window (gave_it l.cookie.0 l.ask.who old new is)
            (locks_still l old new w.window.brought is only known.0.1),
      ),
      (known.1.0, locks_known l old new w.window is known.1.1),
    )

-- ---- the window doesn't take it

-- where nobody had given it, it is forgotten again
given_back : (number : ℕ) (who : Who) (old mid new : Entries) → IsGivenBy number who old mid → giver_of number old ≡ None
    → IsForgotten number mid new → AreSameGivers old new
given_back number who old mid new is none forgot n = by (n == number) refl (forgot n) (is n) where
  by : (own : Bool) → (n == number) ≡ own → giver_of n new ≡ (if own then None else giver_of n mid) → giver_of n mid
      ≡ (if own then Some who else giver_of n old) → giver_of n new ≡ giver_of n old
  by true e f g = f ∙ sym none ∙ ap (λ m. giver_of m old) (sym (eqb-true n number e))
  by false e f g = f ∙ g

-- else this life had given it before
given_before : (number : ℕ) (who : Who) (old new : Entries) → IsGivenBy number who old new → giver_of number old ≡ Some who
    → AreSameGivers old new
given_before number who old new is was n = by (n == number) refl (is n) where
  by : (own : Bool) → (n == number) ≡ own → giver_of n new ≡ (if own then Some who else giver_of n old) → giver_of n new ≡ giver_of n old
  by true e g = g ∙ sym was ∙ ap (λ m. giver_of m old) (sym (eqb-true n number e))
  by false e g = g

not_first : (number : ℕ) (who : Who) (old new : Entries) (first : Bool) → first ≡ false → (IsTrue first ↔ giver_of number old ≡ None)
    → IsGivenBy number who old new
    → ((other : Who) → giver_of number old ≡ Some other → other ≡ who) → AreSameGivers old new
not_first number who old new first e was is free = by (giver_of number old) refl where
  by : (found : Option Who) → giver_of number old ≡ found → AreSameGivers old new
  by None g = let t : first ≡ true = was.1 g in absurd (cc)
  by (Some other) g = given_before number who old new is (g ∙ ap (λ (it : Who). Some it) (free other g))

same_known_replays : (old new locks : Entries) (w x : State) → x ≡ w → AreSameGivers old new → AreKnown old locks w.window
    → AreKnown new locks x.window
same_known_replays old new locks w x kept same known =
    subst (λ (it : State). AreKnown new locks it.window) (sym kept)
    ((same_replays old new w.window.replays same known.0.0, known.0.1), (λ n who e. known.1.0 n who (sym (same n) ∙ e), known.1.1))

same_known_locks : (replays old new : Entries) (w x : State) → x ≡ w → AreSameGivers old new → AreKnown replays old w.window
    → AreKnown replays new x.window
same_known_locks replays old new w x kept same known =
    subst (λ (it : State). AreKnown replays new it.window) (sym kept)
    ((known.0.0, same_locks old new w.window.brought same known.0.1), (known.1.0, λ n who e. known.1.1 n who (sym (same n) ∙ e)))

pub replay_undone : (r : Replayed) (old mid new locks : Entries) (w x : State) → x ≡ w → IsGivenBy r.number r.who old mid
    → giver_of r.number old ≡ None → IsForgotten r.number mid new
    → AreKnown old locks w.window → AreKnown new locks x.window
replay_undone r old mid new locks w x kept is none forgot known =
    same_known_replays old new locks w x kept (given_back r.number r.who old mid new is none forgot) known

pub replay_passed : (r : Replayed) (old new locks : Entries) (w x : State) (first : Bool) → first ≡ false
    → (IsTrue first ↔ giver_of r.number old ≡ None) → x ≡ w
    → IsGivenBy r.number r.who old new → IsOnlyReplay r w.window.replays → AreKnown old locks w.window → AreKnown new locks x.window
replay_passed r old new locks w x first e was kept is only known =
    same_known_replays old new locks w x kept
    (not_first r.number r.who old new first e was is (λ other g. replay_giver r other w.window.replays only (known.1.0 r.number other g)))
    known

pub lock_undone : (l : Lock) (replays old mid new : Entries) (w x : State) → x ≡ w → IsGivenBy l.cookie.0 l.ask.who old mid
    → giver_of l.cookie.0 old ≡ None → IsForgotten l.cookie.0 mid new
    → AreKnown replays old w.window → AreKnown replays new x.window
lock_undone l replays old mid new w x kept is none forgot known =
    same_known_locks replays old new w x kept (given_back l.cookie.0 l.ask.who old mid new is none forgot) known

pub lock_passed : (l : Lock) (replays old new : Entries) (w x : State) (first : Bool) → first ≡ false
    → (IsTrue first ↔ giver_of l.cookie.0 old ≡ None) → x ≡ w
    → IsGivenBy l.cookie.0 l.ask.who old new → IsOnlyLock l w.window.brought → AreKnown replays old w.window → AreKnown replays new x.window
lock_passed l replays old new w x first e was kept is only known =
    same_known_locks replays old new w x kept
    (not_first l.cookie.0 l.ask.who old new first e was is (λ other g. lock_giver l other w.window.brought only
    (known.1.1 l.cookie.0 other g))) known
