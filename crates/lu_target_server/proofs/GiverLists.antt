-- Who gave the numbers of a window, once one more is known.
use Rattle.std.proofs.Common.{◌≡◌, ℕ, ◌==◌, Bool, true, false, List, [], ◌∷◌, Option, Some, refl, sym, ap, subst, ◌∙◌, arith}
use Rattle.std.specs.Prelude.{if◌then◌else◌, ◌↔◌, IsTrue, not, None}
use Rattle.std.specs.Option.{is_some}
use Rattle.std.specs.List.{list_any}
use Rattle.std.proofs.lemmas.Bool.{eqb-true}
use Rattle.std.proofs.lemmas.Bool.Decides.{nat_tests}
use Rattle.lu_base.specs.declared.ids.Who.{Who}
use Rattle.lu_base.specs.declared.locks.Lock.{Lock}
use Rattle.lu_spec_entries.specs.Words.{same_life}
use Rattle.lu_spec_target.specs.Windows.{Replayed, Window, replay_before, brought_before, with_replay, with_brought, cut_seen, is_replay}
use Rattle.lu_spec_target.specs.Windows.{is_lock}
use Rattle.lu_target_refines.proofs.Slots.{one_life, same_self}
use Rattle.lu_window.specs.States.{took_replay, took_lock}
use Rattle.lu_target_server.specs.Givers.{Entries, giver_of, IsGivenBy, IsForgotten, GaveReplays, GaveLocks}
use Rattle.lu_target_server.specs.Recovering.{IsOnlyReplay, IsOnlyLock}
use Rattle.lu_target_server.proofs.Gathering.{every_placed}

pub itself : (n : ℕ) → (n == n) ≡ true
itself n = grind (arith, nat_tests)

pub turned : (m n : ℕ) → (m == n) ≡ (n == m)
turned m n = by (n == m) refl where
  by : (v : Bool) → (n == m) ≡ v → (m == n) ≡ v
  by true e = grind (arith, nat_tests)
  by false e = grind (arith, nat_tests)

-- this one
pub gave_it : (number : ℕ) (who : Who) (old new : Entries) → IsGivenBy number who old new → giver_of number new ≡ Some who
gave_it number who old new is = is number ∙ ap (λ b. if b then Some who else giver_of number old) (itself number)

-- what is known of the others is known still
gave_other : (number : ℕ) (who : Who) (old new : Entries) (n : ℕ) (w : Who) → IsGivenBy number who old new
    → ((n == number) ≡ true → same_life w who ≡ true) → giver_of n old ≡ Some w
    → giver_of n new ≡ Some w
gave_other number who old new n w is only was = by (n == number) refl where
  by : (own : Bool) → (n == number) ≡ own → giver_of n new ≡ Some w
  by true e = is n ∙ ap (λ b. if b then Some who else giver_of n old) e ∙ ap (λ (it : Who). Some it) (sym (one_life w who (only e)))
  by false e = is n ∙ ap (λ b. if b then Some who else giver_of n old) e ∙ was

pub replays_still : (r : Replayed) (old new : Entries) (replays : List Replayed) → IsGivenBy r.number r.who old new → IsOnlyReplay r replays
    → GaveReplays old replays → GaveReplays new replays
replays_still r old new [] is only gave = tt
replays_still r old new (s ∷ replays) is only gave = (
  gave_other r.number r.who old new s.number s.who is only.0 gave.0,
  replays_still r old new replays is only.1 gave.1,
)

pub locks_still : (l : Lock) (old new : Entries) (locks : List Lock) → IsGivenBy l.cookie.0 l.ask.who old new → IsOnlyLock l locks
    → GaveLocks old locks → GaveLocks new locks
locks_still l old new [] is only gave = tt
locks_still l old new (k ∷ locks) is only gave = (
  gave_other l.cookie.0 l.ask.who old new k.cookie.0 k.ask.who is only.0 gave.0,
  locks_still l old new locks is only.1 gave.1,
)

-- the window has it too
pub replay_taken : (r : Replayed) (entries : Entries) (w : Window) → giver_of r.number entries ≡ Some r.who → GaveReplays entries w.replays
    → GaveReplays entries (took_replay r w).replays
replay_taken r entries w it gave = by (list_any (is_replay r) w.replays) where
  by : (was : Bool) → GaveReplays entries (if was then w.replays else with_replay (cut_seen r) w.replays)
  by true = gave
  by false = every_placed (λ (s : Replayed). giver_of s.number entries ≡ Some s.who) replay_before (cut_seen r) w.replays it gave

pub lock_taken : (l : Lock) (entries : Entries) (w : Window) → giver_of l.cookie.0 entries ≡ Some l.ask.who → GaveLocks entries w.brought
    → GaveLocks entries (took_lock l w).brought
lock_taken l entries w it gave = by (list_any (is_lock l) w.brought) where
  by : (was : Bool) → GaveLocks entries (if was then w.brought else with_brought l w.brought)
  by true = gave
  by false = every_placed (λ (k : Lock). giver_of k.cookie.0 entries ≡ Some k.ask.who) brought_before l w.brought it gave

-- ---- no other life gave it

same_who : (a b : Who) → a ≡ b → same_life a b ≡ true
same_who a b e = subst (λ (it : Who). same_life a it ≡ true) e (same_self a)

pub only_replay : (r : Replayed) (entries : Entries) (replays : List Replayed)
    → ((other : Who) → giver_of r.number entries ≡ Some other → other ≡ r.who) → GaveReplays entries replays → IsOnlyReplay r replays
only_replay r entries [] free gave = tt
only_replay r entries (s ∷ replays) free gave = (
  λ e. same_who s.who r.who (free s.who (ap (λ n. giver_of n entries) (sym (eqb-true s.number r.number e)) ∙ gave.0)),
  only_replay r entries replays free gave.1,
)

pub only_lock : (l : Lock) (entries : Entries) (locks : List Lock)
    → ((other : Who) → giver_of l.cookie.0 entries ≡ Some other → other ≡ l.ask.who) → GaveLocks entries locks → IsOnlyLock l locks
only_lock l entries [] free gave = tt
only_lock l entries (k ∷ locks) free gave = (
  λ e. same_who k.ask.who l.ask.who (free k.ask.who (ap (λ n. giver_of n entries) (sym (eqb-true k.cookie.0 l.cookie.0 e)) ∙ gave.0)),
  only_lock l entries locks free gave.1,
)

-- ---- whether one is free

pub the_giver : (a b : Who) → ◌≡◌ {A = Option Who} (Some a) (Some b) → a ≡ b
the_giver a b e = cc

pub free_of : (number : ℕ) (giver who : Who) (b : Bool) (entries : Entries) → giver_of number entries ≡ Some giver → b ≡ same_life giver who
    → (IsTrue b ↔ ((other : Who) → giver_of number entries ≡ Some other → other ≡ who))
free_of number giver who b entries is test =
    (λ t other e. the_giver other giver (sym e ∙ is) ∙ one_life giver who (sym test ∙ t), λ free. test ∙ same_who giver who (free giver is))

no_giver : {X : Type 0} → (other : Who) → ◌≡◌ {A = Option Who} None (Some other) → X
no_giver other e = absurd (cc)

pub free_none : (number : ℕ) (who : Who) (entries : Entries) → giver_of number entries ≡ None
    → (IsTrue true ↔ ((other : Who) → giver_of number entries ≡ Some other → other ≡ who))
free_none number who entries is = (λ t other e. no_giver other (sym is ∙ e), λ free. refl)

-- ---- the map is changed at this key alone

pub given_by : (number : ℕ) (who : Who) (old mid new : Entries) → mid ≡ old
    → ((n : ℕ) → giver_of n new ≡ (if number == n then Some who else giver_of n mid)) → IsGivenBy number who old new
given_by number who old mid new view is = subst (λ old. IsGivenBy number who old new) view
    (λ n. is n ∙ ap (λ own. if own then Some who else giver_of n mid) (turned number n))

pub forgotten : (number : ℕ) (old mid new : Entries) → mid ≡ old
    → ((n : ℕ) → giver_of n new ≡ (if number == n then None else giver_of n mid)) → IsForgotten number old new
forgotten number old mid new view is = subst (λ old. IsForgotten number old new) view
    (λ n. is n ∙ ap (λ own. if own then None else giver_of n mid) (turned number n))

pub was_none : (number : ℕ) (before : Option Who) (b : Bool) (old : Entries) → before ≡ giver_of number old → is_some before ≡ not b
    → (IsTrue b ↔ giver_of number old ≡ None)
was_none number before b old is test = by before b is test where
  by : (o : Option Who) (v : Bool) → o ≡ giver_of number old → is_some o ≡ not v → (IsTrue v ↔ giver_of number old ≡ None)
  by None true is test = (λ t. sym is, λ none. refl)
  by None false is test = absurd (cc)
  by (Some giver) true is test = absurd (cc)
  by (Some giver) false is test = (λ t. absurd (cc), λ none. no_giver giver (sym none ∙ sym is))
