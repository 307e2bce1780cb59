-- What a target takes while it recovers begins a row: its mark, and what comes then.
use Rattle.std.proofs.Common.{◌≡◌, ℕ, ◌==◌, ◌&&◌, ◌||◌, Bool, true, false, not, List, [], ◌∷◌, ◌++◌, Option, Some, None, refl, sym, ap}
use Rattle.std.proofs.Common.{subst, ◌∙◌, arith}
use Rattle.std.specs.Prelude.{if◌then◌else◌, nat_lt}
use Rattle.std.proofs.lemmas.Bool.Decides.{nat_tests}
use Rattle.lu_base.specs.declared.ids.At.{At}
use Rattle.lu_base.specs.declared.ids.Who.{Who}
use Rattle.lu_base.specs.declared.locks.Lock.{Lock}
use Rattle.lu_msg.specs.declared.messages.RequestReplay.{RequestReplay}
use Rattle.lu_trace.specs.Turns.{Making}
use Rattle.lu_spec_entries.specs.Carried.{Said}
use Rattle.lu_spec_entries.specs.Words.{Wishes, same_life}
use Rattle.lu_spec_target.specs.Lives.{is_life}
use Rattle.lu_spec_target.specs.Leaving.{life_of}
use Rattle.lu_spec_target.specs.Windows.{Window, is_back, is_newest, all_settled}
use Rattle.lu_spec_target.specs.Kept.{replayed}
use Rattle.lu_spec_target.specs.Outcomes.{window_of}
use Rattle.lu_spec_target.specs.Recovery.{row_replay, row_lock, row_word, row_wish, settles, empty_word}
use Rattle.lu_spec_target.specs.States.{Target, after, turn}
use Rattle.lu_target_refines.specs.Lives.{AreOthers, OfClients}
use Rattle.lu_target_refines.specs.Windows.{stores, brings, says, wishes, backs}
use Rattle.lu_target_refines.proofs.Closings.{life_there}
use Rattle.lu_target_refines.proofs.Slots.{one_life}
use Rattle.lu_target_refines.proofs.Windows.{older_is, row_wish_none, row_wish_same, row_wish_older, row_wish_newer}
use Rattle.lu_window.specs.States.{State, at_window, took_replay, took_lock, took_word, took_wish, has_older}
use Rattle.lu_target_server.specs.Servers.{ServerState}
use Rattle.lu_target_server.specs.Recovering.{MayReplay, MayBring, Gathers, Recovers}
use Rattle.lu_target_server.proofs.Gathering.{replay_gathers, lock_gathers, word_gathers, wish_gathers}
use Rattle.lu_target_server.proofs.Passings.{Begins, unsettled, replay_row, lock_row, word_row, stores_dry, brings_dry, says_dry}
use Rattle.lu_target_server.proofs.Passings.{wishes_dry, stores_quiet, brings_quiet, says_quiet, wishes_quiet}

pub replay_begins : (s : ServerState) (w x : State) (r : RequestReplay) (back : Bool) (making : Making) → MayReplay r s w.window → x
    ≡ at_window (took_replay (replayed r) w.window) w
    → back ≡ (is_back x.window r.who && not (is_back w.window r.who))
    → Begins (Recovers s w) (Gathers s x) (λ v. stores v r) (λ v. backs back r.who ++ settles making.at v) (λ v. row_replay v making.at r)
    making making
replay_begins s w x r back making may taken b = record {
  told = λ v it. stores_quiet v r making;
  stands = λ v it. replay_gathers s w x v r may taken it.gathers;
  rows = λ v it. replay_row making.at v r w x back it.gathers.window it.awaits taken b;
  dry = λ v it. stores_dry v r;
}

pub lock_begins : (s : ServerState) (w x : State) (l : Lock) (back : Bool) (making : Making) → MayBring l s w.window → x
    ≡ at_window (took_lock l w.window) w
    → back ≡ (is_back x.window l.ask.who && not (is_back w.window l.ask.who))
    → Begins (Recovers s w) (Gathers s x) (λ v. brings v l) (λ v. backs back l.ask.who ++ settles making.at v) (λ v. row_lock v making.at l)
    making making
lock_begins s w x l back making may taken b = record {
  told = λ v it. brings_quiet v l making;
  stands = λ v it. lock_gathers s w x v l may taken it.gathers;
  rows = λ v it. lock_row making.at v l w x back it.gathers.window it.awaits taken b;
  dry = λ v it. brings_dry v l;
}

pub word_begins : (s : ServerState) (w x : State) (word : Said) (back : Bool) (making : Making) → x ≡ at_window (took_word word w.window) w
    → back ≡ (is_back x.window word.who && not (is_back w.window word.who))
    → Begins (Recovers s w) (Gathers s x) (λ v. says v word) (λ v. backs back word.who ++ settles making.at v)
    (λ v. row_word v making.at word) making making
word_begins s w x word back making taken b = record {
  told = λ v it. says_quiet v word making;
  stands = λ v it. word_gathers s w x v word taken it.gathers;
  rows = λ v it. word_row making.at v word w x back it.gathers.window it.awaits taken b;
  dry = λ v it. says_dry v word;
}

-- ---- wishes

wish_row : (at : At) (v : Target) (who : Who) → OfClients v.lives → has_older who v.lives ≡ true → all_settled (window_of v) v.lives ≡ false
    → row_wish v at who ≡ wishes v who ++ settles at (turn v (wishes v who))
wish_row at v who of older still = by (life_of who.client v.lives) refl where
  newest : (old : Who) → life_of who.client v.lives ≡ Some old → nat_lt old.life who.life ≡ true → (b : Bool) → is_newest who v.wishes ≡ b
      → row_wish v at who ≡ (if b then Wishes who ∷ [] else []) ++ settles at (turn v (if b then Wishes who ∷ [] else []))
  newest old is less true e = row_wish_newer v at who old is less
      ∙ ap (λ (b : Bool). if b then Wishes who ∷ settles at (after v (Wishes who)) else []) e
  newest old is less false e =
      row_wish_newer v at who old is less ∙ ap (λ (b : Bool). if b then Wishes who ∷ settles at (after v (Wishes who)) else []) e
      ∙ sym (unsettled at v still)

  by : (found : Option Who) → life_of who.client v.lives ≡ found → row_wish v at who ≡ wishes v who ++ settles at (turn v (wishes v who))
  by None is = let test : has_older who v.lives ≡ false = older_is who v.lives of ∙ rw is refl in absurd (cc)
  by (Some old) is = let less : nat_lt old.life who.life ≡ true = sym (older_is who v.lives of ∙ rw is refl) ∙ older
      in newest old is less (is_newest who v.wishes) refl

pub wish_begins : (s : ServerState) (w x : State) (who : Who) (making : Making) → has_older who w.window.lives ≡ true → x
    ≡ at_window (took_wish who w.window) w
    → Begins (Recovers s w) (Gathers s x) (λ v. wishes v who) (settles making.at) (λ v. row_wish v making.at who) making making
wish_begins s w x who making older taken = record {
  told = λ v it. wishes_quiet v who making;
  stands = λ v it. wish_gathers s w x v who taken it.gathers;
  rows = λ v it. wish_row making.at v who it.gathers.sound.clients
      (subst (λ (them : Window). has_older who them.lives ≡ true) it.gathers.window older) it.awaits;
  dry = λ v it. wishes_dry v who;
}

-- a wish that is passed over
pub wish_passed : (at : At) (v : Target) (who : Who) → OfClients v.lives → has_older who v.lives ≡ false → is_life who v.lives ≡ false
    → row_wish v at who ≡ []
wish_passed at v who of older other = by (life_of who.client v.lives) refl where
  apart : (old : Who) → (old.client == who.client) ≡ true → same_life who old ≡ false → nat_lt old.life who.life ≡ false
      → nat_lt who.life old.life ≡ true
  apart old same differ less = grind (arith, nat_tests)

  by : (found : Option Who) → life_of who.client v.lives ≡ found → row_wish v at who ≡ []
  by None is = row_wish_none v at who is
  by (Some old) is =
      let there = life_there who.client v.lives old is in
      let less : nat_lt old.life who.life ≡ false = sym (older_is who v.lives of ∙ rw is refl) ∙ older in
      let differ : same_life who old ≡ false = no_same (same_life who old) refl there.0 in
      row_wish_older v at who old is (apart old there.1 differ less)
    where
      no_same : (b : Bool) → same_life who old ≡ b → is_life old v.lives ≡ true → same_life who old ≡ false
      no_same true e here = let is_one : who ≡ old = one_life who old e in let own : is_life who v.lives ≡ true =
          subst (λ (it : Who). is_life it v.lives ≡ true) (sym is_one) here in absurd (cc)
      no_same false e here = e

-- a life that has a slot is that of its client
own_life : (who : Who) (lives : List Who) → OfClients lives → is_life who lives ≡ true → life_of who.client lives ≡ Some who
own_life who [] of there = absurd (cc)
own_life who (w ∷ lives) of there = by (same_life who w) refl there (own_life who lives of.1) where
  same_client : same_life who w ≡ true → (w.client == who.client) ≡ true
  same_client e = grind (arith, nat_tests)

  other_client : (xs : List Who) → AreOthers w xs → is_life who xs ≡ true → (w.client == who.client) ≡ false
  other_client [] others e = absurd (cc)
  other_client (x ∷ xs) others e = one (same_life who x) refl e (other_client xs others.1) where
    far : (x.client == w.client) ≡ false → same_life who x ≡ true → (w.client == who.client) ≡ false
    far a b = grind (arith, nat_tests)

    one : (b : Bool) → same_life who x ≡ b → (b || is_life who xs) ≡ true → (is_life who xs ≡ true → (w.client == who.client) ≡ false)
        → (w.client == who.client) ≡ false
    one true f h rest = far others.0 f
    one false f h rest = rest h

  by : (own : Bool) → same_life who w ≡ own → (own || is_life who lives) ≡ true
      → (is_life who lives ≡ true → life_of who.client lives ≡ Some who)
      → (if w.client == who.client then Some w else life_of who.client lives) ≡ Some who
  by true e h rest = rw (same_client e) (ap (λ (it : Who). Some it) (sym (one_life who w e)))
  by false e h rest = rw (other_client lives of.0 h) (rest h)

pub wish_own : (at : At) (v : Target) (who : Who) → OfClients v.lives → is_life who v.lives ≡ true → row_wish v at who
    ≡ row_word v at (empty_word who)
wish_own at v who of there = row_wish_same v at who who (own_life who v.lives of there) (itself who.life) where
  itself : (n : ℕ) → (n == n) ≡ true
  itself n = grind (arith, nat_tests)
