-- What a target that recovers keeps of a message: the turn of its parts is what is left of the message's row.
use Rattle.std.proofs.Common.{◌≡◌, ℕ, ◌==◌, ◌++◌, Bool, true, false, List, [], ◌∷◌, take, Option, Some, None, refl, sym, ap, subst, ◌∙◌}
use Rattle.std.proofs.Common.{arith}
use Rattle.std.specs.Prelude.{nat_lt, if◌then◌else◌}
use Rattle.std.proofs.lemmas.Bool.Decides.{nat_tests}
use Rattle.lu_base.specs.declared.ids.At.{At}
use Rattle.lu_base.specs.declared.ids.Who.{Who}
use Rattle.lu_msg.specs.declared.messages.LockReplay.{LockReplay}
use Rattle.lu_msg.specs.declared.messages.Message.TheVariants as message
use Rattle.lu_msg.specs.declared.messages.RequestReplay.{RequestReplay}
use Rattle.lu_trace.specs.Turns.{Making}
use Rattle.lu_spec_entries.specs.Words.{Entry, Skip}
use Rattle.lu_spec_target.specs.Disks.{batches_of}
use Rattle.lu_spec_target.specs.Leaving.{row_join}
use Rattle.lu_spec_target.specs.Recovery.{row_close, row_wish}
use Rattle.lu_spec_target.specs.Lives.{is_life}
use Rattle.lu_spec_target.specs.Rows.{heeds, by_boot, lock_again, of_boot, row_closes, while_recovering}
use Rattle.lu_spec_target.specs.Windows.{Window}
use Rattle.lu_spec_target.specs.States.{Target, is_serving}
use Rattle.lu_target_server.specs.Windows.{State}
use Rattle.lu_target_server.specs.Servers.{ServerState, DiskFailed, KeepsBatches, Makes}
use Rattle.lu_target_server.specs.Recovering.{Gathers, Recovers, MayReplay, MayBring}
use Rattle.lu_target_server.specs.Passing.{Passes, HasBatches, StopsAt}
use Rattle.lu_target.specs.Running.{RunningState, IsIn, IsUp, HasHeeded, MayHeed, Turns, StopsIn, KeepsIn}
use Rattle.lu_target.proofs.Turning.{in_none, in_some, serving_is, recovering_is, keeps_in, makes_turns, turns_as, stops_as, keeps_as}
use Rattle.lu_target.proofs.Turning.{passes_turns, stops_stops, has_keeps}
use Rattle.lu_target.proofs.Heeding.{boot_of, kept_awaits}

-- ---- a replay and a lock

-- the lives that the window has are those that are shown
own_life : (t : RunningState) (w : State) (who : Who) (boot : ℕ) (before between : Making) → IsUp t → t.window ≡ Some w
    → HasHeeded true who boot t before between
    → is_life who w.window.lives ≡ true
own_life t w who boot before between up some has =
    let g : Gathers t.server w up.0 = Recovers.gathers (in_some t w up.0 some up.1) in
    ap (λ (it : Window). is_life who it.lives) g.window ∙ has.slot refl up.0 up.1

pub may_replay : (t : RunningState) (w : State) (r : RequestReplay) (before between : Making) → IsUp t → t.window ≡ Some w → r.boot
    ≡ t.server.boot → HasHeeded true r.who r.boot t before between
    → MayHeed (message.Replay r) t → MayReplay r t.server w.window
may_replay t w r before between up some own has may = may w some own (own_life t w r.who r.boot before between up some has)

pub may_bring : (t : RunningState) (w : State) (r : LockReplay) (before between : Making) → IsUp t → t.window ≡ Some w → r.boot
    ≡ t.server.boot → HasHeeded true r.who r.boot t before between
    → MayHeed (message.Lock r) t → MayBring (lock_again r) t.server w.window
may_bring t w r before between up some own has may = may w some own (own_life t w r.who r.boot before between up some has)

module _ (rest : At → Target → List Entry) (s : ServerState) (window : Option State) (w : State) (some : window ≡ Some w) (who : Who)
    (boot : ℕ) (before between after : Making)
    (has : HasHeeded true who boot (record { server = s; window = window }) before between) (own : boot ≡ s.boot) (new : ServerState)
    (left : Option State) where
  abbrev t : RunningState
  t = record { server = s; window = window }

  abbrev full : Target → List Entry
  full v = heeds v who boot (while_recovering v (of_boot v boot (rest before.at v)))

  same : (v : Target) → IsIn t v → rest before.at v ≡ full v
  same v it = kept_awaits (rest before.at) t w who boot before between some has own v it

  pub kept_turns : Passes (Recovers s w) (rest between.at) new left between after
      → Turns (λ v. heeds v who boot (while_recovering v (of_boot v boot (rest before.at v)))) t (record { server = new; window = left })
      before after
  kept_turns passes =
      turns_as (rest before.at) full t (record { server = new; window = left }) before after same
      (passes_turns (rest before.at) t (record { server = new; window = left }) w before after some
      (subst (λ (making : Making). Passes (Recovers s w) (rest making.at) new left making after) (has.quiet refl) passes))

  pub kept_stops : DiskFailed s new × StopsAt 0 (Recovers s w) (rest between.at) between after
      → StopsIn (λ v. heeds v who boot (while_recovering v (of_boot v boot (rest before.at v)))) t (record { server = new; window = left })
      before after
  kept_stops stops =
      stops_as (rest before.at) full t (record { server = new; window = left }) before after same
      (stops_stops (rest before.at) t (record { server = new; window = left }) w before after some
      (stops.0, subst (λ (making : Making). StopsAt 0 (Recovers s w) (rest making.at) making after) (has.quiet refl) stops.1))

  pub kept_keeps : HasBatches (Recovers s w) (rest between.at) s.store.batches new.store.batches
      → KeepsIn (λ v. heeds v who boot (while_recovering v (of_boot v boot (rest before.at v)))) t (record { server = new; window = left })
  kept_keeps keeps =
      keeps_as (rest before.at) full t (record { server = new; window = left }) same
      (has_keeps (rest before.at) t (record { server = new; window = left }) w some
      (subst (λ (making : Making). HasBatches (Recovers s w) (rest making.at) s.store.batches new.store.batches) (has.quiet refl) keeps))

-- ---- a word, whose life has a slot

own_row : (v : Target) (boot : ℕ) (rest : List Entry) → boot ≡ v.boot → rest ≡ of_boot v boot rest
own_row v boot rest own = sym (ap (λ (b : Bool). if b then rest else []) (is_own own)) where
  is_own : boot ≡ v.boot → (boot == v.boot) ≡ true
  is_own e = grind (arith, nat_tests)

module _ (rest : Target → List Entry) (s : ServerState) (window : Option State) (w : State) (some : window ≡ Some w) (boot : ℕ)
    (before after : Making) (own : boot ≡ s.boot)
    (new : ServerState) (left : Option State) where
  abbrev told : RunningState
  told = record { server = s; window = window }

  mine : (v : Target) → IsIn told v → rest v ≡ of_boot v boot (rest v)
  mine v it = own_row v boot (rest v) (own ∙ sym (boot_of told v it))

  pub word_turns : Passes (Recovers s w) rest new left before after
      → Turns (λ v. of_boot v boot (rest v)) told (record { server = new; window = left }) before after
  word_turns passes = turns_as rest (λ v. of_boot v boot (rest v)) told (record { server = new; window = left }) before after mine
      (passes_turns rest told (record { server = new; window = left }) w before after some passes)

  pub word_stops : DiskFailed s new × StopsAt 0 (Recovers s w) rest before after
      → StopsIn (λ v. of_boot v boot (rest v)) told (record { server = new; window = left }) before after
  word_stops stops = stops_as rest (λ v. of_boot v boot (rest v)) told (record { server = new; window = left }) before after mine
      (stops_stops rest told (record { server = new; window = left }) w before after some stops)

  pub word_has : HasBatches (Recovers s w) rest s.store.batches new.store.batches
      → KeepsIn (λ v. of_boot v boot (rest v)) told (record { server = new; window = left })
  word_has keeps = keeps_as rest (λ v. of_boot v boot (rest v)) told (record { server = new; window = left }) mine
      (has_keeps rest told (record { server = new; window = left }) w some keeps)

-- ---- a join of a boot that isn't older

module _ (at : At) (s : ServerState) (window : Option State) (w : State) (some : window ≡ Some w) (who : Who) (boot : ℕ)
    (later : nat_lt boot s.boot ≡ false) (before after : Making)
    (new : ServerState) (left : Option State) where
  abbrev joining : RunningState
  joining = record { server = s; window = window }

  abbrev join_row : Target → List Entry
  join_row v = by_boot v who (nat_lt boot v.boot) (if is_serving v then row_join v at who else row_wish v at who)

  wish : (v : Target) → IsIn joining v → row_wish v at who ≡ join_row v
  wish v it =
      sym (ap (λ (b : Bool). by_boot v who b (if is_serving v then row_join v at who else row_wish v at who))
      (ap (nat_lt boot) (boot_of joining v it) ∙ later)
      ∙ ap (λ (b : Bool). if b then row_join v at who else row_wish v at who)
      (recovering_is s w v (Recovers.gathers (in_some joining w v some it))))

  pub join_turns : Passes (Recovers s w) (λ v. row_wish v at who) new left before after
      → Turns join_row joining (record { server = new; window = left }) before after
  join_turns passes = turns_as (λ v. row_wish v at who) join_row joining (record { server = new; window = left }) before after wish
      (passes_turns (λ v. row_wish v at who) joining (record { server = new; window = left }) w before after some passes)

  pub join_stops : DiskFailed s new × StopsAt 0 (Recovers s w) (λ v. row_wish v at who) before after
      → StopsIn join_row joining (record { server = new; window = left }) before after
  join_stops stops = stops_as (λ v. row_wish v at who) join_row joining (record { server = new; window = left }) before after wish
      (stops_stops (λ v. row_wish v at who) joining (record { server = new; window = left }) w before after some stops)

  pub join_keeps : HasBatches (Recovers s w) (λ v. row_wish v at who) s.store.batches new.store.batches
      → KeepsIn join_row joining (record { server = new; window = left })
  join_keeps keeps = keeps_as (λ v. row_wish v at who) join_row joining (record { server = new; window = left }) wish
      (has_keeps (λ v. row_wish v at who) joining (record { server = new; window = left }) w some keeps)

-- to a target that serves
pub joins_keep : (at : At) (t new : RunningState) (who : Who) (boot : ℕ) → t.window ≡ None → nat_lt boot t.server.boot ≡ false
    → KeepsBatches (λ v. row_join v at who) t.server new.server
    → KeepsIn (λ v. by_boot v who (nat_lt boot v.boot) (if is_serving v then row_join v at who else row_wish v at who)) t new
joins_keep at t new who boot none later keeps =
    keeps_as (λ v. row_join v at who) (λ v. by_boot v who (nat_lt boot v.boot)
    (if is_serving v then row_join v at who else row_wish v at who)) t new
    (λ v it.
    sym (ap (λ (b : Bool). by_boot v who b (if is_serving v then row_join v at who else row_wish v at who))
    (ap (nat_lt boot) (boot_of t v it) ∙ later)
    ∙ ap (λ (b : Bool). if b then row_join v at who else row_wish v at who) (serving_is t.server v (in_none t v none it))))
    (keeps_in (λ v. row_join v at who) t new none keeps)

pub joins_row : (at : At) (t : RunningState) (who : Who) (boot : ℕ) → t.window ≡ None → nat_lt boot t.server.boot ≡ false → (v : Target)
    → IsIn t v
    → row_join v at who ≡ by_boot v who (nat_lt boot v.boot) (if is_serving v then row_join v at who else row_wish v at who)
joins_row at t who boot none later v it =
    sym (ap (λ (b : Bool). by_boot v who b (if is_serving v then row_join v at who else row_wish v at who))
    (ap (nat_lt boot) (boot_of t v it) ∙ later)
    ∙ ap (λ (b : Bool). if b then row_join v at who else row_wish v at who) (serving_is t.server v (in_none t v none it)))

pub joins_turn : (at : At) (t new : RunningState) (who : Who) (boot : ℕ) (before after : Making) → t.window ≡ None → new.window ≡ None
    → nat_lt boot t.server.boot ≡ false
    → Makes (λ v. row_join v at who) t.server new.server before after
    → Turns (λ v. by_boot v who (nat_lt boot v.boot) (if is_serving v then row_join v at who else row_wish v at who)) t new before after
joins_turn at t new who boot before after none left later makes =
    turns_as (λ v. row_join v at who) (λ v. by_boot v who (nat_lt boot v.boot)
    (if is_serving v then row_join v at who else row_wish v at who)) t new before after
    (joins_row at t who boot none later)
    (makes_turns (λ v. row_join v at who) t new before after none left makes)

-- ---- the command to close

pub close_keeps : (at : At) (s : ServerState) (window : Option State) (w : State) (new : ServerState) (left : Option State) → window
    ≡ Some w
    → HasBatches (Gathers s w) (row_close at) s.store.batches new.store.batches
    → KeepsIn (λ v. row_closes v at) (record { server = s; window = window }) (record { server = new; window = left })
close_keeps at s window w new left some keeps =
    λ v it.
    let g : Gathers s w v = Recovers.gathers (in_some (record { server = s; window = window }) w v some it) in
    let one = keeps v g in (
      one.0,
      one.1 ∙ ap (λ (es : List Entry). s.store.batches ++ take one.0 (batches_of es))
          (sym (ap (λ (b : Bool). if b then Skip ∷ [] else row_close at v) (recovering_is s w v g))),
    )
