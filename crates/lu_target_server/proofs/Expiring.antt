-- A tick: lives that kept their locks too long leave, and what is outstanding still is sent again.
use Rattle.std.proofs.Common.{◌≡◌, ◌≢◌, ℕ, zero, suc, ◌==◌, Bool, true, false, List, [], ◌∷◌, ◌++◌, take, Option, Some, None, refl, sym, ap}
use Rattle.std.proofs.Common.{subst, ◌∙◌}
use Rattle.std.specs.Prelude.{◌&&◌, All}
use Rattle.std.specs.List.{list_any}
use Rattle.lu_base.specs.declared.ids.At.{At}
use Rattle.lu_base.specs.declared.ids.Who.{Who}
use Rattle.lu_base.specs.declared.locks.Cause.TheVariants.{Expired}
use Rattle.lu_base.specs.declared.locks.Lock.{Lock}
use Rattle.lu_callback.specs.declared.callbacks.Asked.{Asked}
use Rattle.lu_callback.specs.declared.callbacks.Kind.{Kind as AskKind}
use Rattle.lu_callback.specs.declared.callbacks.Kind.TheVariants as asked
use Rattle.lu_spec_machine.specs.Footprint.{Every}
use Rattle.lu_msg.specs.declared.commits.Batch.{Batch}
use Rattle.lu_trace.specs.Turns.{Making}
use Rattle.lu_spec_entries.specs.Carried.{Called}
use Rattle.lu_spec_entries.specs.Words.{Entry, Tick, Commit, Boot, Fail, same_life}
use Rattle.lu_spec_target.specs.Disks.{failing, batches_with, batches_of}
use Rattle.lu_spec_target.specs.Lives.{is_life, without_lives}
use Rattle.lu_spec_target.specs.Leaving.{condemned, all_go, expels, sends_again, ticked}
use Rattle.lu_spec_target.specs.Stored.{batch_of}
use Rattle.lu_spec_target.specs.States.{Target, after, turn, follow}
use Rattle.lu_target_refines.specs.Batches.{AreAmong}
use Rattle.lu_target_refines.specs.Callbacks.{ShowsCalls, holds, message_of}
use Rattle.lu_target_refines.proofs.Closings.{AllHolders, once_rising, condemned_rise, condemned_among}
use Rattle.lu_target_refines.proofs.Lists.{every_of, every_found}
use Rattle.lu_target_refines.proofs.Slots.{never, one_life}
use Rattle.lu_target_store.specs.Stores.{StoreState, MayMove}
use Rattle.lu_target_locks.specs.declared.departing.QueueStep.{QueueStep}
use Rattle.lu_target_locks.specs.declared.reminding.Reminder.{Reminder}
use Rattle.lu_target_locks.specs.Reminding.{again_told}
use Rattle.lu_target_locks.specs.Servers as locking
use Rattle.lu_target_invariant.proofs.Entries.{sound_quiet}
use Rattle.lu_target_invariant.proofs.Numbers.{overruns_more, raises_sends_again}
use Rattle.lu_target_invariant.proofs.Spent.{overruns_later}
use Rattle.lu_spec_target.specs.Rows.{overruns}
use Rattle.lu_target_server.specs.Numbers.{Overruns}
use Rattle.lu_spec_entries.specs.Given.{giving}
use Rattle.lu_target_server.specs.Servers.{ServerState, Shows, Makes, KeepsBatches, Fails}
use Rattle.lu_target_server.specs.Middles.{ShowsRest, MakesRest, KeepsFirst}
use Rattle.lu_target_server.specs.Releases.{moves, AreMoved}
use Rattle.lu_target_server.proofs.Composing.{giving_none, giving_more, turn_more}
use Rattle.lu_target_server.proofs.Middles.{rest_of, whole, with_locks, beside, rest_beside}
use Rattle.lu_target_server.proofs.MovedLives.{moved_then, keeps_first}

-- ---- the tick

pub tick_shows : (s now : ServerState) (v : Target) → Shows s v → now ≡ record s { locks = now.locks }
    → locking.Shows now.locks (after v Tick) → Shows now (after v Tick)
tick_shows s now v shows same locks =
    let w : Target = after v Tick in
    let rest : ShowsRest s w = rest_beside s v w (beside v Tick refl) (sound_quiet s.kind v Tick refl shows.sound) (rest_of s v shows) in
    whole now w (subst (λ (it : ServerState). ShowsRest it w) (sym same) (with_locks s now.locks w rest)) locks

-- ---- who leaves

both : (a b : Bool) → (a && b) ≡ true → b ≡ true
both true b h = h
both false b h = absurd (never (sym h))

holders_there : (lives : List Who) (granted : List Lock) (cs : List Called) → Every (λ l. is_life l.ask.who lives ≡ true) granted
    → Every (λ c. list_any (holds c) granted ≡ true) cs → AllHolders lives cs
holders_there lives granted [] all held = tt
holders_there lives granted (c ∷ cs) all held = (there, holders_there lives granted cs all held.1) where
  there : is_life c.who lives ≡ true
  there = every_found (λ (l : Lock). is_life l.ask.who lives ≡ true) (holds c) granted all held.0 (is_life c.who lives ≡ true)
      (λ l has holds_it. subst (λ (who : Who). is_life who lives ≡ true)
      (one_life l.ask.who c.who (both (l.cookie.0 == c.cookie.0) (same_life l.ask.who c.who) holds_it)) has)

pub may_expel : (s : ServerState) (v : Target) → Shows s v → MayMove (condemned v v.called) [] s.store
may_expel s v shows = record {
  once = once_rising (condemned v v.called) (condemned_rise v v.called);
  among = subst (λ (all : List Who). AreAmong all (condemned v v.called)) shows.store.journal.booted.lives
      (condemned_among v v.lives v.called
      (holders_there v.lives v.granted v.called (every_of (λ (l : Lock). is_life l.ask.who v.lives ≡ true) v.granted shows.sound.holders)
      shows.locks.calls.holders));
  new = tt;
  apart = tt;
}

-- ---- they leave

pub expels_none : (s : ServerState) (making : Making) (gone : List Who) → gone ≡ [] → Makes (expels making.at gone) s s making making
expels_none s making gone none =
    subst (λ (lives : List Who). Makes (expels making.at lives) s s making making) (sym none)
    (record { gives = λ v shows. sym (giving_none making); shows = λ v shows. shows })

pub expels_then : (s moved now : ServerState) (v : Target) (gone : List Who) (steps : List QueueStep) (before between afterwards : Making)
    → gone ≢ []
    → AreMoved Expired gone [] steps v s moved before between
    → (let u = turn v (moves before.at Expired gone [] v) in MakesRest (all_go between.at u) u now between afterwards)
    → MakesRest (expels before.at gone v) v now before afterwards
expels_then s moved now v [] steps before between afterwards some is_moved made = absurd (some refl)
expels_then s moved now v (who ∷ gone) steps before between afterwards some is_moved made =
    let es : List Entry = moves before.at Expired (who ∷ gone) [] v in
    let u : Target = turn v es in
    let at : between.at ≡ before.at = ap (λ (making : Making). making.at) is_moved.gives in
    moved_then s moved now v Expired (who ∷ gone) [] steps (all_go before.at) before between afterwards is_moved
    (subst (λ (it : At). MakesRest (all_go it u) u now between afterwards) at made)

pub expels_keep : (s now : ServerState) (v : Target) (at : At) (gone : List Who) → gone ≢ []
    → KeepsFirst (batch_of v.log gone [] ∷ []) s.store now.store
    → KeepsFirst (batches_of (expels at gone v)) s.store now.store
expels_keep s now v at [] some keeps = absurd (some refl)
expels_keep s now v at (who ∷ gone) some keeps = keeps_first s.store now.store _ _ keeps

-- ---- what is sent again

message_stays : (w x : Target) (k : AskKind) (l : Lock) → after x (message_of w k l) ≡ x
message_stays w x asked.Block l = refl
message_stays w x (asked.Glimpse who xid) l = refl

pub again_stays : (w x : Target) (reminders : List Reminder) → turn x (again_told w reminders) ≡ x
again_stays w x [] = refl
again_stays w x (r ∷ reminders) = ap (λ (y : Target). turn y (again_told w reminders)) (message_stays w x r.kind r.lock)
    ∙ again_stays w x reminders

pub again_more : (w : Target) (reminders : List Reminder) (r : Reminder) → again_told w (reminders ++ r ∷ []) ≡ again_told w reminders
    ++ again_told w (r ∷ [])
again_more w [] r = refl
again_more w (x ∷ reminders) r = ap (λ (es : List Entry). message_of w x.kind x.lock ∷ es) (again_more w reminders r)

-- ---- all of it

pub ticks : (s now : ServerState) (gone : List Who) (asked : List Asked) (reminders : List Reminder) (before between afterwards : Making)
    → ((v : Target) → Shows s v → gone ≡ condemned v v.called) → ((v : Target) → locking.Shows s.locks v → ShowsCalls asked v)
    → Makes (expels before.at gone) s now before between
    → ((v w : Target) → ShowsCalls asked v → locking.Shows now.locks w → sends_again w v.called v.glimpses w.granted
    ≡ again_told w reminders)
    → ((v : Target) → v.boot ≡ now.boot → afterwards ≡ giving between (again_told v reminders))
    → Makes (ticked before.at) s now before afterwards
ticks s now gone asked reminders before between afterwards due was made again told = record {
  gives = λ v shows. told (mid v) (made.shows v shows).boot ∙ ap (λ (making : Making). giving making (again_told (mid v) reminders))
      (made.gives v shows)
      ∙ giving_more before (es v) (again_told (mid v) reminders) ∙ ap (giving before) (sym (row v shows));
  shows = λ v shows.
      subst (λ (fs : List Entry). Shows now (turn v fs)) (sym (row v shows))
      (subst (Shows now) (sym (turn_more v (es v) (again_told (mid v) reminders) ∙ again_stays (mid v) (mid v) reminders))
      (made.shows v shows));
} where
  es : Target → List Entry
  es v = expels before.at gone v

  mid : Target → Target
  mid v = turn v (expels before.at gone v)

  row : (v : Target) → Shows s v → ticked before.at v ≡ expels before.at gone v ++ again_told (turn v (expels before.at gone v)) reminders
  row v shows =
      ap (λ (lives : List Who). follow v (expels before.at lives v) (λ w. sends_again w v.called v.glimpses w.granted)) (sym (due v shows))
      ∙ ap (λ (fs : List Entry). expels before.at gone v ++ fs)
      (again v (turn v (expels before.at gone v)) (was v shows.locks) (made.shows v shows).locks)

-- ---- what overruns

pub over_expels : (v : Target) (at : At) (gone : List Who) → gone ≢ []
    → (let u = turn v (moves at Expired gone [] v) in overruns u (all_go at u) ≡ true) → overruns v (expels at gone v) ≡ true
over_expels v at [] some over = absurd (some refl)
over_expels v at (who ∷ gone) some over = let es : List Entry = moves at Expired (who ∷ gone) [] v
    in overruns_later v es (all_go at (turn v es)) over

pub over_ticked : (s : ServerState) (gone : List Who) (at : At) → ((v : Target) → Shows s v → gone ≡ condemned v v.called)
    → Overruns (expels at gone) s → Overruns (ticked at) s
over_ticked s gone at due over = λ v shows.
    let es : List Entry = expels at (condemned v v.called) v in
    let w : Target = turn v es in
    overruns_more v es (sends_again w v.called v.glimpses w.granted) (raises_sends_again w w v.called v.glimpses w.granted)
    (subst (λ (lives : List Who). overruns v (expels at lives v) ≡ true) (due v shows) (over v shows))

-- ---- after an error

pub ticks_fail : (s : ServerState) (gone : List Who) (before afterwards : Making) → ((v : Target) → Shows s v → gone ≡ condemned v v.called)
    → gone ≢ [] → afterwards ≡ giving before (Fail ∷ [])
    → Fails (ticked before.at) s before afterwards
ticks_fail s [] before afterwards due some gives = absurd (some refl)
ticks_fail s (who ∷ gone) before afterwards due some gives =
    λ v shows. gives ∙ ap (λ (lives : List Who). giving before (failing
    (follow v (expels before.at lives v) (λ w. sends_again w v.called v.glimpses w.granted)) 0)) (due v shows)

batches_more : (es fs : List Entry) → batches_of (es ++ fs) ≡ batches_of es ++ batches_of fs
batches_more [] fs = refl
batches_more (Commit to batch ∷ es) fs = ap (λ (more : List Batch). batch ∷ more) (batches_more es fs)
batches_more (Boot boot disk ∷ es) fs = ap (batches_with (Boot boot disk)) (batches_more es fs)
batches_more (e ∷ es) fs = batches_more es fs

first_of_more : (n : ℕ) (xs ys : List Batch) → (m : ℕ) × (take m (xs ++ ys) ≡ take n xs)
first_of_more zero xs ys = (zero, refl)
first_of_more (suc n) [] ys = (zero, refl)
first_of_more (suc n) (x ∷ xs) ys = let rest = first_of_more n xs ys in (suc rest.0, ap (λ (more : List Batch). x ∷ more) rest.1)

keeps_more : (old new : StoreState) (xs ys : List Batch) → KeepsFirst xs old new → KeepsFirst (xs ++ ys) old new
keeps_more old new xs ys keeps =
    let m = first_of_more keeps.0 xs ys in
    (m.0, keeps.1 ∙ ap (λ (more : List Batch). old.batches ++ more) (sym m.1))

pub ticks_keep : (s now : ServerState) (gone : List Who) (at : At) → ((v : Target) → Shows s v → gone ≡ condemned v v.called)
    → KeepsBatches (expels at gone) s now → KeepsBatches (ticked at) s now
ticks_keep s now gone at due keeps = λ v shows.
    let es : List Entry = expels at (condemned v v.called) v in
    let fs : List Entry = sends_again (turn v es) v.called v.glimpses (turn v es).granted in
    subst (λ (batches : List Batch). KeepsFirst batches s.store now.store) (sym (batches_more es fs))
    (keeps_more s.store now.store (batches_of es) (batches_of fs)
    (subst (λ (lives : List Who). KeepsFirst (batches_of (expels at lives v)) s.store now.store) (due v shows) (keeps v shows)))
