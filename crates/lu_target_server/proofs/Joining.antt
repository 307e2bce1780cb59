-- A life joins: it is told at once, or takes the place of the life of its client.
use Rattle.std.proofs.Common.{◌≡◌, ◌≢◌, ℕ, ◌==◌, nat_lt, Bool, true, false, List, [], ◌∷◌, ◌++◌, Option, Some, None, refl, sym, ap, subst}
use Rattle.std.proofs.Common.{◌∙◌}
use Rattle.std.specs.Prelude.{if◌then◌else◌}
use Rattle.std.specs.List.{list_any}
use Rattle.lu_base.specs.declared.ids.At.{At}
use Rattle.lu_base.specs.declared.ids.Who.{Who}
use Rattle.lu_base.specs.declared.locks.Cause.TheVariants.{Replaced}
use Rattle.lu_msg.specs.declared.messages.Message.TheVariants as message
use Rattle.lu_trace.specs.Turns.{Making}
use Rattle.lu_spec_entries.specs.Words.{Entry, Joined, Fail}
use Rattle.lu_txn.specs.Slots.{lives_of}
use Rattle.lu_spec_target.specs.Disks.{failing, batches_of}
use Rattle.lu_spec_target.specs.Lives.{is_life, without_lives}
use Rattle.lu_spec_target.specs.Leaving.{evicted, ready, all_go, life_of, admits, row_admits, by_life, is_over, row_join}
use Rattle.lu_spec_target.specs.Replies.{to_life}
use Rattle.lu_spec_target.specs.Stored.{batch_of}
use Rattle.lu_spec_target.specs.States.{Target, turn, follow}
use Rattle.lu_target_refines.specs.Batches.{AreOnce, AreAmong, AreApart}
use Rattle.lu_target_refines.proofs.Closings.{life_there, no_life}
use Rattle.lu_target_refines.proofs.LifeLists.{without_none}
use Rattle.lu_target_store.specs.Stores.{MayMove}
use Rattle.lu_target_locks.specs.declared.departing.QueueStep.{QueueStep}
use Rattle.lu_target_invariant.proofs.Commits.{life_left}
use Rattle.lu_target_server.specs.Answering.{Tells}
use Rattle.lu_spec_entries.specs.Given.{giving}
use Rattle.lu_target_server.specs.Joins.{IsAlone, TakesPlace}
use Rattle.lu_target_server.specs.Servers.{ServerState, Shows, Stands, Makes, KeepsBatches, Fails}
use Rattle.lu_target_server.specs.Middles.{MakesRest, KeepsFirst}
use Rattle.lu_target_server.specs.Releases.{moves, AreMoved}
use Rattle.lu_target_server.proofs.Composing.{giving_more, tells}
use Rattle.lu_target_server.proofs.MovedLives.{moved_then, keeps_one, keeps_first}

-- ---- who leaves and who comes

pub alone : (s : ServerState) (v : Target) (old : List Who) (who : Who) → Shows s v → TakesPlace old who v.lives
    → IsAlone old (who ∷ []) v.lives
alone s v [] who shows place = subst (λ (lives : List Who). life_of who.client lives ≡ None) (sym (without_none v.lives)) place
alone s v (old ∷ []) who shows place = life_left who.client old v.lives shows.sound.clients place
alone s v (old ∷ other ∷ more) who shows place = absurd place

once : (s : ServerState) (v : Target) (old : List Who) (who : Who) → TakesPlace old who v.lives → AreOnce old
once s v [] who place = tt
once s v (old ∷ []) who place = (refl, tt)
once s v (old ∷ other ∷ more) who place = absurd place

among : (v : Target) (old : List Who) (who : Who) → TakesPlace old who v.lives → AreAmong v.lives old
among v [] who place = tt
among v (old ∷ []) who place = ((life_there who.client v.lives old place).0, tt)
among v (old ∷ other ∷ more) who place = absurd place

pub may_join : (s : ServerState) (v : Target) (old : List Who) (who : Who) → Shows s v → TakesPlace old who v.lives
    → MayMove old (who ∷ []) s.store
may_join s v old who shows place =
    let lives = shows.store.journal.booted.lives in
    record {
      once = once s v old who place;
      among = subst (λ (all : List Who). AreAmong all old) lives (among v old who place);
      new = (refl, tt);
      apart = subst (λ (all : List Who). AreApart (without_lives old all) (who ∷ [])) lives
          (no_life who (without_lives old v.lives) (alone s v old who shows place), tt);
    }

-- ---- the row

at_of : (before afterwards : Making) (es : List Entry) → afterwards ≡ giving before es → afterwards.at ≡ before.at
at_of before afterwards es gives = ap (λ (making : Making). making.at) gives

pub admits_then : (s moved now : ServerState) (v : Target) (old : List Who) (who : Who) (steps : List QueueStep)
    (before between lined told afterwards : Making)
    → AreMoved Replaced old (who ∷ []) steps v s moved before between → (let u = turn v (moves before.at Replaced old (who ∷ []) v) in
    lined ≡ giving between (Joined who ∷ []) → told ≡ giving lined (ready u who ∷ []) → MakesRest (all_go told.at u) u now told afterwards
    → MakesRest (row_admits before.at old who v) v now before afterwards)
admits_then s moved now v old who steps before between lined told afterwards is_moved joined readied made =
    let es : List Entry = moves before.at Replaced old (who ∷ []) v in
    let u : Target = turn v es in
    let at : told.at ≡ before.at = at_of lined told (ready u who ∷ []) readied ∙ at_of between lined (Joined who ∷ []) joined
    ∙ at_of before between es is_moved.gives in
    let goes : MakesRest (all_go before.at u) u now told afterwards =
    subst (λ (it : At). MakesRest (all_go it u) u now told afterwards) at made in
    let fs : List Entry = all_go before.at u in
    let rest : MakesRest (admits before.at who u) u now between afterwards = record {
      gives = goes.gives
          ∙ ap (λ (making : Making). giving making fs) (readied ∙ ap (λ (making : Making). giving making (ready u who ∷ [])) joined
          ∙ giving_more between (Joined who ∷ []) (ready u who ∷ []))
          ∙ giving_more between (Joined who ∷ ready u who ∷ []) fs;
      shows = goes.shows;
    } in
    moved_then s moved now v Replaced old (who ∷ []) steps (admits before.at who) before between afterwards is_moved rest

-- ---- who needn't come

pub says_evicted : (s : ServerState) (who : Who) (before afterwards : Making) → afterwards
    ≡ giving before (to_life who (message.Evicted who s.boot) ∷ []) → Makes (λ v. evicted v who ∷ []) s s before afterwards
says_evicted s who before afterwards gives = record {
  gives = λ v shows. gives ∙ ap (λ (boot : ℕ). giving before (to_life who (message.Evicted who boot) ∷ [])) (sym shows.boot);
  shows = λ v shows. shows;
}

pub says_ready : (s : ServerState) (who : Who) (before afterwards : Making)
    → ((v : Target) → Tells s v → afterwards ≡ giving before (ready v who ∷ [])) → Makes (λ v. ready v who ∷ []) s s before afterwards
says_ready s who before afterwards gives = record { gives = λ v shows. gives v (tells s v shows); shows = λ v shows. shows }

pub row_over : (v : Target) (at : At) (who : Who) → list_any (is_over who) v.removed ≡ true → row_join v at who ≡ evicted v who ∷ []
row_over v at who over = ap (λ (b : Bool). if b then evicted v who ∷ [] else by_life v at who (life_of who.client v.lives)) over

pub row_by : (v : Target) (at : At) (who : Who) (found : Option Who) → list_any (is_over who) v.removed ≡ false → life_of who.client v.lives
    ≡ found → row_join v at who ≡ by_life v at who found
row_by v at who found over is =
    ap (λ (b : Bool). if b then evicted v who ∷ [] else by_life v at who (life_of who.client v.lives)) over
    ∙ ap (by_life v at who) is

pub row_older : (v : Target) (at : At) (who old : Who) → nat_lt who.life old.life ≡ true → by_life v at who (Some old) ≡ evicted v who ∷ []
row_older v at who old older = ap (λ (b : Bool). if b then evicted v who ∷ []
    else (if who.life == old.life then ready v who ∷ [] else row_admits at (old ∷ []) who v)) older

pub row_same : (v : Target) (at : At) (who old : Who) → nat_lt who.life old.life ≡ false → (who.life == old.life) ≡ true
    → by_life v at who (Some old) ≡ ready v who ∷ []
row_same v at who old older same =
    ap (λ (b : Bool). if b then evicted v who ∷ [] else (if who.life == old.life then ready v who ∷ [] else row_admits at (old ∷ []) who v))
    older
    ∙ ap (λ (b : Bool). if b then ready v who ∷ [] else row_admits at (old ∷ []) who v) same

pub row_newer : (v : Target) (at : At) (who old : Who) → nat_lt who.life old.life ≡ false → (who.life == old.life) ≡ false
    → by_life v at who (Some old) ≡ row_admits at (old ∷ []) who v
row_newer v at who old older same =
    ap (λ (b : Bool). if b then evicted v who ∷ [] else (if who.life == old.life then ready v who ∷ [] else row_admits at (old ∷ []) who v))
    older
    ∙ ap (λ (b : Bool). if b then ready v who ∷ [] else row_admits at (old ∷ []) who v) same

-- ---- after an error

pub admits_fail : (s : ServerState) (old : List Who) (who : Who) (before afterwards : Making)
    → ((v : Target) → Shows s v → row_join v before.at who ≡ row_admits before.at old who v)
    → afterwards ≡ giving before (Fail ∷ []) → Fails (λ v. row_join v before.at who) s before afterwards
admits_fail s old who before afterwards row gives = λ v shows. gives
    ∙ ap (λ (es : List Entry). giving before (failing es 0)) (sym (row v shows))

pub admits_keep : (s now : ServerState) (at : At) (old : List Who) (who : Who)
    → ((v : Target) → Shows s v → row_join v at who ≡ row_admits at old who v)
    → KeepsBatches (row_admits at old who) s now → KeepsBatches (λ v. row_join v at who) s now
admits_keep s now at old who row keeps = λ v shows. subst (λ (es : List Entry). KeepsFirst (batches_of es) s.store now.store)
    (sym (row v shows)) (keeps v shows)

-- one value has one life in it
pub some_same : (o : Option Who) (a b : Who) → o ≡ Some a → o ≡ Some b → a ≡ b
some_same o a b one two = cc
