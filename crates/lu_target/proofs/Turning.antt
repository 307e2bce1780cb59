-- Turns of a target, from those of its server: while it serves, and while it recovers.
use Rattle.std.proofs.Common.{◌≡◌, ℕ, ◌<◌, ◌==◌, true, false, List, [], ◌∷◌, ◌++◌, take, Option, Some, None, refl, sym, ap, subst, ◌∙◌}
use Rattle.std.proofs.Common.{arith}
use Rattle.std.proofs.lemmas.Bool.Decides.{nat_tests}
use Rattle.lu_base.specs.declared.ids.At.{At}
use Rattle.lu_base.specs.declared.ids.Node.{Node}
use Rattle.lu_msg.specs.declared.messages.Message.{Message}
use Rattle.lu_trace.specs.Turns.{Making}
use Rattle.lu_spec_entries.specs.Words.{Entry, Take}
use Rattle.lu_spec_target.specs.Disks.{failing, batches_of}
use Rattle.lu_spec_target.specs.Rows.{row_heeds, row_takes}
use Rattle.lu_spec_target.specs.States.{Target, is_serving, turn}
use Rattle.lu_target_server.specs.Windows.{State}
use Rattle.lu_spec_entries.specs.Given.{giving}
use Rattle.lu_target_server.specs.Servers.{ServerState, Shows, Stands, Makes, Fails, KeepsBatches, DiskFailed}
use Rattle.lu_target_server.specs.Recovering.{Gathers, Recovers, Awaits}
use Rattle.lu_target_server.specs.Passing.{Passes, HasBatches, StopsAt}
use Rattle.lu_target_server.proofs.Composing.{giving_more, giving_none, nothing_more}
use Rattle.lu_target.specs.Running.{RunningState, IsOf, IsIn, IsUp, Turns, StopsIn, KeepsIn}

-- ---- what is shown

-- it serves
pub serving_is : (s : ServerState) (v : Target) → Shows s v → is_serving v ≡ true
serving_is s v shows = by shows.sound.serving where
  by : v.closed ≡ v.boot → (v.closed == v.boot) ≡ true
  by e = grind (arith, nat_tests)

pub recovering_is : (s : ServerState) (w : State) (v : Target) → Gathers s w v → is_serving v ≡ false
recovering_is s w v g = by g.sound.recovering where
  by : v.closed < v.boot → (v.closed == v.boot) ≡ false
  by e = grind (arith, nat_tests)

pub in_none : (t : RunningState) (v : Target) → t.window ≡ None → IsIn t v → Shows t.server v
in_none t v e it = subst (λ (o : Option State). IsOf t.server o v) e it

pub in_some : (t : RunningState) (w : State) (v : Target) → t.window ≡ Some w → IsIn t v → Recovers t.server w v
in_some t w v e it = subst (λ (o : Option State). IsOf t.server o v) e it

pub stands_in : (t : RunningState) → t.window ≡ None → IsUp t → Stands t.server
stands_in t e up = (up.0, in_none t up.0 e up.1)

pub awaits_in : (t : RunningState) (w : State) → t.window ≡ Some w → IsUp t → Awaits t.server w
awaits_in t w e up = (up.0, in_some t w up.0 e up.1)

-- ---- turns

pub turns_as : (row other : Target → List Entry) (old new : RunningState) (before after : Making)
    → ((v : Target) → IsIn old v → row v ≡ other v) → Turns row old new before after → Turns other old new before after
turns_as row other old new before after same turns = record {
  gives = λ v it. turns.gives v it ∙ ap (giving before) (same v it);
  shows = λ v it. subst (λ (es : List Entry). IsIn new (turn v es)) (same v it) (turns.shows v it);
}

pub stops_as : (row other : Target → List Entry) (old new : RunningState) (before after : Making)
    → ((v : Target) → IsIn old v → row v ≡ other v) → StopsIn row old new before after → StopsIn other old new before after
stops_as row other old new before after same stops = record {
  rose = stops.rose;
  gives = λ v it. stops.gives v it ∙ ap (λ (es : List Entry). giving before (failing es 0)) (same v it);
}

pub keeps_as : (row other : Target → List Entry) (old new : RunningState) → ((v : Target) → IsIn old v → row v ≡ other v)
    → KeepsIn row old new → KeepsIn other old new
keeps_as row other old new same keeps = λ v it. let some = keeps v it in
    (some.0, some.1 ∙ ap (λ (es : List Entry). old.server.store.batches ++ take some.0 (batches_of es)) (same v it))

-- nothing was done
pub nothing_turns : (row : Target → List Entry) (t : RunningState) (making : Making) → ((v : Target) → IsIn t v → row v ≡ [])
    → Turns row t t making making
nothing_turns row t making none = record {
  gives = λ v it. sym (giving_none making) ∙ ap (giving making) (sym (none v it));
  shows = λ v it. subst (λ (es : List Entry). IsIn t (turn v es)) (sym (none v it)) it;
}

-- nothing was written
pub no_batches : (row : Target → List Entry) (old new : RunningState) → new.server.store.batches ≡ old.server.store.batches
    → KeepsIn row old new
no_batches row old new same = λ v it. (0, same ∙ sym (nothing_more old.server.store.batches))

-- ---- while it serves

pub makes_turns : (row : Target → List Entry) (old new : RunningState) (before after : Making) → old.window ≡ None → new.window ≡ None
    → Makes row old.server new.server before after → Turns row old new before after
makes_turns row old new before after one two makes = record {
  gives = λ v it. makes.gives v (in_none old v one it);
  shows = λ v it. subst (λ (o : Option State). IsOf new.server o (turn v (row v))) (sym two) (makes.shows v (in_none old v one it));
}

pub fails_stops : (row : Target → List Entry) (old new : RunningState) (before after : Making) → old.window ≡ None
    → DiskFailed old.server new.server × Fails row old.server before after → StopsIn row old new before after
fails_stops row old new before after one fails = record { rose = fails.0; gives = λ v it. fails.1 v (in_none old v one it) }

pub keeps_in : (row : Target → List Entry) (old new : RunningState) → old.window ≡ None → KeepsBatches row old.server new.server
    → KeepsIn row old new
keeps_in row old new one keeps = λ v it. keeps v (in_none old v one it)

-- ---- while it recovers

pub passes_turns : (row : Target → List Entry) (old new : RunningState) (w : State) (before after : Making) → old.window ≡ Some w
    → Passes (Recovers old.server w) row new.server new.window before after → Turns row old new before after
passes_turns row old new w before after one passes = record {
  gives = λ v it. passes.gives v (in_some old w v one it);
  shows = λ v it. by new.window refl v it;
} where
  by : (o : Option State) → new.window ≡ o → (v : Target) → IsIn old v → IsOf new.server o (turn v (row v))
  by None e v it = passes.serves e v (in_some old w v one it)
  by (Some x) e v it = passes.recovers x e v (in_some old w v one it)

pub stops_stops : (row : Target → List Entry) (old new : RunningState) (w : State) (before after : Making) → old.window ≡ Some w
    → DiskFailed old.server new.server × StopsAt 0 (Recovers old.server w) row before after → StopsIn row old new before after
stops_stops row old new w before after one stops = record { rose = stops.0; gives = λ v it. stops.1 v (in_some old w v one it) }

pub has_keeps : (row : Target → List Entry) (old new : RunningState) (w : State) → old.window ≡ Some w
    → HasBatches (Recovers old.server w) row old.server.store.batches new.server.store.batches → KeepsIn row old new
has_keeps row old new w one has = λ v it. has v (in_some old w v one it)

-- ---- a message is taken: its line comes first

module _ (at : At) (from : Node) (m : Message) (old new : RunningState) (before between after : Making)
    (told : between ≡ giving before (Take 0 from m ∷ [])) (same : between.at ≡ at) where
  pub taken_turns : Turns (λ v. row_heeds v between.at m) old new between after → Turns (λ v. row_takes v at 0 from m) old new before after
  taken_turns turns = record {
    gives = λ v it.
        turns.gives v it ∙ ap (λ (a : At). giving between (row_heeds v a m)) same
        ∙ ap (λ (making : Making). giving making (row_heeds v at m)) told ∙ giving_more before (Take 0 from m ∷ []) (row_heeds v at m);
    shows = λ v it. subst (λ (a : At). IsIn new (turn v (row_heeds v a m))) same (turns.shows v it);
  }

  pub taken_stops : StopsIn (λ v. row_heeds v between.at m) old new between after
      → StopsIn (λ v. row_takes v at 0 from m) old new before after
  taken_stops stops = record {
    rose = stops.rose;
    gives = λ v it.
        stops.gives v it ∙ ap (λ (a : At). giving between (failing (row_heeds v a m) 0)) same
        ∙ ap (λ (making : Making). giving making (failing (row_heeds v at m) 0)) told
        ∙ giving_more before (Take 0 from m ∷ []) (failing (row_heeds v at m) 0);
  }

  pub taken_keeps : KeepsIn (λ v. row_heeds v between.at m) old new → KeepsIn (λ v. row_takes v at 0 from m) old new
  taken_keeps keeps = λ v it. subst (λ (a : At). (n : ℕ) × (new.server.store.batches ≡ old.server.store.batches
      ++ take n (batches_of (row_heeds v a m)))) same (keeps v it)
