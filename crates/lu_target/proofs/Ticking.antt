-- A tick while the target recovers.
use Rattle.std.proofs.Common.{◌≡◌, if◌then◌else◌, Bool, true, List, [], ◌∷◌, Option, Some, None, Result, Ok, Err, OnOk, refl, sym, ap}
use Rattle.std.proofs.Common.{subst, ◌∙◌}
use Rattle.std.specs.Option.{is_some}
use Rattle.lu_base.specs.declared.ids.At.{At}
use Rattle.lu_trace.specs.Turns.{Making}
use Rattle.lu_spec_entries.specs.Words.{Entry, Tick}
use Rattle.lu_spec_target.specs.Leaving.{row_tick, ticked}
use Rattle.lu_spec_target.specs.States.{Target, after, follow, turn}
use Rattle.lu_target_server.specs.Unread.{AreTheSame}
use Rattle.lu_target_server.proofs.Unread.{window_stays, disk_stays}
use Rattle.lu_target_server.specs.Windows.{State}
use Rattle.lu_target_server.specs.LockServers.{ShowsCounts}
use Rattle.lu_target_server.specs.LockServers.{ServerState as LockState}
use Rattle.lu_spec_entries.specs.Given.{giving}
use Rattle.lu_target_server.specs.Servers.{ServerState}
use Rattle.lu_target_server.specs.Recovering.{Gathers, Recovers}
use Rattle.lu_target.specs.Running.{RunningState, IsOf, IsIn, Turns}
use Rattle.lu_target.proofs.Turning.{in_some, recovering_is}

ticked_same : (v : Target) → AreTheSame v (after v Tick)
ticked_same v = record {
  setting = refl;
  boot = refl;
  number = refl;
  lives = refl;
  removed = refl;
  slots = refl;
  log = refl;
  committed =
      refl;
  disk = refl;
}

-- it recovers still
pub tick_recovers : (s : ServerState) (locks : LockState) (w : State) (v : Target) → ShowsCounts locks (after v Tick) → Recovers s w v
    → Recovers (record s { locks = locks }) w (after v Tick)
tick_recovers s locks w v counts r =
    let g = r.gathers in
    record {
      gathers = record {
        id = g.id;
        kind = g.kind;
        expire = g.expire;
        boot = g.boot;
        store = record {
          journal = window_stays s.store.journal v (after v Tick) (ticked_same v) g.store.journal;
          disk = disk_stays s.store.batches v (after v Tick) (ticked_same v) g.store.disk;
          untaken = g.store.untaken;
          sound = g.store.sound;
          newest = g.store.newest;
        };
        locks = counts;
        first = g.first;
        contents = g.contents;
        requests = g.requests;
        window = g.window;
        unclosed = g.unclosed;
        sound = record {
          up = g.sound.up;
          recovering = g.sound.recovering;
          lives = g.sound.lives;
          clients = g.sound.clients;
          replays = g.sound.replays;
          rising = g.sound.rising;
          brought = g.sound.brought;
          cookies = g.sound.cookies;
          wishes = g.sound.wishes;
        };
      };
      awaits = r.awaits;
    }

tick_row : (s : ServerState) (w : State) (v : Target) (at : At) → Recovers s w v → Tick ∷ [] ≡ row_tick v at
tick_row s w v at r = sym (ap (λ (b : Bool). if b then follow v (Tick ∷ []) (ticked at) else Tick ∷ []) (recovering_is s w v r.gathers))

ticks_some : (old new : RunningState) (w : State) (making now : Making) → old.window ≡ Some w → new.window ≡ old.window → new.server
    ≡ record old.server { locks = new.server.locks }
    → now ≡ giving making (Tick ∷ []) → ((v : Target) → ShowsCounts old.server.locks v → ShowsCounts new.server.locks (after v Tick))
    → Turns (λ v. row_tick v making.at) old new making now
ticks_some old new w making now some still same told counts = record {
  gives = λ v it. told ∙ ap (giving making) (tick_row old.server w v making.at (in_some old w v some it));
  shows = λ v it.
      let r = in_some old w v some it in
      let there : Recovers new.server w (after v Tick) =
      subst (λ (s : ServerState). Recovers s w (after v Tick)) (sym same)
      (tick_recovers old.server new.server.locks w v (counts v (Gathers.locks r.gathers)) r) in
      subst (λ (es : List Entry). IsIn new (turn v es)) (tick_row old.server w v making.at r)
      (subst (λ (o : Option State). IsOf new.server o (after v Tick)) (sym (still ∙ some)) there);
}

pub tick_turns : (old new : RunningState) (making now : Making) → is_some old.window ≡ true → new.window ≡ old.window → new.server
    ≡ record old.server { locks = new.server.locks }
    → now ≡ giving making (Tick ∷ []) → ((v : Target) → ShowsCounts old.server.locks v → ShowsCounts new.server.locks (after v Tick))
    → Turns (λ v. row_tick v making.at) old new making now
tick_turns old new making now some still same told counts = by old.window refl some where
  by : (o : Option State) → old.window ≡ o → is_some o ≡ true → Turns (λ v. row_tick v making.at) old new making now
  by None e none = absurd (cc)
  by (Some w) e there = ticks_some old new w making now e still same told counts

-- an answer that has two clauses
pub both_ok : {T F P Q R : Type 0} (r : Result T F) → (P → Q → R) → OnOk r P → OnOk r Q → OnOk r R
both_ok (Ok x) f p q = f p q
both_ok (Err e) f p q = tt
