-- All rows together: whatever the event, the batches of its row may be performed again.
use Rattle.std.proofs.Common.{◌≡◌, ℕ, ◌+◌, ◌==◌, ◌≤◌, Bool, true, false, List, [], ◌∷◌, Option, refl, sym, subst, ◌∙◌, arith, nat_lt}
use Rattle.std.specs.Prelude.{if◌then◌else◌}
use Rattle.std.proofs.lemmas.Bool.{eqb-true}
use Rattle.std.proofs.lemmas.Bool.Decides.{nat_tests}
use Rattle.lu_base.specs.declared.ids.At.{At}
use Rattle.lu_base.specs.declared.ids.Node.{Node}
use Rattle.lu_base.specs.declared.ids.Who.{Who}
use Rattle.lu_msg.specs.declared.messages.Message.{Message}
use Rattle.lu_msg.specs.declared.messages.Message.TheVariants as message
use Rattle.lu_service.specs.declared.services.Kind.{Kind}
use Rattle.lu_spec_entries.specs.Words.{Entry, Skip, Tick, Take, Crash}
use Rattle.lu_spec_target.specs.Disks.{batches_of}
use Rattle.lu_spec_target.specs.Lives.{is_life}
use Rattle.lu_spec_target.specs.States.{Target, is_serving, turn, follow}
use Rattle.lu_spec_target.specs.Glimpses.{row_report, asked_for}
use Rattle.lu_spec_target.specs.Requests.{row_request, row_cancel, row_where}
use Rattle.lu_spec_target.specs.Leaving.{up, evicted, ready, ticked, row_tick, row_join}
use Rattle.lu_spec_target.specs.Recovery.{row_replay, row_lock, row_word, row_wish, row_boot, row_close}
use Rattle.lu_spec_target.specs.Rows.{by_boot, by_slot, heeds, lock_again, row_heeds, first_deeds, row_commits, row_commit, row_closes}
use Rattle.lu_spec_target.specs.Rows.{Event, Comes, Ticks, Commits, Crashes, Boots, Closes, row}
use Rattle.lu_target_refines.proofs.Slots.{never}
use Rattle.lu_target_redo.specs.Shown.{AllRepeatable}
use Rattle.lu_target_invariant.specs.Sound.{IsKindOf, IsSound}
use Rattle.lu_target_invariant.specs.Repeats.{LogRepeats, ReplaysRepeat, KeepsRepeatable, KeepsServing, MayHeed, MayCome, MayMake}
use Rattle.lu_target_invariant.proofs.Calm.{all_calm, calm_batches, calm_log, calm_serving}
use Rattle.lu_target_invariant.proofs.Repeatable.{DeedsRepeat}
use Rattle.lu_target_invariant.proofs.Serving.{IsRepeating, StaysRepeating, sound_takes, stays_request, stays_cancel, stays_where}
use Rattle.lu_target_invariant.proofs.Serving.{stays_report, stays_first_commits, stays_tick, stays_join}
use Rattle.lu_target_invariant.proofs.Recovering.{EndsRepeatable, ends_calm, ends_close, ends_replay, ends_lock, ends_word, ends_wish}
use Rattle.lu_target_invariant.proofs.Recovering.{boot_batches, boot_log, boot_closed}

-- ---- what any row keeps: the log may be performed again if it could, and where it counts if it could where it counted

abbrev pub LogServes : Kind → Target → Type 0
LogServes kind v = v.up ≡ true → is_serving v ≡ true → LogRepeats kind v

pub record Keeps (kind : Kind) (v : Target) (es : List Entry) : Type 0 where
  pub batches : AllRepeatable kind (batches_of es)
  pub log : LogRepeats kind v → LogRepeats kind (turn v es)
  pub serves : LogServes kind v → LogServes kind (turn v es)

keeps_stays : (kind : Kind) (v : Target) (es : List Entry) → StaysRepeating kind v es → Keeps kind v es
keeps_stays kind v es stays = record { batches = stays.batches; log = λ log. stays.state.log; serves = λ old up serves. stays.state.log }

keeps_ends : (kind : Kind) (v : Target) (es : List Entry) → is_serving v ≡ false → EndsRepeatable kind v es → Keeps kind v es
keeps_ends kind v es unclosed ends = record {
  batches = ends.batches;
  log = ends.log;
  serves =
      λ old up serves. ends.closed unclosed serves;
}

-- of entries that leave the target up or down as it was
keeps_calm : (kind : Kind) (v : Target) (es : List Entry) → all_calm es ≡ true → (turn v es).up ≡ v.up → Keeps kind v es
keeps_calm kind v es calm same = record {
  batches = subst (AllRepeatable kind) (sym (calm_batches es calm)) tt;
  log = λ log. subst (DeedsRepeat kind) (sym (calm_log v es calm)) log;
  serves = λ old up serves. subst (DeedsRepeat kind) (sym (calm_log v es calm))
      (old (sym same ∙ up) (sym (calm_serving v es calm) ∙ serves));
}

-- ---- what a target that is up knows

record IsUp (kind : Kind) (v : Target) : Type 0 where
  repeating : is_serving v ≡ true → IsRepeating kind v
  replays : is_serving v ≡ false → ReplaysRepeat kind v

is_up : (kind : Kind) (v : Target) (e : Event) → MayMake kind v e → v.up ≡ true → IsUp kind v
is_up kind v e may up = record {
  repeating = λ serves. record { log = may.log up serves; queue = may.queue up serves };
  replays = may.replays up;
}

-- it serves or it recovers
by_phase : (kind : Kind) (v : Target) (one two : List Entry) → (is_serving v ≡ true → StaysRepeating kind v one)
    → (is_serving v ≡ false → EndsRepeatable kind v two)
    → Keeps kind v (if is_serving v then one else two)
by_phase kind v one two serves recovers = by (is_serving v) refl where
  by : (serving : Bool) → is_serving v ≡ serving → Keeps kind v (if serving then one else two)
  by true e = keeps_stays kind v one (serves e)
  by false e = keeps_ends kind v two e (recovers e)

-- ---- a message comes

keeps_heeds : (kind : Kind) (v : Target) (who : Who) (boot : ℕ) (rest : List Entry)
    → (nat_lt boot v.boot ≡ false → is_life who v.lives ≡ true → Keeps kind v rest)
    → Keeps kind v (heeds v who boot rest)
keeps_heeds kind v who boot rest keeps = by (nat_lt boot v.boot) refl (is_life who v.lives) refl where
  by : (older : Bool) → nat_lt boot v.boot ≡ older → (has_slot : Bool) → is_life who v.lives ≡ has_slot
      → Keeps kind v (by_boot v who older (by_slot v who has_slot rest))
  by true e slot f = keeps_calm kind v (up v who ∷ []) refl refl
  by false e true f = keeps e f
  by false e false f = keeps_calm kind v (evicted v who ∷ []) refl refl

nothing_stays : (kind : Kind) (v : Target) → IsRepeating kind v → StaysRepeating kind v []
nothing_stays kind v it = record { batches = tt; state = it }

of_this_boot : (kind : Kind) (v : Target) (boot : ℕ) (rest : List Entry) → (boot ≡ v.boot → EndsRepeatable kind v rest)
    → EndsRepeatable kind v (if boot == v.boot then rest else [])
of_this_boot kind v boot rest ends = by (boot == v.boot) refl where
  by : (own : Bool) → (boot == v.boot) ≡ own → EndsRepeatable kind v (if own then rest else [])
  by true e = ends (eqb-true boot v.boot e)
  by false e = ends_calm kind v [] refl

keeps_join : (kind : Kind) (v : Target) (at : At) (who : Who) (boot : ℕ) (e : Event) → MayMake kind v e → IsUp kind v
    → Keeps kind v (row_heeds v at (message.Join who boot))
keeps_join kind v at who boot e may it = by (nat_lt boot v.boot) where
  rest : List Entry
  rest = if is_serving v then row_join v at who else row_wish v at who

  by : (older : Bool) → Keeps kind v (by_boot v who older rest)
  by true = keeps_calm kind v (up v who ∷ []) refl refl
  by false =
      by_phase kind v (row_join v at who) (row_wish v at who) (λ serves. stays_join kind v at who may.sort (it.repeating serves))
      (λ unclosed. ends_wish kind v at who (it.replays unclosed))

keeps_message : (kind : Kind) (v : Target) (at : At) (m : Message) (e : Event) → MayMake kind v e → IsUp kind v → MayHeed kind v m
    → Keeps kind v (row_heeds v at m)
keeps_message kind v at (message.Request r) e may it heed =
    keeps_heeds kind v r.who r.boot _
    (λ later life. by_phase kind v (row_request v at r) []
    (λ serves. stays_request kind v at r may.sort (heed serves later life) (it.repeating serves)) (λ unclosed. ends_calm kind v [] refl))
keeps_message kind v at (message.Cancel who boot cookie) e may it heed =
    keeps_heeds kind v who boot _
    (λ later life. by_phase kind v (row_cancel v at who cookie) []
    (λ serves. stays_cancel kind v at who cookie may.sort (it.repeating serves)) (λ unclosed. ends_calm kind v [] refl))
keeps_message kind v at (message.Where who boot cookie) e may it heed =
    keeps_heeds kind v who boot _
    (λ later life. by_phase kind v (row_where v who cookie) [] (λ serves. stays_where kind v who cookie (it.repeating serves))
    (λ unclosed. ends_calm kind v [] refl))
keeps_message kind v at (message.Size m) e may it heed =
    keeps_heeds kind v m.who m.boot _
    (λ later life. by_phase kind v (row_report v at m (asked_for m v.glimpses)) []
    (λ serves. stays_report kind v at m (it.repeating serves)) (λ unclosed. ends_calm kind v [] refl))
keeps_message kind v at (message.Replay r) e may it heed =
    keeps_heeds kind v r.who r.boot _
    (λ later life. by_phase kind v [] _ (λ serves. nothing_stays kind v (it.repeating serves))
    (λ unclosed. of_this_boot kind v r.boot (row_replay v at r)
    (λ own. ends_replay kind v at r (heed unclosed own life) (it.replays unclosed))))
keeps_message kind v at (message.Lock r) e may it heed =
    keeps_heeds kind v r.who r.boot _
    (λ later life. by_phase kind v [] _ (λ serves. nothing_stays kind v (it.repeating serves))
    (λ unclosed. of_this_boot kind v r.boot (row_lock v at (lock_again r))
    (λ own. ends_lock kind v at (lock_again r) (it.replays unclosed))))
keeps_message kind v at (message.Word who boot replays locks seen) e may it heed =
    keeps_heeds kind v who boot _
    (λ later life. by_phase kind v (ready v who ∷ []) _ (λ serves. ready_stays (it.repeating serves))
    (λ unclosed. of_this_boot kind v boot (row_word v at (record { who = who; replays = replays; locks = locks; seen = seen }))
    (λ own. ends_word kind v at (record { who = who; replays = replays; locks = locks; seen = seen }) (it.replays unclosed))))
  where
    ready_stays : IsRepeating kind v → StaysRepeating kind v (ready v who ∷ [])
    ready_stays own = record { batches = tt; state = record { log = own.log; queue = own.queue } }
keeps_message kind v at (message.Join who boot) e may it heed = keeps_join kind v at who boot e may it
keeps_message kind v at _ e may it heed = keeps_calm kind v [] refl refl

-- the line that it is taken changes nothing
behind_take : (kind : Kind) (v : Target) (number : ℕ) (from : Node) (m : Message) (es : List Entry) → Keeps kind v es
    → Keeps kind v (Take number from m ∷ es)
behind_take kind v number from m es keeps = record {
  batches = keeps.batches;
  log = λ log. keeps.log log;
  serves = λ old. keeps.serves old;
}

-- ---- ticks, commands, crashes and boots

when_down : (kind : Kind) (v : Target) (rest : List Entry) → (v.up ≡ true → Keeps kind v rest)
    → Keeps kind v (if v.up then rest else Skip ∷ [])
when_down kind v rest keeps = by v.up refl where
  by : (up : Bool) → v.up ≡ up → Keeps kind v (if up then rest else Skip ∷ [])
  by true e = keeps e
  by false e = keeps_calm kind v (Skip ∷ []) refl refl

keeps_tick : (kind : Kind) (v : Target) (at : At) (e : Event) → MayMake kind v e → IsUp kind v
    → Keeps kind v (if is_serving v then follow v (Tick ∷ []) (ticked at) else Tick ∷ [])
keeps_tick kind v at e may it =
    by_phase kind v (follow v (Tick ∷ []) (ticked at)) (Tick ∷ []) (λ serves. stays_tick kind at v may.sort (it.repeating serves))
    (λ unclosed. ends_calm kind v (Tick ∷ []) refl)

keeps_commit : (kind : Kind) (v : Target) (count : Option ℕ) → IsUp kind v
    → Keeps kind v (if is_serving v then row_commits v (first_deeds count v.log) else Skip ∷ [])
keeps_commit kind v count it =
    by_phase kind v (row_commits v (first_deeds count v.log)) (Skip ∷ []) (λ serves. stays_first_commits kind v count (it.repeating serves))
    (λ unclosed. ends_calm kind v (Skip ∷ []) refl)

keeps_close : (kind : Kind) (v : Target) (at : At) → IsUp kind v → Keeps kind v (if is_serving v then Skip ∷ [] else row_close at v)
keeps_close kind v at it = by_phase kind v (Skip ∷ []) (row_close at v) (λ serves. skip_stays (it.repeating serves))
    (λ unclosed. ends_close kind at v v (it.replays unclosed)) where
      skip_stays : IsRepeating kind v → StaysRepeating kind v (Skip ∷ [])
      skip_stays own = record { batches = tt; state = record { log = own.log; queue = own.queue } }

keeps_crash : (kind : Kind) (v : Target) → Keeps kind v (Crash ∷ [])
keeps_crash kind v = record { batches = tt; log = λ log. log; serves = λ old up. absurd (never (sym up)) }

later_boot : (m n : ℕ) → m ≤ n → (m == n + 1) ≡ false
later_boot m n le = grind (arith, nat_tests)

-- the last close was of a boot that is on the disk
keeps_boots : (kind : Kind) (v : Target) (at : At) → v.closed ≤ v.disk.boot → Keeps kind v (row_boot v at)
keeps_boots kind v at below = record {
  batches = boot_batches kind v at;
  log = boot_log kind v at;
  serves = λ old up serves. boot_closed kind v at (later_boot v.closed v.disk.boot below) serves;
}

pub serving_boot : (kind : Kind) (v : Target) (at : At) → v.closed ≤ v.disk.boot → KeepsServing kind v (row_boot v at)
serving_boot kind v at below = record {
  batches = boot_batches kind v at;
  log =
      λ up serves. boot_closed kind v at (later_boot v.closed v.disk.boot below) serves;
}

keeps_booting : (kind : Kind) (v : Target) (at : At) → (v.up ≡ false → v.closed ≤ v.disk.boot)
    → Keeps kind v (if v.up then Skip ∷ [] else row_boot v at)
keeps_booting kind v at below = by v.up refl where
  by : (up : Bool) → v.up ≡ up → Keeps kind v (if up then Skip ∷ [] else row_boot v at)
  by true e = keeps_calm kind v (Skip ∷ []) refl refl
  by false e = keeps_boots kind v at (below e)

-- ---- all events

keeps_event : (kind : Kind) (v : Target) (at : At) (e : Event) → MayMake kind v e → Keeps kind v (row v at e)
keeps_event kind v at (Comes number from m) may =
    behind_take kind v number from m (row_heeds v at m)
    (keeps_message kind v at m (Comes number from m) may (is_up kind v (Comes number from m) may may.event.0) may.event.1)
keeps_event kind v at Ticks may = when_down kind v (row_tick v at) (λ up. keeps_tick kind v at Ticks may (is_up kind v Ticks may up))
keeps_event kind v at (Commits count) may = when_down kind v (row_commit v count)
    (λ up. keeps_commit kind v count (is_up kind v (Commits count) may up))
keeps_event kind v at Crashes may = when_down kind v (Crash ∷ []) (λ up. keeps_crash kind v)
keeps_event kind v at Boots may = keeps_booting kind v at may.event
keeps_event kind v at Closes may = when_down kind v (row_closes v at) (λ up. keeps_close kind v at (is_up kind v Closes may up))

-- The batches of the row may be performed again, and so may the log, if it could.
pub repeats_row : (kind : Kind) (v : Target) (at : At) (e : Event) → MayMake kind v e → LogRepeats kind v
    → KeepsRepeatable kind v (row v at e)
repeats_row kind v at e may log =
    let keeps : Keeps kind v (row v at e) = keeps_event kind v at e may in
    record { batches = keeps.batches; log = keeps.log log }

-- And nothing need be known of the log of a target that recovers.
pub serving_row : (kind : Kind) (v : Target) (at : At) (e : Event) → MayMake kind v e → KeepsServing kind v (row v at e)
serving_row kind v at e may =
    let keeps : Keeps kind v (row v at e) = keeps_event kind v at e may in
    record { batches = keeps.batches; log = keeps.serves may.log }

-- ---- states of which that is asked

-- one that serves, and is sound
pub may_serving : (kind : Kind) (v : Target) (e : Event) → IsKindOf v.setting.id kind → IsSound kind v → LogRepeats kind v
    → MayCome kind v e → MayMake kind v e
may_serving kind v e is sound log comes = record {
  sort = is;
  log = λ up serves. log;
  queue = λ up serves. sound_takes kind v sound;
  replays = λ up unclosed. absurd (never (sym (equal v.closed v.boot sound.serving) ∙ unclosed));
  event = comes;
} where
  equal : (m n : ℕ) → m ≡ n → (m == n) ≡ true
  equal m n same = grind (arith, nat_tests)

-- one that recovers
pub may_recovering : (kind : Kind) (v : Target) (e : Event) → IsKindOf v.setting.id kind → is_serving v ≡ false → ReplaysRepeat kind v
    → MayCome kind v e → MayMake kind v e
may_recovering kind v e is unclosed replays comes = record {
  sort = is;
  log = λ up serves. absurd (never (sym serves ∙ unclosed));
  queue = λ up serves. absurd (never (sym serves ∙ unclosed));
  replays = λ up still. replays;
  event = comes;
}

-- and one that is down, where it boots
pub may_boot : (kind : Kind) (v : Target) → IsKindOf v.setting.id kind → v.up ≡ false → v.closed ≤ v.disk.boot → MayMake kind v Boots
may_boot kind v is down below = record {
  sort = is;
  log = λ up serves. absurd (never (sym up ∙ down));
  queue = λ up serves. absurd (never (sym up ∙ down));
  replays = λ up unclosed. absurd (never (sym up ∙ down));
  event = λ e. below;
}
