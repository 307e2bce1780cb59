-- Row by row in the words of what a target's code shows: of a sound state that serves, and of one that recovers.
use Rattle.std.proofs.Common.{◌≡◌, ℕ, true, [], ◌∷◌, Option}
use Rattle.lu_base.specs.declared.ids.At.{At}
use Rattle.lu_base.specs.declared.ids.Cookie.{Cookie}
use Rattle.lu_base.specs.declared.ids.Who.{Who}
use Rattle.lu_base.specs.declared.locks.Lock.{Lock}
use Rattle.lu_msg.specs.declared.messages.Request.{Request}
use Rattle.lu_msg.specs.declared.messages.RequestReplay.{RequestReplay}
use Rattle.lu_msg.specs.declared.messages.SizeReport.{SizeReport}
use Rattle.lu_service.specs.declared.services.Kind.{Kind}
use Rattle.lu_spec_entries.specs.Carried.{Said}
use Rattle.lu_spec_entries.specs.Words.{Entry, Tick}
use Rattle.lu_spec_target.specs.States.{Target, after, follow}
use Rattle.lu_spec_target.specs.Glimpses.{row_report, asked_for}
use Rattle.lu_spec_target.specs.Requests.{row_request, row_cancel, row_where}
use Rattle.lu_spec_target.specs.Leaving.{ticked, row_join}
use Rattle.lu_spec_target.specs.Recovery.{row_close, settles, row_keeps, row_replay, row_lock, row_word, row_wish}
use Rattle.lu_spec_target.specs.Rows.{first_deeds, row_commits}
use Rattle.lu_target_redo.specs.Shown.{IsRepeatable}
use Rattle.lu_target_invariant.specs.Sound.{IsKindOf, IsSound}
use Rattle.lu_target_invariant.proofs.Turns.{MayTake}
use Rattle.lu_target_invariant.specs.Repeats.{LogRepeats, ReplaysRepeat, KeepsRepeatable}
use Rattle.lu_target_invariant.proofs.Calm.{is_calm}
use Rattle.lu_target_invariant.proofs.Serving.{IsRepeating, sound_takes, keeps_row, stays_request, stays_cancel, stays_where, stays_report}
use Rattle.lu_target_invariant.proofs.Serving.{stays_first_commits, stays_ticked, stays_tick, stays_join}
use Rattle.lu_target_invariant.proofs.Recovering.{keeps_end, ends_close, ends_settles, ends_keeps, ends_replay, ends_lock, ends_word}
use Rattle.lu_target_invariant.proofs.Recovering.{ends_wish}

-- ---- a sound state that serves

repeating : (kind : Kind) (v : Target) → IsSound kind v → LogRepeats kind v → IsRepeating kind v
repeating kind v sound log = record { log = log; queue = sound_takes kind v sound }

pub repeats_request : (kind : Kind) (v : Target) (at : At) (r : Request) → IsKindOf v.setting.id kind → MayTake kind v r → IsSound kind v
    → LogRepeats kind v
    → KeepsRepeatable kind v (row_request v at r)
repeats_request kind v at r is may sound log = keeps_row kind v (row_request v at r)
    (stays_request kind v at r is may.takes (repeating kind v sound log))

pub repeats_cancel : (kind : Kind) (v : Target) (at : At) (who : Who) (cookie : Cookie) → IsKindOf v.setting.id kind → IsSound kind v
    → LogRepeats kind v
    → KeepsRepeatable kind v (row_cancel v at who cookie)
repeats_cancel kind v at who cookie is sound log = keeps_row kind v (row_cancel v at who cookie)
    (stays_cancel kind v at who cookie is (repeating kind v sound log))

pub repeats_where : (kind : Kind) (v : Target) (who : Who) (cookie : Cookie) → IsSound kind v → LogRepeats kind v
    → KeepsRepeatable kind v (row_where v who cookie)
repeats_where kind v who cookie sound log = keeps_row kind v (row_where v who cookie)
    (stays_where kind v who cookie (repeating kind v sound log))

pub repeats_report : (kind : Kind) (v : Target) (at : At) (m : SizeReport) → IsSound kind v → LogRepeats kind v
    → KeepsRepeatable kind v (row_report v at m (asked_for m v.glimpses))
repeats_report kind v at m sound log = keeps_row kind v (row_report v at m (asked_for m v.glimpses))
    (stays_report kind v at m (repeating kind v sound log))

pub repeats_commits : (kind : Kind) (v : Target) (count : Option ℕ) → IsSound kind v → LogRepeats kind v
    → KeepsRepeatable kind v (row_commits v (first_deeds count v.log))
repeats_commits kind v count sound log = keeps_row kind v (row_commits v (first_deeds count v.log))
    (stays_first_commits kind v count (repeating kind v sound log))

pub repeats_ticked : (kind : Kind) (v : Target) (at : At) → IsKindOf v.setting.id kind → IsSound kind v → LogRepeats kind v
    → KeepsRepeatable kind v (ticked at v)
repeats_ticked kind v at is sound log = keeps_row kind v (ticked at v) (stays_ticked kind at v is (repeating kind v sound log))

pub repeats_tick : (kind : Kind) (v : Target) (at : At) → IsKindOf v.setting.id kind → IsSound kind v → LogRepeats kind v
    → KeepsRepeatable kind v (follow v (Tick ∷ []) (ticked at))
repeats_tick kind v at is sound log = keeps_row kind v (follow v (Tick ∷ []) (ticked at))
    (stays_tick kind at v is (repeating kind v sound log))

pub repeats_join : (kind : Kind) (v : Target) (at : At) (who : Who) → IsKindOf v.setting.id kind → IsSound kind v → LogRepeats kind v
    → KeepsRepeatable kind v (row_join v at who)
repeats_join kind v at who is sound log = keeps_row kind v (row_join v at who) (stays_join kind v at who is (repeating kind v sound log))

-- ---- one that recovers

pub repeats_close : (kind : Kind) (v : Target) (at : At) → ReplaysRepeat kind v → LogRepeats kind v
    → KeepsRepeatable kind v (row_close at v)
repeats_close kind v at replays log = keeps_end kind v (row_close at v) log (ends_close kind at v v replays)

pub repeats_settles : (kind : Kind) (v : Target) (at : At) → ReplaysRepeat kind v → LogRepeats kind v
    → KeepsRepeatable kind v (settles at v)
repeats_settles kind v at replays log = keeps_end kind v (settles at v) log (ends_settles kind at v v replays)

pub repeats_keeps : (kind : Kind) (v : Target) (at : At) (who : Who) (e : Entry) → is_calm e ≡ true → ReplaysRepeat kind (after v e)
    → LogRepeats kind v
    → KeepsRepeatable kind v (row_keeps v at who e)
repeats_keeps kind v at who e calm replays log = keeps_end kind v (row_keeps v at who e) log (ends_keeps kind v at who e calm replays)

pub repeats_replay : (kind : Kind) (v : Target) (at : At) (r : RequestReplay) → IsRepeatable kind r.op → ReplaysRepeat kind v
    → LogRepeats kind v
    → KeepsRepeatable kind v (row_replay v at r)
repeats_replay kind v at r repeats replays log = keeps_end kind v (row_replay v at r) log (ends_replay kind v at r repeats replays)

pub repeats_lock : (kind : Kind) (v : Target) (at : At) (l : Lock) → ReplaysRepeat kind v → LogRepeats kind v
    → KeepsRepeatable kind v (row_lock v at l)
repeats_lock kind v at l replays log = keeps_end kind v (row_lock v at l) log (ends_lock kind v at l replays)

pub repeats_word : (kind : Kind) (v : Target) (at : At) (word : Said) → ReplaysRepeat kind v → LogRepeats kind v
    → KeepsRepeatable kind v (row_word v at word)
repeats_word kind v at word replays log = keeps_end kind v (row_word v at word) log (ends_word kind v at word replays)

pub repeats_wish : (kind : Kind) (v : Target) (at : At) (who : Who) → ReplaysRepeat kind v → LogRepeats kind v
    → KeepsRepeatable kind v (row_wish v at who)
repeats_wish kind v at who replays log = keeps_end kind v (row_wish v at who) log (ends_wish kind v at who replays)
