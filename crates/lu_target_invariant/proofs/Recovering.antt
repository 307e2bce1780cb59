-- Row by row, of a target that recovers: where its replays may be performed again, so may what it commits as its window
-- closes, and a close leaves no log. Nothing is asked of the log of before.
use Rattle.std.proofs.Common.{◌≡◌, ◌+◌, ◌==◌, ◌&&◌, not, Bool, true, false, List, [], ◌∷◌, ◌++◌, filter, Option, Some, None, refl, sym}
use Rattle.std.proofs.Common.{subst, ◌∙◌, nat_lt}
use Rattle.std.specs.Prelude.{if◌then◌else◌}
use Rattle.std.specs.List.{list_any}
use Rattle.lu_base.specs.declared.ids.At.{At}
use Rattle.lu_base.specs.declared.ids.Who.{Who}
use Rattle.lu_base.specs.declared.locks.Lock.{Lock}
use Rattle.lu_msg.specs.declared.messages.RequestReplay.{RequestReplay}
use Rattle.lu_service.specs.declared.services.Kind.{Kind}
use Rattle.lu_spec_entries.specs.Carried.{Said, Outcome}
use Rattle.lu_spec_entries.specs.Words.{Entry, Boot, Back, Close, Stores, Brings, Says, Wishes}
use Rattle.lu_spec_target.specs.Disks.{batches_of}
use Rattle.lu_spec_target.specs.Lives.{is_life, lives_of}
use Rattle.lu_spec_target.specs.States.{Target, is_serving, after, turn, follow}
use Rattle.lu_spec_target.specs.Leaving.{life_of}
use Rattle.lu_spec_target.specs.Windows.{Replayed, replay_before, is_replay, has_number, is_lock, word_of, is_newest, is_back, all_settled}
use Rattle.lu_spec_target.specs.Windows.{kept_numbers}
use Rattle.lu_spec_target.specs.Kept.{replayed}
use Rattle.lu_spec_target.specs.Outcomes.{window_of, outcome_of}
use Rattle.lu_spec_target.specs.Recovery.{kept_lines, restore_lines, evict_lines, ready_lines, joined_lines, commit_of, answers_all, closes}
use Rattle.lu_spec_target.specs.Recovery.{row_close, settles, row_keeps, cut, row_replay, row_lock, row_says, row_word, empty_word}
use Rattle.lu_spec_target.specs.Recovery.{wishes_by, row_wish, up_lines, row_boot}
use Rattle.lu_target_refines.proofs.Lists.{every_filter}
use Rattle.lu_target_refines.proofs.Slots.{never}
use Rattle.lu_target_refines.proofs.Blocking.{turned_more}
use Rattle.lu_target_refines.proofs.Quiet.{unread_append, kept_unread, restore_unread, evict_unread, ready_unread, joined_unread, up_unread}
use Rattle.lu_target_redo.specs.Shown.{IsRepeatable, AllRepeatable}
use Rattle.lu_target_invariant.proofs.Failing.{batches_append, batches_closes}
use Rattle.lu_target_invariant.specs.Repeats.{LogRepeats, ReplaysRepeat, KeepsRepeatable}
use Rattle.lu_target_invariant.proofs.Calm.{is_calm, all_calm, calm_append, calm_batches, calm_log, calm_serving, unread_calm}
use Rattle.lu_target_invariant.proofs.Repeatable.{every_placed, DeedsRepeat, transactions_repeat, batches_more, again_repeat}

-- ---- what a row keeps

-- The batches may be performed again; so may the log if it could, or if the window closed.
pub record EndsRepeatable (kind : Kind) (v : Target) (es : List Entry) : Type 0 where
  pub batches : AllRepeatable kind (batches_of es)
  pub log : LogRepeats kind v → LogRepeats kind (turn v es)
  pub closed : is_serving v ≡ false → is_serving (turn v es) ≡ true → LogRepeats kind (turn v es)

pub keeps_end : (kind : Kind) (v : Target) (es : List Entry) → LogRepeats kind v → EndsRepeatable kind v es → KeepsRepeatable kind v es
keeps_end kind v es log ends = record { batches = ends.batches; log = ends.log log }

-- a log of nothing is such a log
pub no_log : (kind : Kind) (v : Target) → v.log ≡ [] → LogRepeats kind v
no_log kind v empty = subst (DeedsRepeat kind) (sym empty) tt

-- ---- one after the other

pub ends_more : (kind : Kind) (v : Target) (es more : List Entry) → EndsRepeatable kind v es → EndsRepeatable kind (turn v es) more
    → EndsRepeatable kind v (es ++ more)
ends_more kind v es more one two = record {
  batches = subst (AllRepeatable kind) (sym (batches_append es more))
      (batches_more kind (batches_of es) (batches_of more) one.batches two.batches);
  log = λ log. subst (LogRepeats kind) (sym (turned_more v es more)) (two.log (one.log log));
  closed = λ unclosed serves. subst (LogRepeats kind) (sym (turned_more v es more))
      (by unclosed (is_serving (turn v es)) refl (subst (λ w. is_serving w ≡ true) (turned_more v es more) serves));
} where
  by : is_serving v ≡ false → (middle : Bool) → is_serving (turn v es) ≡ middle → is_serving (turn (turn v es) more) ≡ true
      → LogRepeats kind (turn (turn v es) more)
  by unclosed true e serves = two.log (one.closed unclosed e)
  by unclosed false e serves = two.closed e serves

pub ends_calm : (kind : Kind) (v : Target) (es : List Entry) → all_calm es ≡ true → EndsRepeatable kind v es
ends_calm kind v es calm = record {
  batches = subst (AllRepeatable kind) (sym (calm_batches es calm)) tt;
  log = λ log. subst (DeedsRepeat kind) (sym (calm_log v es calm)) log;
  closed = λ unclosed serves. absurd (never (sym serves ∙ calm_serving v es calm ∙ unclosed));
}

-- ---- the close of a window: x is the state, v that of which the entries tell

lines_calm : (o : Outcome) → all_calm (kept_lines o.kept ++ restore_lines o.locks) ≡ true
lines_calm o =
    unread_calm (kept_lines o.kept ++ restore_lines o.locks)
    (unread_append (kept_lines o.kept) (restore_lines o.locks) (kept_unread o.kept) (restore_unread o.locks))

answers_calm : (o : Outcome) (lives : List Who) (v : Target) → all_calm (answers_all o lives v) ≡ true
answers_calm o lives v =
    let stay : List Who = filter (λ who. not (is_life who (lives_of o.gone))) lives in
    unread_calm (answers_all o lives v)
    (unread_append (evict_lines v o.gone) (ready_lines v stay ++ joined_lines v o.joins) (evict_unread v o.gone)
    (unread_append (ready_lines v stay) (joined_lines v o.joins) (ready_unread v stay) (joined_unread v o.joins)))

-- no log is left
pub log_closed : (v x : Target) (o : Outcome) → (turn x (closes v o)).log ≡ []
log_closed v x o =
    let lines : List Entry = kept_lines o.kept ++ restore_lines o.locks in
    let shown : List Entry = answers_all o v.lives (turn v (Close o ∷ commit_of o ∷ lines)) in
    calm_log (after (after x (Close o)) (commit_of o)) (lines ++ shown)
    (calm_append lines shown (lines_calm o) (answers_calm o v.lives (turn v (Close o ∷ commit_of o ∷ lines))))

pub ends_closes : (kind : Kind) (v x : Target) (o : Outcome) → DeedsRepeat kind o.kept → EndsRepeatable kind x (closes v o)
ends_closes kind v x o kept = record {
  batches = subst (AllRepeatable kind) (sym (batches_closes v o)) (transactions_repeat kind o.kept kept, tt);
  log = λ log. no_log kind (turn x (closes v o)) (log_closed v x o);
  closed = λ unclosed serves. no_log kind (turn x (closes v o)) (log_closed v x o);
}

pub ends_close : (kind : Kind) (at : At) (v x : Target) → ReplaysRepeat kind v → EndsRepeatable kind x (row_close at v)
ends_close kind at v x replays =
    let kept : List Replayed = filter (λ (r : Replayed). has_number r.number (kept_numbers (window_of v))) v.replays in
    ends_closes kind v x (outcome_of v at)
    (again_repeat kind v at v.disk.contents kept
    (every_filter (λ (r : Replayed). IsRepeatable kind r.op) (λ (r : Replayed). has_number r.number (kept_numbers (window_of v))) v.replays
    replays))

pub ends_settles : (kind : Kind) (at : At) (v x : Target) → ReplaysRepeat kind v → EndsRepeatable kind x (settles at v)
ends_settles kind at v x replays = by (all_settled (window_of v) v.lives) where
  by : (all : Bool) → EndsRepeatable kind x (if all then row_close at v else [])
  by true = ends_close kind at v x replays
  by false = ends_calm kind x [] refl

-- ---- what is taken

-- with what comes last the window closes
pub ends_keeps : (kind : Kind) (v : Target) (at : At) (who : Who) (e : Entry) → is_calm e ≡ true → ReplaysRepeat kind (after v e)
    → EndsRepeatable kind v (row_keeps v at who e)
ends_keeps kind v at who e calm replays =
    ends_more kind v (e ∷ []) _ (ends_calm kind v (e ∷ []) (rw calm refl))
    (by (is_back (window_of (after v e)) who && not (is_back (window_of v) who))) where
      by : (back : Bool) → EndsRepeatable kind (after v e) (follow (after v e) (if back then Back who ∷ [] else []) (settles at))
      by true =
          let w : Target = after (after v e) (Back who) in
          ends_more kind (after v e) (Back who ∷ []) (settles at w) (ends_calm kind (after v e) (Back who ∷ []) refl)
          (ends_settles kind at w w replays)
      by false = ends_settles kind at (after v e) (after v e) replays

pub ends_replay : (kind : Kind) (v : Target) (at : At) (r : RequestReplay) → IsRepeatable kind r.op → ReplaysRepeat kind v
    → EndsRepeatable kind v (row_replay v at r)
ends_replay kind v at r repeats replays = by (list_any (is_replay (replayed r)) v.replays) where
  by : (before : Bool) → EndsRepeatable kind v (if before then [] else row_keeps v at r.who (Stores (cut r)))
  by true = ends_calm kind v [] refl
  by false =
      ends_keeps kind v at r.who (Stores (cut r)) refl
      (every_placed (λ (s : Replayed). IsRepeatable kind s.op) replay_before (replayed (cut r)) v.replays repeats replays)

pub ends_lock : (kind : Kind) (v : Target) (at : At) (l : Lock) → ReplaysRepeat kind v → EndsRepeatable kind v (row_lock v at l)
ends_lock kind v at l replays = by (list_any (is_lock l) v.brought) where
  by : (before : Bool) → EndsRepeatable kind v (if before then [] else row_keeps v at l.ask.who (Brings l))
  by true = ends_calm kind v [] refl
  by false = ends_keeps kind v at l.ask.who (Brings l) refl replays

pub ends_word : (kind : Kind) (v : Target) (at : At) (word : Said) → ReplaysRepeat kind v → EndsRepeatable kind v (row_word v at word)
ends_word kind v at word replays = by (word_of word.who v.words) where
  by : (before : Option Said) → EndsRepeatable kind v (row_says v at word before)
  by None = ends_keeps kind v at word.who (Says word) refl replays
  by (Some said) = ends_calm kind v [] refl

ends_wishes : (kind : Kind) (v : Target) (at : At) (who : Who) (found : Option Who) → ReplaysRepeat kind v
    → EndsRepeatable kind v (wishes_by v at who found)
ends_wishes kind v at who None replays = ends_calm kind v [] refl
ends_wishes kind v at who (Some old) replays = by (who.life == old.life) (nat_lt old.life who.life && is_newest who v.wishes) where
  by : (same newer : Bool) → EndsRepeatable kind v (if same then row_word v at (empty_word who)
      else (if newer then row_keeps v at old (Wishes who) else []))
  by true newer = ends_word kind v at (empty_word who) replays
  by false true = ends_keeps kind v at old (Wishes who) refl replays
  by false false = ends_calm kind v [] refl

pub ends_wish : (kind : Kind) (v : Target) (at : At) (who : Who) → ReplaysRepeat kind v → EndsRepeatable kind v (row_wish v at who)
ends_wish kind v at who replays = ends_wishes kind v at who (life_of who.client v.lives) replays

-- ---- a boot: a window without replays

-- behind its line
pub ends_booted : (kind : Kind) (at : At) (w : Target) → ReplaysRepeat kind w → EndsRepeatable kind w (up_lines w w.lives ++ settles at w)
ends_booted kind at w replays =
    ends_more kind w (up_lines w w.lives) (settles at w) (ends_calm kind w (up_lines w w.lives)
    (unread_calm (up_lines w w.lives) (up_unread w w.lives)))
    (ends_settles kind at w (turn w (up_lines w w.lives)) replays)

pub boot_batches : (kind : Kind) (v : Target) (at : At) → AllRepeatable kind (batches_of (row_boot v at))
boot_batches kind v at = (tt, (ends_booted kind at (after v (Boot (v.disk.boot + 1) v.disk)) tt).batches)

pub boot_log : (kind : Kind) (v : Target) (at : At) → LogRepeats kind v → LogRepeats kind (turn v (row_boot v at))
boot_log kind v at log = (ends_booted kind at (after v (Boot (v.disk.boot + 1) v.disk)) tt).log log

-- the boot is a later one than that of the last close, so it serves only once the window of that boot is closed
pub boot_closed : (kind : Kind) (v : Target) (at : At) → is_serving (after v (Boot (v.disk.boot + 1) v.disk)) ≡ false
    → is_serving (turn v (row_boot v at)) ≡ true
    → LogRepeats kind (turn v (row_boot v at))
boot_closed kind v at unclosed serves = (ends_booted kind at (after v (Boot (v.disk.boot + 1) v.disk)) tt).closed unclosed serves

pub keeps_boot : (kind : Kind) (v : Target) (at : At) → LogRepeats kind v → KeepsRepeatable kind v (row_boot v at)
keeps_boot kind v at log = record { batches = boot_batches kind v at; log = boot_log kind v at log }
