-- What a turn makes of a target: its own changes it as the entries say, and the turn of another node leaves it. The number
-- under which a message comes changes nothing.
use Rattle.std.proofs.Common.{◌≡◌, ℕ, Bool, true, false, List, [], ◌∷◌, refl, ap, ◌∙◌}
use Rattle.lu_base.specs.declared.ids.At.{At}
use Rattle.lu_base.specs.declared.ids.Node.{Node}
use Rattle.lu_msg.specs.declared.messages.Message.{Message}
use Rattle.lu_spec_entries.specs.Fields.{on}
use Rattle.lu_spec_entries.specs.Words.{Entry, Take, Tick, Line, line, with_turn, is_target}
use Rattle.lu_spec_target.specs.Phase.{reads_up, up_after, reads_failed, failed_after, reads_boot, boot_after, reads_closed, closed_after}
use Rattle.lu_spec_target.specs.Phase.{reads_ticks, ticks_after, reads_number, number_after, reads_cookie, cookie_after}
use Rattle.lu_spec_target.specs.Lives.{reads_lives, lives_after, reads_removed, removed_after, reads_slots, slots_after}
use Rattle.lu_spec_target.specs.Stored.{reads_contents, contents_after, reads_log, log_after, reads_committed, committed_after, reads_disk}
use Rattle.lu_spec_target.specs.Stored.{disk_after}
use Rattle.lu_spec_target.specs.Locks.{reads_granted, granted_after, reads_waiting, waiting_after, reads_called, called_after}
use Rattle.lu_spec_target.specs.Locks.{reads_queue, queue_after, reads_glimpses, glimpses_after}
use Rattle.lu_spec_target.specs.Kept.{reads_replays, replays_after, reads_brought, brought_after, reads_words, words_after, reads_wishes}
use Rattle.lu_spec_target.specs.Kept.{wishes_after}
use Rattle.lu_spec_target.specs.Rows.{Comes, row, row_heeds}
use Rattle.lu_spec_target.specs.States.{Setting, Target, started, after, turn, target_at}

-- ---- at the start of a run

pub target_first : (setting : Setting) (clients : ℕ) → target_at setting clients [] ≡ started setting clients
target_first setting clients = refl

-- ---- after a line, by whether it is the target's

abbrev step : Bool → Target → Entry → Target
step mine v e =
    record {
      setting = v.setting;
      up = on (reads_up e) mine (up_after v.up e) v.up;
      failed = on (reads_failed e) mine (failed_after v.failed e) v.failed;
      boot = on (reads_boot e) mine (boot_after v.boot e) v.boot;
      closed = on (reads_closed e) mine (closed_after v.closed e) v.closed;
      ticks = on (reads_ticks e) mine (ticks_after v.ticks e) v.ticks;
      number = on (reads_number e) mine (number_after v.number e) v.number;
      cookie = on (reads_cookie e) mine (cookie_after v.cookie e) v.cookie;
      lives = on (reads_lives e) mine (lives_after v.lives e) v.lives;
      removed = on (reads_removed e) mine (removed_after v.removed e) v.removed;
      slots = on (reads_slots e) mine (slots_after v.slots e) v.slots;
      contents = on (reads_contents e) mine (contents_after v.setting.osts v.contents e) v.contents;
      log = on (reads_log e) mine (log_after v.log e) v.log;
      committed = on (reads_committed e) mine (committed_after v.committed e) v.committed;
      disk = on (reads_disk e) mine (disk_after v.setting.osts v.disk e) v.disk;
      granted = on (reads_granted e) mine (granted_after v.granted e) v.granted;
      waiting = on (reads_waiting e) mine (waiting_after v.waiting e) v.waiting;
      called = on (reads_called e) mine (called_after v.called e) v.called;
      queue = on (reads_queue e) mine (queue_after v.queue e) v.queue;
      glimpses = on (reads_glimpses e) mine (glimpses_after v.glimpses e) v.glimpses;
      replays = on (reads_replays e) mine (replays_after v.replays e) v.replays;
      brought = on (reads_brought e) mine (brought_after v.brought e) v.brought;
      words = on (reads_words e) mine (words_after v.words e) v.words;
      wishes = on (reads_wishes e) mine (wishes_after v.wishes e) v.wishes;
    }

step_own : (v : Target) (e : Entry) → step true v e ≡ after v e
step_own v Tick = refl
step_own v e = refl

step_other : (v : Target) (e : Entry) → step false v e ≡ v
step_other v Tick = refl
step_other v e = refl

pub target_line : (setting : Setting) (clients : ℕ) (past : List Line) (at : At) (e : Entry) → is_target setting.id at.node ≡ true
    → target_at setting clients (line at e ∷ past) ≡ after (target_at setting clients past) e
target_line setting clients past at e mine = ap (λ (own : Bool). step own (target_at setting clients past) e) mine
    ∙ step_own (target_at setting clients past) e

pub target_left : (setting : Setting) (clients : ℕ) (past : List Line) (at : At) (e : Entry) → is_target setting.id at.node ≡ false
    → target_at setting clients (line at e ∷ past) ≡ target_at setting clients past
target_left setting clients past at e other = ap (λ (own : Bool). step own (target_at setting clients past) e) other
    ∙ step_other (target_at setting clients past) e

-- ---- after a turn

pub target_own : (setting : Setting) (clients : ℕ) (past : List Line) (at : At) (es : List Entry) → is_target setting.id at.node ≡ true
    → target_at setting clients (with_turn at es past) ≡ turn (target_at setting clients past) es
target_own setting clients past at [] mine = refl
target_own setting clients past at (e ∷ es) mine =
    target_own setting clients (line at e ∷ past) at es mine ∙ ap (λ (v : Target). turn v es) (target_line setting clients past at e mine)

pub target_other : (setting : Setting) (clients : ℕ) (past : List Line) (at : At) (es : List Entry) → is_target setting.id at.node ≡ false
    → target_at setting clients (with_turn at es past) ≡ target_at setting clients past
target_other setting clients past at [] other = refl
target_other setting clients past at (e ∷ es) other = target_other setting clients (line at e ∷ past) at es other
    ∙ target_left setting clients past at e other

-- ---- the number of a message

-- what is taken changes nothing by itself
pub target_taken : (v : Target) (n : ℕ) (from : Node) (m : Message) → after v (Take n from m) ≡ v
target_taken v n from m = refl

pub comes_row : (v : Target) (at : At) (n : ℕ) (from : Node) (m : Message) → row v at (Comes n from m) ≡ Take n from m ∷ row_heeds v at m
comes_row v at n from m = refl

pub comes_turn : (v : Target) (at : At) (n : ℕ) (from : Node) (m : Message) → turn v (row v at (Comes n from m)) ≡ turn v (row_heeds v at m)
comes_turn v at n from m = refl
