-- Lines that are told item by item, and those of the rows.
use Rattle.std.proofs.Common.{◌≡◌, ℕ, Bool, true, false, cond, not, List, [], ◌∷◌, ◌++◌, map, filter, refl, sym, ap, ◌∙◌}
use Rattle.std.specs.Prelude.{if◌then◌else◌, Ok, Err, OnOk}
use Rattle.std.specs.declared.result.Result.{Result}
use Rattle.lu_base.specs.declared.ids.Who.{Who}
use Rattle.lu_base.specs.declared.locks.Lock.{Lock}
use Rattle.lu_msg.specs.declared.messages.Message.TheVariants as message
use Rattle.lu_trace.specs.Turns.{Making}
use Rattle.lu_spec_entries.specs.Carried.{Deed}
use Rattle.lu_spec_entries.specs.Words.{Entry, Kept, Restore, Evict, Joined}
use Rattle.lu_spec_target.specs.Lives.{is_life}
use Rattle.lu_spec_target.specs.Replies.{to_life}
use Rattle.lu_spec_target.specs.Leaving.{up, evicted, ready}
use Rattle.lu_spec_target.specs.Outcomes.{restored}
use Rattle.lu_spec_target.specs.Recovery.{kept_lines, restore_lines, evict_lines, ready_lines, joined_lines, up_lines}
use Rattle.lu_spec_target.specs.States.{Target}
use Rattle.lu_window.specs.Shown.{gone}
use Rattle.lu_window.specs.declared.outcomes.Eviction.{Eviction}
use Rattle.lu_spec_entries.specs.Given.{giving}
use Rattle.lu_target_server.specs.Closing.{lines, kept_line, restore_line, evict_line, ready_line, stays_line, joined_line, up_line}
use Rattle.lu_target_server.specs.Closing.{numbers_of, close_lines}
use Rattle.lu_target_server.proofs.Composing.{giving_more, giving_none}

-- ---- one item more, as at a step of a loop, and none

pub one_line_more : {A : Type 0} (f : A → List Entry) (before now : Making) (x : A) (xs : List A) → now ≡ giving before (f x)
    → giving now (lines f xs) ≡ giving before (lines f (x ∷ xs))
one_line_more f before now x xs is = ap (λ (making : Making). giving making (lines f xs)) is ∙ giving_more before (f x) (lines f xs)

-- ---- they are the rows'

pub kept_are : (deeds : List Deed) → lines kept_line (numbers_of deeds) ≡ kept_lines deeds
kept_are [] = refl
kept_are (d ∷ deeds) = ap (λ (es : List Entry). Kept d.reply.txn ∷ es) (kept_are deeds)

pub restored_are : (locks : List Lock) → lines restore_line locks ≡ restore_lines locks
restored_are [] = refl
restored_are (l ∷ locks) = ap (λ (es : List Entry). Restore l ∷ es) (restored_are locks)

pub evicted_are : (w : Target) (them : List Eviction) → lines (evict_line w.boot) them ≡ evict_lines w (map gone them)
evicted_are w [] = refl
evicted_are w (e ∷ them) = ap (λ (es : List Entry). Evict e.who e.cause ∷ evicted w e.who ∷ es) (evicted_are w them)

pub staying_are : (w : Target) (out lives : List Who) → lines (stays_line out w.boot w.committed) lives
    ≡ ready_lines w (filter (λ who. not (is_life who out)) lives)
staying_are w out [] = refl
staying_are w out (who ∷ lives) = by (is_life who out) (staying_are w out lives) where
  by : (left : Bool) → lines (stays_line out w.boot w.committed) lives ≡ ready_lines w (filter (λ who. not (is_life who out)) lives)
      → (if left then [] else ready_line w.boot w.committed who ∷ []) ++ lines (stays_line out w.boot w.committed) lives
      ≡ ready_lines w (cond (not left) (who ∷ filter (λ who. not (is_life who out)) lives) (filter (λ who. not (is_life who out)) lives))
  by true rest = rest
  by false rest = ap (λ (es : List Entry). ready w who ∷ es) rest

pub joined_are : (w : Target) (lives : List Who) → lines (joined_line w.boot w.committed) lives ≡ joined_lines w lives
joined_are w [] = refl
joined_are w (who ∷ lives) = ap (λ (es : List Entry). Joined who ∷ ready w who ∷ es) (joined_are w lives)

pub up_are : (w : Target) (lives : List Who) → lines (up_line w.boot) lives ≡ up_lines w lives
up_are w [] = refl
up_are w (who ∷ lives) = ap (λ (es : List Entry). up w who ∷ es) (up_are w lives)

-- ---- what is told once the commit of a close is

pub four_told : (boot committed : ℕ) (lives left : List Who) (them : List Eviction) (locks : List Lock) (joins : List Who)
    (before one two three four : Making)
    → one ≡ giving before (lines restore_line (restored [] locks)) → two ≡ giving one (lines (evict_line boot) them)
    → three ≡ giving two (lines (stays_line left boot committed) lives) → four ≡ giving three (lines (joined_line boot committed) joins)
    → four ≡ giving before (close_lines boot committed lives left them locks joins)
four_told boot committed lives left them locks joins before one two three four a b c d =
    let j : List Entry = lines (joined_line boot committed) joins in
    let s : List Entry = lines (stays_line left boot committed) lives in
    let e : List Entry = lines (evict_line boot) them in
    let r : List Entry = lines restore_line (restored [] locks) in
    d ∙ ap (λ (m : Making). giving m j) c ∙ giving_more two s j
    ∙ ap (λ (m : Making). giving m (s ++ j)) b ∙ giving_more one e (s ++ j)
    ∙ ap (λ (m : Making). giving m (e ++ (s ++ j))) a ∙ giving_more before r (e ++ (s ++ j))

pub on_ok_told : {A B : Type 0} (r : Result A B) (P Q : Type 0) → (P → Q) → OnOk r P → OnOk r Q
on_ok_told (Ok a) P Q f p = f p
on_ok_told (Err e) P Q f p = tt

pub on_ok_any : {A B : Type 0} (r : Result A B) (P : Type 0) → P → OnOk r P
on_ok_any (Ok a) P p = p
on_ok_any (Err e) P p = tt
