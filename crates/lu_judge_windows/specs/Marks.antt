-- What the marks of the targets hold, and that they show a past.
use Rattle.std.specs.Prelude.{◌≡◌, ℕ, ◌==◌, max, true, false, unwrap_or}
use Rattle.std.specs.HashMap.{get_by}
use Rattle.lu_trace.specs.declared.entries.Entry.{Entry}
use Rattle.lu_trace.specs.declared.entries.Entry.TheVariants.{Txn, Commit, Crash, Boot, Close}
use Rattle.lu_spec_laws.specs.Words.Pasts.{Past}
use Rattle.lu_spec_laws.specs.Words.Boots.{boot, committed, greatest, is_recovering}
use Rattle.lu_judge_windows.specs.declared.marks.Mark.{Mark}
use Rattle.lu_judge_windows.specs.declared.marks.Marks.{Marks}

-- of a target without lines
abbrev pub first_mark : Mark
first_mark = record { boot = 1; committed = 0; greatest = 0; recovering = false }

-- after one more line of the target
abbrev pub after_entry : Mark → Entry → Mark
after_entry m (Boot b) = record { boot = b; committed = m.committed; greatest = m.greatest; recovering = true }
after_entry m (Commit number) = record { boot = m.boot; committed = number.0; greatest = m.greatest; recovering = m.recovering }
after_entry m (Txn number who xid seen answer) =
    record { boot = m.boot; committed = m.committed; greatest = max m.greatest number.0; recovering = m.recovering }
after_entry m Crash = record { boot = m.boot; committed = m.committed; greatest = m.greatest; recovering = false }
after_entry m Close = record { boot = m.boot; committed = m.committed; greatest = m.greatest; recovering = false }
after_entry m _ = m

abbrev pub mark_in : Marks → ℕ → Mark
mark_in t target = unwrap_or (get_by (λ k. target == k) t.by_target) first_mark

-- what the laws' notions say of a target
abbrev pub mark_at : ℕ → Past → Mark
mark_at t past =
    record { boot = boot t past; committed = committed t past; greatest = greatest t past; recovering = is_recovering t past }

abbrev pub ShowsMarks : Marks → Past → Type 0
ShowsMarks t past = (target : ℕ) → mark_in t target ≡ mark_at target past
