-- What one line makes of a target's boot, committed and greatest number and of its recovery window.
use Rattle.std.proofs.Common.{◌≡◌, ℕ, Bool, true, false, Some, ◌∷◌, refl, ap, sym, ◌∙◌}
use Rattle.std.specs.Prelude.{◌==◌, if◌then◌else◌, max, Option, unwrap_or}
use Rattle.lu_base.specs.declared.ids.At.{At}
use Rattle.lu_base.specs.declared.ids.Node.{Node}
use Rattle.lu_base.specs.declared.ids.Node.TheVariants.{Target}
use Rattle.lu_trace.specs.declared.entries.Entry.{Entry}
use Rattle.lu_trace.specs.declared.entries.Entry.TheVariants.{Txn, Commit, Crash, Boot, Close}
use Rattle.lu_trace.specs.declared.entries.Line.{Line}
use Rattle.lu_spec_laws.specs.Words.Pasts.{Past, is_target, or_else}
use Rattle.lu_spec_laws.specs.Words.Scopes.{last_at, only_here}
use Rattle.lu_spec_laws.specs.Words.Boots.{boot, committed, greatest, is_recovering, booted_as, committed_to, opens_window}
use Rattle.lu_judge_windows.specs.declared.marks.Mark.{Mark}
use Rattle.lu_judge_windows.specs.Marks.{first_mark, after_entry, mark_at}
use Rattle.lu_judge_windows.proofs.Tests.{at_key}

abbrev pub line_of : At → Entry → Line
line_of at e = record { at = at; entry = e }

module _ (t : ℕ) (past : Past) (at : At) where
  pub mark_line : (e : Entry) → mark_at t (line_of at e ∷ past)
      ≡ (if is_target t at.node then after_entry (mark_at t past) e else mark_at t past)
  mark_line (Boot b) = by (is_target t at.node) where
    by : (here : Bool) → ◌≡◌ {A = Mark} (record {
      boot = unwrap_or (or_else (only_here (Some b) here) (last_at booted_as t past)) 1;
      committed = committed t past;
      greatest = greatest t past;
      recovering =
          unwrap_or (or_else (only_here (Some true) here) (last_at opens_window t past)) false;
    })
        (if here then after_entry (mark_at t past) (Boot b) else mark_at t past)
    by true = refl
    by false = refl
  mark_line (Commit number) = by (is_target t at.node) where
    by : (here : Bool) → ◌≡◌ {A = Mark} (record {
      boot = boot t past;
      committed =
          unwrap_or (or_else (only_here (Some number.0) here) (last_at committed_to t past)) 0;
      greatest = greatest t past;
      recovering =
          is_recovering t past;
    })
        (if here then after_entry (mark_at t past) (Commit number) else mark_at t past)
    by true = refl
    by false = refl
  mark_line (Txn number who xid seen answer) = by (is_target t at.node) where
    by : (here : Bool) → ◌≡◌ {A = Mark} (record {
      boot = boot t past;
      committed = committed t past;
      greatest =
          (if here then max (greatest t past) number.0 else greatest t past);
      recovering = is_recovering t past;
    })
        (if here then after_entry (mark_at t past) (Txn number who xid seen answer) else mark_at t past)
    by true = refl
    by false = refl
  mark_line Crash = by (is_target t at.node) where
    by : (here : Bool) → ◌≡◌ {A = Mark} (record {
      boot = boot t past;
      committed = committed t past;
      greatest = greatest t past;
      recovering =
          unwrap_or (or_else (only_here (Some false) here) (last_at opens_window t past)) false;
    })
        (if here then after_entry (mark_at t past) Crash else mark_at t past)
    by true = refl
    by false = refl
  mark_line Close = by (is_target t at.node) where
    by : (here : Bool) → ◌≡◌ {A = Mark} (record {
      boot = boot t past;
      committed = committed t past;
      greatest = greatest t past;
      recovering =
          unwrap_or (or_else (only_here (Some false) here) (last_at opens_window t past)) false;
    })
        (if here then after_entry (mark_at t past) Close else mark_at t past)
    by true = refl
    by false = refl
  mark_line _ = by (is_target t at.node) where
    by : (here : Bool) → mark_at t past ≡ (if here then mark_at t past else mark_at t past)
    by true = refl
    by false = refl

-- a mark is put at the target
pub mark_put : (past : Past) (at : At) (e : Entry) (u : ℕ) (mark : Mark) (old new : ℕ → Option Mark) → at.node ≡ Target u → mark
    ≡ after_entry (unwrap_or (old u) first_mark) e
    → ((t : ℕ) → new t ≡ (if u == t then Some mark else old t)) → ((t : ℕ) → unwrap_or (old t) first_mark ≡ mark_at t past)
    → (t : ℕ) → unwrap_or (new t) first_mark ≡ mark_at t (line_of at e ∷ past)
mark_put past at e u mark old new node is updates shows t =
    ap (λ (o : Option Mark). unwrap_or o first_mark) (updates t)
    ∙ at_key (λ k here. unwrap_or (if here then Some mark else old k) first_mark
    ≡ (if here then after_entry (mark_at k past) e else mark_at k past)) u t (is ∙ ap (λ (m : Mark). after_entry m e) (shows u))
    (λ apart. shows t)
    ∙ ap (λ (n : Node). if is_target t n then after_entry (mark_at t past) e else mark_at t past) (sym node)
    ∙ sym (mark_line t past at e)

-- a line of a client changes nothing
pub mark_other : (past : Past) (l : Line) (t : ℕ) → is_target t l.at.node ≡ false → mark_at t (l ∷ past) ≡ mark_at t past
mark_other past l t apart = mark_line t past l.at l.entry ∙ ap (λ (here : Bool). if here then after_entry (mark_at t past) l.entry
    else mark_at t past) apart
