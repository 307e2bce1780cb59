-- A replay that is kept has its number among the kept ones.
use Rattle.std.proofs.Common.{◌≡◌, ◌∙◌, ◌∷◌, true, map, sym, subst, rules}
use Rattle.lu_spec_target.specs.Windows.{is_kept, kept_from, kept_numbers}
use Rattle.lu_window.specs.Shown.{replayed_of}
use Rattle.lu_window.proofs.Closes.{Same, kept_next}
use Rattle.lu_window.proofs.windows.Window.kept_numbers.Goals as goal

pub loop-key-preserved-in_ok-insert : goal.loop-key-preserved-in_ok-insert
loop-key-preserved-in_ok-insert c =
    let v = c.args.self.now.window in
    let old = c.loop-key.kept in
    let taken : c.loop-key.key-iterator ≡ (c.in-Some.key.now, c.in-Some.body.now) ∷ c.next.new.self = search (rules) in
    let kept : is_kept v old.keys (replayed_of (c.in-Some.key.now, c.in-Some.body.now)) ≡ true = sym c.is_kept.ensures ∙ c.if-is_kept.true
    in
    kept_next v (replayed_of (c.in-Some.key.now, c.in-Some.body.now)) (map replayed_of c.next.new.self) old c.insert.new.self
    (kept_numbers v) kept c.in_ok-insert.ensures.updates
    (subst (λ rest. Same (kept_from v old.keys (map replayed_of rest)) (kept_numbers v)) taken c.loop-key.invariant)
