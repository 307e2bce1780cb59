-- A lock that its life hasn't brought gets its place.
use Rattle.std.proofs.Common.{cond, ◌∙◌, ap, refl}
use Rattle.std.specs.List.{list_any}
use Rattle.lu_spec_target.specs.Windows.{is_lock, brought_before, with_brought}
use Rattle.lu_window.specs.Shown.{lock_of}
use Rattle.lu_window.proofs.Maps.{put_once}
use Rattle.lu_window.proofs.brought.Brought.put.Goals as goal

pub returns-clause-put : goal.returns-clause-put
returns-clause-put c =
    put_once lock_of brought_before (is_lock c.args.lock)
    (record { number = c.args.lock.cookie.0; who = c.args.lock.ask.who })
    (record { resource = c.args.lock.resource; mode = c.args.lock.ask.mode; policy = c.args.lock.ask.policy })
    c.self.inside.locks c.insert.new.self c.in_ok-insert.field-0 (λ x. refl) (λ x. refl) c.in_ok-insert.ensures.new
    c.in_ok-insert.ensures.added
    ∙ ap (λ locks. cond (list_any (is_lock c.args.lock) locks) locks (with_brought c.args.lock locks)) c.self.view_is
