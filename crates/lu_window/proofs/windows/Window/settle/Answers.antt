-- Which lives go, and so whose locks stay, hangs on which numbers are kept, in whatever order they are listed.
use Rattle.std.proofs.Common.{◌≡◌, ◌∙◌, map, ap}
use Rattle.lu_spec_target.specs.Windows.{gone_from, kept_numbers, staying}
use Rattle.lu_window.specs.Shown.{gone}
use Rattle.lu_window.specs.States.{State}
use Rattle.lu_window.proofs.Closes.{gone_same}
use Rattle.lu_window.proofs.windows.Window.settle.Goals as goal

pub returns-clause-evicted : goal.returns-clause-evicted
returns-clause-evicted c =
    let v = c.args.self.now.window in
    let numbers = c.in_ok-numbers.numbers.keys in
    let listed : map gone c.in_ok-evicted.evicted ≡ gone_from v numbers v.lives = c.in_ok-evicted.ensures in
    listed ∙ gone_same v numbers (kept_numbers v) v.lives c.in_ok-numbers.ensures

pub returns-clause-locks : goal.returns-clause-locks
returns-clause-locks c =
    let v = c.args.self.now.window in
    let numbers = c.in_ok-numbers.numbers.keys in
    let listed : map gone c.in_ok-evicted.evicted ≡ gone_from v numbers v.lives = c.in_ok-evicted.ensures in
    let gone_are : map gone c.in_ok-evicted.evicted ≡ gone_from v (kept_numbers v) v.lives = listed
    ∙ gone_same v numbers (kept_numbers v) v.lives c.in_ok-numbers.ensures in
    c.in_ok-locks.ensures
    ∙ ap (λ evicted. staying (map gone evicted) c.self.inside.brought) c.as_slice.ensures.same
    ∙ ap (λ gone. staying gone c.self.inside.brought) gone_are
    ∙ ap (λ (s : State). staying (gone_from v (kept_numbers v) v.lives) s.window.brought) c.self.view_is
