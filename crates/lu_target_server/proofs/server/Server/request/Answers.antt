-- A number above that of the newest one is taken.
use Rattle.std.proofs.Common.{◌≡◌, ◌==◌, nat_lt, Bool, true, sym, ap, subst}
use Rattle.std.proofs.lemmas.Result.{on_ok_weaker}
use Rattle.lu_target_store.specs.Stores.{Serves}
use Rattle.lu_spec_target.specs.Lives.{slot_in}
use Rattle.lu_spec_target.specs.Requests.{by_number, row_enters, row_request}
use Rattle.lu_spec_target.specs.States.{Target}
use Rattle.lu_target_server.specs.Servers.{ServerState, Shows}
use Rattle.lu_target_server.proofs.Composing.{makes_as}
use Rattle.lu_target_server.proofs.Overrunning.{over_as}
use Rattle.lu_target_server.proofs.server.Server.request.Goals as goal

pub returns-in-New-2-clause-makes : goal.returns-in-New-2-clause-makes
returns-in-New-2-clause-makes g c =
    let r = c.args.request.now in
    let at = c.args.turn.now.at in
    let above : (v : Target) → Shows c.args.self.now v → nat_lt (slot_in v.slots r.who r.tag).taken r.xid.0 ≡ true = λ v shows.
    c.in-New-2.ensures.look v (subst (λ (s : ServerState). Serves s.store v) (sym c.self.view_is) shows.store) in
    on_ok_weaker c.enter.result
    (λ makes.
    makes_as (λ v. row_enters v at r) (λ v. row_request v at r) c.args.self.now c.enter.new.self c.args.turn.now c.enter.new.turn
    (λ v shows.
    let slot = slot_in v.slots r.who r.tag in
    ap (λ (b : Bool). by_number v at r slot.reply b (slot.taken == r.xid.0)) (sym (above v shows)))
    makes)
    c.enter.ensures.makes

pub returns-in-New-2-clause-numbers : goal.returns-in-New-2-clause-numbers
returns-in-New-2-clause-numbers g c =
    λ is.
    let r = c.args.request.now in
    let at = c.args.turn.now.at in
    let above : (v : Target) → Shows c.args.self.now v → nat_lt (slot_in v.slots r.who r.tag).taken r.xid.0 ≡ true = λ v shows.
    c.in-New-2.ensures.look v (subst (λ (s : ServerState). Serves s.store v) (sym c.self.view_is) shows.store) in
    over_as (λ v. row_enters v at r) (λ v. row_request v at r) c.args.self.now
    (λ v shows.
    let slot = slot_in v.slots r.who r.tag in
    ap (λ (b : Bool). by_number v at r slot.reply b (slot.taken == r.xid.0)) (sym (above v shows)))
    (c.enter.ensures.numbers is)
