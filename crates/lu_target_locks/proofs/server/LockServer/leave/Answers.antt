-- What the calls of the parts made of it is what the rows make of it.
use Rattle.std.proofs.Common.{rules, ◌≡◌, ◌∙◌, refl, subst}
use Rattle.lu_target_locks.specs.declared.departing.Left.{Left}
use Rattle.lu_target_locks.specs.Departing.{IsLeft}
use Rattle.lu_target_locks.specs.Leaving.{AllHaveGoneOn, found_all}
use Rattle.lu_target_locks.specs.Servers.{ServerState}
use Rattle.lu_target_locks.proofs.Leaves.{HasLeft, is_left}
use Rattle.lu_target_locks.proofs.server.LockServer.leave.Goals as goal

pub returns : goal.returns
returns c =
    let it = c.self.inside in
    let old : ServerState = record { space = it.space; asked = it.calls; boot = it.boot; count = it.count; ticks = it.ticks } in
    let new : ServerState = record {
      space = c.cancel_all.new.self;
      asked = c.all_go_on.new.calls;
      boot = it.boot;
      count = it.count;
      ticks =
          it.ticks;
    } in
    let left : Left = record { departures = c.in_ok-departures.departures; steps = c.in_ok-steps.steps } in
    let resources : c.as_slice-2.result.now ≡ c.in_ok-resources.resources = search rules in
    let granted : c.deref.result.now ≡ c.in_ok-granted.granted.items = search rules in
    let found : c.in_ok-granted.granted.items ≡ found_all c.cancel_all.new.self c.in_ok-grants.grants = search rules in
    let has : HasLeft c.args.gone.now left old new = record {
      departures = c.in_ok-departures.ensures.departures;
      resources = c.in_ok-resources.resources;
      waited = c.in_ok-resources.ensures.resources;
      cookies = c.in_ok-cookies.cookies;
      theirs = c.in_ok-cookies.ensures.theirs;
      grants = c.in_ok-grants.grants;
      cancelled = c.in_ok-grants.ensures.granted;
      lawful = c.cancel_all.ensures.lawful;
      mid = c.end_lives.new.self;
      ended = c.end_lives.ensures.without;
      sound = c.end_lives.ensures.sound;
      went =
          subst (λ locks. AllHaveGoneOn c.cancel_all.new.self it.ticks locks c.in_ok-resources.resources c.end_lives.new.self
          c.in_ok-steps.steps c.all_go_on.new.calls) (granted ∙ found)
          (subst (λ rs. AllHaveGoneOn c.cancel_all.new.self it.ticks c.deref.result.now rs c.end_lives.new.self c.in_ok-steps.steps
          c.all_go_on.new.calls) resources c.in_ok-steps.ensures.gone);
      greater = refl;
      ticks = refl;
      boots = refl;
      counts = refl;
    } in
    record {
      left = subst (λ (s : ServerState). IsLeft c.args.gone.now left s new) c.self.view_is (is_left c.args.gone.now left old new has);
    }
