-- The places are those of the rows.
use Rattle.std.proofs.Common.{◌≡◌, ◌<◌, ◌+◌, None, sym, ap, subst, ◌∙◌, arith, rules}
use Rattle.lu_lockspace.specs.Spaces.{IsAt}
use Rattle.lu_target_locks.specs.Servers.{ServerState, Shows, greatest}
use Rattle.lu_target_locks.proofs.Starts.{looked, looked_all, looked_most}
use Rattle.lu_target_locks.proofs.server.LockServer.highest.Goals as goal

pub returns-in_default : goal.returns-in_default
returns-in_default c =
    let it = c.self.inside in
    let own : ServerState = record { space = it.space; asked = it.calls; boot = it.boot; count = it.count; ticks = it.ticks } in
    let none : c.granted.result ≡ None = search rules in
    record {
      highest = λ v s. looked_all own v c.args.resource c.loop-at.at c.loop-at.found
          (subst (λ (x : ServerState). Shows x v) (sym c.self.view_is) s)
          (subst (IsAt c.args.resource c.loop-at.at it.space.granted) none c.granted.ensures.lock) (c.loop-at.invariant v s);
    }

pub loop-at-preserved : goal.loop-at-preserved
loop-at-preserved c =
    let it = c.self.inside in
    let own : ServerState = record { space = it.space; asked = it.calls; boot = it.boot; count = it.count; ticks = it.ticks } in
    λ v s. c.join-found.ensures.joined
    ∙ looked own v c.args.resource c.loop-at.at c.loop-at.found c.in-Some.lock
    (subst (λ (x : ServerState). Shows x v) (sym c.self.view_is) s) c.in-Some.ensures.lock (c.loop-at.invariant v s)

pub returns-in-Some : goal.returns-in-Some
returns-in-Some c =
    let it = c.self.inside in
    let own : ServerState = record { space = it.space; asked = it.calls; boot = it.boot; count = it.count; ticks = it.ticks } in
    let same : greatest own ≡ greatest c.args.self.now = ap greatest c.self.view_is in
    let last : c.greatest-at-end.result ≡ greatest c.args.self.now = c.greatest-at-end.ensures.greatest in
    let most : greatest own < c.loop-at.at + 1 = omega (arith, same, last) in
    record {
      highest = λ v s.
          let shows : Shows own v = subst (λ (x : ServerState). Shows x v) (sym c.self.view_is) s in
          looked_most own v c.args.resource (c.loop-at.at + 1) c.join-found.result shows most
          (c.join-found.ensures.joined ∙ looked own v c.args.resource c.loop-at.at c.loop-at.found c.in-Some.lock shows
          c.in-Some.ensures.lock (c.loop-at.invariant v s));
    }
