-- Pass after pass.
use Rattle.std.proofs.Common.{◌≡◌, ◌<◌, ◌≤◌, ◌∙◌, ℕ, true, false, length, ap, subst, rules}
use Rattle.lu_target_server.specs.Servers.{ServerState}
use Rattle.lu_target_server.specs.Passes.{IsPass}
use Rattle.lu_target_server.proofs.Composing.{stands_then}
use Rattle.lu_target_server.proofs.Entering.{names_kept}
use Rattle.lu_target_server.proofs.Releases.{disk_then}
use Rattle.lu_target_server.proofs.Sweeps.{swept_none, swept_more, swept_ended, swept_all, swept_over, at_the_end, below_so}
use Rattle.lu_target_server.proofs.server.Server.names_go.Goals as goal

pub loop-pass-init : goal.loop-pass-init
loop-pass-init g c = swept_none c.args.self.now c.args.turn.now

pub pass-requires : goal.pass-requires
pass-requires g c =
    let here = c.loop-pass.invariant in
    record {
      names = names_kept here.row c.args.self.now c.loop-pass.self c.args.turn.now c.loop-pass.turn here.makes c.requires.stands
          c.requires.names;
      stands = stands_then here.row c.args.self.now c.loop-pass.self c.args.turn.now c.loop-pass.turn here.makes c.requires.stands;
    }

pub pass-requires-2 : goal.pass-requires-2
pass-requires-2 g c =
    let here = c.loop-pass.invariant in
    record {
      names = names_kept here.row c.args.self.now c.loop-pass.self c.args.turn.now c.loop-pass.turn here.makes c.requires.stands
          c.requires.names;
      stands = stands_then here.row c.args.self.now c.loop-pass.self c.args.turn.now c.loop-pass.turn here.makes c.requires.stands;
    }

pub loop-pass-preserved : goal.loop-pass-preserved
loop-pass-preserved g c =
    let acted : c.in_ok-acted.acted ≡ true = search rules in
    swept_more c.loop-pass._pass c.args.self.now c.loop-pass.self c.args.turn.now c.loop-pass.turn c.loop-pass.invariant c.requires.stands
    c.pass.new.self c.pass.new.turn
    (subst (λ b. IsPass b c.loop-pass.self c.pass.new.self c.loop-pass.turn c.pass.new.turn) acted c.in_ok-acted.ensures.pass)
    c.in_ok-acted.ensures.disk

pub returns-in_err-acted-clause-disk : goal.returns-in_err-acted-clause-disk
returns-in_err-acted-clause-disk g c = disk_then c.args.self.now.store c.loop-pass.self.store c.pass.new.self.store
    c.loop-pass.invariant.disk c.pass.ensures.disk

pub returns-then-not-acted-clause-makes : goal.returns-then-not-acted-clause-makes
returns-then-not-acted-clause-makes g c =
    let acted : c.in_ok-acted.acted ≡ false = search rules in
    let less : c.loop-pass._pass < length c.args.self.now.requests = subst (λ (n : ℕ). c.loop-pass._pass < n)
    (c.len-pass-end.ensures.count ∙ ap (λ (x : ServerState). length x.requests) c.self.view_is)
    c.loop-pass-test.true in
    swept_ended c.loop-pass._pass c.args.self.now c.loop-pass.self c.args.turn.now c.loop-pass.turn c.loop-pass.invariant c.requires.stands
    c.pass.new.self c.pass.new.turn
    (subst (λ b. IsPass b c.loop-pass.self c.pass.new.self c.loop-pass.turn c.pass.new.turn) acted c.in_ok-acted.ensures.pass) less

pub returns-then-not-acted-clause-disk : goal.returns-then-not-acted-clause-disk
returns-then-not-acted-clause-disk g c = disk_then c.args.self.now.store c.loop-pass.self.store c.pass.new.self.store
    c.loop-pass.invariant.disk c.pass.ensures.disk

pub returns-in_err-pass-clause-disk : goal.returns-in_err-pass-clause-disk
returns-in_err-pass-clause-disk g c = disk_then c.args.self.now.store c.loop-pass.self.store c.pass-2.new.self.store
    c.loop-pass.invariant.disk c.pass-2.ensures.disk

pub returns-clause-makes : goal.returns-clause-makes
returns-clause-makes g c =
    let end_is : c.len-pass-end.result ≡ length c.args.self.now.requests = c.len-pass-end.ensures.count
    ∙ ap (λ (x : ServerState). length x.requests) c.self.view_is in
    swept_all c.loop-pass._pass c.args.self.now c.loop-pass.self c.args.turn.now c.loop-pass.turn c.loop-pass.invariant c.requires.stands
    c.in_ok-pass.field-0 c.pass-2.new.self c.pass-2.new.turn
    c.in_ok-pass.ensures.pass (at_the_end c.loop-pass._pass c.len-pass-end.result c.loop-pass.auto._pass-end c.loop-pass-test.false
    ∙ end_is)

pub returns-clause-disk : goal.returns-clause-disk
returns-clause-disk g c = disk_then c.args.self.now.store c.loop-pass.self.store c.pass-2.new.self.store c.loop-pass.invariant.disk
    c.pass-2.ensures.disk

pub returns-in_err-acted-clause-numbers : goal.returns-in_err-acted-clause-numbers
returns-in_err-acted-clause-numbers g c =
    λ is.
    let less : c.loop-pass._pass < length c.args.self.now.requests = subst (λ (n : ℕ). c.loop-pass._pass < n)
    (c.len-pass-end.ensures.count ∙ ap (λ (x : ServerState). length x.requests) c.self.view_is)
    c.loop-pass-test.true in
    swept_over c.loop-pass._pass c.args.self.now c.loop-pass.self c.args.turn.now c.loop-pass.turn c.loop-pass.invariant c.requires.stands
    (below_so c.loop-pass._pass (length c.args.self.now.requests) less) (c.pass.ensures.numbers (search rules))

pub returns-in_err-pass-clause-numbers : goal.returns-in_err-pass-clause-numbers
returns-in_err-pass-clause-numbers g c =
    λ is.
    let end_is : c.len-pass-end.result ≡ length c.args.self.now.requests = c.len-pass-end.ensures.count
    ∙ ap (λ (x : ServerState). length x.requests) c.self.view_is in
    swept_over c.loop-pass._pass c.args.self.now c.loop-pass.self c.args.turn.now c.loop-pass.turn c.loop-pass.invariant c.requires.stands
    (subst (λ (n : ℕ). c.loop-pass._pass ≤ n) end_is c.loop-pass.auto._pass-end) (c.pass-2.ensures.numbers (search rules))
