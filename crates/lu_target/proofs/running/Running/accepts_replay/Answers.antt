-- Of a life with a slot, that names this boot, the server says it.
use Rattle.std.proofs.Common.{rules, ◌≡◌, true, false, sym, subst, ◌∙◌, arith}
use Rattle.std.specs.Prelude.{◌↔◌, IsTrue}
use Rattle.std.proofs.lemmas.Bool.Decides.{nat_tests}
use Rattle.lu_msg.specs.declared.messages.Message.TheVariants as message
use Rattle.lu_target.specs.Running.{RunningState, IsUp, MayHeed}
use Rattle.lu_target.proofs.Coming.{freely, replay_gone, replay_asked}
use Rattle.lu_target.proofs.running.Running.accepts_replay.Goals as goal

pub returns-then-not-serves : goal.returns-then-not-serves
returns-then-not-serves g c =
    let r = c.args.replay.now in
    let t : RunningState = record { server = c.self.inside.server; window = c.self.inside.recovery } in
    let up : IsUp t = subst IsUp (sym c.self.view_is) c.requires.up in
    let none : c.serves.result ≡ false = search rules in
    record {
      may = freely (subst (λ (s : RunningState). MayHeed (message.Replay r) s) c.self.view_is
          (replay_gone t r up (λ x v it. sym none ∙ c.serves.ensures.gathers x v it)));
    }

pub returns : goal.returns
returns g c =
    let r = c.args.replay.now in
    let t : RunningState = record { server = c.self.inside.server; window = c.self.inside.recovery } in
    let up : IsUp t = subst IsUp (sym c.self.view_is) c.requires.up in
    let own : r.boot ≡ c.self.inside.server.boot = grind (arith, nat_tests, c.if-replay-boot_number.false, c.boot_number.ensures.boot) in
    let some : c.serves.result ≡ true = search rules in
    record {
      may = subst (λ (s : RunningState). IsTrue c.accepts_replay.result ↔ MayHeed (message.Replay r) s) c.self.view_is
          (replay_asked t c.in-Some.recovery r c.accepts_replay.result up c.in-Some.is own
          (λ x v it. sym some ∙ c.serves.ensures.gathers x v it) c.accepts_replay.ensures.may);
    }
