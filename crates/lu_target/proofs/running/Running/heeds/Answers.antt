-- The boot is looked at first, then the life.
use Rattle.std.proofs.Common.{rules, ◌≡◌, nat_lt, true, false, sym, subst, ◌∙◌, arith}
use Rattle.std.proofs.lemmas.Bool.Decides.{nat_tests}
use Rattle.lu_spec_target.specs.Lives.{is_life}
use Rattle.lu_spec_target.specs.States.{Target}
use Rattle.lu_target.specs.Running.{RunningState, IsIn, HasHeeded}
use Rattle.lu_target.proofs.Heeding.{life_in, heeded_gone, heeded_so}
use Rattle.lu_target.proofs.running.Running.heeds.Goals as goal

pub returns-then-not-serves : goal.returns-then-not-serves
returns-then-not-serves g c =
    let t : RunningState = record { server = c.self.inside.server; window = c.self.inside.recovery } in
    let later : nat_lt c.args.boot c.self.inside.server.boot ≡ false =
    grind (arith, nat_tests, c.if-boot-boot_number.false, c.boot_number.ensures.boot) in
    let none : c.serves.result ≡ false = search rules in
    let gone : (v : Target) → IsIn t v → false ≡ is_life c.args.who v.lives =
    (λ v it. sym none ∙ life_in t c.args.who c.serves.result c.serves.ensures.serves c.serves.ensures.gathers v it) in
    record {
      heeds = subst (λ (s : RunningState). HasHeeded false c.args.who c.args.boot s c.args.turn.now c.evicted.new.turn) c.self.view_is
          (heeded_gone t c.args.who c.args.boot c.args.turn.now c.evicted.new.turn later gone c.in_ok-evicted.ensures.said);
    }

pub returns : goal.returns
returns g c =
    let t : RunningState = record { server = c.self.inside.server; window = c.self.inside.recovery } in
    let later : nat_lt c.args.boot c.self.inside.server.boot ≡ false =
    grind (arith, nat_tests, c.if-boot-boot_number.false, c.boot_number.ensures.boot) in
    let some : c.serves.result ≡ true = search rules in
    let there : (v : Target) → IsIn t v → true ≡ is_life c.args.who v.lives =
    (λ v it. sym some ∙ life_in t c.args.who c.serves.result c.serves.ensures.serves c.serves.ensures.gathers v it) in
    record {
      heeds = subst (λ (s : RunningState). HasHeeded true c.args.who c.args.boot s c.args.turn.now c.args.turn.now) c.self.view_is
          (heeded_so t c.args.who c.args.boot c.args.turn.now later there);
    }
