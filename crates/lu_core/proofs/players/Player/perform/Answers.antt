use Rattle.std.proofs.Common.{rules, ◌≡◌, sym, subst}
use Rattle.lu_base.specs.declared.ids.Node.TheVariants.{Client, Target}
use Rattle.lu_scene.specs.declared.scene.SceneLine.{SceneLine}
use Rattle.lu_scene.specs.declared.scene.SceneLine.TheVariants.{Tick}
use Rattle.lu_core.specs.Progress.{IsNext, Performs, IsLineUnforeseen}
use Rattle.lu_core.proofs.Lines.{count_small}
use Rattle.lu_core.proofs.players.Player.perform.Goals as goal

pub overflow_cast-count : goal.overflow_cast-count
overflow_cast-count g c =
    let few = count_small c.args.self.now c.in-CommitSome.target.0 c.in-CommitSome.count
    (subst (λ (l : SceneLine). IsNext c.args.self.now l) c.in-CommitSome.is c.requires.due) in
    search rules

pub returns-in-Call-clause-unforeseen : goal.returns-in-Call-clause-unforeseen
returns-in-Call-clause-unforeseen g c = λ failed. subst (λ (l : SceneLine). IsLineUnforeseen c.args.self.now l) (sym c.in-Call.is)
    (c.begin.ensures.foreseen failed)

pub returns-in-Run-clause-unforeseen : goal.returns-in-Run-clause-unforeseen
returns-in-Run-clause-unforeseen g c = λ failed. subst (λ (l : SceneLine). IsLineUnforeseen c.args.self.now l) (sym c.in-Run.is)
    (c.run.ensures.unforeseen failed)

pub returns-in-RunSome-clause-unforeseen : goal.returns-in-RunSome-clause-unforeseen
returns-in-RunSome-clause-unforeseen g c = λ failed. subst (λ (l : SceneLine). IsLineUnforeseen c.args.self.now l) (sym c.in-RunSome.is)
    (c.run_some.ensures.unforeseen failed)

pub returns-in-Deliver-clause-unforeseen : goal.returns-in-Deliver-clause-unforeseen
returns-in-Deliver-clause-unforeseen g c = λ failed. subst (λ (l : SceneLine). IsLineUnforeseen c.args.self.now l) (sym c.in-Deliver.is)
    (c.deliver.ensures.unforeseen failed)

pub returns-in-Tick-Client-clause-unforeseen : goal.returns-in-Tick-Client-clause-unforeseen
returns-in-Tick-Client-clause-unforeseen g c = λ failed.
    let is : Tick (Client c.in-Tick-Client.client) ≡ c.args.line.now = search rules in
    subst (λ (l : SceneLine). IsLineUnforeseen c.args.self.now l) is (c.tick.ensures.foreseen failed)

pub returns-in-Die-clause-unforeseen : goal.returns-in-Die-clause-unforeseen
returns-in-Die-clause-unforeseen g c = λ failed. subst (λ (l : SceneLine). IsLineUnforeseen c.args.self.now l) (sym c.in-Die.is)
    (c.die.ensures.foreseen failed)

pub returns-in-Lose-clause-performs : goal.returns-in-Lose-clause-performs
returns-in-Lose-clause-performs g c =
    subst (λ (l : SceneLine). Performs c.args.self.now l c.lose.new.self c.lose.result) (sym c.in-Lose.is) c.lose.ensures.performs

pub returns-in-Tick-Target-clause-unforeseen : goal.returns-in-Tick-Target-clause-unforeseen
returns-in-Tick-Target-clause-unforeseen g c = λ failed.
    let is : c.args.line.now ≡ Tick (Target c.in-Tick-Target.target) = search rules in
    c.command.ensures.unforeseen failed c.args.line.now is

pub returns-in-Commit-clause-unforeseen : goal.returns-in-Commit-clause-unforeseen
returns-in-Commit-clause-unforeseen g c = λ failed. c.command-in-Commit.ensures.unforeseen failed c.args.line.now c.in-Commit.is

pub returns-in-CommitSome-clause-unforeseen : goal.returns-in-CommitSome-clause-unforeseen
returns-in-CommitSome-clause-unforeseen g c = λ failed. c.command-in-CommitSome.ensures.unforeseen failed c.args.line.now c.in-CommitSome.is

pub returns-in-Crash-clause-unforeseen : goal.returns-in-Crash-clause-unforeseen
returns-in-Crash-clause-unforeseen g c = λ failed. c.command-in-Crash.ensures.unforeseen failed c.args.line.now c.in-Crash.is

pub returns-in-Boot-clause-unforeseen : goal.returns-in-Boot-clause-unforeseen
returns-in-Boot-clause-unforeseen g c = λ failed. c.command-in-Boot.ensures.unforeseen failed c.args.line.now c.in-Boot.is

pub returns-in-Close-clause-unforeseen : goal.returns-in-Close-clause-unforeseen
returns-in-Close-clause-unforeseen g c = λ failed. c.command-in-Close.ensures.unforeseen failed c.args.line.now c.in-Close.is
