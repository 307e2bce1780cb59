-- A target that plays may be asked and told, and goes on after a message that it took.
use Rattle.std.proofs.Common.{Ok, rules}
use Rattle.lu_base.specs.declared.ids.Node.TheVariants.{Client}
use Rattle.lu_target.specs.Running.{MayHeed}
use Rattle.lu_test_nodes.proofs.Plays.{goes_on, is_up, ready}
use Rattle.lu_test_nodes.proofs.targets.deliver.Goals as goal

pub accepts-requires-clause-unspent : goal.accepts-requires-clause-unspent
accepts-requires-clause-unspent g c = c.requires.plays.1.unspent

pub accepts-requires-clause-up : goal.accepts-requires-clause-up
accepts-requires-clause-up g c = is_up c.requires.plays.0 c.args.target.now c.requires.plays.1

pub deliver-requires-clause-ready : goal.deliver-requires-clause-ready
deliver-requires-clause-ready g c = ready c.requires.plays.0 c.args.target.now c.requires.plays.1

pub returns : goal.returns
returns g c =
    let may : MayHeed c.args.message.now c.args.target.now.running = search rules in
    record { plays = λ run plays. goes_on _ _ run _ _ (Ok c.in_ok-deliver.field-0) (c.in_ok-deliver.ensures.steps (Client 0)) may plays }
