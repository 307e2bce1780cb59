use Rattle.std.proofs.Common.{◌≡◌, List, [], sym, subst}
use Rattle.std.specs.Result.{IfOk}
use Rattle.lu_scene.specs.declared.scene.Scene.{Scene}
use Rattle.lu_trace.specs.declared.entries.Line.{Line as PrintedLine}
use Rattle.lu_core.specs.declared.faults.PlayFault.TheVariants.{Unforeseen}
use Rattle.lu_core.specs.States.{PlayerState}
use Rattle.lu_core.specs.Progress.{Comes}
use Rattle.lu_core.specs.Played.{IsStarting}
use Rattle.lu_core.proofs.Performing.{passed_on}
use Rattle.lu_core.proofs.Ending.{comes_have, Ran, ran_back, ran_played, ran_lawful, ran_rose, turned_empty}
use Rattle.lu_core.proofs.playing.play.Goals as goal

pub new-requires-clause-empty : goal.new-requires-clause-empty
new-requires-clause-empty g c =
    turned_empty (λ d. record { batches = g.D.Disk.batches d; faults = g.D.Disk.faults d }) c.args.disks.now.items c.reverse.new.self.items
    c.reverse.ensures.permutation
    c.requires.fresh.empty

pub returns-in_err-progress-clause-unforeseen : goal.returns-in_err-progress-clause-unforeseen
returns-in_err-progress-clause-unforeseen g c = λ failed all.
    let scene : Scene = c.args.scene.now in
    let starting : IsStarting scene c.as_slice.result.now (record { nodes = c.in_ok-new.field-0; wire = c.new-2.result }) =
    record {
      limits = c.requires.limits;
      lines = sym c.as_slice.ensures.same;
      nodes = c.in_ok-new.ensures.unstarted;
      wire =
          c.new-2.ensures.empty;
    } in
    absurd (c.in_err-progress.ensures.unforeseen
    (passed_on c.from_residual-in_err-progress.result c.in_err-progress.field-0.0 Unforeseen c.from_residual-in_err-progress.ensures.1
    failed) scene starting all)

pub give_back-requires : goal.give_back-requires
give_back-requires g c =
    let scene : Scene = c.args.scene.now in
    let p : PlayerState = record { nodes = c.player.inside.nodes; wire = c.player.inside.wire } in
    let starting : IsStarting scene c.as_slice.result.now (record { nodes = c.in_ok-new.field-0; wire = c.new-2.result }) =
    record {
      limits = c.requires.limits;
      lines = sym c.as_slice.ensures.same;
      nodes = c.in_ok-new.ensures.unstarted;
      wire =
          c.new-2.ensures.empty;
    } in
    let comes = subst (λ (q : PlayerState). Comes scene [] q c.in_ok-progress.progress) (sym c.player.view_is)
    (c.in_ok-progress.ensures.played scene starting) in
    record { kept = comes_have scene p c.in_ok-progress.progress comes }

pub returns-clause-played : goal.returns-clause-played
returns-clause-played g c =
    let scene : Scene = c.args.scene.now in
    let p : PlayerState = record { nodes = c.player.inside.nodes; wire = c.player.inside.wire } in
    let starting : IsStarting scene c.as_slice.result.now (record { nodes = c.in_ok-new.field-0; wire = c.new-2.result }) =
    record {
      limits = c.requires.limits;
      lines = sym c.as_slice.ensures.same;
      nodes = c.in_ok-new.ensures.unstarted;
      wire =
          c.new-2.ensures.empty;
    } in
    let comes = subst (λ (q : PlayerState). Comes scene [] q c.in_ok-progress.progress) (sym c.player.view_is)
    (c.in_ok-progress.ensures.played scene starting) in
    let ran : Ran (λ d. record { batches = g.D.Disk.batches d; faults = g.D.Disk.faults d }) scene p c.in_ok-progress.progress
    c.args.disks.now.items c.reverse.new.self.items c.new.new.disks.items c.give_back.new.disks.items c.reverse-2.new.self.items =
    record {
      comes = comes;
      round = c.reverse.ensures.items;
      off = c.in_ok-new.ensures.rest;
      put = c.in_ok-give_back.ensures.given;
      again = c.reverse-2.ensures.items;
      nine = c.requires.fresh.nine;
    } in
    let trace = subst (λ (lines : List PrintedLine). IfOk c.finish.result
    (λ played. played.trace ≡ record { osts = scene.head.osts; entries = lines })) c.into_entries.ensures.lines c.finish.ensures.trace
    in
    ran_played (λ d. record { batches = g.D.Disk.batches d; faults = g.D.Disk.faults d }) scene p c.in_ok-progress.progress
    c.args.disks.now.items c.reverse.new.self.items c.new.new.disks.items c.give_back.new.disks.items c.reverse-2.new.self.items ran
    c.finish.result trace c.finish.ensures.ended

pub returns-clause-back : goal.returns-clause-back
returns-clause-back g c =
    let scene : Scene = c.args.scene.now in
    let p : PlayerState = record { nodes = c.player.inside.nodes; wire = c.player.inside.wire } in
    let starting : IsStarting scene c.as_slice.result.now (record { nodes = c.in_ok-new.field-0; wire = c.new-2.result }) =
    record {
      limits = c.requires.limits;
      lines = sym c.as_slice.ensures.same;
      nodes = c.in_ok-new.ensures.unstarted;
      wire =
          c.new-2.ensures.empty;
    } in
    let comes = subst (λ (q : PlayerState). Comes scene [] q c.in_ok-progress.progress) (sym c.player.view_is)
    (c.in_ok-progress.ensures.played scene starting) in
    let ran : Ran (λ d. record { batches = g.D.Disk.batches d; faults = g.D.Disk.faults d }) scene p c.in_ok-progress.progress
    c.args.disks.now.items c.reverse.new.self.items c.new.new.disks.items c.give_back.new.disks.items c.reverse-2.new.self.items =
    record {
      comes = comes;
      round = c.reverse.ensures.items;
      off = c.in_ok-new.ensures.rest;
      put = c.in_ok-give_back.ensures.given;
      again = c.reverse-2.ensures.items;
      nine = c.requires.fresh.nine;
    } in
    ran_back (λ d. record { batches = g.D.Disk.batches d; faults = g.D.Disk.faults d }) scene p c.in_ok-progress.progress
    c.args.disks.now.items c.reverse.new.self.items c.new.new.disks.items c.give_back.new.disks.items c.reverse-2.new.self.items ran
    c.finish.result

pub returns-clause-lawful : goal.returns-clause-lawful
returns-clause-lawful g c =
    let scene : Scene = c.args.scene.now in
    let p : PlayerState = record { nodes = c.player.inside.nodes; wire = c.player.inside.wire } in
    let starting : IsStarting scene c.as_slice.result.now (record { nodes = c.in_ok-new.field-0; wire = c.new-2.result }) =
    record {
      limits = c.requires.limits;
      lines = sym c.as_slice.ensures.same;
      nodes = c.in_ok-new.ensures.unstarted;
      wire =
          c.new-2.ensures.empty;
    } in
    let comes = subst (λ (q : PlayerState). Comes scene [] q c.in_ok-progress.progress) (sym c.player.view_is)
    (c.in_ok-progress.ensures.played scene starting) in
    let ran : Ran (λ d. record { batches = g.D.Disk.batches d; faults = g.D.Disk.faults d }) scene p c.in_ok-progress.progress
    c.args.disks.now.items c.reverse.new.self.items c.new.new.disks.items c.give_back.new.disks.items c.reverse-2.new.self.items =
    record {
      comes = comes;
      round = c.reverse.ensures.items;
      off = c.in_ok-new.ensures.rest;
      put = c.in_ok-give_back.ensures.given;
      again = c.reverse-2.ensures.items;
      nine = c.requires.fresh.nine;
    } in
    let trace = subst (λ (lines : List PrintedLine). IfOk c.finish.result
    (λ played. played.trace ≡ record { osts = scene.head.osts; entries = lines })) c.into_entries.ensures.lines c.finish.ensures.trace
    in
    ran_lawful (λ d. record { batches = g.D.Disk.batches d; faults = g.D.Disk.faults d }) scene p c.in_ok-progress.progress
    c.args.disks.now.items c.reverse.new.self.items c.new.new.disks.items c.give_back.new.disks.items c.reverse-2.new.self.items ran
    c.finish.result c.requires.limits trace c.finish.ensures.ended

pub returns-clause-unforeseen : goal.returns-clause-unforeseen
returns-clause-unforeseen g c = λ failed all.
    let scene : Scene = c.args.scene.now in
    let p : PlayerState = record { nodes = c.player.inside.nodes; wire = c.player.inside.wire } in
    let starting : IsStarting scene c.as_slice.result.now (record { nodes = c.in_ok-new.field-0; wire = c.new-2.result }) =
    record {
      limits = c.requires.limits;
      lines = sym c.as_slice.ensures.same;
      nodes = c.in_ok-new.ensures.unstarted;
      wire =
          c.new-2.ensures.empty;
    } in
    let comes = subst (λ (q : PlayerState). Comes scene [] q c.in_ok-progress.progress) (sym c.player.view_is)
    (c.in_ok-progress.ensures.played scene starting) in
    let ran : Ran (λ d. record { batches = g.D.Disk.batches d; faults = g.D.Disk.faults d }) scene p c.in_ok-progress.progress
    c.args.disks.now.items c.reverse.new.self.items c.new.new.disks.items c.give_back.new.disks.items c.reverse-2.new.self.items =
    record {
      comes = comes;
      round = c.reverse.ensures.items;
      off = c.in_ok-new.ensures.rest;
      put = c.in_ok-give_back.ensures.given;
      again = c.reverse-2.ensures.items;
      nine = c.requires.fresh.nine;
    } in
    let broken = c.finish.ensures.broken failed in
    ran_rose (λ d. record { batches = g.D.Disk.batches d; faults = g.D.Disk.faults d }) scene p c.in_ok-progress.progress
    c.args.disks.now.items c.reverse.new.self.items c.new.new.disks.items c.give_back.new.disks.items c.reverse-2.new.self.items ran
    broken.0 broken.1
