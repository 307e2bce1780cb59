use Rattle.std.proofs.Common.{◌≡◌, []}
use Rattle.std.specs.Prelude.{Some}
use Rattle.std.proofs.lemmas.List.Elements.{All-pop}
use Rattle.lu_spec_run.specs.Scenarios.{head_of}
use Rattle.lu_run_nodes.proofs.StartsMade.{unstarted_at}
use Rattle.lu_run_nodes.proofs.starts.seat.Goals as goal

pub returns-clause-unstarted : goal.returns-clause-unstarted
returns-clause-unstarted g c = λ sort.
    let disk = c.in-Some.disk in
    let popped = All-pop (λ (d : g.row.D.Denot). g.D.Disk.batches d ≡ []) c.args.disks.now.items c.pop.new.self.items (Some disk)
    c.in-Some.ensures.items c.requires.empty in
    unstarted_at (head_of c.args.head.now) c.args.target.0 g.S.Service.kind
    (record { batches = g.D.Disk.batches disk; faults = g.D.Disk.faults disk }) c.new.result c.new.ensures.down sort popped.1
