use Rattle.std.proofs.Common.{◌≡◌, ◌++◌, sym, subst, arith}
use Rattle.std.specs.Prelude.{map, reverse}
use Rattle.std.proofs.lemmas.List.Elements.{All-tail}
use Rattle.lu_run_nodes.specs.Disks.{HaveDisks, disks_of}
use Rattle.lu_run_nodes.specs.States.{DiskState, NodesState}
use Rattle.lu_run_nodes.proofs.Disks.{HasDisk}
use Rattle.lu_run_nodes.proofs.Giving.{all_given}
use Rattle.lu_run_nodes.proofs.nodes.Nodes.give_back.Goals as goal

pub give_objects-requires : goal.give_objects-requires
give_objects-requires g c =
    let nodes : NodesState = record {
      clients = c.self.inside.clients.items;
      names = c.self.inside.names;
      objects =
          c.self.inside.objects.items;
    } in
    let have = subst (λ (n : NodesState). HaveDisks n) (sym c.self.view_is) c.requires.kept in
    record { kept = All-tail HasDisk nodes.names nodes.objects have }

pub into_disk-requires : goal.into_disk-requires
into_disk-requires g c =
    let nodes : NodesState = record {
      clients = c.self.inside.clients.items;
      names = c.self.inside.names;
      objects =
          c.self.inside.objects.items;
    } in
    let have = subst (λ (n : NodesState). HaveDisks n) (sym c.self.view_is) c.requires.kept in
    record { some = have 0 nodes.names (omega arith) }

pub returns : goal.returns
returns g c =
    let nodes : NodesState = record {
      clients = c.self.inside.clients.items;
      names = c.self.inside.names;
      objects =
          c.self.inside.objects.items;
    } in
    let view : g.row.D.Denot → DiskState = λ d. record { batches = g.D.Disk.batches d; faults = g.D.Disk.faults d } in
    record {
      given =
          subst (λ (n : NodesState). map view c.push.new.self.items ≡ map view c.args.disks.now.items ++ reverse (disks_of n))
          c.self.view_is
          (all_given view c.args.disks.now.items c.give_objects.new.disks.items c.push.new.self.items c.into_disk.result nodes
          c.in_ok-give_objects.ensures.given
          c.in_ok-push.ensures.items c.into_disk.ensures.disk);
    }
