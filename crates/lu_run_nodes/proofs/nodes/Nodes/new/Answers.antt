use Rattle.std.proofs.Common.{refl}
use Rattle.lu_run_nodes.proofs.Giving.{all_taken}
use Rattle.lu_run_nodes.proofs.nodes.Nodes.new.Goals as goal

pub returns : goal.returns
returns g c =
    record {
      unstarted =
          record {
            clients = c.in_ok-clients.ensures.count;
            objects = c.in_ok-objects.ensures.count;
            client = c.in_ok-clients.ensures.shows;
            names = c.seat-names.ensures.unstarted refl;
            object = c.in_ok-objects.ensures.unstarted;
          };
      rest = all_taken {D = g.row.D.Denot} c.args.disks.now.items c.seat-names.new.disks.items c.first_objects.new.disks.items
          c.args.head.now.osts c.seat-names.ensures.rest c.in_ok-objects.ensures.rest;
    }
