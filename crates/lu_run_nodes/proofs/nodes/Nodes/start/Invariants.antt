use Rattle.std.proofs.Common.{◌≡◌, ◌≤◌, length}
use Rattle.lu_run_nodes.proofs.StartsMade.{AreStarting}
use Rattle.lu_run_nodes.proofs.nodes.Nodes.start.Given as goal

-- the metadata target and the object storage targets so far are started, the others are as they were
abbrev pub invariant-loop-place : goal.invariant-loop-place
invariant-loop-place g l = record {
  starting : AreStarting l.fn.self (record {
    clients = l.self-inside.clients.items;
    names = l.self-inside.names;
    objects =
        l.self-inside.objects.items;
  }) l.place;
  count : length l.self-inside.objects.items ≡ l.place-end;
  few_clients : length l.self-inside.clients.items ≤ 16;
  few : length l.self-inside.objects.items ≤ 8;
}
