use Rattle.std.proofs.lemmas.Result.{on_ok_weaker}
use Rattle.lu_client.specs.Clients.{AsksNoMore}
use Rattle.lu_client.proofs.Turning.{counted_then, locks_asks, numbers_still, rested, trims_asks}
use Rattle.lu_client.proofs.Unasked.{asks_then}
use Rattle.lu_client.proofs.client.Client.rest.Goals as goal

pub send_all-requires : goal.send_all-requires
send_all-requires c =
    record {
      numbers = numbers_still
          (asks_then c.in_ok-go_on.ensures.asks
          (asks_then (trims_asks c.go_on.new.self.limits (c.trim.ensures.makes c.go_on.new.turn))
          (locks_asks c.trim.new.self.limits c.in_ok-visit_locks.ensures.makes)))
          c.requires.numbers;
    }

pub returns : goal.returns
returns c =
    let asks : AsksNoMore c.args.self.now.client.imports c.visit_locks.new.self.client.imports =
    asks_then c.in_ok-go_on.ensures.asks
    (asks_then (trims_asks c.go_on.new.self.limits (c.trim.ensures.makes c.go_on.new.turn))
    (locks_asks c.trim.new.self.limits c.in_ok-visit_locks.ensures.makes)) in
    record {
      makes = on_ok_weaker c.send_all.result
          (λ send. rested c.in_ok-go_on.ensures.makes (c.trim.ensures.makes c.go_on.new.turn) c.in_ok-visit_locks.ensures.makes send)
          c.send_all.ensures.makes;
      counted = on_ok_weaker c.send_all.result (λ counted. counted_then c.send_all.new.self.client.imports asks counted)
          c.send_all.ensures.counted;
    }
