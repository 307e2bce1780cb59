use Rattle.std.proofs.Common.{◌||◌, is_some, sym, subst}
use Rattle.std.specs.List.{list_any}
use Rattle.std.proofs.lemmas.Result.{on_ok_weaker}
use Rattle.lu_msg.specs.declared.calls.Call.{Call}
use Rattle.lu_spec_client.specs.Calls.{file_of}
use Rattle.lu_spec_client.specs.Slots.{begins, begins_open, opens}
use Rattle.lu_client.specs.Clients.{Makes}
use Rattle.lu_client.proofs.client.Client.begin_call.Goals as goal

pub returns-in-Open : goal.returns-in-Open
returns-in-Open c =
    record {
      makes = on_ok_weaker c.begin_open.result
          (λ makes. subst (λ (x : Call). Makes (begins c.args.turn.now.at c.args.slot x) c.args.self.now c.begin_open.new.self
          c.args.turn.now c.begin_open.new.turn) (sym c.in-Open.is)
          (subst (λ (x : Call). Makes (λ k. begins_open c.args.turn.now.at c.args.slot x
          (is_some (file_of c.in-Open.handle k.handles) || list_any (opens c.in-Open.handle) k.calls))
          c.args.self.now c.begin_open.new.self c.args.turn.now c.begin_open.new.turn) c.in-Open.is makes))
          c.begin_open.ensures.makes;
    }
