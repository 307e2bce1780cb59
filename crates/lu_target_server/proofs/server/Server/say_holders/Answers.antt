-- It is the request that was found.
use Rattle.std.proofs.Common.{◌≡◌, Some, rules}
use Rattle.lu_target_server.specs.Requests.{request_of}
use Rattle.lu_target_server.proofs.server.Server.say_holders.Goals as goal

pub say_reported-requires-clause-may : goal.say_reported-requires-clause-may
say_reported-requires-clause-may g c =
    let found : request_of c.args.report.now.for_who c.args.report.now.xid c.args.self.now.requests ≡ Some c.in_ok-request.request =
    search rules in
    c.requires.may c.in_ok-request.request found
