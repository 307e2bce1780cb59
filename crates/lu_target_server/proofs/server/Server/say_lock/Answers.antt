-- It is the request that was found.
use Rattle.std.proofs.Common.{◌≡◌, Some, rules}
use Rattle.lu_target_server.specs.Requests.{request_of}
use Rattle.lu_target_server.proofs.server.Server.say_lock.Goals as goal

pub answer_unseen-requires-clause-may : goal.answer_unseen-requires-clause-may
answer_unseen-requires-clause-may g c =
    let found : request_of c.args.who c.args.xid c.args.self.now.requests ≡ Some c.in_ok-request.request = search rules in
    c.requires.may c.in_ok-request.request found
