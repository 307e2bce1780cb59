-- By the request's operation.
use Rattle.std.proofs.Common.{◌≡◌, sym, ap, rules}
use Rattle.std.proofs.lemmas.Result.{on_ok_weaker}
use Rattle.lu_msg.specs.declared.operations.Op.TheVariants as op
use Rattle.lu_spec_target.specs.Glimpses.{highest, row_size}
use Rattle.lu_spec_target.specs.Objects.{lock_for, lock_of, objects_go, row_enqueue, row_get}
use Rattle.lu_spec_target.specs.Replies.{locks_on}
use Rattle.lu_target_server.proofs.Composing.{makes_as}
use Rattle.lu_target_server.proofs.server.Server.objects_go.Goals as goal

pub returns-in-Get-clause-makes : goal.returns-in-Get-clause-makes
returns-in-Get-clause-makes g c =
    let r = c.args.request.now in
    let at = c.args.turn.now.at in
    let is : r.op ≡ op.Get c.in-Get.resource c.in-Get.cookie c.in-Get.page = search rules in
    on_ok_weaker c.get.result
    (λ makes.
    makes_as (λ v. row_get v at r c.in-Get.resource c.in-Get.page (lock_of r.who c.in-Get.cookie (locks_on c.in-Get.resource v.granted)))
    (λ v. objects_go v at r r.op) c.args.self.now c.get.new.self
    c.args.turn.now c.get.new.turn (λ v s. ap (objects_go v at r) (sym is)) makes)
    c.get.ensures.makes

pub returns-in-Size-clause-makes : goal.returns-in-Size-clause-makes
returns-in-Size-clause-makes g c =
    let r = c.args.request.now in
    let at = c.args.turn.now.at in
    let is : r.op ≡ op.Size c.in-Size.resource = search rules in
    on_ok_weaker c.size.result
    (λ makes.
    makes_as (λ v. row_size v at r c.in-Size.resource (highest (locks_on c.in-Size.resource v.granted))) (λ v. objects_go v at r r.op)
    c.args.self.now c.size.new.self c.args.turn.now c.size.new.turn
    (λ v s. ap (objects_go v at r) (sym is)) makes)
    c.size.ensures.makes

pub returns-in-Enqueue-clause-makes : goal.returns-in-Enqueue-clause-makes
returns-in-Enqueue-clause-makes g c =
    let r = c.args.request.now in
    let at = c.args.turn.now.at in
    let is : r.op ≡ op.Enqueue c.in-Enqueue.resource c.in-Enqueue.mode c.in-Enqueue.extent = search rules in
    on_ok_weaker c.enqueue.result
    (λ makes.
    makes_as (λ v. row_enqueue v at r (lock_for v r c.in-Enqueue.resource c.in-Enqueue.mode c.in-Enqueue.extent))
    (λ v. objects_go v at r r.op) c.args.self.now c.enqueue.new.self
    c.args.turn.now c.enqueue.new.turn (λ v s. ap (objects_go v at r) (sym is)) makes)
    c.enqueue.ensures.makes
