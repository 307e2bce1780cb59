use Rattle.std.proofs.Common.{sym, ap, subst, ◌∙◌}
use Rattle.std.proofs.lemmas.Result.{on_ok_weaker}
use Rattle.lu_msg.specs.declared.operations.Op.{Op}
use Rattle.lu_spec_client.specs.Caches.{brought}
use Rattle.lu_spec_client.specs.Messages.{heeds}
use Rattle.lu_client.specs.Clients.{Makes}
use Rattle.lu_client.proofs.Answering.{heeds_lock, heeds_get, heeds_put, heeds_cut}
use Rattle.lu_client.proofs.client.Client.heed_answer.Goals as goal

pub returns-in-Enqueue : goal.returns-in-Enqueue
returns-in-Enqueue c =
    record {
      makes = λ turn f serves asks. subst (λ (o : Op). Makes (heeds c.args.target.0 f o c.args.reply.now c.args.reply.now.answer)
          c.args.self.now c.heed_lock.new.self turn turn) (sym c.in-Enqueue.is)
          (heeds_lock c.args.target.0 f c.in-Enqueue.resource c.in-Enqueue.mode c.in-Enqueue.extent c.args.reply.now c.args.reply.now.answer
          c.args.locks.now c.args.slot c.args.self.now c.heed_lock.new.self turn
          serves (asks ∙ c.in-Enqueue.is) (c.requires.brought ∙ ap (λ (o : Op). brought o c.args.reply.now) c.in-Enqueue.is)
          (c.heed_lock.ensures.makes turn));
    }

pub returns-in-Get : goal.returns-in-Get
returns-in-Get c =
    record {
      makes = on_ok_weaker c.heed_get.result
          (λ makes turn f serves asks. subst (λ (o : Op). Makes (heeds c.args.target.0 f o c.args.reply.now c.args.reply.now.answer)
          c.args.self.now c.heed_get.new.self turn turn) (sym c.in-Get.is)
          (heeds_get c.args.target.0 f c.in-Get.resource c.in-Get.cookie c.in-Get.page c.args.reply.now c.args.reply.now.answer c.args.slot
          c.args.self.now c.heed_get.new.self turn serves (makes turn)))
          c.heed_get.ensures.makes;
    }

pub returns-in-Put : goal.returns-in-Put
returns-in-Put c =
    record {
      makes = on_ok_weaker c.heed_put.result
          (λ makes turn f serves asks. subst (λ (o : Op). Makes (heeds c.args.target.0 f o c.args.reply.now c.args.reply.now.answer)
          c.args.self.now c.heed_put.new.self turn turn) (sym c.in-Put.is)
          (heeds_put c.args.target.0 f c.in-Put.resource c.in-Put.cookie c.in-Put.offset c.in-Put.bytes c.args.reply.now
          c.args.reply.now.answer c.args.self.now c.heed_put.new.self turn (makes turn)))
          c.heed_put.ensures.makes;
    }

pub returns-in-Cut : goal.returns-in-Cut
returns-in-Cut c =
    record {
      makes = λ turn f serves asks. subst (λ (o : Op). Makes (heeds c.args.target.0 f o c.args.reply.now c.args.reply.now.answer)
          c.args.self.now c.heed_cut.new.self turn turn) (sym c.in-Cut.is)
          (heeds_cut c.args.target.0 f c.in-Cut.resource c.in-Cut.cookie c.in-Cut.size c.args.reply.now c.args.reply.now.answer
          c.args.self.now c.heed_cut.new.self turn (c.heed_cut.ensures.makes turn));
    }
