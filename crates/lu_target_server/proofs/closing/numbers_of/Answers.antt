-- One number more, and in the end all.
use Rattle.std.proofs.Common.{List, [], ◌∷◌, ◌++◌, map, ap, ◌∙◌}
use Rattle.lu_target_redo.specs.declared.deeds.Deed.{Deed}
use Rattle.lu_target_redo.specs.Shown.{deed_of}
use Rattle.lu_target_server.specs.Closing.{numbers_of}
use Rattle.lu_target_server.proofs.Itemwise.{made_more, made_all, numbers_more}
use Rattle.lu_target_server.proofs.closing.numbers_of.Goals as goal

pub loop-deed-preserved : goal.loop-deed-preserved
loop-deed-preserved c =
    made_more (λ (deeds : List Deed). numbers_of (map deed_of deeds)) (λ d. d.reply.txn) numbers_more c.as_slice-deed-items.result.now
    c.loop-deed.deed-index _ c.loop-deed-test.true
    c.loop-deed.numbers c.push.new.self c.loop-deed.invariant (c.in_ok-push.ensures.added
    ∙ ap (λ (d : Deed). c.loop-deed.numbers ++ d.reply.txn ∷ []) c.deed-item.is)

pub returns : goal.returns
returns c = record {
  numbers =
      made_all (λ (deeds : List Deed). numbers_of (map deed_of deeds)) (λ d. d.reply.txn) numbers_more c.as_slice-deed-items.result.now
      c.args.deeds.now c.loop-deed.deed-index
      c.as_slice-deed-items.ensures.same c.loop-deed-test.false c.loop-deed.numbers c.loop-deed.invariant;
}
