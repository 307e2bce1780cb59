use Rattle.std.proofs.Common.{Bool, sym, subst, ◌∙◌}
use Rattle.lu_held.specs.Locks.{named}
use Rattle.lu_client.specs.Callbacks.{MarksHeld}
use Rattle.lu_client.proofs.CallingBack.{block_marked}
use Rattle.lu_client.proofs.client.Client.call_back.Goals as goal

pub returns-then-mark_held : goal.returns-then-mark_held
returns-then-mark_held c =
    let name = named c.args.target c.args.cookie in
    record {
      makes = block_marked name c.args.self.now c.mark_held.new.self c.args.who c.args.turn.now
          (sym c.is_life.ensures.life ∙ c.if-not-is_life.false) (sym c.mark_held.ensures.held ∙ c.if-mark_held.true)
          (subst (λ (held : Bool). MarksHeld name held c.args.self.now c.mark_held.new.self) c.if-mark_held.true
          c.mark_held.ensures.marked);
    }
