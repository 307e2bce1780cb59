use Rattle.std.proofs.Common.{◌<◌, ◌+◌, sym, subst}
use Rattle.std.proofs.lemmas.Result.{on_ok_weaker}
use Rattle.lu_base.specs.declared.ids.Who.{Who}
use Rattle.lu_client.proofs.Evicting.{life_over, same_until}
use Rattle.lu_client.proofs.client.Client.end_life.Goals as goal

pub begin_next-requires : goal.begin_next-requires
begin_next-requires c =
    record {
      number = subst (λ (who : Who). who.life + 1 < 4294967296)
          (sym (same_until c.args.turn.now.at c.args.self.now c.end_calls.new.self c.drop_locks.new.self c.args.turn.now
          c.end_calls.new.turn c.drop_locks.new.turn c.in_ok-end_calls.ensures.makes c.in_ok-drop_locks.ensures.makes))
          c.requires.number;
    }

pub returns : goal.returns
returns c =
    record {
      makes = on_ok_weaker c.join_all.result
          (λ joins. life_over c.args.turn.now.at c.args.self.now c.end_calls.new.self c.drop_locks.new.self c.begin_next.new.self
          c.begin_next.new.self c.args.turn.now c.end_calls.new.turn c.drop_locks.new.turn c.begin_next.new.turn c.join_all.new.turn
          c.in_ok-end_calls.ensures.makes c.in_ok-drop_locks.ensures.makes c.in_ok-begin_next.ensures.makes joins)
          c.join_all.ensures.makes;
    }
