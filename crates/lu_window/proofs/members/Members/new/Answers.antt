-- One life more.
use Rattle.std.proofs.Common.{◌∙◌, [], ap, sym, arith}
use Rattle.std.proofs.lemmas.List.Sums.{fold_more}
use Rattle.lu_base.specs.declared.ids.Who.{Who}
use Rattle.lu_spec_target.specs.Lives.{with_life}
use Rattle.lu_window.proofs.Maps.{life_put}
use Rattle.lu_window.proofs.members.Members.new.Goals as goal

abbrev some : Who
some = record { client = 0; life = 0 }

pub loop-who-preserved : goal.loop-who-preserved
loop-who-preserved c =
    c.in_ok-insert.ensures.keys
    ∙ life_put _ c.loop-who.members.keys
    ∙ ap (with_life _) c.loop-who.invariant
    ∙ sym (fold_more (λ lives who. with_life who lives) [] c.args.lives.now c.loop-who.who-index some (omega arith))
