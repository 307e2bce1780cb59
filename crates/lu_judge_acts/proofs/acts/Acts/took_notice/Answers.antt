use Rattle.std.proofs.Common.{◌≡◌, List, sym, ap, ◌∙◌, map}
use Rattle.std.specs.List.{list_any}
use Rattle.lu_spec_laws.specs.Words.Sends.{Sending}
use Rattle.lu_spec_laws.specs.Laws.Acts.{is_notice}
use Rattle.lu_judge_pass.specs.Tables.{sending_of}
use Rattle.lu_judge_acts.proofs.Notices.{any_reverse}
use Rattle.lu_judge_acts.proofs.acts.Acts.took_notice.Goals as goal

pub returns : goal.returns
returns c = record {
  took = λ past shown ordered follows.
      c.has_notice.ensures.notice past shown
      ∙ sym (any_reverse (λ (s : Sending). is_notice past c.args.who s.from s.message) (map sending_of c.taken.result.now))
      ∙ ap (λ (sent : List Sending). list_any (λ (s : Sending). is_notice past c.args.who s.from s.message) sent)
      (c.taken.ensures.taken past shown.ledger.present ordered follows);
}
