-- The first of the queue that waits.
use Rattle.std.proofs.Common.{◌∙◌, sym, ap, []}
use Rattle.std.specs.Prelude.{map, unwrap_or}
use Rattle.std.specs.Option.{option_map, option_copied}
use Rattle.lu_judge_locks.specs.Lists.{arrival_of}
use Rattle.lu_judge_locks.proofs.Passing.{lasting, first_is, no_first}
use Rattle.lu_judge_locks.proofs.waiting.Waiting.first.Goals as goal

pub returns-in-Some : goal.returns-in-Some
returns-in-Some c = record {
  first = λ place all shown.
      ap (option_map arrival_of) c.get_at.ensures
      ∙ first_is c.args.self.now c.args.target c.args.cookie.0 c.next-at.result c.as_slice-queue.result.now place all shown
      (ap (λ o. unwrap_or (option_map (λ list. map arrival_of list.items) o) []) (sym c.get.ensures.value ∙ ap option_copied c.in-Some.is)
      ∙ ap (map arrival_of) (sym c.as_slice-queue.ensures.value))
      (c.next-at.ensures.over ∙ ap (λ n. lasting c.args.self.now c.args.target n c.as_slice-queue.result.now) c.passed.ensures)
      c.next-at.ensures.waits;
}

pub returns-in-None : goal.returns-in-None
returns-in-None c = record {
  first = λ place all shown.
      sym (no_first c.args.self.now c.args.target c.args.cookie.0 place all shown
      (ap (λ o. unwrap_or (option_map (λ list. map arrival_of list.items) o) [])
      (sym c.get.ensures.value ∙ ap option_copied c.in-None.is)));
}
