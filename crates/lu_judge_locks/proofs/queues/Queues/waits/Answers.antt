-- The first of the cookie that waits.
use Rattle.std.proofs.Common.{◌∙◌, sym, ap}
use Rattle.std.specs.Prelude.{length}
use Rattle.std.specs.Option.{option_map}
use Rattle.lu_judge_locks.specs.Lists.{arrival_of}
use Rattle.lu_judge_locks.specs.Arrivals.{arrivals}
use Rattle.lu_judge_locks.proofs.Notions.{lock_of, waits_is}
use Rattle.lu_judge_locks.proofs.queues.Queues.waits.Goals as goal

pub returns-in-Some : goal.returns-in-Some
returns-in-Some c = record {
  waits = λ past shown.
      ap (option_map lock_of) (sym (ap (option_map arrival_of) c.in-Some.is)
      ∙ c.first.ensures.first (length past) (λ t. arrivals t past) shown.waiting)
      ∙ waits_is c.args.target c.args.cookie.0 past;
}

pub returns-in-None : goal.returns-in-None
returns-in-None c = record {
  waits = λ past shown.
      ap (option_map lock_of) (sym (ap (option_map arrival_of) c.in-None.is)
      ∙ c.first.ensures.first (length past) (λ t. arrivals t past) shown.waiting)
      ∙ waits_is c.args.target c.args.cookie.0 past;
}
