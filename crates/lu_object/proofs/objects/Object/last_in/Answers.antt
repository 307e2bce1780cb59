use Rattle.std.proofs.Common.{◌≡◌, ◌∙◌, sym, ap, rules, arith}
use Rattle.lu_spec_machine.specs.Places.{inside, end_of}
use Rattle.lu_object.proofs.Looked.{none_stands}
use Rattle.lu_object.proofs.objects.Object.last_in.Goals as goal

pub returns-in-0-clause-none : goal.returns-in-0-clause-none
returns-in-0-clause-none c = none_stands (inside c.args.part c.args.self.now)
    (ap (λ m. end_of (inside c.args.part m)) (sym c.self.view_is) ∙ sym c.end_in.ensures.end ∙ c.in-0.is)
