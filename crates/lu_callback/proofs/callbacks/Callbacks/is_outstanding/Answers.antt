-- What is outstanding of a lock stands under its cookie.
use Rattle.std.proofs.Common.{◌∙◌, ap, sym, false}
use Rattle.std.specs.List.{list_any}
use Rattle.std.specs.Option.{option_map_or}
use Rattle.lu_callback.specs.Callbacks.{is_outstanding}
use Rattle.lu_callback.specs.Filed.{of_kind}
use Rattle.lu_callback.proofs.Filed.{any_is}
use Rattle.lu_callback.proofs.callbacks.Callbacks.is_outstanding.Goals as goal

pub returns-in-Some-clause-outstanding : goal.returns-in-Some-clause-outstanding
returns-in-Some-clause-outstanding c =
    c.has.ensures.has
    ∙ sym (any_is c.args.cookie c.args.kind 0 c.self.inside.holders.entries c.self.invariant.filed
    ∙ ap (λ found. option_map_or (list_any (of_kind c.args.kind)) found false) (sym c.in-Some.ensures.value))
    ∙ ap (is_outstanding c.args.cookie c.args.kind) c.self.view_is

pub returns-in-None-clause-outstanding : goal.returns-in-None-clause-outstanding
returns-in-None-clause-outstanding c =
    sym (any_is c.args.cookie c.args.kind 0 c.self.inside.holders.entries c.self.invariant.filed
    ∙ ap (λ found. option_map_or (list_any (of_kind c.args.kind)) found false) (sym c.in-None.ensures.value))
    ∙ ap (is_outstanding c.args.cookie c.args.kind) c.self.view_is
