-- Nothing stood under the cookie.
use Rattle.std.proofs.Common.{◌≡◌, ◌∙◌, true, ap, sym, rules, tests}
use Rattle.lu_callback.specs.Filed.{all_asked, is_idle}
use Rattle.lu_callback.proofs.Filed.{all_removed, idle_gone}
use Rattle.lu_callback.proofs.callbacks.Callbacks.let_go.Goals as goal

pub invariant_of-self : goal.invariant_of-self
invariant_of-self c = (all_removed c.args.cookie c.self.inside.holders.entries _ c.self.invariant c.remove.ensures.entries).held

pub returns-clause-same : goal.returns-clause-same
returns-clause-same c =
    let on : c.is_idle.result ≡ true = search (rules, tests) in
    let idle : is_idle c.args.cookie c.self.inside.holders.entries ≡ true = sym c.is_idle.ensures ∙ on in
    ap all_asked c.remove.ensures.entries ∙ idle_gone c.args.cookie c.self.inside.holders.entries idle ∙ c.self.view_is

pub returns-clause-sound : goal.returns-clause-sound
returns-clause-sound c = (invariant_of-self c).sound
