-- The glimpse leaves what stands under the lock's cookie.
use Rattle.std.proofs.Common.{◌≡◌, ◌∙◌, Some, None, ap, sym, subst}
use Rattle.std.specs.Map.{lookup, set_value}
use Rattle.lu_callback.specs.declared.callbacks.Kind.TheVariants.{Glimpse}
use Rattle.lu_callback.specs.Callbacks.{without_glimpse}
use Rattle.lu_callback.specs.Filed.{at, all_asked, IsHeld}
use Rattle.lu_callback.proofs.Filed.{all_forgot, none_forgot, entries_same}
use Rattle.lu_callback.proofs.callbacks.Callbacks.glimpsed.Goals as goal

pub invariant_of-self : goal.invariant_of-self
invariant_of-self c = subst IsHeld (sym (entries_same c.get_mut.follows.holds-at-none)) c.self.invariant

pub returns-in_default-clause-without : goal.returns-in_default-clause-without
returns-in_default-clause-without c =
    let none : lookup (at c.args.cookie) c.self.inside.holders.entries ≡ None = sym c.in_default.ensures.value in
    ap all_asked (entries_same c.get_mut.follows.holds-at-none)
    ∙ none_forgot c.args.cookie (Glimpse c.args.who c.args.xid) c.self.inside.holders.entries c.self.invariant none
    ∙ ap (without_glimpse c.args.cookie c.args.who c.args.xid) c.self.view_is

pub returns-in_default-clause-sound : goal.returns-in_default-clause-sound
returns-in_default-clause-sound c = (invariant_of-self c).sound

pub invariant_of-self-2 : goal.invariant_of-self-2
invariant_of-self-2 c =
    let found : lookup (at c.args.cookie) c.self.inside.holders.entries ≡ Some c.in-Some.holder.now = sym c.in-Some.ensures.value in
    (all_forgot c.args.cookie (Glimpse c.args.who c.args.xid) c.in-Some.holder.now c.self.inside.holders.entries _ c.self.invariant found
    ((c.get_mut.follows.holds c.forget.new.self).0 ∙ ap (set_value (at c.args.cookie) c.self.inside.holders.entries)
    c.forget.ensures.forgot)).held

pub returns-clause-without : goal.returns-clause-without
returns-clause-without c =
    let found : lookup (at c.args.cookie) c.self.inside.holders.entries ≡ Some c.in-Some.holder.now = sym c.in-Some.ensures.value in
    c.let_go.ensures.same
    ∙ (all_forgot c.args.cookie (Glimpse c.args.who c.args.xid) c.in-Some.holder.now c.self.inside.holders.entries _ c.self.invariant found
    ((c.get_mut.follows.holds c.forget.new.self).0 ∙ ap (set_value (at c.args.cookie) c.self.inside.holders.entries)
    c.forget.ensures.forgot)).all
    ∙ ap (without_glimpse c.args.cookie c.args.who c.args.xid) c.self.view_is
