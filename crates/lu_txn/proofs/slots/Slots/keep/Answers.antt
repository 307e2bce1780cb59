-- The reply is written into the life's slot, or there is none.
use Rattle.std.proofs.Common.{◌≡◌, ◌∙◌, Some, None, ap, sym}
use Rattle.std.specs.Map.{lookup, set_value}
use Rattle.lu_txn.specs.Slots.{with_reply}
use Rattle.lu_txn.proofs.SlotMaps.{at, reply_kept, no_reply, by_life_kept, values_same, values_all, by_life_all}
use Rattle.lu_txn.proofs.slots.Slots.keep.Goals as goal

pub returns-in_default : goal.returns-in_default
returns-in_default c =
    let entries = c.self.inside.by_life.entries in
    let none : lookup (at c.args.who) entries ≡ None = sym c.in_default.ensures.value in
    record {
      kept =
          values_same c.get_mut.follows.holds-at-none
          ∙ no_reply c.args.who c.args.tag c.args.reply entries c.self.invariant.keyed none
          ∙ ap (with_reply c.args.who c.args.tag c.args.reply) c.self.view_is;
    }

pub invariant_of-self-2 : goal.invariant_of-self-2
invariant_of-self-2 c =
    let entries = c.self.inside.by_life.entries in
    let found : lookup (at c.args.who) entries ≡ Some c.in-Some.slot.now = sym c.in-Some.ensures.value in
    by_life_all ((c.get_mut.follows.holds c.keep.new.self).0 ∙ ap (set_value (at c.args.who) entries) c.keep.ensures.kept)
    (by_life_kept c.args.who c.args.tag c.args.reply c.in-Some.slot.now entries c.self.invariant found)

pub returns : goal.returns
returns c =
    let entries = c.self.inside.by_life.entries in
    let found : lookup (at c.args.who) entries ≡ Some c.in-Some.slot.now = sym c.in-Some.ensures.value in
    record {
      kept =
          values_all ((c.get_mut.follows.holds c.keep.new.self).0 ∙ ap (set_value (at c.args.who) entries) c.keep.ensures.kept)
          ∙ reply_kept c.args.who c.args.tag c.args.reply c.in-Some.slot.now entries c.self.invariant.keyed found
          ∙ ap (with_reply c.args.who c.args.tag c.args.reply) c.self.view_is;
    }
