-- What flies is taken from the count, since all of it lies in the range that is counted before and after.
use Rattle.std.proofs.Common.{◌≡◌, ◌≤◌, ◌+◌, ◌-◌, ◌^◌, ◌∙◌, ap, sym, subst, arith}
use Rattle.lu_spec_client.specs.Patches.{landed}
use Rattle.lu_patch.specs.Counted.{IsCounted}
use Rattle.lu_patch.specs.Flights.{FlyBetween}
use Rattle.lu_patch.proofs.Counted.{part_counted, landed_counted, fits_counted}
use Rattle.lu_patch.proofs.Landed.{lands_before}
use Rattle.lu_patch.proofs.dirty.DirtyBytes.land.Goals as goal

pub overflow_sub-self : goal.overflow_sub-self
overflow_sub-self c = part_counted c.self.inside.count c.count_between-flown.result c.args.first c.args.end c.self.inside.bytes
    c.self.invariant c.count_between-flown.ensures.count

pub invariant_of-self : goal.invariant_of-self
invariant_of-self c =
    let fly : FlyBetween c.args.first c.args.end c.self.inside.bytes =
    subst (FlyBetween c.args.first c.args.end) (sym c.self.view_is) c.requires.between in
    let made : c.drop_marked_in.new.self ≡ landed c.self.inside.bytes =
    lands_before c.args.first c.args.end c.saturating_sub.result c.self.inside.bytes c.drop_marked_in.new.self c.saturating_sub.ensures
    fly c.drop_marked_in.ensures.unmarked in
    landed_counted c.self.inside.count c.count_between-flown.result c.count_between-left.result c.args.first c.args.end c.self.inside.bytes
    c.drop_marked_in.new.self fly c.self.invariant c.count_between-flown.ensures.count c.count_between-left.ensures.count made

pub overflow_add-self : goal.overflow_add-self
overflow_add-self c =
    let fly : FlyBetween c.args.first c.args.end c.self.inside.bytes =
    subst (FlyBetween c.args.first c.args.end) (sym c.self.view_is) c.requires.between in
    let made : c.drop_marked_in.new.self ≡ landed c.self.inside.bytes =
    lands_before c.args.first c.args.end c.saturating_sub.result c.self.inside.bytes c.drop_marked_in.new.self c.saturating_sub.ensures
    fly c.drop_marked_in.ensures.unmarked in
    let now : IsCounted (c.self.inside.count - c.count_between-flown.result + c.count_between-left.result) c.drop_marked_in.new.self =
    landed_counted c.self.inside.count c.count_between-flown.result c.count_between-left.result c.args.first c.args.end c.self.inside.bytes
    c.drop_marked_in.new.self fly c.self.invariant c.count_between-flown.ensures.count c.count_between-left.ensures.count made in
    let most : c.self.inside.count - c.count_between-flown.result + c.count_between-left.result ≤ 2 ^ 62 =
    fits_counted (c.self.inside.count - c.count_between-flown.result + c.count_between-left.result) c.drop_marked_in.new.self now in
    omega (arith, most)

pub returns : goal.returns
returns c =
    let fly : FlyBetween c.args.first c.args.end c.self.inside.bytes =
    subst (FlyBetween c.args.first c.args.end) (sym c.self.view_is) c.requires.between in
    record {
      landed =
          lands_before c.args.first c.args.end c.saturating_sub.result c.self.inside.bytes c.drop_marked_in.new.self
          c.saturating_sub.ensures fly c.drop_marked_in.ensures.unmarked
          ∙ ap landed c.self.view_is;
    }
