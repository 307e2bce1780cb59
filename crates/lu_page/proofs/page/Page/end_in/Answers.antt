use Rattle.std.proofs.Common.{◌≡◌, ℕ, ◌+◌, ◌-◌, ◌<◌, ◌≤◌, ◌∙◌, Bool, true, false, refl, sym, ap, subst, arith}
use Rattle.std.specs.Prelude.{is_some}
use Rattle.lu_spec_machine.specs.Places.{RisingFrom, is_in, found_at, inside, end_of}
use Rattle.lu_spec_bytes.specs.Maps.{AllBelow}
use Rattle.lu_spec_bytes.proofs.Rising.{rising_filter}
use Rattle.lu_page.proofs.Maps.{all_less, end_there, end_nowhere}
use Rattle.lu_page.proofs.page.Page.end_in.Goals as goal

pub loop-slot-init : goal.loop-slot-init
loop-slot-init g c = record {
  below = subst (λ n. AllBelow (n + c.slots_up_to-slot.result) (inside c.args.extent c.args.self.now.here))
      (sym c.first-first.ensures.first) c.slots_up_to-slot.ensures.below;
  most = c.slots_up_to-slot.ensures.most;
}

pub returns-then-is_some : goal.returns-then-is_some
returns-then-is_some g c =
    let rising : RisingFrom c.args.self.now.first (inside c.args.extent c.args.self.now.here) =
    rising_filter c.args.self.now.first (λ e. is_in c.args.extent e.0) c.args.self.now.here c.first-first.ensures.sheet.rising in
    let told : is_some (found_at (inside c.args.extent c.args.self.now.here) (c.first-first.result + (c.loop-slot.slot - 1))) ≡ true =
    ap is_some (sym c.at_inside.ensures.found) ∙ sym c.is_some.ensures ∙ c.if-is_some.true in
    let one : c.first-first.result + c.loop-slot.slot ≡ c.first-first.result + (c.loop-slot.slot - 1) + 1 =
    omega (arith, c.loop-slot-test.true) in
    let all : AllBelow (c.first-first.result + (c.loop-slot.slot - 1) + 1) (inside c.args.extent c.args.self.now.here) =
    subst (λ n. AllBelow n (inside c.args.extent c.args.self.now.here)) one c.loop-slot.invariant.below in
    record {
      end = sym (end_there c.args.self.now.first (c.first-first.result + (c.loop-slot.slot - 1))
          (inside c.args.extent c.args.self.now.here) rising all told);
    }

pub loop-slot-preserved : goal.loop-slot-preserved
loop-slot-preserved g c =
    let told : is_some (found_at (inside c.args.extent c.args.self.now.here) (c.first-first.result + (c.loop-slot.slot - 1))) ≡ false =
    ap is_some (sym c.at_inside.ensures.found) ∙ sym c.is_some.ensures ∙ c.if-is_some.false in
    let one : c.first-first.result + c.loop-slot.slot ≡ c.first-first.result + (c.loop-slot.slot - 1) + 1 =
    omega (arith, c.loop-slot-test.true) in
    let all : AllBelow (c.first-first.result + (c.loop-slot.slot - 1) + 1) (inside c.args.extent c.args.self.now.here) =
    subst (λ n. AllBelow n (inside c.args.extent c.args.self.now.here)) one c.loop-slot.invariant.below in
    record {
      below = all_less (c.first-first.result + (c.loop-slot.slot - 1)) (inside c.args.extent c.args.self.now.here) all told;
      most =
          omega (arith, c.loop-slot.invariant.most);
    }

pub returns : goal.returns
returns g c =
    let rising : RisingFrom c.args.self.now.first (inside c.args.extent c.args.self.now.here) =
    rising_filter c.args.self.now.first (λ e. is_in c.args.extent e.0) c.args.self.now.here c.first-first.ensures.sheet.rising in
    let none : c.first-first.result + c.loop-slot.slot ≡ c.args.self.now.first =
    omega (arith, c.loop-slot-test.false, c.first-first.ensures.first) in
    record {
      end = sym (end_nowhere c.args.self.now.first (inside c.args.extent c.args.self.now.here) rising
          (subst (λ n. AllBelow n (inside c.args.extent c.args.self.now.here)) none c.loop-slot.invariant.below));
    }
