use Rattle.std.proofs.Common.{◌≡◌, ℕ, ◌+◌, ◌<◌, ◌≤◌, ◌∙◌, Bool, true, false, length, refl, sym, ap, arith}
use Rattle.std.specs.Prelude.{is_some, None}
use Rattle.lu_spec_machine.specs.Places.{RisingFrom, is_in, found_at, inside, below, end_of}
use Rattle.lu_spec_bytes.specs.Maps.{AllBelow}
use Rattle.lu_spec_bytes.specs.Runs.{first_position}
use Rattle.lu_spec_bytes.proofs.Rising.{rising_filter, all_filter, none_before}
use Rattle.lu_page.proofs.Maps.{first_at, first_none, not_at}
use Rattle.lu_page.proofs.page.Page.first_in.Goals as goal

pub loop-slot-init : goal.loop-slot-init
loop-slot-init g c = λ q less. c.slots_before-slot.ensures.bare q (omega (arith, less, c.first-first.ensures.first))

pub returns-then-is_some : goal.returns-then-is_some
returns-then-is_some g c =
    let rising : RisingFrom c.args.self.now.first (inside c.args.extent c.args.self.now.here) =
    rising_filter c.args.self.now.first (λ e. is_in c.args.extent e.0) c.args.self.now.here c.first-first.ensures.sheet.rising in
    let told : (v : Bool) → c.is_some.result ≡ v → is_some (found_at (inside c.args.extent c.args.self.now.here)
    (c.first-first.result + c.loop-slot.slot)) ≡ v = λ v is. ap is_some (sym c.at_inside.ensures.found) ∙ sym c.is_some.ensures ∙ is in
    record {
      first = sym (first_at c.args.self.now.first (c.first-first.result + c.loop-slot.slot)
          (inside c.args.extent c.args.self.now.here) rising c.loop-slot.invariant (told true c.if-is_some.true));
    }

pub loop-slot-preserved : goal.loop-slot-preserved
loop-slot-preserved g c =
    let told : (v : Bool) → c.is_some.result ≡ v → is_some (found_at (inside c.args.extent c.args.self.now.here)
    (c.first-first.result + c.loop-slot.slot)) ≡ v = λ v is. ap is_some (sym c.at_inside.ensures.found) ∙ sym c.is_some.ensures ∙ is in
    λ q less. not_at (c.first-first.result + c.loop-slot.slot) (c.first-first.result + (c.loop-slot.slot + 1)) q
    (inside c.args.extent c.args.self.now.here) c.loop-slot.invariant (told false c.if-is_some.false) (omega arith) less

pub returns : goal.returns
returns g c =
    let within : AllBelow (c.args.self.now.first + 4096) (inside c.args.extent c.args.self.now.here) =
    all_filter (c.args.self.now.first + 4096) (λ e. is_in c.args.extent e.0) c.args.self.now.here c.first-first.ensures.sheet.below in
    record {
      first = sym (first_none (c.args.self.now.first + 4096) (inside c.args.extent c.args.self.now.here)
          (λ q less. c.loop-slot.invariant q (omega (arith, less, c.loop-slot-test.false, c.first-first.ensures.first))) within);
    }
