use Rattle.std.proofs.Common.{◌≡◌, ℕ, ◌+◌, ◌<◌, ◌≤◌, ◌∙◌, Bool, true, false, length, refl, sym, ap, arith}
use Rattle.std.specs.Prelude.{is_some, None}
use Rattle.lu_spec_machine.specs.Places.{RisingFrom, is_in, found_at, inside, below, end_of}
use Rattle.lu_spec_bytes.specs.Maps.{AllBelow}
use Rattle.lu_spec_bytes.specs.Runs.{first_position}
use Rattle.lu_spec_bytes.proofs.Rising.{rising_filter, all_filter, none_before}
use Rattle.lu_page.proofs.Maps.{below_none, below_same, same_below, count_at}
use Rattle.lu_page.proofs.page.Page.count.Goals as goal
use Rattle.lu_page.proofs.page.Page.count.Goals.{then-is_some, else-is_some}

pub loop-slot-init : goal.loop-slot-init
loop-slot-init g c =
    let rising : RisingFrom c.args.self.now.first (inside c.args.extent c.args.self.now.here) =
    rising_filter c.args.self.now.first (λ e. is_in c.args.extent e.0) c.args.self.now.here c.first-first.ensures.sheet.rising in
    record {
      count = ap length (sym (below_none (c.first-first.result + 0) c.args.self.now.first (inside c.args.extent c.args.self.now.here)
          rising (omega (arith, c.first-first.ensures.first))));
      most = omega arith;
    }

pub loop-slot-preserved : goal.loop-slot-preserved
loop-slot-preserved g c =
    let rising : RisingFrom c.args.self.now.first (inside c.args.extent c.args.self.now.here) =
    rising_filter c.args.self.now.first (λ e. is_in c.args.extent e.0) c.args.self.now.here c.first-first.ensures.sheet.rising in
    let told : (v : Bool) → c.is_some.result ≡ v → is_some (found_at (inside c.args.extent c.args.self.now.here)
    (c.first-first.result + c.loop-slot.slot)) ≡ v = λ v is. ap is_some (sym c.at_inside.ensures.found) ∙ sym c.is_some.ensures ∙ is in
    elim c.if-is_some.branch [
      | then-is_some w ↦
          let more = count_at c.args.self.now.first (c.first-first.result + c.loop-slot.slot)
          (c.first-first.result + (c.loop-slot.slot + 1)) (inside c.args.extent c.args.self.now.here) rising
          (told true w.if-is_some.true) (omega arith) in
          record {
            count = omega (arith, w.count-is, c.loop-slot.invariant.count, more);
            most =
                omega (arith, w.count-is, c.loop-slot.invariant.most);
          }
      | else-is_some w ↦
          let same = same_below c.args.self.now.first (c.first-first.result + c.loop-slot.slot)
          (c.first-first.result + (c.loop-slot.slot + 1)) (inside c.args.extent c.args.self.now.here) rising
          (told false w.if-is_some.false) (omega arith) in
          record {
            count = w.count-is ∙ c.loop-slot.invariant.count ∙ ap length (sym same);
            most =
                omega (arith, w.count-is, c.loop-slot.invariant.most);
          }
    ]

pub returns : goal.returns
returns g c =
    let within : AllBelow (c.args.self.now.first + 4096) (inside c.args.extent c.args.self.now.here) =
    all_filter (c.args.self.now.first + 4096) (λ e. is_in c.args.extent e.0) c.args.self.now.here c.first-first.ensures.sheet.below in
    record {
      count = c.loop-slot.invariant.count ∙ ap length (below_same (c.args.self.now.first + 4096)
          (c.first-first.result + c.loop-slot.slot) (inside c.args.extent c.args.self.now.here) within
          (omega (arith, c.loop-slot-test.false, c.first-first.ensures.first)));
    }
