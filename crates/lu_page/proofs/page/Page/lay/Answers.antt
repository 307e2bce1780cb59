use Rattle.std.proofs.Common.{◌≡◌, ◌<◌, refl, ℕ, ◌+◌, ◌-◌, ◌∙◌, suc, set, length, take, length-set, sym, ap, arith}
use Rattle.std.specs.Prelude.{Some}
use Rattle.std.specs.BTreeMap.{insert_entry}
use Rattle.std.specs.Ordering.{nat_cmp}
use Rattle.lu_spec_machine.specs.Places.{laid}
use Rattle.lu_spec_bytes.proofs.Rising.{lay_more, laid_none}
use Rattle.lu_page.specs.Sheets.{Sheet, shown}
use Rattle.lu_page.proofs.Maps.{rises_from}
use Rattle.lu_page.proofs.Slots.{set_shown, shown_rising}
use Rattle.lu_page.proofs.page.Page.lay.Goals as goal

pub loop-item-init : goal.loop-item-init
loop-item-init g c =
    record {
      slot = omega arith;
      first = refl;
      len = c.self.invariant.0;
      laid = sym (laid_none c.args.at (shown c.self.inside.first c.self.inside.slots.items)
          (rises_from c.self.inside.first 0 (shown c.self.inside.first c.self.inside.slots.items) (omega arith)
          (shown_rising c.self.inside.first c.self.inside.slots.items)));
    }

pub loop-item-preserved : goal.loop-item-preserved
loop-item-preserved g c =
    let first : c.self.inside.first ≡ c.args.self.now.first = ap (λ s. s.first) c.self.view_is in
    let stands : c.args.at + c.loop-item.item-index ≡ c.loop-item.self-inside.first + c.loop-item.slot =
    omega (arith, first, c.requires.low, c.loop-item.invariant.slot, c.loop-item.invariant.first) in
    let less : c.loop-item.slot < length c.loop-item.self-inside.slots.items =
    omega (arith, first, c.requires.low, c.requires.high, c.loop-item.invariant.slot, c.loop-item.invariant.len, c.loop-item-test.true)
    in
    let rising = rises_from c.self.inside.first 0 (shown c.self.inside.first c.self.inside.slots.items) (omega arith)
    (shown_rising c.self.inside.first c.self.inside.slots.items) in
    record {
      slot = omega (arith, c.loop-item.invariant.slot);
      first = c.loop-item.invariant.first;
      len = length-set c.loop-item.self-inside.slots.items c.loop-item.slot (Some c.item-item.result) ∙ c.loop-item.invariant.len;
      laid = set_shown c.loop-item.self-inside.first (c.args.at + c.loop-item.item-index) c.loop-item.slot
          c.loop-item.self-inside.slots.items c.item-item.result stands less
          ∙ ap (λ m. insert_entry nat_cmp m (c.args.at + c.loop-item.item-index) c.item-item.result) c.loop-item.invariant.laid
          ∙ lay_more c.args.at (c.args.at + c.loop-item.item-index) c.loop-item.item-index c.args.items.now c.item-item.result
          (shown c.self.inside.first c.self.inside.slots.items) rising refl (omega (arith, c.loop-item-test.true)) c.item-item.is;
    }
