use Rattle.std.proofs.Common.{◌≡◌, ◌<◌, refl, ℕ, ◌+◌, ◌∙◌, suc, get_or, set, length, sym, ap, arith}
use Rattle.lu_page.specs.Edits.{edited, edit_slot}
use Rattle.lu_page.specs.Sheets.{Sheet, shown}
use Rattle.lu_page.proofs.Slots.{edit_slots, edit_next, edit_keeps, edit_all}
use Rattle.lu_page.proofs.page.Page.edit.Goals as goal

pub loop-slot-preserved : goal.loop-slot-preserved
loop-slot-preserved g c =
    let f = g.E.Edit.edits c.args.edit.now in
    let less : c.loop-slot.slot < length c.self.inside.slots.items = omega (arith, c.loop-slot-test.true, c.len-slot-end.ensures) in
    let was : c.index.result.now ≡ get_or c.self.inside.slots.items c.loop-slot.slot c.index.result.now = c.index.ensures
    ∙ ap (λ slots. get_or slots c.loop-slot.slot c.index.result.now) c.loop-slot.invariant.edited
    ∙ edit_keeps f c.self.inside.first c.loop-slot.slot c.self.inside.slots.items c.index.result.now in
    let step : suc c.loop-slot.slot ≡ c.loop-slot.slot + 1 = omega arith in
    record {
      position = omega (arith, c.loop-slot.invariant.position);
      first = c.loop-slot.invariant.first;
      edited = ap (λ slots. set slots c.loop-slot.slot c.edited_slot.result) c.loop-slot.invariant.edited
          ∙ ap (λ v. set (edit_slots f c.self.inside.first c.loop-slot.slot c.self.inside.slots.items) c.loop-slot.slot v)
          c.edited_slot.ensures ∙ edit_next f c.self.inside.first c.loop-slot.position c.loop-slot.slot c.self.inside.slots.items
          c.index.result.now c.loop-slot.invariant.position less was
          ∙ ap (λ (n : ℕ). edit_slots f c.self.inside.first n c.self.inside.slots.items) step;
    }

pub returns : goal.returns
returns g c =
    let f = g.E.Edit.edits c.args.edit.now in
    let through : c.loop-slot.slot ≡ length c.self.inside.slots.items =
    omega (arith, c.loop-slot-test.false, c.loop-slot.auto.slot-end, c.len-slot-end.ensures) in
    let here : shown c.loop-slot.self-inside.first c.loop-slot.self-inside.slots.items
    ≡ edited f (shown c.self.inside.first c.self.inside.slots.items) =
    ap (λ q. shown q c.loop-slot.self-inside.slots.items) c.loop-slot.invariant.first
    ∙ ap (shown c.self.inside.first) (c.loop-slot.invariant.edited
    ∙ ap (λ n. edit_slots f c.self.inside.first n c.self.inside.slots.items) through)
    ∙ edit_all f c.self.inside.first c.self.inside.slots.items in
    record {
      edited = (λ i. record { first = c.loop-slot.invariant.first i; here = here i })
          ∙ ap (λ s. record { first = s.first; here = edited f s.here }) c.self.view_is;
    }
