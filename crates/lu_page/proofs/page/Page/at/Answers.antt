use Rattle.std.proofs.Common.{◌≡◌, ◌+◌, ◌-◌, ◌∙◌, inl, inr, sym, ap, arith}
use Rattle.lu_spec_machine.specs.Places.{found_at}
use Rattle.lu_page.proofs.Slots.{found_shown, beside_shown}
use Rattle.lu_page.proofs.page.Page.at.Goals as goal

pub returns-then-position-self : goal.returns-then-position-self
returns-then-position-self g c = record {
  found = sym (beside_shown c.self.inside.first c.args.position c.self.inside.slots.items
      (inl c.if-position-self.true)) ∙ ap (λ s. found_at s.here c.args.position) c.self.view_is;
}

pub returns-then-position-self-ge-PAGE : goal.returns-then-position-self-ge-PAGE
returns-then-position-self-ge-PAGE g c = record {
  found = sym (beside_shown c.self.inside.first c.args.position c.self.inside.slots.items
      (inr (omega (arith, c.self.invariant.0, c.if-position-self.false, c.if-position-self-ge-PAGE.true))))
      ∙ ap (λ s. found_at s.here c.args.position) c.self.view_is;
}

pub returns : goal.returns
returns g c = record {
  found = c.index.ensures ∙ sym (found_shown c.self.inside.first c.args.position
      (c.args.position - c.self.inside.first) c.self.inside.slots.items c.index.result.now (omega (arith, c.if-position-self.false))
      (omega (arith, c.self.invariant.0, c.if-position-self-ge-PAGE.false))) ∙ ap (λ s. found_at s.here c.args.position) c.self.view_is;
}
