use Rattle.std.proofs.Common.{◌≡◌, ◌∙◌, sym, refl, ap, true, false}
use Rattle.std.specs.Prelude.{if◌then◌else◌, Option, None}
use Rattle.lu_spec_machine.specs.Places.{is_in, found_at}
use Rattle.lu_spec_bytes.proofs.Rising.{found_filter}
use Rattle.lu_page.proofs.page.Page.at_inside.Goals as goal

pub returns-then-is_in : goal.returns-then-is_in
returns-then-is_in g c =
    let test : is_in c.args.extent c.args.position ≡ true = sym c.is_in.ensures ∙ c.if-is_in.true in
    record { found = c.at.ensures.found ∙ sym (found_filter (is_in c.args.extent) c.args.self.now.here c.args.position ∙ rw test refl) }

pub returns-else-is_in : goal.returns-else-is_in
returns-else-is_in g c =
    let test : is_in c.args.extent c.args.position ≡ false = sym c.is_in.ensures ∙ c.if-is_in.false in
    record { found = sym (found_filter (is_in c.args.extent) c.args.self.now.here c.args.position ∙ rw test refl) }
