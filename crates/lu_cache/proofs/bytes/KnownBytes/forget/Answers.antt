-- What is known of the object is changed in its place; where nothing ever was, nothing is.
use Rattle.std.proofs.Common.{◌≡◌, Some, None, ap, sym, ◌∙◌}
use Rattle.lu_spec_bytes.specs.Changes.{outside}
use Rattle.lu_cache.proofs.Tables.{Found, none_changed, changed_there}
use Rattle.lu_cache.proofs.bytes.KnownBytes.forget.Goals as goal

pub returns-in_default : goal.returns-in_default
returns-in_default c =
    let es = c.self.inside.objects.entries in
    let none : Found c.args.resource es ≡ None = sym c.in_default.ensures.value in
    record {
      forgotten = ap (λ m. m.entries) c.get_mut.follows.holds-at-none
          ∙ none_changed c.args.resource (outside c.args.extent) es c.args.self.now c.self.view_is none;
    }

pub returns : goal.returns
returns c =
    let es = c.self.inside.objects.entries in
    let found : Found c.args.resource es ≡ Some c.in-Some.places.now = sym c.in-Some.ensures.value in
    record {
      forgotten = (c.get_mut.follows.holds c.remove.new.self).0
          ∙ changed_there c.args.resource (outside c.args.extent) es c.args.self.now c.in-Some.places.now c.remove.new.self c.self.view_is
          found c.remove.ensures.outside;
    }
