-- The lock goes first, and its name stays where it stands.
use Rattle.std.proofs.Common.{◌∙◌, ap, subst, sym}
use Rattle.std.specs.Prelude.{vec_capacity}
use Rattle.std.specs.Map.{values_of}
use Rattle.lu_held.specs.Held.{used}
use Rattle.lu_held.specs.Kept.{IsIndexed}
use Rattle.lu_held.proofs.Indexes.{indexed_used}
use Rattle.lu_held.proofs.Keeping.{the_state, kept_promoted, values_promoted}
use Rattle.lu_held.proofs.held.Held.use_now.Goals as goal

pub invariant_of-self : goal.invariant_of-self
invariant_of-self c =
    let names = c.self.inside.names.keys in
    let entries = c.self.inside.uses.entries in
    let marked = c.self.inside.marked.items in
    let space = vec_capacity c.self.inside.marked in
    let indexed : IsIndexed (used c.args.name (values_of entries)) marked space c.self.inside.free =
    indexed_used c.args.name (values_of entries) marked space c.self.inside.free c.self.invariant.kept.sound c.self.invariant.indexed in
    record {
      kept = rw c.promote.ensures.entries (kept_promoted names c.args.name entries c.self.invariant.kept);
      room = rw c.promote.ensures.entries c.self.invariant.room;
      indexed = rw c.promote.ensures.entries (subst (λ locks. IsIndexed locks marked space c.self.inside.free)
          (sym (values_promoted names c.args.name entries c.self.invariant.kept)) indexed);
    }

pub returns-clause-used : goal.returns-clause-used
returns-clause-used c =
    rw c.promote.ensures.entries (ap (λ locks. the_state c.self.inside.unused locks)
    (values_promoted c.self.inside.names.keys c.args.name c.self.inside.uses.entries c.self.invariant.kept)
    ∙ ap (λ state. the_state state.unused (used c.args.name state.locks)) c.self.view_is)

pub returns-clause-sound : goal.returns-clause-sound
returns-clause-sound c = (invariant_of-self c).kept.sound
