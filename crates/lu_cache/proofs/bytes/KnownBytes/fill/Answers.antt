-- What was known of the object is laid over; an object of which nothing was known comes last.
use Rattle.std.proofs.Common.{◌≡◌, [], Some, None, ap, sym, ◌∙◌}
use Rattle.std.specs.Map.{lookup}
use Rattle.std.proofs.lemmas.Result.{on_ok_weaker, on_err_weaker}
use Rattle.indexmap.specs.IndexMap.{insert_entry}
use Rattle.lu_spec_machine.specs.Places.{laid}
use Rattle.lu_cache.specs.Kept.{equal_resource}
use Rattle.lu_cache.proofs.Tables.{Found, filled_there, filled_new, kept_there}
use Rattle.lu_cache.proofs.bytes.KnownBytes.fill.Goals as goal

pub returns-in-Some : goal.returns-in-Some
returns-in-Some c =
    let r = c.args.resource in
    let es = c.self.inside.objects.entries in
    let found : Found r es ≡ Some c.in-Some.places.now = sym c.in-Some.ensures.value in
    record {
      filled = on_ok_weaker c.lay.result (λ (put : c.lay.new.self ≡ laid c.args.at c.args.from.now c.in-Some.places.now).
          (c.get_mut.follows.holds c.lay.new.self).0 ∙ filled_there r c.args.at c.args.from.now es c.args.self.now c.in-Some.places.now
          c.lay.new.self c.self.view_is found put) c.lay.ensures.laid;
      kept = on_err_weaker c.lay.result (λ (same : c.lay.new.self ≡ c.in-Some.places.now). (c.get_mut.follows.holds c.lay.new.self).0
          ∙ kept_there r es c.args.self.now c.in-Some.places.now c.lay.new.self c.self.view_is found same) c.lay.ensures.kept;
    }

pub returns-clause-filled : goal.returns-clause-filled
returns-clause-filled c =
    let r = c.args.resource in
    let es = c.self.inside.objects.entries in
    let none : Found r es ≡ None = sym c.in_default.ensures.value in
    let put : c.lay-2.new.self ≡ laid c.args.at c.args.from.now [] = c.in_ok-lay.ensures.laid
    ∙ ap (laid c.args.at c.args.from.now) c.new-places.ensures.empty in
    c.in_ok-insert.ensures.entries ∙ ap (λ m. insert_entry equal_resource m.entries r c.lay-2.new.self) c.get_mut.follows.holds-at-none
    ∙ filled_new r c.args.at c.args.from.now es c.args.self.now c.lay-2.new.self c.self.view_is none put
