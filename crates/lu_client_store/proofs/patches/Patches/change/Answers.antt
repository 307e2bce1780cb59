-- An object's patch is changed in its place; that of an object that wasn't changed comes last.
use Rattle.std.proofs.Common.{◌≡◌, Some, None, ap, sym, ◌∙◌, arith}
use Rattle.std.proofs.lemmas.Result.{on_ok_weaker, on_err_weaker}
use Rattle.indexmap.specs.IndexMap.{insert_entry}
use Rattle.lu_spec_client.specs.Patches.{clean}
use Rattle.lu_spec_client.specs.Caches.{made}
use Rattle.lu_cache.specs.Kept.{equal_resource}
use Rattle.lu_cache.proofs.Tables.{Found, kept_there}
use Rattle.lu_client_store.proofs.Changed.{made_there, made_new}
use Rattle.lu_client_store.proofs.Counted.{few_there, few_new, total_there, total_new}
use Rattle.lu_client_store.proofs.patches.Patches.change.Goals as goal

pub returns-in-Some-clause-changed : goal.returns-in-Some-clause-changed
returns-in-Some-clause-changed c =
    let es = c.self.inside.objects.entries in
    let found : Found c.args.resource es ≡ Some c.in-Some.object.now = sym c.in-Some.ensures.value in
    on_ok_weaker c.change-made.result (λ (put : c.change-made.new.self ≡ made c.args.change.now c.in-Some.object.now).
    (c.get_mut.follows.holds c.change-made.new.self).0 ∙ made_there c.args.resource (made c.args.change.now) es c.args.self.now
    c.in-Some.object.now c.change-made.new.self c.self.view_is found put) c.change-made.ensures.made

pub returns-in-Some-clause-kept : goal.returns-in-Some-clause-kept
returns-in-Some-clause-kept c =
    let es = c.self.inside.objects.entries in
    let found : Found c.args.resource es ≡ Some c.in-Some.object.now = sym c.in-Some.ensures.value in
    on_err_weaker c.change-made.result (λ (same : c.change-made.new.self ≡ c.in-Some.object.now).
    (c.get_mut.follows.holds c.change-made.new.self).0 ∙ kept_there c.args.resource es c.args.self.now c.in-Some.object.now
    c.change-made.new.self c.self.view_is found same) c.change-made.ensures.kept

pub returns-clause-changed : goal.returns-clause-changed
returns-clause-changed c =
    let es = c.self.inside.objects.entries in
    let none : Found c.args.resource es ≡ None = sym c.in_default.ensures.value in
    let put : c.change.new.self ≡ made c.args.change.now clean = c.in_ok-change.ensures.made
    ∙ ap (made c.args.change.now) c.new-object.ensures.clean in
    c.in_ok-insert.ensures.entries ∙ ap (λ m. insert_entry equal_resource m.entries c.args.resource c.change.new.self)
    c.get_mut.follows.holds-at-none ∙ made_new c.args.resource (made c.args.change.now) es c.args.self.now c.change.new.self
    c.self.view_is none put

-- ---- the total

pub recounted-self-inside-requires-clause-few : goal.recounted-self-inside-requires-clause-few
recounted-self-inside-requires-clause-few c =
    few_there c.args.resource c.self.inside.objects.entries (c.get_mut.follows.lender c.change-made.new.self).entries c.in-Some.object.now
    c.change-made.new.self c.count-after.result
    (c.get_mut.follows.holds c.change-made.new.self).0 (sym c.in-Some.ensures.value) c.count-after.ensures.count
    (omega (arith, c.count-after.type_inv)) c.self.invariant.few

pub recounted-self-inside-requires-clause-changed : goal.recounted-self-inside-requires-clause-changed
recounted-self-inside-requires-clause-changed c =
    total_there c.args.resource c.self.inside.objects.entries (c.get_mut.follows.lender c.change-made.new.self).entries c.in-Some.object.now
    c.change-made.new.self c.self.inside.total c.count-before.result c.count-after.result
    (c.get_mut.follows.holds c.change-made.new.self).0 (sym c.in-Some.ensures.value) c.count-before.ensures.count
    c.count-after.ensures.count c.self.invariant.all

pub invariant_of-self : goal.invariant_of-self
invariant_of-self c =
    record {
      few =
          few_there c.args.resource c.self.inside.objects.entries (c.get_mut.follows.lender c.change-made.new.self).entries
          c.in-Some.object.now c.change-made.new.self c.count-after.result
          (c.get_mut.follows.holds c.change-made.new.self).0 (sym c.in-Some.ensures.value) c.count-after.ensures.count
          (omega (arith, c.count-after.type_inv)) c.self.invariant.few;
      all = c.recounted-self-inside.ensures.counted;
    }

pub recounted-self-inside-requires-2-clause-few : goal.recounted-self-inside-requires-2-clause-few
recounted-self-inside-requires-2-clause-few c =
    let put : c.insert.new.self.entries ≡ insert_entry equal_resource c.self.inside.objects.entries c.args.resource c.change.new.self =
    c.in_ok-insert.ensures.entries ∙ ap (λ m. insert_entry equal_resource m.entries c.args.resource c.change.new.self)
    c.get_mut.follows.holds-at-none in
    few_new c.args.resource c.self.inside.objects.entries c.insert.new.self.entries c.change.new.self c.count-count.result put
    c.count-count.ensures.count (omega (arith, c.count-count.type_inv)) c.self.invariant.few

pub recounted-self-inside-requires-2-clause-changed : goal.recounted-self-inside-requires-2-clause-changed
recounted-self-inside-requires-2-clause-changed c =
    let put : c.insert.new.self.entries ≡ insert_entry equal_resource c.self.inside.objects.entries c.args.resource c.change.new.self =
    c.in_ok-insert.ensures.entries ∙ ap (λ m. insert_entry equal_resource m.entries c.args.resource c.change.new.self)
    c.get_mut.follows.holds-at-none in
    total_new c.args.resource c.self.inside.objects.entries c.insert.new.self.entries c.change.new.self c.self.inside.total
    c.count-count.result put (sym c.in_default.ensures.value) c.count-count.ensures.count c.self.invariant.all

pub invariant_of-self-2 : goal.invariant_of-self-2
invariant_of-self-2 c =
    let put : c.insert.new.self.entries ≡ insert_entry equal_resource c.self.inside.objects.entries c.args.resource c.change.new.self =
    c.in_ok-insert.ensures.entries ∙ ap (λ m. insert_entry equal_resource m.entries c.args.resource c.change.new.self)
    c.get_mut.follows.holds-at-none in
    record {
      few = few_new c.args.resource c.self.inside.objects.entries c.insert.new.self.entries c.change.new.self c.count-count.result put
          c.count-count.ensures.count (omega (arith, c.count-count.type_inv)) c.self.invariant.few;
      all = c.recounted-self-inside-2.ensures.counted;
    }
