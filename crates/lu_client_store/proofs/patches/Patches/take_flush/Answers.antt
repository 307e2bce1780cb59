-- An object's next write-back is that of its patch, which is changed in its place.
use Rattle.std.proofs.Common.{◌≡◌, Some, ap, sym, ◌∙◌, arith}
use Rattle.std.proofs.lemmas.Result.{IfOk-weaker, on_err_weaker}
use Rattle.lu_spec_client.specs.Patches.{next_flush, in_flight}
use Rattle.lu_spec_client.specs.Caches.{patch_at}
use Rattle.lu_cache.proofs.Tables.{Found, kept_there}
use Rattle.lu_client_store.proofs.Changed.{patch_found, sent_there, none_next, none_clean}
use Rattle.lu_client_store.proofs.Counted.{few_there, total_there}
use Rattle.lu_client_store.proofs.patches.Patches.take_flush.Goals as goal

pub returns-then-within-clause-flush : goal.returns-then-within-clause-flush
returns-then-within-clause-flush c = none_next c.args.within (patch_at c.args.resource c.args.self.now) (omega (arith, c.well_formed))
    c.if-within.true

pub returns-in_default-clause-flush : goal.returns-in_default-clause-flush
returns-in_default-clause-flush c = none_clean c.args.within c.args.resource c.self.inside.objects.entries c.args.self.now c.self.view_is
    (sym c.in_default.ensures.value)

pub take_flush-flush-requires-clause-rests : goal.take_flush-flush-requires-clause-rests
take_flush-flush-requires-clause-rests c = ap in_flight (sym (patch_found c.args.resource c.self.inside.objects.entries c.args.self.now
    c.in-Some.object.now c.self.view_is (sym c.in-Some.ensures.value))) ∙ c.requires.rests

pub returns-clause-flush : goal.returns-clause-flush
returns-clause-flush c =
    let there : patch_at c.args.resource c.args.self.now ≡ c.in-Some.object.now =
    patch_found c.args.resource c.self.inside.objects.entries c.args.self.now c.in-Some.object.now c.self.view_is
    (sym c.in-Some.ensures.value) in
    IfOk-weaker c.take_flush-flush.result _ _ (λ flush is. is ∙ ap (next_flush c.args.within) (sym there)) c.take_flush-flush.ensures.flush

pub returns-clause-sent : goal.returns-clause-sent
returns-clause-sent c =
    let es = c.self.inside.objects.entries in
    let found : Found c.args.resource es ≡ Some c.in-Some.object.now = sym c.in-Some.ensures.value in
    IfOk-weaker c.take_flush-flush.result _ _ (λ flush is. (c.get_mut.follows.holds c.take_flush-flush.new.self).0
    ∙ sent_there c.args.resource flush es c.args.self.now c.in-Some.object.now c.take_flush-flush.new.self c.self.view_is found is)
    c.take_flush-flush.ensures.taken

pub returns-clause-kept : goal.returns-clause-kept
returns-clause-kept c =
    let es = c.self.inside.objects.entries in
    let found : Found c.args.resource es ≡ Some c.in-Some.object.now = sym c.in-Some.ensures.value in
    on_err_weaker c.take_flush-flush.result (λ (same : c.take_flush-flush.new.self ≡ c.in-Some.object.now).
    (c.get_mut.follows.holds c.take_flush-flush.new.self).0
    ∙ kept_there c.args.resource es c.args.self.now c.in-Some.object.now c.take_flush-flush.new.self c.self.view_is found same)
    c.take_flush-flush.ensures.kept

-- ---- the total

pub recounted-self-inside-requires-clause-few : goal.recounted-self-inside-requires-clause-few
recounted-self-inside-requires-clause-few c =
    few_there c.args.resource c.self.inside.objects.entries (c.get_mut.follows.lender c.take_flush-flush.new.self).entries
    c.in-Some.object.now c.take_flush-flush.new.self c.count-after.result
    (c.get_mut.follows.holds c.take_flush-flush.new.self).0 (sym c.in-Some.ensures.value) c.count-after.ensures.count
    (omega (arith, c.count-after.type_inv)) c.self.invariant.few

pub recounted-self-inside-requires-clause-changed : goal.recounted-self-inside-requires-clause-changed
recounted-self-inside-requires-clause-changed c =
    total_there c.args.resource c.self.inside.objects.entries (c.get_mut.follows.lender c.take_flush-flush.new.self).entries
    c.in-Some.object.now c.take_flush-flush.new.self c.self.inside.total c.count-before.result c.count-after.result
    (c.get_mut.follows.holds c.take_flush-flush.new.self).0 (sym c.in-Some.ensures.value) c.count-before.ensures.count
    c.count-after.ensures.count c.self.invariant.all

pub invariant_of-self-2 : goal.invariant_of-self-2
invariant_of-self-2 c =
    record {
      few =
          few_there c.args.resource c.self.inside.objects.entries (c.get_mut.follows.lender c.take_flush-flush.new.self).entries
          c.in-Some.object.now c.take_flush-flush.new.self c.count-after.result
          (c.get_mut.follows.holds c.take_flush-flush.new.self).0 (sym c.in-Some.ensures.value) c.count-after.ensures.count
          (omega (arith, c.count-after.type_inv)) c.self.invariant.few;
      all = c.recounted-self-inside.ensures.counted;
    }
