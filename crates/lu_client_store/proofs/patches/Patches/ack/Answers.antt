-- An object's patch is answered in its place; where there is none, nothing changes.
use Rattle.std.proofs.Common.{◌≡◌, Some, None, ap, sym, ◌∙◌, arith}
use Rattle.lu_spec_client.specs.Patches.{acked}
use Rattle.lu_cache.proofs.Tables.{Found}
use Rattle.lu_client_store.proofs.Changed.{none_changed, changed_there}
use Rattle.lu_client_store.proofs.Counted.{few_there, total_there}
use Rattle.lu_client_store.proofs.patches.Patches.ack.Goals as goal

pub returns-in_default : goal.returns-in_default
returns-in_default c =
    let es = c.self.inside.objects.entries in
    let none : Found c.args.resource es ≡ None = sym c.in_default.ensures.value in
    record {
      acked = ap (λ m. m.entries) c.get_mut.follows.holds-at-none
          ∙ none_changed c.args.resource acked es c.args.self.now c.self.view_is none;
    }

pub returns : goal.returns
returns c =
    let es = c.self.inside.objects.entries in
    let found : Found c.args.resource es ≡ Some c.in-Some.object.now = sym c.in-Some.ensures.value in
    record {
      acked = (c.get_mut.follows.holds c.ack_flush.new.self).0
          ∙ changed_there c.args.resource acked es c.args.self.now c.in-Some.object.now c.ack_flush.new.self c.self.view_is found
          c.ack_flush.ensures.acked;
    }

-- ---- the total

pub recounted-self-inside-requires-clause-few : goal.recounted-self-inside-requires-clause-few
recounted-self-inside-requires-clause-few c =
    few_there c.args.resource c.self.inside.objects.entries (c.get_mut.follows.lender c.ack_flush.new.self).entries c.in-Some.object.now
    c.ack_flush.new.self c.count-left.result
    (c.get_mut.follows.holds c.ack_flush.new.self).0 (sym c.in-Some.ensures.value) c.count-left.ensures.count
    (omega (arith, c.count-left.type_inv)) c.self.invariant.few

pub recounted-self-inside-requires-clause-changed : goal.recounted-self-inside-requires-clause-changed
recounted-self-inside-requires-clause-changed c =
    total_there c.args.resource c.self.inside.objects.entries (c.get_mut.follows.lender c.ack_flush.new.self).entries c.in-Some.object.now
    c.ack_flush.new.self c.self.inside.total c.count-unanswered.result c.count-left.result
    (c.get_mut.follows.holds c.ack_flush.new.self).0 (sym c.in-Some.ensures.value) c.count-unanswered.ensures.count
    c.count-left.ensures.count c.self.invariant.all

pub invariant_of-self-2 : goal.invariant_of-self-2
invariant_of-self-2 c =
    record {
      few =
          few_there c.args.resource c.self.inside.objects.entries (c.get_mut.follows.lender c.ack_flush.new.self).entries
          c.in-Some.object.now c.ack_flush.new.self c.count-left.result
          (c.get_mut.follows.holds c.ack_flush.new.self).0 (sym c.in-Some.ensures.value) c.count-left.ensures.count
          (omega (arith, c.count-left.type_inv)) c.self.invariant.few;
      all = c.recounted-self-inside.ensures.counted;
    }
