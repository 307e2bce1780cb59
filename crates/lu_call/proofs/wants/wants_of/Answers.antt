use Rattle.std.proofs.Common.{sym, [], ◌∷◌}
use Rattle.std.proofs.lemmas.List.{append-nil}
use Rattle.lu_call.specs.Views.{kind_of}
use Rattle.lu_call.proofs.Wanted.{wants_step}
use Rattle.lu_call.proofs.wants.wants_of.Goals as goal
use Rattle.lu_call.proofs.wants.wants_of.Goals.{in-Some+in_ok-push_back, in_default}

pub loop-stripe-preserved : goal.loop-stripe-preserved
loop-stripe-preserved c =
    elim c.match-want_on.branch [
      | in-Some+in_ok-push_back w ↦
          rw w.wants-is (wants_step c.args.layout.now c.args.fid (kind_of c.args.kind.now) c.loop-stripe.stripe c.loop-stripe.wants.items
          (w.in-Some.wanted ∷ []) w.push_back.new.self.items c.loop-stripe.invariant w.in-Some.ensures.want
          w.in_ok-push_back.ensures.items)
      | in_default w ↦
          rw w.wants-is (wants_step c.args.layout.now c.args.fid (kind_of c.args.kind.now) c.loop-stripe.stripe c.loop-stripe.wants.items []
          c.loop-stripe.wants.items c.loop-stripe.invariant w.in_default.ensures.want (sym (append-nil c.loop-stripe.wants.items)))
    ]
