use Rattle.std.proofs.Common.{◌<◌, List, [], length, Some, sym, ap, subst, ◌∙◌}
use Rattle.std.proofs.lemmas.Result.{on_ok_weaker}
use Rattle.lu_held.specs.Locks.{named}
use Rattle.lu_spec_client.specs.Imports.{Import}
use Rattle.lu_spec_client.specs.Messages.{lock_granted, on_slot}
use Rattle.lu_client.specs.Callbacks.{IsGranted, IsUnmet}
use Rattle.lu_client.specs.Clients.{ClientState, Makes}
use Rattle.lu_client.proofs.Granting.{grant_made, still_absent, waits_inside}
use Rattle.lu_client.proofs.Making.{makes_as, makes_nothing}
use Rattle.lu_client.proofs.client.Client.grant_to.Goals as goal

pub go_with_lock-requires : goal.go_with_lock-requires
go_with_lock-requires c = record {
  slot = waits_inside (named c.args.target c.args.grant.now.cookie) c.args.slot
      c.args.self.now.client.calls c.requires.waits;
}

pub returns-in_default : goal.returns-in_default
returns-in_default c =
    let unmet : IsUnmet c.args.target.0 c.args.grant.now c.args.slot c.args.self.now c.go_with_lock.new.self =
    c.in_default.ensures.goes c.args.target.0 in
    record {
      makes = subst (λ (s : ClientState). Makes (λ k. on_slot (lock_granted c.args.target.0 c.args.grant.now) (Some c.args.slot) k)
          c.args.self.now s c.args.turn.now c.args.turn.now) (sym unmet.stays)
          (makes_as (sym unmet.row) (makes_nothing c.args.self.now c.args.turn.now));
    }

pub hold_granted-requires-clause-absent : goal.hold_granted-requires-clause-absent
hold_granted-requires-clause-absent c =
    still_absent c.args.target.0 c.args.slot c.args.grant.now c.args.self.now c.go_with_lock.new.self c.in-Some.came
    (c.in-Some.ensures.goes c.args.target.0) c.requires.waits c.requires.absent

pub note_granted-requires : goal.note_granted-requires
note_granted-requires c =
    let goes : IsGranted c.args.target.0 c.args.grant.now c.args.slot c.args.self.now c.go_with_lock.new.self c.in-Some.came =
    c.in-Some.ensures.goes c.args.target.0 in
    record {
      target = subst (λ (is : List Import). c.args.target.0 < length is)
          (sym (ap (λ (s : ClientState). s.client.imports) (c.in_ok-hold_granted.ensures.held [])
          ∙ ap (λ (s : ClientState). s.client.imports) goes.shows))
          c.requires.target;
    }

pub returns : goal.returns
returns c =
    record {
      makes = on_ok_weaker c.note_granted.result
          (λ noted. grant_made c.args.target.0 c.args.slot c.args.grant.now c.args.self.now c.go_with_lock.new.self c.hold_granted.new.self
          c.note_granted.new.self c.in-Some.came c.args.turn.now c.hold_granted.new.turn (c.in-Some.ensures.goes c.args.target.0)
          (c.in_ok-hold_granted.ensures.held c.args.grant.now.seen)
          (noted c.in-Some.came.lock c.in-Some.came.marked (Some c.args.grant.now.size)) c.in_ok-hold_granted.ensures.line
          c.in_ok-hold_granted.ensures.turn)
          c.note_granted.ensures.noted;
    }
