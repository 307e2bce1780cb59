use Rattle.std.proofs.Common.{◌≡◌, ◌∙◌, sym, ap}
use Rattle.lu_spec_entries.specs.Carried.{Answered, Sizes, Running}
use Rattle.lu_call.specs.declared.calls.Asking.{Asking as DeclaredAsking}
use Rattle.lu_call.specs.Views.{work_of, asking_of}
use Rattle.lu_spec_client.specs.Advances.{at_stage}
use Rattle.lu_call.proofs.Going.{goes_from}
use Rattle.lu_call.proofs.Beginning.{if_ok, from_as}
use Rattle.lu_call.proofs.Onward.{hears_size, hears_lock, hears_nothing, stays}
use Rattle.lu_call.proofs.calls.CallState.go_sizing.Goals as goal

pub returns-in-Size : goal.returns-in-Size
returns-in-Size c =
    let heard : c.args.self.now.asking ≡ Answered c.in-Answered.target.0 c.in-Answered.reply =
    sym (ap (λ (r : Running). r.asking) c.self.view_is) ∙ ap (λ (it : DeclaredAsking). asking_of it) c.in-Answered.is in
    record {
      goes = if_ok c.go_with_size.result _ _ c.go_with_size.ensures.goes
          (λ out goes slot. from_as (hears_size c.args.at slot c.args.self.now.asking c.in-Answered.target.0 c.in-Answered.reply
          c.in-Size.size c.args.self.now (work_of c.args.work) c.args.store.now.store heard c.in-Size.is c.requires.sizing.kind)
          (goes_from (at_stage c.args.self.now (Sizes (work_of c.args.work))) (goes slot)));
    }

pub returns-in-Lock : goal.returns-in-Lock
returns-in-Lock c =
    let heard : c.args.self.now.asking ≡ Answered c.in-Answered.target.0 c.in-Answered.reply =
    sym (ap (λ (r : Running). r.asking) c.self.view_is) ∙ ap (λ (it : DeclaredAsking). asking_of it) c.in-Answered.is in
    record {
      goes = if_ok c.go_looking.result _ _ c.go_looking.ensures.goes
          (λ out goes slot. from_as (hears_lock c.args.at slot c.args.self.now.asking c.in-Answered.target.0 c.in-Answered.reply
          c.args.self.now (work_of c.args.work) c.args.store.now.store heard c.in-Lock.is c.requires.sizing.kind)
          (goes_from (at_stage c.args.self.now (Sizes (work_of c.args.work))) (goes slot)));
    }

pub returns-in_default-answer : goal.returns-in_default-answer
returns-in_default-answer c =
    let heard : c.args.self.now.asking ≡ Answered c.in-Answered.target.0 c.in-Answered.reply =
    sym (ap (λ (r : Running). r.asking) c.self.view_is) ∙ ap (λ (it : DeclaredAsking). asking_of it) c.in-Answered.is in
    record {
      goes = λ slot. from_as (hears_nothing c.args.at slot c.args.self.now.asking c.in-Answered.target.0 c.in-Answered.reply c.args.self.now
          (work_of c.args.work) c.args.store.now.store heard c.in_default-answer.not-Size c.in_default-answer.not-Lock
          c.requires.sizing.kind)
          (stays slot (at_stage c.args.self.now (Sizes (work_of c.args.work))) _ c.args.store.now
          (ap (λ (r : Running). at_stage r (Sizes (work_of c.args.work))) (sym c.self.view_is)));
    }
