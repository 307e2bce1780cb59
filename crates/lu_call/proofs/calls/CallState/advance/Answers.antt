use Rattle.std.proofs.Common.{◌≡◌, ◌∙◌, refl, sym, ap, List, Option}
use Rattle.lu_base.specs.declared.ids.At.{At}
use Rattle.lu_msg.specs.declared.calls.Call.{Call}
use Rattle.lu_held.specs.declared.names.LockName.{LockName}
use Rattle.lu_spec_entries.specs.Carried.{Looks, Came, Sizes, Flushing, Plain, Running}
use Rattle.lu_spec_client.specs.Advances.{at_stage}
use Rattle.lu_call.specs.declared.works.HandleFile.{HandleFile}
use Rattle.lu_call.specs.declared.calls.Asking.{Asking}
use Rattle.lu_call.specs.declared.calls.Stage.{Stage as DeclaredStage}
use Rattle.lu_call.specs.declared.calls.Stage.TheVariants as declared
use Rattle.lu_call.specs.Views.{work_of, stage_of, running_of}
use Rattle.lu_call.proofs.Beginning.{if_ok}
use Rattle.lu_call.proofs.Onward.{advances_looking, advances_with_lock, advances_sizing, advances_flushing}
use Rattle.lu_call.proofs.calls.CallState.advance.Goals as goal

-- the stage that was taken out, and the call without it
staged : {alike now : Running} {was stage : DeclaredStage} → alike ≡ now → was ≡ stage → alike.stage ≡ stage_of stage → now.stage
    ≡ stage_of was
staged same is whole = sym (ap (λ (r : Running). r.stage) same) ∙ whole ∙ ap (λ (it : DeclaredStage). stage_of it) (sym is)

taken_out : (at : At) (call : Call) (file : Option HandleFile) (asking : Asking) (pins : List LockName) (old left : DeclaredStage)
    {now : Running} → left ≡ declared.Plain → running_of at call file asking old pins ≡ now → running_of at call file asking left pins
    ≡ at_stage now Plain
taken_out at call file asking pins old left left_is view_is = ap (λ (it : DeclaredStage). running_of at call file asking it pins) left_is
    ∙ ap (λ (r : Running). at_stage r Plain) view_is

pub returns-in-Looks : goal.returns-in-Looks
returns-in-Looks c =
    let stage : c.args.self.now.stage ≡ Looks (work_of c.in-Looks.work) = staged c.self.view_is c.in-Looks.ensures.value refl in
    record {
      goes = if_ok c.go_looking.result _ _ c.go_looking.ensures.goes
          (λ out goes slot. advances_looking c.args.at slot c.args.self.now
          (running_of c.self.inside.at c.self.inside.call c.self.inside.file c.self.inside.asking c.replace.new.dest
          c.self.inside.pins.items) (work_of c.in-Looks.work) stage
          (taken_out c.self.inside.at c.self.inside.call c.self.inside.file c.self.inside.asking c.self.inside.pins.items
          c.self.inside.stage c.replace.new.dest c.replace.ensures.after c.self.view_is) (goes slot));
    }

pub returns-in-Came : goal.returns-in-Came
returns-in-Came c =
    let stage : c.args.self.now.stage ≡ Came (work_of c.in-Came.work) c.in-Came.lock = staged c.self.view_is c.in-Came.ensures.value refl in
    record {
      goes = if_ok c.go_with_lock.result _ _ c.go_with_lock.ensures.goes
          (λ out goes slot. advances_with_lock c.args.at slot c.args.self.now
          (running_of c.self.inside.at c.self.inside.call c.self.inside.file c.self.inside.asking c.replace.new.dest
          c.self.inside.pins.items) (work_of c.in-Came.work) c.in-Came.lock stage
          (taken_out c.self.inside.at c.self.inside.call c.self.inside.file c.self.inside.asking c.self.inside.pins.items
          c.self.inside.stage c.replace.new.dest c.replace.ensures.after c.self.view_is) (goes slot));
    }

pub returns-in-Sizes : goal.returns-in-Sizes
returns-in-Sizes c =
    let stage : c.args.self.now.stage ≡ Sizes (work_of c.in-Sizes.work) = staged c.self.view_is c.in-Sizes.ensures.value refl in
    record {
      goes = if_ok c.go_sizing.result _ _ c.go_sizing.ensures.goes
          (λ out goes slot. advances_sizing c.args.at slot c.args.self.now
          (running_of c.self.inside.at c.self.inside.call c.self.inside.file c.self.inside.asking c.replace.new.dest
          c.self.inside.pins.items) (work_of c.in-Sizes.work) stage
          (taken_out c.self.inside.at c.self.inside.call c.self.inside.file c.self.inside.asking c.self.inside.pins.items
          c.self.inside.stage c.replace.new.dest c.replace.ensures.after c.self.view_is) (goes slot));
    }

pub returns-in-Flushing : goal.returns-in-Flushing
returns-in-Flushing c =
    let stage : c.args.self.now.stage ≡ Flushing c.in-Flushing.stripe = staged c.self.view_is c.in-Flushing.ensures.value refl in
    record {
      goes = if_ok c.go_flushing.result _ _ c.go_flushing.ensures.goes
          (λ out goes slot. advances_flushing c.args.at slot c.args.self.now
          (running_of c.self.inside.at c.self.inside.call c.self.inside.file c.self.inside.asking c.replace.new.dest
          c.self.inside.pins.items) c.in-Flushing.stripe stage
          (taken_out c.self.inside.at c.self.inside.call c.self.inside.file c.self.inside.asking c.self.inside.pins.items
          c.self.inside.stage c.replace.new.dest c.replace.ensures.after c.self.view_is) (goes slot));
    }
