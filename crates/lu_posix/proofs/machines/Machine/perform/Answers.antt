-- The names answer as the plain machine's do, and a file that was made has its layout noted.
use Rattle.std.proofs.Common.{◌≡◌, List, Option, sym, ap, subst, ◌∙◌}
use Rattle.std.specs.Map.{lookup}
use Rattle.lu_base.specs.declared.ids.Fid.{Fid}
use Rattle.lu_base.specs.declared.locks.Resource.{Resource}
use Rattle.lu_layout.specs.Raid0.{Raid0}
use Rattle.lu_spec_machine.specs.Machine.{as_told}
use Rattle.lu_spec_machine.specs.Objects.{Object}
use Rattle.lu_spec_machine.specs.Tree.{same_fid}
use Rattle.lu_posix.specs.Names.{NamesState, asked, made_layout}
use Rattle.lu_posix.specs.Shown.{MachineState, Shows, ShowsObjects}
use Rattle.lu_posix.proofs.FileLayouts.{noted}
use Rattle.lu_posix.proofs.SameNames.{told_same}
use Rattle.lu_posix.proofs.Showing.{names_step}
use Rattle.lu_posix.proofs.machines.Machine.perform.Goals as goal
use Rattle.lu_posix.proofs.machines.Machine.perform.Goals.{in-Some+in_ok-add, in_default}

same_objects : (c : goal.After-told) → c.match-made.self.objects ≡ c.self.inside.objects
same_objects c = elim c.match-made.branch [
  | in-Some+in_ok-add w ↦ ap (λ (s : MachineState). s.objects) w.self-is
  | in_default w ↦ ap (λ (s : MachineState). s.objects) w.self-is
]

same_names : (c : goal.After-told) → c.match-made.self.names ≡ c.perform.new.self
same_names c = elim c.match-made.branch [
  | in-Some+in_ok-add w ↦ ap (λ (s : MachineState). s.names) w.self-is
  | in_default w ↦ ap (λ (s : MachineState). s.names) w.self-is
]

noted_layouts : (c : goal.After-told) (f : Fid) → lookup (same_fid f) c.match-made.self.layouts
    ≡ noted c.made.result c.args.number f (lookup (same_fid f) c.self.inside.layouts)
noted_layouts c f = elim c.match-made.branch [
  | in-Some+in_ok-add w ↦
      ap (λ (s : MachineState). lookup (same_fid f) s.layouts) w.self-is ∙ w.in_ok-add.ensures.added f
      ∙ sym (ap (λ (o : Option Raid0). noted o c.args.number f (lookup (same_fid f) c.self.inside.layouts)) w.in-Some.is)
  | in_default w ↦
      ap (λ (s : MachineState). lookup (same_fid f) s.layouts) w.self-is
      ∙ sym (ap (λ (o : Option Raid0). noted o c.args.number f (lookup (same_fid f) c.self.inside.layouts)) w.in_default.is)
]

pub returns-clause-answer : goal.returns-clause-answer
returns-clause-answer c = λ osts m shown.
    let before = subst (λ (s : MachineState). Shows osts s m) (sym c.self.view_is) shown in
    let objects = subst (λ (os : List (Resource × Object)). ShowsObjects os m) (sym (same_objects c)) before.objects in
    c.told.ensures.told m objects ∙ ap (as_told m) c.in_ok-answer.ensures.answer
    ∙ told_same osts c.self.inside.names m before.names (asked c.args.number c.args.who c.args.op.now)

pub returns-clause-next : goal.returns-clause-next
returns-clause-next c = λ osts m shown.
    let before = subst (λ (s : MachineState). Shows osts s m) (sym c.self.view_is) shown in
    let a = asked c.args.number c.args.who c.args.op.now in
    names_step osts _ m before c.match-made.self a c.in_ok-answer.answer c.made.result c.in_ok-answer.ensures.answer
    (c.made.ensures.made ∙ ap (λ (n : NamesState). made_layout n.osts c.args.number c.args.op.now c.in_ok-answer.answer)
    (sym (same_names c)))
    (same_names c ∙ c.in_ok-answer.ensures.after)
    (noted_layouts c)
    (same_objects c)
