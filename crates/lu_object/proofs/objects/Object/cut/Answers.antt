use Rattle.std.proofs.Common.{◌≡◌, ℕ, ◌<◌, ◌-◌, ◌∙◌, sym, ap, refl, subst, not, true, false, arith, rules}
use Rattle.std.specs.Prelude.{is_some}
use Rattle.lu_spec_machine.specs.Places.{below, found_at, RisingFrom}
use Rattle.lu_spec_machine.specs.Objects.{cut_bytes}
use Rattle.lu_spec_machine.proofs.Objects.{object_cuts}
use Rattle.lu_object.proofs.Cuts.{cut_where_some, cut_where_none, below_zero}
use Rattle.lu_object.proofs.objects.Object.cut.Goals as goal
use Rattle.lu_object.proofs.objects.Object.cut.Goals.{then-n-gt0+then-is_none+in_ok-lay, else-n-gt0, else-n-gt0-via-then-n-gt0+else-is_none}
use Rattle.lu_object.proofs.objects.Object.cut.Goals.{else-n-gt0-via-else-n-gt0}

cut_inside : (c : goal.After-keep_below) → below c.args.n c.if-n-gt0.self-inside.bytes ≡ cut_bytes c.args.n c.self.inside.bytes
cut_inside c =
    elim c.if-n-gt0.branch [
      | then-n-gt0+then-is_none+in_ok-lay w ↦
          ap (λ inside. below c.args.n inside.bytes) w.self-inside-is
          ∙ ap (below c.args.n) (w.in_ok-lay.ensures.laid)
          ∙ cut_where_none c.args.n c.self.inside.bytes w.if-n-gt0.true c.self.invariant
          (ap is_some (sym w.at.ensures.found) ∙ w.is_none.ensures ∙ ap not w.if-is_none.true)
      | else-n-gt0 w ↦
          ap (λ inside. below c.args.n inside.bytes) w.self-inside-is
          ∙ (elim w.else-n-gt0.branch [
            | else-n-gt0-via-then-n-gt0+else-is_none v ↦
                cut_where_some c.args.n c.self.inside.bytes v.if-n-gt0.true c.self.invariant
                (ap is_some (sym v.at.ensures.found) ∙ v.is_none.ensures ∙ ap not v.if-is_none.false)
            | else-n-gt0-via-else-n-gt0 v ↦
                let nothing : c.args.n ≡ 0 = omega (arith, v.if-n-gt0.false) in
                subst (λ n. below n c.self.inside.bytes ≡ cut_bytes n c.self.inside.bytes) (sym nothing) (below_zero c.self.inside.bytes)
          ])
    ]

pub invariant_of-self-2 : goal.invariant_of-self-2
invariant_of-self-2 c = subst (λ m. RisingFrom 0 m) (sym (c.keep_below.ensures.below ∙ cut_inside c))
    ((object_cuts c.args.n c.self.inside.bytes).rises c.self.invariant)

pub returns-clause-cut : goal.returns-clause-cut
returns-clause-cut c = c.keep_below.ensures.below ∙ cut_inside c ∙ ap (cut_bytes c.args.n) c.self.view_is
