use Rattle.std.proofs.Common.{◌≡◌, ℤ, Some, w32, SFits, rules, subst}
use Rattle.std.specs.Prelude.{IsTrue, ◌↔◌}
use Rattle.std.specs.Option.{option_map}
use Rattle.std.proofs.lemmas.Int.{to_z-of_z}
use Rattle.lu_msg.specs.declared.calls.Call.TheVariants as call
use Rattle.lu_msg.specs.declared.operations.Op.TheVariants as op
use Rattle.lu_spec_laws.specs.Words.Calls.{operation_on}
use Rattle.lu_judge_calls.specs.Tables.{binding_of}
use Rattle.lu_judge_calls.proofs.Asking.{create_asks}
use Rattle.lu_judge_calls.proofs.operations.asks_for.Goals as goal

pub returns-then-same_path : goal.returns-then-same_path
returns-then-same_path c =
    let m = c.in-Create-Create in
    let bound = option_map binding_of c.args.begun.now.bound in
    let fits : SFits w32 m.count = search rules in
    record {
      asks =
          rw (m.is-0, m.is-1)
          (subst (λ (z : ℤ). IsTrue c.are_stripes.result ↔ (operation_on (call.Create m.path m.stripes) bound
          ≡ Some (op.Create m.other m.size z)))
          (to_z-of_z w32 m.count fits)
          (create_asks _ _ _ _ _ _ _ (c.same_path.ensures.same.0 c.if-same_path.true) c.are_stripes.ensures.same));
    }
