use Rattle.std.proofs.Common.{◌+◌, ◌%◌, ◌++◌, ◌∷◌, [], ◌∙◌, ap, sym, append_assoc, arith}
use Rattle.std.proofs.lemmas.Result.{on_ok_weaker}
use Rattle.lu_base.proofs.Octal.{octal_step}
use Rattle.lu_base.proofs.values.+put_octal.Goals as goal

pub returns : goal.returns
returns t c = record {
  put = on_ok_weaker c.push-2.result
      (λ last. last ∙ ap (λ w. w ++ (48 + c.args.number % 8) ∷ []) c.in_ok-put_octal.ensures.put
      ∙ append_assoc c.args.out.now _ _
      ∙ ap (λ w. c.args.out.now ++ w) (sym (octal_step c.args.number (omega arith) (omega arith))))
      c.push-2.ensures.added;
}
