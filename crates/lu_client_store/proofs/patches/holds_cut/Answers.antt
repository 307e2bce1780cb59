-- Each answer on the way is a case of the pending cut and the range.
use Rattle.std.proofs.Common.{◌≡◌, ◌-◌, ◌^◌, ◌<◌, ◌≤◌, ℕ, true, not, Option, is_some, ◌∙◌, ap, sym, arith}
use Rattle.lu_client_store.proofs.Patched.{cut_from, not_back}
use Rattle.lu_client_store.proofs.patches.holds_cut.Goals as goal

pub returns : goal.returns
returns c =
    let far : 2 ^ 64 - 1 ≤ c.args.within.last = omega (arith, c.if-within-lt18446744073709551615.false) in
    let later : 0 < c.args.within.first = omega (arith, c.if-within-eq0.false) in
    let some : is_some c.args.patch.now.pending ≡ true = sym c.if-not-is_cut.ensures.cut in
    record {
      cut =
          not_back (is_some c.byte.result) c.is_none.result c.is_none.ensures
          ∙ ap (λ (byte : Option ℕ). not (is_some byte)) c.byte.ensures.reads
          ∙ cut_from c.args.within c.args.patch.now c.requires.bare c.requires.range far later some;
    }
