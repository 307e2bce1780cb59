-- One lock for each name, or nothing is taught.
use Rattle.std.proofs.Common.{◌≡◌, ◌==◌, ◌++◌, length, true, false, refl, ap, sym, ◌∙◌, arith}
use Rattle.std.proofs.lemmas.Bool.Decides.{nat_tests}
use Rattle.lu_spec_client.specs.Facts.{root, name_facts}
use Rattle.lu_cache.specs.Topics.{row_facts, kind_of}
use Rattle.lu_cache.proofs.Learned.{taught_all, taught_none}
use Rattle.lu_cache.proofs.learning.names_taught.Goals as goal

pub returns-then-len-locks : goal.returns-then-len-locks
returns-then-len-locks c = record {
  taught = ap row_facts c.new.ensures.items
      ∙ taught_none (kind_of c.args.kind) c.args.path.now c.args.locks.now
      (grind (arith, nat_tests, c.len.ensures.count, c.if-len-locks.true));
}

pub returns : goal.returns
returns c =
    let kind = kind_of c.args.kind in
    let locks = c.args.locks.now in
    record {
      taught =
          c.in_ok-add_names.ensures.added
          ∙ ap (λ xs. row_facts xs ++ name_facts kind root c.as_slice.result.now locks) c.new-facts.ensures.items
          ∙ ap (λ path. name_facts kind root path locks) c.as_slice.ensures.same
          ∙ taught_all kind c.args.path.now locks (grind (arith, nat_tests, c.len.ensures.count, c.if-len-locks.false));
    }
