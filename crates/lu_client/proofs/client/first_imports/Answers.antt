use Rattle.std.proofs.Common.{◌≡◌, ℕ, ◌+◌, List, [], ◌∷◌, ◌++◌, length, refl, sym, ap, subst, ◌∙◌, arith}
use Rattle.std.proofs.lemmas.List.{length-append}
use Rattle.lu_import.specs.Imports.{ImportState, fresh}
use Rattle.lu_client_refines.specs.Imports.{imports_of, AreImports}
use Rattle.lu_client_refines.proofs.Imports.{fresh_shown, fresh_one}
use Rattle.lu_client_refines.proofs.Lives.{started_push}
use Rattle.lu_client_refines.proofs.Targets.{are_push}
use Rattle.lu_client.proofs.client.first_imports.Goals as goal

pub loop-target-preserved : goal.loop-target-preserved
loop-target-preserved c =
    let old : List ImportState = c.loop-target.imports.items in
    let new : ImportState = c.new.result in
    let pushed : c.push.new.self.items ≡ old ++ new ∷ [] = c.in_ok-push.ensures.items in
    let before : length old ≡ c.loop-target.target = c.loop-target.invariant.count in
    let count : length (old ++ new ∷ []) ≡ c.loop-target.target + 1 = length-append old (new ∷ []) ∙ ap (λ (n : ℕ). n + 1) before in
    record {
      shown = ap imports_of pushed ∙ started_push c.loop-target.target old new c.loop-target.invariant.shown
          (fresh_shown _ c.args.who c.args.flight new c.requires.first c.new.ensures.fresh);
      count = ap length pushed ∙ count;
      kept = λ limits same. subst (AreImports limits c.args.who 0) (sym pushed)
          (are_push limits c.args.who 0 c.loop-target.target old new (omega arith) (c.loop-target.invariant.kept limits same)
          (fresh_one limits c.args.who c.loop-target.target _ new refl (c.new.ensures.fresh ∙ ap (fresh _ c.args.who 1) (sym same))
          c.new.ensures.sound));
    }
