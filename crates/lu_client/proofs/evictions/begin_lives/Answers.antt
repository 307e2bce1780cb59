use Rattle.std.proofs.Common.{◌≡◌, ℕ, ◌++◌, List, take, drop, get_or, set, map, add-one, sym, ap, ◌∙◌}
use Rattle.lu_import.specs.Imports.{ImportState, reborn}
use Rattle.lu_client.proofs.Evicting.{one_more}
use Rattle.lu_client.proofs.evictions.begin_lives.Goals as goal

pub loop-import-preserved : goal.loop-import-preserved
loop-import-preserved c =
    let items : List ImportState = c.args.imports.now in
    let i : ℕ = c.loop-import.import-index in
    let begun : c.begin_life.new.self ≡ reborn c.args.who (get_or (map (reborn c.args.who) (take i items) ++ drop i items) i
    c.import-item.result) =
    c.begin_life.ensures.reborn ∙ ap (λ (is : List ImportState). reborn c.args.who (get_or is i c.import-item.result))
    c.loop-import.invariant in
    ap (λ (is : List ImportState). set is i c.begin_life.new.self) c.loop-import.invariant
    ∙ one_more (reborn c.args.who) items i c.import-item.result c.begin_life.new.self c.loop-import-test.true begun
    ∙ ap (λ (n : ℕ). map (reborn c.args.who) (take n items) ++ drop n items) (sym (add-one i))
