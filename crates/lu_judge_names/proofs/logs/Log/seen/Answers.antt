use Rattle.std.proofs.Common.{◌≡◌, subst, List}
use Rattle.std.specs.List.{filter_map}
use Rattle.lu_judge_names.specs.declared.logs.Written.{Written}
use Rattle.lu_judge_names.specs.Logs.{is_seen, seen_at, seen_by}
use Rattle.lu_judge_names.proofs.IndexLaws.{seen_found}
use Rattle.lu_judge_names.proofs.logs.Log.seen.Goals as goal

pub returns : goal.returns
returns c =
    let touched = c.args.touched.now in
    let all = c.self.inside.items.items in
    let places = c.in_ok-places.places.items in
    let told : filter_map (seen_at (is_seen c.args.above touched) all) places ≡ seen_by c.args.above touched all =
    seen_found c.self.inside.index c.args.above touched all places c.self.invariant c.in_ok-places.ensures.rising c.in_ok-places.ensures.all
    in
    let numbers : c.from.result ≡ seen_by c.args.above touched all =
    rw (c.from.ensures, c.in_ok-numbers.ensures, c.as_slice.ensures.value, c.as_slice-2.ensures.value) told in
    record { seen = subst (λ (xs : List Written). c.from.result ≡ seen_by c.args.above touched xs) c.self.view_is numbers }
