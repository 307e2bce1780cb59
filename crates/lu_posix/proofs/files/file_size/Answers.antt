-- One more size stands after those so far.
use Rattle.std.proofs.Common.{◌+◌, ◌<◌, ◌≤◌, ◌^◌, ℕ, List, [], ◌∷◌, ◌++◌, refl, sym, ap, ◌∙◌, arith, length}
use Rattle.std.proofs.lemmas.Grind.{common_steps, take-set_at}
use Rattle.std.proofs.lemmas.List.Elements.{All-set}
use Rattle.std.proofs.lemmas.List.FromFn.{map-range_with_len_more}
use Rattle.lu_spec_machine.specs.Objects.{object_size}
use Rattle.lu_service.specs.Contents.{object_in}
use Rattle.lu_posix.specs.Files.{object, sizes_in}
use Rattle.lu_posix.proofs.files.file_size.Goals as goal

pub loop-stripe-preserved : goal.loop-stripe-preserved
loop-stripe-preserved c =
    let of : ℕ → ℕ = λ stripe. object_size (object_in c.args.objects.now (object c.args.fid stripe)) in
    let i = c.loop-stripe.stripe in
    let sizes = c.loop-stripe.sizes in
    let most : length c.args.layout.now.targets ≤ 8 = c.count-stripe-end.ensures.sound.targets.1 in
    let l : i < length sizes = omega (arith, c.loop-stripe.invariant.room, c.loop-stripe-test.true, c.count-stripe-end.ensures.value, most)
    in
    record {
      room = grind (arith, common_steps, c.loop-stripe.invariant.room);
      filled =
          take-set_at sizes i (i + 1) c.size.result refl l ∙ ap (λ (xs : List ℕ). xs ++ c.size.result ∷ []) c.loop-stripe.invariant.filled
          ∙ ap (λ (n : ℕ). sizes_in c.args.objects.now c.args.fid i ++ n ∷ []) c.size.ensures.size
          ∙ sym (map-range_with_len_more of 0 i i (omega arith));
      fits = All-set (λ n. n ≤ 2 ^ 40) sizes i c.size.result c.size.ensures.fits c.loop-stripe.invariant.fits;
    }
