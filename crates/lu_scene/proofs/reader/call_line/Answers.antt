use Rattle.std.proofs.Common.{arith, map}
use Rattle.std.proofs.lemmas.List.{length-map}
use Rattle.lu_scene.proofs.Shapes.{call_line-one}
use Rattle.lu_scene.proofs.reader.call_line.Goals as goal

pub returns-in-len1 : goal.returns-in-len1
returns-in-len1 c = record {
  line = let ws = map (λ w. w.now) c.args.words.now in
      call_line-one c.args.head.now ws (omega (arith, length-map c.args.words.now (λ w. w.now), c.in-len1.len_at_least))
      (omega (arith, length-map c.args.words.now (λ w. w.now), c.in-len1.len_below));
}
