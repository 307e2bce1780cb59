use Rattle.std.proofs.Common.{◌≡◌, ℕ, ◌+◌, ap, arith}
use Rattle.lu_judge_windows.specs.Counted.{count_of}
use Rattle.lu_judge_windows.proofs.counted.Counted.next_count.Goals as goal

pub returns : goal.returns
returns c =
    let is : c.min-count.result ≡ count_of c.args.self.now c.args.who =
    omega (
      arith,
      c.min-count.ensures,
      c.len.ensures.len,
      c.count.ensures.count,
      c.args.self.now.bounded c.args.who.client c.args.who.life,
    ) in
    record { next = ap (λ (n : ℕ). n + 1) is }
