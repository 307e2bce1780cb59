-- The cache has no bound that it could reach, so none falls out.
use Rattle.std.proofs.Common.{◌<◌, ◌∙◌, length, ap, arith}
use Rattle.lu_held.proofs.Entries.{put_new}
use Rattle.lu_held.proofs.held.put_first.Goals as goal

pub returns-clause-first : goal.returns-clause-first
returns-clause-first c =
    let room : length c.args.uses.now.entries < c.args.uses.now.cap = omega arith in
    ap (λ h. h.entries) c.in_ok-put.ensures.entries ∙ put_new c.args.name c.args.held c.args.uses.now room c.requires.absent
