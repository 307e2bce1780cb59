-- Parts that meet have guards that meet.
use Rattle.std.proofs.Common.{◌∙◌, sym, IsTrue}
use Rattle.lu_part.specs.Meets.{meets}
use Rattle.lu_part.proofs.PartLaws.{guards_meet, meets_rule}
use Rattle.lu_part.proofs.parts.meets.Goals as goal

pub returns-in-Layout-Layout-clause-guarded : goal.returns-in-Layout-Layout-clause-guarded
returns-in-Layout-Layout-clause-guarded c = λ same.
    let a = c.args.a.now in
    let b = c.args.b.now in
    let met : IsTrue (meets a b) =
    rw (c.in-Layout-Layout.is-0, c.in-Layout-Layout.is-1) (sym c.eq-in-Layout-Layout.ensures ∙ same) in
    guards_meet a b ((meets_rule a b).0 met)
