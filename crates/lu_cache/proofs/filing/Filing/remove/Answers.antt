-- The cookie leaves its row; where there is no row nothing was filed.
use Rattle.std.proofs.Common.{◌≡◌, ℕ, ap, sym, ◌∙◌, None, Option}
use Rattle.std.specs.BTreeMap.{BTreeMap}
use Rattle.std.specs.Map.{lookup}
use Rattle.lu_base.specs.declared.ids.Cookie.{Cookie}
use Rattle.lu_cache.specs.Filings.{in_row}
use Rattle.lu_cache.proofs.Filed.{refiled_row}
use Rattle.lu_cache.proofs.filing.Filing.remove.Goals as goal

pub returns-clause-gone : goal.returns-clause-gone
returns-clause-gone g c = λ l d.
    ap (λ rows. in_row (lookup (g.K.PartialEq.eq l) rows) d) (c.get_mut.follows.holds c.remove.new.self).0
    ∙ refiled_row g.K.PartialEq.eq g.met.K.Eq.laws c.args.key.now l c.args.cookie d None c.args.self.now.rows.entries c.in_ok-row.row.now
    c.remove.new.self (sym c.in_ok-row.ensures.value) c.remove.ensures.updates.0
