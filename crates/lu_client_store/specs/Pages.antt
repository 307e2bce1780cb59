-- A page that is missing, as code answers it, and what is missing under one lock in use.
use Rattle.std.specs.Prelude.{ℕ, Option}
use Rattle.lu_layout.specs.Raid0.{Raid0}
use Rattle.lu_spec_entries.specs.declared.uses.Using.{Using}
use Rattle.lu_spec_client.specs.Stripes.{below_on}
use Rattle.lu_spec_client.specs.States.{Store}
use Rattle.lu_spec_client.specs.Looks.{Page, missing_under}

-- the lock in use on its stripe, and its number in its object
abbrev pub page_of : Using × ℕ → Page
page_of found = record { under = found.0; page = found.1 }

-- the first missing offset of the positions from p on and before the end that lie on the lock's stripe
abbrev pub missing_on : Raid0 → ℕ → ℕ → Store → Using → Option ℕ
missing_on l p end s u = missing_under u.lock (below_on l u.want.resource.stripe p) (below_on l u.want.resource.stripe end) s
