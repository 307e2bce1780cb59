-- What a close of the recovery window is in a story: which transactions are lost by it, and which lives it evicts.
use Rattle.std.specs.Prelude.{ℕ, nat_lt, ◌&&◌, not, Bool, List, map}
use Rattle.lu_spec_entries.specs.Carried.{Deed, Gone, Outcome}
use Rattle.lu_spec_target.specs.Phase.{first_of}
use Rattle.lu_proof_bytes.specs.Object.Words.{Entry, Close}
use Rattle.lu_proof_bytes.specs.Object.Folds.{committed}
use Rattle.lu_proof_lawful.specs.Projection.Lives.{number_of}
use Rattle.lu_proof_lawful.specs.Projection.Requests.{among}

-- the numbers of earlier boots above the committed one that aren't kept
abbrev pub lost_by : (to boot : ℕ) → List ℕ → ℕ → Bool
lost_by to boot kept n = nat_lt to n && (nat_lt n (first_of boot) && not (among kept n))

abbrev pub kept_of : List Deed → List ℕ
kept_of deeds = map {A = Deed} {B = ℕ} (λ d. d.reply.txn.0) deeds

abbrev pub gone_of : List Gone → List ℕ
gone_of gone = map {A = Gone} {B = ℕ} (λ g. number_of g.who) gone

-- the commits so far tell what is committed; the one of the close comes after it
abbrev pub closes : List Entry → Outcome → Entry
closes h o = Close o.boot (lost_by (committed h) o.boot (kept_of o.kept)) (among (gone_of o.gone))
