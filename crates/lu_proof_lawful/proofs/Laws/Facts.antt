-- What the laws rest on, line by line: the operation of each deed is that of the first request sent to its target with its number.
use Rattle.std.proofs.Common.{◌≡◌, ℕ, List, [], ◌∷◌, Some}
use Rattle.lu_base.specs.declared.ids.Node.TheVariants.{Target}
use Rattle.lu_spec_entries.specs.Carried.{Deed}
use Rattle.lu_spec_entries.specs.Words.{Act, Txn as Made, Line}
use Rattle.lu_spec_entries.specs.Printed.{printed}
use Rattle.lu_spec_laws.specs.Words.Requests.{asked}

-- the first request that was sent to the target with the deed's number asked for it
abbrev pub AskedAt : ℕ → List Line → Deed → Type 0
AskedAt t past d = asked (printed past) t d.reply.who d.reply.xid.0 ≡ Some d.op

abbrev pub AllAsked : List Line → Type 0
AllAsked [] = Unit {0}
AllAsked (l ∷ past) =
    elim l.entry [
      | Act d ↦ ((t : ℕ) → l.at.node ≡ Target t → AskedAt t past d) × AllAsked past
      | Made d ↦ ((t : ℕ) → l.at.node ≡ Target t → AskedAt t past d) × AllAsked past
      | _ ↦ AllAsked past
    ]
