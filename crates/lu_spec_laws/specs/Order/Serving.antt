-- An act, a transaction, a grant, a wait, a callback or a release stands only at a target that serves (Lustre
-- Operations Manual, recovery: no new requests before the recovery is over).
use Rattle.std.specs.Prelude.{◌≡◌, true, List}
use Rattle.lu_base.specs.declared.ids.Node.{Node}
use Rattle.lu_trace.specs.declared.entries.Entry.{Entry}
use Rattle.lu_trace.specs.declared.entries.Entry.TheVariants.{Act, Txn, Grant, Wait, Block, Release}
use Rattle.lu_trace.specs.declared.entries.Line.{Line}
use Rattle.lu_spec_laws.specs.Words.Pasts.{Past}
use Rattle.lu_spec_laws.specs.Order.Phases.{serves}

abbrev pub ServingAt : Past → Node → Entry → Type 0
ServingAt past node (Act who xid answer) = serves past node ≡ true
ServingAt past node (Txn number who xid seen answer) = serves past node ≡ true
ServingAt past node (Grant lock) = serves past node ≡ true
ServingAt past node (Wait lock) = serves past node ≡ true
ServingAt past node (Block cookie) = serves past node ≡ true
ServingAt past node (Release cookie) = serves past node ≡ true
ServingAt past node _ = Unit {0}

abbrev pub Serving : Past → Line → List Line → Type 0
Serving past l later = ServingAt past l.at.node l.entry
