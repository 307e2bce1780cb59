-- A target sends what targets send, and each of its messages carries its present boot; a reply, a grant and a `ready`
-- carry its committed number (Lustre Operations Manual, recovery).
use Rattle.std.specs.Prelude.{◌≡◌, ℕ, Option, Some, None, List}
use Rattle.lu_base.specs.declared.ids.Node.{Node}
use Rattle.lu_base.specs.declared.ids.Node.TheVariants.{Client, Target}
use Rattle.lu_msg.specs.declared.messages.Message.{Message}
use Rattle.lu_msg.specs.declared.messages.Message.TheVariants.{Up, Reply, Grant, Block, Ask, Ready, Evicted}
use Rattle.lu_trace.specs.declared.entries.Entry.{Entry}
use Rattle.lu_trace.specs.declared.entries.Entry.TheVariants.{Send}
use Rattle.lu_trace.specs.declared.entries.Line.{Line}
use Rattle.lu_spec_laws.specs.Words.Pasts.{Past}
use Rattle.lu_spec_laws.specs.Words.Boots.{boot, committed}

-- the boot of a message that a target sends
abbrev pub boot_of : Message → Option ℕ
boot_of (Up b) = Some b
boot_of (Reply r) = Some r.boot
boot_of (Grant g) = Some g.boot
boot_of (Block who b cookie) = Some b
boot_of (Ask who b cookie for_who xid) = Some b
boot_of (Ready who b number) = Some b
boot_of (Evicted who b) = Some b
boot_of _ = None

-- the committed number that it carries
abbrev pub committed_of : Message → Option ℕ
committed_of (Reply r) = Some r.committed.0
committed_of (Grant g) = Some g.committed.0
committed_of (Ready who b number) = Some number.0
committed_of _ = None

abbrev pub IsCommitted : Option ℕ → ℕ → Type 0
IsCommitted None n = Unit {0}
IsCommitted (Some m) n = m ≡ n

pub record MessageAt (past : Past) (t : ℕ) (message : Message) : Type 0 where
  pub present : boot_of message ≡ Some (boot t past)
  pub number : IsCommitted (committed_of message) (committed t past)

abbrev pub MessageBy : Past → Node → Message → Type 0
MessageBy past (Target t) message = MessageAt past t message
MessageBy past (Client c) message = Unit {0}

abbrev pub MessagesAt : Past → Node → Entry → Type 0
MessagesAt past node (Send number to message) = MessageBy past node message
MessagesAt past node _ = Unit {0}

abbrev pub Messages : Past → Line → List Line → Type 0
Messages past l later = MessagesAt past l.at.node l.entry
