-- What the story says that lives hold which told a target all that they have for its recovery: while the target recovers that is just what
-- each
-- held when it was told the boot, and it awaits no lock. So it is also of a life that was evicted elsewhere since, and lost its locks.
use Rattle.std.proofs.Common.{◌≡◌, ℕ, ◌≤◌, true, false, List}
use Rattle.lu_base.specs.declared.ids.Node.{Node}
use Rattle.lu_base.specs.declared.ids.Who.{Who}
use Rattle.lu_base.specs.declared.locks.Lock.{Lock as TableLock}
use Rattle.lu_base.specs.declared.locks.Resource.{Resource}
use Rattle.lu_msg.specs.declared.messages.Message.{Message}
use Rattle.lu_msg.specs.declared.messages.Message.TheVariants as message
use Rattle.lu_spec_entries.specs.Carried.{Deed, Flight, Said}
use Rattle.lu_spec_entries.specs.Words.{Line}
use Rattle.lu_spec_entries.specs.Concerns.{only}
use Rattle.lu_proof_lawful.specs.Covered.TargetStates.{server_of, words_of}
use Rattle.lu_proof_lawful.specs.Covered.Heads.{Head}
use Rattle.lu_proof_lawful.proofs.Preconditions.Guards.{In, Was}
use Rattle.lu_proof_lawful.proofs.Preconditions.StoryGuards.{IsRecovering}
use Rattle.lu_proof_lawful.proofs.Invariants.TargetGroups.{Flew, Gave, HasSlot, told_of, boot_told, who_told}
use Rattle.lu_proof_bytes.specs.Object.Words.{Lock, Entry}
use Rattle.lu_proof_bytes.specs.Object.Folds.{HeldBy, awaits}
use Rattle.lu_proof_lawful.specs.Projection.Lives.{number_of}
use Rattle.lu_proof_lawful.specs.Projection.Locks.{lock_of}
use Rattle.lu_proof_lawful.specs.Projection.Stories.{story}

-- a life that tells it has said how much it has: in a word, or by a join, since who joins has nothing
abbrev pub IsWord : Message → Type 0
IsWord (message.Word who boot replays locks seen) = Unit {0}
IsWord (message.Join who boot) = Unit {0}
IsWord _ = ⊥

-- the life sent one, of that boot or a later one
pub record SentWord (past : List Line) (who : Who) (boot : ℕ) : Type 0 where
  pub from : Node
  pub to : Node
  pub message : Message
  pub was : Was past from to message
  pub is_word : IsWord message
  pub of_life : who_told message ≡ who
  pub of_boot : boot ≤ boot_told message

-- of the object the life holds just these locks, and it awaits none
pub record HoldsJust (r : Resource) (h : List Entry) (who : Who) (locks : List TableLock) : Type 0 where
  pub among : (m : Lock) → HeldBy h m → m.life ≡ number_of who → (l : TableLock) × In l locks × (l.resource ≡ r) × (lock_of l ≡ m)
  pub held : (l : TableLock) → In l locks → l.resource ≡ r → HeldBy h (lock_of l)
  pub own : (l : TableLock) → In l locks → l.ask.who ≡ who
  pub forgot : (k : ℕ) → awaits (number_of who) k h ≡ false

-- a lock of the table that was given to its life at that target
abbrev pub GivenAs : Resource → List Line → Lock → Type 0
GivenAs r past m = (d : Deed) × (l : TableLock) × Gave past d l × (l.resource ≡ r) × (lock_of l ≡ m)

-- the number is that of a life which asked something at that target
abbrev pub Asking : List Line → ℕ → Type 0
Asking past c = (who : Who) × (number_of who ≡ c) × (f : Flight) × Flew past who f

-- What is held was given; who awaits a lock has asked; what the target has taken of words was sent; and who sent one holds just what it
-- held
-- when it was told the boot
pub record WordTied (head : Head) (t : ℕ) (r : Resource) (past : List Line) : Type 0 where
  pub given : (m : Lock) → HeldBy (story t r past) m → GivenAs r (only t past) m
  pub awaited : (c k : ℕ) → awaits c k (story t r past) ≡ true → Asking (only t past) c
  pub said : (w : Said) → In w (words_of (only t past)) → SentWord (only t past) w.who (server_of head.osts (only t past)).boot
  pub word : IsRecovering head.osts (only t past) → (who : Who) → HasSlot head.clients (only t past) who
      → SentWord (only t past) who (server_of head.osts (only t past)).boot
      → HoldsJust r (story t r past) who (told_of who (only t past))
