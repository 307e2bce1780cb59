-- Which lives may be out at the end of a trace, and which numbers of its targets lost, so far as a past
-- goes: what stands saw only what stands, what a life that isn't out heard, or holds a lock with, stands with all that
-- it saw, what is committed stands, what a close so far lost is lost, and who was evicted is out.
use Rattle.std.specs.Prelude.{◌≡◌, ◌⊎◌, ◌≤◌, ℕ, Bool, true, false, List, [], ◌∷◌}
use Rattle.lu_base.specs.declared.ids.Node.{Node}
use Rattle.lu_base.specs.declared.ids.Node.TheVariants.{Client, Target}
use Rattle.lu_base.specs.declared.ids.Who.{Who}
use Rattle.lu_msg.specs.declared.messages.Reply.{Reply as ReplyTo}
use Rattle.lu_spec_entries.specs.Carried.{Deed}
use Rattle.lu_spec_entries.specs.Words.{Heard, Hold, Txn as Made, Commit, Close, Evict, Line}
use Rattle.lu_spec_entries.specs.Concerns.{only}
use Rattle.lu_proof_lawful.specs.Covered.Calls.{life_at}
use Rattle.lu_proof_lawful.specs.Covered.TargetCloses.{is_lost}

-- these numbers of a target aren't lost
abbrev pub AllStand : (ℕ → Bool) → List ℕ → Type 0
AllStand lost [] = Unit {0}
AllStand lost (n ∷ ns) = (lost n ≡ false) × AllStand lost ns

-- a transaction that stands saw only what stands
abbrev pub SeenStandsAt : (ℕ → ℕ → Bool) → Node → Deed → Type 0
SeenStandsAt lost (Target t) d = lost t d.reply.txn.0 ≡ false → AllStand (lost t) d.reply.seen
SeenStandsAt lost (Client c) d = Unit {0}

abbrev pub SeenStand : (ℕ → ℕ → Bool) → List Line → Type 0
SeenStand lost [] = Unit {0}
SeenStand lost (l ∷ past) = elim l.entry [ Made d ↦ SeenStandsAt lost l.at.node d × SeenStand lost past | _ ↦ SeenStand lost past ]

-- what was done stands, and saw only what stands: where it is no transaction its number is 0, which isn't lost
abbrev pub ReplyStands : (ℕ → Bool) → ReplyTo → Type 0
ReplyStands lost r = (lost r.txn.0 ≡ false) × AllStand lost r.seen

-- a life that isn't out heard that reply of that target
abbrev pub HeardStandsAt : (Who → Bool) → (ℕ → ℕ → Bool) → Node → ℕ → ReplyTo → Type 0
HeardStandsAt out lost (Client c) t r = out r.who ≡ false → ReplyStands (lost t) r
HeardStandsAt out lost (Target u) t r = Unit {0}

-- what a life that isn't out heard is of a deed that stands
abbrev pub HeardStand : (Who → Bool) → (ℕ → ℕ → Bool) → List Line → Type 0
HeardStand out lost [] = Unit {0}
HeardStand out lost (l ∷ past) =
    elim l.entry [
      | Heard target flight reply ↦ HeardStandsAt out lost l.at.node target reply × HeardStand out lost past
      | _
          ↦ HeardStand out lost past
    ]

-- a client came to hold a lock of that target with these seen numbers
abbrev pub HeldStandsAt : (Who → Bool) → (ℕ → ℕ → Bool) → List Line → Node → ℕ → List ℕ → Type 0
HeldStandsAt out lost past (Client c) t seen = out (life_at c past) ≡ false → AllStand (lost t) seen
HeldStandsAt out lost past (Target u) t seen = Unit {0}

-- what a life that isn't out came to hold saw only what stands
abbrev pub HeldStand : (Who → Bool) → (ℕ → ℕ → Bool) → List Line → Type 0
HeldStand out lost [] = Unit {0}
HeldStand out lost (l ∷ past) =
    elim l.entry [
      | Hold target lock marked size seen ↦ HeldStandsAt out lost past l.at.node target seen × HeldStand out lost past
      | _
          ↦ HeldStand out lost past
    ]

-- a transaction of the target has that number: reads Txn
abbrev pub WasMade : ℕ → List Line → ℕ → Type 0
WasMade t [] n = ⊥
WasMade t (l ∷ past) n = elim l.entry [ Made d ↦ ((l.at.node ≡ Target t) × (d.reply.txn.0 ≡ n)) ⊎ WasMade t past n | _ ↦ WasMade t past n ]

-- of the transactions that stood when a target committed, or closed a window, none up to that number is lost
abbrev pub CommitStandsAt : ℕ → (ℕ → ℕ → Bool) → List Line → Node → ℕ → Type 0
CommitStandsAt osts lost past (Target t) to = (n : ℕ) → WasMade t past n → is_lost osts (only t past) n ≡ false → n ≤ to → lost t n ≡ false
CommitStandsAt osts lost past (Client c) to = Unit {0}

abbrev pub CommitsStand : ℕ → (ℕ → ℕ → Bool) → List Line → Type 0
CommitsStand osts lost [] = Unit {0}
CommitsStand osts lost (l ∷ past) =
    elim l.entry [
      | Commit to batch ↦ CommitStandsAt osts lost (l ∷ past) l.at.node to × CommitsStand osts lost past
      | Close o ↦ CommitStandsAt osts lost (l ∷ past) l.at.node o.disk.committed × CommitsStand osts lost past
      | _ ↦ CommitsStand osts lost past
    ]

-- a life that a target evicted is out
abbrev pub EvictedOut : (Who → Bool) → List Line → Type 0
EvictedOut out [] = Unit {0}
EvictedOut out (l ∷ past) = elim l.entry [ Evict who cause ↦ (out who ≡ true) × EvictedOut out past | _ ↦ EvictedOut out past ]

-- lives and numbers that may be out and lost after a past; the root's number, 1, is no transaction's
pub record Fits (osts : ℕ) (out : Who → Bool) (lost : ℕ → ℕ → Bool) (past : List Line) : Type 0 where
  pub root : lost 0 1 ≡ false
  pub stays : (t n : ℕ) → WasMade t past n → is_lost osts (only t past) n ≡ true → lost t n ≡ true
  pub seen : SeenStand lost past
  pub heard : HeardStand out lost past
  pub held : HeldStand out lost past
  pub committed : CommitsStand osts lost past
  pub gone : EvictedOut out past
