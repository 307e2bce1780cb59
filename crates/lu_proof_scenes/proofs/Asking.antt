-- Lines that stand only where a turn may ask a disk: those of commits, of lives that leave or come, of boots and of what follows one, and
-- of
-- who is told so. What is asked of a target, and what it is told of a life that joins or comes back, goes to a target of the run, and a
-- lock is
-- asked for on a range in order; and the lives that come there, and those that are told of a boot, are of clients of the run.
use Rattle.std.proofs.Common.{◌≡◌, ℕ, ◌<◌, ◌≤◌, List, [], ◌∷◌, ⊎_elim, subst}
use Rattle.lu_base.specs.declared.ids.At.{At}
use Rattle.lu_base.specs.declared.ids.Node.{Node}
use Rattle.lu_base.specs.declared.ids.Node.TheVariants.{Client, Target}
use Rattle.lu_base.specs.declared.ids.Who.{Who}
use Rattle.lu_msg.specs.declared.messages.Message.{Message}
use Rattle.lu_msg.specs.declared.messages.Message.TheVariants as message
use Rattle.lu_msg.specs.declared.operations.Op.{Op}
use Rattle.lu_msg.specs.declared.operations.Op.TheVariants as op
use Rattle.lu_spec_entries.specs.Words.{Entry, Send, Life, Commit, Boot, Close, Evict, Joined, Wishes, Line, line, with_turn}
use Rattle.lu_proof_lawful.proofs.Preconditions.Guards.{Was}
use Rattle.lu_proof_scenes.proofs.Every.{Every}

-- a life of one of so many clients
abbrev pub IsOf : ℕ → Who → Type 0
IsOf clients who = who.client < clients

abbrev pub AllOf : ℕ → List Who → Type 0
AllOf clients lives = Every (IsOf clients) lives

-- a lock that it asks for is on a range in order
abbrev pub IsOrdered : Op → Type 0
IsOrdered (op.Enqueue resource mode extent) = extent.first ≤ extent.last
IsOrdered _ = Unit {0}

-- MayAsk: a turn may ask a disk
abbrev pub Suits : Type 0 → (osts clients : ℕ) → Entry → Type 0
Suits MayAsk osts clients (Send (Target t) (message.Request r)) = (t ≤ osts) × IsOrdered r.op
Suits MayAsk osts clients (Send (Target t) (message.Where who boot cookie)) = t ≤ osts
Suits MayAsk osts clients (Send (Target t) (message.Size m)) = t ≤ osts
Suits MayAsk osts clients (Send (Target t) (message.Join who boot)) = MayAsk × (t ≤ osts)
Suits MayAsk osts clients (Send (Target t) (message.Replay r)) = MayAsk × (t ≤ osts)
Suits MayAsk osts clients (Send (Target t) (message.Lock r)) = MayAsk × (t ≤ osts)
Suits MayAsk osts clients (Send (Target t) (message.Word who boot replays locks seen)) = MayAsk × (t ≤ osts)
Suits MayAsk osts clients (Send (Client c) (message.Up boot)) = MayAsk × (c < clients)
Suits MayAsk osts clients (Send to (message.Ready who boot committed)) = MayAsk
Suits MayAsk osts clients (Send to (message.Evicted who boot)) = MayAsk
Suits MayAsk osts clients (Life who) = MayAsk
Suits MayAsk osts clients (Commit to batch) = MayAsk × AllOf clients batch.added
Suits MayAsk osts clients (Boot boot disk) = MayAsk × AllOf clients disk.lives
Suits MayAsk osts clients (Close o) = MayAsk × AllOf clients o.disk.lives
Suits MayAsk osts clients (Wishes who) = IsOf clients who
Suits MayAsk osts clients (Evict who cause) = MayAsk
Suits MayAsk osts clients (Joined who) = MayAsk
Suits MayAsk osts clients _ = Unit {0}

-- a target of the run
abbrev pub IsNode : ℕ → Node → Type 0
IsNode osts (Client c) = Unit {0}
IsNode osts (Target t) = t ≤ osts

abbrev pub AllSuit : Type 0 → (osts clients : ℕ) → List Line → Type 0
AllSuit MayAsk osts clients [] = Unit {0}
AllSuit MayAsk osts clients (l ∷ past) = Suits MayAsk osts clients l.entry × AllSuit MayAsk osts clients past × IsNode osts l.at.node

module _ (MayAsk : Type 0) (osts clients : ℕ) where
  pub turn_suits : (past : List Line) (at : At) (es : List Entry) → IsNode osts at.node → Every (Suits MayAsk osts clients) es
      → AllSuit MayAsk osts clients past → AllSuit MayAsk osts clients (with_turn at es past)
  turn_suits past at [] one s before = before
  turn_suits past at (e ∷ es) one s before = turn_suits (line at e ∷ past) at es one s.1 (s.0, before, one)

  pub was_suits : (past : List Line) (from to : Node) (m : Message) → AllSuit MayAsk osts clients past → Was past from to m
      → Suits MayAsk osts clients (Send to m) × IsNode osts from
  was_suits [] from to m s w = absurd w
  was_suits (l ∷ past) from to m s w = by l.entry s.0 w (was_suits past from to m s.1)
    where
      by : (e : Entry) → Suits MayAsk osts clients e → Was (line l.at e ∷ past) from to m
          → (Was past from to m → Suits MayAsk osts clients (Send to m) × IsNode osts from) → Suits MayAsk osts clients (Send to m)
          × IsNode osts from
      by (Send node k) suits w more =
          ⊎_elim
          (λ (p : (l.at.node ≡ from) × (node ≡ to) × (k ≡ m)). (
            subst (λ (v : Node). Suits MayAsk osts clients (Send v m)) p.1
                (subst (λ (v : Message). Suits MayAsk osts clients (Send node v)) p.2 suits),
            subst (IsNode osts) p.0 s.2,
          ))
          more w
      by e suits w more = more w
