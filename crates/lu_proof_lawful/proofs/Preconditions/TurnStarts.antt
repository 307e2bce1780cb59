-- Where the turns of a client start: it lives, is between its turns, and this one is later than all before. A message that is taken changes
-- nothing by itself.
use Rattle.std.proofs.Common.{◌≡◌, ℕ, false, List, ◌∷◌, refl}
use Rattle.lu_base.specs.declared.ids.At.{At}
use Rattle.lu_base.specs.declared.ids.Node.TheVariants.{Client, Target}
use Rattle.lu_base.specs.declared.ids.Stamp.{Stamp}
use Rattle.lu_msg.specs.declared.messages.Message.{Message}
use Rattle.lu_spec_entries.specs.Words.{Take, Line, line}
use Rattle.lu_spec_entries.specs.Sent.{Sent}
use Rattle.lu_proof_lawful.specs.Covered.Runs.{AllCovered}
use Rattle.lu_proof_lawful.specs.Covered.Heads.{IsAlive}
use Rattle.lu_spec_run.specs.Heads as table
use Rattle.lu_proof_lawful.proofs.Preconditions.Guards.{Later, Ending, is_welcome}
use Rattle.lu_proof_lawful.proofs.Preconditions.Grown.{Grown, Noted}
use Rattle.lu_proof_lawful.proofs.Preconditions.Lists.{turn}
use Rattle.lu_proof_lawful.proofs.Preconditions.Ends.{closes_after}
use Rattle.lu_proof_lawful.proofs.Preconditions.Turns.{Settled, owes_nothing, steps_after}
use Rattle.lu_proof_lawful.proofs.Preconditions.ClientLines.{AllThere}
use Rattle.lu_proof_lawful.proofs.Preconditions.ClientGood.{Good, Rested, Between, the_head, adds}
use Rattle.lu_proof_lawful.proofs.Preconditions.Awaits.{Awaits}

module _ (head : table.Head) (c : ℕ) (stamp : Stamp) where
  abbrev at : At
  at = turn stamp (Client c)

  pub record Starts (p : List Line) : Type 0 where
    pub grown : Grown (the_head head c stamp) p
    pub covered : AllCovered p
    pub settled : Settled p
    pub later : Later p at
    pub closed : (d : ℕ) → Ending p d → ⊥
    pub noted : Noted (the_head head c stamp) p
    pub there : AllThere head.osts p
    pub alive : IsAlive (the_head head c stamp) p c
    pub between : Between c p
    pub awaits : Awaits c p
    pub ready : (t : ℕ) → is_welcome c t p ≡ false

  pub starts_good : (p : List Line) → Starts p → Good head c at p
  starts_good p s = record {
    grown = s.grown;
    covered = s.covered;
    steps = steps_after p at s.later;
    closes = closes_after p at s.closed;
    noted = s.noted;
    there = s.there;
    alive = s.alive;
  }

  pub took_good : (p : List Line) (n t : ℕ) (m : Message) → Starts p → Sent p n (Target t) (Client c) m
      → Good head c at (line at (Take n (Target t) m) ∷ p)
  took_good p n t m s sent = adds head c stamp p (Take n (Target t) m) (starts_good p s) (owes_nothing p at (Take n (Target t) m) s.settled)
      (record { sent = sent; later = s.later }) (λ u e. tt) tt refl

  pub took_rested : (p : List Line) (n t : ℕ) (m : Message) → Starts p → Sent p n (Target t) (Client c) m
      → Rested head c at (line at (Take n (Target t) m) ∷ p)
  took_rested p n t m s sent = record { good = took_good p n t m s sent; settled = tt; idle = s.between.idle; handles = s.between.handles }
