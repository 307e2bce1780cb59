-- The stories of targets, each of which is what concerns one: all that was sent to a target is in its story.
use Rattle.std.proofs.Common.{◌≡◌, ℕ, true, List, ap}
use Rattle.std.specs.Prelude.{nat_eq}
use Rattle.lu_base.specs.declared.ids.Node.{Node}
use Rattle.lu_base.specs.declared.ids.Node.TheVariants.{Client, Target}
use Rattle.lu_msg.specs.declared.messages.Message.{Message}
use Rattle.lu_spec_entries.specs.Words.{Line}
use Rattle.lu_spec_entries.specs.Concerns.{only}
use Rattle.lu_proof_lawful.specs.Covered.Heads.{Head}
use Rattle.lu_proof_lawful.proofs.Preconditions.Guards.{Was}
use Rattle.lu_proof_lawful.proofs.Preconditions.Grown.{Grown}
use Rattle.lu_proof_lawful.proofs.Invariants.Sides.{Between, side, was_between, was_side}

-- a line of the metadata target is about it
pub about_it : (t : ℕ) → t ≡ 0 → nat_eq 0 t ≡ true
about_it t e = ap (λ (v : ℕ). nat_eq 0 v) e

-- ---- what was sent

pub was_to : (head : Head) (past : List Line) (t : ℕ) (from : Node) (m : Message) → Grown head past → Was past from (Target t) m
    → Was (only t past) from (Target t) m
was_to head past t from m g w = by from (was_between head past from (Target t) m g w) (was_side head past from (Target t) m g w)
  where
    by : (v : Node) → Between v (Target t) → Was (only (side v (Target t)) past) v (Target t) m → Was (only t past) v (Target t) m
    by (Client c) b w = w
    by (Target u) b w = absurd b

-- ---- targets

pub target_is : (a b : ℕ) → Target a ≡ Target b → a ≡ b
target_is a b e = cc
