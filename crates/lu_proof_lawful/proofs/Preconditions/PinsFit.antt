-- The locks that a call has pinned are held, after each line of a past. That the rows make it so is shown over runs: here is what it says.
use Rattle.std.proofs.Common.{◌≡◌, ℕ, true, false, List, [], ◌∷◌, Some, refl, sym, subst, ap, ◌∙◌}
use Rattle.lu_base.specs.declared.ids.Node.TheVariants.{Client}
use Rattle.lu_base.specs.declared.ids.Stamp.{Stamp}
use Rattle.lu_base.specs.declared.locks.Lock.{Lock}
use Rattle.lu_held.specs.declared.locks.HeldLock.{HeldLock}
use Rattle.lu_held.specs.declared.names.LockName.{LockName}
use Rattle.lu_held.specs.Locks.{named, is_named}
use Rattle.lu_held.specs.Held.{without}
use Rattle.lu_spec_entries.specs.Carried.{Running}
use Rattle.lu_spec_entries.specs.Words.{Drop, Line, line}
use Rattle.lu_spec_client.specs.Caches.{held_at}
use Rattle.lu_proof_lawful.specs.Covered.Calls.{call_at}
use Rattle.lu_proof_lawful.proofs.Preconditions.Guards.{In}
use Rattle.lu_proof_lawful.proofs.Preconditions.Lists.{self, turn}
use Rattle.lu_proof_lawful.proofs.Preconditions.ClientLocks.{without_only}

-- a held lock has that name
abbrev pub HasName : LockName → List HeldLock → Type 0
HasName n held = (h : HeldLock) × In h held × (is_named n h ≡ true)

abbrev pub PinsHeld : List Line → Type 0
PinsHeld past = (c slot : ℕ) (r : Running) (n : LockName) → call_at c slot past ≡ Some r → In n r.pins → HasName n (held_at c past)

-- after each line
abbrev pub PinsFit : List Line → Type 0
PinsFit [] = Unit {0}
PinsFit (l ∷ past) = PinsHeld (l ∷ past) × PinsFit past

pub pins_held : (past : List Line) → PinsFit past → PinsHeld past
pins_held [] fit = λ c slot r n e i. absurd (cc)
pins_held (l ∷ past) fit = fit.0

-- no lock is dropped that a call has pinned
pub drop_unpinned : (past : List Line) (stamp : Stamp) (c t slot : ℕ) (lock : Lock) (r : Running) (n : LockName)
    → PinsFit (line (turn stamp (Client c)) (Drop t lock) ∷ past)
    → call_at c slot past ≡ Some r → In n r.pins → n ≡ named (record { 0 = t }) lock.cookie → ⊥
drop_unpinned past stamp c t slot lock r n fit is i same =
    let held = fit.0 c slot r n is i in
    let left = without_only (named (record { 0 = t }) lock.cookie) held.0 (held_at c past)
    (subst (λ (hs : List HeldLock). In held.0 hs) so held.1) in
    let q : true ≡ false = sym held.2 ∙ ap (λ (m : LockName). is_named m held.0) same ∙ left.1 in
    absurd (cc)
  where
    so : held_at c (line (turn stamp (Client c)) (Drop t lock) ∷ past) ≡ without (named (record { 0 = t }) lock.cookie) (held_at c past)
    so = rw (self c) refl
