-- What a close so far lost: it stays so, and what stands after a line stood before it.
use Rattle.std.proofs.Common.{◌≡◌, ℕ, ◌≤◌, Bool, true, false, List, ◌∷◌, refl, ap, ◌∙◌, arith}
use Rattle.std.specs.Prelude.{nat_lt, not, ◌&&◌, ◌||◌}
use Rattle.std.proofs.lemmas.Bool.{cond_both}
use Rattle.std.proofs.lemmas.Bool.Decides.{nat_tests}
use Rattle.lu_base.specs.declared.ids.Node.{Node}
use Rattle.lu_base.specs.declared.ids.Node.TheVariants.{Client, Target}
use Rattle.lu_spec_entries.specs.Words.{Entry, Close, Line, line}
use Rattle.lu_spec_entries.specs.Concerns.{concerns, only}
use Rattle.lu_proof_lawful.specs.Covered.TargetStates.{server_of}
use Rattle.lu_spec_target.specs.Phase.{first_of}
use Rattle.lu_spec_target.specs.Windows.{has_number}
use Rattle.lu_proof_lawful.specs.Covered.TargetCloses.{is_lost, loses, kept_numbers}
use Rattle.lu_proof_lawful.proofs.Invariants.Groups.{turn}

lost_more : (osts : ℕ) (l : Line) (past : List Line) (n : ℕ) → is_lost osts past n ≡ true → is_lost osts (l ∷ past) n ≡ true
lost_more osts l past n = by l.at.node l.entry
  where
    by : (node : Node) (e : Entry) → is_lost osts past n ≡ true → is_lost osts (line (turn l.at.stamp node) e ∷ past) n ≡ true
    by (Client c) e h = h
    by (Target t) (Close o) h = ap (λ (b : Bool). b || loses (server_of osts past).committed.0 o n) h
    by (Target t) e h = h

-- at a target
pub lost_whole : (osts t : ℕ) (l : Line) (past : List Line) (n : ℕ) → is_lost osts (only t past) n ≡ true
    → is_lost osts (only t (l ∷ past)) n ≡ true
lost_whole osts t l past n h = cond_both (concerns t l.at.node l.entry) (l ∷ only t past) (only t past)
    (λ (P : List Line). is_lost osts P n ≡ true) (λ e. lost_more osts l (only t past) n h) (λ e. h)

pub stood_before : (osts t : ℕ) (l : Line) (past : List Line) (n : ℕ) → is_lost osts (only t (l ∷ past)) n ≡ false
    → is_lost osts (only t past) n ≡ false
stood_before osts t l past n h = by (is_lost osts (only t past) n) refl
  where
    by : (b : Bool) → is_lost osts (only t past) n ≡ b → b ≡ false
    by true e = absurd (let more = lost_whole osts t l past n e in cc)
    by false e = refl

-- what is committed is lost by no close
pub stays_on : (osts : ℕ) (l : Line) (past : List Line) (n : ℕ) → is_lost osts past n ≡ false → n ≤ (server_of osts past).committed.0
    → is_lost osts (l ∷ past) n ≡ false
stays_on osts l past n h le = by l.at.node l.entry
  where
    committed : ℕ
    committed = (server_of osts past).committed.0

    low : nat_lt committed n ≡ false
    low = grind (arith, nat_tests)

    by : (node : Node) (e : Entry) → is_lost osts (line (turn l.at.stamp node) e ∷ past) n ≡ false
    by (Client c) e = h
    by (Target t) (Close o) = ap (λ (b : Bool). b || loses committed o n) h
        ∙ ap (λ (b : Bool). b && (nat_lt n (first_of o.boot) && not (has_number n (kept_numbers o)))) low
    by (Target t) e = h
