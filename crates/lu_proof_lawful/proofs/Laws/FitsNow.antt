-- Between two turns, and in each turn of a client, the lives that are gone so far and the numbers that closes so far have lost fit what
-- stands
-- then: a close has shown all by the end of its turn.
use Rattle.std.proofs.Common.{◌≡◌, ◌⊎◌, ℕ, Bool, true, false, List, [], ◌∷◌, inl, inr, ⊎_elim, refl, sym, subst, ap, ◌∙◌}
use Rattle.std.specs.Prelude.{nat_eq, ◌&&◌}
use Rattle.std.proofs.lemmas.Bool.{and_parts, cond_both, eqb-true}
use Rattle.lu_base.specs.declared.ids.At.{At}
use Rattle.lu_base.specs.declared.ids.Node.{Node}
use Rattle.lu_base.specs.declared.ids.Node.TheVariants.{Client, Target}
use Rattle.lu_spec_entries.specs.Printed.{printed}
use Rattle.lu_spec_entries.specs.Words.{Entry, Txn as Made, Line, line, with_turn, turn_before}
use Rattle.lu_spec_entries.specs.Concerns.{concerns, only}
use Rattle.lu_spec_run.specs.Heads as table
use Rattle.lu_spec_run.specs.Runs.{Turn, lines_of, IsRun}
use Rattle.lu_proof_lawful.specs.Covered.Runs.{AllCovered}
use Rattle.lu_proof_lawful.specs.Covered.Heads.{Head}
use Rattle.lu_proof_lawful.specs.Covered.TargetCloses.{closing_of}
use Rattle.lu_spec_laws.specs.Words.Lives.{is_gone}
use Rattle.lu_spec_laws.specs.Words.Lost.{is_lost}
use Rattle.lu_spec_laws.specs.Words.Pasts.{is_target}
use Rattle.lu_spec_laws.proofs.Tests.{target_is}
use Rattle.lu_proof_lawful.specs.Fits.{WasMade, Fits}
use Rattle.lu_proof_lawful.proofs.Preconditions.Guards.{Later}
use Rattle.lu_proof_lawful.proofs.Preconditions.Grown.{Grown}
use Rattle.lu_proof_lawful.proofs.Preconditions.Lists.{self, turn_irreflexive}
use Rattle.lu_proof_lawful.proofs.Preconditions.Covers.{covered_turn}
use Rattle.lu_proof_lawful.proofs.Preconditions.Turns.{covered_head}
use Rattle.lu_proof_lawful.proofs.Preconditions.Obey.{noted}
use Rattle.lu_proof_lawful.proofs.Invariants.Groups.{turn}
use Rattle.lu_proof_lawful.proofs.Laws.Commits.{listed}
use Rattle.lu_proof_lawful.proofs.Laws.LostNumbers.{lost_is, lost_made}
use Rattle.lu_proof_lawful.proofs.Laws.Lasting.{stays_in, gone_out}
use Rattle.lu_proof_lawful.proofs.Laws.Fitting.{fits}

-- ---- what fits

-- a number is that of a transaction of the target, or of none
made_or : (t : ℕ) (past : List Line) (n : ℕ) → WasMade t past n ⊎ (WasMade t past n → ⊥)
made_or t [] n = inr (λ m. m)
made_or t (l ∷ past) n = by l.entry (made_or t past n)
  where
    by : (e : Entry) → WasMade t past n ⊎ (WasMade t past n → ⊥) → WasMade t (record l { entry = e } ∷ past) n
        ⊎ (WasMade t (record l { entry = e } ∷ past) n → ⊥)
    by (Made d) (inl m) = inl (inr m)
    by (Made d) (inr not) = is (is_target t l.at.node && nat_eq d.reply.txn.0 n) refl
      where
        is : (b : Bool) → (is_target t l.at.node && nat_eq d.reply.txn.0 n) ≡ b
            → (((l.at.node ≡ Target t) × (d.reply.txn.0 ≡ n)) ⊎ WasMade t past n)
            ⊎ (((l.at.node ≡ Target t) × (d.reply.txn.0 ≡ n)) ⊎ WasMade t past n → ⊥)
        is true e = let k = and_parts (is_target t l.at.node) (nat_eq d.reply.txn.0 n) e
            in inl (inl (target_is t l.at.node k.0, eqb-true d.reply.txn.0 n k.1))
        is false e = inr (λ m. ⊎_elim
            (λ (same : (l.at.node ≡ Target t) × (d.reply.txn.0 ≡ n)).
            let here : is_target t l.at.node ≡ true = ap (is_target t) same.0 ∙ self t in
            let number : nat_eq d.reply.txn.0 n ≡ true = subst (λ (m : ℕ). nat_eq d.reply.txn.0 m ≡ true) same.1 (self d.reply.txn.0) in
            let off : false ≡ true = sym e ∙ ap (λ (b : Bool). b && nat_eq d.reply.txn.0 n) here ∙ number in
            absurd (cc))
            not m)
    by e m = m

-- a number that no transaction has is never lost
none_lost : (head : Head) (past : List Line) → Grown head past → (t n : ℕ) → (WasMade t past n → ⊥) → is_lost (printed past) t n ≡ false
none_lost head past g t n not = by (is_lost (printed past) t n) refl
  where
    by : (b : Bool) → is_lost (printed past) t n ≡ b → b ≡ false
    by true e = let k = lost_made head t past g n e in absurd (not (subst (WasMade t past) k.3 (listed head t past k.0 g k.1 k.2).made))
    by false e = refl

-- who is gone in a whole trace, and what its closes lost, fit it, once each last close has shown all; however these numbers are told
pub fit_as : (head : Head) (past : List Line) (lost : ℕ → ℕ → Bool) → Grown head past
    → ((t n : ℕ) → lost t n ≡ is_lost (printed past) t n) → ((t : ℕ) → closing_of head.clients (only t past) ≡ [])
    → Fits head.osts (is_gone (printed past)) lost past
fit_as head past lost g same quiet =
    let gone = gone_out head past g in
    fits head (is_gone (printed past)) lost past g (λ t n m. same t n ∙ lost_is head t past g n m)
    (λ t n not. same t n ∙ none_lost head past g t n not)
    (λ t n. made_or t past n) gone
    (λ who stays t e. stays_in (is_gone (printed past)) t who stays head past g gone (quiet t) e)

pub all_fit : (head : Head) (past : List Line) → Grown head past → ((t : ℕ) → closing_of head.clients (only t past) ≡ [])
    → Fits head.osts (is_gone (printed past)) (is_lost (printed past)) past
all_fit head past g quiet = fit_as head past (is_lost (printed past)) g (λ t n. refl) quiet

-- ---- when closes have shown all

abbrev pub AllShown : Head → List Line → Type 0
AllShown head past = (t : ℕ) → closing_of head.clients (only t past) ≡ []

-- before each turn
abbrev pub ShownSoFar : Head → List Line → Type 0
ShownSoFar head [] = Unit {0}
ShownSoFar head (l ∷ past) = (Later past l.at → AllShown head past) × ShownSoFar head past

shown_turn : (head : Head) (at : At) (es : List Entry) (past : List Line) → (Later past at → AllShown head past) → ShownSoFar head past
    → ShownSoFar head (with_turn at es past)
shown_turn head at [] past all so_far = so_far
shown_turn head at (e ∷ es) past all so_far = shown_turn head at es (line at e ∷ past) (λ later. absurd (turn_irreflexive at later))
    (all, so_far)

pub shown_run : (head : table.Head) (turns : List Turn) → IsRun head turns → AllCovered (lines_of turns)
    → ShownSoFar (covered_head head) (lines_of turns)
shown_run head [] run covered = tt
shown_run head (t ∷ turns) run covered =
    let before = (covered_turn t.at t.entries (lines_of turns) covered).1 in
    shown_turn (covered_head head) t.at t.entries (lines_of turns) (λ later. (noted head turns run.2 before).shown)
    (shown_run head turns run.2 before)

-- a client's line leaves it
pub client_shows : (head : Head) (past : List Line) (l : Line) (c : ℕ) → l.at.node ≡ Client c → AllShown head past
    → AllShown head (l ∷ past)
client_shows head past l c own all t = cond_both (concerns t l.at.node l.entry) (l ∷ only t past) (only t past)
    (λ (P : List Line). closing_of head.clients P ≡ []) (λ q. by l.at.node own) (λ q. all t)
  where
    by : (node : Node) → node ≡ Client c → closing_of head.clients (line (turn l.at.stamp node) l.entry ∷ only t past) ≡ []
    by (Client d) q = all t
    by (Target u) q = absurd (cc)

-- so all is shown in each turn of a client
pub shown_there : (head : Head) (l : Line) (past : List Line) (c : ℕ) → Grown head (l ∷ past) → ShownSoFar head (l ∷ past) → l.at.node
    ≡ Client c → AllShown head past
shown_there head l [] c g s own = λ t. refl
shown_there head l (x ∷ past) c g s own = by g.0.steps (λ q. shown_there head x past c g.1 s.1 (ap (λ (at : At). at.node) q ∙ own))
  where
    by : (x.at ≡ l.at) ⊎ (turn_before x.at l.at ≡ true) → (x.at ≡ l.at → AllShown head past) → AllShown head (x ∷ past)
    by (inl q) more = client_shows head past x c (ap (λ (at : At). at.node) q ∙ own) (more q)
    by (inr later) more = s.0 later
