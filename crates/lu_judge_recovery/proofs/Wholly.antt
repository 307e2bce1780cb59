-- What tables of the whole trace say of a line in its place.
use Rattle.std.proofs.Common.{◌≡◌, ℕ, ◌≤◌, Bool, true, false, List, [], ◌∷◌, ◌++◌, refl, ap, sym, ◌∙◌, subst, arith}
use Rattle.std.specs.Prelude.{◌&&◌, ◌||◌, max, reverse}
use Rattle.std.specs.List.{list_any}
use Rattle.std.proofs.lemmas.List.Folds.{list_any-append}
use Rattle.lu_base.specs.declared.ids.At.{At}
use Rattle.lu_trace.specs.declared.entries.Entry.{Entry}
use Rattle.lu_trace.specs.declared.entries.Line.{Line}
use Rattle.lu_spec_laws.specs.Words.Pasts.{Past, same_turn}
use Rattle.lu_spec_laws.specs.Words.Scopes.{any_in, any_later}
use Rattle.lu_spec_laws.specs.Words.Clients.{node_clients, entry_clients, clients}
use Rattle.lu_spec_laws.specs.Words.Lost.{is_fail}
use Rattle.lu_judge_recovery.specs.Failing.{is_failing, fails, ShowsFailing}
use Rattle.lu_judge_recovery.specs.Turns.{turn_at}
use Rattle.lu_judge_recovery.specs.declared.failing.Failing.{Failing}
use Rattle.lu_judge_recovery.proofs.Searches.{any_reverse}

-- ---- whether the disk fails in a turn

any_lines : (says : Entry → Bool) (at : At) (past : Past) → any_in says at past ≡ any_later says at past
any_lines says at [] = refl
any_lines says at (l ∷ past) = ap (λ (b : Bool). (says l.entry && same_turn l.at at) || b) (any_lines says at past)

quiet_line : (later here past : Bool) → here ≡ false → (later || (here || past)) ≡ (past || later)
quiet_line true here true is = refl
quiet_line true here false is = refl
quiet_line false true past is = absurd (cc)
quiet_line false false true is = refl
quiet_line false false false is = refl

fails_whole : (at : At) (past : Past) (l : Line) (later : List Line) → is_fail l.entry ≡ false
    → any_in is_fail at (reverse later ++ l ∷ past) ≡ fails at past later
fails_whole at past l later other =
    let p : Line → Bool = λ (k : Line). is_fail k.entry && same_turn k.at at in
    any_lines is_fail at (reverse later ++ l ∷ past)
    ∙ list_any-append p (reverse later) (l ∷ past)
    ∙ ap (λ (b : Bool). b || list_any p (l ∷ past)) (any_reverse p later)
    ∙ quiet_line (list_any p later) (p l) (list_any p past) (ap (λ (b : Bool). b && same_turn l.at at) other)
    ∙ ap (λ (b : Bool). b || list_any p later) (sym (any_lines is_fail at past))

pub failing_is : (f : Failing) (whole past : Past) (l : Line) (later : List Line) (s t : ℕ) → ShowsFailing f whole → whole ≡ reverse later
    ++ l ∷ past → is_fail l.entry ≡ false
    → is_failing f s t ≡ fails (turn_at s t) past later
failing_is f whole past l later s t shown is other = shown s t ∙ ap (any_in is_fail (turn_at s t)) is
    ∙ fails_whole (turn_at s t) past l later other

-- ---- the clients of a line

clients_more : (xs past : Past) → clients past ≤ clients (xs ++ past)
clients_more [] past = omega arith
clients_more (x ∷ xs) past =
    let rest : clients past ≤ clients (xs ++ past) = clients_more xs past in
    let more : clients (xs ++ past) ≤ max (clients (xs ++ past)) (max (node_clients x.at.node) (entry_clients x.entry)) = omega arith in
    omega arith

pub entry_within : (whole past : Past) (l : Line) (later : List Line) → whole ≡ reverse later ++ l ∷ past
    → entry_clients l.entry ≤ clients whole
entry_within whole past l later is =
    subst (λ (w : Past). entry_clients l.entry ≤ clients w) (sym is)
    (let rest : clients (l ∷ past) ≤ clients (reverse later ++ l ∷ past) = clients_more (reverse later) (l ∷ past) in
    let here : entry_clients l.entry ≤ max (clients past) (max (node_clients l.at.node) (entry_clients l.entry)) = omega arith in
    omega arith)
