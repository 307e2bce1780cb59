-- A call that begins, and what the law says of it.
use Rattle.std.proofs.Common.{◌≡◌, ℕ, ◌<◌, Bool, true, List, ◌∷◌, ◌++◌, length, refl, ap, ◌∙◌, sym, subst, arith}
use Rattle.std.specs.Prelude.{reverse, IsTrue, ◌↔◌}
use Rattle.std.proofs.lemmas.List.{length-reverse, length-append}
use Rattle.lu_base.specs.declared.ids.At.{At}
use Rattle.lu_base.specs.declared.ids.Node.{Node}
use Rattle.lu_base.specs.declared.ids.Node.TheVariants.{Client}
use Rattle.lu_msg.specs.declared.calls.Call.{Call}
use Rattle.lu_trace.specs.declared.entries.Entry.{Entry}
use Rattle.lu_trace.specs.declared.entries.Entry.TheVariants.{Begin}
use Rattle.lu_trace.specs.declared.entries.Line.{Line}
use Rattle.lu_spec_laws.specs.Words.Pasts.{Past}
use Rattle.lu_spec_laws.specs.Words.Lives.{who_is}
use Rattle.lu_spec_laws.specs.Words.Repeats.{is_repeat}
use Rattle.lu_spec_laws.specs.Laws.Silent.{is_told_silently, BegunBy, SilentAt}
use Rattle.lu_judge_pass.specs.Places.{InOrder, turn_of}
use Rattle.lu_judge_pass.proofs.Rests.{is_told_silently_in_turn}

-- a call that repeats one whose answer is known
pub repeats : (past : Past) (at : At) (later : List Line) (node : Node) (client slot : ℕ) (call : Call) (silent : Bool) → node
    ≡ Client client → is_repeat (who_is client past) past call ≡ true
    → silent ≡ is_told_silently slot at (turn_of at later) → InOrder at later → IsTrue silent ↔ BegunBy past at later node slot call
repeats past at later node client slot call silent is repeat told order =
    let all : silent ≡ is_told_silently slot at later = told ∙ sym (is_told_silently_in_turn slot at later order) in
    subst (λ (n : Node). IsTrue silent ↔ BegunBy past at later n slot call) (sym is) (λ yes repeats. sym all ∙ yes, λ law. all ∙ law repeat)

-- the law says nothing of other lines
pub says_nothing : (past : Past) (at : At) (later : List Line) (e : Entry) → ((slot : ℕ) (call : Call) → e ≡ Begin slot call → ⊥)
    → SilentAt past at later e
says_nothing past at later (Begin slot call) other = absurd (other slot call refl)
says_nothing past at later _ other = tt

-- a past is no longer than the trace
pub shorter : (most : ℕ) (lines later : List Line) (l : Line) (past : Past) → reverse lines ≡ reverse later ++ l ∷ past
    → length lines < most → length past < most
shorter most lines later l past is short =
    omega (arith, ap length is, length-reverse lines, length-append (reverse later) (l ∷ past))
