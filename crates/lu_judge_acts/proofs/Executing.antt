-- What a line makes of the table of what the metadata target executed.
use Rattle.std.proofs.Common.{◌≡◌, Bool, true, false, refl, sym, ap, subst, ◌∙◌, arith}
use Rattle.std.specs.Prelude.{ℕ, ◌==◌, ◌&&◌, ◌||◌, not, if◌then◌else◌, ◌∷◌}
use Rattle.std.proofs.lemmas.Bool.Decides.{nat_tests}
use Rattle.lu_base.specs.declared.ids.At.{At}
use Rattle.lu_base.specs.declared.ids.Node.{Node}
use Rattle.lu_base.specs.declared.ids.Node.TheVariants.{Client, Target}
use Rattle.lu_base.specs.declared.ids.Who.{Who}
use Rattle.lu_trace.specs.declared.entries.Entry.{Entry}
use Rattle.lu_trace.specs.declared.entries.Entry.TheVariants.{Act, Txn}
use Rattle.lu_spec_laws.specs.Words.Pasts.{Past, is_target, same_node, same_turn}
use Rattle.lu_spec_machine.specs.Tree.{same_life}
use Rattle.lu_spec_laws.proofs.Tests.{target_is}
use Rattle.lu_judge_acts.specs.Tables.{ShowsExecuted}
use Rattle.lu_judge_acts.specs.declared.executed.Executed.{Executed}

-- a request is put at its key

put_key : (zero stamp life number raw old : Bool) → (zero && raw) ≡ old
    → (zero && (if stamp && (life && number) then true else raw)) ≡ ((((true && (stamp && zero)) && life) && number) || old)
put_key true true true true raw old is = refl
put_key true true true false raw old is = is
put_key true true false number raw old is = is
put_key true false life number raw old is = is
put_key false true life number raw old is = is
put_key false false life number raw old is = is

zero_first : (t : ℕ) → (0 == t) ≡ (t == 0)
zero_first t = grind (arith, nat_tests)

at_zero : (here node : Node) → is_target 0 here ≡ true → same_node here node ≡ is_target 0 node
at_zero here node is = rw (target_is 0 here is) (by node) where
  by : (node : Node) → same_node (Target 0) node ≡ is_target 0 node
  by (Client c) = refl
  by (Target t) = zero_first t

pub key_put : (raw new : ℕ → Who → ℕ → Bool) (notion : At → Who → ℕ → Bool) (here : At) (w : Who) (y : ℕ) → is_target 0 here.node ≡ true
    → ((s : ℕ) (who : Who) (x : ℕ) → new s who x ≡ (if here.stamp.0 == s && (same_life w who && y == x) then true else raw s who x))
    → ((turn : At) (who : Who) (x : ℕ) → (is_target 0 turn.node && raw turn.stamp.0 who x) ≡ notion turn who x)
    → (turn : At) (who : Who) (x : ℕ) → (is_target 0 turn.node && new turn.stamp.0 who x)
    ≡ ((((is_target 0 here.node && same_turn here turn) && same_life w who) && y == x) || notion turn who x)
key_put raw new notion here w y is puts shown turn who x =
    let zero = is_target 0 turn.node in
    let stamp = here.stamp.0 == turn.stamp.0 in
    let life = same_life w who in
    ap (λ (b : Bool). zero && b) (puts turn.stamp.0 who x)
    ∙ put_key zero stamp life (y == x) (raw turn.stamp.0 who x) (notion turn who x) (shown turn who x)
    ∙ ap (λ (b : Bool). (((b && (stamp && zero)) && life) && y == x) || notion turn who x) (sym is)
    ∙ ap (λ (b : Bool). (((is_target 0 here.node && (stamp && b)) && life) && y == x) || notion turn who x)
    (sym (at_zero here.node turn.node is))

-- the transaction stands

and_stands : (b lost : Bool) → lost ≡ false → (b && not lost) ≡ b
and_stands true lost is = rw is refl
and_stands false lost is = refl

pub stands_put : (b lost old new : Bool) → lost ≡ false → new ≡ (b || old) → new ≡ ((b && not lost) || old)
stands_put b lost old new is puts = puts ∙ ap (λ (c : Bool). c || old) (sym (and_stands b lost is))
