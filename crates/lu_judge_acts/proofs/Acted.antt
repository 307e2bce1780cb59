-- Whether the call acted in the turn that is named.
use Rattle.std.proofs.Common.{◌≡◌, ℕ, ◌<◌, Bool, true, false, Option, Some, None, refl, sym, ap, subst, ◌∙◌, arith}
use Rattle.std.specs.Prelude.{◌==◌, ◌&&◌, ◌||◌, not, nat_lt, IsTrue, ◌↔◌}
use Rattle.std.proofs.lemmas.Bool.Decides.{nat_tests}
use Rattle.lu_base.specs.declared.ids.At.{At}
use Rattle.lu_base.specs.declared.ids.Who.{Who}
use Rattle.lu_msg.specs.declared.operations.Op.{Op}
use Rattle.lu_spec_laws.specs.Words.Pasts.{Past}
use Rattle.lu_spec_laws.specs.Words.Requests.{asked}
use Rattle.lu_spec_laws.specs.Words.Calls.{Begun}
use Rattle.lu_spec_laws.specs.Laws.Acts.{acted, made, told_with, standing_count, ActsThere, ActsFor}
use Rattle.lu_spec_laws.proofs.Tests.{clash, refuted, settled}

-- no request of that number was sent
pub none_asked : (lost : ℕ → ℕ → Bool) (whole past : Past) (who : Who) (begun : Begun) (turn : At) (x : ℕ) (op : Option Op)
    → asked past 0 who x ≡ None
    → ActsFor lost whole past who begun turn (Some x) op → ⊥
none_asked lost whole past who begun turn x None none acts = acts
none_asked lost whole past who begun turn x (Some op) none acts = let some : None ≡ Some op = sym none ∙ acts.request in absurd (cc)

same_op : (o p : Op) → Some o ≡ Some p → o ≡ p
same_op o p e = cc

-- what the law asks of the operation that was asked for
pub acts_needs : (lost : ℕ → ℕ → Bool) (whole past : Past) (who : Who) (begun : Begun) (turn : At) (x : ℕ) (o : Op) (op : Option Op)
    → asked past 0 who x ≡ Some o
    → ActsFor lost whole past who begun turn (Some x) op → ActsThere lost whole past who begun turn x o × (op ≡ Some o)
acts_needs lost whole past who begun turn x o None sent law = absurd law
acts_needs lost whole past who begun turn x o (Some p) sent law =
    let is : Some p ≡ Some o = sym law.request ∙ sent in
    (subst (λ (q : Op). ActsThere lost whole past who begun turn x q) (same_op p o is) law, is)

pub needs_acts : (lost : ℕ → ℕ → Bool) (whole past : Past) (who : Who) (begun : Begun) (turn : At) (x : ℕ) (o : Op) (op : Option Op) → op
    ≡ Some o
    → ActsThere lost whole past who begun turn x o → ActsFor lost whole past who begun turn (Some x) op
needs_acts lost whole past who begun turn x o op is there = subst (λ (q : Option Op). ActsFor lost whole past who begun turn (Some x) q)
    (sym is) there

-- ---- alone

none_stand : (n : ℕ) → nat_lt 0 n ≡ false → n ≡ 0
none_stand n is = grind (arith, nat_tests)

stand_none : (n : ℕ) → n ≡ 0 → nat_lt 0 n ≡ false
stand_none n is = grind (arith, nat_tests)

pub acted_none : (acts : Bool) (n : ℕ) → acts ≡ false → IsTrue true ↔ (acts ≡ true → n ≡ 0)
acted_none acts n acts_no = (λ so. λ acts_yes. absurd (clash acts acts_yes acts_no), λ law. refl)

pub acted_once : (acts one : Bool) (n : ℕ) → one ≡ nat_lt 0 n → acts ≡ true → IsTrue (not one) ↔ (acts ≡ true → n ≡ 0)
acted_once acts one n is acts_yes = (
  λ so. λ also. none_stand n (sym is ∙ refuted one so),
  λ law. settled one (is ∙ stand_none n (law acts_yes)),
)
