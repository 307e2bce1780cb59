-- Deciders: of a condition a test that computes, and that the test tells the condition. On a worked trace the evidence
-- of a law, or its refutation, is then one `refl`: `says_yes (decide_law ..) refl`, `says_no (decide_law ..) refl`. The
-- test computes without the evidence, and looks no further than it must.
--     one from others      nothing, never, sure, wrong, like, both, three, four, five, six, either, unlike, implies
--     numbers and tests    numbers, up_to, below, bools, is_true, is_false, when, unless
--     each of a list       every, pairwise, holds
-- Values are compared by the words of `Same`. A record of conditions is decided like the tuple of its fields:
--     decide_turn : (past : Past) (l : Line) → Decided (TurnAt past l)
--     decide_turn past l =
--         like (λ t. record { order = t.0; living = t.1 }) (λ r. (r.order, r.living))
--         (both (decide_order past l) (is_false _))
pub mod Messages
pub mod Locks
pub mod Silent
pub mod Acts
pub mod Recovery
pub mod History
pub mod Glimpse
pub mod Orderly
pub mod Lawful
use Rattle.std.proofs.Common.{◌≡◌, ◌≢◌, ℕ, ◌<◌, ◌≤◌, Bool, true, false, not, List, [], ◌∷◌, ◌⊎◌, inl, inr, leb, ltb, eqb, refl, sym, ◌∙◌}
use Rattle.std.specs.Bool.{Decides, beq}
use Rattle.std.specs.Cmp.{booleans_Decides}
use Rattle.std.proofs.lemmas.Bool.{true≢false, leb-true, le-leb}
use Rattle.std.proofs.lemmas.Bool.Decides.{Decides-not, Decides-like, Decides-eqb, Decides-ltb, not_from_Decides}
use Rattle.lu_trace.specs.declared.entries.Line.{Line}
use Rattle.lu_spec_machine.specs.Footprint.{Every}
use Rattle.lu_spec_laws.specs.Words.Pasts.{Past}
use Rattle.lu_spec_laws.specs.Holds.{HoldsBefore, Holds}
use Rattle.lu_spec_laws.specs.Laws.Acts.{Pairwise}

pub record Decided (A : Type 0) : Type 0 where
  pub answer : Bool
  pub decides : Decides answer A

pub says_yes : {A : Type 0} → (d : Decided A) → d.answer ≡ true → A
says_yes d is = d.decides.0 is

pub says_no : {A : Type 0} → (d : Decided A) → d.answer ≡ false → A → ⊥
says_no d is a = true≢false (sym (d.decides.1 a) ∙ is)

-- ---- from other conditions

-- tests that look at the second where the first leaves it open
abbrev pub and_then : Bool → Bool → Bool
and_then a b = elim a [ true ↦ b | false ↦ false ]

abbrev pub or_then : Bool → Bool → Bool
or_then a b = elim a [ true ↦ true | false ↦ b ]

abbrev pub if_then : Bool → Bool → Bool
if_then a b = elim a [ true ↦ b | false ↦ true ]

module _ {A : Type 0} where
  pub Decides-yes : A → Decides true A
  Decides-yes a = (λ _. a, λ _. refl)

  pub Decides-wrong : (A → ⊥) → Decides false A
  Decides-wrong refuted = (λ e. absurd (true≢false (sym e)), λ a. absurd (refuted a))

  abbrev pub sure : A → Decided A
  sure a = record { answer = true; decides = Decides-yes a }

  abbrev pub wrong : (A → ⊥) → Decided A
  wrong refuted = record { answer = false; decides = Decides-wrong refuted }

-- where nothing is asked, and where nothing is allowed
abbrev pub nothing : Decided (Unit {0})
nothing = sure tt

abbrev pub never : Decided ⊥
never = wrong (λ a. a)

module _ {A B : Type 0} where
  pub Decides-both : (x y : Bool) → Decides x A → Decides y B → Decides (and_then x y) (A × B)
  Decides-both true y h k = (λ e. (h.0 refl, k.0 e), λ p. k.1 p.1)
  Decides-both false y h k = Decides-wrong (λ p. true≢false (sym (h.1 p.0)))

  pub Decides-either : (x y : Bool) → Decides x A → Decides y B → Decides (or_then x y) (A ⊎ B)
  Decides-either true y h k = Decides-yes (inl (h.0 refl))
  Decides-either false y h k = (λ e. inr (k.0 e), by)
    where
      by : A ⊎ B → y ≡ true
      by (inl a) = absurd (true≢false (sym (h.1 a)))
      by (inr b) = k.1 b

  pub Decides-implies : (x y : Bool) → Decides x A → Decides y B → Decides (if_then x y) (A → B)
  Decides-implies true y h k = (λ e a. k.0 e, λ f. k.1 (f (h.0 refl)))
  Decides-implies false y h k = Decides-yes (λ a. absurd (true≢false (sym (h.1 a))))

  -- of conditions that give each other
  abbrev pub like : (A → B) → (B → A) → Decided A → Decided B
  like f g d = record { answer = d.answer; decides = Decides-like d.answer f g d.decides }

  abbrev pub both : Decided A → Decided B → Decided (A × B)
  both d e =
      record { answer = and_then d.answer e.answer; decides = Decides-both d.answer e.answer d.decides e.decides }

  abbrev pub either : Decided A → Decided B → Decided (A ⊎ B)
  either d e =
      record { answer = or_then d.answer e.answer; decides = Decides-either d.answer e.answer d.decides e.decides }

  abbrev pub implies : Decided A → Decided B → Decided (A → B)
  implies d e =
      record { answer = if_then d.answer e.answer; decides = Decides-implies d.answer e.answer d.decides e.decides }

module _ {A : Type 0} where
  abbrev pub unlike : Decided A → Decided (A → ⊥)
  unlike d = record { answer = not d.answer; decides = Decides-not d.answer d.decides }

module _ {A B C : Type 0} where
  abbrev pub three : Decided A → Decided B → Decided C → Decided (A × B × C)
  three a b c = like (λ t. (t.0, t.1.0, t.1.1)) (λ t. (t.0, (t.1, t.2))) (both a (both b c))

module _ {A B C D : Type 0} where
  abbrev pub four : Decided A → Decided B → Decided C → Decided D → Decided (A × B × C × D)
  four a b c d = like (λ t. (t.0, t.1.0, t.1.1, t.1.2)) (λ t. (t.0, (t.1, t.2, t.3))) (both a (three b c d))

module _ {A B C D E : Type 0} where
  abbrev pub five : Decided A → Decided B → Decided C → Decided D → Decided E → Decided (A × B × C × D × E)
  five a b c d e =
      like (λ t. (t.0, t.1.0, t.1.1, t.1.2, t.1.3)) (λ t. (t.0, (t.1, t.2, t.3, t.4))) (both a (four b c d e))

module _ {A B C D E F : Type 0} where
  abbrev pub six :
      Decided A → Decided B → Decided C → Decided D → Decided E → Decided F → Decided (A × B × C × D × E × F)
  six a b c d e f =
      like (λ t. (t.0, t.1.0, t.1.1, t.1.2, t.1.3, t.1.4)) (λ t. (t.0, (t.1, t.2, t.3, t.4, t.5)))
      (both a (five b c d e f))

-- ---- numbers and tests

abbrev pub numbers : (a b : ℕ) → Decided (a ≡ b)
numbers a b = record { answer = eqb a b; decides = Decides-eqb a b }

abbrev pub up_to : (a b : ℕ) → Decided (a ≤ b)
up_to a b = record { answer = leb a b; decides = (leb-true a b, le-leb a b) }

abbrev pub below : (a b : ℕ) → Decided (a < b)
below a b = record { answer = ltb a b; decides = Decides-ltb a b }

abbrev pub bools : (a b : Bool) → Decided (a ≡ b)
bools a b = record { answer = beq a b; decides = booleans_Decides a b }

abbrev pub is_true : (b : Bool) → Decided (b ≡ true)
is_true b = record { answer = b; decides = (λ e. e, λ e. e) }

pub Decides-false : (b : Bool) → Decides (not b) (b ≡ false)
Decides-false true = Decides-wrong (λ e. true≢false e)
Decides-false false = Decides-yes refl

abbrev pub is_false : (b : Bool) → Decided (b ≡ false)
is_false b = record { answer = not b; decides = Decides-false b }

module _ {A : Type 0} where
  -- what is asked where a test is true, and where it is false
  abbrev pub when : (b : Bool) → Decided A → Decided (b ≡ true → A)
  when b d = implies (is_true b) d

  abbrev pub unless : (b : Bool) → Decided A → Decided (b ≡ false → A)
  unless b d = implies (is_false b) d

-- ---- each of a list

module _ {A : Type 0} where
  abbrev pub every : {P : A → Type 0} → ((a : A) → Decided (P a)) → (xs : List A) → Decided (Every P xs)
  every d [] = nothing
  every d (x ∷ xs) = both (d x) (every d xs)

  abbrev pub pairwise : {R : A → A → Type 0} → ((a b : A) → Decided (R a b)) → (xs : List A) → Decided (Pairwise R xs)
  pairwise d [] = nothing
  pairwise d (x ∷ xs) = both (every (d x) xs) (pairwise d xs)

-- a law at every line of a whole trace
abbrev pub Deciding : (Past → Line → List Line → Type 0) → Type 0
Deciding law = (past : Past) (l : Line) (later : List Line) → Decided (law past l later)

module _ {law : Past → Line → List Line → Type 0} (d : Deciding law) where
  abbrev pub holds_before : (later : List Line) (past : Past) → Decided (HoldsBefore law later past)
  holds_before later [] = nothing
  holds_before later (l ∷ past) = both (d past l later) (holds_before (l ∷ later) past)

  abbrev pub holds : (whole : Past) → Decided (Holds law whole)
  holds whole = holds_before [] whole
