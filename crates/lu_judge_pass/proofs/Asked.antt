-- The first request of a life and number, where one more is sent.
use Rattle.std.proofs.Common.{◌≡◌, Bool, true, false, Option, Some, None, refl, subst, ap, ◌∙◌}
use Rattle.std.specs.Prelude.{ℕ, ◌==◌, ◌&&◌, if◌then◌else◌, is_some}
use Rattle.std.specs.Option.{option_map}
use Rattle.std.proofs.lemmas.Bool.{eqb-true}
use Rattle.lu_base.specs.declared.ids.Node.TheVariants.{Target}
use Rattle.lu_base.specs.declared.ids.Who.{Who}
use Rattle.lu_msg.specs.declared.messages.Request.{Request}
use Rattle.lu_msg.specs.declared.messages.Message.TheVariants as message
use Rattle.lu_spec_machine.specs.Tree.{same_life}
use Rattle.lu_spec_laws.specs.Words.Pasts.{or_else}
use Rattle.lu_spec_laws.specs.Words.Requests.{first_with}
use Rattle.lu_spec_laws.proofs.Tests.{first_of, rest_of, life_is}
use Rattle.lu_judge_pass.specs.declared.requests.Requests.{Requests}
use Rattle.lu_judge_pass.specs.Ledgers.{request_in}

pub is_some_map : {A B : Type 0} (f : A → B) (o : Option A) → is_some (option_map f o) ≡ is_some o
is_some_map f None = refl
is_some_map f (Some x) = refl

or_none : {A : Type 0} (o : Option A) → o ≡ or_else o None
or_none None = refl
or_none (Some x) = refl

kept : {A : Type 0} (o p : Option A) → is_some o ≡ true → o ≡ or_else o p
kept None p is = absurd (cc)
kept (Some x) p is = refl

first : {A : Type 0} (o p : Option A) → is_some o ≡ false → p ≡ or_else o p
first None p is = refl
first (Some x) p is = absurd (cc)

-- whether a request to this target is the one that is asked for
abbrev pub is_it : ℕ → Request → ℕ → Who → ℕ → Bool
is_it target r t who x = (target == t && same_life r.who who) && r.xid.0 == x

same_request : (m : Requests) (target : ℕ) (r : Request) (t : ℕ) (who : Who) (x : ℕ) → is_it target r t who x ≡ true
    → request_in m target r.who r.xid.0 ≡ request_in m t who x
same_request m target r t who x e =
    let there : (target == t && same_life r.who who) ≡ true = first_of _ _ e in
    ap (λ (y : ℕ). request_in m target r.who y) (eqb-true r.xid.0 x (rest_of _ _ e))
    ∙ ap (λ (w : Who). request_in m target w x) (life_is r.who who (rest_of _ _ there))
    ∙ ap (λ (u : ℕ). request_in m u who x) (eqb-true target t (first_of _ _ there))

-- a request of this life and number was sent before
pub stays : (m : Requests) (target : ℕ) (r : Request) → is_some (request_in m target r.who r.xid.0) ≡ true
    → (t : ℕ) (who : Who) (x : ℕ) → request_in m t who x ≡ first_with (request_in m t who x) t who x (Target target) (message.Request r)
stays m target r is t who x = by (is_it target r t who x) refl where
  by : (it : Bool) → is_it target r t who x ≡ it → request_in m t who x ≡ or_else (request_in m t who x) (if it then Some r else None)
  by true e = kept (request_in m t who x) (Some r) (subst (λ (o : Option Request). is_some o ≡ true) (same_request m target r t who x e) is)
  by false e = or_none (request_in m t who x)

-- none was sent before, and this one is put there
pub comes : (m n : Requests) (target : ℕ) (r : Request) → is_some (request_in m target r.who r.xid.0) ≡ false
    → ((t : ℕ) (who : Who) (x : ℕ) → request_in n t who x ≡ (if is_it target r t who x then Some r else request_in m t who x))
    → (t : ℕ) (who : Who) (x : ℕ) → request_in n t who x ≡ first_with (request_in m t who x) t who x (Target target) (message.Request r)
comes m n target r is puts t who x = puts t who x ∙ by (is_it target r t who x) refl where
  by : (it : Bool) → is_it target r t who x ≡ it → (if it then Some r else request_in m t who x)
      ≡ or_else (request_in m t who x) (if it then Some r else None)
  by true e = first (request_in m t who x) (Some r) (subst (λ (o : Option Request). is_some o ≡ false) (same_request m target r t who x e)
      is)
  by false e = or_none (request_in m t who x)
