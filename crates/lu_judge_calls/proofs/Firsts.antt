-- A value that counts where there was none at its key before.
use Rattle.std.proofs.Common.{◌≡◌, Bool, true, false, Option, Some, None, refl, sym, ap, ◌∙◌}
use Rattle.std.specs.Prelude.{ℕ, ◌==◌, ◌&&◌, if◌then◌else◌, is_some}
use Rattle.std.specs.Option.{option_map}
use Rattle.std.proofs.lemmas.Bool.{eqb-true}
use Rattle.lu_base.specs.declared.ids.Fid.{Fid}
use Rattle.lu_base.specs.declared.ids.Who.{Who}
use Rattle.lu_spec_machine.specs.Tree.{same_life}
use Rattle.lu_spec_laws.specs.Words.Pasts.{or_else}
use Rattle.lu_spec_laws.proofs.Tests.{first_of, rest_of, life_is}
use Rattle.lu_judge_calls.specs.declared.layouts.Layouts.{Layouts}
use Rattle.lu_judge_calls.specs.declared.sent.Sent.{Sent}
use Rattle.lu_judge_calls.specs.Marks.{same_file}
use Rattle.lu_judge_calls.specs.PieceTables.{layout_in, first_in}

pub is_some_map : {A B : Type 0} (f : A → B) (o : Option A) → is_some (option_map f o) ≡ is_some o
is_some_map f None = refl
is_some_map f (Some x) = refl

or_none : {A : Type 0} (o : Option A) → o ≡ or_else o None
or_none None = refl
or_none (Some x) = refl

kept : {A : Type 0} (o p : Option A) → is_some o ≡ true → o ≡ or_else o p
kept None p is = absurd (cc)
kept (Some x) p is = refl

first : {A : Type 0} (o p : Option A) → is_some o ≡ false → p ≡ or_else o p
first None p is = refl
first (Some x) p is = absurd (cc)

-- one is there
pub stays : {A : Type 0} (here : Bool) (own old : Option A) (x : A) → (here ≡ true → own ≡ old) → is_some own ≡ true
    → old ≡ or_else old (if here then Some x else None)
stays true own old x same is = kept old (Some x) (ap is_some (sym (same refl)) ∙ is)
stays false own old x same is = or_none old

-- none is there, and this one is put there
pub comes : {A : Type 0} (here : Bool) (own old new : Option A) (x : A) → (here ≡ true → own ≡ old) → is_some own ≡ false
    → new ≡ (if here then Some x else old) → new ≡ or_else old (if here then Some x else None)
comes true own old new x same is puts = puts ∙ first old (Some x) (ap is_some (sym (same refl)) ∙ is)
comes false own old new x same is puts = puts ∙ or_none old

pub put_map : {A B : Type 0} (f : A → B) (here : Bool) (x : A) (old new : Option A) → new ≡ (if here then Some x else old)
    → option_map f new ≡ (if here then Some (f x) else option_map f old)
put_map f true x old new is = ap (option_map f) is
put_map f false x old new is = ap (option_map f) is

pub same_layout : (t : Layouts) (who : Who) (fid : Fid) (w : Who) (f : Fid) → same_file who fid w f ≡ true → layout_in t who fid
    ≡ layout_in t w f
same_layout t who fid w f e =
    ap (λ (n : ℕ). layout_in t who (record { 0 = n })) (eqb-true fid.0 f.0 (rest_of _ _ e))
    ∙ ap (λ (v : Who). layout_in t v f) (life_is who w (first_of _ _ e))

-- whether a request to this target is the one that is asked for
abbrev pub is_it : ℕ → Who → ℕ → ℕ → Who → ℕ → Bool
is_it target own xid t who x = (target == t && same_life own who) && xid == x

pub same_sent : (s : Sent) (target : ℕ) (own : Who) (xid t : ℕ) (who : Who) (x : ℕ) → is_it target own xid t who x ≡ true
    → first_in s target own xid ≡ first_in s t who x
same_sent s target own xid t who x e =
    let there : (target == t && same_life own who) ≡ true = first_of _ _ e in
    ap (λ (y : ℕ). first_in s target own y) (eqb-true xid x (rest_of _ _ e))
    ∙ ap (λ (w : Who). first_in s target w x) (life_is own who (rest_of _ _ there))
    ∙ ap (λ (u : ℕ). first_in s u who x) (eqb-true target t (first_of _ _ there))
