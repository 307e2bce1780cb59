-- Facts that may be used are those under locks that are held and not called back.
use Rattle.std.proofs.Common.{◌≡◌, ◌&&◌, Bool, true, false, cond, List, [], ◌∷◌, refl, ap, sym, subst, ◌∙◌}
use Rattle.std.specs.Prelude.{filter, IfOk, OnOk}
use Rattle.std.specs.declared.result.Result.{Result}
use Rattle.std.specs.declared.result.Result.TheVariants.{Ok, Err}
use Rattle.lu_base.specs.declared.ids.Cookie.{Cookie}
use Rattle.lu_part.specs.declared.parts.Part.{Part}
use Rattle.lu_held.specs.declared.locks.HeldLock.{HeldLock}
use Rattle.lu_spec_client.specs.Facts.{Fact}
use Rattle.lu_spec_client.specs.Known.{Notes, same_part, is_usable, of_least_cookie, fact_on}
use Rattle.lu_cache.specs.Usable.{fact_under, Agrees, AreSeen}

filter_agree : (p : Part) (may_use : Cookie → Bool) (held : List HeldLock) (facts : List Fact) → Agrees may_use held facts
    → filter (λ (f : Fact). same_part p f.part && may_use f.cookie) facts
    ≡ filter (λ (f : Fact). same_part p f.part && is_usable f.cookie held) facts
filter_agree p may_use held [] agree = refl
filter_agree p may_use held (f ∷ facts) agree = rw (agree.0, filter_agree p may_use held facts agree.1) refl

pub seen_under : (p : Part) (may_use : Cookie → Bool) (facts : List Fact) (n : Notes) → AreSeen may_use facts n → fact_under p may_use facts
    ≡ fact_on p n
seen_under p may_use facts n seen =
    ap of_least_cookie (filter_agree p may_use n.held facts seen.1)
    ∙ ap (λ (all : List Fact). of_least_cookie (filter (λ (f : Fact). same_part p f.part && is_usable f.cookie n.held) all)) (sym seen.0)

-- the locks that are held agree with themselves
pub agrees_held : (held : List HeldLock) (facts : List Fact) → Agrees (λ c. is_usable c held) held facts
agrees_held held [] = tt
agrees_held held (f ∷ facts) = (refl, agrees_held held facts)

-- what is said of a value that is Ok
pub if_ok : {T E : Type 0} {P Q : T → Type 0} (r : Result T E) → ((x : T) → P x → Q x) → IfOk r P → IfOk r Q
if_ok (Ok x) more h = more x h
if_ok (Err e) more h = h

pub if_on : {T E P Q : Type 0} (r : Result T E) → (P → Q) → OnOk r P → OnOk r Q
if_on (Ok x) more h = more h
if_on (Err e) more h = h
