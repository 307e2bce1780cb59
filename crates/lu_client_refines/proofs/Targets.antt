-- An entry that is about one target changes the import of that target alone; what a client keeps of its imports, target by
-- target.
use Rattle.std.proofs.Common.{◌≡◌, ◌≢◌, ℕ, zero, suc, ◌+◌, ◌<◌, ◌==◌, Bool, true, false, if◌then◌else◌, List, [], ◌∷◌, ◌++◌, length, get_or}
use Rattle.std.proofs.Common.{Option, Some, refl, sym, ap, subst, ◌∙◌, arith}
use Rattle.std.specs.Prelude.{slice_set, slice_get}
use Rattle.std.proofs.lemmas.Bool.{eqb-true}
use Rattle.std.proofs.lemmas.Bool.Decides.{nat_tests}
use Rattle.std.proofs.lemmas.Option.{slice_get_within, get_or_from_slice_get}
use Rattle.std.proofs.lemmas.List.{map-set, length-map, length-set, set-set}
use Rattle.lu_base.specs.declared.ids.Who.{Who}
use Rattle.lu_base.specs.declared.locks.Lock.{Lock}
use Rattle.lu_import.specs.Imports.{ImportState}
use Rattle.lu_spec_entries.specs.Concerns.{is_about}
use Rattle.lu_spec_entries.specs.Words.{Entry, Heard, Hold, Life, Queues, Flies, Knows, Serves, Settles}
use Rattle.lu_spec_client.specs.Imports.{Import, import_after, imports_from, imports_after, import_of}
use Rattle.lu_spec_client.specs.States.{Limits}
use Rattle.lu_client_refines.specs.Imports.{import_of_state, imports_of, IsOne, AreImports, WasTold}
use Rattle.lu_client_refines.specs.Turns.{import_turn, imports_turn, reads_import, is_at, all_at}
use Rattle.lu_client_refines.proofs.Hearing.{told_stays}
use Rattle.lu_client_refines.proofs.Lists.{both_true}
use Rattle.lu_client_refines.proofs.Turns.{import_stays}

-- ---- one entry

-- whether the import of target u goes on as if the entry were about target t alone
abbrev ChangesAt : ℕ → Entry → Type 0
ChangesAt t e = (u : ℕ) (i : Import) → (if is_about u e then import_after i e else i) ≡ (if u == t then import_after i e else i)

-- it is about that target and no other
only_changes : (t : ℕ) (e : Entry) → ((u : ℕ) → is_about u e ≡ (u == t)) → ChangesAt t e
only_changes t e only u i = ap (λ (b : Bool). if b then import_after i e else i) (only u)

of_target : (t v : ℕ) → (v == t) ≡ true → (u : ℕ) (x y : Import) → (if u == v then x else y) ≡ (if u == t then x else y)
of_target t v same u x y = ap (λ (w : ℕ). if u == w then x else y) (eqb-true v t same)

either : {A : Type 0} (a b : Bool) (x : A) → (if a then x else x) ≡ (if b then x else x)
either true true x = refl
either true false x = refl
either false true x = refl
either false false x = refl

at_changes : (t : ℕ) (e : Entry) → is_at t e ≡ true → ChangesAt t e
at_changes t (Heard v flight reply) at u i = of_target t v at u (import_after i (Heard v flight reply)) i
at_changes t (Hold v lock marked size seen) at u i = of_target t v at u (import_after i (Hold v lock marked size seen)) i
at_changes t (Queues v queued) at u i = of_target t v at u (import_after i (Queues v queued)) i
at_changes t (Flies v flight) at u i = of_target t v at u (import_after i (Flies v flight)) i
at_changes t (Knows v boot) at u i = of_target t v at u (import_after i (Knows v boot)) i
at_changes t (Serves v boot) at u i = of_target t v at u (import_after i (Serves v boot)) i
at_changes t (Settles v to) at u i = of_target t v at u (import_after i (Settles v to)) i
at_changes t (Life who) at u i = absurd (cc)
at_changes t e at u i = quiet e refl u i where
  quiet : (e : Entry) → reads_import e ≡ false → ChangesAt t e
  quiet e unread u i =
      let same : import_after i e ≡ i = import_stays i e unread in
      ap (λ (j : Import). if is_about u e then j else i) same ∙ either (is_about u e) (u == t) i
      ∙ sym (ap (λ (j : Import). if u == t then j else i) same)

-- the targets past it
past : (t : ℕ) (e : Entry) → ChangesAt t e → (n : ℕ) → t < n → (imports : List Import) → imports_from n imports e ≡ imports
past t e changes n less [] = refl
past t e changes n less (i ∷ imports) =
    let off : (n == t) ≡ false = grind (arith, nat_tests) in
    ap (λ (j : Import). j ∷ imports_from (suc n) imports e) (changes n i ∙ rw off refl)
    ∙ ap (λ (is : List Import). i ∷ is) (past t e changes (suc n) (omega arith) imports)

from : (t : ℕ) (e : Entry) → ChangesAt t e → (n k : ℕ) → n + k ≡ t → (imports : List Import) → imports_from n imports e
    ≡ slice_set imports k (import_after (import_of k imports) e)
from t e changes n zero at [] = refl
from t e changes n (suc k) at [] = refl
from t e changes n zero at (i ∷ imports) =
    let on : (n == t) ≡ true = grind (arith, nat_tests) in
    ap (λ (j : Import). j ∷ imports_from (suc n) imports e) (changes n i ∙ rw on refl)
    ∙ ap (λ (is : List Import). import_after i e ∷ is) (past t e changes (suc n) (omega arith) imports)
from t e changes n (suc k) at (i ∷ imports) =
    let off : (n == t) ≡ false = grind (arith, nat_tests) in
    ap (λ (j : Import). j ∷ imports_from (suc n) imports e) (changes n i ∙ rw off refl)
    ∙ ap (λ (is : List Import). i ∷ is) (from t e changes (suc n) k (omega arith) imports)

-- an entry that is about none of these targets
apart_from : (n : ℕ) (imports : List Import) (e : Entry) → ((u : ℕ) → is_about u e ≡ false) → imports_from n imports e ≡ imports
apart_from n [] e none = refl
apart_from n (i ∷ imports) e none =
    ap (λ (b : Bool). (if b then import_after i e else i) ∷ imports_from (suc n) imports e) (none n)
    ∙ ap (λ (is : List Import). i ∷ is) (apart_from (suc n) imports e none)

-- an entry that is about no target leaves all
pub imports_apart : (imports : List Import) (e : Entry) → ((u : ℕ) → is_about u e ≡ false) → imports_after imports e ≡ imports
imports_apart imports e none = apart_from 0 imports e none

-- an entry that is about this target and no other
pub imports_only : (t : ℕ) (imports : List Import) (e : Entry) → ((u : ℕ) → is_about u e ≡ (u == t)) → imports_after imports e
    ≡ slice_set imports t (import_after (import_of t imports) e)
imports_only t imports e only = from t e (only_changes t e only) 0 t (omega arith) imports

-- or one that changes this import alone, or none
pub imports_at : (t : ℕ) (imports : List Import) (e : Entry) → is_at t e ≡ true → imports_after imports e
    ≡ slice_set imports t (import_after (import_of t imports) e)
imports_at t imports e at = from t e (at_changes t e at) 0 t (omega arith) imports

-- ---- the import of one target

-- where it was put
pub import_of_set : (t : ℕ) (imports : List Import) (i : Import) → t < length imports → import_of t (slice_set imports t i) ≡ i
import_of_set t [] i inside = absurd (omega arith)
import_of_set zero (j ∷ imports) i inside = refl
import_of_set (suc t) (j ∷ imports) i inside = import_of_set t imports i (omega arith)

-- another stays
pub import_of_other : (t u : ℕ) (imports : List Import) (i : Import) → u ≢ t → import_of u (slice_set imports t i) ≡ import_of u imports
import_of_other zero u [] i apart = refl
import_of_other (suc t) u [] i apart = refl
import_of_other zero zero (j ∷ imports) i apart = absurd (apart refl)
import_of_other zero (suc u) (j ∷ imports) i apart = refl
import_of_other (suc t) zero (j ∷ imports) i apart = refl
import_of_other (suc t) (suc u) (j ∷ imports) i apart = import_of_other t u imports i (λ same. apart (ap suc same))

-- as it stands in the list
pub import_of_get : (t : ℕ) (imports : List Import) (d : Import) → t < length imports → import_of t imports ≡ get_or imports t d
import_of_get t [] d inside = absurd (omega arith)
import_of_get zero (i ∷ imports) d inside = refl
import_of_get (suc t) (i ∷ imports) d inside = import_of_get t imports d (omega arith)

-- as the code keeps it
pub import_of_at : (t : ℕ) (is : List ImportState) (d : ImportState) → t < length is → import_of t (imports_of is)
    ≡ import_of_state (get_or is t d)
import_of_at t [] d inside = absurd (omega arith)
import_of_at zero (i ∷ is) d inside = refl
import_of_at (suc t) (i ∷ is) d inside = import_of_at t is d (omega arith)

-- the same where it was looked up
pub import_of_some : (t : ℕ) (is : List ImportState) (i : ImportState) → slice_get is t ≡ Some i → import_of t (imports_of is)
    ≡ import_of_state i
import_of_some t [] i some = absurd (cc)
import_of_some zero (j ∷ is) i some = let same : j ≡ i = cc in ap import_of_state same
import_of_some (suc t) (j ∷ is) i some = import_of_some t is i some

-- ---- a list of entries about one target

set_same : (t : ℕ) (imports : List Import) → imports ≡ slice_set imports t (import_of t imports)
set_same zero [] = refl
set_same (suc t) [] = refl
set_same zero (i ∷ imports) = refl
set_same (suc t) (i ∷ imports) = ap (λ is. i ∷ is) (set_same t imports)

-- the imports after entries about this target
pub imports_turn_at : (t : ℕ) (imports : List Import) (es : List Entry) → t < length imports → all_at t es ≡ true → imports_turn imports es
    ≡ slice_set imports t (import_turn (import_of t imports) es)
imports_turn_at t imports [] inside all = set_same t imports
imports_turn_at t imports (e ∷ es) inside all =
    let h : (is_at t e ≡ true) × (all_at t es ≡ true) = both_true (is_at t e) (all_at t es) all in
    let next : Import = import_after (import_of t imports) e in
    let count : length (slice_set imports t next) ≡ length imports = length-set imports t next in
    ap (λ (is : List Import). imports_turn is es) (imports_at t imports e h.0)
    ∙ imports_turn_at t (slice_set imports t next) es (omega arith) h.1
    ∙ ap (λ (i : Import). slice_set (slice_set imports t next) t (import_turn i es)) (import_of_set t imports next inside)
    ∙ set-set imports t next (import_turn next es)

-- two lists, one after the other
pub all_at_more : (t : ℕ) (es fs : List Entry) → all_at t es ≡ true → all_at t fs ≡ true → all_at t (es ++ fs) ≡ true
all_at_more t [] fs one two = two
all_at_more t (e ∷ es) fs one two =
    let h : (is_at t e ≡ true) × (all_at t es ≡ true) = both_true (is_at t e) (all_at t es) one in
    rw h.0 (all_at_more t es fs h.1 two)

-- the import that was changed is put in its place: the imports are as the entries leave them
pub imports_shown : (t : ℕ) (is : List ImportState) (new d : ImportState) (es : List Entry) → t < length is → all_at t es ≡ true
    → import_of_state new ≡ import_turn (import_of_state (get_or is t d)) es → imports_of (slice_set is t new)
    ≡ imports_turn (imports_of is) es
imports_shown t is new d es inside all shown =
    let count : length (imports_of is) ≡ length is = length-map is import_of_state in
    map-set import_of_state is t new
    ∙ ap (slice_set (imports_of is) t) (shown ∙ ap (λ (i : Import). import_turn i es) (sym (import_of_at t is d inside)))
    ∙ sym (imports_turn_at t (imports_of is) es (omega arith) all)

-- the same where it was looked up
pub imports_shown_some : (t : ℕ) (is : List ImportState) (old new : ImportState) (es : List Entry) → slice_get is t ≡ Some old → all_at t es
    ≡ true → import_of_state new ≡ import_turn (import_of_state old) es → imports_of (slice_set is t new) ≡ imports_turn (imports_of is) es
imports_shown_some t is old new es some all shown =
    imports_shown t is new old es (slice_get_within is t old some) all
    (shown ∙ ap (λ (i : ImportState). import_turn (import_of_state i) es) (sym (get_or_from_slice_get is t old old some)))

-- ---- what a client keeps of its imports

-- the import of a target, counted from a first one
pub one_from : (limits : Limits) (who : Who) (n k t : ℕ) → n + k ≡ t → (is : List ImportState) (d : ImportState)
    → AreImports limits who n is → k < length is → IsOne limits who t (get_or is k d)
one_from limits who n k t at [] d are inside = absurd (omega arith)
one_from limits who n zero t at (i ∷ is) d are inside = let same : n ≡ t = omega arith in subst (λ (u : ℕ). IsOne limits who u i) same are.0
one_from limits who n (suc k) t at (i ∷ is) d are inside = one_from limits who (suc n) k t (omega arith) is d are.1 (omega arith)

-- the import of a target
pub one_of : (limits : Limits) (who : Who) (t : ℕ) (is : List ImportState) (d : ImportState) → AreImports limits who 0 is → t < length is
    → IsOne limits who t (get_or is t d)
one_of limits who t is d are inside = one_from limits who 0 t t (omega arith) is d are inside

-- the same where it was looked up
pub one_some : (limits : Limits) (who : Who) (t : ℕ) (is : List ImportState) (i : ImportState) → AreImports limits who 0 is → slice_get is t
    ≡ Some i → IsOne limits who t i
one_some limits who t is i are some = subst (IsOne limits who t) (get_or_from_slice_get is t i i some)
    (one_of limits who t is i are (slice_get_within is t i some))

-- one that was changed is put in its place, counted from a first target
pub are_from : (limits : Limits) (who : Who) (n k t : ℕ) → n + k ≡ t → (is : List ImportState) (new : ImportState)
    → AreImports limits who n is → IsOne limits who t new → AreImports limits who n (slice_set is k new)
are_from limits who n zero t at [] new are one = tt
are_from limits who n (suc k) t at [] new are one = tt
are_from limits who n zero t at (i ∷ is) new are one = let same : t ≡ n = omega arith
    in (subst (λ (u : ℕ). IsOne limits who u new) same one, are.1)
are_from limits who n (suc k) t at (i ∷ is) new are one = (are.0, are_from limits who (suc n) k t (omega arith) is new are.1 one)

-- one that was changed is put in its place
pub are_set : (limits : Limits) (who : Who) (t : ℕ) (is : List ImportState) (new : ImportState) → AreImports limits who 0 is
    → IsOne limits who t new → AreImports limits who 0 (slice_set is t new)
are_set limits who t is new are one = are_from limits who 0 t t (omega arith) is new are one

-- one more target
pub are_push : (limits : Limits) (who : Who) (n t : ℕ) (is : List ImportState) (new : ImportState) → n + length is ≡ t
    → AreImports limits who n is → IsOne limits who t new → AreImports limits who n (is ++ new ∷ [])
are_push limits who n t [] new at are one = let same : t ≡ n = omega arith in (subst (λ (u : ℕ). IsOne limits who u new) same one, tt)
are_push limits who n t (i ∷ is) new at are one = (are.0, are_push limits who (suc n) t is new (omega arith) are.1 one)

-- a lock that tells what its target's import was told already leaves them
pub imports_told : (t : ℕ) (imports : List Import) (l : Lock) (marked : Bool) (size : Option ℕ) (seen : List ℕ)
    → WasTold seen (import_of t imports).kept → imports_after imports (Hold t l marked size seen) ≡ imports
imports_told t imports l marked size seen told =
    imports_only t imports (Hold t l marked size seen) (λ u. refl)
    ∙ ap (slice_set imports t) (told_stays (import_of t imports) t l marked size seen told)
    ∙ sym (set_same t imports)

-- of a run's limits they read how many requests may be in flight
pub are_limits : (a b : Limits) (who : Who) (n : ℕ) (is : List ImportState) → a.flight ≡ b.flight → AreImports a who n is
    → AreImports b who n is
are_limits a b who n [] same are = tt
are_limits a b who n (i ∷ is) same are = (
  record { target = are.0.target; life = are.0.life; flight = are.0.flight ∙ same; sound = are.0.sound },
  are_limits a b who (suc n) is same are.1,
)
