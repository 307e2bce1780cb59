-- A list read into a table, item by item.
use Rattle.std.proofs.Common.{◌≡◌, ℕ, ◌+◌, ◌<◌, ◌≤◌, Bool, true, false, List, [], ◌∷◌, ◌++◌, map, length, take, refl, ap, sym, ◌∙◌, subst}
use Rattle.std.proofs.Common.{arith}
use Rattle.std.specs.Prelude.{◌==◌, ◌&&◌, ◌||◌, nat_eq, reverse, filter, slice_index_or, if◌then◌else◌, Option, Some, None}
use Rattle.std.specs.List.{list_any}
use Rattle.std.proofs.lemmas.List.{take_more, take_all, reverse-append}
use Rattle.std.proofs.lemmas.List.Folds.{list_any_more}
use Rattle.std.proofs.lemmas.Bool.{eqb-true, eq-eqb, ne_eqb}
use Rattle.lu_base.specs.declared.ids.Who.{Who}
use Rattle.lu_base.specs.declared.locks.Cause.{Cause}
use Rattle.lu_base.specs.declared.locks.Lock.{Lock as LockOf}
use Rattle.lu_msg.specs.declared.messages.LockReplay.{LockReplay}
use Rattle.lu_spec_machine.specs.Tree.{same_life}
use Rattle.lu_spec_laws.specs.Words.Pasts.{Past}
use Rattle.lu_spec_laws.specs.Words.Lost.{is_among}
use Rattle.lu_spec_laws.specs.Words.Closes.{cause_at, is_lock, find_lock, lock_of, stays_at}
use Rattle.lu_spec_laws.proofs.Tests.{life_is}
use Rattle.lu_judge_recovery.specs.Closings.{is_listed}

-- ---- numbers

or_last : (old here : Bool) (new : Bool) → new ≡ (if here then true else old) → new ≡ (old || here)
or_last true true new is = is
or_last true false new is = is
or_last false true new is = is
or_last false false new is = is

same_number : (a b : ℕ) → (a == b) ≡ (b == a)
same_number a b = by (a == b) refl where
  by : (same : Bool) → (a == b) ≡ same → same ≡ (b == a)
  by true is = sym (eq-eqb b a (sym (eqb-true a b is)))
  by false is = sym (ne_eqb b a (λ e. absurd (cc (sym is ∙ eq-eqb a b (sym e)))))

pub number_added : (numbers : List ℕ) (place n : ℕ) (new old : Bool) → place < length numbers → new
    ≡ (if slice_index_or numbers place 0 == n then true else old)
    → old ≡ is_among (take place numbers) n → new ≡ is_among (take (place + 1) numbers) n
number_added numbers place n new old below puts shown =
    or_last old (slice_index_or numbers place 0 == n) new puts
    ∙ ap (λ (b : Bool). b || (slice_index_or numbers place 0 == n)) shown
    ∙ ap (λ (b : Bool). is_among (take place numbers) n || b) (same_number (slice_index_or numbers place 0) n)
    ∙ sym (list_any_more (nat_eq n) numbers place 0 below)

-- ---- causes

cause_put : (old same : Bool) (here there : Option Cause) (new : Option (Option Cause)) → (same ≡ true → here ≡ there) → new
    ≡ (if same then Some here else (if old then Some there else None))
    → new ≡ (if old || same then Some there else None)
cause_put true true here there new is puts = puts ∙ ap (λ (c : Option Cause). Some c) (is refl)
cause_put true false here there new is puts = puts
cause_put false true here there new is puts = puts ∙ ap (λ (c : Option Cause). Some c) (is refl)
cause_put false false here there new is puts = puts

pub cause_added : (lives : List Who) (place t : ℕ) (past : Past) (d who : Who) (new old : Option (Option Cause)) → place < length lives
    → new ≡ (if same_life (slice_index_or lives place d) who then Some (cause_at t past (slice_index_or lives place d)) else old)
    → old ≡ (if is_listed (take place lives) who then Some (cause_at t past who) else None)
    → new ≡ (if is_listed (take (place + 1) lives) who then Some (cause_at t past who) else None)
cause_added lives place t past d who new old below puts shown =
    cause_put (is_listed (take place lives) who) (same_life (slice_index_or lives place d) who)
    (cause_at t past (slice_index_or lives place d)) (cause_at t past who) new
    (λ same. ap (cause_at t past) (life_is (slice_index_or lives place d) who same))
    (puts ∙ ap (λ (o : Option (Option Cause)). if same_life (slice_index_or lives place d) who
    then Some (cause_at t past (slice_index_or lives place d)) else o) shown)
    ∙ ap (λ (b : Bool). if b then Some (cause_at t past who) else None)
    (sym (list_any_more (λ (w : Who). same_life w who) lives place d below))

-- ---- locks

-- of locks that were handed in, the last one first, those of lives that stay
abbrev pub restored_of : (LockReplay → Bool) → List LockReplay → List LockOf
restored_of stays replays = map lock_of (filter stays replays)

abbrev pub read_of : {A : Type 0} → (A → LockReplay) → List A → ℕ → List LockReplay
read_of now read place = reverse (map now (take place read))

map_more : {A B : Type 0} (f : A → B) (xs ys : List A) → map f (xs ++ ys) ≡ map f xs ++ map f ys
map_more f [] ys = refl
map_more f (x ∷ xs) ys = ap (λ zs. f x ∷ zs) (map_more f xs ys)

pub read_more : {A : Type 0} (now : A → LockReplay) (read : List A) (place : ℕ) (d : A) → place < length read
    → read_of now read (place + 1) ≡ now (slice_index_or read place d) ∷ read_of now read place
read_more now read place d below =
    ap (λ xs. reverse (map now xs)) (take_more read place d below)
    ∙ ap reverse (map_more now (take place read) (slice_index_or read place d ∷ []))
    ∙ reverse-append (map now (take place read)) (now (slice_index_or read place d) ∷ [])

-- one more lock, where its life stays
pub lock_added : (stays : LockReplay → Bool) (r : LockReplay) (older : List LockReplay) (who : Who) (cookie : ℕ) (new old : Option LockOf)
    → new ≡ (if stays r && is_lock who cookie (lock_of r) then Some (lock_of r) else old) → old
    ≡ find_lock who cookie (restored_of stays older)
    → new ≡ find_lock who cookie (restored_of stays (r ∷ older))
lock_added stays r older who cookie new old puts shown =
    puts ∙ ap (λ (o : Option LockOf). if stays r && is_lock who cookie (lock_of r) then Some (lock_of r) else o) shown ∙ by (stays r) where
      by : (b : Bool) → (if b && is_lock who cookie (lock_of r) then Some (lock_of r) else find_lock who cookie (restored_of stays older))
          ≡ find_lock who cookie (map lock_of (if b then r ∷ filter stays older else filter stays older))
      by true = refl
      by false = refl

pub read_all : {A : Type 0} (now : A → LockReplay) (read : List A) (place : ℕ) → length read ≤ place → read_of now read place
    ≡ reverse (map now read)
read_all now read place all = ap (λ xs. reverse (map now xs)) (take_all place read all)
