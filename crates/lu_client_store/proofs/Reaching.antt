-- One turn of the search for a lock under which a byte was shown, and of that for the lock in use on a stripe.
use Rattle.std.proofs.Common.{◌≡◌, ℕ, zero, suc, ◌+◌, ◌<◌, List, [], ◌∷◌, length, drop, get_or, Option, Some, None, Bool, true, false, refl}
use Rattle.std.proofs.Common.{sym, ap, ◌∙◌, arith}
use Rattle.std.specs.Prelude.{nat_eq, ◌&&◌, ◌||◌, not, if◌then◌else◌, slice_get, option_map}
use Rattle.std.proofs.lemmas.Bool.Decides.{nat_tests}
use Rattle.lu_base.specs.declared.locks.Lock.{Lock}
use Rattle.lu_held.specs.declared.locks.HeldLock.{HeldLock}
use Rattle.lu_held.specs.Locks.{lock_of, reaches_end}
use Rattle.lu_layout.specs.Raid0.{Raid0, stripe_of, offset_of}
use Rattle.lu_spec_entries.specs.declared.uses.Using.{Using}
use Rattle.lu_spec_client.specs.States.{Store}
use Rattle.lu_spec_client.specs.Looks.{shown_under, shown_elsewhere, reached_under, has_reached}
use Rattle.lu_client_store.proofs.Rests.{dropped}

-- ---- the locks that cover an offset

abbrev pub before_end : ℕ → Store → Lock → Bool
before_end q s l = not (reaches_end l.ask.policy) && shown_under q s l

-- the first of some locks says, or the others do
first_says : (q : ℕ) (s : Store) (h : HeldLock) (locks : List HeldLock) (v : Bool) → before_end q s h.lock ≡ v
    → shown_elsewhere q s (h ∷ locks) ≡ (v || shown_elsewhere q s locks)
first_says q s h locks v e = ap (λ u. u || shown_elsewhere q s locks) e

abbrev pub LockAt : List HeldLock → ℕ → Option Lock → Type 0
LockAt locks at found = found ≡ option_map lock_of (slice_get locks at)

one_lock : (l m : Lock) → Some l ≡ Some m → l ≡ m
one_lock l m e = cc

no_lock : (l : Lock) → Some l ≡ None → ⊥
no_lock l e = cc

says_at : (q : ℕ) (s : Store) (locks : List HeldLock) (at : ℕ) (l : Lock) (v : Bool) → LockAt locks at (Some l) → before_end q s l ≡ v
    → shown_elsewhere q s (drop at locks) ≡ (v || shown_elsewhere q s (drop (suc at) locks))
says_at q s [] at l v there e = absurd (no_lock l there)
says_at q s (h ∷ locks) zero l v there e = first_says q s h locks v (ap (before_end q s) (sym (one_lock l h.lock there)) ∙ e)
says_at q s (h ∷ locks) (suc at) l v there e = says_at q s locks at l v there e

pub none_here : (q : ℕ) (s : Store) (locks : List HeldLock) (at : ℕ) (l : Lock) → LockAt locks at (Some l) → before_end q s l ≡ false
    → shown_elsewhere q s (drop at locks) ≡ shown_elsewhere q s (drop (at + 1) locks)
none_here q s locks at l there e =
    let next : suc at ≡ at + 1 = omega arith in
    says_at q s locks at l false there e ∙ ap (λ (k : ℕ). shown_elsewhere q s (drop k locks)) next

pub one_here : (q : ℕ) (s : Store) (locks : List HeldLock) (at : ℕ) (l : Lock) → LockAt locks at (Some l) → before_end q s l ≡ true
    → shown_elsewhere q s (drop at locks) ≡ true
one_here q s locks at l there e = says_at q s locks at l true there e

pub none_left : (q : ℕ) (s : Store) (locks : List HeldLock) (at : ℕ) → LockAt locks at None → shown_elsewhere q s (drop at locks) ≡ false
none_left q s [] zero there = refl
none_left q s [] (suc at) there = refl
none_left q s (h ∷ locks) zero there = absurd (no_lock h.lock (sym there))
none_left q s (h ∷ locks) (suc at) there = none_left q s locks at there

pub is_within : (locks : List HeldLock) (at : ℕ) (l : Lock) → LockAt locks at (Some l) → at < length locks
is_within [] at l there = absurd (no_lock l there)
is_within (h ∷ locks) zero l there = omega arith
is_within (h ∷ locks) (suc at) l there = omega (arith, is_within locks at l there)

-- ---- the locks in use

pub reached_later : (l : Raid0) (e : ℕ) (s : Store) (used : List Using) (k : ℕ) (d : Using) → k < length used
    → ((get_or used k d).want.resource.stripe ≡ stripe_of l e → ⊥) → has_reached l e (drop k used) s ≡ has_reached l e (drop (k + 1) used) s
reached_later l e s used k d less other =
    let test : nat_eq (get_or used k d).want.resource.stripe (stripe_of l e) ≡ false = grind (arith, nat_tests, other) in
    ap (λ us. has_reached l e us s) (dropped used k d less)
    ∙ ap (λ v. if v then reached_under (offset_of l e) (get_or used k d) s else has_reached l e (drop (k + 1) used) s) test

pub reached_here : (l : Raid0) (e : ℕ) (s : Store) (used : List Using) (k : ℕ) (d : Using) → k < length used
    → (get_or used k d).want.resource.stripe ≡ stripe_of l e → has_reached l e (drop k used) s
    ≡ reached_under (offset_of l e) (get_or used k d) s
reached_here l e s used k d less here =
    let test : nat_eq (get_or used k d).want.resource.stripe (stripe_of l e) ≡ true = grind (arith, nat_tests, here) in
    ap (λ us. has_reached l e us s) (dropped used k d less)
    ∙ ap (λ v. if v then reached_under (offset_of l e) (get_or used k d) s else has_reached l e (drop (k + 1) used) s) test
