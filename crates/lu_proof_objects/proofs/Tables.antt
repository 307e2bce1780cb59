-- Tables by object, and the imports by target, after an entry.
use Rattle.std.proofs.Common.{◌≡◌, ℕ, zero, suc, ◌+◌, ◌<◌, ◌≤◌, Bool, true, false, List, [], ◌∷◌, ◌++◌, ◌⊎◌, inl, inr, ⊎_elim, refl, sym}
use Rattle.std.proofs.Common.{subst, ap, ◌∙◌, arith}
use Rattle.std.specs.Prelude.{nat_eq, ◌&&◌, if◌then◌else◌}
use Rattle.std.proofs.lemmas.Bool.{eqb-true, and_parts}
use Rattle.std.proofs.lemmas.Bool.Decides.{nat_tests}
use Rattle.lu_base.specs.declared.locks.Resource.{Resource}
use Rattle.lu_msg.specs.declared.operations.Op.{Op}
use Rattle.lu_held.specs.Locks.{same_resource}
use Rattle.lu_spec_entries.specs.Carried.{Queued, Flight}
use Rattle.lu_spec_entries.specs.Words.{Entry, Queues}
use Rattle.lu_spec_entries.specs.Concerns.{is_about}
use Rattle.lu_spec_client.specs.Imports.{Import, import_after, imports_from, imports_after}
use Rattle.lu_spec_client.specs.Patches.{Patch, clean}
use Rattle.lu_spec_client.specs.Caches.{on_object, patch_at}
use Rattle.lu_proof_objects.specs.Sound.{In, Asked, one_if, writes_to, queued_to, flying_to, backs_to}
use Rattle.lu_proof_objects.proofs.Lists.{self, in_append}

-- ---- objects

pub object_is : (a b : Resource) → same_resource a b ≡ true → a ≡ b
object_is a b e =
    let both = and_parts (nat_eq a.fid.0 b.fid.0) (nat_eq a.stripe b.stripe) e in
    subst (λ (n : ℕ). a ≡ record { fid = record { 0 = n }; stripe = b.stripe }) (eqb-true a.fid.0 b.fid.0 both.0)
    (subst (λ (n : ℕ). a ≡ record { fid = a.fid; stripe = n }) (eqb-true a.stripe b.stripe both.1) refl)

pub object_self : (r : Resource) → same_resource r r ≡ true
object_self r = ap (λ (b : Bool). b && nat_eq r.stripe r.stripe) (self r.fid.0) ∙ self r.stripe

-- a step that leaves what is clean leaves each other object, and does its part at this one
pub patch_on : (r s : Resource) (change : Patch → Patch) (m : List (Resource × Patch))
    → (patch_at s (on_object r change m) ≡ patch_at s m) ⊎ ((r ≡ s) × (patch_at s (on_object r change m) ≡ change (patch_at s m)))
patch_on r s change [] = inl refl
patch_on r s change (e ∷ m) = by (same_resource e.0 r) refl (same_resource e.0 s) refl (patch_on r s change m)
  where
    by : (u : Bool) → same_resource e.0 r ≡ u → (v : Bool) → same_resource e.0 s ≡ v
        → (patch_at s (on_object r change m) ≡ patch_at s m) ⊎ ((r ≡ s) × (patch_at s (on_object r change m) ≡ change (patch_at s m)))
        → (patch_at s (if u then (e.0, change e.1) ∷ m else e ∷ on_object r change m) ≡ (if v then e.1 else patch_at s m))
        ⊎ ((r ≡ s) × (patch_at s (if u then (e.0, change e.1) ∷ m else e ∷ on_object r change m)
        ≡ change (if v then e.1 else patch_at s m)))
    by true p true q more = inr (sym (object_is e.0 r p) ∙ object_is e.0 s q, rw q refl)
    by true p false q more = inl (rw q refl)
    by false p true q more = inl (rw q refl)
    by false p false q more = rw q more

-- and it does its part where the object is there
pub patch_on_there : (r : Resource) (change : Patch → Patch) (m : List (Resource × Patch)) → (patch_at r m ≡ clean)
    ⊎ (patch_at r (on_object r change m) ≡ change (patch_at r m))
patch_on_there r change [] = inl refl
patch_on_there r change (e ∷ m) = by (same_resource e.0 r) refl (patch_on_there r change m)
  where
    by : (u : Bool) → same_resource e.0 r ≡ u → (patch_at r m ≡ clean) ⊎ (patch_at r (on_object r change m) ≡ change (patch_at r m))
        → ((if u then e.1 else patch_at r m) ≡ clean) ⊎ (patch_at r (if u then (e.0, change e.1) ∷ m else e ∷ on_object r change m)
        ≡ change (if u then e.1 else patch_at r m))
    by true p more = inr (rw p refl)
    by false p more = rw p more

-- ---- imports

-- an entry that changes none
pub imports_still : (e : Entry) → ((i : Import) → import_after i e ≡ i) → (t : ℕ) (imports : List Import) → imports_from t imports e
    ≡ imports
imports_still e same t [] = refl
imports_still e same t (i ∷ imports) = by (is_about t e) (imports_still e same (suc t) imports)
  where
    by : (v : Bool) → imports_from (suc t) imports e ≡ imports → (if v then import_after i e else i) ∷ imports_from (suc t) imports e ≡ i
        ∷ imports
    by true more = ap (λ (j : Import). j ∷ imports_from (suc t) imports e) (same i) ∙ ap (λ (is : List Import). i ∷ is) more
    by false more = ap (λ (is : List Import). i ∷ is) more

-- an operation is queued: it is asked of that target, and nothing else is
queued_from : (n t u : ℕ) (q : Queued) (o : Op) (imports : List Import) → Asked (imports_from n imports (Queues u q)) t o
    → Asked imports t o ⊎ ((u ≡ n + t) × (q.op ≡ o))
queued_from n t u q o [] a = inl a
queued_from n zero u q o (i ∷ imports) a = by (nat_eq n u) refl a
  where
    by : (v : Bool) → nat_eq n u ≡ v → Asked ((if v then import_after i (Queues u q) else i) ∷ []) zero o → Asked (i ∷ imports) zero o
        ⊎ ((u ≡ n + zero) × (q.op ≡ o))
    by true e (inl (p, j, is)) = ⊎_elim (λ (k : In p i.queue). inl (inl (p, k, is))) (λ (k : In p (q ∷ [])). here k is)
        (in_append p i.queue (q ∷ []) j)
      where
        here : In p (q ∷ []) → p.op ≡ o → Asked (i ∷ imports) zero o ⊎ ((u ≡ n + zero) × (q.op ≡ o))
        here (inl s) is = inr (grind (arith, nat_tests), ap (λ (x : Queued). x.op) s ∙ is)
        here (inr j) is = elim j [ ]
    by true e (inr f) = inl (inr f)
    by false e a = inl a
queued_from n (suc t) u q o (i ∷ imports) a = by (queued_from (suc n) t u q o imports a)
  where
    by : Asked imports t o ⊎ ((u ≡ suc n + t) × (q.op ≡ o)) → Asked imports t o ⊎ ((u ≡ n + suc t) × (q.op ≡ o))
    by (inl b) = inl b
    by (inr b) = inr (let e = b.0 in omega (arith, e), b.1)

pub queued_asked : (t u : ℕ) (q : Queued) (o : Op) (imports : List Import) → Asked (imports_after imports (Queues u q)) t o
    → Asked imports t o ⊎ ((u ≡ t) × (q.op ≡ o))
queued_asked t u q o imports a = ⊎_elim (λ (b : Asked imports t o). inl b)
    (λ (b : (u ≡ 0 + t) × (q.op ≡ o)). inr (let e = b.0 in omega (arith, e), b.1)) (queued_from 0 t u q o imports a)

-- ---- how many write-backs of an object are asked

queued_more : (r : Resource) (q : Queued) (queue : List Queued) → queued_to r (queue ++ q ∷ [])
    ≡ queued_to r queue + one_if (writes_to r q.op)
queued_more r q [] = omega arith
queued_more r q (p ∷ queue) = let ih = queued_more r q queue in omega (arith, ih)

-- none of the imports from this one on is of the target, or one is
backs_from : (r : Resource) (n u : ℕ) (q : Queued) (imports : List Import)
    → backs_to r (imports_from n imports (Queues u q)) ≤ backs_to r imports + one_if (writes_to r q.op)
backs_from r n u q [] = omega arith
backs_from r n u q (i ∷ imports) = by (nat_eq n u) refl (backs_from r (suc n) u q imports)
  where
    past : (m : ℕ) (rest : List Import) → u < m → backs_to r (imports_from m rest (Queues u q)) ≡ backs_to r rest
    past m [] low = refl
    past m (j ∷ rest) low = let other : nat_eq m u ≡ false = grind (arith, nat_tests, low)
        in rw other (ap (λ (x : ℕ). queued_to r j.queue + flying_to r j.flights + x) (past (suc m) rest (omega (arith, low))))

    by : (v : Bool) → nat_eq n u ≡ v → backs_to r (imports_from (suc n) imports (Queues u q)) ≤ backs_to r imports + one_if
        (writes_to r q.op)
        → backs_to r ((if v then import_after i (Queues u q) else i) ∷ imports_from (suc n) imports (Queues u q)) ≤ queued_to r i.queue +
        flying_to r i.flights + backs_to r imports + one_if (writes_to r q.op)
    by true e more = let low : u < suc n = grind (arith, nat_tests, e) in let same = past (suc n) imports low in let here =
        queued_more r q i.queue in omega (arith, same, here)
    by false e more = omega (arith, more)

pub backs_queued : (r : Resource) (u : ℕ) (q : Queued) (imports : List Import)
    → backs_to r (imports_after imports (Queues u q)) ≤ backs_to r imports + one_if (writes_to r q.op)
backs_queued r u q imports = backs_from r 0 u q imports

-- where none is, none is asked
none_queued : (r : Resource) (queue : List Queued) → queued_to r queue ≡ 0 → (q : Queued) → In q queue → writes_to r q.op ≡ false
none_queued r [] e q i = absurd i
none_queued r (p ∷ queue) e q i = by (writes_to r p.op) refl e i (none_queued r queue)
  where
    by : (v : Bool) → writes_to r p.op ≡ v → one_if v + queued_to r queue ≡ 0 → In q (p ∷ queue)
        → (queued_to r queue ≡ 0 → (q : Queued) → In q queue → writes_to r q.op ≡ false) → writes_to r q.op ≡ false
    by true w e i more = absurd (omega (arith, e))
    by false w e (inl s) more = ap (λ (x : Queued). writes_to r x.op) (sym s) ∙ w
    by false w e (inr j) more = more (omega (arith, e)) q j

none_flying : (r : Resource) (flights : List Flight) → flying_to r flights ≡ 0 → (f : Flight) → In f flights → writes_to r f.op ≡ false
none_flying r [] e f i = absurd i
none_flying r (p ∷ flights) e f i = by (writes_to r p.op) refl e i (none_flying r flights)
  where
    by : (v : Bool) → writes_to r p.op ≡ v → one_if v + flying_to r flights ≡ 0 → In f (p ∷ flights)
        → (flying_to r flights ≡ 0 → (f : Flight) → In f flights → writes_to r f.op ≡ false) → writes_to r f.op ≡ false
    by true w e i more = absurd (omega (arith, e))
    by false w e (inl s) more = ap (λ (x : Flight). writes_to r x.op) (sym s) ∙ w
    by false w e (inr j) more = more (omega (arith, e)) f j

pub none_asked : (r : Resource) (imports : List Import) → backs_to r imports ≡ 0 → (t : ℕ) (o : Op) → Asked imports t o → writes_to r o
    ≡ false
none_asked r [] e t o (inl (q, i, s)) = absurd i
none_asked r [] e t o (inr (f, i, s)) = absurd i
none_asked r (i ∷ imports) e zero o (inl (q, j, s)) = ap (writes_to r) (sym s) ∙ none_queued r i.queue (omega (arith, e)) q j
none_asked r (i ∷ imports) e zero o (inr (f, j, s)) = ap (writes_to r) (sym s) ∙ none_flying r i.flights (omega (arith, e)) f j
none_asked r (i ∷ imports) e (suc t) o a = none_asked r imports (omega (arith, e)) t o a
