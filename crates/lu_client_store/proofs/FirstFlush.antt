-- The first held lock under which an object has a change.
use Rattle.std.proofs.Common.{◌≡◌, ℕ, ◌==◌, ◌&&◌, Bool, true, List, ◌∷◌, Option, Some, None, refl, sym, ap, ◌∙◌, arith}
use Rattle.std.specs.Prelude.{if◌then◌else◌, option_map}
use Rattle.lu_base.specs.declared.locks.Resource.{Resource}
use Rattle.lu_held.specs.declared.locks.HeldLock.{HeldLock}
use Rattle.lu_held.specs.Locks.{same_resource}
use Rattle.lu_spec_entries.specs.declared.changes.Flush.{Flush}
use Rattle.lu_spec_entries.specs.Words.{Entry}
use Rattle.lu_spec_client.specs.Patches.{Patch}
use Rattle.lu_spec_client.specs.Caches.{patch_at}
use Rattle.lu_spec_client.specs.WriteBack.{flush_under, flushes, writes_back}
use Rattle.lu_client_store.specs.declared.flushes.WriteBack.{WriteBack}
use Rattle.lu_client_store.specs.WriteBacks.{back_under, backs_or}

is_it : (n : ℕ) → (n == n) ≡ true
is_it n = grind (arith)

itself : (r : Resource) → same_resource r r ≡ true
itself r = ap (λ (b : Bool). b && (r.stripe == r.stripe)) (is_it r.fid.0) ∙ is_it r.stripe

abbrev flushes_on : HeldLock → List Entry → Option Flush → List Entry
flushes_on h others o = elim o [ None ↦ others | Some flush ↦ writes_back h.target h.lock flush ]

backs_on : (h : HeldLock) (others : List Entry) (o : Option Flush) → flushes_on h others o ≡ backs_or others (option_map (back_under h) o)
backs_on h others None = refl
backs_on h others (Some flush) = refl

-- a lock on the object
pub flush_here : (resource : Resource) (patches : List (Resource × Patch)) (h : HeldLock) (back : Option WriteBack) → h.lock.resource
    ≡ resource → back ≡ option_map (back_under h) (flush_under (patch_at h.lock.resource patches) h.lock.ask.mode h.lock.ask.policy)
    → (others : List HeldLock) → flushes resource (patch_at resource patches) (h ∷ others)
    ≡ backs_or (flushes resource (patch_at resource patches) others) back
flush_here resource patches h back here is others =
    let same : same_resource h.lock.resource resource ≡ true = ap (λ (r : Resource). same_resource h.lock.resource r) (sym here)
    ∙ itself h.lock.resource in
    let patch : patch_at resource patches ≡ patch_at h.lock.resource patches = ap (λ (r : Resource). patch_at r patches) (sym here) in
    let rest = flushes resource (patch_at resource patches) others in
    ap (λ (b : Bool). if b then flushes_on h rest (flush_under (patch_at resource patches) h.lock.ask.mode h.lock.ask.policy) else rest)
    same
    ∙ backs_on h rest (flush_under (patch_at resource patches) h.lock.ask.mode h.lock.ask.policy)
    ∙ ap (λ (p : Patch). backs_or rest (option_map (back_under h) (flush_under p h.lock.ask.mode h.lock.ask.policy))) patch
    ∙ ap (backs_or rest) (sym is)

-- no lock is left
pub flush_nowhere : (entries : List Entry) → backs_or entries None ≡ entries
flush_nowhere entries = refl
