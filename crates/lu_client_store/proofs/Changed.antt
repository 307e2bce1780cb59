-- The changes of objects, as a map gives and takes them: an object's patch in its place, or as the last.
use Rattle.std.proofs.Common.{◌≡◌, ℕ, ◌^◌, ◌<◌, false, List, [], Option, Some, None, is_some, refl, sym, ap, subst, ◌∙◌, arith}
use Rattle.std.specs.Prelude.{unwrap_or}
use Rattle.std.specs.Map.{set_value}
use Rattle.indexmap.specs.IndexMap.{insert_entry}
use Rattle.lu_base.specs.declared.locks.Extent.{Extent}
use Rattle.lu_base.specs.declared.locks.Resource.{Resource}
use Rattle.lu_spec_entries.specs.declared.changes.Flush.{Flush}
use Rattle.lu_spec_machine.specs.Places.{inside}
use Rattle.lu_spec_client.specs.Patches.{Patch, clean, cut_within, next_flush, taken, flown}
use Rattle.lu_spec_client.specs.Caches.{with_object, on_object, patch_at}
use Rattle.lu_cache.specs.Kept.{equal_resource}
use Rattle.lu_cache.proofs.Tables.{Found, at_lookup, set_with, set_on, none_on, insert_with, kept_there}
use Rattle.lu_client_store.specs.Stored.{patches_sent}
use Rattle.lu_client_store.proofs.Patched.{nothing_inside, no_cut_before}

abbrev pub Table : Type 0
Table = List (Resource × Patch)

pub patch_found : (r : Resource) (es now : Table) (old : Patch) → es ≡ now → Found r es ≡ Some old → patch_at r now ≡ old
patch_found r es now old is found = subst (λ (m : Table). patch_at r m ≡ old) is
    (at_lookup clean r es ∙ ap (λ (o : Option Patch). unwrap_or o clean) found)

pub patch_none : (r : Resource) (es now : Table) → es ≡ now → Found r es ≡ None → patch_at r now ≡ clean
patch_none r es now is none = subst (λ (m : Table). patch_at r m ≡ clean) is
    (at_lookup clean r es ∙ ap (λ (o : Option Patch). unwrap_or o clean) none)

-- ---- a change that is made

pub made_there : (r : Resource) (make : Patch → Patch) (es now : Table) (old new : Patch) → es ≡ now → Found r es ≡ Some old → new
    ≡ make old → set_value (equal_resource r) es new ≡ with_object r (make (patch_at r now)) now
made_there r make es now old new is found put =
    set_with r es old new found
    ∙ ap (λ (p : Patch). with_object r p es) (put ∙ ap make (sym (patch_found r es now old is found)))
    ∙ ap (λ (m : Table). with_object r (make (patch_at r now)) m) is

pub made_new : (r : Resource) (make : Patch → Patch) (es now : Table) (new : Patch) → es ≡ now → Found r es ≡ None → new ≡ make clean
    → insert_entry equal_resource es r new ≡ with_object r (make (patch_at r now)) now
made_new r make es now new is none put =
    insert_with r new es
    ∙ ap (λ (p : Patch). with_object r p es) (put ∙ ap make (sym (patch_none r es now is none)))
    ∙ ap (λ (m : Table). with_object r (make (patch_at r now)) m) is

-- ---- a change in its place, where there is one

pub changed_there : (r : Resource) (change : Patch → Patch) (es now : Table) (old new : Patch) → es ≡ now → Found r es ≡ Some old → new
    ≡ change old → set_value (equal_resource r) es new ≡ on_object r change now
changed_there r change es now old new is found made =
    ap (set_value (equal_resource r) es) made ∙ set_on r change es old found ∙ ap (on_object r change) is

pub none_changed : (r : Resource) (change : Patch → Patch) (es now : Table) → es ≡ now → Found r es ≡ None → es ≡ on_object r change now
none_changed r change es now is none = sym (none_on r change es none) ∙ ap (on_object r change) is

-- ---- a change that is written back

pub sent_there : (r : Resource) (flush : Option Flush) (es now : Table) (old new : Patch) → es ≡ now → Found r es ≡ Some old → new
    ≡ taken flush old → set_value (equal_resource r) es new ≡ patches_sent r flush now
sent_there r None es now old new is found made = kept_there r es now old new is found made
sent_there r (Some flush) es now old new is found made = changed_there r (flown flush) es now old new is found made

none_if : (o : Option ℕ) → false ≡ is_some o → o ≡ None
none_if None none = refl
none_if (Some q) none = absurd (cc)

pub none_next : (within : Extent) (p : Patch) → within.first < 2 ^ 64 → within.last < within.first → None ≡ next_flush within p
none_next within p fits empty =
    let cut : cut_within within p.pending ≡ None = none_if (cut_within within p.pending)
    (no_cut_before within p (omega (arith, fits, empty))) in
    let bare : inside within p.dirty ≡ [] = nothing_inside within empty p.dirty in
    rw (cut, bare) refl

pub none_clean : (within : Extent) (r : Resource) (es now : Table) → es ≡ now → Found r es ≡ None → None
    ≡ next_flush within (patch_at r now)
none_clean within r es now is none = ap (next_flush within) (sym (patch_none r es now is none))
