-- The dirty bytes of all objects together, once those of one object are others.
use Rattle.std.proofs.Common.{◌≡◌, ℕ, ◌+◌, ◌*◌, ◌^◌, ◌<◌, ◌≤◌, Bool, true, false, cond, [], ◌∷◌, length, Some, None, refl, sym, ap, subst}
use Rattle.std.proofs.Common.{◌∙◌, arith}
use Rattle.std.specs.Map.{set_value}
use Rattle.indexmap.specs.IndexMap.{insert_entry}
use Rattle.lu_base.specs.declared.locks.Resource.{Resource}
use Rattle.lu_held.specs.Locks.{same_resource}
use Rattle.lu_spec_client.specs.Patches.{Patch, clean}
use Rattle.lu_spec_client.specs.Caches.{with_object, patch_at}
use Rattle.lu_spec_client.specs.Locks.{dirty_total}
use Rattle.lu_cache.specs.Kept.{equal_resource}
use Rattle.lu_cache.proofs.Tables.{Found, set_with, insert_with}
use Rattle.lu_client_store.specs.Counting.{AreFew}
use Rattle.lu_client_store.proofs.Changed.{Table, patch_found, patch_none}

-- ---- an object that has these changes now

few_with : (r : Resource) (new : Patch) (es : Table) → length new.dirty < 2 ^ 64 → AreFew es → AreFew (with_object r new es)
few_with r new [] few all = (few, tt)
few_with r new (e ∷ es) few all = by (same_resource e.0 r) (few_with r new es few all.1) where
  by : (same : Bool) → AreFew (with_object r new es) → AreFew (cond same ((e.0, new) ∷ es) (e ∷ with_object r new es))
  by true rest = (few, all.1)
  by false rest = (all.0, rest)

total_with : (r : Resource) (new : Patch) (es : Table) → dirty_total (with_object r new es) + length (patch_at r es).dirty
    ≡ dirty_total es + length new.dirty
total_with r new [] = omega arith
total_with r new (e ∷ es) = by (same_resource e.0 r) (total_with r new es) where
  by : (same : Bool) → dirty_total (with_object r new es) + length (patch_at r es).dirty ≡ dirty_total es + length new.dirty
      → dirty_total (cond same ((e.0, new) ∷ es) (e ∷ with_object r new es)) + length (cond same e.1 (patch_at r es)).dirty
      ≡ length e.1.dirty + dirty_total es + length new.dirty
  by true rest = omega arith
  by false rest = omega (arith, rest)

-- ---- as a map has it

pub few_there : (r : Resource) (es now : Table) (old new : Patch) (after : ℕ) → now ≡ set_value (equal_resource r) es new → Found r es
    ≡ Some old → after ≡ length new.dirty → after < 2 ^ 64 → AreFew es → AreFew now
few_there r es now old new after put found count few all = subst AreFew (sym (put ∙ set_with r es old new found))
    (few_with r new es (omega (arith, count, few)) all)

pub few_new : (r : Resource) (es now : Table) (new : Patch) (count : ℕ) → now ≡ insert_entry equal_resource es r new → count
    ≡ length new.dirty → count < 2 ^ 64 → AreFew es → AreFew now
few_new r es now new count put is few all = subst AreFew (sym (put ∙ insert_with r new es)) (few_with r new es (omega (arith, is, few)) all)

pub total_there : (r : Resource) (es now : Table) (old new : Patch) (total before after : ℕ) → now ≡ set_value (equal_resource r) es new
    → Found r es ≡ Some old → before ≡ length old.dirty → after ≡ length new.dirty
    → total ≡ dirty_total es → total + after ≡ dirty_total now + before
total_there r es now old new total before after put found was is all =
    let here : length (patch_at r es).dirty ≡ length old.dirty = ap (λ (p : Patch). length p.dirty) (patch_found r es es old refl found) in
    let made : dirty_total now ≡ dirty_total (with_object r new es) = ap dirty_total (put ∙ set_with r es old new found) in
    let other : dirty_total (with_object r new es) + length (patch_at r es).dirty ≡ dirty_total es + length new.dirty = total_with r new es
    in
    omega (arith, here, made, other, was, is, all)

pub total_new : (r : Resource) (es now : Table) (new : Patch) (total count : ℕ) → now ≡ insert_entry equal_resource es r new → Found r es
    ≡ None → count ≡ length new.dirty → total ≡ dirty_total es
    → total + count ≡ dirty_total now + 0
total_new r es now new total count put none is all =
    let here : length (patch_at r es).dirty ≡ length clean.dirty = ap (λ (p : Patch). length p.dirty) (patch_none r es es refl none) in
    let made : dirty_total now ≡ dirty_total (with_object r new es) = ap dirty_total (put ∙ insert_with r new es) in
    let other : dirty_total (with_object r new es) + length (patch_at r es).dirty ≡ dirty_total es + length new.dirty = total_with r new es
    in
    omega (arith, here, made, other, is, all)

-- ---- the most

total_most : (es : Table) → AreFew es → dirty_total es ≤ length es * 2 ^ 64
total_most [] few = omega arith
total_most (e ∷ es) few =
    let rest : dirty_total es ≤ length es * 2 ^ 64 = total_most es few.1 in
    let here : length e.1.dirty < 2 ^ 64 = few.0 in
    omega (arith, rest, here)

pub total_fits : (es : Table) (total before after : ℕ) → AreFew es → total + after ≡ dirty_total es + before → length es < 2 ^ 63
    → before < 2 ^ 64 → total + after < 2 ^ 128
total_fits es total before after few is count short = let most : dirty_total es ≤ length es * 2 ^ 64 = total_most es few
    in omega (arith, is, most, count, short)
