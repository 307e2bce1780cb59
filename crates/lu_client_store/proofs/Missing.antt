-- One turn of the search for a missing byte, and of that for a missing page.
use Rattle.std.proofs.Common.{◌≡◌, ℕ, zero, suc, ◌+◌, ◌/◌, ◌<◌, List, ◌∷◌, length, drop, get_or, Option, Some, None, true, false, refl, sym}
use Rattle.std.proofs.Common.{ap, ◌∙◌, arith}
use Rattle.std.specs.Prelude.{if◌then◌else◌}
use Rattle.lu_spec_machine.specs.Places.{Places}
use Rattle.lu_layout.specs.Raid0.{Raid0}
use Rattle.lu_spec_entries.specs.declared.changes.Dirty.{Dirty}
use Rattle.lu_spec_entries.specs.declared.uses.Using.{Using}
use Rattle.lu_spec_client.specs.Bytes.{Bytes, page_size}
use Rattle.lu_spec_client.specs.States.{Store}
use Rattle.lu_spec_client.specs.Looks.{Page, is_there, first_missing, missing}
use Rattle.lu_client_store.specs.Pages.{missing_on}
use Rattle.lu_client_store.proofs.Rests.{dropped}

-- ---- a byte

pub missing_more : (known : Bytes) (dirty : Places Dirty) (p q n m : ℕ) → n ≡ m + 1 → q ≡ p + 1 → is_there known dirty p ≡ true
    → first_missing known dirty p n ≡ first_missing known dirty q m
missing_more known dirty p q zero m e is there = absurd (omega (arith, e))
missing_more known dirty p q (suc n) m e is there =
    let same : n ≡ m = omega (arith, e) in
    ap (λ v. if v then first_missing known dirty (p + 1) n else Some p) there ∙ ap (λ k. first_missing known dirty (p + 1) k) same
    ∙ ap (λ r. first_missing known dirty r m) (sym is)

pub missing_here : (known : Bytes) (dirty : Places Dirty) (p n m : ℕ) → n ≡ m + 1 → is_there known dirty p ≡ false
    → first_missing known dirty p n ≡ Some p
missing_here known dirty p zero m e there = absurd (omega (arith, e))
missing_here known dirty p (suc n) m e there = ap (λ v. if v then first_missing known dirty (p + 1) n else Some p) there

pub missing_none : (known : Bytes) (dirty : Places Dirty) (p n : ℕ) → n ≡ 0 → first_missing known dirty p n ≡ None
missing_none known dirty p zero e = refl
missing_none known dirty p (suc n) e = absurd (omega (arith, e))

-- ---- a page

abbrev page_or : Using → Option Page → Option ℕ → Option Page
page_or u later None = later
page_or u later (Some offset) = Some (record { under = u; page = offset / page_size })

missing_first : (l : Raid0) (p end : ℕ) (s : Store) (u : Using) (used : List Using) → missing l p end s (u ∷ used)
    ≡ page_or u (missing l p end s used) (missing_on l p end s u)
missing_first l p end s u used = by (missing_on l p end s u)
  where
    by : (o : Option ℕ) → (elim o as (λ o. Option Page) [
      | None ↦ missing l p end s used
      | Some offset
          ↦ Some (record { under = u; page = offset / page_size })
    ]) ≡ page_or u (missing l p end s used) o
    by None = refl
    by (Some offset) = refl

pub page_later : (l : Raid0) (p end : ℕ) (s : Store) (used : List Using) (k : ℕ) (d : Using) → k < length used
    → missing_on l p end s (get_or used k d) ≡ None → missing l p end s (drop k used) ≡ missing l p end s (drop (k + 1) used)
page_later l p end s used k d less none =
    ap (missing l p end s) (dropped used k d less)
    ∙ missing_first l p end s (get_or used k d) (drop (k + 1) used)
    ∙ ap (page_or (get_or used k d) (missing l p end s (drop (k + 1) used))) none

pub page_here : (l : Raid0) (p end : ℕ) (s : Store) (used : List Using) (k : ℕ) (d : Using) (offset : ℕ) → k < length used
    → missing_on l p end s (get_or used k d) ≡ Some offset → missing l p end s (drop k used)
    ≡ Some (record { under = get_or used k d; page = offset / page_size })
page_here l p end s used k d offset less some =
    ap (missing l p end s) (dropped used k d less)
    ∙ missing_first l p end s (get_or used k d) (drop (k + 1) used)
    ∙ ap (page_or (get_or used k d) (missing l p end s (drop (k + 1) used))) some
