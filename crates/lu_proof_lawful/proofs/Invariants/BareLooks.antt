-- What a client finds in what it knows of objects that have no bytes: nothing is missing under locks to the end, a read never reaches, and
-- a file has no
-- size.
use Rattle.std.proofs.Common.{◌≡◌, ℕ, suc, ◌-◌, ◌/◌, Bool, true, false, List, [], ◌∷◌, inl, inr, Option, Some, None, refl, sym, ap, ◌∙◌}
use Rattle.std.proofs.Common.{arith}
use Rattle.std.specs.Prelude.{nat_eq, nat_lt, ◌&&◌, ◌||◌, not, min, if◌then◌else◌, map, unwrap_or}
use Rattle.std.proofs.lemmas.Bool.{cond_both, cond-true}
use Rattle.std.proofs.lemmas.Bool.Decides.{nat_tests}
use Rattle.lu_base.specs.declared.ids.Cookie.{Cookie}
use Rattle.lu_base.specs.declared.locks.Lock.{Lock}
use Rattle.lu_base.specs.declared.locks.Policy.{Policy}
use Rattle.lu_base.specs.declared.locks.Policy.TheVariants.{Bits, Range}
use Rattle.lu_base.specs.declared.locks.Resource.{Resource}
use Rattle.lu_layout.specs.Raid0.{Raid0, stripe_of, offset_of, greatest_end}
use Rattle.lu_held.specs.declared.locks.HeldLock.{HeldLock}
use Rattle.lu_held.specs.declared.locks.Wanted.TheVariants.{Holding}
use Rattle.lu_held.specs.Locks.{reaches_end}
use Rattle.lu_held.specs.Held.{those}
use Rattle.lu_spec_entries.specs.declared.uses.Using.{Using}
use Rattle.lu_spec_client.specs.Bytes.{page_size}
use Rattle.lu_spec_client.specs.Caches.{Note, is_note, noted, without_note, forgotten_notes, size_kept, patch_at, bytes_at}
use Rattle.lu_spec_client.specs.Looks.{size_under, first_missing, end_under, missing_under, missing, size_on, file_size, reaches}
use Rattle.lu_spec_client.specs.Looks.{shown_under, shown_elsewhere, reached_under, has_reached}
use Rattle.lu_spec_client.specs.Patches.{Patch, size_over}
use Rattle.lu_spec_client.specs.States.{Store}
use Rattle.lu_spec_client.specs.Stripes.{below_on}
use Rattle.lu_proof_lawful.proofs.Preconditions.Guards.{In}
use Rattle.lu_proof_lawful.proofs.Preconditions.Lists.{in_filter}
use Rattle.lu_proof_lawful.proofs.Preconditions.ClientLocks.{none_any}

-- ---- the sizes that are noted

abbrev pub AllZero : List Note → Type 0
AllZero notes = (n : Note) → In n notes → n.number ≡ 0

zero_noted : (r : Resource) (cookie : Cookie) (notes : List Note) → AllZero notes → unwrap_or (noted r cookie notes) 0 ≡ 0
zero_noted r cookie [] z = refl
zero_noted r cookie (n ∷ notes) z = by (is_note r cookie n) (zero_noted r cookie notes (λ m i. z m (inr i)))
  where
    by : (b : Bool) → unwrap_or (noted r cookie notes) 0 ≡ 0 → unwrap_or (if b then Some n.number else noted r cookie notes) 0 ≡ 0
    by true more = z n (inl refl)
    by false more = more

zero_without : (r : Resource) (cookie : Cookie) (notes : List Note) → AllZero notes → AllZero (without_note r cookie notes)
zero_without r cookie notes z n i = z n (in_filter (λ (m : Note). not (is_note r cookie m)) n notes i).0

pub zero_forgotten : (p : Policy) (l : Lock) (notes : List Note) → AllZero notes → AllZero (forgotten_notes p l notes)
zero_forgotten (Bits bits) l notes z = z
zero_forgotten (Range extent) l notes z = zero_without l.resource l.cookie notes z

-- a size that comes with a lock
abbrev pub IsNone : Option ℕ → Type 0
IsNone None = Unit {0}
IsNone (Some n) = n ≡ 0

pub zero_kept : (l : Lock) (size : Option ℕ) (notes : List Note) → IsNone size → AllZero notes → AllZero (size_kept l size notes)
zero_kept l None notes e z = z
zero_kept l (Some n) notes e z = by (reaches_end l.ask.policy)
  where
    by : (b : Bool) → AllZero (if b then record { resource = l.resource; cookie = l.cookie; number = n }
        ∷ without_note l.resource l.cookie notes else notes)
    by true m (inl q) = ap (λ (x : Note). x.number) (sym q) ∙ e
    by true m (inr i) = zero_without l.resource l.cookie notes z m i
    by false m i = z m i

-- ---- where no byte is

-- each object is empty under each lock
abbrev pub IsEmpty : Store → Type 0
IsEmpty s = (l : Lock) → size_under l s ≡ 0

pub zero_empty : (s : Store) → AllZero s.sizes → s.patches ≡ [] → IsEmpty s
zero_empty s zero none l =
    ap (λ (n : ℕ). size_over n (patch_at l.resource s.patches)) (zero_noted l.resource l.cookie s.sizes zero)
    ∙ ap (λ (ps : List (Resource × Patch)). size_over 0 (patch_at l.resource ps)) none

-- the locks in use reach the end
abbrev pub AllEnd : List Using → Type 0
AllEnd us = (u : Using) → In u us → reaches_end u.lock.ask.policy ≡ true

nothing : (end first : ℕ) → min end 0 - first ≡ 0
nothing end first = grind arith

none_under : (l : Lock) (first end : ℕ) (s : Store) → IsEmpty s → reaches_end l.ask.policy ≡ true → missing_under l first end s ≡ None
none_under l first end s empty ends = ap (first_missing (bytes_at l.resource s.bytes) (patch_at l.resource s.patches).dirty first) so
  where
    so : end_under l end s - first ≡ 0
    so = ap (λ (n : ℕ). n - first) (cond-true (reaches_end l.ask.policy) (min end (size_under l s)) end ends ∙ ap (min end) (empty l))
        ∙ nothing end first

pub none_missing : (l : Raid0) (p end : ℕ) (s : Store) (us : List Using) → IsEmpty s → AllEnd us → missing l p end s us ≡ None
none_missing l p end s [] empty ends = refl
none_missing l p end s (u ∷ us) empty ends =
    ap (λ (o : Option ℕ). elim o [ None ↦ missing l p end s us | Some offset ↦ Some (record { under = u; page = offset / page_size }) ])
    (none_under u.lock (below_on l u.want.resource.stripe p) (below_on l u.want.resource.stripe end) s empty (ends u (inl refl)))
    ∙ none_missing l p end s us empty (λ v i. ends v (inr i))

-- where nothing was shown either
above_none : (q : ℕ) → nat_lt q 0 ≡ false
above_none q = grind (arith, nat_tests)

none_shown : (q : ℕ) (s : Store) (l : Lock) → s.shown ≡ [] → shown_under q s l ≡ false
none_shown q s l none = ap (λ (ns : List Note). reaches q (noted l.resource l.cookie ns)) none

none_elsewhere : (q : ℕ) (s : Store) (held : List HeldLock) → s.shown ≡ [] → shown_elsewhere q s held ≡ false
none_elsewhere q s held none = none_any (λ (h : HeldLock). not (reaches_end h.lock.ask.policy) && shown_under q s h.lock) held
    (λ h i. and_no (not (reaches_end h.lock.ask.policy)) (shown_under q s h.lock) (none_shown q s h.lock none))
  where
    and_no : (a b : Bool) → b ≡ false → (a && b) ≡ false
    and_no true b e = e
    and_no false b e = refl

not_under : (q : ℕ) (u : Using) (s : Store) → IsEmpty s → s.shown ≡ [] → reached_under q u s ≡ false
not_under q u s empty none =
    cond_both (reaches_end u.lock.ask.policy) (nat_lt q (size_under u.lock s))
    (shown_under q s u.lock || shown_elsewhere q s (those (Holding u.want.target u.want.resource q) s.held)) (λ (b : Bool). b ≡ false)
    (λ t. ap (nat_lt q) (empty u.lock) ∙ above_none q)
    (λ t. or_no (shown_under q s u.lock) (shown_elsewhere q s (those (Holding u.want.target u.want.resource q) s.held))
    (none_shown q s u.lock none) (none_elsewhere q s (those (Holding u.want.target u.want.resource q) s.held) none))
  where
    or_no : (a b : Bool) → a ≡ false → b ≡ false → (a || b) ≡ false
    or_no true b e f = e
    or_no false b e f = f

pub not_reached : (l : Raid0) (e : ℕ) (us : List Using) (s : Store) → IsEmpty s → s.shown ≡ [] → has_reached l e us s ≡ false
not_reached l e [] s empty none = refl
not_reached l e (u ∷ us) s empty none =
    cond_both (nat_eq u.want.resource.stripe (stripe_of l e)) (reached_under (offset_of l e) u s) (has_reached l e us s)
    (λ (b : Bool). b ≡ false) (λ t. not_under (offset_of l e) u s empty none)
    (λ t. not_reached l e us s empty none)

no_size_on : (i : ℕ) (us : List Using) (s : Store) → IsEmpty s → size_on i us s ≡ 0
no_size_on i [] s empty = refl
no_size_on i (u ∷ us) s empty = cond_both (nat_eq u.want.resource.stripe i) (size_under u.lock s) (size_on i us s) (λ (n : ℕ). n ≡ 0)
    (λ t. empty u.lock) (λ t. no_size_on i us s empty)

no_end : (l : Raid0) (us : List Using) (s : Store) → IsEmpty s → (stripe : ℕ) (is : List ℕ)
    → greatest_end l stripe (map (λ i. size_on i us s) is) ≡ 0
unfolding greatest_end
no_end l us s empty stripe [] = refl
no_end l us s empty stripe (i ∷ is) = rw (no_size_on i us s empty, no_end l us s empty (suc stripe) is) refl

pub no_file_size : (l : Raid0) (is : List ℕ) (us : List Using) (s : Store) → IsEmpty s → file_size l is us s ≡ 0
no_file_size l is us s empty = no_end l us s empty 0 is

pub cut_short : (n p : ℕ) → min n (0 - p) ≡ 0
cut_short n p = grind arith
