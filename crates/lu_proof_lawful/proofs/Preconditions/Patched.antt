-- A client's own changes of objects, line by line: a change that is made, and one that is taken to be written back, leave no object
-- without a change that had one.
use Rattle.std.proofs.Common.{◌≡◌, ℕ, zero, suc, ◌+◌, Bool, true, false, List, [], ◌∷◌, ◌++◌, ◌⊎◌, inl, inr, ⊎_elim, Option, Some, None}
use Rattle.std.proofs.Common.{refl, sym, subst, ap, ◌∙◌, arith}
use Rattle.std.specs.Prelude.{nat_lt, nat_le, ◌||◌, not, if◌then◌else◌, is_some, length, filter}
use Rattle.std.proofs.lemmas.Bool.Decides.{nat_tests}
use Rattle.lu_base.specs.declared.ids.At.{At}
use Rattle.lu_base.specs.declared.ids.Node.TheVariants.{Client}
use Rattle.lu_base.specs.declared.ids.Stamp.{Stamp}
use Rattle.lu_base.specs.declared.locks.Resource.{Resource}
use Rattle.lu_held.specs.Locks.{same_resource}
use Rattle.lu_spec_machine.specs.Places.{Places, found_at, below, from, placed, laid}
use Rattle.lu_spec_entries.specs.declared.changes.Flush.{Flush}
use Rattle.lu_spec_entries.specs.declared.changes.Flush.TheVariants.{Cut, Put}
use Rattle.lu_spec_entries.specs.Fields.{on}
use Rattle.lu_spec_entries.specs.Words.{Entry, Tick, Changes, WritesBack, Line, line}
use Rattle.lu_spec_client.specs.Bytes.{first_position}
use Rattle.lu_spec_client.specs.Caches.{with_object, on_object, patch_at, made, reads_patches, patches_after, patches_at}
use Rattle.lu_spec_client.specs.Patches.{Patch, fresh, written, ended, cut_over, cut, flown}
use Rattle.lu_spec_client.specs.WriteBack.{is_clean}
use Rattle.lu_proof_lawful.proofs.Preconditions.Guards.{HasChange}
use Rattle.lu_proof_lawful.proofs.Preconditions.Lists.{self, turn}
use Rattle.lu_proof_lawful.proofs.Preconditions.CallStands.{Lasts}

-- ---- dirty bytes stay where others are laid over them

-- one at least
abbrev IsSome : {A : Type 0} → Places A → Type 0
IsSome m = is_some (first_position m) ≡ true

some_right : {A : Type 0} (xs ys : Places A) → IsSome ys → IsSome (xs ++ ys)
some_right [] ys s = s
some_right (x ∷ xs) ys s = refl

some_left : {A : Type 0} (xs ys : Places A) → IsSome xs → IsSome (xs ++ ys)
some_left [] ys s = absurd (cc)
some_left (x ∷ xs) ys s = refl

-- the first is kept, or goes
kept_or : {A : Type 0} (test : ℕ × A → Bool) (e : ℕ × A) (m : Places A) → test e ≡ true → IsSome (filter test (e ∷ m))
kept_or test e m t = subst (λ (b : Bool). IsSome (if b then e ∷ filter test m else filter test m)) (sym t) refl

not_below : (n m : ℕ) → nat_lt n m ≡ false → nat_le (m + 0) n ≡ true
not_below n m e = grind (arith, nat_tests, e)

pub laid_some : {A : Type 0} (at : ℕ) (xs : List A) (m : Places A) → IsSome m → IsSome (laid at xs m)
laid_some at xs [] s = absurd (cc)
laid_some {A} at (x ∷ xs) (e ∷ m) s = some_right (below at (e ∷ m)) (placed at (x ∷ xs) ++ from (at + length (x ∷ xs)) (e ∷ m)) refl
laid_some {A} at [] (e ∷ m) s = by (nat_lt e.0 at) refl
  where
    by : (b : Bool) → nat_lt e.0 at ≡ b → IsSome (laid at [] (e ∷ m))
    by true q = some_left (below at (e ∷ m)) (from (at + 0) (e ∷ m)) (kept_or (λ (x : ℕ × A). nat_lt x.0 at) e m q)
    by false q = some_right (below at (e ∷ m)) (from (at + 0) (e ∷ m))
        (kept_or (λ (x : ℕ × A). nat_le (at + 0) x.0) e m (not_below e.0 at q))

-- ---- a change leaves a change

unclean : (p : Patch) → (is_some p.pending ≡ true) ⊎ IsSome p.dirty → is_clean p ≡ false
unclean p (inl e) = ap (λ (b : Bool). not (b || is_some (first_position p.dirty))) e
unclean p (inr e) = ap (λ (b : Bool). not (is_some p.pending || b)) e ∙ by (is_some p.pending)
  where
    by : (b : Bool) → not (b || true) ≡ false
    by true = refl
    by false = refl

is_unclean : (p : Patch) → is_clean p ≡ false → (is_some p.pending ≡ true) ⊎ IsSome p.dirty
is_unclean p e = by (is_some p.pending) (is_some (first_position p.dirty)) e
  where
    by : (a b : Bool) → not (a || b) ≡ false → (a ≡ true) ⊎ (b ≡ true)
    by true b e = inl refl
    by false true e = inr refl
    by false false e = absurd (cc)

written_has : (at : ℕ) (bs : List ℕ) (p : Patch) → HasChange p → HasChange (written at bs p)
written_has at bs p (inl flies) = inl flies
written_has at bs p (inr e) =
    inr (unclean (written at bs p) (⊎_elim (λ (q : is_some p.pending ≡ true). inl q)
    (λ (q : IsSome p.dirty). inr (laid_some at (fresh bs) p.dirty q)) (is_unclean p e)))

-- after a cut one is pending
ended_pending : (n : ℕ) (p : Patch) → is_some p.pending ≡ true → is_some (ended n p).pending ≡ true
ended_pending zero p e = e
ended_pending (suc n) p e = by (is_some (found_at p.dirty n))
  where
    by : (b : Bool) → is_some (if b then p else written n (0 ∷ []) p).pending ≡ true
    by true = e
    by false = e

cut_pending : (n : ℕ) (p : Patch) (o : Option ℕ) → p.pending ≡ o → is_some (cut_over n p o).pending ≡ true
cut_pending n p None e = refl
cut_pending n p (Some q) e = by (nat_lt q n)
  where
    by : (b : Bool) → is_some (if b then ended n p else record p { pending = Some n }).pending ≡ true
    by true = ended_pending n p (ap (λ (x : Option ℕ). is_some x) e)
    by false = refl

pub made_has : (change : Flush) (p : Patch) → HasChange p → HasChange (made change p)
made_has (Cut n) p h = inr (unclean (cut n p) (inl (cut_pending n (record p { dirty = below n p.dirty }) p.pending refl)))
made_has (Put at bs) p h = written_has at bs p h

pub flown_has : (change : Flush) (p : Patch) → HasChange (flown change p)
flown_has (Cut n) p = inl refl
flown_has (Put at bs) p = inl refl

-- ---- of each object

clean_not : HasChange (patch_at (record { fid = record { 0 = 0 }; stripe = 0 }) []) → ⊥
clean_not (inl e) = absurd (cc)
clean_not (inr e) = absurd (cc)

pub with_lasts : (r : Resource) (x : Patch) (m : List (Resource × Patch)) → (HasChange (patch_at r m) → HasChange x)
    → Lasts m (with_object r x m)
with_lasts r x [] keeps s h = absurd (clean_not h)
with_lasts r x (e ∷ m) keeps s h = subst HasChange (sym (move (same_resource e.0 r)))
    (by (same_resource e.0 r) (same_resource e.0 s) keeps h (λ k. with_lasts r x m k s))
  where
    more : List (Resource × Patch)
    more = with_object r x m

    move : (own : Bool) → patch_at s (if own then (e.0, x) ∷ m else e ∷ more)
        ≡ (if own then (if same_resource e.0 s then x else patch_at s m) else (if same_resource e.0 s then e.1 else patch_at s more))
    move true = refl
    move false = refl

    by : (own other : Bool) → (HasChange (if own then e.1 else patch_at r m) → HasChange x)
        → HasChange (if other then e.1 else patch_at s m)
        → ((HasChange (patch_at r m) → HasChange x) → HasChange (patch_at s m) → HasChange (patch_at s more))
        → HasChange (if own then (if other then x else patch_at s m) else (if other then e.1 else patch_at s more))
    by true true k h next = k h
    by true false k h next = h
    by false true k h next = h
    by false false k h next = next k h

pub on_lasts : (r : Resource) (change : Patch → Patch) (m : List (Resource × Patch)) → ((p : Patch) → HasChange p → HasChange (change p))
    → Lasts m (on_object r change m)
on_lasts r change [] keeps s h = absurd (clean_not h)
on_lasts r change (e ∷ m) keeps s h = subst HasChange (sym (move (same_resource e.0 r)))
    (by (same_resource e.0 r) (same_resource e.0 s) h (on_lasts r change m keeps s))
  where
    more : List (Resource × Patch)
    more = on_object r change m

    move : (own : Bool) → patch_at s (if own then (e.0, change e.1) ∷ m else e ∷ more)
        ≡ (if own then (if same_resource e.0 s then change e.1 else patch_at s m)
        else (if same_resource e.0 s then e.1 else patch_at s more))
    move true = refl
    move false = refl

    by : (own other : Bool) → HasChange (if other then e.1 else patch_at s m) → (HasChange (patch_at s m) → HasChange (patch_at s more))
        → HasChange (if own then (if other then change e.1 else patch_at s m) else (if other then e.1 else patch_at s more))
    by true true h next = keeps e.1 h
    by true false h next = h
    by false true h next = h
    by false false h next = next h

-- ---- over lines

pub lasts_more : (a b d : List (Resource × Patch)) → Lasts a b → Lasts b d → Lasts a d
lasts_more a b d first second r h = second r (first r h)

module _ (c : ℕ) (stamp : Stamp) where
  abbrev here : At
  here = turn stamp (Client c)

  pub patches_line : (p : List Line) (e : Entry) → patches_at c (line here e ∷ p) ≡ patches_after (patches_at c p) e
  patches_line p e = ap (λ (own : Bool). on (reads_patches e) own (patches_after (patches_at c p) e) (patches_at c p)) (self c) ∙ by e
    where
      by : (e : Entry) → on (reads_patches e) true (patches_after (patches_at c p) e) (patches_at c p) ≡ patches_after (patches_at c p) e
      by Tick = refl
      by e = refl

  -- a change that is made
  pub lasts_made : (p : List Line) (r : Resource) (change : Flush)
      → Lasts (patches_at c p) (patches_at c (line here (Changes r change) ∷ p))
  lasts_made p r change =
      subst (Lasts (patches_at c p)) (sym (patches_line p (Changes r change)))
      (with_lasts r (made change (patch_at r (patches_at c p))) (patches_at c p) (made_has change (patch_at r (patches_at c p))))

  -- one that is taken to be written back
  pub lasts_taken : (p : List Line) (r : Resource) (change : Flush)
      → Lasts (patches_at c p) (patches_at c (line here (WritesBack r change) ∷ p))
  lasts_taken p r change =
      subst (Lasts (patches_at c p)) (sym (patches_line p (WritesBack r change)))
      (on_lasts r (flown change) (patches_at c p) (λ x h. flown_has change x))
