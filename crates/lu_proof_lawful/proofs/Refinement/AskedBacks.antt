-- The write-backs to one object among what a life has queued and in flight, as that changes.
use Rattle.std.proofs.Common.{◌≡◌, ℕ, ◌+◌, ◌≤◌, ◌<◌, Bool, true, false, List, [], ◌∷◌, ◌++◌, ◌⊎◌, inl, inr, refl, sym, ap, ◌∙◌, arith}
use Rattle.std.specs.Prelude.{nat_eq, not, length, filter, if◌then◌else◌}
use Rattle.std.proofs.lemmas.Bool.{cond-true, cond-false}
use Rattle.lu_base.specs.declared.locks.Resource.{Resource}
use Rattle.lu_msg.specs.declared.operations.Op.{Op}
use Rattle.lu_spec_entries.specs.Carried.{Queued, Flight}
use Rattle.lu_proof_lawful.specs.Covered.Imports.{without_flight}
use Rattle.lu_proof_lawful.proofs.Preconditions.Heard.{In}
use Rattle.lu_proof_lawful.proofs.Refinement.TiedAsked.{is_back, queued_backs, flying_backs}

module _ (r : Resource) where
  flying_more : (fs gs : List Flight) → flying_backs r (fs ++ gs) ≡ flying_backs r fs ++ flying_backs r gs
  flying_more [] gs = refl
  flying_more (f ∷ fs) gs = by (is_back r f.op) (flying_more fs gs)
    where
      by : (b : Bool) → flying_backs r (fs ++ gs) ≡ flying_backs r fs ++ flying_backs r gs
          → (if b then f.op ∷ flying_backs r (fs ++ gs) else flying_backs r (fs ++ gs))
          ≡ (if b then f.op ∷ flying_backs r fs else flying_backs r fs) ++ flying_backs r gs
      by true e = ap (λ (xs : List Op). f.op ∷ xs) e
      by false e = e

  queued_more : (qs gs : List Queued) → queued_backs r (qs ++ gs) ≡ queued_backs r qs ++ queued_backs r gs
  queued_more [] gs = refl
  queued_more (q ∷ qs) gs = by (is_back r q.op) (queued_more qs gs)
    where
      by : (b : Bool) → queued_backs r (qs ++ gs) ≡ queued_backs r qs ++ queued_backs r gs
          → (if b then q.op ∷ queued_backs r (qs ++ gs) else queued_backs r (qs ++ gs))
          ≡ (if b then q.op ∷ queued_backs r qs else queued_backs r qs) ++ queued_backs r gs
      by true e = ap (λ (xs : List Op). q.op ∷ xs) e
      by false e = e

  ends : (xs : List Op) → xs ++ [] ≡ xs
  ends [] = refl
  ends (x ∷ xs) = ap (λ (ys : List Op). x ∷ ys) (ends xs)

  both_none : (xs ys : List Op) → xs ++ ys ≡ [] → (xs ≡ []) × (ys ≡ [])
  both_none [] ys e = (refl, e)
  both_none (x ∷ xs) ys e = absurd (cc)

  -- ---- one more is queued

  pub queued_other : (qs : List Queued) (q : Queued) → is_back r q.op ≡ false → queued_backs r (qs ++ q ∷ []) ≡ queued_backs r qs
  queued_other qs q out = queued_more qs (q ∷ []) ∙ ap (λ (xs : List Op). queued_backs r qs ++ xs) (cond-false _ _ _ out)
      ∙ ends (queued_backs r qs)

  pub queued_one : (qs : List Queued) (q : Queued) (fs : List Flight) → is_back r q.op ≡ true → queued_backs r qs ++ flying_backs r fs ≡ []
      → queued_backs r (qs ++ q ∷ []) ++ flying_backs r fs ≡ q.op ∷ []
  queued_one qs q fs is none =
      let parts = both_none (queued_backs r qs) (flying_backs r fs) none in
      ap (λ (xs : List Op). xs ++ flying_backs r fs) (queued_more qs (q ∷ []) ∙ ap (λ (xs : List Op). xs ++ queued_backs r (q ∷ [])) parts.0
      ∙ cond-true _ _ _ is) ∙ ap (λ (xs : List Op). q.op ∷ xs) parts.1

  -- ---- the front of the queue flies

  moved : (front : Queued) (more : List Queued) (fs : List Flight) (f : Flight) → f.op ≡ front.op → (b : Bool) → is_back r front.op ≡ b
      → (xs : List Op) → (xs ≡ []) ⊎ ((o : Op) × (xs ≡ o ∷ [])) → queued_backs r (front ∷ more) ++ flying_backs r fs ≡ xs
      → queued_backs r more ++ flying_backs r (fs ++ f ∷ []) ≡ xs
  moved front more fs f same false out xs few e =
      ap (λ (ys : List Op). queued_backs r more ++ ys) (flying_more fs (f ∷ [])
      ∙ ap (λ (ys : List Op). flying_backs r fs ++ ys) (cond-false _ _ _ (ap (is_back r) same ∙ out)) ∙ ends (flying_backs r fs))
      ∙ ap (λ (ys : List Op). ys ++ flying_backs r fs) (sym (cond-false _ (front.op ∷ queued_backs r more) (queued_backs r more) out)) ∙ e
  moved front more fs f same true is xs few e =
      ap (λ (ys : List Op). queued_backs r more ++ ys) (flying_more fs (f ∷ [])
      ∙ ap (λ (ys : List Op). flying_backs r fs ++ ys) (cond-true _ _ _ (ap (is_back r) same ∙ is)))
      ∙ by few (sym (ap (λ (ys : List Op). ys ++ flying_backs r fs) (cond-true _ (front.op ∷ queued_backs r more) (queued_backs r more) is))
      ∙ e)
    where
      by : (xs ≡ []) ⊎ ((o : Op) × (xs ≡ o ∷ [])) → front.op ∷ (queued_backs r more ++ flying_backs r fs) ≡ xs → queued_backs r more
          ++ (flying_backs r fs ++ f.op ∷ []) ≡ xs
      by (inl none) q = absurd (let z : front.op ∷ (queued_backs r more ++ flying_backs r fs) ≡ [] = q ∙ none in cc)
      by (inr one) q =
          let z : front.op ∷ (queued_backs r more ++ flying_backs r fs) ≡ one.0 ∷ [] = q ∙ one.1 in
          let first : front.op ≡ one.0 = cc in
          let rest : queued_backs r more ++ flying_backs r fs ≡ [] = cc in
          let parts = both_none (queued_backs r more) (flying_backs r fs) rest in
          rw (parts.0, parts.1) (ap (λ (o : Op). o ∷ []) (same ∙ first) ∙ sym one.1)

  pub flown_backs : (front : Queued) (more : List Queued) (fs : List Flight) (f : Flight) → f.op ≡ front.op → (xs : List Op) → (xs ≡ [])
      ⊎ ((o : Op) × (xs ≡ o ∷ []))
      → queued_backs r (front ∷ more) ++ flying_backs r fs ≡ xs → queued_backs r more ++ flying_backs r (fs ++ f ∷ []) ≡ xs
  flown_backs front more fs f same xs few e = moved front more fs f same (is_back r front.op) refl xs few e

  -- ---- the answer to one is heard

  fewer : (keep : Flight → Bool) (fs : List Flight) → length (flying_backs r (filter keep fs)) ≤ length (flying_backs r fs)
  fewer keep [] = omega arith
  fewer keep (f ∷ fs) = by (keep f) (is_back r f.op) refl (fewer keep fs)
    where
      by : (a b : Bool) → is_back r f.op ≡ b → length (flying_backs r (filter keep fs)) ≤ length (flying_backs r fs)
          → length (flying_backs r (if a then f ∷ filter keep fs else filter keep fs)) ≤ length
          (if b then f.op ∷ flying_backs r fs else flying_backs r fs)
      by true true e ih = rw e (omega (arith, ih))
      by true false e ih = rw e ih
      by false true e ih = omega (arith, ih)
      by false false e ih = ih

  less : (keep : Flight → Bool) (f : Flight) (fs : List Flight) → In f fs → keep f ≡ false → is_back r f.op ≡ true
      → length (flying_backs r (filter keep fs)) < length (flying_backs r fs)
  less keep f [] i gone back = absurd i
  less keep f (g ∷ fs) (inl e) gone back =
      let low = fewer keep fs in
      let out : keep g ≡ false = ap keep e ∙ gone in
      let is : is_back r g.op ≡ true = ap (λ (x : Flight). is_back r x.op) e ∙ back in
      rw (out, is) (omega (arith, low))
  less keep f (g ∷ fs) (inr i) gone back = by (keep g) (is_back r g.op) refl (less keep f fs i gone back)
    where
      by : (a b : Bool) → is_back r g.op ≡ b → length (flying_backs r (filter keep fs)) < length (flying_backs r fs)
          → length (flying_backs r (if a then g ∷ filter keep fs else filter keep fs)) < length
          (if b then g.op ∷ flying_backs r fs else flying_backs r fs)
      by true true e ih = rw e (omega (arith, ih))
      by true false e ih = rw e ih
      by false true e ih = omega (arith, ih)
      by false false e ih = ih

  -- a write-back to the object: none is left
  pub heard_back : (qs : List Queued) (fs : List Flight) (f : Flight) → In f fs → is_back r f.op ≡ true → (xs : List Op) → (xs ≡ [])
      ⊎ ((o : Op) × (xs ≡ o ∷ [])) → queued_backs r qs ++ flying_backs r fs ≡ xs
      → queued_backs r qs ++ flying_backs r (without_flight f.xid fs) ≡ []
  heard_back qs fs f i back xs few e =
      let drop = less (λ (g : Flight). not (nat_eq g.xid f.xid)) f fs i (gone f.xid) back in
      let one : length xs ≤ 1 = short few in
      let whole : length (queued_backs r qs) + length (flying_backs r fs) ≡ length xs =
      sym (lengths (queued_backs r qs) (flying_backs r fs)) ∙ ap length e in
      none (queued_backs r qs ++ flying_backs r (without_flight f.xid fs))
      (lengths (queued_backs r qs) (flying_backs r (without_flight f.xid fs)) ∙ (omega (arith, drop, one, whole)))
    where
      gone : (x : ℕ) → not (nat_eq x x) ≡ false
      gone x = grind arith

      lengths : (ys zs : List Op) → length (ys ++ zs) ≡ length ys + length zs
      lengths [] zs = omega arith
      lengths (y ∷ ys) zs = let more = lengths ys zs in omega (arith, more)

      short : (xs ≡ []) ⊎ ((o : Op) × (xs ≡ o ∷ [])) → length xs ≤ 1
      short (inl z) = rw z (omega arith)
      short (inr z) = rw z.1 (omega arith)

      none : (ys : List Op) → length ys ≡ 0 → ys ≡ []
      none [] z = refl
      none (y ∷ ys) z = absurd (omega (arith, z))

  -- anything else: they are the same
  pub heard_other : (keep : Flight → Bool) (fs : List Flight) → ((g : Flight) → In g fs → keep g ≡ false → is_back r g.op ≡ false)
      → flying_backs r (filter keep fs) ≡ flying_backs r fs
  heard_other keep [] n = refl
  heard_other keep (f ∷ fs) n = by (keep f) refl (is_back r f.op) refl (heard_other keep fs (λ g i. n g (inr i)))
    where
      by : (a : Bool) → keep f ≡ a → (b : Bool) → is_back r f.op ≡ b → flying_backs r (filter keep fs) ≡ flying_backs r fs
          → flying_backs r (if a then f ∷ filter keep fs else filter keep fs) ≡ (if b then f.op ∷ flying_backs r fs else flying_backs r fs)
      by true k true e ih = rw e (ap (λ (xs : List Op). f.op ∷ xs) ih)
      by true k false e ih = rw e ih
      by false k true e ih = absurd (let q : true ≡ false = sym e ∙ n f (inl refl) k in cc)
      by false k false e ih = ih
