-- What is asked of targets after an entry of the client: nothing more, or one less, where the entry isn't a request that is queued.
use Rattle.std.proofs.Common.{◌≡◌, ℕ, zero, suc, ◌+◌, ◌≤◌, ◌<◌, Bool, true, false, List, [], ◌∷◌, ◌++◌, length, ◌⊎◌, inl, inr, ⊎_elim, refl}
use Rattle.std.proofs.Common.{sym, subst, ap, ◌∙◌, arith}
use Rattle.std.specs.Prelude.{nat_eq, not, if◌then◌else◌, filter}
use Rattle.lu_base.specs.declared.locks.Resource.{Resource}
use Rattle.lu_msg.specs.declared.messages.Reply.{Reply as ReplyTo}
use Rattle.lu_msg.specs.declared.operations.Op.{Op}
use Rattle.lu_spec_entries.specs.Carried.{Queued, Flight}
use Rattle.lu_spec_entries.specs.Concerns.{is_about}
use Rattle.lu_spec_entries.specs.Words.{Entry, Flies, Heard}
use Rattle.lu_spec_client.specs.Imports.{Import, import_of, imports_after, imports_from, import_after, rest}
use Rattle.lu_spec_client.specs.States.{first_imports}
use Rattle.lu_proof_objects.specs.Sound.{In, Asked, writes_to, one_if, queued_to, flying_to, backs_to}

abbrev pub backs_at : Resource → Import → ℕ
backs_at r i = queued_to r i.queue + flying_to r i.flights

-- ---- the import of one target after an entry

pub import_is : (e : Entry) (t u : ℕ) (imports : List Import) → (import_of t (imports_from u imports e) ≡ import_of t imports)
    ⊎ ((is_about (u + t) e ≡ true) × (import_of t (imports_from u imports e) ≡ import_after (import_of t imports) e) × (t < length imports))
import_is e t u [] = inl refl
import_is e zero u (i ∷ imports) = by (is_about u e) refl
  where
    same : u ≡ u + 0
    same = omega arith

    by : (b : Bool) → is_about u e ≡ b → ((if b then import_after i e else i) ≡ i)
        ⊎ ((is_about (u + 0) e ≡ true) × ((if b then import_after i e else i) ≡ import_after i e) × (0 < suc (length imports)))
    by true q = inr (ap (λ (n : ℕ). is_about n e) (sym same) ∙ q, refl, omega arith)
    by false q = inl refl
import_is e (suc t) u (i ∷ imports) = by (import_is e t (suc u) imports)
  where
    by : (import_of t (imports_from (suc u) imports e) ≡ import_of t imports)
        ⊎ ((is_about (suc u + t) e ≡ true) × (import_of t (imports_from (suc u) imports e) ≡ import_after (import_of t imports) e)
        × (t < length imports))
        → (import_of t (imports_from (suc u) imports e) ≡ import_of t imports)
        ⊎ ((is_about (u + suc t) e ≡ true) × (import_of t (imports_from (suc u) imports e) ≡ import_after (import_of t imports) e)
        × (suc t < suc (length imports)))
    by (inl q) = inl q
    by (inr q) = let lt = q.2 in inr (
      ap (λ (n : ℕ). is_about n e) (let s : u + suc t ≡ suc u + t = omega arith in s) ∙ q.0,
      q.1,
      omega (arith, lt),
    )

-- what is asked then was asked before, where the import asks no more
pub asked_before : (e : Entry) (t : ℕ) (o : Op) (imports : List Import)
    → (is_about t e ≡ true → t < length imports → (((q : Queued) → In q (import_after (import_of t imports) e).queue
    → In q (import_of t imports).queue ⊎ ((f : Flight) × In f (import_of t imports).flights × (f.op ≡ q.op)))
    × ((f : Flight) → In f (import_after (import_of t imports) e).flights → In f (import_of t imports).flights
    ⊎ ((q : Queued) × In q (import_of t imports).queue × (q.op ≡ f.op)))))
    → Asked (imports_after imports e) t o → Asked imports t o
asked_before e t o imports less a = by (import_is e t 0 imports)
  where
    old : (import_of t (imports_from 0 imports e) ≡ import_of t imports) → Asked imports t o
    old q = subst (λ (i : Import). ((x : Queued) × In x i.queue × (x.op ≡ o)) ⊎ ((f : Flight) × In f i.flights × (f.op ≡ o))) q a

    by : (import_of t (imports_from 0 imports e) ≡ import_of t imports)
        ⊎ ((is_about (0 + t) e ≡ true) × (import_of t (imports_from 0 imports e) ≡ import_after (import_of t imports) e)
        × (t < length imports)) → Asked imports t o
    by (inl q) = old q
    by (inr q) =
        let l = less (ap (λ (n : ℕ). is_about n e) (let s : t ≡ 0 + t = omega arith in s) ∙ q.0) q.2 in
        ⊎_elim
        (λ (x : (x : Queued) × In x (import_after (import_of t imports) e).queue × (x.op ≡ o)). ⊎_elim
        (λ (j : In x.0 (import_of t imports).queue). inl (x.0, j, x.2))
        (λ (j : (f : Flight) × In f (import_of t imports).flights × (f.op ≡ x.0.op)). inr (j.0, j.1, j.2 ∙ x.2)) (l.0 x.0 x.1))
        (λ (x : (f : Flight) × In f (import_after (import_of t imports) e).flights × (f.op ≡ o)). ⊎_elim
        (λ (j : In x.0 (import_of t imports).flights). inr (x.0, j, x.2))
        (λ (j : (y : Queued) × In y (import_of t imports).queue × (y.op ≡ x.0.op)). inl (j.0, j.1, j.2 ∙ x.2)) (l.1 x.0 x.1))
        (subst (λ (i : Import). ((x : Queued) × In x i.queue × (x.op ≡ o)) ⊎ ((f : Flight) × In f i.flights × (f.op ≡ o))) q.1 a)

-- ---- how many are asked

-- no more, where no import asks more
pub backs_less : (r : Resource) (e : Entry) (u : ℕ) (imports : List Import)
    → ((t : ℕ) → t < length imports → is_about (u + t) e ≡ true
    → backs_at r (import_after (import_of t imports) e) ≤ backs_at r (import_of t imports))
    → backs_to r (imports_from u imports e) ≤ backs_to r imports
backs_less r e u [] less = omega arith
backs_less r e u (i ∷ imports) less =
    by (backs_less r e (suc u) imports (λ t lt q. less (suc t) (omega (arith, lt))
    (ap (λ (n : ℕ). is_about n e) (let s : u + suc t ≡ suc u + t = omega arith in s) ∙ q))) (is_about u e) refl
  where
    by : backs_to r (imports_from (suc u) imports e) ≤ backs_to r imports → (b : Bool) → is_about u e ≡ b
        → backs_to r ((if b then import_after i e else i) ∷ imports_from (suc u) imports e) ≤ backs_to r (i ∷ imports)
    by later true q = let here : backs_at r (import_after i e) ≤ backs_at r i =
        less 0 (omega arith) (ap (λ (n : ℕ). is_about n e) (let s : u + 0 ≡ u = omega arith in s) ∙ q) in omega (arith, here, later)
    by later false q = omega (arith, later)

-- one less, where that of the target does
pub backs_fewer : (r : Resource) (e : Entry) (u t : ℕ) (imports : List Import)
    → ((t : ℕ) → t < length imports → is_about (u + t) e ≡ true
    → backs_at r (import_after (import_of t imports) e) ≤ backs_at r (import_of t imports))
    → t < length imports → is_about (u + t) e ≡ true → backs_at r (import_after (import_of t imports) e) < backs_at r (import_of t imports)
    → backs_to r (imports_from u imports e) < backs_to r imports
backs_fewer r e u t [] less within about there = absurd (omega (arith, within))
backs_fewer r e u zero (i ∷ imports) less within about there =
    let later = backs_less r e (suc u) imports (λ t lt q. less (suc t) (omega (arith, lt))
    (ap (λ (n : ℕ). is_about n e) (let s : u + suc t ≡ suc u + t = omega arith in s) ∙ q)) in
    let here : is_about u e ≡ true = ap (λ (n : ℕ). is_about n e) (let s : u ≡ u + 0 = omega arith in s) ∙ about in
    rw here (omega (arith, there, later))
backs_fewer r e u (suc t) (i ∷ imports) less within about there =
    by
    (backs_fewer r e (suc u) t imports (λ t lt q. less (suc t) (omega (arith, lt))
    (ap (λ (n : ℕ). is_about n e) (let s : u + suc t ≡ suc u + t = omega arith in s) ∙ q))
    (omega (arith, within)) (ap (λ (n : ℕ). is_about n e) (let s : suc u + t ≡ u + suc t = omega arith in s) ∙ about) there)
    (is_about u e) refl
  where
    by : backs_to r (imports_from (suc u) imports e) < backs_to r imports → (b : Bool) → is_about u e ≡ b
        → backs_to r ((if b then import_after i e else i) ∷ imports_from (suc u) imports e) < backs_to r (i ∷ imports)
    by later true q = let here : backs_at r (import_after i e) ≤ backs_at r i =
        less 0 (omega arith) (ap (λ (n : ℕ). is_about n e) (let s : u + 0 ≡ u = omega arith in s) ∙ q) in omega (arith, here, later)
    by later false q = omega (arith, later)

-- ---- the queue and the flights of one target

flying_more : (r : Resource) (fs : List Flight) (f : Flight) → flying_to r (fs ++ f ∷ []) ≡ flying_to r fs + one_if (writes_to r f.op)
flying_more r [] f = omega arith
flying_more r (g ∷ fs) f = let e = flying_more r fs f in omega (arith, e)

-- the front of the queue flies
pub backs_flown : (r : Resource) (i : Import) (t : ℕ) (f : Flight) (front : Queued) (more : List Queued) → i.queue ≡ front ∷ more → f.op
    ≡ front.op → backs_at r (import_after i (Flies t f)) ≤ backs_at r i
backs_flown r i t f front more q same =
    let a : queued_to r i.queue ≡ one_if (writes_to r front.op) + queued_to r more = ap (queued_to r) q in
    let b : queued_to r (rest i.queue) ≡ queued_to r more = ap (λ (qs : List Queued). queued_to r (rest qs)) q in
    let c : one_if (writes_to r f.op) ≡ one_if (writes_to r front.op) = ap (λ (o : Op). one_if (writes_to r o)) same in
    let d = flying_more r i.flights f in
    omega (arith, a, b, c, d)

flying_fewer : (r : Resource) (keep : Flight → Bool) (fs : List Flight) → flying_to r (filter keep fs) ≤ flying_to r fs
flying_fewer r keep [] = omega arith
flying_fewer r keep (f ∷ fs) = by (keep f) (flying_fewer r keep fs)
  where
    by : (b : Bool) → flying_to r (filter keep fs) ≤ flying_to r fs
        → flying_to r (if b then f ∷ filter keep fs else filter keep fs) ≤ flying_to r (f ∷ fs)
    by true ih = omega (arith, ih)
    by false ih = omega (arith, ih)

flying_less : (r : Resource) (keep : Flight → Bool) (f : Flight) (fs : List Flight) → In f fs → keep f ≡ false → writes_to r f.op ≡ true
    → flying_to r (filter keep fs) < flying_to r fs
flying_less r keep f [] i out back = absurd i
flying_less r keep f (g ∷ fs) (inl e) out back =
    let low = flying_fewer r keep fs in
    let gone : keep g ≡ false = ap keep e ∙ out in
    let is : writes_to r g.op ≡ true = ap (λ (x : Flight). writes_to r x.op) e ∙ back in
    rw (gone, is) (omega (arith, low))
flying_less r keep f (g ∷ fs) (inr i) out back = by (keep g) (flying_less r keep f fs i out back)
  where
    by : (b : Bool) → flying_to r (filter keep fs) < flying_to r fs
        → flying_to r (if b then g ∷ filter keep fs else filter keep fs) < flying_to r (g ∷ fs)
    by true ih = omega (arith, ih)
    by false ih = omega (arith, ih)

pub backs_heard : (r : Resource) (i : Import) (t : ℕ) (f : Flight) (k : ReplyTo) → backs_at r (import_after i (Heard t f k)) ≤ backs_at r i
backs_heard r i t f k = let e = flying_fewer r (λ (g : Flight). not (nat_eq g.xid f.xid)) i.flights in omega (arith, e)

pub backs_landed : (r : Resource) (i : Import) (t : ℕ) (f : Flight) (k : ReplyTo) → In f i.flights → writes_to r f.op ≡ true
    → backs_at r (import_after i (Heard t f k)) < backs_at r i
backs_landed r i t f k j back = let e = flying_less r (λ (g : Flight). not (nat_eq g.xid f.xid)) f i.flights j gone back in omega (arith, e)
  where
    gone : not (nat_eq f.xid f.xid) ≡ false
    gone = grind arith

-- ---- at the start, and of a new life

pub none_first : (r : Resource) (n : ℕ) → backs_to r (first_imports n) ≡ 0
none_first r zero = refl
none_first r (suc n) = let e = none_first r n in omega (arith, e)

pub first_asks : (t n : ℕ) (o : Op) → Asked (first_imports n) t o → ⊥
first_asks t zero o (inl x) = x.1
first_asks t zero o (inr x) = x.1
first_asks zero (suc n) o (inl x) = x.1
first_asks zero (suc n) o (inr x) = x.1
first_asks (suc t) (suc n) o a = first_asks t n o a
