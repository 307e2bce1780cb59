-- A lock that is given: the story of its object has it then under its cookie, and has it granted; that of another object has nothing of it.
use Rattle.std.proofs.Common.{◌≡◌, ◌∙◌, ℕ, Bool, true, false, List, ◌∷◌, Option, Some, None, ◌⊎◌, inl, inr, ⊎_elim, refl, sym, subst, ap}
use Rattle.std.specs.Prelude.{nat_eq, if◌then◌else◌}
use Rattle.std.proofs.lemmas.Bool.{eqb-true}
use Rattle.lu_base.specs.declared.ids.Who.{Who}
use Rattle.lu_base.specs.declared.locks.Lock.{Lock as TableLock}
use Rattle.lu_base.specs.declared.locks.Resource.{Resource}
use Rattle.lu_held.specs.Locks.{same_resource}
use Rattle.lu_spec_entries.specs.Carried.{Deed}
use Rattle.lu_spec_entries.specs.Words.{Line}
use Rattle.lu_spec_target.specs.Lives.{is_life}
use Rattle.lu_spec_target.specs.Locks.{with_lock}
use Rattle.lu_proof_lawful.specs.Covered.TargetStates.{server_of, evicted_of, shown_of}
use Rattle.lu_proof_lawful.specs.Covered.Heads.{Head}
use Rattle.lu_proof_lawful.proofs.Preconditions.Guards.{In}
use Rattle.lu_proof_lawful.proofs.Preconditions.StoryGuards.{IsServing}
use Rattle.lu_proof_lawful.proofs.Preconditions.Lists.{self}
use Rattle.lu_proof_lawful.proofs.Preconditions.QueueLists.{resource_of, resource_itself}
use Rattle.lu_proof_lawful.proofs.Invariants.Groups.{HoldsAt}
use Rattle.lu_proof_lawful.proofs.Invariants.TargetGroups.{Gave}
use Rattle.lu_proof_lawful.proofs.Invariants.LockLists.{with_in, with_new, with_old}
use Rattle.lu_proof_bytes.specs.Object.Words.{Lock, Request, Entry, Grant, Promote}
use Rattle.lu_proof_bytes.specs.Object.Folds.{IsGranted}
use Rattle.lu_proof_lawful.specs.Projection.Locks.{lock_of, given}
use Rattle.lu_proof_lawful.specs.Projection.Stories.{with_entry, if_on}
use Rattle.lu_proof_lawful.proofs.Refinement.TiedTarget.{GivenOn, StandsThere, GrantedOn, TargetBy}
use Rattle.lu_proof_lawful.proofs.Refinement.TargetSame.{GivenStay}
use Rattle.lu_proof_lawful.proofs.Refinement.TargetOwn.{same_lock}

pub resource_or : (a b : Resource) → (a ≡ b) ⊎ (a ≡ b → ⊥)
resource_or a b = by (same_resource a b) refl
  where
    by : (v : Bool) → same_resource a b ≡ v → (a ≡ b) ⊎ (a ≡ b → ⊥)
    by true e = inl (resource_of a b e)
    by false e = inr (λ q. let yes : same_resource a b ≡ true = subst (λ (x : Resource). same_resource a x ≡ true) q (resource_itself a)
        in absurd (cc))

-- an entry about one object: there where the object is that of the story
pub if_some : (r q : Resource) (x : Entry) (h : List Entry) → q ≡ r → with_entry (if_on r q x) h ≡ x ∷ h
if_some r q x h on = ap (λ (b : Bool). with_entry (if b then Some x else None) h)
    (subst (λ (p : Resource). same_resource q p ≡ true) on (resource_itself q))

pub if_none : (r q : Resource) (x : Entry) (h : List Entry) → (q ≡ r → ⊥) → with_entry (if_on r q x) h ≡ h
if_none r q x h other = by (same_resource q r) refl
  where
    by : (b : Bool) → same_resource q r ≡ b → with_entry (if b then Some x else None) h ≡ h
    by true e = absurd (other (resource_of q r e))
    by false e = refl

pub if_either : (r q : Resource) (x : Entry) (h : List Entry) (P : List Entry → Type 0) → P h → (q ≡ r → P (x ∷ h))
    → P (with_entry (if_on r q x) h)
if_either r q x h P none some = ⊎_elim
    (λ (on : q ≡ r). subst P (sym (if_some r q x h on)) (some on))
    (λ (other : q ≡ r → ⊥). subst P (sym (if_none r q x h other)) none)
    (resource_or q r)

-- ---- what a story has of a lock that it grants

pub record BringsLock (lock : Lock) (h k : List Entry) : Type 0 where
  pub given_back : (c : ℕ) (m : Lock) → given c k ≡ Some m → ((lock ≡ m) × (lock.cookie ≡ c)) ⊎ (given c h ≡ Some m)
  pub given_here : given lock.cookie k ≡ Some lock
  pub given_more : (c : ℕ) (m : Lock) → given c h ≡ Some m → (lock.cookie ≡ c → lock ≡ m) → given c k ≡ Some m
  pub granted_back : (m : Lock) → IsGranted k m → (lock ≡ m) ⊎ IsGranted h m
  pub granted_here : IsGranted k lock
  pub granted_more : (m : Lock) → IsGranted h m → IsGranted k m

given_if : (lock : Lock) (c : ℕ) (m : Lock) (old : Option Lock) → (if nat_eq lock.cookie c then Some lock else old) ≡ Some m
    → ((lock ≡ m) × (lock.cookie ≡ c)) ⊎ (old ≡ Some m)
given_if lock c m old e = by (nat_eq lock.cookie c) refl e
  where
    by : (v : Bool) → nat_eq lock.cookie c ≡ v → (if v then Some lock else old) ≡ Some m → ((lock ≡ m) × (lock.cookie ≡ c)) ⊎ (old ≡ Some m)
    by true t e = inl (cc, eqb-true lock.cookie c t)
    by false t e = inr e

if_given : (lock : Lock) (c : ℕ) (m : Lock) (old : Option Lock) → old ≡ Some m → (lock.cookie ≡ c → lock ≡ m)
    → (if nat_eq lock.cookie c then Some lock else old) ≡ Some m
if_given lock c m old e one = by (nat_eq lock.cookie c) refl
  where
    by : (v : Bool) → nat_eq lock.cookie c ≡ v → (if v then Some lock else old) ≡ Some m
    by true t = ap Some (one (eqb-true lock.cookie c t))
    by false t = e

if_here : (lock : Lock) (old : Option Lock) → (if nat_eq lock.cookie lock.cookie then Some lock else old) ≡ Some lock
if_here lock old = rw (self lock.cookie) refl

pub grant_brings : (q : Request) (l : Lock) (s : ℕ) (seen : ℕ → Bool) (h : List Entry) → BringsLock l h (Grant q l s seen ∷ h)
grant_brings q l s seen h =
    record {
      given_back = λ c m e. given_if l c m (given c h) e;
      given_here = if_here l (given l.cookie h);
      given_more = λ c m e one. if_given l c m (given c h) e one;
      granted_back = λ m i. i;
      granted_here = inl refl;
      granted_more = λ m i. inr i;
    }

pub promote_brings : (l : Lock) (h : List Entry) → BringsLock l h (Promote l ∷ h)
promote_brings l h =
    record {
      given_back = λ c m e. given_if l c m (given c h) e;
      given_here = if_here l (given l.cookie h);
      given_more = λ c m e one. if_given l c m (given c h) e one;
      granted_back = λ m i. i;
      granted_here = inl refl;
      granted_more = λ m i. inr i;
    }

-- ---- a line that gives a lock

pub record GivesOne (past new : List Line) (giver : Deed) (lock : TableLock) : Type 0 where
  pub mine : Gave new giver lock
  pub more : (d : Deed) (l : TableLock) → Gave past d l → Gave new d l
  pub back : (d : Deed) (l : TableLock) → Gave new d l → ((giver ≡ d) × (lock ≡ l)) ⊎ Gave past d l

-- it is granted, and nothing else is; all granted locks were shown
pub record GrantsOne (osts : ℕ) (past new : List Line) (lock : TableLock) : Type 0 where
  pub granted : (server_of osts new).granted ≡ with_lock lock (server_of osts past).granted
  pub evicted : evicted_of new ≡ evicted_of past
  pub shown : shown_of new ≡ with_lock lock (shown_of past)
  pub serves : IsServing osts past

module _ (head : Head) (r : Resource) (past new : List Line) (h k : List Entry) (tied : TargetBy head r past h) (now : HoldsAt head new)
    (giver : Deed) (lock : TableLock)
    (one : GivesOne past new giver lock) (on : lock.resource ≡ r → BringsLock (lock_of lock) h k)
    (off : (lock.resource ≡ r → ⊥) → k ≡ h) where
  -- a lock of its cookie is the same
  same_one : (d : Deed) (l : TableLock) → Gave past d l → lock.cookie.0 ≡ l.cookie.0 → lock ≡ l
  same_one d l g c = same_lock head new now giver d lock l one.mine (one.more d l g) c

  pub stay_one : GivenStay h k
  stay_one c m e = by (resource_or lock.resource r)
    where
      by : (lock.resource ≡ r) ⊎ (lock.resource ≡ r → ⊥) → given c k ≡ Some m
      by (inr other) = ap (given c) (off other) ∙ e
      by (inl mine) =
          let old = tied.given c m e in
          let was = old.0 in
          (on mine).given_more c m e (λ q. ap lock_of (same_one was.0 was.1 was.2 (q ∙ sym old.1 ∙ ap (λ (x : Lock). x.cookie) (sym was.4)))
          ∙ was.4)

  pub given_one : (c : ℕ) (m : Lock) → given c k ≡ Some m → GivenOn r new m × (m.cookie ≡ c)
  given_one c m e = by (resource_or lock.resource r)
    where
      older : given c h ≡ Some m → GivenOn r new m × (m.cookie ≡ c)
      older e = let old = tied.given c m e in let was = old.0 in ((was.0, was.1, one.more was.0 was.1 was.2, was.3, was.4), old.1)

      by : (lock.resource ≡ r) ⊎ (lock.resource ≡ r → ⊥) → GivenOn r new m × (m.cookie ≡ c)
      by (inr other) = older (ap (given c) (sym (off other)) ∙ e)
      by (inl mine) = ⊎_elim
          (λ (p : (lock_of lock ≡ m) × (lock.cookie.0 ≡ c)). (
            (giver, lock, one.mine, mine, p.0),
            ap (λ (x : Lock). x.cookie) (sym p.0)
                ∙ p.1,
          ))
          (λ (q : given c h ≡ Some m). older q)
          ((on mine).given_back c m e)

  pub gives_one : (d : Deed) (l : TableLock) → Gave new d l → l.resource ≡ r → given l.cookie.0 k ≡ Some (lock_of l)
  gives_one d l g is = ⊎_elim
      (λ (p : (giver ≡ d) × (lock ≡ l)). subst (λ (x : TableLock). given x.cookie.0 k ≡ Some (lock_of x)) p.1
      (on (ap (λ (x : TableLock). x.resource) p.1 ∙ is)).given_here)
      (λ (b : Gave past d l). stay_one l.cookie.0 (lock_of l) (tied.gives d l b is))
      (one.back d l g)

  module _ (s : GrantsOne head.osts past new lock) (all_shown : shown_of past ≡ (server_of head.osts past).granted) where
    stands_one : (d : Deed) (l : TableLock) → Gave past d l → StandsThere head past l → StandsThere head new l
    stands_one d l g (inl i) = inl (subst (λ (ls : List TableLock). In l ls) (sym s.granted)
        (with_old lock l (server_of head.osts past).granted (λ c. sym (same_one d l g (sym c))) i))
    stands_one d l g (inr p) = inr (
      subst (λ (ws : List Who). is_life l.ask.who ws ≡ true) (sym s.evicted) p.0,
      λ serves. subst (λ (ls : List TableLock). In l ls) (sym s.shown)
          (with_old lock l (shown_of past) (λ c. sym (same_one d l g (sym c))) (p.1 s.serves)),
    )

    pub granted_one : (m : Lock) → IsGranted k m → GrantedOn head r new m
    granted_one m i = by (resource_or lock.resource r)
      where
        older : IsGranted h m → GrantedOn head r new m
        older j = let was = tied.granted m j in (was.0, was.1, one.more was.0 was.1 was.2, was.3, was.4, stands_one was.0 was.1 was.2 was.5)

        by : (lock.resource ≡ r) ⊎ (lock.resource ≡ r → ⊥) → GrantedOn head r new m
        by (inr other) = older (subst (λ (x : List Entry). IsGranted x m) (off other) i)
        by (inl mine) = ⊎_elim
            (λ (e : lock_of lock ≡ m). (
              giver,
              lock,
              one.mine,
              mine,
              e,
              inl (subst (λ (ls : List TableLock). In lock ls) (sym s.granted) (with_new lock (server_of head.osts past).granted)),
            ))
            (λ (j : IsGranted h m). older j)
            ((on mine).granted_back m i)

    pub grants_one : (l : TableLock) → In l (server_of head.osts new).granted → l.resource ≡ r → IsGranted k (lock_of l)
    grants_one l i is = ⊎_elim
        (λ (e : lock ≡ l). subst (λ (x : TableLock). IsGranted k (lock_of x)) e
        (on (ap (λ (x : TableLock). x.resource) e ∙ is)).granted_here)
        (λ (j : In l (server_of head.osts past).granted). older (tied.grants l j is) (resource_or lock.resource r))
        (with_in lock l (server_of head.osts past).granted (subst (λ (ls : List TableLock). In l ls) s.granted i))
      where
        older : IsGranted h (lock_of l) → (lock.resource ≡ r) ⊎ (lock.resource ≡ r → ⊥) → IsGranted k (lock_of l)
        older j (inr other) = subst (λ (x : List Entry). IsGranted x (lock_of l)) (sym (off other)) j
        older j (inl mine) = (on mine).granted_more (lock_of l) j
