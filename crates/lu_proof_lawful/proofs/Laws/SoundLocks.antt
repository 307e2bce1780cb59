-- What a client holds: of one target and cookie one lock, each range in order, and no two of one object of which one is for writing meet.
use Rattle.std.proofs.Common.{◌≡◌, ℕ, true, List, [], ◌∷◌, ◌⊎◌, inl, inr, ⊎_elim, refl, sym, subst, ap, ◌∙◌}
use Rattle.std.specs.Prelude.{◌||◌}
use Rattle.lu_base.specs.declared.locks.Extent.{Extent}
use Rattle.lu_base.specs.declared.locks.Lock.{Lock}
use Rattle.lu_base.specs.declared.locks.Mode.{Mode}
use Rattle.lu_base.specs.declared.locks.Mode.TheVariants.{PR, PW}
use Rattle.lu_base.specs.declared.locks.Policy.TheVariants.{Range}
use Rattle.lu_lock.specs.Conflict.{conflict}
use Rattle.lu_lock.specs.Overlap.{extents_meet}
use Rattle.lu_held.specs.declared.locks.HeldLock.{HeldLock}
use Rattle.lu_held.specs.Locks.{name_of, is_named}
use Rattle.lu_spec_entries.specs.Carried.{Deed}
use Rattle.lu_spec_entries.specs.Concerns.{only}
use Rattle.lu_spec_entries.specs.Words.{Line}
use Rattle.lu_spec_client.specs.Caches.{held_at}
use Rattle.lu_proof_lawful.specs.Covered.Heads.{Head}
use Rattle.lu_proof_objects.specs.Points.{is_write}
use Rattle.lu_proof_objects.specs.Alike.{IsRange}
use Rattle.lu_proof_objects.specs.Sound as client
use Rattle.lu_proof_objects.specs.Sound.{IsOnce, AreApart}
use Rattle.lu_proof_objects.proofs.Lists.{own_name}
use Rattle.lu_proof_lawful.proofs.Preconditions.Guards.{In, HasRange}
use Rattle.lu_proof_lawful.proofs.Preconditions.ClientLines.{held_once, once_same}
use Rattle.lu_proof_lawful.proofs.Preconditions.ClientLocks.{Once}
use Rattle.lu_proof_lawful.proofs.Preconditions.Grown.{Grown}
use Rattle.lu_proof_lawful.proofs.Preconditions.Held.{held_into}
use Rattle.lu_proof_lawful.proofs.Preconditions.PinsFit.{PinsFit}
use Rattle.lu_proof_lawful.proofs.Invariants.Groups.{HoldsAt}
use Rattle.lu_proof_lawful.proofs.Invariants.TargetGroups.{IsKind, NoneOf, Dead, Lapsed, IsOver, Holding}
use Rattle.lu_proof_lawful.proofs.Invariants.All.{holds}
use Rattle.lu_proof_lawful.proofs.Refinement.Placed.{held_place}

-- ---- lists

pub to_client : {A : Type 0} (x : A) (xs : List A) → In x xs → client.In x xs
to_client x [] i = absurd i
to_client x (y ∷ ys) (inl e) = inl e
to_client x (y ∷ ys) (inr i) = inr (to_client x ys i)

pub of_client : {A : Type 0} (x : A) (xs : List A) → client.In x xs → In x xs
of_client x [] i = absurd i
of_client x (y ∷ ys) (inl e) = inl e
of_client x (y ∷ ys) (inr i) = inr (of_client x ys i)

pub once_client : (hs : List HeldLock) → Once hs → IsOnce hs
once_client [] o = tt
once_client (h ∷ hs) o = ((λ g i. o.0 g (of_client g hs i)), once_client hs o.1)

-- ---- two modes of which one is for writing

conflicts : (m n : Mode) (p q : Extent) (l k : Lock) → l.ask.mode ≡ m → k.ask.mode ≡ n → l.ask.policy ≡ Range p → k.ask.policy ≡ Range q
    → (m ≡ PR) ⊎ (m ≡ PW) → (n ≡ PR) ⊎ (n ≡ PW) → (is_write m || is_write n) ≡ true → extents_meet p q ≡ true
    → conflict l.ask k.ask ≡ true
conflicts m n p q l k a b c d (inl e) (inl f) w meet = absurd (let z : (is_write PR || is_write PR) ≡ true =
    sym (ap (λ (x : Mode). is_write x || is_write n) e ∙ ap (λ (x : Mode). is_write PR || is_write x) f) ∙ w in cc)
conflicts m n p q l k a b c d (inl e) (inr f) w meet = rw (a ∙ e, b ∙ f, c, d) meet
conflicts m n p q l k a b c d (inr e) (inl f) w meet = rw (a ∙ e, b ∙ f, c, d) meet
conflicts m n p q l k a b c d (inr e) (inr f) w meet = rw (a ∙ e, b ∙ f, c, d) meet

module _ (head : Head) (past : List Line) (g : Grown head past) (c : ℕ) where
  abbrev holding : (h : HeldLock) → In h (held_at c past) → Holding head.osts (only h.target.0 past) c h
  holding h i = ((holds head past g).at h.target.0).locks.held c h (held_into c h.target.0 past h refl i)

  pub held_kind_is : (h : HeldLock) → In h (held_at c past) → IsKind h.lock.ask.mode h.lock.ask.policy
  held_kind_is h i = ((holds head past g).at h.target.0).locks.kinds (holding h i).deed h.lock (holding h i).gave

  pub held_ranges : (h : HeldLock) (x : Extent) → In h (held_at c past) → h.lock.ask.policy ≡ Range x → IsRange x
  held_ranges h x i e = let k = subst (IsKind h.lock.ask.mode) e (held_kind_is h i) in (k.0, k.1)

  -- what is held isn't over
  pub held_not_over : (t : ℕ) (h : HeldLock) (d : Deed) → h.target.0 ≡ t → In h (held_at c past) → d.reply.who.client ≡ c
      → IsOver (only t past) d h.lock → ⊥
  held_not_over t h d there i own over = ⊎_elim (λ (k : Dead (only t past) d h.lock). none k.1)
      (λ (k : Lapsed (only t past) d h.lock). none k.1) over
    where
      none : NoneOf h.lock.cookie (held_at d.reply.who.client (only t past)) → ⊥
      none n = n h (subst (λ (v : ℕ). In h (held_at v (only t past))) (sym own) (held_into c t past h there i)) refl

  -- two on one object of which one is for writing and that meet are one
  pub held_apart : PinsFit past → AreApart (held_at c past)
  held_apart fit h f x y i j on range_h range_f write meet =
      let hi = of_client h (held_at c past) i in
      let fi = of_client f (held_at c past) j in
      let ranged : (l : Lock) (z : Extent) → l.ask.policy ≡ Range z → HasRange l.ask.policy = λ l z e. subst HasRange (sym e) tt in
      let there : f.target.0 ≡ h.target.0 =
      held_place head past g fit c f h.lock.resource fi (sym on) (ranged f.lock y range_f)
      ∙ sym (held_place head past g fit c h h.lock.resource hi refl (ranged h.lock x range_h))
      in
      one h f hi fi there on x y range_h range_f write meet
    where
      one : (h f : HeldLock) → In h (held_at c past) → In f (held_at c past) → f.target.0 ≡ h.target.0 → h.lock.resource ≡ f.lock.resource
          → (x y : Extent) → h.lock.ask.policy ≡ Range x → f.lock.ask.policy ≡ Range y
          → (is_write h.lock.ask.mode || is_write f.lock.ask.mode) ≡ true → extents_meet x y ≡ true → h ≡ f
      one h f i j there on x y range_h range_f write meet =
          once_same (held_at c past) h f (held_once head c past g) i j named
        where
          t : ℕ
          t = h.target.0

          facts : HoldsAt head (only h.target.0 past)
          facts = (holds head past g).at h.target.0

          a : Holding head.osts (only h.target.0 past) c h
          a = facts.locks.held c h (held_into c h.target.0 past h refl i)

          b : Holding head.osts (only h.target.0 past) c f
          b = facts.locks.held c f (held_into c h.target.0 past f there j)

          kind_a : IsKind h.lock.ask.mode (Range x)
          kind_a = subst (IsKind h.lock.ask.mode) range_h (facts.locks.kinds a.deed h.lock a.gave)

          kind_b : IsKind f.lock.ask.mode (Range y)
          kind_b = subst (IsKind f.lock.ask.mode) range_f (facts.locks.kinds b.deed f.lock b.gave)

          fights : conflict h.lock.ask f.lock.ask ≡ true
          fights = conflicts h.lock.ask.mode f.lock.ask.mode x y h.lock f.lock refl refl range_h range_f kind_a.2 kind_b.2 write meet

          client_a : a.deed.reply.who.client ≡ c
          client_a = ap (λ w. w.client) a.who ∙ facts.phase.client c

          client_b : b.deed.reply.who.client ≡ c
          client_b = ap (λ w. w.client) b.who ∙ facts.phase.client c

          same : h.lock ≡ f.lock
          same = ⊎_elim (λ (e : h.lock ≡ f.lock). e)
              (λ (o : IsOver (only h.target.0 past) a.deed h.lock ⊎ IsOver (only h.target.0 past) b.deed f.lock). absurd
              (⊎_elim (λ (k : IsOver (only h.target.0 past) a.deed h.lock). held_not_over h.target.0 h a.deed refl i client_a k)
              (λ (k : IsOver (only h.target.0 past) b.deed f.lock). held_not_over h.target.0 f b.deed there j client_b k) o))
              (facts.locks.kin a.deed b.deed h.lock f.lock a.gave b.gave (a.who ∙ sym b.who) on fights)

          named : is_named (name_of h) f ≡ true
          named = rw (there, ap (λ (l : Lock). l.cookie) (sym same)) (own_name (name_of h))
