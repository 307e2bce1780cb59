-- A client's own lines that hear answers, or give up a lock or a life, keep its changes under the locks that it holds.
use Rattle.std.proofs.Common.{◌≡◌, ℕ, ◌+◌, ◌-◌, ◌%◌, ◌≤◌, ◌<◌, Bool, true, false, List, [], ◌∷◌, length, ◌⊎◌, inl, ⊎_elim, Option, Some}
use Rattle.std.proofs.Common.{None, refl, sym, subst, ap, ◌∙◌, arith}
use Rattle.std.specs.Prelude.{nat_eq, not, is_some, if◌then◌else◌}
use Rattle.std.proofs.lemmas.Nat.{mod_below}
use Rattle.std.proofs.lemmas.Bool.{cond-true}
use Rattle.lu_base.specs.declared.ids.Cookie.{Cookie}
use Rattle.lu_base.specs.declared.ids.Node.TheVariants.{Client}
use Rattle.lu_base.specs.declared.ids.Stamp.{Stamp}
use Rattle.lu_base.specs.declared.locks.Extent.{Extent}
use Rattle.lu_base.specs.declared.locks.Lock.{Lock}
use Rattle.lu_base.specs.declared.locks.Policy.{Policy}
use Rattle.lu_base.specs.declared.locks.Policy.TheVariants.{Range, Bits}
use Rattle.lu_base.specs.declared.locks.Resource.{Resource}
use Rattle.lu_msg.specs.declared.answers.Answer.{Answer}
use Rattle.lu_msg.specs.declared.answers.Answer.TheVariants as told
use Rattle.lu_msg.specs.declared.messages.Reply.{Reply as ReplyTo}
use Rattle.lu_msg.specs.declared.operations.Op.{Op}
use Rattle.lu_msg.specs.declared.operations.Op.TheVariants as op
use Rattle.lu_held.specs.declared.locks.HeldLock.{HeldLock}
use Rattle.lu_held.specs.Locks.{name_of, named, same_resource}
use Rattle.lu_held.specs.Held.{without}
use Rattle.lu_spec_machine.specs.Places.{Places, found_at, RisingFrom}
use Rattle.lu_spec_entries.specs.declared.changes.Dirty.{Dirty}
use Rattle.lu_spec_entries.specs.Carried.{Flight}
use Rattle.lu_spec_entries.specs.Concerns.{only, is_about}
use Rattle.lu_spec_entries.specs.Words.{Entry, Heard, Drop, Acks, Line, line}
use Rattle.lu_spec_client.specs.Caches.{patch_at, patches_at, held_at, on_object}
use Rattle.lu_spec_client.specs.Imports.{Import, import_of, imports_after}
use Rattle.lu_spec_client.specs.Messages.{page_heard, page_under, held_as}
use Rattle.lu_spec_client.specs.Patches.{Patch, Flying, CutFlies, BytesFly, acked, acked_flight, landed, other_cut, in_flight, has_change}
use Rattle.lu_spec_client.specs.Sending.{object_of}
use Rattle.lu_spec_client.specs.States.{Client as ClientState}
use Rattle.lu_proof_lawful.specs.Covered.ClientStates.{life_of, flights_of}
use Rattle.lu_proof_lawful.specs.Covered.Heads.{Head, IsHead}
use Rattle.lu_proof_objects.specs.Points.{byte_of, is_write}
use Rattle.lu_proof_bytes.specs.Object.Folds as folds
use Rattle.lu_proof_objects.specs.Sound as client
use Rattle.lu_proof_objects.specs.Sound.{Asked, IsUnder, IsBacked, IsAsked, IsSoundOf, one_if, backs_to, writes_to}
use Rattle.lu_proof_objects.proofs.Lists.{in_filter}
use Rattle.lu_proof_objects.proofs.Steps.{writes_is, reader_clean, sound_without}
use Rattle.lu_proof_objects.proofs.Tables.{patch_on, object_self, none_asked}
use Rattle.lu_proof_lawful.proofs.Preconditions.Guards.{In, marks_of, MarkNext, MarkedOk}
use Rattle.lu_proof_lawful.proofs.Preconditions.HeedMarks.{heeds_marks, marks_left}
use Rattle.lu_proof_lawful.proofs.Preconditions.Grown.{Allowed, Grown}
use Rattle.lu_proof_lawful.proofs.Preconditions.Lists.{self, turn}
use Rattle.lu_proof_lawful.proofs.Preconditions.Parts.{flights_now}
use Rattle.lu_proof_lawful.proofs.Preconditions.PinsFit.{PinsFit}
use Rattle.lu_proof_lawful.proofs.Preconditions.StoryGuards.{HeardOk}
use Rattle.lu_proof_lawful.proofs.Invariants.All.{holds}
use Rattle.lu_proof_lawful.proofs.Refinement.Place.{place}
use Rattle.lu_proof_lawful.proofs.Refinement.Placed.{flew_place}
use Rattle.lu_proof_lawful.proofs.Laws.HeldLists.{Has}
use Rattle.lu_proof_lawful.proofs.Laws.HeldStays.{GivesItUp, has_stays}
use Rattle.lu_proof_lawful.proofs.Laws.SoundLocks.{to_client}
use Rattle.lu_proof_lawful.proofs.Laws.Sounds.{imports_of, Backed, other_locks, whole_sound, backed_of}
use Rattle.lu_proof_lawful.proofs.Laws.SoundImports.{asked_before, backs_less, backs_fewer, backs_heard, backs_landed}
use Rattle.lu_proof_lawful.proofs.Laws.SoundLines.{SoundAt, Answered, AckFirst, state_is, after_line, imports_is, patches_is, quiet_line}
use Rattle.lu_proof_lawful.proofs.Laws.SoundLines.{marked_line}
use Rattle.lu_proof_lawful.proofs.Laws.SoundAsks.{imports_long, import_there}

-- ---- what is to be marked of an answer

first_page : (r : Resource) (c : Cookie) (page : ℕ) (bs : List ℕ) (l : Option Lock) → AckFirst (page_heard r c page bs l)
first_page r c page bs None = tt
first_page r c page bs (Some l) = by l.ask.policy bs
  where
    by : (p : Policy) (bs : List ℕ) → AckFirst (page_under r c page bs p)
    by (Range x) [] = tt
    by (Range x) (b ∷ bs) = tt
    by (Bits b) bs = tt

first_marks : (t : ℕ) (o : Op) (a : Answer) (held : List HeldLock) → AckFirst (heeds_marks t o a held)
first_marks t (op.Get r c page) (told.Content bs) held = first_page r c page bs (held_as (named (record { 0 = t }) c) held)
first_marks t (op.Put r c at bs) told.Done held = tt
first_marks t (op.Cut r c n) told.Done held = tt
first_marks t o a held = tt

none_page : (r z : Resource) (c : Cookie) (page : ℕ) (bs : List ℕ) (l : Option Lock) (more : List Entry) → page_heard r c page bs l ≡ Acks z
    ∷ more → ⊥
none_page r z c page bs None more e = absurd (cc)
none_page r z c page bs (Some l) more e = by l.ask.policy bs e
  where
    by : (p : Policy) (bs : List ℕ) → page_under r c page bs p ≡ Acks z ∷ more → ⊥
    by (Range x) [] e = absurd (cc)
    by (Range x) (b ∷ bs) e = absurd (cc)
    by (Bits b) bs e = absurd (cc)

-- a write-back that is answered is marked so first
ack_back : (t : ℕ) (o : Op) (a : Answer) (held : List HeldLock) (z : Resource) (more : List Entry) → heeds_marks t o a held ≡ Acks z ∷ more
    → (object_of o ≡ Some z) × (writes_to z o ≡ true)
ack_back t (op.Get r c page) (told.Content bs) held z more e = absurd
    (none_page r z c page bs (held_as (named (record { 0 = t }) c) held) more e)
ack_back t (op.Put r c at bs) told.Done held z more e = let same : r ≡ z = cc
    in (ap Some same, ap (λ (y : Resource). same_resource y z) same ∙ object_self z)
ack_back t (op.Cut r c n) told.Done held z more e = let same : r ≡ z = cc
    in (ap Some same, ap (λ (y : Resource). same_resource y z) same ∙ object_self z)
ack_back t o a held z more e = absurd (cc)

-- ---- an answered patch

landed_rises : (n : ℕ) (m : Places Dirty) → RisingFrom n m → RisingFrom n (landed m)
landed_rises n [] r = tt
landed_rises n (e ∷ m) r = by (not e.1.flies) (landed_rises (e.0 + 1) m r.1)
  where
    lower : (a b : ℕ) (x : Places Dirty) → a ≤ b → RisingFrom b x → RisingFrom a x
    lower a b [] le h = tt
    lower a b (y ∷ x) le h = let low = h.0 in (omega (arith, le, low), h.1)

    by : (v : Bool) → RisingFrom (e.0 + 1) (landed m) → RisingFrom n (if v then e ∷ landed m else landed m)
    by true ih = (r.0, ih)
    by false ih = let low = r.0 in lower n (e.0 + 1) (landed m) (omega (arith, low)) ih

-- what is left was there
landed_was : (q : ℕ) (m : Places Dirty) → folds.is_some (byte_of (found_at (landed m) q)) ≡ true → folds.is_some (byte_of (found_at m q))
    ≡ true
landed_was q [] e = e
landed_was q (x ∷ m) e = by (nat_eq q x.0) refl (not x.1.flies) refl e (landed_was q m)
  where
    by : (u : Bool) → nat_eq q x.0 ≡ u → (v : Bool) → not x.1.flies ≡ v
        → folds.is_some (byte_of (found_at (if v then x ∷ landed m else landed m) q)) ≡ true
        → (folds.is_some (byte_of (found_at (landed m) q)) ≡ true → folds.is_some (byte_of (found_at m q)) ≡ true)
        → folds.is_some (byte_of (if u then Some x.1 else found_at m q)) ≡ true
    by true p v w e ih = refl
    by false p true w e ih = ih (ap (λ (b : Bool). folds.is_some (byte_of (if b then Some x.1 else found_at (landed m) q))) (sym p) ∙ e)
    by false p false w e ih = ih e

under_acked : (locks : List HeldLock) (r : Resource) (p : Patch) → IsUnder locks r p → IsUnder locks r (acked p)
under_acked locks r p u = by p.flight
  where
    other : (n : ℕ) (q : Option ℕ) (size : ℕ) → other_cut n q ≡ Some size → q ≡ Some size
    other n None size e = absurd (cc)
    other n (Some q) size e = of (nat_eq q n) e
      where
        of : (b : Bool) → (if b then None else Some q) ≡ Some size → Some q ≡ Some size
        of true e = absurd (cc)
        of false e = e

    by : (f : Option Flying) → IsUnder locks r (acked_flight p f)
    by None = u
    by (Some (CutFlies n)) = record { rises = u.rises; dirty = u.dirty; cut = λ size e. u.cut size (other n p.pending size e) }
    by (Some BytesFly) = record { rises = landed_rises 0 p.dirty u.rises; dirty = λ q b. u.dirty q (landed_was q p.dirty b); cut = u.cut }

acked_idle : (p : Patch) → in_flight (acked p) ≡ false
acked_idle p = by p.flight refl
  where
    by : (f : Option Flying) → p.flight ≡ f → in_flight (acked_flight p f) ≡ false
    by None e = ap (λ x. is_some x) e
    by (Some (CutFlies n)) e = refl
    by (Some BytesFly) e = refl

module _ (head : Head) (past : List Line) (stamp : Stamp) (c : ℕ) (g : Grown head past) (fit : PinsFit past) (s : SoundAt head c past) where
  abbrev I : List Import
  I = imports_of head c past

  -- ---- a lock comes or changes

  -- the locks that were held are held after an own line that gives none up
  pub locks_stay : (e : Entry) → Allowed head past (turn stamp (Client c)) e → ((t : ℕ) (k : Lock) → e ≡ Drop t k → ⊥)
      → Backed (held_at c (after_line head past stamp c e)) (patches_at c past) (imports_of head c past)
  locks_stay e a none =
      other_locks (held_at c past) (held_at c (after_line head past stamp c e)) (patches_at c past) (imports_of head c past)
      (λ t k h. ⊎_elim (λ (x : Has t k (held_at c (after_line head past stamp c e))). x)
      (λ (x : GivesItUp c t k (line (turn stamp (Client c)) e)). absurd (none t k x.1))
      (has_stays head (line (turn stamp (Client c)) e) past (a, g) c t k h)) s.now

  -- ---- an answer is heard

  pub heard_line : IsHead head → (t : ℕ) (f : Flight) (k : ReplyTo) → Allowed head past (turn stamp (Client c)) (Heard t f k)
      → SoundAt head c (after_line head past stamp c (Heard t f k))
  heard_line ranges t f k a =
      record {
        now = subst (Backed (held_at c (after_line head past stamp c (Heard t f k))) (patches_at c past))
            (sym (imports_is head past stamp c (Heard t f k)))
            (record {
              objects = b.objects;
              asked = λ u o x. b.asked u o (asked_before (Heard t f k) u o I
                  (λ about lt. (
                    λ y i. inl i,
                    λ y i. inl (in_filter (λ (z : Flight). not (nat_eq z.xid f.xid)) y (import_of u I).flights
                        i).0,
                  )) x);
              single = λ r. let le = less r in let m = b.single r in omega (arith, le, m);
            });
        first = subst AckFirst (sym marks) (first_marks t f.op k.answer (held_at c past));
        acks = λ r more m. acks r (ack_back t f.op k.answer (held_at c past) r more (sym marks ∙ m));
        took = λ r d n e. absurd (cc);
      }
    where
      b : Backed (held_at c (after_line head past stamp c (Heard t f k))) (patches_at c past) (imports_of head c past)
      b = locks_stay (Heard t f k) a (λ u j e. absurd (cc))

      marks : marks_of c (after_line head past stamp c (Heard t f k)) ≡ heeds_marks t f.op k.answer (held_at c past)
      marks = cond-true (nat_eq c c) (heeds_marks t f.op k.answer (held_at c past)) (marks_of c past) (self c)

      less : (r : Resource) → backs_to r (imports_after (imports_of head c past) (Heard t f k)) ≤ backs_to r (imports_of head c past)
      less r = backs_less r (Heard t f k) 0 I (λ u lt about. backs_heard r (import_of u I) t f k)

      ok : HeardOk (only t past) c f k
      ok = a.of t (self t)

      acks : (r : Resource) → (object_of f.op ≡ Some r) × (writes_to r f.op ≡ true)
          → Answered head c (after_line head past stamp c (Heard t f k)) r
      acks r on =
          let flew = ((holds head past g).at t).numbers.flying (life_of c (only t past)) f ok.flying in
          let there = flew_place head past t (life_of c (only t past)) f r g fit flew on.0 in
          let low : t ≤ head.osts = place_low r there in
          let lt : t < length (imports_of head c past) = let long = imports_long c past (head.osts + 1) 0 in omega (arith, low, long) in
          let flying : client.In f (import_of t (imports_of head c past)).flights =
          subst (λ (fs : List Flight). client.In f fs) (sym (ap (λ (i : Import). i.flights) (import_there head c past t lt)
          ∙ flights_now head c t past g)) (to_client f (flights_of (life_of c (only t past)) (only t past)) ok.flying)
          in
          let fewer = backs_fewer r (Heard t f k) 0 t I (λ u l about. backs_heard r (import_of u I) t f k) lt
          (subst (λ (n : ℕ). is_about n (Heard t f k) ≡ true) (let z : t ≡ 0 + t = omega arith in z) (self t))
          (backs_landed r (import_of t I) t f k flying on.1) in
          let single = s.now.single r in
          let is = ap (backs_to r) (imports_is head past stamp c (Heard t f k)) in
          by (in_flight (patch_at r (patches_at c past))) refl fewer single is
        where
          place_low : (r : Resource) → t ≡ place head.osts r → t ≤ head.osts
          place_low r e = let low = mod_below (r.fid.0 % 4294967296 + r.stripe) head.osts ranges.osts in omega (arith, low, e)

          by : (v : Bool) → in_flight (patch_at r (patches_at c past)) ≡ v
              → backs_to r (imports_after (imports_of head c past) (Heard t f k)) < backs_to r (imports_of head c past)
              → backs_to r (imports_of head c past) ≤ one_if (in_flight (patch_at r (patches_at c past)))
              → backs_to r (imports_of head c (after_line head past stamp c (Heard t f k)))
              ≡ backs_to r (imports_after (imports_of head c past) (Heard t f k))
              → Answered head c (after_line head past stamp c (Heard t f k)) r
          by true e fewer single is = let one = ap one_if e in (omega (arith, fewer, single, is, one), e)
          by false e fewer single is = let none = ap one_if e in absurd (omega (arith, fewer, single, none))

  -- ---- a lock is given up

  pub drops_line : (t : ℕ) (lock : Lock) → MarkedOk past c t lock → SoundAt head c (after_line head past stamp c (Drop t lock))
  drops_line t lock k =
      quiet_line head past stamp c (Drop t lock) (λ i. (refl, refl)) (λ r. refl) refl (λ r d e. absurd (cc))
      (subst (λ (hs : List HeldLock). Backed hs (patches_at c past) (imports_of head c past)) (sym left)
      (backed_of (without (name_of k.holding) (held_at c past)) (patches_at c past) (imports_of head c past)
      (sound_without (held_at c past) (patches_at c past) (imports_of head c past) whole k.holding
      (to_client k.holding (held_at c past) k.held) k.free clean)))
      s
    where
      whole : IsSoundOf (held_at c past) (patches_at c past) (imports_of head c past)
      whole = whole_sound head past g fit c (imports_of head c past) s.now

      name : named (record { 0 = t }) lock.cookie ≡ name_of k.holding
      name = ap (λ (n : ℕ). named (record { 0 = n }) lock.cookie) (sym k.of_target)
          ∙ ap (λ (l : Lock). named k.holding.target l.cookie) (sym k.is)

      left : held_at c (after_line head past stamp c (Drop t lock)) ≡ without (name_of k.holding) (held_at c past)
      left = ap (λ (x : ClientState). x.store.held) (state_is head past stamp c (Drop t lock)) ∙ ap (λ n. without n (held_at c past)) name

      clean : (x : Extent) → k.holding.lock.ask.policy ≡ Range x → has_change x (patch_at k.holding.lock.resource (patches_at c past))
          ≡ false
      clean x e = by (is_write k.holding.lock.ask.mode) refl
        where
          by : (b : Bool) → is_write k.holding.lock.ask.mode ≡ b → has_change x (patch_at k.holding.lock.resource (patches_at c past))
              ≡ false
          by false w = reader_clean (held_at c past) (patches_at c past) (imports_of head c past) whole k.holding x
              (to_client k.holding (held_at c past) k.held) e w
          by true w =
              ap (λ (l : Lock). has_change x (patch_at l.resource (patches_at c past))) k.is
              ∙ k.clean (ap (λ (l : Lock). l.ask.mode) (sym k.is) ∙ writes_is k.holding.lock.ask.mode w) x
              (ap (λ (l : Lock). l.ask.policy) (sym k.is) ∙ e)

  -- ---- a write-back is marked as answered

  pub acks_line : (r : Resource) → MarkNext past c (Acks r) → SoundAt head c (after_line head past stamp c (Acks r))
  acks_line r m =
      marked_line head past stamp c (Acks r) (Acks r) m.0 (λ i. (refl, refl)) m.1 marks (λ z d e. absurd (cc))
      (subst (λ (ps : List (Resource × Patch)). Backed (held_at c past) ps (imports_of head c past))
      (sym (patches_is head past stamp c (Acks r))) backed) s
    where
      answered : Answered head c past r
      answered = s.acks r m.0 m.1

      marks : marks_of c (after_line head past stamp c (Acks r)) ≡ m.0
      marks = cond-true (nat_eq c c) _ (marks_of c past) (self c) ∙ ap (λ (es : List Entry). marks_left es) m.1

      on_acked : (z : Resource) (Q : Patch → Type 0) → Q (patch_at z (patches_at c past))
          → (r ≡ z → Q (acked (patch_at z (patches_at c past)))) → Q (patch_at z (on_object r acked (patches_at c past)))
      on_acked z Q old now =
          ⊎_elim (λ (e : patch_at z (on_object r acked (patches_at c past)) ≡ patch_at z (patches_at c past)). subst Q (sym e) old)
          (λ (e : (r ≡ z) × (patch_at z (on_object r acked (patches_at c past)) ≡ acked (patch_at z (patches_at c past)))). subst Q
          (sym e.1) (now e.0)) (patch_on r z acked (patches_at c past))

      not_here : (t : ℕ) (o : Op) (z : Resource) → Asked (imports_of head c past) t o → writes_to z o ≡ true → r ≡ z → ⊥
      not_here t o z a w e = let f = none_asked r (imports_of head c past) answered.0 t o a in let q : true ≡ false = sym w
          ∙ ap (λ (y : Resource). writes_to y o) (sym e) ∙ f in cc

      still : (t : ℕ) (d : Cookie) (z : Resource) → (r ≡ z → ⊥) → IsBacked (held_at c past) (patch_at z (patches_at c past)) t d z
          → IsBacked (held_at c past) (patch_at z (on_object r acked (patches_at c past))) t d z
      still t d z other b = on_acked z (λ p. IsBacked (held_at c past) p t d z) b (λ e. absurd (other e))

      asks : (t : ℕ) (o : Op) → Asked (imports_of head c past) t o → IsAsked (held_at c past) (patches_at c past) t o
          → IsAsked (held_at c past) (on_object r acked (patches_at c past)) t o
      asks t (op.Put z d at bs) a b = still t d z (not_here t (op.Put z d at bs) z a (object_self z)) b
      asks t (op.Cut z d n) a b = still t d z (not_here t (op.Cut z d n) z a (object_self z)) b
      asks t o a b = tt

      backed : Backed (held_at c past) (on_object r acked (patches_at c past)) (imports_of head c past)
      backed =
          record {
            objects = λ z. on_acked z (IsUnder (held_at c past) z) (s.now.objects z)
                (λ e. under_acked (held_at c past) z (patch_at z (patches_at c past)) (s.now.objects z));
            asked = λ t o a. asks t o a (s.now.asked t o a);
            single = λ z. on_acked z (λ p. backs_to z (imports_of head c past) ≤ one_if (in_flight p)) (s.now.single z)
                (λ e. let n : backs_to z (imports_of head c past) ≡ 0 = ap (λ (y : Resource). backs_to y (imports_of head c past)) (sym e)
                ∙ answered.0 in omega (arith, n));
          }
