-- What a client changed of objects lies under locks to write that it holds, until its life ends: line by line.
use Rattle.std.proofs.Common.{◌≡◌, ℕ, ◌≤◌, true, List, [], ◌∷◌, inl, Some, sym, subst, ap, ◌∙◌, arith}
use Rattle.lu_base.specs.declared.ids.Node.TheVariants.{Client}
use Rattle.lu_base.specs.declared.ids.Stamp.{Stamp}
use Rattle.lu_base.specs.declared.locks.Extent.{Extent}
use Rattle.lu_base.specs.declared.locks.Resource.{Resource}
use Rattle.lu_held.specs.declared.locks.HeldLock.{HeldLock}
use Rattle.lu_spec_entries.specs.declared.changes.Flush.{Flush}
use Rattle.lu_spec_entries.specs.Carried.{Queued, Flight}
use Rattle.lu_spec_entries.specs.Words.{Entry, WritesBack, Acks, Line, line}
use Rattle.lu_spec_client.specs.Caches.{patch_at, patches_after, patches_at, held_at}
use Rattle.lu_spec_client.specs.Imports.{Import, import_of, imports_after, import_after}
use Rattle.lu_spec_client.specs.Patches.{Patch, in_flight, has_change, next_flush}
use Rattle.lu_spec_client.specs.States.{Client as ClientState, after, client_at}
use Rattle.lu_proof_lawful.specs.Covered.Heads.{Head}
use Rattle.lu_proof_run.proofs.Clients.{client_own}
use Rattle.lu_proof_objects.specs.Sound as client
use Rattle.lu_proof_objects.specs.Sound.{backs_to, queued_to, flying_to}
use Rattle.lu_proof_lawful.proofs.Preconditions.Guards.{In, marks_of}
use Rattle.lu_proof_lawful.proofs.Preconditions.HeedMarks.{marks_left}
use Rattle.lu_proof_lawful.proofs.Preconditions.Lists.{self, turn}
use Rattle.lu_proof_lawful.proofs.Laws.Sounds.{limits_from, imports_of, Backed}
use Rattle.lu_proof_lawful.proofs.Laws.SoundImports.{asked_before, backs_less}

-- ---- what is to be marked of an answer: that a write-back was answered comes first

abbrev pub NoAcks : List Entry → Type 0
NoAcks [] = Unit {0}
NoAcks (Acks r ∷ es) = ⊥
NoAcks (e ∷ es) = NoAcks es

abbrev pub AckFirst : List Entry → Type 0
AckFirst [] = Unit {0}
AckFirst (e ∷ es) = NoAcks es

-- one change of the object is under way of a write-back, and none is asked for
abbrev pub Answered : Head → ℕ → List Line → Resource → Type 0
Answered head c past r = (backs_to r (imports_of head c past) ≡ 0) × (in_flight (patch_at r (patches_at c past)) ≡ true)

-- so it is where the newest line takes it; and under each lock that it may be taken under the object has a change still
abbrev pub JustTook : Head → ℕ → List Line → Type 0
JustTook head c [] = Unit {0}
JustTook head c (l ∷ past) =
    (r : Resource) (change : Flush) → l.at.node ≡ Client c → l.entry ≡ WritesBack r change
    → Answered head c (l ∷ past) r
    × ((y : Extent) → next_flush y (patch_at r (patches_at c past)) ≡ Some change → has_change y (patch_at r (patches_at c (l ∷ past)))
    ≡ true)
    × ((more : List Entry) → marks_of c (l ∷ past) ≡ Acks r ∷ more → ⊥)

pub record SoundAt (head : Head) (c : ℕ) (past : List Line) : Type 0 where
  pub now : Backed (held_at c past) (patches_at c past) (imports_of head c past)
  pub first : AckFirst (marks_of c past)
  pub acks : (r : Resource) (more : List Entry) → marks_of c past ≡ Acks r ∷ more → Answered head c past r
  pub took : JustTook head c past

-- ---- an entry that asks nothing

abbrev pub AsksNone : Entry → Type 0
AsksNone e = (i : Import) → ((import_after i e).queue ≡ i.queue) × ((import_after i e).flights ≡ i.flights)

pub none_more : (r : Resource) (e : Entry) (imports : List Import) → AsksNone e → backs_to r (imports_after imports e) ≤ backs_to r imports
none_more r e imports q =
    backs_less r e 0 imports (λ t lt about. let i = import_of t imports in let a = ap (queued_to r) (q i).0 in let b =
    ap (flying_to r) (q i).1 in omega (arith, a, b))

pub quiet_backed : (locks : List HeldLock) (patches : List (Resource × Patch)) (imports : List Import) (e : Entry) → AsksNone e
    → Backed locks patches imports → Backed locks patches (imports_after imports e)
quiet_backed locks patches imports e q b =
    record {
      objects = b.objects;
      asked = λ t o a. b.asked t o (asked_before e t o imports (λ about lt. (
        λ x i. inl (subst (λ (qs : List Queued). client.In x qs) (q (import_of t imports)).0 i),
        λ f i. inl (subst (λ (fs : List Flight). client.In f fs) (q (import_of t imports)).1 i),
      )) a);
      single = λ r. let le = none_more r e imports q in let s = b.single r in omega (arith, le, s);
    }

module _ (head : Head) (past : List Line) (stamp : Stamp) (c : ℕ) where
  abbrev pub after_line : Entry → List Line
  after_line e = line (turn stamp (Client c)) e ∷ past

  pub state_is : (e : Entry) → client_at (limits_from head) c (after_line e) ≡ after (client_at (limits_from head) c past) e
  state_is e = client_own (limits_from head) c past (turn stamp (Client c)) (e ∷ []) (self c)

  pub imports_is : (e : Entry) → imports_of head c (after_line e) ≡ imports_after (imports_of head c past) e
  imports_is e = ap (λ (k : ClientState). k.imports) (state_is e)

  pub patches_is : (e : Entry) → patches_at c (after_line e) ≡ patches_after (patches_at c past) e
  patches_is e = ap (λ (k : ClientState). k.store.patches) (state_is e)

  -- the rest, once the locks, changes and requests are sound
  pub still_answered : (e : Entry) → AsksNone e → (r : Resource) → in_flight (patch_at r (patches_at c (after_line e)))
      ≡ in_flight (patch_at r (patches_at c past)) → Answered head c past r → Answered head c (after_line e) r
  still_answered e q r same a =
      let le = none_more r e (imports_of head c past) q in
      let is = ap (backs_to r) (imports_is e) in
      let z = a.0 in
      (omega (arith, le, is, z), same ∙ a.1)

  pub quiet_line : (e : Entry) → AsksNone e → ((r : Resource) → in_flight (patch_at r (patches_at c (after_line e)))
      ≡ in_flight (patch_at r (patches_at c past))) → marks_of c (after_line e) ≡ marks_of c past
      → ((r : Resource) (change : Flush) → e ≡ WritesBack r change → ⊥)
      → Backed (held_at c (after_line e)) (patches_at c (after_line e)) (imports_of head c past) → SoundAt head c past
      → SoundAt head c (after_line e)
  quiet_line e q flight marks no_take b s =
      record {
        now = subst (Backed (held_at c (after_line e)) (patches_at c (after_line e))) (sym (imports_is e))
            (quiet_backed (held_at c (after_line e)) (patches_at c (after_line e)) (imports_of head c past) e q b);
        first = subst AckFirst (sym marks) s.first;
        acks = λ r more m. still_answered e q r (flight r) (s.acks r more (sym marks ∙ m));
        took = λ r change n x. absurd (no_take r change x);
      }

  -- the first mark goes, if there is one
  pub popped_line : (e : Entry) → AsksNone e → marks_of c (after_line e) ≡ marks_left (marks_of c past)
      → ((r : Resource) (change : Flush) → e ≡ WritesBack r change → ⊥)
      → Backed (held_at c (after_line e)) (patches_at c (after_line e)) (imports_of head c past) → SoundAt head c past
      → SoundAt head c (after_line e)
  popped_line e q marks no_take b s =
      record {
        now = subst (Backed (held_at c (after_line e)) (patches_at c (after_line e))) (sym (imports_is e))
            (quiet_backed (held_at c (after_line e)) (patches_at c (after_line e)) (imports_of head c past) e q b);
        first = subst AckFirst (sym marks) (later (marks_of c past) s.first);
        acks = λ r rest n. absurd (never r rest (marks_of c past) (sym marks ∙ n) s.first);
        took = λ r change n x. absurd (no_take r change x);
      }
    where
      tail : (es : List Entry) → NoAcks es → AckFirst es
      tail [] n = tt
      tail (Acks r ∷ es) n = absurd n
      tail (e ∷ es) n = n

      later : (es : List Entry) → AckFirst es → AckFirst (marks_left es)
      later [] n = tt
      later (e ∷ es) n = tail es n

      never : (r : Resource) (rest es : List Entry) → marks_left es ≡ Acks r ∷ rest → AckFirst es → ⊥
      never r rest [] e n = absurd (cc)
      never r rest (x ∷ es) e n = subst NoAcks e n

  -- one mark goes
  pub marked_line : (e : Entry) (m : Entry) (more : List Entry) → AsksNone e → marks_of c past ≡ m ∷ more → marks_of c (after_line e) ≡ more
      → ((r : Resource) (change : Flush) → e ≡ WritesBack r change → ⊥)
      → Backed (held_at c (after_line e)) (patches_at c (after_line e)) (imports_of head c past) → SoundAt head c past
      → SoundAt head c (after_line e)
  marked_line e m more q was marks no_take b s =
      record {
        now = subst (Backed (held_at c (after_line e)) (patches_at c (after_line e))) (sym (imports_is e))
            (quiet_backed (held_at c (after_line e)) (patches_at c (after_line e)) (imports_of head c past) e q b);
        first = subst AckFirst (sym marks) (later more none);
        acks = λ r rest n. absurd (never r rest more (sym marks ∙ n) none);
        took = λ r change n x. absurd (no_take r change x);
      }
    where
      none : NoAcks more
      none = subst AckFirst was s.first

      later : (es : List Entry) → NoAcks es → AckFirst es
      later [] n = tt
      later (Acks r ∷ es) n = absurd n
      later (e ∷ es) n = n

      never : (r : Resource) (rest es : List Entry) → es ≡ Acks r ∷ rest → NoAcks es → ⊥
      never r rest es e n = subst NoAcks e n
