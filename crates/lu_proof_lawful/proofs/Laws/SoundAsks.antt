-- A client's own lines that ask targets, hear answers, or give up a lock or a life keep its changes under the locks that it holds.
use Rattle.std.proofs.Common.{◌≡◌, ℕ, zero, suc, ◌+◌, ◌-◌, ◌≤◌, ◌<◌, Bool, true, false, List, [], ◌∷◌, length, ◌⊎◌, inl, inr, ⊎_elim, refl}
use Rattle.std.proofs.Common.{sym, subst, ap, ◌∙◌, arith}
use Rattle.std.specs.Prelude.{map}
use Rattle.std.specs.List.{range_with_len}
use Rattle.std.proofs.lemmas.Bool.{eqb-true}
use Rattle.lu_base.specs.declared.ids.Cookie.{Cookie}
use Rattle.lu_base.specs.declared.ids.Stamp.{Stamp}
use Rattle.lu_base.specs.declared.locks.Extent.{Extent}
use Rattle.lu_base.specs.declared.locks.Lock.{Lock}
use Rattle.lu_base.specs.declared.locks.Mode.TheVariants.{PW}
use Rattle.lu_base.specs.declared.locks.Policy.TheVariants.{Range}
use Rattle.lu_base.specs.declared.locks.Resource.{Resource}
use Rattle.lu_msg.specs.declared.operations.Op.{Op}
use Rattle.lu_msg.specs.declared.operations.Op.TheVariants as op
use Rattle.lu_held.specs.declared.locks.HeldLock.{HeldLock}
use Rattle.lu_held.specs.Locks.{same_resource}
use Rattle.lu_spec_entries.specs.declared.changes.Flush.{Flush}
use Rattle.lu_spec_entries.specs.declared.changes.Flush.TheVariants as flush
use Rattle.lu_spec_entries.specs.Carried.{Queued, Flight}
use Rattle.lu_spec_entries.specs.Concerns.{only, is_about}
use Rattle.lu_spec_entries.specs.Words.{Entry, Queues, Flies, Acks, Line}
use Rattle.lu_spec_client.specs.Caches.{patch_at, patches_at, held_at}
use Rattle.lu_spec_client.specs.Imports.{Import, import_of, import_at, imports_after, rest as popped}
use Rattle.lu_spec_client.specs.Patches.{Patch, in_flight, has_change}
use Rattle.lu_spec_client.specs.WriteBack.{operation}
use Rattle.lu_proof_lawful.specs.Covered.Heads.{Head}
use Rattle.lu_proof_lawful.specs.Covered.Imports.{queue_at}
use Rattle.lu_proof_objects.specs.Sound as client
use Rattle.lu_proof_objects.specs.Sound.{Asked, IsBacked, IsAsked, one_if, backs_to, writes_to}
use Rattle.lu_proof_objects.proofs.Lists.{in_append}
use Rattle.lu_proof_objects.proofs.Tables.{object_is, queued_asked, backs_queued}
use Rattle.lu_proof_lawful.proofs.Preconditions.Guards.{In, marks_of, TakesBack, BackAskOk}
use Rattle.lu_proof_lawful.proofs.Preconditions.Grown.{Grown}
use Rattle.lu_proof_lawful.proofs.Preconditions.Parts.{queue_now}
use Rattle.lu_proof_lawful.proofs.Preconditions.PinsFit.{PinsFit}
use Rattle.lu_proof_lawful.proofs.Preconditions.StoryGuards.{FliesOk}
use Rattle.lu_proof_lawful.proofs.Laws.SoundLocks.{to_client}
use Rattle.lu_proof_lawful.proofs.Laws.Sounds.{imports_of, Backed}
use Rattle.lu_proof_lawful.proofs.Laws.SoundImports.{asked_before, backs_less, backs_flown}
use Rattle.lu_proof_lawful.proofs.Laws.SoundLines.{SoundAt, Answered, JustTook, after_line, imports_is}
use Rattle.lu_proof_lawful.proofs.Laws.SoundSteps.{flush_range}

-- the import of a target is what the lines say of it
import_from : (c : ℕ) (p : List Line) (n from t : ℕ) → t < n → import_of t (map (λ u. import_at c u p) (range_with_len from n))
    ≡ import_at c (from + t) p
import_from c p zero from t lt = absurd (omega (arith, lt))
import_from c p (suc n) from zero lt = ap (λ (u : ℕ). import_at c u p) (let e : from ≡ from + 0 = omega arith in e)
import_from c p (suc n) from (suc t) lt = import_from c p n (from + 1) t (omega (arith, lt))
    ∙ ap (λ (u : ℕ). import_at c u p) (let e : from + 1 + t ≡ from + suc t = omega arith in e)

pub imports_long : (c : ℕ) (p : List Line) (n from : ℕ) → length (map (λ u. import_at c u p) (range_with_len from n)) ≡ n
imports_long c p zero from = refl
imports_long c p (suc n) from = ap suc (imports_long c p n (from + 1))

pub import_there : (head : Head) (c : ℕ) (p : List Line) (t : ℕ) → t < length (imports_of head c p) → import_of t (imports_of head c p)
    ≡ import_at c t p
import_there head c p t lt =
    let long = imports_long c p (head.osts + 1) 0 in
    import_from c p (head.osts + 1) 0 t (omega (arith, lt, long)) ∙ ap (λ (u : ℕ). import_at c u p) (let e : 0 + t ≡ t = omega arith in e)

-- what writes nothing back
abbrev pub IsNoBack : Op → Type 0
IsNoBack (op.Put r c at bytes) = ⊥
IsNoBack (op.Cut r c n) = ⊥
IsNoBack _ = Unit {0}

pub no_back : (o : Op) → IsNoBack o → (r : Resource) → writes_to r o ≡ false
no_back (op.Put q c at bytes) n r = absurd n
no_back (op.Cut q c k) n r = absurd n
no_back o n r = refl

none_asked : (locks : List HeldLock) (patches : List (Resource × Patch)) (t : ℕ) (o : Op) → IsNoBack o → IsAsked locks patches t o
none_asked locks patches t (op.Put q c at bytes) n = absurd n
none_asked locks patches t (op.Cut q c k) n = absurd n
none_asked locks patches t o n = tt

back_writes : (r q : Resource) (c : Cookie) (change : Flush) → writes_to r (operation q c change) ≡ same_resource q r
back_writes r q c (flush.Put at bytes) = refl
back_writes r q c (flush.Cut n) = refl

back_asked : (locks : List HeldLock) (patches : List (Resource × Patch)) (t : ℕ) (q : Resource) (c : Cookie) (change : Flush)
    → IsBacked locks (patch_at q patches) t c q → IsAsked locks patches t (operation q c change)
back_asked locks patches t q c (flush.Put at bytes) b = b
back_asked locks patches t q c (flush.Cut n) b = b

-- what the newest line took
took_back : (head : Head) (c : ℕ) (l : Lock) (change : Flush) → l.ask.mode ≡ PW → (p : List Line) → TakesBack p c l change
    → JustTook head c p
    → Answered head c p l.resource × ((y : Extent) × (l.ask.policy ≡ Range y)
    × (has_change y (patch_at l.resource (patches_at c p)) ≡ true)) × ((more : List Entry) → marks_of c p ≡ Acks l.resource ∷ more → ⊥)
took_back head c l change mode [] t j = absurd t
took_back head c l change mode (x ∷ p) t j =
    let k = j l.resource change t.0 t.1 in
    let u = flush_range (patch_at l.resource (patches_at c p)) l.ask.mode l.ask.policy change mode t.2 in
    (k.0, (u.0, u.1, k.1 u.0 u.2), k.2)

module _ (head : Head) (past : List Line) (stamp : Stamp) (c : ℕ) (g : Grown head past) (fit : PinsFit past) (s : SoundAt head c past) where
  abbrev I : List Import
  I = imports_of head c past

  abbrev P : List (Resource × Patch)
  P = patches_at c past

  abbrev H : List HeldLock
  H = held_at c past

  -- ---- a request is queued

  -- one that writes nothing back
  pub queues_other : (t : ℕ) (q : Queued) → IsNoBack q.op → SoundAt head c (after_line head past stamp c (Queues t q))
  queues_other t q none =
      record {
        now = subst (Backed (held_at c past) (patches_at c past)) (sym (imports_is head past stamp c (Queues t q)))
            (record {
              objects = s.now.objects;
              asked = λ u o a. ⊎_elim (λ (b : Asked I u o). s.now.asked u o b)
                  (λ (b : (t ≡ u) × (q.op ≡ o)). subst (IsAsked (held_at c past) (patches_at c past) u) b.1
                  (none_asked (held_at c past) (patches_at c past) u q.op none)) (queued_asked u t q o I a);
              single = λ r. let le = more r in let k = s.now.single r in omega (arith, le, k);
            });
        first = s.first;
        acks = λ r rest m. let a = s.acks r rest m in let le = more r in let is =
            ap (backs_to r) (imports_is head past stamp c (Queues t q)) in let z = a.0 in (omega (arith, le, is, z), a.1);
        took = λ r d n e. absurd (cc);
      }
    where
      more : (r : Resource) → backs_to r (imports_after I (Queues t q)) ≤ backs_to r I
      more r = let le = backs_queued r t q I in let z = ap one_if (no_back q.op none r) in omega (arith, le, z)

  -- the change that was just taken
  pub queues_back : (t : ℕ) (q : Queued) → BackAskOk past c t q → SoundAt head c (after_line head past stamp c (Queues t q))
  queues_back t q ok =
      record {
        now = subst (Backed (held_at c past) (patches_at c past)) (sym (imports_is head past stamp c (Queues t q)))
            (record {
              objects = s.now.objects;
              asked = λ u o a. ⊎_elim (λ (b : Asked I u o). s.now.asked u o b)
                  (λ (b : (t ≡ u) × (q.op ≡ o)).
                  subst (IsAsked (held_at c past) (patches_at c past) u) b.1
                  (subst (λ (n : ℕ). IsAsked (held_at c past) (patches_at c past) n q.op) b.0
                  (subst (IsAsked (held_at c past) (patches_at c past) t) (sym ok.of_op)
                  (back_asked (held_at c past) (patches_at c past) t ok.holding.lock.resource ok.holding.lock.cookie ok.change
                  backed))))
                  (queued_asked u t q o I a);
              single = λ z. single z (same_resource ok.holding.lock.resource z) refl;
            });
        first = s.first;
        acks = λ z rest m. answered z rest m (same_resource ok.holding.lock.resource z) refl;
        took = λ r d n e. absurd (cc);
      }
    where
      k : Answered head c past ok.holding.lock.resource × ((y : Extent) × (ok.holding.lock.ask.policy ≡ Range y)
          × (has_change y (patch_at ok.holding.lock.resource (patches_at c past)) ≡ true))
          × ((more : List Entry) → marks_of c past ≡ Acks ok.holding.lock.resource ∷ more → ⊥)
      k = took_back head c ok.holding.lock ok.change ok.mode past ok.takes s.took

      backed : IsBacked (held_at c past) (patch_at ok.holding.lock.resource (patches_at c past)) t ok.holding.lock.cookie
          ok.holding.lock.resource
      backed =
          record {
            under = record {
              lock = ok.holding;
              held = to_client ok.holding (held_at c past) ok.held;
              object = refl;
              mode = ok.mode;
              extent = k.1.0;
              range = k.1.1;
              over = k.1.2;
            };
            target = ok.of_target;
            cookie = refl;
          }

      more : (z : Resource) → backs_to z (imports_after I (Queues t q)) ≤ backs_to z I + one_if (same_resource ok.holding.lock.resource z)
      more z =
          subst (λ (b : Bool). backs_to z (imports_after I (Queues t q)) ≤ backs_to z I + one_if b)
          (ap (writes_to z) ok.of_op ∙ back_writes z ok.holding.lock.resource ok.holding.lock.cookie ok.change)
          (backs_queued z t q I)

      single : (z : Resource) (b : Bool) → same_resource ok.holding.lock.resource z ≡ b
          → backs_to z (imports_after I (Queues t q)) ≤ one_if (in_flight (patch_at z (patches_at c past)))
      single z false e = let le = more z in let o = ap one_if e in let f = s.now.single z in omega (arith, le, o, f)
      single z true e =
          let same : ok.holding.lock.resource ≡ z = object_is ok.holding.lock.resource z e in
          let le = more z in
          let o = ap one_if e in
          let none : backs_to z I ≡ 0 = ap (λ (y : Resource). backs_to y I) (sym same) ∙ k.0.0 in
          let one : one_if (in_flight (patch_at z P)) ≡ 1 = ap one_if (ap (λ (y : Resource). in_flight (patch_at y P)) (sym same) ∙ k.0.1)
          in
          omega (arith, le, o, none, one)

      answered : (z : Resource) (rest : List Entry) → marks_of c past ≡ Acks z ∷ rest → (b : Bool)
          → same_resource ok.holding.lock.resource z ≡ b → Answered head c (after_line head past stamp c (Queues t q)) z
      answered z rest m true e = absurd (k.2 rest (subst (λ (y : Resource). marks_of c past ≡ Acks y ∷ rest)
          (sym (object_is ok.holding.lock.resource z e)) m))
      answered z rest m false e =
          let a = s.acks z rest m in
          let le = more z in
          let o = ap one_if e in
          let is = ap (backs_to z) (imports_is head past stamp c (Queues t q)) in
          let zero_ = a.0 in
          (omega (arith, le, o, is, zero_), a.1)

  -- ---- the front of the queue flies

  pub flies_line : (t : ℕ) (f : Flight) → FliesOk head (only t past) c t f → SoundAt head c (after_line head past stamp c (Flies t f))
  flies_line t f ok =
      record {
        now = subst (Backed (held_at c past) (patches_at c past)) (sym (imports_is head past stamp c (Flies t f)))
            (record {
              objects = s.now.objects;
              asked = λ u o a. s.now.asked u o (asked_before (Flies t f) u o I (λ about lt. (
                λ x i. inl (subst (λ (qs : List Queued). client.In x qs) (sym (queue_there u about lt))
                    (inr (subst (λ (qs : List Queued). client.In x (popped qs)) (queue_there u about lt) i))),
                λ x i. ⊎_elim (λ (j : client.In x (import_of u I).flights). inl j)
                    (λ (j : client.In x (f ∷ [])). ⊎_elim (λ (e : f ≡ x). inr (
                      ok.front,
                      subst (λ (qs : List Queued). client.In ok.front qs) (sym (queue_there u about lt)) (inl refl),
                      sym same_op ∙ ap (λ (y : Flight). y.op) e,
                    )) (λ (n : ⊥). absurd n) j)
                    (in_append x (import_of u I).flights (f ∷ []) i),
              )) a);
              single = λ r. let le = less r in let k = s.now.single r in omega (arith, le, k);
            });
        first = s.first;
        acks = λ r rest m. let a = s.acks r rest m in let le = less r in let is = ap (backs_to r) (imports_is head past stamp c (Flies t f))
            in let z = a.0 in (omega (arith, le, is, z), a.1);
        took = λ r d n e. absurd (cc);
      }
    where
      same_op : f.op ≡ ok.front.op
      same_op = ap (λ (x : Flight). x.op) ok.is

      queue_there : (u : ℕ) → is_about u (Flies t f) ≡ true → u < length (imports_of head c past)
          → (import_of u (imports_of head c past)).queue ≡ ok.front ∷ ok.more
      queue_there u about lt =
          let e : u ≡ t = eqb-true u t about in
          ap (λ (i : Import). i.queue) (import_there head c past u lt) ∙ ap (λ (n : ℕ). queue_at c n past) e ∙ queue_now head c t past g
          ∙ ok.queue

      less : (r : Resource) → backs_to r (imports_after I (Flies t f)) ≤ backs_to r I
      less r = backs_less r (Flies t f) 0 I (λ u lt about. backs_flown r (import_of u I) t f ok.front ok.more
          (queue_there u (ap (λ (n : ℕ). is_about n (Flies t f)) (let z : u ≡ 0 + u = omega arith in z) ∙ about) lt) same_op)
