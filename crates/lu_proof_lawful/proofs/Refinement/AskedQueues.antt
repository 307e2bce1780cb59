-- A client queues a request, or takes a change to be written back: what is queued and in flight of write-backs is still what was taken.
use Rattle.std.proofs.Common.{◌≡◌, ℕ, Bool, ◌≤◌, true, false, List, [], ◌∷◌, ◌++◌, Some, ◌⊎◌, inl, inr, ⊎_elim, refl, sym, subst, ap, ◌∙◌}
use Rattle.std.specs.Prelude.{nat_eq, if◌then◌else◌}
use Rattle.std.proofs.lemmas.Bool.{eqb-true, both_ways}
use Rattle.lu_base.specs.declared.ids.Cookie.{Cookie}
use Rattle.lu_base.specs.declared.ids.Node.TheVariants.{Client}
use Rattle.lu_base.specs.declared.ids.Stamp.{Stamp}
use Rattle.lu_base.specs.declared.ids.Who.{Who}
use Rattle.lu_base.specs.declared.locks.Extent.{Extent}
use Rattle.lu_base.specs.declared.locks.Mode.TheVariants.{PW}
use Rattle.lu_base.specs.declared.locks.Policy.TheVariants.{Range}
use Rattle.lu_base.specs.declared.locks.Resource.{Resource}
use Rattle.lu_msg.specs.declared.operations.Op.{Op}
use Rattle.lu_msg.specs.declared.operations.Op.TheVariants as op
use Rattle.lu_spec_entries.specs.declared.changes.Flush.{Flush}
use Rattle.lu_spec_entries.specs.declared.changes.Flush.TheVariants as flush
use Rattle.lu_spec_entries.specs.Carried.{Queued, Flight}
use Rattle.lu_spec_entries.specs.Words as word
use Rattle.lu_spec_entries.specs.Words.{Line, line}
use Rattle.lu_spec_entries.specs.Concerns.{only}
use Rattle.lu_spec_client.specs.Caches.{patch_at, patches_at, held_at}
use Rattle.lu_spec_client.specs.Calls.{life_at}
use Rattle.lu_spec_client.specs.Patches.{Patch}
use Rattle.lu_spec_client.specs.WriteBack.{operation}
use Rattle.lu_proof_lawful.specs.Covered.ClientStates.{is_own, queue_of, flights_of}
use Rattle.lu_proof_lawful.specs.Covered.Heads.{Head}
use Rattle.lu_proof_lawful.proofs.Preconditions.CallGuards.{NamesAskOk, SizeAskOk, LockAskOk, GetAskOk, CallAsksOk, BackAskOk, QueuesOk}
use Rattle.lu_proof_lawful.proofs.Preconditions.CallGuards.{TakesBack}
use Rattle.lu_proof_lawful.proofs.Preconditions.ClientLines.{IsNames, becomes_names}
use Rattle.lu_proof_lawful.proofs.Preconditions.Heard.{In}
use Rattle.lu_proof_lawful.proofs.Preconditions.Held.{held_into}
use Rattle.lu_proof_lawful.proofs.Preconditions.Lists.{self, turn, own_self}
use Rattle.lu_proof_lawful.proofs.Preconditions.QueueLists.{resource_of}
use Rattle.lu_lock.specs.Growth.{the_end}
use Rattle.lu_proof_lawful.proofs.Invariants.TargetGroups.{IsKind}
use Rattle.lu_proof_bytes.specs.Object.Words.{Lock, Cut, Entry}
use Rattle.lu_proof_bytes.specs.Object.Folds.{evicted}
use Rattle.lu_proof_objects.specs.Points.{change_of, lock_at}
use Rattle.lu_proof_objects.specs.Alike.{IsNext}
use Rattle.lu_proof_objects.proofs.Patches.{next_is}
use Rattle.lu_proof_lawful.specs.Projection.Lives.{number_of, is_live}
use Rattle.lu_proof_lawful.specs.Projection.Locks.{lock_of, held, spans, lock_over}
use Rattle.lu_proof_lawful.specs.Projection.Calls.{takes}
use Rattle.lu_proof_lawful.specs.Projection.Stories.{story}
use Rattle.lu_proof_lawful.proofs.Projection.Lookups.{right_lock}
use Rattle.lu_proof_lawful.proofs.Refinement.ChangesFound.{lock_is}
use Rattle.lu_proof_lawful.proofs.Refinement.StoreTakes.{patch_rises, under_pw, next_spans}
use Rattle.lu_proof_lawful.proofs.Refinement.Tied.{Here}
use Rattle.lu_proof_lawful.proofs.Refinement.TiedAsked.{is_back, queued_backs, flying_backs, backs_of, HasBytes, JustTaken, TookUnder}
use Rattle.lu_proof_lawful.proofs.Refinement.TiedAsked.{BacksAs, AskedOf, AskedBy}
use Rattle.lu_proof_lawful.proofs.Refinement.AskedFolds.{only_stays, flights_stay, stays_same}
use Rattle.lu_proof_lawful.proofs.Refinement.AskedKept.{backs_kept}
use Rattle.lu_proof_lawful.proofs.Refinement.OverLives.{live_parts}
use Rattle.lu_proof_lawful.proofs.Refinement.AskedBacks.{queued_other, queued_one}
use Rattle.lu_proof_lawful.proofs.Refinement.AskedOther.{own_life}
use Rattle.lu_proof_lawful.proofs.Refinement.AskedOwn.{asked_plain}
use Rattle.lu_proof_lawful.proofs.Refinement.MayBase.{tie, life_eq, held_there}

-- what writes back is on the object
back_on : (r q : Resource) (cookie : Cookie) (change : Flush) → is_back r (operation q cookie change) ≡ true → q ≡ r
back_on r q cookie (flush.Put at bytes) e = resource_of q r e
back_on r q cookie (flush.Cut n) e = resource_of q r e

names_no_back : (r : Resource) (o : Op) → IsNames o → is_back r o ≡ false
names_no_back r (op.Put q cookie at bytes) n = absurd n
names_no_back r (op.Cut q cookie n) m = absurd m
names_no_back r _ n = refl

-- what a call asks for writes nothing back
asks_no_back : (past : List Line) (c t : ℕ) (r : Resource) (q : Queued) → CallAsksOk past c t q → is_back r q.op ≡ false
asks_no_back past c t r q ok = by ok.asks
  where
    by : NamesAskOk past c t ok.running q.op ⊎ SizeAskOk t ok.running q.op ⊎ LockAskOk t ok.running q.op ⊎ GetAskOk past c t ok.running q.op
        → is_back r q.op ≡ false
    by (inl a) = names_no_back r q.op (becomes_names ok.running.file ok.running.call q.op a.becomes)
    by (inr (inl a)) = ap (is_back r) a.of_op
    by (inr (inr (inl a))) = ap (is_back r) a.of_op
    by (inr (inr (inr a))) = ap (is_back r) a.of_op

pub next_bytes : (x : Extent) (p : Patch) (change : Flush) → IsNext x p change → HasBytes change
next_bytes x p (flush.Put at bytes) next = next.some
next_bytes x p (flush.Cut n) next = tt

-- ---- a request is queued

module _ (head : Head) (t : ℕ) (r : Resource) (stamp : Stamp) (c : ℕ) (past : List Line) (u : ℕ) (q : Queued)
    (here : Here head t r (line (turn stamp (Client c)) (word.Queues u q)) past) (live : is_live c past (story t r past) ≡ true) where
  abbrev e : word.Entry
  e = word.Queues u q

  abbrev l : Line
  l = line (turn stamp (Client c)) e

  abbrev P : List Line
  P = only t past

  abbrev Q : List Line
  Q = only t (l ∷ past)

  abbrev who : Who
  who = life_at c past

  abbrev h : List Entry
  h = story t r past

  abbrev w : ℕ
  w = number_of who

  a : AskedBy t r past c
  a = tie head t r l past here c live

  own : is_own who P (Client c) ≡ true
  own = subst (λ (v : Who). is_own v P (Client c) ≡ true) (sym (life_eq head t r l past here c live)) (own_self P c)

  flights_same : flights_of who Q ≡ flights_of who P
  flights_same = only_stays (flights_of who) t l past (λ m. flights_stay who P (turn stamp (Client c)) e (inr refl))

  -- the queue, where the request is of this target, or of another one
  queue_now : t ≡ u → queue_of who Q ≡ queue_of who P ++ q ∷ []
  queue_now same =
      ap (λ (b : Bool). queue_of who (if b then l ∷ P else P)) (ap (nat_eq t) (sym same) ∙ self t)
      ∙ ap (λ (b : Bool). if b then queue_of who P ++ q ∷ [] else queue_of who P) own

  queue_else : nat_eq t u ≡ false → queue_of who Q ≡ queue_of who P
  queue_else other = ap (λ (b : Bool). queue_of who (if b then l ∷ P else P)) other

  none_now : (change : Flush) → JustTaken (l ∷ past) c r change → ⊥
  none_now change j = absurd (let z : word.Queues u q ≡ word.WritesBack r change = j.1 in cc)

  same_backs : backs_of r who Q ≡ backs_of r who P → BacksAs r h w (backs_of r who Q) (JustTaken (l ∷ past) c r)
  same_backs z = backs_kept r h h w (backs_of r who P) (backs_of r who Q) (JustTaken past c r) (JustTaken (l ∷ past) c r) z refl none_now
      a.backs

  -- it writes back what was just taken
  back_now : t ≡ u → BackAskOk past c u q → is_back r q.op ≡ true → BacksAs r h w (backs_of r who Q) (JustTaken (l ∷ past) c r)
  back_now same bo back =
      record {
        backs = inr (
          q.op,
          ap (λ (qs : List Queued). queued_backs r qs ++ flying_backs r (flights_of who Q)) (queue_now same)
              ∙ ap (λ (fs : List Flight). queued_backs r (queue_of who P ++ q ∷ []) ++ flying_backs r fs) flights_same
              ∙ queued_one r (queue_of who P) q (flights_of who P) back empty,
          record {
            cookie = bo.holding.lock.cookie;
            change = bo.change;
            is = bo.of_op
                ∙ ap (λ (z : Resource). operation z bo.holding.lock.cookie bo.change) on;
            taken = took.taken
                ∙ ap (λ (k : ℕ). Some (record { lock = k; change = change_of bo.change })) cookie;
            bytes = took.bytes;
          },
          none_now,
        );
        took = λ change j. absurd (none_now change j);
      }
    where
      on : bo.holding.lock.resource ≡ r
      on = back_on r bo.holding.lock.resource bo.holding.lock.cookie bo.change (ap (is_back r) (sym bo.of_op) ∙ back)

      before : (p : List Line) → TakesBack p c bo.holding.lock bo.change → JustTaken p c r bo.change
      before [] z = absurd z
      before (x ∷ p) z = (z.0, z.1 ∙ ap (λ (y : Resource). word.WritesBack y bo.change) on)

      just : JustTaken past c r bo.change
      just = before past bo.takes

      took : TookUnder h w bo.change
      took = a.backs.took bo.change just

      empty : queued_backs r (queue_of who P) ++ flying_backs r (flights_of who P) ≡ []
      empty = ⊎_elim (λ z. z) (λ z. absurd (z.3 bo.change just)) a.backs.backs

      there : In bo.holding (held_at c P)
      there = held_into c t past bo.holding (bo.of_target ∙ sym same) bo.held

      over : lock_over w (change_of bo.change) (held h) ≡ Some bo.holding.lock.cookie.0
      over =
          ap (λ (n : ℕ). lock_over n (change_of bo.change) (held h)) (sym life)
          ∙ right_lock h (lock_of bo.holding.lock) (change_of bo.change) here.all
          (held_there head t r stamp c past e here live tt bo.holding there on) (ap (λ (m : Lock). m.write) is)
          (ap (λ (n : ℕ). evicted n h) life ∙ (live_parts c past h live).0)
          (ap (λ (m : Lock). spans m (change_of bo.change)) is ∙ whole)
        where
          life : (lock_of bo.holding.lock).life ≡ w
          life = own_life head t l past here.stood c bo.holding there

          kind : IsKind bo.holding.lock.ask.mode bo.holding.lock.ask.policy
          kind = let holding = (here.stood.before.at t).locks.held c bo.holding there
              in (here.stood.before.at t).locks.kinds holding.deed bo.holding.lock holding.gave

          -- as it was taken
          when : (p : List Line) → TakesBack p c bo.holding.lock bo.change → (x : Extent) × (bo.holding.lock.ask.policy ≡ Range x)
              × (x.last ≤ the_end) × (spans (lock_at bo.holding.lock.cookie.0 (number_of bo.holding.lock.ask.who) PW x)
              (change_of bo.change) ≡ true)
          when [] z = absurd z
          when (x ∷ p) z =
              let patch = patch_at bo.holding.lock.resource (patches_at c p) in
              let under = under_pw patch bo.holding.lock.ask.mode bo.holding.lock.ask.policy bo.change bo.mode z.2 in
              let ranged : IsKind bo.holding.lock.ask.mode (Range under.0) = subst (IsKind bo.holding.lock.ask.mode) under.1 kind in
              let next = next_is under.0 patch bo.change (patch_rises c p bo.holding.lock.resource) under.2 in (
                under.0,
                under.1,
                ranged.1,
                next_spans bo.holding.lock.cookie.0 (number_of bo.holding.lock.ask.who) under.0 patch bo.change
                    ranged.1 next,
              )

          is : lock_of bo.holding.lock ≡ lock_at bo.holding.lock.cookie.0 (number_of bo.holding.lock.ask.who) PW (when past bo.takes).0
          is = lock_is bo.holding.lock (when past bo.takes).0 bo.mode (when past bo.takes).1

          whole : spans (lock_at bo.holding.lock.cookie.0 (number_of bo.holding.lock.ask.who) PW (when past bo.takes).0)
              (change_of bo.change) ≡ true
          whole = (when past bo.takes).3

      cookie : took.cookie ≡ bo.holding.lock.cookie.0
      cookie = let z : Some took.cookie ≡ Some bo.holding.lock.cookie.0 = sym took.over ∙ over in cc

  backs_queued : BacksAs r h w (backs_of r who Q) (JustTaken (l ∷ past) c r)
  backs_queued = by (nat_eq t u) refl
    where
      same_by : queue_of who Q ≡ queue_of who P → backs_of r who Q ≡ backs_of r who P
      same_by z = ap (λ (qs : List Queued). queued_backs r qs ++ flying_backs r (flights_of who Q)) z
          ∙ ap (λ (fs : List Flight). queued_backs r (queue_of who P) ++ flying_backs r fs) flights_same

      of : (b : Bool) → is_back r q.op ≡ b → t ≡ u → QueuesOk past c u q → BacksAs r h w (backs_of r who Q) (JustTaken (l ∷ past) c r)
      of false n same ok =
          same_backs (ap (λ (qs : List Queued). queued_backs r qs ++ flying_backs r (flights_of who Q)) (queue_now same)
          ∙ ap (λ (fs : List Flight). queued_backs r (queue_of who P ++ q ∷ []) ++ flying_backs r fs) flights_same
          ∙ ap (λ (xs : List Op). xs ++ flying_backs r (flights_of who P)) (queued_other r (queue_of who P) q n))
      of true n same (inl ok) = absurd (both_ways (is_back r q.op) (asks_no_back past c u r q ok) n)
      of true n same (inr ok) = back_now same ok n

      by : (b : Bool) → nat_eq t u ≡ b → BacksAs r h w (backs_of r who Q) (JustTaken (l ∷ past) c r)
      by false z = same_backs (same_by (queue_else z))
      by true z = of (is_back r q.op) refl (eqb-true t u z) here.stood.ok.ok

  pub own_queues : AskedOf t r (l ∷ past) c (life_at c (l ∷ past))
  own_queues = asked_plain head t r stamp c past e here (inl refl) refl (stays_same w h h refl) refl refl tt tt backs_queued a
