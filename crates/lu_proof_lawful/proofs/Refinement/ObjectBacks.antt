-- A put or a cut of a life with a slot is never told that no lock covers it: its life holds the lock that it names, so that is granted, and
-- it lies over
-- what the change writes. Each that was done was answered so, line by line.
use Rattle.std.proofs.Common.{◌≡◌, ℕ, suc, ◌+◌, ◌≤◌, Bool, true, false, List, [], ◌∷◌, Some, None, ◌⊎◌, inl, inr, ⊎_elim, refl, sym, subst}
use Rattle.std.proofs.Common.{ap, ◌∙◌, arith, length, max}
use Rattle.std.specs.Prelude.{nat_eq, ◌&&◌, ◌||◌, if◌then◌else◌, ◌-◌}
use Rattle.std.proofs.lemmas.Bool.{eqb-true, and_parts, and_from, both_ways}
use Rattle.std.proofs.lemmas.Bool.Decides.{nat_tests}
use Rattle.lu_base.specs.declared.ids.Cookie.{Cookie}
use Rattle.lu_base.specs.declared.ids.Who.{Who}
use Rattle.lu_base.specs.declared.locks.Extent.{Extent}
use Rattle.lu_base.specs.declared.locks.Lock.{Lock as TableLock}
use Rattle.lu_base.specs.declared.locks.Mode.{Mode}
use Rattle.lu_base.specs.declared.locks.Mode.TheVariants.{EX, PW, PR, CW, CR, NL}
use Rattle.lu_base.specs.declared.locks.Resource.{Resource}
use Rattle.lu_held.specs.Locks.{same_resource}
use Rattle.lu_lock.specs.Growth.{the_end}
use Rattle.lu_lock.specs.Modes.{serves}
use Rattle.lu_msg.specs.declared.messages.Request.{Request as RequestOf}
use Rattle.lu_msg.specs.declared.operations.Op.{Op}
use Rattle.lu_msg.specs.declared.operations.Op.TheVariants as op
use Rattle.lu_spec_entries.specs.Words.{Line, same_life}
use Rattle.lu_spec_target.specs.Objects.{lock_of as lock_named, put_extent, cut_extent}
use Rattle.lu_spec_target.specs.Queues.{extent_of}
use Rattle.lu_spec_target.specs.Replies.{locks_on}
use Rattle.lu_proof_lawful.specs.Covered.Heads.{Head}
use Rattle.lu_proof_lawful.specs.Covered.TargetStates.{server_of}
use Rattle.lu_proof_lawful.proofs.Preconditions.Guards.{In, HasRange}
use Rattle.lu_proof_lawful.proofs.Preconditions.ObjectGuards.{covers_range, IsUncovered}
use Rattle.lu_proof_lawful.proofs.Preconditions.QueueLists.{resource_itself}
use Rattle.lu_proof_lawful.proofs.Preconditions.Lists.{self, in_filter, in_filtered, life_self}
use Rattle.lu_proof_lawful.proofs.Invariants.Groups.{HoldsAt}
use Rattle.lu_proof_lawful.proofs.Invariants.TargetGroups.{HasSlot}
use Rattle.lu_proof_bytes.specs.Object.Words.{Lock, Change, Write, Cut, Flush, Entry, covers, changes, within}
use Rattle.lu_proof_bytes.specs.Object.Folds as says
use Rattle.lu_proof_bytes.specs.Object.Guards.{UnderNumber}
use Rattle.lu_proof_bytes.proofs.Object.Numbers.{fresh_flies}
use Rattle.lu_proof_bytes.proofs.Object.Locks.{held_granted}
use Rattle.lu_proof_bytes.proofs.Object.Patches.{flight_uses}
use Rattle.lu_proof_bytes.proofs.Object.World.{World}
use Rattle.lu_proof_objects.specs.Points.{is_write}
use Rattle.lu_proof_lawful.specs.Projection.Lives.{number_of}
use Rattle.lu_proof_lawful.proofs.Projection.Lives.{same_life as life_same}
use Rattle.lu_proof_lawful.specs.Projection.Locks.{lock_of}
use Rattle.lu_proof_lawful.specs.Projection.Requests.{op_of}
use Rattle.lu_proof_lawful.specs.Projection.Messages.{request_as}
use Rattle.lu_proof_lawful.proofs.Refinement.TiedAsked.{is_back}
use Rattle.lu_proof_lawful.proofs.Refinement.TiedObject.{HasSome, ObjectBy}
use Rattle.lu_proof_lawful.proofs.Refinement.TiedTarget.{TargetBy}
use Rattle.lu_proof_lawful.proofs.Refinement.TargetDeeds.{not_evicted}
use Rattle.lu_proof_lawful.proofs.Refinement.TargetOwn.{same_lock}
use Rattle.lu_proof_lawful.proofs.Refinement.AllowedBase.{cover_parts, Ranged, ranged, ranged_extent, fresh_there}
use Rattle.lu_proof_lawful.proofs.Refinement.AllowedLocks.{resource_is}

-- the lock of that life and cookie is found, if no other one has the cookie
named_is : (who : Who) (cookie : Cookie) (locks : List TableLock) (l : TableLock) → In l locks → l.cookie.0 ≡ cookie.0 → l.ask.who ≡ who
    → ((k : TableLock) → In k locks → k.cookie.0 ≡ cookie.0 → k ≡ l) → lock_named who cookie locks ≡ Some l
named_is who cookie [] l i c w one = absurd i
named_is who cookie (k ∷ locks) l i c w one = by (nat_eq k.cookie.0 cookie.0 && same_life k.ask.who who) refl i
    (λ j. named_is who cookie locks l j c w (λ x y z. one x (inr y) z))
  where
    by : (b : Bool) → (nat_eq k.cookie.0 cookie.0 && same_life k.ask.who who) ≡ b → In l (k ∷ locks)
        → (In l locks → lock_named who cookie locks ≡ Some l) → (if b then Some k else lock_named who cookie locks) ≡ Some l
    by true t i more = ap Some (one k (inl refl) (eqb-true k.cookie.0 cookie.0
        (and_parts (nat_eq k.cookie.0 cookie.0) (same_life k.ask.who who) t).0))
    by false t (inr j) more = more j
    by false t (inl e) more =
        let yes : (nat_eq k.cookie.0 cookie.0 && same_life k.ask.who who) ≡ true =
        subst (λ (x : TableLock). (nat_eq x.cookie.0 cookie.0 && same_life x.ask.who who) ≡ true) (sym e)
        (and_from (nat_eq l.cookie.0 cookie.0) (same_life l.ask.who who)
        (subst (λ (n : ℕ). nat_eq n cookie.0 ≡ true) (sym c) (self cookie.0))
        (subst (λ (v : Who). same_life v who ≡ true) (sym w) (life_self who))) in
        absurd (both_ways (nat_eq k.cookie.0 cookie.0 && same_life k.ask.who who) t yes)

mode_writes : (m : Mode) → is_write m ≡ true → serves m PW ≡ true
mode_writes EX s = absurd (cc)
mode_writes PW s = refl
mode_writes PR s = absurd (cc)
mode_writes CW s = absurd (cc)
mode_writes CR s = absurd (cc)
mode_writes NL s = absurd (cc)

first_in : (at b : ℕ) (bs : List ℕ) → within at (b ∷ bs) at ≡ true
first_in at b bs = rw (self at) refl

last_in : (at b : ℕ) (bs : List ℕ) → within at (b ∷ bs) (at + length bs) ≡ true
last_in at b [] = grind (arith, nat_tests)
last_in at b (c ∷ bs) = by (nat_eq at (at + suc (length bs))) (last_in (suc at) c bs)
  where
    by : (v : Bool) → within (suc at) (c ∷ bs) (suc at + length bs) ≡ true → (v || within (suc at) (c ∷ bs) (at + suc (length bs))) ≡ true
    by true ih = refl
    by false ih = subst (λ (p : ℕ). within (suc at) (c ∷ bs) p ≡ true) (omega arith) ih

module _ (head : Head) (r : Resource) (past : List Line) (h : List Entry) (all : HoldsAt head past) (tied : TargetBy head r past h)
    (object : ObjectBy head r past h) (world : World h)
    (ranges : (l : TableLock) → In l (server_of head.osts past).granted → HasRange l.ask.policy) where
  -- the lock that a write-back which waits names is granted, over all that it changes
  record Over (who : Who) (cookie : Cookie) (ch : Change) : Type 0 where
    pub lock : TableLock
    pub found : lock_named who cookie (locks_on r (server_of head.osts past).granted) ≡ Some lock
    pub range : Ranged lock
    pub mode : serves lock.ask.mode PW ≡ true
    pub covered : (p : ℕ) → changes ch p ≡ true → covers (lock_of lock) p ≡ true

  over_there : (q : RequestOf) (cookie : Cookie) (ch : Change) → In q (server_of head.osts past).waiting → op_of r h q.op
      ≡ Some (Flush cookie.0 ch) → Over q.who cookie ch
  over_there q cookie ch i e =
      let w = all.done.waits q i in
      let stays = not_evicted head r past h tied all q.who w.has in
      let flies = fresh_flies h (request_as (number_of q.who) q.xid.0 (Flush cookie.0 ch)) world.numbers
      (fresh_there head r past h all tied object q i (Flush cookie.0 ch) e) in
      of_under q w.has stays (flight_uses h (number_of q.who) (request_as (number_of q.who) q.xid.0 (Flush cookie.0 ch)) world.patches
      flies)
    where
      of_under : (q : RequestOf) → HasSlot head.clients past q.who → says.evicted (number_of q.who) h ≡ false
          → UnderNumber h (number_of q.who) cookie.0 true (changes ch) → Over q.who cookie ch
      of_under q has stays u =
          let granted = held_granted h u.lock world.numbers world.locks u.held
          (subst (λ (c : ℕ). says.evicted c h ≡ false) (sym u.life) stays) in
          let g = tied.granted u.lock granted in
          let number : number_of g.1.ask.who ≡ number_of q.who = ap (λ (x : Lock). x.life) g.4 ∙ u.life in
          let who : g.1.ask.who ≡ q.who = life_same g.1.ask.who q.who number in
          let there : In g.1 (server_of head.osts past).granted = ⊎_elim
          (λ (j : In g.1 (server_of head.osts past).granted). j)
          (λ p. absurd (both_ways (says.evicted (number_of q.who) h) stays
          (subst (λ (c : ℕ). says.evicted c h ≡ true) number (tied.evicted g.1.ask.who ∙ p.0))))
          g.5 in
          let cookie_is : g.1.cookie.0 ≡ cookie.0 = ap (λ (x : Lock). x.cookie) g.4 ∙ u.cookie in
          let on : In g.1 (locks_on r (server_of head.osts past).granted) =
          in_filtered (λ (x : TableLock). same_resource x.resource r) g.1 (server_of head.osts past).granted there
          (subst (λ (x : Resource). same_resource x r ≡ true) (sym g.3) (resource_itself r)) in
          record {
            lock = g.1;
            found = named_is q.who cookie (locks_on r (server_of head.osts past).granted) g.1 on cookie_is who (λ k j c.
                let f = in_filter (λ (x : TableLock). same_resource x.resource r) k (server_of head.osts past).granted j in
                let d = all.locks.granted k f.0 in
                same_lock head past all d.0 g.0 k g.1 d.1 g.2 (c ∙ sym cookie_is));
            range = ranged g.1 (ranges g.1 there) (all.locks.kinds g.0 g.1 g.2);
            mode = mode_writes g.1.ask.mode (ap (λ (x : Lock). x.write) g.4 ∙ u.mode refl);
            covered = λ p c. subst (λ (x : Lock). covers x p ≡ true) (sym g.4) (u.covered p c);
          }

  lies_over : (who : Who) (cookie : Cookie) (ch : Change) (extent : Extent) (o : Over who cookie ch)
      → (extent_of o.lock).first ≤ extent.first → extent.last ≤ (extent_of o.lock).last
      → covers_range extent (lock_named who cookie (locks_on r (server_of head.osts past).granted)) ≡ true
  lies_over who cookie ch extent o first last = rw (o.found, o.mode) (grind (arith, nat_tests, first, last))

  parts_of : (l : TableLock) (p : ℕ) → covers (lock_of l) p ≡ true → ((extent_of l).first ≤ p)
      × ((p ≤ (extent_of l).last) ⊎ ((extent_of l).last ≡ the_end))
  parts_of l p c = cover_parts l.cookie.0 (number_of l.ask.who) (is_write l.ask.mode) (extent_of l).first (extent_of l).last p c

  -- what it writes back has a byte, within an object
  some_there : (q : RequestOf) (cookie : Cookie) (ch : Change) → In q (server_of head.osts past).waiting → op_of r h q.op
      ≡ Some (Flush cookie.0 ch) → HasSome ch
  some_there q cookie ch i e =
      let flies = fresh_flies h (request_as (number_of q.who) q.xid.0 (Flush cookie.0 ch)) world.numbers
      (fresh_there head r past h all tied object q i (Flush cookie.0 ch) e) in
      object.full (number_of q.who) (record { lock = cookie.0; change = ch })
      (world.patches.flush (number_of q.who) cookie.0 ch (request_as (number_of q.who) q.xid.0 (Flush cookie.0 ch)) flies refl)

  put_over : (q : RequestOf) (cookie : Cookie) (offset : ℕ) (bytes : List ℕ) → In q (server_of head.osts past).waiting → op_of r h q.op
      ≡ Some (Flush cookie.0 (Write offset bytes)) → covers_range (put_extent offset bytes)
      (lock_named q.who cookie (locks_on r (server_of head.osts past).granted)) ≡ true
  put_over q cookie offset bytes i e = by bytes (over_there q cookie (Write offset bytes) i e)
      (some_there q cookie (Write offset bytes) i e)
    where
      by : (bs : List ℕ) → Over q.who cookie (Write offset bs) → HasSome (Write offset bs)
          → covers_range (put_extent offset bs) (lock_named q.who cookie (locks_on r (server_of head.osts past).granted)) ≡ true
      by [] o some = absurd (let z = some.0 in omega arith)
      by (b ∷ bs) o some =
          let first = (parts_of o.lock offset (o.covered offset (first_in offset b bs))).0 in
          let last = (parts_of o.lock (offset + length bs) (o.covered (offset + length bs) (last_in offset b bs))).1 in
          let low = some.1 (offset + length bs) (last_in offset b bs) in
          lies_over q.who cookie (Write offset (b ∷ bs)) (put_extent offset (b ∷ bs)) o first
          (⊎_elim (λ (le : offset + length bs ≤ (extent_of o.lock).last). omega (arith, le))
          (λ (e : (extent_of o.lock).last ≡ the_end). omega (arith, e, low)) last)

  cut_over : (q : RequestOf) (cookie : Cookie) (size : ℕ) → In q (server_of head.osts past).waiting → op_of r h q.op
      ≡ Some (Flush cookie.0 (Cut size)) → covers_range (cut_extent size)
      (lock_named q.who cookie (locks_on r (server_of head.osts past).granted)) ≡ true
  cut_over q cookie size i e =
      let o = over_there q cookie (Cut size) i e in
      let low : (extent_of o.lock).last ≤ the_end = subst (λ (x : Extent). x.last ≤ the_end) (sym (ranged_extent o.lock o.range))
      o.range.low in
      let first = (parts_of o.lock (max size 1 - 1) (o.covered (max size 1 - 1) (changed (max size 1 - 1) (omega arith)))).0 in
      let last = (parts_of o.lock (max size (the_end + 1)) (o.covered (max size (the_end + 1))
      (changed (max size (the_end + 1)) (omega arith)))).1 in
      lies_over q.who cookie (Cut size) (cut_extent size) o first
      (⊎_elim (λ (le : max size (the_end + 1) ≤ (extent_of o.lock).last). absurd (omega (arith, le, low)))
      (λ (e : (extent_of o.lock).last ≡ the_end). omega (arith, e)) last)
    where
      changed : (p : ℕ) → size ≤ p + 1 → changes (Cut size) p ≡ true
      changed p le = grind (arith, nat_tests, le)

  pub uncovered_not : (q : RequestOf) → In q (server_of head.osts past).waiting → IsUncovered (server_of head.osts past) q.who q.op
      → is_back r q.op ≡ true → ⊥
  uncovered_not q i u back = by q.op refl u back
    where
      by : (o : Op) → q.op ≡ o → IsUncovered (server_of head.osts past) q.who o → is_back r o ≡ true → ⊥
      by (op.Put s cookie offset bytes) is u back =
          let on = resource_is s r back in
          let there : op_of r h q.op ≡ Some (Flush cookie.0 (Write offset bytes)) = ap (op_of r h) is
          ∙ ap (λ (b : Bool). if b then Some (Flush cookie.0 (Write offset bytes)) else None) back in
          both_ways (covers_range (put_extent offset bytes) (lock_named q.who cookie (locks_on r (server_of head.osts past).granted)))
          (subst (λ (x : Resource). covers_range (put_extent offset bytes)
          (lock_named q.who cookie (locks_on x (server_of head.osts past).granted)) ≡ false) on u)
          (put_over q cookie offset bytes i there)
      by (op.Cut s cookie size) is u back =
          let on = resource_is s r back in
          let there : op_of r h q.op ≡ Some (Flush cookie.0 (Cut size)) = ap (op_of r h) is
          ∙ ap (λ (b : Bool). if b then Some (Flush cookie.0 (Cut size)) else None) back in
          both_ways (covers_range (cut_extent size) (lock_named q.who cookie (locks_on r (server_of head.osts past).granted)))
          (subst (λ (x : Resource). covers_range (cut_extent size) (lock_named q.who cookie (locks_on x (server_of head.osts past).granted))
          ≡ false) on u) (cut_over q cookie size i there)
      by o is u back = absurd (cc)
