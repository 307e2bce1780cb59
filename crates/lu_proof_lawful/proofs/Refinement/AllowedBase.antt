-- What the entries of a target rest on in a story: which positions a lock covers, which transactions meet a range, what the target has
-- seen, how long
-- an object is, that a request which waits is fresh, and that locks conflict in the table where they do in the story.
use Rattle.std.proofs.Common.{◌≡◌, ℕ, suc, ◌+◌, ◌≤◌, ◌<◌, Bool, true, false, List, [], ◌∷◌, Some, None, ◌⊎◌, inl, inr, ⊎_elim, refl, sym}
use Rattle.std.proofs.Common.{subst, ap, ◌∙◌, arith}
use Rattle.std.specs.Prelude.{nat_eq, nat_lt, ◌==◌, ◌&&◌, ◌||◌, if◌then◌else◌, not, max, length, ◌-◌}
use Rattle.std.proofs.lemmas.Bool.{and_parts, eqb-true, ltb-true}
use Rattle.std.proofs.lemmas.Bool.Decides.{nat_tests}
use Rattle.lu_base.specs.declared.ids.Node.TheVariants.{Target}
use Rattle.lu_base.specs.declared.ids.Xid.{Xid}
use Rattle.lu_base.specs.declared.locks.Extent.{Extent}
use Rattle.lu_base.specs.declared.locks.Lock.{Lock as TableLock}
use Rattle.lu_base.specs.declared.locks.Mode.TheVariants.{PR, PW}
use Rattle.lu_base.specs.declared.locks.Policy.{Policy}
use Rattle.lu_base.specs.declared.locks.Policy.TheVariants.{Bits, Range}
use Rattle.lu_base.specs.declared.locks.Resource.{Resource}
use Rattle.lu_held.specs.Locks.{same_resource}
use Rattle.lu_lock.specs.Conflict.{conflict}
use Rattle.lu_lock.specs.Growth.{the_end}
use Rattle.lu_lock.specs.Modes.{compatible}
use Rattle.lu_lock.specs.Overlap.{extents_meet, policies_meet}
use Rattle.lu_spec_machine.specs.Objects.{object_writes, range}
use Rattle.lu_spec_machine.specs.Seen.{meet}
use Rattle.lu_msg.specs.declared.messages.Request.{Request as RequestOf}
use Rattle.lu_msg.specs.declared.operations.Op.{Op}
use Rattle.lu_msg.specs.declared.operations.Op.TheVariants as op
use Rattle.lu_part.specs.declared.parts.Part.{Part}
use Rattle.lu_spec_entries.specs.Carried.{Deed}
use Rattle.lu_spec_entries.specs.Words.{Line}
use Rattle.lu_spec_target.specs.Queues.{extent_of, extent_in}
use Rattle.lu_spec_target.specs.Replies.{seen_in}
use Rattle.lu_spec_target.specs.Stored.{object_in}
use Rattle.lu_proof_lawful.specs.Covered.Deeds.{size_at}
use Rattle.lu_proof_lawful.specs.Covered.Heads.{Head}
use Rattle.lu_proof_lawful.specs.Covered.TargetStates.{server_of, closed_of}
use Rattle.lu_proof_lawful.proofs.Preconditions.Guards.{In, HasRange}
use Rattle.lu_proof_lawful.proofs.Invariants.Groups.{HoldsAt}
use Rattle.lu_proof_lawful.proofs.Invariants.TargetGroups.{IsKind}
use Rattle.lu_proof_lawful.proofs.Invariants.ExactLists.{in_has}
use Rattle.lu_proof_bytes.specs.Object.Words as words
use Rattle.lu_proof_bytes.specs.Object.Words.{Entry, Ask, covers, not_above, within}
use Rattle.lu_proof_bytes.specs.Object.Folds as says
use Rattle.lu_proof_bytes.specs.Object.Folds.{is_some}
use Rattle.lu_proof_bytes.specs.Object.Guards.{Fresh, Sees, IsEnd}
use Rattle.lu_proof_objects.specs.Points.{is_write, last_of}
use Rattle.lu_proof_objects.proofs.Locks.{locks_conflict, writes_clash}
use Rattle.lu_proof_objects.proofs.Objects.{object_ends}
use Rattle.lu_proof_lawful.specs.Projection.Lives.{number_of}
use Rattle.lu_proof_lawful.proofs.Projection.Lives.{same_life}
use Rattle.lu_proof_lawful.specs.Projection.Locks.{lock_of}
use Rattle.lu_proof_lawful.specs.Projection.Requests.{op_of, among}
use Rattle.lu_proof_lawful.specs.Projection.Messages.{request_as}
use Rattle.lu_proof_lawful.proofs.Refinement.Written.{changes_on, starts_at}
use Rattle.lu_proof_lawful.proofs.Refinement.TiedObject.{ObjectBy}
use Rattle.lu_proof_lawful.proofs.Refinement.TiedTarget.{TargetBy}
use Rattle.lu_proof_lawful.proofs.Refinement.TargetDeeds.{on_of, not_evicted}

-- ---- positions

-- the position is one of the range, or the range has no end
abbrev pub Upto : ℕ → ℕ → Type 0
Upto p last = (p ≤ last) ⊎ (last ≡ the_end)

upto_in : (p last : ℕ) → not_above p (last_of last) ≡ true → Upto p last
upto_in p last t = by (last == the_end) refl t
  where
    by : (b : Bool) → (last == the_end) ≡ b → not_above p (if b then None else Some last) ≡ true → Upto p last
    by true e f = inr (eqb-true last the_end e)
    by false e f = inl (grind (arith, nat_tests, f))

in_upto : (p last : ℕ) → Upto p last → not_above p (last_of last) ≡ true
in_upto p last u = by (last == the_end) refl u
  where
    by : (b : Bool) → (last == the_end) ≡ b → Upto p last → not_above p (if b then None else Some last) ≡ true
    by true e v = refl
    by false e (inl le) = grind (arith, nat_tests, le)
    by false e (inr q) = let yes : (last == the_end) ≡ true = rw q refl in absurd (cc)

pub cover_parts : (k c : ℕ) (write : Bool) (first last p : ℕ) → covers
    (record { cookie = k; life = c; write = write; first = first; last = last_of last }) p ≡ true → (first ≤ p) × Upto p last
cover_parts k c write first last p t =
    let parts = and_parts (nat_lt first (suc p)) (not_above p (last_of last)) t in
    let low = ltb-true first (suc p) parts.0 in
    (omega arith, upto_in p last parts.1)

pub parts_cover : (k c : ℕ) (write : Bool) (first last p : ℕ) → first ≤ p → Upto p last
    → covers (record { cookie = k; life = c; write = write; first = first; last = last_of last }) p ≡ true
parts_cover k c write first last p low high = rw (in_upto p last high) (grind (arith, nat_tests, low))

-- ---- a lock of the table on a range

pub record Ranged (l : TableLock) : Type 0 where
  pub extent : Extent
  pub is : l.ask.policy ≡ Range extent
  pub order : extent.first ≤ extent.last
  pub low : extent.last ≤ the_end
  pub mode : (l.ask.mode ≡ PR) ⊎ (l.ask.mode ≡ PW)

pub ranged : (l : TableLock) → HasRange l.ask.policy → IsKind l.ask.mode l.ask.policy → Ranged l
ranged l has kind = by l.ask.policy refl has kind
  where
    by : (p : Policy) → l.ask.policy ≡ p → HasRange p → IsKind l.ask.mode p → Ranged l
    by (Range x) e has kind = record { extent = x; is = e; order = kind.0; low = kind.1; mode = kind.2 }
    by (Bits b) e has kind = absurd has

pub ranged_extent : (l : TableLock) (k : Ranged l) → extent_of l ≡ k.extent
ranged_extent l k = ap extent_in k.is

-- the story's locks conflict where the table's do
pub conflict_is : (l k : TableLock) → Ranged l → Ranged k → words.conflict (lock_of l) (lock_of k) ≡ conflict l.ask k.ask
conflict_is l k a b =
    locks_conflict l.cookie.0 (number_of l.ask.who) k.cookie.0 (number_of k.ask.who) l.ask.mode k.ask.mode (extent_of l) (extent_of k)
    (order l a) (order k b)
    ∙ by (is_write l.ask.mode || is_write k.ask.mode) (writes_clash l.ask.mode k.ask.mode a.mode b.mode)
    ∙ ap (λ (p : Bool). not (compatible l.ask.mode k.ask.mode) && p) (sym meets_is)
  where
    order : (x : TableLock) (r : Ranged x) → ((extent_of x).first ≤ (extent_of x).last) × ((extent_of x).last ≤ the_end)
    order x r = subst (λ (e : Extent). (e.first ≤ e.last) × (e.last ≤ the_end)) (sym (ranged_extent x r)) (r.order, r.low)

    meets_is : policies_meet l.ask.policy k.ask.policy ≡ extents_meet (extent_of l) (extent_of k)
    meets_is = rw (a.is, b.is) refl

    by : (w : Bool) → compatible l.ask.mode k.ask.mode ≡ (if w then false else true)
        → (if w then extents_meet (extent_of l) (extent_of k) else false)
        ≡ (not (compatible l.ask.mode k.ask.mode) && extents_meet (extent_of l) (extent_of k))
    by true e = rw e refl
    by false e = rw e refl

-- ---- ranges that meet what an operation writes

pub within_from : (at : ℕ) (bytes : List ℕ) (p : ℕ) → within at bytes p ≡ true → (at ≤ p) × (p < at + length bytes)
within_from at [] p e = absurd (cc)
within_from at (b ∷ bytes) p e = by (nat_eq at p) refl (λ f. within_from (suc at) bytes p f) e
  where
    by : (v : Bool) → nat_eq at p ≡ v → (within (suc at) bytes p ≡ true → (suc at ≤ p) × (p < suc at + length bytes))
        → (v || within (suc at) bytes p) ≡ true
        → (at ≤ p) × (p < at + suc (length bytes))
    by true t more f = let same : at ≡ p = eqb-true at p t in (omega arith, omega arith)
    by false t more f = let rest = more f in (omega arith, omega arith)

one_meets : (q r : Resource) (a b c d : ℕ) → same_resource q r ≡ true → a ≤ d → c ≤ b → a ≤ b → c ≤ d → meet (range q a b) (range r c d)
    ≡ true
one_meets q r a b c d s e f g h = rw s (grind (arith, nat_tests, e, f, g, h))

pub writes_meet : (r : Resource) (o : Op) (p first last : ℕ) → changes_on r o p ≡ true → starts_at o ≤ the_end → first ≤ last
    → first ≤ the_end → first ≤ p → Upto p last → meet (object_writes o) (range r first last) ≡ true
writes_meet r (op.Put q cookie offset []) p first last c starts order low under upto = let parts = and_parts (same_resource q r) false c
    in absurd (let z = parts.1 in cc)
writes_meet r (op.Put q cookie offset (b ∷ bs)) p first last c starts order low under upto =
    let parts = and_parts (same_resource q r) (within offset (b ∷ bs) p) c in
    let run = within_from offset (b ∷ bs) p parts.1 in
    let high : p ≤ offset + length bs = let lt = run.1 in omega arith in
    let begins : offset ≤ last = ⊎_elim (λ (le : p ≤ last). let s = run.0 in omega arith) (λ (e : last ≡ the_end). omega (arith, e, starts))
    upto in
    one_meets q r offset (offset + length bs) first last parts.0 begins (omega arith) (omega arith) order
writes_meet r (op.Cut q cookie size) p first last c starts order low under upto =
    let parts = and_parts (same_resource q r) (nat_lt size (suc (suc p))) c in
    let le = ltb-true size (suc (suc p)) parts.1 in
    let begins : max size 1 - 1 ≤ last = ⊎_elim (λ (le2 : p ≤ last). omega (arith, le, le2))
    (λ (e : last ≡ the_end). omega (arith, e, starts)) upto in
    one_meets q r (max size 1 - 1) the_end first last parts.0 begins low starts order
writes_meet r _ p first last c starts order low under upto = absurd (cc)

-- what meets is seen
pub seen_there : (parts : List Part) (log : List Deed) (d : Deed) → In d log → meet d.writes parts ≡ true
    → In d.reply.txn.0 (seen_in parts log)
seen_there parts [] d i m = absurd i
seen_there parts (e ∷ log) d (inl q) m = by (meet e.writes parts) refl
  where
    by : (b : Bool) → meet e.writes parts ≡ b → In d.reply.txn.0 (if b then e.reply.txn.0 ∷ seen_in parts log else seen_in parts log)
    by true t = inl (ap (λ (x : Deed). x.reply.txn.0) q)
    by false t = let yes : meet e.writes parts ≡ true = subst (λ (x : Deed). meet x.writes parts ≡ true) (sym q) m in absurd (cc)
seen_there parts (e ∷ log) d (inr i) m = by (meet e.writes parts) (seen_there parts log d i m)
  where
    by : (b : Bool) → In d.reply.txn.0 (seen_in parts log) → In d.reply.txn.0
        (if b then e.reply.txn.0 ∷ seen_in parts log else seen_in parts log)
    by true j = inr j
    by false j = j

-- ---- a story

module _ (head : Head) (r : Resource) (past : List Line) (h : List Entry) (all : HoldsAt head past) (tied : TargetBy head r past h)
    (object : ObjectBy head r past h) where
  -- the target has seen all that changed those positions
  pub sees_all : (first last : ℕ) (at : ℕ → Bool) → first ≤ last → first ≤ the_end → ((p : ℕ) → at p ≡ true → (first ≤ p) × Upto p last)
      → says.committed h ≡ (server_of head.osts past).committed.0
      → Sees h (among (seen_in (range r first last) (server_of head.osts past).log)) at
  sees_all first last at order low lies committed n p t c above =
      let by = object.changed n p c in
      let d = by.deed in
      let e = by.number in
      let logged : In d (server_of head.osts past).log = ⊎_elim (λ (i : In d (server_of head.osts past).log). i)
      (λ (le : d.reply.txn.0 ≤ (server_of head.osts past).committed.0). absurd (omega arith))
      (all.history.logged d by.acted by.made by.stands) in
      let place = lies p t in
      let met : meet d.writes (range r first last) ≡ true = subst (λ (ws : List Part). meet ws (range r first last) ≡ true) (sym by.writes)
      (writes_meet r d.op p first last by.there by.starts order low place.0 place.1) in
      subst (λ (m : ℕ). among (seen_in (range r first last) (server_of head.osts past).log) m ≡ true) e
      (in_has d.reply.txn.0 (seen_in (range r first last) (server_of head.osts past).log)
      (seen_there (range r first last) (server_of head.osts past).log d logged met))

  -- the object ends where the target says
  pub ends_there : IsEnd h (size_at (server_of head.osts past) r)
  ends_there = (
    λ p le. sym (object.now p) ∙ (object_ends (object_in (server_of head.osts past).objects r) p).past le,
    λ p e. ap is_some (sym (object.now p)) ∙ (object_ends (object_in (server_of head.osts past).objects r) p).last e,
  )

  xid_is : (a b : Xid) → a.0 ≡ b.0 → a ≡ b
  xid_is a b e = ap (λ (n : ℕ). record { 0 = n }) e

  -- a request that waits was sent in the boot that serves, and isn't answered
  pub fresh_there : (q : RequestOf) → In q (server_of head.osts past).waiting → (o : words.Op) → op_of r h q.op ≡ Some o
      → Fresh h (request_as (number_of q.who) q.xid.0 o)
  fresh_there q i o e =
      let w = all.done.waits q i in
      let asks = w.asks in
      let high = asks.3 in
      let current = w.current in
      let boot : q.boot ≡ says.closed h = boot_is high current ∙ sym tied.closed in
      let asked = object.asks w.was.0 (Target w.was.1) q w.was.2 (not_evicted head r past h tied all q.who w.has) (on_of r h q.op o e) in
      let same : Some asked.op ≡ Some o = sym asked.is ∙ e in
      let one : asked.op ≡ o = cc in
      record {
        was = subst (λ (b : ℕ). says.Was h (Ask b (request_as (number_of q.who) q.xid.0 o))) boot
            (subst (λ (x : words.Op). says.Was h (Ask q.boot (request_as (number_of q.who) q.xid.0 x))) one asked.was);
        first = λ a answered. (let by = tied.answered (number_of q.who) q.xid.0 a answered
            in w.new by.deed by.acted by.counts (same_life by.deed.reply.who q.who by.who) (xid_is by.deed.reply.xid q.xid by.xid));
      }
    where
      boot_is : q.boot ≤ closed_of past → closed_of past ≤ q.boot → q.boot ≡ closed_of past
      boot_is a b = omega arith
