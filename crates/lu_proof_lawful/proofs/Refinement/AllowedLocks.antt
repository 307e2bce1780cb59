-- The locks that a target grants are allowed in the story: who asks for one gets it, or is told to wait, and one that waited is granted.
use Rattle.std.proofs.Common.{◌≡◌, ℕ, ◌+◌, ◌≤◌, Bool, true, false, List, [], ◌∷◌, ◌++◌, Some, None, ◌⊎◌, inl, inr, ⊎_elim, refl, sym, subst}
use Rattle.std.proofs.Common.{ap, ◌∙◌, arith}
use Rattle.std.specs.Prelude.{if◌then◌else◌, nat_le, nat_eq}
use Rattle.std.proofs.lemmas.Bool.{or_parts, and_parts, leb-true, eqb-true}
use Rattle.lu_base.specs.declared.ids.At.{At}
use Rattle.lu_base.specs.declared.ids.Node.TheVariants.{Target}
use Rattle.lu_base.specs.declared.ids.Stamp.{Stamp}
use Rattle.lu_base.specs.declared.locks.Extent.{Extent}
use Rattle.lu_base.specs.declared.locks.Lock.{Lock as TableLock}
use Rattle.lu_base.specs.declared.locks.Mode.{Mode}
use Rattle.lu_base.specs.declared.locks.Policy.{Policy}
use Rattle.lu_base.specs.declared.locks.Policy.TheVariants.{Range}
use Rattle.lu_base.specs.declared.locks.Resource.{Resource}
use Rattle.lu_held.specs.Locks.{same_resource}
use Rattle.lu_lock.specs.Conflict.{conflict, conflicts_with_any}
use Rattle.lu_lock.specs.Growth.{the_end}
use Rattle.lu_lock.specs.Overlap as overlap
use Rattle.lu_spec_machine.specs.Objects.{range, object_touches}
use Rattle.lu_msg.specs.declared.answers.Answer.TheVariants as told
use Rattle.lu_msg.specs.declared.operations.Op.{Op}
use Rattle.lu_msg.specs.declared.operations.Op.TheVariants as op
use Rattle.lu_spec_entries.specs.Carried.{Deed}
use Rattle.lu_spec_entries.specs.Words as word
use Rattle.lu_spec_entries.specs.Words.{Line}
use Rattle.lu_spec_target.specs.Queues.{extent_of}
use Rattle.lu_spec_target.specs.Replies.{seen_in, asks_of, locks_on}
use Rattle.lu_spec_client.specs.Sending.{object_of}
use Rattle.lu_proof_lawful.specs.Covered.Deeds.{lock_asked, grown_by, size_at}
use Rattle.lu_proof_lawful.specs.Covered.Heads.{Head}
use Rattle.lu_proof_lawful.specs.Covered.TargetCloses.{closing_of}
use Rattle.lu_proof_lawful.specs.Covered.TargetStates.{Server, server_of, shown_of}
use Rattle.lu_proof_lawful.proofs.Preconditions.Guards.{In, HasRange}
use Rattle.lu_proof_lawful.proofs.Preconditions.StoryGuards.{IsServing, RangeOk, WaitOk, PromoteOk}
use Rattle.lu_proof_lawful.proofs.Preconditions.Lists.{turn, in_filter, in_right}
use Rattle.lu_proof_lawful.proofs.Preconditions.Grown.{ShowsNext}
use Rattle.lu_proof_lawful.proofs.Preconditions.ClientLines.{some_is}
use Rattle.lu_proof_lawful.proofs.Invariants.Groups.{HoldsAt}
use Rattle.lu_proof_lawful.proofs.Invariants.TargetGroups.{IsKind}
use Rattle.lu_proof_lawful.proofs.Invariants.LocksGranted.{ask_kind, grown_clear, asked_kind}
use Rattle.lu_proof_bytes.specs.Object.Words as words
use Rattle.lu_proof_bytes.specs.Object.Words.{Lock, Entry, covers}
use Rattle.lu_proof_bytes.specs.Object.Folds as says
use Rattle.lu_proof_bytes.specs.Object.Folds.{IsGranted}
use Rattle.lu_proof_bytes.specs.Object.Guards as guards
use Rattle.lu_proof_bytes.specs.Object.Guards.{Asks, Free, Sees, IsEnd}
use Rattle.lu_proof_objects.specs.Points.{is_write, last_of}
use Rattle.lu_proof_lawful.specs.Projection.Lives.{number_of}
use Rattle.lu_proof_lawful.specs.Projection.Locks.{lock_of}
use Rattle.lu_proof_lawful.specs.Projection.Requests.{op_of, among}
use Rattle.lu_proof_lawful.specs.Projection.Messages.{request_as}
use Rattle.lu_proof_lawful.specs.Projection.Stories.{size_in}
use Rattle.lu_proof_lawful.proofs.Refinement.Covering.{grown_over}
use Rattle.lu_proof_lawful.proofs.Refinement.TiedObject.{ObjectBy}
use Rattle.lu_proof_lawful.proofs.Refinement.TiedTarget.{CommitsNext, TargetBy}
use Rattle.lu_proof_lawful.proofs.Refinement.TargetDeeds.{on_of, asked_by}
use Rattle.lu_proof_lawful.proofs.Refinement.ObjectLines.{IsCommitting}
use Rattle.lu_proof_lawful.proofs.Refinement.AllowedBase.{Upto, cover_parts, parts_cover, Ranged, ranged, ranged_extent, conflict_is}
use Rattle.lu_proof_lawful.proofs.Refinement.AllowedBase.{sees_all, ends_there, fresh_there}

-- ---- a lock grows

module _ (v : Server) (others : List TableLock) (asked : TableLock) (k : Ranged asked) where
  abbrev grown : TableLock
  grown = grown_by v others asked

  asked_is : IsKind asked.ask.mode asked.ask.policy
  asked_is = subst (λ (p : Policy). IsKind asked.ask.mode p) (sym k.is) (k.order, k.low, k.mode)

  has_range : HasRange asked.ask.policy
  has_range = subst HasRange (sym k.is) tt

  pub grown_ranged : Ranged (grown_by v others asked)
  grown_ranged = let g = ask_kind asked.ask (asks_of (locks_on asked.resource v.granted)) (asks_of others) has_range asked_is
      in ranged (grown_by v others asked) g.1 g.0

  -- it covers what was asked for
  pub grown_covers : (p : ℕ) → covers (lock_of asked) p ≡ true → covers (lock_of (grown_by v others asked)) p ≡ true
  grown_covers p c =
      let g = grown_ranged in
      let outer : overlap.covers (Range g.extent) (Range k.extent) ≡ true =
      subst (λ (q : Policy). overlap.covers q (Range k.extent) ≡ true) g.is (grown_over v others asked k.extent k.is k.low) in
      let parts = and_parts (nat_le g.extent.first k.extent.first) (nat_le k.extent.last g.extent.last) outer in
      let first = leb-true g.extent.first k.extent.first parts.0 in
      let last = leb-true k.extent.last g.extent.last parts.1 in
      let low = g.low in
      let lies = cover_parts asked.cookie.0 (number_of asked.ask.who) (is_write asked.ask.mode) k.extent.first k.extent.last p
      (subst (λ (x : Extent). covers (record {
        cookie = asked.cookie.0;
        life = number_of asked.ask.who;
        write = is_write asked.ask.mode;
        first = x.first;
        last = last_of x.last;
      }) p ≡ true) (ranged_extent asked k) c) in
      let from = lies.0 in
      let high : Upto p g.extent.last = ⊎_elim (λ (le : p ≤ k.extent.last). inl (omega arith))
      (λ (e : k.extent.last ≡ the_end). inr (omega (arith, e, last, low))) lies.1 in
      subst (λ (x : Extent). covers (record {
        cookie = asked.cookie.0;
        life = number_of asked.ask.who;
        write = is_write asked.ask.mode;
        first = x.first;
        last = last_of x.last;
      }) p ≡ true) (sym (ranged_extent (grown_by v others asked) g))
      (parts_cover asked.cookie.0 (number_of asked.ask.who) (is_write asked.ask.mode) g.extent.first g.extent.last p (omega arith) high)

-- ---- requests

pub resource_is : (q r : Resource) → same_resource q r ≡ true → q ≡ r
resource_is q r t =
    let p = and_parts (nat_eq q.fid.0 r.fid.0) (nat_eq q.stripe r.stripe) t in
    let fids = eqb-true q.fid.0 r.fid.0 p.0 in
    let stripes = eqb-true q.stripe r.stripe p.1 in
    (λ i. record { fid = record { 0 = fids i }; stripe = stripes i })

-- an operation that the story has is on the object
pub on_resource : (r : Resource) (h : List Entry) (q : Resource) (o : Op) (x : words.Op) → object_of o ≡ Some q → op_of r h o ≡ Some x → q
    ≡ r
on_resource r h q o x e f = some_is q r (sym e ∙ on_of r h o x f)

enqueue_is : (r : Resource) (h : List Entry) (q : Resource) (mode : Mode) (extent : Extent) (o : words.Op)
    → op_of r h (op.Enqueue q mode extent) ≡ Some o → words.Enqueue (is_write mode) extent.first (last_of extent.last) ≡ o
enqueue_is r h q mode extent o e = by (same_resource q r) e
  where
    by : (b : Bool) → (if b then Some (words.Enqueue (is_write mode) extent.first (last_of extent.last)) else None) ≡ Some o
        → words.Enqueue (is_write mode) extent.first (last_of extent.last) ≡ o
    by true f = some_is _ o f
    by false f = absurd (cc)

-- with a lock the target tells what was seen of its range
pub sees_lock : (head : Head) (r : Resource) (past : List Line) (h : List Entry) → HoldsAt head past → TargetBy head r past h
    → ObjectBy head r past h → (l : TableLock) → Ranged l → says.committed h ≡ (server_of head.osts past).committed.0
    → Sees h (among (seen_in (range r (extent_of l).first (extent_of l).last) (server_of head.osts past).log)) (covers (lock_of l))
sees_lock head r past h all tied object l k committed =
    sees_all head r past h all tied object (extent_of l).first (extent_of l).last (covers (lock_of l)) order.0 order.1
    (λ p c. cover_parts l.cookie.0 (number_of l.ask.who) (is_write l.ask.mode) (extent_of l).first (extent_of l).last p c) committed
  where
    order : ((extent_of l).first ≤ (extent_of l).last) × ((extent_of l).first ≤ the_end)
    order = let first = k.order in let last = k.low in subst (λ (e : Extent). (e.first ≤ e.last) × (e.first ≤ the_end))
        (sym (ranged_extent l k)) (first, omega (arith, first, last))

-- ---- the lines

module _ (head : Head) (r : Resource) (past : List Line) (h : List Entry) (stamp : Stamp) (t : ℕ) (all : HoldsAt head past)
    (tied : TargetBy head r past h) (object : ObjectBy head r past h)
    (ranges : (l : TableLock) → In l (server_of head.osts past).granted → HasRange l.ask.policy) where
  abbrev at : At
  at = turn stamp (Target t)

  -- all that is committed was told, but while a close shows its commit next
  pub committed_now : (e : word.Entry) → ShowsNext head past at e → (IsCommitting e → ⊥) → says.committed h
      ≡ (server_of head.osts past).committed.0
  committed_now e shows other = ⊎_elim (λ q. q) (λ p. absurd (by (closing_of head.clients past) refl p.1)) tied.committed
    where
      by : (es : List word.Entry) → closing_of head.clients past ≡ es → CommitsNext es → ⊥
      by [] q c = c
      by (x ∷ es) q c = other (subst IsCommitting (sym ((shows x es q).0 ∙ c.2)) tt)

  granted_ranged : (l : TableLock) → In l (server_of head.osts past).granted → Ranged l
  granted_ranged l i = let g = all.locks.granted l i in ranged l (ranges l i) (all.locks.kinds g.0 l g.1)

  -- what is granted in the story is granted there, where all that is granted is shown
  pub granted_there : IsServing head.osts past → shown_of past ≡ (server_of head.osts past).granted → (m : Lock) → IsGranted h m
      → (k : TableLock) × In k (server_of head.osts past).granted × (k.resource ≡ r) × (lock_of k ≡ m)
  granted_there serves shown m granted =
      let g = tied.granted m granted in (
        g.1,
        ⊎_elim (λ (i : In g.1 (server_of head.osts past).granted). i)
            (λ p. subst (λ (ls : List TableLock). In g.1 ls) shown (p.1 serves)) g.5,
        g.3,
        g.4,
      )

  pub free_there : IsServing head.osts past → shown_of past ≡ (server_of head.osts past).granted → (l : TableLock) → Ranged l
      → ((k : TableLock) → In k (server_of head.osts past).granted → l.resource ≡ k.resource → conflict l.ask k.ask ≡ false) → l.resource
      ≡ r → Free h (lock_of l)
  free_there serves shown l kind clear on m granted =
      let k = granted_there serves shown m granted in
      subst (λ (x : Lock). words.conflict (lock_of l) x ≡ false) k.3
      (conflict_is l k.0 kind (granted_ranged k.0 k.1) ∙ clear k.0 k.1 (on ∙ sym k.2))

  -- ---- who asks for a lock gets it

  module _ (lock : TableLock) (d : Deed) (ok : RangeOk head.osts past (turn stamp (Target t)) lock d)
      (shows : ShowsNext head past (turn stamp (Target t)) (word.Grant lock (Some d))) where
    abbrev wanted : TableLock
    wanted = lock_asked (server_of head.osts past) ok.request ok.resource ok.mode ok.extent

    abbrev behind : List TableLock
    behind = locks_on ok.resource (server_of head.osts past).queued

    wanted_ranged : Ranged (lock_asked (server_of head.osts past) ok.request ok.resource ok.mode ok.extent)
    wanted_ranged = let k = asked_kind head past ok.request ok.resource ok.mode ok.extent ok.waits ok.of_op all
        in record { extent = ok.extent; is = refl; order = k.0; low = k.1; mode = k.2 }

    lock_ranged : Ranged lock
    lock_ranged = subst Ranged (sym ok.of_lock) (grown_ranged (server_of head.osts past) behind wanted wanted_ranged)

    range_made : (o : words.Op) → op_of r h (op.Enqueue ok.resource ok.mode ok.extent) ≡ Some o → op_of r h ok.request.op ≡ Some o
        → guards.GrantOk h (request_as (number_of ok.request.who) ok.request.xid.0 o) (lock_of lock)
        (size_at (server_of head.osts past) ok.resource)
        (among (seen_in (range ok.resource (extent_of lock).first (extent_of lock).last) (server_of head.osts past).log))
    range_made o e f =
        let on = on_resource r h ok.resource (op.Enqueue ok.resource ok.mode ok.extent) o refl e in
        record {
          fresh = fresh_there head r past h all tied object ok.request ok.waits o f;
          life = ap (λ (l : TableLock). number_of l.ask.who) ok.of_lock;
          new = (let c : lock.cookie.0 ≡ (server_of head.osts past).cookie + 1 = ap (λ (l : TableLock). l.cookie.0) ok.of_lock in let top =
              tied.top in omega arith);
          asks = subst (λ (x : words.Op). Asks x (lock_of lock)) (enqueue_is r h ok.resource ok.mode ok.extent o e) (
            ap (λ (l : TableLock). is_write l.ask.mode) ok.of_lock,
            λ p c. subst (λ (l : TableLock). covers (lock_of l) p ≡ true) (sym ok.of_lock)
                (grown_covers (server_of head.osts past) behind wanted wanted_ranged p c),
          );
          free = free_there ok.serves ok.shown lock lock_ranged
              (λ k i q. subst (λ (l : TableLock). l.resource ≡ k.resource → conflict l.ask k.ask ≡ false) (sym ok.of_lock)
              (λ q. grown_clear (server_of head.osts past) behind wanted
              (asked_kind head past ok.request ok.resource ok.mode ok.extent ok.waits ok.of_op all)
              (or_parts (conflicts_with_any wanted.ask (asks_of (locks_on ok.resource (server_of head.osts past).granted)))
              (conflicts_with_any wanted.ask (asks_of behind)) ok.free).0 k i q)
              q)
              (ap (λ (l : TableLock). l.resource) ok.of_lock ∙ on);
          size = subst (λ (q : Resource). IsEnd h (size_at (server_of head.osts past) q)) (sym on)
              (ends_there head r past h all tied object);
          sees = subst (λ (q : Resource). Sees h (among (seen_in (range q (extent_of lock).first (extent_of lock).last)
              (server_of head.osts past).log)) (covers (lock_of lock))) (sym on)
              (sees_lock head r past h all tied object lock lock_ranged (committed_now (word.Grant lock (Some d)) shows (λ c. c)));
        }

    pub range_allowed : (o : words.Op) → op_of r h d.op ≡ Some o
        → guards.GrantOk h (asked_by d o) (lock_of lock) (size_in d.reply.answer) (among d.reply.seen)
    range_allowed o e =
        subst (λ (x : Deed). op_of r h x.op ≡ Some o → guards.GrantOk h (asked_by x o) (lock_of lock) (size_in x.reply.answer)
        (among x.reply.seen)) (sym ok.is)
        (λ f. subst
        (λ (y : Op). op_of r h y ≡ Some o → guards.GrantOk h (request_as (number_of ok.request.who) ok.request.xid.0 o) (lock_of lock)
        (size_at (server_of head.osts past) ok.resource)
        (among (seen_in (object_touches y (told.Granted lock.cookie (extent_of lock) (size_at (server_of head.osts past) ok.resource)))
        (server_of head.osts past).log)))
        (sym ok.of_op) (λ g. range_made o g f) f)
        e

  -- ---- or is told to wait

  module _ (lock : TableLock) (d : Deed) (ok : WaitOk head.osts past (turn stamp (Target t)) lock d) where
    wait_made : (o : words.Op) → op_of r h (op.Enqueue ok.resource ok.mode ok.extent) ≡ Some o → op_of r h ok.request.op ≡ Some o
        → guards.WaitOk h (request_as (number_of ok.request.who) ok.request.xid.0 o) (lock_of lock)
    wait_made o e f =
        record {
          fresh = fresh_there head r past h all tied object ok.request ok.waits o f;
          life = ap (λ (l : TableLock). number_of l.ask.who) ok.of_lock;
          new = (let c : lock.cookie.0 ≡ (server_of head.osts past).cookie + 1 = ap (λ (l : TableLock). l.cookie.0) ok.of_lock in let top =
              tied.top in omega arith);
          asks = subst (λ (x : words.Op). Asks x (lock_of lock)) (enqueue_is r h ok.resource ok.mode ok.extent o e) (
            ap (λ (l : TableLock). is_write l.ask.mode) ok.of_lock,
            λ p c. subst (λ (l : TableLock). covers (lock_of l) p ≡ true) (sym ok.of_lock) c,
          );
        }

    pub wait_allowed : (o : words.Op) → op_of r h d.op ≡ Some o → guards.WaitOk h (asked_by d o) (lock_of lock)
    wait_allowed o e =
        subst (λ (x : Deed). op_of r h x.op ≡ Some o → guards.WaitOk h (asked_by x o) (lock_of lock)) (sym ok.is)
        (λ f. wait_made o (subst (λ (y : Op). op_of r h y ≡ Some o) ok.of_op f) f)
        e

  -- ---- one that waited is granted

  module _ (lock : TableLock) (ok : PromoteOk head.osts past lock) (on : lock.resource ≡ r) where
    asked_waits : In ok.asked (server_of head.osts past).queued × (ok.asked.resource ≡ lock.resource)
    asked_waits =
        let i = in_filter (λ (l : TableLock). same_resource l.resource lock.resource) ok.asked (server_of head.osts past).queued
        (subst (λ (ls : List TableLock). In ok.asked ls) (sym ok.queue) (in_right ok.asked ok.ahead (ok.asked ∷ ok.later) (inl refl))) in
        (i.0, resource_is ok.asked.resource lock.resource i.1)

    asked_ranged : Ranged ok.asked
    asked_ranged = let q = all.locks.waits ok.asked asked_waits.0 in ranged ok.asked q.ranged q.kind

    promoted_ranged : Ranged lock
    promoted_ranged = subst Ranged (sym ok.of_lock) (grown_ranged (server_of head.osts past) (ok.ahead ++ ok.later) ok.asked asked_ranged)

    pub promote_allowed : guards.PromoteOk h (lock_of lock)
    promote_allowed =
        record {
          ahead = lock_of ok.asked;
          waits = tied.queued ok.asked asked_waits.0 (asked_waits.1 ∙ on);
          life = sym (ap (λ (l : TableLock). number_of l.ask.who) ok.of_lock);
          cookie = sym (ap (λ (l : TableLock). l.cookie.0) ok.of_lock);
          write = sym (ap (λ (l : TableLock). is_write l.ask.mode) ok.of_lock);
          covered = λ p c. subst (λ (l : TableLock). covers (lock_of l) p ≡ true) (sym ok.of_lock)
              (grown_covers (server_of head.osts past) (ok.ahead ++ ok.later) ok.asked asked_ranged p c);
          free = free_there ok.serves ok.shown lock promoted_ranged
              (λ k i q. subst (λ (l : TableLock). l.resource ≡ k.resource → conflict l.ask k.ask ≡ false) (sym ok.of_lock)
              (λ q. grown_clear (server_of head.osts past) (ok.ahead ++ ok.later) ok.asked
              (subst (λ (p : Policy). IsKind ok.asked.ask.mode p) (sym asked_ranged.is)
              (asked_ranged.order, asked_ranged.low, asked_ranged.mode))
              (subst (λ (q : Resource). conflicts_with_any ok.asked.ask (asks_of (locks_on q (server_of head.osts past).granted)) ≡ false)
              (sym asked_waits.1)
              (or_parts (conflicts_with_any ok.asked.ask (asks_of (locks_on lock.resource (server_of head.osts past).granted)))
              (conflicts_with_any ok.asked.ask (asks_of ok.ahead)) ok.free).0)
              k i q)
              q)
              on;
        }
