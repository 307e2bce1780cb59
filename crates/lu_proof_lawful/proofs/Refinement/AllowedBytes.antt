-- What a target does under a granted lock of the asker is allowed in the story: a put or a cut is made as a transaction, and a page is
-- told.
use Rattle.std.proofs.Common.{◌≡◌, ℕ, zero, suc, ◌+◌, ◌-◌, ◌*◌, ◌≤◌, ◌<◌, Bool, true, false, List, [], ◌∷◌, Option, Some, None, ◌⊎◌, inl}
use Rattle.std.proofs.Common.{inr, ⊎_elim, refl, sym, subst, ap, ◌∙◌, arith, length, max, min}
use Rattle.std.specs.Prelude.{◌&&◌, if◌then◌else◌, nat_le, nat_lt, nat_eq, drop, slice_index}
use Rattle.std.specs.Option.{unwrap_or}
use Rattle.std.proofs.lemmas.Bool.{and_parts, leb-true, eqb-true, ltb-true}
use Rattle.std.proofs.lemmas.Bool.Decides.{nat_tests}
use Rattle.lu_base.specs.declared.ids.Node.TheVariants.{Target}
use Rattle.lu_base.specs.declared.ids.Stamp.{Stamp}
use Rattle.lu_base.specs.declared.ids.Cookie.{Cookie}
use Rattle.lu_base.specs.declared.ids.Who.{Who}
use Rattle.lu_base.specs.declared.locks.Extent.{Extent}
use Rattle.lu_base.specs.declared.locks.Lock.{Lock as TableLock}
use Rattle.lu_base.specs.declared.locks.Mode.{Mode}
use Rattle.lu_base.specs.declared.locks.Mode.TheVariants.{EX, PW, PR, CW, CR, NL}
use Rattle.lu_base.specs.declared.locks.Resource.{Resource}
use Rattle.lu_held.specs.Locks.{same_resource}
use Rattle.lu_lock.specs.Growth.{the_end}
use Rattle.lu_lock.specs.Modes.{serves}
use Rattle.lu_spec_machine.specs.Objects.{content, page_extent, page_size, range, object_touches}
use Rattle.lu_spec_machine.specs.Places.{found_at, is_in, RisingFrom}
use Rattle.lu_spec_machine.proofs.Objects.{get_reads}
use Rattle.lu_msg.specs.declared.answers.Answer.TheVariants as told
use Rattle.lu_msg.specs.declared.messages.Reply.{Reply as ReplyTo}
use Rattle.lu_msg.specs.declared.operations.Op.{Op}
use Rattle.lu_msg.specs.declared.operations.Op.TheVariants as op
use Rattle.lu_spec_entries.specs.Carried.{Deed}
use Rattle.lu_spec_entries.specs.Words.{Line, same_life}
use Rattle.lu_spec_target.specs.Objects.{lock_of as lock_named, put_extent, cut_extent}
use Rattle.lu_spec_target.specs.Queues.{extent_of}
use Rattle.lu_spec_target.specs.Replies.{seen_in, locks_on}
use Rattle.lu_spec_target.specs.Stored.{object_in}
use Rattle.lu_spec_client.specs.Messages.{padded, part_first, part_count}
use Rattle.lu_proof_lawful.specs.Covered.Heads.{Head}
use Rattle.lu_proof_lawful.specs.Covered.TargetStates.{none, server_of}
use Rattle.lu_proof_lawful.proofs.Preconditions.Guards.{In, HasRange}
use Rattle.lu_proof_lawful.proofs.Preconditions.ObjectGuards.{GoesUnder, WritesUnder}
use Rattle.lu_proof_lawful.proofs.Preconditions.StoryGuards.{WriteOk, PageOk}
use Rattle.lu_proof_lawful.proofs.Preconditions.Lists.{turn, in_filter, life_is}
use Rattle.lu_proof_lawful.proofs.Preconditions.ClientLines.{some_is}
use Rattle.lu_proof_lawful.proofs.Invariants.Groups.{HoldsAt}
use Rattle.lu_proof_bytes.specs.Object.Words as words
use Rattle.lu_proof_bytes.specs.Object.Words.{Lock, Change, Write, Cut, Flush, Get, Content, Entry, covers, changes, within, overlay, value}
use Rattle.lu_proof_bytes.specs.Object.Folds as says
use Rattle.lu_proof_bytes.specs.Object.Folds.{nothing_lost, is_some}
use Rattle.lu_proof_bytes.specs.Object.Guards as guards
use Rattle.lu_proof_bytes.specs.Object.Guards.{GrantedNumber, Sees, IsTop, in_run}
use Rattle.lu_proof_objects.specs.Points.{is_write}
use Rattle.lu_proof_lawful.specs.Projection.Lives.{number_of}
use Rattle.lu_proof_lawful.specs.Projection.Locks.{lock_of, given}
use Rattle.lu_proof_lawful.specs.Projection.Requests.{op_of, get_under, among, answer_by, answer_of, bytes_from, top_from}
use Rattle.lu_proof_lawful.specs.Projection.Messages.{request_as}
use Rattle.lu_proof_lawful.proofs.Refinement.TiedObject.{ObjectBy}
use Rattle.lu_proof_lawful.proofs.Refinement.TiedTarget.{TargetBy}
use Rattle.lu_proof_lawful.proofs.Refinement.TargetDeeds.{asked_by}
use Rattle.lu_proof_lawful.proofs.Refinement.PointsKnown.{range_is, page_bytes, page_top}
use Rattle.lu_proof_lawful.proofs.Refinement.AllowedBase.{parts_cover, Ranged, ranged, ranged_extent, sees_all, fresh_there, within_from}
use Rattle.lu_proof_lawful.proofs.Refinement.AllowedLocks.{resource_is, on_resource}

-- ---- the lock that is named

pub record NamedLock (w : Who) (k : Cookie) (locks : List TableLock) (l : TableLock) : Type 0 where
  pub among : In l locks
  pub cookie : l.cookie.0 ≡ k.0
  pub who : l.ask.who ≡ w

pub named_there : (who : Who) (cookie : Cookie) (locks : List TableLock) (l : TableLock) → lock_named who cookie locks ≡ Some l
    → NamedLock who cookie locks l
named_there who cookie [] l e = absurd (cc)
named_there who cookie (k ∷ locks) l e = by (nat_eq k.cookie.0 cookie.0 && same_life k.ask.who who) refl
    (λ f. named_there who cookie locks l f) e
  where
    by : (b : Bool) → (nat_eq k.cookie.0 cookie.0 && same_life k.ask.who who) ≡ b
        → (lock_named who cookie locks ≡ Some l → NamedLock who cookie locks l) → (if b then Some k else lock_named who cookie locks)
        ≡ Some l → NamedLock who cookie (k ∷ locks) l
    by true t more f =
        let same : k ≡ l = some_is k l f in
        let p = and_parts (nat_eq k.cookie.0 cookie.0) (same_life k.ask.who who) t in
        record {
          among = inl same;
          cookie = sym (ap (λ (x : TableLock). x.cookie.0) same) ∙ eqb-true k.cookie.0 cookie.0 p.0;
          who = sym (ap (λ (x : TableLock). x.ask.who) same) ∙ life_is k.ask.who who p.1;
        }
    by false t more f = let n = more f in record { among = inr n.among; cookie = n.cookie; who = n.who }

writes_mode : (m : Mode) → serves m PW ≡ true → is_write m ≡ true
writes_mode EX s = absurd (cc)
writes_mode PW s = refl
writes_mode PR s = absurd (cc)
writes_mode CW s = absurd (cc)
writes_mode CR s = absurd (cc)
writes_mode NL s = absurd (cc)

-- ---- a page's bytes

-- the bytes that are told of a run, each with what stands there
abbrev ToldAt : (at n p v : ℕ) → List ℕ → Type 0
ToldAt at n p v xs = (k : ℕ) × (p ≡ at + k) × (k < n) × (((k < length xs) × (slice_index xs k ≡ v)) ⊎ ((length xs ≤ k) × (v ≡ 0)))

padded_at : (at n p v : ℕ) (xs : List ℕ) → overlay at (padded xs n) p None ≡ Some v → ToldAt at n p v xs
padded_at at zero p v xs e = absurd (cc)
padded_at at (suc n) p v [] e = by (nat_eq at p) refl (λ f. padded_at (suc at) n p v [] f) e
  where
    by : (b : Bool) → nat_eq at p ≡ b → (overlay (suc at) (padded [] n) p None ≡ Some v → ToldAt (suc at) n p v [])
        → (if b then Some 0 else overlay (suc at) (padded [] n) p None) ≡ Some v → ToldAt at (suc n) p v []
    by true t more f = let same = eqb-true at p t in (0, omega (arith, same), omega arith, inr (omega arith, sym (some_is 0 v f)))
    by false t more f =
        let r = more f in
        let q = r.1 in
        let lt = r.2 in (
          suc r.0,
          omega (arith, q),
          omega (arith, lt),
          inr (
            omega arith,
            ⊎_elim (λ (z : (r.0 < 0) × (slice_index [] r.0 ≡ v)). absurd (let lt = z.0 in omega arith)) (λ (z : (0 ≤ r.0) × (v ≡ 0)). z.1)
                r.3,
          ),
        )
padded_at at (suc n) p v (x ∷ xs) e = by (nat_eq at p) refl (λ f. padded_at (suc at) n p v xs f) e
  where
    by : (b : Bool) → nat_eq at p ≡ b → (overlay (suc at) (padded xs n) p None ≡ Some v → ToldAt (suc at) n p v xs)
        → (if b then Some x else overlay (suc at) (padded xs n) p None) ≡ Some v → ToldAt at (suc n) p v (x ∷ xs)
    by true t more f = let same = eqb-true at p t in (0, omega (arith, same), omega arith, inl (omega arith, some_is x v f))
    by false t more f =
        let r = more f in
        let q = r.1 in
        let lt = r.2 in (
          suc r.0,
          omega (arith, q),
          omega (arith, lt),
          ⊎_elim
              (λ (z : (r.0 < length xs) × (slice_index xs r.0 ≡ v)). inl (let a = z.0 in omega arith, z.1))
              (λ (z : (length xs ≤ r.0) × (v ≡ 0)). inr (let a = z.0 in omega arith, z.1))
              r.3,
        )

-- what is left once the first are dropped
dropped_at : (n k m : ℕ) (xs : List ℕ) → n + k ≡ m → slice_index (drop n xs) k ≡ slice_index xs m
dropped_at zero k m xs e = ap (λ (j : ℕ). slice_index xs j) (omega (arith, e))
dropped_at (suc n) k zero xs e = absurd (omega arith)
dropped_at (suc n) k (suc m) [] e = refl
dropped_at (suc n) k (suc m) (x ∷ xs) e = dropped_at n k m xs (omega arith)

dropped_length : (n : ℕ) (xs : List ℕ) → length (drop n xs) ≡ length xs - n
dropped_length zero xs = omega arith
dropped_length (suc n) [] = omega arith
dropped_length (suc n) (x ∷ xs) = let e = dropped_length n xs in omega arith

padded_length : (n : ℕ) (xs : List ℕ) → length (padded xs n) ≡ n
padded_length zero xs = refl
padded_length (suc n) [] = ap suc (padded_length n [])
padded_length (suc n) (x ∷ xs) = ap suc (padded_length n xs)

value_is : (x : Option ℕ) → value x ≡ unwrap_or x 0
value_is None = refl
value_is (Some b) = refl

-- ---- the lines

module _ (head : Head) (r : Resource) (past : List Line) (h : List Entry) (stamp : Stamp) (t : ℕ) (all : HoldsAt head past)
    (tied : TargetBy head r past h) (object : ObjectBy head r past h)
    (ranges : (l : TableLock) → In l (server_of head.osts past).granted → HasRange l.ask.policy) where
  -- the lock that a request names is granted in the story, where it is on the object
  pub record Under (who : Who) (k : Cookie) (l : TableLock) : Type 0 where
    pub granted : In l (server_of head.osts past).granted
    pub there : says.IsGranted h (lock_of l)
    pub life : number_of l.ask.who ≡ number_of who
    pub cookie : l.cookie.0 ≡ k.0
    pub range : Ranged l
    pub on : l.resource ≡ r

  pub under_there : (who : Who) (cookie : Cookie) (q : Resource) (l : TableLock) → q ≡ r
      → lock_named who cookie (locks_on q (server_of head.osts past).granted) ≡ Some l → Under who cookie l
  under_there who cookie q l on e =
      let n = named_there who cookie (locks_on q (server_of head.osts past).granted) l e in
      let f = in_filter (λ (x : TableLock). same_resource x.resource q) l (server_of head.osts past).granted n.among in
      let here = resource_is l.resource q f.1 ∙ on in
      let g = all.locks.granted l f.0 in
      record {
        granted = f.0;
        there = tied.grants l f.0 here;
        life = ap number_of n.who;
        cookie = n.cookie;
        range = ranged l (ranges l f.0) (all.locks.kinds g.0 l g.1);
        on = here;
      }

  -- ---- a put or a cut

  goes_under : (who : Who) (q : Resource) (cookie : Cookie) (extent : Extent) (holder : TableLock) (ch : Change) → q ≡ r
      → GoesUnder (server_of head.osts past) who q cookie extent holder
      → ((p : ℕ) → changes ch p ≡ true → (extent.first ≤ p) × ((p ≤ extent.last) ⊎ (extent.last ≡ the_end)))
      → GrantedNumber h (number_of who) cookie.0 true (changes ch)
  goes_under who q cookie extent holder ch on u lies =
      let g = under_there who cookie q holder on u.found in
      let w = and_parts (nat_le (extent_of holder).first extent.first) (nat_le extent.last (extent_of holder).last) u.within in
      let first = leb-true (extent_of holder).first extent.first w.0 in
      let last = leb-true extent.last (extent_of holder).last w.1 in
      record {
        lock = lock_of holder;
        granted = g.there;
        life = g.life;
        cookie = g.cookie;
        mode = λ t. writes_mode holder.ask.mode u.mode;
        covered = λ p c. covers_it g p first last (lies p c);
      }
    where
      covers_it : Under who cookie holder → (p : ℕ) → (extent_of holder).first ≤ extent.first → extent.last ≤ (extent_of holder).last
          → (extent.first ≤ p) × ((p ≤ extent.last) ⊎ (extent.last ≡ the_end)) → covers (lock_of holder) p ≡ true
      covers_it g p first last lies =
          let low : (extent_of holder).last ≤ the_end = subst (λ (e : Extent). e.last ≤ the_end) (sym (ranged_extent holder g.range))
          g.range.low in
          let from = lies.0 in
          parts_cover holder.cookie.0 (number_of holder.ask.who) (is_write holder.ask.mode) (extent_of holder).first (extent_of holder).last
          p (omega arith)
          (⊎_elim (λ (le : p ≤ extent.last). inl (omega arith)) (λ (e : extent.last ≡ the_end). inr (omega (arith, e, last, low))) lies.1)

  write_under : (who : Who) (o : Op) (holder : TableLock) (x : words.Op) → WritesUnder (server_of head.osts past) who o holder → op_of r h o
      ≡ Some x
      → (k : ℕ) × (ch : Change) × (x ≡ Flush k ch) × GrantedNumber h (number_of who) k true (changes ch)
  write_under who (op.Put q cookie offset bytes) holder x u e = (
    cookie.0,
    Write offset bytes,
    sym (put_is (same_resource q r) e),
    goes_under who q cookie (put_extent offset bytes) holder (Write offset bytes)
        (on_resource r h q (op.Put q cookie offset bytes) x refl e) u
        (λ p c. let run = within_from offset bytes p c in (run.0, inl (let lt = run.1 in omega arith))),
  )
    where
      put_is : (b : Bool) → (if b then Some (Flush cookie.0 (Write offset bytes)) else None) ≡ Some x → Flush cookie.0 (Write offset bytes)
          ≡ x
      put_is true f = some_is _ x f
      put_is false f = absurd (cc)
  write_under who (op.Cut q cookie size) holder x u e = (
    cookie.0,
    Cut size,
    sym (cut_is (same_resource q r) e),
    goes_under who q cookie (cut_extent size) holder (Cut size) (on_resource r h q (op.Cut q cookie size) x refl e) u
        (λ p c. (let lt = ltb-true size (suc (suc p)) c in omega (arith, lt), inr refl)),
  )
    where
      cut_is : (b : Bool) → (if b then Some (Flush cookie.0 (Cut size)) else None) ≡ Some x → Flush cookie.0 (Cut size) ≡ x
      cut_is true f = some_is _ x f
      cut_is false f = absurd (cc)
  write_under who _ holder x u e = absurd u

  pub write_allowed : (d : Deed) (ok : WriteOk head.osts past (turn stamp (Target t)) d) (o : words.Op) → op_of r h d.op ≡ Some o
      → (k : ℕ) × (ch : Change) × guards.TxnOk h d.reply.txn.0 (asked_by d o) k ch
  write_allowed d ok o e =
      subst (λ (x : Deed). op_of r h x.op ≡ Some o → (k : ℕ) × (ch : Change) × guards.TxnOk h x.reply.txn.0 (asked_by x o) k ch) (sym ok.is)
      (λ f. let w = write_under ok.request.who ok.request.op ok.holder o ok.under f in (
        w.0,
        w.1,
        record {
          number = omega arith;
          fresh = fresh_there head r past h all tied object ok.request ok.waits o f;
          op = w.2;
          under =
              w.3;
        },
      ))
      e

  -- ---- a page

  module _ (d : Deed) (ok : PageOk head.osts past (turn stamp (Target t)) d)
      (rise : RisingFrom 0 (object_in (server_of head.osts past).objects r))
      (committed : says.committed h ≡ (server_of head.osts past).committed.0) where
    abbrev lock_range : Extent
    lock_range = extent_of ok.holder

    abbrev first : ℕ
    first = part_first ok.page (extent_of ok.holder)

    abbrev count : ℕ
    count = part_count ok.page (extent_of ok.holder)

    abbrev bytes : List ℕ
    bytes = content ok.page (extent_of ok.holder) (object_in (server_of head.osts past).objects r)

    module _ (on : ok.resource ≡ r) where
      under : Under ok.request.who ok.cookie ok.holder
      under = under_there ok.request.who ok.cookie ok.resource ok.holder on ok.found

      page_low : (extent_of ok.holder).last ≤ the_end
      page_low = subst (λ (e : Extent). e.last ≤ the_end) (sym (ranged_extent ok.holder under.range)) under.range.low

      met : (ok.page * page_size ≤ (extent_of ok.holder).last) × ((extent_of ok.holder).first ≤ ok.page * page_size + 4095)
      met = let m = leb-true (max (extent_of ok.holder).first (ok.page * page_size))
          (min (extent_of ok.holder).last (ok.page * page_size + 4095)) ok.meets in (omega arith, omega arith)

      -- a position of the run is one of the lock and of the page
      run_parts : (p : ℕ) → in_run first count p ≡ true → ((extent_of ok.holder).first ≤ p) × (p ≤ (extent_of ok.holder).last)
          × (ok.page * page_size ≤ p) × (p ≤ ok.page * page_size + 4095)
      run_parts p t =
          let q = and_parts (nat_lt first (suc p)) (nat_lt p (first + count)) t in
          let low = ltb-true first (suc p) q.0 in
          let high = ltb-true p (first + count) q.1 in
          (omega (arith, low), omega (arith, low, high), omega (arith, low), omega (arith, low, high))

      in_lock : (p : ℕ) → (extent_of ok.holder).first ≤ p → p ≤ (extent_of ok.holder).last → is_in (extent_of ok.holder) p ≡ true
      in_lock p a b = grind (arith, nat_tests, a, b)

      in_page : (p : ℕ) → ok.page * page_size ≤ p → p ≤ ok.page * page_size + 4095 → is_in (page_extent ok.page) p ≡ true
      in_page p a b = grind (arith, nat_tests, a, b)

      -- the bytes are those of the object
      reads_run : (p v : ℕ) → overlay first (padded (drop (first - ok.page * page_size) bytes) count) p None ≡ Some v
          → value (says.object nothing_lost h p) ≡ v
      reads_run p v e =
          let k = padded_at first count p v (drop (first - ok.page * page_size) bytes) e in
          let q = k.1 in
          let lt = k.2 in
          let parts = place p k.0 q lt in
          value_is (says.object nothing_lost h p) ∙ ap (λ (x : Option ℕ). unwrap_or x 0) (sym (object.now p))
          ∙ ⊎_elim
          (λ (z : (k.0 < length (drop (first - ok.page * page_size) bytes))
          × (slice_index (drop (first - ok.page * page_size) bytes) k.0 ≡ v)). known p v k.0 q parts z.0 z.1)
          (λ (z : (length (drop (first - ok.page * page_size) bytes) ≤ k.0) × (v ≡ 0)). absent p v k.0 q parts z.0 z.1)
          k.3
        where
          place : (p k : ℕ) → p ≡ first + k → k < count → ((extent_of ok.holder).first ≤ p) × (p ≤ (extent_of ok.holder).last)
              × (ok.page * page_size ≤ p) × (p ≤ ok.page * page_size + 4095)
          place p k q lt = (omega (arith, q), omega (arith, q, lt), omega (arith, q), omega (arith, q, lt))

          known : (p v k : ℕ) → p ≡ first + k → ((extent_of ok.holder).first ≤ p) × (p ≤ (extent_of ok.holder).last)
              × (ok.page * page_size ≤ p) × (p ≤ ok.page * page_size + 4095)
              → k < length (drop (first - ok.page * page_size) bytes) → slice_index (drop (first - ok.page * page_size) bytes) k ≡ v
              → unwrap_or (found_at (object_in (server_of head.osts past).objects r) p) 0 ≡ v
          known p v k q parts lt is =
              let reads = get_reads ok.page (extent_of ok.holder) (object_in (server_of head.osts past).objects r) rise in
              let n = dropped_length (first - ok.page * page_size) bytes in
              let at : ok.page * page_size + ((first - ok.page * page_size) + k) ≡ p = omega (arith, q) in
              let each = reads.each ((first - ok.page * page_size) + k) (omega (arith, lt, n)) in
              sym
              (sym is ∙ dropped_at (first - ok.page * page_size) k ((first - ok.page * page_size) + k) bytes refl ∙ each
              ∙ ap (λ (m : ℕ). if is_in (extent_of ok.holder) m
              then unwrap_or (found_at (object_in (server_of head.osts past).objects r) m) 0 else 0) at
              ∙ ap (λ (b : Bool). if b then unwrap_or (found_at (object_in (server_of head.osts past).objects r) p) 0 else 0)
              (in_lock p parts.0 parts.1))

          absent : (p v k : ℕ) → p ≡ first + k → ((extent_of ok.holder).first ≤ p) × (p ≤ (extent_of ok.holder).last)
              × (ok.page * page_size ≤ p) × (p ≤ ok.page * page_size + 4095)
              → length (drop (first - ok.page * page_size) bytes) ≤ k → v ≡ 0
              → unwrap_or (found_at (object_in (server_of head.osts past).objects r) p) 0 ≡ v
          absent p v k q parts le is =
              let reads = get_reads ok.page (extent_of ok.holder) (object_in (server_of head.osts past).objects r) rise in
              let n = dropped_length (first - ok.page * page_size) bytes in
              ap (λ (x : Option ℕ). unwrap_or x 0) (reads.past p (in_page p parts.2 parts.3) (in_lock p parts.0 parts.1)
              (omega (arith, q, le, n))) ∙ sym is

      reads : (p v : ℕ) → overlay first (bytes_from first count bytes) p None ≡ Some v → value (says.object nothing_lost h p) ≡ v
      reads p v e = reads_run p v (ap (λ (xs : List ℕ). overlay first xs p None) (page_bytes ok.page (extent_of ok.holder) bytes) ∙ e)

      -- and what is shown is there
      top : (xs : List ℕ) → bytes ≡ xs → IsTop h first count (top_from first xs)
      top [] e = tt
      top (b ∷ xs) e =
          let reads = get_reads ok.page (extent_of ok.holder) (object_in (server_of head.osts past).objects r) rise in
          let n : length bytes ≡ suc (length xs) = ap (λ (ys : List ℕ). length ys) e in
          let last = reads.last (omega (arith, n)) in
          let whole = reads.whole in
          let at : ok.page * page_size + length bytes - 1 ≡ ok.page * page_size + length xs = omega (arith, n) in
          let within : is_in (extent_of ok.holder) (ok.page * page_size + length xs) ≡ true =
          subst (λ (m : ℕ). is_in (extent_of ok.holder) m ≡ true) at last.0 in
          let parts = and_parts (nat_le (extent_of ok.holder).first (ok.page * page_size + length xs))
          (nat_le (ok.page * page_size + length xs) (extent_of ok.holder).last) within in
          let low = leb-true (extent_of ok.holder).first (ok.page * page_size + length xs) parts.0 in
          let high = leb-true (ok.page * page_size + length xs) (extent_of ok.holder).last parts.1 in
          let short : length xs < 4096 = omega (arith, n, whole) in
          let some : 0 < count = omega (arith, low, high, short) in
          subst (λ (x : Option ℕ). IsTop h first count x) (sym (page_top ok.page (extent_of ok.holder) b xs some)) (
            in_there (ok.page * page_size + length xs) low high (omega arith) (omega (arith, short)),
            ap is_some (sym (object.now (ok.page * page_size + length xs)))
                ∙ some_there (found_at (object_in (server_of head.osts past).objects r) (ok.page * page_size + length xs))
                (λ none. last.1 (ap (found_at (object_in (server_of head.osts past).objects r)) at ∙ none)),
          )
        where
          in_there : (p : ℕ) → (extent_of ok.holder).first ≤ p → p ≤ (extent_of ok.holder).last → ok.page * page_size ≤ p
              → p ≤ ok.page * page_size + 4095 → in_run first count p ≡ true
          in_there p a b c d =
              let low : first ≤ p = omega (arith, a, c) in
              let high : p < first + count = omega (arith, a, b, c, d) in
              grind (arith, nat_tests, low, high)

          some_there : (x : Option ℕ) → (x ≡ None → ⊥) → is_some x ≡ true
          some_there None never = absurd (never refl)
          some_there (Some b) never = refl

      pub page_ok : guards.ActsOk h (request_as (number_of ok.request.who) ok.request.xid.0 (Get ok.cookie.0 first count))
          (Content (bytes_from first count bytes) (top_from first bytes)
          (among (seen_in (range ok.resource (page_extent ok.page).first (page_extent ok.page).last) (server_of head.osts past).log)))
      page_ok = (
        ok.cookie.0,
        first,
        count,
        refl,
        ap (λ (xs : List ℕ). length xs) (sym (page_bytes ok.page (extent_of ok.holder) bytes))
            ∙ padded_length count (drop (first - ok.page * page_size) bytes),
        record {
          lock = lock_of ok.holder;
          granted = under.there;
          life = under.life;
          cookie = under.cookie;
          mode = λ e. absurd (cc);
          covered = λ p c. (let q = run_parts p c in parts_cover ok.holder.cookie.0 (number_of ok.holder.ask.who)
              (is_write ok.holder.ask.mode) (extent_of ok.holder).first (extent_of ok.holder).last p q.0 (inl q.1));
        },
        subst (λ (q : Resource). Sees h (among (seen_in (range q (page_extent ok.page).first (page_extent ok.page).last)
            (server_of head.osts past).log)) (in_run first count)) (sym on)
            (sees_all head r past h all tied object (ok.page * page_size) (ok.page * page_size + 4095) (in_run first count) (omega arith)
            (let m = met.0 in let low = page_low in omega (arith, m, low))
            (λ p c. let q = run_parts p c in (q.2, inl q.3)) committed),
        reads,
        top bytes refl,
      )

    -- the reply to such a request, by what it asked
    abbrev page_reply : Op → ReplyTo
    page_reply y =
        record {
          who = ok.request.who;
          boot = (server_of head.osts past).boot;
          xid = ok.request.xid;
          txn = none;
          committed = (server_of head.osts past).committed;
          seen = seen_in (object_touches y (told.Content (content ok.page (extent_of ok.holder)
              (object_in (server_of head.osts past).objects ok.resource)))) (server_of head.osts past).log;
          at = turn stamp (Target t);
          locks = [];
          answer = told.Content (content ok.page (extent_of ok.holder) (object_in (server_of head.osts past).objects ok.resource));
        }

    -- the run that is asked for goes as far as the lock
    get_is : ok.resource ≡ r → (o : words.Op) → op_of r h (op.Get ok.resource ok.cookie ok.page) ≡ Some o → Get ok.cookie.0 first count ≡ o
    get_is on o e =
        let u = under_there ok.request.who ok.cookie ok.resource ok.holder on ok.found in
        let g = all.locks.granted ok.holder u.granted in
        let is : given ok.cookie.0 h ≡ Some (lock_of ok.holder) = ap (λ (k : ℕ). given k h) (sym u.cookie)
        ∙ tied.gives g.0 ok.holder g.1 u.on in
        let got : get_under ok.cookie.0 ok.page (given ok.cookie.0 h) ≡ o = by (same_resource ok.resource r) e in
        ap (λ (x : Extent). Get ok.cookie.0 (part_first ok.page x) (part_count ok.page x))
        (sym (range_is ok.holder.cookie.0 (number_of ok.holder.ask.who) ok.holder.ask.mode (extent_of ok.holder)))
        ∙ ap (λ (x : Option Lock). get_under ok.cookie.0 ok.page x) (sym is) ∙ got
      where
        by : (b : Bool) → (if b then Some (get_under ok.cookie.0 ok.page (given ok.cookie.0 h)) else None) ≡ Some o
            → get_under ok.cookie.0 ok.page (given ok.cookie.0 h) ≡ o
        by true f = some_is _ o f
        by false f = absurd (cc)

    of_get : (o : words.Op) → op_of r h (op.Get ok.resource ok.cookie ok.page) ≡ Some o
        → guards.ActsOk h (request_as (number_of ok.request.who) ok.request.xid.0 o)
        (answer_by (number_of ok.request.who) (page_reply (op.Get ok.resource ok.cookie ok.page)) o
        (told.Content (content ok.page (extent_of ok.holder) (object_in (server_of head.osts past).objects ok.resource))))
    of_get o e =
        let on = on_resource r h ok.resource (op.Get ok.resource ok.cookie ok.page) o refl e in
        subst
        (λ (x : words.Op). guards.ActsOk h (request_as (number_of ok.request.who) ok.request.xid.0 x)
        (answer_by (number_of ok.request.who) (page_reply (op.Get ok.resource ok.cookie ok.page)) x
        (told.Content (content ok.page (extent_of ok.holder) (object_in (server_of head.osts past).objects ok.resource)))))
        (get_is on o e)
        (subst
        (λ (q : Resource). guards.ActsOk h (request_as (number_of ok.request.who) ok.request.xid.0 (Get ok.cookie.0 first count))
        (Content (bytes_from first count (content ok.page (extent_of ok.holder) (object_in (server_of head.osts past).objects q)))
        (top_from first (content ok.page (extent_of ok.holder) (object_in (server_of head.osts past).objects q)))
        (among (seen_in (range ok.resource (page_extent ok.page).first (page_extent ok.page).last) (server_of head.osts past).log))))
        (sym on) (page_ok on))

    pub page_allowed : (o : words.Op) → op_of r h d.op ≡ Some o → guards.Fresh h (asked_by d o)
        × guards.ActsOk h (asked_by d o) (answer_of (asked_by d o) d.reply)
    page_allowed o e =
        subst (λ (x : Deed). op_of r h x.op ≡ Some o → guards.Fresh h (asked_by x o)
        × guards.ActsOk h (asked_by x o) (answer_of (asked_by x o) x.reply)) (sym ok.is)
        (λ f. (
          fresh_there head r past h all tied object ok.request ok.waits o f,
          subst
              (λ (y : Op). op_of r h y ≡ Some o → guards.ActsOk h (request_as (number_of ok.request.who) ok.request.xid.0 o)
              (answer_by (number_of ok.request.who) (page_reply y) o
              (told.Content (content ok.page (extent_of ok.holder) (object_in (server_of head.osts past).objects ok.resource)))))
              (sym ok.of_op) (λ g. of_get o g) f,
        ))
        e
