-- An answer about the object, once all that it brings is marked, makes of what a client keeps what it makes of the story.
use Rattle.std.proofs.Common.{◌≡◌, ℕ, suc, ◌+◌, ◌-◌, ◌*◌, ◌<◌, Bool, true, false, List, [], ◌∷◌, ◌++◌, length, Option, Some, None, ◌⊎◌, inl}
use Rattle.std.proofs.Common.{⊎_elim, refl, sym, subst, ap, ◌∙◌, arith}
use Rattle.std.specs.Prelude.{nat_eq, nat_lt, ◌&&◌, ◌%◌, if◌then◌else◌, drop, option_map}
use Rattle.std.specs.Option.{unwrap_or}
use Rattle.std.proofs.lemmas.Bool.{and_parts}
use Rattle.std.proofs.lemmas.Bool.Decides.{nat_tests}
use Rattle.lu_base.specs.declared.ids.Cookie.{Cookie}
use Rattle.lu_base.specs.declared.locks.Extent.{Extent}
use Rattle.lu_base.specs.declared.locks.Lock.{Lock as TableLock}
use Rattle.lu_base.specs.declared.locks.Mode.{Mode}
use Rattle.lu_base.specs.declared.locks.Policy.TheVariants.{Range}
use Rattle.lu_base.specs.declared.locks.Resource.{Resource}
use Rattle.lu_held.specs.declared.locks.HeldLock.{HeldLock}
use Rattle.lu_held.specs.Locks.{named, same_resource}
use Rattle.lu_spec_machine.specs.Places.{RisingFrom, laid}
use Rattle.lu_msg.specs.declared.answers.Answer.{Answer as TableAnswer}
use Rattle.lu_msg.specs.declared.answers.Answer.TheVariants as told
use Rattle.lu_msg.specs.declared.messages.Reply.{Reply as ReplyTo}
use Rattle.lu_msg.specs.declared.operations.Op.{Op as TableOp}
use Rattle.lu_msg.specs.declared.operations.Op.TheVariants as op
use Rattle.lu_spec_entries.specs.Words as word
use Rattle.lu_spec_client.specs.Bytes.{Bytes, zeroed, page_size}
use Rattle.lu_spec_client.specs.Caches.{patch_at, bytes_at, with_object, noted, with_note, size_kept, shown_to, granted_lock}
use Rattle.lu_spec_client.specs.Messages.{size_with, holds, held_as, page_heard, page_under, part_first, part_count, padded}
use Rattle.lu_spec_client.specs.Patches.{Patch, CutFlies, BytesFly, clean, acked}
use Rattle.lu_spec_client.specs.States.{Store, store_turn}
use Rattle.lu_proof_lawful.proofs.Preconditions.Heard.{In}
use Rattle.lu_proof_lawful.proofs.Preconditions.HeedMarks.{heeds_marks}
use Rattle.lu_proof_lawful.proofs.Preconditions.Lists.{self}
use Rattle.lu_proof_objects.proofs.Tables.{object_self}
use Rattle.lu_proof_bytes.specs.Object.Words.{Lock, Write, Cut, Op, Enqueue, Get, Flush, Size, Request, Answer, Granted, Content, Done}
use Rattle.lu_proof_bytes.specs.Object.Words.{Uncovered, Entry, Heard}
use Rattle.lu_proof_bytes.specs.Object.Folds as says
use Rattle.lu_proof_bytes.specs.Object.Folds.{HeldBy, Answered, flight}
use Rattle.lu_proof_bytes.specs.Object.Guards.{Named, in_run, AllAllowed}
use Rattle.lu_proof_bytes.proofs.Object.World.{World}
use Rattle.lu_proof_objects.specs.Points.{is_write, last_of}
use Rattle.lu_proof_lawful.specs.Projection.Locks.{lock_of}
use Rattle.lu_proof_lawful.specs.Projection.Messages.{request_as}
use Rattle.lu_proof_lawful.specs.Projection.Requests.{op_of, among, granted_as, bytes_from, top_from, answer_by}
use Rattle.lu_proof_lawful.specs.Projection.Stories.{with_entry}
use Rattle.lu_proof_lawful.proofs.Refinement.TiedStore.{StoreFits}
use Rattle.lu_proof_lawful.proofs.Refinement.PointsTables.{item_with, item_on, same_lock, noted_with}
use Rattle.lu_proof_lawful.proofs.Refinement.PointsKnown.{page_bytes, page_top}
use Rattle.lu_proof_lawful.proofs.Refinement.PointsContent.{content_top}
use Rattle.lu_proof_lawful.proofs.Refinement.StoreFolds.{StoreStays}
use Rattle.lu_proof_lawful.proofs.Refinement.StoreHolds.{end_reached}
use Rattle.lu_proof_lawful.proofs.Refinement.StoreKept.{fits_stays, fits_sizes, fits_put, fits_cut, fits_page, fits_page_shown}
use Rattle.lu_proof_lawful.proofs.Refinement.StoreMarks.{kept_elsewhere, NoHold, page_none, marks_none}

-- ---- answers that leave what is kept

heard_lock : (w xid first : ℕ) (write : Bool) (last : Option ℕ) (b : Answer) (h : List Entry)
    → StoreStays w h (Heard (request_as w xid (Enqueue write first last)) b ∷ h)
heard_lock w xid first write last b h =
    record {
      pending = rw (self w) refl;
      dirty = λ p. rw (self w) refl;
      flying = λ p. rw (self w) refl;
      known = λ p. rw (self w) refl;
      ends = λ j. rw (self w) refl;
      shown = λ j. rw (self w) refl;
      back = λ m i v. i;
      kept = λ m i v. i;
    }

heard_size : (w xid : ℕ) (b : Answer) (h : List Entry) → StoreStays w h (Heard (request_as w xid Size) b ∷ h)
heard_size w xid b h =
    record {
      pending = rw (self w) refl;
      dirty = λ p. rw (self w) refl;
      flying = λ p. rw (self w) refl;
      known = λ p. rw (self w) refl;
      ends = λ j. rw (self w) refl;
      shown = λ j. rw (self w) refl;
      back = λ m i v. i;
      kept = λ m i v. i;
    }

heard_nothing : (w xid k at n : ℕ) (h : List Entry) → StoreStays w h (Heard (request_as w xid (Get k at n)) Uncovered ∷ h)
heard_nothing w xid k at n h =
    record {
      pending = rw (self w) refl;
      dirty = λ p. rw (self w) refl;
      flying = λ p. rw (self w) refl;
      known = λ p. rw (self w) refl;
      ends = λ j. rw (self w) refl;
      shown = λ j. rw (self w) refl;
      back = λ m i v. i;
      kept = λ m i v. i;
    }

-- ---- by the operation that it answers

module _ (t : ℕ) (r : Resource) (w xid : ℕ) (h : List Entry) (world : World h) (all : AllAllowed h) (p : ReplyTo) (held : List HeldLock)
    (s z : Store)
    (fits : StoreFits t r (patch_at r z.patches) (bytes_at r z.bytes) z.sizes z.shown w [] h h) where
  -- what it owes, of an answer that brings no locks on names
  abbrev pub owing : TableOp → TableAnswer → List word.Entry
  owing o a = (holds t (size_with a) p.seen (granted_lock o p a) ++ []) ++ heeds_marks t o a held

  abbrev pub after : TableOp → TableAnswer → Store
  after o a = store_turn z (owing o a)

  abbrev pub heard_as : TableOp → TableAnswer → List Entry
  heard_as o a = with_entry (option_map (λ x. Heard (request_as w xid x) (answer_by w p x a)) (op_of r h o)) h

  abbrev pub Fits : TableOp → TableAnswer → List Entry → Type 0
  Fits o a k = StoreFits t r (patch_at r (after o a).patches) (bytes_at r (after o a).bytes) (after o a).sizes (after o a).shown w
      (owing o a) k k

  -- what the story says of it as it comes
  pub record Comes (x : Op) (b : Answer) : Type 0 where
    pub flies : flight w h ≡ Some (request_as w xid x)
    pub answered : Answered h w xid b

  stays : (q : Request) (b : Answer) → StoreStays w h (Heard q b ∷ h)
      → StoreFits t r (patch_at r z.patches) (bytes_at r z.bytes) z.sizes z.shown w [] (Heard q b ∷ h) (Heard q b ∷ h)
  stays q b st = fits_stays t r (patch_at r z.patches) (bytes_at r z.bytes) z.sizes z.shown w [] h h fits [] (Heard q b ∷ h) (Heard q b ∷ h)
      st (λ j. st.shown j) (λ e i. i)

  -- a lock
  pub hear_lock : (mode : Mode) (extent : Extent) (a : TableAnswer)
      → Comes (Enqueue (is_write mode) extent.first (last_of extent.last))
      (answer_by w p (Enqueue (is_write mode) extent.first (last_of extent.last)) a)
      → Fits (op.Enqueue r mode extent) a (Heard (request_as w xid (Enqueue (is_write mode) extent.first (last_of extent.last)))
      (answer_by w p (Enqueue (is_write mode) extent.first (last_of extent.last)) a) ∷ h)
  hear_lock mode extent (told.Granted cookie x size) comes =
      fits_sizes t r (patch_at r z.patches) (bytes_at r z.bytes) z.sizes z.shown w [] k k
      (stays q b (heard_lock w xid extent.first (is_write mode) (last_of extent.last) b h))
      (size_kept l (Some size) z.sizes) (word.Hold t l false (Some size) p.seen ∷ [])
      (λ m i v. kept_elsewhere r (record { 0 = m.cookie }) l (Some size) z.sizes (inl (apart m i v)))
      (λ lock marked n y i on last. ⊎_elim (λ e. mine lock marked n y e last) (λ j. absurd j) i)
    where
      l : TableLock
      l = record { cookie = cookie; resource = r; ask = record { who = p.who; mode = mode; policy = Range x } }

      q : Request
      q = request_as w xid (Enqueue (is_write mode) extent.first (last_of extent.last))

      b : Answer
      b = Granted (granted_as cookie.0 w (is_write mode) x) size (among p.seen)

      k : List Entry
      k = Heard q b ∷ h

      apart : (m : Lock) → HeldBy h m → m.life ≡ w → same_lock r r cookie (record { 0 = m.cookie }) ≡ false
      apart m i v = by (nat_eq cookie.0 m.cookie) refl
        where
          by : (u : Bool) → nat_eq cookie.0 m.cookie ≡ u → (same_resource r r && nat_eq cookie.0 m.cookie) ≡ false
          by false e = rw (object_self r) e
          by true e = absurd ((world.locks.held m i).coming q b (ap (λ (c : ℕ). flight c h) v ∙ comes.flies)
              (subst (λ (c : ℕ). Answered h c xid b) (sym v) comes.answered) e)

      mine : (lock : TableLock) (marked : Bool) (n : Option ℕ) (y : List ℕ) → word.Hold t l false (Some size) p.seen
          ≡ word.Hold t lock marked n y → (lock_of lock).last ≡ None → noted r lock.cookie (size_kept l (Some size) z.sizes)
          ≡ Some (unwrap_or n 0)
      mine lock marked n y e last =
          let same : l ≡ lock = cc in
          let number : Some size ≡ n = cc in
          let reached = end_reached l x refl (ap (λ (m : TableLock). (lock_of m).last) same ∙ last) in
          let here : noted r l.cookie (size_kept l (Some size) z.sizes) ≡ Some size =
          ap (λ (v : Bool). noted r l.cookie (if v then with_note r l.cookie size z.sizes else z.sizes)) reached
          ∙ noted_with r r cookie cookie size z.sizes ∙ rw (object_self r, self cookie.0) refl in
          ap (λ (m : TableLock). noted r m.cookie (size_kept l (Some size) z.sizes)) (sym same) ∙ here
          ∙ ap (λ (m : Option ℕ). Some (unwrap_or m 0)) number
  hear_lock mode extent a comes = stays (request_as w xid (Enqueue (is_write mode) extent.first (last_of extent.last)))
      (answer_by w p (Enqueue (is_write mode) extent.first (last_of extent.last)) a)
      (heard_lock w xid extent.first (is_write mode) (last_of extent.last)
      (answer_by w p (Enqueue (is_write mode) extent.first (last_of extent.last)) a) h)

  -- a size
  pub hear_size : (a : TableAnswer) → Fits (op.Size r) a (Heard (request_as w xid Size) (answer_by w p Size a) ∷ h)
  hear_size a = stays (request_as w xid Size) (answer_by w p Size a) (heard_size w xid (answer_by w p Size a) h)

  -- a write-back
  no_hold : (es : List word.Entry) → NoHold es → (lock : TableLock) (marked : Bool) (n : Option ℕ) (y : List ℕ)
      → In (word.Hold t lock marked n y) es → ⊥
  no_hold es none lock marked n y i = none t lock marked n y i

  pub hear_put : (cookie : Cookie) (at : ℕ) (bs : List ℕ) → 0 < length bs → RisingFrom 0 (patch_at r z.patches).dirty
      → (patch_at r z.patches).flight ≡ Some BytesFly
      → Fits (op.Put r cookie at bs) told.Done (Heard (request_as w xid (Flush cookie.0 (Write at bs))) (Done p.txn.0) ∷ h)
  hear_put cookie at bs some rises flies =
      subst (λ (x : Patch). StoreFits t r x (bytes_at r (after o told.Done).bytes) (after o told.Done).sizes (after o told.Done).shown w
      (owing o told.Done) k k) (sym (item_on clean r r acked z.patches refl ∙ rw (object_self r) refl))
      (subst (λ (x : Bytes). StoreFits t r (acked (patch_at r z.patches)) x (after o told.Done).sizes (after o told.Done).shown w
      (owing o told.Done) k k) (sym (item_with [] r r (laid at bs (bytes_at r z.bytes)) z.bytes ∙ rw (object_self r) refl))
      (fits_put t r (patch_at r z.patches) (bytes_at r z.bytes) z.sizes z.shown w [] h h fits
      (request_as w xid (Flush cookie.0 (Write at bs))) cookie.0 at p.txn.0 bs (owing o told.Done) refl refl refl some rises flies
      (no_hold (owing o told.Done) (marks_none t o told.Done held))))
    where
      o : TableOp
      o = op.Put r cookie at bs

      k : List Entry
      k = Heard (request_as w xid (Flush cookie.0 (Write at bs))) (Done p.txn.0) ∷ h

  pub hear_cut : (cookie : Cookie) (size : ℕ) → (patch_at r z.patches).flight ≡ Some (CutFlies size) → ((q : ℕ) → says.flying w h q ≡ false)
      → Fits (op.Cut r cookie size) told.Done (Heard (request_as w xid (Flush cookie.0 (Cut size))) (Done p.txn.0) ∷ h)
  hear_cut cookie size flies idle =
      subst (λ (x : Patch). StoreFits t r x (bytes_at r (after o told.Done).bytes) (after o told.Done).sizes (after o told.Done).shown w
      (owing o told.Done) k k) (sym (item_on clean r r acked z.patches refl ∙ rw (object_self r) refl))
      (subst (λ (x : Bytes). StoreFits t r (acked (patch_at r z.patches)) x (after o told.Done).sizes (after o told.Done).shown w
      (owing o told.Done) k k) (sym (item_on [] r r (zeroed size) z.bytes refl ∙ rw (object_self r) refl))
      (fits_cut t r (patch_at r z.patches) (bytes_at r z.bytes) z.sizes z.shown w [] h h fits (request_as w xid (Flush cookie.0 (Cut size)))
      cookie.0 size p.txn.0 (owing o told.Done) refl refl refl flies idle
      (no_hold (owing o told.Done) (marks_none t o told.Done held))))
    where
      o : TableOp
      o = op.Cut r cookie size

      k : List Entry
      k = Heard (request_as w xid (Flush cookie.0 (Cut size))) (Done p.txn.0) ∷ h

  -- a page, under a lock that is held
  pub record Under (cookie : Cookie) (x : Extent) : Type 0 where
    pub lock : TableLock
    pub is : held_as (named (record { 0 = t }) cookie) held ≡ Some lock
    pub range : lock.ask.policy ≡ Range x
    pub holds : Named (HeldBy h) w cookie.0

  pub hear_page : (cookie : Cookie) (page : ℕ) (x : Extent) (bs : List ℕ) → Under cookie x
      → Comes (Get cookie.0 (part_first page x) (part_count page x))
      (Content (bytes_from (part_first page x) (part_count page x) bs) (top_from (part_first page x) bs) (among p.seen))
      → Fits (op.Get r cookie page) (told.Content bs) (Heard (request_as w xid (Get cookie.0 (part_first page x) (part_count page x)))
      (Content (bytes_from (part_first page x) (part_count page x) bs) (top_from (part_first page x) bs) (among p.seen)) ∷ h)
  hear_page cookie page x bs under comes =
      subst (λ (es : List word.Entry). StoreFits t r (patch_at r (store_turn z es).patches) (bytes_at r (store_turn z es).bytes)
      (store_turn z es).sizes (store_turn z es).shown w es (k (top_from (part_first page x) bs)) (k (top_from (part_first page x) bs)))
      (sym (ap (page_heard r cookie page bs) under.is ∙ ap (page_under r cookie page bs) under.range))
      (by bs refl)
    where
      first : ℕ
      first = part_first page x

      count : ℕ
      count = part_count page x

      vs : List ℕ
      vs = bytes_from first count bs

      q : Request
      q = request_as w xid (Get cookie.0 first count)

      k : Option ℕ → List Entry
      k top = Heard q (Content vs top (among p.seen)) ∷ h

      filled : (ys : List ℕ) → ys ≡ bs → bytes_at r (with_object r
          (laid first (padded (drop (first - page * page_size) ys) count) (bytes_at r z.bytes)) z.bytes)
          ≡ laid first vs (bytes_at r z.bytes)
      filled ys e = item_with [] r r (laid first (padded (drop (first - page * page_size) ys) count) (bytes_at r z.bytes)) z.bytes
          ∙ rw (object_self r) (ap (λ (y : List ℕ). laid first y (bytes_at r z.bytes))
          (page_bytes page x ys ∙ ap (bytes_from first count) e))

      by : (ys : List ℕ) → ys ≡ bs
          → StoreFits t r (patch_at r (store_turn z (page_under r cookie page ys (Range x))).patches)
          (bytes_at r (store_turn z (page_under r cookie page ys (Range x))).bytes)
          (store_turn z (page_under r cookie page ys (Range x))).sizes (store_turn z (page_under r cookie page ys (Range x))).shown w
          (page_under r cookie page ys (Range x)) (k (top_from first bs)) (k (top_from first bs))
      by [] e =
          subst (λ (y : Bytes). StoreFits t r (patch_at r z.patches) y z.sizes z.shown w (page_under r cookie page [] (Range x))
          (k (top_from first bs)) (k (top_from first bs))) (sym (filled [] e))
          (subst (λ (top : Option ℕ). StoreFits t r (patch_at r z.patches) (laid first vs (bytes_at r z.bytes)) z.sizes z.shown w
          (page_under r cookie page [] (Range x)) (k top) (k top)) (ap (top_from first) e)
          (fits_page t r (patch_at r z.patches) (bytes_at r z.bytes) z.sizes z.shown w [] h h fits q cookie.0 first count vs (among p.seen)
          (page_under r cookie page [] (Range x)) refl refl refl
          (no_hold (page_under r cookie page [] (Range x)) (page_none r cookie page [] x))))
      by (y ∷ ys) e =
          let top : Some (page * page_size + length ys) ≡ top_from first bs = sym (page_top page x y ys some) ∙ ap (top_from first) e in
          subst (λ (v : Bytes). StoreFits t r (patch_at r z.patches) v z.sizes
          (with_note r cookie (shown_to (noted r cookie z.shown) (page * page_size + length ys)) z.shown) w
          (page_under r cookie page (y ∷ ys) (Range x)) (k (top_from first bs)) (k (top_from first bs))) (sym (filled (y ∷ ys) e))
          (subst (λ (v : Option ℕ). StoreFits t r (patch_at r z.patches) (laid first vs (bytes_at r z.bytes)) z.sizes
          (with_note r cookie (shown_to (noted r cookie z.shown) (page * page_size + length ys)) z.shown) w
          (page_under r cookie page (y ∷ ys) (Range x)) (k v) (k v)) top
          (fits_page_shown t r (patch_at r z.patches) (bytes_at r z.bytes) z.sizes z.shown w [] h h fits q cookie.0 first count
          (page * page_size + length ys) vs (among p.seen) (page_under r cookie page (y ∷ ys) (Range x)) refl refl refl under.holds
          (no_hold (page_under r cookie page (y ∷ ys) (Range x)) (page_none r cookie page (y ∷ ys) x))))
        where
          some : 0 < count
          some =
              let reached : in_run first count (first - first % page_size + length ys) ≡ true =
              content_top w cookie.0 first count (first - first % page_size + length ys) vs (among p.seen) h all q comes.flies refl
              (subst (λ (v : Option ℕ). Answered h w xid (Content vs v (among p.seen))) (ap (top_from first) (sym e)) comes.answered) in
              let parts = and_parts (nat_lt first (suc (first - first % page_size + length ys)))
              (nat_lt (first - first % page_size + length ys) (first + count)) reached in
              let a = parts.0 in
              let b = parts.1 in
              grind (arith, nat_tests, a, b)

  -- or what doesn't fit it
  pub hear_nothing : (cookie : Cookie) (page at n : ℕ) (a : TableAnswer) → ((bs : List ℕ) → a ≡ told.Content bs → ⊥)
      → Fits (op.Get r cookie page) a (Heard (request_as w xid (Get cookie.0 at n)) (answer_by w p (Get cookie.0 at n) a) ∷ h)
  hear_nothing cookie page at n (told.Content bs) other = absurd (other bs refl)
  hear_nothing cookie page at n a other = stays (request_as w xid (Get cookie.0 at n)) Uncovered (heard_nothing w xid cookie.0 at n h)
