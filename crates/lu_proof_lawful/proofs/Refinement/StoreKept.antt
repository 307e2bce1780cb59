-- What a client keeps of an object goes with the story: where both stay, and where the client's own entry changes both.
use Rattle.std.proofs.Common.{◌≡◌, ℕ, ◌<◌, ◌+◌, ◌-◌, Bool, true, false, List, [], ◌∷◌, length, Option, Some, None, ◌⊎◌, inr, ⊎_elim, refl}
use Rattle.std.proofs.Common.{sym, subst, ap, ◌∙◌, arith}
use Rattle.std.specs.Prelude.{nat_eq, ◌&&◌, ◌||◌, if◌then◌else◌, option_map}
use Rattle.std.specs.Option.{unwrap_or}
use Rattle.std.proofs.lemmas.Bool.{eqb-true, eqb-false}
use Rattle.std.proofs.lemmas.Bool.Decides.{nat_tests}
use Rattle.lu_base.specs.declared.locks.Extent.{Extent}
use Rattle.lu_base.specs.declared.locks.Lock.{Lock as TableLock}
use Rattle.lu_base.specs.declared.locks.Mode.{Mode}
use Rattle.lu_base.specs.declared.locks.Resource.{Resource}
use Rattle.lu_spec_machine.specs.Places.{RisingFrom, laid}
use Rattle.lu_spec_entries.specs.declared.changes.Flush.{Flush}
use Rattle.lu_spec_entries.specs.declared.changes.Flush.TheVariants as flush
use Rattle.lu_spec_entries.specs.Words as word
use Rattle.lu_spec_client.specs.Bytes.{Bytes, outside, zeroed}
use Rattle.lu_spec_client.specs.Caches.{Note, noted, with_note, without_note, grown, grown_notes, shown_to, made}
use Rattle.lu_spec_client.specs.Patches.{Patch, CutFlies, BytesFly, flown, acked}
use Rattle.lu_proof_lawful.proofs.Preconditions.Heard.{In}
use Rattle.lu_proof_lawful.proofs.Preconditions.Lists.{self}
use Rattle.lu_proof_bytes.specs.Object.Words.{Lock, Write, Cut, Get, Flush as Flushes, Request, Content, Done, Entry, Takes, Heard, Hold}
use Rattle.lu_proof_bytes.specs.Object.Words.{Drop, Tells, Did, covers, overlay}
use Rattle.lu_proof_bytes.specs.Object.Folds as says
use Rattle.lu_proof_bytes.specs.Object.Folds.{HeldBy, cut_acked, end_acked, most, shown_write, taken_by}
use Rattle.lu_proof_bytes.specs.Object.Guards.{Named}
use Rattle.lu_proof_objects.specs.Points.{change_of, dirty_at, flying_at, lock_at}
use Rattle.lu_proof_objects.specs.Alike.{Carries}
use Rattle.lu_proof_objects.proofs.Patches.{patch_made, patch_taken, bytes_acked, cut_acks}
use Rattle.lu_proof_lawful.specs.Projection.Locks.{lock_of}
use Rattle.lu_proof_lawful.proofs.Refinement.TiedStore.{HoldsNone, StoreFits, unless_put}
use Rattle.lu_proof_lawful.proofs.Refinement.StoreFolds.{StoreStays}
use Rattle.lu_proof_objects.proofs.Tables.{object_self}
use Rattle.lu_proof_lawful.proofs.Refinement.PointsTables.{same_lock, noted_with, noted_without, noted_grown}
use Rattle.lu_proof_lawful.proofs.Refinement.PointsKnown.{fills_known, zeroes_known, drops_known, grown_end, shown_more, shown_bytes}

module _ (t : ℕ) (r : Resource) (own : Patch) (bytes : Bytes) (sizes notes : List Note) (w : ℕ) (owed : List word.Entry)
    (h before : List Entry) (fits : StoreFits t r own bytes sizes notes w owed h before) where
  -- ---- another's entry, or none

  pub fits_stays : (left : List word.Entry) (k now : List Entry) → StoreStays w h k → ((j : ℕ) → says.shown w j now ≡ says.shown w j before)
      → ((e : word.Entry) → In e left → In e owed) → StoreFits t r own bytes sizes notes w left k now
  fits_stays left k now s same less =
      record {
        patch = record {
          pending = fits.patch.pending ∙ sym s.pending;
          dirty = λ p. fits.patch.dirty p ∙ sym (s.dirty p);
          flying =
              λ p. fits.patch.flying p ∙ sym (s.flying p);
        };
        known = λ p low. fits.known p low ∙ sym (s.known p);
        ends = λ l i v last. fits.ends l (s.back l i v) v last ∙ sym (s.ends l.cookie);
        shown = λ l i v. fits.shown l (s.back l i v) v ∙ sym (same l.cookie);
        unshown = λ k none. fits.unshown k (λ l i v c. none l (s.kept l i v) v c);
        coming = λ lock marked size seen i. fits.coming lock marked size seen (less (word.Hold t lock marked size seen) i);
      }

  -- ---- it changes the object

  pub fits_told : (change : Flush) (j : ℕ) → before ≡ h → owed ≡ []
      → StoreFits t r (made change own) bytes sizes notes w [] (Tells w (Did j (change_of change)) ∷ h)
      (unless_put change (Tells w (Did j (change_of change)) ∷ h))
  fits_told change j same none =
      record {
        patch = record {
          pending = (patch_made change own 0).pending ∙ ap (says.cut_by (change_of change)) fits.patch.pending ∙ rw (self w) refl;
          dirty = λ p. (patch_made change own p).dirty ∙ ap (λ (q : Option ℕ). says.dirty_by (change_of change) q p (dirty_at own p))
              fits.patch.pending
              ∙ ap (says.dirty_by (change_of change) (says.pending w h) p) (fits.patch.dirty p) ∙ rw (self w) refl;
          flying = λ p. (patch_made change own p).flying ∙ ap (says.flying_by (change_of change) p) (fits.patch.flying p)
              ∙ rw (self w) refl;
        };
        known = fits.known;
        ends = fits.ends;
        shown = λ l i v. fits.shown l i v ∙ ap (says.shown w l.cookie) same ∙ still change l.cookie;
        unshown = fits.unshown;
        coming = λ lock marked size seen i. absurd i;
      }
    where
      still : (change : Flush) (k : ℕ) → says.shown w k h ≡ says.shown w k (unless_put change (Tells w (Did j (change_of change)) ∷ h))
      still (flush.Put at bs) k = refl
      still (flush.Cut n) k = by (nat_eq w w && nat_eq k j)
        where
          by : (b : Bool) → says.shown w k h ≡ (if b then says.shown w k h else says.shown w k h)
          by true = refl
          by false = refl

  -- ---- it takes a change to write it back

  pub fits_taken : (change : Flush) (j : ℕ) → before ≡ h → owed ≡ [] → Carries own change → ((p : ℕ) → says.flying w h p ≡ false)
      → StoreFits t r (flown change own) bytes sizes notes w [] (Takes w j (change_of change) ∷ h) (Takes w j (change_of change) ∷ h)
  fits_taken change j same none carries idle =
      record {
        patch = record {
          pending = (patch_taken change own 0 carries).pending ∙ fits.patch.pending;
          dirty = λ p. (patch_taken change own p carries).dirty ∙ fits.patch.dirty p;
          flying = λ p. (patch_taken change own p carries).flying ∙ flies p;
        };
        known = fits.known;
        ends = fits.ends;
        shown = λ l i v. fits.shown l i v ∙ ap (says.shown w l.cookie) same;
        unshown = fits.unshown;
        coming = λ lock marked size seen i. absurd i;
      }
    where
      or_none : (b : Bool) → (b || false) ≡ b
      or_none true = refl
      or_none false = refl

      flies : (p : ℕ) → (taken_by (change_of change) p || flying_at own p) ≡ says.flying w (Takes w j (change_of change) ∷ h) p
      flies p = rw (fits.patch.flying p, idle p, self w) (or_none (taken_by (change_of change) p))

  -- ---- bytes that it just wrote are shown

  pub fits_shown : (j at : ℕ) (bs : List ℕ) (h0 : List Entry) → h ≡ Tells w (Did j (Write at bs)) ∷ h0 → before ≡ h0 → 0 < length bs
      → Named (HeldBy h) w j
      → StoreFits t r own bytes sizes (with_note r (record { 0 = j }) (shown_to (noted r (record { 0 = j }) notes) (at + length bs - 1))
      notes) w [] h h
  fits_shown j at bs h0 is was some under =
      record {
        patch = fits.patch;
        known = fits.known;
        ends = fits.ends;
        shown = λ l i v. noted_with r r (record { 0 = j }) (record { 0 = l.cookie }) last notes
            ∙ here l (nat_eq j l.cookie) refl (old l i v) ∙ ap (says.shown w l.cookie) (sym is);
        unshown = λ k none. noted_with r r (record { 0 = j }) (record { 0 = k }) last notes ∙ none_of k none (nat_eq j k) refl;
        coming = λ lock marked size seen i. absurd i;
      }
    where
      last : ℕ
      last = shown_to (noted r (record { 0 = j }) notes) (at + length bs - 1)

      old : (l : Lock) → HeldBy h l → l.life ≡ w → noted r (record { 0 = l.cookie }) notes ≡ says.shown w l.cookie h0
      old l i v = fits.shown l i v ∙ ap (says.shown w l.cookie) was

      run : (bs : List ℕ) (x : Option ℕ) → 0 < length bs → Some (shown_to x (at + length bs - 1)) ≡ shown_write (Write at bs) x
      run [] x some = absurd (omega (arith, some))
      run (b ∷ bs) x some = shown_bytes at b bs x

      here : (l : Lock) (v : Bool) → nat_eq j l.cookie ≡ v → noted r (record { 0 = l.cookie }) notes ≡ says.shown w l.cookie h0
          → (if same_lock r r (record { 0 = j }) (record { 0 = l.cookie }) then Some last else noted r (record { 0 = l.cookie }) notes)
          ≡ says.shown w l.cookie (Tells w (Did j (Write at bs)) ∷ h0)
      here l true e o =
          let same : j ≡ l.cookie = eqb-true j l.cookie e in
          let turned : nat_eq l.cookie j ≡ true = ap (λ (n : ℕ). nat_eq l.cookie n) same ∙ self l.cookie in
          rw (object_self r, e, self w, turned) (run bs (noted r (record { 0 = j }) notes) some
          ∙ ap (λ (n : ℕ). shown_write (Write at bs) (noted r (record { 0 = n }) notes)) same ∙ ap (shown_write (Write at bs)) o)
      here l false e o = let turned : nat_eq l.cookie j ≡ false = grind (arith, nat_tests, e) in rw (object_self r, e, self w, turned) o

      none_of : (k : ℕ) → HoldsNone h w k → (v : Bool) → nat_eq j k ≡ v
          → (if same_lock r r (record { 0 = j }) (record { 0 = k }) then Some last else noted r (record { 0 = k }) notes) ≡ None
      none_of k none true e = absurd (none under.0 under.1 under.2 (under.3 ∙ eqb-true j k e))
      none_of k none false e = rw (object_self r, e) (fits.unshown k none)

  -- ---- it comes to hold a lock

  pub fits_hold : (m : Lock) (size : ℕ) (seen : ℕ → Bool) (now : List Note) (left : List word.Entry) → before ≡ h → m.life ≡ w
      → ((l : Lock) → HeldBy h l → l.life ≡ w → l.cookie ≡ m.cookie → ⊥)
      → (m.last ≡ None → noted r (record { 0 = m.cookie }) now ≡ Some size)
      → ((l : Lock) → HeldBy h l → l.life ≡ w → noted r (record { 0 = l.cookie }) now ≡ noted r (record { 0 = l.cookie }) sizes)
      → ((lock : TableLock) (marked : Bool) (n : Option ℕ) (s : List ℕ) → In (word.Hold t lock marked n s) left → lock.resource ≡ r
      → (lock_of lock).last ≡ None → noted r lock.cookie now ≡ Some (unwrap_or n 0))
      → StoreFits t r own bytes now notes w left (Hold m size seen ∷ h) (Hold m size seen ∷ h)
  fits_hold m size seen now left same life new mine others coming =
      record {
        patch = record { pending = fits.patch.pending; dirty = fits.patch.dirty; flying = fits.patch.flying };
        known = fits.known;
        ends = λ l i v last. ⊎_elim
            (λ (e : m ≡ l). subst (λ (x : Lock). noted r (record { 0 = x.cookie }) now ≡ says.ends w x.cookie (Hold m size seen ∷ h)) e
            (mine (ap (λ (x : Lock). x.last) e ∙ last) ∙ rw (life, self w, self m.cookie) refl))
            (λ (j : HeldBy h l). others l j v ∙ fits.ends l j v last ∙ rw (apart l j v, either (nat_eq w m.life)) refl)
            i;
        shown = λ l i v. ⊎_elim
            (λ (e : m ≡ l). subst (λ (x : Lock). noted r (record { 0 = x.cookie }) notes ≡ says.shown w x.cookie (Hold m size seen ∷ h)) e
            (fits.unshown m.cookie new ∙ rw (life, self w, self m.cookie) refl))
            (λ (j : HeldBy h l). fits.shown l j v ∙ ap (says.shown w l.cookie) same ∙ rw (apart l j v, either (nat_eq w m.life)) refl)
            i;
        unshown = λ k none. fits.unshown k (λ l i v c. none l (inr i) v c);
        coming = coming;
      }
    where
      apart : (l : Lock) → HeldBy h l → l.life ≡ w → nat_eq l.cookie m.cookie ≡ false
      apart l i v = by (nat_eq l.cookie m.cookie) refl
        where
          by : (b : Bool) → nat_eq l.cookie m.cookie ≡ b → b ≡ false
          by true e = absurd (new l i v (eqb-true l.cookie m.cookie e))
          by false e = refl

      either : (b : Bool) → (b && false) ≡ false
      either true = refl
      either false = refl

  -- ---- it gives one up

  pub fits_drop : (cookie : ℕ) (mode : Mode) (x : Extent) → before ≡ h
      → StoreFits t r own (outside x bytes) (without_note r (record { 0 = cookie }) sizes) (without_note r (record { 0 = cookie }) notes) w
      [] (Drop (lock_at cookie w mode x) ∷ h) (Drop (lock_at cookie w mode x) ∷ h)
  fits_drop cookie mode x same =
      record {
        patch = record { pending = fits.patch.pending; dirty = fits.patch.dirty; flying = fits.patch.flying };
        known = λ p low. drops_known cookie w mode x bytes p low
            ∙ rw (self w) (ap (λ (v : Option ℕ). if covers (lock_at cookie w mode x) p then None else v) (fits.known p low));
        ends = λ l i v last. without sizes l i.0 ∙ fits.ends l i.1 v last;
        shown = λ l i v. without notes l i.0 ∙ fits.shown l i.1 v ∙ ap (says.shown w l.cookie) same;
        unshown = λ k none. noted_without r r (record { 0 = cookie }) (record { 0 = k }) notes ∙ none_of k none (nat_eq cookie k) refl;
        coming = λ lock marked size seen i. absurd i;
      }
    where
      without : (ns : List Note) (l : Lock) → (cookie ≡ l.cookie → ⊥)
          → noted r (record { 0 = l.cookie }) (without_note r (record { 0 = cookie }) ns) ≡ noted r (record { 0 = l.cookie }) ns
      without ns l other = noted_without r r (record { 0 = cookie }) (record { 0 = l.cookie }) ns ∙ by (nat_eq cookie l.cookie) refl
        where
          by : (b : Bool) → nat_eq cookie l.cookie ≡ b → (if same_lock r r (record { 0 = cookie }) (record { 0 = l.cookie }) then None
              else noted r (record { 0 = l.cookie }) ns) ≡ noted r (record { 0 = l.cookie }) ns
          by true e = absurd (other (eqb-true cookie l.cookie e))
          by false e = rw (object_self r, e) refl

      none_of : (k : ℕ) → HoldsNone (Drop (lock_at cookie w mode x) ∷ h) w k → (b : Bool) → nat_eq cookie k ≡ b
          → (if same_lock r r (record { 0 = cookie }) (record { 0 = k }) then None else noted r (record { 0 = k }) notes) ≡ None
      none_of k none true e = rw (object_self r, e) refl
      none_of k none false e = rw (object_self r, e) (fits.unshown k
          (λ l i v c. none l (λ q. absurd (eqb-false cookie k e (q ∙ c)), i) v c))

  -- ---- an answer comes

  -- of a lock or a size: the object's end may come with it
  pub fits_sizes : (now : List Note) (left : List word.Entry) → ((l : Lock) → HeldBy h l → l.life ≡ w
      → noted r (record { 0 = l.cookie }) now ≡ noted r (record { 0 = l.cookie }) sizes)
      → ((lock : TableLock) (marked : Bool) (n : Option ℕ) (s : List ℕ) → In (word.Hold t lock marked n s) left → lock.resource ≡ r
      → (lock_of lock).last ≡ None → noted r lock.cookie now ≡ Some (unwrap_or n 0))
      → StoreFits t r own bytes now notes w left h before
  fits_sizes now left others coming =
      record {
        patch = fits.patch;
        known = fits.known;
        ends = λ l i v last. others l i v ∙ fits.ends l i v last;
        shown = fits.shown;
        unshown = fits.unshown;
        coming = coming;
      }

  -- of bytes that were written back
  pub fits_put : (q : Request) (j at n : ℕ) (bs : List ℕ) (left : List word.Entry) → before ≡ h → q.life ≡ w → q.op
      ≡ Flushes j (Write at bs) → 0 < length bs → RisingFrom 0 own.dirty → own.flight ≡ Some BytesFly
      → ((lock : TableLock) (marked : Bool) (n : Option ℕ) (s : List ℕ) → In (word.Hold t lock marked n s) left → ⊥)
      → StoreFits t r (acked own) (laid at bs bytes) (grown_notes r (flush.Put at bs) sizes) notes w left (Heard q (Done n) ∷ h)
      (Heard q (Done n) ∷ h)
  fits_put q j at n bs left same life op some rises flies none =
      record {
        patch = record {
          pending = (bytes_acked own 0 rises flies).pending ∙ fits.patch.pending ∙ rw (life, self w, op) refl;
          dirty = λ p. (bytes_acked own p rises flies).dirty ∙ ap (λ (f : Bool). if f then None else dirty_at own p) (fits.patch.flying p)
              ∙ ap (λ (d : Option ℕ). if says.flying w h p then None else d) (fits.patch.dirty p) ∙ rw (life, self w, op) refl;
          flying = λ p. (bytes_acked own p rises flies).flying ∙ rw (life, self w, op) refl;
        };
        known = λ p low. fills_known at bs bytes p ∙ ap (overlay at bs p) (fits.known p low) ∙ rw (life, self w, op) refl;
        ends = λ l i v last. noted_grown r r (record { 0 = l.cookie }) (flush.Put at bs) sizes
            ∙ rw (object_self r, fits.ends l i v last, life, self w, op) (grows (says.ends w l.cookie h));
        shown = λ l i v. fits.shown l i v ∙ ap (says.shown w l.cookie) same ∙ rw (life, self w, op) refl;
        unshown = fits.unshown;
        coming = λ lock marked m s i. absurd (none lock marked m s i);
      }
    where
      grows : (x : Option ℕ) → option_map (grown (flush.Put at bs)) x ≡ end_acked (Flushes j (Write at bs)) (Done n) x
      grows None = refl
      grows (Some e) = ap Some (grown_end (flush.Put at bs) e (λ a q. let z : bs ≡ [] = cc in let c = ap length z
          in absurd (omega (arith, some, c))))

  -- of a cut
  pub fits_cut : (q : Request) (j size n : ℕ) (left : List word.Entry) → before ≡ h → q.life ≡ w → q.op ≡ Flushes j (Cut size) → own.flight
      ≡ Some (CutFlies size) → ((p : ℕ) → says.flying w h p ≡ false)
      → ((lock : TableLock) (marked : Bool) (n : Option ℕ) (s : List ℕ) → In (word.Hold t lock marked n s) left → ⊥)
      → StoreFits t r (acked own) (zeroed size bytes) (grown_notes r (flush.Cut size) sizes) notes w left (Heard q (Done n) ∷ h)
      (Heard q (Done n) ∷ h)
  fits_cut q j size n left same life op flies idle none =
      record {
        patch = record {
          pending = (cut_acks own size 0 j n flies).pending ∙ ap (cut_acked (Flushes j (Cut size)) (Done n)) fits.patch.pending
              ∙ rw (life, self w, op) refl;
          dirty = λ p. (cut_acks own size p j n flies).dirty ∙ fits.patch.dirty p ∙ rw (life, self w, op) refl;
          flying = λ p. (cut_acks own size p j n flies).flying ∙ fits.patch.flying p ∙ idle p ∙ rw (life, self w, op) refl;
        };
        known = λ p low. zeroes_known size bytes p ∙ rw (fits.known p low, life, self w, op) refl;
        ends = λ l i v last. noted_grown r r (record { 0 = l.cookie }) (flush.Cut size) sizes
            ∙ rw (object_self r, fits.ends l i v last, life, self w, op) (grows (says.ends w l.cookie h));
        shown = λ l i v. fits.shown l i v ∙ ap (says.shown w l.cookie) same ∙ rw (life, self w, op) refl;
        unshown = fits.unshown;
        coming = λ lock marked m s i. absurd (none lock marked m s i);
      }
    where
      grows : (x : Option ℕ) → option_map (grown (flush.Cut size)) x ≡ end_acked (Flushes j (Cut size)) (Done n) x
      grows None = refl
      grows (Some e) = refl

  -- of a page, under a held lock: its bytes, and its last one is shown, if it has one
  pub fits_page : (q : Request) (j at n : ℕ) (vs : List ℕ) (seen : ℕ → Bool) (left : List word.Entry) → before ≡ h → q.life ≡ w → q.op
      ≡ Get j at n
      → ((lock : TableLock) (marked : Bool) (n : Option ℕ) (s : List ℕ) → In (word.Hold t lock marked n s) left → ⊥)
      → StoreFits t r own (laid at vs bytes) sizes notes w left (Heard q (Content vs None seen) ∷ h) (Heard q (Content vs None seen) ∷ h)
  fits_page q j at n vs seen left same life op none =
      record {
        patch = record {
          pending = fits.patch.pending ∙ rw (life, self w, op) refl;
          dirty = λ p. fits.patch.dirty p
              ∙ rw (life, self w, op) refl;
          flying = λ p. fits.patch.flying p ∙ rw (life, self w, op) refl;
        };
        known = λ p low. fills_known at vs bytes p ∙ ap (overlay at vs p) (fits.known p low) ∙ rw (life, self w, op) refl;
        ends = λ l i v last. fits.ends l i v last ∙ rw (life, self w, op) refl;
        shown = λ l i v. fits.shown l i v ∙ ap (says.shown w l.cookie) same ∙ rw (life, self w, op) refl;
        unshown = fits.unshown;
        coming = λ lock marked m s i. absurd (none lock marked m s i);
      }

  pub fits_page_shown : (q : Request) (j at n s : ℕ) (vs : List ℕ) (seen : ℕ → Bool) (left : List word.Entry) → before ≡ h → q.life ≡ w
      → q.op ≡ Get j at n → Named (HeldBy h) w j
      → ((lock : TableLock) (marked : Bool) (n : Option ℕ) (s : List ℕ) → In (word.Hold t lock marked n s) left → ⊥)
      → StoreFits t r own (laid at vs bytes) sizes (with_note r (record { 0 = j }) (shown_to (noted r (record { 0 = j }) notes) s) notes) w
      left (Heard q (Content vs (Some s) seen) ∷ h) (Heard q (Content vs (Some s) seen) ∷ h)
  fits_page_shown q j at n s vs seen left same life op under none =
      record {
        patch = record {
          pending = fits.patch.pending ∙ rw (life, self w, op) refl;
          dirty = λ p. fits.patch.dirty p
              ∙ rw (life, self w, op) refl;
          flying = λ p. fits.patch.flying p ∙ rw (life, self w, op) refl;
        };
        known = λ p low. fills_known at vs bytes p ∙ ap (overlay at vs p) (fits.known p low) ∙ rw (life, self w, op) refl;
        ends = λ l i v last. fits.ends l i v last ∙ rw (life, self w, op) refl;
        shown = λ l i v. noted_with r r (record { 0 = j }) (record { 0 = l.cookie }) last notes
            ∙ rw (life, self w, op) (here l (nat_eq j l.cookie) refl (fits.shown l i v ∙ ap (says.shown w l.cookie) same));
        unshown = λ k free. noted_with r r (record { 0 = j }) (record { 0 = k }) last notes ∙ none_of k free (nat_eq j k) refl;
        coming = λ lock marked m z i. absurd (none lock marked m z i);
      }
    where
      last : ℕ
      last = shown_to (noted r (record { 0 = j }) notes) s

      here : (l : Lock) (v : Bool) → nat_eq j l.cookie ≡ v → noted r (record { 0 = l.cookie }) notes ≡ says.shown w l.cookie h
          → (if same_lock r r (record { 0 = j }) (record { 0 = l.cookie }) then Some last else noted r (record { 0 = l.cookie }) notes)
          ≡ (if nat_eq j l.cookie then most s (says.shown w l.cookie h) else says.shown w l.cookie h)
      here l true e o = rw (object_self r, e) (shown_more s (noted r (record { 0 = j }) notes)
          ∙ ap (λ (n : ℕ). most s (noted r (record { 0 = n }) notes)) (eqb-true j l.cookie e) ∙ ap (most s) o)
      here l false e o = rw (object_self r, e) o

      none_of : (k : ℕ) → HoldsNone h w k → (v : Bool) → nat_eq j k ≡ v
          → (if same_lock r r (record { 0 = j }) (record { 0 = k }) then Some last else noted r (record { 0 = k }) notes) ≡ None
      none_of k free true e = absurd (free under.0 under.1 under.2 (under.3 ∙ eqb-true j k e))
      none_of k free false e = rw (object_self r, e) (fits.unshown k free)
