-- A client's own lines that show bytes that it wrote, and those with which a lock comes or goes.
use Rattle.std.proofs.Common.{◌≡◌, ℕ, ◌-◌, Bool, true, false, List, [], ◌∷◌, length, Option, Some, None, ◌⊎◌, inl, inr, ⊎_elim, refl, sym}
use Rattle.std.proofs.Common.{subst, ap, ◌∙◌, arith}
use Rattle.std.specs.Prelude.{nat_eq, ◌==◌, if◌then◌else◌}
use Rattle.std.specs.Option.{unwrap_or}
use Rattle.std.proofs.lemmas.Bool.{eqb-true}
use Rattle.std.proofs.lemmas.Bool.Decides.{nat_tests}
use Rattle.lu_base.specs.declared.ids.At.{At}
use Rattle.lu_base.specs.declared.ids.Cookie.{Cookie}
use Rattle.lu_base.specs.declared.ids.Node.TheVariants.{Client}
use Rattle.lu_base.specs.declared.ids.Stamp.{Stamp}
use Rattle.lu_base.specs.declared.locks.Extent.{Extent}
use Rattle.lu_base.specs.declared.locks.Lock.{Lock as TableLock}
use Rattle.lu_base.specs.declared.locks.Policy.{Policy}
use Rattle.lu_base.specs.declared.locks.Policy.TheVariants.{Bits, Range}
use Rattle.lu_base.specs.declared.locks.Resource.{Resource}
use Rattle.lu_lock.specs.Growth.{the_end}
use Rattle.lu_held.specs.declared.locks.HeldLock.{HeldLock}
use Rattle.lu_held.specs.Locks.{same_resource, reaches_end}
use Rattle.lu_spec_entries.specs.declared.changes.Flush.TheVariants as flush
use Rattle.lu_spec_entries.specs.Words as word
use Rattle.lu_spec_entries.specs.Words.{Line, line, is_client}
use Rattle.lu_spec_client.specs.Bytes.{Bytes, outside}
use Rattle.lu_spec_client.specs.Caches.{Note, patch_at, bytes_at, noted, with_note, without_note, size_kept, shown_to, held_at, held_as}
use Rattle.lu_spec_client.specs.Caches.{with_held, on_object, forgotten_bytes, forgotten_notes}
use Rattle.lu_spec_client.specs.Calls.{life_at}
use Rattle.lu_spec_client.specs.States.{Store}
use Rattle.lu_proof_lawful.specs.Covered.Heads.{Head}
use Rattle.lu_proof_lawful.proofs.Preconditions.Acts.{KindOf}
use Rattle.lu_proof_lawful.proofs.Preconditions.CallGuards.{WroteNow, ShowsWritten, piece_on}
use Rattle.lu_proof_lawful.proofs.Preconditions.ClientGuards.{GivenOk}
use Rattle.lu_proof_lawful.proofs.Preconditions.ClientLocks.{with_self}
use Rattle.lu_proof_lawful.proofs.Preconditions.Guards.{HoldsOk, MarkedOk}
use Rattle.lu_proof_lawful.proofs.Preconditions.Heard.{In, HasRange, Noticed}
use Rattle.lu_proof_lawful.proofs.Preconditions.Held.{held_in}
use Rattle.lu_proof_lawful.proofs.Preconditions.HeedMarks.{owed_of, marks_left}
use Rattle.lu_proof_lawful.proofs.Preconditions.Heeds.{none_owed, owed_rest, store_heeded}
use Rattle.lu_proof_lawful.proofs.Preconditions.Lists.{self, turn}
use Rattle.lu_proof_lawful.proofs.Preconditions.LockKinds.{held_kind}
use Rattle.lu_proof_objects.proofs.Tables.{object_is, object_self}
use Rattle.lu_proof_bytes.specs.Object.Words.{Entry, Lock, Write, Tells, Did, Hold, Drop}
use Rattle.lu_proof_bytes.specs.Object.Folds.{HeldBy, awaits}
use Rattle.lu_proof_bytes.specs.Object.Folds as says
use Rattle.lu_proof_bytes.specs.Object.Guards.{Named, HoldOk, Allowed}
use Rattle.lu_proof_bytes.proofs.Object.World.{World}
use Rattle.lu_proof_objects.specs.Points.{lock_at}
use Rattle.lu_proof_lawful.specs.Projection.Lives.{number_of, is_live}
use Rattle.lu_proof_lawful.specs.Projection.Locks.{lock_of, held, lock_over}
use Rattle.lu_proof_lawful.specs.Projection.Requests.{among}
use Rattle.lu_proof_lawful.specs.Projection.Stories.{with_entry, if_on, story}
use Rattle.lu_proof_lawful.proofs.Refinement.Stood.{grown_now}
use Rattle.lu_proof_lawful.proofs.Refinement.Tied.{Here, Grows}
use Rattle.lu_proof_lawful.proofs.Refinement.TiedStore.{StoreFits, StoreBy, WroteTold, JustWrote, store_owed, life_number, shown_story}
use Rattle.lu_proof_lawful.proofs.Refinement.TiedStore.{unless_put}
use Rattle.lu_proof_lawful.proofs.Refinement.AskedOther.{shown_life}
use Rattle.lu_proof_lawful.proofs.Refinement.AskedSteps.{live_before}
use Rattle.lu_proof_lawful.proofs.Refinement.OverLives.{live_parts, noticed_over}
use Rattle.lu_proof_lawful.proofs.Refinement.PointsTables.{same_lock, item_on, noted_with, noted_without}
use Rattle.lu_proof_lawful.proofs.Refinement.StoreFolds.{store_same}
use Rattle.lu_proof_lawful.proofs.Refinement.StoreKept.{fits_stays, fits_shown, fits_hold, fits_drop}
use Rattle.lu_proof_lawful.proofs.Refinement.StoreSettled.{shown_all, shown_owed}
use Rattle.lu_proof_lawful.proofs.Refinement.StoreLines.{stays_by}
use Rattle.lu_proof_lawful.proofs.Refinement.StoreOwn.{fits_notes, grown_by, OwnBy, own_store, own_told, heeded_by, marked_by, fits_by}
use Rattle.lu_proof_lawful.proofs.Refinement.Placed.{held_place}
use Rattle.lu_proof_lawful.proofs.Refinement.ChangesFound.{held_there, used_over}
use Rattle.lu_proof_lawful.proofs.Refinement.Uses.{uses_held}

-- ---- bytes that were just written

just_put : (c : ℕ) (r : Resource) (past : List Line) (at : At) (q : Resource) (first : ℕ) (bytes : List ℕ) (h : List Entry)
    → WroteNow past at q first bytes → is_client c at.node ≡ true
    → shown_story c r past h ≡ (if same_resource q r then unless_put (flush.Put first bytes) h else h)
just_put c r [] at q first bytes h now own = absurd now
just_put c r (l ∷ past) at q first bytes h now own = subst (λ (e : word.Entry). shown_story c r (line l.at e ∷ past) h
    ≡ (if same_resource q r then unless_put (flush.Put first bytes) h else h)) (sym now.1)
    (let mine : is_client c l.at.node ≡ true = ap (λ (a : At). is_client c a.node) now.0 ∙ own in rw mine refl)

just_told : (c : ℕ) (r : Resource) (past : List Line) (at : At) (first : ℕ) (bytes : List ℕ) (w : ℕ) (h : List Entry)
    → WroteNow past at r first bytes → is_client c at.node ≡ true → JustWrote c r past w h → WroteTold w (flush.Put first bytes) h
just_told c r [] at first bytes w h now own told = absurd now
just_told c r (l ∷ past) at first bytes w h now own told =
    (subst (λ (e : word.Entry). JustWrote c r (line l.at e ∷ past) w h) now.1 told)
    (let mine : is_client c l.at.node ≡ true = ap (λ (a : At). is_client c a.node) now.0 ∙ own in rw (mine, object_self r) refl)

-- ---- another object's notes

apart_with : (q r : Resource) (j : Cookie) (n : ℕ) (notes : List Note) → same_resource q r ≡ false → (k : Cookie)
    → noted r k (with_note q j n notes) ≡ noted r k notes
apart_with q r j n notes other k = noted_with q r j k n notes ∙ rw other refl

apart_without : (q r : Resource) (j : Cookie) (notes : List Note) → same_resource q r ≡ false → (k : Cookie)
    → noted r k (without_note q j notes) ≡ noted r k notes
apart_without q r j notes other k = noted_without q r j k notes ∙ rw other refl

apart_size : (m : TableLock) (r : Resource) (size : Option ℕ) (notes : List Note) → same_resource m.resource r ≡ false → (k : Cookie)
    → noted r k (size_kept m size notes) ≡ noted r k notes
apart_size m r None notes other k = refl
apart_size m r (Some n) notes other k = by (reaches_end m.ask.policy)
  where
    by : (b : Bool) → noted r k (if b then with_note m.resource m.cookie n notes else notes) ≡ noted r k notes
    by true = apart_with m.resource r m.cookie n notes other k
    by false = refl

-- ---- a lock to the end

pub end_reached : (m : TableLock) (x : Extent) → m.ask.policy ≡ Range x → (lock_of m).last ≡ None → reaches_end m.ask.policy ≡ true
end_reached m x p last = subst (λ (q : Policy). reaches_end q ≡ true) (sym p)
    (by (nat_eq x.last the_end) (subst (λ (q : Policy). (lock_of (record m { ask = record m.ask { policy = q } })).last ≡ None) p last))
  where
    by : (b : Bool) → (if b then None else Some x.last) ≡ None → b ≡ true
    by true e = refl
    by false e = absurd (cc)

module _ (head : Head) (t : ℕ) (r : Resource) (stamp : Stamp) (c : ℕ) (past : List Line) where
  -- ---- it shows bytes

  shows_here : (cookie : Cookie) (last : ℕ) → owed_of c past ≡ [] → ShowsWritten past (turn stamp (Client c)) c r cookie last
      → OwnBy head t r stamp c past (word.Shows r cookie last)
  shows_here cookie last none ok here g live =
      let e = word.Shows r cookie last in
      let before = live_before c (line (turn stamp (Client c)) e) past (story t r past) (story t r (grown_by head t r stamp c past e)) refl
      g live in
      let left : owed_of c (grown_by head t r stamp c past e) ≡ [] = owed_rest c stamp past e tt ∙ ap marks_left none in
      let told = just_told c r past (turn stamp (Client c)) ok.first ok.bytes (life_number c past) (story t r past) ok.wrote (self c)
      (here.tied.store.told c before) in
      let uses = uses_held head past here.stood.grown here.stood.pins.1 c ok.slot ok.running ok.work.used ok.call ok.uses ok.under ok.among
      in
      let piece = ap (λ (q : Resource). piece_on ok.work.layout ok.work.kind q.stripe) ok.of_object ∙ ok.piece in
      let over = used_over head here.ranges t r past here.place here.stood.grown here.stood.pins.1 here.all c (here.tied.asked.of c before)
      none before ok.slot ok.running ok.call ok.work ok.does ok.wants ok.under ok.among uses ok.of_object (flush.Put ok.first ok.bytes)
      piece in
      let its : Some told.lock ≡ Some ok.under.lock.cookie.0 = sym told.over
      ∙ ap (λ (h : List Entry). lock_over (life_number c past) (Write ok.first ok.bytes) (held h)) (sym told.told) ∙ over.over in
      let same : told.lock ≡ cookie.0 = some_is told.lock ok.under.lock.cookie.0 its ∙ ap (λ (k : Cookie). k.0) ok.of_cookie in
      let is : story t r past ≡ Tells (life_number c past) (Did cookie.0 (Write ok.first ok.bytes)) ∷ told.before = told.told
      ∙ ap (λ (k : ℕ). Tells (life_number c past) (Did k (Write ok.first ok.bytes)) ∷ told.before) same in
      let was : shown_story c r past (story t r past) ≡ told.before =
      just_put c r past (turn stamp (Client c)) r ok.first ok.bytes (story t r past) ok.wrote (self c)
      ∙ rw (object_self r) (ap (unless_put (flush.Put ok.first ok.bytes)) is) in
      let under : Named (HeldBy (story t r past)) (life_number c past) cookie.0 =
      (lock_of ok.under.lock, over.lock, over.life, ap (λ (k : Cookie). k.0) ok.of_cookie) in
      fits_by head t r stamp c past e (own_store head t r stamp c past e none left) refl left (story t r past) (story t r past) refl refl
      (subst (λ (n : ℕ). StoreFits t r (patch_at r (store_owed c past).patches) (bytes_at r (store_owed c past).bytes)
      (store_owed c past).sizes (with_note r cookie (shown_to (noted r cookie (store_owed c past).shown) n) (store_owed c past).shown)
      (life_number c past) [] (story t r past) (story t r past)) (sym ok.is)
      (fits_shown t r (patch_at r (store_owed c past).patches) (bytes_at r (store_owed c past).bytes) (store_owed c past).sizes
      (store_owed c past).shown (life_number c past) (owed_of c past) (story t r past) (shown_story c r past (story t r past))
      (here.tied.store.of c before)
      cookie.0 ok.first ok.bytes told.before is was over.some under))
    where
      some_is : (a b : ℕ) → Some a ≡ Some b → a ≡ b
      some_is a b e = cc

  shows_away : (q : Resource) (cookie : Cookie) (last : ℕ) → same_resource q r ≡ false → owed_of c past ≡ []
      → ShowsWritten past (turn stamp (Client c)) c q cookie last → OwnBy head t r stamp c past (word.Shows q cookie last)
  shows_away q cookie last other none ok here g live =
      let e = word.Shows q cookie last in
      let before = live_before c (line (turn stamp (Client c)) e) past (story t r past) (story t r (grown_by head t r stamp c past e)) refl
      g live in
      let left : owed_of c (grown_by head t r stamp c past e) ≡ [] = owed_rest c stamp past e tt ∙ ap marks_left none in
      let was : shown_story c r past (story t r past) ≡ story t r past =
      just_put c r past (turn stamp (Client c)) q ok.first ok.bytes (story t r past) ok.wrote (self c) ∙ rw other refl in
      fits_by head t r stamp c past e (own_store head t r stamp c past e none left) refl left (story t r past) (story t r past) refl refl
      (fits_notes t r (patch_at r (store_owed c past).patches) (bytes_at r (store_owed c past).bytes) (store_owed c past).sizes
      (store_owed c past).shown (store_owed c past).sizes (with_note q cookie (shown_to (noted q cookie (store_owed c past).shown) last)
      (store_owed c past).shown) (life_number c past) [] (story t r past) (story t r past)
      (λ k. refl) (apart_with q r cookie (shown_to (noted q cookie (store_owed c past).shown) last) (store_owed c past).shown other)
      (fits_stays t r (patch_at r (store_owed c past).patches) (bytes_at r (store_owed c past).bytes) (store_owed c past).sizes
      (store_owed c past).shown (life_number c past) (owed_of c past) (story t r past) (shown_story c r past (story t r past))
      (here.tied.store.of c before)
      [] (story t r past) (story t r past) (store_same (life_number c past) (story t r past) (story t r past) refl)
      (λ j. ap (says.shown (life_number c past) j) (sym was)) (λ x i. absurd i)))

  pub shows_by : (q : Resource) (cookie : Cookie) (last : ℕ) → OwnBy head t r stamp c past (word.Shows q cookie last)
  shows_by q cookie last here g live = by (owed_of c past) refl
    where
      e : word.Entry
      e = word.Shows q cookie last

      at_resource : owed_of c past ≡ [] → ShowsWritten past (turn stamp (Client c)) c q cookie last → (b : Bool) → same_resource q r ≡ b
          → OwnBy head t r stamp c past (word.Shows q cookie last)
      at_resource none ok true o = subst (λ (x : Resource). ShowsWritten past (turn stamp (Client c)) c x cookie last
          → OwnBy head t r stamp c past (word.Shows x cookie last)) (sym (object_is q r o)) (shows_here cookie last none) ok
      at_resource none ok false o = shows_away q cookie last o none ok

      by : (es : List word.Entry) → owed_of c past ≡ es → StoreBy t r (grown_by head t r stamp c past e)
          (story t r (grown_by head t r stamp c past e)) c
      by (x ∷ more) o = heeded_by head t r stamp c past e x more o refl (λ k. refl) (inr tt) here g live
      by [] o = ⊎_elim
          (λ ok. at_resource o ok (same_resource q r) refl here g live)
          (λ k. absurd (marked_by head t r stamp c past e k here o))
          here.stood.ok.ok

  -- ---- a lock comes

  -- what the story says of it
  pub hold_ok : (k h : List Entry) (x : Entry) → k ≡ x ∷ h → Grows h k → Allowed h x
  hold_ok k h x is (inl e) = absurd (let n = ap length (sym e ∙ is) in omega (arith, n))
  hold_ok k h x is (inr g) = subst (Allowed h) (one g.0 x (sym g.1 ∙ is)) g.2
    where
      one : (a b : Entry) → a ∷ h ≡ b ∷ h → a ≡ b
      one a b e = cc

  -- no lock of that cookie is held
  hold_new : (h : List Entry) (w : ℕ) (m : Lock) (s : ℕ) (seen : ℕ → Bool) → World h → HoldOk h m s seen → m.life ≡ w → (l : Lock)
      → HeldBy h l → l.life ≡ w → l.cookie ≡ m.cookie → ⊥
  hold_new h w m s seen world ok life l i v e =
      let gone = (world.locks.held l i).gone in
      let same : awaits m.life m.cookie h ≡ false = ap (λ (n : ℕ). awaits n m.cookie h) (life ∙ sym v)
      ∙ ap (λ (n : ℕ). awaits l.life n h) (sym e) ∙ gone in
      let z : true ≡ false = sym ok.0 ∙ same in
      cc

  hold_step : (m : TableLock) (marked : Bool) (size : Option ℕ) (seen : List ℕ) → is_live c past (story t r past) ≡ true → m.resource ≡ r
      → story t r (grown_by head t r stamp c past (word.Hold t m marked size seen)) ≡ Hold (lock_of m) (unwrap_or size 0) (among seen)
      ∷ story t r past
  hold_step m marked size seen live on = let same : same_resource m.resource r ≡ true = ap (λ (x : Resource). same_resource x r) on
      ∙ object_self r in rw (self t, live, same) refl

  hold_off : (u : ℕ) (m : TableLock) (marked : Bool) (size : Option ℕ) (seen : List ℕ) → (u == t) ≡ false
      ⊎ (same_resource m.resource r ≡ false) → story t r (grown_by head t r stamp c past (word.Hold u m marked size seen)) ≡ story t r past
  hold_off u m marked size seen (inl o) = rw o refl
  hold_off u m marked size seen (inr o) = by (u == t) (is_live c past (story t r past))
    where
      by : (a b : Bool) → (if a then (if b then with_entry (if_on r m.resource (Hold (lock_of m) (unwrap_or size 0) (among seen)))
          (story t r past) else story t r past) else story t r past) ≡ story t r past
      by true true = rw o refl
      by true false = refl
      by false b = refl

  hold_life : (u : ℕ) (m : TableLock) (marked : Bool) (size : Option ℕ) (seen : List ℕ)
      → Here head t r (line (turn stamp (Client c)) (word.Hold u m marked size seen)) past → (lock_of m).life ≡ life_number c past
  hold_life u m marked size seen here = shown_life head (line (turn stamp (Client c)) (word.Hold u m marked size seen)) past here.stood c m
      refl refl

  -- one that came with the reply just heard
  hold_owed : (m : TableLock) (marked : Bool) (size : Option ℕ) (seen : List ℕ) (more : List word.Entry) → owed_of c past
      ≡ word.Hold t m marked size seen ∷ more → m.resource ≡ r → OwnBy head t r stamp c past (word.Hold t m marked size seen)
  hold_owed m marked size seen more owes on here g live =
      let e = word.Hold t m marked size seen in
      let now = grown_by head t r stamp c past e in
      let before = live_before c (line (turn stamp (Client c)) e) past (story t r past) (story t r now) refl g live in
      let s = store_heeded c stamp past e e more owes (here.stood.heeds.0 c) in
      let k = Hold (lock_of m) (unwrap_or size 0) (among seen) ∷ story t r past in
      let is = hold_step m marked size seen before on in
      let ok = hold_ok (story t r now) (story t r past) (Hold (lock_of m) (unwrap_or size 0) (among seen)) is g in
      let life = hold_life t m marked size seen here in
      let fits = here.tied.store.of c before in
      let was = shown_all c r past (story t r past) (shown_owed c past here.stood.heeds.1 e more owes) in
      let first : In e (owed_of c past) = subst (λ (es : List word.Entry). In e es) (sym owes) (inl refl) in
      let rest = λ (x : word.Entry) (i : In x more). subst (λ (es : List word.Entry). In x es) (sym owes) (inr i) in
      subst (λ (v : Store). StoreFits t r (patch_at r v.patches) (bytes_at r v.bytes) v.sizes v.shown (life_number c past) (owed_of c now)
      (story t r now) (shown_story c r now (story t r now))) (sym s.1)
      (subst (λ (es : List word.Entry). StoreFits t r (patch_at r (store_owed c past).patches) (bytes_at r (store_owed c past).bytes)
      (store_owed c past).sizes (store_owed c past).shown (life_number c past) es (story t r now) (story t r now)) (sym s.0)
      (subst (λ (x : List Entry). StoreFits t r (patch_at r (store_owed c past).patches) (bytes_at r (store_owed c past).bytes)
      (store_owed c past).sizes (store_owed c past).shown (life_number c past) more x x) (sym is)
      (fits_hold t r (patch_at r (store_owed c past).patches) (bytes_at r (store_owed c past).bytes) (store_owed c past).sizes
      (store_owed c past).shown (life_number c past) (owed_of c past) (story t r past) (shown_story c r past (story t r past)) fits
      (lock_of m) (unwrap_or size 0) (among seen) (store_owed c past).sizes more was life
      (hold_new (story t r past) (life_number c past) (lock_of m) (unwrap_or size 0) (among seen) here.world ok life)
      (λ last. fits.coming m marked size seen first on last)
      (λ l i v. refl)
      (λ lock mk n z i. fits.coming lock mk n z (rest (word.Hold t lock mk n z) i)))))

  -- one that it had waited for
  hold_given : (m : TableLock) (marked : Bool) (n : ℕ) (x : Extent) (seen : List ℕ) → owed_of c past ≡ [] → m.resource ≡ r → m.ask.policy
      ≡ Range x → OwnBy head t r stamp c past (word.Hold t m marked (Some n) seen)
  hold_given m marked n x seen none on range here g live =
      let e = word.Hold t m marked (Some n) seen in
      let now = grown_by head t r stamp c past e in
      let before = live_before c (line (turn stamp (Client c)) e) past (story t r past) (story t r now) refl g live in
      let left : owed_of c now ≡ [] = owed_rest c stamp past e tt ∙ ap marks_left none in
      let k = Hold (lock_of m) n (among seen) ∷ story t r past in
      let is = hold_step m marked (Some n) seen before on in
      let ok = hold_ok (story t r now) (story t r past) (Hold (lock_of m) n (among seen)) is g in
      let life = hold_life t m marked (Some n) seen here in
      let new = hold_new (story t r past) (life_number c past) (lock_of m) n (among seen) here.world ok life in
      fits_by head t r stamp c past e (own_store head t r stamp c past e none left) refl left k k is refl
      (fits_hold t r (patch_at r (store_owed c past).patches) (bytes_at r (store_owed c past).bytes) (store_owed c past).sizes
      (store_owed c past).shown (life_number c past) (owed_of c past) (story t r past) (shown_story c r past (story t r past))
      (here.tied.store.of c before)
      (lock_of m) n (among seen) (size_kept m (Some n) (store_owed c past).sizes) [] (own_told head t r stamp c past e here (λ z. z)) life
      new
      (λ last. ap (λ (b : Bool). noted r m.cookie (if b then with_note m.resource m.cookie n (store_owed c past).sizes
      else (store_owed c past).sizes)) (end_reached m x range last)
      ∙ noted_with m.resource r m.cookie m.cookie n (store_owed c past).sizes ∙ rw (on_self, self m.cookie.0) refl)
      (λ l i v. others l i v (reaches_end m.ask.policy))
      (λ lock mk z y i. absurd i))
    where
      on_self : same_resource m.resource r ≡ true
      on_self = ap (λ (z : Resource). same_resource z r) on ∙ object_self r

      others : (l : Lock) → HeldBy (story t r past) l → l.life ≡ life_number c past → (b : Bool)
          → noted r (record { 0 = l.cookie }) (if b then with_note m.resource m.cookie n (store_owed c past).sizes
          else (store_owed c past).sizes) ≡ noted r (record { 0 = l.cookie }) (store_owed c past).sizes
      others l i v false = refl
      others l i v true = noted_with m.resource r m.cookie (record { 0 = l.cookie }) n (store_owed c past).sizes
          ∙ by (nat_eq m.cookie.0 l.cookie) refl
        where
          e : word.Entry
          e = word.Hold t m marked (Some n) seen

          by : (b : Bool) → nat_eq m.cookie.0 l.cookie ≡ b → (if same_lock m.resource r m.cookie (record { 0 = l.cookie }) then Some n
              else noted r (record { 0 = l.cookie }) (store_owed c past).sizes)
              ≡ noted r (record { 0 = l.cookie }) (store_owed c past).sizes
          by false q = rw (on_self, q) refl
          by true q =
              let before = live_before c (line (turn stamp (Client c)) e) past (story t r past)
              (story t r (grown_by head t r stamp c past e)) refl g live in
              let is = hold_step m marked (Some n) seen before on in
              let ok = hold_ok (story t r (grown_by head t r stamp c past e)) (story t r past) (Hold (lock_of m) n (among seen)) is g in
              let life = hold_life t m marked (Some n) seen here in
              absurd (hold_new (story t r past) (life_number c past) (lock_of m) n (among seen) here.world ok life l i v
              (sym (eqb-true m.cookie.0 l.cookie q)))

  -- one on another object, or at another target
  hold_away : (u : ℕ) (m : TableLock) (marked : Bool) (n : ℕ) (seen : List ℕ) → owed_of c past ≡ [] → (u == t) ≡ false
      ⊎ (same_resource m.resource r ≡ false) → same_resource m.resource r ≡ false
      → OwnBy head t r stamp c past (word.Hold u m marked (Some n) seen)
  hold_away u m marked n seen none off other here g live =
      let e = word.Hold u m marked (Some n) seen in
      let now = grown_by head t r stamp c past e in
      let before = live_before c (line (turn stamp (Client c)) e) past (story t r past) (story t r now) refl g live in
      let left : owed_of c now ≡ [] = owed_rest c stamp past e tt ∙ ap marks_left none in
      let is = hold_off u m marked (Some n) seen off in
      fits_by head t r stamp c past e (own_store head t r stamp c past e none left) refl left (story t r past) (story t r past) is refl
      (fits_notes t r (patch_at r (store_owed c past).patches) (bytes_at r (store_owed c past).bytes) (store_owed c past).sizes
      (store_owed c past).shown (size_kept m (Some n) (store_owed c past).sizes) (store_owed c past).shown (life_number c past) []
      (story t r past) (story t r past)
      (apart_size m r (Some n) (store_owed c past).sizes other) (λ k. refl)
      (fits_stays t r (patch_at r (store_owed c past).patches) (bytes_at r (store_owed c past).bytes) (store_owed c past).sizes
      (store_owed c past).shown (life_number c past) (owed_of c past) (story t r past) (shown_story c r past (story t r past))
      (here.tied.store.of c before)
      [] (story t r past) (story t r past) (store_same (life_number c past) (story t r past) (story t r past) refl)
      (λ j. ap (says.shown (life_number c past) j) (sym (own_told head t r stamp c past e here (λ z. z)))) (λ x i. absurd i)))

  pub hold_by : (u : ℕ) (m : TableLock) (marked : Bool) (size : Option ℕ) (seen : List ℕ)
      → OwnBy head t r stamp c past (word.Hold u m marked size seen)
  hold_by u m marked size seen here g live = by (owed_of c past) refl (u == t) refl (same_resource m.resource r) refl
    where
      e : word.Entry
      e = word.Hold u m marked size seen

      Goal : Type 0
      Goal = StoreBy t r (grown_by head t r stamp c past e) (story t r (grown_by head t r stamp c past e)) c

      off : (x : word.Entry) (more : List word.Entry) → owed_of c past ≡ x ∷ more → (u == t) ≡ false ⊎ (same_resource m.resource r ≡ false)
          → Goal
      off x more o away =
          let h = store_heeded c stamp past e x more o (here.stood.heeds.0 c) in
          stays_by head t r (line (turn stamp (Client c)) e) past here g c live refl
          (ap (λ (s : Store). patch_at r s.patches) h.1) (ap (λ (s : Store). bytes_at r s.bytes) h.1) (ap (λ (s : Store). s.sizes) h.1)
          (ap (λ (s : Store). s.shown) h.1)
          (store_same (life_number c past) (story t r past) (story t r (grown_by head t r stamp c past e))
          (hold_off u m marked size seen away))
          (shown_all c r past (story t r past) (shown_owed c past here.stood.heeds.1 x more o))
          refl
          (λ y i. subst (λ (es : List word.Entry). In y es) (sym o) (inr (subst (λ (es : List word.Entry). In y es) h.0 i)))

      on_owed : (x : word.Entry) (more : List word.Entry) → owed_of c past ≡ x ∷ more → u ≡ t → m.resource ≡ r → Goal
      on_owed x more o there on =
          let same : e ≡ x = (here.stood.heeds.0 c x more o).1 in
          let owes : owed_of c past ≡ e ∷ more = o ∙ ap (λ (y : word.Entry). y ∷ more) (sym same) in
          subst (λ (v : ℕ). owed_of c past ≡ word.Hold v m marked size seen ∷ more
          → OwnBy head t r stamp c past (word.Hold v m marked size seen)) (sym there) (λ q. hold_owed m marked size seen more q on) owes
          here g live

      given : owed_of c past ≡ [] → GivenOk past (turn stamp (Client c)) c u m marked size seen → (a : Bool) → (u == t) ≡ a → (b : Bool)
          → same_resource m.resource r ≡ b → Goal
      given none ok a p b q = sized (ap (λ (l : TableLock). l.ask.policy) ok.is) a p b q
        where
          sized : m.ask.policy ≡ Range ok.notice.extent → (a : Bool) → (u == t) ≡ a → (b : Bool) → same_resource m.resource r ≡ b → Goal
          sized range true p true q =
              subst (λ (z : Option ℕ). OwnBy head t r stamp c past (word.Hold u m marked z seen)) (sym ok.sized)
              (subst (λ (v : ℕ). OwnBy head t r stamp c past (word.Hold v m marked (Some ok.notice.size) seen)) (sym (eqb-true u t p))
              (hold_given m marked ok.notice.size ok.notice.extent seen none (object_is m.resource r q) range))
              here g live
          sized range false p true q = absurd (elsewhere range p (object_is m.resource r q))
            where
              elsewhere : m.ask.policy ≡ Range ok.notice.extent → (u == t) ≡ false → m.resource ≡ r → ⊥
              elsewhere range p on =
                  let now = grown_by head t r stamp c past e in
                  let is : held_at c now ≡ with_held (held_as u m marked) (held_at c past) = rw (self c) refl in
                  let i : In (held_as u m marked) (held_at c now) =
                  subst (λ (hs : List HeldLock). In (held_as u m marked) hs) (sym is) (with_self (held_as u m marked) (held_at c past))
                  in
                  let at : u ≡ t = held_place head now (grown_now head (line (turn stamp (Client c)) e) past here.stood) here.stood.pins c
                  (held_as u m marked) r i on (subst HasRange (sym range) tt) ∙ sym here.place in
                  let z : true ≡ false = sym (self t) ∙ ap (λ (v : ℕ). nat_eq v t) (sym at) ∙ p in
                  cc
          sized range a p false q =
              subst (λ (z : Option ℕ). OwnBy head t r stamp c past (word.Hold u m marked z seen)) (sym ok.sized)
              (hold_away u m marked ok.notice.size seen none (inr q) q) here g live

      by : (es : List word.Entry) → owed_of c past ≡ es → (a : Bool) → (u == t) ≡ a → (b : Bool) → same_resource m.resource r ≡ b → Goal
      by (x ∷ more) o true p true q = on_owed x more o (eqb-true u t p) (object_is m.resource r q)
      by (x ∷ more) o false p b q = off x more o (inl p)
      by (x ∷ more) o a p false q = off x more o (inr q)
      by [] o a p b q = ⊎_elim
          (λ (ok : HoldsOk past (turn stamp (Client c)) u m marked size seen). absurd
          (let z : [] ≡ word.Hold u m marked size seen ∷ ok.next.0 = sym o ∙ ok.next.1 in cc))
          (λ (ok : GivenOk past (turn stamp (Client c)) c u m marked size seen). given o ok a p b q)
          here.stood.ok.ok

  -- ---- a lock goes

  drop_off : (u : ℕ) (m : TableLock) → (u == t) ≡ false ⊎ (same_resource m.resource r ≡ false)
      → story t r (grown_by head t r stamp c past (word.Drop u m)) ≡ story t r past
  drop_off u m (inl o) = rw o refl
  drop_off u m (inr o) = by (u == t) (is_live c past (story t r past))
    where
      by : (a b : Bool) → (if a then (if b then with_entry (if_on r m.resource (Drop (lock_of m))) (story t r past) else story t r past)
          else story t r past) ≡ story t r past
      by true true = rw o refl
      by true false = refl
      by false b = refl

  -- one on names, which is of the metadata target
  drop_names : (u : ℕ) (m : TableLock) (b : ℕ) → m.ask.policy ≡ Bits b → (u == t) ≡ false → OwnBy head t r stamp c past (word.Drop u m)
  drop_names u m b bits off here g live =
      let e = word.Drop u m in
      let none = none_owed c past (line (turn stamp (Client c)) e) (here.stood.heeds.0 c) (λ z. z) in
      let same = own_store head t r stamp c past e none none in
      stays_by head t r (line (turn stamp (Client c)) e) past here g c live refl
      (ap (λ (s : Store). patch_at r s.patches) same)
      (ap (λ (s : Store). bytes_at r s.bytes) same ∙ ap (λ (p : Policy). bytes_at r
      (forgotten_bytes p m.resource (store_owed c past).bytes)) bits)
      (ap (λ (s : Store). s.sizes) same ∙ ap (λ (p : Policy). forgotten_notes p m (store_owed c past).sizes) bits)
      (ap (λ (s : Store). s.shown) same ∙ ap (λ (p : Policy). forgotten_notes p m (store_owed c past).shown) bits)
      (store_same (life_number c past) (story t r past) (story t r (grown_by head t r stamp c past e)) (drop_off u m (inl off)))
      (own_told head t r stamp c past e here (λ z. z))
      refl
      (λ x i. i)

  -- one on another object
  drop_away : (u : ℕ) (m : TableLock) (x : Extent) → m.ask.policy ≡ Range x → same_resource m.resource r ≡ false
      → OwnBy head t r stamp c past (word.Drop u m)
  drop_away u m x range other here g live =
      let e = word.Drop u m in
      let now = grown_by head t r stamp c past e in
      let before = live_before c (line (turn stamp (Client c)) e) past (story t r past) (story t r now) refl g live in
      let none = none_owed c past (line (turn stamp (Client c)) e) (here.stood.heeds.0 c) (λ z. z) in
      let is = drop_off u m (inr other) in
      fits_by head t r stamp c past e (own_store head t r stamp c past e none none) refl none (story t r past) (story t r past) is refl
      (subst (λ (p : Policy). StoreFits t r (patch_at r (store_owed c past).patches)
      (bytes_at r (forgotten_bytes p m.resource (store_owed c past).bytes)) (forgotten_notes p m (store_owed c past).sizes)
      (forgotten_notes p m (store_owed c past).shown) (life_number c past) [] (story t r past) (story t r past)) (sym range)
      (subst (λ (bs : Bytes). StoreFits t r (patch_at r (store_owed c past).patches) bs
      (without_note m.resource m.cookie (store_owed c past).sizes) (without_note m.resource m.cookie (store_owed c past).shown)
      (life_number c past) [] (story t r past) (story t r past))
      (sym (item_on [] m.resource r (outside x) (store_owed c past).bytes refl ∙ rw other refl))
      (fits_notes t r (patch_at r (store_owed c past).patches) (bytes_at r (store_owed c past).bytes) (store_owed c past).sizes
      (store_owed c past).shown (without_note m.resource m.cookie (store_owed c past).sizes)
      (without_note m.resource m.cookie (store_owed c past).shown) (life_number c past) [] (story t r past) (story t r past)
      (apart_without m.resource r m.cookie (store_owed c past).sizes other)
      (apart_without m.resource r m.cookie (store_owed c past).shown other)
      (fits_stays t r (patch_at r (store_owed c past).patches) (bytes_at r (store_owed c past).bytes) (store_owed c past).sizes
      (store_owed c past).shown (life_number c past) (owed_of c past) (story t r past) (shown_story c r past (story t r past))
      (here.tied.store.of c before)
      [] (story t r past) (story t r past) (store_same (life_number c past) (story t r past) (story t r past) refl)
      (λ j. ap (says.shown (life_number c past) j) (sym (own_told head t r stamp c past e here (λ z. z)))) (λ y i. absurd i)))))

  drop_step : (m : TableLock) → is_live c past (story t r past) ≡ true → m.resource ≡ r
      → story t r (grown_by head t r stamp c past (word.Drop t m)) ≡ Drop (lock_of m) ∷ story t r past
  drop_step m live on = let same : same_resource m.resource r ≡ true = ap (λ (z : Resource). same_resource z r) on ∙ object_self r
      in rw (self t, live, same) refl

  -- one on the object
  drop_here : (m : TableLock) (x : Extent) → m.ask.policy ≡ Range x → m.resource ≡ r → (lock_of m).life ≡ life_number c past
      → OwnBy head t r stamp c past (word.Drop t m)
  drop_here m x range on life here g live =
      let e = word.Drop t m in
      let now = grown_by head t r stamp c past e in
      let before = live_before c (line (turn stamp (Client c)) e) past (story t r past) (story t r now) refl g live in
      let none = none_owed c past (line (turn stamp (Client c)) e) (here.stood.heeds.0 c) (λ z. z) in
      let shape : lock_of m ≡ lock_at m.cookie.0 (life_number c past) m.ask.mode x =
      (let f : lock_of m ≡ lock_at m.cookie.0 (number_of m.ask.who) m.ask.mode x = rw range refl in f
      ∙ ap (λ (w : ℕ). lock_at m.cookie.0 w m.ask.mode x) life) in
      let k = Drop (lock_at m.cookie.0 (life_number c past) m.ask.mode x) ∷ story t r past in
      let is = drop_step m before on ∙ ap (λ (l : Lock). Drop l ∷ story t r past) shape in
      fits_by head t r stamp c past e (own_store head t r stamp c past e none none) refl none k k is refl
      (subst (λ (p : Policy). StoreFits t r (patch_at r (store_owed c past).patches)
      (bytes_at r (forgotten_bytes p m.resource (store_owed c past).bytes)) (forgotten_notes p m (store_owed c past).sizes)
      (forgotten_notes p m (store_owed c past).shown) (life_number c past) [] k k) (sym range)
      (subst (λ (q : Resource). StoreFits t r (patch_at r (store_owed c past).patches)
      (bytes_at r (on_object q (outside x) (store_owed c past).bytes)) (without_note q m.cookie (store_owed c past).sizes)
      (without_note q m.cookie (store_owed c past).shown) (life_number c past) [] k k) (sym on)
      (subst (λ (bs : Bytes). StoreFits t r (patch_at r (store_owed c past).patches) bs (without_note r m.cookie (store_owed c past).sizes)
      (without_note r m.cookie (store_owed c past).shown) (life_number c past) [] k k)
      (sym (item_on [] r r (outside x) (store_owed c past).bytes refl ∙ rw (object_self r) refl))
      (fits_drop t r (patch_at r (store_owed c past).patches) (bytes_at r (store_owed c past).bytes) (store_owed c past).sizes
      (store_owed c past).shown (life_number c past) (owed_of c past) (story t r past) (shown_story c r past (story t r past))
      (here.tied.store.of c before)
      m.cookie.0 m.ask.mode x (own_told head t r stamp c past e here (λ z. z))))))

  pub drop_by : (u : ℕ) (m : TableLock) → OwnBy head t r stamp c past (word.Drop u m)
  drop_by u m here g live = ⊎_elim
      (λ (n : Noticed past (turn stamp (Client c)) (life_at c past)). absurd
      (let over = noticed_over past (turn stamp (Client c)) c (life_at c past) refl n in let z : true ≡ false = sym over
      ∙ (live_parts c past (story t r past) before).1 in cc))
      (λ (k : MarkedOk past c u m). marked k m.ask.policy refl)
      (turned here.stood.ok.ok)
    where
      e : word.Entry
      e = word.Drop u m

      Goal : Type 0
      Goal = StoreBy t r (grown_by head t r stamp c past e) (story t r (grown_by head t r stamp c past e)) c

      before : is_live c past (story t r past) ≡ true
      before = live_before c (line (turn stamp (Client c)) e) past (story t r past) (story t r (grown_by head t r stamp c past e)) refl g
          live

      turned : {A B : Type 0} → A ⊎ B → B ⊎ A
      turned (inl a) = inr a
      turned (inr b) = inl b

      marked : MarkedOk past c u m → (p : Policy) → m.ask.policy ≡ p → Goal
      marked k (Bits b) bits = by (held_kind head k.holding.target.0 past here.stood.grown c k.holding (held_in c past k.holding k.held))
        where
          is_bits : k.holding.lock.ask.policy ≡ Bits b
          is_bits = ap (λ (l : TableLock). l.ask.policy) k.is ∙ bits

          by : KindOf k.holding.target.0 k.holding.lock → Goal
          by (inr n) = absurd (subst HasRange is_bits n.1)
          by (inl n) =
              let zero : u ≡ 0 = sym k.of_target ∙ n.0 in
              let high = here.some in
              drop_names u m b bits (grind (arith, nat_tests, zero, high)) here g live
      marked k (Range x) range = at (same_resource m.resource r) refl
        where
          at : (b : Bool) → same_resource m.resource r ≡ b → Goal
          at false o = drop_away u m x range o here g live
          at true o =
              let none = none_owed c past (line (turn stamp (Client c)) e) (here.stood.heeds.0 c) (λ z. z) in
              let on = object_is m.resource r o in
              let f = held_there head t r past here.place here.stood.grown here.stood.pins.1 c (here.tied.asked.of c before) none k.holding
              k.held (ap (λ (l : TableLock). l.resource) k.is ∙ on)
              (subst HasRange (sym (ap (λ (l : TableLock). l.ask.policy) k.is ∙ range)) tt) in
              let there : u ≡ t = sym k.of_target ∙ f.2 in
              let life : (lock_of m).life ≡ life_number c past = ap (λ (l : TableLock). (lock_of l).life) (sym k.is) ∙ f.1 in
              subst (λ (v : ℕ). OwnBy head t r stamp c past (word.Drop v m)) (sym there) (drop_here m x range on life) here g live
