-- A client's own lines: those that leave what it keeps of objects, those that mark what an answer brought, its changes, what it takes to
-- write back,
-- what it shows of its own bytes, and its next life.
use Rattle.std.proofs.Common.{◌≡◌, ℕ, ◌<◌, Bool, true, false, List, [], ◌∷◌, Option, Some, None, ◌⊎◌, inr, ⊎_elim, refl, sym, subst, ap}
use Rattle.std.proofs.Common.{◌∙◌, arith}
use Rattle.std.specs.Prelude.{is_some}
use Rattle.lu_base.specs.declared.ids.At.{At}
use Rattle.lu_base.specs.declared.ids.Cookie.{Cookie}
use Rattle.lu_base.specs.declared.ids.Node.{Node}
use Rattle.lu_base.specs.declared.ids.Node.TheVariants.{Client}
use Rattle.lu_base.specs.declared.ids.Stamp.{Stamp}
use Rattle.lu_base.specs.declared.ids.Who.{Who}
use Rattle.lu_base.specs.declared.locks.Extent.{Extent}
use Rattle.lu_base.specs.declared.locks.Resource.{Resource}
use Rattle.lu_base.specs.declared.locks.Lock.{Lock as TableLock}
use Rattle.lu_held.specs.Locks.{same_resource}
use Rattle.lu_msg.specs.declared.answers.Answer.{Answer}
use Rattle.lu_msg.specs.declared.operations.Op.{Op}
use Rattle.lu_spec_entries.specs.declared.changes.Flush.{Flush}
use Rattle.lu_spec_entries.specs.declared.changes.Flush.TheVariants as flush
use Rattle.lu_spec_entries.specs.Words as word
use Rattle.lu_spec_entries.specs.Words.{Line, line}
use Rattle.lu_spec_client.specs.Bytes.{Bytes}
use Rattle.lu_spec_client.specs.Caches.{Note, patch_at, patches_at, bytes_at, noted, on_object, made}
use Rattle.lu_spec_client.specs.Calls.{life_at}
use Rattle.lu_spec_client.specs.Patches.{Patch, Flying, clean, flown, in_flight}
use Rattle.lu_spec_client.specs.Recovery.{next_life}
use Rattle.lu_spec_client.specs.States.{Store, store_after, store_turn, store_at}
use Rattle.lu_proof_lawful.specs.Covered.Heads.{Head}
use Rattle.lu_proof_lawful.proofs.Preconditions.Heard.{In}
use Rattle.lu_proof_lawful.proofs.Preconditions.HeedMarks.{owed_of, marks_of, marks_left}
use Rattle.lu_proof_lawful.proofs.Preconditions.Heeds.{IsOwed, none_owed, owed_rest, store_line, store_heeded}
use Rattle.lu_proof_lawful.proofs.Preconditions.Lists.{self, turn}
use Rattle.lu_proof_objects.proofs.Tables.{object_is, object_self, patch_on, patch_on_there}
use Rattle.lu_proof_bytes.specs.Object.Words.{Entry, Takes, Tells, Did}
use Rattle.lu_proof_bytes.specs.Object.Folds.{WriteBack}
use Rattle.lu_proof_bytes.specs.Object.Folds as says
use Rattle.lu_proof_objects.specs.Alike.{Carries, IsNext}
use Rattle.lu_proof_objects.specs.Points.{change_of}
use Rattle.lu_proof_lawful.specs.Projection.Lives.{number_of, is_live}
use Rattle.lu_proof_lawful.specs.Projection.Locks.{held, lock_over}
use Rattle.lu_proof_lawful.specs.Projection.Stories.{story}
use Rattle.lu_proof_lawful.proofs.Refinement.Tied.{Here, Grows}
use Rattle.lu_proof_lawful.proofs.Refinement.TiedStore.{StoreFits, StoreBy, store_owed, life_number, shown_story, unless_put}
use Rattle.lu_proof_lawful.proofs.Refinement.TiedAsked.{TakenAs}
use Rattle.lu_proof_lawful.proofs.Refinement.AskedSteps.{live_before}
use Rattle.lu_proof_lawful.proofs.Refinement.OverLives.{life_now, client_now}
use Rattle.lu_proof_lawful.proofs.Refinement.PointsTables.{item_with}
use Rattle.lu_proof_lawful.proofs.Refinement.MarksOwed.{none_marked}
use Rattle.lu_proof_lawful.proofs.Refinement.StoreFolds.{store_same, OfOther}
use Rattle.lu_proof_lawful.proofs.Refinement.StoreKept.{fits_told, fits_taken}
use Rattle.lu_proof_lawful.proofs.Refinement.StoreSettled.{IsShow, no_put, shown_all, shown_owed}
use Rattle.lu_proof_lawful.proofs.Refinement.StoreLines.{store_stays, stays_by}
use Rattle.lu_proof_lawful.proofs.Refinement.StoreTakes.{takes_found}
use Rattle.lu_proof_lawful.proofs.Refinement.ChangesFound.{changes_over}

-- ---- notes of other locks

-- the same where what is noted of each lock of the object is the same
pub fits_notes : (t : ℕ) (r : Resource) (own : Patch) (bytes : Bytes) (sizes notes now after : List Note) (w : ℕ) (owed : List word.Entry)
    (h before : List Entry)
    → ((k : Cookie) → noted r k now ≡ noted r k sizes) → ((k : Cookie) → noted r k after ≡ noted r k notes)
    → StoreFits t r own bytes sizes notes w owed h before → StoreFits t r own bytes now after w owed h before
fits_notes t r own bytes sizes notes now after w owed h before same shown fits =
    record {
      patch = fits.patch;
      known = fits.known;
      ends = λ l i v last. same (record { 0 = l.cookie }) ∙ fits.ends l i v last;
      shown = λ l i v. shown (record { 0 = l.cookie }) ∙ fits.shown l i v;
      unshown = λ k none. shown (record { 0 = k }) ∙ fits.unshown k none;
      coming = λ lock marked size seen i on last. same lock.cookie ∙ fits.coming lock marked size seen i on last;
    }

-- ---- what an entry leaves

-- it leaves all that is kept of objects, and is no mark
pub record Calm (c : ℕ) (at : At) (past : List Line) (e : word.Entry) : Type 0 where
  pub kind : IsOwed e → ⊥
  pub show : IsShow e → ⊥
  pub owed : owed_of c (line at e ∷ past) ≡ owed_of c past
  pub life : life_at c (line at e ∷ past) ≡ life_at c past
  pub patches : (s : Store) → (store_after s e).patches ≡ s.patches
  pub bytes : (s : Store) → (store_after s e).bytes ≡ s.bytes
  pub sizes : (s : Store) → (store_after s e).sizes ≡ s.sizes
  pub shown : (s : Store) → (store_after s e).shown ≡ s.shown
  pub told : (r : Resource) (k : List Entry) → shown_story c r (line at e ∷ past) k ≡ k
  pub quiet : (w : ℕ) (node : Node) → OfOther w node past e

abbrev pub IsCalm : word.Entry → Type 0
IsCalm (word.Heard t f r) = ⊥
IsCalm (word.Hold t lock marked size seen) = ⊥
IsCalm (word.Learns t o a locks) = ⊥
IsCalm (word.Drop t lock) = ⊥
IsCalm (word.Changes resource change) = ⊥
IsCalm (word.WritesBack resource change) = ⊥
IsCalm (word.Acks resource) = ⊥
IsCalm (word.Fills resource offset bytes) = ⊥
IsCalm (word.Zeroes resource size) = ⊥
IsCalm (word.Grown resource change) = ⊥
IsCalm (word.Shows resource cookie last) = ⊥
IsCalm (word.Life who) = ⊥
IsCalm _ = Unit {0}

calm_of : (c : ℕ) (at : At) (past : List Line) (e : word.Entry) → IsCalm e → Calm c at past e
calm_of c at past (word.Heard t f r) i = absurd i
calm_of c at past (word.Hold t lock marked size seen) i = absurd i
calm_of c at past (word.Learns t o a locks) i = absurd i
calm_of c at past (word.Drop t lock) i = absurd i
calm_of c at past (word.Changes resource change) i = absurd i
calm_of c at past (word.WritesBack resource change) i = absurd i
calm_of c at past (word.Acks resource) i = absurd i
calm_of c at past (word.Fills resource offset bytes) i = absurd i
calm_of c at past (word.Zeroes resource size) i = absurd i
calm_of c at past (word.Grown resource change) i = absurd i
calm_of c at past (word.Shows resource cookie last) i = absurd i
calm_of c at past (word.Life who) i = absurd i
calm_of c at past e i =
    record {
      kind = λ x. x;
      show = λ x. x;
      owed = refl;
      life = refl;
      patches = λ s. refl;
      bytes = λ s. refl;
      sizes = λ s. refl;
      shown = λ s. refl;
      told = λ r k. refl;
      quiet = λ w node. inr tt;
    }

module _ (head : Head) (t : ℕ) (r : Resource) (stamp : Stamp) (c : ℕ) (past : List Line) where
  abbrev pub grown_by : word.Entry → List Line
  grown_by e = line (turn stamp (Client c)) e ∷ past

  abbrev pub OwnBy : word.Entry → Type 0
  OwnBy e = Here head t r (line (turn stamp (Client c)) e) past → Grows (story t r past) (story t r (grown_by e))
      → is_live c (grown_by e) (story t r (grown_by e)) ≡ true → StoreBy t r (grown_by e) (story t r (grown_by e)) c

  -- where nothing is owed the store is what the entry makes of it
  pub own_store : (e : word.Entry) → owed_of c past ≡ [] → owed_of c (grown_by e) ≡ [] → store_owed c (grown_by e)
      ≡ store_after (store_owed c past) e
  own_store e none left =
      ap (store_turn (store_at c (grown_by e))) left ∙ store_line c stamp past e
      ∙ ap (λ (s : Store). store_after s e) (sym (ap (store_turn (store_at c past)) none))

  -- the past wrote nothing that is still to be shown, unless this line shows it
  pub own_told : (e : word.Entry) → Here head t r (line (turn stamp (Client c)) e) past → (IsShow e → ⊥)
      → shown_story c r past (story t r past) ≡ story t r past
  own_told e here other = shown_all c r past (story t r past) (no_put past (turn stamp (Client c)) (Client c) e here.stood.ok.owes
      here.stood.ok.ok other)

  -- ---- lines that leave all of it

  pub calm_by : (e : word.Entry) → IsCalm e → OwnBy e
  calm_by e calm here g live =
      let k = calm_of c (turn stamp (Client c)) past e calm in
      let none = none_owed c past (line (turn stamp (Client c)) e) (here.stood.heeds.0 c) k.kind in
      let same = own_store e none (k.owed ∙ none) in
      stays_by head t r (line (turn stamp (Client c)) e) past here g c live k.life
      (ap (λ (s : Store). patch_at r s.patches) same ∙ ap (patch_at r) (k.patches (store_owed c past)))
      (ap (λ (s : Store). bytes_at r s.bytes) same ∙ ap (bytes_at r) (k.bytes (store_owed c past)))
      (ap (λ (s : Store). s.sizes) same ∙ k.sizes (store_owed c past))
      (ap (λ (s : Store). s.shown) same ∙ k.shown (store_owed c past))
      (store_stays (life_number c past) t r (line (turn stamp (Client c)) e) past here.world g (k.quiet (life_number c past) (Client c)))
      (own_told e here k.show)
      (k.told r (story t r (grown_by e)))
      (λ x i. subst (λ (es : List word.Entry). In x es) k.owed i)

  -- ---- a mark that was owed, of what isn't in the story

  -- it leaves the store as it will be
  pub heeded_by : (e x : word.Entry) (more : List word.Entry) → owed_of c past ≡ x ∷ more → life_at c (grown_by e) ≡ life_at c past
      → ((k : List Entry) → shown_story c r (grown_by e) k ≡ k) → OfOther (life_number c past) (Client c) past e → OwnBy e
  heeded_by e x more owes life told quiet here g live =
      let h = store_heeded c stamp past e x more owes (here.stood.heeds.0 c) in
      stays_by head t r (line (turn stamp (Client c)) e) past here g c live life
      (ap (λ (s : Store). patch_at r s.patches) h.1) (ap (λ (s : Store). bytes_at r s.bytes) h.1) (ap (λ (s : Store). s.sizes) h.1)
      (ap (λ (s : Store). s.shown) h.1)
      (store_stays (life_number c past) t r (line (turn stamp (Client c)) e) past here.world g quiet)
      (shown_all c r past (story t r past) (shown_owed c past here.stood.heeds.1 x more owes))
      (told (story t r (grown_by e)))
      (λ y i. subst (λ (es : List word.Entry). In y es) (sym owes) (inr (subst (λ (es : List word.Entry). In y es) h.0 i)))

  -- one that stands in the guards is owed
  pub marked_by : (e : word.Entry) → (k : (more : List word.Entry) × (marks_of c past ≡ e ∷ more))
      → Here head t r (line (turn stamp (Client c)) e) past → owed_of c past ≡ [] → ⊥
  marked_by e k here none = let z : [] ≡ e ∷ k.0 = sym (none_marked c past here.stood.heeds.1 none) ∙ k.1 in cc

  pub marks_by : (e : word.Entry) → (k : (more : List word.Entry) × (marks_of c past ≡ e ∷ more)) → life_at c (grown_by e) ≡ life_at c past
      → ((k : List Entry) → shown_story c r (grown_by e) k ≡ k) → OfOther (life_number c past) (Client c) past e → OwnBy e
  marks_by e k life told quiet here g live = by (owed_of c past) refl
    where
      by : (es : List word.Entry) → owed_of c past ≡ es → StoreBy t r (grown_by e) (story t r (grown_by e)) c
      by [] o = absurd (marked_by e k here o)
      by (x ∷ more) o = heeded_by e x more o life told quiet here g live

  -- ---- it changes an object

  -- of the line's own, where the story and what it shows are these
  pub fits_by : (e : word.Entry) → store_owed c (grown_by e) ≡ store_after (store_owed c past) e → life_at c (grown_by e) ≡ life_at c past
      → owed_of c (grown_by e) ≡ [] → (k before : List Entry) → story t r (grown_by e) ≡ k → shown_story c r (grown_by e) k ≡ before
      → StoreFits t r (patch_at r (store_after (store_owed c past) e).patches) (bytes_at r (store_after (store_owed c past) e).bytes)
      (store_after (store_owed c past) e).sizes (store_after (store_owed c past) e).shown (life_number c past) [] k before
      → StoreBy t r (grown_by e) (story t r (grown_by e)) c
  fits_by e store life none k before is shows fits =
      subst (λ (s : Store). StoreFits t r (patch_at r s.patches) (bytes_at r s.bytes) s.sizes s.shown (life_number c (grown_by e))
      (owed_of c (grown_by e)) (story t r (grown_by e)) (shown_story c r (grown_by e) (story t r (grown_by e)))) (sym store)
      (subst (λ (w : Who). StoreFits t r (patch_at r (store_after (store_owed c past) e).patches)
      (bytes_at r (store_after (store_owed c past) e).bytes) (store_after (store_owed c past) e).sizes
      (store_after (store_owed c past) e).shown (number_of w) (owed_of c (grown_by e)) (story t r (grown_by e))
      (shown_story c r (grown_by e) (story t r (grown_by e)))) (sym life)
      (subst (λ (es : List word.Entry). StoreFits t r (patch_at r (store_after (store_owed c past) e).patches)
      (bytes_at r (store_after (store_owed c past) e).bytes) (store_after (store_owed c past) e).sizes
      (store_after (store_owed c past) e).shown (life_number c past) es (story t r (grown_by e))
      (shown_story c r (grown_by e) (story t r (grown_by e)))) (sym none)
      (subst (λ (x : List Entry). StoreFits t r (patch_at r (store_after (store_owed c past) e).patches)
      (bytes_at r (store_after (store_owed c past) e).bytes) (store_after (store_owed c past) e).sizes
      (store_after (store_owed c past) e).shown (life_number c past) [] x (shown_story c r (grown_by e) x)) (sym is)
      (subst (λ (x : List Entry). StoreFits t r (patch_at r (store_after (store_owed c past) e).patches)
      (bytes_at r (store_after (store_owed c past) e).bytes) (store_after (store_owed c past) e).sizes
      (store_after (store_owed c past) e).shown (life_number c past) [] k x) (sym shows) fits))))

  abbrev was_live : (e : word.Entry) → life_at c (grown_by e) ≡ life_at c past → Grows (story t r past) (story t r (grown_by e))
      → is_live c (grown_by e) (story t r (grown_by e)) ≡ true → is_live c past (story t r past) ≡ true
  was_live e life g live = live_before c (line (turn stamp (Client c)) e) past (story t r past) (story t r (grown_by e)) life g live

  -- it is told
  pub changes_step : (change : Flush) (k : ℕ) → is_live c past (story t r past) ≡ true
      → lock_over (life_number c past) (change_of change) (held (story t r past)) ≡ Some k
      → story t r (grown_by (word.Changes r change)) ≡ Tells (life_number c past) (Did k (change_of change)) ∷ story t r past
  changes_step change k live over = rw (object_self r, live, over) refl

  changes_shows : (change : Flush) (k : List Entry) → shown_story c r (grown_by (word.Changes r change)) k ≡ unless_put change k
  changes_shows change k = rw (self c, object_self r) refl

  changed_with : (change : Flush) (j : ℕ) → owed_of c past ≡ [] → is_live c past (story t r past) ≡ true
      → lock_over (life_number c past) (change_of change) (held (story t r past)) ≡ Some j
      → StoreBy t r past (story t r past) c → shown_story c r past (story t r past) ≡ story t r past
      → StoreBy t r (grown_by (word.Changes r change)) (story t r (grown_by (word.Changes r change))) c
  changed_with change j none live over fits told =
      let k = Tells (life_number c past) (Did j (change_of change)) ∷ story t r past in
      fits_by (word.Changes r change) (own_store (word.Changes r change) none none) refl none k (unless_put change k)
      (changes_step change j live over) (changes_shows change k)
      (subst (λ (p : Patch). StoreFits t r p (bytes_at r (store_owed c past).bytes) (store_owed c past).sizes (store_owed c past).shown
      (life_number c past) [] k (unless_put change k))
      (sym (item_with clean r r (made change (patch_at r (store_owed c past).patches)) (store_owed c past).patches
      ∙ rw (object_self r) refl))
      (fits_told t r (patch_at r (store_owed c past).patches) (bytes_at r (store_owed c past).bytes) (store_owed c past).sizes
      (store_owed c past).shown (life_number c past) (owed_of c past) (story t r past) (shown_story c r past (story t r past)) fits
      change j told none))

  changed_here : (change : Flush) → OwnBy (word.Changes r change)
  changed_here change here g live =
      let before = was_live (word.Changes r change) refl g live in
      let none = none_owed c past (line (turn stamp (Client c)) (word.Changes r change)) (here.stood.heeds.0 c) (λ x. x) in
      let f = changes_over head t r stamp c past change here before in
      changed_with change f.0.lock.cookie.0 none before f.1.over (here.tied.store.of c before)
      (own_told (word.Changes r change) here (λ x. x))

  changed_away : (q : Resource) (change : Flush) → same_resource q r ≡ false → OwnBy (word.Changes q change)
  changed_away q change other here g live =
      let none = none_owed c past (line (turn stamp (Client c)) (word.Changes q change)) (here.stood.heeds.0 c) (λ x. x) in
      let same = own_store (word.Changes q change) none none in
      let still : story t r (grown_by (word.Changes q change)) ≡ story t r past = rw other refl in
      stays_by head t r (line (turn stamp (Client c)) (word.Changes q change)) past here g c live refl
      (ap (λ (s : Store). patch_at r s.patches) same ∙ item_with clean q r (made change (patch_at q (store_owed c past).patches))
      (store_owed c past).patches ∙ rw other refl)
      (ap (λ (s : Store). bytes_at r s.bytes) same) (ap (λ (s : Store). s.sizes) same) (ap (λ (s : Store). s.shown) same)
      (store_same (life_number c past) (story t r past) (story t r (grown_by (word.Changes q change))) still)
      (own_told (word.Changes q change) here (λ x. x))
      (rw (self c, other) refl)
      (λ x i. i)

  pub changes_by : (q : Resource) (change : Flush) → OwnBy (word.Changes q change)
  changes_by q change = by (same_resource q r) refl
    where
      by : (b : Bool) → same_resource q r ≡ b → OwnBy (word.Changes q change)
      by true e = subst (λ (x : Resource). OwnBy (word.Changes x change)) (sym (object_is q r e)) (changed_here change)
      by false e = changed_away q change e

  -- ---- it takes a change to write it back

  takes_step : (change : Flush) (k : ℕ) → is_live c past (story t r past) ≡ true
      → lock_over (life_number c past) (change_of change) (held (story t r past)) ≡ Some k
      → story t r (grown_by (word.WritesBack r change)) ≡ Takes (life_number c past) k (change_of change) ∷ story t r past
  takes_step change k live over = rw (object_self r, live, over) refl

  taken_with : (change : Flush) (j : ℕ) → owed_of c past ≡ [] → is_live c past (story t r past) ≡ true
      → lock_over (life_number c past) (change_of change) (held (story t r past)) ≡ Some j
      → Carries (patch_at r (store_owed c past).patches) change → ((p : ℕ) → says.flying (life_number c past) (story t r past) p ≡ false)
      → (patch_at r (on_object r (flown change) (store_owed c past).patches) ≡ flown change (patch_at r (store_owed c past).patches))
      → StoreBy t r past (story t r past) c → shown_story c r past (story t r past) ≡ story t r past
      → StoreBy t r (grown_by (word.WritesBack r change)) (story t r (grown_by (word.WritesBack r change))) c
  taken_with change j none live over carries idle patch fits told =
      let k = Takes (life_number c past) j (change_of change) ∷ story t r past in
      fits_by (word.WritesBack r change) (own_store (word.WritesBack r change) none none) refl none k k
      (takes_step change j live over) refl
      (subst (λ (p : Patch). StoreFits t r p (bytes_at r (store_owed c past).bytes) (store_owed c past).sizes (store_owed c past).shown
      (life_number c past) [] k k) (sym patch)
      (fits_taken t r (patch_at r (store_owed c past).patches) (bytes_at r (store_owed c past).bytes) (store_owed c past).sizes
      (store_owed c past).shown (life_number c past) (owed_of c past) (story t r past) (shown_story c r past (story t r past)) fits
      change j told none carries idle))

  taken_here : (change : Flush) → OwnBy (word.WritesBack r change)
  taken_here change here g live =
      let before = was_live (word.WritesBack r change) refl g live in
      let none = none_owed c past (line (turn stamp (Client c)) (word.WritesBack r change)) (here.stood.heeds.0 c) (λ x. x) in
      let f = takes_found head t r stamp c past change here before in
      let store : store_owed c past ≡ store_at c past = ap (store_turn (store_at c past)) none in
      let patch : patch_at r (store_owed c past).patches ≡ patch_at r (patches_at c past) = ap (λ (s : Store). patch_at r s.patches) store
      in
      taken_with change f.lock.cookie.0 none before f.over (subst (λ (p : Patch). Carries p change) (sym patch) f.carries)
      (idle here before (ap in_flight patch ∙ here.stood.ok.ok.alone))
      (there f.extent (subst (λ (p : Patch). IsNext f.extent p change) (sym patch) f.next))
      (here.tied.store.of c before) (own_told (word.WritesBack r change) here (λ x. x))
    where
      -- nothing is under way
      none_taken : (w : Option WriteBack) (p : Patch) → TakenAs w p.flight → in_flight p ≡ false → w ≡ None
      none_taken w p tie e = by w p.flight tie e
        where
          by : (w : Option WriteBack) (f : Option Flying) → TakenAs w f → is_some f ≡ false → w ≡ None
          by None f tie e = refl
          by (Some b) None tie e = absurd tie
          by (Some b) (Some f) tie e = absurd (cc)

      idle : Here head t r (line (turn stamp (Client c)) (word.WritesBack r change)) past → is_live c past (story t r past) ≡ true
          → in_flight (patch_at r (store_owed c past).patches) ≡ false → (p : ℕ) → says.flying (life_number c past) (story t r past) p
          ≡ false
      idle here live alone p = by (says.flying (life_number c past) (story t r past) p) refl
        where
          by : (v : Bool) → says.flying (life_number c past) (story t r past) p ≡ v → v ≡ false
          by false e = refl
          by true e =
              let flown = here.world.patches.flown (life_number c past) p e in
              let taken = none_taken (says.taken (life_number c past) (story t r past)) (patch_at r (store_owed c past).patches)
              (here.tied.asked.of c live).taken alone in
              let z : None ≡ Some flown.back = sym taken ∙ flown.taken in
              absurd (cc)

      -- the patch is there
      not_clean : (x : Extent) → IsNext x clean change → ⊥
      not_clean x next = by change next
        where
          by : (ch : Flush) → IsNext x clean ch → ⊥
          by (flush.Cut size) n = let e = n.0 in cc
          by (flush.Put at []) n = let s = n.some in absurd (omega (arith, s))
          by (flush.Put at (b ∷ bs)) n = let e = n.carries at b (rw (self at) refl) in cc

      there : (x : Extent) → IsNext x (patch_at r (store_owed c past).patches) change
          → patch_at r (on_object r (flown change) (store_owed c past).patches) ≡ flown change (patch_at r (store_owed c past).patches)
      there x next = ⊎_elim
          (λ (e : patch_at r (store_owed c past).patches ≡ clean). absurd (not_clean x (subst (λ (p : Patch). IsNext x p change) e next)))
          (λ (e : patch_at r (on_object r (flown change) (store_owed c past).patches)
          ≡ flown change (patch_at r (store_owed c past).patches)). e)
          (patch_on_there r (flown change) (store_owed c past).patches)

  taken_away : (q : Resource) (change : Flush) → same_resource q r ≡ false → OwnBy (word.WritesBack q change)
  taken_away q change other here g live =
      let none = none_owed c past (line (turn stamp (Client c)) (word.WritesBack q change)) (here.stood.heeds.0 c) (λ x. x) in
      let same = own_store (word.WritesBack q change) none none in
      let still : story t r (grown_by (word.WritesBack q change)) ≡ story t r past = rw other refl in
      stays_by head t r (line (turn stamp (Client c)) (word.WritesBack q change)) past here g c live refl
      (ap (λ (s : Store). patch_at r s.patches) same ∙ ⊎_elim
      (λ (e : patch_at r (on_object q (flown change) (store_owed c past).patches) ≡ patch_at r (store_owed c past).patches). e)
      (λ (e : (q ≡ r) × (patch_at r (on_object q (flown change) (store_owed c past).patches)
      ≡ flown change (patch_at r (store_owed c past).patches))). absurd
      (let z : true ≡ false = sym (object_self r) ∙ ap (λ (x : Resource). same_resource x r) (sym e.0) ∙ other in cc))
      (patch_on q r (flown change) (store_owed c past).patches))
      (ap (λ (s : Store). bytes_at r s.bytes) same) (ap (λ (s : Store). s.sizes) same) (ap (λ (s : Store). s.shown) same)
      (store_same (life_number c past) (story t r past) (story t r (grown_by (word.WritesBack q change))) still)
      (own_told (word.WritesBack q change) here (λ x. x))
      refl
      (λ x i. i)

  pub takes_by : (q : Resource) (change : Flush) → OwnBy (word.WritesBack q change)
  takes_by q change = by (same_resource q r) refl
    where
      by : (b : Bool) → same_resource q r ≡ b → OwnBy (word.WritesBack q change)
      by true e = subst (λ (x : Resource). OwnBy (word.WritesBack x change)) (sym (object_is q r e)) (taken_here change)
      by false e = taken_away q change e

  -- ---- its next life

  pub life_by : (who : Who) → OwnBy (word.Life who)
  life_by who here g live =
      let none = none_owed c past (line (turn stamp (Client c)) (word.Life who)) (here.stood.heeds.0 c) (λ x. x) in
      let store : store_owed c (grown_by (word.Life who)) ≡ store_after (store_at c past) (word.Life who) =
      ap (store_turn (store_at c (grown_by (word.Life who)))) none ∙ store_line c stamp past (word.Life who) in
      let life : life_at c (grown_by (word.Life who)) ≡ who = rw (self c) refl in
      let next : who ≡ next_life (life_at c past) = here.stood.ok.ok.next in
      let client : who.client ≡ (life_at c past).client = ap (λ (w : Who). w.client) next in
      let its : (life_at c past).client ≡ c = ap (λ (w : Who). w.client) (life_now c past) ∙ client_now head past here.stood.grown c in
      let later : (life_at who.client past).life < who.life = (let a = ap (λ (w : Who). w.life) next in let b =
      ap (λ (n : ℕ). (life_at n past).life) (client ∙ its) in omega (arith, a, b)) in
      let u = here.tied.store.unborn who later in
      subst (λ (s : Store). StoreFits t r (patch_at r s.patches) (bytes_at r s.bytes) s.sizes s.shown
      (life_number c (grown_by (word.Life who))) (owed_of c (grown_by (word.Life who))) (story t r past) (story t r past)) (sym store)
      (subst (λ (w : Who). StoreFits t r clean [] [] [] (number_of w) (owed_of c past) (story t r past) (story t r past)) (sym life)
      (subst (λ (es : List word.Entry). StoreFits t r clean [] [] [] (number_of who) es (story t r past) (story t r past)) (sym none)
      (record {
        patch = record { pending = sym u.pending; dirty = λ p. sym (u.dirty p); flying = λ p. sym (u.flying p) };
        known = λ p low. sym (u.known p);
        ends = λ l i v last. absurd (u.holds l i v);
        shown = λ l i v. absurd (u.holds l i v);
        unshown = λ k free. refl;
        coming = λ lock marked size seen i. absurd i;
      })))

  -- ---- what an answer told of names

  pub learns_by : (u : ℕ) (o : Op) (a : Answer) (locks : List TableLock) → OwnBy (word.Learns u o a locks)
  learns_by u o a locks here g live = by (owed_of c past) refl
    where
      e : word.Entry
      e = word.Learns u o a locks

      by : (es : List word.Entry) → owed_of c past ≡ es → StoreBy t r (grown_by e) (story t r (grown_by e)) c
      by (x ∷ more) q = heeded_by e x more q refl (λ k. refl) (inr tt) here g live
      by [] q =
          let left : owed_of c (grown_by e) ≡ [] = owed_rest c stamp past e tt ∙ ap marks_left q in
          let same = own_store e q left in
          stays_by head t r (line (turn stamp (Client c)) e) past here g c live refl
          (ap (λ (s : Store). patch_at r s.patches) same) (ap (λ (s : Store). bytes_at r s.bytes) same) (ap (λ (s : Store). s.sizes) same)
          (ap (λ (s : Store). s.shown) same)
          (store_same (life_number c past) (story t r past) (story t r (grown_by e)) refl)
          (own_told e here (λ x. x))
          refl
          (λ x i. absurd (subst (λ (es : List word.Entry). In x es) left i))
