-- A server over the store of a boot gathers with a new window, and what a boot owes and makes.
use Rattle.std.proofs.Common.{◌≡◌, ℕ, suc, ◌+◌, ◌≤◌, max, List, [], ◌∷◌, ◌++◌, take, Option, refl, sym, ap, subst, ◌∙◌, arith}
use Rattle.std.proofs.Common.{Bool, false}
use Rattle.std.specs.Prelude.{Ok, Err, OnOk}
use Rattle.std.specs.Result.{is_err}
use Rattle.std.specs.declared.result.Result.{Result}
use Rattle.lu_base.specs.Faults.{Rose}
use Rattle.lu_base.specs.declared.ids.At.{At}
use Rattle.lu_base.specs.declared.ids.Who.{Who}
use Rattle.lu_msg.specs.declared.commits.Batch.{Batch}
use Rattle.lu_service.specs.declared.services.Kind.{Kind}
use Rattle.lu_service.specs.declared.services.Kind.TheVariants.{Mdt, Ost}
use Rattle.lu_service.specs.Contents.{Contents}
use Rattle.lu_trace.specs.Turns.{Making}
use Rattle.lu_txn.specs.Loads.{AreBelow}
use Rattle.lu_spec_entries.specs.Carried.{Disk}
use Rattle.lu_spec_entries.specs.Words.{Entry, Boot}
use Rattle.lu_spec_target.specs.Disks.{boot_batch, batches_of}
use Rattle.lu_spec_target.specs.Phase.{first_of}
use Rattle.lu_spec_target.specs.Recovery.{row_boot, settles, up_lines}
use Rattle.lu_spec_target.specs.States.{Target, after, empty_disk, no_contents}
use Rattle.lu_target_refines.specs.Journals.{AllRising, ShowsDisk}
use Rattle.lu_target_refines.specs.Lives.{InOrder, OfClients}
use Rattle.lu_target_refines.proofs.Lives.{ordered_loaded}
use Rattle.lu_target_refines.proofs.RisingNumbers.{all_rising_below}
use Rattle.lu_target_refines.proofs.Windows.{opens}
use Rattle.lu_window.specs.States.{State}
use Rattle.lu_target_store.specs.Commits.{last_boot}
use Rattle.lu_target_store.specs.Stores as stores
use Rattle.lu_target_store.specs.Stores.{StoreState}
use Rattle.lu_target_store.proofs.Begins.{boot_is}
use Rattle.lu_target_redo.specs.Shown as redo
use Rattle.lu_target_redo.specs.Shown.{ShowsDiskOf}
use Rattle.lu_target_server.specs.declared.booting.Place.{Place}
use Rattle.lu_target_server.specs.Booting.{StandsOn, IsOver, IsFresh, IsBooting}
use Rattle.lu_target_server.specs.Servers.{ServerState, IsKindOf}
use Rattle.lu_target_server.specs.Passing.{Passes, HasBatches, StopsAt}

-- ---- what stands on a disk

lives_in_order : (batches : List Batch) (v : Target) → ShowsDisk batches v → InOrder v.disk.lives
lives_in_order batches v shows = subst (λ (disk : Disk). InOrder disk.lives) (sym shows.disk)
    (ordered_loaded v.setting.osts batches empty_disk tt)

last_low : (kind : Kind) (osts : ℕ) (own : Contents) → redo.Shows kind osts 1 own no_contents → own.last ≤ 1
last_low Mdt osts own shows = omega (arith, shows.last)
last_low Ost osts own shows = shows.0

-- the numbers there rise from above all that a new service has used
pub may_load : (place : Place) (kind : Kind) (own : Contents) (batches : List Batch) (v : Target) → StandsOn place kind own batches v
    → AllRising own.last batches
may_load place kind own batches v stands = all_rising_below own.last 1 batches (last_low kind v.setting.osts own stands.start.contents)
    stands.disk.rising

-- none is of a boot after the last one there
pub all_below : (place : Place) (kind : Kind) (own : Contents) (batches : List Batch) (v : Target) → StandsOn place kind own batches v
    → AreBelow (last_boot batches + 1) batches
all_below place kind own batches v stands = subst (λ n. AreBelow (n + 1) batches) (sym stands.disk.boot ∙ boot_is batches v stands.disk)
    stands.disk.below

-- ---- the server of the next boot

pub is_booting : (place : Place) (kind : Kind) (own loaded : Contents) (batches : List Batch) (boot : ℕ) (store : StoreState)
    (s : ServerState) (v : Target)
    → StandsOn place kind own batches v → ShowsDiskOf kind batches own loaded
    → ((u : Target) → ShowsDisk batches u → stores.Recovers store (after u (Boot (u.disk.boot + 1) u.disk)))
    → ((w : Target) → stores.Recovers store w → boot ≡ w.boot)
    → IsOver place boot kind loaded store s → IsBooting s v
is_booting place kind own loaded batches boot store s v stands shown booted number over =
    let w : Target = after v (Boot (v.disk.boot + 1) v.disk) in
    let recovers : stores.Recovers store w = booted v stands.disk in
    let is : boot ≡ v.disk.boot + 1 = number w recovers in
    let ordered : InOrder v.disk.lives = lives_in_order batches v stands.disk in
    λ x is_new.
    record {
      id = stands.start.id ∙ sym over.id;
      kind = subst (λ n. IsKindOf n s.kind) (sym over.id) (subst (λ k. IsKindOf place.id.0 k) (sym over.sort) stands.start.sort);
      expire = stands.start.expire ∙ sym over.expire;
      boot = sym is ∙ sym over.booted;
      store = subst (λ (st : StoreState). stores.Recovers st w) (sym over.stored) recovers;
      locks = over.counts w (sym is) (ap first_of (sym is)) refl;
      first = refl;
      contents =
          subst (λ k. redo.Shows k v.setting.osts (max 1 v.disk.committed) s.contents v.disk.contents) (sym over.sort)
          (subst (λ c. redo.Shows kind v.setting.osts (max 1 v.disk.committed) c v.disk.contents) (sym over.contents)
          (shown v 1 stands.disk stands.start.contents stands.disk.rising));
      requests = over.requests;
      window = opens v (v.disk.boot + 1) v.disk x ordered is_new;
      unclosed = ap (λ (state : State). state.closed) is_new;
      sound = record {
        up = refl;
        recovering = omega (arith, stands.closed, stands.disk.boot);
        lives = ordered;
        clients = subst OfClients (sym stands.disk.lives) stands.clients;
        replays = tt;
        rising = tt;
        brought = tt;
        cookies = tt;
        wishes = tt;
      };
    }

-- ---- the batches of a boot

-- what is told of a boot asks the disk for nothing
ups_batches : (w : Target) (lives : List Who) (es : List Entry) → batches_of (up_lines w lives ++ es) ≡ batches_of es
ups_batches w [] es = refl
ups_batches w (who ∷ lives) es = ups_batches w lives es

batch_first : (old : List Batch) (batch : Batch) (more : List Batch) → (old ++ batch ∷ []) ++ more ≡ old ++ batch ∷ more
batch_first [] batch more = refl
batch_first (b ∷ old) batch more = ap (λ (bs : List Batch). b ∷ bs) (batch_first old batch more)

-- the boot's batch, and then those of a close
pub has_boot : (place : Place) (kind : Kind) (own : Contents) (at : At) (old with_boot new : List Batch) (s : ServerState)
    → with_boot ≡ old ++ boot_batch (last_boot old + 1) ∷ [] → ((v : Target) → StandsOn place kind own old v → IsBooting s v)
    → HasBatches (IsFresh s) (settles at) with_boot new → HasBatches (StandsOn place kind own old) (λ v. row_boot v at) old new
has_boot place kind own at old with_boot new s first booting has = λ v stands.
    let w : Target = after v (Boot (v.disk.boot + 1) v.disk) in
    let some = has w (booting v stands) in
    let boot : boot_batch (last_boot old + 1) ≡ boot_batch (v.disk.boot + 1) =
    ap (λ n. boot_batch (n + 1)) (sym (boot_is old v stands.disk)) in (
      some.0 + 1,
      some.1
          ∙ ap (λ (bs : List Batch). bs ++ take some.0 (batches_of (settles at w))) first
          ∙ batch_first old (boot_batch (last_boot old + 1)) (take some.0 (batches_of (settles at w)))
          ∙ ap (λ (batch : Batch). old ++ batch ∷ take some.0 (batches_of (settles at w))) boot
          ∙ ap (λ (bs : List Batch). old ++ boot_batch (v.disk.boot + 1) ∷ take some.0 bs) (sym (ups_batches w w.lives (settles at w)))
          ∙ taken some.0 old (boot_batch (v.disk.boot + 1)) (batches_of (up_lines w w.lives ++ settles at w)),
    ) where
      taken : (n : ℕ) (old : List Batch) (batch : Batch) (more : List Batch) → old ++ batch ∷ take n more ≡ old
          ++ take (n + 1) (batch ∷ more)
      taken n old batch more = let one : suc n ≡ n + 1 = omega arith in ap (λ (k : ℕ). old ++ take k (batch ∷ more)) one

-- ---- the whole boot, of what it did once the server was there

module _ (place : Place) (kind : Kind) (own : Contents) (old : List Batch) (server : ServerState) (before between after_it : Making)
    (booting : (v : Target) → StandsOn place kind own old v → IsBooting server v) (quiet : between ≡ before) where
  pub boot_passes : (new : ServerState) (window : Option State)
      → Passes (IsBooting server) (λ v. row_boot v between.at) new window between after_it
      → Passes (StandsOn place kind own old) (λ v. row_boot v before.at) new window before after_it
  boot_passes new window told =
      let passes : Passes (IsBooting server) (λ v. row_boot v before.at) new window before after_it =
      subst (λ (making : Making). Passes (IsBooting server) (λ v. row_boot v making.at) new window making after_it) quiet told in
      record {
        gives = λ v stands. passes.gives v (booting v stands);
        recovers = λ x is v stands. passes.recovers x is v (booting v stands);
        serves = λ out v stands. passes.serves out v (booting v stands);
      }

  pub boot_stops : StopsAt 2 (IsBooting server) (λ v. row_boot v between.at) between after_it
      → StopsAt 2 (StandsOn place kind own old) (λ v. row_boot v before.at) before after_it
  boot_stops told =
      let stops : StopsAt 2 (IsBooting server) (λ v. row_boot v before.at) before after_it =
      subst (λ (making : Making). StopsAt 2 (IsBooting server) (λ v. row_boot v making.at) making after_it) quiet told in
      λ v stands. stops v (booting v stands)

  pub boot_batches : (with_boot new final : List Batch) → with_boot ≡ old ++ boot_batch (last_boot old + 1) ∷ [] → final ≡ new
      → HasBatches (IsFresh server) (settles between.at) with_boot new
      → HasBatches (StandsOn place kind own old) (λ v. row_boot v before.at) old final
  boot_batches with_boot new final first is_final told =
      subst (λ (bs : List Batch). HasBatches (StandsOn place kind own old) (λ v. row_boot v before.at) old bs) (sym is_final)
      (has_boot place kind own before.at old with_boot new server first booting
      (subst (λ (making : Making). HasBatches (IsFresh server) (settles making.at) with_boot new) quiet told))

-- the same counts of a disk
pub rose_as : (was now old new : ℕ) → was ≡ old → new ≡ now → Rose was now → Rose old new
rose_as was now old new first last rose = subst (λ n. Rose n new) first (subst (λ n. Rose was n) (sym last) rose)

-- a call that gave no error
pub where_ok : {T E P : Type 0} (r : Result T E) (b : Bool) → b ≡ is_err r → b ≡ false → OnOk r P → P
where_ok (Ok x) b is none p = p
where_ok (Err e) b is none p = absurd (cc)
