-- What a call does whose locks are all in use, by what is missing and by what is known.
use Rattle.std.proofs.Common.{◌≡◌, ◌<◌, ℕ, Bool, true, false, List, [], ◌∷◌, length, Option, Some, None, sym, ap, subst, ◌∙◌, arith}
use Rattle.std.specs.Prelude.{◌+◌, ◌-◌, min, if◌then◌else◌}
use Rattle.lu_base.specs.declared.ids.At.{At}
use Rattle.lu_msg.specs.declared.answers.Answer.TheVariants as answer
use Rattle.lu_held.specs.declared.locks.Use.{Use}
use Rattle.lu_spec_entries.specs.Carried.{Work, Running, Writes, Cuts, Stats}
use Rattle.lu_spec_entries.specs.Words.{Entry}
use Rattle.lu_spec_client.specs.Stripes.{stripes}
use Rattle.lu_spec_client.specs.States.{Store}
use Rattle.lu_spec_client.specs.Looks.{Page, missing, content, file_size, has_reached}
use Rattle.lu_spec_client.specs.Advances.{acts, gets, tells, unpins, writes, cuts, looks, widened, reads_wide, reads_narrow, widens}
use Rattle.lu_client_store.specs.Stored.{StoreState, stored_turn}
use Rattle.lu_call.specs.declared.nexts.Next.{Next}
use Rattle.lu_call.specs.Going.{GoesBy}
use Rattle.lu_call.specs.Looked.{Looked, first_left}
use Rattle.lu_call.specs.Ranges.{IsWork, IsWanting, IsActing, is_glimpse}
use Rattle.lu_call.proofs.Going.{goes_as, goes_on, goes_follow, writes_quiet, cuts_quiet, unpins_quiet}

-- ---- a write and a cut

pub acts_write : {new : Running} {before middle after : StoreState} {out : Next} (at : At) (slot p : ℕ) (bs : List ℕ) (r : Running)
    (w : Work) → middle ≡ stored_turn before (writes w.layout p bs w.used)
    → GoesBy (tells slot r at answer.Done (Some w)) slot new middle after out
    → GoesBy (acts at slot (Writes p bs) r w before.store) slot new before after out
acts_write at slot p bs r w written told = goes_on (writes w.layout p bs w.used) (tells slot r at answer.Done (Some w))
    (writes_quiet w.layout p bs w.used) written told

pub acts_cut : {new : Running} {before middle after : StoreState} {out : Next} (at : At) (slot n : ℕ) (r : Running) (w : Work) → middle
    ≡ stored_turn before (cuts w.layout n w.used) → GoesBy (tells slot r at answer.Done (Some w)) slot new middle after out
    → GoesBy (acts at slot (Cuts n) r w before.store) slot new before after out
acts_cut at slot n r w cut told = goes_on (cuts w.layout n w.used) (tells slot r at answer.Done (Some w)) (cuts_quiet w.layout n w.used) cut
    told

-- ---- a size that is told

pub acts_stat : {new : Running} {before after : StoreState} {out : Next} (at : At) (slot mode links : ℕ) (r : Running) (w : Work) (size : ℕ)
    → size ≡ file_size w.layout (stripes w.layout) w.used before.store
    → GoesBy (tells slot r at (answer.FileSize w.fid mode links size) (Some w)) slot new before after out
    → GoesBy (acts at slot (Stats mode links) r w before.store) slot new before after out
acts_stat at slot mode links r w size is goes = goes_as (ap (λ (n : ℕ). tells slot r at (answer.FileSize w.fid mode links n) (Some w))
    (sym is)) goes

-- ---- a read that asks to the end

abbrev wide_on : At → ℕ → ℕ → ℕ → Running → Work → Store → Option Page → List Entry
wide_on at slot p n r w s o =
    elim o [
      | Some g ↦ gets slot g r w
      | None ↦ tells slot r at (answer.Content (content w.layout w.fid s p (min n (file_size w.layout (stripes w.layout) w.used s - p))))
          (Some w)
    ]

pub wide_fetches : {new : Running} {before after : StoreState} {out : Next} (at : At) (slot p n : ℕ) (r : Running) (w : Work) (g : Page)
    → missing w.layout p (p + n) before.store w.used ≡ Some g → GoesBy (gets slot g r w) slot new before after out
    → GoesBy (reads_wide at slot p n r w before.store) slot new before after out
wide_fetches {before = before} at slot p n r w g found goes = goes_as (ap (wide_on at slot p n r w before.store) found) goes

pub wide_tells : {new : Running} {before after : StoreState} {out : Next} (at : At) (slot p n : ℕ) (r : Running) (w : Work) (bytes : List ℕ)
    → missing w.layout p (p + n) before.store w.used ≡ None → bytes
    ≡ content w.layout w.fid before.store p (min n (file_size w.layout (stripes w.layout) w.used before.store - p))
    → GoesBy (tells slot r at (answer.Content bytes) (Some w)) slot new before after out
    → GoesBy (reads_wide at slot p n r w before.store) slot new before after out
wide_tells {before = before} at slot p n r w bytes found are goes =
    goes_as (ap (wide_on at slot p n r w before.store) found ∙ ap (λ (bs : List ℕ). tells slot r at (answer.Content bs) (Some w)) (sym are))
    goes

-- ---- a narrow read

abbrev narrow_at : At → ℕ → ℕ → ℕ → Running → Work → Store → Bool → List Entry
narrow_at at slot p n r w s b = if b then tells slot r at (answer.Content (content w.layout w.fid s p n)) (Some w)
    else widens at slot p n r w s

abbrev narrow_on : At → ℕ → ℕ → ℕ → Running → Work → Store → Option Page → List Entry
narrow_on at slot p n r w s o = elim o [
  | Some g ↦ gets slot g r w
  | None
      ↦ narrow_at at slot p n r w s (has_reached w.layout (p + n - 1) w.used s)
]

pub narrow_fetches : {new : Running} {before after : StoreState} {out : Next} (at : At) (slot p n : ℕ) (r : Running) (w : Work) (g : Page)
    → missing w.layout p (p + n) before.store w.used ≡ Some g → GoesBy (gets slot g r w) slot new before after out
    → GoesBy (reads_narrow at slot p n r w before.store) slot new before after out
narrow_fetches {before = before} at slot p n r w g found goes = goes_as (ap (narrow_on at slot p n r w before.store) found) goes

pub narrow_widens : {new : Running} {before after : StoreState} {out : Next} (at : At) (slot p n : ℕ) (r : Running) (w : Work)
    → missing w.layout p (p + n) before.store w.used ≡ None → has_reached w.layout (p + n - 1) w.used before.store ≡ false
    → GoesBy (widens at slot p n r w before.store) slot new before after out
    → GoesBy (reads_narrow at slot p n r w before.store) slot new before after out
narrow_widens {before = before} at slot p n r w found reached goes =
    goes_as (ap (narrow_on at slot p n r w before.store) found ∙ ap (narrow_at at slot p n r w before.store) reached) goes

pub narrow_tells : {new : Running} {before after : StoreState} {out : Next} (at : At) (slot p n : ℕ) (r : Running) (w : Work)
    (bytes : List ℕ) → missing w.layout p (p + n) before.store w.used ≡ None → has_reached w.layout (p + n - 1) w.used before.store ≡ true
    → bytes ≡ content w.layout w.fid before.store p n → GoesBy (tells slot r at (answer.Content bytes) (Some w)) slot new before after out
    → GoesBy (reads_narrow at slot p n r w before.store) slot new before after out
narrow_tells {before = before} at slot p n r w bytes found reached are goes =
    goes_as (ap (narrow_on at slot p n r w before.store) found ∙ ap (narrow_at at slot p n r w before.store) reached
    ∙ ap (λ (bs : List ℕ). tells slot r at (answer.Content bs) (Some w)) (sym are)) goes

-- ---- a narrow read that asks to the end

-- after its locks were unpinned
pub widens_on : {last : Running} {before bare after : StoreState} {out : Next} (at : At) (slot p n : ℕ) (r old : Running) (w from : Work)
    → old ≡ record r { pins = [] } → bare ≡ stored_turn before (unpins r.pins) → from ≡ widened p n w
    → GoesBy (looks slot (reads_wide at slot p n) from.left old from bare.store) slot last bare after out
    → GoesBy (widens at slot p n r w before.store) slot last before after out
widens_on {last = last} {before = before} {bare = bare} {after = after} {out = out} at slot p n r old w from call store work goes =
    goes_follow (unpins r.pins) (looks slot (reads_wide at slot p n) (widened p n w).left (record r { pins = [] }) (widened p n w))
    (unpins_quiet r.pins) store
    (subst (λ (v : Work). GoesBy (looks slot (reads_wide at slot p n) v.left (record r { pins = [] }) v bare.store) slot last bare after
    out) work
    (subst (λ (q : Running). GoesBy (looks slot (reads_wide at slot p n) from.left q from bare.store) slot last bare after out) call goes))

-- ---- what a call that has looked may do

-- it asks for the first lock that is left
pub looked_wanting : (o : Option Use) (wanted : Use) (w : Work) → o ≡ Some wanted → o ≡ first_left w.left → IsWork w → IsWanting w
looked_wanting o wanted w is first sound = record { work = sound; some = by w.left (sym is ∙ first) }
  where
    by : (left : List Use) → Some wanted ≡ first_left left → 0 < length left
    by [] e = absurd (cc)
    by (u ∷ left) e = omega arith

-- it acts, as what it was
pub looked_acting : {wanted : Option Use} {old new : Running} {from to : Work} {before after : StoreState}
    → Looked wanted old new from to before after → is_glimpse from.kind ≡ false → IsWork to → IsActing to
looked_acting looked kind sound = record { work = sound; kind = ap (λ (w : Work). is_glimpse w.kind) looked.same ∙ kind }
