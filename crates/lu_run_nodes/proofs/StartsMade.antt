-- The nodes before their start and after it, one seat after another.
use Rattle.std.proofs.Common.{◌≡◌, ℕ, zero, suc, ◌+◌, ◌<◌, ◌≤◌, ◌⊎◌, inl, inr, List, [], ◌∷◌, ◌++◌, length, get_or, refl, sym, subst, ap}
use Rattle.std.proofs.Common.{◌∙◌, add-one, arith}
use Rattle.std.specs.Prelude.{Some, None, Result, Err, slice_set}
use Rattle.std.proofs.Math.Seq.{get_or-append_seam}
use Rattle.std.proofs.lemmas.Bool.{cases_lt}
use Rattle.std.proofs.lemmas.List.{get_or_append_left, get_or-set_same, get_or-set_other, length-set}
use Rattle.std.proofs.lemmas.List.Elements.{All-cons, All-set}
use Rattle.lu_base.specs.declared.ids.Stamp.{Stamp}
use Rattle.lu_base.specs.declared.ids.TargetId.{TargetId}
use Rattle.lu_base.specs.declared.ids.Who.{Who}
use Rattle.lu_service.specs.declared.services.Kind.{Kind}
use Rattle.lu_service.specs.declared.services.Kind.TheVariants.{Ost}
use Rattle.lu_trace.specs.declared.traces.Step.{Step}
use Rattle.lu_spec_target.specs.States.{lives_from}
use Rattle.lu_spec_run.specs.Heads.{Head}
use Rattle.lu_run_nodes.specs.declared.faults.StartFault.{StartFault}
use Rattle.lu_run_nodes.specs.declared.faults.TurnFault.{TurnFault}
use Rattle.lu_run_nodes.specs.States.{ClientSeat, DiskState, TargetSeat, NodesState}
use Rattle.lu_run_nodes.specs.Shown.{kind_of, ShowsTarget, IsUnstarted, AreUnstarted, ShowsNodes}
use Rattle.lu_run_nodes.specs.Turns.{StartFails, NodesFailStart}
use Rattle.lu_run_nodes.proofs.Disks.{HasDisk, shown_has, waiting_have}
use Rattle.lu_run_nodes.proofs.NodesMade.{disk_at_object, with_names, with_object}

-- ---- the first lives, one after another

abbrev first_life : ℕ → Who
first_life c = record { client = c; life = 1 }

pub lives_more : (from n : ℕ) → lives_from from n ++ first_life (from + n) ∷ [] ≡ lives_from from (suc n)
lives_more from zero = let same : from + 0 ≡ from = omega arith in ap (λ (c : ℕ). first_life c ∷ []) same
lives_more from (suc n) =
    let same : from + suc n ≡ from + 1 + n = omega arith in
    ap (λ (c : ℕ). first_life from ∷ (lives_from (from + 1) n ++ first_life c ∷ [])) same
    ∙ ap (λ (lives : List Who). first_life from ∷ lives) (lives_more (from + 1) n)

pub lives_next : (n : ℕ) → lives_from 0 n ++ first_life n ∷ [] ≡ lives_from 0 (n + 1)
lives_next n =
    let same : n ≡ 0 + n = omega arith in
    ap (λ (c : ℕ). lives_from 0 n ++ first_life c ∷ []) same ∙ lives_more 0 n ∙ ap (lives_from 0) (sym (add-one n))

-- ---- what holds of each item of a list, and of one more

module _ {A : Type 0} (P : ℕ → A → Type 0) where
  -- at its end
  pub one_added : (items : List A) (n : ℕ) (item : A) → length items ≡ n → ((i : ℕ) (d : A) → i < n → P i (get_or items i d)) → P n item
      → (i : ℕ) (d : A) → i < n + 1 → P i (get_or (items ++ item ∷ []) i d)
  one_added items n item count each new i d below = by (cases_lt i n)
    where
      by : (i < n) ⊎ (n ≤ i) → P i (get_or (items ++ item ∷ []) i d)
      by (inl less) = subst (P i) (sym (get_or_append_left items (item ∷ []) d i (subst (λ (k : ℕ). i < k) (sym count) less)))
          (each i d less)
      by (inr more) =
          let last : n ≡ i = omega arith in
          subst (λ (k : ℕ). P k (get_or (items ++ item ∷ []) k d)) (count ∙ last)
          (subst (P (length items)) (sym (get_or-append_seam items item [] d)) (subst (λ (k : ℕ). P k item) (sym count) new))

  -- at the place where it ends so far
  pub one_replaced : (items : List A) (place : ℕ) (item : A) → place < length items → ((i : ℕ) (d : A) → i < place → P i (get_or items i d))
      → P place item
      → (i : ℕ) (d : A) → i < place + 1 → P i (get_or (slice_set items place item) i d)
  one_replaced items place item within each new i d below = by (cases_lt i place)
    where
      by : (i < place) ⊎ (place ≤ i) → P i (get_or (slice_set items place item) i d)
      by (inl less) = subst (P i) (sym (get_or-set_other items place i item d (omega arith))) (each i d less)
      by (inr more) =
          let same : place ≡ i = omega arith in
          subst (λ (k : ℕ). P k (get_or (slice_set items place item) k d)) same
          (subst (P place) (sym (get_or-set_same items place item d within)) new)

-- those behind it stay
pub others_wait : {A : Type 0} (old items : List A) (place : ℕ) (item : A)
    → ((i : ℕ) (d : A) → place ≤ i → get_or items i d ≡ get_or old i d)
    → (i : ℕ) (d : A) → place + 1 ≤ i → get_or (slice_set items place item) i d ≡ get_or old i d
others_wait old items place item same i d behind = get_or-set_other items place i item d (omega arith) ∙ same i d (omega arith)

-- ---- a target before the start

pub unstarted_at : (head : Head) (t : ℕ) (kind : Kind) (disk : DiskState) (seat : TargetSeat)
    → seat ≡ record { id = t; osts = head.osts; expire = head.expire; kind = kind; target = None; disk = Some disk } → kind ≡ kind_of t
    → disk.batches ≡ [] → IsUnstarted head t seat
unstarted_at head t kind disk seat is sort empty =
    subst (IsUnstarted head t) (sym is) (record {
      sits = record { id = refl; osts = refl; expire = refl; sort = sort };
      target = refl;
      disk = (disk, refl, empty);
    })

pub object_sort : (n : ℕ) → Ost ≡ kind_of (n + 1)
object_sort n = sym (ap kind_of (add-one n))

-- ---- the start

-- a target that didn't start, and why
abbrev Stops : StartFault → Result (Unit {0}) StartFault
Stops stop = Err stop

pub stop_says : (stop : StartFault) (t : TargetId) (f : TurnFault) (n : ℕ) (why : TurnFault) → Stops stop
    ≡ Stops (record { target = t; fault = f })
    → stop ≡ record { target = record { 0 = n }; fault = why } → (n ≡ t.0) × (why ≡ f)
stop_says stop t f n why is stops =
    let same : stop ≡ record { target = t; fault = f } = cc in
    (ap (λ (s : StartFault). s.target.0) (sym stops ∙ same), ap (λ (s : StartFault). s.fault) (sym stops ∙ same))

-- the nodes in their start: the metadata target and so many object storage targets show that nothing has happened; the others
-- and the clients are as they were
pub record AreStarting (old now : NodesState) (place : ℕ) : Type 0 where
  pub clients : now.clients ≡ old.clients
  pub objects : length now.objects ≡ length old.objects
  pub names : (head : Head) → AreUnstarted head old → ShowsTarget head [] 0 now.names
  pub started : (head : Head) → AreUnstarted head old → (i : ℕ) (d : TargetSeat) → i < place
      → ShowsTarget head [] (i + 1) (get_or now.objects i d)
  pub waiting : (i : ℕ) (d : TargetSeat) → place ≤ i → get_or now.objects i d ≡ get_or old.objects i d

pub names_started : (old : NodesState) (new : TargetSeat) → ((head : Head) → AreUnstarted head old → ShowsTarget head [] 0 new)
    → AreStarting old (with_names old new) 0
names_started old new shows =
    record {
      clients = refl;
      objects = refl;
      names = shows;
      started = λ head unstarted i d below. absurd (omega arith);
      waiting = λ i d behind. refl;
    }

-- all are started
pub all_started : (old now : NodesState) → AreStarting old now (length now.objects) → (head : Head) → AreUnstarted head old
    → ShowsNodes head 0 [] now
all_started old now starting head unstarted =
    let count = starting.objects ∙ unstarted.objects in
    record {
      clients = ap (λ (clients : List ClientSeat). length clients) starting.clients ∙ unstarted.clients;
      objects = count;
      client = λ c d below. rw starting.clients (unstarted.client c d below);
      names = starting.names head unstarted;
      object = λ i d below. starting.started head unstarted i d (subst (λ (n : ℕ). i < n) (sym count) below);
    }

-- the metadata target doesn't start
pub names_stop : (old : NodesState) (new : TargetSeat) (stamp : Stamp) (step : Step) (head : Head) → AreUnstarted head old
    → StartFails 0 stamp old.names new step
    → NodesFailStart head 0 stamp old (with_names old new) step
names_stop old new stamp step head unstarted fails =
    record {
      one = omega arith;
      rose = fails.rose;
      gives = fails.gives;
      kept = All-cons HasDisk new old.objects fails.kept (waiting_have head old unstarted);
      count = refl;
    }

module _ (old now : NodesState) (place : ℕ) (seat : TargetSeat) (starting : AreStarting old now place) (within : place < length now.objects)
    (is : seat ≡ get_or now.objects place seat) where
  -- the next to start is as it was
  was : seat ≡ get_or old.objects place seat
  was = is ∙ starting.waiting place seat (omega arith)

  within_old : place < length old.objects
  within_old = subst (λ (n : ℕ). place < n) starting.objects within

  pub next_unstarted : (head : Head) → AreUnstarted head old → IsUnstarted head (place + 1) seat
  next_unstarted head unstarted = subst (IsUnstarted head (place + 1)) (sym was)
      (unstarted.object place seat (subst (λ (n : ℕ). place < n) unstarted.objects within_old))

  -- those that are started have their disks, and so have those that wait
  starting_have : (head : Head) → AreUnstarted head old → (i : ℕ) (d : TargetSeat) → i < length now.objects
      → HasDisk (get_or now.objects i d)
  starting_have head unstarted i d below = by (cases_lt i place)
    where
      by : (i < place) ⊎ (place ≤ i) → HasDisk (get_or now.objects i d)
      by (inl less) = shown_has head [] (i + 1) (get_or now.objects i d) (starting.started head unstarted i d less)
      by (inr more) =
          let within : i < length old.objects = subst (λ (n : ℕ). i < n) starting.objects below in
          subst HasDisk (sym (starting.waiting i d more)) (waiting_have head old unstarted i d within)

  pub next_started : (new : TargetSeat) → ((head : Head) → IsUnstarted head (place + 1) seat → AreUnstarted head old
      → ShowsTarget head [] (place + 1) new)
      → AreStarting old (with_object now place new) (place + 1)
  next_started new shows =
      record {
        clients = starting.clients;
        objects = length-set now.objects place new ∙ starting.objects;
        names = starting.names;
        started = λ head unstarted.
            one_replaced (λ i s. ShowsTarget head [] (i + 1) s) now.objects place new within (starting.started head unstarted)
            (shows head (next_unstarted head unstarted) unstarted);
        waiting = others_wait old.objects now.objects place new starting.waiting;
      }

  -- it doesn't start
  pub next_stops : (new : TargetSeat) (stamp : Stamp) (step : Step) (head : Head) → AreUnstarted head old
      → StartFails (place + 1) stamp seat new step
      → NodesFailStart head (place + 1) stamp old (with_object now place new) step
  next_stops new stamp step head unstarted fails =
      let before = disk_at_object old place seat within_old was in
      let stays : place < length (slice_set now.objects place new) =
      subst (λ (n : ℕ). place < n) (sym (length-set now.objects place new)) within in
      let after = disk_at_object (with_object now place new) place new stays (sym (get_or-set_same now.objects place new new within)) in
      record {
        one = let count = unstarted.objects in let below = within_old in omega arith;
        rose = rw (before, after) fails.rose;
        gives = fails.gives;
        kept =
            All-cons HasDisk now.names (slice_set now.objects place new) (shown_has head [] 0 now.names (starting.names head unstarted))
            (All-set HasDisk now.objects place new fails.kept (starting_have head unstarted));
        count = length-set now.objects place new ∙ starting.objects;
      }

-- ---- each object storage target has its seat

pub all_seated : (n target osts : ℕ) → n + 1 ≡ target → target ≤ osts + 1 → osts + 1 ≤ target → n ≡ osts
all_seated n target osts count end past = omega (arith, count, end, past)

pub one_at_least : (n : ℕ) → 1 ≤ n + 1
one_at_least n = omega arith

pub none_below : (n : ℕ) → n < 0 → ⊥
none_below n below = omega (arith, below)
