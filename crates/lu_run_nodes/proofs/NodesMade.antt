-- What the nodes give and show after the turn of one of them.
use Rattle.std.proofs.Common.{◌≡◌, ℕ, ◌+◌, ◌<◌, ◌≤◌, ◌==◌, Bool, true, false, List, length, get_or, refl, sym, subst, ap, ◌∙◌, add-one}
use Rattle.std.proofs.Common.{arith}
use Rattle.std.specs.Prelude.{not, is_some, slice_set}
use Rattle.std.proofs.lemmas.Bool.{eqb-true, eqb-false, ne_eqb}
use Rattle.std.proofs.lemmas.List.{get_or-set_same, get_or-set_other, length-set}
use Rattle.std.proofs.lemmas.List.Elements.{All-cons, All-set}
use Rattle.std.proofs.lemmas.Option.{slice_get-get_or, slice_get_past}
use Rattle.lu_base.specs.Faults.{Rose}
use Rattle.lu_base.specs.declared.ids.Node.TheVariants.{Client, Target}
use Rattle.lu_base.specs.declared.ids.Stamp.{Stamp}
use Rattle.lu_trace.specs.declared.traces.Step.{Step}
use Rattle.lu_spec_entries.specs.Words.{Entry, Line, with_turn}
use Rattle.lu_spec_target.specs.Rows as target
use Rattle.lu_spec_client.specs.Rows as client
use Rattle.lu_spec_run.specs.Heads.{Head}
use Rattle.lu_spec_run.specs.Runs.{row_at}
use Rattle.lu_run_nodes.specs.States.{ClientSeat, TargetSeat, NodesState, is_off, target_in, disk_in, disk_at, faults_of, seat_disk}
use Rattle.lu_run_nodes.specs.Shown.{ShowsClient, IsClientShown, ShowsTarget, IsTargetShown, ShowsNodes, AreShown}
use Rattle.lu_run_nodes.specs.Turns.{turn_at, ClientMakes, TargetMakes, TargetFails, NodesMake, NodesFail}
use Rattle.lu_run_nodes.proofs.Disks.{HasDisk, objects_have, shown_has}
use Rattle.lu_run_nodes.proofs.NodesStay.{client_stays, target_stays}

-- the nodes with another seat of a client, of the metadata target, or of an object storage target
abbrev pub with_client : NodesState → ℕ → ClientSeat → NodesState
with_client nodes c seat = record { clients = slice_set nodes.clients c seat; names = nodes.names; objects = nodes.objects }

abbrev pub with_names : NodesState → TargetSeat → NodesState
with_names nodes seat = record { clients = nodes.clients; names = seat; objects = nodes.objects }

abbrev pub with_object : NodesState → ℕ → TargetSeat → NodesState
with_object nodes i seat = record { clients = nodes.clients; names = nodes.names; objects = slice_set nodes.objects i seat }

-- ---- of nodes that show a past, each does

pub client_is_shown : (nodes : NodesState) (c : ℕ) (seat : ClientSeat) → AreShown nodes → c < length nodes.clients → seat
    ≡ get_or nodes.clients c seat → IsClientShown seat
client_is_shown nodes c seat shown within is =
    let shows = shown.1.1.2 in (
      shown.0,
      (
        shown.1.0,
        (
          c,
          (
            shown.1.1.0,
            shown.1.1.1,
            subst (ShowsClient shown.0 shown.1.0 shown.1.1.0 c) (sym is)
                (shows.client c seat (subst (λ (n : ℕ). c < n) shows.clients within)),
          ),
        ),
      ),
    )

pub names_are_shown : (nodes : NodesState) → AreShown nodes → IsTargetShown nodes.names
names_are_shown nodes shown = (shown.0, (0, (shown.1.1.0, shown.1.1.2.names)))

pub object_is_shown : (nodes : NodesState) (i : ℕ) (seat : TargetSeat) → AreShown nodes → i < length nodes.objects → seat
    ≡ get_or nodes.objects i seat → IsTargetShown seat
object_is_shown nodes i seat shown within is =
    let shows = shown.1.1.2 in (
      shown.0,
      (
        i + 1,
        (
          shown.1.1.0,
          subst (ShowsTarget shown.0 shown.1.1.0 (i + 1)) (sym is)
              (shows.object i seat (subst (λ (n : ℕ). i < n) shows.objects within)),
        ),
      ),
    )

-- ---- which targets are down

pub off_at : (nodes : NodesState) (t i : ℕ) (seat : TargetSeat) → t ≡ i + 1 → i < length nodes.objects → seat ≡ get_or nodes.objects i seat
    → is_off (target_in nodes t) ≡ not (is_some seat.target)
off_at nodes t i seat one within is =
    ap (λ (k : ℕ). is_off (target_in nodes k)) (one ∙ add-one i) ∙ ap is_off (slice_get-get_or nodes.objects i seat within)
    ∙ ap (λ (s : TargetSeat). not (is_some s.target)) (sym is)

pub off_past : (nodes : NodesState) (t i : ℕ) → t ≡ i + 1 → length nodes.objects ≤ i → is_off (target_in nodes t) ≡ false
off_past nodes t i one past = ap (λ (k : ℕ). is_off (target_in nodes k)) (one ∙ add-one i) ∙ ap is_off (slice_get_past nodes.objects i past)

-- ---- one item of a list is another

-- what holds of each item, and is kept by the others and brought by the new one, holds of each item of the list with it
module _ {A : Type 0} (P Q : ℕ → A → Type 0) (items : List A) (place count : ℕ) (item : A) (counts : length items ≡ count)
    (within : place < length items) where
  pub one_changes : ((i : ℕ) (d : A) → i < count → P i (get_or items i d)) → ((i : ℕ) (x : A) → (i ≡ place → ⊥) → P i x → Q i x)
      → Q place item
      → (i : ℕ) (d : A) → i < count → Q i (get_or (slice_set items place item) i d)
  one_changes each keeps new i d below = by (i == place) refl
    where
      by : (here : Bool) → (i == place) ≡ here → Q i (get_or (slice_set items place item) i d)
      by true here =
          let same = eqb-true i place here in
          subst (λ (k : ℕ). Q k (get_or (slice_set items place item) k d)) (sym same)
          (subst (Q place) (sym (get_or-set_same items place item d within)) new)
      by false here =
          let other = eqb-false i place here in
          subst (Q i) (sym (get_or-set_other items place i item d other)) (keeps i (get_or items i d) other (each i d below))

-- ---- the turn of a client

module _ (nodes : NodesState) (c : ℕ) (stamp : Stamp) (old new : ClientSeat) (within : c < length nodes.clients)
    (is : old ≡ get_or nodes.clients c old) where
  client_shows : (head : Head) (turns : ℕ) (past : List Line) → ShowsNodes head turns past nodes → ShowsClient head turns past c old
  client_shows head turns past shows = subst (ShowsClient head turns past c) (sym is)
      (shows.client c old (subst (λ (n : ℕ). c < n) shows.clients within))

  client_turned : (head : Head) (turns : ℕ) (past : List Line) (es : List Entry) → ShowsNodes head turns past nodes
      → ShowsClient head (turns + 1) (with_turn (turn_at stamp (Client c)) es past) c new
      → ShowsNodes head (turns + 1) (with_turn (turn_at stamp (Client c)) es past) (with_client nodes c new)
  client_turned head turns past es shows turned =
      let at = turn_at stamp (Client c) in
      record {
        clients = length-set nodes.clients c new ∙ shows.clients;
        objects = shows.objects;
        client =
            one_changes (ShowsClient head turns past) (ShowsClient head (turns + 1) (with_turn at es past)) nodes.clients c head.clients new
            shows.clients within
            shows.client (λ i x other kept. client_stays head turns past i x at es (ne_eqb i c other) kept) turned;
        names = target_stays head past 0 nodes.names at es refl shows.names;
        object = λ i d below. target_stays head past (i + 1) (get_or nodes.objects i d) at es refl (shows.object i d below);
      }

  pub client_made : (given event : client.Event) (step : Step) → ClientMakes given event stamp old new step
      → NodesMake (Client c) given event stamp nodes (with_client nodes c new) step
  client_made given event step makes =
      record {
        gives = λ head turns past shows. makes.gives head turns c past (client_shows head turns past shows);
        shows = λ head turns past shows.
            client_turned head turns past (row_at head past (turn_at stamp (Client c)) (Client c) event) shows
            (makes.shows head turns c past (client_shows head turns past shows));
        one = λ head turns past shows. subst (λ (n : ℕ). c < n) shows.clients within;
        room = λ head turns past shows. tt;
      }

-- ---- the turn of the metadata target

one_more_is_other : (i : ℕ) → ((i + 1) == 0) ≡ false
one_more_is_other i = ne_eqb (i + 1) 0 (omega arith)

zero_le : (n : ℕ) → 0 ≤ n
zero_le n = omega arith

one_more_le : (i n : ℕ) → i < n → i + 1 ≤ n
one_more_le i n below = omega (arith, below)

zero_is_other : (i : ℕ) → (0 == (i + 1)) ≡ false
zero_is_other i = ne_eqb 0 (i + 1) (omega arith)

module _ (nodes : NodesState) (stamp : Stamp) (new : TargetSeat) where
  names_turned : (head : Head) (turns : ℕ) (past : List Line) (es : List Entry) → ShowsNodes head turns past nodes
      → ShowsTarget head (with_turn (turn_at stamp (Target 0)) es past) 0 new
      → ShowsNodes head (turns + 1) (with_turn (turn_at stamp (Target 0)) es past) (with_names nodes new)
  names_turned head turns past es shows turned =
      let at = turn_at stamp (Target 0) in
      record {
        clients = shows.clients;
        objects = shows.objects;
        client = λ i d below. client_stays head turns past i (get_or nodes.clients i d) at es refl (shows.client i d below);
        names = turned;
        object = λ i d below. target_stays head past (i + 1) (get_or nodes.objects i d) at es (one_more_is_other i)
            (shows.object i d below);
      }

  pub names_made : (given event : target.Event) (step : Step) → TargetMakes given event stamp nodes.names new step
      → NodesMake (Target 0) given event stamp nodes (with_names nodes new) step
  names_made given event step makes =
      record {
        gives = λ head turns past shows. makes.gives head 0 past shows.names;
        shows = λ head turns past shows.
            names_turned head turns past (row_at head past (turn_at stamp (Target 0)) (Target 0) event) shows
            (makes.shows head 0 past shows.names);
        one = λ head turns past shows. zero_le head.osts;
        room = λ head turns past shows. makes.room head 0 past shows.names;
      }

  pub names_failed : (event : target.Event) (step : Step) → TargetFails event stamp nodes.names new step
      → NodesFail 0 event stamp nodes (with_names nodes new) step
  names_failed event step fails =
      record {
        rose = fails.rose;
        gives = λ head turns past shows. fails.gives head 0 past shows.names;
        one = λ head turns past shows. zero_le head.osts;
        kept = λ head turns past shows. All-cons HasDisk new nodes.objects fails.kept (objects_have head turns past nodes shows);
        count = refl;
      }

-- ---- the turn of an object storage target

pub disk_at_object : (nodes : NodesState) (i : ℕ) (seat : TargetSeat) → i < length nodes.objects → seat ≡ get_or nodes.objects i seat
    → disk_at nodes (i + 1) ≡ disk_in seat
disk_at_object nodes i seat within is = rw add-one (ap seat_disk (slice_get-get_or nodes.objects i seat within)
    ∙ ap (λ (s : TargetSeat). disk_in s) (sym is))

module _ (nodes : NodesState) (i : ℕ) (stamp : Stamp) (old new : TargetSeat) (within : i < length nodes.objects)
    (is : old ≡ get_or nodes.objects i old) where
  object_shows : (head : Head) (turns : ℕ) (past : List Line) → ShowsNodes head turns past nodes → ShowsTarget head past (i + 1) old
  object_shows head turns past shows = subst (ShowsTarget head past (i + 1)) (sym is)
      (shows.object i old (subst (λ (n : ℕ). i < n) shows.objects within))

  object_turned : (head : Head) (turns : ℕ) (past : List Line) (es : List Entry) → ShowsNodes head turns past nodes
      → ShowsTarget head (with_turn (turn_at stamp (Target (i + 1))) es past) (i + 1) new
      → ShowsNodes head (turns + 1) (with_turn (turn_at stamp (Target (i + 1))) es past) (with_object nodes i new)
  object_turned head turns past es shows turned =
      let at = turn_at stamp (Target (i + 1)) in
      record {
        clients = shows.clients;
        objects = length-set nodes.objects i new ∙ shows.objects;
        client = λ k d below. client_stays head turns past k (get_or nodes.clients k d) at es refl (shows.client k d below);
        names = target_stays head past 0 nodes.names at es (zero_is_other i) shows.names;
        object =
            one_changes (λ k seat. ShowsTarget head past (k + 1) seat) (λ k seat. ShowsTarget head (with_turn at es past) (k + 1) seat)
            nodes.objects i head.osts new shows.objects within
            shows.object (λ k x other kept. target_stays head past (k + 1) x at es (ne_eqb (k + 1) (i + 1) (λ same. other (omega arith)))
            kept) turned;
      }

  object_one : (head : Head) (turns : ℕ) (past : List Line) → ShowsNodes head turns past nodes → i + 1 ≤ head.osts
  object_one head turns past shows = one_more_le i head.osts (subst (λ (n : ℕ). i < n) shows.objects within)

  object_rose : Rose (faults_of (disk_in old)) (faults_of (disk_in new))
      → Rose (faults_of (disk_at nodes (i + 1))) (faults_of (disk_at (with_object nodes i new) (i + 1)))
  object_rose rose =
      let before = disk_at_object nodes i old within is in
      let stays : i < length (slice_set nodes.objects i new) = subst (λ (n : ℕ). i < n) (sym (length-set nodes.objects i new)) within in
      let after = disk_at_object (with_object nodes i new) i new stays (sym (get_or-set_same nodes.objects i new new within)) in
      rw (before, after) rose

  pub object_made : (given event : target.Event) (step : Step) → TargetMakes given event stamp old new step
      → NodesMake (Target (i + 1)) given event stamp nodes (with_object nodes i new) step
  object_made given event step makes =
      record {
        gives = λ head turns past shows. makes.gives head (i + 1) past (object_shows head turns past shows);
        shows = λ head turns past shows.
            object_turned head turns past (row_at head past (turn_at stamp (Target (i + 1))) (Target (i + 1)) event) shows
            (makes.shows head (i + 1) past (object_shows head turns past shows));
        one = object_one;
        room = λ head turns past shows. makes.room head (i + 1) past (object_shows head turns past shows);
      }

  pub object_failed : (event : target.Event) (step : Step) → TargetFails event stamp old new step
      → NodesFail (i + 1) event stamp nodes (with_object nodes i new) step
  object_failed event step fails =
      record {
        rose = object_rose fails.rose;
        gives = λ head turns past shows. fails.gives head (i + 1) past (object_shows head turns past shows);
        one = object_one;
        kept = λ head turns past shows.
            All-cons HasDisk nodes.names (slice_set nodes.objects i new) (shown_has head past 0 nodes.names shows.names)
            (All-set HasDisk nodes.objects i new fails.kept (objects_have head turns past nodes shows));
        count = length-set nodes.objects i new;
      }

-- ---- as callers see the nodes

module _ (nodes seen : NodesState) (stamp : Stamp) (same : nodes ≡ seen) where
  pub client_step : (c : ℕ) (old new : ClientSeat) → c < length nodes.clients → old ≡ get_or nodes.clients c old
      → (given event : client.Event) (step : Step) → ClientMakes given event stamp old new step
      → NodesMake (Client c) given event stamp seen (with_client nodes c new) step
  client_step c old new within is given event step makes =
      subst (λ (n : NodesState). NodesMake (Client c) given event stamp n (with_client nodes c new) step) same
      (client_made nodes c stamp old new within is given event step makes)

  pub names_step : (t : ℕ) (new : TargetSeat) → t ≡ 0 → (given event : target.Event) (step : Step)
      → TargetMakes given event stamp nodes.names new step
      → NodesMake (Target t) given event stamp seen (with_names nodes new) step
  names_step t new none given event step makes =
      subst (λ (n : NodesState). NodesMake (Target t) given event stamp n (with_names nodes new) step) same
      (subst (λ (k : ℕ). NodesMake (Target k) given event stamp nodes (with_names nodes new) step) (sym none)
      (names_made nodes stamp new given event step makes))

  pub names_stops : (t : ℕ) (new : TargetSeat) → t ≡ 0 → (event : target.Event) (step : Step) → TargetFails event stamp nodes.names new step
      → NodesFail t event stamp seen (with_names nodes new) step
  names_stops t new none event step fails =
      subst (λ (n : NodesState). NodesFail t event stamp n (with_names nodes new) step) same
      (subst (λ (k : ℕ). NodesFail k event stamp nodes (with_names nodes new) step) (sym none)
      (names_failed nodes stamp new event step fails))

  pub object_step : (t i : ℕ) (old new : TargetSeat) → t ≡ i + 1 → i < length nodes.objects → old ≡ get_or nodes.objects i old
      → (given event : target.Event) (step : Step)
      → TargetMakes given event stamp old new step → NodesMake (Target t) given event stamp seen (with_object nodes i new) step
  object_step t i old new one within is given event step makes =
      subst (λ (n : NodesState). NodesMake (Target t) given event stamp n (with_object nodes i new) step) same
      (subst (λ (k : ℕ). NodesMake (Target k) given event stamp nodes (with_object nodes i new) step) (sym one)
      (object_made nodes i stamp old new within is given event step makes))

  pub object_stops : (t i : ℕ) (old new : TargetSeat) → t ≡ i + 1 → i < length nodes.objects → old ≡ get_or nodes.objects i old
      → (event : target.Event) (step : Step)
      → TargetFails event stamp old new step → NodesFail t event stamp seen (with_object nodes i new) step
  object_stops t i old new one within is event step fails =
      subst (λ (n : NodesState). NodesFail t event stamp n (with_object nodes i new) step) same
      (subst (λ (k : ℕ). NodesFail k event stamp nodes (with_object nodes i new) step) (sym one)
      (object_failed nodes i stamp old new within is event step fails))
