-- What a client of a run gives in its turn, and what it shows after it, by what the steps of a client say.
use Rattle.std.proofs.Common.{◌≡◌, ℕ, ◌+◌, Bool, true, false, List, [], Result, Ok, Err, refl, sym, ap, subst, ◌∙◌, arith}
use Rattle.std.specs.Prelude.{IfOk, OnOk}
use Rattle.std.proofs.lemmas.Bool.Decides.{nat_tests}
use Rattle.lu_base.specs.declared.faults.Memory.{Memory}
use Rattle.lu_base.specs.declared.ids.At.{At}
use Rattle.lu_base.specs.declared.ids.Node.{Node}
use Rattle.lu_base.specs.declared.ids.Node.TheVariants as node
use Rattle.lu_base.specs.declared.ids.Stamp.{Stamp}
use Rattle.lu_msg.specs.declared.calls.Call.{Call}
use Rattle.lu_msg.specs.declared.messages.Message.{Message}
use Rattle.lu_trace.specs.declared.traces.Step.{Step}
use Rattle.lu_spec_entries.specs.Given.{step_of}
use Rattle.lu_spec_entries.specs.Words.{Entry, Line, with_turn, is_client}
use Rattle.lu_spec_client.specs.Calls.{is_dead}
use Rattle.lu_spec_client.specs.Rows.{Event, Begins, Comes, Dies, row}
use Rattle.lu_spec_client.specs.States.{Client, Limits, turn}
use Rattle.lu_client.specs.Clients.{ClientState, first_client, turn_of}
use Rattle.lu_client.specs.Numbers.{AreCounted}
use Rattle.lu_client.specs.Stepping.{row_at, step_at, stepped}
use Rattle.lu_client.proofs.Asked.{asked_first, asked_more}
use Rattle.lu_spec_run.specs.Heads.{Head}
use Rattle.lu_spec_run.specs.Runs.{client_of, limits_of}
use Rattle.lu_proof_run.proofs.Clients.{client_first, client_own, comes_same, dead_dies}
use Rattle.lu_proof_run.proofs.Lives.{dead_stays, goes_on_living, number_stays}
use Rattle.lu_run_nodes.specs.States.{ClientSeat}
use Rattle.lu_run_nodes.specs.Shown.{ShowsClient}
use Rattle.lu_run_nodes.specs.Turns.{turn_at, ClientMakes}

-- a client, and whether it is dead
abbrev pub seat_of : ClientState → Bool → ClientSeat
seat_of client dead = record { client = client; dead = dead }

-- ---- before the first turn

pub shows_first : (head : Head) (c : ℕ) (made : ClientState) → made ≡ first_client (limits_of head) c
    → ShowsClient head 0 [] c (seat_of made false)
shows_first head c made is = subst (λ (k : ClientState). ShowsClient head 0 [] c (seat_of k false)) (sym is) first
  where
    first : ShowsClient head 0 [] c (seat_of (first_client (limits_of head) c) false)
    first =
        record {
          client = sym (client_first (limits_of head) c);
          limits = refl;
          unspent = refl;
          who = refl;
          asked = asked_first (limits_of head) c;
          dead = refl;
        }

-- ---- a turn

own_node : (c : ℕ) → is_client c (node.Client c) ≡ true
own_node c = grind (arith, nat_tests)

module _ {head : Head} {turns c : ℕ} {past : List Line} {old : ClientSeat} (h : ShowsClient head turns past c old) (stamp : Stamp)
    (event : Event) where
  abbrev here : At
  here = turn_at stamp (node.Client c)

  -- the entries of the turn
  abbrev entries : List Entry
  entries = row (limits_of head) here event (client_of head c past)

  abbrev after : List Line
  after = with_turn here entries past

  turn_is : turn_of stamp old.client ≡ here
  turn_is = ap (λ (n : ℕ). turn_at stamp (node.Client n)) h.who

  -- the client's row is the run's
  pub row_is : row_at stamp event old.client ≡ entries
  row_is =
      ap (λ (at : At). row old.client.limits at event old.client.client) turn_is
      ∙ ap (λ (l : Limits). row l here event old.client.client) h.limits
      ∙ ap (λ (k : Client). row (limits_of head) here event k) h.client

  pub gives_is : step_at stamp event old.client ≡ step_of here entries
  gives_is = ap (λ (at : At). step_of at (row_at stamp event old.client)) turn_is ∙ ap (step_of here) row_is

  client_after : (stepped stamp event old.client).client ≡ client_of head c after
  client_after =
      ap (turn old.client.client) row_is
      ∙ ap (λ (k : Client). turn k entries) h.client
      ∙ sym (client_own (limits_of head) c past here entries (own_node c))

  number_after : (stepped stamp event old.client).client.who.client ≡ c
  number_after = number_stays old.client.limits (turn_of stamp old.client) event old.client.client ∙ h.who

  -- what the seat shows then, if the client made this step
  pub shows_after : (new : ClientState) (dead : Bool) → new ≡ stepped stamp event old.client
      → AreCounted old.client.client.imports new.client.imports
      → dead ≡ is_dead c after → ShowsClient head (turns + 1) after c (seat_of new dead)
  shows_after new dead is counted dies =
      record {
        client = ap (λ (k : ClientState). k.client) is ∙ client_after;
        limits = ap (λ (k : ClientState). k.limits) is ∙ h.limits;
        unspent = ap (λ (k : ClientState). k.spent) is ∙ h.unspent;
        who = ap (λ (k : ClientState). k.client.who.client) is ∙ number_after;
        asked = asked_more turns old.client.client.imports new.client.imports h.asked counted;
        dead = dies;
      }

  alive_after : goes_on_living event ≡ true → old.dead ≡ is_dead c after
  alive_after lives = h.dead ∙ sym (dead_stays (limits_of head) c past here event (client_of head c past) lives)

-- ---- as the steps of a client say it

-- what the seat shows its view shows
shown : {seat before : ClientSeat} {head : Head} {turns c : ℕ} {past : List Line} → seat ≡ before → ShowsClient head turns past c before
    → ShowsClient head turns past c seat
shown {head = head} {turns = turns} {c = c} {past = past} view h = subst (ShowsClient head turns past c) (sym view) h

module _ {stamp : Stamp} {old new : ClientState} {dead : Bool} {before : ClientSeat} {step : Step}
    (view : seat_of old dead ≡ before) where
  -- a turn in which it doesn't die
  pub makes_alive : (event : Event) → goes_on_living event ≡ true → step ≡ step_at stamp event old → new ≡ stepped stamp event old
      → AreCounted old.client.imports new.client.imports → ClientMakes event event stamp before (seat_of new dead) step
  makes_alive event lives given is counted =
      record {
        gives = λ head turns c past h. given ∙ gives_is (shown view h) stamp event;
        shows = λ head turns c past h. shows_after (shown view h) stamp event new dead is counted
            (alive_after (shown view h) stamp event lives);
      }

  -- a message comes, whose number it doesn't know
  pub makes_taken : {from sender : Node} (m : Message) → from ≡ sender → step ≡ step_at stamp (Comes 0 from m) old → new
      ≡ stepped stamp (Comes 0 from m) old
      → AreCounted old.client.imports new.client.imports
      → (n : ℕ) → ClientMakes (Comes 0 sender m) (Comes n sender m) stamp before (seat_of new dead) step
  makes_taken {from = from} m sent given is counted n =
      let numbered : stepped stamp (Comes 0 from m) old ≡ stepped stamp (Comes n from m) old =
      ap (λ (k : Client). record old { client = k }) (sym (comes_same old.limits (turn_of stamp old) from m old.client n)) in
      subst (λ (v : Node). ClientMakes (Comes 0 v m) (Comes n v m) stamp before (seat_of new dead) step) sent
      (record {
        gives = λ head turns c past h. given ∙ gives_is (shown view h) stamp (Comes 0 from m);
        shows = λ head turns c past h. shows_after (shown view h) stamp (Comes n from m) new dead (is ∙ numbered) counted
            (alive_after (shown view h) stamp (Comes n from m) refl);
      })

  -- it dies
  pub makes_death : step ≡ step_at stamp Dies old → new ≡ stepped stamp Dies old → AreCounted old.client.imports new.client.imports
      → ClientMakes Dies Dies stamp before (seat_of new true) step
  makes_death given is counted =
      record {
        gives = λ head turns c past h. given ∙ gives_is (shown view h) stamp Dies;
        shows = λ head turns c past h. shows_after (shown view h) stamp Dies new true is counted
            (sym (dead_dies c past (turn_at stamp (node.Client c)) (own_node c)));
      }

-- the same of a step that may want memory
pub makes_ok : {old : ClientState} {dead : Bool} {before : ClientSeat} (stamp : Stamp) (event : Event) (new : ClientState)
    (r : Result Step Memory)
    → seat_of old dead ≡ before → goes_on_living event ≡ true → IfOk r (λ step. step ≡ step_at stamp event old)
    → OnOk r (new ≡ stepped stamp event old) → OnOk r (AreCounted old.client.imports new.client.imports)
    → IfOk r (ClientMakes event event stamp before (seat_of new dead))
makes_ok stamp event new (Ok step) view lives given is counted = makes_alive view event lives given is counted
makes_ok stamp event new (Err fault) view lives given is counted = tt

-- a call begins, or its slot is busy
pub makes_call : {old : ClientState} {dead : Bool} {before : ClientSeat} (stamp : Stamp) (slot : ℕ) {given call : Call} (new : ClientState)
    (r : Result Step Memory)
    → given ≡ call → seat_of old dead ≡ before → IfOk r (λ step. step ≡ step_at stamp (Begins slot given) old)
    → OnOk r (new ≡ stepped stamp (Begins slot given) old) → OnOk r (AreCounted old.client.imports new.client.imports)
    → IfOk r (ClientMakes (Begins slot call) (Begins slot call) stamp before (seat_of new dead))
makes_call {dead = dead} {before = before} stamp slot {given = given} new r same view gives is counted =
    subst (λ (c : Call). IfOk r (ClientMakes (Begins slot c) (Begins slot c) stamp before (seat_of new dead))) same
    (makes_ok stamp (Begins slot given) new r view refl gives is counted)
