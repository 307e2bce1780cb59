-- What a client gives in its turn, and how it is after it, by the row of what happens to it.
use Rattle.std.proofs.Common.{◌≡◌, ℕ, ◌+◌, ◌<◌, ◌≤◌, ◌^◌, true, List, [], ◌∷◌, Option, Some, None, is_some, refl, sym, ap, subst, ◌∙◌}
use Rattle.std.proofs.Common.{Result, Ok, Err, arith}
use Rattle.std.specs.Prelude.{IfOk, OnOk}
use Rattle.lu_base.specs.declared.faults.Memory.{Memory}
use Rattle.lu_base.specs.declared.ids.At.{At}
use Rattle.lu_base.specs.declared.ids.Node.{Node}
use Rattle.lu_base.specs.declared.ids.Node.TheVariants.{Client as FromClient, Target}
use Rattle.lu_base.specs.declared.ids.Stamp.{Stamp}
use Rattle.lu_client_refines.specs.Turns.{none_read}
use Rattle.lu_client_refines.proofs.Turns.{turned_calls, calls_quiet}
use Rattle.lu_spec_client.specs.Calls.{call_on}
use Rattle.lu_spec_client.specs.Imports.{Import, import_of}
use Rattle.lu_spec_client.specs.Locks.{trims, locks_go}
use Rattle.lu_spec_client.specs.Messages.{comes_by}
use Rattle.lu_spec_client.specs.Recovery.{ticks}
use Rattle.lu_spec_client.specs.Rows.{Begins, Comes, Ticks, Dies, rests, row, row_call}
use Rattle.lu_spec_client.specs.Sending.{sends_all}
use Rattle.lu_spec_client.specs.Slots.{begins, slots_go}
use Rattle.lu_spec_client.specs.Starts.{with_stripes}
use Rattle.lu_spec_client.specs.States.{Client, Limits, turn, follow}
use Rattle.lu_call.specs.Ranges.{IsCall}
use Rattle.lu_msg.specs.declared.calls.Call.{Call}
use Rattle.lu_msg.specs.declared.calls.Call.TheVariants.{Create}
use Rattle.lu_msg.specs.declared.messages.Message.{Message}
use Rattle.lu_trace.specs.declared.entries.Entry.TheVariants as line
use Rattle.lu_trace.specs.declared.traces.Step.{Step}
use Rattle.lu_trace.specs.Turns.{Making, no_step, with_line}
use Rattle.lu_spec_entries.specs.Carried.{Running}
use Rattle.lu_spec_entries.specs.Given.{step_of}
use Rattle.lu_spec_entries.specs.Words.{Entry, Busy, Take, Tick, Die}
use Rattle.lu_client.specs.Clients.{ClientState, AsksNoMore, Makes, turn_of}
use Rattle.lu_client.specs.Numbers.{AreCounted, HasNumbers}
use Rattle.lu_client.specs.Stepping.{row_at, step_at, stepped}
use Rattle.lu_client.proofs.Making.{makes_as, makes_at, makes_note, makes_on, makes_then}
use Rattle.lu_client.proofs.Unasked.{is_flight, begins_unasked, comes_unasked, locks_unasked, makes_asks, ticks_unasked, trims_unasked}

-- ---- numbers of requests

pub numbers_still : {one two : List Import} → AsksNoMore one two → HasNumbers one → HasNumbers two
numbers_still {one = one} {two = two} asks numbers t =
    let most : (import_of t two).last ≤ (import_of t one).last = asks.last t in
    let few : (import_of t one).last < 2 ^ 63 = numbers t in
    omega (arith, most, few)

pub counted_then : {one two : List Import} (three : List Import) → AsksNoMore one two → AreCounted two three → AreCounted one three
counted_then {one = one} {two = two} three asks counted t =
    let most : (import_of t two).last ≤ (import_of t one).last = asks.last t in
    let more : (import_of t three).last ≤ (import_of t two).last + 8 = counted t in
    omega (arith, most, more)

-- ---- what follows each event

module _ {old slots trimmed visited new : ClientState} {before passed seen after : Making}
    (go : Makes (slots_go 5 before.at) old slots before passed) (trim : Makes (trims slots.limits) slots trimmed passed passed)
    (visit : Makes (locks_go trimmed.limits) trimmed visited passed seen)
    (send : Makes (λ k. sends_all visited.limits k.who 0 k.imports) visited new seen after) where
  pub rested : Makes (λ k. rests old.limits before.at k) old new before after
  rested =
      let one : slots.limits ≡ old.limits = go.limits in
      let two : trimmed.limits ≡ old.limits = trim.limits ∙ one in
      let three : visited.limits ≡ old.limits = visit.limits ∙ two in
      makes_then go
      (makes_then (subst (λ (l : Limits). Makes (trims l) slots trimmed passed passed) one trim)
      (makes_then (subst (λ (l : Limits). Makes (locks_go l) trimmed visited passed seen) two visit)
      (subst (λ (l : Limits). Makes (λ k. sends_all l k.who 0 k.imports) visited new seen after) three send)))

-- ---- a whole turn

-- a turn of the client, without lines yet
abbrev pub first_making : Stamp → ClientState → Making
first_making stamp c = record { at = turn_of stamp c; step = no_step }

module _ {row : Client → List Entry} {old new : ClientState} where
  pub given : (stamp : Stamp) (after : Making) → Makes row old new (first_making stamp old) after → after.step
      ≡ step_of (turn_of stamp old) (row old.client)
  given stamp after makes = ap (λ (m : Making). m.step) makes.goes.gives

  pub left : {before after : Making} → Makes row old new before after → new ≡ record old { client = turn old.client (row old.client) }
  left makes =
      ap (λ (l : Limits). record new { limits = l }) makes.limits
      ∙ ap (λ (k : Client). record new { limits = old.limits; client = k }) makes.goes.shows
      ∙ ap (λ (s : _). record { limits = old.limits; client = turn old.client (row old.client); spent = s }) makes.spent

-- what happened, and then what follows it
module _ {one : Client → List Entry} {old middle new : ClientState} {before between after : Making} where
  pub rests_then : Makes one old middle before between → Makes (λ k. rests middle.limits between.at k) middle new between after
      → Makes (λ k. follow (one k) (rests old.limits before.at) k) old new before after
  rests_then first rest =
      makes_then first
      (subst (λ (at : At). Makes (rests old.limits at) middle new between after) (makes_at first)
      (subst (λ (l : Limits). Makes (rests l between.at) middle new between after) first.limits rest))

-- an event is noted, which changes nothing, and then its row is done
noted_then : {c new : ClientState} {before between after : Making} (e : Entry) (row : Client → List Entry)
    → Makes (λ k. e ∷ []) c c before between → Makes row c new between after → Makes (λ k. e ∷ row k) c new before after
noted_then {c = c} {new = new} {before = before} {between = between} {after = after} e row first next =
    makes_as {row = λ k. e ∷ row c.client} refl (makes_on {e = e} {es = row c.client} first
    (makes_as {row = row} {other = λ k. row c.client} refl next))

-- a call with its stripes is in range as it was
pub still_call : (c : Call) → IsCall c → IsCall (with_stripes c)
still_call (Create p None) is = is
still_call c is = is

-- a call began on a free slot
pub begun_turn : {old middle new : ClientState} {between after : Making} (stamp : Stamp) (slot : ℕ) (c : Call)
    → call_on slot old.client.calls ≡ None
    → Makes (begins (turn_of stamp old) slot c) old middle (first_making stamp old) between
    → Makes (λ k. rests middle.limits between.at k) middle new between after
    → Makes (row old.limits (turn_of stamp old) (Begins slot c)) old new (first_making stamp old) after
begun_turn {old = old} stamp slot c free first rest = makes_as (sym (ap (row_call old.limits (turn_of stamp old) slot c old.client) free))
    (rests_then first rest)

-- or the slot is busy, which changes nothing
module _ (stamp : Stamp) (slot : ℕ) (c : Call) (k : ClientState) where
  busy_of : (call : Option Running) → is_some call ≡ true → row_call k.limits (turn_of stamp k) slot c k.client call ≡ Busy slot ∷ []
  busy_of None some = absurd (cc)
  busy_of (Some r) some = refl

  busy_row : is_some (call_on slot k.client.calls) ≡ true → row_at stamp (Begins slot c) k ≡ Busy slot ∷ []
  busy_row some = busy_of (call_on slot k.client.calls) some

  busy_still : is_some (call_on slot k.client.calls) ≡ true → k ≡ stepped stamp (Begins slot c) k
  busy_still some =
      ap (λ (l : Client). record k { client = l }) (turned_calls k.client k.client.calls (Busy slot ∷ []) refl
      (sym (calls_quiet k.client.calls (Busy slot ∷ []) refl)))
      ∙ ap (λ (es : List Entry). record k { client = turn k.client es }) (sym (busy_row some))

  busy_gives : is_some (call_on slot k.client.calls) ≡ true → step_of (turn_of stamp k) (Busy slot ∷ []) ≡ step_at stamp (Begins slot c) k
  busy_gives some = ap (step_of (turn_of stamp k)) (sym (busy_row some))

  -- the line is all that the client gives, and it stays as it is
  pub busy_step : (r made : Result Step Memory) → is_some (call_on slot k.client.calls) ≡ true → r ≡ made
      → IfOk made (λ step. step ≡ step_of (turn_of stamp k) (Busy slot ∷ [])) → IfOk r (λ step. step ≡ step_at stamp (Begins slot c) k)
  busy_step r (Ok step) some same gives =
      let is : step ≡ step_at stamp (Begins slot c) k = gives ∙ busy_gives some in
      subst (λ (v : Result Step Memory). IfOk v (λ s. s ≡ step_at stamp (Begins slot c) k)) (sym same) is
  busy_step r (Err fault) some same gives =
      subst (λ (v : Result Step Memory). IfOk v (λ s. s ≡ step_at stamp (Begins slot c) k)) (sym same) tt

  pub busy_left : (r : Result Step Memory) (new : ClientState) → is_some (call_on slot k.client.calls) ≡ true → OnOk r (new ≡ k)
      → OnOk r (new ≡ stepped stamp (Begins slot c) k)
  busy_left (Ok step) new some kept = kept ∙ busy_still some
  busy_left (Err fault) new some kept = tt

-- a message came
took : (c : ClientState) (before after : Making) (n : ℕ) (from : Node) (m : Message) → after.step
    ≡ with_line before.at before.step (line.Take n) → after.at ≡ before.at → Makes (λ k. Take n from m ∷ []) c c before after
took c before after n from m step same =
    makes_note (Take n from m) refl refl step same (turned_calls c.client c.client.calls (Take n from m ∷ []) refl
    (sym (calls_quiet c.client.calls (Take n from m ∷ []) refl))) refl refl

pub taken_turn : {old middle new : ClientState} {one two after : Making} (stamp : Stamp) (n : ℕ) (from : Node) (m : Message)
    → one.step ≡ with_line (turn_of stamp old) no_step (line.Take n) → one.at ≡ turn_of stamp old
    → Makes (λ k. comes_by one.at from m k) old middle one two → Makes (λ k. rests middle.limits two.at k) middle new two after
    → Makes (row old.limits (turn_of stamp old) (Comes n from m)) old new (first_making stamp old) after
taken_turn {old = old} {middle = middle} {one = one} {two = two} stamp n from m step same come rest =
    rests_then (noted_then (Take n from m) (comes_by (turn_of stamp old) from m) (took old (first_making stamp old) one n from m step same)
    (subst (λ (at : At). Makes (comes_by at from m) old middle one two) same come)) rest

-- time went on
ticked : (c : ClientState) (before after : Making) → after.step ≡ with_line before.at before.step line.Tick → after.at ≡ before.at
    → Makes (λ k. Tick ∷ []) c c before after
ticked c before after step same =
    makes_note Tick refl refl step same (turned_calls c.client c.client.calls (Tick ∷ []) refl
    (sym (calls_quiet c.client.calls (Tick ∷ []) refl))) refl refl

pub ticked_turn : {old middle new : ClientState} {one two after : Making} (stamp : Stamp)
    → one.step ≡ with_line (turn_of stamp old) no_step line.Tick → one.at ≡ turn_of stamp old
    → Makes (λ k. ticks 0 k.imports k) old middle one two → Makes (λ k. rests middle.limits two.at k) middle new two after
    → Makes (row old.limits (turn_of stamp old) Ticks) old new (first_making stamp old) after
ticked_turn {old = old} {one = one} stamp step same tick rest =
    rests_then (noted_then Tick (λ k. ticks 0 k.imports k) (ticked old (first_making stamp old) one step same) tick) rest

-- it died
pub died_turn : (stamp : Stamp) (c : ClientState) (after : Making) → after.step ≡ with_line (turn_of stamp c) no_step line.Die → after.at
    ≡ turn_of stamp c
    → Makes (row c.limits (turn_of stamp c) Dies) c c (first_making stamp c) after
died_turn stamp c after step same =
    makes_note Die refl refl step same (turned_calls c.client c.client.calls (Die ∷ []) refl
    (sym (calls_quiet c.client.calls (Die ∷ []) refl))) refl refl

-- death changes nothing
pub dead_still : (stamp : Stamp) (c : ClientState) → c ≡ stepped stamp Dies c
dead_still stamp c =
    ap (λ (k : Client). record c { client = k }) (turned_calls c.client c.client.calls (Die ∷ []) refl
    (sym (calls_quiet c.client.calls (Die ∷ []) refl)))

-- ---- no target is asked more by what happens

pub begins_asks : (at : At) (slot : ℕ) (c : Call) {old new : ClientState} {before after : Making}
    → Makes (begins at slot c) old new before after → AsksNoMore old.client.imports new.client.imports
begins_asks at slot c {old = old} makes = makes_asks makes (begins_unasked at slot c old.client)

comes_by_unasked : (at : At) (from : Node) (m : Message) (k : Client) → none_read is_flight (comes_by at from m k) ≡ true
comes_by_unasked at (Target t) m k = comes_unasked at t m k
comes_by_unasked at (FromClient c) m k = refl

pub comes_asks : (at : At) (from : Node) (m : Message) {old new : ClientState} {before after : Making}
    → Makes (λ k. comes_by at from m k) old new before after → AsksNoMore old.client.imports new.client.imports
comes_asks at from m {old = old} makes = makes_asks makes (comes_by_unasked at from m old.client)

pub ticks_asks : {old new : ClientState} {before after : Making} → Makes (λ k. ticks 0 k.imports k) old new before after
    → AsksNoMore old.client.imports new.client.imports
ticks_asks {old = old} makes = makes_asks makes (ticks_unasked 0 old.client.imports old.client)

pub trims_asks : (limits : Limits) {old new : ClientState} {before after : Making} → Makes (trims limits) old new before after
    → AsksNoMore old.client.imports new.client.imports
trims_asks limits {old = old} makes = makes_asks makes (trims_unasked limits old.client)

pub locks_asks : (limits : Limits) {old new : ClientState} {before after : Making} → Makes (locks_go limits) old new before after
    → AsksNoMore old.client.imports new.client.imports
locks_asks limits {old = old} makes = makes_asks makes (locks_unasked limits old.client)
