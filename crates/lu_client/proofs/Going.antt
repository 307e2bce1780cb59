-- A call that went on leaves of its client what the rows' entries make of it, once its client has done what it left.
use Rattle.std.proofs.Common.{◌≡◌, ℕ, zero, suc, ◌<◌, ◌==◌, Bool, true, false, if◌then◌else◌, List, [], ◌∷◌, ◌++◌, length, nat_lt, Option}
use Rattle.std.proofs.Common.{Some, None, refl, sym, ap, subst, ◌∙◌, arith}
use Rattle.std.specs.Prelude.{slice_set}
use Rattle.std.proofs.lemmas.List.{set-set}
use Rattle.lu_base.specs.declared.ids.At.{At}
use Rattle.lu_msg.specs.declared.answers.Answer.{Answer}
use Rattle.lu_msg.specs.declared.answers.Answer.TheVariants.{OpenFile, FileStat}
use Rattle.lu_msg.specs.declared.calls.Call.{Call}
use Rattle.lu_msg.specs.declared.calls.Call.TheVariants as call
use Rattle.lu_msg.specs.declared.messages.Post.{Post}
use Rattle.lu_msg.specs.declared.operations.Op.TheVariants as op
use Rattle.lu_trace.specs.declared.entries.Line.{Line as PrintedLine}
use Rattle.lu_trace.specs.Turns.{Making}
use Rattle.lu_spec_entries.specs.Carried.{HandleFile, Asking, Unasked, Asked, Answered, Stage, Plain, Running}
use Rattle.lu_spec_entries.specs.Given.{line_of, step_lines, step_posts, giving}
use Rattle.lu_spec_entries.specs.Printed.{printed_entry}
use Rattle.lu_spec_entries.specs.Words.{Entry, Told, Queues, Stands, Binds, Pins, Unpins, Changes, WritesBack, Shows}
use Rattle.lu_spec_client.specs.Calls.{Bound, reads_life, handles_after, call_after, call_on}
use Rattle.lu_spec_client.specs.Imports.{Import, imports_after}
use Rattle.lu_spec_client.specs.Slots.{goes_at, goes_on, goes, is_close}
use Rattle.lu_spec_client.specs.Starts.{asks_names, is_on as is_on_open, starts_close, starts, answers, goes_plain}
use Rattle.lu_spec_client.specs.States.{Client, turn}
use Rattle.lu_client_store.specs.Stored.{StoreState, stored_after, stored_turn}
use Rattle.lu_call.specs.declared.nexts.Next.{Next}
use Rattle.lu_call.specs.declared.nexts.Next.TheVariants as next
use Rattle.lu_spec_client.specs.Advances.{queued_for}
use Rattle.lu_call.specs.Going.{GoesFrom, are_own, outward, back_of, entries_of, standing}
use Rattle.lu_call.specs.Starting.{alone}
use Rattle.lu_call.specs.Turning as call_state
use Rattle.lu_call.specs.Views.{file_of}
use Rattle.lu_call.proofs.Going.{stored_store}
use Rattle.lu_client_refines.specs.Turns.{handles_turn, calls_turn, call_turn, imports_turn, facts_turn, none_read, all_on, serves_slot}
use Rattle.lu_client_refines.proofs.Lists.{self, both_true}
use Rattle.lu_client_refines.proofs.Slots.{calls_turn_at}
use Rattle.lu_client_refines.proofs.Turns.{turned, life_quiet, imports_stay}
use Rattle.lu_client.specs.Advancing.{number_of, close_number, is_crowded, must_wait, Advances, finished, Finishes, is_plain}
use Rattle.lu_client.specs.Clients.{ClientState, with_call, with_store, stored_of, AsksNoMore, Makes}
use Rattle.lu_client.proofs.Making.{makes_nothing, makes_as}
use Rattle.lu_client.proofs.Unasked.{asks_none, asks_nothing}

-- ---- entries of a call that goes on: its client sees those that go outward

-- they change the call on its slot alone
own_on : (slot : ℕ) (es : List Entry) → are_own slot es ≡ true → all_on slot (outward es) ≡ true → all_on slot es ≡ true
own_on slot [] own out = refl
own_on slot (Stands s running ∷ es) own out = let h = both_true (s == slot) (are_own slot es) own in rw h.0 (own_on slot es h.1 out)
own_on slot (Told s at answer work ∷ es) own out =
    let h = both_true (s == slot) (are_own slot es) own in
    let o = both_true (s == slot) (all_on slot (outward es)) out in
    rw h.0 (own_on slot es h.1 o.1)
own_on slot (Queues target queued ∷ es) own out =
    let o = both_true (serves_slot slot queued.slot) (all_on slot (outward es)) out in
    rw o.0 (own_on slot es own o.1)
own_on slot (Binds handle file ∷ es) own out = own_on slot es own out
own_on slot (Pins name ∷ es) own out = own_on slot es own out
own_on slot (Unpins name ∷ es) own out = own_on slot es own out
own_on slot (Changes resource change ∷ es) own out = own_on slot es own out
own_on slot (WritesBack resource change ∷ es) own out = own_on slot es own out
own_on slot (Shows resource cookie last ∷ es) own out = own_on slot es own out
own_on slot (e ∷ es) own out = absurd (cc)

-- no new life begins
own_life : (slot : ℕ) (es : List Entry) → are_own slot es ≡ true → none_read reads_life es ≡ true
own_life slot [] own = refl
own_life slot (Stands s running ∷ es) own = let h = both_true (s == slot) (are_own slot es) own in own_life slot es h.1
own_life slot (Told s at answer work ∷ es) own = let h = both_true (s == slot) (are_own slot es) own in own_life slot es h.1
own_life slot (Queues target queued ∷ es) own = own_life slot es own
own_life slot (Binds handle file ∷ es) own = own_life slot es own
own_life slot (Pins name ∷ es) own = own_life slot es own
own_life slot (Unpins name ∷ es) own = own_life slot es own
own_life slot (Changes resource change ∷ es) own = own_life slot es own
own_life slot (WritesBack resource change ∷ es) own = own_life slot es own
own_life slot (Shows resource cookie last ∷ es) own = own_life slot es own
own_life slot (e ∷ es) own = absurd (cc)

own_handles : (slot : ℕ) (handles : List Bound) (es : List Entry) → are_own slot es ≡ true → handles_turn handles es
    ≡ handles_turn handles (outward es)
own_handles slot handles [] own = refl
own_handles slot handles (Stands s running ∷ es) own = let h = both_true (s == slot) (are_own slot es) own
    in own_handles slot handles es h.1
own_handles slot handles (Told s at answer work ∷ es) own = let h = both_true (s == slot) (are_own slot es) own
    in own_handles slot handles es h.1
own_handles slot handles (Queues target queued ∷ es) own = own_handles slot handles es own
own_handles slot handles (Binds handle file ∷ es) own = own_handles slot (handles_after handles (Binds handle file)) es own
own_handles slot handles (Pins name ∷ es) own = own_handles slot handles es own
own_handles slot handles (Unpins name ∷ es) own = own_handles slot handles es own
own_handles slot handles (Changes resource change ∷ es) own = own_handles slot handles es own
own_handles slot handles (WritesBack resource change ∷ es) own = own_handles slot handles es own
own_handles slot handles (Shows resource cookie last ∷ es) own = own_handles slot handles es own
own_handles slot handles (e ∷ es) own = absurd (cc)

-- an entry that no import reads, before others
unread : (imports : List Import) (e : Entry) (es : List Entry) → imports_after imports e ≡ imports → imports_turn imports (e ∷ es)
    ≡ imports_turn imports es
unread imports e es same = ap (λ (is : List Import). imports_turn is es) same

own_imports : (slot : ℕ) (imports : List Import) (es : List Entry) → are_own slot es ≡ true → imports_turn imports es
    ≡ imports_turn imports (outward es)
own_imports slot imports [] own = refl
own_imports slot imports (Stands s running ∷ es) own =
    let h = both_true (s == slot) (are_own slot es) own in
    unread imports (Stands s running) es (imports_stay imports (Stands s running) refl) ∙ own_imports slot imports es h.1
own_imports slot imports (Told s at answer work ∷ es) own =
    let h = both_true (s == slot) (are_own slot es) own in
    unread imports (Told s at answer work) es (imports_stay imports (Told s at answer work) refl)
    ∙ own_imports slot imports es h.1
    ∙ sym (unread imports (Told s at answer None) (outward es) (imports_stay imports (Told s at answer None) refl))
own_imports slot imports (Queues target queued ∷ es) own = own_imports slot (imports_after imports (Queues target queued)) es own
own_imports slot imports (Binds handle file ∷ es) own = own_imports slot (imports_after imports (Binds handle file)) es own
own_imports slot imports (Pins name ∷ es) own = unread imports (Pins name) es (imports_stay imports (Pins name) refl)
    ∙ own_imports slot imports es own
own_imports slot imports (Unpins name ∷ es) own = unread imports (Unpins name) es (imports_stay imports (Unpins name) refl)
    ∙ own_imports slot imports es own
own_imports slot imports (Changes resource change ∷ es) own =
    unread imports (Changes resource change) es (imports_stay imports (Changes resource change) refl) ∙ own_imports slot imports es own
own_imports slot imports (WritesBack resource change ∷ es) own =
    unread imports (WritesBack resource change) es (imports_stay imports (WritesBack resource change) refl)
    ∙ own_imports slot imports es own
own_imports slot imports (Shows resource cookie last ∷ es) own =
    unread imports (Shows resource cookie last) es (imports_stay imports (Shows resource cookie last) refl)
    ∙ own_imports slot imports es own
own_imports slot imports (e ∷ es) own = absurd (cc)

own_posts : (slot : ℕ) (es : List Entry) → are_own slot es ≡ true → step_posts es ≡ step_posts (outward es)
own_posts slot [] own = refl
own_posts slot (Stands s running ∷ es) own = let h = both_true (s == slot) (are_own slot es) own in own_posts slot es h.1
own_posts slot (Told s at answer work ∷ es) own = let h = both_true (s == slot) (are_own slot es) own in own_posts slot es h.1
own_posts slot (Queues target queued ∷ es) own = own_posts slot es own
own_posts slot (Binds handle file ∷ es) own = own_posts slot es own
own_posts slot (Pins name ∷ es) own = own_posts slot es own
own_posts slot (Unpins name ∷ es) own = own_posts slot es own
own_posts slot (Changes resource change ∷ es) own = own_posts slot es own
own_posts slot (WritesBack resource change ∷ es) own = own_posts slot es own
own_posts slot (Shows resource cookie last ∷ es) own = own_posts slot es own
own_posts slot (e ∷ es) own = absurd (cc)

own_lines : (at : At) (slot : ℕ) (es : List Entry) → are_own slot es ≡ true → step_lines at es ≡ step_lines at (outward es)
own_lines at slot [] own = refl
own_lines at slot (Stands s running ∷ es) own = let h = both_true (s == slot) (are_own slot es) own in own_lines at slot es h.1
own_lines at slot (Told s acted answer work ∷ es) own =
    let h = both_true (s == slot) (are_own slot es) own in
    ap (λ (lines : List PrintedLine). line_of at (printed_entry 0 (Told s acted answer None)) lines) (own_lines at slot es h.1)
own_lines at slot (Queues target queued ∷ es) own = own_lines at slot es own
own_lines at slot (Binds handle file ∷ es) own = own_lines at slot es own
own_lines at slot (Pins name ∷ es) own = own_lines at slot es own
own_lines at slot (Unpins name ∷ es) own = own_lines at slot es own
own_lines at slot (Changes resource change ∷ es) own = own_lines at slot es own
own_lines at slot (WritesBack resource change ∷ es) own = own_lines at slot es own
own_lines at slot (Shows resource cookie last ∷ es) own = own_lines at slot es own
own_lines at slot (e ∷ es) own = absurd (cc)

-- they give what those give
own_gives : (m : Making) (slot : ℕ) (es : List Entry) → are_own slot es ≡ true → giving m es ≡ giving m (outward es)
own_gives m slot es own =
    ap (λ (posts : List Post). record {
      at = m.at;
      step = record
          { sends = m.step.sends ++ posts; entries = m.step.entries ++ step_lines m.at es };
    }) (own_posts slot es own)
    ∙ ap (λ (lines : List PrintedLine). record {
      at = m.at;
      step =
          record { sends = m.step.sends ++ step_posts (outward es); entries = m.step.entries ++ lines };
    }) (own_lines m.at slot es own)

-- what is left to its client is about its slot
left_on : (slot : ℕ) (out : Next) → all_on slot (entries_of slot out) ≡ true
left_on slot next.Waits = refl
left_on slot (next.Asks target o) = rw (self slot) refl
left_on slot (next.WritesBack target o) = refl
left_on slot (next.Told at answer None) = rw (self slot) refl
left_on slot (next.Told at answer (Some b)) = rw (self slot) refl

-- ---- the store along with the entries

stored_facts : (s : StoreState) (es : List Entry) → (stored_turn s es).facts ≡ facts_turn s.facts es
stored_facts s [] = refl
stored_facts s (e ∷ es) = stored_facts (stored_after s e) es

stored_unused : (s : StoreState) (es : List Entry) → (stored_turn s es).unused ≡ s.unused
stored_unused s [] = refl
stored_unused s (e ∷ es) = stored_unused (stored_after s e) es

pub same_call : (slot : ℕ) (call : Option Running) (es : List Entry) → call_state.call_turn slot call es ≡ call_turn slot call es
same_call slot call [] = refl
same_call slot call (e ∷ es) = same_call slot (call_after slot call e) es

-- ---- a call by itself

-- by itself no call has another on its open
lonely : (r : Running) (on : Bool) → nat_lt 1 (length (if on then Some r ∷ [] else [])) ≡ false
lonely r true = refl
lonely r false = refl

module _ (at : At) (slot : ℕ) (c : ClientState) (r : Running) where
  abbrev k : Client
  k = c.client

  abbrev j : Client
  j = alone r (stored_of c)

  closes : (f : Option HandleFile) → is_crowded k.calls (number_of f) ≡ false → starts_close slot k.calls f ≡ starts_close slot j.calls f
  closes None free = refl
  closes (Some f) free =
      ap (λ (b : Bool). if b then [] else asks_names slot (op.Close f.number f.fid)) free
      ∙ sym (ap (λ (b : Bool). if b then [] else asks_names slot (op.Close f.number f.fid)) (lonely r (is_on_open f.number.0 (Some r))))

  begins_call : (c : Call) → is_crowded k.calls (if is_close c Unasked then number_of r.file else None) ≡ false → starts at slot c r k
      ≡ starts at slot c r j
  begins_call (call.Close h) free = closes r.file free
  begins_call _ free = refl

  tells_answer : (acted : At) (a : Answer) (c : Call) → answers at slot acted a c r k ≡ answers at slot acted a c r j
  tells_answer acted (OpenFile fid number layout) (call.Open h path) = refl
  tells_answer acted (FileStat fid mode links layout) (call.Stat path) = refl
  tells_answer acted _ _ = refl

  plainly : (a : Asking) → is_crowded k.calls (if is_close r.call a then number_of r.file else None) ≡ false → goes_plain at slot a r k
      ≡ goes_plain at slot a r j
  plainly Unasked free = begins_call r.call free
  plainly Asked free = refl
  plainly (Answered t reply) free = tells_answer reply.at reply.answer r.call

  in_stage : (stage : Stage) → is_crowded k.calls (if is_plain stage then close_number (Some r) else None) ≡ false
      → goes_at at slot stage r k ≡ goes_at at slot stage r j
  in_stage Plain free = plainly r.asking free
  in_stage _ free = refl

  -- where it needn't wait it goes on as if it were its client's only call
  goes_alone : must_wait k.calls (Some r) ≡ false → goes_at at slot r.stage r k ≡ goes_at at slot r.stage r j
  goes_alone free = in_stage r.stage free

-- ---- a close that waits

module _ (at : At) (slot : ℕ) (k : Client) where
  stands_still : (f : Option HandleFile) → is_crowded k.calls (number_of f) ≡ true → starts_close slot k.calls f ≡ []
  stands_still None waits = absurd (cc)
  stands_still (Some f) waits = ap (λ (b : Bool). if b then [] else asks_names slot (op.Close f.number f.fid)) waits

  waits_first : (r : Running) (c : Call) → is_crowded k.calls (if is_close c Unasked then number_of r.file else None) ≡ true
      → starts at slot c r k ≡ []
  waits_first r (call.Close h) waits = stands_still r.file waits
  waits_first r _ waits = absurd (cc)

  waits_plainly : (r : Running) (a : Asking) → is_crowded k.calls (if is_close r.call a then number_of r.file else None) ≡ true
      → goes_plain at slot a r k ≡ []
  waits_plainly r Unasked waits = waits_first r r.call waits
  waits_plainly r Asked waits = refl
  waits_plainly r (Answered t reply) waits = asked_already r.call waits where
    asked_already : (c : Call) → is_crowded k.calls (if is_close c (Answered t reply) then number_of r.file else None) ≡ true
        → goes_plain at slot (Answered t reply) r k ≡ []
    asked_already (call.Close h) waits = absurd (cc)
    asked_already _ waits = absurd (cc)

  waits_in : (r : Running) (stage : Stage) → is_crowded k.calls (if is_plain stage then close_number (Some r) else None) ≡ true
      → goes_at at slot stage r k ≡ []
  waits_in r Plain waits = waits_plainly r r.asking waits
  waits_in r _ waits = absurd (cc)

  waits_on : (call : Option Running) → must_wait k.calls call ≡ true → goes_on at slot k call ≡ []
  waits_on None waits = absurd (cc)
  waits_on (Some r) waits = waits_in r r.stage waits

-- nothing is done for it
pub waited : (at : At) (slot : ℕ) (c : ClientState) (m : Making) → must_wait c.client.calls (call_on slot c.client.calls) ≡ true
    → Makes (goes at slot) c c m m
waited at slot c m waits = makes_as (sym (waits_on at slot c.client (call_on slot c.client.calls) waits)) (makes_nothing c m)

-- ---- what its client did

pub some_inside : (slot : ℕ) (calls : List (Option Running)) (r : Running) → call_on slot calls ≡ Some r → slot < length calls
some_inside slot [] r some = absurd (cc)
some_inside zero (call ∷ calls) r some = omega arith
some_inside (suc slot) (call ∷ calls) r some = let rest : slot < length calls = some_inside slot calls r some in omega arith

finished_who : (slot : ℕ) (out : Next) (c : ClientState) → (finished slot out c).client.who ≡ c.client.who
finished_who slot next.Waits c = refl
finished_who slot (next.Asks target o) c = refl
finished_who slot (next.WritesBack target o) c = refl
finished_who slot (next.Told at answer binding) c = refl

finished_handles : (slot : ℕ) (out : Next) (c : ClientState) → (finished slot out c).client.handles
    ≡ handles_turn c.client.handles (entries_of slot out)
finished_handles slot next.Waits c = refl
finished_handles slot (next.Asks target o) c = refl
finished_handles slot (next.WritesBack target o) c = refl
finished_handles slot (next.Told at answer None) c = refl
finished_handles slot (next.Told at answer (Some b)) c = refl

finished_calls : (slot : ℕ) (out : Next) (c : ClientState) (left : Running) (after : StoreState)
    → (finished slot out (with_store after (with_call slot (Some left) c))).client.calls ≡ slice_set c.client.calls slot (standing out left)
finished_calls slot next.Waits c left after = refl
finished_calls slot (next.Asks target o) c left after = refl
finished_calls slot (next.WritesBack target o) c left after = refl
finished_calls slot (next.Told at answer binding) c left after = set-set c.client.calls slot (Some left) None

finished_imports : (slot : ℕ) (out : Next) (c : ClientState) → (finished slot out c).client.imports
    ≡ imports_turn c.client.imports (entries_of slot out)
finished_imports slot next.Waits c = refl
finished_imports slot (next.Asks target o) c = refl
finished_imports slot (next.WritesBack target o) c = refl
finished_imports slot (next.Told at answer None) c = sym (imports_stay c.client.imports (Told slot at answer None) refl)
finished_imports slot (next.Told at answer (Some b)) c =
    sym (unread c.client.imports (Binds b.handle (file_of b.file)) (Told slot at answer None ∷ [])
    (imports_stay c.client.imports (Binds b.handle (file_of b.file)) refl)
    ∙ imports_stay c.client.imports (Told slot at answer None) refl)

finished_facts : (slot : ℕ) (out : Next) (c : ClientState) → (finished slot out c).client.facts ≡ c.client.facts
finished_facts slot next.Waits c = refl
finished_facts slot (next.Asks target o) c = refl
finished_facts slot (next.WritesBack target o) c = refl
finished_facts slot (next.Told at answer binding) c = refl

finished_store : (slot : ℕ) (out : Next) (c : ClientState) → (finished slot out c).client.store ≡ c.client.store
finished_store slot next.Waits c = refl
finished_store slot (next.Asks target o) c = refl
finished_store slot (next.WritesBack target o) c = refl
finished_store slot (next.Told at answer binding) c = refl

finished_limits : (slot : ℕ) (out : Next) (c : ClientState) → (finished slot out c).limits ≡ c.limits
finished_limits slot next.Waits c = refl
finished_limits slot (next.Asks target o) c = refl
finished_limits slot (next.WritesBack target o) c = refl
finished_limits slot (next.Told at answer binding) c = refl

finished_spent : (slot : ℕ) (out : Next) (c : ClientState) → (finished slot out c).spent ≡ c.spent
finished_spent slot next.Waits c = refl
finished_spent slot (next.Asks target o) c = refl
finished_spent slot (next.WritesBack target o) c = refl
finished_spent slot (next.Told at answer binding) c = refl

-- ---- a call went on

-- by entries of its own
module _ (slot : ℕ) (c new : ClientState) (r left : Running) (stored : StoreState) (out : Next) (es : List Entry) (before after : Making)
    (some : call_on slot c.client.calls ≡ Some r) (went : GoesFrom es slot r left (stored_of c) stored out)
    (did : Finishes slot out (with_store stored (with_call slot (Some left) c)) new before after) where
  abbrev between : ClientState
  between = with_store stored (with_call slot (Some left) c)

  on : all_on slot es ≡ true
  on = own_on slot es went.own (ap (all_on slot) went.said ∙ left_on slot out)

  calls_shown : new.client.calls ≡ calls_turn c.client.calls es
  calls_shown =
      ap (λ (s : ClientState). s.client.calls) did.shows
      ∙ finished_calls slot out c left stored
      ∙ ap (slice_set c.client.calls slot) (sym went.call ∙ same_call slot (Some r) es
      ∙ ap (λ (call : Option Running). call_turn slot call es) (sym some))
      ∙ sym (calls_turn_at slot c.client.calls es (some_inside slot c.client.calls r some) on)

  turns_so : new.client ≡ turn c.client es
  turns_so =
      turned c.client new.client es
      (ap (λ (s : ClientState). s.client.who) did.shows ∙ finished_who slot out between
      ∙ sym (life_quiet c.client.who es (own_life slot es went.own)))
      (ap (λ (s : ClientState). s.client.handles) did.shows ∙ finished_handles slot out between
      ∙ sym (own_handles slot c.client.handles es went.own ∙ ap (handles_turn c.client.handles) went.said))
      calls_shown
      (ap (λ (s : ClientState). s.client.imports) did.shows ∙ finished_imports slot out between
      ∙ sym (own_imports slot c.client.imports es went.own ∙ ap (imports_turn c.client.imports) went.said))
      (ap (λ (s : ClientState). s.client.facts) did.shows ∙ finished_facts slot out between ∙ ap (λ (s : StoreState). s.facts) went.store
      ∙ stored_facts (stored_of c) es)
      (ap (λ (s : ClientState). s.client.store) did.shows ∙ finished_store slot out between ∙ ap (λ (s : StoreState). s.store) went.store
      ∙ stored_store (stored_of c) es)

  makes_own : Makes (λ k. es) c new before after
  makes_own =
      record {
        goes = record {
          gives = did.gives ∙ sym (own_gives before slot es went.own ∙ ap (giving before) went.said);
          shows = turns_so;
        };
        limits = ap (λ (s : ClientState). s.limits) did.shows
            ∙ finished_limits slot out between
            ∙ ap (λ (n : ℕ). record c.limits { unused = n }) (ap (λ (s : StoreState). s.unused) went.store
            ∙ stored_unused (stored_of c) es);
        spent = ap (λ (s : ClientState). s.spent) did.shows ∙ finished_spent slot out between;
      }

went_on : (at : At) (slot : ℕ) (c mid new : ClientState) (call : Option Running) (out : Next) (before after : Making)
    → call_on slot c.client.calls ≡ call → must_wait c.client.calls call ≡ false → Advances at slot call c mid out
    → Finishes slot out mid new before after
    → Makes (goes at slot) c new before after
went_on at slot c mid new None out before after none free still did =
    let gives : after ≡ giving before [] = did.gives ∙ ap (λ (o : Next). giving before (entries_of slot o)) still.1 in
    let shows : new ≡ c = did.shows ∙ ap (λ (o : Next). finished slot o mid) still.1 ∙ still.0 in
    let nothing : goes at slot c.client ≡ [] = ap (goes_on at slot c.client) none in
    makes_as {row = λ k. []} (sym nothing)
    (record {
      goes = record { gives = gives; shows = ap (λ (s : ClientState). s.client) shows };
      limits = ap (λ (s : ClientState). s.limits) shows;
      spent = ap (λ (s : ClientState). s.spent) shows;
    })
went_on at slot c mid new (Some r) out before after some free went did =
    let row : goes at slot c.client ≡ goes_at at slot r.stage r (alone r (stored_of c)) = ap (goes_on at slot c.client) some
    ∙ goes_alone at slot c r free in
    makes_as (sym row)
    (makes_own slot c new r went.left went.after out (goes_at at slot r.stage r (alone r (stored_of c))) before after some went.goes
    (subst (λ (s : ClientState). Finishes slot out s new before after) went.shows did))

-- the call on a slot went on, and its client did what it left
pub gone : (at : At) (slot : ℕ) (c mid new : ClientState) (out : Next) (before after : Making) → at ≡ before.at
    → must_wait c.client.calls (call_on slot c.client.calls) ≡ false → Advances at slot (call_on slot c.client.calls) c mid out
    → Finishes slot out mid new before after
    → Makes (goes before.at slot) c new before after
gone at slot c mid new out before after same free went did =
    subst (λ (a : At). Makes (goes a slot) c new before after) same
    (went_on at slot c mid new (call_on slot c.client.calls) out before after refl free went did)

-- ---- no target was asked more

advanced_imports : (at : At) (slot : ℕ) (call : Option Running) (old mid : ClientState) (out : Next) → Advances at slot call old mid out
    → mid.client.imports ≡ old.client.imports
advanced_imports at slot None old mid out still = ap (λ (s : ClientState). s.client.imports) still.0
advanced_imports at slot (Some r) old mid out went = ap (λ (s : ClientState). s.client.imports) went.shows

finished_asks : (slot : ℕ) (out : Next) (c : ClientState) → AsksNoMore c.client.imports (finished slot out c).client.imports
finished_asks slot next.Waits c = asks_nothing c.client.imports
finished_asks slot (next.Asks target o) c = asks_none c.client.imports (Queues target.0 (queued_for slot o) ∷ []) refl
finished_asks slot (next.WritesBack target o) c = asks_none c.client.imports (Queues target.0 (back_of o) ∷ []) refl
finished_asks slot (next.Told at answer binding) c = asks_nothing c.client.imports

pub gone_asks : (at : At) (slot : ℕ) (call : Option Running) (old mid new : ClientState) (out : Next) (before after : Making)
    → Advances at slot call old mid out → Finishes slot out mid new before after → AsksNoMore old.client.imports new.client.imports
gone_asks at slot call old mid new out before after went did =
    subst (λ (s : ClientState). AsksNoMore old.client.imports s.client.imports) (sym did.shows)
    (subst (λ (is : List Import). AsksNoMore is (finished slot out mid).client.imports) (advanced_imports at slot call old mid out went)
    (finished_asks slot out mid))
