-- An entry that is about the call on one slot changes that call alone.
use Rattle.std.proofs.Common.{◌≡◌, ℕ, zero, suc, ◌+◌, ◌<◌, ◌==◌, Bool, true, false, if◌then◌else◌, List, [], ◌∷◌, ◌++◌, length, get_or}
use Rattle.std.proofs.Common.{fold, Option, Some, None, refl, sym, ap, ◌∙◌, arith, add-one}
use Rattle.std.specs.Prelude.{slice_set}
use Rattle.std.proofs.lemmas.Bool.Decides.{nat_tests}
use Rattle.std.proofs.lemmas.List.{set-set}
use Rattle.lu_base.specs.declared.ids.At.{At}
use Rattle.lu_msg.specs.declared.answers.Answer.{Answer}
use Rattle.lu_msg.specs.declared.messages.Reply.{Reply as ReplyTo}
use Rattle.lu_spec_entries.specs.Carried.{Asking, Asked, Answered, Queued, Flight, Work, Stage, Looks, Waits, Forgotten, Running}
use Rattle.lu_spec_entries.specs.Words.{Entry, Begin, Heard, Told, Queues, Stands}
use Rattle.lu_spec_client.specs.Calls.{asks, asks_for, reads_call, call_after, call_on, calls_from, calls_after}
use Rattle.lu_spec_client.specs.Advances.{at_stage}
use Rattle.lu_spec_client.specs.Recovery.{on_call, on_calls, forgets_stage, looks_stage, is_left_at}
use Rattle.lu_client_refines.specs.Turns.{call_turn, calls_turn, calls_each, none_read, serves_slot, is_on, all_on}
use Rattle.lu_client_refines.proofs.Lists.{self, both_true}
use Rattle.lu_client_refines.proofs.Turns.{call_stays, part_more, none_more}

-- ---- one entry

-- an entry leaves the calls on other slots than this one
abbrev pub LeavesOthers : ℕ → Entry → Type 0
LeavesOthers slot e = (u : ℕ) (call : Option Running) → (slot == u) ≡ false → call_after u call e ≡ call

not_this : (slot s u : ℕ) → (s == slot) ≡ true → (slot == u) ≡ false → (s == u) ≡ false
not_this slot s u same off = grind (arith, nat_tests)

put_elsewhere : (slot s u : ℕ) (x call : Option Running) → (s == slot) ≡ true → (slot == u) ≡ false → (if s == u then x else call) ≡ call
put_elsewhere slot s u x call same off = rw (not_this slot s u same off) refl

asks_elsewhere : (slot u : ℕ) (served : Option ℕ) (asking : Asking) (call : Option Running) → serves_slot slot served ≡ true → (slot == u)
    ≡ false → asks_for served u asking call ≡ call
asks_elsewhere slot u None asking call serves off = refl
asks_elsewhere slot u (Some s) asking call serves off = put_elsewhere slot s u (asks asking call) call serves off

-- an entry about this slot leaves the others
pub on_leaves : (slot : ℕ) (e : Entry) → is_on slot e ≡ true → LeavesOthers slot e
on_leaves slot (Begin s running) on u call off = put_elsewhere slot s u (Some running) call on off
on_leaves slot (Stands s running) on u call off = put_elsewhere slot s u (Some running) call on off
on_leaves slot (Told s at answer work) on u call off = put_elsewhere slot s u None call on off
on_leaves slot (Queues target queued) on u call off = asks_elsewhere slot u queued.slot _ call on off
on_leaves slot (Heard target flight reply) on u call off = asks_elsewhere slot u flight.slot _ call on off
on_leaves slot e on u call off = quiet e refl u call off where
  quiet : (e : Entry) → reads_call e ≡ false → LeavesOthers slot e
  quiet e unread u call off = call_stays u call e unread

-- the slots past it
pub past : (slot : ℕ) (e : Entry) → LeavesOthers slot e → (n : ℕ) → slot < n → (calls : List (Option Running)) → calls_from n calls e
    ≡ calls
past slot e leaves n less [] = refl
past slot e leaves n less (call ∷ calls) =
    ap (λ (o : Option Running). o ∷ calls_from (suc n) calls e) (leaves n call (grind (arith, nat_tests)))
    ∙ ap (λ (os : List (Option Running)). call ∷ os) (past slot e leaves (suc n) (omega arith) calls)

from : (slot : ℕ) (e : Entry) → LeavesOthers slot e → (n k : ℕ) → n + k ≡ slot → (calls : List (Option Running)) → calls_from n calls e
    ≡ slice_set calls k (call_after slot (call_on k calls) e)
from slot e leaves n zero at [] = refl
from slot e leaves n (suc k) at [] = refl
from slot e leaves n zero at (call ∷ calls) =
    let here : n ≡ slot = omega arith in
    ap (λ (m : ℕ). call_after m call e ∷ calls_from (suc n) calls e) here
    ∙ ap (λ (os : List (Option Running)). call_after slot call e ∷ os) (past slot e leaves (suc n) (omega arith) calls)
from slot e leaves n (suc k) at (call ∷ calls) =
    ap (λ (o : Option Running). o ∷ calls_from (suc n) calls e) (leaves n call (grind (arith, nat_tests)))
    ∙ ap (λ (os : List (Option Running)). call ∷ os) (from slot e leaves (suc n) k (omega arith) calls)

-- an entry that changes the call on this slot alone, or none
pub calls_at : (slot : ℕ) (calls : List (Option Running)) (e : Entry) → is_on slot e ≡ true → calls_after calls e
    ≡ slice_set calls slot (call_after slot (call_on slot calls) e)
calls_at slot calls e on = from slot e (on_leaves slot e on) 0 slot (omega arith) calls

-- ---- the call on one slot

-- where it was put
pub call_on_set : (slot : ℕ) (calls : List (Option Running)) (call : Option Running) → slot < length calls
    → call_on slot (slice_set calls slot call) ≡ call
call_on_set slot [] call inside = absurd (omega arith)
call_on_set zero (c ∷ calls) call inside = refl
call_on_set (suc slot) (c ∷ calls) call inside = call_on_set slot calls call (omega arith)

-- as it stands in the list
pub call_on_get : (slot : ℕ) (calls : List (Option Running)) (d : Option Running) → slot < length calls → call_on slot calls
    ≡ get_or calls slot d
call_on_get slot [] d inside = absurd (omega arith)
call_on_get zero (c ∷ calls) d inside = refl
call_on_get (suc slot) (c ∷ calls) d inside = call_on_get slot calls d (omega arith)

-- as many slots as there were
calls_long : (n : ℕ) (calls : List (Option Running)) (e : Entry) → length (calls_from n calls e) ≡ length calls
calls_long n [] e = refl
calls_long n (call ∷ calls) e = ap suc (calls_long (suc n) calls e)

-- entries make no slot
pub slots_stay : (calls : List (Option Running)) (es : List Entry) → length (calls_turn calls es) ≡ length calls
slots_stay calls [] = refl
slots_stay calls (e ∷ es) = slots_stay (calls_after calls e) es ∙ calls_long 0 calls e

-- ---- a list of entries about one slot

set_same : (slot : ℕ) (calls : List (Option Running)) → calls ≡ slice_set calls slot (call_on slot calls)
set_same zero [] = refl
set_same (suc slot) [] = refl
set_same zero (call ∷ calls) = refl
set_same (suc slot) (call ∷ calls) = ap (λ os. call ∷ os) (set_same slot calls)

-- the calls after entries about this slot
pub calls_turn_at : (slot : ℕ) (calls : List (Option Running)) (es : List Entry) → slot < length calls → all_on slot es ≡ true
    → calls_turn calls es ≡ slice_set calls slot (call_turn slot (call_on slot calls) es)
calls_turn_at slot calls [] inside all = set_same slot calls
calls_turn_at slot calls (e ∷ es) inside all =
    let h : (is_on slot e ≡ true) × (all_on slot es ≡ true) = both_true (is_on slot e) (all_on slot es) all in
    let next : Option Running = call_after slot (call_on slot calls) e in
    let set : calls_after calls e ≡ slice_set calls slot next = calls_at slot calls e h.0 in
    let count : length (slice_set calls slot next) ≡ length calls = ap length (sym set) ∙ calls_long 0 calls e in
    ap (λ (cs : List (Option Running)). calls_turn cs es) set
    ∙ calls_turn_at slot (slice_set calls slot next) es (omega arith) h.1
    ∙ ap (λ (c : Option Running). slice_set (slice_set calls slot next) slot (call_turn slot c es)) (call_on_set slot calls next inside)
    ∙ set-set calls slot next (call_turn slot next es)

-- two lists, one after the other
pub all_on_more : (slot : ℕ) (es fs : List Entry) → all_on slot es ≡ true → all_on slot fs ≡ true → all_on slot (es ++ fs) ≡ true
all_on_more slot [] fs one two = two
all_on_more slot (e ∷ es) fs one two =
    let h : (is_on slot e ≡ true) × (all_on slot es ≡ true) = both_true (is_on slot e) (all_on slot es) one in
    rw h.0 (all_on_more slot es fs h.1 two)

-- ---- what an entry makes of the call on its own slot

-- a call begins
pub call_begins : (slot : ℕ) (call : Option Running) (r : Running) → call_after slot call (Begin slot r) ≡ Some r
call_begins slot call r = rw (self slot) refl

-- a call stands so
pub call_stands : (slot : ℕ) (call : Option Running) (r : Running) → call_after slot call (Stands slot r) ≡ Some r
call_stands slot call r = rw (self slot) refl

-- a call is told
pub call_told : (slot : ℕ) (call : Option Running) (at : At) (answer : Answer) (work : Option Work)
    → call_after slot call (Told slot at answer work) ≡ None
call_told slot call at answer work = rw (self slot) refl

-- its request is queued
pub call_queues : (slot t : ℕ) (r : Running) (queued : Queued) → queued.slot ≡ Some slot → call_after slot (Some r) (Queues t queued)
    ≡ Some (record r { asking = Asked })
call_queues slot t r queued serves = rw (serves, self slot) refl

-- the reply to its request is heard
pub call_hears : (slot t : ℕ) (r : Running) (f : Flight) (reply : ReplyTo) → f.slot ≡ Some slot → call_after slot (Some r) (Heard t f reply)
    ≡ Some (record r { asking = Answered t reply })
call_hears slot t r f reply serves = rw (serves, self slot) refl

-- ---- the calls after one entry

-- a call begins on a slot
pub calls_begin : (slot : ℕ) (calls : List (Option Running)) (r : Running) → calls_after calls (Begin slot r)
    ≡ slice_set calls slot (Some r)
calls_begin slot calls r = calls_at slot calls (Begin slot r) (self slot)
    ∙ ap (slice_set calls slot) (call_begins slot (call_on slot calls) r)

-- the call on a slot stands so
pub calls_stand : (slot : ℕ) (calls : List (Option Running)) (r : Running) → calls_after calls (Stands slot r)
    ≡ slice_set calls slot (Some r)
calls_stand slot calls r = calls_at slot calls (Stands slot r) (self slot)
    ∙ ap (slice_set calls slot) (call_stands slot (call_on slot calls) r)

-- the call on a slot is told
pub calls_told : (slot : ℕ) (calls : List (Option Running)) (at : At) (answer : Answer) (work : Option Work)
    → calls_after calls (Told slot at answer work) ≡ slice_set calls slot None
calls_told slot calls at answer work = calls_at slot calls (Told slot at answer work) (self slot)
    ∙ ap (slice_set calls slot) (call_told slot (call_on slot calls) at answer work)

-- a write-back serves no call
pub calls_write_back : (t : ℕ) (calls : List (Option Running)) (queued : Queued) → queued.slot ≡ None → calls_after calls (Queues t queued)
    ≡ calls
calls_write_back t calls queued serves = none 0 calls where
  here : (slot : ℕ) (call : Option Running) → call_after slot call (Queues t queued) ≡ call
  here slot call = rw serves refl

  none : (slot : ℕ) (calls : List (Option Running)) → calls_from slot calls (Queues t queued) ≡ calls
  none slot [] = refl
  none slot (call ∷ calls) = ap (λ (o : Option Running). o ∷ calls_from (suc slot) calls (Queues t queued)) (here slot call)
      ∙ ap (λ (os : List (Option Running)). call ∷ os) (none (suc slot) calls)

-- a call that begins on a free slot and is told at once leaves it free
pub calls_refused : (slot : ℕ) (calls : List (Option Running)) (r : Running) (at : At) (answer : Answer) (work : Option Work)
    → call_on slot calls ≡ None → calls_turn calls (Begin slot r ∷ Told slot at answer work ∷ []) ≡ calls
calls_refused slot calls r at answer work free =
    ap (λ (cs : List (Option Running)). calls_after cs (Told slot at answer work)) (calls_begin slot calls r)
    ∙ calls_told slot (slice_set calls slot (Some r)) at answer work
    ∙ set-set calls slot (Some r) None
    ∙ ap (slice_set calls slot) (sym free)
    ∙ sym (set_same slot calls)

-- ---- each call by entries of its own, slot by slot

-- entries about another slot
leaves_turn : (slot u : ℕ) (call : Option Running) (es : List Entry) → all_on slot es ≡ true → (slot == u) ≡ false → call_turn u call es
    ≡ call
leaves_turn slot u call [] all off = refl
leaves_turn slot u call (e ∷ es) all off =
    let h : (is_on slot e ≡ true) × (all_on slot es ≡ true) = both_true (is_on slot e) (all_on slot es) all in
    ap (λ (c : Option Running). call_turn u c es) (on_leaves slot e h.0 u call off) ∙ leaves_turn slot u call es h.1 off

past_turn : (slot n : ℕ) (calls : List (Option Running)) (es : List Entry) → all_on slot es ≡ true → slot < n → fold (calls_from n) calls es
    ≡ calls
past_turn slot n calls [] all less = refl
past_turn slot n calls (e ∷ es) all less =
    let h : (is_on slot e ≡ true) × (all_on slot es ≡ true) = both_true (is_on slot e) (all_on slot es) all in
    ap (λ (cs : List (Option Running)). fold (calls_from n) cs es) (past slot e (on_leaves slot e h.0) n less calls)
    ∙ past_turn slot n calls es h.1 less

-- the first call, and the others
split_turn : (n : ℕ) (call : Option Running) (calls : List (Option Running)) (es : List Entry) → fold (calls_from n) (call ∷ calls) es
    ≡ call_turn n call es ∷ fold (calls_from (suc n)) calls es
split_turn n call calls [] = refl
split_turn n call calls (e ∷ es) = split_turn n (call_after n call e) (calls_from (suc n) calls e) es

module _ (stands : ℕ → Running → Stage → List Entry) (own : (slot : ℕ) (r : Running) → all_on slot (stands slot r r.stage) ≡ true) where
  own_call : (slot : ℕ) (call : Option Running) → all_on slot (on_call stands slot call) ≡ true
  own_call slot None = refl
  own_call slot (Some r) = own slot r

  -- entries about later slots
  later_turn : (u : ℕ) (call : Option Running) (n : ℕ) (calls : List (Option Running)) → u < n → call_turn u call (on_calls stands n calls)
      ≡ call
  later_turn u call n [] less = refl
  later_turn u call n (c ∷ calls) less =
      part_more (call_after u) call (on_call stands n c) (on_calls stands (n + 1) calls)
      ∙ ap (λ (x : Option Running). call_turn u x (on_calls stands (n + 1) calls))
      (leaves_turn n u call (on_call stands n c) (own_call n c) (grind (arith, nat_tests)))
      ∙ later_turn u call (n + 1) calls (omega arith)

  each_from : (n : ℕ) (calls : List (Option Running)) → fold (calls_from n) calls (on_calls stands n calls)
      ≡ calls_each (on_call stands) n calls
  each_from n [] = refl
  each_from n (call ∷ calls) =
      let first : List Entry = on_call stands n call in
      let rest : List Entry = on_calls stands (n + 1) calls in
      let next : Option Running = call_turn n call first in
      part_more (calls_from n) (call ∷ calls) first rest
      ∙ ap (λ (cs : List (Option Running)). fold (calls_from n) cs rest)
      (split_turn n call calls first ∙ ap (λ (cs : List (Option Running)). next ∷ cs)
      (past_turn n (suc n) calls first (own_call n call) (omega arith)))
      ∙ split_turn n next calls rest
      ∙ ap (λ (c : Option Running). c ∷ fold (calls_from (suc n)) calls rest) (later_turn n next (n + 1) calls (omega arith))
      ∙ ap (λ (m : ℕ). next ∷ fold (calls_from (suc n)) calls (on_calls stands m calls)) (add-one n)
      ∙ ap (λ (cs : List (Option Running)). next ∷ cs) (each_from (suc n) calls)

  -- the calls after the entries of each
  pub calls_each_turn : (calls : List (Option Running)) → calls_turn calls (on_calls stands 0 calls) ≡ calls_each (on_call stands) 0 calls
  calls_each_turn calls = each_from 0 calls

-- a part that reads none of them
module _ (reads : Entry → Bool) (stands : ℕ → Running → Stage → List Entry)
    (unread : (slot : ℕ) (r : Running) → none_read reads (stands slot r r.stage) ≡ true) where
  unread_call : (slot : ℕ) (call : Option Running) → none_read reads (on_call stands slot call) ≡ true
  unread_call slot None = refl
  unread_call slot (Some r) = unread slot r

  -- what each call does is nothing that the part reads
  pub calls_unread : (slot : ℕ) (calls : List (Option Running)) → none_read reads (on_calls stands slot calls) ≡ true
  calls_unread slot [] = refl
  calls_unread slot (call ∷ calls) = none_more reads (on_call stands slot call) (on_calls stands (slot + 1) calls) (unread_call slot call)
      (calls_unread (slot + 1) calls)

-- ---- asks that are forgotten, and made again

-- each is about its own slot
pub forgets_own : (t slot : ℕ) (r : Running) (stage : Stage) → all_on slot (forgets_stage t slot r stage) ≡ true
forgets_own t slot r (Waits w target l marked) = by (target.0 == t) where
  by : (here : Bool) → all_on slot (if here then Stands slot (at_stage r (Forgotten w)) ∷ [] else []) ≡ true
  by true = rw (self slot) refl
  by false = refl
forgets_own t slot r _ = refl

-- the same of asks that are made again
pub looks_own : (t slot : ℕ) (r : Running) (stage : Stage) → all_on slot (looks_stage t slot r stage) ≡ true
looks_own t slot r (Forgotten w) = by (is_left_at t w.left) where
  by : (here : Bool) → all_on slot (if here then Stands slot (at_stage r (Looks w)) ∷ [] else []) ≡ true
  by true = rw (self slot) refl
  by false = refl
looks_own t slot r _ = refl

-- and is read by calls alone
pub forgets_unread : (reads : Entry → Bool) → ((s : ℕ) (r : Running) → reads (Stands s r) ≡ false)
    → (t slot : ℕ) (r : Running) (stage : Stage) → none_read reads (forgets_stage t slot r stage) ≡ true
forgets_unread reads none t slot r (Waits w target l marked) = by (target.0 == t) where
  by : (here : Bool) → none_read reads (if here then Stands slot (at_stage r (Forgotten w)) ∷ [] else []) ≡ true
  by true = rw (none slot (at_stage r (Forgotten w))) refl
  by false = refl
forgets_unread reads none t slot r _ = refl

-- the same of asks that are made again
pub looks_unread : (reads : Entry → Bool) → ((s : ℕ) (r : Running) → reads (Stands s r) ≡ false)
    → (t slot : ℕ) (r : Running) (stage : Stage) → none_read reads (looks_stage t slot r stage) ≡ true
looks_unread reads none t slot r (Forgotten w) = by (is_left_at t w.left) where
  by : (here : Bool) → none_read reads (if here then Stands slot (at_stage r (Looks w)) ∷ [] else []) ≡ true
  by true = rw (none slot (at_stage r (Looks w))) refl
  by false = refl
looks_unread reads none t slot r _ = refl
