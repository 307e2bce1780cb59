-- A life ends and the next one begins, part by part as the rows have it: the calls end, the locks go, the life is new, and it
-- joins everywhere.
use Rattle.std.proofs.Common.{◌≡◌, ℕ, zero, suc, ◌+◌, ◌<◌, ◌≤◌, Bool, true, false, List, [], ◌∷◌, ◌++◌, take, drop, set, map, length}
use Rattle.std.proofs.Common.{get_or, Option, Some, None, is_some, append_assoc, refl, sym, ap, subst, ◌∙◌, arith}
use Rattle.std.proofs.lemmas.List.{drop_more}
use Rattle.lu_base.specs.declared.ids.At.{At}
use Rattle.lu_base.specs.declared.ids.Node.TheVariants.{Target}
use Rattle.lu_base.specs.declared.ids.Who.{Who}
use Rattle.lu_base.specs.declared.locks.Lock.{Lock}
use Rattle.lu_held.specs.declared.locks.HeldLock.{HeldLock}
use Rattle.lu_held.specs.Held.{in_order}
use Rattle.lu_msg.specs.declared.answers.Answer.{Answer}
use Rattle.lu_msg.specs.declared.answers.Answer.TheVariants as answer
use Rattle.lu_msg.specs.declared.answers.Errno.TheVariants.{EIO}
use Rattle.lu_msg.specs.declared.messages.Message.TheVariants as message
use Rattle.lu_msg.specs.declared.messages.Post.{Post}
use Rattle.lu_trace.specs.declared.entries.Entry.TheVariants as printed
use Rattle.lu_trace.specs.Turns.{Making, with_line, with_post}
use Rattle.lu_spec_entries.specs.Carried.{Work, Running}
use Rattle.lu_spec_entries.specs.Words.{Entry, Drop, Life, Send, Told}
use Rattle.lu_spec_client.specs.Calls.{call_on, reads_life}
use Rattle.lu_spec_client.specs.Imports.{Import, import_of}
use Rattle.lu_spec_client.specs.Recovery.{drops_all, ends_call, ends_calls, evicted, joins_all, next_life}
use Rattle.lu_spec_client.specs.States.{Client, Store, after, follow, turn}
use Rattle.lu_client_refines.specs.Rounds.{ends_left, ends_one, joins_left, joins_one}
use Rattle.lu_client_refines.specs.Turns.{none_read, reads_import, reads_store}
use Rattle.lu_client_refines.proofs.Follow.{goes_post}
use Rattle.lu_client_refines.proofs.Lives.{imports_reborn}
use Rattle.lu_client_refines.proofs.Rounds.{ended_turn, ends_done, ends_step, joins_step, joins_whole}
use Rattle.lu_client_refines.proofs.Slots.{slots_stay}
use Rattle.lu_client_refines.proofs.Turns.{turns, calls_stay, life_quiet, imports_quiet, store_quiet}
use Rattle.lu_call.specs.declared.nexts.Binding.{Binding}
use Rattle.lu_client_store.specs.Stored.{StoreState, stored_after}
use Rattle.lu_import.specs.Imports.{ImportState, reborn}
use Rattle.lu_client.specs.Clients.{ClientState, state_of, with_call, Makes, Remains}
use Rattle.lu_client.proofs.Making.{makes_as, makes_note, makes_nothing, makes_then, remains_at, remains_end, remains_step}

-- ---- what only some parts of a client read

ends_unread : (reads : Entry → Bool) → ((s : ℕ) (at : At) (answer : Answer) (work : Option Work) → reads (Told s at answer work) ≡ false)
    → (at : At) (slot : ℕ) (calls : List (Option Running)) → none_read reads (ends_calls at slot calls) ≡ true
ends_unread reads none at slot [] = refl
ends_unread reads none at slot (None ∷ calls) = ends_unread reads none at (slot + 1) calls
ends_unread reads none at slot (Some r ∷ calls) = rw (none slot at (answer.Refused EIO) None) (ends_unread reads none at (slot + 1) calls)

drops_unread : (reads : Entry → Bool) → ((t : ℕ) (l : Lock) → reads (Drop t l) ≡ false) → (locks : List HeldLock)
    → none_read reads (drops_all locks) ≡ true
drops_unread reads none [] = refl
drops_unread reads none (h ∷ locks) = rw (none h.target.0 h.lock) (drops_unread reads none locks)

-- entries that these parts don't read leave them
life_left : (k : Client) (es : List Entry) → none_read reads_life es ≡ true → (turn k es).who ≡ k.who
life_left k es none = ap (λ (c : Client). c.who) (turns k es) ∙ life_quiet k.who es none

imports_left : (k : Client) (es : List Entry) → none_read reads_import es ≡ true → (turn k es).imports ≡ k.imports
imports_left k es none = ap (λ (c : Client). c.imports) (turns k es) ∙ imports_quiet k.imports es none

store_left : (k : Client) (es : List Entry) → none_read reads_store es ≡ true → (turn k es).store ≡ k.store
store_left k es none = ap (λ (c : Client). c.store) (turns k es) ∙ store_quiet k.store es none

-- ---- the calls end

call_ends : (at : At) (slot : ℕ) (call : Option Running) → is_some call ≡ true → ends_call at slot call
    ≡ Told slot at (answer.Refused EIO) None ∷ []
call_ends at slot None some = absurd (cc)
call_ends at slot (Some r) some = refl

no_call_ends : (at : At) (slot : ℕ) (call : Option Running) → is_some call ≡ false → ends_call at slot call ≡ []
no_call_ends at slot None none = refl
no_call_ends at slot (Some r) none = absurd (cc)

-- a call is on one of the client's slots
pub call_inside : (slot : ℕ) (calls : List (Option Running)) → is_some (call_on slot calls) ≡ true → slot < length calls
call_inside slot [] some = absurd (cc)
call_inside zero (call ∷ calls) some = omega arith
call_inside (suc slot) (call ∷ calls) some = let rest : slot < length calls = call_inside slot calls some in omega (arith, rest)

-- a slot that has no call
pub slot_rests : (slot : ℕ) (c : ClientState) (making : Making) → is_some (call_on slot c.client.calls) ≡ false
    → Makes (ends_one making.at slot) c c making making
slot_rests slot c making none = makes_as (sym (no_call_ends making.at slot (call_on slot c.client.calls) none)) (makes_nothing c making)

-- one that has is told
pub slot_ends : (slot : ℕ) (c : ClientState) (at : At) (before after : Making) → slot < length c.client.calls
    → is_some (call_on slot c.client.calls) ≡ true → at ≡ before.at
    → after.step ≡ with_line before.at before.step (printed.Told slot at (answer.Refused EIO)) → after.at ≡ before.at
    → Makes (ends_one before.at slot) c (with_call slot None c) before after
slot_ends slot c at before after inside some same line ends =
    let told : Entry = Told slot before.at (answer.Refused EIO) None in
    let row : ends_one before.at slot c.client ≡ told ∷ [] = call_ends before.at slot (call_on slot c.client.calls) some in
    makes_as (sym row)
    (makes_note told refl refl (line ∙ ap (λ (a : At). with_line before.at before.step (printed.Told slot a (answer.Refused EIO))) same)
    ends
    (ended_turn before.at slot c.client inside ∙ ap (turn c.client) row) refl refl)

-- one slot's, and those after it are left
pub ended : (slot : ℕ) (first now next : ClientState) (before making after : Making) → slot < length now.client.calls
    → Remains (λ k. ends_calls before.at 0 k.calls) (ends_left before.at slot) first now before making
    → Makes (ends_one making.at slot) now next making after → Remains (λ k. ends_calls before.at 0 k.calls) (ends_left before.at (slot + 1))
    first next before after
ended slot first now next before making after inside left makes =
    remains_step (ends_step before.at slot now.client inside) left
    (subst (λ (at : At). Makes (ends_one at slot) now next making after) (remains_at left) makes)

-- there are as many slots
pub ended_slots : (at : At) (slot : ℕ) (now next : ClientState) (before after : Making) → Makes (ends_one at slot) now next before after
    → length next.client.calls ≡ length now.client.calls
ended_slots at slot now next before after makes =
    ap (λ (k : Client). length k.calls) (makes.goes.shows ∙ turns now.client (ends_one at slot now.client))
    ∙ slots_stay now.client.calls (ends_one at slot now.client)

-- all of them
pub ended_all : (slot : ℕ) (first last : ClientState) (before after : Making) → length last.client.calls ≤ slot
    → Remains (λ k. ends_calls before.at 0 k.calls) (ends_left before.at slot) first last before after
    → Makes (λ k. ends_calls before.at 0 k.calls) first last before after
ended_all slot first last before after past left = remains_end (ends_done before.at slot last.client past) left

-- ---- the locks go

abbrev drops_from : List HeldLock → ℕ → Client → List Entry
drops_from locks n k = drops_all (drop n locks)

-- one of them, and those after it are left
pub dropped : (locks : List HeldLock) (n : ℕ) (d : HeldLock) (first now next : ClientState) (before making after : Making)
    → n < length locks → Remains (λ k. drops_all locks) (drops_from locks n) first now before making
    → Makes (λ k. Drop (get_or locks n d).target.0 (get_or locks n d).lock ∷ []) now next making after
    → Remains (λ k. drops_all locks) (drops_from locks (n + 1)) first next before after
dropped locks n d first now next before making after inside so_far makes =
    remains_step {rest = drops_from locks (n + 1)} (ap drops_all (drop_more locks n d inside)) so_far makes

-- ---- the next life begins

-- one import more is that of the new life
pub one_more : {A : Type 0} (f : A → A) (xs : List A) (n : ℕ) (d v : A) → n < length xs → v
    ≡ f (get_or (map f (take n xs) ++ drop n xs) n d) → set (map f (take n xs) ++ drop n xs) n v ≡ map f (take (suc n) xs)
    ++ drop (suc n) xs
one_more f [] n d v inside is = absurd (omega arith)
one_more f (x ∷ xs) zero d v inside is = ap (λ y. y ∷ xs) is
one_more f (x ∷ xs) (suc n) d v inside is = ap (λ ys. f x ∷ ys) (one_more f xs n d v (omega arith) is)

-- the client that has nothing of the life before
module _ (osts flight dirty : ℕ) (who next : Who) (handles bound : List Binding) (calls : List (Option Running))
    (imports news : List ImportState) (store stored : StoreState) (spent : Bool) where
  abbrev before_it : ClientState
  before_it = state_of osts flight dirty who handles calls imports store spent

  abbrev reborn_as : List Binding → List ImportState → StoreState → ClientState
  reborn_as bs is s = state_of osts flight dirty next bs calls is s spent

  pub reborn_client : bound ≡ [] → news ≡ map (reborn next) imports → stored ≡ stored_after store (Life next) → reborn_as bound news stored
      ≡ record before_it { client = after before_it.client (Life next) }
  reborn_client unbound are kept =
      ap (λ (bs : List Binding). reborn_as bs news stored) unbound
      ∙ ap (λ (is : List ImportState). reborn_as [] is stored) are
      ∙ ap (λ (s : StoreState). reborn_as [] (map (reborn next) imports) s) kept
      ∙ ap (λ (is : List Import). record (reborn_as [] imports (stored_after store (Life next)))
      { client = record (reborn_as [] imports (stored_after store (Life next))).client { imports = is } }) (imports_reborn next imports)
      ∙ ap (λ (cs : List (Option Running)). record before_it { client = record (after before_it.client (Life next)) { calls = cs } })
      (sym (calls_stay calls (Life next) refl))

-- each target is asked to let it join
pub join_sent : (t : ℕ) (c : ClientState) (before after : Making) → after.step
    ≡ with_post before.at before.step (record { to = Target t; message = message.Join c.client.who (import_of t c.client.imports).boot })
    → after.at ≡ before.at
    → Makes (joins_one t) c c before after
join_sent t c before after post ends =
    let word : Post = record { to = Target t; message = message.Join c.client.who (import_of t c.client.imports).boot } in
    let sent : Makes (λ k. Send word.to word.message ∷ []) c c before after =
    record { goes = goes_post c.client before after word post ends; limits = refl; spent = refl } in
    makes_as refl sent

-- one target, and those after it are left
pub joined : (t : ℕ) (c : ClientState) (before making after : Making) → t < length c.client.imports
    → Remains (joins_left 0) (joins_left t) c c before making → Makes (joins_one t) c c making after
    → Remains (joins_left 0) (joins_left (t + 1)) c c before after
joined t c before making after inside left makes = remains_step (joins_step t c.client inside) left makes

-- ---- all of it

-- with the calls ended and the locks gone: the life is new, and joins
abbrev begins_row : Client → List Entry
begins_row k = follow (Life (next_life k.who) ∷ []) (joins_left 0) k

abbrev drops_row : Client → List Entry
drops_row k = follow (drops_all (in_order k.store.held)) begins_row k

begins_is : (k : Client) → begins_row k ≡ Life (next_life k.who) ∷ joins_all (next_life k.who) 0 k.imports
begins_is k = ap (λ (es : List Entry). Life (next_life k.who) ∷ es) (sym (joins_whole (next_life k.who) k))

drops_is : (k : Client) → drops_row k ≡ drops_all (in_order k.store.held) ++ Life (next_life k.who)
    ∷ joins_all (next_life k.who) 0 k.imports
drops_is k =
    let es : List Entry = drops_all (in_order k.store.held) in
    let who : (turn k es).who ≡ k.who = life_left k es (drops_unread reads_life (λ t l. refl) (in_order k.store.held)) in
    let imports : (turn k es).imports ≡ k.imports = imports_left k es (drops_unread reads_import (λ t l. refl) (in_order k.store.held)) in
    ap (λ (fs : List Entry). es ++ fs)
    (begins_is (turn k es)
    ∙ ap (λ (w : Who). Life (next_life w) ∷ joins_all (next_life w) 0 (turn k es).imports) who
    ∙ ap (λ (is : List Import). Life (next_life k.who) ∷ joins_all (next_life k.who) 0 is) imports)

evicted_is : (at : At) (k : Client) → follow (ends_calls at 0 k.calls) drops_row k ≡ evicted at k
evicted_is at k =
    let es : List Entry = ends_calls at 0 k.calls in
    let who : (turn k es).who ≡ k.who = life_left k es (ends_unread reads_life (λ s a w x. refl) at 0 k.calls) in
    let imports : (turn k es).imports ≡ k.imports = imports_left k es (ends_unread reads_import (λ s a w x. refl) at 0 k.calls) in
    let store : (turn k es).store ≡ k.store = store_left k es (ends_unread reads_store (λ s a w x. refl) at 0 k.calls) in
    ap (λ (fs : List Entry). es ++ fs)
    (drops_is (turn k es)
    ∙ ap (λ (s : Store). drops_all (in_order s.held) ++ Life (next_life (turn k es).who)
    ∷ joins_all (next_life (turn k es).who) 0 (turn k es).imports) store
    ∙ ap (λ (w : Who). drops_all (in_order k.store.held) ++ Life (next_life w) ∷ joins_all (next_life w) 0 (turn k es).imports) who
    ∙ ap (λ (is : List Import). drops_all (in_order k.store.held) ++ Life (next_life k.who) ∷ joins_all (next_life k.who) 0 is) imports)
    ∙ sym (append_assoc es (drops_all (in_order k.store.held)) (Life (next_life k.who) ∷ joins_all (next_life k.who) 0 k.imports))

-- the life is the same while the calls end and the locks go
pub same_until : (at : At) (old ended bare : ClientState) (one two three : Making) → Makes (λ k. ends_calls at 0 k.calls) old ended one two
    → Makes (λ k. drops_all (in_order k.store.held)) ended bare two three → bare.client.who ≡ old.client.who
same_until at old ended bare one two three ends drops =
    ap (λ (k : Client). k.who) drops.goes.shows
    ∙ life_left ended.client (drops_all (in_order ended.client.store.held))
    (drops_unread reads_life (λ t l. refl) (in_order ended.client.store.held))
    ∙ ap (λ (k : Client). k.who) ends.goes.shows
    ∙ life_left old.client (ends_calls at 0 old.client.calls) (ends_unread reads_life (λ s a w x. refl) at 0 old.client.calls)

-- one part after another
pub life_over : (at : At) (old ended bare new last : ClientState) (one two three four five : Making)
    → Makes (λ k. ends_calls at 0 k.calls) old ended one two → Makes (λ k. drops_all (in_order k.store.held)) ended bare two three
    → Makes (λ k. Life (next_life k.who) ∷ []) bare new three four → Makes (joins_left 0) new last four five
    → Makes (evicted at) old last one five
life_over at old ended bare new last one two three four five ends drops begins joins =
    makes_as {row = λ k. follow (ends_calls at 0 k.calls) drops_row k} (evicted_is at old.client)
    (makes_then ends (makes_then {two = begins_row} drops (makes_then begins joins)))
