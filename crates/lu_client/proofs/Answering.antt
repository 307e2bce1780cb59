-- What an answer makes of a client: of its store, and of the call on one slot.
use Rattle.std.proofs.Common.{◌≡◌, ℕ, zero, suc, ◌+◌, ◌-◌, ◌*◌, ◌<◌, ◌≤◌, if◌then◌else◌, Bool, true, false, List, [], ◌∷◌, ◌++◌, length}
use Rattle.std.proofs.Common.{drop, get_or, Option, Some, None, refl, sym, ap, subst, ◌∙◌, arith}
use Rattle.std.specs.Prelude.{find, min, option_map, slice_set}
use Rattle.lu_base.specs.declared.ids.Cookie.{Cookie}
use Rattle.lu_base.specs.declared.ids.Who.{Who}
use Rattle.lu_base.specs.declared.locks.Extent.{Extent}
use Rattle.lu_base.specs.declared.locks.Lock.{Lock}
use Rattle.lu_base.specs.declared.locks.Mode.{Mode}
use Rattle.lu_base.specs.declared.locks.Policy.{Policy}
use Rattle.lu_base.specs.declared.locks.Policy.TheVariants.{Range}
use Rattle.lu_base.specs.declared.locks.Resource.{Resource}
use Rattle.lu_msg.specs.declared.answers.Answer.{Answer}
use Rattle.lu_msg.specs.declared.answers.Answer.TheVariants as answer
use Rattle.lu_msg.specs.declared.messages.Reply.{Reply as ReplyTo}
use Rattle.lu_msg.specs.declared.operations.Op.{Op}
use Rattle.lu_msg.specs.declared.operations.Op.TheVariants as op
use Rattle.lu_held.specs.declared.locks.HeldLock.{HeldLock}
use Rattle.lu_held.specs.declared.locks.Use.{Use}
use Rattle.lu_held.specs.declared.names.LockName.{LockName}
use Rattle.lu_held.specs.Locks.{is_named, named}
use Rattle.lu_spec_machine.specs.Places.{end_of}
use Rattle.lu_trace.specs.Turns.{Making}
use Rattle.lu_spec_entries.specs.Carried.{Flight, Stage, Work, Enqueued, Gets, Running}
use Rattle.lu_spec_entries.specs.Words.{Entry, Fills, Shows, Stands}
use Rattle.lu_spec_client.specs.Bytes.{Bytes, page_size}
use Rattle.lu_spec_client.specs.Caches.{brought, bytes_at, with_object}
use Rattle.lu_spec_client.specs.Calls.{call_on, reads_call}
use Rattle.lu_spec_client.specs.Messages.{enqueue_heard, fills, heeds, held_as, lock_heard, looks_again, on_running, on_slot, padded}
use Rattle.lu_spec_client.specs.Messages.{page_heard, page_under, part_count, part_first, shows}
use Rattle.lu_spec_client.specs.States.{Client, follow, store_turn, turn}
use Rattle.lu_client_store.specs.Stored.{StoreState, stored_after, stored_turn}
use Rattle.lu_call.specs.Turning as call_state
use Rattle.lu_client_refines.specs.Prints.{prints}
use Rattle.lu_client_refines.specs.Turns.{none_read, all_on, reads_beside_calls, reads_beside_store}
use Rattle.lu_client_refines.proofs.Follow.{goes_marks}
use Rattle.lu_client_refines.proofs.Lists.{self}
use Rattle.lu_client_refines.proofs.Slots.{call_on_get, calls_turn_at}
use Rattle.lu_client_refines.proofs.Turns.{turns, turned_calls, turned_store, calls_quiet}
use Rattle.lu_client.specs.Answers.{cut_heard, get_heard, page_came, put_heard}
use Rattle.lu_client.specs.Clients.{ClientState, Makes, stored_of, with_call, with_store}
use Rattle.lu_client.proofs.Going.{same_call}
use Rattle.lu_client.proofs.Making.{makes_as, makes_nothing, makes_then}
use Rattle.lu_client.proofs.Pages.{laid_near}

-- ---- marks of the store

pub stored_so : (c : ClientState) (s : StoreState) (es : List Entry) (m : Making) → none_read reads_beside_store es ≡ true
    → none_read prints es ≡ true
    → s ≡ record { unused = c.limits.unused; facts = c.client.facts; store = store_turn c.client.store es }
    → Makes (λ k. es) c (with_store s c) m m
stored_so c s es m beside marks is =
    record {
      goes = goes_marks c.client (with_store s c).client m es marks
          (ap (λ (t : StoreState). (with_store t c).client) is ∙ turned_store c.client (store_turn c.client.store es) es beside refl);
      limits = ap (λ (t : StoreState). (with_store t c).limits) is;
      spent = refl;
    }

-- ---- the call on a slot

-- Entries about one slot's call alone, which give nothing.
pub record IsAbout (slot : ℕ) (es : List Entry) : Type 0 where
  pub on : all_on slot es ≡ true
  pub beside : none_read reads_beside_calls es ≡ true
  pub marks : none_read prints es ≡ true

nothing_about : (slot : ℕ) → IsAbout slot []
nothing_about slot = record { on = refl; beside = refl; marks = refl }

stands_about : (slot : ℕ) (r : Running) → IsAbout slot (Stands slot r ∷ [])
stands_about slot r = record { on = rw (self slot) refl; beside = refl; marks = refl }

lock_about : (who : Who) (slot : ℕ) (r : Running) (w : Work) (a : Answer) (locks : List Lock) (wants : List Use)
    → IsAbout slot (lock_heard who slot r w a locks wants)
lock_about who slot r w a (l ∷ locks) wants = stands_about slot _
lock_about who slot r w (answer.Waiting cookie) [] (wanted ∷ left) = stands_about slot _
lock_about who slot r w a [] wants = nothing_about slot

pub enqueue_about : (who : Who) (a : Answer) (locks : List Lock) (slot : ℕ) (r : Running) (stage : Stage)
    → IsAbout slot (enqueue_heard who a locks slot r stage)
enqueue_about who a locks slot r (Enqueued w) = lock_about who slot r w a locks w.left
enqueue_about who a locks slot r stage = nothing_about slot

pub looks_about : (slot : ℕ) (r : Running) (stage : Stage) → IsAbout slot (looks_again slot r stage)
looks_about slot r (Gets w) = stands_about slot _
looks_about slot r stage = nothing_about slot

called : (c : ClientState) (slot : ℕ) (call : Option Running) (es : List Entry) (m : Making) → slot < length c.client.calls
    → IsAbout slot es → call_state.call_turn slot (call_on slot c.client.calls) es ≡ call → Makes (λ k. es) c (with_call slot call c) m m
called c slot call es m inside about is =
    record {
      goes = goes_marks c.client (with_call slot call c).client m es about.marks
          (turned_calls c.client (with_call slot call c).client.calls es about.beside
          (ap (slice_set c.client.calls slot) (sym is ∙ same_call slot (call_on slot c.client.calls) es)
          ∙ sym (calls_turn_at slot c.client.calls es inside about.on)));
      limits = refl;
      spent = refl;
    }

-- the call on a slot, if any, is another
pub on_call : (row : Client → ℕ → Running → Stage → List Entry) (c : ClientState) (slot : ℕ) (d call : Option Running) (m : Making)
    → slot < length c.client.calls → ((r : Running) → IsAbout slot (row c.client slot r r.stage))
    → call_state.call_turn slot (get_or c.client.calls slot d) (on_running (row c.client) slot (get_or c.client.calls slot d)) ≡ call
    → Makes (λ k. on_slot (row k) (Some slot) k) c (with_call slot call c) m m
on_call row c slot d call m inside about is =
    makes_as {row = λ k. on_running (row c.client) slot (call_on slot c.client.calls)} refl
    (called c slot call (on_running (row c.client) slot (call_on slot c.client.calls)) m inside (on_one (call_on slot c.client.calls))
    (ap (λ (o : Option Running). call_state.call_turn slot o (on_running (row c.client) slot o)) (call_on_get slot c.client.calls d inside)
    ∙ is))
  where
    on_one : (o : Option Running) → IsAbout slot (on_running (row c.client) slot o)
    on_one None = nothing_about slot
    on_one (Some r) = about r

-- past the last slot there is none
call_past : (slot : ℕ) (calls : List (Option Running)) → length calls ≤ slot → call_on slot calls ≡ None
call_past slot [] past = refl
call_past zero (call ∷ calls) past = absurd (omega (arith, past))
call_past (suc slot) (call ∷ calls) past = call_past slot calls (omega (arith, past))

pub on_none : (row : Client → ℕ → Running → Stage → List Entry) (c : ClientState) (slot : ℕ) (m : Making) → length c.client.calls ≤ slot
    → Makes (λ k. on_slot (row k) (Some slot) k) c c m m
on_none row c slot m past = makes_as {row = λ k. []} (sym (ap (on_running (row c.client) slot) (call_past slot c.client.calls past)))
    (makes_nothing c m)

-- ---- bytes that are known

pub fills_some : (resource : Resource) (at : ℕ) (bs : List ℕ) (c : ClientState) (s : StoreState) (m : Making) → s
    ≡ stored_after (stored_of c) (Fills resource at bs) → Makes (λ k. Fills resource at bs ∷ []) c (with_store s c) m m
fills_some resource at bs c s m is = stored_so c s (Fills resource at bs ∷ []) m refl refl is

-- where none are known more, it is the same from wherever on
near : (resource : Resource) (at : ℕ) (c : ClientState) → stored_after (stored_of c)
    (Fills resource (min at (end_of (bytes_at resource c.client.store.bytes))) []) ≡ stored_after (stored_of c) (Fills resource at [])
near resource at c =
    ap (λ (bs : Bytes). record {
      unused = c.limits.unused;
      facts = c.client.facts;
      store = record c.client.store { bytes = with_object resource bs c.client.store.bytes };
    }) (laid_near at (bytes_at resource c.client.store.bytes))

pub fills_none : (resource : Resource) (at low : ℕ) (bs : List ℕ) (c : ClientState) (s : StoreState) (m : Making) → length bs ≡ 0 → low
    ≡ min at (end_of (bytes_at resource c.client.store.bytes)) → s ≡ stored_after (stored_of c) (Fills resource low bs)
    → Makes (λ k. Fills resource at bs ∷ []) c (with_store s c) m m
fills_none resource at low [] c s m none short is =
    fills_some resource at [] c s m (is ∙ ap (λ (n : ℕ). stored_after (stored_of c) (Fills resource n [])) short ∙ near resource at c)
fills_none resource at low (b ∷ bs) c s m none short is = absurd (omega (arith, none))

-- the part of a page under a lock
pub fills_part : (resource : Resource) (page : ℕ) (content : List ℕ) (extent : Extent) (first count : ℕ) (part : List ℕ) → first
    ≡ part_first page extent → count ≡ part_count page extent → part ≡ padded (drop (first - page * page_size) content) count
    → Fills resource first part ≡ fills resource page content extent
fills_part resource page content extent first count part from many is =
    ap (Fills resource first) (is ∙ ap (padded (drop (first - page * page_size) content)) many)
    ∙ ap (λ (n : ℕ). Fills resource n (padded (drop (n - page * page_size) content) (part_count page extent))) from

-- ---- the last byte that was shown

shows_last : (resource : Resource) (cookie : Cookie) (page : ℕ) (bs : List ℕ) → (length bs ≡ 0 → ⊥)
    → Shows resource cookie (page * page_size + (length bs - 1)) ∷ [] ≡ shows resource cookie page bs
shows_last resource cookie page [] some = absurd (some refl)
shows_last resource cookie page (b ∷ bs) some = let same : suc (length bs) - 1 ≡ length bs = omega arith
    in ap (λ (n : ℕ). Shows resource cookie (page * page_size + n) ∷ []) same

pub shows_some : (resource : Resource) (cookie : Cookie) (page : ℕ) (bs : List ℕ) (c : ClientState) (s : StoreState) (m : Making)
    → (length bs ≡ 0 → ⊥) → s ≡ stored_after (stored_of c) (Shows resource cookie (page * page_size + (length bs - 1)))
    → Makes (λ k. shows resource cookie page bs) c (with_store s c) m m
shows_some resource cookie page bs c s m some is =
    makes_as {row = λ k. Shows resource cookie (page * page_size + (length bs - 1)) ∷ []} (shows_last resource cookie page bs some)
    (stored_so c s (Shows resource cookie (page * page_size + (length bs - 1)) ∷ []) m refl refl is)

-- ---- a page

pub held_found : (name : LockName) (held : List HeldLock) → held_as name held
    ≡ option_map (λ (h : HeldLock). h.lock) (find (is_named name) held)
held_found name [] = refl
held_found name (h ∷ held) = by (is_named name h) (held_found name held) where
  by : (v : Bool) → held_as name held ≡ option_map (λ (h : HeldLock). h.lock) (find (is_named name) held)
      → (if v then Some h.lock else held_as name held) ≡ option_map (λ (h : HeldLock). h.lock)
      (if v then Some h else find (is_named name) held)
  by true rest = refl
  by false rest = rest

-- no lock of this name is held
pub page_none : (resource : Resource) (name : LockName) (page : ℕ) (bs : List ℕ) (c : ClientState) (m : Making) → None
    ≡ find (is_named name) c.client.store.held → Makes (page_came resource name page bs) c c m m
page_none resource name page bs c m none =
    makes_as {row = λ k. []} (sym (ap (page_heard resource name.cookie page bs)
    (held_found name c.client.store.held ∙ ap (option_map (λ (h : HeldLock). h.lock)) (sym none)))) (makes_nothing c m)

-- one is
page_some : (resource : Resource) (name : LockName) (page : ℕ) (bs : List ℕ) (c : ClientState) (h : HeldLock) → Some h
    ≡ find (is_named name) c.client.store.held → page_came resource name page bs c.client
    ≡ page_under resource name.cookie page bs h.lock.ask.policy
page_some resource name page bs c h some =
    ap (page_heard resource name.cookie page bs) (held_found name c.client.store.held
    ∙ ap (option_map (λ (h : HeldLock). h.lock)) (sym some))

-- but not on a range
pub page_bits : (resource : Resource) (name : LockName) (page : ℕ) (bs : List ℕ) (c : ClientState) (h : HeldLock) (m : Making) → Some h
    ≡ find (is_named name) c.client.store.held → ((extent : Extent) → h.lock.ask.policy ≡ Range extent → ⊥)
    → Makes (page_came resource name page bs) c c m m
page_bits resource name page bs c h m some not =
    makes_as {row = λ k. []} (sym (page_some resource name page bs c h some ∙ unranged h.lock.ask.policy not)) (makes_nothing c m)
  where
    unranged : (p : Policy) → ((extent : Extent) → p ≡ Range extent → ⊥) → page_under resource name.cookie page bs p ≡ []
    unranged (Range extent) not = absurd (not extent refl)
    unranged p not = refl

-- on a range: the last byte was shown, and the part under it is filled
pub page_range : (resource : Resource) (name : LockName) (page : ℕ) (bs : List ℕ) (c mid new : ClientState) (h : HeldLock) (extent : Extent)
    (m : Making) → Some h ≡ find (is_named name) c.client.store.held → h.lock.ask.policy ≡ Range extent
    → Makes (λ k. shows resource name.cookie page bs) c mid m m → Makes (λ k. fills resource page bs extent ∷ []) mid new m m
    → Makes (page_came resource name page bs) c new m m
page_range resource name page bs c mid new h extent m some range one two =
    makes_as {row = λ k. follow (shows resource name.cookie page bs) (λ k. fills resource page bs extent ∷ []) k}
    (sym (page_some resource name page bs c h some ∙ ap (page_under resource name.cookie page bs) range))
    (makes_then one two)

-- ---- a get

-- a page leaves the calls as they are
page_quiet : (resource : Resource) (cookie : Cookie) (page : ℕ) (bs : List ℕ) (l : Option Lock)
    → none_read reads_call (page_heard resource cookie page bs l) ≡ true
page_quiet resource cookie page bs None = refl
page_quiet resource cookie page bs (Some l) = under bs l.ask.policy where
  under : (bs : List ℕ) (p : Policy) → none_read reads_call (page_under resource cookie page bs p) ≡ true
  under [] (Range extent) = refl
  under (b ∷ bs) (Range extent) = refl
  under bs p = refl

turn_calls : (k : Client) (es : List Entry) → none_read reads_call es ≡ true → (turn k es).calls ≡ k.calls
turn_calls k es quiet = ap (λ (j : Client). j.calls) (turns k es) ∙ calls_quiet k.calls es quiet

on_slot_calls : (stands : ℕ → Running → Stage → List Entry) (slot : Option ℕ) (j k : Client) → j.calls ≡ k.calls → on_slot stands slot j
    ≡ on_slot stands slot k
on_slot_calls stands None j k same = refl
on_slot_calls stands (Some slot) j k same = ap (λ (calls : List (Option Running)). on_running stands slot (call_on slot calls)) same

-- the page came, and the call looks again
pub got : (slot : Option ℕ) (resource : Resource) (name : LockName) (page : ℕ) (bs : List ℕ) (c mid new : ClientState) (m : Making)
    → Makes (page_came resource name page bs) c mid m m → Makes (on_slot looks_again slot) mid new m m
    → Makes (get_heard slot resource name page (answer.Content bs)) c new m m
got slot resource name page bs c mid new m came looks =
    makes_as {row = λ k. follow (page_came resource name page bs k) (on_slot looks_again slot) k}
    (ap (λ (es : List Entry). page_came resource name page bs c.client ++ es)
    (on_slot_calls looks_again slot (turn c.client (page_came resource name page bs c.client)) c.client
    (turn_calls c.client (page_came resource name page bs c.client)
    (page_quiet resource name.cookie page bs (held_as name c.client.store.held)))))
    (makes_then came looks)

-- ---- write-backs

pub put_done : (resource : Resource) (at : ℕ) (bs : List ℕ) (a : Answer) (c : ClientState) (s : StoreState) (m : Making) → a ≡ answer.Done
    → s ≡ stored_turn (stored_of c) (put_heard resource at bs answer.Done) → Makes (λ k. put_heard resource at bs a) c (with_store s c) m m
put_done resource at bs a c s m done is =
    subst (λ (x : Answer). Makes (λ k. put_heard resource at bs x) c (with_store s c) m m) (sym done)
    (stored_so c s (put_heard resource at bs answer.Done) m refl refl is)

pub cut_done : (resource : Resource) (n : ℕ) (a : Answer) (c : ClientState) (s : StoreState) (m : Making) → a ≡ answer.Done → s
    ≡ stored_turn (stored_of c) (cut_heard resource n answer.Done) → Makes (λ k. cut_heard resource n a) c (with_store s c) m m
cut_done resource n a c s m done is =
    subst (λ (x : Answer). Makes (λ k. cut_heard resource n x) c (with_store s c) m m) (sym done)
    (stored_so c s (cut_heard resource n answer.Done) m refl refl is)

-- ---- the row of an answer, by the operation

pub heeds_lock : (t : ℕ) (f : Flight) (resource : Resource) (mode : Mode) (extent : Extent) (r : ReplyTo) (a : Answer) (locks : List Lock)
    (slot : Option ℕ) (c new : ClientState) (m : Making) → f.slot ≡ slot → f.op ≡ op.Enqueue resource mode extent
    → locks ≡ brought (op.Enqueue resource mode extent) r → Makes (λ k. on_slot (enqueue_heard k.who a locks) slot k) c new m m
    → Makes (heeds t f (op.Enqueue resource mode extent) r a) c new m m
heeds_lock t f resource mode extent r a locks slot c new m serves asks brings makes =
    makes_as {row = λ k. on_slot (enqueue_heard k.who a locks) slot k}
    (ap (λ (ls : List Lock). on_slot (enqueue_heard c.client.who a ls) slot c.client) (brings ∙ ap (λ (o : Op). brought o r) (sym asks))
    ∙ ap (λ (s : Option ℕ). on_slot (enqueue_heard c.client.who a (brought f.op r)) s c.client) (sym serves))
    makes

get_row : (t : ℕ) (f : Flight) (resource : Resource) (cookie : Cookie) (page : ℕ) (r : ReplyTo) (a : Answer) (k : Client)
    → get_heard f.slot resource (named (record { 0 = t }) cookie) page a k ≡ heeds t f (op.Get resource cookie page) r a k
get_row t f resource cookie page r (answer.Content bs) k = refl
get_row t f resource cookie page r a k = refl

pub heeds_get : (t : ℕ) (f : Flight) (resource : Resource) (cookie : Cookie) (page : ℕ) (r : ReplyTo) (a : Answer) (slot : Option ℕ)
    (c new : ClientState) (m : Making) → f.slot ≡ slot
    → Makes (get_heard slot resource (named (record { 0 = t }) cookie) page a) c new m m
    → Makes (heeds t f (op.Get resource cookie page) r a) c new m m
heeds_get t f resource cookie page r a slot c new m serves makes =
    makes_as {row = get_heard slot resource (named (record { 0 = t }) cookie) page a}
    (ap (λ (s : Option ℕ). get_heard s resource (named (record { 0 = t }) cookie) page a c.client) (sym serves)
    ∙ get_row t f resource cookie page r a c.client)
    makes

put_row : (t : ℕ) (f : Flight) (resource : Resource) (cookie : Cookie) (at : ℕ) (bs : List ℕ) (r : ReplyTo) (a : Answer) (k : Client)
    → put_heard resource at bs a ≡ heeds t f (op.Put resource cookie at bs) r a k
put_row t f resource cookie at bs r answer.Done k = refl
put_row t f resource cookie at bs r a k = refl

pub heeds_put : (t : ℕ) (f : Flight) (resource : Resource) (cookie : Cookie) (at : ℕ) (bs : List ℕ) (r : ReplyTo) (a : Answer)
    (c new : ClientState) (m : Making) → Makes (λ k. put_heard resource at bs a) c new m m
    → Makes (heeds t f (op.Put resource cookie at bs) r a) c new m m
heeds_put t f resource cookie at bs r a c new m makes = makes_as {row = λ k. put_heard resource at bs a}
    (put_row t f resource cookie at bs r a c.client) makes

cut_row : (t : ℕ) (f : Flight) (resource : Resource) (cookie : Cookie) (n : ℕ) (r : ReplyTo) (a : Answer) (k : Client)
    → cut_heard resource n a ≡ heeds t f (op.Cut resource cookie n) r a k
cut_row t f resource cookie n r answer.Done k = refl
cut_row t f resource cookie n r a k = refl

pub heeds_cut : (t : ℕ) (f : Flight) (resource : Resource) (cookie : Cookie) (n : ℕ) (r : ReplyTo) (a : Answer) (c new : ClientState)
    (m : Making) → Makes (λ k. cut_heard resource n a) c new m m → Makes (heeds t f (op.Cut resource cookie n) r a) c new m m
heeds_cut t f resource cookie n r a c new m makes = makes_as {row = λ k. cut_heard resource n a}
    (cut_row t f resource cookie n r a c.client) makes
