-- A client's code at its held locks does what the rows say: marks, write-backs, and what is given up.
use Rattle.std.proofs.Common.{◌≡◌, ℕ, zero, suc, ◌+◌, ◌<◌, ◌&&◌, if◌then◌else◌, Bool, true, false, List, [], ◌∷◌, length, drop, filter}
use Rattle.std.proofs.Common.{get_or, Option, Some, None, refl, sym, ap, subst, ◌∙◌, arith}
use Rattle.std.specs.Prelude.{option_map, slice_get}
use Rattle.std.proofs.lemmas.List.{drop_more}
use Rattle.lu_base.specs.declared.ids.Node.TheVariants.{Target}
use Rattle.lu_base.specs.declared.ids.Who.{Who}
use Rattle.lu_held.specs.declared.locks.HeldLock.{HeldLock}
use Rattle.lu_msg.specs.declared.messages.Message.TheVariants as message
use Rattle.lu_msg.specs.declared.messages.Post.{Post}
use Rattle.lu_trace.specs.declared.entries.Entry.TheVariants as printed
use Rattle.lu_trace.specs.Turns.{Making, with_line, with_post}
use Rattle.lu_import.specs.Imports as own
use Rattle.lu_import.specs.Imports.{ImportState}
use Rattle.lu_spec_entries.specs.declared.changes.Flush.{Flush}
use Rattle.lu_spec_entries.specs.Carried.{Queued, Running}
use Rattle.lu_spec_entries.specs.Words.{Entry, Marks, Drop, Send, Queues, WritesBack}
use Rattle.lu_spec_client.specs.Caches.{patch_at}
use Rattle.lu_spec_client.specs.Calls.{calls_after}
use Rattle.lu_spec_client.specs.Facts.{facts_after}
use Rattle.lu_spec_client.specs.Imports.{Import, imports_after, import_of, is_serving}
use Rattle.lu_spec_client.specs.Locks.{is_called, must_write, trims, gives_up, visits, visits_all}
use Rattle.lu_spec_client.specs.Patches.{in_flight}
use Rattle.lu_spec_client.specs.States.{Client, Limits, after, turn, follow, store_after}
use Rattle.lu_spec_client.specs.WriteBack.{operation, flush_under}
use Rattle.lu_client_store.specs.declared.flushes.WriteBack.{WriteBack}
use Rattle.lu_client_store.specs.Stored.{StoreState, stored_after, stored_turn}
use Rattle.lu_client_store.specs.WriteBacks.{back_under, backs}
use Rattle.lu_client_store.proofs.Visits.{visits_ready}
use Rattle.lu_client_refines.proofs.Follow.{goes_as, goes_marks, goes_post}
use Rattle.lu_client_refines.specs.Imports.{imports_of}
use Rattle.lu_client_refines.proofs.Sending.{serving_is}
use Rattle.lu_client_refines.proofs.Slots.{calls_write_back}
use Rattle.lu_client_refines.proofs.Targets.{import_of_some}
use Rattle.lu_client_refines.proofs.Turns.{turned, turned_store, turned_kept, calls_stay, imports_stay}
use Rattle.lu_client.specs.Clients.{ClientState, Makes, Remains, stored_of, with_store, with_imports}
use Rattle.lu_client.specs.Visits.{IsTrimmed, IsFull, back_row, gives_row, boot_served}
use Rattle.lu_client.proofs.Making.{makes_nothing, makes_as, makes_on, makes_note, makes_mark, remains_first, remains_step, remains_end}

-- ---- unused locks

module _ (old new : ClientState) (trimmed : IsTrimmed old new) where
  marked_shows : new.client ≡ turn old.client (Marks trimmed.name ∷ [])
  marked_shows =
      ap (λ (c : ClientState). c.client) trimmed.shows
      ∙ turned_store old.client (store_after old.client.store (Marks trimmed.name)) (Marks trimmed.name ∷ []) refl refl

  marked_limits : new.limits ≡ old.limits
  marked_limits = ap (λ (c : ClientState). c.limits) trimmed.shows

  marked : (making : Making) → Makes (λ k. Marks trimmed.name ∷ []) old new making making
  marked making = makes_mark (Marks trimmed.name) refl refl marked_shows marked_limits (ap (λ (c : ClientState). c.spent) trimmed.shows)

  -- the others are left
  left : (limits : Limits) → old.limits ≡ limits → trims limits old.client ≡ follow (Marks trimmed.name ∷ []) (trims limits) old.client
  left limits same =
      ap (λ (l : Limits). trims l old.client) (sym same)
      ∙ trimmed.row
      ∙ ap (λ (l : Limits). Marks trimmed.name ∷ trims l new.client) (marked_limits ∙ same)
      ∙ ap (λ (k : Client). Marks trimmed.name ∷ trims limits k) marked_shows

  pub trims_next : (first : ClientState) → ((making : Making) → Remains (trims first.limits) (trims first.limits) first old making making)
      → (making : Making) → Remains (trims first.limits) (trims first.limits) first new making making
  trims_next first so_far making = remains_step (left first.limits (so_far making).limits) (so_far making) (marked making)

  -- and one fewer is
  pub trims_fewer : length (trims new.limits new.client) < length (trims old.limits old.client)
  trims_fewer = let one : length (trims old.limits old.client) ≡ suc (length (trims new.limits new.client)) = ap length trimmed.row
      in omega (arith, one)

pub trims_end : (first old new : ClientState) → ((making : Making)
    → Remains (trims first.limits) (trims first.limits) first old making making) → IsFull old new → (making : Making)
    → Makes (trims first.limits) first new making making
trims_end first old new so_far full making =
    subst (λ (c : ClientState). Makes (trims first.limits) first c making making) (sym full.stays)
    (remains_end (subst (λ (l : Limits). trims l old.client ≡ []) (so_far making).limits full.row) (so_far making))

pub trims_begun : (first : ClientState) (making : Making) → Remains (trims first.limits) (trims first.limits) first first making making
trims_begun first making = remains_first (trims first.limits) first making

-- ---- write-back

-- none is due, or none may go now
pub back_none : (h : HeldLock) (c : ClientState) (making : Making) → back_row h c.client ≡ [] → Makes (back_row h) c c making making
back_none h c making none = makes_as (sym none) (makes_nothing c making)

pub back_flies : (h : HeldLock) (k : Client) → in_flight (patch_at h.lock.resource k.store.patches) ≡ true → back_row h k ≡ []
back_flies h k flies = rw flies refl

back_is : (h : HeldLock) (k : Client) (o : Option Flush) → in_flight (patch_at h.lock.resource k.store.patches) ≡ false
    → flush_under (patch_at h.lock.resource k.store.patches) h.lock.ask.mode h.lock.ask.policy ≡ o
    → back_row h k ≡ backs (option_map (back_under h) o)
back_is h k None rests due = rw (rests, due) refl
back_is h k (Some flush) rests due = rw (rests, due) refl

-- what the store answers is what the rows write back
pub back_answer : (h : HeldLock) (k : Client) (back : Option WriteBack) → in_flight (patch_at h.lock.resource k.store.patches) ≡ false
    → back ≡ option_map (back_under h) (flush_under (patch_at h.lock.resource k.store.patches) h.lock.ask.mode h.lock.ask.policy)
    → back_row h k ≡ backs back
back_answer h k back rests is = back_is h k _ rests refl ∙ ap backs (sym is)

-- it is under way, and queued
module _ (h : HeldLock) (old new : ClientState) (store : StoreState) (back : WriteBack) (making : Making)
    (row : back_row h old.client ≡ backs (Some back)) (stored : store ≡ stored_turn (stored_of old) (backs (Some back)))
    (queued : new ≡ with_imports (imports_after old.client.imports
    (Queues back.target.0 (record { slot = None; op = operation back.lock.resource back.lock.cookie back.flush })))
    (with_store store old)) where
  abbrev waits : Queued
  waits = record { slot = None; op = operation back.lock.resource back.lock.cookie back.flush }

  abbrev sent_back : Entry
  sent_back = WritesBack back.lock.resource back.flush

  abbrev es : List Entry
  es = sent_back ∷ Queues back.target.0 waits ∷ []

  abbrev between : ClientState
  between = with_imports (imports_after old.client.imports (Queues back.target.0 waits)) (with_store store old)

  back_shows : new.client ≡ turn old.client es
  back_shows =
      ap (λ (c : ClientState). c.client) queued
      ∙ turned old.client between.client es refl refl
      (sym (ap (λ (cs : List (Option Running)). calls_after cs (Queues back.target.0 waits)) (calls_stay old.client.calls sent_back refl)
      ∙ calls_write_back back.target.0 old.client.calls waits refl))
      (sym (ap (λ (is : List Import). imports_after is (Queues back.target.0 waits)) (imports_stay old.client.imports sent_back refl)))
      (ap (λ (s : StoreState). s.facts) stored)
      (ap (λ (s : StoreState). s.store) stored)

  pub back_made : Makes (back_row h) old new making making
  back_made =
      record {
        goes = goes_as (λ k. es) (back_row h) old.client new.client making making (sym row)
            (goes_marks old.client new.client making es refl back_shows);
        limits = ap (λ (c : ClientState). c.limits) queued ∙ ap (λ (s : StoreState). record old.limits { unused = s.unused }) stored;
        spent = ap (λ (c : ClientState). c.spent) queued;
      }

-- ---- giving up

served_by : (serving : Bool) (known boot : ℕ) → (if serving then Some known else None) ≡ Some boot → (serving ≡ true) × (known ≡ boot)
served_by true known boot e = let same : known ≡ boot = cc in (refl, same)
served_by false known boot e = absurd (cc)

unserved_by : (serving : Bool) (known : ℕ) → (if serving then Some known else None) ≡ None → serving ≡ false
unserved_by true known e = absurd (cc)
unserved_by false known e = refl

none_both : (a b : Bool) → b ≡ false → (a && b) ≡ false
none_both true b e = e
none_both false b e = refl

-- a lock that is in use, or not called back, stays
pub gives_uncalled : (who : Who) (h : HeldLock) (i : Import) → is_called h ≡ false → gives_up who h i ≡ []
gives_uncalled who h i out = rw out refl

-- so does one whose target doesn't serve the life
pub gives_unserved : (who : Who) (h : HeldLock) (i : Import) → boot_served i ≡ None → gives_up who h i ≡ []
gives_unserved who h i none =
    let off : (is_called h && is_serving i.standing) ≡ false = none_both (is_called h) (is_serving i.standing)
    (unserved_by (is_serving i.standing) i.boot none) in
    rw off refl

pub gives_served : (who : Who) (h : HeldLock) (i : Import) (boot : ℕ) → is_called h ≡ true → boot_served i ≡ Some boot
    → gives_up who h i ≡ Drop h.target.0 h.lock ∷ Send (Target h.target.0) (message.Cancel who boot h.lock.cookie) ∷ []
gives_served who h i boot called served =
    let two : (is_serving i.standing ≡ true) × (i.boot ≡ boot) = served_by (is_serving i.standing) i.boot boot served in
    let gone : gives_up who h i ≡ Drop h.target.0 h.lock ∷ Send (Target h.target.0) (message.Cancel who i.boot h.lock.cookie) ∷ [] =
    rw (called, two.0) refl in
    gone ∙ ap (λ (b : ℕ). Drop h.target.0 h.lock ∷ Send (Target h.target.0) (message.Cancel who b h.lock.cookie) ∷ []) two.1

-- nothing is done
pub gives_nothing : (h : HeldLock) (c : ClientState) (making : Making) → gives_row h c.client ≡ [] → Makes (gives_row h) c c making making
gives_nothing h c making none = makes_as (sym none) (makes_nothing c making)

-- it is held no more
pub held_dropped : (h : HeldLock) (old new : ClientState) (before after : Making) → new
    ≡ with_store (stored_after (stored_of old) (Drop h.target.0 h.lock)) old
    → after.step ≡ with_line before.at before.step (printed.Drop h.target h.lock.cookie) → after.at ≡ before.at
    → Makes (λ k. Drop h.target.0 h.lock ∷ []) old new before after
held_dropped h old new before after dropped line at =
    let e : Entry = Drop h.target.0 h.lock in
    let shows : new.client ≡ turn old.client (e ∷ []) =
    ap (λ (c : ClientState). c.client) dropped ∙ turned_kept old.client (facts_after old.client.facts e) (store_after old.client.store e)
    (e ∷ []) refl refl refl refl refl refl in
    makes_note e refl refl line at shows (ap (λ (c : ClientState). c.limits) dropped) (ap (λ (c : ClientState). c.spent) dropped)

-- and its target is told so
module _ (h : HeldLock) (boot : ℕ) (old new : ClientState) (before between after : Making)
    (drops : Makes (λ k. Drop h.target.0 h.lock ∷ []) old new before between) where
  -- by this life
  abbrev word : Who → Post
  word who = record { to = Target h.target.0; message = message.Cancel who boot h.lock.cookie }

  same_life : new.client.who ≡ old.client.who
  same_life = ap (λ (k : Client). k.who) drops.goes.shows

  pub given_back : after.step ≡ with_post between.at between.step (word new.client.who) → after.at ≡ between.at
      → Makes (λ k. Drop h.target.0 h.lock ∷ Send (Target h.target.0) (message.Cancel k.who boot h.lock.cookie) ∷ []) old new before after
  given_back post sent_at =
      let sent : Post = word old.client.who in
      let tells : Makes (λ k. Send sent.to sent.message ∷ []) new new between after =
      record {
        goes = goes_post new.client between after sent (post
            ∙ ap (λ (who : Who). with_post between.at between.step (word who)) same_life) sent_at;
        limits = refl;
        spent = refl;
      } in
      makes_as {row = λ k. Drop h.target.0 h.lock ∷ Send sent.to sent.message ∷ []} refl (makes_on drops tells)

-- ---- the boot of a target that serves the life

pub boot_none : (t : ℕ) (is : List ImportState) → slice_get is t ≡ None → boot_served (import_of t (imports_of is)) ≡ None
boot_none t [] none = refl
boot_none zero (i ∷ is) none = absurd (cc)
boot_none (suc t) (i ∷ is) none = boot_none t is none

pub boot_some : (t : ℕ) (is : List ImportState) (i : ImportState) (serving : Bool) → slice_get is t ≡ Some i → own.is_serving i.standing
    ≡ serving → boot_served (import_of t (imports_of is)) ≡ (if serving then Some i.boot else None)
boot_some t is i serving some stands =
    ap boot_served (import_of_some t is i some) ∙ ap (λ (b : Bool). if b then Some i.boot else None) (serving_is i.standing ∙ stands)

-- ---- a visit

pub visits_writes : (over : Bool) (h : HeldLock) (k : Client) → must_write over h h.lock.ask.mode h.lock.ask.policy
    (patch_at h.lock.resource k.store.patches) ≡ true → back_row h k ≡ visits over h k
visits_writes over h k must = rw must refl

pub visits_gives : (over : Bool) (h : HeldLock) (k : Client) → must_write over h h.lock.ask.mode h.lock.ask.policy
    (patch_at h.lock.resource k.store.patches) ≡ false → gives_row h k ≡ visits over h k
visits_gives over h k must = rw must refl

-- ---- one after another

pub visited : (over : Bool) (locks : List HeldLock) (n : ℕ) (d : HeldLock) (first now next : ClientState) (before making after : Making)
    → n < length locks
    → Remains (visits_all over locks) (visits_all over (drop n locks)) first now before making
    → Makes (visits over (get_or locks n d)) now next making after
    → Remains (visits_all over locks) (visits_all over (drop (n + 1) locks)) first next before after
visited over locks n d first now next before making after inside so_far makes =
    remains_step {rest = visits_all over (drop (n + 1) locks)} (ap (λ (hs : List HeldLock). visits_all over hs now.client)
    (drop_more locks n d inside)) so_far makes

-- ---- which locks are visited

pub all_visited : (over : Bool) (held locks : List HeldLock) → locks ≡ held → (k : Client) → visits_all over held k
    ≡ visits_all over locks k
all_visited over held locks same k = ap (λ (hs : List HeldLock). visits_all over hs k) (sym same)

pub ready_visited : (over : Bool) (held locks : List HeldLock) → over ≡ false → locks ≡ filter is_called held → (k : Client)
    → visits_all over held k ≡ visits_all over locks k
ready_visited over held locks under same k =
    ap (λ (o : Bool). visits_all o held k) under
    ∙ visits_ready held k
    ∙ ap (λ (o : Bool). visits_all o (filter is_called held) k) (sym under)
    ∙ ap (λ (hs : List HeldLock). visits_all over hs k) (sym same)
