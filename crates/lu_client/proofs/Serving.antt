-- What a client does once a target serves its life is what the rows do then.
use Rattle.std.proofs.Common.{◌≡◌, ℕ, ◌+◌, ◌<◌, ◌≤◌, ◌==◌, Bool, true, false, List, [], ◌∷◌, ◌++◌, length, get_or, Option, Some, None}
use Rattle.std.proofs.Common.{Result, Ok, Err, OnOk, OnErr, IfOk, sym, ap, subst, refl, ◌∙◌}
use Rattle.std.specs.Prelude.{slice_set}
use Rattle.std.proofs.lemmas.Bool.{eqb-true}
use Rattle.lu_base.specs.declared.faults.Memory.{Memory}
use Rattle.lu_base.specs.declared.ids.Who.{Who}
use Rattle.lu_call.specs.declared.nexts.Binding.{Binding}
use Rattle.lu_call.specs.Turning as call_state
use Rattle.lu_client_store.specs.Stored.{StoreState}
use Rattle.lu_import.specs.Imports as code
use Rattle.lu_import.specs.Imports.{ImportState, IsSound}
use Rattle.lu_msg.specs.declared.messages.Post.{Post}
use Rattle.lu_trace.specs.Turns.{Making}
use Rattle.lu_spec_entries.specs.Carried.{Running}
use Rattle.lu_spec_entries.specs.Given.{giving}
use Rattle.lu_spec_entries.specs.Words.{Entry, Serves, Settles, same_life}
use Rattle.lu_spec_client.specs.Calls.{call_on}
use Rattle.lu_spec_client.specs.Imports.{Import, import_of, imports_after}
use Rattle.lu_spec_client.specs.Messages.{is_present, ready_heard}
use Rattle.lu_spec_client.specs.Recovery.{looks_stage, on_calls}
use Rattle.lu_spec_client.specs.Sending.{resends}
use Rattle.lu_spec_client.specs.States.{Client, Limits, turn, follow}
use Rattle.lu_client_refines.specs.Imports.{import_of_state, imports_of, IsOne}
use Rattle.lu_client_refines.specs.Posts.{posted}
use Rattle.lu_client_refines.specs.Prints.{prints}
use Rattle.lu_client_refines.specs.Turns.{import_turn, imports_turn, reads_beside_calls, none_read, all_on}
use Rattle.lu_client_refines.proofs.Follow.{posts_still, goes_marks, goes_posts}
use Rattle.lu_client_refines.proofs.Lists.{both_true, self}
use Rattle.lu_client_refines.proofs.Recovering.{ready_shown, ready_row, ready_one}
use Rattle.lu_client_refines.proofs.Slots.{looks_own, looks_unread}
use Rattle.lu_client_refines.proofs.Targets.{import_of_at, one_of, imports_shown}
use Rattle.lu_client_refines.proofs.Turns.{calls_quiet, turned_imports}
use Rattle.lu_client.specs.Clients.{ClientState, AreKept, limits_of, state_of, with_call, with_imports, Makes}
use Rattle.lu_client.specs.Resuming.{IsServed, looks_one, looks_left, LooksOn}
use Rattle.lu_client.proofs.Keeping.{kept_import}
use Rattle.lu_client.proofs.Making.{makes_nothing, makes_as, makes_then, remains_first, remains_step, remains_end}
use Rattle.lu_client.proofs.Slotwise as slotwise

-- ---- the import

-- that of a target, as the code keeps it
pub import_here : (t : ℕ) (imports : List ImportState) (i : ImportState) → t < length imports → i ≡ get_or imports t i
    → import_of t (imports_of imports) ≡ import_of_state i
import_here t imports i inside is = import_of_at t imports i inside ∙ ap import_of_state (sym is)

-- one that heard the target serves stays that of its target and life
ready_is_one : (limits : Limits) (who : Who) (t boot committed : ℕ) (old new : ImportState) (result : Result (List Post) Memory)
    → IsOne limits who t old → IsSound new
    → OnOk result (new ≡ code.ready boot committed old) → OnErr result (new ≡ old) → IsOne limits who t new
ready_is_one limits who t boot committed old new (Ok sends) one sound ready kept =
    ready_one limits who t boot committed old new ready sound one
ready_is_one limits who t boot committed old new (Err e) one sound ready kept = subst (IsOne limits who t) (sym kept) one

module _ (osts flight dirty : ℕ) (who : Who) (handles : List Binding) (calls : List (Option Running)) (store : StoreState)
    (spent : Bool) where
  abbrev shown : List ImportState → ClientState
  shown imports = state_of osts flight dirty who handles calls imports store spent

  module _ (t boot committed : ℕ) (imports : List ImportState) (old new : ImportState)
      (kept : AreKept osts flight dirty who calls imports store) (inside : t < length imports) (is : old ≡ get_or imports t old) where
    one : IsOne (limits_of osts flight dirty store) who t old
    one = subst (IsOne (limits_of osts flight dirty store) who t) (sym is)
        (one_of (limits_of osts flight dirty store) who t imports old kept.kept inside)

    -- the client keeps what always holds of it
    pub ready_keeps : (result : Result (List Post) Memory) → IsSound new → OnOk result (new ≡ code.ready boot committed old)
        → OnErr result (new ≡ old) → AreKept osts flight dirty who calls (slice_set imports t new) store
    ready_keeps result sound ready same = kept_import kept t new
        (ready_is_one (limits_of osts flight dirty store) who t boot committed old new result one sound ready same)

    served_at : (again : List Post) → boot ≡ old.boot → new ≡ code.ready boot committed old → again ≡ code.resumes boot old
        → IsServed t boot committed (shown imports) (shown (slice_set imports t new)) again
    served_at again same ready sends =
        let here : import_of t (imports_of imports) ≡ import_of_state old = import_here t imports old inside is in
        let next : imports_of (slice_set imports t new) ≡ imports_after (imports_after (imports_of imports) (Serves t boot))
        (Settles t committed) =
        imports_shown t imports new old (Serves t boot ∷ Settles t committed ∷ []) inside (rw (self t) refl)
        (ready_shown t boot committed old new same ready ∙ ap (λ (i : ImportState). import_turn (import_of_state i)
        (Serves t boot ∷ Settles t committed ∷ [])) is) in
        record {
          shows = ap (λ (rows : List Import). with_imports rows (shown imports)) next;
          sends =
              ready_row (limits_of osts flight dirty store) who t boot old again one same sends
              ∙ ap (λ (b : ℕ). resends who b t (import_of_state old).flights) (sym same)
              ∙ ap (λ (i : Import). resends who boot t i.flights) (sym here);
        }

    served : (c : ClientState) → shown imports ≡ c → (again : List Post) → boot ≡ (import_of t c.client.imports).boot → new
        ≡ code.ready boot committed old → again ≡ code.resumes boot old
        → IsServed t boot committed c (shown (slice_set imports t new)) again
    served c shows again known ready sends =
        let same : boot ≡ old.boot = known ∙ ap (λ (s : ClientState). (import_of t s.client.imports).boot) (sym shows)
        ∙ ap (λ (i : Import). i.boot) (import_here t imports old inside is) in
        subst (λ (s : ClientState). IsServed t boot committed s (shown (slice_set imports t new)) again) shows
        (served_at again same ready sends)

    pub served_ok : (c : ClientState) → shown imports ≡ c → boot ≡ (import_of t c.client.imports).boot
        → (result : Result (List Post) Memory) → OnOk result (new ≡ code.ready boot committed old)
        → IfOk result (λ again. again ≡ code.resumes boot old) → IfOk result (IsServed t boot committed c (shown (slice_set imports t new)))
    served_ok c shows known (Ok again) ready sends = served c shows again known ready sends
    served_ok c shows known (Err e) ready sends = tt

-- ---- asks that were forgotten

looks_mine : (t slot : ℕ) (r : Running) → all_on slot (looks_stage t slot r r.stage) ≡ true
looks_mine t slot r = looks_own t slot r r.stage

looks_quiet : (t slot : ℕ) (r : Running) → none_read reads_beside_calls (looks_stage t slot r r.stage) ≡ true
looks_quiet t slot r = looks_unread reads_beside_calls (λ s running. refl) t slot r r.stage

looks_marks : (t slot : ℕ) (r : Running) → none_read prints (looks_stage t slot r r.stage) ≡ true
looks_marks t slot r = looks_unread prints (λ s running. refl) t slot r r.stage

-- the call on a slot made its ask again, if it was forgotten there
pub looks_stood : (t slot : ℕ) (old new : ClientState) (r left : Running) → slot < length old.client.calls → call_on slot old.client.calls
    ≡ Some r
    → call_state.call_turn slot (Some r) (looks_stage t slot r r.stage) ≡ Some left → new ≡ with_call slot (Some left) old
    → (making : Making) → Makes (looks_one t slot) old new making making
looks_stood t slot old new r left inside some stood shows making =
    slotwise.on_stood (looks_stage t) (looks_mine t) (looks_quiet t) (looks_marks t) slot old new inside making r left some stood shows

-- there is no call
pub looks_free : (t slot : ℕ) (old new : ClientState) → call_on slot old.client.calls ≡ None → new ≡ with_call slot None old
    → (making : Making) → Makes (looks_one t slot) old new making making
looks_free t slot old new none shows making = slotwise.on_left_free (looks_stage t) slot old new none shows making

-- none did yet
pub looks_begun : (t : ℕ) (c : ClientState) → LooksOn t 0 c c
looks_begun t c = record { remains = λ making. remains_first (λ k. on_calls (looks_stage t) 0 k.calls) c making; slots = refl }

-- one slot's did
pub looks_next : (t slot : ℕ) (first now next : ClientState) → slot < length now.client.calls → LooksOn t slot first now
    → ((making : Making) → Makes (looks_one t slot) now next making making) → LooksOn t (slot + 1) first next
looks_next t slot first now next inside so_far makes =
    record {
      remains = λ making. remains_step {rest = looks_left t (slot + 1)}
          (slotwise.on_step (looks_stage t) (looks_mine t) (looks_quiet t) slot now.client inside) (so_far.remains making) (makes making);
      slots = slotwise.marks_slots makes ∙ so_far.slots;
    }

-- all of them
pub looks_ended : (t slot : ℕ) (first now : ClientState) → length now.client.calls ≤ slot → LooksOn t slot first now → (making : Making)
    → Makes (λ k. on_calls (looks_stage t) 0 k.calls) first now making making
looks_ended t slot first now past so_far making = remains_end (slotwise.on_done (looks_stage t) slot now.client past)
    (so_far.remains making)

-- ---- the whole row

-- what is said for another life, or in another boot, is only taken
pub resumes_not : (t boot committed : ℕ) (who : Who) (c : ClientState) (making : Making) → is_present who boot t c.client ≡ false
    → Makes (λ k. ready_heard t boot committed k (is_present who boot t k)) c c making making
resumes_not t boot committed who c making absent = makes_as (sym (ap (ready_heard t boot committed c.client) absent))
    (makes_nothing c making)

-- else it is in the boot that the client knows
pub boot_present : (t boot : ℕ) (who : Who) (k : Client) → is_present who boot t k ≡ true → boot ≡ (import_of t k.imports).boot
boot_present t boot who k present = eqb-true boot (import_of t k.imports).boot
    (both_true (same_life who k.who) (boot == (import_of t k.imports).boot) present).1

-- what is in flight was sent again, and asks that were forgotten are made again
module _ (t boot committed : ℕ) (who : Who) (old middle new : ClientState) (before after : Making) (again : List Post)
    (present : is_present who boot t old.client ≡ true)
    (served : IsServed t boot committed old middle again) (sent : after ≡ giving before (posted again))
    (looks : Makes (λ k. on_calls (looks_stage t) 0 k.calls) middle new after after) where
  abbrev marks : List Entry
  marks = Serves t boot ∷ Settles t committed ∷ []

  marked : Makes (λ k. marks) old middle before before
  marked =
      record {
        goes = goes_marks old.client middle.client before marks refl
            (ap (λ (c : ClientState). c.client) served.shows ∙ turned_imports old.client (imports_turn old.client.imports marks) marks refl
            refl);
        limits = ap (λ (c : ClientState). c.limits) served.shows;
        spent = ap (λ (c : ClientState). c.spent) served.shows;
      }

  posts : Makes (λ k. posted again) middle middle before after
  posts = record { goes = goes_posts middle.client before after again sent; limits = refl; spent = refl }

  row_is : follow marks (λ k. follow (posted again) (λ j. on_calls (looks_stage t) 0 j.calls) k) old.client
      ≡ ready_heard t boot committed old.client (is_present who boot t old.client)
  row_is =
      let i : Import = import_of t old.client.imports in
      let whole : marks ++ resends old.client.who i.boot t i.flights ++ on_calls (looks_stage t) 0 old.client.calls
      ≡ ready_heard t boot committed old.client true = refl in
      ap (λ (j : Client). marks ++ posted again ++ on_calls (looks_stage t) 0 j.calls) (posts_still (turn old.client marks) again)
      ∙ ap (λ (calls : List (Option Running)). marks ++ posted again ++ on_calls (looks_stage t) 0 calls)
      (calls_quiet old.client.calls marks refl)
      ∙ ap (λ (es : List Entry). marks ++ es ++ on_calls (looks_stage t) 0 old.client.calls) served.sends
      ∙ ap (λ (b : ℕ). marks ++ resends old.client.who b t i.flights ++ on_calls (looks_stage t) 0 old.client.calls)
      (boot_present t boot who old.client present)
      ∙ whole
      ∙ sym (ap (ready_heard t boot committed old.client) present)

  pub resumed : Makes (λ k. ready_heard t boot committed k (is_present who boot t k)) old new before after
  resumed = makes_as row_is (makes_then marked (makes_then posts looks))
