-- Whole rows about one target, by what its import answered.
use Rattle.std.proofs.Common.{◌≡◌, ℕ, ◌<◌, ◌==◌, Bool, true, false, ◌&&◌, nat_lt, List, [], ◌∷◌, ◌++◌, length, map, ◌≤◌, Option, Some, None}
use Rattle.std.proofs.Common.{is_some, refl, sym, ap, ◌∙◌, arith}
use Rattle.std.specs.Prelude.{slice_set, slice_get}
use Rattle.lu_base.specs.declared.ids.Node.TheVariants.{Target}
use Rattle.lu_base.specs.declared.ids.Who.{Who}
use Rattle.lu_base.specs.declared.locks.Lock.{Lock}
use Rattle.lu_held.specs.declared.locks.HeldLock.{HeldLock}
use Rattle.lu_held.specs.declared.names.LockName.{LockName}
use Rattle.lu_spec_machine.specs.Fits.{answer_fits}
use Rattle.lu_msg.specs.declared.answers.Answer.{Answer}
use Rattle.lu_msg.specs.declared.messages.Message.TheVariants as message
use Rattle.lu_msg.specs.declared.messages.Post.{Post}
use Rattle.lu_msg.specs.declared.messages.Reply.{Reply as ReplyTo}
use Rattle.lu_msg.specs.declared.operations.Op.{Op}
use Rattle.lu_import.specs.declared.recovery.Standing.TheVariants as own
use Rattle.lu_import.specs.declared.requests.InFlight.{InFlight}
use Rattle.lu_import.specs.InFlights.{request_of}
use Rattle.lu_import.specs.Imports as code
use Rattle.lu_import.specs.Imports.{ImportState, hears, sent_again, reconnecting, resumes as resuming}
use Rattle.lu_spec_entries.specs.Carried.{Flight, Running}
use Rattle.lu_spec_entries.specs.Concerns.{is_about}
use Rattle.lu_spec_entries.specs.Words.{Entry, Send, Heard, Knows, Serves, Settles, same_life}
use Rattle.lu_spec_client.specs.Imports.{Import, Standing, Joining, Recovering, Serving, interrupted, is_serving, import_after}
use Rattle.lu_spec_client.specs.Imports.{imports_after, import_of}
use Rattle.lu_spec_client.specs.Messages as row
use Rattle.lu_spec_client.specs.Messages.{holds, learns, is_present, find_flight, replied, hears_fitting, hears_flight, cancels_unknown}
use Rattle.lu_spec_client.specs.Recovery.{joins, comes_up, up, resumes, ready, on_calls, looks_stage, where_stage, ticks_at, held_of}
use Rattle.lu_spec_client.specs.Sending.{resends}
use Rattle.lu_spec_client.specs.States.{Client, Limits, after}
use Rattle.lu_client_refines.specs.Imports.{flight_of, standing_of, kept_of, import_of_state, IsOne}
use Rattle.lu_client_refines.specs.Posts.{posted}
use Rattle.lu_client_refines.specs.Rounds.{ticks_one, joins_one}
use Rattle.lu_client_refines.specs.Telling.{locks_of, tells_as, forgets}
use Rattle.lu_client_refines.specs.Turns.{import_turn, imports_turn, all_at}
use Rattle.lu_client_refines.proofs.Hearing.{holds_shown, hears_row, found_some, found_none}
use Rattle.lu_client_refines.proofs.Lists.{self}
use Rattle.lu_client_refines.proofs.Recovering.{reconnects, ticks, again_row, ready_row}
use Rattle.lu_client_refines.proofs.Sending.{serving_is}
use Rattle.lu_client_refines.proofs.Targets.{imports_only, imports_turn_at, import_of_set, all_at_more}
use Rattle.lu_client_refines.proofs.Turns.{calls_stay, part_more}

-- ---- what the rows tell a target

-- one that is up again, in a boot that was just heard of
comes_up_is : (t : ℕ) (k : Client) (i : Import) (standing : Standing) → comes_up t k i (interrupted standing)
    ≡ forgets t k.calls (interrupted standing) ++ tells_as k.who i.boot t i.kept (held_of t k.store.held) (interrupted standing)
comes_up_is t k i Joining = refl
comes_up_is t k i Recovering = refl
comes_up_is t k i Serving = refl

-- one that doesn't serve the life, at a tick
tick_tells : (t : ℕ) (k : Client) (i : Import) (standing : Standing) → is_serving standing ≡ false → ticks_at t k i standing
    ≡ tells_as k.who i.boot t i.kept (held_of t k.store.held) standing
tick_tells t k i Joining waits = refl
tick_tells t k i Recovering waits = refl
tick_tells t k i Serving waits = absurd (cc)

tick_serves : (t : ℕ) (k : Client) (i : Import) (standing : Standing) → is_serving standing ≡ true → ticks_at t k i standing
    ≡ resends k.who i.boot t i.flights ++ on_calls (where_stage k.who i.boot t) 0 k.calls
tick_serves t k i Joining serves = absurd (cc)
tick_serves t k i Recovering serves = absurd (cc)
tick_serves t k i Serving serves = refl

-- ---- by what the import answered

-- the import of the target, after an entry about it alone
import_next : (t : ℕ) (imports : List Import) (e : Entry) → t < length imports → ((u : ℕ) → is_about u e ≡ (u == t))
    → import_of t (imports_after imports e) ≡ import_after (import_of t imports) e
import_next t imports e inside only = ap (import_of t) (imports_only t imports e only)
    ∙ import_of_set t imports (import_after (import_of t imports) e) inside

module _ (limits : Limits) (t : ℕ) (k : Client) (old : ImportState) (one : IsOne limits k.who t old)
    (known : import_of t k.imports ≡ import_of_state old) where
  -- the boot that the client knows
  pub boot_known : (import_of t k.imports).boot ≡ old.boot
  boot_known = ap (λ (i : Import). i.boot) known

  -- whether the target serves the life
  pub serving_known : is_serving (import_of t k.imports).standing ≡ code.is_serving old.standing
  serving_known = ap (λ (i : Import). is_serving i.standing) known ∙ serving_is old.standing

  -- a message of this life and boot
  pub present_is : (who : Who) (boot : ℕ) → is_present who boot t k ≡ (same_life who k.who && boot == old.boot)
  present_is who boot = ap (λ (i : Import). same_life who k.who && boot == i.boot) known

  -- whether the import hears a reply
  pub hears_present : (r : ReplyTo) → hears old r ≡ (is_present r.who r.boot t k
      && is_some (find_flight r.xid.0 (import_of t k.imports).flights))
  hears_present r =
      hears_row limits k.who t old r one
      ∙ ap (λ (i : Import). (same_life r.who k.who && r.boot == i.boot) && is_some (find_flight r.xid.0 i.flights)) (sym known)

  -- a reply to no request in flight is only taken
  pub replied_none : (r : ReplyTo) (present : Bool) → request_of r.xid.0 old.in_flight ≡ None → replied t r k present ≡ []
  replied_none r false none = refl
  replied_none r true none = ap (λ (i : Import). row.hears t r k (find_flight r.xid.0 i.flights)) known
      ∙ ap (row.hears t r k) (found_none r.xid.0 old none)

  -- so is one whose answer doesn't fit the operation
  pub replied_unfit : (r : ReplyTo) (present : Bool) (request : InFlight) → request_of r.xid.0 old.in_flight ≡ Some request
      → answer_fits request.op r.answer ≡ false → replied t r k present ≡ []
  replied_unfit r false request some unfit = refl
  replied_unfit r true request some unfit =
      ap (λ (i : Import). row.hears t r k (find_flight r.xid.0 i.flights)) known
      ∙ ap (row.hears t r k) (found_some r.xid.0 old request some)
      ∙ ap (hears_fitting t r (flight_of request) k) unfit

  -- another is heard
  pub replied_fits : (r : ReplyTo) (request : InFlight) → request_of r.xid.0 old.in_flight ≡ Some request → answer_fits request.op r.answer
      ≡ true → replied t r k true ≡ hears_flight t r (flight_of request) k
  replied_fits r request some fits =
      ap (λ (i : Import). row.hears t r k (find_flight r.xid.0 i.flights)) known
      ∙ ap (row.hears t r k) (found_some r.xid.0 old request some)
      ∙ ap (hears_fitting t r (flight_of request) k) fits

  -- the target is up in a boot above the known one: the client forgets what waits there, and what the import answered is sent
  pub up_row : (boot : ℕ) (sends : List Post) → t < length k.imports → nat_lt old.boot boot ≡ true → sends
      ≡ reconnecting boot (locks_of (held_of t k.store.held)) old
      → up t boot k ≡ Knows t boot ∷ forgets t k.calls (interrupted (standing_of old.standing)) ++ posted sends
  up_row boot sends inside above is =
      let e : Entry = Knows t boot in
      let next : Import = import_after (import_of_state old) e in
      let shown : import_of t (imports_after k.imports e) ≡ next = import_next t k.imports e inside (λ u. refl)
      ∙ ap (λ (i : Import). import_after i e) known in
      let standing : Standing = interrupted (standing_of old.standing) in
      ap (λ (i : Import). e ∷ comes_up t (after k e) i i.standing) shown
      ∙ ap (λ (es : List Entry). e ∷ es) (comes_up_is t (after k e) next (standing_of old.standing))
      ∙ ap (λ (calls : List (Option Running)). e ∷ forgets t calls standing
      ++ tells_as k.who boot t (kept_of old.kept) (held_of t k.store.held) standing) (calls_stay k.calls e refl)
      ∙ ap (λ (es : List Entry). e ∷ forgets t k.calls standing ++ es)
      (sym (reconnects limits k.who t old one (held_of t k.store.held) boot sends above is))

  -- the target serves the life: what the import answered is sent again, and asks that were forgotten are made again
  pub ready_whole : (boot committed : ℕ) (sends : List Post) → boot ≡ old.boot → sends ≡ resuming boot old
      → ready t boot committed k ≡ Serves t boot ∷ Settles t committed ∷ posted sends ++ on_calls (looks_stage t) 0 k.calls
  ready_whole boot committed sends same is =
      ap (λ (i : Import). Serves t boot ∷ Settles t committed ∷ resumes t k i) known
      ∙ ap (λ (es : List Entry). Serves t boot ∷ Settles t committed ∷ es ++ on_calls (looks_stage t) 0 k.calls)
      (sym (ready_row limits k.who t boot old sends one same is))

  -- a tick, where the target serves the life
  pub tick_serving : (sends : List Post) → code.is_serving old.standing ≡ true → sends ≡ map (sent_again old) old.in_flight
      → ticks_one t k ≡ posted sends ++ on_calls (where_stage k.who old.boot t) 0 k.calls
  tick_serving sends serves is =
      ap (λ (i : Import). ticks_at t k i i.standing) known
      ∙ tick_serves t k (import_of_state old) (standing_of old.standing) (serving_is old.standing ∙ serves)
      ∙ ap (λ (es : List Entry). es ++ on_calls (where_stage k.who old.boot t) 0 k.calls) (sym (again_row limits k.who t old sends one is))

  -- and where it doesn't
  pub tick_telling : (boot : ℕ) (sends : List Post) → code.is_serving old.standing ≡ false → boot ≡ old.boot → sends
      ≡ reconnecting boot (locks_of (held_of t k.store.held)) old
      → ticks_one t k ≡ posted sends
  tick_telling boot sends waits same is =
      ap (λ (i : Import). ticks_at t k i i.standing) known
      ∙ tick_tells t k (import_of_state old) (standing_of old.standing) (serving_is old.standing ∙ waits)
      ∙ sym (ticks limits k.who t old one (held_of t k.store.held) boot sends same is)

  -- a life that is joining
  pub join_telling : (boot : ℕ) (locks : List HeldLock) (sends : List Post) → old.standing ≡ own.Joining → boot ≡ old.boot → sends
      ≡ reconnecting boot (locks_of locks) old → joins_one t k ≡ posted sends
  join_telling boot locks sends joining same is =
      ap (λ (i : Import). joins k.who i.boot t ∷ []) known
      ∙ ap (λ (standing : Standing). tells_as k.who old.boot t (kept_of old.kept) locks standing) (sym (ap standing_of joining))
      ∙ sym (ticks limits k.who t old one locks boot sends same is)

-- ---- whether anything is in flight

-- nothing is in flight
pub none_flies : (i : ImportState) → length i.in_flight ≤ 0 → (import_of_state i).flights ≡ []
none_flies i none = by i.in_flight none where
  by : (requests : List InFlight) → length requests ≤ 0 → map flight_of requests ≡ []
  by [] none = refl
  by (request ∷ requests) none = absurd (omega arith)

-- a lock that isn't known is not given back while something is in flight
pub cancels_none : (who : Who) (name : LockName) (boot : ℕ) (i : ImportState) (request : InFlight) → slice_get i.in_flight 0 ≡ Some request
    → cancels_unknown who name boot (import_of_state i).flights ≡ []
cancels_none who name boot i request some = by i.in_flight some where
  by : (requests : List InFlight) → slice_get requests 0 ≡ Some request → cancels_unknown who name boot (map flight_of requests) ≡ []
  by [] some = absurd (cc)
  by (r ∷ requests) some = refl

-- it is given back where nothing is in flight
pub cancels_one : (who : Who) (name : LockName) (boot : ℕ) (i : ImportState) → length i.in_flight ≤ 0
    → cancels_unknown who name boot (import_of_state i).flights ≡ Send (Target name.target.0) (message.Cancel who boot name.cookie) ∷ []
cancels_one who name boot i none = ap (cancels_unknown who name boot) (none_flies i none)

-- ---- a reply, and the locks that come with it

holds_at : (t : ℕ) (size : Option ℕ) (seen : List ℕ) (locks : List Lock) → all_at t (holds t size seen locks) ≡ true
holds_at t size seen [] = refl
holds_at t size seen (l ∷ locks) = rw (self t) (holds_at t size seen locks)

learns_at : (t u : ℕ) (o : Op) (a : Answer) (locks : List Lock) → all_at t (learns u o a locks) ≡ true
learns_at t u o a [] = refl
learns_at t u o a (l ∷ locks) = refl

learns_still : (i : Import) (u : ℕ) (o : Op) (a : Answer) (locks : List Lock) → import_turn i (learns u o a locks) ≡ i
learns_still i u o a [] = refl
learns_still i u o a (l ∷ locks) = refl

-- of the imports, they change that of the target, as the reply alone does
pub imports_hear : (t : ℕ) (imports : List Import) (f : Flight) (r : ReplyTo) (size : Option ℕ) (locks : List Lock) (o : Op) (a : Answer)
    (with : List Lock) → t < length imports
    → imports_turn imports (Heard t f r ∷ holds t size r.seen locks ++ learns t o a with)
    ≡ slice_set imports t (import_after (import_of t imports) (Heard t f r))
imports_hear t imports f r size locks o a with inside =
    let more : List Entry = holds t size r.seen locks ++ learns t o a with in
    let next : Import = import_after (import_of t imports) (Heard t f r) in
    let all : all_at t (Heard t f r ∷ more) ≡ true = rw (self t)
    (all_at_more t (holds t size r.seen locks) (learns t o a with) (holds_at t size r.seen locks) (learns_at t t o a with)) in
    let still : import_turn next more ≡ next =
    part_more import_after next (holds t size r.seen locks) (learns t o a with)
    ∙ ap (λ (i : Import). import_turn i (learns t o a with)) (holds_shown (import_of t imports) t f r t size locks)
    ∙ learns_still next t o a with in
    imports_turn_at t imports (Heard t f r ∷ more) inside all ∙ ap (slice_set imports t) still
