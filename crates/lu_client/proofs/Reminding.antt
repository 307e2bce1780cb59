-- What a client does as time goes on, target by target, is what the rows do.
use Rattle.std.proofs.Common.{◌≡◌, ℕ, ◌+◌, ◌<◌, ◌≤◌, ◌==◌, true, false, List, [], ◌∷◌, ◌++◌, length, Option, Some, None, Result, Ok, Err}
use Rattle.std.proofs.Common.{IfOk, map, refl, sym, ap, subst, ◌∙◌}
use Rattle.lu_base.specs.declared.faults.Memory.{Memory}
use Rattle.lu_base.specs.declared.ids.Node.TheVariants.{Target}
use Rattle.lu_base.specs.declared.ids.Who.{Who}
use Rattle.lu_held.specs.declared.names.LockName.{LockName}
use Rattle.lu_call.specs.Hearing.{asks_where}
use Rattle.lu_import.specs.Imports.{ImportState, sent_again}
use Rattle.lu_msg.specs.declared.messages.Message.TheVariants as message
use Rattle.lu_msg.specs.declared.messages.Post.{Post}
use Rattle.lu_trace.specs.Turns.{Making, with_post}
use Rattle.lu_spec_entries.specs.Given.{giving}
use Rattle.lu_spec_entries.specs.Words.{Entry, Send}
use Rattle.lu_spec_client.specs.Imports.{Import, Standing, Joining, Recovering, Serving, import_of, is_serving}
use Rattle.lu_spec_client.specs.Recovery.{on_calls, where_stage, ticks, ticks_at}
use Rattle.lu_spec_client.specs.Sending.{resends}
use Rattle.lu_spec_client.specs.States.{Client, Limits, follow}
use Rattle.lu_client_refines.specs.Imports.{import_of_state, IsOne}
use Rattle.lu_client_refines.specs.Posts.{posted}
use Rattle.lu_client_refines.specs.Rounds.{ticks_one, ticks_left, wheres_one, wheres_left}
use Rattle.lu_client_refines.proofs.Follow.{posts_still, goes_post, goes_posts}
use Rattle.lu_client_refines.proofs.Lists.{self}
use Rattle.lu_client_refines.proofs.Recovering.{again_row}
use Rattle.lu_client_refines.proofs.Rounds.{tick_still, ticks_step, ticks_done, wheres_step, wheres_done}
use Rattle.lu_client.specs.Clients.{ClientState, Makes, Remains}
use Rattle.lu_client.specs.Resuming.{TicksOn}
use Rattle.lu_client.proofs.Making.{makes_nothing, makes_as, makes_then, remains_first, remains_step, remains_end}

-- ---- locks that calls wait for

-- the call on a slot waits for no lock of this target
pub where_not : (t slot : ℕ) (c : ClientState) (making : Making) → wheres_one t slot c.client ≡ []
    → Makes (wheres_one t slot) c c making making
where_not t slot c making none = makes_as (sym none) (makes_nothing c making)

pub asks_none : (who : Who) (boot t : ℕ) (lock : Option LockName) → lock ≡ None → asks_where who boot t lock ≡ []
asks_none who boot t lock none = ap (asks_where who boot t) none

pub asks_elsewhere : (who : Who) (boot t : ℕ) (lock : LockName) → (lock.target.0 == t) ≡ false → asks_where who boot t (Some lock) ≡ []
asks_elsewhere who boot t lock off = rw off refl

-- it waits for this one, and the target was asked where it is
pub where_asked : (t slot boot : ℕ) (lock : LockName) (c : ClientState) (before after : Making) → boot ≡ (import_of t c.client.imports).boot
    → lock.target.0 ≡ t
    → wheres_one t slot c.client ≡ asks_where c.client.who (import_of t c.client.imports).boot t (Some lock)
    → after.step ≡ with_post before.at before.step (record { to = Target t; message = message.Where c.client.who boot lock.cookie })
    → after.at ≡ before.at → Makes (wheres_one t slot) c c before after
where_asked t slot boot lock c before after known here asks step at =
    let post : Post = record { to = Target t; message = message.Where c.client.who boot lock.cookie } in
    let on : (lock.target.0 == t) ≡ true = ap (λ (n : ℕ). n == t) here ∙ self t in
    let row : Send post.to post.message ∷ [] ≡ wheres_one t slot c.client =
    ap (λ (b : ℕ). Send (Target t) (message.Where c.client.who b lock.cookie) ∷ []) known ∙ sym (asks ∙ rw on refl) in
    makes_as {row = λ k. Send post.to post.message ∷ []} row (record
    { goes = goes_post c.client before after post step at; limits = refl; spent = refl })

-- slot by slot
pub wheres_begun : (t : ℕ) (c : ClientState) (making : Making) → Remains (wheres_left t 0) (wheres_left t 0) c c making making
wheres_begun t c making = remains_first (wheres_left t 0) c making

pub wheres_next : (t slot : ℕ) (c : ClientState) (before making after : Making) → slot < length c.client.calls
    → Remains (wheres_left t 0) (wheres_left t slot) c c before making → Makes (wheres_one t slot) c c making after
    → Remains (wheres_left t 0) (wheres_left t (slot + 1)) c c before after
wheres_next t slot c before making after inside so_far makes = remains_step {rest = wheres_left t (slot + 1)}
    (wheres_step t slot c.client inside) so_far makes

pub wheres_ended : (t slot : ℕ) (c : ClientState) (before making : Making) → length c.client.calls ≤ slot
    → Remains (wheres_left t 0) (wheres_left t slot) c c before making → Makes (wheres_left t 0) c c before making
wheres_ended t slot c before making past so_far = remains_end (wheres_done t slot c.client past) so_far

-- ---- one target

-- what is in flight there is sent again
pub requests_are : (limits : Limits) (who : Who) (t : ℕ) (i : ImportState) (imports : List Import) → IsOne limits who t i
    → import_of t imports ≡ import_of_state i → (result : Result (List Post) Memory)
    → IfOk result (λ sends. sends ≡ map (sent_again i) i.in_flight)
    → IfOk result (λ again. posted again ≡ resends who (import_of t imports).boot t (import_of t imports).flights)
requests_are limits who t i imports one known (Ok again) sends = again_row limits who t i again one sends
    ∙ ap (λ (j : Import). resends who j.boot t j.flights) (sym known)
requests_are limits who t i imports one known (Err e) sends = tt

serving_ticks : (t : ℕ) (k : Client) (i : Import) (standing : Standing) → is_serving standing ≡ true → ticks_at t k i standing
    ≡ resends k.who i.boot t i.flights ++ on_calls (where_stage k.who i.boot t) 0 k.calls
serving_ticks t k i Joining serves = absurd (cc)
serving_ticks t k i Recovering serves = absurd (cc)
serving_ticks t k i Serving serves = refl

-- it serves the life: what is in flight was sent again, and it was asked where locks are
pub serving_reminded : (t : ℕ) (c : ClientState) (before between after : Making) (again : List Post)
    → is_serving (import_of t c.client.imports).standing ≡ true
    → posted again ≡ resends c.client.who (import_of t c.client.imports).boot t (import_of t c.client.imports).flights → between
    ≡ giving before (posted again)
    → Makes (wheres_left t 0) c c between after → Makes (ticks_one t) c c before after
serving_reminded t c before between after again serves sends sent wheres =
    let k : Client = c.client in
    let i : Import = import_of t k.imports in
    let row : follow (posted again) (wheres_left t 0) k ≡ ticks_one t k =
    ap (λ (j : Client). posted again ++ wheres_left t 0 j) (posts_still k again)
    ∙ ap (λ (es : List Entry). es ++ wheres_left t 0 k) sends
    ∙ sym (serving_ticks t k i i.standing serves) in
    let posts : Makes (λ k. posted again) c c before between = record
    { goes = goes_posts k before between again sent; limits = refl; spent = refl } in
    makes_as row (makes_then posts wheres)

-- ---- all targets

pub ticks_begun : (c : ClientState) (making : Making) → TicksOn 0 c c making making
ticks_begun c making = record { remains = remains_first (λ k. ticks 0 k.imports k) c making; still = refl }

-- one was reminded
pub ticks_next : (t : ℕ) (first now next : ClientState) (before making after : Making) → t < length now.client.imports
    → TicksOn t first now before making → Makes (ticks_one t) now next making after → TicksOn (t + 1) first next before after
ticks_next t first now next before making after inside so_far makes =
    record {
      remains = remains_step {rest = ticks_left (t + 1)} (ticks_step t now.client inside) so_far.remains makes;
      still = makes.goes.shows ∙ tick_still t now.client ∙ so_far.still;
    }

-- the next target is one of them
pub ticks_inside : (t : ℕ) (first now : ClientState) (before making : Making) → TicksOn t first now before making
    → t < length first.client.imports → t < length now.client.imports
ticks_inside t first now before making so_far inside = subst (λ (k : Client). t < length k.imports) (sym so_far.still) inside

-- all of them
pub ticks_ended : (t : ℕ) (first now : ClientState) (before making : Making) → length first.client.imports ≤ t
    → TicksOn t first now before making → Makes (λ k. ticks 0 k.imports k) first now before making
ticks_ended t first now before making past so_far = remains_end
    (ticks_done t now.client (subst (λ (k : Client). length k.imports ≤ t) (sym so_far.still) past)) so_far.remains
