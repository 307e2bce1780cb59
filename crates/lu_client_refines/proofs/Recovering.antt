-- What an import tells in a recovery, and what it sends again, is what the rows tell and send again.
use Rattle.std.proofs.Common.{◌≡◌, ℕ, ◌==◌, Bool, true, false, nat_lt, if◌then◌else◌, List, [], ◌∷◌, ◌++◌, length, map, refl, sym, ap, ◌∙◌}
use Rattle.std.proofs.Common.{arith}
use Rattle.std.proofs.lemmas.List.{length-map}
use Rattle.std.proofs.lemmas.Bool.Decides.{nat_tests}
use Rattle.lu_base.specs.declared.ids.Who.{Who}
use Rattle.lu_base.specs.declared.locks.Lock.{Lock}
use Rattle.lu_msg.specs.declared.messages.Post.{Post}
use Rattle.lu_held.specs.declared.locks.HeldLock.{HeldLock}
use Rattle.lu_import.specs.declared.requests.InFlight.{InFlight}
use Rattle.lu_import.specs.declared.recovery.Standing.{Standing}
use Rattle.lu_import.specs.declared.recovery.Standing.TheVariants.{Joining, Recovering, Serving}
use Rattle.lu_import.specs.Kept as own
use Rattle.lu_import.specs.Recovery as told
use Rattle.lu_import.specs.Imports.{ImportState, IsSound, sent_again, teller_of, up, reconnecting, ready, resumes}
use Rattle.lu_spec_entries.specs.Words.{Entry, Send, Knows, Serves, Settles}
use Rattle.lu_spec_client.specs.Imports as row
use Rattle.lu_spec_client.specs.Recovery as recovery
use Rattle.lu_spec_client.specs.Sending.{resends}
use Rattle.lu_spec_client.specs.States.{Limits}
use Rattle.lu_client_refines.specs.Imports.{flight_of, replay_of, kept_of, standing_of, import_of_state, IsOne}
use Rattle.lu_client_refines.specs.Posts.{posted}
use Rattle.lu_client_refines.specs.Telling.{locks_of, tells_as}
use Rattle.lu_client_refines.proofs.Imports.{stays_one}
use Rattle.lu_client_refines.proofs.Kept.{settled_is}

-- ---- posts

-- the entries of two lists of messages
pub posted_more : (posts more : List Post) → posted (posts ++ more) ≡ posted posts ++ posted more
posted_more [] more = refl
posted_more (post ∷ posts) more = ap (λ (es : List Entry). Send post.to post.message ∷ es) (posted_more posts more)

-- ---- what is told

replays_are : (teller : told.TellerState) (replays : List own.Replay) → posted (told.replays teller replays)
    ≡ recovery.replays teller.who teller.boot teller.target.0 (map replay_of replays)
replays_are teller [] = refl
replays_are teller (r ∷ replays) = ap (λ (es : List Entry). Send (told.replay_told teller r).to (told.replay_told teller r).message ∷ es)
    (replays_are teller replays)

locks_are : (teller : told.TellerState) (held : List HeldLock) → posted (told.lock_replays teller (locks_of held))
    ≡ recovery.lock_replays teller.who teller.boot teller.target.0 held
locks_are teller [] = refl
locks_are teller (h ∷ held) = ap (λ (es : List Entry). Send (told.lock_told teller h.lock).to (told.lock_told teller h.lock).message ∷ es)
    (locks_are teller held)

-- replays, locks and the word
tells_are : (teller : told.TellerState) (kept : own.KeptState) (held : List HeldLock) → posted (told.tells_all teller kept (locks_of held))
    ≡ recovery.tells_all teller.who teller.boot teller.target.0 (kept_of kept) held
tells_are teller kept held =
    let who : Who = teller.who in
    let boot : ℕ = teller.boot in
    let t : ℕ = teller.target.0 in
    let replays : List Post = told.replays teller kept.replays in
    let locks : List Post = told.lock_replays teller (locks_of held) in
    posted_more (replays ++ locks) (told.word teller (length kept.replays) (length (locks_of held)) kept.seen ∷ [])
    ∙ ap (λ (es : List Entry). es ++ recovery.word who boot t (length kept.replays) (length (locks_of held)) kept.seen ∷ [])
    (posted_more replays locks ∙ ap (λ (es : List Entry). es ++ posted locks) (replays_are teller kept.replays)
    ∙ ap (λ (es : List Entry). recovery.replays who boot t (map replay_of kept.replays) ++ es) (locks_are teller held))
    ∙ ap (λ (n : ℕ). (recovery.replays who boot t (map replay_of kept.replays) ++ recovery.lock_replays who boot t held)
    ++ recovery.word who boot t n (length (locks_of held)) kept.seen ∷ []) (sym (length-map kept.replays replay_of))
    ∙ ap (λ (n : ℕ). (recovery.replays who boot t (map replay_of kept.replays) ++ recovery.lock_replays who boot t held)
    ++ recovery.word who boot t (length (map replay_of kept.replays)) n kept.seen ∷ []) (length-map held (λ (h : HeldLock). h.lock))

-- ---- a target is up in this boot

up_below : (boot : ℕ) (i : ImportState) → nat_lt boot i.boot ≡ true → nat_lt i.boot boot ≡ false
up_below boot i below = grind (arith, nat_tests)

up_same : (boot : ℕ) (i : ImportState) → boot ≡ i.boot → nat_lt i.boot boot ≡ false
up_same boot i same = grind (arith, nat_tests)

up_above : (boot : ℕ) (i : ImportState) → nat_lt i.boot boot ≡ true → nat_lt boot i.boot ≡ false
up_above boot i above = grind (arith, nat_tests)

interrupted_is : (standing : Standing) → standing_of (told.interrupted standing) ≡ row.interrupted (standing_of standing)
interrupted_is Joining = refl
interrupted_is Recovering = refl
interrupted_is Serving = refl

-- above the known one: the client knows it, and the target doesn't serve the life
pub up_shown : (t boot : ℕ) (old new : ImportState) → nat_lt old.boot boot ≡ true → new ≡ up boot old → import_of_state new
    ≡ row.import_after (import_of_state old) (Knows t boot)
up_shown t boot old new above is =
    let now : new ≡ record old { boot = boot; standing = told.interrupted old.standing } = is ∙ rw above refl in
    ap import_of_state now
    ∙ ap (λ (standing : row.Standing). record (import_of_state old) { boot = boot; standing = standing }) (interrupted_is old.standing)

-- a boot that isn't above the known one is no change
pub up_still : (boot : ℕ) (old new : ImportState) → nat_lt old.boot boot ≡ false → new ≡ up boot old → new ≡ old
up_still boot old new known is = is ∙ rw known refl

-- as at a tick
pub up_known : (boot : ℕ) (old new : ImportState) → boot ≡ old.boot → new ≡ up boot old → new ≡ old
up_known boot old new same is = up_still boot old new (up_same boot old same) is

up_one_at : (limits : Limits) (who : Who) (t boot : ℕ) (old new : ImportState) (above : Bool) → new
    ≡ (if above then record old { boot = boot; standing = told.interrupted old.standing } else old) → IsSound new → IsOne limits who t old
    → IsOne limits who t new
up_one_at limits who t boot old new true is sound one =
    stays_one limits who t old new (ap (λ (i : ImportState). i.target) is) (ap (λ (i : ImportState). i.who) is)
    (ap (λ (i : ImportState). i.flight) is) sound one
up_one_at limits who t boot old new false is sound one =
    stays_one limits who t old new (ap (λ (i : ImportState). i.target) is) (ap (λ (i : ImportState). i.who) is)
    (ap (λ (i : ImportState). i.flight) is) sound one

-- it stays that of its target and life
pub up_one : (limits : Limits) (who : Who) (t boot : ℕ) (old new : ImportState) → new ≡ up boot old → IsSound new → IsOne limits who t old
    → IsOne limits who t new
up_one limits who t boot old new is sound one = up_one_at limits who t boot old new (nat_lt old.boot boot) is sound one

-- ---- what is told then

told_is : (standing : Standing) (teller : told.TellerState) (kept : own.KeptState) (held : List HeldLock)
    → posted (told.told_as standing teller kept (locks_of held))
    ≡ tells_as teller.who teller.boot teller.target.0 (kept_of kept) held (standing_of standing)
told_is Joining teller kept held = refl
told_is Recovering teller kept held = tells_are teller kept held
told_is Serving teller kept held = refl

module _ (limits : Limits) (who : Who) (t : ℕ) (old : ImportState) (one : IsOne limits who t old) (held : List HeldLock) where
  teller_is : (boot : ℕ) (kept : row.Kept) (standing : row.Standing) → tells_as old.who boot old.target.0 kept held standing
      ≡ tells_as who boot t kept held standing
  teller_is boot kept standing = ap (λ (w : Who). tells_as w boot old.target.0 kept held standing) one.life
      ∙ ap (λ (u : ℕ). tells_as who boot u kept held standing) one.target

  -- a boot above the known one
  pub reconnects : (boot : ℕ) (sends : List Post) → nat_lt old.boot boot ≡ true → sends ≡ reconnecting boot (locks_of held) old
      → posted sends ≡ tells_as who boot t (kept_of old.kept) held (row.interrupted (standing_of old.standing))
  reconnects boot sends above is =
      let next : ImportState = record old { boot = boot; standing = told.interrupted old.standing } in
      ap posted (is ∙ rw (above, up_above boot old above) refl)
      ∙ told_is (told.interrupted old.standing) (teller_of next) old.kept held
      ∙ teller_is boot (kept_of old.kept) (standing_of (told.interrupted old.standing))
      ∙ ap (tells_as who boot t (kept_of old.kept) held) (interrupted_is old.standing)

  -- the known one
  pub ticks : (boot : ℕ) (sends : List Post) → boot ≡ old.boot → sends ≡ reconnecting boot (locks_of held) old → posted sends
      ≡ tells_as who old.boot t (kept_of old.kept) held (standing_of old.standing)
  ticks boot sends same is =
      ap posted (is ∙ ap (λ (b : ℕ). reconnecting b (locks_of held) old) same ∙ rw (up_same old.boot old refl) refl)
      ∙ told_is old.standing (teller_of old) old.kept held
      ∙ teller_is old.boot (kept_of old.kept) (standing_of old.standing)

-- a lower one says nothing
pub reconnects_not : (boot : ℕ) (locks : List Lock) (old : ImportState) (sends : List Post) → nat_lt boot old.boot ≡ true → sends
    ≡ reconnecting boot locks old → posted sends ≡ []
reconnects_not boot locks old sends below is = let none : sends ≡ [] = is ∙ rw below refl in ap posted none

-- ---- a target serves the life

again_are : (i : ImportState) (requests : List InFlight) → posted (map (sent_again i) requests)
    ≡ resends i.who i.boot i.target.0 (map flight_of requests)
again_are i [] = refl
again_are i (request ∷ requests) = ap (λ (es : List Entry). Send (sent_again i request).to (sent_again i request).message ∷ es)
    (again_are i requests)

-- the requests in flight, as they are sent again
pub again_row : (limits : Limits) (who : Who) (t : ℕ) (i : ImportState) (sends : List Post) → IsOne limits who t i → sends
    ≡ map (sent_again i) i.in_flight → posted sends ≡ resends who i.boot t (import_of_state i).flights
again_row limits who t i sends one is =
    ap posted is
    ∙ again_are i i.in_flight
    ∙ ap (λ (w : Who). resends w i.boot i.target.0 (map flight_of i.in_flight)) one.life
    ∙ ap (λ (u : ℕ). resends who i.boot u (map flight_of i.in_flight)) one.target

same_boot : (boot : ℕ) (i : ImportState) → boot ≡ i.boot → (boot == i.boot) ≡ true
same_boot boot i same = grind (arith, nat_tests)

-- the import once the target serves the life
pub ready_shown : (t boot committed : ℕ) (old new : ImportState) → boot ≡ old.boot → new ≡ ready boot committed old → import_of_state new
    ≡ row.import_after (row.import_after (import_of_state old) (Serves t boot)) (Settles t committed)
ready_shown t boot committed old new same is =
    let now : new ≡ record old { standing = Serving; kept = own.settled committed old.kept } = is ∙ rw (same_boot boot old same) refl in
    ap import_of_state now
    ∙ ap (λ (k : row.Kept). record (import_of_state old) { standing = row.Serving; kept = k }) (settled_is committed old.kept)

-- what is sent again then
pub ready_row : (limits : Limits) (who : Who) (t boot : ℕ) (old : ImportState) (sends : List Post) → IsOne limits who t old → boot
    ≡ old.boot → sends ≡ resumes boot old → posted sends ≡ resends who old.boot t (import_of_state old).flights
ready_row limits who t boot old sends one same is = again_row limits who t old sends one (is ∙ rw (same_boot boot old same) refl)

ready_one_at : (limits : Limits) (who : Who) (t committed : ℕ) (old new : ImportState) (same : Bool) → new
    ≡ (if same then record old { standing = Serving; kept = own.settled committed old.kept } else old) → IsSound new
    → IsOne limits who t old → IsOne limits who t new
ready_one_at limits who t committed old new true is sound one =
    stays_one limits who t old new (ap (λ (i : ImportState). i.target) is) (ap (λ (i : ImportState). i.who) is)
    (ap (λ (i : ImportState). i.flight) is) sound one
ready_one_at limits who t committed old new false is sound one =
    stays_one limits who t old new (ap (λ (i : ImportState). i.target) is) (ap (λ (i : ImportState). i.who) is)
    (ap (λ (i : ImportState). i.flight) is) sound one

-- it stays that of its target and life
pub ready_one : (limits : Limits) (who : Who) (t boot committed : ℕ) (old new : ImportState) → new ≡ ready boot committed old → IsSound new
    → IsOne limits who t old → IsOne limits who t new
ready_one limits who t boot committed old new is sound one = ready_one_at limits who t committed old new (boot == old.boot) is sound one
