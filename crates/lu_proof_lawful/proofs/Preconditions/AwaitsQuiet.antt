-- Lines of no call, and quiet ones, leave which calls wait for a lock.
use Rattle.std.proofs.Common.{◌≡◌, ℕ, ◌+◌, ◌-◌, Bool, true, false, List, [], ◌∷◌, ◌++◌, Option, Some, None, refl, ◌∙◌, arith}
use Rattle.std.specs.Prelude.{nat_eq, length, if◌then◌else◌}
use Rattle.std.proofs.lemmas.Bool.Decides.{nat_tests}
use Rattle.lu_base.specs.declared.ids.At.{At}
use Rattle.lu_base.specs.declared.ids.Node.TheVariants.{Target}
use Rattle.lu_base.specs.declared.ids.Who.{Who}
use Rattle.lu_msg.specs.declared.messages.Message.TheVariants as message
use Rattle.lu_held.specs.declared.locks.HeldLock.{HeldLock}
use Rattle.lu_held.specs.Locks.{named}
use Rattle.lu_spec_entries.specs.Carried.{Flight, Stage, Waits, Running}
use Rattle.lu_spec_entries.specs.Words.{Entry, Send, Line, line, with_turn}
use Rattle.lu_spec_entries.specs.Concerns.{only}
use Rattle.lu_spec_client.specs.Imports.{Import, Replay, import_of}
use Rattle.lu_spec_client.specs.Messages.{Question, size_held, held_as, peeks, asked}
use Rattle.lu_spec_client.specs.Recovery.{replays, lock_replays, word, recovers, held_of, joins_all, where_stage, on_calls, ticks_at, ticks}
use Rattle.lu_spec_client.specs.Sending.{resends}
use Rattle.lu_spec_client.specs.States.{Client as ClientState}
use Rattle.lu_proof_lawful.specs.Covered.Calls.{life_at}
use Rattle.lu_proof_lawful.specs.Covered.ClientStates.{awaits_of}
use Rattle.lu_proof_lawful.specs.Covered.Imports.{Standing, Joining, Recovering, Serving}
use Rattle.lu_proof_lawful.proofs.Preconditions.Guards.{marks_of}
use Rattle.lu_proof_lawful.proofs.Preconditions.Awaits.{IsQuiet, awaits_quiet, life_quiet, marks_quiet}
use Rattle.lu_proof_lawful.proofs.Preconditions.AwaitsRows.{AllPlain, plain_more}

pub apart_from : (a b t : ℕ) → nat_eq a t ≡ true → nat_eq b t ≡ false → nat_eq a b ≡ false
apart_from a b t e f = grind (arith, nat_tests, e, f)

pub nat_symm : (a b : ℕ) → nat_eq a b ≡ nat_eq b a
nat_symm a b = grind (arith, nat_tests)

-- ---- lines of no call

calls_plain : (stands : ℕ → Running → Stage → List Entry) → ((slot : ℕ) (r : Running) (x : Stage) → AllPlain (stands slot r x))
    → (slot : ℕ) (calls : List (Option Running)) → AllPlain (on_calls stands slot calls)
calls_plain stands plain slot [] = tt
calls_plain stands plain slot (None ∷ calls) = calls_plain stands plain (slot + 1) calls
calls_plain stands plain slot (Some r ∷ calls) = plain_more (stands slot r r.stage) (on_calls stands (slot + 1) calls)
    (plain slot r r.stage) (calls_plain stands plain (slot + 1) calls)

pub resends_plain : (who : Who) (boot t : ℕ) (flights : List Flight) → AllPlain (resends who boot t flights)
resends_plain who boot t [] = tt
resends_plain who boot t (f ∷ flights) = (tt, resends_plain who boot t flights)

where_plain : (who : Who) (boot t slot : ℕ) (r : Running) (x : Stage) → AllPlain (where_stage who boot t slot r x)
where_plain who boot t slot r (Waits w target l marked) = by (nat_eq target.0 t)
  where
    by : (b : Bool) → AllPlain (if b then Send (Target t) (message.Where who boot l.cookie) ∷ [] else [])
    by true = (tt, tt)
    by false = tt
where_plain who boot t slot r x = tt

replays_plain : (who : Who) (boot t : ℕ) (rs : List Replay) → AllPlain (replays who boot t rs)
replays_plain who boot t [] = tt
replays_plain who boot t (r ∷ rs) = (tt, replays_plain who boot t rs)

locks_plain : (who : Who) (boot t : ℕ) (hs : List HeldLock) → AllPlain (lock_replays who boot t hs)
locks_plain who boot t [] = tt
locks_plain who boot t (h ∷ hs) = (tt, locks_plain who boot t hs)

pub recovers_plain : (t : ℕ) (k : ClientState) (i : Import) → AllPlain (recovers t k i)
recovers_plain t k i =
    let hs = held_of t k.store.held in
    let last = word k.who i.boot t (length i.kept.replays) (length hs) i.kept.seen ∷ [] in
    let rs = replays k.who i.boot t i.kept.replays in
    plain_more (rs ++ lock_replays k.who i.boot t hs) last (plain_more rs (lock_replays k.who i.boot t hs)
    (replays_plain k.who i.boot t i.kept.replays) (locks_plain k.who i.boot t hs)) (tt, tt)

pub joins_plain : (who : Who) (t : ℕ) (imports : List Import) → AllPlain (joins_all who t imports)
joins_plain who t [] = tt
joins_plain who t (i ∷ imports) = (tt, joins_plain who (t + 1) imports)

tick_plain : (t : ℕ) (k : ClientState) (i : Import) (st : Standing) → AllPlain (ticks_at t k i st)
tick_plain t k i Joining = (tt, tt)
tick_plain t k i Recovering = recovers_plain t k i
tick_plain t k i Serving = plain_more (resends k.who i.boot t i.flights) _ (resends_plain k.who i.boot t i.flights)
    (calls_plain (where_stage k.who i.boot t) (where_plain k.who i.boot t) 0 k.calls)

pub ticks_plain : (t : ℕ) (imports : List Import) (k : ClientState) → AllPlain (ticks t imports k)
ticks_plain t [] k = tt
ticks_plain t (i ∷ imports) k = plain_more (ticks_at t k i i.standing) _ (tick_plain t k i i.standing) (ticks_plain (t + 1) imports k)

pub asked_plain : (at : At) (t : ℕ) (q : Question) (k : ClientState) (b : Bool) → AllPlain (asked at t q k b)
asked_plain at t q k false = tt
asked_plain at t q k true = by (size_held k.store (held_as (named (record { 0 = t }) q.cookie) k.store.held))
  where
    by : (size : Option ℕ) → AllPlain (peeks at t q k.who (import_of t k.imports).boot size)
    by None = (tt, tt)
    by (Some size) = (tt, (tt, tt))

-- ---- quiet lines

abbrev pub AllQuiet : List Entry → Type 0
AllQuiet [] = Unit {0}
AllQuiet (e ∷ es) = IsQuiet e × AllQuiet es

pub quiet_more : (es fs : List Entry) → AllQuiet es → AllQuiet fs → AllQuiet (es ++ fs)
quiet_more [] fs a b = b
quiet_more (e ∷ es) fs a b = (a.0, quiet_more es fs a.1 b)

-- they leave the life, what it awaits, and no mark
pub record Quietly (c : ℕ) (p q : List Line) : Type 0 where
  pub life : life_at c q ≡ life_at c p
  pub awaits : (who : Who) (k t : ℕ) → awaits_of who k (only t q) ≡ awaits_of who k (only t p)
  pub marks : marks_of c p ≡ [] → marks_of c q ≡ []

pub quiet_turn : (c : ℕ) (at : At) (es : List Entry) (p : List Line) → AllQuiet es → Quietly c p (with_turn at es p)
quiet_turn c at [] p q = record { life = refl; awaits = λ who k t. refl; marks = λ e. e }
quiet_turn c at (e ∷ es) p q =
    let more = quiet_turn c at es (line at e ∷ p) q.1 in
    record {
      life = more.life ∙ life_quiet c at e p q.0;
      awaits = λ who k t. more.awaits who k t ∙ awaits_quiet who k t at e p q.0;
      marks = λ none. more.marks (marks_quiet c at e p q.0 none);
    }
