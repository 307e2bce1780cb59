-- Law of acts: each call acts once, between its begin and its answer (Lustre Operations Manual, recovery: a request that is
-- sent again isn't executed again; what a refusal names is this project's profile).
--
-- At a `begin` on a bad handle: the call is told EBADF in that turn. At a `told`: EBADF is told to such a call alone; EIO only in a
-- turn that took the notice of this life's eviction, from a target that had evicted it; these two, and what is told to `flush` and
-- `glimpse`, name this turn; and of a life that isn't gone the call acted in the turn that is named. At a `txn` that stands it is the
-- only one of its request that does. At the message of a request: what is in flight with it.
--
-- `out` are the lives that are gone in the whole trace, `lost` (of a target and a number) the transactions that don't stand at its end.
use Rattle.std.specs.Prelude.{◌≡◌, ◌≢◌, ℕ, suc, ◌<◌, ◌≤◌, Bool, true, false, not, ◌==◌, ◌&&◌, ◌||◌, ◌⊎◌, if◌then◌else◌, Option, Some, None}
use Rattle.std.specs.Prelude.{List, [], ◌∷◌, length}
use Rattle.std.specs.List.{list_any}
use Rattle.lu_base.specs.declared.ids.At.{At}
use Rattle.lu_base.specs.declared.ids.Node.{Node}
use Rattle.lu_base.specs.declared.ids.Node.TheVariants.{Client, Target}
use Rattle.lu_base.specs.declared.ids.Who.{Who}
use Rattle.lu_msg.specs.declared.answers.Answer.{Answer}
use Rattle.lu_msg.specs.declared.answers.Answer.TheVariants as told
use Rattle.lu_msg.specs.declared.answers.Errno.TheVariants.{EBADF, EIO}
use Rattle.lu_msg.specs.declared.calls.Call.{Call}
use Rattle.lu_msg.specs.declared.calls.Call.TheVariants as call
use Rattle.lu_msg.specs.declared.operations.Op.{Op}
use Rattle.lu_msg.specs.declared.messages.Request.{Request as RequestOf}
use Rattle.lu_msg.specs.declared.messages.Message.{Message}
use Rattle.lu_msg.specs.declared.messages.Message.TheVariants.{Request, Evicted}
use Rattle.lu_msg.specs.Limits.{tag_count}
use Rattle.lu_trace.specs.declared.entries.Entry.{Entry}
use Rattle.lu_trace.specs.declared.entries.Entry.TheVariants.{Begin, Send, Told, Act, Txn}
use Rattle.lu_trace.specs.declared.entries.Line.{Line}
use Rattle.lu_spec_machine.specs.Tree.{same_life}
use Rattle.lu_spec_machine.specs.Footprint.{Every}
use Rattle.lu_spec_laws.specs.Words.Pasts.{Past, is_client, is_target, same_turn, UpTo, some_line}
use Rattle.lu_spec_laws.specs.Words.Sends.{Sending, taken}
use Rattle.lu_spec_laws.specs.Words.Lives.{life, who_is, is_evicted, is_gone, is_by}
use Rattle.lu_spec_laws.specs.Words.Lost.{is_lost}
use Rattle.lu_spec_laws.specs.Words.Requests.{first_request, asked, in_flight, same_object}
use Rattle.lu_spec_laws.specs.Words.Calls.{Begun, open_call, heard_in, is_bad, operation}
use Rattle.lu_spec_laws.specs.Words.Later.{told_later}

-- ---- what acted

abbrev pub acts_there : At → Who → ℕ → Past → Line → Bool
acts_there turn who x past l =
    elim l.entry [ Act other xid answer ↦ is_target 0 l.at.node && same_turn l.at turn && same_life other who && xid.0 == x | _ ↦ false ]

-- an `act` line of the metadata target, of that turn, life and request number
abbrev pub acted : Past → At → Who → ℕ → Bool
acted past turn who x = some_line (acts_there turn who x) past

abbrev pub makes_there : (ℕ → ℕ → Bool) → At → Who → ℕ → Past → Line → Bool
makes_there lost turn who x past l =
    elim l.entry [
      | Txn number other xid seen answer ↦ is_target 0 l.at.node && same_turn l.at turn && same_life other who && xid.0 == x
          && not (lost 0 number.0)
      | _ ↦ false
    ]

-- a `txn` line of it that stands at the end
abbrev pub made : (ℕ → ℕ → Bool) → Past → At → Who → ℕ → Bool
made lost past turn who x = some_line (makes_there lost turn who x) past

-- how many transactions of that target, life and request number stand at the end
abbrev pub standing_count : (ℕ → ℕ → Bool) → ℕ → Who → ℕ → Past → ℕ
standing_count lost t who x [] = 0
standing_count lost t who x (l ∷ past) =
    elim l.entry [
      | Txn number other xid seen answer ↦ if is_target t l.at.node && same_life other who && xid.0 == x && not (lost t number.0)
          then suc (standing_count lost t who x past) else standing_count lost t who x past
      | _ ↦ standing_count lost t who x past
    ]

abbrev pub is_number : ℕ → Option ℕ → Bool
is_number x None = false
is_number x (Some y) = y == x

abbrev pub tells_with : Who → ℕ → Past → Line → Bool
tells_with who x past l =
    elim l.entry [
      | Told slot turn answer ↦ is_by who past l.at.node && not (same_turn turn l.at) && is_number x (heard_in past l.at)
      | _
          ↦ false
    ]

-- the life was told, in a turn that heard that request at the metadata target, and another turn was named
abbrev pub told_with : Past → Who → ℕ → Bool
told_with past who x = some_line (tells_with who x) past

-- ---- what is told

abbrev pub is_bad_handle : Answer → Bool
is_bad_handle (told.Refused EBADF) = true
is_bad_handle _ = false

abbrev pub is_end_of_life : Answer → Bool
is_end_of_life (told.Refused EIO) = true
is_end_of_life _ = false

abbrev pub is_local : Call → Bool
is_local (call.Flush h) = true
is_local (call.Glimpse h) = true
is_local _ = false

-- a `flush`, a `glimpse`, and these two refusals name the turn in which they are told
abbrev pub names_own : Call → Answer → Bool
names_own c answer = is_local c || is_bad_handle answer || is_end_of_life answer

abbrev pub is_notice : Past → Who → Node → Message → Bool
is_notice past who (Target t) (Evicted other boot) = same_life other who && is_evicted t past who
is_notice past who from _ = false

-- the turn took the notice that the life was evicted, from a target that had evicted it
abbrev pub took_notice : Past → At → Who → Bool
took_notice past at who = list_any (λ (s : Sending). is_notice past who s.from s.message) (taken past at)

-- another turn is named: there the metadata target executed the call's operation, for the request heard now
pub record ActsThere (lost : ℕ → ℕ → Bool) (whole past : Past) (who : Who) (begun : Begun) (turn : At) (x : ℕ) (op : Op) : Type 0 where
  pub request : asked past 0 who x ≡ Some op
  pub executed : (acted past turn who x || made lost past turn who x) ≡ true
  pub untold : told_with past who x ≡ false
  pub alone : acted past turn who x ≡ true → standing_count lost 0 who x whole ≡ 0

abbrev pub ActsFor : (ℕ → ℕ → Bool) → Past → Past → Who → Begun → At → Option ℕ → Option Op → Type 0
ActsFor lost whole past who begun turn (Some x) (Some op) = ActsThere lost whole past who begun turn x op
ActsFor lost whole past who begun turn heard op = ⊥

-- the turn that is named lies between begin and answer, and is this one or one where the call acted
pub record ActsInTime (lost : ℕ → ℕ → Bool) (whole past : Past) (at : At) (who : Who) (begun : Begun) (turn : At) : Type 0 where
  pub after : UpTo begun.at turn
  pub before : UpTo turn at
  pub acts : same_turn turn at ≡ false → ActsFor lost whole past who begun turn (heard_in past at) (operation begun)

pub record ToldAt (out : Who → Bool) (lost : ℕ → ℕ → Bool) (whole past : Past) (at : At) (who : Who) (begun : Begun) (turn : At)
    (answer : Answer) : Type 0 where
  pub handle : is_bad_handle answer ≡ true → begun.bad ≡ true
  pub evicted : is_end_of_life answer ≡ true → took_notice past at who ≡ true
  pub own : names_own begun.call answer ≡ true → same_turn turn at ≡ true
  pub acts : out who ≡ false → ActsInTime lost whole past at who begun turn

-- that a call stands in the slot is asked by the law of messages
abbrev pub ToldOn : (Who → Bool) → (ℕ → ℕ → Bool) → Past → Past → At → Who → Option Begun → At → Answer → Type 0
ToldOn out lost whole past at who None turn answer = Unit {0}
ToldOn out lost whole past at who (Some begun) turn answer = ToldAt out lost whole past at who begun turn answer

abbrev pub ToldBy : (Who → Bool) → (ℕ → ℕ → Bool) → Past → Past → At → Node → ℕ → At → Answer → Type 0
ToldBy out lost whole past at (Client c) slot turn answer = ToldOn out lost whole past at (who_is c past) (open_call c slot past) turn
    answer
ToldBy out lost whole past at (Target t) slot turn answer = Unit {0}

-- ---- what begins

abbrev pub tells_bad : Option Answer → Bool
tells_bad None = false
tells_bad (Some answer) = is_bad_handle answer

abbrev pub BegunAt : Past → At → Node → ℕ → Call → List Line → Type 0
BegunAt past at (Client c) slot call later = is_bad c past call ≡ true → tells_bad (told_later slot at later) ≡ true
BegunAt past at (Target t) slot call later = Unit {0}

-- ---- what is sent

-- of each two of the list
abbrev pub Pairwise : {A : Type 0} → (A → A → Type 0) → List A → Type 0
Pairwise R [] = Unit {0}
Pairwise R (x ∷ xs) = Every (R x) xs × Pairwise R xs

abbrev pub SameTag : Option RequestOf → ℕ → Type 0
SameTag None tag = Unit {0}
SameTag (Some first) tag = first.tag ≡ tag

-- of the life's requests at the target that are in flight with this one: at most eight, no two with one tag, and at an
-- object storage target no two on one object; and each request number has one tag (Lustre Operations Manual, multiple
-- modifying requests in flight; that an object has one is this project's profile)
pub record FliesAt (past : Past) (t : ℕ) (r : RequestOf) (flight : List RequestOf) : Type 0 where
  pub most : length flight ≤ tag_count
  pub tags : Pairwise (λ one other. one.tag ≢ other.tag) flight
  pub objects : 0 < t → Pairwise (λ one other. same_object one other ≡ false) flight
  pub one_tag : SameTag (first_request past t r.who r.xid.0) r.tag

abbrev pub SendsAt : Past → Line → Node → Message → Type 0
SendsAt past l (Target t) (Request r) = FliesAt past t r (in_flight t r.who (l ∷ past))
SendsAt past l to message = Unit {0}

-- ---- the law

-- at a transaction that stands at the end no other of its life and request number does
abbrev pub OnceAt : (ℕ → ℕ → Bool) → Past → Node → ℕ → Who → ℕ → Type 0
OnceAt lost whole (Target t) n who x = lost t n ≡ false → standing_count lost t who x whole ≤ 1
OnceAt lost whole (Client c) n who x = Unit {0}

abbrev pub ActsAt : (Who → Bool) → (ℕ → ℕ → Bool) → Past → Past → Line → List Line → Entry → Type 0
ActsAt out lost whole past l later (Begin slot call) = BegunAt past l.at l.at.node slot call later
ActsAt out lost whole past l later (Told slot turn answer) = ToldBy out lost whole past l.at l.at.node slot turn answer
ActsAt out lost whole past l later (Txn number who xid seen answer) = OnceAt lost whole l.at.node number.0 who xid.0
ActsAt out lost whole past l later (Send number to message) = SendsAt past l to message
ActsAt out lost whole past l later _ = Unit {0}

abbrev pub ActsOf : (Who → Bool) → (ℕ → ℕ → Bool) → Past → Past → Line → List Line → Type 0
ActsOf out lost whole past l later = ActsAt out lost whole past l later l.entry

abbrev pub Acts : Past → Past → Line → List Line → Type 0
Acts whole = ActsOf (is_gone whole) (is_lost whole) whole
