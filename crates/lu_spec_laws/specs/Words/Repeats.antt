-- The calls whose answers a life knows: it was told an answer that is no error, and since the begin of that call
-- nothing has changed what it knows. It needs no target to answer such a call again (this project's profile).
use Rattle.std.specs.Prelude.{ℕ, Bool, true, false, not, ◌==◌, ◌&&◌, if◌then◌else◌, Option, Some, None, List, [], ◌∷◌, ◌++◌, length, map}
use Rattle.std.specs.Prelude.{filter}
use Rattle.std.specs.List.{list_any}
use Rattle.lu_base.specs.declared.ids.Node.{Node}
use Rattle.lu_base.specs.declared.ids.Node.TheVariants.{Target}
use Rattle.lu_base.specs.declared.ids.Who.{Who}
use Rattle.lu_msg.specs.declared.answers.Answer.{Answer}
use Rattle.lu_msg.specs.declared.answers.Answer.TheVariants.{Refused}
use Rattle.lu_msg.specs.declared.calls.Call.{Call}
use Rattle.lu_msg.specs.declared.calls.Call.TheVariants as call
use Rattle.lu_msg.specs.declared.messages.Message.{Message}
use Rattle.lu_msg.specs.declared.messages.Message.TheVariants.{Up, Block, Ready, Evicted}
use Rattle.lu_trace.specs.declared.entries.Line.{Line}
use Rattle.lu_trace.specs.declared.entries.Entry.TheVariants.{Begin, Take, Drop, Told}
use Rattle.lu_spec_machine.specs.Name.{same_name}
use Rattle.lu_spec_laws.specs.Words.Pasts.{Past}
use Rattle.lu_spec_laws.specs.Words.Sends.{Sending, sending, message_of}
use Rattle.lu_spec_laws.specs.Words.Lives.{is_by}
use Rattle.lu_spec_laws.specs.Words.Held.{held, has_write_lock}

-- ---- calls

abbrev pub same_path : List (List ℕ) → List (List ℕ) → Bool
same_path [] [] = true
same_path (n ∷ ns) (m ∷ ms) = same_name n m && same_path ns ms
same_path _ _ = false

-- two calls that ask the same and change nothing; other calls are never the same
abbrev pub same_reading : Call → Call → Bool
same_reading (call.Lookup a) (call.Lookup b) = same_path a b
same_reading (call.Stat a) (call.Stat b) = same_path a b
same_reading (call.List a) (call.List b) = same_path a b
same_reading (call.Layout a) (call.Layout b) = same_path a b
same_reading (call.Read h offset count) (call.Read k start number) = h == k && offset == start && count == number
same_reading _ _ = false

-- the first opens or closes the handle that the second reads
abbrev pub rebinds : Call → Call → Bool
rebinds (call.Open h path) (call.Read k offset count) = h == k
rebinds (call.Close h) (call.Read k offset count) = h == k
rebinds _ _ = false

abbrev pub is_error : Answer → Bool
is_error (Refused errno) = true
is_error _ = false

-- ---- messages

-- it tells the life that what it knows may change
abbrev pub disturbs : Option Message → Bool
disturbs (Some (Block who boot cookie)) = true
disturbs (Some (Up boot)) = true
disturbs (Some (Evicted who boot)) = true
disturbs _ = false

-- an `up`, by its target and boot, until the `ready` of that target and boot
abbrev pub unready_with : Node → Message → List (ℕ × ℕ) → List (ℕ × ℕ)
unready_with (Target t) (Up boot) old = (t, boot) ∷ old
unready_with (Target t) (Ready who boot committed) old = filter (λ up. not (up.0 == t && up.1 == boot)) old
unready_with _ _ old = old

abbrev pub unready_after : Option Sending → List (ℕ × ℕ) → List (ℕ × ℕ)
unready_after None old = old
unready_after (Some s) old = unready_with s.from s.message old

-- a line that is the life's own, over the messages that were sent
abbrev pub unready_step : Bool → (ℕ → Option Sending) → Line → List (ℕ × ℕ) → List (ℕ × ℕ)
unready_step own sent l old = elim l.entry [ Take n ↦ if own then unready_after (sent n) old else old | _ ↦ old ]

-- the boots that the life was told of by an `up`, without a `ready` since
abbrev pub unready : Who → Past → List (ℕ × ℕ)
unready who [] = []
unready who (l ∷ past) = unready_step (is_by who past l.at.node) (sending past) l (unready who past)

-- each `up` had its `ready`
abbrev pub is_ready : Who → Past → Bool
is_ready who past = length (unready who past) == 0

-- ---- the calls that stand

abbrev pub in_other_slot : ℕ → ℕ × Call → Bool
in_other_slot slot standing = not (standing.0 == slot)

abbrev pub begun_calm : ℕ → Call → Bool → List (ℕ × Call) → List (ℕ × Call)
begun_calm slot call is_calm old =
    (if is_calm then (slot, call) ∷ [] else [])
    ++ filter (λ standing. in_other_slot slot standing && not (rebinds call standing.1)) old

abbrev pub calm_step : (own ready : Bool) → (ℕ → Option Message) → Line → List (ℕ × Call) → List (ℕ × Call)
calm_step own ready sent l old =
    elim l.entry [
      | Begin slot call ↦ if own then begun_calm slot call ready old else old
      | Told slot turn answer ↦ if own then filter (in_other_slot slot) old else old
      | Take n ↦ if own && disturbs (sent n) then [] else old
      | Drop target cookie ↦ if own then [] else old
      | _ ↦ old
    ]

-- by slot, those that began while each `up` had its `ready`, and since whose begin nothing has changed what it knows
abbrev pub calm : Who → Past → List (ℕ × Call)
calm who [] = []
calm who (l ∷ past) =
    calm_step (is_by who past l.at.node) (is_ready who past) (message_of past) l (calm who past)

-- ---- the calls whose answers are known

abbrev pub told_calm : ℕ → Answer → List (ℕ × Call) → List Call
told_calm slot answer standing =
    if is_error answer then [] else map (λ s. s.1) (filter (λ s. s.0 == slot) standing)

abbrev pub known_step : (own : Bool) → (ℕ → Option Message) → List (ℕ × Call) → Line → List Call → List Call
known_step own sent standing l old =
    elim l.entry [
      | Begin slot call ↦ if own then filter (λ known. not (rebinds call known)) old else old
      | Told slot turn answer ↦ if own then told_calm slot answer standing ++ old else old
      | Take n ↦ if own && disturbs (sent n) then [] else old
      | Drop target cookie ↦ if own then [] else old
      | _ ↦ old
    ]

abbrev pub known : Who → Past → List Call
known who [] = []
known who (l ∷ past) =
    known_step (is_by who past l.at.node) (message_of past) (calm who past) l (known who past)

-- a call that begins after the past repeats one whose answer is known, while the life holds no PW lock
abbrev pub is_repeat : Who → Past → Call → Bool
is_repeat who past call = list_any (same_reading call) (known who past) && not (has_write_lock who (held past))
