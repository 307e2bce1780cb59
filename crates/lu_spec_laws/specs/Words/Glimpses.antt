-- What a glimpse may tell (this project's profile): the trace as it was at each moment while the call stood in its slot,
-- and what lives that were gone answered meanwhile. A moment is the end of a turn; and within a turn, in which a client
-- may go on with several calls, right after each line by which a call begins or is told. Which lives are gone and which
-- transactions are lost is asked of each such trace.
use Rattle.std.specs.Prelude.{ℕ, Bool, true, false, not, ◌==◌, ◌&&◌, if◌then◌else◌, Option, Some, None, List, [], ◌∷◌}
use Rattle.lu_base.specs.declared.ids.At.{At}
use Rattle.lu_base.specs.declared.ids.Fid.{Fid}
use Rattle.lu_base.specs.declared.ids.Node.{Node}
use Rattle.lu_base.specs.declared.ids.Node.TheVariants.{Client, Target}
use Rattle.lu_base.specs.declared.locks.Lock.{Lock as LockOf}
use Rattle.lu_trace.specs.declared.entries.Entry.TheVariants.{Begin, Told, Peek}
use Rattle.lu_trace.specs.declared.entries.Line.{Line}
use Rattle.lu_spec_machine.specs.Machine.{Machine, object_of}
use Rattle.lu_spec_machine.specs.Objects.{object_size}
use Rattle.lu_spec_machine.specs.Tree.{same_fid}
use Rattle.lu_spec_laws.specs.Words.Pasts.{Past, is_client, same_turn}
use Rattle.lu_spec_laws.specs.Words.Lives.{who_is, is_gone}
use Rattle.lu_spec_laws.specs.Words.Lost.{is_lost}
use Rattle.lu_spec_laws.specs.Words.Seen.{lock_with}
use Rattle.lu_spec_laws.specs.Words.Histories.{machine_of}

-- ---- the traces cut at a moment

-- the past with the lines that follow it in its turn
abbrev pub to_turn_end : At → List Line → Past → Past
to_turn_end at [] past = past
to_turn_end at (l ∷ later) past = if same_turn l.at at then to_turn_end at later (l ∷ past) else past

-- a call begins in the slot
abbrev pub begins : ℕ → ℕ → Line → Bool
begins c slot l = elim l.entry [ Begin other call ↦ is_client c l.at.node && other == slot | _ ↦ false ]

-- a call begins or is told: after such a line no change is under way that its client makes
abbrev pub is_moment : Line → Bool
is_moment l = elim l.entry [ Begin slot call ↦ true | Told slot turn answer ↦ true | _ ↦ false ]

-- nobody looks between the line and the next one, which is of this turn
abbrev pub goes_on : Line → At → Bool
goes_on l next = same_turn l.at next && not (is_moment l)

-- the past is cut where it doesn't just go on
abbrev pub with_cut : Bool → Past → List Past → List Past
with_cut true past cuts = cuts
with_cut false past cuts = past ∷ cuts

-- the past cut at each moment since the slot's last call began, the newest first; `next` is the turn of the line that
-- follows
abbrev pub cuts : ℕ → ℕ → At → Past → List Past
cuts c slot next [] = []
cuts c slot next (l ∷ past) =
    with_cut (goes_on l next) (l ∷ past) (if begins c slot l then [] else cuts c slot l.at past)

-- ---- the size of an object

-- the machine over the history of that trace
abbrev pub machine_cut : ℕ → Past → Machine
machine_cut osts cut = machine_of (is_gone cut) (is_lost cut) osts cut

-- the object of that stripe of the file has this size
abbrev pub has_size : Option Fid → ℕ → ℕ → Machine → Bool
has_size None stripe size m = false
has_size (Some fid) stripe size m = object_size (object_of m fid stripe) == size

-- ---- what lives that were gone answered

-- the line is of a life that some target had evicted before
abbrev pub is_gone_at : Past → Node → Bool
is_gone_at past (Client c) = is_gone past (who_is c past)
is_gone_at past (Target t) = false

-- the lock is on the object of that stripe of the file
abbrev pub locks_object : Option Fid → ℕ → Option LockOf → Bool
locks_object (Some fid) stripe (Some lock) = same_fid lock.resource.fid fid && lock.resource.stripe == stripe
locks_object file stripe lock = false

abbrev pub with_size : Bool → ℕ → List ℕ → List ℕ
with_size true size sizes = size ∷ sizes
with_size false size sizes = sizes

-- a line of a life that is gone or not, over the locks of the targets
abbrev pub peek_step : ℕ → ℕ → Option Fid → ℕ → Bool → (ℕ → ℕ → Option LockOf) → Line → List ℕ → List ℕ
peek_step c slot file stripe gone locks l old =
    elim l.entry [
      | Begin other call ↦ if is_client c l.at.node && other == slot then [] else old
      | Peek target cookie size ↦ with_size (gone && locks_object file stripe (locks target.0 cookie.0)) size old
      | _ ↦ old
    ]

-- the sizes of that object in the `peek` lines of such lives, since the slot's last call began
abbrev pub peeked : ℕ → ℕ → Option Fid → ℕ → Past → List ℕ
peeked c slot file stripe [] = []
peeked c slot file stripe (l ∷ past) =
    peek_step c slot file stripe (is_gone_at past l.at.node) (λ t cookie. lock_with t cookie past) l
    (peeked c slot file stripe past)
