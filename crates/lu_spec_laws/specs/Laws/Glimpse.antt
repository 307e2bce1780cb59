-- Law of glimpses: what a `glimpse` tells of the sizes of a file's objects (this project's profile).
--
-- At `sizes` that a life which isn't gone is told, each number, the first for stripe 0 of the file, is one of two
-- things: the size of the stripe's object by the plain machine, over the trace cut at some moment from the `begin` to
-- the end of this turn (after a turn, or right after a line by which some call begins or is told); or the number of a
-- `peek` line since the `begin`, under a lock on that object, of a life that some target had evicted before that line.
--
-- A number past the last stripe is measured by an object without bytes; that each stripe has a number isn't asked.
-- `out` are the lives that are gone in the whole trace.
use Rattle.std.specs.Prelude.{◌≡◌, ℕ, suc, nat_eq, Bool, true, false, ◌||◌, Option, Some, None, List, [], ◌∷◌, map}
use Rattle.std.specs.List.{list_any}
use Rattle.lu_base.specs.declared.ids.Fid.{Fid}
use Rattle.lu_base.specs.declared.ids.Node.{Node}
use Rattle.lu_base.specs.declared.ids.Node.TheVariants.{Client, Target}
use Rattle.lu_base.specs.declared.ids.Who.{Who}
use Rattle.lu_msg.specs.declared.answers.Answer.TheVariants as told
use Rattle.lu_trace.specs.declared.entries.Entry.{Entry}
use Rattle.lu_trace.specs.declared.entries.Entry.TheVariants.{Told}
use Rattle.lu_trace.specs.declared.entries.Line.{Line}
use Rattle.lu_spec_machine.specs.Machine.{Machine}
use Rattle.lu_spec_laws.specs.Words.Pasts.{Past}
use Rattle.lu_spec_laws.specs.Words.Lives.{who_is, is_gone}
use Rattle.lu_spec_laws.specs.Words.Calls.{Begun, open_call, file_of}
use Rattle.lu_spec_laws.specs.Words.Glimpses.{to_turn_end, cuts, machine_cut, has_size, peeked}

-- at one of these moments the object had this size, or a life that was gone answered so
abbrev pub is_size : List Machine → Past → ℕ → ℕ → Option Fid → ℕ → ℕ → Bool
is_size machines past c slot file stripe size =
    list_any (has_size file stripe size) machines || list_any (nat_eq size) (peeked c slot file stripe past)

-- each of these numbers, from that of a stripe on
abbrev pub AreSizes : List Machine → Past → ℕ → ℕ → Option Fid → ℕ → List ℕ → Type 0
AreSizes machines past c slot file stripe [] = Unit {0}
AreSizes machines past c slot file stripe (n ∷ ns) =
    (is_size machines past c slot file stripe n ≡ true) × AreSizes machines past c slot file (suc stripe) ns

module _ (out : Who → Bool) (osts : ℕ) where
  -- the machine at each moment from the begin to the end of this turn
  abbrev pub machines : Past → Line → List Line → ℕ → ℕ → List Machine
  machines past l later c slot = map (machine_cut osts) (to_turn_end l.at later (l ∷ past) ∷ cuts c slot l.at past)

  -- that a call stands in the slot is asked by the law of messages
  abbrev pub SizesOn : Past → Line → List Line → ℕ → ℕ → List ℕ → Option Begun → Type 0
  SizesOn past l later c slot sizes None = Unit {0}
  SizesOn past l later c slot sizes (Some begun) =
      AreSizes (machines past l later c slot) past c slot (file_of begun) 0 sizes

  abbrev pub SizesAt : Past → Line → List Line → Node → ℕ → List ℕ → Type 0
  SizesAt past l later (Client c) slot sizes =
      out (who_is c past) ≡ false → SizesOn past l later c slot sizes (open_call c slot past)
  SizesAt past l later (Target t) slot sizes = Unit {0}

  abbrev pub GlimpseAt : Past → Line → List Line → Entry → Type 0
  GlimpseAt past l later (Told slot turn (told.Sizes sizes)) = SizesAt past l later l.at.node slot sizes
  GlimpseAt past l later _ = Unit {0}

  abbrev pub GlimpseOf : Past → Line → List Line → Type 0
  GlimpseOf past l later = GlimpseAt past l later l.entry

abbrev pub Glimpse : ℕ → Past → Past → Line → List Line → Type 0
Glimpse osts whole = GlimpseOf (is_gone whole) osts
