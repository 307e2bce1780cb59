-- What a line tells that wasn't seen before its turn ends.
use Rattle.std.specs.Prelude.{◌≡◌, ℕ, Bool, if◌then◌else◌, Option, Some, None, List, [], ◌∷◌}
use Rattle.lu_base.specs.declared.ids.Node.{Node}
use Rattle.lu_base.specs.declared.ids.Node.TheVariants.{Client, Target}
use Rattle.lu_base.specs.declared.ids.Who.{Who}
use Rattle.lu_msg.specs.declared.answers.Answer.TheVariants as told
use Rattle.lu_trace.specs.declared.entries.Entry.{Entry}
use Rattle.lu_trace.specs.declared.entries.Entry.TheVariants.{Told}
use Rattle.lu_spec_laws.specs.Words.Pasts.{Past}
use Rattle.lu_spec_laws.specs.Words.Lives.{who_is}
use Rattle.lu_spec_laws.specs.Words.Calls.{Begun, open_call, file_of}
use Rattle.lu_judge_glimpse.specs.declared.sightings.Sightings.{Sightings}
use Rattle.lu_judge_glimpse.specs.Begins.{begun_place}
use Rattle.lu_judge_glimpse.specs.Sightings.{since_in}
use Rattle.lu_judge_glimpse.specs.declared.wanted.Wanted.{Wanted}
use Rattle.lu_judge_glimpse.specs.Wanted.{wanted_of}

module _ (s : Sightings) (out : Who → Bool) (past : Past) (place : ℕ) where
  -- to a call that began at a place
  abbrev pub told_call : ℕ → List ℕ → Option Begun → List Wanted
  told_call at sizes None = []
  told_call at sizes (Some begun) =
      wanted_of (λ stripe size. since_in s (file_of begun) stripe size at) place (file_of begun) 0 sizes

  abbrev pub told_node : ℕ → List ℕ → Node → List Wanted
  told_node slot sizes (Client c) =
      if out (who_is c past) then [] else told_call (begun_place c slot past) sizes (open_call c slot past)
  told_node slot sizes (Target t) = []

  abbrev pub told_entry : Node → Entry → List Wanted
  told_entry node (Told slot turn (told.Sizes sizes)) = told_node slot sizes node
  told_entry node _ = []
