-- The stripe at which a flush stands.
use Rattle.std.specs.Prelude.{ℕ, ◌++◌, ◌&&◌, not, if◌then◌else◌, Bool, List, [], ◌∷◌, Option, Some, None}
use Rattle.lu_base.specs.declared.ids.At.{At}
use Rattle.lu_msg.specs.declared.answers.Answer.TheVariants as answer
use Rattle.lu_held.specs.Held.{in_order}
use Rattle.lu_spec_entries.specs.Carried.{HandleFile, Flushing, Running}
use Rattle.lu_spec_entries.specs.Words.{Entry, Stands}
use Rattle.lu_spec_client.specs.States.{Store}
use Rattle.lu_spec_client.specs.Caches.{patch_at}
use Rattle.lu_spec_client.specs.Patches.{Patch, in_flight}
use Rattle.lu_spec_client.specs.Stripes.{object}
use Rattle.lu_spec_client.specs.Advances.{at_stage, tells}
use Rattle.lu_spec_client.specs.WriteBack.{is_clean, flushes}

-- nothing of an object is to be written back, or on its way
abbrev pub is_written : Patch → Bool
is_written p = not (in_flight p) && is_clean p

-- the next change of this stripe's object is written back under the first lock that has one, and the call waits
abbrev pub flush_object : ℕ → Running → HandleFile → ℕ → Store → List Entry
flush_object slot r f i s = flushes (object f.fid i) (patch_at (object f.fid i) s.patches) (in_order s.held)
    ++ Stands slot (at_stage r (Flushing i)) ∷ []

-- while one is under way it only waits
abbrev pub flush_stripe : ℕ → Running → HandleFile → ℕ → Store → List Entry
flush_stripe slot r f i s =
    if in_flight (patch_at (object f.fid i) s.patches) then Stands slot (at_stage r (Flushing i)) ∷ [] else flush_object slot r f i s

-- the first stripe that isn't done; none where all are
abbrev pub flush_at : At → ℕ → Running → HandleFile → Option ℕ → Store → List Entry
flush_at at slot r f None s = tells slot r at answer.Done None
flush_at at slot r f (Some i) s = flush_stripe slot r f i s
