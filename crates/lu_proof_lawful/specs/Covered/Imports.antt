-- What a client asks of one target (Lustre Operations Manual, recovery: the import): operations that wait in
-- a queue, and requests in flight, each with a number of its own and a tag that no other has. A new life begins anew.
use Rattle.std.specs.Prelude.{ℕ, List, []}
use Rattle.lu_spec_entries.specs.Carried.{Queued, Flight}
use Rattle.lu_spec_entries.specs.Words.{Line}
use Rattle.lu_spec_entries.specs.Fields.{at_import}
pub use Rattle.lu_spec_client.specs.Imports.{rest, without_flight, reads_known, known_after, has_tag, above_tags, free_from, free_tag}
pub use Rattle.lu_spec_client.specs.Imports.{Kept, nothing_kept, reads_kept, kept_after, Standing, Joining, Recovering, Serving}
pub use Rattle.lu_spec_client.specs.Imports.{interrupted, reads_standing, standing_after, reads_last, last_after, reads_queue, queue_after}
pub use Rattle.lu_spec_client.specs.Imports.{reads_flights, flights_after}

-- the queue, its front first
abbrev pub queue_at : ℕ → ℕ → List Line → List Queued
queue_at c t past = at_import reads_queue queue_after [] c t past

-- the requests in flight, in rising number
abbrev pub flights_at : ℕ → ℕ → List Line → List Flight
flights_at c t past = at_import reads_flights flights_after [] c t past

-- the number of the newest request, 0 where there was none
abbrev pub last_at : ℕ → ℕ → List Line → ℕ
last_at c t past = at_import reads_last last_after 0 c t past

-- the boot of the target that the client knows
abbrev pub known_at : ℕ → ℕ → List Line → ℕ
known_at c t past = at_import reads_known known_after 1 c t past

-- how the client stands there
abbrev pub standing_at : ℕ → ℕ → List Line → Standing
standing_at c t past = at_import reads_standing standing_after Serving c t past

-- what the client has to tell it in a recovery
abbrev pub kept_at : ℕ → ℕ → List Line → Kept
kept_at c t past = at_import reads_kept kept_after nothing_kept c t past
