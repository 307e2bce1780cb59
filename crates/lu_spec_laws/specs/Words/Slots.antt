-- Which lives have slots at a target: life 1 of each client and each life that joined there, without those that the
-- target evicted (Lustre Operations Manual, recovery).
use Rattle.std.specs.Prelude.{ℕ, zero, suc, Bool, true, false, not, ◌==◌, ◌&&◌, ◌||◌, if◌then◌else◌, List, [], ◌∷◌, ◌++◌, filter}
use Rattle.lu_base.specs.declared.ids.Who.{Who}
use Rattle.lu_trace.specs.declared.entries.Entry.{Entry}
use Rattle.lu_trace.specs.declared.entries.Entry.TheVariants.{Joined}
use Rattle.lu_trace.specs.declared.entries.Line.{Line}
use Rattle.lu_spec_machine.specs.Tree.{same_life}
use Rattle.lu_spec_laws.specs.Words.Pasts.{Past, is_target}
use Rattle.lu_spec_laws.specs.Words.Lives.{is_evicted}
use Rattle.lu_spec_laws.specs.Words.Scopes.{any_at}

abbrev pub joins : Who → Entry → Bool
joins who (Joined other) = same_life other who
joins who _ = false

-- the life has a `joined` line of the target
abbrev pub has_joined : ℕ → Past → Who → Bool
has_joined t past who = any_at (joins who) t past

-- of a life of one of the trace's clients
abbrev pub has_slot : ℕ → Past → Who → Bool
has_slot t past who = (who.life == 1 || has_joined t past who) && not (is_evicted t past who)

-- life 1 of so many clients
abbrev pub first_lives : ℕ → List Who
first_lives zero = []
first_lives (suc c) = record { client = c; life = 1 } ∷ first_lives c

abbrev pub joined_step : ℕ → Line → List Who → List Who
joined_step t l old = elim l.entry [ Joined who ↦ if is_target t l.at.node then who ∷ old else old | _ ↦ old ]

abbrev pub joined_lives : ℕ → Past → List Who
joined_lives t [] = []
joined_lives t (l ∷ past) = joined_step t l (joined_lives t past)

-- the lives with a slot, where the trace has so many clients
abbrev pub slots : ℕ → ℕ → Past → List Who
slots clients t past = filter (has_slot t past) (first_lives clients ++ joined_lives t past)
