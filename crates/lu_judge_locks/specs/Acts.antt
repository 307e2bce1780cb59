-- The requests that the turns of the metadata target executed without a transaction, and that they show a past.
use Rattle.std.specs.Prelude.{◌≡◌, ℕ, ◌==◌, if◌then◌else◌, Option, Some, None}
use Rattle.std.specs.Option.{option_map}
use Rattle.std.specs.HashMap.{get_by}
use Rattle.lu_base.specs.declared.ids.At.{At}
use Rattle.lu_base.specs.declared.ids.Node.TheVariants.{Target}
use Rattle.lu_base.specs.declared.ids.Who.{Who}
use Rattle.lu_spec_laws.specs.Words.Pasts.{Past, same_turn}
use Rattle.lu_spec_laws.specs.Words.Asked.{Acting, acting}
use Rattle.lu_judge_locks.specs.declared.acts.Acting.{Acting as Kept}
use Rattle.lu_judge_locks.specs.declared.acts.Acts.{Acts}

abbrev pub acting_of : Kept → Acting
acting_of a = record { who = a.who; xid = a.xid.0 }

abbrev pub acting_in : Acts → ℕ → Option Acting
acting_in t stamp = option_map acting_of (get_by (λ k. stamp == k) t.by_stamp)

-- the turn of the metadata target with this stamp
abbrev pub names_turn : ℕ → At
names_turn stamp = record { stamp = record { 0 = stamp }; node = Target 0 }

-- what a line of this turn says of the turn of the metadata target with that stamp, where it executes the request
abbrev pub acting_at : At → Who → ℕ → ℕ → Option Acting
acting_at at who x stamp = if same_turn at (names_turn stamp) then Some (record { who = who; xid = x }) else None

abbrev pub ShowsActs : Acts → Past → Type 0
ShowsActs t past = (stamp : ℕ) → acting_in t stamp ≡ acting (names_turn stamp) past
