-- The locks of an act at a target of names.
use Rattle.std.specs.Prelude.{◌≡◌, List, [], ◌∷◌, All}
use Rattle.lu_base.specs.declared.ids.Who.{Who}
use Rattle.lu_base.specs.declared.locks.Lock.{Lock}
use Rattle.lu_base.specs.declared.locks.Mode.TheVariants.{PR}
use Rattle.lu_part.specs.declared.parts.Want.{Want}
use Rattle.lu_spec_entries.specs.Carried.{Deed}
use Rattle.lu_spec_entries.specs.Words.{Act}
use Rattle.lu_spec_target.specs.Names.{locks_from, grant_lines}
use Rattle.lu_spec_target.specs.States.{Target, after, turn}
use Rattle.lu_target_locks.specs.Servers.{ServerState, Shows}

-- all are for reading, as at a target of names
abbrev pub AreReading : List Lock → Type 0
AreReading locks = All (λ l. l.ask.mode ≡ PR) locks

-- These are the locks of an act of this life, under the next cookies: it shows the state after the line of the act, which
-- grants them, and after the lines of the grants.
pub record AreAdmitted (who : Who) (wants : List Want) (given : List Lock) (old new : ServerState) : Type 0 where
  pub are : (v : Target) → Shows old v → given ≡ locks_from v.cookie who wants
  pub acts : (v : Target) (d : Deed) → Shows old v → AreReading v.granted → v.waiting ≡ [] → d.reply.locks ≡ given
      → Shows new (after v (Act d))
  pub told : (v : Target) (d : Deed) → Shows old v → AreReading v.granted → v.waiting ≡ [] → d.reply.locks ≡ given
      → Shows new (turn v (Act d ∷ grant_lines d d.reply.locks))
  pub reading : (v : Target) (d : Deed) → Shows old v → AreReading v.granted → d.reply.locks ≡ given → AreReading (after v (Act d)).granted
