-- What the later lines of a turn keep, evict and restore, and that a table shows it.
use Rattle.std.specs.Prelude.{◌≡◌, ℕ, Bool, ◌==◌, ◌&&◌, Option, List}
use Rattle.std.specs.Option.{option_map}
use Rattle.std.specs.HashMap.{get_by}
use Rattle.std.specs.HashSet.{contains_by}
use Rattle.lu_base.specs.declared.ids.At.{At}
use Rattle.lu_base.specs.declared.ids.Who.{Who}
use Rattle.lu_base.specs.declared.locks.Cause.{Cause}
use Rattle.lu_base.specs.declared.locks.Lock.{Lock as LockOf}
use Rattle.lu_trace.specs.declared.entries.Line.{Line}
use Rattle.lu_spec_laws.specs.Words.Closes.{will_keep, will_evict, will_restore}
use Rattle.lu_judge_recovery.specs.declared.rest.Rest.{Rest}

abbrev pub will_keep_in : Rest → ℕ → Bool
will_keep_in r n = contains_by (λ k. n == k) r.kept

abbrev pub will_evict_in : Rest → Who → Option Cause
will_evict_in r who = get_by (λ k. who.client == k.0 && who.life == k.1) r.evicted

abbrev pub will_restore_in : Rest → Who → ℕ → Option LockOf
will_restore_in r who cookie =
    option_map (λ lock. lock.now)
    (get_by (λ k. (who.client == k.0.0 && who.life == k.0.1) && cookie == k.1) r.restored)

pub record ShowsRest (r : Rest) (at : At) (later : List Line) : Type 0 where
  pub kept : (n : ℕ) → will_keep_in r n ≡ will_keep at later n
  pub evicted : (who : Who) → will_evict_in r who ≡ will_evict at later who
  pub restored : (who : Who) (cookie : ℕ) → will_restore_in r who cookie ≡ will_restore at later who cookie
