-- The locks that `grant` and `restore` lines name, the committed numbers at closes, and that tables show them.
use Rattle.std.specs.Prelude.{◌≡◌, ℕ, ◌==◌, ◌&&◌, Option, unwrap_or}
use Rattle.std.specs.Option.{option_map}
use Rattle.std.specs.HashMap.{get_by}
use Rattle.lu_base.specs.declared.locks.Lock.{Lock as LockOf}
use Rattle.lu_spec_laws.specs.Words.Pasts.{Past}
use Rattle.lu_spec_laws.specs.Words.Scopes.{last_at}
use Rattle.lu_spec_laws.specs.Words.Seen.{granted_as, restored_as}
use Rattle.lu_spec_laws.specs.Words.Closes.{committed_at_close}
use Rattle.lu_judge_recovery.specs.declared.noted.Noted.{Noted}
use Rattle.lu_judge_recovery.specs.declared.settled.Settled.{Settled}

abbrev pub granted_in : Noted → ℕ → ℕ → Option LockOf
granted_in n t cookie = option_map (λ lock. lock.now) (get_by (λ k. t == k.0 && cookie == k.1) n.granted)

abbrev pub restored_in : Noted → ℕ → ℕ → Option LockOf
restored_in n t cookie = option_map (λ lock. lock.now) (get_by (λ k. t == k.0 && cookie == k.1) n.restored)

pub record ShowsNoted (n : Noted) (past : Past) : Type 0 where
  pub granted : (t cookie : ℕ) → granted_in n t cookie ≡ last_at (granted_as cookie) t past
  pub restored : (t cookie : ℕ) → restored_in n t cookie ≡ last_at (restored_as cookie) t past

-- ---- committed numbers at closes

abbrev pub settled_at : Settled → ℕ → ℕ
settled_at n t = unwrap_or (get_by (λ k. t == k) n.by_target) 0

abbrev pub ShowsSettled : Settled → Past → Type 0
ShowsSettled n past = (t : ℕ) → settled_at n t ≡ committed_at_close t past
