-- The lives that came back in turns, and that a table shows them.
use Rattle.std.specs.Prelude.{◌≡◌, ℕ, Bool, ◌==◌, ◌&&◌}
use Rattle.std.specs.HashSet.{contains_by}
use Rattle.lu_base.specs.declared.ids.Who.{Who}
use Rattle.lu_spec_laws.specs.Words.Pasts.{Past}
use Rattle.lu_spec_laws.specs.Laws.Recovery.{came_back}
use Rattle.lu_judge_recovery.specs.Turns.{turn_at}
use Rattle.lu_judge_recovery.specs.declared.returns.Returns.{Returns}

abbrev pub has_returned : Returns → ℕ → ℕ → Who → Bool
has_returned r s t who =
    contains_by (λ k. (s == k.0.0 && t == k.0.1) && (who.client == k.1.0 && who.life == k.1.1)) r.lives

abbrev pub ShowsReturns : Returns → Past → Type 0
ShowsReturns r past = (s t : ℕ) (who : Who) → has_returned r s t who ≡ came_back t (turn_at s t) past who
