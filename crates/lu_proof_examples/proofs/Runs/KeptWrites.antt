-- The scenes with writes keep the limits, so what they come to is lawful.
use Rattle.std.proofs.Common.{ℕ, zero, suc, ◌<◌, [], ◌∷◌, refl, lit≤}
use Rattle.std.specs.Prelude.{slice_index}
use Rattle.lu_scene.specs.Grammar.{LineFits}
use Rattle.lu_spec_run.specs.Heads.{IsHead}
use Rattle.lu_spec_run.specs.Limits.{KeepsLimits}
use Rattle.lu_spec_run.specs.Scenarios.{head_of}
use Rattle.lu_spec_laws.proofs.Words.{◌then◌}
use Rattle.lu_spec_laws.specs.Lawful.{Lawful}
use Rattle.lu_layout.specs.Raid0.{stripe_of, offset_of, position_of, below_of, greatest_end}
use Rattle.lu_proof_examples.proofs.Runs.Words.{trace_after}
use Rattle.lu_proof_examples.proofs.Runs.Writes.{written}
use Rattle.lu_proof_examples.proofs.Runs.Keeping.{is_path_f, all_of, lawful}

is_two : IsHead (head_of written.head)
is_two =
    record {
      clients = lit≤ tt;
      most_clients = lit≤ tt;
      osts = lit≤ tt;
      most_osts = lit≤ tt;
      expire = lit≤ tt;
      dirty = lit≤ tt;
      unused = lit≤ tt;
      flight = lit≤ tt;
      most_flight = lit≤ tt;
    }

are_bytes : (i : ℕ) → slice_index (104 ∷ 105 ∷ []) i < 256
are_bytes zero = lit≤ tt
are_bytes (suc zero) = lit≤ tt
are_bytes (suc (suc i)) = lit≤ tt

pub written_keeps : KeepsLimits written
written_keeps =
    record {
      head = is_two;
      lines =
          all_of (LineFits written.head) written.lines ((lit≤ tt, lit≤ tt, (is_path_f, (lit≤ tt, lit≤ tt))) then tt
          then (lit≤ tt, lit≤ tt, (lit≤ tt, is_path_f)) then tt then (lit≤ tt, lit≤ tt, (lit≤ tt, is_path_f)) then tt
          then (lit≤ tt, lit≤ tt, (lit≤ tt, are_bytes, lit≤ tt, lit≤ tt, lit≤ tt)) then tt
          then (lit≤ tt, lit≤ tt, (lit≤ tt, lit≤ tt, lit≤ tt, lit≤ tt))
          then tt then tt);
    }

pub written_lawful : Lawful 1 (trace_after 60 written)
unfolding stripe_of offset_of position_of below_of greatest_end
written_lawful = lawful written 60 written_keeps refl
