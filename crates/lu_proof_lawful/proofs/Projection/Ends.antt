-- A life that its client heard to be over counts no more, and nothing that is committed is lost by a close.
use Rattle.std.proofs.Common.{◌≡◌, ℕ, ◌<◌, Bool, true, false, List, refl}
use Rattle.std.specs.Prelude.{nat_lt, ◌&&◌, ◌||◌, not}
use Rattle.std.proofs.lemmas.Bool.{and_parts, ltb-true}
use Rattle.lu_spec_entries.specs.Words.{Line}
use Rattle.lu_spec_client.specs.Calls.{life_at}
use Rattle.lu_spec_target.specs.Phase.{first_of}
use Rattle.lu_proof_bytes.specs.Object.Words.{Entry}
use Rattle.lu_proof_bytes.specs.Object.Folds.{evicted}
use Rattle.lu_proof_lawful.specs.Projection.Closes.{lost_by}
use Rattle.lu_proof_lawful.specs.Projection.Lives.{number_of, is_over, is_live}
use Rattle.lu_proof_lawful.specs.Projection.Requests.{among}

or_true : (a b : Bool) → b ≡ true → not (a || b) ≡ false
or_true true b e = refl
or_true false true e = refl
or_true false false e = absurd (cc)

pub over_ends : (c : ℕ) (past : List Line) (h : List Entry) → is_over c (life_at c past) past ≡ true → is_live c past h ≡ false
over_ends c past h over = or_true (evicted (number_of (life_at c past)) h) (is_over c (life_at c past) past) over

pub lost_above : (to boot : ℕ) (kept : List ℕ) (n : ℕ) → lost_by to boot kept n ≡ true → to < n
lost_above to boot kept n e = ltb-true to n (and_parts (nat_lt to n) (nat_lt n (first_of boot) && not (among kept n)) e).0
