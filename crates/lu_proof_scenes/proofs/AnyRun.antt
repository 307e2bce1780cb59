-- Every run of the whole table in which no disk fails is covered, turn by turn.
use Rattle.std.proofs.Common.{◌≡◌, Bool, true, false, List, [], ◌∷◌, inl, inr, sym, subst, ◌∙◌, refl}
use Rattle.lu_base.specs.declared.ids.At.{At}
use Rattle.lu_spec_entries.specs.Words.{Entry, Line, with_turn}
use Rattle.lu_spec_run.specs.Heads.{Head}
use Rattle.lu_spec_run.specs.Runs.{has_failed, row_at, IsRow, Turn, lines_of, IsTurn, IsRun}
use Rattle.lu_proof_lawful.specs.Covered.Runs.{AllCovered}
use Rattle.lu_proof_run.proofs.Unfailed.{failed_stays}
use Rattle.lu_proof_lawful.proofs.Preconditions.Obey.{grown}
use Rattle.lu_proof_scenes.proofs.Runs.{calm_first}
use Rattle.lu_proof_scenes.proofs.Served.{over_unfailed}
use Rattle.lu_proof_scenes.proofs.AnyTurn.{MayAsk, Sound, turn_sound}

pub differ : true ≡ false → ⊥
differ e = absurd (cc)

-- none had failed before the turn either
pub unfailed_before : (at : At) (es : List Entry) (past : List Line) → has_failed (with_turn at es past) ≡ false → has_failed past ≡ false
unfailed_before at es past unfailed = by (has_failed past) refl
  where
    by : (b : Bool) → has_failed past ≡ b → b ≡ false
    by true e = absurd (differ (sym (failed_stays at es past e) ∙ unfailed))
    by false e = refl

-- so the turn is as the row has it
pub row_whole : (head : Head) (past : List Line) (at : At) (es : List Entry) (r : IsRow head past at es) → has_failed (with_turn at es past)
    ≡ false → es ≡ row_at head past at at.node r.event
row_whole head past at es r unfailed =
    r.is ∙ over_unfailed r.fails at past (row_at head past at at.node r.event)
    (subst (λ (gs : List Entry). has_failed (with_turn at gs past) ≡ false) r.is unfailed)

pub sound : (head : Head) (turns : List Turn) → IsRun head turns → has_failed (lines_of turns) ≡ false → Sound head (lines_of turns)
sound head [] run unfailed = record { covered = tt; suits = tt; calm = calm_first MayAsk head; begun = λ call i. absurd i }
sound head (t ∷ turns) run unfailed = by run.1 (sound head turns run.2 (unfailed_before t.at t.entries (lines_of turns) unfailed))
  where
    by : IsTurn head turns t → Sound head (lines_of turns) → Sound head (lines_of (t ∷ turns))
    by (inl r) s =
        subst (λ (es : List Entry). Sound head (with_turn t.at es (lines_of turns)))
        (sym (row_whole head (lines_of turns) t.at t.entries r unfailed))
        (turn_sound head (lines_of turns) s (grown head turns run.2 s.covered) t.at.stamp t.at.node r.event r.meets)
    by (inr f) s = absurd (differ (subst (λ (es : List Entry). has_failed (with_turn t.at es (lines_of turns)) ≡ false) f.is unfailed))

pub run_covered : (head : Head) (turns : List Turn) → IsRun head turns → has_failed (lines_of turns) ≡ false → AllCovered (lines_of turns)
run_covered head turns run unfailed = (sound head turns run unfailed).covered
