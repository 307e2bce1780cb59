-- A call that is done is added at its life and file.
use Rattle.std.proofs.Common.{◌≡◌, true, false, Some, None, refl, sym, ap, subst, ◌∙◌}
use Rattle.std.specs.Option.{option_map}
use Rattle.lu_spec_laws.specs.Words.Lives.{who_is}
use Rattle.lu_spec_laws.specs.Words.Calls.{open_call}
use Rattle.lu_posix.proofs.Both.{both_ok}
use Rattle.lu_judge_calls.specs.Tables.{begun_of}
use Rattle.lu_judge_calls.specs.Marks.{IsWithin}
use Rattle.lu_judge_history.proofs.Limits.{OfBegun, call_within}
use Rattle.lu_judge_history.proofs.Steps.{tell_nothing, tell_call, off_files}
use Rattle.lu_judge_history.proofs.Telling.{who_at}
use Rattle.lu_judge_history.proofs.carried.Carried.tell.Goals as goal

differ : true ≡ false → ⊥
differ e = cc

pub returns-in_default : goal.returns-in_default
returns-in_default c = record {
  shows = λ past limited ledger calls shown.
      tell_nothing c.args.self.now past shown c.args.at c.args.client (who_is c.args.client past) c.requires.own refl c.args.slot
      c.args.turn c.args.answer.now None c.requires.done
      (sym (ap (option_map begun_of) c.in_default.is) ∙ c.call.ensures.call past calls) (λ f marks. refl);
}

pub returns-in_default-file : goal.returns-in_default-file
returns-in_default-file c = record {
  shows = λ past limited ledger calls shown.
      tell_nothing c.args.self.now past shown c.args.at c.args.client (who_is c.args.client past) c.requires.own refl c.args.slot
      c.args.turn c.args.answer.now (Some (begun_of c.in-Some.begun)) c.requires.done
      (sym (ap (option_map begun_of) c.in-Some.is) ∙ c.call.ensures.call past calls)
      (λ f marks. off_files f _ (begun_of c.in-Some.begun) marks (sym c.file.ensures.file ∙ c.in_default-file.is));
}

pub returns-then-not-is_within : goal.returns-then-not-is_within
returns-then-not-is_within c = record {
  shows = λ past limited ledger calls shown.
      let begun : Some (begun_of c.in-Some.begun) ≡ open_call c.args.client c.args.slot past = sym (ap (option_map begun_of) c.in-Some.is)
      ∙ c.call.ensures.call past calls in
      let within : IsWithin c.in-Some.begun.call.now = subst OfBegun (sym begun) (call_within past limited c.args.client c.args.slot) in
      absurd (differ (sym (c.is_within.ensures.1 within) ∙ c.if-not-is_within.true));
}

pub returns : goal.returns
returns c = record {
  shows = both_ok c.add.result c.add.ensures.writes c.add.ensures.cuts
      (λ writes cuts past limited ledger calls shown.
      let whose : c.who.result ≡ who_is c.args.client past = c.who.ensures.who
      ∙ who_at c.args.ledger.now.lives past ledger.lives c.args.client in
      tell_call c.args.self.now past shown c.args.at c.args.client c.who.result c.requires.own whose _ c.args.slot c.args.turn
      c.args.answer.now (begun_of c.in-Some.begun) c.in-Some-file.fid c.requires.done
      (sym (ap (option_map begun_of) c.in-Some.is) ∙ c.call.ensures.call past calls)
      (sym c.file.ensures.file ∙ c.in-Some-file.is) refl refl refl writes cuts);
}
