use Rattle.std.proofs.Common.{◌≡◌, ℕ, Bor, List, map, length, rules, refl, sym, ap, ◌∙◌}
use Rattle.std.specs.Prelude.{not, nat_lt}
use Rattle.std.proofs.lemmas.List.{length-map}
use Rattle.lu_msg.specs.declared.messages.Request.{Request}
use Rattle.lu_msg.specs.Limits.{tag_count}
use Rattle.lu_judge_acts.proofs.Flown.{fits_by}
use Rattle.lu_judge_acts.proofs.flights.fits_in.Goals as goal

-- by the list as it is kept
of_kept : (flight : List (Bor Request)) → not (nat_lt (length flight) tag_count)
    ≡ not (nat_lt (length (map (λ (r : Bor Request). r.now) flight)) tag_count)
of_kept flight = ap (λ (n : ℕ). not (nat_lt n tag_count)) (sym (length-map flight (λ (r : Bor Request). r.now)))

pub returns-then-is_full : goal.returns-then-is_full
returns-then-is_full c = record {
  fits = fits_by c.args.target c.args.request.now _ c.is_full.result _ _ _ (c.is_full.ensures.full ∙ of_kept c.args.flight.now) refl refl
      (rw c.if-is_full.true refl);
}

pub returns-then-has_tag : goal.returns-then-has_tag
returns-then-has_tag c = record {
  fits =
      fits_by c.args.target c.args.request.now _ c.is_full.result c.has_tag.result _ _ (c.is_full.ensures.full ∙ of_kept c.args.flight.now)
      c.has_tag.ensures.tag refl
      (rw (c.if-is_full.false, c.if-has_tag.true) refl);
}

pub returns-then-target-eq0 : goal.returns-then-target-eq0
returns-then-target-eq0 c = record {
  fits =
      fits_by c.args.target c.args.request.now _ c.is_full.result c.has_tag.result _ _ (c.is_full.ensures.full ∙ of_kept c.args.flight.now)
      c.has_tag.ensures.tag refl
      (rw (c.if-is_full.false, c.if-has_tag.false, c.if-target-eq0.true) refl);
}

pub returns-else-target-eq0 : goal.returns-else-target-eq0
returns-else-target-eq0 c = record {
  fits =
      fits_by c.args.target c.args.request.now _ c.is_full.result c.has_tag.result c.has_object.result _
      (c.is_full.ensures.full ∙ of_kept c.args.flight.now) c.has_tag.ensures.tag c.has_object.ensures.object
      (rw (c.if-is_full.false, c.if-has_tag.false) (search rules));
}
