use Rattle.std.proofs.Common.{◌≡◌, ℕ, ◌<◌, ◌≤◌, List, [], ◌∷◌, length, arith, sym, subst, ap, ◌∙◌}
use Rattle.std.specs.Prelude.{reverse, All, Option, Some, None}
use Rattle.std.proofs.lemmas.Result.{IfOk-weaker}
use Rattle.lu_trace.specs.declared.entries.Line.{Line}
use Rattle.lu_trace.specs.WellFormed.{IsLine}
use Rattle.lu_spec_laws.specs.Laws.Glimpse.{Glimpse}
use Rattle.lu_judge_pass.specs.Firsts.{HoldsBelow}
use Rattle.lu_judge_pass.specs.Places.{PlacedIn}
use Rattle.lu_judge_pass.proofs.Placed.{placed}
use Rattle.lu_judge_pass.proofs.Wholes.{at_each, none_is_whole}
use Rattle.lu_judge_glimpse.specs.declared.wanted.Wanted.{Wanted}
use Rattle.lu_judge_glimpse.specs.Shown.{Fresh}
use Rattle.lu_judge_glimpse.proofs.Passed.{seen_none, same_first}
use Rattle.lu_judge_glimpse.proofs.TurnEnds.{fresh_none}
use Rattle.lu_judge_glimpse.proofs.glimpses.first_in_glimpse.Goals as goal

pub first_place-requires : goal.first_place-requires
first_place-requires c =
    let entries = c.args.trace.now.entries in
    let same = c.as_slice-lines.ensures.same in
    record {
      shown = record {
        kept = record {
          within = omega arith;
          gone = c.in_ok-gone_in.ensures.gone;
          counted = c.in_ok-counts_in.ensures.counted;
          placed =
              subst (λ (ls : List Line). HoldsBelow (PlacedIn (reverse ls)) ls (length ls)) (sym same)
              (at_each (PlacedIn (reverse entries)) entries (placed c.args.trace.now.osts (reverse entries) c.requires.messages));
          lines_formed = subst (λ (ls : List Line). All IsLine ls) (sym same) c.requires.formed.lines;
          formed = tt;
          tables = c.new.ensures.shows;
          history = c.new-2.ensures.shows;
          below = λ f stripe size last there. absurd (cc (there, c.new-3.ensures.none f stripe size));
          covers = λ client slot. tt;
          fresh = subst (λ (ws : List Wanted). Fresh 0 ws) (sym c.new-5.ensures.items) (fresh_none 0);
          pending = λ j below d. absurd (omega (arith, below));
        };
        seen = seen_none c.new-3.result c.in_ok-counts_in.field-0 c.new-2.result.osts c.as_slice-lines.result.now;
        done = λ ended. c.new-5.ensures.items;
      };
    }

pub returns-clause-none : goal.returns-clause-none
returns-clause-none c =
    IfOk-weaker c.first_place.result _ _
    (λ place first. none_is_whole (Glimpse c.args.trace.now.osts (reverse c.args.trace.now.entries)) c.args.trace.now.entries place
    (same_first c.as_slice-lines.result.now c.args.trace.now.entries c.new-2.result.osts c.args.trace.now.osts place
    c.as_slice-lines.ensures.same c.new-2.ensures.osts first))
    c.first_place.ensures
