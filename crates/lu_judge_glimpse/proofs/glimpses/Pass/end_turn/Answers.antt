use Rattle.std.proofs.Common.{◌≡◌, ℕ, List, sym, subst}
use Rattle.std.specs.Prelude.{reverse, Option, Some, None, IfNone, IfSome}
use Rattle.lu_spec_laws.specs.Words.Pasts.{Past}
use Rattle.lu_spec_laws.specs.Words.Glimpses.{machine_cut}
use Rattle.lu_spec_laws.specs.Laws.Glimpse.{Glimpse}
use Rattle.lu_judge_pass.specs.Firsts.{HoldsBelow, IsFirst}
use Rattle.lu_judge_glimpse.specs.declared.wanted.Wanted.{Wanted}
use Rattle.lu_judge_glimpse.specs.Shown.{turn_end, past_of, later_of, law_of, Fresh, Pending, Shown}
use Rattle.lu_judge_glimpse.specs.Wanted.{meets, IsLeast}
use Rattle.lu_judge_glimpse.specs.Watched.{SeenNext}
use Rattle.lu_judge_glimpse.proofs.Ended.{none_holds, first_breaks}
use Rattle.lu_judge_glimpse.proofs.TurnEnds.{pending_none, fresh_none}
use Rattle.lu_judge_glimpse.proofs.Turns.{ended_here}
use Rattle.lu_judge_glimpse.proofs.glimpses.Pass.end_turn.Goals as goal

pub returns-clause-none : goal.returns-clause-none
returns-clause-none c = by c.first_unmet-first.result least
  where
    least : IsLeast (meets (machine_cut c.args.self.now.history.osts (turn_end (past_of c.args.self.now) (later_of c.args.self.now))))
        c.args.self.now.wanted.items c.first_unmet-first.result
    least =
        subst (λ (x : Past). IsLeast (meets (machine_cut c.args.self.now.history.osts x)) c.args.self.now.wanted.items
        c.first_unmet-first.result) (sym (ended_here (past_of c.args.self.now) (later_of c.args.self.now) c.requires.ended))
        (subst (λ (n : ℕ). IsLeast (meets (machine_cut n (past_of c.args.self.now))) c.args.self.now.wanted.items
        c.first_unmet-first.result) c.in_ok-build.ensures.osts
        (subst (λ (ws : List Wanted). IsLeast (meets (machine_cut c.build.new.history.osts (past_of c.args.self.now))) ws
        c.first_unmet-first.result) c.as_slice.ensures.value
        (c.first_unmet-first.ensures.first (past_of c.args.self.now)
        (c.in_ok-build.ensures.shows (past_of c.args.self.now) c.requires.looked.kept.tables c.requires.looked.kept.history))))

    by : (o : Option ℕ) → IsLeast (meets (machine_cut c.args.self.now.history.osts
        (turn_end (past_of c.args.self.now) (later_of c.args.self.now)))) c.args.self.now.wanted.items o
        → IfNone o (Shown (record {
          lines = c.args.self.now.lines;
          place = c.args.self.now.place;
          out = c.args.self.now.out;
          counts =
              c.args.self.now.counts;
          tables = c.args.self.now.tables;
          history = c.build.new.history;
          sightings = c.args.self.now.sightings;
          standing = c.args.self.now.standing;
          wanted = c.clear.new.self;
        }))
    by (Some i) first = tt
    by None none =
        let p = c.args.self.now in
        let kept = c.requires.looked.kept in
        let past = past_of c.args.self.now in
        let osts = c.in_ok-build.ensures.osts in
        let holds = none_holds (law_of p) p.lines.now p.place (meets (machine_cut p.history.osts (turn_end past (later_of p))))
        p.wanted.items kept.pending none in
        record {
          kept = record {
            within = kept.within;
            gone = kept.gone;
            counted = kept.counted;
            placed = kept.placed;
            lines_formed = kept.lines_formed;
            formed = kept.formed;
            tables = kept.tables;
            history = c.in_ok-build.ensures.shows past kept.tables kept.history;
            below = kept.below;
            covers = kept.covers;
            fresh = subst (λ (ws : List Wanted). Fresh c.args.self.now.place ws) (sym c.clear.ensures.items) (fresh_none p.place);
            pending =
                subst (λ (ws : List Wanted). Pending (Glimpse c.build.new.history.osts (reverse c.args.self.now.lines.now))
                c.args.self.now.lines.now c.args.self.now.place
                (meets (machine_cut c.build.new.history.osts (turn_end (past_of c.args.self.now) (later_of c.args.self.now)))) ws)
                (sym c.clear.ensures.items)
                (pending_none (Glimpse c.build.new.history.osts (reverse p.lines.now)) p.lines.now p.place
                (meets (machine_cut c.build.new.history.osts (turn_end past (later_of p))))
                (subst (λ (n : ℕ). HoldsBelow (Glimpse n (reverse c.args.self.now.lines.now)) c.args.self.now.lines.now
                c.args.self.now.place) (sym osts) holds));
          };
          seen =
              subst (λ (n : ℕ). SeenNext c.args.self.now.sightings c.args.self.now.counts n (past_of c.args.self.now)
              (later_of c.args.self.now)) (sym osts) c.requires.looked.seen;
          done = λ ended. c.clear.ensures.items;
        }

pub returns-clause-some : goal.returns-clause-some
returns-clause-some c = by c.first_unmet-first.result least
  where
    least : IsLeast (meets (machine_cut c.args.self.now.history.osts (turn_end (past_of c.args.self.now) (later_of c.args.self.now))))
        c.args.self.now.wanted.items c.first_unmet-first.result
    least =
        subst (λ (x : Past). IsLeast (meets (machine_cut c.args.self.now.history.osts x)) c.args.self.now.wanted.items
        c.first_unmet-first.result) (sym (ended_here (past_of c.args.self.now) (later_of c.args.self.now) c.requires.ended))
        (subst (λ (n : ℕ). IsLeast (meets (machine_cut n (past_of c.args.self.now))) c.args.self.now.wanted.items
        c.first_unmet-first.result) c.in_ok-build.ensures.osts
        (subst (λ (ws : List Wanted). IsLeast (meets (machine_cut c.build.new.history.osts (past_of c.args.self.now))) ws
        c.first_unmet-first.result) c.as_slice.ensures.value
        (c.first_unmet-first.ensures.first (past_of c.args.self.now)
        (c.in_ok-build.ensures.shows (past_of c.args.self.now) c.requires.looked.kept.tables c.requires.looked.kept.history))))

    by : (o : Option ℕ) → IsLeast (meets (machine_cut c.args.self.now.history.osts
        (turn_end (past_of c.args.self.now) (later_of c.args.self.now)))) c.args.self.now.wanted.items o
        → IfSome o (λ i. IsFirst (Glimpse c.build.new.history.osts (reverse c.args.self.now.lines.now)) c.args.self.now.lines.now (Some i))
    by None none = tt
    by (Some i) first =
        let p = c.args.self.now in
        let kept = c.requires.looked.kept in
        subst (λ (n : ℕ). IsFirst (Glimpse n (reverse c.args.self.now.lines.now)) c.args.self.now.lines.now (Some i))
        (sym c.in_ok-build.ensures.osts)
        (first_breaks (law_of p) p.lines.now p.place (meets (machine_cut p.history.osts (turn_end (past_of p) (later_of p)))) p.wanted.items
        i kept.within kept.fresh kept.pending first)
