use Rattle.std.proofs.Common.{◌≡◌, ℕ, ◌+◌, ◌<◌, ◌≤◌, ◌∷◌, length, drop, arith, sym, subst}
use Rattle.std.specs.Prelude.{reverse}
use Rattle.lu_trace.specs.declared.entries.Line.{Line}
use Rattle.lu_spec_laws.specs.Words.Pasts.{Past}
use Rattle.lu_spec_laws.specs.Words.Glimpses.{machine_cut}
use Rattle.lu_spec_laws.specs.Laws.Glimpse.{Glimpse}
use Rattle.lu_spec_laws.specs.Laws.Messages.{Follows}
use Rattle.lu_judge_pass.specs.Firsts.{before}
use Rattle.lu_judge_glimpse.specs.Histories.{ShowsHistory}
use Rattle.lu_judge_glimpse.proofs.Put.{before_length}
use Rattle.lu_judge_glimpse.specs.Shown.{turn_end, watch_at, Pending}
use Rattle.lu_judge_glimpse.specs.Tables.{ShowsTables}
use Rattle.lu_judge_glimpse.specs.Wanted.{meets}
use Rattle.lu_judge_glimpse.specs.Watched.{SeenOver, earlier}
use Rattle.lu_judge_glimpse.proofs.Steps.{to_next, formed_next, below_next, seen_next, covers_next, fresh_next, pending_next}
use Rattle.lu_judge_glimpse.proofs.glimpses.Pass.step.Goals as goal

pub returns-clause-stepped : goal.returns-clause-stepped
returns-clause-stepped c =
    let p = c.args.self.now in
    let lines = c.args.self.now.lines.now in
    let k = c.args.self.now.place in
    let l = c.index-lines-self.result in
    let kept = c.requires.shown.kept in
    let past = before lines k in
    let inside : c.args.self.now.place < length c.args.self.now.lines.now = c.requires.more in
    let is = c.index-lines-self.is in
    let here = kept.placed k inside l in
    let place = sym (before_length lines k (omega (arith, inside))) in
    let follows : Follows (before c.args.self.now.lines.now c.args.self.now.place) c.index-lines-self.result.at =
    subst (λ (x : Line). Follows (before c.args.self.now.lines.now c.args.self.now.place) x.at) (sym is) here.messages.order in
    let tables = c.in_ok-step.ensures.shows past place here.ordered follows kept.tables in
    let heard = c.in_ok-hear.ensures.heard past kept.tables in
    let made = c.in_ok-judge.ensures.wanted past kept.tables (reverse lines) kept.gone in
    let osts = c.in_ok-tell.ensures.osts in
    record {
      kept = record {
        within = omega (arith, inside);
        gone = kept.gone;
        counted = kept.counted;
        placed = kept.placed;
        lines_formed = kept.lines_formed;
        formed = formed_next lines k l inside is kept.lines_formed kept.formed;
        tables = to_next lines k l inside is (λ (x : Past). ShowsTables c.step.new.self x) tables;
        history = to_next lines k l inside is (λ (x : Past). ShowsHistory c.tell.new.history x)
            (c.in_ok-tell.ensures.shows past kept.tables kept.history);
        below = below_next lines k l inside is p.sightings c.hear.new.sightings kept.below heard;
        covers = covers_next lines k l inside is p.counts (watch_at p.standing) (watch_at c.watch_line.new.standing)
            (c.in_ok-watch_line.ensures.watched (l ∷ past) tables) kept.covers;
        fresh = fresh_next lines k l inside is p.history.osts (reverse lines) p.sightings p.counts p.wanted.items c.judge.new.wanted.items
            made kept.fresh;
        pending =
            subst (λ (n : ℕ). Pending (Glimpse n (reverse c.args.self.now.lines.now)) c.args.self.now.lines.now (c.args.self.now.place + 1)
            (meets (machine_cut n (turn_end (before c.args.self.now.lines.now (c.args.self.now.place + 1))
            (drop (c.args.self.now.place + 1) c.args.self.now.lines.now)))) c.judge.new.wanted.items) (sym osts)
            (pending_next lines k l inside is p.history.osts (reverse lines) p.sightings p.counts p.wanted.items c.judge.new.wanted.items
            made c.requires.shown.seen (kept.counted k inside l) kept.fresh c.requires.shown.done kept.pending);
      };
      seen =
          subst (λ (n : ℕ). SeenOver c.hear.new.sightings c.args.self.now.counts n
          (λ client slot. earlier client slot (before c.args.self.now.lines.now (c.args.self.now.place + 1)))
          (before c.args.self.now.lines.now (c.args.self.now.place + 1))) (sym osts)
          (seen_next lines k l inside is p.sightings c.hear.new.sightings kept.below heard p.counts p.history.osts c.requires.shown.seen);
    }
