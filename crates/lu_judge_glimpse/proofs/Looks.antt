-- What is seen after a line: nothing where the trace goes on, and else the objects of the files that are watched.
use Rattle.std.proofs.Common.{◌≡◌, ℕ, ◌+◌, ◌-◌, ◌<◌, true, false, length, arith, sym, subst, ◌∙◌}
use Rattle.std.specs.Prelude.{reverse}
use Rattle.std.specs.HashMap.{values}
use Rattle.lu_base.specs.declared.ids.Fid.{Fid}
use Rattle.lu_spec_laws.specs.Words.Glimpses.{machine_cut}
use Rattle.lu_spec_laws.specs.Laws.Glimpse.{Glimpse}
use Rattle.lu_judge_glimpse.specs.declared.histories.History.{History}
use Rattle.lu_judge_glimpse.specs.declared.sightings.Sightings.{Sightings}
use Rattle.lu_judge_glimpse.specs.Histories.{ShowsHistory}
use Rattle.lu_judge_glimpse.specs.Sightings.{last_in}
use Rattle.lu_judge_glimpse.proofs.Put.{before_length}
use Rattle.lu_judge_glimpse.specs.declared.glimpses.Pass.{Pass}
use Rattle.lu_judge_glimpse.specs.Shown.{turn_end, past_of, later_of, Stepped, Looked, Pending, is_cut}
use Rattle.lu_judge_glimpse.specs.Wanted.{meets}
use Rattle.lu_judge_glimpse.specs.Watched.{Below, SeenOver, seen_after, logged, earlier}
use Rattle.lu_judge_glimpse.proofs.TurnEnds.{seen_end, seen_on, below_end, none_logged}

-- the trace goes on
pub looked_on : (p : Pass) → Stepped p → is_cut (past_of p) (later_of p) ≡ false → Looked p
looked_on p stepped on = record {
  kept = stepped.kept;
  seen = seen_on p.history.osts p.counts p.sightings (past_of p) (later_of p) on stepped.seen;
}

back : (n : ℕ) → 0 < n → (n - 1) + 1 ≡ n
back n some = omega (arith, some)

-- it is cut, and no call is watched
pub looked_none : (p : Pass) → Stepped p → 0 < p.place → is_cut (past_of p) (later_of p) ≡ true → length p.standing.entries ≡ 0 → Looked p
looked_none p stepped some cut none = record {
  kept = stepped.kept;
  seen =
      seen_end p.history.osts p.counts p.sightings p.sightings p.standing.entries (p.place - 1) (past_of p) (later_of p)
      (back p.place some ∙ sym (before_length p.lines.now p.place stepped.kept.within)) cut stepped.kept.covers
      (none_logged p.history.osts (past_of p) p.sightings p.standing.entries (p.place - 1) none) stepped.seen;
}

-- it is cut, and the watched files are seen
pub looked_cut : (p : Pass) → Stepped p → 0 < p.place → is_cut (past_of p) (later_of p) ≡ true → (h : History) → h.osts ≡ p.history.osts
    → ShowsHistory h (past_of p) → (s : Sightings)
    → ((f : Fid) (stripe size : ℕ) → last_in s f stripe size ≡ seen_after (machine_cut h.osts (past_of p)) (p.place - 1)
    (logged (values p.standing) f stripe) f stripe size (last_in p.sightings f stripe size))
    → Looked (record {
      lines = p.lines;
      place = p.place;
      out = p.out;
      counts = p.counts;
      tables = p.tables;
      history = h;
      sightings = s;
      standing = p.standing;
      wanted = p.wanted;
    })
looked_cut p stepped some cut h osts shows s seen =
    let kept = stepped.kept in
    record {
      kept = record {
        within = kept.within;
        gone = kept.gone;
        counted = kept.counted;
        placed = kept.placed;
        lines_formed = kept.lines_formed;
        formed = kept.formed;
        tables = kept.tables;
        history = shows;
        below =
            subst (λ (n : ℕ). Below s n) (back p.place some)
            (below_end h.osts p.counts p.sightings s p.standing.entries (p.place - 1) (past_of p) seen
            (subst (λ (n : ℕ). Below p.sightings n) (sym (back p.place some)) kept.below));
        covers = kept.covers;
        fresh = kept.fresh;
        pending = subst (λ (n : ℕ). Pending (Glimpse n (reverse p.lines.now)) p.lines.now p.place
            (meets (machine_cut n (turn_end (past_of p) (later_of p)))) p.wanted.items) (sym osts) kept.pending;
      };
      seen =
          seen_end h.osts p.counts p.sightings s p.standing.entries (p.place - 1) (past_of p) (later_of p)
          (back p.place some ∙ sym (before_length p.lines.now p.place kept.within)) cut kept.covers seen
          (subst (λ (n : ℕ). SeenOver p.sightings p.counts n (λ client slot. earlier client slot (past_of p)) (past_of p)) (sym osts)
          stepped.seen);
    }
