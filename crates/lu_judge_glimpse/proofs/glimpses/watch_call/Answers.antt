use Rattle.std.proofs.Common.{ℕ, ◌<◌, ◌∙◌, ap, sym, subst}
use Rattle.std.specs.Prelude.{◌==◌, ◌&&◌, if◌then◌else◌, Option, Some, None}
use Rattle.std.specs.Option.{option_map}
use Rattle.lu_judge_calls.specs.Tables.{begun_of}
use Rattle.lu_judge_glimpse.specs.Begins.{begun_place, count_in}
use Rattle.lu_judge_glimpse.specs.declared.glimpses.Watch.{Watch}
use Rattle.lu_judge_glimpse.specs.Shown.{watch_at}
use Rattle.lu_judge_glimpse.proofs.Watches.{began_is}
use Rattle.lu_judge_glimpse.proofs.glimpses.watch_call.Goals as goal

pub returns-in_ok-insert : goal.returns-in_ok-insert
returns-in_ok-insert c = record {
  watched = λ past shown c' s.
      let place = begun_place c.args.client c.args.slot past in
      let counted = c.get-count.ensures.count ∙ ap (count_in c.args.counts.now)
      (c.get.ensures.place ∙ shown.begins c.args.client c.args.slot) in
      c.in_ok-insert.ensures.updates.0 (c', s)
      ∙ ap (λ (o : Option Watch). if c.args.client == c' && c.args.slot == s then o else watch_at c.args.standing.now c' s)
      (ap (λ (n : ℕ). Some (record { fid = c.in-Some-file_of.fid; count = n })) counted
      ∙ sym (began_is c.args.counts.now (begun_place c.args.client c.args.slot past) (watch_at c.args.standing.now c' s)
      c.in-Some-file_of.fid _ (begun_of c.in-Some.begun)
      (sym (c.call.ensures.call past shown.calls) ∙ ap (option_map begun_of) c.in-Some.is)
      (sym c.file_of.ensures ∙ c.in-Some-file_of.is)
      (subst (λ (n : ℕ). 0 < n) counted c.if-count-gt0.true)));
}
