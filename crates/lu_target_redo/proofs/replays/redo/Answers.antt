-- One replay more is done again, and in the end all are.
use Rattle.std.proofs.Common.{◌≡◌, [], ◌∷◌, ◌++◌, List, length, map, sym, ap, subst, ◌∙◌, rules}
use Rattle.std.proofs.lemmas.List.{nil_from_length}
use Rattle.std.specs.Vec.Iter.{into_iter_items}
use Rattle.lu_spec_entries.specs.Carried.{Deed}
use Rattle.lu_target_refines.specs.Contents.{transaction_again}
use Rattle.lu_target_refines.specs.Journals.{AreRising}
use Rattle.lu_window.specs.declared.outcomes.KeptReplay.{KeptReplay}
use Rattle.lu_window.specs.Shown.{kept_replay}
use Rattle.lu_target_redo.specs.declared.deeds.Deed.{Deed as DeedAgain}
use Rattle.lu_target_redo.specs.Shown.{deed_of, transactions_of, AreRepeatable, ShowsDone, AreDeeds}
use Rattle.lu_target_refines.proofs.RisingNumbers.{rising_below}
use Rattle.lu_target_redo.proofs.Runs.{done_more, deeds_none, deeds_more, one_more, no_more}
use Rattle.lu_target_redo.proofs.replays.redo.Goals as goal

pub loop-replay-preserved : goal.loop-replay-preserved
loop-replay-preserved g c =
    let kind = g.S.Service.kind in
    let close = c.args.close in
    let kept = c.in-Some.replay in
    let r = kept_replay kept in
    let rest = into_iter_items c.next.new.self in
    let own = g.S.Service.contents c.loop-replay.service in
    let next = g.S.Service.contents c.redo_one.new.service in
    let so_far = c.loop-replay.invariant in
    let d = deed_of c.in_ok-deed.deed in
    let left : into_iter_items c.loop-replay.replay-iterator ≡ kept ∷ rest = search rules in
    let repeatable : AreRepeatable kind (transactions_of (kept ∷ rest)) =
    subst (λ (them : List KeptReplay). AreRepeatable kind (transactions_of them)) left so_far.repeatable in
    let rising : AreRising own.last (transactions_of (kept ∷ rest)) =
    subst (λ (them : List KeptReplay). AreRising own.last (transactions_of them)) left so_far.rising in
    let pushed : c.push.new.self ≡ c.loop-replay.deeds ++ c.in_ok-deed.deed ∷ [] = search rules in
    record {
      can_next = tt;
      is_finite = tt;
      count = search rules;
      repeatable = repeatable.1;
      rising = rising_below next.last r.number (transactions_of rest) c.in_ok-deed.ensures.last rising.1;
      deeds = λ more are.
          subst (λ (all : List Deed). AreDeeds kind close (map kept_replay (into_iter_items c.into_iter-replay-iterator.result))
          (g.S.Service.contents c.args.service.now) all) (sym
          (ap (λ (done : List DeedAgain). map deed_of done ++ more) pushed ∙ one_more c.loop-replay.deeds c.in_ok-deed.deed more))
          (so_far.deeds (d ∷ more) (subst (λ (them : List KeptReplay). AreDeeds kind close (map kept_replay them) own (d ∷ more)) (sym left)
          (deeds_more kind close r (map kept_replay rest) own next d more c.in_ok-deed.ensures.deed c.in_ok-deed.ensures.shows are)));
      shows = λ new more.
          so_far.shows new (subst (λ (them : List KeptReplay). ShowsDone kind (transactions_of them) own new) (sym left)
          (done_more kind (transaction_again r) (transactions_of rest) own next new c.in_ok-deed.ensures.shows more));
    }

pub returns-clause-deeds : goal.returns-clause-deeds
returns-clause-deeds g c =
    let kind = g.S.Service.kind in
    let close = c.args.close in
    let own = g.S.Service.contents c.loop-replay.service in
    let no_count : length (into_iter_items c.loop-replay.replay-iterator) ≡ 0 = search rules in
    let ended : into_iter_items c.loop-replay.replay-iterator ≡ [] =
    nil_from_length (into_iter_items c.loop-replay.replay-iterator) no_count in
    let whole : into_iter_items c.into_iter-replay-iterator.result ≡ c.args.kept = search rules in
    subst (λ (them : List KeptReplay). AreDeeds kind close (map kept_replay them) (g.S.Service.contents c.args.service.now)
    (map deed_of c.loop-replay.deeds)) whole
    (subst (λ (all : List Deed). AreDeeds kind close (map kept_replay (into_iter_items c.into_iter-replay-iterator.result))
    (g.S.Service.contents c.args.service.now) all) (no_more (map deed_of c.loop-replay.deeds))
    (c.loop-replay.invariant.deeds [] (subst (λ (them : List KeptReplay). AreDeeds kind close (map kept_replay them) own []) (sym ended)
    (deeds_none kind close own))))
