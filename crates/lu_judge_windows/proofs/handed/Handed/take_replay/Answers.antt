use Rattle.std.proofs.Common.{ℕ, ◌+◌, Bool, ◌∷◌, ap, subst, sym, ◌∙◌}
use Rattle.std.specs.Prelude.{◌&&◌, ◌||◌, if◌then◌else◌}
use Rattle.lu_msg.specs.declared.messages.Message.TheVariants.{Replay}
use Rattle.lu_spec_machine.specs.Tree.{same_life}
use Rattle.lu_judge_windows.specs.declared.counted.Counted.{Counted}
use Rattle.lu_judge_windows.specs.Counted.{count_of, is_within}
use Rattle.lu_judge_windows.specs.Handed.{is_back_in, ShowsHanded}
use Rattle.lu_judge_windows.proofs.Tests.{was_there, was_absent}
use Rattle.lu_judge_windows.proofs.SilentMessages.{silent_shown, known_replay}
use Rattle.lu_judge_windows.proofs.HandedLines.{replay_shown}
use Rattle.lu_judge_windows.proofs.handed.Handed.take_replay.Goals as goal

pub returns-then-not-is_new : goal.returns-then-not-is_new
returns-then-not-is_new c = record {
  shows = λ handed shown.
      subst (λ (x : Counted). ShowsHanded (record c.args.self.now { replays = x }) c.args.replay.now.boot
      (Replay c.args.replay.now ∷ handed)) (sym (c.in_ok-is_new.ensures.same c.if-not-is_new.true))
      (silent_shown c.args.self.now c.args.replay.now.boot (Replay c.args.replay.now) handed shown
      (known_replay c.args.self.now c.args.replay.now handed shown (was_there _ _ c.in_ok-is_new.ensures.new c.if-not-is_new.true)));
}

pub returns : goal.returns
returns c = record {
  shows = λ handed shown.
      let t = c.args.self.now in
      let r = c.args.replay.now in
      replay_shown t c.note_back.new.self r handed shown (was_absent _ _ c.in_ok-is_new.ensures.new c.if-not-is_new.false) c.add.new.self
      c.in_ok-note_back.ensures.others c.in_ok-is_new.ensures.members
      (λ w. c.in_ok-is_new.ensures.counts w ∙ ap (λ (b : Bool). if b && same_life r.who w then count_of t.replays w + 1
      else count_of t.replays w) c.if-not-is_new.false)
      (λ w.
      c.in_ok-note_back.ensures.back w
      ∙ ap (λ (b : Bool). (b && same_life r.who w) || is_back_in t w)
      (c.is_within-is_back.ensures.within ∙ ap (λ (k : ℕ). is_within t.by_replays r.who k c.count-locks.result)
      c.count-replays.ensures.count ∙ ap (λ (k : ℕ). is_within t.by_replays r.who (count_of c.add.new.self r.who) k)
      c.count-locks.ensures.count));
}
