use Rattle.std.proofs.Common.{◌≡◌, ◌∷◌, ◌∙◌, sym, drop, subst}
use Rattle.lu_call.specs.Ranges.{IsWork}
use Rattle.lu_call.specs.Views.{work_of}
use Rattle.lu_call.proofs.Reaching.{front_is, reached_more, using_sound}
use Rattle.lu_call.proofs.calls.CallState.look.Goals as goal

pub loop-wanted-preserved : goal.loop-wanted-preserved
loop-wanted-preserved c =
    let first : c.loop-wanted.work.left.items ≡ c.in-Some.wanted ∷ drop 1 c.loop-wanted.work.left.items =
    front_is c.loop-wanted.work.left.items c.front.result c.in-Some.wanted c.front.ensures.item (sym c.copied.ensures ∙ c.in-Some.is) in
    record {
      sound = subst IsWork (sym c.in_ok-take_up.ensures.used) (using_sound c.in-Some.wanted c.in-Some-serving.lock
          (drop 1 c.loop-wanted.work.left.items) (work_of c.loop-wanted.work) first c.loop-wanted.invariant.sound);
      reached = reached_more c.in-Some.wanted c.in-Some-serving.lock c.loop-wanted.invariant.reached first
          (sym c.serving.ensures.serving ∙ c.in-Some-serving.is) c.in_ok-take_up.ensures.pinned c.in_ok-take_up.ensures.used
          c.in_ok-take_up.ensures.store;
    }
