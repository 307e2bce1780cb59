-- The word is met by what is counted.
use Rattle.std.proofs.Common.{◌∙◌, ◌&&◌, nat_le, length, filter, ap}
use Rattle.lu_spec_entries.specs.Words.{same_life}
use Rattle.lu_spec_target.specs.Windows.{Window, has_all, is_back}
use Rattle.lu_window.specs.States.{State}
use Rattle.lu_window.proofs.windows.Window.is_back.Goals as goal

pub returns-in-Some : goal.returns-in-Some
returns-in-Some c =
    let w = c.self.inside in
    let v : Window = record {
      lives = w.members;
      committed = w.committed.0;
      replays = w.requests;
      brought = w.brought;
      words = w.words;
      wishes = w.wishes;
    } in
    c.is_met_by.ensures
    ∙ ap (λ n. nat_le c.in-Some.word.now.replays c.count.result && nat_le c.in-Some.word.now.locks n) c.count-in-Some.ensures
    ∙ ap (λ n. nat_le c.in-Some.word.now.replays n && nat_le c.in-Some.word.now.locks
    (length (filter (λ lock. same_life lock.ask.who c.args.who) w.brought))) c.count.ensures
    ∙ ap (has_all v c.args.who) c.in-Some.ensures
    ∙ ap (λ (s : State). is_back s.window c.args.who) c.self.view_is
