-- A life whose word hadn't come wasn't back.
use Rattle.std.proofs.Common.{◌≡◌, ◌∙◌, ◌&&◌, Bool, true, false, not, ap, sym, refl, rules, tests}
use Rattle.lu_spec_target.specs.Windows.{Window, has_all, is_back}
use Rattle.lu_window.specs.States.{State}
use Rattle.lu_window.proofs.Maps.{word_none}
use Rattle.lu_window.proofs.windows.Window.word.Goals as goal

and_not : (b old : Bool) → old ≡ false → b ≡ (b && not old)
and_not true old e = rw e refl
and_not false old e = refl

pub returns-clause-back : goal.returns-clause-back
returns-clause-back c =
    let off : c.has.result ≡ false = search (rules, tests) in
    let none = word_none c.args.who c.self.inside.words (sym c.has.ensures ∙ off) in
    let w = c.self.inside in
    let v : Window = record {
      lives = w.members;
      committed = w.committed.0;
      replays = w.requests;
      brought = w.brought;
      words = w.words;
      wishes = w.wishes;
    } in
    let before : is_back c.args.self.now.window c.args.who ≡ false =
    sym (ap (λ (s : State). is_back s.window c.args.who) c.self.view_is) ∙ ap (has_all v c.args.who) none in
    c.is_back.ensures ∙ and_not _ _ before
