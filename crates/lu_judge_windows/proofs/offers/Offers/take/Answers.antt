use Rattle.std.proofs.Common.{◌≡◌, [], ◌∷◌, subst, sym, List, Option, Some}
use Rattle.lu_msg.specs.declared.messages.Message.{Message}
use Rattle.lu_judge_windows.specs.declared.handed.Handed.{Handed}
use Rattle.lu_judge_windows.specs.Offers.{ShowsOffer}
use Rattle.lu_judge_windows.proofs.offers.Offers.take.Goals as goal

pub returns-in_ok-insert-in-None : goal.returns-in_ok-insert-in-None
returns-in_ok-insert-in-None c =
    let updates = c.in_ok-insert-in-None.ensures.updates in
    record {
      taken = λ messages shown.
          let none : messages ≡ [] = subst (λ (o : Option Handed). ShowsOffer o c.args.boot messages) (sym c.in-None.ensures.value) shown in
          subst (λ (o : Option Handed). ShowsOffer o c.args.boot (c.args.message.now ∷ messages)) (sym updates.1)
          (subst (λ (ms : List Message). ShowsOffer (Some c.take-in-None.new.self) c.args.boot (c.args.message.now ∷ ms)) (sym none)
          (c.in_ok-take-in-None.ensures.shows [] (c.new-here.ensures.shows c.args.boot)));
      others = λ t apart. rw (← c.get_mut.follows.holds-at-none) (updates.2 t apart);
    }
