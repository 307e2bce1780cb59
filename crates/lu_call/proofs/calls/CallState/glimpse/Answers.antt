-- It asks for the size of the next object, or is told all.
use Rattle.std.proofs.Common.{◌≡◌, [], ◌∷◌, ◌∙◌, drop, sym, None}
use Rattle.lu_call.specs.Views.{work_of}
use Rattle.lu_call.proofs.Glimpsing.{goes_size, goes_sizes}
use Rattle.lu_call.proofs.Reaching.{front_is, front_none}
use Rattle.lu_call.proofs.calls.CallState.glimpse.Goals as goal

pub returns-in-Some : goal.returns-in-Some
returns-in-Some c =
    let first : c.take_sizes.new.left.items ≡ c.in-Some.wanted ∷ drop 1 c.take_sizes.new.left.items =
    front_is c.take_sizes.new.left.items c.front.result c.in-Some.wanted c.front.ensures.item (sym c.copied.ensures ∙ c.in-Some.is) in
    record {
      goes = λ slot. goes_size c.args.at c.args.self.now (work_of c.args.work) c.in-Some.wanted c.in_ok-take_sizes.ensures.glimpsed
          first (c.ask_size.ensures.asks slot c.args.store.now);
    }

pub returns-in-None : goal.returns-in-None
returns-in-None c =
    let none : c.take_sizes.new.left.items ≡ [] =
    front_none c.take_sizes.new.left.items c.front.result c.front.ensures.item (sym c.copied.ensures ∙ c.in-None.is) in
    record {
      goes = λ slot. goes_sizes c.args.at c.args.self.now (work_of c.args.work) c.in_ok-take_sizes.ensures.glimpsed none
          (c.tell.ensures.told slot None);
    }
