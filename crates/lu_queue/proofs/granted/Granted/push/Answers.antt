-- The locks in rising cookie are the same, with the new one among them.
use Rattle.std.proofs.Common.{◌≡◌, [], ◌∷◌, ◌++◌, sym, subst, rules}
use Rattle.lu_queue.specs.Queues.{IsInOrder}
use Rattle.lu_queue.proofs.Lists.{in_order_with}
use Rattle.lu_queue.proofs.granted.Granted.push.Goals as goal

pub invariant_of-self-2 : goal.invariant_of-self-2
invariant_of-self-2 c =
    let lock = c.args.lock in
    let order : IsInOrder (c.self.inside.rising.items ++ lock ∷ []) c.in_ok-rising.rising.items =
    subst (λ xs. IsInOrder (xs ++ lock ∷ []) c.in_ok-rising.rising.items) c.deref.ensures.value c.in_ok-rising.ensures in
    let more : c.push.new.self.items ≡ c.self.inside.locks.items ++ lock ∷ [] = search rules in
    subst (λ xs. IsInOrder xs c.in_ok-rising.rising.items) (sym more)
    (in_order_with c.self.inside.locks.items c.self.inside.rising.items c.in_ok-rising.rising.items lock c.self.invariant order)
