-- The resources on which a lock waits, in their order.
use Rattle.std.proofs.Common.{◌≡◌, Bool, true, false, cond, [], ◌∷◌, map, filter, refl, sym, ◌∙◌, ap, arith}
use Rattle.std.specs.Prelude.{AllPairs}
use Rattle.std.specs.List.{AllByRecursion}
use Rattle.std.specs.Map.{keys_of}
use Rattle.std.specs.declared.cmp.Ordering.TheVariants.{Less}
use Rattle.std.proofs.lemmas.Bool.Decides.{nat_tests}
use Rattle.std.proofs.lemmas.Grind.{common_steps}
use Rattle.std.proofs.lemmas.List.Elements.{All-from_recursion}
use Rattle.std.proofs.lemmas.List.Kept.{AllPairs-cons}
use Rattle.std.proofs.lemmas.Map.Keys.{sorted_head, sorted_tail}
use Rattle.lu_base.specs.declared.locks.Resource.{Resource}
use Rattle.lu_queue.specs.Queues as queue
use Rattle.lu_lockspace.specs.Spaces.{some_waits, IsLower, AreWaitedOn}
use Rattle.lu_lockspace.specs.Entries.{Entries, order, all_of, waited_on, AreRising}
use Rattle.lu_lockspace.proofs.Kept.{listed}
use Rattle.lu_lockspace.proofs.Resources.{queue_at}

lower : (a b : Resource) → order a b ≡ Less → IsLower a b
lower a b h = grind (arith, nat_tests, common_steps, h)

-- one of some entries is above what all of them are above
kept_above : (r : Resource) (es : Entries) → AllByRecursion (λ s. order r s ≡ Less) (keys_of es) → AllByRecursion (IsLower r) (waited_on es)
kept_above r [] h = tt
kept_above r (e ∷ es) h = by (some_waits e.1) (kept_above r es h.1) where
  by : (v : Bool) → AllByRecursion (IsLower r) (waited_on es) → AllByRecursion (IsLower r)
      (map (λ f. f.0) (cond v (e ∷ filter (λ f. some_waits f.1) es) (filter (λ f. some_waits f.1) es)))
  by true rest = (lower r e.0 h.0, rest)
  by false rest = rest

each_lower : (es : Entries) → AreRising es → AllPairs IsLower (waited_on es)
each_lower [] up = λ i j d less within. absurd (omega arith)
each_lower (e ∷ es) up = by (some_waits e.1) (each_lower es (sorted_tail order e.0 (keys_of es) up)) where
  head : AllByRecursion (IsLower e.0) (waited_on es)
  head = kept_above e.0 es (sorted_head order e.0 (keys_of es) up)

  by : (v : Bool) → AllPairs IsLower (waited_on es) → AllPairs IsLower
      (map (λ f. f.0) (cond v (e ∷ filter (λ f. some_waits f.1) es) (filter (λ f. some_waits f.1) es)))
  by true rest = AllPairs-cons IsLower e.0 (waited_on es) (All-from_recursion (IsLower e.0) (waited_on es) head) rest
  by false rest = rest

pub none_waits : some_waits queue.empty ≡ false
unfolding some_waits
none_waits = refl

pub are_waited_on : (es : Entries) → AreRising es → AreWaitedOn (all_of es) (waited_on es)
are_waited_on es up = record {
  rising = each_lower es up;
  every = λ r. listed some_waits none_waits r es up ∙ ap some_waits (sym (queue_at r es up));
}
