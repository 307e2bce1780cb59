-- One waiting lock more; and none is left at the end.
use Rattle.std.proofs.Common.{rules, ◌≡◌, ◌+◌, ◌∙◌, [], ◌++◌, drop, get_or, refl, sym, subst, IsPermutation}
use Rattle.std.proofs.lemmas.List.{append-nil}
use Rattle.std.proofs.Math.ListN.{drop_of_length-le}
use Rattle.lu_base.specs.declared.locks.Mode.TheVariants.{EX}
use Rattle.lu_base.specs.declared.locks.Policy.TheVariants.{Bits}
use Rattle.lu_queue.specs.declared.locks.Grant.{Grant}
use Rattle.lu_lockspace.specs.Spaces.{blocking_more, AreBlocking}
use Rattle.lu_lockspace.proofs.Lists.{blocking_step}
use Rattle.lu_lockspace.proofs.listing.blocking.Goals as goal

-- what is read past the end
abbrev none_yet : Grant
none_yet =
    record { cookie = record { 0 = 0 }; ask = record { who = record { client = 0; life = 0 }; mode = EX; policy = Bits 0 } }

pub loop-lock-preserved : goal.loop-lock-preserved
loop-lock-preserved c =
    let e : c.extend_from_slice.new.self.items ≡ c.loop-lock.cookies.items ++ c.in_ok-first.first = search rules in
    λ rest h. subst (λ cs. AreBlocking c.args.granted.now c.args.waiting.now [] (cs ++ rest)) (sym e)
    (blocking_step c.args.granted.now c.args.waiting.now c.loop-lock.lock-index none_yet c.loop-lock.cookies.items c.in_ok-first.first
    c.loop-lock-test.true
    (subst (λ told. IsPermutation (blocking_more (get_or c.args.waiting.now c.loop-lock.lock-index none_yet).ask c.args.granted.now told)
    c.in_ok-first.first) c.deref.ensures.value c.in_ok-first.ensures.same)
    c.in_ok-first.ensures.rising c.loop-lock.invariant rest
    (subst (λ cs. AreBlocking c.args.granted.now (drop (c.loop-lock.lock-index + 1) c.args.waiting.now) cs rest) e h))

pub returns : goal.returns
returns c =
    let none : drop c.loop-lock.lock-index c.args.waiting.now ≡ [] = drop_of_length-le c.args.waiting.now c.loop-lock-test.false in
    let all = c.loop-lock.invariant [] (subst (λ ws. AreBlocking c.args.granted.now ws c.loop-lock.cookies.items []) (sym none) refl) in
    subst (AreBlocking c.args.granted.now c.args.waiting.now []) (append-nil c.loop-lock.cookies.items ∙ sym c.from.ensures) all
