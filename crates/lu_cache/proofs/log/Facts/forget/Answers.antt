-- What is filed under the lock goes, fact by fact.
use Rattle.std.proofs.Common.{◌≡◌, ◌==◌, [], List, ℕ, true, false, Some, None, refl, ap, sym, subst, ◌∙◌, filter}
use Rattle.std.specs.Prelude.{unwrap_or}
use Rattle.std.specs.Map.{lookup}
use Rattle.lu_base.specs.declared.ids.Cookie.{Cookie}
use Rattle.lu_spec_machine.specs.Places.{found_at}
use Rattle.lu_cache.specs.declared.facts.Fact.{Fact}
use Rattle.lu_cache.specs.Logs.{Log, facts_of, is_kept, has, numbers_at, same_cookie}
use Rattle.lu_cache.proofs.Forgotten.{NoneUnder, none_under, left}
use Rattle.lu_cache.proofs.Indexed.{indexed_forgotten, filed_under, none_filed_under, same_numbers}
use Rattle.lu_cache.proofs.log.Facts.forget.Goals as goal

pub returns-in_default : goal.returns-in_default
returns-in_default c =
    let log = c.self.inside.log.entries in
    let none : NoneUnder c.args.cookie log = none_filed_under c.args.cookie log c.self.inside.topics c.self.inside.locks.entries
    c.self.invariant (sym c.in_default.ensures.value) in
    record {
      forgotten = left c.args.cookie log log c.self.invariant.rising none refl
          ∙ ap (λ (l : Log). filter (is_kept c.args.cookie.0) (facts_of l)) c.self.view_is;
    }

pub invariant_of-self-2 : goal.invariant_of-self-2
invariant_of-self-2 c =
    let log = c.self.inside.log.entries in
    let locks = c.self.inside.locks.entries in
    let numbers = c.as_slice.result.now in
    let there : lookup (same_cookie c.args.cookie) locks ≡ Some numbers = sym c.in-Some.ensures.value
    ∙ ap (λ ns. Some ns) (sym c.as_slice.ensures.same) in
    let none : NoneUnder c.args.cookie c.forget_each.new.log.entries =
    none_under c.args.cookie numbers log c.forget_each.new.log.entries c.self.inside.topics c.forget_each.new.topics
    (filed_under c.args.cookie log c.self.inside.topics locks numbers c.self.invariant there) c.forget_each.ensures.forgets in
    indexed_forgotten c.args.cookie numbers log c.forget_each.new.log.entries c.self.inside.topics c.forget_each.new.topics locks
    c.remove.new.self.entries c.self.invariant c.forget_each.ensures.forgets none
    (λ d apart. same_numbers c.args.cookie d locks c.remove.new.self.entries (c.remove.ensures.updates.0 d) apart)

pub returns : goal.returns
returns c =
    let log = c.self.inside.log.entries in
    let locks = c.self.inside.locks.entries in
    let numbers = c.as_slice.result.now in
    let there : lookup (same_cookie c.args.cookie) locks ≡ Some numbers = sym c.in-Some.ensures.value
    ∙ ap (λ ns. Some ns) (sym c.as_slice.ensures.same) in
    let none : NoneUnder c.args.cookie c.forget_each.new.log.entries =
    none_under c.args.cookie numbers log c.forget_each.new.log.entries c.self.inside.topics c.forget_each.new.topics
    (filed_under c.args.cookie log c.self.inside.topics locks numbers c.self.invariant there) c.forget_each.ensures.forgets in
    record {
      forgotten = left c.args.cookie log c.forget_each.new.log.entries c.forget_each.ensures.forgets.rising none
          c.forget_each.ensures.forgets.kept ∙ ap (λ (l : Log). filter (is_kept c.args.cookie.0) (facts_of l)) c.self.view_is;
    }
