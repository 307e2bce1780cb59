-- The lockspace finds what the rows find.
use Rattle.std.proofs.Common.{◌≡◌, true, false, Some, None, sym, ap, subst, ◌∙◌, rules}
use Rattle.std.specs.Prelude.{if◌then◌else◌}
use Rattle.lu_spec_entries.specs.Words.{same_life}
use Rattle.lu_lockspace.specs.Spaces.{has, lock_of}
use Rattle.lu_target_refines.proofs.Finding.{of_life, found_granted, found_none}
use Rattle.lu_target_locks.specs.Servers.{ServerState, Shows}
use Rattle.lu_target_locks.proofs.server.LockServer.find.Goals as goal

pub returns-then-not-is_granted : goal.returns-then-not-is_granted
returns-then-not-is_granted c =
    let none : has c.args.cookie.0 c.self.inside.space.granted ≡ false = search rules in
    record {
      lock = λ v s. sym (found_none c.self.inside.space v c.args.who c.args.cookie
          (subst (λ (it : ServerState). Shows it v) (sym c.self.view_is) s).locks none);
    }

pub returns-then-eq : goal.returns-then-eq
returns-then-eq c =
    let there : has c.args.cookie.0 c.self.inside.space.granted ≡ true = search rules in
    let is : lock_of c.args.cookie.0 c.self.inside.space ≡ Some c.in_ok-lock.lock = search rules in
    let own : same_life c.in_ok-lock.lock.ask.who c.args.who ≡ true = search rules in
    record {
      lock = λ v s. sym
          (found_granted c.self.inside.space v c.args.who c.args.cookie
          (subst (λ (it : ServerState). Shows it v) (sym c.self.view_is) s).locks there
          ∙ ap (of_life c.args.who) is ∙ ap (λ b. if b then Some c.in_ok-lock.lock else None) own);
    }

pub returns-else-eq : goal.returns-else-eq
returns-else-eq c =
    let there : has c.args.cookie.0 c.self.inside.space.granted ≡ true = search rules in
    let is : lock_of c.args.cookie.0 c.self.inside.space ≡ Some c.in_ok-lock.lock = search rules in
    let own : same_life c.in_ok-lock.lock.ask.who c.args.who ≡ false = search rules in
    record {
      lock = λ v s. sym
          (found_granted c.self.inside.space v c.args.who c.args.cookie
          (subst (λ (it : ServerState). Shows it v) (sym c.self.view_is) s).locks there
          ∙ ap (of_life c.args.who) is ∙ ap (λ b. if b then Some c.in_ok-lock.lock else None) own);
    }
