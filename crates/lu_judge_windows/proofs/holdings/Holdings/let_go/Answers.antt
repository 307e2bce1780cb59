-- What was named is taken out of the lists where it stands.
use Rattle.std.proofs.Common.{◌≡◌, ◌∙◌, sym, ap, refl, true, false, not, Option, Some, None}
use Rattle.std.specs.Prelude.{filter}
use Rattle.std.specs.Option.{option_map}
use Rattle.lu_spec_laws.specs.Words.Held.{Held, is_held_by}
use Rattle.lu_judge_pass.proofs.Shown.{taken}
use Rattle.lu_judge_windows.specs.Lists.{listed}
use Rattle.lu_judge_windows.specs.Shown.{same_two, same_three, is_write}
use Rattle.lu_judge_windows.proofs.Keys.{at_two, at_three}
use Rattle.lu_judge_windows.proofs.Shows.{let_go}
use Rattle.lu_judge_windows.proofs.holdings.Holdings.let_go.Goals as goal

pub returns-then-is_write-clause-shows : goal.returns-then-is_write-clause-shows
returns-then-is_write-clause-shows c =
    let write : is_write c.in-Some.lock.now ≡ true = sym c.is_write.ensures ∙ c.if-is_write.true in
    let without = filter (λ (h : Held). not (is_held_by c.args.who c.args.target c.args.cookie.0 h)) in
    let_go c.args.self.now _ c.args.who c.args.target c.args.cookie.0 (Some c.in-Some.lock.now) (record {
      is = sym (ap (option_map (λ lock. lock.now)) c.remove.ensures.value) ∙ ap (option_map (λ lock. lock.now)) c.in-Some.is;
      names = λ other v d. taken (λ lock. lock.now) _ _ _ _ (c.remove.ensures.updates.0 ((v, d), (other.client, other.life))) refl;
      resources = λ v resource. at_three (listed same_three c.args.self.now.by_resource) without _ (v, (resource.fid.0, resource.stripe)) _
          (c.remove-in-Some.ensures.removed (v, (resource.fid.0, resource.stripe)));
      writers = λ other. rw write (at_two (listed same_two c.args.self.now.writers) without _ (other.client, other.life) _
          (c.remove-then-is_write.ensures.removed (other.client, other.life)));
    })

pub returns-else-is_write-clause-shows : goal.returns-else-is_write-clause-shows
returns-else-is_write-clause-shows c =
    let write : is_write c.in-Some.lock.now ≡ false = sym c.is_write.ensures ∙ c.if-is_write.false in
    let without = filter (λ (h : Held). not (is_held_by c.args.who c.args.target c.args.cookie.0 h)) in
    let_go c.args.self.now _ c.args.who c.args.target c.args.cookie.0 (Some c.in-Some.lock.now) (record {
      is = sym (ap (option_map (λ lock. lock.now)) c.remove.ensures.value) ∙ ap (option_map (λ lock. lock.now)) c.in-Some.is;
      names = λ other v d. taken (λ lock. lock.now) _ _ _ _ (c.remove.ensures.updates.0 ((v, d), (other.client, other.life))) refl;
      resources = λ v resource. at_three (listed same_three c.args.self.now.by_resource) without _ (v, (resource.fid.0, resource.stripe)) _
          (c.remove-in-Some.ensures.removed (v, (resource.fid.0, resource.stripe)));
      writers = λ other. rw write refl;
    })

pub returns-in-None-clause-shows : goal.returns-in-None-clause-shows
returns-in-None-clause-shows c =
    let_go c.args.self.now _ c.args.who c.args.target c.args.cookie.0 None (record {
      is = sym (ap (option_map (λ lock. lock.now)) c.remove.ensures.value) ∙ ap (option_map (λ lock. lock.now)) c.in-None.is;
      names = λ other v d. taken (λ lock. lock.now) _ _ _ _ (c.remove.ensures.updates.0 ((v, d), (other.client, other.life))) refl;
      resources = λ v resource. refl;
      writers = λ other. refl;
    })
