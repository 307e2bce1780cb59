-- One lock more is named, and stands in the lists where it belongs.
use Rattle.std.proofs.Common.{◌≡◌, ◌∙◌, sym, ap, refl, true, false, Option, Some, None, List, [], ◌∷◌, ◌++◌}
use Rattle.lu_spec_laws.specs.Words.Held.{Held}
use Rattle.lu_judge_pass.proofs.Shown.{put}
use Rattle.lu_judge_windows.specs.Lists.{held_of, listed}
use Rattle.lu_judge_windows.specs.Shown.{same_two, same_three, is_write}
use Rattle.lu_judge_windows.proofs.Keys.{at_two, at_three}
use Rattle.lu_judge_windows.proofs.Shows.{put_more}
use Rattle.lu_judge_windows.proofs.holdings.Holdings.put.Goals as goal

pub returns-then-not-is_write : goal.returns-then-not-is_write
returns-then-not-is_write c =
    let h = held_of c.args.holding in
    let write : is_write h.lock ≡ false = sym c.is_write.ensures ∙ c.if-not-is_write.true in
    let more = λ (list : List Held). list ++ h ∷ [] in
    record {
      shows = put_more c.args.self.now _ h (record {
        names = λ other v d. put (λ lock. lock.now) _ _ _ _ _ (c.in_ok-insert.ensures.updates.0 ((v, d), (other.client, other.life))) refl;
        resources = λ v resource. at_three (listed same_three c.args.self.now.by_resource) more _ (v, (resource.fid.0, resource.stripe)) _
            (c.in_ok-add.ensures.added (v, (resource.fid.0, resource.stripe)));
        writers = λ other. rw write refl;
      });
    }

pub returns : goal.returns
returns c =
    let h = held_of c.args.holding in
    let write : is_write h.lock ≡ true = sym c.is_write.ensures ∙ c.if-not-is_write.false in
    let more = λ (list : List Held). list ++ h ∷ [] in
    record {
      shows = put_more c.args.self.now _ h (record {
        names = λ other v d. put (λ lock. lock.now) _ _ _ _ _ (c.in_ok-insert.ensures.updates.0 ((v, d), (other.client, other.life))) refl;
        resources = λ v resource. at_three (listed same_three c.args.self.now.by_resource) more _ (v, (resource.fid.0, resource.stripe)) _
            (c.in_ok-add.ensures.added (v, (resource.fid.0, resource.stripe)));
        writers = λ other. rw write (at_two (listed same_two c.args.self.now.writers) more _ (other.client, other.life) _
            (c.in_ok-add-2.ensures.added (other.client, other.life)));
      });
    }
