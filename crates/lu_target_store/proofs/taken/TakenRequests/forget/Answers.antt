-- What is kept is what is of other lives.
use Rattle.std.proofs.Common.{◌≡◌, not, filter, subst, rules}
use Rattle.lu_spec_target.specs.Lives.{is_life}
use Rattle.std.proofs.lemmas.Map.Made.{filter_same_pairs}
use Rattle.lu_target_refines.specs.Journals.{IsWithout}
use Rattle.lu_target_store.specs.Taken.{taken_of}
use Rattle.lu_target_store.proofs.Without.{without}
use Rattle.lu_target_store.proofs.taken.TakenRequests.forget.Goals as goal

pub returns : goal.returns
returns c =
    let kept : c.retain.new.self.entries ≡ filter (λ e. not (is_life e.0.0 c.args.lives.now)) c.self.inside.by_tag.entries =
    filter_same_pairs _ (λ e. not (is_life e.0.0 c.args.lives.now)) _ (λ k v b w f' t. search rules) _ _ c.retain.ensures.filtered in
    record {
      without = subst (λ old. IsWithout c.args.lives.now (taken_of old) (taken_of c.retain.new.self.entries)) c.self.view_is
          (without c.args.lives.now c.self.inside.by_tag.entries c.retain.new.self.entries kept);
    }
