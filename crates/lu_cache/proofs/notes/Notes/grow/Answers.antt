-- Each note of the object is changed in its place.
use Rattle.std.proofs.Common.{◌≡◌, ap, sym, subst, ◌∙◌, rules}
use Rattle.lu_spec_client.specs.Caches.{grown_notes}
use Rattle.lu_cache.proofs.Pairs.{map_pairs}
use Rattle.lu_cache.specs.Kept.{notes_of, grown_one, AreNoted}
use Rattle.lu_cache.proofs.Noting.{Log, grown_log, grown_notes_of, noted_grown}
use Rattle.lu_cache.proofs.notes.Notes.grow.Goals as goal

pub invariant_of-self : goal.invariant_of-self
invariant_of-self c =
    let log = c.self.inside.log.entries in
    let made : c.retain.new.self.entries ≡ grown_log c.args.resource c.args.change.now log =
    map_pairs _ (λ k v. grown_one c.args.resource c.args.change.now v) _ (λ k v b w f' t. search rules) _ _ c.retain.ensures.filtered in
    subst (λ (l : Log). AreNoted l c.self.inside.objects) (sym made)
    (noted_grown c.args.resource c.args.change.now log c.self.inside.objects c.self.invariant)

pub returns : goal.returns
returns c =
    let log = c.self.inside.log.entries in
    let made : c.retain.new.self.entries ≡ grown_log c.args.resource c.args.change.now log =
    map_pairs _ (λ k v. grown_one c.args.resource c.args.change.now v) _ (λ k v b w f' t. search rules) _ _ c.retain.ensures.filtered in
    record {
      grown = ap notes_of made ∙ grown_notes_of c.args.resource c.args.change.now log
          ∙ ap (grown_notes c.args.resource c.args.change.now) c.self.view_is;
    }
