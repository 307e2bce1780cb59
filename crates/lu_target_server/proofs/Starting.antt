-- A server over the store of a run that begins shows the rows' target at the start.
use Rattle.std.proofs.Common.{◌≡◌, ℕ, ◌≤◌, List, [], refl, sym, subst, ◌∙◌, arith}
use Rattle.std.proofs.lemmas.List.Elements.{All-nil}
use Rattle.std.specs.Prelude.{All}
use Rattle.lu_service.specs.declared.services.Kind.{Kind}
use Rattle.lu_service.specs.declared.services.Kind.TheVariants.{Mdt, Ost}
use Rattle.lu_service.specs.Contents.{Contents}
use Rattle.lu_msg.specs.declared.messages.Request.{Request}
use Rattle.lu_spec_target.specs.Phase.{first_of}
use Rattle.lu_spec_target.specs.States.{Setting, Target, started, no_contents}
use Rattle.lu_target_refines.proofs.Names.{shows_below}
use Rattle.lu_target_store.specs.Stores.{StoreState, Serves, HasTaken}
use Rattle.lu_target_redo.specs.Shown as redo
use Rattle.lu_target_invariant.specs.Sound.{IsKindOf, IsSound}
use Rattle.lu_target_invariant.proofs.Closing.{sound_started}
use Rattle.lu_target_server.specs.declared.booting.Place.{Place}
use Rattle.lu_target_server.specs.Booting.{IsStart, IsOver}
use Rattle.lu_target_server.specs.Servers.{ServerState, Shows}

-- no number above 1 was used, and so none above the first one of boot 1
shows_later : (kind : Kind) (osts : ℕ) (own : Contents) → redo.Shows kind osts 1 own no_contents
    → redo.Shows kind osts (first_of 1) own no_contents
shows_later Mdt osts own shows = shows_below osts 2 4294967297 own no_contents (omega (arith)) shows
shows_later Ost osts own shows = (omega (arith, shows.0), shows.1)

pub starts : (place : Place) (kind : Kind) (own : Contents) (store : StoreState) (s : ServerState) (setting : Setting) (clients : ℕ)
    → IsOver place 1 kind own store s → IsStart place kind own setting → Serves store (started setting clients)
    → Shows s (started setting clients)
starts place kind own store s setting clients over is serves =
    let v : Target = started setting clients in
    record {
      id = is.id ∙ sym over.id;
      kind = subst (λ n. IsKindOf n s.kind) (sym over.id) (subst (λ k. IsKindOf place.id.0 k) (sym over.sort) is.sort);
      expire = is.expire ∙ sym over.expire;
      boot = sym over.booted;
      store = subst (λ (st : StoreState). Serves st v) (sym over.stored) serves;
      locks = over.locks v (record {
        granted = refl;
        waiting = refl;
        called = refl;
        glimpses = refl;
        boots = refl;
        cookie = refl;
        ticks =
            refl;
      });
      contents =
          subst (λ k. redo.Shows k setting.osts (first_of 1) s.contents no_contents) (sym over.sort)
          (subst (λ c. redo.Shows kind setting.osts (first_of 1) c no_contents) (sym over.contents)
          (shows_later kind setting.osts own is.contents));
      requests = sym over.requests;
      taken = subst (λ (rs : List Request). All (λ r. HasTaken r.who r.tag s.store) rs) (sym over.requests)
          (All-nil (λ (r : Request). HasTaken r.who r.tag s.store));
      sound = subst (λ k. IsSound k v) (sym over.sort) (sound_started kind setting clients);
    }
