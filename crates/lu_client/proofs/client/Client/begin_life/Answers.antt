use Rattle.std.proofs.Common.{rules, ◌≡◌, ◌++◌, List, length, take, drop, map, sym, ap, subst, ◌∙◌}
use Rattle.std.specs.Vec.{with_items}
use Rattle.std.proofs.lemmas.List.{length-map, places, with_items_is}
use Rattle.lu_import.specs.Imports.{ImportState, reborn}
use Rattle.lu_spec_entries.specs.Words.{Life}
use Rattle.lu_spec_client.specs.States.{Limits, after}
use Rattle.lu_client_refines.proofs.Lives.{are_reborn}
use Rattle.lu_client.specs.Clients.{ClientState, AreKept, limits_of, state_of}
use Rattle.lu_client.proofs.Evicting.{reborn_client}
use Rattle.lu_client.proofs.Keeping.{kept_imports, kept_store}
use Rattle.lu_client.proofs.client.Client.begin_life.Goals as goal

pub invariant_of-self : goal.invariant_of-self
invariant_of-self c =
    let imports : List ImportState = c.self.inside.imports.items in
    let news : List ImportState = map (reborn c.args.who) imports in
    let limits : Limits = limits_of c.self.inside.osts c.self.inside.flight c.self.inside.dirty c.self.inside.store in
    let lives : c.begin_lives.new.imports ≡ news = c.begin_lives.ensures.lives ∙ ap (map (reborn c.args.who)) c.as_mut_slice.ensures.value
    in
    let put : take c.self.inside.imports.len (c.begin_lives.new.imports ++ drop (length c.begin_lives.new.imports) imports) ≡ news =
    with_items_is c.self.inside.imports c.begin_lives.new.imports (search (rules, places)) ∙ lives in
    subst (λ (is : List ImportState). AreKept c.self.inside.osts c.self.inside.flight c.self.inside.dirty c.args.who
    c.self.inside.calls.items is c.begin_life.new.self) (sym put)
    (kept_store (kept_imports c.self.invariant c.args.who news (length-map imports (reborn c.args.who))
    (are_reborn limits c.self.inside.who c.args.who 0 imports c.self.invariant.kept)) c.begin_life.new.self)

pub returns : goal.returns
returns c =
    let imports : List ImportState = c.self.inside.imports.items in
    let lives : c.begin_lives.new.imports ≡ map (reborn c.args.who) imports = c.begin_lives.ensures.lives
    ∙ ap (map (reborn c.args.who)) c.as_mut_slice.ensures.value in
    let news : List ImportState = (with_items c.self.inside.imports c.begin_lives.new.imports).items in
    let put : news ≡ map (reborn c.args.who) imports = with_items_is c.self.inside.imports c.begin_lives.new.imports
    (search (rules, places)) ∙ lives in
    let new : ClientState = state_of c.self.inside.osts c.self.inside.flight c.self.inside.dirty c.args.who c.clear.new.self.items
    c.self.inside.calls.items news c.begin_life.new.self c.self.inside.spent in
    record {
      begun = subst (λ (s : ClientState). new ≡ record s { client = after s.client (Life c.args.who) }) c.self.view_is
          (reborn_client c.self.inside.osts c.self.inside.flight c.self.inside.dirty c.self.inside.who c.args.who
          c.self.inside.handles.items c.clear.new.self.items c.self.inside.calls.items imports news c.self.inside.store
          c.begin_life.new.self c.self.inside.spent
          c.clear.ensures.items put (c.begin_life.ensures.begun c.args.who));
    }
