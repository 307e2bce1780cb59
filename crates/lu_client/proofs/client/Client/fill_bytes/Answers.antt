use Rattle.std.proofs.Common.{◌≡◌, ◌==◌, true, min, [], ◌∷◌, length, sym, ap, subst, ◌∙◌, arith}
use Rattle.std.proofs.lemmas.Bool.Decides.{nat_tests}
use Rattle.std.proofs.lemmas.Result.{on_ok_weaker}
use Rattle.lu_spec_machine.specs.Places.{end_of}
use Rattle.lu_spec_entries.specs.Words.{Fills}
use Rattle.lu_spec_client.specs.Caches.{bytes_at}
use Rattle.lu_client.specs.Clients.{ClientState, Makes, state_of, with_store}
use Rattle.lu_client.proofs.Answering.{fills_none, fills_some}
use Rattle.lu_client.proofs.client.Client.fill_bytes.Goals as goal

pub returns-then-is_empty : goal.returns-then-is_empty
returns-then-is_empty c =
    let old : ClientState = state_of c.self.inside.osts c.self.inside.flight c.self.inside.dirty c.self.inside.who
    c.self.inside.handles.items c.self.inside.calls.items c.self.inside.imports.items c.self.inside.store c.self.inside.spent in
    let none : (length c.args.bytes.now == 0) ≡ true = sym c.if-is_empty.ensures in
    let empty : length c.args.bytes.now ≡ 0 = grind (arith, nat_tests, none) in
    let low : c.min.result ≡ min c.args.at (end_of (bytes_at c.args.resource old.client.store.bytes)) =
    c.min.ensures ∙ ap (min c.args.at) (c.known_end-end.ensures.end
    ∙ sym (ap (λ (s : ClientState). end_of (bytes_at c.args.resource s.client.store.bytes)) c.self.view_is)) in
    record {
      makes = on_ok_weaker c.fill.result
          (λ filled turn. subst (λ (s : ClientState). Makes (λ k. Fills c.args.resource c.args.at c.args.bytes.now ∷ []) s
          (with_store c.fill.new.self old) turn turn) c.self.view_is
          (fills_none c.args.resource c.args.at c.min.result c.args.bytes.now old c.fill.new.self turn empty low filled))
          c.fill.ensures.filled;
    }

pub returns : goal.returns
returns c =
    let old : ClientState = state_of c.self.inside.osts c.self.inside.flight c.self.inside.dirty c.self.inside.who
    c.self.inside.handles.items c.self.inside.calls.items c.self.inside.imports.items c.self.inside.store c.self.inside.spent in
    record {
      makes = on_ok_weaker c.fill-2.result
          (λ filled turn. subst (λ (s : ClientState). Makes (λ k. Fills c.args.resource c.args.at c.args.bytes.now ∷ []) s
          (with_store c.fill-2.new.self old) turn turn) c.self.view_is
          (fills_some c.args.resource c.args.at c.args.bytes.now old c.fill-2.new.self turn filled))
          c.fill-2.ensures.filled;
    }
