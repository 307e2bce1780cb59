-- The four lists of lines after one another.
use Rattle.std.proofs.Common.{◌≡◌, ℕ, sym, ap, subst}
use Rattle.std.proofs.lemmas.Result.{on_ok_weaker}
use Rattle.lu_target_store.specs.Stores.{Serves}
use Rattle.lu_target_server.specs.Closing.{evict_line, stays_line, joined_line, lines}
use Rattle.lu_spec_entries.specs.Given.{giving}
use Rattle.lu_target_server.specs.Servers.{ServerState}
use Rattle.lu_target_server.proofs.Itemwise.{four_lines}
use Rattle.lu_target_server.proofs.server.Server.tell_close.Goals as goal

pub returns : goal.returns
returns g c = record {
  told = on_ok_weaker c.tell_all_joined.result
      (λ told v serves.
      let boot : c.self.inside.boot ≡ c.args.self.now.boot = ap (λ (s : ServerState). s.boot) c.self.view_is in
      let number : c.last_committed-committed.result.0 ≡ v.committed =
      c.last_committed-committed.ensures.serving v (subst (λ (s : ServerState). Serves s.store v) (sym c.self.view_is) serves) in
      four_lines c.args.self.now.boot v.committed c.args.lives.now c.args.gone.now c.args.evicted.now c.args.standing.now c.args.joins.now
      c.last_committed-committed.result.0 c.args.turn.now
      c.note_restored.new.turn c.tell_all_gone.new.turn c.tell_all_stay.new.turn c.tell_all_joined.new.turn number
      c.in_ok-note_restored.ensures.told
      (subst (λ (n : ℕ). c.tell_all_gone.new.turn ≡ giving c.note_restored.new.turn (lines (evict_line n) c.args.evicted.now)) boot
      c.in_ok-tell_all_gone.ensures.told)
      (subst (λ (n : ℕ). c.tell_all_stay.new.turn ≡ giving c.tell_all_gone.new.turn
      (lines (stays_line c.args.gone.now n c.last_committed-committed.result.0) c.args.lives.now)) boot
      c.in_ok-tell_all_stay.ensures.told)
      (subst (λ (n : ℕ). c.tell_all_joined.new.turn ≡ giving c.tell_all_stay.new.turn
      (lines (joined_line n c.last_committed-committed.result.0) c.args.joins.now)) boot told))
      c.tell_all_joined.ensures.told;
}
