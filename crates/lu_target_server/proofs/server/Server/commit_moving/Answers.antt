-- What went to the disk with the lives is the store's.
use Rattle.std.proofs.Common.{◌≡◌, sym, ap, subst, ◌∙◌}
use Rattle.lu_spec_target.specs.Leaving.{last_of}
use Rattle.lu_spec_target.specs.Lives.{lives_of}
use Rattle.lu_spec_target.specs.Outcomes.{outcome_by}
use Rattle.lu_spec_target.specs.Stored.{batch_of}
use Rattle.lu_target_store.specs.Stores.{StoreState, KeepsTakenBut, IsMove, IsClose}
use Rattle.lu_target_server.specs.Servers.{ServerState}
use Rattle.lu_target_server.proofs.Committing.{told_commit}
use Rattle.lu_target_server.proofs.Items.{on_err}
use Rattle.lu_target_server.proofs.server.Server.commit_moving.Goals as goal

pub returns-in_err-note_commit-clause-batches : goal.returns-in_err-note_commit-clause-batches
returns-in_err-note_commit-clause-batches g c =
    let old : c.self.inside.store ≡ c.args.self.now.store = ap (λ (it : ServerState). it.store) c.self.view_is in
    let moved : IsMove c.args.gone.now c.args.come.now c.in-Ok.to c.args.self.now.store c.move_lives.new.self =
    subst (λ (it : StoreState). IsMove c.args.gone.now c.args.come.now c.in-Ok.to it c.move_lives.new.self) old c.in-Ok.ensures.moved in
    let closed : IsClose c.args.gone.now c.args.come.now c.in-Ok.to c.args.self.now.store c.move_lives.new.self =
    subst (λ (it : StoreState). IsClose c.args.gone.now c.args.come.now c.in-Ok.to it c.move_lives.new.self) old c.in-Ok.ensures.closed in
    on_err c.from_residual.result (record {
      serving = λ v shows. (1, moved.batches v shows);
      closing =
          λ v deeds redoes closing. (1, closed.batches v deeds redoes closing);
    })

pub returns-clause-moved : goal.returns-clause-moved
returns-clause-moved g c =
    let old : c.self.inside.store ≡ c.args.self.now.store = ap (λ (it : ServerState). it.store) c.self.view_is in
    let moved : IsMove c.args.gone.now c.args.come.now c.in-Ok.to c.args.self.now.store c.move_lives.new.self =
    subst (λ (it : StoreState). IsMove c.args.gone.now c.args.come.now c.in-Ok.to it c.move_lives.new.self) old c.in-Ok.ensures.moved in
    let closed : IsClose c.args.gone.now c.args.come.now c.in-Ok.to c.args.self.now.store c.move_lives.new.self =
    subst (λ (it : StoreState). IsClose c.args.gone.now c.args.come.now c.in-Ok.to it c.move_lives.new.self) old c.in-Ok.ensures.closed in
    record {
      to = c.in-Ok.to;
      store = moved;
      closed = closed;
      takes = subst (λ (it : StoreState). KeepsTakenBut c.args.gone.now it c.move_lives.new.self) old c.in-Ok.ensures.takes;
      told = λ v shows. told_commit c.in-Ok.to (last_of v.log v.committed) (batch_of v.log c.args.gone.now c.args.come.now) c.args.turn.now
          c.note_commit.new.turn
          (moved.number v shows) c.note_commit.ensures.turn c.in_ok-note_commit.ensures.line;
      told_close = λ v deeds s redoes last. told_commit c.in-Ok.to (outcome_by v deeds s).disk.committed
          (batch_of deeds (lives_of s.gone) s.joins) c.args.turn.now c.note_commit.new.turn
          (closed.number v deeds redoes ∙ sym last) c.note_commit.ensures.turn c.in_ok-note_commit.ensures.line;
      same = ap (λ (it : ServerState). record it { store = c.move_lives.new.self }) c.self.view_is;
    }
