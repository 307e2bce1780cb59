-- What went to the disk is the row's.
use Rattle.std.proofs.Common.{◌≡◌, ap, subst}
use Rattle.lu_target_store.specs.Stores.{StoreState, KeepsTaken, IsCommit}
use Rattle.lu_target_server.specs.Servers.{ServerState}
use Rattle.lu_target_server.proofs.Committing.{commits_made, commit_kept}
use Rattle.lu_target_server.proofs.server.Server.commit.Goals as goal

pub returns-in_err-note_commit-clause-batches : goal.returns-in_err-note_commit-clause-batches
returns-in_err-note_commit-clause-batches g c =
    let is : IsCommit c.args.count c.in-Ok.to c.args.self.now.store c.commit.new.self =
    subst (λ (it : StoreState). IsCommit c.args.count c.in-Ok.to it c.commit.new.self) (ap (λ (it : ServerState). it.store) c.self.view_is)
    c.in-Ok.ensures.commit in
    commit_kept c.args.self.now (record c.args.self.now { store = c.commit.new.self }) c.args.count c.in-Ok.to is

pub returns-clause-batches : goal.returns-clause-batches
returns-clause-batches g c =
    let is : IsCommit c.args.count c.in-Ok.to c.args.self.now.store c.commit.new.self =
    subst (λ (it : StoreState). IsCommit c.args.count c.in-Ok.to it c.commit.new.self) (ap (λ (it : ServerState). it.store) c.self.view_is)
    c.in-Ok.ensures.commit in
    commit_kept c.args.self.now (record c.args.self.now { store = c.commit.new.self }) c.args.count c.in-Ok.to is

pub returns-clause-makes : goal.returns-clause-makes
returns-clause-makes g c =
    let old : c.self.inside.store ≡ c.args.self.now.store = ap (λ (it : ServerState). it.store) c.self.view_is in
    commits_made c.args.self.now _ c.args.count c.in-Ok.to c.args.turn.now c.note_commit.new.turn
    (subst (λ (it : StoreState). IsCommit c.args.count c.in-Ok.to it c.commit.new.self) old c.in-Ok.ensures.commit)
    (subst (λ (it : StoreState). KeepsTaken it c.commit.new.self) old c.in-Ok.ensures.takes)
    (ap (λ (it : ServerState). record it { store = c.commit.new.self }) c.self.view_is) c.in_ok-note_commit.ensures.line
    c.note_commit.ensures.turn
