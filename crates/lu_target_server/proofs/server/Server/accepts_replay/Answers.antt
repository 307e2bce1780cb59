-- Each test is one of what is asked.
use Rattle.std.proofs.Common.{rules, ◌≡◌, ◌<◌, ◌≤◌, true, sym, ap, subst, ◌∙◌}
use Rattle.lu_msg.specs.Limits.{tag_count}
use Rattle.lu_service.specs.declared.services.Kind.{Kind}
use Rattle.lu_spec_target.specs.Lives.{is_life}
use Rattle.lu_spec_target.specs.Phase.{first_of}
use Rattle.lu_target_redo.specs.Shown.{IsRepeatable}
use Rattle.lu_target_server.specs.Servers.{ServerState}
use Rattle.lu_target_server.proofs.Accepted.{served_of, may_replay, fails, unserved, too_great}
use Rattle.lu_target_server.proofs.server.Server.accepts_replay.Goals as goal
use Rattle.lu_target_server.proofs.server.Server.accepts_replay.Goals.{then-not-serves-via-then-not-serves}
use Rattle.lu_target_server.proofs.server.Server.accepts_replay.Goals.{then-not-serves-via-else-not-serves+then-replay-ge-TAGS}
use Rattle.lu_target_server.proofs.server.Server.accepts_replay.Goals.{then-not-serves-via-else-not-serves+else-replay-ge-TAGS+then-not-is_earlier}
use Rattle.lu_target_server.proofs.server.Server.accepts_replay.Goals.{then-repeats, else-repeats}

pub returns-then-not-serves : goal.returns-then-not-serves
returns-then-not-serves g c =
    let s = c.args.self.now in
    let r = c.args.replay.now in
    let served = served_of s c.args.recovery.now r.who c.serves.result c.requires.awaits c.serves.ensures.gathers in
    record {
      may = (
        λ t. absurd (cc),
        λ may.
            elim c.then-not-serves.branch [
              | then-not-serves-via-then-not-serves w ↦ unserved _ _ served w.if-not-serves.true may.is.life
              | then-not-serves-via-else-not-serves+then-replay-ge-TAGS w ↦ too_great r.tag 8 w.if-replay-ge-TAGS.true may.is.tag
              | then-not-serves-via-else-not-serves+else-replay-ge-TAGS+then-not-is_earlier w
                  ↦ fails _ _ w.if-not-is_earlier.true w.is_earlier.ensures.earlier may.is.earlier
            ],
      );
    }

pub returns-then-replay-gt1 : goal.returns-then-replay-gt1
returns-then-replay-gt1 g c =
    let s = c.args.self.now in
    let x = c.args.recovery.now in
    let r = c.args.replay.now in
    let served = served_of s x r.who c.serves.result c.requires.awaits c.serves.ensures.gathers in
    let tag : r.tag < tag_count = search rules in
    let kind : g.S.Service.kind ≡ s.kind = ap (λ (it : ServerState). it.kind) c.self.view_is in
    let performs : c.repeats.result ≡ true = elim c.if-repeats.branch
    [ then-repeats w ↦ w.if-repeats.true | else-repeats w ↦ sym w.value-is ∙ c.if-replay-gt1.true ] in
    let late : 1 < r.txn.0 = elim c.if-repeats.branch [ then-repeats w ↦ search rules | else-repeats w ↦ search rules ] in
    let repeatable : IsRepeatable s.kind r.op = subst (λ (k : Kind). IsRepeatable k r.op) kind (c.repeats.ensures.repeats.0 performs) in
    let life : is_life r.who x.window.lives ≡ true = sym served ∙ c.if-not-serves.false in
    let earlier : r.txn.0 ≤ first_of s.boot = c.is_earlier.ensures.earlier.0 c.if-not-is_earlier.false in
    record { may = may_replay c.is_only_replay.result r s x.window life earlier tag repeatable late c.is_only_replay.ensures.only }
