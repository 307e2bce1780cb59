-- What is kept is performed again, and is the journal's.
use Rattle.std.proofs.Common.{◌≡◌, List, map, sym, ap, subst, ◌∙◌}
use Rattle.lu_window.specs.Shown.{kept_replay}
use Rattle.lu_spec_entries.specs.Carried.{Deed}
use Rattle.lu_spec_target.specs.Phase.{first_of}
use Rattle.lu_spec_target.specs.Outcomes.{outcome_of}
use Rattle.lu_target_store.specs.Stores.{Redoes}
use Rattle.lu_target_redo.specs.Shown as redo
use Rattle.lu_target_redo.specs.Shown.{deed_of}
use Rattle.lu_target_server.specs.Closing.{numbers_of}
use Rattle.lu_target_server.specs.Servers.{ServerState}
use Rattle.lu_target_server.proofs.Standing.{can_redo_so, shows_first}
use Rattle.lu_target_server.proofs.WindowClose.{may_perform}
use Rattle.lu_target_server.proofs.server.Server.stand_again.Goals as goal

pub perform_again-requires : goal.perform_again-requires
perform_again-requires g c =
    let m = c.requires.may in
    record { may = (m.0, may_perform (map kept_replay c.args.kept) c.args.gone.now m.1 c.args.self.now m.0 m.2) }

pub redo-requires : goal.redo-requires
redo-requires g c =
    let m = c.requires.may in
    let kept = map kept_replay c.args.kept in
    let gone = c.args.gone.now in
    let s = c.args.self.now in
    record {
      can = (
        m.0,
        can_redo_so kept gone m.1 s m.0 m.2 c.args.at (map deed_of c.in_ok-deeds.deeds) c.perform_again.new.self
            (c.in_ok-deeds.ensures.deeds m.0 (may_perform kept gone m.1 s m.0 m.2))
            (ap (λ (it : ServerState). it.store) {y = record s { contents = c.perform_again.new.self.contents }}
            c.perform_again.ensures.same),
      );
    }

pub returns-clause-numbers : goal.returns-clause-numbers
returns-clause-numbers g c =
    λ v joins d. c.in_ok-numbers.ensures.numbers
    ∙ ap numbers_of (c.in_ok-deeds.ensures.deeds v (may_perform (map kept_replay c.args.kept) c.args.gone.now joins c.args.self.now v d))

pub returns-clause-redone : goal.returns-clause-redone
returns-clause-redone g c =
    let kept = map kept_replay c.args.kept in
    let gone = c.args.gone.now in
    let s = c.args.self.now in
    λ v joins d.
    let is : map deed_of c.in_ok-deeds.deeds ≡ (outcome_of v c.args.at).kept =
    c.in_ok-deeds.ensures.deeds v (may_perform kept gone joins s v d) in
    subst (λ (deeds : List Deed). Redoes deeds c.redo.new.self.store v) is
    (c.in_ok-redo.ensures.redone v
    (can_redo_so kept gone joins s v d c.args.at (map deed_of c.in_ok-deeds.deeds) c.perform_again.new.self is
    (ap (λ (it : ServerState). it.store) {y = record s { contents = c.perform_again.new.self.contents }} c.perform_again.ensures.same)))

pub returns-clause-contents : goal.returns-clause-contents
returns-clause-contents g c =
    let kept = map kept_replay c.args.kept in
    let gone = c.args.gone.now in
    let s = c.args.self.now in
    let mid = c.perform_again.new.self in
    λ v joins d.
    subst (λ (it : ServerState). redo.Shows it.kind v.setting.osts (first_of v.boot) it.contents (outcome_of v c.args.at).disk.contents)
    (sym {b = record mid { store = c.redo.new.self.store }} c.redo.ensures.same)
    (shows_first kept gone joins s v d c.args.at mid.kind mid.contents
    (c.in_ok-deeds.ensures.contents v (may_perform kept gone joins s v d)))
