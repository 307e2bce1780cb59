-- Where the glimpse was outstanding, it ends, and the request for which it was is answered.
use Rattle.std.proofs.Common.{◌≡◌, true, Some, None, is_some, sym, ap, subst, ◌∙◌, rules}
use Rattle.lu_msg.specs.declared.answers.Answer.TheVariants as told
use Rattle.lu_spec_target.specs.Glimpses.{answered, asked_for, by_holder, row_holder}
use Rattle.lu_spec_target.specs.States.{Target}
use Rattle.lu_target_locks.specs.Servers as locking
use Rattle.lu_target_server.specs.Requests.{request_of}
use Rattle.lu_target_server.specs.Servers.{ServerState, Shows}
use Rattle.lu_target_server.proofs.AnsweredObjects.{may_refuse_middle}
use Rattle.lu_target_server.proofs.Glimpsing.{asked_objects, asked_sizes, makes_reported}
use Rattle.lu_target_server.proofs.Replying.{on_ok_two}
use Rattle.lu_target_server.proofs.server.Server.report.Goals as goal

pub say_holders-requires-clause-objects : goal.say_holders-requires-clause-objects
say_holders-requires-clause-objects g c =
    let it = c.self.inside in
    let m = c.args.report.now in
    let before : ServerState =
    record {
      id = it.id.0;
      boot = it.boot;
      expire = it.expire;
      kind = g.S.Service.kind;
      contents = g.S.Service.contents it.service;
      store =
          it.store;
      locks = it.locks;
      requests = it.requests;
    }
    in
    let middle : ServerState = record before { locks = c.report.new.self } in
    let mid : middle ≡ record c.args.self.now { locks = c.report.new.self } =
    ap (λ (s : ServerState). record s { locks = c.report.new.self }) c.self.view_is in
    let true_it : c.report.result ≡ true = search rules in
    let was : (v : Target) → Shows c.args.self.now v → c.report.result ≡ is_some (asked_for m v.glimpses) = λ v s.
    c.report.ensures.was v (subst (λ (x : ServerState). locking.Shows x.locks v) (sym c.self.view_is) s.locks)
    in
    let v : Target = c.requires.stands.0 in
    let shows : Shows c.args.self.now v = c.requires.stands.1 in
    let some : is_some (asked_for m v.glimpses) ≡ true = sym (was v shows) ∙ true_it in
    ap (λ (s : ServerState). s.kind) c.self.view_is ∙ asked_objects c.args.self.now v m shows some

pub say_holders-requires-clause-may : goal.say_holders-requires-clause-may
say_holders-requires-clause-may g c =
    let it = c.self.inside in
    let m = c.args.report.now in
    let before : ServerState =
    record {
      id = it.id.0;
      boot = it.boot;
      expire = it.expire;
      kind = g.S.Service.kind;
      contents = g.S.Service.contents it.service;
      store =
          it.store;
      locks = it.locks;
      requests = it.requests;
    }
    in
    let middle : ServerState = record before { locks = c.report.new.self } in
    let mid : middle ≡ record c.args.self.now { locks = c.report.new.self } =
    ap (λ (s : ServerState). record s { locks = c.report.new.self }) c.self.view_is in
    let true_it : c.report.result ≡ true = search rules in
    let was : (v : Target) → Shows c.args.self.now v → c.report.result ≡ is_some (asked_for m v.glimpses) = λ v s.
    c.report.ensures.was v (subst (λ (x : ServerState). locking.Shows x.locks v) (sym c.self.view_is) s.locks)
    in
    λ r waits. may_refuse_middle c.args.self.now middle c.requires.stands.0 m.for_who m.xid r mid c.requires.stands.1 waits

pub say_holders-requires-clause-sizes : goal.say_holders-requires-clause-sizes
say_holders-requires-clause-sizes g c =
    let it = c.self.inside in
    let m = c.args.report.now in
    let before : ServerState =
    record {
      id = it.id.0;
      boot = it.boot;
      expire = it.expire;
      kind = g.S.Service.kind;
      contents = g.S.Service.contents it.service;
      store =
          it.store;
      locks = it.locks;
      requests = it.requests;
    }
    in
    let middle : ServerState = record before { locks = c.report.new.self } in
    let mid : middle ≡ record c.args.self.now { locks = c.report.new.self } =
    ap (λ (s : ServerState). record s { locks = c.report.new.self }) c.self.view_is in
    let true_it : c.report.result ≡ true = search rules in
    let was : (v : Target) → Shows c.args.self.now v → c.report.result ≡ is_some (asked_for m v.glimpses) = λ v s.
    c.report.ensures.was v (subst (λ (x : ServerState). locking.Shows x.locks v) (sym c.self.view_is) s.locks)
    in
    let v : Target = c.requires.stands.0 in
    let shows : Shows c.args.self.now v = c.requires.stands.1 in
    let some : is_some (asked_for m v.glimpses) ≡ true = sym (was v shows) ∙ true_it in
    λ r waits. asked_sizes c.args.self.now v m shows r some (sym
    (ap (λ (s : ServerState). request_of m.for_who m.xid s.requests) c.self.view_is) ∙ waits)

pub say_lock-requires : goal.say_lock-requires
say_lock-requires g c =
    let it = c.self.inside in
    let m = c.args.report.now in
    let before : ServerState =
    record {
      id = it.id.0;
      boot = it.boot;
      expire = it.expire;
      kind = g.S.Service.kind;
      contents = g.S.Service.contents it.service;
      store =
          it.store;
      locks = it.locks;
      requests = it.requests;
    }
    in
    let middle : ServerState = record before { locks = c.report.new.self } in
    let mid : middle ≡ record c.args.self.now { locks = c.report.new.self } =
    ap (λ (s : ServerState). record s { locks = c.report.new.self }) c.self.view_is in
    let true_it : c.report.result ≡ true = search rules in
    let was : (v : Target) → Shows c.args.self.now v → c.report.result ≡ is_some (asked_for m v.glimpses) = λ v s.
    c.report.ensures.was v (subst (λ (x : ServerState). locking.Shows x.locks v) (sym c.self.view_is) s.locks)
    in
    record { may = λ r waits. may_refuse_middle c.args.self.now middle c.requires.stands.0 m.for_who m.xid r mid c.requires.stands.1 waits }

pub returns-in-Some-clause-makes : goal.returns-in-Some-clause-makes
returns-in-Some-clause-makes g c =
    let it = c.self.inside in
    let m = c.args.report.now in
    let before : ServerState =
    record {
      id = it.id.0;
      boot = it.boot;
      expire = it.expire;
      kind = g.S.Service.kind;
      contents = g.S.Service.contents it.service;
      store =
          it.store;
      locks = it.locks;
      requests = it.requests;
    }
    in
    let middle : ServerState = record before { locks = c.report.new.self } in
    let mid : middle ≡ record c.args.self.now { locks = c.report.new.self } =
    ap (λ (s : ServerState). record s { locks = c.report.new.self }) c.self.view_is in
    let true_it : c.report.result ≡ true = search rules in
    let was : (v : Target) → Shows c.args.self.now v → c.report.result ≡ is_some (asked_for m v.glimpses) = λ v s.
    c.report.ensures.was v (subst (λ (x : ServerState). locking.Shows x.locks v) (sym c.self.view_is) s.locks)
    in
    let told_it : m.size ≡ Some c.in-Some.size = search rules in
    on_ok_two c.say_holders.result
    (λ sent answers.
    makes_reported c.args.self.now middle c.say_holders.new.self c.args.turn.now c.say_holders.new.turn m c.args.turn.now.at (by_holder m)
    (told.Size c.in-Some.size) c.report.result mid true_it was
    (λ v q s found. c.report.ensures.shows v q (subst (λ (x : ServerState). locking.Shows x.locks v) (sym c.self.view_is) s) found)
    (λ v q. ap (row_holder v c.args.turn.now.at m q) told_it) sent answers)
    c.say_holders.ensures.sent c.say_holders.ensures.answered

pub returns-in-None-clause-makes : goal.returns-in-None-clause-makes
returns-in-None-clause-makes g c =
    let it = c.self.inside in
    let m = c.args.report.now in
    let before : ServerState =
    record {
      id = it.id.0;
      boot = it.boot;
      expire = it.expire;
      kind = g.S.Service.kind;
      contents = g.S.Service.contents it.service;
      store =
          it.store;
      locks = it.locks;
      requests = it.requests;
    }
    in
    let middle : ServerState = record before { locks = c.report.new.self } in
    let mid : middle ≡ record c.args.self.now { locks = c.report.new.self } =
    ap (λ (s : ServerState). record s { locks = c.report.new.self }) c.self.view_is in
    let true_it : c.report.result ≡ true = search rules in
    let was : (v : Target) → Shows c.args.self.now v → c.report.result ≡ is_some (asked_for m v.glimpses) = λ v s.
    c.report.ensures.was v (subst (λ (x : ServerState). locking.Shows x.locks v) (sym c.self.view_is) s.locks)
    in
    let told_it : m.size ≡ None = search rules in
    on_ok_two c.say_lock.result
    (λ sent answers.
    makes_reported c.args.self.now middle c.say_lock.new.self c.args.turn.now c.say_lock.new.turn m c.args.turn.now.at c.args.turn.now.at
    told.Lock c.report.result mid true_it was
    (λ v q s found. c.report.ensures.shows v q (subst (λ (x : ServerState). locking.Shows x.locks v) (sym c.self.view_is) s) found)
    (λ v q. ap (row_holder v c.args.turn.now.at m q) told_it) sent answers)
    c.say_lock.ensures.sent c.say_lock.ensures.answered
