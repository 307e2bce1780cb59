-- The lock server's answer is the row's choice, and the parts together show what it makes.
use Rattle.std.proofs.Common.{◌≡◌, sym, ap, subst, ◌∙◌, rules}
use Rattle.lu_base.specs.declared.locks.Ask.{Ask}
use Rattle.lu_base.specs.declared.locks.Policy.TheVariants.{Range}
use Rattle.lu_base.specs.declared.locks.Resource.{Resource}
use Rattle.lu_msg.specs.declared.messages.Request.{Request}
use Rattle.lu_msg.specs.declared.operations.Op.TheVariants as op
use Rattle.lu_spec_target.specs.Queues.{blocks_go}
use Rattle.lu_spec_target.specs.Replies.{locks_on}
use Rattle.lu_target_locks.specs.declared.server.Enqueued.{Enqueued}
use Rattle.lu_target_locks.specs.declared.server.Enqueued.TheVariants as enqueued
use Rattle.lu_target_locks.specs.Servers.{IsEnqueued, AreCalledBack}
use Rattle.lu_target_server.specs.Requests.{request_of}
use Rattle.lu_target_server.specs.Servers.{ServerState, Makes}
use Rattle.lu_target_server.proofs.AnsweredObjects.{may_refuse_middle}
use Rattle.lu_target_server.proofs.ObjectRows.{granted_on, waiting_on, makes_granted, makes_waits, makes_waiting, makes_called}
use Rattle.lu_target_server.proofs.Replying.{on_ok_two}
use Rattle.lu_target_locks.specs.Servers.{most_cookies}
use Rattle.lu_target_server.proofs.Overrunning.{lock_spent, over_enqueue}
use Rattle.lu_target_server.proofs.server.Server.enqueue.Goals as goal

pub granted-requires-clause-may : goal.granted-requires-clause-may
granted-requires-clause-may g c =
    let it = c.self.inside in
    let r : Request = c.args.request.now in
    let asked : Ask = record { who = r.who; mode = c.args.mode; policy = Range c.args.extent } in
    let before : ServerState =
    record {
      id = it.id.0;
      boot = it.boot;
      expire = it.expire;
      kind = g.S.Service.kind;
      contents = g.S.Service.contents it.service;
      store =
          it.store;
      locks = it.locks;
      requests = it.requests;
    }
    in
    let middle : ServerState = record before { locks = c.enqueue.new.self } in
    let mid : middle ≡ record c.args.self.now { locks = c.enqueue.new.self } =
    ap (λ (s : ServerState). record s { locks = c.enqueue.new.self }) c.self.view_is in
    may_refuse_middle c.args.self.now middle c.requires.stands.0 r.who r.xid r mid c.requires.stands.1
    (ap (λ (s : ServerState). request_of r.who r.xid s.requests) mid ∙ c.requires.waits)

pub granted-requires-clause-op : goal.granted-requires-clause-op
granted-requires-clause-op g c =
    let it = c.self.inside in
    let r : Request = c.args.request.now in
    let asked : Ask = record { who = r.who; mode = c.args.mode; policy = Range c.args.extent } in
    let before : ServerState =
    record {
      id = it.id.0;
      boot = it.boot;
      expire = it.expire;
      kind = g.S.Service.kind;
      contents = g.S.Service.contents it.service;
      store =
          it.store;
      locks = it.locks;
      requests = it.requests;
    }
    in
    let middle : ServerState = record before { locks = c.enqueue.new.self } in
    let mid : middle ≡ record c.args.self.now { locks = c.enqueue.new.self } =
    ap (λ (s : ServerState). record s { locks = c.enqueue.new.self }) c.self.view_is in
    let placed : c.in_ok-lock.field-0 ≡ enqueued.Granted c.in-Granted.lock = search rules in
    let is : IsEnqueued c.args.resource asked (enqueued.Granted c.in-Granted.lock) c.args.self.now.locks c.enqueue.new.self =
    subst (λ (s : ServerState). IsEnqueued c.args.resource asked (enqueued.Granted c.in-Granted.lock) s.locks c.enqueue.new.self)
    c.self.view_is
    (subst (λ (a : Enqueued). IsEnqueued c.args.resource asked a it.locks c.enqueue.new.self) placed c.in_ok-lock.ensures.enqueued)
    in
    let on : c.in-Granted.lock.resource ≡ c.args.resource =
    granted_on c.args.self.now.locks c.enqueue.new.self c.requires.stands.0 c.args.resource asked c.in-Granted.lock is
    c.requires.stands.1.locks
    in
    (c.args.mode, c.args.extent, c.requires.op ∙ ap (λ (x : Resource). op.Enqueue x c.args.mode c.args.extent) (sym on))

pub waiting-requires-clause-may : goal.waiting-requires-clause-may
waiting-requires-clause-may g c =
    let it = c.self.inside in
    let r : Request = c.args.request.now in
    let asked : Ask = record { who = r.who; mode = c.args.mode; policy = Range c.args.extent } in
    let before : ServerState =
    record {
      id = it.id.0;
      boot = it.boot;
      expire = it.expire;
      kind = g.S.Service.kind;
      contents = g.S.Service.contents it.service;
      store =
          it.store;
      locks = it.locks;
      requests = it.requests;
    }
    in
    let middle : ServerState = record before { locks = c.enqueue.new.self } in
    let mid : middle ≡ record c.args.self.now { locks = c.enqueue.new.self } =
    ap (λ (s : ServerState). record s { locks = c.enqueue.new.self }) c.self.view_is in
    may_refuse_middle c.args.self.now middle c.requires.stands.0 r.who r.xid r mid c.requires.stands.1
    (ap (λ (s : ServerState). request_of r.who r.xid s.requests) mid ∙ c.requires.waits)

pub waiting-requires-clause-op : goal.waiting-requires-clause-op
waiting-requires-clause-op g c =
    let it = c.self.inside in
    let r : Request = c.args.request.now in
    let asked : Ask = record { who = r.who; mode = c.args.mode; policy = Range c.args.extent } in
    let before : ServerState =
    record {
      id = it.id.0;
      boot = it.boot;
      expire = it.expire;
      kind = g.S.Service.kind;
      contents = g.S.Service.contents it.service;
      store =
          it.store;
      locks = it.locks;
      requests = it.requests;
    }
    in
    let middle : ServerState = record before { locks = c.enqueue.new.self } in
    let mid : middle ≡ record c.args.self.now { locks = c.enqueue.new.self } =
    ap (λ (s : ServerState). record s { locks = c.enqueue.new.self }) c.self.view_is in
    let placed : c.in_ok-lock.field-0 ≡ enqueued.Waiting c.in-Waiting.lock = search rules in
    let is : IsEnqueued c.args.resource asked (enqueued.Waiting c.in-Waiting.lock) c.args.self.now.locks c.enqueue.new.self =
    subst (λ (s : ServerState). IsEnqueued c.args.resource asked (enqueued.Waiting c.in-Waiting.lock) s.locks c.enqueue.new.self)
    c.self.view_is
    (subst (λ (a : Enqueued). IsEnqueued c.args.resource asked a it.locks c.enqueue.new.self) placed c.in_ok-lock.ensures.enqueued)
    in
    let on : c.in-Waiting.lock.resource ≡ c.args.resource =
    waiting_on c.args.self.now.locks c.enqueue.new.self c.requires.stands.0 c.args.resource asked c.in-Waiting.lock is
    c.requires.stands.1.locks
    in
    (c.args.mode, c.args.extent, c.requires.op ∙ ap (λ (x : Resource). op.Enqueue x c.args.mode c.args.extent) (sym on))

pub returns-in-Granted-clause-makes : goal.returns-in-Granted-clause-makes
returns-in-Granted-clause-makes g c =
    let it = c.self.inside in
    let r : Request = c.args.request.now in
    let asked : Ask = record { who = r.who; mode = c.args.mode; policy = Range c.args.extent } in
    let before : ServerState =
    record {
      id = it.id.0;
      boot = it.boot;
      expire = it.expire;
      kind = g.S.Service.kind;
      contents = g.S.Service.contents it.service;
      store =
          it.store;
      locks = it.locks;
      requests = it.requests;
    }
    in
    let middle : ServerState = record before { locks = c.enqueue.new.self } in
    let mid : middle ≡ record c.args.self.now { locks = c.enqueue.new.self } =
    ap (λ (s : ServerState). record s { locks = c.enqueue.new.self }) c.self.view_is in
    let placed : c.in_ok-lock.field-0 ≡ enqueued.Granted c.in-Granted.lock = search rules in
    let is : IsEnqueued c.args.resource asked (enqueued.Granted c.in-Granted.lock) c.args.self.now.locks c.enqueue.new.self =
    subst (λ (s : ServerState). IsEnqueued c.args.resource asked (enqueued.Granted c.in-Granted.lock) s.locks c.enqueue.new.self)
    c.self.view_is
    (subst (λ (a : Enqueued). IsEnqueued c.args.resource asked a it.locks c.enqueue.new.self) placed c.in_ok-lock.ensures.enqueued)
    in
    on_ok_two c.granted.result
    (λ sent answers.
    makes_granted c.args.self.now middle c.granted.new.self r c.args.turn.now.at c.args.resource c.args.mode c.args.extent c.in-Granted.lock
    c.requires.objects c.requires.unasked c.requires.waits mid
    c.args.turn.now c.granted.new.turn is sent answers)
    c.granted.ensures.sent c.granted.ensures.answered

pub returns-in_ok-say_blocks-in-Waiting-clause-makes : goal.returns-in_ok-say_blocks-in-Waiting-clause-makes
returns-in_ok-say_blocks-in-Waiting-clause-makes g c =
    let it = c.self.inside in
    let r : Request = c.args.request.now in
    let asked : Ask = record { who = r.who; mode = c.args.mode; policy = Range c.args.extent } in
    let before : ServerState =
    record {
      id = it.id.0;
      boot = it.boot;
      expire = it.expire;
      kind = g.S.Service.kind;
      contents = g.S.Service.contents it.service;
      store =
          it.store;
      locks = it.locks;
      requests = it.requests;
    }
    in
    let middle : ServerState = record before { locks = c.enqueue.new.self } in
    let mid : middle ≡ record c.args.self.now { locks = c.enqueue.new.self } =
    ap (λ (s : ServerState). record s { locks = c.enqueue.new.self }) c.self.view_is in
    let placed : c.in_ok-lock.field-0 ≡ enqueued.Waiting c.in-Waiting.lock = search rules in
    let is : IsEnqueued c.args.resource asked (enqueued.Waiting c.in-Waiting.lock) c.args.self.now.locks c.enqueue.new.self =
    subst (λ (s : ServerState). IsEnqueued c.args.resource asked (enqueued.Waiting c.in-Waiting.lock) s.locks c.enqueue.new.self)
    c.self.view_is
    (subst (λ (a : Enqueued). IsEnqueued c.args.resource asked a it.locks c.enqueue.new.self) placed c.in_ok-lock.ensures.enqueued)
    in
    let now = c.self-in-Waiting.inside in
    let then_state : ServerState =
    record {
      id = now.id.0;
      boot = now.boot;
      expire = now.expire;
      kind = g.S.Service.kind;
      contents = g.S.Service.contents now.service;
      store = now.store;
      locks = now.locks;
      requests = now.requests;
    }
    in
    let last : ServerState = record then_state { locks = c.call_back.new.self } in
    let view_is : then_state ≡ c.waiting.new.self = c.self-in-Waiting.view_is in
    let next : Makes (λ w. blocks_go (locks_on c.args.resource w.waiting) w) c.waiting.new.self last c.waiting.new.turn
    c.say_blocks.new.turn =
    makes_called c.args.resource c.in_ok-called-in-Waiting.called c.waiting.new.self last c.waiting.new.turn c.say_blocks.new.turn
    (ap (λ (s : ServerState). record s { locks = c.call_back.new.self }) view_is)
    (subst (λ (s : ServerState). AreCalledBack c.args.resource c.in_ok-called-in-Waiting.called s.locks c.call_back.new.self) view_is
    c.in_ok-called-in-Waiting.ensures.called)
    (λ v e. c.in_ok-say_blocks-in-Waiting.ensures.told v (e ∙ sym (ap (λ (s : ServerState). s.boot) view_is)))
    in
    makes_waiting c.args.self.now middle c.waiting.new.self r c.args.turn.now.at c.args.resource c.args.mode c.args.extent c.in-Waiting.lock
    c.requires.objects c.requires.unasked c.requires.waits mid
    last c.args.turn.now c.waiting.new.turn c.say_blocks.new.turn is
    (makes_waits c.args.self.now middle c.waiting.new.self r c.args.turn.now.at c.args.resource c.args.mode c.args.extent c.in-Waiting.lock
    c.requires.objects c.requires.unasked c.requires.waits mid
    c.args.turn.now c.waiting.new.turn is c.in_ok-waiting-in-Waiting.ensures.sent c.in_ok-waiting-in-Waiting.ensures.answered) next

pub returns-in_err-lock-clause-numbers : goal.returns-in_err-lock-clause-numbers
returns-in_err-lock-clause-numbers g c =
    λ is.
    let spent = lock_spent c.from_residual.result c.in_err-lock.field-0.0 _ _ c.from_residual.ensures.1 is c.in_err-lock.ensures.spent in
    over_enqueue c.args.self.now c.args.turn.now.at c.args.request.now c.args.resource c.args.mode c.args.extent
    (subst (λ (s : ServerState). s.locks.count ≡ most_cookies) c.self.view_is spent.1)
