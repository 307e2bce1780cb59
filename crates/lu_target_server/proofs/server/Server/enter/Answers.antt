-- It is taken, and goes on.
use Rattle.std.proofs.Common.{◌≡◌, ◌++◌, [], ◌∷◌, List, Some, ◌∙◌, sym, ap, subst}
use Rattle.std.proofs.lemmas.Result.{on_ok_weaker}
use Rattle.lu_msg.specs.declared.messages.Request.{Request}
use Rattle.lu_service.specs.Takes.{Takes}
use Rattle.lu_service.specs.declared.services.Kind.{Kind}
use Rattle.lu_service.specs.declared.services.Kind.TheVariants.{Mdt, Ost}
use Rattle.lu_spec_entries.specs.Words.{Enters}
use Rattle.lu_spec_target.specs.Names.{names_go}
use Rattle.lu_spec_target.specs.Objects.{objects_go}
use Rattle.lu_spec_target.specs.Requests.{row_enters}
use Rattle.lu_spec_target.specs.States.{follow}
use Rattle.lu_target_invariant.specs.Requests.{request_of}
use Rattle.lu_target_store.specs.Stores.{StoreState, Serves, KeepsTaken}
use Rattle.lu_target_server.specs.Servers.{ServerState, Makes, Stands, IsUnasked}
use Rattle.lu_target_server.proofs.Composing.{makes_then, stands_then}
use Rattle.lu_target_server.proofs.Entering.{enters_made, with_taken, enters_names, enters_objects, goes_names}
use Rattle.lu_target_server.proofs.Entering.{goes_objects, taken_waits, taken_unasked}
use Rattle.lu_target_server.proofs.OfKind.{waits_names, waits_objects, names_id, objects_id}
use Rattle.lu_target_server.specs.Numbers.{Overruns}
use Rattle.lu_target_server.proofs.Overrunning.{over_then, over_as}
use Rattle.lu_target_server.proofs.server.Server.enter.Goals as goal

-- what was taken is the server's
middle_is : (inside now : ServerState) (store : StoreState) (requests : List Request) (copy r : Request) → inside ≡ now → copy ≡ r
    → requests ≡ inside.requests ++ copy ∷ []
    → record inside { store = store; requests = requests } ≡ with_taken now store r
middle_is inside now store requests copy r is same added =
    ap (λ (q : List Request). record inside { store = store; requests = q }) (added ∙ ap (λ (x : Request). inside.requests ++ x ∷ []) same)
    ∙ ap (λ (s : ServerState). with_taken s store r) is

pub names_go-requires : goal.names_go-requires
names_go-requires g c =
    let s = c.args.self.now in
    let r = c.args.request.now in
    let store = c.enter.new.self in
    let one : Makes (λ v. Enters r ∷ []) s (with_taken s store r) c.args.turn.now c.args.turn.now =
    enters_made s store c.args.turn.now r
    (λ v serves. c.in_ok-enter.ensures.shows v (subst (λ (x : ServerState). Serves x.store v) (sym c.self.view_is) serves))
    c.in_ok-enter.ensures.entered (subst (λ (x : ServerState). KeepsTaken x.store store) c.self.view_is c.in_ok-enter.ensures.takes)
    c.requires.may c.requires.new in
    let middle = middle_is _ s store c.push.new.self c.in_ok-copy.field-0 r c.self.view_is c.in_ok-copy.ensures.same
    c.in_ok-push.ensures.added in
    let names : s.kind ≡ Mdt = ap (λ (x : ServerState). x.kind) (sym c.self.view_is)
    ∙ waits_names c.requests_wait.result g.S.Service.kind c.requests_wait.ensures.waits c.if-requests_wait.true in
    record {
      names = ap (λ (x : ServerState). x.kind) c.self.view_is ∙ names;
      stands = subst Stands (sym middle) (stands_then (λ v. Enters r ∷ []) s (with_taken s store r) c.args.turn.now c.args.turn.now one
          c.requires.stands);
    }

pub objects_go-requires : goal.objects_go-requires
objects_go-requires g c =
    let s = c.args.self.now in
    let r = c.args.request.now in
    let store = c.enter.new.self in
    let v = c.requires.stands.0 in
    let shows = c.requires.stands.1 in
    let one : Makes (λ v. Enters r ∷ []) s (with_taken s store r) c.args.turn.now c.args.turn.now =
    enters_made s store c.args.turn.now r
    (λ v serves. c.in_ok-enter.ensures.shows v (subst (λ (x : ServerState). Serves x.store v) (sym c.self.view_is) serves))
    c.in_ok-enter.ensures.entered (subst (λ (x : ServerState). KeepsTaken x.store store) c.self.view_is c.in_ok-enter.ensures.takes)
    c.requires.may c.requires.new in
    let middle = middle_is _ s store c.push.new.self c.in_ok-copy.field-0 r c.self.view_is c.in_ok-copy.ensures.same
    c.in_ok-push.ensures.added in
    let kind : s.kind ≡ Ost = ap (λ (x : ServerState). x.kind) (sym c.self.view_is)
    ∙ waits_objects c.requests_wait.result g.S.Service.kind c.requests_wait.ensures.waits c.if-requests_wait.false in
    record {
      objects = ap (λ (x : ServerState). x.kind) c.self.view_is ∙ kind;
      stands = subst Stands (sym middle) (stands_then (λ v. Enters r ∷ []) s (with_taken s store r) c.args.turn.now c.args.turn.now one
          c.requires.stands);
      takes = subst (λ (k : Kind). Takes k r.op) kind c.requires.may.takes;
      waits = subst (λ (x : ServerState). request_of r.who r.xid x.requests ≡ Some r) (sym middle)
          (taken_waits s store v r shows c.requires.may (c.requires.new v shows));
      unasked = subst (IsUnasked r) (sym middle) (taken_unasked s store v r shows c.requires.may (c.requires.new v shows));
    }

pub returns-then-requests_wait-clause-makes : goal.returns-then-requests_wait-clause-makes
returns-then-requests_wait-clause-makes g c =
    let s = c.args.self.now in
    let r = c.args.request.now in
    let turn = c.args.turn.now in
    let store = c.enter.new.self in
    let one : Makes (λ v. Enters r ∷ []) s (with_taken s store r) turn turn =
    enters_made s store turn r
    (λ v serves. c.in_ok-enter.ensures.shows v (subst (λ (x : ServerState). Serves x.store v) (sym c.self.view_is) serves))
    c.in_ok-enter.ensures.entered (subst (λ (x : ServerState). KeepsTaken x.store store) c.self.view_is c.in_ok-enter.ensures.takes)
    c.requires.may c.requires.new in
    let middle = middle_is _ s store c.push.new.self c.in_ok-copy.field-0 r c.self.view_is c.in_ok-copy.ensures.same
    c.in_ok-push.ensures.added in
    let names : s.kind ≡ Mdt = ap (λ (x : ServerState). x.kind) (sym c.self.view_is)
    ∙ waits_names c.requests_wait.result g.S.Service.kind c.requests_wait.ensures.waits c.if-requests_wait.true in
    let zero = names_id s.id s.kind c.requires.stands.1.kind names in
    on_ok_weaker c.names_go.result
    (λ makes.
    goes_names s c.names_go.new.self turn c.names_go.new.turn r zero
    (makes_then (λ v. Enters r ∷ []) (names_go turn.at) s (with_taken s store r) c.names_go.new.self turn turn c.names_go.new.turn one
    (subst (λ (x : ServerState). Makes (names_go turn.at) x c.names_go.new.self turn c.names_go.new.turn) middle makes)))
    c.names_go.ensures.makes

pub returns-clause-makes : goal.returns-clause-makes
returns-clause-makes g c =
    let s = c.args.self.now in
    let r = c.args.request.now in
    let turn = c.args.turn.now in
    let store = c.enter.new.self in
    let one : Makes (λ v. Enters r ∷ []) s (with_taken s store r) turn turn =
    enters_made s store turn r
    (λ v serves. c.in_ok-enter.ensures.shows v (subst (λ (x : ServerState). Serves x.store v) (sym c.self.view_is) serves))
    c.in_ok-enter.ensures.entered (subst (λ (x : ServerState). KeepsTaken x.store store) c.self.view_is c.in_ok-enter.ensures.takes)
    c.requires.may c.requires.new in
    let middle = middle_is _ s store c.push.new.self c.in_ok-copy.field-0 r c.self.view_is c.in_ok-copy.ensures.same
    c.in_ok-push.ensures.added in
    let kind : s.kind ≡ Ost = ap (λ (x : ServerState). x.kind) (sym c.self.view_is)
    ∙ waits_objects c.requests_wait.result g.S.Service.kind c.requests_wait.ensures.waits c.if-requests_wait.false in
    let other = objects_id s.id s.kind c.requires.stands.1.kind kind in
    on_ok_weaker c.objects_go.result
    (λ makes.
    goes_objects s c.objects_go.new.self turn c.objects_go.new.turn r other
    (makes_then (λ v. Enters r ∷ []) (λ v. objects_go v turn.at r r.op) s (with_taken s store r) c.objects_go.new.self turn turn
    c.objects_go.new.turn one
    (subst (λ (x : ServerState). Makes (λ v. objects_go v turn.at r r.op) x c.objects_go.new.self turn c.objects_go.new.turn) middle
    makes)))
    c.objects_go.ensures.makes

pub returns-then-requests_wait-clause-numbers : goal.returns-then-requests_wait-clause-numbers
returns-then-requests_wait-clause-numbers g c =
    λ is.
    let s = c.args.self.now in
    let r = c.args.request.now in
    let turn = c.args.turn.now in
    let store = c.enter.new.self in
    let one : Makes (λ v. Enters r ∷ []) s (with_taken s store r) turn turn =
    enters_made s store turn r
    (λ v serves. c.in_ok-enter.ensures.shows v (subst (λ (x : ServerState). Serves x.store v) (sym c.self.view_is) serves))
    c.in_ok-enter.ensures.entered (subst (λ (x : ServerState). KeepsTaken x.store store) c.self.view_is c.in_ok-enter.ensures.takes)
    c.requires.may c.requires.new in
    let middle = middle_is _ s store c.push.new.self c.in_ok-copy.field-0 r c.self.view_is c.in_ok-copy.ensures.same
    c.in_ok-push.ensures.added in
    let names : s.kind ≡ Mdt = ap (λ (x : ServerState). x.kind) (sym c.self.view_is)
    ∙ waits_names c.requests_wait.result g.S.Service.kind c.requests_wait.ensures.waits c.if-requests_wait.true in
    let zero = names_id s.id s.kind c.requires.stands.1.kind names in
    over_as (λ v. follow v (Enters r ∷ []) (names_go turn.at)) (λ v. row_enters v turn.at r) s (enters_names s turn.at r zero)
    (over_then (λ v. Enters r ∷ []) (names_go turn.at) s (with_taken s store r) turn turn one
    (subst (λ (x : ServerState). Overruns (names_go turn.at) x) middle (c.names_go.ensures.numbers is)))

pub returns-clause-numbers : goal.returns-clause-numbers
returns-clause-numbers g c =
    λ is.
    let s = c.args.self.now in
    let r = c.args.request.now in
    let turn = c.args.turn.now in
    let store = c.enter.new.self in
    let one : Makes (λ v. Enters r ∷ []) s (with_taken s store r) turn turn =
    enters_made s store turn r
    (λ v serves. c.in_ok-enter.ensures.shows v (subst (λ (x : ServerState). Serves x.store v) (sym c.self.view_is) serves))
    c.in_ok-enter.ensures.entered (subst (λ (x : ServerState). KeepsTaken x.store store) c.self.view_is c.in_ok-enter.ensures.takes)
    c.requires.may c.requires.new in
    let middle = middle_is _ s store c.push.new.self c.in_ok-copy.field-0 r c.self.view_is c.in_ok-copy.ensures.same
    c.in_ok-push.ensures.added in
    let kind : s.kind ≡ Ost = ap (λ (x : ServerState). x.kind) (sym c.self.view_is)
    ∙ waits_objects c.requests_wait.result g.S.Service.kind c.requests_wait.ensures.waits c.if-requests_wait.false in
    let other = objects_id s.id s.kind c.requires.stands.1.kind kind in
    over_as (λ v. follow v (Enters r ∷ []) (λ w. objects_go w turn.at r r.op)) (λ v. row_enters v turn.at r) s
    (enters_objects s turn.at r other)
    (over_then (λ v. Enters r ∷ []) (λ w. objects_go w turn.at r r.op) s (with_taken s store r) turn turn one
    (subst (λ (x : ServerState). Overruns (λ w. objects_go w turn.at r r.op) x) middle (c.objects_go.ensures.numbers is)))
