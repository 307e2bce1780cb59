-- Request after request.
use Rattle.std.proofs.Common.{◌≡◌, ◌<◌, ◌≤◌, ◌∙◌, ℕ, List, Some, length, slice_get, sym, ap, subst, rules}
use Rattle.lu_msg.specs.declared.messages.Request.{Request}
use Rattle.lu_target_server.specs.Servers.{ServerState}
use Rattle.lu_target_server.specs.Passes.{IsWay}
use Rattle.lu_target_server.specs.declared.names.Way.TheVariants as way
use Rattle.lu_target_server.proofs.Composing.{stands_then}
use Rattle.lu_target_server.proofs.Entering.{names_kept}
use Rattle.lu_target_server.proofs.Sweeps.{at_first, place_acts, place_over, place_last, free_waits, of_way, waits_behind, waits_barred}
use Rattle.lu_target_server.proofs.server.Server.pass.Goals.{in-Behind, in-Barred+in_ok-call_back_all-in-Barred}
use Rattle.lu_target_server.proofs.server.Server.pass.Goals as goal

pub loop-place-init : goal.loop-place-init
loop-place-init g c = at_first c.args.self.now c.args.turn.now

pub way-requires : goal.way-requires
way-requires g c =
    let here = c.loop-place.invariant in
    record {
      names = names_kept here.row c.args.self.now c.loop-place.self c.args.turn.now c.loop-place.turn here.makes c.requires.stands
          c.requires.names;
      stands = stands_then here.row c.args.self.now c.loop-place.self c.args.turn.now c.loop-place.turn here.makes c.requires.stands;
      place = subst (λ (n : ℕ). c.loop-place.place < n)
          (c.len-place-end.ensures.count ∙ ap (λ (x : ServerState). length x.requests) c.self.view_is
          ∙ ap (λ (them : List Request). length them) (sym here.requests))
          c.loop-place-test.true;
    }

pub execute-requires : goal.execute-requires
execute-requires g c =
    let here = c.loop-place.invariant in
    let within : c.loop-place.place < length c.loop-place.self.requests = subst (λ (n : ℕ). c.loop-place.place < n)
    (c.len-place-end.ensures.count ∙ ap (λ (x : ServerState). length x.requests) c.self.view_is
    ∙ ap (λ (them : List Request). length them) (sym here.requests))
    c.loop-place-test.true in
    let stands = stands_then here.row c.args.self.now c.loop-place.self c.args.turn.now c.loop-place.turn here.makes c.requires.stands in
    record {
      names = names_kept here.row c.args.self.now c.loop-place.self c.args.turn.now c.loop-place.turn here.makes c.requires.stands
          c.requires.names;
      stands = stands;
      waits = (
        c.loop-place.place,
        free_waits c.loop-place.self c.loop-place.place c.loop-place.stood c.in-Free.request stands within
            (of_way c.loop-place.self c.loop-place.place c.loop-place.stood c.in_ok-request.field-0 (way.Free c.in-Free.request)
            c.in-Free.is c.in_ok-request.ensures.way),
      );
    }

pub loop-place-preserved : goal.loop-place-preserved
loop-place-preserved g c =
    let here = c.loop-place.invariant in
    let within : c.loop-place.place < length c.loop-place.self.requests = subst (λ (n : ℕ). c.loop-place.place < n)
    (c.len-place-end.ensures.count ∙ ap (λ (x : ServerState). length x.requests) c.self.view_is
    ∙ ap (λ (them : List Request). length them) (sym here.requests))
    c.loop-place-test.true in
    let stands = stands_then here.row c.args.self.now c.loop-place.self c.args.turn.now c.loop-place.turn here.makes c.requires.stands in
    elim c.match-branch-2.branch [
      | in-Behind w ↦ waits_behind c.loop-place.place c.loop-place.stood c.args.self.now c.loop-place.self c.args.turn.now c.loop-place.turn
          here stands within
          c.match-branch-2.self c.match-branch-2.turn c.match-branch-2.stood
          (of_way c.loop-place.self c.loop-place.place c.loop-place.stood c.in_ok-request.field-0 way.Behind w.in-Behind.is
          c.in_ok-request.ensures.way)
          w.self-is w.turn-is w.stood-is
      | in-Barred+in_ok-call_back_all-in-Barred w ↦ waits_barred c.loop-place.place c.loop-place.stood c.args.self.now c.loop-place.self
          c.args.turn.now c.loop-place.turn here stands within
          w.call_back_all.new.self w.call_back_all.new.turn w.in-Barred.cookies c.match-branch-2.self c.match-branch-2.turn
          c.match-branch-2.stood
          (of_way c.loop-place.self c.loop-place.place c.loop-place.stood c.in_ok-request.field-0 (way.Barred w.in-Barred.cookies)
          w.in-Barred.is c.in_ok-request.ensures.way)
          w.in_ok-call_back_all-in-Barred.ensures.called w.call_back_all.ensures.same w.self-is w.turn-is w.stood-is
    ]

pub returns-in-Free-clause-pass : goal.returns-in-Free-clause-pass
returns-in-Free-clause-pass g c =
    let here = c.loop-place.invariant in
    let within : c.loop-place.place < length c.loop-place.self.requests = subst (λ (n : ℕ). c.loop-place.place < n)
    (c.len-place-end.ensures.count ∙ ap (λ (x : ServerState). length x.requests) c.self.view_is
    ∙ ap (λ (them : List Request). length them) (sym here.requests))
    c.loop-place-test.true in
    let stands = stands_then here.row c.args.self.now c.loop-place.self c.args.turn.now c.loop-place.turn here.makes c.requires.stands in
    let free : IsWay c.loop-place.self c.loop-place.place c.loop-place.stood (way.Free c.in-Free.request) =
    of_way c.loop-place.self c.loop-place.place c.loop-place.stood c.in_ok-request.field-0 (way.Free c.in-Free.request) c.in-Free.is
    c.in_ok-request.ensures.way in
    let found : slice_get c.args.self.now.requests c.loop-place.place ≡ Some c.in-Free.request =
    ap (λ (them : List Request). slice_get them c.loop-place.place) (sym here.requests)
    ∙ free_waits c.loop-place.self c.loop-place.place c.loop-place.stood c.in-Free.request stands within free in
    place_acts c.loop-place.place c.loop-place.stood c.args.self.now c.loop-place.self c.args.turn.now c.loop-place.turn here
    c.in-Free.request found
    c.execute.new.self c.execute.new.turn c.requires.stands free c.in_ok-execute-in-Free.ensures.makes

pub returns-clause-pass : goal.returns-clause-pass
returns-clause-pass g c =
    let here = c.loop-place.invariant in
    let past : length c.args.self.now.requests ≤ c.loop-place.place = subst (λ (n : ℕ). n ≤ c.loop-place.place)
    (c.len-place-end.ensures.count ∙ ap (λ (x : ServerState). length x.requests) c.self.view_is)
    c.loop-place-test.false in
    place_last c.loop-place.place c.loop-place.stood c.args.self.now c.loop-place.self c.args.turn.now c.loop-place.turn here past

pub returns-in_err-execute-in-Free-clause-numbers : goal.returns-in_err-execute-in-Free-clause-numbers
returns-in_err-execute-in-Free-clause-numbers g c =
    λ is.
    let here = c.loop-place.invariant in
    let within : c.loop-place.place < length c.loop-place.self.requests = subst (λ (n : ℕ). c.loop-place.place < n)
    (c.len-place-end.ensures.count ∙ ap (λ (x : ServerState). length x.requests) c.self.view_is
    ∙ ap (λ (them : List Request). length them) (sym here.requests))
    c.loop-place-test.true in
    let stands = stands_then here.row c.args.self.now c.loop-place.self c.args.turn.now c.loop-place.turn here.makes c.requires.stands in
    let free : IsWay c.loop-place.self c.loop-place.place c.loop-place.stood (way.Free c.in-Free.request) =
    of_way c.loop-place.self c.loop-place.place c.loop-place.stood c.in_ok-request.field-0 (way.Free c.in-Free.request) c.in-Free.is
    c.in_ok-request.ensures.way in
    let found : slice_get c.args.self.now.requests c.loop-place.place ≡ Some c.in-Free.request =
    ap (λ (them : List Request). slice_get them c.loop-place.place) (sym here.requests)
    ∙ free_waits c.loop-place.self c.loop-place.place c.loop-place.stood c.in-Free.request stands within free in
    place_over c.loop-place.place c.loop-place.stood c.args.self.now c.loop-place.self c.args.turn.now c.loop-place.turn here
    c.in-Free.request found
    c.requires.stands free (c.execute.ensures.numbers (search rules))
