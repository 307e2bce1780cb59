-- What is kept are the requests of other numbers, and what the reply taught.
use Rattle.std.proofs.Common.{◌≡◌, ◌∙◌, ◌==◌, Bool, true, false, ◌&&◌, Option, Some, None, is_some, sym, ap, refl, rules, tests}
use Rattle.std.proofs.lemmas.Fn.{filter_same}
use Rattle.lu_import.specs.declared.requests.InFlight.{InFlight}
use Rattle.lu_import.specs.InFlights.{has_number, request_of, without}
use Rattle.lu_import.specs.Kept.{taught_by}
use Rattle.lu_import.proofs.Soundness.{none_left, number_found, sound_heard}
use Rattle.lu_import.proofs.imports.Import.hear.Goals as goal

and_false : (b : Bool) → (b && false) ≡ false
and_false true = refl
and_false false = refl

pub returns-in_default-clause-heard : goal.returns-in_default-clause-heard
returns-in_default-clause-heard c =
    let requests = c.self.inside.in_flight.items in
    let found : request_of c.args.reply.now.xid.0 requests ≡ None = search rules in
    let none : has_number c.args.reply.now.xid.0 requests ≡ false = number_found c.args.reply.now.xid.0 requests ∙ ap is_some found in
    rw (← c.self.view_is, none) (sym (and_false _))

pub returns-in_default-clause-once : goal.returns-in_default-clause-once
returns-in_default-clause-once c = sym (returns-in_default-clause-heard c)

pub returns-clause-heard : goal.returns-clause-heard
returns-clause-heard c =
    let reply = c.args.reply.now in
    let old = c.self.inside in
    let found : request_of reply.xid.0 old.in_flight.items ≡ Some c.in-Some.request.now = search rules in
    let there : has_number reply.xid.0 old.in_flight.items ≡ true = number_found reply.xid.0 old.in_flight.items ∙ ap is_some found in
    let own : (reply.who.client == old.who.client && reply.who.life == old.who.life && reply.boot == old.boot) ≡ true =
    search (rules, tests) in
    rw (← c.self.view_is, own, there) refl

pub invariant_of-self-2 : goal.invariant_of-self-2
invariant_of-self-2 c =
    let kept : c.retain.new.self.items ≡ without c.args.reply.now.xid.0 c.self.inside.in_flight.items =
    filter_same _ _ _ (λ x b f' k. search rules) _ _ c.retain.ensures.filtered in
    rw kept (sound_heard _ c.args.reply.now.xid.0 c.hear.new.self c.self.invariant c.in_ok-hear.ensures.sound)

pub returns-clause-once : goal.returns-clause-once
returns-clause-once c =
    let kept : c.retain.new.self.items ≡ without c.args.reply.now.xid.0 c.self.inside.in_flight.items =
    filter_same _ _ _ (λ x b f' k. search rules) _ _ c.retain.ensures.filtered in
    rw (kept, none_left) (and_false _)

pub returns-clause-ended : goal.returns-clause-ended
returns-clause-ended c =
    let reply = c.args.reply.now in
    let old = c.self.inside in
    let kept : c.retain.new.self.items ≡ without reply.xid.0 old.in_flight.items =
    filter_same _ _ _ (λ x b f' k. search rules) _ _ c.retain.ensures.filtered in
    let found : request_of reply.xid.0 old.in_flight.items ≡ Some c.in-Some.request.now = search rules in
    let learned : c.hear.new.self ≡ taught_by (request_of reply.xid.0 old.in_flight.items) reply old.kept =
    c.in_ok-hear.ensures.taught ∙ ap (λ (o : Option InFlight). taught_by o reply old.kept) (sym found) in
    rw (kept, learned, ← c.self.view_is) refl

pub returns-clause-sound : goal.returns-clause-sound
returns-clause-sound c =
    let kept : c.retain.new.self.items ≡ without c.args.reply.now.xid.0 c.self.inside.in_flight.items =
    filter_same _ _ _ (λ x b f' k. search rules) _ _ c.retain.ensures.filtered in
    rw kept (sound_heard _ c.args.reply.now.xid.0 c.hear.new.self c.self.invariant c.in_ok-hear.ensures.sound)
