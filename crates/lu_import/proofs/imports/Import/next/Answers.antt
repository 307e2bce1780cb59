-- The requests in flight and the one that is sent are sound together.
use Rattle.std.proofs.Common.{◌≡◌, ◌+◌, ◌<◌, ◌≤◌, ◌∙◌, ◌∷◌, [], ◌++◌, length, false, refl, sym, arith, rules}
use Rattle.lu_import.specs.InFlights.{has_tag, front_waits}
use Rattle.lu_import.proofs.Soundness.{sound_sent}
use Rattle.lu_import.proofs.imports.Import.next.Goals as goal

pub invariant_of-self-2 : goal.invariant_of-self-2
invariant_of-self-2 c =
    let requests = c.self.inside.in_flight in
    let tag = c.free_tag-tag.result in
    let lent : c.deref-2.result.now ≡ requests.items = c.deref-2.ensures.value in
    let count : c.len.result ≡ length requests.items = c.len.ensures ∙ requests.ok.0 in
    let room : length requests.items < c.self.inside.flight = omega arith in
    let free : has_tag tag requests.items ≡ false = rw (← lent) c.free_tag-tag.ensures.least.free in
    let within : tag ≤ length requests.items = rw (← lent) c.free_tag-tag.ensures.within in
    let idle : front_waits c.self.inside.target requests.items c.in_ok-op.op ≡ false =
    rw (c.in_ok-op.ensures.same, ← c.deref.ensures.value) (sym c.front_waits.ensures ∙ c.if-front_waits.false) in
    let sent : c.push.new.self.items ≡ requests.items ++ record
    { xid = record { 0 = c.self.inside.last + 1 }; tag = tag; op = c.in_ok-op.op; slot = c.in-Some.front.now.slot } ∷ [] =
    c.in_ok-push.ensures.items in
    rw sent (sound_sent _ _ c.pop_front.new.self.items c.self.invariant room refl free within idle)

pub returns-clause-sound : goal.returns-clause-sound
returns-clause-sound c = invariant_of-self-2 c

pub returns-clause-sent : goal.returns-clause-sent
returns-clause-sent c = record {
  serving = search rules;
  room = search rules;
  slot = c.in-Some.front.now.slot;
  front = search rules;
  unblocked = search rules;
  who = search rules;
  boot = search rules;
  number = search rules;
  tag = search rules;
  range = search rules;
  after = search rules;
}
