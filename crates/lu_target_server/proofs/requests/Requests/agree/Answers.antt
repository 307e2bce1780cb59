-- One more agrees.
use Rattle.std.proofs.Common.{rules, ◌≡◌, ◌+◌, ◌&&◌, ◌==◌, ◌∙◌, Bool, true, false, drop, refl, sym, subst}
use Rattle.std.specs.Prelude.{All}
use Rattle.std.proofs.lemmas.List.{drop_more, drop_all}
use Rattle.std.proofs.lemmas.List.Elements.{All-cons, All-nil}
use Rattle.lu_msg.specs.declared.messages.Request.{Request}
use Rattle.lu_spec_entries.specs.Words.{same_life}
use Rattle.lu_spec_target.specs.Locks.{same_request}
use Rattle.lu_target_server.proofs.requests.Requests.agree.Goals as goal
use Rattle.lu_target_server.proofs.requests.Requests.agree.Goals.{else-eq-via-then-eq+then-eq-2+else-other-request}
use Rattle.lu_target_server.proofs.requests.Requests.agree.Goals.{else-eq-via-then-eq+else-eq-2, else-eq-via-else-eq}

-- a request beside this one
abbrev agrees : Request → Request → Type 0
agrees r q = same_request q r ≡ true → q.tag ≡ r.tag

first_of_two : (a b : Bool) → (a && b) ≡ true → a ≡ true
first_of_two true b both = refl
first_of_two false b both = absurd (cc)

second_of_two : (a b : Bool) → (a && b) ≡ true → b ≡ true
second_of_two true b both = both
second_of_two false b both = absurd (cc)

other_life : {X : Type 0} → (a b : Bool) → a ≡ false → (a && b) ≡ true → X
other_life a b unlike both = let like : a ≡ true = first_of_two a b both in absurd (cc)

other_number : {X : Type 0} → (a b : Bool) → b ≡ false → (a && b) ≡ true → X
other_number a b unlike both = let like : b ≡ true = second_of_two a b both in absurd (cc)

pub loop-other-preserved : goal.loop-other-preserved
loop-other-preserved c =
    let r = c.args.request.now in
    let q = c.other-item.result in
    let items = c.deref-other-items.result.now in
    let i = c.loop-other.other-index in
    let here : agrees r q = elim c.else-eq.branch [
      | else-eq-via-then-eq+then-eq-2+else-other-request w ↦ λ same. search rules
      | else-eq-via-then-eq+else-eq-2 w ↦ λ same. let unlike : (q.xid.0 == r.xid.0) ≡ false = search rules
          in other_number (same_life q.who r.who) _ unlike same
      | else-eq-via-else-eq w ↦ λ same. let unlike : same_life q.who r.who ≡ false = search rules
          in other_life _ (q.xid.0 == r.xid.0) unlike same
    ] in
    λ left. c.loop-other.invariant
    (subst (All (agrees r)) (sym (drop_more items i q c.loop-other-test.true))
    (All-cons (agrees r) _ (drop (i + 1) items) (subst (agrees r) c.other-item.is here) left))

pub returns : goal.returns
returns c =
    let r = c.args.request.now in
    let items = c.deref-other-items.result.now in
    record {
      tags = (
        λ t.
            subst (All (agrees r)) (c.deref-other-items.ensures.value ∙ c.self.view_is)
            (c.loop-other.invariant (subst (All (agrees r)) (sym (drop_all c.loop-other.other-index items c.loop-other-test.false))
            (All-nil (agrees r)))),
        λ _. refl,
      );
    }
