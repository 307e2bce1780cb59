-- Whether a request may be sent.
use Rattle.std.proofs.Common.{◌≡◌, ℕ, Bool, true, false, List, ◌∷◌, refl, sym, ap, subst, ◌∙◌}
use Rattle.std.specs.Prelude.{◌==◌, ◌&&◌, if◌then◌else◌, IsTrue, ◌↔◌}
use Rattle.lu_base.specs.declared.ids.At.{At}
use Rattle.lu_base.specs.declared.ids.Node.TheVariants.{Target}
use Rattle.lu_base.specs.declared.ids.Who.{Who}
use Rattle.lu_msg.specs.declared.messages.Request.{Request as RequestOf}
use Rattle.lu_msg.specs.declared.messages.Message.TheVariants.{Request}
use Rattle.lu_trace.specs.declared.entries.Entry.TheVariants.{Send}
use Rattle.lu_trace.specs.declared.entries.Line.{Line}
use Rattle.lu_spec_machine.specs.Tree.{same_life}
use Rattle.lu_spec_laws.specs.Words.Pasts.{Past}
use Rattle.lu_spec_laws.specs.Words.Requests.{first_request, in_flight}
use Rattle.lu_spec_laws.specs.Laws.Acts.{SameTag, SendsAt}
use Rattle.lu_spec_laws.proofs.Tests.{both, itself, clash}
use Rattle.lu_judge_acts.specs.Flying.{Flies, AllFly}
use Rattle.lu_judge_acts.specs.Tables.{is_at, flight_in, replied_in, flight_after, ShowsFlights}
use Rattle.lu_judge_acts.specs.declared.flights.Flights.{Flights}
use Rattle.lu_judge_acts.proofs.Flown.{sent}

at_itself : (u : ℕ) (w : Who) → is_at u w u w ≡ true
at_itself u w = both (itself u) (both (itself w.client) (itself w.life))

abbrev line : At → ℕ → ℕ → RequestOf → Line
line at number u r = record { at = at; entry = Send number (Target u) (Request r) }

-- what is in flight once it is sent
flight_sent : (t : Flights) (past : Past) (at : At) (number u : ℕ) (r : RequestOf) → ShowsFlights t past → flight_after t u r
    ≡ in_flight u r.who (line at number u r ∷ past)
flight_sent t past at number u r shown =
    ap (λ (b : Bool). if b then flight_after t u r else flight_in t u r.who) (sym (at_itself u r.who))
    ∙ sent (flight_in t) (replied_in t) u u r r.who
    ∙ rw (shown.flights u r.who, shown.replies u r.who r.xid.0) refl

flew : (t : Flights) (past : Past) (u : ℕ) (who : Who) → ShowsFlights t past → AllFly past → Flies u (flight_in t u who)
flew t past u who shown fly = subst (λ (flight : List RequestOf). Flies u flight) (sym (shown.flights u who)) (fly u who)

pub may_fly : (t : Flights) (past : Past) (at : At) (number u : ℕ) (r : RequestOf) (fly tag : Bool) → ShowsFlights t past → AllFly past
    → (Flies u (flight_in t u r.who) → IsTrue fly ↔ Flies u (flight_after t u r)) → IsTrue tag
    ↔ SameTag (first_request past u r.who r.xid.0) r.tag → fly ≡ true
    → IsTrue tag ↔ SendsAt past (line at number u r) (Target u) (Request r)
may_fly t past at number u r fly tag shown all flies tags is =
    let now : Flies u (in_flight u r.who (line at number u r ∷ past)) =
    subst (λ (flight : List RequestOf). Flies u flight) (flight_sent t past at number u r shown)
    ((flies (flew t past u r.who shown all)).0 is) in (
      λ so. record { most = now.most; tags = now.tags; objects = now.objects; one_tag = tags.0 so },
      λ law. tags.1 law.one_tag,
    )

pub may_not_fly : (t : Flights) (past : Past) (at : At) (number u : ℕ) (r : RequestOf) (fly : Bool) → ShowsFlights t past → AllFly past
    → (Flies u (flight_in t u r.who) → IsTrue fly ↔ Flies u (flight_after t u r)) → fly ≡ false
    → IsTrue fly ↔ SendsAt past (line at number u r) (Target u) (Request r)
may_not_fly t past at number u r fly shown all flies is = (
  λ so. absurd (clash fly so is),
  λ law.
      let now : Flies u (in_flight u r.who (line at number u r ∷ past)) = record { most = law.most; tags = law.tags; objects = law.objects }
      in
      let after = subst (λ (flight : List RequestOf). Flies u flight) (sym (flight_sent t past at number u r shown)) now in
      (flies (flew t past u r.who shown all)).1 after,
)
