use Rattle.std.proofs.Common.{◌≡◌, List, ◌∷◌, Bor, map, true, refl, sym, ap, ◌∙◌}
use Rattle.std.specs.List.{insert}
use Rattle.lu_msg.specs.declared.messages.Request.{Request}
use Rattle.lu_judge_acts.specs.Tables.{is_at, flight_in, flight_after, adds}
use Rattle.lu_judge_acts.proofs.Flown.{none_added, put_back, insert_front, adds_one}
use Rattle.lu_judge_acts.proofs.flights.Flights.send.Goals as goal

pub returns-then-not-adds : goal.returns-then-not-adds
returns-then-not-adds c = record {
  sent = record {
    flights = λ t who. none_added (flight_in c.args.self.now) c.args.target c.args.request.now.who t who
        (adds c.args.self.now c.args.target c.args.request.now) _ (sym c.adds.ensures.adds ∙ c.if-not-adds.true);
    heard = refl;
  };
}

pub returns : goal.returns
returns c =
    let r = c.args.request.now in
    let items : c.insert.new.self.items ≡ insert c.take-flight.result.items 0 c.args.request = c.in_ok-insert.ensures.items in
    let added : adds c.args.self.now c.args.target r ≡ true = sym c.adds.ensures.adds ∙ c.if-not-adds.false in
    let all : map (λ (q : Bor Request). q.now) c.insert.new.self.items ≡ flight_after c.args.self.now c.args.target r =
    ap (λ (qs : List (Bor Request)). map (λ (q : Bor Request). q.now) qs) (items ∙ insert_front c.take-flight.result.items c.args.request)
    ∙ ap (λ (rs : List Request). r ∷ rs) c.take-flight.ensures.taken
    ∙ adds_one (adds c.args.self.now c.args.target r) r (flight_in c.args.self.now c.args.target r.who) added in
    record {
      sent = record {
        flights = λ t who. put_back (is_at c.args.target r.who t who) _ _ (flight_after c.args.self.now c.args.target r) _ _ _
            (c.in_ok-put.ensures.put t who) (c.take-flight.ensures.rest t who) all;
        heard = c.in_ok-put.ensures.heard ∙ c.take-flight.ensures.heard;
      };
    }
