use Rattle.std.proofs.Common.{◌≡◌, sym, ◌∙◌, refl}
use Rattle.lu_judge_acts.specs.Tables.{flight_in, replied_in}
use Rattle.lu_judge_acts.proofs.Flown.{to_client, sent}
use Rattle.lu_judge_acts.proofs.flights.Flights.post.Goals as goal

pub returns-in-Client : goal.returns-in-Client
returns-in-Client c = record {
  shows = λ past shown at number.
      rw c.in-Client.is (record {
        flights = λ t who. shown.flights t who ∙ sym (to_client t who past at number c.in-Client.field-0 c.args.message.now);
        replies = shown.replies;
      });
}

pub returns-in_ok-send-in-Request : goal.returns-in_ok-send-in-Request
returns-in_ok-send-in-Request c = record {
  shows = λ past shown at number.
      let r = c.in-Request.request in
      rw (c.in-Target.is, c.in-Request.is) (record {
        flights = λ t who.
            c.in_ok-send-in-Request.ensures.sent.flights t who
            ∙ sent (flight_in c.args.self.now) (replied_in c.args.self.now) c.in-Target.target t r who
            ∙ rw (shown.flights t who, shown.replies t who r.xid.0) refl;
        replies = λ t who x. rw c.in_ok-send-in-Request.ensures.sent.heard (shown.replies t who x);
      });
}
