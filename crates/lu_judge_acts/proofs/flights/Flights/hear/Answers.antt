use Rattle.std.proofs.Common.{◌≡◌, ◌==◌, ℕ, Bor, List, map, filter, rules, refl, sym, ap, ◌∙◌}
use Rattle.std.specs.Prelude.{not, ◌&&◌, if◌then◌else◌}
use Rattle.std.proofs.lemmas.Fn.{filter_same}
use Rattle.lu_base.specs.declared.ids.Who.{Who}
use Rattle.lu_msg.specs.declared.messages.Request.{Request}
use Rattle.lu_spec_laws.specs.Words.Lives.{who_is, is_by}
use Rattle.lu_spec_laws.specs.Words.Requests.{without_number}
use Rattle.lu_judge_acts.specs.Tables.{is_at, flight_in}
use Rattle.lu_judge_acts.proofs.Flown.{put_back, map_filter, heard_flight, heard_reply}
use Rattle.lu_judge_acts.proofs.flights.Flights.hear.Goals as goal

pub returns : goal.returns
returns c =
    let t0 = c.args.target.0 in
    let y = c.args.xid.0 in
    let who = c.who-who.result in
    let kept : c.retain.new.self.items ≡ filter (λ (r : Bor Request). not (r.now.xid.0 == y)) c.take-flight.result.items =
    filter_same _ _ _ (λ x b f' k. search rules) _ _ c.retain.ensures.filtered in
    let left : map (λ (r : Bor Request). r.now) c.retain.new.self.items ≡ without_number y (flight_in c.args.self.now t0 who) =
    ap (λ (rs : List (Bor Request)). map (λ (r : Bor Request). r.now) rs) kept
    ∙ map_filter (λ (r : Bor Request). r.now) (λ (r : Request). not (r.xid.0 == y)) c.take-flight.result.items
    ∙ ap (without_number y) c.take-flight.ensures.taken in
    record {
      shows = λ past ledger shown.
          let own : who ≡ who_is c.args.client past = c.who-who.ensures.who
          ∙ ap (λ (n : ℕ). let w : Who = record { client = c.args.client; life = n } in w) (ledger.lives c.args.client) in
          record {
            flights = λ t w.
                put_back (is_at t0 who t w) _ _ (without_number y (flight_in c.args.self.now t0 who)) _ _ _ (c.in_ok-put.ensures.put t w)
                (c.take-flight.ensures.rest t w) left
                ∙ heard_flight (flight_in c.args.self.now) c.args.client t0 t y who w past c.args.at c.requires.own own
                ∙ ap (λ (flight : List Request). if is_by w past c.args.at.node && t0 == t then without_number y flight else flight)
                (shown.flights t w);
            replies = λ t w x.
                heard_reply c.args.client t0 t y x who w past c.args.at _ _ _ c.requires.own own
                (rw (c.in_ok-put.ensures.heard ∙ c.take-flight.ensures.heard) at
                (c.in_ok-insert.ensures.updates.0 ((t, (w.client, w.life)), x))) (shown.replies t w x);
          };
    }
