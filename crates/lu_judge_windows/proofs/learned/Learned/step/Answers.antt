use Rattle.std.proofs.Common.{◌≡◌, map}
use Rattle.lu_spec_laws.specs.Words.Lives.{who_is}
use Rattle.lu_spec_laws.specs.Words.Learned.{is_reply_to, is_grant_to, carries, names, lets_see}
use Rattle.lu_judge_pass.specs.Tables.{sending_of}
use Rattle.lu_judge_windows.proofs.LearnedLines.{who_now, learns, learns_first, learns_second}
use Rattle.lu_judge_windows.proofs.learned.Learned.step.Goals as goal

pub returns-in_ok-hear-in-Client : goal.returns-in_ok-hear-in-Client
returns-in_ok-hear-in-Client c = record {
  shows = λ past ordered follows ledger shown.
      let life_is : c.who.result ≡ who_is c.in-Client.client past = who_now _ _ past _ c.who.ensures.who (ledger.lives c.in-Client.client)
      in
      let took = c.taken-taken.ensures.taken past ledger.present ordered follows in
      rw c.in-Heard.is (record {
        heard = λ t w n.
            learns (λ k v. is_reply_to (carries n) k v c.in-Heard.xid.0) c.in-Heard.target.0 c.in-Client.client c.who.result past
            c.args.line.now.at c.in-Client.is (map sending_of c.taken-taken.result.now) life_is took t w _ _ _
            (c.in_ok-hear-in-Client.ensures.heard t w n) (shown.heard t w n);
        saw = λ t w n.
            learns_first (λ k v. is_reply_to (names n) k v c.in-Heard.xid.0) c.in-Heard.target.0 c.in-Client.client c.who.result past
            c.args.line.now.at c.in-Client.is (map sending_of c.taken-taken.result.now) life_is took t w _ _ _ _
            (c.in_ok-hear-in-Client.ensures.saw t w n) (shown.saw t w n);
      });
}

pub returns-in_ok-hold-in-Client-node : goal.returns-in_ok-hold-in-Client-node
returns-in_ok-hold-in-Client-node c = record {
  shows = λ past ordered follows ledger shown.
      let life_is : c.who-in-Client-node.result ≡ who_is c.in-Client-node.client past =
      who_now _ _ past _ c.who-in-Client-node.ensures.who (ledger.lives c.in-Client-node.client) in
      let took = c.taken-taken.ensures.taken past ledger.present ordered follows in
      rw c.in-Hold.is (record {
        heard = λ t w n. rw c.in_ok-hold-in-Client-node.ensures.heard (shown.heard t w n);
        saw = λ t w n.
            learns_second (λ k v. is_grant_to (lets_see n) k v c.in-Hold.cookie.0) c.in-Hold.target.0 c.in-Client-node.client
            c.who-in-Client-node.result past c.args.line.now.at c.in-Client-node.is (map sending_of c.taken-taken.result.now) life_is
            took t w _ _ _ _ (c.in_ok-hold-in-Client-node.ensures.saw t w n) (shown.saw t w n);
      });
}
