-- The turns of a client in a covered run, event by event: each line is allowed, nothing is owed at the end, and then each call waits, for
-- its reply, for a lock, or for other calls; no held lock that isn't pinned is marked where its target serves the life, but one to write
-- under;
-- handles are bound as calls say, and as many calls wait for each lock as its target let wait.
use Rattle.std.proofs.Common.{ℕ, ◌≤◌, List, ◌∷◌, Option, inl, inr, refl, sym, subst}
use Rattle.std.specs.Prelude.{nat_lt}
use Rattle.lu_base.specs.declared.ids.At.{At}
use Rattle.lu_base.specs.declared.ids.Node.{Node}
use Rattle.lu_base.specs.declared.ids.Node.TheVariants.{Client, Target}
use Rattle.lu_base.specs.declared.ids.Stamp.{Stamp}
use Rattle.lu_msg.specs.declared.messages.Message.{Message}
use Rattle.lu_msg.specs.declared.messages.Message.TheVariants as message
use Rattle.lu_held.specs.Locks.{named}
use Rattle.lu_spec_entries.specs.Carried.{Running}
use Rattle.lu_spec_entries.specs.Words.{Take, Tick, Die, Line, line, with_turn, same_life}
use Rattle.lu_spec_entries.specs.Sent.{Sent}
use Rattle.lu_spec_client.specs.Imports.{import_of}
use Rattle.lu_spec_client.specs.Messages.{is_present, comes_by}
use Rattle.lu_spec_client.specs.Recovery.{ticks}
use Rattle.lu_spec_client.specs.Rows.{Event, Begins, Comes as ComesTo, Ticks, Dies, rests, row_call, row_takes, row_tick, row}
use Rattle.lu_proof_lawful.specs.Covered.Calls.{call_at}
use Rattle.lu_proof_lawful.specs.Covered.Runs.{AllCovered}
use Rattle.lu_spec_run.specs.Heads as table
use Rattle.lu_spec_run.specs.Runs.{limits_of, client_of, MeetsClient}
use Rattle.lu_proof_lawful.proofs.Preconditions.Grown.{Grown, Noted}
use Rattle.lu_proof_lawful.proofs.Preconditions.Lists.{turn}
use Rattle.lu_proof_lawful.proofs.Preconditions.Only.{sent_was}
use Rattle.lu_proof_lawful.proofs.Preconditions.Ends.{closes_after}
use Rattle.lu_proof_lawful.proofs.Preconditions.Turns.{Settled, owes_nothing, backs_none, marks_none, shows_none, noted_client, steps_after}
use Rattle.lu_proof_lawful.proofs.Preconditions.ClientLines.{comes_to, was_there}
use Rattle.lu_proof_lawful.proofs.Preconditions.ClientGood.{Between, Ended, the_head, followed}
use Rattle.lu_proof_lawful.proofs.Preconditions.ClientCalls.{on_small}
use Rattle.lu_proof_lawful.proofs.Preconditions.TurnStarts.{Starts, took_good}
use Rattle.lu_proof_lawful.proofs.Preconditions.Awaits.{Awaits}
use Rattle.lu_proof_lawful.proofs.Preconditions.AwaitsRows.{rests_let}
use Rattle.lu_proof_lawful.proofs.Preconditions.AwaitsTurns.{call_awaits, tick_awaits, death_awaits, took_awaits, asked_awaits}
use Rattle.lu_proof_lawful.proofs.Preconditions.AwaitsTurns.{up_heard_awaits, ready_heard_awaits, evicted_heard_awaits, blocked_awaits}
use Rattle.lu_proof_lawful.proofs.Preconditions.ClientStarts.{after_ends}
use Rattle.lu_proof_lawful.proofs.Preconditions.ClientBegins.{call_ends}
use Rattle.lu_proof_lawful.proofs.Preconditions.ClientResends.{tick_rested, ready_calm}
use Rattle.lu_proof_lawful.proofs.Preconditions.ClientRecovers.{up_rested}
use Rattle.lu_proof_lawful.proofs.Preconditions.ClientReplies.{Comes, reply_after}
use Rattle.lu_proof_lawful.proofs.Preconditions.ClientGrants.{grant_after}
use Rattle.lu_proof_lawful.proofs.Preconditions.ClientBlocks.{block_rested}
use Rattle.lu_proof_lawful.proofs.Preconditions.ClientAsked.{ask_rested}
use Rattle.lu_proof_lawful.proofs.Preconditions.ClientEndings.{evicted_rested}

module _ (head : table.Head) (c : ℕ) (stamp : Stamp) where
  abbrev at : At
  at = turn stamp (Client c)

  -- ---- a message comes

  -- of a target that there is
  is_there : (p : List Line) (n t : ℕ) (m : Message) → Starts head c stamp p → Sent p n (Target t) (Client c) m → t ≤ head.osts
  is_there p n t m s sent = was_there head.osts t (Client c) m p s.there (sent_was p n (Target t) (Client c) m sent)

  taken : (p : List Line) (n t : ℕ) (m : Message) → Starts head c stamp p → Awaits c (line at (Take n (Target t) m) ∷ p)
  taken p n t m s = took_awaits head c stamp p n (Target t) m s.awaits

  comes_after : (p : List Line) (n t : ℕ) (m : Message) → Starts head c stamp p → Sent p n (Target t) (Client c) m
      → Comes head c stamp (with_turn at (comes_by at (Target t) m (client_of head c p)) (line at (Take n (Target t) m) ∷ p))
  comes_after p n t (message.Reply r) s sent = reply_after head c stamp p n t r s (is_there p n t (message.Reply r) s sent) sent
  comes_after p n t (message.Grant g) s sent = grant_after head c stamp p n t g s (is_there p n t (message.Grant g) s sent) sent
  comes_after p n t (message.Block who boot cookie) s sent =
      let m = message.Block who boot cookie in (
        inl (block_rested head c stamp p n t who boot cookie s (is_there p n t m s sent) sent),
        blocked_awaits head c stamp (named (record { 0 = t }) cookie) (same_life who (client_of head c p).who)
            (line at (Take n (Target t) m) ∷ p) (taken p n t m s),
      )
  comes_after p n t (message.Ask who boot cookie for_who xid) s sent =
      let m = message.Ask who boot cookie for_who xid in (
        inl (ask_rested head c stamp p n t who boot cookie for_who xid s (is_there p n t m s sent) sent),
        asked_awaits head c stamp t (record { cookie = cookie; for_who = for_who; xid = xid }) (client_of head c p)
            (same_life who (client_of head c p).who) (line at (Take n (Target t) m) ∷ p) (taken p n t m s),
      )
  comes_after p n t (message.Ready who boot committed) s sent =
      let m = message.Ready who boot committed in (
        inr (inl (ready_calm head c stamp p n t who boot committed s (is_there p n t m s sent) sent)),
        ready_heard_awaits head c stamp t boot committed.0 (line at (Take n (Target t) m) ∷ p) (is_present who boot t (client_of head c p))
            (taken p n t m s),
      )
  comes_after p n t (message.Up boot) s sent =
      let m = message.Up boot in (
        inl (up_rested head c stamp p n t boot s (is_there p n t m s sent) sent),
        up_heard_awaits head c stamp t boot (line at (Take n (Target t) m) ∷ p)
            (nat_lt (import_of t (client_of head c p).imports).boot boot) (is_there p n t m s sent)
            (took_good head c stamp p n t m s sent).grown (taken p n t m s),
      )
  comes_after p n t (message.Evicted who boot) s sent =
      let m = message.Evicted who boot in
      let r = evicted_rested head c stamp p n t who boot s sent in (
        inl r,
        evicted_heard_awaits head c stamp (line at (Take n (Target t) m) ∷ p) (same_life who (client_of head c p).who) r.good.grown
            (taken p n t m s),
      )
  comes_after p n t m s sent = absurd (comes_to (the_head head c stamp) p (Target t) c m s.grown
      (sent_was p n (Target t) (Client c) m sent))

  -- ---- all of them

  -- after a turn
  pub record Closed (p : List Line) : Type 0 where
    pub grown : Grown (the_head head c stamp) p
    pub settled : Settled p
    pub noted : Noted (the_head head c stamp) p
    pub between : Between c p
    pub awaits : Awaits c p

  closed : (p : List Line) → Ended head c at p → Awaits c p → Closed p
  closed p e a = record { grown = e.good.grown; settled = e.settled; noted = e.good.noted; between = e.between; awaits = a }

  takes_closed : (p : List Line) (n : ℕ) (from : Node) (m : Message) → Starts head c stamp p → Sent p n from (Client c) m
      → AllCovered (with_turn at (row_takes (limits_of head) at n from m (client_of head c p)) p)
      → Closed (with_turn at (row_takes (limits_of head) at n from m (client_of head c p)) p)
  takes_closed p n (Client d) m s sent covered = absurd (comes_to (the_head head c stamp) p (Client d) c m s.grown
      (sent_was p n (Client d) (Client c) m sent))
  takes_closed p n (Target t) m s sent covered =
      let k = client_of head c p in
      let es = Take n (Target t) m ∷ comes_by at (Target t) m k in
      let all = followed head c stamp es (rests (limits_of head) at) p in
      let came = comes_after p n t m s sent in
      let p1 = with_turn at es p in
      subst Closed (sym all) (closed (with_turn at (rests (limits_of head) at (client_of head c p1)) p1)
      (after_ends head c stamp p1 came.0 (subst AllCovered all covered)) (rests_let head c stamp p1 came.1))

  tick_ends : (p : List Line) → Starts head c stamp p → AllCovered (with_turn at (row_tick (limits_of head) at (client_of head c p)) p)
      → Ended head c at (with_turn at (row_tick (limits_of head) at (client_of head c p)) p)
  tick_ends p s covered =
      let k = client_of head c p in
      let es = Tick ∷ ticks 0 k.imports k in
      let all = followed head c stamp es (rests (limits_of head) at) p in
      subst (Ended head c at) (sym all) (after_ends head c stamp (with_turn at es p) (inl (tick_rested head c stamp p s))
      (subst AllCovered all covered))

  pub client_ok : (p : List Line) (event : Event) → Starts head c stamp p → MeetsClient head p c event
      → AllCovered (with_turn at (row (limits_of head) at event (client_of head c p)) p)
      → Closed (with_turn at (row (limits_of head) at event (client_of head c p)) p)
  client_ok p (Begins slot wanted) s meets covered =
      let k = client_of head c p in
      subst (λ (x : Option Running). AllCovered (with_turn at (row_call (limits_of head) at slot wanted k x) p)
      → Closed (with_turn at (row_call (limits_of head) at slot wanted k x) p)) (sym (on_small c slot p meets.1))
      (λ cov.
      closed (with_turn at (row_call (limits_of head) at slot wanted k (call_at c slot p)) p)
      (call_ends head c stamp p slot wanted s meets.1 meets.2 (call_at c slot p) refl cov)
      (call_awaits head c stamp slot wanted p (call_at c slot p) refl s.awaits)) covered
  client_ok p (ComesTo n from m) s meets covered = takes_closed p n from m s meets.1 covered
  client_ok p Ticks s meets covered = closed (with_turn at (row_tick (limits_of head) at (client_of head c p)) p) (tick_ends p s covered)
      (tick_awaits head c stamp p s.awaits)
  client_ok p Dies s meets covered =
      record {
        grown = (
          record {
            steps = steps_after p at s.later;
            closes = closes_after p at s.closed;
            backs = backs_none (the_head head c stamp) p at Die s.noted;
            marks = marks_none (the_head head c stamp) p at Die s.noted;
            shows = shows_none (the_head head c stamp) p at Die s.noted;
            lives = s.alive;
            owes = owes_nothing p at Die s.settled;
            ok = s.later;
            of = λ t e. tt;
          },
          s.grown,
        );
        settled = tt;
        noted = noted_client (the_head head c stamp) p stamp c Die s.later s.noted;
        between = record { idle = s.between.idle; handles = s.between.handles; calm = s.between.calm };
        awaits = death_awaits head c stamp p s.awaits;
      }
