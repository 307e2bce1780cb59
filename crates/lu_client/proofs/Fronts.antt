-- What a client sends to a target, front by front, and to each target, is what the rows send, and uses at most 8 numbers.
use Rattle.std.proofs.Common.{◌≡◌, ◌≢◌, ℕ, ◌+◌, ◌<◌, ◌≤◌, Bool, true, false, List, [], ◌∷◌, ◌==◌, length, refl, sym, ap, subst, ◌∙◌, arith}
use Rattle.std.proofs.Common.{add-one}
use Rattle.std.proofs.lemmas.List.{length-append, length-set}
use Rattle.std.proofs.lemmas.Bool.Decides.{nat_tests}
use Rattle.lu_base.specs.declared.ids.Node.TheVariants.{Target}
use Rattle.lu_msg.specs.declared.messages.Message.{Message}
use Rattle.lu_msg.specs.Limits.{tag_count}
use Rattle.lu_trace.specs.Turns.{Making, with_post}
use Rattle.lu_spec_entries.specs.Carried.{Flight}
use Rattle.lu_spec_entries.specs.Words.{Entry, Flies, Send}
use Rattle.lu_spec_client.specs.Imports.{Import, import_of}
use Rattle.lu_spec_client.specs.Sending.{sends_all}
use Rattle.lu_spec_client.specs.States.{Client, Limits, follow}
use Rattle.lu_client_refines.specs.Goes.{Goes}
use Rattle.lu_client_refines.specs.Rounds.{sends_one, sends_left}
use Rattle.lu_client_refines.proofs.Follow.{giving_past, sent, goes_as}
use Rattle.lu_client_refines.proofs.Rounds.{front_turn, front_left_one, sends_step, sends_done}
use Rattle.lu_client_refines.proofs.Sending.{front_is}
use Rattle.lu_client_refines.proofs.Targets.{import_of_set, import_of_other}
use Rattle.lu_client.specs.Clients.{ClientState, Makes}
use Rattle.lu_client.specs.Fronts.{IsNext, IsFrontSent, IsFrontKept, front_row, IsCountedAt, SendsOn, SendsToAll}
use Rattle.lu_client.specs.Numbers.{HasNumbers}
use Rattle.lu_client.proofs.Making.{remains_first, remains_step, remains_end}

-- ---- the front of one target's queue

-- it was sent as this message
module _ (t : ℕ) (old new : ClientState) (before after : Making) (m : Message) (inside : t < length old.client.imports)
    (next : IsNext t old new m)
    (step : after.step ≡ with_post before.at before.step (record { to = Target t; message = m })) (at : after.at ≡ before.at) where
  abbrev k : Client
  k = old.client

  abbrev es : List Entry
  es = Flies t next.front.flight ∷ Send (Target t) m ∷ []

  row_is : front_row t old.client ≡ es
  row_is = front_is old.limits k.who t (import_of t k.imports) next.import m next.front

  went : Goes (λ c. es) old.client new.client before after
  went =
      record {
        gives = sent before after (record { to = Target t; message = m }) step at
            ∙ sym (giving_past before (Flies t next.front.flight) (Send (Target t) m ∷ []) refl refl);
        shows = ap (λ (c : ClientState). c.client) next.shows ∙ front_turn old.limits t k next.import m inside next.front;
      }

  pub front_went : IsFrontSent t old new before after
  front_went =
      record {
        makes = record {
          goes = goes_as (λ c. es) (front_row t) old.client new.client before after (sym row_is) went;
          limits = ap (λ (c : ClientState). c.limits) next.shows;
          spent = ap (λ (c : ClientState). c.spent) next.shows;
        };
        left = front_left_one old.limits t k next.import m inside next.front
            ∙ ap (λ (xs : List Entry). follow xs (sends_one old.limits t) k) (sym row_is);
        import = next.import;
        shows = ap (λ (c : ClientState). c.client.imports) next.shows;
        number = ap (λ (i : Import). i.last) next.front.shows ∙ ap (λ (f : Flight). f.xid) next.front.next;
        flights = ap (λ (i : Import). length i.flights) next.front.shows
            ∙ length-append (import_of t k.imports).flights (next.front.flight ∷ []);
        shorter = ap length next.front.waits ∙ sym (add-one (length next.import.queue));
        room = next.room;
      }

-- ---- one target

-- nothing was sent yet
pub sends_begun : (t : ℕ) (c : ClientState) (making : Making) → SendsOn t c c making making
sends_begun t c making =
    record {
      remains = remains_first (sends_one c.limits t) c making;
      used = refl;
      counted = record { here = omega arith; others = λ u apart. refl; count = refl };
    }

-- the front was sent
module _ (t : ℕ) (first now next : ClientState) (before making after : Making) (inside : t < length first.client.imports)
    (so_far : SendsOn t first now before making) (front : IsFrontSent t now next making after) where
  now_inside : t < length now.client.imports
  now_inside = subst (λ (n : ℕ). t < n) (sym so_far.counted.count) inside

  here : import_of t next.client.imports ≡ front.import
  here = ap (import_of t) front.shows ∙ import_of_set t now.client.imports front.import now_inside

  last_here : (import_of t next.client.imports).last ≡ (import_of t now.client.imports).last + 1
  last_here = ap (λ (i : Import). i.last) here ∙ front.number

  flights_here : length (import_of t next.client.imports).flights ≡ length (import_of t now.client.imports).flights + 1
  flights_here = ap (λ (i : Import). length i.flights) here ∙ front.flights

  room_here : length (import_of t next.client.imports).flights ≤ tag_count
  room_here = subst (λ (i : Import). length i.flights ≤ tag_count) (sym here) front.room

  used_next : (import_of t next.client.imports).last + length (import_of t first.client.imports).flights
      ≡ (import_of t first.client.imports).last + length (import_of t next.client.imports).flights
  used_next = let used = so_far.used in omega (arith, used, last_here, flights_here)

  here_next : (import_of t next.client.imports).last ≤ (import_of t first.client.imports).last + tag_count
  here_next = let used = used_next in let room = room_here in omega (arith, used, room)

  pub sends_next : SendsOn t first next before after
  sends_next =
      record {
        remains = remains_step (subst (λ (l : Limits). sends_one l t now.client
            ≡ follow (front_row t now.client) (sends_one l t) now.client) so_far.remains.limits front.left) so_far.remains front.makes;
        used = used_next;
        counted = record {
          here = here_next;
          others = λ u apart. ap (import_of u) front.shows ∙ import_of_other t u now.client.imports front.import apart
              ∙ so_far.counted.others u apart;
          count = ap length front.shows ∙ length-set now.client.imports t front.import ∙ so_far.counted.count;
        };
      }

  -- and one fewer waits
  pub shorter_next : length (import_of t next.client.imports).queue < length (import_of t now.client.imports).queue
  shorter_next = let shorter : length (import_of t next.client.imports).queue + 1 ≡ length (import_of t now.client.imports).queue =
      ap (λ (i : Import). length i.queue + 1) here ∙ sym front.shorter in omega (arith, shorter)

-- nothing more may be sent
pub sends_ended : (t : ℕ) (first now next : ClientState) (before making after : Making) → SendsOn t first now before making
    → IsFrontKept t now next making after → SendsOn t first next before after
sends_ended t first now next before making after so_far kept =
    subst (λ (c : ClientState). SendsOn t first c before after) (sym kept.rests.stays)
    (subst (λ (m : Making). SendsOn t first now before m) (sym kept.given) so_far)

pub sends_whole_of : (t : ℕ) (first now next : ClientState) (before making after : Making) → SendsOn t first now before making
    → IsFrontKept t now next making after → Makes (sends_one first.limits t) first next before after
sends_whole_of t first now next before making after so_far kept =
    let ended : SendsOn t first next before after = sends_ended t first now next before making after so_far kept in
    let none : sends_one first.limits t now.client ≡ [] = subst (λ (l : Limits). sends_one l t now.client ≡ []) so_far.remains.limits
    kept.rests.row in
    remains_end (subst (λ (c : ClientState). sends_one first.limits t c.client ≡ []) (sym kept.rests.stays) none) ended.remains

-- the number that the next one takes
pub number_left : (t : ℕ) (first now : ClientState) (before making : Making) → SendsOn t first now before making
    → (import_of t first.client.imports).last < 9223372036854775808 → (import_of t now.client.imports).last + 1 < 18446744073709551616
number_left t first now before making so_far few = let here = so_far.counted.here in omega (arith, here, few)

-- ---- all targets

pub all_begun : (c : ClientState) (making : Making) → SendsToAll 0 c c making making
all_begun c making =
    record {
      remains = remains_first (sends_left c.limits 0) c making;
      counted = λ u. omega arith;
      still = λ u past. refl;
      count = refl;
    }

-- one target's were sent
module _ (t : ℕ) (first now next : ClientState) (before making after : Making) (inside : t < length first.client.imports)
    (so_far : SendsToAll t first now before making)
    (makes : Makes (sends_one now.limits t) now next making after) (counted : IsCountedAt t now.client.imports next.client.imports) where
  counted_next : (u : ℕ) → (import_of u next.client.imports).last ≤ (import_of u first.client.imports).last + tag_count
  counted_next u = by (u == t) refl where
    by : (same : Bool) → (u == t) ≡ same → (import_of u next.client.imports).last ≤ (import_of u first.client.imports).last + tag_count
    by true e =
        let same : t ≡ u = grind (arith, nat_tests) in
        let here : (import_of u next.client.imports).last ≤ (import_of u now.client.imports).last + tag_count =
        subst (λ v. (import_of v next.client.imports).last ≤ (import_of v now.client.imports).last + tag_count) same counted.here in
        let still : (import_of u now.client.imports).last ≡ (import_of u first.client.imports).last =
        ap (λ (i : Import). i.last) (so_far.still u (omega (arith, same))) in
        omega (arith, here, still)
    by false e =
        let apart : u ≢ t = grind (arith, nat_tests) in
        let other : (import_of u next.client.imports).last ≡ (import_of u now.client.imports).last =
        ap (λ (i : Import). i.last) (counted.others u apart) in
        let old = so_far.counted u in
        omega (arith, other, old)

  pub all_next : SendsToAll (t + 1) first next before after
  all_next =
      record {
        remains = remains_step (sends_step first.limits t now.client (subst (λ (n : ℕ). t < n) (sym so_far.count) inside)) so_far.remains
            (subst (λ (l : Limits). Makes (sends_one l t) now next making after) so_far.remains.limits makes);
        counted = counted_next;
        still = λ u past. let apart : u ≢ t = λ same. omega (arith, same, past) in counted.others u apart
            ∙ so_far.still u (omega (arith, past));
        count = counted.count ∙ so_far.count;
      }

-- to all of them
pub all_ended : (t : ℕ) (first now : ClientState) (before making : Making) → length first.client.imports ≤ t
    → SendsToAll t first now before making → Makes (λ k. sends_all first.limits k.who 0 k.imports) first now before making
all_ended t first now before making past so_far = remains_end (sends_done first.limits t now.client
    (subst (λ (n : ℕ). n ≤ t) (sym so_far.count) past)) so_far.remains

-- there is a number for what the target is asked next
pub number_of : (t u : ℕ) (first now : ClientState) (before making : Making) → t ≤ u → SendsToAll t first now before making
    → HasNumbers first.client.imports → (import_of u now.client.imports).last < 9223372036854775808
number_of t u first now before making past so_far numbers = subst (λ (i : Import). i.last < 9223372036854775808) (sym (so_far.still u past))
    (numbers u)
