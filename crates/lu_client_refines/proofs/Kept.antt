-- What an import keeps for a recovery is what the rows keep of it.
use Rattle.std.proofs.Common.{◌≡◌, ℕ, ◌==◌, max, Bool, true, false, cond, nat_lt, if◌then◌else◌, List, [], ◌∷◌, map, filter, Option, refl}
use Rattle.std.proofs.Common.{sym, ap, ◌∙◌, arith}
use Rattle.lu_base.specs.declared.locks.Lock.{Lock}
use Rattle.lu_msg.specs.declared.messages.Reply.{Reply}
use Rattle.lu_import.specs.declared.requests.InFlight.{InFlight}
use Rattle.lu_import.specs.Kept as own
use Rattle.lu_spec_entries.specs.Carried.{Flight}
use Rattle.lu_spec_entries.specs.Words.{Heard, Hold, Settles}
use Rattle.lu_spec_client.specs.Imports as row
use Rattle.lu_client_refines.specs.Imports.{flight_of, replay_of, kept_of}
use Rattle.lu_client_refines.proofs.Numbers.{filter_above, numbers_there}

-- ---- numbers that are seen, and what is settled

number_is : (n : ℕ) (seen : List ℕ) → own.with_number n seen ≡ row.with_number n seen
number_is n [] = refl
number_is n (m ∷ seen) = ap (λ (more : List ℕ). if nat_lt m n then m ∷ more else if m == n then m ∷ seen else n ∷ m ∷ seen)
    (number_is n seen)

numbers_are : (numbers seen : List ℕ) → own.with_numbers numbers seen ≡ row.with_numbers numbers seen
numbers_are [] seen = refl
numbers_are (n ∷ numbers) seen = numbers_are numbers (own.with_number n seen) ∙ ap (row.with_numbers numbers) (number_is n seen)

filtered : (n : ℕ) (replays : List own.Replay) → map replay_of (filter (λ (r : own.Replay). nat_lt n r.txn.0) replays)
    ≡ filter (λ (r : row.Replay). nat_lt n r.txn.0) (map replay_of replays)
filtered n [] = refl
filtered n (r ∷ replays) = by (nat_lt n r.txn.0) (filtered n replays) where
  by : (above : Bool) → map replay_of (filter (λ (r : own.Replay). nat_lt n r.txn.0) replays)
      ≡ filter (λ (r : row.Replay). nat_lt n r.txn.0) (map replay_of replays)
      → map replay_of (cond above (r ∷ filter (λ (r : own.Replay). nat_lt n r.txn.0) replays)
      (filter (λ (r : own.Replay). nat_lt n r.txn.0) replays))
      ≡ cond above (replay_of r ∷ filter (λ (r : row.Replay). nat_lt n r.txn.0) (map replay_of replays))
      (filter (λ (r : row.Replay). nat_lt n r.txn.0) (map replay_of replays))
  by true rest = ap (λ (more : List row.Replay). replay_of r ∷ more) rest
  by false rest = rest

-- all up to a number is committed
pub settled_is : (n : ℕ) (kept : own.KeptState) → kept_of (own.settled n kept) ≡ row.settled n (kept_of kept)
settled_is n kept =
    ap (λ (replays : List row.Replay). record {
      committed = max n kept.committed;
      seen = filter (nat_lt (max n kept.committed)) kept.seen;
      replays = replays;
    }) (filtered (max n kept.committed) kept.replays)

-- a committed number, and numbers that are seen
noted_is : (n : ℕ) (seen : List ℕ) (kept : own.KeptState) → kept_of (own.noted n seen kept)
    ≡ row.settled n (record (kept_of kept) { seen = row.with_numbers seen kept.seen })
noted_is n seen kept =
    settled_is n (record kept { seen = own.with_numbers seen kept.seen })
    ∙ ap (λ (numbers : List ℕ). row.settled n (record (kept_of kept) { seen = numbers })) (numbers_are seen kept.seen)

-- ---- a reply is heard

put_is : (r : own.Replay) (replays : List own.Replay) → map replay_of (own.with_replay r replays)
    ≡ row.with_replay (replay_of r) (map replay_of replays)
put_is r [] = refl
put_is r (q ∷ replays) = by (nat_lt q.txn.0 r.txn.0) (q.txn.0 == r.txn.0) (put_is r replays) where
  by : (below same : Bool) → map replay_of (own.with_replay r replays) ≡ row.with_replay (replay_of r) (map replay_of replays)
      → map replay_of (if below then q ∷ own.with_replay r replays else if same then r ∷ replays else r ∷ q ∷ replays)
      ≡ (if below then replay_of q ∷ row.with_replay (replay_of r) (map replay_of replays) else if same then replay_of r
      ∷ map replay_of replays else replay_of r ∷ replay_of q ∷ map replay_of replays)
  by true same rest = ap (λ (more : List row.Replay). replay_of q ∷ more) rest
  by false true rest = refl
  by false false rest = refl

-- what the reply to a request teaches
pub taught_is : (t : ℕ) (request : InFlight) (reply : Reply) (kept : own.KeptState) → kept_of (own.taught request reply kept)
    ≡ row.kept_after (kept_of kept) (Heard t (flight_of request) reply)
taught_is t request reply kept =
    noted_is reply.committed.0 reply.seen (record kept { replays = own.with_reply request reply kept.replays })
    ∙ ap (λ (replays : List row.Replay). row.settled reply.committed.0
    (record { committed = kept.committed; seen = row.with_numbers reply.seen kept.seen; replays = replays })) (by (reply.txn.0 == 0))
  where
    by : (none : Bool) → map replay_of (if none then kept.replays else own.with_replay (own.replay_to request reply) kept.replays)
        ≡ (if none then map replay_of kept.replays else row.with_replay (row.replay_of (flight_of request) reply)
        (map replay_of kept.replays))
    by true = refl
    by false = put_is (own.replay_to request reply) kept.replays

-- ---- a granted lock tells numbers that are seen

-- what is settled twice
settled_twice : (n m : ℕ) (k : row.Kept) → row.settled n (row.settled m k) ≡ row.settled_at (max n (max m k.committed)) k
settled_twice n m k =
    let low : ℕ = max m k.committed in
    let high : ℕ = max n low in
    ap (λ (ns : List ℕ). record {
      committed = high;
      seen = ns;
      replays =
          filter (λ (r : row.Replay). nat_lt high r.txn.0) (filter (λ (r : row.Replay). nat_lt low r.txn.0) k.replays);
    })
    (filter_above (λ (i : ℕ). i) low high (omega arith) k.seen)
    ∙ ap (λ (rs : List row.Replay). record { committed = high; seen = filter (nat_lt high) k.seen; replays = rs })
    (filter_above (λ (r : row.Replay). r.txn.0) low high (omega arith) k.replays)

-- a grant that is noted: its numbers are seen, and then what it says is committed is settled
pub noted_as : (t : ℕ) (l : Lock) (marked : Bool) (size : Option ℕ) (n : ℕ) (seen : List ℕ) (kept : own.KeptState)
    → kept_of (own.noted n seen kept) ≡ row.kept_after (row.kept_after (kept_of kept) (Hold t l marked size seen)) (Settles t n)
noted_as t l marked size n seen kept =
    let now : row.Kept = record (kept_of kept) { seen = row.with_numbers seen kept.seen } in
    let same : max n (max 0 kept.committed) ≡ max n kept.committed = omega arith in
    noted_is n seen kept ∙ sym (settled_twice n 0 now ∙ ap (λ (to : ℕ). row.settled_at to now) same)

-- ---- a lock that comes with a reply tells what the reply has told

-- numbers that are seen and settled already
pub told_twice : (n : ℕ) (seen : List ℕ) (k : row.Kept) → row.settled 0
    (record (row.settled n (record k { seen = row.with_numbers seen k.seen }))
    { seen = row.with_numbers seen (row.settled n (record k { seen = row.with_numbers seen k.seen })).seen })
    ≡ row.settled n (record k { seen = row.with_numbers seen k.seen })
told_twice n seen k =
    let at : ℕ = max n k.committed in
    let same : max 0 at ≡ at = omega arith in
    let numbers : List ℕ = row.with_numbers seen k.seen in
    ap (λ (to : ℕ). row.settled_at to (record {
      committed = at;
      seen = row.with_numbers seen (filter (nat_lt at) numbers);
      replays =
          filter (λ (r : row.Replay). nat_lt at r.txn.0) k.replays;
    })) same
    ∙ ap (λ (ns : List ℕ). record {
      committed = at;
      seen = ns;
      replays =
          filter (λ (r : row.Replay). nat_lt at r.txn.0) (filter (λ (r : row.Replay). nat_lt at r.txn.0) k.replays);
    })
    (numbers_there at seen k.seen)
    ∙ ap (λ (rs : List row.Replay). record { committed = at; seen = filter (nat_lt at) numbers; replays = rs })
    (filter_above (λ (r : row.Replay). r.txn.0) at at (omega arith) k.replays)

-- after a reply was heard, a lock with the reply's numbers leaves what is kept
pub hold_quiet : (k : row.Kept) (t : ℕ) (f : Flight) (r : Reply) (u : ℕ) (l : Lock) (marked : Bool) (size : Option ℕ)
    → row.kept_after (row.kept_after k (Heard t f r)) (Hold u l marked size r.seen) ≡ row.kept_after k (Heard t f r)
hold_quiet k t f r u l marked size = told_twice r.committed.0 r.seen (record k { replays = row.with_reply f r k.replays })
