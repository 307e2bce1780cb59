-- What a life keeps for a recovery, list by list: numbers in their places, replays in theirs, and what is forgotten once it is committed.
use Rattle.std.proofs.Common.{◌≡◌, ℕ, ◌<◌, ◌≤◌, Bool, true, false, List, [], ◌∷◌, ◌⊎◌, inl, inr, ⊎_elim, refl, sym, subst, ap, ◌∙◌, arith}
use Rattle.std.specs.Prelude.{max, nat_eq, nat_lt, if◌then◌else◌}
use Rattle.std.specs.List.{filter}
use Rattle.std.proofs.lemmas.Bool.{cond_both, eqb-true, eqb-false, ltb-true, ltb-false}
use Rattle.lu_msg.specs.declared.messages.Reply.{Reply as ReplyTo}
use Rattle.lu_msg.specs.declared.commits.Transaction.{Transaction}
use Rattle.lu_spec_entries.specs.Carried.{Flight}
use Rattle.lu_spec_target.specs.Stored.{last_number}
use Rattle.lu_spec_client.specs.Imports.{Replay, Kept, with_number, with_numbers, with_replay, replay_of, with_reply, settled}
use Rattle.lu_proof_lawful.proofs.Preconditions.Guards.{In}
use Rattle.lu_proof_lawful.proofs.Preconditions.Lists.{in_filter, in_filtered}
use Rattle.lu_proof_lawful.proofs.Preconditions.NamesGrant.{in_with_replay}
use Rattle.lu_proof_lawful.proofs.Invariants.Groups.{ReplaysRise}

-- ---- numbers

pub number_in : (n x : ℕ) (ms : List ℕ) → In x (with_number n ms) → (n ≡ x) ⊎ In x ms
number_in n x [] i = i
number_in n x (m ∷ ms) i =
    cond_both (nat_lt m n) (m ∷ with_number n ms) (if nat_eq m n then m ∷ ms else n ∷ m ∷ ms)
    (λ (zs : List ℕ). In x zs → (n ≡ x) ⊎ In x (m ∷ ms))
    (λ t j. ⊎_elim (λ (e : m ≡ x). inr (inl e)) (λ (k : In x (with_number n ms)). ⊎_elim (λ (e : n ≡ x). inl e)
    (λ (o : In x ms). inr (inr o)) (number_in n x ms k)) j)
    (λ t. cond_both (nat_eq m n) (m ∷ ms) (n ∷ m ∷ ms) (λ (zs : List ℕ). In x zs → (n ≡ x) ⊎ In x (m ∷ ms)) (λ u j. inr j) (λ u j. j))
    i

pub number_new : (n : ℕ) (ms : List ℕ) → In n (with_number n ms)
number_new n [] = inl refl
number_new n (m ∷ ms) =
    cond_both (nat_lt m n) (m ∷ with_number n ms) (if nat_eq m n then m ∷ ms else n ∷ m ∷ ms) (λ (zs : List ℕ). In n zs)
    (λ t. inr (number_new n ms))
    (λ t. cond_both (nat_eq m n) (m ∷ ms) (n ∷ m ∷ ms) (λ (zs : List ℕ). In n zs) (λ u. inl (eqb-true m n u)) (λ u. inl refl))

pub number_old : (n x : ℕ) (ms : List ℕ) → In x ms → In x (with_number n ms)
number_old n x [] i = absurd i
number_old n x (m ∷ ms) i =
    cond_both (nat_lt m n) (m ∷ with_number n ms) (if nat_eq m n then m ∷ ms else n ∷ m ∷ ms) (λ (zs : List ℕ). In x zs)
    (λ t. ⊎_elim (λ (e : m ≡ x). inl e) (λ (j : In x ms). inr (number_old n x ms j)) i)
    (λ t. cond_both (nat_eq m n) (m ∷ ms) (n ∷ m ∷ ms) (λ (zs : List ℕ). In x zs) (λ u. i) (λ u. inr i))

pub numbers_in : (ns : List ℕ) (x : ℕ) (ms : List ℕ) → In x (with_numbers ns ms) → In x ns ⊎ In x ms
numbers_in [] x ms i = inr i
numbers_in (n ∷ ns) x ms i =
    ⊎_elim
    (λ (j : In x ns). inl (inr j))
    (λ (j : In x (with_number n ms)). ⊎_elim (λ (e : n ≡ x). inl (inl e)) (λ (k : In x ms). inr k) (number_in n x ms j))
    (numbers_in ns x (with_number n ms) i)

pub numbers_old : (ns : List ℕ) (x : ℕ) (ms : List ℕ) → In x ms → In x (with_numbers ns ms)
numbers_old [] x ms i = i
numbers_old (n ∷ ns) x ms i = numbers_old ns x (with_number n ms) (number_old n x ms i)

pub numbers_new : (ns : List ℕ) (x : ℕ) (ms : List ℕ) → In x ns → In x (with_numbers ns ms)
numbers_new [] x ms i = absurd i
numbers_new (n ∷ ns) x ms (inl e) = numbers_old ns x (with_number n ms) (subst (λ v. In v (with_number n ms)) e (number_new n ms))
numbers_new (n ∷ ns) x ms (inr i) = numbers_new ns x (with_number n ms) i

-- ---- replays

pub replay_new : (r : Replay) (qs : List Replay) → In r (with_replay r qs)
replay_new r [] = inl refl
replay_new r (q ∷ qs) =
    cond_both (nat_lt q.txn.0 r.txn.0) (q ∷ with_replay r qs) (if nat_eq q.txn.0 r.txn.0 then r ∷ qs else r ∷ q ∷ qs)
    (λ (zs : List Replay). In r zs)
    (λ t. inr (replay_new r qs))
    (λ t. cond_both (nat_eq q.txn.0 r.txn.0) (r ∷ qs) (r ∷ q ∷ qs) (λ (zs : List Replay). In r zs) (λ u. inl refl) (λ u. inl refl))

-- one of that number is it
pub replay_old : (r x : Replay) (qs : List Replay) → (x.txn.0 ≡ r.txn.0 → x ≡ r) → In x qs → In x (with_replay r qs)
replay_old r x [] one i = absurd i
replay_old r x (q ∷ qs) one i =
    cond_both (nat_lt q.txn.0 r.txn.0) (q ∷ with_replay r qs) (if nat_eq q.txn.0 r.txn.0 then r ∷ qs else r ∷ q ∷ qs)
    (λ (zs : List Replay). In x zs)
    (λ t. ⊎_elim (λ (e : q ≡ x). inl e) (λ (j : In x qs). inr (replay_old r x qs one j)) i)
    (λ t. cond_both (nat_eq q.txn.0 r.txn.0) (r ∷ qs) (r ∷ q ∷ qs) (λ (zs : List Replay). In x zs)
    (λ u. ⊎_elim (λ (e : q ≡ x). inl (sym (one (ap (λ (v : Replay). v.txn.0) (sym e) ∙ eqb-true q.txn.0 r.txn.0 u))))
    (λ (j : In x qs). inr j) i)
    (λ u. inr i))

-- each in its place
pub replay_rises : (r : Replay) (qs : List Replay) → ReplaysRise qs → ReplaysRise (with_replay r qs)
replay_rises r [] o = ((λ j i. absurd i), tt)
replay_rises r (q ∷ qs) o =
    cond_both (nat_lt q.txn.0 r.txn.0) (q ∷ with_replay r qs) (if nat_eq q.txn.0 r.txn.0 then r ∷ qs else r ∷ q ∷ qs) ReplaysRise
    (λ t. (above t, replay_rises r qs o.1))
    (λ t. cond_both (nat_eq q.txn.0 r.txn.0) (r ∷ qs) (r ∷ q ∷ qs) ReplaysRise
    (λ u. ((λ j i. let lt = o.0 j i in let e = eqb-true q.txn.0 r.txn.0 u in omega (arith, lt, e)), o.1))
    (λ u. (below t u, o)))
  where
    above : nat_lt q.txn.0 r.txn.0 ≡ true → (j : Replay) → In j (with_replay r qs) → q.txn.0 < j.txn.0
    above t j i = ⊎_elim (λ (e : r ≡ j). subst (λ (v : Replay). q.txn.0 < v.txn.0) e (ltb-true q.txn.0 r.txn.0 t))
        (λ (k : In j qs). o.0 j k) (in_with_replay r j qs i)

    less : nat_lt q.txn.0 r.txn.0 ≡ false → nat_eq q.txn.0 r.txn.0 ≡ false → r.txn.0 < q.txn.0
    less t u = let le = ltb-false q.txn.0 r.txn.0 t in let ne = eqb-false q.txn.0 r.txn.0 u in omega (arith, le, ne)

    below : nat_lt q.txn.0 r.txn.0 ≡ false → nat_eq q.txn.0 r.txn.0 ≡ false → (j : Replay) → (q ≡ j) ⊎ In j qs → r.txn.0 < j.txn.0
    below t u j (inl e) = subst (λ (v : Replay). r.txn.0 < v.txn.0) e (less t u)
    below t u j (inr k) = let lt = o.0 j k in let first = less t u in omega (arith, lt, first)

pub filter_rises : (f : Replay → Bool) (qs : List Replay) → ReplaysRise qs → ReplaysRise (filter f qs)
filter_rises f [] o = tt
filter_rises f (q ∷ qs) o =
    cond_both (f q) (q ∷ filter f qs) (filter f qs) ReplaysRise (λ t. ((λ j i. o.0 j (in_filter f j qs i).0), filter_rises f qs o.1))
    (λ t. filter_rises f qs o.1)

-- ---- what a life keeps, of the replies that it heard and the numbers that it saw, where all up to a number is committed

pub record KeepsFor (most : ℕ) (heard : Flight → ReplyTo → Type 0) (saw : ℕ → Type 0) (k : Kept) : Type 0 where
  pub committed : k.committed ≤ most
  pub replay_kept : (f : Flight) (r : ReplyTo) → heard f r → 0 < r.txn.0 → (r.txn.0 ≤ k.committed) ⊎ In (replay_of f r) k.replays
  pub kept_replay : (q : Replay) → In q k.replays → (f : Flight) × (r : ReplyTo) × heard f r × (q ≡ replay_of f r) × (0 < r.txn.0)
  pub seen_kept : (n : ℕ) → saw n → (n ≤ k.committed) ⊎ In n k.seen
  pub kept_seen : (n : ℕ) → In n k.seen → saw n
  pub rises : ReplaysRise k.replays

-- all up to a number is committed
pub for_settled : (most : ℕ) (heard : Flight → ReplyTo → Type 0) (saw : ℕ → Type 0) (n : ℕ) (k : Kept) → n ≤ most
    → KeepsFor most heard saw k → KeepsFor most heard saw (settled n k)
for_settled most heard saw n k le h =
    record {
      committed = let low = h.committed in omega arith;
      replay_kept = λ f r i lt. ⊎_elim (λ (l : r.txn.0 ≤ k.committed). inl (omega arith))
          (λ (j : In (replay_of f r) k.replays). over r.txn.0 (In (replay_of f r) _)
          (λ t. in_filtered (λ (q : Replay). nat_lt (max n k.committed) q.txn.0) (replay_of f r) k.replays j t)) (h.replay_kept f r i lt);
      kept_replay = λ q i. h.kept_replay q (in_filter (λ (p : Replay). nat_lt (max n k.committed) p.txn.0) q k.replays i).0;
      seen_kept = λ m i. ⊎_elim (λ (l : m ≤ k.committed). inl (omega arith))
          (λ (o : In m k.seen). over m (In m _) (λ t. in_filtered (nat_lt (max n k.committed)) m k.seen o t)) (h.seen_kept m i);
      kept_seen = λ m i. h.kept_seen m (in_filter (nat_lt (max n k.committed)) m k.seen i).0;
      rises = filter_rises (λ (q : Replay). nat_lt (max n k.committed) q.txn.0) k.replays h.rises;
    }
  where
    over : (x : ℕ) (P : Type 0) → (nat_lt (max n k.committed) x ≡ true → P) → (x ≤ max n k.committed) ⊎ P
    over x P f = by (nat_lt (max n k.committed) x) refl
      where
        by : (b : Bool) → nat_lt (max n k.committed) x ≡ b → (x ≤ max n k.committed) ⊎ P
        by true e = inr (f e)
        by false e = inl (ltb-false (max n k.committed) x e)

-- numbers are seen, beside those that were
pub record Beside (seen : List ℕ) (saw more : ℕ → Type 0) : Type 0 where
  pub now : (n : ℕ) → In n seen → more n
  pub into : (n : ℕ) → saw n → more n
  pub out : (n : ℕ) → more n → In n seen ⊎ saw n

seen_beside : (most : ℕ) (heard : Flight → ReplyTo → Type 0) (saw more : ℕ → Type 0) (seen : List ℕ) (k : Kept) → Beside seen saw more
    → KeepsFor most heard saw k → (n : ℕ) → more n → (n ≤ k.committed) ⊎ In n (with_numbers seen k.seen)
seen_beside most heard saw more seen k b h n i = by (b.out n i)
  where
    by : In n seen ⊎ saw n → (n ≤ k.committed) ⊎ In n (with_numbers seen k.seen)
    by (inl j) = inr (numbers_new seen n k.seen j)
    by (inr o) = ⊎_elim (λ (l : n ≤ k.committed). inl l) (λ (p : In n k.seen). inr (numbers_old seen n k.seen p)) (h.seen_kept n o)

beside_seen : (most : ℕ) (heard : Flight → ReplyTo → Type 0) (saw more : ℕ → Type 0) (seen : List ℕ) (k : Kept) → Beside seen saw more
    → KeepsFor most heard saw k → (n : ℕ) → In n (with_numbers seen k.seen) → more n
beside_seen most heard saw more seen k b h n i = ⊎_elim (λ (j : In n seen). b.now n j) (λ (j : In n k.seen). b.into n (h.kept_seen n j))
    (numbers_in seen n k.seen i)

-- one more reply is heard; two of one number are to the same
pub for_reply : (most : ℕ) (heard more : Flight → ReplyTo → Type 0) (saw sees : ℕ → Type 0) (f : Flight) (r : ReplyTo) (k : Kept) → more f r
    → ((g : Flight) (s : ReplyTo) → heard g s → more g s) → ((g : Flight) (s : ReplyTo) → more g s → ((f ≡ g) × (r ≡ s)) ⊎ heard g s)
    → Beside r.seen saw sees → ((g : Flight) (s : ReplyTo) → heard g s → 0 < s.txn.0 → s.txn.0 ≡ r.txn.0 → replay_of g s ≡ replay_of f r)
    → KeepsFor most heard saw k
    → KeepsFor most more sees (record k { seen = with_numbers r.seen k.seen; replays = with_reply f r k.replays })
for_reply most heard more saw sees f r k now into out beside same h =
    record {
      committed = h.committed;
      replay_kept = λ g s i lt. ⊎_elim
          (λ (e : (f ≡ g) × (r ≡ s)). subst (λ (v : ReplyTo). 0 < v.txn.0 → (v.txn.0 ≤ k.committed)
          ⊎ In (replay_of g v) (with_reply f r k.replays)) e.1
          (λ pos. inr (subst (λ (v : Flight). In (replay_of v r) (with_reply f r k.replays)) e.0 (added pos))) lt)
          (λ (o : heard g s). ⊎_elim (λ (l : s.txn.0 ≤ k.committed). inl l)
          (λ (j : In (replay_of g s) k.replays). inr (stays g s (same g s o lt) j)) (h.replay_kept g s o lt))
          (out g s i);
      kept_replay = λ q i. from q i;
      seen_kept = seen_beside most heard saw sees r.seen k beside h;
      kept_seen = beside_seen most heard saw sees r.seen k beside h;
      rises = cond_both (nat_eq r.txn.0 0) k.replays (with_replay (replay_of f r) k.replays) ReplaysRise (λ t. h.rises)
          (λ t. replay_rises (replay_of f r) k.replays h.rises);
    }
  where
    added : 0 < r.txn.0 → In (replay_of f r) (with_reply f r k.replays)
    added pos = cond_both (nat_eq r.txn.0 0) k.replays (with_replay (replay_of f r) k.replays) (λ (qs : List Replay). In (replay_of f r) qs)
        (λ t. let z = eqb-true r.txn.0 0 t in absurd (omega (arith, z, pos))) (λ t. replay_new (replay_of f r) k.replays)

    stays : (g : Flight) (s : ReplyTo) → (s.txn.0 ≡ r.txn.0 → replay_of g s ≡ replay_of f r) → In (replay_of g s) k.replays
        → In (replay_of g s) (with_reply f r k.replays)
    stays g s one i = cond_both (nat_eq r.txn.0 0) k.replays (with_replay (replay_of f r) k.replays)
        (λ (qs : List Replay). In (replay_of g s) qs) (λ t. i) (λ t. replay_old (replay_of f r) (replay_of g s) k.replays one i)

    old : (q : Replay) → In q k.replays → (g : Flight) × (s : ReplyTo) × more g s × (q ≡ replay_of g s) × (0 < s.txn.0)
    old q i = let p = h.kept_replay q i in (p.0, p.1, into p.0 p.1 p.2, p.3, p.4)

    from : (q : Replay) → In q (with_reply f r k.replays) → (g : Flight) × (s : ReplyTo) × more g s × (q ≡ replay_of g s) × (0 < s.txn.0)
    from q i =
        cond_both (nat_eq r.txn.0 0) k.replays (with_replay (replay_of f r) k.replays)
        (λ (qs : List Replay). In q qs → (g : Flight) × (s : ReplyTo) × more g s × (q ≡ replay_of g s) × (0 < s.txn.0))
        (λ t j. old q j)
        (λ t j. ⊎_elim (λ (e : replay_of f r ≡ q). (f, r, now, sym e, let ne = eqb-false r.txn.0 0 t in omega (arith, ne)))
        (λ (o : In q k.replays). old q o) (in_with_replay (replay_of f r) q k.replays j))
        i

-- what is seen with a lock
pub for_shown : (most : ℕ) (heard : Flight → ReplyTo → Type 0) (saw sees : ℕ → Type 0) (seen : List ℕ) (k : Kept) → Beside seen saw sees
    → KeepsFor most heard saw k → KeepsFor most heard sees (record k { seen = with_numbers seen k.seen })
for_shown most heard saw sees seen k beside h =
    record {
      committed = h.committed;
      replay_kept = h.replay_kept;
      kept_replay = h.kept_replay;
      seen_kept = seen_beside most heard saw sees seen k beside h;
      kept_seen = beside_seen most heard saw sees seen k beside h;
      rises = h.rises;
    }

-- the same replies and numbers, and more is committed
pub for_more : (most greater : ℕ) (heard more : Flight → ReplyTo → Type 0) (saw sees : ℕ → Type 0) (k : Kept) → most ≤ greater
    → ((g : Flight) (s : ReplyTo) → heard g s → more g s) → ((g : Flight) (s : ReplyTo) → more g s → heard g s)
    → ((n : ℕ) → saw n → sees n) → ((n : ℕ) → sees n → saw n) → KeepsFor most heard saw k → KeepsFor greater more sees k
for_more most greater heard more saw sees k le into out shows hides h =
    record {
      committed = let low = h.committed in omega arith;
      replay_kept = λ f r i lt. h.replay_kept f r (out f r i) lt;
      kept_replay = λ q i. let p = h.kept_replay q i in (p.0, p.1, into p.0 p.1 p.2, p.3, p.4);
      seen_kept = λ n i. h.seen_kept n (hides n i);
      kept_seen = λ n i. shows n (h.kept_seen n i);
      rises = h.rises;
    }

-- a life that heard and saw nothing keeps a number
pub for_nothing : (most : ℕ) (heard : Flight → ReplyTo → Type 0) (saw : ℕ → Type 0) (n : ℕ) → n ≤ most
    → ((g : Flight) (s : ReplyTo) → heard g s → ⊥) → ((m : ℕ) → saw m → ⊥)
    → KeepsFor most heard saw (record { committed = n; seen = []; replays = [] })
for_nothing most heard saw n le none blind =
    record {
      committed = le;
      replay_kept = λ f r i lt. absurd (none f r i);
      kept_replay = λ q i. absurd i;
      seen_kept = λ m i. absurd (blind m i);
      kept_seen = λ m i. absurd i;
      rises = tt;
    }

-- ---- the last number of transactions above one

pub last_above : (n m : ℕ) (ts : List Transaction) → n ≤ m → ((t : Transaction) → In t ts → n < t.txn.0) → n ≤ last_number ts m
last_above n m [] le all = le
last_above n m (t ∷ ts) le all = last_above n t.txn.0 ts (let lt = all t (inl refl) in omega (arith, lt)) (λ u i. all u (inr i))

pub last_news : (n : ℕ) (ts : List Transaction) → n ≤ last_number (filter (λ (t : Transaction). nat_lt n t.txn.0) ts) n
last_news n ts = last_above n n (filter (λ (t : Transaction). nat_lt n t.txn.0) ts) (omega arith)
    (λ t i. ltb-true n t.txn.0 (in_filter (λ (u : Transaction). nat_lt n u.txn.0) t ts i).1)
