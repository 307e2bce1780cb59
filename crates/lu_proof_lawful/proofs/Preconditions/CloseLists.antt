-- Lists at the close of a window: lives that come and go together, what is kept in its place, which replays are kept and what their
-- replies are, what of the brought locks is restored, and the slots that a batch leaves.
use Rattle.std.proofs.Common.{◌≡◌, ℕ, ◌<◌, ◌≤◌, Bool, true, false, List, [], ◌∷◌, Some, ◌⊎◌, inl, inr, ⊎_elim, refl, sym, subst, ap, ◌∙◌}
use Rattle.std.proofs.Common.{arith}
use Rattle.std.specs.Prelude.{nat_eq, nat_lt, ◌||◌, not, if◌then◌else◌}
use Rattle.std.specs.List.{list_any}
use Rattle.std.proofs.lemmas.Bool.{cond_both, or_parts, or_right, eq-eqb, or_left, not-true}
use Rattle.std.proofs.lemmas.Bool.Decides.{nat_tests}
use Rattle.lu_base.specs.declared.ids.At.{At}
use Rattle.lu_base.specs.declared.ids.Who.{Who}
use Rattle.lu_base.specs.declared.locks.Lock.{Lock}
use Rattle.lu_msg.specs.declared.commits.KeptReply.{KeptReply}
use Rattle.lu_msg.specs.declared.commits.Transaction.{Transaction}
use Rattle.lu_msg.specs.declared.messages.Reply.{Reply as ReplyTo}
use Rattle.lu_spec_entries.specs.Carried.{Deed, Slot, LifeSlot, Gone, Contents}
use Rattle.lu_spec_entries.specs.Words.{same_life}
use Rattle.lu_spec_target.specs.Lives.{is_life, with_lives, without_lives, slot_in, is_slot_of, with_slot, slots_kept, slots_without}
use Rattle.lu_spec_target.specs.Lives.{lives_of as lives_in}
use Rattle.lu_spec_target.specs.Outcomes.{deed_again, deeds_again, restored}
use Rattle.lu_spec_target.specs.States.{Target}
use Rattle.lu_spec_target.specs.Stored.{transaction_of, done, same_kept, kept_before, with_kept, replies_of, last_number}
use Rattle.lu_spec_target.specs.Windows.{Window, Replayed, placed, with_brought, brought_before, with_wish, is_back, is_left, has_gap}
use Rattle.lu_spec_target.specs.Windows.{gone_with, gone_from, kept_of}
use Rattle.lu_proof_lawful.proofs.Preconditions.Guards.{In}
use Rattle.lu_proof_lawful.proofs.Preconditions.Lists.{in_filter, in_filtered, life_is}
use Rattle.lu_proof_lawful.proofs.Preconditions.LifeLists.{life_stands, stands_life, any_lives}
use Rattle.lu_proof_lawful.proofs.Preconditions.LockLists.{AllAbove, Rises, in_above}
use Rattle.lu_proof_lawful.proofs.Preconditions.ClientLocks.{any_false}

-- ---- lives that come and lives that go

-- what stands there once lives came is one of them, or stood there
pub puts_or : (x : Who) (more lives : List Who) → is_life x (with_lives more lives) ≡ true → In x more ⊎ (is_life x lives ≡ true)
puts_or x more lives t = by (is_life x more) refl (sym (any_lives (same_life x) more lives) ∙ t)
  where
    by : (b : Bool) → is_life x more ≡ b → (b || is_life x lives) ≡ true → In x more ⊎ (is_life x lives ≡ true)
    by true e t = inl (stands_life x more e)
    by false e t = inr t

pub put_each : (x : Who) (more lives : List Who) → is_life x more ≡ true → is_life x (with_lives more lives) ≡ true
put_each x more lives t = any_lives (same_life x) more lives ∙ or_left (is_life x more) (is_life x lives) t

pub puts_more : (x : Who) (more lives : List Who) → is_life x lives ≡ true → is_life x (with_lives more lives) ≡ true
puts_more x more lives t = any_lives (same_life x) more lives ∙ or_right (is_life x more) (is_life x lives) t

-- what stands there once lives went is none of them
pub stays_all : (x : Who) (gone lives : List Who) → is_life x lives ≡ true → is_life x gone ≡ false → is_life x (without_lives gone lives)
    ≡ true
stays_all x gone lives t n = life_stands x (without_lives gone lives)
    (in_filtered (λ (w : Who). not (is_life w gone)) x lives (stands_life x lives t) (ap not n))

pub left_all : (x : Who) (gone lives : List Who) → is_life x (without_lives gone lives) ≡ true → (is_life x lives ≡ true)
    × (is_life x gone ≡ false)
left_all x gone lives t =
    let p = in_filter (λ (w : Who). not (is_life w gone)) x lives (stands_life x (without_lives gone lives) t) in
    (life_stands x lives p.0, not-true (is_life x gone) p.1)

-- ---- who loses its slot at a close

-- it had one
pub gone_had : (v : Window) (kept : List ℕ) (lives : List Who) (x : Who) → is_life x (lives_in (gone_from v kept lives)) ≡ true
    → is_life x lives ≡ true
gone_had v kept [] x t = absurd (cc)
gone_had v kept (w ∷ lives) x t = by (not (is_back v w) || is_left v w) (has_gap v kept w) (gone_had v kept lives x) t
  where
    rest : List Gone
    rest = gone_from v kept lives

    here : (is_life x (lives_in rest) ≡ true → is_life x lives ≡ true) → (same_life x w || is_life x (lives_in rest)) ≡ true
        → (same_life x w || is_life x lives) ≡ true
    here ih t = one (same_life x w) t
      where
        one : (b : Bool) → (b || is_life x (lives_in rest)) ≡ true → (b || is_life x lives) ≡ true
        one true t = refl
        one false t = ih t

    by : (absent gap : Bool) → (is_life x (lives_in rest) ≡ true → is_life x lives ≡ true)
        → is_life x (lives_in (gone_with absent gap w rest)) ≡ true → (same_life x w || is_life x lives) ≡ true
    by true gap ih t = here ih t
    by false true ih t = here ih t
    by false false ih t = or_right (same_life x w) (is_life x lives) (ih t)

-- who had one and keeps it was back, and no newer life of its client joins
pub stays_back : (v : Window) (kept : List ℕ) (lives : List Who) (x : Who) → is_life x lives ≡ true
    → is_life x (lives_in (gone_from v kept lives)) ≡ false → (is_back v x ≡ true) × (is_left v x ≡ false)
stays_back v kept [] x t n = absurd (cc)
stays_back v kept (w ∷ lives) x t n = by (same_life x w) refl t (λ t n. stays_back v kept lives x t n)
  where
    rest : List Gone
    rest = gone_from v kept lives

    more : (absent gap : Bool) → is_life x (lives_in (gone_with absent gap w rest)) ≡ false → is_life x (lives_in rest) ≡ false
    more true gap n = (or_parts (same_life x w) (is_life x (lives_in rest)) n).1
    more false true n = (or_parts (same_life x w) (is_life x (lives_in rest)) n).1
    more false false n = n

    own : same_life x w ≡ true → (back left gap : Bool) → is_life x (lives_in (gone_with (not back || left) gap w rest)) ≡ false
        → (back ≡ true) × (left ≡ false)
    own e true true gap n = let p = or_parts (same_life x w) (is_life x (lives_in rest)) n in let f = p.0 in absurd (cc)
    own e true false gap n = (refl, refl)
    own e false left gap n = let p = or_parts (same_life x w) (is_life x (lives_in rest)) n in let f = p.0 in absurd (cc)

    by : (b : Bool) → same_life x w ≡ b → (b || is_life x lives) ≡ true
        → (is_life x lives ≡ true → is_life x (lives_in rest) ≡ false → (is_back v x ≡ true) × (is_left v x ≡ false)) → (is_back v x ≡ true)
        × (is_left v x ≡ false)
    by true e t ih = subst (λ (u : Who). (is_back v u ≡ true) × (is_left v u ≡ false)) (sym (life_is x w e))
        (own e (is_back v w) (is_left v w) (has_gap v kept w) n)
    by false e t ih = ih t (more (not (is_back v w) || is_left v w) (has_gap v kept w) n)

-- none of its client joins
pub left_not : (v : Window) (x w : Who) → is_left v x ≡ false → In w v.wishes → w.client ≡ x.client → ⊥
left_not v x w n i e = let f = any_false (λ (u : Who). nat_eq u.client x.client) v.wishes n w i in let t = eq-eqb w.client x.client e
    in absurd (cc)

-- ---- lives that wish to join: one of each client

abbrev pub OneEach : List Who → Type 0
OneEach [] = Unit {0}
OneEach (w ∷ ws) = ((x : Who) → In x ws → w.client < x.client) × OneEach ws

-- who wishes to join is it, or did so before
pub in_wish : (x who : Who) (ws : List Who) → In x (with_wish who ws) → (who ≡ x) ⊎ In x ws
in_wish x who [] i = i
in_wish x who (w ∷ ws) i = by (nat_eq who.client w.client) (nat_lt who.client w.client) i (in_wish x who ws)
  where
    by : (same below : Bool) → In x (if same then who ∷ ws else (if below then who ∷ w ∷ ws else w ∷ with_wish who ws))
        → (In x (with_wish who ws) → (who ≡ x) ⊎ In x ws) → (who ≡ x) ⊎ In x (w ∷ ws)
    by true below (inl e) more = inl e
    by true below (inr j) more = inr (inr j)
    by false true i more = i
    by false false (inl e) more = inr (inl e)
    by false false (inr j) more = ⊎_elim (λ (e : who ≡ x). inl e) (λ (k : In x ws). inr (inr k)) (more j)

pub each_wish : (who : Who) (ws : List Who) → OneEach ws → OneEach (with_wish who ws)
each_wish who [] o = (λ x i. absurd i, tt)
each_wish who (w ∷ ws) o = by (nat_eq who.client w.client) (nat_lt who.client w.client) refl refl (each_wish who ws o.1)
  where
    by : (same below : Bool) → nat_eq who.client w.client ≡ same → nat_lt who.client w.client ≡ below → OneEach (with_wish who ws)
        → OneEach (if same then who ∷ ws else (if below then who ∷ w ∷ ws else w ∷ with_wish who ws))
    by true below e f ih = (λ x i. let lt = o.0 x i in grind (arith, nat_tests, lt, e), o.1)
    by false true e f ih = (
      λ x i. ⊎_elim (λ (q : w ≡ x). subst (λ (u : Who). who.client < u.client) q (grind (arith, nat_tests, f)))
          (λ (j : In x ws). let lt = o.0 x j in grind (arith, nat_tests, lt, f)) i,
      o,
    )
    by false false e f ih = (
      λ x i. ⊎_elim (λ (q : who ≡ x). subst (λ (u : Who). w.client < u.client) q (grind (arith, nat_tests, e, f)))
          (λ (j : In x ws). o.0 x j) (in_wish x who ws i),
      ih,
    )

pub wish_one : (ws : List Who) → OneEach ws → (w x : Who) → In w ws → In x ws → w.client ≡ x.client → w ≡ x
wish_one [] r w x i j e = absurd i
wish_one (v ∷ ws) r w x (inl p) (inl q) e = sym p ∙ q
wish_one (v ∷ ws) r w x (inl p) (inr j) e = let lt = r.0 x j in let q : v.client ≡ w.client = ap (λ (u : Who). u.client) p
    in absurd (omega (arith, lt, q, e))
wish_one (v ∷ ws) r w x (inr i) (inl q) e = let lt = r.0 w i in let p : v.client ≡ x.client = ap (λ (u : Who). u.client) q
    in absurd (omega (arith, lt, p, e))
wish_one (v ∷ ws) r w x (inr i) (inr j) e = wish_one ws r.1 w x i j e

-- ---- what is kept in its place

pub in_placed : {A : Type 0} (before : A → A → Bool) (x y : A) (xs : List A) → In y (placed before x xs) → (x ≡ y) ⊎ In y xs
in_placed before x y [] i = i
in_placed {A} before x y (z ∷ xs) i = by (before x z) i (in_placed before x y xs)
  where
    by : (b : Bool) → In y (if b then x ∷ z ∷ xs else z ∷ placed before x xs) → (In y (placed before x xs) → (x ≡ y) ⊎ In y xs) → (x ≡ y)
        ⊎ In y (z ∷ xs)
    by true i more = i
    by false (inl e) more = inr (inl e)
    by false (inr j) more = ⊎_elim (λ (e : x ≡ y). inl e) (λ (k : In y xs). inr (inr k)) (more j)

above_all : (n : ℕ) (locks : List Lock) → ((k : Lock) → In k locks → n < k.cookie.0) → AllAbove n locks
above_all n [] h = tt
above_all n (k ∷ locks) h = (h k (inl refl), above_all n locks (λ l i. h l (inr i)))

-- a lock of another cookie than all of them
pub rises_brought : (l : Lock) (locks : List Lock) → Rises locks → ((k : Lock) → In k locks → k.cookie.0 ≡ l.cookie.0 → ⊥)
    → Rises (with_brought l locks)
rises_brought l [] r apart = (tt, tt)
rises_brought l (k ∷ locks) r apart = by (brought_before l k) refl (rises_brought l locks r.1 (λ m i. apart m (inr i)))
  where
    by : (b : Bool) → brought_before l k ≡ b → Rises (with_brought l locks) → Rises (if b then l ∷ k ∷ locks else k ∷ with_brought l locks)
    by true e ih =
        let ne : nat_eq k.cookie.0 l.cookie.0 ≡ false = differs (nat_eq k.cookie.0 l.cookie.0) refl in
        let lt : l.cookie.0 < k.cookie.0 = grind (arith, nat_tests, e, ne) in
        ((lt, above_all l.cookie.0 locks (λ m i. let up = in_above k.cookie.0 locks m r.0 i in omega (arith, lt, up))), r)
      where
        differs : (b : Bool) → nat_eq k.cookie.0 l.cookie.0 ≡ b → b ≡ false
        differs true q = absurd (apart k (inl refl) (grind (arith, nat_tests, q)))
        differs false q = refl
    by false e ih =
        let ne : nat_eq k.cookie.0 l.cookie.0 ≡ false = differs (nat_eq k.cookie.0 l.cookie.0) refl in
        let lt : k.cookie.0 < l.cookie.0 = grind (arith, nat_tests, e, ne) in (
          above_all k.cookie.0 (with_brought l locks) (λ m i. ⊎_elim (λ (q : l ≡ m). subst (λ (x : Lock). k.cookie.0 < x.cookie.0) q lt)
              (λ (j : In m locks). in_above k.cookie.0 locks m r.0 j) (in_placed brought_before l m locks i)),
          ih,
        )
      where
        differs : (b : Bool) → nat_eq k.cookie.0 l.cookie.0 ≡ b → b ≡ false
        differs true q = absurd (apart k (inl refl) (grind (arith, nat_tests, q)))
        differs false q = refl

-- ---- what is restored

-- what is restored was brought
pub in_restored : (before locks : List Lock) (l : Lock) → In l (restored before locks) → In l locks
in_restored before [] l i = i
in_restored before (k ∷ locks) l i = by _ (in_restored before locks l) (in_restored (k ∷ before) locks l) i
  where
    by : (b : Bool) → (In l (restored before locks) → In l locks) → (In l (restored (k ∷ before) locks) → In l locks)
        → In l (if b then restored before locks else k ∷ restored (k ∷ before) locks) → In l (k ∷ locks)
    by true one two j = inr (one j)
    by false one two (inl e) = inl e
    by false one two (inr j) = inr (two j)

pub rises_restored : (before locks : List Lock) → Rises locks → Rises (restored before locks)
rises_restored before [] r = tt
rises_restored before (k ∷ locks) r = by _ (rises_restored before locks r.1) (rises_restored (k ∷ before) locks r.1)
  where
    by : (b : Bool) → Rises (restored before locks) → Rises (restored (k ∷ before) locks)
        → Rises (if b then restored before locks else k ∷ restored (k ∷ before) locks)
    by true one two = one
    by false one two = (
      above_all k.cookie.0 (restored (k ∷ before) locks)
          (λ l i. in_above k.cookie.0 locks l r.0 (in_restored (k ∷ before) locks l i)),
      two,
    )

-- ---- kept replays as transactions

pub in_deeds : (v : Target) (at : At) (c : Contents) (replays : List Replayed) (d : Deed) → In d (deeds_again v at c replays)
    → (r : Replayed) × In r replays × ((b : Contents) × (deed_again v at b r ≡ d))
in_deeds v at c [] d i = absurd i
in_deeds v at c (r ∷ replays) d (inl e) = (r, inl refl, (c, e))
in_deeds v at c (r ∷ replays) d (inr i) =
    let more = in_deeds v at (done v.setting.osts c (transaction_of (deed_again v at c r))) replays d i in
    (more.0, inr more.1, more.2)

pub in_kept : (kept : List ℕ) (replays : List Replayed) (r : Replayed) → In r (kept_of kept replays) → In r replays
in_kept kept replays r i = (in_filter (λ (x : Replayed). list_any (λ m. nat_eq m x.number) kept) r replays i).0

-- the last of them is at most n, where each is
pub last_low : (n : ℕ) (ts : List Transaction) (k : ℕ) → k ≤ n → ((t : Transaction) → In t ts → t.txn.0 ≤ n) → last_number ts k ≤ n
last_low n [] k le each = le
last_low n (t ∷ ts) k le each = last_low n ts t.txn.0 (each t (inl refl)) (λ x i. each x (inr i))

-- ---- the replies that a batch has, and the slots that it leaves

pub in_with_kept : (k x : KeptReply) (ks : List KeptReply) → In x (with_kept k ks) → (k ≡ x) ⊎ In x ks
in_with_kept k x [] i = i
in_with_kept k x (y ∷ ks) i = by (same_kept k y) (kept_before k y) i (in_with_kept k x ks)
  where
    by : (same before : Bool) → In x (if same then k ∷ ks else (if before then k ∷ y ∷ ks else y ∷ with_kept k ks))
        → (In x (with_kept k ks) → (k ≡ x) ⊎ In x ks) → (k ≡ x) ⊎ In x (y ∷ ks)
    by true before (inl e) more = inl e
    by true before (inr j) more = inr (inr j)
    by false true i more = i
    by false false (inl e) more = inr (inl e)
    by false false (inr j) more = ⊎_elim (λ (e : k ≡ x). inl e) (λ (m : In x ks). inr (inr m)) (more j)

pub in_replies : (ds : List Deed) (ks : List KeptReply) (x : KeptReply) → In x (replies_of ds ks)
    → ((d : Deed) × In d ds × (x.reply ≡ d.reply)) ⊎ In x ks
in_replies [] ks x i = inr i
in_replies (d ∷ ds) ks x i =
    let k : KeptReply = record { who = d.reply.who; tag = d.tag; reply = d.reply } in
    ⊎_elim (λ (r : (e : Deed) × In e ds × (x.reply ≡ e.reply)). inl (r.0, inr r.1, r.2))
    (λ (j : In x (with_kept k ks)). ⊎_elim (λ (e : k ≡ x). inl (d, inl refl, ap (λ (y : KeptReply). y.reply) (sym e)))
    (λ (m : In x ks). inr m) (in_with_kept k x ks j))
    (in_replies ds (with_kept k ks) x i)

in_with_slot : (who : Who) (tag : ℕ) (x : Slot) (slots : List LifeSlot) (s : LifeSlot) → In s (with_slot who tag x slots) → (s.slot ≡ x)
    ⊎ In s slots
in_with_slot who tag x [] s (inl e) = inl (ap (λ (y : LifeSlot). y.slot) (sym e))
in_with_slot who tag x [] s (inr i) = inr i
in_with_slot who tag x (y ∷ slots) s i = by (is_slot_of who tag y) i (in_with_slot who tag x slots s)
  where
    by : (b : Bool) → In s (if b then record { who = who; tag = tag; slot = x } ∷ slots else y ∷ with_slot who tag x slots)
        → (In s (with_slot who tag x slots) → (s.slot ≡ x) ⊎ In s slots) → (s.slot ≡ x) ⊎ In s (y ∷ slots)
    by true (inl e) more = inl (ap (λ (z : LifeSlot). z.slot) (sym e))
    by true (inr j) more = inr (inr j)
    by false (inl e) more = inr (inl e)
    by false (inr j) more = ⊎_elim (λ (e : s.slot ≡ x). inl e) (λ (m : In s slots). inr (inr m)) (more j)

in_slots_kept : (ks : List KeptReply) (slots : List LifeSlot) (s : LifeSlot) → In s (slots_kept ks slots)
    → ((k : KeptReply) × In k ks × (s.slot.reply ≡ Some k.reply)) ⊎ In s slots
in_slots_kept [] slots s i = inr i
in_slots_kept (k ∷ ks) slots s i =
    let x : Slot = record { taken = k.reply.xid.0; reply = Some k.reply } in
    ⊎_elim (λ (r : (m : KeptReply) × In m ks × (s.slot.reply ≡ Some m.reply)). inl (r.0, inr r.1, r.2))
    (λ (j : In s (with_slot k.who k.tag x slots)). ⊎_elim (λ (e : s.slot ≡ x). inl (k, inl refl, ap (λ (y : Slot). y.reply) e))
    (λ (m : In s slots). inr m) (in_with_slot k.who k.tag x slots s j))
    (in_slots_kept ks (with_slot k.who k.tag x slots) s i)

-- of what a batch leaves a reply is one that it has, or stood there
pub in_batch : (gone : List Who) (ks : List KeptReply) (slots : List LifeSlot) (s : LifeSlot)
    → In s (slots_without gone (slots_kept ks slots)) → ((k : KeptReply) × In k ks × (s.slot.reply ≡ Some k.reply)) ⊎ In s slots
in_batch gone ks slots s i = in_slots_kept ks slots s (in_filter (λ (x : LifeSlot). not (is_life x.who gone)) s (slots_kept ks slots) i).0

-- a reply in the slot of a life and tag stands in the list
pub in_slot : (slots : List LifeSlot) (who : Who) (tag : ℕ) (k : ReplyTo) → (slot_in slots who tag).reply ≡ Some k → (s : LifeSlot)
    × In s slots × (s.slot.reply ≡ Some k)
in_slot [] who tag k e = absurd (cc)
in_slot (s ∷ slots) who tag k e =
    cond_both (is_slot_of who tag s) s.slot (slot_in slots who tag)
    (λ (x : Slot). x.reply ≡ Some k → (y : LifeSlot) × In y (s ∷ slots) × (y.slot.reply ≡ Some k))
    (λ t q. (s, inl refl, q))
    (λ t q. let r = in_slot slots who tag k q in (r.0, inr r.1, r.2))
    e
