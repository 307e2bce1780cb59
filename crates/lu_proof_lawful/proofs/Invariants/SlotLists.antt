-- Slots once replies were put there: of each life and tag the last of these replies stands, and where there is none what stood before.
use Rattle.std.proofs.Common.{◌≡◌, ℕ, ◌<◌, ◌≤◌, Bool, true, false, List, [], ◌∷◌, Option, Some, None, ◌⊎◌, inl, inr, ⊎_elim, refl, sym}
use Rattle.std.proofs.Common.{subst, ap, ◌∙◌, arith}
use Rattle.std.specs.Prelude.{nat_lt, ◌||◌, ◌&&◌, not, if◌then◌else◌, map}
use Rattle.std.specs.List.{filter}
use Rattle.std.proofs.lemmas.Bool.{cond_both, cond-true, and_parts, or_left, or_right, or_cases, and_from}
use Rattle.std.proofs.lemmas.Bool.Decides.{nat_tests}
use Rattle.lu_base.specs.declared.ids.Who.{Who}
use Rattle.lu_msg.specs.declared.commits.KeptReply.{KeptReply}
use Rattle.lu_msg.specs.declared.commits.Transaction.{Transaction}
use Rattle.lu_spec_entries.specs.Carried.{Deed, Slot, LifeSlot}
use Rattle.lu_spec_entries.specs.Words.{same_life}
use Rattle.lu_spec_target.specs.Lives.{is_life, life_before, no_slot, slot_in, with_slot, slots_without, slots_kept}
use Rattle.lu_spec_target.specs.Stored.{same_kept, kept_before, with_kept, replies_of, transaction_of, last_number}
use Rattle.lu_proof_lawful.specs.Covered.TargetParts.{is_slot_of}
use Rattle.lu_proof_lawful.proofs.Preconditions.Guards.{In}
use Rattle.lu_proof_lawful.proofs.Preconditions.Lists.{life_is}
use Rattle.lu_proof_lawful.proofs.Preconditions.LifeLists.{before_trans}
use Rattle.lu_proof_lawful.proofs.Preconditions.TargetSlots.{is_slot_self, slot_who, slot_with}
use Rattle.lu_proof_lawful.proofs.Invariants.Groups.{DeedsRise}

-- ---- the reply of a life and tag, among replies in order

abbrev found : Who → ℕ → List KeptReply → Option KeptReply
found who tag [] = None
found who tag (k ∷ kept) = if is_slot_of k.who k.tag who tag then Some k else found who tag kept

found_with : (k : KeptReply) (kept : List KeptReply) (who : Who) (tag : ℕ) → found who tag (with_kept k kept)
    ≡ (if is_slot_of k.who k.tag who tag then Some k else found who tag kept)
found_with k [] who tag = refl
found_with k (x ∷ kept) who tag = by (same_kept k x) (kept_before k x) (is_slot_of k.who k.tag who tag) (is_slot_of x.who x.tag who tag)
    refl refl refl (found_with k kept who tag)
  where
    by : (same before mine here : Bool) → same_kept k x ≡ same → is_slot_of k.who k.tag who tag ≡ mine → is_slot_of x.who x.tag who tag
        ≡ here
        → found who tag (with_kept k kept) ≡ (if is_slot_of k.who k.tag who tag then Some k else found who tag kept)
        → found who tag (if same then k ∷ kept else (if before then k ∷ x ∷ kept else x ∷ with_kept k kept))
        ≡ (if mine then Some k else (if here then Some x else found who tag kept))
    by true before true here a b c ih = rw b refl
    by true before false true a b c ih =
        let p = slot_who k.who x.who k.tag x.tag a in
        let q : is_slot_of x.who x.tag who tag ≡ is_slot_of k.who k.tag who tag = ap (λ (w : Who). is_slot_of w x.tag who tag) (sym p.0)
        ∙ ap (λ (t : ℕ). is_slot_of k.who t who tag) (sym p.1) in
        absurd (cc)
    by true before false false a b c ih = rw b refl
    by false true mine here a b c ih = rw (b, c) refl
    by false false true true a b c ih =
        let p = slot_who k.who who k.tag tag b in
        let q = slot_who x.who who x.tag tag c in
        let r : is_slot_of k.who k.tag x.who x.tag ≡ true = rw (p.0, p.1, q.0, q.1) (is_slot_self who tag) in
        absurd (cc)
    by false false true false a b c ih = rw (c, ih, b) refl
    by false false false true a b c ih = rw c refl
    by false false false false a b c ih = rw (c, ih, b) refl

-- ---- these replies are in order, each life and tag once

abbrev AllAfter : KeptReply → List KeptReply → Type 0
AllAfter k [] = Unit {0}
AllAfter k (x ∷ ks) = (kept_before k x ≡ true) × AllAfter k ks

abbrev KeptRise : List KeptReply → Type 0
KeptRise [] = Unit {0}
KeptRise (k ∷ ks) = AllAfter k ks × KeptRise ks

below : (t u x : ℕ) → nat_lt t u ≡ true → nat_lt u x ≡ true → nat_lt t x ≡ true
below t u x p q = grind (arith, nat_tests)

kept_trans : (a b c : KeptReply) → kept_before a b ≡ true → kept_before b c ≡ true → kept_before a c ≡ true
kept_trans a b c e f =
    ⊎_elim
    (λ (p : life_before a.who b.who ≡ true). ⊎_elim
    (λ (q : life_before b.who c.who ≡ true). or_left (life_before a.who c.who) tags (before_trans a.who b.who c.who p q))
    (λ (q : (same_life b.who c.who && nat_lt b.tag c.tag) ≡ true). or_left (life_before a.who c.who) tags
    (subst (λ (w : Who). life_before a.who w ≡ true) (life_is b.who c.who (and_parts (same_life b.who c.who) (nat_lt b.tag c.tag) q).0)
    p))
    (or_cases (life_before b.who c.who) (same_life b.who c.who && nat_lt b.tag c.tag) f))
    (λ (p : (same_life a.who b.who && nat_lt a.tag b.tag) ≡ true).
    let one = and_parts (same_life a.who b.who) (nat_lt a.tag b.tag) p in
    let is = life_is a.who b.who one.0 in
    ⊎_elim
    (λ (q : life_before b.who c.who ≡ true). or_left (life_before a.who c.who) tags
    (subst (λ (w : Who). life_before w c.who ≡ true) (sym is) q))
    (λ (q : (same_life b.who c.who && nat_lt b.tag c.tag) ≡ true).
    let two = and_parts (same_life b.who c.who) (nat_lt b.tag c.tag) q in
    or_right (life_before a.who c.who) tags (and_from (same_life a.who c.who) (nat_lt a.tag c.tag)
    (subst (λ (w : Who). same_life w c.who ≡ true) (sym is) two.0) (below a.tag b.tag c.tag one.1 two.1)))
    (or_cases (life_before b.who c.who) (same_life b.who c.who && nat_lt b.tag c.tag) f))
    (or_cases (life_before a.who b.who) (same_life a.who b.who && nat_lt a.tag b.tag) e)
  where
    tags : Bool
    tags = same_life a.who c.who && nat_lt a.tag c.tag

kept_else : (a b : KeptReply) → same_kept a b ≡ false → kept_before a b ≡ false → kept_before b a ≡ true
kept_else a b e f = grind (arith, nat_tests)

kept_differ : (a b : KeptReply) → kept_before a b ≡ true → is_slot_of a.who a.tag b.who b.tag ≡ true → ⊥
kept_differ a b e f = grind (arith, nat_tests)

after_trans : (k x : KeptReply) (ks : List KeptReply) → kept_before k x ≡ true → AllAfter x ks → AllAfter k ks
after_trans k x [] e a = tt
after_trans k x (y ∷ ks) e a = (kept_trans k x y e a.0, after_trans k x ks e a.1)

-- a reply of the same life and tag stands in the same place
after_same : (k x : KeptReply) (ks : List KeptReply) → same_kept k x ≡ true → AllAfter x ks → AllAfter k ks
after_same k x [] e a = tt
after_same k x (y ∷ ks) e a = (
  (let p = slot_who k.who x.who k.tag x.tag e in
      subst (λ (w : Who). (life_before w y.who || (same_life w y.who && nat_lt k.tag y.tag)) ≡ true) (sym p.0)
      (subst (λ (t : ℕ). (life_before x.who y.who || (same_life x.who y.who && nat_lt t y.tag)) ≡ true) (sym p.1) a.0)),
  after_same k x ks e a.1,
)

after_with : (x k : KeptReply) (ks : List KeptReply) → kept_before x k ≡ true → AllAfter x ks → AllAfter x (with_kept k ks)
after_with x k [] e a = (e, tt)
after_with x k (y ∷ ks) e a = by (same_kept k y) (kept_before k y) (after_with x k ks e a.1)
  where
    by : (same before : Bool) → AllAfter x (with_kept k ks) → AllAfter x
        (if same then k ∷ ks else (if before then k ∷ y ∷ ks else y ∷ with_kept k ks))
    by true before ih = (e, a.1)
    by false true ih = (e, a)
    by false false ih = (a.0, ih)

rise_with : (k : KeptReply) (ks : List KeptReply) → KeptRise ks → KeptRise (with_kept k ks)
rise_with k [] r = (tt, tt)
rise_with k (x ∷ ks) r = by (same_kept k x) (kept_before k x) refl refl (rise_with k ks r.1)
  where
    by : (same before : Bool) → same_kept k x ≡ same → kept_before k x ≡ before → KeptRise (with_kept k ks)
        → KeptRise (if same then k ∷ ks else (if before then k ∷ x ∷ ks else x ∷ with_kept k ks))
    by true before e f ih = (after_same k x ks e r.0, r.1)
    by false true e f ih = ((f, after_trans k x ks f r.0), r)
    by false false e f ih = (after_with x k ks (kept_else k x e f) r.0, ih)

abbrev kept_of : Deed → KeptReply
kept_of d = record { who = d.reply.who; tag = d.tag; reply = d.reply }

rise_replies : (ds : List Deed) (ks : List KeptReply) → KeptRise ks → KeptRise (replies_of ds ks)
rise_replies [] ks r = r
rise_replies (d ∷ ds) ks r = rise_replies ds (with_kept (kept_of d) ks) (rise_with (kept_of d) ks r)

-- ---- the slots once these were put there

abbrev filled : KeptReply → Slot
filled k = record { taken = k.reply.xid.0; reply = Some k.reply }

abbrev fills : Option KeptReply → Slot → Slot
fills None slot = slot
fills (Some k) slot = filled k

none_after : (k : KeptReply) (ks : List KeptReply) (who : Who) (tag : ℕ) → AllAfter k ks → is_slot_of k.who k.tag who tag ≡ true
    → found who tag ks ≡ None
none_after k [] who tag a e = refl
none_after k (x ∷ ks) who tag a e = by (is_slot_of x.who x.tag who tag) refl (none_after k ks who tag a.1 e)
  where
    by : (b : Bool) → is_slot_of x.who x.tag who tag ≡ b → found who tag ks ≡ None → (if b then Some x else found who tag ks) ≡ None
    by true f ih =
        let p = slot_who k.who who k.tag tag e in
        let q = slot_who x.who who x.tag tag f in
        let r : is_slot_of k.who k.tag x.who x.tag ≡ true = rw (p.0, p.1, q.0, q.1) (is_slot_self who tag) in
        absurd (kept_differ k x a.0 r)
    by false f ih = ih

slots_found : (ks : List KeptReply) (slots : List LifeSlot) (who : Who) (tag : ℕ) → KeptRise ks → slot_in (slots_kept ks slots) who tag
    ≡ fills (found who tag ks) (slot_in slots who tag)
slots_found [] slots who tag r = refl
slots_found (k ∷ ks) slots who tag r =
    slots_found ks (with_slot k.who k.tag (filled k) slots) who tag r.1
    ∙ ap (fills (found who tag ks)) (slot_with k.who k.tag (filled k) slots who tag) ∙ by (is_slot_of k.who k.tag who tag) refl
  where
    by : (b : Bool) → is_slot_of k.who k.tag who tag ≡ b → fills (found who tag ks) (if b then filled k else slot_in slots who tag)
        ≡ fills (if b then Some k else found who tag ks) (slot_in slots who tag)
    by true e = ap (λ (o : Option KeptReply). fills o (filled k)) (none_after k ks who tag r.0 e)
    by false e = refl

-- ---- the last of them

-- none has a smaller number than those before it
abbrev pub NoneFalls : List Deed → Type 0
NoneFalls [] = Unit {0}
NoneFalls (d ∷ ds) = ((e : Deed) → In e ds → d.reply.txn.0 ≤ e.reply.txn.0) × NoneFalls ds

pub rises_falls : (ds : List Deed) → DeedsRise ds → NoneFalls ds
rises_falls [] r = tt
rises_falls (d ∷ ds) r = (λ e i. let lt = r.0 e i in omega (arith, lt), rises_falls ds r.1)

filter_in : {A : Type 0} (f : A → Bool) (x : A) (xs : List A) → In x (filter f xs) → In x xs
filter_in f x [] i = absurd i
filter_in {A} f x (y ∷ ys) i = cond_both (f y) (y ∷ filter f ys) (filter f ys) (λ (zs : List A). In x zs → In x (y ∷ ys))
    (λ t j. ⊎_elim (λ (e : y ≡ x). inl e) (λ (k : In x (filter f ys)). inr (filter_in f x ys k)) j) (λ t j. inr (filter_in f x ys j)) i

pub falls_filter : (f : Deed → Bool) (ds : List Deed) → NoneFalls ds → NoneFalls (filter f ds)
falls_filter f [] r = tt
falls_filter f (d ∷ ds) r = cond_both (f d) (d ∷ filter f ds) (filter f ds) NoneFalls
    (λ t. (λ e i. r.0 e (filter_in f e ds i), falls_filter f ds r.1)) (λ t. falls_filter f ds r.1)

-- of that life and tag
abbrev pub OfSlot : Who → ℕ → Deed → Type 0
OfSlot who tag d = (d.reply.who ≡ who) × (d.tag ≡ tag)

-- the last one of the life and tag
pub record LastOf (ds : List Deed) (who : Who) (tag : ℕ) (slot : Slot) : Type 0 where
  pub deed : Deed
  pub among : In deed ds
  pub of : OfSlot who tag deed
  pub is : slot ≡ record { taken = deed.reply.xid.0; reply = Some deed.reply }
  pub most : (e : Deed) → In e ds → OfSlot who tag e → e.reply.txn.0 ≤ deed.reply.txn.0

abbrev pub NoneOf : List Deed → Who → ℕ → Type 0
NoneOf ds who tag = (e : Deed) → In e ds → OfSlot who tag e → ⊥

record Newest (ds : List Deed) (who : Who) (tag : ℕ) (o : Option KeptReply) : Type 0 where
  deed : Deed
  among : In deed ds
  of : OfSlot who tag deed
  is : o ≡ Some (kept_of deed)
  most : (e : Deed) → In e ds → OfSlot who tag e → e.reply.txn.0 ≤ deed.reply.txn.0

newest : (ds : List Deed) (ks : List KeptReply) (who : Who) (tag : ℕ) → NoneFalls ds → Newest ds who tag (found who tag (replies_of ds ks))
    ⊎ (NoneOf ds who tag × (found who tag (replies_of ds ks) ≡ found who tag ks))
newest [] ks who tag r = inr (λ e i. absurd i, refl)
newest (d ∷ ds) ks who tag r = by (newest ds (with_kept (kept_of d) ks) who tag r.1)
  where
    here : (b : Bool) → is_slot_of d.reply.who d.tag who tag ≡ b → NoneOf ds who tag → found who tag (replies_of (d ∷ ds) ks)
        ≡ (if b then Some (kept_of d) else found who tag ks)
        → Newest (d ∷ ds) who tag (found who tag (replies_of (d ∷ ds) ks))
        ⊎ (NoneOf (d ∷ ds) who tag × (found who tag (replies_of (d ∷ ds) ks) ≡ found who tag ks))
    here true e none is =
        inl (record {
          deed = d;
          among = inl refl;
          of = slot_who d.reply.who who d.tag tag e;
          is = is;
          most = λ f i of. ⊎_elim (λ (q : d ≡ f). let same : d.reply.txn.0 ≡ f.reply.txn.0 = ap (λ (v : Deed). v.reply.txn.0) q
              in omega arith) (λ (j : In f ds). absurd (none f j of)) i;
        })
    here false e none is =
        inr (
          λ f i of. ⊎_elim
              (λ (q : d ≡ f).
              let w : d.reply.who ≡ who = ap (λ (v : Deed). v.reply.who) q ∙ of.0 in
              let t : d.tag ≡ tag = ap (λ (v : Deed). v.tag) q ∙ of.1 in
              let own : is_slot_of d.reply.who d.tag who tag ≡ true = rw (w, t) (is_slot_self who tag) in
              absurd (cc))
              (λ (j : In f ds). none f j of)
              i,
          is,
        )

    by : Newest ds who tag (found who tag (replies_of ds (with_kept (kept_of d) ks)))
        ⊎ (NoneOf ds who tag × (found who tag (replies_of ds (with_kept (kept_of d) ks)) ≡ found who tag (with_kept (kept_of d) ks)))
        → Newest (d ∷ ds) who tag (found who tag (replies_of (d ∷ ds) ks))
        ⊎ (NoneOf (d ∷ ds) who tag × (found who tag (replies_of (d ∷ ds) ks) ≡ found who tag ks))
    by (inl n) =
        inl (record {
          deed = n.deed;
          among = inr n.among;
          of = n.of;
          is = n.is;
          most = λ f i of. ⊎_elim (λ (q : d ≡ f). let le = r.0 n.deed n.among in let same : d.reply.txn.0 ≡ f.reply.txn.0 =
              ap (λ (v : Deed). v.reply.txn.0) q in omega arith) (λ (j : In f ds). n.most f j of) i;
        })
    by (inr n) = here (is_slot_of d.reply.who d.tag who tag) refl n.0 (n.1 ∙ found_with (kept_of d) ks who tag)

pub last_slot : (ds : List Deed) (slots : List LifeSlot) (who : Who) (tag : ℕ) → NoneFalls ds
    → LastOf ds who tag (slot_in (slots_kept (replies_of ds []) slots) who tag)
    ⊎ (NoneOf ds who tag × (slot_in (slots_kept (replies_of ds []) slots) who tag ≡ slot_in slots who tag))
last_slot ds slots who tag r = by (newest ds [] who tag r)
  where
    is : slot_in (slots_kept (replies_of ds []) slots) who tag ≡ fills (found who tag (replies_of ds [])) (slot_in slots who tag)
    is = slots_found (replies_of ds []) slots who tag (rise_replies ds [] tt)

    by : Newest ds who tag (found who tag (replies_of ds [])) ⊎ (NoneOf ds who tag × (found who tag (replies_of ds []) ≡ None))
        → LastOf ds who tag (slot_in (slots_kept (replies_of ds []) slots) who tag)
        ⊎ (NoneOf ds who tag × (slot_in (slots_kept (replies_of ds []) slots) who tag ≡ slot_in slots who tag))
    by (inl n) = inl (record {
      deed = n.deed;
      among = n.among;
      of = n.of;
      is = is
          ∙ ap (λ (o : Option KeptReply). fills o (slot_in slots who tag)) n.is;
      most = n.most;
    })
    by (inr n) = inr (n.0, is ∙ ap (λ (o : Option KeptReply). fills o (slot_in slots who tag)) n.1)

-- ---- the slots of lives that leave are empty

pub slot_gone : (gone : List Who) (slots : List LifeSlot) (who : Who) (tag : ℕ) → is_life who gone ≡ true
    → slot_in (slots_without gone slots) who tag ≡ no_slot
slot_gone gone [] who tag t = refl
slot_gone gone (s ∷ slots) who tag t = by (is_life s.who gone) refl (slot_gone gone slots who tag t)
  where
    by : (b : Bool) → is_life s.who gone ≡ b → slot_in (slots_without gone slots) who tag ≡ no_slot
        → slot_in (if not b then s ∷ slots_without gone slots else slots_without gone slots) who tag ≡ no_slot
    by true e ih = ih
    by false e ih = other (is_slot_of s.who s.tag who tag) refl
      where
        other : (b : Bool) → is_slot_of s.who s.tag who tag ≡ b → (if b then s.slot else slot_in (slots_without gone slots) who tag)
            ≡ no_slot
        other false q = ih
        other true q = let k = slot_who s.who who s.tag tag q in let out : is_life who gone ≡ false =
            subst (λ (w : Who). is_life w gone ≡ false) k.0 e in absurd (cc)

-- ---- the last number

-- the last of these numbers is the first one, or of one of them
pub last_in : (ts : List Transaction) (n : ℕ) → (last_number ts n ≡ n) ⊎ ((t : Transaction) × In t ts × (last_number ts n ≡ t.txn.0))
last_in [] n = inl refl
last_in (t ∷ ts) n = ⊎_elim (λ (e : last_number ts t.txn.0 ≡ t.txn.0). inr (t, inl refl, e))
    (λ (k : (u : Transaction) × In u ts × (last_number ts t.txn.0 ≡ u.txn.0)). inr (k.0, inr k.1, k.2)) (last_in ts t.txn.0)

abbrev above : ℕ → List Deed → List Transaction
above m ds = filter (λ (t : Transaction). nat_lt m t.txn.0) (map {A = Deed} {B = Transaction} transaction_of ds)

-- those above a number are of these deeds
pub above_in : (m : ℕ) (ds : List Deed) (t : Transaction) → In t (above m ds) → (e : Deed) × In e ds × (t.txn.0 ≡ e.reply.txn.0)
    × (m < t.txn.0)
above_in m [] t i = absurd i
above_in m (d ∷ ds) t i =
    cond_both (nat_lt m d.reply.txn.0) (transaction_of d ∷ above m ds) (above m ds)
    (λ (ts : List Transaction). In t ts → (e : Deed) × In e (d ∷ ds) × (t.txn.0 ≡ e.reply.txn.0) × (m < t.txn.0))
    (λ q j. ⊎_elim
    (λ (e : transaction_of d ≡ t).
    let same : d.reply.txn.0 ≡ t.txn.0 = ap (λ (v : Transaction). v.txn.0) e in
    let lt : m < d.reply.txn.0 = grind (arith, nat_tests, q) in
    (d, inl refl, sym same, omega (arith, same, lt)))
    (λ (k : In t (above m ds)). let r = above_in m ds t k in (r.0, inr r.1, r.2, r.3))
    j)
    (λ q j. let r = above_in m ds t j in (r.0, inr r.1, r.2, r.3))
    i

-- the last number isn't below the first one
pub last_least : (m : ℕ) (ds : List Deed) (n : ℕ) → ((e : Deed) → In e ds → n ≤ e.reply.txn.0) → n ≤ last_number (above m ds) n
last_least m ds n all =
    ⊎_elim
    (λ (e : last_number (above m ds) n ≡ n). omega (arith, e))
    (λ (k : (t : Transaction) × In t (above m ds) × (last_number (above m ds) n ≡ t.txn.0)). let r = above_in m ds k.0 k.1 in let le =
    all r.0 r.1 in let same = r.2 in let is = k.2 in omega (arith, le, same, is))
    (last_in (above m ds) n)

-- nor below the number that all are above
pub last_upto : (m : ℕ) (ds : List Deed) → m ≤ last_number (above m ds) m
last_upto m ds =
    ⊎_elim
    (λ (e : last_number (above m ds) m ≡ m). omega (arith, e))
    (λ (k : (t : Transaction) × In t (above m ds) × (last_number (above m ds) m ≡ t.txn.0)). let r = above_in m ds k.0 k.1 in let lt = r.3
    in let is = k.2 in omega (arith, lt, is))
    (last_in (above m ds) m)

-- nor below any, where they rise and all are above
pub last_most : (m : ℕ) (ds : List Deed) (n : ℕ) → NoneFalls ds → ((e : Deed) → In e ds → m < e.reply.txn.0) → (e : Deed) → In e ds
    → e.reply.txn.0 ≤ last_number (above m ds) n
last_most m [] n r all e i = absurd i
last_most m (d ∷ ds) n r all e i =
    subst (λ (ts : List Transaction). e.reply.txn.0 ≤ last_number ts n)
    (sym (cond-true (nat_lt m d.reply.txn.0) (transaction_of d ∷ above m ds) (above m ds)
    (let lt = all d (inl refl) in grind (arith, nat_tests, lt))))
    (⊎_elim
    (λ (q : d ≡ e). let same : d.reply.txn.0 ≡ e.reply.txn.0 = ap (λ (v : Deed). v.reply.txn.0) q in let le =
    last_least m ds d.reply.txn.0 r.0 in omega (arith, same, le))
    (λ (j : In e ds). last_most m ds d.reply.txn.0 r.1 (λ f k. all f (inr k)) e j)
    i)
