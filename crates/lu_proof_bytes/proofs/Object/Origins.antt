-- Each byte that a put carries was told to be written, and each cut told, before the request was first sent.
use Rattle.std.proofs.Common.{◌≡◌, ℕ, suc, ◌≤◌, ◌⊎◌, inl, inr, ⊎_elim, List, [], ◌∷◌, Option, Some, None, Bool, true, false, refl, sym, ap}
use Rattle.std.proofs.Common.{◌∙◌, subst, arith}
use Rattle.std.specs.Prelude.{if◌then◌else◌}
use Rattle.std.proofs.lemmas.Bool.Decides.{nat_tests}
use Rattle.lu_proof_bytes.specs.Object.Words.{Change, Write, Cut, Op, Flush, Request, Answer, Done, Message, Ask, Did, Saw, Entry, Takes}
use Rattle.lu_proof_bytes.specs.Object.Words.{Flies, Heard, Tells, Txn, Send, within}
use Rattle.lu_proof_bytes.specs.Object.Folds.{Was, flight, asked, WriteBack, taken_heard, taken, pending, dirty, flying, cut_by, dirty_by}
use Rattle.lu_proof_bytes.specs.Object.Folds.{dirty_cut, cut_acked, dirty_acked}
use Rattle.lu_proof_bytes.specs.Object.History.{ToldWrite, ToldCut, Origin, OriginOf, PutsAt, Puts}
use Rattle.lu_proof_bytes.specs.Object.Guards.{FlushOk, TakesOk, New, OpOk, SendOk, Allowed, AllAllowed}
use Rattle.lu_proof_bytes.proofs.Object.Numbers.{Numbers, fresh_flies}
use Rattle.lu_proof_bytes.proofs.Object.Spot.{run_out, run_in}
use Rattle.lu_proof_bytes.proofs.Object.Patches.{at_life, acked_cut, taken_still, some_back}
use Rattle.lu_proof_bytes.proofs.Object.World.{world}

-- the byte was told in a write of the life, or is 0 right before the end of a cut that was told
abbrev pub ByteFrom : List Entry → ℕ → ℕ → ℕ → Type 0
ByteFrom h c p b = ToldWrite h c p b ⊎ ((b ≡ 0) × ToldCut h c (suc p))

-- what the request writes back was told before it began to fly
abbrev pub Flushing : List Entry → Request → Type 0
Flushing h r = (k : ℕ) (ch : Change) → r.op ≡ Flush k ch → OriginOf h r ch

-- what is so of a life's changes: each dirty byte and each pending cut was told, and so was what is under way of a write-back, and what a
-- request in flight writes back; and no request that was ever sent has a number above the last one that was asked
abbrev pub Origins : List Entry → Type 0
Origins h = record {
  bytes : (c p b : ℕ) → dirty c h p ≡ Some b → ByteFrom h c p b;
  cuts : (c n : ℕ) → pending c h ≡ Some n → ToldCut h c n;
  takes : (c : ℕ) (w : WriteBack) → taken c h ≡ Some w → Origin h c w.change;
  flies : (c : ℕ) (r : Request) → flight c h ≡ Some r → Flushing h r;
  ever : (b : ℕ) (r : Request) → Was h (Ask b r) → r.xid ≤ asked r.life h;
}

write_more : (h : List Entry) (e : Entry) (c p b : ℕ) → ToldWrite h c p b → ToldWrite (e ∷ h) c p b
write_more h (Tells d (Did j (Write at bs))) c p b i = inr i
write_more h (Tells d (Did j (Cut n))) c p b i = i
write_more h (Tells d (Saw at n vs)) c p b i = i
write_more h _ c p b i = i

cut_more : (h : List Entry) (e : Entry) (c n : ℕ) → ToldCut h c n → ToldCut (e ∷ h) c n
cut_more h (Tells d (Did j (Cut m))) c n i = inr i
cut_more h (Tells d (Did j (Write at bs))) c n i = i
cut_more h (Tells d (Saw at m vs)) c n i = i
cut_more h _ c n i = i

from_more : (h : List Entry) (e : Entry) (c p b : ℕ) → ByteFrom h c p b → ByteFrom (e ∷ h) c p b
from_more h e c p b (inl i) = inl (write_more h e c p b i)
from_more h e c p b (inr i) = inr (i.0, cut_more h e c (suc p) i.1)

origin_more : (h : List Entry) (e : Entry) (r : Request) (ch : Change) → OriginOf h r ch → OriginOf (e ∷ h) r ch
origin_more h (Flies q) r ch i = inr i
origin_more h _ r ch i = i

cut_pending : (n m : ℕ) (q : Option ℕ) → cut_by (Cut n) q ≡ Some m → (n ≡ m) ⊎ (q ≡ Some m)
cut_pending n m None e = inl cc
cut_pending n m (Some q) e = grind (arith, nat_tests)

cut_dirty : (n p b : ℕ) (q d : Option ℕ) → dirty_cut n q p d ≡ Some b → ((b ≡ 0) × (n ≡ suc p)) ⊎ (d ≡ Some b)
cut_dirty n p b None d e = grind (arith, nat_tests)
cut_dirty n p b (Some q) None e = grind (arith, nat_tests)
cut_dirty n p b (Some q) (Some x) e = grind (arith, nat_tests)

told_bytes : (h : List Entry) (c j p b : ℕ) (ch : Change) → Origins h → dirty_by ch (pending c h) p (dirty c h p) ≡ Some b
    → ByteFrom (Tells c (Did j ch) ∷ h) c p b
told_bytes h c j p b (Write at bs) w e = by (within at bs p) refl
  where
    by : (v : Bool) → within at bs p ≡ v → ByteFrom (Tells c (Did j (Write at bs)) ∷ h) c p b
    by true f = let r = run_in at bs p f in inl (inl (refl, r.1 None ∙ sym (r.1 (dirty c h p)) ∙ e))
    by false f = from_more h (Tells c (Did j (Write at bs))) c p b (w.bytes c p b (sym (run_out at bs p (dirty c h p) f) ∙ e))
told_bytes h c j p b (Cut n) w e =
    ⊎_elim
    (λ (f : (b ≡ 0) × (n ≡ suc p)). inr (f.0, inl (refl, f.1)))
    (λ (f : dirty c h p ≡ Some b). from_more h (Tells c (Did j (Cut n))) c p b (w.bytes c p b f))
    (cut_dirty n p b (pending c h) (dirty c h p) e)

told_cuts : (h : List Entry) (c j n : ℕ) (ch : Change) → Origins h → cut_by ch (pending c h) ≡ Some n → ToldCut (Tells c (Did j ch) ∷ h) c n
told_cuts h c j n (Write at bs) w e = w.cuts c n e
told_cuts h c j n (Cut m) w e = ⊎_elim (λ (f : m ≡ n). inl (refl, f)) (λ (f : pending c h ≡ Some n). inr (w.cuts c n f))
    (cut_pending m n (pending c h) e)

acked_byte : (op : Op) (a : Answer) (f : Bool) (d : Option ℕ) (b : ℕ) → dirty_acked op a f d ≡ Some b → d ≡ Some b
acked_byte (Flush k (Write at bs)) (Done m) true d b e = absurd (cc)
acked_byte (Flush k (Write at bs)) (Done m) false d b e = e
acked_byte (Flush k (Write at bs)) _ f d b e = e
acked_byte (Flush k (Cut n)) a f d b e = e
acked_byte _ a f d b e = e

told_more : (h : List Entry) (e : Entry) (c : ℕ) (ch : Change) → Origin h c ch → Origin (e ∷ h) c ch
told_more h e c (Write at bs) o = λ p b i. from_more h e c p b (o p b i)
told_more h e c (Cut n) o = cut_more h e c n o

-- an entry that leaves the patches and what is in flight
more : (h : List Entry) (e : Entry) → ((c p : ℕ) → dirty c (e ∷ h) p ≡ dirty c h p) → ((c : ℕ) → pending c (e ∷ h) ≡ pending c h)
    → ((c : ℕ) → taken c (e ∷ h) ≡ taken c h) → ((c : ℕ) → flight c (e ∷ h) ≡ flight c h)
    → ((b : ℕ) (r : Request) → Was (e ∷ h) (Ask b r) → r.xid ≤ asked r.life h)
    → ((c : ℕ) → asked c (e ∷ h) ≡ asked c h) → Origins h → Origins (e ∷ h)
more h e d q u f v x w = record {
  bytes = λ c p b i. from_more h e c p b (w.bytes c p b (sym (d c p) ∙ i));
  cuts = λ c n i. cut_more h e c n (w.cuts c n (sym (q c) ∙ i));
  takes = λ c b i. told_more h e c b.change (w.takes c b (sym (u c) ∙ i));
  flies = λ c r i k ch o. origin_more h e r ch (w.flies c r (sym (f c) ∙ i) k ch o);
  ever = λ b r i. let j = v b r i in let m = x r.life in omega arith;
}

tells : (h : List Entry) (d j : ℕ) (ch : Change) → Origins h → Origins (Tells d (Did j ch) ∷ h)
tells h d j ch w = record {
  bytes = λ c p b. at_life (λ k v. (if v then dirty_by ch (pending k h) p (dirty k h p) else dirty k h p) ≡ Some b
      → ByteFrom (Tells d (Did j ch) ∷ h) k p b) c d (λ e. told_bytes h d j p b ch w e)
      (λ ne e. from_more h (Tells d (Did j ch)) c p b (w.bytes c p b e));
  cuts = λ c n. at_life (λ k v. (if v then cut_by ch (pending k h) else pending k h) ≡ Some n → ToldCut (Tells d (Did j ch) ∷ h) k n) c d
      (λ e. told_cuts h d j n ch w e) (λ ne e. cut_more h (Tells d (Did j ch)) c n (w.cuts c n e));
  takes = λ c b i. told_more h (Tells d (Did j ch)) c b.change (w.takes c b i);
  flies = λ c r i k c' o. origin_more h (Tells d (Did j ch)) r c' (w.flies c r i k c' o);
  ever = w.ever;
}

hears : (h : List Entry) (r : Request) (a : Answer) → Origins h → Origins (Heard r a ∷ h)
hears h r a w = record {
  bytes = λ c p b. at_life (λ k v. (if v then dirty_acked r.op a (flying k h p) (dirty k h p) else dirty k h p) ≡ Some b → ByteFrom h k p b)
      c r.life (λ e. w.bytes r.life p b (acked_byte r.op a (flying r.life h p) (dirty r.life h p) b e)) (λ ne e. w.bytes c p b e);
  cuts = λ c n. at_life (λ k v. (if v then cut_acked r.op a (pending k h) else pending k h) ≡ Some n → ToldCut h k n) c r.life
      (λ e. w.cuts r.life n (acked_cut r.op a (pending r.life h) n e)) (λ ne e. w.cuts c n e);
  takes = λ c b. at_life (λ k v. (if v then taken_heard r.op (taken k h) else taken k h) ≡ Some b → Origin h k b.change) c r.life
      (λ e. w.takes r.life b (taken_still r.op (taken r.life h) b e)) (λ ne e. w.takes c b e);
  flies = λ c q. at_life (λ k v. (if v then None else flight k h) ≡ Some q → Flushing h q) c r.life (λ e. absurd (cc))
      (λ ne e. w.flies c q e);
  ever = w.ever;
}

change_from : (h : List Entry) (c : ℕ) (ch : Change) → Origins h → FlushOk h c ch → Origin h c ch
change_from h c (Write at bs) w ok = λ p b e. w.bytes c p b (ok.1 p b e)
change_from h c (Cut n) w ok = w.cuts c n ok

takes : (h : List Entry) (d k : ℕ) (ch : Change) → TakesOk h d k ch → Origins h → Origins (Takes d k ch ∷ h)
takes h d k ch ok w = record {
  bytes = λ c p b e. w.bytes c p b e;
  cuts = λ c m e. w.cuts c m e;
  takes = λ c b. at_life (λ j v. (if v then Some (record { lock = k; change = ch }) else taken j h) ≡ Some b → Origin h j b.change) c d
      (λ e. subst (λ (x : WriteBack). Origin h d x.change) (some_back (record { lock = k; change = ch }) b e)
      (change_from h d ch w ok.change)) (λ ne e. w.takes c b e);
  flies = λ c q i j x o. w.flies c q i j x o;
  ever = w.ever;
}

flies : (h : List Entry) (r : Request) → New h r → Origins h → Origins (Flies r ∷ h)
flies h r ok w = record {
  bytes = λ c p b e. w.bytes c p b e;
  cuts = λ c m e. w.cuts c m e;
  takes = λ c b e. told_more h (Flies r) c b.change (w.takes c b e);
  flies = λ c q. at_life (λ k v. (if v then Some r else flight k h) ≡ Some q → Flushing (Flies r ∷ h) q) c r.life
      (λ e k ch o. let s : r ≡ q = cc in new q s k ch o) (λ ne e k ch o. inr (w.flies c q e k ch o));
  ever = λ b q i. let low = w.ever b q i in let next = ok.next in grind (arith, nat_tests);
}
  where
    fresh : (b : ℕ) → Was h (Ask b r) → ⊥
    fresh b i =
        let next = ok.next in
        let low = w.ever b r i in
        omega arith

    new : (q : Request) → r ≡ q → Flushing (Flies r ∷ h) q
    new q s k ch o = inl (
      s,
      subst (λ (x : Request). (b : ℕ) → Was h (Ask b x) → ⊥) s fresh,
      subst (λ (x : Request). Origin h x.life ch) s (w.takes r.life (record { lock = k; change = ch })
          (subst (λ (op : Op). OpOk h r.life op) (ap (λ (x : Request). x.op) s ∙ o) ok.op)),
    )

sent : (h : List Entry) (m : Message) → Numbers h → SendOk h m → Origins h → (b : ℕ) (r : Request) → (m ≡ Ask b r) ⊎ Was h (Ask b r)
    → r.xid ≤ asked r.life h
sent h m n ok w b r (inl e) = (n.flies r.life r (subst (λ (y : Message). SendOk h y) e ok).0).1
sent h m n ok w b r (inr i) = w.ever b r i

pub origins_line : (h : List Entry) (e : Entry) → Numbers h → Origins h → Allowed h e → Origins (e ∷ h)
origins_line h (Tells d (Did j ch)) n w ok = tells h d j ch w
origins_line h (Tells d (Saw at m vs)) n w ok = more h (Tells d (Saw at m vs)) (λ c p. refl) (λ c. refl) (λ c. refl) (λ c. refl) w.ever
    (λ c. refl) w
origins_line h (Heard r a) n w ok = hears h r a w
origins_line h (Takes d k ch) n w ok = takes h d k ch ok w
origins_line h (Flies r) n w ok = flies h r ok w
origins_line h (Send m) n w ok = more h (Send m) (λ c p. refl) (λ c. refl) (λ c. refl) (λ c. refl) (sent h m n ok w) (λ c. refl) w
origins_line h e n w ok = more h e (λ c p. refl) (λ c. refl) (λ c. refl) (λ c. refl) w.ever (λ c. refl) w

puts_at : (h : List Entry) (e : Entry) → Numbers h → Origins h → Allowed h e → PutsAt h e
puts_at h (Txn m r) n w ok = λ k ch e. w.flies r.life r (fresh_flies h r n ok.2.fresh) k ch e
puts_at h _ n w ok = tt

origins : (h : List Entry) → AllAllowed h → Origins h
origins [] all = record {
  bytes = λ c p b e. absurd (cc);
  cuts = λ c n e. absurd (cc);
  takes = λ c b e. absurd (cc);
  flies =
      λ c r e. absurd (cc);
  ever = λ b r i. absurd i;
}
origins (e ∷ h) all = origins_line h e (world h all.1).numbers (origins h all.1) all.0

pub allowed_puts : (h : List Entry) → AllAllowed h → Puts h
allowed_puts [] all = tt
allowed_puts (e ∷ h) all = (puts_at h e (world h all.1).numbers (origins h all.1) all.0, allowed_puts h all.1)
