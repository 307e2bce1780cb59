-- A message that was sent is in the story of its object.
use Rattle.std.proofs.Common.{◌≡◌, ℕ, inl, inr, ⊎_elim, List, [], ◌∷◌, Option, Some, None, Bool, true, false, refl, sym, subst}
use Rattle.std.specs.Prelude.{nat_eq, if◌then◌else◌, ◌&&◌}
use Rattle.std.proofs.lemmas.Bool.{eq-eqb}
use Rattle.lu_proof_bytes.specs.Object.Words.{Lock, Request, Answer, Entry, Send as Sends, Ask as Asks, Reply as Replies, Give as Gives}
use Rattle.lu_proof_bytes.specs.Object.Words.{Block as Blocks, Cancel as Cancels}
use Rattle.lu_proof_bytes.specs.Object.Words as object
use Rattle.lu_proof_bytes.specs.Object.Folds.{Was}
use Rattle.lu_proof_bytes.specs.Objects.Words.{Message, Ask, Reply, Give, Block, Cancel, Line, Knows, Serves, Flies, Lives, Tells, Over}
use Rattle.lu_proof_bytes.specs.Objects.Words.{Joins, Queue, Serve, Works, Evict, Commit, Crash, Boot, Close, Send, Place}
use Rattle.lu_proof_bytes.specs.Objects.Folds.{evicted, place, object_of, Sent}
use Rattle.lu_proof_bytes.specs.Objects.Only.{is_at, is_object, sent, step, put, only}
use Rattle.lu_proof_bytes.specs.Objects.Guards.{SentOk, LineOk}
use Rattle.lu_proof_bytes.proofs.Objects.Base.{Base, place_more, object_more, or_false}
use Rattle.lu_proof_bytes.proofs.Objects.Tied.{at, not_live}

-- each message that target t, or a life to it, sent is in the story of its object; of a life's own, while it isn't evicted
abbrev pub Mail : ℕ → List Line → Type 0
Mail t past = record {
  asks : (b g o : ℕ) (r : Request) → Sent past t (Ask b g o r) → evicted t r.life past ≡ false → Was (only t o past) (Asks b r);
  replies : (b c x : ℕ) (a : Answer) → Sent past t (Reply b c x a) → (o g : ℕ) × (place t c x past ≡ Some (at o g))
      × Was (only t o past) (Replies b c x a);
  gives : (b : ℕ) (l : Lock) (s : ℕ) (sn : ℕ → Bool) → Sent past t (Give b l s sn) → (o : ℕ) × (object_of t l.cookie past ≡ Some o)
      × Was (only t o past) (Gives b l s sn);
  blocks : (b c k : ℕ) → Sent past t (Block b c k) → (o : ℕ) × (object_of t k past ≡ Some o) × Was (only t o past) (Blocks b c k);
  cancels : (b c k : ℕ) → Sent past t (Cancel b c k) → evicted t c past ≡ false → (o : ℕ) × (object_of t k past ≡ Some o)
      × Was (only t o past) (Cancels b c k);
}

was_more : (e : Entry) (h : List Entry) (m : object.Message) → Was h m → Was (e ∷ h) m
was_more (Sends k) h m i = inr i
was_more _ h m i = i

was_put : (e : Option Entry) (h : List Entry) (m : object.Message) → Was h m → Was (put e h) m
was_put None h m i = i
was_put (Some e) h m i = was_more e h m i

was_step : (t o : ℕ) (past : List Line) (l : Line) (m : object.Message) → Was (only t o past) m → Was (only t o (l ∷ past)) m
was_step t o past l m i = was_put (step t o past l) (only t o past) m i

pub evicted_less : (t c : ℕ) (past : List Line) (l : Line) → evicted t c (l ∷ past) ≡ false → evicted t c past ≡ false
evicted_less t c past (Evict u d) e = or_false (nat_eq t u && nat_eq c d) (evicted t c past) e
evicted_less t c past (Close u lost gone) e = or_false (nat_eq t u && gone c) (evicted t c past) e
evicted_less t c past (Knows u d b) e = e
evicted_less t c past (Serves u d b) e = e
evicted_less t c past (Flies u o g r) e = e
evicted_less t c past (Lives u o d x) e = e
evicted_less t c past (Tells d does) e = e
evicted_less t c past (Over d) e = e
evicted_less t c past (Joins u d) e = e
evicted_less t c past (Serve u o g r x) e = e
evicted_less t c past (Works u o x) e = e
evicted_less t c past (Queue u o g r) e = e
evicted_less t c past (Commit u n) e = e
evicted_less t c past (Crash u) e = e
evicted_less t c past (Boot u b) e = e
evicted_less t c past (Send u m) e = e

-- what was sent before
record Old (t : ℕ) (past : List Line) (l : Line) : Type 0 where
  pub asks : (b g o : ℕ) (r : Request) → Sent past t (Ask b g o r) → evicted t r.life (l ∷ past) ≡ false
      → Was (only t o (l ∷ past)) (Asks b r)
  pub replies : (b c x : ℕ) (a : Answer) → Sent past t (Reply b c x a) → (o g : ℕ) × (place t c x (l ∷ past) ≡ Some (at o g))
      × Was (only t o (l ∷ past)) (Replies b c x a)
  pub gives : (b : ℕ) (k : Lock) (s : ℕ) (sn : ℕ → Bool) → Sent past t (Give b k s sn) → (o : ℕ)
      × (object_of t k.cookie (l ∷ past) ≡ Some o) × Was (only t o (l ∷ past)) (Gives b k s sn)
  pub blocks : (b c k : ℕ) → Sent past t (Block b c k) → (o : ℕ) × (object_of t k (l ∷ past) ≡ Some o)
      × Was (only t o (l ∷ past)) (Blocks b c k)
  pub cancels : (b c k : ℕ) → Sent past t (Cancel b c k) → evicted t c (l ∷ past) ≡ false → (o : ℕ) × (object_of t k (l ∷ past) ≡ Some o)
      × Was (only t o (l ∷ past)) (Cancels b c k)

old : (t : ℕ) (past : List Line) (l : Line) → LineOk past l → Base t past → Mail t past → Old t past l
old t past l ok bs w = record {
  asks = λ b g o r i v. was_step t o past l (Asks b r) (w.asks b g o r i (evicted_less t r.life past l v));
  replies = λ b c x a i. let p = w.replies b c x a i in (
    p.0,
    p.1,
    place_more t past l c x (at p.0 p.1) ok (bs.place_low c x (at p.0 p.1)) p.2,
    was_step t p.0 past l (Replies b c x a) p.3,
  );
  gives = λ b k s sn i. let p = w.gives b k s sn i in (
    p.0,
    object_more t past l k.cookie p.0 ok (bs.cookie_low k.cookie p.0) p.1,
    was_step t p.0 past l (Gives b k s sn) p.2,
  );
  blocks = λ b c k i. let p = w.blocks b c k i in (
    p.0,
    object_more t past l k p.0 ok (bs.cookie_low k p.0) p.1,
    was_step t p.0 past l (Blocks b c k) p.2,
  );
  cancels = λ b c k i v. let p = w.cancels b c k i (evicted_less t c past l v)
      in (p.0, object_more t past l k p.0 ok (bs.cookie_low k p.0) p.1, was_step t p.0 past l (Cancels b c k) p.2);
}

-- a message of this object
sends : (t o : ℕ) (past : List Line) (m : Message) (k : object.Message) → sent t o past m ≡ Some (Sends k)
    → Was (only t o (Send t m ∷ past)) k
sends t o past m k e = subst (λ (x : Option Entry). Was (put x (only t o past)) k) (sym both) (inl refl)
  where
    both : (if nat_eq t t then sent t o past m else None) ≡ Some (Sends k)
    both = rw (eq-eqb t t refl, e)

pub is_at_it : (p : Option Place) (o g : ℕ) → p ≡ Some (at o g) → is_at p o ≡ true
is_at_it p o g e = rw (e, eq-eqb o o refl)

pub is_object_it : (p : Option ℕ) (o : ℕ) → p ≡ Some o → is_object p o ≡ true
is_object_it p o e = rw (e, eq-eqb o o refl)

new_mail : (t u : ℕ) (m : Message) (past : List Line) → LineOk past (Send u m) → Base t past → Mail t past → Mail t (Send u m ∷ past)
new_mail t u m past ok bs w = record {
  asks = λ b g o r i v. ⊎_elim
      (λ (p : (t ≡ u) × (m ≡ Ask b g o r)). let k = mine p.0 (Ask b g o r) p.1
      in moved p.0 (Ask b g o r) p.1 o (Asks b r) (sends t o past (Ask b g o r) (Asks b r)
      (rw (eq-eqb o o refl, not_live t r.life past v k.0))))
      (λ (p : Sent past t (Ask b g o r)). before.asks b g o r p v) i;
  replies = λ b c x a i. ⊎_elim
      (λ (p : (t ≡ u) × (m ≡ Reply b c x a)). let k = mine p.0 (Reply b c x a) p.1 in let y = k.3
      in (
        y.0,
        y.1,
        y.2,
        moved p.0 (Reply b c x a) p.1 y.0 (Replies b c x a)
            (sends t y.0 past (Reply b c x a) (Replies b c x a) (rw (is_at_it (place t c x past) y.0 y.1 y.2))),
      ))
      (before.replies b c x a) i;
  gives = λ b l s sn i. ⊎_elim
      (λ (p : (t ≡ u) × (m ≡ Give b l s sn)). let k = mine p.0 (Give b l s sn) p.1 in let y = k.3
      in (
        y.0,
        y.1,
        moved p.0 (Give b l s sn) p.1 y.0 (Gives b l s sn)
            (sends t y.0 past (Give b l s sn) (Gives b l s sn) (rw (is_object_it (object_of t l.cookie past) y.0 y.1))),
      ))
      (before.gives b l s sn) i;
  blocks = λ b c j i. ⊎_elim
      (λ (p : (t ≡ u) × (m ≡ Block b c j)). let y = mine p.0 (Block b c j) p.1
      in (
        y.0,
        y.1,
        moved p.0 (Block b c j) p.1 y.0 (Blocks b c j)
            (sends t y.0 past (Block b c j) (Blocks b c j) (rw (is_object_it (object_of t j past) y.0 y.1))),
      ))
      (before.blocks b c j) i;
  cancels = λ b c j i v. ⊎_elim
      (λ (p : (t ≡ u) × (m ≡ Cancel b c j)). let k = mine p.0 (Cancel b c j) p.1 in let l = not_live t c past v k.0 in let y = k.1 l
      in (
        y.0,
        y.1,
        moved p.0 (Cancel b c j) p.1 y.0 (Cancels b c j)
            (sends t y.0 past (Cancel b c j) (Cancels b c j) (rw (is_object_it (object_of t j past) y.0 y.1, l))),
      ))
      (λ (p : Sent past t (Cancel b c j)). before.cancels b c j p v) i;
}
  where
    before : Old t past (Send u m)
    before = old t past (Send u m) ok bs w

    mine : t ≡ u → (k : Message) → m ≡ k → SentOk past t k
    mine e k f = subst (λ (y : ℕ × Message). SentOk past y.0 y.1) (λ i. (sym e i, f i)) ok

    moved : t ≡ u → (k : Message) → m ≡ k → (o : ℕ) (j : object.Message) → Was (only t o (Send t k ∷ past)) j
        → Was (only t o (Send u m ∷ past)) j
    moved e k f o j i = subst (λ (y : ℕ × Message). Was (only t o (Send y.0 y.1 ∷ past)) j) (λ n. (e n, sym f n)) i

from_old : (t : ℕ) (past : List Line) (l : Line) → ((m : Message) → Sent (l ∷ past) t m → Sent past t m) → Old t past l → Mail t (l ∷ past)
from_old t past l s w = record {
  asks = λ b g o r i v. w.asks b g o r (s (Ask b g o r) i) v;
  replies = λ b c x a i. w.replies b c x a (s (Reply b c x a) i);
  gives = λ b k z sn i. w.gives b k z sn (s (Give b k z sn) i);
  blocks = λ b c k i. w.blocks b c k (s (Block b c k) i);
  cancels = λ b c k i v. w.cancels b c k (s (Cancel b c k) i) v;
}

pub mail_line : (t : ℕ) (past : List Line) (l : Line) → LineOk past l → Base t past → Mail t past → Mail t (l ∷ past)
mail_line t past (Send u m) ok bs w = new_mail t u m past ok bs w
mail_line t past (Knows u d b) ok bs w = from_old t past (Knows u d b) (λ m i. i) (old t past (Knows u d b) ok bs w)
mail_line t past (Serves u d b) ok bs w = from_old t past (Serves u d b) (λ m i. i) (old t past (Serves u d b) ok bs w)
mail_line t past (Flies u o g r) ok bs w = from_old t past (Flies u o g r) (λ m i. i) (old t past (Flies u o g r) ok bs w)
mail_line t past (Lives u o d x) ok bs w = from_old t past (Lives u o d x) (λ m i. i) (old t past (Lives u o d x) ok bs w)
mail_line t past (Tells d does) ok bs w = from_old t past (Tells d does) (λ m i. i) (old t past (Tells d does) ok bs w)
mail_line t past (Over d) ok bs w = from_old t past (Over d) (λ m i. i) (old t past (Over d) ok bs w)
mail_line t past (Joins u d) ok bs w = from_old t past (Joins u d) (λ m i. i) (old t past (Joins u d) ok bs w)
mail_line t past (Serve u o g r x) ok bs w = from_old t past (Serve u o g r x) (λ m i. i) (old t past (Serve u o g r x) ok bs w)
mail_line t past (Queue u o g r) ok bs w = from_old t past (Queue u o g r) (λ m i. i) (old t past (Queue u o g r) ok bs w)
mail_line t past (Works u o x) ok bs w = from_old t past (Works u o x) (λ m i. i) (old t past (Works u o x) ok bs w)
mail_line t past (Evict u d) ok bs w = from_old t past (Evict u d) (λ m i. i) (old t past (Evict u d) ok bs w)
mail_line t past (Commit u n) ok bs w = from_old t past (Commit u n) (λ m i. i) (old t past (Commit u n) ok bs w)
mail_line t past (Crash u) ok bs w = from_old t past (Crash u) (λ m i. i) (old t past (Crash u) ok bs w)
mail_line t past (Boot u b) ok bs w = from_old t past (Boot u b) (λ m i. i) (old t past (Boot u b) ok bs w)
mail_line t past (Close u lost gone) ok bs w = from_old t past (Close u lost gone) (λ m i. i) (old t past (Close u lost gone) ok bs w)

pub no_mail : (t : ℕ) → Mail t []
no_mail t = record {
  asks = λ b g o r i v. absurd i;
  replies = λ b c x a i. absurd i;
  gives = λ b l s sn i. absurd i;
  blocks =
      λ b c k i. absurd i;
  cancels = λ b c k i v. absurd i;
}
