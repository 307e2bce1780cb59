-- The file's bytes are those of its stripes, and each read of the file is right, through whatever layout.
use Rattle.std.proofs.Common.{◌≡◌, ℕ, suc, zero, ◌<◌, ◌≤◌, ◌+◌, ◌-◌, ◌⊎◌, ⊎_elim, List, [], ◌∷◌, length, min, Option, Some, None, Bool}
use Rattle.std.proofs.Common.{true, false, refl, sym, ap, ◌∙◌, subst, arith}
use Rattle.std.specs.Prelude.{nat_eq, nat_lt, if◌then◌else◌, ◌&&◌, not}
use Rattle.std.proofs.lemmas.Bool.{eqb-true, eqb-false, both_ways, ltb-true, ltb-false}
use Rattle.std.proofs.lemmas.Bool.Decides.{nat_tests}
use Rattle.lu_proof_bytes.specs.Object.Words.{Change, Write, Cut, Op, Enqueue, Get, Flush, Size, Request, Call, Entry, Flies as Flew, Takes}
use Rattle.lu_proof_bytes.specs.Object.Words.{Heard, Hold, Drop, Forgets, Tells as Told, Grant, Wait, Promote, Acts, Txn, Release}
use Rattle.lu_proof_bytes.specs.Object.Words.{Evict as Evicted, Commit as Committed, Close as Closed, Send as Sends, overlay, within, value}
use Rattle.lu_proof_bytes.specs.Object.Words.{after_at}
use Rattle.lu_proof_bytes.specs.Object.Folds.{object}
use Rattle.lu_proof_bytes.specs.Object.History.{plain, history, piece_item}
use Rattle.lu_proof_bytes.specs.Object.History
use Rattle.lu_proof_bytes.proofs.Object.Spot.{run_out, run_bounds}
use Rattle.lu_proof_bytes.proofs.Object.World.{world}
use Rattle.lu_proof_bytes.specs.Objects.Words.{Line, Knows, Serves, Flies, Lives, Tells, Over, Joins, Queue, Serve, Works, Evict, Commit}
use Rattle.lu_proof_bytes.specs.Objects.Words.{Crash, Boot, Close, Send}
use Rattle.lu_proof_bytes.specs.Objects.Folds.{evicted, over as ended, Kept}
use Rattle.lu_proof_bytes.specs.Objects.Only.{live}
use Rattle.lu_proof_bytes.specs.Objects.Guards.{AllOk}
use Rattle.lu_proof_bytes.specs.Objects.History as Wholes
use Rattle.lu_proof_bytes.specs.Objects.History.{gone, told_items}
use Rattle.lu_proof_bytes.proofs.Objects.Only.{kept_only, projection}
use Rattle.lu_proof_bytes.proofs.Objects.Laws.{GoneOut, gone_less, same_items, outs_here, evicted_gone, over_gone, kept_none}
use Rattle.lu_proof_bytes.specs.Files.Layouts.{Layout}
use Rattle.lu_proof_bytes.specs.Files.File.{Places, nth, run_bytes, run, written, part, did, does_at, does, Step, Own, Changes, Reads}
use Rattle.lu_proof_bytes.specs.Files.File.{Stats, lines, story, Item, Made, Read, Stat, piece, served, lost_at, own_items, items, changed}
use Rattle.lu_proof_bytes.specs.Files.File.{bytes, seen, file_read, IsFileSize, Right, none_lost, FileHistory, WideOk, NarrowOk, StatOk}
use Rattle.lu_proof_bytes.specs.Files.File.{Elsewhere, StepsOk}
use Rattle.lu_proof_bytes.proofs.Files.Stripes as stripes
use Rattle.lu_proof_bytes.proofs.Files.Stripes.{Stripe}

-- ---- the lines are allowed

pub lines_ok : (w : Places) (h : List Step) → StepsOk w h → AllOk (lines w h)
lines_ok w [] ok = tt
lines_ok w (Own l ∷ h) ok = (ok.0.0, lines_ok w h ok.1)
lines_ok w (Changes y c locks ch ∷ h) ok = (ok.0, lines_ok w h ok.1)
lines_ok w (Reads y c at n vs ∷ h) ok = lines_ok w h ok.1
lines_ok w (Stats y c z ∷ h) ok = lines_ok w h ok.1

-- ---- what a change of the file does at a position of the layout

nth_in : (at : ℕ) (bs : List ℕ) (p : ℕ) (x : Option ℕ) → at ≤ p → p < at + length bs → overlay at bs p x ≡ Some (nth bs (p - at))
nth_in at [] p x a b = absurd (omega arith)
nth_in at (b ∷ bs) p x low high = by (nat_eq at p) refl (λ l h. nth_in (suc at) bs p x l h)
  where
    by : (v : Bool) → nat_eq at p ≡ v → (suc at ≤ p → p < suc at + length bs → overlay (suc at) bs p x ≡ Some (nth bs (p - suc at)))
        → (if v then Some b else overlay (suc at) bs p x) ≡ Some (nth (b ∷ bs) (p - at))
    by true e ih = let z : (p - at) ≡ 0 = (let q = eqb-true at p e in omega arith) in ap (λ (k : ℕ). Some (nth (b ∷ bs) k)) (sym z)
    by false e ih =
        let ne = eqb-false at p e in
        let low' : suc at ≤ p = next (nat_lt at p) refl ne in
        let z : (p - at) ≡ suc (p - suc at) = omega arith in
        ih low' (omega arith) ∙ ap (λ (k : ℕ). Some (nth (b ∷ bs) k)) (sym z)
      where
        next : (v : Bool) → nat_lt at p ≡ v → (at ≡ p → ⊥) → suc at ≤ p
        next true f ne = ltb-true at p f
        next false f ne = let g = ltb-false at p f in absurd (ne (omega arith))

out_of : (at : ℕ) (bs : List ℕ) (p : ℕ) (x : Option ℕ) → (at ≤ p → p < at + length bs → ⊥) → overlay at bs p x ≡ x
out_of at bs p x no_in = run_out at bs p x (by (within at bs p) refl)
  where
    by : (v : Bool) → within at bs p ≡ v → within at bs p ≡ false
    by false e = e
    by true e = let r = run_bounds at bs p e in absurd (no_in r.0 r.1)

pub length_run : (y : Layout) (i at : ℕ) (bs : List ℕ) (q m : ℕ) → length (run_bytes y i at bs q m) ≡ m
length_run y i at bs q zero = refl
length_run y i at bs q (suc m) = ap suc (length_run y i at bs (suc q) m)

nth_run : (y : Layout) (i at : ℕ) (bs : List ℕ) (q m k : ℕ) → k < m → nth (run_bytes y i at bs q m) k ≡ nth bs (y.position i (q + k) - at)
nth_run y i at bs q zero k low = absurd (omega arith)
nth_run y i at bs q (suc m) zero low = let z : q + 0 ≡ q = omega arith in ap (λ (j : ℕ). nth bs (y.position i j - at)) (sym z)
nth_run y i at bs q (suc m) (suc k) low = let z : suc q + k ≡ q + suc k = omega arith in nth_run y i at bs (suc q) m k (omega arith)
    ∙ ap (λ (j : ℕ). nth bs (y.position i j - at)) z

-- a run of the file is a run on each stripe
pub run_is : (y : Layout) (i at : ℕ) (bs : List ℕ) (q : ℕ) (x : Option ℕ) → y.has i q ≡ true → overlay (y.below i at) (run y i at bs) q x
    ≡ overlay at bs (y.position i q) x
run_is y i at bs q x has = by (nat_lt q (y.below i at)) refl (nat_lt q (y.below i (at + length bs))) refl
  where
    len : length (run y i at bs) ≡ (y.below i (at + length bs) - y.below i at)
    len = length_run y i at bs (y.below i at) (y.below i (at + length bs) - y.below i at)

    by : (v : Bool) → nat_lt q (y.below i at) ≡ v → (w : Bool) → nat_lt q (y.below i (at + length bs)) ≡ w
        → overlay (y.below i at) (run y i at bs) q x ≡ overlay at bs (y.position i q) x
    by true e w f =
        let a = ltb-true q (y.below i at) e in
        let b = ltb-true (y.position i q) at (sym (y.below_is i at q has) ∙ e) in
        out_of (y.below i at) (run y i at bs) q x (λ l h. absurd (omega arith))
        ∙ sym (out_of at bs (y.position i q) x (λ l h. absurd (omega arith)))
    by false e false f =
        let a = ltb-false q (y.below i at) e in
        let b = ltb-false q (y.below i (at + length bs)) f in
        let c = ltb-false (y.position i q) (at + length bs) (sym (y.below_is i (at + length bs) q has) ∙ f) in
        let n = len in
        out_of (y.below i at) (run y i at bs) q x (λ l h. absurd (omega arith))
        ∙ sym (out_of at bs (y.position i q) x (λ l h. absurd (omega arith)))
    by false e true f =
        let a = ltb-false q (y.below i at) e in
        let b = ltb-true q (y.below i (at + length bs)) f in
        let c = ltb-false (y.position i q) at (sym (y.below_is i at q has) ∙ e) in
        let d = ltb-true (y.position i q) (at + length bs) (sym (y.below_is i (at + length bs) q has) ∙ f) in
        let n = len in
        let z : y.below i at + (q - y.below i at) ≡ q = omega arith in
        nth_in (y.below i at) (run y i at bs) q x a (omega arith)
        ∙ ap (λ (k : ℕ). Some k) (nth_run y i at bs (y.below i at) (y.below i (at + length bs) - y.below i at) (q - y.below i at)
        (omega arith) ∙ ap (λ (j : ℕ). nth bs (y.position i j - at)) z)
        ∙ sym (nth_in at bs (y.position i q) x c d)

written_is : (at : ℕ) (bs : List ℕ) (q : ℕ) (x : Option ℕ) → changed (written at bs) q x ≡ overlay at bs q x
written_is at [] q x = refl
written_is at (b ∷ bs) q x = refl

-- a write puts its bytes at its positions, and at no other
pub write_is : (w : Places) (y : Layout) (c at : ℕ) (bs : List ℕ) (is : List Item) (p : ℕ) → seen w y (Made y c (Write at bs) ∷ is) p
    ≡ overlay at bs p (seen w y is p)
write_is w y c at bs is p =
    written_is (y.below (y.stripe p) at) (run y (y.stripe p) at bs) (y.offset p) (seen w y is p)
    ∙ run_is y (y.stripe p) at bs (y.offset p) (seen w y is p) (y.inside p)
    ∙ ap (λ (j : ℕ). overlay at bs j (seen w y is p)) (y.there p)

-- a cut drops the positions from n on, and puts a zero at the last below n of each stripe
pub cut_is : (w : Places) (y : Layout) (c n : ℕ) (is : List Item) (p : ℕ)
    → seen w y (Made y c (Cut n) ∷ is) p ≡ (if nat_lt p n then (if nat_eq (suc (y.offset p)) (y.below (y.stripe p) n)
    then Some (value (seen w y is p)) else seen w y is p) else None)
cut_is w y c n is p =
    let e : nat_lt (y.offset p) (y.below (y.stripe p) n) ≡ nat_lt p n = y.below_is (y.stripe p) n (y.offset p) (y.inside p)
    ∙ ap (λ (j : ℕ). nat_lt j n) (y.there p) in
    let low : nat_lt (y.stripe p) y.stripes ≡ true = (let l = y.low p in grind (arith, nat_tests)) in
    rw (low, e)

-- ---- the file's bytes are those of the stripes

-- the history of a stripe's object, by the lines of the whole past
abbrev pub stripe_items : Places → (ℕ → Bool) → (ℕ → ℕ → Bool) → ℕ → List Step → List History.Item
stripe_items w out lost i h = Wholes.items out (lost (w.target i)) (w.target i) (w.object i) (lines w h)

-- the file has at offset q of stripe i what the history of the stripe's object has there
abbrev pub Same : Places → (ℕ → Bool) → (ℕ → ℕ → Bool) → List Step → ℕ → ℕ → Type 0
Same w out lost h i q = bytes w (items out lost h) i q ≡ plain (stripe_items w out lost i h) q

told_plain : (c k q : ℕ) (d : Option Change) (is : List History.Item) → plain (told_items c (did k d) is) q ≡ changed d q (plain is q)
told_plain c k q None is = refl
told_plain c k q (Some ch) is = refl

changes_same : (w : Places) (y : Layout) (out : ℕ → Bool) (lost : ℕ → ℕ → Bool) (c : ℕ) (locks : ℕ → ℕ) (ch : Change) (h : List Step)
    (i q : ℕ) → Same w out lost h i q → Same w out lost (Changes y c locks ch ∷ h) i q
changes_same w y out lost c locks ch h i q s = by (out c)
  where
    it : does w y locks ch (w.target i) (w.object i) ≡ did (locks i) (part y i ch)
    it = ap (λ (o : Option ℕ). does_at y locks ch o) (w.at_is i)

    by : (v : Bool)
        → bytes w (if v then items out lost h else Made y c ch ∷ items out lost h) i q
        ≡ plain (if v then stripe_items w out lost i h else told_items c (does w y locks ch (w.target i) (w.object i))
        (stripe_items w out lost i h)) q
    by true = s
    by false = ap (λ (x : Option ℕ). changed (part y i ch) q x) s
        ∙ sym (ap (λ (d : Option Call). plain (told_items c d (stripe_items w out lost i h)) q) it
        ∙ told_plain c (locks i) q (part y i ch) (stripe_items w out lost i h))

either : (is : List History.Item) (q : ℕ) (v : Bool) → plain is q ≡ plain (if v then is else is) q
either is q true = refl
either is q false = refl

serve_same : (w : Places) (out : ℕ → Bool) (lost : ℕ → ℕ → Bool) (u o g : ℕ) (r : Request) (e : Entry) (h : List Step) (i q : ℕ)
    → Same w out lost h i q → Same w out lost (Own (Serve u o g r e) ∷ h) i q
serve_same w out lost u o g r (Txn n k) h i q s = by (out k.life) (nat_eq (w.target i) u) refl (nat_eq (w.object i) o) refl k.op
  where
    others : (a b : Bool) → nat_eq (w.target i) u ≡ a → nat_eq (w.object i) o ≡ b → (a && b) ≡ false → (v : Bool) (op : Op)
        → bytes w (if v then piece u o k.life op (items out lost h) else items out lost h) i q ≡ bytes w (items out lost h) i q
    others a b e f z false op = refl
    others a b e f z true (Flush j ch) = rw (e, f, z)
    others a b e f z true (Get j at m) = refl
    others a b e f z true (Enqueue c d l) = refl
    others a b e f z true Size = refl

    mine : nat_eq (w.target i) u ≡ true → nat_eq (w.object i) o ≡ true → (b : Bool) (op : Op)
        → bytes w (if b then piece u o k.life op (items out lost h) else items out lost h) i q
        ≡ plain (if b then piece_item k.life op (stripe_items w out lost i h) else stripe_items w out lost i h) q
    mine e f false op = s
    mine e f true (Flush j ch) = rw (e, f) (ap (λ (x : Option ℕ). after_at ch q x) s)
    mine e f true (Get j at m) = s
    mine e f true (Enqueue a b l) = s
    mine e f true Size = s

    by : (v : Bool) (a : Bool) → nat_eq (w.target i) u ≡ a → (b : Bool) → nat_eq (w.object i) o ≡ b → (op : Op)
        → bytes w (if v && not (lost u n) then piece u o k.life op (items out lost h) else items out lost h) i q
        ≡ plain (if a && b then (if v && not (lost (w.target i) n) then piece_item k.life op (stripe_items w out lost i h)
        else stripe_items w out lost i h) else stripe_items w out lost i h) q
    by v true e true f op = subst
        (λ (t : ℕ). bytes w (if v && not (lost u n) then piece u o k.life op (items out lost h) else items out lost h) i q
        ≡ plain (if v && not (lost t n) then piece_item k.life op (stripe_items w out lost i h) else stripe_items w out lost i h) q)
        (sym (eqb-true (w.target i) u e)) (mine e f (v && not (lost u n)) op)
    by v true e false f op = others true false e f refl (v && not (lost u n)) op ∙ s
    by v false e b f op = others false b e f refl (v && not (lost u n)) op ∙ s
serve_same w out lost u o g r (Flew k) h i q x = x ∙ either (stripe_items w out lost i h) q (nat_eq (w.target i) u && nat_eq (w.object i) o)
serve_same w out lost u o g r (Heard k a) h i q x = x ∙ either (stripe_items w out lost i h) q
    (nat_eq (w.target i) u && nat_eq (w.object i) o)
serve_same w out lost u o g r (Hold l s sn) h i q x = x ∙ either (stripe_items w out lost i h) q
    (nat_eq (w.target i) u && nat_eq (w.object i) o)
serve_same w out lost u o g r (Drop l) h i q x = x ∙ either (stripe_items w out lost i h) q (nat_eq (w.target i) u && nat_eq (w.object i) o)
serve_same w out lost u o g r (Takes c k ch) h i q x = x ∙ either (stripe_items w out lost i h) q
    (nat_eq (w.target i) u && nat_eq (w.object i) o)
serve_same w out lost u o g r (Forgets c) h i q x = x ∙ either (stripe_items w out lost i h) q
    (nat_eq (w.target i) u && nat_eq (w.object i) o)
serve_same w out lost u o g r (Told c call) h i q x = x ∙ either (stripe_items w out lost i h) q
    (nat_eq (w.target i) u && nat_eq (w.object i) o)
serve_same w out lost u o g r (Grant k l s sn) h i q x = x ∙ either (stripe_items w out lost i h) q
    (nat_eq (w.target i) u && nat_eq (w.object i) o)
serve_same w out lost u o g r (Wait k l) h i q x = x ∙ either (stripe_items w out lost i h) q
    (nat_eq (w.target i) u && nat_eq (w.object i) o)
serve_same w out lost u o g r (Promote l) h i q x = x ∙ either (stripe_items w out lost i h) q
    (nat_eq (w.target i) u && nat_eq (w.object i) o)
serve_same w out lost u o g r (Acts k a) h i q x = x ∙ either (stripe_items w out lost i h) q
    (nat_eq (w.target i) u && nat_eq (w.object i) o)
serve_same w out lost u o g r (Release k) h i q x = x ∙ either (stripe_items w out lost i h) q
    (nat_eq (w.target i) u && nat_eq (w.object i) o)
serve_same w out lost u o g r (Evicted c) h i q x = x ∙ either (stripe_items w out lost i h) q
    (nat_eq (w.target i) u && nat_eq (w.object i) o)
serve_same w out lost u o g r (Committed n) h i q x = x ∙ either (stripe_items w out lost i h) q
    (nat_eq (w.target i) u && nat_eq (w.object i) o)
serve_same w out lost u o g r (Closed b l out') h i q x = x ∙ either (stripe_items w out lost i h) q
    (nat_eq (w.target i) u && nat_eq (w.object i) o)
serve_same w out lost u o g r (Sends m) h i q x = x ∙ either (stripe_items w out lost i h) q
    (nat_eq (w.target i) u && nat_eq (w.object i) o)

own_same : (w : Places) (out : ℕ → Bool) (lost : ℕ → ℕ → Bool) (l : Line) (h : List Step) (i q : ℕ) → Elsewhere w l
    → Same w out (lost_at lost l) h i q → Same w out lost (Own l ∷ h) i q
own_same w out lost (Serve u o g r e) h i q ok x = serve_same w out lost u o g r e h i q x
own_same w out lost (Tells c d) h i q ok x = x ∙ by (out c)
  where
    by : (v : Bool) → plain (stripe_items w out lost i h) q ≡ plain
        (if v then stripe_items w out lost i h else told_items c (d (w.target i) (w.object i)) (stripe_items w out lost i h)) q
    by true = refl
    by false = sym (ap (λ (k : Option Call). plain (told_items c k (stripe_items w out lost i h)) q) (ok i))
own_same w out lost (Knows u d b) h i q ok x = x
own_same w out lost (Serves u d b) h i q ok x = x
own_same w out lost (Flies u o g r) h i q ok x = x
own_same w out lost (Lives u o d e) h i q ok x = x
own_same w out lost (Over c) h i q ok x = x
own_same w out lost (Joins u d) h i q ok x = x
own_same w out lost (Queue u o g r) h i q ok x = x
own_same w out lost (Works u o e) h i q ok x = x
own_same w out lost (Evict u d) h i q ok x = x
own_same w out lost (Commit u n) h i q ok x = x
own_same w out lost (Crash u) h i q ok x = x
own_same w out lost (Boot u b) h i q ok x = x
own_same w out lost (Close u l' gone') h i q ok x = x
own_same w out lost (Send u m) h i q ok x = x

pub same : (w : Places) (out : ℕ → Bool) (lost : ℕ → ℕ → Bool) (h : List Step) (i q : ℕ) → StepsOk w h → Same w out lost h i q
same w out lost [] i q ok = refl
same w out lost (Own l ∷ h) i q ok = own_same w out lost l h i q ok.0.1 (same w out (lost_at lost l) h i q ok.1)
same w out lost (Changes y c locks ch ∷ h) i q ok = changes_same w y out lost c locks ch h i q (same w out lost h i q ok.1)
same w out lost (Reads y c at n vs ∷ h) i q ok = by (out c) ∙ same w out lost h i q ok.1
  where
    by : (v : Bool) → bytes w (if v then items out lost h else Read y c at n vs ∷ items out lost h) i q ≡ bytes w (items out lost h) i q
    by true = refl
    by false = refl
same w out lost (Stats y c z ∷ h) i q ok = by (out c) ∙ same w out lost h i q ok.1
  where
    by : (v : Bool) → bytes w (if v then items out lost h else Stat y c z ∷ items out lost h) i q ≡ bytes w (items out lost h) i q
    by true = refl
    by false = refl

-- ---- one stripe, under the lock of a reader

-- at the target of each stripe, no life that isn't out heard of what is lost, and nothing committed is lost
abbrev pub FileKept : Places → (ℕ → Bool) → (ℕ → ℕ → Bool) → List Step → Type 0
FileKept w out lost h = (i : ℕ) → Kept (w.target i) out (lost (w.target i)) (lines w h)

stripe_of : (w : Places) (out : ℕ → Bool) (lost : ℕ → ℕ → Bool) (h : List Step) (i : ℕ) → StepsOk w h → GoneOut out (lines w h)
    → FileKept w out lost h → Stripe out (lost (w.target i)) (story w i h)
stripe_of w out lost h i ok s k =
    let all = lines_ok w h ok in
    let al = world (story w i h) (projection (lines w h) all (w.target i) (w.object i)) in
    let outs = outs_here (w.target i) (w.object i) out (lines w h) all s in
    record {
      all = al;
      later = al.later out (lost (w.target i)) outs
          (kept_only (w.target i) (w.object i) out (lost (w.target i)) (lines w h) all (k i));
      outs = outs;
    }

-- the file's bytes are the plain ones of the stripe's story
of_story : (w : Places) (out : ℕ → Bool) (lost : ℕ → ℕ → Bool) (h : List Step) (i q : ℕ) → StepsOk w h → GoneOut out (lines w h)
    → bytes w (items out lost h) i q ≡ plain (history out (lost (w.target i)) (story w i h)) q
of_story w out lost h i q ok s =
    same w out lost h i q ok ∙ ap (λ (is : List History.Item). plain is q)
    (sym (same_items out (lost (w.target i)) (w.target i) (w.object i) (lines w h) (lines_ok w h ok) s))

-- ---- reads and stats

wide_right : (w : Places) (y : Layout) (out : ℕ → Bool) (lost : ℕ → ℕ → Bool) (h : List Step) (c at n : ℕ) (vs : List ℕ) → StepsOk w h
    → GoneOut out (lines w h) → FileKept w out lost h → out c ≡ false → WideOk w y h c at n vs
    → (z : ℕ) × IsFileSize w y (items out lost h) z × (vs ≡ file_read w y (items out lost h) at (min n (z - at)))
wide_right w y out lost h c at n vs ok s k o u =
    stripes.wide_right out (λ i. lost (w.target i)) (λ i. story w i h) (bytes w (items out lost h)) (λ i. stripe_of w out lost h i ok s k)
    (λ i q. of_story w out lost h i q ok s) y c at n vs o u

narrow_right : (w : Places) (y : Layout) (out : ℕ → Bool) (lost : ℕ → ℕ → Bool) (h : List Step) (c at n : ℕ) (vs : List ℕ) → StepsOk w h
    → GoneOut out (lines w h) → FileKept w out lost h → out c ≡ false → NarrowOk w y h c at n vs
    → (z : ℕ) × IsFileSize w y (items out lost h) z × (vs ≡ file_read w y (items out lost h) at (min n (z - at)))
narrow_right w y out lost h c at n vs ok s k o u =
    stripes.narrow_right out (λ i. lost (w.target i)) (λ i. story w i h) (bytes w (items out lost h)) (λ i. stripe_of w out lost h i ok s k)
    (λ i q. of_story w out lost h i q ok s) y c at n vs o u

stat_right : (w : Places) (y : Layout) (out : ℕ → Bool) (lost : ℕ → ℕ → Bool) (h : List Step) (c z : ℕ) → StepsOk w h
    → GoneOut out (lines w h) → FileKept w out lost h → out c ≡ false → StatOk w y h c z → IsFileSize w y (items out lost h) z
stat_right w y out lost h c z ok s k o u =
    stripes.stat_right out (λ i. lost (w.target i)) (λ i. story w i h) (bytes w (items out lost h)) (λ i. stripe_of w out lost h i ok s k)
    (λ i q. of_story w out lost h i q ok s) y c z o u

-- ---- all steps

live_at : (w : Places) (out : ℕ → Bool) (c : ℕ) (h : List Step) → StepsOk w h → GoneOut out (lines w h) → out c ≡ false → (t : ℕ)
    → live t c (lines w h) ≡ true
live_at w out c h ok s o t = by (evicted t c (lines w h)) refl (ended c (lines w h)) refl
  where
    by : (v : Bool) → evicted t c (lines w h) ≡ v → (x : Bool) → ended c (lines w h) ≡ x
        → (not (evicted t c (lines w h)) && not (ended c (lines w h))) ≡ true
    by true e x f = absurd (both_ways (out c) o (s c (evicted_gone t c (lines w h) e)))
    by false e true f = absurd (both_ways (out c) o (s c (over_gone c (lines w h) (lines_ok w h ok) f)))
    by false e false f = rw (e, f)

kept_own : (w : Places) (out : ℕ → Bool) (lost : ℕ → ℕ → Bool) (l : Line) (h : List Step) → FileKept w out lost (Own l ∷ h)
    → FileKept w out (lost_at lost l) h
kept_own w out lost (Lives u o c e) h k = λ i. (k i).1
kept_own w out lost (Commit u n) h k = λ i. (k i).1
kept_own w out lost (Close u l gone') h k = λ i. k i
kept_own w out lost (Tells c d) h k = k
kept_own w out lost (Serve u o g r e) h k = k
kept_own w out lost (Knows u d b) h k = k
kept_own w out lost (Serves u d b) h k = k
kept_own w out lost (Flies u o g r) h k = k
kept_own w out lost (Over c) h k = k
kept_own w out lost (Joins u d) h k = k
kept_own w out lost (Queue u o g r) h k = k
kept_own w out lost (Works u o e) h k = k
kept_own w out lost (Evict u d) h k = k
kept_own w out lost (Crash u) h k = k
kept_own w out lost (Boot u b) h k = k
kept_own w out lost (Send u m) h k = k

pub right_steps : (w : Places) (out : ℕ → Bool) (lost : ℕ → ℕ → Bool) (h : List Step) → StepsOk w h → GoneOut out (lines w h)
    → FileKept w out lost h → Right w (items out lost h)
right_steps w out lost [] ok s k = tt
right_steps w out lost (Reads y c at n vs ∷ h) ok s k = by (out c) refl (right_steps w out lost h ok.1 s k)
  where
    by : (v : Bool) → out c ≡ v → Right w (items out lost h) → Right w (if v then items out lost h else Read y c at n vs ∷ items out lost h)
    by true o x = x
    by false o x = (
      ⊎_elim (λ r. wide_right w y out lost h c at n vs ok.1 s k o r) (λ r. narrow_right w y out lost h c at n vs ok.1 s k o r)
          (ok.0 (λ i. live_at w out c h ok.1 s o (w.target i))),
      x,
    )
right_steps w out lost (Stats y c z ∷ h) ok s k = by (out c) refl (right_steps w out lost h ok.1 s k)
  where
    by : (v : Bool) → out c ≡ v → Right w (items out lost h) → Right w (if v then items out lost h else Stat y c z ∷ items out lost h)
    by true o x = x
    by false o x = (stat_right w y out lost h c z ok.1 s k o (ok.0 (λ i. live_at w out c h ok.1 s o (w.target i))), x)
right_steps w out lost (Changes y c locks ch ∷ h) ok s k = by (out c) (right_steps w out lost h ok.1 s k)
  where
    by : (v : Bool) → Right w (items out lost h) → Right w (if v then items out lost h else Made y c ch ∷ items out lost h)
    by true x = x
    by false x = x
right_steps w out lost (Own l ∷ h) ok s k = own l (right_steps w out (lost_at lost l) h ok.1 (gone_less out (lines w h) l s)
    (kept_own w out lost l h k))
  where
    pieces : (u q c : ℕ) (b : Bool) (op : Op) (is : List Item) → Right w is → Right w (if b then piece u q c op is else is)
    pieces u q c false op is x = x
    pieces u q c true (Flush j ch) is x = x
    pieces u q c true (Get j at n) is x = x
    pieces u q c true (Enqueue a b t) is x = x
    pieces u q c true Size is x = x

    serves : (u q : ℕ) (e : Entry) (is : List Item) → Right w is → Right w (served out lost u q e is)
    serves u q (Txn n r) is x = pieces u q r.life (out r.life && not (lost u n)) r.op is x
    serves u q (Flew k) is x = x
    serves u q (Heard k a) is x = x
    serves u q (Hold l s sn) is x = x
    serves u q (Drop l) is x = x
    serves u q (Takes c k ch) is x = x
    serves u q (Forgets c) is x = x
    serves u q (Told c call) is x = x
    serves u q (Grant k l s sn) is x = x
    serves u q (Wait k l) is x = x
    serves u q (Promote l) is x = x
    serves u q (Acts k a) is x = x
    serves u q (Release k) is x = x
    serves u q (Evicted c) is x = x
    serves u q (Committed n) is x = x
    serves u q (Closed b l out') is x = x
    serves u q (Sends m) is x = x

    own : (l : Line) → Right w (items out (lost_at lost l) h) → Right w (own_items out lost l (items out (lost_at lost l) h))
    own (Serve u q g r e) x = serves u q e (items out lost h) x
    own (Knows u d b) x = x
    own (Serves u d b) x = x
    own (Flies u q g r) x = x
    own (Lives u q d e) x = x
    own (Tells c d) x = x
    own (Over c) x = x
    own (Joins u d) x = x
    own (Queue u q g r) x = x
    own (Works u q e) x = x
    own (Evict u d) x = x
    own (Commit u n) x = x
    own (Crash u) x = x
    own (Boot u b) x = x
    own (Close u l' gone') x = x
    own (Send u m) x = x

-- each read and stat told to a life that no target ever evicts is told the file's bytes, and its size
pub file_history : (w : Places) (h : List Step) → StepsOk w h → FileHistory w h
file_history w h ok = right_steps w (λ c. gone c (lines w h)) none_lost h ok (λ c e. e)
    (λ i. kept_none (w.target i) (lines w h) (lines_ok w h ok) (λ c. gone c (lines w h)) (λ c e. e))
