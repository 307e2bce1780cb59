-- Under a lock that doesn't reach the end: where a byte was shown at or past a position, the file ends past it while the lock is held.
use Rattle.std.proofs.Common.{◌≡◌, ℕ, suc, zero, ◌<◌, ◌≤◌, ◌+◌, ◌⊎◌, inl, inr, ⊎_elim, List, [], ◌∷◌, length, min, max, ◌-◌, Option, Some}
use Rattle.std.proofs.Common.{None, Bool, true, false, refl, sym, ap, ◌∙◌, subst, arith}
use Rattle.std.specs.Prelude.{nat_eq, nat_lt, if◌then◌else◌, ◌&&◌, not}
use Rattle.std.proofs.lemmas.Bool.{eqb-true, eq-eqb, both_ways, ltb-true, ltb-false, and_parts}
use Rattle.std.proofs.lemmas.Bool.Decides.{nat_tests}
use Rattle.lu_proof_bytes.specs.Object.Words.{Lock, Change, Write, Cut, Op, Enqueue, Get, Flush, Size, Request, Answer, Granted, Waiting}
use Rattle.lu_proof_bytes.specs.Object.Words.{Content, Done, Sized, Uncovered, Reply, Did, Saw, Entry, Flies, Heard, Hold, Drop, Tells}
use Rattle.lu_proof_bytes.specs.Object.Words.{Grant, Wait, Acts, Txn, Close, not_above, covers, overlay, within, value, cut_at, after_at}
use Rattle.lu_proof_bytes.specs.Object.Words.{changes}
use Rattle.lu_proof_bytes.specs.Object.Folds.{also, asked, is_some, over, Was, closed, evicted, Answered, shown, most, shown_get}
use Rattle.lu_proof_bytes.specs.Object.Folds.{shown_write, flight, awaits, HeldBy, object, pending, dirty, known}
use Rattle.lu_proof_bytes.specs.Object.History.{piece_item, history, plain, read_of, size_of}
use Rattle.lu_proof_bytes.specs.Object.Guards.{Covers, UnderNumber, in_run, Fresh, TxnOk, ActsOk, HoldOk, New, HeardOf, KeptFor, ShownAt}
use Rattle.lu_proof_bytes.specs.Object.Guards.{Narrow, Allowed}
use Rattle.lu_proof_bytes.proofs.Object.Numbers.{Numbers, fresh_flies}
use Rattle.lu_proof_bytes.proofs.Object.Locks.{Lockings, held_granted}
use Rattle.lu_proof_bytes.proofs.Object.Spot.{run_in, run_last, run_out, run_bounds, run_some, reads_value}
use Rattle.lu_proof_bytes.proofs.Object.Kept.{sees_same}
use Rattle.lu_proof_bytes.proofs.Object.Patches.{Patches, Using, flight_uses}
use Rattle.lu_proof_bytes.proofs.Object.Facts.{Outs, lives, Free, Facts, one_lock, same_flight}
use Rattle.lu_proof_bytes.proofs.Object.Views.{Views, covered, tells_in, tells_out, txn_in, txn_out, plain_saw, read_is, size_is}

-- the file has a byte at or past the position
abbrev pub Reach : (ℕ → Bool) → (ℕ → Bool) → List Entry → ℕ → Type 0
Reach out lost h q = (p : ℕ) × (q ≤ p) × (is_some (plain (history out lost h) p) ≡ true)

-- what is so of held locks with a last byte: where an answer to a get under such a lock, or what was shown under it, has a byte at
-- or past a position that it covers, the file has one
abbrev pub Narrows : (ℕ → Bool) → (ℕ → Bool) → List Entry → Type 0
Narrows out lost h = record {
  coming : (c : ℕ) (r : Request) (k at n : ℕ) (vs : List ℕ) (s : ℕ) (sn : ℕ → Bool) → out c ≡ false → flight c h ≡ Some r
      → r.op ≡ Get k at n → Answered h c r.xid (Content vs (Some s) sn) → Free lost sn → (l : Lock) → HeldBy h l → l.life ≡ c → l.cookie ≡ k
      → (e : ℕ) → l.last ≡ Some e → (q : ℕ) → covers l q ≡ true → q ≤ s → Reach out lost h q;
  shown : (l : Lock) (s : ℕ) → out l.life ≡ false → HeldBy h l → shown l.life l.cookie h ≡ Some s → (e : ℕ) → l.last ≡ Some e → (q : ℕ)
      → covers l q ≡ true → q ≤ s → Reach out lost h q;
}

-- a change keeps a byte at or past the position, unless it cuts to the position or below
some_overlay : (at : ℕ) (bs : List ℕ) (p : ℕ) (x : Option ℕ) → is_some x ≡ true → is_some (overlay at bs p x) ≡ true
some_overlay at bs p x e = by (within at bs p) refl
  where
    by : (v : Bool) → within at bs p ≡ v → is_some (overlay at bs p x) ≡ true
    by true f = let r = run_in at bs p f in rw (r.1 x)
    by false f = rw (run_out at bs p x f, e)

some_cut : (n p : ℕ) (x : Option ℕ) → is_some x ≡ true → nat_lt p n ≡ true → is_some (cut_at n p x) ≡ true
some_cut n p None e f = absurd (cc)
some_cut n p (Some b) e f = by (nat_eq (suc p) n)
  where
    by : (v : Bool) → is_some (if nat_lt p n then (if v then Some b else Some b) else None) ≡ true
    by true = rw f
    by false = rw f

last_cut : (n : ℕ) (x : Option ℕ) → is_some (cut_at (suc n) n x) ≡ true
last_cut n x = let low : nat_lt n (suc n) ≡ true = grind (arith, nat_tests) in rw (low, eq-eqb (suc n) (suc n) refl)

reach_change : (ch : Change) (m : ℕ → Option ℕ) (q : ℕ) → ((n : ℕ) → ch ≡ Cut n → n ≤ q → ⊥) → (p : ℕ) × (q ≤ p) × (is_some (m p) ≡ true)
    → (p : ℕ) × (q ≤ p) × (is_some (after_at ch p (m p)) ≡ true)
reach_change (Write at bs) m q cuts r = (r.0, r.1, some_overlay at bs r.0 (m r.0) r.2)
reach_change (Cut n) m q cuts r = by (nat_lt r.0 n) refl n refl
  where
    by : (v : Bool) → nat_lt r.0 n ≡ v → (j : ℕ) → j ≡ n → (p : ℕ) × (q ≤ p) × (is_some (cut_at n p (m p)) ≡ true)
    by true f j e = (r.0, r.1, some_cut n r.0 (m r.0) r.2 f)
    by false f zero e = absurd (cuts n refl (omega arith))
    by false f (suc j) e = last (nat_lt j q) refl
      where
        last : (v : Bool) → nat_lt j q ≡ v → (p : ℕ) × (q ≤ p) × (is_some (cut_at n p (m p)) ≡ true)
        last true g = absurd (cuts n refl (let low = ltb-true j q g in omega arith))
        last false g = (j, ltb-false j q g, subst (λ (i : ℕ). is_some (cut_at i j (m j)) ≡ true) e (last_cut j (m j)))

-- a lock over a cut reaches past every end
past_end : (l m : Lock) (e n q : ℕ) → l ≡ m → l.last ≡ Some e → Covers m (changes (Cut n)) → n ≤ q → covers l q ≡ true → ⊥
past_end l m e n q same last cov low at =
    let a = subst (λ (x : Lock). covers x (suc e + n) ≡ true) (sym same) (cov (suc e + n) (grind (arith, nat_tests))) in
    let b = (and_parts (nat_lt l.first (suc (suc e + n))) (not_above (suc e + n) l.last) a).1 in
    let c : not_above (suc e + n) (Some e) ≡ true = subst (λ (o : Option ℕ). not_above (suc e + n) o ≡ true) last b in
    let d = ltb-true (suc e + n) (suc e) c in
    absurd (omega arith)

cut_covers : (m : Lock) (n q : ℕ) → Covers m (changes (Cut n)) → n ≤ q → covers m q ≡ true
cut_covers m n q cov low = cov q (grind (arith, nat_tests))

reach_same : (out lost : ℕ → Bool) (h : List Entry) (e : Entry) (q : ℕ)
    → ((p : ℕ) → plain (history out lost (e ∷ h)) p ≡ plain (history out lost h) p) → Reach out lost h q → Reach out lost (e ∷ h) q
reach_same out lost h e q same r = (r.0, r.1, ap is_some (same r.0) ∙ r.2)

-- while a lock that doesn't reach the end is held, nobody cuts to a position that it covers
reach_tells : (out lost : ℕ → Bool) (h : List Entry) (d j : ℕ) (ch : Change) (l : Lock) (e q : ℕ) → Outs out h → Numbers h → Lockings h
    → UnderNumber h d j true (changes ch) → out l.life ≡ false → HeldBy h l → l.last ≡ Some e → covers l q ≡ true → Reach out lost h q
    → Reach out lost (Tells d (Did j ch) ∷ h) q
reach_tells out lost h d j ch l e q s n lk ok o i last cov r = by (out d) refl
  where
    by : (v : Bool) → out d ≡ v → Reach out lost (Tells d (Did j ch) ∷ h) q
    by true x = reach_same out lost h (Tells d (Did j ch)) q (tells_out out lost h d j ch x) r
    by false x =
        let c = reach_change ch (λ p. plain (history out lost h) p) q cuts r in
        (c.0, c.1, ap is_some (tells_in out lost h d j ch x c.0) ∙ c.2)
      where
        cuts : (m : ℕ) → ch ≡ Cut m → m ≤ q → ⊥
        cuts m f low =
            let cv : Covers ok.lock (changes (Cut m)) = subst (λ (y : Change). Covers ok.lock (changes y)) f ok.covered in
            let same = one_lock h l ok.lock q lk (held_granted h l n lk i (lives out h l.life s o))
            (held_granted h ok.lock n lk ok.held (ap (λ (k : ℕ). evicted k h) ok.life ∙ lives out h d s x)) cov
            (cut_covers ok.lock m q cv low) (ok.mode refl) in
            past_end l ok.lock e m q same last cv low cov

reach_txn : (out lost : ℕ → Bool) (h : List Entry) (nr : ℕ) (r : Request) (k : ℕ) (ch : Change) (l : Lock) (q : ℕ) → Outs out h → Numbers h
    → Lockings h → TxnOk h nr r k ch → out l.life ≡ false → HeldBy h l → covers l q ≡ true → Reach out lost h q
    → Reach out lost (Txn nr r ∷ h) q
reach_txn out lost h nr r k ch l q s n lk ok o i cov w = by (out r.life) refl (lost nr) refl
  where
    same : (v : Bool) → v ≡ false → (p : ℕ)
        → plain (if v then piece_item r.life r.op (history out lost h) else history out lost h) p ≡ plain (history out lost h) p
    same true e p = absurd (cc)
    same false e p = refl

    by : (v : Bool) → out r.life ≡ v → (b : Bool) → lost nr ≡ b → Reach out lost (Txn nr r ∷ h) q
    by false x b y = reach_same out lost h (Txn nr r) q (txn_in out lost h nr r x) w
    by true x true y = reach_same out lost h (Txn nr r) q (same (out r.life && not (lost nr)) (rw (x, y))) w
    by true x false y =
        let c = reach_change ch (λ p. plain (history out lost h) p) q cuts w in
        (c.0, c.1, ap is_some (txn_out out lost h nr r k ch y ok.op x c.0) ∙ c.2)
      where
        cuts : (m : ℕ) → ch ≡ Cut m → m ≤ q → ⊥
        cuts m f low =
            let u = ok.under in
            let cv : Covers u.lock (changes (Cut m)) = subst (λ (y : Change). Covers u.lock (changes y)) f u.covered in
            let same = one_lock h l u.lock q lk (held_granted h l n lk i (lives out h l.life s o)) u.granted cov
            (cut_covers u.lock m q cv low) (u.mode refl) in
            both_ways (out l.life) o (ap out (ap (λ (y : Lock). y.life) same ∙ u.life) ∙ x)

-- every entry but a close
reach_line : (out lost : ℕ → Bool) (h : List Entry) (x : Entry) (l : Lock) (e q : ℕ) → Outs out h
    → ((d : ℕ) (f gone : ℕ → Bool) → x ≡ Close d f gone → ⊥) → Numbers h → Lockings h → Allowed h x → out l.life ≡ false → HeldBy h l
    → l.last ≡ Some e → covers l q ≡ true → Reach out lost h q → Reach out lost (x ∷ h) q
reach_line out lost h (Close d f gone) l e q s no_close n lk ok o i last cov r = absurd (no_close d f gone refl)
reach_line out lost h (Tells d (Did j ch)) l e q s no_close n lk ok o i last cov r =
    reach_tells out lost h d j ch l e q s n lk ok o i last cov r
reach_line out lost h (Tells d (Saw at m vs)) l e q s no_close n lk ok o i last cov r =
    reach_same out lost h (Tells d (Saw at m vs)) q (plain_saw out lost h d at m vs) r
reach_line out lost h (Txn nr t) l e q s no_close n lk ok o i last cov r = reach_txn out lost h nr t ok.0 ok.1 l q s n lk ok.2 o i cov r
reach_line out lost h _ l e q s no_close n lk ok o i last cov r = r

-- an answer with a byte: the file has it, since no cut of the life's own lies below it
over_object : (q d : Option ℕ) (p : ℕ) (x : Option ℕ) → ((n : ℕ) → q ≡ Some n → n ≤ p → ⊥) → is_some x ≡ true
    → is_some (over q d p x) ≡ true
over_object q (Some b) p x cut e = refl
over_object None None p x cut e = e
over_object (Some n) None p x cut e = by (nat_lt p n) refl
  where
    by : (v : Bool) → nat_lt p n ≡ v → is_some (cut_at n p x) ≡ true
    by true f = some_cut n p x e f
    by false f = absurd (cut n refl (ltb-false p n f))

-- what the get that is answered has
shows : (out lost : ℕ → Bool) (h : List Entry) (r : Request) (vs : List ℕ) (s : ℕ) (sn : ℕ → Bool) → Outs out h → KeptFor out lost h
    → Numbers h → Lockings h → Patches h → Views out lost h → Fresh h r → ActsOk h r (Content vs (Some s) sn) → Free lost sn → (l : Lock)
    → HeldBy h l → out l.life ≡ false → l.life ≡ r.life → ((k at n : ℕ) → r.op ≡ Get k at n → l.cookie ≡ k) → (e : ℕ) → l.last ≡ Some e
    → is_some (plain (history out lost h) s) ≡ true
shows out lost h r vs s sn outs kf n lk pt vw fresh ok fr l i o life cookie e last =
    ap is_some (covered out lost h l.life s l outs n lk pt vw o i refl cov)
    ∙ over_object (pending l.life h) (dirty l.life h s) s (object lost h s) cuts
    (ap is_some (sees_same out lost h sn (in_run ok.1 ok.2) s n kf ok.6 fr ok.8.0) ∙ ok.8.1)
  where
    u : UnderNumber h r.life ok.0 false (in_run ok.1 ok.2)
    u = subst (λ (op : Op). Using h r.life op) ok.3 (flight_uses h r.life r pt (fresh_flies h r n fresh))

    cov : covers l s ≡ true
    cov = subst (λ (x : Lock). covers x s ≡ true) (lk.unique u.lock l (n.held u.lock u.held) (n.held l i)
        (u.cookie ∙ sym (cookie ok.0 ok.1 ok.2 ok.3))) (u.covered s ok.8.0)

    cuts : (m : ℕ) → pending l.life h ≡ Some m → m ≤ s → ⊥
    cuts m p low =
        let c = pt.cuts l.life m p in
        let live = lives out h l.life outs o in
        let same = one_lock h l c.lock s lk (held_granted h l n lk i live)
        (held_granted h c.lock n lk c.held (ap (λ (d : ℕ). evicted d h) c.life ∙ live)) cov (cut_covers c.lock m s c.covered low) c.mode
        in
        past_end l c.lock e m s same last c.covered low cov

most_either : (s t q : ℕ) (x : Option ℕ) → most s x ≡ Some t → q ≤ t → (q ≤ s) ⊎ ((u : ℕ) × (x ≡ Some u) × (q ≤ u))
most_either s t q None e low = inl (let f : s ≡ t = cc in omega arith)
most_either s t q (Some u) e low = by (nat_lt s q) refl
  where
    by : (v : Bool) → nat_lt s q ≡ v → (q ≤ s) ⊎ ((w : ℕ) × (Some u ≡ Some w) × (q ≤ w))
    by false f = inl (ltb-false s q f)
    by true f = inr (u, refl, (let g : max s u ≡ t = cc in let h = ltb-true s q f in omega arith))

-- what was shown by a reply
get_either : (op : Op) (a : Answer) (k t q : ℕ) (x : Option ℕ) → shown_get op a k x ≡ Some t → q ≤ t
    → ((j at n : ℕ) × (vs : List ℕ) × (s : ℕ) × (sn : ℕ → Bool) × (op ≡ Get j at n) × (a ≡ Content vs (Some s) sn) × (j ≡ k) × (q ≤ s))
    ⊎ ((u : ℕ) × (x ≡ Some u) × (q ≤ u))
get_either (Get j at n) (Content vs (Some s) sn) k t q x e low = by (nat_eq j k) refl e
  where
    by : (v : Bool) → nat_eq j k ≡ v → (if v then most s x else x) ≡ Some t
        → ((i at' m : ℕ) × (ws : List ℕ) × (s' : ℕ) × (tn : ℕ → Bool) × (Get j at n ≡ Get i at' m)
        × (Content vs (Some s) sn ≡ Content ws (Some s') tn) × (i ≡ k) × (q ≤ s')) ⊎ ((u : ℕ) × (x ≡ Some u) × (q ≤ u))
    by true f g = ⊎_elim (λ (y : q ≤ s). inl (j, at, n, vs, s, sn, refl, refl, eqb-true j k f, y))
        (λ (y : (u : ℕ) × (x ≡ Some u) × (q ≤ u)). inr y) (most_either s t q x g low)
    by false f g = inr (t, g, low)
get_either (Get j at n) (Content vs None sn) k t q x e low = inr (t, e, low)
get_either (Get j at n) (Granted l z sn) k t q x e low = inr (t, e, low)
get_either (Get j at n) (Waiting i) k t q x e low = inr (t, e, low)
get_either (Get j at n) (Done i) k t q x e low = inr (t, e, low)
get_either (Get j at n) (Sized i) k t q x e low = inr (t, e, low)
get_either (Get j at n) Uncovered k t q x e low = inr (t, e, low)
get_either (Enqueue b f z) a k t q x e low = inr (t, e, low)
get_either (Flush j ch) a k t q x e low = inr (t, e, low)
get_either Size a k t q x e low = inr (t, e, low)

-- what was shown by a write
write_either : (ch : Change) (m : ℕ → Option ℕ) (t q : ℕ) (x : Option ℕ) → shown_write ch x ≡ Some t → q ≤ t
    → ((p : ℕ) × (q ≤ p) × (is_some (after_at ch p (m p)) ≡ true)) ⊎ ((u : ℕ) × (x ≡ Some u) × (q ≤ u))
write_either (Write at (b ∷ bs)) m t q x e low = ⊎_elim
    (λ (y : q ≤ at + length bs). let r = run_in at (b ∷ bs) (at + length bs)
    (run_last at (b ∷ bs) (at + length bs) (omega arith) (omega arith))
    in inl (at + length bs, y, ap is_some (r.1 (m (at + length bs)))))
    (λ (y : (u : ℕ) × (x ≡ Some u) × (q ≤ u)). inr y)
    (most_either (at + length bs) t q x e low)
write_either (Write at []) m t q x e low = inr (t, e, low)
write_either (Cut n) m t q x e low = inr (t, e, low)

-- an entry that answers, flies, holds, drops and shows nothing
pub record Plainly (h : List Entry) (e : Entry) : Type 0 where
  pub flight : (c : ℕ) (r : Request) → flight c (e ∷ h) ≡ Some r → flight c h ≡ Some r
  pub answered : (c x : ℕ) (vs : List ℕ) (t : Option ℕ) (sn : ℕ → Bool) → Answered (e ∷ h) c x (Content vs t sn)
      → Answered h c x (Content vs t sn)
  pub held : (l : Lock) → HeldBy (e ∷ h) l → HeldBy h l
  pub shown : (c k : ℕ) → shown c k (e ∷ h) ≡ shown c k h

plainly : (out lost : ℕ → Bool) (h : List Entry) (x : Entry) → Outs out h → ((d : ℕ) (f gone : ℕ → Bool) → x ≡ Close d f gone → ⊥)
    → Numbers h → Lockings h → Allowed h x → Plainly h x → Narrows out lost h → Narrows out lost (x ∷ h)
plainly out lost h x s no_close n lk ok p w = record {
  coming = λ c r k at m vs t sn o f op a fr l i e cookie u last q cov low. reach_line out lost h x l u q s no_close n lk ok (ap out e ∙ o)
      (p.held l i) last cov (w.coming c r k at m vs t sn o (p.flight c r f) op (p.answered c r.xid vs (Some t) sn a) fr l (p.held l i) e
      cookie u last q cov low);
  shown = λ l t o i e u last q cov low. reach_line out lost h x l u q s no_close n lk ok o (p.held l i) last cov
      (w.shown l t o (p.held l i) (sym (p.shown l.life l.cookie) ∙ e) u last q cov low);
}

acts_content : (out lost : ℕ → Bool) (h : List Entry) (r : Request) (bs : List ℕ) (u : Option ℕ) (sk : ℕ → Bool) → Outs out h
    → KeptFor out lost h → Numbers h → Lockings h → Patches h → Views out lost h → Fresh h r → ActsOk h r (Content bs u sk)
    → Narrows out lost h → Narrows out lost (Acts r (Content bs u sk) ∷ h)
acts_content out lost h r bs u sk s kf n lk pt vw fresh ok w = record {
  coming = λ c q k at m vs t sn o f op a fr l i e cookie b last p cov low. ⊎_elim
      (λ (x : (r.life ≡ c) × (r.xid ≡ q.xid) × (Content bs u sk ≡ Content vs (Some t) sn)).
      let is : q ≡ r = same_flight h c q r f (ap (λ (j : ℕ). flight j h) (sym x.0) ∙ fresh_flies h r n fresh) in (
        t,
        low,
        shows out lost h r vs t sn s kf n lk pt vw fresh (subst (λ (y : Answer). ActsOk h r y) x.2 ok) fr l i (ap out e ∙ o)
            (e ∙ sym x.0) (λ j a' m' g. cookie ∙ same_lock q.op k at m j a' m' op (ap (λ (y : Request). y.op) is ∙ g)) b last,
      ))
      (λ (x : Answered h c q.xid (Content vs (Some t) sn)). w.coming c q k at m vs t sn o f op x fr l i e cookie b last p cov low) a;
  shown = λ l t o i e b last q cov low. w.shown l t o i e b last q cov low;
}
  where
    same_lock : (op : Op) (k at m j at' m' : ℕ) → op ≡ Get k at m → op ≡ Get j at' m' → k ≡ j
    same_lock op k at m j at' m' e f = cc

flies : (out lost : ℕ → Bool) (h : List Entry) (r : Request) → Numbers h → New h r → Narrows out lost h → Narrows out lost (Flies r ∷ h)
flies out lost h r n ok w = record {
  coming = λ c q k at m vs t sn o f op a fr l i e cookie b last p cov low. coming c q k at m vs t sn o (nat_eq c r.life) refl f op a fr l i
      e cookie b last p cov low;
  shown = λ l t o i e b last q cov low. w.shown l t o i e b last q cov low;
}
  where
    coming : (c : ℕ) (q : Request) (k at m : ℕ) (vs : List ℕ) (t : ℕ) (sn : ℕ → Bool) → out c ≡ false → (v : Bool) → nat_eq c r.life ≡ v
        → (if v then Some r else flight c h) ≡ Some q → q.op ≡ Get k at m → Answered h c q.xid (Content vs (Some t) sn) → Free lost sn
        → (l : Lock) → HeldBy h l → l.life ≡ c → l.cookie ≡ k → (b : ℕ) → l.last ≡ Some b → (p : ℕ) → covers l p ≡ true → p ≤ t
        → Reach out lost h p
    coming c q k at m vs t sn o false v f op a fr l i e cookie b last p cov low =
        w.coming c q k at m vs t sn o f op a fr l i e cookie b last p cov low
    coming c q k at m vs t sn o true v f op a fr l i e cookie b last p cov low =
        let is : r ≡ q = cc in
        let x = ap (λ (y : Request). y.xid) is in
        let high = n.answers c q.xid (Content vs (Some t) sn) a in
        let same = ap (λ (d : ℕ). asked d h) (eqb-true c r.life v) in
        let next = ok.next in
        absurd (omega arith)

hears : (out lost : ℕ → Bool) (h : List Entry) (r : Request) (a : Answer) → (out r.life ≡ false → HeardOf lost a) → Numbers h
    → flight r.life h ≡ Some r → Was h (Reply (closed h) r.life r.xid a) → Narrows out lost h → Narrows out lost (Heard r a ∷ h)
hears out lost h r a of n fl was w = record {
  coming = λ c q k at m vs t sn o f op x fr l i e cookie b last p cov low. w.coming c q k at m vs t sn o (less (nat_eq c r.life) c q f) op x
      fr l i e cookie b last p cov low;
  shown = λ l t o i e b last q cov low. by l t o i (nat_eq l.life r.life) refl e b last q cov low;
}
  where
    less : (v : Bool) (c : ℕ) (q : Request) → (if v then None else flight c h) ≡ Some q → flight c h ≡ Some q
    less true c q f = absurd (cc)
    less false c q f = f

    by : (l : Lock) (t : ℕ) → out l.life ≡ false → HeldBy h l → (v : Bool) → nat_eq l.life r.life ≡ v
        → (if v then shown_get r.op a l.cookie (shown l.life l.cookie h) else shown l.life l.cookie h) ≡ Some t → (b : ℕ) → l.last ≡ Some b
        → (q : ℕ) → covers l q ≡ true → q ≤ t → Reach out lost h q
    by l t o i false v e b last q cov low = w.shown l t o i e b last q cov low
    by l t o i true v e b last q cov low = ⊎_elim
        (λ (x : (j at n : ℕ) × (vs : List ℕ) × (s : ℕ) × (sn : ℕ → Bool) × (r.op ≡ Get j at n) × (a ≡ Content vs (Some s) sn)
        × (j ≡ l.cookie) × (q ≤ s)).
        let is = eqb-true l.life r.life v in
        w.coming l.life r x.0 x.1 x.2 x.3 x.4 x.5 o (ap (λ (d : ℕ). flight d h) is ∙ fl) x.6
        (subst (λ (y : Answer). Answered h l.life r.xid y) x.7 (subst (λ (d : ℕ). Answered h d r.xid a) (sym is)
        (n.replies r.life r.xid a was)))
        (subst (λ (y : Answer). HeardOf lost y) x.7 (of (ap out (sym is) ∙ o))) l i refl (sym x.8) b last q cov x.9)
        (λ (x : (u : ℕ) × (shown l.life l.cookie h ≡ Some u) × (q ≤ u)). w.shown l x.0 o i x.1 b last q cov x.2)
        (get_either r.op a l.cookie t q (shown l.life l.cookie h) e low)

tells : (out lost : ℕ → Bool) (h : List Entry) (d j : ℕ) (ch : Change) → Outs out h → Numbers h → Lockings h
    → UnderNumber h d j true (changes ch) → Narrows out lost h → Narrows out lost (Tells d (Did j ch) ∷ h)
tells out lost h d j ch s n lk ok w = record {
  coming = λ c r k at m vs t sn o f op a fr l i e cookie u last q cov low. reach_tells out lost h d j ch l u q s n lk ok (ap out e ∙ o) i
      last cov (w.coming c r k at m vs t sn o f op a fr l i e cookie u last q cov low);
  shown = λ l t o i e u last q cov low. by l t o i (nat_eq l.life d && nat_eq l.cookie j) refl e u last q cov low;
}
  where
    by : (l : Lock) (t : ℕ) → out l.life ≡ false → HeldBy h l → (v : Bool) → (nat_eq l.life d && nat_eq l.cookie j) ≡ v
        → (if v then shown_write ch (shown l.life l.cookie h) else shown l.life l.cookie h) ≡ Some t → (b : ℕ) → l.last ≡ Some b → (q : ℕ)
        → covers l q ≡ true → q ≤ t → Reach out lost (Tells d (Did j ch) ∷ h) q
    by l t o i false v e b last q cov low = reach_tells out lost h d j ch l b q s n lk ok o i last cov (w.shown l t o i e b last q cov low)
    by l t o i true v e b last q cov low = ⊎_elim
        (λ (x : (p : ℕ) × (q ≤ p) × (is_some (after_at ch p (plain (history out lost h) p)) ≡ true)). (
          x.0,
          x.1,
          ap is_some (tells_in out lost h d j ch (ap out
              (sym (eqb-true l.life d (and_parts (nat_eq l.life d) (nat_eq l.cookie j) v).0)) ∙ o) x.0) ∙ x.2,
        ))
        (λ (x : (u : ℕ) × (shown l.life l.cookie h ≡ Some u) × (q ≤ u)). reach_tells out lost h d j ch l b q s n lk ok o i last cov
        (w.shown l x.0 o i x.1 b last q cov x.2))
        (write_either ch (λ p. plain (history out lost h) p) t q (shown l.life l.cookie h) e low)

holds : (out lost : ℕ → Bool) (h : List Entry) (k : Lock) (z : ℕ) (sl : ℕ → Bool) → Numbers h → Lockings h → Patches h → HoldOk h k z sl
    → Narrows out lost h → Narrows out lost (Hold k z sl ∷ h)
holds out lost h k z sl n lk pt ok w = record {
  coming = λ c r j at m vs t sn o f op a fr l i e cookie u last q cov low. ⊎_elim
      (λ (x : k ≡ l). absurd (
      let y : UnderNumber h c j false (in_run at m) = subst (λ (op : Op). Using h c op) op (flight_uses h c r pt f) in
      let gone = (lk.held y.lock y.held).gone in
      both_ways (awaits k.life k.cookie h) (subst (λ (p : ℕ × ℕ). awaits p.0 p.1 h ≡ false)
      (λ i'. (
        (y.life ∙ sym e ∙ ap (λ (b : Lock). b.life) (sym x)) i',
        (y.cookie ∙ sym cookie ∙ ap (λ (b : Lock). b.cookie) (sym x)) i',
      )) gone) ok.0))
      (λ (x : HeldBy h l). w.coming c r j at m vs t sn o f op a fr l x e cookie u last q cov low) i;
  shown = λ l t o i e u last q cov low. by l t o i (nat_eq l.life k.life && nat_eq l.cookie k.cookie) refl e u last q cov low;
}
  where
    by : (l : Lock) (t : ℕ) → out l.life ≡ false → (k ≡ l) ⊎ HeldBy h l → (v : Bool)
        → (nat_eq l.life k.life && nat_eq l.cookie k.cookie) ≡ v → (if v then None else shown l.life l.cookie h) ≡ Some t → (b : ℕ)
        → l.last ≡ Some b → (q : ℕ) → covers l q ≡ true → q ≤ t → Reach out lost h q
    by l t o i true v e b last q cov low = absurd (cc)
    by l t o (inl x) false v e b last q cov low = absurd (let c = eq-eqb l.life k.life (ap (λ (m : Lock). m.life) (sym x)) in let d =
        eq-eqb l.cookie k.cookie (ap (λ (m : Lock). m.cookie) (sym x)) in grind arith)
    by l t o (inr i) false v e b last q cov low = w.shown l t o i e b last q cov low

pub closes : (out lost : ℕ → Bool) (b : ℕ) (f gone : ℕ → Bool) (h : List Entry) → Narrows out (also lost f) h
    → Narrows out lost (Close b f gone ∷ h)
closes out lost b f gone h w = record {
  coming = λ c r k at m vs t sn o fl op a fr l i e cookie u last q cov low. absurd (let x = a.1.1 in cc);
  shown = λ l t o i e u last q cov low. w.shown l t o i e u last q cov low;
}

no_content : (h : List Entry) (r : Request) (a : Answer) (c x : ℕ) (vs : List ℕ) (t : Option ℕ) (sn : ℕ → Bool) → (a ≡ Content vs t sn → ⊥)
    → ((r.life ≡ c) × (r.xid ≡ x) × (a ≡ Content vs t sn)) ⊎ Answered h c x (Content vs t sn) → Answered h c x (Content vs t sn)
no_content h r a c x vs t sn ne (inl e) = absurd (ne e.2)
no_content h r a c x vs t sn ne (inr i) = i

pub narrows_line : (out lost : ℕ → Bool) (h : List Entry) (e : Entry) → Outs out h → KeptFor out lost (e ∷ h)
    → ((d : ℕ) (l gone : ℕ → Bool) → e ≡ Close d l gone → ⊥) → Numbers h → Lockings h → Patches h → Views out lost h → Narrows out lost h
    → Allowed h e → Narrows out lost (e ∷ h)
narrows_line out lost h (Close d l gone) s kf no_close n lk pt vw w ok = absurd (no_close d l gone refl)
narrows_line out lost h (Heard r a) s kf no_close n lk pt vw w ok = hears out lost h r a kf.0 n ok.0 ok.1 w
narrows_line out lost h (Hold k z sl) s kf no_close n lk pt vw w ok = holds out lost h k z sl n lk pt ok w
narrows_line out lost h (Flies r) s kf no_close n lk pt vw w ok = flies out lost h r n ok w
narrows_line out lost h (Tells d (Did j ch)) s kf no_close n lk pt vw w ok = tells out lost h d j ch s n lk ok w
narrows_line out lost h (Acts r (Content vs t sn)) s kf no_close n lk pt vw w ok =
    acts_content out lost h r vs t sn s kf n lk pt vw ok.0 ok.1 w
narrows_line out lost h (Acts r (Sized z)) s kf no_close n lk pt vw w ok =
    plainly out lost h (Acts r (Sized z)) s no_close n lk ok (record {
      flight = λ c q f. f;
      answered = λ c x vs t sn i. no_content h r (Sized z) c x vs t sn (λ e. absurd (cc)) i;
      held = λ l i. i;
      shown = λ c k. refl;
    }) w
narrows_line out lost h (Acts r Uncovered) s kf no_close n lk pt vw w ok =
    plainly out lost h (Acts r Uncovered) s no_close n lk ok (record {
      flight = λ c q f. f;
      answered = λ c x vs t sn i. no_content h r Uncovered c x vs t sn (λ e. absurd (cc)) i;
      held = λ l i. i;
      shown = λ c k. refl;
    }) w
narrows_line out lost h (Acts r (Granted l z sn)) s kf no_close n lk pt vw w ok = absurd ok.1
narrows_line out lost h (Acts r (Waiting k)) s kf no_close n lk pt vw w ok = absurd ok.1
narrows_line out lost h (Acts r (Done m)) s kf no_close n lk pt vw w ok = absurd ok.1
narrows_line out lost h (Grant r l z sl) s kf no_close n lk pt vw w ok = plainly out lost h (Grant r l z sl) s no_close n lk ok (record {
  flight = λ c q f. f;
  answered = λ c x vs t sn i. no_content h r (Granted l z sl) c x vs t sn (λ e. absurd (cc)) i;
  held = λ m i. i;
  shown = λ c k. refl;
}) w
narrows_line out lost h (Wait r l) s kf no_close n lk pt vw w ok = plainly out lost h (Wait r l) s no_close n lk ok (record {
  flight = λ c q f. f;
  answered = λ c x vs t sn i. no_content h r (Waiting l.cookie) c x vs t sn (λ e. absurd (cc)) i;
  held = λ m i. i;
  shown = λ c k. refl;
}) w
narrows_line out lost h (Txn nr r) s kf no_close n lk pt vw w ok = plainly out lost h (Txn nr r) s no_close n lk ok (record {
  flight = λ c q f. f;
  answered = λ c x vs t sn i. no_content h r (Done nr) c x vs t sn (λ e. absurd (cc)) i;
  held = λ l i. i;
  shown = λ c k. refl;
}) w
narrows_line out lost h (Drop l) s kf no_close n lk pt vw w ok =
    plainly out lost h (Drop l) s no_close n lk ok (record {
      flight = λ c q f. f;
      answered = λ c x vs t sn i. i;
      held = λ m i. i.1;
      shown =
          λ c k. refl;
    }) w
narrows_line out lost h e s kf no_close n lk pt vw w ok = plainly out lost h e s no_close n lk ok
    (record { flight = λ c q f. f; answered = λ c x vs t sn i. i; held = λ m i. i; shown = λ c k. refl }) w

-- the file ends past a position that was reached
pub past_reach : (out lost : ℕ → Bool) (h : List Entry) (q : ℕ) → Reach out lost h q → q < size_of (history out lost h)
past_reach out lost h q r = by (nat_lt r.0 (size_of (history out lost h))) refl
  where
    by : (v : Bool) → nat_lt r.0 (size_of (history out lost h)) ≡ v → q < size_of (history out lost h)
    by true e = let a = ltb-true r.0 (size_of (history out lost h)) e in let b = r.1 in omega arith
    by false e = absurd (let x = (size_is (history out lost h)).0 r.0 (ltb-false r.0 (size_of (history out lost h)) e) in let y =
        ap is_some x in let z = r.2 in cc)

pub shown_reach : (out lost : ℕ → Bool) (h : List Entry) (c q : ℕ) → Narrows out lost h → out c ≡ false → ShownAt h c q → Reach out lost h q
shown_reach out lost h c q w o u = w.shown u.lock u.most (ap out u.life ∙ o) u.held u.shown u.last u.short q u.covered u.reached

-- a read under a lock over what it asks gets all of it
pub narrow_right : (out lost : ℕ → Bool) (h : List Entry) (d at n : ℕ) (vs : List ℕ) → Outs out h → Numbers h → Lockings h → Patches h
    → Facts out lost h → Views out lost h → Narrows out lost h → Narrow h d at n vs → out d ≡ false
    → vs ≡ read_of (history out lost h) at (min n (size_of (history out lost h) - at))
narrow_right out lost h d at n vs s nu lk pt fs w nw u o = read_is (history out lost h) at vs (min n (size_of (history out lost h) - at))
    (u.count ∙ all) each
  where
    all : n ≡ min n (size_of (history out lost h) - at)
    all = let past = past_reach out lost h u.final (shown_reach out lost h d u.final nw o u.reached) in let f = u.is_final in omega arith

    each : (p v : ℕ) → overlay at vs p None ≡ Some v → value (plain (history out lost h) p) ≡ v
    each p v i =
        let b = run_bounds at vs p (run_some at vs p v i) in
        let low = b.0 in
        let high = b.1 in
        let len = u.count in
        let cov = u.covered p (grind (arith, nat_tests)) in
        ap (λ (x : Option ℕ). value x) (covered out lost h d p u.lock s nu lk pt w o u.held u.life cov)
        ∙ reads_value (pending d h) (dirty d h p) (known_of d p) p v (object lost h p) (u.reads p v i)
        (λ m k. (fs.known d p v o k).is m)
      where
        known_of : ℕ → ℕ → Option ℕ
        known_of c q = known c h q
