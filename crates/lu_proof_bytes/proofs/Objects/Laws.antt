-- The laws of a whole past, object by object.
use Rattle.lu_proof_bytes.proofs.Objects.Only.{kept_from}
use Rattle.std.proofs.Common.{◌≡◌, ℕ, ◌<◌, ⊎_elim, List, [], ◌∷◌, Option, Some, None, Bool, true, false, refl, sym, ap, ◌∙◌, subst}
use Rattle.std.specs.Prelude.{nat_eq, not, if◌then◌else◌, ◌&&◌}
use Rattle.std.proofs.lemmas.Bool.{eqb-true, both_ways, and_parts, or_left, or_right, or_cases}
use Rattle.lu_proof_bytes.specs.Object.Words.{Lock, Request, Call, Entry, Takes, Heard, Hold, Drop, Grant, Wait, Promote, Acts, Txn}
use Rattle.lu_proof_bytes.specs.Object.Words.{Release, Flies as Flew, Forgets, Evict as Evicted, Commit as Committed, Close as Closed}
use Rattle.lu_proof_bytes.specs.Object.Words.{Send as Sends, Ask as Asks, Reply as Replies, Give as Gives, Block as Blocks}
use Rattle.lu_proof_bytes.specs.Object.Words.{Cancel as Cancels}
use Rattle.lu_proof_bytes.specs.Object.Folds.{evicted as evicted_in, also, nothing_lost, IsGranted}
use Rattle.lu_proof_bytes.specs.Object.History.{Item, told_item, piece_item, history, size_of, Right, Puts}
use Rattle.lu_proof_bytes.specs.Object.Guards.{IsEnd, EndAt}
use Rattle.lu_proof_bytes.proofs.Object.Locks.{held_granted}
use Rattle.lu_proof_bytes.proofs.Object.World.{world, any_right, kept_none as story_kept_none}
use Rattle.lu_proof_bytes.proofs.Object.Origins.{allowed_puts}
use Rattle.lu_proof_bytes.proofs.Object.Glimpse.{glimpse_free, glimpse_above, glimpse_peek}
use Rattle.lu_proof_bytes.specs.Objects.Words.{Message, Ask, Reply, Give, Block, Cancel, Join, Ready, Line, Knows, Serves, Flies, Lives}
use Rattle.lu_proof_bytes.specs.Objects.Words.{Tells, Over, Joins, Queue, Serve, Works, Evict, Commit, Crash, Boot, Close, Send}
use Rattle.lu_proof_bytes.specs.Objects.Folds.{boot, evicted, over, object_of, place, Kept}
use Rattle.lu_proof_bytes.specs.Objects.Only.{live, keep, told, is_at, is_object, sent, put, only}
use Rattle.lu_proof_bytes.specs.Objects.Guards.{ServedOk, WorksOk, LivesOk, AllOk}
use Rattle.lu_proof_bytes.specs.Objects.History.{gone, told_items, served_items, items, WholeLocks}
use Rattle.lu_proof_bytes.proofs.Objects.Tied.{keep_at}
use Rattle.lu_proof_bytes.proofs.Objects.Only.{whole, projection}

-- ---- who is gone

pub evicted_gone : (t c : ℕ) (past : List Line) → evicted t c past ≡ true → gone c past ≡ true
evicted_gone t c [] e = absurd (cc)
evicted_gone t c (Evict u d ∷ past) e = ⊎_elim (λ (x : (nat_eq t u && nat_eq c d) ≡ true). or_left (nat_eq c d) (gone c past)
    (and_parts (nat_eq t u) (nat_eq c d) x).1) (λ (x : evicted t c past ≡ true). or_right (nat_eq c d) (gone c past)
    (evicted_gone t c past x)) (or_cases (nat_eq t u && nat_eq c d) (evicted t c past) e)
evicted_gone t c (Close u lost out ∷ past) e = ⊎_elim (λ (x : (nat_eq t u && out c) ≡ true). or_left (out c) (gone c past)
    (and_parts (nat_eq t u) (out c) x).1) (λ (x : evicted t c past ≡ true). or_right (out c) (gone c past) (evicted_gone t c past x))
    (or_cases (nat_eq t u && out c) (evicted t c past) e)
evicted_gone t c (_ ∷ past) e = evicted_gone t c past e

pub over_gone : (c : ℕ) (past : List Line) → AllOk past → over c past ≡ true → gone c past ≡ true
over_gone c [] all e = absurd (cc)
over_gone c (Over d ∷ past) all e = ⊎_elim (λ (x : nat_eq c d ≡ true). subst (λ (k : ℕ). gone k past ≡ true) (sym (eqb-true c d x))
    (evicted_gone all.0.0 d past all.0.1)) (λ (x : over c past ≡ true). over_gone c past all.1 x) (or_cases (nat_eq c d) (over c past) e)
over_gone c (Evict u d ∷ past) all e = or_right (nat_eq c d) (gone c past) (over_gone c past all.1 e)
over_gone c (Close u lost out ∷ past) all e = or_right (out c) (gone c past) (over_gone c past all.1 e)
over_gone c (Knows u d b ∷ past) all e = over_gone c past all.1 e
over_gone c (Serves u d b ∷ past) all e = over_gone c past all.1 e
over_gone c (Flies u o g r ∷ past) all e = over_gone c past all.1 e
over_gone c (Lives u o d x ∷ past) all e = over_gone c past all.1 e
over_gone c (Tells d does ∷ past) all e = over_gone c past all.1 e
over_gone c (Joins u d ∷ past) all e = over_gone c past all.1 e
over_gone c (Serve u o g r x ∷ past) all e = over_gone c past all.1 e
over_gone c (Works u o x ∷ past) all e = over_gone c past all.1 e
over_gone c (Queue u o g r ∷ past) all e = over_gone c past all.1 e
over_gone c (Commit u n ∷ past) all e = over_gone c past all.1 e
over_gone c (Crash u ∷ past) all e = over_gone c past all.1 e
over_gone c (Boot u b ∷ past) all e = over_gone c past all.1 e
over_gone c (Send u m ∷ past) all e = over_gone c past all.1 e

-- ---- the history of the story is that of the lines

-- whoever some target evicted is out
abbrev pub GoneOut : (ℕ → Bool) → List Line → Type 0
GoneOut out past = (c : ℕ) → gone c past ≡ true → out c ≡ true

pub gone_less : (out : ℕ → Bool) (past : List Line) (l : Line) → GoneOut out (l ∷ past) → GoneOut out past
gone_less out past (Evict u d) s c e = s c (or_right (nat_eq c d) (gone c past) e)
gone_less out past (Close u lost gone') s c e = s c (or_right (gone' c) (gone c past) e)
gone_less out past (Knows u d b) s c e = s c e
gone_less out past (Serves u d b) s c e = s c e
gone_less out past (Flies u o g r) s c e = s c e
gone_less out past (Lives u o d x) s c e = s c e
gone_less out past (Tells d does) s c e = s c e
gone_less out past (Over d) s c e = s c e
gone_less out past (Joins u d) s c e = s c e
gone_less out past (Serve u o g r x) s c e = s c e
gone_less out past (Works u o x) s c e = s c e
gone_less out past (Queue u o g r) s c e = s c e
gone_less out past (Commit u n) s c e = s c e
gone_less out past (Crash u) s c e = s c e
gone_less out past (Boot u b) s c e = s c e
gone_less out past (Send u m) s c e = s c e

dead_out : (out : ℕ → Bool) (t c : ℕ) (past : List Line) → AllOk past → GoneOut out past → live t c past ≡ false → out c ≡ true
dead_out out t c past all s e = by (evicted t c past) refl (over c past) refl
  where
    by : (v : Bool) → evicted t c past ≡ v → (w : Bool) → over c past ≡ w → out c ≡ true
    by true x w y = s c (evicted_gone t c past x)
    by false x true y = s c (over_gone c past all y)
    by false x false y = absurd (let f : (not (evicted t c past) && not (over c past)) ≡ true = rw (x, y) in both_ways (live t c past) e f)

told_same : (out lost : ℕ → Bool) (t o c : ℕ) (past : List Line) (h : List Entry) (v : Bool) (d : Option Call) → (v ≡ false → out c ≡ true)
    → history out lost h ≡ items out lost t o past
    → history out lost (put (if v then told c d else None) h) ≡ (if out c then items out lost t o past
    else told_items c d (items out lost t o past))
told_same out lost t o c past h false d dead ih = rw (dead refl) ih
told_same out lost t o c past h true None dead ih = by (out c)
  where
    by : (b : Bool) → history out lost h ≡ (if b then items out lost t o past else items out lost t o past)
    by true = ih
    by false = ih
told_same out lost t o c past h true (Some call) dead ih = by (out c)
  where
    by : (b : Bool) → (if b then history out lost h else told_item c call (history out lost h))
        ≡ (if b then items out lost t o past else told_item c call (items out lost t o past))
    by true = ih
    by false = ap (λ (is : List Item). told_item c call is) ih

lives_same : (out lost : ℕ → Bool) (past : List Line) (t o c : ℕ) (e : Entry) (h : List Entry) → LivesOk past t o c e
    → history out lost (e ∷ h) ≡ history out lost h
lives_same out lost past t o c (Heard r a) h ok = refl
lives_same out lost past t o c (Hold l s sn) h ok = refl
lives_same out lost past t o c (Drop l) h ok = refl
lives_same out lost past t o c (Takes d k ch) h ok = refl
lives_same out lost past t o c _ h ok = absurd ok

serve_same : (out lost : ℕ → Bool) (past : List Line) (t o : ℕ) (r : Request) (e : Entry) (h : List Entry) (is : List Item)
    → ServedOk past t o r e → history out lost h ≡ is → history out lost (e ∷ h) ≡ served_items out lost e is
serve_same out lost past t o r (Grant q l s sn) h is ok ih = ih
serve_same out lost past t o r (Wait q l) h is ok ih = ih
serve_same out lost past t o r (Acts q a) h is ok ih = ih
serve_same out lost past t o r (Txn n q) h is ok ih = ap (λ (k : List Item). if out q.life && not (lost n) then piece_item q.life q.op k
    else k) ih
serve_same out lost past t o r _ h is ok ih = absurd ok

works_same : (out lost : ℕ → Bool) (past : List Line) (t o : ℕ) (e : Entry) (h : List Entry) → WorksOk past t o e → history out lost (e ∷ h)
    ≡ history out lost h
works_same out lost past t o (Promote l) h ok = refl
works_same out lost past t o (Release k) h ok = refl
works_same out lost past t o _ h ok = absurd ok

sent_same : (out lost : ℕ → Bool) (t o : ℕ) (past : List Line) (m : Message) (h : List Entry) (v : Bool)
    → history out lost (put (if v then sent t o past m else None) h) ≡ history out lost h
sent_same out lost t o past m h false = refl
sent_same out lost t o past (Ask b g q r) h true = keep_at (λ k. history out lost k ≡ history out lost h) (nat_eq o q && live t r.life past)
    (Sends (Asks b r)) h (λ v. refl) (λ v. refl)
sent_same out lost t o past (Reply b c x a) h true = keep_at (λ k. history out lost k ≡ history out lost h) (is_at (place t c x past) o)
    (Sends (Replies b c x a)) h (λ v. refl) (λ v. refl)
sent_same out lost t o past (Give b l s sn) h true = keep_at (λ k. history out lost k ≡ history out lost h)
    (is_object (object_of t l.cookie past) o) (Sends (Gives b l s sn)) h (λ v. refl) (λ v. refl)
sent_same out lost t o past (Block b c j) h true = keep_at (λ k. history out lost k ≡ history out lost h) (is_object (object_of t j past) o)
    (Sends (Blocks b c j)) h (λ v. refl) (λ v. refl)
sent_same out lost t o past (Cancel b c j) h true = keep_at (λ k. history out lost k ≡ history out lost h)
    (is_object (object_of t j past) o && live t c past) (Sends (Cancels b c j)) h (λ v. refl) (λ v. refl)
sent_same out lost t o past (Join b c) h true = refl
sent_same out lost t o past (Ready b c) h true = refl

pub same_items : (out lost : ℕ → Bool) (t o : ℕ) (past : List Line) → AllOk past → GoneOut out past → history out lost (only t o past)
    ≡ items out lost t o past
same_items out lost t o [] all s = refl
same_items out lost t o (Knows u d b ∷ past) all s = let ih = same_items out lost t o past all.1 s
    in keep_at (λ h. history out lost h ≡ items out lost t o past) (nat_eq t u && live t d past) (Forgets d) (only t o past) (λ v. ih)
    (λ v. ih)
same_items out lost t o (Serves u d b ∷ past) all s = same_items out lost t o past all.1 s
same_items out lost t o (Flies u q g r ∷ past) all s = let ih = same_items out lost t o past all.1 s
    in keep_at (λ h. history out lost h ≡ items out lost t o past) (nat_eq t u && nat_eq o q && live t r.life past) (Flew r) (only t o past)
    (λ v. ih) (λ v. ih)
same_items out lost t o (Lives u q d e ∷ past) all s =
    let ih = same_items out lost t o past all.1 s in
    keep_at (λ h. history out lost h ≡ items out lost t o past) (nat_eq t u && nat_eq o q && live t d past) e (only t o past)
    (λ v. let p = and_parts (nat_eq t u && nat_eq o q) (live t d past) v
    in lives_same out lost past u q d e (only t o past) (all.0.1
    (subst (λ (k : ℕ). live k d past ≡ true) (eqb-true t u (and_parts (nat_eq t u) (nat_eq o q) p.0).0) p.1)) ∙ ih)
    (λ v. ih)
same_items out lost t o (Tells c does ∷ past) all s = told_same out lost t o c past (only t o past) (live t c past) (does t o)
    (λ e. dead_out out t c past all.1 s e) (same_items out lost t o past all.1 s)
same_items out lost t o (Over c ∷ past) all s = same_items out lost t o past all.1 s
same_items out lost t o (Joins u d ∷ past) all s = same_items out lost t o past all.1 s
same_items out lost t o (Queue u q g r ∷ past) all s = same_items out lost t o past all.1 s
same_items out lost t o (Serve u q g r e ∷ past) all s = by (nat_eq t u && nat_eq o q) (same_items out lost t o past all.1 s)
  where
    by : (v : Bool) → history out lost (only t o past) ≡ items out lost t o past → history out lost (put (keep v e) (only t o past))
        ≡ (if v then served_items out lost e (items out lost t o past) else items out lost t o past)
    by true ih = serve_same out lost past u q r e (only t o past) (items out lost t o past) all.0.1 ih
    by false ih = ih
same_items out lost t o (Works u q e ∷ past) all s = let ih = same_items out lost t o past all.1 s
    in keep_at (λ h. history out lost h ≡ items out lost t o past) (nat_eq t u && nat_eq o q) e (only t o past)
    (λ v. works_same out lost past u q e (only t o past) all.0 ∙ ih) (λ v. ih)
same_items out lost t o (Evict u d ∷ past) all s = let ih = same_items out lost t o past all.1 (gone_less out past (Evict u d) s)
    in keep_at (λ h. history out lost h ≡ items out lost t o past) (nat_eq t u) (Evicted d) (only t o past) (λ v. ih) (λ v. ih)
same_items out lost t o (Commit u n ∷ past) all s = let ih = same_items out lost t o past all.1 s
    in keep_at (λ h. history out lost h ≡ items out lost t o past) (nat_eq t u) (Committed n) (only t o past) (λ v. ih) (λ v. ih)
same_items out lost t o (Crash u ∷ past) all s = same_items out lost t o past all.1 s
same_items out lost t o (Boot u b ∷ past) all s = same_items out lost t o past all.1 s
same_items out lost t o (Close u l gone' ∷ past) all s = by (nat_eq t u)
    (same_items out (if nat_eq t u then also lost l else lost) t o past all.1 (gone_less out past (Close u l gone') s))
  where
    by : (v : Bool) → history out (if v then also lost l else lost) (only t o past) ≡ items out (if v then also lost l else lost) t o past
        → history out lost (put (keep v (Closed (boot t past) l gone')) (only t o past))
        ≡ items out (if v then also lost l else lost) t o past
    by true ih = ih
    by false ih = ih
same_items out lost t o (Send u m ∷ past) all s = sent_same out lost t o past m (only t o past) (nat_eq t u)
    ∙ same_items out lost t o past all.1 s

-- nothing more is lost at the end than the closes lost
pub kept_none : (t : ℕ) (past : List Line) → AllOk past → (out : ℕ → Bool) → GoneOut out past → Kept t out nothing_lost past
kept_none t past all out s = kept_from t out nothing_lost past all (λ c e. s c (evicted_gone t c past e)) (λ c n o i. refl)
    (λ n e. absurd (cc))

-- ---- the laws

pub outs_here : (t o : ℕ) (out : ℕ → Bool) (past : List Line) → AllOk past → GoneOut out past → (c : ℕ) → evicted_in c (only t o past)
    ≡ true → out c ≡ true
outs_here t o out past all s c e = s c (evicted_gone t c past (sym (((whole t past all).tied o).outs c) ∙ e))

-- for any lives that will be out, if all that any target evicted are among them
pub whole_right : (past : List Line) → AllOk past → (t o : ℕ) (out : ℕ → Bool) → GoneOut out past → Right (items out nothing_lost t o past)
whole_right past all t o out s =
    let ok = projection past all t o in
    let outs = outs_here t o out past all s in
    subst Right (same_items out nothing_lost t o past all s) (any_right (only t o past) ok out nothing_lost outs
    (story_kept_none (only t o past) ok out outs))

pub whole_puts : (past : List Line) → AllOk past → (t o : ℕ) → Puts (only t o past)
whole_puts past all t o = allowed_puts (only t o past) (projection past all t o)

not_gone : (t c : ℕ) (past : List Line) → gone c past ≡ false → evicted t c past ≡ false
not_gone t c past e = by (evicted t c past) refl
  where
    by : (v : Bool) → evicted t c past ≡ v → evicted t c past ≡ false
    by false f = f
    by true f = absurd (both_ways (gone c past) e (evicted_gone t c past f))

pub whole_locks : (past : List Line) → AllOk past → WholeLocks past
whole_locks past all t o l m i j v u c =
    let w = world (only t o past) (projection past all t o) in
    let tie = (whole t past all).tied o in
    w.locks.clash l m (held_granted (only t o past) l w.numbers w.locks i (tie.outs l.life ∙ not_gone t l.life past v))
    (held_granted (only t o past) m w.numbers w.locks j (tie.outs m.life ∙ not_gone t m.life past u)) c

-- what a glimpse may tell: the size of the object's history at that moment
pub whole_free : (past : List Line) → AllOk past → (t o : ℕ) (out : ℕ → Bool) (s : ℕ) → GoneOut out past → IsEnd (only t o past) s
    → ((l : Lock) → IsGranted (only t o past) l → l.write ≡ true → ⊥) → s ≡ size_of (items out nothing_lost t o past)
whole_free past all t o out s g end free = glimpse_free out (only t o past) s (projection past all t o) (outs_here t o out past all g) end
    free ∙ ap size_of (same_items out nothing_lost t o past all g)

pub whole_above : (past : List Line) → AllOk past → (t o : ℕ) (out : ℕ → Bool) (s : ℕ) → GoneOut out past → IsEnd (only t o past) s
    → ((l : Lock) → IsGranted (only t o past) l → l.write ≡ true → (e : ℕ) × (l.last ≡ Some e) × (e < s))
    → s ≡ size_of (items out nothing_lost t o past)
whole_above past all t o out s g end short = glimpse_above out (only t o past) s (projection past all t o) (outs_here t o out past all g)
    end short ∙ ap size_of (same_items out nothing_lost t o past all g)

pub whole_peek : (past : List Line) → AllOk past → (t o : ℕ) (out : ℕ → Bool) (c at z : ℕ) → GoneOut out past → out c ≡ false
    → (u : EndAt (only t o past) c at z) → u.lock.first < z → z ≡ size_of (items out nothing_lost t o past)
whole_peek past all t o out c at z g live u low = glimpse_peek out (only t o past) c at z (projection past all t o)
    (outs_here t o out past all g) live u low ∙ ap size_of (same_items out nothing_lost t o past all g)
