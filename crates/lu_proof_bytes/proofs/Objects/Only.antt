-- The projection: of an allowed whole past each object's story is allowed.
use Rattle.lu_proof_bytes.specs.Object.Guards.{HeardOf, TakesOk}
use Rattle.lu_proof_bytes.specs.Object.Words.{Content, Sized, Uncovered, Tells as Told}
use Rattle.std.proofs.lemmas.Bool.{or_cases}
use Rattle.lu_proof_bytes.specs.Objects.Folds.{SawAnswer, SawIn, Saw, committed}
use Rattle.std.proofs.Common.{◌<◌}
use Rattle.std.proofs.Common.{◌≡◌, ℕ, ◌≤◌, ◌⊎◌, inl, inr, ⊎_elim, List, [], ◌∷◌, Option, Some, None, Bool, true, false, refl, sym, ap, ◌∙◌}
use Rattle.std.proofs.Common.{subst, arith}
use Rattle.std.specs.Prelude.{nat_eq, if◌then◌else◌, ◌&&◌, ◌||◌}
use Rattle.std.proofs.lemmas.Bool.{eqb-true, eq-eqb, both_ways, and_parts, or_right}
use Rattle.lu_proof_bytes.specs.Object.Words.{Lock, Change, covers, Request, Answer, Granted, Waiting, Done, Call, Entry, Takes, Heard}
use Rattle.lu_proof_bytes.specs.Object.Words.{Hold, Drop, Grant, Wait, Promote, Acts, Txn, Release, Flies as Flew, Forgets}
use Rattle.lu_proof_bytes.specs.Object.Words.{Evict as Evicted, Commit as Committed, Close as Closed, Send as Sends, Ask as Asks}
use Rattle.lu_proof_bytes.specs.Object.Words.{Reply as Replies, Give as Gives, Block as Blocks, Cancel as Cancels}
use Rattle.lu_proof_bytes.specs.Object.Folds.{Was, closed as closed_in, evicted as evicted_in, Answered, IsGranted, HeldBy, WasDropped}
use Rattle.lu_proof_bytes.specs.Object.Folds.{awaits, flight, also}
use Rattle.lu_proof_bytes.specs.Object.Guards.{Fresh, New, GrantOk, WaitOk, TxnOk, ActsOk, ToldOk, CloseOk, IsEnd, Sees, KeptFor, Named}
use Rattle.lu_proof_bytes.specs.Object.Guards.{Allowed, AllAllowed}
use Rattle.lu_proof_bytes.proofs.Object.Kept.{kept_outs}
use Rattle.lu_proof_bytes.specs.Objects.Words.{Message, Ask, Reply, Give, Block, Cancel, Join, Ready, Line, Knows, Serves, Flies, Lives}
use Rattle.lu_proof_bytes.specs.Objects.Words.{Tells, Over, Joins, Queue, Serve, Works, Evict, Commit, Crash, Boot, Close, Send, Flight}
use Rattle.lu_proof_bytes.specs.Objects.Words.{Place}
use Rattle.lu_proof_bytes.specs.Objects.Folds.{boot, serving, closed, joined, evicted, object_of, slot, Queued, knows, place, flights, In}
use Rattle.lu_proof_bytes.specs.Objects.Folds.{Sent, KeptIn, Kept}
use Rattle.lu_proof_bytes.specs.Objects.Only.{live, keep, told, is_at, is_object, sent, put, only}
use Rattle.lu_proof_bytes.specs.Objects.Guards.{FreshAt, WaitsAt, ServedOk, WorksOk, FliesOk, LivesOk, SentOk, ClosesOk, LineOk, AllOk}
use Rattle.lu_proof_bytes.proofs.Objects.Base.{Base, base_line, no_base, or_false, when}
use Rattle.lu_proof_bytes.proofs.Objects.Tied.{at, flies_at, Tied, keep_at, live_parts, same_place}
use Rattle.lu_proof_bytes.proofs.Objects.Mail.{Mail, mail_line, no_mail}
use Rattle.lu_proof_bytes.proofs.Objects.TiedStays.{here_two, here_three, at_is, object_is, some_object, Queues, served_sent, tied_line}

-- ---- what recovery owes is owed of each object

kept_answer : (lost : ℕ → Bool) (a : Answer) → ((n : ℕ) → SawAnswer a n → lost n ≡ false) → HeardOf lost a
kept_answer lost (Done m) f = f m refl
kept_answer lost (Content vs top sn) f = f
kept_answer lost (Granted l z sn) f = tt
kept_answer lost (Waiting k) f = tt
kept_answer lost (Sized z) f = tt
kept_answer lost Uncovered f = tt

kept_entry : (out lost : ℕ → Bool) (d : ℕ) (e : Entry) → ((c n : ℕ) → out c ≡ false → SawIn c e n → lost n ≡ false) → KeptIn out lost d e
kept_entry out lost d (Heard r a) f = λ o. kept_answer lost a (λ n i. f r.life n o (refl, i))
kept_entry out lost d (Hold l z sn) f = λ o n i. f l.life n o (refl, i)
kept_entry o1 l1 w (Flew k) f = tt
kept_entry o1 l1 w (Drop l) f = tt
kept_entry o1 l1 w (Takes c k ch) f = tt
kept_entry o1 l1 w (Forgets c) f = tt
kept_entry o1 l1 w (Told c call) f = tt
kept_entry o1 l1 w (Grant k l s sn) f = tt
kept_entry o1 l1 w (Wait k l) f = tt
kept_entry o1 l1 w (Promote l) f = tt
kept_entry o1 l1 w (Acts k a) f = tt
kept_entry o1 l1 w (Release k) f = tt
kept_entry o1 l1 w (Evicted c) f = tt
kept_entry o1 l1 w (Committed n) f = tt
kept_entry o1 l1 w (Closed b l out') f = tt
kept_entry o1 l1 w (Sends m) f = tt
kept_entry o1 l1 w (Txn n r) f = tt

-- those that stay saw nothing of what this close loses, nor of what an earlier one lost, where they stayed too
pub kept_from : (t : ℕ) (out lost : ℕ → Bool) (past : List Line) → AllOk past → ((c : ℕ) → evicted t c past ≡ true → out c ≡ true)
    → ((c n : ℕ) → out c ≡ false → Saw t c past n → lost n ≡ false) → ((n : ℕ) → lost n ≡ true → committed t past < n)
    → Kept t out lost past
kept_from t out lost [] all s f g = tt
kept_from t out lost (Lives u o d e ∷ past) all s f g = (
  λ q. kept_entry out lost d e (λ c n o i. f c n o (inl (q, i))),
  kept_from t out lost past all.1 s (λ c n o i. f c n o (inr i)) g,
)
kept_from t out lost (Commit u m ∷ past) all s f g = (
  λ q n low. not_lost n (λ e. let a = mine q n e in omega arith),
  kept_from t out lost past all.1 s f (λ n e. old n e (nat_eq t u) refl (g n e)),
)
  where
    mine : t ≡ u → (n : ℕ) → lost n ≡ true → m < n
    mine q n e = subst (λ (b : Bool). (if b then m else committed t past) < n) (eq-eqb t u q) (g n e)

    not_lost : (n : ℕ) → (lost n ≡ true → ⊥) → lost n ≡ false
    not_lost n ne = by (lost n) refl
      where
        by : (v : Bool) → lost n ≡ v → lost n ≡ false
        by false e = e
        by true e = absurd (ne e)

    old : (n : ℕ) → lost n ≡ true → (v : Bool) → nat_eq t u ≡ v → (if v then m else committed t past) < n → committed t past < n
    old n e false q low = low
    old n e true q low = let rises = subst (λ (k : ℕ). committed k past ≤ m) (sym (eqb-true t u q)) all.0 in omega arith
kept_from t out lost (Close u l gone ∷ past) all s f g = kept_from t out (if nat_eq t u then also lost l else lost) past all.1
    (λ c e. s c (or_right (nat_eq t u && gone c) (evicted t c past) e))
    (λ c n o i. none c n o i (nat_eq t u) refl)
    (λ n e. high n (nat_eq t u) refl e)
  where
    mine : nat_eq t u ≡ true → ClosesOk past t l gone
    mine e = subst (λ (k : ℕ). ClosesOk past k l gone) (sym (eqb-true t u e)) all.0

    stayed : (c : ℕ) → out c ≡ false → nat_eq t u ≡ true → (gone c || evicted t c past) ≡ false
    stayed c o e = by (gone c || evicted t c past) refl
      where
        by : (v : Bool) → (gone c || evicted t c past) ≡ v → (gone c || evicted t c past) ≡ false
        by false x = x
        by true x = absurd (both_ways (out c) o (s c (subst (λ (b : Bool). ((b && gone c) || evicted t c past) ≡ true) (sym e) x)))

    none : (c n : ℕ) → out c ≡ false → Saw t c past n → (v : Bool) → nat_eq t u ≡ v → (if v then also lost l else lost) n ≡ false
    none c n o i false e = f c n o i
    none c n o i true e = rw (f c n o i, (mine e).saw c n (stayed c o e) i)

    high : (n : ℕ) (v : Bool) → nat_eq t u ≡ v → (if v then also lost l else lost) n ≡ true → committed t past < n
    high n false e i = g n i
    high n true e i = ⊎_elim (λ (x : lost n ≡ true). g n x) (λ (x : l n ≡ true). (mine e).above n x) (or_cases (lost n) (l n) i)
kept_from t out lost (Knows u d b ∷ past) all s f g = kept_from t out lost past all.1 s f g
kept_from t out lost (Serves u d b ∷ past) all s f g = kept_from t out lost past all.1 s f g
kept_from t out lost (Flies u o q r ∷ past) all s f g = kept_from t out lost past all.1 s f g
kept_from t out lost (Tells c d ∷ past) all s f g = kept_from t out lost past all.1 s f g
kept_from t out lost (Over c ∷ past) all s f g = kept_from t out lost past all.1 s f g
kept_from t out lost (Joins u d ∷ past) all s f g = kept_from t out lost past all.1 s f g
kept_from t out lost (Queue u o q r ∷ past) all s f g = kept_from t out lost past all.1 s f g
kept_from t out lost (Serve u o q r e ∷ past) all s f g = kept_from t out lost past all.1 s f g
kept_from t out lost (Works u o e ∷ past) all s f g = kept_from t out lost past all.1 s f g
kept_from t out lost (Crash u ∷ past) all s f g = kept_from t out lost past all.1 s f g
kept_from t out lost (Boot u b ∷ past) all s f g = kept_from t out lost past all.1 s f g
kept_from t out lost (Send u m ∷ past) all s f g = kept_from t out lost past all.1 s f g
kept_from t out lost (Evict u d ∷ past) all s f g = kept_from t out lost past all.1
    (λ c e. s c (or_right (nat_eq t u && nat_eq c d) (evicted t c past) e)) f g

kept_lives : (out lost : ℕ → Bool) (past : List Line) (t o c : ℕ) (e : Entry) (h : List Entry) → LivesOk past t o c e → KeptIn out lost c e
    → KeptFor out lost h → KeptFor out lost (e ∷ h)
kept_lives out lost past t o c (Heard r a) h ok k rest = (k, rest)
kept_lives out lost past t o c (Hold l s sn) h ok k rest = (k, rest)
kept_lives out lost past t o c (Drop l) h ok k rest = rest
kept_lives out lost past t o c (Takes d j ch) h ok k rest = rest
kept_lives out lost past t o c _ h ok k rest = absurd ok

kept_serve : (out lost : ℕ → Bool) (past : List Line) (t o : ℕ) (r : Request) (e : Entry) (h : List Entry) → ServedOk past t o r e
    → KeptFor out lost h → KeptFor out lost (e ∷ h)
kept_serve out lost past t o r (Grant q l s sn) h ok rest = rest
kept_serve out lost past t o r (Wait q l) h ok rest = rest
kept_serve out lost past t o r (Acts q a) h ok rest = rest
kept_serve out lost past t o r (Txn n q) h ok rest = rest
kept_serve out lost past t o r _ h ok rest = absurd ok

kept_works : (out lost : ℕ → Bool) (past : List Line) (t o : ℕ) (e : Entry) (h : List Entry) → WorksOk past t o e → KeptFor out lost h
    → KeptFor out lost (e ∷ h)
kept_works out lost past t o (Promote l) h ok rest = rest
kept_works out lost past t o (Release k) h ok rest = rest
kept_works out lost past t o _ h ok rest = absurd ok

kept_told : (out lost : ℕ → Bool) (c : ℕ) (h : List Entry) (v : Bool) (d : Option Call) → KeptFor out lost h
    → KeptFor out lost (put (if v then told c d else None) h)
kept_told out lost c h false d k = k
kept_told out lost c h true None k = k
kept_told out lost c h true (Some call) k = k

kept_sent : (out lost : ℕ → Bool) (t o : ℕ) (past : List Line) (m : Message) (h : List Entry) (v : Bool) → KeptFor out lost h
    → KeptFor out lost (put (if v then sent t o past m else None) h)
kept_sent out lost t o past m h false k = k
kept_sent out lost t o past (Ask b g q r) h true k = keep_at (λ j. KeptFor out lost j) (nat_eq o q && live t r.life past) (Sends (Asks b r))
    h (λ v. k) (λ v. k)
kept_sent out lost t o past (Reply b c x a) h true k = keep_at (λ j. KeptFor out lost j) (is_at (place t c x past) o)
    (Sends (Replies b c x a)) h (λ v. k) (λ v. k)
kept_sent out lost t o past (Give b l s sn) h true k = keep_at (λ j. KeptFor out lost j) (is_object (object_of t l.cookie past) o)
    (Sends (Gives b l s sn)) h (λ v. k) (λ v. k)
kept_sent out lost t o past (Block b c j) h true k = keep_at (λ i. KeptFor out lost i) (is_object (object_of t j past) o)
    (Sends (Blocks b c j)) h (λ v. k) (λ v. k)
kept_sent out lost t o past (Cancel b c j) h true k = keep_at (λ i. KeptFor out lost i) (is_object (object_of t j past) o && live t c past)
    (Sends (Cancels b c j)) h (λ v. k) (λ v. k)
kept_sent out lost t o past (Join b c) h true k = k
kept_sent out lost t o past (Ready b c) h true k = k

pub kept_only : (t o : ℕ) (out lost : ℕ → Bool) (past : List Line) → AllOk past → Kept t out lost past → KeptFor out lost (only t o past)
kept_only t o out lost [] all k = tt
kept_only t o out lost (Knows u d b ∷ past) all k = let r = kept_only t o out lost past all.1 k
    in keep_at (λ h. KeptFor out lost h) (nat_eq t u && live t d past) (Forgets d) (only t o past) (λ v. r) (λ v. r)
kept_only t o out lost (Serves u d b ∷ past) all k = kept_only t o out lost past all.1 k
kept_only t o out lost (Flies u q g r ∷ past) all k = let x = kept_only t o out lost past all.1 k
    in keep_at (λ h. KeptFor out lost h) (nat_eq t u && nat_eq o q && live t r.life past) (Flew r) (only t o past) (λ v. x) (λ v. x)
kept_only t o out lost (Lives u q d e ∷ past) all k =
    let x = kept_only t o out lost past all.1 k.1 in
    keep_at (λ h. KeptFor out lost h) (nat_eq t u && nat_eq o q && live t d past) e (only t o past)
    (λ v. let p = here_three t u o q (live t d past) v in kept_lives out lost past u q d e (only t o past)
    (all.0.1 (subst (λ (j : ℕ). live j d past ≡ true) p.0 p.2)) (k.0 p.0) x)
    (λ v. x)
kept_only t o out lost (Tells c does ∷ past) all k = kept_told out lost c (only t o past) (live t c past) (does t o)
    (kept_only t o out lost past all.1 k)
kept_only t o out lost (Over c ∷ past) all k = kept_only t o out lost past all.1 k
kept_only t o out lost (Joins u d ∷ past) all k = kept_only t o out lost past all.1 k
kept_only t o out lost (Queue u q g r ∷ past) all k = kept_only t o out lost past all.1 k
kept_only t o out lost (Serve u q g r e ∷ past) all k = let x = kept_only t o out lost past all.1 k
    in keep_at (λ h. KeptFor out lost h) (nat_eq t u && nat_eq o q) e (only t o past)
    (λ v. kept_serve out lost past u q r e (only t o past) all.0.1 x) (λ v. x)
kept_only t o out lost (Works u q e ∷ past) all k = let x = kept_only t o out lost past all.1 k
    in keep_at (λ h. KeptFor out lost h) (nat_eq t u && nat_eq o q) e (only t o past)
    (λ v. kept_works out lost past u q e (only t o past) all.0 x) (λ v. x)
kept_only t o out lost (Evict u d ∷ past) all k = let x = kept_only t o out lost past all.1 k
    in keep_at (λ h. KeptFor out lost h) (nat_eq t u) (Evicted d) (only t o past) (λ v. x) (λ v. x)
kept_only t o out lost (Commit u n ∷ past) all k = let x = kept_only t o out lost past all.1 k.1
    in keep_at (λ h. KeptFor out lost h) (nat_eq t u) (Committed n) (only t o past) (λ v. (k.0 (eqb-true t u v), x)) (λ v. x)
kept_only t o out lost (Crash u ∷ past) all k = kept_only t o out lost past all.1 k
kept_only t o out lost (Boot u b ∷ past) all k = kept_only t o out lost past all.1 k
kept_only t o out lost (Close u l gone ∷ past) all k =
    let x = kept_only t o out (if nat_eq t u then also lost l else lost) past all.1 k in
    keep_at (λ h. KeptFor out lost h) (nat_eq t u) (Closed (boot t past) l gone) (only t o past)
    (λ v. subst (λ (b : Bool). KeptFor out (if b then also lost l else lost) (only t o past)) v x)
    (λ v. subst (λ (b : Bool). KeptFor out (if b then also lost l else lost) (only t o past)) v x)
kept_only t o out lost (Send u m ∷ past) all k = kept_sent out lost t o past m (only t o past) (nat_eq t u)
    (kept_only t o out lost past all.1 k)

-- ---- each line's guard is that of its story

-- what a life that isn't evicted knows, where a message has that boot
boot_known : (t o c : ℕ) (past : List Line) → Base t past → Tied t o past (only t o past) → evicted t c past ≡ false
    → (knows t c past ≤ closed t past) × (joined t c past ≡ true) → knows t c past ≡ closed_in (only t o past)
boot_known t o c past bs w v p = let a = p.0 in let b = bs.known c p.1 v in let d = w.boots in omega arith

serving_boot : (t o : ℕ) (past : List Line) → Base t past → Tied t o past (only t o past) → serving t past ≡ true → boot t past
    ≡ closed_in (only t o past)
serving_boot t o past bs w s = bs.now s ∙ sym w.boots

some_tag : (o a b : ℕ) → Some (at o a) ≡ Some (at o b) → a ≡ b
some_tag o a b e = ap (λ (x : Option Place). tag_of x) e
  where
    tag_of : Option Place → ℕ
    tag_of None = a
    tag_of (Some p) = p.tag

-- what is above its slot isn't answered
above_slot : (t o g : ℕ) (r : Request) (past : List Line) → Base t past → Tied t o past (only t o past) → FreshAt past t o g r
    → (a : Answer) → Answered (only t o past) r.life r.xid a → ⊥
above_slot t o g r past bs w f a i =
    let p = w.answered r.life r.xid a i in
    let q = bs.placed (boot t past) g o r f.sent in
    let same : p.0 ≡ g = some_tag o p.0 g (sym p.1 ∙ q) in
    let low = subst (λ (k : ℕ). r.xid ≤ slot t r.life k past) same p.2 in
    let high = f.above in
    absurd (omega arith)

has_slot : (t o g : ℕ) (r : Request) (past : List Line) → FreshAt past t o g r ⊎ WaitsAt past t o g r → evicted t r.life past ≡ false
has_slot t o g r past (inl f) = f.evicted
has_slot t o g r past (inr f) = f.evicted

unanswered : (t o g : ℕ) (r : Request) (past : List Line) → Base t past → Queues t past → Tied t o past (only t o past)
    → FreshAt past t o g r ⊎ WaitsAt past t o g r → (a : Answer) → Answered (only t o past) r.life r.xid a → ⊥
unanswered t o g r past bs qs w (inl f) = above_slot t o g r past bs w f
unanswered t o g r past bs qs w (inr f) = λ a i. qs.unanswered (flies_at o g r) a f.queued i

fresh : (t o g : ℕ) (r : Request) (past : List Line) → Base t past → Queues t past → Mail t past → Tied t o past (only t o past)
    → FreshAt past t o g r ⊎ WaitsAt past t o g r → Fresh (only t o past) r
fresh t o g r past bs qs ml w f = record {
  was = subst (λ (b : ℕ). Was (only t o past) (Asks b r)) (sym w.boots)
      (ml.asks (closed t past) g o r (served_sent t o g r past bs qs f) (has_slot t o g r past f));
  first = unanswered t o g r past bs qs w f;
}

lives_ok : (t o c : ℕ) (e : Entry) (past : List Line) → Base t past → Mail t past → Tied t o past (only t o past) → live t c past ≡ true
    → LivesOk past t o c e → Allowed (only t o past) e
lives_ok t o c (Heard r a) past bs ml w l ok =
    let v = (live_parts t c past l).0 in
    let f = w.flying c (flies_at o ok.1.0 r) v ok.1.1 refl in
    let p = ml.replies (knows t c past) c r.xid a ok.2 in
    let q = (bs.flown c (flies_at o ok.1.0 r) ok.1.1).0 in
    let same : p.0 ≡ o = same_place p.0 p.1 o ok.1.0 (sym p.2 ∙ q) in
    let b = boot_known t o c past bs w v (bs.replies (knows t c past) c r.xid a ok.2) in (
      ap (λ (d : ℕ). flight d (only t o past)) ok.0 ∙ f,
      subst (λ (y : ℕ × ℕ × ℕ). Was (only t y.0 past) (Replies y.1 y.2 r.xid a))
          (λ i. (same i, b i, sym ok.0 i)) p.3,
    )
lives_ok t o c (Hold k s sn) past bs ml w l ok =
    let v = (live_parts t c past l).0 in (
      ap (λ (d : ℕ). awaits d k.cookie (only t o past)) ok.0 ∙ ok.2,
      ⊎_elim
          (λ (i : (x : ℕ) × Sent past t (Reply (knows t c past) c x (Granted k s sn)) × (is_at (place t c x past) o ≡ true)).
          let p = ml.replies (knows t c past) c i.0 (Granted k s sn) i.1 in
          let same : p.0 ≡ o = at_is (place t c i.0 past) o i.2 (at p.0 p.1) p.2 in
          let b = boot_known t o c past bs w v (bs.replies (knows t c past) c i.0 (Granted k s sn) i.1) in
          inl (
            i.0,
            subst (λ (y : ℕ × ℕ × ℕ). Was (only t y.0 past) (Replies y.1 y.2 i.0 (Granted k s sn))) (λ j. (same j, b j, sym ok.0 j))
                p.3,
          ))
          (λ (i : Sent past t (Give (knows t c past) k s sn)).
          let p = ml.gives (knows t c past) k s sn i in
          let g = bs.gives (knows t c past) k s sn i in
          let b = boot_known t o c past bs w v (g.0, subst (λ (d : ℕ). joined t d past ≡ true) ok.0 g.1) in
          let same : p.0 ≡ o = some_object o p.0 (object_of t k.cookie past) ok.1 p.1 in
          inr (subst (λ (y : ℕ × ℕ). Was (only t y.0 past) (Gives y.1 k s sn)) (λ j. (same j, b j)) p.2))
          ok.3,
    )
lives_ok t o c (Drop k) past bs ml w l ok = ok.1
lives_ok t o c (Takes d k ch) past bs ml w l ok = subst (λ (x : ℕ). TakesOk (only t o past) x k ch) (sym ok.0) ok.1
lives_ok t o c _ past bs ml w l ok = absurd ok

flies_ok : (t o g : ℕ) (r : Request) (past : List Line) → Tied t o past (only t o past) → live t r.life past ≡ true → FliesOk past t o g r
    → New (only t o past) r
flies_ok t o g r past w l ok = record {
  idle = idle (flight r.life (only t o past)) refl;
  next =
      (let x = w.asks r.life in let y = ok.next in omega arith);
  op = ok.op l;
}
  where
    idle : (f : Option Request) → flight r.life (only t o past) ≡ f → flight r.life (only t o past) ≡ None
    idle None e = e
    idle (Some k) e = let p = w.flies r.life k (live_parts t r.life past l).0 e in absurd (ok.one (flies_at o p.0 k) p.1 refl)

serve_ok : (t o g : ℕ) (r : Request) (e : Entry) (past : List Line) → Base t past → Queues t past → Mail t past
    → Tied t o past (only t o past)
    → FreshAt past t o g r ⊎ WaitsAt past t o g r → ServedOk past t o r e → Allowed (only t o past) e
serve_ok t o g r (Grant k l s sn) past bs qs ml w f ok = subst (λ (q : Request). GrantOk (only t o past) q l s sn) (sym ok.0)
    (record {
      fresh = fresh t o g r past bs qs ml w f;
      life = ok.1;
      new = (let x = ok.2 in let y = w.tops in omega arith);
      asks = ok.3;
      free = ok.4;
      size = ok.5;
      sees = ok.6;
    })
serve_ok t o g r (Wait k l) past bs qs ml w f ok = subst (λ (q : Request). WaitOk (only t o past) q l) (sym ok.0)
    (record { fresh = fresh t o g r past bs qs ml w f; life = ok.1; new = (let x = ok.2 in let y = w.tops in omega arith); asks = ok.3 })
serve_ok t o g r (Acts k a) past bs qs ml w f ok = subst (λ (q : Request). Fresh (only t o past) q × ActsOk (only t o past) q a) (sym ok.0)
    (fresh t o g r past bs qs ml w f, ok.1)
serve_ok t o g r (Txn n k) past bs qs ml w f ok = subst (λ (q : Request). (j : ℕ) × (ch : Change) × TxnOk (only t o past) n q j ch)
    (sym ok.0) (ok.2.0, ok.2.1, record { number = ok.1; fresh = fresh t o g r past bs qs ml w f; op = ok.2.2; under = ok.2.3 })
serve_ok t o g r _ past bs qs ml w f ok = absurd ok

works_ok : (t o : ℕ) (e : Entry) (past : List Line) → Base t past → Mail t past → Tied t o past (only t o past) → WorksOk past t o e
    → Allowed (only t o past) e
works_ok t o (Promote l) past bs ml w ok = ok
works_ok t o (Release k) past bs ml w ok = ⊎_elim
    (λ (i : (serving t past ≡ true) × ((c : ℕ) × Sent past t (Cancel (boot t past) c k) × (evicted t c past ≡ false))).
    let p = ml.cancels (boot t past) i.1.0 k i.1.1 i.1.2 in
    let same : p.0 ≡ o = some_object o p.0 (object_of t k past) ok.0 p.1 in
    let b = serving_boot t o past bs w i.0 in
    inl (boot t past, i.1.0, subst (λ (q : ℕ). Was (only t q past) (Cancels (boot t past) i.1.0 k)) same p.2, (omega arith)))
    (λ (i : (l : Lock) → IsGranted (only t o past) l → l.cookie ≡ k → evicted t l.life past ≡ true). inr (λ l g e. w.outs l.life ∙ i l g e))
    ok.1
works_ok t o _ past bs ml w ok = absurd ok

close_ok : (t o : ℕ) (lost gone : ℕ → Bool) (past : List Line) → AllOk past → Base t past → Tied t o past (only t o past)
    → ClosesOk past t lost gone → CloseOk (only t o past) (boot t past) lost gone
close_ok t o lost gone past all bs w ok = record {
  newer = (let x = ok.booted in let y = w.boots in omega arith);
  kept = kept_outs (λ c. gone c || evicted t c past) (λ c. gone c || evicted_in c (only t o past)) lost (only t o past)
      (λ c e. ap (λ (b : Bool). gone c || b) (sym (w.outs c)) ∙ e)
      (kept_only t o (λ c. gone c || evicted t c past) lost past all
      (kept_from t (λ c. gone c || evicted t c past) lost past all (λ c e. or_right (gone c) (evicted t c past) e) ok.saw ok.above));
  forgot = λ c k e. forgot c k (ap (λ (b : Bool). gone c || b) (sym (w.outs c)) ∙ e) (awaits c k (only t o past)) refl;
}
  where
    forgot : (c k : ℕ) → (gone c || evicted t c past) ≡ false → (v : Bool) → awaits c k (only t o past) ≡ v → awaits c k (only t o past)
        ≡ false
    forgot c k e false f = f
    forgot c k e true f =
        let p = w.awaited c k (or_false (gone c) (evicted t c past) e) f in
        let a = p.0 in
        let b = ok.known c p.1 e in
        let d = ok.booted in
        absurd (omega arith)

send_ok : (t o : ℕ) (m : Message) (past : List Line) → Base t past → Mail t past → Tied t o past (only t o past) → SentOk past t m
    → AllAllowed (only t o past) → AllAllowed (put (sent t o past m) (only t o past))
send_ok t o (Ask b g q r) past bs ml w ok all = keep_at (λ k. AllAllowed k) (nat_eq o q && live t r.life past) (Sends (Asks b r))
    (only t o past)
    (λ v.
    let p = and_parts (nat_eq o q) (live t r.life past) v in
    let e = (live_parts t r.life past p.1).0 in
    let s = bs.served r.life ok.1 in
    ((w.flying r.life (flies_at q g r) e ok.3 (sym (eqb-true o q p.0)), ok.2 ∙ s.1 e ∙ sym w.boots), all))
    (λ v. all)
send_ok t o (Reply b c x a) past bs ml w ok all = keep_at (λ k. AllAllowed k) (is_at (place t c x past) o) (Sends (Replies b c x a))
    (only t o past)
    (λ v.
    let d = ok.3 in
    let same : d.0 ≡ o = at_is (place t c x past) o v (at d.0 d.1) d.2 in
    ((subst (λ (q : ℕ). Answered (only t q past) c x a) same d.3, ok.1 ∙ serving_boot t o past bs w ok.0), all))
    (λ v. all)
send_ok t o (Give b l s sn) past bs ml w ok all = keep_at (λ k. AllAllowed k) (is_object (object_of t l.cookie past) o)
    (Sends (Gives b l s sn)) (only t o past)
    (λ v.
    let d = ok.3 in
    let same : d.0 ≡ o = object_is (object_of t l.cookie past) o d.0 v d.1 in
    let g = subst (λ (q : ℕ). IsGranted (only t q past) l × IsEnd (only t q past) s × Sees (only t q past) sn (covers l)) same
    (d.2, d.3, d.4) in
    ((g.0, g.1, g.2, ok.1 ∙ serving_boot t o past bs w ok.0), all))
    (λ v. all)
send_ok t o (Block b c k) past bs ml w ok all = keep_at (λ j. AllAllowed j) (is_object (object_of t k past) o) (Sends (Blocks b c k))
    (only t o past)
    (λ v. (subst (λ (q : ℕ). Named (λ l. IsGranted (only t q past) l) c k) (object_is (object_of t k past) o ok.0 v ok.1) ok.2, all))
    (λ v. all)
send_ok t o (Cancel b c k) past bs ml w ok all = keep_at (λ j. AllAllowed j) (is_object (object_of t k past) o && live t c past)
    (Sends (Cancels b c k)) (only t o past)
    (λ v.
    let p = and_parts (is_object (object_of t k past) o) (live t c past) v in
    let d = ok.1 p.1 in
    let same : d.0 ≡ o = object_is (object_of t k past) o d.0 p.0 d.1 in (
      ⊎_elim
          (λ (i : Named (λ l. WasDropped (only t d.0 past) l) c k). inl
          (subst (λ (q : ℕ). Named (λ l. WasDropped (only t q past) l) c k) same i))
          (λ (i : ((e : ℕ) × Sent past t (Block e c k)) × (flights t c past ≡ []) × (awaits c k (only t d.0 past) ≡ false)
          × ((l : Lock) → HeldBy (only t d.0 past) l → l.cookie ≡ k → ⊥)).
          let n = ml.blocks i.0.0 c k i.0.1 in
          let here : n.0 ≡ o = some_object d.0 n.0 (object_of t k past) d.1 n.1 ∙ same in
          inr (
            (i.0.0, subst (λ (q : ℕ). Was (only t q past) (Blocks i.0.0 c k)) here n.2),
            idle c (live_parts t c past p.1).0 i.1 (flight c (only t o past)) refl,
            subst (λ (q : ℕ). awaits c k (only t q past) ≡ false) same i.2,
            subst (λ (q : ℕ). (l : Lock) → HeldBy (only t q past) l → l.cookie ≡ k → ⊥) same i.3,
          ))
          d.2,
      all,
    ))
    (λ v. all)
  where
    idle : (c : ℕ) → evicted t c past ≡ false → flights t c past ≡ [] → (f : Option Request) → flight c (only t o past) ≡ f
        → flight c (only t o past) ≡ None
    idle c v e None f = f
    idle c v e (Some r) f = let p = w.flies c r v f in absurd (subst (λ (fs : List Flight). In (flies_at o p.0 r) fs) e p.1)
send_ok t o (Join b c) past bs ml w ok all = all
send_ok t o (Ready b c) past bs ml w ok all = all

told_ok : (t o c : ℕ) (past : List Line) (v : Bool) (d : Option Call)
    → ((call : Call) → v ≡ true → d ≡ Some call → ToldOk (only t o past) c call)
    → AllAllowed (only t o past) → AllAllowed (put (if v then told c d else None) (only t o past))
told_ok t o c past false d f all = all
told_ok t o c past true None f all = all
told_ok t o c past true (Some call) f all = (f call refl refl, all)

sent_ok : (t o : ℕ) (m : Message) (past : List Line) (v : Bool) → Base t past → Mail t past → Tied t o past (only t o past)
    → (v ≡ true → SentOk past t m) → AllAllowed (only t o past) → AllAllowed (put (if v then sent t o past m else None) (only t o past))
sent_ok t o m past false bs ml w ok all = all
sent_ok t o m past true bs ml w ok all = send_ok t o m past bs ml w (ok refl) all

allowed_line : (t o : ℕ) (past : List Line) (l : Line) → AllOk past → LineOk past l → Base t past → Queues t past → Mail t past
    → Tied t o past (only t o past) → AllAllowed (only t o past) → AllAllowed (only t o (l ∷ past))
allowed_line t o past (Knows u d b) ok' ok bs qs ml w all = keep_at (λ h. AllAllowed h) (nat_eq t u && live t d past) (Forgets d)
    (only t o past) (λ v. (tt, all)) (λ v. all)
allowed_line t o past (Serves u d b) ok' ok bs qs ml w all = all
allowed_line t o past (Flies u q g r) ok' ok bs qs ml w all = keep_at (λ h. AllAllowed h) (nat_eq t u && nat_eq o q && live t r.life past)
    (Flew r) (only t o past)
    (λ v. let p = here_three t u o q (live t r.life past) v in (
      flies_ok t o g r past w p.2
          (subst (λ (y : ℕ × ℕ). FliesOk past y.0 y.1 g r) (λ i. (sym p.0 i, sym p.1 i)) ok),
      all,
    ))
    (λ v. all)
allowed_line t o past (Lives u q d e) ok' ok bs qs ml w all = keep_at (λ h. AllAllowed h) (nat_eq t u && nat_eq o q && live t d past) e
    (only t o past)
    (λ v. let p = here_three t u o q (live t d past) v in (
      lives_ok t o d e past bs ml w p.2
          (subst (λ (y : ℕ × ℕ). live y.0 d past ≡ true → LivesOk past y.0 y.1 d e) (λ i. (sym p.0 i, sym p.1 i)) ok.1 p.2),
      all,
    ))
    (λ v. all)
allowed_line t o past (Tells c does) ok' ok bs qs ml w all = told_ok t o c past (live t c past) (does t o) (λ call e f. ok t o call e f) all
allowed_line t o past (Over c) ok' ok bs qs ml w all = all
allowed_line t o past (Joins u d) ok' ok bs qs ml w all = all
allowed_line t o past (Queue u q g r) ok' ok bs qs ml w all = all
allowed_line t o past (Serve u q g r e) ok' ok bs qs ml w all = keep_at (λ h. AllAllowed h) (nat_eq t u && nat_eq o q) e (only t o past)
    (λ v. let p = here_two t u o q v in let k = subst (λ (y : ℕ × ℕ). (FreshAt past y.0 y.1 g r ⊎ WaitsAt past y.0 y.1 g r)
    × ServedOk past y.0 y.1 r e) (λ i. (sym p.0 i, sym p.1 i)) ok in (serve_ok t o g r e past bs qs ml w k.0 k.1, all))
    (λ v. all)
allowed_line t o past (Works u q e) ok' ok bs qs ml w all = keep_at (λ h. AllAllowed h) (nat_eq t u && nat_eq o q) e (only t o past)
    (λ v. let p = here_two t u o q v in (
      works_ok t o e past bs ml w
          (subst (λ (y : ℕ × ℕ). WorksOk past y.0 y.1 e) (λ i. (sym p.0 i, sym p.1 i)) ok),
      all,
    ))
    (λ v. all)
allowed_line t o past (Evict u d) ok' ok bs qs ml w all = keep_at (λ h. AllAllowed h) (nat_eq t u) (Evicted d) (only t o past)
    (λ v. (tt, all)) (λ v. all)
allowed_line t o past (Commit u n) ok' ok bs qs ml w all = keep_at (λ h. AllAllowed h) (nat_eq t u) (Committed n) (only t o past)
    (λ v. (tt, all)) (λ v. all)
allowed_line t o past (Crash u) ok' ok bs qs ml w all = all
allowed_line t o past (Boot u b) ok' ok bs qs ml w all = all
allowed_line t o past (Close u lost gone) ok' ok bs qs ml w all =
    keep_at (λ h. AllAllowed h) (nat_eq t u) (Closed (boot t past) lost gone) (only t o past)
    (λ v. (close_ok t o lost gone past ok' bs w (subst (λ (k : ℕ). ClosesOk past k lost gone) (sym (eqb-true t u v)) ok), all))
    (λ v. all)
allowed_line t o past (Send u m) ok' ok bs qs ml w all = sent_ok t o m past (nat_eq t u) bs ml w
    (λ v. subst (λ (k : ℕ). SentOk past k m) (sym (eqb-true t u v)) ok) all

-- ---- what waits

answered_put : (e : Option Entry) (h : List Entry) (c x : ℕ) (a : Answer)
    → ((k : Entry) → e ≡ Some k → Answered (k ∷ h) c x a → Answered h c x a) → Answered (put e h) c x a → Answered h c x a
answered_put None h c x a f i = i
answered_put (Some k) h c x a f i = f k refl i

-- an entry that answers nothing
answered_plain : (t o : ℕ) (past : List Line) (c x : ℕ) (a : Answer) (v : Bool) (e : Entry)
    → (Answered (e ∷ only t o past) c x a → Answered (only t o past) c x a) → Answered (put (keep v e) (only t o past)) c x a
    → Answered (only t o past) c x a
answered_plain t o past c x a true e f i = f i
answered_plain t o past c x a false e f i = i

answered_told : (h : List Entry) (d c x : ℕ) (a : Answer) (v : Bool) (k : Option Call)
    → Answered (put (if v then told d k else None) h) c x a → Answered h c x a
answered_told h d c x a false k i = i
answered_told h d c x a true None i = i
answered_told h d c x a true (Some call) i = i

answered_sent : (t o : ℕ) (past : List Line) (m : Message) (h : List Entry) (v : Bool) (c x : ℕ) (a : Answer)
    → Answered (put (if v then sent t o past m else None) h) c x a → Answered h c x a
answered_sent t o past m h false c x a i = i
answered_sent t o past (Ask b g q r) h true c x a i = keep_at (λ k. Answered k c x a → Answered h c x a) (nat_eq o q && live t r.life past)
    (Sends (Asks b r)) h (λ v j. j) (λ v j. j) i
answered_sent t o past (Reply b d y z) h true c x a i = keep_at (λ k. Answered k c x a → Answered h c x a) (is_at (place t d y past) o)
    (Sends (Replies b d y z)) h (λ v j. j) (λ v j. j) i
answered_sent t o past (Give b l s sn) h true c x a i = keep_at (λ k. Answered k c x a → Answered h c x a)
    (is_object (object_of t l.cookie past) o) (Sends (Gives b l s sn)) h (λ v j. j) (λ v j. j) i
answered_sent t o past (Block b d y) h true c x a i = keep_at (λ k. Answered k c x a → Answered h c x a) (is_object (object_of t y past) o)
    (Sends (Blocks b d y)) h (λ v j. j) (λ v j. j) i
answered_sent t o past (Cancel b d y) h true c x a i = keep_at (λ k. Answered k c x a → Answered h c x a)
    (is_object (object_of t y past) o && live t d past) (Sends (Cancels b d y)) h (λ v j. j) (λ v j. j) i
answered_sent t o past (Join b d) h true c x a i = i
answered_sent t o past (Ready b d) h true c x a i = i

answered_lives : (past : List Line) (t o d : ℕ) (e : Entry) (h : List Entry) (c x : ℕ) (a : Answer) → LivesOk past t o d e
    → Answered (e ∷ h) c x a → Answered h c x a
answered_lives past t o d (Heard r b) h c x a ok i = i
answered_lives past t o d (Hold l s sn) h c x a ok i = i
answered_lives past t o d (Drop l) h c x a ok i = i
answered_lives past t o d (Takes e k ch) h c x a ok i = i
answered_lives past t o d _ h c x a ok i = absurd ok

answered_works : (past : List Line) (t o : ℕ) (e : Entry) (h : List Entry) (c x : ℕ) (a : Answer) → WorksOk past t o e
    → Answered (e ∷ h) c x a → Answered h c x a
answered_works past t o (Promote l) h c x a ok i = i
answered_works past t o (Release k) h c x a ok i = i
answered_works past t o _ h c x a ok i = absurd ok

-- what is served is answered, and no other
answered_serve : (past : List Line) (t o : ℕ) (r : Request) (e : Entry) (h : List Entry) (c x : ℕ) (a : Answer) → ServedOk past t o r e
    → Answered (e ∷ h) c x a → ((r.life ≡ c) × (r.xid ≡ x)) ⊎ Answered h c x a
answered_serve past t o r (Grant q l s sn) h c x a ok i = ⊎_elim
    (λ (p : (q.life ≡ c) × (q.xid ≡ x) × (Granted l s sn ≡ a)). inl
    (ap (λ (y : Request). y.life) (sym ok.0) ∙ p.0, ap (λ (y : Request). y.xid) (sym ok.0) ∙ p.1)) (λ (p : Answered h c x a). inr p) i
answered_serve past t o r (Wait q l) h c x a ok i = ⊎_elim (λ (p : (q.life ≡ c) × (q.xid ≡ x) × (Waiting l.cookie ≡ a)). inl
    (ap (λ (y : Request). y.life) (sym ok.0) ∙ p.0, ap (λ (y : Request). y.xid) (sym ok.0) ∙ p.1)) (λ (p : Answered h c x a). inr p) i
answered_serve past t o r (Acts q b) h c x a ok i = ⊎_elim (λ (p : (q.life ≡ c) × (q.xid ≡ x) × (b ≡ a)). inl
    (ap (λ (y : Request). y.life) (sym ok.0) ∙ p.0, ap (λ (y : Request). y.xid) (sym ok.0) ∙ p.1)) (λ (p : Answered h c x a). inr p) i
answered_serve past t o r (Txn n q) h c x a ok i = ⊎_elim (λ (p : (q.life ≡ c) × (q.xid ≡ x) × (Done n ≡ a)). inl
    (ap (λ (y : Request). y.life) (sym ok.0) ∙ p.0, ap (λ (y : Request). y.xid) (sym ok.0) ∙ p.1)) (λ (p : Answered h c x a). inr p) i
answered_serve past t o r _ h c x a ok i = absurd ok

queues_line : (t : ℕ) (past : List Line) (l : Line) → LineOk past l → Base t past → ((o : ℕ) → Tied t o past (only t o past))
    → Queues t past → Queues t (l ∷ past)
queues_line t past (Queue u q g r) ok bs tie w = record {
  sent = λ k i. ⊎_elim (λ (p : (t ≡ u) × (flies_at q g r ≡ k)). subst
      (λ (y : Flight). Sent past t (Ask (closed t past) y.tag y.object y.request)) p.1
      (subst (λ (b : ℕ). Sent past t (Ask b g q r)) (bs.now (mine p.0).serving) (mine p.0).sent)) (w.sent k) i;
  unanswered = λ k a i j. ⊎_elim (λ (p : (t ≡ u) × (flies_at q g r ≡ k)). subst
      (λ (y : Flight). Answered (only t y.object past) y.request.life y.request.xid a → ⊥) p.1
      (above_slot t q g r past bs (tie q) (mine p.0) a) j) (λ (p : Queued t past k). w.unanswered k a p j) i;
}
  where
    mine : t ≡ u → FreshAt past t q g r
    mine e = subst (λ (k : ℕ). FreshAt past k q g r) (sym e) ok
queues_line t past (Serve u q g r e) ok bs tie w = record {
  sent = λ k i. w.sent k i.1;
  unanswered = λ k a i j. w.unanswered k a i.1 (less k a i.0 (nat_eq t u && nat_eq k.object q) refl j);
}
  where
    less : (k : Flight) (a : Answer) → (t ≡ u → r.life ≡ k.request.life → r.xid ≡ k.request.xid → ⊥) → (v : Bool)
        → (nat_eq t u && nat_eq k.object q) ≡ v → Answered (put (keep v e) (only t k.object past)) k.request.life k.request.xid a
        → Answered (only t k.object past) k.request.life k.request.xid a
    less k a ne false f j = j
    less k a ne true f j = ⊎_elim (λ (p : (r.life ≡ k.request.life) × (r.xid ≡ k.request.xid)). absurd
        (ne (eqb-true t u (and_parts (nat_eq t u) (nat_eq k.object q) f).0) p.0 p.1))
        (λ (p : Answered (only t k.object past) k.request.life k.request.xid a). p)
        (answered_serve past u q r e (only t k.object past) k.request.life k.request.xid a ok.1 j)
queues_line t past (Close u lost gone) ok bs tie w = record {
  sent = λ k i. when (λ (b : ℕ). Sent past t (Ask b k.tag k.object k.request)) (nat_eq t u) (boot t past) (closed t past)
      (λ e. absurd (i.0 (eqb-true t u e))) (λ e. w.sent k i.1);
  unanswered = λ k a i j. w.unanswered k a i.1 (less k a i.0 (nat_eq t u) refl j);
}
  where
    less : (k : Flight) (a : Answer) → (t ≡ u → ⊥) → (v : Bool) → nat_eq t u ≡ v
        → Answered (put (keep v (Closed (boot t past) lost gone)) (only t k.object past)) k.request.life k.request.xid a
        → Answered (only t k.object past) k.request.life k.request.xid a
    less k a ne false f j = j
    less k a ne true f j = absurd (ne (eqb-true t u f))
queues_line t past (Evict u d) ok bs tie w = record {
  sent = λ k i. w.sent k i.1;
  unanswered = λ k a i j. w.unanswered k a i.1 (answered_plain t k.object past k.request.life k.request.xid a (nat_eq t u) (Evicted d)
      (λ x. x) j);
}
queues_line t past (Knows u d b) ok bs tie w = record {
  sent = w.sent;
  unanswered =
      λ k a i j. w.unanswered k a i (answered_plain t k.object past k.request.life k.request.xid a (nat_eq t u && live t d past) (Forgets d)
      (λ x. x) j);
}
queues_line t past (Flies u q g r) ok bs tie w = record {
  sent = w.sent;
  unanswered =
      λ k a i j. w.unanswered k a i (answered_plain t k.object past k.request.life k.request.xid a
      (nat_eq t u && nat_eq k.object q && live t r.life past) (Flew r) (λ x. x) j);
}
queues_line t past (Lives u q d e) ok bs tie w = record {
  sent = w.sent;
  unanswered =
      λ k a i j. w.unanswered k a i (less k a (nat_eq t u && nat_eq k.object q && live t d past) refl j);
}
  where
    less : (k : Flight) (a : Answer) (v : Bool) → (nat_eq t u && nat_eq k.object q && live t d past) ≡ v
        → Answered (put (keep v e) (only t k.object past)) k.request.life k.request.xid a
        → Answered (only t k.object past) k.request.life k.request.xid a
    less k a false f j = j
    less k a true f j = let p = here_three t u k.object q (live t d past) f
        in answered_lives past u q d e (only t k.object past) k.request.life k.request.xid a
        (ok.1 (subst (λ (y : ℕ). live y d past ≡ true) p.0 p.2)) j
queues_line t past (Works u q e) ok bs tie w = record {
  sent = w.sent;
  unanswered =
      λ k a i j. w.unanswered k a i (answered_plain t k.object past k.request.life k.request.xid a (nat_eq t u && nat_eq k.object q) e
      (answered_works past u q e (only t k.object past) k.request.life k.request.xid a ok) j);
}
queues_line t past (Tells c does) ok bs tie w = record {
  sent = w.sent;
  unanswered =
      λ k a i j. w.unanswered k a i (answered_told (only t k.object past) c k.request.life k.request.xid a (live t c past) (does t k.object)
      j);
}
queues_line t past (Commit u n) ok bs tie w = record {
  sent = w.sent;
  unanswered =
      λ k a i j. w.unanswered k a i (answered_plain t k.object past k.request.life k.request.xid a (nat_eq t u) (Committed n) (λ x. x) j);
}
queues_line t past (Send u m) ok bs tie w = record {
  sent = λ k i. inr (w.sent k i);
  unanswered =
      λ k a i j. w.unanswered k a i (answered_sent t k.object past m (only t k.object past) (nat_eq t u) k.request.life k.request.xid a j);
}
queues_line t past (Serves u d b) ok bs tie w = w
queues_line t past (Over c) ok bs tie w = w
queues_line t past (Joins u d) ok bs tie w = w
queues_line t past (Crash u) ok bs tie w = w
queues_line t past (Boot u b) ok bs tie w = w

-- ---- all lines

-- all that every allowed past has of target t, and of each of its objects
pub record Whole (t : ℕ) (past : List Line) : Type 0 where
  pub base : Base t past
  pub mail : Mail t past
  pub queues : Queues t past
  pub tied : (o : ℕ) → Tied t o past (only t o past)
  pub allowed : (o : ℕ) → AllAllowed (only t o past)

no_tie : (t o : ℕ) → Tied t o [] []
no_tie t o = record {
  boots = refl;
  outs = λ c. refl;
  asks = λ c. omega arith;
  tops = omega arith;
  answered = λ c x a i. absurd i;
  dones = λ c x n lost i e. absurd i;
  cookies = λ l i. absurd i;
  waits = λ l i. absurd i;
  awaited = λ c k e i. absurd (cc);
  flying = λ c f e i s. absurd i;
  flies = λ c r e i. absurd (cc);
}

pub whole : (t : ℕ) (past : List Line) → AllOk past → Whole t past
whole t [] all = record {
  base = no_base t;
  mail = no_mail t;
  queues = record { sent = λ k i. absurd i; unanswered = λ k a i j. absurd i };
  tied = λ o. no_tie t o;
  allowed = λ o. tt;
}
whole t (l ∷ past) all =
    let w = whole t past all.1 in
    let ok = all.0 in
    record {
      base = base_line t past l ok w.base;
      mail = mail_line t past l ok w.base w.mail;
      queues = queues_line t past l ok w.base w.tied w.queues;
      tied = λ o. tied_line t o past l ok w.base w.queues (w.tied o);
      allowed = λ o. allowed_line t o past l all.1 ok w.base w.queues w.mail (w.tied o) (w.allowed o);
    }

pub projection : (past : List Line) → AllOk past → (t o : ℕ) → AllAllowed (only t o past)
projection past all t o = (whole t past all).allowed o
