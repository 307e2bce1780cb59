-- The origin of each put, at positions of the file.
use Rattle.std.proofs.Common.{◌≡◌, ℕ, suc, ◌+◌, ◌-◌, ◌⊎◌, inl, inr, ⊎_elim, List, [], ◌∷◌, length, Option, Some, None, Bool, true, false}
use Rattle.std.proofs.Common.{refl, sym, ap, ◌∙◌, subst, arith}
use Rattle.std.specs.Prelude.{nat_eq, nat_lt, if◌then◌else◌, ◌&&◌}
use Rattle.std.proofs.lemmas.Bool.{eqb-true, eq-eqb, and_parts}
use Rattle.lu_proof_bytes.specs.Object.Words.{Change, Write, Cut, Flush, Request, Call, Entry, Takes, Flies as Flew, Heard, Hold, Drop}
use Rattle.lu_proof_bytes.specs.Object.Words.{Forgets, Tells as Told, Grant, Wait, Promote, Acts, Txn, Release, Evict as Evicted}
use Rattle.lu_proof_bytes.specs.Object.Words.{Commit as Committed, Close as Closed, Send as Sends, Ask as Asks, Reply as Replies}
use Rattle.lu_proof_bytes.specs.Object.Words.{Give as Gives, Block as Blocks, Cancel as Cancels, overlay}
use Rattle.lu_proof_bytes.specs.Object.History.{ToldWrite, ToldCut, Origin, OriginOf, Puts}
use Rattle.lu_proof_bytes.proofs.Object.Spot.{run_some, run_bounds}
use Rattle.lu_proof_bytes.specs.Objects.Words.{Message, Ask, Reply, Give, Block, Cancel, Join, Ready, Line, Knows, Serves, Flies, Lives}
use Rattle.lu_proof_bytes.specs.Objects.Words.{Tells, Over, Joins, Queue, Serve, Works, Evict, Commit, Crash, Boot, Close, Send}
use Rattle.lu_proof_bytes.specs.Objects.Folds.{boot, evicted, object_of, place}
use Rattle.lu_proof_bytes.specs.Objects.Only.{live, keep, told, is_at, is_object, sent, step, put}
use Rattle.lu_proof_bytes.specs.Objects.Guards.{ServedOk, WorksOk, LivesOk, LineOk}
use Rattle.lu_proof_bytes.proofs.Objects.Tied.{live_parts}
use Rattle.lu_proof_bytes.proofs.Objects.Only.{whole}
use Rattle.lu_proof_bytes.proofs.Objects.Laws.{whole_puts}
use Rattle.lu_proof_bytes.specs.Files.Layouts.{Layout}
use Rattle.lu_proof_bytes.specs.Files.File.{Places, run, written, part, did, does_at, does, Step, Own, Changes, Reads, Stats, lines, story}
use Rattle.lu_proof_bytes.specs.Files.File.{StepsOk}
use Rattle.lu_proof_bytes.specs.Files.Puts.{FileWrite, FileCut, FileOrigin, FileOriginOf, PutAt, FilePuts}
use Rattle.lu_proof_bytes.proofs.Files.File.{lines_ok, run_is, length_run}

-- ---- entries that tell nothing and fly nothing
abbrev Plain : Entry → Type 0
Plain (Flew r) = ⊥
Plain (Told c k) = ⊥
Plain _ = Unit {0}

write_back : (e : Entry) (h : List Entry) (c q b : ℕ) → Plain e → ToldWrite (e ∷ h) c q b → ToldWrite h c q b
write_back (Flew r) h c q b p i = absurd p
write_back (Told d k) h c q b p i = absurd p
write_back (Heard k a) h c q b p i = i
write_back (Hold l s sn) h c q b p i = i
write_back (Drop l) h c q b p i = i
write_back (Takes d k ch) h c q b p i = i
write_back (Forgets d) h c q b p i = i
write_back (Grant k l s sn) h c q b p i = i
write_back (Wait k l) h c q b p i = i
write_back (Promote l) h c q b p i = i
write_back (Acts k a) h c q b p i = i
write_back (Txn n k) h c q b p i = i
write_back (Release k) h c q b p i = i
write_back (Evicted d) h c q b p i = i
write_back (Committed n) h c q b p i = i
write_back (Closed b2 l out') h c q b p i = i
write_back (Sends m) h c q b p i = i

cut_back : (e : Entry) (h : List Entry) (c m : ℕ) → Plain e → ToldCut (e ∷ h) c m → ToldCut h c m
cut_back (Flew r) h c m p i = absurd p
cut_back (Told d k) h c m p i = absurd p
cut_back (Heard k a) h c m p i = i
cut_back (Hold l s sn) h c m p i = i
cut_back (Drop l) h c m p i = i
cut_back (Takes d k ch) h c m p i = i
cut_back (Forgets d) h c m p i = i
cut_back (Grant k l s sn) h c m p i = i
cut_back (Wait k l) h c m p i = i
cut_back (Promote l) h c m p i = i
cut_back (Acts k a) h c m p i = i
cut_back (Txn n k) h c m p i = i
cut_back (Release k) h c m p i = i
cut_back (Evicted d) h c m p i = i
cut_back (Committed n) h c m p i = i
cut_back (Closed b l out') h c m p i = i
cut_back (Sends m2) h c m p i = i

origin_back : (e : Entry) (h : List Entry) (r : Request) (ch : Change) → Plain e → OriginOf (e ∷ h) r ch → OriginOf h r ch
origin_back (Flew q) h r ch p i = absurd p
origin_back (Told d k) h r ch p i = absurd p
origin_back (Heard k a) h r ch p i = i
origin_back (Hold l s sn) h r ch p i = i
origin_back (Drop l) h r ch p i = i
origin_back (Takes c k x) h r ch p i = i
origin_back (Forgets c) h r ch p i = i
origin_back (Grant k l s sn) h r ch p i = i
origin_back (Wait k l) h r ch p i = i
origin_back (Promote l) h r ch p i = i
origin_back (Acts k a) h r ch p i = i
origin_back (Txn n k) h r ch p i = i
origin_back (Release k) h r ch p i = i
origin_back (Evicted c) h r ch p i = i
origin_back (Committed n) h r ch p i = i
origin_back (Closed b l out') h r ch p i = i
origin_back (Sends m) h r ch p i = i

-- ---- which entries a line makes
keep_plain : (v : Bool) (e k : Entry) → (v ≡ true → Plain e) → keep v e ≡ Some k → Plain k
keep_plain true e k p q = let s : e ≡ k = cc in subst Plain s (p refl)
keep_plain false e k p q = absurd (cc)

lives_plain : (past : List Line) (t o c : ℕ) (e : Entry) → LivesOk past t o c e → Plain e
lives_plain past t o c (Heard r a) ok = tt
lives_plain past t o c (Hold l s sn) ok = tt
lives_plain past t o c (Drop l) ok = tt
lives_plain past t o c (Takes d k ch) ok = tt
lives_plain past t o c _ ok = absurd ok

served_plain : (past : List Line) (t o : ℕ) (r : Request) (e : Entry) → ServedOk past t o r e → Plain e
served_plain past t o r (Grant q l s sn) ok = tt
served_plain past t o r (Wait q l) ok = tt
served_plain past t o r (Acts q a) ok = tt
served_plain past t o r (Txn n q) ok = tt
served_plain past t o r _ ok = absurd ok

works_plain : (past : List Line) (t o : ℕ) (e : Entry) → WorksOk past t o e → Plain e
works_plain past t o (Promote l) ok = tt
works_plain past t o (Release k) ok = tt
works_plain past t o _ ok = absurd ok

sent_plain : (t o : ℕ) (past : List Line) (m : Message) (v : Bool) (k : Entry) → (if v then sent t o past m else None) ≡ Some k → Plain k
sent_plain t o past m false k q = absurd (cc)
sent_plain t o past (Ask b g p r) true k q = keep_plain (nat_eq o p && live t r.life past) (Sends (Asks b r)) k (λ v. tt) q
sent_plain t o past (Reply b c x a) true k q = keep_plain (is_at (place t c x past) o) (Sends (Replies b c x a)) k (λ v. tt) q
sent_plain t o past (Give b l s sn) true k q = keep_plain (is_object (object_of t l.cookie past) o) (Sends (Gives b l s sn)) k (λ v. tt) q
sent_plain t o past (Block b c j) true k q = keep_plain (is_object (object_of t j past) o) (Sends (Blocks b c j)) k (λ v. tt) q
sent_plain t o past (Cancel b c j) true k q = keep_plain (is_object (object_of t j past) o && live t c past) (Sends (Cancels b c j)) k
    (λ v. tt) q
sent_plain t o past (Join b c) true k q = absurd (cc)
sent_plain t o past (Ready b c) true k q = absurd (cc)

-- a line that neither tells nor flies
abbrev Quiet : Line → Type 0
Quiet (Flies t o g r) = ⊥
Quiet (Tells c d) = ⊥
Quiet _ = Unit {0}

step_plain : (t o : ℕ) (past : List Line) (l : Line) (k : Entry) → Quiet l → LineOk past l → step t o past l ≡ Some k → Plain k
step_plain t o past (Knows u d b) k n ok q = keep_plain (nat_eq t u && live t d past) (Forgets d) k (λ v. tt) q
step_plain t o past (Serves u d b) k n ok q = absurd (cc)
step_plain t o past (Flies u p g r) k n ok q = absurd n
step_plain t o past (Lives u p d e) k n ok q = keep_plain (nat_eq t u && nat_eq o p && live t d past) e k
    (λ v. let x = and_parts (nat_eq t u && nat_eq o p) (live t d past) v
    in lives_plain past u p d e (ok.1 (subst (λ (j : ℕ). live j d past ≡ true) (eqb-true t u (and_parts (nat_eq t u) (nat_eq o p) x.0).0)
    x.1))) q
step_plain t o past (Tells c d) k n ok q = absurd n
step_plain t o past (Over c) k n ok q = absurd (cc)
step_plain t o past (Joins u d) k n ok q = absurd (cc)
step_plain t o past (Queue u p g r) k n ok q = absurd (cc)
step_plain t o past (Serve u p g r e) k n ok q = keep_plain (nat_eq t u && nat_eq o p) e k (λ v. served_plain past u p r e ok.1) q
step_plain t o past (Works u p e) k n ok q = keep_plain (nat_eq t u && nat_eq o p) e k (λ v. works_plain past u p e ok) q
step_plain t o past (Evict u d) k n ok q = keep_plain (nat_eq t u) (Evicted d) k (λ v. tt) q
step_plain t o past (Commit u m) k n ok q = keep_plain (nat_eq t u) (Committed m) k (λ v. tt) q
step_plain t o past (Crash u) k n ok q = absurd (cc)
step_plain t o past (Boot u b) k n ok q = absurd (cc)
step_plain t o past (Close u lost gone) k n ok q = keep_plain (nat_eq t u) (Closed (boot t past) lost gone) k (λ v. tt) q
step_plain t o past (Send u m) k n ok q = sent_plain t o past m (nat_eq t u) k q

put_back : (P : List Entry → Type 0) (e : Option Entry) (h : List Entry) → ((k : Entry) → e ≡ Some k → P (k ∷ h) → P h) → P (put e h) → P h
put_back P None h f i = i
put_back P (Some k) h f i = f k refl i

-- ---- told in the story, told of the file
told_none : (P : List Entry → Type 0) (c : ℕ) (h : List Entry) (v : Bool) (d : Option Call) → d ≡ None
    → P (put (if v then told c d else None) h) → P h
told_none P c h v d e i = by v (subst (λ (x : Option Call). P (put (if v then told c x else None) h)) e i)
  where
    by : (v : Bool) → P (put (if v then told c None else None) h) → P h
    by true j = j
    by false j = j

-- a byte that a part of a write puts
part_write : (y : Layout) (i at : ℕ) (bs : List ℕ) (q b : ℕ) → overlay (y.below i at) (run y i at bs) q None ≡ Some b → (y.has i q ≡ true)
    × (overlay at bs (y.position i q) None ≡ Some b)
part_write y i at bs q b e =
    let r = run_bounds (y.below i at) (run y i at bs) q (run_some (y.below i at) (run y i at bs) q b e) in
    let r0 = r.0 in
    let r1 = r.1 in
    let len = length_run y i at bs (y.below i at) (y.below i (at + length bs) - y.below i at) in
    let has = y.below_has i (at + length bs) q (omega arith) in
    (has, sym (run_is y i at bs q None has) ∙ e)

write_of : (at : ℕ) (bs : List ℕ) (j c : ℕ) (k : List Entry) (v : Bool) (d q b : ℕ)
    → ToldWrite (put (if v then told c (did j (written at bs)) else None) k) d q b → ((c ≡ d) × (overlay at bs q None ≡ Some b))
    ⊎ ToldWrite k d q b
write_of at bs j c k false d q b i = inr i
write_of at [] j c k true d q b i = inr i
write_of at (x ∷ bs) j c k true d q b i = i

cut_write : (y : Layout) (i n j c : ℕ) (k : List Entry) (v x : Bool) (d q b : ℕ)
    → ToldWrite (put (if v then told c (did j (if x then Some (Cut (y.below i n)) else None)) else None) k) d q b → ToldWrite k d q b
cut_write y i n j c k false x d q b t = t
cut_write y i n j c k true true d q b t = t
cut_write y i n j c k true false d q b t = t

write_cut : (at : ℕ) (bs : List ℕ) (j c : ℕ) (k : List Entry) (v : Bool) (d m : ℕ)
    → ToldCut (put (if v then told c (did j (written at bs)) else None) k) d m → ToldCut k d m
write_cut at bs j c k false d m i = i
write_cut at [] j c k true d m i = i
write_cut at (x ∷ bs) j c k true d m i = i

cut_of : (y : Layout) (i n j c : ℕ) (k : List Entry) (v x : Bool) (d m : ℕ)
    → ToldCut (put (if v then told c (did j (if x then Some (Cut (y.below i n)) else None)) else None) k) d m
    → ((c ≡ d) × (y.below i n ≡ m)) ⊎ ToldCut k d m
cut_of y i n j c k false x d m t = inr t
cut_of y i n j c k true true d m t = t
cut_of y i n j c k true false d m t = inr t

told_origin : (j c : ℕ) (k : List Entry) (v : Bool) (d : Option Change) (r : Request) (ch : Change)
    → OriginOf (put (if v then told c (did j d) else None) k) r ch → OriginOf k r ch
told_origin j c k false d r ch i = i
told_origin j c k true None r ch i = i
told_origin j c k true (Some x) r ch i = i

does_is : (w : Places) (y : Layout) (locks : ℕ → ℕ) (ch : Change) (i : ℕ) → does w y locks ch (w.target i) (w.object i)
    ≡ did (locks i) (part y i ch)
does_is w y locks ch i = ap (λ (o : Option ℕ). does_at y locks ch o) (w.at_is i)

flew_back : (P : List Entry → Type 0) (v : Bool) (r : Request) (h : List Entry) → (P (Flew r ∷ h) → P h) → P (put (keep v (Flew r)) h) → P h
flew_back P true r h f i = f i
flew_back P false r h f i = i

file_write : (w : Places) (h : List Step) (c i q b : ℕ) → StepsOk w h → ToldWrite (story w i h) c q b → FileWrite h c i q b
file_write w [] c i q b ok t = t
file_write w (Reads y d at n vs ∷ h) c i q b ok t = file_write w h c i q b ok.1 t
file_write w (Stats y d z ∷ h) c i q b ok t = file_write w h c i q b ok.1 t
file_write w (Changes y d locks (Write at bs) ∷ h) c i q b ok t = ⊎_elim
    (λ (x : (d ≡ c) × (overlay (y.below i at) (run y i at bs) q None ≡ Some b)). let p = part_write y i at bs q b x.1
    in inl (x.0, p.0, p.1))
    (λ (x : ToldWrite (story w i h) c q b). inr (file_write w h c i q b ok.1 x))
    (write_of (y.below i at) (run y i at bs) (locks i) d (story w i h) (live (w.target i) d (lines w h)) c q b
    (subst (λ (k : Option Call). ToldWrite (put (if live (w.target i) d (lines w h) then told d k else None) (story w i h)) c q b)
    (does_is w y locks (Write at bs) i) t))
file_write w (Changes y d locks (Cut n) ∷ h) c i q b ok t = file_write w h c i q b ok.1
    (cut_write y i n (locks i) d (story w i h) (live (w.target i) d (lines w h)) (nat_lt i y.stripes) c q b
    (subst (λ (k : Option Call). ToldWrite (put (if live (w.target i) d (lines w h) then told d k else None) (story w i h)) c q b)
    (does_is w y locks (Cut n) i) t))
file_write w (Own (Tells d f) ∷ h) c i q b ok t = file_write w h c i q b ok.1
    (told_none (λ k. ToldWrite k c q b) d (story w i h) (live (w.target i) d (lines w h)) (f (w.target i) (w.object i)) (ok.0.1 i) t)
file_write w (Own (Flies u o g r) ∷ h) c i q b ok t = file_write w h c i q b ok.1
    (flew_back (λ k. ToldWrite k c q b) (nat_eq (w.target i) u && nat_eq (w.object i) o && live (w.target i) r.life (lines w h)) r
    (story w i h) (λ x. x) t)
file_write w (Own (Knows u d b2) ∷ h) c i q b ok t = file_write w h c i q b ok.1
    (put_back (λ k. ToldWrite k c q b) (step (w.target i) (w.object i) (lines w h) (Knows u d b2)) (story w i h)
    (λ k x. write_back k (story w i h) c q b (step_plain (w.target i) (w.object i) (lines w h) (Knows u d b2) k tt ok.0.0 x)) t)
file_write w (Own (Serves u d b2) ∷ h) c i q b ok t = file_write w h c i q b ok.1
    (put_back (λ k. ToldWrite k c q b) (step (w.target i) (w.object i) (lines w h) (Serves u d b2)) (story w i h)
    (λ k x. write_back k (story w i h) c q b (step_plain (w.target i) (w.object i) (lines w h) (Serves u d b2) k tt ok.0.0 x)) t)
file_write w (Own (Lives u o d e) ∷ h) c i q b ok t = file_write w h c i q b ok.1
    (put_back (λ k. ToldWrite k c q b) (step (w.target i) (w.object i) (lines w h) (Lives u o d e)) (story w i h)
    (λ k x. write_back k (story w i h) c q b (step_plain (w.target i) (w.object i) (lines w h) (Lives u o d e) k tt ok.0.0 x)) t)
file_write w (Own (Over d) ∷ h) c i q b ok t = file_write w h c i q b ok.1
    (put_back (λ k. ToldWrite k c q b) (step (w.target i) (w.object i) (lines w h) (Over d)) (story w i h)
    (λ k x. write_back k (story w i h) c q b (step_plain (w.target i) (w.object i) (lines w h) (Over d) k tt ok.0.0 x)) t)
file_write w (Own (Joins u d) ∷ h) c i q b ok t = file_write w h c i q b ok.1
    (put_back (λ k. ToldWrite k c q b) (step (w.target i) (w.object i) (lines w h) (Joins u d)) (story w i h)
    (λ k x. write_back k (story w i h) c q b (step_plain (w.target i) (w.object i) (lines w h) (Joins u d) k tt ok.0.0 x)) t)
file_write w (Own (Queue u o g r) ∷ h) c i q b ok t = file_write w h c i q b ok.1
    (put_back (λ k. ToldWrite k c q b) (step (w.target i) (w.object i) (lines w h) (Queue u o g r)) (story w i h)
    (λ k x. write_back k (story w i h) c q b (step_plain (w.target i) (w.object i) (lines w h) (Queue u o g r) k tt ok.0.0 x)) t)
file_write w (Own (Serve u o g r e) ∷ h) c i q b ok t = file_write w h c i q b ok.1
    (put_back (λ k. ToldWrite k c q b) (step (w.target i) (w.object i) (lines w h) (Serve u o g r e)) (story w i h)
    (λ k x. write_back k (story w i h) c q b (step_plain (w.target i) (w.object i) (lines w h) (Serve u o g r e) k tt ok.0.0 x)) t)
file_write w (Own (Works u o e) ∷ h) c i q b ok t = file_write w h c i q b ok.1
    (put_back (λ k. ToldWrite k c q b) (step (w.target i) (w.object i) (lines w h) (Works u o e)) (story w i h)
    (λ k x. write_back k (story w i h) c q b (step_plain (w.target i) (w.object i) (lines w h) (Works u o e) k tt ok.0.0 x)) t)
file_write w (Own (Evict u d) ∷ h) c i q b ok t = file_write w h c i q b ok.1
    (put_back (λ k. ToldWrite k c q b) (step (w.target i) (w.object i) (lines w h) (Evict u d)) (story w i h)
    (λ k x. write_back k (story w i h) c q b (step_plain (w.target i) (w.object i) (lines w h) (Evict u d) k tt ok.0.0 x)) t)
file_write w (Own (Commit u n) ∷ h) c i q b ok t = file_write w h c i q b ok.1
    (put_back (λ k. ToldWrite k c q b) (step (w.target i) (w.object i) (lines w h) (Commit u n)) (story w i h)
    (λ k x. write_back k (story w i h) c q b (step_plain (w.target i) (w.object i) (lines w h) (Commit u n) k tt ok.0.0 x)) t)
file_write w (Own (Crash u) ∷ h) c i q b ok t = file_write w h c i q b ok.1
    (put_back (λ k. ToldWrite k c q b) (step (w.target i) (w.object i) (lines w h) (Crash u)) (story w i h)
    (λ k x. write_back k (story w i h) c q b (step_plain (w.target i) (w.object i) (lines w h) (Crash u) k tt ok.0.0 x)) t)
file_write w (Own (Boot u b2) ∷ h) c i q b ok t = file_write w h c i q b ok.1
    (put_back (λ k. ToldWrite k c q b) (step (w.target i) (w.object i) (lines w h) (Boot u b2)) (story w i h)
    (λ k x. write_back k (story w i h) c q b (step_plain (w.target i) (w.object i) (lines w h) (Boot u b2) k tt ok.0.0 x)) t)
file_write w (Own (Close u l' gone') ∷ h) c i q b ok t = file_write w h c i q b ok.1
    (put_back (λ k. ToldWrite k c q b) (step (w.target i) (w.object i) (lines w h) (Close u l' gone')) (story w i h)
    (λ k x. write_back k (story w i h) c q b (step_plain (w.target i) (w.object i) (lines w h) (Close u l' gone') k tt ok.0.0 x)) t)
file_write w (Own (Send u m2) ∷ h) c i q b ok t = file_write w h c i q b ok.1
    (put_back (λ k. ToldWrite k c q b) (step (w.target i) (w.object i) (lines w h) (Send u m2)) (story w i h)
    (λ k x. write_back k (story w i h) c q b (step_plain (w.target i) (w.object i) (lines w h) (Send u m2) k tt ok.0.0 x)) t)

file_cut : (w : Places) (h : List Step) (c i m : ℕ) → StepsOk w h → ToldCut (story w i h) c m → FileCut h c i m
file_cut w [] c i m ok t = t
file_cut w (Reads y d at n vs ∷ h) c i m ok t = file_cut w h c i m ok.1 t
file_cut w (Stats y d z ∷ h) c i m ok t = file_cut w h c i m ok.1 t
file_cut w (Changes y d locks (Write at bs) ∷ h) c i m ok t = file_cut w h c i m ok.1
    (write_cut (y.below i at) (run y i at bs) (locks i) d (story w i h) (live (w.target i) d (lines w h)) c m
    (subst (λ (k : Option Call). ToldCut (put (if live (w.target i) d (lines w h) then told d k else None) (story w i h)) c m)
    (does_is w y locks (Write at bs) i) t))
file_cut w (Changes y d locks (Cut n) ∷ h) c i m ok t = ⊎_elim
    (λ (x : (d ≡ c) × (y.below i n ≡ m)). inl x)
    (λ (x : ToldCut (story w i h) c m). inr (file_cut w h c i m ok.1 x))
    (cut_of y i n (locks i) d (story w i h) (live (w.target i) d (lines w h)) (nat_lt i y.stripes) c m
    (subst (λ (k : Option Call). ToldCut (put (if live (w.target i) d (lines w h) then told d k else None) (story w i h)) c m)
    (does_is w y locks (Cut n) i) t))
file_cut w (Own (Tells d f) ∷ h) c i m ok t = file_cut w h c i m ok.1
    (told_none (λ k. ToldCut k c m) d (story w i h) (live (w.target i) d (lines w h)) (f (w.target i) (w.object i)) (ok.0.1 i) t)
file_cut w (Own (Flies u o g r) ∷ h) c i m ok t = file_cut w h c i m ok.1
    (flew_back (λ k. ToldCut k c m) (nat_eq (w.target i) u && nat_eq (w.object i) o && live (w.target i) r.life (lines w h)) r (story w i h)
    (λ x. x) t)
file_cut w (Own (Knows u d b2) ∷ h) c i m ok t = file_cut w h c i m ok.1
    (put_back (λ k. ToldCut k c m) (step (w.target i) (w.object i) (lines w h) (Knows u d b2)) (story w i h)
    (λ k x. cut_back k (story w i h) c m (step_plain (w.target i) (w.object i) (lines w h) (Knows u d b2) k tt ok.0.0 x)) t)
file_cut w (Own (Serves u d b2) ∷ h) c i m ok t = file_cut w h c i m ok.1
    (put_back (λ k. ToldCut k c m) (step (w.target i) (w.object i) (lines w h) (Serves u d b2)) (story w i h)
    (λ k x. cut_back k (story w i h) c m (step_plain (w.target i) (w.object i) (lines w h) (Serves u d b2) k tt ok.0.0 x)) t)
file_cut w (Own (Lives u o d e) ∷ h) c i m ok t = file_cut w h c i m ok.1
    (put_back (λ k. ToldCut k c m) (step (w.target i) (w.object i) (lines w h) (Lives u o d e)) (story w i h)
    (λ k x. cut_back k (story w i h) c m (step_plain (w.target i) (w.object i) (lines w h) (Lives u o d e) k tt ok.0.0 x)) t)
file_cut w (Own (Over d) ∷ h) c i m ok t = file_cut w h c i m ok.1
    (put_back (λ k. ToldCut k c m) (step (w.target i) (w.object i) (lines w h) (Over d)) (story w i h)
    (λ k x. cut_back k (story w i h) c m (step_plain (w.target i) (w.object i) (lines w h) (Over d) k tt ok.0.0 x)) t)
file_cut w (Own (Joins u d) ∷ h) c i m ok t = file_cut w h c i m ok.1
    (put_back (λ k. ToldCut k c m) (step (w.target i) (w.object i) (lines w h) (Joins u d)) (story w i h)
    (λ k x. cut_back k (story w i h) c m (step_plain (w.target i) (w.object i) (lines w h) (Joins u d) k tt ok.0.0 x)) t)
file_cut w (Own (Queue u o g r) ∷ h) c i m ok t = file_cut w h c i m ok.1
    (put_back (λ k. ToldCut k c m) (step (w.target i) (w.object i) (lines w h) (Queue u o g r)) (story w i h)
    (λ k x. cut_back k (story w i h) c m (step_plain (w.target i) (w.object i) (lines w h) (Queue u o g r) k tt ok.0.0 x)) t)
file_cut w (Own (Serve u o g r e) ∷ h) c i m ok t = file_cut w h c i m ok.1
    (put_back (λ k. ToldCut k c m) (step (w.target i) (w.object i) (lines w h) (Serve u o g r e)) (story w i h)
    (λ k x. cut_back k (story w i h) c m (step_plain (w.target i) (w.object i) (lines w h) (Serve u o g r e) k tt ok.0.0 x)) t)
file_cut w (Own (Works u o e) ∷ h) c i m ok t = file_cut w h c i m ok.1
    (put_back (λ k. ToldCut k c m) (step (w.target i) (w.object i) (lines w h) (Works u o e)) (story w i h)
    (λ k x. cut_back k (story w i h) c m (step_plain (w.target i) (w.object i) (lines w h) (Works u o e) k tt ok.0.0 x)) t)
file_cut w (Own (Evict u d) ∷ h) c i m ok t = file_cut w h c i m ok.1
    (put_back (λ k. ToldCut k c m) (step (w.target i) (w.object i) (lines w h) (Evict u d)) (story w i h)
    (λ k x. cut_back k (story w i h) c m (step_plain (w.target i) (w.object i) (lines w h) (Evict u d) k tt ok.0.0 x)) t)
file_cut w (Own (Commit u n) ∷ h) c i m ok t = file_cut w h c i m ok.1
    (put_back (λ k. ToldCut k c m) (step (w.target i) (w.object i) (lines w h) (Commit u n)) (story w i h)
    (λ k x. cut_back k (story w i h) c m (step_plain (w.target i) (w.object i) (lines w h) (Commit u n) k tt ok.0.0 x)) t)
file_cut w (Own (Crash u) ∷ h) c i m ok t = file_cut w h c i m ok.1
    (put_back (λ k. ToldCut k c m) (step (w.target i) (w.object i) (lines w h) (Crash u)) (story w i h)
    (λ k x. cut_back k (story w i h) c m (step_plain (w.target i) (w.object i) (lines w h) (Crash u) k tt ok.0.0 x)) t)
file_cut w (Own (Boot u b2) ∷ h) c i m ok t = file_cut w h c i m ok.1
    (put_back (λ k. ToldCut k c m) (step (w.target i) (w.object i) (lines w h) (Boot u b2)) (story w i h)
    (λ k x. cut_back k (story w i h) c m (step_plain (w.target i) (w.object i) (lines w h) (Boot u b2) k tt ok.0.0 x)) t)
file_cut w (Own (Close u l' gone') ∷ h) c i m ok t = file_cut w h c i m ok.1
    (put_back (λ k. ToldCut k c m) (step (w.target i) (w.object i) (lines w h) (Close u l' gone')) (story w i h)
    (λ k x. cut_back k (story w i h) c m (step_plain (w.target i) (w.object i) (lines w h) (Close u l' gone') k tt ok.0.0 x)) t)
file_cut w (Own (Send u m2) ∷ h) c i m ok t = file_cut w h c i m ok.1
    (put_back (λ k. ToldCut k c m) (step (w.target i) (w.object i) (lines w h) (Send u m2)) (story w i h)
    (λ k x. cut_back k (story w i h) c m (step_plain (w.target i) (w.object i) (lines w h) (Send u m2) k tt ok.0.0 x)) t)

file_origin : (w : Places) (h : List Step) (c i : ℕ) (ch : Change) → StepsOk w h → Origin (story w i h) c ch → FileOrigin h c i ch
file_origin w h c i (Write at bs) ok t = λ q b e. ⊎_elim (λ (x : ToldWrite (story w i h) c q b). inl (file_write w h c i q b ok x))
    (λ (x : (b ≡ 0) × ToldCut (story w i h) c (suc q)). inr (x.0, file_cut w h c i (suc q) ok x.1)) (t q b e)
file_origin w h c i (Cut m) ok t = file_cut w h c i m ok t

flies_origin : (w : Places) (h : List Step) (u o g : ℕ) (q : Request) (i : ℕ) (r : Request) (ch : Change) → StepsOk w h → (v : Bool)
    → (nat_eq (w.target i) u && nat_eq (w.object i) o && live (w.target i) q.life (lines w h)) ≡ v
    → (OriginOf (story w i h) r ch → FileOriginOf w h i r ch) → OriginOf (put (keep v (Flew q)) (story w i h)) r ch
    → FileOriginOf w (Own (Flies u o g q) ∷ h) i r ch
flies_origin w h u o g q i r ch ok false e ih t = inr (ih t)
flies_origin w h u o g q i r ch ok true e ih (inr t) = inr (ih t)
flies_origin w h u o g q i r ch ok true e ih (inl t) =
    let al = (and_parts (nat_eq (w.target i) u && nat_eq (w.object i) o) (live (w.target i) q.life (lines w h)) e).1 in
    let v = (live_parts (w.target i) q.life (lines w h) al).0 in
    inl (
      t.0,
      (λ b k x. t.1 b ((whole (w.target i) (lines w h) (lines_ok w h ok)).mail.asks b k (w.object i) r x
          (subst (λ (j : Request). evicted (w.target i) j.life (lines w h) ≡ false) t.0 v))),
      file_origin w h r.life i ch ok t.2,
    )

file_origin_of : (w : Places) (h : List Step) (i : ℕ) (r : Request) (ch : Change) → StepsOk w h → OriginOf (story w i h) r ch
    → FileOriginOf w h i r ch
file_origin_of w [] i r ch ok t = t
file_origin_of w (Reads y d at n vs ∷ h) i r ch ok t = file_origin_of w h i r ch ok.1 t
file_origin_of w (Stats y d z ∷ h) i r ch ok t = file_origin_of w h i r ch ok.1 t
file_origin_of w (Changes y d locks x ∷ h) i r ch ok t = file_origin_of w h i r ch ok.1
    (told_origin (locks i) d (story w i h) (live (w.target i) d (lines w h)) (part y i x) r ch
    (subst (λ (k : Option Call). OriginOf (put (if live (w.target i) d (lines w h) then told d k else None) (story w i h)) r ch)
    (does_is w y locks x i) t))
file_origin_of w (Own (Tells d f) ∷ h) i r ch ok t = file_origin_of w h i r ch ok.1
    (told_none (λ k. OriginOf k r ch) d (story w i h) (live (w.target i) d (lines w h)) (f (w.target i) (w.object i)) (ok.0.1 i) t)
file_origin_of w (Own (Flies u o g q) ∷ h) i r ch ok t = flies_origin w h u o g q i r ch ok.1
    (nat_eq (w.target i) u && nat_eq (w.object i) o && live (w.target i) q.life (lines w h)) refl (λ x. file_origin_of w h i r ch ok.1 x) t
file_origin_of w (Own (Knows u d b2) ∷ h) i r ch ok t = file_origin_of w h i r ch ok.1
    (put_back (λ k. OriginOf k r ch) (step (w.target i) (w.object i) (lines w h) (Knows u d b2)) (story w i h)
    (λ k x. origin_back k (story w i h) r ch (step_plain (w.target i) (w.object i) (lines w h) (Knows u d b2) k tt ok.0.0 x)) t)
file_origin_of w (Own (Serves u d b2) ∷ h) i r ch ok t = file_origin_of w h i r ch ok.1
    (put_back (λ k. OriginOf k r ch) (step (w.target i) (w.object i) (lines w h) (Serves u d b2)) (story w i h)
    (λ k x. origin_back k (story w i h) r ch (step_plain (w.target i) (w.object i) (lines w h) (Serves u d b2) k tt ok.0.0 x)) t)
file_origin_of w (Own (Lives u o d e) ∷ h) i r ch ok t = file_origin_of w h i r ch ok.1
    (put_back (λ k. OriginOf k r ch) (step (w.target i) (w.object i) (lines w h) (Lives u o d e)) (story w i h)
    (λ k x. origin_back k (story w i h) r ch (step_plain (w.target i) (w.object i) (lines w h) (Lives u o d e) k tt ok.0.0 x)) t)
file_origin_of w (Own (Over d) ∷ h) i r ch ok t = file_origin_of w h i r ch ok.1
    (put_back (λ k. OriginOf k r ch) (step (w.target i) (w.object i) (lines w h) (Over d)) (story w i h)
    (λ k x. origin_back k (story w i h) r ch (step_plain (w.target i) (w.object i) (lines w h) (Over d) k tt ok.0.0 x)) t)
file_origin_of w (Own (Joins u d) ∷ h) i r ch ok t = file_origin_of w h i r ch ok.1
    (put_back (λ k. OriginOf k r ch) (step (w.target i) (w.object i) (lines w h) (Joins u d)) (story w i h)
    (λ k x. origin_back k (story w i h) r ch (step_plain (w.target i) (w.object i) (lines w h) (Joins u d) k tt ok.0.0 x)) t)
file_origin_of w (Own (Queue u o g r2) ∷ h) i r ch ok t = file_origin_of w h i r ch ok.1
    (put_back (λ k. OriginOf k r ch) (step (w.target i) (w.object i) (lines w h) (Queue u o g r2)) (story w i h)
    (λ k x. origin_back k (story w i h) r ch (step_plain (w.target i) (w.object i) (lines w h) (Queue u o g r2) k tt ok.0.0 x)) t)
file_origin_of w (Own (Serve u o g r2 e) ∷ h) i r ch ok t = file_origin_of w h i r ch ok.1
    (put_back (λ k. OriginOf k r ch) (step (w.target i) (w.object i) (lines w h) (Serve u o g r2 e)) (story w i h)
    (λ k x. origin_back k (story w i h) r ch (step_plain (w.target i) (w.object i) (lines w h) (Serve u o g r2 e) k tt ok.0.0 x)) t)
file_origin_of w (Own (Works u o e) ∷ h) i r ch ok t = file_origin_of w h i r ch ok.1
    (put_back (λ k. OriginOf k r ch) (step (w.target i) (w.object i) (lines w h) (Works u o e)) (story w i h)
    (λ k x. origin_back k (story w i h) r ch (step_plain (w.target i) (w.object i) (lines w h) (Works u o e) k tt ok.0.0 x)) t)
file_origin_of w (Own (Evict u d) ∷ h) i r ch ok t = file_origin_of w h i r ch ok.1
    (put_back (λ k. OriginOf k r ch) (step (w.target i) (w.object i) (lines w h) (Evict u d)) (story w i h)
    (λ k x. origin_back k (story w i h) r ch (step_plain (w.target i) (w.object i) (lines w h) (Evict u d) k tt ok.0.0 x)) t)
file_origin_of w (Own (Commit u n) ∷ h) i r ch ok t = file_origin_of w h i r ch ok.1
    (put_back (λ k. OriginOf k r ch) (step (w.target i) (w.object i) (lines w h) (Commit u n)) (story w i h)
    (λ k x. origin_back k (story w i h) r ch (step_plain (w.target i) (w.object i) (lines w h) (Commit u n) k tt ok.0.0 x)) t)
file_origin_of w (Own (Crash u) ∷ h) i r ch ok t = file_origin_of w h i r ch ok.1
    (put_back (λ k. OriginOf k r ch) (step (w.target i) (w.object i) (lines w h) (Crash u)) (story w i h)
    (λ k x. origin_back k (story w i h) r ch (step_plain (w.target i) (w.object i) (lines w h) (Crash u) k tt ok.0.0 x)) t)
file_origin_of w (Own (Boot u b2) ∷ h) i r ch ok t = file_origin_of w h i r ch ok.1
    (put_back (λ k. OriginOf k r ch) (step (w.target i) (w.object i) (lines w h) (Boot u b2)) (story w i h)
    (λ k x. origin_back k (story w i h) r ch (step_plain (w.target i) (w.object i) (lines w h) (Boot u b2) k tt ok.0.0 x)) t)
file_origin_of w (Own (Close u l' gone') ∷ h) i r ch ok t = file_origin_of w h i r ch ok.1
    (put_back (λ k. OriginOf k r ch) (step (w.target i) (w.object i) (lines w h) (Close u l' gone')) (story w i h)
    (λ k x. origin_back k (story w i h) r ch (step_plain (w.target i) (w.object i) (lines w h) (Close u l' gone') k tt ok.0.0 x)) t)
file_origin_of w (Own (Send u m2) ∷ h) i r ch ok t = file_origin_of w h i r ch ok.1
    (put_back (λ k. OriginOf k r ch) (step (w.target i) (w.object i) (lines w h) (Send u m2)) (story w i h)
    (λ k x. origin_back k (story w i h) r ch (step_plain (w.target i) (w.object i) (lines w h) (Send u m2) k tt ok.0.0 x)) t)

-- the transaction is in the story
put_here : (w : Places) (h : List Step) (t o g : ℕ) (r : Request) (n : ℕ) (q : Request) → StepsOk w (Own (Serve t o g r (Txn n q)) ∷ h)
    → (i k : ℕ) (ch : Change) → t ≡ w.target i → o ≡ w.object i → q.op ≡ Flush k ch → OriginOf (story w i h) q ch
put_here w h t o g r n q ok i k ch e f x = by (nat_eq (w.target i) t && nat_eq (w.object i) o)
    (rw (eq-eqb (w.target i) t (sym e), eq-eqb (w.object i) o (sym f)))
    (whole_puts (lines w (Own (Serve t o g r (Txn n q)) ∷ h)) (lines_ok w (Own (Serve t o g r (Txn n q)) ∷ h) ok) (w.target i) (w.object i))
  where
    by : (v : Bool) → v ≡ true → Puts (put (keep v (Txn n q)) (story w i h)) → OriginOf (story w i h) q ch
    by false y p = absurd (cc)
    by true y p = p.0 k ch x

put_at : (w : Places) (h : List Step) (s : Step) → StepsOk w (s ∷ h) → PutAt w h s
put_at w h (Own (Serve t o g r (Txn n q))) ok = λ i k ch e f x. file_origin_of w h i q ch ok.1 (put_here w h t o g r n q ok i k ch e f x)
put_at w h _ ok = tt

pub file_puts : (w : Places) (h : List Step) → StepsOk w h → FilePuts w h
file_puts w [] ok = tt
file_puts w (s ∷ h) ok = (put_at w h s ok, file_puts w h ok.1)
