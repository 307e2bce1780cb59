-- Each line of a turn is allowed over the lines before it.
use Rattle.std.proofs.Common.{◌≡◌, ℕ, ◌⊎◌, inl, inr, List, [], ◌∷◌, Bool, true, false, refl, sym, ap, subst}
use Rattle.std.proofs.lemmas.Bool.{eq-eqb, both_ways}
use Rattle.lu_proof_bytes.specs.Object.Words.{Lock, Op, Request, Granted, Entry, Heard, Drop, Grant, Wait, Promote, Acts, Txn, covers}
use Rattle.lu_proof_bytes.specs.Object.Folds.{Answered, IsGranted, WasDropped, awaits}
use Rattle.lu_proof_bytes.specs.Object.Guards.{Sees, IsEnd}
use Rattle.lu_proof_bytes.specs.Objects.Words.{Line, Lives, Serve, Works}
use Rattle.lu_proof_bytes.specs.Objects.Folds.{boot, serving, closed, joined, over, knows, place}
use Rattle.lu_proof_bytes.specs.Objects.Only.{live, only}
use Rattle.lu_proof_bytes.specs.Objects.Guards.{FreshAt, WaitsAt, ServedOk, AllOk}
use Rattle.lu_proof_bytes.specs.Objects.Rows.{ask_of, LifeSteps, rests, tells, takes, asks, asks_again, drops, TargetSteps, stops, promotes}
use Rattle.lu_proof_bytes.specs.Objects.Rows.{calls_back, frees, answer_of, Row, goes_on, learns, readies, hears, hears_lock, given}
use Rattle.lu_proof_bytes.specs.Objects.Rows.{unknown, joins_in, ends, executes, queues, repeats, cancels, tells_where, joins, readies_life}
use Rattle.lu_proof_bytes.specs.Objects.Rows.{works, evicts, commits, crashes, boots, closes, pushed, starts, past_of, Run}
use Rattle.lu_proof_bytes.proofs.Objects.Tied.{flies_at}
use Rattle.lu_proof_bytes.proofs.Objects.Only.{whole}
use Rattle.lu_proof_bytes.proofs.Objects.TiedStays.{served_sent}
use Rattle.lu_proof_bytes.proofs.Objects.Mail.{is_at_it}

-- the line just made is in its object's story
own_life : (t o c : ℕ) (h : List Line) (e : Entry) → live t c h ≡ true → only t o (Lives t o c e ∷ h) ≡ e ∷ only t o h
own_life t o c h e l = rw (eq-eqb t t refl, eq-eqb o o refl, l)

own_serve : (t o g : ℕ) (r : Request) (h : List Line) (e : Entry) → only t o (Serve t o g r e ∷ h) ≡ e ∷ only t o h
own_serve t o g r h e = rw (eq-eqb t t refl, eq-eqb o o refl)

own_work : (t o : ℕ) (h : List Line) (e : Entry) → only t o (Works t o e ∷ h) ≡ e ∷ only t o h
own_work t o h e = rw (eq-eqb t t refl, eq-eqb o o refl)

life_steps : (c : ℕ) {h ls : List Line} → LifeSteps c h ls → over c h ≡ false → AllOk h → AllOk (pushed ls h)
life_steps c rests v all = all
life_steps c (tells does ok next) v all = life_steps c next v (ok, all)
life_steps c (takes t o k ch ok next) v all = life_steps c next v ((λ f. refl, λ live'. (refl, ok live')), all)
life_steps c (asks t o g x op ok next) v all = life_steps c next v
    ((v, ok.serves, refl, rw (eq-eqb t t refl, eq-eqb c c refl) (inl refl)), (ok, all))
life_steps c (asks_again t o g x op s i next) v all = life_steps c next v ((v, s, refl, i), all)
life_steps c (drops {h = h} t o l e at' ok next) v all = life_steps c next v (
  (
    v,
    λ live'. (
      o,
      at',
      inl (
        l,
        subst (λ (k : List Entry). WasDropped k l) (sym (own_life t o c h (Drop l) live')) (inl refl),
        e,
        refl,
      ),
    ),
  ),
  ((λ f. refl, λ live'. (e, ok live')), all),
)

target_steps : (t : ℕ) {h ls : List Line} → TargetSteps t h ls → AllOk h → AllOk (pushed ls h)
target_steps t stops all = all
target_steps t (promotes {h = h} o l s sn sv j at' ok size sees next) all =
    let gives = subst (λ (k : List Entry). IsGranted k l × IsEnd k s × Sees k sn (covers l)) (sym (own_work t o h (Promote l)))
    (inl refl, size, sees) in
    target_steps t next ((sv, refl, j, (o, at', gives.0, gives.1, gives.2)), (ok, all))
target_steps t (calls_back o c k at' n next) all = target_steps t next ((o, at', n), all)
target_steps t (frees o k at' f next) all = target_steps t next ((at', inr f), all)

-- what is served is answered so
answers : (t o g : ℕ) (r : Request) (h : List Line) (e : Entry) → ServedOk h t o r e
    → Answered (only t o (Serve t o g r e ∷ h)) r.life r.xid (answer_of e)
answers t o g r h (Grant q l s sn) ok = subst (λ (k : List Entry). Answered k r.life r.xid (Granted l s sn))
    (sym (own_serve t o g r h (Grant q l s sn))) (inl (ap (λ (y : Request). y.life) ok.0, ap (λ (y : Request). y.xid) ok.0, refl))
answers t o g r h (Wait q l) ok = subst (λ (k : List Entry). Answered k r.life r.xid (answer_of (Wait q l)))
    (sym (own_serve t o g r h (Wait q l))) (inl (ap (λ (y : Request). y.life) ok.0, ap (λ (y : Request). y.xid) ok.0, refl))
answers t o g r h (Acts q a) ok = subst (λ (k : List Entry). Answered k r.life r.xid a) (sym (own_serve t o g r h (Acts q a)))
    (inl (ap (λ (y : Request). y.life) ok.0, ap (λ (y : Request). y.xid) ok.0, refl))
answers t o g r h (Txn n q) ok = subst (λ (k : List Entry). Answered k r.life r.xid (answer_of (Txn n q)))
    (sym (own_serve t o g r h (Txn n q))) (inl (ap (λ (y : Request). y.life) ok.0, ap (λ (y : Request). y.xid) ok.0, refl))
answers t o g r h _ ok = absurd ok

is_serving : (t o g : ℕ) (r : Request) (h : List Line) → FreshAt h t o g r ⊎ WaitsAt h t o g r → serving t h ≡ true
is_serving t o g r h (inl f) = f.serving
is_serving t o g r h (inr f) = f.serving

is_joined : (t o g : ℕ) (r : Request) (h : List Line) → FreshAt h t o g r ⊎ WaitsAt h t o g r → joined t r.life h ≡ true
is_joined t o g r h (inl f) = f.joined
is_joined t o g r h (inr f) = f.joined

awaits_it : (t o c x : ℕ) (op : Op) (l : Lock) (s : ℕ) (sn : ℕ → Bool) (h : List Line) → live t c h ≡ true
    → awaits c l.cookie (only t o (Lives t o c (Heard (ask_of c x op) (Granted l s sn)) ∷ h)) ≡ true
awaits_it t o c x op l s sn h v = subst (λ (k : List Entry). awaits c l.cookie k ≡ true)
    (sym (own_life t o c h (Heard (ask_of c x op) (Granted l s sn)) v)) (rw (eq-eqb c c refl, eq-eqb l.cookie l.cookie refl))

no_over : (h : List Line) (c : ℕ) → over c h ≡ false → over c h ≡ true → ⊥
no_over h c e f = both_ways (over c h) e f

pub row : {h ls : List Line} → Row h ls → AllOk h → AllOk (pushed ls h)
row (goes_on c ls v next) all = life_steps c next v all
row (learns t c b ls v low next) all = life_steps c next v ((v, low), all)
row (readies t c ls v i next) all = life_steps c next v ((refl, inl i), all)
row {h = h} (hears t o g c x op a ls v i m next) all = life_steps c next v ((λ e. absurd (no_over h c v e), λ l. (refl, (g, i), m)), all)
row {h = h} (hears_lock t o g c x op l s sn ls v i m e at' next) all =
    let w = whole t h all in
    let here = (w.base.flown c (flies_at o g (ask_of c x op)) i).0 in
    life_steps c next v (
      (λ f. refl, λ l'. (e, at', awaits_it t o c x op l s sn h l', inl (x, m, is_at_it (place t c x h) o g here))),
      ((λ f. absurd (no_over h c v f), λ l'. (refl, (g, i), m)), all),
    )
row (given t o c l s sn ls v m e at' aw next) all = life_steps c next v ((λ f. refl, λ l'. (e, at', aw, inr m)), all)
row (unknown t o c k d v m at' fl aw held) all = ((v, λ l'. (o, at', inr ((d, m), fl, aw, held))), all)
row (joins_in t c) all = (refl, all)
row (ends t c e) all = ((t, e), all)
row {h = h} (executes t o g r e ls f ok next) all =
    let w = whole t h all in
    let here = w.base.placed (closed t h) g o r (served_sent t o g r h w.base w.queues f) in
    target_steps t next ((is_serving t o g r h f, refl, is_joined t o g r h f, (o, g, here, answers t o g r h e ok)), ((f, ok), all))
row (queues t o g r f) all = (f, all)
row (repeats t o g c x a s j p i) all = ((s, refl, j, (o, g, p, i)), all)
row (cancels t o c k ls s m v at' next) all = target_steps t next ((at', inl (s, (c, m, v))), all)
row (tells_where t o l s sn sv j at' i size sees) all = ((sv, refl, j, (o, at', i, size, sees)), all)
row (joins t c m) all = (inl m, all)
row (readies_life t c s j) all = ((s, refl, j), all)
row (works t ls next) all = target_steps t next all
row (evicts t c ls next) all = target_steps t next (tt, all)
row (commits t n low) all = (low, all)
row (crashes t) all = (tt, all)
row (boots t b s low) all = ((s, low), all)
row (closes t lost gone ls ok next) all = target_steps t next (ok, all)

boot_starts : (t : ℕ) (ps : List (ℕ × ℕ)) → boot t (starts ps) ≡ 1
boot_starts t [] = refl
boot_starts t (p ∷ ps) = boot_starts t ps

knows_starts : (t c : ℕ) (ps : List (ℕ × ℕ)) → knows t c (starts ps) ≡ 1
knows_starts t c [] = refl
knows_starts t c (p ∷ ps) = knows_starts t c ps

starts_ok : (ps : List (ℕ × ℕ)) → AllOk (starts ps)
starts_ok [] = tt
starts_ok (p ∷ ps) = (
  (sym (knows_starts p.0 p.1 ps), inr (refl, rw (eq-eqb p.0 p.0 refl, eq-eqb p.1 p.1 refl), boot_starts p.0 ps)),
  (inr (boot_starts p.0 ps), starts_ok ps),
)

pub run_ok : (ps : List (ℕ × ℕ)) (turns : List (List Line)) → Run ps turns → AllOk (past_of ps turns)
run_ok ps [] r = starts_ok ps
run_ok ps (turn ∷ earlier) r = row r.0 (run_ok ps earlier r.1)
