-- The plain bytes of the history are the object under the patch of the one who may write there, whoever is to be evicted later.
use Rattle.std.proofs.Common.{◌≡◌, ℕ, suc, zero, ◌<◌, ◌≤◌, ◌⊎◌, inl, inr, ⊎_elim, List, [], ◌∷◌, length, min, ◌-◌, Option, Some, None, Bool}
use Rattle.std.proofs.Common.{true, false, refl, sym, ap, ◌∙◌, subst, arith}
use Rattle.std.specs.Prelude.{nat_eq, nat_lt, if◌then◌else◌, ◌&&◌, not}
use Rattle.std.proofs.lemmas.Bool.{eqb-true, eq-eqb, ne_eqb, both_ways, ltb-true, ltb-false, or_right}
use Rattle.lu_proof_bytes.specs.Object.Words.{Lock, Change, Op, Flush, Request, Answer, Reply, Did, Saw, Entry, Heard, Tells, Txn, Evict}
use Rattle.lu_proof_bytes.specs.Object.Words.{Close, covers, overlay, value, after_at, changes}
use Rattle.lu_proof_bytes.specs.Object.Folds.{is_some, over, Was, closed, evicted, Answered, flight, HeldBy, object, cut_by, dirty_by}
use Rattle.lu_proof_bytes.specs.Object.Folds.{cut_acked, dirty_acked, pending, flying, dirty, touched, known, base}
use Rattle.lu_proof_bytes.specs.Object.History.{Item, Made, Read, Piece, piece_item, history, plain, read_of, size_of}
use Rattle.lu_proof_bytes.specs.Object.Guards.{UnderNumber, TxnOk, HeardOf, KeptFor, EndAt, Wide, Allowed}
use Rattle.lu_proof_bytes.proofs.Object.Numbers.{Numbers, fresh_flies}
use Rattle.lu_proof_bytes.proofs.Object.Locks.{Lockings, held_granted}
use Rattle.lu_proof_bytes.proofs.Object.Spot.{run_some, run_bounds, unchanged, told_over, told_changes, told_touched, told_new}
use Rattle.lu_proof_bytes.proofs.Object.Spot.{untouched_over, acked_over, acked_touched, reads_value, end_none, end_some, over_none}
use Rattle.lu_proof_bytes.proofs.Object.Spot.{over_some}
use Rattle.lu_proof_bytes.proofs.Object.Patches.{Patches, Cover, Running, at_life, flight_hidden, flight_flown}
use Rattle.lu_proof_bytes.proofs.Object.Facts.{Outs, lives, txn_lost, Facts, one_lock, own_txn, running_over, running_touched, txn_object}
use Rattle.lu_proof_bytes.proofs.Object.Ends.{Ends, Bounds, hides, covers_on}

-- no life that stays has a patch that may change the position
abbrev pub Untouched : (ℕ → Bool) → List Entry → ℕ → Type 0
Untouched out h p = (c : ℕ) → out c ≡ false → touched (pending c h) (dirty c h p) p ≡ false

-- what is so of the history: where the patch of a life that stays may change something, the plain byte is the object's under this patch;
-- elsewhere it is the object's
abbrev pub Views : (ℕ → Bool) → (ℕ → Bool) → List Entry → Type 0
Views out lost h = record {
  seen : (c p : ℕ) → out c ≡ false → touched (pending c h) (dirty c h p) p ≡ true
      → plain (history out lost h) p ≡ over (pending c h) (dirty c h p) p (object lost h p);
  rest : (p : ℕ) → Untouched out h p → plain (history out lost h) p ≡ object lost h p;
}

-- two that live, where one holds a lock and the other has changes
one_life : (h : List Entry) (c d p : ℕ) (l : Lock) → Numbers h → Lockings h → Patches h → evicted c h ≡ false → evicted d h ≡ false
    → HeldBy h l → l.life ≡ c → covers l p ≡ true → touched (pending d h) (dirty d h p) p ≡ true → c ≡ d
one_life h c d p l n lk pt vc vd i e cov t =
    let o = pt.cover d p t in
    let same = one_lock h l o.lock p lk (held_granted h l n lk i (ap (λ (k : ℕ). evicted k h) e ∙ vc))
    (held_granted h o.lock n lk o.held (ap (λ (k : ℕ). evicted k h) o.life ∙ vd)) cov o.covered o.mode in
    sym e ∙ ap (λ (m : Lock). m.life) same ∙ o.life

-- under a lock that a life holds the plain byte is the object's under the life's patch
pub covered : (out lost : ℕ → Bool) (h : List Entry) (c p : ℕ) (l : Lock) → Outs out h → Numbers h → Lockings h → Patches h
    → Views out lost h → out c ≡ false → HeldBy h l → l.life ≡ c → covers l p ≡ true
    → plain (history out lost h) p ≡ over (pending c h) (dirty c h p) p (object lost h p)
covered out lost h c p l s n lk pt w o i e cov = by (touched (pending c h) (dirty c h p) p) refl
  where
    by : (v : Bool) → touched (pending c h) (dirty c h p) p ≡ v
        → plain (history out lost h) p ≡ over (pending c h) (dirty c h p) p (object lost h p)
    by true t = w.seen c p o t
    by false t = w.rest p (λ d od. other d od (touched (pending d h) (dirty d h p) p) refl)
        ∙ sym (untouched_over (pending c h) (dirty c h p) p (object lost h p) t)
      where
        other : (d : ℕ) → out d ≡ false → (v : Bool) → touched (pending d h) (dirty d h p) p ≡ v
            → touched (pending d h) (dirty d h p) p ≡ false
        other d od false u = u
        other d od true u =
            let same = one_life h c d p l n lk pt (lives out h c s o) (lives out h d s od) i e cov u in
            absurd (both_ways (touched (pending d h) (dirty d h p) p)
            (subst (λ (k : ℕ). touched (pending k h) (dirty k h p) p ≡ false) same t) u)

-- a life tells a change
pub tells_in : (out lost : ℕ → Bool) (h : List Entry) (d j : ℕ) (ch : Change) → out d ≡ false → (p : ℕ)
    → plain (history out lost (Tells d (Did j ch) ∷ h)) p ≡ after_at ch p (plain (history out lost h) p)
tells_in out lost h d j ch o p = rw o

pub tells_out : (out lost : ℕ → Bool) (h : List Entry) (d j : ℕ) (ch : Change) → out d ≡ true → (p : ℕ)
    → plain (history out lost (Tells d (Did j ch) ∷ h)) p ≡ plain (history out lost h) p
tells_out out lost h d j ch o p = rw o

tells : (out lost : ℕ → Bool) (h : List Entry) (d j : ℕ) (ch : Change) → Outs out h → Numbers h → Lockings h → Patches h
    → UnderNumber h d j true (changes ch) → Views out lost h → Views out lost (Tells d (Did j ch) ∷ h)
tells out lost h d j ch s n lk pt ok w = by (out d) refl
  where
    new : List Entry
    new = Tells d (Did j ch) ∷ h

    by : (v : Bool) → out d ≡ v → Views out lost (Tells d (Did j ch) ∷ h)
    by true o = record {
      seen = λ c p. at_life
          (λ k b. out k ≡ false → touched (if b then cut_by ch (pending k h) else pending k h)
          (if b then dirty_by ch (pending k h) p (dirty k h p) else dirty k h p) p ≡ true
          → plain (history out lost (Tells d (Did j ch) ∷ h)) p
          ≡ over (if b then cut_by ch (pending k h) else pending k h)
          (if b then dirty_by ch (pending k h) p (dirty k h p) else dirty k h p) p (object lost h p)) c d
          (λ oc t. absurd (both_ways (out d) oc o))
          (λ ne oc t. tells_out out lost h d j ch o p ∙ w.seen c p oc t);
      rest = λ p u. tells_out out lost h d j ch o p ∙ w.rest p (λ c oc. at_life
          (λ k b. out k ≡ false → touched (if b then cut_by ch (pending k h) else pending k h)
          (if b then dirty_by ch (pending k h) p (dirty k h p) else dirty k h p) p ≡ false → touched (pending k h) (dirty k h p) p ≡ false)
          c d
          (λ od t. absurd (both_ways (out d) od o))
          (λ ne od t. t) oc (u c oc));
    }
    by false o = record {
      seen = λ c p. at_life
          (λ k b. out k ≡ false → touched (if b then cut_by ch (pending k h) else pending k h)
          (if b then dirty_by ch (pending k h) p (dirty k h p) else dirty k h p) p ≡ true
          → plain (history out lost (Tells d (Did j ch) ∷ h)) p
          ≡ over (if b then cut_by ch (pending k h) else pending k h)
          (if b then dirty_by ch (pending k h) p (dirty k h p) else dirty k h p) p (object lost h p)) c d
          (λ oc t. tells_in out lost h d j ch o p ∙ ap (λ (x : Option ℕ). after_at ch p x) (here p t (changes ch p) refl)
          ∙ sym (told_over ch (pending d h) (dirty d h p) p (object lost h p)))
          (λ ne oc t. tells_in out lost h d j ch o p ∙ there c p oc ne t (changes ch p) refl);
      rest = λ p u. rest p u;
    }
      where
        here : (p : ℕ) → touched (cut_by ch (pending d h)) (dirty_by ch (pending d h) p (dirty d h p)) p ≡ true → (v : Bool)
            → changes ch p ≡ v → plain (history out lost h) p ≡ over (pending d h) (dirty d h p) p (object lost h p)
        here p t true e = covered out lost h d p ok.lock s n lk pt w o ok.held ok.life (ok.covered p e)
        here p t false e = w.seen d p o (⊎_elim (λ (x : changes ch p ≡ true). absurd (both_ways (changes ch p) e x))
            (λ (x : touched (pending d h) (dirty d h p) p ≡ true). x) (told_new ch (pending d h) (dirty d h p) p t))

        there : (c p : ℕ) → out c ≡ false → (c ≡ d → ⊥) → touched (pending c h) (dirty c h p) p ≡ true → (v : Bool) → changes ch p ≡ v
            → after_at ch p (plain (history out lost h) p) ≡ over (pending c h) (dirty c h p) p (object lost h p)
        there c p oc ne t false e = unchanged ch p (plain (history out lost h) p) e ∙ w.seen c p oc t
        there c p oc ne t true e = absurd (ne (sym (one_life h d c p ok.lock n lk pt (lives out h d s o) (lives out h c s oc) ok.held
            ok.life (ok.covered p e) t)))

        rest : (p : ℕ) → Untouched out new p → plain (history out lost new) p ≡ object lost h p
        rest p u = tells_in out lost h d j ch o p ∙ unchanged ch p (plain (history out lost h) p) (clear (changes ch p) refl)
            ∙ w.rest p (λ c oc. old c oc (nat_eq c d) refl)
          where
            mine : touched (cut_by ch (pending d h)) (dirty_by ch (pending d h) p (dirty d h p)) p ≡ false
            mine = let e = eq-eqb d d refl in subst (λ (b : Bool). touched (if b then cut_by ch (pending d h) else pending d h)
                (if b then dirty_by ch (pending d h) p (dirty d h p) else dirty d h p) p ≡ false) e (u d o)

            clear : (v : Bool) → changes ch p ≡ v → changes ch p ≡ false
            clear false e = e
            clear true e = absurd (both_ways (touched (cut_by ch (pending d h)) (dirty_by ch (pending d h) p (dirty d h p)) p) mine
                (told_changes ch (pending d h) (dirty d h p) p e))

            before : (v : Bool) → touched (pending d h) (dirty d h p) p ≡ v → touched (pending d h) (dirty d h p) p ≡ false
            before false e = e
            before true e = absurd (both_ways (touched (cut_by ch (pending d h)) (dirty_by ch (pending d h) p (dirty d h p)) p) mine
                (told_touched ch (pending d h) (dirty d h p) p e))

            old : (c : ℕ) → out c ≡ false → (v : Bool) → nat_eq c d ≡ v → touched (pending c h) (dirty c h p) p ≡ false
            old c oc true e = subst (λ (k : ℕ). touched (pending k h) (dirty k h p) p ≡ false) (sym (eqb-true c d e))
                (before (touched (pending d h) (dirty d h p) p) refl)
            old c oc false e = subst (λ (b : Bool). touched (if b then cut_by ch (pending c h) else pending c h)
                (if b then dirty_by ch (pending c h) p (dirty c h p) else dirty c h p) p ≡ false) e (u c oc)

-- the target executes a change
pub txn_in : (out lost : ℕ → Bool) (h : List Entry) (nr : ℕ) (r : Request) → out r.life ≡ false → (p : ℕ)
    → plain (history out lost (Txn nr r ∷ h)) p ≡ plain (history out lost h) p
txn_in out lost h nr r o p = rw o

pub txn_out : (out lost : ℕ → Bool) (h : List Entry) (nr : ℕ) (r : Request) (k : ℕ) (ch : Change) → lost nr ≡ false → r.op ≡ Flush k ch
    → out r.life ≡ true → (p : ℕ) → plain (history out lost (Txn nr r ∷ h)) p ≡ after_at ch p (plain (history out lost h) p)
txn_out out lost h nr r k ch l e o p = rw (o, l, e)

txns_lost : (out lost : ℕ → Bool) (h : List Entry) (nr : ℕ) (r : Request) → lost nr ≡ true → Views out lost h
    → Views out lost (Txn nr r ∷ h)
txns_lost out lost h nr r l w = record {
  seen = λ c p o t. same p ∙ w.seen c p o t ∙ ap (λ (x : Option ℕ). over (pending c h) (dirty c h p) p x) (sym (txn_lost lost h nr r p l));
  rest = λ p u. same p ∙ w.rest p u ∙ sym (txn_lost lost h nr r p l);
}
  where
    same : (p : ℕ) → plain (history out lost (Txn nr r ∷ h)) p ≡ plain (history out lost h) p
    same p = by (out r.life)
      where
        by : (v : Bool)
            → plain (if v && not (lost nr) then piece_item r.life r.op (history out lost h) else history out lost h) p
            ≡ plain (history out lost h) p
        by false = refl
        by true = rw l

txns : (out lost : ℕ → Bool) (h : List Entry) (nr : ℕ) (r : Request) (k : ℕ) (ch : Change) → Outs out h → lost nr ≡ false → Numbers h
    → Lockings h → Patches h → TxnOk h nr r k ch → Views out lost h → Views out lost (Txn nr r ∷ h)
txns out lost h nr r k ch s stays n lk pt ok w = record {
  seen = λ c p oc t. by c p oc t (changes ch p) refl (out r.life) refl;
  rest = λ p u. rest p u (changes ch p) refl (out r.life) refl;
}
  where
    running : (c : ℕ) → c ≡ r.life → Running h c (Flush k ch)
    running c e = subst (λ (op : Op). Running h c op) ok.op (flight_hidden h c r pt
        (ap (λ (d : ℕ). flight d h) e ∙ fresh_flies h r n ok.fresh))

    -- where the change changes nothing
    same : (p : ℕ) → changes ch p ≡ false → object lost (Txn nr r ∷ h) p ≡ object lost h p
    same p e = txn_object lost h nr r k ch p stays ok.op ∙ unchanged ch p (object lost h p) e

    still : (p : ℕ) → changes ch p ≡ false → (v : Bool) → out r.life ≡ v
        → plain (history out lost (Txn nr r ∷ h)) p ≡ plain (history out lost h) p
    still p e true o = txn_out out lost h nr r k ch stays ok.op o p ∙ unchanged ch p (plain (history out lost h) p) e
    still p e false o = txn_in out lost h nr r o p

    by : (c p : ℕ) → out c ≡ false → touched (pending c h) (dirty c h p) p ≡ true → (v : Bool) → changes ch p ≡ v → (b : Bool)
        → out r.life ≡ b → plain (history out lost (Txn nr r ∷ h)) p ≡ over (pending c h) (dirty c h p) p (object lost (Txn nr r ∷ h) p)
    by c p oc t false e b o = still p e b o ∙ w.seen c p oc t ∙ ap (λ (x : Option ℕ). over (pending c h) (dirty c h p) p x) (sym (same p e))
    by c p oc t true e b o = mine b o
      where
        it : Cover h c p
        it = pt.cover c p t

        is : c ≡ r.life
        is = sym it.life ∙ own_txn h nr r k ch it.lock p n lk ok it.held (ap (λ (d : ℕ). evicted d h) it.life ∙ lives out h c s oc)
            it.covered e

        mine : (b : Bool) → out r.life ≡ b
            → plain (history out lost (Txn nr r ∷ h)) p ≡ over (pending c h) (dirty c h p) p (object lost (Txn nr r ∷ h) p)
        mine true o = absurd (both_ways (out c) oc (ap out is ∙ o))
        mine false o = txn_in out lost h nr r o p ∙ w.seen c p oc t ∙ sym (running_over h c k ch p (object lost h p) (running c is) e)
            ∙ ap (λ (x : Option ℕ). over (pending c h) (dirty c h p) p x) (sym (txn_object lost h nr r k ch p stays ok.op))

    rest : (p : ℕ) → Untouched out h p → (v : Bool) → changes ch p ≡ v → (b : Bool) → out r.life ≡ b
        → plain (history out lost (Txn nr r ∷ h)) p ≡ object lost (Txn nr r ∷ h) p
    rest p u false e b o = still p e b o ∙ w.rest p u ∙ sym (same p e)
    rest p u true e true o = txn_out out lost h nr r k ch stays ok.op o p ∙ ap (λ (x : Option ℕ). after_at ch p x) (w.rest p u)
        ∙ sym (txn_object lost h nr r k ch p stays ok.op)
    rest p u true e false o = absurd (both_ways (touched (pending r.life h) (dirty r.life h p) p) (u r.life o)
        (running_touched h r.life k ch p (running r.life refl) e))

-- a life hears that its change was executed
hears : (out lost : ℕ → Bool) (h : List Entry) (r : Request) (a : Answer) → (out r.life ≡ false → HeardOf lost a) → Numbers h → Patches h
    → Facts out lost h → flight r.life h ≡ Some r → Was h (Reply (closed h) r.life r.xid a) → Views out lost h
    → Views out lost (Heard r a ∷ h)
hears out lost h r a of n pt fs fl was w = record {
  seen = λ c p. at_life
      (λ k b. out k ≡ false → touched (if b then cut_acked r.op a (pending k h) else pending k h)
      (if b then dirty_acked r.op a (flying k h p) (dirty k h p) else dirty k h p) p ≡ true
      → plain (history out lost h) p ≡ over (if b then cut_acked r.op a (pending k h) else pending k h)
      (if b then dirty_acked r.op a (flying k h p) (dirty k h p) else dirty k h p) p (object lost h p)) c r.life
      (λ oc t. w.seen r.life p oc (acked_touched r.op a (pending r.life h) (dirty r.life h p) (flying r.life h p) p t) ∙ sym (view p oc))
      (λ ne oc t. w.seen c p oc t);
  rest = λ p u. rest p u (out r.life) refl;
}
  where
    view : (p : ℕ) → out r.life ≡ false
        → over (cut_acked r.op a (pending r.life h)) (dirty_acked r.op a (flying r.life h p) (dirty r.life h p)) p (object lost h p)
        ≡ over (pending r.life h) (dirty r.life h p) p (object lost h p)
    view p o =
        acked_over r.op a (pending r.life h) (dirty r.life h p) (flying r.life h p) p (object lost h p)
        (λ m e. fs.done r.life p r m o fl (subst (λ (b : Answer). Answered h r.life r.xid b) e (n.replies r.life r.xid a was))
        (subst (λ (b : Answer). HeardOf lost b) e (of o)))
        (λ e. flight_flown h r.life p r pt fl e)

    others : (p c : ℕ) → Untouched out (Heard r a ∷ h) p → out c ≡ false → nat_eq c r.life ≡ false
        → touched (pending c h) (dirty c h p) p ≡ false
    others p c u oc e = subst (λ (b : Bool). touched (if b then cut_acked r.op a (pending c h) else pending c h)
        (if b then dirty_acked r.op a (flying c h p) (dirty c h p) else dirty c h p) p ≡ false) e (u c oc)

    rest : (p : ℕ) → Untouched out (Heard r a ∷ h) p → (v : Bool) → out r.life ≡ v → plain (history out lost h) p ≡ object lost h p
    rest p u true o = w.rest p (λ c oc. old c oc (nat_eq c r.life) refl)
      where
        old : (c : ℕ) → out c ≡ false → (v : Bool) → nat_eq c r.life ≡ v → touched (pending c h) (dirty c h p) p ≡ false
        old c oc true e = absurd (both_ways (out c) oc (ap out (eqb-true c r.life e) ∙ o))
        old c oc false e = others p c u oc e
    rest p u false o = was_touched (touched (pending r.life h) (dirty r.life h p) p) refl
      where
        mine : touched (cut_acked r.op a (pending r.life h)) (dirty_acked r.op a (flying r.life h p) (dirty r.life h p)) p ≡ false
        mine = subst (λ (b : Bool). touched (if b then cut_acked r.op a (pending r.life h) else pending r.life h)
            (if b then dirty_acked r.op a (flying r.life h p) (dirty r.life h p) else dirty r.life h p) p ≡ false)
            (eq-eqb r.life r.life refl) (u r.life o)

        was_touched : (v : Bool) → touched (pending r.life h) (dirty r.life h p) p ≡ v → plain (history out lost h) p ≡ object lost h p
        was_touched true t = w.seen r.life p o t ∙ sym (view p o)
            ∙ untouched_over (cut_acked r.op a (pending r.life h)) (dirty_acked r.op a (flying r.life h p) (dirty r.life h p)) p
            (object lost h p) mine
        was_touched false t = w.rest p (λ c oc. old c oc (nat_eq c r.life) refl)
          where
            old : (c : ℕ) → out c ≡ false → (v : Bool) → nat_eq c r.life ≡ v → touched (pending c h) (dirty c h p) p ≡ false
            old c oc true e = subst (λ (k : ℕ). touched (pending k h) (dirty k h p) p ≡ false) (sym (eqb-true c r.life e)) t
            old c oc false e = others p c u oc e

-- a told read leaves the plain bytes
pub plain_saw : (out lost : ℕ → Bool) (h : List Entry) (d at n : ℕ) (vs : List ℕ) (p : ℕ)
    → plain (history out lost (Tells d (Saw at n vs) ∷ h)) p ≡ plain (history out lost h) p
plain_saw out lost h d at n vs p = by (out d)
  where
    by : (v : Bool) → plain (if v then history out lost h else Read d at n vs ∷ history out lost h) p ≡ plain (history out lost h) p
    by true = refl
    by false = refl

pub outs_less : (out : ℕ → Bool) (h : List Entry) (e : Entry) → Outs out (e ∷ h) → Outs out h
outs_less out h (Evict d) s c i = s c (grind arith)
outs_less out h (Close b l gone) s c i = s c (or_right (gone c) (evicted c h) i)
outs_less out h _ s c i = s c i

pub views_line : (out lost : ℕ → Bool) (h : List Entry) (e : Entry) → Outs out h → KeptFor out lost (e ∷ h)
    → ((d : ℕ) (l gone : ℕ → Bool) → e ≡ Close d l gone → ⊥) → Numbers h → Lockings h → Patches h → Facts out lost h → Views out lost h
    → Allowed h e → Views out lost (e ∷ h)
views_line out lost h (Close d l gone) s k no_close n lk pt fs w ok = absurd (no_close d l gone refl)
views_line out lost h (Tells d (Did j ch)) s k no_close n lk pt fs w ok = tells out lost h d j ch s n lk pt ok w
views_line out lost h (Tells d (Saw at m vs)) s k no_close n lk pt fs w ok = record {
  seen = λ c p o t. plain_saw out lost h d at m vs p ∙ w.seen c p o t;
  rest = λ p u. plain_saw out lost h d at m vs p ∙ w.rest p u;
}
views_line out lost h (Heard r a) s k no_close n lk pt fs w ok = hears out lost h r a k.0 n pt fs ok.0 ok.1 w
views_line out lost h (Txn nr r) s k no_close n lk pt fs w ok = by (lost nr) refl
  where
    by : (v : Bool) → lost nr ≡ v → Views out lost (Txn nr r ∷ h)
    by true l = txns_lost out lost h nr r l w
    by false l = txns out lost h nr r ok.0 ok.1 s l n lk pt ok.2 w
views_line out lost h _ s k no_close n lk pt fs w ok = w

-- the bytes of a read, from each of them
pub read_is : (is : List Item) (at : ℕ) (vs : List ℕ) (n : ℕ) → length vs ≡ n
    → ((p v : ℕ) → overlay at vs p None ≡ Some v → value (plain is p) ≡ v) → vs ≡ read_of is at n
read_is is at [] zero e each = refl
read_is is at [] (suc n) e each = absurd (omega arith)
read_is is at (v ∷ vs) zero e each = absurd (omega arith)
read_is is at (v ∷ vs) (suc n) e each = rw (each at v (rw (eq-eqb at at refl)), ← read_is is (suc at) vs n (omega arith) later)
  where
    later : (p u : ℕ) → overlay (suc at) vs p None ≡ Some u → value (plain is p) ≡ u
    later p u o =
        let low = (run_bounds (suc at) vs p (run_some (suc at) vs p u o)).0 in
        each p u (rw (ne_eqb at p (λ q. absurd (omega arith))) o)

-- the size of the plain map is what its name says
pub size_is : (is : List Item)
    → ((p : ℕ) → size_of is ≤ p → plain is p ≡ None) × ((p : ℕ) → suc p ≡ size_of is → is_some (plain is p) ≡ true)
size_is [] = (λ p i. refl, λ p i. absurd (omega arith))
size_is (Made c ch ∷ is) = let s = size_is is in (
  λ p i. end_none ch (size_of is) p (plain is p) i (s.0 p),
  λ p i. end_some ch (size_of is) p (plain is p) i (s.1 p),
)
size_is (Piece c ch ∷ is) = let s = size_is is in (
  λ p i. end_none ch (size_of is) p (plain is p) i (s.0 p),
  λ p i. end_some ch (size_of is) p (plain is p) i (s.1 p),
)
size_is (Read c at n vs ∷ is) = size_is is

pub none_some : (x : Option ℕ) → x ≡ None → is_some x ≡ true → ⊥
none_some None e f = absurd (cc)
none_some (Some b) e f = absurd (cc)

-- two ends of one map, seen from a position on
pub same_end : (m : ℕ → Option ℕ) (at y z : ℕ) → ((p : ℕ) → at ≤ p → y ≤ p → m p ≡ None)
    → ((p : ℕ) → at ≤ p → suc p ≡ z → is_some (m p) ≡ true) → at < z → z ≤ y
same_end m at y zero a b low = absurd (omega arith)
same_end m at y (suc p) a b low = by (nat_lt p y) refl
  where
    by : (v : Bool) → nat_lt p y ≡ v → suc p ≤ y
    by true e = let f = ltb-true p y e in omega arith
    by false e = let f = ltb-false p y e in absurd (none_some (m p) (a p (omega arith) f) (b p (omega arith) refl))

pub saw_right : (out lost : ℕ → Bool) (h : List Entry) (d at n : ℕ) (vs : List ℕ) → Outs out h → Numbers h → Lockings h → Patches h
    → Facts out lost h → Ends out lost h → Views out lost h → Wide h d at n vs → out d ≡ false
    → vs ≡ read_of (history out lost h) at (min n (size_of (history out lost h) - at))
saw_right out lost h d at n vs s nu lk pt fs en w ok o = read_is (history out lost h) at vs (min n (size_of (history out lost h) - at))
    (ok.2 ∙ ap (λ (k : ℕ). min n k) ends_same) each
  where
    z : ℕ
    z = ok.0

    u : EndAt h d at ok.0
    u = ok.1

    view : (p : ℕ) → at ≤ p → plain (history out lost h) p ≡ over (pending d h) (dirty d h p) p (object lost h p)
    view p i = let f = u.first in covered out lost h d p u.lock s nu lk pt w o u.held u.life (covers_on u.lock p u.last (omega arith))

    bounds : Bounds lost h u.lock.first u.end (hides h d)
    bounds = subst (λ (c : ℕ). Bounds lost h u.lock.first u.end (hides h c)) u.life
        (en.kept u.lock u.end u.held (ap out u.life ∙ o) u.last u.known)

    none : (p : ℕ) → at ≤ p → ok.0 ≤ p → plain (history out lost h) p ≡ None
    none p i j =
        let f = u.first in
        let b = u.over.0 in
        view p i ∙ over_none (pending d h) (dirty d h p) u.end p (object lost h p) (u.over.1 p j) (omega arith)
        (λ x y. bounds.none p (omega arith) x y)

    top : (p : ℕ) → suc p ≡ ok.0 → (ok.0 ≡ base (pending d h) u.end) ⊎ ((q : ℕ) × (suc q ≡ ok.0) × (is_some (dirty d h q) ≡ true))
        → (suc p ≡ base (pending d h) u.end) ⊎ (is_some (dirty d h p) ≡ true)
    top p j (inl e) = inl (j ∙ e)
    top p j (inr (q, e, f)) = let same : q ≡ p = omega arith in inr (subst (λ (k : ℕ). is_some (dirty d h k) ≡ true) same f)

    some : (p : ℕ) → at ≤ p → suc p ≡ ok.0 → is_some (plain (history out lost h) p) ≡ true
    some p i j = let f = u.first in ap is_some (view p i) ∙ over_some (pending d h) (dirty d h p) u.end p (object lost h p)
        (top p j u.over.2) (λ x y. bounds.some p (omega arith) x y)

    ends_same : (ok.0 - at) ≡ (size_of (history out lost h) - at)
    ends_same =
        let t = size_is (history out lost h) in
        let a = same_end (λ p. plain (history out lost h) p) at (size_of (history out lost h)) ok.0 (λ p i j. t.0 p j) some in
        let b = same_end (λ p. plain (history out lost h) p) at ok.0 (size_of (history out lost h)) none (λ p i j. t.1 p j) in
        by (nat_lt at ok.0) refl (nat_lt at (size_of (history out lost h))) refl a b
      where
        by : (v : Bool) → nat_lt at ok.0 ≡ v → (x : Bool) → nat_lt at (size_of (history out lost h)) ≡ x
            → (at < ok.0 → ok.0 ≤ size_of (history out lost h)) → (at < size_of (history out lost h) → size_of (history out lost h) ≤ ok.0)
            → (ok.0 - at) ≡ (size_of (history out lost h) - at)
        by true e true f a b = let c = a (ltb-true at ok.0 e) in let g = b (ltb-true at (size_of (history out lost h)) f) in omega arith
        by true e false f a b = let c = a (ltb-true at ok.0 e) in let g = ltb-true at ok.0 e in let k =
            ltb-false at (size_of (history out lost h)) f in absurd (omega arith)
        by false e true f a b = let c = b (ltb-true at (size_of (history out lost h)) f) in let g =
            ltb-true at (size_of (history out lost h)) f in let k = ltb-false at ok.0 e in absurd (omega arith)
        by false e false f a b = let g = ltb-false at ok.0 e in let k = ltb-false at (size_of (history out lost h)) f in omega arith

    each : (p v : ℕ) → overlay at vs p None ≡ Some v → value (plain (history out lost h) p) ≡ v
    each p v i = ap (λ (x : Option ℕ). value x) (view p (run_bounds at vs p (run_some at vs p v i)).0)
        ∙ reads_value (pending d h) (dirty d h p) (known d h p) p v (object lost h p) (ok.3 p v i) (λ m k. (fs.known d p v o k).is m)
