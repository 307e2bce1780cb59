-- The lines that show a close, by the law of recovery: each is what the close decided, and they come in their order.
use Rattle.std.proofs.Common.{◌≡◌, ℕ, ◌<◌, ◌≤◌, Bool, true, false, List, [], ◌∷◌, ◌++◌, Option, Some, None, inl, inr, refl, sym, subst, ap}
use Rattle.std.proofs.Common.{◌∙◌, arith}
use Rattle.std.specs.Prelude.{nat_eq, if◌then◌else◌, unwrap_or, map}
use Rattle.std.proofs.lemmas.Bool.{cond-true}
use Rattle.lu_base.specs.declared.ids.At.{At}
use Rattle.lu_base.specs.declared.ids.Node.TheVariants.{Target}
use Rattle.lu_base.specs.declared.ids.Stamp.{Stamp}
use Rattle.lu_base.specs.declared.ids.Txn.{Txn as TxnOf}
use Rattle.lu_base.specs.declared.ids.Who.{Who}
use Rattle.lu_base.specs.declared.locks.Lock.{Lock}
use Rattle.lu_trace.specs.declared.entries.Line.{Line as PrintedLine}
use Rattle.lu_spec_entries.specs.Carried.{Deed, Gone, Outcome}
use Rattle.lu_spec_entries.specs.Words.{Entry, Close, Kept, Restore, Evict, Joined, Line, line}
use Rattle.lu_spec_entries.specs.Concerns.{only}
use Rattle.lu_spec_entries.specs.Printed.{printed}
use Rattle.lu_spec_target.specs.Recovery.{kept_lines, restore_lines}
use Rattle.lu_spec_target.specs.Windows as window
use Rattle.lu_proof_lawful.specs.Covered.TargetStates.{lives_of, replays_of}
use Rattle.lu_proof_lawful.specs.Covered.TargetCloses as story
use Rattle.lu_proof_lawful.specs.Covered.TargetCloses.{shows_evicted, shows_ready, shows_joined, staying, shows, closing_of}
use Rattle.lu_proof_lawful.specs.Covered.Heads.{Head}
use Rattle.lu_spec_laws.specs.Words.Pasts.{newest}
use Rattle.lu_spec_laws.specs.Words.Scopes.{any_later}
use Rattle.lu_spec_laws.specs.Words.Boots.{committed}
use Rattle.lu_spec_laws.specs.Words.Lost.{is_fail}
use Rattle.lu_spec_laws.specs.Words.Closes.{kept_at, is_finished, closes_in, decided, committed_at_close, last_kept}
use Rattle.lu_spec_laws.specs.Laws.Recovery.{KeptIn, KeptAt, CloseAt}
use Rattle.lu_proof_lawful.proofs.Preconditions.Guards.{In, Steps, IsTurnOf}
use Rattle.lu_proof_lawful.proofs.Preconditions.StoryGuards.{Due, CloseOk}
use Rattle.lu_proof_lawful.proofs.Preconditions.Grown.{Allowed, Grown}
use Rattle.lu_proof_lawful.proofs.Preconditions.ClientLocks.{in_map}
use Rattle.lu_proof_lawful.proofs.Preconditions.Lists.{self}
use Rattle.lu_proof_lawful.proofs.Invariants.Groups.{turn, HoldsAt}
use Rattle.lu_proof_lawful.proofs.Invariants.All.{holds}
use Rattle.lu_proof_lawful.proofs.Invariants.Exact as exact
use Rattle.lu_proof_lawful.proofs.Invariants.Exact.{kept_then}
use Rattle.lu_proof_lawful.proofs.Invariants.ExactLists.{NumbersRise, in_has, rise_among}
use Rattle.lu_proof_lawful.proofs.Laws.CloseLines.{RestStands, StandFirst, turned, shown_parts}
use Rattle.lu_proof_lawful.proofs.Laws.CloseLost.{in_among}
use Rattle.lu_proof_lawful.proofs.Laws.LostNumbers as numbers
use Rattle.lu_proof_lawful.proofs.Laws.LostNumbers.{none_failed, lost_at as lost_before}
use Rattle.lu_proof_lawful.proofs.Laws.CloseDecides as decides
use Rattle.lu_proof_lawful.proofs.Laws.CloseRestores as restored
use Rattle.lu_proof_lawful.proofs.Laws.CloseTurn.{onto, closing_turn, done_show, last_of, decided_then, committed_then, kept_number}
use Rattle.lu_proof_lawful.proofs.Laws.CloseTurn.{last_kept_is}

-- ---- the close

-- no later line of the turn says that the disk fails
abbrev pub Sound : At → List PrintedLine → Type 0
Sound at later = any_later is_fail at later ≡ false

pub finished : (head : Head) (past : List Line) (at : At) (later : List PrintedLine) → Grown head past → Sound at later
    → is_finished at (printed past) later ≡ true
finished head past at later g s = rw (none_failed head past at g, s) refl

pub close_at : (clients : ℕ) (head : Head) (past : List Line) (stamp : Stamp) (t : ℕ) (o : Outcome) (later : List PrintedLine)
    → Allowed head past (turn stamp (Target t)) (Close o) → Grown head past → clients ≤ head.clients
    → RestStands head (line (turn stamp (Target t)) (Close o) ∷ past) later
    → CloseAt clients t (printed past) (turn stamp (Target t)) later
close_at clients head past stamp t o later k g few rest =
    let here : nat_eq t t ≡ true = self t in
    record {
      recovering = decides.recovering clients head t past stamp o here k g few;
      all_back = decides.all_back clients head t past stamp o here k g few;
      follows = λ f. record {
        keeps = decides.keeps clients head t past stamp o here k g few later stand;
        evicts = decides.evicts clients head t past stamp o here k g few later stand;
        restores = restored.restores clients head t past stamp o here k g few later stand;
      };
    }
  where
    l : Line
    l = line (turn stamp (Target t)) (Close o)

    now : only t (l ∷ past) ≡ l ∷ only t past
    now = ap (λ (b : Bool). if b then l ∷ only t past else only t past) (self t)

    stand : StandFirst (shows o (lives_of head.clients (only t past))) (turned (turn stamp (Target t)) later)
    stand = subst (λ (p : List Line). StandFirst (closing_of head.clients p) (turned (turn stamp (Target t)) later)) now
        (rest t (turn stamp (Target t)) refl (subst (λ (p : List Line). IsTurnOf p (turn stamp (Target t))) (sym now) refl))

-- ---- what is kept rises

abbrev RisesKept : ℕ → List Entry → Type 0
RisesKept m [] = Unit {0}
RisesKept m (e ∷ es) = elim e [ Kept number ↦ (m < number.0) × RisesKept number.0 es | _ ↦ RisesKept m es ]

rises_after : (done left : List Entry) → RisesKept 0 (onto done left) → RisesKept (unwrap_or (last_of kept_number done) 0) left
rises_after [] left r = r
rises_after (e ∷ done) left r = by e (rises_after done (e ∷ left) r)
  where
    L : Option ℕ
    L = last_of kept_number done

    by : (e : Entry) → RisesKept (unwrap_or L 0) (e ∷ left) → RisesKept (unwrap_or (last_of kept_number (e ∷ done)) 0) left
    by (Kept number) q = q.1
    by e q = q

abbrev Rise : List ℕ → Type 0
Rise [] = Unit {0}
Rise (n ∷ ns) = ((m : ℕ) → In m ns → n < m) × Rise ns

rise_numbers : (rs : List window.Replayed) → NumbersRise rs → Rise (map {A = window.Replayed} {B = ℕ} (λ r. r.number) rs)
rise_numbers [] r = tt
rise_numbers (x ∷ rs) r = (
  (λ m i. let y = in_map (λ (r : window.Replayed). r.number) m rs i in let lt = r.0 y.0 y.1 in let e = y.2
      in omega (arith, lt, e)),
  rise_numbers rs r.1,
)

kept_rise : (ds : List Deed) (m : ℕ) (rest : List Entry) → ((n : ℕ) → RisesKept n rest)
    → Rise (map {A = Deed} {B = ℕ} (λ d. d.reply.txn.0) ds) → ((n : ℕ) → In n (map {A = Deed} {B = ℕ} (λ d. d.reply.txn.0) ds) → m < n)
    → RisesKept m (kept_lines ds ++ rest)
kept_rise [] m rest r q above = r m
kept_rise (d ∷ ds) m rest r q above = (above d.reply.txn.0 (inl refl), kept_rise ds d.reply.txn.0 rest r q.1 (λ n i. q.0 n i))

restore_rise : (ls : List Lock) (m : ℕ) (rest : List Entry) → RisesKept m rest → RisesKept m (restore_lines ls ++ rest)
restore_rise [] m rest r = r
restore_rise (l ∷ ls) m rest r = restore_rise ls m rest r

evicted_rise : (o : Outcome) (gone : List Gone) (m : ℕ) (rest : List Entry) → RisesKept m rest → RisesKept m (shows_evicted o gone ++ rest)
evicted_rise o [] m rest r = r
evicted_rise o (g ∷ gone) m rest r = evicted_rise o gone m rest r

ready_rise : (o : Outcome) (lives : List Who) (m : ℕ) (rest : List Entry) → RisesKept m rest → RisesKept m (shows_ready o lives ++ rest)
ready_rise o [] m rest r = r
ready_rise o (w ∷ lives) m rest r = ready_rise o lives m rest r

joined_rise : (o : Outcome) (lives : List Who) (m : ℕ) → RisesKept m (shows_joined o lives)
joined_rise o [] m = tt
joined_rise o (w ∷ lives) m = joined_rise o lives m

shows_rise : (o : Outcome) (lives : List Who) → Rise (map {A = Deed} {B = ℕ} (λ d. d.reply.txn.0) o.kept)
    → ((n : ℕ) → In n (map {A = Deed} {B = ℕ} (λ d. d.reply.txn.0) o.kept) → 0 < n) → RisesKept 0 (shows o lives)
shows_rise o lives r above =
    kept_rise o.kept 0 (restore_lines o.locks ++ (shows_evicted o o.gone ++ (shows_ready o (staying o lives) ++ shows_joined o o.joins)))
    (λ n. restore_rise o.locks n (shows_evicted o o.gone ++ (shows_ready o (staying o lives) ++ shows_joined o o.joins))
    (evicted_rise o o.gone n (shows_ready o (staying o lives) ++ shows_joined o o.joins)
    (ready_rise o (staying o lives) n (shows_joined o o.joins) (joined_rise o o.joins n))))
    r above

-- ---- what is shown as kept is kept

kept_there : (ds : List Deed) (n : TxnOf) → In (Kept n) (kept_lines ds) → In n.0 (map {A = Deed} {B = ℕ} (λ d. d.reply.txn.0) ds)
kept_there [] n i = absurd i
kept_there (d ∷ ds) n (inl q) = inl (number q)
  where
    number : Kept d.reply.txn ≡ Kept n → d.reply.txn.0 ≡ n.0
    number q = let e : d.reply.txn ≡ n = cc in ap (λ (v : TxnOf). v.0) e
kept_there (d ∷ ds) n (inr i) = inr (kept_there ds n i)

shown_number : (o : Outcome) (lives : List Who) (n : TxnOf) → In (Kept n) (shows o lives)
    → In n.0 (map {A = Deed} {B = ℕ} (λ d. d.reply.txn.0) o.kept)
shown_number o lives n (inl q) = absurd (cc)
shown_number o lives n (inr i) = shown_parts o lives Says_kept (record
    { kept = kept; restored = restores o.locks; evicted = evicted o.gone; ready = ready (staying o lives); joined = joined o.joins })
    (Kept n) i refl
  where
    Says_kept : Entry → Type 0
    Says_kept e = e ≡ Kept n → In n.0 (map {A = Deed} {B = ℕ} (λ d. d.reply.txn.0) o.kept)

    kept : (e : Entry) → In e (kept_lines o.kept) → Says_kept e
    kept e i q = kept_there o.kept n (subst (λ (v : Entry). In v (kept_lines o.kept)) q i)

    restores : (ls : List Lock) (e : Entry) → In e (restore_lines ls) → Says_kept e
    restores [] e i q = absurd i
    restores (l ∷ ls) e (inl p) q = absurd (let x : Restore l ≡ Kept n = p ∙ q in cc)
    restores (l ∷ ls) e (inr i) q = restores ls e i q

    evicted : (gone : List Gone) (e : Entry) → In e (shows_evicted o gone) → Says_kept e
    evicted [] e i q = absurd i
    evicted (g ∷ gone) e (inl p) q = absurd (let x : Evict g.who g.cause ≡ Kept n = p ∙ q in cc)
    evicted (g ∷ gone) e (inr (inl p)) q = absurd (let x = p ∙ q in cc)
    evicted (g ∷ gone) e (inr (inr i)) q = evicted gone e i q

    ready : (ws : List Who) (e : Entry) → In e (shows_ready o ws) → Says_kept e
    ready [] e i q = absurd i
    ready (w ∷ ws) e (inl p) q = absurd (let x = p ∙ q in cc)
    ready (w ∷ ws) e (inr i) q = ready ws e i q

    joined : (ws : List Who) (e : Entry) → In e (shows_joined o ws) → Says_kept e
    joined [] e i q = absurd i
    joined (w ∷ ws) e (inl p) q = absurd (let x : Joined w ≡ Kept n = p ∙ q in cc)
    joined (w ∷ ws) e (inr (inl p)) q = absurd (let x = p ∙ q in cc)
    joined (w ∷ ws) e (inr (inr i)) q = joined ws e i q

-- what comes next is among what a close shows
pub next_shown : (e : Entry) (done more : List Entry) → In e (onto done (e ∷ more))
next_shown e [] more = inl refl
next_shown e (x ∷ done) more = later done (x ∷ e ∷ more) (inr (inl refl))
  where
    later : (done left : List Entry) → In e left → In e (onto done left)
    later [] left i = i
    later (y ∷ done) left i = later done (y ∷ left) (inr i)

-- ---- a line that shows what is kept

module _ (clients : ℕ) (head : Head) (t : ℕ) (stamp : Stamp) (o : Outcome) (before : List Line)
    (k : Allowed head before (turn stamp (Target t)) (Close o)) (g : Grown head before) (few : clients ≤ head.clients) where
  ok : CloseOk head (only t before) (turn stamp (Target t)) o
  ok = k.of t (self t)

  h : HoldsAt head (only t before)
  h = (holds head before g).at t

  -- a number that it keeps is above the committed one, and so by the laws
  number_kept : (n : ℕ) → In n (map {A = Deed} {B = ℕ} (λ d. d.reply.txn.0) o.kept) → (committed t (printed before) < n)
      × In n (kept_at t (printed before))
  number_kept n i =
      let has : window.has_number n (kept_then head (only t before)) ≡ true =
      sym (exact.kept_same head (only t before) ok.recovers h (turn stamp (Target t)) n)
      ∙ in_has n (story.kept_numbers (story.outcome_of head.osts head.clients (turn stamp (Target t)) (only t before)))
      (subst (λ (v : Outcome). In n (story.kept_numbers v)) ok.is i)
      in
      let m = exact.kept_made head (only t before) ok.recovers h n has in (
        subst (λ (v : ℕ). v < n) (sym (numbers.above_is head t before stamp o (self t) k g (lost_before head t before g))) m.3,
        decides.shown_kept clients head t before stamp o (self t) k g few n has,
      )

  kept_rises : RisesKept 0 (shows o (lives_of head.clients (only t before)))
  kept_rises = shows_rise o (lives_of head.clients (only t before)) rise (λ n i. let lt = (number_kept n i).0 in omega (arith, lt))
    where
      ks : List ℕ
      ks = kept_then head (only t before)

      rise : Rise (map {A = Deed} {B = ℕ} (λ d. d.reply.txn.0) o.kept)
      rise = subst (λ (v : Outcome). Rise (map {A = Deed} {B = ℕ} (λ d. d.reply.txn.0) v.kept)) (sym ok.is)
          (subst Rise (sym (exact.again_numbers (story.recovering_of head.osts head.clients (only t before)) (turn stamp (Target t))
          (story.disk_of head.osts head.clients (only t before)).contents (window.kept_of ks (replays_of (only t before)))))
          (rise_numbers (window.kept_of ks (replays_of (only t before)))
          (rise_among (λ (r : window.Replayed). window.has_number r.number ks) (replays_of (only t before))
          (exact.numbers_rise head (only t before) ok.recovers h))))

pub kept_law : (head : Head) (past : List Line) (stamp : Stamp) (t : ℕ) (number : TxnOf) (later : List PrintedLine)
    → Steps past (turn stamp (Target t)) → Grown head past → Due head (only t past) (turn stamp (Target t)) (Kept number)
    → Sound (turn stamp (Target t)) later
    → KeptAt t (printed past) (turn stamp (Target t)) later number.0
kept_law head past stamp t number later s g due sound =
    let at = turn stamp (Target t) in
    let c = closing_turn head t past at g refl s due.2 (Kept number) due.0 due.1 in
    let all = done_show head t past at (Kept number ∷ due.0) c in
    let i : In number.0 (map {A = Deed} {B = ℕ} (λ d. d.reply.txn.0) c.outcome.kept) =
    shown_number c.outcome (lives_of head.clients (only t c.before)) number
    (subst (λ (es : List Entry). In (Kept number) es) (sym c.parts) (next_shown (Kept number) c.done due.0)) in
    let n = number_kept 0 head t stamp c.outcome c.before c.allowed c.grown (omega arith) number.0 i in
    let high = rises_after c.done (Kept number ∷ due.0) (subst (λ (es : List Entry). RisesKept 0 es) c.parts
    (kept_rises 0 head t stamp c.outcome c.before c.allowed c.grown (omega arith))) in
    let last : last_kept at (printed past) ≡ unwrap_or (last_of kept_number c.done) 0 =
    ap (λ (p : List Line). last_kept at (printed p)) c.is ∙ last_kept_is at c.outcome c.before c.done all in
    let then_ : committed_at_close t (printed past) ≡ committed t (printed c.before) =
    ap (λ (p : List Line). committed_at_close t (printed p)) c.is ∙ committed_then t at c.outcome c.before c.done refl all in
    let what : decided (kept_at t) at (printed past) later ≡ Some (kept_at t (printed c.before)) =
    cond-true (is_finished at (printed past) later) (newest (closes_in (kept_at t) at) (printed past)) None
    (finished head past at later g sound)
    ∙ ap (λ (p : List Line). newest (closes_in (kept_at t) at) (printed p)) c.is ∙ decided_then (kept_at t) at c.outcome c.before c.done all
    in
    record {
      uncommitted = let lt = n.0 in omega (arith, then_, lt);
      follows = subst (λ (v : Option (List ℕ)). KeptIn v (last_kept at (printed past)) number.0) (sym what) (record {
        named = in_among (kept_at t (printed c.before)) number.0 n.1;
        rises = let lt = high.0 in omega (arith, last, lt);
      });
    }
