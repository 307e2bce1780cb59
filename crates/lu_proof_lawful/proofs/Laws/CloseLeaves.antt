-- An eviction of a close by the law of recovery: the life has a slot still by the lines, the close's commit stands before it in the turn,
-- the close decided
-- that cause, and those evicted before it in the turn come before it in order.
use Rattle.std.proofs.Common.{◌≡◌, ℕ, ◌+◌, Bool, true, false, List, [], ◌∷◌, ◌++◌, Option, Some, None, ◌⊎◌, inl, inr, ⊎_elim, refl, sym}
use Rattle.std.proofs.Common.{subst, ap, ◌∙◌, arith}
use Rattle.std.specs.Prelude.{nat_eq, not, ◌&&◌, ◌||◌, unwrap_or}
use Rattle.std.proofs.lemmas.Bool.{and_parts, cond-true}
use Rattle.lu_base.specs.declared.ids.At.{At}
use Rattle.lu_base.specs.declared.ids.Node.TheVariants.{Target}
use Rattle.lu_base.specs.declared.ids.Stamp.{Stamp}
use Rattle.lu_base.specs.declared.ids.Who.{Who}
use Rattle.lu_base.specs.declared.locks.Cause.{Cause}
use Rattle.lu_base.specs.declared.locks.Lock.{Lock}
use Rattle.lu_trace.specs.declared.entries.Entry.{Entry as PrintedEntry}
use Rattle.lu_trace.specs.declared.entries.Line.{Line as PrintedLine}
use Rattle.lu_spec_entries.specs.Carried.{Deed, Gone, Outcome}
use Rattle.lu_spec_entries.specs.Words.{Entry, Send, Commit, Close, Kept, Restore, Evict, Joined, Line, line, same_life}
use Rattle.lu_spec_entries.specs.Concerns.{only}
use Rattle.lu_spec_entries.specs.Sent.{count_sent}
use Rattle.lu_spec_entries.specs.Printed.{printed_entry, printed}
use Rattle.lu_spec_target.specs.Lives.{life_before}
use Rattle.lu_spec_target.specs.Recovery.{commit_of, kept_lines, restore_lines}
use Rattle.lu_spec_target.specs.Windows as window
use Rattle.lu_proof_lawful.specs.Covered.TargetStates.{lives_of, window_of}
use Rattle.lu_proof_lawful.specs.Covered.TargetCloses.{shows_evicted, shows_ready, shows_joined, staying, shows}
use Rattle.lu_proof_lawful.specs.Covered.Heads.{Head}
use Rattle.lu_spec_laws.specs.Words.Pasts.{newest}
use Rattle.lu_spec_laws.specs.Words.Scopes.{any_in}
use Rattle.lu_spec_laws.specs.Words.Lives.{is_evicted}
use Rattle.lu_spec_laws.specs.Words.Slots.{has_joined, has_slot}
use Rattle.lu_spec_laws.specs.Words.Closes.{cause_at, is_finished, closes_in, decided, last_evicted}
use Rattle.lu_spec_laws.specs.Laws.Recovery.{is_above, is_commit, EvictedIn, EvictAt}
use Rattle.lu_proof_lawful.proofs.Preconditions.Guards.{In, InTurn, IsCommit, Steps}
use Rattle.lu_proof_lawful.proofs.Preconditions.StoryGuards.{Due, CloseOk}
use Rattle.lu_proof_lawful.proofs.Preconditions.Grown.{Grown}
use Rattle.lu_proof_lawful.proofs.Preconditions.Lists.{self, life_is}
use Rattle.lu_proof_lawful.proofs.Preconditions.LifeLists.{InOrder, AllAfter, before_not_self}
use Rattle.lu_proof_lawful.proofs.Preconditions.Only.{grown_of}
use Rattle.lu_proof_lawful.proofs.Preconditions.Sound.{sound_of}
use Rattle.lu_proof_lawful.proofs.Invariants.Groups.{turn}
use Rattle.lu_proof_lawful.proofs.Invariants.Exact.{gone_in, kept_then}
use Rattle.lu_proof_lawful.proofs.Laws.CloseLines.{IsShow}
use Rattle.lu_proof_lawful.proofs.Laws.CloseSlots.{recovering_none, slot_now}
use Rattle.lu_proof_lawful.proofs.Laws.Evictions.{commit_in}
use Rattle.lu_proof_lawful.proofs.Laws.CloseDecides as decides
use Rattle.lu_proof_lawful.proofs.Laws.CloseTurn.{trail, onto, closing_turn, AllShow, done_show, last_of, decided_then, gone_life}
use Rattle.lu_proof_lawful.proofs.Laws.CloseTurn.{last_evicted_is}
use Rattle.lu_proof_lawful.proofs.Laws.CloseShows.{Sound, finished, next_shown}

-- ---- those who leave come in order

abbrev pub EvictsRise : List Entry → Type 0
EvictsRise [] = Unit {0}
EvictsRise (e ∷ es) = elim e [
  | Evict who cause ↦ ((x : Who) (c : Cause) → In (Evict x c) es → life_before who x ≡ true) × EvictsRise es
  | _
      ↦ EvictsRise es
]

rest_rise : (e : Entry) (es : List Entry) → EvictsRise (e ∷ es) → EvictsRise es
rest_rise (Evict who cause) es r = r.1
rest_rise e es r = r

left_rise : (done left : List Entry) → EvictsRise (onto done left) → EvictsRise left
left_rise [] left r = r
left_rise (e ∷ done) left r = rest_rise e left (left_rise done (e ∷ left) r)

-- each that was shown comes before each that is left
before_each : (done left : List Entry) → EvictsRise (onto done left) → (x y : Who) (c d : Cause) → In (Evict x c) done → In (Evict y d) left
    → life_before x y ≡ true
before_each [] left r x y c d i j = absurd i
before_each (e ∷ done) left r x y c d (inl q) j = (subst (λ (v : Entry). EvictsRise (v ∷ left)) q (left_rise done (e ∷ left) r)).0 y d j
before_each (e ∷ done) left r x y c d (inr i) j = before_each done (e ∷ left) r x y c d i (inr j)

kept_gone : (ds : List Deed) (rest : List Entry) → EvictsRise rest → EvictsRise (kept_lines ds ++ rest)
kept_gone [] rest r = r
kept_gone (d ∷ ds) rest r = kept_gone ds rest r

restore_gone : (ls : List Lock) (rest : List Entry) → EvictsRise rest → EvictsRise (restore_lines ls ++ rest)
restore_gone [] rest r = r
restore_gone (l ∷ ls) rest r = restore_gone ls rest r

ready_gone : (o : Outcome) (ws : List Who) (rest : List Entry) → EvictsRise rest → EvictsRise (shows_ready o ws ++ rest)
ready_gone o [] rest r = r
ready_gone o (w ∷ ws) rest r = ready_gone o ws rest r

joined_gone : (o : Outcome) (ws : List Who) → EvictsRise (shows_joined o ws)
joined_gone o [] = tt
joined_gone o (w ∷ ws) = joined_gone o ws

-- nobody leaves in these
none_ready : (o : Outcome) (ws us : List Who) (x : Who) (c : Cause) → In (Evict x c) (shows_ready o ws ++ shows_joined o us) → ⊥
none_ready o [] [] x c i = i
none_ready o [] (w ∷ us) x c (inl q) = let e : Joined w ≡ Evict x c = q in cc
none_ready o [] (w ∷ us) x c (inr (inl q)) = cc
none_ready o [] (w ∷ us) x c (inr (inr i)) = none_ready o [] us x c i
none_ready o (w ∷ ws) us x c (inl q) = cc
none_ready o (w ∷ ws) us x c (inr i) = none_ready o ws us x c i

gone_among : (o : Outcome) (gone : List Gone) (rest : List Entry) → ((x : Who) (c : Cause) → In (Evict x c) rest → ⊥)
    → (x : Who) (c : Cause) → In (Evict x c) (shows_evicted o gone ++ rest) → In (record { who = x; cause = c }) gone
gone_among o [] rest n x c i = absurd (n x c i)
gone_among o (g ∷ gone) rest n x c (inl q) = inl (same g.who x g.cause c q)
  where
    same : (a b : Who) (k m : Cause) → Evict a k ≡ Evict b m → ◌≡◌ {A = Gone} (record { who = a; cause = k })
        (record { who = b; cause = m })
    same a b k m q = let w : a ≡ b = cc in let s : k ≡ m = cc in rw (w, s) refl
gone_among o (g ∷ gone) rest n x c (inr (inl q)) = absurd (cc)
gone_among o (g ∷ gone) rest n x c (inr (inr i)) = inr (gone_among o gone rest n x c i)

abbrev GoneRise : List Gone → Type 0
GoneRise [] = Unit {0}
GoneRise (g ∷ gone) = ((x : Gone) → In x gone → life_before g.who x.who ≡ true) × GoneRise gone

after_in : (w : Who) (ws : List Who) → AllAfter w ws → (x : Who) → In x ws → life_before w x ≡ true
after_in w [] a x i = absurd i
after_in w (y ∷ ws) a x (inl q) = subst (λ (v : Who). life_before w v ≡ true) q a.0
after_in w (y ∷ ws) a x (inr i) = after_in w ws a.1 x i

gone_rise : (v : window.Window) (kept : List ℕ) (lives : List Who) → InOrder lives → GoneRise (window.gone_from v kept lives)
gone_rise v kept [] r = tt
gone_rise v kept (w ∷ lives) r = by (not (window.is_back v w) || window.is_left v w) (window.has_gap v kept w) (gone_rise v kept lives r.1)
  where
    first : (x : Gone) → In x (window.gone_from v kept lives) → life_before w x.who ≡ true
    first x i = after_in w lives r.0 x.who (gone_in v kept lives x i).0

    by : (a b : Bool) → GoneRise (window.gone_from v kept lives) → GoneRise (window.gone_with a b w (window.gone_from v kept lives))
    by true b h = (first, h)
    by false true h = (first, h)
    by false false h = h

evicted_gone : (o : Outcome) (gone : List Gone) (rest : List Entry) → ((x : Who) (c : Cause) → In (Evict x c) rest → ⊥) → EvictsRise rest
    → GoneRise gone → EvictsRise (shows_evicted o gone ++ rest)
evicted_gone o [] rest n r g = r
evicted_gone o (x ∷ gone) rest n r g = (
  (λ w c i. ⊎_elim (λ (q : _ ≡ Evict w c). absurd (cc))
      (λ (j : In (Evict w c) (shows_evicted o gone ++ rest)). g.0 (record { who = w; cause = c }) (gone_among o gone rest n w c j)) i),
  evicted_gone o gone rest n r g.1,
)

shows_rise : (o : Outcome) (lives : List Who) → GoneRise o.gone → EvictsRise (shows o lives)
shows_rise o lives g =
    kept_gone o.kept (restore_lines o.locks ++ (shows_evicted o o.gone ++ (shows_ready o (staying o lives) ++ shows_joined o o.joins)))
    (restore_gone o.locks (shows_evicted o o.gone ++ (shows_ready o (staying o lives) ++ shows_joined o o.joins))
    (evicted_gone o o.gone (shows_ready o (staying o lives) ++ shows_joined o o.joins) (none_ready o (staying o lives) o.joins)
    (ready_gone o (staying o lives) (shows_joined o o.joins) (joined_gone o o.joins)) g))

-- who is shown to leave leaves
shown_gone : (o : Outcome) (lives : List Who) (x : Who) (c : Cause) → In (Evict x c) (shows o lives)
    → In (record { who = x; cause = c }) o.gone
shown_gone o lives x c (inl q) = absurd (cc)
shown_gone o lives x c (inr i) = kept o.kept i
  where
    rest : List Entry
    rest = shows_ready o (staying o lives) ++ shows_joined o o.joins

    restores : (ls : List Lock) → In (Evict x c) (restore_lines ls ++ (shows_evicted o o.gone ++ rest))
        → In (record { who = x; cause = c }) o.gone
    restores [] i = gone_among o o.gone rest (none_ready o (staying o lives) o.joins) x c i
    restores (l ∷ ls) (inl q) = absurd (let e : Restore l ≡ Evict x c = q in cc)
    restores (l ∷ ls) (inr i) = restores ls i

    kept : (ds : List Deed) → In (Evict x c) (kept_lines ds ++ (restore_lines o.locks ++ (shows_evicted o o.gone ++ rest)))
        → In (record { who = x; cause = c }) o.gone
    kept [] i = restores o.locks i
    kept (d ∷ ds) (inl q) = absurd (let e : Kept d.reply.txn ≡ Evict x c = q in cc)
    kept (d ∷ ds) (inr i) = kept ds i

-- ---- the commit of the close was shown

first_done : (done left : List Entry) (x : Entry) (xs : List Entry) → onto done left ≡ x ∷ xs → (left ≡ x ∷ xs) ⊎ In x done
first_done [] left x xs q = inl q
first_done (e ∷ done) left x xs q = ⊎_elim (λ (s : e ∷ left ≡ x ∷ xs). inr (inl (head s))) (λ (i : In x done). inr (inr i))
    (first_done done (e ∷ left) x xs q)
  where
    head : e ∷ left ≡ x ∷ xs → e ≡ x
    head s = cc

turn_has : (at : At) (done : List Entry) (past : List Line) (x : Entry) → In x done → IsCommit x → InTurn IsCommit (trail at done past) at
turn_has at [] past x i p = absurd i
turn_has at (e ∷ done) past x (inl q) p = inl (refl, subst IsCommit (sym q) p)
turn_has at (e ∷ done) past x (inr i) p = inr (turn_has at done past x i p)

-- ---- the slot by the lines

module _ (t : ℕ) (at : At) (who : Who) where
  right : (a b : Bool) → b ≡ true → (a || b) ≡ true
  right true b e = refl
  right false b e = e

  joined_more : (e : Entry) (past : List Line) → has_joined t (printed past) who ≡ true → has_joined t (printed (line at e ∷ past)) who
      ≡ true
  joined_more (Joined o) past h = right _ (has_joined t (printed past) who) h
  joined_more e past h = by (printed_entry (count_sent past + 1) e) h
    where
      by : (k : Option PrintedEntry) → has_joined t (printed past) who ≡ true
          → has_joined t (elim k [ None ↦ printed past | Some x ↦ record { at = at; entry = x } ∷ printed past ]) who ≡ true
      by None h = h
      by (Some x) h = right _ (has_joined t (printed past) who) h

  joined_trail : (done : List Entry) (past : List Line) → has_joined t (printed past) who ≡ true
      → has_joined t (printed (trail at done past)) who ≡ true
  joined_trail [] past h = h
  joined_trail (e ∷ done) past h = joined_more e (trail at done past) (joined_trail done past h)

  -- who isn't among those evicted stays so
  evicted_trail : (done : List Entry) (past : List Line) → AllShow done → ((c : Cause) → In (Evict who c) done → ⊥)
      → is_evicted t (printed past) who ≡ false → is_evicted t (printed (trail at done past)) who ≡ false
  evicted_trail [] past all n h = h
  evicted_trail (e ∷ done) past all n h = by e all.0 (λ c q. n c (inl q)) (evicted_trail done past all.1 (λ c i. n c (inr i)) h)
    where
      off : (a b : Bool) → b ≡ false → (a && b) ≡ false
      off true b e = e
      off false b e = refl

      other : (o : Who) (c : Cause) → (Evict o c ≡ Evict who c → ⊥) → same_life o who ≡ false
      other o c n = of (same_life o who) refl
        where
          of : (b : Bool) → same_life o who ≡ b → b ≡ false
          of false e = refl
          of true e = absurd (n (ap (λ (w : Who). Evict w c) (life_is o who e)))

      both : (a b d : Bool) → b ≡ false → d ≡ false → ((a && b) || d) ≡ false
      both a b d p q = ap (λ (x : Bool). x || d) (off a b p) ∙ q

      by : (e : Entry) → IsShow e → ((c : Cause) → e ≡ Evict who c → ⊥) → is_evicted t (printed (trail at done past)) who ≡ false
          → is_evicted t (printed (line at e ∷ trail at done past)) who ≡ false
      by (Evict o c) i m h = both _ (same_life o who) (is_evicted t (printed (trail at done past)) who) (other o c (m c)) h
      by (Commit to batch) i m h = h
      by (Kept number) i m h = h
      by (Restore lock) i m h = h
      by (Joined w) i m h = h
      by (Send to message) i m h = h
      by x i m h = absurd i

-- ---- the law

pub leaves_law : (head : Head) (past : List Line) (stamp : Stamp) (t : ℕ) (who : Who) (cause : Cause) (later : List PrintedLine)
    → Steps past (turn stamp (Target t)) → Grown head past → Due head (only t past) (turn stamp (Target t)) (Evict who cause)
    → Sound (turn stamp (Target t)) later
    → EvictAt t (printed past) (turn stamp (Target t)) later who cause
leaves_law head past stamp t who cause later s g due sound =
    let at = turn stamp (Target t) in
    let c = closing_turn head t past at g refl s due.2 (Evict who cause) due.0 due.1 in
    let all = done_show head t past at (Evict who cause ∷ due.0) c in
    let lives = lives_of head.clients (only t c.before) in
    let gone = shown_gone c.outcome lives who cause (subst (λ (es : List Entry). In (Evict who cause) es) (sym c.parts)
    (next_shown (Evict who cause) c.done due.0)) in
    let ok : CloseOk head (only t c.before) at c.outcome = c.allowed.of t (self t) in
    let why = decides.gone_law 0 head t c.before stamp c.outcome (self t) c.allowed c.grown (omega arith)
    (record { who = who; cause = cause }) gone in
    let rise : EvictsRise (onto c.done (Evict who cause ∷ due.0)) =
    subst EvictsRise c.parts (shows_rise c.outcome lives (subst (λ (v : Outcome). GoneRise v.gone) (sym ok.is)
    (gone_rise (window_then head t c.before) (kept_then head (only t c.before)) lives
    (sound_of head (only t c.before) (grown_of head t c.before c.grown)).story.order)))
    in
    let slot : has_slot t (printed c.before) who ≡ true = slot_now head t c.before c.grown
    (recovering_none head (only t c.before) (grown_of head t c.before c.grown) ok.recovers) who why.0 in
    let what : decided (λ b. cause_at t b who) at (printed past) later ≡ Some (cause_at t (printed c.before) who) =
    cond-true (is_finished at (printed past) later) (newest (closes_in (λ b. cause_at t b who) at) (printed past)) None
    (finished head past at later g sound)
    ∙ ap (λ (p : List Line). newest (closes_in (λ b. cause_at t b who) at) (printed p)) c.is
    ∙ decided_then (λ b. cause_at t b who) at c.outcome c.before c.done all
    in
    let last : last_evicted at (printed past) ≡ unwrap_or (last_of gone_life c.done) None =
    ap (λ (p : List Line). last_evicted at (printed p)) c.is ∙ last_evicted_is at c.outcome c.before c.done all in
    record {
      slot = subst (λ (p : List Line). has_slot t (printed p) who ≡ true) (sym c.is)
          (still at c.done c.outcome c.before all (λ k i. before_not_self who
          (before_each c.done (Evict who cause ∷ due.0) rise who who k cause i (inl refl))) slot);
      commit = subst (λ (p : List Line). any_in is_commit at (printed p) ≡ true) (sym c.is)
          (commit_in (trail at c.done (line at (Close c.outcome) ∷ c.before)) at
          (turn_has at c.done (line at (Close c.outcome) ∷ c.before) (commit_of c.outcome)
          (shown_first c.outcome c.done _ due.0 (first_done c.done (Evict who cause ∷ due.0) (commit_of c.outcome) _ (sym c.parts))) tt));
      caused = subst (λ (v : Option (Option Cause)). EvictedIn t (printed past) at who cause v) (sym what) (record {
        named = why.1;
        rises = subst (λ (v : Option Who). is_above v who ≡ true) (sym last)
            (above c.done (λ x k i. before_each c.done (Evict who cause ∷ due.0) rise x who k cause i (inl refl)));
      });
    }
  where
    window_then : (head : Head) (t : ℕ) (before : List Line) → window.Window
    window_then head t before = window_of head.osts head.clients (only t before)

    shown_first : (o : Outcome) (done : List Entry) (xs ys : List Entry) → (Evict who cause ∷ ys ≡ commit_of o ∷ xs) ⊎ In (commit_of o) done
        → In (commit_of o) done
    shown_first o done xs ys (inl q) = absurd (let e : Evict who cause ≡ commit_of o = cc in cc)
    shown_first o done xs ys (inr i) = i

    above : (done : List Entry) → ((x : Who) (k : Cause) → In (Evict x k) done → life_before x who ≡ true)
        → is_above (unwrap_or (last_of gone_life done) None) who ≡ true
    above [] h = refl
    above (e ∷ done) h = by e (λ x k q. h x k (inl q)) (above done (λ x k i. h x k (inr i)))
      where
        by : (e : Entry) → ((x : Who) (k : Cause) → e ≡ Evict x k → life_before x who ≡ true)
            → is_above (unwrap_or (last_of gone_life done) None) who ≡ true → is_above (unwrap_or (last_of gone_life (e ∷ done)) None) who
            ≡ true
        by (Evict x k) f g = f x k refl
        by e f g = g

    still : (at : At) (done : List Entry) (o : Outcome) (before : List Line) → AllShow done → ((k : Cause) → In (Evict who k) done → ⊥)
        → has_slot t (printed before) who ≡ true → has_slot t (printed (trail at done (line at (Close o) ∷ before))) who ≡ true
    still at done o before all n e =
        let p = and_parts (nat_eq who.life 1 || has_joined t (printed before) who) (not (is_evicted t (printed before) who)) e in
        both (nat_eq who.life 1 || has_joined t (printed (trail at done (line at (Close o) ∷ before))) who)
        (is_evicted t (printed (trail at done (line at (Close o) ∷ before))) who)
        (more (nat_eq who.life 1) (has_joined t (printed before) who)
        (has_joined t (printed (trail at done (line at (Close o) ∷ before))) who)
        (λ j. joined_trail t at who done (line at (Close o) ∷ before) (joined_more t at who (Close o) before j)) p.0)
        (evicted_trail t at who done (line at (Close o) ∷ before) all n (off (is_evicted t (printed before) who) p.1))
      where
        both : (a b : Bool) → a ≡ true → b ≡ false → (a && not b) ≡ true
        both true b e f = rw f refl
        both false b e f = absurd (cc)

        more : (a b c : Bool) → (b ≡ true → c ≡ true) → (a || b) ≡ true → (a || c) ≡ true
        more true b c f e = refl
        more false b c f e = f e

        off : (b : Bool) → not b ≡ true → b ≡ false
        off true e = absurd (cc)
        off false e = refl
