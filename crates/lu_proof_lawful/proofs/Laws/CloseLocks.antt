-- A lock that a close restores by the law of recovery: the close decided it, and it has no other such line in the turn.
use Rattle.std.proofs.Common.{◌≡◌, ℕ, ◌≤◌, Bool, true, false, List, [], ◌∷◌, ◌++◌, Option, Some, None, inl, inr, refl, sym, subst, ap, ◌∙◌}
use Rattle.std.proofs.Common.{arith}
use Rattle.std.specs.Prelude.{nat_eq, unwrap_or}
use Rattle.std.specs.Bool.{then_some}
use Rattle.std.specs.List.{find}
use Rattle.std.proofs.lemmas.Bool.{and_parts, and_from, cond-true, eqb-true, true≢false}
use Rattle.std.proofs.lemmas.Bool.Decides.{nat_tests}
use Rattle.lu_base.specs.declared.ids.Node.TheVariants.{Target}
use Rattle.lu_base.specs.declared.ids.Stamp.{Stamp}
use Rattle.lu_base.specs.declared.ids.Who.{Who}
use Rattle.lu_base.specs.declared.locks.Lock.{Lock}
use Rattle.lu_trace.specs.declared.entries.Line.{Line as PrintedLine}
use Rattle.lu_spec_entries.specs.Carried.{Deed, Gone, Outcome}
use Rattle.lu_spec_entries.specs.Words.{Entry, Kept, Restore, Evict, Joined, Line, same_life}
use Rattle.lu_spec_entries.specs.Concerns.{only}
use Rattle.lu_spec_entries.specs.Printed.{printed}
use Rattle.lu_spec_target.specs.Recovery.{kept_lines, restore_lines}
use Rattle.lu_spec_target.specs.Windows.{brought_before}
use Rattle.lu_proof_lawful.specs.Covered.TargetStates.{lives_of}
use Rattle.lu_proof_lawful.specs.Covered.TargetCloses.{shows_evicted, shows_ready, shows_joined, staying, shows}
use Rattle.lu_proof_lawful.specs.Covered.Heads.{Head}
use Rattle.lu_spec_laws.specs.Words.Pasts.{or_else, newest}
use Rattle.lu_spec_laws.specs.Words.Closes.{restored_at, is_lock, is_finished, closes_in, decided, has_restored}
use Rattle.lu_spec_laws.specs.Laws.Recovery.{RestoredIn, RestoredAt}
use Rattle.lu_proof_lawful.proofs.Preconditions.Guards.{In, Steps}
use Rattle.lu_proof_lawful.proofs.Preconditions.StoryGuards.{Due}
use Rattle.lu_proof_lawful.proofs.Preconditions.Grown.{Grown}
use Rattle.lu_proof_lawful.proofs.Preconditions.Lists.{self, life_is, life_self}
use Rattle.lu_proof_lawful.proofs.Invariants.Groups.{turn, BroughtRise}
use Rattle.lu_proof_lawful.proofs.Laws.CloseRestores as restored
use Rattle.lu_proof_lawful.proofs.Laws.CloseTurn.{onto, closing_turn, done_show, last_of, decided_then, restored_it, has_restored_is}
use Rattle.lu_proof_lawful.proofs.Laws.CloseShows.{Sound, finished, next_shown}

-- ---- those that are restored come in order

abbrev RestoresRise : List Entry → Type 0
RestoresRise [] = Unit {0}
RestoresRise (e ∷ es) = elim e [
  | Restore lock ↦ ((k : Lock) → In (Restore k) es → brought_before lock k ≡ true) × RestoresRise es
  | _
      ↦ RestoresRise es
]

rest_rise : (e : Entry) (es : List Entry) → RestoresRise (e ∷ es) → RestoresRise es
rest_rise (Restore lock) es r = r.1
rest_rise e es r = r

left_rise : (done left : List Entry) → RestoresRise (onto done left) → RestoresRise left
left_rise [] left r = r
left_rise (e ∷ done) left r = rest_rise e left (left_rise done (e ∷ left) r)

before_each : (done left : List Entry) → RestoresRise (onto done left) → (k l : Lock) → In (Restore k) done → In (Restore l) left
    → brought_before k l ≡ true
before_each [] left r k l i j = absurd i
before_each (e ∷ done) left r k l (inl q) j = (subst (λ (v : Entry). RestoresRise (v ∷ left)) q (left_rise done (e ∷ left) r)).0 l j
before_each (e ∷ done) left r k l (inr i) j = before_each done (e ∷ left) r k l i (inr j)

kept_rise : (ds : List Deed) (rest : List Entry) → RestoresRise rest → RestoresRise (kept_lines ds ++ rest)
kept_rise [] rest r = r
kept_rise (d ∷ ds) rest r = kept_rise ds rest r

evicted_rise : (o : Outcome) (gone : List Gone) (rest : List Entry) → RestoresRise rest → RestoresRise (shows_evicted o gone ++ rest)
evicted_rise o [] rest r = r
evicted_rise o (g ∷ gone) rest r = evicted_rise o gone rest r

ready_rise : (o : Outcome) (ws : List Who) (rest : List Entry) → RestoresRise rest → RestoresRise (shows_ready o ws ++ rest)
ready_rise o [] rest r = r
ready_rise o (w ∷ ws) rest r = ready_rise o ws rest r

joined_rise : (o : Outcome) (ws : List Who) → RestoresRise (shows_joined o ws)
joined_rise o [] = tt
joined_rise o (w ∷ ws) = joined_rise o ws

none_else : (o : Outcome) (gone : List Gone) (ws us : List Who) (k : Lock)
    → In (Restore k) (shows_evicted o gone ++ (shows_ready o ws ++ shows_joined o us)) → ⊥
none_else o [] [] [] k i = i
none_else o [] [] (w ∷ us) k (inl q) = let e : Joined w ≡ Restore k = q in cc
none_else o [] [] (w ∷ us) k (inr (inl q)) = cc
none_else o [] [] (w ∷ us) k (inr (inr i)) = none_else o [] [] us k i
none_else o [] (w ∷ ws) us k (inl q) = cc
none_else o [] (w ∷ ws) us k (inr i) = none_else o [] ws us k i
none_else o (g ∷ gone) ws us k (inl q) = let e : Evict g.who g.cause ≡ Restore k = q in cc
none_else o (g ∷ gone) ws us k (inr (inl q)) = cc
none_else o (g ∷ gone) ws us k (inr (inr i)) = none_else o gone ws us k i

lock_among : (ls : List Lock) (rest : List Entry) → ((k : Lock) → In (Restore k) rest → ⊥) → (k : Lock)
    → In (Restore k) (restore_lines ls ++ rest) → In k ls
lock_among [] rest n k i = absurd (n k i)
lock_among (l ∷ ls) rest n k (inl q) = inl (same l k q)
  where
    same : (l k : Lock) → Restore l ≡ Restore k → l ≡ k
    same l k q = cc
lock_among (l ∷ ls) rest n k (inr i) = inr (lock_among ls rest n k i)

restore_rise : (ls : List Lock) (rest : List Entry) → ((k : Lock) → In (Restore k) rest → ⊥) → RestoresRise rest → BroughtRise ls
    → RestoresRise (restore_lines ls ++ rest)
restore_rise [] rest n r b = r
restore_rise (l ∷ ls) rest n r b = ((λ k i. b.0 k (lock_among ls rest n k i)), restore_rise ls rest n r b.1)

shows_rise : (o : Outcome) (lives : List Who) → BroughtRise o.locks → RestoresRise (shows o lives)
shows_rise o lives b =
    kept_rise o.kept (restore_lines o.locks ++ (shows_evicted o o.gone ++ (shows_ready o (staying o lives) ++ shows_joined o o.joins)))
    (restore_rise o.locks (shows_evicted o o.gone ++ (shows_ready o (staying o lives) ++ shows_joined o o.joins))
    (none_else o o.gone (staying o lives) o.joins)
    (evicted_rise o o.gone (shows_ready o (staying o lives) ++ shows_joined o o.joins)
    (ready_rise o (staying o lives) (shows_joined o o.joins) (joined_rise o o.joins))) b)

shown_lock : (o : Outcome) (lives : List Who) (k : Lock) → In (Restore k) (shows o lives) → In k o.locks
shown_lock o lives k (inl q) = absurd (cc)
shown_lock o lives k (inr i) = kept o.kept i
  where
    rest : List Entry
    rest = shows_evicted o o.gone ++ (shows_ready o (staying o lives) ++ shows_joined o o.joins)

    kept : (ds : List Deed) → In (Restore k) (kept_lines ds ++ (restore_lines o.locks ++ rest)) → In k o.locks
    kept [] i = lock_among o.locks rest (none_else o o.gone (staying o lives) o.joins) k i
    kept (d ∷ ds) (inl q) = absurd (let e : Kept d.reply.txn ≡ Restore k = q in cc)
    kept (d ∷ ds) (inr i) = kept ds i

-- ---- the law

found : (f : Lock → Bool) (lock : Lock) (ls : List Lock) → In lock ls → f lock ≡ true → ((k : Lock) → In k ls → f k ≡ true → k ≡ lock)
    → find f ls ≡ Some lock
found f lock [] i e one = absurd i
found f lock (k ∷ ls) i e one = by (f k) refl i (λ j. found f lock ls j e (λ x m. one x (inr m)))
  where
    by : (b : Bool) → f k ≡ b → In lock (k ∷ ls) → (In lock ls → find f ls ≡ Some lock) → find f (k ∷ ls) ≡ Some lock
    by true q j h = rw q (ap (λ (v : Lock). Some v) (one k (inl refl) q))
    by false q (inl s) h = absurd (true≢false (sym e ∙ ap f (sym s) ∙ q))
    by false q (inr j) h = rw q (h j)

pub restored_law : (head : Head) (past : List Line) (stamp : Stamp) (t : ℕ) (lock : Lock) (later : List PrintedLine)
    → Steps past (turn stamp (Target t)) → Grown head past → Due head (only t past) (turn stamp (Target t)) (Restore lock)
    → Sound (turn stamp (Target t)) later
    → RestoredAt t (printed past) (turn stamp (Target t)) later lock
restored_law head past stamp t lock later s g due sound =
    let at = turn stamp (Target t) in
    let c = closing_turn head t past at g refl s due.2 (Restore lock) due.0 due.1 in
    let all = done_show head t past at (Restore lock ∷ due.0) c in
    let lives = lives_of head.clients (only t c.before) in
    let there = shown_lock c.outcome lives lock (subst (λ (es : List Entry). In (Restore lock) es) (sym c.parts)
    (next_shown (Restore lock) c.done due.0)) in
    let few : 0 ≤ head.clients = omega arith in
    let mine = restored.outcome_lock 0 head t c.before stamp c.outcome (self t) c.allowed c.grown few lock there in
    let rise : RestoresRise (onto c.done (Restore lock ∷ due.0)) =
    subst RestoresRise c.parts (shows_rise c.outcome lives (restored.locks_rise 0 head t c.before stamp c.outcome (self t) c.allowed
    c.grown few)) in
    let what : decided (restored_at t) at (printed past) later ≡ Some (restored_at t (printed c.before)) =
    cond-true (is_finished at (printed past) later) (newest (closes_in (restored_at t) at) (printed past)) None
    (finished head past at later g sound)
    ∙ ap (λ (p : List Line). newest (closes_in (restored_at t) at) (printed p)) c.is
    ∙ decided_then (restored_at t) at c.outcome c.before c.done all
    in
    let once : has_restored at lock.ask.who lock.cookie.0 (printed past)
    ≡ unwrap_or (last_of (restored_it lock.ask.who lock.cookie.0) c.done) false =
    ap (λ (p : List Line). has_restored at lock.ask.who lock.cookie.0 (printed p)) c.is
    ∙ has_restored_is at lock.ask.who lock.cookie.0 c.outcome c.before c.done all
    in
    subst (λ (v : Option (List Lock)). RestoredIn v (has_restored at lock.ask.who lock.cookie.0 (printed past)) lock) (sym what) (record {
      named = found (is_lock lock.ask.who lock.cookie.0) lock (restored_at t (printed c.before))
          (restored.lock_law 0 head t c.before stamp c.outcome (self t) c.allowed c.grown few lock there)
          (and_from (same_life lock.ask.who lock.ask.who) (nat_eq lock.cookie.0 lock.cookie.0) (life_self lock.ask.who)
          (self lock.cookie.0))
          (λ x i e. restored.same_lock 0 head t c.before stamp c.outcome (self t) c.allowed c.grown few x lock
          (restored.law_lock 0 head t c.before stamp c.outcome (self t) c.allowed c.grown few x i) mine
          (eqb-true x.cookie.0 lock.cookie.0 (and_parts (same_life x.ask.who lock.ask.who) (nat_eq x.cookie.0 lock.cookie.0) e).1));
      once = once ∙ never c.done (λ x i. before_each c.done (Restore lock ∷ due.0) rise x lock i (inl refl));
    })
  where
    apart : (x : Lock) → brought_before x lock ≡ true → is_lock lock.ask.who lock.cookie.0 x ≡ false
    apart x b = by (is_lock lock.ask.who lock.cookie.0 x) refl
      where
        by : (v : Bool) → is_lock lock.ask.who lock.cookie.0 x ≡ v → v ≡ false
        by false e = refl
        by true e =
            let p = and_parts (same_life x.ask.who lock.ask.who) (nat_eq x.cookie.0 lock.cookie.0) e in
            let who : x.ask.who ≡ lock.ask.who = life_is x.ask.who lock.ask.who p.0 in
            let client : x.ask.who.client ≡ lock.ask.who.client = ap (λ (w : Who). w.client) who in
            let life : x.ask.who.life ≡ lock.ask.who.life = ap (λ (w : Who). w.life) who in
            let cookie = eqb-true x.cookie.0 lock.cookie.0 p.1 in
            absurd (grind (arith, nat_tests, client, life, cookie, b))

    never : (done : List Entry) → ((x : Lock) → In (Restore x) done → brought_before x lock ≡ true)
        → unwrap_or (last_of (restored_it lock.ask.who lock.cookie.0) done) false ≡ false
    never [] h = refl
    never (e ∷ done) h = by e (λ x q. h x (inl q)) (never done (λ x i. h x (inr i)))
      where
        none : (b : Bool) → b ≡ false → unwrap_or (last_of (restored_it lock.ask.who lock.cookie.0) done) false ≡ false
            → unwrap_or (or_else (then_some b true) (last_of (restored_it lock.ask.who lock.cookie.0) done)) false ≡ false
        none false e n = n
        none true e n = absurd (cc)

        by : (e : Entry) → ((x : Lock) → e ≡ Restore x → brought_before x lock ≡ true)
            → unwrap_or (last_of (restored_it lock.ask.who lock.cookie.0) done) false ≡ false
            → unwrap_or (last_of (restored_it lock.ask.who lock.cookie.0) (e ∷ done)) false ≡ false
        by (Restore x) f n = none (is_lock lock.ask.who lock.cookie.0 x) (apart x (f x refl)) n
        by e f n = n
