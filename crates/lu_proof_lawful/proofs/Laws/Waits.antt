-- The granted and the waiting locks of a target as a printed past shows them: while it serves those that wait are the target's, in their
-- order,
-- and those that are granted are all that it has shown since it was last down.
use Rattle.std.proofs.Common.{◌≡◌, ℕ, ◌+◌, ◌<◌, Bool, true, false, List, [], ◌∷◌, ◌++◌, ◌⊎◌, inl, inr, ⊎_elim, Option, Some, None, refl}
use Rattle.std.proofs.Common.{sym, subst, ap, ◌∙◌, arith}
use Rattle.std.specs.Prelude.{nat_eq, not, ◌||◌, if◌then◌else◌}
use Rattle.std.proofs.lemmas.Bool.{cond_both, cond-true, cond-false, eqb-true, eq-eqb}
use Rattle.lu_base.specs.declared.ids.At.{At}
use Rattle.lu_base.specs.declared.ids.Node.{Node}
use Rattle.lu_base.specs.declared.ids.Node.TheVariants.{Client, Target}
use Rattle.lu_base.specs.declared.ids.Stamp.{Stamp}
use Rattle.lu_base.specs.declared.ids.Who.{Who}
use Rattle.lu_base.specs.declared.locks.Lock.{Lock}
use Rattle.lu_spec_entries.specs.Carried.{Deed}
use Rattle.lu_spec_entries.specs.Words.{Entry, Act, Grant, Wait, Release, Crash, Boot, Close, Restore, Evict, Line, line, same_life}
use Rattle.lu_spec_entries.specs.Concerns.{concerns, only}
use Rattle.lu_spec_entries.specs.Printed.{printed}
use Rattle.lu_spec_target.specs.Locks.{with_lock, with_locks, without_lock, locks_without}
use Rattle.lu_proof_lawful.specs.Covered.Heads.{Head}
use Rattle.lu_proof_lawful.specs.Covered.TargetStates.{server_of, closed_of, up_of, shown_of}
use Rattle.lu_spec_laws.specs.Words.Queues.{has_cookie, without, of_others, without_first, granted, waiting}
use Rattle.lu_proof_lawful.proofs.Preconditions.Guards.{In}
use Rattle.lu_proof_lawful.proofs.Preconditions.StoryGuards.{IsServing, EntryOf}
use Rattle.lu_proof_lawful.proofs.Preconditions.Acts.{acts_sized, sized_bare}
use Rattle.lu_proof_lawful.proofs.Preconditions.Grown.{Allowed, Grown}
use Rattle.lu_proof_lawful.proofs.Preconditions.Lists.{in_filter, in_filtered}
use Rattle.lu_proof_lawful.proofs.Preconditions.LockLists.{Rises, AllAbove}
use Rattle.lu_proof_lawful.proofs.Preconditions.Only.{grown_of}
use Rattle.lu_proof_lawful.proofs.Preconditions.Sound.{sound_of}
use Rattle.lu_proof_lawful.proofs.Preconditions.QueueLists.{above_without}
use Rattle.lu_proof_lawful.proofs.Invariants.Groups.{turn}
use Rattle.lu_proof_lawful.proofs.Invariants.LockLists.{with_old, with_new}
use Rattle.lu_proof_lawful.proofs.Invariants.All.{holds}
use Rattle.lu_proof_lawful.proofs.Laws.Printed.{flip}
use Rattle.lu_proof_lawful.proofs.Laws.Given.{Showed, showed_gave}
use Rattle.lu_proof_lawful.proofs.Laws.Granted.{restored_showed, granted_showed, JustGave, all_granted}
use Rattle.lu_proof_lawful.proofs.Laws.Grows.{Same}

-- ---- lists

-- in rising cookie the first of one is the only one
first_is : (l : Lock) (locks : List Lock) → Rises locks → without_first l.cookie.0 locks ≡ without_lock l locks
first_is l [] r = refl
first_is l (k ∷ locks) r =
    cond_both (nat_eq k.cookie.0 l.cookie.0) locks (k ∷ without_first l.cookie.0 locks)
    (λ (ls : List Lock). ls ≡ without_lock l (k ∷ locks))
    (λ e.
    sym (above_without l locks (subst (λ (n : ℕ). AllAbove n locks) (eqb-true k.cookie.0 l.cookie.0 e) r.0))
    ∙ sym (cond-false (not (nat_eq k.cookie.0 l.cookie.0)) (k ∷ without_lock l locks) (without_lock l locks) (ap not e)))
    (λ e. ap (λ (ls : List Lock). k ∷ ls) (first_is l locks r.1)
    ∙ sym (cond-true (not (nat_eq k.cookie.0 l.cookie.0)) (k ∷ without_lock l locks) (without_lock l locks) (ap not e)))

or_false : (b : Bool) → (b || false) ≡ b
or_false true = refl
or_false false = refl

others_are : (who : Who) (locks : List Lock) → of_others who locks ≡ locks_without (who ∷ []) locks
others_are who [] = refl
others_are who (k ∷ locks) =
    ap (λ (b : Bool). if not b then k ∷ of_others who locks else of_others who locks) (sym (or_false (same_life k.ask.who who)))
    ∙ ap (λ (ls : List Lock). if not (same_life k.ask.who who || false) then k ∷ ls else ls) (others_are who locks)

-- ---- at one target

-- what stands in a story and in the locks that a printed past shows, after a line of that target or another one
split : (P : List Line → List Lock → Type 0) (p : List Line) (x : Line) (old new : List Lock) (a b : Bool) → a ≡ b
    → (a ≡ true → P (x ∷ p) new) → P p old → P (if a then x ∷ p else p) (if b then new else old)
split P p x old new true true e own other = own refl
split P p x old new false false e own other = other
split P p x old new true false e own other = absurd (cc)
split P p x old new false true e own other = absurd (cc)

module _ (head : Head) (t : ℕ) where
  -- a target that recovers, or is down, doesn't serve
  recovers_not : (p : List Line) → (nat_eq (closed_of p) (server_of head.osts p).boot ≡ false) → IsServing head.osts p → ⊥
  recovers_not p r s = let e : nat_eq (closed_of p) (server_of head.osts p).boot ≡ true =
      eq-eqb (closed_of p) (server_of head.osts p).boot s.closed in absurd (cc)

  down_not : (p : List Line) → up_of p ≡ false → IsServing head.osts p → ⊥
  down_not p d s = let up = s.up in absurd (cc)

  -- while it serves, what waits is so; and while it doesn't, none does
  abbrev WaitsSo : List Line → List Lock → Type 0
  WaitsSo p ws = record { are : IsServing head.osts p → ws ≡ (server_of head.osts p).queued; none : (ws ≡ []) ⊎ IsServing head.osts p }

  -- a line that isn't of the target's locks
  module _ (past : List Line) (stamp : Stamp) (g : Grown head past) where
    abbrev P : List Line
    P = only t past

    abbrev W : List Lock
    W = waiting t (printed past)

    abbrev new : Node → Entry → Line
    new node e = line (turn stamp node) e

    rises : Rises (server_of head.osts P).queued
    rises = (sound_of head P (grown_of head t past g)).story.waits_so.rises

    -- the line is of that target
    here : (u : ℕ) (e : Entry) → Allowed head past (turn stamp (Target u)) e → nat_eq t u ≡ true
        → EntryOf head P (turn stamp (Target u)) (Target u) e
    here u e a own = a.of t own

    calm_waits : (node : Node) (e : Entry) (b : Bool) → WaitsSo (new node e ∷ P) W → WaitsSo P W
        → WaitsSo (if b then new node e ∷ P else P) W
    calm_waits node e true own other = own
    calm_waits node e false own other = other

    keeps_waits : (node : Node) (e : Entry) → Allowed head past (turn stamp node) e → WaitsSo P W
        → WaitsSo (only t (new node e ∷ past)) (waiting t (printed (new node e ∷ past)))
    keeps_waits (Client c) (Wait lock d) a h = absurd a.ok
    keeps_waits (Client c) (Grant lock asked) a h = absurd a.ok
    keeps_waits (Client c) (Evict who cause) a h = absurd a.ok
    keeps_waits (Client c) Crash a h = absurd a.ok
    keeps_waits (Client c) (Boot boot disk) a h = absurd a.ok
    keeps_waits (Client c) (Close o) a h = absurd a.ok
    keeps_waits (Client c) e a h = calm_waits (Client c) e (concerns t (Client c) e) (record { are = h.are; none = h.none }) h
    keeps_waits (Target u) (Wait lock d) a h =
        split WaitsSo P (new (Target u) (Wait lock d)) W (W ++ lock ∷ []) (nat_eq t u) (nat_eq u t) (flip t u)
        (λ own. let serves = (here u (Wait lock d) a own).1.serves
        in record { are = λ s. ap (λ (ls : List Lock). ls ++ lock ∷ []) (h.are s); none = inr serves })
        h
    keeps_waits (Target u) (Grant lock asked) a h =
        split WaitsSo P (new (Target u) (Grant lock asked)) W (without_first lock.cookie.0 W) (nat_eq t u) (nat_eq u t) (flip t u)
        (λ own. record {
          are = λ s. ap (without_first lock.cookie.0) (h.are s) ∙ first_is lock (server_of head.osts P).queued rises;
          none = ⊎_elim (λ (e : W ≡ []). inl (ap (without_first lock.cookie.0) e)) (λ (s : IsServing head.osts P). inr s) h.none;
        })
        h
    keeps_waits (Target u) (Evict who cause) a h =
        split WaitsSo P (new (Target u) (Evict who cause)) W (of_others who W) (nat_eq t u) (nat_eq u t) (flip t u)
        (λ own. record {
          are = λ s. ap (of_others who) (h.are s) ∙ others_are who (server_of head.osts P).queued;
          none = ⊎_elim (λ (e : W ≡ []). inl (ap (of_others who) e)) (λ (s : IsServing head.osts P). inr s) h.none;
        })
        h
    keeps_waits (Target u) Crash a h =
        split WaitsSo P (new (Target u) Crash) W [] (nat_eq t u) (nat_eq u t) (flip t u)
        (λ own. record { are = λ s. absurd (down_not (new (Target u) Crash ∷ P) refl s); none = inl refl })
        h
    keeps_waits (Target u) (Boot boot disk) a h = by (nat_eq t u) refl
      where
        by : (b : Bool) → nat_eq t u ≡ b → WaitsSo (if b then new (Target u) (Boot boot disk) ∷ P else P) W
        by false e = h
        by true e =
            let of = here u (Boot boot disk) a e in
            let under = ((holds head past g).at t).phase.under in
            record {
              are = λ s. absurd (let closed = s.closed in let next = of.next in omega (arith, closed, next, under));
              none = ⊎_elim (λ (q : W ≡ []). inl q) (λ (s : IsServing head.osts P). absurd (down_not P of.down s)) h.none;
            }
    keeps_waits (Target u) (Close o) a h = by (nat_eq t u) refl
      where
        by : (b : Bool) → nat_eq t u ≡ b → WaitsSo (if b then new (Target u) (Close o) ∷ P else P) W
        by false e = h
        by true e =
            let none : W ≡ [] = ⊎_elim (λ (q : W ≡ []). q) (λ (s : IsServing head.osts P). absurd
            (recovers_not P (here u (Close o) a e).recovers s)) h.none in
            record { are = λ s. none; none = inl none }
    keeps_waits (Target u) e a h = calm_waits (Target u) e (concerns t (Target u) e) (record { are = h.are; none = h.none }) h

  waits_so : (past : List Line) → Grown head past → WaitsSo (only t past) (waiting t (printed past))
  waits_so [] g = record { are = λ s. refl; none = inl refl }
  waits_so (l ∷ past) g = keeps_waits past l.at.stamp g.1 l.at.node l.entry g.0 (waits_so past g.1)

  -- what waits as printed is what waits
  pub waiting_is : (past : List Line) → Grown head past → IsServing head.osts (only t past) → waiting t (printed past)
      ≡ (server_of head.osts (only t past)).queued
  waiting_is past g s = (waits_so past g).are s

  -- ---- those that are granted

  -- each that the printed past shows was shown since the target was last down; and while it doesn't serve, none is
  abbrev ShowsSo : List Line → List Lock → Type 0
  ShowsSo p ls = record { within : (l : Lock) → In l ls → In l (shown_of p); none : (ls ≡ []) ⊎ IsServing head.osts p }

  -- no two locks that were shown have one cookie
  one_shown : (past : List Line) → Grown head past → (k l : Lock) → Showed t past k → Showed t past l → k.cookie.0 ≡ l.cookie.0 → k ≡ l
  one_shown past g k l i j e =
      let a = showed_gave head t past k g i in
      let b = showed_gave head t past l g j in
      (((holds head past g).at t).locks.once a.0 b.0 k l a.1 b.1 (ap (λ (n : ℕ). record { 0 = n }) e)).1

  module _ (above : 0 < t) (past : List Line) (stamp : Stamp) (g : Grown head past) where
    abbrev Q : List Line
    Q = only t past

    abbrev G : List Lock
    G = granted t (printed past)

    abbrev newest : Node → Entry → Line
    newest node e = line (turn stamp node) e

    of_target : (u : ℕ) (e : Entry) → Allowed head past (turn stamp (Target u)) e → nat_eq t u ≡ true
        → EntryOf head Q (turn stamp (Target u)) (Target u) e
    of_target u e a own = a.of t own

    calm_shows : (node : Node) (e : Entry) (b : Bool) → ShowsSo (newest node e ∷ Q) G → ShowsSo Q G
        → ShowsSo (if b then newest node e ∷ Q else Q) G
    calm_shows node e true own other = own
    calm_shows node e false own other = other

    -- one more is shown
    comes : (e : Entry) (lock : Lock) → ShowsSo Q G → ((l : Lock) → In l G → l.cookie.0 ≡ lock.cookie.0 → l ≡ lock) → (l : Lock)
        → In l (lock ∷ G) → In l (with_lock lock (shown_of Q))
    comes e lock h one l (inl q) = subst (λ (k : Lock). In k (with_lock lock (shown_of Q))) q (with_new lock (shown_of Q))
    comes e lock h one l (inr i) = with_old lock l (shown_of Q) (one l i) (h.within l i)

    above_here : (u : ℕ) → nat_eq t u ≡ true → 0 < u
    above_here u own = subst (λ (n : ℕ). 0 < n) (eqb-true t u own) above

    granted_serves : (u : ℕ) (at : At) (lock : Lock) (asked : Option Deed) → nat_eq t u ≡ true
        → EntryOf head Q at (Target u) (Grant lock asked) → IsServing head.osts Q
    granted_serves u at lock None own of = of.1.serves
    granted_serves u at lock (Some d) own (inl of) = absurd (let high = above_here u own in let zero = of.0 in omega (arith, high, zero))
    granted_serves u at lock (Some d) own (inr of) = of.1.serves

    act_bare : (u : ℕ) (at : At) (d : Deed) → nat_eq t u ≡ true → EntryOf head Q at (Target u) (Act d) → d.reply.locks ≡ []
    act_bare u at d own of = sized_bare head.osts Q at d (acts_sized head.osts Q at u d (above_here u own) of)

    keeps_shows : (node : Node) (e : Entry) → Allowed head past (turn stamp node) e → ShowsSo Q G
        → ShowsSo (only t (newest node e ∷ past)) (granted t (printed (newest node e ∷ past)))
    keeps_shows (Client c) (Act d) a h = absurd a.ok
    keeps_shows (Client c) (Grant lock asked) a h = absurd a.ok
    keeps_shows (Client c) (Release lock) a h = absurd a.ok
    keeps_shows (Client c) (Restore lock) a h = absurd a.ok
    keeps_shows (Client c) Crash a h = absurd a.ok
    keeps_shows (Client c) (Boot boot disk) a h = absurd a.ok
    keeps_shows (Client c) (Close o) a h = absurd a.ok
    keeps_shows (Client c) e a h = calm_shows (Client c) e (concerns t (Client c) e) (record { within = h.within; none = h.none }) h
    keeps_shows (Target u) (Act d) a h = by (nat_eq t u) refl
      where
        by : (b : Bool) → nat_eq t u ≡ b → ShowsSo (if b then newest (Target u) (Act d) ∷ Q else Q) G
        by false e = h
        by true e = record {
          within = λ l i. subst (λ (ls : List Lock). In l (with_locks ls (shown_of Q)))
              (sym (act_bare u (turn stamp (Target u)) d e (of_target u (Act d) a e))) (h.within l i);
          none = h.none;
        }
    keeps_shows (Target u) (Grant lock asked) a h =
        split ShowsSo Q (newest (Target u) (Grant lock asked)) G (lock ∷ G) (nat_eq t u) (nat_eq u t) (flip t u)
        (λ own. record {
          within = comes (Grant lock asked) lock h (λ l i e. one_shown (newest (Target u) (Grant lock asked) ∷ past) (a, g) l lock
              (inr (granted_showed t head past l g i)) (inl (ap Target (sym (eqb-true t u own)), refl)) e);
          none = inr (granted_serves u (turn stamp (Target u)) lock asked own (of_target u (Grant lock asked) a own));
        })
        h
    keeps_shows (Target u) (Restore lock) a h =
        split ShowsSo Q (newest (Target u) (Restore lock)) G (lock ∷ G) (nat_eq t u) (nat_eq u t) (flip t u)
        (λ own. record {
          within = comes (Restore lock) lock h (λ l i e. one_shown past g l lock (granted_showed t head past l g i)
              (subst (λ (n : ℕ). Showed n past lock) (sym (eqb-true t u own)) (restored_showed head past stamp u lock a g)) e);
          none = inr (of_target u (Restore lock) a own).serves;
        })
        h
    keeps_shows (Target u) (Release lock) a h =
        split ShowsSo Q (newest (Target u) (Release lock)) G (without lock.cookie.0 G) (nat_eq t u) (nat_eq u t) (flip t u)
        (λ own. record {
          within = λ l i. let p = in_filter (λ (k : Lock). not (has_cookie lock.cookie.0 k)) l G i
              in in_filtered (λ (k : Lock). not (nat_eq k.cookie.0 lock.cookie.0)) l (shown_of Q) (h.within l p.0) p.1;
          none = inr (of_target u (Release lock) a own).0;
        })
        h
    keeps_shows (Target u) Crash a h =
        split ShowsSo Q (newest (Target u) Crash) G [] (nat_eq t u) (nat_eq u t) (flip t u)
        (λ own. record { within = λ l i. absurd i; none = inl refl })
        h
    keeps_shows (Target u) (Boot boot disk) a h = by (nat_eq t u) refl
      where
        by : (b : Bool) → nat_eq t u ≡ b → ShowsSo (if b then newest (Target u) (Boot boot disk) ∷ Q else Q) G
        by false e = h
        by true e = record {
          within = h.within;
          none = ⊎_elim (λ (q : G ≡ []). inl q) (λ (s : IsServing head.osts Q). absurd
              (down_not Q (of_target u (Boot boot disk) a e).down s)) h.none;
        }
    keeps_shows (Target u) (Close o) a h = by (nat_eq t u) refl
      where
        by : (b : Bool) → nat_eq t u ≡ b → ShowsSo (if b then newest (Target u) (Close o) ∷ Q else Q) G
        by false e = h
        by true e =
            let none : G ≡ [] = ⊎_elim (λ (q : G ≡ []). q) (λ (s : IsServing head.osts Q). absurd
            (recovers_not Q (of_target u (Close o) a e).recovers s)) h.none in
            record { within = λ l i. absurd (subst (λ (ls : List Lock). In l ls) none i); none = inl none }
    keeps_shows (Target u) e a h = calm_shows (Target u) e (concerns t (Target u) e) (record { within = h.within; none = h.none }) h

  shows_so : 0 < t → (past : List Line) → Grown head past → ShowsSo (only t past) (granted t (printed past))
  shows_so above [] g = record { within = λ l i. absurd i; none = inl refl }
  shows_so above (l ∷ past) g = keeps_shows above past l.at.stamp g.1 l.at.node l.entry g.0 (shows_so above past g.1)

  -- what is granted as printed, at an object storage target, is what it has shown
  pub granted_same : 0 < t → (past : List Line) → Grown head past → Same (granted t (printed past)) (shown_of (only t past))
  granted_same above past g = (
    (shows_so above past g).within,
    λ l i. ⊎_elim (λ (j : In l (granted t (printed past))). j) (λ (j : JustGave t past l). absurd
        (let zero = j.2 in omega (arith, above, zero))) (all_granted t head past g l i),
  )

-- at the metadata target none waits
pub first_waits : (head : Head) (past : List Line) → Grown head past → waiting 0 (printed past) ≡ []
first_waits head [] g = refl
first_waits head (x ∷ past) g = by x.at.node x.entry g.0 (first_waits head past g.1)
  where
    W : List Lock
    W = waiting 0 (printed past)

    by : (node : Node) (e : Entry) → Allowed head past (turn x.at.stamp node) e → W ≡ []
        → waiting 0 (printed (line (turn x.at.stamp node) e ∷ past)) ≡ []
    by (Client c) (Grant lock asked) a h = absurd a.ok
    by (Target u) (Grant lock asked) a h = cond_both (nat_eq u 0) (without_first lock.cookie.0 W) W (λ (ls : List Lock). ls ≡ [])
        (λ e. ap (without_first lock.cookie.0) h) (λ e. h)
    by (Client c) (Wait lock d) a h = absurd a.ok
    by (Target u) (Wait lock d) a h = cond_both (nat_eq u 0) (W ++ lock ∷ []) W (λ (ls : List Lock). ls ≡ [])
        (λ e. absurd (let high = a.ok.0 in let zero = eqb-true u 0 e in omega (arith, high, zero))) (λ e. h)
    by (Client c) (Evict who cause) a h = absurd a.ok
    by (Target u) (Evict who cause) a h = cond_both (nat_eq u 0) (of_others who W) W (λ (ls : List Lock). ls ≡ [])
        (λ e. ap (of_others who) h) (λ e. h)
    by (Client c) Crash a h = absurd a.ok
    by (Target u) Crash a h = cond_both (nat_eq u 0) [] W (λ (ls : List Lock). ls ≡ []) (λ e. refl) (λ e. h)
    by node e a h = h
