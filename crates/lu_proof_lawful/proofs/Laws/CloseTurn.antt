-- While a close has lines to show, the newest lines are the close and those that it has shown so far, all of its turn. What the laws read
-- of the turn is
-- so what the close decided before it, and the last of the lines that it has shown.
use Rattle.std.proofs.Common.{◌≡◌, ℕ, ◌+◌, Bool, true, false, List, [], ◌∷◌, Option, Some, None, ◌⊎◌, inl, inr, ⊎_elim, refl, sym, subst}
use Rattle.std.proofs.Common.{ap, ◌∙◌}
use Rattle.std.specs.Prelude.{if◌then◌else◌, unwrap_or}
use Rattle.std.specs.Bool.{then_some}
use Rattle.std.proofs.lemmas.Bool.{true≢false}
use Rattle.lu_base.specs.declared.ids.At.{At}
use Rattle.lu_base.specs.declared.ids.Node.{Node}
use Rattle.lu_base.specs.declared.ids.Node.TheVariants.{Client, Target}
use Rattle.lu_base.specs.declared.ids.Who.{Who}
use Rattle.lu_trace.specs.declared.entries.Entry.{Entry as PrintedEntry}
use Rattle.lu_trace.specs.declared.entries.Entry.TheVariants as trace
use Rattle.lu_trace.specs.declared.entries.Line.{Line as PrintedLine}
use Rattle.lu_spec_entries.specs.Carried.{Outcome}
use Rattle.lu_spec_entries.specs.Words.{Entry, Send, Commit, Close, Kept, Restore, Evict, Joined, Line, line, turn_before}
use Rattle.lu_spec_entries.specs.Concerns.{concerns, only}
use Rattle.lu_spec_entries.specs.Sent.{count_sent}
use Rattle.lu_spec_entries.specs.Printed.{printed_entry, printed}
use Rattle.lu_proof_lawful.specs.Covered.TargetStates.{lives_of}
use Rattle.lu_proof_lawful.specs.Covered.TargetCloses.{shows, but_first, closing_of}
use Rattle.lu_proof_lawful.specs.Covered.Heads.{Head}
use Rattle.lu_spec_laws.specs.Words.Pasts.{Past, is_target, or_else, newest}
use Rattle.lu_spec_laws.specs.Words.Scopes.{only_here, last_in}
use Rattle.lu_spec_laws.specs.Words.Boots.{committed}
use Rattle.lu_spec_laws.specs.Words.Closes.{is_lock, closes_in, closes_up_to, committed_at_close, kept_last, last_kept, evicted_last}
use Rattle.lu_spec_laws.specs.Words.Closes.{last_evicted, restores_it, has_restored}
use Rattle.lu_proof_lawful.proofs.Preconditions.Guards.{In, Later, Steps, IsTurnOf}
use Rattle.lu_proof_lawful.proofs.Preconditions.Grown.{Allowed, Grown}
use Rattle.lu_proof_lawful.proofs.Preconditions.Lists.{self, turn_irreflexive}
use Rattle.lu_proof_lawful.proofs.Invariants.Groups.{turn}
use Rattle.lu_proof_lawful.proofs.Laws.Turns.{later_before, same_turn_self}
use Rattle.lu_proof_lawful.proofs.Laws.CloseLines.{IsShow, shows_show}

-- ---- the lines of the turn

-- the newest of these entries first
abbrev pub trail : At → List Entry → List Line → List Line
trail at [] past = past
trail at (e ∷ es) past = line at e ∷ trail at es past

-- the entries that were shown, the newest first, before those that are left
abbrev pub onto : List Entry → List Entry → List Entry
onto [] left = left
onto (e ∷ es) left = onto es (e ∷ left)

pub record Closing (head : Head) (t : ℕ) (past : List Line) (at : At) (left : List Entry) : Type 0 where
  pub before : List Line
  pub outcome : Outcome
  pub done : List Entry
  pub is : past ≡ trail at done (line at (Close outcome) ∷ before)
  pub allowed : Allowed head before at (Close outcome)
  pub grown : Grown head before
  pub parts : shows outcome (lives_of head.clients (only t before)) ≡ onto done left

-- a turn to come isn't that of the target's newest line
pub not_later : (head : Head) (t : ℕ) (past : List Line) (a : At) → Grown head past → IsTurnOf (only t past) a → Later past a → ⊥
not_later head t [] a g turned later = turned
not_later head t (l ∷ past) a g turned later = by (concerns t l.at.node l.entry) turned
    (λ q. not_later head t past a g.1 q (later_before l past a g.0.steps later))
  where
    by : (c : Bool) → IsTurnOf (if c then l ∷ only t past else only t past) a → (IsTurnOf (only t past) a → ⊥) → ⊥
    by true q h = turn_irreflexive a (subst (λ (v : At). turn_before v a ≡ true) q later)
    by false q h = h q

pub closing_turn : (head : Head) (t : ℕ) (past : List Line) (at : At) → Grown head past → at.node ≡ Target t → Steps past at
    → IsTurnOf (only t past) at → (e : Entry) (es : List Entry) → closing_of head.clients (only t past) ≡ e ∷ es
    → Closing head t past at (e ∷ es)
closing_turn head t [] at g mine s turned e es q = absurd turned
closing_turn head t (l ∷ past) at g mine s turned e es q = by (concerns t l.at.node l.entry) refl turned q
    (λ s turned e es q. closing_turn head t past at g.1 mine s turned e es q)
  where
    P : List Line
    P = only t past

    Before : Type 0
    Before = Steps past at → IsTurnOf P at → (e : Entry) (es : List Entry) → closing_of head.clients P ≡ e ∷ es
        → Closing head t past at (e ∷ es)

    -- one more was shown
    shown : (x : Entry) → l.at ≡ at → Closing head t past at (x ∷ e ∷ es) → l.entry ≡ x → Closing head t (l ∷ past) at (e ∷ es)
    shown x same c is =
        record {
          before = c.before;
          outcome = c.outcome;
          done = x ∷ c.done;
          is = ap (λ (p : List Line). l ∷ p) c.is ∙ ap (λ (v : At). line v l.entry ∷ trail at c.done (line at (Close c.outcome) ∷ c.before))
              same ∙ ap (λ (v : Entry). line at v ∷ trail at c.done (line at (Close c.outcome) ∷ c.before)) is;
          allowed = c.allowed;
          grown = c.grown;
          parts = c.parts;
        }

    rest : (cs : List Entry) → but_first cs ≡ e ∷ es → (x : Entry) × (cs ≡ x ∷ e ∷ es)
    rest [] q = absurd (cc)
    rest (x ∷ cs) q = (x, ap (λ (v : List Entry). x ∷ v) q)

    on : (node : Node) (x : Entry) → l.at.node ≡ node → l.entry ≡ x → l.at ≡ at
        → closing_of head.clients (line (turn l.at.stamp node) x ∷ P) ≡ e ∷ es
        → ((y : Entry) (ys : List Entry) → closing_of head.clients P ≡ y ∷ ys → (l.entry ≡ y) × IsTurnOf P l.at) → Before
        → Closing head t (l ∷ past) at (e ∷ es)
    on (Client c) x n i same q next h = absurd (let f : Client c ≡ Target t = sym n ∙ ap (λ (v : At). v.node) same ∙ mine in cc)
    on (Target u) (Close o) n i same q next h =
        record {
          before = past;
          outcome = o;
          done = [];
          is = ap (λ (v : Entry). line l.at v ∷ past) i ∙ ap (λ (v : At). line v (Close o) ∷ past) same;
          allowed = subst (λ (v : At). Allowed head past v (Close o)) same (subst (λ (v : Entry). Allowed head past l.at v) i g.0);
          grown = g.1;
          parts = q;
        }
    on (Target u) x n i same q next h =
        let r = rest (closing_of head.clients P) q in
        let k = next r.0 (e ∷ es) r.1 in
        shown r.0 same (h (subst (λ (v : At). Steps past v) same g.0.steps) (subst (λ (v : At). IsTurnOf P v) same k.1) r.0 (e ∷ es) r.1)
        k.0

    by : (b : Bool) → concerns t l.at.node l.entry ≡ b → IsTurnOf (if b then l ∷ P else P) at
        → closing_of head.clients (if b then l ∷ P else P) ≡ e ∷ es → Before → Closing head t (l ∷ past) at (e ∷ es)
    by true c same q h = on l.at.node l.entry refl refl same q (g.0.shows t c) h
    by false c turned q h = absurd (⊎_elim
        (λ (same : l.at ≡ at). true≢false (sym (ap (λ (v : Node). concerns t v l.entry) (ap (λ (v : At). v.node) same ∙ mine) ∙ self t)
        ∙ c))
        (λ (later : turn_before l.at at ≡ true). not_later head t (l ∷ past) at g
        (subst (λ (b : Bool). IsTurnOf (if b then l ∷ P else P) at) (sym c) turned) later)
        s)

-- what was shown are lines that show what a close decides
in_onto : (e : Entry) (done left : List Entry) → In e done ⊎ In e left → In e (onto done left)
in_onto e [] left (inl i) = absurd i
in_onto e [] left (inr i) = i
in_onto e (x ∷ done) left (inl (inl q)) = in_onto e done (x ∷ left) (inr (inl q))
in_onto e (x ∷ done) left (inl (inr i)) = in_onto e done (x ∷ left) (inl i)
in_onto e (x ∷ done) left (inr i) = in_onto e done (x ∷ left) (inr (inr i))

abbrev pub AllShow : List Entry → Type 0
AllShow [] = Unit {0}
AllShow (e ∷ es) = IsShow e × AllShow es

pub done_show : (head : Head) (t : ℕ) (past : List Line) (at : At) (left : List Entry) (c : Closing head t past at left) → AllShow c.done
done_show head t past at left c = all c.done (λ e i. shows_show c.outcome (lives_of head.clients (only t c.before)) e
    (subst (λ (es : List Entry). In e es) (sym c.parts) (in_onto e c.done left (inl i))))
  where
    all : (es : List Entry) → ((e : Entry) → In e es → IsShow e) → AllShow es
    all [] h = tt
    all (e ∷ es) h = (h e (inl refl), all es (λ x i. h x (inr i)))

-- ---- what the laws read of the turn

-- the last of them that says something
abbrev pub last_of : {A : Type 0} → (Entry → Option A) → List Entry → Option A
last_of says [] = None
last_of says (e ∷ es) = or_else (says e) (last_of says es)

module _ (at : At) (o : Outcome) (before : List Line) where
  abbrev whole : List Entry → List Line
  whole done = trail at done (line at (Close o) ∷ before)

  -- a line of the turn, of what it says
  step : {A : Type 0} (says : PrintedEntry → Option A) (past : Past) (k : PrintedEntry)
      → last_in says at (record { at = at; entry = k } ∷ past) ≡ or_else (says k) (last_in says at past)
  step {A} says past k = ap (λ (b : Bool). or_else (only_here (says k) b) (last_in says at past)) (same_turn_self at) ∙ by (says k)
    where
      by : (o : Option A) → or_else (only_here o true) (last_in says at past) ≡ or_else o (last_in says at past)
      by None = refl
      by (Some a) = refl

  -- the last word of the turn is that of the lines shown, or of the close
  pub last_said : {A : Type 0} (says : PrintedEntry → Option A) (story : Entry → Option A) (a : A) → says trace.Close ≡ Some a
      → ((m : ℕ) (e : Entry) (k : PrintedEntry) → IsShow e → printed_entry m e ≡ Some k → says k ≡ story e) → (done : List Entry)
      → AllShow done
      → last_in says at (printed (whole done)) ≡ or_else (last_of story done) (Some a)
  last_said says story a close is [] all = step says (printed before) trace.Close
      ∙ ap (λ (v : _). or_else v (last_in says at (printed before))) close
  last_said {A} says story a close is (e ∷ done) all = by (printed_entry (count_sent (whole done) + 1) e) refl
      (last_said says story a close is done all.1)
    where
      assoc : (u v w : Option A) → or_else u (or_else v w) ≡ or_else (or_else u v) w
      assoc None v w = refl
      assoc (Some x) v w = refl

      by : (k : Option PrintedEntry) → printed_entry (count_sent (whole done) + 1) e ≡ k → last_in says at (printed (whole done))
          ≡ or_else (last_of story done) (Some a)
          → last_in says at (elim k [ None ↦ printed (whole done) | Some x ↦ record { at = at; entry = x } ∷ printed (whole done) ])
          ≡ or_else (or_else (story e) (last_of story done)) (Some a)
      by None q h = absurd (prints e (count_sent (whole done) + 1) all.0 q)
        where
          prints : (x : Entry) (m : ℕ) → IsShow x → printed_entry m x ≡ None → ⊥
          prints (Commit to batch) m i q = cc
          prints (Kept number) m i q = cc
          prints (Restore lock) m i q = cc
          prints (Evict who cause) m i q = cc
          prints (Joined who) m i q = cc
          prints (Send to message) m i q = cc
          prints x m i q = i
      by (Some k) q h =
          step says (printed (whole done)) k
          ∙ ap (λ (v : Option A). or_else v (last_in says at (printed (whole done)))) (is (count_sent (whole done) + 1) e k all.0 q)
          ∙ ap (λ (v : Option A). or_else (story e) v) h
          ∙ assoc (story e) (last_of story done) (Some a)

  -- the newest close is that one
  pub newest_close : {A : Type 0} (says : Past → PrintedLine → Option A) (a : A)
      → says (printed before) (record { at = at; entry = trace.Close }) ≡ Some a
      → ((past : Past) (m : ℕ) (e : Entry) (k : PrintedEntry) → IsShow e → printed_entry m e ≡ Some k
      → says past (record { at = at; entry = k }) ≡ None) → (done : List Entry) → AllShow done
      → newest says (printed (whole done)) ≡ Some a
  newest_close says a close is [] all = ap (λ (v : _). or_else v (newest says (printed before))) close
  newest_close {A} says a close is (e ∷ done) all = by (printed_entry (count_sent (whole done) + 1) e) refl
      (newest_close says a close is done all.1)
    where
      by : (k : Option PrintedEntry) → printed_entry (count_sent (whole done) + 1) e ≡ k → newest says (printed (whole done)) ≡ Some a
          → newest says (elim k [ None ↦ printed (whole done) | Some x ↦ record { at = at; entry = x } ∷ printed (whole done) ]) ≡ Some a
      by None q h = h
      by (Some k) q h = ap (λ (v : Option A). or_else v (newest says (printed (whole done))))
          (is (printed (whole done)) (count_sent (whole done) + 1) e k all.0 q) ∙ h

-- ---- for the laws' words

-- what is printed of such a line
prints_as : (m : ℕ) (e : Entry) (k : PrintedEntry) (P : PrintedEntry → Type 0) → printed_entry m e ≡ Some k
    → elim (printed_entry m e) as (λ v. Type 0) [ None ↦ ⊥ | Some x ↦ P x ] → P k
prints_as m e k P q p = subst (λ (o : Option PrintedEntry). elim o as (λ v. Type 0) [ None ↦ ⊥ | Some x ↦ P x ]) q p

module _ {A : Type 0} (decides : Past → A) (at : At) where
  none_closes : (past : Past) (m : ℕ) (e : Entry) (k : PrintedEntry) → IsShow e → printed_entry m e ≡ Some k
      → closes_in decides at past (record { at = at; entry = k }) ≡ None
  none_closes past m e k i q = prints_as m e k (λ x. closes_in decides at past (record { at = at; entry = x }) ≡ None) q (by e i)
    where
      by : (e : Entry) → IsShow e → elim (printed_entry m e) as (λ v. Type 0)
          [ None ↦ ⊥ | Some x ↦ closes_in decides at past (record { at = at; entry = x }) ≡ None ]
      by (Commit to batch) i = refl
      by (Kept number) i = refl
      by (Restore lock) i = refl
      by (Evict who cause) i = refl
      by (Joined who) i = refl
      by (Send to message) i = refl
      by x i = absurd i

  -- what the close of the turn decided
  pub decided_then : (o : Outcome) (before : List Line) (done : List Entry) → AllShow done
      → newest (closes_in decides at) (printed (trail at done (line at (Close o) ∷ before))) ≡ Some (decides (printed before))
  decided_then o before done all = newest_close at o before (closes_in decides at) (decides (printed before))
      (ap (λ (b : Bool). then_some b (decides (printed before))) (same_turn_self at)) none_closes done all

pub committed_then : (t : ℕ) (at : At) (o : Outcome) (before : List Line) (done : List Entry) → at.node ≡ Target t → AllShow done
    → committed_at_close t (printed (trail at done (line at (Close o) ∷ before))) ≡ committed t (printed before)
committed_then t at o before done mine all = ap (λ (v : Option ℕ). unwrap_or v 0)
    (newest_close at o before (closes_up_to t) (committed t (printed before))
    (ap (λ (n : Node). then_some (is_target t n) (committed t (printed before))) mine
    ∙ ap (λ (b : Bool). then_some b (committed t (printed before))) (self t)) none done all)
  where
    none : (past : Past) (m : ℕ) (e : Entry) (k : PrintedEntry) → IsShow e → printed_entry m e ≡ Some k
        → closes_up_to t past (record { at = at; entry = k }) ≡ None
    none past m e k i q = prints_as m e k (λ x. closes_up_to t past (record { at = at; entry = x }) ≡ None) q (by e i)
      where
        by : (e : Entry) → IsShow e → elim (printed_entry m e) as (λ v. Type 0)
            [ None ↦ ⊥ | Some x ↦ closes_up_to t past (record { at = at; entry = x }) ≡ None ]
        by (Commit to batch) i = refl
        by (Kept number) i = refl
        by (Restore lock) i = refl
        by (Evict who cause) i = refl
        by (Joined who) i = refl
        by (Send to message) i = refl
        by x i = absurd i

-- the last number that was shown as kept
abbrev pub kept_number : Entry → Option ℕ
kept_number (Kept number) = Some number.0
kept_number _ = None

pub last_kept_is : (at : At) (o : Outcome) (before : List Line) (done : List Entry) → AllShow done
    → last_kept at (printed (trail at done (line at (Close o) ∷ before))) ≡ unwrap_or (last_of kept_number done) 0
last_kept_is at o before done all = ap (λ (v : Option ℕ). unwrap_or v 0) (last_said at o before kept_last kept_number 0 refl same done all)
    ∙ whole (last_of kept_number done)
  where
    whole : (v : Option ℕ) → unwrap_or (or_else v (Some 0)) 0 ≡ unwrap_or v 0
    whole None = refl
    whole (Some n) = refl

    same : (m : ℕ) (e : Entry) (k : PrintedEntry) → IsShow e → printed_entry m e ≡ Some k → kept_last k ≡ kept_number e
    same m e k i q = prints_as m e k (λ x. kept_last x ≡ kept_number e) q (by e i)
      where
        by : (e : Entry) → IsShow e → elim (printed_entry m e) as (λ v. Type 0) [ None ↦ ⊥ | Some x ↦ kept_last x ≡ kept_number e ]
        by (Commit to batch) i = refl
        by (Kept number) i = refl
        by (Restore lock) i = refl
        by (Evict who cause) i = refl
        by (Joined who) i = refl
        by (Send to message) i = refl
        by x i = absurd i

-- the last life that was shown as evicted
abbrev pub gone_life : Entry → Option (Option Who)
gone_life (Evict who cause) = Some (Some who)
gone_life _ = None

pub last_evicted_is : (at : At) (o : Outcome) (before : List Line) (done : List Entry) → AllShow done
    → last_evicted at (printed (trail at done (line at (Close o) ∷ before))) ≡ unwrap_or (last_of gone_life done) None
last_evicted_is at o before done all = ap (λ (v : Option (Option Who)). unwrap_or v None)
    (last_said at o before evicted_last gone_life None refl same done all) ∙ whole (last_of gone_life done)
  where
    whole : (v : Option (Option Who)) → unwrap_or (or_else v (Some None)) None ≡ unwrap_or v None
    whole None = refl
    whole (Some n) = refl

    same : (m : ℕ) (e : Entry) (k : PrintedEntry) → IsShow e → printed_entry m e ≡ Some k → evicted_last k ≡ gone_life e
    same m e k i q = prints_as m e k (λ x. evicted_last x ≡ gone_life e) q (by e i)
      where
        by : (e : Entry) → IsShow e → elim (printed_entry m e) as (λ v. Type 0) [ None ↦ ⊥ | Some x ↦ evicted_last x ≡ gone_life e ]
        by (Commit to batch) i = refl
        by (Kept number) i = refl
        by (Restore lock) i = refl
        by (Evict who cause) i = refl
        by (Joined who) i = refl
        by (Send to message) i = refl
        by x i = absurd i

-- whether that lock was shown as restored
abbrev pub restored_it : Who → ℕ → Entry → Option Bool
restored_it who cookie (Restore lock) = then_some (is_lock who cookie lock) true
restored_it who cookie _ = None

pub has_restored_is : (at : At) (who : Who) (cookie : ℕ) (o : Outcome) (before : List Line) (done : List Entry) → AllShow done
    → has_restored at who cookie (printed (trail at done (line at (Close o) ∷ before)))
    ≡ unwrap_or (last_of (restored_it who cookie) done) false
has_restored_is at who cookie o before done all = ap (λ (v : Option Bool). unwrap_or v false)
    (last_said at o before (restores_it who cookie) (restored_it who cookie) false refl same done all)
    ∙ whole (last_of (restored_it who cookie) done)
  where
    whole : (v : Option Bool) → unwrap_or (or_else v (Some false)) false ≡ unwrap_or v false
    whole None = refl
    whole (Some n) = refl

    same : (m : ℕ) (e : Entry) (k : PrintedEntry) → IsShow e → printed_entry m e ≡ Some k → restores_it who cookie k
        ≡ restored_it who cookie e
    same m e k i q = prints_as m e k (λ x. restores_it who cookie x ≡ restored_it who cookie e) q (by e i)
      where
        by : (e : Entry) → IsShow e → elim (printed_entry m e) as (λ v. Type 0)
            [ None ↦ ⊥ | Some x ↦ restores_it who cookie x ≡ restored_it who cookie e ]
        by (Commit to batch) i = refl
        by (Kept number) i = refl
        by (Restore lock) i = refl
        by (Evict who cause) i = refl
        by (Joined who) i = refl
        by (Send to message) i = refl
        by x i = absurd i
