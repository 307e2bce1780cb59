-- Who has a slot at a target and who was evicted there, by its story and by its lines: they differ in what a close has still to show.
use Rattle.std.proofs.Common.{◌≡◌, ℕ, ◌+◌, zero, suc, ◌<◌, Bool, true, false, List, [], ◌∷◌, ◌++◌, ◌⊎◌, inl, inr, ⊎_elim, refl, sym, subst}
use Rattle.std.proofs.Common.{ap, ◌∙◌, arith}
use Rattle.std.specs.Prelude.{nat_eq, not, ◌&&◌, ◌||◌, if◌then◌else◌}
use Rattle.std.proofs.lemmas.Bool.{and_parts, eqb-true, true≢false}
use Rattle.lu_base.specs.declared.ids.At.{At}
use Rattle.lu_base.specs.declared.ids.Node.{Node}
use Rattle.lu_base.specs.declared.ids.Node.TheVariants.{Client, Target}
use Rattle.lu_base.specs.declared.ids.Who.{Who}
use Rattle.lu_base.specs.declared.locks.Cause.{Cause}
use Rattle.lu_spec_entries.specs.Carried.{Gone, Outcome}
use Rattle.lu_spec_entries.specs.Words.{Entry, Boot, Close, Evict, Joined, Line, line, same_life}
use Rattle.lu_spec_entries.specs.Concerns.{concerns, only}
use Rattle.lu_spec_entries.specs.Printed.{printed}
use Rattle.lu_spec_target.specs.Lives.{is_life, with_life, without_lives, lives_of as lives_in}
use Rattle.lu_spec_target.specs.Recovery.{kept_lines, restore_lines}
use Rattle.lu_spec_target.specs.States.{lives_from}
use Rattle.lu_proof_lawful.specs.Covered.TargetStates.{lives_of, evicted_of}
use Rattle.lu_proof_lawful.specs.Covered.TargetCloses.{disk_of, shows_evicted, shows_ready, shows_joined, staying, shows, but_first}
use Rattle.lu_proof_lawful.specs.Covered.TargetCloses.{closing_of, outcome_of}
use Rattle.lu_proof_lawful.specs.Covered.Heads.{Head}
use Rattle.lu_spec_laws.specs.Words.Lives.{is_evicted}
use Rattle.lu_spec_laws.specs.Words.Slots.{has_joined, has_slot}
use Rattle.lu_spec_laws.proofs.Tests.{either_left, either_right}
use Rattle.lu_proof_lawful.proofs.Preconditions.Guards.{In}
use Rattle.lu_proof_lawful.proofs.Preconditions.StoryGuards.{IsRecovering, EntryOf, CloseOk}
use Rattle.lu_proof_lawful.proofs.Preconditions.Grown.{ShowsNext, Grown, GrownOf}
use Rattle.lu_proof_lawful.proofs.Preconditions.Lists.{in_left, in_right, life_is, life_self}
use Rattle.lu_proof_lawful.proofs.Preconditions.LifeLists.{life_put, life_put_more, life_stays}
use Rattle.lu_proof_lawful.proofs.Preconditions.Only.{grown_of}
use Rattle.lu_proof_lawful.proofs.Invariants.Groups.{turn}
use Rattle.lu_proof_lawful.proofs.Invariants.TargetGroups.{HasSlot, Had, Evicted}
use Rattle.lu_proof_lawful.proofs.Invariants.All.{holds}
use Rattle.lu_proof_lawful.proofs.Preconditions.ClientLocks.{in_map}
use Rattle.lu_proof_lawful.proofs.Preconditions.CloseLists.{puts_or, put_each, puts_more, stays_all, left_all}
use Rattle.lu_proof_lawful.proofs.Invariants.LifeLists.{put_or}
use Rattle.lu_proof_lawful.proofs.Laws.Printed.{flip, flip_life, is_life_with}
use Rattle.lu_proof_lawful.proofs.Laws.Taking.{closed_now}
use Rattle.lu_proof_lawful.proofs.Laws.CloseLines.{IsShow, closing_show, nothing_left}

-- ---- those whose eviction, and those whose join, a line has shown

abbrev pub evictions_after : List Who → Entry → List Who
evictions_after lives (Evict who cause) = with_life who lives
evictions_after lives _ = lives

abbrev pub evictions_of : List Line → List Who
evictions_of [] = []
evictions_of (l ∷ past) = elim l.at.node [ Client c ↦ evictions_of past | Target t ↦ evictions_after (evictions_of past) l.entry ]

abbrev pub joins_after : List Who → Entry → List Who
joins_after lives (Joined who) = with_life who lives
joins_after lives _ = lives

abbrev pub joins_of : List Line → List Who
joins_of [] = []
joins_of (l ∷ past) = elim l.at.node [ Client c ↦ joins_of past | Target t ↦ joins_after (joins_of past) l.entry ]

-- the laws read these lines
pub evictions_are : (t : ℕ) (past : List Line) (w : Who) → is_evicted t (printed past) w ≡ is_life w (evictions_of (only t past))
evictions_are t [] w = refl
evictions_are t (l ∷ past) w = by l.at.node l.entry (evictions_are t past w)
  where
    P : List Line
    P = only t past

    quiet : (node : Node) (e : Entry) (b : Bool) → evictions_of (line (turn l.at.stamp node) e ∷ P) ≡ evictions_of P
        → is_evicted t (printed past) w ≡ is_life w (evictions_of P)
        → is_evicted t (printed past) w ≡ is_life w (evictions_of (if b then line (turn l.at.stamp node) e ∷ P else P))
    quiet node e true q h = h ∙ sym (ap (λ (v : List Who). is_life w v) q)
    quiet node e false q h = h

    own : (u : ℕ) (o : Who) (k : Cause) (a b : Bool) (old : Bool) → a ≡ b → old ≡ is_life w (evictions_of P)
        → ((a && same_life o w) || old) ≡ is_life w (evictions_of (if b then line (turn l.at.stamp (Target u)) (Evict o k) ∷ P else P))
    own u o k true true old q h = ap (λ (x : Bool). x || old) (flip_life o w) ∙ ap (λ (x : Bool). same_life w o || x) h
        ∙ sym (is_life_with w o (evictions_of P))
    own u o k false false old q h = h
    own u o k true false old q h = absurd (cc)
    own u o k false true old q h = absurd (cc)

    by : (node : Node) (e : Entry) → is_evicted t (printed past) w ≡ is_life w (evictions_of P)
        → is_evicted t (printed (line (turn l.at.stamp node) e ∷ past)) w
        ≡ is_life w (evictions_of (if concerns t node e then line (turn l.at.stamp node) e ∷ P else P))
    by (Client c) (Evict o k) h = quiet (Client c) (Evict o k) (concerns t (Client c) (Evict o k)) refl h
    by (Target u) (Evict o k) h = own u o k (nat_eq u t) (nat_eq t u) (is_evicted t (printed past) w) (flip u t) h
    by (Client c) e h = quiet (Client c) e (concerns t (Client c) e) refl h
    by (Target u) e h = quiet (Target u) e (concerns t (Target u) e) refl h

pub joins_are : (t : ℕ) (past : List Line) (w : Who) → has_joined t (printed past) w ≡ is_life w (joins_of (only t past))
joins_are t [] w = refl
joins_are t (l ∷ past) w = by l.at.node l.entry (joins_are t past w)
  where
    P : List Line
    P = only t past

    quiet : (node : Node) (e : Entry) (b : Bool) → joins_of (line (turn l.at.stamp node) e ∷ P) ≡ joins_of P → has_joined t (printed past) w
        ≡ is_life w (joins_of P)
        → has_joined t (printed past) w ≡ is_life w (joins_of (if b then line (turn l.at.stamp node) e ∷ P else P))
    quiet node e true q h = h ∙ sym (ap (λ (v : List Who). is_life w v) q)
    quiet node e false q h = h

    here : (a : Bool) → (a && true) ≡ a
    here true = refl
    here false = refl

    gone : (a : Bool) → (a && false) ≡ false
    gone true = refl
    gone false = refl

    own : (u : ℕ) (o : Who) (a b : Bool) (old : Bool) → a ≡ b → old ≡ is_life w (joins_of P)
        → ((same_life o w && a) || old) ≡ is_life w (joins_of (if b then line (turn l.at.stamp (Target u)) (Joined o) ∷ P else P))
    own u o true true old q h = ap (λ (x : Bool). x || old) (here (same_life o w) ∙ flip_life o w) ∙ ap (λ (x : Bool). same_life w o || x) h
        ∙ sym (is_life_with w o (joins_of P))
    own u o false false old q h = ap (λ (x : Bool). x || old) (gone (same_life o w)) ∙ h
    own u o true false old q h = absurd (cc)
    own u o false true old q h = absurd (cc)

    by : (node : Node) (e : Entry) → has_joined t (printed past) w ≡ is_life w (joins_of P)
        → has_joined t (printed (line (turn l.at.stamp node) e ∷ past)) w
        ≡ is_life w (joins_of (if concerns t node e then line (turn l.at.stamp node) e ∷ P else P))
    by (Client c) (Joined o) h = ap (λ (x : Bool). x || has_joined t (printed past) w) (gone (same_life o w))
        ∙ quiet (Client c) (Joined o) (concerns t (Client c) (Joined o)) refl h
    by (Target u) (Joined o) h = own u o (nat_eq u t) (nat_eq t u) (has_joined t (printed past) w) (flip u t) h
    by (Client c) e h = quiet (Client c) e (concerns t (Client c) e) refl h
    by (Target u) e h = quiet (Target u) e (concerns t (Target u) e) refl h

-- ---- what a close shows of its lives

evict_among : (o : Outcome) (gone : List Gone) (g : Gone) → In g gone → In (Evict g.who g.cause) (shows_evicted o gone)
evict_among o [] g i = absurd i
evict_among o (x ∷ gone) g (inl q) = inl (ap (λ (v : Gone). Evict v.who v.cause) q)
evict_among o (x ∷ gone) g (inr i) = inr (inr (evict_among o gone g i))

join_among : (o : Outcome) (lives : List Who) (w : Who) → In w lives → In (Joined w) (shows_joined o lives)
join_among o [] w i = absurd i
join_among o (x ∷ lives) w (inl q) = inl (ap (λ (v : Who). Joined v) q)
join_among o (x ∷ lives) w (inr i) = inr (inr (join_among o lives w i))

module _ (o : Outcome) (lives : List Who) where
  abbrev ready : List Entry
  ready = shows_ready o (staying o lives)

  abbrev joined : List Entry
  joined = shows_joined o o.joins

  pub shows_gone : (g : Gone) → In g o.gone → In (Evict g.who g.cause) (shows o lives)
  shows_gone g i =
      let e = Evict g.who g.cause in
      inr (in_right e (kept_lines o.kept) (restore_lines o.locks ++ (shows_evicted o o.gone ++ (ready ++ joined)))
      (in_right e (restore_lines o.locks) (shows_evicted o o.gone ++ (ready ++ joined))
      (in_left e (shows_evicted o o.gone) (ready ++ joined) (evict_among o o.gone g i))))

  pub shows_comer : (w : Who) → In w o.joins → In (Joined w) (shows o lives)
  shows_comer w i =
      let e = Joined w in
      inr (in_right e (kept_lines o.kept) (restore_lines o.locks ++ (shows_evicted o o.gone ++ (ready ++ joined)))
      (in_right e (restore_lines o.locks) (shows_evicted o o.gone ++ (ready ++ joined))
      (in_right e (shows_evicted o o.gone) (ready ++ joined) (in_right e ready joined (join_among o o.joins w i)))))

-- ---- what is left to show, over one line

-- it stays so, but for what the line shows
pub left_or : (head : Head) (l : Line) (past : List Line) → ShowsNext head past l.at l.entry → (e : Entry)
    → In e (closing_of head.clients past) → (e ≡ l.entry) ⊎ In e (closing_of head.clients (l ∷ past))
left_or head l past next e i = by l.at.node l.entry (λ x es q. (next x es q).0) i
  where
    C : List Entry
    C = closing_of head.clients past

    rest : (x : Entry) (cs : List Entry) → ((y : Entry) (es : List Entry) → cs ≡ y ∷ es → x ≡ y) → In e cs → (e ≡ x) ⊎ In e (but_first cs)
    rest x [] n i = absurd i
    rest x (c ∷ cs) n (inl q) = inl (sym q ∙ sym (n c cs refl))
    rest x (c ∷ cs) n (inr j) = inr j

    not_close : (o : Outcome) → ((y : Entry) (es : List Entry) → C ≡ y ∷ es → Close o ≡ y) → (cs : List Entry) → C ≡ cs → In e cs → ⊥
    not_close o n [] q i = i
    not_close o n (c ∷ cs) q i = subst IsShow (sym (n c cs q)) (closing_show head.clients past c
        (subst (λ (v : List Entry). In c v) (sym q) (inl refl)))

    by : (node : Node) (x : Entry) → ((y : Entry) (es : List Entry) → C ≡ y ∷ es → x ≡ y) → In e C → (e ≡ x)
        ⊎ In e (closing_of head.clients (line (turn l.at.stamp node) x ∷ past))
    by (Client c) x n i = inr i
    by (Target u) (Close o) n i = absurd (not_close o n C refl i)
    by (Target u) x n i = rest x C n i

-- ---- at one target

module _ (head : Head) where
  abbrev Left : List Line → Entry → Type 0
  Left past e = In e (closing_of head.clients past)

  abbrev pub LeftEvict : List Line → Who → Type 0
  LeftEvict past w = (c : Cause) × Left past (Evict w c)

  -- at a close nothing was left of another
  none_before : (past : List Line) (at : At) (o : Outcome) → ShowsNext head past at (Close o) → closing_of head.clients past ≡ []
  none_before past at o next = nothing_left head past at (Close o) next (λ i. i)

  -- who had a slot, or was evicted, is so at a close
  had_close : (past : List Line) (at : At) (o : Outcome) → CloseOk head past at o → (w : Who) → Had head.clients past w
      → (is_life w o.disk.lives ≡ true) ⊎ (is_life w o.disk.removed ≡ true)
  had_close past at o ok w had = subst (λ (v : Outcome). (is_life w v.disk.lives ≡ true) ⊎ (is_life w v.disk.removed ≡ true)) (sym ok.is)
      (by had)
    where
      made : Outcome
      made = outcome_of head.osts head.clients at past

      disk : List Who
      disk = (disk_of head.osts head.clients past).lives

      went : (b : Bool) → is_life w (lives_in made.gone) ≡ b → is_life w disk ≡ true → (is_life w made.disk.lives ≡ true)
          ⊎ (is_life w made.disk.removed ≡ true)
      went true e i = inr (put_each w (lives_in made.gone) (disk_of head.osts head.clients past).removed e)
      went false e i = inl (puts_more w made.joins (without_lives (lives_in made.gone) disk) (stays_all w (lives_in made.gone) disk i e))

      by : Had head.clients past w → (is_life w made.disk.lives ≡ true) ⊎ (is_life w made.disk.removed ≡ true)
      by (inl i) = went (is_life w (lives_in made.gone)) refl (subst (λ (v : List Who). is_life w v ≡ true) (sym ok.of_lives) i)
      by (inr i) = inr (puts_more w (lives_in made.gone) (disk_of head.osts head.clients past).removed
          (subst (λ (v : List Who). is_life w v ≡ true) (sym ok.of_removed) i))

  pub had_more : (l : Line) (past : List Line) → EntryOf head past l.at l.at.node l.entry → (w : Who) → Had head.clients past w
      → Had head.clients (l ∷ past) w
  had_more l past ok w h = by l.at.node l.entry ok h
    where
      by : (node : Node) (e : Entry) → EntryOf head past (turn l.at.stamp node) node e → Had head.clients past w
          → Had head.clients (line (turn l.at.stamp node) e ∷ past) w
      by (Target u) (Close o) ok h = had_close past (turn l.at.stamp (Target u)) o ok w h
      by (Target u) (Evict o k) ok h = of (same_life w o) refl h
        where
          of : (b : Bool) → same_life w o ≡ b → Had head.clients past w
              → Had head.clients (line (turn l.at.stamp (Target u)) (Evict o k) ∷ past) w
          of true e h = inr (subst (λ (v : Who). is_life v (with_life o (evicted_of past)) ≡ true) (sym (life_is w o e))
              (life_put o (evicted_of past)))
          of false e (inl i) = inl (life_stays w o (lives_of head.clients past)
              (λ q. true≢false (sym (subst (λ (v : Who). same_life w v ≡ true) q (life_self w)) ∙ e)) i)
          of false e (inr j) = inr (life_put_more w o (evicted_of past) j)
      by (Target u) (Joined o) ok (inl i) = inl (life_put_more w o (lives_of head.clients past) i)
      by (Target u) (Joined o) ok (inr j) = inr j
      by (Client c) e ok h = h
      by (Target u) e ok h = h

  -- whose eviction was shown was evicted
  pub evictions_so : (past : List Line) → GrownOf head past → (w : Who) → is_life w (evictions_of past) ≡ true → Evicted past w
  evictions_so [] g w e = absurd (cc)
  evictions_so (l ∷ past) g w e = by l.at.node l.entry g.0 e (evictions_so past g.3 w)
    where
      by : (node : Node) (x : Entry) → EntryOf head past (turn l.at.stamp node) node x
          → is_life w (evictions_of (line (turn l.at.stamp node) x ∷ past)) ≡ true → (is_life w (evictions_of past) ≡ true → Evicted past w)
          → Evicted (line (turn l.at.stamp node) x ∷ past) w
      by (Target u) (Evict o k) ok e h = ⊎_elim
          (λ (q : w ≡ o). subst (λ (v : Who). is_life v (with_life o (evicted_of past)) ≡ true) (sym q) (life_put o (evicted_of past)))
          (λ (q : is_life w (evictions_of past) ≡ true). life_put_more w o (evicted_of past) (h q))
          (put_or w o (evictions_of past) e)
      by (Target u) (Close o) ok e h =
          subst (λ (v : Outcome). is_life w v.disk.removed ≡ true) (sym ok.is)
          (puts_more w (lives_in (outcome_of head.osts head.clients (turn l.at.stamp (Target u)) past).gone)
          (disk_of head.osts head.clients past).removed (subst (λ (v : List Who). is_life w v ≡ true) (sym ok.of_removed) (h e)))
      by (Client c) x ok e h = h e
      by (Target u) x ok e h = h e

  -- who was evicted was shown so, or a close has still to show it
  pub evicted_shown : (past : List Line) → GrownOf head past → (w : Who) → Evicted past w → (is_life w (evictions_of past) ≡ true)
      ⊎ LeftEvict past w
  evicted_shown [] g w e = absurd (cc)
  evicted_shown (l ∷ past) g w e = by l.at.node l.entry g.0 g.2.shows e (evicted_shown past g.3 w)
    where
      Now : Node → Entry → Type 0
      Now node x = (is_life w (evictions_of (line (turn l.at.stamp node) x ∷ past)) ≡ true)
          ⊎ LeftEvict (line (turn l.at.stamp node) x ∷ past) w

      rest : (u : ℕ) (x : Entry) → ShowsNext head past (turn l.at.stamp (Target u)) x
          → (is_life w (evictions_of past) ≡ true → is_life w (evictions_of (line (turn l.at.stamp (Target u)) x ∷ past)) ≡ true)
          → ((c : Cause) → Evict w c ≡ x → Now (Target u) x) → (is_life w (evictions_of past) ≡ true) ⊎ LeftEvict past w → Now (Target u) x
      rest u x next more now (inl i) = inl (more i)
      rest u x next more now (inr c) = ⊎_elim
          (λ (q : Evict w c.0 ≡ x). now c.0 q)
          (λ (j : Left (line (turn l.at.stamp (Target u)) x ∷ past) (Evict w c.0)). inr (c.0, j))
          (left_or head (line (turn l.at.stamp (Target u)) x) past next (Evict w c.0) c.1)

      by : (node : Node) (x : Entry) → EntryOf head past (turn l.at.stamp node) node x → ShowsNext head past (turn l.at.stamp node) x
          → Evicted (line (turn l.at.stamp node) x ∷ past) w → (Evicted past w → (is_life w (evictions_of past) ≡ true) ⊎ LeftEvict past w)
          → Now node x
      by (Target u) (Evict o k) ok next e h = ⊎_elim
          (λ (q : w ≡ o). inl (subst (λ (v : Who). is_life v (with_life o (evictions_of past)) ≡ true) (sym q)
          (life_put o (evictions_of past))))
          (λ (q : Evicted past w). rest u (Evict o k) next (λ i. life_put_more w o (evictions_of past) i)
          (λ c q. inl (let same : w ≡ o = cc in subst (λ (v : Who). is_life v (with_life o (evictions_of past)) ≡ true) (sym same)
          (life_put o (evictions_of past)))) (h q))
          (put_or w o (evicted_of past) e)
      by (Target u) (Close o) ok next e h = ⊎_elim
          (λ (i : In w (lives_in o.gone)). let g = in_map (λ (g : Gone). g.who) w o.gone i
          in inr (
            g.0.cause,
            subst (λ (v : Who). In (Evict v g.0.cause) (shows o (lives_of head.clients past))) g.2
                (shows_gone o (lives_of head.clients past) g.0 g.1),
          ))
          (λ (i : Evicted past w). ⊎_elim
          (λ (j : is_life w (evictions_of past) ≡ true). inl j)
          (λ (j : LeftEvict past w). absurd (subst (λ (v : List Entry). In (Evict w j.0) v)
          (none_before past (turn l.at.stamp (Target u)) o next) j.1))
          (h i))
          (removed_or past (turn l.at.stamp (Target u)) o ok e)
        where
          removed_or : (past : List Line) (at : At) (o : Outcome) → CloseOk head past at o → is_life w o.disk.removed ≡ true
              → In w (lives_in o.gone) ⊎ Evicted past w
          removed_or past at o ok e = ⊎_elim
              (λ (i : In w (lives_in (outcome_of head.osts head.clients at past).gone)). inl
              (subst (λ (v : Outcome). In w (lives_in v.gone)) (sym ok.is) i))
              (λ (i : is_life w (disk_of head.osts head.clients past).removed ≡ true). inr
              (subst (λ (v : List Who). is_life w v ≡ true) ok.of_removed i))
              (puts_or w (lives_in (outcome_of head.osts head.clients at past).gone) (disk_of head.osts head.clients past).removed
              (subst (λ (v : Outcome). is_life w v.disk.removed ≡ true) ok.is e))
      by (Client c) x ok next e h = h e
      by (Target u) x ok next e h = rest u x next (λ i. i) (λ c q. absurd (cc)) (h e)

  -- who joined by the lines had a slot
  pub joins_had : (past : List Line) → GrownOf head past → (w : Who) → is_life w (joins_of past) ≡ true → Had head.clients past w
  joins_had [] g w e = absurd (cc)
  joins_had (l ∷ past) g w e = by l.at.node l.entry g.0 e (joins_had past g.3 w)
    where
      by : (node : Node) (x : Entry) → EntryOf head past (turn l.at.stamp node) node x
          → is_life w (joins_of (line (turn l.at.stamp node) x ∷ past)) ≡ true
          → (is_life w (joins_of past) ≡ true → Had head.clients past w)
          → Had head.clients (line (turn l.at.stamp node) x ∷ past) w
      by (Target u) (Joined o) ok e h = ⊎_elim
          (λ (q : w ≡ o). inl (subst (λ (v : Who). is_life v (with_life o (lives_of head.clients past)) ≡ true) (sym q)
          (life_put o (lives_of head.clients past))))
          (λ (q : is_life w (joins_of past) ≡ true). had_more (line (turn l.at.stamp (Target u)) (Joined o)) past ok w (h q))
          (put_or w o (joins_of past) e)
      by (Client c) x ok e h = h e
      by (Target u) x ok e h = had_more (line (turn l.at.stamp (Target u)) x) past ok w (h e)

  -- life 1, or one whose join was shown
  abbrev Came : List Line → Who → Type 0
  Came past w = (nat_eq w.life 1 ≡ true) ⊎ (is_life w (joins_of past) ≡ true)

  first_came : (w : Who) (n more : ℕ) → is_life w (lives_from n more) ≡ true → nat_eq w.life 1 ≡ true
  first_came w n zero e = absurd (cc)
  first_came w n (suc more) e = by (same_life w (record { client = n; life = 1 })) refl e (first_came w (n + 1) more)
    where
      by : (b : Bool) → same_life w (record { client = n; life = 1 }) ≡ b → (b || is_life w (lives_from (n + 1) more)) ≡ true
          → (is_life w (lives_from (n + 1) more) ≡ true → nat_eq w.life 1 ≡ true) → nat_eq w.life 1 ≡ true
      by true q e h = (and_parts (nat_eq w.client n) (nat_eq w.life 1) q).1
      by false q e h = h e

  -- who has a slot came by the lines, or a close has still to show it
  pub slot_came : (past : List Line) → GrownOf head past → (w : Who) → HasSlot head.clients past w → Came past w ⊎ Left past (Joined w)
  slot_came [] g w e = inl (inl (first_came w 0 head.clients e))
  slot_came (l ∷ past) g w e = by l.at.node l.entry g.0 g.2.shows e (slot_came past g.3 w)
    where
      Now : Node → Entry → Type 0
      Now node x = Came (line (turn l.at.stamp node) x ∷ past) w ⊎ Left (line (turn l.at.stamp node) x ∷ past) (Joined w)

      rest : (u : ℕ) (x : Entry) → ShowsNext head past (turn l.at.stamp (Target u)) x
          → (is_life w (joins_of past) ≡ true → is_life w (joins_of (line (turn l.at.stamp (Target u)) x ∷ past)) ≡ true)
          → (Joined w ≡ x → Now (Target u) x)
          → Came past w ⊎ Left past (Joined w) → Now (Target u) x
      rest u x next more now (inl (inl i)) = inl (inl i)
      rest u x next more now (inl (inr i)) = inl (inr (more i))
      rest u x next more now (inr c) = ⊎_elim (λ (q : Joined w ≡ x). now q)
          (λ (j : Left (line (turn l.at.stamp (Target u)) x ∷ past) (Joined w)). inr j)
          (left_or head (line (turn l.at.stamp (Target u)) x) past next (Joined w) c)

      by : (node : Node) (x : Entry) → EntryOf head past (turn l.at.stamp node) node x → ShowsNext head past (turn l.at.stamp node) x
          → HasSlot head.clients (line (turn l.at.stamp node) x ∷ past) w
          → (HasSlot head.clients past w → Came past w ⊎ Left past (Joined w)) → Now node x
      by (Target u) (Joined o) ok next e h = ⊎_elim
          (λ (q : w ≡ o). inl (inr (subst (λ (v : Who). is_life v (with_life o (joins_of past)) ≡ true) (sym q)
          (life_put o (joins_of past)))))
          (λ (q : HasSlot head.clients past w). rest u (Joined o) next (λ i. life_put_more w o (joins_of past) i)
          (λ q. inl (inr (let same : w ≡ o = cc in subst (λ (v : Who). is_life v (with_life o (joins_of past)) ≡ true) (sym same)
          (life_put o (joins_of past))))) (h q))
          (put_or w o (lives_of head.clients past) e)
      by (Target u) (Evict o k) ok next e h = rest u (Evict o k) next (λ i. i) (λ q. absurd (cc))
          (h (left_all w (o ∷ []) (lives_of head.clients past) e).0)
      by (Target u) (Close o) ok next e h = ⊎_elim
          (λ (i : In w o.joins). inr (shows_comer o (lives_of head.clients past) w i))
          (λ (i : HasSlot head.clients past w). ⊎_elim
          (λ (j : Came past w). inl j)
          (λ (j : Left past (Joined w)). absurd (subst (λ (v : List Entry). In (Joined w) v)
          (none_before past (turn l.at.stamp (Target u)) o next) j))
          (h i))
          (lives_or past (turn l.at.stamp (Target u)) o ok e)
        where
          lives_or : (past : List Line) (at : At) (o : Outcome) → CloseOk head past at o → is_life w o.disk.lives ≡ true → In w o.joins
              ⊎ HasSlot head.clients past w
          lives_or past at o ok e = ⊎_elim
              (λ (i : In w (outcome_of head.osts head.clients at past).joins). inl (subst (λ (v : Outcome). In w v.joins) (sym ok.is) i))
              (λ (i : is_life w (without_lives (lives_in (outcome_of head.osts head.clients at past).gone)
              (disk_of head.osts head.clients past).lives) ≡ true).
              inr (subst (λ (v : List Who). is_life w v ≡ true) ok.of_lives
              (left_all w (lives_in (outcome_of head.osts head.clients at past).gone) (disk_of head.osts head.clients past).lives i).0))
              (puts_or w (outcome_of head.osts head.clients at past).joins
              (without_lives (lives_in (outcome_of head.osts head.clients at past).gone) (disk_of head.osts head.clients past).lives)
              (subst (λ (v : Outcome). is_life w v.disk.lives ≡ true) ok.is e))
      by (Client c) x ok next e h = h e
      by (Target u) x ok next e h = rest u x next (λ i. i) (λ q. absurd (cc)) (h e)

-- while a target recovers nothing is left to show
pub recovering_none : (head : Head) (past : List Line) → GrownOf head past → IsRecovering head.osts past → closing_of head.clients past ≡ []
recovering_none head [] g r = refl
recovering_none head (l ∷ past) g r = by l.at.node l.entry g.0 g.2.shows r (λ s. recovering_none head past g.3 s)
  where
    by : (node : Node) (x : Entry) → EntryOf head past (turn l.at.stamp node) node x → ShowsNext head past (turn l.at.stamp node) x
        → IsRecovering head.osts (line (turn l.at.stamp node) x ∷ past) → (IsRecovering head.osts past → closing_of head.clients past ≡ [])
        → closing_of head.clients (line (turn l.at.stamp node) x ∷ past) ≡ []
    by (Target t) (Close o) ok next r h = absurd (closed_now head past l.at.stamp t o ok r)
    by (Target t) (Boot b disk) ok next r h = ap but_first (nothing_left head past (turn l.at.stamp (Target t)) (Boot b disk) next (λ i. i))
    by (Client c) x ok next r h = h r
    by (Target t) x ok next r h = ap but_first (h r)

-- ---- over the whole past

-- nothing is left to show at that target
abbrev pub NoneLeft : Head → ℕ → List Line → Type 0
NoneLeft head t past = closing_of head.clients (only t past) ≡ []

module _ (head : Head) (t : ℕ) (past : List Line) (g : Grown head past) where
  -- a life that the laws hold to be evicted was evicted
  pub law_evicted : (w : Who) → is_evicted t (printed past) w ≡ true → Evicted (only t past) w
  law_evicted w e = evictions_so head (only t past) (grown_of head t past g) w (sym (evictions_are t past w) ∙ e)

  pub evicted_law : (w : Who) → Evicted (only t past) w → (is_evicted t (printed past) w ≡ true) ⊎ LeftEvict head (only t past) w
  evicted_law w e = ⊎_elim (λ (i : is_life w (evictions_of (only t past)) ≡ true). inl (evictions_are t past w ∙ i))
      (λ (j : LeftEvict head (only t past) w). inr j) (evicted_shown head (only t past) (grown_of head t past g) w e)

  stands_on : (w : Who) → HasSlot head.clients (only t past) w → is_evicted t (printed past) w ≡ false
  stands_on w has = by (is_evicted t (printed past) w) refl
    where
      by : (b : Bool) → is_evicted t (printed past) w ≡ b → b ≡ false
      by false e = refl
      by true e = let lt : w.life < w.life = ((holds head past g).at t).lives.apart w w has (law_evicted w e) refl in absurd (omega arith)

  -- a life with a slot has one by the laws, or a close has still to show it
  pub slot_law : (w : Who) → HasSlot head.clients (only t past) w → (has_slot t (printed past) w ≡ true)
      ⊎ In (Joined w) (closing_of head.clients (only t past))
  slot_law w has = ⊎_elim
      (λ (c : Came head (only t past) w). inl (both (came c) (stands_on w has)))
      (λ (j : In (Joined w) (closing_of head.clients (only t past))). inr j)
      (slot_came head (only t past) (grown_of head t past g) w has)
    where
      came : Came head (only t past) w → (nat_eq w.life 1 || has_joined t (printed past) w) ≡ true
      came (inl e) = either_left (has_joined t (printed past) w) e
      came (inr i) = either_right (nat_eq w.life 1) (joins_are t past w ∙ i)

      both : (nat_eq w.life 1 || has_joined t (printed past) w) ≡ true → is_evicted t (printed past) w ≡ false → has_slot t (printed past) w
          ≡ true
      both e f = rw (e, f) refl

  -- and the other way round, for a life of one of the run's clients
  pub law_slot : (w : Who) → has_slot t (printed past) w ≡ true → w.client < head.clients → HasSlot head.clients (only t past) w
      ⊎ LeftEvict head (only t past) w
  law_slot w e lt =
      let p = and_parts (nat_eq w.life 1 || has_joined t (printed past) w) (not (is_evicted t (printed past) w)) e in
      ⊎_elim
      (λ (i : HasSlot head.clients (only t past) w). inl i)
      (λ (i : Evicted (only t past) w). ⊎_elim
      (λ (j : is_evicted t (printed past) w ≡ true). absurd (off (is_evicted t (printed past) w) p.1 j))
      (λ (j : LeftEvict head (only t past) w). inr j)
      (evicted_law w i))
      (had (nat_eq w.life 1) refl p.0)
    where
      off : (b : Bool) → not b ≡ true → b ≡ true → ⊥
      off true q e = absurd (cc)
      off false q e = absurd (cc)

      had : (b : Bool) → nat_eq w.life 1 ≡ b → (b || has_joined t (printed past) w) ≡ true → Had head.clients (only t past) w
      had true q f = subst (λ (n : ℕ). Had head.clients (only t past) (record { client = w.client; life = n })) (sym (eqb-true w.life 1 q))
          (((holds head past g).at t).lives.first w.client lt)
      had false q f = joins_had head (only t past) (grown_of head t past g) w (sym (joins_are t past w) ∙ f)

  -- where nothing is left both say the same
  module _ (none : NoneLeft head t past) where
    pub slot_now : (w : Who) → HasSlot head.clients (only t past) w → has_slot t (printed past) w ≡ true
    slot_now w has = ⊎_elim (λ (e : has_slot t (printed past) w ≡ true). e)
        (λ (j : In (Joined w) (closing_of head.clients (only t past))). absurd (subst (λ (es : List Entry). In (Joined w) es) none j))
        (slot_law w has)

    pub now_slot : (w : Who) → has_slot t (printed past) w ≡ true → w.client < head.clients → HasSlot head.clients (only t past) w
    now_slot w e lt = ⊎_elim (λ (i : HasSlot head.clients (only t past) w). i)
        (λ (j : LeftEvict head (only t past) w). absurd (subst (λ (es : List Entry). In (Evict w j.0) es) none j.1)) (law_slot w e lt)

    pub evicted_now : (w : Who) → Evicted (only t past) w → is_evicted t (printed past) w ≡ true
    evicted_now w e = ⊎_elim (λ (i : is_evicted t (printed past) w ≡ true). i)
        (λ (j : LeftEvict head (only t past) w). absurd (subst (λ (es : List Entry). In (Evict w j.0) es) none j.1)) (evicted_law w e)

-- who has or had a slot keeps or had it
pub had_on : (head : Head) (t : ℕ) (l : Line) (past : List Line) → Grown head (l ∷ past) → (w : Who) → Had head.clients (only t past) w
    → Had head.clients (only t (l ∷ past)) w
had_on head t l past g w h = by (concerns t l.at.node l.entry) refl
  where
    by : (b : Bool) → concerns t l.at.node l.entry ≡ b → Had head.clients (if b then l ∷ only t past else only t past) w
    by true e = had_more head l (only t past) (g.0.of t e) w h
    by false e = h
