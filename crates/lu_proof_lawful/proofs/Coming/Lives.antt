-- A client's turn begins one life at most: each new life follows the notice that the old one is over, and a turn takes one
-- message. So after so many turns no client has come further than one life more.
use Rattle.std.proofs.Common.{◌≡◌, ℕ, ◌+◌, ◌≤◌, Bool, true, false, List, length, [], ◌∷◌, ◌⊎◌, inl, inr, ⊎_elim, refl, sym, subst}
use Rattle.std.proofs.Common.{ap, ◌∙◌, arith}
use Rattle.std.specs.Prelude.{nat_eq}
use Rattle.std.proofs.lemmas.Bool.{cond-true, eqb-true}
use Rattle.lu_base.specs.declared.ids.At.{At}
use Rattle.lu_base.specs.declared.ids.Node.{Node}
use Rattle.lu_base.specs.declared.ids.Node.TheVariants.{Client, Target}
use Rattle.lu_base.specs.declared.ids.Stamp.{Stamp}
use Rattle.lu_base.specs.declared.ids.Who.{Who}
use Rattle.lu_msg.specs.declared.messages.Message.{Message}
use Rattle.lu_msg.specs.declared.messages.Message.TheVariants as message
use Rattle.lu_spec_entries.specs.Words.{Entry, Take, Life, Line, line, with_turn, turn_before, is_client}
use Rattle.lu_spec_client.specs.Recovery.{next_life}
use Rattle.lu_spec_client.specs.Calls.{life_at}
use Rattle.lu_spec_client.specs.States.{Client as ClientState}
use Rattle.lu_spec_run.specs.Heads as table
use Rattle.lu_spec_run.specs.Runs.{Turn, lines_of, IsRun, limits_of}
use Rattle.lu_proof_run.proofs.Clients.{client_other}
use Rattle.lu_proof_lawful.specs.Covered.Runs.{AllCovered}
use Rattle.lu_proof_lawful.specs.Coming.{LivesAreFew}
use Rattle.lu_proof_lawful.proofs.Preconditions.Covers.{covered_turn}
use Rattle.lu_proof_lawful.proofs.Preconditions.Obey.{grown}
use Rattle.lu_proof_lawful.proofs.Preconditions.Turns.{covered_head, run_later}
use Rattle.lu_proof_lawful.specs.Covered.Heads.{Head}
use Rattle.lu_proof_lawful.proofs.Preconditions.Ends.{none_took, grown_under}
use Rattle.lu_proof_lawful.proofs.Preconditions.Grown.{Grown}
use Rattle.lu_proof_lawful.proofs.Preconditions.Heard.{Took, Later}
use Rattle.lu_proof_lawful.proofs.Preconditions.Guards.{LifeOk, EntryOk}
use Rattle.lu_proof_lawful.proofs.Preconditions.Lists.{self, turn, turn_irreflexive}

abbrev Here : At → List Line → Type 0
Here at [] = ⊥
Here at (l ∷ p) = l.at ≡ at

here_now : (at : At) (l : Line) (p : List Line) → Later (l ∷ p) at → Here at (l ∷ p) → ⊥
here_now at l p later h = turn_irreflexive at (subst (λ (a : At). turn_before a at ≡ true) h later)

-- what this turn took is its first entry
abbrev Only : At → Entry → List Line → Type 0
Only at first p = (from : Node) (m : Message) → Took p at from m → (n : ℕ) × (first ≡ Take n from m)

module _ (head : Head) (stamp : Stamp) (c : ℕ) (first : Entry) (life : Who) where
  abbrev here : At
  here = turn stamp (Client c)

  only_more : (e : Entry) (p : List Line) → Grown head (line here e ∷ p) → Here here p → Only here first p
      → Only here first (line here e ∷ p)
  only_more e [] g h only from m took = absurd h
  only_more e (l ∷ p) g h only from m took = by e g.0.ok took
    where
      by : (x : Entry) → EntryOk (l ∷ p) here (Client c) x → Took (line here x ∷ l ∷ p) here from m → (n : ℕ) × (first ≡ Take n from m)
      by (Take n sender k) ok took = absurd (here_now here l p ok.later h)
      by _ ok took = only from m took

  -- the turn took the notice that this life is over
  abbrev Named : Who → Type 0
  Named who = (n t boot : ℕ) × (first ≡ Take n (Target t) (message.Evicted who boot))

  -- the life is that before the turn, or the next one, after its notice
  abbrev Stands : List Line → Type 0
  Stands p = (life_at c p ≡ life) ⊎ ((life_at c p ≡ next_life life) × Named life)

  names : (p : List Line) (w : Who) → Only here first p → LifeOk p here c w → Named (life_at c p)
  names p w only ok = let took = only (Target ok.notice.target) (message.Evicted (life_at c p) ok.notice.boot) ok.notice.took in
      (took.0, ok.notice.target, ok.notice.boot, took.1)

  one_name : (a b : Who) → Named a → Named b → a ≡ b
  one_name a b x y = let same : Take x.0 (Target x.1) (message.Evicted a x.2) ≡ Take y.0 (Target y.1) (message.Evicted b y.2) = sym x.3
      ∙ y.3 in cc

  life_line : (w : Who) (p : List Line) → life_at c (line here (Life w) ∷ p) ≡ w
  life_line w p = cond-true (nat_eq c c) w (life_at c p) (self c)

  begins : (w : Who) (p : List Line) → Only here first p → LifeOk p here c w → Stands p → Stands (line here (Life w) ∷ p)
  begins w p only ok (inl s) =
      let is : life_at c (line here (Life w) ∷ p) ≡ next_life life = life_line w p ∙ ok.next ∙ ap next_life s in
      inr (is, subst Named s (names p w only ok))
  begins w p only ok (inr s) =
      let same : life ≡ next_life life = one_name life (next_life life) s.1 (subst Named s.0 (names p w only ok)) in
      let less : life.life ≡ life.life + 1 = ap (λ (v : Who). v.life) same in
      absurd (omega (arith, less))

  stands_more : (e : Entry) (p : List Line) → EntryOk p here (Client c) e → Only here first p → Stands p → Stands (line here e ∷ p)
  stands_more (Life w) p ok only s = begins w p only ok s
  stands_more e p ok only s = s

  stands_all : (es : List Entry) (p : List Line) → Grown head (with_turn here es p) → Here here p → Only here first p → Stands p
      → Stands (with_turn here es p)
  stands_all [] p g h only s = s
  stands_all (e ∷ es) p g h only s =
      let under = grown_under head here es (line here e ∷ p) g in
      stands_all es (line here e ∷ p) g refl (only_more e p under h only) (stands_more e p under.0.ok only s)

  low : (p : List Line) → Stands p → (life_at c p).life ≤ life.life + 1
  low p (inl s) = let e = ap (λ (v : Who). v.life) s in omega (arith, e)
  low p (inr s) = let e = ap (λ (v : Who). v.life) s.0 in omega (arith, e)

pub life_turn : (head : Head) (past : List Line) (stamp : Stamp) (c : ℕ) (es : List Entry)
    → Grown head (with_turn (turn stamp (Client c)) es past) → Later past (turn stamp (Client c))
    → (life_at c (with_turn (turn stamp (Client c)) es past)).life ≤ (life_at c past).life + 1
life_turn head past stamp c [] g later = omega arith
life_turn head past stamp c (e ∷ es) g later =
    low head stamp c e (life_at c past) (with_turn at es (line at e ∷ past))
    (stands_all head stamp c e (life_at c past) es (line at e ∷ past) g refl (start under.1) (inl (stays e under.0.ok)))
  where
    at : At
    at = turn stamp (Client c)

    under : Grown head (line at e ∷ past)
    under = grown_under head at es (line at e ∷ past) g

    start : Grown head past → Only at e (line at e ∷ past)
    start g from m took = by e took
      where
        by : (x : Entry) → Took (line at x ∷ past) at from m → (n : ℕ) × (x ≡ Take n from m)
        by (Take n sender k) took = ⊎_elim
            (λ (q : (at ≡ at) × (sender ≡ from) × (k ≡ m)).
            (n, ap (λ (v : Node). Take n v k) q.1 ∙ ap (λ (v : Message). Take n from v) q.2))
            (λ (q : Took past at from m). absurd (none_took head past at from m g later q))
            took
        by x took = absurd (none_took head past at from m g later took)

    stays : (x : Entry) → EntryOk past at (Client c) x → life_at c (line at x ∷ past) ≡ life_at c past
    stays (Life w) ok = absurd
        (none_took head past at (Target ok.notice.target) (message.Evicted (life_at c past) ok.notice.boot) under.1 later ok.notice.took)
    stays x ok = refl

-- ---- in a run

module _ (head : table.Head) where
  turn_lives : (turns : List Turn) (t : Turn) → IsRun head (t ∷ turns) → AllCovered (lines_of (t ∷ turns)) → (c : ℕ)
      → (life_at c (lines_of turns)).life ≤ length turns + 1 → (life_at c (lines_of (t ∷ turns))).life ≤ length turns + 2
  turn_lives turns t run covered c before = by t.at.node refl (is_client c t.at.node) refl
    where
      other : is_client c t.at.node ≡ false → (life_at c (lines_of (t ∷ turns))).life ≤ length turns + 2
      other apart =
          let same = ap (λ (v : ClientState). v.who.life) (client_other (limits_of head) c (lines_of turns) t.at t.entries apart) in
          omega (arith, before, same)

      own : (d : ℕ) → t.at.node ≡ Client d → c ≡ d → (life_at c (lines_of (t ∷ turns))).life ≤ length turns + 2
      own d node same =
          let at : t.at ≡ turn t.at.stamp (Client d) = ap (λ (n : Node). turn t.at.stamp n) node in
          let more = life_turn (covered_head head) (lines_of turns) t.at.stamp d t.entries
          (subst (λ (a : At). Grown (covered_head head) (with_turn a t.entries (lines_of turns))) at
          (grown head (t ∷ turns) run covered))
          (subst (λ (a : At). Later (lines_of turns) a) at (run_later head turns t.at run.2 run.0)) in
          let here : (life_at d (with_turn t.at t.entries (lines_of turns))).life ≤ (life_at d (lines_of turns)).life + 1 =
          subst (λ (a : At). (life_at d (with_turn a t.entries (lines_of turns))).life ≤ (life_at d (lines_of turns)).life + 1)
          (sym at) more in
          let mine : (life_at c (lines_of (t ∷ turns))).life ≤ (life_at c (lines_of turns)).life + 1 =
          subst (λ (k : ℕ). (life_at k (lines_of (t ∷ turns))).life ≤ (life_at k (lines_of turns)).life + 1) (sym same) here in
          omega (arith, before, mine)

      by : (node : Node) → t.at.node ≡ node → (b : Bool) → is_client c t.at.node ≡ b
          → (life_at c (lines_of (t ∷ turns))).life ≤ length turns + 2
      by node is false e = other e
      by (Target u) is true e = other (ap (is_client c) is)
      by (Client d) is true e = own d is (eqb-true c d (sym (ap (is_client c) is) ∙ e))

  lives_low : (turns : List Turn) → IsRun head turns → AllCovered (lines_of turns) → (c : ℕ)
      → (life_at c (lines_of turns)).life ≤ length turns + 1
  lives_low [] run covered c = omega arith
  lives_low (t ∷ turns) run covered c =
      let before = lives_low turns run.2 (covered_turn t.at t.entries (lines_of turns) covered).1 c in
      let low = turn_lives turns t run covered c before in
      omega (arith, low)

pub lives_are_few : LivesAreFew
lives_are_few head turns is run covered c = lives_low head turns run covered c
