-- What a story says is committed: that which its target has committed, but for the moments after a close, which shows its commit next. It
-- never
-- goes back, and what closes lost stays lost.
use Rattle.std.proofs.Common.{◌≡◌, ℕ, ◌≤◌, Bool, true, false, List, [], ◌∷◌, ◌⊎◌, inl, inr, ⊎_elim, refl, sym, subst, ap, ◌∙◌, arith}
use Rattle.std.specs.Prelude.{nat_eq}
use Rattle.std.proofs.lemmas.Bool.{cond_both, or_parts, eqb-true, eqb-false}
use Rattle.lu_base.specs.declared.ids.Node.{Node}
use Rattle.lu_base.specs.declared.ids.Node.TheVariants.{Client, Target}
use Rattle.lu_base.specs.declared.ids.Stamp.{Stamp}
use Rattle.lu_base.specs.declared.locks.Resource.{Resource}
use Rattle.lu_msg.specs.declared.commits.Batch.{Batch}
use Rattle.lu_spec_entries.specs.Carried.{Outcome}
use Rattle.lu_spec_entries.specs.Words as word
use Rattle.lu_spec_entries.specs.Words.{Line, line}
use Rattle.lu_spec_entries.specs.Concerns.{concerns, only}
use Rattle.lu_proof_lawful.specs.Covered.TargetStates.{server_of}
use Rattle.lu_proof_lawful.specs.Covered.TargetCloses.{is_lost, closing_of, loses}
use Rattle.lu_proof_lawful.specs.Covered.Heads.{Head}
use Rattle.lu_proof_lawful.proofs.Preconditions.StoryGuards.{CloseOk, EntryOf}
use Rattle.lu_proof_lawful.proofs.Preconditions.Grown.{Grown, ShowsNext}
use Rattle.lu_proof_lawful.proofs.Preconditions.Lists.{self, turn}
use Rattle.lu_proof_lawful.proofs.Invariants.Groups.{HoldsAt}
use Rattle.lu_proof_lawful.proofs.Invariants.All.{holds}
use Rattle.lu_proof_lawful.proofs.Invariants.Keeps.{commits_more, closes_more}
use Rattle.lu_proof_bytes.specs.Object.Words.{Entry}
use Rattle.lu_proof_bytes.specs.Object.Words as words
use Rattle.lu_proof_bytes.specs.Object.Folds as says
use Rattle.lu_proof_lawful.specs.Projection.Stories.{story, step}
use Rattle.lu_proof_lawful.proofs.Refinement.TiedTarget.{CommitsNext, CommittedAs}
use Rattle.lu_proof_lawful.proofs.Refinement.TargetLines.{own_only, own_story, other_only}
use Rattle.lu_proof_lawful.proofs.Refinement.LineCases.{IsOther, by_line}

-- the number that a target has committed
abbrev pub committed_of : ℕ → List Line → ℕ
committed_of osts past = (server_of osts past).committed.0

-- the same line
pub line_is : (l : Line) (node : Node) (e : word.Entry) → l.at.node ≡ node → l.entry ≡ e → l ≡ line (turn l.at.stamp node) e
line_is l node e p q = λ i. line (turn l.at.stamp (p i)) (q i)

-- ---- it never goes back

committed_line : (head : Head) (past : List Line) (stamp : Stamp) (node : Node) (e : word.Entry)
    → EntryOf head past (turn stamp node) node e → HoldsAt head past → HoldsAt head (line (turn stamp node) e ∷ past)
    → committed_of head.osts past ≤ committed_of head.osts (line (turn stamp node) e ∷ past)
committed_line head past stamp (Client c) e ok h k = omega arith
committed_line head past stamp (Target u) (word.Commit to batch) ok h k = commits_more head past (turn stamp (Target u)) to batch ok h
committed_line head past stamp (Target u) (word.Close o) ok h k = let same = ok.of_committed in let le = k.history.on_disk
    in omega (arith, same, le)
committed_line head past stamp (Target u) e ok h k = omega arith

pub committed_more : (head : Head) (t : ℕ) (l : Line) (past : List Line) → Grown head (l ∷ past)
    → committed_of head.osts (only t past) ≤ committed_of head.osts (only t (l ∷ past))
committed_more head t l past g =
    cond_both (concerns t l.at.node l.entry) (l ∷ only t past) (only t past)
    (λ (p : List Line). HoldsAt head p → committed_of head.osts (only t past) ≤ committed_of head.osts p)
    (λ q k. committed_line head (only t past) l.at.stamp l.at.node l.entry (g.0.of t q) ((holds head past g.1).at t) k)
    (λ q k. omega arith)
    ((holds head (l ∷ past) g).at t)

-- ---- what was lost is lost

pub lost_line : (osts : ℕ) (past : List Line) (stamp : Stamp) (node : Node) (e : word.Entry) (n : ℕ)
    → is_lost osts (line (turn stamp node) e ∷ past) n ≡ false → is_lost osts past n ≡ false
lost_line osts past stamp (Client c) e n f = f
lost_line osts past stamp (Target u) (word.Close o) n f = (or_parts (is_lost osts past n) (loses (committed_of osts past) o n) f).0
lost_line osts past stamp (Target u) e n f = f

pub lost_before : (osts t : ℕ) (l : Line) (past : List Line) (n : ℕ) → is_lost osts (only t (l ∷ past)) n ≡ false
    → is_lost osts (only t past) n ≡ false
lost_before osts t l past n =
    cond_both (concerns t l.at.node l.entry) (l ∷ only t past) (only t past)
    (λ (p : List Line). is_lost osts p n ≡ false → is_lost osts (only t past) n ≡ false)
    (λ q f. lost_line osts (only t past) l.at.stamp l.at.node l.entry n f)
    (λ q f. f)

-- ---- what the story says of it

-- of a commit that is next, no other line comes
pub next_commits : (head : Head) (past : List Line) (l : Line) → ShowsNext head past l.at l.entry
    → CommitsNext (closing_of head.clients past) → (to : ℕ) × (batch : Batch) × (l.entry ≡ word.Commit to batch)
next_commits head past l shows = by (closing_of head.clients past) refl
  where
    by : (es : List word.Entry) → closing_of head.clients past ≡ es → CommitsNext es → (to : ℕ) × (batch : Batch)
        × (l.entry ≡ word.Commit to batch)
    by [] q k = absurd k
    by (e ∷ es) q k = (k.0, k.1, (shows e es q).0 ∙ k.2)

other_committed : (x : Entry) → IsOther x → (h : List Entry) → says.committed (x ∷ h) ≡ says.committed h
other_committed (words.Heard q a) n h = absurd n
other_committed (words.Hold l s seen) n h = absurd n
other_committed (words.Flies q) n h = absurd n
other_committed (words.Tells c call) n h = absurd n
other_committed (words.Txn m q) n h = absurd n
other_committed (words.Commit m) n h = absurd n
other_committed (words.Close b lost gone) n h = absurd n
other_committed _ n h = refl

-- a line that is neither of the target's commits nor one of its closes leaves it
quiet_committed : (t : ℕ) (r : Resource) (past : List Line) (h : List Entry) (node : Node) (e : word.Entry)
    → ((to : ℕ) (batch : Batch) → node ≡ Target t → e ≡ word.Commit to batch → ⊥) → ((o : Outcome) → node ≡ Target t → e ≡ word.Close o → ⊥)
    → says.committed (step t r node past e h) ≡ says.committed h
quiet_committed t r past h node e commits closes =
    by_line (λ (k : List Entry). says.committed k ≡ says.committed h) t r past h node e (record {
      same = refl;
      other = λ x n. other_committed x n h;
      heard = λ c f p o here is live. refl;
      hold = λ c lock marked size seen here is live on. refl;
      flies = λ c f o here is live. refl;
      tells = λ c change k here is live. refl;
      txn = λ d o here is. refl;
      commit = λ to batch here is. absurd (commits to batch here is);
      close = λ o here is. absurd (closes o here is);
    })

pub committed_is : (head : Head) (t : ℕ) (r : Resource) (past : List Line) → Grown head past
    → CommittedAs head (only t past) (says.committed (story t r past))
committed_is head t r [] g = inl refl
committed_is head t r (l ∷ past) g = by l.at.node l.entry refl refl (committed_is head t r past g.1)
  where
    P : List Line
    P = only t past

    h : List Entry
    h = story t r past

    apart : (u : ℕ) → nat_eq t u ≡ false → Target u ≡ Target t → ⊥
    apart u q e = let same : u ≡ t = cc in absurd (eqb-false t u q (sym same))

    -- nothing else of the target's own, but a commit or a close
    rest : (e : word.Entry) → committed_of head.osts (line (turn l.at.stamp (Target t)) e ∷ P) ≡ committed_of head.osts P
        → ((to : ℕ) (batch : Batch) → e ≡ word.Commit to batch → ⊥) → ((o : Outcome) → e ≡ word.Close o → ⊥)
        → ShowsNext head P (turn l.at.stamp (Target t)) e → CommittedAs head P (says.committed h)
        → CommittedAs head (line (turn l.at.stamp (Target t)) e ∷ P)
        (says.committed (story t r (line (turn l.at.stamp (Target t)) e ∷ past)))
    rest e same commits closes shows (inl ih) = inl (quiet_committed t r past h (Target t) e (λ to batch here is. commits to batch is)
        (λ o here is. closes o is) ∙ ih ∙ sym same)
    rest e same commits closes shows (inr ih) = let n = next_commits head P (line (turn l.at.stamp (Target t)) e) shows ih.1
        in absurd (commits n.0 n.1 n.2)

    own : (e : word.Entry) → l ≡ line (turn l.at.stamp (Target t)) e → CommittedAs head P (says.committed h)
        → CommittedAs head (line (turn l.at.stamp (Target t)) e ∷ P)
        (says.committed (story t r (line (turn l.at.stamp (Target t)) e ∷ past)))
    own (word.Commit to batch) is ih = inl (ap says.committed (own_story t r l.at.stamp (word.Commit to batch) past))
    own (word.Close o) is ih =
        let grown = subst (λ (x : Line). Grown head (x ∷ past)) is g in
        let ok : CloseOk head P (turn l.at.stamp (Target t)) o = grown.0.of t (self t) in
        let more : committed_of head.osts P ≤ o.disk.committed =
        subst (λ (x : Outcome). committed_of head.osts P ≤ x.disk.committed) (sym ok.is)
        (closes_more head P (turn l.at.stamp (Target t)) o ok) in
        let low : says.committed h ≤ committed_of head.osts P =
        ⊎_elim (λ (e : says.committed h ≡ committed_of head.osts P). omega (arith, e)) (λ e. e.0) ih in
        inr (
          subst (λ n. n ≤ o.disk.committed) (sym (ap says.committed (own_story t r l.at.stamp (word.Close o) past)))
              (omega (arith, more, low)),
          (o.disk.committed, _, refl),
        )
    own e is ih = rest e refl (λ to batch q. absurd (cc)) (λ o q. absurd (cc))
        ((subst (λ (x : Line). Grown head (x ∷ past)) is g).0.shows t (self t)) ih

    by : (node : Node) (e : word.Entry) → l.at.node ≡ node → l.entry ≡ e → CommittedAs head P (says.committed h)
        → CommittedAs head (only t (line (turn l.at.stamp node) e ∷ past))
        (says.committed (story t r (line (turn l.at.stamp node) e ∷ past)))
    by (Client c) e p q ih =
        subst (CommittedAs head (only t (line (turn l.at.stamp (Client c)) e ∷ past)))
        (sym (quiet_committed t r past h (Client c) e (λ to batch here is. absurd (cc)) (λ o here is. absurd (cc))))
        (cond_both (concerns t (Client c) e) (line (turn l.at.stamp (Client c)) e ∷ P) P
        (λ (x : List Line). CommittedAs head x (says.committed h)) (λ b. ih) (λ b. ih))
    by (Target u) e p q ih = split (nat_eq t u) refl
      where
        split : (b : Bool) → nat_eq t u ≡ b → CommittedAs head (only t (line (turn l.at.stamp (Target u)) e ∷ past))
            (says.committed (story t r (line (turn l.at.stamp (Target u)) e ∷ past)))
        split true b =
            let same : t ≡ u = eqb-true t u b in
            subst (λ v. CommittedAs head (only t (line (turn l.at.stamp (Target v)) e ∷ past))
            (says.committed (story t r (line (turn l.at.stamp (Target v)) e ∷ past)))) same
            (subst (λ (x : List Line). CommittedAs head x (says.committed (story t r (line (turn l.at.stamp (Target t)) e ∷ past))))
            (sym (own_only t l.at.stamp e past))
            (own e (line_is l (Target t) e (p ∙ ap Target (sym same)) q) ih))
        split false b =
            subst (λ (x : List Line). CommittedAs head x (says.committed (story t r (line (turn l.at.stamp (Target u)) e ∷ past))))
            (sym (other_only t l.at.stamp u e past b))
            (subst (CommittedAs head P) (sym (quiet_committed t r past h (Target u) e (λ to batch here is. apart u b here)
            (λ o here is. apart u b here))) ih)
