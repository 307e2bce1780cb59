-- The history of a story is the same for two sets of lost numbers that agree of each transaction which no close so far lost.
use Rattle.std.proofs.Common.{◌≡◌, ℕ, ◌<◌, Bool, true, false, List, [], ◌∷◌, ◌⊎◌, inl, inr, ⊎_elim, refl, sym, subst, ap, ◌∙◌, arith}
use Rattle.std.specs.Prelude.{nat_eq, ◌+◌, ◌*◌, ◌&&◌, ◌||◌, not, if◌then◌else◌}
use Rattle.std.proofs.lemmas.Bool.{cond_both, cond-true, or_from, eqb-true, eqb-false}
use Rattle.lu_base.specs.declared.ids.Node.{Node}
use Rattle.lu_base.specs.declared.ids.Node.TheVariants.{Client, Target}
use Rattle.lu_base.specs.declared.ids.Stamp.{Stamp}
use Rattle.lu_base.specs.declared.locks.Resource.{Resource}
use Rattle.lu_spec_entries.specs.Carried.{Deed, Outcome}
use Rattle.lu_spec_entries.specs.Words as word
use Rattle.lu_spec_entries.specs.Words.{Line, line}
use Rattle.lu_spec_entries.specs.Concerns.{concerns, only}
use Rattle.lu_spec_target.specs.Phase.{first_of}
use Rattle.lu_proof_lawful.specs.Covered.TargetStates.{server_of}
use Rattle.lu_proof_lawful.specs.Covered.TargetCloses.{is_lost, loses}
use Rattle.lu_proof_lawful.specs.Covered.Heads.{Head}
use Rattle.lu_proof_lawful.proofs.Preconditions.StoryGuards.{EntryOf}
use Rattle.lu_proof_lawful.proofs.Preconditions.Acts.{made}
use Rattle.lu_proof_lawful.proofs.Preconditions.Grown.{Grown}
use Rattle.lu_proof_lawful.proofs.Preconditions.Lists.{self, turn}
use Rattle.lu_proof_lawful.proofs.Invariants.Groups.{HoldsAt}
use Rattle.lu_proof_lawful.proofs.Invariants.TargetGroups.{IsMade}
use Rattle.lu_proof_lawful.proofs.Invariants.All.{holds}
use Rattle.lu_proof_lawful.proofs.Invariants.Lines.{only_more}
use Rattle.lu_proof_bytes.specs.Object.Words.{Entry, Tells, Txn, Close}
use Rattle.lu_proof_bytes.specs.Object.Folds.{also}
use Rattle.lu_proof_bytes.specs.Object.Folds as says
use Rattle.lu_proof_bytes.specs.Object.History.{Item, history, told_item, piece_item}
use Rattle.lu_proof_lawful.specs.Projection.Closes.{lost_by, kept_of}
use Rattle.lu_proof_lawful.specs.Projection.Stories.{story}
use Rattle.lu_proof_lawful.proofs.Refinement.ClosedCommits.{committed_of, line_is}
use Rattle.lu_proof_lawful.proofs.Refinement.TargetLines.{own_story}
use Rattle.lu_proof_lawful.proofs.Refinement.LineCases.{IsOther, by_line}
use Rattle.lu_proof_lawful.proofs.Refinement.KeptLines.{MadeAt, committed_same}

-- ---- of any story: the two agree of each transaction, with what later closes lost

abbrev pub AgreeOf : (a b : ℕ → Bool) → List Entry → Type 0
AgreeOf a b [] = Unit {0}
AgreeOf a b (Txn n q ∷ h) = (a n ≡ b n) × AgreeOf a b h
AgreeOf a b (Close boot lost gone ∷ h) = AgreeOf (also a lost) (also b lost) h
AgreeOf a b (_ ∷ h) = AgreeOf a b h

pub same_history : (out a b : ℕ → Bool) (h : List Entry) → AgreeOf a b h → history out a h ≡ history out b h
same_history out a b [] s = refl
same_history out a b (Tells c call ∷ h) s = by (out c) (same_history out a b h s)
  where
    by : (v : Bool) → history out a h ≡ history out b h → (if v then history out a h else told_item c call (history out a h))
        ≡ (if v then history out b h else told_item c call (history out b h))
    by true e = e
    by false e = ap (told_item c call) e
same_history out a b (Txn n q ∷ h) s =
    ap (λ (v : Bool). if out q.life && not v then piece_item q.life q.op (history out a h) else history out a h) s.0
    ∙ ap (λ (is : List Item). if out q.life && not (b n) then piece_item q.life q.op is else is) (same_history out a b h s.1)
same_history out a b (Close boot lost gone ∷ h) s = same_history out (also a lost) (also b lost) h s
same_history out a b (_ ∷ h) s = same_history out a b h s

-- ---- of a past: the two agree of what was done and isn't lost so far

abbrev pub AgreeSoFar : (osts : ℕ) → (a b : ℕ → Bool) → List Line → Type 0
AgreeSoFar osts a b past = (n : ℕ) → MadeAt past n → is_lost osts past n ≡ false → a n ≡ b n

-- a line that isn't the target's close loses nothing
not_lost : (osts t : ℕ) (past : List Line) (stamp : Stamp) (node : Node) (e : word.Entry) → concerns t node e ≡ true
    → ((o : Outcome) → node ≡ Target t → e ≡ word.Close o → ⊥) → (n : ℕ)
    → is_lost osts past n ≡ false → is_lost osts (line (turn stamp node) e ∷ past) n ≡ false
not_lost osts t past stamp (Client c) e q none n f = f
not_lost osts t past stamp (Target u) (word.Close o) q none n f = absurd (none o (ap Target (sym (eqb-true t u q))) refl)
not_lost osts t past stamp (Target u) e q none n f = f

closing_or : (t : ℕ) (node : Node) (e : word.Entry) → ((o : Outcome) × (node ≡ Target t) × (e ≡ word.Close o))
    ⊎ ((o : Outcome) → node ≡ Target t → e ≡ word.Close o → ⊥)
closing_or t (Client c) e = inr (λ o p q. absurd (cc))
closing_or t (Target u) (word.Close o) = by (nat_eq u t) refl
  where
    by : (b : Bool) → nat_eq u t ≡ b → ((x : Outcome) × (Target u ≡ Target t) × (word.Close o ≡ word.Close x))
        ⊎ ((x : Outcome) → Target u ≡ Target t → word.Close o ≡ word.Close x → ⊥)
    by true e = inl (o, ap Target (eqb-true u t e), refl)
    by false e = inr (λ x p q. let same : u ≡ t = cc in eqb-false u t e same)
closing_or t (Target u) e = inr (λ o p q. absurd (cc))

module _ (head : Head) (t : ℕ) (r : Resource) (l : Line) (past : List Line) (g : Grown head (l ∷ past)) where
  abbrev P : List Line
  P = only t past

  abbrev Q : List Line
  Q = only t (l ∷ past)

  abbrev h : List Entry
  h = story t r past

  own : (node : Node) (e : word.Entry) → l.at.node ≡ node → l.entry ≡ e → concerns t node e ≡ true → Q ≡ line (turn l.at.stamp node) e ∷ P
  own node e p q c =
      cond-true (concerns t l.at.node l.entry) (l ∷ P) P (subst (λ (x : Line). concerns t x.at.node x.entry ≡ true)
      (sym (line_is l node e p q)) c)
      ∙ ap (λ (x : Line). x ∷ P) (line_is l node e p q)

  made_more : (n : ℕ) → MadeAt P n → MadeAt Q n
  made_more n m = (m.0, only_more t l past m.0 m.1, m.2, m.3)

  agree_before : (a b : ℕ → Bool) → ((o : Outcome) → l.at.node ≡ Target t → l.entry ≡ word.Close o → ⊥) → AgreeSoFar head.osts a b Q
      → AgreeSoFar head.osts a b P
  agree_before a b none s n m f =
      s n (made_more n m)
      (cond_both (concerns t l.at.node l.entry) (l ∷ P) P (λ (x : List Line). is_lost head.osts x n ≡ false)
      (λ q. not_lost head.osts t P l.at.stamp l.at.node l.entry q none n f) (λ q. f))

  -- a transaction isn't lost as it is made
  agree_txn : (a b : ℕ → Bool) → AgreeSoFar head.osts a b Q → (d : Deed) → l.at.node ≡ Target t → l.entry ≡ word.Txn d → a d.reply.txn.0
      ≡ b d.reply.txn.0
  agree_txn a b s d here is =
      subst (λ (x : List Line). HoldsAt head x → AgreeSoFar head.osts a b x → a d.reply.txn.0 ≡ b d.reply.txn.0) (sym now) by
      ((holds head (l ∷ past) g).at t) s
    where
      now : Q ≡ line (turn l.at.stamp (Target t)) (word.Txn d) ∷ P
      now = own (Target t) (word.Txn d) here is (self t)

      of_story : EntryOf head P (turn l.at.stamp (Target t)) (Target t) (word.Txn d)
      of_story =
          let same = line_is l (Target t) (word.Txn d) here is in
          subst (λ (x : Line). EntryOf head P x.at x.at.node x.entry) same
          (g.0.of t (subst (λ (x : Line). concerns t x.at.node x.entry ≡ true) (sym same) (self t)))

      is_made : IsMade d
      is_made =
          let m = made head.osts P (turn l.at.stamp (Target t)) t d of_story in
          let n : d.reply.txn.0 ≡ (server_of head.osts P).boot * 4294967296 + ((server_of head.osts P).count + 1) = ap (λ x. x.0) m.number
          in
          omega (arith, n)

      by : HoldsAt head (line (turn l.at.stamp (Target t)) (word.Txn d) ∷ P)
          → AgreeSoFar head.osts a b (line (turn l.at.stamp (Target t)) (word.Txn d) ∷ P) → a d.reply.txn.0 ≡ b d.reply.txn.0
      by at s =
          let low = (at.done.numbers d (inl refl) is_made).0 in
          let boot = at.done.newest d refl in
          s d.reply.txn.0 (d, inl refl, is_made, refl) (at.history.later d.reply.txn.0 (subst (λ m. first_of m < d.reply.txn.0) boot low))

  agree_close : (a b : ℕ → Bool) (o : Outcome) → l.at.node ≡ Target t → l.entry ≡ word.Close o → AgreeSoFar head.osts a b Q
      → AgreeSoFar head.osts (also a (lost_by (says.committed h) o.boot (kept_of o.kept)))
      (also b (lost_by (says.committed h) o.boot (kept_of o.kept))) P
  agree_close a b o here is s n m f = by (lost_by (says.committed h) o.boot (kept_of o.kept) n) refl
    where
      same : lost_by (says.committed h) o.boot (kept_of o.kept) n ≡ loses (committed_of head.osts P) o n
      same = ap (λ c. lost_by c o.boot (kept_of o.kept) n) (committed_same head t r l past g (λ c. false) o here is)

      or_true : (x : Bool) → (x || true) ≡ true
      or_true true = refl
      or_true false = refl

      by : (v : Bool) → lost_by (says.committed h) o.boot (kept_of o.kept) n ≡ v → (a n || v) ≡ (b n || v)
      by true e = or_true (a n) ∙ sym (or_true (b n))
      by false e =
          ap (λ (x : Bool). x || false)
          (s n (made_more n m) (subst (λ (x : List Line). is_lost head.osts x n ≡ false)
          (sym (own (Target t) (word.Close o) here is (self t)))
          (or_from (is_lost head.osts P n) (loses (committed_of head.osts P) o n) f (sym same ∙ e))))

  agree_line : ((a b : ℕ → Bool) → AgreeSoFar head.osts a b P → AgreeOf a b h) → (a b : ℕ → Bool) → AgreeSoFar head.osts a b Q
      → AgreeOf a b (story t r (l ∷ past))
  agree_line ih a b s = ⊎_elim at_close elsewhere (closing_or t l.at.node l.entry)
    where
      other : (x : Entry) → IsOther x → AgreeOf a b h → AgreeOf a b (x ∷ h)
      other (Tells c call) i k = absurd i
      other (Txn n q) i k = absurd i
      other (Close boot lost gone) i k = absurd i
      other x i k = k

      at_close : ((o : Outcome) × (l.at.node ≡ Target t) × (l.entry ≡ word.Close o)) → AgreeOf a b (story t r (l ∷ past))
      at_close c =
          let is = line_is l (Target t) (word.Close c.0) c.1 c.2 in
          subst (λ (x : Line). AgreeOf a b (story t r (x ∷ past))) (sym is)
          (subst (λ (k : List Entry). AgreeOf a b k) (sym (own_story t r l.at.stamp (word.Close c.0) past))
          (ih _ _ (agree_close a b c.0 c.1 c.2 s)))

      elsewhere : ((o : Outcome) → l.at.node ≡ Target t → l.entry ≡ word.Close o → ⊥) → AgreeOf a b (story t r (l ∷ past))
      elsewhere none =
          by_line (AgreeOf a b) t r past h l.at.node l.entry (record {
            same = before;
            other = λ x n. other x n before;
            heard = λ c f p o here is live. before;
            hold = λ c lock marked size seen here is live on. before;
            flies = λ c f o here is live. before;
            tells = λ c change k here is live. before;
            txn = λ d o here is. (agree_txn a b s d here is, before);
            commit = λ to batch here is. before;
            close = λ o here is. absurd (none o here is);
          })
        where
          before : AgreeOf a b h
          before = ih a b (agree_before a b none s)

pub agree_of : (head : Head) (t : ℕ) (r : Resource) (past : List Line) → Grown head past → (a b : ℕ → Bool)
    → AgreeSoFar head.osts a b (only t past) → AgreeOf a b (story t r past)
agree_of head t r [] g a b s = tt
agree_of head t r (l ∷ past) g a b s = agree_line head t r l past g (λ c d k. agree_of head t r past g.1 c d k) a b s

pub history_same : (head : Head) (t : ℕ) (r : Resource) (past : List Line) → Grown head past → (out a b : ℕ → Bool)
    → AgreeSoFar head.osts a b (only t past) → history out a (story t r past) ≡ history out b (story t r past)
history_same head t r past g out a b s = same_history out a b (story t r past) (agree_of head t r past g a b s)
