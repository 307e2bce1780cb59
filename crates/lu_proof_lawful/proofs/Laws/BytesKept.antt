-- What may be lost at the end of a trace, and who may be out, so far as one object is concerned: beyond what is committed, and with what
-- closes lost,
-- nothing of it is known to who stays; and the history of the object is the same without what is committed.
use Rattle.std.proofs.Common.{◌≡◌, ℕ, ◌+◌, ◌<◌, ◌≤◌, Bool, true, false, List, [], ◌∷◌, ◌⊎◌, inl, inr, refl, sym, subst, ap, ◌∙◌, arith}
use Rattle.std.specs.Prelude.{nat_eq, nat_lt, ◌*◌, ◌&&◌, if◌then◌else◌}
use Rattle.std.proofs.lemmas.Bool.{cond_both, cond-true, cond-false, and_parts, ltb-true, eqb-true}
use Rattle.std.proofs.lemmas.Bool.Decides.{nat_tests}
use Rattle.lu_base.specs.declared.ids.Node.{Node}
use Rattle.lu_base.specs.declared.ids.Node.TheVariants.{Client, Target}
use Rattle.lu_base.specs.declared.ids.Who.{Who}
use Rattle.lu_base.specs.declared.locks.Resource.{Resource}
use Rattle.lu_msg.specs.declared.messages.Reply.{Reply as ReplyTo}
use Rattle.lu_spec_entries.specs.Carried.{Deed, Flight}
use Rattle.lu_spec_entries.specs.Words.{Entry, Heard, Hold, Txn as Made, Commit, Close, Line, line, is_target}
use Rattle.lu_spec_entries.specs.Concerns.{concerns, only}
use Rattle.lu_proof_lawful.specs.Covered.TargetStates.{server_of}
use Rattle.lu_proof_lawful.specs.Covered.TargetCloses.{is_lost}
use Rattle.lu_proof_lawful.specs.Covered.ClientStates.{life_of}
use Rattle.lu_proof_lawful.specs.Covered.Heads.{Head}
use Rattle.lu_proof_lawful.proofs.Preconditions.Guards.{In, HeardAs}
use Rattle.lu_proof_lawful.proofs.Preconditions.StoryGuards.{HeardOk}
use Rattle.lu_proof_lawful.proofs.Preconditions.Acts.{made}
use Rattle.lu_proof_lawful.proofs.Preconditions.Grown.{Allowed, Grown}
use Rattle.lu_proof_lawful.proofs.Preconditions.Lists.{self, turn, own_is}
use Rattle.lu_proof_lawful.proofs.Preconditions.Parts.{life_is_of}
use Rattle.lu_proof_lawful.proofs.Invariants.TargetGroups.{Acted, SawIn, IsMade}
use Rattle.lu_proof_lawful.proofs.Invariants.All.{holds}
use Rattle.lu_proof_bytes.specs.Object.Guards.{KeptFor}
use Rattle.lu_proof_bytes.specs.Object.History.{history}
use Rattle.lu_proof_lawful.specs.Projection.Lives.{number_of}
use Rattle.lu_proof_lawful.specs.Projection.Stories.{story}
use Rattle.lu_proof_lawful.proofs.Refinement.ClosedCommits.{committed_of, lost_before}
use Rattle.lu_proof_lawful.proofs.Refinement.KeptLines.{MadeAt, Spared, kept_from}
use Rattle.lu_proof_lawful.proofs.Refinement.HistoryLost.{history_same}
use Rattle.lu_proof_lawful.specs.Fits.{AllStand, WasMade, ReplyStands, HeardStand, HeldStand, CommitsStand, Fits}
use Rattle.lu_proof_lawful.proofs.Laws.Commits.{made_more}
use Rattle.lu_proof_lawful.proofs.Laws.NewDeeds.{client_acted, made_new}

-- what is lost of a target, but what it has committed so far
abbrev pub later : (osts : ℕ) → (ℕ → ℕ → Bool) → ℕ → List Line → ℕ → Bool
later osts lost t past n = lost t n && nat_lt (committed_of osts (only t past)) n

later_not : (osts : ℕ) (lost : ℕ → ℕ → Bool) (t : ℕ) (past : List Line) (n : ℕ) → lost t n ≡ false → later osts lost t past n ≡ false
later_not osts lost t past n e = ap (λ (b : Bool). b && nat_lt (committed_of osts (only t past)) n) e

one_stands : (lost : ℕ → Bool) (ns : List ℕ) (n : ℕ) → AllStand lost ns → In n ns → lost n ≡ false
one_stands lost [] n s i = absurd i
one_stands lost (m ∷ ns) n s (inl e) = ap lost (sym e) ∙ s.0
one_stands lost (m ∷ ns) n s (inr i) = one_stands lost ns n s.1 i

-- ---- what was done of a number

acted_was : (head : Head) (t : ℕ) (past : List Line) → Grown head past → (d : Deed) → Acted (only t past) d → IsMade d
    → WasMade t past d.reply.txn.0
acted_was head t [] g d a m = absurd a
acted_was head t (l ∷ past) g d a m = by l.at.node l.entry g.0 a (λ b. acted_was head t past g.1 d b m)
  where
    P : List Line
    P = only t past

    of_target : (u : ℕ) (e : Entry) → nat_eq t u ≡ true → (e ≡ Made d) ⊎ Acted P d → (Acted P d → WasMade t past d.reply.txn.0)
        → WasMade t (line (turn l.at.stamp (Target u)) e ∷ past) d.reply.txn.0
    of_target u e q (inl is) ih = subst (λ (x : Entry). WasMade t (line (turn l.at.stamp (Target u)) x ∷ past) d.reply.txn.0) (sym is)
        (inl (ap Target (sym (eqb-true t u q)), refl))
    of_target u e q (inr a) ih = made_more t (line (turn l.at.stamp (Target u)) e) past d.reply.txn.0 (ih a)

    by : (node : Node) (e : Entry) → Allowed head past (turn l.at.stamp node) e → Acted (only t (line (turn l.at.stamp node) e ∷ past)) d
        → (Acted (only t past) d → WasMade t past d.reply.txn.0) → WasMade t (line (turn l.at.stamp node) e ∷ past) d.reply.txn.0
    by (Client c) e k a ih =
        made_more t (line (turn l.at.stamp (Client c)) e) past d.reply.txn.0
        (ih (cond_both (concerns t (Client c) e) (line (turn l.at.stamp (Client c)) e ∷ P) P (λ (x : List Line). Acted x d → Acted P d)
        (λ q b. client_acted head P l.at.stamp c e d (k.of t q) b) (λ q b. b) a))
    by (Target u) e k a ih =
        cond_both (nat_eq t u) (line (turn l.at.stamp (Target u)) e ∷ P) P
        (λ (x : List Line). Acted x d → WasMade t (line (turn l.at.stamp (Target u)) e ∷ past) d.reply.txn.0)
        (λ q b. of_target u e q (made_new head P l.at.stamp u e d (k.of t q) b m) ih)
        (λ q b. made_more t (line (turn l.at.stamp (Target u)) e) past d.reply.txn.0 (ih b))
        a

module _ (head : Head) (out : Who → Bool) (lost : ℕ → ℕ → Bool) where
  -- ---- what a life that isn't out heard and saw

  heard_spared : (t : ℕ) (past : List Line) (who : Who) (f : Flight) (p : ReplyTo) → HeardStand out lost past
      → HeardAs (only t past) who f p → out p.who ≡ false → ReplyStands (lost t) p
  heard_spared t [] who f p s a o = absurd a
  heard_spared t (l ∷ past) who f p s a o = by l.at.node l.entry s a (λ s a. heard_spared t past who f p s a o)
    where
      by : (node : Node) (e : Entry) → HeardStand out lost (line (turn l.at.stamp node) e ∷ past)
          → HeardAs (only t (line (turn l.at.stamp node) e ∷ past)) who f p
          → (HeardStand out lost past → HeardAs (only t past) who f p → ReplyStands (lost t) p) → ReplyStands (lost t) p
      by (Client d) (Heard v g q) s i ih = of (nat_eq t v) refl i
        where
          of : (b : Bool) → nat_eq t v ≡ b → HeardAs (if b then line (turn l.at.stamp (Client d)) (Heard v g q) ∷ only t past
              else only t past) who f p → ReplyStands (lost t) p
          of true e (inl j) = subst (λ (u : ℕ). ReplyStands (lost u) p) (sym (eqb-true t v e))
              (subst (ReplyStands (lost v)) j.2 (s.0 (ap (λ (w : ReplyTo). out w.who) j.2 ∙ o)))
          of true e (inr j) = ih s.1 j
          of false e j = ih s.1 j
      by (Target u) (Heard v g q) s i ih = of (nat_eq t u) i
        where
          of : (b : Bool) → HeardAs (if b then line (turn l.at.stamp (Target u)) (Heard v g q) ∷ only t past else only t past) who f p
              → ReplyStands (lost t) p
          of true (inl e) = absurd (cc (e.0))
          of true (inr j) = ih s.1 j
          of false j = ih s.1 j
      by node e s i ih = ih s (cond_both (concerns t node e) (line (turn l.at.stamp node) e ∷ only t past) (only t past)
          (λ (x : List Line). HeardAs x who f p → HeardAs (only t past) who f p) (λ q j. j) (λ q j. j) i)

  saw_spared : (t : ℕ) (past : List Line) (who : Who) (n : ℕ) → Grown head past → HeardStand out lost past → HeldStand out lost past
      → SawIn (only t past) who n → out who ≡ false → lost t n ≡ false
  saw_spared t [] who n g s k a o = absurd a
  saw_spared t (l ∷ past) who n g s k a o = by l.at.node l.entry g.0 s k a (λ s k a. saw_spared t past who n g.1 s k a o)
    where
      P : List Line
      P = only t past

      by : (node : Node) (e : Entry) → Allowed head past (turn l.at.stamp node) e
          → HeardStand out lost (line (turn l.at.stamp node) e ∷ past) → HeldStand out lost (line (turn l.at.stamp node) e ∷ past)
          → SawIn (only t (line (turn l.at.stamp node) e ∷ past)) who n
          → (HeardStand out lost past → HeldStand out lost past → SawIn (only t past) who n → lost t n ≡ false) → lost t n ≡ false
      by (Client d) (Heard v g q) ok s k i ih = of (nat_eq t v) refl (ok.of t) i
        where
          of : (b : Bool) → nat_eq t v ≡ b → (b ≡ true → HeardOk (only t past) d g q)
              → SawIn (if b then line (turn l.at.stamp (Client d)) (Heard v g q) ∷ only t past else only t past) who n → lost t n ≡ false
          of true e ok (inl j) =
              let own : q.who ≡ who = (ok refl).who ∙ sym (own_is who (only t past) d j.0) in
              one_stands (lost t) q.seen n (subst (λ u. ReplyStands (lost u) q) (sym (eqb-true t v e)) (s.0 (ap out own ∙ o))).1 j.1
          of true e ok (inr j) = ih s.1 k j
          of false e ok j = ih s.1 k j
      by (Client d) (Hold v lock marked size seen) ok s k i ih = of (nat_eq t v) refl i
        where
          of : (b : Bool) → nat_eq t v ≡ b → SawIn (if b then line (turn l.at.stamp (Client d)) (Hold v lock marked size seen) ∷ only t past
              else only t past) who n → lost t n ≡ false
          of true e (inl j) =
              let own : who ≡ life_of d (only t past) = own_is who (only t past) d j.0 in
              one_stands (lost t) seen n (subst (λ u. AllStand (lost u) seen) (sym (eqb-true t v e))
              (k.0 (ap out (life_is_of d t past ∙ sym own) ∙ o))) j.1
          of true e (inr j) = ih s k.1 j
          of false e j = ih s k.1 j
      by (Target u) (Heard v g q) ok s k i ih = absurd ok.ok
      by (Target u) (Hold v lock marked size seen) ok s k i ih = absurd ok.ok
      by node e ok s k i ih = ih s k (cond_both (concerns t node e) (line (turn l.at.stamp node) e ∷ only t past) (only t past)
          (λ (x : List Line). SawIn x who n → SawIn (only t past) who n) (λ q j. j) (λ q j. j) i)

  -- ---- what is committed

  committed_spared : (t : ℕ) (past : List Line) → Grown head past → CommitsStand head.osts lost past → (n : ℕ) → WasMade t past n
      → is_lost head.osts (only t past) n ≡ false → n ≤ committed_of head.osts (only t past) → lost t n ≡ false
  committed_spared t [] g c n m f le = absurd m
  committed_spared t (l ∷ past) g c n m f le = by l.at.node l.entry g.0 c m f le
      (λ c m le. committed_spared t past g.1 c n m (lost_before head.osts t l past n f) le)
    where
      -- a number is made above the committed one
      above : (u : ℕ) (d : Deed) → nat_eq t u ≡ true → Allowed head past (turn l.at.stamp (Target u)) (Made d) → d.reply.txn.0 ≡ n
          → n ≤ committed_of head.osts (only t past) → ⊥
      above u d q k is le =
          let top = ((holds head past g.1).at t).history.top in
          let x = made head.osts (only t past) (turn l.at.stamp (Target u)) u d (k.of t q) in
          let number : d.reply.txn.0 ≡ (server_of head.osts (only t past)).boot * 4294967296 +
          ((server_of head.osts (only t past)).count + 1) = ap (λ v. v.0) x.number in
          absurd (omega (arith, top, number, is, le))

      -- a commit, and a close
      commits : (u to : ℕ) (e : Entry) → (nat_eq t u ≡ true → committed_of head.osts (line (turn l.at.stamp (Target u)) e ∷ only t past)
          ≡ to)
          → ((k : ℕ) → WasMade u (line (turn l.at.stamp (Target u)) e ∷ past) k
          → is_lost head.osts (only u (line (turn l.at.stamp (Target u)) e ∷ past)) k ≡ false → k ≤ to → lost u k ≡ false)
          → WasMade t (line (turn l.at.stamp (Target u)) e ∷ past) n
          → is_lost head.osts (only t (line (turn l.at.stamp (Target u)) e ∷ past)) n ≡ false
          → n ≤ committed_of head.osts (only t (line (turn l.at.stamp (Target u)) e ∷ past))
          → (n ≤ committed_of head.osts (only t past) → lost t n ≡ false) → lost t n ≡ false
      commits u to e same c m f le ih = of (nat_eq t u) refl
        where
          of : (b : Bool) → nat_eq t u ≡ b → lost t n ≡ false
          of true q =
              let at : u ≡ t = sym (eqb-true t u q) in
              let now : only t (line (turn l.at.stamp (Target u)) e ∷ past) ≡ line (turn l.at.stamp (Target u)) e ∷ only t past =
              cond-true (nat_eq t u) (line (turn l.at.stamp (Target u)) e ∷ only t past) (only t past) q in
              let is : committed_of head.osts (only t (line (turn l.at.stamp (Target u)) e ∷ past)) ≡ to = ap (committed_of head.osts) now
              ∙ same q in
              subst (λ v. lost v n ≡ false) at
              (c n (subst (λ v. WasMade v (line (turn l.at.stamp (Target u)) e ∷ past) n) (sym at) m)
              (subst (λ v. is_lost head.osts (only v (line (turn l.at.stamp (Target u)) e ∷ past)) n ≡ false) (sym at) f)
              (omega (arith, le, is)))
          of false q = ih (subst (λ (x : List Line). n ≤ committed_of head.osts x)
              (cond-false (nat_eq t u) (line (turn l.at.stamp (Target u)) e ∷ only t past) (only t past) q) le)

      by : (node : Node) (e : Entry) → Allowed head past (turn l.at.stamp node) e
          → CommitsStand head.osts lost (line (turn l.at.stamp node) e ∷ past) → WasMade t (line (turn l.at.stamp node) e ∷ past) n
          → is_lost head.osts (only t (line (turn l.at.stamp node) e ∷ past)) n ≡ false
          → n ≤ committed_of head.osts (only t (line (turn l.at.stamp node) e ∷ past))
          → (CommitsStand head.osts lost past → WasMade t past n → n ≤ committed_of head.osts (only t past) → lost t n ≡ false) → lost t n
          ≡ false
      by (Target u) (Commit to batch) k c m f le ih = commits u to (Commit to batch) (λ q. refl) c.0 m f le (λ le. ih c.1 m le)
      by (Target u) (Close o) k c m f le ih = commits u o.disk.committed (Close o) (λ q. refl) c.0 m f le (λ le. ih c.1 m le)
      by (Target u) (Made d) k c (inl is) f le ih =
          let q : nat_eq t u ≡ true = subst (λ (x : Node). is_target t x ≡ true) (sym is.0) (self t) in
          absurd (above u d q k is.1 (subst (λ (x : List Line). n ≤ committed_of head.osts x)
          (cond-true (nat_eq t u) (line (turn l.at.stamp (Target u)) (Made d) ∷ only t past) (only t past) q) le))
      by (Target u) (Made d) k c (inr m) f le ih = ih c m (cond_both (nat_eq t u) (line (turn l.at.stamp (Target u)) (Made d) ∷ only t past)
          (only t past) (λ (x : List Line). n ≤ committed_of head.osts x → n ≤ committed_of head.osts (only t past)) (λ q i. i) (λ q i. i)
          le)
      by (Client c) (Commit to batch) k c2 m f le ih = absurd k.ok
      by (Client c) (Close o) k c2 m f le ih = absurd k.ok
      by (Client c) (Made d) k c2 m f le ih = absurd k.ok
      by (Client c) e k c2 m f le ih = ih c2 m (cond_both (concerns t (Client c) e) (line (turn l.at.stamp (Client c)) e ∷ only t past)
          (only t past) (λ (x : List Line). n ≤ committed_of head.osts x → n ≤ committed_of head.osts (only t past)) (λ q i. i) (λ q i. i)
          le)
      by (Target u) e k c m f le ih = ih c m (cond_both (nat_eq t u) (line (turn l.at.stamp (Target u)) e ∷ only t past) (only t past)
          (λ (x : List Line). n ≤ committed_of head.osts x → n ≤ committed_of head.osts (only t past)) (λ q i. i) (λ q i. i) le)

  module _ (outs : ℕ → Bool) (same : (who : Who) → outs (number_of who) ≡ out who) (past : List Line) (g : Grown head past)
      (fits : Fits head.osts out lost past) (t : ℕ) (r : Resource) where
    -- what isn't lost no close so far lost
    not_lost : (n : ℕ) → lost t n ≡ false → MadeAt (only t past) n → is_lost head.osts (only t past) n ≡ false
    not_lost n stays m = by (is_lost head.osts (only t past) n) refl
      where
        by : (b : Bool) → is_lost head.osts (only t past) n ≡ b → b ≡ false
        by true e = let gone = fits.stays t n (subst (WasMade t past) m.3 (acted_was head t past g m.0 m.1 m.2)) e in absurd (cc)
        by false e = refl

    pub kept_for : KeptFor outs (later head.osts lost t past) (story t r past)
    kept_for = kept_from head t r past g outs (later head.osts lost t past) (record { low = low; heard = heard; saw = saw })
      where
        low : (n : ℕ) → later head.osts lost t past n ≡ true → committed_of head.osts (only t past) < n
        low n e = ltb-true (committed_of head.osts (only t past)) n (and_parts (lost t n) _ e).1

        heard : (who : Who) (f : Flight) (p : ReplyTo) → HeardAs (only t past) who f p → outs (number_of who) ≡ false
            → Spared head.osts (later head.osts lost t past) (only t past) p.txn.0
        heard who f p a o =
            let d = ((holds head past g).at t).done.answered who f p a in
            let s = (heard_spared t past who f p fits.heard a (ap out d.3 ∙ sym (same who) ∙ o)).0 in
            (later_not head.osts lost t past p.txn.0 s, not_lost p.txn.0 s)

        saw : (who : Who) (n : ℕ) → SawIn (only t past) who n → outs (number_of who) ≡ false
            → Spared head.osts (later head.osts lost t past) (only t past) n
        saw who n a o =
            let s = saw_spared t past who n g fits.heard fits.held a (sym (same who) ∙ o) in
            (later_not head.osts lost t past n s, not_lost n s)

    pub history_later : history outs (lost t) (story t r past) ≡ history outs (later head.osts lost t past) (story t r past)
    history_later = history_same head t r past g outs (lost t) (later head.osts lost t past)
        (λ n m f. by n m f (nat_lt (committed_of head.osts (only t past)) n) refl)
      where
        and_true : (b : Bool) → b ≡ (b && true)
        and_true true = refl
        and_true false = refl

        by : (n : ℕ) → MadeAt (only t past) n → is_lost head.osts (only t past) n ≡ false → (b : Bool)
            → nat_lt (committed_of head.osts (only t past)) n ≡ b → lost t n ≡ (lost t n && b)
        by n m f true e = and_true (lost t n)
        by n m f false e =
            let low = committed_spared t past g fits.committed n (subst (WasMade t past) m.3 (acted_was head t past g m.0 m.1 m.2)) f
            (grind (arith, nat_tests, e)) in
            low ∙ sym (ap (λ (b : Bool). b && false) low)
