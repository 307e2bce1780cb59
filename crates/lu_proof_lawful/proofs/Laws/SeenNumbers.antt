-- The numbers that the law sees in the printed past of a run are those that a target sees in its log: of all transactions the law leaves
-- out the lost
-- ones and the committed ones, and the log has the others, in rising number.
use Rattle.std.proofs.Common.{◌≡◌, ℕ, zero, suc, ◌<◌, ◌≤◌, Bool, true, false, List, [], ◌∷◌, ◌++◌, reverse, ◌⊎◌, inl, inr, ⊎_elim, refl}
use Rattle.std.proofs.Common.{sym, subst, ap, ◌∙◌, arith}
use Rattle.std.specs.Prelude.{nat_eq, nat_lt, not, ◌&&◌, if◌then◌else◌, map, filter}
use Rattle.std.proofs.lemmas.Bool.{and_parts, lt-ltb, ltb-true, eqb-true, not-true}
use Rattle.std.proofs.lemmas.Grind.{reverse_onto}
use Rattle.lu_base.specs.declared.ids.At.{At}
use Rattle.lu_base.specs.declared.ids.Node.{Node}
use Rattle.lu_base.specs.declared.ids.Node.TheVariants.{Client, Target}
use Rattle.lu_base.specs.declared.ids.Stamp.{Stamp}
use Rattle.lu_part.specs.declared.parts.Part.{Part}
use Rattle.lu_spec_machine.specs.Objects.{object_writes}
use Rattle.lu_spec_machine.specs.Seen.{meet}
use Rattle.lu_spec_entries.specs.Carried.{Deed}
use Rattle.lu_spec_entries.specs.Words.{Entry, Txn as Made, Line, line}
use Rattle.lu_spec_entries.specs.Concerns.{concerns, only}
use Rattle.lu_spec_entries.specs.Printed.{printed}
use Rattle.lu_proof_lawful.specs.Covered.TargetParts.{operation}
use Rattle.lu_proof_lawful.specs.Covered.TargetStates.{server_of, seen_in}
use Rattle.lu_proof_lawful.specs.Covered.TargetCloses as story
use Rattle.lu_proof_lawful.specs.Covered.Heads.{Head}
use Rattle.lu_spec_laws.specs.Words.Boots.{committed}
use Rattle.lu_spec_laws.specs.Words.Lost.{is_lost}
use Rattle.lu_spec_laws.specs.Words.Seen as law
use Rattle.lu_spec_laws.specs.Words.Seen.{request_writes, Written, written, is_seen, seen_of, seen_by}
use Rattle.lu_proof_lawful.proofs.Preconditions.Guards.{In}
use Rattle.lu_proof_lawful.proofs.Preconditions.StoryGuards.{WriteOk, TxnsOk}
use Rattle.lu_proof_lawful.proofs.Preconditions.Grown.{Allowed, Grown}
use Rattle.lu_proof_lawful.proofs.Preconditions.Lists.{self, in_left, in_right, in_filter, in_filtered}
use Rattle.lu_proof_lawful.proofs.Preconditions.Only.{grown_of}
use Rattle.lu_proof_lawful.proofs.Preconditions.ClientRests.{in_reverse}
use Rattle.lu_proof_lawful.proofs.Invariants.Groups.{turn, DeedsRise, History}
use Rattle.lu_proof_lawful.proofs.Invariants.TargetGroups.{Acted, IsMade}
use Rattle.lu_proof_lawful.proofs.Invariants.ItemLines.{rises_last, rises_filter}
use Rattle.lu_proof_lawful.proofs.Invariants.All.{holds}
use Rattle.lu_proof_lawful.proofs.Laws.Facts.{AskedAt, AllAsked}
use Rattle.lu_proof_lawful.proofs.Laws.Deeds.{txn_is}
use Rattle.lu_proof_lawful.proofs.Laws.Printed.{flip}
use Rattle.lu_proof_lawful.proofs.Laws.Commits.{listed}
use Rattle.lu_proof_lawful.proofs.Laws.CloseLost.{made_of, Fall, made_acted, acted_made, made_fall}
use Rattle.lu_proof_lawful.proofs.Laws.LostNumbers.{lost_is}
use Rattle.lu_proof_lawful.proofs.Laws.Contents.{asked_before, contents_alike}

-- another target than that of the metadata makes puts and cuts
pub write_at : (osts : ℕ) (past : List Line) (at : At) (t : ℕ) (d : Deed) → 0 < t → TxnsOk osts past at t d → WriteOk osts past at d
write_at osts past at t d high (inl ok) = absurd (let zero = ok.0 in omega (arith, zero, high))
write_at osts past at t d high (inr ok) = ok.1

-- ---- rising lists

-- two that have the same are the same
same_rising : (xs ys : List Deed) → DeedsRise xs → DeedsRise ys → ((d : Deed) → In d xs → In d ys) → ((d : Deed) → In d ys → In d xs) → xs
    ≡ ys
same_rising [] [] r s f g = refl
same_rising [] (y ∷ ys) r s f g = absurd (g y (inl refl))
same_rising (x ∷ xs) [] r s f g = absurd (f x (inl refl))
same_rising (x ∷ xs) (y ∷ ys) r s f g =
    ap (λ (d : Deed). d ∷ xs) first
    ∙ ap (λ (ds : List Deed). y ∷ ds) (same_rising xs ys r.1 s.1
    (λ d i. ⊎_elim (λ (e : y ≡ d). let lt = r.0 d i in let n = ap (λ (v : Deed). v.reply.txn.0) (first ∙ e)
    in absurd (omega (arith, lt, n))) (λ (j : In d ys). j) (f d (inr i)))
    (λ d i. ⊎_elim (λ (e : x ≡ d). let lt = s.0 d i in let n = ap (λ (v : Deed). v.reply.txn.0) (sym first ∙ e)
    in absurd (omega (arith, lt, n))) (λ (j : In d xs). j) (g d (inr i))))
  where
    first : x ≡ y
    first = ⊎_elim
        (λ (e : y ≡ x). sym e)
        (λ (i : In x ys). ⊎_elim (λ (e : x ≡ y). e) (λ (j : In y xs). let a = s.0 x i in let b = r.0 y j in absurd (omega (arith, a, b)))
        (g y (inl refl)))
        (f x (inl refl))

-- ---- all transactions, the oldest first

reverse_rises : (ds : List Deed) → Fall ds → DeedsRise (reverse ds)
reverse_rises [] f = tt
reverse_rises (d ∷ ds) f = subst DeedsRise (sym (reverse_onto ds d []))
    (rises_last (reverse ds) d (reverse_rises ds f.1) (λ e i. f.0 e (in_reverse e ds i)))

in_reversed : (d : Deed) (ds : List Deed) → In d ds → In d (reverse ds)
in_reversed d [] i = absurd i
in_reversed d (e ∷ ds) i =
    subst (λ (xs : List Deed). In d xs) (sym (reverse_onto ds e []))
    (⊎_elim (λ (q : e ≡ d). in_right d (reverse ds) (e ∷ []) (inl q))
    (λ (j : In d ds). in_left d (reverse ds) (e ∷ []) (in_reversed d ds j)) i)

-- ---- what they wrote, by the law

abbrev as_written : Deed → Written
as_written d = record { number = d.reply.txn.0; writes = d.writes }

abbrev all_written : List Deed → List Written
all_written [] = []
all_written (d ∷ ds) = as_written d ∷ all_written ds

written_snoc : (ds : List Deed) (d : Deed) → all_written (ds ++ d ∷ []) ≡ all_written ds ++ as_written d ∷ []
written_snoc [] d = refl
written_snoc (x ∷ ds) d = ap (λ (ws : List Written). as_written x ∷ ws) (written_snoc ds d)

written_back : (ds : List Deed) → reverse (all_written ds) ≡ all_written (reverse ds)
written_back [] = refl
written_back (d ∷ ds) =
    reverse_onto (all_written ds) (as_written d) []
    ∙ ap (λ (ws : List Written). ws ++ as_written d ∷ []) (written_back ds)
    ∙ sym (written_snoc (reverse ds) d)
    ∙ ap all_written (sym (reverse_onto ds d []))

-- of one transaction
wrote : (head : Head) (past : List Line) (stamp : Stamp) (t : ℕ) (d : Deed) → Grown head past → AllAsked past → AskedAt t past d
    → Allowed head past (turn stamp (Target t)) (Made d)
    → request_writes head.osts t (printed past) d.reply.txn d.reply.who d.reply.xid.0 ≡ d.writes
wrote head past stamp zero d g a asks k =
    ap (λ o. law.writes_of head.osts 0 (printed past) d.reply.txn d.reply.who o) asks ∙ (contents_alike head past g a (operation d)).writes
    ∙ sym (txn_is head past stamp d k).wrote
wrote head past stamp (suc t) d g a asks k =
    let ok = write_at head.osts (only (suc t) past) (turn stamp (Target (suc t))) (suc t) d (omega arith) (k.of (suc t) (self (suc t))) in
    ap (λ o. law.writes_of head.osts (suc t) (printed past) d.reply.txn d.reply.who o) asks ∙ ap (λ (e : Deed). object_writes e.op) ok.is
    ∙ sym (ap (λ (e : Deed). e.writes) ok.is)

written_is : (head : Head) (t : ℕ) (past : List Line) → Grown head past → AllAsked past → written head.osts t (printed past)
    ≡ all_written (made_of (only t past))
written_is head t [] g a = refl
written_is head t (l ∷ past) g a = by l.at.node l.entry g.0 a (written_is head t past g.1 (asked_before l past a))
  where
    P : List Line
    P = only t past

    W : List Written
    W = written head.osts t (printed past)

    quiet : (node : Node) (e : Entry) (b : Bool) → made_of (line (turn l.at.stamp node) e ∷ P) ≡ made_of P → W ≡ all_written (made_of P) → W
        ≡ all_written (made_of (if b then line (turn l.at.stamp node) e ∷ P else P))
    quiet node e true q h = h ∙ ap all_written (sym q)
    quiet node e false q h = h

    own : (u : ℕ) (d : Deed) (a b : Bool) → a ≡ b → (b ≡ true → request_writes head.osts t (printed past) d.reply.txn d.reply.who
        d.reply.xid.0 ≡ d.writes) → W ≡ all_written (made_of P)
        → (if a then record {
          number = d.reply.txn.0;
          writes = request_writes head.osts t (printed past) d.reply.txn d.reply.who
              d.reply.xid.0;
        } ∷ W else W) ≡ all_written (made_of (if b then line (turn l.at.stamp (Target u)) (Made d) ∷ P else P))
    own u d true true q w h = ap (λ (ps : List Part). record { number = d.reply.txn.0; writes = ps } ∷ W) (w refl)
        ∙ ap (λ (ws : List Written). as_written d ∷ ws) h
    own u d false false q w h = h
    own u d true false q w h = absurd (cc)
    own u d false true q w h = absurd (cc)

    by : (node : Node) (e : Entry) → Allowed head past (turn l.at.stamp node) e → AllAsked (line (turn l.at.stamp node) e ∷ past) → W
        ≡ all_written (made_of P)
        → written head.osts t (printed (line (turn l.at.stamp node) e ∷ past))
        ≡ all_written (made_of (only t (line (turn l.at.stamp node) e ∷ past)))
    by (Client c) (Made d) k a h = absurd k.ok
    by (Target u) (Made d) k a h = own u d (nat_eq u t) (nat_eq t u) (flip u t)
        (λ e. let same = eqb-true t u e in wrote head past l.at.stamp t d g.1 a.1 (a.0 t (ap Target (sym same)))
        (subst (λ (v : ℕ). Allowed head past (turn l.at.stamp (Target v)) (Made d)) (sym same) k)) h
    by (Client c) e k a h = quiet (Client c) e (concerns t (Client c) e) refl h
    by (Target u) e k a h = quiet (Target u) e (concerns t (Target u) e) refl h

-- ---- what is seen of them

-- by a test that says the same of each
seen_written : (above : ℕ) (lost : ℕ → Bool) (touched : List Part) (test : Deed → Bool) (ds : List Deed)
    → ((d : Deed) → In d ds → (nat_lt above d.reply.txn.0 && not (lost d.reply.txn.0)) ≡ test d)
    → map (λ (w : Written). w.number) (filter (is_seen above lost touched) (all_written ds)) ≡ seen_in touched (filter test ds)
seen_written above lost touched test [] same = refl
seen_written above lost touched test (d ∷ ds) same = by (nat_lt above n) (lost n) (test d) (same d (inl refl))
    (seen_written above lost touched test ds (λ e i. same e (inr i)))
  where
    n : ℕ
    n = d.reply.txn.0

    rest : List Written
    rest = filter (is_seen above lost touched) (all_written ds)

    numbers : List Written → List ℕ
    numbers ws = map (λ (w : Written). w.number) ws

    push : (m : Bool) (ns : List ℕ) → numbers rest ≡ ns → numbers (if m then as_written d ∷ rest else rest) ≡ (if m then n ∷ ns else ns)
    push true ns e = ap (λ (ms : List ℕ). n ∷ ms) e
    push false ns e = e

    by : (a c b : Bool) → (a && not c) ≡ b → numbers rest ≡ seen_in touched (filter test ds)
        → numbers (if a && not c && meet d.writes touched then as_written d ∷ rest else rest)
        ≡ seen_in touched (if b then d ∷ filter test ds else filter test ds)
    by true false true e h = push (meet d.writes touched) (seen_in touched (filter test ds)) h
    by true true false e h = h
    by false c false e h = h
    by true false false e h = absurd (cc)
    by true true true e h = absurd (cc)
    by false c true e h = absurd (cc)

-- those above the committed number that stand are the log
module _ (head : Head) (t : ℕ) (past : List Line) (g : Grown head past) where
  abbrev history : History head.osts head.clients (only t past)
  history = ((holds head past g).at t).history

  abbrev all_made : List Deed
  all_made = reverse (made_of (only t past))

  abbrev committed_so : ℕ
  committed_so = (server_of head.osts (only t past)).committed.0

  abbrev stands : Deed → Bool
  stands d = nat_lt committed_so d.reply.txn.0 && not (story.is_lost head.osts (only t past) d.reply.txn.0)

  made_so : (d : Deed) → In d all_made → Acted (only t past) d × IsMade d
  made_so d i = made_acted head (only t past) (grown_of head t past g) d (in_reverse d (made_of (only t past)) i)

  log_of_all : filter stands all_made ≡ (server_of head.osts (only t past)).log
  log_of_all =
      same_rising (filter stands all_made) (server_of head.osts (only t past)).log
      (rises_filter stands all_made (reverse_rises (made_of (only t past)) (made_fall head (only t past) (grown_of head t past g))))
      history.log_rises
      (λ d i.
      let p = in_filter stands d all_made i in
      let m = made_so d p.0 in
      let q = and_parts (nat_lt committed_so d.reply.txn.0) (not (story.is_lost head.osts (only t past) d.reply.txn.0)) p.1 in
      let lt = ltb-true committed_so d.reply.txn.0 q.0 in
      ⊎_elim (λ (j : In d (server_of head.osts (only t past)).log). j)
      (λ (le : d.reply.txn.0 ≤ committed_so). absurd (omega (arith, lt, le)))
      (history.logged d m.0 m.1 (not-true (story.is_lost head.osts (only t past) d.reply.txn.0) q.1)))
      (λ d i.
      let r = history.log d i in
      in_filtered stands d all_made (in_reversed d (made_of (only t past))
      (acted_made head (only t past) (grown_of head t past g) d r.0 r.1)) (rw (lt-ltb committed_so d.reply.txn.0 r.3, r.2) refl))

  -- what is seen, where the committed number by the lines is that of the story
  pub seen_is : (touched : List Part) → AllAsked past → committed t (printed past) ≡ (server_of head.osts (only t past)).committed.0
      → seen_by head.osts t (printed past) touched ≡ seen_in touched (server_of head.osts (only t past)).log
  seen_is touched a level =
      ap (λ (ws : List Written). seen_of (committed t (printed past)) (is_lost (printed past) t) touched ws) (written_is head t past g a)
      ∙ ap (λ (ws : List Written). map (λ (w : Written). w.number)
      (filter (is_seen (committed t (printed past)) (is_lost (printed past) t) touched) ws)) (written_back (made_of (only t past)))
      ∙ seen_written (committed t (printed past)) (is_lost (printed past) t) touched stands all_made same
      ∙ ap (seen_in touched) log_of_all
    where
      same : (d : Deed) → In d all_made → (nat_lt (committed t (printed past)) d.reply.txn.0
          && not (is_lost (printed past) t d.reply.txn.0)) ≡ stands d
      same d i =
          let m = made_so d i in
          ap (λ (n : ℕ). nat_lt n d.reply.txn.0 && not (is_lost (printed past) t d.reply.txn.0)) level
          ∙ ap (λ (b : Bool). nat_lt committed_so d.reply.txn.0 && not b)
          (lost_is head t past g d.reply.txn.0 (listed head t past d g m.0 m.1).made)
