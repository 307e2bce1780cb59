-- What closes have lost: by the laws, of the transactions in rising order, what can't be replayed or saw what is lost; by the story, what
-- isn't kept. Of
-- the numbers of transactions both say the same.
use Rattle.std.proofs.Common.{◌≡◌, ℕ, ◌<◌, ◌≤◌, Bool, true, false, List, [], ◌∷◌, ◌++◌, ◌⊎◌, inl, inr, ⊎_elim, refl, sym, subst, ap, ◌∙◌}
use Rattle.std.proofs.Common.{arith}
use Rattle.std.specs.Prelude.{nat_eq, nat_lt, not, ◌||◌, if◌then◌else◌, filter}
use Rattle.std.specs.List.{list_any}
use Rattle.std.proofs.lemmas.Bool.Decides.{nat_tests}
use Rattle.std.proofs.lemmas.Bool.{eqb-true, ltb-true, true≢false, false_from_ne_true}
use Rattle.lu_base.specs.declared.ids.At.{At}
use Rattle.lu_base.specs.declared.ids.Node.{Node}
use Rattle.lu_base.specs.declared.ids.Node.TheVariants.{Client, Target}
use Rattle.lu_base.specs.declared.ids.Txn.{Txn as TxnOf}
use Rattle.lu_spec_entries.specs.Carried.{Deed}
use Rattle.lu_spec_entries.specs.Words.{Entry, Txn as Made, Line, line}
use Rattle.lu_spec_entries.specs.Concerns.{concerns, only}
use Rattle.lu_spec_entries.specs.Printed.{printed}
use Rattle.lu_spec_target.specs.Windows.{has_number}
use Rattle.lu_proof_lawful.specs.Covered.TargetCloses as story
use Rattle.lu_proof_lawful.specs.Covered.Heads.{Head}
use Rattle.lu_spec_laws.specs.Words.Lost.{Transaction, transactions, is_among, lost_of}
use Rattle.lu_proof_lawful.proofs.Preconditions.Guards.{In, EntryOk}
use Rattle.lu_proof_lawful.proofs.Preconditions.StoryGuards.{IsRecovering, EntryOf, TxnsOk}
use Rattle.lu_proof_lawful.proofs.Preconditions.Grown.{Grown, GrownOf}
use Rattle.lu_proof_lawful.proofs.Preconditions.ClientLocks.{any_true, any_passes}
use Rattle.lu_proof_lawful.proofs.Preconditions.Lists.{self, in_filter}
use Rattle.lu_proof_lawful.proofs.Invariants.Groups.{turn, HoldsAt}
use Rattle.lu_proof_lawful.proofs.Invariants.TargetGroups.{Acted, IsMade, Stands}
use Rattle.lu_proof_lawful.proofs.Invariants.All.{holds_at}
use Rattle.lu_proof_lawful.proofs.Invariants.Exact as exact
use Rattle.lu_proof_lawful.proofs.Invariants.Exact.{IsBack, HeardBy, kept_then, committed_then}
use Rattle.lu_proof_lawful.proofs.Invariants.ExactLists.{AllStand}
use Rattle.lu_proof_lawful.proofs.Invariants.Lines.{acted_more}
use Rattle.lu_proof_lawful.proofs.Invariants.ObjectDeeds.{makes}
use Rattle.lu_proof_lawful.proofs.Laws.NewDeeds.{client_acted, made_new}
use Rattle.lu_proof_lawful.proofs.Laws.Printed.{flip}

-- ---- the transactions of a target, the newest first

abbrev pub made_after : List Deed → Entry → List Deed
made_after ds (Made d) = d ∷ ds
made_after ds _ = ds

abbrev pub made_of : List Line → List Deed
made_of [] = []
made_of (l ∷ past) = elim l.at.node [ Client c ↦ made_of past | Target t ↦ made_after (made_of past) l.entry ]

-- as the laws have one
abbrev pub trans : Deed → Transaction
trans d = record { number = d.reply.txn.0; who = d.reply.who; seen = d.reply.seen }

abbrev pub all_trans : List Deed → List Transaction
all_trans [] = []
all_trans (d ∷ ds) = trans d ∷ all_trans ds

pub transactions_are : (head : Head) (t : ℕ) (past : List Line) → Grown head past → transactions t (printed past)
    ≡ all_trans (made_of (only t past))
transactions_are head t [] g = refl
transactions_are head t (l ∷ past) g = by l.at.node l.entry g.0.ok (transactions_are head t past g.1)
  where
    P : List Line
    P = only t past

    quiet : (node : Node) (e : Entry) (b : Bool) → made_of (line (turn l.at.stamp node) e ∷ P) ≡ made_of P → transactions t (printed past)
        ≡ all_trans (made_of P) → transactions t (printed past) ≡ all_trans (made_of (if b then line (turn l.at.stamp node) e ∷ P else P))
    quiet node e true q h = h ∙ ap all_trans (sym q)
    quiet node e false q h = h

    own : (u : ℕ) (d : Deed) (a b : Bool) → a ≡ b → transactions t (printed past) ≡ all_trans (made_of P)
        → (if a then trans d ∷ transactions t (printed past) else transactions t (printed past))
        ≡ all_trans (made_of (if b then line (turn l.at.stamp (Target u)) (Made d) ∷ P else P))
    own u d true true q h = ap (λ (xs : List Transaction). trans d ∷ xs) h
    own u d false false q h = h
    own u d true false q h = absurd (cc)
    own u d false true q h = absurd (cc)

    by : (node : Node) (e : Entry) → EntryOk past (turn l.at.stamp node) node e → transactions t (printed past) ≡ all_trans (made_of P)
        → transactions t (printed (line (turn l.at.stamp node) e ∷ past))
        ≡ all_trans (made_of (only t (line (turn l.at.stamp node) e ∷ past)))
    by (Client c) (Made d) ok h = absurd ok
    by (Target u) (Made d) ok h = own u d (nat_eq u t) (nat_eq t u) (flip u t) h
    by (Client c) e ok h = quiet (Client c) e (concerns t (Client c) e) refl h
    by (Target u) e ok h = quiet (Target u) e (concerns t (Target u) e) refl h

-- each number is above those of the transactions before
abbrev pub Fall : List Deed → Type 0
Fall [] = Unit {0}
Fall (d ∷ ds) = ((e : Deed) → In e ds → e.reply.txn.0 < d.reply.txn.0) × Fall ds

module _ (head : Head) where
  -- what is among them was done, as a transaction
  pub made_acted : (past : List Line) → GrownOf head past → (d : Deed) → In d (made_of past) → Acted past d × IsMade d
  made_acted [] g d i = absurd i
  made_acted (l ∷ past) g d i = by l.at.node l.entry g.0 i (made_acted past g.3 d)
    where
      by : (node : Node) (e : Entry) → EntryOf head past (turn l.at.stamp node) node e
          → In d (made_of (line (turn l.at.stamp node) e ∷ past)) → (In d (made_of past) → Acted past d × IsMade d)
          → Acted (line (turn l.at.stamp node) e ∷ past) d × IsMade d
      by (Target t) (Made e) ok (inl q) h = (
        inl q,
        let n = ap (λ (v : Deed). v.reply.txn.0) (sym q) in let is =
            ap (λ (v : TxnOf). v.0) (makes head.osts past (turn l.at.stamp (Target t)) t e ok).number in omega (arith, n, is),
      )
      by (Target t) (Made e) ok (inr i) h = let r = h i in (inr r.0, r.1)
      by (Target t) e ok i h = let r = h i in (acted_more (turn l.at.stamp (Target t)) e past d r.0, r.1)
      by (Client c) e ok i h = let r = h i in (acted_more (turn l.at.stamp (Client c)) e past d r.0, r.1)

  pub acted_made : (past : List Line) → GrownOf head past → (d : Deed) → Acted past d → IsMade d → In d (made_of past)
  acted_made [] g d a made = absurd a
  acted_made (l ∷ past) g d a made = by l.at.node l.entry g.0 a (λ b. acted_made past g.3 d b made)
    where
      more : (e : Entry) → In d (made_of past) → In d (made_after (made_of past) e)
      more (Made x) i = inr i
      more e i = i

      by : (node : Node) (e : Entry) → EntryOf head past (turn l.at.stamp node) node e → Acted (line (turn l.at.stamp node) e ∷ past) d
          → (Acted past d → In d (made_of past)) → In d (made_of (line (turn l.at.stamp node) e ∷ past))
      by (Client c) e ok a h = h (client_acted head past l.at.stamp c e d ok a)
      by (Target t) e ok a h = ⊎_elim
          (λ (q : e ≡ Made d). subst (λ (x : Entry). In d (made_after (made_of past) x)) (sym q) (inl refl))
          (λ (b : Acted past d). more e (h b))
          (made_new head past l.at.stamp t e d ok a made)

  pub made_fall : (past : List Line) → GrownOf head past → Fall (made_of past)
  made_fall [] g = tt
  made_fall (l ∷ past) g = by l.at.node l.entry g.0 (made_fall past g.3)
    where
      new : (t : ℕ) (d : Deed) → TxnsOk head.osts past (turn l.at.stamp (Target t)) t d → (e : Deed) → In e (made_of past)
          → e.reply.txn.0 < d.reply.txn.0
      new t d ok e i =
          let r = made_acted past g.3 e i in
          let low = (holds_at head past g.3).history.last e r.0 r.1 in
          let n = ap (λ (v : TxnOf). v.0) (makes head.osts past (turn l.at.stamp (Target t)) t d ok).number in
          omega (arith, low, n)

      by : (node : Node) (e : Entry) → EntryOf head past (turn l.at.stamp node) node e → Fall (made_of past)
          → Fall (made_of (line (turn l.at.stamp node) e ∷ past))
      by (Target t) (Made d) ok h = (new t d ok, h)
      by (Client c) e ok h = h
      by (Target t) e ok h = h

pub fall_filter : (f : Deed → Bool) (ds : List Deed) → Fall ds → Fall (filter f ds)
fall_filter f [] h = tt
fall_filter f (d ∷ ds) h = by (f d) (fall_filter f ds h.1)
  where
    by : (b : Bool) → Fall (filter f ds) → Fall (if b then d ∷ filter f ds else filter f ds)
    by true k = (λ e i. h.0 e (in_filter f e ds i).0, k)
    by false k = k

-- ---- numbers

pub among_in : (ns : List ℕ) (n : ℕ) → is_among ns n ≡ true → In n ns
among_in ns n e = let a = any_true (nat_eq n) ns e in subst (λ (m : ℕ). In m ns) (sym (eqb-true n a.0 a.2)) a.1

pub in_among : (ns : List ℕ) (n : ℕ) → In n ns → is_among ns n ≡ true
in_among ns n i = any_passes (nat_eq n) n ns i (self n)

pub among_more : (ms ns : List ℕ) (n : ℕ) → is_among (ms ++ ns) n ≡ (is_among ms n || is_among ns n)
among_more [] ns n = refl
among_more (m ∷ ms) ns n = ap (λ (b : Bool). nat_eq n m || b) (among_more ms ns n) ∙ assoc (nat_eq n m) (is_among ms n) (is_among ns n)
  where
    assoc : (a b c : Bool) → (a || (b || c)) ≡ ((a || b) || c)
    assoc true b c = refl
    assoc false b c = refl

-- ---- what one close loses

-- of deeds that a close decides on, the newest first
module _ (repl : Transaction → Bool) where
  -- what is lost is among them
  pub lost_some : (ds : List Deed) (n : ℕ) → is_among (lost_of repl (all_trans ds)) n ≡ true → (d : Deed) × In d ds × (d.reply.txn.0 ≡ n)
  lost_some [] n e = absurd (cc)
  lost_some (d ∷ ds) n e = by (not (repl (trans d)) || list_any (is_among (lost_of repl (all_trans ds))) d.reply.seen) e (lost_some ds n)
    where
      L : List ℕ
      L = lost_of repl (all_trans ds)

      either : (b : Bool) → nat_eq n d.reply.txn.0 ≡ b → (b || is_among L n) ≡ true
          → (is_among L n ≡ true → (x : Deed) × In x ds × (x.reply.txn.0 ≡ n)) → (x : Deed) × In x (d ∷ ds) × (x.reply.txn.0 ≡ n)
      either true q e h = (d, inl refl, sym (eqb-true n d.reply.txn.0 q))
      either false q e h = let r = h e in (r.0, inr r.1, r.2)

      by : (b : Bool) → is_among (if b then d.reply.txn.0 ∷ L else L) n ≡ true
          → (is_among L n ≡ true → (x : Deed) × In x ds × (x.reply.txn.0 ≡ n)) → (x : Deed) × In x (d ∷ ds) × (x.reply.txn.0 ≡ n)
      by true e h = either (nat_eq n d.reply.txn.0) refl e h
      by false e h = let r = h e in (r.0, inr r.1, r.2)

module _ (head : Head) (past : List Line) (h : HoldsAt head past) (recovers : IsRecovering head.osts past) (at : At)
    (repl : Transaction → Bool)
    (can : (d : Deed) → Acted past d → IsMade d → repl (trans d) ≡ true → IsBack head past d.reply.who × HeardBy past d)
    (may : (d : Deed) → Acted past d → IsMade d → IsBack head past d.reply.who → HeardBy past d → repl (trans d) ≡ true) where
  -- one on which the close decides
  abbrev pub Open : Deed → Type 0
  Open d = Acted past d × IsMade d × Stands head.osts past d × (committed_then head past < d.reply.txn.0)

  abbrev pub gone : ℕ → Bool
  gone n = story.loses (committed_then head past) (story.outcome_of head.osts head.clients at past) n

  abbrev pub AllOpen : List Deed → Type 0
  AllOpen ds = (d : Deed) → In d ds → Open d

  -- others are above all of them
  abbrev pub Lowest : List Deed → Type 0
  Lowest ds = (e : Deed) → Open e → In e ds ⊎ ((d : Deed) → In d ds → d.reply.txn.0 < e.reply.txn.0)

  lowest_rest : (d : Deed) (ds : List Deed) → Fall (d ∷ ds) → Lowest (d ∷ ds) → Lowest ds
  lowest_rest d ds fall low e o = ⊎_elim
      (λ (i : In e (d ∷ ds)). ⊎_elim (λ (q : d ≡ e). inr (λ x j. subst (λ (v : Deed). x.reply.txn.0 < v.reply.txn.0) q (fall.0 x j)))
      (λ (j : In e ds). inl j) i)
      (λ (above : (x : Deed) → In x (d ∷ ds) → x.reply.txn.0 < e.reply.txn.0). inr (λ x j. above x (inr j)))
      (low e o)

  pub lost_each : (ds : List Deed) → AllOpen ds → Fall ds → Lowest ds → (d : Deed) → In d ds
      → is_among (lost_of repl (all_trans ds)) d.reply.txn.0 ≡ gone d.reply.txn.0
  lost_each [] all fall low d i = absurd i
  lost_each (x ∷ ds) all fall low d i = by i (lost_each ds (λ e j. all e (inr j)) fall.1 (lowest_rest x ds fall low))
    where
      L : List ℕ
      L = lost_of repl (all_trans ds)

      Old : Type 0
      Old = (e : Deed) → In e ds → is_among L e.reply.txn.0 ≡ gone e.reply.txn.0

      test : Bool
      test = not (repl (trans x)) || list_any (is_among L) x.reply.seen

      ox : Open x
      ox = all x (inl refl)

      -- what x saw isn't lost where it isn't among those lost before
      saw_stands : Old → (m : ℕ) → In m x.reply.seen → is_among L m ≡ false → (m ≤ committed_then head past)
          ⊎ (has_number m (kept_then head past) ≡ true)
      saw_stands old m j none =
          let s = h.history.saw x m ox.0 j in
          let less = s.1 ox.1 in
          ⊎_elim
          (λ (le : m ≤ committed_then head past). inl le)
          (λ (e : (e : Deed) × Acted past e × IsMade e × (e.reply.txn.0 ≡ m)). made e less)
          s.0
        where
          made : ((e : Deed) × Acted past e × IsMade e × (e.reply.txn.0 ≡ m)) → m < x.reply.txn.0 → (m ≤ committed_then head past)
              ⊎ (has_number m (kept_then head past) ≡ true)
          made e less = above (nat_lt (committed_then head past) m) refl
            where
              number : e.0.reply.txn.0 ≡ m
              number = e.3

              stands : Stands head.osts past e.0
              stands = subst (λ (n : ℕ). story.is_lost head.osts past n ≡ false) (sym number) (h.history.stands x ox.0 ox.1 ox.2 m j)

              above : (b : Bool) → nat_lt (committed_then head past) m ≡ b → (m ≤ committed_then head past)
                  ⊎ (has_number m (kept_then head past) ≡ true)
              above false q = inl (upto (committed_then head past) m q)
                where
                  upto : (a b : ℕ) → nat_lt a b ≡ false → b ≤ a
                  upto a b q = grind (arith, nat_tests)
              above true q =
                  let up : committed_then head past < e.0.reply.txn.0 =
                  subst (λ (n : ℕ). committed_then head past < n) (sym number) (ltb-true (committed_then head past) m q) in
                  let i : In e.0 ds = below e.0 (e.1, e.2, stands, up) (subst (λ (n : ℕ). n < x.reply.txn.0) (sym number) less) in
                  let is = exact.lost_is head past recovers h at e.0 e.1 e.2 up in
                  inr (kept (has_number m (kept_then head past))
                  (sym (ap (is_among L) number ∙ none) ∙ old e.0 i ∙ is
                  ∙ ap (λ (n : ℕ). not (has_number n (kept_then head past))) number))
                where
                  kept : (b : Bool) → false ≡ not b → b ≡ true
                  kept true q = refl
                  kept false q = absurd (cc)

                  below : (e : Deed) → Open e → e.reply.txn.0 < x.reply.txn.0 → In e ds
                  below e o less = ⊎_elim
                      (λ (i : In e (x ∷ ds)). ⊎_elim (λ (q : x ≡ e). let n = ap (λ (v : Deed). v.reply.txn.0) q
                      in absurd (omega (arith, n, less))) (λ (j : In e ds). j) i)
                      (λ (above : (y : Deed) → In y (x ∷ ds) → y.reply.txn.0 < e.reply.txn.0). let more = above x (inl refl)
                      in absurd (omega (arith, more, less)))
                      (low e o)

      -- what is lost of those before isn't kept
      lost_out : Old → (m : ℕ) → is_among L m ≡ true → (committed_then head past < m) × (has_number m (kept_then head past) ≡ false)
      lost_out old m e =
          let r = lost_some repl ds m e in
          exact.lost_parts head past recovers h at m (subst (λ (n : ℕ). gone n ≡ true) r.2 (sym (old r.0 r.1) ∙ ap (is_among L) r.2 ∙ e))

      test_is : Old → test ≡ gone x.reply.txn.0
      test_is old = decide (has_number x.reply.txn.0 (kept_then head past)) refl
        where
          is : gone x.reply.txn.0 ≡ not (has_number x.reply.txn.0 (kept_then head past))
          is = exact.lost_is head past recovers h at x ox.0 ox.1 ox.3

          out : (a b : Bool) → a ≡ true → b ≡ false → (not a || b) ≡ false
          out true false p q = refl
          out true true p q = absurd (cc)
          out false b p q = absurd (cc)

          decide : (b : Bool) → has_number x.reply.txn.0 (kept_then head past) ≡ b → test ≡ gone x.reply.txn.0
          decide true q =
              let k = exact.kept_made head past recovers h x.reply.txn.0 q in
              let same : k.0 ≡ x = exact.one_deed head past recovers h k.0 x k.1.acted ox.0 k.1.made k.2 in
              let back : IsBack head past x.reply.who = subst (λ (v : Deed). IsBack head past v.reply.who) same k.4 in
              let heard : HeardBy past x = subst (λ (v : Deed). HeardBy past v) same k.1.heard in
              let stand : AllStand (committed_then head past) (kept_then head past) x.reply.seen =
              subst (λ (v : Deed). AllStand (committed_then head past) (kept_then head past) v.reply.seen) same k.5 in
              out (repl (trans x)) (list_any (is_among L) x.reply.seen) (may x ox.0 ox.1 back heard)
              (false_from_ne_true (list_any (is_among L) x.reply.seen)
              (λ e. let a = any_true (is_among L) x.reply.seen e in let o = lost_out old a.0 a.2 in
              ⊎_elim (λ (le : a.0 ≤ committed_then head past). let lt = o.0 in omega (arith, le, lt))
              (λ (k : has_number a.0 (kept_then head past) ≡ true). true≢false (sym k ∙ o.1)) (stand a.0 a.1)))
              ∙ sym (is ∙ ap not q)
          decide false q = yes test refl ∙ sym (is ∙ ap not q)
            where
              split : (a b : Bool) → (not a || b) ≡ false → (a ≡ true) × (b ≡ false)
              split true b p = (refl, p)
              split false b p = absurd (cc)

              off : (m : ℕ) → list_any (is_among L) x.reply.seen ≡ false → In m x.reply.seen → is_among L m ≡ false
              off m e j = false_from_ne_true (is_among L m) (λ t. true≢false (sym (any_passes (is_among L) m x.reply.seen j t) ∙ e))

              yes : (b : Bool) → test ≡ b → b ≡ true
              yes true e = refl
              yes false e =
                  let p = split (repl (trans x)) (list_any (is_among L) x.reply.seen) e in
                  let c = can x ox.0 ox.1 p.0 in
                  let kept = exact.made_kept head past recovers h x ox.0 ox.1 c.1 ox.3 c.0 (λ m j. saw_stands old m j (off m p.1 j)) in
                  absurd (true≢false (sym kept ∙ q))

      first : Old → (b : Bool) → test ≡ b → is_among (if b then x.reply.txn.0 ∷ L else L) x.reply.txn.0 ≡ b
      first old true e = ap (λ (b : Bool). b || is_among L x.reply.txn.0) (self x.reply.txn.0)
      first old false e = false_from_ne_true (is_among L x.reply.txn.0)
          (λ t. let r = lost_some repl ds x.reply.txn.0 t in let less = fall.0 r.0 r.1 in let same = r.2 in omega (arith, less, same))

      rest : (b : Bool) → (e : Deed) → In e ds → is_among (if b then x.reply.txn.0 ∷ L else L) e.reply.txn.0 ≡ is_among L e.reply.txn.0
      rest true e j = ap (λ (b : Bool). b || is_among L e.reply.txn.0)
          (false_from_ne_true (nat_eq e.reply.txn.0 x.reply.txn.0)
          (λ t. let same = eqb-true e.reply.txn.0 x.reply.txn.0 t in let less = fall.0 e j in omega (arith, same, less)))
      rest false e j = refl

      by : In d (x ∷ ds) → Old → is_among (if test then x.reply.txn.0 ∷ L else L) d.reply.txn.0 ≡ gone d.reply.txn.0
      by (inl q) old = subst (λ (v : Deed). is_among (if test then x.reply.txn.0 ∷ L else L) v.reply.txn.0 ≡ gone v.reply.txn.0) q
          (first old test refl ∙ test_is old)
      by (inr j) old = rest test d j ∙ old d j
