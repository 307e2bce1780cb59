-- Over the whole past: the numbers of transactions that a target's closes have lost are by the laws those that are lost by its story.
use Rattle.std.proofs.Common.{◌≡◌, ℕ, ◌<◌, ◌≤◌, Bool, true, false, List, [], ◌∷◌, None, ◌⊎◌, inl, inr, ⊎_elim, refl, sym, subst, ap, ◌∙◌}
use Rattle.std.proofs.Common.{arith}
use Rattle.std.specs.Prelude.{nat_eq, nat_lt, not, ◌&&◌, ◌||◌, if◌then◌else◌, filter}
use Rattle.std.proofs.lemmas.Bool.Decides.{nat_tests}
use Rattle.std.proofs.lemmas.Bool.{and_parts, and_from, eqb-true, ltb-true, lt-ltb, not-true, not_from_false, false_from_ne_true}
use Rattle.lu_base.specs.declared.ids.At.{At}
use Rattle.lu_base.specs.declared.ids.Node.{Node}
use Rattle.lu_base.specs.declared.ids.Node.TheVariants.{Client, Target}
use Rattle.lu_base.specs.declared.ids.Stamp.{Stamp}
use Rattle.lu_base.specs.declared.ids.Txn.{Txn as TxnOf}
use Rattle.lu_msg.specs.declared.messages.Reply.{Reply as ReplyTo}
use Rattle.lu_spec_entries.specs.Carried.{Deed, Outcome}
use Rattle.lu_spec_entries.specs.Words.{Entry, Txn as Made, Close, Fail, Line, line}
use Rattle.lu_spec_entries.specs.Concerns.{concerns, only}
use Rattle.lu_spec_entries.specs.Printed.{printed}
use Rattle.lu_proof_lawful.specs.Covered.TargetStates.{server_of}
use Rattle.lu_proof_lawful.specs.Covered.TargetCloses as story
use Rattle.lu_proof_lawful.specs.Covered.Heads.{Head}
use Rattle.lu_spec_laws.specs.Words.Scopes.{any_in}
use Rattle.lu_spec_laws.specs.Words.Boots.{committed}
use Rattle.lu_spec_laws.specs.Words.Handed.{is_back}
use Rattle.lu_spec_laws.specs.Words.Learned.{heard_number}
use Rattle.lu_spec_laws.specs.Words.Lost.{Transaction, transactions, is_replayable, is_among, lost_of, undecided, loses, numbers_of}
use Rattle.lu_spec_laws.specs.Words.Lost.{is_fail, with_close, losses, lost_numbers, is_lost}
use Rattle.lu_proof_lawful.specs.Fits.{WasMade}
use Rattle.lu_proof_lawful.proofs.Preconditions.Guards.{In, EntryOk, due}
use Rattle.lu_proof_lawful.proofs.Preconditions.StoryGuards.{CloseOk}
use Rattle.lu_proof_lawful.proofs.Preconditions.Grown.{Allowed, Grown}
use Rattle.lu_proof_lawful.proofs.Preconditions.Lists.{self, in_filter, in_filtered}
use Rattle.lu_proof_lawful.proofs.Preconditions.Only.{grown_of}
use Rattle.lu_proof_lawful.proofs.Invariants.Groups.{turn, HoldsAt}
use Rattle.lu_proof_lawful.proofs.Invariants.TargetGroups.{Acted, IsMade, Stands}
use Rattle.lu_proof_lawful.proofs.Invariants.All.{holds}
use Rattle.lu_proof_lawful.proofs.Invariants.Exact as exact
use Rattle.lu_proof_lawful.proofs.Invariants.Exact.{IsBack, HeardBy, committed_then}
use Rattle.lu_proof_lawful.proofs.Invariants.Lines.{acted_more, only_more}
use Rattle.lu_proof_lawful.proofs.Invariants.ObjectDeeds.{makes}
use Rattle.lu_proof_lawful.proofs.Laws.Printed.{flip}
use Rattle.lu_proof_lawful.proofs.Laws.Taking.{none_due}
use Rattle.lu_proof_lawful.proofs.Laws.Backs.{window_law, law_window}
use Rattle.lu_proof_lawful.proofs.Laws.OneWord.{one_told}
use Rattle.lu_proof_lawful.proofs.Laws.CloseHeard.{number_law, law_number}
use Rattle.lu_proof_lawful.proofs.Laws.Commits.{told_committed}
use Rattle.lu_proof_lawful.proofs.Laws.NewDeeds.{client_acted, made_new}
use Rattle.lu_proof_lawful.proofs.Laws.Story.{target_is}
use Rattle.lu_proof_lawful.proofs.Laws.CloseLost.{made_of, trans, all_trans, transactions_are, Fall, made_acted, acted_made, made_fall}
use Rattle.lu_proof_lawful.proofs.Laws.CloseLost.{fall_filter, among_more, lost_some, lost_each}

-- no disk fails
pub none_failed : (head : Head) (past : List Line) (at : At) → Grown head past → any_in is_fail at (printed past) ≡ false
none_failed head [] at g = refl
none_failed head (l ∷ past) at g = by l.at.node l.entry g.0.ok (none_failed head past at g.1)
  where
    by : (node : Node) (e : Entry) → EntryOk past (turn l.at.stamp node) node e → any_in is_fail at (printed past) ≡ false
        → any_in is_fail at (printed (line (turn l.at.stamp node) e ∷ past)) ≡ false
    by (Client c) Fail ok h = absurd ok
    by (Target u) Fail ok h = absurd ok
    by node e ok h = h

-- the deeds on which a close decides
abbrev pub is_open : (above : ℕ) (lost : List ℕ) → Deed → Bool
is_open above lost d = nat_lt above d.reply.txn.0 && not (is_among lost d.reply.txn.0)

pub undecided_are : (above : ℕ) (lost : List ℕ) (ds : List Deed) → undecided above lost (all_trans ds)
    ≡ all_trans (filter (is_open above lost) ds)
undecided_are above lost [] = refl
undecided_are above lost (d ∷ ds) = by (is_open above lost d) (undecided_are above lost ds)
  where
    by : (b : Bool) → undecided above lost (all_trans ds) ≡ all_trans (filter (is_open above lost) ds)
        → (if b then trans d ∷ undecided above lost (all_trans ds) else undecided above lost (all_trans ds))
        ≡ all_trans (if b then d ∷ filter (is_open above lost) ds else filter (is_open above lost) ds)
    by true h = ap (λ (xs : List Transaction). trans d ∷ xs) h
    by false h = h

-- ---- at a close of the target

module _ (head : Head) (t : ℕ) (past : List Line) (stamp : Stamp) (o : Outcome) (here : nat_eq t t ≡ true)
    (k : Allowed head past (turn stamp (Target t)) (Close o)) (g : Grown head past)
    (before : (d : Deed) → Acted (only t past) d → IsMade d → is_lost (printed past) t d.reply.txn.0
    ≡ story.is_lost head.osts (only t past) d.reply.txn.0) where
  abbrev P : List Line
  P = only t past

  abbrev pub ds : List Deed
  ds = filter (is_open (committed t (printed past)) (lost_numbers t (printed past))) (made_of (only t past))

  ok : CloseOk head (only t past) (turn stamp (Target t)) o
  ok = k.of t here

  h : HoldsAt head (only t past)
  h = (holds head past g).at t

  pub none_noted : due head.osts head.clients (only t past) ≡ None
  none_noted = none_due head.osts head.clients (only t past) (Close o) (λ v. v) (λ mark d. (k.marks t mark here d).0)

  -- the committed number
  pub above_is : committed t (printed past) ≡ committed_then head (only t past)
  above_is = told_committed head t past g ∙ ok.of_committed

  pub can : (d : Deed) → Acted (only t past) d → IsMade d → is_replayable t (printed past) (trans d) ≡ true
      → IsBack head (only t past) d.reply.who × HeardBy (only t past) d
  can d a made e =
      let p = and_parts (is_back t (printed past) d.reply.who) (heard_number t d.reply.who d.reply.txn.0 (printed past)) e in
      let n = law_number t d.reply.who d.reply.txn.0 head past g p.1 in
      let w = h.done.answered d.reply.who n.0 n.1 n.2 in
      let number : w.0.reply.txn.0 ≡ d.reply.txn.0 = ap (λ (r : ReplyTo). r.txn.0) (sym w.2) ∙ n.3 in
      let same : w.0 ≡ d = exact.one_deed head (only t past) ok.recovers h w.0 d w.1 a (subst (λ (m : ℕ). 0 < m) (sym number) made) number
      in (
        law_window head t past g ok.recovers None none_noted (one_told head t past g) d.reply.who p.0,
        (n.0, n.1, n.2, w.2 ∙ ap (λ (v : Deed). record v.reply { boot = n.1.boot; committed = n.1.committed }) same),
      )

  pub may : (d : Deed) → Acted (only t past) d → IsMade d → IsBack head (only t past) d.reply.who → HeardBy (only t past) d
      → is_replayable t (printed past) (trans d) ≡ true
  may d a made back heard =
      and_from (is_back t (printed past) d.reply.who) (heard_number t d.reply.who d.reply.txn.0 (printed past))
      (window_law head t past g ok.recovers None none_noted d.reply.who back)
      (number_law t d.reply.who d.reply.txn.0 head past g heard.0 heard.1 heard.2 (ap (λ (r : ReplyTo). r.txn.0) heard.3))

  -- one that stands above the committed number is decided on
  pub open_in : (d : Deed) → Acted (only t past) d → IsMade d → Stands head.osts (only t past) d
      → committed_then head (only t past) < d.reply.txn.0 → In d ds
  open_in d a made stands above =
      in_filtered (is_open (committed t (printed past)) (lost_numbers t (printed past))) d (made_of (only t past))
      (acted_made head (only t past) (grown_of head t past g) d a made)
      (and_from (nat_lt (committed t (printed past)) d.reply.txn.0) (not (is_among (lost_numbers t (printed past)) d.reply.txn.0))
      (lt-ltb (committed t (printed past)) d.reply.txn.0 (subst (λ (n : ℕ). n < d.reply.txn.0) (sym above_is) above))
      (not_from_false (is_among (lost_numbers t (printed past)) d.reply.txn.0) (before d a made ∙ stands)))

  pub in_open : (d : Deed) → In d ds → Acted (only t past) d × IsMade d × Stands head.osts (only t past) d
      × (committed_then head (only t past) < d.reply.txn.0)
  in_open d i =
      let f = in_filter (is_open (committed t (printed past)) (lost_numbers t (printed past))) d (made_of (only t past)) i in
      let a = made_acted head (only t past) (grown_of head t past g) d f.0 in
      let p = and_parts (nat_lt (committed t (printed past)) d.reply.txn.0) (not (is_among (lost_numbers t (printed past)) d.reply.txn.0))
      f.1 in (
        a.0,
        a.1,
        sym (before d a.0 a.1) ∙ not-true (is_among (lost_numbers t (printed past)) d.reply.txn.0) p.1,
        subst (λ (n : ℕ). n < d.reply.txn.0) above_is (ltb-true (committed t (printed past)) d.reply.txn.0 p.0),
      )

  pub falls : Fall ds
  falls = fall_filter (is_open (committed t (printed past)) (lost_numbers t (printed past))) (made_of (only t past))
      (made_fall head (only t past) (grown_of head t past g))

  pub undecided_now : undecided (committed t (printed past)) (lost_numbers t (printed past)) (transactions t (printed past)) ≡ all_trans ds
  undecided_now = ap (undecided (committed t (printed past)) (lost_numbers t (printed past))) (transactions_are head t past g)
      ∙ undecided_are (committed t (printed past)) (lost_numbers t (printed past)) (made_of (only t past))

  -- what it loses by the laws
  pub law_loses : loses t (printed past) (lost_numbers t (printed past)) ≡ lost_of (is_replayable t (printed past)) (all_trans ds)
  law_loses = ap (lost_of (is_replayable t (printed past))) undecided_now

  -- of a transaction that stood before it
  pub loses_is : (d : Deed) → Acted (only t past) d → IsMade d → Stands head.osts (only t past) d
      → is_among (loses t (printed past) (lost_numbers t (printed past))) d.reply.txn.0
      ≡ story.loses (server_of head.osts (only t past)).committed.0 o d.reply.txn.0
  loses_is d a made stands =
      ap (λ (ns : List ℕ). is_among ns d.reply.txn.0) law_loses
      ∙ by (nat_lt (committed_then head (only t past)) d.reply.txn.0) refl
      ∙ ap (λ (v : Outcome). story.loses (committed_then head (only t past)) v d.reply.txn.0) (sym ok.is)
    where
      upto : (x y : ℕ) → nat_lt x y ≡ false → y ≤ x
      upto x y q = grind (arith, nat_tests)

      by : (b : Bool) → nat_lt (committed_then head (only t past)) d.reply.txn.0 ≡ b
          → is_among (lost_of (is_replayable t (printed past)) (all_trans ds)) d.reply.txn.0
          ≡ story.loses (committed_then head (only t past))
          (story.outcome_of head.osts head.clients (turn stamp (Target t)) (only t past)) d.reply.txn.0
      by true q =
          lost_each head (only t past) h ok.recovers (turn stamp (Target t)) (is_replayable t (printed past)) can may ds in_open falls
          (λ e p. inl (open_in e p.0 p.1 p.2 p.3)) d (open_in d a made stands
          (ltb-true (committed_then head (only t past)) d.reply.txn.0 q))
      by false q =
          let le = upto (committed_then head (only t past)) d.reply.txn.0 q in
          false_from_ne_true (is_among (lost_of (is_replayable t (printed past)) (all_trans ds)) d.reply.txn.0)
          (λ e. let r = lost_some (is_replayable t (printed past)) ds d.reply.txn.0 e in let up = (in_open r.0 r.1).3 in let same = r.2
          in omega (arith, le, up, same))
          ∙ sym (exact.low_stays head (only t past) ok.recovers h (turn stamp (Target t)) d.reply.txn.0 le)

-- ---- over the whole past

-- a number that is lost by the laws is that of a transaction
pub lost_made : (head : Head) (t : ℕ) (past : List Line) → Grown head past → (n : ℕ) → is_lost (printed past) t n ≡ true → (d : Deed)
    × Acted (only t past) d × IsMade d × (d.reply.txn.0 ≡ n)
lost_made head t [] g n e = absurd (cc)
lost_made head t (l ∷ past) g n e = by l.at.node l.entry g.0 e (lost_made head t past g.1 n)
  where
    P : List Line
    P = only t past

    Some_lost : List Line → Type 0
    Some_lost p = (d : Deed) × Acted p d × IsMade d × (d.reply.txn.0 ≡ n)

    more : (node : Node) (x : Entry) → Some_lost P → Some_lost (only t (line (turn l.at.stamp node) x ∷ past))
    more node x s = (s.0, of (concerns t node x), s.2, s.3)
      where
        of : (b : Bool) → Acted (if b then line (turn l.at.stamp node) x ∷ P else P) s.0
        of true = acted_more (turn l.at.stamp node) x P s.0 s.1
        of false = s.1

    decided : is_among (loses t (printed past) (lost_numbers t (printed past))) n ≡ true → Some_lost P
    decided e =
        let is = ap (λ (xs : List Transaction). lost_of (is_replayable t (printed past))
        (undecided (committed t (printed past)) (lost_numbers t (printed past)) xs)) (transactions_are head t past g.1)
        ∙ ap (lost_of (is_replayable t (printed past))) (undecided_are (committed t (printed past)) (lost_numbers t (printed past))
        (made_of P)) in
        let r = lost_some (is_replayable t (printed past)) (filter (is_open (committed t (printed past)) (lost_numbers t (printed past)))
        (made_of P)) n (ap (λ (ns : List ℕ). is_among ns n) (sym is) ∙ e) in
        let a = made_acted head P (grown_of head t past g.1) r.0
        (in_filter (is_open (committed t (printed past)) (lost_numbers t (printed past))) r.0 (made_of P) r.1).0 in
        (r.0, a.0, a.1, r.2)

    or : (a b : Bool) → (a || b) ≡ true → (a ≡ true) ⊎ (b ≡ true)
    or true b e = inl refl
    or false b e = inr e

    closed : (u : ℕ) (o : Outcome) (failed own : Bool) → is_among
        (numbers_of (if own then with_close failed (turn l.at.stamp (Target u)) (loses t (printed past)) (losses t (printed past))
        else losses t (printed past))) n ≡ true
        → (is_lost (printed past) t n ≡ true → Some_lost P) → Some_lost P
    closed u o failed false e h = h e
    closed u o true true e h = h e
    closed u o false true e h = ⊎_elim decided h
        (or (is_among (loses t (printed past) (lost_numbers t (printed past))) n) (is_lost (printed past) t n)
        (sym (among_more (loses t (printed past) (lost_numbers t (printed past))) (lost_numbers t (printed past)) n) ∙ e))

    by : (node : Node) (x : Entry) → Allowed head past (turn l.at.stamp node) x
        → is_lost (printed (line (turn l.at.stamp node) x ∷ past)) t n ≡ true → (is_lost (printed past) t n ≡ true → Some_lost P)
        → Some_lost (only t (line (turn l.at.stamp node) x ∷ past))
    by (Client c) (Close o) k e h = absurd k.ok
    by (Target u) (Close o) k e h = more (Target u) (Close o) (closed u o (any_in is_fail (turn l.at.stamp (Target u)) (printed past))
        (nat_eq u t) e h)
    by (Client c) Fail k e h = absurd k.ok
    by (Target u) Fail k e h = absurd k.ok
    by node x k e h = more node x (h e)

pub lost_at : (head : Head) (t : ℕ) (past : List Line) → Grown head past → (d : Deed) → Acted (only t past) d → IsMade d
    → is_lost (printed past) t d.reply.txn.0 ≡ story.is_lost head.osts (only t past) d.reply.txn.0
lost_at head t [] g d a made = absurd a
lost_at head t (l ∷ past) g d a made = by l.at.node l.entry g a (lost_at head t past g.1)
  where
    P : List Line
    P = only t past

    n : ℕ
    n = d.reply.txn.0

    Old : Type 0
    Old = (e : Deed) → Acted P e → IsMade e → is_lost (printed past) t e.reply.txn.0 ≡ story.is_lost head.osts P e.reply.txn.0

    quiet : (node : Node) (x : Entry) → (concerns t node x ≡ true → Acted (line (turn l.at.stamp node) x ∷ P) d → Acted P d)
        → story.is_lost head.osts (line (turn l.at.stamp node) x ∷ P) n ≡ story.is_lost head.osts P n
        → Acted (only t (line (turn l.at.stamp node) x ∷ past)) d → Old
        → is_lost (printed past) t n ≡ story.is_lost head.osts (only t (line (turn l.at.stamp node) x ∷ past)) n
    quiet node x old same a h = of (concerns t node x) refl a
      where
        of : (b : Bool) → concerns t node x ≡ b → Acted (if b then line (turn l.at.stamp node) x ∷ P else P) d → is_lost (printed past) t n
            ≡ story.is_lost head.osts (if b then line (turn l.at.stamp node) x ∷ P else P) n
        of true q a = h d (old q a) made ∙ sym same
        of false q a = h d a made

    -- a new transaction isn't lost
    made_now : (u : ℕ) (x : Deed) → Grown head (line (turn l.at.stamp (Target u)) (Made x) ∷ past) → nat_eq t u ≡ true
        → is_lost (printed past) t x.reply.txn.0 ≡ story.is_lost head.osts P x.reply.txn.0
    made_now u x g own =
        let story_grown = grown_of head t past g.1 in
        let now = g.0.of t own in
        let h = (holds head past g.1).at t in
        let fall : Fall (x ∷ made_of P) = subst (λ (p : List Line). Fall (made_of p))
        (ap (λ (b : Bool). if b then line (turn l.at.stamp (Target u)) (Made x) ∷ P else P) own)
        (made_fall head (only t (line (turn l.at.stamp (Target u)) (Made x) ∷ past))
        (grown_of head t (line (turn l.at.stamp (Target u)) (Made x) ∷ past) g)) in
        let k = makes head.osts P (turn l.at.stamp (Target u)) u x now in
        let number = ap (λ (v : TxnOf). v.0) k.number in
        let serves = k.serves.closed in
        false_from_ne_true (is_lost (printed past) t x.reply.txn.0)
        (λ e. let r = lost_made head t past g.1 x.reply.txn.0 e in let less = fall.0 r.0 (acted_made head P story_grown r.0 r.1 r.2)
        in let same = r.3 in omega (arith, less, same))
        ∙ sym (h.history.later x.reply.txn.0 (omega (arith, number, serves)))

    close : (u : ℕ) (o : Outcome) → Allowed head past (turn l.at.stamp (Target u)) (Close o)
        → Acted (only t (line (turn l.at.stamp (Target u)) (Close o) ∷ past)) d → Old → t ≡ u → nat_eq t u ≡ true
        → is_lost (printed (line (turn l.at.stamp (Target u)) (Close o) ∷ past)) t n
        ≡ story.is_lost head.osts (line (turn l.at.stamp (Target u)) (Close o) ∷ P) n
    close u o k a h same own = subst (λ (v : ℕ). Allowed head past (turn l.at.stamp (Target v)) (Close o) → nat_eq t v ≡ true
        → is_lost (printed (line (turn l.at.stamp (Target v)) (Close o) ∷ past)) t n
        ≡ (story.is_lost head.osts P n || story.loses (server_of head.osts P).committed.0 o n)) same (λ k own. now k own) k own
      where
        old : Acted P d
        old = of (concerns t (Target u) (Close o)) a
          where
            of : (b : Bool) → Acted (if b then line (turn l.at.stamp (Target u)) (Close o) ∷ P else P) d → Acted P d
            of true a = a
            of false a = a

        now : Allowed head past (turn l.at.stamp (Target t)) (Close o) → nat_eq t t ≡ true
            → is_lost (printed (line (turn l.at.stamp (Target t)) (Close o) ∷ past)) t n
            ≡ (story.is_lost head.osts P n || story.loses (server_of head.osts P).committed.0 o n)
        now k own =
            ap (λ (b : Bool). is_among (numbers_of (if b then with_close (any_in is_fail (turn l.at.stamp (Target t)) (printed past))
            (turn l.at.stamp (Target t)) (loses t (printed past)) (losses t (printed past)) else losses t (printed past))) n) own
            ∙ ap (λ (b : Bool). is_among (numbers_of (with_close b (turn l.at.stamp (Target t)) (loses t (printed past))
            (losses t (printed past)))) n) (none_failed head past (turn l.at.stamp (Target t)) g.1)
            ∙ among_more (loses t (printed past) (lost_numbers t (printed past))) (lost_numbers t (printed past)) n
            ∙ both (story.is_lost head.osts P n) refl
          where
            after : (x y : Bool) → (x || true) ≡ true
            after true y = refl
            after false y = refl

            plain : (x : Bool) → (x || false) ≡ x
            plain true = refl
            plain false = refl

            both : (b : Bool) → story.is_lost head.osts P n ≡ b
                → (is_among (loses t (printed past) (lost_numbers t (printed past))) n || is_lost (printed past) t n)
                ≡ (b || story.loses (server_of head.osts P).committed.0 o n)
            both true q = ap (λ (x : Bool). is_among (loses t (printed past) (lost_numbers t (printed past))) n || x) (h d old made ∙ q)
                ∙ after (is_among (loses t (printed past) (lost_numbers t (printed past))) n) true
            both false q =
                ap (λ (x : Bool). is_among (loses t (printed past) (lost_numbers t (printed past))) n || x) (h d old made ∙ q)
                ∙ plain (is_among (loses t (printed past) (lost_numbers t (printed past))) n)
                ∙ loses_is head t past l.at.stamp o own k g.1 h d old made q

    by : (node : Node) (x : Entry) → Grown head (line (turn l.at.stamp node) x ∷ past)
        → Acted (only t (line (turn l.at.stamp node) x ∷ past)) d → Old → is_lost (printed (line (turn l.at.stamp node) x ∷ past)) t n
        ≡ story.is_lost head.osts (only t (line (turn l.at.stamp node) x ∷ past)) n
    by (Client c) (Made x) g a h = absurd g.0.ok
    by (Client c) (Close o) g a h = absurd g.0.ok
    by (Client c) Fail g a h = absurd g.0.ok
    by (Target u) Fail g a h = absurd g.0.ok
    by (Target u) (Made x) g a h = of (nat_eq t u) refl a
      where
        of : (b : Bool) → nat_eq t u ≡ b → Acted (if b then line (turn l.at.stamp (Target u)) (Made x) ∷ P else P) d
            → is_lost (printed past) t n ≡ story.is_lost head.osts (if b then line (turn l.at.stamp (Target u)) (Made x) ∷ P else P) n
        of false q a = h d a made
        of true q (inl e) = subst (λ (v : Deed). is_lost (printed past) t v.reply.txn.0 ≡ story.is_lost head.osts P v.reply.txn.0) e
            (made_now u x g q)
        of true q (inr b) = h d b made
    by (Target u) (Close o) g a h = of (nat_eq t u) refl
      where
        new : Line
        new = line (turn l.at.stamp (Target u)) (Close o)

        of : (b : Bool) → nat_eq t u ≡ b → is_lost (printed (new ∷ past)) t n ≡ story.is_lost head.osts (if b then new ∷ P else P) n
        of true q = close u o g.0 a h (eqb-true t u q) q
        of false q = ap (λ (b : Bool). is_among (numbers_of (if b
            then with_close (any_in is_fail (turn l.at.stamp (Target u)) (printed past)) (turn l.at.stamp (Target u))
            (loses t (printed past)) (losses t (printed past)) else losses t (printed past))) n) (flip u t ∙ q)
            ∙ h d (old (nat_eq t u) a) made
          where
            old : (b : Bool) → Acted (if b then new ∷ P else P) d → Acted P d
            old true a = a
            old false a = a
    by (Client c) x g a h = quiet (Client c) x (λ q b. client_acted head P l.at.stamp c x d (g.0.of t q) b) refl a h
    by (Target u) x g a h =
        quiet (Target u) x (λ q b. ⊎_elim (λ (e : x ≡ Made d). absurd (cc)) (λ (o : Acted P d). o)
        (made_new head P l.at.stamp u x d (g.0.of t q) b made)) refl a h

was_acted : (head : Head) (t : ℕ) (past : List Line) → Grown head past → (n : ℕ) → WasMade t past n → (d : Deed) × Acted (only t past) d
    × IsMade d × (d.reply.txn.0 ≡ n)
was_acted head t [] g n w = absurd w
was_acted head t (l ∷ past) g n w = by l.at.node l.entry g.0 w (was_acted head t past g.1 n)
  where
    P : List Line
    P = only t past

    Was_acted : List Line → Type 0
    Was_acted p = (d : Deed) × Acted p d × IsMade d × (d.reply.txn.0 ≡ n)

    more : (node : Node) (x : Entry) → Was_acted P → Was_acted (only t (line (turn l.at.stamp node) x ∷ past))
    more node x r = (r.0, only_more t (line (turn l.at.stamp node) x) past r.0 r.1, r.2, r.3)

    -- the line is of that target
    here : (u : ℕ) (x : Deed) → Allowed head past (turn l.at.stamp (Target u)) (Made x) → Target u ≡ Target t → x.reply.txn.0 ≡ n
        → Was_acted (only t (line (turn l.at.stamp (Target u)) (Made x) ∷ past))
    here u x k same e =
        let own : nat_eq t u ≡ true = subst (λ (v : ℕ). nat_eq t v ≡ true) (target_is t u (sym same)) (self t) in (
          x,
          subst (λ (b : Bool). Acted (if b then line (turn l.at.stamp (Target u)) (Made x) ∷ P else P) x) (sym own) (inl refl),
          let is = ap (λ (v : TxnOf). v.0) (makes head.osts P (turn l.at.stamp (Target u)) u x (k.of t own)).number in omega (arith, is),
          e,
        )

    by : (node : Node) (x : Entry) → Allowed head past (turn l.at.stamp node) x → WasMade t (line (turn l.at.stamp node) x ∷ past) n
        → (WasMade t past n → Was_acted P) → Was_acted (only t (line (turn l.at.stamp node) x ∷ past))
    by (Client c) (Made x) k w h = absurd k.ok
    by (Target u) (Made x) k (inl e) h = here u x k e.0 e.1
    by (Target u) (Made x) k (inr w) h = more (Target u) (Made x) (h w)
    by node x k w h = more node x (h w)

-- of what the target made so far
pub lost_is : (head : Head) (t : ℕ) (past : List Line) → Grown head past → (n : ℕ) → WasMade t past n → is_lost (printed past) t n
    ≡ story.is_lost head.osts (only t past) n
lost_is head t past g n made = let d = was_acted head t past g n made
    in subst (λ (m : ℕ). is_lost (printed past) t m ≡ story.is_lost head.osts (only t past) m) d.3 (lost_at head t past g d.0 d.1 d.2)
