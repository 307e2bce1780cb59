-- What every covered run keeps of a close: the next line is its commit, of the greatest number that it keeps, or where it keeps none of the
-- number that was committed before.
use Rattle.std.proofs.Common.{◌≡◌, ℕ, ◌+◌, ◌≤◌, ◌<◌, Bool, true, false, List, [], ◌∷◌, ◌++◌, Option, Some, None, inl, inr, refl, sym, subst}
use Rattle.std.proofs.Common.{ap, ◌∙◌, arith}
use Rattle.std.specs.Prelude.{nat_eq, nat_lt, max, if◌then◌else◌, filter, map}
use Rattle.std.proofs.lemmas.Bool.{cond-true, cond-false, eq-eqb, true≢false}
use Rattle.std.proofs.lemmas.Bool.Decides.{nat_tests}
use Rattle.lu_base.specs.declared.ids.At.{At}
use Rattle.lu_base.specs.declared.ids.Node.{Node}
use Rattle.lu_base.specs.declared.ids.Node.TheVariants.{Client, Target}
use Rattle.lu_base.specs.declared.ids.Stamp.{Stamp}
use Rattle.lu_base.specs.declared.ids.Txn.{Txn as TxnOf}
use Rattle.lu_base.specs.declared.ids.Who.{Who}
use Rattle.lu_base.specs.declared.locks.Lock.{Lock}
use Rattle.lu_msg.specs.declared.commits.Batch.{Batch}
use Rattle.lu_msg.specs.declared.commits.Transaction.{Transaction}
use Rattle.lu_trace.specs.declared.entries.Entry.{Entry as PrintedEntry}
use Rattle.lu_trace.specs.declared.entries.Entry.TheVariants as trace
use Rattle.lu_trace.specs.declared.entries.Line.{Line as PrintedLine}
use Rattle.lu_spec_entries.specs.Carried.{Deed, Gone, Disk, Outcome}
use Rattle.lu_spec_entries.specs.Words.{Entry, Commit, Boot, Close, Kept as Keeps_, Line, line, turn_before}
use Rattle.lu_spec_entries.specs.Concerns.{concerns, only}
use Rattle.lu_spec_entries.specs.Sent.{count_sent}
use Rattle.lu_spec_entries.specs.Printed.{printed_entry, printed}
use Rattle.lu_spec_target.specs.Lives.{lives_of as lives_in}
use Rattle.lu_spec_target.specs.Recovery.{kept_lines, restore_lines}
use Rattle.lu_spec_target.specs.Stored.{transaction_of, last_number, batch_of}
use Rattle.lu_proof_lawful.specs.Covered.TargetStates.{server_of, lives_of, closed_of}
use Rattle.lu_proof_lawful.specs.Covered.TargetCloses.{disk_of, shows_evicted, shows_ready, shows_joined, staying, shows, but_first}
use Rattle.lu_proof_lawful.specs.Covered.TargetCloses.{closing_of}
use Rattle.lu_proof_lawful.specs.Covered.Heads.{Head}
use Rattle.lu_spec_laws.specs.Holds.{Holds}
use Rattle.lu_spec_laws.specs.Words.Pasts.{same_turn}
use Rattle.lu_spec_laws.specs.Words.Boots.{committed}
use Rattle.lu_spec_laws.specs.Order.Closes.{commit_next, greatest_kept, Closes}
use Rattle.lu_proof_lawful.proofs.Preconditions.Guards.{In, Later, Steps, IsTurnOf}
use Rattle.lu_proof_lawful.proofs.Preconditions.StoryGuards.{CloseOk}
use Rattle.lu_proof_lawful.proofs.Preconditions.Grown.{Noted, Allowed, Grown}
use Rattle.lu_proof_lawful.proofs.Preconditions.Lists.{self, turn_trans, turn_irreflexive}
use Rattle.lu_proof_lawful.proofs.Invariants.Groups.{turn, Upto}
use Rattle.lu_proof_lawful.proofs.Invariants.All.{holds}
use Rattle.lu_proof_lawful.proofs.Invariants.CloseFacts.{Closing, closing}
use Rattle.lu_proof_lawful.proofs.Invariants.SlotLists.{NoneFalls}
use Rattle.lu_proof_lawful.proofs.Invariants.Times.{upto_trans}
use Rattle.lu_proof_lawful.proofs.Laws.Turns.{same_turn_is, same_turn_self, steps_trans}
use Rattle.lu_proof_lawful.proofs.Laws.Lines.{Keeps, after_line, shown, holds_due}
use Rattle.lu_proof_lawful.proofs.Laws.CloseLines.{turned, StandFirst, RestStands, rest_none, rest_before}
use Rattle.lu_proof_lawful.proofs.Laws.Commits.{told_committed}
use Rattle.lu_proof_lawful.proofs.Laws.CloseTurn.{not_later}
use Rattle.lu_proof_lawful.proofs.Laws.OrderlyQuiet.{Says}

-- ---- the later lines stand in the order of their turns

abbrev AllUpto : At → List PrintedLine → Type 0
AllUpto a [] = Unit {0}
AllUpto a (k ∷ later) = Upto a k.at × AllUpto a later

abbrev Sorted : List PrintedLine → Type 0
Sorted [] = Unit {0}
Sorted (k ∷ later) = AllUpto k.at later × Sorted later

-- they follow the newest line
abbrev Follows : List Line → List PrintedLine → Type 0
Follows [] later = Sorted later
Follows (l ∷ past) later = AllUpto l.at later × Sorted later

all_from : (a b : At) (later : List PrintedLine) → Upto a b → AllUpto b later → AllUpto a later
all_from a b [] u all = tt
all_from a b (k ∷ later) u all = (upto_trans a b k.at u all.0, all_from a b later u all.1)

follows_before : (l : Line) (past : List Line) (later : List PrintedLine) → Steps past l.at → Follows (l ∷ past) later
    → Follows past (shown l.at (printed_entry (count_sent past + 1) l.entry) later)
follows_before l past later s f = by past s (printed_entry (count_sent past + 1) l.entry)
  where
    by : (p : List Line) → Steps p l.at → (o : Option PrintedEntry) → Follows p (shown l.at o later)
    by [] s None = f.1
    by [] s (Some e) = f
    by (x ∷ p) s None = (all_from x.at l.at later s f.0, f.1)
    by (x ∷ p) s (Some e) = ((s, all_from x.at l.at later s f.0), f)

-- nothing of a turn stands after a later one
none_turned : (at a : At) (later : List PrintedLine) → turn_before at a ≡ true → AllUpto a later → turned at later ≡ []
none_turned at a [] b all = refl
none_turned at a (k ∷ later) b all = cond-false (same_turn k.at at) (k.entry ∷ turned at later) (turned at later)
    (flip_turn k.at (after k.at all.0)) ∙ none_turned at a later b all.1
  where
    after : (c : At) → Upto a c → turn_before at c ≡ true
    after c (inl e) = subst (λ (v : At). turn_before at v ≡ true) e b
    after c (inr e) = turn_trans at a c b e

    flip_turn : (c : At) → turn_before at c ≡ true → same_turn c at ≡ false
    flip_turn c e = by (same_turn c at) refl
      where
        by : (v : Bool) → same_turn c at ≡ v → v ≡ false
        by false q = refl
        by true q = absurd (turn_irreflexive at (subst (λ (v : At). turn_before at v ≡ true) (same_turn_is c at q) e))

-- a target's newest line is of the newest turn or an earlier one
turn_upto : (head : Head) (t : ℕ) (past : List Line) (a b : At) → Grown head past → IsTurnOf (only t past) a → Steps past b → Upto a b
turn_upto head t [] a b g turned s = absurd turned
turn_upto head t (l ∷ past) a b g turned s = by (concerns t l.at.node l.entry) turned
    (λ q. turn_upto head t past a b g.1 q (steps_trans past l.at b g.0.steps s))
  where
    by : (c : Bool) → IsTurnOf (if c then l ∷ only t past else only t past) a → (IsTurnOf (only t past) a → Upto a b) → Upto a b
    by true q h = subst (λ (v : At). Upto v b) q s
    by false q h = h q

-- ---- the numbers that are kept

abbrev kepts : List PrintedEntry → List ℕ
kepts [] = []
kepts (k ∷ ks) = elim k [ trace.Kept number ↦ number.0 ∷ kepts ks | _ ↦ kepts ks ]

abbrev kepts_of : List Entry → List ℕ
kepts_of [] = []
kepts_of (e ∷ es) = elim e [ Keeps_ number ↦ number.0 ∷ kepts_of es | _ ↦ kepts_of es ]

abbrev numbers_of : List Deed → List ℕ
numbers_of [] = []
numbers_of (d ∷ ds) = d.reply.txn.0 ∷ numbers_of ds

kepts_restored : (ls : List Lock) (es : List Entry) → kepts_of (restore_lines ls ++ es) ≡ kepts_of es
kepts_restored [] es = refl
kepts_restored (l ∷ ls) es = kepts_restored ls es

kepts_evicted : (o : Outcome) (gone : List Gone) (es : List Entry) → kepts_of (shows_evicted o gone ++ es) ≡ kepts_of es
kepts_evicted o [] es = refl
kepts_evicted o (x ∷ gone) es = kepts_evicted o gone es

kepts_ready : (o : Outcome) (ws : List Who) (es : List Entry) → kepts_of (shows_ready o ws ++ es) ≡ kepts_of es
kepts_ready o [] es = refl
kepts_ready o (w ∷ ws) es = kepts_ready o ws es

kepts_joined : (o : Outcome) (ws : List Who) → kepts_of (shows_joined o ws) ≡ []
kepts_joined o [] = refl
kepts_joined o (w ∷ ws) = kepts_joined o ws

kepts_kept : (ds : List Deed) (es : List Entry) → kepts_of es ≡ [] → kepts_of (kept_lines ds ++ es) ≡ numbers_of ds
kepts_kept [] es none = none
kepts_kept (d ∷ ds) es none = ap (λ (ns : List ℕ). d.reply.txn.0 ∷ ns) (kepts_kept ds es none)

-- a close shows those that it keeps
kepts_shown : (o : Outcome) (lives : List Who) → kepts_of (shows o lives) ≡ numbers_of o.kept
kepts_shown o lives =
    let d = shows_ready o (staying o lives) in
    let f = shows_joined o o.joins in
    kepts_kept o.kept (restore_lines o.locks ++ (shows_evicted o o.gone ++ (d ++ f)))
    (kepts_restored o.locks (shows_evicted o o.gone ++ (d ++ f)) ∙ kepts_evicted o o.gone (d ++ f) ∙ kepts_ready o (staying o lives) f
    ∙ kepts_joined o o.joins)

-- ---- what is kept later in a turn is what its close has still to show

abbrev KeptLeft : Head → List Line → List PrintedLine → Type 0
KeptLeft head past later =
    (t : ℕ) (at : At) → at.node ≡ Target t → IsTurnOf (only t past) at → closed_of (only t past) ≡ (server_of head.osts (only t past)).boot
    → kepts (turned at later) ≡ kepts_of (closing_of head.clients (only t past))

left_none : (head : Head) (past : List Line) → Noted head past → KeptLeft head past []
left_none head past n t at node s serves = sym (ap kepts_of (n.shown t))

left_before : (head : Head) (l : Line) (past : List Line) (later : List PrintedLine) → Grown head (l ∷ past) → Follows (l ∷ past) later
    → KeptLeft head (l ∷ past) later → KeptLeft head past (shown l.at (printed_entry (count_sent past + 1) l.entry) later)
left_before head l past later g follows h t at node s serves = by (same_turn l.at at) refl
  where
    P : List Line
    P = only t past

    C : List Entry
    C = closing_of head.clients P

    m : ℕ
    m = count_sent past + 1

    Next : Entry → Type 0
    Next x = (next : Entry) (more : List Entry) → C ≡ next ∷ more → (x ≡ next) × IsTurnOf P l.at

    same_at : (p : List Line) → IsTurnOf p l.at → IsTurnOf p at → l.at ≡ at
    same_at [] u v = absurd u
    same_at (x ∷ p) u v = sym u ∙ v

    -- a line of another turn
    off : (o : Option PrintedEntry) → same_turn l.at at ≡ false → turned at (shown l.at o later) ≡ turned at later
    off None e = refl
    off (Some k) e = cond-false (same_turn l.at at) (k ∷ turned at later) (turned at later) e

    apart : Upto at l.at → same_turn l.at at ≡ false → turn_before at l.at ≡ true
    apart (inl q) e = absurd (true≢false (sym (subst (λ (v : At). same_turn l.at v ≡ true) (sym q) (same_turn_self l.at)) ∙ e))
    apart (inr q) e = q

    none : (es : List Entry) → C ≡ es → Next l.entry → same_turn l.at at ≡ false → es ≡ []
    none [] q next e = refl
    none (x ∷ es) q next e = absurd (true≢false (sym (subst (λ (v : At). same_turn l.at v ≡ true) (same_at P (next x es q).1 s)
        (same_turn_self l.at)) ∙ e))

    other : same_turn l.at at ≡ false → (b : Bool) → concerns t l.at.node l.entry ≡ b
        → (IsTurnOf (if b then l ∷ P else P) at → closed_of (if b then l ∷ P else P) ≡ (server_of head.osts (if b then l ∷ P else P)).boot
        → kepts (turned at later) ≡ kepts_of (closing_of head.clients (if b then l ∷ P else P)))
        → kepts (turned at (shown l.at (printed_entry m l.entry) later)) ≡ kepts_of C
    other e false c k = ap kepts (off (printed_entry m l.entry) e) ∙ k s serves
    other e true c k =
        ap kepts (off (printed_entry m l.entry) e ∙ none_turned at l.at later (apart (turn_upto head t past at l.at g.1 s g.0.steps) e)
        follows.0)
        ∙ sym (ap kepts_of (none C refl (g.0.shows t c) e))

    -- a line of this turn, which is the target's
    first_kept : (x : Entry) (es : List Entry) → ((number : TxnOf) → x ≡ Keeps_ number → ⊥) → kepts_of (x ∷ es) ≡ kepts_of es
    first_kept (Keeps_ number) es n = absurd (n number refl)
    first_kept x es n = refl

    rest : (x : Entry) (es : List Entry) → C ≡ es → Next x → ((number : TxnOf) → x ≡ Keeps_ number → ⊥) → kepts_of (but_first es)
        ≡ kepts_of es
    rest x [] q next n = refl
    rest x (y ∷ es) q next n = sym (first_kept y es (λ number e. n number ((next y es q).0 ∙ e)))

    one : (k : PrintedEntry) → same_turn l.at at ≡ true → turned at (shown l.at (Some k) later) ≡ k ∷ turned at later
    one k e = cond-true (same_turn l.at at) (k ∷ turned at later) (turned at later) e

    NoKept : Option PrintedEntry → Type 0
    NoKept None = Unit {0}
    NoKept (Some k) = elim k [ trace.Kept number ↦ ⊥ | _ ↦ Unit {0} ]

    skip : (k : PrintedEntry) → NoKept (Some k) → kepts (k ∷ turned at later) ≡ kepts (turned at later)
    skip (trace.Kept number) n = absurd n
    skip k n = refl

    quiet : (o : Option PrintedEntry) → same_turn l.at at ≡ true → NoKept o → kepts (turned at (shown l.at o later))
        ≡ kepts (turned at later)
    quiet None e n = refl
    quiet (Some k) e n = ap kepts (one k e) ∙ skip k n

    own : (u : ℕ) (x : Entry) → turn l.at.stamp (Target u) ≡ at → same_turn l.at at ≡ true
        → Allowed head past (turn l.at.stamp (Target u)) x → concerns t (Target u) x ≡ true → Next x
        → (closed_of (line (turn l.at.stamp (Target u)) x ∷ P) ≡ (server_of head.osts (line (turn l.at.stamp (Target u)) x ∷ P)).boot
        → kepts (turned at later) ≡ kepts_of (closing_of head.clients (line (turn l.at.stamp (Target u)) x ∷ P)))
        → kepts (turned at (shown l.at (printed_entry m x) later)) ≡ kepts_of C
    own u (Keeps_ number) same e a c next k =
        let due = a.of t c in
        ap kepts (one (trace.Kept number) e) ∙ ap (λ (ns : List ℕ). number.0 ∷ ns)
        (k serves ∙ ap (λ (es : List Entry). kepts_of (but_first es)) due.1) ∙ sym (ap kepts_of due.1)
    own u (Close o) same e a c next k = absurd (true≢false (sym (eq-eqb (closed_of P) (server_of head.osts P).boot serves)
        ∙ (a.of t c).recovers))
    own u (Boot b disk) same e a c next k = absurd (not_later head t past at g.1 s (subst (λ (v : At). Later past v) same a.ok))
    own u x same e a c next k = quiet (printed_entry m x) e tt ∙ k serves ∙ rest x C refl next (λ number q. absurd (cc))

    here : (node : Node) (x : Entry) → node ≡ Target t → turn l.at.stamp node ≡ at → same_turn l.at at ≡ true
        → Allowed head past (turn l.at.stamp node) x → concerns t node x ≡ true → Next x
        → (closed_of (line (turn l.at.stamp node) x ∷ P) ≡ (server_of head.osts (line (turn l.at.stamp node) x ∷ P)).boot
        → kepts (turned at later) ≡ kepts_of (closing_of head.clients (line (turn l.at.stamp node) x ∷ P)))
        → kepts (turned at (shown l.at (printed_entry m x) later)) ≡ kepts_of C
    here (Client d) x n same e a c next k = absurd (cc)
    here (Target u) x n same e a c next k = own u x same e a c next k

    by : (v : Bool) → same_turn l.at at ≡ v → kepts (turned at (shown l.at (printed_entry m l.entry) later)) ≡ kepts_of C
    by false e = other e (concerns t l.at.node l.entry) refl (λ u v. h t at node u v)
    by true e =
        let same : l.at ≡ at = same_turn_is l.at at e in
        let n : l.at.node ≡ Target t = ap (λ (v : At). v.node) same ∙ node in
        let c : concerns t l.at.node l.entry ≡ true = ap (λ (v : Node). concerns t v l.entry) n ∙ self t in
        here l.at.node l.entry n same e g.0 c (g.0.shows t c)
        (subst (λ (b : Bool). IsTurnOf (if b then l ∷ P else P) at → closed_of (if b then l ∷ P else P)
        ≡ (server_of head.osts (if b then l ∷ P else P)).boot → kepts (turned at later)
        ≡ kepts_of (closing_of head.clients (if b then l ∷ P else P)))
        c (λ u v. h t at node u v) same)

-- ---- the next line

next_commit : (at : At) (later : List PrintedLine) (to : ℕ) (batch : Batch) (es : List Entry) → AllUpto at later → Sorted later
    → StandFirst (Commit to batch ∷ es) (turned at later) → commit_next at later ≡ Some to
next_commit at [] to batch es all sorted s = absurd s
next_commit at (k ∷ later) to batch es all sorted s = by (same_turn k.at at) refl s
  where
    before : Upto at k.at → same_turn k.at at ≡ false → turn_before at k.at ≡ true
    before (inl q) e = absurd (true≢false (sym (subst (λ (v : At). same_turn k.at v ≡ true) (sym q) (same_turn_self k.at)) ∙ e))
    before (inr q) e = q

    by : (b : Bool) → same_turn k.at at ≡ b → StandFirst (Commit to batch ∷ es) (if b then k.entry ∷ turned at later else turned at later)
        → commit_next at (k ∷ later) ≡ Some to
    by true e s =
        let is : trace.Commit (record { 0 = to }) ≡ k.entry = let q = s.0.1 in cc in
        ap (λ (x : PrintedEntry). commit_next at (record { at = k.at; entry = x } ∷ later)) (sym is)
        ∙ cond-true (same_turn k.at at) (Some to) None e
    by false e s = absurd (subst (λ (ks : List PrintedEntry). StandFirst (Commit to batch ∷ es) ks)
        (none_turned at k.at later (before all.0 e) sorted.0) s)

-- ---- the greatest number that is kept

abbrev most : ℕ → List ℕ → ℕ
most n [] = n
most n (m ∷ ms) = most (max n m) ms

greatest_is : (at : At) (n : ℕ) (later : List PrintedLine) → greatest_kept at n later ≡ most n (kepts (turned at later))
greatest_is at n [] = refl
greatest_is at n (k ∷ later) = by k.entry (same_turn k.at at) (greatest_is at n later) (λ m. greatest_is at (max n m) later)
  where
    by : (e : PrintedEntry) (b : Bool) → greatest_kept at n later ≡ most n (kepts (turned at later))
        → ((m : ℕ) → greatest_kept at (max n m) later ≡ most (max n m) (kepts (turned at later)))
        → elim e [ trace.Kept number ↦ greatest_kept at (if b then max n number.0 else n) later | _ ↦ greatest_kept at n later ]
        ≡ most n (kepts (if b then e ∷ turned at later else turned at later))
    by (trace.Kept number) true h f = f number.0
    by (trace.Kept number) false h f = h
    by e true h f = h
    by e false h f = h

-- of rising numbers above that one it is the last
last_most : (c n : ℕ) (ds : List Deed) → ((d : Deed) → In d ds → c < d.reply.txn.0) → ((d : Deed) → In d ds → n ≤ d.reply.txn.0)
    → NoneFalls ds
    → last_number (filter (λ (x : Transaction). nat_lt c x.txn.0) (map {A = Deed} {B = Transaction} transaction_of ds)) n
    ≡ most n (numbers_of ds)
last_most c n [] above low falls = refl
last_most c n (d ∷ ds) above low falls =
    let lt = above d (inl refl) in
    let le = low d (inl refl) in
    let passes : nat_lt c d.reply.txn.0 ≡ true = grind (arith, nat_tests, lt) in
    let greater : max n d.reply.txn.0 ≡ d.reply.txn.0 = omega (arith, le) in
    ap (λ (xs : List Transaction). last_number xs n) (cond-true (nat_lt c d.reply.txn.0) (transaction_of d ∷ news) news passes)
    ∙ last_most c d.reply.txn.0 ds (λ e i. above e (inr i)) (λ e i. falls.0 e i) falls.1
    ∙ ap (λ (m : ℕ). most m (numbers_of ds)) (sym greater)
  where
    news : List Transaction
    news = filter (λ (x : Transaction). nat_lt c x.txn.0) (map {A = Deed} {B = Transaction} transaction_of ds)

-- ---- the condition

abbrev Left : Head → List Line → List PrintedLine → Type 0
Left head past later = RestStands head past later × Follows past later × KeptLeft head past later

left_then : (head : Head) (past : List Line) (l : Line) (later : List PrintedLine) → Grown head (l ∷ past) → Left head (l ∷ past) later
    → Left head past (shown l.at (printed_entry (count_sent past + 1) l.entry) later)
left_then head past l later g f = (
  subst (λ (ks : List PrintedLine). RestStands head past ks) (same (printed_entry (count_sent past + 1) l.entry))
      (rest_before head l past later g.0 f.0),
  follows_before l past later g.0.steps f.1,
  left_before head l past later g f.1 f.2,
)
  where
    same : (o : Option PrintedEntry) → after_line l o later ≡ shown l.at o later
    same None = refl
    same (Some e) = refl

close_shows : (head : Head) (past : List Line) (stamp : Stamp) (t : ℕ) (o : Outcome) (later : List PrintedLine)
    → Allowed head past (turn stamp (Target t)) (Close o) → Grown head past
    → Left head (line (turn stamp (Target t)) (Close o) ∷ past) later
    → commit_next (turn stamp (Target t)) later ≡ Some (greatest_kept (turn stamp (Target t)) (committed t (printed past)) later)
close_shows head past stamp t o later a g f =
    next_commit at later o.disk.committed batch (but_first (shows o lives)) f.1.0 f.1.1 first ∙ ap (λ (n : ℕ). Some n) (sym greatest)
  where
    at : At
    at = turn stamp (Target t)

    P : List Line
    P = only t past

    lives : List Who
    lives = lives_of head.clients P

    ok : CloseOk head P at o
    ok = a.of t (self t)

    c : Closing head P o
    c = closing head P at o ok ((holds head past g).at t)

    batch : Batch
    batch = batch_of o.kept (lives_in o.gone) o.joins

    new : only t (line at (Close o) ∷ past) ≡ line at (Close o) ∷ P
    new = cond-true (nat_eq t t) (line at (Close o) ∷ P) P (self t)

    here : IsTurnOf (only t (line at (Close o) ∷ past)) at
    here = subst (λ (p : List Line). IsTurnOf p at) (sym new) refl

    first : StandFirst (shows o lives) (turned at later)
    first = subst (λ (p : List Line). StandFirst (closing_of head.clients p) (turned at later)) new (f.0 t at refl here)

    served : closed_of (only t (line at (Close o) ∷ past)) ≡ (server_of head.osts (only t (line at (Close o) ∷ past))).boot
    served = subst (λ (p : List Line). closed_of p ≡ (server_of head.osts p).boot) (sym new) (ap (λ (v : Outcome). v.boot) ok.is)

    numbers : kepts (turned at later) ≡ numbers_of o.kept
    numbers = f.2 t at refl here served ∙ ap (λ (p : List Line). kepts_of (closing_of head.clients p)) new ∙ kepts_shown o lives

    disk : Disk
    disk = disk_of head.osts head.clients P

    above : (d : Deed) → In d o.kept → disk.committed < d.reply.txn.0
    above d i = let k = c.kept d i in let same = ok.of_committed in let number = k.4 in let lt = k.6 in omega (arith, same, number, lt)

    greatest : greatest_kept at (committed t (printed past)) later ≡ o.disk.committed
    greatest =
        greatest_is at (committed t (printed past)) later
        ∙ ap (λ (n : ℕ). most n (kepts (turned at later))) (told_committed head t past g)
        ∙ ap (λ (ns : List ℕ). most disk.committed ns) numbers
        ∙ sym (last_most disk.committed disk.committed o.kept above (λ d i. let lt = above d i in omega (arith, lt)) c.falls)
        ∙ ap (λ (d : Disk). d.committed) (sym c.disk)

closes_at : (head : Head) (past : List Line) (l : Line) (later : List PrintedLine) → Allowed head past l.at l.entry → Grown head past
    → Left head (l ∷ past) later → Keeps Closes past l later
closes_at head past l later a g f = by l.at.node l.entry a f
  where
    by : (node : Node) (e : Entry) → Allowed head past (turn l.at.stamp node) e → Left head (line (turn l.at.stamp node) e ∷ past) later
        → Says Closes past (turn l.at.stamp node) later e
    by (Client c) (Close o) k f = absurd k.ok
    by (Target t) (Close o) k f = λ whole. close_shows head past l.at.stamp t o later k g f
    by _ _ k f = tt

pub closes : (head : Head) (past : List Line) → Grown head past → Noted head past → Holds Closes (printed past)
closes head past g n =
    holds_due head Closes (λ past. Unit {0}) (λ l past k. k) (Left head) (λ past l later g f. left_then head past l later g f)
    (λ past l later a g k f. closes_at head past l later a g f) past [] g tt
    (rest_none head past [] n, start past, left_none head past n)
  where
    start : (p : List Line) → Follows p []
    start [] = tt
    start (l ∷ p) = (tt, tt)
