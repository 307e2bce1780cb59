-- What a close decides by the laws is what its outcome decides by the story: the numbers that it keeps, and who leaves and why. Its lines
-- follow it in
-- the turn.
use Rattle.std.proofs.Common.{◌≡◌, ℕ, zero, suc, ◌<◌, ◌≤◌, Bool, true, false, List, [], ◌∷◌, ◌++◌, Option, Some, None, ◌⊎◌, inl, inr}
use Rattle.std.proofs.Common.{⊎_elim, refl, sym, subst, ap, ◌∙◌, arith, reverse}
use mathlib.Core.List.{reverse_aux}
use Rattle.std.specs.Prelude.{nat_eq, not, ◌&&◌, ◌||◌, if◌then◌else◌, map}
use Rattle.std.specs.Bool.{then_some}
use Rattle.std.proofs.lemmas.Bool.{and_parts, or_parts, or_cases, not-true, not-false, not_from_false, true≢false, or_right, or_left}
use Rattle.lu_base.specs.declared.ids.At.{At}
use Rattle.lu_base.specs.declared.ids.Node.{Node}
use Rattle.lu_base.specs.declared.ids.Node.TheVariants.{Target}
use Rattle.lu_base.specs.declared.ids.Stamp.{Stamp}
use Rattle.lu_base.specs.declared.ids.Who.{Who}
use Rattle.lu_base.specs.declared.locks.Cause.{Cause}
use Rattle.lu_base.specs.declared.locks.Cause.TheVariants.{Absent, Gap}
use Rattle.lu_base.specs.declared.locks.Lock.{Lock}
use Rattle.lu_msg.specs.declared.messages.Message.{Message}
use Rattle.lu_msg.specs.declared.messages.Reply.{Reply as ReplyTo}
use Rattle.lu_trace.specs.declared.entries.Entry.{Entry as PrintedEntry}
use Rattle.lu_trace.specs.declared.entries.Entry.TheVariants as trace
use Rattle.lu_trace.specs.declared.entries.Line.{Line as PrintedLine}
use Rattle.lu_spec_machine.specs.Footprint.{Every}
use Rattle.lu_spec_entries.specs.Carried.{Deed, Flight, Gone, Outcome}
use Rattle.lu_spec_entries.specs.Words.{Entry, Take, Close, Kept, Evict, Line, line, same_life}
use Rattle.lu_spec_entries.specs.Concerns.{concerns, only}
use Rattle.lu_spec_entries.specs.Printed.{printed_entry, printed}
use Rattle.lu_spec_target.specs.Recovery.{kept_lines, restore_lines}
use Rattle.lu_spec_target.specs.Windows as window
use Rattle.lu_proof_lawful.specs.Covered.TargetStates.{server_of, lives_of, window_of}
use Rattle.lu_proof_lawful.specs.Covered.TargetCloses as story
use Rattle.lu_proof_lawful.specs.Covered.TargetCloses.{shows_evicted, shows_ready, shows_joined, staying, shows, closing_of}
use Rattle.lu_proof_lawful.specs.Covered.Heads.{Head}
use Rattle.lu_spec_laws.specs.Words.Pasts.{Past, same_turn, or_else}
use Rattle.lu_spec_laws.specs.Words.Scopes.{any_in}
use Rattle.lu_spec_laws.specs.Words.Boots.{committed, is_recovering}
use Rattle.lu_spec_laws.specs.Words.Lives.{is_evicted}
use Rattle.lu_spec_laws.specs.Words.Slots.{has_joined, has_slot, first_lives, joined_step, joined_lives, slots}
use Rattle.lu_spec_laws.specs.Words.Handed.{is_back, has_newer}
use Rattle.lu_spec_laws.specs.Words.Learned.{heard_number, saw}
use Rattle.lu_spec_laws.specs.Words.Lost.{Transaction, transactions, is_among, undecided, lost_numbers, is_replayable, is_lost}
use Rattle.lu_spec_laws.specs.Words.Closes.{lost_at, kept_at, rests_on, cause_at, is_kept, evicts_for, will_keep}
use Rattle.lu_spec_laws.specs.Laws.Recovery.{is_take, Evicts, AllBack}
use Rattle.lu_proof_lawful.proofs.Preconditions.Guards.{In, InTurn, IsTake}
use Rattle.lu_proof_lawful.proofs.Preconditions.StoryGuards.{CloseOk}
use Rattle.lu_proof_lawful.proofs.Preconditions.Grown.{Allowed, Grown}
use Rattle.lu_proof_lawful.proofs.Preconditions.ClientLocks.{in_map, in_mapped, any_true, any_passes}
use Rattle.lu_proof_lawful.proofs.Preconditions.Lists.{self, in_append, in_filter, in_filtered, life_is, life_self, in_left}
use Rattle.lu_proof_lawful.proofs.Preconditions.LifeLists.{stands_life}
use Rattle.lu_proof_lawful.proofs.Preconditions.Only.{grown_of}
use Rattle.lu_proof_lawful.proofs.Preconditions.ClientRests.{in_reverse}
use Rattle.lu_proof_lawful.proofs.Invariants.Groups.{turn, HeardAs, HoldsAt}
use Rattle.lu_proof_lawful.proofs.Invariants.TargetGroups.{Acted, SawIn, HasSlot, Evicted, IsMade, Stands}
use Rattle.lu_proof_lawful.proofs.Invariants.Keeps.{saw_done}
use Rattle.lu_proof_lawful.proofs.Invariants.All.{holds}
use Rattle.lu_proof_lawful.proofs.Invariants.Exact as exact
use Rattle.lu_proof_lawful.proofs.Invariants.Exact.{kept_then, committed_then}
use Rattle.lu_proof_lawful.proofs.Invariants.ExactLists.{bool_same, has_in}
use Rattle.lu_proof_lawful.proofs.Invariants.PartsStay.{in_every}
use Rattle.lu_proof_lawful.proofs.Laws.Turns.{same_turn_is}
use Rattle.lu_proof_lawful.proofs.Laws.Taking.{recovering_is, opens}
use Rattle.lu_proof_lawful.proofs.Laws.CloseLines.{PrintsAs, StandFirst, turned, first, any_turned, next_turned, stands_any, stands_first}
use Rattle.lu_proof_lawful.proofs.Laws.CloseSlots.{joins_are, joins_had, evicted_now, now_slot, recovering_none}
use Rattle.lu_proof_lawful.proofs.Laws.Backs.{window_law, law_window}
use Rattle.lu_proof_lawful.proofs.Laws.OneWord.{one_told}
use Rattle.lu_proof_lawful.proofs.Laws.CloseHeard.{number_law, law_number, saw_law, law_saw}
use Rattle.lu_proof_lawful.proofs.Laws.CloseLost.{trans, all_trans, in_among, among_in, lost_some}
use Rattle.lu_proof_lawful.proofs.Laws.CloseNewer.{newer_is}
use Rattle.lu_proof_lawful.proofs.Laws.LostNumbers as numbers
use Rattle.lu_proof_lawful.proofs.Laws.LostNumbers.{lost_at as lost_before}

-- ---- lists

in_onto : {A : Type 0} (x : A) (xs ys : List A) → In x (reverse_aux xs ys) → In x xs ⊎ In x ys
in_onto x [] ys i = inr i
in_onto {A} x (y ∷ xs) ys i = ⊎_elim (λ (j : In x xs). inl (inr j))
    (λ (j : In x (y ∷ ys)). ⊎_elim (λ (q : y ≡ x). inl (inl q)) (λ (q : In x ys). inr q) j) (in_onto x xs (y ∷ ys) i)

onto_in : {A : Type 0} (x : A) (xs ys : List A) → In x xs ⊎ In x ys → In x (reverse_aux xs ys)
onto_in x [] ys (inl i) = absurd i
onto_in x [] ys (inr i) = i
onto_in x (y ∷ xs) ys (inl (inl q)) = onto_in x xs (y ∷ ys) (inr (inl q))
onto_in x (y ∷ xs) ys (inl (inr i)) = onto_in x xs (y ∷ ys) (inl i)
onto_in x (y ∷ xs) ys (inr i) = onto_in x xs (y ∷ ys) (inr (inr i))

trans_in : (ds : List Deed) (d : Deed) → In d ds → In (trans d) (all_trans ds)
trans_in [] d i = absurd i
trans_in (x ∷ ds) d (inl q) = inl (ap trans q)
trans_in (x ∷ ds) d (inr i) = inr (trans_in ds d i)

in_trans : (ds : List Deed) (x : Transaction) → In x (all_trans ds) → (d : Deed) × In d ds × (trans d ≡ x)
in_trans [] x i = absurd i
in_trans (d ∷ ds) x (inl q) = (d, inl refl, q)
in_trans (d ∷ ds) x (inr i) = let r = in_trans ds x i in (r.0, inr r.1, r.2)

-- ---- the first of several lists that says something

pub first_pass : {A B : Type 0} (f : A → Option B) (xs ys : List A) → first f xs ≡ None → first f (xs ++ ys) ≡ first f ys
first_pass f [] ys e = refl
first_pass {A} {B} f (x ∷ xs) ys e = by (f x) e (first_pass f xs ys)
  where
    by : (o : Option B) → or_else o (first f xs) ≡ None → (first f xs ≡ None → first f (xs ++ ys) ≡ first f ys)
        → or_else o (first f (xs ++ ys)) ≡ first f ys
    by None e h = h e
    by (Some b) e h = absurd (cc)

pub first_stop : {A B : Type 0} (f : A → Option B) (xs ys : List A) (b : B) → first f xs ≡ Some b → first f (xs ++ ys) ≡ Some b
first_stop f [] ys b e = absurd (cc)
first_stop {A} {B} f (x ∷ xs) ys b e = by (f x) e (first_stop f xs ys b)
  where
    by : (o : Option B) → or_else o (first f xs) ≡ Some b → (first f xs ≡ Some b → first f (xs ++ ys) ≡ Some b)
        → or_else o (first f (xs ++ ys)) ≡ Some b
    by None e h = h e
    by (Some c) e h = e

-- ---- what printed entries say

abbrev pub says_of : {A : Type 0} → (PrintedEntry → Option A) → Option PrintedEntry → Option A
says_of f None = None
says_of f (Some k) = f k

pub prints_says : {A : Type 0} (f : PrintedEntry → Option A) (h : Entry → Option A)
    → ((m : ℕ) (e : Entry) → says_of f (printed_entry m e) ≡ h e) → (e : Entry) (k : PrintedEntry) → PrintsAs e k → f k ≡ h e
prints_says f h is e k p = sym (ap (says_of f) p.1) ∙ is p.0 e

-- ---- lines that show who leaves

abbrev evicts_here : Who → Entry → Option Cause
evicts_here who (Evict other cause) = then_some (same_life other who) cause
evicts_here who _ = None

evicts_as : (who : Who) (m : ℕ) (e : Entry) → says_of (evicts_for who) (printed_entry m e) ≡ evicts_here who e
evicts_as who m (Evict other cause) = refl
evicts_as who m e = refl

kept_none : (who : Who) (ds : List Deed) → first (evicts_here who) (kept_lines ds) ≡ None
kept_none who [] = refl
kept_none who (d ∷ ds) = kept_none who ds

restore_none : (who : Who) (ls : List Lock) → first (evicts_here who) (restore_lines ls) ≡ None
restore_none who [] = refl
restore_none who (l ∷ ls) = restore_none who ls

evict_first : (o : Outcome) (who : Who) (cause : Cause) (gone : List Gone) → In (record { who = who; cause = cause }) gone
    → ((g : Gone) → In g gone → g.who ≡ who → g.cause ≡ cause) → first (evicts_here who) (shows_evicted o gone) ≡ Some cause
evict_first o who cause [] i one = absurd i
evict_first o who cause (g ∷ gone) i one = by (same_life g.who who) refl i (λ j. evict_first o who cause gone j (λ x k. one x (inr k)))
  where
    by : (b : Bool) → same_life g.who who ≡ b → In (record { who = who; cause = cause }) (g ∷ gone)
        → (In (record { who = who; cause = cause }) gone → first (evicts_here who) (shows_evicted o gone) ≡ Some cause)
        → or_else (then_some b g.cause) (first (evicts_here who) (shows_evicted o gone)) ≡ Some cause
    by true e i h = ap (λ (c : Cause). Some c) (one g (inl refl) (life_is g.who who e))
    by false e (inl q) h = absurd (true≢false (sym (subst (λ (w : Who). same_life w who ≡ true) (sym (ap (λ (x : Gone). x.who) q))
        (life_self who)) ∙ e))
    by false e (inr j) h = h j

shows_cause : (o : Outcome) (lives : List Who) (who : Who) (cause : Cause) → In (record { who = who; cause = cause }) o.gone
    → ((g : Gone) → In g o.gone → g.who ≡ who → g.cause ≡ cause) → first (evicts_here who) (shows o lives) ≡ Some cause
shows_cause o lives who cause i one =
    let rest : List Entry = shows_ready o (staying o lives) ++ shows_joined o o.joins in
    first_pass (evicts_here who) (kept_lines o.kept) (restore_lines o.locks ++ (shows_evicted o o.gone ++ rest)) (kept_none who o.kept)
    ∙ first_pass (evicts_here who) (restore_lines o.locks) (shows_evicted o o.gone ++ rest) (restore_none who o.locks)
    ∙ first_stop (evicts_here who) (shows_evicted o o.gone) rest cause (evict_first o who cause o.gone i one)

-- ---- lines that show what is kept

kept_prints : (n : ℕ) (k : PrintedEntry) → PrintsAs (Kept (record { 0 = n })) k → is_kept n k ≡ true
kept_prints n k p = subst (λ (x : PrintedEntry). is_kept n x ≡ true) (some_is (trace.Kept (record { 0 = n })) k p.1) (self n)
  where
    some_is : (a b : PrintedEntry) → Some a ≡ Some b → a ≡ b
    some_is a b e = cc

kept_among : (n : ℕ) (ds : List Deed) → In n (map {A = Deed} {B = ℕ} (λ d. d.reply.txn.0) ds) → In (Kept (record { 0 = n })) (kept_lines ds)
kept_among n [] i = absurd i
kept_among n (d ∷ ds) (inl q) = inl (ap (λ (m : ℕ). Kept (record { 0 = m })) q)
kept_among n (d ∷ ds) (inr i) = inr (kept_among n ds i)

-- ---- a take of the turn

take_in : (head : Head) (t : ℕ) (past : List Line) (at : At) → Grown head past → at.node ≡ Target t → any_in is_take at (printed past)
    ≡ true → InTurn IsTake (only t past) at
take_in head t [] at g n e = absurd (cc)
take_in head t (l ∷ past) at g n e = by l.entry e (take_in head t past at g.1 n)
  where
    P : List Line
    P = only t past

    more : (x : Entry) (b : Bool) → InTurn IsTake P at → InTurn IsTake (if b then line l.at x ∷ P else P) at
    more x true i = inr i
    more x false i = i

    now : (m : ℕ) (from : Node) (k : Message) → same_turn l.at at ≡ true → InTurn IsTake (only t (line l.at (Take m from k) ∷ past)) at
    now m from k s =
        let same : l.at ≡ at = same_turn_is l.at at s in
        subst (λ (b : Bool). InTurn IsTake (if b then line l.at (Take m from k) ∷ P else P) at)
        (sym (ap (λ (v : Node). concerns t v (Take m from k)) (ap (λ (v : At). v.node) same ∙ n) ∙ self t)) (inl (same, tt))

    by : (x : Entry) → any_in is_take at (printed (line l.at x ∷ past)) ≡ true
        → (any_in is_take at (printed past) ≡ true → InTurn IsTake P at) → InTurn IsTake (only t (line l.at x ∷ past)) at
    by (Take m from k) e h = of (same_turn l.at at) refl e
      where
        of : (b : Bool) → same_turn l.at at ≡ b → (b || any_in is_take at (printed past)) ≡ true
            → InTurn IsTake (only t (line l.at (Take m from k) ∷ past)) at
        of true q e = now m from k q
        of false q e = more (Take m from k) (concerns t l.at.node (Take m from k)) (h e)
    by x e h = more x (concerns t l.at.node x) (h e)

settled_each : (v : window.Window) (lives : List Who) (who : Who) → window.all_settled v lives ≡ true → In who lives
    → (window.is_back v who || window.is_left v who) ≡ true
settled_each v [] who e i = absurd i
settled_each v (x ∷ lives) who e i =
    let p = and_parts (window.is_back v x || window.is_left v x) (window.all_settled v lives) e in
    ⊎_elim (λ (q : x ≡ who). subst (λ (w : Who). (window.is_back v w || window.is_left v w) ≡ true) q p.0)
    (λ (j : In who lives). settled_each v lives who p.1 j) i

-- ---- lives with a slot

first_low : (n : ℕ) (who : Who) → In who (first_lives n) → who.client < n
first_low zero who i = absurd i
first_low (suc n) who (inl q) = let c : n ≡ who.client = ap (λ (w : Who). w.client) q in omega (arith, c)
first_low (suc n) who (inr i) = let lt = first_low n who i in omega (arith, lt)

joined_in : (t : ℕ) (past : Past) (who : Who) → In who (joined_lives t past) → has_joined t past who ≡ true
joined_in t [] who i = absurd i
joined_in t (l ∷ past) who i = by l.entry i (joined_in t past who)
  where
    own : (o : Who) (b : Bool) → In who (if b then o ∷ joined_lives t past else joined_lives t past)
        → (In who (joined_lives t past) → has_joined t past who ≡ true) → ((same_life o who && b) || has_joined t past who) ≡ true
    own o true (inl q) h = ap (λ (b : Bool). (b && true) || has_joined t past who)
        (subst (λ (w : Who). same_life o w ≡ true) q (life_self o))
    own o true (inr j) h = or_right (same_life o who && true) (has_joined t past who) (h j)
    own o false j h = or_right (same_life o who && false) (has_joined t past who) (h j)

    by : (e : PrintedEntry) → In who (joined_step t (record { at = l.at; entry = e }) (joined_lives t past))
        → (In who (joined_lives t past) → has_joined t past who ≡ true) → has_joined t (record { at = l.at; entry = e } ∷ past) who ≡ true
    by (trace.Joined o) i h = own o _ i h
    by e i h = h i

-- ---- at a close

module _ (clients : ℕ) (head : Head) (t : ℕ) (past : List Line) (stamp : Stamp) (o : Outcome) (here : nat_eq t t ≡ true)
    (k : Allowed head past (turn stamp (Target t)) (Close o)) (g : Grown head past) (few : clients ≤ head.clients) where
  ok : CloseOk head (only t past) (turn stamp (Target t)) o
  ok = k.of t here

  h : HoldsAt head (only t past)
  h = (holds head past g).at t

  abbrev pub deciding : window.Window
  deciding = window_of head.osts head.clients (only t past)

  before : (d : Deed) → Acted (only t past) d → IsMade d → is_lost (printed past) t d.reply.txn.0
      ≡ story.is_lost head.osts (only t past) d.reply.txn.0
  before = lost_before head t past g

  abbrev lost : List ℕ
  lost = lost_at t (printed past)

  abbrev gone : ℕ → Bool
  gone n = exact.lost head (only t past) ok.recovers h (turn stamp (Target t)) n

  none : closing_of head.clients (only t past) ≡ []
  none = recovering_none head (only t past) (grown_of head t past g) ok.recovers

  newer : (who : Who) → HasSlot head.clients (only t past) who → has_newer t (printed past) who ≡ window.is_left deciding who
  newer who has = newer_is head t past g ok.recovers (numbers.none_noted head t past stamp o here k g before) who has

  -- ---- numbers

  lost_open : (d : Deed) → Acted (only t past) d → IsMade d → Stands head.osts (only t past) d → is_among lost d.reply.txn.0
      ≡ gone d.reply.txn.0
  lost_open d a made stands = numbers.loses_is head t past stamp o here k g before d a made stands
      ∙ ap (λ (v : Outcome). story.loses (committed_then head (only t past)) v d.reply.txn.0) ok.is

  -- a number that it loses is that of a transaction that stood, and isn't kept
  lost_gone : (n : ℕ) → In n lost → gone n ≡ true
  lost_gone n i =
      let ds = numbers.ds head t past stamp o here k g before in
      let r = lost_some (is_replayable t (printed past)) ds n (ap (λ (ns : List ℕ). is_among ns n)
      (sym (numbers.law_loses head t past stamp o here k g before)) ∙ in_among lost n i) in
      let d = numbers.in_open head t past stamp o here k g before r.0 r.1 in
      subst (λ (m : ℕ). gone m ≡ true) r.2 (sym (lost_open r.0 d.0 d.1 d.2)
      ∙ in_among lost r.0.reply.txn.0 (subst (λ (m : ℕ). In m lost) (sym r.2) i))

  gone_lost : (d : Deed) → Acted (only t past) d → IsMade d → Stands head.osts (only t past) d → gone d.reply.txn.0 ≡ true
      → In d.reply.txn.0 lost
  gone_lost d a made stands e = among_in lost d.reply.txn.0 (lost_open d a made stands ∙ e)

  -- ---- what it keeps

  pub kept_shown : (n : ℕ) → In n (kept_at t (printed past)) → In (Kept (record { 0 = n })) (kept_lines o.kept)
  kept_shown n i =
      let f = in_filter (λ (m : ℕ). not (is_among lost m)) n _ i in
      let x = in_map (λ (x : Transaction). x.number) n (reverse
      (undecided (committed t (printed past)) (lost_numbers t (printed past)) (transactions t (printed past)))) f.0 in
      let y = in_trans (numbers.ds head t past stamp o here k g before) x.0
      (subst (λ (xs : List Transaction). In x.0 xs) (numbers.undecided_now head t past stamp o here k g before)
      (in_reverse x.0 (undecided (committed t (printed past)) (lost_numbers t (printed past)) (transactions t (printed past))) x.1)) in
      let d = numbers.in_open head t past stamp o here k g before y.0 y.1 in
      let number : y.0.reply.txn.0 ≡ n = ap (λ (v : Transaction). v.number) y.2 ∙ x.2 in
      let stays : gone y.0.reply.txn.0 ≡ false = sym (lost_open y.0 d.0 d.1 d.2) ∙ ap (is_among lost) number
      ∙ not-true (is_among lost n) f.1 in
      let kept : window.has_number y.0.reply.txn.0 (kept_then head (only t past)) ≡ true =
      back (window.has_number y.0.reply.txn.0 (kept_then head (only t past)))
      (sym stays ∙ exact.lost_is head (only t past) ok.recovers h (turn stamp (Target t)) y.0 d.0 d.1 d.3) in
      let among : In y.0.reply.txn.0 (story.kept_numbers (story.outcome_of head.osts head.clients (turn stamp (Target t)) (only t past))) =
      has_in y.0.reply.txn.0 (story.kept_numbers (story.outcome_of head.osts head.clients (turn stamp (Target t)) (only t past)))
      (exact.kept_same head (only t past) ok.recovers h (turn stamp (Target t)) y.0.reply.txn.0 ∙ kept) in
      kept_among n o.kept (subst (λ (v : Outcome). In n (story.kept_numbers v)) (sym ok.is)
      (subst (λ (m : ℕ). In m (story.kept_numbers (story.outcome_of head.osts head.clients (turn stamp (Target t)) (only t past))))
      number among))
    where
      back : (b : Bool) → false ≡ not b → b ≡ true
      back true e = refl
      back false e = absurd (cc)

  -- and the other way round
  pub shown_kept : (n : ℕ) → window.has_number n (kept_then head (only t past)) ≡ true → In n (kept_at t (printed past))
  shown_kept n q =
      let m = exact.kept_made head (only t past) ok.recovers h n q in
      let d : Deed = m.0 in
      let above : committed_then head (only t past) < d.reply.txn.0 = subst (λ (v : ℕ). committed_then head (only t past) < v) (sym m.2) m.3
      in
      let stays : gone d.reply.txn.0 ≡ false = exact.kept_stays head (only t past) ok.recovers h (turn stamp (Target t)) d.reply.txn.0
      (subst (λ (v : ℕ). window.has_number v (kept_then head (only t past)) ≡ true) (sym m.2) q) in
      let out : is_among lost n ≡ false = ap (is_among lost) (sym m.2) ∙ lost_open d m.1.acted m.1.made m.1.stands ∙ stays in
      let there : In (trans d) (undecided (committed t (printed past)) (lost_numbers t (printed past)) (transactions t (printed past))) =
      subst (λ (xs : List Transaction). In (trans d) xs) (sym (numbers.undecided_now head t past stamp o here k g before))
      (trans_in (numbers.ds head t past stamp o here k g before) d
      (numbers.open_in head t past stamp o here k g before d m.1.acted m.1.made m.1.stands above))
      in
      in_filtered (λ (v : ℕ). not (is_among lost v)) n _
      (subst (λ (v : ℕ). In v (map {A = Transaction} {B = ℕ} (λ (x : Transaction). x.number)
      (reverse (undecided (committed t (printed past)) (lost_numbers t (printed past)) (transactions t (printed past)))))) m.2
      (in_mapped (λ (x : Transaction). x.number) (trans d) (reverse
      (undecided (committed t (printed past)) (lost_numbers t (printed past)) (transactions t (printed past))))
      (onto_in (trans d) (undecided (committed t (printed past)) (lost_numbers t (printed past)) (transactions t (printed past))) []
      (inl there))))
      (not_from_false (is_among lost n) out)

  -- ---- who leaves

  pub back_is : (who : Who) → is_back t (printed past) who ≡ window.is_back deciding who
  back_is who =
      let due = numbers.none_noted head t past stamp o here k g before in
      bool_same (is_back t (printed past) who) (window.is_back deciding who)
      (λ e. law_window head t past g ok.recovers None due (one_told head t past g) who e)
      (λ e. window_law head t past g ok.recovers None due who e)

  abbrev Leaves : Who → Cause → Type 0
  Leaves who cause = exact.LeavesFor head (only t past) ok.recovers h (turn stamp (Target t)) who cause

  abbrev Rests : Who → Type 0
  Rests who = exact.HeardLost head (only t past) ok.recovers h (turn stamp (Target t)) who

  -- it rests on what is lost
  rests_law : (who : Who) → HasSlot head.clients (only t past) who → Rests who → rests_on t (printed past) who lost ≡ true
  rests_law who has = ⊎_elim (λ r. of_number r.0 r.1 r.2 r.3) (λ s. of_seen s.0 s.1 s.2)
    where
      at_one : (n : ℕ) → In n lost → (heard_number t who n (printed past) || saw t who n (printed past)) ≡ true
          → rests_on t (printed past) who lost ≡ true
      at_one n i e = any_passes (λ (m : ℕ). heard_number t who m (printed past) || saw t who m (printed past)) n lost i e

      of_number : (f : Flight) (r : ReplyTo) → HeardAs (only t past) who f r → gone r.txn.0 ≡ true → rests_on t (printed past) who lost
          ≡ true
      of_number f r j e =
          let d = h.done.answered who f r j in
          let number : r.txn.0 ≡ d.0.reply.txn.0 = ap (λ (x : ReplyTo). x.txn.0) d.2 in
          let above = (exact.lost_parts head (only t past) ok.recovers h (turn stamp (Target t)) r.txn.0 e).0 in
          let made : IsMade d.0 = omega (arith, above, number) in
          let i : In d.0.reply.txn.0 lost =
          gone_lost d.0 d.1 made (subst (λ (n : ℕ). story.is_lost head.osts (only t past) n ≡ false) number
          (h.history.heard who f r j has).0) (subst (λ (n : ℕ). gone n ≡ true) number e)
          in
          at_one d.0.reply.txn.0 i (or_left (heard_number t who d.0.reply.txn.0 (printed past)) (saw t who d.0.reply.txn.0 (printed past))
          (number_law t who d.0.reply.txn.0 head past g f r j number))

      of_seen : (n : ℕ) → SawIn (only t past) who n → gone n ≡ true → rests_on t (printed past) who lost ≡ true
      of_seen n j e =
          let above = (exact.lost_parts head (only t past) ok.recovers h (turn stamp (Target t)) n e).0 in
          ⊎_elim
          (λ (le : n ≤ (server_of head.osts (only t past)).committed.0). absurd (omega (arith, above, le)))
          (λ (d : (d : Deed) × Acted (only t past) d × IsMade d × (d.reply.txn.0 ≡ n)).
          let i : In n lost = subst (λ (m : ℕ). In m lost) d.3 (gone_lost d.0 d.1 d.2
          (subst (λ (m : ℕ). story.is_lost head.osts (only t past) m ≡ false) (sym d.3) (h.history.held who n j has))
          (subst (λ (m : ℕ). gone m ≡ true) (sym d.3) e)) in
          at_one n i (or_right (heard_number t who n (printed past)) (saw t who n (printed past)) (saw_law n t who head past g j)))
          (saw_done head (only t past) h who n j)

  law_rests : (who : Who) → rests_on t (printed past) who lost ≡ true → Rests who
  law_rests who e =
      let a = any_true (λ (n : ℕ). heard_number t who n (printed past) || saw t who n (printed past)) lost e in
      let out = lost_gone a.0 a.1 in
      ⊎_elim
      (λ (x : heard_number t who a.0 (printed past) ≡ true). let r = law_number t who a.0 head past g x
      in inl (r.0, r.1, r.2, subst (λ (n : ℕ). gone n ≡ true) (sym r.3) out))
      (λ (x : saw t who a.0 (printed past) ≡ true). inr (a.0, law_saw a.0 t who head past g x, out))
      (or_cases (heard_number t who a.0 (printed past)) (saw t who a.0 (printed past)) a.2)

  abbrev away : Who → Bool
  away who = not (window.is_back deciding who) || window.is_left deciding who

  cause_is : (who : Who) → HasSlot head.clients (only t past) who → cause_at t (printed past) who
      ≡ (if away who then Some Absent else (if rests_on t (printed past) who lost then Some Gap else None))
  cause_is who has =
      ap (λ (b : Bool). if not b || has_newer t (printed past) who then Some Absent
      else (if rests_on t (printed past) who lost then Some Gap else None)) (back_is who)
      ∙ ap (λ (b : Bool). if not (window.is_back deciding who) || b then Some Absent
      else (if rests_on t (printed past) who lost then Some Gap else None)) (newer who has)

  law_leaves : (who : Who) (cause : Cause) → HasSlot head.clients (only t past) who → cause_at t (printed past) who ≡ Some cause
      → Leaves who cause
  law_leaves who cause has e = by (away who) (rests_on t (printed past) who lost) refl refl (sym (cause_is who has) ∙ e)
    where
      by : (a b : Bool) → away who ≡ a → rests_on t (printed past) who lost ≡ b
          → (if a then Some Absent else (if b then Some Gap else None)) ≡ Some cause → Leaves who cause
      by true b p q e = let c : Absent ≡ cause = cc in subst (λ (v : Cause). Leaves who v) c p
      by false true p q e =
          let c : Gap ≡ cause = cc in
          let r = or_parts (not (window.is_back deciding who)) (window.is_left deciding who) p in
          subst (λ (v : Cause). Leaves who v) c (not-false (window.is_back deciding who) r.0, r.1, law_rests who q)
      by false false p q e = absurd (cc)

  leaves_law : (who : Who) (cause : Cause) → HasSlot head.clients (only t past) who → Leaves who cause → cause_at t (printed past) who
      ≡ Some cause
  leaves_law who Absent has l = cause_is who has ∙ ap (λ (b : Bool). if b then Some Absent
      else (if rests_on t (printed past) who lost then Some Gap else None)) l
  leaves_law who Gap has l =
      cause_is who has
      ∙ ap (λ (b : Bool). if b then Some Absent else (if rests_on t (printed past) who lost then Some Gap else None))
      (neither (window.is_back deciding who) (window.is_left deciding who) l.0 l.1)
      ∙ ap (λ (b : Bool). if b then Some Gap else None) (rests_law who has l.2)
    where
      neither : (a b : Bool) → a ≡ true → b ≡ false → (not a || b) ≡ false
      neither true b e f = f
      neither false b e f = absurd (cc)
  leaves_law who _ has l = absurd l

  -- who leaves by the outcome, and why
  pub gone_law : (x : Gone) → In x o.gone → HasSlot head.clients (only t past) x.who × (cause_at t (printed past) x.who ≡ Some x.cause)
  gone_law x i =
      let r = exact.gone_is head (only t past) ok.recovers h (turn stamp (Target t)) x (subst (λ (v : Outcome). In x v.gone) ok.is i) in
      (r.0, leaves_law x.who x.cause r.0 r.1)

  pub law_gone : (who : Who) (cause : Cause) → HasSlot head.clients (only t past) who → cause_at t (printed past) who ≡ Some cause
      → In (record { who = who; cause = cause }) o.gone
  law_gone who cause has e =
      subst (λ (v : Outcome). In (record { who = who; cause = cause }) v.gone) (sym ok.is)
      (exact.is_gone head (only t past) ok.recovers h (turn stamp (Target t)) who cause has (law_leaves who cause has e))

  pub slots_have : (who : Who) → In who (slots clients t (printed past)) → HasSlot head.clients (only t past) who
  slots_have who i =
      let f = in_filter (has_slot t (printed past)) who (first_lives clients ++ joined_lives t (printed past)) i in
      ⊎_elim
      (λ (j : In who (first_lives clients)). now_slot head t past g none who f.1
      (let lt = first_low clients who j in omega (arith, lt, few)))
      (λ (j : In who (joined_lives t (printed past))). ⊎_elim
      (λ (x : HasSlot head.clients (only t past) who). x)
      (λ (x : Evicted (only t past) who). absurd (out (is_evicted t (printed past) who)
      (and_parts _ (not (is_evicted t (printed past) who)) f.1).1 (evicted_now head t past g none who x)))
      (joins_had head (only t past) (grown_of head t past g) who (sym (joins_are t past who) ∙ joined_in t (printed past) who j)))
      (in_append who (first_lives clients) (joined_lives t (printed past)) f.0)
    where
      out : (b : Bool) → not b ≡ true → b ≡ true → ⊥
      out true e q = absurd (cc)
      out false e q = absurd (cc)

  -- ---- its lines follow

  module _ (later : List PrintedLine) (rest : StandFirst (shows o (lives_of head.clients (only t past)))
      (turned (turn stamp (Target t)) later)) where
    pub keeps : Every (λ n. will_keep (turn stamp (Target t)) later n ≡ true) (kept_at t (printed past))
    keeps = in_every (λ n. will_keep (turn stamp (Target t)) later n ≡ true) (kept_at t (printed past)) (λ n i.
        any_turned (is_kept n) (turn stamp (Target t)) later
        ∙ stands_any (is_kept n) (Kept (record { 0 = n })) (kept_prints n) (shows o (lives_of head.clients (only t past)))
        (turned (turn stamp (Target t)) later) rest (inr (in_left (Kept (record { 0 = n })) (kept_lines o.kept) _ (kept_shown n i))))

    evicts_one : (who : Who) → HasSlot head.clients (only t past) who → (c : Option Cause) → cause_at t (printed past) who ≡ c
        → Evicts (turn stamp (Target t)) later who c
    evicts_one who has None e = tt
    evicts_one who has (Some cause) e =
        next_turned (evicts_for who) (turn stamp (Target t)) later
        ∙ stands_first (evicts_here who) (evicts_for who) (prints_says (evicts_for who) (evicts_here who) (evicts_as who))
        (shows o (lives_of head.clients (only t past))) (turned (turn stamp (Target t)) later) cause rest
        (shows_cause o (lives_of head.clients (only t past)) who cause (law_gone who cause has e) (λ x i q. one x (gone_law x i) q))
      where
        one : (x : Gone) → HasSlot head.clients (only t past) x.who × (cause_at t (printed past) x.who ≡ Some x.cause) → x.who ≡ who
            → x.cause ≡ cause
        one x r q = let s : Some x.cause ≡ Some cause = sym r.1 ∙ ap (cause_at t (printed past)) q ∙ e in cc

    pub evicts : Every (λ who. Evicts (turn stamp (Target t)) later who (cause_at t (printed past) who)) (slots clients t (printed past))
    evicts = in_every (λ who. Evicts (turn stamp (Target t)) later who (cause_at t (printed past) who)) (slots clients t (printed past))
        (λ who i. evicts_one who (slots_have who i) (cause_at t (printed past) who) refl)

  -- ---- it comes when it may

  pub recovering : is_recovering t (printed past) ≡ true
  recovering = recovering_is head t past g ∙ (opens head (only t past) (grown_of head t past g)).opened ok.up ok.recovers

  pub all_back : any_in is_take (turn stamp (Target t)) (printed past) ≡ true → AllBack clients t (printed past)
  all_back e = in_every (λ who. (is_back t (printed past) who || has_newer t (printed past) who) ≡ true) (slots clients t (printed past))
      (λ who i.
      let has = slots_have who i in
      ap (λ (b : Bool). b || has_newer t (printed past) who) (back_is who)
      ∙ ap (λ (b : Bool). window.is_back deciding who || b) (newer who has)
      ∙ settled_each deciding (lives_of head.clients (only t past)) who (ok.settled (take_in head t past (turn stamp (Target t)) g refl e))
      (stands_life who (lives_of head.clients (only t past)) has))
