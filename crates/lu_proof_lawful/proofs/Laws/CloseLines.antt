-- What a close has still to show stands next, in its order, among the later lines of its turn.
use Rattle.std.proofs.Common.{◌≡◌, ℕ, ◌+◌, Bool, true, false, List, [], ◌∷◌, ◌++◌, Option, Some, None, inl, inr, ⊎_elim, refl, sym, subst}
use Rattle.std.proofs.Common.{ap, ◌∙◌}
use Rattle.std.specs.Prelude.{◌&&◌, ◌||◌, if◌then◌else◌}
use Rattle.std.specs.List.{list_any}
use Rattle.std.proofs.lemmas.Bool.{cond-true, cond-false, true≢false}
use Rattle.lu_base.specs.declared.ids.At.{At}
use Rattle.lu_base.specs.declared.ids.Node.{Node}
use Rattle.lu_base.specs.declared.ids.Node.TheVariants.{Client, Target}
use Rattle.lu_base.specs.declared.ids.Who.{Who}
use Rattle.lu_base.specs.declared.locks.Lock.{Lock}
use Rattle.lu_trace.specs.declared.entries.Entry.{Entry as PrintedEntry}
use Rattle.lu_trace.specs.declared.entries.Entry.TheVariants as trace
use Rattle.lu_trace.specs.declared.entries.Line.{Line as PrintedLine}
use Rattle.lu_spec_entries.specs.Carried.{Deed, Gone, Outcome}
use Rattle.lu_spec_entries.specs.Words.{Entry, Send, Commit, Close, Kept, Restore, Evict, Joined, Line, line}
use Rattle.lu_spec_entries.specs.Concerns.{concerns, only}
use Rattle.lu_spec_entries.specs.Sent.{count_sent}
use Rattle.lu_spec_entries.specs.Printed.{printed_entry}
use Rattle.lu_spec_target.specs.Recovery.{kept_lines, restore_lines}
use Rattle.lu_proof_lawful.specs.Covered.TargetCloses.{shows_evicted, shows_ready, shows_joined, staying, shows, but_first, closing_of}
use Rattle.lu_proof_lawful.specs.Covered.Heads.{Head}
use Rattle.lu_spec_laws.specs.Words.Pasts.{same_turn, or_else}
use Rattle.lu_spec_laws.specs.Words.Scopes.{only_here, next_in, any_later}
use Rattle.lu_proof_lawful.proofs.Preconditions.Guards.{In, IsTurnOf}
use Rattle.lu_proof_lawful.proofs.Preconditions.Grown.{Noted, Allowed}
use Rattle.lu_proof_lawful.proofs.Preconditions.Lists.{self, in_append}
use Rattle.lu_proof_lawful.proofs.Invariants.Groups.{turn}
use Rattle.lu_proof_lawful.proofs.Laws.Turns.{same_turn_is, same_turn_self}
use Rattle.lu_proof_lawful.proofs.Laws.Lines.{after_line}

-- ---- what a close shows

-- by such lines, which are all printed
abbrev pub IsShow : Entry → Type 0
IsShow (Commit to batch) = Unit {0}
IsShow (Kept number) = Unit {0}
IsShow (Restore lock) = Unit {0}
IsShow (Evict who cause) = Unit {0}
IsShow (Joined who) = Unit {0}
IsShow (Send to m) = Unit {0}
IsShow _ = ⊥

is_as : (e f : Entry) → e ≡ f → IsShow e → IsShow f
is_as e f q i = subst IsShow q i

kept_show : (ds : List Deed) (e : Entry) → In e (kept_lines ds) → IsShow e
kept_show [] e i = absurd i
kept_show (d ∷ ds) e (inl q) = is_as (Kept d.reply.txn) e q tt
kept_show (d ∷ ds) e (inr i) = kept_show ds e i

restore_show : (ls : List Lock) (e : Entry) → In e (restore_lines ls) → IsShow e
restore_show [] e i = absurd i
restore_show (l ∷ ls) e (inl q) = is_as (Restore l) e q tt
restore_show (l ∷ ls) e (inr i) = restore_show ls e i

evicted_show : (o : Outcome) (gone : List Gone) (e : Entry) → In e (shows_evicted o gone) → IsShow e
evicted_show o [] e i = absurd i
evicted_show o (g ∷ gone) e (inl q) = is_as (Evict g.who g.cause) e q tt
evicted_show o (g ∷ gone) e (inr (inl q)) = subst IsShow q tt
evicted_show o (g ∷ gone) e (inr (inr i)) = evicted_show o gone e i

ready_show : (o : Outcome) (lives : List Who) (e : Entry) → In e (shows_ready o lives) → IsShow e
ready_show o [] e i = absurd i
ready_show o (who ∷ lives) e (inl q) = subst IsShow q tt
ready_show o (who ∷ lives) e (inr i) = ready_show o lives e i

joined_show : (o : Outcome) (lives : List Who) (e : Entry) → In e (shows_joined o lives) → IsShow e
joined_show o [] e i = absurd i
joined_show o (who ∷ lives) e (inl q) = is_as (Joined who) e q tt
joined_show o (who ∷ lives) e (inr (inl q)) = subst IsShow q tt
joined_show o (who ∷ lives) e (inr (inr i)) = joined_show o lives e i

-- the parts of what is shown after the commit
pub record ShownBy (o : Outcome) (lives : List Who) (P : Entry → Type 0) : Type 0 where
  pub kept : (e : Entry) → In e (kept_lines o.kept) → P e
  pub restored : (e : Entry) → In e (restore_lines o.locks) → P e
  pub evicted : (e : Entry) → In e (shows_evicted o o.gone) → P e
  pub ready : (e : Entry) → In e (shows_ready o (staying o lives)) → P e
  pub joined : (e : Entry) → In e (shows_joined o o.joins) → P e

pub shown_parts : (o : Outcome) (lives : List Who) (P : Entry → Type 0) → ShownBy o lives P → (e : Entry) → In e (but_first (shows o lives))
    → P e
shown_parts o lives P by e i =
    let a : List Entry = kept_lines o.kept in
    let b : List Entry = restore_lines o.locks in
    let c : List Entry = shows_evicted o o.gone in
    let d : List Entry = shows_ready o (staying o lives) in
    let f : List Entry = shows_joined o o.joins in
    ⊎_elim (λ (j : In e a). by.kept e j)
    (λ (j : In e (b ++ (c ++ (d ++ f)))). ⊎_elim (λ (k : In e b). by.restored e k)
    (λ (k : In e (c ++ (d ++ f))). ⊎_elim (λ (m : In e c). by.evicted e m)
    (λ (m : In e (d ++ f)). ⊎_elim (λ (n : In e d). by.ready e n) (λ (n : In e f). by.joined e n) (in_append e d f m))
    (in_append e c (d ++ f) k))
    (in_append e b (c ++ (d ++ f)) j))
    (in_append e a (b ++ (c ++ (d ++ f))) i)

pub shows_show : (o : Outcome) (lives : List Who) (e : Entry) → In e (shows o lives) → IsShow e
shows_show o lives e (inl q) = subst IsShow q tt
shows_show o lives e (inr i) = shown_parts o lives IsShow (record {
  kept = kept_show o.kept;
  restored = restore_show o.locks;
  evicted = evicted_show o o.gone;
  ready = ready_show o (staying o lives);
  joined = joined_show o o.joins;
}) e i

pub closing_show : (clients : ℕ) (past : List Line) (e : Entry) → In e (closing_of clients past) → IsShow e
closing_show clients [] e i = absurd i
closing_show clients (l ∷ past) e i = by l.at.node l.entry i (closing_show clients past e)
  where
    rest : (es : List Entry) → In e (but_first es) → In e es
    rest [] j = j
    rest (x ∷ es) j = inr j

    by : (node : Node) (x : Entry) → In e (closing_of clients (line (turn l.at.stamp node) x ∷ past))
        → (In e (closing_of clients past) → IsShow e) → IsShow e
    by (Client c) x i h = h i
    by (Target t) (Close o) i h = shows_show o _ e i
    by (Target t) x i h = h (rest (closing_of clients past) i)

-- where a line that shows nothing comes, nothing is left
pub nothing_left : (head : Head) (past : List Line) (at : At) (e : Entry)
    → ((next : Entry) (more : List Entry) → closing_of head.clients past ≡ next ∷ more → (e ≡ next) × IsTurnOf past at) → (IsShow e → ⊥)
    → closing_of head.clients past ≡ []
nothing_left head past at e next n = by (closing_of head.clients past) refl
  where
    by : (es : List Entry) → closing_of head.clients past ≡ es → es ≡ []
    by [] q = refl
    by (x ∷ es) q = absurd (n (subst IsShow (sym (next x es q).0)
        (closing_show head.clients past x (subst (λ (v : List Entry). In x v) (sym q) (inl refl)))))

-- ---- what is printed of a turn after a line

abbrev pub turned : At → List PrintedLine → List PrintedEntry
turned at [] = []
turned at (k ∷ later) = if same_turn k.at at then k.entry ∷ turned at later else turned at later

-- it is what is printed of that entry, under some number
abbrev pub PrintsAs : Entry → PrintedEntry → Type 0
PrintsAs e k = (n : ℕ) × (printed_entry n e ≡ Some k)

-- these entries stand first
abbrev pub StandFirst : List Entry → List PrintedEntry → Type 0
StandFirst [] ks = Unit {0}
StandFirst (e ∷ es) [] = ⊥
StandFirst (e ∷ es) (k ∷ ks) = PrintsAs e k × StandFirst es ks

-- at each target what is left stands first in the rest of the turn
abbrev pub RestStands : Head → List Line → List PrintedLine → Type 0
RestStands head past later = (t : ℕ) (at : At) → at.node ≡ Target t → IsTurnOf (only t past) at
    → StandFirst (closing_of head.clients (only t past)) (turned at later)

pub rest_none : (head : Head) (past : List Line) (later : List PrintedLine) → Noted head past → RestStands head past later
rest_none head past later n t at node s = subst (λ (es : List Entry). StandFirst es (turned at later)) (sym (n.shown t)) tt

prints : (m : ℕ) (x : Entry) → IsShow x → (k : PrintedEntry) × (printed_entry m x ≡ Some k)
prints m (Commit to batch) i = (trace.Commit (record { 0 = to }), refl)
prints m (Kept number) i = (trace.Kept number, refl)
prints m (Restore lock) i = (trace.Restore lock, refl)
prints m (Evict who cause) i = (trace.Evict who cause, refl)
prints m (Joined who) i = (trace.Joined who, refl)
prints m (Send to message) i = (trace.Send m to message, refl)
prints m x i = absurd i

turned_on : (at : At) (l : Line) (o : Option PrintedEntry) (later : List PrintedLine) → same_turn l.at at ≡ false
    → turned at (after_line l o later) ≡ turned at later
turned_on at l None later e = refl
turned_on at l (Some k) later e = cond-false (same_turn l.at at) (k ∷ turned at later) (turned at later) e

pub rest_before : (head : Head) (l : Line) (past : List Line) (later : List PrintedLine) → Allowed head past l.at l.entry
    → RestStands head (l ∷ past) later → RestStands head past (after_line l (printed_entry (count_sent past + 1) l.entry) later)
rest_before head l past later a f t at node s = by (closing_of head.clients P) refl (concerns t l.at.node l.entry) refl (f t at node)
  where
    P : List Line
    P = only t past

    m : ℕ
    m = count_sent past + 1

    same_at : (p : List Line) → IsTurnOf p l.at → IsTurnOf p at → l.at ≡ at
    same_at [] u v = absurd u
    same_at (x ∷ p) u v = sym u ∙ v

    left : (on : Node) (x e : Entry) (es : List Entry) → on ≡ Target t → closing_of head.clients P ≡ e ∷ es → IsShow x
        → closing_of head.clients (line (turn l.at.stamp on) x ∷ P) ≡ es
    left (Client c) x e es n q i = absurd (cc)
    left (Target u) (Close o) e es n q i = absurd i
    left (Target u) x e es n q i = ap but_first q

    by : (es : List Entry) → closing_of head.clients P ≡ es → (b : Bool) → concerns t l.at.node l.entry ≡ b
        → (IsTurnOf (if b then l ∷ P else P) at → StandFirst (closing_of head.clients (if b then l ∷ P else P)) (turned at later))
        → StandFirst es (turned at (after_line l (printed_entry m l.entry) later))
    by [] q b c h = tt
    by (e ∷ es) q true c h =
        let k = a.shows t c e es q in
        let here : l.at ≡ at = same_at P k.1 s in
        let show : IsShow l.entry = subst IsShow (sym k.0) (closing_show head.clients P e
        (subst (λ (v : List Entry). In e v) (sym q) (inl refl))) in
        let p = prints m l.entry show in
        let after : StandFirst es (turned at later) = subst (λ (v : List Entry). StandFirst v (turned at later))
        (left l.at.node l.entry e es (ap (λ (v : At). v.node) here ∙ node) q show) (h here) in
        subst (λ (o : Option PrintedEntry). StandFirst (e ∷ es) (turned at (after_line l o later))) (sym p.1)
        (subst (λ (v : List PrintedEntry). StandFirst (e ∷ es) v)
        (sym (cond-true (same_turn l.at at) (p.0 ∷ turned at later) (turned at later)
        (subst (λ (v : At). same_turn l.at v ≡ true) here (same_turn_self l.at))))
        ((m, ap (printed_entry m) (sym k.0) ∙ p.1), after))
    by (e ∷ es) q false c h =
        subst (λ (v : List PrintedEntry). StandFirst (e ∷ es) v)
        (sym (turned_on at l (printed_entry m l.entry) later (other (same_turn l.at at) refl)))
        (subst (λ (v : List Entry). StandFirst v (turned at later)) q (h s))
      where
        other : (b : Bool) → same_turn l.at at ≡ b → b ≡ false
        other false e = refl
        other true e = absurd (true≢false (sym (ap (λ (v : Node). concerns t v l.entry)
            (ap (λ (v : At). v.node) (same_turn_is l.at at e) ∙ node) ∙ self t) ∙ c))

-- ---- what the laws read of them

abbrev pub first : {A : Type 0} {B : Type 0} → (A → Option B) → List A → Option B
first f [] = None
first f (x ∷ xs) = or_else (f x) (first f xs)

pub any_turned : (f : PrintedEntry → Bool) (at : At) (later : List PrintedLine) → any_later f at later ≡ list_any f (turned at later)
any_turned f at [] = refl
any_turned f at (k ∷ later) = by (same_turn k.at at) (any_turned f at later)
  where
    none : (b : Bool) → (b && false) ≡ false
    none true = refl
    none false = refl

    whole : (b : Bool) → (b && true) ≡ b
    whole true = refl
    whole false = refl

    by : (b : Bool) → any_later f at later ≡ list_any f (turned at later) → (f k.entry && b || any_later f at later)
        ≡ list_any f (if b then k.entry ∷ turned at later else turned at later)
    by true h = ap (λ (b : Bool). b || any_later f at later) (whole (f k.entry)) ∙ ap (λ (b : Bool). f k.entry || b) h
    by false h = ap (λ (b : Bool). b || any_later f at later) (none (f k.entry)) ∙ h

pub next_turned : {A : Type 0} (f : PrintedEntry → Option A) (at : At) (later : List PrintedLine) → next_in f at later
    ≡ first f (turned at later)
next_turned f at [] = refl
next_turned {A} f at (k ∷ later) = by (same_turn k.at at) (f k.entry) refl (next_turned f at later)
  where
    by : (b : Bool) (o : Option A) → f k.entry ≡ o → next_in f at later ≡ first f (turned at later)
        → or_else (only_here o b) (next_in f at later) ≡ first f (if b then k.entry ∷ turned at later else turned at later)
    by true None q h = h ∙ ap (λ (v : Option A). or_else v (first f (turned at later))) (sym q)
    by true (Some x) q h = ap (λ (v : Option A). or_else v (first f (turned at later))) (sym q)
    by false None q h = h
    by false (Some x) q h = h

-- one of them stands there
pub stands_any : (f : PrintedEntry → Bool) (e : Entry) → ((k : PrintedEntry) → PrintsAs e k → f k ≡ true)
    → (es : List Entry) (ks : List PrintedEntry) → StandFirst es ks → In e es → list_any f ks ≡ true
stands_any f e is [] ks s i = absurd i
stands_any f e is (x ∷ es) [] s i = absurd s
stands_any f e is (x ∷ es) (k ∷ ks) s (inl q) = ap (λ (b : Bool). b || list_any f ks) (is k (subst (λ (v : Entry). PrintsAs v k) q s.0))
stands_any f e is (x ∷ es) (k ∷ ks) s (inr i) = by (f k) (stands_any f e is es ks s.1 i)
  where
    by : (b : Bool) → list_any f ks ≡ true → (b || list_any f ks) ≡ true
    by true h = refl
    by false h = h

-- the first that says something says the same
pub stands_first : {A : Type 0} (f : Entry → Option A) (g : PrintedEntry → Option A)
    → ((e : Entry) (k : PrintedEntry) → PrintsAs e k → g k ≡ f e) → (es : List Entry) (ks : List PrintedEntry) (a : A) → StandFirst es ks
    → first f es ≡ Some a → first g ks ≡ Some a
stands_first f g is [] ks a s e = absurd (cc)
stands_first f g is (x ∷ es) [] a s e = absurd s
stands_first {A} f g is (x ∷ es) (k ∷ ks) a s e = ap (λ (o : Option A). or_else o (first g ks)) (is x k s.0)
    ∙ by (f x) e (stands_first f g is es ks a s.1)
  where
    by : (o : Option A) → or_else o (first f es) ≡ Some a → (first f es ≡ Some a → first g ks ≡ Some a) → or_else o (first g ks) ≡ Some a
    by None q h = h q
    by (Some y) q h = q
