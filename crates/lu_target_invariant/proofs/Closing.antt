-- The close of a recovery window, and the start of a run: what the state then keeps.
use Rattle.std.proofs.Common.{◌≡◌, ℕ, zero, suc, ◌+◌, ◌==◌, ◌&&◌, ◌||◌, Bool, true, false, cond, List, [], ◌∷◌, ◌++◌, filter, Some, None}
use Rattle.std.proofs.Common.{refl, sym, ap, subst, ◌∙◌, arith, nat_lt}
use Rattle.std.specs.Prelude.{if◌then◌else◌, not, ⊤, All, AllPairs}
use Rattle.std.specs.List.{list_any}
use Rattle.std.proofs.lemmas.Bool.Decides.{nat_tests}
use Rattle.std.proofs.lemmas.List.Elements.{All-cons, All-head, All-tail, All-nil, All-filter}
use Rattle.lu_base.specs.declared.ids.Who.{Who}
use Rattle.lu_base.specs.declared.locks.Lock.{Lock}
use Rattle.lu_lock.specs.Conflict.{conflicts_with_any}
use Rattle.lu_service.specs.declared.services.Kind.{Kind}
use Rattle.lu_service.specs.declared.services.Kind.TheVariants.{Mdt, Ost}
use Rattle.lu_spec_entries.specs.Carried.{Deed, Gone, Outcome}
use Rattle.lu_spec_entries.specs.Words.{Entry, Close, Restore, same_life}
use Rattle.lu_spec_target.specs.Lives.{is_life, life_before, with_life, with_lives, without_lives, lives_of}
use Rattle.lu_spec_target.specs.Leaving.{life_of}
use Rattle.lu_spec_target.specs.Locks.{locks_without}
use Rattle.lu_spec_target.specs.Windows.{Window, Settled, is_back, is_left, has_gap, gone_with, gone_from, kept_numbers, settled}
use Rattle.lu_spec_target.specs.States.{Setting, Target, lives_from, started, after, turn}
use Rattle.lu_spec_target.specs.Replies.{locks_on, asks_of}
use Rattle.lu_spec_target.specs.Outcomes.{window_of, restored, outcome_by}
use Rattle.lu_spec_target.specs.Recovery.{kept_lines, restore_lines, evict_lines, ready_lines, joined_lines, commit_of, answers_all, closes}
use Rattle.lu_target_refines.specs.Lives.{IsAhead, InOrder, AreOthers, OfClients}
use Rattle.lu_target_refines.proofs.Slots.{never, one_life, same_self}
use Rattle.lu_target_refines.proofs.LifeLists.{any_with_lives, life_without}
use Rattle.lu_target_refines.proofs.Rising.{AllAfter, Rises}
use Rattle.lu_target_refines.proofs.Clients.{clients_without, clients_with}
use Rattle.lu_target_refines.proofs.Lives.{ordered_withs, ordered_without, same_lives}
use Rattle.lu_target_refines.proofs.Closings.{wish_before}
use Rattle.lu_target_invariant.specs.Sound.{IsTaken, AreApart, IsAsked, AskApart, IsForReading, IsOfLife, HasLocksOf, IsSound}
use Rattle.lu_target_invariant.proofs.Requests.{all_passed}
use Rattle.lu_target_invariant.proofs.Taken.{not_true, life_stays}
use Rattle.lu_target_invariant.proofs.Entries.{ReadsOnly, all_quiet, quiet_append, sound_all_quiet, sound_then, sound_follow, sound_restore}

-- ---- lists of locks

pub reads_some : (kind : Kind) (test : Lock → Bool) (locks : List Lock) → ReadsOnly kind locks → ReadsOnly kind (filter test locks)
reads_some Mdt test locks reads = All-filter test IsForReading locks reads
reads_some Ost test locks reads = tt

reads_one : (kind : Kind) (l : Lock) (locks : List Lock) → ReadsOnly kind (l ∷ locks) → ReadsOnly kind (l ∷ [])
reads_one Mdt l locks reads = All-cons IsForReading l [] (All-head IsForReading l locks reads) (All-nil IsForReading)
reads_one Ost l locks reads = tt

reads_rest : (kind : Kind) (l : Lock) (locks : List Lock) → ReadsOnly kind (l ∷ locks) → ReadsOnly kind locks
reads_rest Mdt l locks reads = All-tail IsForReading l locks reads
reads_rest Ost l locks reads = tt

-- those that stand again are some of them
all_restored : (P : Lock → Type 0) (before locks : List Lock) → All P locks → All P (restored before locks)
all_restored P before [] all = all
all_restored P before (l ∷ locks) all =
    by (conflicts_with_any l.ask (asks_of (locks_on l.resource before))) (all_restored P before locks (All-tail P l locks all))
    (all_restored P (l ∷ before) locks (All-tail P l locks all)) where
      by : (meets : Bool) → All P (restored before locks) → All P (restored (l ∷ before) locks)
          → All P (if meets then restored before locks else l ∷ restored (l ∷ before) locks)
      by true one two = one
      by false one two = All-cons P l (restored (l ∷ before) locks) (All-head P l locks all) two

reads_restored : (kind : Kind) (before locks : List Lock) → ReadsOnly kind locks → ReadsOnly kind (restored before locks)
reads_restored Mdt before locks reads = all_restored IsForReading before locks reads
reads_restored Ost before locks reads = tt

-- ---- the lines of a close

pub sound_restore_lines : (kind : Kind) (v : Target) (locks : List Lock) → ReadsOnly kind locks → All (IsOfLife v.lives) locks
    → IsSound kind v
    → IsSound kind (turn v (restore_lines locks))
sound_restore_lines kind v [] reads lives sound = sound
sound_restore_lines kind v (l ∷ locks) reads lives sound =
    sound_restore_lines kind (after v (Restore l)) locks (reads_rest kind l locks reads) (All-tail (IsOfLife v.lives) l locks lives)
    (sound_restore kind v l (reads_one kind l locks reads) (All-head (IsOfLife v.lives) l locks lives) sound)

kept_quiet : (deeds : List Deed) → all_quiet (kept_lines deeds) ≡ true
kept_quiet [] = refl
kept_quiet (d ∷ deeds) = kept_quiet deeds

evict_quiet : (v : Target) (gone : List Gone) → all_quiet (evict_lines v gone) ≡ true
evict_quiet v [] = refl
evict_quiet v (g ∷ gone) = evict_quiet v gone

ready_quiet : (v : Target) (lives : List Who) → all_quiet (ready_lines v lives) ≡ true
ready_quiet v [] = refl
ready_quiet v (who ∷ lives) = ready_quiet v lives

joined_quiet : (v : Target) (lives : List Who) → all_quiet (joined_lines v lives) ≡ true
joined_quiet v [] = refl
joined_quiet v (who ∷ lives) = joined_quiet v lives

answers_quiet : (o : Outcome) (lives : List Who) (v : Target) → all_quiet (answers_all o lives v) ≡ true
answers_quiet o lives v =
    let stay : List Who = filter (λ who. not (is_life who (lives_of o.gone))) lives in
    quiet_append (evict_lines v o.gone) (ready_lines v stay ++ joined_lines v o.joins) (evict_quiet v o.gone)
    (quiet_append (ready_lines v stay) (joined_lines v o.joins) (ready_quiet v stay) (joined_quiet v o.joins))

kept_lives : (deeds : List Deed) (v : Target) → turn v (kept_lines deeds) ≡ v
kept_lives [] v = refl
kept_lives (d ∷ deeds) v = kept_lives deeds v

-- ---- a close

-- the lives once the window is closed
abbrev pub lives_closed : Target → Settled → List Who
lives_closed v s = with_lives s.joins (without_lives (lives_of s.gone) v.lives)

-- it is up, its disk has the lives that have slots, each client has one life then, and the locks are of lives that have slots then
pub record MayClose (kind : Kind) (v : Target) (s : Settled) : Type 0 where
  pub up : v.up ≡ true
  pub disk : v.disk.lives ≡ v.lives
  pub lives : InOrder v.lives
  pub clients : OfClients (lives_closed v s)
  pub reads : ReadsOnly kind s.locks
  pub holders : All (IsOfLife (lives_closed v s)) s.locks

-- its commit takes and gives the slots once more
twice : (gone come lives : List Who) → InOrder lives → with_lives come (without_lives gone (with_lives come (without_lives gone lives)))
    ≡ with_lives come (without_lives gone lives)
twice gone come lives ordered =
    let once : List Who = with_lives come (without_lives gone lives) in
    let first : InOrder once = ordered_withs come (without_lives gone lives) (ordered_without gone lives ordered) in
    same_lives (with_lives come (without_lives gone once)) once
    (ordered_withs come (without_lives gone once) (ordered_without gone once first)) first
    (λ who. any_with_lives (same_life who) come (without_lives gone once)
    ∙ ap (λ b. is_life who come || b) (life_without who gone once ∙ ap (λ b. not (is_life who gone) && b) (there who))
    ∙ four (is_life who come) (not (is_life who gone)) (is_life who lives)
    ∙ sym (there who))
  where
    there : (who : Who) → is_life who (with_lives come (without_lives gone lives))
        ≡ (is_life who come || (not (is_life who gone) && is_life who lives))
    there who = any_with_lives (same_life who) come (without_lives gone lives)
        ∙ ap (λ b. is_life who come || b) (life_without who gone lives)

    four : (a b c : Bool) → (a || (b && (a || (b && c)))) ≡ (a || (b && c))
    four true b c = refl
    four false true c = refl
    four false false c = refl

no_pairs : {A : Type 0} (R : A → A → Type 0) → AllPairs R []
no_pairs R = λ i j d less within. absurd (omega arith)

locks_closed : (kind : Kind) (w : Target) (locks : List Lock) (gone : List Who) → w.granted ≡ locks_without gone locks → w.waiting ≡ []
    → w.glimpses ≡ [] → ReadsOnly kind locks → HasLocksOf kind w
locks_closed Mdt w locks gone granted waiting glimpses reads =
    (subst (All IsForReading) (sym granted) (All-filter (λ k. not (is_life k.ask.who gone)) IsForReading locks reads), waiting, glimpses)
locks_closed Ost w locks gone granted waiting glimpses reads =
    (subst (All (IsAsked w.queue)) (sym glimpses) (All-nil (IsAsked w.queue)), subst (AllPairs AskApart) (sym glimpses) (no_pairs AskApart))

-- once it is committed
pub sound_closed : (kind : Kind) (v : Target) (deeds : List Deed) (s : Settled) → MayClose kind v s
    → (let o = outcome_by v deeds s in IsSound kind (turn v (Close o ∷ commit_of o ∷ [])))
sound_closed kind v deeds s may =
    let o : Outcome = outcome_by v deeds s in
    let w : Target = turn v (Close o ∷ commit_of o ∷ []) in
    let gone : List Who = lives_of s.gone in
    let same : w.lives ≡ lives_closed v s =
    ap (λ lives. with_lives s.joins (without_lives gone (with_lives s.joins (without_lives gone lives)))) may.disk
    ∙ twice gone s.joins v.lives may.lives in
    let ordered : InOrder (lives_closed v s) = ordered_withs s.joins (without_lives gone v.lives) (ordered_without gone v.lives may.lives)
    in
    record {
      up = may.up;
      serving = refl;
      lives = subst InOrder (sym same) ordered;
      clients = subst OfClients (sym same) may.clients;
      queue = All-nil (IsTaken kind w);
      apart = no_pairs AreApart;
      holders = subst (λ lives. All (IsOfLife lives) w.granted) (sym same)
          (All-filter (λ k. not (is_life k.ask.who gone)) (IsOfLife (lives_closed v s)) (restored [] s.locks)
          (all_restored (IsOfLife (lives_closed v s)) [] s.locks may.holders));
      waiters = All-nil (IsOfLife w.lives);
      locks = locks_closed kind w (restored [] s.locks) gone refl refl refl (reads_restored kind [] s.locks may.reads);
    }

pub sound_closes : (kind : Kind) (v : Target) (deeds : List Deed) (s : Settled) → MayClose kind v s
    → IsSound kind (turn v (closes v (outcome_by v deeds s)))
sound_closes kind v deeds s may =
    let o : Outcome = outcome_by v deeds s in
    let w : Target = turn v (Close o ∷ commit_of o ∷ []) in
    let es : List Entry = Close o ∷ commit_of o ∷ kept_lines deeds ++ restore_lines o.locks in
    let same : w.lives ≡ lives_closed v s =
    ap (λ lives. with_lives s.joins (without_lives (lives_of s.gone) (with_lives s.joins (without_lives (lives_of s.gone) lives)))) may.disk
    ∙ twice (lives_of s.gone) s.joins v.lives may.lives in
    let holders : All (IsOfLife w.lives) o.locks =
    subst (λ lives. All (IsOfLife lives) o.locks) (sym same) (all_restored (IsOfLife (lives_closed v s)) [] s.locks may.holders) in
    let stood : IsSound kind (turn w (restore_lines o.locks)) =
    sound_restore_lines kind w o.locks (reads_restored kind [] s.locks may.reads) holders (sound_closed kind v deeds s may) in
    let kept : IsSound kind (turn (turn w (kept_lines deeds)) (restore_lines o.locks)) =
    subst (λ x. IsSound kind (turn x (restore_lines o.locks))) (sym (kept_lives deeds w)) stood in
    sound_follow kind v es (answers_all o v.lives)
    (sound_all_quiet kind (turn v es) (answers_all o v.lives (turn v es)) (answers_quiet o v.lives (turn v es))
    (sound_then kind w (kept_lines deeds) (restore_lines o.locks) kept))

-- ---- what its window settles

no_life_with : (client : ℕ) (who : Who) (lives : List Who) → (who.client == client) ≡ false → life_of client lives ≡ None
    → life_of client (with_life who lives) ≡ None
no_life_with client who [] other none = rw other refl
no_life_with client who (w ∷ lives) other none =
    by (same_life who w) (life_before who w) (w.client == client) refl none (no_life_with client who lives other) where
      by : (own first here : Bool) → (w.client == client) ≡ here → (if here then Some w else life_of client lives) ≡ None
          → (life_of client lives ≡ None → life_of client (with_life who lives) ≡ None)
          → life_of client (if own then w ∷ lives else (if first then who ∷ w ∷ lives else w ∷ with_life who lives)) ≡ None
      by own first true e n rest = absurd (cc)
      by true first false e n rest = rw e n
      by false true false e n rest = rw (other, e) n
      by false false false e n rest = rw e (rest n)

-- no life of the client of one of these
abbrev pub HaveNoLife : List Who → List Who → Type 0
HaveNoLife lives [] = ⊤
HaveNoLife lives (w ∷ wishes) = (life_of w.client lives ≡ None) × HaveNoLife lives wishes

others_have_none : (who : Who) (lives wishes : List Who) → AllAfter wish_before who wishes → HaveNoLife lives wishes
    → HaveNoLife (with_life who lives) wishes
others_have_none who lives [] rises none = tt
others_have_none who lives (w ∷ wishes) rises none =
    (no_life_with w.client who lives (other who.client w.client rises.0) none.0, others_have_none who lives wishes rises.1 none.1) where
      other : (m n : ℕ) → nat_lt m n ≡ true → (m == n) ≡ false
      other m n e = grind (arith, nat_tests)

pub clients_join : (wishes lives : List Who) → Rises wish_before wishes → HaveNoLife lives wishes → OfClients lives
    → OfClients (with_lives wishes lives)
clients_join [] lives rises none of = of
clients_join (w ∷ wishes) lives rises none of =
    clients_join wishes (with_life w lives) rises.1 (others_have_none w lives wishes rises.0 none.1) (clients_with w lives none.0 of)

or_true : (a : Bool) → (a || true) ≡ true
or_true true = refl
or_true false = refl

-- the life of a client that joins leaves
left_goes : (v : Window) (kept : List ℕ) (lives : List Who) (w : Who) → is_left v w ≡ true → is_life w lives ≡ true
    → is_life w (lives_of (gone_from v kept lives)) ≡ true
left_goes v kept [] w left e = e
left_goes v kept (who ∷ lives) w left e = by (same_life w who) refl (not (is_back v who) || is_left v who) refl (has_gap v kept who) e
    (left_goes v kept lives w left) where
      out : same_life w who ≡ true → (not (is_back v who) || is_left v who) ≡ true
      out f = subst (λ life. (not (is_back v life) || is_left v life) ≡ true) (one_life w who f) (rw left (or_true (not (is_back v w))))

      by : (own : Bool) → same_life w who ≡ own → (absent : Bool) → (not (is_back v who) || is_left v who) ≡ absent → (gap : Bool)
          → (own || is_life w lives) ≡ true
          → (is_life w lives ≡ true → is_life w (lives_of (gone_from v kept lives)) ≡ true)
          → is_life w (lives_of (gone_with absent gap who (gone_from v kept lives))) ≡ true
      by true f true g gap e rest = rw f refl
      by true f false g gap e rest = absurd (never (sym (out f) ∙ g))
      by false f true g gap e rest = rw f (rest e)
      by false f false g true e rest = rw f (rest e)
      by false f false g false e rest = rest e

none_stays : (client : ℕ) (gone lives : List Who) → ((x : Who) → (x.client == client) ≡ true → is_life x lives ≡ true → is_life x gone
    ≡ true) → life_of client (without_lives gone lives) ≡ None
none_stays client gone [] goes = refl
none_stays client gone (x ∷ lives) goes =
    by (x.client == client) refl (is_life x gone) refl (none_stays client gone lives
    (λ y e there. goes y e (rw there (or_true (same_life y x))))) where
      by : (here : Bool) → (x.client == client) ≡ here → (left : Bool) → is_life x gone ≡ left → life_of client (without_lives gone lives)
          ≡ None
          → life_of client (cond (not left) (x ∷ without_lives gone lives) (without_lives gone lives)) ≡ None
      by true e true f rest = rest
      by true e false f rest = absurd (never (sym (goes x e (rw (same_self x) refl)) ∙ f))
      by false e true f rest = rest
      by false e false f rest = rw e rest

wished : (client : ℕ) (w : Who) (wishes : List Who) → is_life w wishes ≡ true → (w.client == client) ≡ true
    → list_any (λ (x : Who). x.client == client) wishes ≡ true
wished client w [] e own = e
wished client w (x ∷ wishes) e own = by (same_life w x) refl e (λ f. wished client w wishes f own) where
  by : (here : Bool) → same_life w x ≡ here → (here || is_life w wishes) ≡ true
      → (is_life w wishes ≡ true → list_any (λ (y : Who). y.client == client) wishes ≡ true)
      → list_any (λ (y : Who). y.client == client) (x ∷ wishes) ≡ true
  by true f e rest = rw (ap (λ (y : Who). y.client == client) (sym (one_life w x f)) ∙ own) refl
  by false f e rest = rw (rest e) (or_true (x.client == client))

turned : (m n : ℕ) → (m == n) ≡ true → (n == m) ≡ true
turned m n e = grind (arith, nat_tests)

wishes_have_none : (v : Window) (kept : List ℕ) (wishes : List Who) → ((w : Who) → is_life w wishes ≡ true → is_life w v.wishes ≡ true)
    → HaveNoLife (without_lives (lives_of (gone_from v kept v.lives)) v.lives) wishes
wishes_have_none v kept [] all = tt
wishes_have_none v kept (w ∷ wishes) all = (
  none_stays w.client (lives_of (gone_from v kept v.lives)) v.lives
      (λ x e there. left_goes v kept v.lives x (wished x.client w v.wishes (all w (rw (same_self w) refl)) (turned x.client w.client e))
      there),
  wishes_have_none v kept wishes (λ x e. all x (rw e (or_true (same_life x w)))),
)

-- the wishes are of one life for each client, and the locks that were brought are of lives with slots
pub may_close : (kind : Kind) (v : Target) → v.up ≡ true → v.disk.lives ≡ v.lives → InOrder v.lives → OfClients v.lives
    → Rises wish_before v.wishes → ReadsOnly kind v.brought
    → All (IsOfLife v.lives) v.brought → MayClose kind v (settled (window_of v))
may_close kind v up disk lives clients wishes reads holders =
    let kept : List ℕ = kept_numbers (window_of v) in
    let gone : List Who = lives_of (gone_from (window_of v) kept v.lives) in
    record {
      up = up;
      disk = disk;
      lives = lives;
      clients = clients_join v.wishes (without_lives gone v.lives) wishes (wishes_have_none (window_of v) kept v.wishes (λ w e. e))
          (clients_without gone v.lives clients);
      reads = reads_some kind (λ l. not (is_life l.ask.who gone)) v.brought reads;
      holders = all_passed (IsOfLife v.lives) (IsOfLife (with_lives v.wishes (without_lives gone v.lives)))
          (λ l. not (is_life l.ask.who gone)) v.brought
          (λ l stays life. life_stays l.ask.who gone v.wishes v.lives (not_true (is_life l.ask.who gone) stays) life) holders;
    }

-- ---- the start of a run

first_ahead : (client next : ℕ) (count : ℕ) → nat_lt client next ≡ true
    → IsAhead (record { client = client; life = 1 }) (lives_from next count)
first_ahead client next zero e = tt
first_ahead client next (suc count) e = (rw e refl, first_ahead client (next + 1) count (more client next e)) where
  more : (m n : ℕ) → nat_lt m n ≡ true → nat_lt m (n + 1) ≡ true
  more m n e = grind (arith, nat_tests)

first_others : (client next : ℕ) (count : ℕ) → nat_lt client next ≡ true
    → AreOthers (record { client = client; life = 1 }) (lives_from next count)
first_others client next zero e = tt
first_others client next (suc count) e = (other client next e, first_others client (next + 1) count (more client next e)) where
  more : (m n : ℕ) → nat_lt m n ≡ true → nat_lt m (n + 1) ≡ true
  more m n e = grind (arith, nat_tests)

  other : (m n : ℕ) → nat_lt m n ≡ true → (n == m) ≡ false
  other m n e = grind (arith, nat_tests)

next_above : (n : ℕ) → nat_lt n (n + 1) ≡ true
next_above n = grind (arith, nat_tests)

first_ordered : (client count : ℕ) → InOrder (lives_from client count)
first_ordered client zero = tt
first_ordered client (suc count) = (first_ahead client (client + 1) count (next_above client), first_ordered (client + 1) count)

first_clients : (client count : ℕ) → OfClients (lives_from client count)
first_clients client zero = tt
first_clients client (suc count) = (first_others client (client + 1) count (next_above client), first_clients (client + 1) count)

locks_started : (kind : Kind) (setting : Setting) (clients : ℕ) → HasLocksOf kind (started setting clients)
locks_started Mdt setting clients = (All-nil IsForReading, refl, refl)
locks_started Ost setting clients = (All-nil (IsAsked []), no_pairs AskApart)

pub sound_started : (kind : Kind) (setting : Setting) (clients : ℕ) → IsSound kind (started setting clients)
sound_started kind setting clients = record {
  up = refl;
  serving = refl;
  lives = first_ordered 0 clients;
  clients = first_clients 0 clients;
  queue = All-nil (IsTaken kind (started setting clients));
  apart = no_pairs AreApart;
  holders = All-nil (IsOfLife (started setting clients).lives);
  waiters = All-nil (IsOfLife (started setting clients).lives);
  locks = locks_started kind setting clients;
}
