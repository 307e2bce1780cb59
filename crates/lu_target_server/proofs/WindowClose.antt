-- The close of a recovery window: what it decides may be done, and what stands then.
use Rattle.std.proofs.Common.{◌≡◌, ℕ, ◌+◌, ◌-◌, ◌*◌, ◌^◌, ◌<◌, ◌≤◌, max, ◌==◌, ◌&&◌, ◌||◌, Bool, true, false, cond, List, [], ◌∷◌, ◌++◌}
use Rattle.std.proofs.Common.{map, filter, refl, sym, ap, subst, ◌∙◌, arith}
use Rattle.std.specs.Prelude.{if◌then◌else◌, nat_lt, not, ⊤, All, AllPairs}
use Rattle.std.proofs.lemmas.Bool.Decides.{nat_tests}
use Rattle.std.proofs.lemmas.List.Elements.{All-cons, All-nil, All-filter}
use Rattle.lu_base.specs.declared.ids.At.{At}
use Rattle.lu_base.specs.declared.ids.Txn.{Txn}
use Rattle.lu_base.specs.declared.ids.Who.{Who}
use Rattle.lu_base.specs.declared.locks.Lock.{Lock}
use Rattle.lu_lock.specs.Overlap.{IsOrdered}
use Rattle.lu_lock.specs.Conflict.{conflicts_with_any}
use Rattle.lu_spec_machine.specs.Footprint.{Every}
use Rattle.lu_spec_machine.specs.Tree.{Opened}
use Rattle.lu_msg.specs.declared.commits.Batch.{Batch}
use Rattle.lu_msg.specs.declared.commits.Transaction.{Transaction}
use Rattle.lu_service.specs.declared.services.Kind.{Kind}
use Rattle.lu_service.specs.declared.services.Kind.TheVariants.{Mdt, Ost}
use Rattle.lu_spec_entries.specs.Carried.{Deed, Contents, Outcome}
use Rattle.lu_spec_entries.specs.Words.{Entry, Close, Restore, same_life}
use Rattle.lu_txn.specs.Slots.{lives_of as slot_lives}
use Rattle.lu_txn.specs.Journals.{JournalState, count}
use Rattle.lu_spec_target.specs.Phase.{first_of}
use Rattle.lu_spec_target.specs.Lives.{is_life, life_before, without_lives, lives_of as gone_of}
use Rattle.lu_spec_target.specs.Locks.{with_lock, locks_without}
use Rattle.lu_spec_target.specs.Stored.{transaction_of, batch_of, done, all_done, forgotten, last_number}
use Rattle.lu_spec_target.specs.Windows.{Replayed, Window, Settled, kept_numbers, has_number, kept_of, settled}
use Rattle.lu_spec_target.specs.States.{Target, after, turn}
use Rattle.lu_spec_target.specs.Replies.{locks_on, asks_of}
use Rattle.lu_spec_target.specs.Outcomes.{window_of, deed_again, deeds_again, restored, outcome_by, outcome_of}
use Rattle.lu_spec_target.specs.Recovery.{commit_of, kept_lines, restore_lines, evict_lines, ready_lines, joined_lines}
use Rattle.lu_target_refines.specs.Batches.{AreReplaysOf, AreAmong, AreApart, appended_one, all_appended, IsClosing}
use Rattle.lu_target_refines.specs.Contents.{transaction_again}
use Rattle.lu_target_refines.specs.Journals.{AreRising}
use Rattle.lu_target_refines.specs.Lives.{IsAhead, InOrder}
use Rattle.lu_target_refines.proofs.Again.{all_kept_above}
use Rattle.lu_target_refines.proofs.Closes.{closing_lives}
use Rattle.lu_target_refines.proofs.Closings.{closing}
use Rattle.lu_target_refines.proofs.LockLists as ranks
use Rattle.lu_target_refines.proofs.Rising.{Rises, AllAfter}
use Rattle.lu_target_refines.proofs.RisingNumbers.{rising_below}
use Rattle.lu_target_invariant.specs.Sound.{IsForReading, IsOfLife, IsSound}
use Rattle.lu_target_invariant.proofs.Entries.{ReadsOnly}
use Rattle.lu_target_invariant.proofs.Closing.{MayClose, may_close}
use Rattle.lu_target_store.specs.Stores as stores
use Rattle.lu_target_store.specs.Stores.{StoreState, Redoes, MayMove, IsClose}
use Rattle.lu_target_locks.specs.Standing.{AreOrdered, StandAgain}
use Rattle.lu_target_redo.specs.Shown as redo
use Rattle.lu_target_redo.specs.Shown.{IsRepeatable, AreRepeatable}
use Rattle.lu_target_redo.proofs.Steps.{shows_above}
use Rattle.lu_trace.specs.Turns.{Making, with_line}
use Rattle.lu_trace.specs.declared.entries.Entry.TheVariants as line
use Rattle.lu_target_refines.proofs.Loads.{stored_committed, last_same}
use Rattle.lu_spec_entries.specs.Given.{giving}
use Rattle.lu_target_server.specs.Servers.{ServerState}
use Rattle.lu_target_server.specs.Recovering.{IsReplay, IsBrought, IsLockOf, AreLater, CookiesRise, IsAwaiting, Gathers}
use Rattle.lu_target_server.specs.Closing.{MayPerform, MayRedo, CanRedo, Decides, closed_at, MayBeCommitted}
use Rattle.lu_target_server.proofs.Composing.{turn_more}
use Rattle.lu_target_server.proofs.Gathering.{clients_to}
use Rattle.lu_target_server.proofs.Notes.{noted, line_step}

-- ---- lists of which some are left out

pub every_filter : {A : Type 0} (P : A → Type 0) (test : A → Bool) (xs : List A) → Every P xs → Every P (filter test xs)
every_filter P test [] all = tt
every_filter P test (x ∷ xs) all = by (test x) (every_filter P test xs all.1) where
  by : (stays : Bool) → Every P (filter test xs) → Every P (cond stays (x ∷ filter test xs) (filter test xs))
  by true rest = (all.0, rest)
  by false rest = rest

pub all_every : {A : Type 0} (P Q : A → Type 0) (xs : List A) → ((x : A) → P x → Q x) → Every P xs → All Q xs
all_every P Q [] f all = All-nil Q
all_every P Q (x ∷ xs) f all = All-cons Q x xs (f x all.0) (all_every P Q xs f all.1)

rising_filter : (n : ℕ) (test : Replayed → Bool) (rs : List Replayed) → AreRising n (map {A = Replayed} transaction_again rs)
    → AreRising n (map {A = Replayed} transaction_again (filter test rs))
rising_filter n test [] rising = tt
rising_filter n test (r ∷ rs) rising = by (test r) (rising_filter r.number test rs rising.1) where
  less : n < r.number
  less = rising.0

  by : (stays : Bool) → AreRising r.number (map {A = Replayed} transaction_again (filter test rs))
      → AreRising n (map {A = Replayed} transaction_again (cond stays (r ∷ filter test rs) (filter test rs)))
  by true rest = (less, rest)
  by false rest = rising_below n r.number (map {A = Replayed} transaction_again (filter test rs)) (omega (arith, less)) rest

rising_above : (n m : ℕ) (rs : List Replayed) → AreRising n (map {A = Replayed} transaction_again rs)
    → Every (λ r. nat_lt m r.number ≡ true) rs → AreRising (max n m) (map {A = Replayed} transaction_again rs)
rising_above n m [] rising above = tt
rising_above n m (r ∷ rs) rising above =
    let one : n < r.number = rising.0 in
    let other : nat_lt m r.number ≡ true = above.0 in
    let two : m < r.number = grind (arith, nat_tests) in
    (omega (arith, one, two), rising.1)

-- ---- the replays

repeatable_of : (kind : Kind) (lives : List Who) (most : ℕ) (rs : List Replayed) → Every (IsReplay kind lives most) rs
    → AreRepeatable kind (map {A = Replayed} transaction_again rs)
repeatable_of kind lives most [] all = tt
repeatable_of kind lives most (r ∷ rs) all = (all.0.repeatable, repeatable_of kind lives most rs all.1)

replays_of : (kind : Kind) (lives : List Who) (most n : ℕ) (rs : List Replayed) → 1 ≤ n
    → AreRising n (map {A = Replayed} transaction_again rs) → Every (IsReplay kind lives most) rs → AreReplaysOf lives most rs
replays_of kind lives most n [] one rising all = tt
replays_of kind lives most n (r ∷ rs) one rising all =
    let less : n < r.number = rising.0 in (
      (all.0.life, omega (arith, one, less), all.0.earlier),
      replays_of kind lives most r.number rs (omega (arith, one, less)) rising.1
          all.1,
    )

may_redo : (v : Target) (at : At) (c : Contents) (kind : Kind) (lives : List Who) (most n : ℕ) (rs : List Replayed)
    → AreRising n (map {A = Replayed} transaction_again rs) → Every (IsReplay kind lives most) rs
    → MayRedo lives most n (deeds_again v at c rs)
may_redo v at c kind lives most n [] rising all = tt
may_redo v at c kind lives most n (r ∷ rs) rising all = (
  (all.0.life, all.0.tag, rising.0, all.0.earlier),
  may_redo v at (done v.setting.osts c (transaction_of (deed_again v at c r))) kind
      lives most r.number rs rising.1 all.1,
)

last_at_most : (most n : ℕ) (kind : Kind) (lives : List Who) (rs : List Replayed) → n ≤ most → Every (IsReplay kind lives most) rs
    → last_number (map {A = Replayed} transaction_again rs) n ≤ most
last_at_most most n kind lives [] le all = le
last_at_most most n kind lives (r ∷ rs) le all = last_at_most most r.number kind lives rs all.0.earlier all.1

-- ---- what a target that gathers keeps of them

module _ (s : ServerState) (w : _) (v : Target) (g : Gathers s w v) where
  pub kept_may : Every (IsReplay s.kind v.lives (first_of v.boot)) (settled (window_of v)).kept
  kept_may = every_filter (IsReplay s.kind v.lives (first_of v.boot)) (λ r. has_number r.number (kept_numbers (window_of v))) v.replays
      g.sound.replays

  pub disk_committed : v.disk.committed ≡ v.committed
  disk_committed = g.store.disk.committed

  pub kept_rising : AreRising (max 1 v.disk.committed) (map {A = Replayed} transaction_again (settled (window_of v)).kept)
  kept_rising =
      rising_above 1 v.disk.committed (settled (window_of v)).kept
      (rising_filter 1 (λ r. has_number r.number (kept_numbers (window_of v))) v.replays g.sound.rising)
      (subst (λ n. Every (λ r. nat_lt n r.number ≡ true) (settled (window_of v)).kept) (sym disk_committed) (all_kept_above (window_of v)))

  ahead_to : (who : Who) (lives : List Who) → IsAhead who lives → AllAfter life_before who lives
  ahead_to who [] all = tt
  ahead_to who (x ∷ lives) all = (all.0, ahead_to who lives all.1)

  rises_to : (lives : List Who) → InOrder lives → Rises life_before lives
  rises_to [] ordered = tt
  rises_to (x ∷ lives) ordered = (ahead_to x lives ordered.0, rises_to lives ordered.1)

  pub is_closing : (at : At) → IsClosing v (outcome_of v at).kept (gone_of (settled (window_of v)).gone) (settled (window_of v)).joins
  is_closing at =
      closing v at (rises_to v.lives g.sound.lives) (clients_to v.wishes g.sound.wishes)
      (replays_of s.kind v.lives (first_of v.boot) 1 v.replays (omega arith) g.sound.rising g.sound.replays)

  pub can_redo : (at : At) → MayRedo v.lives (first_of v.boot) v.committed (outcome_of v at).kept
  can_redo at =
      may_redo v at v.disk.contents s.kind v.lives (first_of v.boot) v.committed (settled (window_of v)).kept
      (rising_below v.committed (max 1 v.disk.committed) (map {A = Replayed} transaction_again (settled (window_of v)).kept)
      (subst (λ n. n ≤ max 1 v.disk.committed) disk_committed (omega arith)) kept_rising)
      kept_may

  -- no number of this boot is given yet
  pub no_number : v.number ≡ first_of v.boot
  no_number =
      g.store.journal.booted.number ∙ ap (λ n. first_of s.store.journal.boot + n) g.store.journal.none_yet
      ∙ more (first_of s.store.journal.boot)
      ∙ ap first_of (sym g.store.journal.booted.boot)
    where
      more : (n : ℕ) → n + 0 ≡ n
      more n = omega arith

  pub committed_early : v.disk.committed ≤ first_of v.boot
  committed_early =
      let j : JournalState = s.store.journal in
      let none : j.newest - j.boot * 4294967296 ≡ 0 = g.store.journal.none_yet in
      let newest : j.newest ≡ j.committed = g.store.newest in
      let low : j.committed ≤ j.boot * 4294967296 = omega (arith, none, newest) in
      subst (λ n. n ≤ first_of v.boot) (sym (disk_committed ∙ g.store.journal.booted.committed))
      (subst (λ n. j.committed ≤ first_of n) (sym g.store.journal.booted.boot) low)

  pub first_early : 1 ≤ first_of v.boot
  first_early = let later : v.closed < v.boot = g.sound.recovering in let some : 1 ≤ v.boot = omega (arith, later) in omega (arith, some)

  pub last_early : last_number (map {A = Replayed} transaction_again (settled (window_of v)).kept) (max 1 v.disk.committed) ≤ first_of
      v.boot
  last_early =
      let a = committed_early in
      let b = first_early in
      last_at_most (first_of v.boot) (max 1 v.disk.committed) s.kind v.lives (settled (window_of v)).kept (omega (arith, a, b)) kept_may

  reads_every : (kind : Kind) (lives : List Who) (most : ℕ) (locks : List Lock) → Every (IsBrought kind lives most) locks
      → ReadsOnly kind locks
  reads_every Mdt lives most locks all = all_every (IsBrought Mdt lives most) IsForReading locks (λ l is. is.sort) all
  reads_every Ost lives most locks all = tt

  pub may_be_closed : MayClose s.kind v (settled (window_of v))
  may_be_closed =
      may_close s.kind v g.sound.up g.store.disk.lives g.sound.lives g.sound.clients (clients_to v.wishes g.sound.wishes)
      (reads_every s.kind v.lives (first_of v.boot) v.brought g.sound.brought)
      (all_every (IsBrought s.kind v.lives (first_of v.boot)) (IsOfLife v.lives) v.brought (λ l is. is.life) g.sound.brought)

-- ---- the parts of a close may be done

pub may_perform : (kept : List Replayed) (gone joins : List Who) (s : ServerState) (v : Target) → Decides kept gone joins s v
    → MayPerform kept gone s v
may_perform kept gone joins s v d = record {
  store = d.gathers.store;
  boot = d.gathers.boot;
  contents = d.gathers.contents;
  keeps = d.keeps;
  leaves = d.leaves;
  rising = subst (λ (rs : List Replayed). AreRising (max 1 v.disk.committed) (map {A = Replayed} transaction_again rs)) (sym d.keeps)
      (kept_rising s d.window v d.gathers);
  repeatable = subst (λ (rs : List Replayed). AreRepeatable s.kind (map {A = Replayed} transaction_again rs)) (sym d.keeps)
      (repeatable_of s.kind v.lives (first_of v.boot) (settled (window_of v)).kept (kept_may s d.window v d.gathers));
}

pub may_move : (deeds : List Deed) (st : StoreState) (v : Target) (gone joins : List Who) → Redoes deeds st v → IsClosing v deeds gone joins
    → MayMove gone joins st
may_move deeds st v gone joins redoes is =
    let lives : v.lives ≡ slot_lives st.journal.slots =
    closing_lives redoes.before v deeds redoes.window ∙ ap (λ (it : JournalState). slot_lives it.slots) (sym redoes.journal) in
    record {
      once = is.once;
      among = subst (λ (them : List Who). AreAmong them gone) lives is.among;
      new = is.new;
      apart = subst (λ (them : List Who). AreApart (without_lives gone them) joins) lives is.apart;
    }

-- ---- opens that are gone are gone again

abbrev with_opens : List Opened → Contents → Contents
with_opens opens c = record c { tree = record c.tree { opens = opens } }

filter_both : (p q r : Opened → Bool) (xs : List Opened) → ((x : Opened) → r x ≡ (q x && p x)) → filter p (filter q xs) ≡ filter r xs
filter_both p q r [] is = refl
filter_both p q r (x ∷ xs) is = by (q x) refl (p x) refl (filter_both p q r xs is) where
  by : (a : Bool) → q x ≡ a → (b : Bool) → p x ≡ b → filter p (filter q xs) ≡ filter r xs
      → filter p (cond a (x ∷ filter q xs) (filter q xs)) ≡ cond (r x) (x ∷ filter r xs) (filter r xs)
  by true e true f rest =
      let own : r x ≡ true = is x ∙ ap (λ a. a && p x) e ∙ f in
      ap (λ b. cond b (x ∷ filter p (filter q xs)) (filter p (filter q xs))) f ∙ ap (λ (more : List Opened). x ∷ more) rest
      ∙ sym (ap (λ b. cond b (x ∷ filter r xs) (filter r xs)) own)
  by true e false f rest =
      let own : r x ≡ false = is x ∙ ap (λ a. a && p x) e ∙ f in
      ap (λ b. cond b (x ∷ filter p (filter q xs)) (filter p (filter q xs))) f ∙ rest
      ∙ sym (ap (λ b. cond b (x ∷ filter r xs) (filter r xs)) own)
  by false e b f rest =
      let own : r x ≡ false = is x ∙ ap (λ a. a && p x) e in
      rest ∙ sym (ap (λ b. cond b (x ∷ filter r xs) (filter r xs)) own)

keeps_open : List Who → Opened → Bool
keeps_open gone o = not (is_life o.life gone)

filter_true : (xs : List Opened) → filter (λ (o : Opened). not false) xs ≡ xs
filter_true [] = refl
filter_true (x ∷ xs) = ap (λ (more : List Opened). x ∷ more) (filter_true xs)

forgotten_is : (gone : List Who) (c : Contents) → forgotten gone c
    ≡ with_opens (filter (λ (o : Opened). not (is_life o.life gone)) c.tree.opens) c
forgotten_is [] c = ap (λ (opens : List Opened). with_opens opens c) (sym (filter_true c.tree.opens))
forgotten_is (who ∷ gone) c =
    forgotten_is gone (with_opens (filter (λ (o : Opened). not (same_life o.life who)) c.tree.opens) c)
    ∙ ap (λ (opens : List Opened). with_opens opens c)
    (filter_both (λ (o : Opened). not (is_life o.life gone)) (λ (o : Opened). not (same_life o.life who))
    (λ (o : Opened). not (is_life o.life (who ∷ gone))) c.tree.opens
    (λ o. either (same_life o.life who) (is_life o.life gone)))
  where
    either : (a b : Bool) → not (a || b) ≡ (not a && not b)
    either true b = refl
    either false b = refl

pub forgotten_twice : (gone : List Who) (c : Contents) → forgotten gone (forgotten gone c) ≡ forgotten gone c
forgotten_twice gone c =
    let test : Opened → Bool = (λ (o : Opened). not (is_life o.life gone)) in
    ap (forgotten gone) (forgotten_is gone c)
    ∙ forgotten_is gone (with_opens (filter test c.tree.opens) c)
    ∙ ap (λ (opens : List Opened). with_opens opens c) (filter_both test test test c.tree.opens (λ o. twice (test o)))
    ∙ sym (forgotten_is gone c)
  where
    twice : (a : Bool) → a ≡ (a && a)
    twice true = refl
    twice false = refl

-- ---- the locks that stand again

later_filter : (l : Lock) (test : Lock → Bool) (locks : List Lock) → AreLater l locks → AreLater l (filter test locks)
later_filter l test [] all = tt
later_filter l test (k ∷ locks) all = by (test k) (later_filter l test locks all.1) where
  by : (stays : Bool) → AreLater l (filter test locks) → AreLater l (cond stays (k ∷ filter test locks) (filter test locks))
  by true rest = (all.0, rest)
  by false rest = rest

cookies_filter : (test : Lock → Bool) (locks : List Lock) → CookiesRise locks → CookiesRise (filter test locks)
cookies_filter test [] rises = tt
cookies_filter test (l ∷ locks) rises = by (test l) (cookies_filter test locks rises.1) where
  by : (stays : Bool) → CookiesRise (filter test locks) → CookiesRise (cond stays (l ∷ filter test locks) (filter test locks))
  by true rest = (later_filter l test locks rises.0, rest)
  by false rest = rest

later_above : (l : Lock) (locks : List Lock) → AreLater l locks → ranks.Above l.cookie.0 locks
later_above l [] all = tt
later_above l (k ∷ locks) all = (all.0, later_above l locks all.1)

cookies_ranks : (locks : List Lock) → CookiesRise locks → ranks.Rises locks
cookies_ranks [] rises = tt
cookies_ranks (l ∷ locks) rises = (later_above l locks rises.0, cookies_ranks locks rises.1)

-- a filter that all pass
filter_passed : (P : Lock → Type 0) (test : Lock → Bool) (locks : List Lock) → ((l : Lock) → P l → test l ≡ true) → Every P locks
    → filter test locks ≡ locks
filter_passed P test [] pass all = refl
filter_passed P test (l ∷ locks) pass all =
    ap (λ b. cond b (l ∷ filter test locks) (filter test locks)) (pass l all.0)
    ∙ ap (λ (more : List Lock). l ∷ more) (filter_passed P test locks pass all.1)

every_kept : (test : Lock → Bool) (locks : List Lock) → Every (λ (l : Lock). test l ≡ true) (filter test locks)
every_kept test [] = tt
every_kept test (l ∷ locks) = by (test l) refl (every_kept test locks) where
  by : (stays : Bool) → test l ≡ stays → Every (λ (k : Lock). test k ≡ true) (filter test locks)
      → Every (λ (k : Lock). test k ≡ true) (cond stays (l ∷ filter test locks) (filter test locks))
  by true e rest = (e, rest)
  by false e rest = rest

every_restored : (P : Lock → Type 0) (before locks : List Lock) → Every P locks → Every P (restored before locks)
every_restored P before [] all = tt
every_restored P before (l ∷ locks) all = by (conflicts_with_any l.ask (asks_of (locks_on l.resource before)))
    (every_restored P before locks all.1) (every_restored P (l ∷ before) locks all.1) where
      by : (meets : Bool) → Every P (restored before locks) → Every P (restored (l ∷ before) locks)
          → Every P (if meets then restored before locks else l ∷ restored (l ∷ before) locks)
      by true one two = one
      by false one two = (all.0, two)

later_restored : (k : Lock) (before locks : List Lock) → AreLater k locks → AreLater k (restored before locks)
later_restored k before [] all = tt
later_restored k before (l ∷ locks) all = by (conflicts_with_any l.ask (asks_of (locks_on l.resource before)))
    (later_restored k before locks all.1) (later_restored k (l ∷ before) locks all.1) where
      by : (meets : Bool) → AreLater k (restored before locks) → AreLater k (restored (l ∷ before) locks)
          → AreLater k (if meets then restored before locks else l ∷ restored (l ∷ before) locks)
      by true one two = one
      by false one two = (all.0, two)

cookies_restored : (before locks : List Lock) → CookiesRise locks → CookiesRise (restored before locks)
cookies_restored before [] rises = tt
cookies_restored before (l ∷ locks) rises = by (conflicts_with_any l.ask (asks_of (locks_on l.resource before)))
    (cookies_restored before locks rises.1) (cookies_restored (l ∷ before) locks rises.1) where
      by : (meets : Bool) → CookiesRise (restored before locks) → CookiesRise (restored (l ∷ before) locks)
          → CookiesRise (if meets then restored before locks else l ∷ restored (l ∷ before) locks)
      by true one two = one
      by false one two = (later_restored l (l ∷ before) locks rises.0, two)

-- each of them is there already
own_cookie : (n : ℕ) → (n == n) ≡ true
own_cookie n = grind (arith, nat_tests)

apart_cookie : (n m : ℕ) → m < n → (n == m) ≡ false
apart_cookie n m less = grind (arith, nat_tests)

not_before : (n m : ℕ) → m < n → nat_lt n m ≡ false
not_before n m less = grind (arith, nat_tests)

again_later : (k : Lock) (all locks : List Lock) → AreLater k locks → Every (λ (l : Lock). with_lock l all ≡ all) locks
    → Every (λ (l : Lock). with_lock l (k ∷ all) ≡ k ∷ all) locks
again_later k all [] later every = tt
again_later k all (l ∷ locks) later every = (
  rw (apart_cookie l.cookie.0 k.cookie.0 later.0, not_before l.cookie.0 k.cookie.0 later.0)
      (ap (λ (more : List Lock). k ∷ more) every.0),
  again_later k all locks later.1 every.1,
)

again_all : (locks : List Lock) → CookiesRise locks → Every (λ (l : Lock). with_lock l locks ≡ locks) locks
again_all [] rises = tt
again_all (l ∷ locks) rises = (rw (own_cookie l.cookie.0) refl, again_later l locks locks rises.0 (again_all locks rises.1))

restore_nothing : (v : Target) (locks : List Lock) → Every (λ (l : Lock). with_lock l v.granted ≡ v.granted) locks
    → turn v (restore_lines locks) ≡ v
restore_nothing v [] all = refl
restore_nothing v (l ∷ locks) all =
    let same : after v (Restore l) ≡ v = ap (λ (granted : List Lock). record v { granted = granted }) all.0 in
    ap (λ (w : Target). turn w (restore_lines locks)) same ∙ restore_nothing v locks all.1

kept_nothing : (v : Target) (deeds : List Deed) → turn v (kept_lines deeds) ≡ v
kept_nothing v [] = refl
kept_nothing v (d ∷ deeds) = kept_nothing v deeds

evict_nothing : (v w : Target) (gone : List _) → turn v (evict_lines w gone) ≡ v
evict_nothing v w [] = refl
evict_nothing v w (x ∷ gone) = evict_nothing v w gone

ready_nothing : (v w : Target) (lives : List Who) → turn v (ready_lines w lives) ≡ v
ready_nothing v w [] = refl
ready_nothing v w (who ∷ lives) = ready_nothing v w lives

joined_nothing : (v w : Target) (lives : List Who) → turn v (joined_lines w lives) ≡ v
joined_nothing v w [] = refl
joined_nothing v w (who ∷ lives) = joined_nothing v w lives

-- ---- what stands once the window is closed

module _ (s : ServerState) (w : _) (v : Target) (g : Gathers s w v) (at : At) where
  abbrev out : List Who
  out = gone_of (settled (window_of v)).gone

  abbrev stays : Lock → Bool
  stays l = not (is_life l.ask.who out)

  pub locks_rise : CookiesRise (settled (window_of v)).locks
  locks_rise = cookies_filter stays v.brought g.sound.cookies

  brought_stay : Every (IsBrought s.kind v.lives (first_of v.boot)) (settled (window_of v)).locks
  brought_stay = every_filter (IsBrought s.kind v.lives (first_of v.boot)) stays v.brought g.sound.brought

  pub are_ordered : AreOrdered (settled (window_of v)).locks
  are_ordered = all_every (IsBrought s.kind v.lives (first_of v.boot)) (λ l. IsOrdered l.ask.policy) (settled (window_of v)).locks
      (λ l is. is.ordered) brought_stay

  pub granted_is : (closed_at at v).granted ≡ restored [] (settled (window_of v)).locks
  granted_is =
      filter_passed (λ (l : Lock). not (is_life l.ask.who (gone_of (settled (window_of v)).gone)) ≡ true)
      (λ (l : Lock). not (is_life l.ask.who (gone_of (settled (window_of v)).gone)))
      (restored [] (settled (window_of v)).locks) (λ l is. is)
      (every_restored (λ (l : Lock). not (is_life l.ask.who (gone_of (settled (window_of v)).gone)) ≡ true) [] (settled (window_of v)).locks
      (every_kept (λ (l : Lock). not (is_life l.ask.who (gone_of (settled (window_of v)).gone))) v.brought))

  pub stand_again : StandAgain (settled (window_of v)).locks v (closed_at at v)
  stand_again = record {
    rising = ranks.pairs_from (settled (window_of v)).locks (cookies_ranks (settled (window_of v)).locks locks_rise);
    earlier = all_every (IsBrought s.kind v.lives (first_of v.boot)) (λ l. l.cookie.0 ≤ v.cookie) (settled (window_of v)).locks
        (λ l is. subst (λ n. l.cookie.0 ≤ n) (sym g.first) is.earlier) brought_stay;
    granted = granted_is;
    waiting = refl;
    called = refl;
    glimpses = refl;
    boot = refl;
    cookie = refl;
    ticks = refl;
  }

  -- what is told then changes nothing
  pub nothing_more : (gone : List _) (stay joins : List Who) (deeds : List Deed)
      → turn (closed_at at v) (kept_lines deeds ++ (restore_lines (restored [] (settled (window_of v)).locks)
      ++ (evict_lines (closed_at at v) gone ++ (ready_lines (closed_at at v) stay ++ joined_lines (closed_at at v) joins))))
      ≡ closed_at at v
  nothing_more gone stay joins deeds =
      let x : Target = closed_at at v in
      let locks : List Lock = restored [] (settled (window_of v)).locks in
      let there : Every (λ (l : Lock). with_lock l x.granted ≡ x.granted) locks =
      subst (λ (granted : List Lock). Every (λ (l : Lock). with_lock l granted ≡ granted) locks) (sym granted_is)
      (again_all locks (cookies_restored [] (settled (window_of v)).locks locks_rise)) in
      turn_more x (kept_lines deeds) (restore_lines locks ++ (evict_lines x gone ++ (ready_lines x stay ++ joined_lines x joins)))
      ∙ ap (λ (y : Target). turn y (restore_lines locks ++ (evict_lines x gone ++ (ready_lines x stay ++ joined_lines x joins))))
      (kept_nothing x deeds)
      ∙ turn_more x (restore_lines locks) (evict_lines x gone ++ (ready_lines x stay ++ joined_lines x joins))
      ∙ ap (λ (y : Target). turn y (evict_lines x gone ++ (ready_lines x stay ++ joined_lines x joins))) (restore_nothing x locks there)
      ∙ turn_more x (evict_lines x gone) (ready_lines x stay ++ joined_lines x joins)
      ∙ ap (λ (y : Target). turn y (ready_lines x stay ++ joined_lines x joins)) (evict_nothing x x gone)
      ∙ turn_more x (ready_lines x stay) (joined_lines x joins)
      ∙ ap (λ (y : Target). turn y (joined_lines x joins)) (ready_nothing x x stay)
      ∙ joined_nothing x x joins

-- ---- the commit of a close

pub committed_once : (gone joins : List Who) (to : Txn) (old new : StoreState) → IsClose gone joins to old new
    → MayBeCommitted gone joins old new
committed_once gone joins to old new closed = λ v deeds redoes is. (1, closed.batches v deeds redoes is)

pub committed_told : (gone joins : List Who) (to : Txn) (old new : StoreState) (before now : Making) → IsClose gone joins to old new
    → now.at ≡ before.at
    → now.step ≡ with_line before.at before.step (line.Commit to) → (v : Target) (deeds : List Deed) (s : Settled) → Redoes deeds old v
    → AreRising v.committed (map {A = Deed} transaction_of deeds) → now ≡ giving before (commit_of (outcome_by v deeds s) ∷ [])
committed_told gone joins to old new before now closed same added v deeds s redoes rising =
    let number : (outcome_by v deeds s).disk.committed ≡ to.0 =
    stored_committed v.setting.osts v.disk (batch_of deeds (gone_of s.gone) s.joins)
    (subst (λ n. AreRising n (map {A = Deed} transaction_of deeds)) (sym redoes.disk.committed) rising)
    ∙ ap (last_number (map {A = Deed} transaction_of deeds)) redoes.disk.committed ∙ sym (last_same v.committed deeds)
    ∙ sym (closed.number v deeds redoes) in
    noted (commit_of (outcome_by v deeds s)) (line.Commit to) before now
    (ap (λ n. line_step before.at (line.Commit (record { 0 = n }))) number) same added

pub redo_rises : (lives : List Who) (most n : ℕ) (deeds : List Deed) → MayRedo lives most n deeds
    → AreRising n (map {A = Deed} transaction_of deeds)
redo_rises lives most n [] may = tt
redo_rises lives most n (d ∷ deeds) may = (may.0.2, redo_rises lives most d.reply.txn.0 deeds may.1)

module _ (s : ServerState) (w : _) (v : Target) (g : Gathers s w v) (at : At) where
  -- nor do the lines of what is kept and stands again
  pub restored_nothing : (deeds : List Deed) → turn (closed_at at v)
      (kept_lines deeds ++ restore_lines (restored [] (settled (window_of v)).locks)) ≡ closed_at at v
  restored_nothing deeds =
      let x : Target = closed_at at v in
      let locks : List Lock = restored [] (settled (window_of v)).locks in
      let there : Every (λ (l : Lock). with_lock l x.granted ≡ x.granted) locks =
      subst (λ (granted : List Lock). Every (λ (l : Lock). with_lock l granted ≡ granted) locks) (sym (granted_is s w v g at))
      (again_all locks (cookies_restored [] (settled (window_of v)).locks (locks_rise s w v g at))) in
      turn_more x (kept_lines deeds) (restore_lines locks) ∙ ap (λ (y : Target). turn y (restore_lines locks)) (kept_nothing x deeds)
      ∙ restore_nothing x locks there

-- ---- the boot of a journal stays

appended_boot : (deeds : List Deed) (j : JournalState) → (all_appended deeds j).boot ≡ j.boot
appended_boot [] j = refl
appended_boot (d ∷ deeds) j = appended_boot deeds (appended_one j d)

pub redoes_boot : (deeds : List Deed) (st : StoreState) (v : Target) → Redoes deeds st v → v.boot ≡ st.journal.boot
redoes_boot deeds st v redoes =
    redoes.window.booted.boot ∙ sym (appended_boot deeds redoes.before) ∙ ap (λ (it : JournalState). it.boot) (sym redoes.journal)
