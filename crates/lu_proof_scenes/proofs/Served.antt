-- Lines of a target's row: they are covered, and stand where such lines may. A target at which they stand knows lives of clients of the run
-- alone (`OfRun`). Where no turn may ask a disk, it stays in its first boot, in which it serves.
use Rattle.std.proofs.Common.{◌≡◌, ℕ, zero, suc, ◌+◌, ◌<◌, ◌≤◌, Bool, true, false, List, [], ◌∷◌, ◌++◌, Option, Some, None, refl, sym}
use Rattle.std.proofs.Common.{subst, ap, ◌∙◌, arith}
use Rattle.std.specs.Prelude.{nat_lt, nat_eq, not, if◌then◌else◌}
use Rattle.std.proofs.lemmas.Bool.{cond_both}
use Rattle.std.proofs.lemmas.Bool.Decides.{nat_tests}
use Rattle.lu_base.specs.declared.ids.At.{At}
use Rattle.lu_base.specs.declared.ids.Node.{Node}
use Rattle.lu_base.specs.declared.ids.Node.TheVariants.{Client as ToClient, Target as ToTarget}
use Rattle.lu_base.specs.declared.ids.Who.{Who}
use Rattle.lu_msg.specs.declared.calls.Call.{Call as CallOf}
use Rattle.lu_msg.specs.declared.messages.Message.{Message}
use Rattle.lu_msg.specs.declared.messages.Message.TheVariants as message
use Rattle.lu_spec_entries.specs.Carried.{Called}
use Rattle.lu_spec_entries.specs.Words.{Entry, Fail, Stands, Send, Take, Tick, Begin, Life, Block, Release, Commit, Evict, Joined}
use Rattle.lu_spec_entries.specs.Words.{Boot, Close, Wishes, Line, line, with_turn, is_target, same_life}
use Rattle.lu_spec_target.specs.Disks.{calls, failing, over_disk}
use Rattle.lu_spec_target.specs.Lives.{is_life, life_before, with_life, with_lives, without_lives}
use Rattle.lu_spec_target.specs.Locks.{called_without}
use Rattle.lu_spec_target.specs.States.{Setting, Target, is_serving, lives_from, after, turn, target_at}
use Rattle.lu_spec_target.specs.Windows.{with_wish}
use Rattle.lu_proof_lawful.specs.Covered.Runs.{IsCovered}
use Rattle.lu_proof_lawful.specs.Covered.TargetStates.{called_at}
use Rattle.lu_proof_run.proofs.Disks.{failing_past}
use Rattle.lu_proof_run.proofs.Targets.{target_line, target_left}
use Rattle.lu_proof_run.proofs.Unfailed.{failing_fails}
use Rattle.lu_spec_run.specs.Runs.{has_failed}
use Rattle.lu_proof_lawful.proofs.Invariants.Asked.{Began}
use Rattle.lu_proof_lawful.proofs.Preconditions.Covers.{EntriesCovered}
use Rattle.lu_proof_scenes.proofs.Every.{Every, every_filter, every_so}
use Rattle.lu_proof_scenes.proofs.Asking.{IsOf, AllOf, Suits, AllSuit}

-- ---- lists of lives of clients of the run

pub of_with : (clients : ℕ) (who : Who) (lives : List Who) → IsOf clients who → AllOf clients lives → AllOf clients (with_life who lives)
of_with clients who [] one all = (one, tt)
of_with clients who (w ∷ lives) one all =
    cond_both (same_life who w) (w ∷ lives) (if life_before who w then who ∷ w ∷ lives else w ∷ with_life who lives) (AllOf clients)
    (λ t. all)
    (λ t. cond_both (life_before who w) (who ∷ w ∷ lives) (w ∷ with_life who lives) (AllOf clients) (λ b. (one, all))
    (λ b. (all.0, of_with clients who lives one all.1)))

pub of_each : (clients : ℕ) (more lives : List Who) → AllOf clients more → AllOf clients lives → AllOf clients (with_lives more lives)
of_each clients [] lives each all = all
of_each clients (who ∷ more) lives each all = of_each clients more (with_life who lives) each.1 (of_with clients who lives each.0 all)

pub of_left : (clients : ℕ) (gone lives : List Who) → AllOf clients lives → AllOf clients (without_lives gone lives)
of_left clients gone lives all = every_filter (IsOf clients) (λ (w : Who). not (is_life w gone)) lives all

of_wish : (clients : ℕ) (who : Who) (wishes : List Who) → IsOf clients who → AllOf clients wishes → AllOf clients (with_wish who wishes)
of_wish clients who [] one all = (one, tt)
of_wish clients who (w ∷ wishes) one all =
    cond_both (nat_eq who.client w.client) (who ∷ wishes) (if nat_lt who.client w.client then who ∷ w ∷ wishes else w
    ∷ with_wish who wishes) (AllOf clients) (λ t. (one, all.1))
    (λ t. cond_both (nat_lt who.client w.client) (who ∷ w ∷ wishes) (w ∷ with_wish who wishes) (AllOf clients) (λ b. (one, all))
    (λ b. (all.0, of_wish clients who wishes one all.1)))

pub of_first : (clients from more : ℕ) → from + more ≤ clients → AllOf clients (lives_from from more)
of_first clients from zero low = tt
of_first clients from (suc more) low = (omega (arith, low), of_first clients (from + 1) more (omega (arith, low)))

-- ---- lines; where time may go on in the turn (Ticks), and where a turn may ask a disk (MayAsk)

-- to a client of the run
abbrev pub IsFor : (clients : ℕ) → Node → Type 0
IsFor clients (ToClient c) = c < clients
IsFor clients (ToTarget t) = ⊥

-- what it sends
abbrev pub SendServed : Type 0 → (clients : ℕ) → Node → Message → Type 0
SendServed MayAsk clients to (message.Up boot) = MayAsk × IsFor clients to
SendServed MayAsk clients to (message.Reply r) = Unit {0}
SendServed MayAsk clients to (message.Grant g) = Unit {0}
SendServed MayAsk clients to (message.Block who boot cookie) = Unit {0}
SendServed MayAsk clients to (message.Ask who boot cookie for_who xid) = Unit {0}
SendServed MayAsk clients to (message.Ready who boot committed) = MayAsk
SendServed MayAsk clients to (message.Evicted who boot) = MayAsk
SendServed MayAsk clients to _ = ⊥

abbrev pub LineServed : Type 0 → Type 0 → (clients : ℕ) → Entry → Type 0
LineServed Ticks MayAsk clients (Send to m) = SendServed MayAsk clients to m
LineServed Ticks MayAsk clients (Take n from m) = Unit {0}
LineServed Ticks MayAsk clients Tick = Ticks
LineServed Ticks MayAsk clients (Commit to batch) = MayAsk × AllOf clients batch.added
LineServed Ticks MayAsk clients (Boot boot disk) = MayAsk × AllOf clients disk.lives
LineServed Ticks MayAsk clients (Close o) = MayAsk × AllOf clients o.disk.lives
LineServed Ticks MayAsk clients (Wishes who) = IsOf clients who
LineServed Ticks MayAsk clients (Evict who cause) = MayAsk
LineServed Ticks MayAsk clients (Joined who) = MayAsk
LineServed Ticks MayAsk clients (Begin slot running) = ⊥
LineServed Ticks MayAsk clients (Stands slot running) = ⊥
LineServed Ticks MayAsk clients (Life who) = ⊥
LineServed Ticks MayAsk clients Fail = ⊥
LineServed Ticks MayAsk clients _ = Unit {0}

abbrev pub AllServed : Type 0 → Type 0 → (clients : ℕ) → List Entry → Type 0
AllServed Ticks MayAsk clients es = Every (LineServed Ticks MayAsk clients) es

module _ (Ticks MayAsk : Type 0) (clients : ℕ) where
  -- they are covered
  line_covered : (e : Entry) → LineServed Ticks MayAsk clients e → IsCovered e
  line_covered Fail s = absurd s
  line_covered (Stands slot running) s = absurd s
  line_covered e s = tt

  pub served_covered : (es : List Entry) → AllServed Ticks MayAsk clients es → EntriesCovered es
  served_covered [] s = tt
  served_covered (e ∷ es) s = (line_covered e s.0, served_covered es s.1)

  -- and they stand where such lines may
  sends_suit : (osts : ℕ) (to : Node) (m : Message) → SendServed MayAsk clients to m → Suits MayAsk osts clients (Send to m)
  sends_suit osts (ToClient c) (message.Up boot) s = s
  sends_suit osts (ToTarget t) (message.Up boot) s = absurd s.1
  sends_suit osts to (message.Ready who boot committed) s = s
  sends_suit osts to (message.Evicted who boot) s = s
  sends_suit osts to (message.Reply r) s = tt
  sends_suit osts to (message.Grant g) s = tt
  sends_suit osts to (message.Block who boot cookie) s = tt
  sends_suit osts to (message.Ask who boot cookie for_who xid) s = tt
  sends_suit osts to m s = absurd s

  line_suits : (osts : ℕ) (e : Entry) → LineServed Ticks MayAsk clients e → Suits MayAsk osts clients e
  line_suits osts (Send to m) s = sends_suit osts to m s
  line_suits osts (Life who) s = absurd s
  line_suits osts (Commit to batch) s = s
  line_suits osts (Boot boot disk) s = s
  line_suits osts (Close o) s = s
  line_suits osts (Wishes who) s = s
  line_suits osts (Evict who cause) s = s
  line_suits osts (Joined who) s = s
  line_suits osts e s = tt

  pub served_suit : (osts : ℕ) (es : List Entry) → AllServed Ticks MayAsk clients es → Every (Suits MayAsk osts clients) es
  served_suit osts es s = every_so (LineServed Ticks MayAsk clients) (Suits MayAsk osts clients) es (line_suits osts) s

  -- where none may be asked, they ask none
  pub asks_none : (MayAsk → ⊥) → (es : List Entry) → AllServed Ticks MayAsk clients es → calls es ≡ 0
  asks_none none [] s = refl
  asks_none none (Commit to batch ∷ es) s = absurd (none s.0.0)
  asks_none none (Boot boot disk ∷ es) s = absurd (none s.0.0)
  asks_none none (e ∷ es) s = ap (λ (n : ℕ). 0 + n) (asks_none none es s.1)

  -- no call begins
  pub served_began : (past : List Line) (at : At) (es : List Entry) → AllServed Ticks MayAsk clients es → (call : CallOf)
      → Began (with_turn at es past) call → Began past call
  served_began past at [] all call i = i
  served_began past at (Begin slot running ∷ es) all call i = absurd all.0
  served_began past at (e ∷ es) all call i = served_began (line at e ∷ past) at es all.1 call i

-- and count no tick, where time doesn't go on; a boot counts anew
line_still : (MayAsk : Type 0) (clients : ℕ) (v : Target) (e : Entry) → LineServed ⊥ MayAsk clients e → (after v e).ticks ≤ v.ticks
line_still MayAsk clients v Tick s = absurd s
line_still MayAsk clients v (Boot boot disk) s = omega arith
line_still MayAsk clients v e s = omega arith

pub served_still : (MayAsk : Type 0) (clients : ℕ) (v : Target) (es : List Entry) → AllServed ⊥ MayAsk clients es
    → (turn v es).ticks ≤ v.ticks
served_still MayAsk clients v [] s = omega arith
served_still MayAsk clients v (e ∷ es) s =
    let one = line_still MayAsk clients v e s.0 in
    let more = served_still MayAsk clients (after v e) es s.1 in
    omega (arith, one, more)

-- where the disk hasn't failed it didn't change the turn
pub over_unfailed : (fails : Option ℕ) (at : At) (past : List Line) (es : List Entry) → has_failed (with_turn at (over_disk fails es) past)
    ≡ false → over_disk fails es ≡ es
over_unfailed None at past es unfailed = refl
over_unfailed (Some n) at past es unfailed = by (nat_lt n (calls es)) refl
  where
    by : (b : Bool) → nat_lt n (calls es) ≡ b → failing es n ≡ es
    by true e = let low : n < calls es = grind (arith, nat_tests) in let failed = failing_fails at es n past low in absurd (cc)
    by false e = failing_past es n (grind (arith, nat_tests))

-- ---- a target knows lives of clients of the run alone

pub record OfRun (clients : ℕ) (v : Target) : Type 0 where
  pub lives : AllOf clients v.lives
  pub disk : AllOf clients v.disk.lives
  pub wishes : AllOf clients v.wishes

of_run_line : (MayAsk : Type 0) (osts clients : ℕ) (v : Target) (e : Entry) → Suits MayAsk osts clients e → OfRun clients v
    → OfRun clients (after v e)
of_run_line MayAsk osts clients v (Commit to batch) suits s =
    record {
      lives = of_each clients batch.added (without_lives batch.removed v.lives) suits.1 (of_left clients batch.removed v.lives s.lives);
      disk = of_each clients batch.added (without_lives batch.removed v.disk.lives) suits.1
          (of_left clients batch.removed v.disk.lives s.disk);
      wishes = s.wishes;
    }
of_run_line MayAsk osts clients v (Boot boot disk) suits s = record { lives = suits.1; disk = suits.1; wishes = tt }
of_run_line MayAsk osts clients v (Close o) suits s = record { lives = suits.1; disk = s.disk; wishes = tt }
of_run_line MayAsk osts clients v (Wishes who) suits s = record
    { lives = s.lives; disk = s.disk; wishes = of_wish clients who v.wishes suits s.wishes }
of_run_line MayAsk osts clients v e suits s = record { lives = s.lives; disk = s.disk; wishes = s.wishes }

pub of_run_turn : (Ticks MayAsk : Type 0) (clients : ℕ) (v : Target) (es : List Entry) → AllServed Ticks MayAsk clients es → OfRun clients v
    → OfRun clients (turn v es)
of_run_turn Ticks MayAsk clients v [] all s = s
of_run_turn Ticks MayAsk clients v (e ∷ es) all s = of_run_turn Ticks MayAsk clients (after v e) es all.1
    (of_run_line MayAsk 0 clients v e (line_suits Ticks MayAsk clients 0 e all.0) s)

pub stays_of_run : (MayAsk : Type 0) (osts : ℕ) (setting : Setting) (clients : ℕ) (past : List Line) → AllSuit MayAsk osts clients past
    → OfRun clients (target_at setting clients past)
stays_of_run MayAsk osts setting clients [] suits =
    let first : AllOf clients (lives_from 0 clients) = of_first clients 0 clients (omega arith) in
    record { lives = first; disk = of_each clients (lives_from 0 clients) [] first tt; wishes = tt }
stays_of_run MayAsk osts setting clients (l ∷ past) suits = by (is_target setting.id l.at.node) refl
    (stays_of_run MayAsk osts setting clients past suits.1)
  where
    by : (b : Bool) → is_target setting.id l.at.node ≡ b → OfRun clients (target_at setting clients past)
        → OfRun clients (target_at setting clients (l ∷ past))
    by true mine s = subst (OfRun clients) (sym (target_line setting clients past l.at l.entry mine))
        (of_run_line MayAsk osts clients (target_at setting clients past) l.entry suits.0 s)
    by false other s = subst (OfRun clients) (sym (target_left setting clients past l.at l.entry other)) s

-- ---- where no turn may ask a disk

module _ (MayAsk : Type 0) (osts : ℕ) (none : MayAsk → ⊥) (setting : Setting) (clients : ℕ) where
  -- life 1 of each client has a slot, as at first
  lives_line : (v : Target) (e : Entry) → Suits MayAsk osts clients e → (after v e).lives ≡ v.lives
  lives_line v (Commit to batch) s = absurd (none s.0)
  lives_line v (Boot boot disk) s = absurd (none s.0)
  lives_line v (Close o) s = absurd (none s.0)
  lives_line v e s = refl

  -- the target is in its first boot, in which it serves
  boot_line : (v : Target) (e : Entry) → Suits MayAsk osts clients e → (after v e).boot ≡ v.boot
  boot_line v (Boot boot disk) s = absurd (none s.0)
  boot_line v e s = refl

  closed_line : (v : Target) (e : Entry) → Suits MayAsk osts clients e → (after v e).closed ≡ v.closed
  closed_line v (Close o) s = absurd (none s.0)
  closed_line v e s = refl

  -- what no line changes is as at first
  as_first : {A : Type 0} (f : Target → A) → ((v : Target) (e : Entry) → Suits MayAsk osts clients e → f (after v e) ≡ f v)
      → (past : List Line) → AllSuit MayAsk osts clients past → f (target_at setting clients past) ≡ f (target_at setting clients [])
  as_first f same [] s = refl
  as_first f same (l ∷ past) s = by (is_target setting.id l.at.node) refl ∙ as_first f same past s.1
    where
      by : (b : Bool) → is_target setting.id l.at.node ≡ b → f (target_at setting clients (l ∷ past)) ≡ f (target_at setting clients past)
      by true mine = ap f (target_line setting clients past l.at l.entry mine) ∙ same (target_at setting clients past) l.entry s.0
      by false other = ap f (target_left setting clients past l.at l.entry other)

  pub first_lives : (past : List Line) → AllSuit MayAsk osts clients past → (target_at setting clients past).lives ≡ lives_from 0 clients
  first_lives past s = as_first (λ v. v.lives) lives_line past s

  pub first_boot : (past : List Line) → AllSuit MayAsk osts clients past → (target_at setting clients past).boot ≡ 1
  first_boot past s = as_first (λ v. v.boot) boot_line past s

  pub first_serves : (past : List Line) → AllSuit MayAsk osts clients past → is_serving (target_at setting clients past) ≡ true
  first_serves past s = rw (first_boot past s, as_first (λ v. v.closed) closed_line past s) refl

  -- nor does any lock that is called back go with a life
  pub called_same : (past : List Line) → AllSuit MayAsk osts clients past → (target_at setting clients past).called
      ≡ called_at setting.id past
  called_same [] s = refl
  called_same (l ∷ past) s = by l.entry s.0 (called_same past s.1)
    where
      own : Bool
      own = is_target setting.id l.at.node

      by : (e : Entry) → Suits MayAsk osts clients e → (target_at setting clients past).called ≡ called_at setting.id past
          → (target_at setting clients (line l.at e ∷ past)).called ≡ called_at setting.id (line l.at e ∷ past)
      by (Block called) suits h = ap (λ (cs : List Called). if own then cs ++ called ∷ [] else cs) h
      by (Release lock) suits h = ap (λ (cs : List Called). if own then called_without lock cs else cs) h
      by (Commit to batch) suits h = absurd (none suits.0)
      by (Evict who cause) suits h = absurd (none suits)
      by (Boot boot disk) suits h = absurd (none suits.0)
      by (Close o) suits h = absurd (none suits.0)
      by e suits h = h
