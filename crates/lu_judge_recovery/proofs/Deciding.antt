-- What the last close of a turn decided, as its table has it.
use Rattle.std.proofs.Common.{◌≡◌, ℕ, ◌<◌, Bool, true, false, List, [], ◌∷◌, refl, ap, sym, ◌∙◌, subst}
use Rattle.std.specs.Prelude.{not, if◌then◌else◌, Option, Some, None, ◌↔◌}
use Rattle.std.specs.Bool.{then_some}
use Rattle.std.specs.Option.{option_map}
use Rattle.lu_base.specs.declared.ids.At.{At}
use Rattle.lu_base.specs.declared.ids.Who.{Who}
use Rattle.lu_base.specs.declared.locks.Cause.{Cause}
use Rattle.lu_base.specs.declared.locks.Lock.{Lock as LockOf}
use Rattle.lu_trace.specs.declared.entries.Entry.{Entry}
use Rattle.lu_trace.specs.declared.entries.Entry.TheVariants.{Close}
use Rattle.lu_trace.specs.declared.entries.Line.{Line}
use Rattle.lu_spec_laws.specs.Words.Pasts.{Past, same_turn, or_else, newest}
use Rattle.lu_spec_laws.specs.Words.Closes.{kept_at, cause_at, restored_at, find_lock, closes_in, decided, is_finished, last_kept}
use Rattle.lu_spec_laws.specs.Words.Closes.{last_evicted, has_restored}
use Rattle.lu_spec_laws.specs.Laws.Recovery.{KeptAfter, KeptIn, RestoredAfter, RestoredIn, EvictedBy, EvictedAfter, EvictedIn}
use Rattle.lu_judge_recovery.specs.Failing.{fails}
use Rattle.lu_judge_recovery.specs.Closings.{Fits, FitsDecided, before_close, before_decided, keeps_in, cause_in, lock_in, has_restored_in}
use Rattle.lu_judge_recovery.specs.Closings.{KeptBy}
use Rattle.lu_judge_recovery.specs.declared.closings.Closing.{Closing}
use Rattle.lu_judge_recovery.proofs.Listed.{cause_is}

-- ---- what a close decided is decided from the lines before it

or_map : {A : Type 0} (d : Past → A) (here : Bool) (past : Past) (a : Option A) (b : Option Past) → a ≡ option_map d b
    → or_else (then_some here (d past)) a ≡ option_map d (or_else (then_some here past) b)
or_map d true past a b is = refl
or_map d false past a b is = is

closed_line : {A : Type 0} (d : Past → A) (at here : At) (e : Entry) (past : Past) → newest (closes_in d at) past
    ≡ option_map d (before_close at past)
    → newest (closes_in d at) (record { at = here; entry = e } ∷ past)
    ≡ option_map d (before_close at (record { at = here; entry = e } ∷ past))
closed_line d at here Close past is = or_map d (same_turn here at) past (newest (closes_in d at) past) (before_close at past) is
closed_line d at here _ past is = is

closed_from : {A : Type 0} (d : Past → A) (at : At) (past : Past) → newest (closes_in d at) past ≡ option_map d (before_close at past)
closed_from d at [] = refl
closed_from d at (l ∷ past) = closed_line d at l.at l.entry past (closed_from d at past)

pub decided_from : {A : Type 0} (d : Past → A) (at : At) (past : Past) (later : List Line) → decided d at past later
    ≡ option_map d (before_decided at past later)
decided_from {A} d at past later = by (is_finished at past later) where
  by : (b : Bool) → (if b then newest (closes_in d at) past else None) ≡ option_map d (if b then before_close at past else None)
  by true = closed_from d at past
  by false = refl

-- ---- the table's close

pub fits_failing : (clients t : ℕ) (at : At) (past : Past) (later : List Line) → fails at past later ≡ true
    → FitsDecided None clients t at past later
fits_failing clients t at past later is =
    subst (λ (b : Bool). Fits None clients t at (if not b then before_close at past else None) past) (sym is) tt

pub fits_sound : (o : Option Closing) (clients t : ℕ) (at : At) (past : Past) (later : List Line) → fails at past later ≡ false
    → Fits o clients t at (before_close at past) past
    → FitsDecided o clients t at past later
fits_sound o clients t at past later is fits =
    subst (λ (b : Bool). Fits o clients t at (if not b then before_close at past else None) past) (sym is) fits

-- ---- `kept` lines

kept_by : (o : Option Closing) (clients t : ℕ) (at : At) (past : Past) (n : ℕ) (b : Option Past) → Fits o clients t at b past → KeptBy o n
    ↔ KeptIn (option_map (kept_at t) b) (last_kept at past) n
kept_by None clients t at past n None fits = (λ k. tt, λ k. tt)
kept_by None clients t at past n (Some before) fits = absurd fits
kept_by (Some c) clients t at past n None fits = absurd fits
kept_by (Some c) clients t at past n (Some before) fits = (
  λ k. record { named = sym (fits.decides.kept n) ∙ k.0; rises = subst (λ (m : ℕ). m < n) fits.since.kept k.1 },
  λ k. (fits.decides.kept n ∙ k.named, subst (λ (m : ℕ). m < n) (sym fits.since.kept) k.rises),
)

pub kept_decided : (o : Option Closing) (clients t : ℕ) (at : At) (past : Past) (later : List Line) (n : ℕ)
    → FitsDecided o clients t at past later
    → KeptBy o n ↔ KeptIn (decided (kept_at t) at past later) (last_kept at past) n
kept_decided o clients t at past later n fits =
    subst (λ (d : Option (List ℕ)). KeptBy o n ↔ KeptIn d (last_kept at past) n) (sym (decided_from (kept_at t) at past later))
    (kept_by o clients t at past n (before_decided at past later) fits)

-- ---- `restore` lines

abbrev pub RestoredBy : Option Closing → LockOf → Type 0
RestoredBy None lock = Unit {0}
RestoredBy (Some c) lock = RestoredAfter (lock_in c lock.ask.who lock.cookie.0) (has_restored_in c lock.ask.who lock.cookie.0) lock

same_after : (a b : Option LockOf) (x y : Bool) (lock : LockOf) → a ≡ b → x ≡ y → RestoredAfter a x lock → RestoredAfter b y lock
same_after a b x y lock p q r = record { named = sym p ∙ r.named; once = sym q ∙ r.once }

restored_by : (o : Option Closing) (clients t : ℕ) (at : At) (past : Past) (lock : LockOf) (b : Option Past) → Fits o clients t at b past
    → RestoredBy o lock ↔ RestoredIn (option_map (restored_at t) b) (has_restored at lock.ask.who lock.cookie.0 past) lock
restored_by None clients t at past lock None fits = (λ k. tt, λ k. tt)
restored_by None clients t at past lock (Some before) fits = absurd fits
restored_by (Some c) clients t at past lock None fits = absurd fits
restored_by (Some c) clients t at past lock (Some before) fits =
    let due = fits.decides.locks lock.ask.who lock.cookie.0 in
    let once = fits.since.restored lock.ask.who lock.cookie.0 in
    (λ k. same_after _ _ _ _ lock due once k, λ k. same_after _ _ _ _ lock (sym due) (sym once) k)

pub restored_decided : (o : Option Closing) (clients t : ℕ) (at : At) (past : Past) (later : List Line) (lock : LockOf)
    → FitsDecided o clients t at past later
    → RestoredBy o lock ↔ RestoredIn (decided (restored_at t) at past later) (has_restored at lock.ask.who lock.cookie.0 past) lock
restored_decided o clients t at past later lock fits =
    subst (λ (d : Option (List LockOf)). RestoredBy o lock ↔ RestoredIn d (has_restored at lock.ask.who lock.cookie.0 past) lock)
    (sym (decided_from (restored_at t) at past later))
    (restored_by o clients t at past lock (before_decided at past later) fits)

-- ---- `evict` lines

abbrev pub EvictedFor : Option Closing → ℕ → Past → At → Who → Cause → Type 0
EvictedFor None t past at who cause = EvictedBy t past at who cause
EvictedFor (Some c) t past at who cause = EvictedAfter (cause_in c who) c.last_evicted who cause

same_evicted : (a b : Option Cause) (x y : Option Who) (who : Who) (cause : Cause) → a ≡ b → x ≡ y → EvictedAfter a x who cause
    → EvictedAfter b y who cause
same_evicted a b x y who cause p q r = subst (λ (o : Option Cause). EvictedAfter o y who cause) p
    (subst (λ (l : Option Who). EvictedAfter a l who cause) q r)

evicted_by : (o : Option Closing) (clients t : ℕ) (at : At) (past : Past) (who : Who) (cause : Cause) (b : Option Past)
    → who.client < clients → Fits o clients t at b past
    → EvictedFor o t past at who cause ↔ EvictedIn t past at who cause (option_map (λ before. cause_at t before who) b)
evicted_by None clients t at past who cause None below fits = (λ k. k, λ k. k)
evicted_by None clients t at past who cause (Some before) below fits = absurd fits
evicted_by (Some c) clients t at past who cause None below fits = absurd fits
evicted_by (Some c) clients t at past who cause (Some before) below fits =
    let due = cause_is c.causes clients t before who below fits.decides.causes in
    (λ k. same_evicted _ _ _ _ who cause due fits.since.evicted k, λ k. same_evicted _ _ _ _ who cause (sym due) (sym fits.since.evicted) k)

pub evicted_decided : (o : Option Closing) (clients t : ℕ) (at : At) (past : Past) (later : List Line) (who : Who) (cause : Cause)
    → who.client < clients
    → FitsDecided o clients t at past later
    → EvictedFor o t past at who cause ↔ EvictedIn t past at who cause (decided (λ before. cause_at t before who) at past later)
evicted_decided o clients t at past later who cause below fits =
    subst (λ (d : Option (Option Cause)). EvictedFor o t past at who cause ↔ EvictedIn t past at who cause d)
    (sym (decided_from (λ before. cause_at t before who) at past later))
    (evicted_by o clients t at past who cause (before_decided at past later) below fits)
