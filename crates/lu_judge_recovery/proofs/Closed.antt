-- What one more line makes of the closes of turns.
use Rattle.std.proofs.Common.{◌≡◌, ℕ, Bool, true, false, List, [], ◌∷◌, refl, ap, sym, ◌∙◌, subst}
use Rattle.std.specs.Prelude.{◌==◌, ◌&&◌, ◌||◌, if◌then◌else◌, Option, Some, None, unwrap_or}
use Rattle.std.specs.Bool.{then_some}
use Rattle.std.proofs.lemmas.Bool.{eqb-true}
use Rattle.lu_base.specs.declared.ids.At.{At}
use Rattle.lu_base.specs.declared.ids.Who.{Who}
use Rattle.lu_base.specs.declared.ids.Node.TheVariants.{Client, Target}
use Rattle.lu_base.specs.declared.ids.Txn.{Txn}
use Rattle.lu_base.specs.declared.locks.Cause.{Cause}
use Rattle.lu_base.specs.declared.locks.Lock.{Lock as LockOf}
use Rattle.lu_trace.specs.declared.entries.Entry.{Entry}
use Rattle.lu_trace.specs.declared.entries.Entry.TheVariants.{Close, Kept, Restore, Evict}
use Rattle.lu_trace.specs.declared.entries.Line.{Line}
use Rattle.lu_spec_laws.specs.Words.Pasts.{Past, is_target, same_turn, or_else}
use Rattle.lu_spec_laws.specs.Words.Scopes.{only_here, last_in}
use Rattle.lu_spec_laws.specs.Words.Closes.{is_lock, kept_last, last_kept, evicted_last, last_evicted, restores_it, has_restored}
use Rattle.lu_spec_laws.proofs.Tests.{itself, rest_of}
use Rattle.lu_judge_recovery.specs.Turns.{turn_at, line_at}
use Rattle.lu_judge_recovery.specs.Failing.{is_failing}
use Rattle.lu_judge_recovery.specs.Closings.{Decides, follows, Noted, Since, FitsClose, Fits, closing_of, before_close, ShowsClosings}
use Rattle.lu_judge_recovery.specs.Closings.{has_restored_in, kept_after, evicted_after, restored_after, keeps_in, lock_in}
use Rattle.lu_judge_recovery.specs.declared.closings.Closing.{Closing}
use Rattle.lu_judge_recovery.specs.declared.closings.Closings.{Closings}
use Rattle.lu_judge_recovery.specs.declared.failing.Failing.{Failing}
use Rattle.lu_judge_recovery.proofs.Lines.{only_nothing, no_turn, line_is}

-- ---- a line that says nothing of closes, or of another turn

-- the line changes nothing of what the turn says since its last close
pub record Passes (at : At) (l : Line) (past : Past) : Type 0 where
  pub closed : before_close at (l ∷ past) ≡ before_close at past
  pub kept : last_kept at (l ∷ past) ≡ last_kept at past
  pub evicted : last_evicted at (l ∷ past) ≡ last_evicted at past
  pub restored : (who : Who) (cookie : ℕ) → has_restored at who cookie (l ∷ past) ≡ has_restored at who cookie past

since_passes : (c : Closing) (at : At) (l : Line) (past : Past) → Passes at l past → Since c at past → Since c at (l ∷ past)
since_passes c at l past passes since = record {
  kept = since.kept ∙ sym passes.kept;
  evicted = since.evicted ∙ sym passes.evicted;
  restored = λ who cookie. since.restored who cookie ∙ sym (passes.restored who cookie);
}

fits_passes : (o : Option Closing) (clients t : ℕ) (at : At) (l : Line) (past : Past) (b : Option Past) → Passes at l past
    → Fits o clients t at b past → Fits o clients t at b (l ∷ past)
fits_passes None clients t at l past None passes fits = tt
fits_passes None clients t at l past (Some before) passes fits = absurd fits
fits_passes (Some c) clients t at l past None passes fits = absurd fits
fits_passes (Some c) clients t at l past (Some before) passes fits =
    record { decides = fits.decides; since = since_passes c at l past passes fits.since }

shows_passes : (o : Option Closing) (clients t : ℕ) (at : At) (l : Line) (past : Past) → Passes at l past
    → Fits o clients t at (before_close at past) past
    → Fits o clients t at (before_close at (l ∷ past)) (l ∷ past)
shows_passes o clients t at l past passes fits =
    subst (λ (b : Option Past). Fits o clients t at b (l ∷ past)) (sym passes.closed)
    (fits_passes o clients t at l past (before_close at past) passes fits)

closed_apart : (at here : At) (e : Entry) (past : Past) → same_turn here at ≡ false
    → before_close at (record { at = here; entry = e } ∷ past) ≡ before_close at past
closed_apart at here Close past other = ap (λ (b : Bool). or_else (then_some b past) (before_close at past)) other
closed_apart at here _ past other = refl

pub apart_passes : (at : At) (l : Line) (past : Past) → same_turn l.at at ≡ false → Passes at l past
apart_passes at l past other = record {
  closed = closed_apart at l.at l.entry past other;
  kept = ap (λ (o : Option ℕ). unwrap_or (or_else o (last_in kept_last at past)) 0)
      (only_nothing (kept_last l.entry) (same_turn l.at at) other);
  evicted = ap (λ (o : Option (Option Who)). unwrap_or (or_else o (last_in evicted_last at past)) None)
      (only_nothing (evicted_last l.entry) (same_turn l.at at) other);
  restored = λ who cookie. ap (λ (o : Option Bool). unwrap_or (or_else o (last_in (restores_it who cookie) at past)) false)
      (only_nothing (restores_it who cookie l.entry) (same_turn l.at at) other);
}

-- the entry is a close
abbrev pub is_close : Entry → Bool
is_close Close = true
is_close _ = false

quiet_passes : (at here : At) (e : Entry) (past : Past) → is_close e ≡ false → follows e ≡ false
    → Passes at (record { at = here; entry = e }) past
quiet_passes at here Close past opened quiet = absurd (cc)
quiet_passes at here (Kept number) past opened quiet = absurd (cc)
quiet_passes at here (Evict who cause) past opened quiet = absurd (cc)
quiet_passes at here (Restore lock) past opened quiet = absurd (cc)
quiet_passes at here _ past opened quiet = record { closed = refl; kept = refl; evicted = refl; restored = λ who cookie. refl }

pub quiet_closings : (c : Closings) (f : Failing) (clients : ℕ) (past : Past) (l : Line) → is_close l.entry ≡ false → follows l.entry
    ≡ false
    → ShowsClosings c f clients past → ShowsClosings c f clients (l ∷ past)
quiet_closings c f clients past l opened quiet shown = λ s t sound.
    shows_passes (closing_of c s t) clients t (turn_at s t) l past (quiet_passes (turn_at s t) l.at l.entry past opened quiet)
    (shown s t sound)

pub client_closings : (c : Closings) (f : Failing) (clients : ℕ) (past : Past) (l : Line) (client : ℕ) → l.at.node ≡ Client client
    → ShowsClosings c f clients past → ShowsClosings c f clients (l ∷ past)
client_closings c f clients past l client is shown = λ s t sound.
    shows_passes (closing_of c s t) clients t (turn_at s t) l past
    (apart_passes (turn_at s t) l past (no_turn s t client l.at.node l.at.stamp.0 is)) (shown s t sound)

-- ---- a close

turn_itself : (s t : ℕ) → (s == s && t == t) ≡ true
turn_itself s t = rw (itself s) (itself t)

since_close : (c : Closing) (s t : ℕ) (past : Past) → c.last_kept ≡ 0 → c.last_evicted ≡ None
    → ((who : Who) (cookie : ℕ) → has_restored_in c who cookie ≡ false)
    → Since c (turn_at s t) (line_at s t Close ∷ past)
since_close c s t past kept evicted restored = record {
  kept = kept ∙ sym (by_kept (s == s && t == t) (turn_itself s t));
  evicted = evicted ∙ sym (by_evicted (s == s && t == t) (turn_itself s t));
  restored = λ who cookie. restored who cookie ∙ sym (by_restored who cookie (s == s && t == t) (turn_itself s t));
} where
  by_kept : (here : Bool) → here ≡ true → unwrap_or (or_else (only_here (Some 0) here) (last_in kept_last (turn_at s t) past)) 0 ≡ 0
  by_kept true is = refl
  by_kept false is = absurd (cc)

  by_evicted : (here : Bool) → here ≡ true → unwrap_or (or_else (only_here (Some None) here) (last_in evicted_last (turn_at s t) past)) None
      ≡ None
  by_evicted true is = refl
  by_evicted false is = absurd (cc)

  by_restored : (who : Who) (cookie : ℕ) (here : Bool) → here ≡ true
      → unwrap_or (or_else (only_here (Some false) here) (last_in (restores_it who cookie) (turn_at s t) past)) false ≡ false
  by_restored who cookie true is = refl
  by_restored who cookie false is = absurd (cc)

closed_here : (s t : ℕ) (past : Past) (here : Bool) → here ≡ true → or_else (then_some here past) (before_close (turn_at s t) past)
    ≡ Some past
closed_here s t past true is = refl
closed_here s t past false is = absurd (cc)

fits_close : (c : Closing) (clients s t : ℕ) (past : Past) → Decides c clients t past → c.last_kept ≡ 0 → c.last_evicted ≡ None
    → ((who : Who) (cookie : ℕ) → has_restored_in c who cookie ≡ false)
    → Fits (Some c) clients t (turn_at s t) (before_close (turn_at s t) (line_at s t Close ∷ past)) (line_at s t Close ∷ past)
fits_close c clients s t past decides kept evicted restored =
    subst (λ (b : Option Past). Fits (Some c) clients t (turn_at s t) b (line_at s t Close ∷ past))
    (sym (closed_here s t past (s == s && t == t) (turn_itself s t)))
    (record { decides = decides; since = since_close c s t past kept evicted restored })

-- the turn is this one, or another one
split_turn : (P : ℕ → ℕ → Type 0) (stamp target s t : ℕ) → P stamp target → ((stamp == s && target == t) ≡ false → P s t) → P s t
split_turn P stamp target s t here there = by (stamp == s) (target == t) refl refl where
  by : (a b : Bool) → (stamp == s) ≡ a → (target == t) ≡ b → P s t
  by true true p q = subst (λ (u : ℕ). P u t) (eqb-true stamp s p) (subst (λ (v : ℕ). P stamp v) (eqb-true target t q) here)
  by true false p q = there (rw (p, q) refl)
  by false b p q = there (rw p refl)

pub close_closings : (old new : Closings) (f : Failing) (clients : ℕ) (past : Past) (stamp target : ℕ) (c : Closing)
    → Decides c clients target past
    → c.last_kept ≡ 0 → c.last_evicted ≡ None → ((who : Who) (cookie : ℕ) → has_restored_in c who cookie ≡ false)
    → ((s t : ℕ) → closing_of new s t ≡ (if stamp == s && target == t then Some c else closing_of old s t))
    → ShowsClosings old f clients past → ShowsClosings new f clients (line_at stamp target Close ∷ past)
close_closings old new f clients past stamp target c decides kept evicted restored puts shown = λ s t.
    split_turn (λ (s t : ℕ). is_failing f s t ≡ false → Fits (closing_of new s t) clients t (turn_at s t)
    (before_close (turn_at s t) (line_at stamp target Close ∷ past)) (line_at stamp target Close ∷ past))
    stamp target s t
    (λ sound. subst (λ (o : Option Closing). Fits o clients target (turn_at stamp target)
    (before_close (turn_at stamp target) (line_at stamp target Close ∷ past)) (line_at stamp target Close ∷ past))
    (sym (puts stamp target ∙ ap (λ (b : Bool). if b then Some c else closing_of old stamp target) (turn_itself stamp target)))
    (fits_close c clients stamp target past decides kept evicted restored))
    (λ other sound. subst (λ (o : Option Closing). Fits o clients t (turn_at s t)
    (before_close (turn_at s t) (line_at stamp target Close ∷ past)) (line_at stamp target Close ∷ past))
    (sym (puts s t ∙ ap (λ (b : Bool). if b then Some c else closing_of old s t) other))
    (shows_passes (closing_of old s t) clients t (turn_at s t) (line_at stamp target Close) past
    (apart_passes (turn_at s t) (line_at stamp target Close) past other) (shown s t sound)))

-- a close in a turn in which the disk fails
pub failing_closings : (c : Closings) (f : Failing) (clients : ℕ) (past : Past) (stamp target : ℕ) → is_failing f stamp target ≡ true
    → ShowsClosings c f clients past → ShowsClosings c f clients (line_at stamp target Close ∷ past)
failing_closings c f clients past stamp target fails shown = λ s t.
    split_turn (λ (s t : ℕ). is_failing f s t ≡ false → Fits (closing_of c s t) clients t (turn_at s t)
    (before_close (turn_at s t) (line_at stamp target Close ∷ past)) (line_at stamp target Close ∷ past))
    stamp target s t
    (λ sound. absurd (cc (sym fails ∙ sound)))
    (λ other sound.
    shows_passes (closing_of c s t) clients t (turn_at s t) (line_at stamp target Close) past
    (apart_passes (turn_at s t) (line_at stamp target Close) past other) (shown s t sound))

-- ---- a line that follows

closed_follows : (at here : At) (e : Entry) (past : Past) → follows e ≡ true → before_close at (record { at = here; entry = e } ∷ past)
    ≡ before_close at past
closed_follows at here Close past f = absurd (cc)
closed_follows at here _ past f = refl

kept_follows : (s t : ℕ) (e : Entry) (past : Past) → follows e ≡ true → last_kept (turn_at s t) (line_at s t e ∷ past)
    ≡ kept_after e (last_kept (turn_at s t) past)
kept_follows s t (Kept number) past f = rw (turn_itself s t) refl
kept_follows s t (Evict who cause) past f = refl
kept_follows s t (Restore lock) past f = refl
kept_follows s t _ past f = absurd (cc)

evicted_follows : (s t : ℕ) (e : Entry) (past : Past) → follows e ≡ true → last_evicted (turn_at s t) (line_at s t e ∷ past)
    ≡ evicted_after e (last_evicted (turn_at s t) past)
evicted_follows s t (Kept number) past f = refl
evicted_follows s t (Evict who cause) past f = rw (turn_itself s t) refl
evicted_follows s t (Restore lock) past f = refl
evicted_follows s t _ past f = absurd (cc)

restored_one : (here is : Bool) (rest : Option Bool) → here ≡ true → unwrap_or (or_else (only_here (then_some is true) here) rest) false
    ≡ (if is then true else unwrap_or rest false)
restored_one true true rest e = refl
restored_one true false rest e = refl
restored_one false is rest e = absurd (cc)

restored_follows : (s t : ℕ) (e : Entry) (past : Past) (who : Who) (cookie : ℕ) → follows e ≡ true
    → has_restored (turn_at s t) who cookie (line_at s t e ∷ past)
    ≡ restored_after who cookie e (has_restored (turn_at s t) who cookie past)
restored_follows s t (Kept number) past who cookie f = refl
restored_follows s t (Evict other cause) past who cookie f = refl
restored_follows s t (Restore lock) past who cookie f =
    restored_one (s == s && t == t) (is_lock who cookie lock) (last_in (restores_it who cookie) (turn_at s t) past) (turn_itself s t)
restored_follows s t _ past who cookie f = absurd (cc)

since_follows : (old new : Closing) (s t : ℕ) (e : Entry) (past : Past) → follows e ≡ true → Noted old new e → Since old (turn_at s t) past
    → Since new (turn_at s t) (line_at s t e ∷ past)
since_follows old new s t e past f noted since = record {
  kept = noted.last_kept ∙ ap (kept_after e) since.kept ∙ sym (kept_follows s t e past f);
  evicted = noted.last_evicted ∙ ap (evicted_after e) since.evicted ∙ sym (evicted_follows s t e past f);
  restored = λ who cookie. noted.restored who cookie ∙ ap (restored_after who cookie e) (since.restored who cookie)
      ∙ sym (restored_follows s t e past who cookie f);
}

decides_follows : (old new : Closing) (e : Entry) (clients t : ℕ) (before : Past) → Noted old new e → Decides old clients t before
    → Decides new clients t before
decides_follows old new e clients t before noted decides = record {
  kept = λ n. rw noted.kept (decides.kept n);
  causes = rw noted.causes decides.causes;
  locks = λ who cookie. rw noted.locks (decides.locks who cookie);
}

fits_follows : (old new : Closing) (clients s t : ℕ) (e : Entry) (past : Past) (b : Option Past) → follows e ≡ true → Noted old new e
    → Fits (Some old) clients t (turn_at s t) b past → Fits (Some new) clients t (turn_at s t) b (line_at s t e ∷ past)
fits_follows old new clients s t e past None f noted fits = absurd fits
fits_follows old new clients s t e past (Some before) f noted fits = record {
  decides = decides_follows old new e clients t before noted fits.decides;
  since = since_follows old new s t e past f noted fits.since;
}

-- the turn had a close, and the line is noted
pub noted_closings : (old new : Closings) (f : Failing) (clients : ℕ) (past : Past) (stamp target : ℕ) (e : Entry) (was is : Closing)
    → follows e ≡ true
    → closing_of old stamp target ≡ Some was → Noted was is e
    → ((s t : ℕ) → closing_of new s t ≡ (if stamp == s && target == t then Some is else closing_of old s t))
    → ShowsClosings old f clients past → ShowsClosings new f clients (line_at stamp target e ∷ past)
noted_closings old new f clients past stamp target e was is goes had noted puts shown = λ s t.
    split_turn (λ (s t : ℕ). is_failing f s t ≡ false → Fits (closing_of new s t) clients t (turn_at s t)
    (before_close (turn_at s t) (line_at stamp target e ∷ past)) (line_at stamp target e ∷ past))
    stamp target s t
    (λ sound. subst (λ (o : Option Closing). Fits o clients target (turn_at stamp target)
    (before_close (turn_at stamp target) (line_at stamp target e ∷ past)) (line_at stamp target e ∷ past))
    (sym (puts stamp target ∙ ap (λ (b : Bool). if b then Some is else closing_of old stamp target) (turn_itself stamp target)))
    (subst (λ (b : Option Past). Fits (Some is) clients target (turn_at stamp target) b (line_at stamp target e ∷ past))
    (sym (closed_follows (turn_at stamp target) (turn_at stamp target) e past goes))
    (fits_follows was is clients stamp target e past (before_close (turn_at stamp target) past) goes noted
    (subst (λ (o : Option Closing). Fits o clients target (turn_at stamp target) (before_close (turn_at stamp target) past) past) had
    (shown stamp target sound)))))
    (λ other sound. subst (λ (o : Option Closing). Fits o clients t (turn_at s t)
    (before_close (turn_at s t) (line_at stamp target e ∷ past)) (line_at stamp target e ∷ past))
    (sym (puts s t ∙ ap (λ (b : Bool). if b then Some is else closing_of old s t) other))
    (shows_passes (closing_of old s t) clients t (turn_at s t) (line_at stamp target e) past
    (apart_passes (turn_at s t) (line_at stamp target e) past other) (shown s t sound)))

fits_none : (clients t : ℕ) (at : At) (past more : Past) (b : Option Past) → Fits None clients t at b past → Fits None clients t at b more
fits_none clients t at past more None fits = tt
fits_none clients t at past more (Some before) fits = absurd fits

-- the turn had none
pub unclosed_closings : (old new : Closings) (f : Failing) (clients : ℕ) (past : Past) (stamp target : ℕ) (e : Entry) → follows e ≡ true
    → closing_of old stamp target ≡ None → ((s t : ℕ) → closing_of new s t
    ≡ (if stamp == s && target == t then None else closing_of old s t))
    → ShowsClosings old f clients past → ShowsClosings new f clients (line_at stamp target e ∷ past)
unclosed_closings old new f clients past stamp target e goes had puts shown = λ s t.
    split_turn (λ (s t : ℕ). is_failing f s t ≡ false → Fits (closing_of new s t) clients t (turn_at s t)
    (before_close (turn_at s t) (line_at stamp target e ∷ past)) (line_at stamp target e ∷ past))
    stamp target s t
    (λ sound. subst (λ (o : Option Closing). Fits o clients target (turn_at stamp target)
    (before_close (turn_at stamp target) (line_at stamp target e ∷ past)) (line_at stamp target e ∷ past))
    (sym (puts stamp target ∙ ap (λ (b : Bool). if b then None else closing_of old stamp target) (turn_itself stamp target)))
    (subst (λ (b : Option Past). Fits None clients target (turn_at stamp target) b (line_at stamp target e ∷ past))
    (sym (closed_follows (turn_at stamp target) (turn_at stamp target) e past goes))
    (fits_none clients target (turn_at stamp target) past (line_at stamp target e ∷ past) (before_close (turn_at stamp target) past)
    (subst (λ (o : Option Closing). Fits o clients target (turn_at stamp target) (before_close (turn_at stamp target) past) past) had
    (shown stamp target sound)))))
    (λ other sound. subst (λ (o : Option Closing). Fits o clients t (turn_at s t)
    (before_close (turn_at s t) (line_at stamp target e ∷ past)) (line_at stamp target e ∷ past))
    (sym (puts s t ∙ ap (λ (b : Bool). if b then None else closing_of old s t) other))
    (shows_passes (closing_of old s t) clients t (turn_at s t) (line_at stamp target e) past
    (apart_passes (turn_at s t) (line_at stamp target e) past other) (shown s t sound)))

-- ---- any other line

pub is_quiet : (e : Entry) → (e ≡ Close → ⊥) → ((number : Txn) → e ≡ Kept number → ⊥)
    → ((who : Who) (cause : Cause) → e ≡ Evict who cause → ⊥) → ((lock : LockOf) → e ≡ Restore lock → ⊥)
    → (is_close e ≡ false) × (follows e ≡ false)
is_quiet Close a b c d = absurd (a refl)
is_quiet (Kept number) a b c d = absurd (b number refl)
is_quiet (Evict who cause) a b c d = absurd (c who cause refl)
is_quiet (Restore lock) a b c d = absurd (d lock refl)
is_quiet _ a b c d = (refl, refl)
