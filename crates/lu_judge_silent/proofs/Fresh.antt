-- Marks of lines: which come before which.
use Rattle.std.proofs.Common.{◌≡◌, ℕ, ◌+◌, ◌<◌, ◌≤◌, Bool, true, false, Option, Some, None, refl, ap, ◌∙◌, arith}
use Rattle.std.specs.Prelude.{◌&&◌, nat_lt, if◌then◌else◌, IfSome}
use Rattle.std.proofs.lemmas.Bool.Decides.{nat_tests}
use Rattle.lu_msg.specs.declared.calls.Call.{Call}
use Rattle.lu_msg.specs.declared.calls.Call.TheVariants as call
use Rattle.lu_spec_laws.specs.Words.Repeats.{rebinds}
use Rattle.lu_judge_silent.specs.declared.readings.Reading.{Reading}
use Rattle.lu_judge_silent.specs.Readings.{asks, reads_of, rebound_by}
use Rattle.lu_judge_silent.specs.Tables.{Stood, Marks, rebound_for, is_fresh, if_fresh, calm_at, knows}
use Rattle.lu_judge_silent.specs.Steps.{Alike, is_handle}
use Rattle.lu_judge_silent.specs.Shown.{without}
use Rattle.lu_judge_silent.proofs.Questions.{touches, rebinds_is}

-- ---- of numbers

pub stale : (d r t : ℕ) → t ≤ d → (nat_lt d t && nat_lt r t) ≡ false
stale d r t late = grind (arith, nat_tests)

pub stale_after : (d r t : ℕ) → t ≤ r → (nat_lt d t && nat_lt r t) ≡ false
stale_after d r t late = grind (arith, nat_tests)

pub is_new : (d r t : ℕ) → d < t → r < t → (nat_lt d t && nat_lt r t) ≡ true
is_new d r t first second = grind (arith, nat_tests)

pub rebound_below : (now : ℕ) (rebound : ℕ → ℕ) → 0 < now → ((h : ℕ) → rebound h < now) → (o : Option ℕ) → rebound_for rebound o < now
rebound_below now rebound above below None = above
rebound_below now rebound above below (Some h) = below h

pub since_later : (now : ℕ) (o : Option Stood) → IfSome o (λ (st : Stood). st.since < now) → IfSome o (λ (st : Stood). st.since < now + 1)
since_later now None below = tt
since_later now (Some st) below = omega (arith, below)

-- ---- what stands

-- it is disturbed now
pub none_fresh : (m : Marks) (now : ℕ) (o : Option Stood) → now ≤ m.disturbed → IfSome o (λ (st : Stood). st.since < now) → if_fresh m o
    ≡ None
none_fresh m now None late below = refl
none_fresh m now (Some st) late below =
    let before : st.since < now = below in
    rw (stale m.disturbed (rebound_for m.rebound (reads_of st.call)) st.since (omega arith)) refl

-- a handle is opened or closed now
pub rebound_begun : (now : ℕ) (rebound : ℕ → ℕ) (k o : Option ℕ) → rebound_for (λ h. if is_handle k h then now else rebound h) o
    ≡ (if touches k o then now else rebound_for rebound o)
rebound_begun now rebound None None = refl
rebound_begun now rebound None (Some h) = refl
rebound_begun now rebound (Some k) None = refl
rebound_begun now rebound (Some k) (Some h) = refl

-- no call opens or closes the handle that it reads by
pub apart : (c : Call) → touches (rebound_by c) (reads_of c) ≡ false
apart (call.Open h path) = refl
apart (call.Close h) = refl
apart (call.Read h offset count) = refl
apart _ = refl

none_left : (begun c : Call) (fresh : Bool) → rebinds begun c ≡ true → None ≡ without begun (if fresh then Some c else None)
none_left begun c true is = rw is refl
none_left begun c false is = refl

all_left : (begun c : Call) (fresh : Bool) → rebinds begun c ≡ false → (if fresh then Some c else None)
    ≡ without begun (if fresh then Some c else None)
all_left begun c true is = rw is refl
all_left begun c false is = refl

-- what a call that begins leaves of one that stands
pub fresh_left : (m : Marks) (now : ℕ) (begun : Call) (o : Option Stood) → IfSome o (λ (st : Stood). st.since < now)
    → if_fresh (record {
      disturbed = m.disturbed;
      rebound = λ h. if is_handle (rebound_by begun) h then now else m.rebound h;
      standing =
          m.standing;
      told = m.told;
    }) o ≡ without begun (if_fresh m o)
fresh_left m now begun None below = refl
fresh_left m now begun (Some st) below = rw (rebound_begun now m.rebound (rebound_by begun) (reads_of st.call))
    (by (touches (rebound_by begun) (reads_of st.call)) (rebinds_is begun st.call)) where
      late : st.since < now
      late = below

      by : (t : Bool) → rebinds begun st.call ≡ t
          → (if nat_lt m.disturbed st.since && nat_lt (if t then now else rebound_for m.rebound (reads_of st.call)) st.since then Some st.call
          else None) ≡ without begun (if is_fresh m st.call st.since then Some st.call else None)
      by true is = rw (stale_after m.disturbed now st.since (omega (arith, late))) (none_left begun st.call (is_fresh m st.call st.since) is)
      by false is = all_left begun st.call (is_fresh m st.call st.since) is

-- ---- marks that are alike

rebound_alike : {m n : Marks} → Alike m n → (o : Option ℕ) → rebound_for n.rebound o ≡ rebound_for m.rebound o
rebound_alike alike None = refl
rebound_alike alike (Some h) = alike.rebound h

pub fresh_alike : {m n : Marks} → Alike m n → (c : Call) (t : ℕ) → is_fresh n c t ≡ is_fresh m c t
fresh_alike alike c t = rw (alike.disturbed, rebound_alike alike (reads_of c)) refl

if_fresh_alike : {m n : Marks} → Alike m n → (o : Option Stood) → if_fresh n o ≡ if_fresh m o
if_fresh_alike alike None = refl
if_fresh_alike alike (Some st) = rw (fresh_alike alike st.call st.since) refl

pub calm_alike : {m n : Marks} → Alike m n → (s : ℕ) → calm_at n s ≡ calm_at m s
calm_alike {m} {n} alike s = ap (λ (o : Option Stood). if_fresh n o) (alike.standing s) ∙ if_fresh_alike alike (m.standing s)

pub knows_alike : {m n : Marks} → Alike m n → (q : Reading) → knows n q ≡ knows m q
knows_alike {m} {n} alike q = ap (λ (t : ℕ). is_fresh n (asks q) t) (alike.told q) ∙ fresh_alike alike (asks q) (m.told q)
