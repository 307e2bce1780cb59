-- The calls that are watched, after a line; and that the files of those are.
use Rattle.std.proofs.Common.{◌≡◌, ℕ, ◌<◌, Bool, true, false, List, [], ◌∷◌, refl, ap, ◌∙◌, sym, subst, arith}
use Rattle.std.specs.Prelude.{◌==◌, ◌&&◌, ◌||◌, nat_lt, if◌then◌else◌, Option, Some, None}
use Rattle.std.specs.List.{list_any}
use Rattle.std.specs.Map.{lookup, values_of}
use Rattle.lu_base.specs.declared.ids.At.{At}
use Rattle.lu_base.specs.declared.ids.Fid.{Fid}
use Rattle.lu_trace.specs.declared.entries.Entry.{Entry}
use Rattle.lu_trace.specs.declared.entries.Entry.TheVariants.{Begin, Told}
use Rattle.lu_trace.specs.declared.entries.Line.{Line}
use Rattle.lu_spec_laws.specs.Words.Pasts.{Past, is_client}
use Rattle.lu_spec_laws.specs.Words.Calls.{Begun, begun, open_call, file_of}
use Rattle.lu_judge_glimpse.specs.declared.counts.Counts.{Counts}
use Rattle.lu_judge_glimpse.specs.Begins.{begun_place, count_in}
use Rattle.lu_judge_glimpse.specs.declared.glimpses.Watch.{Watch}
use Rattle.lu_judge_glimpse.specs.Watched.{logged, watch_of, watch_begun, watch_after, CoversCall, Covers}
use Rattle.lu_judge_glimpse.proofs.Numbers.{eq_is, eq_same, lt_is, and_left, and_right, and_true}

-- the call that begins is watched
watched : (counts : Counts) (place : ℕ) (old : Option Watch) (file : Option Fid) (f : Fid) → file ≡ Some f → 0 < count_in counts place
    → watch_of counts place old file ≡ Some (record { fid = f; count = count_in counts place })
watched counts place old None f there more = absurd (cc (there))
watched counts place old (Some g) f there more =
    let same : g ≡ f = cc (there) in
    ap (λ (v : Bool). if v then Some (record { fid = g; count = count_in counts place }) else old) (lt_is 0 (count_in counts place) more)
    ∙ ap (λ (h : Fid). Some (record { fid = h; count = count_in counts place })) same

began : (counts : Counts) (here : Bool) (next place : ℕ) (old : Option Watch) (b : Begun) (o : Option Begun) → CoversCall old counts place o
    → CoversCall (if here then watch_begun counts (if here then next else place) old (if here then Some b else o) else old) counts
    (if here then next else place) (if here then Some b else o)
began counts true next place old b o covers = λ f there more. watched counts next old (file_of b) f there more
began counts false next place old b o covers = covers

told : (counts : Counts) (here : Bool) (place : ℕ) (old : Option Watch) (o : Option Begun) → CoversCall old counts place o
    → CoversCall (if here then None else old) counts place (if here then None else o)
told counts true place old o covers = tt
told counts false place old o covers = covers

covers_entry : (counts : Counts) (old new : ℕ → ℕ → Option Watch) (past : Past) (at : At) (e : Entry)
    → ((c slot : ℕ) → new c slot ≡ watch_after counts (record { at = at; entry = e } ∷ past) (record { at = at; entry = e }) c slot
    (old c slot))
    → Covers old counts past
    → (c slot : ℕ) → CoversCall (watch_after counts (record { at = at; entry = e } ∷ past) (record { at = at; entry = e }) c slot
    (old c slot)) counts (begun_place c slot (record { at = at; entry = e } ∷ past))
    (open_call c slot (record { at = at; entry = e } ∷ past))
covers_entry counts old new past at (Begin other call) is covers c slot =
    began counts (is_client c at.node && other == slot) _ (begun_place c slot past) (old c slot) (begun c past at call)
    (open_call c slot past) (covers c slot)
covers_entry counts old new past at (Told other turn answer) is covers c slot =
    told counts (is_client c at.node && other == slot) (begun_place c slot past) (old c slot) (open_call c slot past) (covers c slot)
covers_entry counts old new past at _ is covers c slot = covers c slot

pub covers_line : (counts : Counts) (old new : ℕ → ℕ → Option Watch) (past : Past) (l : Line)
    → ((c slot : ℕ) → new c slot ≡ watch_after counts (l ∷ past) l c slot (old c slot))
    → Covers old counts past → Covers new counts (l ∷ past)
covers_line counts old new past l is covers c slot =
    subst (λ (w : Option Watch). CoversCall w counts (begun_place c slot (l ∷ past)) (open_call c slot (l ∷ past))) (sym (is c slot))
    (covers_entry counts old new past l.at l.entry is covers c slot)

-- ---- a watched file is logged

pub found_logged : {K : Type 0} (test : K → Bool) (entries : List (K × Watch)) (w : Watch) (stripe : ℕ) → lookup test entries ≡ Some w
    → stripe < w.count → logged (values_of entries) w.fid stripe ≡ true
found_logged test [] w stripe found few = absurd (cc (found))
found_logged test (e ∷ entries) w stripe found few = by (test e.0) refl (λ rest. found_logged test entries w stripe rest few)
  where
    or_true : (a : Bool) → (a || true) ≡ true
    or_true true = refl
    or_true false = refl

    by : (v : Bool) → test e.0 ≡ v → (lookup test entries ≡ Some w → logged (values_of entries) w.fid stripe ≡ true)
        → ((e.1.fid.0 == w.fid.0 && nat_lt stripe e.1.count) || logged (values_of entries) w.fid stripe) ≡ true
    by true is later =
        let first : Some e.1 ≡ Some w = sym (ap (λ (v : Bool). if v then Some e.1 else lookup test entries) is) ∙ found in
        let same : e.1 ≡ w = cc (first) in
        ap (λ (x : Watch). (x.fid.0 == w.fid.0 && nat_lt stripe x.count) || logged (values_of entries) w.fid stripe) same
        ∙ ap (λ (v : Bool). v || logged (values_of entries) w.fid stripe)
        (and_true (w.fid.0 == w.fid.0) (nat_lt stripe w.count) (eq_same w.fid.0) (lt_is stripe w.count few))
    by false is later =
        let rest : lookup test entries ≡ Some w = sym (ap (λ (v : Bool). if v then Some e.1 else lookup test entries) is) ∙ found in
        ap (λ (v : Bool). (e.1.fid.0 == w.fid.0 && nat_lt stripe e.1.count) || v) (later rest)
        ∙ or_true (e.1.fid.0 == w.fid.0 && nat_lt stripe e.1.count)

-- ---- a call that begins

pub began_is : (counts : Counts) (place : ℕ) (old : Option Watch) (f : Fid) (o : Option Begun) (b : Begun) → o ≡ Some b → file_of b ≡ Some f
    → 0 < count_in counts place
    → watch_begun counts place old o ≡ Some (record { fid = f; count = count_in counts place })
began_is counts place old f o b is there more = ap (watch_begun counts place old) is ∙ watched counts place old (file_of b) f there more

-- the slot is that of the call
pub moved : (client c slot s : ℕ) (of : ℕ → ℕ → Option Watch) (old : Option Watch)
    → (if client == c && slot == s then of client slot else old) ≡ (if client == c && slot == s then of c s else old)
moved client c slot s of old = by (client == c && slot == s) refl
  where
    by : (v : Bool) → (client == c && slot == s) ≡ v → (if v then of client slot else old) ≡ (if v then of c s else old)
    by true both = ap (λ (n : ℕ). of n slot) (eq_is client c (and_left (client == c) (slot == s) both))
        ∙ ap (λ (n : ℕ). of c n) (eq_is slot s (and_right (client == c) (slot == s) both))
    by false none = refl
