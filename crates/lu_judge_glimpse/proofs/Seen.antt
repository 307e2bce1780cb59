-- What was seen since a call began, after a line and at the end of a turn.
use Rattle.std.proofs.Common.{◌≡◌, ℕ, suc, ◌+◌, ◌<◌, ◌≤◌, Bool, true, false, List, [], ◌∷◌, length, map, refl, ap, ◌∙◌, sym, subst, arith}
use Rattle.std.specs.Prelude.{◌==◌, ◌&&◌, ◌||◌, not, nat_eq, nat_le, nat_lt, if◌then◌else◌, Option, Some, None}
use Rattle.std.specs.List.{list_any}
use Rattle.std.proofs.lemmas.Bool.Decides.{nat_tests}
use Rattle.lu_base.specs.declared.ids.At.{At}
use Rattle.lu_base.specs.declared.ids.Fid.{Fid}
use Rattle.lu_base.specs.declared.locks.Lock.{Lock}
use Rattle.lu_msg.specs.declared.calls.Call.{Call}
use Rattle.lu_trace.specs.declared.entries.Entry.{Entry}
use Rattle.lu_trace.specs.declared.entries.Entry.TheVariants.{Begin, Told, Peek}
use Rattle.lu_trace.specs.declared.entries.Line.{Line}
use Rattle.lu_spec_machine.specs.Machine.{Machine, object_of}
use Rattle.lu_spec_machine.specs.Objects.{object_size}
use Rattle.lu_spec_laws.specs.Words.Pasts.{Past, is_client, same_turn}
use Rattle.lu_spec_laws.specs.Words.Calls.{Begun, begun, open_call, file_of}
use Rattle.lu_spec_laws.specs.Words.Seen.{lock_with}
use Rattle.lu_spec_laws.specs.Words.Glimpses.{begins, cuts, with_cut, machine_cut, has_size, is_gone_at, locks_object, with_size, peeked}
use Rattle.lu_judge_glimpse.specs.declared.counts.Counts.{Counts}
use Rattle.lu_judge_glimpse.specs.declared.sightings.Sightings.{Sightings}
use Rattle.lu_judge_glimpse.specs.Begins.{begun_place, count_in}
use Rattle.lu_judge_glimpse.specs.Sightings.{last_in, is_from, since_in}
use Rattle.lu_judge_glimpse.specs.declared.glimpses.Watch.{Watch}
use Rattle.lu_judge_glimpse.specs.Watched.{seen_after, logged, heard_after, Below, SeenIn, SeenOver, SeenNext, earlier, Covers}
use Rattle.lu_judge_glimpse.proofs.Numbers.{eq_turned, le_is, and_false, or_under, or_over}

-- a call began before the next line
pub begun_before : (c slot : ℕ) (past : Past) → begun_place c slot past ≤ length past
begun_before c slot [] = omega arith
begun_before c slot (l ∷ past) = by (begins c slot l) (begun_before c slot past)
  where
    by : (v : Bool) → begun_place c slot past ≤ length past → (if v then length past else begun_place c slot past) ≤ suc (length past)
    by true before = omega arith
    by false before = omega (arith, before)

abbrev Same : Sightings → Sightings → Type 0
Same old new = (f : Fid) (stripe size : ℕ) → last_in new f stripe size ≡ last_in old f stripe size

since_same : (old new : Sightings) → Same old new → (file : Option Fid) (stripe size place : ℕ) → since_in new file stripe size place
    ≡ since_in old file stripe size place
since_same old new same None stripe size place = refl
since_same old new same (Some f) stripe size place = ap (is_from place) (same f stripe size)

-- what isn't seen since the next place
from_below : (place : ℕ) (o : Option ℕ) → ((last : ℕ) → o ≡ Some last → last < place) → is_from place o ≡ false
from_below place None below = refl
from_below place (Some last) below = let less = below last refl in later_not less
  where
    later_not : last < place → nat_le place last ≡ false
    later_not less = grind (arith, nat_tests)

none_since : (s : Sightings) (place : ℕ) → Below s place → (file : Option Fid) (stripe size : ℕ) → since_in s file stripe size place ≡ false
none_since s place below None stripe size = refl
none_since s place below (Some f) stripe size = from_below place (last_in s f stripe size) (below f stripe size)

module _ (counts : Counts) where
  seen_same : (old new : Sightings) → Same old new → (ms : List Machine) (place : ℕ) (answers : Option Fid → ℕ → List ℕ) (o : Option Begun)
      → SeenIn old counts ms place answers o → SeenIn new counts ms place answers o
  seen_same old new same ms place answers None seen = tt
  seen_same old new same ms place answers (Some b) seen = λ stripe size few. since_same old new same (file_of b) stripe size place
      ∙ seen stripe size few

  -- ---- a call begins in a slot, or not

  began : (osts : ℕ) (old new : Sightings) → Same old new → (next : ℕ) → Below old next
      → (here : Bool) (cs : List Past) (place : ℕ) (answers : Option Fid → ℕ → List ℕ) (b : Begun) (o : Option Begun)
      → SeenIn old counts (map (machine_cut osts) cs) place answers o
      → SeenIn new counts (map (machine_cut osts) (if here then [] else cs)) (if here then next else place)
      (λ file stripe. if here then [] else answers file stripe) (if here then Some b else o)
  began osts old new same next below true cs place answers b o seen =
      λ stripe size few. since_same old new same (file_of b) stripe size next ∙ none_since old next below (file_of b) stripe size
  began osts old new same next below false cs place answers b o seen =
      seen_same old new same (map (machine_cut osts) cs) place answers o seen

  told : (here : Bool) (old new : Sightings) → Same old new → (ms : List Machine) (place : ℕ) (answers : Option Fid → ℕ → List ℕ)
      (o : Option Begun)
      → SeenIn old counts ms place answers o → SeenIn new counts ms place answers (if here then None else o)
  told true old new same ms place answers o seen = tt
  told false old new same ms place answers o seen = seen_same old new same ms place answers o seen

  -- ---- a life answers

  -- the answer is put where the life is gone and the lock is on the object
  put_since : (here : Bool) (place next : ℕ) (o : Option ℕ) → place ≤ next → is_from place (if here then Some next else o)
      ≡ (here || is_from place o)
  put_since true place next o within = le_is place next within
  put_since false place next o within = refl

  put_answer : (here : Bool) (size answer : ℕ) (answers : List ℕ) → list_any (nat_eq size) (with_size here answer answers)
      ≡ ((here && answer == size) || list_any (nat_eq size) answers)
  put_answer true size answer answers = ap (λ (v : Bool). v || list_any (nat_eq size) answers) (eq_turned size answer)
  put_answer false size answer answers = refl

  module _ (old new : Sightings) (next : ℕ) (gone : Bool) (lock : Option Lock) (answer : ℕ)
      (is : (f : Fid) (stripe size : ℕ) → last_in new f stripe size
      ≡ (if (gone && locks_object (Some f) stripe lock) && answer == size then Some next else last_in old f stripe size)) where
    answered_file : (file : Option Fid) (stripe size place : ℕ) (ms : List Machine) (answers : List ℕ) → place ≤ next
        → since_in old file stripe size place ≡ (list_any (has_size file stripe size) ms || list_any (nat_eq size) answers)
        → since_in new file stripe size place ≡ (list_any (has_size file stripe size) ms
        || list_any (nat_eq size) (with_size (gone && locks_object file stripe lock) answer answers))
    answered_file None stripe size place ms answers within seen =
        seen ∙ ap (λ (v : Bool). list_any (has_size None stripe size) ms || list_any (nat_eq size) (with_size v answer answers))
        (sym (and_false gone))
    answered_file (Some f) stripe size place ms answers within seen =
        let here = gone && locks_object (Some f) stripe lock in
        ap (is_from place) (is f stripe size)
        ∙ put_since (here && answer == size) place next (last_in old f stripe size) within
        ∙ ap (λ (v : Bool). (here && answer == size) || v) seen
        ∙ or_under (here && answer == size) (list_any (has_size (Some f) stripe size) ms) (list_any (nat_eq size) answers)
        ∙ ap (λ (v : Bool). list_any (has_size (Some f) stripe size) ms || v) (sym (put_answer here size answer answers))

    answered : (ms : List Machine) (place : ℕ) (answers : Option Fid → ℕ → List ℕ) (o : Option Begun) → place ≤ next
        → SeenIn old counts ms place answers o
        → SeenIn new counts ms place (λ file stripe. with_size (gone && locks_object file stripe lock) answer (answers file stripe)) o
    answered ms place answers None within seen = tt
    answered ms place answers (Some b) within seen = λ stripe size few.
        answered_file (file_of b) stripe size place ms (answers (file_of b) stripe) within (seen stripe size few)

  -- ---- a line

  seen_entry : (osts : ℕ) (old new : Sightings) (past : Past) (at : At) (e : Entry) → Below old (length past)
      → ((f : Fid) (stripe size : ℕ) → last_in new f stripe size
      ≡ heard_after past (length past) (record { at = at; entry = e }) f stripe size (last_in old f stripe size))
      → SeenOver old counts osts (λ c slot. cuts c slot at past) past
      → SeenOver new counts osts (λ c slot. earlier c slot (record { at = at; entry = e } ∷ past)) (record { at = at; entry = e } ∷ past)
  seen_entry osts old new past at (Begin other call) below is seen c slot =
      began osts old new is (length past) below (is_client c at.node && other == slot) (cuts c slot at past) (begun_place c slot past)
      (λ file stripe. peeked c slot file stripe past) (begun c past at call) (open_call c slot past) (seen c slot)
  seen_entry osts old new past at (Told other turn answer) below is seen c slot =
      told (is_client c at.node && other == slot) old new is (map (machine_cut osts) (cuts c slot at past)) (begun_place c slot past)
      (λ file stripe. peeked c slot file stripe past) (open_call c slot past) (seen c slot)
  seen_entry osts old new past at (Peek target cookie size) below is seen c slot =
      answered old new (length past) (is_gone_at past at.node) (lock_with target.0 cookie.0 past) size is
      (map (machine_cut osts) (cuts c slot at past)) (begun_place c slot past) (λ file stripe. peeked c slot file stripe past)
      (open_call c slot past) (begun_before c slot past) (seen c slot)
  seen_entry osts old new past at _ below is seen c slot =
      seen_same old new is (map (machine_cut osts) (cuts c slot at past)) (begun_place c slot past)
      (λ file stripe. peeked c slot file stripe past) (open_call c slot past) (seen c slot)

  pub seen_line : (osts : ℕ) (old new : Sightings) (past : Past) (l : Line) → Below old (length past)
      → ((f : Fid) (stripe size : ℕ) → last_in new f stripe size
      ≡ heard_after past (length past) l f stripe size (last_in old f stripe size))
      → SeenOver old counts osts (λ c slot. cuts c slot l.at past) past
      → SeenOver new counts osts (λ c slot. earlier c slot (l ∷ past)) (l ∷ past)
  seen_line osts old new past l below is seen = seen_entry osts old new past l.at l.entry below is seen

  -- ---- the end of a turn

  module _ (osts : ℕ) (old new : Sightings) (m : Machine) (next : ℕ) (watches : List Watch)
      (is : (f : Fid) (stripe size : ℕ) → last_in new f stripe size
      ≡ seen_after m next (logged watches f stripe) f stripe size (last_in old f stripe size)) where
    ended_file : (file : Option Fid) (stripe size place : ℕ) (ms : List Machine) (answers : List ℕ) → place ≤ next
        → ((f : Fid) → file ≡ Some f → logged watches f stripe ≡ true)
        → since_in old file stripe size place ≡ (list_any (has_size file stripe size) ms || list_any (nat_eq size) answers)
        → since_in new file stripe size place ≡ ((has_size file stripe size m || list_any (has_size file stripe size) ms)
        || list_any (nat_eq size) answers)
    ended_file None stripe size place ms answers within covered seen = seen
    ended_file (Some f) stripe size place ms answers within covered seen =
        let has = object_size (object_of m f stripe) == size in
        ap (is_from place) (is f stripe size ∙ ap (λ (v : Bool). seen_after m next v f stripe size (last_in old f stripe size))
        (covered f refl))
        ∙ put_since has place next (last_in old f stripe size) within
        ∙ ap (λ (v : Bool). has || v) seen
        ∙ or_over has (list_any (has_size (Some f) stripe size) ms) (list_any (nat_eq size) answers)

    pub ended_call : (ms : List Machine) (place : ℕ) (answers : Option Fid → ℕ → List ℕ) (o : Option Begun) → place ≤ next
        → ((b : Begun) (f : Fid) (stripe : ℕ) → o ≡ Some b → file_of b ≡ Some f → stripe < count_in counts place → logged watches f stripe
        ≡ true)
        → SeenIn old counts ms place answers o → SeenIn new counts (m ∷ ms) place answers o
    ended_call ms place answers None within covered seen = tt
    ended_call ms place answers (Some b) within covered seen = λ stripe size few.
        ended_file (file_of b) stripe size place ms (answers (file_of b) stripe) within (λ f there. covered b f stripe refl there few)
        (seen stripe size few)
