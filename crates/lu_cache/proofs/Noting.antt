-- Notes under falling numbers, and the way to them by object and lock.
use Rattle.std.proofs.Common.{◌≡◌, ℕ, ◌+◌, ◌<◌, ◌==◌, ◌&&◌, Bool, true, false, not, cond, List, [], ◌∷◌, Option, Some, None, refl, sym, ap}
use Rattle.std.proofs.Common.{subst, ◌∙◌, arith}
use Rattle.std.specs.Prelude.{filter, map, nat_eq, nat_lt}
use Rattle.std.specs.Map.{remove_entry}
use Rattle.std.proofs.lemmas.Bool.Decides.{nat_tests}
use Rattle.lu_base.specs.declared.ids.Cookie.{Cookie}
use Rattle.lu_base.specs.declared.locks.Resource.{Resource}
use Rattle.lu_spec_entries.specs.declared.changes.Flush.{Flush}
use Rattle.lu_held.specs.Locks.{same_resource}
use Rattle.lu_spec_machine.specs.Places.{RisingFrom, found_at}
use Rattle.lu_spec_client.specs.Caches.{Note as RowNote, is_note, noted, with_note, without_note, grown, grown_note, grown_notes}
use Rattle.lu_cache.specs.declared.notes.Note.{Note}
use Rattle.lu_cache.specs.declared.filing.Filing.{Filing}
use Rattle.lu_cache.specs.Numbered.{Numbered, first_number, IsBefore}
use Rattle.lu_cache.specs.Filings.{filed, Refiled, SameFiled}
use Rattle.lu_cache.specs.Kept.{row_note, notes_of, equal_resource, is_of, EachOnce, AreNoted, grown_one}
use Rattle.lu_spec_bytes.proofs.Rising.{none_before}
use Rattle.lu_cache.proofs.Falling.{not_both, some_is, found_here, found_past, rising_first, remove_rising, first_removed, number_found}

abbrev pub Log : Type 0
Log = Numbered Note

-- ---- keys

same_key : (r s : Resource) (c d : Cookie) → (equal_resource r s && c.0 == d.0) ≡ (same_resource r s && c.0 == d.0)
same_key r s c d = grind (arith, nat_tests)

-- what is of an object and lock is, of those, what is of the same
of_same : (r : Resource) (c : Cookie) (n m : Note) → is_of r c n ≡ true → is_of n.resource n.cookie m ≡ is_of r c m
of_same r c n m here = grind (arith, nat_tests)

-- what is of one object and lock is of no other
of_other : (r s : Resource) (c d : Cookie) (n : Note) → is_of r c n ≡ true → (same_resource r s && c.0 == d.0) ≡ false → is_of s d n ≡ false
of_other r s c d n here apart = grind (arith, nat_tests)

-- ---- what is noted

pub noted_none : (r : Resource) (c : Cookie) (log : Log) → first_number (is_of r c) log ≡ None → noted r c (notes_of log) ≡ None
noted_none r c [] none = refl
noted_none r c (e ∷ log) none = by (is_of r c e.1) none (noted_none r c log) where
  by : (here : Bool) → cond here (Some e.0) (first_number (is_of r c) log) ≡ None
      → (first_number (is_of r c) log ≡ None → noted r c (notes_of log) ≡ None) → cond here (Some e.1.number) (noted r c (notes_of log))
      ≡ None
  by true n rest = absurd (cc)
  by false n rest = rest n

pub noted_some : (r : Resource) (c : Cookie) (k n : ℕ) (note : Note) (log : Log) → RisingFrom k log → first_number (is_of r c) log ≡ Some n
    → found_at log n ≡ Some note → noted r c (notes_of log) ≡ Some note.number
noted_some r c k n note [] h first found = not_both n _ first
noted_some r c k n note (e ∷ log) h first found = by (is_of r c e.1) first (noted_some r c (e.0 + 1) n note log h.1) where
  by : (here : Bool) → cond here (Some e.0) (first_number (is_of r c) log) ≡ Some n
      → (first_number (is_of r c) log ≡ Some n → found_at log n ≡ Some note → noted r c (notes_of log) ≡ Some note.number)
      → cond here (Some e.1.number) (noted r c (notes_of log)) ≡ Some note.number
  by true f rest = ap (λ (x : Note). Some x.number) (some_is e.1 note
      (sym (found_here e log) ∙ ap (found_at (e ∷ log)) (some_is e.0 n f) ∙ found))
  by false f rest =
      let (x, there, passes) = number_found (is_of r c) (e.0 + 1) n log h.1 f in
      rest f (there ∙ sym (found_past e log n x h.1 there) ∙ found)

-- ---- one note put and one taken

pub without_none : (r : Resource) (c : Cookie) (log : Log) → first_number (is_of r c) log ≡ None → without_note r c (notes_of log)
    ≡ notes_of log
without_none r c [] none = refl
without_none r c (e ∷ log) none = by (is_of r c e.1) none (without_none r c log) where
  by : (here : Bool) → cond here (Some e.0) (first_number (is_of r c) log) ≡ None
      → (first_number (is_of r c) log ≡ None → without_note r c (notes_of log) ≡ notes_of log)
      → cond (not here) (row_note e.1 ∷ without_note r c (notes_of log)) (without_note r c (notes_of log)) ≡ row_note e.1 ∷ notes_of log
  by true n rest = absurd (cc)
  by false n rest = ap (λ more. row_note e.1 ∷ more) (rest n)

same_first : (r : Resource) (c : Cookie) (n : Note) (log : Log) → is_of r c n ≡ true → first_number (is_of n.resource n.cookie) log
    ≡ first_number (is_of r c) log
same_first r c n [] here = refl
same_first r c n (e ∷ log) here = rw (of_same r c n e.1 here, same_first r c n log here) refl

none_removed : (test : Note → Bool) (n : ℕ) (log : Log) → first_number test log ≡ None → first_number test (remove_entry (nat_eq n) log)
    ≡ None
none_removed test n [] none = refl
none_removed test n (e ∷ log) none = by (test e.1) refl none (none_removed test n log) where
  by : (here : Bool) → test e.1 ≡ here → cond here (Some e.0) (first_number test log) ≡ None
      → (first_number test log ≡ None → first_number test (remove_entry (nat_eq n) log) ≡ None)
      → first_number test (cond (nat_eq n e.0) log (e ∷ remove_entry (nat_eq n) log)) ≡ None
  by true t f rest = absurd (cc)
  by false t f rest = or (nat_eq n e.0) where
    or : (same : Bool) → first_number test (cond same log (e ∷ remove_entry (nat_eq n) log)) ≡ None
    or true = f
    or false = rw t (rest f)

once_removed : (n : ℕ) (log : Log) → EachOnce log → EachOnce (remove_entry (nat_eq n) log)
once_removed n [] once = once
once_removed n (e ∷ log) once = by (nat_eq n e.0) (once_removed n log once.1) where
  by : (same : Bool) → EachOnce (remove_entry (nat_eq n) log) → EachOnce (cond same log (e ∷ remove_entry (nat_eq n) log))
  by true rest = once.1
  by false rest = (none_removed (is_of e.1.resource e.1.cookie) n log once.0, rest)

-- what is found past the first has another number
past : (e : ℕ × Note) (log : Log) (n : ℕ) (x : Note) → RisingFrom (e.0 + 1) log → found_at log n ≡ Some x → nat_eq n e.0 ≡ false
past e log n x h there = by (nat_eq n e.0) refl where
  by : (same : Bool) → nat_eq n e.0 ≡ same → same ≡ false
  by true s = not_both x _ (sym (none_before (e.0 + 1) n log h (grind (arith, nat_tests))) ∙ there)
  by false s = refl

-- the one note of an object and lock taken out
pub removed_without : (r : Resource) (c : Cookie) (k n : ℕ) (log : Log) → RisingFrom k log → EachOnce log → first_number (is_of r c) log
    ≡ Some n → notes_of (remove_entry (nat_eq n) log) ≡ without_note r c (notes_of log)
removed_without r c k n [] h once first = refl
removed_without r c k n (e ∷ log) h once first = by (is_of r c e.1) refl first (removed_without r c (e.0 + 1) n log h.1 once.1) where
  by : (here : Bool) → is_of r c e.1 ≡ here → cond here (Some e.0) (first_number (is_of r c) log) ≡ Some n
      → (first_number (is_of r c) log ≡ Some n → notes_of (remove_entry (nat_eq n) log) ≡ without_note r c (notes_of log))
      → notes_of (cond (nat_eq n e.0) log (e ∷ remove_entry (nat_eq n) log))
      ≡ cond (not here) (row_note e.1 ∷ without_note r c (notes_of log)) (without_note r c (notes_of log))
  by true t f rest =
      let number : e.0 ≡ n = some_is e.0 n f in
      let same : nat_eq n e.0 ≡ true = grind (arith, nat_tests) in
      rw same (sym (without_none r c log (sym (same_first r c e.1 log t) ∙ once.0)))
  by false t f rest =
      let (x, there, passes) = number_found (is_of r c) (e.0 + 1) n log h.1 f in
      let off : nat_eq n e.0 ≡ false = past e log n x h.1 there in
      rw off (ap (λ more. row_note e.1 ∷ more) (rest f))

-- none is left of it
removed_none : (r : Resource) (c : Cookie) (k n : ℕ) (log : Log) → RisingFrom k log → EachOnce log → first_number (is_of r c) log ≡ Some n
    → first_number (is_of r c) (remove_entry (nat_eq n) log) ≡ None
removed_none r c k n [] h once first = refl
removed_none r c k n (e ∷ log) h once first = by (is_of r c e.1) refl first (removed_none r c (e.0 + 1) n log h.1 once.1) where
  by : (here : Bool) → is_of r c e.1 ≡ here → cond here (Some e.0) (first_number (is_of r c) log) ≡ Some n
      → (first_number (is_of r c) log ≡ Some n → first_number (is_of r c) (remove_entry (nat_eq n) log) ≡ None)
      → first_number (is_of r c) (cond (nat_eq n e.0) log (e ∷ remove_entry (nat_eq n) log)) ≡ None
  by true t f rest =
      let number : e.0 ≡ n = some_is e.0 n f in
      let same : nat_eq n e.0 ≡ true = grind (arith, nat_tests) in
      rw same (sym (same_first r c e.1 log t) ∙ once.0)
  by false t f rest =
      let (x, there, passes) = number_found (is_of r c) (e.0 + 1) n log h.1 f in
      let off : nat_eq n e.0 ≡ false = past e log n x h.1 there in
      rw (off, t) (rest f)

-- ---- the way to the notes

-- the same key
key_same : (r s : Resource) (c d : Cookie) (n : Note) → (same_resource r s && c.0 == d.0) ≡ true → is_of s d n ≡ is_of r c n
key_same r s c d n same = grind (arith, nat_tests)

first_key : (r s : Resource) (c d : Cookie) (log : Log) → (same_resource r s && c.0 == d.0) ≡ true → first_number (is_of s d) log
    ≡ first_number (is_of r c) log
first_key r s c d [] same = refl
first_key r s c d (e ∷ log) same = rw (key_same r s c d e.1 same, first_key r s c d log same) refl

-- a way that leads to the newest of each object and lock
record IsWay (log : Log) (way : Resource → Cookie → Option ℕ) : Type 0 where
  rising : RisingFrom 0 log
  once : EachOnce log
  places : (r : Resource) (c : Cookie) → way r c ≡ first_number (is_of r c) log

way_of : (log : Log) (objects : Filing Resource) → AreNoted log objects → IsWay log (λ r c. filed equal_resource r c objects)
way_of log objects are = record { rising = are.rising; once = are.once; places = are.places }

noted_of : (log : Log) (objects : Filing Resource) → IsWay log (λ r c. filed equal_resource r c objects) → AreNoted log objects
noted_of log objects way = record { rising = way.rising; once = way.once; places = way.places }

turned_to : (log : Log) (way new : Resource → Cookie → Option ℕ) → ((r : Resource) (c : Cookie) → new r c ≡ way r c) → IsWay log way
    → IsWay log new
turned_to log way new same is = record { rising = is.rising; once = is.once; places = λ r c. same r c ∙ is.places r c }

abbrev gone_at : Resource → Cookie → (Resource → Cookie → Option ℕ) → Resource → Cookie → Option ℕ
gone_at r c way s d = cond (same_resource r s && c.0 == d.0) None (way s d)

abbrev put_at : Resource → Cookie → ℕ → (Resource → Cookie → Option ℕ) → Resource → Cookie → Option ℕ
put_at r c n way s d = cond (same_resource r s && c.0 == d.0) (Some n) (way s d)

way_taken : (r : Resource) (c : Cookie) (n : ℕ) (log : Log) (way : Resource → Cookie → Option ℕ) → IsWay log way → way r c ≡ Some n
    → IsWay (remove_entry (nat_eq n) log) (gone_at r c way)
way_taken r c n log way is there = record {
  rising = remove_rising n 0 log is.rising;
  once = once_removed n log is.once;
  places = λ s d. by s d (same_resource r s && c.0 == d.0) refl;
} where
  first : first_number (is_of r c) log ≡ Some n
  first = sym (is.places r c) ∙ there

  by : (s : Resource) (d : Cookie) (same : Bool) → (same_resource r s && c.0 == d.0) ≡ same → cond same None (way s d)
      ≡ first_number (is_of s d) (remove_entry (nat_eq n) log)
  by s d true e = sym (first_key r s c d (remove_entry (nat_eq n) log) e ∙ removed_none r c 0 n log is.rising is.once first)
  by s d false e =
      let (x, found, passes) = number_found (is_of r c) 0 n log is.rising first in
      is.places s d ∙ sym (first_removed (is_of s d) n 0 log x is.rising found (of_other r s c d x passes e))

way_put : (n : ℕ) (note : Note) (log : Log) (way : Resource → Cookie → Option ℕ) → IsWay log way → way note.resource note.cookie ≡ None
    → IsBefore n log → IsWay ((n, note) ∷ log) (put_at note.resource note.cookie n way)
way_put n note log way is none before = record {
  rising = rising_first n note log is.rising before;
  once = (sym (is.places note.resource note.cookie) ∙ none, is.once);
  places = λ s d. ap (cond (same_resource note.resource s && note.cookie.0 == d.0) (Some n)) (is.places s d);
}

gone_here : (r : Resource) (c : Cookie) (way : Resource → Cookie → Option ℕ) → gone_at r c way r c ≡ None
gone_here r c way = let self : (same_resource r r && c.0 == c.0) ≡ true = grind (arith, nat_tests) in rw self refl

put_gone : (r s : Resource) (c d : Cookie) (n : ℕ) (way : Resource → Cookie → Option ℕ) → put_at r c n way s d
    ≡ put_at r c n (gone_at r c way) s d
put_gone r s c d n way = by (same_resource r s && c.0 == d.0) where
  by : (same : Bool) → cond same (Some n) (way s d) ≡ cond same (Some n) (cond same None (way s d))
  by true = refl
  by false = refl

refiled_at : (r : Resource) (c : Cookie) (n : Option ℕ) (old new : Filing Resource) → Refiled equal_resource r c n old new
    → (s : Resource) (d : Cookie) → filed equal_resource s d new ≡ cond (same_resource r s && c.0 == d.0) n (filed equal_resource s d old)
refiled_at r c n old new refiled s d = refiled s d ∙ ap (λ (v : Bool). cond v n (filed equal_resource s d old)) (same_key r s c d)

-- ---- as the calls use them

pub noted_taken : (r : Resource) (c : Cookie) (n : ℕ) (log : Log) (old new : Filing Resource) → AreNoted log old
    → filed equal_resource r c old ≡ Some n → Refiled equal_resource r c None old new → AreNoted (remove_entry (nat_eq n) log) new
noted_taken r c n log old new are there refiled =
    noted_of (remove_entry (nat_eq n) log) new (turned_to (remove_entry (nat_eq n) log) _ _ (refiled_at r c None old new refiled)
    (way_taken r c n log _ (way_of log old are) there))

pub noted_put : (n : ℕ) (note : Note) (log : Log) (old new : Filing Resource) → AreNoted log old
    → filed equal_resource note.resource note.cookie old ≡ None → IsBefore n log
    → Refiled equal_resource note.resource note.cookie (Some n) old new → AreNoted ((n, note) ∷ log) new
noted_put n note log old new are none before refiled =
    noted_of ((n, note) ∷ log) new (turned_to ((n, note) ∷ log) _ _ (refiled_at note.resource note.cookie (Some n) old new refiled)
    (way_put n note log _ (way_of log old are) none before))

before_removed : (n m : ℕ) (log : Log) → RisingFrom 0 log → IsBefore n log → IsBefore n (remove_entry (nat_eq m) log)
before_removed n m [] h before = before
before_removed n m (e ∷ []) h before = by (nat_eq m e.0) where
  by : (same : Bool) → IsBefore n (cond same [] (e ∷ []))
  by true = tt
  by false = before
before_removed n m (e ∷ d ∷ log) h before = by (nat_eq m e.0) where
  by : (same : Bool) → IsBefore n (cond same (d ∷ log) (e ∷ remove_entry (nat_eq m) (d ∷ log)))
  by true = omega (arith, before, h.1.0)
  by false = before

pub noted_replaced : (n m : ℕ) (note : Note) (log : Log) (old new : Filing Resource) → AreNoted log old
    → filed equal_resource note.resource note.cookie old ≡ Some m → IsBefore n log
    → Refiled equal_resource note.resource note.cookie (Some n) old new → AreNoted ((n, note) ∷ remove_entry (nat_eq m) log) new
noted_replaced n m note log old new are there before refiled =
    let r = note.resource in
    let c = note.cookie in
    let way : Resource → Cookie → Option ℕ = λ s d. filed equal_resource s d old in
    let taken = way_taken r c m log way (way_of log old are) there in
    noted_of ((n, note) ∷ remove_entry (nat_eq m) log) new
    (turned_to ((n, note) ∷ remove_entry (nat_eq m) log) (put_at r c n (gone_at r c way)) _
    (λ s d. refiled_at r c (Some n) old new refiled s d ∙ put_gone r s c d n way)
    (way_put n note (remove_entry (nat_eq m) log) (gone_at r c way) taken (gone_here r c way) (before_removed n m log are.rising before)))

-- the old note isn't the new one
pub removed_past : (n m : ℕ) (note : Note) (log : Log) (objects : Filing Resource) → AreNoted log objects → IsBefore n log
    → filed equal_resource note.resource note.cookie objects ≡ Some m → remove_entry (nat_eq m) ((n, note) ∷ log) ≡ (n, note)
    ∷ remove_entry (nat_eq m) log
removed_past n m note log objects are before there =
    let (x, found, passes) = number_found (is_of note.resource note.cookie) 0 m log are.rising
    (sym (are.places note.resource note.cookie) ∙ there) in
    let off : nat_eq m n ≡ false = apart (nat_eq m n) refl x found in
    rw off refl
  where
    apart : (same : Bool) → nat_eq m n ≡ same → (x : Note) → found_at log m ≡ Some x → same ≡ false
    apart true s x found =
        let rising : RisingFrom 0 ((n, note) ∷ log) = rising_first n note log are.rising before in
        not_both x _ (sym (none_before (n + 1) m log rising.1 (grind (arith, nat_tests))) ∙ found)
    apart false s x found = refl

-- ---- changed sizes

pub grown_notes_of : (r : Resource) (change : Flush) (log : Log)
    → notes_of (map {A = ℕ × Note} {B = ℕ × Note} (λ e. (e.0, grown_one r change e.1)) log) ≡ grown_notes r change (notes_of log)
grown_notes_of r change [] = refl
grown_notes_of r change (e ∷ log) = by (same_resource e.1.resource r) (grown_notes_of r change log) where
  by : (here : Bool) → notes_of (map {A = ℕ × Note} {B = ℕ × Note} (λ e. (e.0, grown_one r change e.1)) log)
      ≡ grown_notes r change (notes_of log) → row_note (cond here (record e.1 { number = grown change e.1.number }) e.1)
      ∷ notes_of (map {A = ℕ × Note} {B = ℕ × Note} (λ e. (e.0, grown_one r change e.1)) log)
      ≡ cond here (record (row_note e.1) { number = grown change e.1.number }) (row_note e.1) ∷ grown_notes r change (notes_of log)
  by true rest = ap (λ more. record (row_note e.1) { number = grown change e.1.number } ∷ more) rest
  by false rest = ap (λ more. row_note e.1 ∷ more) rest

grown_of : (r s : Resource) (c : Cookie) (change : Flush) (n : Note) → is_of s c (grown_one r change n) ≡ is_of s c n
grown_of r s c change n = by (same_resource n.resource r) where
  by : (here : Bool) → is_of s c (cond here (record n { number = grown change n.number }) n) ≡ is_of s c n
  by true = refl
  by false = refl

abbrev pub grown_log : Resource → Flush → Log → Log
grown_log r change log = map {A = ℕ × Note} {B = ℕ × Note} (λ e. (e.0, grown_one r change e.1)) log

grown_first : (r s : Resource) (c : Cookie) (change : Flush) (log : Log) → first_number (is_of s c) (grown_log r change log)
    ≡ first_number (is_of s c) log
grown_first r s c change [] = refl
grown_first r s c change (e ∷ log) = rw (grown_of r s c change e.1, grown_first r s c change log) refl

grown_rising : (r : Resource) (change : Flush) (k : ℕ) (log : Log) → RisingFrom k log → RisingFrom k (grown_log r change log)
grown_rising r change k [] h = tt
grown_rising r change k (e ∷ log) h = (h.0, grown_rising r change (e.0 + 1) log h.1)

grown_key : (r : Resource) (change : Flush) (n : Note) (log : Log)
    → first_number (is_of (grown_one r change n).resource (grown_one r change n).cookie) log ≡ first_number (is_of n.resource n.cookie) log
grown_key r change n log = by (same_resource n.resource r) where
  by : (here : Bool) → first_number (is_of (cond here (record n { number = grown change n.number }) n).resource
      (cond here (record n { number = grown change n.number }) n).cookie) log ≡ first_number (is_of n.resource n.cookie) log
  by true = refl
  by false = refl

grown_once : (r : Resource) (change : Flush) (log : Log) → EachOnce log → EachOnce (grown_log r change log)
grown_once r change [] once = tt
grown_once r change (e ∷ log) once = (
  grown_key r change e.1 (grown_log r change log) ∙ grown_first r e.1.resource e.1.cookie change log
      ∙ once.0,
  grown_once r change log once.1,
)

pub noted_grown : (r : Resource) (change : Flush) (log : Log) (objects : Filing Resource) → AreNoted log objects
    → AreNoted (grown_log r change log) objects
noted_grown r change log objects are = record {
  rising = grown_rising r change 0 log are.rising;
  once = grown_once r change log are.once;
  places = λ s c. are.places s c ∙ sym (grown_first r s c change log);
}
