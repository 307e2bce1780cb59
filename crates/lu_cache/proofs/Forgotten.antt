-- Forgetting a lock's facts one by one.
use Rattle.std.proofs.Common.{◌≡◌, ℕ, suc, ◌==◌, ◌&&◌, ◌||◌, Bool, true, false, not, cond, List, [], ◌∷◌, Option, Some, None, refl, sym, ap}
use Rattle.std.proofs.Common.{subst, ◌∙◌, arith}
use Rattle.std.specs.Prelude.{filter, map, nat_eq}
use Rattle.std.specs.Map.{remove_entry}
use Rattle.std.proofs.lemmas.Bool.Decides.{nat_tests}
use Rattle.lu_base.specs.declared.ids.Cookie.{Cookie}
use Rattle.lu_spec_machine.specs.Places.{RisingFrom, found_at}
use Rattle.lu_spec_client.specs.Facts.{Fact as RowFact}
use Rattle.lu_cache.specs.declared.topics.Topic.{Topic}
use Rattle.lu_cache.specs.declared.facts.Fact.{Fact}
use Rattle.lu_cache.specs.declared.filing.Filing.{Filing}
use Rattle.lu_cache.specs.Topics.{same_topic, row_fact}
use Rattle.lu_cache.specs.Numbered.{Numbered, first_number}
use Rattle.lu_cache.specs.Filings.{filed, Refiled}
use Rattle.lu_cache.specs.Logs.{Log, newest, is_about, has, facts_of, is_kept}
use Rattle.lu_cache.specs.Forgetting.{is_other, OthersFiled, NoneFiled, Forgets}
use Rattle.lu_cache.proofs.Falling.{not_both, some_is, remove_rising, there_removed, gone_removed, first_removed, filter_removed}
use Rattle.lu_cache.proofs.Falling.{filter_found, none_number}

not_about_other : (t : Topic) (c d : Cookie) (f : Fact) → (f.cookie.0 == c.0) ≡ true → (c.0 == d.0) ≡ false → is_about t d f ≡ false
not_about_other t c d f same apart = let off : (f.cookie.0 == d.0) ≡ false = grind (arith, nat_tests)
    in rw off (and_false (same_topic f.topic t)) where
      and_false : (v : Bool) → (v && false) ≡ false
      and_false true = refl
      and_false false = refl

-- nothing was forgotten: there is no such fact, or it is under another lock
pub kept_all : (c : Cookie) (n : ℕ) (log : Log) (filing : Filing Topic) → RisingFrom 0 log
    → ((f : Fact) → found_at log n ≡ Some f → (f.cookie.0 == c.0) ≡ false) → Forgets c (n ∷ []) log filing log filing
kept_all c n log filing rising apart = record {
  kept = refl;
  rising = rising;
  others = λ h. h;
  none = λ h. h;
  there = λ m f found. found;
  gone = λ m f found same. by m (n == m) refl f found same;
} where
  by : (m : ℕ) (here : Bool) → (n == m) ≡ here → (f : Fact) → found_at log m ≡ Some f → (f.cookie.0 == c.0) ≡ true → (here || false) ≡ false
  by m true e f found same =
      let is : m ≡ n = grind (arith, nat_tests) in
      let off : (f.cookie.0 == c.0) ≡ false = apart f (subst (λ k. found_at log k ≡ Some f) is found) in
      absurd (cc)
  by m false e f found same = refl

pub forgets_one : (c : Cookie) (n : ℕ) (f : Fact) (log : Log) (before after : Filing Topic) → RisingFrom 0 log → found_at log n ≡ Some f
    → (f.cookie.0 == c.0) ≡ true → Refiled same_topic f.topic c None before after
    → Forgets c (n ∷ []) log before (remove_entry (nat_eq n) log) after
forgets_one c n f log before after rising found same refiled = record {
  kept = filter_removed (λ (g : Fact). not (g.cookie.0 == c.0)) n 0 log f rising found (ap not same);
  rising = remove_rising n 0 log rising;
  others = λ h t d apart. refiled t d ∙ other t d apart (h t d apart);
  none = λ h t none. refiled t c ∙ here t (same_topic f.topic t) refl (h t) none;
  there = λ m g at. there_removed n 0 m log g rising at;
  gone = λ m g at s. let off : nat_eq n m ≡ false = gone_removed n 0 m log g rising at in or_off (n == m) off;
} where
  or_off : (v : Bool) → v ≡ false → (v || false) ≡ false
  or_off true e = e
  or_off false e = refl

  and_off : (v : Bool) → (v && false) ≡ false
  and_off true = refl
  and_off false = refl

  other : (t : Topic) (d : Cookie) → (c.0 == d.0) ≡ false → filed same_topic t d before ≡ newest t d log
      → cond (same_topic f.topic t && c.0 == d.0) None (filed same_topic t d before) ≡ newest t d (remove_entry (nat_eq n) log)
  other t d apart h = rw (apart, and_off (same_topic f.topic t))
      (h ∙ sym (first_removed (is_about t d) n 0 log f rising found (not_about_other t c d f same apart)))

  here : (t : Topic) (v : Bool) → same_topic f.topic t ≡ v → (newest t c log ≡ None → filed same_topic t c before ≡ None)
      → newest t c (remove_entry (nat_eq n) log) ≡ None → cond (v && c.0 == c.0) None (filed same_topic t c before) ≡ None
  here t true e h none = let self : (c.0 == c.0) ≡ true = grind (arith, nat_tests) in rw self refl
  here t false e h none = h (sym (first_removed (is_about t c) n 0 log f rising found (ap (λ v. v && f.cookie.0 == c.0) e)) ∙ none)

-- first one, then the others
pub forgets_none : (c : Cookie) (log : Log) (filing : Filing Topic) → RisingFrom 0 log → Forgets c [] log filing log filing
forgets_none c log filing rising = record {
  kept = refl;
  rising = rising;
  others = λ h. h;
  none = λ h. h;
  there = λ m f found. found;
  gone = λ m f found same. refl;
}

pub forgets_then : (c : Cookie) (n : ℕ) (ns : List ℕ) (a b d : Log) (s t u : Filing Topic) → Forgets c (n ∷ []) a s b t
    → Forgets c ns b t d u → Forgets c (n ∷ ns) a s d u
forgets_then c n ns a b d s t u one more = record {
  kept = more.kept ∙ one.kept;
  rising = more.rising;
  others = λ h. more.others (one.others h);
  none = λ h. more.none (one.none h);
  there = λ m f found. one.there m f (more.there m f found);
  gone = λ m f found same. both (n == m) (has ns m) (one.gone m f (more.there m f found) same) (more.gone m f found same);
} where
  both : (v w : Bool) → (v || false) ≡ false → w ≡ false → (v || w) ≡ false
  both true w e h = absurd (cc)
  both false w e h = h

-- ---- all of them

-- no fact is under this lock any more
abbrev pub NoneUnder : Cookie → Log → Type 0
NoneUnder c log = (n : ℕ) (f : Fact) → found_at log n ≡ Some f → (f.cookie.0 == c.0) ≡ false

pub none_under : (c : Cookie) (numbers : List ℕ) (a d : Log) (s u : Filing Topic)
    → ((n : ℕ) (f : Fact) → found_at a n ≡ Some f → (f.cookie.0 == c.0) ≡ true → has numbers n ≡ true) → Forgets c numbers a s d u
    → NoneUnder c d
none_under c numbers a d s u all forgets n f found = by (f.cookie.0 == c.0) refl where
  by : (v : Bool) → (f.cookie.0 == c.0) ≡ v → v ≡ false
  by true e =
      let yes : has numbers n ≡ true = all n f (forgets.there n f found) e in
      let no : has numbers n ≡ false = forgets.gone n f found e in
      absurd (cc)
  by false e = refl

-- what is left is what is under other locks
pub facts_filter : (c : Cookie) (log : Log) → facts_of (filter (is_other c) log) ≡ filter (is_kept c.0) (facts_of log)
facts_filter c [] = refl
facts_filter c (e ∷ log) = by (e.1.cookie.0 == c.0) (facts_filter c log) where
  by : (v : Bool) → facts_of (filter (is_other c) log) ≡ filter (is_kept c.0) (facts_of log)
      → facts_of (cond (not v) (e ∷ filter (is_other c) log) (filter (is_other c) log))
      ≡ cond (not v) (row_fact e.1 ∷ filter (is_kept c.0) (facts_of log)) (filter (is_kept c.0) (facts_of log))
  by true rest = rest
  by false rest = ap (λ more. row_fact e.1 ∷ more) rest

pub left : (c : Cookie) (old new : Log) → RisingFrom 0 new → NoneUnder c new → filter (is_other c) new ≡ filter (is_other c) old
    → facts_of new ≡ filter (is_kept c.0) (facts_of old)
left c old new rising none kept =
    ap facts_of (sym (filter_found (λ (f : Fact). not (f.cookie.0 == c.0)) 0 new rising (λ n f found. ap not (none n f found))) ∙ kept)
    ∙ facts_filter c old

-- nothing is about a topic under this lock
pub none_newest : (c : Cookie) (log : Log) (t : Topic) → RisingFrom 0 log → NoneUnder c log → newest t c log ≡ None
none_newest c log t rising none = none_number (is_about t c) 0 log rising
    (λ n f found. let off : (f.cookie.0 == c.0) ≡ false = none n f found in rw off (and_off (same_topic f.topic t))) where
      and_off : (v : Bool) → (v && false) ≡ false
      and_off true = refl
      and_off false = refl
