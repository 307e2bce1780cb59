-- The two ways to the facts stay right as facts come and go.
use Rattle.std.proofs.Common.{◌≡◌, ℕ, ◌+◌, ◌==◌, ◌&&◌, Bool, true, false, cond, List, [], ◌∷◌, Option, Some, None, refl, sym, ap, subst}
use Rattle.std.proofs.Common.{◌∙◌, arith}
use Rattle.std.specs.Prelude.{nat_eq, unwrap_or}
use Rattle.std.specs.Map.{lookup}
use Rattle.std.proofs.lemmas.Bool.Decides.{nat_tests}
use Rattle.lu_base.specs.declared.ids.Cookie.{Cookie}
use Rattle.lu_spec_machine.specs.Places.{RisingFrom, found_at}
use Rattle.lu_cache.specs.declared.topics.Topic.{Topic}
use Rattle.lu_cache.specs.declared.facts.Fact.{Fact}
use Rattle.lu_cache.specs.declared.filing.Filing.{Filing}
use Rattle.lu_cache.specs.Topics.{same_topic}
use Rattle.lu_cache.specs.Numbered.{IsBefore}
use Rattle.lu_cache.specs.Filings.{filed, Refiled, SameFiled}
use Rattle.lu_cache.specs.Logs.{Log, newest, is_about, has, numbers_at, ByLock, Grows, IsIndexed, same_cookie}
use Rattle.lu_cache.specs.Forgetting.{Forgets}
use Rattle.lu_cache.proofs.Falling.{not_both, some_is, rising_on, found_past, rising_first}
use Rattle.lu_cache.proofs.TopicKeys.{about_same, cookie_is}
use Rattle.lu_cache.proofs.Forgotten.{NoneUnder, none_newest}

pub newest_same : (t : Topic) (c : Cookie) (f : Fact) (log : Log) → is_about t c f ≡ true → newest t c log ≡ newest f.topic f.cookie log
newest_same t c f [] about = refl
newest_same t c f (e ∷ log) about = rw (about_same t c f e.1 about, newest_same t c f log about) refl

pub indexed_added : (n : ℕ) (f : Fact) (log : Log) (before after : Filing Topic) (locks new : ByLock) → IsIndexed log before locks
    → IsBefore n log → Refiled same_topic f.topic f.cookie (Some n) before after → Grows locks new → has (numbers_at f.cookie new) n ≡ true
    → IsIndexed ((n, f) ∷ log) after new
indexed_added n f log before after locks new i less refiled grows has_it = record {
  rising = rising_first n f log i.rising less;
  topics = λ t c. refiled t c ∙ ap (cond (is_about t c f) (Some n)) (i.topics t c);
  held = λ m g found. by m g (nat_eq m n) refl found;
} where
  by : (m : ℕ) (g : Fact) (same : Bool) → nat_eq m n ≡ same → cond same (Some f) (found_at log m) ≡ Some g → has (numbers_at g.cookie new) m
      ≡ true
  by m g true s found =
      let number : m ≡ n = grind (arith, nat_tests) in
      subst (λ (h : Fact). has (numbers_at h.cookie new) m ≡ true) (some_is f g found)
      (subst (λ k. has (numbers_at f.cookie new) k ≡ true) (sym number) has_it)
  by m g false s found = grows g.cookie m (i.held m g found)

pub indexed_kept : (log : Log) (before after : Filing Topic) (locks new : ByLock) → IsIndexed log before locks
    → SameFiled same_topic before after → Grows locks new → IsIndexed log after new
indexed_kept log before after locks new i same grows = record {
  rising = i.rising;
  topics = λ t c. same t c ∙ i.topics t c;
  held = λ n f found. grows f.cookie n (i.held n f found);
}

pub indexed_undone : (e : ℕ × Fact) (log : Log) (previous : Option ℕ) (before after : Filing Topic) (locks : ByLock)
    → IsIndexed (e ∷ log) before locks → previous ≡ newest e.1.topic e.1.cookie log
    → Refiled same_topic e.1.topic e.1.cookie previous before after → IsIndexed log after locks
indexed_undone e log previous before after locks i last refiled = record {
  rising = rising_on (e.0 + 1) 0 log (omega arith) i.rising.1;
  topics = λ t c. refiled t c ∙ by t c (is_about t c e.1) refl (i.topics t c);
  held = λ n f found. i.held n f (found_past e log n f i.rising.1 found);
} where
  by : (t : Topic) (c : Cookie) (about : Bool) → is_about t c e.1 ≡ about → filed same_topic t c before
      ≡ cond about (Some e.0) (newest t c log) → cond about previous (filed same_topic t c before) ≡ newest t c log
  by t c true a h = last ∙ sym (newest_same t c e.1 log a)
  by t c false a h = h

pub indexed_forgotten : (c : Cookie) (numbers : List ℕ) (old new : Log) (before after : Filing Topic) (locks less : ByLock)
    → IsIndexed old before locks → Forgets c numbers old before new after → NoneUnder c new
    → ((d : Cookie) → (c.0 == d.0) ≡ false → numbers_at d less ≡ numbers_at d locks) → IsIndexed new after less
indexed_forgotten c numbers old new before after locks less i forgets none same = record {
  rising = forgets.rising;
  topics = λ t d. by t d (c.0 == d.0) refl;
  held = λ n f found.
      let apart : (f.cookie.0 == c.0) ≡ false = none n f found in
      let turned : (c.0 == f.cookie.0) ≡ false = grind (arith, nat_tests) in
      subst (λ ns. has ns n ≡ true) (sym (same f.cookie turned)) (i.held n f (forgets.there n f found));
} where
  by : (t : Topic) (d : Cookie) (v : Bool) → (c.0 == d.0) ≡ v → filed same_topic t d after ≡ newest t d new
  by t d true e =
      let last : newest t c new ≡ None = none_newest c new t forgets.rising none in
      let gone : filed same_topic t c after ≡ None = forgets.none (λ u h. i.topics u c ∙ h) t last in
      subst (λ k. filed same_topic t k after ≡ newest t k new) (cookie_is c d e) (gone ∙ sym last)
  by t d false e = forgets.others (λ u k apart. i.topics u k) t d e

-- ---- what is filed under a lock

pub filed_under : (c : Cookie) (log : Log) (filing : Filing Topic) (locks : ByLock) (numbers : List ℕ) → IsIndexed log filing locks
    → lookup (same_cookie c) locks ≡ Some numbers → (n : ℕ) (f : Fact) → found_at log n ≡ Some f → (f.cookie.0 == c.0) ≡ true
    → has numbers n ≡ true
filed_under c log filing locks numbers i there n f found same =
    let cookie : f.cookie ≡ c = cookie_is f.cookie c same in
    let here : numbers_at f.cookie locks ≡ numbers = ap (λ (d : Cookie). numbers_at d locks) cookie ∙ ap (λ o. unwrap_or o []) there in
    subst (λ ns. has ns n ≡ true) here (i.held n f found)

pub none_filed_under : (c : Cookie) (log : Log) (filing : Filing Topic) (locks : ByLock) → IsIndexed log filing locks
    → lookup (same_cookie c) locks ≡ None → NoneUnder c log
none_filed_under c log filing locks i none n f found = by (f.cookie.0 == c.0) refl where
  by : (v : Bool) → (f.cookie.0 == c.0) ≡ v → v ≡ false
  by true e =
      let cookie : f.cookie ≡ c = cookie_is f.cookie c e in
      let here : numbers_at f.cookie locks ≡ [] = ap (λ (d : Cookie). numbers_at d locks) cookie ∙ ap (λ o. unwrap_or o []) none in
      let yes : has [] n ≡ true = subst (λ ns. has ns n ≡ true) here (i.held n f found) in
      absurd (cc)
  by false e = refl

same_cookies : (c d : Cookie) → same_cookie c d ≡ (c.0 == d.0)
same_cookies c d = grind (arith, nat_tests)

pub same_numbers : (c d : Cookie) (locks less : ByLock) → lookup (same_cookie d) less
    ≡ cond (same_cookie c d) None (lookup (same_cookie d) locks) → (c.0 == d.0) ≡ false → numbers_at d less ≡ numbers_at d locks
same_numbers c d locks less removed apart = ap (λ (o : Option (List ℕ)). unwrap_or o []) (removed ∙ off) where
  off : cond (same_cookie c d) None (lookup (same_cookie d) locks) ≡ lookup (same_cookie d) locks
  off = rw (same_cookies c d, apart) refl
