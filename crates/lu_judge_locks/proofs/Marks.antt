-- What is ended by one mark more: at a target, at a cookie, at a life, at one line.
use Rattle.std.proofs.Common.{◌≡◌, ℕ, ◌<◌, ◌≤◌, Bool, true, false, not, ◌&&◌, ◌==◌, Option, Some, refl, sym, ◌∙◌, arith}
use Rattle.std.specs.Prelude.{if◌then◌else◌, nat_le, unwrap_or}
use Rattle.std.specs.HashMap.{get_by}
use Rattle.std.proofs.lemmas.Bool.{and_parts, eqb-true, lt-leb}
use Rattle.lu_base.specs.declared.ids.Who.{Who}
use Rattle.lu_base.specs.declared.locks.Resource.{Resource}
use Rattle.lu_spec_machine.specs.Tree.{same_life}
use Rattle.lu_judge_locks.specs.declared.lists.LockLists.{LockLists}
use Rattle.lu_judge_locks.specs.Lists.{ended_at_target, ended_at_cookie, ended_at_life, is_single, list_on, Ends}

no_more : (b : Bool) → (b && false) ≡ false
no_more true = refl
no_more false = refl

as_before : (b : Bool) → (b && true) ≡ b
as_before true = refl
as_before false = refl

-- a mark is set where the test passes
later : (here : Bool) (now old : Option ℕ) (place x : ℕ) → now ≡ (if here then Some place else old) → x < place → nat_le (unwrap_or now 0) x
    ≡ (nat_le (unwrap_or old 0) x && not here)
later true now old place x is early = rw (is, lt-leb place x early) (sym (no_more (nat_le (unwrap_or old 0) x)))
later false now old place x is early = rw is (sym (as_before (nat_le (unwrap_or old 0) x)))

within : (here : Bool) (now old : Option ℕ) (place : ℕ) → now ≡ (if here then Some place else old) → unwrap_or old 0 ≤ place
    → unwrap_or now 0 ≤ place
within true now old place is below = rw is (omega arith)
within false now old place is below = rw is below

first : (a b g c l s : Bool) → b ≡ (a && g) → (((b && c) && l) && s) ≡ ((((a && c) && l) && s) && g)
first true b true c l s is = rw is (sym (as_before ((c && l) && s)))
first true b false c l s is = rw is (sym (no_more ((c && l) && s)))
first false b g c l s is = rw is refl

second_is : (a t g c l s : Bool) → c ≡ (a && g) → (((t && c) && l) && s) ≡ ((((t && a) && l) && s) && g)
second_is a true g c l s is = by a c g is where
  by : (a c g : Bool) → c ≡ (a && g) → ((c && l) && s) ≡ (((a && l) && s) && g)
  by true c true is = rw is (sym (as_before (l && s)))
  by true c false is = rw is (sym (no_more (l && s)))
  by false c g is = rw is refl
second_is a false g c l s is = refl

third_is : (a t g l s : Bool) → l ≡ (a && g) → ((t && l) && s) ≡ (((t && a) && s) && g)
third_is a true g l s is = by a l g is where
  by : (a l g : Bool) → l ≡ (a && g) → (l && s) ≡ ((a && s) && g)
  by true l true is = rw is (sym (as_before s))
  by true l false is = rw is (sym (no_more s))
  by false l g is = rw is refl
third_is a false g l s is = refl

fourth_is : (here now old t : Bool) → now ≡ (if here then true else old) → (t && not now) ≡ ((t && not old) && not here)
fourth_is true now old t is = rw is (no_more t ∙ sym (no_more (t && not old)))
fourth_is false now old t is = rw is (sym (as_before (t && not old)))

pub at_target : (old new : LockLists) (target place : ℕ) → ((t : ℕ) → get_by (λ k. t == k) new.targets
    ≡ (if target == t then Some place else get_by (λ k. t == k) old.targets))
    → ((t cookie : ℕ) → ended_at_cookie new t cookie ≡ ended_at_cookie old t cookie)
    → ((t : ℕ) (who : Who) → ended_at_life new t who ≡ ended_at_life old t who)
    → ((t one : ℕ) → is_single new t one ≡ is_single old t one)
    → ((t : ℕ) (resource : Resource) → list_on new t resource ≡ list_on old t resource)
    → Ends old new place (λ t _. target == t)
at_target old new target place targets cookies lives single lists = record {
  lasts = λ t a early.
      rw (cookies t a.lock.cookie.0, lives t a.lock.ask.who, single t a.place)
      (first (nat_le (ended_at_target old t) a.place) (nat_le (ended_at_target new t) a.place) (not (target == t)) _ _ _
      (later (target == t) _ _ place a.place (targets t) early));
  lists = lists;
  bounded = λ bounded. record {
    targets = λ t. within (target == t) _ _ place (targets t) (bounded.targets t);
    cookies = λ t cookie. rw (cookies t cookie) (bounded.cookies t cookie);
    lives = λ t who. rw (lives t who) (bounded.lives t who);
    single = λ t one is. bounded.single t one (sym (single t one) ∙ is);
  };
}

pub at_cookie : (old new : LockLists) (target ended place : ℕ) → ((t cookie : ℕ) → get_by (λ k. t == k.0 && cookie == k.1) new.cookies
    ≡ (if target == t && ended == cookie then Some place else get_by (λ k. t == k.0 && cookie == k.1) old.cookies))
    → ((t : ℕ) → ended_at_target new t ≡ ended_at_target old t) → ((t : ℕ) (who : Who) → ended_at_life new t who ≡ ended_at_life old t who)
    → ((t one : ℕ) → is_single new t one ≡ is_single old t one)
    → ((t : ℕ) (resource : Resource) → list_on new t resource ≡ list_on old t resource)
    → Ends old new place (λ t a. target == t && ended == a.lock.cookie.0)
at_cookie old new target ended place cookies targets lives single lists = record {
  lasts = λ t a early.
      rw (targets t, lives t a.lock.ask.who, single t a.place)
      (second_is (nat_le (ended_at_cookie old t a.lock.cookie.0) a.place) (nat_le (ended_at_target old t) a.place)
      (not (target == t && ended == a.lock.cookie.0)) (nat_le (ended_at_cookie new t a.lock.cookie.0) a.place) _ _
      (later (target == t && ended == a.lock.cookie.0) _ _ place a.place (cookies t a.lock.cookie.0) early));
  lists = lists;
  bounded = λ bounded. record {
    targets = λ t. rw (targets t) (bounded.targets t);
    cookies = λ t cookie. within (target == t && ended == cookie) _ _ place (cookies t cookie) (bounded.cookies t cookie);
    lives = λ t who. rw (lives t who) (bounded.lives t who);
    single = λ t one is. bounded.single t one (sym (single t one) ∙ is);
  };
}

pub at_life : (old new : LockLists) (target : ℕ) (ended : Who) (place : ℕ)
    → ((t : ℕ) (who : Who) → get_by (λ k. t == k.0 && (who.client == k.1.0 && who.life == k.1.1)) new.lives
    ≡ (if target == t && same_life ended who then Some place else get_by (λ k. t == k.0 && (who.client == k.1.0 && who.life == k.1.1))
    old.lives))
    → ((t : ℕ) → ended_at_target new t ≡ ended_at_target old t)
    → ((t cookie : ℕ) → ended_at_cookie new t cookie ≡ ended_at_cookie old t cookie)
    → ((t one : ℕ) → is_single new t one ≡ is_single old t one)
    → ((t : ℕ) (resource : Resource) → list_on new t resource ≡ list_on old t resource)
    → Ends old new place (λ t a. target == t && same_life ended a.lock.ask.who)
at_life old new target ended place lives targets cookies single lists = record {
  lasts = λ t a early.
      rw (targets t, cookies t a.lock.cookie.0, single t a.place)
      (third_is (nat_le (ended_at_life old t a.lock.ask.who) a.place) _ (not (target == t && same_life ended a.lock.ask.who))
      (nat_le (ended_at_life new t a.lock.ask.who) a.place) _
      (later (target == t && same_life ended a.lock.ask.who) _ _ place a.place (lives t a.lock.ask.who) early));
  lists = lists;
  bounded = λ bounded. record {
    targets = λ t. rw (targets t) (bounded.targets t);
    cookies = λ t cookie. rw (cookies t cookie) (bounded.cookies t cookie);
    lives = λ t who. within (target == t && same_life ended who) _ _ place (lives t who) (bounded.lives t who);
    single = λ t one is. bounded.single t one (sym (single t one) ∙ is);
  };
}

pub at_one : (old new : LockLists) (target ended place : ℕ) → ended < place
    → ((t one : ℕ) → is_single new t one ≡ (if target == t && ended == one then true else is_single old t one))
    → ((t : ℕ) → ended_at_target new t ≡ ended_at_target old t)
    → ((t cookie : ℕ) → ended_at_cookie new t cookie ≡ ended_at_cookie old t cookie)
    → ((t : ℕ) (who : Who) → ended_at_life new t who ≡ ended_at_life old t who)
    → ((t : ℕ) (resource : Resource) → list_on new t resource ≡ list_on old t resource)
    → Ends old new place (λ t a. target == t && ended == a.place)
at_one old new target ended place early single targets cookies lives lists = record {
  lasts = λ t a before.
      rw (targets t, cookies t a.lock.cookie.0, lives t a.lock.ask.who)
      (fourth_is (target == t && ended == a.place) (is_single new t a.place) (is_single old t a.place) _ (single t a.place));
  lists = lists;
  bounded = λ bounded. record {
    targets = λ t. rw (targets t) (bounded.targets t);
    cookies = λ t cookie. rw (cookies t cookie) (bounded.cookies t cookie);
    lives = λ t who. rw (lives t who) (bounded.lives t who);
    single = λ t one is. by t one (target == t && ended == one) refl is (single t one) (bounded.single t one);
  };
} where
  by : (t one : ℕ) (here : Bool) → (target == t && ended == one) ≡ here → is_single new t one ≡ true → is_single new t one
      ≡ (if here then true else is_single old t one) → (is_single old t one ≡ true → one < place) → one < place
  by t one true here is now old_early = let both = and_parts (target == t) (ended == one) here in let same : ended ≡ one =
      eqb-true ended one both.1 in omega arith
  by t one false here is now old_early = old_early (sym now ∙ is)
