-- The lives of the locks whose blocks are due are those that the rows condemn.
use Rattle.std.proofs.Common.{◌≡◌, ◌+◌, Bool, true, false, ◌&&◌, ◌||◌, ◌==◌, List, [], ◌∷◌, map, filter, Option, Some, None, refl, sym, ap}
use Rattle.std.proofs.Common.{◌∙◌, arith, nat_le}
use Rattle.std.specs.Prelude.{if◌then◌else◌}
use Rattle.std.specs.List.{list_any}
use Rattle.std.proofs.lemmas.Bool.Decides.{nat_tests}
use Rattle.lu_base.specs.declared.ids.Cookie.{Cookie}
use Rattle.lu_base.specs.declared.ids.Who.{Who}
use Rattle.lu_base.specs.declared.locks.Lock.{Lock}
use Rattle.lu_callback.specs.declared.callbacks.Asked.{Asked}
use Rattle.lu_callback.specs.Callbacks.{is_block, due}
use Rattle.lu_callback.specs.Callbacks as own
use Rattle.lu_spec_entries.specs.Carried.{Called, Glimpse}
use Rattle.lu_spec_entries.specs.Words.{same_life}
use Rattle.lu_spec_target.specs.Leaving.{is_due, condemned}
use Rattle.lu_spec_target.specs.Lives.{is_life, with_life}
use Rattle.lu_spec_target.specs.States.{Target}
use Rattle.lu_target_refines.specs.Callbacks.{block_of, is_block_on, is_call_of, blocked, holds, has_life, with_holder, holders_of, Shows}
use Rattle.lu_target_refines.specs.Callbacks.{ShowsCalls}
use Rattle.lu_target_refines.specs.Cookies.{HaveOther, HaveOneEach, with_cookie}
use Rattle.lu_target_refines.specs.Lives.{InOrder}
use Rattle.lu_target_refines.proofs.Lists.{both_left, both_right, both_true, every_map, any_alike, any_same, any_more, any_filter, any_map}
use Rattle.lu_target_refines.proofs.Lists.{found_in}
use Rattle.lu_target_refines.proofs.Lives.{is_same, ordered_with, there_with, same_lives}
use Rattle.lu_target_refines.proofs.Callbacks.{same_number}

-- what some block passes, some lock that was called back passes
module _ (asked : List Asked) (cs : List Called) (gs : List Glimpse) (locks : List Lock) (shows : Shows asked cs gs locks)
    (test : Asked → Bool) where
  of_block : list_any (λ a. is_block a.kind && test a) asked ≡ true → list_any (λ c. test (block_of c)) cs ≡ true
  of_block some = found_in (λ a. is_block a.kind && test a) asked some (list_any (λ c. test (block_of c)) cs ≡ true)
      (λ a passes there. by a passes there) where
        by : (a : Asked) → (is_block a.kind && test a) ≡ true → ((q : Asked → Bool) → q a ≡ true → list_any q asked ≡ true)
            → list_any (λ c. test (block_of c)) cs ≡ true
        by a passes there =
            let on : is_block_on a.cookie a ≡ true = both_true (a.cookie.0 == a.cookie.0) (is_block a.kind) (same_number a.cookie.0)
            (both_left (is_block a.kind) (test a) passes) in
            let both : list_any (λ x. is_block_on a.cookie x && test x) asked ≡ true =
            there (λ x. is_block_on a.cookie x && test x) (both_true (is_block_on a.cookie a) (test a) on
            (both_right (is_block a.kind) (test a) passes)) in
            let among : list_any test (blocked a.cookie asked) ≡ true = any_filter test (is_block_on a.cookie) asked ∙ both in
            let rows : list_any test (map block_of (filter (is_call_of a.cookie) cs)) ≡ true = sym (ap (list_any test) (shows.blocks a.cookie))
            ∙ among in
            let flat : list_any (λ c. is_call_of a.cookie c && test (block_of c)) cs ≡ true =
            sym (any_map block_of test (filter (is_call_of a.cookie) cs) ∙ any_filter (λ c. test (block_of c)) (is_call_of a.cookie) cs) ∙ rows
            in
            any_more (λ c. is_call_of a.cookie c && test (block_of c)) (λ c. test (block_of c)) cs
            (λ c h. both_right (is_call_of a.cookie c) (test (block_of c)) h) flat

  of_called : list_any (λ c. test (block_of c)) cs ≡ true → list_any (λ a. is_block a.kind && test a) asked ≡ true
  of_called some = found_in (λ c. test (block_of c)) cs some (list_any (λ a. is_block a.kind && test a) asked ≡ true)
      (λ c passes there. by c passes there) where
        by : (c : Called) → test (block_of c) ≡ true → ((q : Called → Bool) → q c ≡ true → list_any q cs ≡ true)
            → list_any (λ a. is_block a.kind && test a) asked ≡ true
        by c passes there =
            let both : list_any (λ x. is_call_of c.cookie x && test (block_of x)) cs ≡ true =
            there (λ x. is_call_of c.cookie x && test (block_of x))
            (both_true (is_call_of c.cookie c) (test (block_of c)) (same_number c.cookie.0) passes)
            in
            let rows : list_any test (map block_of (filter (is_call_of c.cookie) cs)) ≡ true =
            any_map block_of test (filter (is_call_of c.cookie) cs) ∙ any_filter (λ x. test (block_of x)) (is_call_of c.cookie) cs ∙ both
            in
            let among : list_any test (blocked c.cookie asked) ≡ true = ap (list_any test) (shows.blocks c.cookie) ∙ rows in
            let flat : list_any (λ a. is_block_on c.cookie a && test a) asked ≡ true = sym (any_filter test (is_block_on c.cookie) asked)
            ∙ among in
            any_more (λ a. is_block_on c.cookie a && test a) (λ a. is_block a.kind && test a) asked
            (λ a h. both_true (is_block a.kind) (test a) (both_right (a.cookie.0 == c.cookie.0) (is_block a.kind)
            (both_left (is_block_on c.cookie a) (test a) h)) (both_right (is_block_on c.cookie a) (test a) h)) flat

  blocks_any : list_any (λ a. is_block a.kind && test a) asked ≡ list_any (λ c. test (block_of c)) cs
  blocks_any = by (list_any (λ a. is_block a.kind && test a) asked) refl (list_any (λ c. test (block_of c)) cs) refl of_block
      of_called where
        by : (a : Bool) → list_any (λ a. is_block a.kind && test a) asked ≡ a → (b : Bool) → list_any (λ c. test (block_of c)) cs ≡ b
            → (list_any (λ a. is_block a.kind && test a) asked ≡ true → list_any (λ c. test (block_of c)) cs ≡ true)
            → (list_any (λ c. test (block_of c)) cs ≡ true → list_any (λ a. is_block a.kind && test a) asked ≡ true) → a ≡ b
        by true h true g to from = refl
        by false h false g to from = refl
        by true h false g to from = sym (to h) ∙ g
        by false h true g to from = sym h ∙ from g

-- the life of a lock that was called back
none_holds : (c : Called) (locks : List Lock) → HaveOther c.cookie locks → list_any (holds c) locks ≡ false
none_holds c [] other = refl
none_holds c (l ∷ locks) other = ap (λ b. (b && same_life l.ask.who c.who) || list_any (holds c) locks) other.0 ∙ none_holds c locks other.1

others_too : (a b : Cookie) → (a.0 == b.0) ≡ true → (locks : List Lock) → HaveOther a locks → HaveOther b locks
others_too a b h [] other = tt
others_too a b h (l ∷ locks) other = let apart : (l.cookie.0 == a.0) ≡ false = other.0
    in (grind (arith, nat_tests), others_too a b h locks other.1)

holder_is : (who : Who) (c : Called) (locks : List Lock) → HaveOneEach locks → list_any (holds c) locks ≡ true
    → has_life who (with_cookie c.cookie locks) ≡ same_life who c.who
holder_is who c [] each some = absurd (cc)
holder_is who c (l ∷ locks) each some = by (l.cookie.0 == c.cookie.0) refl (same_life l.ask.who c.who) refl some
    (holder_is who c locks each.1) where
      by : (here : Bool) → (l.cookie.0 == c.cookie.0) ≡ here → (his : Bool) → same_life l.ask.who c.who ≡ his
          → ((here && his) || list_any (holds c) locks) ≡ true
          → (list_any (holds c) locks ≡ true → has_life who (with_cookie c.cookie locks) ≡ same_life who c.who)
          → has_life who (if here then Some l else with_cookie c.cookie locks) ≡ same_life who c.who
      by true h true g s rest = ap (same_life who) (is_same l.ask.who c.who g)
      by true h false g s rest = let none : list_any (holds c) locks ≡ false = none_holds c locks (others_too l.cookie c.cookie h locks each.0)
          in absurd (cc)
      by false h his g s rest = rest s

-- ---- what the rows condemn

condemned_ordered : (v : Target) (cs : List Called) → InOrder (condemned v cs)
condemned_ordered v [] = tt
condemned_ordered v (c ∷ cs) = by (is_due v c) (condemned_ordered v cs) where
  by : (now : Bool) → InOrder (condemned v cs) → InOrder (if now then with_life c.who (condemned v cs) else condemned v cs)
  by true rest = ordered_with c.who (condemned v cs) rest
  by false rest = rest

condemned_has : (who : Who) (v : Target) (cs : List Called) → is_life who (condemned v cs)
    ≡ list_any (λ c. is_due v c && same_life who c.who) cs
condemned_has who v [] = refl
condemned_has who v (c ∷ cs) = by (is_due v c) (condemned_has who v cs) where
  by : (now : Bool) → is_life who (condemned v cs) ≡ list_any (λ c. is_due v c && same_life who c.who) cs
      → is_life who (if now then with_life c.who (condemned v cs) else condemned v cs)
      ≡ ((now && same_life who c.who) || list_any (λ c. is_due v c && same_life who c.who) cs)
  by true rest = there_with who c.who (condemned v cs) ∙ ap (λ b. same_life who c.who || b) rest
  by false rest = rest

and_again : (a b c : Bool) → ((a && b) && c) ≡ (a && (b && c))
and_again true b c = refl
and_again false b c = refl

due_has : (v : Target) (asked : List Asked) → ShowsCalls asked v → HaveOneEach v.granted → (who : Who)
    → list_any (λ cookie. has_life who (with_cookie cookie v.granted)) (due v.ticks v.setting.expire asked)
    ≡ is_life who (condemned v v.called)
due_has v asked shows each who =
    let test : Asked → Bool = λ a. nat_le (a.tick + v.setting.expire) v.ticks && has_life who (with_cookie a.cookie v.granted) in
    any_map (λ (a : Asked). a.cookie) (λ cookie. has_life who (with_cookie cookie v.granted))
    (filter (own.is_due v.ticks v.setting.expire) asked)
    ∙ any_filter (λ (a : Asked). has_life who (with_cookie a.cookie v.granted)) (own.is_due v.ticks v.setting.expire) asked
    ∙ any_same (λ a. own.is_due v.ticks v.setting.expire a && has_life who (with_cookie a.cookie v.granted))
    (λ a. is_block a.kind && test a) asked
    (λ a. and_again (is_block a.kind) (nat_le (a.tick + v.setting.expire) v.ticks) (has_life who (with_cookie a.cookie v.granted)))
    ∙ blocks_any asked v.called v.glimpses v.granted shows test
    ∙ any_alike (λ c. test (block_of c)) (λ c. is_due v c && same_life who c.who) v.called
    (every_map (λ c. list_any (holds c) v.granted ≡ true) (λ c. test (block_of c) ≡ (is_due v c && same_life who c.who))
    (λ c held. ap (λ b. is_due v c && b) (holder_is who c v.granted each held)) v.called shows.holders)
    ∙ sym (condemned_has who v v.called)

-- any list in order that has the lives of the due locks and no others
pub due_are : (v : Target) (asked : List Asked) (lives : List Who) → ShowsCalls asked v → HaveOneEach v.granted → InOrder lives
    → ((who : Who) → is_life who lives ≡ list_any (λ cookie. has_life who (with_cookie cookie v.granted))
    (due v.ticks v.setting.expire asked)) → lives ≡ condemned v v.called
due_are v asked lives shows each ordered has =
    same_lives lives (condemned v v.called) ordered (condemned_ordered v v.called) (λ who. has who ∙ due_has v asked shows each who)

holders_ordered : (locks : List Lock) (cookies : List Cookie) → InOrder (holders_of locks cookies)
holders_ordered locks [] = tt
holders_ordered locks (cookie ∷ cookies) = by (with_cookie cookie locks) (holders_ordered locks cookies) where
  by : (found : Option Lock) → InOrder (holders_of locks cookies) → InOrder (with_holder found (holders_of locks cookies))
  by None rest = rest
  by (Some l) rest = ordered_with l.ask.who (holders_of locks cookies) rest

holders_have : (who : Who) (locks : List Lock) (cookies : List Cookie) → is_life who (holders_of locks cookies)
    ≡ list_any (λ cookie. has_life who (with_cookie cookie locks)) cookies
holders_have who locks [] = refl
holders_have who locks (cookie ∷ cookies) = by (with_cookie cookie locks) (holders_have who locks cookies) where
  by : (found : Option Lock) → is_life who (holders_of locks cookies) ≡ list_any (λ cookie. has_life who (with_cookie cookie locks)) cookies
      → is_life who (with_holder found (holders_of locks cookies))
      ≡ (has_life who found || list_any (λ cookie. has_life who (with_cookie cookie locks)) cookies)
  by None rest = rest
  by (Some l) rest = there_with who l.ask.who (holders_of locks cookies) ∙ ap (λ b. same_life who l.ask.who || b) rest

-- so those that come of the call's cookies, one after another
pub due_holders_are : (v : Target) (asked : List Asked) (cookies : List Cookie) → ShowsCalls asked v → HaveOneEach v.granted → cookies
    ≡ due v.ticks v.setting.expire asked
    → holders_of v.granted cookies ≡ condemned v v.called
due_holders_are v asked cookies shows each e =
    ap (holders_of v.granted) e
    ∙ due_are v asked (holders_of v.granted (due v.ticks v.setting.expire asked)) shows each
    (holders_ordered v.granted (due v.ticks v.setting.expire asked))
    (λ who. holders_have who v.granted (due v.ticks v.setting.expire asked))
