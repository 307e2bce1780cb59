-- What a target's callbacks hold once lives have left: what was outstanding of their locks is gone, and so are the
-- glimpses for their requests.
use Rattle.std.proofs.Common.{◌≡◌, ℕ, Bool, true, false, not, ◌&&◌, ◌||◌, ◌==◌, List, [], ◌∷◌, map, filter, refl, sym, ap, subst, ◌∙◌}
use Rattle.std.specs.List.{list_any}
use Rattle.lu_base.specs.declared.ids.At.{At}
use Rattle.lu_base.specs.declared.ids.Cookie.{Cookie}
use Rattle.lu_base.specs.declared.ids.Who.{Who}
use Rattle.lu_base.specs.declared.locks.Cause.{Cause}
use Rattle.lu_base.specs.declared.locks.Lock.{Lock}
use Rattle.lu_msg.specs.declared.commits.Batch.{Batch}
use Rattle.lu_callback.specs.declared.callbacks.Asked.{Asked}
use Rattle.lu_callback.specs.declared.callbacks.Kind.{Kind}
use Rattle.lu_callback.specs.declared.callbacks.Kind.TheVariants as kind
use Rattle.lu_callback.specs.Callbacks.{is_block, is_of_locks, is_for, without_locks, without_lives, IsSound}
use Rattle.lu_spec_entries.specs.Carried.{Called, Glimpse}
use Rattle.lu_spec_entries.specs.Words.{Entry, Commit, Evict, same_life}
use Rattle.lu_spec_target.specs.Lives.{is_life}
use Rattle.lu_spec_target.specs.Locks.{locks_without}
use Rattle.lu_spec_target.specs.States.{Target, after, turn}
use Rattle.lu_spec_target.specs.Leaving.{evicted, all_released, locks_of, evictions}
use Rattle.lu_spec_target.specs.Requests.{releases}
use Rattle.lu_target_refines.specs.Callbacks.{block_of, is_block_on, is_call_of, blocked, glimpse_kind, is_glimpse_on, is_on, glimpsed}
use Rattle.lu_target_refines.specs.Callbacks.{holds, is_of_lock, is_theirs, cookies_of, Shows, ShowsCalls}
use Rattle.lu_target_refines.proofs.Lists.{and_true, and_false, both_left, both_right, both_true, not_true, every_all, every_map}
use Rattle.lu_target_refines.proofs.Lists.{every_passed, every_filter, passes_none, any_either, filter_alike, filter_all, filter_same}
use Rattle.lu_target_refines.proofs.Lists.{filter_twice, filter_through, filter_past, any_filter, any_map, any_same, found_in, filter_map}
use Rattle.lu_target_refines.proofs.Lives.{is_same}
use Rattle.lu_target_refines.proofs.Callbacks.{same_number}
use Rattle.lu_target_refines.proofs.Answered.{eq_swap, number_is, moved, release_called, release_granted, release_glimpses}
use Rattle.lu_target_refines.proofs.Blocking.{turned_more}

-- ---- the releases of some locks, one after another

-- this number is a cookie of one of these locks
abbrev pub is_cookie : List Lock → ℕ → Bool
is_cookie locks n = list_any (λ l. n == l.cookie.0) locks

not_or : (a b : Bool) → (not a && not b) ≡ not (a || b)
not_or true b = refl
not_or false b = refl

module _ {A : Type 0} (number : A → ℕ) where
  pub past_none : (xs : List A) → filter (λ x. not (is_cookie [] (number x))) xs ≡ xs
  past_none xs = filter_all (λ x. true) xs (every_all (λ x. true ≡ true) (λ x. refl) xs)

  pub past_next : (l : Lock) (locks : List Lock) (xs : List A)
      → filter (λ x. not (is_cookie locks (number x))) (filter (λ x. not (number x == l.cookie.0)) xs)
      ≡ filter (λ x. not (is_cookie (l ∷ locks) (number x))) xs
  past_next l locks xs =
      filter_twice (λ x. not (is_cookie locks (number x))) (λ x. not (number x == l.cookie.0)) xs
      ∙ filter_same (λ x. not (number x == l.cookie.0) && not (is_cookie locks (number x))) (λ x. not (is_cookie (l ∷ locks) (number x))) xs
      (λ x. not_or (number x == l.cookie.0) (is_cookie locks (number x)))

  -- those of some locks, and then those of others
  pub past_more : (p q : ℕ → Bool) (xs : List A) → filter (λ x. not (q (number x))) (filter (λ x. not (p (number x))) xs)
      ≡ filter (λ x. not (p (number x) || q (number x))) xs
  past_more p q xs =
      filter_twice (λ x. not (q (number x))) (λ x. not (p (number x))) xs
      ∙ filter_same (λ x. not (p (number x)) && not (q (number x))) (λ x. not (p (number x) || q (number x))) xs
      (λ x. not_or (p (number x)) (q (number x)))

-- the parts of the state that are left when what these numbers name is gone
record Left (gone : ℕ → Bool) (v w : Target) : Type 0 where
  called : w.called ≡ filter (λ c. not (gone c.cookie.0)) v.called
  glimpses : w.glimpses ≡ filter (λ g. not (gone g.cookie.0)) v.glimpses
  granted : w.granted ≡ filter (λ l. not (gone l.cookie.0)) v.granted

released_left : (at : At) (locks : List Lock) (v : Target) → Left (is_cookie locks) v (turn v (all_released at locks v))
released_left at [] v = record {
  called = sym (past_none (λ (c : Called). c.cookie.0) v.called);
  glimpses =
      sym (past_none (λ (g : Glimpse). g.cookie.0) v.glimpses);
  granted = sym (past_none (λ (l : Lock). l.cookie.0) v.granted);
}
released_left at (l ∷ locks) v =
    let w : Target = turn v (releases at l v) in
    let rest : Left (is_cookie locks) w (turn w (all_released at locks w)) = released_left at locks w in
    let all : turn v (all_released at (l ∷ locks) v) ≡ turn w (all_released at locks w) =
    turned_more v (releases at l v) (all_released at locks w) in
    subst (Left (is_cookie (l ∷ locks)) v) (sym all)
    (record {
      called = Left.called rest ∙ ap (filter (λ (c : Called). not (is_cookie locks c.cookie.0))) (release_called v at l)
          ∙ past_next (λ (c : Called). c.cookie.0) l locks v.called;
      glimpses = Left.glimpses rest ∙ ap (filter (λ (g : Glimpse). not (is_cookie locks g.cookie.0))) (release_glimpses v at l)
          ∙ past_next (λ (g : Glimpse). g.cookie.0) l locks v.glimpses;
      granted = Left.granted rest ∙ ap (filter (λ (k : Lock). not (is_cookie locks k.cookie.0))) (release_granted v at l)
          ∙ past_next (λ (k : Lock). k.cookie.0) l locks v.granted;
    })

-- those of all the lives, one after another
abbrev of_lives : List Lock → List Who → ℕ → Bool
of_lives granted [] n = false
of_lives granted (who ∷ gone) n = is_cookie (locks_of who granted) n || of_lives granted gone n

evicted_left : (at : At) (cause : Cause) (granted : List Lock) (gone : List Who) (v : Target)
    → Left (of_lives granted gone) v (turn v (evictions at cause granted gone v))
evicted_left at cause granted [] v = record {
  called = sym (past_none (λ (c : Called). c.cookie.0) v.called);
  glimpses =
      sym (past_none (λ (g : Glimpse). g.cookie.0) v.glimpses);
  granted = sym (past_none (λ (l : Lock). l.cookie.0) v.granted);
}
evicted_left at cause granted (who ∷ gone) v =
    let locks : List Lock = locks_of who granted in
    let es : List Entry = Evict who cause ∷ evicted v who ∷ all_released at locks v in
    let w : Target = turn v es in
    let u : Target = turn v (Evict who cause ∷ evicted v who ∷ []) in
    -- its line and the message leave all as it is
    let same : Left (is_cookie locks) v w = told at locks v u refl in
    let rest : Left (of_lives granted gone) w (turn w (evictions at cause granted gone w)) = evicted_left at cause granted gone w in
    let all : turn v (evictions at cause granted (who ∷ gone) v) ≡ turn w (evictions at cause granted gone w) =
    turned_more v es (evictions at cause granted gone w) in
    subst (Left (of_lives granted (who ∷ gone)) v) (sym all)
    (record {
      called = Left.called rest ∙ ap (filter (λ (c : Called). not (of_lives granted gone c.cookie.0))) (Left.called same)
          ∙ past_more (λ (c : Called). c.cookie.0) (is_cookie locks) (of_lives granted gone) v.called;
      glimpses = Left.glimpses rest ∙ ap (filter (λ (g : Glimpse). not (of_lives granted gone g.cookie.0))) (Left.glimpses same)
          ∙ past_more (λ (g : Glimpse). g.cookie.0) (is_cookie locks) (of_lives granted gone) v.glimpses;
      granted = Left.granted rest ∙ ap (filter (λ (l : Lock). not (of_lives granted gone l.cookie.0))) (Left.granted same)
          ∙ past_more (λ (l : Lock). l.cookie.0) (is_cookie locks) (of_lives granted gone) v.granted;
    })
  where
    told : (at : At) (locks : List Lock) (v u : Target) → u ≡ v → Left (is_cookie locks) v (turn u (all_released at locks v))
    told at locks v u e = subst (λ (x : Target). Left (is_cookie locks) v (turn x (all_released at locks v))) (sym e)
        (released_left at locks v)

-- a number is that of a lock of one of them
of_lives_is : (granted : List Lock) (gone : List Who) (n : ℕ) → of_lives granted gone n
    ≡ list_any (λ l. is_life l.ask.who gone && n == l.cookie.0) granted
of_lives_is granted [] n = sym (passes_none (λ l. false) granted (every_all (λ l. false ≡ false) (λ l. refl) granted))
of_lives_is granted (who ∷ gone) n =
    ap (λ b. b || of_lives granted gone n) (any_filter (λ l. n == l.cookie.0) (λ l. same_life l.ask.who who) granted)
    ∙ ap (λ b. list_any (λ l. same_life l.ask.who who && n == l.cookie.0) granted || b) (of_lives_is granted gone n)
    ∙ any_either (λ l. same_life l.ask.who who && n == l.cookie.0) (λ l. is_life l.ask.who gone && n == l.cookie.0) granted
    ∙ any_same (λ l. (same_life l.ask.who who && n == l.cookie.0) || (is_life l.ask.who gone && n == l.cookie.0))
    (λ l. is_life l.ask.who (who ∷ gone) && n == l.cookie.0) granted
    (λ l. by (same_life l.ask.who who) (is_life l.ask.who gone) (n == l.cookie.0))
  where
    by : (a b c : Bool) → ((a && c) || (b && c)) ≡ ((a || b) && c)
    by true b true = refl
    by true b false = and_false b
    by false b c = refl

-- ---- what is outstanding

is_for_kind : (gone : List Who) (g : Glimpse) → is_for gone (glimpse_kind g) ≡ is_life g.request.who gone
is_for_kind gone g = any_same (λ life. life.client == g.request.who.client && life.life == g.request.who.life) (same_life g.request.who)
    gone
    (λ life. ap (λ b. b && life.life == g.request.who.life) (eq_swap life.client g.request.who.client)
    ∙ ap (λ b. g.request.who.client == life.client && b) (eq_swap life.life g.request.who.life))

module _ (asked : List Asked) (cs : List Called) (gs : List Glimpse) (locks : List Lock) (shows : Shows asked cs gs locks)
    (gone : List Who) where
  abbrev theirs : ℕ → Bool
  theirs n = list_any (λ l. is_life l.ask.who gone && n == l.cookie.0) locks

  of_cookies : (a : Asked) → is_of_locks (cookies_of gone locks) a ≡ theirs a.cookie.0
  of_cookies a =
      any_map (λ (l : Lock). l.cookie) (λ cookie. a.cookie.0 == cookie.0) (filter (is_theirs gone) locks)
      ∙ any_filter (λ l. a.cookie.0 == l.cookie.0) (is_theirs gone) locks

  and_swap : (a b : Bool) → (a && b) ≡ (b && a)
  and_swap true b = sym (and_true b)
  and_swap false b = sym (and_false b)

  -- a lock whose number isn't theirs is of a life that stays
  not_gone : (n : ℕ) → theirs n ≡ false → (l : Lock) → (n == l.cookie.0) ≡ true → ((q : Lock → Bool) → q l ≡ true → list_any q locks ≡ true)
      → is_life l.ask.who gone ≡ false
  not_gone n none l h there = by (is_life l.ask.who gone) refl where
    by : (b : Bool) → is_life l.ask.who gone ≡ b → b ≡ false
    by false g = refl
    by true g =
        let found : list_any (λ l. is_life l.ask.who gone && n == l.cookie.0) locks ≡ true =
        there (λ l. is_life l.ask.who gone && n == l.cookie.0) (both_true (is_life l.ask.who gone) (n == l.cookie.0) g h) in
        absurd (cc)

  -- where no lock of that number is theirs, a lock that was called back is of a life that stays
  his_stays : (k : Cookie) → theirs k.0 ≡ false → (c : Called) → list_any (holds c) locks ≡ true
      → (not (is_life c.who gone) && is_call_of k c) ≡ is_call_of k c
  his_stays k none c held = by (is_call_of k c) refl where
    by : (on : Bool) → is_call_of k c ≡ on → (not (is_life c.who gone) && on) ≡ on
    by false h = and_false (not (is_life c.who gone))
    by true h =
        let stays : is_life c.who gone ≡ false =
        found_in (holds c) locks held (is_life c.who gone ≡ false)
        (λ l is there.
        let life : l.ask.who ≡ c.who = is_same l.ask.who c.who (both_right (l.cookie.0 == c.cookie.0) (same_life l.ask.who c.who) is) in
        let number : l.cookie.0 ≡ k.0 = number_is l.cookie.0 c.cookie.0
        (both_left (l.cookie.0 == c.cookie.0) (same_life l.ask.who c.who) is) ∙ number_is c.cookie.0 k.0 h in
        let same : (k.0 == l.cookie.0) ≡ true = ap (λ n. k.0 == n) number ∙ same_number k.0 in
        subst (λ (w : Who). is_life w gone ≡ false) life (not_gone k.0 none l same there))
        in
        ap (λ b. not b && true) stays

  block_kept : (k : Cookie) (a : Asked) → is_block_on k a ≡ true → not (is_for gone a.kind) ≡ true
  block_kept k a = by a.kind where
    by : (kd : Kind) → (a.cookie.0 == k.0 && is_block kd) ≡ true → not (is_for gone kd) ≡ true
    by kind.Block h = refl
    by (kind.Glimpse who xid) h = let no : false ≡ true = both_right (a.cookie.0 == k.0) false h in absurd (cc)

  at_number : (k n : ℕ) (b : Bool) → (n == k) ≡ true → theirs k ≡ b → theirs n ≡ b
  at_number k n b h t = ap theirs (number_is n k h) ∙ t

  blocks_left : (k : Cookie) (their : Bool) → theirs k.0 ≡ their
      → blocked k (without_lives gone (without_locks (cookies_of gone locks) asked))
      ≡ map block_of (filter (is_call_of k) (filter (λ c. not (theirs c.cookie.0)) (filter (λ c. not (is_life c.who gone)) cs)))
  blocks_left k true t =
      filter_through (is_block_on k) (λ a. not (is_for gone a.kind)) (block_kept k) (without_locks (cookies_of gone locks) asked)
      ∙ filter_past (is_block_on k) (λ a. not (is_of_locks (cookies_of gone locks) a))
      (λ a on. ap not (of_cookies a ∙ at_number k.0 a.cookie.0 true (both_left (a.cookie.0 == k.0) (is_block a.kind) on) t)) asked
      ∙ ap (map block_of) (sym (filter_past (is_call_of k) (λ c. not (theirs c.cookie.0))
      (λ c on. ap not (at_number k.0 c.cookie.0 true on t)) (filter (λ c. not (is_life c.who gone)) cs)))
  blocks_left k false t =
      filter_through (is_block_on k) (λ a. not (is_for gone a.kind)) (block_kept k) (without_locks (cookies_of gone locks) asked)
      ∙ filter_through (is_block_on k) (λ a. not (is_of_locks (cookies_of gone locks) a))
      (λ a on. ap not (of_cookies a ∙ at_number k.0 a.cookie.0 false (both_left (a.cookie.0 == k.0) (is_block a.kind) on) t)) asked
      ∙ shows.blocks k
      ∙ ap (map block_of)
      (sym (filter_through (is_call_of k) (λ c. not (theirs c.cookie.0)) (λ c on. ap not (at_number k.0 c.cookie.0 false on t))
      (filter (λ c. not (is_life c.who gone)) cs)
      ∙ filter_twice (is_call_of k) (λ c. not (is_life c.who gone)) cs
      ∙ filter_alike (λ c. not (is_life c.who gone) && is_call_of k c) (is_call_of k) cs
      (every_map (λ c. list_any (holds c) locks ≡ true) (λ c. (not (is_life c.who gone) && is_call_of k c) ≡ is_call_of k c) (his_stays k t)
      cs shows.holders)))

  glimpses_left : (k : Cookie) (their : Bool) → theirs k.0 ≡ their
      → glimpsed k (without_lives gone (without_locks (cookies_of gone locks) asked))
      ≡ map glimpse_kind (filter (is_on k) (filter (λ g. not (theirs g.cookie.0)) (filter (λ g. not (is_life g.request.who gone)) gs)))
  glimpses_left k true t =
      ap (map (λ (a : Asked). a.kind))
      (filter_twice (is_glimpse_on k) (λ a. not (is_for gone a.kind)) (without_locks (cookies_of gone locks) asked)
      ∙ filter_past (λ a. not (is_for gone a.kind) && is_glimpse_on k a) (λ a. not (is_of_locks (cookies_of gone locks) a))
      (λ a on. ap not (of_cookies a ∙ at_number k.0 a.cookie.0 true
      (both_left (a.cookie.0 == k.0) (not (is_block a.kind)) (both_right (not (is_for gone a.kind)) (is_glimpse_on k a) on)) t)) asked)
      ∙ ap (map glimpse_kind) (sym (filter_past (is_on k) (λ g. not (theirs g.cookie.0))
      (λ g on. ap not (at_number k.0 g.cookie.0 true on t)) (filter (λ g. not (is_life g.request.who gone)) gs)))
  glimpses_left k false t =
      ap (map (λ (a : Asked). a.kind))
      (filter_twice (is_glimpse_on k) (λ a. not (is_for gone a.kind)) (without_locks (cookies_of gone locks) asked)
      ∙ filter_through (λ a. not (is_for gone a.kind) && is_glimpse_on k a) (λ a. not (is_of_locks (cookies_of gone locks) a))
      (λ a on. ap not (of_cookies a ∙ at_number k.0 a.cookie.0 false
      (both_left (a.cookie.0 == k.0) (not (is_block a.kind)) (both_right (not (is_for gone a.kind)) (is_glimpse_on k a) on)) t)) asked
      ∙ filter_same (λ a. not (is_for gone a.kind) && is_glimpse_on k a) (λ a. is_glimpse_on k a && not (is_for gone a.kind)) asked
      (λ a. and_swap (not (is_for gone a.kind)) (is_glimpse_on k a))
      ∙ sym (filter_twice (λ (a : Asked). not (is_for gone a.kind)) (is_glimpse_on k) asked))
      ∙ sym (filter_map (λ (a : Asked). a.kind) (λ kd. not (is_for gone kd)) (filter (is_glimpse_on k) asked))
      ∙ ap (filter (λ (kd : Kind). not (is_for gone kd))) (shows.glimpses k)
      ∙ filter_map glimpse_kind (λ kd. not (is_for gone kd)) (filter (is_on k) gs)
      ∙ ap (map glimpse_kind)
      (filter_twice (λ (g : Glimpse). not (is_for gone (glimpse_kind g))) (is_on k) gs
      ∙ filter_same (λ g. is_on k g && not (is_for gone (glimpse_kind g))) (λ g. not (is_life g.request.who gone) && is_on k g) gs
      (λ g. ap (λ b. is_on k g && not b) (is_for_kind gone g) ∙ and_swap (is_on k g) (not (is_life g.request.who gone)))
      ∙ sym (filter_twice (is_on k) (λ g. not (is_life g.request.who gone)) gs)
      ∙ sym (filter_through (is_on k) (λ g. not (theirs g.cookie.0)) (λ g on. ap not (at_number k.0 g.cookie.0 false on t))
      (filter (λ g. not (is_life g.request.who gone)) gs)))

  -- a lock that passes both is there still
  still_there : (test : Lock → Bool) (n : ℕ) → ((l : Lock) → test l ≡ true → (n == l.cookie.0) ≡ true) → theirs n ≡ false
      → list_any test locks ≡ true
      → list_any test (filter (λ l. not (theirs l.cookie.0)) (locks_without gone locks)) ≡ true
  still_there test n numbers none some =
      any_filter test (λ l. not (theirs l.cookie.0)) (locks_without gone locks)
      ∙ any_filter (λ l. not (theirs l.cookie.0) && test l) (λ l. not (is_life l.ask.who gone)) locks
      ∙ found_in test locks some (list_any (λ l. not (is_life l.ask.who gone) && (not (theirs l.cookie.0) && test l)) locks ≡ true)
      (λ l is there.
      let number : (n == l.cookie.0) ≡ true = numbers l is in
      let stays : is_life l.ask.who gone ≡ false = not_gone n none l number there in
      let other : theirs l.cookie.0 ≡ false = ap theirs (sym (number_is n l.cookie.0 number)) ∙ none in
      there (λ l. not (is_life l.ask.who gone) && (not (theirs l.cookie.0) && test l))
      (both_true (not (is_life l.ask.who gone)) (not (theirs l.cookie.0) && test l) (ap not stays)
      (both_true (not (theirs l.cookie.0)) (test l) (ap not other) is)))

  pub lives_left : IsSound (without_lives gone (without_locks (cookies_of gone locks) asked))
      → Shows (without_lives gone (without_locks (cookies_of gone locks) asked))
      (filter (λ c. not (theirs c.cookie.0)) (filter (λ c. not (is_life c.who gone)) cs))
      (filter (λ g. not (theirs g.cookie.0)) (filter (λ g. not (is_life g.request.who gone)) gs))
      (filter (λ l. not (theirs l.cookie.0)) (locks_without gone locks))
  lives_left sound =
      record {
        sound = sound;
        blocks = λ k. blocks_left k (theirs k.0) refl;
        glimpses = λ k. glimpses_left k (theirs k.0) refl;
        holders =
            every_passed (λ c. list_any (holds c) locks ≡ true)
            (λ c. list_any (holds c) (filter (λ l. not (theirs l.cookie.0)) (locks_without gone locks)) ≡ true)
            (λ c. not (theirs c.cookie.0))
            (λ c held passes. still_there (holds c) c.cookie.0 (λ l is. eq_swap c.cookie.0 l.cookie.0
            ∙ both_left (l.cookie.0 == c.cookie.0) (same_life l.ask.who c.who) is) (not_true (theirs c.cookie.0) passes) held)
            (filter (λ c. not (is_life c.who gone)) cs) (every_filter (λ c. list_any (holds c) locks ≡ true) (λ c. not (is_life c.who gone))
            cs shows.holders);
        granted =
            every_passed (λ g. list_any (is_of_lock g.cookie) locks ≡ true)
            (λ g. list_any (is_of_lock g.cookie) (filter (λ l. not (theirs l.cookie.0)) (locks_without gone locks)) ≡ true)
            (λ g. not (theirs g.cookie.0))
            (λ g held passes. still_there (is_of_lock g.cookie) g.cookie.0 (λ l is. eq_swap g.cookie.0 l.cookie.0 ∙ is)
            (not_true (theirs g.cookie.0) passes) held)
            (filter (λ g. not (is_life g.request.who gone)) gs)
            (every_filter (λ g. list_any (is_of_lock g.cookie) locks ≡ true) (λ g. not (is_life g.request.who gone)) gs shows.granted);
      }

-- with the commit that takes their slots, and their evictions
pub leave : (v : Target) (at : At) (cause : Cause) (to : ℕ) (batch : Batch) (asked new : List Asked) → ShowsCalls asked v
    → new ≡ without_lives batch.removed (without_locks (cookies_of batch.removed v.granted) asked) → IsSound new
    → ShowsCalls new (turn (after v (Commit to batch)) (evictions at cause v.granted batch.removed (after v (Commit to batch))))
leave v at cause to batch asked new shows e sound =
    let gone : List Who = batch.removed in
    let w : Target = after v (Commit to batch) in
    let left : Left (of_lives v.granted gone) w (turn w (evictions at cause v.granted gone w)) = evicted_left at cause v.granted gone w in
    let theirs_are : (n : ℕ) → of_lives v.granted gone n ≡ theirs asked v.called v.glimpses v.granted shows gone n =
    λ n. of_lives_is v.granted gone n in
    subst (λ (xs : List Asked). ShowsCalls xs (turn w (evictions at cause v.granted gone w))) (sym e)
    (moved (without_lives gone (without_locks (cookies_of gone v.granted) asked)) (turn w (evictions at cause v.granted gone w))
    (filter (λ c. not (theirs asked v.called v.glimpses v.granted shows gone c.cookie.0)) w.called)
    (filter (λ g. not (theirs asked v.called v.glimpses v.granted shows gone g.cookie.0)) w.glimpses)
    (filter (λ l. not (theirs asked v.called v.glimpses v.granted shows gone l.cookie.0)) w.granted)
    (Left.called left ∙ filter_same (λ c. not (of_lives v.granted gone c.cookie.0))
    (λ c. not (theirs asked v.called v.glimpses v.granted shows gone c.cookie.0)) w.called (λ c. ap not (theirs_are c.cookie.0)))
    (Left.glimpses left ∙ filter_same (λ g. not (of_lives v.granted gone g.cookie.0))
    (λ g. not (theirs asked v.called v.glimpses v.granted shows gone g.cookie.0)) w.glimpses (λ g. ap not (theirs_are g.cookie.0)))
    (Left.granted left ∙ filter_same (λ l. not (of_lives v.granted gone l.cookie.0))
    (λ l. not (theirs asked v.called v.glimpses v.granted shows gone l.cookie.0)) w.granted (λ l. ap not (theirs_are l.cookie.0)))
    (lives_left asked v.called v.glimpses v.granted shows gone (subst IsSound e sound)))
