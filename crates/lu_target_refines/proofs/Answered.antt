-- What a target's callbacks hold once a holder has said how long its object is, and once a lock is released.
use Rattle.std.proofs.Common.{◌≡◌, ℕ, Bool, true, false, cond, not, ◌&&◌, ◌||◌, ◌==◌, List, [], ◌∷◌, ◌++◌, map, filter, Some, refl, sym, ap}
use Rattle.std.proofs.Common.{subst, ◌∙◌, arith, nat_lt}
use Rattle.std.specs.Prelude.{if◌then◌else◌}
use Rattle.std.specs.List.{list_any}
use Rattle.std.specs.Option.{is_some}
use Rattle.std.proofs.lemmas.Bool.Decides.{nat_tests}
use Rattle.lu_base.specs.declared.ids.At.{At}
use Rattle.lu_base.specs.declared.ids.Cookie.{Cookie}
use Rattle.lu_base.specs.declared.ids.Who.{Who}
use Rattle.lu_base.specs.declared.ids.Xid.{Xid}
use Rattle.lu_base.specs.declared.locks.Lock.{Lock}
use Rattle.lu_msg.specs.declared.messages.SizeReport.{SizeReport}
use Rattle.lu_callback.specs.declared.callbacks.Asked.{Asked}
use Rattle.lu_callback.specs.declared.callbacks.Kind.{Kind}
use Rattle.lu_callback.specs.declared.callbacks.Kind.TheVariants as kind
use Rattle.lu_callback.specs.Callbacks.{is_block, same_kind, is_asked, is_outstanding, without, of_lock, without_glimpse, IsSound}
use Rattle.lu_spec_machine.specs.Footprint.{Every}
use Rattle.lu_spec_entries.specs.Carried.{Called, Glimpse}
use Rattle.lu_spec_entries.specs.Words.{Release, Ends, same_life}
use Rattle.lu_spec_target.specs.Locks.{without_lock, called_without, same_glimpse}
use Rattle.lu_spec_target.specs.States.{Target, after, turn}
use Rattle.lu_spec_target.specs.Replies.{is_called}
use Rattle.lu_spec_target.specs.Glimpses.{asked_for, glimpses_of, glimpses_end, row_locked}
use Rattle.lu_spec_target.specs.Requests.{releases}
use Rattle.lu_target_refines.specs.Callbacks.{block_of, is_block_on, is_call_of, blocked, glimpse_kind, is_glimpse_on, is_on, glimpsed}
use Rattle.lu_target_refines.specs.Callbacks.{is_glimpse, holds, is_of_lock, Shows, ShowsCalls}
use Rattle.lu_target_refines.proofs.Lists.{and_true, and_false, both_left, both_right, both_true, not_true, every_all, every_map}
use Rattle.lu_target_refines.proofs.Lists.{every_filter, every_passed, filter_all, filter_none, filter_alike, filter_same, filter_twice}
use Rattle.lu_target_refines.proofs.Lists.{filter_through, filter_past, any_filter, any_more, passes_none, map_append, filter_map, Pairs}
use Rattle.lu_target_refines.proofs.Lists.{pairs_of}
use Rattle.lu_target_refines.proofs.Callbacks.{Before, is_called_is, is_glimpse_is, block_outstanding}

pub eq_swap : (n m : ℕ) → (n == m) ≡ (m == n)
eq_swap n m = by (n == m) refl where
  by : (b : Bool) → (n == m) ≡ b → b ≡ (m == n)
  by true h = sym (grind (arith, nat_tests))
  by false h = sym (grind (arith, nat_tests))

pub number_is : (n m : ℕ) → (n == m) ≡ true → n ≡ m
number_is n m h = grind (arith, nat_tests)

-- ---- a holder has said it

pub asked_for_is : (m : SizeReport) (gs : List Glimpse) → is_some (asked_for m gs) ≡ list_any (is_glimpse m.cookie m.for_who m.xid) gs
asked_for_is m [] = refl
asked_for_is m (g ∷ gs) = by (is_glimpse m.cookie m.for_who m.xid g) (asked_for_is m gs) where
  by : (here : Bool) → is_some (asked_for m gs) ≡ list_any (is_glimpse m.cookie m.for_who m.xid) gs
      → is_some (if here then Some g else asked_for m gs) ≡ (here || list_any (is_glimpse m.cookie m.for_who m.xid) gs)
  by true rest = refl
  by false rest = rest

asked_for_found : (m : SizeReport) (g : Glimpse) (gs : List Glimpse) → asked_for m gs ≡ Some g → is_glimpse m.cookie m.for_who m.xid g
    ≡ true
asked_for_found m g [] is = absurd (cc)
asked_for_found m g (x ∷ gs) is = by (is_glimpse m.cookie m.for_who m.xid x) refl is (asked_for_found m g gs) where
  by : (here : Bool) → is_glimpse m.cookie m.for_who m.xid x ≡ here → (if here then Some x else asked_for m gs) ≡ Some g
      → (asked_for m gs ≡ Some g → is_glimpse m.cookie m.for_who m.xid g ≡ true) → is_glimpse m.cookie m.for_who m.xid g ≡ true
  by true h is rest = let one : x ≡ g = cc in subst (λ (y : Glimpse). is_glimpse m.cookie m.for_who m.xid y ≡ true) one h
  by false h is rest = rest is

module _ (asked : List Asked) (cs : List Called) (gs : List Glimpse) (locks : List Lock) (shows : Shows asked cs gs locks) (cookie : Cookie)
    (who : Who) (xid : Xid) (g : Glimpse) where
  a_block : (k : Cookie) (a : Asked) → is_block_on k a ≡ true → not (is_asked cookie (kind.Glimpse who xid) a) ≡ true
  a_block k a = by a.kind where
    by : (kd : Kind) → (a.cookie.0 == k.0 && is_block kd) ≡ true → not (a.cookie.0 == cookie.0 && same_kind kd (kind.Glimpse who xid))
        ≡ true
    by kind.Block h = ap not (and_false (a.cookie.0 == cookie.0))
    by (kind.Glimpse w x) h = let no : false ≡ true = both_right (a.cookie.0 == k.0) false h in absurd (cc)

  and_swap : (a b : Bool) → (a && b) ≡ (b && a)
  and_swap true b = sym (and_true b)
  and_swap false b = sym (and_false b)

  of_asked : (k : Cookie) (a : Asked) → (not (is_asked cookie (kind.Glimpse who xid) a) && is_glimpse_on k a)
      ≡ (is_glimpse_on k a && not (k.0 == cookie.0 && same_kind a.kind (kind.Glimpse who xid)))
  of_asked k a = by (a.cookie.0 == k.0) refl where
    by : (here : Bool) → (a.cookie.0 == k.0) ≡ here
        → (not (is_asked cookie (kind.Glimpse who xid) a) && (here && not (is_block a.kind)))
        ≡ ((here && not (is_block a.kind)) && not (k.0 == cookie.0 && same_kind a.kind (kind.Glimpse who xid)))
    by true h =
        ap (λ n. not (n == cookie.0 && same_kind a.kind (kind.Glimpse who xid)) && not (is_block a.kind)) (number_is a.cookie.0 k.0 h)
        ∙ and_swap (not (k.0 == cookie.0 && same_kind a.kind (kind.Glimpse who xid))) (not (is_block a.kind))
    by false h = and_false (not (is_asked cookie (kind.Glimpse who xid) a))

  of_rows : is_glimpse cookie who xid g ≡ true → (k : Cookie) (x : Glimpse)
      → (is_on k x && not (k.0 == cookie.0 && same_kind (glimpse_kind x) (kind.Glimpse who xid))) ≡ (not (same_glimpse g x) && is_on k x)
  of_rows it k x = by (x.cookie.0 == k.0) refl where
    one : g.cookie.0 ≡ cookie.0
    one = number_is g.cookie.0 cookie.0 (both_left (g.cookie.0 == cookie.0) _ it)

    two : g.request.who.client ≡ who.client
    two = number_is g.request.who.client who.client (both_left (g.request.who.client == who.client) _
        (both_left (same_life g.request.who who) _ (both_right (g.cookie.0 == cookie.0) _ it)))

    three : g.request.who.life ≡ who.life
    three = number_is g.request.who.life who.life (both_right (g.request.who.client == who.client) _
        (both_left (same_life g.request.who who) _ (both_right (g.cookie.0 == cookie.0) _ it)))

    four : g.request.xid.0 ≡ xid.0
    four = number_is g.request.xid.0 xid.0 (both_right (same_life g.request.who who) _ (both_right (g.cookie.0 == cookie.0) _ it))

    alike : x.cookie.0 ≡ k.0 → (k.0 == cookie.0 && same_kind (glimpse_kind x) (kind.Glimpse who xid)) ≡ same_glimpse g x
    alike e =
        let a : (k.0 == cookie.0) ≡ (g.cookie.0 == x.cookie.0) = eq_swap k.0 cookie.0 ∙ ap (λ n. n == k.0) (sym one)
        ∙ ap (λ n. g.cookie.0 == n) (sym e) in
        let b : (x.request.who.client == who.client) ≡ (g.request.who.client == x.request.who.client) =
        eq_swap x.request.who.client who.client ∙ ap (λ n. n == x.request.who.client) (sym two) in
        let c : (x.request.who.life == who.life) ≡ (g.request.who.life == x.request.who.life) = eq_swap x.request.who.life who.life
        ∙ ap (λ n. n == x.request.who.life) (sym three) in
        let d : (x.request.xid.0 == xid.0) ≡ (g.request.xid.0 == x.request.xid.0) = eq_swap x.request.xid.0 xid.0
        ∙ ap (λ n. n == x.request.xid.0) (sym four) in
        ap (λ p. p && ((x.request.who.client == who.client && x.request.who.life == who.life) && x.request.xid.0 == xid.0)) a
        ∙ ap (λ p. g.cookie.0 == x.cookie.0 && ((p && x.request.who.life == who.life) && x.request.xid.0 == xid.0)) b
        ∙ ap (λ p. g.cookie.0 == x.cookie.0 && ((g.request.who.client == x.request.who.client && p) && x.request.xid.0 == xid.0)) c
        ∙ ap (λ p. g.cookie.0 == x.cookie.0 && ((g.request.who.client == x.request.who.client && g.request.who.life == x.request.who.life)
        && p)) d

    by : (here : Bool) → (x.cookie.0 == k.0) ≡ here
        → (here && not (k.0 == cookie.0 && same_kind (glimpse_kind x) (kind.Glimpse who xid))) ≡ (not (same_glimpse g x) && here)
    by true h = ap not (alike (number_is x.cookie.0 k.0 h)) ∙ sym (and_true (not (same_glimpse g x)))
    by false h = sym (and_false (not (same_glimpse g x)))

  pub glimpse_ended : is_glimpse cookie who xid g ≡ true → IsSound (without_glimpse cookie who xid asked)
      → Shows (without_glimpse cookie who xid asked) cs (filter (λ x. not (same_glimpse g x)) gs) locks
  glimpse_ended it sound =
      record {
        sound = sound;
        blocks = λ k. filter_through (is_block_on k) (λ a. not (is_asked cookie (kind.Glimpse who xid) a)) (a_block k) asked
            ∙ shows.blocks k;
        glimpses = λ k. glimpses k;
        holders = shows.holders;
        granted = every_filter (λ (x : Glimpse). list_any (is_of_lock x.cookie) locks ≡ true) (λ x. not (same_glimpse g x)) gs
            shows.granted;
      }
    where
      glimpses : (k : Cookie) → glimpsed k (without_glimpse cookie who xid asked)
          ≡ map glimpse_kind (filter (is_on k) (filter (λ x. not (same_glimpse g x)) gs))
      glimpses k =
          let keep : Kind → Bool = λ kd. not (k.0 == cookie.0 && same_kind kd (kind.Glimpse who xid)) in
          ap (map (λ (a : Asked). a.kind))
          (filter_twice (is_glimpse_on k) (λ a. not (is_asked cookie (kind.Glimpse who xid) a)) asked
          ∙ filter_same (λ a. not (is_asked cookie (kind.Glimpse who xid) a) && is_glimpse_on k a) (λ a. is_glimpse_on k a && keep a.kind)
          asked (of_asked k)
          ∙ sym (filter_twice (λ (a : Asked). keep a.kind) (is_glimpse_on k) asked))
          ∙ sym (filter_map (λ (a : Asked). a.kind) keep (filter (is_glimpse_on k) asked))
          ∙ ap (filter keep) (shows.glimpses k)
          ∙ filter_map glimpse_kind keep (filter (is_on k) gs)
          ∙ ap (map glimpse_kind)
          (filter_twice (λ (x : Glimpse). keep (glimpse_kind x)) (is_on k) gs
          ∙ filter_same (λ x. is_on k x && keep (glimpse_kind x)) (λ x. not (same_glimpse g x) && is_on k x) gs (of_rows it k)
          ∙ sym (filter_twice (is_on k) (λ x. not (same_glimpse g x)) gs))

-- whether the rows have it is what the call answered
pub reports_was : (v : Target) (asked : List Asked) (m : SizeReport) (was : Bool) → ShowsCalls asked v
    → was ≡ is_outstanding m.cookie (kind.Glimpse m.for_who m.xid) asked → was ≡ is_some (asked_for m v.glimpses)
reports_was v asked m was shows e = e ∙ is_glimpse_is asked v shows m.cookie m.for_who m.xid ∙ sym (asked_for_is m v.glimpses)

pub reports : (v : Target) (asked new : List Asked) (m : SizeReport) (g : Glimpse) → ShowsCalls asked v → asked_for m v.glimpses ≡ Some g
    → new ≡ without_glimpse m.cookie m.for_who m.xid asked → IsSound new → ShowsCalls new (after v (Ends g))
reports v asked new m g shows is e sound =
    subst (λ (xs : List Asked). ShowsCalls xs (after v (Ends g))) (sym e)
    (glimpse_ended asked v.called v.glimpses v.granted shows m.cookie m.for_who m.xid g (asked_for_found m g v.glimpses is)
    (subst IsSound e sound))

-- ---- a lock is released

-- what is left of the glimpses once these have ended
pub ended : List Glimpse → List Glimpse → List Glimpse
ended [] gs = gs
ended (g ∷ es) gs = ended es (filter (λ x. not (same_glimpse g x)) gs)

ended_is : (es gs : List Glimpse) → ended es gs ≡ filter (λ x. not (list_any (λ g. same_glimpse g x) es)) gs
unfolding ended
ended_is [] gs = sym (filter_all (λ x. true) gs (every_all (λ x. true ≡ true) (λ x. refl) gs))
ended_is (g ∷ es) gs =
    ended_is es (filter (λ x. not (same_glimpse g x)) gs)
    ∙ filter_twice (λ x. not (list_any (λ h. same_glimpse h x) es)) (λ x. not (same_glimpse g x)) gs
    ∙ filter_same (λ x. not (same_glimpse g x) && not (list_any (λ h. same_glimpse h x) es))
    (λ x. not (same_glimpse g x || list_any (λ h. same_glimpse h x) es)) gs
    (λ x. by (same_glimpse g x) (list_any (λ h. same_glimpse h x) es))
  where
    by : (a b : Bool) → (not a && not b) ≡ not (a || b)
    by true b = refl
    by false b = refl

ends_called : (at : At) (es : List Glimpse) (v w : Target) → (turn w (glimpses_end at es v)).called ≡ w.called
ends_called at [] v w = refl
ends_called at (g ∷ es) v w = ends_called at es v (turn w (Ends g ∷ row_locked v at g.request))

ends_granted : (at : At) (es : List Glimpse) (v w : Target) → (turn w (glimpses_end at es v)).granted ≡ w.granted
ends_granted at [] v w = refl
ends_granted at (g ∷ es) v w = ends_granted at es v (turn w (Ends g ∷ row_locked v at g.request))

ends_glimpses : (at : At) (es : List Glimpse) (v w : Target) → (turn w (glimpses_end at es v)).glimpses ≡ ended es w.glimpses
unfolding ended
ends_glimpses at [] v w = refl
ends_glimpses at (g ∷ es) v w = ends_glimpses at es v (turn w (Ends g ∷ row_locked v at g.request))

-- each glimpse of the lock is among those that end
itself : (test : Glimpse → Bool) (gs : List Glimpse) → Every (λ x. test x ≡ true → list_any (λ g. same_glimpse g x) (filter test gs) ≡ true)
    gs
itself test [] = tt
itself test (y ∷ gs) = (
  λ h. ap (λ b. list_any (λ g. same_glimpse g y) (cond b (y ∷ filter test gs) (filter test gs))) h
      ∙ ap (λ b. b || list_any (λ g. same_glimpse g y) (filter test gs)) one,
  by (test y) (itself test gs),
) where
  one : same_glimpse y y ≡ true
  one = grind (arith, nat_tests)

  or_true : (a : Bool) → (a || true) ≡ true
  or_true true = refl
  or_true false = refl

  by : (here : Bool) → Every (λ x. test x ≡ true → list_any (λ g. same_glimpse g x) (filter test gs) ≡ true) gs
      → Every (λ x. test x ≡ true → list_any (λ g. same_glimpse g x) (cond here (y ∷ filter test gs) (filter test gs)) ≡ true) gs
  by true rest =
      every_map (λ x. test x ≡ true → list_any (λ g. same_glimpse g x) (filter test gs) ≡ true)
      (λ x. test x ≡ true → list_any (λ g. same_glimpse g x) (y ∷ filter test gs) ≡ true)
      (λ x f h. ap (λ b. same_glimpse y x || b) (f h) ∙ or_true (same_glimpse y x)) gs rest
  by false rest = rest

pub apart : (n m k : ℕ) → (n == k) ≡ true → (k == m) ≡ false → not (n == m) ≡ true
apart n m k e d = ap not (ap (λ x. x == m) (number_is n k e) ∙ d)

pub same : (n m k : ℕ) → (n == k) ≡ true → (k == m) ≡ true → (n == m) ≡ true
same n m k e d = ap (λ x. x == m) (number_is n k e) ∙ d

-- so exactly those of the lock end
pub ended_of : (l : Lock) (gs : List Glimpse) → ended (glimpses_of l gs) gs ≡ filter (λ x. not (x.cookie.0 == l.cookie.0)) gs
ended_of l gs =
    ended_is (glimpses_of l gs) gs
    ∙ filter_alike (λ x. not (list_any (λ g. same_glimpse g x) (glimpses_of l gs))) (λ x. not (x.cookie.0 == l.cookie.0)) gs
    (every_map (λ x. is_on l.cookie x ≡ true → list_any (λ g. same_glimpse g x) (glimpses_of l gs) ≡ true)
    (λ x. not (list_any (λ g. same_glimpse g x) (glimpses_of l gs)) ≡ not (x.cookie.0 == l.cookie.0))
    (λ x f. by x (x.cookie.0 == l.cookie.0) refl f) gs (itself (is_on l.cookie) gs))
  where
    -- one of another lock isn't among them
    none : (x : Glimpse) → (x.cookie.0 == l.cookie.0) ≡ false → (g : Glimpse) → (g.cookie.0 == l.cookie.0 && same_glimpse g x) ≡ false
    none x d g = of (g.cookie.0 == l.cookie.0) refl (g.cookie.0 == x.cookie.0) refl where
      of : (a : Bool) → (g.cookie.0 == l.cookie.0) ≡ a → (b : Bool) → (g.cookie.0 == x.cookie.0) ≡ b
          → (a && (b && (same_life g.request.who x.request.who && g.request.xid.0 == x.request.xid.0))) ≡ false
      of false h b i = refl
      of true h false i = refl
      of true h true i = let yes : (x.cookie.0 == l.cookie.0) ≡ true = ap (λ n. n == l.cookie.0) (sym (number_is g.cookie.0 x.cookie.0 i))
          ∙ h in absurd (cc)

    by : (x : Glimpse) (here : Bool) → (x.cookie.0 == l.cookie.0) ≡ here
        → (here ≡ true → list_any (λ g. same_glimpse g x) (glimpses_of l gs) ≡ true)
        → not (list_any (λ g. same_glimpse g x) (glimpses_of l gs)) ≡ not here
    by x true h f = ap not (f refl)
    by x false h f =
        ap not (any_filter (λ g. same_glimpse g x) (λ g. g.cookie.0 == l.cookie.0) gs
        ∙ passes_none (λ g. g.cookie.0 == l.cookie.0 && same_glimpse g x) gs
        (every_all (λ g. (g.cookie.0 == l.cookie.0 && same_glimpse g x) ≡ false) (none x h) gs))

module _ (asked : List Asked) (cs : List Called) (gs : List Glimpse) (locks : List Lock) (shows : Shows asked cs gs locks) (l : Lock) where
  pub lock_released : IsSound (without l.cookie asked) → Shows (without l.cookie asked) (called_without l cs)
      (filter (λ x. not (x.cookie.0 == l.cookie.0)) gs) (without_lock l locks)
  lock_released sound =
      record {
        sound = sound;
        blocks = λ k. blocks k (k.0 == l.cookie.0) refl;
        glimpses = λ k. glimpses k (k.0 == l.cookie.0) refl;
        holders = every_passed (λ (c : Called). list_any (holds c) locks ≡ true)
            (λ (c : Called). list_any (holds c) (without_lock l locks) ≡ true) (λ c. not (c.cookie.0 == l.cookie.0)) held cs shows.holders;
        granted =
            every_passed (λ (x : Glimpse). list_any (is_of_lock x.cookie) locks ≡ true)
            (λ (x : Glimpse). list_any (is_of_lock x.cookie) (without_lock l locks) ≡ true)
            (λ x. not (x.cookie.0 == l.cookie.0)) there gs shows.granted;
      }
    where
      blocks : (k : Cookie) (here : Bool) → (k.0 == l.cookie.0) ≡ here → blocked k (without l.cookie asked)
          ≡ map block_of (filter (is_call_of k) (called_without l cs))
      blocks k true h =
          filter_past (is_block_on k) (λ a. not (a.cookie.0 == l.cookie.0))
          (λ a on. ap not (same a.cookie.0 l.cookie.0 k.0 (both_left (a.cookie.0 == k.0) _ on) h)) asked
          ∙ ap (map block_of) (sym (filter_past (is_call_of k) (λ c. not (c.cookie.0 == l.cookie.0))
          (λ c on. ap not (same c.cookie.0 l.cookie.0 k.0 on h)) cs))
      blocks k false h =
          filter_through (is_block_on k) (λ a. not (a.cookie.0 == l.cookie.0))
          (λ a on. apart a.cookie.0 l.cookie.0 k.0 (both_left (a.cookie.0 == k.0) _ on) h) asked
          ∙ shows.blocks k
          ∙ ap (map block_of) (sym (filter_through (is_call_of k) (λ c. not (c.cookie.0 == l.cookie.0))
          (λ c on. apart c.cookie.0 l.cookie.0 k.0 on h) cs))

      glimpses : (k : Cookie) (here : Bool) → (k.0 == l.cookie.0) ≡ here → glimpsed k (without l.cookie asked)
          ≡ map glimpse_kind (filter (is_on k) (filter (λ x. not (x.cookie.0 == l.cookie.0)) gs))
      glimpses k true h =
          ap (map (λ (a : Asked). a.kind))
          (filter_past (is_glimpse_on k) (λ a. not (a.cookie.0 == l.cookie.0))
          (λ a on. ap not (same a.cookie.0 l.cookie.0 k.0 (both_left (a.cookie.0 == k.0) _ on) h)) asked)
          ∙ ap (map glimpse_kind) (sym (filter_past (is_on k) (λ x. not (x.cookie.0 == l.cookie.0))
          (λ x on. ap not (same x.cookie.0 l.cookie.0 k.0 on h)) gs))
      glimpses k false h =
          ap (map (λ (a : Asked). a.kind))
          (filter_through (is_glimpse_on k) (λ a. not (a.cookie.0 == l.cookie.0))
          (λ a on. apart a.cookie.0 l.cookie.0 k.0 (both_left (a.cookie.0 == k.0) _ on) h) asked)
          ∙ shows.glimpses k
          ∙ ap (map glimpse_kind) (sym (filter_through (is_on k) (λ x. not (x.cookie.0 == l.cookie.0))
          (λ x on. apart x.cookie.0 l.cookie.0 k.0 on h) gs))

      held : (c : Called) → list_any (holds c) locks ≡ true → not (c.cookie.0 == l.cookie.0) ≡ true
          → list_any (holds c) (without_lock l locks) ≡ true
      held c is d =
          any_filter (holds c) (λ k. not (k.cookie.0 == l.cookie.0)) locks
          ∙ any_more (holds c) (λ k. not (k.cookie.0 == l.cookie.0) && holds c k) locks
          (λ k h. both_true (not (k.cookie.0 == l.cookie.0)) (holds c k)
          (apart k.cookie.0 l.cookie.0 c.cookie.0 (both_left (k.cookie.0 == c.cookie.0) _ h) (not_true _ d)) h) is

      there : (x : Glimpse) → list_any (is_of_lock x.cookie) locks ≡ true → not (x.cookie.0 == l.cookie.0) ≡ true
          → list_any (is_of_lock x.cookie) (without_lock l locks) ≡ true
      there x is d =
          any_filter (is_of_lock x.cookie) (λ k. not (k.cookie.0 == l.cookie.0)) locks
          ∙ any_more (is_of_lock x.cookie) (λ k. not (k.cookie.0 == l.cookie.0) && is_of_lock x.cookie k) locks
          (λ k h. both_true (not (k.cookie.0 == l.cookie.0)) (is_of_lock x.cookie k)
          (apart k.cookie.0 l.cookie.0 x.cookie.0 h (not_true _ d)) h) is

-- what is left of the target's own lists
pub release_called : (v : Target) (at : At) (l : Lock) → (turn v (releases at l v)).called ≡ called_without l v.called
release_called v at l = ends_called at (glimpses_of l v.glimpses) v (after v (Release l))

pub release_granted : (v : Target) (at : At) (l : Lock) → (turn v (releases at l v)).granted ≡ without_lock l v.granted
release_granted v at l = ends_granted at (glimpses_of l v.glimpses) v (after v (Release l))

pub release_glimpses : (v : Target) (at : At) (l : Lock) → (turn v (releases at l v)).glimpses
    ≡ filter (λ x. not (x.cookie.0 == l.cookie.0)) v.glimpses
release_glimpses v at l = ends_glimpses at (glimpses_of l v.glimpses) v (after v (Release l)) ∙ ended_of l v.glimpses

pub moved : (asked : List Asked) (w : Target) (cs : List Called) (gs : List Glimpse) (locks : List Lock) → w.called ≡ cs → w.glimpses ≡ gs
    → w.granted ≡ locks → Shows asked cs gs locks → ShowsCalls asked w
moved asked w cs gs locks c g l shows =
    subst (λ (xs : List Called). Shows asked xs w.glimpses w.granted) (sym c)
    (subst (λ (xs : List Glimpse). Shows asked cs xs w.granted) (sym g)
    (subst (λ (xs : List Lock). Shows asked cs gs xs) (sym l) shows))

pub released : (v : Target) (at : At) (asked new : List Asked) (l : Lock) → ShowsCalls asked v → new ≡ without l.cookie asked → IsSound new
    → ShowsCalls new (turn v (releases at l v))
released v at asked new l shows e sound =
    subst (λ (xs : List Asked). ShowsCalls xs (turn v (releases at l v))) (sym e)
    (moved (without l.cookie asked) (turn v (releases at l v)) (called_without l v.called)
    (filter (λ x. not (x.cookie.0 == l.cookie.0)) v.glimpses) (without_lock l v.granted)
    (release_called v at l) (release_glimpses v at l) (release_granted v at l)
    (lock_released asked v.called v.glimpses v.granted shows l (subst IsSound e sound)))

-- ---- what is outstanding of one lock, place by place: its block, and then its glimpses

module _ (cookie : Cookie) where
  parted : (asked : List Asked) → Pairs Before asked → of_lock cookie asked ≡ blocked cookie asked ++ filter (is_glimpse_on cookie) asked
  parted [] pairs = refl
  parted (a ∷ asked) pairs = by (a.cookie.0 == cookie.0) refl (is_block a.kind) refl (parted asked pairs.1) where
    no_block : (a.cookie.0 == cookie.0) ≡ true → is_block a.kind ≡ false → (asked : List Asked) → Every (Before a) asked
        → Every (λ x. is_block_on cookie x ≡ false) asked
    no_block h g [] before = tt
    no_block h g (x ∷ asked) before = (of (x.cookie.0 == cookie.0) refl (is_block x.kind) refl, no_block h g asked before.1) where
      of : (here : Bool) → (x.cookie.0 == cookie.0) ≡ here → (block : Bool) → is_block x.kind ≡ block → (here && block) ≡ false
      of false i block j = refl
      of true i false j = refl
      of true i true j =
          let same : x.cookie.0 ≡ a.cookie.0 = number_is x.cookie.0 cookie.0 i ∙ sym (number_is a.cookie.0 cookie.0 h) in
          let stands : (nat_lt a.cookie.0 x.cookie.0 || (a.cookie.0 == x.cookie.0 && not true)) ≡ true =
          ap (λ b. nat_lt a.cookie.0 x.cookie.0 || (a.cookie.0 == x.cookie.0 && not b)) (sym j) ∙ before.0 in
          let below : nat_lt a.cookie.0 x.cookie.0 ≡ true = grind (arith, nat_tests) in
          absurd (grind (arith, nat_tests))

    by : (here : Bool) → (a.cookie.0 == cookie.0) ≡ here → (block : Bool) → is_block a.kind ≡ block → of_lock cookie asked
        ≡ blocked cookie asked ++ filter (is_glimpse_on cookie) asked
        → cond here (a ∷ of_lock cookie asked) (of_lock cookie asked)
        ≡ cond (here && block) (a ∷ blocked cookie asked) (blocked cookie asked)
        ++ cond (here && not block) (a ∷ filter (is_glimpse_on cookie) asked) (filter (is_glimpse_on cookie) asked)
    by false h block b rest = rest
    by true h true b rest = ap (λ (xs : List Asked). a ∷ xs) rest
    by true h false b rest =
        let none : blocked cookie asked ≡ [] = filter_none (is_block_on cookie) asked (no_block h b asked pairs.0) in
        ap (λ (xs : List Asked). a ∷ xs) (rest ∙ ap (λ (xs : List Asked). xs ++ filter (is_glimpse_on cookie) asked) none)
        ∙ ap (λ (xs : List Asked). xs ++ a ∷ filter (is_glimpse_on cookie) asked) (sym none)

  one_block : (asked : List Asked) → Pairs (λ one other. is_asked one.cookie one.kind other ≡ false) asked
      → map (λ (a : Asked). a.kind) (blocked cookie asked) ≡ (if list_any (is_block_on cookie) asked then kind.Block ∷ [] else [])
  one_block [] once = refl
  one_block (a ∷ asked) once = by (is_block_on cookie a) refl (one_block asked once.1) where
    kind_is : (k : Kind) → is_block k ≡ true → k ≡ kind.Block
    kind_is kind.Block h = refl
    kind_is (kind.Glimpse who xid) h = absurd (cc)

    others : is_block_on cookie a ≡ true → (asked : List Asked) → Every (λ x. is_asked a.cookie a.kind x ≡ false) asked
        → Every (λ x. is_block_on cookie x ≡ false) asked
    others h [] once = tt
    others h (x ∷ asked) once = (of (is_block_on cookie x) refl, others h asked once.1) where
      of : (b : Bool) → is_block_on cookie x ≡ b → b ≡ false
      of false i = refl
      of true i =
          let one : a.kind ≡ kind.Block = kind_is a.kind (both_right (a.cookie.0 == cookie.0) _ h) in
          let two : x.kind ≡ kind.Block = kind_is x.kind (both_right (x.cookie.0 == cookie.0) _ i) in
          let at : x.cookie.0 ≡ a.cookie.0 = number_is x.cookie.0 cookie.0 (both_left (x.cookie.0 == cookie.0) _ i)
          ∙ sym (number_is a.cookie.0 cookie.0 (both_left (a.cookie.0 == cookie.0) _ h)) in
          let same : (x.cookie.0 == a.cookie.0) ≡ true = grind (arith, nat_tests) in
          let is : is_asked a.cookie a.kind x ≡ true = both_true (x.cookie.0 == a.cookie.0) (same_kind x.kind a.kind) same
          (ap (λ (k : Kind). same_kind k a.kind) two ∙ ap (same_kind kind.Block) one) in
          absurd (cc)

    by : (here : Bool) → is_block_on cookie a ≡ here → map (λ (a : Asked). a.kind) (blocked cookie asked)
        ≡ (if list_any (is_block_on cookie) asked then kind.Block ∷ [] else [])
        → map (λ (a : Asked). a.kind) (cond here (a ∷ blocked cookie asked) (blocked cookie asked))
        ≡ (if here || list_any (is_block_on cookie) asked then kind.Block ∷ [] else [])
    by true h rest =
        ap (λ (xs : List Asked). a.kind ∷ map (λ (x : Asked). x.kind) xs) (filter_none (is_block_on cookie) asked (others h asked once.0))
        ∙ ap (λ (k : Kind). k ∷ []) (kind_is a.kind (both_right (a.cookie.0 == cookie.0) _ h))
    by false h rest = rest

pub kinds_of : (v : Target) (asked : List Asked) (l : Lock) → ShowsCalls asked v
    → map (λ (a : Asked). a.kind) (of_lock l.cookie asked) ≡ (if is_called l.cookie v.called then kind.Block ∷ [] else [])
    ++ map glimpse_kind (glimpses_of l v.glimpses)
kinds_of v asked l shows =
    ap (map (λ (a : Asked). a.kind)) (parted l.cookie asked (pairs_of Before asked shows.sound.ordered))
    ∙ map_append (λ (a : Asked). a.kind) (blocked l.cookie asked) (filter (is_glimpse_on l.cookie) asked)
    ∙ ap (λ (ks : List Kind). ks ++ glimpsed l.cookie asked)
    (one_block l.cookie asked (pairs_of (λ one other. is_asked one.cookie one.kind other ≡ false) asked shows.sound.once)
    ∙ ap (λ b. if b then kind.Block ∷ [] else []) (sym (block_outstanding l.cookie asked) ∙ is_called_is asked v shows l.cookie))
    ∙ ap (λ (ks : List Kind). (if is_called l.cookie v.called then kind.Block ∷ [] else []) ++ ks) (shows.glimpses l.cookie)
