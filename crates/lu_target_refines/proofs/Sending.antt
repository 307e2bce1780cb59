-- What a tick sends again, lock by lock, is what the callbacks have outstanding, in their order.
use Rattle.std.proofs.Common.{◌≡◌, ◌<◌, Bool, true, false, cond, ◌&&◌, ◌||◌, ◌==◌, List, [], ◌∷◌, ◌++◌, map, Option, Some, None, refl, sym}
use Rattle.std.proofs.Common.{ap, subst, ◌∙◌, arith}
use Rattle.std.specs.Prelude.{if◌then◌else◌}
use Rattle.std.specs.List.{list_any}
use Rattle.std.proofs.lemmas.Bool.Decides.{nat_tests}
use Rattle.lu_base.specs.declared.ids.Cookie.{Cookie}
use Rattle.lu_base.specs.declared.locks.Lock.{Lock}
use Rattle.lu_callback.specs.declared.callbacks.Asked.{Asked}
use Rattle.lu_callback.specs.declared.callbacks.Kind.{Kind}
use Rattle.lu_callback.specs.declared.callbacks.Kind.TheVariants as kind
use Rattle.lu_callback.specs.Callbacks.{is_outstanding, of_lock}
use Rattle.lu_spec_machine.specs.Footprint.{Every}
use Rattle.lu_spec_entries.specs.Carried.{Called, Glimpse}
use Rattle.lu_spec_entries.specs.Words.{Entry}
use Rattle.lu_spec_target.specs.Leaving.{block_again, asks_again, sends_again}
use Rattle.lu_spec_target.specs.Glimpses.{ask_of, glimpses_of}
use Rattle.lu_spec_target.specs.Locks.{same_glimpse}
use Rattle.lu_spec_target.specs.Replies.{is_called}
use Rattle.lu_spec_target.specs.Replies as replies
use Rattle.lu_spec_target.specs.States.{Target}
use Rattle.lu_target_refines.specs.Callbacks.{glimpse_kind, is_glimpse, is_of_lock, message_of, sent_to, sent_again, ShowsCalls}
use Rattle.lu_target_refines.specs.Cookies.{with_cookie}
use Rattle.lu_target_refines.proofs.Lists.{any_same, append_again, passes_none, filter_none, every_map, Pairs, pairs_of}
use Rattle.lu_target_refines.proofs.Callbacks.{Before, same_cookie, same_number, is_called_is, is_glimpse_is}
use Rattle.lu_target_refines.proofs.Answered.{eq_swap, number_is, kinds_of}

abbrev Below : Lock → Lock → Type 0
Below earlier later = earlier.cookie.0 < later.cookie.0

module _ (w : Target) (now : List Asked) where
  -- what one of them comes to
  abbrev again_of : Asked → List Entry
  again_of a = if is_outstanding a.cookie a.kind now then sent_to w a.kind (with_cookie a.cookie w.granted) else []

  -- lock by lock
  abbrev by_locks : List Lock → List Asked → List Entry
  by_locks [] before = []
  by_locks (l ∷ locks) before = sent_again w now (of_lock l.cookie before) ++ by_locks locks before

  no_more : (before : List Asked) (locks : List Lock) → before ≡ [] → by_locks locks before ≡ []
  no_more before [] e = refl
  no_more before (l ∷ locks) e = ap (λ (xs : List Asked). sent_again w now (of_lock l.cookie xs) ++ by_locks locks before) e
      ∙ no_more before locks e

  -- those of a lower cookie come first
  none_lower : (a : Asked) (cookie : Cookie) → cookie.0 < a.cookie.0 → (before : List Asked) → Every (Before a) before
      → of_lock cookie before ≡ []
  none_lower a cookie less before ahead = filter_none (λ x. x.cookie.0 == cookie.0) before
      (every_map (Before a) (λ x. (x.cookie.0 == cookie.0) ≡ false) above before ahead) where
        above : (x : Asked) → Before a x → (x.cookie.0 == cookie.0) ≡ false
        above x h = grind (arith, nat_tests)

  -- a lock of that cookie behind this one
  lower : (l : Lock) (cookie : Cookie) (locks : List Lock) → Every (Below l) locks → list_any (is_of_lock cookie) locks ≡ true
      → l.cookie.0 < cookie.0
  lower l cookie [] below some = absurd (cc)
  lower l cookie (k ∷ locks) below some = by (k.cookie.0 == cookie.0) refl some (lower l cookie locks below.1) where
    by : (here : Bool) → (k.cookie.0 == cookie.0) ≡ here → (here || list_any (is_of_lock cookie) locks) ≡ true
        → (list_any (is_of_lock cookie) locks ≡ true → l.cookie.0 < cookie.0) → l.cookie.0 < cookie.0
    by true h s rest = subst (λ n. l.cookie.0 < n) (number_is k.cookie.0 cookie.0 h) below.0
    by false h s rest = rest s

  no_other : (l : Lock) (cookie : Cookie) (locks : List Lock) → Every (Below l) locks → (l.cookie.0 == cookie.0) ≡ true
      → list_any (is_of_lock cookie) locks ≡ false
  no_other l cookie locks below h = passes_none (is_of_lock cookie) locks
      (every_map (Below l) (λ k. (k.cookie.0 == cookie.0) ≡ false) apart locks below) where
        apart : (k : Lock) → l.cookie.0 < k.cookie.0 → (k.cookie.0 == cookie.0) ≡ false
        apart k less = grind (arith, nat_tests)

  -- the first of all stands first
  first_in : (a : Asked) (before : List Asked) → Every (Before a) before → (locks : List Lock) → Pairs Below locks
      → by_locks locks (a ∷ before) ≡ (if list_any (is_of_lock a.cookie) locks then again_of a else []) ++ by_locks locks before
  first_in a before ahead [] rising = refl
  first_in a before ahead (l ∷ locks) rising =
      by (l.cookie.0 == a.cookie.0) refl (list_any (is_of_lock a.cookie) locks) refl (first_in a before ahead locks rising.1)
    where
      by : (here : Bool) → (l.cookie.0 == a.cookie.0) ≡ here → (later : Bool) → list_any (is_of_lock a.cookie) locks ≡ later
          → by_locks locks (a ∷ before) ≡ (if later then again_of a else []) ++ by_locks locks before
          → sent_again w now (of_lock l.cookie (a ∷ before)) ++ by_locks locks (a ∷ before)
          ≡ (if here || later then again_of a else []) ++ (sent_again w now (of_lock l.cookie before) ++ by_locks locks before)
      by true h true g rest = let none : list_any (is_of_lock a.cookie) locks ≡ false = no_other l a.cookie locks rising.0 h in absurd (cc)
      by true h false g rest =
          let this : of_lock l.cookie (a ∷ before) ≡ a ∷ of_lock l.cookie before =
          ap (λ b. cond b (a ∷ of_lock l.cookie before) (of_lock l.cookie before)) (eq_swap a.cookie.0 l.cookie.0 ∙ h) in
          ap (λ (xs : List Asked). sent_again w now xs ++ by_locks locks (a ∷ before)) this
          ∙ ap (λ (es : List Entry). (again_of a ++ sent_again w now (of_lock l.cookie before)) ++ es) rest
          ∙ append_again (again_of a) (sent_again w now (of_lock l.cookie before)) (by_locks locks before)
      by false h true g rest =
          let this : of_lock l.cookie (a ∷ before) ≡ of_lock l.cookie before =
          ap (λ b. cond b (a ∷ of_lock l.cookie before) (of_lock l.cookie before)) (eq_swap a.cookie.0 l.cookie.0 ∙ h) in
          let none : of_lock l.cookie before ≡ [] = none_lower a l.cookie (lower l a.cookie locks rising.0 g) before ahead in
          ap (λ (xs : List Asked). sent_again w now xs ++ by_locks locks (a ∷ before)) (this ∙ none)
          ∙ rest
          ∙ ap (λ (xs : List Asked). again_of a ++ (sent_again w now xs ++ by_locks locks before)) (sym none)
      by false h false g rest =
          let this : of_lock l.cookie (a ∷ before) ≡ of_lock l.cookie before =
          ap (λ b. cond b (a ∷ of_lock l.cookie before) (of_lock l.cookie before)) (eq_swap a.cookie.0 l.cookie.0 ∙ h) in
          ap (λ (xs : List Asked). sent_again w now xs ++ by_locks locks (a ∷ before)) this
          ∙ ap (λ (es : List Entry). sent_again w now (of_lock l.cookie before) ++ es) rest

  -- of a lock that isn't granted nothing is sent
  no_lock : (cookie : Cookie) (locks : List Lock) → list_any (is_of_lock cookie) locks ≡ false → with_cookie cookie locks ≡ None
  no_lock cookie [] none = refl
  no_lock cookie (l ∷ locks) none = by (l.cookie.0 == cookie.0) none (no_lock cookie locks) where
    by : (here : Bool) → (here || list_any (is_of_lock cookie) locks) ≡ false
        → (list_any (is_of_lock cookie) locks ≡ false → with_cookie cookie locks ≡ None)
        → (if here then Some l else with_cookie cookie locks) ≡ None
    by true h rest = absurd (cc)
    by false h rest = rest h

  only_granted : (a : Asked) → again_of a ≡ (if list_any (is_of_lock a.cookie) w.granted then again_of a else [])
  only_granted a = by (list_any (is_of_lock a.cookie) w.granted) refl where
    never : (b : Bool) (es : List Entry) → (if b then es else es) ≡ es
    never true es = refl
    never false es = refl

    by : (there : Bool) → list_any (is_of_lock a.cookie) w.granted ≡ there → again_of a ≡ (if there then again_of a else [])
    by true h = refl
    by false h = ap (λ (found : Option Lock). if is_outstanding a.cookie a.kind now then sent_to w a.kind found else [])
        (no_lock a.cookie w.granted h) ∙ never (is_outstanding a.cookie a.kind now) []

  in_order : (before : List Asked) → Pairs Before before → Pairs Below w.granted → sent_again w now before ≡ by_locks w.granted before
  in_order [] pairs rising = sym (no_more [] w.granted refl)
  in_order (a ∷ before) pairs rising =
      ap (λ (es : List Entry). es ++ sent_again w now before) (only_granted a)
      ∙ ap (λ (es : List Entry). (if list_any (is_of_lock a.cookie) w.granted then again_of a else []) ++ es)
      (in_order before pairs.1 rising)
      ∙ sym (first_in a before pairs.0 w.granted rising)

-- ---- one lock, by the kinds of what is outstanding of it

module _ (w : Target) (now : List Asked) (l : Lock) where
  abbrev by_kinds : List Kind → List Entry
  by_kinds [] = []
  by_kinds (k ∷ ks) = (if is_outstanding l.cookie k now then message_of w k l ∷ [] else []) ++ by_kinds ks

  kinds_more : (ks more : List Kind) → by_kinds (ks ++ more) ≡ by_kinds ks ++ by_kinds more
  kinds_more [] more = refl
  kinds_more (k ∷ ks) more =
      ap (λ (es : List Entry). (if is_outstanding l.cookie k now then message_of w k l ∷ [] else []) ++ es) (kinds_more ks more)
      ∙ sym (append_again (if is_outstanding l.cookie k now then message_of w k l ∷ [] else []) (by_kinds ks) (by_kinds more))

  of_kinds : with_cookie l.cookie w.granted ≡ Some l → (before : List Asked) → sent_again w now (of_lock l.cookie before)
      ≡ by_kinds (map (λ (a : Asked). a.kind) (of_lock l.cookie before))
  of_kinds found [] = refl
  of_kinds found (a ∷ before) = by (a.cookie.0 == l.cookie.0) refl (of_kinds found before) where
    by : (here : Bool) → (a.cookie.0 == l.cookie.0) ≡ here → sent_again w now (of_lock l.cookie before)
        ≡ by_kinds (map (λ (a : Asked). a.kind) (of_lock l.cookie before))
        → sent_again w now (cond here (a ∷ of_lock l.cookie before) (of_lock l.cookie before))
        ≡ by_kinds (map (λ (a : Asked). a.kind) (cond here (a ∷ of_lock l.cookie before) (of_lock l.cookie before)))
    by true h rest =
        let same : a.cookie ≡ l.cookie = same_cookie a.cookie l.cookie h in
        ap (λ (cookie : Cookie). (if is_outstanding cookie a.kind now then sent_to w a.kind (with_cookie cookie w.granted) else [])
        ++ sent_again w now (of_lock l.cookie before)) same
        ∙ ap (λ (lock : Option Lock). (if is_outstanding l.cookie a.kind now then sent_to w a.kind lock else [])
        ++ sent_again w now (of_lock l.cookie before)) found
        ∙ ap (λ (es : List Entry). (if is_outstanding l.cookie a.kind now then message_of w a.kind l ∷ [] else []) ++ es) rest
    by false h rest = rest

  append_nothing : (es : List Entry) → es ++ [] ≡ es
  append_nothing [] = refl
  append_nothing (e ∷ es) = ap (λ (more : List Entry). e ∷ more) (append_nothing es)

  blocks_are : ShowsCalls now w → (cs : List Called) → by_kinds (if is_called l.cookie cs then kind.Block ∷ [] else []) ≡ block_again w l cs
  blocks_are shows cs = by (is_called l.cookie cs) where
    by : (was : Bool) → by_kinds (if was then kind.Block ∷ [] else [])
        ≡ (if was && is_called l.cookie w.called then replies.block_of w l ∷ [] else [])
    by true = append_nothing (if is_outstanding l.cookie kind.Block now then replies.block_of w l ∷ [] else [])
        ∙ ap (λ b. if b then replies.block_of w l ∷ [] else []) (is_called_is now w shows l.cookie)
    by false = refl

  asks_are : ShowsCalls now w → (gs : List Glimpse) → by_kinds (map glimpse_kind (glimpses_of l gs)) ≡ asks_again w l (glimpses_of l gs)
  asks_are shows [] = refl
  asks_are shows (g ∷ gs) = by (g.cookie.0 == l.cookie.0) refl (asks_are shows gs) where
    is_it : (g.cookie.0 == l.cookie.0) ≡ true → is_outstanding l.cookie (glimpse_kind g) now ≡ list_any (same_glimpse g) w.glimpses
    is_it h =
        is_glimpse_is now w shows l.cookie g.request.who g.request.xid
        ∙ any_same (is_glimpse l.cookie g.request.who g.request.xid) (same_glimpse g) w.glimpses
        (λ x.
        ap (λ b. b && ((x.request.who.client == g.request.who.client && x.request.who.life == g.request.who.life) && x.request.xid.0 ==
        g.request.xid.0)) (eq_swap x.cookie.0 l.cookie.0 ∙ ap (λ n. n == x.cookie.0) (sym (number_is g.cookie.0 l.cookie.0 h)))
        ∙ ap (λ b. g.cookie.0 == x.cookie.0 && ((b && x.request.who.life == g.request.who.life) && x.request.xid.0 == g.request.xid.0))
        (eq_swap x.request.who.client g.request.who.client)
        ∙ ap (λ b. g.cookie.0 == x.cookie.0 && ((g.request.who.client == x.request.who.client && b) && x.request.xid.0 == g.request.xid.0))
        (eq_swap x.request.who.life g.request.who.life)
        ∙ ap (λ b. g.cookie.0 == x.cookie.0 && ((g.request.who.client == x.request.who.client && g.request.who.life == x.request.who.life)
        && b)) (eq_swap x.request.xid.0 g.request.xid.0))

    sent : (b : Bool) → (if b then message_of w (glimpse_kind g) l ∷ [] else []) ++ asks_again w l (glimpses_of l gs)
        ≡ (if b then ask_of w l g.request ∷ asks_again w l (glimpses_of l gs) else asks_again w l (glimpses_of l gs))
    sent true = refl
    sent false = refl

    by : (here : Bool) → (g.cookie.0 == l.cookie.0) ≡ here → by_kinds (map glimpse_kind (glimpses_of l gs))
        ≡ asks_again w l (glimpses_of l gs)
        → by_kinds (map glimpse_kind (cond here (g ∷ glimpses_of l gs) (glimpses_of l gs)))
        ≡ asks_again w l (cond here (g ∷ glimpses_of l gs) (glimpses_of l gs))
    by true h rest =
        ap (λ b. (if b then message_of w (glimpse_kind g) l ∷ [] else []) ++ by_kinds (map glimpse_kind (glimpses_of l gs))) (is_it h)
        ∙ ap (λ (es : List Entry). (if list_any (same_glimpse g) w.glimpses then message_of w (glimpse_kind g) l ∷ [] else []) ++ es) rest
        ∙ sent (list_any (same_glimpse g) w.glimpses)
    by false h rest = rest

-- each granted lock is found by its cookie
found_again : (locks : List Lock) → Pairs Below locks → Every (λ l. with_cookie l.cookie locks ≡ Some l) locks
found_again [] rising = tt
found_again (l ∷ locks) rising = (
  ap (λ b. if b then Some l else with_cookie l.cookie locks) (same_number l.cookie.0),
  more locks rising.0 (found_again locks rising.1),
) where
  apart : (k : Lock) → l.cookie.0 < k.cookie.0 → (l.cookie.0 == k.cookie.0) ≡ false
  apart k less = grind (arith, nat_tests)

  more : (ks : List Lock) → Every (Below l) ks → Every (λ k. with_cookie k.cookie locks ≡ Some k) ks
      → Every (λ k. with_cookie k.cookie (l ∷ locks) ≡ Some k) ks
  more [] below found = tt
  more (k ∷ ks) below found = (
    ap (λ b. if b then Some l else with_cookie k.cookie locks) (apart k below.0) ∙ found.0,
    more ks below.1 found.1,
  )

all_locks : (v w : Target) (before now : List Asked) → ShowsCalls before v → ShowsCalls now w → (locks : List Lock)
    → Every (λ l. with_cookie l.cookie w.granted ≡ Some l) locks
    → by_locks w now locks before ≡ sends_again w v.called v.glimpses locks
all_locks v w before now was is [] found = refl
all_locks v w before now was is (l ∷ locks) found =
    ap (λ (es : List Entry). es ++ by_locks w now locks before)
    (of_kinds w now l found.0 before ∙ ap (by_kinds w now l) (kinds_of v before l was)
    ∙ kinds_more w now l (if is_called l.cookie v.called then kind.Block ∷ [] else []) (map glimpse_kind (glimpses_of l v.glimpses))
    ∙ ap (λ (es : List Entry). es ++ by_kinds w now l (map glimpse_kind (glimpses_of l v.glimpses))) (blocks_are w now l is v.called)
    ∙ ap (λ (es : List Entry). block_again w l v.called ++ es) (asks_are w now l is v.glimpses))
    ∙ append_again (block_again w l v.called) (asks_again w l (glimpses_of l v.glimpses)) (by_locks w now locks before)
    ∙ ap (λ (es : List Entry). block_again w l v.called ++ (asks_again w l (glimpses_of l v.glimpses) ++ es))
    (all_locks v w before now was is locks found.1)

-- v: as the turn's tick found it; w: when those whose time is over have left
pub sends_again_is : (v w : Target) (before now : List Asked) → ShowsCalls before v → ShowsCalls now w
    → Pairs (λ (earlier later : Lock). earlier.cookie.0 < later.cookie.0) w.granted
    → sends_again w v.called v.glimpses w.granted ≡ sent_again w now before
sends_again_is v w before now was is rising =
    sym (in_order w now before (pairs_of Before before was.sound.ordered) rising
    ∙ all_locks v w before now was is w.granted (found_again w.granted rising))
