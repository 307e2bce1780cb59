-- What a target's callbacks hold after each call is what the rows' entries make of the locks that are called back and of
-- the glimpses that wait.
use Rattle.std.proofs.Common.{◌≡◌, ℕ, Bool, true, false, cond, not, ◌&&◌, ◌||◌, ◌==◌, List, [], ◌∷◌, ◌++◌, map, filter, refl, sym, ap}
use Rattle.std.proofs.Common.{subst, ◌∙◌, arith, nat_lt}
use Rattle.std.specs.Prelude.{if◌then◌else◌}
use Rattle.std.specs.List.{list_any}
use Rattle.std.proofs.lemmas.Bool.Decides.{nat_tests}
use Rattle.lu_base.specs.declared.ids.Cookie.{Cookie}
use Rattle.lu_base.specs.declared.ids.Who.{Who}
use Rattle.lu_base.specs.declared.ids.Xid.{Xid}
use Rattle.lu_base.specs.declared.locks.Lock.{Lock}
use Rattle.lu_base.specs.declared.locks.Resource.{Resource}
use Rattle.lu_msg.specs.declared.messages.Request.{Request as RequestOf}
use Rattle.lu_callback.specs.declared.callbacks.Asked.{Asked}
use Rattle.lu_callback.specs.declared.callbacks.Kind.{Kind}
use Rattle.lu_callback.specs.declared.callbacks.Kind.TheVariants as kind
use Rattle.lu_callback.specs.Callbacks.{is_block, same_kind, is_asked, is_outstanding, stands_before, with_asked, IsSound}
use Rattle.lu_spec_machine.specs.Footprint.{Every}
use Rattle.lu_spec_entries.specs.Carried.{Called, Glimpse}
use Rattle.lu_spec_entries.specs.Words.{Block}
use Rattle.lu_spec_target.specs.States.{Target, turn}
use Rattle.lu_spec_target.specs.Replies.{is_called, called, blocks}
use Rattle.lu_spec_target.specs.Replies as replies
use Rattle.lu_spec_target.specs.Glimpses.{row_asks}
use Rattle.lu_target_refines.specs.Callbacks.{block_of, is_block_on, is_call_of, blocked, glimpse_kind, is_glimpse_on, is_on, glimpsed}
use Rattle.lu_target_refines.specs.Callbacks.{is_glimpse, holds, is_of_lock, Shows, ShowsCalls}
use Rattle.lu_target_refines.proofs.Lists.{and_true, and_false, both_true, every_append, filter_none, filter_append, append_none}
use Rattle.lu_target_refines.proofs.Lists.{any_filter, any_same, none_passes, none_left, map_append, any_map, map_none, Pairs, pairs_of}

-- ---- what is outstanding

-- none is left where none passes, and the other way
some_left : {A : Type 0} (p : A → Bool) (xs : List A) → list_any p xs ≡ false → filter p xs ≡ []
some_left p xs none = filter_none p xs (none_passes p xs none)

block_kind : (k : Kind) → same_kind k kind.Block ≡ is_block k
block_kind kind.Block = refl
block_kind (kind.Glimpse who xid) = refl

pub block_outstanding : (cookie : Cookie) (asked : List Asked) → is_outstanding cookie kind.Block asked
    ≡ list_any (is_block_on cookie) asked
block_outstanding cookie asked = any_same (is_asked cookie kind.Block) (is_block_on cookie) asked
    (λ a. ap (λ b. a.cookie.0 == cookie.0 && b) (block_kind a.kind))

any_by_filter : {A B : Type 0} (f : B → A) (p : A → Bool) (q : B → Bool) (xs : List A) (ys : List B) → filter p xs ≡ map f (filter q ys)
    → list_any p xs ≡ list_any q ys
any_by_filter f p q xs ys e = by (list_any p xs) refl (list_any q ys) refl where
  by : (a : Bool) → list_any p xs ≡ a → (b : Bool) → list_any q ys ≡ b → a ≡ b
  by true h true g = refl
  by false h false g = refl
  by true h false g =
      let left : filter p xs ≡ [] = e ∙ ap (map f) (some_left q ys g) in
      let none : list_any p xs ≡ false = none_left p xs left in
      absurd (cc)
  by false h true g =
      let left : map f (filter q ys) ≡ [] = sym e ∙ some_left p xs h in
      let none : list_any q ys ≡ false = none_left q ys (map_none f (filter q ys) left) in
      absurd (cc)

-- a block is outstanding of the locks that were called back, and of no others
pub is_called_is : (asked : List Asked) (v : Target) → ShowsCalls asked v → (cookie : Cookie) → is_outstanding cookie kind.Block asked
    ≡ is_called cookie v.called
is_called_is asked v shows cookie =
    block_outstanding cookie asked ∙ any_by_filter block_of (is_block_on cookie) (is_call_of cookie) asked v.called (shows.blocks cookie)

-- ---- one that is asked anew stands in its place

module _ (a : Asked) (p : Asked → Bool) where
  -- for a test that it fails nothing changes
  pub other_filter : p a ≡ false → (asked : List Asked) → filter p (with_asked a asked) ≡ filter p asked
  other_filter fails [] = ap (λ b. cond b (a ∷ []) []) fails
  other_filter fails (there ∷ asked) = by (stands_before there a) (other_filter fails asked) where
    by : (before : Bool) → filter p (with_asked a asked) ≡ filter p asked
        → filter p (if before then there ∷ with_asked a asked else a ∷ there ∷ asked) ≡ filter p (there ∷ asked)
    by true rest = ap (λ (more : List Asked). cond (p there) (there ∷ more) more) rest
    by false rest = ap (λ b. cond b (a ∷ filter p (there ∷ asked)) (filter p (there ∷ asked))) fails

  -- for a test that no other passes it is the only one
  pub only_filter : p a ≡ true → (asked : List Asked) → Every (λ x. p x ≡ false) asked → filter p (with_asked a asked) ≡ a ∷ []
  only_filter passes [] none = ap (λ b. cond b (a ∷ []) []) passes
  only_filter passes (there ∷ asked) none = by (stands_before there a) (only_filter passes asked none.1) where
    by : (before : Bool) → filter p (with_asked a asked) ≡ a ∷ []
        → filter p (if before then there ∷ with_asked a asked else a ∷ there ∷ asked) ≡ a ∷ []
    by true rest = ap (λ b. cond b (there ∷ filter p (with_asked a asked)) (filter p (with_asked a asked))) none.0 ∙ rest
    by false rest =
        ap (λ b. cond b (a ∷ filter p (there ∷ asked)) (filter p (there ∷ asked))) passes
        ∙ ap (λ (more : List Asked). a ∷ more) (filter_none p (there ∷ asked) none)

abbrev pub Before : Asked → Asked → Type 0
Before earlier later = stands_before earlier later ≡ true

-- what stands behind a place where a glimpse doesn't go on is of greater cookies
past_it : (there at x : ℕ) (b c : Bool) → b ≡ false → (nat_lt there at || (there == at && not b)) ≡ false
    → (nat_lt there x || (there == x && not c)) ≡ true → (x == at) ≡ false
past_it there at x true c glimpse stops before = absurd (cc)
past_it there at x false true glimpse stops before = grind (arith, nat_tests)
past_it there at x false false glimpse stops before = grind (arith, nat_tests)

not_it : (there at : ℕ) (b : Bool) → b ≡ false → (nat_lt there at || (there == at && not b)) ≡ false → (there == at) ≡ false
not_it there at true glimpse stops = absurd (cc)
not_it there at false glimpse stops = grind (arith, nat_tests)

pub same_number : (n : ℕ) → (n == n) ≡ true
same_number n = grind (arith, nat_tests)

pub number_back : (n m : ℕ) (b : Bool) → (n == m) ≡ b → (m == n) ≡ b
number_back n m true h = grind (arith, nat_tests)
number_back n m false h = grind (arith, nat_tests)

abbrev cookie_of : ℕ → Cookie
cookie_of n = record { 0 = n }

pub same_cookie : (a b : Cookie) → (a.0 == b.0) ≡ true → a ≡ b
same_cookie a b h = let e : a.0 ≡ b.0 = grind (arith, nat_tests) in ap cookie_of e

-- so a glimpse comes last of those of its lock
pub last_filter : (a : Asked) → is_block a.kind ≡ false → (asked : List Asked) → Pairs Before asked
    → filter (is_glimpse_on a.cookie) (with_asked a asked) ≡ filter (is_glimpse_on a.cookie) asked ++ a ∷ []
last_filter a glimpse asked pairs = go asked pairs where
  passes : is_glimpse_on a.cookie a ≡ true
  passes = both_true (a.cookie.0 == a.cookie.0) (not (is_block a.kind)) (same_number a.cookie.0) (ap not glimpse)

  none : (there : Asked) (asked : List Asked) → stands_before there a ≡ false → Every (Before there) asked
      → Every (λ x. is_glimpse_on a.cookie x ≡ false) asked
  none there [] stops before = tt
  none there (x ∷ asked) stops before = (
    ap (λ b. b && not (is_block x.kind)) (past_it there.cookie.0 a.cookie.0 x.cookie.0 (is_block a.kind) (is_block x.kind) glimpse stops
        before.0),
    none there asked stops before.1,
  )

  go : (asked : List Asked) → Pairs Before asked → filter (is_glimpse_on a.cookie) (with_asked a asked)
      ≡ filter (is_glimpse_on a.cookie) asked ++ a ∷ []
  go [] pairs = ap (λ b. cond b (a ∷ []) []) passes
  go (there ∷ asked) pairs = by (stands_before there a) refl (go asked pairs.1) where
    on : (b : Bool) → filter (is_glimpse_on a.cookie) (with_asked a asked) ≡ filter (is_glimpse_on a.cookie) asked ++ a ∷ []
        → cond b (there ∷ filter (is_glimpse_on a.cookie) (with_asked a asked)) (filter (is_glimpse_on a.cookie) (with_asked a asked))
        ≡ cond b (there ∷ filter (is_glimpse_on a.cookie) asked) (filter (is_glimpse_on a.cookie) asked) ++ a ∷ []
    on true rest = ap (λ (more : List Asked). there ∷ more) rest
    on false rest = rest

    by : (before : Bool) → stands_before there a ≡ before → filter (is_glimpse_on a.cookie) (with_asked a asked)
        ≡ filter (is_glimpse_on a.cookie) asked ++ a ∷ []
        → filter (is_glimpse_on a.cookie) (if before then there ∷ with_asked a asked else a ∷ there ∷ asked)
        ≡ filter (is_glimpse_on a.cookie) (there ∷ asked) ++ a ∷ []
    by true h rest = on (is_glimpse_on a.cookie there) rest
    by false h rest =
        let here : is_glimpse_on a.cookie there ≡ false = ap (λ b. b && not (is_block there.kind))
        (not_it there.cookie.0 a.cookie.0 (is_block a.kind) glimpse h) in
        let all : filter (is_glimpse_on a.cookie) (there ∷ asked) ≡ [] =
        filter_none (is_glimpse_on a.cookie) (there ∷ asked) (here, none there asked h pairs.0) in
        ap (λ b. cond b (a ∷ filter (is_glimpse_on a.cookie) (there ∷ asked)) (filter (is_glimpse_on a.cookie) (there ∷ asked))) passes
        ∙ ap (λ (xs : List Asked). a ∷ xs) all ∙ ap (λ (xs : List Asked). xs ++ a ∷ []) (sym all)

-- ---- a lock is called back

module _ (asked : List Asked) (cs : List Called) (gs : List Glimpse) (locks : List Lock) (shows : Shows asked cs gs locks)
    (c : Called) where
  alone : is_outstanding c.cookie kind.Block asked ≡ false → (k : Cookie) → c.cookie ≡ k → blocked k (with_asked (block_of c) asked)
      ≡ map block_of (filter (is_call_of k) (cs ++ c ∷ []))
  alone none k e =
      let free : list_any (is_block_on c.cookie) asked ≡ false = sym (block_outstanding c.cookie asked) ∙ none in
      let here : is_block_on k (block_of c) ≡ true = ap (λ (x : Cookie). c.cookie.0 == x.0 && true) (sym e)
      ∙ both_true (c.cookie.0 == c.cookie.0) true (same_number c.cookie.0) refl in
      let unasked : Every (λ x. is_block_on k x ≡ false) asked =
      subst (λ (x : Cookie). Every (λ y. is_block_on x y ≡ false) asked) e (none_passes (is_block_on c.cookie) asked free) in
      let left : map block_of (filter (is_call_of k) cs) ≡ [] = sym (shows.blocks k) ∙ filter_none (is_block_on k) asked unasked in
      let this : filter (is_call_of k) (c ∷ []) ≡ c ∷ [] = ap (λ b. cond b (c ∷ []) [])
      (ap (λ (x : Cookie). c.cookie.0 == x.0) (sym e) ∙ same_number c.cookie.0) in
      only_filter (block_of c) (is_block_on k) here asked unasked
      ∙ sym (ap (map block_of) (filter_append (is_call_of k) cs (c ∷ []))
      ∙ map_append block_of (filter (is_call_of k) cs) (filter (is_call_of k) (c ∷ []))
      ∙ ap (λ (xs : List Asked). xs ++ map block_of (filter (is_call_of k) (c ∷ []))) left ∙ ap (map block_of) this)

  elsewhere : (k : Cookie) → (c.cookie.0 == k.0) ≡ false → blocked k (with_asked (block_of c) asked)
      ≡ map block_of (filter (is_call_of k) (cs ++ c ∷ []))
  elsewhere k other =
      other_filter (block_of c) (is_block_on k) (ap (λ b. b && true) other) asked ∙ shows.blocks k
      ∙ sym (ap (map block_of) (filter_append (is_call_of k) cs (c ∷ []) ∙ ap (λ b. filter (is_call_of k) cs ++ cond b (c ∷ []) []) other
      ∙ append_none (filter (is_call_of k) cs)))

  pub block_added : is_outstanding c.cookie kind.Block asked ≡ false → IsSound (with_asked (block_of c) asked) → list_any (holds c) locks
      ≡ true
      → Shows (with_asked (block_of c) asked) (cs ++ c ∷ []) gs locks
  block_added none sound held =
      record {
        sound = sound;
        blocks = λ k. by k (c.cookie.0 == k.0) refl;
        glimpses = λ k. ap (map (λ (a : Asked). a.kind)) (other_filter (block_of c) (is_glimpse_on k) (and_false (c.cookie.0 == k.0)) asked)
            ∙ shows.glimpses k;
        holders = every_append (λ (x : Called). list_any (holds x) locks ≡ true) cs (c ∷ []) shows.holders (held, tt);
        granted = shows.granted;
      }
    where
      by : (k : Cookie) (here : Bool) → (c.cookie.0 == k.0) ≡ here → blocked k (with_asked (block_of c) asked)
          ≡ map block_of (filter (is_call_of k) (cs ++ c ∷ []))
      by k true h = alone none k (same_cookie c.cookie k h)
      by k false h = elsewhere k h

pub asks_block : (v : Target) (asked new : List Asked) (l : Lock) (is_new : Bool) → ShowsCalls asked v
    → list_any (holds (called v l)) v.granted ≡ true
    → is_new ≡ not (is_outstanding l.cookie kind.Block asked)
    → new ≡ (if is_new then with_asked (record { cookie = l.cookie; kind = kind.Block; tick = v.ticks }) asked else asked) → IsSound new
    → ((if is_new then Block (called v l) ∷ replies.block_of v l ∷ [] else []) ≡ blocks v (l ∷ []))
    × ShowsCalls new (turn v (blocks v (l ∷ [])))
asks_block v asked new l is_new shows held e added sound = by (is_called l.cookie v.called) refl where
  is : is_outstanding l.cookie kind.Block asked ≡ is_called l.cookie v.called
  is = is_called_is asked v shows l.cookie

  by : (was : Bool) → is_called l.cookie v.called ≡ was
      → ((if is_new then Block (called v l) ∷ replies.block_of v l ∷ [] else [])
      ≡ (if was then [] else Block (called v l) ∷ replies.block_of v l ∷ []))
      × ShowsCalls new (turn v (if was then [] else Block (called v l) ∷ replies.block_of v l ∷ []))
  by true h =
      let old : is_new ≡ false = e ∙ ap not (is ∙ h) in
      let same : new ≡ asked = added ∙ ap (λ b. if b then with_asked (record { cookie = l.cookie; kind = kind.Block; tick = v.ticks }) asked
      else asked) old in (
        ap (λ b. if b then Block (called v l) ∷ replies.block_of v l ∷ [] else []) old,
        subst (λ (xs : List Asked). ShowsCalls xs v) (sym same) shows,
      )
  by false h =
      let first : is_new ≡ true = e ∙ ap not (is ∙ h) in
      let more : new ≡ with_asked (block_of (called v l)) asked = added
      ∙ ap (λ b. if b then with_asked (record { cookie = l.cookie; kind = kind.Block; tick = v.ticks }) asked else asked) first in (
        ap (λ b. if b then Block (called v l) ∷ replies.block_of v l ∷ [] else []) first,
        subst (λ (xs : List Asked). Shows xs (v.called ++ called v l ∷ []) v.glimpses v.granted) (sym more)
            (block_added asked v.called v.glimpses v.granted shows (called v l) (is ∙ h) (subst IsSound more sound) held),
      )

-- ---- a holder is asked how long its object is

glimpse_of_kind : (cookie : Cookie) (who : Who) (xid : Xid) (n : ℕ) (k : Kind) → (n == cookie.0 && same_kind k (kind.Glimpse who xid))
    ≡ ((n == cookie.0 && not (is_block k)) && same_kind k (kind.Glimpse who xid))
glimpse_of_kind cookie who xid n kind.Block = and_false (n == cookie.0) ∙ sym (and_false (n == cookie.0 && false))
glimpse_of_kind cookie who xid n (kind.Glimpse w x) = ap (λ b. b && same_kind (kind.Glimpse w x) (kind.Glimpse who xid))
    (sym (and_true (n == cookie.0)))

-- one is outstanding exactly if the rows have it
pub is_glimpse_is : (asked : List Asked) (v : Target) → ShowsCalls asked v → (cookie : Cookie) (who : Who) (xid : Xid)
    → is_outstanding cookie (kind.Glimpse who xid) asked ≡ list_any (is_glimpse cookie who xid) v.glimpses
is_glimpse_is asked v shows cookie who xid =
    let it : Kind → Bool = λ k. same_kind k (kind.Glimpse who xid) in
    any_same (is_asked cookie (kind.Glimpse who xid)) (λ a. is_glimpse_on cookie a && it a.kind) asked
    (λ a. glimpse_of_kind cookie who xid a.cookie.0 a.kind)
    ∙ sym (any_filter (λ (a : Asked). it a.kind) (is_glimpse_on cookie) asked)
    ∙ sym (any_map (λ (a : Asked). a.kind) it (filter (is_glimpse_on cookie) asked))
    ∙ ap (list_any it) (shows.glimpses cookie)
    ∙ any_map glimpse_kind it (filter (is_on cookie) v.glimpses)
    ∙ any_filter (λ (g : Glimpse). it (glimpse_kind g)) (is_on cookie) v.glimpses

module _ (asked : List Asked) (cs : List Called) (gs : List Glimpse) (locks : List Lock) (shows : Shows asked cs gs locks) (g : Glimpse)
    (tick : ℕ) where
  abbrev glimpse_asked : Asked
  glimpse_asked = record { cookie = g.cookie; kind = glimpse_kind g; tick = tick }

  pub glimpse_added : IsSound (with_asked glimpse_asked asked) → list_any (is_of_lock g.cookie) locks ≡ true
      → Shows (with_asked glimpse_asked asked) cs (gs ++ g ∷ []) locks
  glimpse_added sound held =
      record {
        sound = sound;
        blocks = λ k. other_filter glimpse_asked (is_block_on k) (and_false (g.cookie.0 == k.0)) asked ∙ shows.blocks k;
        glimpses = λ k. by k (g.cookie.0 == k.0) refl;
        holders = shows.holders;
        granted = every_append (λ (x : Glimpse). list_any (is_of_lock x.cookie) locks ≡ true) gs (g ∷ []) shows.granted (held, tt);
      }
    where
      on : (k : Cookie) → g.cookie ≡ k → filter (is_glimpse_on k) (with_asked glimpse_asked asked) ≡ filter (is_glimpse_on k) asked
          ++ glimpse_asked ∷ []
      on k e = subst (λ (x : Cookie). filter (is_glimpse_on x) (with_asked glimpse_asked asked) ≡ filter (is_glimpse_on x) asked
          ++ glimpse_asked ∷ []) e
          (last_filter glimpse_asked refl asked (pairs_of Before asked shows.sound.ordered))

      rows : (k : Cookie) (b : Bool) → (g.cookie.0 == k.0) ≡ b → map glimpse_kind (filter (is_on k) (gs ++ g ∷ []))
          ≡ map glimpse_kind (filter (is_on k) gs) ++ map glimpse_kind (cond b (g ∷ []) [])
      rows k b h =
          ap (map glimpse_kind) (filter_append (is_on k) gs (g ∷ []))
          ∙ map_append glimpse_kind (filter (is_on k) gs) (filter (is_on k) (g ∷ []))
          ∙ ap (λ c. map glimpse_kind (filter (is_on k) gs) ++ map glimpse_kind (cond c (g ∷ []) [])) h

      by : (k : Cookie) (here : Bool) → (g.cookie.0 == k.0) ≡ here → glimpsed k (with_asked glimpse_asked asked)
          ≡ map glimpse_kind (filter (is_on k) (gs ++ g ∷ []))
      by k true h =
          ap (map (λ (a : Asked). a.kind)) (on k (same_cookie g.cookie k h))
          ∙ map_append (λ (a : Asked). a.kind) (filter (is_glimpse_on k) asked) (glimpse_asked ∷ [])
          ∙ ap (λ (ks : List Kind). ks ++ glimpse_kind g ∷ []) (shows.glimpses k) ∙ sym (rows k true h)
      by k false h =
          ap (map (λ (a : Asked). a.kind)) (other_filter glimpse_asked (is_glimpse_on k) (ap (λ b. b && true) h) asked)
          ∙ shows.glimpses k ∙ sym (append_none (map glimpse_kind (filter (is_on k) gs))) ∙ sym (rows k false h)

-- of one request it is asked once, so that it is new
pub asks_glimpse_new : (v : Target) (asked : List Asked) (r : RequestOf) (l : Lock) (is_new : Bool) → ShowsCalls asked v
    → is_new ≡ not (is_outstanding l.cookie (kind.Glimpse r.who r.xid) asked) → is_new
    ≡ not (list_any (is_glimpse l.cookie r.who r.xid) v.glimpses)
asks_glimpse_new v asked r l is_new shows e = e ∙ ap not (is_glimpse_is asked v shows l.cookie r.who r.xid)

pub asks_glimpse : (v : Target) (asked new : List Asked) (r : RequestOf) (resource : Resource) (l : Lock) (is_new : Bool) (tick : ℕ)
    → ShowsCalls asked v
    → list_any (is_of_lock l.cookie) v.granted ≡ true → is_new ≡ true
    → new ≡ (if is_new then with_asked (record { cookie = l.cookie; kind = kind.Glimpse r.who r.xid; tick = tick }) asked else asked)
    → IsSound new
    → ShowsCalls new (turn v (row_asks v r resource l))
asks_glimpse v asked new r resource l is_new tick shows held first added sound =
    let g : Glimpse = record { cookie = l.cookie; resource = resource; request = r } in
    let more : new ≡ with_asked (record { cookie = l.cookie; kind = kind.Glimpse r.who r.xid; tick = tick }) asked =
    added ∙ ap (λ b. if b then with_asked (record { cookie = l.cookie; kind = kind.Glimpse r.who r.xid; tick = tick }) asked else asked)
    first
    in
    subst (λ (xs : List Asked). Shows xs v.called (v.glimpses ++ g ∷ []) v.granted) (sym more)
    (glimpse_added asked v.called v.glimpses v.granted shows g tick (subst IsSound more sound) held)
