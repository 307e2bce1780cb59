-- Granted locks that are in the way of a change are called back; glimpses are asked and answered.
use Rattle.std.proofs.Common.{◌≡◌, ℕ, ◌==◌, ◌&&◌, ◌||◌, Bool, true, false, cond, not, Some, find, List, [], ◌∷◌, filter, refl, sym, ◌∙◌, ap}
use Rattle.std.proofs.Common.{subst}
use Rattle.std.specs.Prelude.{if◌then◌else◌}
use Rattle.std.specs.List.{list_any, AllByRecursion}
use Rattle.lu_base.specs.declared.ids.Cookie.{Cookie}
use Rattle.lu_base.specs.declared.ids.Who.{Who}
use Rattle.lu_base.specs.declared.ids.Xid.{Xid}
use Rattle.lu_base.specs.declared.locks.Lock.{Lock}
use Rattle.lu_callback.specs.declared.callbacks.Asked.{Asked}
use Rattle.lu_callback.specs.declared.callbacks.Kind.TheVariants as kind
use Rattle.lu_callback.specs.Callbacks.{is_asked, is_outstanding, with_asked, without_glimpse, IsSound}
use Rattle.lu_lockspace.specs.Spaces.{has, is_told}
use Rattle.lu_spec_target.specs.Glimpses.{row_asks}
use Rattle.lu_spec_target.specs.Replies.{blocks}
use Rattle.lu_spec_target.specs.States.{Target, turn}
use Rattle.lu_target_refines.specs.Callbacks.{ShowsCalls, is_of_lock}
use Rattle.lu_target_refines.specs.Locks.{found_or, named}
use Rattle.lu_target_refines.proofs.LockLists.{rises_from, rises_filter}
use Rattle.lu_target_refines.proofs.Lists.{filter_all, every_map, none_passes}
use Rattle.lu_target_refines.proofs.Locks.{locks_same, leaves_blocks}
use Rattle.lu_target_refines.proofs.Finding.{any_granted, rising_cookies, holds_passing}
use Rattle.lu_target_refines.proofs.Ranks.{finds_itself}
use Rattle.lu_target_refines.proofs.Callbacks.{asks_glimpse, is_glimpse_is}
use Rattle.lu_target_locks.specs.Calling.{Calling, calling, call_all}
use Rattle.lu_target_locks.specs.Servers.{ServerState, Shows, blocks_told}
use Rattle.lu_target_locks.specs.Asking.{cookies_of, AreCalled, IsGlimpsed}
use Rattle.lu_target_locks.proofs.Cookies.{StandOnce, rising_once, all_of_locks}
use Rattle.lu_target_locks.proofs.CallingBack.{Ends, all_called, ticks_blocks, boot_blocks}

-- ---- locks by their cookies

abbrev IsFound : List Lock → Lock → Type 0
IsFound locks l = find (λ k. k.cookie.0 == l.cookie.0) locks ≡ Some l

each_filter : (P : Lock → Type 0) (test : Lock → Bool) (locks : List Lock) → AllByRecursion P locks → AllByRecursion P (filter test locks)
each_filter P test [] each = tt
each_filter P test (l ∷ locks) each = by (test l) (each_filter P test locks each.1) where
  by : (v : Bool) → AllByRecursion P (filter test locks) → AllByRecursion P (cond v (l ∷ filter test locks) (filter test locks))
  by true rest = (each.0, rest)
  by false rest = rest

named_same : (some locks : List Lock) → AllByRecursion (IsFound locks) some → named (cookies_of some) locks ≡ some
named_same [] locks each = refl
named_same (l ∷ some) locks each =
    ap (λ o. found_or o (named (cookies_of some) locks)) each.0 ∙ ap (λ more. l ∷ more) (named_same some locks each.1)

any_both : (test : Lock → Bool) (c : ℕ) (locks : List Lock) → list_any (λ l. test l && (l.cookie.0 == c)) locks ≡ true → has c locks ≡ true
any_both test c [] h = absurd (cc)
any_both test c (l ∷ locks) h = by (test l) (l.cookie.0 == c) h (any_both test c locks) where
  by : (a b : Bool) → ((a && b) || list_any (λ l. test l && (l.cookie.0 == c)) locks) ≡ true
      → (list_any (λ l. test l && (l.cookie.0 == c)) locks ≡ true → has c locks ≡ true) → (b || has c locks) ≡ true
  by a true h rest = refl
  by true false h rest = rest h
  by false false h rest = rest h

-- ---- they are called back

module _ (cookies : List Cookie) (asked : List Asked) (locks : List Lock) (old : ServerState)
    (is : calling asked locks ≡ call_all old.space old.ticks old.asked cookies) where
  names : (v : Target) (test : Lock → Bool) → Shows old v → cookies ≡ cookies_of (filter test v.granted) → named cookies v.granted
      ≡ filter test v.granted
  names v test s e =
      ap (λ cs. named cs v.granted) e
      ∙ named_same (filter test v.granted) v.granted (each_filter (IsFound v.granted) test v.granted
      (finds_itself v.granted (rises_from v.granted s.locks.rising)))

  whole : (v : Target) (test : Lock → Bool) → Shows old v → cookies ≡ cookies_of (filter test v.granted)
      → Ends (call_all old.space old.ticks old.asked cookies) [] v (blocks v (named cookies v.granted))
  whole v test s e =
      all_called old.space old.ticks v.granted cookies
      (subst StandOnce (sym e) (rising_once (cookies_of (filter test v.granted))
      (rising_cookies (filter test v.granted) (rises_filter test v.granted (rises_from v.granted s.locks.rising)))))
      (all_of_locks old.space v cookies s.locks there) old.asked [] v refl s.ticks s.calls
    where
      there : (c : Cookie) → is_told c cookies ≡ true → has c.0 old.space.granted ≡ true
      there c among =
          any_granted old.space v (λ l. l.cookie.0 == c.0) s.locks
          ∙ any_both test c.0 v.granted (sym (holds_passing c.0 test v.granted) ∙ ap (is_told c) (sym e) ∙ among)

  pub are_called : AreCalled cookies locks old (record old { asked = asked })
  are_called = record {
    told = λ v test s e. let ends = whole v test s e in ap (blocks v) (sym (names v test s e)) ∙ ends.2
        ∙ ap (blocks_told v) (sym (ap (λ (c : Calling). c.called) is ∙ ends.1));
    shows = λ v test s e. let w = turn v (blocks v (filter test v.granted)) in let left = leaves_blocks v v (filter test v.granted)
        in record {
          locks = locks_same old.space v w left.0 left.1 left.2 s.locks;
          calls = subst (λ (ls : List Lock). ShowsCalls asked (turn v (blocks v ls))) (names v test s e)
              (subst (λ (asks : List Asked). ShowsCalls asks (turn v (blocks v (named cookies v.granted))))
              (sym (ap (λ (c : Calling). c.asked) is)) (whole v test s e).3);
          cookie = left.2 ∙ s.cookie;
          ticks = ticks_blocks v v (filter test v.granted) ∙ s.ticks;
          boot = boot_blocks v v (filter test v.granted) ∙ s.boot;
          counted = s.counted;
        };
  }

-- ---- glimpses

pub is_glimpsed : (cookie : Cookie) (who : Who) (xid : Xid) (new : Bool) (asked : List Asked) (old : ServerState) → new
    ≡ not (is_outstanding cookie (kind.Glimpse who xid) old.asked)
    → asked ≡ (if new then with_asked (record { cookie = cookie; kind = kind.Glimpse who xid; tick = old.ticks }) old.asked else old.asked)
    → IsSound asked
    → IsGlimpsed cookie who xid new old (record old { asked = asked })
is_glimpsed cookie who xid new asked old e added sound = record {
  is_new = λ v s. e ∙ ap not (is_glimpse_is old.asked v s.calls cookie who xid);
  shows = λ v r resource l s same_cookie same_who same_xid held first. record {
    locks = locks_same old.space v (turn v (row_asks v r resource l)) refl refl refl s.locks;
    calls = asks_glimpse v old.asked asked r resource l new old.ticks s.calls
        (subst (λ (c : Cookie). list_any (is_of_lock c) v.granted ≡ true) (sym same_cookie) held) first
        (added ∙ (λ i. if new then with_asked (record {
          cookie = sym same_cookie i;
          kind = kind.Glimpse (sym same_who i) (sym same_xid i);
          tick = old.ticks;
        }) old.asked else old.asked)) sound;
    boot = s.boot;
    counted = s.counted;
    cookie = s.cookie;
    ticks = s.ticks;
  };
}

pub none_glimpsed : (cookie : Cookie) (who : Who) (xid : Xid) (asked : List Asked) → is_outstanding cookie (kind.Glimpse who xid) asked
    ≡ false → without_glimpse cookie who xid asked ≡ asked
none_glimpsed cookie who xid asked none =
    filter_all (λ a. not (is_asked cookie (kind.Glimpse who xid) a)) asked
    (every_map (λ a. is_asked cookie (kind.Glimpse who xid) a ≡ false) (λ a. not (is_asked cookie (kind.Glimpse who xid) a) ≡ true)
    (λ a h. ap not h) asked
    (none_passes (is_asked cookie (kind.Glimpse who xid)) asked none))
