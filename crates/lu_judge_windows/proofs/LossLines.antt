-- What one line makes of what closes lost.
use Rattle.std.proofs.Common.{◌≡◌, ℕ, ◌+◌, ◌<◌, length, take, get_or, Bool, true, false, Some, None, List, [], ◌∷◌, refl, ap, subst, sym}
use Rattle.std.proofs.Common.{◌∙◌}
use Rattle.std.specs.Prelude.{◌==◌, ◌&&◌, ◌||◌, not, nat_eq, nat_lt, if◌then◌else◌, Option}
use Rattle.std.specs.List.{list_any}
use Rattle.std.proofs.lemmas.Bool.{eqb-true}
use Rattle.std.proofs.lemmas.List.Folds.{list_any-append, list_any_more}
use Rattle.lu_base.specs.declared.ids.At.{At}
use Rattle.lu_base.specs.declared.ids.Node.{Node}
use Rattle.lu_base.specs.declared.ids.Node.TheVariants.{Client, Target}
use Rattle.lu_trace.specs.declared.entries.Entry.{Entry}
use Rattle.lu_trace.specs.declared.entries.Entry.TheVariants.{Close, Fail}
use Rattle.lu_trace.specs.declared.entries.Line.{Line}
use Rattle.lu_spec_laws.specs.Words.Pasts.{Past, is_target, same_turn, same_node}
use Rattle.lu_spec_laws.specs.Words.Scopes.{any_in}
use Rattle.lu_spec_laws.specs.Words.Lost.{Loss, Transaction, losses, losses_step, numbers_of, lost_numbers, is_among, is_fail, is_lost}
use Rattle.lu_spec_laws.specs.Words.Lost.{lost_of, undecided, with_close, without_turn, loses, is_replayable, transactions}
use Rattle.lu_spec_laws.specs.Words.Boots.{committed}
use Rattle.lu_spec_laws.specs.Words.Closes.{lost_at}
use Rattle.lu_judge_windows.specs.declared.losses.Losses.{Losses}
use Rattle.lu_judge_windows.specs.Losses.{lost_turn, has_failed, passes, stands_lost, is_lost_in, loses_in, ShowsLosses}
use Rattle.lu_judge_windows.proofs.Tests.{at_key, eq_swap, put_both, and_false}
use Rattle.lu_judge_windows.proofs.MarkLines.{line_of}

-- ---- the table says what is lost

lost_any : (n : ℕ) (xs : List Loss) → list_any (loses_in (λ s. true) n) xs ≡ is_among (numbers_of xs) n
lost_any n [] = refl
lost_any n (x ∷ xs) = ap (λ (b : Bool). is_among x.numbers n || b) (lost_any n xs)
    ∙ sym (list_any-append (nat_eq n) x.numbers (numbers_of xs))

stands_passes : (failed : ℕ → Bool) (o : Option ℕ) → stands_lost failed o ≡ passes (λ s. true) failed o
stands_passes failed None = refl
stands_passes failed (Some s) = by (not (failed s)) where
  by : (b : Bool) → b ≡ (b && true)
  by true = refl
  by false = refl

pub lost_shown : (t : Losses) (past : Past) → ShowsLosses t past → (target n : ℕ) → is_lost_in t target n ≡ is_lost past target n
lost_shown t past shown target n =
    stands_passes (has_failed t target) (lost_turn t target n)
    ∙ shown.lost target n (λ s. true)
    ∙ lost_any n (losses target past)

-- ---- all closes of a target are its own lines

abbrev AllAt : ℕ → List Loss → Type 0
AllAt t [] = Unit {0}
AllAt t (x ∷ xs) = (is_target t x.at.node ≡ true) × AllAt t xs

all_without : (t : ℕ) (at : At) (xs : List Loss) → AllAt t xs → AllAt t (without_turn at xs)
all_without t at [] all = tt
all_without t at (x ∷ xs) all = by (same_turn x.at at) (all_without t at xs all.1) where
  by : (same : Bool) → AllAt t (without_turn at xs) → AllAt t (if not same then x ∷ without_turn at xs else without_turn at xs)
  by true rest = rest
  by false rest = (all.0, rest)

all_step : (t : ℕ) (failed : Bool) (lose : List ℕ → List ℕ) (at : At) (e : Entry) (xs : List Loss) → AllAt t xs
    → AllAt t (losses_step t failed lose (line_of at e) xs)
all_step t failed lose at Close xs all = by (is_target t at.node) refl failed where
  by : (here : Bool) → is_target t at.node ≡ here → (f : Bool) → AllAt t (if here then with_close f at lose xs else xs)
  by true is true = all
  by true is false = (is, all)
  by false is f = all
all_step t failed lose at Fail xs all = by (is_target t at.node) where
  by : (here : Bool) → AllAt t (if here then without_turn at xs else xs)
  by true = all_without t at xs all
  by false = all
all_step t failed lose at _ xs all = all

all_at : (t : ℕ) (past : Past) → AllAt t (losses t past)
all_at t [] = tt
all_at t (l ∷ past) = all_step t (any_in is_fail l.at past) (loses t past) l.at l.entry (losses t past) (all_at t past)

-- ---- a line of another node, or one that is neither a close nor a failure

passes_same : (test f g : ℕ → Bool) (o : Option ℕ) → ((s : ℕ) → f s ≡ g s) → passes test f o ≡ passes test g o
passes_same test f g None same = refl
passes_same test f g (Some s) same = ap (λ (b : Bool). not b && test s) (same s)

passes_tests : (test more f : ℕ → Bool) (o : Option ℕ) → ((s : ℕ) → test s ≡ more s) → passes test f o ≡ passes more f o
passes_tests test more f None same = refl
passes_tests test more f (Some s) same = ap (λ (b : Bool). not (f s) && b) (same s)

-- ---- a disk fails

module _ (at : At) (u : ℕ) (node : at.node ≡ Target u) (past : Past) where
  fails_now : (t s : ℕ) → any_in is_fail (record { stamp = record { 0 = s }; node = Target t }) (line_of at Fail ∷ past)
      ≡ ((at.stamp.0 == s && u == t) || any_in is_fail (record { stamp = record { 0 = s }; node = Target t }) past)
  fails_now t s = ap (λ (n : Node). (at.stamp.0 == s && is_target t n)
      || any_in is_fail (record { stamp = record { 0 = s }; node = Target t }) past) node

  -- among its closes those of another turn are those of another stamp
  other_turns : (test : ℕ → Bool) (n : ℕ) (xs : List Loss) → AllAt u xs
      → list_any (loses_in test n) (without_turn at xs) ≡ list_any (loses_in (λ s. not (at.stamp.0 == s) && test s) n) xs
  other_turns test n [] all = refl
  other_turns test n (x ∷ xs) all =
      ap (λ (same : Bool). list_any (loses_in test n) (if not same then x ∷ without_turn at xs else without_turn at xs)) turn
      ∙ by (at.stamp.0 == x.at.stamp.0)
      ∙ ap (λ (b : Bool). ((not (at.stamp.0 == x.at.stamp.0) && test x.at.stamp.0) && is_among x.numbers n) || b)
      (other_turns test n xs all.1) where
        here : same_node x.at.node at.node ≡ true
        here = ap (λ (m : Node). same_node x.at.node m) node ∙ all.0

        turn : same_turn x.at at ≡ (at.stamp.0 == x.at.stamp.0)
        turn = ap (λ (b : Bool). x.at.stamp.0 == at.stamp.0 && b) here ∙ by_true (x.at.stamp.0 == at.stamp.0)
            ∙ eq_swap x.at.stamp.0 at.stamp.0 where
              by_true : (b : Bool) → (b && true) ≡ b
              by_true true = refl
              by_true false = refl

        by : (same : Bool) → list_any (loses_in test n) (if not same then x ∷ without_turn at xs else without_turn at xs)
            ≡ (((not same && test x.at.stamp.0) && is_among x.numbers n) || list_any (loses_in test n) (without_turn at xs))
        by true = refl
        by false = refl

  failed_passes : (test f g : ℕ → Bool) (o : Option ℕ) → ((s : ℕ) → g s ≡ (if at.stamp.0 == s then true else f s)) → passes test g o
      ≡ passes (λ s. not (at.stamp.0 == s) && test s) f o
  failed_passes test f g None is = refl
  failed_passes test f g (Some s) is = ap (λ (b : Bool). not b && test s) (is s) ∙ by (at.stamp.0 == s) (f s) (test s) where
    by : (same old t : Bool) → (not (if same then true else old) && t) ≡ (not old && (not same && t))
    by true true t = refl
    by true false t = refl
    by false true t = refl
    by false false t = refl

  pub fail_shown : (t n : Losses) → ShowsLosses t past → n.lost ≡ t.lost
      → ((k s : ℕ) → has_failed n k s ≡ (if u == k && at.stamp.0 == s then true else has_failed t k s))
      → ShowsLosses n (line_of at Fail ∷ past)
  fail_shown t n shown lost fails = record {
    failed = λ k s. fails k s ∙ put_both (u == k) (at.stamp.0 == s) (has_failed t k s)
        ∙ ap (λ (b : Bool). (at.stamp.0 == s && u == k) || b) (shown.failed k s) ∙ sym (fails_now k s);
    lost = λ k m test.
        ap (λ (x : _). passes test (has_failed n k) (lost_turn (record { lost = x; failed = n.failed }) k m)) lost
        ∙ at_key (λ j here. ((s : ℕ) → has_failed n j s ≡ (if here && at.stamp.0 == s then true else has_failed t j s))
        → passes test (has_failed n j) (lost_turn t j m) ≡ list_any (loses_in test m)
        (if here then without_turn at (losses j past) else losses j past)) u k
        (λ is. failed_passes test (has_failed t u) (has_failed n u) (lost_turn t u m) is
        ∙ shown.lost u m (λ s. not (at.stamp.0 == s) && test s) ∙ sym (other_turns test m (losses u past) (all_at u past)))
        (λ apart is. passes_same test (has_failed n k) (has_failed t k) (lost_turn t k m) is ∙ shown.lost k m test)
        (fails k)
        ∙ ap (λ (x : Node). list_any (loses_in test m) (if is_target k x then without_turn at (losses k past) else losses k past))
        (sym node);
  }

-- ---- a window closes

among_now : (n : ℕ) (above : ℕ) (old : List ℕ) (r : Transaction → Bool) (xs : List Transaction)
    → is_among (lost_of r (undecided above old xs)) n ≡ true → is_among old n ≡ false
among_now n above old r [] there = absurd (cc)
among_now n above old r (x ∷ xs) there = by (nat_lt above x.number) (is_among old x.number) refl (among_now n above old r xs) there where
  by_same : (same : Bool) → (n == x.number) ≡ same → is_among old x.number ≡ false
      → (is_among (lost_of r (undecided above old xs)) n ≡ true → is_among old n ≡ false)
      → (same || is_among (lost_of r (undecided above old xs)) n) ≡ true → is_among old n ≡ false
  by_same true same is rest there = subst (λ (k : ℕ). is_among old k ≡ false) (sym (eqb-true n x.number same)) is
  by_same false same is rest there = rest there

  named : (f : Bool) → is_among old x.number ≡ false → (is_among (lost_of r (undecided above old xs)) n ≡ true → is_among old n ≡ false)
      → is_among (if f then x.number ∷ lost_of r (undecided above old xs) else lost_of r (undecided above old xs)) n ≡ true → is_among old n
      ≡ false
  named false is rest there = rest there
  named true is rest there = by_same (n == x.number) refl is rest there

  by : (a o : Bool) → is_among old x.number ≡ o → (is_among (lost_of r (undecided above old xs)) n ≡ true → is_among old n ≡ false)
      → is_among (lost_of r (if a && not o then x ∷ undecided above old xs else undecided above old xs)) n ≡ true → is_among old n ≡ false
  by true false is rest there = named (not (r x) || list_any (is_among (lost_of r (undecided above old xs))) x.seen) is rest there
  by true true is rest there = rest there
  by false o is rest there = rest there

pub lost_now : (t n : ℕ) (past : Past) → is_among (lost_at t past) n ≡ true → is_lost past t n ≡ false
lost_now t n past = among_now n (committed t past) (lost_numbers t past) (is_replayable t past) (transactions t past)

module _ (stamp u : ℕ) (past : Past) where
  abbrev turn : At
  turn = record { stamp = record { 0 = stamp }; node = Target u }

  no_fail : (t s : ℕ) → any_in is_fail (record { stamp = record { 0 = s }; node = Target t }) (line_of turn Close ∷ past)
      ≡ any_in is_fail (record { stamp = record { 0 = s }; node = Target t }) past
  no_fail t s = refl

  -- in a turn whose disk failed
  pub failed_close : (t : Losses) → ShowsLosses t past → has_failed t u stamp ≡ true → ShowsLosses t (line_of turn Close ∷ past)
  failed_close t shown is = record {
    failed = shown.failed;
    lost = λ k m test. shown.lost k m test ∙ sym (kept k m test);
  } where
    fails : any_in is_fail turn past ≡ true
    fails = sym (shown.failed u stamp) ∙ is

    kept : (k m : ℕ) (test : ℕ → Bool) → list_any (loses_in test m) (losses k (line_of turn Close ∷ past))
        ≡ list_any (loses_in test m) (losses k past)
    kept k m test = ap (λ (f : Bool). list_any (loses_in test m)
        (if u == k then with_close f turn (loses k past) (losses k past) else losses k past)) fails ∙ by (u == k) where
          by : (here : Bool) → list_any (loses_in test m) (if here then losses k past else losses k past)
              ≡ list_any (loses_in test m) (losses k past)
          by true = refl
          by false = refl

  -- in another turn it loses these numbers
  pub close_shown : (t n : Losses) (numbers : List ℕ) → ShowsLosses t past → has_failed t u stamp ≡ false → numbers ≡ lost_at u past
      → n.failed ≡ t.failed
      → ((k m : ℕ) → lost_turn n k m ≡ (if u == k && is_among numbers m then Some stamp else lost_turn t k m))
      → ShowsLosses n (line_of turn Close ∷ past)
  close_shown t n numbers shown is numbers_is failed lost = record {
    failed = λ k s. fails k s ∙ shown.failed k s;
    lost = λ k m test. step k m test;
  } where
    fails : (k s : ℕ) → has_failed n k s ≡ has_failed t k s
    fails k s = ap (λ (x : _). has_failed (record { lost = n.lost; failed = x }) k s) failed

    fine : any_in is_fail turn past ≡ false
    fine = sym (shown.failed u stamp) ∙ is

    none : (m : ℕ) (test : ℕ → Bool) → is_among numbers m ≡ true → list_any (loses_in test m) (losses u past) ≡ false
    none m test there = sym (shown.lost u m test) ∙ by (lost_turn t u m)
        (lost_shown t past shown u m ∙ lost_now u m past (subst (λ (ns : List ℕ). is_among ns m ≡ true) numbers_is there)) where
          by : (o : Option ℕ) → stands_lost (has_failed t u) o ≡ false → passes test (has_failed t u) o ≡ false
          by None stands = refl
          by (Some s) stands = ap (λ (b : Bool). b && test s) stands

    here : (m : ℕ) (test : ℕ → Bool) (among : Bool) → is_among numbers m ≡ among
        → passes test (has_failed t u) (if among then Some stamp else lost_turn t u m)
        ≡ ((test stamp && among) || list_any (loses_in test m) (losses u past))
    here m test true there = ap (λ (b : Bool). not b && test stamp) is
        ∙ sym (ap (λ (b : Bool). (test stamp && true) || b) (none m test there) ∙ by (test stamp)) where
          by : (b : Bool) → ((b && true) || false) ≡ b
          by true = refl
          by false = refl
    here m test false there = shown.lost u m test ∙ sym (ap (λ (b : Bool). b || list_any (loses_in test m) (losses u past))
        (and_false (test stamp)))

    step : (k m : ℕ) (test : ℕ → Bool) → passes test (has_failed n k) (lost_turn n k m)
        ≡ list_any (loses_in test m) (losses k (line_of turn Close ∷ past))
    step k m test =
        ap (λ (o : Option ℕ). passes test (has_failed n k) o) (lost k m)
        ∙ passes_same test (has_failed n k) (has_failed t k) (if u == k && is_among numbers m then Some stamp else lost_turn t k m)
        (fails k)
        ∙ at_key (λ j same. passes test (has_failed t j) (if same && is_among numbers m then Some stamp else lost_turn t j m)
        ≡ list_any (loses_in test m) (if same then record { at = turn; numbers = lost_at j past } ∷ losses j past else losses j past)) u
        k
        (here m test (is_among numbers m) refl ∙ ap (λ (ns : List ℕ). (test stamp && is_among ns m)
        || list_any (loses_in test m) (losses u past)) numbers_is)
        (λ apart. shown.lost k m test)
        ∙ ap (λ (f : Bool). list_any (loses_in test m) (if u == k then with_close f turn (loses k past) (losses k past) else losses k past))
        (sym fine)

-- ---- numbers that are put one by one

pub lost_so_far : (a : Bool) (n x stamp i : ℕ) (xs : List ℕ) (new mid old : Option ℕ) → i < length xs → new
    ≡ (if a && x == n then Some stamp else mid)
    → mid ≡ (if a && is_among (take i xs) n then Some stamp else old) → x ≡ get_or xs i 0 → new
    ≡ (if a && is_among (take (i + 1) xs) n then Some stamp else old)
lost_so_far a n x stamp i xs new mid old below put so_far item =
    put
    ∙ ap (λ (o : Option ℕ). if a && x == n then Some stamp else o) so_far
    ∙ by a (x == n) (is_among (take i xs) n)
    ∙ ap (λ (b : Bool). if a && (is_among (take i xs) n || b) then Some stamp else old) (eq_swap x n ∙ ap (λ (k : ℕ). n == k) item)
    ∙ ap (λ (b : Bool). if a && b then Some stamp else old) (sym (list_any_more (nat_eq n) xs i 0 below)) where
      by : (a v m : Bool) → (if a && v then Some stamp else (if a && m then Some stamp else old))
          ≡ (if a && (m || v) then Some stamp else old)
      by false v m = refl
      by true true true = refl
      by true true false = refl
      by true false true = refl
      by true false false = refl

pub close_line : (l : Line) (t : ℕ) → l.at.node ≡ Target t → l.entry ≡ Close → l
    ≡ record { at = record { stamp = l.at.stamp; node = Target t }; entry = Close }
close_line l t node entry =
    ap (λ (n : Node). line_of (record { stamp = l.at.stamp; node = n }) l.entry) node
    ∙ ap (λ (e : Entry). line_of (record { stamp = l.at.stamp; node = Target t }) e) entry

-- ---- lines of clients

pub client_fails : (t : Losses) (past : Past) (at : At) (c : ℕ) → at.node ≡ Client c → ShowsLosses t past
    → ShowsLosses t (line_of at Fail ∷ past)
client_fails t past at c node shown = record {
  failed = λ k s.
      shown.failed k s
      ∙ sym (ap (λ (n : Node). (at.stamp.0 == s && is_target k n)
      || any_in is_fail (record { stamp = record { 0 = s }; node = Target k }) past) node
      ∙ ap (λ (b : Bool). b || any_in is_fail (record { stamp = record { 0 = s }; node = Target k }) past) (and_false (at.stamp.0 == s)));
  lost = λ k m test. shown.lost k m test ∙ sym (ap (λ (n : Node). list_any (loses_in test m)
      (if is_target k n then without_turn at (losses k past) else losses k past)) node);
}

pub client_closes : (t : Losses) (past : Past) (at : At) (c : ℕ) → at.node ≡ Client c → ShowsLosses t past
    → ShowsLosses t (line_of at Close ∷ past)
client_closes t past at c node shown = record {
  failed = shown.failed;
  lost = λ k m test. shown.lost k m test ∙ sym (ap (λ (n : Node). list_any (loses_in test m)
      (if is_target k n then with_close (any_in is_fail at past) at (loses k past) (losses k past) else losses k past)) node);
}
