-- Which lives leave and come: at a tick those whose locks were called back too long ago, at a join the older life of its
-- client, and at a close those that the window settles. They are as the journal wants them.
use Rattle.std.proofs.Common.{◌≡◌, ℕ, ◌≤◌, ◌==◌, ◌&&◌, ◌||◌, Bool, true, false, List, [], ◌∷◌, filter, Some, None, refl, sym, ap, subst}
use Rattle.std.proofs.Common.{◌∙◌, arith}
use Rattle.std.specs.Prelude.{⊤, if◌then◌else◌, not, nat_lt, All}
use Rattle.std.specs.List.{list_any}
use Rattle.std.proofs.lemmas.Bool.Decides.{nat_tests}
use Rattle.std.proofs.lemmas.Bool.{eqb-true}
use Rattle.std.proofs.lemmas.List.Elements.{All-cons}
use Rattle.lu_base.specs.declared.ids.At.{At}
use Rattle.lu_base.specs.declared.ids.Who.{Who}
use Rattle.lu_spec_entries.specs.Carried.{Deed, Called, Contents}
use Rattle.lu_spec_entries.specs.Words.{same_life}
use Rattle.lu_spec_target.specs.Phase.{first_of}
use Rattle.lu_spec_target.specs.Lives.{is_life, life_before, with_life, without_lives, lives_of as gone_of}
use Rattle.lu_spec_target.specs.Stored.{transaction_of, done}
use Rattle.lu_spec_target.specs.Windows.{Replayed, Window, with_wish, is_back, is_left, has_gap, gone_with, gone_from, kept_numbers}
use Rattle.lu_spec_target.specs.Windows.{kept_of, has_number, settled}
use Rattle.lu_spec_target.specs.States.{Target}
use Rattle.lu_spec_target.specs.Leaving.{is_due, condemned, life_of}
use Rattle.lu_spec_target.specs.Outcomes.{window_of, deed_again, deeds_again}
use Rattle.lu_target_refines.specs.Journals.{AreHeld, AreLate}
use Rattle.lu_target_refines.specs.Batches.{AreOnce, AreAmong, AreApart, AreReplaysOf, IsClosing}
use Rattle.lu_target_refines.proofs.Slots.{never, one_life, same_self}
use Rattle.lu_target_refines.proofs.Rising.{IsOrder, AllAfter, Rises, put, rises_put}
use Rattle.lu_target_refines.proofs.LifeLists.{life_without, lives_order, rises_with}

or_true : (a : Bool) → (a || true) ≡ true
or_true true = refl
or_true false = refl

-- ---- rising lists of lives have each once

none_behind : (who : Who) (lives : List Who) → AllAfter life_before who lives → is_life who lives ≡ false
none_behind who [] all = refl
none_behind who (w ∷ lives) all = rw (lives_order.apart who w all.0) (none_behind who lives all.1)

pub once_rising : (lives : List Who) → Rises life_before lives → AreOnce lives
once_rising [] rises = tt
once_rising (who ∷ lives) rises = (none_behind who lives rises.0, once_rising lives rises.1)

among_more : (who : Who) (lives some : List Who) → AreAmong lives some → AreAmong (who ∷ lives) some
among_more who lives [] all = tt
among_more who lives (w ∷ some) all = (rw all.0 (or_true (same_life w who)), among_more who lives some all.1)

among_with : (who : Who) (lives some : List Who) → is_life who lives ≡ true → AreAmong lives some → AreAmong lives (with_life who some)
among_with who lives [] e all = (e, tt)
among_with who lives (w ∷ some) e all = by (same_life who w) (life_before who w) (among_with who lives some e all.1) where
  by : (own first : Bool) → AreAmong lives (with_life who some)
      → AreAmong lives (if own then w ∷ some else (if first then who ∷ w ∷ some else w ∷ with_life who some))
  by true first rest = all
  by false true rest = (e, all)
  by false false rest = (all.0, rest)

-- ---- a tick

pub condemned_rise : (v : Target) (cs : List Called) → Rises life_before (condemned v cs)
condemned_rise v [] = tt
condemned_rise v (c ∷ cs) = by (is_due v c) (condemned_rise v cs) where
  by : (due : Bool) → Rises life_before (condemned v cs) → Rises life_before
      (if due then with_life c.who (condemned v cs) else condemned v cs)
  by true rest = rises_with c.who (condemned v cs) rest
  by false rest = rest

-- where the holders of the locks have slots
abbrev pub AllHolders : List Who → List Called → Type 0
AllHolders lives [] = ⊤
AllHolders lives (c ∷ cs) = (is_life c.who lives ≡ true) × AllHolders lives cs

pub condemned_among : (v : Target) (lives : List Who) (cs : List Called) → AllHolders lives cs → AreAmong lives (condemned v cs)
condemned_among v lives [] all = tt
condemned_among v lives (c ∷ cs) all = by (is_due v c) (condemned_among v lives cs all.1) where
  by : (due : Bool) → AreAmong lives (condemned v cs) → AreAmong lives (if due then with_life c.who (condemned v cs) else condemned v cs)
  by true rest = among_with c.who lives (condemned v cs) all.0 rest
  by false rest = rest

-- ---- a join

-- the life of a client
pub life_there : (client : ℕ) (lives : List Who) (w : Who) → life_of client lives ≡ Some w → (is_life w lives ≡ true)
    × ((w.client == client) ≡ true)
life_there client [] w e = absurd (cc)
life_there client (x ∷ lives) w e = by (x.client == client) refl e (life_there client lives w) where
  some_is : Some x ≡ Some w → x ≡ w
  some_is f = cc

  by : (own : Bool) → (x.client == client) ≡ own → (if own then Some x else life_of client lives) ≡ Some w
      → (life_of client lives ≡ Some w → (is_life w lives ≡ true) × ((w.client == client) ≡ true)) → (is_life w (x ∷ lives) ≡ true)
      × ((w.client == client) ≡ true)
  by true f e rest = subst (λ (who : Who). (is_life who (x ∷ lives) ≡ true) × ((who.client == client) ≡ true)) (some_is e)
      (rw (same_self x) refl, f)
  by false f e rest = let there = rest e in (rw there.0 (or_true (same_life w x)), there.1)

-- a client without a life
pub no_life : (who : Who) (lives : List Who) → life_of who.client lives ≡ None → is_life who lives ≡ false
no_life who [] e = refl
no_life who (x ∷ lives) e = by (x.client == who.client) refl e (no_life who lives) where
  other : (x.client == who.client) ≡ false → same_life who x ≡ false
  other f = grind (arith, nat_tests)

  by : (own : Bool) → (x.client == who.client) ≡ own → (if own then Some x else life_of who.client lives) ≡ None
      → (life_of who.client lives ≡ None → is_life who lives ≡ false)
      → is_life who (x ∷ lives) ≡ false
  by true f e rest = absurd (cc)
  by false f e rest = rw (other f) (rest e)

-- ---- a close: the lives that leave

after_gone : (z : Who) (v : Window) (kept : List ℕ) (lives : List Who) → AllAfter life_before z lives
    → AllAfter life_before z (gone_of (gone_from v kept lives))
after_gone z v kept [] all = tt
after_gone z v kept (who ∷ lives) all = by (not (is_back v who) || is_left v who) (has_gap v kept who)
    (after_gone z v kept lives all.1) where
      by : (absent gap : Bool) → AllAfter life_before z (gone_of (gone_from v kept lives))
          → AllAfter life_before z (gone_of (gone_with absent gap who (gone_from v kept lives)))
      by true gap rest = (all.0, rest)
      by false true rest = (all.0, rest)
      by false false rest = rest

pub gone_rise : (v : Window) (kept : List ℕ) (lives : List Who) → Rises life_before lives
    → Rises life_before (gone_of (gone_from v kept lives))
gone_rise v kept [] rises = tt
gone_rise v kept (who ∷ lives) rises = by (not (is_back v who) || is_left v who) (has_gap v kept who) (gone_rise v kept lives rises.1) where
  by : (absent gap : Bool) → Rises life_before (gone_of (gone_from v kept lives))
      → Rises life_before (gone_of (gone_with absent gap who (gone_from v kept lives)))
  by true gap rest = (after_gone who v kept lives rises.0, rest)
  by false true rest = (after_gone who v kept lives rises.0, rest)
  by false false rest = rest

pub gone_among : (v : Window) (kept : List ℕ) (lives : List Who) → AreAmong lives (gone_of (gone_from v kept lives))
gone_among v kept [] = tt
gone_among v kept (who ∷ lives) = by (not (is_back v who) || is_left v who) (has_gap v kept who)
    (among_more who lives (gone_of (gone_from v kept lives)) (gone_among v kept lives)) where
      here : is_life who (who ∷ lives) ≡ true
      here = rw (same_self who) refl

      by : (absent gap : Bool) → AreAmong (who ∷ lives) (gone_of (gone_from v kept lives))
          → AreAmong (who ∷ lives) (gone_of (gone_with absent gap who (gone_from v kept lives)))
      by true gap rest = (here, rest)
      by false true rest = (here, rest)
      by false false rest = rest

-- ---- and those that come: a life of a client that joins leaves

left_goes : (v : Window) (kept : List ℕ) (lives : List Who) (w : Who) → is_left v w ≡ true → is_life w lives ≡ true
    → is_life w (gone_of (gone_from v kept lives)) ≡ true
left_goes v kept [] w left e = e
left_goes v kept (who ∷ lives) w left e = by (same_life w who) refl (not (is_back v who) || is_left v who) refl (has_gap v kept who) e
    (left_goes v kept lives w left) where
      out : same_life w who ≡ true → (not (is_back v who) || is_left v who) ≡ true
      out f = subst (λ life. (not (is_back v life) || is_left v life) ≡ true) (one_life w who f) (rw left (or_true (not (is_back v w))))

      by : (own : Bool) → same_life w who ≡ own → (absent : Bool) → (not (is_back v who) || is_left v who) ≡ absent → (gap : Bool)
          → (own || is_life w lives) ≡ true
          → (is_life w lives ≡ true → is_life w (gone_of (gone_from v kept lives)) ≡ true)
          → is_life w (gone_of (gone_with absent gap who (gone_from v kept lives))) ≡ true
      by true f true g gap e rest = rw f refl
      by true f false g gap e rest = absurd (never (sym (out f) ∙ g))
      by false f true g gap e rest = rw f (rest e)
      by false f false g true e rest = rw f (rest e)
      by false f false g false e rest = rest e

same_client : (w x : Who) → same_life w x ≡ true → (x.client == w.client) ≡ true
same_client w x e = grind (arith, nat_tests)

is_left_by : (w : Who) (wishes : List Who) → is_life w wishes ≡ true → list_any (λ (x : Who). x.client == w.client) wishes ≡ true
is_left_by w [] e = e
is_left_by w (x ∷ wishes) e = by (same_life w x) refl e (is_left_by w wishes) where
  by : (own : Bool) → same_life w x ≡ own → (own || is_life w wishes) ≡ true
      → (is_life w wishes ≡ true → list_any (λ (x : Who). x.client == w.client) wishes ≡ true)
      → list_any (λ (x : Who). x.client == w.client) (x ∷ wishes) ≡ true
  by true f e rest = rw (same_client w x f) refl
  by false f e rest = rw (rest e) (or_true (x.client == w.client))

comes_apart : (v : Window) (kept : List ℕ) (wishes : List Who) → AreAmong v.wishes wishes
    → AreApart (without_lives (gone_of (gone_from v kept v.lives)) v.lives) wishes
comes_apart v kept [] all = tt
comes_apart v kept (w ∷ wishes) all = (
  life_without w (gone_of (gone_from v kept v.lives)) v.lives ∙ by (is_life w v.lives) refl,
  comes_apart v kept wishes all.1,
) where
  and_false : (a : Bool) → (a && false) ≡ false
  and_false true = refl
  and_false false = refl

  by : (there : Bool) → is_life w v.lives ≡ there → (not (is_life w (gone_of (gone_from v kept v.lives))) && there) ≡ false
  by true e = rw (left_goes v kept v.lives w (is_left_by w v.wishes all.0) e) refl
  by false e = and_false (not (is_life w (gone_of (gone_from v kept v.lives))))

all_own : (lives some : List Who) → ((w : Who) → is_life w some ≡ true → is_life w lives ≡ true) → AreAmong lives some
all_own lives [] all = tt
all_own lives (w ∷ some) all = (all w (rw (same_self w) refl), all_own lives some (λ x e. all x (rw e (or_true (same_life x w)))))

-- ---- wishes: of each client one, and these rise

abbrev pub same_wish : Who → Who → Bool
same_wish a b = a.client == b.client

abbrev pub wish_before : Who → Who → Bool
wish_before a b = nat_lt a.client b.client

wishes_order : IsOrder same_wish wish_before
wishes_order = record {
  own = λ a. grind (arith, nat_tests);
  back = λ a b. turned a.client b.client;
  through = λ a b c e. ap (λ n. n == c.client) (eqb-true a.client b.client e);
  apart = λ a b e. grind (arith, nat_tests);
  later = λ a b c e f. grind (arith, nat_tests);
  beside = λ a b c e. ap (λ n. nat_lt n c.client) (eqb-true a.client b.client e);
  either = λ a b e f. grind (arith, nat_tests);
} where
  turned : (m n : ℕ) → (m == n) ≡ (n == m)
  turned m n = by (n == m) refl where
    by : (v : Bool) → (n == m) ≡ v → (m == n) ≡ v
    by true e = grind (arith, nat_tests)
    by false e = grind (arith, nat_tests)

put_wish : (who : Who) (wishes : List Who) → with_wish who wishes ≡ put same_wish wish_before who wishes
put_wish who [] = refl
put_wish who (w ∷ wishes) = by (who.client == w.client) (nat_lt who.client w.client) (put_wish who wishes) where
  by : (own first : Bool) → with_wish who wishes ≡ put same_wish wish_before who wishes
      → (if own then who ∷ wishes else (if first then who ∷ w ∷ wishes else w ∷ with_wish who wishes))
      ≡ (if own then who ∷ wishes else (if first then who ∷ w ∷ wishes else w ∷ put same_wish wish_before who wishes))
  by true first rest = refl
  by false true rest = refl
  by false false rest = ap (λ more. w ∷ more) rest

pub wishes_rise : (who : Who) (wishes : List Who) → Rises wish_before wishes → Rises wish_before (with_wish who wishes)
wishes_rise who wishes rises = subst (Rises wish_before) (sym (put_wish who wishes))
    (rises_put same_wish wish_before wishes_order who wishes rises)

other_wish : (a b : Who) → nat_lt a.client b.client ≡ true → same_life a b ≡ false
other_wish a b e = grind (arith, nat_tests)

none_wished : (who : Who) (wishes : List Who) → AllAfter wish_before who wishes → is_life who wishes ≡ false
none_wished who [] all = refl
none_wished who (w ∷ wishes) all = rw (other_wish who w all.0) (none_wished who wishes all.1)

once_wished : (wishes : List Who) → Rises wish_before wishes → AreOnce wishes
once_wished [] rises = tt
once_wished (who ∷ wishes) rises = (none_wished who wishes rises.0, once_wished wishes rises.1)

-- ---- the kept replays

replays_some : (lives : List Who) (most : ℕ) (test : Replayed → Bool) (replays : List Replayed) → AreReplaysOf lives most replays
    → AreReplaysOf lives most (filter test replays)
replays_some lives most test [] all = tt
replays_some lives most test (r ∷ replays) all = by (test r) (replays_some lives most test replays all.1) where
  by : (stays : Bool) → AreReplaysOf lives most (filter test replays)
      → AreReplaysOf lives most (if stays then r ∷ filter test replays else filter test replays)
  by true rest = (all.0, rest)
  by false rest = rest

again_held : (v : Target) (at : At) (c : Contents) (lives : List Who) (most : ℕ) (replays : List Replayed) → AreReplaysOf lives most replays
    → AreHeld lives (deeds_again v at c replays)
again_held v at c lives most [] all = tt
again_held v at c lives most (r ∷ replays) all = (
  all.0.0,
  again_held v at (done v.setting.osts c (transaction_of (deed_again v at c r)))
      lives most replays all.1,
)

again_late : (v : Target) (at : At) (c : Contents) (lives : List Who) (most : ℕ) (replays : List Replayed) → AreReplaysOf lives most replays
    → AreLate (deeds_again v at c replays)
again_late v at c lives most [] all = tt
again_late v at c lives most (r ∷ replays) all = (
  all.0.1,
  again_late v at (done v.setting.osts c (transaction_of (deed_again v at c r)))
      lives most replays all.1,
)

again_early : (v : Target) (at : At) (c : Contents) (lives : List Who) (most : ℕ) (replays : List Replayed)
    → AreReplaysOf lives most replays
    → All (λ (d : Deed). d.reply.txn.0 ≤ most) (deeds_again v at c replays)
again_early v at c lives most [] all = λ k d within. absurd (omega arith)
again_early v at c lives most (r ∷ replays) all =
    All-cons (λ (d : Deed). d.reply.txn.0 ≤ most) (deed_again v at c r)
    (deeds_again v at (done v.setting.osts c (transaction_of (deed_again v at c r))) replays)
    all.0.2 (again_early v at (done v.setting.osts c (transaction_of (deed_again v at c r))) lives most replays all.1)

-- ---- all that a close of the target's window decides is as the journal wants it

pub closing : (v : Target) (at : At) → Rises life_before v.lives → Rises wish_before v.wishes
    → AreReplaysOf v.lives (first_of v.boot) v.replays
    → IsClosing v (deeds_again v at v.disk.contents (settled (window_of v)).kept) (gone_of (settled (window_of v)).gone)
    (settled (window_of v)).joins
closing v at lives wishes replays =
    let some : AreReplaysOf v.lives (first_of v.boot) (kept_of (kept_numbers (window_of v)) v.replays) =
    replays_some v.lives (first_of v.boot) (λ r. has_number r.number (kept_numbers (window_of v))) v.replays replays in
    record {
      earlier = again_early v at v.disk.contents v.lives (first_of v.boot) (kept_of (kept_numbers (window_of v)) v.replays) some;
      late = again_late v at v.disk.contents v.lives (first_of v.boot) (kept_of (kept_numbers (window_of v)) v.replays) some;
      held = again_held v at v.disk.contents v.lives (first_of v.boot) (kept_of (kept_numbers (window_of v)) v.replays) some;
      once = once_rising (gone_of (gone_from (window_of v) (kept_numbers (window_of v)) v.lives))
          (gone_rise (window_of v) (kept_numbers (window_of v)) v.lives lives);
      among = gone_among (window_of v) (kept_numbers (window_of v)) v.lives;
      new = once_wished v.wishes wishes;
      apart = comes_apart (window_of v) (kept_numbers (window_of v)) v.wishes (all_own v.wishes v.wishes (λ w e. e));
    }
