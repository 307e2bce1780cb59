-- Lists of lives in their order: what is put in or taken out leaves them so, and those that have the same lives are one.
use Rattle.std.proofs.Common.{◌≡◌, ℕ, Bool, true, false, cond, not, ◌||◌, List, [], ◌∷◌, ◌++◌, filter, refl, sym, ap, subst, ◌∙◌, arith}
use Rattle.std.specs.Prelude.{if◌then◌else◌, AllPairs}
use Rattle.std.proofs.lemmas.Bool.Decides.{nat_tests}
use Rattle.lu_base.specs.declared.ids.Who.{Who}
use Rattle.lu_spec_machine.specs.Footprint.{Every}
use Rattle.lu_msg.specs.declared.commits.Batch.{Batch}
use Rattle.lu_spec_entries.specs.Carried.{Disk}
use Rattle.lu_spec_entries.specs.Words.{Commit, same_life}
use Rattle.lu_spec_target.specs.Disks.{loaded_on}
use Rattle.lu_spec_target.specs.Stored.{stored}
use Rattle.lu_spec_target.specs.States.{Target, after}
use Rattle.lu_spec_target.specs.Lives.{is_life, life_before, with_life, with_lives, without_lives}
use Rattle.lu_target_refines.specs.Lives.{IsAhead, InOrder}
use Rattle.lu_target_refines.proofs.Lists.{Pairs, pairs_of}

-- ---- the order of two lives

abbrev life_of : ℕ → ℕ → Who
life_of client life = record { client = client; life = life }

pub is_same : (a b : Who) → same_life a b ≡ true → a ≡ b
is_same a b same =
    let client : a.client ≡ b.client = grind (arith, nat_tests) in
    let life : a.life ≡ b.life = grind (arith, nat_tests) in
    ap (λ n. life_of n a.life) client ∙ ap (life_of b.client) life

pub same_again : (a : Who) → same_life a a ≡ true
same_again a = grind (arith, nat_tests)

same_back : (a b : Who) (same : Bool) → same_life a b ≡ same → same_life b a ≡ same
same_back a b true h = grind (arith, nat_tests)
same_back a b false h = grind (arith, nat_tests)

apart : (a b : Who) → life_before a b ≡ true → same_life a b ≡ false
apart a b before = grind (arith, nat_tests)

apart_back : (a b : Who) → life_before a b ≡ true → same_life b a ≡ false
apart_back a b before = grind (arith, nat_tests)

not_back : (a b : Who) → life_before a b ≡ true → life_before b a ≡ false
not_back a b before = grind (arith, nat_tests)

through : (a b c : Who) → life_before a b ≡ true → life_before b c ≡ true → life_before a c ≡ true
through a b c ab bc = grind (arith, nat_tests)

other_way : (a b : Who) → same_life a b ≡ false → life_before a b ≡ false → life_before b a ≡ true
other_way a b other behind = grind (arith, nat_tests)

-- ---- what stands ahead of a list

ahead_of_all : (a b : Who) (lives : List Who) → life_before a b ≡ true → IsAhead b lives → IsAhead a lives
ahead_of_all a b [] ab ahead = tt
ahead_of_all a b (w ∷ lives) ab ahead = (through a b w ab ahead.0, ahead_of_all a b lives ab ahead.1)

not_there : (a : Who) (lives : List Who) → IsAhead a lives → is_life a lives ≡ false
not_there a [] ahead = refl
not_there a (w ∷ lives) ahead = ap (λ b. b || is_life a lives) (apart a w ahead.0) ∙ not_there a lives ahead.1

ahead_with : (a who : Who) (lives : List Who) → life_before a who ≡ true → IsAhead a lives → IsAhead a (with_life who lives)
ahead_with a who [] before ahead = (before, tt)
ahead_with a who (w ∷ lives) before ahead = by (same_life who w) (life_before who w) (ahead_with a who lives before ahead.1) where
  by : (same ahead_of : Bool) → IsAhead a (with_life who lives)
      → IsAhead a (if same then w ∷ lives else (if ahead_of then who ∷ w ∷ lives else w ∷ with_life who lives))
  by true b rest = ahead
  by false true rest = (before, ahead)
  by false false rest = (ahead.0, rest)

ahead_filter : (test : Who → Bool) (a : Who) (lives : List Who) → IsAhead a lives → IsAhead a (filter test lives)
ahead_filter test a [] ahead = tt
ahead_filter test a (w ∷ lives) ahead = by (test w) (ahead_filter test a lives ahead.1) where
  by : (stays : Bool) → IsAhead a (filter test lives) → IsAhead a (cond stays (w ∷ filter test lives) (filter test lives))
  by true rest = (ahead.0, rest)
  by false rest = rest

-- ---- in order still

pub ordered_with : (who : Who) (lives : List Who) → InOrder lives → InOrder (with_life who lives)
ordered_with who [] ordered = (tt, tt)
ordered_with who (w ∷ lives) ordered = by (same_life who w) refl (life_before who w) refl (ordered_with who lives ordered.1) where
  by : (same : Bool) → same_life who w ≡ same → (ahead : Bool) → life_before who w ≡ ahead → InOrder (with_life who lives)
      → InOrder (if same then w ∷ lives else (if ahead then who ∷ w ∷ lives else w ∷ with_life who lives))
  by true s ahead a rest = ordered
  by false s true a rest = ((a, ahead_of_all who w lives a ordered.0), ordered)
  by false s false a rest = (ahead_with w who lives (other_way who w s a) ordered.0, rest)

pub ordered_withs : (more lives : List Who) → InOrder lives → InOrder (with_lives more lives)
ordered_withs [] lives ordered = ordered
ordered_withs (who ∷ more) lives ordered = ordered_withs more (with_life who lives) (ordered_with who lives ordered)

pub ordered_filter : (test : Who → Bool) (lives : List Who) → InOrder lives → InOrder (filter test lives)
ordered_filter test [] ordered = tt
ordered_filter test (w ∷ lives) ordered = by (test w) (ordered_filter test lives ordered.1) where
  by : (stays : Bool) → InOrder (filter test lives) → InOrder (cond stays (w ∷ filter test lives) (filter test lives))
  by true rest = (ahead_filter test w lives ordered.0, rest)
  by false rest = rest

pub ordered_without : (gone lives : List Who) → InOrder lives → InOrder (without_lives gone lives)
ordered_without gone lives ordered = ordered_filter (λ w. not (is_life w gone)) lives ordered

-- ---- who is there

pub there_with : (a who : Who) (lives : List Who) → is_life a (with_life who lives) ≡ (same_life a who || is_life a lives)
there_with a who [] = refl
there_with a who (w ∷ lives) = by (same_life who w) refl (life_before who w) (there_with a who lives) where
  joined : (same : Bool) → same_life a who ≡ same → same_life who w ≡ true → (same_life a w || is_life a lives)
      ≡ (same || (same_life a w || is_life a lives))
  joined false s one = refl
  joined true s one = let here : same_life a w ≡ true = grind (arith, nat_tests) in ap (λ b. b || is_life a lives) here

  swap : (x y z : Bool) → (y || (x || z)) ≡ (x || (y || z))
  swap true true z = refl
  swap true false z = refl
  swap false true z = refl
  swap false false z = refl

  by : (same : Bool) → same_life who w ≡ same → (ahead : Bool) → is_life a (with_life who lives) ≡ (same_life a who || is_life a lives)
      → is_life a (if same then w ∷ lives else (if ahead then who ∷ w ∷ lives else w ∷ with_life who lives))
      ≡ (same_life a who || is_life a (w ∷ lives))
  by true s ahead rest = joined (same_life a who) refl s ∙ ap (λ b. b || (same_life a w || is_life a lives)) refl
  by false s true rest = refl
  by false s false rest = ap (λ b. same_life a w || b) rest ∙ swap (same_life a who) (same_life a w) (is_life a lives)

-- in order, those that have the same lives are one
pub same_lives : (ones others : List Who) → InOrder ones → InOrder others → ((who : Who) → is_life who ones ≡ is_life who others) → ones
    ≡ others
same_lives [] [] o p same = refl
same_lives [] (w ∷ others) o p same = let there : false ≡ true = same w ∙ ap (λ b. b || is_life w others) (same_again w) in absurd (cc)
same_lives (w ∷ ones) [] o p same = let there : true ≡ false = sym (ap (λ b. b || is_life w ones) (same_again w)) ∙ same w in absurd (cc)
same_lives (a ∷ ones) (b ∷ others) o p same =
    by (same_life a b) refl (life_before a b) refl (λ e. same_lives ones others o.1 p.1 (λ who. rest e who (same_life who a) refl))
  where
    -- the first of the one is not in the other
    missing : (x y : Who) (xs ys : List Who) → life_before x y ≡ true → IsAhead y ys → is_life x (x ∷ xs) ≡ is_life x (y ∷ ys) → ⊥
    missing x y xs ys before ahead e =
        let here : is_life x (x ∷ xs) ≡ true = ap (λ c. c || is_life x xs) (same_again x) in
        let none : is_life x (y ∷ ys) ≡ false = not_there x (y ∷ ys) (before, ahead_of_all x y ys before ahead) in
        absurd (cc)

    rest : a ≡ b → (who : Who) (here : Bool) → same_life who a ≡ here → is_life who ones ≡ is_life who others
    rest e who true s =
        let one : who ≡ a = is_same who a s in
        subst (λ (x : Who). is_life x ones ≡ is_life x others) (sym one)
        (not_there a ones o.0 ∙ sym (subst (λ (x : Who). is_life x others ≡ false) (sym e) (not_there b others p.0)))
    rest e who false s =
        let other : same_life who b ≡ false = subst (λ (x : Who). same_life who x ≡ false) e s in
        let both : (same_life who a || is_life who ones) ≡ (same_life who b || is_life who others) = same who in
        sym (ap (λ c. c || is_life who ones) s) ∙ both ∙ ap (λ c. c || is_life who others) other

    by : (one : Bool) → same_life a b ≡ one → (before : Bool) → life_before a b ≡ before → (a ≡ b → ones ≡ others) → a ∷ ones ≡ b ∷ others
    by true s before h tail =
        let e : a ≡ b = is_same a b s in
        let more : ones ≡ others = tail e in
        ap (λ (x : Who). x ∷ ones) e ∙ ap (λ (xs : List Who). b ∷ xs) more
    by false s true h tail = absurd (missing a b ones others h p.0 (same a))
    by false s false h tail = absurd (missing b a others ones (other_way a b s h) o.0 (sym (same b)))

-- ---- lives that are put in one after another, in order

before_last : (ones : List Who) (who : Who) (more : List Who) → InOrder (ones ++ who ∷ more) → with_life who ones ≡ ones ++ who ∷ []
before_last [] who more ordered = refl
before_last (w ∷ ones) who more ordered =
    let before : life_before w who ≡ true = ahead_at ones ordered.0 in
    ap (λ b. if b then w ∷ ones else (if life_before who w then who ∷ w ∷ ones else w ∷ with_life who ones)) (apart_back w who before)
    ∙ ap (λ b. if b then who ∷ w ∷ ones else w ∷ with_life who ones) (not_back w who before)
    ∙ ap (λ (lives : List Who). w ∷ lives) (before_last ones who more ordered.1)
  where
    ahead_at : (ones : List Who) → IsAhead w (ones ++ who ∷ more) → life_before w who ≡ true
    ahead_at [] ahead = ahead.0
    ahead_at (x ∷ ones) ahead = ahead_at ones ahead.1

append_next : (ones : List Who) (who : Who) (more : List Who) → (ones ++ who ∷ []) ++ more ≡ ones ++ who ∷ more
append_next [] who more = refl
append_next (w ∷ ones) who more = ap (λ (lives : List Who). w ∷ lives) (append_next ones who more)

append_none : (ones : List Who) → ones ++ [] ≡ ones
append_none [] = refl
append_none (w ∷ ones) = ap (λ (lives : List Who). w ∷ lives) (append_none ones)

pub put_all : (more ones : List Who) → InOrder (ones ++ more) → with_lives more ones ≡ ones ++ more
put_all [] ones ordered = sym (append_none ones)
put_all (who ∷ more) ones ordered =
    ap (with_lives more) (before_last ones who more ordered)
    ∙ put_all more (ones ++ who ∷ []) (subst InOrder (sym (append_next ones who more)) ordered)
    ∙ append_next ones who more

-- ---- the lives of a target and of its disk are in order

pub ordered_pairs : (lives : List Who) → AllPairs (λ earlier later. life_before earlier later ≡ true) lives → InOrder lives
ordered_pairs lives pairs = go lives (pairs_of (λ (earlier later : Who). life_before earlier later ≡ true) lives pairs) where
  ahead : (w : Who) (lives : List Who) → Every (λ later. life_before w later ≡ true) lives → IsAhead w lives
  ahead w [] all = tt
  ahead w (x ∷ lives) all = (all.0, ahead w lives all.1)

  go : (lives : List Who) → Pairs (λ (earlier later : Who). life_before earlier later ≡ true) lives → InOrder lives
  go [] pairs = tt
  go (w ∷ lives) pairs = (ahead w lives pairs.0, go lives pairs.1)

pub ordered_stored : (osts : ℕ) (batch : Batch) (disk : Disk) → InOrder disk.lives → InOrder (stored osts batch disk).lives
ordered_stored osts batch disk ordered = ordered_withs batch.added (without_lives batch.removed disk.lives)
    (ordered_without batch.removed disk.lives ordered)

pub ordered_loaded : (osts : ℕ) (batches : List Batch) (disk : Disk) → InOrder disk.lives → InOrder (loaded_on osts disk batches).lives
ordered_loaded osts [] disk ordered = ordered
ordered_loaded osts (batch ∷ batches) disk ordered = ordered_loaded osts batches (stored osts batch disk)
    (ordered_stored osts batch disk ordered)

pub ordered_committed : (v : Target) (to : ℕ) (batch : Batch) → InOrder v.lives → InOrder (after v (Commit to batch)).lives
ordered_committed v to batch ordered = ordered_withs batch.added (without_lives batch.removed v.lives)
    (ordered_without batch.removed v.lives ordered)
