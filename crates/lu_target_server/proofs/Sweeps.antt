-- The requests at the metadata target go on: what a pass has come to at each request, and what all have come to after each pass.
use Rattle.std.proofs.Common.{◌≡◌, ℕ, zero, suc, ◌+◌, ◌<◌, ◌≤◌, ◌||◌, not, Bool, true, false, List, [], ◌∷◌, ◌++◌, Some, length, drop}
use Rattle.std.proofs.Common.{slice_get, refl, sym, ap, subst, ◌∙◌, append_assoc, ◌-◌, arith}
use Rattle.std.specs.Prelude.{if◌then◌else◌}
use Rattle.std.specs.List.{list_any}
use Rattle.std.proofs.lemmas.List.{drop_more, drop_all}
use Rattle.std.proofs.lemmas.Option.{slice_get_within, get_or_from_slice_get}
use Rattle.lu_base.specs.declared.ids.At.{At}
use Rattle.lu_base.specs.declared.ids.Cookie.{Cookie}
use Rattle.lu_msg.specs.declared.messages.Request.{Request}
use Rattle.lu_trace.specs.Turns.{Making}
use Rattle.lu_spec_entries.specs.Words.{Entry}
use Rattle.lu_spec_target.specs.Names.{is_read, does_change, is_ready, in_way, guards_part, written_by, row_executes, row_waits, row_sweep}
use Rattle.lu_spec_target.specs.Names.{names_go}
use Rattle.lu_spec_target.specs.Replies.{blocks}
use Rattle.lu_spec_target.specs.States.{Target, turn, follow}
use Rattle.lu_target_store.specs.Stores.{KeepsDisk}
use Rattle.lu_target_server.specs.Servers.{ServerState, Shows, Stands, Makes}
use Rattle.lu_target_server.specs.Passes.{pass_over, acts_in, names_pass, one_acts, IsPass, IsWay, AreCalled}
use Rattle.lu_target_server.specs.declared.names.Way.{Way}
use Rattle.lu_target_server.specs.declared.names.Way.TheVariants as way
use Rattle.lu_target_server.specs.Numbers.{Overruns}
use Rattle.lu_target_server.proofs.Composing.{nothing_more, turn_more, makes_nothing, makes_then, makes_as, same_turn}
use Rattle.lu_target_server.proofs.Overrunning.{over_then, over_as, over_sweep}
use Rattle.lu_target_server.proofs.Passes.{sweep_acted, sweep_ended, sweep_last, pass_acts, pass_waits}

-- ---- a pass, at each request

-- The requests before this place did what they may, and none acted; stood: what changes names is among them.
pub record IsAtPlace (place : ℕ) (stood : Bool) (old now : ServerState) (before so_far : Making) : Type 0 where
  pub row : Target → List Entry
  pub makes : Makes row old now before so_far
  pub requests : now.requests ≡ old.requests
  pub disk : KeepsDisk old.store now.store
  pub left : (v : Target) → Shows old v → names_pass before.at v
      ≡ follow v (row v) (λ w. pass_over before.at w stood (drop place old.requests))
  pub acts : (v : Target) → Shows old v → one_acts v ≡ acts_in (turn v (row v)) stood (drop place old.requests)

pub at_first : (old : ServerState) (before : Making) → IsAtPlace 0 false old old before before
at_first old before =
    record {
      row = λ v. [];
      makes = makes_nothing old before;
      requests = refl;
      disk = record { batches = refl; faults = refl };
      left = λ v shows. ap (pass_over before.at v false) shows.requests;
      acts = λ v shows. ap (acts_in v false) shows.requests;
    }

module _ (place : ℕ) (stood : Bool) (old now : ServerState) (before so_far : Making) (here : IsAtPlace place stood old now before so_far)
    (r : Request) (found : slice_get old.requests place ≡ Some r) where
  rest : List Request
  rest = drop (place + 1) old.requests

  here_is : drop place old.requests ≡ r ∷ rest
  unfolding rest
  here_is =
      drop_more old.requests place r (slice_get_within old.requests place r found)
      ∙ ap (λ (q : Request). q ∷ drop (place + 1) old.requests) (get_or_from_slice_get old.requests place r r found)

  there : slice_get now.requests place ≡ Some r
  there = ap (λ (them : List Request). slice_get them place) here.requests ∙ found

  acts_row : IsWay now place stood (way.Free r) → (v : Target) → Shows old v → names_pass before.at v
      ≡ follow v (here.row v) (λ w. row_executes w before.at r (does_change w r))
  unfolding rest
  acts_row free v shows =
      let w = turn v (here.row v) in
      let ready : is_ready w stood r ≡ true = (free w r (here.makes.shows v shows) there).1 in
      here.left v shows
      ∙ ap (λ (queue : List Request). here.row v ++ pass_over before.at w stood queue) here_is
      ∙ ap (λ (es : List Entry). here.row v ++ es) (pass_acts before.at w stood r rest ready).0

  -- no number was left for it
  pub place_over : Stands old → IsWay now place stood (way.Free r) → Overruns (λ w. row_executes w so_far.at r (does_change w r)) now
      → Overruns (names_pass before.at) old
  place_over stands free over =
      let at : so_far.at ≡ before.at = same_turn here.row old now before so_far here.makes stands in
      over_as (λ v. follow v (here.row v) (λ w. row_executes w before.at r (does_change w r))) (names_pass before.at) old
      (λ v shows. sym (acts_row free v shows))
      (over_then here.row (λ w. row_executes w before.at r (does_change w r)) old now before so_far here.makes
      (subst (λ (a : At). Overruns (λ w. row_executes w a r (does_change w r)) now) at over))

  -- it acts
  pub place_acts :
      (new : ServerState) (end : Making) → Stands old → IsWay now place stood (way.Free r)
      → Makes (λ w. row_executes w so_far.at r (does_change w r)) now new so_far end
      → IsPass true old new before end
  unfolding rest
  place_acts new end stands free makes =
      let at : so_far.at ≡ before.at = same_turn here.row old now before so_far here.makes stands in
      let acts : Makes (λ w. row_executes w before.at r (does_change w r)) now new so_far end =
      subst (λ (a : At). Makes (λ w. row_executes w a r (does_change w r)) now new so_far end) at makes in
      record {
        makes = makes_as (λ v. follow v (here.row v) (λ w. row_executes w before.at r (does_change w r))) (names_pass before.at) old new
            before end
            (λ v shows. sym (acts_row free v shows))
            (makes_then here.row (λ w. row_executes w before.at r (does_change w r)) old now new before so_far end here.makes acts);
        one = λ v shows.
            let w = turn v (here.row v) in
            let ready : is_ready w stood r ≡ true = (free w r (here.makes.shows v shows) there).1 in
            sym (here.acts v shows ∙ ap (acts_in w stood) here_is ∙ (pass_acts before.at w stood r rest ready).1);
      }

  -- it waits, having done so much
  on : (next : ServerState) (end : Making) (waits : Target → List Entry) (later : Bool)
      → Makes waits now next so_far end → next.requests ≡ now.requests → KeepsDisk now.store next.store
      → ((w : Target) → Shows now w → is_ready w stood r ≡ false) → ((w : Target) → Shows now w → row_waits w r ≡ waits w)
      → (stood || not (is_read r.op)) ≡ later
      → IsAtPlace (place + 1) later old next before end
  unfolding rest
  on next end waits later makes requests disk unready row_is later_is =
      record {
        row = λ v. follow v (here.row v) waits;
        makes = makes_then here.row waits old now next before so_far end here.makes makes;
        requests = requests ∙ here.requests;
        disk = record { batches = disk.batches ∙ here.disk.batches; faults = disk.faults ∙ here.disk.faults };
        left = λ v shows.
            let w = turn v (here.row v) in
            let there_shows : Shows now w = here.makes.shows v shows in
            let goes : Bool → List Entry → Target → List Entry = (λ s es x. es ++ pass_over before.at x s rest) in
            here.left v shows
            ∙ ap (λ (queue : List Request). here.row v ++ pass_over before.at w stood queue) here_is
            ∙ ap (λ (es : List Entry). here.row v ++ es) (pass_waits before.at w stood r rest (unready w there_shows)).0
            ∙ ap (λ (es : List Entry). here.row v ++ (es ++ pass_over before.at (turn w es) (stood || not (is_read r.op)) rest))
            (row_is w there_shows)
            ∙ ap (λ (s : Bool). here.row v ++ (waits w ++ pass_over before.at (turn w (waits w)) s rest)) later_is
            ∙ sym (append_assoc (here.row v) (waits w) (pass_over before.at (turn w (waits w)) later rest))
            ∙ ap (λ (x : Target). (here.row v ++ waits w) ++ pass_over before.at x later rest) (sym (turn_more v (here.row v) (waits w)));
        acts = λ v shows.
            let w = turn v (here.row v) in
            let there_shows : Shows now w = here.makes.shows v shows in
            here.acts v shows
            ∙ ap (acts_in w stood) here_is
            ∙ (pass_waits before.at w stood r rest (unready w there_shows)).1
            ∙ ap (λ (es : List Entry). acts_in (turn w es) (stood || not (is_read r.op)) rest) (row_is w there_shows)
            ∙ ap (λ (s : Bool). acts_in (turn w (waits w)) s rest) later_is
            ∙ ap (λ (x : Target). acts_in x later rest) (sym (turn_more v (here.row v) (waits w)));
      }

  stays_behind : (s b : Bool) → b ≡ true → (s || not b) ≡ s
  stays_behind true b e = refl
  stays_behind false b e = rw e refl

  -- it reads, and stands behind what changes names
  pub place_behind : Stands now → IsWay now place stood way.Behind → IsAtPlace (place + 1) stood old now before so_far
  place_behind stands behind =
      let reads : is_read r.op ≡ true = (behind stands.0 r stands.1 there).0 in
      on now so_far (λ w. []) stood (makes_nothing now so_far) refl (record { batches = refl; faults = refl })
      (λ w shows. (behind w r shows there).1) (λ w shows. ap (λ (b : Bool). if b then [] else blocks w (in_way w.granted (written_by w r)))
      reads)
      (stays_behind stood (is_read r.op) reads)

  stands_before : (s b : Bool) → b ≡ false → (s || not b) ≡ true
  stands_before true b e = refl
  stands_before false b e = rw e refl

  -- it changes names that these locks guard, and they were called back
  pub place_barred :
      (next : ServerState) (end : Making) (cookies : List Cookie) → Stands now → IsWay now place stood (way.Barred cookies)
      → AreCalled cookies now next so_far end
      → next.requests ≡ now.requests → KeepsDisk now.store next.store → IsAtPlace (place + 1) true old next before end
  place_barred next end cookies stands barred called requests disk =
      let changes : is_read r.op ≡ false = (barred stands.0 r stands.1 there).0 in
      on next end (λ w. blocks w (in_way w.granted (written_by w r))) true
      (record {
        gives = λ w shows. called.gives w (λ l. list_any (guards_part l) (written_by w r)) shows (barred w r shows there).2;
        shows = λ w shows. called.shows w (λ l. list_any (guards_part l) (written_by w r)) shows (barred w r shows there).2;
      })
      requests disk (λ w shows. (barred w r shows there).1) (λ w shows. ap
      (λ (b : Bool). if b then [] else blocks w (in_way w.granted (written_by w r))) changes)
      (stands_before stood (is_read r.op) changes)

-- ---- at a request, whatever the code found of it

-- there is one at each place
one_at : (queue : List Request) (place : ℕ) → place < length queue → (r : Request) × (slice_get queue place ≡ Some r)
one_at [] place within = absurd (omega arith)
one_at (r ∷ queue) zero within = (r, refl)
one_at (r ∷ queue) (suc place) within = one_at queue place (omega arith)

-- the one that may act is that at this place
pub free_waits : (s : ServerState) (place : ℕ) (stood : Bool) (request : Request) → Stands s → place < length s.requests
    → IsWay s place stood (way.Free request) → slice_get s.requests place ≡ Some request
free_waits s place stood request stands within free =
    let one = one_at s.requests place within in
    one.1 ∙ ap (λ (x : Request). Some x) (sym (free stands.0 one.0 stands.1 one.1).0)

pub of_way : (s : ServerState) (place : ℕ) (stood : Bool) (found told : Way) → found ≡ told → IsWay s place stood found
    → IsWay s place stood told
of_way s place stood found told is = subst (λ (x : Way). IsWay s place stood x) is

module _ (place : ℕ) (stood : Bool) (old now : ServerState) (before so_far : Making) (here : IsAtPlace place stood old now before so_far)
    (stands : Stands now) (within : place < length now.requests) where
  asks : Request
  asks = (one_at now.requests place within).0

  asked_there : slice_get old.requests place ≡ Some asks
  unfolding asks
  asked_there = ap (λ (them : List Request). slice_get them place) (sym here.requests) ∙ (one_at now.requests place within).1

  pub waits_behind :
      (self : ServerState) (turn : Making) (later : Bool) → IsWay now place stood way.Behind → self ≡ now → turn ≡ so_far → later ≡ stood
      → IsAtPlace (place + 1) later old self before turn
  waits_behind self turn later behind self_is turn_is later_is =
      subst (λ (s : Bool). IsAtPlace (place + 1) s old self before turn) (sym later_is)
      (subst (λ (t : Making). IsAtPlace (place + 1) stood old self before t) (sym turn_is)
      (subst (λ (x : ServerState). IsAtPlace (place + 1) stood old x before so_far) (sym self_is)
      (place_behind place stood old now before so_far here asks asked_there stands behind)))

  pub waits_barred :
      (next : ServerState) (end : Making) (cookies : List Cookie) (self : ServerState) (turn : Making) (later : Bool)
      → IsWay now place stood (way.Barred cookies) → AreCalled cookies now next so_far end → next ≡ record now { locks = next.locks }
      → self ≡ next → turn ≡ end → later ≡ true
      → IsAtPlace (place + 1) later old self before turn
  waits_barred next end cookies self turn later barred called same self_is turn_is later_is =
      subst (λ (s : Bool). IsAtPlace (place + 1) s old self before turn) (sym later_is)
      (subst (λ (t : Making). IsAtPlace (place + 1) true old self before t) (sym turn_is)
      (subst (λ (x : ServerState). IsAtPlace (place + 1) true old x before end) (sym self_is)
      (place_barred place stood old now before so_far here asks asked_there next end cookies stands barred called
      (ap (λ (x : ServerState). x.requests) same)
      (record { batches = ap (λ (x : ServerState). x.store.batches) same; faults = ap (λ (x : ServerState). x.store.faults) same }))))

-- none acted
pub place_last : (place : ℕ) (stood : Bool) (old now : ServerState) (before so_far : Making) → IsAtPlace place stood old now before so_far
    → length old.requests ≤ place
    → IsPass false old now before so_far
place_last place stood old now before so_far here past =
    let none : drop place old.requests ≡ [] = drop_all place old.requests past in
    record {
      makes = makes_as here.row (names_pass before.at) old now before so_far
          (λ v shows.
          sym (here.left v shows
          ∙ ap (λ (queue : List Request). here.row v ++ pass_over before.at (turn v (here.row v)) stood queue) none
          ∙ nothing_more (here.row v)))
          here.makes;
      one = λ v shows. sym (here.acts v shows ∙ ap (acts_in (turn v (here.row v)) stood) none);
    }

-- ---- pass after pass

-- So many passes were made in which one acted.
pub record HaveSwept (passes : ℕ) (old now : ServerState) (before so_far : Making) : Type 0 where
  pub row : Target → List Entry
  pub makes : Makes row old now before so_far
  pub disk : KeepsDisk old.store now.store
  pub left : (v : Target) (more : ℕ) → Shows old v → passes + more ≡ length old.requests + 1 → names_go before.at v
      ≡ follow v (row v) (row_sweep more before.at)

pub swept_none : (old : ServerState) (before : Making) → HaveSwept 0 old old before before
swept_none old before =
    record {
      row = λ v. [];
      makes = makes_nothing old before;
      disk = record { batches = refl; faults = refl };
      left = λ v more shows count.
          let all : length v.queue + 1 ≡ more = ap (λ (queue : List Request). length queue + 1) shows.requests ∙ sym count
          ∙ none_before more in
          ap (λ n. row_sweep n before.at v) all;
    } where
      none_before : (n : ℕ) → 0 + n ≡ n
      none_before n = omega arith

module _ (passes : ℕ) (old now : ServerState) (before so_far : Making) (here : HaveSwept passes old now before so_far)
    (stands : Stands old) where
  same_at : so_far.at ≡ before.at
  same_at = same_turn here.row old now before so_far here.makes stands

  of_turn : (acted : Bool) (next : ServerState) (end : Making) → IsPass acted now next so_far end
      → Makes (names_pass before.at) now next so_far end
  of_turn acted next end pass = subst (λ (a : At). Makes (names_pass a) now next so_far end) same_at pass.makes

  -- one acted
  pub swept_more : (next : ServerState) (end : Making) → IsPass true now next so_far end → KeepsDisk now.store next.store
      → HaveSwept (passes + 1) old next before end
  swept_more next end pass disk =
      record {
        row = λ v. follow v (here.row v) (names_pass before.at);
        makes = makes_then here.row (names_pass before.at) old now next before so_far end here.makes (of_turn true next end pass);
        disk = record { batches = disk.batches ∙ here.disk.batches; faults = disk.faults ∙ here.disk.faults };
        left = λ v more shows count.
            let w = turn v (here.row v) in
            let so_many : passes + suc more ≡ length old.requests + 1 = one_later passes more ∙ count in
            here.left v (suc more) shows so_many
            ∙ ap (λ (es : List Entry). here.row v ++ es) (sweep_acted more before.at w (sym (pass.one w (here.makes.shows v shows))))
            ∙ sym (append_assoc (here.row v) (names_pass before.at w) (row_sweep more before.at (turn w (names_pass before.at w))))
            ∙ ap (λ (x : Target). (here.row v ++ names_pass before.at w) ++ row_sweep more before.at x)
            (sym (turn_more v (here.row v) (names_pass before.at w)));
      } where
        one_later : (n m : ℕ) → n + suc m ≡ n + 1 + m
        one_later n m = omega arith

  -- none did
  pub swept_ended : (next : ServerState) (end : Making) → IsPass false now next so_far end → passes < length old.requests
      → Makes (names_go before.at) old next before end
  swept_ended next end pass less =
      makes_as (λ v. follow v (here.row v) (names_pass before.at)) (names_go before.at) old next before end
      (λ v shows.
      let w = turn v (here.row v) in
      let more : ℕ = length old.requests - passes in
      let so_many : passes + suc more ≡ length old.requests + 1 = rest_of passes (length old.requests) less in
      sym (here.left v (suc more) shows so_many
      ∙ ap (λ (es : List Entry). here.row v ++ es) (sweep_ended more before.at w (sym (pass.one w (here.makes.shows v shows))))))
      (makes_then here.row (names_pass before.at) old now next before so_far end here.makes (of_turn false next end pass))
    where
      rest_of : (n m : ℕ) → n < m → n + suc (m - n) ≡ m + 1
      rest_of n m less = omega arith

  -- no number was left in it
  pub swept_over : passes ≤ length old.requests → Overruns (names_pass so_far.at) now → Overruns (names_go before.at) old
  swept_over within over =
      let more : ℕ = length old.requests - passes in
      over_as (λ v. follow v (here.row v) (row_sweep (suc more) before.at)) (names_go before.at) old
      (λ v shows. sym (here.left v (suc more) shows (rest_of passes (length old.requests) within)))
      (over_then here.row (row_sweep (suc more) before.at) old now before so_far here.makes
      (over_sweep more before.at now (subst (λ (a : At). Overruns (names_pass a) now) same_at over)))
    where
      rest_of : (n m : ℕ) → n ≤ m → n + suc (m - n) ≡ m + 1
      rest_of n m within = omega (arith, within)

  -- it was the last one
  pub swept_all : (acted : Bool) (next : ServerState) (end : Making) → IsPass acted now next so_far end → passes ≡ length old.requests
      → Makes (names_go before.at) old next before end
  swept_all acted next end pass all =
      makes_as (λ v. follow v (here.row v) (names_pass before.at)) (names_go before.at) old next before end
      (λ v shows.
      let w = turn v (here.row v) in
      sym (here.left v 1 shows (ap (λ n. n + 1) all) ∙ ap (λ (es : List Entry). here.row v ++ es) (sweep_last before.at w)))
      (makes_then here.row (names_pass before.at) old now next before so_far end here.makes (of_turn acted next end pass))

pub at_the_end : (n end : ℕ) → n ≤ end → end ≤ n → n ≡ end
at_the_end n end below past = omega arith

pub below_so : (n m : ℕ) → n < m → n ≤ m
below_so n m less = omega (arith, less)
