-- The requests in flight: what a line makes of them, and that the law's condition lasts.
use Rattle.std.proofs.Common.{◌≡◌, ◌≢◌, ℕ, ◌<◌, ◌≤◌, Bool, true, false, List, [], ◌∷◌, length, filter, map, Option, Some, None, rules, refl}
use Rattle.std.proofs.Common.{sym, ap, subst, ◌∙◌, arith}
use Rattle.std.specs.List.{insert, list_any}
use Rattle.std.proofs.lemmas.Bool.Decides.{nat_tests}
use Rattle.std.specs.Prelude.{◌==◌, ◌&&◌, ◌||◌, not, nat_lt, if◌then◌else◌, IsTrue, ◌↔◌}
use Rattle.std.proofs.lemmas.Bool.{eqb-true, or_from}
use Rattle.lu_base.specs.declared.ids.At.{At}
use Rattle.lu_base.specs.declared.ids.Node.{Node}
use Rattle.lu_base.specs.declared.ids.Node.TheVariants.{Client, Target}
use Rattle.lu_base.specs.declared.ids.Who.{Who}
use Rattle.lu_msg.specs.declared.messages.Request.{Request as RequestOf}
use Rattle.lu_msg.specs.declared.messages.Message.{Message}
use Rattle.lu_msg.specs.declared.messages.Message.TheVariants.{Request}
use Rattle.lu_msg.specs.Limits.{tag_count}
use Rattle.lu_spec_machine.specs.Footprint.{Every}
use Rattle.lu_spec_machine.specs.Tree.{same_life}
use Rattle.lu_spec_laws.specs.Words.Pasts.{Past}
use Rattle.lu_spec_laws.specs.Words.Lives.{who_is, is_by}
use Rattle.lu_spec_laws.specs.Words.Requests.{has_number, without_number, in_flight, same_object}
use Rattle.lu_trace.specs.declared.entries.Entry.{Entry}
use Rattle.lu_trace.specs.declared.entries.Entry.TheVariants.{Send, Heard}
use Rattle.lu_trace.specs.declared.entries.Line.{Line}
use Rattle.lu_spec_laws.specs.Laws.Acts.{Pairwise, SendsAt, ActsAt}
use Rattle.lu_spec_laws.proofs.Tests.{clash, refuted, settled, first_of, rest_of, life_is}
use Rattle.lu_judge_calls.specs.Tables.{is_life}
use Rattle.lu_judge_calls.proofs.Steps.{own_life}
use Rattle.lu_judge_acts.specs.Flying.{Flies, FitsIn, AllFly}
use Rattle.lu_judge_acts.specs.Tables.{is_at, listed}

-- what is said of a life at a target, where it is this one
same_at : {A : Type 0} (f : ℕ → Who → A) (u : ℕ) (w : Who) (t : ℕ) (who : Who) → is_at u w t who ≡ true → f u w ≡ f t who
same_at f u w t who e = ap (λ (v : Who). f u v) (life_is w who (rest_of _ _ e)) ∙ ap (λ (v : ℕ). f v who) (eqb-true u t (first_of _ _ e))

pub of_at : {A : Type 0} (f g : ℕ → Who → A) (u : ℕ) (w : Who) (t : ℕ) (who : Who) → (if is_at u w t who then f u w else g t who)
    ≡ (if is_at u w t who then f t who else g t who)
of_at f g u w t who = by (is_at u w t who) refl where
  by : (it : Bool) → is_at u w t who ≡ it → (if it then f u w else g t who) ≡ (if it then f t who else g t who)
  by true e = same_at f u w t who e
  by false e = refl

if_same : {A : Type 0} (b : Bool) (x : A) → (if b then x else x) ≡ x
if_same true x = refl
if_same false x = refl

-- nothing changes where what is said there is said already
pub at_kept : {A : Type 0} (f : ℕ → Who → A) (u : ℕ) (w : Who) (t : ℕ) (who : Who) → f t who ≡ (if is_at u w t who then f u w else f t who)
at_kept f u w t who = sym (of_at f f u w t who ∙ if_same (is_at u w t who) (f t who))

-- ---- a request is sent

with_it : (here adds heard : Bool) (r : RequestOf) (flight : List RequestOf)
    → (if here then (if not adds && not heard then r ∷ flight else flight) else flight)
    ≡ (if (here && not adds) && not heard then r ∷ flight else flight)
with_it true adds heard r flight = refl
with_it false adds heard r flight = refl

pub sent : (flight : ℕ → Who → List RequestOf) (heard : ℕ → Who → ℕ → Bool) (u t : ℕ) (r : RequestOf) (who : Who)
    → (if is_at u r.who t who then (if not (has_number r.xid.0 (flight u r.who)) && not (heard u r.who r.xid.0) then r ∷ flight u r.who
    else flight u r.who) else flight t who)
    ≡ (if ((u == t && same_life r.who who) && not (has_number r.xid.0 (flight t who))) && not (heard t who r.xid.0) then r ∷ flight t who
    else flight t who)
sent flight heard u t r who =
    of_at (λ v w. if not (has_number r.xid.0 (flight v w)) && not (heard v w r.xid.0) then r ∷ flight v w else flight v w) flight u r.who t
    who
    ∙ with_it (is_at u r.who t who) (has_number r.xid.0 (flight t who)) (heard t who r.xid.0) r (flight t who)

-- ---- a reply is heard

flip : (a b : Bool) → (a && b) ≡ (b && a)
flip true true = refl
flip true false = refl
flip false true = refl
flip false false = refl

at_own : (c u t : ℕ) (own who : Who) (past : Past) (at : At) → at.node ≡ Client c → own ≡ who_is c past → is_at u own t who
    ≡ (is_by who past at.node && u == t)
at_own c u t own who past at node is = flip (u == t) (is_life own who) ∙ ap (λ (b : Bool). b && u == t) (own_life c own who past at node is)

pub heard_flight : (flight : ℕ → Who → List RequestOf) (c u t x : ℕ) (own who : Who) (past : Past) (at : At) → at.node ≡ Client c → own
    ≡ who_is c past
    → (if is_at u own t who then without_number x (flight u own) else flight t who)
    ≡ (if is_by who past at.node && u == t then without_number x (flight t who) else flight t who)
heard_flight flight c u t x own who past at node is =
    of_at (λ v w. without_number x (flight v w)) flight u own t who
    ∙ ap (λ (b : Bool). if b then without_number x (flight t who) else flight t who) (at_own c u t own who past at node is)

pub heard_reply : (c u t y x : ℕ) (own who : Who) (past : Past) (at : At) (old new notion : Bool) → at.node ≡ Client c → own ≡ who_is c past
    → new ≡ (if is_at u own t who && y == x then true else old) → old ≡ notion
    → new ≡ (((is_by who past at.node && u == t) && y == x) || notion)
heard_reply c u t y x own who past at old new notion node is puts shown =
    rw (puts, at_own c u t own who past at node is, shown) (by ((is_by who past at.node && u == t) && y == x)) where
      by : (b : Bool) → (if b then true else notion) ≡ (b || notion)
      by true = refl
      by false = refl

-- ---- the law's condition

pub flies_with : (t : ℕ) (r : RequestOf) (flight : List RequestOf) → Flies t flight → FitsIn t r flight → Flies t (r ∷ flight)
flies_with t r flight flies fits = record {
  most = grind (arith, fits.most);
  tags = (fits.tags, flies.tags);
  objects = λ some. (fits.objects some, flies.objects some);
}

pub fits_with : (t : ℕ) (r : RequestOf) (flight : List RequestOf) → Flies t (r ∷ flight) → FitsIn t r flight
fits_with t r flight flies = record {
  most = grind (arith, flies.most);
  tags = flies.tags.0;
  objects = λ some. (flies.objects some).0;
}

-- ---- it lasts

every_filter : {A : Type 0} (P : A → Type 0) (p : A → Bool) (xs : List A) → Every P xs → Every P (filter p xs)
every_filter P p [] all = tt
every_filter {A} P p (x ∷ xs) all = by (p x) (every_filter P p xs all.1) where
  by : (b : Bool) → Every P (filter p xs) → Every P (if b then x ∷ filter p xs else filter p xs)
  by true rest = (all.0, rest)
  by false rest = rest

pair_filter : {A : Type 0} (R : A → A → Type 0) (p : A → Bool) (xs : List A) → Pairwise R xs → Pairwise R (filter p xs)
pair_filter R p [] all = tt
pair_filter {A} R p (x ∷ xs) all = by (p x) (every_filter (R x) p xs all.0) (pair_filter R p xs all.1) where
  by : (b : Bool) → Every (R x) (filter p xs) → Pairwise R (filter p xs) → Pairwise R (if b then x ∷ filter p xs else filter p xs)
  by true one rest = (one, rest)
  by false one rest = rest

filter_up_to : {A : Type 0} (p : A → Bool) (xs : List A) → length (filter p xs) ≤ length xs
filter_up_to p [] = omega arith
filter_up_to {A} p (x ∷ xs) = by (p x) (filter_up_to p xs) where
  by : (b : Bool) → length (filter p xs) ≤ length xs → length (if b then x ∷ filter p xs else filter p xs) ≤ length (x ∷ xs)
  by true rest = grind (arith, rest)
  by false rest = grind (arith, rest)

flies_filter : (t : ℕ) (p : RequestOf → Bool) (flight : List RequestOf) → Flies t flight → Flies t (filter p flight)
flies_filter t p flight flies = record {
  most = let up = filter_up_to p flight in grind (arith, up, flies.most);
  tags = pair_filter (λ one other. one.tag ≢ other.tag) p flight flies.tags;
  objects = λ some. pair_filter (λ one other. same_object one other ≡ false) p flight (flies.objects some);
}

flies_either : (t : ℕ) (b : Bool) (one other : List RequestOf) → Flies t one → Flies t other → Flies t (if b then one else other)
flies_either t true one other a b = a
flies_either t false one other a b = b

sends_fly : (past : Past) (at : At) (number : ℕ) (to : Node) (message : Message)
    → SendsAt past (record { at = at; entry = Send number to message }) to message → AllFly past
    → AllFly (record { at = at; entry = Send number to message } ∷ past)
sends_fly past at number (Target u) (Request r) law fly t who = by (is_at u r.who t who) refl where
  after : ℕ → Who → List RequestOf
  after v w = in_flight v w (record { at = at; entry = Send number (Target u) (Request r) } ∷ past)

  by : (it : Bool) → is_at u r.who t who ≡ it → Flies t (after t who)
  by true e =
      let flies : Flies u (after u r.who) = record { most = law.most; tags = law.tags; objects = law.objects } in
      subst (λ (k : ℕ). Flies k (after t who)) (eqb-true u t (first_of _ _ e))
      (subst (λ (flight : List RequestOf). Flies u flight) (same_at after u r.who t who e) flies)
  by false e = rw e (fly t who)
sends_fly past at number (Target u) _ law fly t who = fly t who
sends_fly past at number (Client c) (Request r) law fly t who = fly t who
sends_fly past at number (Client c) _ law fly t who = fly t who

pub all_fly : (out : Who → Bool) (lost : ℕ → ℕ → Bool) (whole past : Past) (at : At) (e : Entry) (later : List Line)
    → ActsAt out lost whole past (record { at = at; entry = e }) later e → AllFly past → AllFly (record { at = at; entry = e } ∷ past)
all_fly out lost whole past at (Send number to message) later law fly = sends_fly past at number to message law fly
all_fly out lost whole past at (Heard target xid) later law fly = λ t who.
    flies_either t (is_by who past at.node && target.0 == t) _ _
    (flies_filter t (λ r. not (r.xid.0 == xid.0)) (in_flight t who past) (fly t who)) (fly t who)
all_fly out lost whole past at _ later law fly = fly

-- ---- a list of requests is taken out, and put back

pub list_none : {A B : Type 0} (list : A → List B) (here : Bool) (new old : Option A) → new ≡ (if here then None else old) → listed list new
    ≡ (if here then [] else listed list old)
list_none list true new old is = rw is refl
list_none list false new old is = rw is refl

pub list_some : {A B : Type 0} (list : A → List B) (here : Bool) (a : A) (new old : Option A) → new ≡ (if here then Some a else old)
    → listed list new ≡ (if here then list a else listed list old)
list_some list true a new old is = rw is refl
list_some list false a new old is = rw is refl

pub put_back : {A : Type 0} (here : Bool) (new put wanted taken old none : A) → new ≡ (if here then put else taken) → taken
    ≡ (if here then none else old) → put ≡ wanted
    → new ≡ (if here then wanted else old)
put_back true new put wanted taken old none puts takes is = puts ∙ is
put_back false new put wanted taken old none puts takes is = puts ∙ takes

pub insert_front : {A : Type 0} (xs : List A) (x : A) → insert xs 0 x ≡ x ∷ xs
insert_front xs x = search rules

pub map_filter : {A B : Type 0} (f : A → B) (p : B → Bool) (xs : List A) → map f (filter (λ x. p (f x)) xs) ≡ filter p (map f xs)
map_filter f p [] = refl
map_filter {A} {B} f p (x ∷ xs) = by (p (f x)) (map_filter f p xs) where
  by : (b : Bool) → map f (filter (λ x. p (f x)) xs) ≡ filter p (map f xs)
      → map f (if b then x ∷ filter (λ x. p (f x)) xs else filter (λ x. p (f x)) xs)
      ≡ (if b then f x ∷ filter p (map f xs) else filter p (map f xs))
  by true is = ap (λ (ys : List B). f x ∷ ys) is
  by false is = is

-- ---- nothing is added

pub none_added : {A : Type 0} (f : ℕ → Who → A) (u : ℕ) (w : Who) (t : ℕ) (who : Who) (adds : Bool) (more : A) → adds ≡ false → f t who
    ≡ (if is_at u w t who then (if adds then more else f u w) else f t who)
none_added f u w t who adds more is = rw is (at_kept f u w t who)

pub fly_none : (t : ℕ) (r : RequestOf) (flight : List RequestOf) (adds so : Bool) → adds ≡ false → so ≡ true → Flies t flight → IsTrue so
    ↔ Flies t (if adds then r ∷ flight else flight)
fly_none t r flight adds so is so_is flies = rw is (λ given. flies, λ given. so_is)

pub fly_one : (t : ℕ) (r : RequestOf) (flight : List RequestOf) (adds fits : Bool) → adds ≡ true → Flies t flight → IsTrue fits
    ↔ FitsIn t r flight → IsTrue fits ↔ Flies t (if adds then r ∷ flight else flight)
fly_one t r flight adds fits is flies fit = rw is (λ so. flies_with t r flight flies (fit.0 so), λ so. fit.1 (fits_with t r flight so))

-- ---- a message

pub to_client : (t : ℕ) (who : Who) (past : Past) (at : At) (number c : ℕ) (message : Message)
    → in_flight t who (record { at = at; entry = Send number (Client c) message } ∷ past) ≡ in_flight t who past
to_client t who past at number c (Request r) = refl
to_client t who past at number c _ = refl

-- ---- one more fits

none_every : {A : Type 0} (p : A → Bool) (P : A → Type 0) → ((a : A) → p a ≡ false → P a) → (xs : List A) → list_any p xs ≡ false
    → Every P xs
none_every p P is [] none = tt
none_every {A} p P is (x ∷ xs) none = by (p x) refl (none_every p P is xs) none where
  by : (b : Bool) → p x ≡ b → (list_any p xs ≡ false → Every P xs) → (b || list_any p xs) ≡ false → P x × Every P xs
  by true e rest none = absurd (cc)
  by false e rest none = (is x e, rest none)

every_none : {A : Type 0} (p : A → Bool) (P : A → Type 0) → ((a : A) → P a → p a ≡ false) → (xs : List A) → Every P xs → list_any p xs
    ≡ false
every_none p P is [] every = refl
every_none p P is (x ∷ xs) every = or_from (p x) (list_any p xs) (is x every.0) (every_none p P is xs every.1)

other_tag : (a b : ℕ) → (b == a) ≡ false → a ≢ b
other_tag a b is = grind (arith, nat_tests)

tag_other : (a b : ℕ) → a ≢ b → (b == a) ≡ false
tag_other a b is = grind (arith, nat_tests)

some_target : (t : ℕ) → 0 < t → (t == 0) ≡ false
some_target t some = grind (arith, nat_tests)

zero_target : (t : ℕ) → (t == 0) ≡ true → 0 < t → ⊥
zero_target t is some = clash (t == 0) is (some_target t some)

fits_full : (n : ℕ) → nat_lt n tag_count ≡ true → n < tag_count
fits_full n is = grind (arith, nat_tests)

full_fits : (n : ℕ) → n < tag_count → nat_lt n tag_count ≡ true
full_fits n is = grind (arith, nat_tests)

three : (a b c : Bool) → (a && (not b && c)) ≡ true → (a ≡ true) × (b ≡ false) × (c ≡ true)
three true false true e = (refl, refl, refl)
three true false false e = absurd (cc)
three true true c e = absurd (cc)
three false b c e = absurd (cc)

objects_of : (t : ℕ) (r : RequestOf) (flight : List RequestOf) → ((t == 0) || not (list_any (same_object r) flight)) ≡ true → 0 < t
    → Every (λ other. same_object r other ≡ false) flight
objects_of t r flight so some =
    none_every (same_object r) (λ other. same_object r other ≡ false) (λ other differs. differs) flight
    (refuted (list_any (same_object r) flight) (ap (λ (b : Bool). b || not (list_any (same_object r) flight)) (sym (some_target t some))
    ∙ so))

above : (t : ℕ) → (t == 0) ≡ false → 0 < t
above t e = grind (arith, nat_tests)

of_objects : (t : ℕ) (r : RequestOf) (flight : List RequestOf) → (0 < t → Every (λ other. same_object r other ≡ false) flight)
    → ((t == 0) || not (list_any (same_object r) flight)) ≡ true
of_objects t r flight law = by (t == 0) refl where
  by : (b : Bool) → (t == 0) ≡ b → (b || not (list_any (same_object r) flight)) ≡ true
  by true e = refl
  by false e = settled (list_any (same_object r) flight) (every_none (same_object r) (λ other. same_object r other ≡ false)
      (λ other differs. differs) flight (law (above t e)))

pub fits_by : (t : ℕ) (r : RequestOf) (flight : List RequestOf) (full tag object result : Bool) → full
    ≡ not (nat_lt (length flight) tag_count) → tag ≡ list_any (λ other. other.tag == r.tag) flight
    → object ≡ list_any (same_object r) flight → result ≡ (not full && (not tag && ((t == 0) || not object))) → IsTrue result
    ↔ FitsIn t r flight
fits_by t r flight full tag object result is_full is_tag is_object same = (
  λ so.
      let all = three (not full) tag ((t == 0) || not object) (sym same ∙ so) in
      record {
        most = fits_full (length flight) (twice (nat_lt (length flight) tag_count) (ap not (sym is_full) ∙ all.0));
        tags = none_every (λ other. other.tag == r.tag) (λ other. r.tag ≢ other.tag) (λ other differs. other_tag r.tag other.tag differs)
            flight (sym is_tag ∙ all.1);
        objects = objects_of t r flight (ap (λ (b : Bool). (t == 0) || not b) (sym is_object) ∙ all.2);
      },
  λ law.
      let most : full ≡ false = is_full ∙ ap not (full_fits (length flight) law.most) in
      let tags : tag ≡ false = is_tag ∙ every_none (λ other. other.tag == r.tag) (λ other. r.tag ≢ other.tag)
      (λ other other_is. tag_other r.tag other.tag other_is) flight law.tags in
      same ∙ rw (most, tags) (ap (λ (b : Bool). (t == 0) || not b) is_object ∙ of_objects t r flight law.objects),
) where
  twice : (b : Bool) → not (not b) ≡ true → b ≡ true
  twice true e = refl
  twice false e = absurd (cc)

pub none_fly : AllFly []
none_fly = λ t who. record { most = omega arith; tags = tt; objects = λ some. tt }

pub adds_one : (adds : Bool) (r : RequestOf) (flight : List RequestOf) → adds ≡ true → r ∷ flight ≡ (if adds then r ∷ flight else flight)
adds_one adds r flight is = rw is refl

pub fits_none : (t : ℕ) (r : RequestOf) → FitsIn t r []
fits_none t r = record { most = omega arith; tags = tt; objects = λ some. tt }
