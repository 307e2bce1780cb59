-- The notes of some lives lead to all resources on which they have locks.
use Rattle.std.proofs.Common.{◌≡◌, ℕ, ◌+◌, ◌<◌, Bool, true, false, cond, ◌||◌, List, [], ◌∷◌, ◌++◌, length, take, filter, get_or}
use Rattle.std.proofs.Common.{refl, sym, ◌∙◌, ap, subst, arith}
use Rattle.std.specs.List.{list_any}
use Rattle.std.specs.BTreeMap.{is_at}
use Rattle.std.specs.BTreeMap.Range.{range_contains}
use Rattle.std.specs.declared.ops.Bound.TheVariants.{Included, Excluded, Unbounded}
use Rattle.std.proofs.lemmas.Bool.Decides.{nat_tests}
use Rattle.std.proofs.lemmas.Grind.{common_steps}
use Rattle.std.proofs.lemmas.List.{take_more}
use Rattle.std.proofs.lemmas.List.Folds.{list_any-append}
use Rattle.std.proofs.lemmas.Map.Views.{any-filter_same}
use Rattle.lu_base.specs.declared.ids.Who.{Who}
use Rattle.lu_base.specs.declared.locks.Resource.{Resource}
use Rattle.lu_queue.specs.declared.locks.Grant.{Grant}
use Rattle.lu_queue.specs.Queues.{QueueState, same_who, is_of, has_of}
use Rattle.lu_lockspace.specs.declared.stays.Stay.{Stay}
use Rattle.lu_lockspace.specs.Spaces.{same_resource}
use Rattle.lu_lockspace.specs.Entries.{Entries, order, at}
use Rattle.lu_lockspace.specs.Notes.{stay, stay_order, is_noted, is_waited, AllNoted, AllListed, AreNoted}
use Rattle.lu_lockspace.proofs.Notes.{stay_is, is_stay, both, or_left, or_right, life_turned, same_life}

abbrev pub first : Who → Stay
first who = stay who (record { fid = record { 0 = 0 }; stripe = 0 })

-- the notes of a life are between its first and the next life's
is_between : (who next : Who) (r : Resource) → next.client ≡ who.client → who.life < next.life
    → range_contains stay_order (Included (first who)) (Excluded (first next)) (stay who r) ≡ true
is_between who next r client life = grind (arith, nat_tests, common_steps, client, life)

is_from : (who : Who) (r : Resource) → range_contains stay_order (Included (first who)) Unbounded (stay who r) ≡ true
is_from who r = grind (arith, nat_tests, common_steps)

pub noted_between : (who next : Who) (r : Resource) (stays : List Stay) → next.client ≡ who.client → who.life < next.life →
    is_noted (stay who r) stays ≡ true
    → is_noted (stay who r) (filter (range_contains stay_order (Included (first who)) (Excluded (first next))) stays) ≡ true
noted_between who next r stays client life h =
    any-filter_same (is_at (stay_order (stay who r))) (range_contains stay_order (Included (first who)) (Excluded (first next))) true
    (λ s same. subst (λ k. range_contains stay_order (Included (first who)) (Excluded (first next)) k ≡ true) (stay_is (stay who r) s same)
    (is_between who next r client life)) stays
    ∙ h

pub noted_from : (who : Who) (r : Resource) (stays : List Stay) → is_noted (stay who r) stays ≡ true
    → is_noted (stay who r) (filter (range_contains stay_order (Included (first who)) Unbounded) stays) ≡ true
noted_from who r stays h =
    any-filter_same (is_at (stay_order (stay who r))) (range_contains stay_order (Included (first who)) Unbounded) true
    (λ s same. subst (λ k. range_contains stay_order (Included (first who)) Unbounded k ≡ true) (stay_is (stay who r) s same)
    (is_from who r)) stays
    ∙ h

-- one life more
pub noted_more_lives : (lives : List Who) (i : ℕ) (d : Who) (stays some more : List Stay) → i < length lives →
    AllNoted (take i lives) stays some →
    ((r : Resource) → is_noted (stay (get_or lives i d) r) stays ≡ true → is_noted (stay (get_or lives i d) r) more ≡ true)
    → AllNoted (take (i + 1) lives) stays (some ++ more)
noted_more_lives lives i d stays some more within before added who r one noted =
    list_any-append (is_at (stay_order (stay who r))) some more ∙ by (list_any (same_who who) (take i lives)) refl
    (same_who who (get_or lives i d)) refl whole where
      whole : (list_any (same_who who) (take i lives) || (same_who who (get_or lives i d) || false)) ≡ true
      whole = sym (ap (list_any (same_who who)) (take_more lives i d within)
          ∙ list_any-append (same_who who) (take i lives) (get_or lives i d ∷ [])) ∙ one

      by : (a : Bool) → list_any (same_who who) (take i lives) ≡ a → (b : Bool) → same_who who (get_or lives i d) ≡ b →
          (list_any (same_who who) (take i lives) || (same_who who (get_or lives i d) || false)) ≡ true
          → (is_noted (stay who r) some || is_noted (stay who r) more) ≡ true
      by true e b f h = or_left (is_noted (stay who r) some) (is_noted (stay who r) more) (before who r e noted)
      by false e true f h =
          let is : who ≡ get_or lives i d = same_life who (get_or lives i d) f in
          or_right (is_noted (stay who r) some) (is_noted (stay who r) more)
          (subst (λ w. is_noted (stay w r) stays ≡ true → is_noted (stay w r) more ≡ true) (sym is) (added r) noted)
      by false e false f h = absurd (differ (sym h ∙ (λ j. e j || (f j || false)))) where
        differ : true ≡ false → ⊥
        differ p = cc

-- one note more
pub more_resources : (stays : List Stay) (i : ℕ) (d : Stay) (old new : List Resource) → i < length stays →
    ((r : Resource) → list_any (λ s. same_resource r s.resource) (take i stays) ≡ true → is_waited r old ≡ true) →
    ((r : Resource) → is_waited r new ≡ cond (is_at (order (get_or stays i d).resource) r) true (is_waited r old)) →
    (r : Resource) → list_any (λ s. same_resource r s.resource) (take (i + 1) stays) ≡ true → is_waited r new ≡ true
more_resources stays i d old new within before added r one =
    added r ∙ by (is_at (order (get_or stays i d).resource) r) refl where
      whole : (list_any (λ s. same_resource r s.resource) (take i stays) || (same_resource r (get_or stays i d).resource || false)) ≡ true
      whole = sym (ap (list_any (λ s. same_resource r s.resource)) (take_more stays i d within)
          ∙ list_any-append (λ s. same_resource r s.resource) (take i stays) (get_or stays i d ∷ [])) ∙ one

      turned : same_resource r (get_or stays i d).resource ≡ is_at (order (get_or stays i d).resource) r
      turned = grind (arith, nat_tests, common_steps)

      earlier : (a b : Bool) → b ≡ false → (a || (b || false)) ≡ true → a ≡ true
      earlier true b e h = refl
      earlier false b e h = sym (ap (λ v. v || false) e) ∙ h

      by : (b : Bool) → is_at (order (get_or stays i d).resource) r ≡ b → cond b true (is_waited r old) ≡ true
      by true e = refl
      by false e = before r (earlier (list_any (λ s. same_resource r s.resource) (take i stays))
          (same_resource r (get_or stays i d).resource) (turned ∙ e) whole)

-- ---- the lives of the locks of a queue

one_of : (lives : List Who) (who : Who) → list_any (λ w. same_who w who) lives ≡ true → list_any (same_who who) lives ≡ true
one_of lives who h = turned lives ∙ h where
  turned : (ws : List Who) → list_any (same_who who) ws ≡ list_any (λ w. same_who w who) ws
  turned [] = refl
  turned (w ∷ ws) = λ i. life_turned who w i || turned ws i

same_itself : (who : Who) → same_who who who ≡ true
same_itself who = grind (arith, nat_tests)

some_life : (lives : List Who) (xs : List Grant) → list_any (is_of lives) xs ≡ true →
    (who : Who) × (list_any (same_who who) lives ≡ true) × (list_any (is_of (who ∷ [])) xs ≡ true)
some_life lives [] h = absurd (cc)
some_life lives (x ∷ xs) h = by (is_of lives x) refl h (some_life lives xs) where
  by : (b : Bool) → is_of lives x ≡ b → (b || list_any (is_of lives) xs) ≡ true →
      (list_any (is_of lives) xs ≡ true → (who : Who) × (list_any (same_who who) lives ≡ true) × (list_any (is_of (who ∷ [])) xs ≡ true)) →
      (who : Who) × (list_any (same_who who) lives ≡ true) × (list_any (is_of (who ∷ [])) (x ∷ xs) ≡ true)
  by true e h rest = (
    x.ask.who,
    one_of lives x.ask.who e,
    or_left (is_of (x.ask.who ∷ []) x) (list_any (is_of (x.ask.who ∷ [])) xs) (ap (λ b. b || false) (same_itself x.ask.who)),
  )
  by false e h rest =
      let found = rest h in
      (found.0, found.1, or_right (is_of (found.0 ∷ []) x) (list_any (is_of (found.0 ∷ [])) xs) found.2)

life_of : (lives : List Who) (q : QueueState) → has_of lives q ≡ true →
    (who : Who) × (list_any (same_who who) lives ≡ true) × (has_of (who ∷ []) q ≡ true)
life_of lives q h = by (list_any (is_of lives) q.granted) refl h where
  by : (b : Bool) → list_any (is_of lives) q.granted ≡ b → (b || list_any (is_of lives) q.waiting) ≡ true →
      (who : Who) × (list_any (same_who who) lives ≡ true) × (has_of (who ∷ []) q ≡ true)
  by true e h =
      let found = some_life lives q.granted e in
      (found.0, found.1, or_left (list_any (is_of (found.0 ∷ [])) q.granted) (list_any (is_of (found.0 ∷ [])) q.waiting) found.2)
  by false e h =
      let found = some_life lives q.waiting h in
      (found.0, found.1, or_right (list_any (is_of (found.0 ∷ [])) q.granted) (list_any (is_of (found.0 ∷ [])) q.waiting) found.2)

of_noted : (who : Who) (r : Resource) (stays : List Stay) → is_noted (stay who r) stays ≡ true
    → list_any (λ s. same_resource r s.resource) stays ≡ true
of_noted who r [] h = h
of_noted who r (s ∷ stays) h = by (is_at (stay_order (stay who r)) s) refl h (of_noted who r stays) where
  by : (b : Bool) → is_at (stay_order (stay who r)) s ≡ b → (b || is_noted (stay who r) stays) ≡ true →
      (is_noted (stay who r) stays ≡ true → list_any (λ k. same_resource r k.resource) stays ≡ true)
      → (same_resource r s.resource || list_any (λ k. same_resource r k.resource) stays) ≡ true
  by true e h rest = or_left (same_resource r s.resource) (list_any (λ k. same_resource r k.resource) stays)
      (both (same_who who s.who) (same_resource r s.resource) (sym (is_stay (stay who r) s) ∙ e)).1
  by false e h rest = or_right (same_resource r s.resource) (list_any (λ k. same_resource r k.resource) stays) (rest h)

pub all_listed : (lives : List Who) (es : Entries) (stays some : List Stay) (waited : List Resource) → AreNoted es stays waited
    → AllNoted lives stays some → AllListed lives es some
all_listed lives es stays some waited noted all = λ r h.
    let found = life_of lives (at r es) h in
    of_noted found.0 r some (all found.0 r found.1 (noted.lives found.0 r found.2))
