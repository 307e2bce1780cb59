-- Topics and cookies as keys.
use Rattle.std.proofs.Common.{◌≡◌, ℕ, ◌==◌, ◌&&◌, Bool, true, false, refl, sym, ap, subst, ◌∙◌, arith}
use Rattle.std.proofs.lemmas.Bool.Decides.{nat_tests}
use Rattle.std.specs.Cmp.{IsEquivalence}
use Rattle.lu_base.specs.declared.ids.Cookie.{Cookie}
use Rattle.lu_cache.specs.declared.topics.Topic.{Topic}
use Rattle.lu_cache.specs.declared.topics.Topic.TheVariants.{Name, List as Names, Attr, Layout}
use Rattle.lu_cache.specs.declared.facts.Fact.{Fact}
use Rattle.lu_cache.specs.contracts.topics.TopicEq.TheImpl.Laws.{laws-law}
use Rattle.lu_spec_client.specs.Known.{same_part}
use Rattle.lu_cache.specs.Topics.{same_topic, part_of}
use Rattle.lu_cache.specs.Logs.{is_about}

pub laws : IsEquivalence same_topic
laws = laws-law

pub same_self : (t : Topic) → same_topic t t ≡ true
same_self t = laws.refl t

pub same_turned : (t u : Topic) → same_topic t u ≡ same_topic u t
same_turned t u = by (same_topic t u) (same_topic u t) refl refl where
  by : (v w : Bool) → same_topic t u ≡ v → same_topic u t ≡ w → v ≡ w
  by true true e f = refl
  by false false e f = refl
  by true false e f = sym (same_self t) ∙ laws.congr t u t e ∙ f
  by false true e f = sym e ∙ sym (laws.congr u t u f) ∙ same_self u

pub same_parts : (t u : Topic) → same_part (part_of t) (part_of u) ≡ same_topic t u
same_parts (Name d n) (Name e m) = refl
same_parts (Names d) (Names e) = refl
same_parts (Attr f) (Attr g) = refl
same_parts (Layout f) (Layout g) = refl
same_parts _ _ = refl

pub cookie_is : (c d : Cookie) → (c.0 == d.0) ≡ true → c ≡ d
cookie_is c d same = let e : c.0 ≡ d.0 = grind (arith, nat_tests) in ap (λ n. record { 0 = n }) e

-- about the same as a fact is about what that is about
pub about_same : (t : Topic) (c : Cookie) (f g : Fact) → is_about t c f ≡ true → is_about t c g ≡ is_about f.topic f.cookie g
about_same t c f g about = by (same_topic f.topic t) refl (f.cookie.0 == c.0) refl about where
  by : (v : Bool) → same_topic f.topic t ≡ v → (w : Bool) → (f.cookie.0 == c.0) ≡ w → (v && w) ≡ true → is_about t c g
      ≡ is_about f.topic f.cookie g
  by true e true h both =
      let topics : same_topic g.topic t ≡ same_topic g.topic f.topic = same_turned g.topic t ∙ sym (laws.congr f.topic t g.topic e)
      ∙ same_turned f.topic g.topic in
      let cookies : f.cookie ≡ c = cookie_is f.cookie c h in
      ap (λ v. v && g.cookie.0 == c.0) topics ∙ ap (λ (d : Cookie). same_topic g.topic f.topic && g.cookie.0 == d.0) (sym cookies)
  by true e false h both = absurd (cc)
  by false e w h both = absurd (cc)
