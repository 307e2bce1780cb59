-- Where the first message stands that isn't spent, and what a post and a spending do to it.
use Rattle.std.proofs.Common.{◌≡◌, ℕ, zero, suc, ◌+◌, ◌-◌, ◌<◌, ◌≤◌, Bool, true, false, not, List, [], ◌∷◌, length, get_or, Option, Some}
use Rattle.std.proofs.Common.{None, refl, ap, subst, add-one, arith, inl, inr}
use Rattle.std.specs.List.{slice_get, position_or_len}
use Rattle.std.specs.Prelude.{slice_set, IsSomeAnd}
use Rattle.std.proofs.lemmas.Grind.{common_steps}
use Rattle.std.proofs.lemmas.Option.{gets, slice_get_within, get_or_from_slice_get}
use Rattle.std.proofs.lemmas.Bool.{cases_lt}
use Rattle.std.proofs.lemmas.List.Sums.{fails_before_first, passes_at_first, prefix_len-le-length}
use Rattle.lu_net.specs.declared.links.Posted.{Posted}
use Rattle.lu_net.specs.Posts.{is_unspent, IsUnspent, spend}

-- where the first message stands that isn't spent
abbrev pub mark : List Posted → ℕ
mark posts = position_or_len is_unspent posts

pub mark_within : (posts : List Posted) → mark posts ≤ length posts
mark_within posts = prefix_len-le-length (λ post. not (is_unspent post)) posts

not_false : (b : Bool) → not b ≡ false → b ≡ true
not_false true e = refl
not_false false e = cc

not_true : (b : Bool) → not b ≡ true → b ≡ false
not_true true e = cc
not_true false e = refl

-- before the mark all are spent
pub spent_before : (posts : List Posted) (place : ℕ) (post : Posted) → slice_get posts place ≡ Some post → place < mark posts → post.spent
    ≡ true
spent_before posts place post found before =
    let fails = fails_before_first is_unspent posts place post before in
    let same : get_or posts place post ≡ post = get_or_from_slice_get posts place post post found in
    not_false post.spent (rw same at fails)

-- at the mark one isn't
pub unspent_at_mark : (posts : List Posted) (post : Posted) → slice_get posts (mark posts) ≡ Some post → post.spent ≡ false
unspent_at_mark posts post found =
    let within : mark posts < length posts = slice_get_within posts (mark posts) post found in
    let passes = passes_at_first is_unspent posts post within in
    let same : get_or posts (mark posts) post ≡ post = get_or_from_slice_get posts (mark posts) post post found in
    not_true post.spent (rw same at passes)

-- from a place before which all are spent the mark is reached by steps over spent ones
pub further : (posts : List Posted) (place : ℕ) (post : Posted) → place ≤ mark posts → slice_get posts place ≡ Some post → post.spent ≡ true
    → place + 1 ≤ mark posts
further posts place post below found spent =
    elim (cases_lt place (mark posts)) [
      | inl before ↦ omega arith
      | inr after ↦
          let e : place ≡ mark posts = omega arith in
          let unspent : post.spent ≡ false = unspent_at_mark posts post (subst (λ k. slice_get posts k ≡ Some post) e found) in
          absurd (cc)
    ]

pub here : (posts : List Posted) (place : ℕ) (post : Posted) → place ≤ mark posts → slice_get posts place ≡ Some post → post.spent ≡ false
    → place ≡ mark posts
here posts place post below found unspent =
    elim (cases_lt place (mark posts)) [
      | inl before ↦
          let spent : post.spent ≡ true = spent_before posts place post found before in
          absurd (cc)
      | inr after ↦ omega arith
    ]

pub past : (posts : List Posted) (place : ℕ) → place ≤ mark posts → slice_get posts place ≡ None → length posts ≡ mark posts
past posts place below found =
    elim (cases_lt place (length posts)) [
      | inl before ↦ absurd (grind (arith, common_steps, gets))
      | inr after ↦ omega (arith, mark_within posts)
    ]

-- spending moves the mark up or leaves it
pub mark_rises : (posts : List Posted) (place : ℕ) (post : Posted) → post.spent ≡ true → mark posts ≤ mark (slice_set posts place post)
mark_rises [] place post spent = omega arith
mark_rises (first ∷ rest) zero post spent = grind (arith, common_steps)
mark_rises (first ∷ rest) (suc place) post spent = grind (arith, common_steps, mark_rises rest place post spent)

-- what is posted at a place and isn't spent
unspent_at : (posts : List Posted) (place : ℕ) → IsSomeAnd (slice_get posts place) (λ post. post.spent ≡ false) → (mark posts ≤ place)
    × (place < length posts)
unspent_at posts place unspent = by (slice_get posts place) refl unspent where
  by : (found : Option Posted) → slice_get posts place ≡ found → IsSomeAnd found (λ post. post.spent ≡ false) → (mark posts ≤ place)
      × (place < length posts)
  by None e h = absurd h
  by (Some post) e h =
      elim (cases_lt place (mark posts)) [
        | inl before ↦
            let spent : post.spent ≡ true = spent_before posts place post e before in
            absurd (cc)
        | inr after ↦ (after, slice_get_within posts place post e)
      ]

-- a number that isn't spent is above the mark, and one of those posted
pub above_mark : (posts : List Posted) (number : ℕ) → IsUnspent posts number → mark posts + 1 ≤ number
above_mark posts zero h = absurd h
above_mark posts (suc place) h = let at : mark posts ≤ place = (unspent_at posts place h).0 in omega arith

pub number_within : (posts : List Posted) (number : ℕ) → IsUnspent posts number → number ≤ length posts
number_within posts zero h = absurd h
number_within posts (suc place) h = let at : place < length posts = (unspent_at posts place h).1 in omega arith

pub unspent_after_mark : (posts : List Posted) → mark posts < length posts → IsUnspent posts (mark posts + 1)
unspent_after_mark posts within = rw add-one (by (slice_get posts (mark posts)) refl) where
  by : (found : Option Posted) → slice_get posts (mark posts) ≡ found → IsSomeAnd found (λ post. post.spent ≡ false)
  by None e = absurd (grind (arith, common_steps, gets))
  by (Some post) e = unspent_at_mark posts post e

-- where the mark is past the last, all are spent
pub none_unspent : (posts : List Posted) → length posts ≤ mark posts → (number : ℕ) → IsUnspent posts number → ⊥
none_unspent posts past number unspent =
    let above : mark posts + 1 ≤ number = above_mark posts number unspent in
    let within : number ≤ length posts = number_within posts number unspent in
    omega arith

-- what `spend` gives where a message was posted
pub spend_found : (posts : List Posted) (place : ℕ) (post : Posted) → slice_get posts place ≡ Some post
    → slice_set posts place (record { sent = post.sent; spent = true }) ≡ spend posts (place + 1)
spend_found posts place post found =
    let e : place ≡ suc place - 1 = omega arith in
    rw (add-one, found) (ap (λ k. slice_set posts k (record { sent = post.sent; spent = true })) e)
