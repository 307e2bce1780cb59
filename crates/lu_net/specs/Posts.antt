-- The messages that were posted, each spent or not, in the order of their numbers, which count from 1
-- (this project's profile).
use Rattle.std.specs.Prelude.{◌≡◌, ℕ, zero, suc, ◌-◌, Bool, true, false, not, List, Option, Some, None, IsSomeAnd, slice_get, slice_set}
use Rattle.std.specs.Prelude.{position, option_map}
use Rattle.lu_net.specs.declared.links.Posted.{Posted}
use Rattle.lu_net.specs.declared.links.Sent.{Sent}

-- What was posted under this number.
abbrev pub post_at : List Posted → ℕ → Option Posted
post_at posts zero = None
post_at posts (suc place) = slice_get posts place

-- The message that was posted under this number.
abbrev pub sent_at : List Posted → ℕ → Option Sent
sent_at posts number = option_map (λ post. post.sent) (post_at posts number)

-- A message that isn't spent was posted under this number.
abbrev pub IsUnspent : List Posted → ℕ → Type 0
IsUnspent posts number = IsSomeAnd (post_at posts number) (λ post. post.spent ≡ false)

-- The least number that isn't spent.
abbrev pub is_unspent : Posted → Bool
is_unspent post = not post.spent

abbrev pub least_unspent : List Posted → Option ℕ
least_unspent posts = option_map suc (position is_unspent posts)

-- The messages once this one is spent; the same where none was posted under the number.
abbrev pub spend : List Posted → ℕ → List Posted
spend posts number = found (post_at posts number) where
  found : Option Posted → List Posted
  found None = posts
  found (Some post) = slice_set posts (number - 1) (record post { spent = true })
