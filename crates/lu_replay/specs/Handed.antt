-- What lives hand in under numbers after a boot of a target (Lustre Operations Manual, recovery: clients replay requests
-- and locks): one thing for each number of each life, by number and then by life.
use Rattle.std.specs.Prelude.{◌≡◌, ℕ, nat_lt, ◌==◌, ◌&&◌, ◌||◌, if◌then◌else◌, Bool, List, [], ◌∷◌, filter, length, Option, Some, None}
use Rattle.std.specs.List.{list_any}
use Rattle.std.specs.Map.{lookup}
use Rattle.std.specs.Option.{unwrap_or}
use Rattle.std.specs.Ordering.{nat_cmp, is_eq, ordering_then}
use Rattle.lu_base.specs.declared.ids.Who.{Who}
use Rattle.lu_replay.specs.declared.handed.Key.{Key}

-- The same life.
abbrev pub same_life : Who → Who → Bool
same_life a b = a.client == b.client && a.life == b.life

-- Lives are in order by client, and then by life.
abbrev pub life_before : Who → Who → Bool
life_before a b = nat_lt a.client b.client || (a.client == b.client && nat_lt a.life b.life)

abbrev pub same_key : Key → Key → Bool
same_key a b = a.number == b.number && same_life a.who b.who

abbrev pub key_before : Key → Key → Bool
key_before a b = nat_lt a.number b.number || (a.number == b.number && life_before a.who b.who)

-- Something was handed in under this key.
abbrev pub has : {T : Type 0} → Key → List (Key × T) → Bool
has key items = list_any (λ item. same_key item.0 key) items

-- What was handed in once this is too, in its place.
abbrev pub with_item : {T : Type 0} → Key → T → List (Key × T) → List (Key × T)
with_item key item [] = (key, item) ∷ []
with_item key item (first ∷ items) =
    if key_before key first.0 then (key, item) ∷ first ∷ items else first ∷ with_item key item items

-- The first, and the others.
abbrev pub first_of : {T : Type 0} → List T → Option T
first_of [] = None
first_of (item ∷ items) = Some item

abbrev pub rest_of : {T : Type 0} → List T → List T
rest_of [] = []
rest_of (item ∷ items) = items

-- How the code finds a life in its counts.
abbrev pub count_at : List (Who × ℕ) → Who → ℕ
count_at counts who = unwrap_or (lookup (λ key. is_eq (ordering_then (nat_cmp who.client key.client) (nat_cmp who.life key.life))) counts) 0

-- The counts are those of what was handed in.
abbrev pub IsCounted : {T : Type 0} → List (Key × T) → List (Who × ℕ) → Type 0
IsCounted items counts = (who : Who) → count_at counts who ≡ length (filter (λ item. same_life item.0.who who) items)
