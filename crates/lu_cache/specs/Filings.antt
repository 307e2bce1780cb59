-- Numbers that are filed under a key and, below that, under the cookie of a lock.
use Rattle.std.specs.Prelude.{◌≡◌, ℕ, ◌==◌, ◌&&◌, if◌then◌else◌, Bool, List, [], Option, Some, None}
use Rattle.std.specs.declared.cmp.Ordering.{Ordering}
use Rattle.std.specs.Map.{lookup}
use Rattle.std.specs.BTreeMap.{BTreeMap, is_at}
use Rattle.lu_base.specs.declared.ids.Cookie.{Cookie}
use Rattle.lu_base.specs.contracts.ids.CookieOrd.TheImpl as order
use Rattle.lu_cache.specs.declared.filing.Filing.{Filing}

-- cookies in their order
abbrev pub by_cookie : Cookie → Cookie → Ordering
by_cookie = (order.ghosts).cmp

abbrev pub in_row : Option (BTreeMap Cookie ℕ) → Cookie → Option ℕ
in_row None c = None
in_row (Some row) c = lookup (is_at (by_cookie c)) row.entries

module _ {K : Type 0} (eq : K → K → Bool) where
  -- the number under this key and cookie
  abbrev pub filed : K → Cookie → Filing K → Option ℕ
  filed k c filing = in_row (lookup (eq k) filing.rows.entries) c

  -- what is filed there then; under each other key and cookie what was there
  abbrev pub Refiled : K → Cookie → Option ℕ → Filing K → Filing K → Type 0
  Refiled k c number old new =
      (l : K) (d : Cookie) → filed l d new ≡ (if eq k l && c.0 == d.0 then number else filed l d old)

  abbrev pub SameFiled : Filing K → Filing K → Type 0
  SameFiled old new = (l : K) (d : Cookie) → filed l d new ≡ filed l d old
