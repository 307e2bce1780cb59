-- How the queues come to be without the locks of some lives: other queues are made, and then put in their places.
use Rattle.std.specs.Prelude.{◌≡◌, ⊤, ℕ, Bool, false, ◌==◌, if◌then◌else◌, List, [], ◌∷◌, ◌++◌, None, IsSome, map, filter}
use Rattle.std.specs.List.{list_any, AllByRecursion}
use Rattle.lu_base.specs.declared.ids.Cookie.{Cookie}
use Rattle.lu_base.specs.declared.ids.Who.{Who}
use Rattle.lu_base.specs.declared.locks.Resource.{Resource}
use Rattle.lu_queue.specs.declared.locks.Grant.{Grant}
use Rattle.lu_queue.specs.Queues.{QueueState, is_of, without_lives, AreGranted, IsQueue}
use Rattle.lu_lockspace.specs.Spaces.{same_resource}
use Rattle.lu_lockspace.specs.Entries.{Entries, Places, entry_of, at, place_of, AreRising, Keeps}

-- These queues are those of their resources without the locks of these lives, and what was granted then.
abbrev pub AllEnded : List Who → (before ended : Entries) → List Grant → Type 0
AllEnded lives before [] grants = grants ≡ []
AllEnded lives before (entry ∷ ended) grants =
    (first : List Grant) × (rest : List Grant) × (grants ≡ first ++ rest)
    × AreGranted (without_lives lives (at entry.0 before)) first entry.1 × IsQueue entry.1 × AllEnded lives before ended rest

-- Each of these resources has a queue, and no two are one.
abbrev pub AllThere : (before : Entries) → List Resource → Type 0
AllThere before [] = ⊤
AllThere before (resource ∷ resources) =
    IsSome (entry_of resource before) × AllByRecursion (λ other. same_resource resource other ≡ false) resources × AllThere before resources

-- One after another they took the places of the others.
abbrev pub AllReplaced : (ended before after : Entries) → Type 0
AllReplaced [] before after = after ≡ before
AllReplaced (entry ∷ ended) before after =
    (next : Entries) × AreRising next × (at entry.0 next ≡ entry.1) × Keeps entry.0 before next × AllReplaced ended next after

-- ---- the cookies of the locks that are taken away

-- Those of the locks of these lives in a list.
abbrev pub cookies_of : List Who → List Grant → List Cookie
cookies_of lives locks = map (λ lock. lock.cookie) (filter (λ lock. is_of lives lock) locks)

-- In a queue.
abbrev pub taken : List Who → QueueState → List Cookie
taken lives queue = cookies_of lives queue.granted ++ cookies_of lives queue.waiting

-- On some resources.
abbrev pub taken_on_all : List Who → List Resource → Entries → List Cookie
taken_on_all lives [] entries = []
taken_on_all lives (resource ∷ resources) entries = taken lives (at resource entries) ++ taken_on_all lives resources entries

-- Whether a cookie is among these.
abbrev pub is_among : ℕ → List Cookie → Bool
is_among cookie cookies = list_any (λ other. other.0 == cookie) cookies

-- These cookies have no place any more, and others have theirs.
abbrev pub AreGone : List Cookie → Places → Places → Type 0
AreGone cookies before after = (cookie : ℕ) → place_of cookie after ≡ (if is_among cookie cookies then None else place_of cookie before)
