-- What a target has asked of the holders of its locks and isn't answered yet (Wang et al., Understanding Lustre
-- Filesystem Internals, the lock manager: blocking and glimpse callbacks; the order is this project's profile).
use Rattle.std.specs.Prelude.{◌≡◌, ℕ, ◌+◌, ◌==◌, ◌&&◌, ◌||◌, nat_lt, nat_le, if◌then◌else◌, Bool, true, false, not, List, [], ◌∷◌, map}
use Rattle.std.specs.Prelude.{filter, AllPairs}
use Rattle.std.specs.List.{list_any}
use Rattle.lu_base.specs.declared.ids.Cookie.{Cookie}
use Rattle.lu_base.specs.declared.ids.Who.{Who}
use Rattle.lu_base.specs.declared.ids.Xid.{Xid}
use Rattle.lu_callback.specs.declared.callbacks.Asked.{Asked}
use Rattle.lu_callback.specs.declared.callbacks.Kind.{Kind}
use Rattle.lu_callback.specs.declared.callbacks.Kind.TheVariants.{Block, Glimpse}

-- It is a block.
abbrev pub is_block : Kind → Bool
is_block Block = true
is_block (Glimpse _ _) = false

-- Both are blocks, or both are glimpses for one request.
abbrev pub same_kind : Kind → Kind → Bool
same_kind Block Block = true
same_kind (Glimpse who xid) (Glimpse life number) =
    (who.client == life.client && who.life == life.life) && xid.0 == number.0
same_kind Block (Glimpse _ _) = false
same_kind (Glimpse _ _) Block = false

-- This is what was asked of the holder of that lock.
abbrev pub is_asked : Cookie → Kind → Asked → Bool
is_asked cookie kind asked = asked.cookie.0 == cookie.0 && same_kind asked.kind kind

-- It is outstanding of that lock.
abbrev pub is_outstanding : Cookie → Kind → List Asked → Bool
is_outstanding cookie kind callbacks = list_any (is_asked cookie kind) callbacks

-- The order: what stands there comes before what is asked later where its cookie is lower, and, of one cookie, where
-- what is asked later isn't a block. So the block comes first, and the glimpses follow in the order asked.
abbrev pub stands_before : Asked → Asked → Bool
stands_before there asked =
    nat_lt there.cookie.0 asked.cookie.0 || (there.cookie.0 == asked.cookie.0 && not (is_block asked.kind))

-- All that is outstanding once this is asked too, in its place.
abbrev pub with_asked : Asked → List Asked → List Asked
with_asked asked [] = asked ∷ []
with_asked asked (there ∷ callbacks) =
    if stands_before there asked then there ∷ with_asked asked callbacks else asked ∷ there ∷ callbacks

-- What is outstanding of other locks.
abbrev pub without : Cookie → List Asked → List Asked
without cookie callbacks = filter (λ asked. not (asked.cookie.0 == cookie.0)) callbacks

-- What is outstanding of this lock.
abbrev pub of_lock : Cookie → List Asked → List Asked
of_lock cookie callbacks = filter (λ asked. asked.cookie.0 == cookie.0) callbacks

-- All that is outstanding but this glimpse.
abbrev pub without_glimpse : Cookie → Who → Xid → List Asked → List Asked
without_glimpse cookie who xid callbacks = filter (λ asked. not (is_asked cookie (Glimpse who xid) asked)) callbacks

-- It was asked of one of these locks.
abbrev pub is_of_locks : List Cookie → Asked → Bool
is_of_locks cookies asked = list_any (λ cookie. asked.cookie.0 == cookie.0) cookies

-- It is a glimpse for a request of one of these lives.
abbrev pub is_among : Who → List Who → Bool
is_among who lives = list_any (λ life. life.client == who.client && life.life == who.life) lives

abbrev pub is_for : List Who → Kind → Bool
is_for lives Block = false
is_for lives (Glimpse who _) = is_among who lives

-- What is outstanding of other locks than these, and what isn't a glimpse for these lives.
abbrev pub without_locks : List Cookie → List Asked → List Asked
without_locks cookies callbacks = filter (λ asked. not (is_of_locks cookies asked)) callbacks

abbrev pub without_lives : List Who → List Asked → List Asked
without_lives lives callbacks = filter (λ asked. not (is_for lives asked.kind)) callbacks

-- It is a block that was asked at least `age` ticks before `tick`.
abbrev pub is_due : (tick age : ℕ) → Asked → Bool
is_due tick age asked = is_block asked.kind && nat_le (asked.tick + age) tick

-- The locks of which such a block is outstanding.
abbrev pub due : (tick age : ℕ) → List Asked → List Cookie
due tick age callbacks = map (λ asked. asked.cookie) (filter (is_due tick age) callbacks)

-- What always holds: all stand in their order, and nothing is outstanding twice.
pub record IsSound (callbacks : List Asked) : Type 0 where
  pub ordered : AllPairs (λ earlier later. stands_before earlier later ≡ true) callbacks
  pub once : AllPairs (λ one other. is_asked one.cookie one.kind other ≡ false) callbacks
