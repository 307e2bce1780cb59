-- Rows without a transaction and without a boot.
use Rattle.std.proofs.Common.{◌≡◌, ◌&&◌, Bool, true, false, List, [], ◌∷◌, ◌++◌, Option, Some, None, ℕ, refl}
use Rattle.lu_base.specs.declared.ids.At.{At}
use Rattle.lu_base.specs.declared.ids.Who.{Who}
use Rattle.lu_base.specs.declared.locks.Cause.{Cause}
use Rattle.lu_base.specs.declared.locks.Lock.{Lock}
use Rattle.lu_msg.specs.declared.messages.SizeReport.{SizeReport}
use Rattle.lu_spec_entries.specs.Carried.{Deed, Glimpse}
use Rattle.lu_spec_entries.specs.Words.{Entry, Txn, Boot, Evict}
use Rattle.lu_spec_target.specs.States.{Target, turn}
use Rattle.lu_spec_target.specs.Glimpses.{row_holder, row_report, glimpses_of, glimpses_end}
use Rattle.lu_spec_target.specs.Names.{grant_lines}
use Rattle.lu_spec_target.specs.Requests.{releases}
use Rattle.lu_spec_target.specs.Leaving.{evicted, locks_of, all_released, evictions}
use Rattle.lu_target_refines.specs.Unread.{is_unread, all_unread}
use Rattle.lu_target_refines.proofs.Slots.{both}

abbrev pub is_plain : Entry → Bool
is_plain (Txn d) = false
is_plain (Boot boot disk) = false
is_plain _ = true

abbrev pub all_plain : List Entry → Bool
all_plain [] = true
all_plain (e ∷ es) = is_plain e && all_plain es

pub plain_append : (es more : List Entry) → all_plain es ≡ true → all_plain more ≡ true → all_plain (es ++ more) ≡ true
plain_append [] more one two = two
plain_append (e ∷ es) more one two =
    let parts = both (is_plain e) (all_plain es) one in
    rw parts.0 (plain_append es more parts.1 two)

-- what journal and disk don't read is plain
unread_is_plain : (e : Entry) → is_unread e ≡ true → is_plain e ≡ true
unread_is_plain (Txn d) unread = unread
unread_is_plain (Boot boot disk) unread = unread
unread_is_plain _ unread = refl

pub unread_plain : (es : List Entry) → all_unread es ≡ true → all_plain es ≡ true
unread_plain [] unread = refl
unread_plain (e ∷ es) unread =
    let parts = both (is_unread e) (all_unread es) unread in
    rw (unread_is_plain e parts.0) (unread_plain es parts.1)

pub grant_lines_plain : (d : Deed) (locks : List Lock) → all_plain (grant_lines d locks) ≡ true
grant_lines_plain d [] = refl
grant_lines_plain d (l ∷ locks) = grant_lines_plain d locks

-- ---- glimpses and releases

pub holder_plain : (v : Target) (at : At) (m : SizeReport) (g : Glimpse) (size : Option ℕ) → all_plain (row_holder v at m g size) ≡ true
holder_plain v at m g None = refl
holder_plain v at m g (Some size) = refl

pub report_plain : (v : Target) (at : At) (m : SizeReport) (found : Option Glimpse) → all_plain (row_report v at m found) ≡ true
report_plain v at m None = refl
report_plain v at m (Some g) = holder_plain v at m g m.size

pub glimpses_end_plain : (at : At) (gs : List Glimpse) (v : Target) → all_plain (glimpses_end at gs v) ≡ true
glimpses_end_plain at [] v = refl
glimpses_end_plain at (g ∷ gs) v = glimpses_end_plain at gs v

pub releases_plain : (at : At) (l : Lock) (v : Target) → all_plain (releases at l v) ≡ true
releases_plain at l v = glimpses_end_plain at (glimpses_of l v.glimpses) v

pub all_released_plain : (at : At) (locks : List Lock) (v : Target) → all_plain (all_released at locks v) ≡ true
all_released_plain at [] v = refl
all_released_plain at (l ∷ locks) v =
    plain_append (releases at l v) (all_released at locks (turn v (releases at l v))) (releases_plain at l v)
    (all_released_plain at locks (turn v (releases at l v)))

pub evictions_plain : (at : At) (cause : Cause) (granted : List Lock) (gone : List Who) (v : Target)
    → all_plain (evictions at cause granted gone v) ≡ true
evictions_plain at cause granted [] v = refl
evictions_plain at cause granted (who ∷ gone) v =
    let es : List Entry = Evict who cause ∷ evicted v who ∷ all_released at (locks_of who granted) v in
    plain_append es (evictions at cause granted gone (turn v es)) (all_released_plain at (locks_of who granted) v)
    (evictions_plain at cause granted gone (turn v es))
