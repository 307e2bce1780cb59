-- What a tick does about what its target has asked of the holders of its locks: whose time is over, and what is sent again.
use Rattle.std.specs.Prelude.{◌||◌, if◌then◌else◌, Bool, List, [], ◌∷◌, Option, Some, None}
use Rattle.lu_base.specs.declared.ids.Cookie.{Cookie}
use Rattle.lu_base.specs.declared.ids.Who.{Who}
use Rattle.lu_base.specs.declared.locks.Lock.{Lock}
use Rattle.lu_callback.specs.declared.callbacks.Asked.{Asked}
use Rattle.lu_callback.specs.declared.callbacks.Kind.{Kind}
use Rattle.lu_callback.specs.Callbacks.{is_outstanding}
use Rattle.lu_lockspace.specs.Spaces.{SpaceState, lock_of}
use Rattle.lu_spec_entries.specs.Words.{Entry, same_life}
use Rattle.lu_spec_target.specs.Lives.{life_before}
use Rattle.lu_spec_target.specs.States.{Target}
use Rattle.lu_target_refines.specs.Callbacks.{message_of, with_holder}
use Rattle.lu_target_locks.specs.declared.reminding.Reminder.{Reminder}

-- the messages of these
abbrev pub again_told : Target → List Reminder → List Entry
again_told w [] = []
again_told w (r ∷ reminders) = message_of w r.kind r.lock ∷ again_told w reminders

-- ---- as the code finds them

abbrev pub with_kind : Kind → Option Lock → Option Reminder
with_kind k None = None
with_kind k (Some l) = Some (record { kind = k; lock = l })

abbrev pub reminder_of : List Asked → SpaceState → Asked → Option Reminder
reminder_of now space a = if is_outstanding a.cookie a.kind now then with_kind a.kind (lock_of a.cookie.0 space) else None

-- it is this life, or stands behind it
abbrev pub stands_from : Who → Who → Bool
stands_from who life = same_life who life || life_before who life

abbrev pub with_holder_of : SpaceState → List Who → Cookie → List Who
with_holder_of space lives cookie = with_holder (lock_of cookie.0 space) lives
