-- A release is of a granted lock: this turn took its holder's `cancel` of it, or evicted its holder (Wang et al.,
-- Understanding Lustre Filesystem Internals, the lock manager).
use Rattle.std.specs.Prelude.{◌≡◌, ℕ, Bool, true, false, ◌==◌, ◌&&◌, ◌||◌, Option, Some, None, List, find}
use Rattle.std.specs.List.{list_any}
use Rattle.lu_base.specs.declared.ids.At.{At}
use Rattle.lu_base.specs.declared.ids.Node.{Node}
use Rattle.lu_base.specs.declared.ids.Node.TheVariants.{Client, Target}
use Rattle.lu_base.specs.declared.ids.Who.{Who}
use Rattle.lu_base.specs.declared.locks.Lock.{Lock as LockOf}
use Rattle.lu_msg.specs.declared.messages.Message.{Message}
use Rattle.lu_msg.specs.declared.messages.Message.TheVariants.{Cancel}
use Rattle.lu_trace.specs.declared.entries.Entry.{Entry}
use Rattle.lu_trace.specs.declared.entries.Entry.TheVariants.{Release, Evict}
use Rattle.lu_trace.specs.declared.entries.Line.{Line}
use Rattle.lu_spec_machine.specs.Tree.{same_life}
use Rattle.lu_spec_laws.specs.Words.Pasts.{Past, same_turn, some_line}
use Rattle.lu_spec_laws.specs.Words.Sends.{taken}
use Rattle.lu_spec_laws.specs.Words.Boots.{boot}
use Rattle.lu_spec_laws.specs.Words.Queues.{has_cookie, granted}

abbrev pub is_cancel : ℕ → Who → ℕ → Message → Bool
is_cancel b who cookie (Cancel other known given) = known == b && same_life other who && given.0 == cookie
is_cancel b who cookie _ = false

abbrev pub ends : At → Who → Past → Line → Bool
ends at who past l = elim l.entry [ Evict other cause ↦ same_turn l.at at && same_life other who | _ ↦ false ]

-- the turn evicted that life
abbrev pub has_ended : Past → At → Who → Bool
has_ended past at who = some_line (ends at who) past

abbrev pub is_given_back : Past → At → ℕ → ℕ → Who → Bool
is_given_back past at t cookie who =
    list_any (λ s. is_cancel (boot t past) who cookie s.message) (taken past at) || has_ended past at who

-- of the lock that is granted under that cookie, if there is one
abbrev pub has_cause : Past → At → ℕ → ℕ → Option LockOf → Bool
has_cause past at t cookie None = false
has_cause past at t cookie (Some l) = is_given_back past at t cookie l.ask.who

abbrev pub ReleaseBy : Past → At → Node → ℕ → Type 0
ReleaseBy past at (Target t) cookie = has_cause past at t cookie (find (has_cookie cookie) (granted t past)) ≡ true
ReleaseBy past at (Client c) cookie = ⊥

abbrev pub ReleasesAt : Past → At → Entry → Type 0
ReleasesAt past at (Release cookie) = ReleaseBy past at at.node cookie.0
ReleasesAt past at _ = Unit {0}

abbrev pub Releases : Past → Line → List Line → Type 0
Releases past l later = ReleasesAt past l.at l.entry
