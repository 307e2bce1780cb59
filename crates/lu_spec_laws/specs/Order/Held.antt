-- A `hold` takes a lock that came to the client's life in this turn, with a reply or a grant of that target (Wang et
-- al., Understanding Lustre Filesystem Internals, the lock manager).
use Rattle.std.specs.Prelude.{◌≡◌, ℕ, Bool, true, false, ◌==◌, ◌&&◌, ◌||◌, List}
use Rattle.std.specs.List.{list_any}
use Rattle.lu_base.specs.declared.ids.At.{At}
use Rattle.lu_base.specs.declared.ids.Node.{Node}
use Rattle.lu_base.specs.declared.ids.Node.TheVariants.{Client, Target}
use Rattle.lu_base.specs.declared.ids.Who.{Who}
use Rattle.lu_msg.specs.declared.answers.Answer.{Answer}
use Rattle.lu_msg.specs.declared.answers.Answer.TheVariants.{Granted}
use Rattle.lu_msg.specs.declared.messages.Message.{Message}
use Rattle.lu_msg.specs.declared.messages.Message.TheVariants.{Reply, Grant}
use Rattle.lu_trace.specs.declared.entries.Entry.{Entry}
use Rattle.lu_trace.specs.declared.entries.Entry.TheVariants.{Hold}
use Rattle.lu_trace.specs.declared.entries.Line.{Line}
use Rattle.lu_spec_machine.specs.Tree.{same_life}
use Rattle.lu_spec_laws.specs.Words.Pasts.{Past, is_target}
use Rattle.lu_spec_laws.specs.Words.Sends.{Sending, taken}
use Rattle.lu_spec_laws.specs.Words.Lives.{who_is}

-- the answer grants the lock
abbrev pub grants : ℕ → Answer → Bool
grants cookie (Granted other extent size) = other.0 == cookie
grants cookie _ = false

-- the lock comes to the life with the message
abbrev pub brings : Who → ℕ → Message → Bool
brings who cookie (Reply r) =
    same_life r.who who && (grants cookie r.answer || list_any (λ l. l.cookie.0 == cookie) r.locks)
brings who cookie (Grant g) = same_life g.who who && g.cookie.0 == cookie
brings who cookie _ = false

abbrev pub brings_from : ℕ → Who → ℕ → Sending → Bool
brings_from t who cookie s = is_target t s.from && brings who cookie s.message

abbrev pub HoldBy : Past → At → Node → ℕ → ℕ → Type 0
HoldBy past at (Client c) t cookie = list_any (brings_from t (who_is c past) cookie) (taken past at) ≡ true
HoldBy past at (Target u) t cookie = ⊥

abbrev pub HoldsAt : Past → At → Entry → Type 0
HoldsAt past at (Hold target cookie) = HoldBy past at at.node target.0 cookie.0
HoldsAt past at _ = Unit {0}

abbrev pub Held : Past → Line → List Line → Type 0
Held past l later = HoldsAt past l.at l.entry
