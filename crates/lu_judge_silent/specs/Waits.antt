-- What a message that a life takes makes of the boots that it was told of.
use Rattle.std.specs.Prelude.{ℕ, Bool, true, false, ◌==◌, ◌&&◌, if◌then◌else◌}
use Rattle.lu_base.specs.declared.ids.Node.{Node}
use Rattle.lu_base.specs.declared.ids.Node.TheVariants.{Target}
use Rattle.lu_msg.specs.declared.messages.Message.{Message}
use Rattle.lu_msg.specs.declared.messages.Message.TheVariants.{Up, Ready}

-- over whether the message is the life's own
abbrev pub waits_after : Bool → Node → Message → ℕ × ℕ → Bool → Bool
waits_after own (Target t) (Up boot) other old = if own && (t == other.0 && boot == other.1) then true else old
waits_after own (Target t) (Ready who boot committed) other old = if own && (t == other.0 && boot == other.1) then false else old
waits_after own _ _ other old = old
