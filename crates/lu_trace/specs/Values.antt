-- The texts of values. Those of numbers, pairs, bytes, paths, nodes and modes are lu_base's.
use Rattle.std.specs.Prelude.{ℕ, ◌^◌, ◌-◌, ◌==◌, if◌then◌else◌, List, ◌++◌, codes, decimal}
use Rattle.lu_base.specs.Texts.{pair_text}
use Rattle.lu_base.specs.Values.{node_text}
use Rattle.lu_base.specs.declared.ids.Who.{Who}
use Rattle.lu_base.specs.declared.ids.At.{At}
use Rattle.lu_base.specs.declared.locks.Extent.{Extent}
use Rattle.lu_base.specs.declared.locks.Resource.{Resource}
use Rattle.lu_base.specs.declared.locks.Policy.{Policy}
use Rattle.lu_base.specs.declared.locks.Policy.TheVariants.{Bits, Range}

-- `c`, the client, a dot, the life
abbrev pub who_text : Who → List ℕ
who_text who = codes "c" ++ decimal who.client ++ codes "." ++ decimal who.life

-- the stamp, a colon, the node
abbrev pub at_text : At → List ℕ
at_text at = decimal at.stamp.0 ++ codes ":" ++ node_text at.node

-- the last offset of a range, where the greatest stands for the end
abbrev pub last_text : ℕ → List ℕ
last_text last = if last == 2 ^ 64 - 1 then codes "end" else decimal last

-- the first offset, a dash, the last
abbrev pub extent_text : Extent → List ℕ
extent_text extent = decimal extent.first ++ codes "-" ++ last_text extent.last

-- an object: the file, a slash, the stripe
abbrev pub object_text : Resource → List ℕ
object_text resource = pair_text resource.fid.0 ++ codes "/" ++ decimal resource.stripe

-- the bits of an inode, as their sum, or a range
abbrev pub policy_text : Policy → List ℕ
policy_text (Bits bits) = decimal bits
policy_text (Range extent) = extent_text extent

-- what a lock of this policy is on: a file, or an object
abbrev pub resource_text : Resource → Policy → List ℕ
resource_text resource (Bits bits) = pair_text resource.fid.0
resource_text resource (Range extent) = object_text resource
