-- Which paths a call makes, and when a call that reads misses them: then it finds nothing, and is granted no lock. An `open` makes nothing
-- and reads nothing, nor does a call on a handle: it is granted no lock on names.
use Rattle.std.specs.Prelude.{◌≡◌, ◌≢◌, ℕ, List, [], ◌++◌}
use Rattle.lu_msg.specs.declared.calls.Call.{Call}
use Rattle.lu_msg.specs.declared.calls.Call.TheVariants as call

abbrev pub Path : Type 0
Path = List (List ℕ)

-- once the call is done the path may lead somewhere, though it didn't before; a `rename` moves all that lies below its old name
abbrev pub CallMakes : Call → Path → Type 0
CallMakes (call.Mkdir made) path = path ≡ made
CallMakes (call.Create made stripes) path = path ≡ made
CallMakes (call.Link old new) path = path ≡ new
CallMakes (call.Rename old new) path = (rest : Path) × (path ≡ new ++ rest)
CallMakes _ path = ⊥

-- Where these are the paths that are made, a call that reads asks for none of them. The root is there from the first: a `lookup`
-- of it asks nobody, a `stat` and a `list` are granted its lock, and a `layout` is refused.
abbrev pub Misses : (Path → Type 0) → Call → Type 0
Misses Made (call.Lookup path) = (path ≢ []) × ¬ Made path
Misses Made (call.Stat path) = (path ≢ []) × ¬ Made path
Misses Made (call.List path) = (path ≢ []) × ¬ Made path
Misses Made (call.Layout path) = ¬ Made path
Misses Made _ = Unit {0}
