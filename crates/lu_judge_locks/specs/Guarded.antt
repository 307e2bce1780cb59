-- Held locks that guard what a transaction writes.
use Rattle.std.specs.Prelude.{Bool, List}
use Rattle.std.specs.List.{list_any}
use Rattle.lu_base.specs.declared.ids.Who.{Who}
use Rattle.lu_part.specs.declared.parts.Part.{Part}
use Rattle.lu_part.specs.Guards.{guard}
use Rattle.lu_spec_laws.specs.Words.Pasts.{Past}
use Rattle.lu_spec_laws.specs.Words.Held.{held, is_opposed}
use Rattle.lu_spec_laws.specs.Laws.Locks.{exclusive}

abbrev pub guards : Past → Who → Part → Bool
guards past who part = is_opposed past 0 (guard part).0 (exclusive who (guard part).1) (held past)

abbrev pub is_guarded : Past → Who → List Part → Bool
is_guarded past who parts = list_any (guards past who) parts
