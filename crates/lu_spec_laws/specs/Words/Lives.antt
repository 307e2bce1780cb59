-- The lives of clients: a client's life is 1 until a `life` line of its own names another. A life is gone where some
-- target evicted it.
use Rattle.std.specs.Prelude.{ℕ, Bool, true, false, ◌==◌, ◌&&◌, if◌then◌else◌, Option, Some, None, [], ◌∷◌, unwrap_or}
use Rattle.lu_base.specs.declared.ids.Node.{Node}
use Rattle.lu_base.specs.declared.ids.Who.{Who}
use Rattle.lu_trace.specs.declared.entries.Entry.TheVariants.{Life, Evict}
use Rattle.lu_trace.specs.declared.entries.Line.{Line}
use Rattle.lu_spec_machine.specs.Tree.{same_life}
use Rattle.lu_spec_laws.specs.Words.Pasts.{Past, is_client, is_target, is_some_target, some_line}

-- the client's present life
abbrev pub life : ℕ → Past → ℕ
life c [] = 1
life c (l ∷ past) = elim l.entry [ Life who ↦ if is_client c l.at.node then who.life else life c past | _ ↦ life c past ]

-- the client with its present life
abbrev pub who_is : ℕ → Past → Who
who_is c past = record { client = c; life = life c past }

-- a line after the past, at this node, is that life's
abbrev pub is_by : Who → Past → Node → Bool
is_by who past node = is_client who.client node && life who.client past == who.life

abbrev pub evicts : ℕ → Who → Past → Line → Bool
evicts t who past l = elim l.entry [ Evict other cause ↦ is_target t l.at.node && same_life other who | _ ↦ false ]

-- the target evicted that life
abbrev pub is_evicted : ℕ → Past → Who → Bool
is_evicted t past who = some_line (evicts t who) past

abbrev pub ends_life : Who → Past → Line → Bool
ends_life who past l = elim l.entry [ Evict other cause ↦ is_some_target l.at.node && same_life other who | _ ↦ false ]

-- some target evicted it
abbrev pub is_gone : Past → Who → Bool
is_gone past who = some_line (ends_life who) past
