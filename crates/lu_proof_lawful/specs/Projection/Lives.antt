-- The lives of a story. The theory's lives are numbers, each a stay of a client at the target for good; the table's are a client's, and
-- each client counts its own from 1.
use Rattle.std.specs.Prelude.{ℕ, zero, suc, ◌*◌, ◌&&◌, ◌||◌, Bool, false, not, List, [], ◌∷◌}
use Rattle.lu_base.specs.declared.ids.Node.{Node}
use Rattle.lu_base.specs.declared.ids.Node.TheVariants.{Target}
use Rattle.lu_base.specs.declared.ids.Who.{Who}
use Rattle.lu_msg.specs.declared.messages.Message.{Message}
use Rattle.lu_msg.specs.declared.messages.Message.TheVariants as message
use Rattle.lu_spec_entries.specs.Words as word
use Rattle.lu_spec_entries.specs.Words.{Line, is_client, same_life}
use Rattle.lu_spec_client.specs.Calls.{life_at}
use Rattle.lu_proof_bytes.specs.Object.Words.{Entry}
use Rattle.lu_proof_bytes.specs.Object.Folds.{evicted}

-- two numbers as one; `same_pair` of `proofs/Projection/Lives` shows that no two pairs share one
abbrev pub pair : ℕ → ℕ → ℕ
pair zero l = 2 * l
pair (suc c) l = suc (2 * pair c l)

-- the number of a client's life
abbrev pub number_of : Who → ℕ
number_of who = pair who.client who.life

-- the message tells this life that it is over at a target
abbrev pub ends_life : Who → Node → Message → Bool
ends_life who (Target u) (message.Evicted w boot) = same_life w who
ends_life who _ _ = false

-- the client has taken such a message: its life ends in that turn, everywhere, with all that it has
abbrev pub is_over : ℕ → Who → List Line → Bool
is_over c who [] = false
is_over c who (l ∷ past) =
    elim l.entry [
      | word.Take n from m ↦ (is_client c l.at.node && ends_life who from m) || is_over c who past
      | _ ↦ is_over c who past
    ]

-- What a client does in its present life counts in a story until the target has evicted that life, or its client hears that some target
-- did. Later the life asks with a boot that is no longer the target's, hears what isn't for it, and drops locks over changes: the theory
-- has such a life fall silent
abbrev pub is_live : ℕ → List Line → List Entry → Bool
is_live c past h = not (evicted (number_of (life_at c past)) h || is_over c (life_at c past) past)
