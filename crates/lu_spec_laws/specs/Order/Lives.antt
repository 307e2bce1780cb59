-- A `life` is the client's next one: its turn took a target's notice that the present life was evicted, and no call of
-- the client is open after it (Lustre Operations Manual, recovery: eviction).
use Rattle.std.specs.Prelude.{◌≡◌, ℕ, suc, Bool, true, false, ◌&&◌, is_some, List, [], ◌∷◌}
use Rattle.std.specs.List.{list_any}
use Rattle.lu_base.specs.declared.ids.At.{At}
use Rattle.lu_base.specs.declared.ids.Node.{Node}
use Rattle.lu_base.specs.declared.ids.Node.TheVariants.{Client, Target}
use Rattle.lu_base.specs.declared.ids.Who.{Who}
use Rattle.lu_msg.specs.declared.messages.Message.{Message}
use Rattle.lu_msg.specs.declared.messages.Message.TheVariants.{Evicted}
use Rattle.lu_trace.specs.declared.entries.Entry.{Entry}
use Rattle.lu_trace.specs.declared.entries.Entry.TheVariants.{Life}
use Rattle.lu_trace.specs.declared.entries.Line.{Line}
use Rattle.lu_spec_machine.specs.Tree.{same_life}
use Rattle.lu_spec_laws.specs.Words.Pasts.{Past, is_some_target}
use Rattle.lu_spec_laws.specs.Words.Sends.{Sending, taken}
use Rattle.lu_spec_laws.specs.Words.Lives.{life, who_is}
use Rattle.lu_spec_laws.specs.Words.Calls.{open_call}

abbrev pub says_evicted : Who → Message → Bool
says_evicted who (Evicted other b) = same_life other who
says_evicted who _ = false

abbrev pub is_notice : Who → Sending → Bool
is_notice who s = is_some_target s.from && says_evicted who s.message

-- a call stands in one of the client's four slots
abbrev pub has_call : ℕ → Past → Bool
has_call c past = list_any (λ slot. is_some (open_call c slot past)) (0 ∷ 1 ∷ 2 ∷ 3 ∷ [])

pub record LifeAt (past : Past) (at : At) (c : ℕ) (who : Who) : Type 0 where
  pub client : who.client ≡ c
  pub next : who.life ≡ suc (life c past)
  pub notice : list_any (is_notice (who_is c past)) (taken past at) ≡ true
  pub idle : has_call c past ≡ false

abbrev pub LifeBy : Past → At → Node → Who → Type 0
LifeBy past at (Client c) who = LifeAt past at c who
LifeBy past at (Target t) who = ⊥

abbrev pub LivesAt : Past → At → Entry → Type 0
LivesAt past at (Life who) = LifeBy past at at.node who
LivesAt past at _ = Unit {0}

abbrev pub Lives : Past → Line → List Line → Type 0
Lives past l later = LivesAt past l.at l.entry
