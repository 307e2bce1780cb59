-- What the tables hold, and that they show a past: at each key what the laws' notion says there.
use Rattle.std.specs.Prelude.{◌≡◌, ℕ, Bool, ◌==◌, ◌&&◌, Option}
use Rattle.std.specs.Option.{option_map}
use Rattle.std.specs.HashMap.{get_by}
use Rattle.std.specs.HashSet.{contains_by}
use Rattle.lu_msg.specs.declared.calls.Call.{Call}
use Rattle.lu_spec_laws.specs.Words.Pasts.{Past, has_died}
use Rattle.lu_spec_laws.specs.Words.Sends.{Sending, sending}
use Rattle.lu_spec_laws.specs.Words.Calls.{call_in}
use Rattle.lu_judge_pass.specs.declared.calls.Calls.{Calls}
use Rattle.lu_judge_pass.specs.declared.deaths.Deaths.{Deaths}
use Rattle.lu_judge_pass.specs.declared.sendings.Sending.{Sending as Kept}
use Rattle.lu_judge_pass.specs.declared.sendings.Sendings.{Sendings}

-- ---- messages

-- the message as the laws see it
abbrev pub sending_of : Kept → Sending
sending_of s = record { from = s.from; to = s.to; message = s.message.now }

abbrev pub sending_in : Sendings → ℕ → Option Sending
sending_in t n = option_map sending_of (get_by (λ k. n == k) t.by_number)

abbrev pub ShowsSendings : Sendings → Past → Type 0
ShowsSendings t past = (n : ℕ) → sending_in t n ≡ sending past n

-- ---- calls

abbrev pub standing_in : Calls → ℕ → ℕ → Option Call
standing_in t c s = option_map (λ call. call.now) (get_by (λ k. c == k.0 && s == k.1) t.by_slot)

abbrev pub ShowsCalls : Calls → Past → Type 0
ShowsCalls t past = (c s : ℕ) → standing_in t c s ≡ call_in c s past

-- ---- deaths

abbrev pub is_dead : Deaths → ℕ → Bool
is_dead t c = contains_by (λ k. c == k) t.clients

abbrev pub ShowsDeaths : Deaths → Past → Type 0
ShowsDeaths t past = (c : ℕ) → is_dead t c ≡ has_died c past
