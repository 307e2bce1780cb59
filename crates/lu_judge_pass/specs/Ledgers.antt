-- What the tables of the ledger hold, and that they show a past: at each key what the laws' notion says there.
use Rattle.std.specs.Prelude.{◌≡◌, ℕ, Bool, false, ◌==◌, ◌&&◌, Option, Some, None, [], ◌∷◌, map, reverse, unwrap_or}
use Rattle.std.specs.Option.{option_map}
use Rattle.std.specs.HashMap.{get_by}
use Rattle.std.specs.HashSet.{contains_by}
use Rattle.lu_base.specs.declared.ids.At.{At}
use Rattle.lu_base.specs.declared.ids.Who.{Who}
use Rattle.lu_msg.specs.declared.messages.Request.{Request}
use Rattle.lu_spec_laws.specs.Words.Pasts.{Past, same_turn}
use Rattle.lu_spec_laws.specs.Words.Lives.{life, is_evicted, is_gone}
use Rattle.lu_spec_laws.specs.Words.Sends.{taken}
use Rattle.lu_spec_laws.specs.Words.Calls.{heard_in}
use Rattle.lu_spec_laws.specs.Words.Requests.{first_request}
use Rattle.lu_judge_pass.specs.Tables.{sending_of, ShowsSendings}
use Rattle.lu_judge_pass.specs.declared.lives.Lives.{Lives}
use Rattle.lu_judge_pass.specs.declared.evictions.Evictions.{Evictions}
use Rattle.lu_judge_pass.specs.declared.evictions.Gone.{Gone}
use Rattle.lu_judge_pass.specs.declared.requests.Requests.{Requests}
use Rattle.lu_judge_pass.specs.declared.present.Present.{Present}
use Rattle.lu_judge_pass.specs.declared.ledgers.Ledger.{Ledger}

-- ---- lives

abbrev pub life_in : Lives → ℕ → ℕ
life_in t c = unwrap_or (get_by (λ k. c == k) t.by_client) 1

abbrev pub ShowsLives : Lives → Past → Type 0
ShowsLives t past = (c : ℕ) → life_in t c ≡ life c past

abbrev pub is_evicted_in : Evictions → ℕ → Who → Bool
is_evicted_in t target who =
    contains_by (λ k. target == k.0 && (who.client == k.1.0 && who.life == k.1.1)) t.by_target

abbrev pub ShowsEvictions : Evictions → Past → Type 0
ShowsEvictions t past = (target : ℕ) (who : Who) → is_evicted_in t target who ≡ is_evicted target past who

abbrev pub is_gone_in : Gone → Who → Bool
is_gone_in t who = contains_by (λ k. who.client == k.0 && who.life == k.1) t.lives

abbrev pub ShowsGone : Gone → Past → Type 0
ShowsGone t past = (who : Who) → is_gone_in t who ≡ is_gone past who

-- ---- requests

abbrev pub request_in : Requests → ℕ → Who → ℕ → Option Request
request_in t target who x =
    option_map (λ r. r.now)
    (get_by (λ k. (target == k.0.0 && (who.client == k.0.1.0 && who.life == k.0.1.1)) && x == k.1) t.first)

abbrev pub ShowsRequests : Requests → Past → Type 0
ShowsRequests t past = (target : ℕ) (who : Who) (x : ℕ) → request_in t target who x ≡ first_request past target who x

-- ---- the turn of the newest line

-- the newest line is of this turn
abbrev pub is_present : Option At → At → Bool
is_present None at = false
is_present (Some newest) at = same_turn newest at

-- it has this turn, with what the turn took and heard so far
abbrev pub HasTurn : Present → Past → At → Type 0
HasTurn t past at =
    (t.newest ≡ Some at)
    × (reverse (map sending_of t.taken.items) ≡ taken past at)
    × (option_map (λ x. x.0) t.heard ≡ heard_in past at)

abbrev pub ShowsPresent : Present → Past → Type 0
ShowsPresent t [] = t.newest ≡ None
ShowsPresent t (l ∷ past) = HasTurn t (l ∷ past) l.at

-- ---- together

pub record ShowsLedger (t : Ledger) (past : Past) : Type 0 where
  pub lives : ShowsLives t.lives past
  pub evictions : ShowsEvictions t.evictions past
  pub sendings : ShowsSendings t.sendings past
  pub requests : ShowsRequests t.requests past
  pub present : ShowsPresent t.present past
