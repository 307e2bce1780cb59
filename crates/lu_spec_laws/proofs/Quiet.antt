-- A line that a notion doesn't read leaves it as it is, by computation: here a tick, of any node, after any past.
use Rattle.std.proofs.Common.{◌≡◌, ℕ, Bool, refl}
use Rattle.std.specs.Prelude.{◌∷◌, List, Some}
use Rattle.lu_part.specs.declared.parts.Part.{Part}
use Rattle.lu_base.specs.declared.ids.At.{At}
use Rattle.lu_base.specs.declared.ids.Fid.{Fid}
use Rattle.lu_base.specs.declared.ids.Who.{Who}
use Rattle.lu_trace.specs.declared.entries.Entry.TheVariants.{Tick}
use Rattle.lu_spec_laws.specs.Words.Pasts.{Past, has_died}
use Rattle.lu_spec_laws.specs.Words.Sends.{sends, sending, message_of, taken, reply_in, grant_in}
use Rattle.lu_spec_laws.specs.Words.Lives.{life, is_evicted, is_gone}
use Rattle.lu_spec_laws.specs.Words.Requests.{first_request, asked, has_heard, in_flight}
use Rattle.lu_spec_laws.specs.Words.Calls.{open_call, binding, bound_to, heard_in, number_in}
use Rattle.lu_spec_laws.specs.Words.Boots.{boot, committed, greatest, is_recovering}
use Rattle.lu_spec_laws.specs.Words.Slots.{has_slot, slots}
use Rattle.lu_spec_laws.specs.Words.Handed.{handed, is_back}
use Rattle.lu_spec_laws.specs.Words.Learned.{heard_number, saw}
use Rattle.lu_spec_laws.specs.Words.CalledBack.{was_called_back}
use Rattle.lu_spec_laws.specs.Words.Lost.{transactions, is_lost}
use Rattle.lu_spec_laws.specs.Words.Standing.{contents}
use Rattle.lu_spec_laws.specs.Words.Seen.{seen_by}
use Rattle.lu_spec_laws.specs.Laws.Acts.{standing_count}
use Rattle.lu_spec_laws.specs.Laws.Recovery.{seen_in}
use Rattle.lu_spec_laws.specs.Words.Histories.{machine_of, answer_there}
use Rattle.lu_spec_laws.specs.Words.Pieces.{layout_heard, done_calls, done_before}
use Rattle.lu_spec_laws.specs.Words.Glimpses.{peeked}

module _ (past : Past) (at : At) where
  abbrev after_tick : Past
  after_tick = record { at = at; entry = Tick } ∷ past

  -- of each two that stand here the first is over the past with the tick
  stay :
      (n t c slot x h osts : ℕ) (who : Who) (turn : At) (fid : Fid) (out : Who → Bool) (lost : ℕ → ℕ → Bool)
      → (has_died c after_tick ≡ has_died c past)
      × (sends after_tick ≡ sends past)
      × (sending after_tick n ≡ sending past n)
      × (message_of after_tick n ≡ message_of past n)
      × (taken after_tick turn ≡ taken past turn)
      × (reply_in after_tick turn t who x ≡ reply_in past turn t who x)
      × (grant_in after_tick turn t who x ≡ grant_in past turn t who x)
      × (life c after_tick ≡ life c past)
      × (is_evicted t after_tick who ≡ is_evicted t past who)
      × (is_gone after_tick who ≡ is_gone past who)
      × (first_request after_tick t who x ≡ first_request past t who x)
      × (asked after_tick t who x ≡ asked past t who x)
      × (has_heard t who x after_tick ≡ has_heard t who x past)
      × (in_flight t who after_tick ≡ in_flight t who past)
      × (open_call c slot after_tick ≡ open_call c slot past)
      × (binding who h after_tick ≡ binding who h past)
      × (bound_to c after_tick h ≡ bound_to c past h)
      × (heard_in after_tick turn ≡ heard_in past turn)
      × (number_in after_tick turn who x ≡ number_in past turn who x)
      × (boot t after_tick ≡ boot t past)
      × (committed t after_tick ≡ committed t past)
      × (greatest t after_tick ≡ greatest t past)
      × (has_slot t after_tick who ≡ has_slot t past who)
      × (is_recovering t after_tick ≡ is_recovering t past)
      × (slots n t after_tick ≡ slots n t past)
      × (handed t after_tick ≡ handed t past)
      × (is_back t after_tick who ≡ is_back t past who)
      × (heard_number t who n after_tick ≡ heard_number t who n past)
      × (is_lost after_tick t n ≡ is_lost past t n)
      × (contents osts after_tick ≡ contents osts past)
      × (transactions t after_tick ≡ transactions t past)
      × (was_called_back t who turn after_tick ≡ was_called_back t who turn past)
      × (saw t who n after_tick ≡ saw t who n past)
      × (seen_in after_tick turn who x ≡ seen_in past turn who x)
      × ((touched : List Part) → seen_by osts t after_tick touched ≡ seen_by osts t past touched)
      × (standing_count lost t who x after_tick ≡ standing_count lost t who x past)
      × (machine_of out lost osts after_tick ≡ machine_of out lost osts past)
      × (layout_heard who fid after_tick ≡ layout_heard who fid past)
      × (answer_there out lost osts after_tick turn who x ≡ answer_there out lost osts past turn who x)
      × (done_calls who fid after_tick ≡ done_calls who fid past)
      × (done_before t who x fid after_tick ≡ done_before t who x fid past)
      × (peeked c slot (Some fid) n after_tick ≡ peeked c slot (Some fid) n past)
  stay n t c slot x h osts who turn fid out lost = (
    refl,
    refl,
    refl,
    refl,
    refl,
    refl,
    refl,
    refl,
    refl,
    refl,
    refl,
    refl,
    refl,
    refl,
    refl,
    refl,
    refl,
    refl,
    refl,
    refl,
    refl,
    refl,
    refl,
    refl,
    refl,
    refl,
    refl,
    refl,
    refl,
    refl,
    refl,
    refl,
    refl,
    refl,
    λ touched. refl,
    refl,
    refl,
    refl,
    refl,
    refl,
    refl,
    refl,
  )
