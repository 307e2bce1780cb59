-- The table of what lives handed in at each target shows a past.
use Rattle.std.specs.Prelude.{◌≡◌, ℕ, ◌==◌, Option, Some, None, List, []}
use Rattle.std.specs.HashMap.{get_by}
use Rattle.lu_msg.specs.declared.messages.Message.{Message}
use Rattle.lu_spec_laws.specs.Words.Pasts.{Past}
use Rattle.lu_spec_laws.specs.Words.Boots.{boot}
use Rattle.lu_spec_laws.specs.Words.Handed.{handed}
use Rattle.lu_judge_windows.specs.declared.handed.Handed.{Handed}
use Rattle.lu_judge_windows.specs.declared.offers.Offers.{Offers}
use Rattle.lu_judge_windows.specs.Handed.{ShowsHanded}

-- in this boot the target took these messages
abbrev pub ShowsOffer : Option Handed → ℕ → List Message → Type 0
ShowsOffer None b messages = messages ≡ []
ShowsOffer (Some here) b messages = ShowsHanded here b messages

abbrev pub offer_in : Offers → ℕ → Option Handed
offer_in t target = get_by (λ k. target == k) t.by_target

abbrev pub ShowsOffers : Offers → Past → Type 0
ShowsOffers t past = (target : ℕ) → ShowsOffer (offer_in t target) (boot target past) (handed target past)
