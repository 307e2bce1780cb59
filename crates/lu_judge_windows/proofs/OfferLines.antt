-- What one line makes of what lives handed in at each target.
use Rattle.std.proofs.Common.{◌≡◌, ℕ, Bool, true, false, Some, None, List, [], ◌∷◌, refl, subst, sym}
use Rattle.std.specs.Prelude.{◌==◌, if◌then◌else◌, Option, unwrap_or}
use Rattle.lu_base.specs.declared.ids.At.{At}
use Rattle.lu_base.specs.declared.ids.Node.{Node}
use Rattle.lu_base.specs.declared.ids.Node.TheVariants.{Target}
use Rattle.lu_msg.specs.declared.messages.Message.{Message}
use Rattle.lu_trace.specs.declared.entries.Entry.TheVariants.{Take, Boot}
use Rattle.lu_spec_laws.specs.Words.Pasts.{Past, is_target, or_else}
use Rattle.lu_spec_laws.specs.Words.Sends.{message_of}
use Rattle.lu_spec_laws.specs.Words.Scopes.{last_at, only_here}
use Rattle.lu_spec_laws.specs.Words.Boots.{boot, booted_as}
use Rattle.lu_spec_laws.specs.Words.Handed.{handed, with_message}
use Rattle.lu_judge_windows.specs.declared.handed.Handed.{Handed}
use Rattle.lu_judge_windows.specs.Handed.{ShowsHanded}
use Rattle.lu_judge_windows.specs.Offers.{ShowsOffer}
use Rattle.lu_judge_windows.proofs.Tests.{at_key}
use Rattle.lu_judge_windows.proofs.MarkLines.{line_of}

module _ (past : Past) (at : At) (u : ℕ) (node : at.node ≡ Target u) (old : ℕ → Option Handed)
    (shown : (t : ℕ) → ShowsOffer (old t) (boot t past) (handed t past)) where
  -- the target takes a message
  pub take_shown : (n : ℕ) (m : Message) (new : ℕ → Option Handed) → message_of past n ≡ Some m
      → ((messages : List Message) → ShowsOffer (old u) (boot u past) messages → ShowsOffer (new u) (boot u past) (m ∷ messages))
      → ((t : ℕ) → (u == t) ≡ false → new t ≡ old t)
      → (t : ℕ) → ShowsOffer (new t) (boot t (line_of at (Take n) ∷ past)) (handed t (line_of at (Take n) ∷ past))
  take_shown n m new sent takes others t =
      subst (λ (x : Node). ShowsOffer (new t) (boot t past) (if is_target t x then with_message (message_of past n) (handed t past)
      else handed t past)) (sym node)
      (at_key (λ k here. ShowsOffer (new k) (boot k past) (if here then with_message (message_of past n) (handed k past)
      else handed k past)) u t
      (subst (λ (o : Option Message). ShowsOffer (new u) (boot u past) (with_message o (handed u past))) (sym sent)
      (takes (handed u past) (shown u)))
      (λ apart. subst (λ (o : Option Handed). ShowsOffer o (boot t past) (handed t past)) (sym (others t apart)) (shown t)))

  -- a message that was never sent
  pub none_shown : (n : ℕ) → message_of past n ≡ None → (t : ℕ)
      → ShowsOffer (old t) (boot t (line_of at (Take n) ∷ past)) (handed t (line_of at (Take n) ∷ past))
  none_shown n sent t =
      subst (λ (o : Option Message). ShowsOffer (old t) (boot t past)
      (if is_target t at.node then with_message o (handed t past) else handed t past)) (sym sent) (by (is_target t at.node)) where
        by : (here : Bool) → ShowsOffer (old t) (boot t past) (if here then handed t past else handed t past)
        by true = shown t
        by false = shown t

  -- the target boots
  pub boot_shown : (b : ℕ) (new : ℕ → Option Handed) → ((t : ℕ) → new t ≡ (if u == t then None else old t))
      → (t : ℕ) → ShowsOffer (new t) (boot t (line_of at (Boot b) ∷ past)) (handed t (line_of at (Boot b) ∷ past))
  boot_shown b new removed t =
      subst (λ (x : Node). ShowsOffer (new t) (unwrap_or (or_else (only_here (Some b) (is_target t x)) (last_at booted_as t past)) 1)
      (if is_target t x then [] else handed t past)) (sym node)
      (subst (λ (o : Option Handed). ShowsOffer o (unwrap_or (or_else (only_here (Some b) (u == t)) (last_at booted_as t past)) 1)
      (if u == t then [] else handed t past)) (sym (removed t))
      (at_key (λ k here. ShowsOffer (if here then None else old k)
      (unwrap_or (or_else (only_here (Some b) here) (last_at booted_as k past)) 1) (if here then [] else handed k past)) u t refl
      (λ apart. shown t)))

-- ---- what is known at a target

pub offer_there : (o : Option Handed) (here : Handed) (b : ℕ) (messages : List Message) → ShowsOffer o b messages → Some here ≡ o
    → ShowsHanded here b messages
offer_there o here b messages shown is = subst (λ (x : Option Handed). ShowsOffer x b messages) (sym is) shown

pub offer_none : (o : Option Handed) (b : ℕ) (messages : List Message) → ShowsOffer o b messages → None ≡ o → messages ≡ []
offer_none o b messages shown is = subst (λ (x : Option Handed). ShowsOffer x b messages) (sym is) shown
