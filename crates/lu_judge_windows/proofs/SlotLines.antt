-- What one line makes of a slot: whether its life is the one that joins or is evicted, on whether the line is the target's.
use Rattle.std.proofs.Common.{◌≡◌, ℕ, Bool, true, false, List, [], ◌∷◌, refl, ap, sym, ◌∙◌}
use Rattle.std.specs.Prelude.{◌==◌, ◌&&◌, ◌||◌, not, if◌then◌else◌, Option}
use Rattle.lu_base.specs.declared.ids.At.{At}
use Rattle.lu_base.specs.declared.ids.Who.{Who}
use Rattle.lu_base.specs.declared.locks.Cause.{Cause}
use Rattle.lu_msg.specs.declared.messages.Message.{Message}
use Rattle.lu_trace.specs.declared.entries.Entry.{Entry}
use Rattle.lu_trace.specs.declared.entries.Entry.TheVariants.{Take, Boot, Evict, Joined}
use Rattle.lu_trace.specs.declared.entries.Line.{Line}
use Rattle.lu_spec_machine.specs.Tree.{same_life}
use Rattle.lu_spec_laws.specs.Words.Pasts.{Past, is_target}
use Rattle.lu_spec_laws.specs.Words.Sends.{message_of}
use Rattle.lu_spec_laws.specs.Words.Lives.{evicts, is_evicted}
use Rattle.lu_spec_laws.specs.Words.Boots.{boot}
use Rattle.lu_spec_laws.specs.Words.Slots.{joins, has_joined, has_slot}
use Rattle.lu_spec_laws.specs.Words.Handed.{handed, handed_step, with_message, has_all, is_back}
use Rattle.lu_judge_windows.specs.declared.marks.Mark.{Mark}
use Rattle.lu_judge_windows.proofs.Tests.{and_false}
use Rattle.lu_judge_windows.proofs.MarkLines.{line_of, mark_other}

pub slot_joined : (a same here j ev : Bool) → same ≡ true → here ≡ true → not ev ≡ ((a || ((same && here) || j)) && not ev)
slot_joined a same here j ev s h = rw (s, h) (by a) where
  by : (a : Bool) → not ev ≡ ((a || true) && not ev)
  by true = refl
  by false = refl

pub slot_other : (a same here j ev : Bool) → same ≡ false → ((a || j) && not ev) ≡ ((a || ((same && here) || j)) && not ev)
slot_other a same here j ev s = rw s refl

pub slot_gone : (slot same here ev : Bool) → same ≡ true → here ≡ true → false ≡ (slot && not ((here && same) || ev))
slot_gone slot same here ev s h = rw (s, h) (by slot) where
  by : (slot : Bool) → false ≡ (slot && false)
  by true = refl
  by false = refl

pub slot_kept : (slot same here ev : Bool) → same ≡ false → (slot && not ev) ≡ (slot && not ((here && same) || ev))
slot_kept slot same here ev s = rw s (by here) where
  by : (here : Bool) → (slot && not ev) ≡ (slot && not ((here && false) || ev))
  by true = refl
  by false = refl

-- ---- a line that says nothing of it

joins_default : (who : Who) (e : Entry) → ((w : Who) → e ≡ Joined w → ⊥) → joins who e ≡ false
joins_default who (Joined w) other = absurd (other w refl)
joins_default who _ other = refl

evicts_default : (t : ℕ) (who : Who) (past : Past) (at : At) (e : Entry) → ((w : Who) (cause : Cause) → e ≡ Evict w cause → ⊥)
    → evicts t who past (line_of at e) ≡ false
evicts_default t who past at (Evict w cause) other = absurd (other w cause refl)
evicts_default t who past at _ other = refl

pub slot_default : (t : ℕ) (who : Who) (past : Past) (at : At) (e : Entry) → ((w : Who) → e ≡ Joined w → ⊥)
    → ((w : Who) (cause : Cause) → e ≡ Evict w cause → ⊥) → has_slot t past who ≡ has_slot t (line_of at e ∷ past) who
slot_default t who past at e not_joined not_evict =
    ap (λ (g : Bool). (who.life == 1 || has_joined t past who) && not (g || is_evicted t past who))
    (sym (evicts_default t who past at e not_evict))
    ∙ ap (λ (j : Bool). (who.life == 1 || ((j && is_target t at.node) || has_joined t past who))
    && not (evicts t who past (line_of at e) || is_evicted t past who)) (sym (joins_default who e not_joined))

boot_default : (t : ℕ) (past : Past) (at : At) (e : Entry) → ((b : ℕ) → e ≡ Boot b → ⊥) → boot t (line_of at e ∷ past) ≡ boot t past
boot_default t past at (Boot b) other = absurd (other b refl)
boot_default t past at _ other = refl

handed_default : (t : ℕ) (sent : ℕ → Option Message) (at : At) (e : Entry) (old : List Message) → ((n : ℕ) → e ≡ Take n → ⊥)
    → ((b : ℕ) → e ≡ Boot b → ⊥) → handed_step t sent (line_of at e) old ≡ old
handed_default t sent at (Take n) old not_take not_boot = absurd (not_take n refl)
handed_default t sent at (Boot b) old not_take not_boot = absurd (not_boot b refl)
handed_default t sent at _ old not_take not_boot = refl

pub all_default : (t : ℕ) (who : Who) (past : Past) (at : At) (e : Entry) → ((n : ℕ) → e ≡ Take n → ⊥) → ((b : ℕ) → e ≡ Boot b → ⊥)
    → has_all (boot t past) who (handed t past) ≡ has_all (boot t (line_of at e ∷ past)) who (handed t (line_of at e ∷ past))
all_default t who past at e not_take not_boot =
    ap (λ (b : ℕ). has_all b who (handed t past)) (sym (boot_default t past at e not_boot))
    ∙ ap (λ (ms : List Message). has_all (boot t (line_of at e ∷ past)) who ms)
    (sym (handed_default t (message_of past) at e (handed t past) not_take not_boot))

-- ---- a line of another node

elsewhere_handed : (t : ℕ) (sent : ℕ → Option Message) (at : At) (e : Entry) (old : List Message) → is_target t at.node ≡ false
    → handed_step t sent (line_of at e) old ≡ old
elsewhere_handed t sent at (Take n) old is = ap (λ (b : Bool). if b then with_message (sent n) old else old) is
elsewhere_handed t sent at (Boot b) old is = ap (λ (here : Bool). if here then [] else old) is
elsewhere_handed t sent at _ old is = refl

elsewhere_evicts : (t : ℕ) (who : Who) (past : Past) (at : At) (e : Entry) → is_target t at.node ≡ false → evicts t who past (line_of at e)
    ≡ false
elsewhere_evicts t who past at (Evict other cause) is = ap (λ (b : Bool). b && same_life other who) is
elsewhere_evicts t who past at _ is = refl

pub elsewhere : (t : ℕ) (who : Who) (past : Past) (l : Line) → is_target t l.at.node ≡ false → is_back t (l ∷ past) who ≡ is_back t past who
elsewhere t who past l is =
    ap (λ (j : Bool). ((who.life == 1 || (j || has_joined t past who)) && not (evicts t who past l || is_evicted t past who))
    && has_all (boot t (l ∷ past)) who (handed t (l ∷ past)))
    (ap (λ (b : Bool). joins who l.entry && b) is ∙ and_false (joins who l.entry))
    ∙ ap (λ (g : Bool). ((who.life == 1 || has_joined t past who) && not (g || is_evicted t past who))
    && has_all (boot t (l ∷ past)) who (handed t (l ∷ past))) (elsewhere_evicts t who past l.at l.entry is)
    ∙ ap (λ (m : Mark). has_slot t past who && has_all m.boot who (handed t (l ∷ past))) (mark_other past l t is)
    ∙ ap (λ (ms : List Message). has_slot t past who && has_all (boot t past) who ms)
    (elsewhere_handed t (message_of past) l.at l.entry (handed t past) is)
