-- The lines before the point at which a turn of a target breaks off: those of earlier turns are of other turns, and those of its
-- own have no close, and show none.
use Rattle.std.proofs.Common.{◌≡◌, ℕ, ◌+◌, Bool, true, false, List, [], ◌∷◌, Option, Some, None, ◌⊎◌, inl, inr, ⊎_elim, refl}
use Rattle.std.proofs.Common.{sym, subst, ap}
use Rattle.std.proofs.Common.{◌∙◌}
use Rattle.lu_base.specs.declared.ids.At.{At}
use Rattle.lu_base.specs.declared.ids.Node.TheVariants.{Target}
use Rattle.lu_base.specs.declared.ids.Stamp.{Stamp}
use Rattle.lu_trace.specs.declared.entries.Entry.{Entry as PrintedEntry}
use Rattle.lu_trace.specs.declared.entries.Entry.TheVariants as trace
use Rattle.lu_trace.specs.declared.entries.Line.{Line as PrintedLine}
use Rattle.lu_spec_entries.specs.Concerns.{only}
use Rattle.lu_spec_entries.specs.Printed.{printed_entry, printed}
use Rattle.lu_spec_entries.specs.Sent.{count_sent}
use Rattle.lu_spec_entries.specs.Words.{Entry, Close, Line, line, with_turn, turn_before}
use Rattle.lu_proof_lawful.specs.Covered.Heads.{Head}
use Rattle.lu_proof_lawful.specs.Covered.TargetCloses.{closing_of}
use Rattle.lu_spec_laws.specs.Words.Pasts.{same_turn}
use Rattle.lu_proof_lawful.proofs.Preconditions.Grown.{Grown}
use Rattle.lu_proof_lawful.proofs.Preconditions.Heard.{Later}
use Rattle.lu_proof_lawful.proofs.Preconditions.Lists.{turn, turn_irreflexive}
use Rattle.lu_proof_lawful.proofs.Laws.CloseShows.{Sound}
use Rattle.lu_proof_lawful.proofs.Laws.Hearing.{other_turn}
use Rattle.lu_proof_lawful.proofs.Laws.Lines.{OfPrinted}
use Rattle.lu_proof_lawful.proofs.Laws.RecoveryLaw.{Unbroken}
use Rattle.lu_proof_lawful.proofs.Laws.Turns.{later_before, same_turn_is}
use Rattle.lu_proof_lawful.proofs.Failing.BreakingPoint.{IsClose, NoClose, only_self, shown_line}
use Rattle.lu_proof_lawful.proofs.Failing.Lost.{OtherLine, OthersAt}

module _ (head : Head) (stamp : Stamp) (t : ℕ) where
  abbrev here : At
  here = turn stamp (Target t)

  -- it is of another turn, or before it no close has something to show
  abbrev ApartAt : List Line → Line → Type 0
  ApartAt past l = (same_turn here l.at ≡ false) ⊎ ((u : ℕ) → l.at.node ≡ Target u → closing_of head.clients (only u past) ≡ [])

  abbrev pub Apart : List Line → Type 0
  Apart [] = Unit {0}
  Apart (l ∷ past) = ApartAt past l × Apart past

  -- ---- what shows a close is in no turn that breaks off

  pub unbroken_by : (later : List PrintedLine) → ((a : At) → same_turn here a ≡ false → Sound a later) → (past : List Line)
      → Apart past → Unbroken head past later
  unbroken_by later sound [] apart = tt
  unbroken_by later sound (l ∷ past) apart = (
    λ u own some. ⊎_elim (λ (other : same_turn here l.at ≡ false). sound l.at other)
        (λ (none : (v : ℕ) → l.at.node ≡ Target v → closing_of head.clients (only v past) ≡ []). absurd (some (none u own))) apart.0,
    unbroken_by later sound past apart.1,
  )

  -- ---- earlier turns

  other_here : (a : At) → turn_before a here ≡ true → same_turn here a ≡ false
  other_here a before = by (same_turn here a) refl
    where
      by : (b : Bool) → same_turn here a ≡ b → b ≡ false
      by false e = refl
      by true e = absurd (turn_irreflexive here (subst (λ (v : At). turn_before v here ≡ true) (sym (same_turn_is here a e)) before))

  pub apart_before : (past : List Line) → Grown head past → Later past here → Apart past
  apart_before [] g later = tt
  apart_before (l ∷ past) g later =
      (inl (other_here l.at later), apart_before past g.1 (later_before l past here g.0.steps later))

  other_line : (a : At) (e : PrintedEntry) → same_turn a here ≡ false → OtherLine here (record { at = a; entry = e })
  other_line a trace.Close other = other
  other_line a e other = tt

  pub others_before : (past : List Line) → Grown head past → Later past here → OthersAt here (printed past)
  others_before [] g later = tt
  others_before (l ∷ past) g later =
      by (printed_entry (count_sent past + 1) l.entry) (others_before past g.1 (later_before l past here g.0.steps later))
    where
      by : (o : Option PrintedEntry) → OthersAt here (printed past) → OthersAt here
          (elim o [ None ↦ printed past | Some e ↦ record { at = l.at; entry = e } ∷ printed past ])
      by None h = h
      by (Some e) h = (other_line l.at e (other_turn l.at here later), h)

  -- ---- the turn itself

  none_closing : (past : List Line) → closing_of head.clients (only t past) ≡ [] → (u : ℕ) → Target t ≡ Target u
      → closing_of head.clients (only u past) ≡ []
  none_closing past none u own = let same : t ≡ u = cc in subst (λ (v : ℕ). closing_of head.clients (only v past) ≡ []) same none

  pub apart_turn : (es : List Entry) (past : List Line) → NoClose es → closing_of head.clients (only t past) ≡ [] → Apart past
      → Apart (with_turn here es past)
  apart_turn [] past none shown apart = apart
  apart_turn (x ∷ es) past none shown apart =
      apart_turn es (line here x ∷ past) none.1
      (ap (closing_of head.clients) (only_self stamp t x past) ∙ shown_line head.clients stamp t x (only t past) none.0 shown)
      (inr (λ u own. none_closing past shown u own), apart)

  printed_other : (x : Entry) (number : ℕ) → (IsClose x → ⊥)
      → OfPrinted (λ (e : PrintedEntry). OtherLine here (record { at = here; entry = e })) (printed_entry number x)
  printed_other (Close o) number none = absurd (none tt)
  printed_other x number none = tt

  pub others_turn : (es : List Entry) (past : List Line) → NoClose es → OthersAt here (printed past)
      → OthersAt here (printed (with_turn here es past))
  others_turn [] past none others = others
  others_turn (x ∷ es) past none others =
      others_turn es (line here x ∷ past) none.1
      (by (printed_entry (count_sent past + 1) x) (printed_other x (count_sent past + 1) none.0))
    where
      by : (o : Option PrintedEntry) → OfPrinted (λ (e : PrintedEntry). OtherLine here (record { at = here; entry = e })) o
          → OthersAt here (elim o [ None ↦ printed past | Some e ↦ record { at = here; entry = e } ∷ printed past ])
      by None h = others
      by (Some e) h = (h, others)
