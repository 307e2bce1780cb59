-- The law of glimpses: each size that a glimpse is told, in the order of stripes, the stripe's object measured at some moment since the
-- call began,
-- by the plain machine over the trace cut there; or a life said so that was gone.
use Rattle.std.proofs.Common.{◌≡◌, ℕ, suc, Bool, true, false, List, [], ◌∷◌, map, Option, Some, ◌⊎◌, inl, inr, ⊎_elim, refl, sym, subst, ap}
use Rattle.std.proofs.Common.{◌∙◌}
use Rattle.std.specs.Prelude.{nat_eq, ◌||◌}
use Rattle.std.specs.List.{list_any}
use Rattle.lu_base.specs.declared.ids.At.{At}
use Rattle.lu_base.specs.declared.ids.Fid.{Fid}
use Rattle.lu_base.specs.declared.ids.Node.{Node}
use Rattle.lu_base.specs.declared.ids.Node.TheVariants.{Client, Target}
use Rattle.lu_base.specs.declared.ids.Stamp.{Stamp}
use Rattle.lu_base.specs.declared.ids.Who.{Who}
use Rattle.lu_msg.specs.declared.answers.Answer.{Answer}
use Rattle.lu_msg.specs.declared.answers.Answer.TheVariants as told
use Rattle.lu_trace.specs.declared.entries.Entry.TheVariants as trace
use Rattle.lu_trace.specs.declared.entries.Line.{Line as PrintedLine}
use Rattle.lu_spec_entries.specs.Carried.{Work}
use Rattle.lu_spec_entries.specs.Words.{Entry, Told, Line, line}
use Rattle.lu_spec_entries.specs.Printed.{printed}
use Rattle.lu_proof_lawful.specs.Covered.Calls.{life_at}
use Rattle.lu_proof_lawful.specs.Covered.Runs.{IsOnBytes}
use Rattle.lu_proof_lawful.specs.Covered.Heads.{Head}
use Rattle.lu_spec_laws.specs.Words.Pasts.{Past}
use Rattle.lu_spec_laws.specs.Words.Lives.{who_is, is_gone}
use Rattle.lu_spec_laws.specs.Words.Calls.{Begun}
use Rattle.lu_spec_laws.specs.Words.Glimpses.{to_turn_end, cuts, machine_cut, has_size, peeked}
use Rattle.lu_spec_laws.specs.Holds.{Holds, HoldsBefore}
use Rattle.lu_spec_laws.specs.Laws.Glimpse as laws
use Rattle.lu_spec_laws.specs.Laws.Glimpse.{AreSizes, machines, SizesOn, GlimpseAt, GlimpseOf, Glimpse}
use Rattle.lu_proof_lawful.proofs.Preconditions.Guards.{TellsOk, SizesToldOk, ReadToldOk}
use Rattle.lu_proof_lawful.proofs.Preconditions.Grown.{Allowed, Grown}
use Rattle.lu_proof_lawful.proofs.Preconditions.Heeds.{none_owed}
use Rattle.lu_proof_lawful.proofs.Invariants.Groups.{turn}
use Rattle.lu_proof_lawful.proofs.Laws.Fine.{are_sizes, deed_fine, so_fine, known_fine}
use Rattle.lu_proof_lawful.proofs.Laws.GlimpseRun.{Run, before}
use Rattle.lu_proof_lawful.proofs.Laws.GlimpseSizes.{Sized, all_sized, stays_before}
use Rattle.lu_proof_lawful.proofs.Laws.GlimpseWants.{AllFrom, has_known}
use Rattle.lu_proof_lawful.proofs.Laws.Lines.{Keeps, holds_before}
use Rattle.lu_proof_lawful.proofs.Laws.OpenedFiles.{file_meant}
use Rattle.lu_proof_lawful.proofs.Laws.Printed.{far_good, present_is}
use Rattle.lu_proof_lawful.proofs.Laws.ToldLaw.{told_tells}
use Rattle.lu_proof_lawful.proofs.Laws.Untold.{IsPart, settled}

-- ---- sizes by the law

-- with the cut at the end of this turn besides
by_law : (osts : ℕ) (past : List Line) (l : PrintedLine) (later : List PrintedLine) (out : Who → Bool) (c slot : ℕ) (f : Fid) (i : ℕ)
    (sizes : List ℕ) → AllFrom osts past l.at c slot f i sizes → AreSizes (machines out osts (printed past) l later c slot) (printed past) c
    slot (Some f) i sizes
by_law osts past l later out c slot f i [] known = tt
by_law osts past l later out c slot f i (n ∷ ns) known =
    let here = has_size (Some f) i n (machine_cut osts (to_turn_end l.at later (l ∷ printed past))) in (
      more here (list_any (has_size (Some f) i n) (map (machine_cut osts) (cuts c slot l.at (printed past))))
          (list_any (nat_eq n) (peeked c slot (Some f) i (printed past))) (known.0 l.at (inl refl)),
      by_law osts past l later out c slot f (suc i) ns known.1,
    )
  where
    more : (a b d : Bool) → (b || d) ≡ true → ((a || b) || d) ≡ true
    more true b d e = refl
    more false b d e = e

module _ (head : Head) (out : Who → Bool) where
  -- what is known of a past: it is of a run, and whoever is gone so far is out
  abbrev Known : List Line → Type 0
  Known past = Run head past × Sized head past × ((who : Who) → is_gone (printed past) who ≡ true → out who ≡ true)

  -- ---- what is told

  -- what isn't sizes says nothing to the law
  quiet : (past : Past) (l : PrintedLine) (later : List PrintedLine) (slot : ℕ) (named : At) (given : Answer) → are_sizes given ≡ false
      → GlimpseAt out head.osts past l later (trace.Told slot named given)
  quiet past l later slot named (told.Sizes sizes) is = absurd (cc)
  quiet past l later slot named _ is = tt

  module _ (past : List Line) (stamp : Stamp) (c slot : ℕ) (named : At) (given : Answer) (work : Option Work) (later : List PrintedLine)
      (y : Run head (line (turn stamp (Client c)) (Told slot named given work) ∷ past)) (sized : Sized head past)
      (gone : (who : Who) → is_gone (printed past) who ≡ true → out who ≡ true) where
    abbrev at : At
    at = turn stamp (Client c)

    abbrev pl : PrintedLine
    pl = record { at = turn stamp (Client c); entry = trace.Told slot named given }

    g : Grown head past
    g = y.grown.1

    stays_in : out (who_is c (printed past)) ≡ false → is_gone (printed past) (life_at c past) ≡ false
    stays_in stays = by (is_gone (printed past) (life_at c past)) refl
      where
        by : (b : Bool) → is_gone (printed past) (life_at c past) ≡ b → b ≡ false
        by false e = refl
        by true e = absurd (let z : true ≡ false = sym (gone (life_at c past) e) ∙ ap out (sym (present_is head c past g)) ∙ stays in cc)

    sizes : (k : SizesToldOk past (turn stamp (Client c)) c slot named given work)
        → laws.SizesAt out head.osts (printed past) pl later (Client c) slot k.sizes
    sizes k stays =
        let r = k.running in
        let m = file_meant head c slot past r k.has.file g k.call (subst IsOnBytes (sym k.has.glimpses) tt)
        (far_good past (turn stamp (Client c)) r k.sizes k.has.so_far) k.has.of_file in
        let l = line (turn stamp (Client c)) (Told slot named given work) in
        let still = settled head past (turn stamp (Client c)) (Told slot named given work) y.heeds y.grown.0 g
        (λ p. subst (λ (w : Option Work). IsPart (Told slot named given w)) k.plain p) in
        let owed = none_owed c past l (y.heeds.0 c) (λ o. o) in
        let known = has_known head l past c slot y refl still owed (stays_in stays) r k.call sized.calls (λ o. o) k.sizes k.before [] k.has
        in
        subst (λ (o : Option Begun). SizesOn out head.osts (printed past) pl later c slot k.sizes o) (sym m.1)
        (subst (λ (o : Option Fid). AreSizes (machines out head.osts (printed past) pl later c slot) (printed past) c slot o 0 k.sizes)
        (sym m.3)
        (by_law head.osts past pl later out c slot k.has.file.fid 0 k.sizes known))

    read : (k : ReadToldOk past (turn stamp (Client c)) c slot named given work) → are_sizes given ≡ false
    read k = ⊎_elim (λ e. ap are_sizes e.2) (λ e. ap are_sizes e.1) k.tells.1

    tells : TellsOk past (turn stamp (Client c)) c slot named given work
        → GlimpseAt out head.osts (printed past) pl later (trace.Told slot named given)
    tells (inl ok) =
        let t = told_tells head past stamp c slot named given work y.grown.0.steps ok g in
        quiet (printed past) pl later slot named given (subst (λ (v : Answer). are_sizes v ≡ false) t.answer
        (so_fine t.deed.reply.answer (deed_fine head past t.deed g t.acted)).2)
    tells (inr (inl k)) = quiet (printed past) pl later slot named given (known_fine head past c k.running.call given g k.known).2
    tells (inr (inr (inl k))) = quiet (printed past) pl later slot named given (ap are_sizes k.of_answer)
    tells (inr (inr (inr (inl k)))) = quiet (printed past) pl later slot named given (ap are_sizes k.of_answer)
    tells (inr (inr (inr (inr (inl k))))) = subst (λ (v : Answer). GlimpseAt out head.osts (printed past) pl later
        (trace.Told slot named v)) (sym k.of_answer) (sizes k)
    tells (inr (inr (inr (inr (inr (inl k)))))) = quiet (printed past) pl later slot named given (ap are_sizes k.of_answer)
    tells (inr (inr (inr (inr (inr (inr (inl k))))))) = quiet (printed past) pl later slot named given (read k)
    tells (inr (inr (inr (inr (inr (inr (inr (inl k)))))))) = quiet (printed past) pl later slot named given (ap are_sizes k.of_answer)
    tells (inr (inr (inr (inr (inr (inr (inr (inr k)))))))) = quiet (printed past) pl later slot named given (ap are_sizes k.of_answer)

  -- ---- the law

  earlier : (l : Line) (past : List Line) → Known (l ∷ past) → Known past
  earlier l past k = (
    before head l past k.0,
    all_sized head past (before head l past k.0),
    λ who e. k.2 who (by who (is_gone (printed (l ∷ past)) who) refl e),
  )
    where
      by : (who : Who) (b : Bool) → is_gone (printed (l ∷ past)) who ≡ b → is_gone (printed past) who ≡ true
          → is_gone (printed (l ∷ past)) who ≡ true
      by who true q e = q
      by who false q e = absurd (let z : true ≡ false = sym e ∙ stays_before l past who q in cc)

  each : (past : List Line) (l : Line) (later : List PrintedLine) → Allowed head past l.at l.entry → Grown head past → Known (l ∷ past)
      → Keeps (GlimpseOf out head.osts) past l later
  each past l later ok g k = by l.at.node l.entry ok k.0 (earlier l past k)
    where
      by : (node : Node) (e : Entry) → Allowed head past (turn l.at.stamp node) e → Run head (line (turn l.at.stamp node) e ∷ past)
          → Known past → Keeps (GlimpseOf out head.osts) past (line (turn l.at.stamp node) e) later
      by (Client c) (Told slot named given work) ok y old = tells past l.at.stamp c slot named given work later y old.1 old.2 ok.ok
      by (Target u) (Told slot named given work) ok y old = absurd ok.ok
      by _ _ ok y old = tt

  -- whatever lives are out, once all are that are gone, and whatever lines come later
  pub glimpse_before : (past : List Line) (later : List PrintedLine) → Run head past
      → ((who : Who) → is_gone (printed past) who ≡ true → out who ≡ true)
      → HoldsBefore (GlimpseOf out head.osts) later (printed past)
  glimpse_before past later y gone =
      holds_before head (GlimpseOf out head.osts) Known earlier each past later y.grown (y, all_sized head past y, gone)

pub glimpse_law : (head : Head) (past : List Line) → Run head past → Holds (Glimpse head.osts (printed past)) (printed past)
glimpse_law head past y = glimpse_before head (is_gone (printed past)) past [] y (λ who e. e)
