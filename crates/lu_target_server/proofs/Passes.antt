-- A row that goes on after each request that acts is a pass, and then what goes on, if one acted.
use Rattle.std.proofs.Common.{◌≡◌, ℕ, suc, ◌||◌, not, Bool, true, false, List, [], ◌∷◌, ◌++◌, refl, sym, ap, ◌∙◌, append_assoc}
use Rattle.std.specs.Prelude.{if◌then◌else◌}
use Rattle.lu_base.specs.declared.ids.At.{At}
use Rattle.lu_msg.specs.declared.messages.Request.{Request}
use Rattle.lu_spec_entries.specs.Words.{Entry}
use Rattle.lu_spec_target.specs.Names.{is_read, is_ready, does_change, row_executes, row_waits, row_pass, row_sweep}
use Rattle.lu_spec_target.specs.States.{Target, turn, follow}
use Rattle.lu_target_server.specs.Passes.{no_more, pass_over, acts_in, names_pass, one_acts}
use Rattle.lu_target_server.proofs.Composing.{turn_more, nothing_more}

-- what goes on after a pass
abbrev pub if_one : Bool → (Target → List Entry) → Target → List Entry
if_one acted again w = if acted then again w else []

pub pass_goes_on :
    (again : Target → List Entry) (at : At) (v : Target) (stood : Bool) (queue : List Request)
    → row_pass again v at stood queue ≡ follow v (pass_over at v stood queue) (if_one (acts_in v stood queue) again)
pass_goes_on again at v stood [] = refl
pass_goes_on again at v stood (r ∷ queue) =
    by (is_ready v stood r) (pass_goes_on again at (turn v (row_waits v r)) (stood || not (is_read r.op)) queue) where
      acts : List Entry
      acts = row_executes v at r (does_change v r)

      w : Target
      w = turn v (row_waits v r)

      later : Bool
      later = stood || not (is_read r.op)

      by : (ready : Bool) → row_pass again w at later queue ≡ follow w (pass_over at w later queue) (if_one (acts_in w later queue) again)
          → (if ready then follow v acts again else follow v (row_waits v r) (λ u. row_pass again u at later queue))
          ≡ follow v (if ready then follow v acts no_more else follow v (row_waits v r) (λ u. row_pass no_more u at later queue))
          (if_one (if ready then true else acts_in w later queue) again)
      by true rest = ap (λ (es : List Entry). es ++ again (turn v es)) (sym (nothing_more acts))
      by false rest =
          ap (λ (es : List Entry). row_waits v r ++ es) rest
          ∙ sym (append_assoc (row_waits v r) (pass_over at w later queue)
          (if_one (acts_in w later queue) again (turn w (pass_over at w later queue))))
          ∙ ap (λ (u : Target). (row_waits v r ++ pass_over at w later queue) ++ if_one (acts_in w later queue) again u)
          (sym (turn_more v (row_waits v r) (pass_over at w later queue)))

-- one turn of the sweep
pub sweep_more : (more : ℕ) (at : At) (v : Target) → row_sweep (suc more) at v
    ≡ follow v (names_pass at v) (if_one (one_acts v) (row_sweep more at))
sweep_more more at v = pass_goes_on (row_sweep more at) at v false v.queue

pub sweep_acted : (more : ℕ) (at : At) (v : Target) → one_acts v ≡ true → row_sweep (suc more) at v
    ≡ follow v (names_pass at v) (row_sweep more at)
sweep_acted more at v acted = sweep_more more at v ∙ ap (λ one. follow v (names_pass at v) (if_one one (row_sweep more at))) acted

pub sweep_ended : (more : ℕ) (at : At) (v : Target) → one_acts v ≡ false → row_sweep (suc more) at v ≡ names_pass at v
sweep_ended more at v acted =
    sweep_more more at v ∙ ap (λ one. follow v (names_pass at v) (if_one one (row_sweep more at))) acted ∙ nothing_more (names_pass at v)

-- the last one
pub sweep_last : (at : At) (v : Target) → row_sweep 1 at v ≡ names_pass at v
sweep_last at v = by (one_acts v) refl where
  by : (one : Bool) → one_acts v ≡ one → row_sweep 1 at v ≡ names_pass at v
  by true e = sweep_acted 0 at v e ∙ nothing_more (names_pass at v)
  by false e = sweep_ended 0 at v e

-- ---- one request of the pass

pub pass_acts :
    (at : At) (v : Target) (stood : Bool) (r : Request) (queue : List Request) → is_ready v stood r ≡ true
    → (pass_over at v stood (r ∷ queue) ≡ row_executes v at r (does_change v r)) × (acts_in v stood (r ∷ queue) ≡ true)
pass_acts at v stood r queue ready = by (is_ready v stood r) ready where
  acts : List Entry
  acts = row_executes v at r (does_change v r)

  w : Target
  w = turn v (row_waits v r)

  later : Bool
  later = stood || not (is_read r.op)

  by : (test : Bool) → test ≡ true
      → ((if test then follow v acts no_more else follow v (row_waits v r) (λ u. row_pass no_more u at later queue)) ≡ acts)
      × ((if test then true else acts_in w later queue) ≡ true)
  by true e = (nothing_more acts, refl)
  by false e = absurd (cc)

pub pass_waits :
    (at : At) (v : Target) (stood : Bool) (r : Request) (queue : List Request) → is_ready v stood r ≡ false
    → (pass_over at v stood (r ∷ queue) ≡ follow v (row_waits v r) (λ w. pass_over at w (stood || not (is_read r.op)) queue))
    × (acts_in v stood (r ∷ queue) ≡ acts_in (turn v (row_waits v r)) (stood || not (is_read r.op)) queue)
pass_waits at v stood r queue ready = by (is_ready v stood r) ready where
  acts : List Entry
  acts = row_executes v at r (does_change v r)

  w : Target
  w = turn v (row_waits v r)

  later : Bool
  later = stood || not (is_read r.op)

  by : (test : Bool) → test ≡ false
      → ((if test then follow v acts no_more else follow v (row_waits v r) (λ u. row_pass no_more u at later queue))
      ≡ follow v (row_waits v r) (λ u. pass_over at u later queue))
      × ((if test then true else acts_in w later queue) ≡ acts_in w later queue)
  by true e = absurd (cc)
  by false e = (refl, refl)
