-- What a request may carry, decided.
use Rattle.std.proofs.Common.{◌≡◌, ℕ, ◌<◌, ◌≤◌, Bool, true, false, Option, Some, None, List, [], ◌∷◌, length, sym, ap, subst, ◌∙◌, arith}
use Rattle.std.specs.Prelude.{IsTrue, ◌↔◌, filter, reverse}
use Rattle.std.specs.List.{list_any}
use Rattle.std.specs.Option.{option_map}
use Rattle.lu_base.specs.declared.ids.Fid.{Fid}
use Rattle.lu_base.specs.declared.ids.Who.{Who}
use Rattle.lu_base.specs.declared.locks.Resource.{Resource}
use Rattle.lu_layout.specs.Raid0.{Raid0}
use Rattle.lu_msg.specs.declared.calls.Call.{Call}
use Rattle.lu_msg.specs.declared.operations.Op.{Op}
use Rattle.lu_msg.specs.declared.operations.Op.TheVariants as op
use Rattle.lu_spec_laws.specs.Words.Pasts.{Past}
use Rattle.lu_spec_laws.specs.Words.Pieces.{cuts_to, have_origin, layout_heard, done_before}
use Rattle.lu_spec_laws.specs.Words.Requests.{asked}
use Rattle.lu_spec_laws.specs.Laws.History.{Carried as Comes, CarriesBy, PieceOn, changed}
use Rattle.lu_posix.specs.Limits.{KeepsPiece}
use Rattle.lu_judge_calls.specs.declared.origins.Carrier.{Carrier}
use Rattle.lu_judge_calls.specs.PieceTables.{page_in, cuts_in, first_in, layout_in}
use Rattle.lu_judge_history.specs.declared.carried.Carried.{Carried}
use Rattle.lu_judge_history.specs.Carried.{marked, calls_before, touches_page, is_cut_mark, carried_in, ShowsCarried}
use Rattle.lu_judge_history.specs.Deeds.{PieceWithin}
use Rattle.lu_judge_history.specs.Limited.{Limited}
use Rattle.lu_judge_history.proofs.Limits.{asked_within}
use Rattle.lu_judge_history.proofs.Marks.{before_is, marks_within}
use Rattle.lu_judge_history.proofs.Sources.{cut_is, sources_are}

-- ---- where nothing may be carried

refused : {P : Type 0} → (P → ⊥) → IsTrue false ↔ P
refused none = (λ e. absurd (cc), λ p. absurd (none p))

no_layout : (heard : Option Raid0) (done : Option (List Call)) (r : Resource) (o : Op) → heard ≡ None → CarriesBy heard done r o → ⊥
no_layout None done r o is carries = carries
no_layout (Some l) done r o is carries = absurd (cc)

no_calls : (heard : Option Raid0) (done : Option (List Call)) (r : Resource) (o : Op) → done ≡ None → CarriesBy heard done r o → ⊥
no_calls None done r o is carries = carries
no_calls (Some l) None r o is carries = carries
no_calls (Some l) (Some calls) r o is carries = absurd (cc)

no_stripe : (heard : Option Raid0) (done : Option (List Call)) (layout : Raid0) (r : Resource) (o : Op) → heard ≡ Some layout
    → length layout.targets ≤ r.stripe → CarriesBy heard done r o → ⊥
no_stripe None done layout r o is past carries = carries
no_stripe (Some l) None layout r o is past carries = carries
no_stripe (Some l) (Some calls) layout r o is past carries =
    let same : l ≡ layout = some_is l layout is in
    let stripe : r.stripe < length layout.targets = subst (λ (k : Raid0). r.stripe < length k.targets) same carries.stripe in
    absurd (omega arith)
  where
    some_is : (a b : Raid0) → Some a ≡ Some b → a ≡ b
    some_is a b e = cc

module _ (t : Carried) (past : Past) (shown : ShowsCarried t past) (limited : Limited past) (target : ℕ) (who : Who) (x : ℕ) (o : Op) where
  -- the operation keeps the limits
  pub op_within : Some o ≡ asked past target who x → KeepsPiece o
  op_within is = subst PieceWithin (sym is) (asked_within past limited target who x)

  pub unheard : (r : Resource) → layout_in t.layouts who r.fid ≡ None → IsTrue false ↔ PieceOn past target who x o (Some r)
  unheard r none = refused (no_layout _ _ r o (sym (shown.layouts who r.fid) ∙ none))

  pub unsent : (r : Resource) → first_in t.sent target who x ≡ None → IsTrue false ↔ PieceOn past target who x o (Some r)
  unsent r none =
      refused (no_calls _ _ r o (before_is target who x r.fid past shown.numbered
      ∙ ap (λ (first : Option ℕ). option_map (λ limit. calls_before limit (marked who r.fid past)) first)
      (sym (shown.sent target who x) ∙ none)))

  pub unstriped : (r : Resource) (layout : Raid0) → layout_in t.layouts who r.fid ≡ Some layout → length layout.targets ≤ r.stripe
      → IsTrue false ↔ PieceOn past target who x o (Some r)
  unstriped r layout is over = refused (no_stripe _ _ layout r o (sym (shown.layouts who r.fid) ∙ is) over)

  -- ---- where it is looked up

  module _ (of : Carrier) (life : of.who ≡ who) where
    comes_is : (carried : Op) → (writes : (page : ℕ) → page_in t.done.writes of.who of.fid page
        ≡ reverse (filter (touches_page page) (marked of.who of.fid past)))
        → (cuts : cuts_in t.done.cuts of.who of.fid ≡ reverse (filter is_cut_mark (marked of.who of.fid past)))
        → (r : Resource) → changed carried ≡ Some r → r.stripe ≡ of.stripe
        → IsTrue (carried_in t.done of carried) ↔ Comes of.layout.now (calls_before of.limit (marked of.who of.fid past)) carried
    comes_is (op.Put resource cookie at []) writes cuts r is stripe = absurd (cc)
    comes_is (op.Put resource cookie at (b ∷ bs)) writes cuts r is stripe =
        let s : resource.stripe ≡ of.stripe = ap (λ (q : Resource). q.stripe) (some_is resource r is) ∙ stripe in
        let e = sources_are t.done of (marked of.who of.fid past) writes cuts (marks_within of.who of.fid past limited) at (b ∷ bs) in
        subst (λ (k : ℕ). IsTrue (carried_in t.done of (op.Put resource cookie at (b ∷ bs)))
        ↔ (have_origin of.layout.now k (calls_before of.limit (marked of.who of.fid past)) at (b ∷ bs) ≡ true)) (sym s)
        (λ h. sym e ∙ h, λ h. e ∙ h)
      where
        some_is : (a c : Resource) → Some a ≡ Some c → a ≡ c
        some_is a c e = cc
    comes_is (op.Cut resource cookie size) writes cuts r is stripe =
        let s : resource.stripe ≡ of.stripe = ap (λ (q : Resource). q.stripe) (some_is resource r is) ∙ stripe in
        let e = cut_is t.done of (marked of.who of.fid past) writes cuts (marks_within of.who of.fid past limited) size in
        subst (λ (k : ℕ). IsTrue (carried_in t.done of (op.Cut resource cookie size))
        ↔ (list_any (cuts_to of.layout.now k size) (calls_before of.limit (marked of.who of.fid past)) ≡ true)) (sym s)
        (λ h. sym e ∙ h, λ h. e ∙ h)
      where
        some_is : (a c : Resource) → Some a ≡ Some c → a ≡ c
        some_is a c e = cc
    comes_is _ writes cuts r is stripe = absurd (cc)

  by_layout : (layout : Raid0) (calls : List Call) (r : Resource) (b : Bool) (heard : Option Raid0) (done : Option (List Call)) → heard
      ≡ Some layout → done ≡ Some calls
      → r.stripe < length layout.targets → (IsTrue b ↔ Comes layout calls o) → IsTrue b ↔ CarriesBy heard done r o
  by_layout layout calls r b heard done is before stripe comes =
      rw (is, before) (λ yes. record { stripe = stripe; carried = comes.0 yes }, λ at. comes.1 at.carried)

  pub looked_up : (r : Resource) (of : Carrier) → of.who ≡ who → of.fid ≡ r.fid → of.stripe ≡ r.stripe → layout_in t.layouts who r.fid
      ≡ Some of.layout.now
      → first_in t.sent target who x ≡ Some of.limit → r.stripe < length of.layout.now.targets → changed o ≡ Some r
      → IsTrue (carried_in t.done of o) ↔ PieceOn past target who x o (Some r)
  looked_up r of life file stripe layout limit within is =
      by_layout of.layout.now (calls_before of.limit (marked of.who of.fid past)) r (carried_in t.done of o) (layout_heard who r.fid past)
      (done_before target who x r.fid past)
      (sym (shown.layouts who r.fid) ∙ layout)
      (before_is target who x r.fid past shown.numbered
      ∙ ap (λ (first : Option ℕ). option_map (λ limit. calls_before limit (marked who r.fid past)) first)
      (sym (shown.sent target who x) ∙ limit)
      ∙ sym (ap (λ (w : Who). Some (calls_before of.limit (marked w of.fid past))) life
      ∙ ap (λ (f : Fid). Some (calls_before of.limit (marked who f past))) file))
      within
      (comes_is of life o (λ page. shown.writes of.who of.fid page) (shown.cuts of.who of.fid) r is (sym stripe))
