-- Lines of a turn of a target, each allowed, at whose end nothing is owed; and what they lead to: the target after them, and its story.
use Rattle.std.proofs.Common.{◌≡◌, ℕ, Bool, true, false, List, [], ◌∷◌, ◌++◌, None, ◌⊎◌, inl, inr, ⊎_elim, refl, sym, subst, ap, ◌∙◌}
use Rattle.std.specs.Prelude.{nat_eq}
use Rattle.std.proofs.lemmas.Bool.{cond-true, eqb-true, eq-eqb}
use Rattle.lu_base.specs.declared.ids.At.{At}
use Rattle.lu_base.specs.declared.ids.Node.TheVariants as node
use Rattle.lu_base.specs.declared.ids.Stamp.{Stamp}
use Rattle.lu_spec_entries.specs.Words.{Entry, Take, Boot, Close, Stores, Brings, Says, Wishes, Line, line, with_turn, turn_before}
use Rattle.lu_spec_entries.specs.Concerns.{only, about}
use Rattle.lu_spec_target.specs.States.{Target, after, follow, turn as turned}
use Rattle.lu_proof_lawful.specs.Covered.Heads.{Head}
use Rattle.lu_proof_lawful.specs.Covered.TargetCloses.{but_first, closing_of}
use Rattle.lu_proof_lawful.specs.Covered.TargetStates.{server_of, closed_of, up_of, window_of}
use Rattle.lu_proof_lawful.proofs.Preconditions.Guards.{Owes, EntryOk, Later, IsMark, IsTurnOf, mark_of, due}
use Rattle.lu_proof_lawful.proofs.Preconditions.StoryGuards.{EntryOf, IsRecovering}
use Rattle.lu_proof_lawful.proofs.Preconditions.Grown.{Noted}
use Rattle.lu_proof_lawful.proofs.Preconditions.Lists.{turn, turn_irreflexive, turn_more}
use Rattle.lu_proof_lawful.proofs.Preconditions.Only.{turn_only, about_own, about_other}
use Rattle.lu_proof_lawful.proofs.Preconditions.TargetAlike.{Serving, AllPlain, serving_line}
use Rattle.lu_proof_lawful.proofs.Preconditions.Turns.{Settled, AllPaid, AllOk, AllOf, NoBack, AllBacks, AllMarks, AllShows, RowOk}

pub turned_more : (es fs : List Entry) (v : Target) → turned v (es ++ fs) ≡ turned (turned v es) fs
turned_more [] fs v = refl
turned_more (e ∷ es) fs v = turned_more es fs (after v e)

module _ (head : Head) (stamp : Stamp) (t : ℕ) where
  abbrev at : At
  at = turn stamp (node.Target t)

  -- over the whole past, and over the target's story
  abbrev pub LineAt : (past story : List Line) → Entry → Type 0
  LineAt past story e = Owes past at e × EntryOk past at (node.Target t) e × EntryOf head story at (node.Target t) e

  abbrev pub GoodAt : (past story : List Line) → List Entry → Type 0
  GoodAt past story [] = Settled past
  GoodAt past story (e ∷ es) = LineAt past story e × GoodAt (line at e ∷ past) (line at e ∷ story) es

  pub good_more : (es fs : List Entry) (past story : List Line) → GoodAt past story es
      → GoodAt (with_turn at es past) (with_turn at es story) fs → GoodAt past story (es ++ fs)
  good_more [] fs past story g k = k
  good_more (e ∷ es) fs past story g k = (g.0, good_more es fs (line at e ∷ past) (line at e ∷ story) g.1 k)

  pub good_settled : (es : List Entry) (past story : List Line) → GoodAt past story es → Settled (with_turn at es past)
  good_settled [] past story g = g
  good_settled (e ∷ es) past story g = good_settled es (line at e ∷ past) (line at e ∷ story) g.1

  pub serves_lines : (es : List Entry) (past story : List Line) (v : Target) → AllPlain es → GoodAt past story es → Serving head t v story
      → Serving head t (turned v es) (with_turn at es story)
  serves_lines [] past story v plain g h = h
  serves_lines (e ∷ es) past story v plain g h = serves_lines es (line at e ∷ past) (line at e ∷ story) (after v e) plain.1 g.1
      (serving_line head t story stamp e v plain.0 g.0.2 h)

  -- ---- what holds of the target and its story after them

  abbrev pub Reaches : (past story : List Line) → Target → List Entry → (Target → List Line → Type 0) → Type 0
  Reaches past story v es Q = GoodAt past story es × Q (turned v es) (with_turn at es story)

  pub story_turn : (es : List Entry) (past story : List Line) → story ≡ only t past → with_turn at es story ≡ only t (with_turn at es past)
  story_turn es past story is =
      ap (with_turn at es) is ∙ sym (turn_only t at es past ∙ ap (λ (fs : List Entry). with_turn at fs (only t past)) (about_own t es))

  pub reaches_more : (Q R : Target → List Line → Type 0) (es : List Entry) (next : Target → List Entry) (past story : List Line)
      (v : Target) → story ≡ only t past → Reaches past story v es Q
      → (with_turn at es story ≡ only t (with_turn at es past) → Settled (with_turn at es past) → Q (turned v es) (with_turn at es story)
      → Reaches (with_turn at es past) (with_turn at es story) (turned v es) (next (turned v es)) R)
      → Reaches past story v (follow v es next) R
  reaches_more Q R es next past story v is one two =
      let fs : List Entry = next (turned v es) in
      let more = two (story_turn es past story is) (good_settled es past story one.0) one.1 in (
        good_more es fs past story one.0 more.0,
        subst (λ (w : Target). R w (with_turn at (es ++ fs) story)) (sym (turned_more es fs v)) (
            subst (λ (p : List Line). R (turned (turned v es) fs) p) (sym (turn_more at es fs story)) more.1
            ),
      )

  -- ---- lines of the target make a turn

  all_paid : (es : List Entry) (past story : List Line) → GoodAt past story es → AllPaid past at es
  all_paid [] past story g = g
  all_paid (e ∷ es) past story g = (g.0.0, all_paid es (line at e ∷ past) (line at e ∷ story) g.1)

  all_ok : (es : List Entry) (past story : List Line) → GoodAt past story es → AllOk head past at es
  all_ok [] past story g = tt
  all_ok (e ∷ es) past story g = (tt, g.0.1, all_ok es (line at e ∷ past) (line at e ∷ story) g.1)

  all_of : (es : List Entry) (past story : List Line) → GoodAt past story es → AllOf head story at es
  all_of [] past story g = tt
  all_of (e ∷ es) past story g = (g.0.2, all_of es (line at e ∷ past) (line at e ∷ story) g.1)

  -- no life comes back while the target serves: nothing is kept, and it isn't booted
  later_here : (past : List Line) → Later past at → IsTurnOf past at → ⊥
  later_here [] later here = absurd here
  later_here (l ∷ past) later here = turn_irreflexive at (subst (λ (a : At). turn_before a at ≡ true) here later)

  -- the window is closed, whether or not the target is up
  abbrev IsClosed : ℕ → List Line → Type 0
  IsClosed osts story = closed_of story ≡ (server_of osts story).boot

  serves_recovers : (story : List Line) → IsClosed head.osts story → IsRecovering head.osts story → ⊥
  serves_recovers story serves recovers = let is : nat_eq (closed_of story) (server_of head.osts story).boot ≡ true =
      eq-eqb (closed_of story) (server_of head.osts story).boot serves in absurd (cc)

  serves_still : (past story : List Line) (e : Entry) → EntryOk past at (node.Target t) e → EntryOf head story at (node.Target t) e
      → IsClosed head.osts story → (up_of story ≡ true) ⊎ IsTurnOf past at → IsClosed head.osts (line at e ∷ story)
  serves_still past story (Boot boot disk) ok of serves (inl up) = let down = of.down in absurd (cc)
  serves_still past story (Boot boot disk) ok of serves (inr here) = absurd (later_here past ok here)
  serves_still past story (Close o) ok of serves up = absurd (serves_recovers story serves of.recovers)
  serves_still past story e ok of serves up = serves

  serves_unmarked : (story : List Line) (e : Entry) → EntryOf head story at (node.Target t) e → IsClosed head.osts story → IsMark e → ⊥
  serves_unmarked story (Stores replay) of serves mark = serves_recovers story serves of.keeps.recovers
  serves_unmarked story (Brings lock) of serves mark = serves_recovers story serves of.keeps.recovers
  serves_unmarked story (Says said) of serves mark = ⊎_elim (λ k. serves_recovers story serves k.recovers)
      (λ k. serves_recovers story serves k.1.recovers) of.keeps
  serves_unmarked story (Wishes who) of serves mark = serves_recovers story serves of.keeps.recovers
  serves_unmarked story e of serves mark = mark

  pub serves_backs : (es : List Entry) (past story : List Line) → GoodAt past story es → IsClosed head.osts story → NoBack head story
      → (up_of story ≡ true) ⊎ IsTurnOf past at → AllBacks head story at es
  serves_backs [] past story g serves shown up = shown
  serves_backs (e ∷ es) past story g serves shown up = (
    λ who k. absurd (shown who k),
    serves_backs es (line at e ∷ past) (line at e ∷ story) g.1 (serves_still past story e g.0.1 g.0.2 serves up)
        (λ who k. serves_unmarked story e g.0.2 serves k.0) (inr refl),
  )

  -- and nothing that it takes is to be kept
  serves_undue : (story : List Line) (e : Entry) → IsClosed head.osts story → due head.osts head.clients (line at e ∷ story) ≡ None
  serves_undue story (Take n from m) serves =
      cond-true (nat_eq (closed_of story) (server_of head.osts story).boot) None
      (mark_of (window_of head.osts head.clients story) (server_of head.osts story).boot m)
      (eq-eqb (closed_of story) (server_of head.osts story).boot serves)
  serves_undue story e serves = refl

  pub serves_marks : (es : List Entry) (past story : List Line) → GoodAt past story es → IsClosed head.osts story
      → due head.osts head.clients story ≡ None → (up_of story ≡ true) ⊎ IsTurnOf past at → AllMarks head story at es
  serves_marks [] past story g serves undue up = undue
  serves_marks (e ∷ es) past story g serves undue up = (
    λ mark d. absurd (cc),
    serves_marks es (line at e ∷ past) (line at e ∷ story) g.1 (serves_still past story e g.0.1 g.0.2 serves up)
        (serves_undue story e serves) (inr refl),
  )

  -- and no window closes, so that nothing of a close is to be shown
  serves_unclosed : (story : List Line) (e : Entry) → EntryOf head story at (node.Target t) e → IsClosed head.osts story
      → closing_of head.clients story ≡ [] → closing_of head.clients (line at e ∷ story) ≡ []
  serves_unclosed story (Close o) of serves shown = absurd (serves_recovers story serves of.recovers)
  serves_unclosed story e of serves shown = ap but_first shown

  pub serves_shows : (es : List Entry) (past story : List Line) → GoodAt past story es → IsClosed head.osts story
      → closing_of head.clients story ≡ [] → (up_of story ≡ true) ⊎ IsTurnOf past at → AllShows head story at es
  serves_shows [] past story g serves shown up = shown
  serves_shows (e ∷ es) past story g serves shown up = (
    λ next more is. absurd (cc),
    serves_shows es (line at e ∷ past) (line at e ∷ story) g.1 (serves_still past story e g.0.1 g.0.2 serves up)
        (serves_unclosed story e g.0.2 serves shown) (inr refl),
  )

  pub good_row : (es : List Entry) (past : List Line) → GoodAt past (only t past) es → Noted head past → AllBacks head (only t past) at es
      → AllMarks head (only t past) at es → AllShows head (only t past) at es → RowOk head past at es
  good_row es past g noted backs marks shows =
      record {
        paid = all_paid es past (only t past) g;
        ok = all_ok es past (only t past) g;
        of = λ u. by u (nat_eq u t) refl;
        backs =
            λ u. back u (nat_eq u t) refl;
        marks = λ u. mark u (nat_eq u t) refl;
        shows = λ u. show u (nat_eq u t) refl;
      }
    where
      back : (u : ℕ) (b : Bool) → nat_eq u t ≡ b → AllBacks head (only u past) at (about u (node.Target t) es)
      back u true e =
          subst (λ (n : ℕ). AllBacks head (only n past) at (about n (node.Target t) es)) (sym (eqb-true u t e))
          (subst (λ (fs : List Entry). AllBacks head (only t past) at fs) (sym (about_own t es)) backs)
      back u false e = subst (λ (fs : List Entry). AllBacks head (only u past) at fs) (sym (about_other u t es e)) (noted.told u)

      mark : (u : ℕ) (b : Bool) → nat_eq u t ≡ b → AllMarks head (only u past) at (about u (node.Target t) es)
      mark u true e =
          subst (λ (n : ℕ). AllMarks head (only n past) at (about n (node.Target t) es)) (sym (eqb-true u t e))
          (subst (λ (fs : List Entry). AllMarks head (only t past) at fs) (sym (about_own t es)) marks)
      mark u false e = subst (λ (fs : List Entry). AllMarks head (only u past) at fs) (sym (about_other u t es e)) (noted.marked u)

      show : (u : ℕ) (b : Bool) → nat_eq u t ≡ b → AllShows head (only u past) at (about u (node.Target t) es)
      show u true e =
          subst (λ (n : ℕ). AllShows head (only n past) at (about n (node.Target t) es)) (sym (eqb-true u t e))
          (subst (λ (fs : List Entry). AllShows head (only t past) at fs) (sym (about_own t es)) shows)
      show u false e = subst (λ (fs : List Entry). AllShows head (only u past) at fs) (sym (about_other u t es e)) (noted.shown u)

      by : (u : ℕ) (b : Bool) → nat_eq u t ≡ b → AllOf head (only u past) at (about u (node.Target t) es)
      by u true e =
          subst (λ (n : ℕ). AllOf head (only n past) at (about n (node.Target t) es)) (sym (eqb-true u t e))
          (subst (λ (fs : List Entry). AllOf head (only t past) at fs) (sym (about_own t es)) (all_of es past (only t past) g))
      by u false e = subst (λ (fs : List Entry). AllOf head (only u past) at fs) (sym (about_other u t es e)) tt
