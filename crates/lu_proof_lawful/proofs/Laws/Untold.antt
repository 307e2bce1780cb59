-- What a call changed of an object and hasn't told yet: it makes its changes in lines of one turn and is told next, so at most the newest
-- lines
-- have such changes. Of a life that is out they don't count.
use Rattle.std.proofs.Common.{◌≡◌, ℕ, Bool, true, false, List, [], ◌∷◌, Option, Some, None, ◌⊎◌, inl, inr, ⊎_elim, refl, sym, subst, ap}
use Rattle.std.proofs.Common.{◌∙◌}
use Rattle.std.specs.Prelude.{not, ◌&&◌, if◌then◌else◌}
use Rattle.std.proofs.lemmas.Bool.{cond_both}
use Rattle.lu_base.specs.declared.ids.At.{At}
use Rattle.lu_base.specs.declared.ids.Cookie.{Cookie}
use Rattle.lu_base.specs.declared.ids.Node.{Node}
use Rattle.lu_base.specs.declared.ids.Node.TheVariants.{Client, Target}
use Rattle.lu_base.specs.declared.ids.Who.{Who}
use Rattle.lu_base.specs.declared.locks.Resource.{Resource}
use Rattle.lu_held.specs.Locks.{same_resource}
use Rattle.lu_msg.specs.declared.answers.Answer.{Answer}
use Rattle.lu_msg.specs.declared.answers.Answer.TheVariants as told
use Rattle.lu_spec_entries.specs.Carried.{Work}
use Rattle.lu_spec_entries.specs.Words.{Entry, Changes, Shows, Fills, Told, Line, line, is_client}
use Rattle.lu_proof_lawful.specs.Covered.Calls.{life_at}
use Rattle.lu_proof_lawful.specs.Covered.Heads.{Head}
use Rattle.lu_proof_lawful.proofs.Preconditions.Guards.{NewestChanges, NotChanging, IsChanging, IsShowing, EntryOk, WroteOk, TellsOk}
use Rattle.lu_proof_lawful.proofs.Preconditions.HeedMarks.{marks_left, marks_of}
use Rattle.lu_proof_lawful.proofs.Preconditions.Heeds.{AllHeed, HeedsNext, none_owed}
use Rattle.lu_proof_lawful.proofs.Preconditions.Grown.{Allowed, Grown}
use Rattle.lu_proof_lawful.proofs.Preconditions.Lists.{turn}
use Rattle.lu_proof_bytes.specs.Object.Words.{after_at}
use Rattle.lu_proof_objects.specs.Points.{change_of}
use Rattle.lu_proof_lawful.proofs.Refinement.MarksOwed.{none_marked}

abbrev pub newest_changes : List Line → Bool
newest_changes [] = false
newest_changes (l ∷ past) = elim l.entry [ Changes resource change ↦ true | _ ↦ false ]

-- a line of a client whose life isn't out
abbrev pub counts : (Who → Bool) → Node → List Line → Bool
counts out (Client c) past = not (out (life_at c past))
counts out (Target t) past = false

-- what stands at an offset of the object with those changes, over what stood there
abbrev pub untold : (Who → Bool) → Resource → List Line → ℕ → Option ℕ → Option ℕ
untold out r [] q x = x
untold out r (l ∷ past) q x =
    elim l.entry [
      | Changes resource change ↦ if same_resource resource r && counts out l.at.node past
          then after_at (change_of change) q (untold out r past q x) else untold out r past q x
      | Shows resource cookie last ↦ if newest_changes past then untold out r past q x else x
      | _ ↦ x
    ]

-- none, where the newest lines make no changes
pub untold_none : (out : Who → Bool) (r : Resource) (past : List Line) (q : ℕ) (x : Option ℕ) → NotChanging past → untold out r past q x ≡ x
untold_none out r [] q x none = refl
untold_none out r (l ∷ past) q x none = by l.entry none
  where
    newest : (older : List Line) → newest_changes older ≡ true → NewestChanges older
    newest [] e = absurd (cc)
    newest (m ∷ older) e = of m.entry e
      where
        of : (e : Entry) → newest_changes (line m.at e ∷ older) ≡ true → NewestChanges (line m.at e ∷ older)
        of (Changes resource change) e = tt
        of k e = absurd (cc)

    by : (e : Entry) → NotChanging (line l.at e ∷ past) → untold out r (line l.at e ∷ past) q x ≡ x
    by (Changes resource change) none = absurd none
    by (Shows resource cookie last) none = cond_both (newest_changes past) (untold out r past q x) x (λ (y : Option ℕ). y ≡ x)
        (λ t. absurd (none (newest past t))) (λ t. refl)
    by e none = refl

-- ---- a line that neither changes nor tells finds none

abbrev pub IsPart : Entry → Type 0
IsPart (Changes resource change) = Unit {0}
IsPart (Shows resource cookie last) = Unit {0}
IsPart (Told slot turn answer (Some work)) = answer ≡ told.Done
IsPart _ = ⊥

-- after a change nothing is to be marked of an answer
no_marks : (c : ℕ) (resource : Resource) (cookie : Cookie) (last : ℕ) (at : At) (older : List Line)
    → AllHeed (line at (Shows resource cookie last) ∷ older) → NewestChanges older
    → marks_of c (line at (Shows resource cookie last) ∷ older) ≡ []
no_marks c resource cookie last at [] heeds new = absurd new
no_marks c resource cookie last at (m ∷ oldest) heeds new = cond_both (is_client c at.node) (marks_left (marks_of c (m ∷ oldest)))
    (marks_of c (m ∷ oldest)) (λ (es : List Entry). es ≡ []) (λ t. ap marks_left none) (λ t. none)
  where
    newest : (e : Entry) → NewestChanges (line m.at e ∷ oldest) → HeedsNext c oldest (line m.at e) → marks_of c oldest ≡ []
        × (marks_of c (line m.at e ∷ oldest) ≡ marks_of c oldest)
    newest (Changes r change) new h = (none_marked c oldest heeds.1.1 (none_owed c oldest (line m.at (Changes r change)) h (λ o. o)), refl)
    newest e new h = absurd new

    none : marks_of c (m ∷ oldest) ≡ []
    none = let n = newest m.entry new (heeds.1.0 c) in n.1 ∙ n.0

pub settled : (head : Head) (past : List Line) (at : At) (e : Entry) → AllHeed (line at e ∷ past) → Allowed head past at e → Grown head past
    → (IsPart e → ⊥) → NotChanging past
settled head [] at e heeds k g other = tt
settled head (l ∷ past) at e heeds k g other = by l.entry heeds.1 k
  where
    part : (e : Entry) → IsChanging e → IsPart e
    part (Changes resource change) i = tt
    part (Shows resource cookie last) i = tt
    part (Told slot turn answer (Some work)) i = i
    part (Told slot turn answer None) i = i
    part e i = absurd i

    shows : (e : Entry) → IsShowing e → IsPart e ⊎ ((resource : Resource) × (offset : ℕ) × (bytes : List ℕ)
        × (e ≡ Fills resource offset bytes))
    shows (Changes resource change) i = inl tt
    shows (Fills resource offset bytes) i = inr (resource, offset, bytes, refl)
    shows (Told slot turn answer (Some work)) i = inl i
    shows (Told slot turn answer None) i = inl i
    shows e i = absurd i

    no_fill : (resource : Resource) (cookie : Cookie) (last : ℕ) (object : Resource) (offset : ℕ) (bytes : List ℕ)
        → AllHeed (line l.at (Shows resource cookie last) ∷ past) → NewestChanges past
        → Allowed head (line l.at (Shows resource cookie last) ∷ past) at (Fills object offset bytes) → ⊥
    no_fill resource cookie last object offset bytes heeds new k = of at.node k.ok
      where
        of : (node : Node) → EntryOk (line l.at (Shows resource cookie last) ∷ past) at node (Fills object offset bytes) → ⊥
        of (Client c) ok = absurd (let none = no_marks c resource cookie last l.at past heeds new in let some = ok.1 in cc)
        of (Target t) ok = ok

    by : (x : Entry) → AllHeed (line l.at x ∷ past) → Allowed head (line l.at x ∷ past) at e → NotChanging (line l.at x ∷ past)
    by (Changes resource change) heeds k = absurd (other (part e k.owes.1))
    by (Shows resource cookie last) heeds k = ⊎_elim (λ (p : IsPart e). absurd (other p))
        (λ (f : (resource : Resource) × (offset : ℕ) × (bytes : List ℕ) × (e ≡ Fills resource offset bytes)). λ new. no_fill resource cookie
        last f.0 f.1 f.2 heeds new (subst (λ (x : Entry). Allowed head (line l.at (Shows resource cookie last) ∷ past) at x) f.3 k))
        (shows e k.owes.1)
    by x heeds k = tt

-- what isn't the last line of a call that changes bytes
pub not_last : (past : List Line) (at : At) (c slot : ℕ) (named : At) (given : Answer) (work : Option Work)
    → TellsOk past at c slot named given work → WroteOk past at c slot named given work ⊎ (IsPart (Told slot named given work) → ⊥)
not_last past at c slot named given work k = by k
  where
    plain : work ≡ None → IsPart (Told slot named given work) → ⊥
    plain e p = subst (λ (w : Option Work). IsPart (Told slot named given w)) e p

    other : (w : Work) → work ≡ Some w → (given ≡ told.Done → ⊥) → IsPart (Told slot named given work) → ⊥
    other w e no_done p = no_done (subst (λ (w : Option Work). IsPart (Told slot named given w)) e p)

    by : TellsOk past at c slot named given work → WroteOk past at c slot named given work ⊎ (IsPart (Told slot named given work) → ⊥)
    by (inl k) = inr (plain k.plain)
    by (inr (inl k)) = inr (plain k.plain)
    by (inr (inr (inl k))) = inr (plain k.plain)
    by (inr (inr (inr (inl k)))) = inr (plain k.plain)
    by (inr (inr (inr (inr (inl k))))) = inr (plain k.plain)
    by (inr (inr (inr (inr (inr (inl k)))))) = inr (plain k.plain)
    by (inr (inr (inr (inr (inr (inr (inl k))))))) = inr (other k.done k.of_work
        (λ done. ⊎_elim (λ t. let e : told.Done ≡ told.Content _ = sym done ∙ t.2 in cc)
        (λ t. let e : told.Done ≡ told.Content _ = sym done ∙ t.1 in cc) k.tells.1))
    by (inr (inr (inr (inr (inr (inr (inr (inl k)))))))) = inr (other k.done k.of_work
        (λ done. let e : told.Done ≡ told.FileSize k.stat.fid k.stat.mode k.stat.links _ = sym done ∙ k.of_answer in cc))
    by (inr (inr (inr (inr (inr (inr (inr (inr k)))))))) = inl k

-- what is shown next was written just now, or no change is left untold
pub shown_none : (head : Head) (past : List Line) (at : At) (resource : Resource) (cookie : Cookie) (last : ℕ)
    → Allowed head past at (Shows resource cookie last) → newest_changes past ≡ false → NotChanging past
shown_none head [] at resource cookie last k new = tt
shown_none head (m ∷ older) at resource cookie last k new = by m.entry k new
  where
    by : (e : Entry) → Allowed head (line m.at e ∷ older) at (Shows resource cookie last) → newest_changes (line m.at e ∷ older) ≡ false
        → NotChanging (line m.at e ∷ older)
    by (Changes o change) k new = absurd (cc)
    by (Shows o j n) k new = absurd (let w = k.owes in w.1)
    by e k new = tt
