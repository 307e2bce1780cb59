-- Bytes that a client just wrote are shown in its next line: any other line finds nothing that is still to be shown.
use Rattle.std.proofs.Common.{◌≡◌, ℕ, Bool, true, false, List, [], ◌∷◌, Option, Some, None, ◌⊎◌, inl, inr, ⊎_elim, refl, sym, subst, ap}
use Rattle.std.proofs.Common.{◌∙◌}
use Rattle.std.specs.Prelude.{◌&&◌, if◌then◌else◌}
use Rattle.lu_base.specs.declared.ids.At.{At}
use Rattle.lu_base.specs.declared.ids.Node.{Node}
use Rattle.lu_base.specs.declared.ids.Node.TheVariants.{Client, Target}
use Rattle.lu_base.specs.declared.locks.Resource.{Resource}
use Rattle.lu_layout.specs.Raid0.{Raid0}
use Rattle.lu_msg.specs.declared.answers.Answer.{Answer}
use Rattle.lu_held.specs.Locks.{same_resource}
use Rattle.lu_spec_entries.specs.declared.changes.Flush.TheVariants as flush
use Rattle.lu_spec_entries.specs.declared.uses.Using.{Using}
use Rattle.lu_spec_entries.specs.Carried.{Kind, Narrow, Wide, Writes, Cuts, Stats, Glimpses, Work}
use Rattle.lu_spec_entries.specs.Words as word
use Rattle.lu_spec_entries.specs.Words.{Line, line, with_turn, is_client}
use Rattle.lu_spec_client.specs.Advances.{writes, cuts}
use Rattle.lu_proof_lawful.proofs.Preconditions.CallGuards.{pieces_of, NotChanging}
use Rattle.lu_proof_lawful.proofs.Preconditions.ToldGuards.{TellsOk, IsChanging, MadeNow}
use Rattle.lu_proof_lawful.proofs.Preconditions.Guards.{Owes, EntryOk}
use Rattle.lu_proof_lawful.proofs.Preconditions.Heeds.{AllHeed, IsOwed, none_owed}
use Rattle.lu_proof_lawful.proofs.Preconditions.HeedMarks.{owed_of}
use Rattle.lu_proof_bytes.specs.Object.Words.{Entry}
use Rattle.lu_proof_lawful.proofs.Refinement.TiedStore.{shown_story}

-- ---- the newest line wrote bytes

abbrev pub NewestPut : List Line → Type 0
NewestPut [] = ⊥
NewestPut (l ∷ past) = elim l.entry [ word.Changes q change ↦ elim change [ flush.Put at bytes ↦ Unit {0} | flush.Cut size ↦ ⊥ ] | _ ↦ ⊥ ]

pub not_put : (past : List Line) → NotChanging past → NewestPut past → ⊥
not_put [] n p = p
not_put (l ∷ past) n p = by l.entry n p
  where
    by : (e : word.Entry) → NotChanging (line l.at e ∷ past) → NewestPut (line l.at e ∷ past) → ⊥
    by (word.Changes q change) n p = n
    by e n p = p

-- what a call makes of its objects ends with what it shows, or with a cut
writes_end : (at : At) (l : Raid0) (p : ℕ) (bs : List ℕ) (us : List Using) (past : List Line) → (NewestPut past → ⊥)
    → NewestPut (with_turn at (writes l p bs us) past) → ⊥
writes_end at l p bs [] past free = free
writes_end at l p bs (u ∷ us) past free = writes_end at l p bs us _ (λ x. x)

cuts_end : (at : At) (l : Raid0) (n : ℕ) (us : List Using) (past : List Line) → (NewestPut past → ⊥)
    → NewestPut (with_turn at (cuts l n us) past) → ⊥
cuts_end at l n [] past free = free
cuts_end at l n (u ∷ us) past free = cuts_end at l n us _ (λ x. x)

pub pieces_end : (at : At) (l : Raid0) (kind : Kind) (us : List Using) (past : List Line) → NotChanging past
    → NewestPut (with_turn at (pieces_of l kind us) past) → ⊥
pieces_end at l (Writes p bs) us past n = writes_end at l p bs us past (not_put past n)
pieces_end at l (Cuts size) us past n = cuts_end at l size us past (not_put past n)
pieces_end at l (Narrow p m) us past n = not_put past n
pieces_end at l (Wide p m) us past n = not_put past n
pieces_end at l (Stats mode links) us past n = not_put past n
pieces_end at l (Glimpses sizes) us past n = not_put past n

made_end : (past : List Line) (at : At) (work : Work) → MadeNow past at work → NewestPut past → ⊥
made_end past at work m p = pieces_end at work.layout work.kind work.used m.before m.fresh (subst NewestPut m.is p)

tells_end : (past : List Line) (at : At) (c slot : ℕ) (turn : At) (told : Answer) (work : Option Work)
    → TellsOk past at c slot turn told work → IsChanging (word.Told slot turn told work) → NewestPut past → ⊥
tells_end past at c slot turn told None ok i p = i
tells_end past at c slot turn told (Some w) (inl ok) i p = let e = ok.plain in cc
tells_end past at c slot turn told (Some w) (inr (inl ok)) i p = let e = ok.plain in cc
tells_end past at c slot turn told (Some w) (inr (inr (inl ok))) i p = let e = ok.plain in cc
tells_end past at c slot turn told (Some w) (inr (inr (inr (inl ok)))) i p = let e = ok.plain in cc
tells_end past at c slot turn told (Some w) (inr (inr (inr (inr (inl ok))))) i p = let e = ok.plain in cc
tells_end past at c slot turn told (Some w) (inr (inr (inr (inr (inr (inl ok)))))) i p = let e = ok.plain in cc
tells_end past at c slot turn told (Some w) (inr (inr (inr (inr (inr (inr (inl ok))))))) i p =
    ⊎_elim (λ n. let e = n.2 in cc) (λ n. let e = n.1 in cc) ok.tells.1
tells_end past at c slot turn told (Some w) (inr (inr (inr (inr (inr (inr (inr (inl ok)))))))) i p = let e = ok.of_answer in cc
tells_end past at c slot turn told (Some w) (inr (inr (inr (inr (inr (inr (inr (inr ok)))))))) i p = made_end past at ok.done ok.made p

-- ---- so another line finds none to be shown

abbrev pub IsShow : word.Entry → Type 0
IsShow (word.Shows q cookie last) = Unit {0}
IsShow _ = ⊥

-- what is to be shown is of that turn
after_put : (past : List Line) (at : At) (e : word.Entry) → NewestPut past → Owes past at e → IsChanging e
after_put [] at e p o = absurd p
after_put (l ∷ past) at e p o = by l.entry p o
  where
    by : (x : word.Entry) → NewestPut (line l.at x ∷ past) → Owes (line l.at x ∷ past) at e → IsChanging e
    by (word.Changes q change) p o = o.1
    by x p o = absurd p

changes_end : (past : List Line) (at : At) (node : Node) (e : word.Entry) → EntryOk past at node e → IsChanging e → (IsShow e → ⊥)
    → NewestPut past → ⊥
changes_end past at (Client c) (word.Changes q change) ok i free p =
    pieces_end at ok.work.layout ok.work.kind ok.done ok.before ok.fresh (subst NewestPut ok.made p)
changes_end past at (Target t) (word.Changes q change) ok i free p = ok
changes_end past at (Client c) (word.Told slot turn told work) ok i free p = tells_end past at c slot turn told work ok i p
changes_end past at (Target t) (word.Told slot turn told work) ok i free p = ok
changes_end past at node (word.Shows q cookie last) ok i free p = free tt
changes_end past at node _ ok i free p = i

pub no_put : (past : List Line) (at : At) (node : Node) (e : word.Entry) → Owes past at e → EntryOk past at node e → (IsShow e → ⊥)
    → NewestPut past → ⊥
no_put past at node e o ok free p = changes_end past at node e ok (after_put past at e p o) free p

-- where nothing was just written the whole story stands
pub shown_all : (c : ℕ) (r : Resource) (past : List Line) (h : List Entry) → (NewestPut past → ⊥) → shown_story c r past h ≡ h
shown_all c r [] h free = refl
shown_all c r (l ∷ past) h free = by l.entry free
  where
    same : (b : Bool) → (if b then h else h) ≡ h
    same true = refl
    same false = refl

    by : (x : word.Entry) → (NewestPut (line l.at x ∷ past) → ⊥) → shown_story c r (line l.at x ∷ past) h ≡ h
    by (word.Changes q (flush.Put at bytes)) free = absurd (free tt)
    by (word.Changes q (flush.Cut size)) free = same (is_client c l.at.node && same_resource q r)
    by x free = refl

-- nor is another client's
pub shown_other : (c : ℕ) (r : Resource) (past : List Line) (h : List Entry) (at : At) (e : word.Entry) → Owes past at e
    → is_client c at.node ≡ false → shown_story c r past h ≡ h
shown_other c r [] h at e o other = refl
shown_other c r (l ∷ past) h at e o other = by l.entry o
  where
    by : (x : word.Entry) → Owes (line l.at x ∷ past) at e → shown_story c r (line l.at x ∷ past) h ≡ h
    by (word.Changes q change) o = let n : is_client c l.at.node ≡ false = ap (λ (a : At). is_client c a.node) o.0 ∙ other in rw n refl
    by x o = refl

-- and where an answer is being heeded
pub shown_owed : (c : ℕ) (past : List Line) → AllHeed past → (e : word.Entry) (more : List word.Entry) → owed_of c past ≡ e ∷ more
    → NewestPut past → ⊥
shown_owed c [] all e more is p = p
shown_owed c (l ∷ past) all e more is p = by l.entry refl p is
  where
    by : (x : word.Entry) → l.entry ≡ x → NewestPut (line l.at x ∷ past) → owed_of c (line l.at x ∷ past) ≡ e ∷ more → ⊥
    by (word.Changes q change) same p is =
        let none : owed_of c past ≡ [] = none_owed c past l (all.0 c) (λ i. absurd (let z = subst IsOwed same i in z)) in
        let z : [] ≡ e ∷ more = sym none ∙ is in
        cc
    by x same p is = p
