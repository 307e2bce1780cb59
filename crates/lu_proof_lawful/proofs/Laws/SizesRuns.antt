-- The sizes that are noted under locks, over the whole past.
use Rattle.std.proofs.Common.{◌≡◌, ℕ, Bool, true, false, List, [], ◌∷◌, Some, inl, inr, refl, sym, subst, ap, ◌∙◌}
use Rattle.std.proofs.lemmas.Bool.{or_parts, eqb-true}
use Rattle.lu_base.specs.declared.ids.Node.{Node}
use Rattle.lu_base.specs.declared.ids.Node.TheVariants.{Client, Target}
use Rattle.lu_base.specs.declared.ids.Stamp.{Stamp}
use Rattle.lu_base.specs.declared.ids.Who.{Who}
use Rattle.lu_base.specs.declared.locks.Extent.{Extent}
use Rattle.lu_held.specs.declared.locks.HeldLock.{HeldLock}
use Rattle.lu_spec_entries.specs.Words.{Entry, Take, Hold, Life, Grown as GrownTo, Line, line, is_client}
use Rattle.lu_spec_client.specs.Caches.{noted, sizes_at, held_at}
use Rattle.lu_spec_client.specs.States.{Client as ClientState, client_at}
use Rattle.lu_proof_lawful.specs.Covered.Calls.{life_at}
use Rattle.lu_proof_objects.specs.Sound.{Writer}
use Rattle.lu_proof_lawful.specs.Covered.Heads.{Head, IsHead}
use Rattle.lu_proof_lawful.proofs.Preconditions.Guards.{In}
use Rattle.lu_proof_lawful.proofs.Preconditions.HeedMarks.{owed_of}
use Rattle.lu_proof_lawful.proofs.Preconditions.Heeds.{AllHeed, HeedsNext, none_owed, owed_other}
use Rattle.lu_proof_lawful.proofs.Preconditions.Grown.{Allowed, Grown}
use Rattle.lu_proof_lawful.proofs.Preconditions.Lists.{turn}
use Rattle.lu_proof_lawful.proofs.Preconditions.Held.{nowhere_held}
use Rattle.lu_proof_lawful.proofs.Preconditions.PinsFit.{PinsFit}
use Rattle.lu_proof_lawful.proofs.Invariants.All.{holds}
use Rattle.lu_proof_lawful.specs.Projection.Lives.{is_over}
use Rattle.lu_proof_lawful.proofs.Laws.Sounds.{limits_from}
use Rattle.lu_proof_run.proofs.Clients.{client_other}
use Rattle.lu_proof_lawful.proofs.Laws.SoundRuns.{over_before, sound_at}
use Rattle.lu_proof_lawful.proofs.Laws.SizesOwed.{held_is, owed_back, Lies}
use Rattle.lu_proof_lawful.proofs.Laws.SizesNoted.{StandsAs, Sized, tells_more, own}

-- ---- over the past

-- a new life holds nothing
life_sized : (head : Head) (past : List Line) (stamp : Stamp) (c : ℕ) (who : Who) → Allowed head past (turn stamp (Client c)) (Life who)
    → HeedsNext c past (line (turn stamp (Client c)) (Life who)) → Sized c (line (turn stamp (Client c)) (Life who) ∷ past)
life_sized head past stamp c who k heeds = (
  λ h i mode x range ends. absurd (subst (λ (hs : List HeldLock). In h hs)
      (held_is head past stamp c (Life who) ∙ nowhere_held c past (λ t. (k.of t refl).empty)) i),
  λ r change i. absurd (subst (λ (es : List Entry). In (GrownTo r change) es)
      (none_owed c past (line (turn stamp (Client c)) (Life who)) heeds (λ o. o))
      (owed_back past stamp c (Life who) (λ a. a) (GrownTo r change) i)),
)

alive_before : (c : ℕ) (stamp : Stamp) (e : Entry) (past : List Line) → ((who : Who) → e ≡ Life who → ⊥)
    → is_over c (life_at c (line (turn stamp (Client c)) e ∷ past)) (line (turn stamp (Client c)) e ∷ past) ≡ false
    → is_over c (life_at c past) past ≡ false
alive_before c stamp (Life who) past other alive = absurd (other who refl)
alive_before c stamp (Take n from m) past other alive = (or_parts _ (is_over c (life_at c past) past) alive).1
alive_before c stamp e past other alive = alive

own_sized : (head : Head) → IsHead head → (past : List Line) (stamp : Stamp) (c : ℕ) (e : Entry)
    → Allowed head past (turn stamp (Client c)) e → Grown head past → PinsFit (line (turn stamp (Client c)) e ∷ past)
    → HeedsNext c past (line (turn stamp (Client c)) e) → AllHeed past
    → (is_over c (life_at c past) past ≡ false → Sized c past) → is_over c (life_at c (line (turn stamp (Client c)) e ∷ past))
    (line (turn stamp (Client c)) e ∷ past) ≡ false → Sized c (line (turn stamp (Client c)) e ∷ past)
own_sized head ranges past stamp c (Life who) k g fit heeds before ih alive = life_sized head past stamp c who k heeds
own_sized head ranges past stamp c e k g fit heeds before ih alive =
    let not_new : (who : Who) → e ≡ Life who → ⊥ = λ who z. absurd (cc) in
    let old = alive_before c stamp e past not_new alive in
    own head ranges past stamp c e k g fit heeds before (ih old) e refl not_new (sound_at head ranges past g fit.1 before c old).now.asked

other_sized : (head : Head) (c : ℕ) (l : Line) (past : List Line) → is_client c l.at.node ≡ false → Sized c past → Sized c (l ∷ past)
other_sized head c l past out s = (
  λ h i mode x range ends. stands h x (s.0 h (subst (λ (hs : List HeldLock). In h hs) held i) mode x range ends),
  λ r change i. subst (λ (hs : List HeldLock). Writer hs r (λ y. Lies change y)) (sym held)
      (s.1 r change (subst (λ (es : List Entry). In (GrownTo r change) es) owed i)),
)
  where
    same : client_at (limits_from head) c (l ∷ past) ≡ client_at (limits_from head) c past
    same = client_other (limits_from head) c past l.at (l.entry ∷ []) out

    held : held_at c (l ∷ past) ≡ held_at c past
    held = ap (λ (k : ClientState). k.store.held) same

    sizes : sizes_at c (l ∷ past) ≡ sizes_at c past
    sizes = ap (λ (k : ClientState). k.store.sizes) same

    owed : owed_of c (l ∷ past) ≡ owed_of c past
    owed = owed_other c l.at l.entry past out

    stands : (h : HeldLock) (x : Extent) → StandsAs c past h.target.0 h.lock x → StandsAs c (l ∷ past) h.target.0 h.lock x
    stands h x (inl n) =
        inl (record {
          number = n.number;
          is_noted = ap (λ ns. noted h.lock.resource h.lock.cookie ns) sizes ∙ n.is_noted;
          size = n.size;
          tells = tells_more h.target.0 l past h.lock n.size n.tells;
          same = n.same;
        })
    stands h x (inr o) =
        inr (record {
          size = o.size;
          seen = o.seen;
          owed = subst
              (λ (es : List Entry). In (Hold h.target.0 h.lock false (Some o.size) o.seen) es) (sym owed) o.owed;
          tells =
              tells_more h.target.0 l past h.lock o.size o.tells;
        })

pub sized : (head : Head) → IsHead head → (past : List Line) → Grown head past → PinsFit past → AllHeed past → (c : ℕ)
    → is_over c (life_at c past) past ≡ false → Sized c past
sized head ranges [] g fit heeds c alive = (λ h i mode x range ends. absurd i, λ r change i. absurd i)
sized head ranges (l ∷ past) g fit heeds c alive = by (is_client c l.at.node) refl (sized head ranges past g.1 fit.1 heeds.1 c)
  where
    other : is_client c l.at.node ≡ false → (is_over c (life_at c past) past ≡ false → Sized c past) → Sized c (l ∷ past)
    other out s =
        let same = ap (λ (k : ClientState). k.who) (client_other (limits_from head) c past l.at (l.entry ∷ []) out) in
        other_sized head c l past out (s (over_before c (life_at c past) l past
        (subst (λ (w : Who). is_over c w (l ∷ past) ≡ false) same alive)))

    by : (b : Bool) → is_client c l.at.node ≡ b → (is_over c (life_at c past) past ≡ false → Sized c past) → Sized c (l ∷ past)
    by false out s = other out s
    by true is_own s = of l.at.node is_own g.0 fit (heeds.0 c) alive
      where
        of : (node : Node) → is_client c node ≡ true → Allowed head past (turn l.at.stamp node) l.entry
            → PinsFit (line (turn l.at.stamp node) l.entry ∷ past) → HeedsNext c past (line (turn l.at.stamp node) l.entry)
            → is_over c (life_at c (line (turn l.at.stamp node) l.entry ∷ past)) (line (turn l.at.stamp node) l.entry ∷ past) ≡ false
            → Sized c (line (turn l.at.stamp node) l.entry ∷ past)
        of (Target t) is_own a f h alive = absurd (cc)
        of (Client d) is_own a f h alive = mine d (eqb-true c d is_own) a f h alive
          where
            mine : (d : ℕ) → c ≡ d → Allowed head past (turn l.at.stamp (Client d)) l.entry
                → PinsFit (line (turn l.at.stamp (Client d)) l.entry ∷ past) → HeedsNext c past (line (turn l.at.stamp (Client d)) l.entry)
                → is_over c (life_at c (line (turn l.at.stamp (Client d)) l.entry ∷ past))
                (line (turn l.at.stamp (Client d)) l.entry ∷ past) ≡ false → Sized c (line (turn l.at.stamp (Client d)) l.entry ∷ past)
            mine d e = subst (λ (n : ℕ). Allowed head past (turn l.at.stamp (Client n)) l.entry
                → PinsFit (line (turn l.at.stamp (Client n)) l.entry ∷ past) → HeedsNext c past (line (turn l.at.stamp (Client n)) l.entry)
                → is_over c (life_at c (line (turn l.at.stamp (Client n)) l.entry ∷ past))
                (line (turn l.at.stamp (Client n)) l.entry ∷ past) ≡ false → Sized c (line (turn l.at.stamp (Client n)) l.entry ∷ past))
                e
                (λ a f h alive. own_sized head ranges past l.at.stamp c l.entry a g.1 f h heeds.1 s alive)
