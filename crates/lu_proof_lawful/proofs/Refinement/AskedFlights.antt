-- The requests of a life in flight on one object, as one more flies and as the answer to one is heard.
use Rattle.std.proofs.Common.{◌≡◌, ℕ, Bool, true, false, List, [], ◌∷◌, ◌++◌, Some, None, ◌⊎◌, inl, inr, ⊎_elim, refl, sym, subst, ap, ◌∙◌}
use Rattle.std.specs.Prelude.{nat_eq, not, if◌then◌else◌}
use Rattle.std.proofs.lemmas.Bool.{eqb-true, eqb-false}
use Rattle.lu_base.specs.declared.locks.Resource.{Resource}
use Rattle.lu_held.specs.Locks.{same_resource}
use Rattle.lu_msg.specs.declared.operations.Op.{Op}
use Rattle.lu_msg.specs.declared.operations.Op.TheVariants as op
use Rattle.lu_spec_entries.specs.Carried.{Flight}
use Rattle.lu_proof_lawful.specs.Covered.Imports.{without_flight}
use Rattle.lu_proof_lawful.proofs.Preconditions.Heard.{In}
use Rattle.lu_proof_lawful.proofs.Preconditions.Lists.{self, in_append, in_left, in_right, in_filter, in_filtered}
use Rattle.lu_proof_lawful.proofs.Preconditions.QueueLists.{resource_itself}
use Rattle.lu_proof_bytes.specs.Object.Words as words
use Rattle.lu_proof_bytes.specs.Object.Words.{Request, Answer, Entry, Flies, Heard}
use Rattle.lu_proof_bytes.specs.Object.Folds as says
use Rattle.lu_proof_lawful.specs.Projection.Requests.{op_of, op_on}
use Rattle.lu_proof_lawful.specs.Projection.Messages.{request_as}
use Rattle.lu_proof_lawful.proofs.Refinement.TiedAsked.{IsOn, HasLock, FlownAs, FlightsAs}
use Rattle.lu_proof_lawful.proofs.Refinement.TargetDeeds.{on_of}
use Rattle.lu_proof_lawful.proofs.Refinement.AskedKept.{op_same}

-- ---- operations on the object

on_there : (r q : Resource) (x : words.Op) → Some q ≡ Some r → op_on r q x ≡ Some x
on_there r q x e = let same : q ≡ r = cc in ap (λ (b : Bool). if b then Some x else None)
    (ap (λ (y : Resource). same_resource y r) same ∙ resource_itself r)

-- each has its operation in the story
pub op_there : (r : Resource) (h : List Entry) (o : Op) → IsOn r o → (x : words.Op) × (op_of r h o ≡ Some x)
op_there r h (op.Enqueue q mode extent) on = (_, on_there r q _ on)
op_there r h (op.Get q cookie page) on = (_, on_there r q _ on)
op_there r h (op.Put q cookie at bytes) on = (_, on_there r q _ on)
op_there r h (op.Cut q cookie n) on = (_, on_there r q _ on)
op_there r h (op.Size q) on = (_, on_there r q _ on)
op_there r h o on = absurd (cc)

pub op_off : (r : Resource) (h : List Entry) (o : Op) → op_of r h o ≡ None → IsOn r o → ⊥
op_off r h o none on = let x = op_there r h o on in let q : None ≡ Some x.0 = sym none ∙ x.1 in absurd (cc)

-- ---- one more flies

in_last : (fs : List Flight) (f g : Flight) → In g (fs ++ f ∷ []) → In g fs ⊎ (f ≡ g)
in_last fs f g i = ⊎_elim (λ (j : In g fs). inl j) (λ (j : In g (f ∷ [])). ⊎_elim (λ (e : f ≡ g). inr e) (λ n. absurd n) j)
    (in_append g fs (f ∷ []) i)

module _ (r : Resource) (h : List Entry) (w : ℕ) (fs : List Flight) (a : FlightsAs r h w fs) (f : Flight) where
  -- on the object, while none is in flight there
  pub flights_flown : (x : words.Op) → op_of r h f.op ≡ Some x → HasLock h f.op → ((g : Flight) → In g fs → IsOn r g.op → ⊥)
      → FlightsAs r (Flies (request_as w f.xid x) ∷ h) w (fs ++ f ∷ [])
  flights_flown x is has none =
      let k = Flies (request_as w f.xid x) ∷ h in
      let o = op_same r h k f.op x (λ j l g. g) is has in
      let now : says.flight w k ≡ Some (request_as w f.xid x) = rw (self w) refl in
      record {
        flies = λ g i on. ⊎_elim (λ (j : In g fs). absurd (none g j on))
            (λ (e : f ≡ g). subst (λ (y : Flight). FlownAs r k w y) e (record { op = x; is = o.0; lock = o.1; flies = now }))
            (in_last fs f g i);
        idle = λ n. absurd (n f (in_right f fs (f ∷ []) (inl refl)) (on_of r h f.op x is));
        single = λ g d i j on too.
            ⊎_elim (λ (x : In g fs). absurd (none g x on)) (λ (e : f ≡ g). ⊎_elim (λ (y : In d fs). absurd (none d y too))
            (λ (q : f ≡ d). sym e ∙ q) (in_last fs f d j)) (in_last fs f g i);
      }

  -- on another one
  pub flights_beside : op_of r h f.op ≡ None → FlightsAs r h w (fs ++ f ∷ [])
  flights_beside none =
      record {
        flies = λ g i on. ⊎_elim (λ (j : In g fs). a.flies g j on) (λ (e : f ≡ g). absurd (off g e on)) (in_last fs f g i);
        idle = λ n. a.idle (λ g i on. n g (in_left g fs (f ∷ []) i) on);
        single = λ g d i j on too.
            ⊎_elim (λ (x : In g fs). ⊎_elim (λ (y : In d fs). a.single g d x y on too) (λ (e : f ≡ d). absurd (off d e too))
            (in_last fs f d j)) (λ (e : f ≡ g). absurd (off g e on)) (in_last fs f g i);
      }
    where
      off : (g : Flight) → f ≡ g → IsOn r g.op → ⊥
      off g e on = op_off r h f.op none (subst (λ (y : Flight). IsOn r y.op) (sym e) on)

  -- ---- the answer to one is heard

  other_xid : (g : Flight) → not (nat_eq g.xid f.xid) ≡ true → g ≡ f → ⊥
  other_xid g n e = by (nat_eq g.xid f.xid) refl n
    where
      by : (b : Bool) → nat_eq g.xid f.xid ≡ b → not b ≡ true → ⊥
      by true s m = absurd (cc)
      by false s m = eqb-false g.xid f.xid s (ap (λ (y : Flight). y.xid) e)

  abbrev keeps : Flight → Bool
  keeps g = not (nat_eq g.xid f.xid)

  -- on the object
  pub flights_heard : (q : Request) (b : Answer) → q.life ≡ w → In f fs → IsOn r f.op
      → FlightsAs r (Heard q b ∷ h) w (without_flight f.xid fs)
  flights_heard q b own flying on =
      record {
        flies = λ g i there. let p = in_filter keeps g fs i in absurd (other_xid g p.1 (a.single g f p.0 flying there on));
        idle = λ n. rw (own, self w) refl;
        single = λ g d i j there too. a.single g d (in_filter keeps g fs i).0 (in_filter keeps d fs j).0 there too;
      }

  -- on another one
  pub flights_passed : ((g : Flight) → In g fs → g.xid ≡ f.xid → g ≡ f) → (IsOn r f.op → ⊥) → FlightsAs r h w (without_flight f.xid fs)
  flights_passed one off =
      record {
        flies = λ g i on. a.flies g (in_filter keeps g fs i).0 on;
        idle = λ n. a.idle (λ g i on. n g (in_filtered keeps g fs i (stays g i on)) on);
        single = λ g d i j on too. a.single g d (in_filter keeps g fs i).0 (in_filter keeps d fs j).0 on too;
      }
    where
      stays : (g : Flight) → In g fs → IsOn r g.op → keeps g ≡ true
      stays g i on = by (nat_eq g.xid f.xid) refl
        where
          by : (b : Bool) → nat_eq g.xid f.xid ≡ b → not b ≡ true
          by false e = refl
          by true e = absurd (off (subst (λ (y : Flight). IsOn r y.op) (one g i (eqb-true g.xid f.xid e)) on))
