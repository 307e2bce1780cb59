-- A client's request flies: it was the first that was queued, and is in flight now, in the story too if it is on the object.
use Rattle.std.proofs.Common.{◌≡◌, ℕ, Bool, true, false, List, [], ◌∷◌, ◌++◌, Option, Some, None, ◌⊎◌, inl, inr, ⊎_elim, refl, sym, subst}
use Rattle.std.proofs.Common.{ap, ◌∙◌, arith}
use Rattle.std.specs.Prelude.{nat_eq, option_map, if◌then◌else◌}
use Rattle.std.proofs.lemmas.Bool.{eqb-true}
use Rattle.std.proofs.lemmas.Bool.Decides.{nat_tests}
use Rattle.lu_base.specs.declared.ids.Node.TheVariants.{Client}
use Rattle.lu_base.specs.declared.ids.Stamp.{Stamp}
use Rattle.lu_base.specs.declared.ids.Who.{Who}
use Rattle.lu_base.specs.declared.locks.Resource.{Resource}
use Rattle.lu_msg.specs.declared.operations.Op.{Op}
use Rattle.lu_spec_entries.specs.declared.changes.Flush.{Flush}
use Rattle.lu_spec_entries.specs.Carried.{Queued, Flight}
use Rattle.lu_spec_entries.specs.Words as word
use Rattle.lu_spec_entries.specs.Words.{Line, line}
use Rattle.lu_spec_entries.specs.Concerns.{only}
use Rattle.lu_spec_client.specs.Caches.{patch_at}
use Rattle.lu_spec_client.specs.Calls.{life_at}
use Rattle.lu_spec_client.specs.Patches.{Flying}
use Rattle.lu_proof_lawful.specs.Covered.Imports.{rest}
use Rattle.lu_proof_lawful.specs.Covered.ClientStates.{is_own, queue_of, flights_of, awaits_of}
use Rattle.lu_proof_lawful.specs.Covered.Heads.{Head}
use Rattle.lu_proof_lawful.proofs.Preconditions.Lists.{self, turn, own_self}
use Rattle.lu_proof_lawful.proofs.Invariants.Lines.{only_more}
use Rattle.lu_proof_bytes.specs.Object.Words as words
use Rattle.lu_proof_bytes.specs.Object.Words.{Entry, Flies}
use Rattle.lu_proof_bytes.specs.Object.Folds.{WriteBack}
use Rattle.lu_proof_bytes.specs.Object.Folds as says
use Rattle.lu_proof_lawful.specs.Projection.Lives.{number_of, is_live}
use Rattle.lu_proof_lawful.specs.Projection.Requests.{op_of}
use Rattle.lu_proof_lawful.specs.Projection.Messages.{request_as}
use Rattle.lu_proof_lawful.specs.Projection.Stories.{flies, with_entry, of_life, story}
use Rattle.lu_proof_lawful.proofs.Refinement.Tied.{Here}
use Rattle.lu_proof_lawful.proofs.Refinement.TiedStore.{store_owed}
use Rattle.lu_proof_lawful.proofs.Refinement.TiedAsked.{TakenAs, queued_backs, flying_backs, backs_of, FlightsAs, AskedOf, AskedBy}
use Rattle.lu_proof_lawful.proofs.Refinement.AskedFolds.{only_stays, awaits_stays}
use Rattle.lu_proof_lawful.proofs.Refinement.AskedKept.{GivenStays, LocksStay, awaits_kept, back_kept}
use Rattle.lu_proof_lawful.proofs.Refinement.AskedFlights.{flights_flown, flights_beside}
use Rattle.lu_proof_lawful.proofs.Refinement.AskedBacks.{flown_backs}
use Rattle.lu_proof_lawful.proofs.Refinement.AskedElse.{asked_else}
use Rattle.lu_proof_lawful.proofs.Refinement.AskedOther.{brought_before}
use Rattle.lu_proof_lawful.proofs.Refinement.AskedOwn.{locks_own, flight_same, shows_none, shown_none}
use Rattle.lu_proof_lawful.proofs.Refinement.TargetDeeds.{on_of}
use Rattle.lu_proof_lawful.proofs.Refinement.MayBase.{tie, life_eq, at_live}
use Rattle.lu_proof_lawful.proofs.Refinement.MayFly.{ok, queue_is, none_flies, flies_lock}

pub turned : (a b : ℕ) → nat_eq a b ≡ false → nat_eq b a ≡ false
turned a b e = grind (arith, nat_tests, e)

module _ (head : Head) (t : ℕ) (r : Resource) (stamp : Stamp) (c : ℕ) (past : List Line) where
  abbrev P : List Line
  P = only t past

  abbrev who : Who
  who = life_at c past

  abbrev h : List Entry
  h = story t r past

  abbrev w : ℕ
  w = number_of who

  -- to this target
  module _ (f : Flight) (here : Here head t r (line (turn stamp (Client c)) (word.Flies t f)) past)
      (live : is_live c past (story t r past) ≡ true) where
    abbrev e : word.Entry
    e = word.Flies t f

    abbrev l : Line
    l = line (turn stamp (Client c)) e

    abbrev Q : List Line
    Q = only t (l ∷ past)

    abbrev k : List Entry
    k = story t r (l ∷ past)

    a : AskedBy t r past c
    a = tie head t r l past here c live

    own : is_own who P (Client c) ≡ true
    own = subst (λ (v : Who). is_own v P (Client c) ≡ true) (sym (life_eq head t r l past here c live)) (own_self P c)

    only_here : Q ≡ l ∷ P
    only_here = ap (λ (b : Bool). if b then l ∷ P else P) (self t)

    flights_now : flights_of who Q ≡ flights_of who P ++ f ∷ []
    flights_now = ap (flights_of who) only_here ∙ ap (λ (b : Bool). if b then flights_of who P ++ f ∷ [] else flights_of who P) own

    queue_now : queue_of who Q ≡ rest (queue_of who P)
    queue_now = ap (queue_of who) only_here ∙ ap (λ (b : Bool). if b then rest (queue_of who P) else queue_of who P) own

    story_now : k ≡ with_entry (flies r f h w) h
    story_now = at_live t c past h (flies r f h) live

    backs_now : (xs : List Op) → (xs ≡ []) ⊎ ((o : Op) × (xs ≡ o ∷ [])) → backs_of r who P ≡ xs → backs_of r who Q ≡ xs
    backs_now xs few z =
        let q = queue_is head t r stamp c past f here live in
        ap (λ (qs : List Queued). queued_backs r qs ++ flying_backs r (flights_of who Q)) (queue_now ∙ ap rest q)
        ∙ ap (λ (fs : List Flight). queued_backs r more_is ++ flying_backs r fs) flights_now
        ∙ flown_backs r (ok head t r stamp c past f here live).front more_is (flights_of who P) f
        (ap (λ (g : Flight). g.op) (ok head t r stamp c past f here live).is) xs few
        (ap (λ (qs : List Queued). queued_backs r qs ++ flying_backs r (flights_of who P)) (sym q) ∙ z)
      where
        more_is : List Queued
        more_is = (ok head t r stamp c past f here live).more

    built : (x : List Entry) → k ≡ x → LocksStay w h x → GivenStays h x → ((j : ℕ) → says.awaits w j x ≡ says.awaits w j h) → says.taken w x
        ≡ says.taken w h → FlightsAs r x w (flights_of who P ++ f ∷ []) → AskedOf t r (l ∷ past) c who
    built x is s g waits taken flown =
        record {
          flights = subst (λ (z : List Entry). FlightsAs r z w (flights_of who Q)) (sym is)
              (subst (λ (fs : List Flight). FlightsAs r x w fs) (sym flights_now) flown);
          locks = locks_own head t r stamp c past e here (subst (λ (z : List Entry). LocksStay w h z) (sym is) s) tt a.locks;
          awaits =
              awaits_kept r h k who P Q (λ j. ap (says.awaits w j) is ∙ waits j)
              (λ j. only_stays (awaits_of who j) t l past (λ m. awaits_stays who P (turn stamp (Client c)) j e (inr refl)))
              (λ d i. only_more t l past d i)
              (λ j low b. brought_before head t r l past here.stood who j low b) a.awaits;
          taken = subst (λ (z : Option Flying). TakenAs (says.taken w k) z) (sym (flight_same head t r stamp c past e here tt))
              (subst (λ (b : Option WriteBack). TakenAs b (patch_at r (store_owed c past).patches).flight)
              (sym (ap (says.taken w) is ∙ taken)) a.taken);
          backs = record {
            backs = ⊎_elim
                (λ z. inl (backs_now [] (inl refl) z))
                (λ z. inr (
                  z.0,
                  backs_now (z.0 ∷ []) (inr (z.0, refl)) z.1,
                  back_kept r h k w z.0 (ap (says.taken w) is ∙ taken) z.2,
                  λ change j. none change j.1,
                ))
                a.backs.backs;
            took = λ change j. absurd (none change j.1);
          };
        }
      where
        none : (change : Flush) → word.Flies t f ≡ word.WritesBack r change → ⊥
        none change z = absurd (cc)

    pub flies_here : AskedOf t r (l ∷ past) c who
    flies_here = by (op_of r h f.op) refl
      where
        by : (o : Option words.Op) → op_of r h f.op ≡ o → AskedOf t r (l ∷ past) c who
        by None none =
            built h (story_now ∙ ap (λ (o : Option words.Op). with_entry (option_map (λ x. Flies (request_as w f.xid x)) o) h) none)
            (record { back = λ m i v. i; kept = λ m i v. i; dropped = λ m d. d }) (λ j m g. g) (λ j. refl) refl
            (flights_beside r h w (flights_of who P) a.flights f none)
        by (Some x) some =
            built (Flies (request_as w f.xid x) ∷ h) (story_now
            ∙ ap (λ (o : Option words.Op). with_entry (option_map (λ x. Flies (request_as w f.xid x)) o) h) some)
            (record { back = λ m i v. i; kept = λ m i v. i; dropped = λ m d. d }) (λ j m g. g) (λ j. refl) refl
            (flights_flown r h w (flights_of who P) a.flights f x some (flies_lock head t r stamp c past f here live x some)
            (none_flies head t r stamp c past f here live (on_of r h f.op x some)))

  -- to any
  pub own_flies : (u : ℕ) (f : Flight) → Here head t r (line (turn stamp (Client c)) (word.Flies u f)) past
      → is_live c past (story t r past) ≡ true → AskedOf t r (line (turn stamp (Client c)) (word.Flies u f) ∷ past) c who
  own_flies u f here live = by (nat_eq u t) refl
    where
      none : (change : Flush) → word.Flies u f ≡ word.WritesBack r change → ⊥
      none change z = absurd (cc)

      by : (b : Bool) → nat_eq u t ≡ b → AskedOf t r (line (turn stamp (Client c)) (word.Flies u f) ∷ past) c who
      by true same = let s = eqb-true u t same in subst (λ (v : ℕ). AskedOf t r (line (turn stamp (Client c)) (word.Flies v f) ∷ past) c
          who) (sym s) (flies_here f (subst (λ (v : ℕ). Here head t r (line (turn stamp (Client c)) (word.Flies v f)) past) s here) live)
      by false other =
          asked_else head t r stamp c past (word.Flies u f) here (turned u t other)
          (ap (λ (b : Bool). if b then of_life (Client c) past (flies r f h) h else h) other) refl
          (shows_none head t r stamp c past (word.Flies u f) here tt) (shown_none head t r stamp c past (word.Flies u f) here tt tt)
          (flight_same head t r stamp c past (word.Flies u f) here tt) (λ change j. none change j.1) (here.tied.asked.of c live)
