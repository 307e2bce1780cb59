-- Request numbers and tags at one target: each request of a life has a number of its own, above all before it, and a
-- tag that no other of that life in flight has; what was heard flies no more, and no more fly than may.
use Rattle.std.proofs.Common.{◌≡◌, ℕ, zero, suc, ◌+◌, ◌≤◌, Bool, true, false, List, [], ◌∷◌, ◌++◌, ◌⊎◌, inl, inr, ⊎_elim, refl, sym, subst}
use Rattle.std.proofs.Common.{ap, ◌∙◌, arith}
use Rattle.std.specs.Prelude.{nat_eq, not, ◌&&◌, if◌then◌else◌, length}
use Rattle.std.specs.List.{filter}
use Rattle.std.proofs.lemmas.Bool.{and_parts, and_from, cond_both, eqb-true, not-true}
use Rattle.std.proofs.lemmas.Bool.Decides.{nat_tests}
use Rattle.lu_base.specs.declared.ids.Node.{Node}
use Rattle.lu_base.specs.declared.ids.Node.TheVariants.{Client, Target}
use Rattle.lu_base.specs.declared.ids.Stamp.{Stamp}
use Rattle.lu_base.specs.declared.ids.Who.{Who}
use Rattle.lu_msg.specs.declared.messages.Reply.{Reply as ReplyTo}
use Rattle.lu_spec_entries.specs.Carried.{Flight}
use Rattle.lu_spec_entries.specs.Words.{Entry, Flies, Heard, Life, Line, line, same_life}
use Rattle.lu_proof_lawful.specs.Covered.Imports.{without_flight, has_tag, above_tags, free_from, free_tag}
use Rattle.lu_proof_lawful.specs.Covered.ClientStates.{flights_of, last_of, life_of, tag_of, is_own}
use Rattle.lu_proof_lawful.specs.Covered.Heads.{Head}
use Rattle.lu_proof_lawful.proofs.Preconditions.Guards.{In}
use Rattle.lu_proof_lawful.proofs.Preconditions.StoryGuards.{FliesOk, LifeOf, EntryOf}
use Rattle.lu_proof_lawful.proofs.Preconditions.Lists.{self, in_append, in_filter, in_filtered, in_left, in_right, own_is}
use Rattle.lu_proof_lawful.proofs.Invariants.Groups.{turn, HoldsAt}
use Rattle.lu_proof_lawful.proofs.Invariants.TargetGroups.{Flew, Hears, Phase, Tagged, Numbers, Room}
use Rattle.lu_proof_lawful.proofs.Invariants.Phase.{life_rises}

-- ---- the free tag

above_free : (flights : List Flight) (tag : ℕ) → above_tags flights ≤ tag → has_tag tag flights ≡ false
above_free [] tag le = refl
above_free (f ∷ flights) tag le = grind (arith, nat_tests, above_free flights tag)

free_is : (more : ℕ) (flights : List Flight) (tag : ℕ) → above_tags flights ≤ more + tag → has_tag (free_from more flights tag) flights
    ≡ false
free_is zero flights tag le = above_free flights tag (omega arith)
free_is (suc more) flights tag le = by (has_tag tag flights) refl (free_is more flights (tag + 1) (omega arith))
  where
    by : (t : Bool) → has_tag tag flights ≡ t → has_tag (free_from more flights (tag + 1)) flights ≡ false
        → has_tag (if t then free_from more flights (tag + 1) else tag) flights ≡ false
    by true e h = h
    by false e h = e

has_in : (flights : List Flight) (f : Flight) → In f flights → has_tag f.tag flights ≡ true
has_in [] f i = absurd i
has_in (g ∷ flights) f (inl e) = let q : g.tag ≡ f.tag = ap (λ (k : Flight). k.tag) e in grind (arith, nat_tests)
has_in (g ∷ flights) f (inr i) = grind (arith, nat_tests, has_in flights f i)

free_new : (flights : List Flight) (f : Flight) → In f flights → f.tag ≡ free_tag flights → ⊥
free_new flights f i e = let a = has_in flights f i in let b = free_is (above_tags flights) flights 0 (omega arith)
    in let c : has_tag f.tag flights ≡ has_tag (free_tag flights) flights = ap (λ t. has_tag t flights) e in absurd (cc)

-- ---- one more in flight

module _ (head : Head) (past : List Line) (stamp : Stamp) (d t : ℕ) (f : Flight) (ok : FliesOk head past d t f) (p : Phase head.osts past)
    (h : Numbers past) where
  abbrev new : List Line
  new = line (turn stamp (Client d)) (Flies t f) ∷ past

  abbrev me : Who
  me = life_of d past

  next : f.xid ≡ last_of me past + 1
  next = ap (λ (g : Flight). g.xid) ok.is

  last_same : (who : Who) → same_life who me ≡ true → last_of who past ≡ last_of me past
  last_same who e = ap (λ v. last_of v past) (own_is who past d e)

  higher : (who : Who) (x : ℕ) → x ≤ last_of who past → x ≤ last_of who new
  higher who x le = cond_both (same_life who me) f.xid (last_of who past) (λ (v : ℕ). x ≤ v)
      (λ q. let s = last_same who q in let n = next in omega arith) (λ q. le)

  older : (who : Who) (x tag : ℕ) → Tagged past who x tag → Tagged new who x tag
  older who x tag k =
      record {
        low = higher who x k.low;
        tag = cond_both (same_life who me && nat_eq f.xid x) f.tag (tag_of who x past) (λ (v : ℕ). v ≡ tag)
            (λ q. let p = and_parts (same_life who me) (nat_eq f.xid x) q in let s = last_same who p.0 in let y = eqb-true f.xid x p.1
            in let n = next in let l = k.low in absurd (omega arith))
            (λ q. k.tag);
      }

  mine : (who : Who) → same_life who me ≡ true → Tagged new who f.xid f.tag
  mine who e =
      record {
        low = cond_both (same_life who me) f.xid (last_of who past) (λ (v : ℕ). f.xid ≤ v) (λ q. omega arith) (λ q. absurd (cc));
        tag = cond_both (same_life who me && nat_eq f.xid f.xid) f.tag (tag_of who f.xid past) (λ (v : ℕ). v ≡ f.tag) (λ q. refl)
            (λ q. let b = and_from (same_life who me) (nat_eq f.xid f.xid) e (self f.xid) in absurd (cc));
      }

  -- it has the newest number
  above : (who : Who) (g : Flight) → same_life who me ≡ true → Flew past who g → f.xid ≡ g.xid → ⊥
  above who g e w x = let l = (h.tagged who g w).low in let s = last_same who e in let n = next in omega arith

  fly_in : (who : Who) (g : Flight) → In g (flights_of who new) → ((same_life who me ≡ true) × (f ≡ g)) ⊎ In g (flights_of who past)
  fly_in who g =
      cond_both (same_life who me) (flights_of who past ++ f ∷ []) (flights_of who past)
      (λ (fs : List Flight). In g fs → ((same_life who me ≡ true) × (f ≡ g)) ⊎ In g (flights_of who past))
      (λ q i. ⊎_elim (λ (j : In g (flights_of who past)). inr j)
      (λ (j : In g (f ∷ [])). ⊎_elim (λ (e : f ≡ g). inl (q, e)) (λ (v : ⊥). absurd v) j)
      (in_append g (flights_of who past) (f ∷ []) i))
      (λ q i. inr i)

  flies_on : (who : Who) (g : Flight) → In g (flights_of who past) → In g (flights_of who new)
  flies_on who g i = cond_both (same_life who me) (flights_of who past ++ f ∷ []) (flights_of who past) (λ (fs : List Flight). In g fs)
      (λ q. in_left g (flights_of who past) (f ∷ []) i) (λ q. i)

  flies_now : (who : Who) → same_life who me ≡ true → In f (flights_of who new)
  flies_now who e = cond_both (same_life who me) (flights_of who past ++ f ∷ []) (flights_of who past) (λ (fs : List Flight). In f fs)
      (λ q. in_right f (flights_of who past) (f ∷ []) (inl refl)) (λ q. absurd (cc))

  taken : (who : Who) (g : Flight) → In g (flights_of who past) → same_life who me ≡ true → g.tag ≡ f.tag → ⊥
  taken who g i e s = free_new (flights_of me past) g (subst (λ v. In g (flights_of v past)) (own_is who past d e) i)
      (s ∙ ap (λ (v : Flight). v.tag) ok.is)

  -- the life is the client's present one
  present : (who : Who) → same_life who me ≡ true → who.life ≤ (life_of who.client past).life
  present who e =
      let w = own_is who past d e in
      let c : who.client ≡ d = ap (λ (v : Who). v.client) w ∙ p.client d in
      let s : who.life ≡ me.life = ap (λ (v : Who). v.life) w in
      let n : (life_of who.client past).life ≡ me.life = ap (λ v. (life_of v past).life) c in
      omega arith

  numbers_flies : Numbers new
  numbers_flies =
      record {
        positive = λ who g. ⊎_elim
            (λ (p : (same_life who me ≡ true) × (f ≡ g)). let y : f.xid ≡ g.xid = ap (λ (k : Flight). k.xid) p.1 in let n = next
            in omega arith)
            (λ (p : Flew past who g). h.positive who g p);
        tagged = λ who g. ⊎_elim
            (λ (p : (same_life who me ≡ true) × (f ≡ g)). subst (λ (v : Flight). Tagged new who v.xid v.tag) p.1 (mine who p.0))
            (λ (p : Flew past who g). older who g.xid g.tag (h.tagged who g p));
        one = λ who g k. ⊎_elim
            (λ (p : (same_life who me ≡ true) × (f ≡ g)). ⊎_elim
            (λ (q : (same_life who me ≡ true) × (f ≡ k)) e. sym p.1 ∙ q.1)
            (λ (q : Flew past who k) e. absurd (above who k p.0 q (ap (λ (j : Flight). j.xid) p.1 ∙ e))))
            (λ (p : Flew past who g). ⊎_elim
            (λ (q : (same_life who me ≡ true) × (f ≡ k)) e. absurd (above who g q.0 p (ap (λ (j : Flight). j.xid) q.1 ∙ sym e)))
            (λ (q : Flew past who k) e. h.one who g k p q e));
        flying = λ who g i. ⊎_elim
            (λ (p : (same_life who me ≡ true) × (f ≡ g)). inl p)
            (λ (j : In g (flights_of who past)). inr (h.flying who g j))
            (fly_in who g i);
        tags = λ who g k i j e. ⊎_elim
            (λ (p : (same_life who me ≡ true) × (f ≡ g)). ⊎_elim
            (λ (q : (same_life who me ≡ true) × (f ≡ k)). ap (λ (v : Flight). v.xid) (sym p.1 ∙ q.1))
            (λ (q : In k (flights_of who past)). absurd (taken who k q p.0 (sym e ∙ ap (λ (v : Flight). v.tag) (sym p.1))))
            (fly_in who k j))
            (λ (p : In g (flights_of who past)). ⊎_elim
            (λ (q : (same_life who me ≡ true) × (f ≡ k)). absurd (taken who g p q.0 (e ∙ ap (λ (v : Flight). v.tag) (sym q.1))))
            (λ (q : In k (flights_of who past)). h.tags who g k p q e)
            (fly_in who k j))
            (fly_in who g i);
        over = λ who x p. let old = h.over who x p in (
          higher who x old.0,
          λ g i e. ⊎_elim
              (λ (q : (same_life who me ≡ true) × (f ≡ g)). let y : f.xid ≡ g.xid = ap (λ (v : Flight). v.xid) q.1 in let s =
              last_same who q.0 in let n = next in let l = old.0 in omega arith)
              (λ (j : In g (flights_of who past)). old.1 g j e)
              (fly_in who g i),
        );
        stays = λ who g. ⊎_elim
            (λ (p : (same_life who me ≡ true) × (f ≡ g)). inl (subst (λ (v : Flight). In v (flights_of who new)) p.1 (flies_now who p.0)))
            (λ (p : Flew past who g). ⊎_elim (λ (i : In g (flights_of who past)). inl (flies_on who g i))
            (λ (q : Hears past who g.xid). inr q) (h.stays who g p));
        after = λ who g k. ⊎_elim
            (λ (p : (same_life who me ≡ true) × (f ≡ g)). ⊎_elim
            (λ (q : (same_life who me ≡ true) × (f ≡ k)) e lt. let y : g.xid ≡ k.xid = ap (λ (v : Flight). v.xid) (sym p.1 ∙ q.1)
            in absurd (omega arith))
            (λ (q : Flew past who k) e lt. let y : f.xid ≡ g.xid = ap (λ (v : Flight). v.xid) p.1 in let l = (h.tagged who k q).low
            in let s = last_same who p.0 in let n = next in absurd (omega arith)))
            (λ (p : Flew past who g). ⊎_elim
            (λ (q : (same_life who me ≡ true) × (f ≡ k)) e lt. ⊎_elim
            (λ (i : In g (flights_of who past)). absurd (taken who g i q.0 (e ∙ ap (λ (v : Flight). v.tag) (sym q.1))))
            (λ (r : Hears past who g.xid). r)
            (h.stays who g p))
            (λ (q : Flew past who k) e lt. h.after who g k p q e lt));
        lived = λ who g. ⊎_elim (λ (p : (same_life who me ≡ true) × (f ≡ g)). present who p.0) (λ (p : Flew past who g). h.lived who g p);
      }

-- ---- one less in flight

heard_less : (past : List Line) (stamp : Stamp) (d t : ℕ) (f : Flight) (r : ReplyTo) (who : Who) (g : Flight)
    → In g (flights_of who (line (turn stamp (Client d)) (Heard t f r) ∷ past)) → In g (flights_of who past)
heard_less past stamp d t f r who g =
    cond_both (is_own who past (Client d)) (without_flight f.xid (flights_of who past)) (flights_of who past)
    (λ (fs : List Flight). In g fs → In g (flights_of who past))
    (λ q i. (in_filter (λ (k : Flight). not (nat_eq k.xid f.xid)) g (flights_of who past) i).0)
    (λ q i. i)

heard_gone : (past : List Line) (stamp : Stamp) (d t : ℕ) (f : Flight) (r : ReplyTo) (who : Who) (g : Flight) → is_own who past (Client d)
    ≡ true → In g (flights_of who (line (turn stamp (Client d)) (Heard t f r) ∷ past)) → g.xid ≡ f.xid → ⊥
heard_gone past stamp d t f r who g e =
    cond_both (is_own who past (Client d)) (without_flight f.xid (flights_of who past)) (flights_of who past)
    (λ (fs : List Flight). In g fs → g.xid ≡ f.xid → ⊥)
    (λ q i k. let y = not-true (nat_eq g.xid f.xid) (in_filter (λ (v : Flight). not (nat_eq v.xid f.xid)) g (flights_of who past) i).1
    in grind (arith, nat_tests))
    (λ q i k. absurd (cc))

heard_or_stays : (past : List Line) (stamp : Stamp) (d t : ℕ) (f : Flight) (r : ReplyTo) (who : Who) (g : Flight) → let new =
    line (turn stamp (Client d)) (Heard t f r) ∷ past in In g (flights_of who past) → In g (flights_of who new) ⊎ Hears new who g.xid
heard_or_stays past stamp d t f r who g i =
    cond_both (is_own who past (Client d)) (without_flight f.xid (flights_of who past)) (flights_of who past)
    (λ (fs : List Flight). In g fs ⊎ Hears (line (turn stamp (Client d)) (Heard t f r) ∷ past) who g.xid)
    (λ q. by (nat_eq g.xid f.xid) refl q)
    (λ q. inl i)
  where
    by : (b : Bool) → nat_eq g.xid f.xid ≡ b → is_own who past (Client d) ≡ true → In g (without_flight f.xid (flights_of who past))
        ⊎ Hears (line (turn stamp (Client d)) (Heard t f r) ∷ past) who g.xid
    by true e s = inr (inl (s, sym (eqb-true g.xid f.xid e)))
    by false e s = inl (in_filtered (λ (k : Flight). not (nat_eq k.xid f.xid)) g (flights_of who past) i (ap not e))

numbers_heard : (past : List Line) (stamp : Stamp) (d t : ℕ) (f : Flight) (r : ReplyTo) → In f (flights_of (life_of d past) past)
    → Numbers past → Numbers (line (turn stamp (Client d)) (Heard t f r) ∷ past)
numbers_heard past stamp d t f r flying h =
    record {
      positive = h.positive;
      tagged = h.tagged;
      one = h.one;
      flying = λ who g i. h.flying who g (heard_less past stamp d t f r who g i);
      tags = λ who g k i j. h.tags who g k (heard_less past stamp d t f r who g i) (heard_less past stamp d t f r who k j);
      over = λ who x. ⊎_elim
          (λ (p : (is_own who past (Client d) ≡ true) × (f.xid ≡ x)).
          let low = (h.tagged (life_of d past) f (h.flying (life_of d past) f flying)).low in
          let s : last_of who past ≡ last_of (life_of d past) past = ap (λ v. last_of v past) (own_is who past d p.0) in
          let y = p.1 in
          (omega arith, λ g i w. heard_gone past stamp d t f r who g p.0 i (w ∙ sym y)))
          (λ (p : Hears past who x). let old = h.over who x p in (old.0, λ g i w. old.1 g (heard_less past stamp d t f r who g i) w));
      stays = λ who g p. ⊎_elim (λ (i : In g (flights_of who past)). heard_or_stays past stamp d t f r who g i)
          (λ (q : Hears past who g.xid). inr (inr q)) (h.stays who g p);
      after = λ who g k p q e lt. inr (h.after who g k p q e lt);
      lived = h.lived;
    }

-- ---- a new life

numbers_life : (past : List Line) (stamp : Stamp) (d : ℕ) (new : Who) → LifeOf past d new → Numbers past
    → Numbers (line (turn stamp (Client d)) (Life new) ∷ past)
numbers_life past stamp d new ok h =
    record {
      positive = h.positive;
      tagged = h.tagged;
      one = h.one;
      flying = h.flying;
      tags = h.tags;
      over = h.over;
      stays = h.stays;
      after = h.after;
      lived = λ who f p. let le = h.lived who f p in let rises = life_rises past stamp d new ok who.client in omega arith;
    }

pub numbers_start : Numbers []
numbers_start =
    record {
      positive = λ who f i. absurd i;
      tagged = λ who f i. absurd i;
      one = λ who f g i. absurd i;
      flying = λ who f i. absurd i;
      tags = λ who f g i. absurd i;
      over = λ who x i. absurd i;
      stays = λ who f i. absurd i;
      after = λ who f g i. absurd i;
      lived = λ who f i. absurd i;
    }

pub keeps_numbers : (head : Head) (past : List Line) (stamp : Stamp) (node : Node) (e : Entry) → EntryOf head past (turn stamp node) node e
    → HoldsAt head past → Numbers (line (turn stamp node) e ∷ past)
keeps_numbers head past stamp (Client c) (Flies t f) ok h = numbers_flies head past stamp c t f ok h.phase h.numbers
keeps_numbers head past stamp (Client c) (Heard t f r) ok h = numbers_heard past stamp c t f r ok.flying h.numbers
keeps_numbers head past stamp (Client c) (Life who) ok h = numbers_life past stamp c who ok h.numbers
keeps_numbers head past stamp (Target u) (Flies t f) ok h = absurd ok
keeps_numbers head past stamp (Target u) (Heard t f r) ok h = absurd ok
keeps_numbers head past stamp node e ok h = h.numbers

-- ---- room

length_snoc : (xs : List Flight) (f : Flight) → length (xs ++ f ∷ []) ≡ length xs + 1
length_snoc [] f = refl
length_snoc (x ∷ xs) f = let h = length_snoc xs f in omega arith

length_less : (g : Flight → Bool) (xs : List Flight) → length (filter g xs) ≤ length xs
length_less g [] = omega arith
length_less g (x ∷ xs) = let h = length_less g xs in cond_both (g x) (x ∷ filter g xs) (filter g xs)
    (λ (ys : List Flight). length ys ≤ length (x ∷ xs)) (λ t. omega arith) (λ t. omega arith)

pub room_start : (head : Head) → Room head []
room_start head who = omega arith

pub keeps_room : (head : Head) (past : List Line) (stamp : Stamp) (node : Node) (e : Entry) → EntryOf head past (turn stamp node) node e
    → HoldsAt head past → Room head (line (turn stamp node) e ∷ past)
keeps_room head past stamp (Client d) (Flies t f) ok h = λ who.
    cond_both (is_own who past (Client d)) (flights_of who past ++ f ∷ []) (flights_of who past)
    (λ (fs : List Flight). length fs ≤ head.flight)
    (λ q. let s : length (flights_of who past) ≡ length (flights_of (life_of d past) past) =
    ap (λ v. length (flights_of v past)) (own_is who past d q) in let r = ok.room in let l = length_snoc (flights_of who past) f
    in omega arith)
    (λ q. h.room who)
keeps_room head past stamp (Client d) (Heard t f r) ok h = λ who.
    cond_both (is_own who past (Client d)) (without_flight f.xid (flights_of who past)) (flights_of who past)
    (λ (fs : List Flight). length fs ≤ head.flight)
    (λ q. let l = length_less (λ (k : Flight). not (nat_eq k.xid f.xid)) (flights_of who past) in let k = h.room who in omega arith)
    (λ q. h.room who)
keeps_room head past stamp (Target u) (Flies t f) ok h = absurd ok
keeps_room head past stamp (Target u) (Heard t f r) ok h = absurd ok
keeps_room head past stamp node e ok h = h.room
