-- The lines of a call that changes bytes: together they do to each offset of an object what the call does there to the file. One of them
-- changes
-- each object that it wants; an object that it doesn't want has none of its bytes.
use Rattle.std.proofs.Common.{◌≡◌, ℕ, zero, suc, ◌+◌, ◌-◌, ◌<◌, ◌≤◌, Bool, true, false, List, [], ◌∷◌, length, Option, inl, inr, refl, sym}
use Rattle.std.proofs.Common.{subst, ap, ◌∙◌, arith, add-one}
use Rattle.std.specs.Prelude.{nat_eq, nat_lt, ◌&&◌, map, if◌then◌else◌}
use Rattle.std.specs.List.{range_with_len}
use Rattle.std.proofs.lemmas.Bool.{cond_both, eqb-true}
use Rattle.std.proofs.lemmas.Bool.Decides.{nat_tests}
use Rattle.lu_base.specs.declared.ids.Fid.{Fid}
use Rattle.lu_base.specs.declared.ids.Node.TheVariants.{Client}
use Rattle.lu_base.specs.declared.ids.Stamp.{Stamp}
use Rattle.lu_base.specs.declared.ids.Who.{Who}
use Rattle.lu_base.specs.declared.locks.Mode.TheVariants.{PW}
use Rattle.lu_base.specs.declared.locks.Resource.{Resource}
use Rattle.lu_layout.specs.Raid0.{Raid0}
use Rattle.lu_layout.specs.Sound.{IsLayout}
use Rattle.lu_held.specs.declared.locks.Use.{Use}
use Rattle.lu_held.specs.Locks.{same_resource}
use Rattle.lu_msg.specs.declared.calls.Call.{Call}
use Rattle.lu_msg.specs.declared.calls.Call.TheVariants as call
use Rattle.lu_spec_entries.specs.declared.changes.Flush.TheVariants.{Cut}
use Rattle.lu_spec_entries.specs.declared.uses.Using.{Using}
use Rattle.lu_spec_entries.specs.Carried.{Work, Kind, Running}
use Rattle.lu_spec_entries.specs.Words.{Line, with_turn}
use Rattle.lu_spec_client.specs.Advances.{writes, cuts}
use Rattle.lu_spec_client.specs.Stripes.{below_on, bytes_on, stripes}
use Rattle.lu_spec_client.specs.Wants.{want, wants_run, wants_cut, wants_of}
use Rattle.lu_proof_objects.proofs.Pieces.{on_length}
use Rattle.lu_proof_lawful.proofs.Preconditions.Guards.{ChangesOn, pieces_of, wanted_by}
use Rattle.lu_proof_lawful.proofs.Preconditions.Lists.{turn}
use Rattle.lu_proof_bytes.specs.Object.Words.{Write, Cut as CutTo, overlay, after_at}
use Rattle.lu_proof_lawful.proofs.Laws.MachineBytes.{here, changes_at}
use Rattle.lu_proof_lawful.proofs.Laws.Untold.{counts, untold}

-- ---- one want after another

abbrev on_wants : (Use → Option ℕ → Option ℕ) → List Use → Option ℕ → Option ℕ
on_wants f [] y = y
on_wants f (w ∷ ws) y = on_wants f ws (f w y)

-- a list of wants by stripes, of which that of each does its part to the object, and nothing to others
module _ (ws : List ℕ → List Use) (f : Use → Option ℕ → Option ℕ) (fid : Fid) (r : Resource) (does : Option ℕ → Option ℕ) (count : ℕ)
    (none : (y : Option ℕ) → on_wants f (ws []) y ≡ y)
    (step : (i : ℕ) (is : List ℕ) (y : Option ℕ) → i < count → on_wants f (ws (i ∷ is)) y
    ≡ on_wants f (ws is) (if nat_eq fid.0 r.fid.0 && nat_eq i r.stripe then does y else y)) where
  next : (a n : ℕ) (y : Option ℕ) → on_wants f (ws (range_with_len (a + 1) n)) y ≡ on_wants f (ws (range_with_len (suc a) n)) y
  next a n y = ap (λ (k : ℕ). on_wants f (ws (range_with_len k n)) y) (add-one a)

  off : (a b : Bool) (y z : Option ℕ) → b ≡ false → (if a && b then y else z) ≡ z
  off true false y z e = refl
  off false b y z e = refl
  off true true y z e = absurd (cc)

  after : (a n : ℕ) (y : Option ℕ) → a + n ≤ count → r.stripe < a → on_wants f (ws (range_with_len a n)) y ≡ y
  after a zero y le lt = none y
  after a (suc n) y le lt =
      step a (range_with_len (a + 1) n) y (omega (arith, le))
      ∙ ap (on_wants f (ws (range_with_len (a + 1) n))) (off (nat_eq fid.0 r.fid.0) (nat_eq a r.stripe) (does y) y
      (grind (arith, nat_tests, lt)))
      ∙ next a n y ∙ after (suc a) n y (omega (arith, le)) (omega (arith, lt))

  within : (a n : ℕ) (y : Option ℕ) → a + n ≤ count → a ≤ r.stripe → on_wants f (ws (range_with_len a n)) y
      ≡ (if nat_eq fid.0 r.fid.0 && nat_lt r.stripe (a + n) then does y else y)
  within a zero y le low = none y ∙ sym (off (nat_eq fid.0 r.fid.0) (nat_lt r.stripe (a + 0)) (does y) y (grind (arith, nat_tests, low)))
  within a (suc n) y le low = step a (range_with_len (a + 1) n) y (omega (arith, le))
      ∙ next a n (if nat_eq fid.0 r.fid.0 && nat_eq a r.stripe then does y else y)
      ∙ by (nat_eq a r.stripe) refl (λ le low. within (suc a) n y le low)
    where
      by : (v : Bool) → nat_eq a r.stripe ≡ v → (suc a + n ≤ count → suc a ≤ r.stripe → on_wants f (ws (range_with_len (suc a) n)) y
          ≡ (if nat_eq fid.0 r.fid.0 && nat_lt r.stripe (suc a + n) then does y else y))
          → on_wants f (ws (range_with_len (suc a) n)) (if nat_eq fid.0 r.fid.0 && v then does y else y)
          ≡ (if nat_eq fid.0 r.fid.0 && nat_lt r.stripe (a + suc n) then does y else y)
      by true e ih =
          let same = eqb-true a r.stripe e in
          let here : nat_lt r.stripe (a + suc n) ≡ true = grind (arith, nat_tests, same) in
          after (suc a) n (if nat_eq fid.0 r.fid.0 && true then does y else y) (omega (arith, le)) (omega (arith, same))
          ∙ ap (λ (b : Bool). if nat_eq fid.0 r.fid.0 && b then does y else y) (sym here)
      by false e ih =
          let more : nat_lt r.stripe (suc a + n) ≡ nat_lt r.stripe (a + suc n) = ap (nat_lt r.stripe) (omega arith) in
          ap (on_wants f (ws (range_with_len (suc a) n))) (off (nat_eq fid.0 r.fid.0) false (does y) y refl)
          ∙ ih (omega (arith, le)) (grind (arith, nat_tests, low, e))
          ∙ ap (λ (b : Bool). if nat_eq fid.0 r.fid.0 && b then does y else y) more

  all : (y : Option ℕ) → on_wants f (ws (range_with_len 0 count)) y ≡ (if nat_eq fid.0 r.fid.0 && nat_lt r.stripe count then does y else y)
  all y = within 0 count y (omega arith) (omega arith) ∙ ap (λ (n : ℕ). if nat_eq fid.0 r.fid.0 && nat_lt r.stripe n then does y else y)
      (omega arith)

-- ---- writes and cuts

module _ (out : Who → Bool) (r : Resource) (q : ℕ) (x : Option ℕ) (c : ℕ) (stamp : Stamp) (l : Raid0) where
  abbrev does_write : ℕ → List ℕ → Use → Option ℕ → Option ℕ
  does_write p bs w y = if same_resource w.resource r then overlay (below_on l w.resource.stripe p) (bytes_on l w.resource.stripe p bs) q y
      else y

  abbrev does_cut : ℕ → Use → Option ℕ → Option ℕ
  does_cut n w y = if same_resource w.resource r then after_at (CutTo (below_on l w.resource.stripe n)) q y else y

  counted : (a b : Bool) (y z : Option ℕ) → b ≡ true → (if a && b then y else z) ≡ (if a then y else z)
  counted true b y z e = ap (λ (v : Bool). if v then y else z) e
  counted false b y z e = refl

  dropped : (a b : Bool) (y z : Option ℕ) → b ≡ false → (if a && b then y else z) ≡ z
  dropped true b y z e = ap (λ (v : Bool). if v then y else z) e
  dropped false b y z e = refl

  -- of a life that counts, and of one that doesn't
  untold_writes : (p : ℕ) (bs : List ℕ) (us : List Using) (past : List Line) → counts out (Client c) past ≡ true
      → untold out r (with_turn (turn stamp (Client c)) (writes l p bs us) past) q x
      ≡ on_wants (does_write p bs) (map (λ (u : Using). u.want) us) (untold out r past q x)
  untold_writes p bs [] past own = refl
  untold_writes p bs (u ∷ us) past own =
      untold_writes p bs us _ own
      ∙ ap (on_wants (does_write p bs) (map (λ (v : Using). v.want) us))
      (counted (same_resource u.want.resource r) (counts out (Client c) past)
      (overlay (below_on l u.want.resource.stripe p) (bytes_on l u.want.resource.stripe p bs) q (untold out r past q x))
      (untold out r past q x) own)

  gone_writes : (p : ℕ) (bs : List ℕ) (us : List Using) (past : List Line) → counts out (Client c) past ≡ false
      → untold out r (with_turn (turn stamp (Client c)) (writes l p bs us) past) q x ≡ untold out r past q x
  gone_writes p bs [] past own = refl
  gone_writes p bs (u ∷ us) past own =
      gone_writes p bs us _ own
      ∙ dropped (same_resource u.want.resource r) (counts out (Client c) past)
      (overlay (below_on l u.want.resource.stripe p) (bytes_on l u.want.resource.stripe p bs) q (untold out r past q x))
      (untold out r past q x) own

  untold_cuts : (n : ℕ) (us : List Using) (past : List Line) → counts out (Client c) past ≡ true
      → untold out r (with_turn (turn stamp (Client c)) (cuts l n us) past) q x
      ≡ on_wants (does_cut n) (map (λ (u : Using). u.want) us) (untold out r past q x)
  untold_cuts n [] past own = refl
  untold_cuts n (u ∷ us) past own =
      untold_cuts n us _ own
      ∙ ap (on_wants (does_cut n) (map (λ (v : Using). v.want) us))
      (counted (same_resource u.want.resource r) (counts out (Client c) past)
      (after_at (CutTo (below_on l u.want.resource.stripe n)) q (untold out r past q x)) (untold out r past q x) own)

  gone_cuts : (n : ℕ) (us : List Using) (past : List Line) → counts out (Client c) past ≡ false
      → untold out r (with_turn (turn stamp (Client c)) (cuts l n us) past) q x ≡ untold out r past q x
  gone_cuts n [] past own = refl
  gone_cuts n (u ∷ us) past own =
      gone_cuts n us _ own
      ∙ dropped (same_resource u.want.resource r) (counts out (Client c) past)
      (after_at (CutTo (below_on l u.want.resource.stripe n)) q (untold out r past q x)) (untold out r past q x) own

  -- the wants of a write
  write_wants : (fid : Fid) (p : ℕ) (bs : List ℕ) (y : Option ℕ) → IsLayout l
      → on_wants (does_write p bs) (wants_run l fid PW p (p + length bs) (stripes l)) y
      ≡ (if here l fid r then overlay (below_on l r.stripe p) (bytes_on l r.stripe p bs) q y else y)
  write_wants fid p bs y good =
      all (λ is. wants_run l fid PW p (p + length bs) is) (does_write p bs) fid r
      (λ z. overlay (below_on l r.stripe p) (bytes_on l r.stripe p bs) q z) (length l.targets) (λ z. refl) step y
    where
      Rest : List ℕ → Option ℕ → Option ℕ
      Rest is z = on_wants (does_write p bs) (wants_run l fid PW p (p + length bs) is) z

      -- what the want of a stripe does is what the write does there
      same : (i : ℕ) (z : Option ℕ) → (if nat_eq fid.0 r.fid.0 && nat_eq i r.stripe then overlay (below_on l i p) (bytes_on l i p bs) q z
          else z) ≡ (if nat_eq fid.0 r.fid.0 && nat_eq i r.stripe then overlay (below_on l r.stripe p) (bytes_on l r.stripe p bs) q z
          else z)
      same i z = by (nat_eq fid.0 r.fid.0) (nat_eq i r.stripe) refl
        where
          by : (a b : Bool) → nat_eq i r.stripe ≡ b → (if a && b then overlay (below_on l i p) (bytes_on l i p bs) q z else z)
              ≡ (if a && b then overlay (below_on l r.stripe p) (bytes_on l r.stripe p bs) q z else z)
          by true true e = ap (λ (j : ℕ). overlay (below_on l j p) (bytes_on l j p bs) q z) (eqb-true i r.stripe e)
          by true false e = refl
          by false b e = refl

      -- and an object that isn't wanted has none of the bytes
      unwanted : (i : ℕ) (z : Option ℕ) → i < length l.targets → nat_lt (below_on l i p) (below_on l i (p + length bs)) ≡ false → z
          ≡ (if nat_eq fid.0 r.fid.0 && nat_eq i r.stripe then overlay (below_on l i p) (bytes_on l i p bs) q z else z)
      unwanted i z low e =
          cond_both (nat_eq fid.0 r.fid.0 && nat_eq i r.stripe) (overlay (below_on l i p) (bytes_on l i p bs) q z) z
          (λ (w : Option ℕ). z ≡ w)
          (λ t. empty (bytes_on l i p bs) (let n = on_length l i p bs good low in grind (arith, nat_tests, n, e))) (λ t. refl)
        where
          empty : (vs : List ℕ) → length vs ≡ 0 → z ≡ overlay (below_on l i p) vs q z
          empty [] e = refl
          empty (v ∷ vs) e = absurd (omega (arith, e))

      step : (i : ℕ) (is : List ℕ) (z : Option ℕ) → i < length l.targets
          → on_wants (does_write p bs) (wants_run l fid PW p (p + length bs) (i ∷ is)) z
          ≡ on_wants (does_write p bs) (wants_run l fid PW p (p + length bs) is)
          (if nat_eq fid.0 r.fid.0 && nat_eq i r.stripe then overlay (below_on l r.stripe p) (bytes_on l r.stripe p bs) q z else z)
      step i is z low = by (nat_lt (below_on l i p) (below_on l i (p + length bs))) refl ∙ ap (Rest is) (same i z)
        where
          by : (v : Bool) → nat_lt (below_on l i p) (below_on l i (p + length bs)) ≡ v
              → on_wants (does_write p bs) (if v then want l fid PW i
              (record { first = below_on l i p; last = below_on l i (p + length bs) - 1 }) ∷ wants_run l fid PW p (p + length bs) is
              else wants_run l fid PW p (p + length bs) is) z
              ≡ on_wants (does_write p bs) (wants_run l fid PW p (p + length bs) is)
              (if nat_eq fid.0 r.fid.0 && nat_eq i r.stripe then overlay (below_on l i p) (bytes_on l i p bs) q z else z)
          by true e = refl
          by false e = ap (Rest is) (unwanted i z low e)

  cut_wants : (fid : Fid) (n : ℕ) (y : Option ℕ) → on_wants (does_cut n) (wants_cut l fid n (stripes l)) y
      ≡ (if here l fid r then after_at (CutTo (below_on l r.stripe n)) q y else y)
  cut_wants fid n y = all (λ is. wants_cut l fid n is) (does_cut n) fid r (λ z. after_at (CutTo (below_on l r.stripe n)) q z)
      (length l.targets) (λ z. refl) step y
    where
      step : (i : ℕ) (is : List ℕ) (z : Option ℕ) → i < length l.targets → on_wants (does_cut n) (wants_cut l fid n (i ∷ is)) z
          ≡ on_wants (does_cut n) (wants_cut l fid n is) (if nat_eq fid.0 r.fid.0 && nat_eq i r.stripe
          then after_at (CutTo (below_on l r.stripe n)) q z else z)
      step i is z low = ap (on_wants (does_cut n) (wants_cut l fid n is)) (by (nat_eq fid.0 r.fid.0) (nat_eq i r.stripe) refl)
        where
          by : (a b : Bool) → nat_eq i r.stripe ≡ b → (if a && b then after_at (CutTo (below_on l i n)) q z else z)
              ≡ (if a && b then after_at (CutTo (below_on l r.stripe n)) q z else z)
          by true true e = ap (λ (j : ℕ). after_at (CutTo (below_on l j n)) q z) (eqb-true i r.stripe e)
          by true false e = refl
          by false b e = refl

  -- what the call's lines do together is what the call does
  pub block_is : (running : Running) (done : Work) (past : List Line) → l ≡ done.layout → IsLayout l → (does : ChangesOn running done)
      → wanted_by done ≡ map (λ (u : Using). u.want) done.used → counts out (Client c) past ≡ true
      → untold out r (with_turn (turn stamp (Client c)) (pieces_of done.layout done.kind done.used) past) q x
      ≡ changes_at l done.fid running.call r q (untold out r past q x)
  block_is running done past is good (inl w) wants own =
      subst (λ (k : Call). untold out r (with_turn (turn stamp (Client c)) (pieces_of done.layout done.kind done.used) past) q x
      ≡ changes_at l done.fid k r q (untold out r past q x)) (sym w.writes)
      (subst (λ (y : Raid0). untold out r (with_turn (turn stamp (Client c)) (pieces_of y done.kind done.used) past) q x
      ≡ changes_at l done.fid (call.Write w.handle w.offset w.bytes) r q (untold out r past q x)) is
      (subst (λ (k : Kind). untold out r (with_turn (turn stamp (Client c)) (pieces_of l k done.used) past) q x
      ≡ changes_at l done.fid (call.Write w.handle w.offset w.bytes) r q (untold out r past q x)) (sym w.kind)
      (untold_writes w.offset w.bytes done.used past own
      ∙ ap (λ (ws : List Use). on_wants (does_write w.offset w.bytes) ws (untold out r past q x))
      (sym wants ∙ ap (λ (y : Raid0). wants_of y done.fid done.kind) (sym is) ∙ ap (wants_of l done.fid) w.kind)
      ∙ write_wants done.fid w.offset w.bytes (untold out r past q x) good)))
  block_is running done past is good (inr w) wants own =
      subst (λ (k : Call). untold out r (with_turn (turn stamp (Client c)) (pieces_of done.layout done.kind done.used) past) q x
      ≡ changes_at l done.fid k r q (untold out r past q x)) (sym w.cuts)
      (subst (λ (y : Raid0). untold out r (with_turn (turn stamp (Client c)) (pieces_of y done.kind done.used) past) q x
      ≡ changes_at l done.fid (call.Cut w.handle w.size) r q (untold out r past q x)) is
      (subst (λ (k : Kind). untold out r (with_turn (turn stamp (Client c)) (pieces_of l k done.used) past) q x
      ≡ changes_at l done.fid (call.Cut w.handle w.size) r q (untold out r past q x)) (sym w.kind)
      (untold_cuts w.size done.used past own
      ∙ ap (λ (ws : List Use). on_wants (does_cut w.size) ws (untold out r past q x))
      (sym wants ∙ ap (λ (y : Raid0). wants_of y done.fid done.kind) (sym is) ∙ ap (wants_of l done.fid) w.kind)
      ∙ cut_wants done.fid w.size (untold out r past q x))))

  -- nothing, where its life is out
  pub block_gone : (running : Running) (done : Work) (past : List Line) → l ≡ done.layout → ChangesOn running done
      → counts out (Client c) past ≡ false
      → untold out r (with_turn (turn stamp (Client c)) (pieces_of done.layout done.kind done.used) past) q x ≡ untold out r past q x
  block_gone running done past is (inl w) own =
      subst (λ (y : Raid0). untold out r (with_turn (turn stamp (Client c)) (pieces_of y done.kind done.used) past) q x
      ≡ untold out r past q x) is
      (subst (λ (k : Kind). untold out r (with_turn (turn stamp (Client c)) (pieces_of l k done.used) past) q x ≡ untold out r past q x)
      (sym w.kind) (gone_writes w.offset w.bytes done.used past own))
  block_gone running done past is (inr w) own =
      subst (λ (y : Raid0). untold out r (with_turn (turn stamp (Client c)) (pieces_of y done.kind done.used) past) q x
      ≡ untold out r past q x) is
      (subst (λ (k : Kind). untold out r (with_turn (turn stamp (Client c)) (pieces_of l k done.used) past) q x ≡ untold out r past q x)
      (sym w.kind) (gone_cuts w.size done.used past own))
