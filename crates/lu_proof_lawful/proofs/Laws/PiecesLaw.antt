-- What a transaction of an object carries comes from what its life wrote or cut, and was told, before the request was first sent; and it is
-- of a
-- stripe of the layout that the life heard.
use Rattle.std.proofs.Common.{◌≡◌, ℕ, suc, ◌+◌, ◌<◌, ◌≤◌, Bool, true, false, List, [], ◌∷◌, length, Option, Some, None, ◌⊎◌, inl, inr}
use Rattle.std.proofs.Common.{⊎_elim, refl, sym, subst, ap, ◌∙◌, arith, add-one}
use Rattle.std.specs.Prelude.{nat_eq, ◌&&◌, if◌then◌else◌, option_map}
use Rattle.std.specs.List.{list_any}
use Rattle.std.proofs.lemmas.Bool.{cond-true, and_from, and_parts, or_cases, or_left, or_right, eqb-true, eq-eqb}
use Rattle.std.proofs.lemmas.Bool.Decides.{nat_tests}
use Rattle.lu_base.specs.declared.ids.Node.{Node}
use Rattle.lu_base.specs.declared.ids.Node.TheVariants.{Client, Target}
use Rattle.lu_base.specs.declared.ids.Stamp.{Stamp}
use Rattle.lu_base.specs.declared.ids.Who.{Who}
use Rattle.lu_base.specs.declared.locks.Resource.{Resource}
use Rattle.lu_layout.specs.Raid0.{Raid0, position_of}
use Rattle.lu_layout.specs.Sound.{IsLayout}
use Rattle.lu_held.specs.Locks.{same_resource}
use Rattle.lu_msg.specs.declared.calls.Call.{Call}
use Rattle.lu_msg.specs.declared.calls.Call.TheVariants as call
use Rattle.lu_msg.specs.declared.messages.Message.TheVariants as message
use Rattle.lu_msg.specs.declared.messages.Request.{Request as RequestOf}
use Rattle.lu_msg.specs.declared.operations.Op.{Op}
use Rattle.lu_msg.specs.declared.operations.Op.TheVariants as op
use Rattle.lu_spec_entries.specs.Carried.{Deed, Flight}
use Rattle.lu_spec_entries.specs.Words as word
use Rattle.lu_spec_entries.specs.Words.{Line, line}
use Rattle.lu_spec_entries.specs.Concerns.{only}
use Rattle.lu_spec_entries.specs.Printed.{printed}
use Rattle.lu_proof_lawful.specs.Covered.Calls.{life_at}
use Rattle.lu_proof_lawful.specs.Covered.ClientStates.{life_of, last_of}
use Rattle.lu_proof_lawful.specs.Covered.Heads.{Head}
use Rattle.lu_spec_laws.specs.Words.Pasts.{Past, or_else}
use Rattle.lu_spec_laws.specs.Words.Requests.{asked, first_request, is_of}
use Rattle.lu_spec_laws.specs.Words.Pieces.{layout_heard, done_calls, done_before, is_request, wrote, cuts_to, has_origin, have_origin}
use Rattle.lu_spec_laws.specs.Laws.History as law
use Rattle.lu_spec_client.specs.Sending.{object_of}
use Rattle.lu_spec_client.specs.Stripes.{bytes_on}
use Rattle.lu_proof_lawful.proofs.Preconditions.Guards.{In, Was, NotChanging}
use Rattle.lu_proof_lawful.proofs.Preconditions.StoryGuards.{FliesOk}
use Rattle.lu_proof_lawful.proofs.Preconditions.ClientLocks.{any_true, any_passes}
use Rattle.lu_proof_lawful.proofs.Preconditions.Lists.{self, turn}
use Rattle.lu_proof_lawful.proofs.Preconditions.Grown.{Grown}
use Rattle.lu_proof_lawful.proofs.Preconditions.Only.{was_only}
use Rattle.lu_proof_lawful.proofs.Preconditions.Parts.{life_is_of}
use Rattle.lu_proof_lawful.proofs.Preconditions.QueueLists.{resource_itself}
use Rattle.lu_proof_lawful.proofs.Invariants.Groups.{HoldsAt}
use Rattle.lu_proof_lawful.proofs.Invariants.TargetGroups.{Acted}
use Rattle.lu_proof_lawful.proofs.Invariants.All.{holds}
use Rattle.lu_proof_lawful.proofs.Invariants.Sides.{was_between}
use Rattle.lu_proof_bytes.specs.Object.Words.{Change, Write, Cut, Op as StoryOp, Flush, Request, Ask, Entry, Flies, Txn, overlay}
use Rattle.lu_proof_bytes.specs.Object.Folds as says
use Rattle.lu_proof_bytes.specs.Object.History.{ToldWrite, ToldCut, Origin, OriginOf}
use Rattle.lu_proof_bytes.specs.Object.Guards.{AllAllowed}
use Rattle.lu_proof_bytes.proofs.Object.Origins.{allowed_puts}
use Rattle.lu_proof_lawful.specs.Projection.Lives.{number_of}
use Rattle.lu_proof_lawful.specs.Projection.Messages.{request_as}
use Rattle.lu_proof_lawful.specs.Projection.Requests.{op_on, op_of}
use Rattle.lu_proof_lawful.specs.Projection.Stories.{with_entry, story}
use Rattle.lu_proof_lawful.proofs.Projection.Lives.{same_life as same_number}
use Rattle.lu_proof_lawful.proofs.Refinement.ClosedCommits.{line_is}
use Rattle.lu_proof_lawful.proofs.Refinement.LineCases.{IsOther, by_line}
use Rattle.lu_proof_lawful.proofs.Refinement.Place.{place}
use Rattle.lu_proof_lawful.proofs.Refinement.Placed.{acted_place}
use Rattle.lu_proof_lawful.proofs.Refinement.Stories.{all_tied}
use Rattle.lu_proof_lawful.proofs.Refinement.TargetLines.{own_only, own_story}
use Rattle.lu_proof_lawful.proofs.Laws.Agrees.{OfRun, earlier}
use Rattle.lu_proof_lawful.proofs.Laws.PieceBytes.{wrote_there, cuts_there}
use Rattle.lu_proof_lawful.proofs.Laws.PieceLayouts.{layout_stays}
use Rattle.lu_proof_lawful.proofs.Laws.PieceTold.{write_told, cut_told, Makes, calls_stay, told_so}
use Rattle.lu_proof_lawful.proofs.Laws.Printed.{first_sent}
use Rattle.lu_proof_lawful.proofs.Laws.Untold.{settled}

-- ---- what calls carry

abbrev pub CarriesOf : Raid0 → ℕ → List Call → Change → Type 0
CarriesOf l i calls (Write at bytes) = have_origin l i calls at bytes ≡ true
CarriesOf l i calls (Cut n) = list_any (cuts_to l i n) calls ≡ true

any_more : {A : Type 0} (f : A → Bool) (xs ys : List A) → ((x : A) → In x xs → In x ys) → list_any f xs ≡ true → list_any f ys ≡ true
any_more f xs ys sub e = let x = any_true f xs e in any_passes f x.0 ys (sub x.0 x.1) x.2

origin_more : (l : Raid0) (i : ℕ) (xs ys : List Call) → ((k : Call) → In k xs → In k ys) → (p b : ℕ) → has_origin l i xs p b ≡ true
    → has_origin l i ys p b ≡ true
origin_more l i xs ys sub p b e =
    ⊎_elim
    (λ (w : list_any (wrote (position_of l i p) b) xs ≡ true). or_left (list_any (wrote (position_of l i p) b) ys) _
    (any_more (wrote (position_of l i p) b) xs ys sub w))
    (λ (w : (nat_eq b 0 && list_any (cuts_to l i (p + 1)) xs) ≡ true).
    let q = and_parts (nat_eq b 0) (list_any (cuts_to l i (p + 1)) xs) w in
    or_right (list_any (wrote (position_of l i p) b) ys) _ (and_from (nat_eq b 0) (list_any (cuts_to l i (p + 1)) ys) q.0
    (any_more (cuts_to l i (p + 1)) xs ys sub q.1)))
    (or_cases (list_any (wrote (position_of l i p) b) xs) (nat_eq b 0 && list_any (cuts_to l i (p + 1)) xs) e)

have_more : (l : Raid0) (i : ℕ) (xs ys : List Call) → ((k : Call) → In k xs → In k ys) → (at : ℕ) (bytes : List ℕ)
    → have_origin l i xs at bytes ≡ true → have_origin l i ys at bytes ≡ true
have_more l i xs ys sub at [] e = refl
have_more l i xs ys sub at (b ∷ bytes) e =
    let p = and_parts (has_origin l i xs at b) (have_origin l i xs (at + 1) bytes) e in
    and_from (has_origin l i ys at b) (have_origin l i ys (at + 1) bytes) (origin_more l i xs ys sub at b p.0)
    (have_more l i xs ys sub (at + 1) bytes p.1)

carries_more : (l : Raid0) (i : ℕ) (xs ys : List Call) → ((k : Call) → In k xs → In k ys) → (ch : Change) → CarriesOf l i xs ch
    → CarriesOf l i ys ch
carries_more l i xs ys sub (Write at bytes) e = have_more l i xs ys sub at bytes e
carries_more l i xs ys sub (Cut n) e = any_more (cuts_to l i n) xs ys sub e

-- ---- from what the story says

-- it changes some byte
abbrev pub IsSome : Change → Type 0
IsSome (Write at []) = ⊥
IsSome (Write at (b ∷ bytes)) = Unit {0}
IsSome (Cut n) = Unit {0}

-- the change comes from calls that were told by now
pub record CarriedBy (who : Who) (r : Resource) (past : Past) (ch : Change) : Type 0 where
  pub layout : Raid0
  pub heard : layout_heard who r.fid past ≡ Some layout
  pub stripe : r.stripe < length layout.targets
  pub carries : CarriesOf layout r.stripe (done_calls who r.fid past) ch

cut_passes : (l : Raid0) (i n : ℕ) (k : Call) → IsLayout l → i < length l.targets → Makes l i k (Cut n) → cuts_to l i n k ≡ true
cut_passes l i n (call.Cut h size) good here m = cuts_there l i h size n good here m
cut_passes l i n k good here m = absurd m

write_passes : (l : Raid0) (i at : ℕ) (bytes : List ℕ) (p b : ℕ) (k : Call) → IsLayout l → i < length l.targets
    → Makes l i k (Write at bytes) → overlay at bytes p None ≡ Some b → wrote (position_of l i p) b k ≡ true
write_passes l i at bytes p b (call.Write h offset bs) good here m e =
    wrote_there l i h offset bs p b good here (ap (λ n. overlay n (bytes_on l i offset bs) p None) (sym m.0)
    ∙ ap (λ (vs : List ℕ). overlay at vs p None) (sym m.1) ∙ e)
write_passes l i at bytes p b k good here m e = absurd m

overlay_from : (at : ℕ) (bytes : List ℕ) (p b : ℕ) → overlay at bytes p None ≡ Some b → at ≤ p
overlay_from at [] p b e = absurd (cc)
overlay_from at (c ∷ bytes) p b e = by (nat_eq at p) refl e (overlay_from (suc at) bytes p b)
  where
    by : (v : Bool) → nat_eq at p ≡ v → (if v then Some c else overlay (suc at) bytes p None) ≡ Some b
        → (overlay (suc at) bytes p None ≡ Some b → suc at ≤ p) → at ≤ p
    by true t f ih = let same = eqb-true at p t in omega (arith, same)
    by false t f ih = let le = ih f in omega (arith, le)

all_origins : (l : Raid0) (i : ℕ) (calls : List Call) (at : ℕ) (bytes : List ℕ)
    → ((p b : ℕ) → overlay at bytes p None ≡ Some b → has_origin l i calls p b ≡ true) → have_origin l i calls at bytes ≡ true
all_origins l i calls at [] all = refl
all_origins l i calls at (b ∷ bytes) all =
    and_from (has_origin l i calls at b) (have_origin l i calls (at + 1) bytes)
    (all at b (ap (λ (v : Bool). if v then Some b else overlay (suc at) bytes at None) (self at)))
    (all_origins l i calls (at + 1) bytes (λ p c e. all p c (later p c e)))
  where
    later : (p c : ℕ) → overlay (at + 1) bytes p None ≡ Some c → overlay at (b ∷ bytes) p None ≡ Some c
    later p c e =
        let le = overlay_from (at + 1) bytes p c e in
        let other : nat_eq at p ≡ false = grind (arith, nat_tests, le) in
        ap (λ (v : Bool). if v then Some b else overlay (suc at) bytes p None) other ∙ ap (λ n. overlay n bytes p None) (sym (add-one at))
        ∙ e

module _ (head : Head) (t : ℕ) (r : Resource) (who : Who) (past : List Line) (k : OfRun head past) (none : NotChanging past) where
  abbrev h : List Entry
  h = story t r past

  abbrev calls : List Call
  calls = done_calls who r.fid (printed past)

  -- the layouts that calls have are the one that was heard
  same_layout : (l m : Raid0) → layout_heard who r.fid (printed past) ≡ Some l → layout_heard who r.fid (printed past) ≡ Some m → m ≡ l
  same_layout l m e f = let q : Some m ≡ Some l = sym f ∙ e in cc

  from_cut : (l : Raid0) (n : ℕ) → layout_heard who r.fid (printed past) ≡ Some l → ToldCut (story t r past) (number_of who) n
      → list_any (cuts_to l r.stripe n) (done_calls who r.fid (printed past)) ≡ true
  from_cut l n e i =
      let d = told_so head t r who (Cut n) past k none (cut_told (story t r past) (number_of who) n i) in
      subst (λ (m : Raid0). list_any (cuts_to m r.stripe n) (done_calls who r.fid (printed past)) ≡ true) (same_layout l d.layout e d.heard)
      (any_passes (cuts_to d.layout r.stripe n) d.call (done_calls who r.fid (printed past)) d.among
      (cut_passes d.layout r.stripe n d.call d.good d.stripe d.makes))

  from_byte : (l : Raid0) (p b : ℕ) → layout_heard who r.fid (printed past) ≡ Some l → ToldWrite (story t r past) (number_of who) p b
      ⊎ ((b ≡ 0) × ToldCut (story t r past) (number_of who) (suc p)) → has_origin l r.stripe (done_calls who r.fid (printed past)) p b
      ≡ true
  from_byte l p b e (inl i) =
      let w = write_told (story t r past) (number_of who) p b i in
      let d = told_so head t r who (Write w.0 w.1) past k none w.2 in
      or_left (list_any (wrote (position_of l r.stripe p) b) (done_calls who r.fid (printed past))) _
      (subst (λ (m : Raid0). list_any (wrote (position_of m r.stripe p) b) (done_calls who r.fid (printed past)) ≡ true)
      (same_layout l d.layout e d.heard)
      (any_passes (wrote (position_of d.layout r.stripe p) b) d.call (done_calls who r.fid (printed past)) d.among
      (write_passes d.layout r.stripe w.0 w.1 p b d.call d.good d.stripe d.makes w.3)))
  from_byte l p b e (inr i) =
      or_right (list_any (wrote (position_of l r.stripe p) b) (done_calls who r.fid (printed past))) _
      (and_from (nat_eq b 0) (list_any (cuts_to l r.stripe (p + 1)) (done_calls who r.fid (printed past))) (eq-eqb b 0 i.0)
      (ap (λ n. list_any (cuts_to l r.stripe n) (done_calls who r.fid (printed past))) (add-one p) ∙ from_cut l (suc p) e i.1))

  -- some layout was heard, where some byte was told
  a_layout : (p b : ℕ) → ToldWrite (story t r past) (number_of who) p b ⊎ ((b ≡ 0) × ToldCut (story t r past) (number_of who) (suc p))
      → (l : Raid0) × (layout_heard who r.fid (printed past) ≡ Some l) × (r.stripe < length l.targets)
  a_layout p b (inl i) = let w = write_told (story t r past) (number_of who) p b i in let d =
      told_so head t r who (Write w.0 w.1) past k none w.2 in (d.layout, d.heard, d.stripe)
  a_layout p b (inr i) = let d = told_so head t r who (Cut (suc p)) past k none (cut_told (story t r past) (number_of who) (suc p) i.1)
      in (d.layout, d.heard, d.stripe)

  pub carried_by : (ch : Change) → IsSome ch → Origin (story t r past) (number_of who) ch → CarriedBy who r (printed past) ch
  carried_by (Write at []) some o = absurd some
  carried_by (Write at (b ∷ bytes)) some o =
      let l = a_layout at b (o at b (ap (λ (v : Bool). if v then Some b else overlay (suc at) bytes at None) (self at))) in
      record {
        layout = l.0;
        heard = l.1;
        stripe = l.2;
        carries =
            all_origins l.0 r.stripe (done_calls who r.fid (printed past)) at (b ∷ bytes) (λ p c e. from_byte l.0 p c l.1 (o p c e));
      }
  carried_by (Cut n) some o =
      let d = told_so head t r who (Cut n) past k none (cut_told (story t r past) (number_of who) n o) in
      record { layout = d.layout; heard = d.heard; stripe = d.stripe; carries = from_cut d.layout n d.heard o }

-- ---- before the request was first sent

-- of these calls, which were told before
pub record SentSo (t : ℕ) (who : Who) (x : ℕ) (r : Resource) (past : Past) (ch : Change) : Type 0 where
  pub calls : List Call
  pub sent : done_before t who x r.fid past ≡ Some calls
  pub layout : Raid0
  pub heard : layout_heard who r.fid past ≡ Some layout
  pub stripe : r.stripe < length layout.targets
  pub carries : CarriesOf layout r.stripe calls ch

abbrev pub FlownSo : ℕ → Who → ℕ → Resource → Past → Change → Type 0
FlownSo t who x r past ch = ((done_before t who x r.fid past ≡ None) × CarriedBy who r past ch) ⊎ SentSo t who x r past ch

carried_more : (who : Who) (r : Resource) (l : Line) (past : List Line) (ch : Change) → CarriedBy who r (printed past) ch
    → CarriedBy who r (printed (l ∷ past)) ch
carried_more who r l past ch c =
    record {
      layout = c.layout;
      heard = layout_stays who r.fid l past c.layout c.heard;
      stripe = c.stripe;
      carries = carries_more c.layout r.stripe (done_calls who r.fid (printed past)) (done_calls who r.fid (printed (l ∷ past)))
          (λ k i. calls_stay who r.fid l past k i) ch c.carries;
    }

flown_more : (t : ℕ) (who : Who) (x : ℕ) (r : Resource) (l : Line) (past : List Line) (ch : Change) → FlownSo t who x r (printed past) ch
    → FlownSo t who x r (printed (l ∷ past)) ch
flown_more t who x r l past ch s = by l.entry s (λ c. carried_more who r l past ch c) (λ m e. layout_stays who r.fid l past m e)
  where
    by : (e : word.Entry) → FlownSo t who x r (printed past) ch
        → (CarriedBy who r (printed past) ch → CarriedBy who r (printed (line l.at e ∷ past)) ch)
        → ((m : Raid0) → layout_heard who r.fid (printed past) ≡ Some m → layout_heard who r.fid (printed (line l.at e ∷ past)) ≡ Some m)
        → FlownSo t who x r (printed (line l.at e ∷ past)) ch
    by (word.Send to m) (inl s) more stays = sends (is_request t who x to m) refl
      where
        sends : (b : Bool) → is_request t who x to m ≡ b → FlownSo t who x r (printed (line l.at (word.Send to m) ∷ past)) ch
        sends true q =
            inr (record {
              calls = done_calls who r.fid (printed past);
              sent = ap (λ (o : Option (List Call)). or_else o (if is_request t who x to m then Some (done_calls who r.fid (printed past))
                  else None)) s.0 ∙ ap (λ (b : Bool). if b then Some (done_calls who r.fid (printed past)) else None) q;
              layout = s.1.layout;
              heard = stays s.1.layout s.1.heard;
              stripe = s.1.stripe;
              carries = s.1.carries;
            })
        sends false q =
            inl (
              ap (λ (o : Option (List Call)). or_else o (if is_request t who x to m then Some (done_calls who r.fid (printed past))
                  else None)) s.0 ∙ ap (λ (b : Bool). if b then Some (done_calls who r.fid (printed past)) else None) q,
              more s.1,
            )
    by (word.Send to m) (inr s) more stays =
        inr (record {
          calls = s.calls;
          sent = ap (λ (o : Option (List Call)). or_else o (if is_request t who x to m then Some (done_calls who r.fid (printed past))
              else None)) s.sent;
          layout = s.layout;
          heard = stays s.layout s.heard;
          stripe = s.stripe;
          carries = s.carries;
        })
    by e (inl s) more stays = inl (s.0, more s.1)
    by e (inr s) more stays = inr (record {
      calls = s.calls;
      sent = s.sent;
      layout = s.layout;
      heard = stays s.layout s.heard;
      stripe =
          s.stripe;
      carries = s.carries;
    })

-- a request was sent where there are calls before it, and only there
none_parts : {A : Type 0} (o : Option A) (b : Bool) (x : A) → or_else o (if b then Some x else None) ≡ None → (o ≡ None) × (b ≡ false)
none_parts None true x e = absurd (cc)
none_parts None false x e = (refl, refl)
none_parts (Some y) b x e = absurd (cc)

none_both : {A : Type 0} (o : Option A) (b : Bool) (x : A) → o ≡ None → b ≡ false → or_else o (if b then Some x else None) ≡ None
none_both None true x e f = absurd (cc)
none_both None false x e f = refl
none_both (Some y) b x e f = absurd (cc)

none_before : (t : ℕ) (who : Who) (x : ℕ) (r : Resource) (past : List Line) → first_request (printed past) t who x ≡ None
    → done_before t who x r.fid (printed past) ≡ None
none_before t who x r [] e = refl
none_before t who x r (l ∷ past) e = by l.entry e (none_before t who x r past)
  where
    by : (a : word.Entry) → first_request (printed (line l.at a ∷ past)) t who x ≡ None
        → (first_request (printed past) t who x ≡ None → done_before t who x r.fid (printed past) ≡ None)
        → done_before t who x r.fid (printed (line l.at a ∷ past)) ≡ None
    by (word.Send to (message.Request q)) e ih =
        let p = none_parts (first_request (printed past) t who x) (is_of t who to q && nat_eq q.xid.0 x) q e in
        none_both (done_before t who x r.fid (printed past)) (is_of t who to q && nat_eq q.xid.0 x) (done_calls who r.fid (printed past))
        (ih p.0) p.1
    by (word.Send to m) e ih = ap (λ (o : Option (List Call)). or_else o None) (ih e)
    by a e ih = ih e

some_before : (t : ℕ) (who : Who) (x : ℕ) (r : Resource) (past : List Line) → done_before t who x r.fid (printed past) ≡ None
    → first_request (printed past) t who x ≡ None
some_before t who x r [] e = refl
some_before t who x r (l ∷ past) e = by l.entry e (some_before t who x r past)
  where
    by : (a : word.Entry) → done_before t who x r.fid (printed (line l.at a ∷ past)) ≡ None
        → (done_before t who x r.fid (printed past) ≡ None → first_request (printed past) t who x ≡ None)
        → first_request (printed (line l.at a ∷ past)) t who x ≡ None
    by (word.Send to (message.Request q)) e ih =
        let p = none_parts (done_before t who x r.fid (printed past)) (is_of t who to q && nat_eq q.xid.0 x)
        (done_calls who r.fid (printed past)) e in
        none_both (first_request (printed past) t who x) (is_of t who to q && nat_eq q.xid.0 x) q (ih p.0) p.1
    by (word.Send to m) e ih = ih (none_parts (done_before t who x r.fid (printed past)) false (done_calls who r.fid (printed past)) e).0
    by a e ih = ih e

-- ---- where it begins to fly

-- no request of that number was sent yet
unsent : (head : Head) (t : ℕ) (past : List Line) (c : ℕ) (f : Flight) → Grown head past → FliesOk head (only t past) c t f
    → first_request (printed past) t (life_at c past) f.xid ≡ None
unsent head t past c f g ok = by (first_request (printed past) t (life_at c past) f.xid) refl
  where
    at : HoldsAt head (only t past)
    at = (holds head past g).at t

    never : (q : RequestOf) (from : Node) → Was past from (Target t) (message.Request q) → q.who ≡ life_at c past → q.xid.0 ≡ f.xid → ⊥
    never q (Target u) was who xid = was_between head past (Target u) (Target t) (message.Request q) g was
    never q (Client d) was who xid =
        let m = at.done.sent (Client d) (Target t) (message.Request q)
        (was_only t past (Client d) (Target t) (message.Request q) (self t) was) in
        let own : q.who ≡ life_of c (only t past) = who ∙ life_is_of c t past in
        let low : m.0.xid ≤ last_of (life_of c (only t past)) (only t past) =
        subst (λ (w : Who). m.0.xid ≤ last_of w (only t past)) own (at.numbers.tagged q.who m.0 m.1).low in
        let same : q.xid.0 ≡ m.0.xid = ap (λ (v : RequestOf). v.xid.0) m.2 in
        let next : f.xid ≡ last_of (life_of c (only t past)) (only t past) + 1 = ap (λ (v : Flight). v.xid) ok.is in
        absurd (omega (arith, low, same, next, xid))

    by : (o : Option RequestOf) → first_request (printed past) t (life_at c past) f.xid ≡ o → o ≡ None
    by None e = refl
    by (Some q) e = let w = first_sent past t (life_at c past) f.xid q e in absurd (never q w.0 w.1 w.2 w.3)

module _ (head : Head) (t : ℕ) (r : Resource) (who : Who) (x : ℕ) (o : StoryOp) (ch : Change) (some : IsSome ch) where
  abbrev request : Request
  request = request_as (number_of who) x o

  flown_now : (l : Line) (past : List Line) → OfRun head (l ∷ past) → (c : ℕ) (f : Flight) (p : StoryOp) → l.at.node ≡ Client c → l.entry
      ≡ word.Flies t f → request_as (number_of (life_at c past)) f.xid p ≡ request → Origin (story t r past) (number_of who) ch
      → FlownSo t who x r (printed (l ∷ past)) ch
  flown_now l past k c f p here is same origin = flown_more t who x r l past ch
      (inl (none_before t who x r past none, carried_by head t r who past (earlier head l past k) quiet ch some origin))
    where
      own : life_at c past ≡ who
      own = same_number (life_at c past) who (ap (λ (q : Request). q.life) same)

      k_now : OfRun head (line (turn l.at.stamp (Client c)) (word.Flies t f) ∷ past)
      k_now = subst (λ (y : Line). OfRun head (y ∷ past)) (line_is l (Client c) (word.Flies t f) here is) k

      quiet : NotChanging past
      quiet = settled head past (turn l.at.stamp (Client c)) (word.Flies t f) k_now.heeds k_now.grown.0 k_now.grown.1 (λ p. p)

      none : first_request (printed past) t who x ≡ None
      none =
          subst (λ n. first_request (printed past) t who n ≡ None) (ap (λ (q : Request). q.xid) same)
          (subst (λ (w : Who). first_request (printed past) t w f.xid ≡ None) own
          (unsent head t past c f k_now.grown.1 (k_now.grown.0.of t (self t))))

  flown_line : (l : Line) (past : List Line) → OfRun head (l ∷ past)
      → (OriginOf (story t r past) request ch → FlownSo t who x r (printed past) ch) → OriginOf (story t r (l ∷ past)) request ch
      → FlownSo t who x r (printed (l ∷ past)) ch
  flown_line l past k ih i =
      by_line (λ (h : List Entry). OriginOf h request ch → FlownSo t who x r (printed (l ∷ past)) ch) t r past (story t r past) l.at.node
      l.entry (record {
        same = before;
        other = λ x n i. before (other x n i);
        flies = λ c f p here is live i. ⊎_elim
            (λ (q : (request_as (number_of (life_at c past)) f.xid p ≡ request) × ((b : ℕ) → says.Was (story t r past) (Ask b request) → ⊥)
            × Origin (story t r past) (number_of who) ch). flown_now l past k c f p here is q.0 q.2)
            (λ (j : OriginOf (story t r past) request ch). before j)
            i;
        heard = λ c f p o here is live. before;
        hold = λ c lock marked size seen here is live on. before;
        tells = λ c change n here is live. before;
        txn = λ d o here is. before;
        commit = λ to batch here is. before;
        close = λ o here is. before;
      }) i
    where
      before : OriginOf (story t r past) request ch → FlownSo t who x r (printed (l ∷ past)) ch
      before i = flown_more t who x r l past ch (ih i)

      other : (y : Entry) → IsOther y → OriginOf (y ∷ story t r past) request ch → OriginOf (story t r past) request ch
      other (Flies q) n i = absurd n
      other y n i = i

  flown_so : (past : List Line) → OfRun head past → OriginOf (story t r past) request ch → FlownSo t who x r (printed past) ch
  flown_so [] k i = absurd i
  flown_so (l ∷ past) k i = flown_line l past k (λ j. flown_so past (earlier head l past k) j) i

-- ---- the law

pub piece_law : (head : Head) (past : List Line) (stamp : Stamp) (u : ℕ) (d : Deed)
    → OfRun head (line (turn stamp (Target (suc u))) (word.Txn d) ∷ past)
    → law.PieceAt (printed past) (suc u) d.reply.who d.reply.xid.0 (asked (printed past) (suc u) d.reply.who d.reply.xid.0)
piece_law head past stamp u d k = subst (law.PieceAt (printed past) (suc u) d.reply.who d.reply.xid.0) (sym of_op) (by d.op refl)
  where
    of_op : asked (printed past) (suc u) d.reply.who d.reply.xid.0 ≡ Some d.op
    of_op = k.asked.0 (suc u) refl

    acted : Acted (only (suc u) (line (turn stamp (Target (suc u))) (word.Txn d) ∷ past)) d
    acted = subst (λ (p : List Line). Acted p d) (sym (own_only (suc u) stamp (word.Txn d) past)) (inl refl)

    -- the change that the object's story has of it comes from calls
    flown : (r : Resource) (cookie : ℕ) (ch : Change) → object_of d.op ≡ Some r → op_of r (story (suc u) r past) d.op
        ≡ Some (Flush cookie ch) → IsSome ch → FlownSo (suc u) d.reply.who d.reply.xid.0 r (printed past) ch
    flown r cookie ch on is some =
        let lies : suc u ≡ place head.osts r = acted_place head (line (turn stamp (Target (suc u))) (word.Txn d) ∷ past) (suc u) d r k.grown
        k.pins acted on in
        let all = (all_tied head k.ranges (line (turn stamp (Target (suc u))) (word.Txn d) ∷ past) k.grown k.pins k.heeds k.speaks (suc u) r
        (omega arith) lies).0 in
        let now : story (suc u) r (line (turn stamp (Target (suc u))) (word.Txn d) ∷ past)
        ≡ Txn d.reply.txn.0 (request_as (number_of d.reply.who) d.reply.xid.0 (Flush cookie ch)) ∷ story (suc u) r past =
        own_story (suc u) r stamp (word.Txn d) past ∙ ap (λ (o : Option StoryOp). with_entry
        (option_map (λ o. Txn d.reply.txn.0 (request_as (number_of d.reply.who) d.reply.xid.0 o)) o) (story (suc u) r past)) is in
        let puts = allowed_puts (Txn d.reply.txn.0 (request_as (number_of d.reply.who) d.reply.xid.0 (Flush cookie ch))
        ∷ story (suc u) r past) (subst AllAllowed now all) in
        flown_so head (suc u) r d.reply.who d.reply.xid.0 (Flush cookie ch) ch some past
        (earlier head (line (turn stamp (Target (suc u))) (word.Txn d)) past k) (puts.0 cookie ch refl)

    -- so it carries what they did
    carries : (r : Resource) (o : Op) (ch : Change) → FlownSo (suc u) d.reply.who d.reply.xid.0 r (printed past) ch
        → ((l : Raid0) (calls : List Call) → CarriesOf l r.stripe calls ch → law.Carried l calls o)
        → law.CarriesBy (layout_heard d.reply.who r.fid (printed past)) (done_before (suc u) d.reply.who d.reply.xid.0 r.fid (printed past))
        r o
    carries r o ch (inl s) of = absurd (let none = ap (option_map (λ (q : RequestOf). q.op))
        (some_before (suc u) d.reply.who d.reply.xid.0 r past s.0) in let some = of_op in cc)
    carries r o ch (inr s) of =
        subst (λ (m : Option Raid0). law.CarriesBy m (done_before (suc u) d.reply.who d.reply.xid.0 r.fid (printed past)) r o) (sym s.heard)
        (subst (λ (m : Option (List Call)). law.CarriesBy (Some s.layout) m r o) (sym s.sent)
        (record { stripe = s.stripe; carried = of s.layout s.calls s.carries }))

    on_own : (r : Resource) (o : StoryOp) → op_on r r o ≡ Some o
    on_own r o = cond-true (same_resource r r) (Some o) None (resource_itself r)

    by : (o : Op) → d.op ≡ o → law.PieceOn (printed past) (suc u) d.reply.who d.reply.xid.0 o (law.changed o)
    by (op.Put r cookie at []) e = tt
    by (op.Put r cookie at (b ∷ bytes)) e =
        carries r (op.Put r cookie at (b ∷ bytes)) (Write at (b ∷ bytes))
        (flown r cookie.0 (Write at (b ∷ bytes)) (ap object_of e)
        (ap (op_of r (story (suc u) r past)) e ∙ on_own r (Flush cookie.0 (Write at (b ∷ bytes)))) tt)
        (λ l calls c. c)
    by (op.Cut r cookie n) e =
        carries r (op.Cut r cookie n) (Cut n) (flown r cookie.0 (Cut n) (ap object_of e)
        (ap (op_of r (story (suc u) r past)) e ∙ on_own r (Flush cookie.0 (Cut n))) tt) (λ l calls c. c)
    by o e = tt
