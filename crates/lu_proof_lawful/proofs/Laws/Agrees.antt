-- The plain machine of the laws agrees with each object's story: with the lost transactions taken out, what stands at an offset of an
-- object is
-- what the story's history has there, but for changes that are made and not told yet.
use Rattle.std.proofs.Common.{◌≡◌, ℕ, zero, suc, Bool, true, false, List, [], ◌∷◌, ◌⊎◌, Option, Some, None, inl, inr, ⊎_elim, refl, sym}
use Rattle.std.proofs.Common.{subst, ap, ◌∙◌, arith}
use Rattle.std.specs.Prelude.{nat_eq, not, ◌&&◌, ◌||◌, if◌then◌else◌, option_map}
use Rattle.std.proofs.lemmas.Bool.{cond_both, eqb-true}
use Rattle.std.proofs.lemmas.Bool.Decides.{nat_tests}
use Rattle.lu_base.specs.declared.ids.At.{At}
use Rattle.lu_base.specs.declared.ids.Fid.{Fid}
use Rattle.lu_base.specs.declared.ids.Node.{Node}
use Rattle.lu_base.specs.declared.ids.Node.TheVariants.{Client, Target}
use Rattle.lu_base.specs.declared.ids.Stamp.{Stamp}
use Rattle.lu_base.specs.declared.ids.Who.{Who}
use Rattle.lu_base.specs.declared.locks.Resource.{Resource}
use Rattle.lu_layout.specs.Raid0.{Raid0}
use Rattle.lu_layout.specs.Sound.{IsLayout}
use Rattle.lu_held.specs.Locks.{same_resource}
use Rattle.lu_msg.specs.declared.answers.Answer.{Answer}
use Rattle.lu_msg.specs.declared.operations.Op.{Op}
use Rattle.lu_msg.specs.declared.operations.Op.TheVariants as op
use Rattle.lu_spec_machine.specs.declared.acts.Act.{Act as ActOf}
use Rattle.lu_spec_machine.specs.Machine.{Machine}
use Rattle.lu_spec_machine.specs.Tree.{layout}
use Rattle.lu_spec_entries.specs.declared.changes.Flush.{Flush}
use Rattle.lu_spec_entries.specs.declared.uses.Using.{Using}
use Rattle.lu_spec_entries.specs.Carried.{Deed, Outcome, Work, Kind, Writes, Cuts}
use Rattle.lu_spec_entries.specs.Words as word
use Rattle.lu_spec_entries.specs.Words.{Line, line, with_turn, is_target}
use Rattle.lu_spec_entries.specs.Concerns.{only}
use Rattle.lu_spec_entries.specs.Printed.{printed}
use Rattle.lu_spec_client.specs.Sending.{object_of}
use Rattle.lu_spec_target.specs.Lives.{is_life}
use Rattle.lu_proof_objects.proofs.Tables.{object_is}
use Rattle.lu_proof_lawful.specs.Covered.Calls.{life_at}
use Rattle.lu_proof_lawful.specs.Covered.TargetStates.{server_of, evicted_of}
use Rattle.lu_proof_lawful.specs.Covered.TargetCloses.{is_lost, loses, closing_of}
use Rattle.lu_proof_lawful.specs.Covered.Heads.{Head, IsHead}
use Rattle.lu_spec_laws.specs.Words.Lives.{who_is}
use Rattle.lu_spec_laws.specs.Words.Requests.{asked}
use Rattle.lu_spec_laws.specs.Words.Histories.{names_act, standing_item, told_item, after_item, machine_of}
use Rattle.lu_proof_lawful.specs.Fits.{Fits}
use Rattle.lu_proof_lawful.proofs.Preconditions.Guards.{Steps, Ending, Closes, NotChanging, pieces_of, WroteOk, TellsOk}
use Rattle.lu_proof_lawful.proofs.Preconditions.ClientTold.{ending_now}
use Rattle.lu_proof_lawful.proofs.Preconditions.Grown.{Grown}
use Rattle.lu_proof_lawful.proofs.Preconditions.Heeds.{AllHeed}
use Rattle.lu_proof_lawful.proofs.Preconditions.Lists.{self, turn}
use Rattle.lu_proof_lawful.proofs.Preconditions.PinsFit.{PinsFit}
use Rattle.lu_proof_lawful.proofs.Preconditions.Speaks.{AllSpeak}
use Rattle.lu_proof_lawful.proofs.Invariants.TargetGroups.{Acted}
use Rattle.lu_proof_lawful.proofs.Invariants.All.{holds}
use Rattle.lu_proof_bytes.specs.Object.Words.{Op as StoryOp, Enqueue, Get, Flush as Back, Size, Write, Cut, Entry, Txn, Close, after_at}
use Rattle.lu_proof_bytes.specs.Object.Folds as says
use Rattle.lu_proof_bytes.specs.Object.Folds.{also}
use Rattle.lu_proof_bytes.specs.Object.History.{Item, Made, plain, history, piece_item}
use Rattle.lu_proof_bytes.proofs.Object.World.{world}
use Rattle.lu_proof_objects.specs.Points.{change_of}
use Rattle.lu_proof_lawful.specs.Projection.Lives.{number_of, is_live}
use Rattle.lu_proof_lawful.specs.Projection.Locks.{given, held, lock_over}
use Rattle.lu_proof_lawful.specs.Projection.Requests.{op_of, get_under}
use Rattle.lu_proof_lawful.specs.Projection.Calls.{did, did_under}
use Rattle.lu_proof_lawful.specs.Projection.Closes.{lost_by, kept_of, closes}
use Rattle.lu_proof_lawful.specs.Projection.Messages.{request_as}
use Rattle.lu_proof_lawful.specs.Projection.Stories.{with_entry, of_life, served, story}
use Rattle.lu_proof_lawful.proofs.Refinement.ChangesFound.{changes_found}
use Rattle.lu_proof_lawful.proofs.Refinement.ClosedCommits.{next_commits, committed_is}
use Rattle.lu_proof_lawful.proofs.Refinement.OverLives.{lasts_live}
use Rattle.lu_proof_lawful.proofs.Refinement.Place.{place}
use Rattle.lu_proof_lawful.proofs.Refinement.Placed.{flew_place}
use Rattle.lu_proof_lawful.proofs.Refinement.Stood.{stood}
use Rattle.lu_proof_lawful.proofs.Refinement.Stories.{all_tied}
use Rattle.lu_proof_lawful.proofs.Refinement.Tied.{Here}
use Rattle.lu_proof_lawful.proofs.Laws.Blocks.{block_is, block_gone}
use Rattle.lu_proof_lawful.proofs.Laws.CloseLines.{nothing_left}
use Rattle.lu_proof_lawful.proofs.Laws.Commits.{made_more}
use Rattle.lu_proof_lawful.proofs.Laws.Contents.{asked_before}
use Rattle.lu_proof_lawful.proofs.Laws.Facts.{AllAsked}
use Rattle.lu_proof_lawful.proofs.Laws.HistoryNames.{fits_before}
use Rattle.lu_proof_lawful.proofs.Laws.Lasting.{stays_in, kept_in}
use Rattle.lu_proof_lawful.proofs.Laws.MachineBytes.{byte_in, names_leave, piece_at, piece_reaches, on_file, still_leaves, changes_at}
use Rattle.lu_proof_lawful.proofs.Laws.MachineBytes.{data_reaches}
use Rattle.lu_proof_lawful.proofs.Laws.MachineLayouts.{file_laid}
use Rattle.lu_proof_lawful.proofs.Laws.Notices.{notice_evicted}
use Rattle.lu_proof_lawful.proofs.Laws.Printed.{present_is}
use Rattle.lu_proof_lawful.proofs.Laws.StoryHistory.{IsQuiet, quiet_step, HasTxn, history_same, txn_made}
use Rattle.lu_proof_lawful.proofs.Laws.Telling.{StillAdds, changed_call, wrote_adds, still_adds}
use Rattle.lu_proof_lawful.proofs.Laws.Untold.{newest_changes, counts, untold, untold_none, IsPart, not_last, shown_none, settled}

-- which numbers of a story's lives are out
abbrev pub OutAs : (Who → Bool) → (ℕ → Bool) → Type 0
OutAs out outs = (who : Who) → outs (number_of who) ≡ out who

-- a past of a run, with all that is known of each
pub record OfRun (head : Head) (past : List Line) : Type 0 where
  pub ranges : IsHead head
  pub grown : Grown head past
  pub pins : PinsFit past
  pub heeds : AllHeed past
  pub speaks : AllSpeak past
  pub asked : AllAsked past

pub earlier : (head : Head) (l : Line) (past : List Line) → OfRun head (l ∷ past) → OfRun head past
earlier head l past k = record {
  ranges = k.ranges;
  grown = k.grown.1;
  pins = k.pins.1;
  heeds = k.heeds.1;
  speaks = k.speaks.1;
  asked =
      asked_before l past k.asked;
}

-- what stands at an offset of an object by its story
abbrev pub story_byte : Head → (ℕ → Bool) → (ℕ → ℕ → Bool) → List Line → Resource → ℕ → Option ℕ
story_byte head outs lost past r q = plain (history outs (lost (place head.osts r)) (story (place head.osts r) r past)) q

-- ---- who isn't out is live

-- no notice of the end of a life that isn't out is taken
pub never_ends : (head : Head) (out : Who → Bool) (lost : ℕ → ℕ → Bool) (past : List Line) (at : At) (c : ℕ) → Grown head past
    → Fits head.osts out lost past → at.node ≡ Client c → Closes past at → out (life_at c past) ≡ false → Ending past c → ⊥
never_ends head out lost past at c g f node closes stays ends =
    let n = ending_now c past at closes ends in
    kept_in out n.target (life_at c past) stays past f.gone (notice_evicted head past at n.target c (life_at c past) n.boot g node
    (omega arith) n.took)

module _ (head : Head) (out : Who → Bool) (lost : ℕ → ℕ → Bool) (outs : ℕ → Bool) (of : OutAs out outs) where
  abbrev machine : List Line → Machine
  machine past = machine_of out lost head.osts (printed past)

  pub is_here : (past : List Line) (l : Line) (r : Resource) → OfRun head (l ∷ past) → Here head (place head.osts r) r l past
  is_here past l r k =
      let before = all_tied head k.ranges past k.grown.1 k.pins.1 k.heeds.1 k.speaks.1 (place head.osts r) r (omega arith) refl in
      record {
        ranges = k.ranges;
        some = omega arith;
        place = refl;
        stood = stood head l past k.grown k.pins k.heeds k.speaks;
        all =
            before.0;
        world = world (story (place head.osts r) r past) before.0;
        tied = before.1;
      }

  -- at a line of a client that is about all targets
  pub live_there : (past : List Line) (stamp : Stamp) (c : ℕ) (e : word.Entry) (r : Resource)
      → OfRun head (line (turn stamp (Client c)) e ∷ past) → Fits head.osts out lost past
      → closing_of head.clients (only (place head.osts r) past) ≡ [] → out (life_at c past) ≡ false
      → is_live c past (story (place head.osts r) r past) ≡ true
  live_there past stamp c e r k f quiet stays =
      let here = is_here past (line (turn stamp (Client c)) e) r k in
      lasts_live head c past (story (place head.osts r) r past) k.grown.1
      (here.tied.target.evicted (life_at c past) ∙ not_true (is_life (life_at c past) (evicted_of (only (place head.osts r) past)))
      (λ e. stays_in out (place head.osts r) (life_at c past) stays head past k.grown.1 f.gone quiet e))
      (never_ends head out lost past (turn stamp (Client c)) c k.grown.1 f refl k.grown.0.closes stays)
    where
      not_true : (b : Bool) → (b ≡ true → ⊥) → b ≡ false
      not_true false n = refl
      not_true true n = absurd (n refl)

  -- ---- a change

  -- of a life that is out
  did_gone : (t : ℕ) (h : List Entry) (c : ℕ) (change : Flush) (past : List Line) → out (life_at c past) ≡ true
      → history outs (lost t) (of_life (Client c) past (λ w. did w change h) h) ≡ history outs (lost t) h
  did_gone t h c change past gone = cond_both (is_live c past h) (with_entry (did w change h) h) h
      (λ (k : List Entry). history outs (lost t) k ≡ history outs (lost t) h) (λ _. by (lock_over w (change_of change) (held h)))
      (λ _. refl)
    where
      w : ℕ
      w = number_of (life_at c past)

      by : (k : Option ℕ) → history outs (lost t) (with_entry (did_under (number_of (life_at c past)) (change_of change) k) h)
          ≡ history outs (lost t) h
      by None = refl
      by (Some k) = ap (λ (b : Bool). if b then history outs (lost t) h else Made (number_of (life_at c past)) (change_of change)
          ∷ history outs (lost t) h) (of (life_at c past) ∙ gone)

  -- of one that isn't, under the lock that is found
  did_told : (t : ℕ) (h : List Entry) (c : ℕ) (change : Flush) (past : List Line) (q : ℕ) → out (life_at c past) ≡ false → is_live c past h
      ≡ true → (k : ℕ) × (lock_over (number_of (life_at c past)) (change_of change) (held h) ≡ Some k)
      → plain (history outs (lost t) (of_life (Client c) past (λ w. did w change h) h)) q
      ≡ after_at (change_of change) q (plain (history outs (lost t) h) q)
  did_told t h c change past q stays live found =
      ap (λ (b : Bool). plain (history outs (lost t) (if b then with_entry (did (number_of (life_at c past)) change h) h else h)) q) live
      ∙ ap (λ (k : Option ℕ). plain (history outs (lost t) (with_entry (did_under (number_of (life_at c past)) (change_of change) k) h)) q)
      found.1
      ∙ ap (λ (b : Bool). plain (if b then history outs (lost t) h else Made (number_of (life_at c past)) (change_of change)
      ∷ history outs (lost t) h) q) (of (life_at c past) ∙ stays)

  changes_step : (past : List Line) (stamp : Stamp) (c : ℕ) (resource : Resource) (change : Flush) (r : Resource) (q : ℕ)
      → OfRun head (line (turn stamp (Client c)) (word.Changes resource change) ∷ past) → Fits head.osts out lost past
      → story_byte head outs lost past r q ≡ untold out r past q (byte_in (machine past) r q)
      → story_byte head outs lost (line (turn stamp (Client c)) (word.Changes resource change) ∷ past) r q
      ≡ untold out r (line (turn stamp (Client c)) (word.Changes resource change) ∷ past) q (byte_in (machine past) r q)
  changes_step past stamp c resource change r q k f ih = by (same_resource resource r) refl (out (life_at c past)) refl
    where
      t : ℕ
      t = place head.osts r

      h : List Entry
      h = story (place head.osts r) r past

      quiet : closing_of head.clients (only (place head.osts r) past) ≡ []
      quiet = nothing_left head (only (place head.osts r) past) (turn stamp (Client c)) (word.Changes resource change)
          (k.grown.0.shows (place head.osts r) refl) (λ e. e)

      of_it : resource ≡ r → Here head (place head.osts r) r (line (turn stamp (Client c)) (word.Changes r change)) past
      of_it e = subst (λ (v : Resource). Here head (place head.osts r) r (line (turn stamp (Client c)) (word.Changes v change)) past) e
          (is_here past (line (turn stamp (Client c)) (word.Changes resource change)) r k)

      by : (v : Bool) → same_resource resource r ≡ v → (w : Bool) → out (life_at c past) ≡ w
          → plain (history outs (lost (place head.osts r)) (if v
          then of_life (Client c) past (λ w. did w change (story (place head.osts r) r past)) (story (place head.osts r) r past)
          else story (place head.osts r) r past)) q
          ≡ (if v && not w then after_at (change_of change) q (untold out r past q (byte_in (machine past) r q))
          else untold out r past q (byte_in (machine past) r q))
      by false s w o = ih
      by true s true o = ap (λ (is : List Item). plain is q) (did_gone (place head.osts r) (story (place head.osts r) r past) c change past
          o) ∙ ih
      by true s false o =
          let live = live_there past stamp c (word.Changes resource change) r k f quiet o in
          did_told (place head.osts r) (story (place head.osts r) r past) c change past q o live
          (changes_found head (place head.osts r) r stamp c past change (of_it (object_is resource r s)) live)
          ∙ ap (after_at (change_of change) q) ih

  -- ---- a transaction

  -- what it does to the object by its story
  served_here : (t : ℕ) (r : Resource) (d : Deed) (h : List Entry) (q : ℕ)
      → plain (history outs (lost t) (with_entry (served r d h (Txn d.reply.txn.0)) h)) q
      ≡ (if out d.reply.who && not (lost t d.reply.txn.0) then piece_at r d.op q (plain (history outs (lost t) h) q)
      else plain (history outs (lost t) h) q)
  served_here t r d h q = by d.op
    where
      w : ℕ
      w = number_of d.reply.who

      is : List Item
      is = history outs (lost t) h

      y : Option ℕ
      y = plain (history outs (lost t) h) q

      -- the test of the history
      test : (outs (number_of d.reply.who) && not (lost t d.reply.txn.0)) ≡ (out d.reply.who && not (lost t d.reply.txn.0))
      test = ap (λ (b : Bool). b && not (lost t d.reply.txn.0)) (of d.reply.who)

      -- an item of the history does this to the offset
      item : (o : StoryOp) (z : Option ℕ) → plain (piece_item (number_of d.reply.who) o (history outs (lost t) h)) q ≡ z
          → plain (history outs (lost t) (Txn d.reply.txn.0 (request_as (number_of d.reply.who) d.reply.xid.0 o) ∷ h)) q
          ≡ (if out d.reply.who && not (lost t d.reply.txn.0) then z else plain (history outs (lost t) h) q)
      item o z e =
          ap (λ (b : Bool). plain (if b then piece_item (number_of d.reply.who) o (history outs (lost t) h) else history outs (lost t) h) q)
          test
          ∙ both (out d.reply.who && not (lost t d.reply.txn.0))
        where
          both : (b : Bool) → plain (if b then piece_item (number_of d.reply.who) o (history outs (lost t) h) else history outs (lost t) h)
              q ≡ (if b then z else plain (history outs (lost t) h) q)
          both true = e
          both false = refl

      none : plain (history outs (lost t) h) q ≡ (if out d.reply.who && not (lost t d.reply.txn.0) then plain (history outs (lost t) h) q
          else plain (history outs (lost t) h) q)
      none = cond_both (out d.reply.who && not (lost t d.reply.txn.0)) (plain (history outs (lost t) h) q)
          (plain (history outs (lost t) h) q) (λ (z : Option ℕ). plain (history outs (lost t) h) q ≡ z) (λ _. refl) (λ _. refl)

      -- on this object or another
      on : (resource : Resource) (o : StoryOp) (z : Option ℕ) → plain (piece_item (number_of d.reply.who) o (history outs (lost t) h)) q ≡ z
          → plain (history outs (lost t) (with_entry (option_map
          (λ o. Txn d.reply.txn.0 (request_as (number_of d.reply.who) d.reply.xid.0 o))
          (if same_resource resource r then Some o else None)) h)) q
          ≡ (if out d.reply.who && not (lost t d.reply.txn.0) then (if same_resource resource r then z
          else plain (history outs (lost t) h) q) else plain (history outs (lost t) h) q)
      on resource o z e = cases (same_resource resource r)
        where
          cases : (v : Bool) → plain (history outs (lost t) (with_entry
              (option_map (λ o. Txn d.reply.txn.0 (request_as (number_of d.reply.who) d.reply.xid.0 o)) (if v then Some o else None)) h)) q
              ≡ (if out d.reply.who && not (lost t d.reply.txn.0) then (if v then z else plain (history outs (lost t) h) q)
              else plain (history outs (lost t) h) q)
          cases true = item o z e
          cases false = none

      -- one that changes no bytes
      still : (resource : Resource) (o : StoryOp) → piece_item (number_of d.reply.who) o (history outs (lost t) h) ≡ history outs (lost t) h
          → plain (history outs (lost t) (with_entry (option_map
          (λ o. Txn d.reply.txn.0 (request_as (number_of d.reply.who) d.reply.xid.0 o))
          (if same_resource resource r then Some o else None)) h)) q
          ≡ (if out d.reply.who && not (lost t d.reply.txn.0) then plain (history outs (lost t) h) q else plain (history outs (lost t) h) q)
      still resource o e = on resource o (plain (history outs (lost t) h) q) (ap (λ (is : List Item). plain is q) e)
          ∙ ap (λ (z : Option ℕ). if out d.reply.who && not (lost t d.reply.txn.0) then z else plain (history outs (lost t) h) q)
          (cond_both (same_resource resource r) (plain (history outs (lost t) h) q) (plain (history outs (lost t) h) q)
          (λ (z : Option ℕ). z ≡ plain (history outs (lost t) h) q) (λ _. refl) (λ _. refl))

      get : (cookie page : ℕ) (o : _) → piece_item (number_of d.reply.who) (get_under cookie page o) (history outs (lost t) h)
          ≡ history outs (lost t) h
      get cookie page None = refl
      get cookie page (Some l) = refl

      by : (o : Op) → plain (history outs (lost t) (with_entry (option_map
          (λ o. Txn d.reply.txn.0 (request_as (number_of d.reply.who) d.reply.xid.0 o)) (op_of r h o)) h)) q
          ≡ (if out d.reply.who && not (lost t d.reply.txn.0) then piece_at r o q (plain (history outs (lost t) h) q)
          else plain (history outs (lost t) h) q)
      by (op.Put resource cookie at bytes) = on resource (Back cookie.0 (Write at bytes))
          (after_at (Write at bytes) q (plain (history outs (lost t) h) q)) refl
      by (op.Cut resource cookie n) = on resource (Back cookie.0 (Cut n)) (after_at (Cut n) q (plain (history outs (lost t) h) q)) refl
      by (op.Enqueue resource mode extent) = still resource _ refl
      by (op.Get resource cookie page) = still resource (get_under cookie.0 page (given cookie.0 h)) (get cookie.0 page (given cookie.0 h))
      by (op.Size resource) = still resource Size refl
      by o = none

  -- and by the machine
  piece_step : (m : Machine) (u : ℕ) (d : Deed) (o : Option Op) (r : Resource) (q : ℕ) → o ≡ Some d.op
      → byte_in (after_item head.osts m (if lost (suc u) d.reply.txn.0 then None
      else standing_item (out d.reply.who) (suc u) d.reply.txn d.reply.who o)) r q
      ≡ (if out d.reply.who && not (lost (suc u) d.reply.txn.0) then piece_at r d.op q (byte_in m r q) else byte_in m r q)
  piece_step m u d o r q e = subst (λ (o : Option Op). byte_in (after_item head.osts m
      (if lost (suc u) d.reply.txn.0 then None else standing_item (out d.reply.who) (suc u) d.reply.txn d.reply.who o)) r q
      ≡ (if out d.reply.who && not (lost (suc u) d.reply.txn.0) then piece_at r d.op q (byte_in m r q) else byte_in m r q)) (sym e)
      (by (lost (suc u) d.reply.txn.0) (out d.reply.who))
    where
      by : (v w : Bool) → byte_in (after_item head.osts m (if v then None else standing_item w (suc u) d.reply.txn d.reply.who (Some d.op)))
          r q ≡ (if w && not v then piece_at r d.op q (byte_in m r q) else byte_in m r q)
      by true true = refl
      by true false = refl
      by false false = refl
      by false true = piece_reaches m d.op r q

  -- what is done at another target is of another object
  elsewhere : (past : List Line) (stamp : Stamp) (u : ℕ) (d : Deed) (r : Resource) (q : ℕ) (x : Option ℕ)
      → OfRun head (line (turn stamp (Target (suc u))) (word.Txn d) ∷ past) → is_target (place head.osts r) (Target (suc u)) ≡ false
      → piece_at r d.op q x ≡ x
  elsewhere past stamp u d r q x k other = by d.op (λ resource on same. other_place resource on same)
    where
      whole : List Line
      whole = line (turn stamp (Target (suc u))) (word.Txn d) ∷ past

      own : only (suc u) (line (turn stamp (Target (suc u))) (word.Txn d) ∷ past) ≡ line (turn stamp (Target (suc u))) (word.Txn d)
          ∷ only (suc u) past
      own = ap (λ (b : Bool). if b then line (turn stamp (Target (suc u))) (word.Txn d) ∷ only (suc u) past else only (suc u) past)
          (self (suc u))

      other_place : (resource : Resource) → object_of d.op ≡ Some resource → same_resource resource r ≡ true → ⊥
      other_place resource on same =
          let f = ((holds head (line (turn stamp (Target (suc u))) (word.Txn d) ∷ past) k.grown).at (suc u)).done.flew d
          (subst (λ (p : List Line). Acted p d) (sym own) (inl refl)) in
          let here = flew_place head (line (turn stamp (Target (suc u))) (word.Txn d) ∷ past) (suc u) d.reply.who f.0 r k.grown k.pins f.1
          (ap object_of f.3 ∙ on ∙ ap (λ (v : Resource). Some v) (object_is resource r same)) in
          absurd (let yes : nat_eq (place head.osts r) (suc u) ≡ true = ap (λ (n : ℕ). nat_eq n (suc u)) (sym here) ∙ self (suc u) in cc)

      by : (o : Op) → ((resource : Resource) → object_of o ≡ Some resource → same_resource resource r ≡ true → ⊥) → piece_at r o q x ≡ x
      by (op.Put resource cookie at bytes) never = cond_both (same_resource resource r) (after_at (Write at bytes) q x) x
          (λ (z : Option ℕ). z ≡ x) (λ e. absurd (never resource refl e)) (λ _. refl)
      by (op.Cut resource cookie n) never = cond_both (same_resource resource r) (after_at (Cut n) q x) x (λ (z : Option ℕ). z ≡ x)
          (λ e. absurd (never resource refl e)) (λ _. refl)
      by o never = refl

  txn_step : (past : List Line) (stamp : Stamp) (u : ℕ) (d : Deed) (r : Resource) (q : ℕ)
      → OfRun head (line (turn stamp (Target u)) (word.Txn d) ∷ past) → story_byte head outs lost past r q ≡ byte_in (machine past) r q
      → story_byte head outs lost (line (turn stamp (Target u)) (word.Txn d) ∷ past) r q
      ≡ byte_in (machine (line (turn stamp (Target u)) (word.Txn d) ∷ past)) r q
  txn_step past stamp zero d r q k ih =
      ap (λ (b : Bool). plain (history outs (lost (place head.osts r))
      (if b then with_entry (served r d (story (place head.osts r) r past) (Txn d.reply.txn.0)) (story (place head.osts r) r past)
      else story (place head.osts r) r past)) q) first
      ∙ ih
      ∙ sym (cond_both (lost 0 d.reply.txn.0) None (names_act d.reply.who d.reply.txn (asked (printed past) 0 d.reply.who d.reply.xid.0))
      (λ (i : Option ActOf). byte_in (after_item head.osts (machine past) i) r q ≡ byte_in (machine past) r q)
      (λ _. refl) (λ _. names_leave head.osts (machine past) d.reply.who d.reply.txn (asked (printed past) 0 d.reply.who d.reply.xid.0) r
      q))
    where
      first : is_target (place head.osts r) (Target 0) ≡ false
      first = grind (arith, nat_tests)
  txn_step past stamp (suc u) d r q k ih =
      cases (is_target (place head.osts r) (Target (suc u))) refl
      ∙ sym (piece_step (machine past) u d (asked (printed past) (suc u) d.reply.who d.reply.xid.0) r q (k.asked.0 (suc u) refl))
    where
      t : ℕ
      t = place head.osts r

      h : List Entry
      h = story (place head.osts r) r past

      does : Option ℕ → Option ℕ
      does x = if out d.reply.who && not (lost (suc u) d.reply.txn.0) then piece_at r d.op q x else x

      cases : (v : Bool) → is_target (place head.osts r) (Target (suc u)) ≡ v
          → plain (history outs (lost (place head.osts r)) (if v
          then with_entry (served r d (story (place head.osts r) r past) (Txn d.reply.txn.0)) (story (place head.osts r) r past)
          else story (place head.osts r) r past)) q
          ≡ (if out d.reply.who && not (lost (suc u) d.reply.txn.0) then piece_at r d.op q (byte_in (machine past) r q)
          else byte_in (machine past) r q)
      cases true e =
          served_here (place head.osts r) r d (story (place head.osts r) r past) q
          ∙ ap (λ (y : Option ℕ). if out d.reply.who && not (lost (place head.osts r) d.reply.txn.0) then piece_at r d.op q y else y) ih
          ∙ ap (λ (n : ℕ). if out d.reply.who && not (lost n d.reply.txn.0) then piece_at r d.op q (byte_in (machine past) r q)
          else byte_in (machine past) r q) (eqb-true (place head.osts r) (suc u) e)
      cases false e =
          ih ∙ cond_both (out d.reply.who && not (lost (suc u) d.reply.txn.0)) (piece_at r d.op q (byte_in (machine past) r q))
          (byte_in (machine past) r q) (λ (z : Option ℕ). byte_in (machine past) r q ≡ z)
          (λ _. sym (elsewhere past stamp u d r q (byte_in (machine past) r q) k e)) (λ _. refl)

  -- ---- a close

  close_step : (past : List Line) (stamp : Stamp) (u : ℕ) (o : Outcome) (r : Resource) (q : ℕ)
      → OfRun head (line (turn stamp (Target u)) (word.Close o) ∷ past)
      → Fits head.osts out lost (line (turn stamp (Target u)) (word.Close o) ∷ past)
      → story_byte head outs lost past r q ≡ byte_in (machine past) r q
      → story_byte head outs lost (line (turn stamp (Target u)) (word.Close o) ∷ past) r q ≡ byte_in (machine past) r q
  close_step past stamp u o r q k f ih = cases (is_target (place head.osts r) (Target u)) refl ∙ ih
    where
      t : ℕ
      t = place head.osts r

      l : Line
      l = line (turn stamp (Target u)) (word.Close o)

      -- what the story loses is lost
      loses_it : is_target (place head.osts r) (Target u) ≡ true → (n : ℕ) → HasTxn (story (place head.osts r) r past) n
          → also (lost (place head.osts r)) (lost_by (says.committed (story (place head.osts r) r past)) o.boot (kept_of o.kept)) n
          ≡ lost (place head.osts r) n
      loses_it here n has = by (lost_by (says.committed (story (place head.osts r) r past)) o.boot (kept_of o.kept) n) refl
        where
          exact : says.committed (story (place head.osts r) r past) ≡ (server_of head.osts (only (place head.osts r) past)).committed.0
          exact = ⊎_elim (λ e. e) (λ p. absurd (let n = next_commits head (only (place head.osts r) past)
              (line (turn stamp (Target u)) (word.Close o)) (k.grown.0.shows (place head.osts r) here) p.1 in let no : word.Close o
              ≡ word.Commit n.0 n.1 = n.2 in cc))
              (committed_is head (place head.osts r) r past k.grown.1)

          gone : loses (server_of head.osts (only (place head.osts r) past)).committed.0 o n ≡ true → lost (place head.osts r) n ≡ true
          gone e = f.stays (place head.osts r) n (made_more (place head.osts r) (line (turn stamp (Target u)) (word.Close o)) past n
              (txn_made (place head.osts r) r past n has))
              (ap (λ (b : Bool). is_lost head.osts (if b then line (turn stamp (Target u)) (word.Close o) ∷ only (place head.osts r) past
              else only (place head.osts r) past) n) here ∙ either (is_lost head.osts (only (place head.osts r) past) n) _ e)
            where
              either : (a b : Bool) → b ≡ true → (a || b) ≡ true
              either true b e = refl
              either false b e = e

          by : (b : Bool) → lost_by (says.committed (story (place head.osts r) r past)) o.boot (kept_of o.kept) n ≡ b
              → (lost (place head.osts r) n || b) ≡ lost (place head.osts r) n
          by false e = or_false (lost (place head.osts r) n)
            where
              or_false : (a : Bool) → (a || false) ≡ a
              or_false true = refl
              or_false false = refl
          by true e = all_true (lost (place head.osts r) n) (gone (ap (λ (c : ℕ). lost_by c o.boot (kept_of o.kept) n) (sym exact) ∙ e))
            where
              all_true : (a : Bool) → a ≡ true → (a || true) ≡ a
              all_true true e = refl
              all_true false e = absurd (cc)

      cases : (v : Bool) → is_target (place head.osts r) (Target u) ≡ v
          → plain (history outs (lost (place head.osts r)) (if v then closes (story (place head.osts r) r past) o
          ∷ story (place head.osts r) r past else story (place head.osts r) r past)) q ≡ story_byte head outs lost past r q
      cases true e = ap (λ (is : List Item). plain is q) (history_same outs
          (also (lost (place head.osts r)) (lost_by (says.committed (story (place head.osts r) r past)) o.boot (kept_of o.kept)))
          (lost (place head.osts r)) (story (place head.osts r) r past) (loses_it e))
      cases false e = refl

  -- ---- what is told

  -- the lines of a call leave its client's life
  life_block : (c d : ℕ) (at : At) (y : Raid0) (kind : Kind) (us : List Using) (past : List Line)
      → life_at d (with_turn at (pieces_of y kind us) past) ≡ life_at d past
  life_block c d at y (Writes p bs) us past = by us past
    where
      by : (us : List Using) (past : List Line) → life_at d (with_turn at (pieces_of y (Writes p bs) us) past) ≡ life_at d past
      by [] past = refl
      by (u ∷ us) past = by us _
  life_block c d at y (Cuts n) us past = by us past
    where
      by : (us : List Using) (past : List Line) → life_at d (with_turn at (pieces_of y (Cuts n) us) past) ≡ life_at d past
      by [] past = refl
      by (u ∷ us) past = by us _
  life_block c d at y kind us past = refl

  -- nothing that changes bytes
  still_step : (past : List Line) (c : ℕ) (i : Option ActOf) (r : Resource) (q : ℕ) → StillAdds (who_is c (printed past)) i
      → byte_in (after_item head.osts (machine past) i) r q ≡ byte_in (machine past) r q
  still_step past c i r q (inl e) = ap (λ (x : Option ActOf). byte_in (after_item head.osts (machine past) x) r q) e
  still_step past c i r q (inr (inl n)) = ap (λ (x : Option ActOf). byte_in (after_item head.osts (machine past) x) r q) n.1
  still_step past c i r q (inr (inr f)) = ap (λ (x : Option ActOf). byte_in (after_item head.osts (machine past) x) r q) f.3
      ∙ still_leaves head.osts (machine past) (who_is c (printed past)) f.0 f.1 r q f.2

  -- a write or a cut: its lines did to the object what it does
  wrote_step : (past : List Line) (stamp : Stamp) (c slot : ℕ) (named : At) (given : Answer) (work : Option Work) (r : Resource) (q : ℕ)
      → OfRun head past → Fits head.osts out lost past → Steps past (turn stamp (Client c))
      → WroteOk past (turn stamp (Client c)) c slot named given work
      → untold out r past q (byte_in (machine past) r q) ≡ byte_in
      (after_item head.osts (machine past) (told_item out (printed past) (turn stamp (Client c)) (Client c) slot named given)) r q
  wrote_step past stamp c slot named given work r q k f steps w = by (out (life_at c past)) refl
    where
      x : Option ℕ
      x = byte_in (machine past) r q

      before : List Line
      before = w.made.before

      -- that life is the one before its lines
      life : life_at c past ≡ life_at c w.made.before
      life = ap (λ (p : List Line). life_at c p) w.made.is ∙ life_block c c (turn stamp (Client c)) w.done.layout w.done.kind w.done.used
          w.made.before

      counted : counts out (Client c) w.made.before ≡ not (out (life_at c past))
      counted = ap (λ (v : Who). not (out v)) (sym life)

      whose : out (who_is c (printed past)) ≡ out (life_at c past)
      whose = ap out (present_is head c past k.grown)

      item : byte_in (after_item head.osts (machine past) (told_item out (printed past) (turn stamp (Client c)) (Client c) slot named
          given)) r q
          ≡ byte_in (after_item head.osts (machine past) (if not (out (life_at c past))
          then Some (on_file (who_is c (printed past)) (changed_call w.running w.done w.does).0.fid w.running.call) else None)) r q
      item = ap (λ (i : Option ActOf). byte_in (after_item head.osts (machine past) i) r q)
          (wrote_adds head out past stamp c slot named given work k.grown steps w
          ∙ ap (λ (b : Bool). if not b then Some (on_file (who_is c (printed past)) (changed_call w.running w.done w.does).0.fid
          w.running.call) else None) whose)

      by : (b : Bool) → out (life_at c past) ≡ b → untold out r past q x
          ≡ byte_in (after_item head.osts (machine past) (told_item out (printed past) (turn stamp (Client c)) (Client c) slot named given))
          r q
      by true e =
          ap (λ (p : List Line). untold out r p q x) w.made.is
          ∙ block_gone out r q x c stamp w.done.layout w.running w.done w.made.before refl w.does (counted ∙ ap not e)
          ∙ untold_none out r w.made.before q x w.made.fresh
          ∙ sym (item ∙ ap (λ (b : Bool). byte_in (after_item head.osts (machine past)
          (if not b then Some (on_file (who_is c (printed past)) (changed_call w.running w.done w.does).0.fid w.running.call)
          else None)) r q) e)
      by false e =
          let m = changed_call w.running w.done w.does in
          let laid = file_laid head out lost k.ranges past c slot w.running m.0 k.grown k.asked f (whose ∙ e) w.call m.1 in
          ap (λ (p : List Line). untold out r p q x) w.made.is
          ∙ block_is out r q x c stamp w.done.layout w.running w.done w.made.before refl (subst IsLayout (sym m.3) laid.1) w.does w.wants
          (counted ∙ ap not e)
          ∙ ap (λ (z : Option ℕ). changes_at w.done.layout w.done.fid w.running.call r q z)
          (untold_none out r w.made.before q x w.made.fresh)
          ∙ ap (λ (g : Fid). changes_at w.done.layout g w.running.call r q x) m.2
          ∙ sym (item ∙ ap (λ (b : Bool). byte_in (after_item head.osts (machine past)
          (if not b then Some (on_file (who_is c (printed past)) m.0.fid w.running.call) else None)) r q) e
          ∙ data_reaches head.osts (machine past) (who_is c (printed past)) m.0.fid w.running.call w.done.layout r q
          (subst IsLayout (sym m.3) laid.1) (laid.0 ∙ sym m.3) m.5)

  told_step : (past : List Line) (stamp : Stamp) (c slot : ℕ) (named : At) (given : Answer) (work : Option Work) (r : Resource) (q : ℕ)
      → OfRun head (line (turn stamp (Client c)) (word.Told slot named given work) ∷ past) → Fits head.osts out lost past
      → TellsOk past (turn stamp (Client c)) c slot named given work → story_byte head outs lost past r q
      ≡ untold out r past q (byte_in (machine past) r q)
      → story_byte head outs lost past r q ≡ byte_in (after_item head.osts (machine past)
      (told_item out (printed past) (turn stamp (Client c)) (Client c) slot named given)) r q
  told_step past stamp c slot named given work r q k f tells ih = ⊎_elim
      (λ (w : WroteOk past (turn stamp (Client c)) c slot named given work). ih
      ∙ wrote_step past stamp c slot named given work r q (earlier head (line (turn stamp (Client c)) (word.Told slot named given work))
      past k) f k.grown.0.steps w)
      (λ (p : IsPart (word.Told slot named given work) → ⊥).
      ih ∙ untold_none out r past q (byte_in (machine past) r q)
      (settled head past (turn stamp (Client c)) (word.Told slot named given work) k.heeds k.grown.0 k.grown.1 p)
      ∙ ⊎_elim
      (λ (s : StillAdds (who_is c (printed past)) (told_item out (printed past) (turn stamp (Client c)) (Client c) slot named given)). sym
      (still_step past c (told_item out (printed past) (turn stamp (Client c)) (Client c) slot named given) r q s))
      (λ (w : WroteOk past (turn stamp (Client c)) c slot named given work). absurd (p (part w)))
      (still_adds head out past stamp c slot named given work k.grown.1 k.grown.0.steps tells))
      (not_last past (turn stamp (Client c)) c slot named given work tells)
    where
      part : WroteOk past (turn stamp (Client c)) c slot named given work → IsPart (word.Told slot named given work)
      part w = subst (λ (v : Option Work). IsPart (word.Told slot named given v)) (sym w.of_work) w.of_answer

  -- ---- after every line

  pub agrees_so : (past : List Line) → OfRun head past → Fits head.osts out lost past → (r : Resource) (q : ℕ)
      → story_byte head outs lost past r q ≡ untold out r past q (byte_in (machine past) r q)
  agrees_so [] k f r q = refl
  agrees_so (l ∷ past) k f r q = by l.at.node l.entry k f (agrees_so past (earlier head l past k) (fits_before head.osts out lost l past f)
      r q)
    where
      So : Node → word.Entry → Type 0
      So node e = story_byte head outs lost (line (turn l.at.stamp node) e ∷ past) r q
          ≡ untold out r (line (turn l.at.stamp node) e ∷ past) q (byte_in (machine (line (turn l.at.stamp node) e ∷ past)) r q)

      Ih : Type 0
      Ih = story_byte head outs lost past r q ≡ untold out r past q (byte_in (machine past) r q)

      fits : (node : Node) (e : word.Entry) → Fits head.osts out lost (line (turn l.at.stamp node) e ∷ past) → Fits head.osts out lost past
      fits node e f = fits_before head.osts out lost (line (turn l.at.stamp node) e) past f

      -- a line that neither changes nor tells
      bare : (node : Node) (e : word.Entry) → OfRun head (line (turn l.at.stamp node) e ∷ past) → (IsPart e → ⊥)
          → story_byte head outs lost past r q ≡ untold out r past q (byte_in (machine past) r q) → story_byte head outs lost past r q
          ≡ byte_in (machine past) r q
      bare node e k other ih = ih ∙ untold_none out r past q (byte_in (machine past) r q)
          (settled head past (turn l.at.stamp node) e k.heeds k.grown.0 k.grown.1 other)

      still : (node : Node) (e : word.Entry) → OfRun head (line (turn l.at.stamp node) e ∷ past) → IsQuiet e → (IsPart e → ⊥)
          → story_byte head outs lost past r q ≡ untold out r past q (byte_in (machine past) r q)
          → story_byte head outs lost (line (turn l.at.stamp node) e ∷ past) r q ≡ byte_in (machine past) r q
      still node e k quiet other ih =
          ap (λ (is : List Item). plain is q) (quiet_step outs (lost (place head.osts r)) (story (place head.osts r) r past)
          (place head.osts r) r node past e quiet) ∙ bare node e k other ih

      by : (node : Node) (e : word.Entry) → OfRun head (line (turn l.at.stamp node) e ∷ past)
          → Fits head.osts out lost (line (turn l.at.stamp node) e ∷ past) → story_byte head outs lost past r q
          ≡ untold out r past q (byte_in (machine past) r q)
          → story_byte head outs lost (line (turn l.at.stamp node) e ∷ past) r q
          ≡ untold out r (line (turn l.at.stamp node) e ∷ past) q (byte_in (machine (line (turn l.at.stamp node) e ∷ past)) r q)
      by (Client c) (word.Changes resource change) k f ih = changes_step past l.at.stamp c resource change r q k
          (fits (Client c) (word.Changes resource change) f) ih
      by (Target u) (word.Changes resource change) k f ih = absurd k.grown.0.ok
      by (Client c) (word.Shows resource cookie last) k f ih = cases (newest_changes past) refl
        where
          cases : (b : Bool) → newest_changes past ≡ b → story_byte head outs lost past r q
              ≡ (if b then untold out r past q (byte_in (machine past) r q) else byte_in (machine past) r q)
          cases true e = ih
          cases false e = ih ∙ untold_none out r past q (byte_in (machine past) r q)
              (shown_none head past (turn l.at.stamp (Client c)) resource cookie last k.grown.0 e)
      by (Target u) (word.Shows resource cookie last) k f ih = absurd k.grown.0.ok
      by (Client c) (word.Told slot named given work) k f ih = told_step past l.at.stamp c slot named given work r q k
          (fits (Client c) (word.Told slot named given work) f) k.grown.0.ok ih
      by (Target u) (word.Told slot named given work) k f ih = absurd k.grown.0.ok
      by (Client c) (word.Txn d) k f ih = absurd k.grown.0.ok
      by (Target u) (word.Txn d) k f ih = txn_step past l.at.stamp u d r q k (bare (Target u) (word.Txn d) k (λ p. p) ih)
      by (Client c) (word.Close o) k f ih = absurd k.grown.0.ok
      by (Target u) (word.Close o) k f ih = close_step past l.at.stamp u o r q k f (bare (Target u) (word.Close o) k (λ p. p) ih)
      by node e k f ih = still node e k tt (λ p. p) ih

  -- with no change left untold
  pub agrees : (past : List Line) → OfRun head past → Fits head.osts out lost past → NotChanging past → (r : Resource) (q : ℕ)
      → story_byte head outs lost past r q ≡ byte_in (machine past) r q
  agrees past k f none r q = agrees_so past k f r q ∙ untold_none out r past q (byte_in (machine past) r q) none
