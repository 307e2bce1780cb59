-- Each change that the story of an object tells is that which a call made there: a write or a cut that was told to its life, or that makes
-- its changes
-- in the newest lines.
use Rattle.std.proofs.Common.{◌≡◌, ℕ, ◌+◌, ◌-◌, ◌<◌, Bool, true, List, [], ◌∷◌, length, Option, Some, None, ◌⊎◌, inl, inr, ⊎_elim, refl}
use Rattle.std.proofs.Common.{sym, subst, ap, ◌∙◌}
use Rattle.std.specs.Prelude.{◌&&◌, map, if◌then◌else◌}
use Rattle.std.proofs.lemmas.Bool.{cond_both}
use Rattle.lu_base.specs.declared.ids.At.{At}
use Rattle.lu_base.specs.declared.ids.Fid.{Fid}
use Rattle.lu_base.specs.declared.ids.Node.{Node}
use Rattle.lu_base.specs.declared.ids.Node.TheVariants.{Client, Target}
use Rattle.lu_base.specs.declared.ids.Stamp.{Stamp}
use Rattle.lu_base.specs.declared.ids.Who.{Who}
use Rattle.lu_base.specs.declared.locks.Mode.TheVariants.{PW}
use Rattle.lu_base.specs.declared.locks.Resource.{Resource}
use Rattle.lu_layout.specs.Raid0.{Raid0}
use Rattle.lu_layout.specs.Sound.{IsLayout}
use Rattle.lu_held.specs.declared.locks.Use.{Use}
use Rattle.lu_spec_machine.specs.Tree.{same_fid}
use Rattle.lu_msg.specs.declared.answers.Answer.{Answer}
use Rattle.lu_msg.specs.declared.calls.Call.{Call}
use Rattle.lu_msg.specs.declared.calls.Call.TheVariants as call
use Rattle.lu_spec_entries.specs.declared.changes.Flush.{Flush}
use Rattle.lu_spec_entries.specs.declared.changes.Flush.TheVariants as flush
use Rattle.lu_spec_entries.specs.declared.uses.Using.{Using}
use Rattle.lu_spec_entries.specs.Carried.{Work, Kind, Writes, Cuts, Running}
use Rattle.lu_spec_entries.specs.Words as word
use Rattle.lu_spec_entries.specs.Words.{Line, line, with_turn}
use Rattle.lu_spec_entries.specs.Concerns.{only}
use Rattle.lu_spec_entries.specs.Printed.{printed}
use Rattle.lu_spec_client.specs.Advances.{writes, cuts}
use Rattle.lu_spec_client.specs.Stripes.{below_on, bytes_on, stripes}
use Rattle.lu_spec_client.specs.Wants.{wants_of}
use Rattle.lu_proof_objects.proofs.Pieces.{stripe_there, run_wanted, cut_wanted}
use Rattle.lu_proof_lawful.specs.Covered.Calls.{life_at}
use Rattle.lu_proof_lawful.specs.Covered.ClientStates.{is_own}
use Rattle.lu_proof_lawful.specs.Covered.Runs.{IsOnBytes}
use Rattle.lu_proof_lawful.specs.Covered.Heads.{Head}
use Rattle.lu_spec_laws.specs.Words.Calls as calls
use Rattle.lu_spec_laws.specs.Words.Calls.{open_call}
use Rattle.lu_spec_laws.specs.Words.Pasts.{Past}
use Rattle.lu_spec_laws.specs.Words.Lives.{is_by}
use Rattle.lu_spec_laws.specs.Words.Pieces.{layout_heard, is_done, is_file, with_call, done_calls}
use Rattle.lu_proof_lawful.proofs.Preconditions.Guards.{In, ChangesOn, IsChange, NewestChanges, NotChanging, pieces_of, wanted_by, WroteOk}
use Rattle.lu_proof_lawful.proofs.Preconditions.Grown.{Allowed}
use Rattle.lu_proof_lawful.proofs.Preconditions.Lists.{self, turn, own_self}
use Rattle.lu_proof_lawful.proofs.Preconditions.ClientLocks.{in_mapped}
use Rattle.lu_proof_lawful.proofs.Invariants.Known.{client_is}
use Rattle.lu_proof_bytes.specs.Object.Words.{Change, Write, Cut, Did, Entry, Tells, overlay}
use Rattle.lu_proof_bytes.specs.Object.History.{ToldWrite, ToldCut}
use Rattle.lu_proof_objects.specs.Points.{change_of}
use Rattle.lu_proof_lawful.specs.Projection.Lives.{number_of}
use Rattle.lu_proof_lawful.specs.Projection.Stories.{story}
use Rattle.lu_proof_lawful.proofs.Projection.Lives.{same_life as same_number}
use Rattle.lu_proof_lawful.proofs.Refinement.LineCases.{IsOther, by_line}
use Rattle.lu_proof_lawful.proofs.Refinement.OpenedHandles.{file_opened}
use Rattle.lu_proof_lawful.proofs.Refinement.OneLayout.{is_layout}
use Rattle.lu_proof_lawful.proofs.Laws.Agrees.{OfRun, earlier}
use Rattle.lu_proof_lawful.proofs.Laws.OpenedFiles.{file_meant}
use Rattle.lu_proof_lawful.proofs.Laws.PieceLayouts.{layout_stays, heard_created, opened_heard}
use Rattle.lu_proof_lawful.proofs.Laws.Printed.{life_now, its_client, own_by}
use Rattle.lu_proof_lawful.proofs.Laws.Telling.{changed_call}
use Rattle.lu_proof_lawful.proofs.Laws.Untold.{IsPart, not_last, settled}

-- ---- what a story tells

abbrev pub ToldOf : List Entry → ℕ → Change → Type 0
ToldOf [] w ch = ⊥
ToldOf (Tells c (Did k d) ∷ h) w ch = ((c ≡ w) × (d ≡ ch)) ⊎ ToldOf h w ch
ToldOf (_ ∷ h) w ch = ToldOf h w ch

pub write_told : (h : List Entry) (w p b : ℕ) → ToldWrite h w p b → (at : ℕ) × (bytes : List ℕ) × ToldOf h w (Write at bytes)
    × (overlay at bytes p None ≡ Some b)
write_told [] w p b i = absurd i
write_told (Tells d (Did k (Write at bytes)) ∷ h) w p b (inl i) = (at, bytes, inl (i.0, refl), i.1)
write_told (Tells d (Did k (Write at bytes)) ∷ h) w p b (inr i) = let r = write_told h w p b i in (r.0, r.1, inr r.2, r.3)
write_told (Tells d (Did k (Cut n)) ∷ h) w p b i = let r = write_told h w p b i in (r.0, r.1, inr r.2, r.3)
write_told (_ ∷ h) w p b i = write_told h w p b i

pub cut_told : (h : List Entry) (w n : ℕ) → ToldCut h w n → ToldOf h w (Cut n)
cut_told [] w n i = absurd i
cut_told (Tells d (Did k (Cut m)) ∷ h) w n (inl i) = inl (i.0, ap Cut i.1)
cut_told (Tells d (Did k (Cut m)) ∷ h) w n (inr i) = inr (cut_told h w n i)
cut_told (Tells d (Did k (Write at bytes)) ∷ h) w n i = inr (cut_told h w n i)
cut_told (_ ∷ h) w n i = cut_told h w n i

-- ---- what a call makes of a stripe

abbrev pub Makes : Raid0 → ℕ → Call → Change → Type 0
Makes l i (call.Write h p bs) (Write at bytes) = (at ≡ below_on l i p) × (bytes ≡ bytes_on l i p bs)
Makes l i (call.Cut h size) (Cut n) = n ≡ below_on l i size
Makes l i k ch = ⊥

-- a call of that life made it, and was told; its layout is the one that the life heard
pub record DoneFor (who : Who) (r : Resource) (past : Past) (ch : Change) : Type 0 where
  pub call : Call
  pub among : In call (done_calls who r.fid past)
  pub layout : Raid0
  pub heard : layout_heard who r.fid past ≡ Some layout
  pub good : IsLayout layout
  pub stripe : r.stripe < length layout.targets
  pub makes : Makes layout r.stripe call ch

-- ---- a line more

pub calls_stay : (who : Who) (fid : Fid) (l : Line) (past : List Line) (k : Call) → In k (done_calls who fid (printed past))
    → In k (done_calls who fid (printed (l ∷ past)))
calls_stay who fid l past k i = by l.entry
  where
    with : (b : Option calls.Begun) → In k (with_call fid b (done_calls who fid (printed past)))
    with None = i
    with (Some b) = cond_both (is_file fid (calls.file_of b)) (b.call ∷ done_calls who fid (printed past))
        (done_calls who fid (printed past)) (λ (ks : List Call). In k ks) (λ t. inr i) (λ t. i)

    by : (e : word.Entry) → In k (done_calls who fid (printed (line l.at e ∷ past)))
    by (word.Told slot at answer work) =
        cond_both (is_by who (printed past) l.at.node && is_done answer)
        (with_call fid (open_call who.client slot (printed past)) (done_calls who fid (printed past)))
        (done_calls who fid (printed past)) (λ (ks : List Call). In k ks)
        (λ t. with (open_call who.client slot (printed past))) (λ t. i)
    by e = i

done_more : (who : Who) (r : Resource) (l : Line) (past : List Line) (ch : Change) → DoneFor who r (printed past) ch
    → DoneFor who r (printed (l ∷ past)) ch
done_more who r l past ch d =
    record {
      call = d.call;
      among = calls_stay who r.fid l past d.call d.among;
      layout = d.layout;
      heard =
          layout_stays who r.fid l past d.layout d.heard;
      good = d.good;
      stripe = d.stripe;
      makes = d.makes;
    }

-- ---- what the newest lines change

-- a client of that life made this change of the object in them
abbrev pub Waits : Who → Resource → Change → List Line → Type 0
Waits who r ch [] = ⊥
Waits who r ch (l ∷ past) =
    elim l.entry [
      | word.Changes q change ↦ ((c : ℕ) × (l.at.node ≡ Client c) × (life_at c past ≡ who) × (q ≡ r) × (change_of change ≡ ch))
          ⊎ Waits who r ch past
      | word.Shows q cookie last ↦ NewestChanges past × Waits who r ch past
      | _ ↦ ⊥
    ]

none_waits : (who : Who) (r : Resource) (ch : Change) (past : List Line) → NotChanging past → Waits who r ch past → ⊥
none_waits who r ch [] none w = w
none_waits who r ch (l ∷ past) none w = by l.entry none w
  where
    by : (e : word.Entry) → NotChanging (line l.at e ∷ past) → Waits who r ch (line l.at e ∷ past) → ⊥
    by (word.Changes q change) none w = none
    by (word.Shows q cookie last) none w = none w.0
    by e none w = w

-- the call that makes the newest lines makes it
module _ (who : Who) (r : Resource) (ch : Change) (stamp : Stamp) (c : ℕ) (l : Raid0) where
  -- with one of the locks in use
  abbrev ByUse : (Use → Change) → List Using → List Line → Type 0
  ByUse makes us past = (u : Using) × In u us × (u.want.resource ≡ r) × (makes u.want ≡ ch) × (life_at c past ≡ who)

  -- after the lines of one
  abbrev put_to : ℕ → List ℕ → Using → List Line → List Line
  put_to p bs u past =
      line (turn stamp (Client c)) (word.Shows u.want.resource u.lock.cookie
      (below_on l u.want.resource.stripe p + length (bytes_on l u.want.resource.stripe p bs) - 1))
      ∷ line (turn stamp (Client c)) (word.Changes u.want.resource
      (flush.Put (below_on l u.want.resource.stripe p) (bytes_on l u.want.resource.stripe p bs)))
      ∷ past

  abbrev cut_to : ℕ → Using → List Line → List Line
  cut_to n u past = line (turn stamp (Client c)) (word.Changes u.want.resource (flush.Cut (below_on l u.want.resource.stripe n))) ∷ past

  writes_wait : (p : ℕ) (bs : List ℕ) (us : List Using) (past : List Line)
      → Waits who r ch (with_turn (turn stamp (Client c)) (writes l p bs us) past)
      → Waits who r ch past ⊎ ByUse (λ w. Write (below_on l w.resource.stripe p) (bytes_on l w.resource.stripe p bs)) us past
  writes_wait p bs [] past w = inl w
  writes_wait p bs (u ∷ us) past w =
      ⊎_elim
      (λ (w : NewestChanges (line (turn stamp (Client c)) (word.Changes u.want.resource
      (flush.Put (below_on l u.want.resource.stripe p) (bytes_on l u.want.resource.stripe p bs))) ∷ past)
      × (((d : ℕ) × (Client c ≡ Client d) × (life_at d past ≡ who) × (u.want.resource ≡ r)
      × (Write (below_on l u.want.resource.stripe p) (bytes_on l u.want.resource.stripe p bs) ≡ ch)) ⊎ Waits who r ch past)). now w.1)
      (λ (b : ByUse (λ w. Write (below_on l w.resource.stripe p) (bytes_on l w.resource.stripe p bs)) us (put_to p bs u past)). inr
      (b.0, inr b.1, b.2, b.3, b.4))
      (writes_wait p bs us (put_to p bs u past) w)
    where
      now : ((d : ℕ) × (Client c ≡ Client d) × (life_at d past ≡ who) × (u.want.resource ≡ r)
          × (Write (below_on l u.want.resource.stripe p) (bytes_on l u.want.resource.stripe p bs) ≡ ch)) ⊎ Waits who r ch past
          → Waits who r ch past ⊎ ByUse (λ w. Write (below_on l w.resource.stripe p) (bytes_on l w.resource.stripe p bs)) (u ∷ us) past
      now (inl x) = inr (u, inl refl, x.3, x.4, ap (λ d. life_at d past) (client_is c x.0 x.1) ∙ x.2)
      now (inr w) = inl w

  cuts_wait : (n : ℕ) (us : List Using) (past : List Line) → Waits who r ch (with_turn (turn stamp (Client c)) (cuts l n us) past)
      → Waits who r ch past ⊎ ByUse (λ w. Cut (below_on l w.resource.stripe n)) us past
  cuts_wait n [] past w = inl w
  cuts_wait n (u ∷ us) past w =
      ⊎_elim
      (λ (w : ((d : ℕ) × (Client c ≡ Client d) × (life_at d past ≡ who) × (u.want.resource ≡ r)
      × (Cut (below_on l u.want.resource.stripe n) ≡ ch)) ⊎ Waits who r ch past). now w)
      (λ (b : ByUse (λ w. Cut (below_on l w.resource.stripe n)) us (cut_to n u past)). inr (b.0, inr b.1, b.2, b.3, b.4))
      (cuts_wait n us (cut_to n u past) w)
    where
      now : ((d : ℕ) × (Client c ≡ Client d) × (life_at d past ≡ who) × (u.want.resource ≡ r)
          × (Cut (below_on l u.want.resource.stripe n) ≡ ch)) ⊎ Waits who r ch past → Waits who r ch past
          ⊎ ByUse (λ w. Cut (below_on l w.resource.stripe n)) (u ∷ us) past
      now (inl x) = inr (u, inl refl, x.3, x.4, ap (λ d. life_at d past) (client_is c x.0 x.1) ∙ x.2)
      now (inr w) = inl w

-- a call's lines leave its client's life
writes_life : (stamp : Stamp) (c : ℕ) (l : Raid0) (p : ℕ) (bs : List ℕ) (us : List Using) (past : List Line)
    → life_at c (with_turn (turn stamp (Client c)) (writes l p bs us) past) ≡ life_at c past
writes_life stamp c l p bs [] past = refl
writes_life stamp c l p bs (u ∷ us) past = writes_life stamp c l p bs us
    (line (turn stamp (Client c)) (word.Shows u.want.resource u.lock.cookie
    (below_on l u.want.resource.stripe p + length (bytes_on l u.want.resource.stripe p bs) - 1))
    ∷ line (turn stamp (Client c)) (word.Changes u.want.resource
    (flush.Put (below_on l u.want.resource.stripe p) (bytes_on l u.want.resource.stripe p bs))) ∷ past)

cuts_life : (stamp : Stamp) (c : ℕ) (l : Raid0) (n : ℕ) (us : List Using) (past : List Line)
    → life_at c (with_turn (turn stamp (Client c)) (cuts l n us) past) ≡ life_at c past
cuts_life stamp c l n [] past = refl
cuts_life stamp c l n (u ∷ us) past = cuts_life stamp c l n us (line (turn stamp (Client c))
    (word.Changes u.want.resource (flush.Cut (below_on l u.want.resource.stripe n))) ∷ past)

on_bytes : (k : Call) → IsChange k → IsOnBytes k
on_bytes (call.Write h offset bytes) on = tt
on_bytes (call.Cut h size) on = tt
on_bytes k on = absurd on

-- what the call that is told made of the object
abbrev MadeOf : Who → Resource → Change → List Line → ℕ → Running → Work → Type 0
MadeOf who r ch past c running done = (life_at c past ≡ who) × (r.fid ≡ done.fid) × (r.stripe < length done.layout.targets)
    × Makes done.layout r.stripe running.call ch

module _ (who : Who) (r : Resource) (ch : Change) (stamp : Stamp) (c : ℕ) where
  made_of : (past before : List Line) (running : Running) (done : Work) → ChangesOn running done → wanted_by done
      ≡ map (λ (u : Using). u.want) done.used → past ≡ with_turn (turn stamp (Client c)) (pieces_of done.layout done.kind done.used) before
      → NotChanging before
      → Waits who r ch past → MadeOf who r ch past c running done
  made_of past before running done (inl w) wants is fresh waits =
      ⊎_elim
      (λ (x : Waits who r ch before). absurd (none_waits who r ch before fresh x))
      (λ (x : ByUse who r ch stamp c done.layout (λ v. Write (below_on done.layout v.resource.stripe w.offset)
      (bytes_on done.layout v.resource.stripe w.offset w.bytes)) done.used before).
      let wanted : In x.0.want (wants_of done.layout done.fid (Writes w.offset w.bytes)) =
      subst (λ (k : Kind). In x.0.want (wants_of done.layout done.fid k)) w.kind
      (subst (λ (us : List Use). In x.0.want us) (sym wants) (in_mapped (λ (u : Using). u.want) x.0 done.used x.1)) in
      let i = run_wanted done.layout done.fid PW w.offset (w.offset + length w.bytes) (stripes done.layout) x.0.want wanted in
      let on : r ≡ x.0.want.resource = sym x.2 in
      let stripe : r.stripe ≡ i.0 = ap (λ (v : Resource). v.stripe) on ∙ ap (λ (v : Use). v.resource.stripe) (sym i.3) in (
        ap (λ (p : List Line). life_at c p) now ∙ writes_life stamp c done.layout w.offset w.bytes done.used before ∙ x.4,
        ap (λ (v : Resource). v.fid) on ∙ ap (λ (v : Use). v.resource.fid) (sym i.3),
        subst (λ n. n < length done.layout.targets) (sym stripe) (stripe_there done.layout i.0 i.1),
        subst (λ (k : Call). Makes done.layout r.stripe k ch) (sym w.writes)
            (subst (Makes done.layout r.stripe (call.Write w.handle w.offset w.bytes)) x.3 (
              ap (λ (v : Resource). below_on done.layout v.stripe w.offset) (sym on),
              ap (λ (v : Resource). bytes_on done.layout v.stripe w.offset w.bytes) (sym on),
            )),
      ))
      (writes_wait who r ch stamp c done.layout w.offset w.bytes done.used before (subst (λ (p : List Line). Waits who r ch p) now waits))
    where
      now : past ≡ with_turn (turn stamp (Client c)) (writes done.layout w.offset w.bytes done.used) before
      now = is ∙ ap (λ (k : Kind). with_turn (turn stamp (Client c)) (pieces_of done.layout k done.used) before) w.kind
  made_of past before running done (inr w) wants is fresh waits =
      ⊎_elim
      (λ (x : Waits who r ch before). absurd (none_waits who r ch before fresh x))
      (λ (x : ByUse who r ch stamp c done.layout (λ v. Cut (below_on done.layout v.resource.stripe w.size)) done.used before).
      let wanted : In x.0.want (wants_of done.layout done.fid (Cuts w.size)) =
      subst (λ (k : Kind). In x.0.want (wants_of done.layout done.fid k)) w.kind
      (subst (λ (us : List Use). In x.0.want us) (sym wants) (in_mapped (λ (u : Using). u.want) x.0 done.used x.1)) in
      let i = cut_wanted done.layout done.fid w.size (stripes done.layout) x.0.want wanted in
      let on : r ≡ x.0.want.resource = sym x.2 in
      let stripe : r.stripe ≡ i.0 = ap (λ (v : Resource). v.stripe) on ∙ ap (λ (v : Use). v.resource.stripe) (sym i.2) in (
        ap (λ (p : List Line). life_at c p) now ∙ cuts_life stamp c done.layout w.size done.used before ∙ x.4,
        ap (λ (v : Resource). v.fid) on ∙ ap (λ (v : Use). v.resource.fid) (sym i.2),
        subst (λ n. n < length done.layout.targets) (sym stripe) (stripe_there done.layout i.0 i.1),
        subst (λ (k : Call). Makes done.layout r.stripe k ch) (sym w.cuts)
            (subst (Makes done.layout r.stripe (call.Cut w.handle w.size)) x.3
            (ap (λ (v : Resource). below_on done.layout v.stripe w.size) (sym on))),
      ))
      (cuts_wait who r ch stamp c done.layout w.size done.used before (subst (λ (p : List Line). Waits who r ch p) now waits))
    where
      now : past ≡ with_turn (turn stamp (Client c)) (cuts done.layout w.size done.used) before
      now = is ∙ ap (λ (k : Kind). with_turn (turn stamp (Client c)) (pieces_of done.layout k done.used) before) w.kind

-- so that call is told, with what it made
told_waits : (head : Head) (who : Who) (r : Resource) (ch : Change) (past : List Line) (stamp : Stamp) (c slot : ℕ) (named : At)
    (given : Answer) (work : Option Work) → OfRun head past → WroteOk past (turn stamp (Client c)) c slot named given work
    → Waits who r ch past
    → DoneFor who r (printed (line (turn stamp (Client c)) (word.Told slot named given work) ∷ past)) ch
told_waits head who r ch past stamp c slot named given work k w waits =
    record {
      call = w.running.call;
      among = among;
      layout = w.done.layout;
      heard =
          layout_stays who r.fid (line (turn stamp (Client c)) (word.Told slot named given work)) past w.done.layout heard;
      good = good;
      stripe = made.2;
      makes = made.3;
    }
  where
    made : MadeOf who r ch past c w.running w.done
    made = made_of who r ch stamp c past w.made.before w.running w.done w.does w.wants w.made.is w.made.fresh waits

    heard : layout_heard who r.fid (printed past) ≡ Some w.done.layout
    heard =
        let m = changed_call w.running w.done w.does in
        let o = file_opened head c slot past w.running m.0 k.grown w.call m.1 in
        ap (λ (f : Fid). layout_heard who f (printed past)) (made.1 ∙ m.2)
        ∙ opened_heard head who m.0.fid m.0.number m.0.layout past c o.flight o.reply k.ranges k.grown o.heard (o.who ∙ made.0) o.answer
        ∙ ap (λ (l : Raid0). Some l) (sym m.3)

    good : IsLayout w.done.layout
    good = is_layout head (only 0 past) r.fid w.done.layout k.ranges
        (heard_created head who r.fid past w.done.layout k.ranges k.grown heard)

    own : is_by who (printed past) (Client c) ≡ true
    own = own_by head who past (Client c) k.grown ∙ subst (λ (v : Who). is_own v past (Client c) ≡ true) (sym (life_now c past) ∙ made.0)
        (own_self past c)

    client : who.client ≡ c
    client = ap (λ (v : Who). v.client) (sym made.0) ∙ its_client head c past k.grown

    among : In w.running.call (done_calls who r.fid (printed (line (turn stamp (Client c)) (word.Told slot named given work) ∷ past)))
    among =
        let m = changed_call w.running w.done w.does in
        let b = file_meant head c slot past w.running m.0 k.grown w.call (on_bytes w.running.call m.5) m.4 m.1 in
        let fid : same_fid m.0.fid r.fid ≡ true = ap (λ (f : Fid). same_fid m.0.fid f) (made.1 ∙ m.2) ∙ self m.0.fid.0 in
        let now : (if is_by who (printed past) (Client c) && is_done given
        then with_call r.fid (open_call who.client slot (printed past)) (done_calls who r.fid (printed past))
        else done_calls who r.fid (printed past)) ≡ b.0.call ∷ done_calls who r.fid (printed past) =
        ap (λ (v : Bool). if v && is_done given then with_call r.fid (open_call who.client slot (printed past))
        (done_calls who r.fid (printed past)) else done_calls who r.fid (printed past)) own
        ∙ ap (λ (a : Answer). if is_done a then with_call r.fid (open_call who.client slot (printed past))
        (done_calls who r.fid (printed past)) else done_calls who r.fid (printed past)) w.of_answer
        ∙ ap (λ d. with_call r.fid (open_call d slot (printed past)) (done_calls who r.fid (printed past))) client
        ∙ ap (λ (o : Option calls.Begun). with_call r.fid o (done_calls who r.fid (printed past))) b.1
        ∙ ap (λ (f : Option Fid). if is_file r.fid f then b.0.call ∷ done_calls who r.fid (printed past)
        else done_calls who r.fid (printed past)) b.3
        ∙ ap (λ (v : Bool). if v then b.0.call ∷ done_calls who r.fid (printed past) else done_calls who r.fid (printed past)) fid in
        subst (λ (ks : List Call). In w.running.call ks) (sym now) (inl b.2)

-- ---- each line

shift : (head : Head) (who : Who) (r : Resource) (ch : Change) (l : Line) (past : List Line) → OfRun head (l ∷ past)
    → DoneFor who r (printed past) ch ⊎ Waits who r ch past → DoneFor who r (printed (l ∷ past)) ch ⊎ Waits who r ch (l ∷ past)
shift head who r ch l past k (inl d) = inl (done_more who r l past ch d)
shift head who r ch l past k (inr w) = by l.at.node l.entry k
  where
    by : (node : Node) (e : word.Entry) → OfRun head (line (turn l.at.stamp node) e ∷ past)
        → DoneFor who r (printed (line (turn l.at.stamp node) e ∷ past)) ch ⊎ Waits who r ch (line (turn l.at.stamp node) e ∷ past)
    by (Client c) (word.Changes q change) k = inr (inr w)
    by (Client c) (word.Shows q cookie last) k = inr (newest past w k.grown.0, w)
      where
        newest : (p : List Line) → Waits who r ch p → Allowed head p (turn l.at.stamp (Client c)) (word.Shows q cookie last)
            → NewestChanges p
        newest [] w k = absurd w
        newest (m ∷ older) w k = of m.entry w k
          where
            of : (e : word.Entry) → Waits who r ch (line m.at e ∷ older)
                → Allowed head (line m.at e ∷ older) (turn l.at.stamp (Client c)) (word.Shows q cookie last)
                → NewestChanges (line m.at e ∷ older)
            of (word.Changes o change) w k = tt
            of (word.Shows o j n) w k = absurd (let x = k.owes in x.1)
            of e w k = absurd w
    by (Client c) (word.Told slot named given work) k =
        ⊎_elim
        (λ (wrote : WroteOk past (turn l.at.stamp (Client c)) c slot named given work). inl
        (told_waits head who r ch past l.at.stamp c slot named given work
        (earlier head (line (turn l.at.stamp (Client c)) (word.Told slot named given work)) past k) wrote w))
        (λ (p : IsPart (word.Told slot named given work) → ⊥). absurd
        (none_waits who r ch past (settled head past (turn l.at.stamp (Client c)) (word.Told slot named given work) k.heeds k.grown.0
        k.grown.1 p) w))
        (not_last past (turn l.at.stamp (Client c)) c slot named given work k.grown.0.ok)
    by (Target t) (word.Changes q change) k = absurd k.grown.0.ok
    by (Target t) (word.Shows q cookie last) k = absurd k.grown.0.ok
    by (Target t) (word.Told slot named given work) k = absurd k.grown.0.ok
    by node e k = absurd (none_waits who r ch past (settled head past (turn l.at.stamp node) e k.heeds k.grown.0 k.grown.1 (λ p. p)) w)

told_line : (head : Head) (t : ℕ) (r : Resource) (who : Who) (ch : Change) (l : Line) (past : List Line) → OfRun head (l ∷ past)
    → (ToldOf (story t r past) (number_of who) ch → DoneFor who r (printed past) ch ⊎ Waits who r ch past)
    → ToldOf (story t r (l ∷ past)) (number_of who) ch → DoneFor who r (printed (l ∷ past)) ch ⊎ Waits who r ch (l ∷ past)
told_line head t r who ch l past k ih i =
    by_line (λ (h : List Entry). ToldOf h (number_of who) ch → DoneFor who r (printed (l ∷ past)) ch ⊎ Waits who r ch (l ∷ past)) t r past
    (story t r past) l.at.node l.entry (record {
      same = before;
      other = λ x n i. before (other x n i);
      flies = λ c f o here is live. before;
      heard = λ c f p o here is live. before;
      hold = λ c lock marked size seen here is live on. before;
      tells = λ c change j here is live i. ⊎_elim (λ (q : (number_of (life_at c past) ≡ number_of who) × (change_of change ≡ ch)). inr
          (now c change here is (same_number (life_at c past) who q.0) q.1)) (λ (i : ToldOf (story t r past) (number_of who) ch). before i)
          i;
      txn = λ d o here is. before;
      commit = λ to batch here is. before;
      close = λ o here is. before;
    }) i
  where
    before : ToldOf (story t r past) (number_of who) ch → DoneFor who r (printed (l ∷ past)) ch ⊎ Waits who r ch (l ∷ past)
    before i = shift head who r ch l past k (ih i)

    other : (x : Entry) → IsOther x → ToldOf (x ∷ story t r past) (number_of who) ch → ToldOf (story t r past) (number_of who) ch
    other (Tells c call) n i = absurd n
    other x n i = i

    now : (c : ℕ) (change : Flush) → l.at.node ≡ Client c → l.entry ≡ word.Changes r change → life_at c past ≡ who → change_of change ≡ ch
        → Waits who r ch (l ∷ past)
    now c change here is own same = subst (λ (e : word.Entry). Waits who r ch (line l.at e ∷ past)) (sym is)
        (inl (c, here, own, refl, same))

pub told_done : (head : Head) (t : ℕ) (r : Resource) (who : Who) (ch : Change) (past : List Line) → OfRun head past
    → ToldOf (story t r past) (number_of who) ch → DoneFor who r (printed past) ch ⊎ Waits who r ch past
told_done head t r who ch [] k i = absurd i
told_done head t r who ch (l ∷ past) k i = told_line head t r who ch l past k
    (λ j. told_done head t r who ch past (earlier head l past k) j) i

-- where no change is left untold it was told
pub told_so : (head : Head) (t : ℕ) (r : Resource) (who : Who) (ch : Change) (past : List Line) → OfRun head past → NotChanging past
    → ToldOf (story t r past) (number_of who) ch → DoneFor who r (printed past) ch
told_so head t r who ch past k none i = ⊎_elim (λ (d : DoneFor who r (printed past) ch). d)
    (λ (w : Waits who r ch past). absurd (none_waits who r ch past none w)) (told_done head t r who ch past k i)
