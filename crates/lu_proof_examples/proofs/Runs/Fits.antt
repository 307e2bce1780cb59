-- Lives that are out and numbers that are lost, and not none: two clients make two directories; the first client is out and
-- what it made is lost. The pair fits the run, and in the machine of that history the second directory stands alone. The
-- same pair doesn't fit where the second client makes its directory in the first one's.
use Rattle.std.proofs.Common.{◌≡◌, ◌⊎◌, ⊎_elim, ℕ, Bool, true, false, ◌||◌, [], ◌∷◌, refl, sym, subst, ◌∙◌}
use Rattle.std.specs.Prelude.{List, codes, ◌==◌, ◌&&◌, not}
use Rattle.std.specs.List.{list_all}
use Rattle.std.proofs.lemmas.Bool.{and_parts, and_from}
use Rattle.lu_base.specs.declared.ids.Node.{Node}
use Rattle.lu_base.specs.declared.ids.Node.TheVariants.{Client, Target}
use Rattle.lu_base.specs.declared.ids.Who.{Who}
use Rattle.lu_spec_machine.specs.declared.acts.Act.{Act as ActOf}
use Rattle.lu_spec_machine.specs.declared.acts.Deed.TheVariants.{Names}
use Rattle.lu_spec_machine.specs.Machine.{answer}
use Rattle.lu_msg.specs.declared.answers.Answer.TheVariants as told
use Rattle.lu_msg.specs.declared.answers.Errno.TheVariants.{ENOENT}
use Rattle.lu_msg.specs.declared.calls.Call.TheVariants as call
use Rattle.lu_msg.specs.declared.messages.Reply.{Reply as ReplyTo}
use Rattle.lu_msg.specs.declared.operations.Op.{Op}
use Rattle.lu_msg.specs.declared.operations.Op.TheVariants as op
use Rattle.lu_scene.specs.declared.scene.Scene.{Scene}
use Rattle.lu_scene.specs.declared.scene.SceneLine.TheVariants.{Call, Run}
use Rattle.lu_spec_entries.specs.Printed.{printed}
use Rattle.lu_spec_entries.specs.Carried.{Deed}
use Rattle.lu_spec_entries.specs.Concerns.{only}
use Rattle.lu_spec_entries.specs.Words.{Entry, Heard, Hold, Txn as Made, Commit, Close, Evict, Line, line}
use Rattle.lu_spec_run.specs.Scenarios.{past_of}
use Rattle.lu_proof_scenes.specs.TargetCloses.{is_lost}
use Rattle.lu_trace.specs.declared.entries.Entry.TheVariants as entry
use Rattle.lu_spec_laws.specs.Words.Pasts.{Past}
use Rattle.lu_spec_laws.proofs.Words as trace
use Rattle.lu_spec_laws.proofs.Words.{turn, who, first, made, request, reply, txn}
use Rattle.lu_spec_laws.proofs.Words.{heard as heard_of}
use Rattle.lu_spec_laws.specs.Words.Histories.{machine_of}
use Rattle.lu_proof_scenes.specs.Fits.{AllStand, SeenStandsAt, SeenStand, ReplyStands, HeardStandsAt, HeardStand, HeldStand, WasMade}
use Rattle.lu_proof_scenes.specs.Fits.{CommitsStand, EvictedOut, Fits}
use Rattle.lu_proof_examples.proofs.Runs.Words.{with_head, after}

-- each in the root, or the second in the first
abbrev scene_with : (second : List (List ℕ)) → Scene
scene_with second =
    record { head = with_head 2 1; lines = Call 0 0 (call.Mkdir (codes "a" ∷ [])) ∷ Run ∷ Call 1 0 (call.Mkdir second) ∷ Run ∷ [] }

abbrev pub beside : List Line
beside = past_of (after 10 (scene_with (codes "b" ∷ [])))

abbrev pub inside : List Line
inside = past_of (after 10 (scene_with (codes "a" ∷ codes "b" ∷ [])))

abbrev pub out : Who → Bool
out w = w.client == 0

abbrev pub lost : ℕ → ℕ → Bool
lost t n = t == 0 && n == first 1

-- ---- whether a past without commits, closes and evictions fits, as a test

abbrev all_stand : ℕ → List ℕ → Bool
all_stand t ns = list_all (λ n. not (lost t n)) ns

abbrev made_passes : Node → Deed → Bool
made_passes (Target t) d = lost t d.reply.txn.0 || all_stand t d.reply.seen
made_passes (Client c) d = true

abbrev seen_passes : List Line → Bool
seen_passes [] = true
seen_passes (l ∷ past) = elim l.entry [ Made d ↦ made_passes l.at.node d && seen_passes past | _ ↦ seen_passes past ]

-- by the life that the reply names
abbrev is_out : Node → Who → Bool
is_out (Client c) w = out w
is_out (Target t) w = true

abbrev heard_passes : List Line → Bool
heard_passes [] = true
heard_passes (l ∷ past) =
    elim l.entry [
      | Heard target flight reply ↦ (is_out l.at.node reply.who || (not (lost target reply.txn.0) && all_stand target reply.seen))
          && heard_passes past
      | _ ↦ heard_passes past
    ]

abbrev holds_nothing : List Line → Bool
holds_nothing [] = true
holds_nothing (l ∷ past) = elim l.entry [ Hold target lock marked size saw ↦ false | _ ↦ holds_nothing past ]

abbrev commits_nothing : List Line → Bool
commits_nothing [] = true
commits_nothing (l ∷ past) = elim l.entry [ Commit to batch ↦ false | Close o ↦ false | _ ↦ commits_nothing past ]

abbrev evicts_nobody : List Line → Bool
evicts_nobody [] = true
evicts_nobody (l ∷ past) = elim l.entry [ Evict w cause ↦ false | _ ↦ evicts_nobody past ]

not_lost : (b : Bool) → not b ≡ true → b ≡ false
not_lost false is = refl
not_lost true is = absurd (cc)

stand : (t : ℕ) (ns : List ℕ) → all_stand t ns ≡ true → AllStand (lost t) ns
stand t [] is = tt
stand t (n ∷ ns) is = let both = and_parts (not (lost t n)) (all_stand t ns) is in (not_lost (lost t n) both.0, stand t ns both.1)

seen : (past : List Line) → seen_passes past ≡ true → SeenStand lost past
seen [] is = tt
seen (l ∷ past) is = by (seen past) l.entry is
  where
    one : (t : ℕ) (b : Bool) (ns : List ℕ) → b || all_stand t ns ≡ true → b ≡ false → AllStand (lost t) ns
    one t false ns is stands = stand t ns is
    one t true ns is stands = absurd (cc)

    made_one : (node : Node) (d : Deed) → made_passes node d ≡ true → SeenStandsAt lost node d
    made_one (Target t) d is = λ stands. one t (lost t d.reply.txn.0) d.reply.seen is stands
    made_one (Client c) d is = tt

    by : (seen_passes past ≡ true → SeenStand lost past) → (x : Entry) → seen_passes (line l.at x ∷ past) ≡ true
        → SeenStand lost (line l.at x ∷ past)
    by rest (Made d) is = let both = and_parts (made_passes l.at.node d) (seen_passes past) is in (made_one l.at.node d both.0, rest both.1)
    by rest _ is = rest is

heard : (past : List Line) → heard_passes past ≡ true → HeardStand out lost past
heard [] is = tt
heard (l ∷ past) is = by (heard past) l.entry is
  where
    one : (node : Node) (t : ℕ) (r : ReplyTo) → is_out node r.who || (not (lost t r.txn.0) && all_stand t r.seen) ≡ true
        → HeardStandsAt out lost node t r
    one (Target u) t r is = tt
    one (Client c) t r is = λ stays. here (out r.who) stays is
      where
        here : (b : Bool) → b ≡ false → b || (not (lost t r.txn.0) && all_stand t r.seen) ≡ true → ReplyStands (lost t) r
        here true stays is = absurd (cc)
        here false stays is = let both = and_parts (not (lost t r.txn.0)) (all_stand t r.seen) is
            in (not_lost (lost t r.txn.0) both.0, stand t r.seen both.1)

    by : (heard_passes past ≡ true → HeardStand out lost past) → (x : Entry) → heard_passes (line l.at x ∷ past) ≡ true
        → HeardStand out lost (line l.at x ∷ past)
    by rest (Heard target flight reply) is =
        let both = and_parts (is_out l.at.node reply.who || (not (lost target reply.txn.0) && all_stand target reply.seen))
        (heard_passes past) is in
        (one l.at.node target reply both.0, rest both.1)
    by rest _ is = rest is

held : (past : List Line) → holds_nothing past ≡ true → HeldStand out lost past
held [] is = tt
held (l ∷ past) is = by (held past) l.entry is
  where
    by : (holds_nothing past ≡ true → HeldStand out lost past) → (x : Entry) → holds_nothing (line l.at x ∷ past) ≡ true
        → HeldStand out lost (line l.at x ∷ past)
    by rest (Hold target lock marked size saw) is = absurd (cc)
    by rest _ is = rest is

committed : (past : List Line) → commits_nothing past ≡ true → CommitsStand 1 lost past
committed [] is = tt
committed (l ∷ past) is = by (committed past) l.entry is
  where
    by : (commits_nothing past ≡ true → CommitsStand 1 lost past) → (x : Entry) → commits_nothing (line l.at x ∷ past) ≡ true
        → CommitsStand 1 lost (line l.at x ∷ past)
    by rest (Commit to batch) is = absurd (cc)
    by rest (Close o) is = absurd (cc)
    by rest _ is = rest is

gone : (past : List Line) → evicts_nobody past ≡ true → EvictedOut out past
gone [] is = tt
gone (l ∷ past) is = by (gone past) l.entry is
  where
    by : (evicts_nobody past ≡ true → EvictedOut out past) → (x : Entry) → evicts_nobody (line l.at x ∷ past) ≡ true
        → EvictedOut out (line l.at x ∷ past)
    by rest (Evict w cause) is = absurd (cc)
    by rest _ is = rest is

-- ---- the pair fits

-- no window closed, so no number is lost yet
stays : (t n : ℕ) → WasMade t beside n → is_lost 1 (only t beside) n ≡ true → lost t n ≡ true
stays t n made gone =
    absurd (⊎_elim (λ (m : (Target 0 ≡ Target t) × (first 2 ≡ n)). closed m.0) earlier made)
  where
    none_lost : is_lost 1 (only 0 beside) n ≡ false
    none_lost = refl

    closed : Target 0 ≡ Target t → ⊥
    closed is =
        let same : 0 ≡ t = cc in
        let lost_there : is_lost 1 (only 0 beside) n ≡ true = subst (λ (u : ℕ). is_lost 1 (only u beside) n ≡ true) (sym same) gone in
        let both : true ≡ false = sym lost_there ∙ none_lost in
        absurd (cc)

    earlier : ((Target 0 ≡ Target t) × (first 1 ≡ n)) ⊎ ⊥ → ⊥
    earlier more = ⊎_elim (λ (m : (Target 0 ≡ Target t) × (first 1 ≡ n)). closed m.0) (λ (none : ⊥). none) more

pub fits : Fits 1 out lost beside
fits =
    record {
      root = refl;
      stays = stays;
      seen = seen beside refl;
      heard = heard beside refl;
      held = held beside refl;
      committed = committed beside refl;
      gone = gone beside refl;
    }

-- ---- the machine of that history: the second directory is there, the first one isn't

abbrev pub beside_past : Past
beside_past =
    trace.client 6 1 (entry.Told 0 (turn 5 (Target 0)) (made 2))
    ∷ trace.client 6 1 (heard_of 0 1)
    ∷ trace.client 6 1 (entry.Take 4)
    ∷ trace.target 5 0 (entry.Send 4 (Client 1) (reply 1 1 (first 2) [] (turn 5 (Target 0)) (made 2)))
    ∷ trace.target 5 0 (txn (first 2) 1 1 [] (made 2))
    ∷ trace.target 5 0 (entry.Take 3)
    ∷ trace.client 4 1 (entry.Send 3 (Target 0) (request 1 1 0 (op.Mkdir (codes "b" ∷ []))))
    ∷ trace.client 4 1 (entry.Begin 0 (call.Mkdir (codes "b" ∷ [])))
    ∷ trace.client 3 0 (entry.Told 0 (turn 2 (Target 0)) (made 1))
    ∷ trace.client 3 0 (heard_of 0 1)
    ∷ trace.client 3 0 (entry.Take 2)
    ∷ trace.target 2 0 (entry.Send 2 (Client 0) (reply 0 1 (first 1) [] (turn 2 (Target 0)) (made 1)))
    ∷ trace.target 2 0 (txn (first 1) 0 1 [] (made 1))
    ∷ trace.target 2 0 (entry.Take 1)
    ∷ trace.client 1 0 (entry.Send 1 (Target 0) (request 0 1 0 (op.Mkdir (codes "a" ∷ []))))
    ∷ trace.client 1 0 (entry.Begin 0 (call.Mkdir (codes "a" ∷ [])))
    ∷ []

pub beside_run : printed beside ≡ beside_past
beside_run = refl

abbrev looks : Op → ActOf
looks o = record { who = who 1; number = record { 0 = 0 }; deed = Names o }

pub first_is_gone : answer 1 (machine_of out lost 1 beside_past) (looks (op.Lookup (codes "a" ∷ []))) ≡ told.Refused ENOENT
first_is_gone = refl

pub second_stands : answer 1 (machine_of out lost 1 beside_past) (looks (op.Lookup (codes "b" ∷ []))) ≡ told.Dir (record { 0 = first 2 })
second_stands = refl

-- where nothing is lost the first directory is there too
pub first_stands : answer 1 (machine_of (λ w. false) (λ t n. false) 1 beside_past) (looks (op.Lookup (codes "a" ∷ [])))
    ≡ told.Dir (record { 0 = first 1 })
first_stands = refl

-- ---- a transaction that saw the lost one and isn't lost itself doesn't fit

stand_back : (t : ℕ) (ns : List ℕ) → AllStand (lost t) ns → all_stand t ns ≡ true
stand_back t [] is = refl
stand_back t (n ∷ ns) is = rw (is.0) (stand_back t ns is.1)

seen_back : (past : List Line) → SeenStand lost past → seen_passes past ≡ true
seen_back [] is = refl
seen_back (l ∷ past) is = by (seen_back past) l.entry is
  where
    one : (t : ℕ) (b : Bool) (ns : List ℕ) → (b ≡ false → AllStand (lost t) ns) → b || all_stand t ns ≡ true
    one t true ns is = refl
    one t false ns is = stand_back t ns (is refl)

    made_back : (node : Node) (d : Deed) → SeenStandsAt lost node d → made_passes node d ≡ true
    made_back (Target t) d is = one t (lost t d.reply.txn.0) d.reply.seen is
    made_back (Client c) d is = refl

    by : (SeenStand lost past → seen_passes past ≡ true) → (x : Entry) → SeenStand lost (line l.at x ∷ past)
        → seen_passes (line l.at x ∷ past) ≡ true
    by rest (Made d) is = and_from (made_passes l.at.node d) (seen_passes past) (made_back l.at.node d is.0) (rest is.1)
    by rest _ is = rest is

saw_the_lost : seen_passes inside ≡ false
saw_the_lost = refl

pub unfit : Fits 1 out lost inside → ⊥
unfit f = let passes : true ≡ false = sym (seen_back inside f.seen) ∙ saw_the_lost in absurd (cc)
