-- Each scenario that changes no bytes, and in which no turn asks a disk, is foreseen.
use Rattle.std.proofs.Common.{◌≡◌, ℕ, zero, suc, ◌<◌, ◌≤◌, true, false, List, [], ◌∷◌, Option, Some, None, length, inl, inr, refl, sym}
use Rattle.std.proofs.Common.{subst, arith}
use Rattle.std.specs.Prelude.{ℤ, pos, negsuc, All}
use Rattle.std.proofs.lemmas.Bool.Decides.{nat_tests}
use Rattle.std.proofs.lemmas.List.Elements.{All-nil, All-cons}
use Rattle.lu_base.specs.declared.ids.Node.{Node}
use Rattle.lu_base.specs.declared.ids.Node.TheVariants.{Client, Target}
use Rattle.lu_msg.specs.declared.calls.Call.{Call}
use Rattle.lu_msg.specs.declared.calls.Call.TheVariants as call
use Rattle.lu_msg.specs.declared.messages.Message.{Message}
use Rattle.lu_msg.specs.declared.messages.Message.TheVariants as message
use Rattle.lu_msg.specs.declared.messages.Request.{Request as RequestOf}
use Rattle.lu_msg.specs.declared.operations.Op.{Op}
use Rattle.lu_msg.specs.declared.operations.Op.TheVariants as op
use Rattle.lu_net.specs.declared.links.Sent.{Sent as SentMessage}
use Rattle.lu_net.specs.Posts.{sent_at}
use Rattle.lu_scene.specs.declared.scene.Scene.{Scene}
use Rattle.lu_scene.specs.declared.scene.SceneLine.{SceneLine}
use Rattle.lu_scene.specs.declared.scene.SceneLine.TheVariants.{Tick, Commit, CommitSome, Crash, Boot, Close}
use Rattle.lu_service.specs.declared.services.Kind.TheVariants.{Mdt, Ost}
use Rattle.lu_service.specs.Takes.{Takes, IsCount as Counts}
use Rattle.lu_trace.specs.WellFormed.{IsCount, IsCall}
use Rattle.lu_spec_entries.specs.Carried.{HandleFile}
use Rattle.lu_spec_entries.specs.Words.{Line}
use Rattle.lu_spec_entries.specs.Sent.{Sent}
use Rattle.lu_spec_target.specs.Locks.{same_request}
use Rattle.lu_spec_target.specs.States.{is_serving}
use Rattle.lu_spec_run.specs.Heads.{Head}
use Rattle.lu_spec_run.specs.Runs.{target_of, setting_of}
use Rattle.lu_spec_run.specs.Scenarios.{Config, Disks, head_of, past_of, is_full, is_down}
use Rattle.lu_proof_lawful.specs.Covered.Calls.{operation_of}
use Rattle.lu_proof_lawful.specs.Covered.Heads as few
use Rattle.lu_proof_lawful.specs.Covered.TargetStates.{server_of}
use Rattle.lu_spec_entries.specs.Concerns.{only}
use Rattle.lu_proof_scenes.proofs.Guards.{In}
use Rattle.lu_proof_scenes.proofs.Grown.{Grown}
use Rattle.lu_proof_scenes.proofs.GuardTurns.{covered_head}
use Rattle.lu_proof_scenes.proofs.ClientLines.{IsOnObject}
use Rattle.lu_proof_scenes.proofs.BareObjects.{IsBareOp}
use Rattle.lu_proof_scenes.proofs.BareCalls.{BareSoFar}
use Rattle.lu_proof_scenes.proofs.BareSteps.{bare_so_far}
use Rattle.lu_proof_scenes.proofs.OnNames.{op_is}
use Rattle.lu_proof_run.proofs.Posts.{sent_at_is}
use Rattle.lu_proof_scenes.specs.Quiet.{IsBareScene, AsksNoDisk, ticks_of}
use Rattle.lu_proof_scenes.proofs.Arrivals.{to_client}
use Rattle.lu_proof_scenes.proofs.Asking.{IsOrdered}
use Rattle.lu_proof_scenes.proofs.Lines.{IsQuiet, MayAsk, AllKnown, IsKnown, lines_known, called_fits, all_bare}
use Rattle.lu_proof_scenes.proofs.Runs.{Follows, so_up, leads_follow}
use Rattle.lu_proof_scenes.proofs.Turns.{Timely, NoneDue, past_grown, serves_still, comes_makes, comes_one, names_due, others_due}
use Rattle.lu_proof_scenes.proofs.Turns.{tick_makes}
use Rattle.lu_run_nodes.specs.Foreseen.{MayHave, IsForeseen, IsTickForeseen}
use Rattle.lu_run_nodes.specs.Shown.{kind_of}
use Rattle.lu_core.specs.Scenes.{next_stamp, IsOpen, IsCommand, AllForeseen}
use Rattle.lu_core.proofs.Asked.{AskedAt, Fitting, request_fits, same_tag}
use Rattle.lu_core.proofs.Answered.{comes}
use Rattle.lu_core.proofs.Waiting.{waiting_same}

-- what a call that keeps the limits becomes is of the metadata target's service
count_takes : (count : ℤ) → IsCount count → Counts count
count_takes (pos n) fits = tt
count_takes (negsuc n) fits = fits

names_take : (file : Option HandleFile) (k : Call) (o : Op) → operation_of file k ≡ Some o → IsCall k → Takes Mdt o
names_take file (call.Create path None) o e fits = absurd fits
names_take file (call.Create path (Some stripes)) o e fits = subst (Takes Mdt) (op_is (op.Create path stripes.0 stripes.1) o e)
    (count_takes stripes.1 fits.1.1)
names_take file (call.Lookup path) o e fits = subst (Takes Mdt) (op_is (op.Lookup path) o e) tt
names_take file (call.Stat path) o e fits = subst (Takes Mdt) (op_is (op.Stat path) o e) tt
names_take file (call.List path) o e fits = subst (Takes Mdt) (op_is (op.List path) o e) tt
names_take file (call.Layout path) o e fits = subst (Takes Mdt) (op_is (op.Layout path) o e) tt
names_take file (call.Mkdir path) o e fits = subst (Takes Mdt) (op_is (op.Mkdir path) o e) tt
names_take file (call.Link old new) o e fits = subst (Takes Mdt) (op_is (op.Link old new) o e) tt
names_take file (call.Unlink path) o e fits = subst (Takes Mdt) (op_is (op.Unlink path) o e) tt
names_take file (call.Rmdir path) o e fits = subst (Takes Mdt) (op_is (op.Rmdir path) o e) tt
names_take file (call.Rename old new) o e fits = subst (Takes Mdt) (op_is (op.Rename old new) o e) tt
names_take file (call.Chmod path mode) o e fits = subst (Takes Mdt) (op_is (op.Chmod path mode) o e) tt
names_take file (call.Open h path) o e fits = subst (Takes Mdt) (op_is (op.Open path) o e) tt
names_take (Some f) (call.Close h) o e fits = subst (Takes Mdt) (op_is (op.Close f.number f.fid) o e) tt
names_take file k o e fits = absurd (cc)

-- an object storage target is asked how long an object is, or for a lock on it
object_takes : (o : Op) → IsOnObject o → IsBareOp o → IsOrdered o → Takes Ost o
object_takes (op.Size resource) is bare ordered = tt
object_takes (op.Enqueue resource mode extent) is bare ordered = ordered
object_takes (op.Get resource cookie page) is bare ordered = absurd bare
object_takes (op.Put resource cookie offset bytes) is bare ordered = absurd bare
object_takes (op.Cut resource cookie size) is bare ordered = absurd bare
object_takes o is bare ordered = absurd is

all_of : {A : Type 0} (P : A → Type 0) (xs : List A) → ((x : A) → In x xs → P x) → All P xs
all_of P [] so = All-nil P
all_of P (x ∷ xs) so = All-cons P x xs (so x (inl refl)) (all_of P xs (λ y i. so y (inr i)))

has_room : (c : Config) → is_full c ≡ false → length c.turns < 65536
has_room c free = grind (arith, nat_tests)

module _ (scene : Scene) (bare_scene : IsBareScene scene) (quiet : AsksNoDisk scene) (disks : Disks) (c : Config)
    (is : IsOpen scene disks c) where
  abbrev head : Head
  head = head_of scene.head

  abbrev h : few.Head
  h = covered_head head

  abbrev past : List Line
  past = past_of c

  f : Follows scene c
  f = leads_follow scene bare_scene.limits disks c is.leads is.unfailed

  room : length c.turns < 65536
  room = has_room c is.room

  g : Grown h past
  g = past_grown scene bare_scene.limits c f.sound

  bare : BareSoFar h past
  bare = bare_so_far h past g (all_bare scene bare_scene past f.sound.begun)

  serves_at : (t : ℕ) → is_serving (target_of head t past) ≡ true
  serves_at t = serves_still scene bare_scene.limits c f.sound t (bare_scene, quiet)

  none : MayAsk scene → ⊥
  none may = may (bare_scene, quiet)

  -- ---- a message to a target

  -- what a request asks is of the target's service
  takes_so : (t : ℕ) (o : Op) → AskedAt past t o → Takes (kind_of t) o
  takes_so zero o (inl names) =
      let asked = names.1 in
      names_take asked.2 asked.0 o asked.3 (called_fits scene scene.lines (lines_known scene bare_scene.limits) asked.0
      (f.sound.begun asked.0 asked.1))
  takes_so zero o (inr objects) = absurd (let high = objects.0 in omega (arith, high))
  takes_so (suc t) o (inl names) = absurd (cc)
  takes_so (suc t) o (inr objects) = object_takes o objects.1 objects.2 objects.3

  may_have : (t n : ℕ) (from : Node) (m : Message) → Sent past n from (Target t) m → MayHave m (target_of head t past)
  may_have t n from (message.Request r) sent =
      let fits : Fitting h past t r = request_fits (MayAsk scene) head.osts h past g bare f.sound.suits t n from r sent in
      let most = bare_scene.limits.head.most_flight in
      let tag = fits.tag in
      let queue : (target_of head t past).queue ≡ (server_of head.osts (only t past)).waiting =
      waiting_same (MayAsk scene) head.osts head.clients none h (setting_of head t) past f.sound.suits in (
        omega arith,
        takes_so t r.op fits.asked,
        subst (All (λ (q : RequestOf). same_request q r ≡ true → q.tag ≡ r.tag)) (sym queue)
            (all_of (λ (q : RequestOf). same_request q r ≡ true → q.tag ≡ r.tag) (server_of head.osts (only t past)).waiting
            (λ q i e. same_tag (MayAsk scene) head.osts h past g bare f.sound.suits t n from q r i sent e)),
      )
  may_have t n from _ sent = tt

  abbrev message_to : Node → Node → SentMessage → SentMessage
  message_to from to m = record { number = m.number; stamp = m.stamp; from = from; to = to; message = m.message }

  to_target : (t n : ℕ) (m : SentMessage) → (target_of head t past).up ≡ true → Sent past n m.from (Target t) m.message
      → IsForeseen head past (next_stamp c) (message_to m.from (Target t) m)
  to_target t n m up sent = (
    comes_one scene bare_scene.limits c t n m.from m.message f.sound sent,
    up,
    serves_at t,
    may_have t n m.from m.message sent,
    (comes_makes scene bare_scene.limits c t n m.from m.message f.sound sent up room).numbers,
  )

  -- ---- all messages

  messages : (n : ℕ) (m : SentMessage) → sent_at c.posts n ≡ Some m → is_down head disks m.to past ≡ false
      → IsForeseen head past (next_stamp c) m
  messages n m e up = by m.to up (sent_at_is past c.posts n m f.sound.table.posts e)
    where
      by : (node : Node) → is_down head disks node past ≡ false → Sent past n m.from node m.message
          → IsForeseen head past (next_stamp c) (message_to m.from node m)
      by (Client who) up sent =
          let came = comes head past g bare who (MayAsk scene) none f.sound.suits n m.from m.message sent in
          (to_client (MayAsk scene) head.osts h past g f.sound.suits n who m.from m.message sent, came.0, came.1)
      by (Target t) up sent = to_target t n m (so_up (target_of head t past).up up) sent

  -- ---- lines

  line_known : (line : SceneLine) (rest : List SceneLine) → c.lines ≡ line ∷ rest
      → IsKnown scene.lines scene.head.clients scene.head.osts line
  line_known line rest e = (subst (AllKnown scene) e f.lines).0

  tick : (t : ℕ) → t ≤ head.osts → (IsQuiet scene → NoneDue scene bare_scene.limits c t) → IsTickForeseen head past (next_stamp c) t
  tick t one due =
      let low = f.sound.ticks t in
      let few_turns_made = room in
      (λ all. omega arith, (tick_makes scene bare_scene.limits c t f.sound due room one).numbers)

  ticks : (t : ℕ) (rest : List SceneLine) → c.lines ≡ Tick (Target t) ∷ rest → IsTickForeseen head past (next_stamp c) t
  ticks zero rest e = tick 0 (line_known (Tick (Target 0)) rest e)
      (names_due scene bare_scene.limits c (ticks_of rest) f.sound
      (subst (λ (lines : List SceneLine). Timely scene (ticks_of lines) past) e f.time))
  ticks (suc t) rest e = tick (suc t) (line_known (Tick (Target (suc t))) rest e)
      (others_due scene bare_scene.limits c (suc t) f.sound (λ q. absurd (cc)))

  no_command : (line : SceneLine) → IsKnown scene.lines scene.head.clients scene.head.osts line → IsCommand line → ⊥
  no_command (Commit t) known is = absurd (known.some quiet.commands)
  no_command (CommitSome t count) known is = absurd (known.some quiet.commands)
  no_command (Crash t) known is = absurd (known.some quiet.commands)
  no_command (Boot t) known is = absurd (known.some quiet.commands)
  no_command (Close t) known is = absurd (known.some quiet.commands)
  no_command _ known is = absurd is

  commands : (line : SceneLine) (rest : List SceneLine) → c.lines ≡ line ∷ rest → IsCommand line → ⊥
  commands line rest e = no_command line (line_known line rest e)

pub all_foreseen : (scene : Scene) → IsBareScene scene → AsksNoDisk scene → AllForeseen scene
all_foreseen scene bare_scene quiet =
    record {
      messages = λ disks c n m open_one e up. messages scene bare_scene quiet disks c open_one n m e up;
      ticks = λ disks c t rest open_one e. ticks scene bare_scene quiet disks c open_one t rest e;
      commands = λ disks c line rest open_one e command. commands scene bare_scene quiet disks c open_one line rest e command;
    }
