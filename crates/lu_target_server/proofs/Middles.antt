-- What a server still shows of a state after entries that leave most of it as it was, and how the parts of a row join.
use Rattle.std.proofs.Common.{◌≡◌, ℕ, ◌==◌, ◌&&◌, Bool, true, false, List, [], ◌∷◌, ◌++◌, Option, Some, None, refl, sym, ap, subst, ◌∙◌}
use Rattle.std.proofs.Common.{append_assoc}
use Rattle.std.specs.Prelude.{All, AllPairs}
use Rattle.std.proofs.lemmas.List.Elements.{All-map}
use Rattle.lu_base.specs.declared.ids.At.{At}
use Rattle.lu_base.specs.declared.ids.Who.{Who}
use Rattle.lu_msg.specs.declared.messages.Post.{Post}
use Rattle.lu_msg.specs.declared.messages.Request.{Request}
use Rattle.lu_service.specs.declared.services.Kind.{Kind}
use Rattle.lu_service.specs.declared.services.Kind.TheVariants.{Ost}
use Rattle.lu_service.specs.Contents.{Contents}
use Rattle.lu_trace.specs.declared.entries.Entry.{Entry as PrintedEntry}
use Rattle.lu_trace.specs.declared.traces.Step.{Step}
use Rattle.lu_trace.specs.Turns.{Making, with_line}
use Rattle.lu_spec_entries.specs.Given.{line_of, step_posts, giving}
use Rattle.lu_spec_entries.specs.Printed.{printed_entry}
use Rattle.lu_spec_entries.specs.Carried.{Contents as Read}
use Rattle.lu_spec_entries.specs.Words.{Entry, Send, Tick, Grant, Block, Release, Evict, Joined, Asks, Ends, Answers}
use Rattle.lu_spec_target.specs.Lives.{is_life}
use Rattle.lu_spec_target.specs.States.{Setting, Target, after, turn, is_names}
use Rattle.lu_target_redo.specs.Shown as redo
use Rattle.lu_target_refines.specs.Contents.{ShowsObjects}
use Rattle.lu_target_refines.specs.Unread.{AreTheSame}
use Rattle.lu_target_refines.proofs.Unread.{journal_stays, disk_stays}
use Rattle.lu_target_refines.proofs.Slots.{never}
use Rattle.lu_target_store.specs.Taken.{taken_of}
use Rattle.lu_target_store.specs.Stores.{StoreState, Serves, HasTaken}
use Rattle.lu_target_locks.specs.Servers as locking
use Rattle.lu_target_server.specs.Answering.{Tells, TellsSizes}
use Rattle.lu_target_invariant.specs.Sound.{IsTaken, IsSound}
use Rattle.lu_target_server.specs.Servers.{ServerState, Shows, Stands}
use Rattle.lu_target_server.specs.Middles.{ShowsRest, Waits, MakesPart, MakesRest}
use Rattle.lu_target_server.proofs.Composing.{giving_more, turn_more}

-- ---- what is shown beside the locks

pub rest_of : (s : ServerState) (v : Target) → Shows s v → ShowsRest s v
rest_of s v shows = record {
  id = shows.id;
  kind = shows.kind;
  expire = shows.expire;
  boot = shows.boot;
  store = shows.store;
  contents = shows.contents;
  requests = shows.requests;
  taken = shows.taken;
  sound = shows.sound;
}

pub whole : (s : ServerState) (v : Target) → ShowsRest s v → locking.Shows s.locks v → Shows s v
whole s v rest locks = record {
  id = rest.id;
  kind = rest.kind;
  expire = rest.expire;
  boot = rest.boot;
  store = rest.store;
  locks = locks;
  contents = rest.contents;
  requests = rest.requests;
  taken = rest.taken;
  sound = rest.sound;
}

-- other locks
pub with_locks : (s : ServerState) (locks : locking.ServerState) (v : Target) → ShowsRest s v → ShowsRest (record s { locks = locks }) v
with_locks s locks v rest = record {
  id = rest.id;
  kind = rest.kind;
  expire = rest.expire;
  boot = rest.boot;
  store = rest.store;
  contents = rest.contents;
  requests = rest.requests;
  taken = rest.taken;
  sound = rest.sound;
}

pub waits_of : (s : ServerState) (v : Target) → ShowsRest s v → Waits s v
waits_of s v rest =
    let queue : All (IsTaken s.kind v) s.requests = subst (All (IsTaken s.kind v)) rest.requests rest.sound.queue in
    record {
      boot = rest.boot;
      store = rest.store;
      requests = rest.requests;
      taken = rest.taken;
      lives = λ k d within. (queue k d within).life;
      tags = λ k d within. (queue k d within).tag;
    }

pub tells_rest : (s : ServerState) (v : Target) → ShowsRest s v → Tells s v
tells_rest s v rest = record { boot = rest.boot; store = rest.store }

pub tells_waits : (s : ServerState) (v : Target) → Waits s v → Tells s v
tells_waits s v waits = record { boot = waits.boot; store = waits.store }

pub sizes_rest : (s : ServerState) (v : Target) → s.kind ≡ Ost → ShowsRest s v → TellsSizes s v
sizes_rest s v is rest = record { tells = tells_rest s v rest; objects = objects.1 } where
  objects : redo.Shows Ost v.setting.osts v.number s.contents v.contents
  objects = subst (λ (kind : Kind). redo.Shows kind v.setting.osts v.number s.contents v.contents) is rest.contents

-- ---- which target it is

pub names_row : (id : ℕ) (v : Target) → v.setting.id ≡ id → is_names v ≡ (id == 0)
names_row id v is = ap (λ n. n == 0) is

-- ---- a store shows what it showed where neither journal nor disk is read

pub serves_stays : (s : StoreState) (v w : Target) → AreTheSame v w → Serves s v → Serves s w
serves_stays s v w same shows = record {
  journal = journal_stays (taken_of s.taken) s.journal v w same shows.journal;
  disk = disk_stays s.batches v w same shows.disk;
  sound = shows.sound;
}

-- ---- entries that leave what the service shows

pub record KeepsContents (v w : Target) : Type 0 where
  pub setting : w.setting ≡ v.setting
  pub boot : w.boot ≡ v.boot
  pub number : w.number ≡ v.number
  pub committed : w.committed ≡ v.committed
  pub contents : w.contents ≡ v.contents

pub keeps_none : (v : Target) → KeepsContents v v
keeps_none v = record { setting = refl; boot = refl; number = refl; committed = refl; contents = refl }

pub keeps_then : (v w x : Target) → KeepsContents v w → KeepsContents w x → KeepsContents v x
keeps_then v w x one two = record {
  setting = two.setting ∙ one.setting;
  boot = two.boot ∙ one.boot;
  number = two.number ∙ one.number;
  committed = two.committed ∙ one.committed;
  contents = two.contents ∙ one.contents;
}

pub contents_kept : (kind : Kind) (own : Contents) (v w : Target) → KeepsContents v w
    → redo.Shows kind v.setting.osts v.number own v.contents → redo.Shows kind w.setting.osts w.number own w.contents
contents_kept kind own v w keeps shows =
    subst (λ (c : Read). redo.Shows kind w.setting.osts w.number own c) (sym keeps.contents)
    (subst (λ (n : ℕ). redo.Shows kind w.setting.osts n own v.contents) (sym keeps.number)
    (subst (λ (setting : Setting). redo.Shows kind setting.osts v.number own v.contents) (sym keeps.setting) shows))

-- ---- entries that leave all but the locks, what was asked of their holders, and the ticks

pub record IsBeside (v w : Target) : Type 0 where
  pub same : AreTheSame v w
  pub contents : w.contents ≡ v.contents
  pub queue : w.queue ≡ v.queue

abbrev pub is_beside : Entry → Bool
is_beside (Send to m) = true
is_beside Tick = true
is_beside (Grant l None) = true
is_beside (Block called) = true
is_beside (Release l) = true
is_beside (Evict who cause) = true
is_beside (Joined who) = true
is_beside (Ends g) = true
is_beside _ = false

untouched : (v w : Target) → AreTheSame v w → w.contents ≡ v.contents → w.queue ≡ v.queue → IsBeside v w
untouched v w same contents queue = record { same = same; contents = contents; queue = queue }

all_same : (v w : Target) → w.setting ≡ v.setting → w.boot ≡ v.boot → w.number ≡ v.number → w.lives ≡ v.lives → w.removed ≡ v.removed
    → w.slots ≡ v.slots → w.log ≡ v.log → w.committed ≡ v.committed → w.disk ≡ v.disk → AreTheSame v w
all_same v w setting boot number lives removed slots log committed disk =
    record {
      setting = setting;
      boot = boot;
      number = number;
      lives = lives;
      removed = removed;
      slots = slots;
      log = log;
      committed =
          committed;
      disk = disk;
    }

pub beside : (v : Target) (e : Entry) → is_beside e ≡ true → IsBeside v (after v e)
beside v (Send to m) h = untouched v v (all_same v v refl refl refl refl refl refl refl refl refl) refl refl
beside v Tick h = untouched v (after v Tick) (all_same v (after v Tick) refl refl refl refl refl refl refl refl refl) refl refl
beside v (Grant l None) h = untouched v (after v (Grant l None))
    (all_same v (after v (Grant l None)) refl refl refl refl refl refl refl refl refl) refl refl
beside v (Block called) h = untouched v (after v (Block called))
    (all_same v (after v (Block called)) refl refl refl refl refl refl refl refl refl) refl refl
beside v (Release l) h = untouched v (after v (Release l)) (all_same v (after v (Release l)) refl refl refl refl refl refl refl refl refl)
    refl refl
beside v (Evict who cause) h = untouched v v (all_same v v refl refl refl refl refl refl refl refl refl) refl refl
beside v (Joined who) h = untouched v v (all_same v v refl refl refl refl refl refl refl refl refl) refl refl
beside v (Ends g) h = untouched v (after v (Ends g)) (all_same v (after v (Ends g)) refl refl refl refl refl refl refl refl refl) refl refl
beside v e h = absurd (never (sym h))

abbrev pub all_beside : List Entry → Bool
all_beside [] = true
all_beside (e ∷ es) = is_beside e && all_beside es

both : (a b : Bool) → (a && b) ≡ true → (a ≡ true) × (b ≡ true)
both true b h = (refl, h)
both false b h = absurd (never (sym h))

pub beside_append : (es fs : List Entry) → all_beside es ≡ true → all_beside fs ≡ true → all_beside (es ++ fs) ≡ true
beside_append [] fs one two = two
beside_append (e ∷ es) fs one two = let parts = both (is_beside e) (all_beside es) one in ap (λ b. b && all_beside (es ++ fs)) parts.0
    ∙ beside_append es fs parts.1 two

same_then : (v w x : Target) → AreTheSame v w → AreTheSame w x → AreTheSame v x
same_then v w x one two =
    all_same v x (two.setting ∙ one.setting) (two.boot ∙ one.boot) (two.number ∙ one.number) (two.lives ∙ one.lives)
    (two.removed ∙ one.removed) (two.slots ∙ one.slots) (two.log ∙ one.log)
    (two.committed ∙ one.committed) (two.disk ∙ one.disk)

beside_then : (v w x : Target) → IsBeside v w → IsBeside w x → IsBeside v x
beside_then v w x one two = record {
  same = same_then v w x one.same two.same;
  contents = two.contents ∙ one.contents;
  queue = two.queue
      ∙ one.queue;
}

pub beside_all : (v : Target) (es : List Entry) → all_beside es ≡ true → IsBeside v (turn v es)
beside_all v [] h = untouched v v (all_same v v refl refl refl refl refl refl refl refl refl) refl refl
beside_all v (e ∷ es) h =
    let parts = both (is_beside e) (all_beside es) h in
    beside_then v (after v e) (turn (after v e) es) (beside v e parts.0) (beside_all (after v e) es parts.1)

pub keeps_beside : (v w : Target) → IsBeside v w → KeepsContents v w
keeps_beside v w is = record {
  setting = is.same.setting;
  boot = is.same.boot;
  number = is.same.number;
  committed = is.same.committed;
  contents = is.contents;
}

pub rest_beside : (s : ServerState) (v w : Target) → IsBeside v w → IsSound s.kind w → ShowsRest s v → ShowsRest s w
rest_beside s v w is sound rest = record {
  id = ap (λ (setting : Setting). setting.id) is.same.setting ∙ rest.id;
  kind = rest.kind;
  expire = ap (λ (setting : Setting). setting.expire) is.same.setting ∙ rest.expire;
  boot = is.same.boot ∙ rest.boot;
  store = serves_stays s.store v w is.same rest.store;
  contents = contents_kept s.kind s.contents v w (keeps_beside v w is) rest.contents;
  requests = is.queue ∙ rest.requests;
  taken = rest.taken;
  sound = sound;
}

-- ---- parts of a row, one after another

-- the entries made so far, and those that the rest of the row makes; P holds of what stands between
pub record SoFar (P : ServerState → Target → Type 0) (all : List Entry) (more : Target → List Entry) (v : Target) (now : ServerState)
    (before between : Making) : Type 0 where
  pub es : List Entry
  pub gives : between ≡ giving before es
  pub whole : all ≡ es ++ more (turn v es)
  pub shows : P now (turn v es)

pub so_far_more :
    (P Q : ServerState → Target → Type 0) (all : List Entry) (more later : Target → List Entry) (v : Target) (now next : ServerState)
    (before between afterwards : Making)
    → (so_far : SoFar P all more v now before between) (step : List Entry) → afterwards ≡ giving between step
    → more (turn v so_far.es) ≡ step ++ later (turn (turn v so_far.es) step) → Q next (turn (turn v so_far.es) step)
    → SoFar Q all later v next before afterwards
so_far_more P Q all more later v now next before between afterwards so_far step gives splits shows = record {
  es = so_far.es ++ step;
  gives = gives ∙ ap (λ (making : Making). giving making step) so_far.gives ∙ giving_more before so_far.es step;
  whole = so_far.whole ∙ ap (λ (rest : List Entry). so_far.es ++ rest) splits
      ∙ sym (append_assoc so_far.es step (later (turn (turn v so_far.es) step)))
      ∙ ap (λ (w : Target). (so_far.es ++ step) ++ later w) (sym (turn_more v so_far.es step));
  shows = subst (Q next) (sym (turn_more v so_far.es step)) shows;
}

nothing_more : (es : List Entry) → es ++ [] ≡ es
nothing_more [] = refl
nothing_more (e ∷ es) = ap (λ (more : List Entry). e ∷ more) (nothing_more es)

-- nothing is left of the row
pub so_far_all :
    (P : ServerState → Target → Type 0) (all : List Entry) (more : Target → List Entry) (v : Target) (now : ServerState)
    (before between : Making)
    → (so_far : SoFar P all more v now before between) → more (turn v so_far.es) ≡ [] → (between ≡ giving before all) × P now (turn v all)
so_far_all P all more v now before between so_far none =
    let is : all ≡ so_far.es = so_far.whole ∙ ap (λ (rest : List Entry). so_far.es ++ rest) none ∙ nothing_more so_far.es in
    (so_far.gives ∙ ap (giving before) (sym is), subst (λ (es : List Entry). P now (turn v es)) (sym is) so_far.shows)

pub part_then :
    (es fs : List Entry) (v : Target) (old now new : ServerState) (before between after : Making)
    → MakesPart es v old now before between → MakesPart fs (turn v es) now new between after → MakesPart (es ++ fs) v old new before after
part_then es fs v old now new before between after one two = record {
  gives = two.gives ∙ ap (λ (making : Making). giving making fs) one.gives ∙ giving_more before es fs;
  shows = subst (ShowsRest new) (sym (turn_more v es fs)) two.shows;
  locks = two.locks ∙ one.locks;
}

pub rest_then :
    (es fs : List Entry) (v : Target) (old now new : ServerState) (before between after : Making)
    → MakesPart es v old now before between → MakesRest fs (turn v es) new between after → MakesRest (es ++ fs) v new before after
rest_then es fs v old now new before between after one two = record {
  gives = two.gives ∙ ap (λ (making : Making). giving making fs) one.gives ∙ giving_more before es fs;
  shows = subst (Shows new) (sym (turn_more v es fs)) two.shows;
}

-- ---- a line

no_post : (posts : List Post) → posts ++ [] ≡ posts
no_post [] = refl
no_post (post ∷ posts) = ap (λ (more : List Post). post ∷ more) (no_post posts)

-- an entry that prints this line and sends nothing
pub noted : (before afterwards : Making) (e : Entry) (printed : PrintedEntry) → printed_entry 0 e ≡ Some printed → step_posts (e ∷ []) ≡ []
    → afterwards.at ≡ before.at
    → afterwards.step ≡ with_line before.at before.step printed → afterwards ≡ giving before (e ∷ [])
noted before afterwards e printed prints sends at step =
    ap (λ (it : Step). record { at = afterwards.at; step = it }) step
    ∙ ap (λ (it : At). record { at = it; step = with_line before.at before.step printed }) at
    ∙ ap (λ (posts : List Post). record {
      at = before.at;
      step =
          record { sends = posts; entries = (with_line before.at before.step printed).entries };
    }) (sym (no_post before.step.sends))
    ∙ ap (λ (posts : List Post). record {
      at = before.at;
      step =
          record { sends = before.step.sends ++ posts; entries = (with_line before.at before.step printed).entries };
    }) (sym sends)
    ∙ ap (λ (o : Option PrintedEntry). record {
      at = before.at;
      step =
          record { sends = before.step.sends ++ step_posts (e ∷ []); entries = before.step.entries ++ line_of before.at o [] };
    }) (sym prints)
