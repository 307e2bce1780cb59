-- A target that crashed: it is down, or was booted again and recovers, and then keeps what its lives tell. Between its turns it is what its
-- story says (`Crashed`), line by line; and what a turn of it leads to.
use Rattle.std.proofs.Common.{◌≡◌, ℕ, ◌+◌, ◌<◌, ◌≤◌, true, List, [], ◌∷◌, None, ◌⊎◌, inr, ⊎_elim, refl, sym, subst, ap, ◌∙◌, arith}
use Rattle.lu_base.specs.declared.ids.At.{At}
use Rattle.lu_base.specs.declared.ids.Node.TheVariants as node
use Rattle.lu_base.specs.declared.ids.Stamp.{Stamp}
use Rattle.lu_base.specs.declared.ids.Who.{Who}
use Rattle.lu_msg.specs.declared.messages.Message.TheVariants as message
use Rattle.lu_spec_entries.specs.Words.{Entry, Send, Take, Tick, Skip, Crash, Boot, Back, Stores, Brings, Says, Wishes, Line, line}
use Rattle.lu_spec_entries.specs.Words.{with_turn}
use Rattle.lu_spec_target.specs.States.{Target, after}
use Rattle.lu_proof_lawful.specs.Covered.Heads.{Head}
use Rattle.lu_proof_lawful.specs.Covered.TargetCloses.{closing_of, disk_of}
use Rattle.lu_proof_lawful.specs.Covered.TargetStates.{server_of, lives_of, evicted_of, closed_of, up_of, replays_of, brought_of, words_of}
use Rattle.lu_proof_lawful.specs.Covered.TargetStates.{wishes_of}
use Rattle.lu_proof_lawful.proofs.Preconditions.Guards.{In, Was, IsMark, due}
use Rattle.lu_proof_lawful.proofs.Preconditions.Grown.{GrownOf}
use Rattle.lu_proof_lawful.proofs.Preconditions.Lists.{turn}
use Rattle.lu_proof_lawful.proofs.Preconditions.Only.{was_more}
use Rattle.lu_proof_lawful.proofs.Preconditions.CloseLists.{in_wish}
use Rattle.lu_proof_lawful.proofs.Preconditions.TargetAlike.{Serving, OnDisk}
use Rattle.lu_proof_lawful.proofs.Preconditions.TargetGood.{Reaches}
use Rattle.lu_proof_lawful.proofs.Preconditions.TargetStory.{Story, numbered, story_client, story_still, story_boot}
use Rattle.lu_proof_lawful.proofs.Preconditions.Turns.{NoBack, AllBacks, AllMarks, AllShows}

-- ---- between its turns

-- what it has taken since its boot
abbrev pub HasKept : Target → List Line → Type 0
HasKept v past =
    record {
      replays : v.replays ≡ replays_of past;
      brought : v.brought ≡ brought_of past;
      words : v.words ≡ words_of past;
      wishes : v.wishes ≡ wishes_of past;
    }

-- that life asked for a slot
abbrev pub Asked : ℕ → List Line → Who → Type 0
Asked t past w = (from boot : ℕ) × Was past (node.Client from) (node.Target t) (message.Join w boot)

pub record Crashed (head : Head) (t : ℕ) (v : Target) (past : List Line) : Type 0 where
  pub id : v.setting.id ≡ t
  pub osts : v.setting.osts ≡ head.osts
  pub boot : v.boot ≡ (server_of head.osts past).boot
  pub number : v.number ≡ numbered (server_of head.osts past)
  pub cookie : v.cookie ≡ (server_of head.osts past).cookie
  pub closed : v.closed ≡ closed_of past
  pub least : closed_of past ≤ (server_of head.osts past).boot
  pub up : v.up ≡ up_of past
  pub newer : up_of past ≡ true → closed_of past < (server_of head.osts past).boot
  pub lives : v.lives ≡ lives_of head.clients past
  pub removed : v.removed ≡ evicted_of past
  pub story : Story head past
  pub committed : v.committed ≡ (server_of head.osts past).committed.0
  pub disk : OnDisk v
  pub stored : v.disk ≡ disk_of head.osts head.clients past
  pub kept : up_of past ≡ true → HasKept v past
  pub asked : up_of past ≡ true → (w : Who) → In w (wishes_of past) → Asked t past w

-- ---- line by line

abbrev pub IsQuiet : Entry → Type 0
IsQuiet (Send to m) = Unit {0}
IsQuiet (Take n from m) = Unit {0}
IsQuiet Tick = Unit {0}
IsQuiet Skip = Unit {0}
IsQuiet (Back who) = Unit {0}
IsQuiet _ = ⊥

-- whose join is kept
abbrev pub Joins : ℕ → List Line → Entry → Type 0
Joins t past (Wishes who) = Asked t past who
Joins t past _ = Unit {0}

module _ (head : Head) (t : ℕ) (past : List Line) (stamp : Stamp) (v : Target) where
  abbrev Next : Entry → Type 0
  Next e = Crashed head t (after v e) (line (turn stamp (node.Target t)) e ∷ past)

  pub crashed_quiet : (e : Entry) → IsQuiet e → Crashed head t v past → Next e
  crashed_quiet (Send to m) quiet h =
      record {
        id = h.id;
        osts = h.osts;
        boot = h.boot;
        number = h.number;
        cookie = h.cookie;
        closed = h.closed;
        least = h.least;
        up = h.up;
        newer = h.newer;
        lives = h.lives;
        removed = h.removed;
        story = story_still head t past stamp h.story (Send to m) refl refl refl;
        committed = h.committed;
        disk = h.disk;
        stored = h.stored;
        kept = h.kept;
        asked = λ u w i. let k = h.asked u w i
            in (k.0, k.1, inr k.2);
      }
  crashed_quiet (Take n from m) quiet h =
      record {
        id = h.id;
        osts = h.osts;
        boot = h.boot;
        number = h.number;
        cookie = h.cookie;
        closed = h.closed;
        least = h.least;
        up = h.up;
        newer = h.newer;
        lives = h.lives;
        removed = h.removed;
        story =
            story_still head t past stamp h.story (Take n from m) refl refl refl;
        committed = h.committed;
        disk = h.disk;
        stored = h.stored;
        kept = h.kept;
        asked = h.asked;
      }
  crashed_quiet Tick quiet h =
      record {
        id = h.id;
        osts = h.osts;
        boot = h.boot;
        number = h.number;
        cookie = h.cookie;
        closed = h.closed;
        least = h.least;
        up = h.up;
        newer = h.newer;
        lives = h.lives;
        removed = h.removed;
        story = story_still head t past stamp h.story Tick refl refl refl;
        committed = h.committed;
        disk = h.disk;
        stored = h.stored;
        kept = h.kept;
        asked = h.asked;
      }
  crashed_quiet Skip quiet h =
      record {
        id = h.id;
        osts = h.osts;
        boot = h.boot;
        number = h.number;
        cookie = h.cookie;
        closed = h.closed;
        least = h.least;
        up = h.up;
        newer = h.newer;
        lives = h.lives;
        removed = h.removed;
        story = story_still head t past stamp h.story Skip refl refl refl;
        committed = h.committed;
        disk = h.disk;
        stored = h.stored;
        kept = h.kept;
        asked = h.asked;
      }
  crashed_quiet (Back who) quiet h =
      record {
        id = h.id;
        osts = h.osts;
        boot = h.boot;
        number = h.number;
        cookie = h.cookie;
        closed = h.closed;
        least = h.least;
        up = h.up;
        newer = h.newer;
        lives = h.lives;
        removed = h.removed;
        story = story_still head t past stamp h.story (Back who) refl refl refl;
        committed = h.committed;
        disk = h.disk;
        stored = h.stored;
        kept = h.kept;
        asked = h.asked;
      }
  crashed_quiet e quiet h = absurd quiet

  -- what is kept stands in the story too
  pub crashed_mark : (e : Entry) → IsMark e → Joins t past e → Crashed head t v past → Next e
  crashed_mark (Stores replay) mark asks h =
      record {
        id = h.id;
        osts = h.osts;
        boot = h.boot;
        number = h.number;
        cookie = h.cookie;
        closed = h.closed;
        least = h.least;
        up = h.up;
        newer = h.newer;
        lives = h.lives;
        removed = h.removed;
        story = story_still head t past stamp h.story (Stores replay) refl refl refl;
        committed = h.committed;
        disk = h.disk;
        stored = h.stored;
        kept = λ u. let k = h.kept u in record { replays = rw k.replays refl; brought = k.brought; words = k.words; wishes = k.wishes };
        asked = h.asked;
      }
  crashed_mark (Brings lock) mark asks h =
      record {
        id = h.id;
        osts = h.osts;
        boot = h.boot;
        number = h.number;
        cookie = h.cookie;
        closed = h.closed;
        least = h.least;
        up = h.up;
        newer = h.newer;
        lives = h.lives;
        removed = h.removed;
        story = story_still head t past stamp h.story (Brings lock) refl refl refl;
        committed = h.committed;
        disk = h.disk;
        stored = h.stored;
        kept = λ u. let k = h.kept u in record { replays = k.replays; brought = rw k.brought refl; words = k.words; wishes = k.wishes };
        asked = h.asked;
      }
  crashed_mark (Says said) mark asks h =
      record {
        id = h.id;
        osts = h.osts;
        boot = h.boot;
        number = h.number;
        cookie = h.cookie;
        closed = h.closed;
        least = h.least;
        up = h.up;
        newer = h.newer;
        lives = h.lives;
        removed = h.removed;
        story = story_still head t past stamp h.story (Says said) refl refl refl;
        committed = h.committed;
        disk = h.disk;
        stored = h.stored;
        kept = λ u. let k = h.kept u in record { replays = k.replays; brought = k.brought; words = rw k.words refl; wishes = k.wishes };
        asked = h.asked;
      }
  crashed_mark (Wishes who) mark asks h =
      record {
        id = h.id;
        osts = h.osts;
        boot = h.boot;
        number = h.number;
        cookie = h.cookie;
        closed = h.closed;
        least = h.least;
        up = h.up;
        newer = h.newer;
        lives = h.lives;
        removed = h.removed;
        story = story_still head t past stamp h.story (Wishes who) refl refl refl;
        committed = h.committed;
        disk = h.disk;
        stored = h.stored;
        kept = λ u. let k = h.kept u in record { replays = k.replays; brought = k.brought; words = k.words; wishes = rw k.wishes refl };
        asked = λ u w i. ⊎_elim (λ (e : who ≡ w). subst (Asked t past) e asks) (λ (j : In w (wishes_of past)). h.asked u w j)
            (in_wish w who (wishes_of past) i);
      }
  crashed_mark e mark asks h = absurd mark

  -- it goes down: for the first time, or once more
  pub crashed_first : Serving head t v past → Next Crash
  crashed_first h =
      let a = h.alike in
      record {
        id = a.id;
        osts = a.osts;
        boot = a.boot;
        number = a.number;
        cookie = a.cookie;
        closed = a.closed ∙ a.boot ∙ sym h.phase.closed;
        least = let is = h.phase.closed in omega (arith, is);
        up = refl;
        newer = λ u. absurd (cc);
        lives = h.lives;
        removed = h.removed;
        story = story_still head t past stamp h.story Crash refl refl refl;
        committed = a.committed;
        disk = h.disk;
        stored = h.stored;
        kept = λ u. absurd (cc);
        asked = λ u. absurd (cc);
      }

  pub crashed_again : Crashed head t v past → Next Crash
  crashed_again h =
      record {
        id = h.id;
        osts = h.osts;
        boot = h.boot;
        number = h.number;
        cookie = h.cookie;
        closed = h.closed;
        least = h.least;
        up = refl;
        newer = λ u. absurd (cc);
        lives = h.lives;
        removed = h.removed;
        story = story_still head t past stamp h.story Crash refl refl refl;
        committed = h.committed;
        disk = h.disk;
        stored = h.stored;
        kept = λ u. absurd (cc);
        asked = λ u. absurd (cc);
      }

  -- it comes up in the next boot, with what the disk has
  pub crashed_boot : Crashed head t v past → Next (Boot (v.disk.boot + 1) v.disk)
  crashed_boot h =
      record {
        id = h.id;
        osts = h.osts;
        boot = refl;
        number = omega arith;
        cookie = refl;
        closed = h.closed;
        least = let low = h.least in let is : v.disk.boot ≡ (server_of head.osts past).boot = h.disk.boot ∙ h.boot
            in omega (arith, low, is);
        up = refl;
        newer = λ u. let low = h.least in let is : v.disk.boot ≡ (server_of head.osts past).boot = h.disk.boot ∙ h.boot
            in omega (arith, low, is);
        lives = h.disk.lives ∙ h.lives;
        removed = h.disk.removed ∙ h.removed;
        story = story_boot head t past stamp h.story (v.disk.boot + 1) v.disk (ap (λ (n : ℕ). n + 1) (h.disk.boot ∙ h.boot));
        committed = h.disk.committed ∙ h.committed;
        disk = record { boot = refl; lives = refl; removed = refl; committed = refl };
        stored = refl;
        kept = λ u. record { replays = refl; brought = refl; words = refl; wishes = refl };
        asked = λ u w i. absurd i;
      }

-- a client's lines change nothing
pub crashed_client : (head : Head) (t : ℕ) (stamp : Stamp) (c : ℕ) (es : List Entry) (past : List Line) (v : Target) → Crashed head t v past
    → Crashed head t v (with_turn (turn stamp (node.Client c)) es past)
crashed_client head t stamp c [] past v h = h
crashed_client head t stamp c (e ∷ es) past v h =
    crashed_client head t stamp c es (line (turn stamp (node.Client c)) e ∷ past) v
    (record {
      id = h.id;
      osts = h.osts;
      boot = h.boot;
      number = h.number;
      cookie = h.cookie;
      closed = h.closed;
      least = h.least;
      up = h.up;
      newer = h.newer;
      lives = h.lives;
      removed = h.removed;
      story = story_client head past stamp c e h.story;
      committed = h.committed;
      disk = h.disk;
      stored = h.stored;
      kept = h.kept;
      asked = λ u w i. let k = h.asked u w i
          in (k.0, k.1, was_more (line (turn stamp (node.Client c)) e) past (node.Client k.0) (node.Target t) (message.Join w k.1) k.2);
    })

-- ---- a target serves, or crashed

abbrev pub Matches : Head → ℕ → Target → List Line → Type 0
Matches head t v past = Serving head t v past ⊎ Crashed head t v past

-- ---- lines that are allowed, in which what is to be kept is, each life that is back is shown, and what a close has to show

module _ (head : Head) (stamp : Stamp) (t : ℕ) where
  abbrev at : At
  at = turn stamp (node.Target t)

  abbrev pub Leads : (past story : List Line) → Target → List Entry → Type 0
  Leads past story v es = Reaches head stamp t past story v es (Matches head t) × AllBacks head story at es × AllMarks head story at es
      × AllShows head story at es

  -- no life is back unshown, nothing of a close is to be shown, and each line so far is allowed
  abbrev pub Calm : List Line → Type 0
  Calm story = NoBack head story × (closing_of head.clients story ≡ []) × GrownOf head story

  -- nothing is to be kept
  abbrev pub Undue : List Line → Type 0
  Undue story = due head.osts head.clients story ≡ None
