-- What the messages come to that a scenario's next line lets come or loses: a turn of a node, or none where it takes nothing.
use Rattle.std.proofs.Common.{◌≡◌, ◌≤◌, ℕ, zero, suc, if◌then◌else◌, Bool, true, false, List, ◌∷◌, Option, Some, None, refl, subst, ap, ◌∙◌}
use Rattle.std.proofs.Common.{arith}
use Rattle.std.specs.Prelude.{All}
use Rattle.std.proofs.lemmas.List.Elements.{All-cons}
use Rattle.lu_base.specs.declared.ids.Node.{Node}
use Rattle.lu_base.specs.declared.ids.Node.TheVariants.{Client, Target}
use Rattle.lu_msg.specs.declared.messages.Message.{Message}
use Rattle.lu_net.specs.declared.links.Sent.{Sent as SentMessage}
use Rattle.lu_net.specs.Posts.{sent_at, least_unspent}
use Rattle.lu_scene.specs.declared.scene.Scene.{Scene}
use Rattle.lu_scene.specs.declared.scene.SceneLine.{SceneLine}
use Rattle.lu_scene.specs.declared.scene.SceneLine.TheVariants.{Run, RunSome, Deliver, Lose}
use Rattle.lu_spec_entries.specs.Words.{Line}
use Rattle.lu_spec_run.specs.Heads.{Head}
use Rattle.lu_spec_run.specs.Runs.{EventAt, Meets}
use Rattle.lu_spec_run.specs.Scenarios.{Config, Disks, Goes, head_of, past_of, left, is_down, due, arrives, comes, runs, next}
use Rattle.lu_proof_run.specs.InTable.{IsOfRun}
use Rattle.lu_proof_run.proofs.Posts.{spend_length}
use Rattle.lu_proof_run.proofs.Runs.{spent_in, comes_meets}
use Rattle.lu_proof_run.specs.Steps.{none_failing, spent, LeftFits, LeadsTo, GoesOn, IsDue}
use Rattle.lu_proof_run.proofs.Turning.{goes_leads}
use Rattle.lu_proof_run.proofs.Due.{line_fits, rest_fits, next_is}

-- ---- the same for all disks

pub down_same : (head : Head) (disks others : Disks) (node : Node) (past : List Line) → is_down head disks node past
    ≡ is_down head others node past
down_same head disks others (Client c) past = refl
down_same head disks others (Target t) past = refl

pub arrives_same : (head : Head) (disks others : Disks) (n : ℕ) (from : Node) (m : Message) (node : Node)
    → arrives head disks n from m node ≡ arrives head others n from m node
arrives_same head disks others n from m (Client c) = refl
arrives_same head disks others n from m (Target t) = refl

-- ---- a message comes

-- there is none
none_comes : (head : Head) (disks : Disks) (c : Config) (n : ℕ) (thrown taken : List SceneLine) → sent_at c.posts n ≡ None
    → comes head disks c n (sent_at c.posts n) thrown taken ≡ Goes (left c thrown)
none_comes head disks c n thrown taken none = ap (λ (o : Option SentMessage). comes head disks c n o thrown taken) none

-- what one comes to, by whether its node takes nothing
one_comes : (head : Head) (disks : Disks) (c : Config) (n : ℕ) (m : SentMessage) (down : Bool) (thrown taken : List SceneLine)
    → sent_at c.posts n ≡ Some m → is_down head none_failing m.to (past_of c) ≡ down
    → comes head disks c n (sent_at c.posts n) thrown taken
    ≡ (if down then Goes (spent c n thrown) else due head disks (spent c n taken) m.to (arrives head disks n m.from m.message m.to))
one_comes head disks c n m down thrown taken stands is =
    ap (λ (o : Option SentMessage). comes head disks c n o thrown taken) stands
    ∙ ap (λ (v : Bool). if v then Goes (spent c n thrown) else due head disks (spent c n taken) m.to
    (arrives head disks n m.from m.message m.to))
    (down_same head disks none_failing m.to (past_of c) ∙ is)

one_due : (head : Head) (disks : Disks) (c : Config) (n : ℕ) (m : SentMessage) (thrown taken : List SceneLine)
    → sent_at c.posts n ≡ Some m → is_down head none_failing m.to (past_of c) ≡ false
    → comes head disks c n (sent_at c.posts n) thrown taken
    ≡ due head disks (spent c n taken) m.to (arrives head none_failing n m.from m.message m.to)
one_due head disks c n m thrown taken stands up =
    one_comes head disks c n m false thrown taken stands up
    ∙ ap (due head disks (spent c n taken) m.to) (arrives_same head disks none_failing n m.from m.message m.to)

-- the least that is neither taken nor lost, if there is any
least_runs : (head : Head) (disks : Disks) (c : Config) (least : Option ℕ) (done thrown taken : List SceneLine) → least_unspent c.posts
    ≡ least
    → runs head disks c (least_unspent c.posts) done thrown taken ≡ runs head disks c least done thrown taken
least_runs head disks c least done thrown taken is = ap (λ (o : Option ℕ). runs head disks c o done thrown taken) is

-- ---- what a scenario has come to once it is spent

spent_leads : (scene : Scene) (c : Config) (n : ℕ) (lines : List SceneLine) → LeadsTo scene c → GoesOn scene c (Goes (spent c n lines))
    → All (LeftFits scene.head) lines → LeadsTo scene (spent c n lines)
spent_leads scene c n lines is goes fits = goes_leads scene c (spent c n lines) is goes refl
    (spent_in (head_of scene.head) c n lines is.table) fits

spent_due : (scene : Scene) (c : Config) (n : ℕ) (lines : List SceneLine) (node : Node) (event : EventAt node) → LeadsTo scene c
    → ((disks : Disks) → next (head_of scene.head) disks c ≡ due (head_of scene.head) disks (spent c n lines) node event)
    → All (LeftFits scene.head) lines → IsDue scene c (spent c n lines) node event
spent_due scene c n lines node event is comes fits = record {
  next = comes;
  turns = refl;
  posts = spend_length c.posts n;
  table = spent_in (head_of scene.head) c n lines is.table;
  lines = fits;
}

all_fit : (scene : Scene) (c : Config) (lines : List SceneLine) → LeadsTo scene c → c.lines ≡ lines → All (LeftFits scene.head) lines
all_fit scene c lines is same = subst (All (LeftFits scene.head)) same is.lines

-- it may come to its node, where that takes anything
pub message_meets : (scene : Scene) (c : Config) (n : ℕ) (m : SentMessage) → LeadsTo scene c → sent_at c.posts n ≡ Some m
    → IsOfRun (head_of scene.head) m.to → is_down (head_of scene.head) none_failing m.to (past_of c) ≡ false
    → Meets (head_of scene.head) (past_of c) m.to (arrives (head_of scene.head) none_failing n m.from m.message m.to)
message_meets scene c n m is stands one up = comes_meets (head_of scene.head) none_failing c n m is.table stands one is.unfailed up

-- ---- all of them

pub run_done : (scene : Scene) (c : Config) (rest : List SceneLine) → LeadsTo scene c → c.lines ≡ Run ∷ rest
    → least_unspent c.posts ≡ None → GoesOn scene c (Goes (left c rest))
run_done scene c rest is lines none =
    λ disks. next_is scene c (Run ∷ rest) is lines disks
    ∙ least_runs (head_of scene.head) disks c None rest (Run ∷ rest) (Run ∷ rest) none

pub run_thrown : (scene : Scene) (c : Config) (rest : List SceneLine) (n : ℕ) (m : SentMessage) → LeadsTo scene c → c.lines ≡ Run ∷ rest
    → least_unspent c.posts ≡ Some n → sent_at c.posts n ≡ Some m → is_down (head_of scene.head) none_failing m.to (past_of c) ≡ true
    → LeadsTo scene (spent c n (Run ∷ rest))
run_thrown scene c rest n m is lines least stands down =
    spent_leads scene c n (Run ∷ rest) is
    (λ disks. next_is scene c (Run ∷ rest) is lines disks
    ∙ least_runs (head_of scene.head) disks c (Some n) rest (Run ∷ rest) (Run ∷ rest) least
    ∙ one_comes (head_of scene.head) disks c n m true (Run ∷ rest) (Run ∷ rest) stands down)
    (all_fit scene c (Run ∷ rest) is lines)

pub run_due : (scene : Scene) (c : Config) (rest : List SceneLine) (n : ℕ) (m : SentMessage) → LeadsTo scene c → c.lines ≡ Run ∷ rest
    → least_unspent c.posts ≡ Some n → sent_at c.posts n ≡ Some m → is_down (head_of scene.head) none_failing m.to (past_of c) ≡ false
    → IsDue scene c (spent c n (Run ∷ rest)) m.to (arrives (head_of scene.head) none_failing n m.from m.message m.to)
run_due scene c rest n m is lines least stands up =
    spent_due scene c n (Run ∷ rest) m.to (arrives (head_of scene.head) none_failing n m.from m.message m.to) is
    (λ disks. next_is scene c (Run ∷ rest) is lines disks
    ∙ least_runs (head_of scene.head) disks c (Some n) rest (Run ∷ rest) (Run ∷ rest) least
    ∙ one_due (head_of scene.head) disks c n m (Run ∷ rest) (Run ∷ rest) stands up)
    (all_fit scene c (Run ∷ rest) is lines)

-- ---- so many of them

pub some_done : (scene : Scene) (c : Config) (rest : List SceneLine) → LeadsTo scene c → c.lines ≡ RunSome zero ∷ rest
    → GoesOn scene c (Goes (left c rest))
some_done scene c rest is lines = next_is scene c (RunSome zero ∷ rest) is lines

fewer : (k : ℕ) → suc k ≤ 65536 → k ≤ 65536
fewer k fits = omega arith

pub some_none : (scene : Scene) (c : Config) (rest : List SceneLine) (k : ℕ) → LeadsTo scene c → c.lines ≡ RunSome (suc k) ∷ rest
    → least_unspent c.posts ≡ None → GoesOn scene c (Goes (left c rest))
some_none scene c rest k is lines none =
    λ disks. next_is scene c (RunSome (suc k) ∷ rest) is lines disks
    ∙ least_runs (head_of scene.head) disks c None rest (RunSome (suc k) ∷ rest) (RunSome k ∷ rest) none

pub some_thrown : (scene : Scene) (c : Config) (rest : List SceneLine) (k : ℕ) (n : ℕ) (m : SentMessage) → LeadsTo scene c → c.lines
    ≡ RunSome (suc k) ∷ rest
    → least_unspent c.posts ≡ Some n → sent_at c.posts n ≡ Some m → is_down (head_of scene.head) none_failing m.to (past_of c) ≡ true
    → LeadsTo scene (spent c n (RunSome (suc k) ∷ rest))
some_thrown scene c rest k n m is lines least stands down =
    spent_leads scene c n (RunSome (suc k) ∷ rest) is
    (λ disks. next_is scene c (RunSome (suc k) ∷ rest) is lines disks
    ∙ least_runs (head_of scene.head) disks c (Some n) rest (RunSome (suc k) ∷ rest) (RunSome k ∷ rest) least
    ∙ one_comes (head_of scene.head) disks c n m true (RunSome (suc k) ∷ rest) (RunSome k ∷ rest) stands down)
    (all_fit scene c (RunSome (suc k) ∷ rest) is lines)

pub some_due : (scene : Scene) (c : Config) (rest : List SceneLine) (k : ℕ) (n : ℕ) (m : SentMessage) → LeadsTo scene c → c.lines
    ≡ RunSome (suc k) ∷ rest
    → least_unspent c.posts ≡ Some n → sent_at c.posts n ≡ Some m → is_down (head_of scene.head) none_failing m.to (past_of c) ≡ false
    → IsDue scene c (spent c n (RunSome k ∷ rest)) m.to (arrives (head_of scene.head) none_failing n m.from m.message m.to)
some_due scene c rest k n m is lines least stands up =
    spent_due scene c n (RunSome k ∷ rest) m.to (arrives (head_of scene.head) none_failing n m.from m.message m.to) is
    (λ disks. next_is scene c (RunSome (suc k) ∷ rest) is lines disks
    ∙ least_runs (head_of scene.head) disks c (Some n) rest (RunSome (suc k) ∷ rest) (RunSome k ∷ rest) least
    ∙ one_due (head_of scene.head) disks c n m (RunSome (suc k) ∷ rest) (RunSome k ∷ rest) stands up)
    (All-cons (LeftFits scene.head) (RunSome k) rest (fewer k (line_fits scene c rest (RunSome (suc k)) is lines))
    (rest_fits scene c rest (RunSome (suc k)) is lines))

-- ---- one of them, also again

pub deliver_none : (scene : Scene) (c : Config) (rest : List SceneLine) (n : ℕ) → LeadsTo scene c → c.lines ≡ Deliver n ∷ rest
    → sent_at c.posts n ≡ None → GoesOn scene c (Goes (left c rest))
deliver_none scene c rest n is lines none =
    λ disks. next_is scene c (Deliver n ∷ rest) is lines disks
    ∙ none_comes (head_of scene.head) disks c n rest rest none

pub deliver_thrown : (scene : Scene) (c : Config) (rest : List SceneLine) (n : ℕ) (m : SentMessage) → LeadsTo scene c → c.lines ≡ Deliver n
    ∷ rest
    → sent_at c.posts n ≡ Some m → is_down (head_of scene.head) none_failing m.to (past_of c) ≡ true
    → LeadsTo scene (spent c n rest)
deliver_thrown scene c rest n m is lines stands down =
    spent_leads scene c n rest is
    (λ disks. next_is scene c (Deliver n ∷ rest) is lines disks
    ∙ one_comes (head_of scene.head) disks c n m true rest rest stands down)
    (rest_fits scene c rest (Deliver n) is lines)

pub deliver_due : (scene : Scene) (c : Config) (rest : List SceneLine) (n : ℕ) (m : SentMessage) → LeadsTo scene c → c.lines ≡ Deliver n
    ∷ rest
    → sent_at c.posts n ≡ Some m → is_down (head_of scene.head) none_failing m.to (past_of c) ≡ false
    → IsDue scene c (spent c n rest) m.to (arrives (head_of scene.head) none_failing n m.from m.message m.to)
deliver_due scene c rest n m is lines stands up =
    spent_due scene c n rest m.to (arrives (head_of scene.head) none_failing n m.from m.message m.to) is
    (λ disks. next_is scene c (Deliver n ∷ rest) is lines disks
    ∙ one_due (head_of scene.head) disks c n m rest rest stands up)
    (rest_fits scene c rest (Deliver n) is lines)

-- ---- one is lost

pub lose_leads : (scene : Scene) (c : Config) (rest : List SceneLine) (n : ℕ) → LeadsTo scene c → c.lines ≡ Lose n ∷ rest
    → LeadsTo scene (spent c n rest)
lose_leads scene c rest n is lines =
    spent_leads scene c n rest is (next_is scene c (Lose n ∷ rest) is lines) (rest_fits scene c rest (Lose n) is lines)
