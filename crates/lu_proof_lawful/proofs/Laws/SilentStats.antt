-- A stat of a file that was told calm is known: by facts under locks that last, and by a lock on each of the file's objects. As it goes on
-- for
-- the size it knows the file that it goes on for, as long as it stands calm. What is known of a file is true of one tree, so that it is
-- one.
use Rattle.std.proofs.Common.{◌≡◌, ℕ, true, List, [], ◌∷◌, ◌⊎◌, inl, inr, ⊎_elim, Option, Some, None, refl, sym, subst, ap, ◌∙◌}
use Rattle.std.specs.Prelude.{if◌then◌else◌}
use Rattle.std.proofs.lemmas.Bool.{cond_both}
use Rattle.lu_base.specs.declared.ids.At.{At}
use Rattle.lu_base.specs.declared.ids.Fid.{Fid}
use Rattle.lu_base.specs.declared.ids.Node.TheVariants.{Client}
use Rattle.lu_base.specs.declared.ids.Who.{Who}
use Rattle.lu_layout.specs.Raid0.{Raid0}
use Rattle.lu_part.specs.declared.parts.Part.{Part}
use Rattle.lu_part.specs.declared.parts.Part.TheVariants as part
use Rattle.lu_msg.specs.declared.answers.Answer.{Answer}
use Rattle.lu_msg.specs.declared.answers.Answer.TheVariants as told
use Rattle.lu_msg.specs.declared.calls.Call.{Call}
use Rattle.lu_msg.specs.declared.calls.Call.TheVariants as call
use Rattle.lu_msg.specs.declared.messages.Reply.{Reply as ReplyTo}
use Rattle.lu_held.specs.declared.locks.Use.{Use}
use Rattle.lu_held.specs.declared.names.LockName.{LockName}
use Rattle.lu_held.specs.Held.{serving}
use Rattle.lu_spec_machine.specs.declared.child.Child.TheVariants.{Dir, File}
use Rattle.lu_spec_machine.specs.Tree.{Tree, attributes, layout}
use Rattle.lu_spec_target.specs.Lives.{is_life}
use Rattle.lu_spec_entries.specs.Carried.{Unasked, Answered, Kind, Work, Stage, Plain, Running}
use Rattle.lu_spec_entries.specs.Words.{Line}
use Rattle.lu_spec_entries.specs.Concerns.{only}
use Rattle.lu_spec_entries.specs.Printed.{printed}
use Rattle.lu_spec_client.specs.Caches.{held_at}
use Rattle.lu_spec_client.specs.Facts.{Fact, root, facts_at}
use Rattle.lu_spec_client.specs.Known.{Notes, KnownFile, Found, fact_on, walked, found_at_path, file_with, file_facts, file_at, file_known}
use Rattle.lu_spec_client.specs.Known.{same_part}
use Rattle.lu_spec_client.specs.Stripes.{stripes}
use Rattle.lu_spec_client.specs.Wants.{wants_rest, wants_of}
use Rattle.lu_proof_lawful.specs.Covered.Calls.{call_at, life_at}
use Rattle.lu_proof_lawful.specs.Covered.Known.{notes_at, known_file}
use Rattle.lu_proof_lawful.specs.Covered.Heads.{Head}
use Rattle.lu_proof_lawful.specs.Covered.TargetStates.{server_of, evicted_of}
use Rattle.lu_spec_laws.specs.Words.Lives.{who_is}
use Rattle.lu_spec_laws.specs.Words.Repeats.{calm}
use Rattle.lu_proof_lawful.proofs.Preconditions.Guards.{In, Begins, KnowsFile, ToldFile, GoesOn, ReadsOn, ChangesOn, SizesStand, LockStand}
use Rattle.lu_proof_lawful.proofs.Preconditions.Guards.{StatOf, StatStand, GetStand, FlushStand, MovedStand, StandsOk, StatToldOk}
use Rattle.lu_proof_lawful.proofs.Preconditions.Guards.{wanted_by, work_in}
use Rattle.lu_proof_lawful.proofs.Preconditions.Calls.{Came, Stood, call_cases}
use Rattle.lu_proof_lawful.proofs.Preconditions.Grown.{Grown, GrownOf}
use Rattle.lu_proof_lawful.proofs.Preconditions.Only.{grown_of}
use Rattle.lu_proof_lawful.proofs.Preconditions.ClientLooks.{lacks_in}
use Rattle.lu_proof_lawful.proofs.Invariants.Groups.{turn}
use Rattle.lu_proof_lawful.proofs.Invariants.All.{holds_at}
use Rattle.lu_proof_lawful.proofs.Invariants.KnownPaths.{Usable, UsedBy, LedBy, FileBy, Tells, TellsAttr, TellsOf, OneKind, part_is}
use Rattle.lu_proof_lawful.proofs.Invariants.KnownPaths.{placed_reached, led_more, file_more, led_used, file_used, file_right, after_name}
use Rattle.lu_proof_lawful.proofs.Invariants.PartsStay.{sound_now}
use Rattle.lu_proof_lawful.proofs.Invariants.Taught.{tree_for}
use Rattle.lu_proof_lawful.proofs.Invariants.ToldFiles.{FileKnown, told_file}
use Rattle.lu_proof_lawful.proofs.Invariants.TaughtKnown.{Agrees, fact_found, fact_there, name_there, one_name, same_inode}
use Rattle.lu_proof_lawful.proofs.Invariants.StatFacts.{AtWork, one_work, moved_work, one_path}
use Rattle.lu_proof_lawful.proofs.Laws.SilentKnown.{Grows, IsKnown, known_more}
use Rattle.lu_proof_lawful.proofs.Laws.SilentHeld.{bare_at, grows_to_bare, notes_grow}
use Rattle.lu_proof_lawful.proofs.Laws.SilentAgrees.{tree, bound, is_true, agrees}
use Rattle.lu_proof_lawful.proofs.Laws.SilentCalm.{calm_before, calm_stays}
use Rattle.lu_proof_lawful.proofs.Laws.SilentReading.{ToRead, rest_with}

-- ---- a stat of a file that is known

-- by facts that can be used
abbrev pub SomeFile : Notes → List (List ℕ) → Fid → Raid0 → Type 0
SomeFile n path fid layout = (mode : ℕ) × (links : ℕ) × FileBy (Usable n) path fid mode links layout

some_more : (n m : Notes) → Grows n m → (path : List (List ℕ)) (fid : Fid) (layout : Raid0) → SomeFile n path fid layout
    → SomeFile m path fid layout
some_more n m more path fid layout k = (k.0, k.1, file_more (Usable n) (Usable m) more path fid k.0 k.1 layout k.2)

-- and with a lock on each object
pub record StatBy (n : Notes) (L : Use → Type 0) (path : List (List ℕ)) : Type 0 where
  pub fid : Fid
  pub layout : Raid0
  pub file : SomeFile n path fid layout
  pub locked : (wanted : Use) → In wanted (wants_rest layout fid 0 (stripes layout)) → L wanted

abbrev pub StatKnown : Notes → (Use → Type 0) → Call → Type 0
StatKnown n L (call.Stat path) = StatBy n L path
StatKnown n L _ = ⊥

-- ---- what is known of a call: by facts, by what is known of bytes, or by locks on objects

abbrev pub KnownBy : Notes → (Call → Type 0) → (Use → Type 0) → Call → Type 0
KnownBy n R L k = (IsKnown n k × R k) ⊎ StatKnown n L k

stat_more : (n m : Notes) (L M : Use → Type 0) (k : Call) → Grows n m → ((u : Use) → L u → M u) → StatKnown n L k → StatKnown m M k
stat_more n m L M (call.Stat path) grows more h = record {
  fid = h.fid;
  layout = h.layout;
  file =
      some_more n m grows path h.fid h.layout h.file;
  locked = λ wanted i. more wanted (h.locked wanted i);
}
stat_more n m L M k grows more h = absurd h

pub by_more : (n m : Notes) (R S : Call → Type 0) (L M : Use → Type 0) (k : Call) → Grows n m → Agrees m → (R k → S k)
    → ((u : Use) → L u → M u) → KnownBy n R L k → KnownBy m S M k
by_more n m R S L M k grows agrees reads more (inl h) = inl (known_more n m grows agrees k h.0, reads h.1)
by_more n m R S L M k grows agrees reads more (inr h) = inr (stat_more n m L M k grows more h)

-- ---- the tree that a life knew has one inode of a number

one_kind : (head : Head) (who : Who) (p : List Line) → GrownOf head p → OneKind (tree_for head.osts who p)
one_kind head who [] g = (sound_now head [] (holds_at head [] g)).one
one_kind head who (l ∷ p) g =
    cond_both (is_life who (evicted_of (l ∷ p))) (if is_life who (evicted_of p) then tree_for head.osts who p
    else (server_of head.osts p).tree) (server_of head.osts (l ∷ p)).tree (λ (t : Tree). OneKind t)
    (λ e. cond_both (is_life who (evicted_of p)) (tree_for head.osts who p) (server_of head.osts p).tree (λ (t : Tree). OneKind t)
    (λ f. one_kind head who p g.3) (λ f. (sound_now head p (holds_at head p g.3)).one))
    (λ e. (sound_now head (l ∷ p) (holds_at head (l ∷ p) g)).one)

-- ---- names that lead somewhere are walked

led_walks : (n : Notes) → Agrees n → (path : List (List ℕ)) (a b : Answer) → LedBy (Usable n) path a b → (walked n path a).inode ≡ Some b
led_walks n agrees [] a b e = ap Some e
led_walks n agrees (m ∷ ms) (told.Dir d) b e =
    let there = name_there n agrees d m e.0 e.1 (subst (λ (p : Part). same_part (part.Name d m) p ≡ true) e.2 (one_name d m)) in
    subst (λ (o : Option Fact). (after_name n ms o).inode ≡ Some b) (sym there.1.0)
    (subst (λ (a : Answer). (walked n ms a).inode ≡ Some b) (sym there.1.1) (led_walks n agrees ms e.0.answer b e.3))
led_walks n agrees (m ∷ ms) a b e = absurd e

module _ (head : Head) (c : ℕ) (past : List Line) (g : Grown head past) where
  abbrev N : Notes
  N = notes_at c past

  T : Tree
  T = tree head c past g

  true_now : (f : Fact) → Usable N f → Tells (tree head c past g) (bound head c past g) f
  true_now f u = is_true head c past g f (grows_to_bare (facts_at c past) (held_at c past) f u)

  agrees_now : Agrees N
  agrees_now d m f k u v = agrees head c past g d m f k (grows_to_bare (facts_at c past) (held_at c past) f u)
      (grows_to_bare (facts_at c past) (held_at c past) k v)

  kinds : OneKind (tree head c past g)
  kinds = one_kind head (life_at c past) (only 0 past) (grown_of head 0 past g)

  fact_true : (p : Part) (f : Fact) → fact_on p N ≡ Some f → TellsOf (tree head c past g) (bound head c past g) p f.answer
  fact_true p f e = let u = fact_found p N f e in subst (λ (q : Part). TellsOf (tree head c past g) (bound head c past g) q f.answer)
      (sym (part_is p f.part u.1)) (true_now f u.0).is

  -- what is known of the file at a path is one
  pub file_one : (path : List (List ℕ)) (fid : Fid) (layout : Raid0) (file : KnownFile) → SomeFile N path fid layout
      → file_known N (found_at_path N path) ≡ Some file → (fid ≡ file.fid) × (layout ≡ file.layout)
  file_one path fid layout file k e =
      let one = file_right (tree head c past g) (bound head c past g) (Usable N) true_now kinds path fid k.0 k.1 layout k.2 in
      let other = file_right (tree head c past g) (bound head c past g) (Usable N) true_now kinds path file.fid file.mode file.links
      file.layout
      (file_more (UsedBy N file.cookies) (Usable N) (λ f u. u.0) path file.fid file.mode file.links file.layout (file_used N path file e))
      in
      let same : told.FileStat fid k.0 k.1 layout ≡ told.FileStat file.fid file.mode file.links file.layout = one.same ∙ sym other.same in
      (first same, second same)
    where
      first : told.FileStat fid k.0 k.1 layout ≡ told.FileStat file.fid file.mode file.links file.layout → fid ≡ file.fid
      first e = cc

      second : told.FileStat fid k.0 k.1 layout ≡ told.FileStat file.fid file.mode file.links file.layout → layout ≡ file.layout
      second e = cc

  -- and it is noted
  pub file_there : (path : List (List ℕ)) (fid : Fid) (layout : Raid0) → SomeFile N path fid layout → file_known N (found_at_path N path)
      ≡ None → ⊥
  file_there path fid laid k none =
      let h = k.2 in
      let x = h.inode in
      let leads : (found_at_path N path).inode ≡ Some (told.File x) = led_walks N agrees_now path (told.Dir root) (told.File x) h.leads in
      let a = fact_there (part.Attr x) N h.attr h.attr_is (subst (λ (p : Part). same_part (part.Attr x) p ≡ true) h.attr_part
      (same_inode x x refl)) in
      let l = fact_there (part.Layout x) N h.laid h.laid_is (subst (λ (p : Part). same_part (part.Layout x) p ≡ true) h.laid_part
      (same_inode x x refl)) in
      by x a.0 l.0 (fact_true (part.Attr x) a.0 a.1) (fact_true (part.Layout x) l.0 l.1)
      (mine x h.attr.answer fid k.0 k.1 h.old h.attr_tells (subst
      (λ (q : Part). TellsOf (tree head c past g) (bound head c past g) q h.attr.answer) (sym h.attr_part)
      (true_now h.attr h.attr_is).is))
      (ap (λ (o : Option Fact). file_facts (found_at_path N path) o (Some l.0)) (sym a.1)
      ∙ ap (λ (o : Option Fact). file_facts (found_at_path N path) (fact_on (part.Attr x) N) o) (sym l.1)
      ∙ ap (λ (o : Option Answer). file_at N (found_at_path N path) o) (sym leads) ∙ none)
    where
      -- it is a file
      mine : (x : Fid) (a : Answer) (fid : Fid) (mode links : ℕ) (old : Raid0) → a ≡ told.FileStat fid mode links old
          → TellsAttr (tree head c past g) (bound head c past g) x a
          → (l : Raid0) × TellsAttr (tree head c past g) (bound head c past g) x
          (told.FileStat x (attributes (tree head c past g) (File x)).mode (attributes (tree head c past g) (File x)).links l)
      mine x a fid mode links old e (inl t) = let both = sym e ∙ t.0 in absurd (cc)
      mine x a fid mode links old e (inr t) = (t.0, inr (t.0, refl, t.2))

      none_file : (found : Found) (f g : Fact) (x : Fid) (mode links : ℕ) (old l : Raid0) → f.answer ≡ told.FileStat x mode links old
          → g.answer ≡ told.Layout l → file_facts found (Some f) (Some g) ≡ None → ⊥
      none_file found f g x mode links old l e q is =
          let some : file_with found f.cookie g.cookie (told.FileStat x mode links old) (told.Layout l) ≡ None =
          ap (λ (v : Answer). file_with found f.cookie g.cookie v (told.Layout l)) (sym e)
          ∙ ap (λ (v : Answer). file_with found f.cookie g.cookie f.answer v) (sym q) ∙ is in
          absurd (cc)

      by : (x : Fid) (f k : Fact) → TellsAttr (tree head c past g) (bound head c past g) x f.answer → k.answer
          ≡ told.Layout (layout (tree head c past g) x)
          → (l : Raid0) × TellsAttr (tree head c past g) (bound head c past g) x
          (told.FileStat x (attributes (tree head c past g) (File x)).mode (attributes (tree head c past g) (File x)).links l)
          → file_facts (found_at_path N path) (Some f) (Some k) ≡ None → ⊥
      by x f k (inr t) laid m is =
          none_file (found_at_path N path) f k x (attributes (tree head c past g) (File x)).mode
          (attributes (tree head c past g) (File x)).links t.0 (layout (tree head c past g) x) t.1 laid is
      by x f k (inl t) laid (l, inl m) is = let both = m.0 in absurd (cc)
      by x f k (inl t) laid (l, inr m) is =
          let same : Dir x ≡ File x = kinds (Dir x) (File x) (placed_reached (tree head c past g) (bound head c past g) (Dir x) t.1)
          (placed_reached (tree head c past g) (bound head c past g) (File x) m.2) refl in
          absurd (cc)

  -- of a directory that is known no file is noted
  pub directory_alone : (path : List (List ℕ)) (file : KnownFile) → IsKnown N (call.Stat path) → file_known N (found_at_path N path)
      ≡ Some file → ⊥
  directory_alone path file k e =
      let none : None ≡ Some file = ap (λ (o : Option Answer). file_at N (found_at_path N path) o) (sym k.1.0) ∙ e in
      absurd (cc)

-- ---- the file that a stat which stands calm goes on for

abbrev IsNoStat : Call → Type 0
IsNoStat (call.Stat path) = ⊥
IsNoStat _ = Unit {0}

-- a file that is known as it was told
told_some : (n : Notes) (path : List (List ℕ)) (fid : Fid) (layout : Raid0) → FileKnown n path fid layout → SomeFile n path fid layout
told_some n path fid layout k = (
  k.mode,
  k.links,
  record {
    inode = k.inode;
    leads = led_more (UsedBy n (found_at_path n path).cookies) (Usable n) (λ f u. u.0) path (told.Dir root) (told.File k.inode)
        (led_used n path (told.Dir root) (told.File k.inode) k.leads);
    attr = k.attr;
    attr_is = k.attr_usable;
    attr_part = part_is (part.Attr k.inode) k.attr.part k.attr_on;
    old = k.old;
    attr_tells = k.stats;
    laid = k.lay;
    laid_is = k.lay_usable;
    laid_part = part_is (part.Layout k.inode) k.lay.part k.lay_on;
    laid_tells = k.lays;
  },
)

no_stat : (path : List (List ℕ)) (k : Call) → k ≡ call.Stat path → IsNoStat k → ⊥
no_stat path k e other = subst IsNoStat e other

module _ (head : Head) (c slot : ℕ) where
  -- of the call that stands calm in the slot
  abbrev Going : List Line → Type 0
  Going past = (x : ℕ × Call) → In x (calm (who_is c (printed past)) (printed past)) → x.0 ≡ slot → (r : Running) → call_at c slot past
      ≡ Some r → (path : List (List ℕ)) → r.call ≡ call.Stat path
      → (w : Work) → AtWork r.stage w → SomeFile (bare_at c past) path w.fid w.layout

  -- what it tells, or goes on for
  stat_of : (past : List Line) (at : At) → Grown head past → at.node ≡ Client c → Going past → (x : ℕ × Call)
      → In x (calm (who_is c (printed past)) (printed past)) → x.0 ≡ slot → (r : Running) → call_at c slot past ≡ Some r
      → (pins : List LockName) → (s : StatOf past at c r pins) → SomeFile (bare_at c past) s.path s.fid s.layout
  stat_of past at g own before x i is r there pins s = by s.from
    where
      N : Notes
      N = notes_at c past

      grows : Grows (notes_at c past) (bare_at c past)
      grows = grows_to_bare (facts_at c past) (held_at c past)

      by : KnowsFile past at c r pins s.fid s.mode s.links s.layout
          ⊎ (ToldFile past at c r pins s.path s.fid s.mode s.links s.layout ⊎ GoesOn r pins s.fid s.mode s.links s.layout)
          → SomeFile (bare_at c past) s.path s.fid s.layout
      by (inl k) =
          let known : file_known N (found_at_path N s.path) ≡ Some k.file = ap (known_file N) (sym s.stats) ∙ k.known in
          subst (λ (v : Fid). SomeFile (bare_at c past) s.path v s.layout) (sym k.of_fid)
          (subst (λ (v : Raid0). SomeFile (bare_at c past) s.path k.file.fid v) (sym k.of_layout)
          (some_more N (bare_at c past) grows s.path k.file.fid k.file.layout (
            k.file.mode,
            k.file.links,
            file_more (UsedBy N k.file.cookies) (Usable N) (λ f u. u.0) s.path k.file.fid k.file.mode k.file.links
                k.file.layout (file_used N s.path k.file known),
          )))
      by (inr (inl k)) = some_more N (bare_at c past) grows s.path s.fid s.layout
          (told_some N s.path s.fid s.layout (told_file head past at c slot r pins s.path s.fid s.mode s.links s.layout g own there s.stats
          k))
      by (inr (inr k)) =
          subst (λ (v : Fid). SomeFile (bare_at c past) s.path v s.layout) (sym k.of_fid)
          (subst (λ (v : Raid0). SomeFile (bare_at c past) s.path k.work.fid v) (sym k.of_layout)
          (before x i is r there s.path s.stats k.work k.stage))

  going : (past : List Line) → Grown head past → Going past
  going [] g x i is r there path stats w on = absurd i
  going (l ∷ past) g x i is r there path stats w on = by (λ y j e q h p k v o. going past g.1 y j e q h p k v o)
      (call_cases past l.at.stamp l.at.node l.entry g.0.ok c slot r there)
    where
      -- what was known before the line
      carry : (q : Running) → call_at c slot past ≡ Some q → (In x (calm (who_is c (printed past)) (printed past))
          → SomeFile (bare_at c past) path w.fid w.layout) → SomeFile (bare_at c (l ∷ past)) path w.fid w.layout
      carry q e k =
          some_more (bare_at c past) (bare_at c (l ∷ past)) (notes_grow c past l.at.stamp l.at.node l.entry g.0.ok
          (calm_stays head c l past g x i)) path w.fid w.layout
          (k (calm_before head c slot q l past g e x is i))

      began : Begins c past r → ⊥
      began (inl b) = let q : None ≡ Some w = sym (ap work_in b.1) ∙ on in cc
      began (inr b) = let q : None ≡ Some w = sym (ap work_in b.1) ∙ on in cc

      stood : Going past → (s : Stood past (turn l.at.stamp l.at.node) c slot r) → SomeFile (bare_at c (l ∷ past)) path w.fid w.layout
      stood before s = how s.stands.how
        where
          ok : StandsOk past (turn l.at.stamp l.at.node) c slot r
          ok = s.stands

          stats_so : ok.running.call ≡ call.Stat path
          stats_so = ap (λ (v : Running). v.call) (sym ok.is) ∙ stats

          on_so : AtWork ok.stage w
          on_so = ap work_in (ap (λ (v : Running). v.stage) (sym ok.is)) ∙ on

          no_change : {v : Work} → ChangesOn ok.running v → ⊥
          no_change (inl d) = no_stat path ok.running.call stats_so (subst IsNoStat (sym d.writes) tt)
          no_change (inr d) = no_stat path ok.running.call stats_so (subst IsNoStat (sym d.cuts) tt)

          how : SizesStand past (turn l.at.stamp l.at.node) ok.running ok.stage ok.pins ⊎ LockStand past c ok.running ok.stage
              ⊎ StatStand past (turn l.at.stamp l.at.node) c ok.running ok.stage ok.pins ⊎ GetStand past c ok.running ok.stage ok.pins
              ⊎ FlushStand past c ok.running ok.stage ok.pins ⊎ ((ok.pins ≡ ok.running.pins)
              × MovedStand past (turn l.at.stamp l.at.node) c ok.running ok.stage)
              → SomeFile (bare_at c (l ∷ past)) path w.fid w.layout
          how (inl k) = absurd (no_stat path ok.running.call stats_so (subst IsNoStat (sym k.has.glimpses) tt))
          how (inr (inl k)) = absurd (⊎_elim (λ (d : ReadsOn ok.running k.work). no_stat path ok.running.call stats_so
              (subst IsNoStat (sym d.read.reads) tt)) (λ (d : ChangesOn ok.running k.work). no_change d) k.does)
          how (inr (inr (inl k))) =
              let same : k.work ≡ w = one_work ok.stage k.work w (ap work_in k.is) on_so in
              let one : k.stat.path ≡ path = one_path k.stat.path path (sym k.stat.stats ∙ stats_so) in
              carry ok.running ok.call
              (λ j. subst (λ (v : Work). SomeFile (bare_at c past) path v.fid v.layout) same
              (subst (λ (v : Fid). SomeFile (bare_at c past) path v k.work.layout) (sym k.of_fid)
              (subst (λ (v : Raid0). SomeFile (bare_at c past) path k.stat.fid v) (sym k.of_layout)
              (subst (λ (v : List (List ℕ)). SomeFile (bare_at c past) v k.stat.fid k.stat.layout) one
              (stat_of past (turn l.at.stamp l.at.node) g.1 s.own before x j is ok.running ok.call ok.pins k.stat)))))
          how (inr (inr (inr (inl k)))) = absurd (no_stat path ok.running.call stats_so (subst IsNoStat (sym k.does.read.reads) tt))
          how (inr (inr (inr (inr (inl k))))) = absurd (no_stat path ok.running.call stats_so (subst IsNoStat (sym k.flushes) tt))
          how (inr (inr (inr (inr (inr k))))) =
              carry ok.running ok.call (λ j. before x j is ok.running ok.call path stats_so w
              (sym (moved_work past (turn l.at.stamp l.at.node) c ok.running ok.stage k.1) ∙ on_so))

      by : Going past → Came past (turn l.at.stamp l.at.node) l.at.node l.entry c slot r
          → SomeFile (bare_at c (l ∷ past)) path w.fid w.layout
      by before (inl e) = carry r e (λ j. before x j is r e path stats w on)
      by before (inr (inl b)) = absurd (began b.begins)
      by before (inr (inr (inl t))) = carry t.before t.call (λ j. before x j is t.before t.call path (t.same ∙ stats) w
          (ap work_in t.stage ∙ on))
      by before (inr (inr (inr s))) = stood before s

-- a stat that is told calm is known
pub stat_told : (head : Head) (c slot : ℕ) (past : List Line) (at named : At) (given : Answer) (work : Option Work) → Grown head past
    → at.node ≡ Client c → (ok : StatToldOk past at c slot named given work)
    → (x : ℕ × Call) → In x (calm (who_is c (printed past)) (printed past)) → x.0 ≡ slot → (L : Use → Type 0)
    → ((w : Use) → In w (wants_rest ok.stat.layout ok.stat.fid 0 (stripes ok.stat.layout)) → L w)
    → StatKnown (bare_at c past) L ok.running.call
stat_told head c slot past at named given work g own ok x i is L locked =
    subst (StatKnown (bare_at c past) L) (sym ok.stat.stats)
    (record {
      fid = ok.stat.fid;
      layout = ok.stat.layout;
      file = stat_of head c slot past at g own (going head c slot past g) x i is ok.running ok.call ok.pins ok.stat;
      locked = locked;
    })

-- ---- one that is known as it begins, while none of those locks is marked, asks for nothing

module _ (head : Head) (c : ℕ) (past : List Line) (g : Grown head past) where
  pub stat_asks_none : (L : Use → Type 0) (k : Call) → StatKnown (notes_at c past) L k → known_file (notes_at c past) k ≡ None → ⊥
  stat_asks_none L (call.Stat path) k none = file_there head c past g path k.fid k.layout k.file none
  stat_asks_none L k h none = h

  -- nor does it wait for a lock
  pub stat_waits_none : (at : At) (r : Running) (stage : Stage) (pins : List LockName) (R : Call → Type 0) (L : Use → Type 0)
      → ((w : Use) → ToRead w → L w → serving w (held_at c past) ≡ None → ⊥) → r.stage ≡ Plain → r.asking ≡ Unasked
      → KnownBy (notes_at c past) R L r.call → StatStand past at c r stage pins → ⊥
  stat_waits_none at r stage pins R L serves plain new known k = by k.stat.from
    where
      N : Notes
      N = notes_at c past

      S : StatOf past at c r pins
      S = k.stat

      of_stat : KnownBy N R L (call.Stat S.path)
      of_stat = subst (KnownBy N R L) S.stats known

      came : (from : ℕ) (reply : ReplyTo) → r.asking ≡ Answered from reply → ⊥
      came from reply e = let both : Unasked ≡ Answered from reply = sym new ∙ e in cc

      begun : (file : KnownFile) → file_known N (found_at_path N S.path) ≡ Some file → S.fid ≡ file.fid → S.layout ≡ file.layout → ⊥
      begun file e fid layout = ⊎_elim
          (λ (h : IsKnown N (call.Stat S.path) × R (call.Stat S.path)). directory_alone head c past g S.path file h.0 e)
          (λ (h : StatBy N L S.path). waits h)
          of_stat
        where
          waits : (h : StatBy N L S.path) → ⊥
          waits h =
              let q = k.lacks in
              let one = file_one head c past g S.path h.fid h.layout file h.file e in
              let wanted : In q.wanted (wants_rest k.work.layout k.work.fid 0 (stripes k.work.layout)) =
              subst (λ (v : Kind). In q.wanted (wants_of k.work.layout k.work.fid v)) k.kind (lacks_in past c (wanted_by k.work) k.work q)
              in
              let among : In q.wanted (wants_rest h.layout h.fid 0 (stripes h.layout)) =
              subst (λ (v : Fid). In q.wanted (wants_rest h.layout v 0 (stripes h.layout))) (k.of_fid ∙ fid ∙ sym one.0)
              (subst (λ (v : Raid0). In q.wanted (wants_rest v k.work.fid 0 (stripes v))) (k.of_layout ∙ layout ∙ sym one.1) wanted) in
              serves q.wanted (rest_with h.layout h.fid 0 (stripes h.layout) q.wanted among).0 (h.locked q.wanted among) q.lacks

      by : KnowsFile past at c r pins S.fid S.mode S.links S.layout
          ⊎ (ToldFile past at c r pins S.path S.fid S.mode S.links S.layout ⊎ GoesOn r pins S.fid S.mode S.links S.layout) → ⊥
      by (inl q) = begun q.file (ap (known_file N) (sym S.stats) ∙ q.known) q.of_fid q.of_layout
      by (inr (inl q)) = came q.target q.reply q.answered
      by (inr (inr q)) = let n : None ≡ Some q.work = sym (ap work_in plain) ∙ q.stage in absurd (cc)
