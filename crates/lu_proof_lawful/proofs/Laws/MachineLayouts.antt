-- The layout of a file that a life which isn't out opened is that of the plain machine's file, from there on: the open's answer came out of
-- the
-- machine as it came out of the target, and no file is created again.
use Rattle.std.proofs.Common.{◌≡◌, ℕ, ℤ, zero, suc, Bool, true, false, List, [], ◌∷◌, Option, Some, None, ◌⊎◌, inl, inr, ⊎_elim, refl, sym}
use Rattle.std.proofs.Common.{subst, ap, ◌∙◌, arith}
use Rattle.std.specs.Prelude.{if◌then◌else◌}
use Rattle.std.proofs.lemmas.Bool.{cond_both}
use Rattle.lu_base.specs.declared.ids.At.{At}
use Rattle.lu_base.specs.declared.ids.Fid.{Fid}
use Rattle.lu_base.specs.declared.ids.Node.{Node}
use Rattle.lu_base.specs.declared.ids.Node.TheVariants.{Client, Target}
use Rattle.lu_base.specs.declared.ids.Txn.{Txn as TxnOf}
use Rattle.lu_base.specs.declared.ids.Who.{Who}
use Rattle.lu_layout.specs.Raid0.{Raid0}
use Rattle.lu_layout.specs.Sound.{IsLayout}
use Rattle.lu_msg.specs.declared.answers.Answer.{Answer}
use Rattle.lu_msg.specs.declared.answers.Answer.TheVariants as told
use Rattle.lu_msg.specs.declared.messages.Reply.{Reply as ReplyTo}
use Rattle.lu_msg.specs.declared.operations.Op.{Op}
use Rattle.lu_msg.specs.declared.operations.Op.TheVariants as op
use Rattle.lu_spec_machine.specs.declared.acts.Act.{Act as ActOf}
use Rattle.lu_spec_machine.specs.Footprint.{Operation, touches, after, answer}
use Rattle.lu_spec_machine.specs.Machine.{Machine, is_stale}
use Rattle.lu_spec_machine.specs.Striping.{new_layout}
use Rattle.lu_spec_machine.specs.Table.{made_by}
use Rattle.lu_spec_machine.specs.Tree.{Tree, layout}
use Rattle.lu_spec_entries.specs.Carried.{Deed, HandleFile, Running}
use Rattle.lu_spec_entries.specs.Words.{Entry, Told, Act, Txn as Made, Grant, Wait, Answers as Responds, Line, line}
use Rattle.lu_spec_entries.specs.Concerns.{only}
use Rattle.lu_spec_entries.specs.Printed.{printed}
use Rattle.lu_proof_lawful.specs.Covered.Calls.{call_at}
use Rattle.lu_proof_lawful.specs.Covered.TargetParts.{operation}
use Rattle.lu_proof_lawful.specs.Covered.TargetStates.{seen_in, tree_at, log_at}
use Rattle.lu_proof_lawful.specs.Covered.Heads.{Head, IsHead}
use Rattle.lu_spec_laws.specs.Words.Lives.{who_is}
use Rattle.lu_spec_laws.specs.Words.Requests.{asked}
use Rattle.lu_spec_laws.specs.Words.Histories.{names_act, told_item, after_item, machine_of}
use Rattle.lu_proof_lawful.specs.Fits.{AllStand, Fits, ReplyStands}
use Rattle.lu_proof_lawful.proofs.Preconditions.Grown.{Allowed, Grown}
use Rattle.lu_proof_lawful.proofs.Invariants.Groups.{turn}
use Rattle.lu_proof_lawful.proofs.Invariants.TargetGroups.{Acted, IsMade}
use Rattle.lu_proof_lawful.proofs.Invariants.Asked.{acted_on_names}
use Rattle.lu_proof_lawful.proofs.Invariants.FirstDeeds.{acted_either}
use Rattle.lu_proof_lawful.proofs.Invariants.ObjectAnswers.{IsObjectAnswer, OfObject}
use Rattle.lu_proof_lawful.proofs.Invariants.OnNames.{IsOnNames}
use Rattle.lu_proof_lawful.proofs.Invariants.Known.{heard_answered}
use Rattle.lu_proof_lawful.proofs.Invariants.Layouts.{TellsBy, laid_after, table_tells}
use Rattle.lu_proof_lawful.proofs.Invariants.Lines.{acted_whole}
use Rattle.lu_proof_lawful.proofs.Invariants.Sides.{first_at}
use Rattle.lu_proof_lawful.proofs.Preconditions.Only.{grown_of}
use Rattle.lu_proof_lawful.proofs.Refinement.OneLayout.{CreatedWith, told_once, one_layout, is_layout}
use Rattle.lu_proof_lawful.proofs.Laws.Contents.{number_is, asked_before}
use Rattle.lu_proof_lawful.proofs.Laws.Deeds.{txn_is}
use Rattle.lu_proof_lawful.proofs.Laws.Facts.{AllAsked}
use Rattle.lu_proof_lawful.proofs.Laws.HistoryNames.{fits_before, act_here, txn_here, alike}
use Rattle.lu_proof_lawful.proofs.Laws.Once.{act_now, txn_now, granted_first, wait_high, responds_high}
use Rattle.lu_proof_lawful.proofs.Refinement.OpenedHandles.{file_opened}
use Rattle.lu_proof_lawful.proofs.Laws.Printed.{present_is}
use Rattle.lu_proof_lawful.proofs.Laws.Telling.{told_adds, told_leaves, object_leaves}
use Rattle.lu_proof_lawful.proofs.Laws.ToldLaw.{heard_stands, same_stands}

module _ (head : Head) (out : Who → Bool) (lost : ℕ → ℕ → Bool) (heads : IsHead head) where
  abbrev machine : List Line → Machine
  machine past = machine_of out lost head.osts (printed past)

  -- what the machine answers tells its own layouts
  own_tells : (m : Machine) (o : Operation) (f : Fid) (n : TxnOf) (l : Raid0) → IsOnNames o.op → answer head.osts m.tree o
      ≡ told.OpenFile f n l → layout m.tree f ≡ l
  own_tells m o f n l names e = sym (subst (TellsBy (λ g k. k ≡ layout m.tree g)) e
      (table_tells (λ g k. k ≡ layout m.tree g) head.osts m.tree o.number o.who o.op (λ g named. refl) names))

  -- the file's layout, once the machine has it, stays: each create makes a file of its own number
  layout_made : (past : List Line) (at : At) (d : Deed) (f : Fid) (l : Raid0) → at.node ≡ Target 0 → Grown head (line at (Made d) ∷ past)
      → CreatedWith head.osts (only 0 (line at (Made d) ∷ past)) f l → IsMade d
      → layout (machine past).tree f ≡ l → layout (after_item head.osts (machine past) (names_act d.reply.who d.reply.txn (Some d.op))).tree
      f ≡ l
  layout_made past at d f l here g created made is = by (is_stale head.osts (machine past) (operation d))
    where
      story : List Line
      story = only 0 (line at (Made d) ∷ past)

      Is : Fid → Raid0 → Type 0
      Is h k = h ≡ f → k ≡ l

      new : (path : List (List ℕ)) (size : ℕ) (count : ℤ) (k : Raid0) → d.op ≡ op.Create path size count
          → new_layout head.osts d.reply.txn size count ≡ Some k → Is (made_by d.reply.txn) k
      new path size count k creates gives same =
          one_layout head (line at (Made d) ∷ past) f k l g
          (record {
            deed = d;
            acted = acted_here;
            made = made;
            path = path;
            size = size;
            count = count;
            creates = creates;
            is_file = same;
            is = gives;
          })
          created
        where
          acted_here : Acted (only 0 (line at (Made d) ∷ past)) d
          acted_here = subst (λ (n : Node). Acted (only 0 (line (turn at.stamp n) (Made d) ∷ past)) d) (sym here) (inl refl)

      by : (b : Bool) → layout (if b then (machine past).tree else after head.osts (machine past).tree (operation d)) f ≡ l
      by true = is
      by false = laid_after Is head.osts (machine past).tree (operation d) new (λ h same. ap (layout (machine past).tree) same ∙ is) f refl

  -- over any line
  layout_stays : (l0 : Line) (past : List Line) (f : Fid) (l : Raid0) → Grown head (l0 ∷ past) → AllAsked (l0 ∷ past)
      → CreatedWith head.osts (only 0 (l0 ∷ past)) f l → layout (machine past).tree f ≡ l → layout (machine (l0 ∷ past)).tree f ≡ l
  layout_stays l0 past f l g a created is = by l0.at.node l0.entry g.0 a created
    where
      by : (node : Node) (e : Entry) → Allowed head past (turn l0.at.stamp node) e → AllAsked (line (turn l0.at.stamp node) e ∷ past)
          → CreatedWith head.osts (only 0 (line (turn l0.at.stamp node) e ∷ past)) f l
          → layout (machine (line (turn l0.at.stamp node) e ∷ past)).tree f ≡ l
      by (Client c) (Made d) k a created = absurd k.ok
      by (Target zero) (Made d) k a created =
          let n = number_is head past (turn l0.at.stamp (Target 0)) d g.1 (txn_is head past l0.at.stamp d k) in
          cond_both (lost 0 d.reply.txn.0) None (names_act d.reply.who d.reply.txn (asked (printed past) 0 d.reply.who d.reply.xid.0))
          (λ (i : Option ActOf). layout (after_item head.osts (machine past) i).tree f ≡ l)
          (λ _. is)
          (λ _. subst (λ (o : Option Op). layout (after_item head.osts (machine past) (names_act d.reply.who d.reply.txn o)).tree f ≡ l)
          (sym (a.0 0 refl))
          (layout_made past (turn l0.at.stamp (Target 0)) d f l refl (k, g.1) created (omega (arith, n)) is))
      by (Target (suc u)) (Made d) k a created = ap (λ (t : Tree). layout t f)
          (object_leaves head.osts (machine past) out lost u d.reply.txn d.reply.who
          (asked (printed past) (suc u) d.reply.who d.reply.xid.0)).0 ∙ is
      by (Client c) (Told slot named given work) k a created =
          ap (λ (t : Tree). layout t f) (told_leaves head.osts (machine past) (who_is c (printed past))
          (told_item out (printed past) (turn l0.at.stamp (Client c)) (Client c) slot named given)
          (told_adds head out past l0.at.stamp c slot named given work g.1 k.steps k.ok)).0 ∙ is
      by (Target t) (Told slot named given work) k a created = absurd k.ok
      by node e k a created = is

  -- what an open told, whose answer stands
  opened_there : (past : List Line) (d : Deed) (f : Fid) (n : TxnOf) (l : Raid0) → d.reply.at.node ≡ Target 0 → Grown head past
      → AllAsked past → Fits head.osts out lost past → Acted past d → d.reply.answer ≡ told.OpenFile f n l → ReplyStands (lost 0) d.reply
      → layout (machine past).tree f ≡ l
  opened_there [] d f n l first g a t acted is s = absurd acted
  opened_there (l0 ∷ past) d f n l first g a t acted is s = layout_stays l0 past f l g a created
      (by l0.entry g.0 a acted (λ b. opened_there past d f n l first g.1 (asked_before l0 past a) (fits_before head.osts out lost l0 past t)
      b is s))
    where
      fits : Fits head.osts out lost past
      fits = fits_before head.osts out lost l0 past t

      created : CreatedWith head.osts (only 0 (l0 ∷ past)) f l
      created = subst (TellsBy (CreatedWith head.osts (only 0 (l0 ∷ past)))) is (told_once head (l0 ∷ past) d heads g acted)

      node_here : (e : Deed) → e.reply.at ≡ l0.at → e ≡ d → l0.at.node ≡ Target 0
      node_here e now same = ap (λ (v : At). v.node) (sym now) ∙ ap (λ (v : Deed). v.reply.at.node) same ∙ first

      -- it was done for an operation on names
      on_names : (e : Deed) → e ≡ d → IsOnNames e.op
      on_names e same = subst (λ (v : Deed). IsOnNames v.op) (sym same) (⊎_elim
          (λ (b : Acted (only 0 (l0 ∷ past)) d). acted_on_names head (l0 ∷ past) d g b)
          (λ (o : OfObject d). absurd (no_open d.reply.answer o.answer is))
          (acted_either head (l0 ∷ past) d g acted))
        where
          no_open : (x : Answer) → IsObjectAnswer x → x ≡ told.OpenFile f n l → ⊥
          no_open x object e = subst IsObjectAnswer e object

      does : (e : Deed) → IsOnNames e.op → e ≡ d → e.reply.seen
          ≡ seen_in (touches head.osts (tree_at head.osts 0 past) (operation e)) (log_at 0 past) → e.reply.answer
          ≡ answer head.osts (tree_at head.osts 0 past) (operation e) → layout (machine past).tree f ≡ l
      does e names same saw answered =
          let alike_now = alike head out lost past e g.1 (asked_before l0 past a) fits saw
          (subst (λ (v : Deed). AllStand (lost 0) v.reply.seen) (sym same) s.1) in
          own_tells (machine past) (operation e) f n l names (sym alike_now.answer ∙ sym answered ∙ ap (λ (v : Deed). v.reply.answer) same
          ∙ is)

      by : (e : Entry) → Allowed head past l0.at e → AllAsked (line l0.at e ∷ past) → Acted (line l0.at e ∷ past) d
          → (Acted past d → layout (machine past).tree f ≡ l) → layout (machine past).tree f ≡ l
      by (Act e) ok a (inl same) h =
          let here = node_here e (act_now head past l0.at.stamp l0.at.node e ok g.1).turn same in
          let k = act_here head past l0.at.stamp l0.at.node e here ok in
          does e (on_names e same) same k.saw k.answered
      by (Act e) ok a (inr i) h = h i
      by (Made e) ok a (inl same) h =
          let here = node_here e (txn_now head past l0.at.stamp l0.at.node e ok g.1).turn same in
          let k = txn_here head past l0.at.stamp l0.at.node e here ok in
          does e (on_names e same) same k.saw k.answered
      by (Made e) ok a (inr i) h = h i
      by (Grant lock asked') ok a (inl q) h = h (granted_first head past l0.at.stamp l0.at.node lock asked' d ok q g.1 first)
      by (Grant lock asked') ok a (inr i) h = h i
      by (Wait lock e) ok a (inl same) h = absurd (wait_high head past l0.at.stamp l0.at.node lock e ok g.1
          (ap (λ (v : Deed). v.reply.at.node) same ∙ first))
      by (Wait lock e) ok a (inr i) h = h i
      by (Responds e) ok a (inl same) h = absurd (responds_high head past l0.at.stamp l0.at.node e ok g.1
          (ap (λ (v : Deed). v.reply.at.node) same ∙ first))
      by (Responds e) ok a (inr i) h = h i
      by _ ok a b h = h b

  -- the file of a call of a life that isn't out
  pub file_laid : (past : List Line) (c slot : ℕ) (r : Running) (file : HandleFile) → Grown head past → AllAsked past
      → Fits head.osts out lost past → out (who_is c (printed past)) ≡ false → call_at c slot past ≡ Some r → r.file ≡ Some file
      → (layout (machine past).tree file.fid ≡ file.layout) × IsLayout file.layout
      × CreatedWith head.osts (only 0 past) file.fid file.layout
  file_laid past c slot r file g a f stays is of_file =
      let o = file_opened head c slot past r file g is of_file in
      let k = heard_answered head (only 0 past) c o.flight o.reply (grown_of head 0 past g) o.heard in
      let d = k.0 in
      let whose : o.reply.who ≡ who_is c (printed past) = o.who ∙ sym (present_is head c past g) in
      let stands = same_stands (lost 0) d.reply o.reply k.1.is (heard_stands out lost 0 past c o.flight o.reply f.heard o.heard
      (ap out whose ∙ stays)) in
      let answers : d.reply.answer ≡ told.OpenFile file.fid file.number file.layout = ap (λ (v : ReplyTo). v.answer) k.1.is ∙ o.answer in
      let acted = acted_whole 0 past d k.1.acted in
      let created : CreatedWith head.osts (only 0 past) file.fid file.layout =
      subst (TellsBy (CreatedWith head.osts (only 0 past))) answers (told_once head past d heads g acted) in (
        opened_there past d file.fid file.number file.layout (first_at head past d g k.1.acted) g a f acted answers stands,
        is_layout head (only 0 past) file.fid file.layout heads created,
        created,
      )
