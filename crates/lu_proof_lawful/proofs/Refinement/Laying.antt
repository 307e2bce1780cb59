-- The layout through which a call works is one that a create gave: it has its targets by the number of the file.
use Rattle.std.proofs.Common.{◌≡◌, ℕ, ℤ, List, [], ◌∷◌, Some, ◌⊎◌, inl, inr, refl, sym, subst, ap, ◌∙◌}
use Rattle.std.specs.Prelude.{if◌then◌else◌}
use Rattle.std.proofs.lemmas.Bool.{cond_both}
use Rattle.lu_base.specs.declared.ids.Fid.{Fid}
use Rattle.lu_base.specs.declared.ids.Txn.{Txn as TxnOf}
use Rattle.lu_base.specs.declared.ids.Who.{Who}
use Rattle.lu_layout.specs.Raid0.{Raid0}
use Rattle.lu_msg.specs.declared.answers.Answer.{Answer}
use Rattle.lu_msg.specs.declared.answers.Answer.TheVariants as told
use Rattle.lu_msg.specs.declared.calls.Call.TheVariants as call
use Rattle.lu_msg.specs.declared.messages.Reply.{Reply as ReplyTo}
use Rattle.lu_part.specs.declared.parts.Part.{Part}
use Rattle.lu_spec_machine.specs.declared.child.Child.TheVariants.{File}
use Rattle.lu_spec_machine.specs.Table.{made_by}
use Rattle.lu_spec_machine.specs.Tree.{Tree, no_file, attributes, layout}
use Rattle.lu_spec_machine.specs.Striping.{new_layout}
use Rattle.lu_spec_entries.specs.Carried.{HandleFile, Work, Stats, Running}
use Rattle.lu_spec_entries.specs.Words.{Line}
use Rattle.lu_spec_entries.specs.Concerns.{concerns, only}
use Rattle.lu_proof_lawful.specs.Covered.Calls.{call_at, life_at}
use Rattle.lu_proof_lawful.specs.Covered.Heads.{Head}
use Rattle.lu_proof_lawful.specs.Covered.TargetStates.{server_of, evicted_of}
use Rattle.lu_spec_target.specs.Lives.{is_life}
use Rattle.lu_proof_lawful.proofs.Preconditions.Guards.{ReadsOn, ChangesOn, work_in}
use Rattle.lu_proof_lawful.proofs.Preconditions.Grown.{Grown}
use Rattle.lu_proof_lawful.proofs.Preconditions.Only.{grown_of}
use Rattle.lu_proof_lawful.proofs.Preconditions.PinsFit.{PinsFit}
use Rattle.lu_proof_lawful.proofs.Invariants.KnownPaths.{TellsAttr, TellsOf}
use Rattle.lu_proof_lawful.proofs.Invariants.Lines.{acted_whole}
use Rattle.lu_proof_lawful.proofs.Invariants.Known.{heard_answered, held_stands}
use Rattle.lu_proof_lawful.proofs.Invariants.Layouts.{Given, TellsBy, laid_by, acted_tells}
use Rattle.lu_proof_lawful.proofs.Invariants.StatFacts.{held_kept, stat_knows}
use Rattle.lu_proof_lawful.proofs.Invariants.Taught.{bound_of, tree_for}
use Rattle.lu_proof_lawful.proofs.Refinement.OpenedHandles.{file_opened}

-- no layout, or one of a create
abbrev pub LaidIn : ℕ → Fid → Raid0 → Type 0
LaidIn osts f l = (l ≡ no_file.layout) ⊎ ((number : TxnOf) × (size : ℕ) × (count : ℤ) × (made_by number ≡ f)
    × (new_layout osts number size count ≡ Some l))

pub laid_given : (osts : ℕ) (story : List Line) → Given osts story (LaidIn osts)
laid_given osts story = record {
  none = λ f. inl refl;
  new = λ d a made path size count l creates is. inr
      (d.reply.txn, size, count, refl, is);
}

-- ---- the file of a handle

pub file_laid : (head : Head) (past : List Line) → Grown head past → (c slot : ℕ) (r : Running) (file : HandleFile) → call_at c slot past
    ≡ Some r → r.file ≡ Some file → LaidIn head.osts file.fid file.layout
file_laid head past g c slot r file is e =
    let o = file_opened head c slot past r file g is e in
    let k = heard_answered head (only 0 past) c o.flight o.reply (grown_of head 0 past g) o.heard in
    let answer : k.0.reply.answer ≡ told.OpenFile file.fid file.number file.layout = ap (λ (v : ReplyTo). v.answer) k.1.is ∙ o.answer in
    subst (TellsBy (LaidIn head.osts)) answer (acted_tells head past (LaidIn head.osts) k.0 g (laid_given head.osts (only 0 past))
    (acted_whole 0 past k.0 k.1.acted))

laid_as : (osts : ℕ) (work : Work) (file : HandleFile) → work.fid ≡ file.fid → work.layout ≡ file.layout → LaidIn osts file.fid file.layout
    → LaidIn osts work.fid work.layout
laid_as osts work file p q k = subst (λ (f : Fid). LaidIn osts f work.layout) (sym p)
    (subst (λ (l : Raid0). LaidIn osts file.fid l) (sym q) k)

-- so is the work of a read, a write or a cut
pub works_laid : (head : Head) (past : List Line) → Grown head past → (c slot : ℕ) (r : Running) → call_at c slot past ≡ Some r
    → (work : Work) → ReadsOn r work ⊎ ChangesOn r work → LaidIn head.osts work.fid work.layout
works_laid head past g c slot r is work (inl d) = laid_as head.osts work d.read.file d.fid d.layout
    (file_laid head past g c slot r d.read.file is d.read.of_file)
works_laid head past g c slot r is work (inr (inl d)) = laid_as head.osts work d.file d.fid d.layout
    (file_laid head past g c slot r d.file is d.of_file)
works_laid head past g c slot r is work (inr (inr d)) = laid_as head.osts work d.file d.fid d.layout
    (file_laid head past g c slot r d.file is d.of_file)

-- ---- the file of a stat

-- each file in the tree as a life knew it
tree_laid : (head : Head) (past : List Line) → Grown head past → (who : Who) (f : Fid)
    → LaidIn head.osts f (layout (tree_for head.osts who (only 0 past)) f)
tree_laid head [] g who f = inl refl
tree_laid head (l ∷ past) g who f =
    cond_both (concerns 0 l.at.node l.entry) (l ∷ only 0 past) (only 0 past)
    (λ (story : List Line). LaidIn head.osts f (layout (tree_for head.osts who story) f))
    (λ here. cond_both (is_life who (evicted_of (l ∷ only 0 past)))
    (if is_life who (evicted_of (only 0 past)) then tree_for head.osts who (only 0 past) else (server_of head.osts (only 0 past)).tree)
    (server_of head.osts (l ∷ only 0 past)).tree So
    (λ t. cond_both (is_life who (evicted_of (only 0 past))) (tree_for head.osts who (only 0 past)) (server_of head.osts (only 0 past)).tree
    So (λ t. tree_laid head past g.1 who f) (λ t. now past g.1))
    (λ t. subst (λ (story : List Line). So (server_of head.osts story).tree) (ap (λ b. if b then l ∷ only 0 past else only 0 past) here)
    (now (l ∷ past) g)))
    (λ other. tree_laid head past g.1 who f)
  where
    So : Tree → Type 0
    So t = LaidIn head.osts f (layout t f)

    now : (past : List Line) → Grown head past → So (server_of head.osts (only 0 past)).tree
    now past g = laid_by head past (LaidIn head.osts) g (laid_given head.osts (only 0 past)) f

one_file : (t : Tree) (bound mode links : ℕ) (fid inode : Fid) (old : Raid0) (a : Answer) → a ≡ told.FileStat fid mode links old
    → TellsAttr t bound inode a → inode ≡ fid
one_file t bound mode links fid inode old a is (inl p) = let x = sym is ∙ p.0 in absurd (cc)
one_file t bound mode links fid inode old a is (inr p) =
    by (attributes t (File inode)).mode (attributes t (File inode)).links p.0 (sym is ∙ p.1)
  where
    by : (m k : ℕ) (l : Raid0) → told.FileStat fid mode links old ≡ told.FileStat inode m k l → inode ≡ fid
    by m k l e = cc

one_laid : (a b : Raid0) → told.Layout a ≡ told.Layout b → a ≡ b
one_laid a b e = cc

-- a stat that goes on for the size of its file
pub stat_laid : (head : Head) (past : List Line) → Grown head past → PinsFit past → (c slot : ℕ) (r : Running) → call_at c slot past
    ≡ Some r → (path : List (List ℕ)) (work : Work) (mode links : ℕ)
    → r.call ≡ call.Stat path → work_in r.stage ≡ Some work → work.kind ≡ Stats mode links → LaidIn head.osts work.fid work.layout
stat_laid head past g fit c slot r is path work mode links stats at kind =
    let b = stat_knows head past c slot r g fit is path work mode links stats at kind in
    let t = tree_for head.osts (life_at c past) (only 0 past) in
    let bound = bound_of head.osts (only 0 past) in
    let k = held_kept past c slot r r.pins fit is (λ n i. i) b.laid b.laid_is in
    let a = held_kept past c slot r r.pins fit is (λ n i. i) b.attr b.attr_is in
    let laid = held_stands head past c b.laid g k.0.0 k.1.0 k.1.1 k.1.2 k.1.3 in
    let attr = held_stands head past c b.attr g a.0.0 a.1.0 a.1.1 a.1.2 a.1.3 in
    let tells : b.laid.answer ≡ told.Layout (layout t b.inode) =
    subst (λ (p : Part). TellsOf t bound p b.laid.answer) (sym b.laid_part) laid.tells.is in
    let stat : TellsAttr t bound b.inode b.attr.answer = subst (λ (p : Part). TellsOf t bound p b.attr.answer) (sym b.attr_part)
    attr.tells.is in
    let file : b.inode ≡ work.fid = one_file t bound mode links work.fid b.inode b.old b.attr.answer b.attr_tells stat in
    let same : work.layout ≡ layout t b.inode = one_laid work.layout (layout t b.inode) (sym b.laid_tells ∙ tells) in
    subst (λ (f : Fid). LaidIn head.osts f work.layout) file (subst (LaidIn head.osts b.inode) (sym same)
    (tree_laid head past g (life_at c past) b.inode))
