-- The law of history: with the lost transactions taken out, the plain machine answers what clients were told, of names and of bytes; it
-- refuses no
-- transaction that stands; and what reaches an object comes from what its life did to the file. A glimpse is no item, nor is it told as one
-- that a
-- handle is bad or a life over.
use Rattle.std.proofs.Common.{◌≡◌, ℕ, zero, suc, Bool, true, false, List, [], ◌∷◌, ◌⊎◌, Option, Some, None, inl, inr, ⊎_elim, refl, sym}
use Rattle.std.proofs.Common.{subst, ap, ◌∙◌}
use Rattle.lu_base.specs.declared.ids.At.{At}
use Rattle.lu_base.specs.declared.ids.Node.{Node}
use Rattle.lu_base.specs.declared.ids.Node.TheVariants.{Client, Target}
use Rattle.lu_base.specs.declared.ids.Stamp.{Stamp}
use Rattle.lu_base.specs.declared.ids.Who.{Who}
use Rattle.lu_msg.specs.declared.answers.Answer.{Answer}
use Rattle.lu_msg.specs.declared.answers.Answer.TheVariants as told
use Rattle.lu_msg.specs.declared.answers.Errno.{Errno}
use Rattle.lu_msg.specs.declared.answers.Errno.TheVariants.{EIO}
use Rattle.lu_msg.specs.declared.calls.Call.{Call}
use Rattle.lu_msg.specs.declared.calls.Call.TheVariants as call
use Rattle.lu_msg.specs.declared.operations.Op.TheVariants as op
use Rattle.lu_trace.specs.declared.entries.Line.{Line as PrintedLine}
use Rattle.lu_spec_machine.specs.declared.acts.Act.{Act as ActOf}
use Rattle.lu_spec_machine.specs.Footprint.{Operation, answer}
use Rattle.lu_spec_machine.specs.Machine.{Machine, data_answer}
use Rattle.lu_spec_machine.specs.Tree.{Tree}
use Rattle.lu_spec_machine.proofs.Stated.{refusals_stay}
use Rattle.lu_spec_entries.specs.Carried.{Deed, HandleFile, Work, Bad, Running}
use Rattle.lu_spec_entries.specs.Words.{Entry, Told, Txn as Made, Line, line}
use Rattle.lu_spec_entries.specs.Concerns.{only}
use Rattle.lu_spec_entries.specs.Printed.{printed}
use Rattle.lu_proof_lawful.specs.Covered.Calls.{life_at, call_at, operation_of}
use Rattle.lu_proof_lawful.specs.Covered.TargetParts.{operation}
use Rattle.lu_proof_lawful.specs.Covered.TargetStates.{server_at, server_of, tree_at}
use Rattle.lu_proof_lawful.specs.Covered.Heads.{Head}
use Rattle.lu_spec_laws.specs.Words.Pasts.{same_turn}
use Rattle.lu_spec_laws.specs.Words.Lives.{who_is}
use Rattle.lu_spec_laws.specs.Words.Requests.{asked}
use Rattle.lu_spec_laws.specs.Words.Calls.{Begun, open_call}
use Rattle.lu_spec_laws.specs.Words.Histories.{none, names_act, is_answer, is_counted, machine_of, answer_to}
use Rattle.lu_spec_laws.specs.Holds.{Holds, HoldsBefore}
use Rattle.lu_spec_laws.specs.Laws.History.{is_accepted, right_answer, ToldOn, ToldAt, HistoryOf}
use Rattle.lu_spec_laws.specs.Laws.History as law
use Rattle.lu_proof_lawful.specs.Fits.{AllStand, SeenStand, Fits}
use Rattle.lu_proof_lawful.proofs.Preconditions.Guards.{IsChange, FlushedOk, ReadToldOk, StatToldOk, WroteOk, TellsOk}
use Rattle.lu_proof_lawful.proofs.Preconditions.Grown.{Allowed, Grown}
use Rattle.lu_proof_lawful.proofs.Preconditions.Parts.{tree_is}
use Rattle.lu_proof_lawful.proofs.Invariants.Groups.{turn}
use Rattle.lu_proof_lawful.proofs.Invariants.TargetGroups.{Acted}
use Rattle.lu_proof_lawful.proofs.Invariants.Layouts.{TellsBy, table_tells}
use Rattle.lu_proof_lawful.proofs.Invariants.OnNames.{IsPlain, told_so}
use Rattle.lu_proof_lawful.proofs.Invariants.Refused.{acted_plain}
use Rattle.lu_proof_lawful.proofs.Invariants.StatFacts.{stat_right}
use Rattle.lu_proof_lawful.proofs.Refinement.OneLayout.{CreatedWith, created_named, is_layout}
use Rattle.lu_proof_lawful.proofs.Laws.Agrees.{OutAs, OfRun, earlier}
use Rattle.lu_proof_lawful.proofs.Laws.CloseLines.{nothing_left}
use Rattle.lu_proof_lawful.proofs.Laws.Deeds.{TxnIs, txn_is, txn_for}
use Rattle.lu_proof_lawful.proofs.Laws.Facts.{AskedAt, AllAsked}
use Rattle.lu_proof_lawful.proofs.Laws.HistoryNames.{fits_before, txn_answers, present, reads_law, asked_law, knew_law}
use Rattle.lu_proof_lawful.proofs.Laws.HistoryReads.{quiet, read_told, stat_told}
use Rattle.lu_proof_lawful.proofs.Laws.LifeNumbers.{who_of, who_back}
use Rattle.lu_proof_lawful.proofs.Laws.Lines.{Keeps, holds_before}
use Rattle.lu_proof_lawful.proofs.Laws.MachineBytes.{IsStill}
use Rattle.lu_proof_lawful.proofs.Laws.PiecesLaw.{piece_law}
use Rattle.lu_proof_lawful.proofs.Laws.Printed.{present_is, open_is}
use Rattle.lu_proof_lawful.proofs.Laws.Telling.{own_turn, known_act, file_act, flush_good, changed_call}
use Rattle.lu_proof_lawful.proofs.Laws.ToldLaw.{told_tells}
use Rattle.lu_proof_lawful.proofs.Laws.Untold.{IsPart}

module _ (head : Head) (out : Who → Bool) (lost : ℕ → ℕ → Bool) where
  abbrev machine : List Line → Machine
  machine past = machine_of out lost head.osts (printed past)

  -- the lives of a story's numbers
  outs : ℕ → Bool
  outs n = out (who_of n)

  of : OutAs out outs
  unfolding outs
  of who = ap out (who_back who)

  module _ (past : List Line) (stamp : Stamp) (c slot : ℕ) (named : At) (given : Answer) (work : Option Work)
      (k : OfRun head (line (turn stamp (Client c)) (Told slot named given work) ∷ past)) (f : Fits head.osts out lost past)
      (stays : out (who_is c (printed past)) ≡ false) where
    Right : Type 0
    Right = right_answer out lost head.osts (printed past) (turn stamp (Client c)) c slot named (same_turn named (turn stamp (Client c)))
        ≡ Some given

    abbrev g : Grown head past
    g = k.grown.1

    abbrev life_stays : out (life_at c past) ≡ false
    life_stays = ap out (sym (present_is head c past g)) ∙ stays

    -- a call on the bytes of its file
    file_right : (r : Running) (file : HandleFile) → named ≡ turn stamp (Client c) → call_at c slot past ≡ Some r → IsStill r.call
        ⊎ IsChange r.call → (r.stage ≡ Bad → ⊥) → r.file ≡ Some file → data_answer (machine past) file.fid r.call ≡ given
        → right_answer out lost head.osts (printed past) (turn stamp (Client c)) c slot named (same_turn named (turn stamp (Client c)))
        ≡ Some given
    file_right r file own is on good of_file answers =
        subst (λ b. right_answer out lost head.osts (printed past) (turn stamp (Client c)) c slot named b ≡ Some given)
        (sym (own_turn named (turn stamp (Client c)) own))
        (ap (λ (i : Option ActOf). answer_to head.osts (machine past) i) (file_act head past c slot r file g is on good of_file)
        ∙ ap (λ (v : Answer). Some v) answers)

    flush_right : FlushedOk past (turn stamp (Client c)) c slot named given work
        → right_answer out lost head.osts (printed past) (turn stamp (Client c)) c slot named (same_turn named (turn stamp (Client c)))
        ≡ Some given
    flush_right w =
        file_right w.running w.file w.of_turn w.call (inl (subst IsStill (sym w.flushes) tt))
        (flush_good (turn stamp (Client c)) w.running w.from w.goes) w.of_file
        (ap (data_answer (machine past) w.file.fid) w.flushes ∙ sym w.of_answer)

    -- a write or a cut is done
    wrote_right : WroteOk past (turn stamp (Client c)) c slot named given work
        → right_answer out lost head.osts (printed past) (turn stamp (Client c)) c slot named (same_turn named (turn stamp (Client c)))
        ≡ Some given
    wrote_right w =
        let m = changed_call w.running w.done w.does in
        file_right w.running m.0 w.of_turn w.call (inr m.5) m.4 m.1 (done w.running.call m.5 ∙ sym w.of_answer)
      where
        done : (x : Call) → IsChange x → data_answer (machine past) (changed_call w.running w.done w.does).0.fid x ≡ told.Done
        done (call.Write h offset bytes) is = refl
        done (call.Cut h size) is = refl
        done x is = absurd is

    -- what tells another answer isn't the last line of such a call
    other_than : (w : Work) → work ≡ Some w → (given ≡ told.Done → ⊥) → IsPart (Told slot named given work) → ⊥
    other_than w e no_done p = no_done (subst (λ (v : Option Work). IsPart (Told slot named given v)) e p)

    read_right : ReadToldOk past (turn stamp (Client c)) c slot named given work
        → right_answer out lost head.osts (printed past) (turn stamp (Client c)) c slot named (same_turn named (turn stamp (Client c)))
        ≡ Some given
    read_right w =
        file_right w.running w.does.read.file w.of_turn w.call (inl (subst IsStill (sym w.does.read.reads) tt)) w.does.read.good
        w.does.read.of_file
        (read_told head out lost outs of past stamp c slot named given work k f life_stays w
        (other_than w.done w.of_work (λ done. ⊎_elim (λ t. let e : told.Done ≡ told.Content _ = sym done ∙ t.2 in cc)
        (λ t. let e : told.Done ≡ told.Content _ = sym done ∙ t.1 in cc) w.tells.1)))

    stat_law : StatToldOk past (turn stamp (Client c)) c slot named given work
        → right_answer out lost head.osts (printed past) (turn stamp (Client c)) c slot named (same_turn named (turn stamp (Client c)))
        ≡ Some given
    stat_law w =
        let o : Operation = record { number = none; who = who_is c (printed past); op = op.Stat w.stat.path } in
        let r = stat_right head past stamp c slot w.running w.pins g k.pins.1 w.call w.stat none (who_is c (printed past))
        (present head out lost past c g f (quiet head out lost outs of past stamp c slot named given work k f life_stays 0) stays) in
        let made = created r.same in
        subst (λ b. right_answer out lost head.osts (printed past) (turn stamp (Client c)) c slot named b ≡ Some given)
        (sym (own_turn named (turn stamp (Client c)) w.of_turn))
        (ap (λ (i : Option ActOf). answer_to head.osts (machine past) i)
        (known_act head past c slot w.running (op.Stat w.stat.path) g w.call (ap (operation_of w.running.file) w.stat.stats))
        ∙ ap (λ (v : Answer). Some v) (reads_law head out lost past c o (told.FileStat w.stat.fid w.stat.mode w.stat.links w.stat.layout) g
        (earlier head (line (turn stamp (Client c)) (Told slot named given work)) past k).asked f stays tt r.same r.saw
        ∙ stat_told head out lost outs of past stamp c slot named given work k f life_stays w
        (other_than w.done w.of_work (λ done. let e : told.Done ≡ told.FileSize w.stat.fid w.stat.mode w.stat.links _ = sym done
        ∙ w.of_answer in cc)) made (is_layout head (only 0 past) w.stat.fid w.stat.layout k.ranges made)))
      where
        -- the tree tells the layout that the file's create gave it
        created : told.FileStat w.stat.fid w.stat.mode w.stat.links w.stat.layout
            ≡ answer head.osts (tree_at head.osts 0 past) (record
            { number = none; who = who_is c (printed past); op = op.Stat w.stat.path })
            → CreatedWith head.osts (only 0 past) w.stat.fid w.stat.layout
        created is = subst (TellsBy (CreatedWith head.osts (only 0 past))) (sym is)
            (subst (λ (t : Tree). TellsBy (CreatedWith head.osts (only 0 past))
            (answer head.osts t (record { number = none; who = who_is c (printed past); op = op.Stat w.stat.path })))
            (sym (tree_is head.osts 0 past))
            (table_tells (CreatedWith head.osts (only 0 past)) head.osts (server_of head.osts (only 0 past)).tree none
            (who_is c (printed past)) (op.Stat w.stat.path) (λ f named. created_named head past k.ranges g f named) tt))

  -- ---- the law, line by line

  told_law : (past : List Line) (stamp : Stamp) (c slot : ℕ) (named : At) (given : Answer) (work : Option Work)
      → OfRun head (line (turn stamp (Client c)) (Told slot named given work) ∷ past) → Fits head.osts out lost past
      → TellsOk past (turn stamp (Client c)) c slot named given work
      → ToldAt out lost head.osts (printed past) (turn stamp (Client c)) (Client c) slot named given
  told_law past stamp c slot named given work k f tells stays counted = by tells
    where
      grown : Grown head past
      grown = k.grown.1

      right_one : Type 0
      right_one = right_answer out lost head.osts (printed past) (turn stamp (Client c)) c slot named
          (same_turn named (turn stamp (Client c))) ≡ Some given

      on : (o : Option Begun) → right_answer out lost head.osts (printed past) (turn stamp (Client c)) c slot named
          (same_turn named (turn stamp (Client c))) ≡ Some given
          → ToldOn out lost head.osts (printed past) (turn stamp (Client c)) c slot o named given
      on None is = tt
      on (Some begun) is = λ counts. is

      begun_is : (x y : Begun) → Some x ≡ Some y → x ≡ y
      begun_is x y e = cc

      -- a glimpse isn't counted
      glimpse_on : (o : Option Begun) (b : Begun) (handle : ℕ) → o ≡ Some b → b.call ≡ call.Glimpse handle
          → ToldOn out lost head.osts (printed past) (turn stamp (Client c)) c slot o named given
      glimpse_on None b handle e is = absurd (cc)
      glimpse_on (Some begun) b handle e is = λ counts. let none : is_counted begun.call ≡ false =
          ap is_counted (ap (λ (v : Begun). v.call) (begun_is begun b e) ∙ is) in absurd (cc)

      -- that a life is over is no answer of the history
      uncounted : given ≡ told.Refused EIO → ⊥
      uncounted e = let none : is_answer given ≡ false = ap is_answer e in absurd (cc)

      by : TellsOk past (turn stamp (Client c)) c slot named given work
          → ToldOn out lost head.osts (printed past) (turn stamp (Client c)) c slot (open_call c slot (printed past)) named given
      by (inl t) = on (open_call c slot (printed past)) (asked_law head out lost past stamp c slot named given grown
          (earlier head (line (turn stamp (Client c)) (Told slot named given work)) past k).asked f
          (told_tells head past stamp c slot named given work k.grown.0.steps t grown) stays)
      by (inr (inl t)) = on (open_call c slot (printed past)) (knew_law head out lost past stamp c slot named given work grown
          (earlier head (line (turn stamp (Client c)) (Told slot named given work)) past k).asked f
          (nothing_left head (only 0 past) (turn stamp (Client c)) (Told slot named given work) (k.grown.0.shows 0 refl) (λ e. e)) t stays)
      by (inr (inr (inl t))) = absurd (uncounted t.of_answer)
      by (inr (inr (inr (inl t)))) = let none : is_answer given ≡ false = ap is_answer t.of_answer in absurd (cc)
      by (inr (inr (inr (inr (inl t))))) = let b = open_is head c slot past t.running grown t.call
          in glimpse_on (open_call c slot (printed past)) b.0 t.has.handle b.1 (b.3 ∙ t.has.glimpses)
      by (inr (inr (inr (inr (inr (inl t)))))) = on (open_call c slot (printed past))
          (flush_right past stamp c slot named given work k f stays t)
      by (inr (inr (inr (inr (inr (inr (inl t))))))) = on (open_call c slot (printed past))
          (read_right past stamp c slot named given work k f stays t)
      by (inr (inr (inr (inr (inr (inr (inr (inl t)))))))) = on (open_call c slot (printed past))
          (stat_law past stamp c slot named given work k f stays t)
      by (inr (inr (inr (inr (inr (inr (inr (inr t)))))))) = on (open_call c slot (printed past))
          (wrote_right past stamp c slot named given work k f stays t)

  -- what stands isn't refused
  txn_law : (past : List Line) (at : At) (d : Deed) → Grown head past → AllAsked past → Fits head.osts out lost past
      → TxnIs head.osts (server_at head.osts 0 past) at d → AskedAt 0 past d → IsPlain d.reply.answer
      → (lost 0 d.reply.txn.0 ≡ false → AllStand (lost 0) d.reply.seen)
      → law.TxnAt out lost head.osts (printed past) 0 d.reply.txn d.reply.who d.reply.xid.0
  txn_law past at d g a f is asks plain s stands =
      let same = txn_answers head out lost past at d g a f is plain (s stands) in
      subst (λ o. is_accepted (answer_to head.osts (machine past) (names_act d.reply.who d.reply.txn o)) ≡ true) (sym asks)
      (ap (λ (v : Answer). is_accepted (Some v)) (same ∙ ap told_so is.answered)
      ∙ accepted (answer head.osts (tree_at head.osts 0 past) (operation d))
      (λ e r. let still = (refusals_stay head.osts (tree_at head.osts 0 past) (operation d) e r).0 in let moves = is.moves
      in absurd (cc)))
    where
      accepted : (x : Answer) → ((e : Errno) → x ≡ told.Refused e → ⊥) → is_accepted (Some (told_so x)) ≡ true
      accepted (told.Refused e) never = absurd (never e refl)
      accepted _ never = refl

  -- what is known of a past
  abbrev Known : List Line → Type 0
  Known past = OfRun head past × Fits head.osts out lost past

  known_before : (l : Line) (past : List Line) → Known (l ∷ past) → Known past
  known_before l past k = (earlier head l past k.0, fits_before head.osts out lost l past k.1)

  history_at : (past : List Line) (l : Line) (later : List PrintedLine) → Allowed head past l.at l.entry → Grown head past
      → Known (l ∷ past) → Keeps (HistoryOf out lost head.osts) past l later
  history_at past l later ok g known = by l.at.node l.entry ok known.0 (λ b i. acted_plain head (l ∷ past) b (ok, g) i) known.1.seen
    where
      fits : Fits head.osts out lost past
      fits = fits_before head.osts out lost l past known.1

      by : (node : Node) (e : Entry) → Allowed head past (turn l.at.stamp node) e → OfRun head (line (turn l.at.stamp node) e ∷ past)
          → ((b : Deed) → Acted (line (turn l.at.stamp node) e ∷ past) b → b.reply.locks ≡ [] → IsPlain b.reply.answer)
          → SeenStand lost (line (turn l.at.stamp node) e ∷ past)
          → Keeps (HistoryOf out lost head.osts) past (line (turn l.at.stamp node) e) later
      by (Client c) (Told slot named given work) k run plain s = told_law past l.at.stamp c slot named given work run fits k.ok
      by (Target u) (Told slot named given work) k run plain s = absurd k.ok
      by (Client c) (Made d) k run plain s = absurd k.ok
      by (Target zero) (Made d) k run plain s =
          txn_law past (turn l.at.stamp (Target 0)) d g run.asked.1 fits (txn_is head past l.at.stamp d k) (run.asked.0 0 refl)
          (plain d (inl refl) (txn_for head past l.at.stamp 0 d k).bare) s.0
      by (Target (suc u)) (Made d) k run plain s = piece_law head past l.at.stamp u d run
      by _ _ k run plain s = tt

  -- whatever lines come later
  pub history_before : (past : List Line) (later : List PrintedLine) → Fits head.osts out lost past → OfRun head past
      → HoldsBefore (HistoryOf out lost head.osts) later (printed past)
  history_before past later f k =
      holds_before head (HistoryOf out lost head.osts) Known known_before history_at past later k.grown (k, f)

  pub history_law : (past : List Line) → Fits head.osts out lost past → OfRun head past
      → Holds (HistoryOf out lost head.osts) (printed past)
  history_law past f k = history_before past [] f k
