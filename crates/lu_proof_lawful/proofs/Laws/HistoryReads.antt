-- What a read and a stat are told by the plain machine: of a file that its life opened, or stated, with the locks on its objects in use.
use Rattle.std.proofs.Common.{◌≡◌, ℕ, ◌+◌, ◌-◌, ◌<◌, Bool, true, false, List, [], ◌∷◌, length, Option, Some, ◌⊎◌, inl, inr, refl, sym}
use Rattle.std.proofs.Common.{subst, ap, ◌∙◌, arith}
use Rattle.std.specs.Prelude.{map, min, slice_index}
use Rattle.lu_base.specs.declared.ids.At.{At}
use Rattle.lu_base.specs.declared.ids.Fid.{Fid}
use Rattle.lu_base.specs.declared.ids.Node.TheVariants.{Client}
use Rattle.lu_base.specs.declared.ids.Stamp.{Stamp}
use Rattle.lu_base.specs.declared.ids.Who.{Who}
use Rattle.lu_layout.specs.Raid0.{Raid0}
use Rattle.lu_layout.specs.Sound.{IsLayout}
use Rattle.lu_msg.specs.declared.answers.Answer.{Answer}
use Rattle.lu_msg.specs.declared.answers.Answer.TheVariants as told
use Rattle.lu_msg.specs.declared.calls.Call.TheVariants as call
use Rattle.lu_trace.specs.WellFormed.{IsCall}
use Rattle.lu_spec_machine.specs.Bytes.{read, size_of}
use Rattle.lu_spec_machine.specs.Machine.{Machine, bytes_of, data_answer}
use Rattle.lu_spec_machine.specs.Tree.{layout}
use Rattle.lu_spec_entries.specs.Carried.{Narrow, Wide, Work, Running}
use Rattle.lu_spec_entries.specs.declared.uses.Using.{Using}
use Rattle.lu_spec_entries.specs.Words as word
use Rattle.lu_spec_entries.specs.Words.{Line, line}
use Rattle.lu_spec_entries.specs.Concerns.{only}
use Rattle.lu_spec_entries.specs.Printed.{printed}
use Rattle.lu_spec_client.specs.Looks.{content, file_size, has_reached}
use Rattle.lu_spec_client.specs.States.{store_at}
use Rattle.lu_spec_client.specs.Stripes.{stripes, object}
use Rattle.lu_proof_lawful.specs.Covered.Calls.{call_at, life_at}
use Rattle.lu_proof_lawful.specs.Covered.TargetCloses.{closing_of}
use Rattle.lu_proof_lawful.specs.Covered.Heads.{Head}
use Rattle.lu_spec_laws.specs.Words.Histories.{machine_of}
use Rattle.lu_proof_lawful.specs.Fits.{Fits}
use Rattle.lu_proof_lawful.proofs.Preconditions.Guards.{NotChanging, UsesHeld, ReadToldOk, StatToldOk, wanted_by}
use Rattle.lu_proof_lawful.proofs.Preconditions.Heeds.{none_owed}
use Rattle.lu_proof_lawful.proofs.Preconditions.Lists.{turn}
use Rattle.lu_proof_lawful.proofs.Preconditions.Calls.{limited}
use Rattle.lu_proof_lawful.specs.Projection.Lives.{number_of, is_live}
use Rattle.lu_proof_lawful.specs.Projection.Stories.{story}
use Rattle.lu_proof_lawful.proofs.Refinement.OneLayout.{CreatedWith}
use Rattle.lu_proof_lawful.proofs.Refinement.Place.{place}
use Rattle.lu_proof_lawful.proofs.Refinement.StoreReads.{Reads, wide_reads, narrow_reads, stat_reads}
use Rattle.lu_proof_lawful.proofs.Refinement.Stories.{all_tied}
use Rattle.lu_proof_lawful.proofs.Refinement.Tied.{Tied}
use Rattle.lu_proof_lawful.proofs.Refinement.TiedAsked.{AskedTied}
use Rattle.lu_proof_lawful.proofs.Refinement.TiedStore.{StoreTied}
use Rattle.lu_proof_lawful.proofs.Refinement.Uses.{uses_held}
use Rattle.lu_proof_lawful.proofs.Laws.Agrees.{OutAs, OfRun, earlier, live_there}
use Rattle.lu_proof_lawful.proofs.Laws.CloseLines.{nothing_left}
use Rattle.lu_proof_lawful.proofs.Laws.FileReads.{lies, wide_read, narrow_read, stat_read}
use Rattle.lu_proof_lawful.proofs.Laws.MachineLayouts.{file_laid}
use Rattle.lu_proof_lawful.proofs.Laws.Printed.{present_is}
use Rattle.lu_proof_lawful.proofs.Laws.Untold.{IsPart, settled}

module _ (head : Head) (out : Who → Bool) (lost : ℕ → ℕ → Bool) (outs : ℕ → Bool) (of : OutAs out outs) (past : List Line) (stamp : Stamp)
    (c slot : ℕ) (named : At) (given : Answer) (work : Option Work)
    (k : OfRun head (line (turn stamp (Client c)) (word.Told slot named given work) ∷ past)) (f : Fits head.osts out lost past)
    (stays : out (life_at c past) ≡ false) where
  abbrev machine : Machine
  machine = machine_of out lost head.osts (printed past)

  abbrev before : OfRun head past
  before = earlier head (line (turn stamp (Client c)) (word.Told slot named given work)) past k

  pub quiet : (t : ℕ) → closing_of head.clients (only t past) ≡ []
  quiet t = nothing_left head (only t past) (turn stamp (Client c)) (word.Told slot named given work) (k.grown.0.shows t refl) (λ e. e)

  still : (IsPart (word.Told slot named given work) → ⊥) → NotChanging past
  still other = settled head past (turn stamp (Client c)) (word.Told slot named given work) k.heeds k.grown.0 k.grown.1 other

  its_number : outs (number_of (life_at c past)) ≡ false
  its_number = of (life_at c past) ∙ stays

  tied : (fid : Fid) (i : ℕ) → Tied head (place head.osts (object fid i)) (object fid i) past
  tied fid i = (all_tied head k.ranges past k.grown.1 k.pins.1 k.heeds.1 k.speaks.1 (place head.osts (object fid i)) (object fid i)
      (omega arith) refl).1

  -- what the client has of the file's objects
  has : (done : Work) (r : Running) → call_at c slot past ≡ Some r → IsLayout done.layout
      → CreatedWith head.osts (only 0 past) done.fid done.layout → (IsPart (word.Told slot named given work) → ⊥)
      → wanted_by done ≡ map (λ (u : Using). u.want) done.used → UsesHeld c past r done.used → Reads head past c done
  has done r call good created other wants uses =
      record {
        good = good;
        grown = k.grown.1;
        fit = k.pins.1;
        owed = none_owed c past (line (turn stamp (Client c)) (word.Told slot named given work)) (k.heeds.0 c) (λ o. o);
        still = still other;
        wants = wants;
        used = λ u i. uses_held head past k.grown.1 k.pins.1 c slot r done.used call uses u i;
        lies = there;
        live = λ i low. subst (λ (t : ℕ). is_live c past (story t (object done.fid i) past) ≡ true) (sym (there i low))
            (live_there head out lost outs of past stamp c (word.Told slot named given work) (object done.fid i) k f
            (quiet (place head.osts (object done.fid i))) stays);
        asked = λ i low. subst (λ (t : ℕ). AskedTied head t (object done.fid i) past) (sym (there i low)) (tied done.fid i).asked;
        store = λ i low. subst (λ (t : ℕ). StoreTied head t (object done.fid i) past) (sym (there i low)) (tied done.fid i).store;
      }
    where
      there : (i : ℕ) → i < length done.layout.targets → slice_index done.layout.targets i ≡ place head.osts (object done.fid i)
      there = lies head.osts (only 0 past) done.fid done.layout created

  -- a read
  pub read_told : (r : ReadToldOk past (turn stamp (Client c)) c slot named given work) → (IsPart (word.Told slot named given work) → ⊥)
      → data_answer machine r.does.read.file.fid r.running.call ≡ given
  read_told r other =
      ap (data_answer machine r.does.read.file.fid) r.does.read.reads
      ∙ ap (λ (y : Raid0). told.Content (read y (bytes_of machine r.does.read.file.fid) p n)) (laid.0 ∙ sym r.does.layout)
      ∙ ap (λ (g : Fid). told.Content (read r.done.layout (bytes_of machine g) p n)) (sym r.does.fid)
      ∙ tells r.tells.1
    where
      p : ℕ
      p = r.does.read.offset

      n : ℕ
      n = r.does.read.count

      laid : (layout machine.tree r.does.read.file.fid ≡ r.does.read.file.layout) × IsLayout r.does.read.file.layout
          × CreatedWith head.osts (only 0 past) r.does.read.file.fid r.does.read.file.layout
      laid = file_laid head out lost k.ranges past c slot r.running r.does.read.file k.grown.1 before.asked f
          (ap out (present_is head c past k.grown.1) ∙ stays) r.call r.does.read.of_file

      good : IsLayout r.done.layout
      good = subst IsLayout (sym r.does.layout) laid.1

      created : CreatedWith head.osts (only 0 past) r.done.fid r.done.layout
      created = subst (λ (y : Raid0). CreatedWith head.osts (only 0 past) r.done.fid y) (sym r.does.layout)
          (subst (λ (g : Fid). CreatedWith head.osts (only 0 past) g r.does.read.file.layout) (sym r.does.fid) laid.2)

      reads : Reads head past c r.done
      reads = has r.done r.running r.call good created other r.wants r.uses

      limits : IsCall (call.Read r.does.read.handle p n)
      limits = subst IsCall r.does.read.reads (limited head past k.grown.1 c slot r.running r.call)

      there : (i : ℕ) → i < length r.done.layout.targets → slice_index r.done.layout.targets i ≡ place head.osts (object r.done.fid i)
      there = lies head.osts (only 0 past) r.done.fid r.done.layout created

      tells : (((r.done.kind ≡ Narrow p n) × (has_reached r.done.layout (p + n - 1) r.done.used (store_at c past) ≡ true)
          × (given ≡ told.Content (content r.done.layout r.done.fid (store_at c past) p n)))
          ⊎ ((r.done.kind ≡ Wide p n) × (given ≡ told.Content (content r.done.layout r.done.fid (store_at c past) p
          (min n (file_size r.done.layout (stripes r.done.layout) r.done.used (store_at c past) - p))))))
          → told.Content (read r.done.layout (bytes_of machine r.done.fid) p n) ≡ given
      tells (inl (kind, reached, is)) = ap told.Content (sym (narrow_read head out lost outs of past before f quiet (still other) r.done.fid
          r.done.layout reads.good there (number_of (life_at c past)) its_number p n
          (content r.done.layout r.done.fid (store_at c past) p n)
          (narrow_reads head past c r.done reads p n kind limits.1 limits.3 r.tells.0 reached))) ∙ sym is
      tells (inr (kind, is)) = ap told.Content (sym (wide_read head out lost outs of past before f quiet (still other) r.done.fid
          r.done.layout reads.good there (number_of (life_at c past)) its_number p n
          (content r.done.layout r.done.fid (store_at c past) p
          (min n (file_size r.done.layout (stripes r.done.layout) r.done.used (store_at c past) - p)))
          (wide_reads head past c r.done reads p n kind limits.3 r.tells.0))) ∙ sym is

  -- a stat of a file, by the layout that its create gave it
  pub stat_told : (s : StatToldOk past (turn stamp (Client c)) c slot named given work) → (IsPart (word.Told slot named given work) → ⊥)
      → CreatedWith head.osts (only 0 past) s.stat.fid s.stat.layout → IsLayout s.stat.layout
      → told.FileSize s.stat.fid s.stat.mode s.stat.links (size_of s.stat.layout (bytes_of machine s.stat.fid)) ≡ given
  stat_told s other created good =
      ap (λ (z : ℕ). told.FileSize s.stat.fid s.stat.mode s.stat.links z)
      (ap (λ (y : Raid0). size_of y (bytes_of machine s.stat.fid)) (sym s.of_layout)
      ∙ ap (λ (g : Fid). size_of s.done.layout (bytes_of machine g)) (sym s.of_fid)
      ∙ sym (stat_read head out lost outs of past before f quiet (still other) s.done.fid s.done.layout reads.good
      (lies head.osts (only 0 past) s.done.fid s.done.layout created_done) (number_of (life_at c past)) its_number
      (file_size s.done.layout (stripes s.done.layout) s.done.used (store_at c past))
      (stat_reads head past c s.done reads s.stat.mode s.stat.links s.kind)))
      ∙ sym s.of_answer
    where
      good_done : IsLayout s.done.layout
      good_done = subst IsLayout (sym s.of_layout) good

      created_done : CreatedWith head.osts (only 0 past) s.done.fid s.done.layout
      created_done = subst (λ (y : Raid0). CreatedWith head.osts (only 0 past) s.done.fid y) (sym s.of_layout)
          (subst (λ (g : Fid). CreatedWith head.osts (only 0 past) g s.stat.layout) (sym s.of_fid) created)

      reads : Reads head past c s.done
      reads = has s.done s.running s.call good_done created_done other s.wants s.uses
