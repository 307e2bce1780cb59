-- What the history holds, and that it shows a past.
use Rattle.std.specs.Prelude.{◌≡◌, ℕ, ◌≤◌, ◌^◌, Bool, Option, List, [], ◌∷◌, IfSome, All}
use Rattle.lu_base.specs.declared.ids.Fid.{Fid}
use Rattle.lu_base.specs.declared.ids.Who.{Who}
use Rattle.lu_trace.specs.declared.entries.Line.{Line}
use Rattle.lu_trace.specs.WellFormed.{IsLine}
use Rattle.lu_spec_machine.specs.Footprint.{Every}
use Rattle.lu_spec_machine.specs.Machine.{Machine, start, object_of}
use Rattle.lu_posix.specs.Shown.{Shows, MachineState}
use Rattle.lu_spec_laws.specs.Words.Pasts.{Past}
use Rattle.lu_spec_laws.specs.Words.Lives.{is_gone}
use Rattle.lu_spec_laws.specs.Words.Lost.{is_lost}
use Rattle.lu_spec_laws.specs.Words.Histories.{machine_of}
use Rattle.lu_spec_laws.specs.Words.Glimpses.{machine_cut}
use Rattle.lu_judge_pass.specs.Ledgers.{ShowsLedger, ShowsGone}
use Rattle.lu_judge_calls.specs.Tables.{ShowsOpenCalls}
use Rattle.lu_judge_calls.specs.declared.open_calls.OpenCalls.{OpenCalls}
use Rattle.lu_judge_pass.specs.declared.ledgers.Ledger.{Ledger}
use Rattle.lu_judge_glimpse.specs.Items.{Keeps, after_items}
use Rattle.lu_judge_glimpse.specs.declared.histories.History.{History}

-- no object has a stripe past the greatest number of one
abbrev pub HasFew : Machine → Type 0
HasFew m = (fid : Fid) (stripe : ℕ) → 2 ^ 16 ≤ stripe → object_of m fid stripe ≡ []

abbrev pub ShowsPlain : ℕ → MachineState → Machine → Type 0
ShowsPlain osts s m = Shows osts s m × HasFew m

-- it is over 1 to 8 object storage targets, and its items are those of well formed traces
pub record IsKept (h : History) : Type 0 where
  pub some_osts : 1 ≤ h.osts
  pub few_osts : h.osts ≤ 8
  pub items : All Keeps h.items.items

-- the items make the machine of the past, whichever lives are gone and transactions lost; and where the program has a
-- machine, it shows that of the past by those that are
pub record ShowsHistory (h : History) (past : Past) : Type 0 where
  pub kept : IsKept h
  pub items : (out : Who → Bool) (lost : ℕ → ℕ → Bool) (osts : ℕ) → after_items out lost osts start h.items.items
      ≡ machine_of out lost osts past
  pub machine : IfSome h.machine (λ (m : MachineState). ShowsPlain h.osts m (machine_cut h.osts past))

-- some past of well formed lines is shown
abbrev pub IsFormed : Ledger → OpenCalls → Type 0
IsFormed ledger calls = (past : Past) × ShowsLedger ledger past × ShowsOpenCalls calls past × Every IsLine past

-- the line leaves who is gone and what is lost as it was
abbrev pub LeavesStanding : Past → Line → Type 0
LeavesStanding past l =
    ((who : Who) → is_gone (l ∷ past) who ≡ is_gone past who)
    × ((target number : ℕ) → is_lost (l ∷ past) target number ≡ is_lost past target number)
