use Rattle.lu_spec_machine.proofs.Stated.{refusals_stay, unchanged_stay, transactions_grant_nothing}
use Rattle.lu_spec_machine.proofs.Paths.{chmods_change, renames_change}
use Rattle.lu_spec_machine.proofs.Transactions.{readings_change_nothing, always_make_transactions}
use Rattle.lu_spec_machine.proofs.theorems.transactions.Goals as goal

pub returns : goal.returns
returns c =
    record {
      refusals = refusals_stay;
      unchanged = unchanged_stay;
      grants = transactions_grant_nothing;
      readings = readings_change_nothing;
      always = always_make_transactions;
      chmods = chmods_change;
      renames = renames_change;
    }
