use Rattle.lu_proof_lawful.proofs.Laws.Whole.{lawful, acts_of, history_of}
use Rattle.lu_proof_lawful.proofs.theorems.covered_runs_are_lawful.Goals as goal

pub returns : goal.returns
returns c =
    record {
      messages = λ head turns is run covered. (lawful head turns is run covered).messages;
      locks = λ head turns is run covered. (lawful head turns is run covered).locks;
      silent = λ head turns is run covered. (lawful head turns is run covered).silent;
      acts = λ head turns is run covered. (lawful head turns is run covered).acts;
      recovery = λ head turns is run covered. (lawful head turns is run covered).recovery;
      history = λ head turns is run covered. (lawful head turns is run covered).history;
      glimpse = λ head turns is run covered. (lawful head turns is run covered).glimpse;
      lawful = lawful;
      acts_of = acts_of;
      history_of = history_of;
    }
