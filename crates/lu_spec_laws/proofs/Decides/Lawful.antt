-- Whether a whole trace is lawful is decided.
use Rattle.std.proofs.Common.{ℕ}
use Rattle.lu_spec_laws.specs.Words.Pasts.{Past}
use Rattle.lu_spec_laws.specs.Lawful.{Lawful}
use Rattle.lu_spec_laws.proofs.Decides.{Decided, holds, like, three, four, both}
use Rattle.lu_spec_laws.proofs.Decides.Messages.{decide_messages}
use Rattle.lu_spec_laws.proofs.Decides.Locks.{decide_locks}
use Rattle.lu_spec_laws.proofs.Decides.Silent.{decide_silent}
use Rattle.lu_spec_laws.proofs.Decides.Acts.{decide_acts}
use Rattle.lu_spec_laws.proofs.Decides.Recovery.{decide_recovery}
use Rattle.lu_spec_laws.proofs.Decides.History.{decide_history}
use Rattle.lu_spec_laws.proofs.Decides.Glimpse.{decide_glimpse}

abbrev pub decide_lawful : (osts : ℕ) (whole : Past) → Decided (Lawful osts whole)
decide_lawful osts whole =
    like
    (λ t.
    record {
      messages = t.0.0;
      locks = t.0.1;
      silent = t.0.2;
      acts = t.1.0;
      recovery = t.1.1;
      history = t.1.2;
      glimpse = t.1.3;
    })
    (λ l. ((l.messages, l.locks, l.silent), (l.acts, l.recovery, l.history, l.glimpse)))
    (both
    (three (holds decide_messages whole) (holds (decide_locks osts) whole) (holds decide_silent whole))
    (four (holds (decide_acts whole) whole) (holds (decide_recovery osts whole) whole)
    (holds (decide_history osts whole) whole) (holds (decide_glimpse osts whole) whole)))
