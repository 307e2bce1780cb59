-- What the messages that a target took ask for, over what each request of a life asks for.
use Rattle.std.specs.Prelude.{ℕ, Option, Some, None, List, [], ◌∷◌, ◌++◌}
use Rattle.std.specs.Option.{option_map, option_to_list}
use Rattle.lu_base.specs.declared.ids.Cookie.{Cookie}
use Rattle.lu_base.specs.declared.ids.Who.{Who}
use Rattle.lu_base.specs.declared.locks.Lock.{Lock}
use Rattle.lu_base.specs.declared.locks.Policy.TheVariants.{Range}
use Rattle.lu_msg.specs.declared.messages.Message.{Message}
use Rattle.lu_msg.specs.declared.messages.Message.TheVariants.{Request}
use Rattle.lu_msg.specs.declared.operations.Op.{Op}
use Rattle.lu_msg.specs.declared.operations.Op.TheVariants as op
use Rattle.lu_spec_laws.specs.Words.Sends.{Sending}
use Rattle.lu_judge_pass.specs.declared.requests.Requests.{Requests}
use Rattle.lu_judge_pass.specs.Ledgers.{request_in}

-- what a request of a life at the target asks for, as the table has it
abbrev pub requested_in : Requests → ℕ → Who → ℕ → Option Op
requested_in t target who x = option_map (λ r. r.op) (request_in t target who x)

abbrev pub enqueued_lock : Cookie → Who → Option Op → Option Lock
enqueued_lock cookie who (Some (op.Enqueue resource mode extent)) =
    Some (record {
      cookie = cookie;
      resource = resource;
      ask = record { who = who; mode = mode; policy = Range extent };
    })
enqueued_lock cookie who _ = None

module _ (requested : Who → ℕ → Option Op) where
  abbrev pub enqueued_of : Cookie → Message → Option Lock
  enqueued_of cookie (Request r) = enqueued_lock cookie r.who (requested r.who r.xid.0)
  enqueued_of cookie _ = None

  abbrev pub enqueued_with : Cookie → List Sending → List Lock
  enqueued_with cookie [] = []
  enqueued_with cookie (s ∷ taken) = option_to_list (enqueued_of cookie s.message) ++ enqueued_with cookie taken
