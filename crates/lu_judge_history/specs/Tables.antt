-- What the tables hold at each key.
use Rattle.std.specs.Prelude.{ℕ, Bool, ◌==◌, ◌&&◌, if◌then◌else◌, Option, None}
use Rattle.std.specs.HashMap.{get_by}
use Rattle.lu_base.specs.declared.ids.At.{At}
use Rattle.lu_base.specs.declared.ids.Stamp.{Stamp}
use Rattle.lu_base.specs.declared.ids.Who.{Who}
use Rattle.lu_msg.specs.declared.answers.Answer.{Answer}
use Rattle.lu_spec_laws.specs.Words.Pasts.{is_target}
use Rattle.lu_judge_history.specs.declared.answers.Answers.{Answers}

abbrev pub answer_in : Answers → At → Who → ℕ → Option Answer
answer_in t turn who x =
    if is_target 0 turn.node
    then get_by (λ k. (turn.stamp.0 == k.0.0 && (who.client == k.0.1.0 && who.life == k.0.1.1)) && x == k.1) t.by_stamp
    else None

-- the turn of the metadata target of this stamp, and that life and request number
abbrev pub is_key : Stamp → Who → ℕ → At → Who → ℕ → Bool
is_key stamp own xid turn who x =
    is_target 0 turn.node && ((stamp.0 == turn.stamp.0 && (own.client == who.client && own.life == who.life)) && xid == x)
