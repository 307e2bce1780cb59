-- A reply that was put together is the rows' reply.
use Rattle.std.proofs.Common.{◌≡◌, ℕ, List, [], ◌∷◌, Result, Ok, Err, sym, ap, subst, ◌∙◌}
use Rattle.std.specs.Prelude.{OnOk}
use Rattle.lu_base.specs.declared.ids.At.{At}
use Rattle.lu_spec_machine.specs.Objects.{object_touches}
use Rattle.lu_msg.specs.declared.answers.Answer.{Answer}
use Rattle.lu_msg.specs.declared.messages.Message.TheVariants as message
use Rattle.lu_msg.specs.declared.messages.Reply.{Reply}
use Rattle.lu_msg.specs.declared.messages.Request.{Request}
use Rattle.lu_part.specs.declared.parts.Part.{Part}
use Rattle.lu_trace.specs.Turns.{Making}
use Rattle.lu_spec_target.specs.Glimpses.{answered}
use Rattle.lu_spec_target.specs.Replies.{none, reply_to, seen_in, to_life}
use Rattle.lu_spec_target.specs.States.{Target}
use Rattle.lu_target_server.specs.Answering.{IsAnswered}
use Rattle.lu_spec_entries.specs.Given.{giving}
use Rattle.lu_target_server.specs.Servers.{ServerState}
use Rattle.lu_target_server.proofs.ObjectRows.{sees_nothing}

-- with what it has seen, in this turn
pub answered_as : (v : Target) (r : Request) (seen : List ℕ) (at from : At) (answer other : Answer) (reply : Reply) → reply
    ≡ reply_to v r none seen at [] answer
    → seen ≡ seen_in (object_touches r.op other) v.log → at ≡ from → answer ≡ other → reply ≡ (answered v from r other).reply
answered_as v r seen at from answer other reply e s a o =
    e ∙ ap (λ ns. reply_to v r none ns at [] answer) s ∙ ap (λ (x : At). reply_to v r none (seen_in (object_touches r.op other) v.log) x []
    answer) a
    ∙ ap (reply_to v r none (seen_in (object_touches r.op other) v.log) from []) o

-- where it has seen nothing
pub unseen_is : (v : Target) (seen : List ℕ) (touched : List Part) → seen ≡ [] → touched ≡ [] → seen ≡ seen_in touched v.log
unseen_is v seen touched none nothing = none ∙ sym (sees_nothing v.log) ∙ ap (λ (ps : List Part). seen_in ps v.log) (sym nothing)

pub sent_as : (begun done : Making) (reply other : Reply) → reply ≡ other → done
    ≡ giving begun (to_life reply.who (message.Reply reply) ∷ [])
    → done ≡ giving begun (to_life other.who (message.Reply other) ∷ [])
sent_as begun done reply other e sent = subst (λ (x : Reply). done ≡ giving begun (to_life x.who (message.Reply x) ∷ [])) e sent

pub is_answered_as : (tag : ℕ) (reply other : Reply) (old new : ServerState) → reply ≡ other → IsAnswered tag reply old new
    → IsAnswered tag other old new
is_answered_as tag reply other old new e is = subst (λ (x : Reply). IsAnswered tag x old new) e is

-- two things that hold where all went well
pub on_ok_two : {T E P Q R : Type 0} (r : Result T E) → (P → Q → R) → OnOk r P → OnOk r Q → OnOk r R
on_ok_two (Ok x) f p q = f p q
on_ok_two (Err e) f p q = tt
