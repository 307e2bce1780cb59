-- What a life learned of a target's transactions: of its own ones by the replies to them, of those that it rests on by
-- the seen numbers of replies and grants (this project's profile).
use Rattle.std.specs.Prelude.{ℕ, Bool, true, false, ◌==◌, ◌&&◌, ◌||◌, nat_eq}
use Rattle.std.specs.List.{list_any}
use Rattle.lu_base.specs.declared.ids.Node.{Node}
use Rattle.lu_base.specs.declared.ids.Who.{Who}
use Rattle.lu_msg.specs.declared.messages.Message.{Message}
use Rattle.lu_msg.specs.declared.messages.Message.TheVariants.{Reply, Grant}
use Rattle.lu_msg.specs.declared.messages.Reply.{Reply as ReplyOf}
use Rattle.lu_msg.specs.declared.messages.GrantNotice.{GrantNotice}
use Rattle.lu_trace.specs.declared.entries.Entry.TheVariants.{Heard, Hold}
use Rattle.lu_trace.specs.declared.entries.Line.{Line}
use Rattle.lu_spec_machine.specs.Tree.{same_life}
use Rattle.lu_spec_laws.specs.Words.Pasts.{Past, is_target, some_line}
use Rattle.lu_spec_laws.specs.Words.Sends.{Sending, taken}
use Rattle.lu_spec_laws.specs.Words.Lives.{is_by}

-- the message is the target's reply to that request of the life, and passes the test
abbrev pub is_reply_to : (ReplyOf → Bool) → ℕ → Who → ℕ → Sending → Bool
is_reply_to test t who x s =
    elim s.message [ Reply r ↦ is_target t s.from && same_life r.who who && r.xid.0 == x && test r | _ ↦ false ]

-- the message is the target's grant of that lock of the life, and passes the test
abbrev pub is_grant_to : (GrantNotice → Bool) → ℕ → Who → ℕ → Sending → Bool
is_grant_to test t who cookie s =
    elim s.message [ Grant g ↦ is_target t s.from && same_life g.who who && g.cookie.0 == cookie && test g | _ ↦ false ]

-- with this line the life hears a reply of the target that passes the test: any that the turn took
abbrev pub hears_one : (ReplyOf → Bool) → ℕ → Who → Past → Line → Bool
hears_one test t who past l =
    elim l.entry [
      | Heard target xid ↦
          target.0 == t && is_by who past l.at.node && list_any (is_reply_to test t who xid.0) (taken past l.at)
      | _ ↦ false
    ]

-- with this line it holds a lock by a grant of the target that passes the test
abbrev pub holds_by_one : (GrantNotice → Bool) → ℕ → Who → Past → Line → Bool
holds_by_one test t who past l =
    elim l.entry [
      | Hold target cookie ↦
          target.0 == t && is_by who past l.at.node && list_any (is_grant_to test t who cookie.0) (taken past l.at)
      | _ ↦ false
    ]

abbrev pub carries : ℕ → ReplyOf → Bool
carries n r = r.txn.0 == n

abbrev pub names : ℕ → ReplyOf → Bool
names n r = list_any (nat_eq n) r.seen

abbrev pub lets_see : ℕ → GrantNotice → Bool
lets_see n g = list_any (nat_eq n) g.seen

-- it heard a reply of the target that carries this transaction's number
abbrev pub heard_number : ℕ → Who → ℕ → Past → Bool
heard_number t who n past = some_line (hears_one (carries n) t who) past

-- it saw this transaction: a reply that it heard names it, or a grant that it took when it came to hold the lock
abbrev pub saw : ℕ → Who → ℕ → Past → Bool
saw t who n past = some_line (hears_one (names n) t who) past || some_line (holds_by_one (lets_see n) t who) past
