-- Messages between a client and the target about the object. What recovery sends (`replay`, `lock`, `word`, `join`, `up`, `ready`), what
-- becomes of a glimpse at a lock's holder, and the question where a lock is are none of the theory's.
use Rattle.std.specs.Prelude.{ℕ, List, Option, None, option_map}
use Rattle.lu_base.specs.declared.ids.Cookie.{Cookie}
use Rattle.lu_base.specs.declared.ids.Who.{Who}
use Rattle.lu_base.specs.declared.locks.Resource.{Resource}
use Rattle.lu_msg.specs.declared.messages.Message.{Message as TableMessage}
use Rattle.lu_msg.specs.declared.messages.Message.TheVariants as message
use Rattle.lu_msg.specs.declared.messages.GrantNotice.{GrantNotice}
use Rattle.lu_msg.specs.declared.messages.Reply.{Reply as ReplyTo}
use Rattle.lu_msg.specs.declared.messages.Request.{Request as RequestOf}
use Rattle.lu_proof_bytes.specs.Object.Words.{Op, Request, Message, Ask, Reply, Give, Block, Cancel, Entry}
use Rattle.lu_proof_lawful.specs.Projection.Lives.{number_of}
use Rattle.lu_proof_lawful.specs.Projection.Locks.{given}
use Rattle.lu_proof_lawful.specs.Projection.Requests.{op_of, asked_as, among, answer_of}

abbrev pub request_as : (life xid : ℕ) → Op → Request
request_as c x o = record { life = c; xid = x; op = o }

-- ---- of a client

-- a request, first or again
abbrev pub asks : Resource → List Entry → RequestOf → Option Message
asks r h q = option_map (λ o. Ask q.boot (request_as (number_of q.who) q.xid.0 o)) (op_of r h q.op)

-- a lock of this object is given back
abbrev pub cancels : List Entry → Who → ℕ → Cookie → Option Message
cancels h who boot cookie = option_map (λ l. Cancel boot (number_of who) cookie.0) (given cookie.0 h)

abbrev pub by_client : Resource → List Entry → TableMessage → Option Message
by_client r h (message.Request q) = asks r h q
by_client r h (message.Cancel who boot cookie) = cancels h who boot cookie
by_client r h _ = None

-- ---- of the target

-- a reply to a request on this object, as first sent or again
abbrev pub replies : List Entry → ReplyTo → Option Message
replies h p = option_map (λ q. Reply p.boot q.life q.xid (answer_of q p)) (asked_as (number_of p.who) p.xid.0 h)

-- a lock that had waited, with the size that the object has now
abbrev pub gives : List Entry → GrantNotice → Option Message
gives h g = option_map (λ l. Give g.boot l g.size (among g.seen)) (given g.cookie.0 h)

abbrev pub blocks : List Entry → Who → ℕ → Cookie → Option Message
blocks h who boot cookie = option_map (λ l. Block boot (number_of who) cookie.0) (given cookie.0 h)

abbrev pub by_target : List Entry → TableMessage → Option Message
by_target h (message.Reply p) = replies h p
by_target h (message.Grant g) = gives h g
by_target h (message.Block who boot cookie) = blocks h who boot cookie
by_target h _ = None
