-- The messages of a run, in the order in which they were sent.
use Rattle.std.specs.Prelude.{List, [], ◌∷◌, ◌++◌, map}
use Rattle.lu_base.specs.declared.ids.At.{At}
use Rattle.lu_msg.specs.declared.messages.Post.{Post}
use Rattle.lu_net.specs.declared.links.Posted.{Posted}
use Rattle.lu_net.specs.declared.links.Sent.{Sent as SentMessage}
use Rattle.lu_spec_entries.specs.Words.{Send, Line}
use Rattle.lu_spec_run.specs.Scenarios.{posted}

abbrev pub sent_by : At → Post → SentMessage
sent_by at post = (posted at post).sent

-- what the lines of a past send: reads Send
abbrev pub all_sent : List Line → List SentMessage
all_sent [] = []
all_sent (l ∷ past) = elim l.entry [ Send to m ↦ all_sent past ++ sent_by l.at (record { to = to; message = m }) ∷ [] | _ ↦ all_sent past ]

-- the messages of a configuration, whether they are spent or not
abbrev pub messages : List Posted → List SentMessage
messages posts = map (λ post. post.sent) posts
