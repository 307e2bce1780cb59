-- How the steps of a client's code are put together: one row after another, none, and one entry more.
use Rattle.std.proofs.Common.{◌≡◌, ℕ, ◌+◌, ◌<◌, true, false, List, [], ◌∷◌, ◌++◌, ◌≤◌, length, drop, get_or, Option, Some, None, is_some}
use Rattle.std.proofs.Common.{refl, sym, ap, ◌∙◌, append_assoc}
use Rattle.std.proofs.lemmas.List.{append-nil, drop_more, drop_all}
use Rattle.lu_base.specs.declared.ids.At.{At}
use Rattle.lu_base.specs.declared.ids.Node.{Node}
use Rattle.lu_msg.specs.declared.messages.Message.{Message}
use Rattle.lu_msg.specs.declared.messages.Post.{Post}
use Rattle.lu_trace.specs.declared.entries.Entry.{Entry as PrintedEntry}
use Rattle.lu_trace.specs.declared.entries.Line.{Line as PrintedLine}
use Rattle.lu_trace.specs.declared.traces.Step.{Step}
use Rattle.lu_trace.specs.Turns.{Making, no_step, with_line, with_post}
use Rattle.lu_spec_entries.specs.Given.{line_of, step_lines, posts_with, step_posts, step_of, giving}
use Rattle.lu_spec_entries.specs.Printed.{printed_entry}
use Rattle.lu_spec_entries.specs.Words.{Entry, Send}
use Rattle.lu_spec_client.specs.States.{Client, after, turn, follow}
use Rattle.lu_client_refines.specs.Prints.{prints}
use Rattle.lu_client_refines.specs.Goes.{Goes, Leads}
use Rattle.lu_client_refines.specs.Posts.{posted}
use Rattle.lu_client_refines.specs.Turns.{none_read}
use Rattle.lu_client_refines.proofs.Turns.{turn_more, none_left, calls_stay, imports_stay}

-- ---- what entries give

lines_more : (at : At) (es fs : List Entry) → step_lines at (es ++ fs) ≡ step_lines at es ++ step_lines at fs
lines_more at [] fs = refl
lines_more at (e ∷ es) fs = by (printed_entry 0 e) (lines_more at es fs) where
  by : (o : Option PrintedEntry) → step_lines at (es ++ fs) ≡ step_lines at es ++ step_lines at fs
      → line_of at o (step_lines at (es ++ fs)) ≡ line_of at o (step_lines at es) ++ step_lines at fs
  by None rest = rest
  by (Some x) rest = ap (λ (lines : List PrintedLine). record { at = at; entry = x } ∷ lines) rest

posts_more : (es fs : List Entry) → step_posts (es ++ fs) ≡ step_posts es ++ step_posts fs
posts_more [] fs = refl
posts_more (Send to m ∷ es) fs = ap (λ (posts : List Post). record { to = to; message = m } ∷ posts) (posts_more es fs)
posts_more (e ∷ es) fs = posts_more es fs

-- what is given after what was given before
pub giving_more : (making : Making) (es fs : List Entry) → giving (giving making es) fs ≡ giving making (es ++ fs)
giving_more making es fs =
    let lines : (making.step.entries ++ step_lines making.at es) ++ step_lines making.at fs ≡ making.step.entries
    ++ step_lines making.at (es ++ fs) =
    append_assoc making.step.entries (step_lines making.at es) (step_lines making.at fs)
    ∙ ap (λ (xs : List PrintedLine). making.step.entries ++ xs) (sym (lines_more making.at es fs)) in
    let posts : (making.step.sends ++ step_posts es) ++ step_posts fs ≡ making.step.sends ++ step_posts (es ++ fs) =
    append_assoc making.step.sends (step_posts es) (step_posts fs)
    ∙ ap (λ (xs : List Post). making.step.sends ++ xs) (sym (posts_more es fs)) in
    ap (λ (xs : List Post). record {
      at = making.at;
      step = record
          { sends = xs; entries = (making.step.entries ++ step_lines making.at es) ++ step_lines making.at fs };
    }) posts
    ∙ ap (λ (xs : List PrintedLine). record {
      at = making.at;
      step =
          record { sends = making.step.sends ++ step_posts (es ++ fs); entries = xs };
    }) lines

-- no entries give nothing
pub giving_none : (making : Making) → giving making [] ≡ making
giving_none making =
    ap (λ (xs : List Post). record { at = making.at; step = record { sends = xs; entries = making.step.entries ++ [] } })
    (append-nil making.step.sends)
    ∙ ap (λ (xs : List PrintedLine). record { at = making.at; step = record { sends = making.step.sends; entries = xs } })
    (append-nil making.step.entries)

-- a turn in which nothing else was given gives the step of its entries
pub giving_first : (at : At) (es : List Entry) → giving (record { at = at; step = no_step }) es ≡ record { at = at; step = step_of at es }
giving_first at es = refl

-- ---- one entry

-- a mark prints and sends nothing
pub giving_mark : (making : Making) (e : Entry) → printed_entry 0 e ≡ None → step_posts (e ∷ []) ≡ [] → giving making (e ∷ []) ≡ making
giving_mark making e prints sends =
    ap (λ (o : Option PrintedEntry). record {
      at = making.at;
      step =
          record { sends = making.step.sends ++ step_posts (e ∷ []); entries = making.step.entries ++ line_of making.at o [] };
    }) prints
    ∙ ap (λ (xs : List Post). record {
      at = making.at;
      step = record
          { sends = making.step.sends ++ xs; entries = making.step.entries ++ [] };
    }) sends
    ∙ giving_none making

-- so marks before other entries give what those give
pub giving_past : (making : Making) (e : Entry) (es : List Entry) → printed_entry 0 e ≡ None → step_posts (e ∷ []) ≡ []
    → giving making (e ∷ es) ≡ giving making es
giving_past making e es prints sends = sym (giving_more making (e ∷ []) es)
    ∙ ap (λ (m : Making). giving m es) (giving_mark making e prints sends)

-- a line that was noted is that of an entry which sends nothing
pub noted : (old new : Making) (line : PrintedEntry) (e : Entry) → printed_entry 0 e ≡ Some line → step_posts (e ∷ []) ≡ [] → new.step
    ≡ with_line old.at old.step line → new.at ≡ old.at → new ≡ giving old (e ∷ [])
noted old new line e prints sends step at =
    ap (λ (a : At). record { at = a; step = new.step }) at
    ∙ ap (λ (s : Step). record { at = old.at; step = s }) step
    ∙ sym (ap (λ (o : Option PrintedEntry). record {
      at = old.at;
      step =
          record { sends = old.step.sends ++ step_posts (e ∷ []); entries = old.step.entries ++ line_of old.at o [] };
    }) prints
    ∙ ap (λ (xs : List Post). record {
      at = old.at;
      step = record
          { sends = old.step.sends ++ xs; entries = old.step.entries ++ record { at = old.at; entry = line } ∷ [] };
    }) sends
    ∙ ap (λ (xs : List Post). record {
      at = old.at;
      step = record
          { sends = xs; entries = old.step.entries ++ record { at = old.at; entry = line } ∷ [] };
    }) (append-nil old.step.sends))

-- a message that was sent
pub sent : (old new : Making) (post : Post) → new.step ≡ with_post old.at old.step post → new.at ≡ old.at → new
    ≡ giving old (Send post.to post.message ∷ [])
sent old new post step at = ap (λ (a : At). record { at = a; step = new.step }) at
    ∙ ap (λ (s : Step). record { at = old.at; step = s }) step

-- ---- messages, one after another

-- one message more at the end
pub posted_push : (posts : List Post) (post : Post) → posted (posts ++ post ∷ []) ≡ posted posts ++ Send post.to post.message ∷ []
posted_push [] post = refl
posted_push (p ∷ posts) post = ap (λ (es : List Entry). Send p.to p.message ∷ es) (posted_push posts post)

-- as at a step of a loop: these were sent, and now this one
pub sent_next : (before old new : Making) (posts : List Post) (post : Post) → old ≡ giving before (posted posts) → new.step
    ≡ with_post old.at old.step post → new.at ≡ old.at → new ≡ giving before (posted (posts ++ post ∷ []))
sent_next before old new posts post given step at =
    sent old new post step at
    ∙ ap (λ (m : Making). giving m (Send post.to post.message ∷ [])) given
    ∙ giving_more before (posted posts) (Send post.to post.message ∷ [])
    ∙ ap (giving before) (sym (posted_push posts post))

-- the same from the front: this one was sent, and the rest is left
pub sent_first : (old new : Making) (post : Post) (posts : List Post) → new.step ≡ with_post old.at old.step post → new.at ≡ old.at
    → giving new (posted posts) ≡ giving old (posted (post ∷ posts))
sent_first old new post posts step at = ap (λ (m : Making). giving m (posted posts)) (sent old new post step at)
    ∙ giving_more old (Send post.to post.message ∷ []) (posted posts)

-- one is sent of what is left of them
pub sent_more : (posts : List Post) (n : ℕ) (d : Post) → n < length posts → (before old new : Making) → new.step
    ≡ with_post old.at old.step (get_or posts n d) → new.at ≡ old.at
    → giving old (posted (drop n posts)) ≡ giving before (posted posts) → giving new (posted (drop (n + 1) posts))
    ≡ giving before (posted posts)
sent_more posts n d inside before old new step at left =
    sent_first old new (get_or posts n d) (drop (n + 1) posts) step at
    ∙ ap (λ (ps : List Post). giving old (posted ps)) (sym (drop_more posts n d inside))
    ∙ left

-- past the last
pub sent_all : (posts : List Post) (n : ℕ) → length posts ≤ n → (before last : Making) → giving last (posted (drop n posts))
    ≡ giving before (posted posts) → last ≡ giving before (posted posts)
sent_all posts n most before last left = sym (giving_none last)
    ∙ sym (ap (λ (ps : List Post). giving last (posted ps)) (drop_all n posts most)) ∙ left

-- ---- marks

unprinted : (o : Option PrintedEntry) → is_some o ≡ false → o ≡ None
unprinted None none = refl
unprinted (Some e) none = absurd (cc)

unsent : (e : Entry) (posts : List Post) → prints e ≡ false → posts_with e posts ≡ posts
unsent (Send to m) posts none = absurd (cc)
unsent e posts none = refl

-- marks alone give nothing
pub marks_given : (making : Making) (es : List Entry) → none_read prints es ≡ true → giving making es ≡ making
marks_given making [] all = giving_none making
marks_given making (e ∷ es) all =
    let h : (prints e ≡ false) × (none_read prints es ≡ true) = none_left (prints e) (none_read prints es) all in
    giving_past making e es (unprinted (printed_entry 0 e) h.0) (unsent e [] h.0) ∙ marks_given making es h.1

-- ---- the client after what is only sent

-- a message changes nothing of a client
pub send_still : (k : Client) (to : Node) (m : Message) → after k (Send to m) ≡ k
send_still k to m =
    ap (λ (cs : List (Option _)). record k { calls = cs; imports = (after k (Send to m)).imports }) (calls_stay k.calls (Send to m) refl)
    ∙ ap (λ is. record k { imports = is }) (imports_stay k.imports (Send to m) refl)

-- nor do messages, one after another
pub posts_still : (k : Client) (posts : List Post) → turn k (posted posts) ≡ k
posts_still k [] = refl
posts_still k (post ∷ posts) = ap (λ (j : Client). turn j (posted posts)) (send_still k post.to post.message) ∙ posts_still k posts

-- ---- steps

-- nothing was done
pub goes_nothing : (k : Client) (making : Making) → Goes (λ k. []) k k making making
goes_nothing k making = record { gives = sym (giving_none making); shows = refl }

-- one row after another
pub goes_then : (one two : Client → List Entry) (old middle new : Client) (before between after : Making)
    → Goes one old middle before between → Goes two middle new between after → Goes (λ k. follow (one k) two k) old new before after
goes_then one two old middle new before between after first next =
    record {
      gives =
          next.gives
          ∙ ap (λ (k : Client). giving between (two k)) first.shows
          ∙ ap (λ (m : Making). giving m (two (turn old (one old)))) first.gives
          ∙ giving_more before (one old) (two (turn old (one old)));
      shows =
          next.shows
          ∙ ap (λ (k : Client). turn k (two k)) first.shows
          ∙ sym (turn_more old (one old) (two (turn old (one old))));
    }

-- a row that is equal at the old client
pub goes_as : (row other : Client → List Entry) (old new : Client) (before after : Making) → row old ≡ other old
    → Goes row old new before after → Goes other old new before after
goes_as row other old new before after same goes =
    record { gives = goes.gives ∙ ap (giving before) same; shows = goes.shows ∙ ap (turn old) same }

-- a row whose first part is nothing at the old client
pub goes_past : (es : List Entry) (next : Client → List Entry) (old new : Client) (before after : Making) → es ≡ []
    → Goes next old new before after → Goes (λ k. follow es next k) old new before after
goes_past es next old new before after none goes =
    goes_as next (λ k. follow es next k) old new before after (sym (ap (λ (xs : List Entry). follow xs next old) none)) goes

-- one whose last part is nothing after the first
pub goes_end : (row next : Client → List Entry) (old new : Client) (before after : Making) → next (turn old (row old)) ≡ []
    → Goes row old new before after → Goes (λ k. follow (row k) next k) old new before after
goes_end row next old new before after none goes =
    goes_as row (λ k. follow (row k) next k) old new before after
    (sym (ap (λ (xs : List Entry). row old ++ xs) none ∙ append-nil (row old))) goes

-- it is one turn still
pub same_turn : (row : Client → List Entry) (old new : Client) (before after : Making) → Goes row old new before after → after.at
    ≡ before.at
same_turn row old new before after goes = ap (λ (m : Making). m.at) goes.gives

-- entries that were given, and the client after them
pub goes_by : (es : List Entry) (old new : Client) (before after : Making) → after ≡ giving before es → new ≡ turn old es
    → Goes (λ k. es) old new before after
goes_by es old new before after gives shows = record { gives = gives; shows = shows }

-- two lists of entries
pub goes_more : (es fs : List Entry) (old middle new : Client) (before between after : Making) → Goes (λ k. es) old middle before between
    → Goes (λ k. fs) middle new between after → Goes (λ k. es ++ fs) old new before after
goes_more es fs old middle new before between after one two = goes_then (λ k. es) (λ k. fs) old middle new before between after one two

-- an entry, and then others
pub goes_on : (e : Entry) (es : List Entry) (old middle new : Client) (before between after : Making)
    → Goes (λ k. e ∷ []) old middle before between → Goes (λ k. es) middle new between after → Goes (λ k. e ∷ es) old new before after
goes_on e es old middle new before between after one two = goes_then (λ k. e ∷ []) (λ k. es) old middle new before between after one two

-- and then a row
pub goes_first : (e : Entry) (next : Client → List Entry) (old middle new : Client) (before between after : Making)
    → Goes (λ k. e ∷ []) old middle before between → Goes next middle new between after
    → Goes (λ k. follow (e ∷ []) next k) old new before after
goes_first e next old middle new before between after one two = goes_then (λ k. e ∷ []) next old middle new before between after one two

-- ---- steps of one entry

-- a line was noted, and the client changed with it
pub goes_note : (old new : Client) (before after : Making) (line : PrintedEntry) (e : Entry) → printed_entry 0 e ≡ Some line
    → step_posts (e ∷ []) ≡ [] → after.step ≡ with_line before.at before.step line → after.at ≡ before.at → new ≡ turn old (e ∷ [])
    → Goes (λ k. e ∷ []) old new before after
goes_note old new before after line e prints sends step at shows =
    record { gives = noted before after line e prints sends step at; shows = shows }

-- the client changed, and nothing was given
pub goes_mark : (old new : Client) (making : Making) (e : Entry) → printed_entry 0 e ≡ None → step_posts (e ∷ []) ≡ [] → new
    ≡ turn old (e ∷ []) → Goes (λ k. e ∷ []) old new making making
goes_mark old new making e prints sends shows = record { gives = sym (giving_mark making e prints sends); shows = shows }

-- the same with some marks
pub goes_marks : (old new : Client) (making : Making) (es : List Entry) → none_read prints es ≡ true → new ≡ turn old es
    → Goes (λ k. es) old new making making
goes_marks old new making es all shows = record { gives = sym (marks_given making es all); shows = shows }

-- a message was sent
pub goes_post : (k : Client) (before after : Making) (post : Post) → after.step ≡ with_post before.at before.step post → after.at
    ≡ before.at → Goes (λ k. Send post.to post.message ∷ []) k k before after
goes_post k before after post step at = record { gives = sent before after post step at; shows = sym (send_still k post.to post.message) }

-- messages were sent, one after another
pub goes_posts : (k : Client) (before after : Making) (posts : List Post) → after ≡ giving before (posted posts)
    → Goes (λ k. posted posts) k k before after
goes_posts k before after posts gives = record { gives = gives; shows = sym (posts_still k posts) }

-- ---- rows that a loop does step by step: what is left of them

-- at the start all of it is
pub leads_first : (row : Client → List Entry) (k : Client) (making : Making) → Leads row row k k making making
leads_first row k making = record { gives = refl; shows = refl }

-- a step was made, and then another rest is left
pub leads_step : (whole left step rest : Client → List Entry) (first now next : Client) (before making after : Making) → left now
    ≡ follow (step now) rest now → Leads whole left first now before making → Goes step now next making after
    → Leads whole rest first next before after
leads_step whole left step rest first now next before making after is leads goes =
    record {
      gives =
          ap (λ (m : Making). giving m (rest next)) goes.gives
          ∙ giving_more making (step now) (rest next)
          ∙ ap (λ (k : Client). giving making (step now ++ rest k)) goes.shows
          ∙ sym (ap (giving making) is)
          ∙ leads.gives;
      shows =
          ap (λ (k : Client). turn k (rest k)) goes.shows
          ∙ sym (turn_more now (step now) (rest (turn now (step now))))
          ∙ sym (ap (turn now) is)
          ∙ leads.shows;
    }

-- nothing is left at the end
pub leads_end : (whole left : Client → List Entry) (first last : Client) (before making : Making) → left last ≡ []
    → Leads whole left first last before making → Goes whole first last before making
leads_end whole left first last before making none leads =
    record {
      gives = sym (giving_none making) ∙ sym (ap (giving making) none) ∙ leads.gives;
      shows = sym (ap (turn last) none) ∙ leads.shows;
    }

-- or all that is left was done
pub leads_all : (whole left : Client → List Entry) (first now last : Client) (before making after : Making)
    → Leads whole left first now before making → Goes left now last making after → Goes whole first last before after
leads_all whole left first now last before making after leads goes =
    record { gives = goes.gives ∙ leads.gives; shows = goes.shows ∙ leads.shows }
