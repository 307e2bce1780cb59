-- How the rows that calls make are put together: one after another, none, and what stands after each.
use Rattle.std.proofs.Common.{◌≡◌, ◌+◌, ◌≤◌, Result, Ok, Err, OnOk, Option, Some, None, List, [], ◌∷◌, ◌++◌, refl, sym, ap, subst, ◌∙◌}
use Rattle.std.proofs.Common.{append_assoc}
use Rattle.lu_base.specs.declared.ids.At.{At}
use Rattle.lu_msg.specs.declared.messages.Post.{Post}
use Rattle.lu_trace.specs.declared.entries.Entry.{Entry as PrintedEntry}
use Rattle.lu_trace.specs.declared.entries.Line.{Line as PrintedLine}
use Rattle.lu_trace.specs.declared.traces.Step.{Step}
use Rattle.lu_trace.specs.Turns.{Making, then_step, with_line}
use Rattle.lu_spec_entries.specs.Given.{line_of, step_lines, posts_with, step_posts, step_of, giving}
use Rattle.lu_spec_entries.specs.Printed.{printed_entry}
use Rattle.lu_spec_entries.specs.Words.{Entry, Send}
use Rattle.lu_spec_target.specs.States.{Target, after, turn, follow}
use Rattle.lu_service.specs.declared.services.Kind.{Kind}
use Rattle.lu_service.specs.declared.services.Kind.TheVariants.{Mdt, Ost}
use Rattle.lu_target_refines.specs.Contents.{ShowsNames, ShowsObjects}
use Rattle.lu_target_redo.specs.Shown as redo
use Rattle.lu_target_server.specs.Servers.{ServerState, Shows, Stands, Makes}
use Rattle.lu_target_server.specs.Answering.{Tells, TellsSizes}

-- ---- what entries give

lines_more : (at : At) (es fs : List Entry) → step_lines at (es ++ fs) ≡ step_lines at es ++ step_lines at fs
lines_more at [] fs = refl
lines_more at (e ∷ es) fs = by (printed_entry 0 e) (lines_more at es fs) where
  by : (o : Option PrintedEntry) → step_lines at (es ++ fs) ≡ step_lines at es ++ step_lines at fs
      → line_of at o (step_lines at (es ++ fs)) ≡ line_of at o (step_lines at es) ++ step_lines at fs
  by None rest = rest
  by (Some x) rest = ap (λ (lines : List PrintedLine). record { at = at; entry = x } ∷ lines) rest

posts_more : (es fs : List Entry) → step_posts (es ++ fs) ≡ step_posts es ++ step_posts fs
posts_more [] fs = refl
posts_more (Send to m ∷ es) fs = ap (λ (posts : List Post). record { to = to; message = m } ∷ posts) (posts_more es fs)
posts_more (e ∷ es) fs = posts_more es fs

pub nothing_more : {A : Type 0} (xs : List A) → xs ++ [] ≡ xs
nothing_more [] = refl
nothing_more (x ∷ xs) = ap (λ ys. x ∷ ys) (nothing_more xs)

-- what is given after what was given before
pub giving_more : (making : Making) (es fs : List Entry) → giving (giving making es) fs ≡ giving making (es ++ fs)
giving_more making es fs =
    let lines : (making.step.entries ++ step_lines making.at es) ++ step_lines making.at fs ≡ making.step.entries
    ++ step_lines making.at (es ++ fs) =
    append_assoc making.step.entries (step_lines making.at es) (step_lines making.at fs)
    ∙ ap (λ (xs : List PrintedLine). making.step.entries ++ xs) (sym (lines_more making.at es fs)) in
    let posts : (making.step.sends ++ step_posts es) ++ step_posts fs ≡ making.step.sends ++ step_posts (es ++ fs) =
    append_assoc making.step.sends (step_posts es) (step_posts fs)
    ∙ ap (λ (xs : List Post). making.step.sends ++ xs) (sym (posts_more es fs)) in
    let first : giving (giving making es) fs ≡ record {
      at = making.at;
      step =
          record {
            sends = making.step.sends ++ step_posts (es ++ fs);
            entries = (making.step.entries ++ step_lines making.at es)
                ++ step_lines making.at fs;
          };
    } =
    ap (λ (xs : List Post). record {
      at = making.at;
      step = record
          { sends = xs; entries = (making.step.entries ++ step_lines making.at es) ++ step_lines making.at fs };
    }) posts in
    first ∙ ap (λ (xs : List PrintedLine). record {
      at = making.at;
      step =
          record { sends = making.step.sends ++ step_posts (es ++ fs); entries = xs };
    }) lines

-- no entries give nothing
pub giving_none : (making : Making) → giving making [] ≡ making
giving_none making =
    ap (λ (xs : List Post). record { at = making.at; step = record { sends = xs; entries = making.step.entries ++ [] } })
    (nothing_more making.step.sends)
    ∙ ap (λ (xs : List PrintedLine). record { at = making.at; step = record { sends = making.step.sends; entries = xs } })
    (nothing_more making.step.entries)

-- entries that print and send nothing, as marks
pub giving_mark : (making : Making) (e : Entry) → step_of making.at (e ∷ []) ≡ step_of making.at [] → giving making (e ∷ []) ≡ making
giving_mark making e quiet = ap (λ (s : Step). record { at = making.at; step = then_step making.step s }) quiet ∙ giving_none making

-- a line that was noted is that of an entry which sends nothing
pub noted :
    (old new : Making) (line : PrintedEntry) (e : Entry) → printed_entry 0 e ≡ Some line → step_posts (e ∷ []) ≡ []
    → new.step ≡ with_line old.at old.step line → new.at ≡ old.at → new ≡ giving old (e ∷ [])
noted old new line e prints sends step at =
    ap (λ (a : At). record { at = a; step = new.step }) at
    ∙ ap (λ (s : Step). record { at = old.at; step = s }) step
    ∙ sym (ap (λ (o : Option PrintedEntry). record {
      at = old.at;
      step =
          record { sends = old.step.sends ++ step_posts (e ∷ []); entries = old.step.entries ++ line_of old.at o [] };
    }) prints
    ∙ ap (λ (xs : List Post). record {
      at = old.at;
      step = record
          { sends = old.step.sends ++ xs; entries = old.step.entries ++ record { at = old.at; entry = line } ∷ [] };
    }) sends
    ∙ ap (λ (xs : List Post). record {
      at = old.at;
      step = record
          { sends = xs; entries = old.step.entries ++ record { at = old.at; entry = line } ∷ [] };
    }) (nothing_more old.step.sends))

-- ---- the state after entries

pub turn_more : (v : Target) (es fs : List Entry) → turn v (es ++ fs) ≡ turn (turn v es) fs
turn_more v [] fs = refl
turn_more v (e ∷ es) fs = turn_more (after v e) es fs

-- ---- rows

pub stands_then : (row : Target → List Entry) (old new : ServerState) (before after : Making) → Makes row old new before after → Stands old
    → Stands new
stands_then row old new before after makes stands = (turn stands.0 (row stands.0), makes.shows stands.0 stands.1)

-- nothing was done
pub makes_nothing : (s : ServerState) (making : Making) → Makes (λ v. []) s s making making
makes_nothing s making = record { gives = λ v shows. sym (giving_none making); shows = λ v shows. shows }

-- one row after another
pub makes_then :
    (first next : Target → List Entry) (old middle new : ServerState) (before between after : Making)
    → Makes first old middle before between → Makes next middle new between after
    → Makes (λ v. follow v (first v) next) old new before after
makes_then first next old middle new before between after one two =
    record {
      gives = λ v shows.
          two.gives (turn v (first v)) (one.shows v shows)
          ∙ ap (λ (making : Making). giving making (next (turn v (first v)))) (one.gives v shows)
          ∙ giving_more before (first v) (next (turn v (first v)));
      shows = λ v shows.
          subst (λ (w : Target). Shows new w) (sym (turn_more v (first v) (next (turn v (first v)))))
          (two.shows (turn v (first v)) (one.shows v shows));
    }

-- the same row, told otherwise
pub makes_as :
    (row other : Target → List Entry) (old new : ServerState) (before after : Making)
    → ((v : Target) → Shows old v → row v ≡ other v) → Makes row old new before after → Makes other old new before after
makes_as row other old new before after same makes =
    record {
      gives = λ v shows. makes.gives v shows ∙ ap (giving before) (same v shows);
      shows = λ v shows. subst (λ (es : List Entry). Shows new (turn v es)) (same v shows) (makes.shows v shows);
    }

-- it is one turn still
pub same_turn : (row : Target → List Entry) (old new : ServerState) (before after : Making) → Makes row old new before after → Stands old
    → after.at ≡ before.at
same_turn row old new before after makes stands = ap (λ (making : Making). making.at) (makes.gives stands.0 stands.1)

-- ---- parts of what a server shows

pub tells : (s : ServerState) (v : Target) → Shows s v → Tells s v
tells s v shows = record { boot = shows.boot; store = shows.store }

-- at a target of names
pub names_shown : (s : ServerState) (v : Target) → s.kind ≡ Mdt → Shows s v → ShowsNames v.setting.osts (v.number + 1) s.contents v.contents
names_shown s v is shows = subst (λ (kind : Kind). redo.Shows kind v.setting.osts v.number s.contents v.contents) is shows.contents

-- at a target of objects
pub objects_shown : (s : ServerState) (v : Target) → s.kind ≡ Ost → Shows s v → (s.contents.last ≤ v.number)
    × ShowsObjects s.contents v.contents
objects_shown s v is shows = subst (λ (kind : Kind). redo.Shows kind v.setting.osts v.number s.contents v.contents) is shows.contents

pub tells_sizes : (s : ServerState) (v : Target) → s.kind ≡ Ost → Shows s v → TellsSizes s v
tells_sizes s v is shows = record { tells = tells s v shows; objects = (objects_shown s v is shows).1 }

-- ---- an answer that has two clauses

pub on_ok_two : {T F : Type 0} (P Q R : Type 0) → (P → Q → R) → (r : Result T F) → OnOk r P → OnOk r Q → OnOk r R
on_ok_two P Q R f (Ok x) p q = f p q
on_ok_two P Q R f (Err e) p q = tt
