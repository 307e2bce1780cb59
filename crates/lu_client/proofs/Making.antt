-- How the parts of a client's turn are put together: none, one row after another, a row said otherwise, a line, and rows that a
-- loop does.
use Rattle.std.proofs.Common.{◌≡◌, List, [], ◌∷◌, Some, None, Result, Ok, Err, OnOk, refl, sym, ap, ◌∙◌}
use Rattle.lu_trace.specs.declared.entries.Entry.{Entry as PrintedEntry}
use Rattle.lu_trace.specs.Turns.{Making, with_line}
use Rattle.lu_spec_entries.specs.Given.{step_posts, giving}
use Rattle.lu_spec_entries.specs.Printed.{printed_entry}
use Rattle.lu_spec_entries.specs.Words.{Entry}
use Rattle.lu_spec_client.specs.States.{Client, turn, follow}
use Rattle.lu_client_refines.proofs.Follow as part
use Rattle.lu_client.specs.Clients.{ClientState, Makes, Remains}

-- ---- steps

-- nothing was done
pub makes_nothing : (c : ClientState) (m : Making) → Makes (λ k. []) c c m m
makes_nothing c m = record { goes = part.goes_nothing c.client m; limits = refl; spent = refl }

-- one row after another
pub makes_then : {one two : Client → List Entry} {old middle new : ClientState} {before between after : Making}
    → Makes one old middle before between → Makes two middle new between after → Makes (λ k. follow (one k) two k) old new before after
makes_then {one = one} {two = two} {old = old} {middle = middle} {new = new} {before = before} {between = between} {after = after} first
    next =
    record {
      goes = part.goes_then one two old.client middle.client new.client before between after first.goes next.goes;
      limits = next.limits ∙ first.limits;
      spent = next.spent ∙ first.spent;
    }

-- a row that is equal at the old client
pub makes_as : {row other : Client → List Entry} {old new : ClientState} {before after : Making} → row old.client ≡ other old.client
    → Makes row old new before after → Makes other old new before after
makes_as {row = row} {other = other} {old = old} {new = new} {before = before} {after = after} same makes =
    record { goes = part.goes_as row other old.client new.client before after same makes.goes; limits = makes.limits; spent = makes.spent }

-- an entry, and then others
pub makes_on : {e : Entry} {es : List Entry} {old middle new : ClientState} {before between after : Making}
    → Makes (λ k. e ∷ []) old middle before between → Makes (λ k. es) middle new between after → Makes (λ k. e ∷ es) old new before after
makes_on {e = e} {es = es} {old = old} {middle = middle} {new = new} {before = before} {between = between} {after = after} first next =
    record {
      goes = part.goes_on e es old.client middle.client new.client before between after first.goes next.goes;
      limits = next.limits ∙ first.limits;
      spent = next.spent ∙ first.spent;
    }

-- a line was noted, and the client is as its entry leaves it
pub makes_note : {old new : ClientState} {before after : Making} {line : PrintedEntry} (e : Entry) → printed_entry 0 e ≡ Some line
    → step_posts (e ∷ []) ≡ [] → after.step ≡ with_line before.at before.step line → after.at ≡ before.at → new.client
    ≡ turn old.client (e ∷ []) → new.limits ≡ old.limits → new.spent ≡ old.spent → Makes (λ k. e ∷ []) old new before after
makes_note {old = old} {new = new} {before = before} {after = after} {line = line} e prints sends step at shows limits spent =
    record { goes = part.goes_note old.client new.client before after line e prints sends step at shows; limits = limits; spent = spent }

-- the client changed, and nothing was given
pub makes_mark : {old new : ClientState} {m : Making} (e : Entry) → printed_entry 0 e ≡ None → step_posts (e ∷ []) ≡ [] → new.client
    ≡ turn old.client (e ∷ []) → new.limits ≡ old.limits → new.spent ≡ old.spent → Makes (λ k. e ∷ []) old new m m
makes_mark {old = old} {new = new} {m = m} e prints sends shows limits spent =
    record { goes = part.goes_mark old.client new.client m e prints sends shows; limits = limits; spent = spent }

-- it is one turn still
pub makes_at : {row : Client → List Entry} {old new : ClientState} {before after : Making} → Makes row old new before after → after.at
    ≡ before.at
makes_at {row = row} {old = old} {new = new} {before = before} {after = after} makes =
    part.same_turn row old.client new.client before after makes.goes

-- ---- rows that a loop does step by step

-- at the start all of it is left
pub remains_first : (row : Client → List Entry) (c : ClientState) (m : Making) → Remains row row c c m m
remains_first row c m = record { leads = part.leads_first row c.client m; limits = refl; spent = refl }

-- a step was made, and then another rest is left
pub remains_step : {whole left step rest : Client → List Entry} {first now next : ClientState} {before making after : Making}
    → left now.client ≡ follow (step now.client) rest now.client → Remains whole left first now before making
    → Makes step now next making after → Remains whole rest first next before after
remains_step {whole = whole} {left = left} {step = step} {rest = rest} {first = first} {now = now} {next = next} {before = before}
    {making = making} {after = after} is remains makes =
    record {
      leads = part.leads_step whole left step rest first.client now.client next.client before making after is remains.leads makes.goes;
      limits = makes.limits ∙ remains.limits;
      spent = makes.spent ∙ remains.spent;
    }

-- what is left, said otherwise
pub remains_as : {whole left other : Client → List Entry} {first now : ClientState} {before making : Making} → other now.client
    ≡ left now.client → Remains whole left first now before making → Remains whole other first now before making
remains_as {whole = whole} {left = left} {other = other} {first = first} {now = now} {before = before} {making = making} same remains =
    record {
      leads = record {
        gives = ap (giving making) same ∙ remains.leads.gives;
        shows = ap (turn now.client) same ∙ remains.leads.shows;
      };
      limits = remains.limits;
      spent = remains.spent;
    }

-- nothing is left at the end
pub remains_end : {whole left : Client → List Entry} {first last : ClientState} {before making : Making} → left last.client ≡ []
    → Remains whole left first last before making → Makes whole first last before making
remains_end {whole = whole} {left = left} {first = first} {last = last} {before = before} {making = making} none remains =
    record {
      goes = part.leads_end whole left first.client last.client before making none remains.leads;
      limits = remains.limits;
      spent =
          remains.spent;
    }

-- or all that is left was done
pub remains_all : {whole left : Client → List Entry} {first now last : ClientState} {before making after : Making}
    → Remains whole left first now before making → Makes left now last making after → Makes whole first last before after
remains_all {whole = whole} {left = left} {first = first} {now = now} {last = last} {before = before} {making = making} {after = after}
    remains makes =
    record {
      goes = part.leads_all whole left first.client now.client last.client before making after remains.leads makes.goes;
      limits = makes.limits ∙ remains.limits;
      spent = makes.spent ∙ remains.spent;
    }

-- it is one turn still
pub remains_at : {whole left : Client → List Entry} {first now : ClientState} {before making : Making}
    → Remains whole left first now before making → making.at ≡ before.at
remains_at remains = ap (λ (m : Making). m.at) remains.leads.gives

-- ---- rows that end early

-- one whose last part is nothing after the first
pub makes_end : {one : Client → List Entry} (next : Client → List Entry) {old new : ClientState} {before after : Making} → next new.client
    ≡ [] → Makes one old new before after → Makes (λ k. follow (one k) next k) old new before after
makes_end {one = one} next {old = old} {new = new} {before = before} {after = after} none makes =
    record {
      goes = part.goes_end one next old.client new.client before after (ap next (sym makes.goes.shows) ∙ none) makes.goes;
      limits = makes.limits;
      spent = makes.spent;
    }

-- ---- answers

-- what two clauses say of an answer
pub on_ok_two : {T E P Q R : Type 0} (r : Result T E) → (P → Q → R) → OnOk r P → OnOk r Q → OnOk r R
on_ok_two (Ok x) both p q = both p q
on_ok_two (Err e) both p q = tt
