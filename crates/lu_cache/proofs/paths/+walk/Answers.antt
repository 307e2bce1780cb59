-- A name is known, and the walk goes on from what it leads to; or it stops there.
use Rattle.std.proofs.Common.{◌≡◌, ◌∷◌, ◌++◌, [], List, Some, None, ap, sym, ◌∙◌}
use Rattle.lu_base.specs.declared.ids.Cookie.{Cookie}
use Rattle.lu_part.specs.declared.parts.Part.TheVariants as part
use Rattle.lu_msg.specs.declared.answers.Answer.{Answer}
use Rattle.lu_msg.specs.declared.answers.Answer.TheVariants as answer
use Rattle.lu_spec_client.specs.Known.{Notes, Found, walked, fact_on, nothing_found, with_cookie}
use Rattle.lu_cache.specs.declared.topics.Topic.{Topic}
use Rattle.lu_cache.specs.Topics.{part_of, row_fact}
use Rattle.lu_cache.specs.Usable.{AreSeen}
use Rattle.lu_cache.specs.Logs.{facts_of}
use Rattle.lu_cache.proofs.Seeing.{if_ok, if_on}
use Rattle.lu_cache.proofs.Walks.{walk_stops, walk_goes, snoc_append, append_nothing}
use Rattle.lu_cache.proofs.paths.+walk.Goals as goal

pub returns-in_default-find-clause-walked : goal.returns-in_default-find-clause-walked
returns-in_default-find-clause-walked g bound c = λ n seen.
    let name = c.in-Some.name.now in
    let rest = c.in-Some.names.now in
    let d = c.in-Dir.directory in
    let none : fact_on (part.Name d name) n ≡ None = ap (λ (t : Topic). fact_on (part_of t) n) (sym c.in_ok-topic.ensures.name)
    ∙ sym (c.in_default-find.ensures.found n seen) in
    let stop : walked n c.args.names.now c.args.inode ≡ nothing_found = ap (λ xs. walked n xs c.args.inode) c.in-Some.ensures.cases.0
    ∙ ap (walked n (name ∷ rest)) c.in-Dir.is ∙ walk_stops n name rest d none in
    ap (λ (f : Found). f.inode) (sym stop)

pub returns-in_default-find-clause-cookies : goal.returns-in_default-find-clause-cookies
returns-in_default-find-clause-cookies g bound c = λ n seen.
    let name = c.in-Some.name.now in
    let rest = c.in-Some.names.now in
    let d = c.in-Dir.directory in
    let none : fact_on (part.Name d name) n ≡ None = ap (λ (t : Topic). fact_on (part_of t) n) (sym c.in_ok-topic.ensures.name)
    ∙ sym (c.in_default-find.ensures.found n seen) in
    let stop : walked n c.args.names.now c.args.inode ≡ nothing_found = ap (λ xs. walked n xs c.args.inode) c.in-Some.ensures.cases.0
    ∙ ap (walked n (name ∷ rest)) c.in-Dir.is ∙ walk_stops n name rest d none in
    append_nothing c.args.cookies.now ∙ ap (λ (f : Found). c.args.cookies.now ++ f.cookies) (sym stop)

pub returns-clause-walked : goal.returns-clause-walked
returns-clause-walked g bound c = if_ok c.walk.result (λ x h n seen.
    let name = c.in-Some.name.now in
    let rest = c.in-Some.names.now in
    let d = c.in-Dir.directory in
    let fact = c.in-Some-find.fact.now in
    let some : fact_on (part.Name d name) n ≡ Some (row_fact fact) =
    ap (λ (t : Topic). fact_on (part_of t) n) (sym c.in_ok-topic.ensures.name) ∙ sym (c.in-Some-find.ensures.found n seen) in
    let goes : walked n c.args.names.now c.args.inode ≡ with_cookie fact.cookie (walked n rest fact.answer) =
    ap (λ xs. walked n xs c.args.inode) c.in-Some.ensures.cases.0 ∙ ap (walked n (name ∷ rest)) c.in-Dir.is
    ∙ walk_goes n name rest d (row_fact fact) some in
    h n seen ∙ ap (λ (a : Answer). (walked n rest a).inode) c.in_ok-copy.ensures.same ∙ ap (λ (f : Found). f.inode) (sym goes))
    c.walk.ensures.walked

pub returns-clause-cookies : goal.returns-clause-cookies
returns-clause-cookies g bound c = if_on c.walk.result (λ h n seen.
    let name = c.in-Some.name.now in
    let rest = c.in-Some.names.now in
    let d = c.in-Dir.directory in
    let fact = c.in-Some-find.fact.now in
    let some : fact_on (part.Name d name) n ≡ Some (row_fact fact) =
    ap (λ (t : Topic). fact_on (part_of t) n) (sym c.in_ok-topic.ensures.name) ∙ sym (c.in-Some-find.ensures.found n seen) in
    let goes : walked n c.args.names.now c.args.inode ≡ with_cookie fact.cookie (walked n rest fact.answer) =
    ap (λ xs. walked n xs c.args.inode) c.in-Some.ensures.cases.0 ∙ ap (walked n (name ∷ rest)) c.in-Dir.is
    ∙ walk_goes n name rest d (row_fact fact) some in
    let before = c.args.cookies.now in
    h n seen
    ∙ ap (λ (xs : List Cookie). xs ++ (walked n rest c.in_ok-copy.field-0).cookies) c.in_ok-push.ensures.added
    ∙ snoc_append before fact.cookie (walked n rest c.in_ok-copy.field-0).cookies
    ∙ ap (λ (a : Answer). before ++ fact.cookie ∷ (walked n rest a).cookies) c.in_ok-copy.ensures.same
    ∙ ap (λ (f : Found). before ++ f.cookies) (sym goes)) c.walk.ensures.cookies
