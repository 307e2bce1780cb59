-- One lock more is told.
use Rattle.std.proofs.Common.{◌≡◌, ◌+◌, ◌∙◌, refl, sym, ap, subst, drop, get_or, List, [], ◌∷◌, Some}
use Rattle.std.proofs.lemmas.List.{drop_more, drop_all}
use Rattle.lu_base.specs.declared.locks.Lock.{Lock}
use Rattle.lu_trace.specs.declared.entries.Entry.TheVariants as line
use Rattle.lu_trace.specs.Turns.{Making}
use Rattle.lu_spec_entries.specs.Words.{Grant}
use Rattle.lu_spec_target.specs.Names.{grant_lines}
use Rattle.lu_spec_entries.specs.Given.{giving}
use Rattle.lu_target_server.proofs.Composing.{giving_more, giving_none, noted}
use Rattle.lu_target_server.proofs.Executions.{no_lock}
use Rattle.lu_target_server.proofs.names.note_grants.Goals as goal

pub loop-lock-preserved : goal.loop-lock-preserved
loop-lock-preserved c = λ d.
    let all = c.args.locks.now in
    let i = c.loop-lock.lock-index in
    let so_far = c.loop-lock.turn in
    let here : c.as_slice-lock-items.result.now ≡ all = c.as_slice-lock-items.ensures.same in
    let l : Lock = get_or c.as_slice-lock-items.result.now i no_lock in
    let rest = drop (i + 1) all in
    let left : drop i all ≡ l ∷ rest =
    subst (λ (them : List Lock). drop i them ≡ l ∷ drop (i + 1) them) here
    (drop_more c.as_slice-lock-items.result.now i no_lock c.loop-lock-test.true) in
    let told : c.note.new.self ≡ giving so_far (Grant l (Some d) ∷ []) =
    noted so_far c.note.new.self (line.Grant l) (Grant l (Some d)) refl refl c.in_ok-note.ensures.added c.in_ok-note.ensures.turn in
    ap (λ (making : Making). giving making (grant_lines d rest)) told
    ∙ giving_more so_far (Grant l (Some d) ∷ []) (grant_lines d rest)
    ∙ ap (λ (them : List Lock). giving so_far (grant_lines d them)) (sym left)
    ∙ c.loop-lock.invariant d

pub returns : goal.returns
returns c = record {
  noted = λ d.
      let all = c.args.locks.now in
      let here : c.as_slice-lock-items.result.now ≡ all = c.as_slice-lock-items.ensures.same in
      let ended : drop c.loop-lock.lock-index all ≡ [] =
      subst (λ (them : List Lock). drop c.loop-lock.lock-index them ≡ []) here
      (drop_all c.loop-lock.lock-index c.as_slice-lock-items.result.now c.loop-lock-test.false) in
      sym (giving_none c.loop-lock.turn)
      ∙ ap (λ (them : List Lock). giving c.loop-lock.turn (grant_lines d them)) (sym ended)
      ∙ c.loop-lock.invariant d;
}
