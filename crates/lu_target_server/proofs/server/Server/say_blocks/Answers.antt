-- One lock more is called back.
use Rattle.std.proofs.Common.{◌≡◌, ◌+◌, ◌∙◌, refl, sym, ap, subst, drop, get_or, List, [], ◌∷◌}
use Rattle.std.proofs.lemmas.List.{drop_more, drop_all}
use Rattle.lu_base.specs.declared.locks.Lock.{Lock}
use Rattle.lu_msg.specs.declared.messages.Message.TheVariants as message
use Rattle.lu_trace.specs.declared.entries.Entry.TheVariants as line
use Rattle.lu_trace.specs.Turns.{Making}
use Rattle.lu_spec_entries.specs.Words.{Block}
use Rattle.lu_spec_target.specs.Replies.{called, block_of, to_life}
use Rattle.lu_target_locks.specs.Servers.{blocks_told}
use Rattle.lu_spec_entries.specs.Given.{giving}
use Rattle.lu_target_server.specs.Servers.{ServerState}
use Rattle.lu_target_server.proofs.Composing.{giving_more, giving_none, noted}
use Rattle.lu_target_server.proofs.Executions.{no_lock}
use Rattle.lu_target_server.proofs.server.Server.say_blocks.Goals as goal

pub loop-lock-preserved : goal.loop-lock-preserved
loop-lock-preserved g c = λ v boot.
    let all = c.as_slice-lock-items.result.now in
    let i = c.loop-lock.lock-index in
    let so_far = c.loop-lock.turn in
    let l : Lock = get_or all i no_lock in
    let rest = drop (i + 1) all in
    let own : c.self.inside.boot ≡ v.boot = ap (λ (s : ServerState). s.boot) c.self.view_is ∙ sym boot in
    let told : c.note.new.self ≡ giving so_far (Block (called v l) ∷ []) =
    noted so_far c.note.new.self (line.Block l.cookie) (Block (called v l)) refl refl c.in_ok-note.ensures.added c.in_ok-note.ensures.turn
    in
    let said : c.say_block.new.turn ≡ giving c.note.new.self (block_of v l ∷ []) =
    subst (λ n. c.say_block.new.turn ≡ giving c.note.new.self (to_life l.ask.who (message.Block l.ask.who n l.cookie) ∷ [])) own
    c.in_ok-say_block.ensures.said in
    ap (λ (making : Making). giving making (blocks_told v rest)) said
    ∙ giving_more c.note.new.self (block_of v l ∷ []) (blocks_told v rest)
    ∙ ap (λ (making : Making). giving making (block_of v l ∷ blocks_told v rest)) told
    ∙ giving_more so_far (Block (called v l) ∷ []) (block_of v l ∷ blocks_told v rest)
    ∙ ap (λ (them : List Lock). giving so_far (blocks_told v them)) (sym (drop_more all i no_lock c.loop-lock-test.true))
    ∙ c.loop-lock.invariant v boot

pub returns : goal.returns
returns g c = record {
  told = λ v boot.
      let all = c.as_slice-lock-items.result.now in
      sym (giving_none c.loop-lock.turn)
      ∙ ap (λ (them : List Lock). giving c.loop-lock.turn (blocks_told v them))
      (sym (drop_all c.loop-lock.lock-index all c.loop-lock-test.false))
      ∙ c.loop-lock.invariant v boot
      ∙ ap (λ (them : List Lock). giving c.args.turn.now (blocks_told v them)) c.as_slice-lock-items.ensures.same;
}
