-- One lock more, whose life is noted; and that locks wait there is noted too.
use Rattle.std.proofs.Common.{◌≡◌, true, [], ◌∷◌, subst}
use Rattle.lu_queue.specs.declared.locks.Grant.{Grant}
use Rattle.lu_queue.specs.Queues.{has_of}
use Rattle.lu_lockspace.specs.Entries.{at}
use Rattle.lu_lockspace.specs.Notes.{AreNoted}
use Rattle.lu_lockspace.proofs.Notes.{noted_changed, noted_more, noted_life, lives_with}
use Rattle.lu_lockspace.proofs.noted.Noted.enqueue.Goals as goal

pub invariant_of-self-in-Ok : goal.invariant_of-self-in-Ok
invariant_of-self-in-Ok c =
    let r = c.args.resource in
    let es = c.self.inside.queues in
    let stays = c.note_stay.new.stays.keys in
    let waited = c.note_waits.new.waited.keys in
    let lock : Grant = record { cookie = c.args.cookie; ask = c.args.ask } in
    let more : AreNoted es stays waited = noted_more es c.self.inside.stays.keys stays c.self.inside.waited.keys waited c.self.invariant
    c.note_stay.ensures.others c.note_waits.ensures.others in
    noted_changed r es c.enqueue.new.self stays waited more c.enqueue.ensures.rising c.enqueue.ensures.others
    (λ who h. noted_life who c.args.ask.who r stays (has_of (who ∷ []) (at r es)) c.in_ok-note_stay.ensures.noted (more.lives who r)
    (lives_with who lock (at r es) (subst (λ q. has_of (who ∷ []) q ≡ true) c.in-Ok.ensures.added h)))
    (λ h. c.in_ok-note_waits.ensures.noted)
