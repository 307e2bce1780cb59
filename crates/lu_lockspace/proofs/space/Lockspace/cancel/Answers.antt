-- The lock is there where its cookie has a place.
use Rattle.std.proofs.Common.{◌≡◌, true, false, Some, None, rules}
use Rattle.lu_lockspace.specs.Spaces.{is_in}
use Rattle.lu_lockspace.proofs.Places.{in_at}
use Rattle.lu_lockspace.proofs.Laws.{cancelled_one}
use Rattle.lu_lockspace.proofs.space.Lockspace.cancel.Goals as goal

pub returns-in_default-clause-no_lock : goal.returns-in_default-clause-no_lock
returns-in_default-clause-no_lock c =
    let none : is_in c.args.cookie.0 c.args.self.now ≡ false = in_at c.args.cookie.0 c.args.self.now None c.in_default.ensures.placed in
    search rules

pub take_away-requires : goal.take_away-requires
take_away-requires c = c.in-Some.ensures.placed

pub returns-in_err-grants-clause-no_lock : goal.returns-in_err-grants-clause-no_lock
returns-in_err-grants-clause-no_lock c =
    let there : is_in c.args.cookie.0 c.args.self.now ≡ true = in_at c.args.cookie.0 c.args.self.now (Some c.in-Some.resource)
    c.in-Some.ensures.placed in
    search rules

pub returns-clause-no_lock : goal.returns-clause-no_lock
returns-clause-no_lock c =
    let there : is_in c.args.cookie.0 c.args.self.now ≡ true = in_at c.args.cookie.0 c.args.self.now (Some c.in-Some.resource)
    c.in-Some.ensures.placed in
    search rules

pub returns-clause-granted : goal.returns-clause-granted
returns-clause-granted c =
    cancelled_one c.args.cookie.0 c.in-Some.resource c.args.self.now c.in_ok-grants.grants c.take_away.new.self c.in-Some.ensures.placed
    c.in_ok-grants.ensures.granted c.in_ok-grants.ensures.others
