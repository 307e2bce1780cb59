use Rattle.std.proofs.Common.{rules, ◌≡◌, not, filter, ◌∙◌, ap, sym, List, [], ◌∷◌, Bool, true, false, refl, subst}
use Rattle.std.specs.List.{find}
use Rattle.std.specs.Option.{option_copied}
use Rattle.std.specs.Prelude.{Option, Some, None, if◌then◌else◌, option_map}
use Rattle.std.proofs.lemmas.Iterator.{YieldsList-from_slice}
use Rattle.std.proofs.lemmas.Iterator.Search.{find_from_yields_List}
use Rattle.lu_base.specs.declared.ids.Who.{Who}
use Rattle.lu_base.specs.declared.ids.Xid.{Xid}
use Rattle.lu_msg.specs.declared.messages.Request.{Request}
use Rattle.lu_target_server.specs.Requests.{is_named, request_of}
use Rattle.lu_target_server.proofs.requests.Requests.find.Goals as goal

found : (who : Who) (xid : Xid) (requests : List Request) → find (is_named who xid) requests ≡ request_of who xid requests
found who xid [] = refl
found who xid (r ∷ requests) = by (is_named who xid r) (found who xid requests) where
  by : (here : Bool) → find (is_named who xid) requests ≡ request_of who xid requests
      → (if here then Some r else find (is_named who xid) requests) ≡ (if here then Some r else request_of who xid requests)
  by true rest = refl
  by false rest = rest

pub returns : goal.returns
returns c =
    let is : option_copied c.find.result ≡ find (is_named c.args.who c.args.xid) c.self.inside.items.items =
    find_from_yields_List (is_named c.args.who c.args.xid) _ _ _ c.find.ensures.ran (YieldsList-from_slice _ cc) (λ x b q k. search rules)
    in
    record { request = is ∙ found c.args.who c.args.xid c.self.inside.items.items ∙ ap (request_of c.args.who c.args.xid) c.self.view_is }
