-- Nothing is carried without a layout, a sending and a stripe; else it is looked up.
use Rattle.std.proofs.Common.{◌≡◌, ℕ, ◌<◌, true, false, Bool, refl, sym, ap, subst, ◌∙◌}
use Rattle.std.specs.Prelude.{IsTrue, ◌↔◌, Some}
use Rattle.std.specs.Option.{option_map}
use Rattle.lu_spec_laws.specs.Laws.History.{PieceOn}
use Rattle.lu_judge_history.proofs.Carrying.{op_within, unsent, looked_up}
use Rattle.lu_judge_history.proofs.carried.Carried.carries_piece.Goals as goal

differ : true ≡ false → ⊥
differ e = cc

pub returns-then-not-is_piece_within : goal.returns-then-not-is_piece_within
returns-then-not-is_piece_within c = λ past limited shown is.
    absurd (differ (sym (c.is_piece_within.ensures.1 (op_within c.args.self.now past shown limited c.args.target c.args.who c.args.xid.0
    c.args.op.now is)) ∙ c.if-not-is_piece_within.true))

pub returns-in_default-first : goal.returns-in_default-first
returns-in_default-first c = λ past limited shown is.
    unsent c.args.self.now past shown limited c.args.target c.args.who c.args.xid.0 c.args.op.now c.args.resource
    (sym c.first.ensures.first ∙ c.in_default-first.is)

pub returns : goal.returns
returns c = λ past limited shown is.
    subst (λ (b : Bool). IsTrue b ↔ PieceOn past c.args.target c.args.who c.args.xid.0 c.args.op.now (Some c.args.resource))
    (sym c.comes_from.ensures)
    (looked_up c.args.self.now past shown limited c.args.target c.args.who c.args.xid.0 c.args.op.now c.args.resource
    (record {
      who = c.args.who;
      fid = c.args.resource.fid;
      layout = c.in-Some.layout;
      stripe = c.args.resource.stripe;
      limit =
          c.in-Some-first.limit;
    }) refl refl refl
    (sym c.get.ensures.layout ∙ ap (option_map (λ l. l.now)) c.in-Some.is)
    (sym c.first.ensures.first ∙ c.in-Some-first.is)
    (subst (λ (n : ℕ). c.args.resource.stripe < n) c.count.ensures.value c.if-resource-count.false)
    c.requires.changed)
