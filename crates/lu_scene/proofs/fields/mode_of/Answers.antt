use Rattle.std.proofs.Common.{◌≡◌, ℕ, List, rules, Some, sym, ap, ◌∙◌, subst}
use Rattle.std.specs.Str.Parse.{ParsesUnsigned}
use Rattle.lu_scene.proofs.Options.{ok_value}
use Rattle.lu_scene.proofs.Modes.{mode_of-other, mode_of-octal, octal_utf8, octal_parses}
use Rattle.lu_scene.proofs.fields.mode_of.Goals as goal

pub returns-then-not-is_octal : goal.returns-then-not-is_octal
returns-then-not-is_octal c = record { mode = sym (mode_of-other c.args.text.now (sym c.is_octal.ensures.octal ∙ c.if-not-is_octal.true)) }

pub returns-in_default : goal.returns-in_default
returns-in_default c = absurd (c.in_default.ensures.cases.0 (octal_utf8 c.args.text.now
    (sym c.is_octal.ensures.octal ∙ c.if-not-is_octal.false)))

pub returns-in-Ok-from_str_radix : goal.returns-in-Ok-from_str_radix
returns-in-Ok-from_str_radix c =
    let same : c.in-Ok.digits.now ≡ c.args.text.now = search rules in
    let test = sym c.is_octal.ensures.octal ∙ c.if-not-is_octal.false in
    let parses = subst (λ (t : List ℕ). ParsesUnsigned 16 8 t c.from_str_radix.result) same c.from_str_radix.ensures.value in
    let is = octal_parses c.args.text.now c.from_str_radix.result test parses in
    record {
      mode = ap (λ (n : ℕ). Some n) (ok_value c.in-Ok-from_str_radix.mode _ (sym c.in-Ok-from_str_radix.is ∙ is))
          ∙ sym (mode_of-octal c.args.text.now test);
    }

pub returns-in-Err : goal.returns-in-Err
returns-in-Err c =
    let same : c.in-Ok.digits.now ≡ c.args.text.now = search rules in
    let test = sym c.is_octal.ensures.octal ∙ c.if-not-is_octal.false in
    let parses = subst (λ (t : List ℕ). ParsesUnsigned 16 8 t c.from_str_radix.result) same c.from_str_radix.ensures.value in
    let is = octal_parses c.args.text.now c.from_str_radix.result test parses in
    absurd (cc (is, c.in-Err.is))
