-- What is parsed of octal digits is their value.
use Rattle.std.proofs.Common.{◌≡◌, ℕ, List, rules, sym, ◌∙◌, subst}
use Rattle.std.specs.Str.Parse.{ParsesUnsigned}
use Rattle.lu_judge_reader.proofs.Octals.{octal_of-other, octal_utf8, octal_parsed, octal_refused}
use Rattle.lu_judge_reader.proofs.values.octal_of.Goals as goal

pub returns-then-not-is_octal : goal.returns-then-not-is_octal
returns-then-not-is_octal c = record { read = octal_of-other c.args.text.now (sym c.is_octal.ensures.octal ∙ c.if-not-is_octal.true) }

pub returns-in_default : goal.returns-in_default
returns-in_default c = absurd (c.in_default.ensures.cases.0 (octal_utf8 c.args.text.now
    (sym c.is_octal.ensures.octal ∙ c.if-not-is_octal.false)))

pub returns-in-Ok-from_str_radix : goal.returns-in-Ok-from_str_radix
returns-in-Ok-from_str_radix c =
    let same : c.in-Ok.digits.now ≡ c.args.text.now = search rules in
    let test = sym c.is_octal.ensures.octal ∙ c.if-not-is_octal.false in
    let parses = subst (λ (t : List ℕ). ParsesUnsigned 16 8 t c.from_str_radix.result) same c.from_str_radix.ensures.value in
    record { read = octal_parsed c.args.text.now c.from_str_radix.result c.in-Ok-from_str_radix.mode test parses c.in-Ok-from_str_radix.is }

pub returns-in-Err : goal.returns-in-Err
returns-in-Err c =
    let same : c.in-Ok.digits.now ≡ c.args.text.now = search rules in
    let test = sym c.is_octal.ensures.octal ∙ c.if-not-is_octal.false in
    let parses = subst (λ (t : List ℕ). ParsesUnsigned 16 8 t c.from_str_radix.result) same c.from_str_radix.ensures.value in
    record { read = octal_refused c.args.text.now c.from_str_radix.result c.in-Err.field-0 test parses c.in-Err.is }
