use Rattle.std.proofs.Common.{◌≡◌, ◌∙◌, ◌+◌, ap, ℕ, not, length, take, arith, rules, tests}
use Rattle.std.specs.List.{position}
use Rattle.std.specs.Option.{unwrap_or}
use Rattle.std.proofs.lemmas.Iterator.{YieldsList-from_slice}
use Rattle.std.proofs.lemmas.Iterator.Search.{position_from_yields_List}
use Rattle.std.proofs.lemmas.List.{take_min}
use Rattle.plan.specs.Limits.{most_digits}
use Rattle.format.specs.Lines.{is_digit, digits}
use Rattle.line_reader.proofs.Values.{counted}
use Rattle.line_reader.proofs.digit_count.Goals as goal

pub returns : goal.returns
returns c =
    let front = take c.min.result c.args.text.now in
    let whole : front ≡ take (most_digits + 1) c.args.text.now
    =
    ap (λ k. take k c.args.text.now) (omega arith) ∙ take_min (most_digits + 1) c.args.text.now in
    let first : c.position.result ≡ position (λ (b : ℕ). not (is_digit b)) front
    =
    position_from_yields_List (λ (b : ℕ). not (is_digit b)) c.position.new.self _ _ c.position.ensures.ran
    (YieldsList-from_slice front cc)
    (λ x b q k. search (rules, tests)) in
    c.unwrap_or.ensures ∙ ap (λ o. unwrap_or o (length front)) first ∙ counted front
    ∙ ap (λ t. length (digits t)) whole
