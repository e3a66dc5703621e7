-- Every row of the table holds of the definitions: one test, computed over the whole table.
use mathlib.Core.Bool.{beq, Bool, true, ◌&&◌}
use mathlib.Core.List.Memᴰ
use mathlib.Core.List.{List, [], ◌∷◌, ◌++◌, Memᴰ}
use mathlib.Core.Logic.{⊎_elim}
use mathlib.Core.Path.{◌≡◌, refl, sym, subst, ◌∙◌}
use lib.ListN.{length, drop}
use Rattle.base.specs.Below.{every_below, sum_below, max_below}
use Rattle.base.specs.Lists.{every, keep, gather, cells_of}
use Rattle.base.specs.Order.{sorted}
use Rattle.base.proofs.Bools.{and_left, and_right}
use Rattle.plan.specs.Limits.{counts_form}
use Rattle.format.specs.Parse.{parse, plan_lines, a_line, tested, the_lines, the_end, the_capacities}
use Rattle.format.specs.Lines
use Rattle.format.specs.Lines.{matched, digits, is_value, decimal, filled}
use Rattle.format.specs.Text.{text, capacity_lines, act_lines, node_lines}
use Rattle.term.specs.Term.{term_of, forest, place, size, firsts, others, nodes}
use Rattle.term.specs.Variants.{activities, member, some_of, twice, repeats, variants, paired, variant_count}
use Rattle.term.specs.Clash.{clash, share}
use Rattle.term.specs.Model.{count}
use Rattle.judge.specs.Judge.{judge}
use Rattle.read.proofs.Model.{read_by, read_by_lem}
use Rattle.schedule.specs.Schedule.{load, placed, in_order, latest_end, earliest_start, makespan}
use Rattle.variant.specs.Precedence.{precedes}
use Rattle.variant.specs.Project.{project_of}
use Rattle.variant.specs.Timetable.{is_marked}
use Rattle.variant.specs.Written.{written, variant_plan, dissolved, joined}
use Rattle.write.specs.Answer.{write_of}
use lib.Dec.{eqb}
use borrow.Author.Tests.{eqb-true}
use Rattle.std.specs.Prelude.{Ok, Err}
use Rattle.scan.specs.Components.{merged, component_below}
use Rattle.scan.specs.Scan.{ready_tick, held, has_room, combinations_from, move, freeze, delete, attach, begun}
use Rattle.campaigns.specs.Table.{Row, reads, has_variants, writes, checks, lists, spans, finds, stops}
use Rattle.campaigns.specs.Table.{Holds, table, timetable, sevens, lent}
use Rattle.campaigns.proofs.Quick.{quick_fits, next_end, quick_from, quick_fit, shift_by, completed_by, schedules_by}
use Rattle.campaigns.proofs.Searched.{is_first, found, list_model, list_is, best_model, best_is, spans_model}
use Rattle.campaigns.proofs.Searched.{has_model, spans_is}
use Rattle.campaigns.proofs.Checked.{within_at_starts, check_model, check_is}
use Rattle.campaigns.proofs.Variants.{variants_by, variants_are}
use Rattle.campaigns.proofs.Tests.{same_number, number_same, same_list, list_same, same_result, result_same}
use Rattle.campaigns.proofs.Tests.{same_counts, counts_same, bool_same, same_best, best_same, same_outcome, outcome_same}

abbrev test : Row → Bool
test (reads s answer) = same_result same_counts (read_by s) answer
test (has_variants s n) = same_number (variants_by s) n
test (writes s v bytes) =
    same_outcome (same_result eqb) (write_of s v lent)
    (record { answer = Ok (length bytes); area = bytes ++ drop (length bytes) lent })
test (checks s v starts answer) = same_result beq (check_model s v starts) answer
test (lists s cap cells answer rows) =
    same_outcome (same_result eqb) (list_model s cap (sevens cells))
    (record { answer = answer; area = cells_of rows ++ drop (length (cells_of rows)) (sevens cells) })
test (spans s v makespans) = has_model s v && same_list (spans_model s v) makespans
test (finds s cap v span count shortest starts) =
    same_result same_best (best_model s cap)
    (Ok
    (record {
      variant = v;
      makespan = span;
      count = count;
      shortest = shortest;
      timetable = record { starts = timetable starts };
    }))
test (stops s cap r) = same_result same_best (best_model s cap) (Err r)

test_holds : (row : Row) → test row ≡ true → Holds row
test_holds (reads s answer) e = read_by_lem s ∙ result_same same_counts counts_same (read_by s) answer e
test_holds (has_variants s n) e = variants_are s n (number_same (variants_by s) n e)
test_holds (writes s v bytes) e = outcome_same (same_result eqb) (result_same eqb eqb-true) (write_of s v lent) _ e
test_holds (checks s v starts answer) e = check_is s v starts ∙ result_same beq bool_same (check_model s v starts) answer e
test_holds (lists s cap cells answer rows) e =
    list_is s cap (sevens cells) ∙ outcome_same (same_result eqb) (result_same eqb eqb-true) (list_model s cap (sevens cells)) _ e
test_holds (spans s v makespans) e =
    spans_is s v makespans (and_left (has_model s v) _ e)
    (list_same (spans_model s v) makespans (and_right (has_model s v) _ e))
test_holds (finds s cap v span count shortest starts) e = best_is s cap ∙ result_same same_best best_same (best_model s cap) _ e
test_holds (stops s cap r) e = best_is s cap ∙ result_same same_best best_same (best_model s cap) _ e

all_pass : every test table ≡ true
unfolding table read_by variants_by parse plan_lines a_line tested the_lines the_end the_capacities counts_form matched
    digits is_value decimal term_of forest place size firsts others activities member some_of count clash share write_of
    check_model judge twice repeats variants paired variant_count written variant_plan dissolved joined text capacity_lines
    act_lines node_lines filled Lines.numeral nodes is_marked placed in_order within_at_starts load latest_end earliest_start
    makespan every_below sum_below max_below project_of precedes list_model spans_model has_model best_model found sorted keep
    cells_of gather is_first merged component_below ready_tick held has_room quick_fits next_end quick_from quick_fit
    combinations_from move freeze shift_by delete attach begun completed_by schedules_by
all_pass = refl

every_of : (xs : List Row) → every test xs ≡ true → (row : Row) → Memᴰ row xs → test row ≡ true
every_of [] e row m = absurd (Memᴰ.not-nil m)
every_of (x ∷ xs) e row m =
    ⊎_elim
    (λ same. subst (λ (r : Row). test r ≡ true) (sym same) (and_left (test x) (every test xs) e))
    (λ later. every_of xs (and_right (test x) (every test xs) e) row later)
    (Memᴰ.cases_cons m)

pub campaigns : (row : Row) → Memᴰ row table → Holds row
campaigns row m = test_holds row (every_of table all_pass row m)
