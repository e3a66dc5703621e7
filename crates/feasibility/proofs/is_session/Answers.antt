-- `is_session` meets its contract: the three tests say what they mean.
use mathlib.Core.Path.{sym, ◌∙◌}
use Rattle.feasibility.specs.declared.Candidate.{Candidate}
use Rattle.feasibility.proofs.Right.{first_fails, second_fails, third_says}
use Rattle.feasibility.proofs.Meaning.{session_same}
use Rattle.feasibility.proofs.is_session.Goals as goal
use Rattle.feasibility.proofs.is_session.Goals.{Start, then-marks_right, else-marks_right}

abbrev tested : Start → Candidate
tested c = record { tables = c.args.tables; variant = c.args.x; starts = c.args.starts }

pub returns-then-order_kept : goal.returns-then-order_kept
returns-then-order_kept c w held =
    elim c.if-marks_right.branch [
      | then-marks_right v ↦
          third_says _ _ _ (sym c.marks_right.ensures ∙ v.if-marks_right.true)
          (sym v.order_kept.ensures ∙ sym v.value-is ∙ c.if-order_kept.true) c.within_all.ensures
          ∙ session_same (tested (goal.at.returns-then-order_kept c).Start) c.requires w held
      | else-marks_right v ↦ absurd (cc)
    ]

pub returns-else-order_kept : goal.returns-else-order_kept
returns-else-order_kept c w held =
    elim c.if-marks_right.branch [
      | then-marks_right v ↦
          second_fails _ _ _ (sym c.marks_right.ensures ∙ v.if-marks_right.true)
          (sym v.order_kept.ensures ∙ sym v.value-is ∙ c.if-order_kept.false) c.if-order_kept.false
      | else-marks_right v ↦
          first_fails _ _ _ (sym c.marks_right.ensures ∙ v.if-marks_right.false) c.if-order_kept.false
    ]
    ∙ session_same (tested (goal.at.returns-else-order_kept c).Start) c.requires w held
