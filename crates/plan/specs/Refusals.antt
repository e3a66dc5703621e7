-- The paper's table "Turned back": the number and the figure of each refusal.
use Rattle.std.specs.Prelude.{ℕ}
use Rattle.plan.specs.declared.Refusal.{Refusal}
use Rattle.plan.specs.declared.Refusal.TheVariants.{Length, Form, Range, GroupOfOne, OverCapacity}
use Rattle.plan.specs.declared.Refusal.TheVariants.{NotOneTerm, Twice, TooManyVariants, NoSuchVariant}
use Rattle.plan.specs.declared.Refusal.TheVariants.{OverCap, AreaTooShort}

abbrev pub number_of : Refusal → ℕ
number_of Length = 1
number_of (Form line) = 2
number_of (Range line) = 3
number_of (GroupOfOne line) = 10
number_of (OverCapacity line) = 11
number_of NotOneTerm = 4
number_of Twice = 5
number_of TooManyVariants = 6
number_of NoSuchVariant = 9
number_of OverCap = 7
number_of (AreaTooShort needed) = 8

abbrev pub figure_of : Refusal → ℕ
figure_of Length = 0
figure_of (Form line) = line
figure_of (Range line) = line
figure_of (GroupOfOne line) = line
figure_of (OverCapacity line) = line
figure_of NotOneTerm = 0
figure_of Twice = 0
figure_of TooManyVariants = 0
figure_of NoSuchVariant = 0
figure_of OverCap = 0
figure_of (AreaTooShort needed) = needed
